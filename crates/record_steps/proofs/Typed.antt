-- The record type that labels find: an instance of its declaration's root has the type of the use, and the demand is carried.
use Rattle.std.proofs.Common.{◌≡◌, ◌≢◌, ◌∙◌, ◌⊎◌, inl, inr, ◌++◌, ℕ, zero, suc, true, false, List, [], Option, Some, None, option_map, refl, sym, ap, subst, append-nil, if◌then◌else◌}
use Rattle.std.specs.Prelude.{slice_get}
use Rattle.std.specs.declared.rc.Rc.{Rc}
use Rattle.std.specs.declared.alloc.Global.{Global}
use Rattle.token_model.specs.Kinds.{Tok}
use Rattle.type_terms.specs.Views.{path_of}
use Rattle.type_model.specs.Schemes.{Scheme}
use Rattle.type_model.specs.Types.{Typ}
use Rattle.type_model.specs.Types.{Typ as type}
use Rattle.signature_model.specs.Declarations as rules
use Rattle.signature_model.specs.Declarations.{type_of, parameters_from}
use Rattle.signature_model.specs.Entries.{Entry as Named}
use Rattle.signature_model.specs.Lookups.{FoundAmong, an_entry, a_hole, nothing}
use Rattle.signature_model.specs.Matching.{all_used}
use Rattle.signature_model.specs.Records.{origin_of, record_of}
use Rattle.typing_model.specs.Contexts.{Context}
use Rattle.typing_model.specs.Parts as parts
use Rattle.typing_model.specs.Names.{entry_of, then_by, label_in}
use Rattle.typing_model.specs.Records.{ask_record, first_token, declaration_found, labels_of}
use Rattle.typing_model.specs.Patterns.{kept_record}
use Rattle.type_nodes.specs.Readings.{Types}
use Rattle.level_unify.specs.Instances.{Instantiated}
use Rattle.env_table.specs.declared.entries.Constructor.{Constructor}
use Rattle.env_table.specs.declared.entries.Declaration.{Declaration}
use Rattle.env_table.specs.declared.entries.Entry.{Entry}
use Rattle.env_table.specs.declared.entries.What.TheVariants as what
use Rattle.typing_conditions.specs.Locals.{IsOwn}
use Rattle.typing_conditions.specs.Standing.{IsIn}
use Rattle.typing_conditions.specs.Assumptions.{SchemeFits}
use Rattle.typing_conditions.proofs.Own.{own_of}
use Rattle.typing_conditions.proofs.Environments.{ComesTo, to_entry, to_hole, to_nothing}
use Rattle.typing_conditions.specs.Declared.{RootAs, DeclaredAs, ExceptionAs, and_last, with_parameters}
use Rattle.typing_conditions.proofs.DeclaredLater.{declared_after}
use Rattle.typing_state.specs.declared.parts.Parts.{Parts}
use Rattle.typing_state.specs.Goes.{OnlyFaults}
use Rattle.typing_conditions.specs.Sights.{Letters, AreNodes}
use Rattle.typing_conditions.specs.Frames.{Frame, Reaches, IsRoot}
use Rattle.typing_conditions.specs.Judging.{AreKept}
use Rattle.typing_conditions.specs.Meanings.{Means}
use Rattle.typing_conditions.specs.Carrying.{Scope, Carried, CarriedTo}
use Rattle.typing_conditions.specs.Hiding.{AreOfRow}
use Rattle.typing_conditions.specs.Surroundings.{HasOwnLabels, Surrounds}
use Rattle.typing_conditions.proofs.Framing.{root_on}
use Rattle.typing_conditions.proofs.Judged.{kept_left}
use Rattle.typing_conditions.proofs.Carried.{carried_trans, carried_as}
use Rattle.typing_steps.specs.States.{is_aloud, sight}
use Rattle.typing_steps.specs.Demands.{is_found_here}
use Rattle.typing_steps.specs.Typing.{as_declared}
use Rattle.typing_steps.specs.Building.{InEach, used_by}
use Rattle.typing_steps.proofs.Seeing.{only_nodes, level_here}
use Rattle.typing_steps.proofs.Taken.{TakenWith, root_taken}
use Rattle.record_steps.specs.Alike.{IsOneWith}
use Rattle.record_steps.specs.Recording.{lost_of, found_here, TellsNone, IsLastPart, TakesRoot, IsPlainlyOwn, StandsFor, IsUseOf, RecordKnown, RecordUnknown}
use Rattle.record_steps.proofs.Declared.{labels_alike, FindsRecord, finds_record, same_record, own_too}
use Rattle.record_steps.proofs.Uses.{IsPartOf, part_used}
use Rattle.record_steps.proofs.Tuples.{last_means, tuple_used, instance_tuple, instance_last, instance_whole}
use Rattle.record_steps.proofs.Demanded.{AsksLabels, labels_held, labels_refused, record_by_verdict, kept_as}

-- a node of the type of a use, with the letters of it
pub record UsedAs (F : Frame) (scope : Scope) (G : Letters) (a b : Parts) (n m : ℕ) (t : Typ) : Type 0 where
  pub own : Letters
  pub of_row : AreOfRow n own
  pub inside : AreNodes own b.store.nodes
  pub typed : CarriedTo F scope (λ c. []) (sight a) G (sight b) (own ++ G) (used_by n t) m

-- An instance of a declaration's root has the type of the declaration as it is used at a node.
module _ (a b : Parts) {F : Frame} {d : Declaration} {e : rules.Declaration} {m : ℕ} {roots : List ℕ} {N : Types} (reached : Reaches F (sight a)) (are_roots : (k r : ℕ) → slice_get roots k ≡ Some r → IsRoot F (sight a) r)
    (alike : DeclaredAs a.store.nodes roots N d e) (takes : TakesRoot d a b m) where
  is_root : IsRoot F (sight a) d.root.0
  is_root = let (i, at) = alike.root.among in are_roots i d.root.0 at

  instance : Instantiated a.store.nodes takes.made.store.nodes d.root.0 F.level takes.node
  instance = subst (λ k. Instantiated a.store.nodes takes.made.store.nodes d.root.0 k takes.node) (level_here a reached) (takes.instance is_root.inside)

  module _ {scope : Scope} {G : Letters} (n : ℕ) where
    taking : TakenWith F scope (sight a) G (sight takes.made) n (with_parameters e.arity (type_of e)) takes.node
    taking = root_taken n reached is_root alike.root (takes.sound is_root.inside) instance (only_nodes a takes.made takes.rest)

    -- of another node that has the type
    used_so : (x : ℕ) → Means F (sight takes.made) (taking.own ++ G) (used_by n (type_of e)) x → m ≡ x → b ≡ takes.made → UsedAs F scope G a b n m (type_of e)
    used_so x means is same =
        subst (λ z. UsedAs F scope G a z n m (type_of e)) (sym same) (subst (λ y. UsedAs F scope G a takes.made n y (type_of e)) (sym is) (record { own = taking.own; of_row = taking.of_row; inside = taking.nodes; typed = record { carried = taking.typed.carried; means = means } }))

    pub record_used : UsedAs F scope G a b n m (type_of e)
    record_used = by e.arity refl takes.part
      where
        as_used : (k : ℕ) → e.arity ≡ k → Means F (sight takes.made) (taking.own ++ G) (used_by n (with_parameters k (type_of e))) takes.node
        as_used k is = subst (λ j. Means F (sight takes.made) (taking.own ++ G) (used_by n (with_parameters j (type_of e))) takes.node) is taking.typed.means

        by : (k : ℕ) → e.arity ≡ k → (((d.arity ≡ 0) × (m ≡ takes.node) × (b ≡ takes.made)) ⊎ ((d.arity ≢ 0) × IsLastPart takes.made b takes.node m)) → UsedAs F scope G a b n m (type_of e)
        by zero is (inl (none, node_is, same)) = used_so takes.node (as_used 0 is) node_is same
        by zero is (inr (some, part)) = absurd (some (sym alike.arity ∙ is))
        by (suc k) is (inl (none, node_is, same)) = absurd (let f : suc k ≡ 0 = sym is ∙ alike.arity ∙ none in cc)
        by (suc k) is (inr (some, inl (ms, reads, last, same))) =
            let p = as_used (suc k) is in
            let tuple : Means F (sight takes.made) (taking.own ++ G) (λ ch. type.Tuple (and_last (all_used (ch.letter n) (ch.filled n) (parameters_from 0 (suc k))) (used_by n (type_of e) ch))) takes.node =
            record { open_node = p.open_node; is = λ V ch loose g. sym (tuple_used (ch.letter n) (ch.filled n) k (type_of e)) ∙ p.is V ch loose g } in
            used_so m (last_means (λ ch. all_used (ch.letter n) (ch.filled n) (parameters_from 0 (suc k))) ms tuple reads last) refl same
        by (suc k) is (inr (some, inr none)) =
            let own = own_of a.store.nodes reached.sound in
            let as_root = subst (λ j. RootAs a.store.nodes roots N e.arity d.root.0 (with_parameters j (type_of e))) is alike.root in
            let (ms, reads, z, last) = instance_tuple k (type_of e) own.1 as_root (takes.sound is_root.inside) instance in
            absurd (none ms z instance.inside reads last)

  -- so its own type is the declaration's, where that is a type of its own
  pub record_use : IsPlainlyOwn N e → IsUseOf (sight b) e m
  record_use own K own_b = part_used e own (λ v o. alike.root.named own_a.0 own_a.1 v o) (by e.arity refl takes.part)
    where
      own_a : (J : Types) × IsOwn a.store.nodes J
      own_a = own_of a.store.nodes reached.sound

      own_made : b ≡ takes.made → IsOwn takes.made.store.nodes K
      own_made same = subst (λ (z : Parts). IsOwn z.store.nodes K) same own_b

      by : (k : ℕ) → e.arity ≡ k → (((d.arity ≡ 0) × (m ≡ takes.node) × (b ≡ takes.made)) ⊎ ((d.arity ≢ 0) × IsLastPart takes.made b takes.node m)) → IsPartOf own_a.0 N d.root.0 (type_of e) (K m)
      by zero is (inl (none, node_is, same)) =
          subst (λ x. IsPartOf own_a.0 N d.root.0 (type_of e) (K x)) (sym node_is) (instance_whole own_a.1 (subst (λ j. RootAs a.store.nodes roots N e.arity d.root.0 (with_parameters j (type_of e))) is alike.root) (own_made same) instance)
      by zero is (inr (some, part)) = absurd (some (sym alike.arity ∙ is))
      by (suc k) is (inl (none, node_is, same)) = absurd (let f : suc k ≡ 0 = sym is ∙ alike.arity ∙ none in cc)
      by (suc k) is (inr (some, inl (ms, reads, last, same))) =
          instance_last k (type_of e) ms own_a.1 (subst (λ j. RootAs a.store.nodes roots N e.arity d.root.0 (with_parameters j (type_of e))) is alike.root) (own_made same) instance reads last
      by (suc k) is (inr (some, inr none)) =
          let as_root = subst (λ j. RootAs a.store.nodes roots N e.arity d.root.0 (with_parameters j (type_of e))) is alike.root in
          let (ms, reads, z, last) = instance_tuple k (type_of e) own_a.1 as_root (takes.sound is_root.inside) instance in
          absurd (none ms z instance.inside reads last)

-- Labels were looked for.
module _ {F : Frame} {scope : Scope} {G : Letters} {env : List Entry} (a : Parts) (ps : List parts.Written) (n k : ℕ) (at : Surrounds as_declared F (sight a) G env scope) where
  -- how declarations and exceptions stand for those of the definitions
  abbrev D : Declaration → rules.Declaration → Type 0
  D = DeclaredAs a.store.nodes at.roots at.names

  abbrev X : Constructor → Option Typ → Type 0
  X = ExceptionAs a.store.nodes at.roots at.names

  defines_alike : (d : Declaration) (e : rules.Declaration) → D d e → option_map path_of d.defines ≡ origin_of (type_of e)
  defines_alike d e h = h.defines

  -- They find a label, and an instance of its declaration was taken.
  module _ (b : Parts) (x : Entry) (d : Declaration) (m : ℕ) (finds : found_here env ps ≡ an_entry x) (is : (r : Rc Declaration Global) (place : ℕ) → x.what ≡ what.Label r place → r.value ≡ d) (takes : TakesRoot d a b m) where
    own_a : (J : Types) × IsOwn a.store.nodes J
    own_a = own_of a.store.nodes at.reached.sound

    -- the declaration that is found stands for each that the definitions find
    same_one : {R : ℕ → Scheme → Type 0} {y : FoundAmong Named} (f : FindsRecord R D X defines_alike x y) → DeclaredAs a.store.nodes at.roots at.names d f.owner
    same_one f = subst (λ z. DeclaredAs a.store.nodes at.roots at.names z f.owner) (is f.declared f.place f.here) f.alike

    here : FindsRecord (λ r sc. IsIn at.roots r) D X defines_alike x (record_of at.covered.0 (labels_of ps))
    here = finds_record (λ r sc. IsIn at.roots r) D X defines_alike (labels_of ps) x finds at.covered.1

    alike : DeclaredAs a.store.nodes at.roots at.names d here.owner
    alike = same_one here

    -- where all of names is known it is a type of its own
    own_there : F.known ≡ true → IsPlainlyOwn at.names here.owner
    own_there known =
        let knows = at.known known in
        let f = finds_record (λ r sc. IsIn at.roots r) (λ d e. D d e × HasOwnLabels e) X (λ d e h. h.0.defines) (labels_of ps) x finds knows.covered.1 in
        let same : DeclaredAs a.store.nodes at.roots at.names d f.owner = subst (λ z. DeclaredAs a.store.nodes at.roots at.names z f.owner) (is f.declared f.place f.here) f.alike.0 in
        record { plain = knows.plain; own = own_too alike same (f.alike.1 f.labels.0 f.labels.1) }

    asked : AsksLabels F scope (sight a) G (sight a) n k ps true
    asked = labels_held a ps n k at (ap is_found_here finds)

    used_there : UsedAs F scope G a b n m (type_of here.owner)
    used_there = record_used a b at.reached at.are_roots alike takes n

    whole : Carried F scope (λ c. ask_record c n k ps) (sight a) G (sight b) (used_there.own ++ G)
    whole = carried_as (λ c. append-nil (ask_record c n k ps)) (carried_trans asked.carried used_there.typed.carried)

    kept_first : (c : Context) → AreKept c.kept whole.judged → AreKept c.kept asked.carried.judged
    unfolding whole carried_trans carried_as
    kept_first c h = kept_left c.kept asked.carried.judged _ h

    known_so : (c : Context) → record_by_verdict c ps true ≡ declaration_found c ps
    known_so c = by (first_token ps)
      where
        by : (o : Option Tok) → elim o [ None ↦ declaration_found c ps | Some t ↦ if true then declaration_found c ps else None ] ≡ declaration_found c ps
        by None = refl
        by (Some t) = refl

    finds_each : InEach F scope (sight a) G (λ c. AreKept c.kept whole.judged → IsOneWith here.owner (kept_record c n k ps))
    finds_each V c loose under agrees named h =
        let stand = (at.fits own_a.0 V c.chosen own_a.1 loose agrees named).names in
        let f = finds_record (λ r sc. SchemeFits a.store.nodes V r sc × IsIn at.roots r) D X defines_alike (labels_of ps) x finds stand in
        record {
          declaration = f.owner;
          is = kept_as asked c (kept_first c h) ∙ known_so c ∙ ap (λ E. then_by (entry_of (record_of E (labels_of ps))) (λ e. option_map (λ r. r.0) (label_in e.stands_for))) under.env ∙ f.is;
          same = same_record own_a.1 (same_one f) alike;
        }

    stands_there : StandsFor F (sight b) d here.owner
    stands_there =
        let own_b = own_of b.store.nodes (whole.stays.reaches at.reached).sound in
        record {
          roots = at.roots;
          names = at.names;
          apart = at.apart;
          are_roots = λ i r e. root_on whole.stays at.reached (at.are_roots i r e);
          is = declared_after own_a.1 (whole.stays.refines at.reached own_b.0 own_b.1) (λ r i. i) alike;
          known = own_there;
        }

    pub record_known : RecordKnown F scope (sight a) G (sight b) n k ps d m
    record_known = record {
      owner = here.owner;
      letters = used_there.own;
      inside = used_there.inside;
      carried = whole;
      finds = finds_each;
      of_row = used_there.of_row;
      has_type = used_there.typed.means;
      use_of = λ known. record_use a b at.reached at.are_roots alike takes (own_there known);
      stands = stands_there;
    }

  -- They find the label of a declaration.
  pub record_label : (x : Entry) → found_here env ps ≡ an_entry x → (r : Rc Declaration Global) × (place : ℕ) × (x.what ≡ what.Label r place)
  record_label x finds =
      let f = finds_record (λ r sc. IsIn at.roots r) D X defines_alike (labels_of ps) x finds at.covered.1 in
      (f.declared, f.place, f.here)

  -- They are inside a module that isn't known, and that is no fault.
  pub record_in_hole : found_here env ps ≡ a_hole → RecordUnknown F scope (sight a) G (sight a) n k ps
  record_in_hole finds = record {
    carried = asked.carried;
    none = λ V c loose under agrees named h.
        let own = own_of a.store.nodes at.reached.sound in
        let stand = (at.fits own.0 V c.chosen own.1 loose agrees named).names in
        let R : ℕ → Scheme → Type 0 = λ r sc. SchemeFits a.store.nodes V r sc × IsIn at.roots r in
        kept_as asked c h ∙ by (declaration_found c ps)
        (ap (λ E. then_by (entry_of (record_of E (labels_of ps))) (λ e. option_map (λ r. r.0) (label_in e.stands_for))) under.env ∙ in_hole finds (labels_alike R D X defines_alike (labels_of ps) stand)) (first_token ps);
  }
    where
      asked : AsksLabels F scope (sight a) G (sight a) n k ps true
      asked = labels_held a ps n k at (ap is_found_here finds)

      in_hole : {R : ℕ → Scheme → Type 0} {x : FoundAmong Entry} {y : FoundAmong Named} → x ≡ a_hole → ComesTo R (DeclaredAs a.store.nodes at.roots at.names) (ExceptionAs a.store.nodes at.roots at.names) x y →
          then_by (entry_of y) (λ e. option_map (λ (r : rules.Declaration × rules.Label). r.0) (label_in e.stands_for)) ≡ None
      in_hole e (to_entry h) = absurd (cc)
      in_hole e to_hole = refl
      in_hole e to_nothing = absurd (cc)

      by : (x : Option rules.Declaration) → x ≡ None → (o : Option Tok) → ◌≡◌ {A = Option rules.Declaration} (elim o [ None ↦ x | Some t ↦ if true then x else None ]) None
      by x e None = e
      by x e (Some t) = e

  -- They find nothing, which is reported where one is written.
  pub record_lost : (b : Parts) → is_aloud a.telling ≡ true → found_here env ps ≡ nothing → TellsNone (lost_of env ps) (first_token ps) a b → OnlyFaults a b → RecordUnknown F scope (sight a) G (sight b) n k ps
  record_lost b aloud finds tells rest = record {
    carried = asked.carried;
    none = λ V c loose under agrees named h.
        let own = own_of a.store.nodes at.reached.sound in
        let stand = (at.fits own.0 V c.chosen own.1 loose agrees named).names in
        let R : ℕ → Scheme → Type 0 = λ r sc. SchemeFits a.store.nodes V r sc × IsIn at.roots r in
        kept_as asked c h ∙ by (declaration_found c ps)
        (ap (λ E. then_by (entry_of (record_of E (labels_of ps))) (λ e. option_map (λ r. r.0) (label_in e.stands_for))) under.env ∙ in_nothing finds (labels_alike R D X defines_alike (labels_of ps) stand)) (first_token ps);
  }
    where
      asked : AsksLabels F scope (sight a) G (sight b) n k ps false
      asked = labels_refused a ps n k at b aloud (ap is_found_here finds) tells rest

      in_nothing : {R : ℕ → Scheme → Type 0} {x : FoundAmong Entry} {y : FoundAmong Named} → x ≡ nothing → ComesTo R (DeclaredAs a.store.nodes at.roots at.names) (ExceptionAs a.store.nodes at.roots at.names) x y →
          then_by (entry_of y) (λ e. option_map (λ (r : rules.Declaration × rules.Label). r.0) (label_in e.stands_for)) ≡ None
      in_nothing e (to_entry h) = absurd (cc)
      in_nothing e to_hole = absurd (cc)
      in_nothing e to_nothing = refl

      by : (x : Option rules.Declaration) → x ≡ None → (o : Option Tok) → ◌≡◌ {A = Option rules.Declaration} (elim o [ None ↦ x | Some t ↦ if false then x else None ]) None
      by x e None = e
      by x e (Some t) = refl
