-- The use of a label: the demand that its path is bound, and an instance of its root.
use Rattle.std.proofs.Common.{◌≡◌, ◌∙◌, ◌++◌, ℕ, Bool, true, false, List, [], ◌∷◌, Option, Some, None, refl, sym, ap, subst, append-nil, if◌then◌else◌}
use Rattle.token_model.specs.Kinds.{Tok}
use Rattle.type_model.specs.Types.{Typ}
use Rattle.type_model.specs.Types.{Typ as type}
use Rattle.type_model.specs.Substitutions.{apply}
use Rattle.type_model.specs.Schemes.{Scheme}
use Rattle.signature_model.specs.Declarations.{type_of}
use Rattle.signature_model.specs.Entries.{label_kind}
use Rattle.signature_model.specs.Entries.{Entry as Named}
use Rattle.signature_model.specs.Lookups.{FoundAmong, an_entry, a_hole, nothing, lookup}
use Rattle.typing_model.specs.Demands.{site, label_word}
use Rattle.typing_model.specs.Contexts.{Context, is_kept}
use Rattle.typing_model.specs.Parts as parts
use Rattle.typing_model.specs.Names.{names_of, referent_of, then_by, label_in}
use Rattle.type_nodes.specs.Nodes.{Node, Arrow, IsSound, IsNode}
use Rattle.type_nodes.specs.Links.{reading}
use Rattle.type_nodes.specs.Readings.{Types}
use Rattle.level_unify.specs.Instances.{Instantiated}
use Rattle.env_table.specs.declared.entries.Entry.{Entry}
use Rattle.env_table.specs.declared.entries.Label.{Label}
use Rattle.env_table.specs.declared.entries.Kind.TheVariants as kind
use Rattle.env_table.specs.Views.{kind_of}
use Rattle.typing_state.specs.declared.parts.Parts.{Parts}
use Rattle.typing_state.specs.declared.messages.Word.TheVariants as word
use Rattle.typing_state.specs.Goes.{OnlyStore}
use Rattle.typing_state.specs.Types.{level_for}
use Rattle.typing_state.specs.Bound.{lost_among, found_at, BoundIs}
use Rattle.typing_conditions.specs.Locals.{IsOwn}
use Rattle.typing_conditions.specs.Assumptions.{SchemeFits}
use Rattle.typing_conditions.specs.Standing.{IsIn}
use Rattle.typing_conditions.proofs.Own.{own_of}
use Rattle.typing_conditions.proofs.Environments.{lookup_alike}
use Rattle.typing_conditions.specs.Declared as code
use Rattle.typing_conditions.specs.Declared.{RootAs, LabelAs, DeclaredAs, ExceptionAs}
use Rattle.typing_conditions.proofs.Roots.{root_after, named_bound}
use Rattle.typing_conditions.proofs.Taking.{images_of}
use Rattle.typing_conditions.proofs.Finding.{FindsLabel, finds_label, same_label}
use Rattle.typing_conditions.specs.Sights.{Letters}
use Rattle.typing_conditions.specs.Frames.{Frame, IsRoot}
use Rattle.typing_conditions.specs.Judging.{judged_at, AreKept}
use Rattle.typing_conditions.specs.Carrying.{Scope, Carried}
use Rattle.typing_conditions.specs.Surroundings.{Surrounds}
use Rattle.typing_conditions.proofs.Framing.{root_on}
use Rattle.typing_conditions.proofs.Judged.{kept_left}
use Rattle.typing_conditions.proofs.Carried.{carried_trans, carried_as}
use Rattle.typing_steps.specs.States.{is_aloud, sight}
use Rattle.typing_steps.specs.Demands.{JudgedAs, is_found_here, bound_asks}
use Rattle.typing_steps.specs.Typing.{as_declared}
use Rattle.typing_steps.specs.Building.{InEach, used_by, label_asks, label_in_scope, IsLabelOf, LabelKnown, LabelUnknown}
use Rattle.typing_steps.proofs.Seeing.{only_nodes, level_here}
use Rattle.typing_steps.proofs.Still.{state_still}
use Rattle.typing_steps.proofs.Finding.{bound_asked}
use Rattle.typing_steps.proofs.Valued.{found_of_kind}
use Rattle.typing_steps.proofs.Images.{arrow_inside}
use Rattle.typing_steps.proofs.Taken.{TakenWith, root_taken}
use Rattle.typing_steps.proofs.Sides.{reads_arrow, from_means, to_means}
use Rattle.typing_steps.proofs.Constructing.{hole_none, if_none}

-- an instance of a root that stands for an arrow is one
pub instance_splits : {old new : List Node} {I N : Types} {C : List ℕ} {arity root level m : ℕ} (x y : Typ) → IsOwn old I → RootAs old C N arity root (type.Arrow x y) → IsSound new → Instantiated old new root level m → (u : ℕ) × (v : ℕ) × (reading new m ≡ Some (Arrow u v))
instance_splits {new = new} {I} {m = m} x y before as_root sound taken =
    let own = own_of new sound in
    let images = images_of before own.1 taken (λ v o. named_bound (as_root.named I before v o)) in
    let (p, q, is) = arrow_inside x y refl as_root before in
    reads_arrow new own.0 m (apply (λ v. own.0 (images.image v)) p) (apply (λ v. own.0 (images.image v)) q) sound own.1 taken.inside (images.is own.0 own.1.loose ∙ ap (apply (λ v. own.0 (images.image v))) is)

-- The path was looked up.
module _ (a b : Parts) {F : Frame} {scope : Scope} {G : Letters} {env : List Entry} (entry : Option Entry) (qs : List Tok) (t : Tok) (n : ℕ) (names : Surrounds as_declared F (sight a) G env scope) (aloud : is_aloud a.telling ≡ true)
    (bound : BoundIs (found_at env qs kind.Label t) entry a b (lost_among env qs) t word.Label) where
  abbrev pub path : parts.Written
  path = record { qualifiers = qs; last = Some t }

  judged : JudgedAs F scope (λ c. bound_asks c (site n 0) label_kind label_word qs t) (sight a) G (sight b) G (site n 0) (is_found_here (found_at env qs kind.Label t))
  judged = bound_asked a b entry word.Label qs t kind.Label label_word refl (site n 0) names aloud bound

  kept_as : (c : Context) (v : Bool) → is_found_here (found_at env qs kind.Label t) ≡ v → AreKept c.kept judged.carried.judged → c.kept (site n 0) ≡ v
  kept_as c v e h = let k : AreKept c.kept (judged_at (site n 0) (is_found_here (found_at env qs kind.Label t)) false ∷ []) = subst (AreKept c.kept) judged.verdict h in k.0 ∙ e

  -- the path finds nothing, which is reported
  pub label_lost : found_at env qs kind.Label t ≡ nothing → LabelUnknown F scope (sight a) G (sight b) n path
  label_lost finds = record { carried = judged.carried; none = λ V c loose under agrees named h. ap (λ v. if v then label_in_scope c.env path else None) (kept_as c false (ap is_found_here finds) h) }

  -- it is inside a module that isn't known, and that is no fault
  pub label_in_hole : found_at env qs kind.Label t ≡ a_hole → LabelUnknown F scope (sight a) G (sight b) n path
  label_in_hole finds = record {
    carried = judged.carried;
    none = λ V c loose under agrees named h.
        let own = own_of a.store.nodes names.reached.sound in
        let stand = (names.fits own.0 V c.chosen own.1 loose agrees named).names in
        if_none (is_kept c n 0) (label_in_scope c.env path) (ap (λ E. label_in_scope E path) under.env ∙ hole_none (λ f. then_by (referent_of f) label_in) refl finds
        (lookup_alike (λ r sc. SchemeFits a.store.nodes V r sc × IsIn names.roots r) (DeclaredAs a.store.nodes names.roots names.names) (ExceptionAs a.store.nodes names.roots names.names) (names_of qs) label_kind t.name stand));
  }

  -- It finds a label, of which an instance is taken.
  module _ {x : Entry} {l : Label} (finds : found_at env qs kind.Label t ≡ an_entry x) (is : code.label_in x.what ≡ Some l) where
    own_a : (I : Types) × IsOwn a.store.nodes I
    own_a = own_of a.store.nodes names.reached.sound

    is_kind : kind_of x.kind ≡ label_kind
    is_kind = found_of_kind label_kind env (names_of qs) t.name x finds

    -- the label that is found among names that stand for the definitions'
    same_one : {R : ℕ → Scheme → Type 0} {y : FoundAmong Named} (f : FindsLabel R a.store.nodes names.roots names.names x y) → LabelAs a.store.nodes names.roots names.names f.owner.arity (type_of f.owner) l f.named
    same_one f = let s : Some f.label ≡ Some l = sym f.here ∙ is in let r : f.label ≡ l = cc in subst (λ z. LabelAs a.store.nodes names.roots names.names f.owner.arity (type_of f.owner) z f.named) r f.alike

    here : FindsLabel (λ r sc. IsIn names.roots r) a.store.nodes names.roots names.names x (lookup names.covered.0 (names_of qs) label_kind t.name)
    here = finds_label (λ r sc. IsIn names.roots r) a.store.nodes names.roots names.names (names_of qs) t.name x finds is_kind names.covered.1

    alike : LabelAs a.store.nodes names.roots names.names here.owner.arity (type_of here.owner) l here.named
    alike = same_one here

    -- it is one of the same types in each context
    finds_each : InEach F scope (sight a) G (λ c. IsLabelOf (type_of here.owner) here.named.body l.is_mutable (label_in_scope c.env path))
    finds_each V c loose under agrees named =
        let stand = names.fits own_a.0 V c.chosen own_a.1 loose agrees named in
        let f = finds_label (λ r sc. SchemeFits a.store.nodes V r sc × IsIn names.roots r) a.store.nodes names.roots names.names (names_of qs) t.name x finds is_kind stand.names in
        let s = same_label own_a.1 (same_one f) alike in
        record { declaration = f.owner; label = f.named; is = ap (λ E. label_in_scope E path) under.env ∙ f.is; owned = s.0; typed = s.1; settable = sym (same_one f).mutable }

    root_there : RootAs b.store.nodes names.roots names.names here.owner.arity l.root.0 (type.Arrow (type_of here.owner) here.named.body)
    root_there = let own_b = own_of b.store.nodes (judged.carried.stays.reaches names.reached).sound in root_after own_a.1 (judged.carried.stays.refines names.reached own_b.0 own_b.1) (λ r i. i) alike.root

    is_root : IsRoot F (sight b) l.root.0
    is_root = let (i, at) = alike.root.among in root_on judged.carried.stays names.reached (names.are_roots i l.root.0 at)

    -- the root is inside the store when the instance is taken
    pub label_root_inside : IsNode b.store.nodes l.root.0
    label_root_inside = is_root.inside

    -- an instance of it is an arrow
    pub label_splits : (new : List Node) {level node : ℕ} → IsSound new → Instantiated b.store.nodes new l.root.0 level node → (u : ℕ) × (v : ℕ) × (reading new node ≡ Some (Arrow u v))
    label_splits new sound taken =
        let own_b = own_of b.store.nodes (judged.carried.stays.reaches names.reached).sound in
        instance_splits (type_of here.owner) here.named.body own_b.1 root_there sound taken

    module _ (d : Parts) {node : ℕ} (own : ℕ) (sound : IsSound d.store.nodes) (taken : Instantiated b.store.nodes d.store.nodes l.root.0 (level_for b.level) node) (rest : OnlyStore b d) where
      taking : TakenWith F scope (sight b) G (sight d) own (type.Arrow (type_of here.owner) here.named.body) node
      taking = root_taken own (judged.carried.stays.reaches names.reached) is_root root_there sound
          (subst (λ k. Instantiated b.store.nodes d.store.nodes l.root.0 k node) (level_here b (judged.carried.stays.reaches names.reached)) taken) (only_nodes b d rest)

      whole : Carried F scope (λ c. label_asks c n path) (sight a) G (sight d) (taking.own ++ G)
      whole = carried_as (λ c. append-nil (label_asks c n path)) (carried_trans judged.carried taking.typed.carried)

      kept_whole : (c : Context) → AreKept c.kept whole.judged → is_kept c n 0 ≡ true
      unfolding whole carried_trans carried_as
      kept_whole c h = kept_as c true (ap is_found_here finds) (kept_left c.kept judged.carried.judged _ h)

      pub label_known : {u v : ℕ} → reading d.store.nodes node ≡ Some (Arrow u v) → LabelKnown F scope (sight a) G (sight d) n own path u v l.is_mutable
      label_known reads = record {
        owner = type_of here.owner;
        body = here.named.body;
        letters = taking.own;
        of_row = taking.of_row;
        carried = whole;
        kept = kept_whole;
        finds = finds_each;
        of_record = from_means {from = used_by own (type_of here.owner)} {to = used_by own here.named.body} taking.typed.means reads;
        of_field = to_means {from = used_by own (type_of here.owner)} {to = used_by own here.named.body} taking.typed.means reads;
      }

-- a label whose last token is missing asks nothing
pub label_missing : (a b : Parts) {F : Frame} {scope : Scope} {G : Letters} (qs : List Tok) (n : ℕ) → b ≡ a → LabelUnknown F scope (sight a) G (sight b) n (record { qualifiers = qs; last = None })
label_missing a b qs n e = record { carried = state_still a b e; none = λ V c loose under agrees named h. if_none (is_kept c n 0) None refl }

-- what is found as a label is one
pub found_label : (a : Parts) {F : Frame} {scope : Scope} {G : Letters} {env : List Entry} (qs : List Tok) (t : Tok) {x : Entry} → Surrounds as_declared F (sight a) G env scope → found_at env qs kind.Label t ≡ an_entry x → (l : Label) × (code.label_in x.what ≡ Some l)
found_label a {env = env} qs t {x} names finds =
    let f = finds_label (λ r sc. IsIn names.roots r) a.store.nodes names.roots names.names (names_of qs) t.name x finds (found_of_kind label_kind env (names_of qs) t.name x finds) names.covered.1 in
    (f.label, f.here)
