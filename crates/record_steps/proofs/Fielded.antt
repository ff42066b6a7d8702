-- A field of a record: its label is new, and an instance of the label's root has the type of the field where its record is the record.
use Rattle.std.proofs.Common.{◌≡◌, ◌∙◌, inl, inr, ◌++◌, ℕ, true, not, List, [], ◌∷◌, Option, Some, None, option_map, refl, sym, ap, subst, append-nil, ◌⊎◌}
use Rattle.std.specs.Prelude.{slice_get}
use Rattle.token_model.specs.Kinds.{Tok}
use Rattle.type_model.specs.Types.{Typ, occurs}
use Rattle.type_model.specs.Types.{Typ as type}
use Rattle.type_model.specs.Substitutions.{apply}
use Rattle.signature_model.specs.Declarations as rules
use Rattle.signature_model.specs.Declarations.{Name, type_of, defined_type, parameters_from}
use Rattle.typing_laws.proofs.Bools.{no_yes}
use Rattle.typing_model.specs.Demands.{site, demand, test, twice}
use Rattle.typing_model.specs.Contexts.{ask, Choice}
use Rattle.typing_model.specs.Parts as parts
use Rattle.typing_model.specs.Names.{then_by}
use Rattle.typing_model.specs.Records.{is_among, ask_once, find_label, labels_in, label_argument, label_filled, used_in_record}
use Rattle.type_nodes.specs.Nodes.{Arrow}
use Rattle.type_nodes.specs.Links.{reading}
use Rattle.type_nodes.specs.Readings.{Types}
use Rattle.level_unify.specs.Instances.{Instantiated}
use Rattle.level_unify.specs.Solutions.{Loose}
use Rattle.level_unify.specs.Unification.{NeverAlike}
use Rattle.level_unify.proofs.Unified.{fits_loosely}
use Rattle.env_table.specs.declared.entries.Declaration.{Declaration}
use Rattle.env_table.specs.declared.entries.Label.{Label}
use Rattle.typing_conditions.proofs.Own.{own_of}
use Rattle.typing_conditions.specs.Declared.{RootAs, LabelAs}
use Rattle.typing_conditions.proofs.Roots.{own_reads}
use Rattle.typing_conditions.proofs.DeclaredLater.{declared_after}
use Rattle.typing_state.specs.declared.parts.Parts.{Parts}
use Rattle.typing_state.specs.Goes.{OnlyStore}
use Rattle.typing_conditions.specs.Sights.{Sight, Key, Letters, AreNodes, AreGiven, Agrees}
use Rattle.typing_conditions.specs.Frames.{Frame, Reaches, IsOpen, IsRoot}
use Rattle.typing_conditions.specs.Meanings.{Means}
use Rattle.typing_conditions.specs.Carrying.{Scope, Stays, Carried, CarriedTo}
use Rattle.typing_conditions.proofs.Framing.{root_on, no_bound}
use Rattle.typing_conditions.proofs.Carried.{carried_trans, carried_as, carried_dropped, means_dropped}
use Rattle.typing_conditions.proofs.Meaning.{means_on, nodes_in, open_unbound}
use Rattle.typing_conditions.proofs.Stays.{stays_closed, agrees_before}
use Rattle.typing_conditions.proofs.Steps.{true_or_false}
use Rattle.typing_conditions.proofs.Equals.{loose_one}
use Rattle.typing_steps.specs.States.{is_aloud, sight}
use Rattle.typing_steps.specs.Building.{HasIfThere, used_by}
use Rattle.typing_steps.proofs.Seeing.{only_nodes, level_here}
use Rattle.typing_steps.proofs.Still.{state_still}
use Rattle.typing_steps.proofs.Testing.{new_asked}
use Rattle.typing_steps.proofs.Covering.{side_covers, root_covers}
use Rattle.typing_steps.proofs.Used.{UsedWith, root_used}
use Rattle.typing_steps.proofs.Labelling.{instance_splits}
use Rattle.typing_steps.proofs.Sides.{arrow_is, from_means, to_means}
use Rattle.record_steps.specs.Named.{labels_here, label_here}
use Rattle.record_steps.specs.Recording.{AsksOnce, label_written, GivesField, TakesField, IsPlainlyOwn, StandsFor, IsUseOf, FieldTyped, TypesField}
use Rattle.record_steps.proofs.Joined.{join_carried}
use Rattle.record_steps.proofs.Named.{shape_none, shape_some}
use Rattle.record_steps.proofs.InRecord.{key_in, known_in, named_in, owner_in, sides_imply}
use Rattle.record_steps.proofs.Uses.{use_on, instance_read, sides_unbound}

-- what stands for a declaration does so after a call
pub stands_on : {F : Frame} {a b : Sight} {G H : Letters} {d : Declaration} {e : rules.Declaration} → Stays F a G b H → Reaches F a → StandsFor F a d e → StandsFor F b d e
stands_on {a = a} {b = b} stays reached s =
    let own_a = own_of a.nodes reached.sound in
    let own_b = own_of b.nodes (stays.reaches reached).sound in
    record {
      roots = s.roots;
      names = s.names;
      apart = s.apart;
      are_roots = λ k r e. root_on stays reached (s.are_roots k r e);
      is = declared_after own_a.1 (stays.refines reached own_b.0 own_b.1) (λ r i. i) s.is;
      known = s.known;
    }

-- a field's type as it is used in the record, with letters for it; where all of names is known, there is none
pub record FieldUsed (F : Frame) (scope : Scope) (G : Letters) (a b : Parts) (n field : ℕ) (owner t : Typ) (m : ℕ) : Type 0 where
  pub own : Letters
  pub inside : AreNodes own b.store.nodes
  pub typed : CarriedTo F scope (λ c. []) (sight a) G (sight b) (own ++ G) (used_in_record n field owner t) m
  pub none : F.known ≡ true → own ≡ []

-- An instance of a label's root, whose record is joined with the record's type, has the type of the field as it is used in the record; nothing is asked, and no letter
-- is wanted for it where each variable of the field's type stands in the record's.
module _ (a b : Parts) {F : Frame} {l : Label} {k : rules.Label} {owner : Typ} {C : List ℕ} {N : Types} {arity m to : ℕ} (reached : Reaches F (sight a)) (are_roots : (i r : ℕ) → slice_get C i ≡ Some r → IsRoot F (sight a) r)
    (alike : LabelAs a.store.nodes C N arity owner l k) (takes : TakesField l a b m to) where
  label_root : IsRoot F (sight a) l.root.0
  label_root = let (i, at) = alike.root.among in are_roots i l.root.0 at

  instance : Instantiated a.store.nodes takes.made.store.nodes l.root.0 F.level takes.node
  instance = subst (λ j. Instantiated a.store.nodes takes.made.store.nodes l.root.0 j takes.node) (level_here a reached) (takes.instance label_root.inside)

  -- where the record's node is a use of its declaration, which is a type of its own, the two are never kept apart
  never_apart : (e : rules.Declaration) → owner ≡ type_of e → arity ≡ e.arity → IsPlainlyOwn N e → IsUseOf (sight a) e m → IsOpen F (sight a) m → reading takes.made.store.nodes takes.node ≡ Some (Arrow takes.from to) → NeverAlike takes.made.store.nodes takes.from m → ⊥
  never_apart e same many own is_use open_node reads never =
      let own_a = own_of a.store.nodes reached.sound in
      let (s, is) = is_use own_a.0 own_a.1 in
      let as_declared_root = subst (λ t. RootAs a.store.nodes C N arity l.root.0 (type.Arrow t k.body)) same alike.root in
      let (W, reading_is, before, whole) = instance_read own_a.1 as_declared_root instance s (λ v bound. sides_unbound own many as_declared_root own_a.1 s v (ap (occurs v) (sym is) ∙ open_unbound open_node own_a.0 (own_reads a.store.nodes own_a.0 own_a.1) v bound)) in
      let sides : type.Arrow (W takes.from) (W to) ≡ type.Arrow (apply s (type_of e)) (apply s k.body) = sym (arrow_is takes.made.store.nodes W takes.node takes.from to (fits_loosely takes.made.store.nodes W reading_is.fits) reads) ∙ whole in
      let from_is : W takes.from ≡ apply s (type_of e) = cc in
      never.never W reading_is (from_is ∙ sym is ∙ sym (before m open_node.inside))

  module _ {scope : Scope} {G : Letters} (n field : ℕ) (q : Means F (sight a) G (used_by n owner) m) (e : rules.Declaration) (same_owner : owner ≡ type_of e) (many : arity ≡ e.arity) (plainly : F.known ≡ true → IsPlainlyOwn N e) (is_use : F.known ≡ true → IsUseOf (sight a) e m) where
    -- letters that have their types anyway are dropped
    dropped : (own : Letters) → AreNodes own b.store.nodes → CarriedTo F scope (λ c. []) (sight a) G (sight b) (own ++ G) (used_in_record n field owner k.body) to →
        ((V : Types) (ch : Choice) → Loose b.store.nodes V → Agrees F.owner (sight b) G V ch → AreGiven own V ch) ⊎ (F.known ≡ true → ⊥) → FieldUsed F scope G a b n field owner k.body to
    dropped own inside typed (inl implied) = record { own = []; inside = tt; typed = record { carried = carried_dropped own implied typed.carried ((only_nodes takes.joining b takes.rest_after).reports ∙ (only_nodes a takes.joining takes.rest).reports); means = means_dropped own implied typed.means }; none = λ known. refl }
    dropped own inside typed (inr other) = record { own = own; inside = inside; typed = typed; none = λ known. absurd (other known) }

    joined_so : takes.joining ≡ takes.made → reading takes.made.store.nodes takes.node ≡ Some (Arrow takes.from to) → FieldUsed F scope G a b n field owner k.body to
    joined_so same reads =
        let rest = only_nodes a takes.made (subst (OnlyStore a) same takes.rest) in
        let key : ℕ → Key = λ v. key_in n field owner (N v) in
        let from : Choice → Typ = used_in_record n field owner owner in
        let there_to : Choice → Typ = used_in_record n field owner k.body in
        let uses : UsedWith key F scope (sight a) G (sight takes.made) l.root.0 (λ ch. type.Arrow (from ch) (there_to ch)) takes.node =
        root_used key (λ v t. known_in n field owner (N v) t) (λ ch. label_argument ch n field owner) (λ ch. label_filled ch n field owner) (λ ch J o v h. named_in n field owner ch (alike.root.named J o v h)) reached label_root alike.root
        (takes.sound label_root.inside) instance rest in
        let here : Carried F scope (λ c. []) (sight a) G (sight takes.joining) (uses.letters ++ G) = subst (λ z. Carried F scope (λ c. []) (sight a) G (sight z) (uses.letters ++ G)) (sym same) uses.typed.carried in
        let p : Means F (sight takes.joining) (uses.letters ++ G) (λ ch. type.Arrow (from ch) (there_to ch)) takes.node =
        subst (λ z. Means F (sight z) (uses.letters ++ G) (λ ch. type.Arrow (from ch) (there_to ch)) takes.node) (sym same) uses.typed.means in
        let there : reading takes.joining.store.nodes takes.node ≡ Some (Arrow takes.from to) = ap (λ z. reading z.store.nodes takes.node) same ∙ reads in
        let side = from_means {from = from} {to = there_to} p there in
        let from_here : Means F (sight takes.joining) (uses.letters ++ G) (used_by n owner) takes.from = record { open_node = side.open_node; is = λ V ch loose g. sym (owner_in n field owner ch) ∙ side.is V ch loose g } in
        let record_here = means_on here.stays q in
        let joined = takes.joined.0 from_here.open_node.inside record_here.open_node.inside in
        let join = join_carried takes.joining b {scope = scope} takes.sound_after from_here record_here joined takes.rest_after takes.goes_after in
        let whole : Carried F scope (λ c. []) (sight a) G (sight b) (uses.letters ++ G) = carried_trans here join in
        let known : (V : Types) (ch : Choice) → Loose b.store.nodes V → Agrees F.owner (sight b) G V ch → V takes.from ≡ V m → used_by n owner ch ≡ V takes.from = λ V ch loose g one. q.is V ch (whole.stays.loose V loose) (agrees_before (stays_closed uses.letters whole.stays) g) ∙ sym one in
        let at_made : (V : Types) → Loose b.store.nodes V → Loose takes.made.store.nodes V = λ V loose. subst (λ (z : Parts). Loose z.store.nodes V) same (join.stays.loose V loose) in
        dropped uses.letters (nodes_in uses.letters takes.joining.store.nodes b.store.nodes join.stays.longer (subst (λ (z : Parts). AreNodes uses.letters z.store.nodes) (sym same) uses.nodes))
        (record { carried = whole; means = means_on join.stays (to_means {from = from} {to = there_to} p there) })
        (elim (true_or_false (side_covers (uses.types l.root.0))) [
          | inl covers ↦ elim joined [
            | inl one ↦ inl (λ V ch loose g. sides_imply n field owner k.body alike.root uses covers takes.from to reads V ch (at_made V loose)
                (known V ch loose g (loose_one takes.joining.store.nodes b.store.nodes takes.from m takes.sound_after (one (no_bound from_here.open_node record_here.open_node)) V loose)))
            | inr (left, never) ↦ inr (λ all_known. never_apart e same_owner many (plainly all_known) (is_use all_known) q.open_node reads (subst (λ (z : Parts). NeverAlike z.store.nodes takes.from m) same (never (no_bound from_here.open_node record_here.open_node))))
          ]
          | inr beside ↦ inr (λ all_known. absurd (no_yes (sym beside ∙
              root_covers (plainly all_known).own.0 k.body (plainly all_known).plain
              (ap (λ t. type.Arrow t k.body) (same_owner ∙ ap (defined_type e.arity) (plainly all_known).own.1 ∙ ap (λ j. type.Con (plainly all_known).own.0 (parameters_from 0 j)) (sym many))) alike.root uses.own_types)))
        ])

    pub field_used : FieldUsed F scope G a b n field owner k.body to
    field_used = elim takes.sides [
      | inl (reads, same) ↦ joined_so same reads
      | inr none ↦ absurd (
          let own = own_of a.store.nodes reached.sound in
          let (x, y, reads) = instance_splits owner k.body own.1 alike.root (takes.sound label_root.inside) instance in
          none x y instance.inside reads)
    ]

-- the demand that a label is new is carried
once_asked : (a b : Parts) {F : Frame} {scope : Scope} {G : Letters} (field : ℕ) (seen : List Name) (p : parts.Written) → is_aloud a.telling ≡ true → AsksOnce seen p.last a b → Carried F scope (λ c. ask_once field 0 seen p) (sight a) G (sight b) G
once_asked a b {F} {scope} {G} field seen p aloud asks = by p.last asks
  where
    by : (o : Option Tok) → AsksOnce seen o a b → Carried F scope (λ c. elim o [ None ↦ [] | Some t ↦ ask field 0 (parts.place_of t) (test (twice t.name) (not (is_among t.name seen))) ]) (sight a) G (sight b) G
    by None same = state_still a b same
    by (Some t) (span, is, tested) = subst (λ x. Carried F scope (λ c. demand (site field 0) x (test (twice t.name) (not (is_among t.name seen))) ∷ []) (sight a) G (sight b) G) is (new_asked a b t.name seen (site field 0) aloud tested).carried

-- The beginning of a field: its label is new, and its type is that of the label.
pub field_typed : (a mid b : Parts) (d : Declaration) (m : ℕ) (seen : List Name) (p : parts.Written) (ty : Option ℕ) → AsksOnce seen p.last a mid → GivesField (label_written d p.last) mid b m ty → TypesField a b d m seen p ty
field_typed a mid b d m seen p ty asks gives aloud F scope G n field e stands means is_use = by (label_written d p.last) refl gives
  where
    used : Typ → Choice → Typ
    used = used_in_record n field (type_of e)

    asked : Carried F scope (λ c. ask_once field 0 seen p) (sight a) G (sight mid) G
    asked = once_asked a mid field seen p aloud asks

    reached : Reaches F (sight mid)
    reached = asked.stays.reaches means.open_node.reached

    there : StandsFor F (sight mid) d e
    there = stands_on asked.stays means.open_node.reached stands

    none_in : (o : Option Tok) → then_by o (λ t. label_here t.name (labels_here d.shape)) ≡ None → then_by o (λ t. option_map (λ (l : rules.Label). l.body) (find_label t.name (labels_in e.shape))) ≡ None
    none_in None h = refl
    none_in (Some t) h = ap (option_map (λ (l : rules.Label). l.body)) (shape_none t.name stands.is.shape h)

    one_in : (l : Label) (o : Option Tok) → then_by o (λ t. label_here t.name (labels_here d.shape)) ≡ Some l →
        (k : rules.Label) × (then_by o (λ t. option_map (λ (l : rules.Label). l.body) (find_label t.name (labels_in e.shape))) ≡ Some k.body) × LabelAs mid.store.nodes there.roots there.names e.arity (type_of e) l k
    one_in l None h = absurd (cc)
    one_in l (Some t) h = let (k, is, alike) = shape_some t.name l there.is.shape h in (k, ap (option_map (λ (z : rules.Label). z.body)) is, alike)

    by : (o : Option Label) → label_written d p.last ≡ o → GivesField o mid b m ty → FieldTyped F scope (sight a) G (sight b) n field seen p e ty
    by None none (nothing, same) = record {
      letters = [];
      inside = tt;
      carried = carried_as (λ c. append-nil (ask_once field 0 seen p)) (carried_trans asked (state_still mid b same));
      none = λ known. refl;
      has_type = subst (λ x. HasIfThere F (sight b) G (option_map used x) ty) (sym (none_in p.last none)) (subst (HasIfThere F (sight b) G None) (sym nothing) tt);
    }
    by (Some l) some (f, is, takes) =
        let (k, found, alike) = one_in l p.last some in
        let field_is = field_used mid b reached there.are_roots alike takes {scope = scope} n field (means_on asked.stays means) e refl refl there.known (λ known. use_on e m asked.stays means.open_node.reached (is_use known)) in
        record {
          letters = field_is.own;
          inside = field_is.inside;
          carried = carried_as (λ c. append-nil (ask_once field 0 seen p)) (carried_trans asked field_is.typed.carried);
          none = field_is.none;
          has_type = subst (λ x. HasIfThere F (sight b) (field_is.own ++ G) (option_map used x) ty) (sym found) (subst (HasIfThere F (sight b) (field_is.own ++ G) (Some (used k.body))) (sym is) field_is.typed.means);
        }
