-- What the calls for the items of a signature give, from what each call in them does.
use Rattle.std.proofs.Common.{inl, inr, ◌≡◌, ◌∙◌, ℕ, ◌+◌, ◌<◌, ◌≤◌, false, drop, length, slice_index_or, List, [], ◌∷◌, ◌++◌, map, Some, None, refl, sym, ap, subst, append_assoc, append-nil}
use Rattle.std.specs.Prelude.{Result, Ok, Err, OnOk}
use Rattle.std.proofs.lemmas.List.{drop_more, drop_all}
use denote.Ref.{Bor}
use Rattle.tree_model.specs.Trees.{inner}
use Rattle.signature_model.specs.Declarations.{Name}
use Rattle.typing_model.specs.Items.{items_ask}
use Rattle.typing_model.specs.Parts.{Seen, no_names, seen_too}
use Rattle.syntax_tree.specs.declared.rows.RowName.TheVariants as name
use Rattle.syntax_tree.specs.declared.tree.Node.{Node, out-Node}
use Rattle.syntax_tree.specs.View.{node_view, place_of}
use Rattle.row_parts.specs.declared.slots.Operand.{Operand}
use Rattle.row_parts.specs.Numbered.{Numbered, numbered, part_of, operand_view}
use Rattle.env_table.specs.declared.entries.Entry.{Entry}
use Rattle.env_table.specs.declared.entries.Kind.{Kind}
use Rattle.env_table.specs.declared.entries.Kind.TheVariants as kind
use Rattle.typing_state.specs.declared.parts.Parts.{Parts}
use Rattle.typing_state.specs.Goes.{Goes, OnlyIndex}
use Rattle.typing_state.specs.Notes.{NotedNameless}
use Rattle.typing_steps.specs.States.{is_aloud, sight}
use Rattle.typing_steps.specs.Typing.{as_declared}
use Rattle.typing_steps.proofs.Starting.{constants_kept}
use Rattle.typing_rows.proofs.Noted.{noted_on}
use Rattle.binding_rows.specs.ItemRows.{recorded_exception, IsExceptionNode, ItemsDone}
use Rattle.binding_rows.proofs.ItemKinds.{noted_between, none_too, exception_there}
use Rattle.declared_items.specs.Adding.{ItemsAdded, AddsException}
use Rattle.declared_items.specs.Written.{IsOwnTypeNode}
use Rattle.declared_items.proofs.Adding.{items_added_none, items_added_one, items_added_then, added_anyhow}
-- for the crate that types modules
pub use Rattle.declared_items.proofs.Exceptions.{exception_done}
use Rattle.module_steps.specs.declared.scenes.Scene.{Scene}
use Rattle.module_steps.specs.Scenes.{has_name, SameNames}
use Rattle.signature_typing.specs.ValueItems.{IsValueNode, IsValuesModuleNode, GivesValue}
use Rattle.signature_typing.specs.Specifications.{specification_at, specifications_at, IsSpecifiedPart, IsKnownPart, AllMet, HasSeen, IsSpecified, GivesSpecification, GivesValuesModule, GivesSpecifications, SpecifiesFirst, SpecifiesItemsFirst}
use Rattle.signature_typing.specs.TypeItems.{GivesType}
use Rattle.signature_typing.proofs.NodeRows.{row_there, only_val, only_exception, only_type, only_module}
use Rattle.signature_typing.proofs.Specifications.{exception_as_item, type_there, met_after, value_specified}

-- a scene in which the same names stand has them
pub seen_same : {s s' : Scene} {seen : Seen} → SameNames s s' → HasSeen s seen → HasSeen s' seen
seen_same same h = record { types = λ n. same kind.TypeName n ∙ h.types n; modules = λ n. same kind.Module n ∙ h.modules n; module_types = λ n. same kind.ModuleType n ∙ h.module_types n }

-- an item that is there, as an operand
pub there : (x : Operand) (nd : Bor Node) → x.node ≡ Some nd → part_of x.node x.span ≡ inner (node_view nd.now)
there x nd e = ap (λ o. part_of o x.span) e

-- what is missing is noted, and nothing else is done
pub missing_specified : {A F : Type 0} (r : Result A F) (a b : Parts) (s : Scene) (x : Operand) → x.node ≡ None → OnOk r (NotedNameless a b x.number s.env None) → OnlyIndex a b → Goes a b → OnOk r (GivesSpecification a b s s (operand_view x))
missing_specified (Err e) a b s x none noted rest goes = tt
missing_specified (Ok v) a b s x none noted rest goes = λ G E seen carried aloud at constants older standing ns V c met known.
    subst (λ p. IsSpecified E (specification_at a.item (numbered x.number (place_of x.span) p)) seen a b G s) (sym (ap (λ o. part_of o x.span) none)) (record {
      names = seen;
      added = items_added_none seen (noted_between a b x.number s.env noted rest) at (constants_kept a b goes constants) (noted_on at.older older goes);
      standing = standing;
    })

-- An exception is declared: it adds its name.
pub exception_specified : {A F : Type 0} (r : Result A F) (a b : Parts) (s s' : Scene) (x : Operand) (nd : Bor Node) → x.node ≡ Some nd → (out-Node nd.now).row ≡ name.Exception → OnOk r (AddsException a b s.env s'.env x.number (node_view nd.now)) → SameNames s s' → OnOk r (GivesSpecification a b s s' (operand_view x))
exception_specified (Err e) a b s s' x nd some row adds same = tt
exception_specified (Ok v) a b s s' x nd some row adds same = λ G E seen carried aloud at constants older standing ns V c met known.
    let item = is_exception carried in
    let t = node_view nd.now in
    subst (λ p. IsSpecified E (specification_at a.item (numbered x.number (place_of x.span) p)) seen a b G s') (sym (there x nd some)) (record {
      names = seen;
      added = subst (λ ms. ItemsAdded E ms seen seen a b G s'.env) (sym (exception_there a.item x.number (place_of x.span) t item) ∙ exception_as_item a.item x.number (place_of x.span) t item.row)
          (subst (λ names. ItemsAdded E (recorded_exception a.item x.number item.operand.number item.constructor ∷ []) seen names a b G s'.env) (none_too seen) (items_added_one (added_anyhow (adds G E seen item aloud at constants older))));
      standing = seen_same same standing;
    })
  where
    is_exception : IsSpecifiedPart x.number (operand_view x).part → IsExceptionNode x.number (node_view nd.now)
    is_exception carried = elim (subst (IsSpecifiedPart x.number) (there x nd some) carried) [
      | inl value ↦ absurd (let b : name.Exception ≡ name.Val = sym row ∙ only_val (out-Node nd.now).row (sym (row_there nd.now) ∙ value.row) in cc)
      | inr other ↦ elim other [
        | inl thrown ↦ thrown
        | inr rest ↦ elim rest [
          | inl own ↦ absurd (let b : name.Exception ≡ name.TypeRow = sym row ∙ only_type (out-Node nd.now).row (sym (row_there nd.now) ∙ own.row) in cc)
          | inr module_is ↦ absurd (let b : name.Exception ≡ name.Gmodule = sym row ∙ only_module (out-Node nd.now).row (sym (row_there nd.now) ∙ module_is.row) in cc)
        ]
      ]
    ]

-- A value is specified.
pub value_given : {A F : Type 0} (r : Result A F) (a b : Parts) (s s' : Scene) (x : Operand) (nd : Bor Node) → x.node ≡ Some nd → (out-Node nd.now).row ≡ name.Val → OnOk r (GivesValue a b s.env s'.env x.number (node_view nd.now)) → SameNames s s' → OnOk r (GivesSpecification a b s s' (operand_view x))
value_given (Err e) a b s s' x nd some row gives same = tt
value_given (Ok v) a b s s' x nd some row gives same = λ G E seen carried aloud at constants older standing ns V c met known.
    let item = is_value carried in
    let e = there x nd some in
    let here : AllMet E (sight a) G (λ y. items_ask y seen (specification_at a.item (numbered x.number (place_of x.span) (inner (node_view nd.now))) ++ ns)) V c =
    subst (λ p. AllMet E (sight a) G (λ y. items_ask y seen (specification_at a.item (numbered x.number (place_of x.span) p) ++ ns)) V c) e met in
    subst (λ p. IsSpecified E (specification_at a.item (numbered x.number (place_of x.span) p)) seen a b G s') (sym e) (record {
      names = seen;
      added = value_specified a b s.env s'.env x.number (place_of x.span) (node_view nd.now) G E seen item aloud at constants older gives ns V c here ((subst (IsKnownPart c.chosen a.item x.number) e known).value item.row);
      standing = seen_same same standing;
    })
  where
    is_value : IsSpecifiedPart x.number (operand_view x).part → IsValueNode x.number (node_view nd.now)
    is_value carried = elim (subst (IsSpecifiedPart x.number) (there x nd some) carried) [
      | inl value ↦ value
      | inr other ↦ elim other [
        | inl thrown ↦ absurd (let b : name.Val ≡ name.Exception = sym row ∙ only_exception (out-Node nd.now).row (sym (row_there nd.now) ∙ thrown.row) in cc)
        | inr rest ↦ elim rest [
          | inl own ↦ absurd (let b : name.Val ≡ name.TypeRow = sym row ∙ only_type (out-Node nd.now).row (sym (row_there nd.now) ∙ own.row) in cc)
          | inr module_is ↦ absurd (let b : name.Val ≡ name.Gmodule = sym row ∙ only_module (out-Node nd.now).row (sym (row_there nd.now) ∙ module_is.row) in cc)
        ]
      ]
    ]

-- One type of its own is declared: it adds its entries, and its name stands then.
pub own_type_given : {A F : Type 0} (r : Result A F) (a b : Parts) (s s' : Scene) (x : Operand) (nd : Bor Node) → x.node ≡ Some nd → (out-Node nd.now).row ≡ name.TypeRow → OnOk r (GivesType a b s s' x.number (node_view nd.now)) → OnOk r (GivesSpecification a b s s' (operand_view x))
own_type_given (Err e) a b s s' x nd some row gives = tt
own_type_given (Ok v) a b s s' x nd some row gives = λ G E seen carried aloud at constants older standing ns V c met known.
    let item = is_type carried in
    let given = gives G E seen item aloud at constants older standing in
    let names = seen_too seen (record no_names { types = item.is.name.name ∷ [] }) in
    subst (λ p. IsSpecified E (specification_at a.item (numbered x.number (place_of x.span) p)) seen a b G s') (sym (there x nd some)) (record {
      names = names;
      added = subst (λ ms. ItemsAdded E ms seen names a b G s'.env) (sym (type_there a.item x.number (place_of x.span) (node_view nd.now) item)) (items_added_one given.added);
      standing = given.standing;
    })
  where
    is_type : IsSpecifiedPart x.number (operand_view x).part → IsOwnTypeNode x.number (node_view nd.now)
    is_type carried = elim (subst (IsSpecifiedPart x.number) (there x nd some) carried) [
      | inl value ↦ absurd (let b : name.TypeRow ≡ name.Val = sym row ∙ only_val (out-Node nd.now).row (sym (row_there nd.now) ∙ value.row) in cc)
      | inr other ↦ elim other [
        | inl thrown ↦ absurd (let b : name.TypeRow ≡ name.Exception = sym row ∙ only_exception (out-Node nd.now).row (sym (row_there nd.now) ∙ thrown.row) in cc)
        | inr rest ↦ elim rest [
          | inl own ↦ own
          | inr module_is ↦ absurd (let b : name.TypeRow ≡ name.Gmodule = sym row ∙ only_module (out-Node nd.now).row (sym (row_there nd.now) ∙ module_is.row) in cc)
        ]
      ]
    ]

-- A module of a signature of values is specified.
pub module_given : {A F : Type 0} (r : Result A F) (a b : Parts) (s s' : Scene) (x : Operand) (nd : Bor Node) → x.node ≡ Some nd → (out-Node nd.now).row ≡ name.Gmodule → OnOk r (GivesValuesModule a b s s' x.number (node_view nd.now)) → OnOk r (GivesSpecification a b s s' (operand_view x))
module_given (Err e) a b s s' x nd some row gives = tt
module_given (Ok v) a b s s' x nd some row gives = λ G E seen carried aloud at constants older standing ns V c met known.
    let e = there x nd some in
    subst (λ p. IsSpecified E (specification_at a.item (numbered x.number (place_of x.span) p)) seen a b G s') (sym e)
    (gives G E seen (is_module carried) aloud at constants older standing ns V c (subst (λ p. AllMet E (sight a) G (λ y. items_ask y seen (specification_at a.item (numbered x.number (place_of x.span) p) ++ ns)) V c) e met)
    ((subst (IsKnownPart c.chosen a.item x.number) e known).within (is_module carried).row))
  where
    is_module : IsSpecifiedPart x.number (operand_view x).part → IsValuesModuleNode x.number (node_view nd.now)
    is_module carried = elim (subst (IsSpecifiedPart x.number) (there x nd some) carried) [
      | inl value ↦ absurd (let b : name.Gmodule ≡ name.Val = sym row ∙ only_val (out-Node nd.now).row (sym (row_there nd.now) ∙ value.row) in cc)
      | inr other ↦ elim other [
        | inl thrown ↦ absurd (let b : name.Gmodule ≡ name.Exception = sym row ∙ only_exception (out-Node nd.now).row (sym (row_there nd.now) ∙ thrown.row) in cc)
        | inr rest ↦ elim rest [
          | inl own ↦ absurd (let b : name.Gmodule ≡ name.TypeRow = sym row ∙ only_type (out-Node nd.now).row (sym (row_there nd.now) ∙ own.row) in cc)
          | inr module_is ↦ module_is
        ]
      ]
    ]

-- an item of another row isn't one that is carried
pub other_specification : {A F : Type 0} (r : Result A F) (a b : Parts) (s s' : Scene) (x : Operand) (nd : Bor Node) → x.node ≡ Some nd → ((out-Node nd.now).row ≡ name.Val → ⊥) → ((out-Node nd.now).row ≡ name.Exception → ⊥) → ((out-Node nd.now).row ≡ name.TypeRow → ⊥) → ((out-Node nd.now).row ≡ name.Gmodule → ⊥) → OnOk r (GivesSpecification a b s s' (operand_view x))
other_specification (Err e) a b s s' x nd some no_val no_exception no_type no_module = tt
other_specification (Ok v) a b s s' x nd some no_val no_exception no_type no_module = λ G E seen carried aloud at constants older standing ns V c met known. absurd (elim (subst (IsSpecifiedPart x.number) (there x nd some) carried) [
  | inl value ↦ no_val (only_val (out-Node nd.now).row (sym (row_there nd.now) ∙ value.row))
  | inr other ↦ elim other [
    | inl thrown ↦ no_exception (only_exception (out-Node nd.now).row (sym (row_there nd.now) ∙ thrown.row))
    | inr rest ↦ elim rest [
      | inl own ↦ no_type (only_type (out-Node nd.now).row (sym (row_there nd.now) ∙ own.row))
      | inr module_is ↦ no_module (only_module (out-Node nd.now).row (sym (row_there nd.now) ∙ module_is.row))
    ]
  ]
])

-- before the first item of a signature
pub specifications_start : (a : Parts) (env : List Entry) (s : Scene) (all : List Numbered) → s.env ≡ env → ((k : Kind) (n : Name) → has_name s k n ≡ false) → SpecifiesItemsFirst a a env s all all
specifications_start a env s all same none G E carried aloud at constants older V c met known = record {
  items = [];
  given = record {
    names = no_names;
    added = subst (λ es. ItemsAdded E [] no_names no_names a a G es) (sym same) (items_added_none no_names (record { nodes = refl; types = λ i p. refl; noted = λ i p h. h; scopes = λ i p env h. h; reports = refl; aloud = refl; level = refl; fixed = refl }) at constants older);
    standing = record { types = λ n. none kind.TypeName n; modules = λ n. none kind.Module n; module_types = λ n. none kind.ModuleType n };
  };
  splits = refl;
  carried = carried;
  known = known;
}

-- one item more
pub specified_next : (a b d : Parts) (env : List Entry) (s s' : Scene) (all later : List Numbered) (o : Numbered) → Goes a b → SpecifiesItemsFirst a b env s all (o ∷ later) → GivesSpecification b d s s' o → SpecifiesItemsFirst a d env s' all later
specified_next a b d env s s' all later o goes first gives G E carried aloud at constants older V c met known =
    let f : SpecifiesFirst E G c.chosen a b s all (o ∷ later) = first G E carried aloud at constants older V c met known in
    let done = f.given.added.done in
    let rest = specifications_at a.item later in
    let left : f.items ++ (specification_at b.item o ++ rest) ≡ specifications_at a.item all = ap (λ n. f.items ++ (specification_at n o ++ rest)) goes.item ∙ f.splits in
    let m = met_after done (specification_at b.item o ++ rest) V c (subst (λ ms. AllMet E (sight a) G (λ y. items_ask y no_names ms) V c) (sym left) met) in
    let g = gives done.letters done.env f.given.names f.carried.0 (ap is_aloud goes.telling ∙ aloud) done.outside done.constants done.noted f.given.standing rest m.types _ m.met (subst (λ n. IsKnownPart c.chosen n o.number o.part) (sym goes.item) f.known.0) in
    record {
      items = f.items ++ specification_at b.item o;
      given = record { names = g.names; added = items_added_then {last = g.names} at.sound f.given.added g.added; standing = g.standing };
      splits = append_assoc f.items (specification_at b.item o) rest ∙ left;
      carried = f.carried.1;
      known = f.known.1;
    }

-- the same of one among operands of the code
pub specifications_next : (a b d : Parts) (env : List Entry) (s s' : Scene) (all : List Numbered) (os : List Operand) (i : ℕ) (x : Operand) → i < length os → x ≡ slice_index_or os i x → Goes a b → SpecifiesItemsFirst a b env s all (map operand_view (drop i os)) →
    GivesSpecification b d s s' (operand_view x) → SpecifiesItemsFirst a d env s' all (map operand_view (drop (i + 1) os))
specifications_next a b d env s s' all os i x lt here goes first gives =
    let later = map operand_view (drop (i + 1) os) in
    let cut : drop i os ≡ x ∷ drop (i + 1) os = drop_more os i x lt ∙ ap (λ o. o ∷ drop (i + 1) os) (sym here) in
    specified_next a b d env s s' all later (operand_view x) goes (subst (λ us. SpecifiesItemsFirst a b env s all (map operand_view us)) cut first) gives

-- all items are done
pub specifications_end : (a b : Parts) (env : List Entry) (s : Scene) (all : List Numbered) (os : List Operand) (i : ℕ) → length os ≤ i → SpecifiesItemsFirst a b env s all (map operand_view (drop i os)) → GivesSpecifications a b env all
specifications_end a b env s all os i past first G E carried aloud at constants older V c met known =
    let f : SpecifiesFirst E G c.chosen a b s all [] = subst (λ us. SpecifiesFirst E G c.chosen a b s all (map operand_view us)) (drop_all i os past) (first G E carried aloud at constants older V c met known) in
    (s.env, f.given.names, subst (λ ms. ItemsDone as_declared ⊥ E ms no_names f.given.names a b G s.env) (sym (append-nil f.items) ∙ f.splits) f.given.added.done)
