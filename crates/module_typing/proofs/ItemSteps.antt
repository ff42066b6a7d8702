-- What the calls for the items of a structure carry, from what each call in them does.
use Rattle.std.proofs.Common.{inl, inr, ◌≡◌, ◌∙◌, ℕ, ◌+◌, ◌<◌, ◌≤◌, false, drop, length, slice_index_or, List, [], ◌∷◌, ◌++◌, map, Some, None, refl, sym, ap, subst, append_assoc, append-nil, true}
use Rattle.tree_model.specs.Trees.{inner}
use Rattle.std.specs.Prelude.{Result, Ok, Err, OnOk}
use Rattle.std.proofs.lemmas.List.{drop_more, drop_all}
use denote.Ref.{Bor}
use Rattle.std.specs.declared.rc.Rc.{Rc}
use Rattle.std.specs.declared.alloc.Global.{Global}
use Rattle.signature_model.specs.Declarations.{Name}
use Rattle.typing_model.specs.Parts.{no_names}
use Rattle.syntax_tree.specs.declared.rows.RowName.TheVariants as name
use Rattle.syntax_tree.specs.declared.tree.Node.{Node, out-Node}
use Rattle.syntax_tree.specs.View.{node_view, place_of}
use Rattle.row_parts.specs.declared.slots.Operand.{Operand}
use Rattle.row_parts.specs.Numbered.{Numbered, numbered, first_in, part_of, operand_view}
use Rattle.env_table.specs.declared.entries.Entry.{Entry}
use Rattle.env_table.specs.declared.entries.Kind.{Kind}
use Rattle.env_table.specs.declared.entries.Kind.TheVariants as kind
use Rattle.typing_state.specs.declared.parts.Parts.{Parts}
use Rattle.typing_state.specs.Goes.{Goes, OnlyIndex}
use Rattle.typing_state.specs.Notes.{NotedNameless}
use Rattle.typing_steps.specs.States.{is_aloud}
use Rattle.typing_steps.specs.Typing.{as_declared}
use Rattle.typing_steps.proofs.Starting.{constants_kept}
use Rattle.core_typing.specs.Items.{IsCarriedPart, IsCarriedItemOperand, IsItemNode, IsExceptionNode, ItemsDone, GivesLet, item_at, items_at}
use Rattle.core_typing.proofs.ItemLaws.{done_none, done_then, let_done, idle_given, plain_scope, noted_between, noted_on, weaker}
use Rattle.env_table.specs.Views.{newest_first}
use Rattle.sig_template.specs.Structures.{entries_of}
use Rattle.module_steps.specs.declared.scenes.Scene.{Scene}
use Rattle.module_steps.specs.Scenes.{has_name, SameNames}
use Rattle.signature_typing.specs.Specifications.{GivesException, IsGiven}
use Rattle.signature_typing.proofs.NodeRows.{row_there, only_exception}
use Rattle.signature_typing.proofs.SpecificationSteps.{seen_same, there, exception_done}
use Rattle.module_typing.proofs.NodeRows.{only_let, only_break, break_there}
use Rattle.module_typing.specs.Items.{GivesItem, GivesItems, Grows, AddsValues, NamesNone, TakesNonePart, TakesNone, KeepsKnown, GivesFirst, GivesItemsFirst}

-- what is missing is noted, and nothing else is done
pub missing_given : {A F : Type 0} (r : Result A F) (a b : Parts) (s : Scene) (x : Operand) → x.node ≡ None → OnOk r (NotedNameless a b x.number s.env None) → OnlyIndex a b → Goes a b → OnOk r (GivesItem a b s s (operand_view x))
missing_given (Err e) a b s x none noted rest goes = tt
missing_given (Ok v) a b s x none noted rest goes = λ G E seen carried aloud at constants older standing.
    subst (λ p. IsGiven ((at.known ≡ true) × KeepsKnown x.number p) E (item_at a.item (numbered x.number (place_of x.span) p)) seen a b G s) (sym (ap (λ o. part_of o x.span) none)) (record {
      names = seen;
      done = done_none seen (noted_between a b x.number s.env noted rest) at (constants_kept a b goes constants) (noted_on at.older older goes) (λ k. k.0);
      standing = standing;
    })

-- `;;` is noted
pub break_given : {A F : Type 0} (r : Result A F) (a b : Parts) (s : Scene) (x : Operand) (nd : Bor Node) → x.node ≡ Some nd → (out-Node nd.now).row ≡ name.Break → OnOk r (NotedNameless a b x.number s.env None) → OnlyIndex a b → Goes a b → OnOk r (GivesItem a b s s (operand_view x))
break_given (Err e) a b s x nd some row noted rest goes = tt
break_given (Ok v) a b s x nd some row noted rest goes = λ G E seen carried aloud at constants older standing.
    subst (λ p. IsGiven ((at.known ≡ true) × KeepsKnown x.number p) E (item_at a.item (numbered x.number (place_of x.span) p)) seen a b G s) (sym (there x nd some)) (record {
      names = seen;
      done = idle_given a b s.env x.number (place_of x.span) (node_view nd.now) G E seen (break_there nd.now row) (plain_scope a b x.number s.env aloud noted) (noted_between a b x.number s.env noted rest) at (constants_kept a b goes constants) (noted_on at.older older goes) (λ k. k.0);
      standing = standing;
    })

-- A `let` is typed.
pub let_item_given : {A F : Type 0} (r : Result A F) (a b : Parts) (s s' : Scene) (x : Operand) (nd : Bor Node) → x.node ≡ Some nd → (out-Node nd.now).row ≡ name.Let → OnOk r (GivesLet a b s.env s'.env x.number (node_view nd.now)) → SameNames s s' → OnOk r (GivesItem a b s s' (operand_view x))
let_item_given (Err e) a b s s' x nd some row gives same = tt
let_item_given (Ok v) a b s s' x nd some row gives same = λ G E seen carried aloud at constants older standing.
    subst (λ p. IsGiven ((at.known ≡ true) × KeepsKnown x.number p) E (item_at a.item (numbered x.number (place_of x.span) p)) seen a b G s') (sym (there x nd some)) (record {
      names = seen;
      done = weaker (λ k. k.0) (let_done a b s.env s'.env x.number (place_of x.span) (node_view nd.now) G E seen (is_let carried) aloud at constants older gives);
      standing = seen_same same standing;
    })
  where
    is_let : IsCarriedItemOperand (operand_view x) → IsItemNode x.number (node_view nd.now)
    is_let carried = elim (subst (IsCarriedPart x.number) (there x nd some) carried) [
      | inl item ↦ item
      | inr other ↦ elim other [
        | inl break ↦ absurd (let b : name.Let ≡ name.Break = sym row ∙ only_break (out-Node nd.now).row (sym (row_there nd.now) ∙ break) in cc)
        | inr thrown ↦ absurd (let b : name.Let ≡ name.Exception = sym row ∙ only_exception (out-Node nd.now).row (sym (row_there nd.now) ∙ thrown.row) in cc)
      ]
    ]

-- An exception is declared.
pub exception_given : {A F : Type 0} (r : Result A F) (a b : Parts) (s s' : Scene) (x : Operand) (nd : Bor Node) → x.node ≡ Some nd → (out-Node nd.now).row ≡ name.Exception → OnOk r (GivesException a b s.env s'.env x.number (node_view nd.now)) → SameNames s s' → OnOk r (GivesItem a b s s' (operand_view x))
exception_given (Err e) a b s s' x nd some row gives same = tt
exception_given (Ok v) a b s s' x nd some row gives same = λ G E seen carried aloud at constants older standing.
    subst (λ p. IsGiven ((at.known ≡ true) × KeepsKnown x.number p) E (item_at a.item (numbered x.number (place_of x.span) p)) seen a b G s') (sym (there x nd some)) (record {
      names = seen;
      done = weaker (λ k. (k.0, takes_none (is_exception carried) k.1)) (exception_done a b s.env s'.env x.number (place_of x.span) (node_view nd.now) G E seen (is_exception carried) aloud at constants older gives);
      standing = seen_same same standing;
    })
  where
    takes_none : (e : IsExceptionNode x.number (node_view nd.now)) → KeepsKnown x.number (inner (node_view nd.now)) → first_in e.operand.number e.constructor 2 ≡ None
    takes_none e (inl let_is) = absurd (let b : name.Exception ≡ name.Let = sym row ∙ only_let (out-Node nd.now).row (sym (row_there nd.now) ∙ let_is) in cc)
    takes_none e (inr (inl break_is)) = absurd (let b : name.Exception ≡ name.Break = sym row ∙ only_break (out-Node nd.now).row (sym (row_there nd.now) ∙ break_is) in cc)
    takes_none e (inr (inr (is, none))) = subst (TakesNonePart e.operand.number) e.part (subst TakesNone e.there none)

    is_exception : IsCarriedItemOperand (operand_view x) → IsExceptionNode x.number (node_view nd.now)
    is_exception carried = elim (subst (IsCarriedPart x.number) (there x nd some) carried) [
      | inl item ↦ absurd (let b : name.Exception ≡ name.Let = sym row ∙ only_let (out-Node nd.now).row (sym (row_there nd.now) ∙ item.row) in cc)
      | inr other ↦ elim other [
        | inl break ↦ absurd (let b : name.Exception ≡ name.Break = sym row ∙ only_break (out-Node nd.now).row (sym (row_there nd.now) ∙ break) in cc)
        | inr thrown ↦ thrown
      ]
    ]

-- an item of another row isn't one that is carried
pub other_item : {A F : Type 0} (r : Result A F) (a b : Parts) (s s' : Scene) (x : Operand) (nd : Bor Node) → x.node ≡ Some nd → ((out-Node nd.now).row ≡ name.Let → ⊥) → ((out-Node nd.now).row ≡ name.Break → ⊥) → ((out-Node nd.now).row ≡ name.Exception → ⊥) → OnOk r (GivesItem a b s s' (operand_view x))
other_item (Err e) a b s s' x nd some no_let no_break no_exception = tt
other_item (Ok v) a b s s' x nd some no_let no_break no_exception = λ G E seen carried aloud at constants older standing. absurd (elim (subst (IsCarriedPart x.number) (there x nd some) carried) [
  | inl item ↦ no_let (only_let (out-Node nd.now).row (sym (row_there nd.now) ∙ item.row))
  | inr other ↦ elim other [
    | inl break ↦ no_break (only_break (out-Node nd.now).row (sym (row_there nd.now) ∙ break))
    | inr thrown ↦ no_exception (only_exception (out-Node nd.now).row (sym (row_there nd.now) ∙ thrown.row))
  ]
])

-- and names something, as far as is known
pub other_names : (s s' : Scene) (x : Operand) (nd : Bor Node) → x.node ≡ Some nd → ((out-Node nd.now).row ≡ name.Let → ⊥) → ((out-Node nd.now).row ≡ name.Break → ⊥) → ((out-Node nd.now).row ≡ name.Exception → ⊥) → NamesNone (operand_view x).part → SameNames s s'
other_names s s' x nd some no_let no_break no_exception none = absurd (elim (subst NamesNone (there x nd some) none) [
  | inl let_is ↦ no_let (only_let (out-Node nd.now).row (sym (row_there nd.now) ∙ let_is))
  | inr other ↦ elim other [
    | inl break_is ↦ no_break (only_break (out-Node nd.now).row (sym (row_there nd.now) ∙ break_is))
    | inr thrown ↦ no_exception (only_exception (out-Node nd.now).row (sym (row_there nd.now) ∙ thrown))
  ]
])

-- a `let` adds its names to those before it
pub let_grows : {A F : Type 0} (r : Result A F) (s s' : Scene) (env : List Entry) (es fs : List (Rc Entry Global)) → env ≡ newest_first es ++ s.env → fs ≡ es → OnOk r (s'.env ≡ env) → OnOk r (entries_of s'.components.items ≡ entries_of s.components.items ++ entries_of fs) → OnOk r (Grows s s')
let_grows (Err e) s s' env es fs grows same names components = tt
let_grows (Ok v) s s' env es fs grows same names components = record { entries = entries_of es; names = names ∙ grows; components = components ∙ ap (λ ns. entries_of s.components.items ++ entries_of ns) same }

-- and where all stays, nothing is added
pub none_grows : (s : Scene) → Grows s s
none_grows s = record { entries = []; names = refl; components = sym (append-nil (entries_of s.components.items)) }

-- an item that may add anything is no `let` and no `;;`
pub other_grows : {P : Type 0} (x : Operand) (nd : Bor Node) → x.node ≡ Some nd → ((out-Node nd.now).row ≡ name.Let → ⊥) → ((out-Node nd.now).row ≡ name.Break → ⊥) → AddsValues (operand_view x).part → P
other_grows x nd some no_let no_break keeps = absurd (elim (subst AddsValues (there x nd some) keeps) [
  | inl let_is ↦ no_let (only_let (out-Node nd.now).row (sym (row_there nd.now) ∙ let_is))
  | inr break_is ↦ no_break (only_break (out-Node nd.now).row (sym (row_there nd.now) ∙ break_is))
])

-- what holds holds where a call succeeds
pub on_any : {A F P : Type 0} (r : Result A F) → P → OnOk r P
on_any (Ok v) h = h
on_any (Err e) h = tt

-- before the first item of a structure
pub items_start : (a : Parts) (env : List Entry) (s : Scene) (all : List Numbered) → s.env ≡ env → ((k : Kind) (n : Name) → has_name s k n ≡ false) → GivesItemsFirst a a env s all all
items_start a env s all same none G E carried aloud at constants older = record {
  items = [];
  given = record {
    names = no_names;
    done = subst (λ es. ItemsDone as_declared ⊥ E [] no_names no_names a a G es) (sym same) (done_none no_names (record { nodes = refl; types = λ i p. refl; noted = λ i p h. h; scopes = λ i p env h. h; reports = refl; aloud = refl; level = refl; fixed = refl }) at constants older (λ k. absurd k));
    standing = record { types = λ n. none kind.TypeName n; modules = λ n. none kind.Module n; module_types = λ n. none kind.ModuleType n };
  };
  splits = refl;
  carried = carried;
}

-- one item more
pub items_next : (a b d : Parts) (env : List Entry) (s s' : Scene) (all : List Numbered) (os : List Operand) (i : ℕ) (x : Operand) → i < length os → x ≡ slice_index_or os i x → Goes a b → GivesItemsFirst a b env s all (map operand_view (drop i os)) →
    GivesItem b d s s' (operand_view x) → GivesItemsFirst a d env s' all (map operand_view (drop (i + 1) os))
items_next a b d env s s' all os i x lt here goes first gives G E carried aloud at constants older =
    let cut : drop i os ≡ x ∷ drop (i + 1) os = drop_more os i x lt ∙ ap (λ o. o ∷ drop (i + 1) os) (sym here) in
    let f : GivesFirst E G a b s all (operand_view x ∷ map operand_view (drop (i + 1) os)) = subst (λ us. GivesFirst E G a b s all (map operand_view us)) cut (first G E carried aloud at constants older) in
    let g = gives f.given.done.letters f.given.done.env f.given.names f.carried.0 (ap is_aloud goes.telling ∙ aloud) f.given.done.outside f.given.done.constants f.given.done.noted f.given.standing in
    let whole : f.items ++ (item_at a.item (operand_view x) ++ items_at a.item (map operand_view (drop (i + 1) os))) ≡ items_at a.item all = f.splits in
    record {
      items = f.items ++ item_at b.item (operand_view x);
      given = record { names = g.names; done = done_then {last = g.names} at.sound f.given.done g.done (λ k. absurd k) (λ k. absurd k); standing = g.standing };
      splits = append_assoc f.items (item_at b.item (operand_view x)) (items_at a.item (map operand_view (drop (i + 1) os)))
          ∙ ap (λ n. f.items ++ (item_at n (operand_view x) ++ items_at a.item (map operand_view (drop (i + 1) os)))) goes.item ∙ whole;
      carried = f.carried.1;
    }

-- all items are done
pub items_end : (a b : Parts) (env : List Entry) (s : Scene) (all : List Numbered) (os : List Operand) (i : ℕ) → length os ≤ i → GivesItemsFirst a b env s all (map operand_view (drop i os)) → GivesItems a b env all
items_end a b env s all os i past first G E carried aloud at constants older =
    let f : GivesFirst E G a b s all [] = subst (λ us. GivesFirst E G a b s all (map operand_view us)) (drop_all i os past) (first G E carried aloud at constants older) in
    (s.env, f.given.names, subst (λ ms. ItemsDone as_declared ⊥ E ms no_names f.given.names a b G s.env) (sym (append-nil f.items) ∙ f.splits) f.given.done)
