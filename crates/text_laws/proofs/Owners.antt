-- The items of a text of `let`, `;;` and exceptions without an argument have numbers of their own, so what they left belongs to different ones.
use Rattle.std.proofs.Common.{◌≡◌, ◌∙◌, ℕ, zero, suc, ◌+◌, ◌≤◌, true, Option, Some, None, List, [], ◌∷◌, refl, subst, arith}
use Rattle.std.specs.Prelude.{slice_get}
use Rattle.std.proofs.lemmas.Bool.{ne_eqb}
use Rattle.tree_model.specs.Rows.{Row, let_row, exception_row, break_row}
use Rattle.tree_model.specs.Trees.{Tree, Place, node}
use Rattle.token_model.specs.Kinds.{Tok}
use Rattle.type_model.specs.Types.{Typ, Var}
use Rattle.signature_model.specs.Declarations.{built_in}
use Rattle.signature_model.specs.Entries.{entry, a_value}
use Rattle.typing_model.specs.Bindings.{names_of_group, held_by}
use Rattle.typing_model.specs.Contexts.{Bound, Context, monomorphic, generalised_in}
use Rattle.typing_model.specs.Items.{inside_item, value_components, exception_components, exception_item}
use Rattle.typing_model.specs.Expressions.{bindings_in}
use Rattle.typing_model.specs.Parts.{ConstructorPart, Item, Child}
use Rattle.typing_model.specs.Typings.{outermost, no_choice}
use Rattle.typing_model.specs.Modules.{item_row}
use Rattle.typing_model.specs.Meanings.{recorded_item, tree_child, item_base, items_from, items_of}
use Rattle.typing_model.specs.Plain.{is_value_row, has_values_alone}
use Rattle.fault_model.specs.Values.{is_bare_item, are_bare}
use Rattle.typing_laws.proofs.Bools.{no_yes, and_cases}
use Rattle.binding_rows.specs.Outside.{Left}
use Rattle.binding_rows.specs.ItemRows.{AreDeclared, AreOwned, none_owned, leaves_none, leaves_types, leaves_one}
use Rattle.demand_laws.proofs.Bare.{TakesNone, constructor_among, IsBareRow, item_bare}
use Rattle.text_laws.specs.Reading.{OwnersApart, NoneDecided}

-- no item that left something has a lower number
abbrev AreFrom : ℕ → List Left → Type 0
AreFrom b ls = (k : ℕ) (l : Left) → slice_get ls k ≡ Some l → b ≤ l.owner

-- they are different ones, from a number on
record Owned (b : ℕ) (ls : List Left) : Type 0 where
  apart : OwnersApart ls
  none : NoneDecided ls
  from : AreFrom b ls

-- a context in which a variable is free in the names
abbrev open_context : Context
open_context = outermost (entry [] (built_in zero) (a_value (monomorphic (Var zero))) ∷ []) (λ s. true) no_choice

-- an item that declares and specifies nothing, as the first of its names shows in that context
abbrev DeclaresNone : Item → Type 0
DeclaresNone m = AreDeclared (m.components open_context) → ⊥

owned_none : (b : ℕ) {ls : List Left} → AreOwned [] ls → Owned b ls
owned_none b none_owned = record { apart = tt; none = tt; from = λ k l e. absurd (cc) }

-- one item, which declares nothing, and others after it
owned_more : {m : Item} {ms : List Item} {ls : List Left} (b next : ℕ) → m.node ≡ b → DeclaresNone m → b + 1 ≤ next → ((ks : List Left) → AreOwned ms ks → Owned next ks) → AreOwned (m ∷ ms) ls → Owned b ls
owned_more {ls = ls} b next is_b none lt others (leaves_none h) = let o = others ls h in record { apart = o.apart; none = o.none; from = λ k l e. let f = o.from k l e in omega arith }
owned_more b next is_b none lt others (leaves_types declared h) = absurd (none (declared open_context))
owned_more {m = m} {ms = ms} {ls = l ∷ ls} b next is_b none lt others (leaves_one owner fixed h) =
    let o = others ls h in
    let here : l.owner ≡ b = owner ∙ is_b in
    record {
      apart = ((λ k q e. ne_eqb q.owner l.owner (λ same. let f = o.from k q e in absurd (omega (arith, same, here)))), o.apart);
      none = (fixed, o.none);
      from = from o here;
    }
  where
    from : Owned next ls → l.owner ≡ b → AreFrom b (l ∷ ls)
    from o here zero q e = let same : l ≡ q = cc in subst (λ x. b ≤ x.owner) same (omega (arith, here))
    from o here (suc k) q e = let f = o.from k q e in omega arith

-- an item that may be there has a number, and declares nothing
abbrev IsNumbered : ℕ → Option Item → Type 0
IsNumbered n None = Unit {0}
IsNumbered n (Some m) = (m.node ≡ n) × DeclaresNone m

-- the components of a `let` are values, in whose schemes the variable that is free in the names isn't bound
values_alone : (held : List Typ) (c : Context) (bs : List Bound) → AreDeclared (value_components (generalised_in open_context.env held) c bs) → ⊥
values_alone held c [] h = h
values_alone held c (b ∷ bs) h = no_yes (h zero)

-- an exception of such a one declares nothing
none_declared : (k : ConstructorPart) → k.argument ≡ None → AreDeclared (exception_components open_context k) → ⊥
none_declared k e h = by k.name (subst (λ o. AreDeclared (exception_components open_context (record k { argument = o }))) e h)
  where
    by : (o : Option Tok) → AreDeclared (exception_components open_context (record k { name = o; argument = None })) → ⊥
    by None g = g
    by (Some t) g = g

exception_numbered : (n : ℕ) (o : Option ConstructorPart) → TakesNone o → IsNumbered n (Some (exception_item n o))
exception_numbered n None none = (refl, λ h. h)
exception_numbered n (Some k) none = (refl, none_declared k none)

row_numbered : (r : Row) (n : ℕ) (at : Place) (ts : List Tok) (cs : List Child) → is_value_row r ≡ true → IsBareRow r cs → IsNumbered n (item_row r n at ts cs)
unfolding item_row
row_numbered let_row n at ts cs e bare = (refl, values_alone (held_by (inside_item n ts open_context) (bindings_in 2 cs)) (inside_item n ts open_context) (names_of_group (bindings_in 2 cs)))
row_numbered exception_row n at ts cs e bare = exception_numbered n (constructor_among cs) bare
row_numbered break_row n at ts cs e bare = (refl, λ h. h)
row_numbered _ n at ts cs e bare = absurd (no_yes e)

recorded_numbered : (n : ℕ) (i : Option Item) → IsNumbered n i → IsNumbered n (recorded_item n i)
recorded_numbered n None h = h
recorded_numbered n (Some m) h = h

tree_numbered : (k : ℕ) (t : Tree) (ts : List Tree) → has_values_alone (t ∷ ts) ≡ true → are_bare (t ∷ ts) ≡ true → IsNumbered (item_base k) (tree_child (item_base k) 0 t).item
tree_numbered k (node r x ps) ts e bare =
    recorded_numbered (item_base k) (item_row r (item_base k) x.span _ _) (row_numbered r (item_base k) x.span _ _ (and_cases (is_value_row r) (has_values_alone ts) e).0 (item_bare (item_base k + 1) r x ps (and_cases (is_bare_item (node r x ps)) (are_bare ts) bare).0))

values_after : (t : Tree) (ts : List Tree) → has_values_alone (t ∷ ts) ≡ true → has_values_alone ts ≡ true
values_after (node r x ps) ts e = (and_cases (is_value_row r) (has_values_alone ts) e).1

items_owned : (k : ℕ) (ts : List Tree) → has_values_alone ts ≡ true → are_bare ts ≡ true → (ls : List Left) → AreOwned (items_from k ts) ls → Owned (item_base k) ls
items_owned k [] e bare ls h = owned_none (item_base k) h
items_owned k (t ∷ ts) e bare ls h = by (tree_child (item_base k) 0 t).item (tree_numbered k t ts e bare) (items_owned (k + 1) ts (values_after t ts e) (and_cases (is_bare_item t) (are_bare ts) bare).1) ls h
  where
    by : (o : Option Item) → IsNumbered (item_base k) o → ((ks : List Left) → AreOwned (items_from (k + 1) ts) ks → Owned (item_base (k + 1)) ks) → (ls : List Left) →
        AreOwned (elim o [ None ↦ items_from (k + 1) ts | Some m ↦ m ∷ items_from (k + 1) ts ]) ls → Owned (item_base k) ls
    by None numbered others ls h = let o = others ls h in record { apart = o.apart; none = o.none; from = λ j l f. let g = o.from j l f in omega arith }
    by (Some m) numbered others ls h = owned_more (item_base k) (item_base (k + 1)) numbered.0 numbered.1 (omega arith) others h

-- So what the items of such a text left belongs to different ones.
pub owners_apart : (text : List Tree) → has_values_alone text ≡ true → are_bare text ≡ true → {ls : List Left} → AreOwned (items_of text) ls → OwnersApart ls
owners_apart text values bare {ls} h = (items_owned 1 text values bare ls h).apart

-- and none of them decided a type
pub none_left : (text : List Tree) → has_values_alone text ≡ true → are_bare text ≡ true → {ls : List Left} → AreOwned (items_of text) ls → NoneDecided ls
none_left text values bare {ls} h = (items_owned 1 text values bare ls h).none
