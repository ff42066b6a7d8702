-- What two sets of kept demands ask of a text without modules and re-exports is one as far as they keep the same.
use Rattle.std.proofs.Common.{◌≡◌, ◌∙◌, ℕ, ◌+◌, Bool, true, List, [], ◌∷◌, ◌++◌, filter_map, reverse, Option, Some, None, refl, ap, subst}
use Rattle.token_model.specs.Kinds.{Tok}
use Rattle.tree_model.specs.Trees.{Place, Tree, Forest, node, inner, part_yield}
use Rattle.tree_model.specs.Rows.{Row, let_row, type_row, exception_row, break_row}
use Rattle.signature_model.specs.Entries.{Environment, Entry}
use Rattle.typing_model.specs.Demands.{made}
use Rattle.typing_model.specs.Contexts.{Context, Choice, Bound, under, entries_with, generalised_in}
use Rattle.typing_model.specs.Names.{then_by}
use Rattle.typing_model.specs.Parts.{Binding, ConstructorPart, DeclarationPart, Item, Seen, seen_too, no_names, Child, in_slot, token_in, first_of}
use Rattle.typing_model.specs.Bindings.{names_of_group, held_by}
use Rattle.typing_model.specs.Expressions.{bindings_in, is_some}
use Rattle.typing_model.specs.Items.{inside_item, names_made, let_item, type_item, exception_item, no_item, items_ask}
use Rattle.typing_model.specs.Modules.{item_row}
use Rattle.typing_model.specs.Meanings.{recorded_item, children_of, tree_child, item_base, items_from, items_of}
use Rattle.typing_model.specs.Typings.{outermost, conditions_of}
use Rattle.typing_model.specs.Plain.{is_plain_row}
use Rattle.typing_laws.proofs.Bools.{no_yes, and_cases}
use Rattle.typing_laws.proofs.Together.{Kept, keeping}
use Rattle.typing_laws.proofs.Whole.{Whole, at_end, at_made, at_treated, behind, along}
use Rattle.typing_laws.proofs.Steady.{Each, no_one, one_and, IfThere, absent, there, SameName, SteadyBinding, SteadyConstructor, SteadyDeclaration, SteadyChild, entries_alike}
use Rattle.typing_laws.proofs.SteadyBindings.{bindings_alike, group_names_one, held_alike}
use Rattle.typing_laws.proofs.SteadyItems.{pair_alike}
use Rattle.typing_laws.proofs.SteadyRows.{filtered, slot_steady, bindings_steady, then_there, first_steady}
use Rattle.typing_laws.proofs.SteadyTexts.{children_steady}
use Rattle.typing_laws.proofs.SteadyDeclarations.{group_entries}
use Rattle.typing_laws.proofs.Reexports.{NewDeclaration, declarations_new}
use Rattle.typing_laws.proofs.WholeDeclarations.{new_ones, group_whole, exception_whole}
use Rattle.typing_laws.specs.Reexports.{is_new_item, has_new_types}

-- an item asks the same of both, and adds the same names
record WholeItem (k m : Kept) (i : Item) : Type 0 where
  pub asks : (c : Context) (seen : Seen) → Whole k m (i.asks (keeping k c) seen) (i.asks (keeping m c) seen)
  pub adds : (c : Context) → i.adds (keeping k c) ≡ i.adds (keeping m c)
  pub named : (c : Context) → i.named (keeping k c) ≡ i.named (keeping m c)

names_made_whole : {k m : Kept} (n : ℕ) (c : Context) (bs : List Bound) → Each (SameName k m) bs → Whole k m (names_made n (keeping k c) bs) (names_made n (keeping m c) bs)
names_made_whole n c [] no_one = at_end
names_made_whole {k} {m} n c (b ∷ bs) (one_and s each) =
    subst (λ t. Whole k m (made n (b.has_type (keeping k c)) ∷ names_made n (keeping k c) bs) (made n t ∷ names_made n (keeping m c) bs)) (s.one c) (at_made (names_made_whole n c bs each))

let_item_whole : {k m : Kept} (n : ℕ) (ts : List Tok) (is_rec : Bool) (bs : List Binding) → Each (SteadyBinding k m) bs → WholeItem k m (let_item n ts is_rec bs)
let_item_whole {k} {m} n ts is_rec bs each = record {
  asks = λ c seen. behind (bindings_alike (inside_item n ts c) is_rec bs each) (λ a. names_made_whole n (inside_item n ts c) (names_of_group bs) (group_names_one bs each));
  adds = λ c.
      entries_alike (generalised_in c.env (held_by (inside_item n ts (keeping k c)) bs)) (inside_item n ts c) [] (group_names_one bs each) ∙
      ap (λ hs. entries_with (generalised_in c.env hs) (inside_item n ts (keeping m c)) (names_of_group bs) []) (held_alike (inside_item n ts c) bs each);
  named = λ c. refl;
}

no_item_whole : {k m : Kept} (n : ℕ) → WholeItem k m (no_item n)
no_item_whole n = record { asks = λ c seen. at_end; adds = λ c. refl; named = λ c. refl }

exception_item_whole : {k m : Kept} (n : ℕ) (x : Option ConstructorPart) → IfThere (SteadyConstructor k m) x → WholeItem k m (exception_item n x)
exception_item_whole n None absent = no_item_whole n
exception_item_whole n (Some x) (there s) = record { asks = λ c seen. exception_whole c x s; adds = λ c. refl; named = λ c. refl }

-- the declarations of an item of types re-export nothing
abbrev NewRow : Row → List Child → Type 0
NewRow type_row cs = Each NewDeclaration (filter_map (λ c. c.declaration) (in_slot 2 cs))
NewRow _ cs = Unit {0}

item_new : (r : Row) (n : ℕ) (ps : Forest) → is_new_item r ps ≡ true → (is_plain_row r ≡ true) × NewRow r (children_of n r ps)
item_new let_row n ps e = (refl, tt)
item_new type_row n ps e = (refl, declarations_new n type_row ps e)
item_new exception_row n ps e = (refl, tt)
item_new break_row n ps e = (refl, tt)
item_new _ n ps e = absurd (no_yes e)

type_item_whole : {k m : Kept} (n : ℕ) (ds : List DeclarationPart) → Each NewDeclaration ds → Each (SteadyDeclaration k m) ds → WholeItem k m (type_item n ds)
type_item_whole {k} {m} n ds news each = record { asks = λ c seen. group_whole c seen.types ds news each; adds = λ c. ap reverse (group_entries {k = k} {m = m} c ds ds (new_ones c ds ds news)); named = λ c. refl }

row_whole : {k m : Kept} (r : Row) (n : ℕ) (q : Place) (ts : List Tok) (cs : List Child) → is_plain_row r ≡ true → NewRow r cs → Each (SteadyChild k m) cs → IfThere (WholeItem k m) (item_row r n q ts cs)
unfolding item_row
row_whole let_row n q ts cs e new h = there (let_item_whole n ts (is_some (token_in 1 cs)) (bindings_in 2 cs) (bindings_steady 2 cs h))
row_whole {k} {m} type_row n q ts cs e new h = there (type_item_whole n (filter_map (λ c. c.declaration) (in_slot 2 cs)) new (filtered (SteadyDeclaration k m) (λ c. c.declaration) (in_slot 2 cs) (λ c g. g.declaration) (slot_steady 2 cs h)))
row_whole {k} {m} exception_row n q ts cs e new h =
    there (exception_item_whole n (then_by (first_of (in_slot 1 cs)) (λ c. c.constructor)) (then_there (SteadyConstructor k m) (first_of (in_slot 1 cs)) (λ c. c.constructor) (λ c g. g.constructor) (first_steady 1 cs h)))
row_whole break_row n q ts cs e new h = there (no_item_whole n)
row_whole _ n q ts cs e new h = absurd (no_yes e)

told_whole : {k m : Kept} (n : ℕ) (i : Option Item) → IfThere (WholeItem k m) i → IfThere (WholeItem k m) (recorded_item n i)
told_whole n None absent = absent
told_whole n (Some i) (there s) = there (record { asks = λ c seen. at_treated (s.asks c seen); adds = s.adds; named = s.named })

items_whole : {k m : Kept} (i : ℕ) (ts : List Tree) → has_new_types ts ≡ true → Each (WholeItem k m) (items_from i ts)
items_whole i [] e = no_one
items_whole {k} {m} i (node r x ps ∷ ts) e =
    let (first, others) = and_cases (is_new_item r ps) (has_new_types ts) e in
    let (plain, new) = item_new r (item_base i + 1) ps first in
    by (tree_child (item_base i) 0 (node r x ps)).item
    (told_whole (item_base i) (item_row r (item_base i) x.span (part_yield (inner (node r x ps))) (children_of (item_base i + 1) r ps))
    (row_whole r (item_base i) x.span (part_yield (inner (node r x ps))) (children_of (item_base i + 1) r ps) plain new (children_steady (item_base i + 1) r ps)))
    (items_whole (i + 1) ts others)
  where
    by : (o : Option Item) → IfThere (WholeItem k m) o → Each (WholeItem k m) (items_from (i + 1) ts) → Each (WholeItem k m) (elim o [ None ↦ items_from (i + 1) ts | Some y ↦ y ∷ items_from (i + 1) ts ])
    by None absent h = h
    by (Some y) (there s) h = one_and s h

items_one : {k m : Kept} (c : Context) (seen : Seen) (xs : List Item) → Each (WholeItem k m) xs → Whole k m (items_ask (keeping k c) seen xs) (items_ask (keeping m c) seen xs)
items_one c seen [] no_one = at_end
items_one {k} {m} c seen (i ∷ xs) (one_and s each) =
    behind (s.asks c seen) (λ a.
    along {A = List Entry × Seen} (λ z. items_ask (under (z.0 ++ c.env) (keeping k c)) (seen_too seen z.1) xs) (λ z. items_ask (under (z.0 ++ c.env) (keeping m c)) (seen_too seen z.1) xs)
    (pair_alike (i.adds (keeping k c)) (i.adds (keeping m c)) (i.named (keeping k c)) (i.named (keeping m c)) (s.adds c) (s.named c))
    (items_one (under (i.adds (keeping k c) ++ c.env) c) (seen_too seen (i.named (keeping k c))) xs each))

-- the whole text
pub text_whole : {k m : Kept} (env : Environment) (text : List Tree) (choice : Choice) → has_new_types text ≡ true → Whole k m (conditions_of env text k choice) (conditions_of env text m choice)
text_whole {k} env text choice e = items_one (outermost env k choice) no_names (items_of text) (items_whole 1 text e)
