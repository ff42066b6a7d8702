-- The items that are carried, by the operands of a structure.
use Rattle.std.proofs.Common.{◌≡◌, ◌∙◌, ℕ, ◌+◌, true, List, [], ◌∷◌, map, Option, Some, None, refl, sym, ap, subst, append-nil}
use Rattle.tree_model.specs.Rows.{exception_row, break_row, con_row}
use Rattle.tree_model.specs.Slots.{is_operand}
use Rattle.tree_model.specs.Trees.{Tree, Place, node, inner, part_yield, yield_of}
use Rattle.signature_model.specs.Entries.{Environment}
use Rattle.typing_model.specs.Contexts.{Choice}
use Rattle.typing_model.specs.Parts as parts
use Rattle.typing_model.specs.Parts.{Child, Item, Seen, no_names, seen_too}
use Rattle.typing_model.specs.Names.{then_by}
use Rattle.typing_model.specs.Declarations.{constructor_row}
use Rattle.typing_model.specs.Items.{exception_item}
use Rattle.typing_model.specs.Modules.{item_row}
use Rattle.typing_model.specs.Meanings.{constructor_of, recorded_item, children_of, child_of}
use Rattle.row_parts.specs.Numbered.{numbered, operands_in, first_of}
use Rattle.env_table.specs.declared.entries.Entry.{Entry}
use Rattle.typing_state.specs.declared.parts.Parts.{Parts}
use Rattle.typing_state.specs.Goes.{OnlyIndex}
use Rattle.typing_state.specs.Notes.{NotedNameless}
use Rattle.operand_laws.specs.Formed.{row_of}
use Rattle.operand_laws.specs.Operands.{number_of, parts_of, child_at}
use Rattle.operand_laws.proofs.Sorts.{children_stand}
use Rattle.typing_conditions.specs.Sights.{Letters}
use Rattle.typing_steps.specs.States.{is_aloud, sight}
use Rattle.typing_steps.specs.Typing.{as_declared}
use Rattle.typing_steps.specs.Constants.{HasConstants}
use Rattle.typing_steps.proofs.Still.{plain_notes, notes_unseen, notes_untold}
use Rattle.typing_rows.specs.Noted.{AreNoted}
pub use Rattle.typing_rows.proofs.Noted.{plain_scope, still_scoped}
use Rattle.binding_rows.specs.Outside.{Outside, OnlyBetween}
use Rattle.binding_rows.specs.ItemRows.{IsItemNode, IsExceptionNode, recorded_let, recorded_exception, recorded_idle, ItemDone, ItemsDone, GivesLet, item_if, item_at}
use Rattle.binding_rows.proofs.ItemOrders.{idle_done, done_one}
use Rattle.binding_rows.proofs.ItemRows.{item_term}

-- the item of an operand that is a `let`
let_there : (i n : ℕ) (at : Place) (t : Tree) → IsItemNode n t → item_at i (numbered n at (inner t)) ≡ recorded_let i (yield_of t) n t ∷ []
let_there i n at (node r x ps) item = ap item_if (item_term i n x.span (node r x ps) (yield_of (node r x ps)) item)

-- the item of an operand that is `;;`
idle_there : (i n : ℕ) (at : Place) (t : Tree) → row_of t ≡ break_row → item_at i (numbered n at (inner t)) ≡ recorded_idle (number_of i n) ∷ []
unfolding item_row
idle_there i n at (node r x ps) e = ap (λ q. item_if (recorded_item (number_of i n) (item_row q (number_of i n) x.span (part_yield (inner (node r x ps))) (children_of (number_of i n + 1) r ps)))) e

-- the first part that is read is the first operand
first_then : {X Y C : Type 0} (f : X → Option C) (g : Y → Option C) (xs : List X) (ys : List Y) (y : Y) → map f xs ≡ map g ys → first_of ys ≡ Some y → then_by (parts.first_of xs) f ≡ g y
first_then f g [] [] y e is = absurd (cc)
first_then f g [] (z ∷ ys) y e is = absurd (cc)
first_then f g (x ∷ xs) [] y e is = absurd (cc)
first_then f g (x ∷ xs) (z ∷ ys) y e is = let head : f x ≡ g z = cc in let same : z ≡ y = cc in head ∙ ap g same

-- a constructor that is an operand
constructor_there : (i n : ℕ) (t : Tree) → row_of t ≡ con_row → (child_of (number_of i n) 1 (inner t)).constructor ≡ Some (constructor_row (number_of i n) (parts_of i n t))
constructor_there i n (node r x ps) e = ap (λ q. constructor_of q (number_of i n) (children_of (number_of i n + 1) r ps)) e

-- the constructor of an exception
constructor_stands : (i n : ℕ) (t : Tree) (x : IsExceptionNode n t) → then_by (parts.first_of (parts.in_slot 1 (parts_of i n t))) (λ k. k.constructor) ≡ Some (constructor_row (number_of i x.operand.number) (parts_of i x.operand.number x.constructor))
unfolding is_operand
constructor_stands i n t x =
    first_then (λ (k : Child). k.constructor) (λ o. (child_at i 1 o).constructor) (parts.in_slot 1 (parts_of i n t)) (operands_in n t 1) x.operand (children_stand (λ k. k.constructor) i n t 1 x.formed (ap (λ r. is_operand r 1) x.row)) x.there
    ∙ ap (λ p. (child_of (number_of i x.operand.number) 1 p).constructor) x.part
    ∙ constructor_there i x.operand.number x.constructor x.is

-- the item of an operand that is an exception
pub exception_there : (i n : ℕ) (at : Place) (t : Tree) (x : IsExceptionNode n t) → item_at i (numbered n at (inner t)) ≡ recorded_exception i n x.operand.number x.constructor ∷ []
unfolding item_row
exception_there i n at (node r x ps) e = ap item_if (by e.row (constructor_stands i n (node r x ps) e))
  where
    by : r ≡ exception_row → then_by (parts.first_of (parts.in_slot 1 (parts_of i n (node r x ps)))) (λ k. k.constructor) ≡ Some (constructor_row (number_of i e.operand.number) (parts_of i e.operand.number e.constructor)) →
        recorded_item (number_of i n) (item_row r (number_of i n) x.span (part_yield (inner (node r x ps))) (parts_of i n (node r x ps))) ≡ Some (recorded_exception i n e.operand.number e.constructor)
    by row there = ap (λ q. recorded_item (number_of i n) (item_row q (number_of i n) x.span (part_yield (inner (node r x ps))) (parts_of i n (node r x ps)))) row ∙ ap (λ k. recorded_item (number_of i n) (Some (exception_item (number_of i n) k))) there

-- no more names stand after an item that names none
pub none_too : (seen : Seen) → seen_too seen no_names ≡ seen
none_too seen = λ k. record { types = append-nil seen.types k; modules = append-nil seen.modules k; module_types = append-nil seen.module_types k }

-- one item that names none
idle_one : {K : Type 0} {E : Choice → Environment} {m : Item} {a b : Parts} {G : Letters} {after : List Entry} (seen : Seen) → ItemDone as_declared K E m seen no_names a b G after → ItemsDone as_declared K E (m ∷ []) seen seen a b G after
idle_one {K} {E} {m} {a} {b} {G} {after} seen done = subst (λ names. ItemsDone as_declared K E (m ∷ []) seen names a b G after) (none_too seen) (done_one done)

-- A `let` at an operand is done; it names no type and no module.
pub let_done : (a b : Parts) (env after : List Entry) (n : ℕ) (place : Place) (t : Tree) (G : Letters) (E : Choice → Environment) (seen : Seen) → IsItemNode n t → is_aloud a.telling ≡ true → (at : Outside as_declared (sight a) G env E) → HasConstants a → AreNoted at.older a → GivesLet a b env after n t →
    ItemsDone as_declared (at.known ≡ true) E (item_at a.item (numbered n place (inner t))) seen seen a b G after
let_done a b env after n place t G E seen item aloud outside constants noted gives =
    subst (λ ms. ItemsDone as_declared (outside.known ≡ true) E ms seen seen a b G after) (sym (let_there a.item n place t item)) (idle_one seen (gives G E seen item aloud outside constants noted))

-- So is `;;`, for whose node the names in scope are recorded.
pub idle_given : {K : Type 0} (a b : Parts) (env : List Entry) (n : ℕ) (place : Place) (t : Tree) (G : Letters) (E : Choice → Environment) (seen : Seen) → row_of t ≡ break_row → (sight b).scopes a.item n ≡ Some env → OnlyBetween (sight a) (sight b) → (at : Outside as_declared (sight a) G env E) → HasConstants b → AreNoted at.older b → (K → at.known ≡ true) →
    ItemsDone as_declared K E (item_at a.item (numbered n place (inner t))) seen seen a b G env
idle_given {K} a b env n place t G E seen row here only outside constants noted known =
    subst (λ ms. ItemsDone as_declared K E ms seen seen a b G env) (sym (idle_there a.item n place t row)) (idle_one seen (idle_done (number_of a.item n) a.item n refl here seen only outside constants noted known))

-- A node is recorded without a type, and the next item begins.
pub noted_between : (a b : Parts) (number : ℕ) (env : List Entry) → NotedNameless a b number env None → OnlyIndex a b → OnlyBetween (sight a) (sight b)
noted_between a b number env noted rest =
    let notes = plain_notes a b number env noted rest in
    let only = notes_unseen a b notes in
    record { nodes = only.nodes; types = only.types; noted = only.noted; scopes = only.scopes; reports = notes_untold a b notes; aloud = only.aloud; level = only.level; fixed = only.fixed }
