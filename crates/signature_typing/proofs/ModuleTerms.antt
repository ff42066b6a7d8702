-- The item of the definitions that a module of a signature of values is, by its operands.
use Rattle.std.proofs.Common.{◌≡◌, ◌∙◌, ℕ, true, List, [], ◌∷◌, ◌++◌, map, filter_map, Option, Some, None, refl, ap}
use Rattle.std.specs.List.{cons_option}
use Rattle.tree_model.specs.Rows.{ysig_row}
use Rattle.tree_model.specs.Slots.{is_operand}
use Rattle.tree_model.specs.Trees.{Place, Tree, Part, node, taken, inner, missing, part_yield}
use Rattle.typing_model.specs.Parts as parts
use Rattle.typing_model.specs.Parts.{Child, Item, optional_tokens_in, module_types_in, module_type_in, no_module_type_at}
use Rattle.typing_model.specs.Modules.{signature_item_row, module_type_row, module_specification, paired, signature_text}
use Rattle.typing_model.specs.Meanings.{child_of, recorded_item, recorded_module_type}
use Rattle.row_parts.specs.Numbered.{Numbered, numbered, operands_in, first_of, filled_in}
use Rattle.operand_laws.specs.Formed.{row_of, is_needed, IsFormed, IsPartFormed}
use Rattle.operand_laws.specs.Operands.{number_of, parts_of, child_at}
use Rattle.operand_laws.proofs.Going.{filled_formed}
use Rattle.operand_laws.proofs.Sorts.{children_stand, chosen_stand}
use Rattle.operand_laws.proofs.There.{filled_first}
use Rattle.operand_laws.proofs.Tokens.{token_stands}
use Rattle.binding_rows.specs.ItemRows.{item_if}
use Rattle.signature_typing.specs.ValueItems.{items_within, IsValuesSignature, IsValuesModuleNode, values_of}
use Rattle.signature_typing.specs.Specifications.{specification_at, specifications_at}
use Rattle.signature_typing.proofs.ModuleItems.{recorded_module}

-- what a part is as an item of a signature doesn't depend on its slot
item_anywhere : (n s : ℕ) (p : Part) → (child_of n s p).signature_item ≡ (child_of n 0 p).signature_item
item_anywhere n s (taken t) = refl
item_anywhere n s (inner (node r x ps)) = refl
item_anywhere n s (missing at) = refl

before_items : (m : Option Item) (ms : List Item) → cons_option m ms ≡ item_if m ++ ms
before_items None ms = refl
before_items (Some m) ms = refl

specified_by : (i : ℕ) (os : List Numbered) → filter_map (λ o. (child_at i 1 o).signature_item) os ≡ specifications_at i os
specified_by i [] = refl
specified_by i (o ∷ os) =
    ap (λ m. cons_option m (filter_map (λ o. (child_at i 1 o).signature_item) os)) (item_anywhere (number_of i o.number) 1 o.part)
    ∙ ap (cons_option (child_at i 0 o).signature_item) (specified_by i os)
    ∙ before_items (child_at i 0 o).signature_item (specifications_at i os)

-- a signature as a module type
signature_term : (i n : ℕ) (t : Tree) → row_of t ≡ ysig_row → IsFormed n t → (child_of (number_of i n) 8 (inner t)).module_type ≡ recorded_module_type (number_of i n) (signature_text (number_of i n) (specifications_at i (operands_in n t 1)))
unfolding module_type_row is_operand
signature_term i n (node r x ps) row formed =
    ap (λ q. recorded_module_type (number_of i n) (module_type_row q (number_of i n) (parts_of i n (node r x ps)))) row
    ∙ ap (λ ms. recorded_module_type (number_of i n) (signature_text (number_of i n) ms)) (chosen_stand (λ (k : Child). k.signature_item) i n (node r x ps) 1 formed (ap (λ q. is_operand q 1) row) ∙ specified_by i (operands_in n (node r x ps) 1))

-- the same at an operand
signature_there : (i n : ℕ) (p : Part) → IsPartFormed n p → IsValuesSignature n p → (child_of (number_of i n) 8 p).module_type ≡ recorded_module_type (number_of i n) (signature_text (number_of i n) (specifications_at i (items_within n p)))
signature_there i n (taken t) formed h = absurd h
signature_there i n (inner t) formed h = signature_term i n t h.0 formed
signature_there i n (missing at) formed h = absurd h

-- the first of a list that is read
first_read : {X A : Type 0} (f : X → A) (none : A) (ys : List X) (y : X) → first_of ys ≡ Some y → elim (parts.first_of (map f ys)) [ None ↦ none | Some a ↦ a ] ≡ f y
first_read f none [] y e = absurd (cc)
first_read f none (z ∷ ys) y e = let same : z ≡ y = cc in ap f same

-- the module type in a slot that the row needs is that of the operand
pub module_type_stands : (i n : ℕ) (t : Tree) (s : ℕ) → IsFormed n t → is_operand (row_of t) s ≡ true → is_needed (row_of t) s ≡ true → module_type_in s (parts_of i n t) ≡ (child_at i s (filled_in n t s)).module_type
module_type_stands i n t s formed takes needs =
    ap (λ ys. elim (parts.first_of ys) [ None ↦ no_module_type_at 0 | Some y ↦ y ]) (children_stand (λ (k : Child). k.module_type) i n t s formed takes)
    ∙ first_read (λ o. (child_at i s o).module_type) (no_module_type_at 0) (operands_in n t s) (filled_in n t s) (filled_first n t s formed takes needs)

-- The item of an operand that is a module of a signature of values.
pub module_there : (i n : ℕ) (at : Place) (t : Tree) (e : IsValuesModuleNode n t) → specification_at i (numbered n at (inner t)) ≡ recorded_module (number_of i n) (number_of i (filled_in n t 8).number) e.name (specifications_at i (values_of n t)) ∷ []
unfolding signature_item_row is_operand is_needed
module_there i n at (node r x ps) e =
    let t : Tree = node r x ps in
    let cs = parts_of i n t in
    let N = number_of i n in
    ap (λ q. item_if (recorded_item N (signature_item_row q N x.span (part_yield (inner t)) cs))) e.row
    ∙ ap (λ k. item_if (recorded_item N (Some (module_specification N k (paired (optional_tokens_in 3 cs) (module_types_in 5 cs)) (module_type_in 8 cs))))) (token_stands i n t 1 ∙ e.named)
    ∙ ap (λ ys. item_if (recorded_item N (Some (module_specification N (Some e.name) (paired (optional_tokens_in 3 cs) ys) (module_type_in 8 cs))))) (children_stand (λ (k : Child). k.module_type) i n t 5 e.formed (ap (λ q. is_operand q 5) e.row) ∙ ap (map (λ o. (child_at i 5 o).module_type)) e.alone)
    ∙ ap (λ y. item_if (recorded_item N (Some (module_specification N (Some e.name) [] y))))
    (module_type_stands i n t 8 e.formed (ap (λ q. is_operand q 8) e.row) (ap (λ q. is_needed q 8) e.row) ∙ signature_there i (filled_in n t 8).number (filled_in n t 8).part (filled_formed n t 8 e.formed) e.values)
