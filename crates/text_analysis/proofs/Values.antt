-- Items that are `let`, `;;` and exceptions without an argument are carried.
use Rattle.std.proofs.Common.{◌≡◌, ◌∙◌, inl, inr, ◌<◌, ◌^◌, true, List, [], ◌∷◌, sym, ap, subst}
use Rattle.std.specs.Prelude.{All}
use Rattle.std.proofs.lemmas.List.Elements.{All-nil, All-cons, All-head, All-tail}
use Rattle.tree_model.specs.Rows as rows
use Rattle.tree_model.specs.Rows.{Row}
use Rattle.tree_model.specs.Trees.{Tree, Extent, Forest, node, size_of}
use Rattle.typing_model.specs.First.{program_items}
use Rattle.typing_model.specs.Plain.{is_value_row, has_values_alone}
use Rattle.fault_model.specs.Refused.{AreOfValues}
use Rattle.fault_model.specs.Values.{is_bare_item, are_bare}
use Rattle.typing_laws.proofs.Bools.{no_yes, and_cases}
use Rattle.binding_rows.specs.ItemRows.{IsCarriedItem}
use Rattle.parsed_rows.specs.Items.{IsOtherItem}
use Rattle.parsed_rows.proofs.Items.{lets_carried}
use Rattle.parsed_rows.proofs.Bare.{never_nameless}
use Rattle.module_typing.specs.Items.{AreCarriedItems}
use Rattle.text_analysis.specs.Given.{operands_of}

-- items that are carried are so as operands
all_carried : (ts : List Tree) → All (IsCarriedItem 0) ts → AreCarriedItems (operands_of ts)
all_carried [] h = tt
all_carried (t ∷ ts) h = (All-head (IsCarriedItem 0) t ts h, all_carried ts (All-tail (IsCarriedItem 0) t ts h))

-- an item that is a `let`, `;;` or an exception with a name and without an argument is of no other kind
value_alone : (r : Row) (x : Extent) (ps : Forest) → is_value_row r ≡ true → is_bare_item (node r x ps) ≡ true → IsOtherItem 0 (node r x ps) → ⊥
value_alone rows.let_row x ps e bare (inl other) = other
value_alone rows.let_row x ps e bare (inr (row, nameless)) = absurd (cc)
value_alone rows.exception_row x ps e bare (inl other) = other
value_alone rows.exception_row x ps e bare (inr (row, nameless)) = never_nameless 0 rows.exception_row x ps bare nameless
value_alone rows.break_row x ps e bare (inl other) = other
value_alone rows.break_row x ps e bare (inr (row, nameless)) = absurd (cc)
value_alone _ x ps e bare other = absurd (no_yes e)

-- so is none of a text of these
none_other : (ts : List Tree) → has_values_alone ts ≡ true → are_bare ts ≡ true → All (λ t. IsOtherItem 0 t → ⊥) ts
none_other [] e bare = All-nil (λ t. IsOtherItem 0 t → ⊥)
none_other (node r x ps ∷ ts) e bare =
    let (first, others) = and_cases (is_value_row r) (has_values_alone ts) e in
    let (first_bare, others_bare) = and_cases (is_bare_item (node r x ps)) (are_bare ts) bare in
    All-cons (λ t. IsOtherItem 0 t → ⊥) (node r x ps) ts (value_alone r x ps first first_bare) (none_other ts others others_bare)

-- items that are `let`, `;;` and such exceptions alone are carried
pub values_are_carried : (items : List Tree) → AreOfValues items → AreCarriedItems (operands_of items)
values_are_carried items t =
    all_carried items (subst (All (IsCarriedItem 0)) (sym t.parsed)
    (lets_carried t.tokens (subst (All (λ u. size_of u < 2 ^ 32)) t.parsed t.few) (none_other (program_items t.tokens) (ap has_values_alone (sym t.parsed) ∙ t.values) (ap are_bare (sym t.parsed) ∙ t.bare))))
