-- A module of the prelude is one of a signature of values.
use Rattle.std.proofs.Common.{inr, ◌≡◌, ℕ, true, ◌&&◌, List, [], ◌∷◌, Option, Some, None, refl}
use Rattle.std.specs.Prelude.{All}
use Rattle.std.proofs.lemmas.List.Elements.{All-head, All-tail}
use Rattle.token_model.specs.Kinds.{Tok}
use Rattle.tree_model.specs.Rows.{Row, val_row, gmodule_row, ysig_row}
use Rattle.tree_model.specs.Trees.{Tree, Part, taken, inner, missing}
use Rattle.row_parts.specs.Numbered.{Numbered, operands_in, filled_in, token_in}
use Rattle.operand_laws.specs.Formed.{row_of, IsFormed, IsPartFormed, IsOperandFormed}
use Rattle.operand_laws.proofs.Going.{operands_formed, filled_formed}
use Rattle.signature_typing.specs.ValueItems.{IsValueNode, IsValuePart, AreValues, IsValuesSignature, IsValuesModuleNode}
use Rattle.prelude_checks.proofs.Checked.{both}
use Rattle.prelude_checks.proofs.Items.{is_there, is_value, value_fits, values_fit, is_signature, signature_fits, are_none, module_fits, OfRow}

value_by : (n : ℕ) (t : Tree) → IsFormed n t → (r : Row) → row_of t ≡ r → is_value r t ≡ true → IsValueNode n t
value_by n t formed val_row row h = named_by (token_in t 1) refl h
  where
    named_by : (o : Option Tok) → token_in t 1 ≡ o → is_there o ≡ true → IsValueNode n t
    named_by None e h = absurd (cc)
    named_by (Some k) e h = record { formed = formed; row = row; name = k; named = e }
value_by n t formed _ row h = absurd (cc)

value_part : (n : ℕ) (p : Part) → IsPartFormed n p → value_fits p ≡ true → IsValuePart n p
value_part n (taken t) formed h = absurd (cc)
value_part n (inner t) formed h = value_by n t formed (row_of t) refl h
value_part n (missing at) formed h = absurd (cc)

values_are : (os : List Numbered) → All IsOperandFormed os → values_fit os ≡ true → AreValues os
values_are [] formed h = tt
values_are (o ∷ os) formed h =
    let r = both (value_fits o.part) (values_fit os) h in
    (value_part o.number o.part (All-head IsOperandFormed o os formed) r.0, values_are os (All-tail IsOperandFormed o os formed) r.1)

signature_by : (n : ℕ) (t : Tree) → IsFormed n t → (r : Row) → row_of t ≡ r → is_signature r n t ≡ true → IsValuesSignature n (inner t)
signature_by n t formed ysig_row row h = (row, values_are (operands_in n t 1) (operands_formed n t 1 formed) h)
signature_by n t formed _ row h = absurd (cc)

signature_part : (n : ℕ) (p : Part) → IsPartFormed n p → signature_fits n p ≡ true → IsValuesSignature n p
signature_part n (taken t) formed h = absurd (cc)
signature_part n (inner t) formed h = signature_by n t formed (row_of t) refl h
signature_part n (missing at) formed h = absurd (cc)

none_there : (os : List Numbered) → are_none os ≡ true → os ≡ []
none_there [] h = refl
none_there (o ∷ os) h = absurd (cc)

-- A module whose row fits is one of a signature of values.
module_by : (n : ℕ) (t : Tree) → IsFormed n t → row_of t ≡ gmodule_row → module_fits n t ≡ true → IsValuesModuleNode n t
module_by n t formed row h =
    let r = both (is_there (token_in t 1)) (are_none (operands_in n t 5) && signature_fits (filled_in n t 8).number (filled_in n t 8).part) h in
    let q = both (are_none (operands_in n t 5)) (signature_fits (filled_in n t 8).number (filled_in n t 8).part) r.1 in
    named_by (none_there (operands_in n t 5) q.0) (signature_part (filled_in n t 8).number (filled_in n t 8).part (filled_formed n t 8 formed) q.1) (token_in t 1) refl r.0
  where
    named_by : operands_in n t 5 ≡ [] → IsValuesSignature (filled_in n t 8).number (filled_in n t 8).part → (o : Option Tok) → token_in t 1 ≡ o → is_there o ≡ true → IsValuesModuleNode n t
    named_by alone values None e h = absurd (cc)
    named_by alone values (Some k) e h = record { formed = formed; row = row; name = k; named = e; alone = alone; values = values }

-- So it is an item that is carried.
pub modules_carried : OfRow gmodule_row
modules_carried n t formed row h = inr (inr (inr (module_by n t formed row h)))
