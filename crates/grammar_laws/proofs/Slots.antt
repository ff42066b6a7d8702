-- The slots of a named row take operands where the spots of the table's row do.
use Rattle.std.proofs.Common.{◌≡◌, ◌≢◌, ℕ, Bool, true, false, not, refl, subst, arith, if◌then◌else◌}
use Rattle.std.specs.Prelude.{slice_get}
use Rattle.tree_model.specs.Rows as names
use Rattle.tree_model.specs.Slots as slots
use Rattle.grammar_model.specs.Named.{slot_of}
use Rattle.grammar_model.specs.Tables.{What, nothing, token, operand}
use Rattle.grammar_model.specs.Rows.{Row, row_at, or_else, is_left}
use Rattle.grammar_model.specs.Checks.{each, each_spot}
use Rattle.grammar_model.specs.Words.{row_names}
use Rattle.recovery_model.specs.Steps.{is_operand}
use Rattle.grammar_model.specs.Ocaml.{rows, Text, grammar, row_name}
use Rattle.grammar_laws.proofs.Instance.{each_row, spot_get}

-- the name of a row
abbrev name_of : Row → names.Row
name_of w = or_else names.program_row (slice_get row_names w.name)

-- the slot of a spot takes an operand where the spot does
abbrev slot_fits : names.Row → ℕ → What → Bool
slot_fits r p nothing = true
slot_fits r p (token ks) = not (slots.is_operand r (slot_of p))
slot_fits r p (operand s n) = slots.is_operand r (slot_of p)

-- so does the slot of each spot of a row
abbrev slots_fit : ℕ → Row → Bool
slots_fit i w = each_spot 0 w.spots (λ p s. slot_fits (name_of w) p s.what)

-- a row with a left operand has it in its slot 0
abbrev left_fits : ℕ → Row → Bool
left_fits i w = if is_left w.left then slots.is_operand (name_of w) 0 else true

each_fits : each 0 rows slots_fit ≡ true
unfolding rows slots.is_operand
each_fits = refl

each_left_fits : each 0 rows left_fits ≡ true
unfolding rows slots.is_operand
each_left_fits = refl

not_true : (b : Bool) → not b ≡ true → b ≡ false
not_true true h = absurd (cc)
not_true false h = refl

-- where it fits, the slot takes an operand exactly where the spot does
fitting : (r : names.Row) (p : ℕ) (w : What) → w ≢ nothing → slot_fits r p w ≡ true → slots.is_operand r (slot_of p) ≡ is_operand w
fitting r p nothing there h = absurd (there refl)
fitting r p (token ks) there h = not_true (slots.is_operand r (slot_of p)) h
fitting r p (operand s n) there h = h

-- what stands at a spot of a row is an operand exactly where the slot of the spot takes one, by the row's name
pub slot_takes : (text : Text) (r p : ℕ) → (grammar text).what r p ≢ nothing → slots.is_operand (row_name r) (slot_of p) ≡ is_operand ((grammar text).what r p)
slot_takes text r p there =
    fitting (row_name r) p ((grammar text).what r p) there
    (subst (λ j. slot_fits (row_name r) j ((grammar text).what r p) ≡ true) (omega arith)
    (spot_get (λ q s. slot_fits (row_name r) q s.what) (row_at rows r).spots 0 (each_row slots_fit rows each_fits (λ j. refl) r) p (λ j. refl)))

left_fitting : (b c : Bool) → b ≡ true → (if b then c else true) ≡ true → c ≡ true
left_fitting true c e h = h
left_fitting false c e h = absurd (cc)

-- a left operand has the slot 0, which takes an operand, by the row's name
pub left_slot_takes : (text : Text) (r : ℕ) → (grammar text).has_left r ≡ true → slots.is_operand (row_name r) 0 ≡ true
left_slot_takes text r h = left_fitting ((grammar text).has_left r) (slots.is_operand (row_name r) 0) h (each_row left_fits rows each_left_fits (λ j. refl) r)
