-- The sizes of a text, and a text with bytes put behind it.
use Rattle.std.proofs.Common.{◌≡◌, ℕ, ◌+◌, List, ◌++◌, length, map, drop, append-nil, Some, sym, ◌∙◌, ap, subst, arith, true, false}
use Rattle.std.proofs.lemmas.List.{take_all, drop_all}
use Rattle.text_model.specs.Edits.{apply, changed, outcome_of}
use Rattle.text_model.specs.Positions.{offset, position_of}
use Rattle.text_model.proofs.Positions.{offset-position_of}
use Rattle.text_model.proofs.Whole.{made_of}
use Rattle.query_model.specs.Faults.{TyperFault}
use Rattle.service_model.specs.Made.{HasFaultsBy, SizesAre}
use Rattle.syntax_tree.specs.View.{trees_of}
use Rattle.text_queries.specs.Faults.{fault_of}
use Rattle.text_reading.specs.PlainTexts.{IsReadAs}
use Rattle.text_reading.specs.Structures.{parsed_in}
use Rattle.text_reading.specs.declared.reading.ReadText.{ReadText}
use Rattle.session.specs.declared.session.Sizes.{Sizes}

-- an edit behind the last byte puts its bytes there
pub appended : (text bytes : List ℕ) (end : ℕ × ℕ) (first : ℕ) (new : List ℕ) → end ≡ position_of text (length text)
    → outcome_of text (record { start = end; end = end; bytes = bytes }) ≡ changed first new → new ≡ text ++ bytes
appended text bytes end first new at is =
    let n = length text in
    let there : offset text end.0 end.1 ≡ Some n = subst (λ (p : ℕ × ℕ). offset text p.0 p.1 ≡ Some n) (sym at) (offset-position_of text n (omega arith)) in
    let made = made_of text (record { start = end; end = end; bytes = bytes }) first new is in
    let from : made.from ≡ n = (let s = made.start_is in cc) in
    let to : made.to ≡ n = (let e = made.end_is in cc) in
    made.text_is ∙ ap (λ k. apply text k made.to bytes) from ∙ ap (λ k. apply text n k bytes) to
    ∙ ap (λ (l : List ℕ). l ++ bytes ++ drop n text) (take_all n text (omega arith))
    ∙ ap (λ (l : List ℕ). text ++ bytes ++ l) (drop_all n text (omega arith)) ∙ append-nil (text ++ bytes)

-- the sizes of a text that is well typed
pub sizes_plain : (text : List ℕ) (read : ReadText) (s : Sizes) → IsReadAs text read → read.is_well_typed ≡ true
    → s.items ≡ length (trees_of (parsed_in read.parsed).tree) → s.faults ≡ length (map fault_of (parsed_in read.parsed).faults.items) + 0 → SizesAre text s.items s.faults
sizes_plain text read s h is items faults =
    let none : s.faults ≡ length (map fault_of (parsed_in read.parsed).faults.items) = omega (arith, faults) in (
      h.tokens,
      h.lexed,
      items ∙ ap length h.items,
      subst (λ w. HasFaultsBy w h.tokens s.faults) (sym is ∙ h.well_typed) (none ∙ ap length h.faults),
    )

-- the sizes of another text
pub sizes_typed : (text : List ℕ) (read : ReadText) (s : Sizes) (n : ℕ) (typed : List TyperFault) → IsReadAs text read → read.is_well_typed ≡ false → n ≡ length typed
    → s.items ≡ length (trees_of (parsed_in read.parsed).tree) → s.faults ≡ length (map fault_of (parsed_in read.parsed).faults.items) + n → SizesAre text s.items s.faults
sizes_typed text read s n typed h is some items faults = (
  h.tokens,
  h.lexed,
  items ∙ ap length h.items,
  subst (λ w. HasFaultsBy w h.tokens s.faults) (sym is ∙ h.well_typed)
      (typed, (let same = ap length h.faults in omega (arith, faults, same, some))),
)
