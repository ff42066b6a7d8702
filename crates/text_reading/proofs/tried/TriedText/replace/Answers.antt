use Rattle.std.proofs.Common.{◌≡◌, ◌+◌, ◌∙◌, ℕ, List, length, length-append, ap, subst, sym, arith}
use Rattle.text_terms.specs.Bytes.{str_bytes}
use Rattle.text_model.specs.Edits.{changed, outcome_of}
use Rattle.text_model.specs.Positions.{position_of}
use Rattle.text_reading.proofs.Trying.{whole_text}
use Rattle.text_reading.proofs.tried.TriedText.replace.Goals as goal

pub returns-in-Ok-clause-text : goal.returns-in-Ok-clause-text
returns-in-Ok-clause-text g c =
    let t = c.text-store.result.now in
    let left = c.slices.result.0.now in
    let right = c.slices.result.1.now in
    let end : ℕ × ℕ = (c.pos_of.result.line, c.pos_of.result.col) in
    let bytes = str_bytes c.in_ok-from_str.field-0 in
    let whole : length left + length right ≡ length t = omega (arith, ap length c.slices.ensures.text, length-append left right) in
    whole_text t bytes end c.in-Ok.field-0 c.apply.new.self.text c.slices.ensures.utf8 (c.pos_of.ensures.value ∙ ap (position_of t) whole)
    (subst (λ (l : List ℕ). outcome_of l (record { start = (1, 0); end = end; bytes = bytes }) ≡ changed c.in-Ok.field-0 c.apply.new.self.text) (sym c.text-store.ensures) c.in-Ok.ensures.done)
    ∙ c.in_ok-from_str.ensures
