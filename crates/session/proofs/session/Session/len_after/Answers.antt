use Rattle.std.proofs.Common.{arith, ◌≡◌, ap, length, List, ℕ}
use Rattle.text_model.proofs.Whole.{made_of, length_apply}
use Rattle.text_store.specs.Edits.{edit_of}
use Rattle.text_terms.specs.Bytes.{str_bytes}
use Rattle.session.proofs.session.Session.len_after.Goals as goal

pub returns-in_default : goal.returns-in_default
returns-in_default g c = λ first new is.
    let made = made_of c.args.self.now.text (edit_of c.args.edit.now) first new is in
    let there = made.start_is in
    let none = c.in_default.ensures.value in
    let same = c.text.ensures in
    cc

pub returns-in_default-offset_of : goal.returns-in_default-offset_of
returns-in_default-offset_of g c = λ first new is.
    let made = made_of c.args.self.now.text (edit_of c.args.edit.now) first new is in
    let there = made.end_is in
    let none = c.in_default-offset_of.ensures.value in
    let same = c.text-2.ensures in
    cc

pub returns : goal.returns
returns g c = λ first new is.
    let text = c.args.self.now.text in
    let bytes = str_bytes c.args.edit.now.text in
    let made = made_of text (edit_of c.args.edit.now) first new is in
    let from : c.in-Ok.start ≡ made.from = (let there = made.start_is in let here = c.in-Ok.ensures.value in let same = c.text.ensures in cc) in
    let to : c.in-Ok-offset_of.end ≡ made.to = (let there = made.end_is in let here = c.in-Ok-offset_of.ensures.value in let same = c.text-2.ensures in cc) in
    omega (
      arith,
      from,
      to,
      made.order,
      made.short,
      ap (λ (l : List ℕ). length l) made.text_is,
      length_apply text bytes made.from made.to made.order (omega (arith, to, c.in-Ok-offset_of.ensures.within, ap (λ (l : List ℕ). length l) c.text-2.ensures)),
      ap (λ (l : List ℕ). length l) c.text-2.ensures,
      ap (λ (l : List ℕ). length l) c.text-3.ensures,
      c.saturating_add.ensures,
      c.saturating_sub-kept.ensures,
      c.saturating_sub-cut.ensures,
      c.len.ensures,
      ap (λ (l : List ℕ). length l) c.as_str.ensures,
      c.in-Ok-offset_of.ensures.within,
    )
