use Rattle.std.proofs.Common.{◌≡◌, ◌+◌, ◌-◌, ◌∙◌, ap, sym, length, arith, length-append}
use Rattle.text_model.specs.Lines.{lines_of}
use Rattle.text_reading.proofs.Places.{few_lines, position_past}
use Rattle.text_reading.proofs.structure.position.Goals as goal

pub overflow_add-result : goal.overflow_add-result
overflow_add-result c = let few = few_lines c.args.store.now in omega (arith, few, c.line_count.ensures, c.slices.ensures.short)

pub returns-else-offset-end : goal.returns-else-offset-end
returns-else-offset-end c =
    let text = c.args.store.now in
    let left = c.slices.result.0.now in
    let right = c.slices.result.1.now in
    let whole : length left + length right ≡ length text = sym (length-append left right) ∙ ap length c.slices.ensures.text in
    ap (λ k. (k + 1, c.args.offset - (length left + length right) - 1)) c.line_count.ensures
    ∙ ap (λ k. (length (lines_of text) + 1, c.args.offset - k - 1)) whole
    ∙ sym (position_past text c.args.offset (omega (arith, whole, c.if-offset-end.false)))
