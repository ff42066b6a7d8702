use Rattle.std.proofs.Common.{◌+◌, ◌-◌, Some, sym, ◌∙◌, ap, arith}
use Rattle.text_store.proofs.LinePlaces.{offset-line_zero, offset-past, offset-some, offset-none}
use Rattle.text_store.proofs.places.find_offset.Goals as goal

pub returns-then-at-eq0 : goal.returns-then-at-eq0
returns-then-at-eq0 c = sym (offset-line_zero c.args.text.now.items c.args.at.line c.args.at.col c.if-at-eq0.true)

pub returns-then-starts-below : goal.returns-then-starts-below
returns-then-starts-below c = sym (offset-past c.args.text.now.items c.args.starts.now c.args.at.line (c.args.at.line - 1) c.args.at.col c.requires.starts (omega arith) (omega arith))

pub returns-then-place-next_start : goal.returns-then-place-next_start
returns-then-place-next_start c =
    let some = offset-some c.args.text.now.items c.args.starts.now c.args.at.line (c.args.at.line - 1) c.args.at.col c.requires.starts (omega arith) (omega arith) (omega arith) in
    ap (λ n. Some (n + c.args.at.col)) c.line_start.ensures ∙ sym some

pub returns-else-place-next_start : goal.returns-else-place-next_start
returns-else-place-next_start c = sym (offset-none c.args.text.now.items c.args.starts.now c.args.at.line (c.args.at.line - 1) c.args.at.col c.requires.starts (omega arith) (omega arith))
