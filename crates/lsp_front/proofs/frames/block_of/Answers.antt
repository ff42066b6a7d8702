use Rattle.std.proofs.Common.{◌≡◌, ◌∙◌, ◌+◌, ◌-◌, [], sym, ap, arith, take, drop, length, false}
use Rattle.std.specs.Prelude.{◌==◌}
use Rattle.lsp_model.specs.Frames.{block_from}
use Rattle.lsp_front.specs.Heads.{told_of}
use Rattle.lsp_front.proofs.Headers.{line_goes_on, line_ends}
use Rattle.lsp_front.proofs.frames.block_of.Goals.{then-ends_line+else-line-eq1, else-ends_line}
use Rattle.lsp_front.proofs.frames.block_of.Goals as goal

pub loop-at-preserved : goal.loop-at-preserved
loop-at-preserved c =
    let bytes = c.args.bytes.now in
    let at = c.loop-at.at in
    let start = c.loop-at.start in
    let told = c.loop-at.told in
    let rest = drop (at + 1) bytes in
    let line = take (at - start) (drop start bytes) in
    elim c.if-ends_line.branch [
      | then-ends_line+else-line-eq1 w ↦
          let longer : (length line == 1) ≡ false = grind (arith, w.if-line-eq1.false) in
          let none : at + 1 - (at + 1) ≡ 0 = omega arith in
          let empty : take (at + 1 - c.if-ends_line.start) (drop c.if-ends_line.start bytes) ≡ [] = ap (λ n. take (at + 1 - n) (drop n bytes)) w.start-is ∙ ap (λ n. take n rest) none in (
            omega (arith, w.start-is),
            ap (λ l. block_from (at + 1) (told_of c.if-ends_line.told) l rest) empty
                ∙ ap (λ t. block_from (at + 1) t [] rest) (ap told_of w.told-is ∙ w.with_line-told.ensures)
                ∙ line_ends bytes (told_of told) start at c.loop-at-test.true (sym w.if-ends_line.ensures) longer
                ∙ c.loop-at.invariant.1,
          )
      | else-ends_line w ↦ (
        omega (arith, w.start-is, c.loop-at.invariant.0),
        ap (λ n. block_from (at + 1) (told_of c.if-ends_line.told) (take (at + 1 - n) (drop n bytes)) rest) w.start-is
            ∙ ap (λ t. block_from (at + 1) (told_of t) (take (at + 1 - start) (drop start bytes)) rest) w.told-is
            ∙ line_goes_on bytes (told_of told) start at c.loop-at.invariant.0 c.loop-at-test.true (sym w.if-ends_line.ensures)
            ∙ c.loop-at.invariant.1,
      )
    ]
