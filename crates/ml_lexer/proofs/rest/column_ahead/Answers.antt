use Rattle.std.proofs.Common.{◌<◌, sym, ◌∙◌, arith}
use Rattle.ml_lexer.specs.Places.{rest_of}
use Rattle.ml_lexer.proofs.Columns.{column_step, step_small}
use Rattle.ml_lexer.proofs.rest.column_ahead.Goals as goal

pub loop-i-preserved : goal.loop-i-preserved
loop-i-preserved c =
    let w = rest_of c.args.text in
    let i = c.loop-i.i in
    let inside = c.requires.inside in
    let lt : i < c.args.by = c.loop-i-test.true in
    let small = step_small c.peek.result c.loop-i.found c.column_past-found.result c.column_past-found.ensures in
    let before = c.loop-i.invariant.1 in (
      sym (column_step w i c.args.by c.loop-i.found c.peek.result c.column_past-found.result lt (omega arith) c.peek.ensures c.column_past-found.ensures) ∙ c.loop-i.invariant.0,
      omega arith,
    )
