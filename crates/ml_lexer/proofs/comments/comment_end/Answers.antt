use Rattle.std.proofs.Common.{rules, ◌≡◌, ◌≤◌, ◌<◌, ◌+◌, ap, sym, ◌∙◌, arith, drop, length, length-drop}
use Rattle.ml_lexer.specs.Places.{rest_of}
use Rattle.ml_lexer.specs.Scans.{opens, closes, passes, unclosed, piece_of}
use Rattle.ml_lexer.proofs.Depths.{same_starts, same_opens, same_closes, same_passes, same_ends, same_unclosed, same_past}
use Rattle.ml_lexer.proofs.comments.comment_end.Goals as goal

pub loop-i-init : goal.loop-i-init
loop-i-init c = (omega arith, omega arith, omega arith, c.requires.inside, same_starts (rest_of c.args.text) c.args.from)

pub loop-i-preserved-in-Begins : goal.loop-i-preserved-in-Begins
loop-i-preserved-in-Begins c =
    let w = rest_of c.args.text in
    let i = c.loop-i.i in
    let there : i < length w = search rules in
    let is : piece_of (drop i w) ≡ opens = ap piece_of (sym c.ahead.ensures.rest) ∙ sym c.in-Begins.ensures.value in
    let two : 2 ≤ length (rest_of c.ahead.result) = c.in-Begins.ensures.passes in
    let fits : i + 2 ≤ length w = omega (arith, two, ap length c.ahead.ensures.rest, length-drop i w) in
    (omega arith, omega arith, omega arith, fits, same_opens w c.args.from c.loop-i.depth i (omega arith) there is c.loop-i.invariant.4)

pub loop-i-preserved-in-Ends-2 : goal.loop-i-preserved-in-Ends-2
loop-i-preserved-in-Ends-2 c =
    let w = rest_of c.args.text in
    let i = c.loop-i.i in
    let there : i < length w = search rules in
    let is : piece_of (drop i w) ≡ closes = ap piece_of (sym c.ahead.ensures.rest) ∙ sym c.in-Ends-2.ensures.value in
    let two : 2 ≤ length (rest_of c.ahead.result) = c.in-Ends-2.ensures.passes in
    let fits : i + 2 ≤ length w = omega (arith, two, ap length c.ahead.ensures.rest, length-drop i w) in
    (omega arith, omega arith, omega arith, fits, same_closes w c.args.from c.loop-i.depth i (omega arith) there is c.loop-i.invariant.4)

pub loop-i-preserved : goal.loop-i-preserved
loop-i-preserved c =
    let w = rest_of c.args.text in
    let i = c.loop-i.i in
    let there : i < length w = search rules in
    let is : piece_of (drop i w) ≡ passes c.in-Passes.size = ap piece_of (sym c.ahead.ensures.rest) ∙ sym c.in-Passes.ensures.value in
    let passed = c.in-Passes.ensures.passes in
    let fits : i + c.in-Passes.size ≤ length w = omega (arith, passed.1, ap length c.ahead.ensures.rest, length-drop i w) in
    (omega arith, omega arith, omega arith, fits, same_passes w c.args.from c.loop-i.depth i c.in-Passes.size (omega arith) there is c.loop-i.invariant.4)

pub returns-in-Ends-clause-closed : goal.returns-in-Ends-clause-closed
returns-in-Ends-clause-closed c =
    let w = rest_of c.args.text in
    let i = c.loop-i.i in
    let there : i < length w = search rules in
    let is : piece_of (drop i w) ≡ closes = ap piece_of (sym c.ahead.ensures.rest) ∙ sym c.in-Ends.ensures.value in
    same_ends w c.args.from c.loop-i.depth i c.if-depth-eq1.true there is c.loop-i.invariant.4

pub returns-in-Ends-clause-within : goal.returns-in-Ends-clause-within
returns-in-Ends-clause-within c =
    let w = rest_of c.args.text in
    let two : 2 ≤ length (rest_of c.ahead.result) = c.in-Ends.ensures.passes in
    (omega arith, omega (arith, two, ap length c.ahead.ensures.rest, length-drop c.loop-i.i w))

pub returns-in-Unclosed-clause-unclosed : goal.returns-in-Unclosed-clause-unclosed
returns-in-Unclosed-clause-unclosed c =
    let w = rest_of c.args.text in
    let is : piece_of (drop c.loop-i.i w) ≡ unclosed = ap piece_of (sym c.ahead.ensures.rest) ∙ sym c.in-Unclosed.ensures.value in
    same_unclosed w c.args.from c.loop-i.depth c.loop-i.i (omega arith) is c.loop-i.invariant.4

pub returns-clause-unclosed : goal.returns-clause-unclosed
returns-clause-unclosed c =
    let w = rest_of c.args.text in
    same_past w c.args.from c.loop-i.depth c.loop-i.i (omega arith) (omega arith) c.loop-i.invariant.4
