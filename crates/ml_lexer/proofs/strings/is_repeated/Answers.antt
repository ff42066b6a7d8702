use Rattle.std.proofs.Common.{rules, ◌≡◌, ◌+◌, ◌-◌, get_or, sym, ◌∙◌, take, drop, arith}
use Rattle.ml_lexer.specs.Places.{rest_of}
use Rattle.ml_lexer.specs.Scans.{front_is}
use Rattle.ml_lexer.proofs.Repeats.{repeated_more, repeated_past, other_front, same_front}
use Rattle.ml_lexer.proofs.strings.is_repeated.Goals as goal

pub returns-then-place-len : goal.returns-then-place-len
returns-then-place-len c =
    let w = rest_of c.args.text in
    sym (c.loop-i.invariant ∙ repeated_past w c.loop-i.i c.args.to (c.args.at + (c.loop-i.i - c.args.from)) (search rules) (search rules) (omega arith))

pub returns-then-peek : goal.returns-then-peek
returns-then-peek c =
    let w = rest_of c.args.text in
    let i = c.loop-i.i in
    let at = c.args.at + (i - c.args.from) in
    let rest = front_is (take (c.args.to - (i + 1)) (drop (i + 1) w)) (drop (c.args.at + (i + 1 - c.args.from)) w) in
    let other : get_or w at 0 ≡ get_or w i 0 → ⊥ = λ e. c.if-peek.true (c.peek.ensures ∙ e ∙ sym c.peek-in-loop-i.ensures) in
    sym (c.loop-i.invariant ∙ repeated_more w c.args.from c.args.to c.args.at i (search rules) (search rules) (search rules) (omega arith) ∙ other_front (get_or w at 0) (get_or w i 0) rest other)

pub loop-i-preserved : goal.loop-i-preserved
loop-i-preserved c =
    let w = rest_of c.args.text in
    let i = c.loop-i.i in
    let at = c.args.at + (i - c.args.from) in
    let rest = front_is (take (c.args.to - (i + 1)) (drop (i + 1) w)) (drop (c.args.at + (i + 1 - c.args.from)) w) in
    let same : get_or w at 0 ≡ get_or w i 0 = sym c.peek.ensures ∙ c.if-peek.false ∙ c.peek-in-loop-i.ensures in
    c.loop-i.invariant ∙ repeated_more w c.args.from c.args.to c.args.at i (search rules) (search rules) (search rules) (omega arith) ∙ same_front (get_or w at 0) (get_or w i 0) rest same
