use Rattle.typing_state.proofs.Going.{goes_trans}
use Rattle.std.proofs.Common.{rules, ◌≡◌, length, arith}
use Rattle.std.proofs.lemmas.Grind.{common_steps}
use Rattle.typing_steps.proofs.Rows.{equal_asks}
use Rattle.pattern_typing.proofs.Carrying.{if_any}
use Rattle.pattern_typing.proofs.Stepping.{are_two, two_typed, cons_end}
use Rattle.pattern_typing.proofs.patterns.cons_of.Goals.{in_default-via-then-typed-lt2, in_default-via-else-typed-lt2+else-typed-lt3}
use Rattle.pattern_typing.proofs.patterns.cons_of.Goals as goal

pub returns-in_default-clause-carries : goal.returns-in_default-clause-carries
returns-in_default-clause-carries c = if_any c.var.result _ (λ m o p is. let two = are_two c.args.typed.now o p is in
    absurd (elim c.in_default.branch [ in_default-via-then-typed-lt2 w ↦ search rules | in_default-via-else-typed-lt2+else-typed-lt3 w ↦ grind (arith, common_steps) ]))

pub returns-clause-carries : goal.returns-clause-carries
returns-clause-carries c = λ o p is.
    let all = c.args.typed.now in
    let two : length all ≡ 2 = let least = c.in-len2.len_at_least in let below = c.in-len2.len_below in omega arith in
    cons_end c.args.at.now c.list.new.self c.equal.new.self c.args.env.now all c.left-item.result c.right-item.result c.in_ok-whole.whole.0 o p (two_typed all c.left-item.result c.right-item.result two c.left-item.is c.right-item.is) is
    c.in_ok-whole.ensures.made c.list.ensures.rest (equal_asks c.list.new.self c.equal.new.self c.args.env.now _ c.in_ok-equal.ensures.verdict c.equal.ensures.rest c.equal.ensures.goes)

pub returns-clause-goes : goal.returns-clause-goes
returns-clause-goes c = goes_trans c.args.at.now c.list.new.self c.equal.new.self c.list.ensures.goes c.equal.ensures.goes

pub returns-in_default-clause-goes : goal.returns-in_default-clause-goes
returns-in_default-clause-goes c = c.var.ensures.goes

pub returns-in_err-equal-clause-goes : goal.returns-in_err-equal-clause-goes
returns-in_err-equal-clause-goes c = goes_trans c.args.at.now c.list.new.self c.equal.new.self c.list.ensures.goes c.equal.ensures.goes

pub returns-in_err-whole-clause-goes : goal.returns-in_err-whole-clause-goes
returns-in_err-whole-clause-goes c = c.list.ensures.goes
