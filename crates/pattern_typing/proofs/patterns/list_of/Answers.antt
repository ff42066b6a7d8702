use Rattle.typing_state.proofs.Going.{goes_trans}
use Rattle.std.proofs.lemmas.List.{nil_from_length}
use Rattle.std.proofs.lemmas.Result.{IfOk-weaker}
use Rattle.typing_steps.proofs.Rows.{var_any}
use Rattle.pattern_typing.proofs.Stepping.{list_end, list_end_none}
use Rattle.pattern_typing.proofs.patterns.list_of.Goals as goal

pub returns-in_ok-all_equal-in-Some-clause-carries : goal.returns-in_ok-all_equal-in-Some-clause-carries
returns-in_ok-all_equal-in-Some-clause-carries c =
    IfOk-weaker c.list.result _ _ (λ m made.
    list_end c.args.at.now c.all_equal.new.at c.list.new.self c.args.env.now c.args.typed.now c.in-Some.rest.now c.in-Some.first.now m.0 c.in-Some.ensures.cases.0 c.all_equal.ensures.goes c.in_ok-all_equal-in-Some.ensures.carries made c.list.ensures.rest) c.list.ensures.made

pub returns-in_ok-element-in-None-clause-carries : goal.returns-in_ok-element-in-None-clause-carries
returns-in_ok-element-in-None-clause-carries c =
    IfOk-weaker c.list-in-None.result _ _ (λ m made.
    list_end_none c.args.at.now c.var.new.self c.list-in-None.new.self c.args.env.now c.args.typed.now c.in_ok-element-in-None.element.0 m.0 (nil_from_length c.args.typed.now c.in-None.ensures.cases) (var_any c.args.at.now c.var.new.self c.in_ok-element-in-None.ensures.made c.var.ensures.rest) made c.list-in-None.ensures.rest) c.list-in-None.ensures.made

pub returns-in_err-all_equal-in-Some-clause-goes : goal.returns-in_err-all_equal-in-Some-clause-goes
returns-in_err-all_equal-in-Some-clause-goes c = c.all_equal.ensures.goes

pub returns-in_err-element-in-None-clause-goes : goal.returns-in_err-element-in-None-clause-goes
returns-in_err-element-in-None-clause-goes c = c.var.ensures.goes

pub returns-in_ok-all_equal-in-Some-clause-goes : goal.returns-in_ok-all_equal-in-Some-clause-goes
returns-in_ok-all_equal-in-Some-clause-goes c = goes_trans c.args.at.now c.all_equal.new.at c.list.new.self c.all_equal.ensures.goes c.list.ensures.goes

pub returns-in_ok-element-in-None-clause-goes : goal.returns-in_ok-element-in-None-clause-goes
returns-in_ok-element-in-None-clause-goes c = goes_trans c.args.at.now c.var.new.self c.list-in-None.new.self c.var.ensures.goes c.list-in-None.ensures.goes
