use Rattle.std.proofs.Common.{sym, subst}
use Rattle.frame_steps.specs.Course.{past_musts, past_operand}
use Rattle.frame_steps.specs.View.{text_table, IsTaker}
use Rattle.frame_steps.proofs.Takers.{missing_taker}
use Rattle.frame_steps.proofs.deep.past_way.Goals as goal

pub returns-in-None : goal.returns-in-None
returns-in-None c f S at i =
    subst (λ o. IsTaker c.past_musts-behind.result (past_operand o (past_musts c.args.way.musts (text_table c.args.text) f at) at, S)) (sym c.in-None.is) (c.past_musts-behind.ensures f S at i)

pub returns-in-Some : goal.returns-in-Some
returns-in-Some c f S at i =
    subst (λ o. IsTaker c.missing_at.result (past_operand o (past_musts c.args.way.musts (text_table c.args.text) f at) at, S)) (sym c.in-Some.is)
    (missing_taker (past_musts c.args.way.musts (text_table c.args.text) f at) S at c.in-Some.spot c.past_musts-behind.result c.missing_at.result c.missing_at.ensures (c.past_musts-behind.ensures f S at i))
