use Rattle.std.proofs.Common.{sym, ◌∙◌}
use Rattle.frame_steps.proofs.Takers.{past_some}
use Rattle.frame_steps.proofs.deep.+past_musts.Goals as goal

pub returns-in-Some : goal.returns-in-Some
returns-in-Some t c f S at i =
    past_some c.args.text c.args.musts f S at c.in-Some.spot c.args.taker c.missing_at.result c.past_musts.result c.if-musts-eq0.false (sym c.in-Some.is ∙ c.must_come.ensures) i c.missing_at.ensures c.past_musts.ensures
