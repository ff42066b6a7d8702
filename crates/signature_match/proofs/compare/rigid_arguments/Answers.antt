use Rattle.typing_state.proofs.Going.{goes_refl, goes_trans}
use Rattle.signature_match.proofs.compare.rigid_arguments.Goals as goal

pub loop-init : goal.loop-init
loop-init c = goes_refl c.args.at.now

pub loop-preserved : goal.loop-preserved
loop-preserved c = goes_trans c.args.at.now c.loop.at c.rigid.new.self c.loop.invariant c.rigid.ensures.goes

pub returns-in_err-made : goal.returns-in_err-made
returns-in_err-made c = record { goes = goes_trans c.args.at.now c.loop.at c.rigid.new.self c.loop.invariant c.rigid.ensures.goes }

pub returns-in_err-push : goal.returns-in_err-push
returns-in_err-push c = record { goes = goes_trans c.args.at.now c.loop.at c.rigid.new.self c.loop.invariant c.rigid.ensures.goes }

pub returns : goal.returns
returns c = record { goes = c.loop.invariant }
