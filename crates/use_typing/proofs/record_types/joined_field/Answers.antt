use Rattle.typing_state.proofs.Going.{goes_trans}
use Rattle.use_typing.proofs.Recording.{field_taken}
use Rattle.use_typing.proofs.record_types.joined_field.Goals as goal

pub returns-clause-takes : goal.returns-clause-takes
returns-clause-takes c = field_taken c.args.label.now c.args.at.now c.label_use.new.at c.join.new.self c.in_ok-used.used c.args.owner.0 c.in_ok-used.ensures.label c.label_use.ensures.rest c.in_ok-join.ensures.joined c.len-nodes.ensures.sound c.join.ensures.rest c.join.ensures.goes

pub returns-clause-goes : goal.returns-clause-goes
returns-clause-goes c = goes_trans c.args.at.now c.label_use.new.at c.join.new.self c.label_use.ensures.goes c.join.ensures.goes

pub returns-in_err-join-clause-goes : goal.returns-in_err-join-clause-goes
returns-in_err-join-clause-goes c = goes_trans c.args.at.now c.label_use.new.at c.join.new.self c.label_use.ensures.goes c.join.ensures.goes

pub returns-in_err-used-clause-goes : goal.returns-in_err-used-clause-goes
returns-in_err-used-clause-goes c = c.label_use.ensures.goes
