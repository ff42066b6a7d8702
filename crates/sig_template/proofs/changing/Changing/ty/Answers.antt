use Rattle.std.proofs.Common.{refl}
use Rattle.sig_template.proofs.Turning.{called_turns}
use Rattle.sig_template.proofs.changing.Changing.ty.Goals as goal

pub returns-clause-changed : goal.returns-clause-changed
returns-clause-changed c = called_turns c.copy.result _ c.args.n.0 c.args.at.now.store.nodes c.copy.new.at.store.nodes c.args.copies.now c.copy.new.self refl refl c.copy.ensures.changed c.copy.ensures.extends

pub returns-clause-goes : goal.returns-clause-goes
returns-clause-goes c = c.copy.ensures.goes
