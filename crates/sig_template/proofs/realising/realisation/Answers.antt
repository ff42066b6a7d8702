use Rattle.sig_template.proofs.Staying.{all_declared_later}
use Rattle.sig_template.proofs.realising.realisation.Goals as goal

pub returns-clause-declared : goal.returns-clause-declared
returns-clause-declared c = all_declared_later c.args.at.now.store.nodes c.realise.new.at.store.nodes c.realise.new.self.changes.real.items c.len-older.ensures.sound c.in_ok-realise.ensures.extends

pub returns-in_err-realise-clause-goes : goal.returns-in_err-realise-clause-goes
returns-in_err-realise-clause-goes c = c.realise.ensures.goes

pub returns-clause-goes : goal.returns-clause-goes
returns-clause-goes c = c.realise.ensures.goes
