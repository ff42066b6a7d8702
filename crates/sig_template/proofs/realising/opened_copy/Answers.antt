use Rattle.sig_template.proofs.realising.opened_copy.Goals as goal

pub returns-in_err-root-clause-goes : goal.returns-in_err-root-clause-goes
returns-in_err-root-clause-goes c = c.copy.ensures.goes

pub returns-in_err-push-clause-goes : goal.returns-in_err-push-clause-goes
returns-in_err-push-clause-goes c = c.copy.ensures.goes

pub returns-clause-goes : goal.returns-clause-goes
returns-clause-goes c = c.copy.ensures.goes
