use Rattle.sig_template.proofs.changing.Changing.latest.Goals as goal

pub returns-in_err-new-clause-goes : goal.returns-in_err-new-clause-goes
returns-in_err-new-clause-goes c = c.declaration.ensures.goes

pub returns-clause-goes : goal.returns-clause-goes
returns-clause-goes c = c.declaration.ensures.goes

pub returns-in_err-share_declaration-clause-goes : goal.returns-in_err-share_declaration-clause-goes
returns-in_err-share_declaration-clause-goes c = c.declaration.ensures.goes

pub returns-clause-changed : goal.returns-clause-changed
returns-clause-changed c = c.in_ok-new.ensures.changed
