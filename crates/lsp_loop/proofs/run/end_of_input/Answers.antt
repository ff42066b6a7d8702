use Rattle.lsp_loop.proofs.run.end_of_input.Goals as goal

pub returns-then-is_between : goal.returns-then-is_between
returns-then-is_between c = λ rest keeps. c.is_between.ensures.between rest keeps c.if-is_between.true
