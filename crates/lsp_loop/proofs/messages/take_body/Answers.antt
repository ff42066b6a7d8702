use Rattle.lsp_loop.proofs.Taking.{body_put}
use Rattle.lsp_loop.proofs.messages.take_body.Goals as goal

pub returns-in-Ok-clause-heard : goal.returns-in-Ok-clause-heard
returns-in-Ok-clause-heard g c = λ before taken rest after so_far begins. body_put before _ _ taken _ rest c.args.bytes.now after c.in-Ok.step c.take_body.new.self c.put_step.result so_far begins c.in-Ok.ensures.step c.put_step.ensures.put

pub returns-in-Err-clause-heard : goal.returns-in-Err-clause-heard
returns-in-Err-clause-heard g c = λ before taken rest after so_far begins. (c.args.documents.now, rest, so_far)
