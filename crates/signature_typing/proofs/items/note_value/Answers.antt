use Rattle.std.proofs.Common.{None, refl}
use Rattle.std.proofs.lemmas.Result.{on_ok_weaker}
use Rattle.typing_state.proofs.Going.{goes_refl}
use Rattle.type_expressions.proofs.Untyped.{noted_untyped}
use Rattle.decl_typing.proofs.Denoting.{only_same}
use Rattle.signature_typing.proofs.items.note_value.Goals as goal

pub returns-clause-goes : goal.returns-clause-goes
returns-clause-goes c = c.note.ensures.goes

pub returns-clause-rest : goal.returns-clause-rest
returns-clause-rest c = c.note.ensures.rest

pub returns-clause-untyped : goal.returns-clause-untyped
returns-clause-untyped c = on_ok_weaker c.note.result (λ noted. noted_untyped c.args.at.now c.note.new.self c.args.number (record { env = c.args.env.now; ty = None; names = c.in_ok-names.names }) refl noted c.note.ensures.rest) c.note.ensures.noted

pub returns-in_err-names-clause-goes : goal.returns-in_err-names-clause-goes
returns-in_err-names-clause-goes c = goes_refl c.args.at.now

pub returns-in_err-names-clause-rest : goal.returns-in_err-names-clause-rest
returns-in_err-names-clause-rest c = only_same c.args.at.now
