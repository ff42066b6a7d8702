use Rattle.std.proofs.Common.{subst}
use Rattle.std.specs.Prelude.{IfNone, Option}
use Rattle.service_model.specs.Structure.{ErrorsAre}
use Rattle.json_lines.specs.declared.reply.Reply.{Reply}
use Rattle.session.specs.Queries.{AreFaultsOf, MayBeIllTyped}
use Rattle.session.proofs.Typing.{errors_typed, said_then}
use Rattle.session.proofs.session.Session.errors.Goals as goal

pub returns-in-None-clause-said : goal.returns-in-None-clause-said
returns-in-None-clause-said g c =
    let text = c.args.self.now.text in
    said_then (AreFaultsOf text) (ErrorsAre text) c.typed_errors.result (λ s. errors_typed text s (subst (λ (o : Option Reply). IfNone o (MayBeIllTyped text)) c.in-None.is c.in_ok-reply.ensures.other)) c.typed_errors.ensures.said
