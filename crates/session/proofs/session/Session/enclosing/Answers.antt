use Rattle.std.proofs.Common.{subst}
use Rattle.std.specs.Prelude.{IfNone, Option}
use Rattle.service_model.specs.Answers.{EnclosingIs}
use Rattle.json_lines.specs.declared.reply.Reply.{Reply}
use Rattle.session.specs.Queries.{AreTypesRound, IsNotPlain}
use Rattle.session.proofs.Typing.{enclosing_typed, said_then}
use Rattle.session.proofs.session.Session.enclosing.Goals as goal

pub returns-in-None-clause-said : goal.returns-in-None-clause-said
returns-in-None-clause-said g c =
    let text = c.args.self.now.text in
    said_then (AreTypesRound text c.args.offset) (EnclosingIs text c.args.offset) c.typed_enclosing.result (λ s. enclosing_typed text c.args.offset s (subst (λ (o : Option Reply). IfNone o (IsNotPlain text)) c.in-None.is c.in_ok-reply.ensures.other)) c.typed_enclosing.ensures.said
