use Rattle.std.proofs.Common.{length, sym, subst}
use Rattle.service_model.specs.Requests.{Reading}
use Rattle.work_model.specs.Work.{WorksAt}
use Rattle.json_lines.specs.Meets.{asked_of, refusal_of}
use Rattle.session.specs.Lines.{line_bytes}
use Rattle.session.proofs.Answering.{answers_refused, answers_request}
use Rattle.session.proofs.Works.{malformed_works}
use Rattle.session.proofs.session.Session.answer.Goals as goal

pub returns-in-Ok-clause-answers : goal.returns-in-Ok-clause-answers
returns-in-Ok-clause-answers g c = answers_request c.args.self.now.text c.args.line.now c.reply_to.new.self.text (asked_of c.in-Ok.request) c.reply_to.result c.in-Ok.ensures c.reply_to.ensures.replies

pub returns-in-Err-clause-answers : goal.returns-in-Err-clause-answers
returns-in-Err-clause-answers g c = answers_refused c.args.self.now.text c.args.line.now (refusal_of c.in-Err.malformed) c.malformed_line.result c.in-Err.ensures c.malformed_line.ensures

pub returns-in-Ok-clause-works : goal.returns-in-Ok-clause-works
returns-in-Ok-clause-works g c = λ w ps owes lex.
    let (v, n, works, owed, takes, carries) = c.reply_to.ensures.works w ps owes lex in
    (v, n, subst (λ (r : Reading). WorksAt (length ps) w r (line_bytes c.reply_to.result) v n) (sym c.in-Ok.ensures) works, owed, takes, carries)

pub returns-in-Err-clause-works : goal.returns-in-Err-clause-works
returns-in-Err-clause-works g c = λ w ps owes lex. malformed_works c.args.line.now (refusal_of c.in-Err.malformed) c.malformed_line.result c.args.self.now w (length ps) (g.C.Counts.tallies c.args.counts.now) owes c.in-Err.ensures c.malformed_line.ensures
