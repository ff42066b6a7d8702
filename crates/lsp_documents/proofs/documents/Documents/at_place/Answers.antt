use Rattle.std.proofs.Common.{◌∙◌, refl, ap, sym, subst}
use Rattle.std.proofs.lemmas.Result.{IfOk-weaker}
use Rattle.lsp_model.specs.Answers as put
use Rattle.lsp_model.specs.Positions.{offset_at}
use Rattle.lsp_front.specs.Sayings.{place_of}
use Rattle.lsp_answers.specs.Puts.{answered_of}
use Rattle.lsp_queries.specs.Calls.{AtPlace}
use Rattle.lsp_documents.specs.States.{State}
use Rattle.lsp_documents.proofs.Stepping.{answers_at, answers_none}
use Rattle.lsp_documents.proofs.documents.Documents.at_place.Goals as goal

pub returns-in-Some-clause-is : goal.returns-in-Some-clause-is
returns-in-Some-clause-is g c =
    let s = c.args.self.now in
    let p = place_of c.args.place.now in
    let text = c.in-Some.text.now.text in
    let o = c.offset_in-offset.result in
    let at = c.offset_in-offset.ensures.value ∙ ap (λ (x : State). offset_at x.choices.columns p.line p.character text) c.self.view_is in
    IfOk-weaker c.answer_at.result _ _ (λ a is.
    answers_at s c.args.what p text o (answered_of a) (sym c.in-Some.ensures) at
    (subst (λ (x : State). AtPlace x.choices text p.uri c.args.what o (answered_of a)) c.self.view_is is)) c.answer_at.ensures.is

pub returns-in-None-clause-is : goal.returns-in-None-clause-is
returns-in-None-clause-is g c = answers_none c.args.self.now c.args.what (place_of c.args.place.now) put.nothing_there (sym c.in-None.ensures) refl
