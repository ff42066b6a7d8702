use Rattle.std.proofs.Common.{[], sym, ◌∙◌, subst, List, ℕ, take}
use Rattle.std.proofs.KnownBytes.{Appends-nil}
use Rattle.std.proofs.lemmas.Result.{on_ok_weaker, on_err_weaker}
use Rattle.std.specs.Io.KnownBytes.{Appends}
use Rattle.service_model.specs.Answers.{Answers}
use Rattle.session.specs.Lines.{line_bytes}
use Rattle.session_loop.proofs.Steps.{answered_spends, blank_spends, step_answered, step_blank}
use Rattle.session_loop.proofs.feed.answer_line.Goals as goal

pub returns-then-begun-clause-done : goal.returns-then-begun-clause-done
returns-then-begun-clause-done g c = λ line holds. ([], step_blank c.args.session.now.text line c.args.begun.now holds c.if-begun.true, Appends-nil _, blank_spends g.A.Analyser.opens line c.args.begun.now c.args.session.now (g.C.Counts.tallies c.args.counts.now) holds c.if-begun.true)

pub returns-clause-done : goal.returns-clause-done
returns-clause-done g c =
    let answers = subst (λ (l : List ℕ). Answers c.args.session.now.text l (line_bytes c.answer.result) c.answer.new.self.text) c.deref.ensures.value c.answer.ensures.answers in
    on_ok_weaker c.put.result (λ puts line holds. (
      line_bytes c.answer.result,
      step_answered c.args.session.now.text line _ _ c.args.begun.now holds c.if-begun.false answers,
      subst (λ (l : List ℕ). Appends (g.K.Sink.held c.args.sink.now) (g.K.Sink.held c.put.new.self) l) c.bytes.ensures puts,
      answered_spends _ _ line (line_bytes c.answer.result) c.args.begun.now c.args.session.now c.answer.new.self (g.C.Counts.tallies c.args.counts.now) (g.C.Counts.tallies c.answer.new.counts) holds c.if-begun.false c.deref.ensures.value c.answer.ensures.works,
    )) c.put.ensures.ok

pub returns-clause-cut : goal.returns-clause-cut
returns-clause-cut g c =
    let answers = subst (λ (l : List ℕ). Answers c.args.session.now.text l (line_bytes c.answer.result) c.answer.new.self.text) c.deref.ensures.value c.answer.ensures.answers in
    on_err_weaker c.put.result (λ puts line holds. (
      sym holds.blank ∙ c.if-begun.false,
      line_bytes c.answer.result,
      step_answered c.args.session.now.text line _ _ c.args.begun.now holds c.if-begun.false answers,
      puts.0,
      subst (λ (l : List ℕ). Appends (g.K.Sink.held c.args.sink.now) (g.K.Sink.held c.put.new.self) (take puts.0 l)) c.bytes.ensures puts.2,
      answered_spends _ _ line (line_bytes c.answer.result) c.args.begun.now c.args.session.now c.answer.new.self (g.C.Counts.tallies c.args.counts.now) (g.C.Counts.tallies c.answer.new.counts) holds c.if-begun.false c.deref.ensures.value c.answer.ensures.works,
    )) c.put.ensures.err
