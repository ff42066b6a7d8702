use Rattle.std.proofs.Common.{◌∙◌, ap, refl, sym, subst, codes, List, ℕ}
use Rattle.std.specs.Prelude.{Option, is_some}
use Rattle.text_model.specs.Positions.{offset}
use Rattle.service_model.specs.Replies as said
use Rattle.service_model.specs.Answers.{EnclosingIs, PlacedIs}
use Rattle.session.specs.Working.{QueryWorks, TriesNone}
use Rattle.session.proofs.Answering.{says, says_line, says_so}
use Rattle.session.proofs.Works.{line_works}
use Rattle.session.proofs.session.Session.type_enclosing.Goals as goal

pub returns-in-Ok-clause-says : goal.returns-in-Ok-clause-says
returns-in-Ok-clause-says g c =
    let there = ap (λ (t : List ℕ). offset t c.args.at.line c.args.at.col) (sym c.text.ensures) ∙ c.in-Ok.ensures.value in
    says_so (EnclosingIs c.args.self.now.text c.in-Ok.offset) (PlacedIs (offset c.args.self.now.text c.args.at.line c.args.at.col) (EnclosingIs c.args.self.now.text)) c.line_of.result
    (λ s holds. subst (λ o. PlacedIs o (EnclosingIs c.args.self.now.text) s) (sym there) holds) (says_line (EnclosingIs c.args.self.now.text c.in-Ok.offset) c.enclosing_now-reply.result c.line_of.result c.enclosing_now-reply.ensures.said c.line_of.ensures.written c.line_of.ensures.memory)

pub returns-in-Err-clause-says : goal.returns-in-Err-clause-says
returns-in-Err-clause-says g c =
    let nowhere = ap (λ (t : List ℕ). offset t c.args.at.line c.args.at.col) (sym c.text.ensures) ∙ c.in-Err.ensures.value in
    says _ (said.bad_position (codes "at")) c.error_line.result (subst (λ o. PlacedIs o (EnclosingIs c.args.self.now.text) (said.bad_position (codes "at"))) (sym nowhere) refl) c.error_line.ensures

pub returns-in-Ok-clause-works : goal.returns-in-Ok-clause-works
returns-in-Ok-clause-works g c =
    let there = ap (λ (t : List ℕ). offset t c.args.at.line c.args.at.col) (sym c.text.ensures) ∙ c.in-Ok.ensures.value in
    subst (λ (o : Option ℕ). QueryWorks g.A.Analyser.opens (is_some o) TriesNone c.line_of.result c.args.self.now c.enclosing_now-reply.new.self (g.C.Counts.tallies c.args.counts.now) (g.C.Counts.tallies c.enclosing_now-reply.new.counts)) (sym there)
    (line_works c.enclosing_now-reply.result g.A.Analyser.opens c.line_of.result c.args.self.now c.enclosing_now-reply.new.self (g.C.Counts.tallies c.args.counts.now) (g.C.Counts.tallies c.enclosing_now-reply.new.counts) c.line_of.ensures.memory c.enclosing_now-reply.ensures.current c.enclosing_now-reply.ensures.settles c.enclosing_now-reply.ensures.reads c.enclosing_now-reply.ensures.fails c.enclosing_now-reply.ensures.goes)

pub returns-in-Err-clause-works : goal.returns-in-Err-clause-works
returns-in-Err-clause-works g c =
    let nowhere = ap (λ (t : List ℕ). offset t c.args.at.line c.args.at.col) (sym c.text.ensures) ∙ c.in-Err.ensures.value in
    subst (λ (o : Option ℕ). QueryWorks g.A.Analyser.opens (is_some o) TriesNone c.error_line.result c.args.self.now c.args.self.now (g.C.Counts.tallies c.args.counts.now) (g.C.Counts.tallies c.args.counts.now)) (sym nowhere)
    (record { changed = refl; begun = refl; holds = refl; counted = refl })
