use Rattle.std.proofs.Common.{arith, length, ap, refl, sym, subst}
use Rattle.text_terms.specs.Bytes.{str_bytes}
use Rattle.service_model.specs.Requests as model
use Rattle.json_lines.specs.Meets.{asked_of}
use Rattle.json_lines.specs.declared.request.Request.{Request}
use Rattle.text_reading.specs.Types.{opening}
use Rattle.session.specs.Lines.{RepliesBy}
use Rattle.session.specs.Working.{alike, RequestWorks}
use Rattle.session.proofs.Answering.{replies_query}
use Rattle.session.proofs.Works.{request_works}
use Rattle.session.proofs.session.Session.reply_to.Goals as goal

pub returns-in-TypeEnclosing-clause-replies : goal.returns-in-TypeEnclosing-clause-replies
returns-in-TypeEnclosing-clause-replies g c = subst (λ (r : Request). RepliesBy c.args.self.now.text (asked_of r) c.type_enclosing.result c.type_enclosing.new.self.text) (sym c.in-TypeEnclosing.is)
    (replies_query c.args.self.now.text c.type_enclosing.new.self.text (model.type_enclosing (c.in-TypeEnclosing.at.line, c.in-TypeEnclosing.at.col)) _ c.type_enclosing.result c.type_enclosing.ensures.text (λ s holds. (holds, refl)) c.type_enclosing.ensures.says)

pub returns-in-CompletePrefix-clause-replies : goal.returns-in-CompletePrefix-clause-replies
returns-in-CompletePrefix-clause-replies g c = subst (λ (r : Request). RepliesBy c.args.self.now.text (asked_of r) c.query_at.result c.query_at.new.self.text) (sym c.in-CompletePrefix.is)
    (replies_query c.args.self.now.text c.query_at.new.self.text (model.complete_prefix (c.in-CompletePrefix.at.line, c.in-CompletePrefix.at.col) (str_bytes c.in-CompletePrefix.prefix)) _ c.query_at.result c.query_at.ensures.text (λ s holds. (holds, refl)) c.query_at.ensures.says)

pub returns-in-Locate-clause-replies : goal.returns-in-Locate-clause-replies
returns-in-Locate-clause-replies g c = subst (λ (r : Request). RepliesBy c.args.self.now.text (asked_of r) c.query_at-in-Locate.result c.query_at-in-Locate.new.self.text) (sym c.in-Locate.is)
    (replies_query c.args.self.now.text c.query_at-in-Locate.new.self.text (model.locate (c.in-Locate.at.line, c.in-Locate.at.col)) _ c.query_at-in-Locate.result c.query_at-in-Locate.ensures.text (λ s holds. (holds, refl)) c.query_at-in-Locate.ensures.says)

pub returns-in-Occurrences-clause-replies : goal.returns-in-Occurrences-clause-replies
returns-in-Occurrences-clause-replies g c = subst (λ (r : Request). RepliesBy c.args.self.now.text (asked_of r) c.query_at-in-Occurrences.result c.query_at-in-Occurrences.new.self.text) (sym c.in-Occurrences.is)
    (replies_query c.args.self.now.text c.query_at-in-Occurrences.new.self.text (model.occurrences (c.in-Occurrences.at.line, c.in-Occurrences.at.col)) _ c.query_at-in-Occurrences.result c.query_at-in-Occurrences.ensures.text (λ s holds. (holds, refl)) c.query_at-in-Occurrences.ensures.says)

pub returns-in-Outline-clause-replies : goal.returns-in-Outline-clause-replies
returns-in-Outline-clause-replies g c = subst (λ (r : Request). RepliesBy c.args.self.now.text (asked_of r) c.outline_line.result c.outline_line.new.self.text) (sym c.in-Outline.is)
    (replies_query c.args.self.now.text c.outline_line.new.self.text model.outline _ c.outline_line.result c.outline_line.ensures.text (λ s holds. (holds, refl)) c.outline_line.ensures.says)

pub returns-in-Errors-clause-replies : goal.returns-in-Errors-clause-replies
returns-in-Errors-clause-replies g c = subst (λ (r : Request). RepliesBy c.args.self.now.text (asked_of r) c.errors_line.result c.errors_line.new.self.text) (sym c.in-Errors.is)
    (replies_query c.args.self.now.text c.errors_line.new.self.text model.errors _ c.errors_line.result c.errors_line.ensures.text (λ s holds. (holds, refl)) c.errors_line.ensures.says)

pub returns-in-CaseAnalysis-clause-replies : goal.returns-in-CaseAnalysis-clause-replies
returns-in-CaseAnalysis-clause-replies g c = subst (λ (r : Request). RepliesBy c.args.self.now.text (asked_of r) c.query_at-in-CaseAnalysis.result c.query_at-in-CaseAnalysis.new.self.text) (sym c.in-CaseAnalysis.is)
    (replies_query c.args.self.now.text c.query_at-in-CaseAnalysis.new.self.text (model.case_analysis (c.in-CaseAnalysis.at.line, c.in-CaseAnalysis.at.col)) _ c.query_at-in-CaseAnalysis.result c.query_at-in-CaseAnalysis.ensures.text (λ s holds. (holds, refl)) c.query_at-in-CaseAnalysis.ensures.says)

pub returns-in-Construct-clause-replies : goal.returns-in-Construct-clause-replies
returns-in-Construct-clause-replies g c = subst (λ (r : Request). RepliesBy c.args.self.now.text (asked_of r) c.query_at-in-Construct.result c.query_at-in-Construct.new.self.text) (sym c.in-Construct.is)
    (replies_query c.args.self.now.text c.query_at-in-Construct.new.self.text (model.construct (c.in-Construct.at.line, c.in-Construct.at.col)) _ c.query_at-in-Construct.result c.query_at-in-Construct.ensures.text (λ s holds. (holds, refl)) c.query_at-in-Construct.ensures.says)

pub returns-in-TypeEnclosing-clause-works : goal.returns-in-TypeEnclosing-clause-works
returns-in-TypeEnclosing-clause-works g c = subst (λ (r : Request). RequestWorks g.A.Analyser.opens (asked_of r) c.type_enclosing.result c.args.self.now c.type_enclosing.new.self (g.C.Counts.tallies c.args.counts.now) (g.C.Counts.tallies c.type_enclosing.new.counts)) (sym c.in-TypeEnclosing.is)
    (request_works g.A.Analyser.opens (model.type_enclosing (c.in-TypeEnclosing.at.line, c.in-TypeEnclosing.at.col)) _ _ c.type_enclosing.result c.args.self.now c.type_enclosing.new.self (g.C.Counts.tallies c.args.counts.now) (g.C.Counts.tallies c.type_enclosing.new.counts) refl (λ w. refl) (λ s holds. (holds, refl)) c.type_enclosing.ensures.says c.type_enclosing.ensures.text c.type_enclosing.ensures.works)

pub returns-in-CompletePrefix-clause-works : goal.returns-in-CompletePrefix-clause-works
returns-in-CompletePrefix-clause-works g c = subst (λ (r : Request). RequestWorks g.A.Analyser.opens (asked_of r) c.query_at.result c.args.self.now c.query_at.new.self (g.C.Counts.tallies c.args.counts.now) (g.C.Counts.tallies c.query_at.new.counts)) (sym c.in-CompletePrefix.is)
    (request_works g.A.Analyser.opens (model.complete_prefix (c.in-CompletePrefix.at.line, c.in-CompletePrefix.at.col) (str_bytes c.in-CompletePrefix.prefix)) _ _ c.query_at.result c.args.self.now c.query_at.new.self (g.C.Counts.tallies c.args.counts.now) (g.C.Counts.tallies c.query_at.new.counts) refl (λ w. refl) (λ s holds. (holds, refl)) c.query_at.ensures.says c.query_at.ensures.text c.query_at.ensures.works)

pub returns-in-Locate-clause-works : goal.returns-in-Locate-clause-works
returns-in-Locate-clause-works g c = subst (λ (r : Request). RequestWorks g.A.Analyser.opens (asked_of r) c.query_at-in-Locate.result c.args.self.now c.query_at-in-Locate.new.self (g.C.Counts.tallies c.args.counts.now) (g.C.Counts.tallies c.query_at-in-Locate.new.counts)) (sym c.in-Locate.is)
    (request_works g.A.Analyser.opens (model.locate (c.in-Locate.at.line, c.in-Locate.at.col)) _ _ c.query_at-in-Locate.result c.args.self.now c.query_at-in-Locate.new.self (g.C.Counts.tallies c.args.counts.now) (g.C.Counts.tallies c.query_at-in-Locate.new.counts) refl (λ w. refl) (λ s holds. (holds, refl)) c.query_at-in-Locate.ensures.says c.query_at-in-Locate.ensures.text c.query_at-in-Locate.ensures.works)

pub returns-in-Occurrences-clause-works : goal.returns-in-Occurrences-clause-works
returns-in-Occurrences-clause-works g c = subst (λ (r : Request). RequestWorks g.A.Analyser.opens (asked_of r) c.query_at-in-Occurrences.result c.args.self.now c.query_at-in-Occurrences.new.self (g.C.Counts.tallies c.args.counts.now) (g.C.Counts.tallies c.query_at-in-Occurrences.new.counts)) (sym c.in-Occurrences.is)
    (request_works g.A.Analyser.opens (model.occurrences (c.in-Occurrences.at.line, c.in-Occurrences.at.col)) _ _ c.query_at-in-Occurrences.result c.args.self.now c.query_at-in-Occurrences.new.self (g.C.Counts.tallies c.args.counts.now) (g.C.Counts.tallies c.query_at-in-Occurrences.new.counts) refl (λ w. refl) (λ s holds. (holds, refl)) c.query_at-in-Occurrences.ensures.says c.query_at-in-Occurrences.ensures.text c.query_at-in-Occurrences.ensures.works)

pub returns-in-Outline-clause-works : goal.returns-in-Outline-clause-works
returns-in-Outline-clause-works g c = subst (λ (r : Request). RequestWorks g.A.Analyser.opens (asked_of r) c.outline_line.result c.args.self.now c.outline_line.new.self (g.C.Counts.tallies c.args.counts.now) (g.C.Counts.tallies c.outline_line.new.counts)) (sym c.in-Outline.is)
    (request_works g.A.Analyser.opens model.outline _ _ c.outline_line.result c.args.self.now c.outline_line.new.self (g.C.Counts.tallies c.args.counts.now) (g.C.Counts.tallies c.outline_line.new.counts) refl (λ w. refl) (λ s holds. (holds, refl)) c.outline_line.ensures.says c.outline_line.ensures.text c.outline_line.ensures.works)

pub returns-in-Errors-clause-works : goal.returns-in-Errors-clause-works
returns-in-Errors-clause-works g c = subst (λ (r : Request). RequestWorks g.A.Analyser.opens (asked_of r) c.errors_line.result c.args.self.now c.errors_line.new.self (g.C.Counts.tallies c.args.counts.now) (g.C.Counts.tallies c.errors_line.new.counts)) (sym c.in-Errors.is)
    (request_works g.A.Analyser.opens model.errors _ _ c.errors_line.result c.args.self.now c.errors_line.new.self (g.C.Counts.tallies c.args.counts.now) (g.C.Counts.tallies c.errors_line.new.counts) refl (λ w. refl) (λ s holds. (holds, refl)) c.errors_line.ensures.says c.errors_line.ensures.text c.errors_line.ensures.works)

pub returns-in-CaseAnalysis-clause-works : goal.returns-in-CaseAnalysis-clause-works
returns-in-CaseAnalysis-clause-works g c = subst (λ (r : Request). RequestWorks g.A.Analyser.opens (asked_of r) c.query_at-in-CaseAnalysis.result c.args.self.now c.query_at-in-CaseAnalysis.new.self (g.C.Counts.tallies c.args.counts.now) (g.C.Counts.tallies c.query_at-in-CaseAnalysis.new.counts)) (sym c.in-CaseAnalysis.is)
    (request_works g.A.Analyser.opens (model.case_analysis (c.in-CaseAnalysis.at.line, c.in-CaseAnalysis.at.col)) _ _ c.query_at-in-CaseAnalysis.result c.args.self.now c.query_at-in-CaseAnalysis.new.self (g.C.Counts.tallies c.args.counts.now) (g.C.Counts.tallies c.query_at-in-CaseAnalysis.new.counts) refl (λ w. refl) (λ s holds. (holds, refl)) c.query_at-in-CaseAnalysis.ensures.says c.query_at-in-CaseAnalysis.ensures.text c.query_at-in-CaseAnalysis.ensures.works)

pub returns-in-Construct-clause-works : goal.returns-in-Construct-clause-works
returns-in-Construct-clause-works g c = subst (λ (r : Request). RequestWorks g.A.Analyser.opens (asked_of r) c.query_at-in-Construct.result c.args.self.now c.query_at-in-Construct.new.self (g.C.Counts.tallies c.args.counts.now) (g.C.Counts.tallies c.query_at-in-Construct.new.counts)) (sym c.in-Construct.is)
    (request_works g.A.Analyser.opens (model.construct (c.in-Construct.at.line, c.in-Construct.at.col)) _ _ c.query_at-in-Construct.result c.args.self.now c.query_at-in-Construct.new.self (g.C.Counts.tallies c.args.counts.now) (g.C.Counts.tallies c.query_at-in-Construct.new.counts) refl (λ w. refl) (λ s holds. (holds, refl)) c.query_at-in-Construct.ensures.says c.query_at-in-Construct.ensures.text c.query_at-in-Construct.ensures.works)

pub returns-in-Tell-clause-works : goal.returns-in-Tell-clause-works
returns-in-Tell-clause-works g c = subst (λ (r : Request). RequestWorks g.A.Analyser.opens (asked_of r) c.tell.result c.args.self.now c.tell.new.self (g.C.Counts.tallies c.args.counts.now) (g.C.Counts.tallies c.args.counts.now)) (sym c.in-Tell.is)
    (λ w ps owes lex. let (v, works, owed, carries) = c.tell.ensures.owed w (length ps) owes in let same = ap (opening (length ps)) c.tell.ensures.begun in (v, alike 0, works, owed, (omega (arith, same), omega (arith, same)), carries (g.C.Counts.tallies c.args.counts.now)))
