use Rattle.std.proofs.Common.{◌∙◌, ◌++◌, ◌∷◌, ◌==◌, List, [], length, map, not, sym, ap, Some, None, if◌then◌else◌}
use Rattle.std.specs.Prelude.{is_some, option_map}
use Rattle.std.proofs.lemmas.List.{map-append}
use Rattle.syntax_tree.specs.View.{place_of}
use Rattle.row_parts.specs.Numbered.{operand_view}
use Rattle.typing_state.specs.Goes.{faults_of}
use Rattle.pattern_matrix.specs.Views.{typed_of}
use Rattle.pattern_matrix.specs.declared.patterns.PatRow.{PatRow}
use Rattle.match_warnings.specs.Reported.{Case, case_in, one_pattern, rows_in, seen_row}
use Rattle.match_warnings.proofs.Reported.{open_more, row_more, seen_is, seen_none}
use Rattle.match_warnings.proofs.warnings.Rows.add.Goals as goal

pub returns-then-is_hidden-clause-held : goal.returns-then-is_hidden-clause-held
returns-then-is_hidden-clause-held c = λ members cases has holds.
    let env = c.args.env.now in
    let p = operand_view c.args.pattern in
    let faulty = not (length (faults_of c.args.at.now) == c.args.faults_before) in
    let it = case_in env faulty (place_of c.args.case) p (is_some c.args.guard) in
    record {
      spans = ap (map place_of) c.in_ok-push.ensures.pushed ∙ map-append place_of c.args.self.now.spans.items (c.args.case ∷ []) ∙ ap (λ ps. ps ++ place_of c.args.case ∷ []) holds.spans ∙ sym (map-append (λ (x : Case). x.at) cases (it ∷ []));
      seen = open_more cases it (rows_in c.args.self.now) holds.seen (seen_none env faulty p (sym c.is_hidden.ensures ∙ c.if-is_hidden.true));
      shared = holds.shared;
    }

pub returns-in-None-clause-held : goal.returns-in-None-clause-held
returns-in-None-clause-held c = λ members cases has holds.
    let env = c.args.env.now in
    let p = operand_view c.args.pattern in
    let faulty = not (length (faults_of c.args.at.now) == c.args.faults_before) in
    let it = case_in env faulty (place_of c.args.case) p (is_some c.args.guard) in
    let h = c.in_ok-pat.ensures members has holds.shared in
    record {
      spans = ap (map place_of) c.in_ok-push.ensures.pushed ∙ map-append place_of c.args.self.now.spans.items (c.args.case ∷ []) ∙ ap (λ ps. ps ++ place_of c.args.case ∷ []) holds.spans ∙ sym (map-append (λ (x : Case). x.at) cases (it ∷ []));
      seen = open_more cases it (rows_in c.args.self.now) holds.seen (seen_is env faulty p (sym c.is_hidden.ensures ∙ c.if-is_hidden.false) ∙ sym h.0 ∙ ap (option_map typed_of) c.in-None.is);
      shared = h.1;
    }

pub returns-in_ok-push-in-Some-clause-held : goal.returns-in_ok-push-in-Some-clause-held
returns-in_ok-push-in-Some-clause-held c = λ members cases has holds.
    let env = c.args.env.now in
    let p = operand_view c.args.pattern in
    let faulty = not (length (faults_of c.args.at.now) == c.args.faults_before) in
    let it = case_in env faulty (place_of c.args.case) p (is_some c.args.guard) in
    let h = c.in_ok-pat.ensures members has holds.shared in
    let hidden = c.args.self.now.is_open in
    let q = typed_of c.in-Some.pat in
    record {
      spans = ap (map place_of) c.in_ok-push.ensures.pushed ∙ map-append place_of c.args.self.now.spans.items (c.args.case ∷ []) ∙ ap (λ ps. ps ++ place_of c.args.case ∷ []) holds.spans ∙ sym (map-append (λ (x : Case). x.at) cases (it ∷ []));
      seen = ap (λ (rs : List PatRow). if hidden then None else Some (map seen_row rs)) c.in_ok-push-in-Some.ensures.pushed
          ∙ row_more hidden c.args.self.now.rows.items c.in_ok-row-in-Some.row cases it q holds.seen (seen_is env faulty p (sym c.is_hidden.ensures ∙ c.if-is_hidden.false) ∙ sym h.0 ∙ ap (option_map typed_of) c.in-Some.is)
          (c.in_ok-row-in-Some.ensures ∙ ap (one_pattern q) c.is_some.ensures);
      shared = h.1;
    }
