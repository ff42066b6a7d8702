use Rattle.std.proofs.Common.{◌≡◌, Some, sym, ◌∙◌, ap, subst}
use Rattle.std.proofs.lemmas.Result.{err_from_is_err_and}
use Rattle.text_model.specs.Edits.{outcome_between, apply, changed}
use Rattle.text_model.proofs.Positions.{offset-le}
use Rattle.text_store.specs.Edits.{edit_of, IsRefusal}
use Rattle.text_store.proofs.Outcomes.{outcome-no_start, outcome-no_end, outcome-between, sound}
use Rattle.text_store.proofs.edits.places_of.Goals as goal

pub returns-in_default : goal.returns-in_default
returns-in_default c = outcome-no_start c.args.text.now.items (edit_of c.args.edit.now) (sym c.find_offset.ensures ∙ c.in_default.is)

pub returns-in_default-find_offset : goal.returns-in_default-find_offset
returns-in_default-find_offset c =
    outcome-no_end c.args.text.now.items (edit_of c.args.edit.now) c.in-Some.start (sym c.find_offset.ensures ∙ c.in-Some.is) (sym c.find_offset-2.ensures ∙ c.in_default-find_offset.is)

pub check_between-requires-clause-start_within : goal.check_between-requires-clause-start_within
check_between-requires-clause-start_within c = offset-le c.args.text.now.items c.args.edit.now.start.line c.args.edit.now.start.col c.in-Some.start (sym c.find_offset.ensures ∙ c.in-Some.is)

pub check_between-requires-clause-end_within : goal.check_between-requires-clause-end_within
check_between-requires-clause-end_within c = offset-le c.args.text.now.items c.args.edit.now.end.line c.args.edit.now.end.col c.in-Some-find_offset.end (sym c.find_offset-2.ensures ∙ c.in-Some-find_offset.is)

pub returns-in_err-check_between : goal.returns-in_err-check_between
returns-in_err-check_between c =
    let p = err_from_is_err_and c.from_residual.result c.from_residual.ensures.1 in
    let e = edit_of c.args.edit.now in
    let same = outcome-between c.args.text.now.items e c.in-Some.start c.in-Some-find_offset.end (sym c.find_offset.ensures ∙ c.in-Some.is) (sym c.find_offset-2.ensures ∙ c.in-Some-find_offset.is) in
    let bytes = c.as_bytes.ensures.value ∙ c.as_str.ensures in
    rw (p.1, p.2)
    (subst (λ o. IsRefusal o c.in_err-check_between.field-0.0) (ap (outcome_between c.args.text.now.items (Some c.in-Some.start) (Some c.in-Some-find_offset.end)) bytes ∙ sym same) c.in_err-check_between.ensures)

pub returns : goal.returns
returns c =
    let e = edit_of c.args.edit.now in
    let start = c.in-Some.start in
    let end = c.in-Some-find_offset.end in
    let is_end = sym c.find_offset-2.ensures ∙ c.in-Some-find_offset.is in
    let same = outcome-between c.args.text.now.items e start end (sym c.find_offset.ensures ∙ c.in-Some.is) is_end in
    let bytes = c.as_bytes.ensures.value ∙ c.as_str.ensures in
    let made = subst (λ bs. outcome_between c.args.text.now.items (Some start) (Some end) bs ≡ changed start (apply c.args.text.now.items start end bs)) bytes c.in_ok-check_between.ensures in
    let facts = sound c.args.text.now.items start end e.bytes (apply c.args.text.now.items start end e.bytes) start made in
    record {
      outcome = same ∙ made;
      order = facts.order;
      within = offset-le c.args.text.now.items e.end.0 e.end.1 end is_end;
      start_whole = facts.start_whole;
      end_whole = facts.end_whole;
      short = facts.short;
    }
