use Rattle.typing_state.proofs.Recording.{record_stays, record_still}
use Rattle.typing_state.specs.Notes.{IsRecordedThere}
use Rattle.row_parts.specs.Numbered.{part_of}
use Rattle.std.specs.Prelude.{OnOk}
use Rattle.std.proofs.Common.{map, refl, sym, subst}
use Rattle.use_typing.proofs.Reading.{on_ok}
use Rattle.pattern_typing.specs.Matching.{binds_of, names_seen}
use Rattle.binding_rows.proofs.Operands.{open_missing, open_there}
use Rattle.binding_steps.specs.Bindings.{opened_of}
use Rattle.binding_steps.proofs.ClosingLaws.{mapped_more}
use Rattle.binding_steps.proofs.GroupLaws.{node_more, node_lost}
use Rattle.binding_steps.proofs.groups.open_if.Goals as goal

pub returns-in_default-clause-carries : goal.returns-in_default-clause-carries
returns-in_default-clause-carries c = open_missing c.args.at.now c.args.env.now c.args.binding (names_seen c.args.seen.now.items) (map opened_of c.args.all.now.items) c.in_default.is

pub returns-in_default-clause-nodes : goal.returns-in_default-clause-nodes
returns-in_default-clause-nodes c = node_lost c.args.binding c.args.all.now.items c.in_default.is

pub returns-clause-carries : goal.returns-clause-carries
returns-clause-carries c =
    let one = c.in_ok-one.one in
    let old = c.args.all.now.items in
    on_ok c.push.result (λ pushed.
    open_there c.args.at.now c.note_plain.new.self c.open_pattern.new.at c.args.env.now c.args.binding c.in-Some.node (names_seen c.args.seen.now.items) (names_seen c.open_pattern.new.seen.items) (binds_of one.matched.names.items) one.matched.ty.0 (map opened_of old) (map opened_of c.push.new.list.items)
    c.in-Some.is (mapped_more opened_of old c.push.new.list.items one pushed) c.in_ok-note_plain.ensures.noted c.note_plain.ensures.rest c.note_plain.ensures.goes c.in_ok-one.ensures.carries) c.push.ensures.pushed

pub returns-clause-nodes : goal.returns-clause-nodes
returns-clause-nodes c =
    on_ok c.push.result (λ pushed. node_more c.args.binding c.in-Some.node _ c.in_ok-one.one c.args.all.now.items c.push.new.list.items c.in-Some.is refl refl c.in_ok-one.ensures.binding pushed) c.push.ensures.pushed

pub returns-in_default-clause-recorded : goal.returns-in_default-clause-recorded
returns-in_default-clause-recorded c = subst (λ m. IsRecordedThere (part_of m c.args.binding.span) c.args.at.now c.args.binding.number) (sym c.in_default.is) tt

pub returns-clause-recorded : goal.returns-clause-recorded
returns-clause-recorded c =
    let n = c.args.binding.number in
    subst (λ m. OnOk c.push.result (IsRecordedThere (part_of m c.args.binding.span) c.open_pattern.new.at n)) (sym c.in-Some.is)
    (record_still c.push.result n c.open_pattern.new.at (record_stays n c.note_plain.new.self c.open_pattern.new.at c.open_pattern.ensures.goes c.in_ok-note_plain.ensures.recorded))
