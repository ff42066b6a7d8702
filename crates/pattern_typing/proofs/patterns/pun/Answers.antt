use Rattle.typing_state.proofs.Going.{goes_trans, goes_refl}
use Rattle.std.proofs.Common.{ap}
use Rattle.row_parts.specs.Numbered.{operand_view, path_view}
use Rattle.use_typing.specs.Paths.{path_at}
use Rattle.pattern_typing.specs.Matching.{binds_of, names_seen}
use Rattle.pattern_typing.specs.Records.{here_of}
use Rattle.pattern_typing.proofs.MatchedRows.{on_any}
use Rattle.pattern_typing.proofs.Recording.{punned_done}
use Rattle.pattern_typing.proofs.patterns.pun.Goals as goal

pub returns-clause-carries : goal.returns-clause-carries
returns-clause-carries c =
    punned_done c.pun_of.result c.args.at.now c.begin_field.new.at c.pun_of.new.at c.args.env.now c.args.field.number c.args.begun.now.found (path_view c.in_ok-label.label) (path_at (operand_view c.args.field).part) c.in_ok-wanted.wanted (binds_of c.args.names.now.items) (binds_of c.pun_of.new.names.items) (names_seen c.args.seen.now.items) (names_seen c.pun_of.new.seen.items) c.args.begun.now.labels.items c.begin_field.new.fields.labels.items
    c.in_ok-label.ensures c.in_ok-wanted.ensures.carries c.begin_field.ensures.goes c.in_ok-wanted.ensures.seen c.pun_of.ensures.puns

pub returns-clause-found : goal.returns-clause-found
returns-clause-found c = on_any c.pun_of.result _ (ap here_of c.begin_field.ensures.found)

pub returns-clause-goes : goal.returns-clause-goes
returns-clause-goes c = goes_trans c.args.at.now c.begin_field.new.at c.pun_of.new.at c.begin_field.ensures.goes c.pun_of.ensures.goes

pub returns-in_err-label-clause-goes : goal.returns-in_err-label-clause-goes
returns-in_err-label-clause-goes c = goes_refl c.args.at.now

pub returns-in_err-wanted-clause-goes : goal.returns-in_err-wanted-clause-goes
returns-in_err-wanted-clause-goes c = c.begin_field.ensures.goes
