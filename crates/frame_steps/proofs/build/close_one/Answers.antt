use Rattle.std.proofs.Common.{option_map, sym, ◌∙◌, ap}
use Rattle.syntax_tree.specs.Names.{row_of}
use Rattle.grammar_model.specs.Ocaml.{row_name}
use Rattle.parse_frames.specs.Stacks.{stack_view}
use Rattle.frame_steps.proofs.Named.{filled_room, closed_named, closed_none}
use Rattle.frame_steps.proofs.build.close_one.Goals as goal

pub close-requires-clause-size : goal.close-requires-clause-size
close-requires-clause-size c = (filled_room c.args.text (row_of c.row_named-name.result) (stack_view c.args.frames) (stack_view c.in_ok-filled.filled.frames) c.in_ok-filled.filled.holes c.requires.standing c.in_ok-filled.ensures.filled).0

pub close-requires-clause-height : goal.close-requires-clause-height
close-requires-clause-height c = (filled_room c.args.text (row_of c.row_named-name.result) (stack_view c.args.frames) (stack_view c.in_ok-filled.filled.frames) c.in_ok-filled.filled.holes c.requires.standing c.in_ok-filled.ensures.filled).1

pub returns-in-None-clause-closed : goal.returns-in-None-clause-closed
returns-in-None-clause-closed c f g S at st =
    absurd (closed_none c.args.text f g S at c.in_ok-filled.filled.holes (stack_view c.args.frames) (stack_view c.in_ok-filled.filled.frames) (row_of c.row_named-name.result) st c.in_ok-filled.ensures.filled
    (c.row_named-name.ensures ∙ ap row_name c.number.ensures) (ap (option_map stack_view) (sym c.in-None.is) ∙ c.in_ok-close.ensures))

pub returns-in-Some-clause-closed : goal.returns-in-Some-clause-closed
returns-in-Some-clause-closed c f g S at st =
    closed_named c.args.text f g S at c.in_ok-filled.filled.holes (stack_view c.args.frames) (stack_view c.in_ok-filled.filled.frames) (stack_view c.in-Some.frames) (row_of c.row_named-name.result) st c.in_ok-filled.ensures.filled
    (c.row_named-name.ensures ∙ ap row_name c.number.ensures) (ap (option_map stack_view) (sym c.in-Some.is) ∙ c.in_ok-close.ensures)
