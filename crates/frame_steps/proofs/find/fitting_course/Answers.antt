use Rattle.std.proofs.Common.{◌∙◌, ap}
use Rattle.syntax_rows.specs.Numbers.{key_number}
use Rattle.syntax_rows.specs.View.{last_of, table_of}
use Rattle.parse_frames.specs.Stacks.{stack_view}
use Rattle.parse_frames.specs.View.{frames_view}
use Rattle.frame_steps.specs.Course.{course_of}
use Rattle.frame_steps.proofs.Putting.{fit_named}
use Rattle.frame_steps.proofs.find.fitting_course.Goals as goal

pub returns-clause-course : goal.returns-clause-course
returns-clause-course c f S at t st k =
    c.find_fit.ensures.course ∙ ap course_of (fit_named c.args.text f S at t (stack_view c.args.frames.now) (table_of c.grammar.result) c.number.result c.spot.result (key_number c.args.key) (last_of c.last.result) (frames_view c.below.result.now) st
    c.grammar.ensures.table c.number.ensures c.spot.ensures c.last.ensures c.below.ensures.frames k)
