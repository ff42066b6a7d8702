use Rattle.std.proofs.Common.{arith}
use Rattle.parse_frames.specs.Stacks.{stack_view}
use Rattle.frame_steps.proofs.Named.{standing_few, close_next, close_more}
use Rattle.frame_steps.proofs.build.+close_frames.Goals as goal

pub close_frames-requires : goal.close_frames-requires
close_frames-requires t c =
    let r = c.requires.enough in
    let z = c.if-count-eq0.false in
    let (s, e) = close_next c.args.text (stack_view c.args.frames) (stack_view c.in_ok-closed.closed.frames) c.in_ok-closed.closed.holes c.requires.standing (omega arith) c.in_ok-closed.ensures.closed in
    let d = c.decreases in
    (omega arith, (s, omega arith))

pub overflow_add-result : goal.overflow_add-result
overflow_add-result t c =
    let r = c.requires.enough in
    let f = standing_few c.args.text (stack_view c.args.frames) c.requires.standing in
    let a = c.in_ok-closed.ensures.few in
    let b = c.in_ok-rest.ensures.few in
    omega arith

pub returns-clause-closed : goal.returns-clause-closed
returns-clause-closed t c f S at st =
    close_more c.args.text c.args.count f S at (stack_view c.args.frames) (stack_view c.in_ok-closed.closed.frames) (stack_view c.in_ok-rest.rest.frames) c.in_ok-closed.closed.holes c.in_ok-rest.rest.holes
    c.if-count-eq0.false c.requires.enough st c.in_ok-closed.ensures.closed c.in_ok-rest.ensures.closed
