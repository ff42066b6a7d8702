use Rattle.syntax_rows.specs.View.{way_of}
use Rattle.parse_frames.specs.Stacks.{stack_view}
use Rattle.frame_steps.specs.Course.{out, past_way}
use Rattle.frame_steps.specs.View.{text_table}
use Rattle.frame_steps.proofs.Named.{stood}
use Rattle.frame_steps.proofs.Takers.{taker_few}
use Rattle.frame_steps.proofs.deep.depth_of.Goals as goal

pub depth_at-requires : goal.depth_at-requires
depth_at-requires c =
    let q = stood c.args.text (stack_view c.args.frames.now) c.requires.standing in
    let o = out c.args.course.closed (text_table c.args.text) q.top q.below q.at in
    record {
      few = taker_few c.args.text q.top (past_way (way_of c.args.course.way) (text_table c.args.text) o.0 q.at) q.below q.at c.args.course.closed (stack_view c.args.frames.now) c.past_way-taker.result q.stands
          (c.past_way-taker.ensures o.0 o.1 q.at (c.taking_frame.ensures q.top q.below q.at q.stands));
    }
