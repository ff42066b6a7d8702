use Rattle.std.proofs.Common.{◌+◌, ◌-◌, get_or, arith}
use Rattle.std.proofs.lemmas.List.{get_or_default}
use Rattle.std.proofs.lemmas.List.Edits.{map_over_more}
use Rattle.text_store.proofs.starts.move_starts.Goals as goal

pub loop-start-preserved : goal.loop-start-preserved
loop-start-preserved c =
    let x = get_or c.loop-start.starts c.loop-start.start-index 0 in
    map_over_more (λ t. t - c.args.cut + c.args.added) c.args.starts.now c.loop-start.starts c.loop-start.start-index x (omega arith) c.loop-start.invariant
    (get_or_default c.loop-start.starts c.loop-start.start-index 0 x (omega arith))
