use Rattle.syntax_rows.proofs.LastEdge.{last_turn}
use Rattle.syntax_rows.proofs.ways.last_spot.Goals as goal

pub loop-edge-preserved : goal.loop-edge-preserved
loop-edge-preserved c = last_turn c.args.next.now _ c.loop-edge.edge-index c.loop-edge.last _ c.loop-edge-test.true c.loop-edge.invariant
