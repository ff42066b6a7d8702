use Rattle.std.proofs.Common.{map, take}
use Rattle.std.specs.List.{AllZip}
use Rattle.query_engine.specs.Typed.{node_of}
use Rattle.query_engine.specs.Texts.{IsShown}
use Rattle.query_engine.proofs.types.with_types.Given as goal

abbrev pub invariant-loop-node : goal.invariant-loop-node
invariant-loop-node l = AllZip (IsShown l.asked) (map node_of (take l.node-index l.nodes)) l.types.items
