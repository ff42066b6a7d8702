use Rattle.std.proofs.Common.{◌≡◌, List, drop}
use Rattle.type_model.specs.Types.{Path}
use Rattle.type_nodes.specs.Nodes.{Node}
use Rattle.level_unify.specs.Copies.{Extends}
use Rattle.typing_state.specs.Goes.{Goes}
use Rattle.type_reading.specs.Copying.{paths_of}
use Rattle.sig_template.specs.Structures.{entries_of}
use Rattle.sig_template.specs.Finding.{side_at, IsBefore, Finding}
use Rattle.sig_template.proofs.realising.Realised.+realising.Given as goal

abbrev pub decreases-entry : goal.decreases-entry
decreases-entry l = l.depth.0

abbrev pub decreases-module : goal.decreases-module
decreases-module l = l.depth.0

abbrev pub invariant-module-loop-entry : goal.invariant-module-loop-entry
invariant-module-loop-entry l = record {
  goes : Goes l.fn.at l.at;
  extends : Extends l.fn.at.store.nodes l.at.store.nodes;
  made : l.self.changes.made ≡ l.fn.self.changes.made;
  found : (before : List Node) → IsBefore before l.asked.older l.fn.at.store.nodes → (o : Path) →
      Finding before (paths_of l.asked.made.now) o (side_at l.actual) (entries_of (drop l.entry-index l.entry-items)) (entries_of l.entry-items) l.fn.self.changes.real.items l.self.changes.real.items;
}
