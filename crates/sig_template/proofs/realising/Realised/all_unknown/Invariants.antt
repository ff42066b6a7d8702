use Rattle.std.proofs.Common.{◌≡◌, [], take}
use Rattle.std.specs.List.{AllZip}
use Rattle.level_unify.specs.Copies.{Extends}
use Rattle.typing_state.specs.Goes.{Goes}
use Rattle.sig_template.specs.Finding.{IsUnknownFor}
use Rattle.sig_template.proofs.realising.Realised.all_unknown.Given as goal

abbrev pub invariant-loop-origin : goal.invariant-loop-origin
invariant-loop-origin l = record {
  goes : Goes l.fn.at l.at;
  extends : Extends l.fn.at.store.nodes l.at.store.nodes;
  made : l.self.changes.made ≡ l.fn.self.changes.made;
  unknown : l.fn.self.changes.real.items ≡ [] → AllZip IsUnknownFor (take l.origin-index l.origins) l.self.changes.real.items;
}
