use Rattle.std.proofs.Common.{◌≡◌}
use Rattle.typing_state.specs.Goes.{Goes}
use Rattle.decl_typing.specs.Owned.{AreOwnRights}
use Rattle.decl_typing.proofs.reexports.with_reexports.Given as goal

abbrev pub invariant-loop-place : goal.invariant-loop-place
invariant-loop-place l = record {
  goes : Goes l.fn.at l.at;
  own : AreOwnRights l.parts → l.at ≡ l.fn.at;
  same : AreOwnRights l.parts → l.renames ≡ l.fn.renames;
}
