use Rattle.std.proofs.Common.{ℕ, ◌<◌, length, get_or}
use Rattle.typing_state.specs.Goes.{Goes}
use Rattle.env_table.specs.declared.entries.Constructor.{Constructor}
use Rattle.signature_match.specs.Shapes.{ConstructorsFit}
use Rattle.signature_match.specs.Comparing.{ComparesConstructor}
use Rattle.signature_match.proofs.Compared.{Begun}
use Rattle.signature_match.proofs.compare.Both.all_constructors_agree.Given as goal

abbrev pub invariant-loop-one : goal.invariant-loop-one
invariant-loop-one l = record {
  goes : Goes l.fn.at l.at;
  fit : (k : ℕ) (d e : Constructor) → k < length l.yielded → ConstructorsFit (get_or l.found k d) (get_or l.asked k e);
  begun : Begun ComparesConstructor l.fn.at.store.nodes l.at.store.nodes l.found l.asked (length l.yielded);
}
