use Rattle.std.proofs.Common.{ℕ, ◌<◌, length, get_or}
use Rattle.typing_state.specs.Goes.{Goes}
use Rattle.env_table.specs.declared.entries.Label.{Label}
use Rattle.signature_match.specs.Shapes.{LabelsFit}
use Rattle.signature_match.specs.Comparing.{ComparesLabel}
use Rattle.signature_match.proofs.Compared.{Begun}
use Rattle.signature_match.proofs.compare.Both.labels_agree.Given as goal

abbrev pub invariant-loop-one : goal.invariant-loop-one
invariant-loop-one l = record {
  goes : Goes l.fn.at l.at;
  fit : (k : ℕ) (d e : Label) → k < length l.yielded → LabelsFit (get_or l.found k d) (get_or l.asked k e);
  begun : Begun ComparesLabel l.fn.at.store.nodes l.at.store.nodes l.found l.asked (length l.yielded);
}
