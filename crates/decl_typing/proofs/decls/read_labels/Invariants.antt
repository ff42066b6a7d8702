use Rattle.std.specs.Prelude.{ℕ, List, take, drop}
use Rattle.signature_model.specs.Declarations.{Name}
use Rattle.typing_state.specs.Goes.{Goes}
use Rattle.type_expressions.specs.Untyped.{Untyped}
use Rattle.type_expressions.specs.Items.{IsOver, HasNodes}
use Rattle.type_model.specs.Types.{Typ}
use Rattle.decl_typing.specs.LabelParts.{ReadsFirstLabels}
use Rattle.decl_typing.proofs.Labels.{SettlesFirstLabels}
use Rattle.decl_typing.proofs.decls.read_labels.Given as goal

abbrev pub invariant-loop-part : goal.invariant-loop-part
invariant-loop-part l = record {
  goes : Goes l.fn.at l.at;
  untyped : Untyped l.fn.at l.at;
  settles : (names : List Name) → IsOver l.variables names → SettlesFirstLabels l.fn.at l.at l.inner names l.parts l.part-index;
  means : (names : List Name) (ps : List ℕ) (t : Typ) → IsOver l.variables names → HasNodes l.variables ps → ReadsFirstLabels l.fn.at l.at l.inner names ps l.parts (drop l.part-index l.parts) (take l.part-index l.parts) t l.«record».0 l.labels.items;
}
