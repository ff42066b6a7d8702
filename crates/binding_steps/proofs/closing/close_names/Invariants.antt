use Rattle.std.proofs.Common.{◌≡◌, drop}
use Rattle.env_table.specs.Views.{newest_first}
use Rattle.typing_state.specs.Goes.{Goes, Silent}
use Rattle.pattern_typing.specs.Matching.{binds_of}
use Rattle.binding_rows.specs.CaseScopes.{names_added}
use Rattle.binding_rows.specs.Closing.{GeneralisesAll}
use Rattle.binding_steps.specs.Bindings.{name_nodes}
use Rattle.binding_steps.proofs.ClosingLaws.{NamesDone}
use Rattle.binding_steps.proofs.closing.close_names.Given as goal

abbrev pub invariant-loop-name : goal.invariant-loop-name
invariant-loop-name l = record {
  goes : Goes l.fn.at l.at;
  silent : Silent l.fn.at l.at;
  generalises : NamesDone (GeneralisesAll l.fn.at l.at) (name_nodes (drop l.name-index l.names)) (name_nodes l.names);
  entries : names_added (binds_of (drop l.name-index l.names)) (newest_first l.entries.items) ≡ names_added (binds_of l.names) (newest_first l.fn.entries.items);
}
