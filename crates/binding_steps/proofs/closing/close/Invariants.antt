use Rattle.std.proofs.Common.{◌≡◌, ◌++◌, map, drop}
use Rattle.env_table.specs.Views.{newest_first}
use Rattle.typing_state.specs.Goes.{Goes, Silent}
use Rattle.binding_rows.specs.CaseScopes.{names_added}
use Rattle.binding_rows.specs.Lets.{names_closed}
use Rattle.binding_steps.specs.Bindings.{closing_of}
use Rattle.binding_steps.proofs.ClosingLaws.{ClosesFirst}
use Rattle.binding_steps.proofs.closing.close.Given as goal

abbrev pub invariant-loop-one : goal.invariant-loop-one
invariant-loop-one l = record {
  goes : Goes l.fn.at l.at;
  silent : Silent l.fn.at l.at;
  closes : ClosesFirst l.fn.at l.at l.env l.behind (map closing_of l.bound) (map closing_of (drop l.one-index l.bound));
  names : names_added (names_closed (map closing_of (drop l.one-index l.bound))) l.behind ≡ names_added (names_closed (map closing_of l.bound)) l.env;
  grows : l.behind ≡ newest_first l.entries.items ++ l.env;
}
