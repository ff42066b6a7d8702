use Rattle.std.proofs.Common.{◌≡◌, [], List, drop}
use Rattle.env_table.specs.declared.entries.Entry.{Entry}
use Rattle.typing_state.specs.Goes.{Goes}
use Rattle.typing_state.specs.declared.parts.Parts.{Parts}
use Rattle.first_laws.specs.Built.{EntersAll}
use Rattle.module_steps.specs.First.{HasBuiltIns}
use Rattle.module_steps.proofs.first.with_all.Given as goal

abbrev pub invariant-loop-which : goal.invariant-loop-which
invariant-loop-which l = record {
  entries : (env : List Entry) → HasBuiltIns (drop l.which-index l.all) l.env env → HasBuiltIns l.all [] env;
  declares : l.fn.at.level ≡ 0 → (l.at.level ≡ 0) × ((b : Parts) (env : List Entry) → EntersAll (drop l.which-index l.all) l.at l.env b env → EntersAll l.all l.fn.at [] b env);
  goes : Goes l.fn.at l.at;
}
