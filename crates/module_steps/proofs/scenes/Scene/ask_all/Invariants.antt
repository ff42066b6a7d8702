use Rattle.std.proofs.Common.{◌≡◌, ℕ, List, drop}
use Rattle.env_table.specs.declared.entries.Kind.{Kind}
use Rattle.env_table.specs.declared.faults.Fault.{Fault}
use Rattle.typing_state.specs.Goes.{Goes, OnlyFaults, faults_of}
use Rattle.sig_template.specs.Structures.{entries_of}
use Rattle.module_steps.specs.Scenes.{has_name, OnlyNames, ToldTwice, repeated, with_names}
use Rattle.module_steps.proofs.scenes.Scene.ask_all.Given as goal

abbrev pub invariant-loop-entry : goal.invariant-loop-entry
invariant-loop-entry l = record {
  told : (new : List Fault) → ToldTwice l.fn.at.telling (faults_of l.at) new l.span (repeated (has_name l.self) (entries_of (drop l.entry-index l.entries)))
      → ToldTwice l.fn.at.telling (faults_of l.fn.at) new l.span (repeated (has_name l.fn.self) (entries_of l.entries));
  noted : (k : Kind) (n : List ℕ) → with_names (has_name l.self) (entries_of (drop l.entry-index l.entries)) k n ≡ with_names (has_name l.fn.self) (entries_of l.entries) k n;
  rest : OnlyNames l.fn.self l.self;
  faults : OnlyFaults l.fn.at l.at;
  goes : Goes l.fn.at l.at;
}
