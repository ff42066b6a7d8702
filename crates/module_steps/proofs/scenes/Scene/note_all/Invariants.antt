use Rattle.std.proofs.Common.{◌≡◌, ℕ, List, drop}
use Rattle.env_table.specs.declared.entries.Kind.{Kind}
use Rattle.sig_template.specs.Structures.{entries_of}
use Rattle.module_steps.specs.Scenes.{has_name, OnlyNames, with_names}
use Rattle.module_steps.proofs.scenes.Scene.note_all.Given as goal

abbrev pub invariant-loop-entry : goal.invariant-loop-entry
invariant-loop-entry l = record {
  noted : (k : Kind) (n : List ℕ) → with_names (has_name l.self) (entries_of (drop l.entry-index l.entries)) k n ≡ with_names (has_name l.fn.self) (entries_of l.entries) k n;
  rest : OnlyNames l.fn.self l.self;
}
