use Rattle.std.proofs.Common.{List, map, drop}
use Rattle.env_table.specs.declared.faults.Fault.{Fault}
use Rattle.syntax_tree.specs.View.{place_of}
use Rattle.typing_state.specs.declared.parts.Parts.{Parts}
use Rattle.match_warnings.specs.Warnings.{WarnsOf, unused_cases}
use Rattle.typing_state.specs.Goes.{faults_of, Goes}
use Rattle.match_warnings.specs.Reported.{Reports, unused_among}
use Rattle.typing_steps.specs.Warning.{OnlyWarnings}
use Rattle.match_warnings.proofs.warnings.report_unused.Given as goal

abbrev pub invariant-loop-place : goal.invariant-loop-place
invariant-loop-place l = record {
  goes : Goes l.fn.at l.at;
  warns : OnlyWarnings l.fn.at l.at;
  which : (b : List Fault) → Reports l.fn.at.telling (unused_among l.unused l.place (map place_of (drop l.place l.cases))) (faults_of l.at) b → Reports l.fn.at.telling (unused_among l.unused 0 (map place_of l.cases)) (faults_of l.fn.at) b;
  places : (b : Parts) → WarnsOf (unused_cases (map place_of (drop l.place l.cases))) l.at b → WarnsOf (unused_cases (map place_of l.cases)) l.fn.at b;
}
