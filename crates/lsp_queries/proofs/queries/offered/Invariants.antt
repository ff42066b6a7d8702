use Rattle.std.proofs.Common.{◌≡◌, ◌++◌, map, drop}
use Rattle.std.specs.Prelude.{filter}
use Rattle.json_lines.specs.Means.{entry_of}
use Rattle.lsp_answers.specs.Puts.{completion_of}
use Rattle.lsp_queries.specs.Answers.{completion_told, is_offered}
use Rattle.lsp_queries.proofs.queries.offered.Given as goal

abbrev pub invariant-loop-entry : goal.invariant-loop-entry
invariant-loop-entry l =
    map completion_of l.names.items ++ map completion_told (filter (is_offered l.labels) (map entry_of (drop l.entry-index l.entries))) ≡ map completion_told (filter (is_offered l.labels) (map entry_of l.entries))
