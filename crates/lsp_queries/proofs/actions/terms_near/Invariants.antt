use Rattle.std.proofs.Common.{List, map, drop}
use Rattle.syntax_tree.specs.Tallies.{Grows}
use Rattle.json_lines.specs.Means.{fault_of}
use Rattle.lsp_model.specs.Answers.{Action}
use Rattle.lsp_positions.specs.Texts.{columns_in}
use Rattle.lsp_queries.specs.Actions.{TermsNear}
use Rattle.lsp_queries.proofs.actions.terms_near.Given as goal

abbrev pub invariant-loop-fault : goal.invariant-loop-fault
invariant-loop-fault g l =
    ((acts : List Action) → TermsNear (columns_in l.by) l.session.text (l.asked.start, l.asked.end) (map fault_of (drop l.fault-index l.faults)) acts
    → TermsNear (columns_in l.by) l.session.text (l.asked.start, l.asked.end) (map fault_of l.faults) acts)
    × Grows (g.C.Counts.tallies l.fn.counts) (g.C.Counts.tallies l.counts)
