use Rattle.syntax_tree.specs.Tallies.{Grows}
use Rattle.lsp_positions.specs.Texts.{columns_in}
use Rattle.lsp_documents.proofs.Several.{IsDone}
use Rattle.lsp_documents.proofs.lists.refresh_each.Given as goal

abbrev pub invariant-loop-at : goal.invariant-loop-at
invariant-loop-at g l = IsDone (columns_in l.by) l.fn.documents l.at l.fn.pieces l.documents l.pieces × Grows (g.C.Counts.tallies l.fn.counts) (g.C.Counts.tallies l.counts)
