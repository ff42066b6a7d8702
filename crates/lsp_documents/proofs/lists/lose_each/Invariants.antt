use Rattle.std.proofs.Common.{◌≡◌, ◌++◌, map, take, drop}
use Rattle.lsp_documents.specs.Puts.{document_lost}
use Rattle.lsp_documents.proofs.lists.lose_each.Given as goal

abbrev pub invariant-loop-at : goal.invariant-loop-at
invariant-loop-at g l = l.documents ≡ map document_lost (take l.at l.fn.documents) ++ drop l.at l.fn.documents
