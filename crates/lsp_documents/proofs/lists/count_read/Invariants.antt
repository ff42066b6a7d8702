use Rattle.std.proofs.Common.{◌≡◌, ◌≤◌, ◌+◌, drop}
use Rattle.lsp_documents.specs.States.{read_count}
use Rattle.lsp_documents.proofs.lists.count_read.Given as goal

abbrev pub invariant-loop-document : goal.invariant-loop-document
invariant-loop-document g l = (l.count + read_count (drop l.document-index l.documents) ≡ read_count l.documents) × (l.count ≤ l.document-index)
