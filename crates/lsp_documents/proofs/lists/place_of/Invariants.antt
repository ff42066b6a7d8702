use Rattle.std.proofs.Common.{◌≡◌, drop}
use Rattle.lsp_documents.specs.States.{place_in, place_from}
use Rattle.lsp_documents.proofs.lists.place_of.Given as goal

abbrev pub invariant-loop-at : goal.invariant-loop-at
invariant-loop-at g l = place_in l.documents l.uri ≡ place_from l.at l.uri (drop l.at l.documents)
