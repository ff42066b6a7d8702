use Rattle.std.proofs.Common.{◌≡◌, map, drop}
use Rattle.lsp_front.specs.Sayings.{change_of}
use Rattle.lsp_positions.specs.Texts.{columns_in}
use Rattle.lsp_documents.specs.Changes.{content_behind_all}
use Rattle.lsp_documents.specs.Views.{is_free}
use Rattle.lsp_documents.proofs.document.Document.change_all.Given as goal

abbrev pub invariant-loop-change : goal.invariant-loop-change
invariant-loop-change g l =
    (l.self.uri ≡ l.fn.self.uri) × (l.self.version ≡ l.fn.version) × (l.self.shown ≡ l.fn.self.shown)
    × (content_behind_all (columns_in l.by) (is_free l.room) l.self.content (map change_of (drop l.change-index l.changes)) ≡ content_behind_all (columns_in l.by) (is_free l.room) l.fn.self.content (map change_of l.changes))
