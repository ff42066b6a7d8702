use Rattle.std.proofs.Common.{List, ℕ, sym, subst}
use Rattle.text_terms.specs.Bytes.{str_bytes}
use Rattle.lsp_documents.specs.Freshness.{IsFresh}
use Rattle.lsp_documents.specs.Views.{content_of}
use Rattle.lsp_documents.proofs.document.Document.bring_up.Goals as goal

pub invariant_of-self : goal.invariant_of-self
invariant_of-self g c =
    let was = c.self.inside in
    subst (λ (t : List ℕ). IsFresh was.fresh (record { uri = str_bytes was.uri; version = was.version; content = content_of was.why t; shown = was.sent.items })) (sym c.refresh.ensures.text) c.self.invariant
