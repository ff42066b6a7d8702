use Rattle.std.proofs.Common.{◌≡◌, ◌∙◌, length, map, ap}
use Rattle.std.proofs.lemmas.List.{length-map}
use Rattle.lsp_front.specs.Sayings.{choices_of}
use Rattle.lsp_documents.specs.Endings.{is_shut}
use Rattle.lsp_documents.specs.Puts.{document_lost}
use Rattle.lsp_documents.proofs.Kept.{filled, with_new}
use Rattle.lsp_documents.proofs.documents.Documents.lose_all.Goals as goal

pub returns : goal.returns
returns g c =
    let old = c.self.inside.documents in
    let is = c.lose_each.ensures ∙ ap (map document_lost) c.deref_mut.ensures.value in
    let same : length c.lose_each.new.documents ≡ length old.items = ap length is ∙ length-map old.items document_lost in
    with_new (choices_of c.self.inside.choices) (is_shut c.self.inside.ending) old.items _ c.args.self.now (map document_lost) c.self.view_is (filled old.len c.lose_each.new.documents old.items old.ok.0 same ∙ is)
