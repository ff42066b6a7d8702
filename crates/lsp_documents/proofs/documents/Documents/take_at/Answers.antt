use Rattle.std.proofs.Common.{◌≡◌, ◌∙◌, ◌<◌, length, remove, slice_get, Some, ap, sym, subst}
use Rattle.lsp_front.specs.Sayings.{choices_of}
use Rattle.lsp_documents.specs.Endings.{is_shut}
use Rattle.lsp_documents.specs.States.{State}
use Rattle.lsp_documents.proofs.Kept.{got_is, with_new}
use Rattle.lsp_documents.proofs.documents.Documents.take_at.Goals as goal

pub returns-clause-value : goal.returns-clause-value
returns-clause-value g c =
    let all = c.self.inside.documents.items in
    let at = c.args.at in
    let d = c.remove.result in
    let within : at < length all = subst (λ (s : State). at < length s.documents) (sym c.self.view_is) c.requires in
    subst (λ (s : State). slice_get s.documents at ≡ Some d) c.self.view_is (got_is all at d within ∙ ap Some (sym c.remove.ensures.value))

pub returns-clause-left : goal.returns-clause-left
returns-clause-left g c =
    with_new (choices_of c.self.inside.choices) (is_shut c.self.inside.ending) c.self.inside.documents.items c.remove.new.self.items c.args.self.now (λ l. remove l c.args.at) c.self.view_is c.remove.ensures.items
