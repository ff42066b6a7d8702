use Rattle.std.proofs.Common.{◌∙◌, ◌≡◌, [], ◌∷◌, ◌++◌, List, ℕ, true, false, bytes_eq, ap, sym, subst, refl}
use Rattle.lsp_positions.specs.Texts.{columns_in}
use Rattle.lsp_documents.specs.States.{Document}
use Rattle.lsp_documents.proofs.Several.{shown_by, shown_still}
use Rattle.lsp_documents.proofs.document.Document.refresh.Goals as goal

pub returns-then-is_shown-clause-puts : goal.returns-then-is_shown-clause-puts
returns-then-is_shown-clause-puts g c = shown_still (columns_in c.args.by) c.args.self.now c.args.pieces.now (c.is_shown.ensures c.if-is_shown.true)

pub returns-then-eq-clause-puts : goal.returns-then-eq-clause-puts
returns-then-eq-clause-puts g c =
    let bytes = c.in_ok-bytes.bytes.items in
    let same : bytes_eq bytes c.args.self.now.shown ≡ true = sym (c.eq.ensures ∙ ap (λ (l : List ℕ). bytes_eq l c.as_slice-2.result.now) c.as_slice.ensures.value ∙ ap (bytes_eq bytes) (c.as_slice-2.ensures.value ∙ ap (λ (d : Document). d.shown) c.self.view_is)) ∙ c.if-eq.true in
    shown_by true (columns_in c.args.by) c.args.self.now c.note.new.self bytes c.args.pieces.now c.args.pieces.now c.in_ok-bytes.ensures.is same c.note.ensures refl

pub returns-clause-puts : goal.returns-clause-puts
returns-clause-puts g c =
    let bytes = c.in_ok-bytes.bytes.items in
    let same : bytes_eq bytes c.args.self.now.shown ≡ false = sym (c.eq.ensures ∙ ap (λ (l : List ℕ). bytes_eq l c.as_slice-2.result.now) c.as_slice.ensures.value ∙ ap (bytes_eq bytes) (c.as_slice-2.ensures.value ∙ ap (λ (d : Document). d.shown) c.self.view_is)) ∙ c.if-eq.false in
    shown_by false (columns_in c.args.by) c.args.self.now c.note-2.new.self bytes c.args.pieces.now c.push_copy.new.self c.in_ok-bytes.ensures.is same c.note-2.ensures
    (subst (λ (l : List ℕ). c.push_copy.new.self ≡ c.args.pieces.now ++ l ∷ []) c.deref.ensures.value c.in_ok-push_copy.ensures)
