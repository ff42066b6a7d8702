use Rattle.std.proofs.Common.{◌∙◌, [], ◌∷◌, ◌++◌, List, ℕ, refl, ap, sym, subst}
use Rattle.lsp_positions.specs.Texts.{columns_in}
use Rattle.lsp_front.specs.Sayings.{delivery_in}
use Rattle.lsp_documents.specs.Reports.{RefreshesBy}
use Rattle.lsp_documents.proofs.sending.refreshed.Goals as goal

pub returns-in-AskedFor-clause-puts : goal.returns-in-AskedFor-clause-puts
returns-in-AskedFor-clause-puts g c = (
  [],
  subst (λ d. RefreshesBy (delivery_in d) (columns_in c.args.choices.columns) c.args.documents.now [] c.args.documents.now) (sym c.in-AskedFor.is) (refl, refl),
  c.in_ok-push.ensures ∙ ap (λ (l : List (List ℕ)). l ++ c.args.first.items ∷ []) c.new-pieces.ensures,
)
