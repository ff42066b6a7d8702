use Rattle.std.proofs.Common.{◌≡◌, subst, IfOk}
use Rattle.serde_json.specs.View.{view}
use Rattle.lsp_model.specs.Messages.{Declaration, references, wanting, place_in}
use Rattle.lsp_front.specs.Sayings.{asked_of}
use Rattle.lsp_front.proofs.read.asked_references.Goals as goal

pub returns : goal.returns
returns c = subst (λ (d : Declaration). IfOk c.asked_at.result (λ a. asked_of a ≡ wanting (λ p. references d p) (place_in (view c.args.params.now)))) c.declaration_in.ensures c.asked_at.ensures
