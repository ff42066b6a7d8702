use Rattle.std.proofs.Common.{◌≡◌, drop}
use Rattle.serde_json.specs.View.{items_view}
use Rattle.lsp_model.specs.Messages.{any_text, names_quickfix}
use Rattle.lsp_front.proofs.read.has_quickfix.Given as goal

abbrev pub invariant-loop-value : goal.invariant-loop-value
invariant-loop-value l = any_text names_quickfix (items_view (drop l.value-index l.list)) ≡ any_text names_quickfix (items_view l.list)
