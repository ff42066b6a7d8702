use Rattle.std.proofs.Common.{◌≡◌, drop}
use Rattle.serde_json.specs.View.{items_view}
use Rattle.lsp_model.specs.Messages.{chosen_of, hover_named}
use Rattle.lsp_front.proofs.read.first_hover.Given as goal

abbrev pub invariant-loop-value : goal.invariant-loop-value
invariant-loop-value l = chosen_of hover_named (items_view (drop l.value-index l.list)) ≡ chosen_of hover_named (items_view l.list)
