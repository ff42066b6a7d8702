use Rattle.std.proofs.Common.{◌≡◌, ◌++◌, drop, map, option_map}
use Rattle.serde_json.specs.View.{items_view}
use Rattle.lsp_model.specs.Messages.{changes_of}
use Rattle.lsp_front.specs.Sayings.{change_of}
use Rattle.lsp_front.proofs.read.changes_of.Given as goal

abbrev pub invariant-loop-value : goal.invariant-loop-value
invariant-loop-value l = option_map (λ cs. map change_of l.changes.items ++ cs) (changes_of (items_view (drop l.value-index l.list))) ≡ changes_of (items_view l.list)
