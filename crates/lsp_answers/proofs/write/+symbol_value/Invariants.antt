use Rattle.std.proofs.Common.{◌≡◌, map, take}
use Rattle.serde_json.specs.View.{view}
use Rattle.lsp_model.specs.Answers.{symbol_data}
use Rattle.lsp_answers.specs.Puts.{symbol_of}
use Rattle.lsp_answers.proofs.write.+symbol_value.Given as goal

abbrev pub invariant-loop-child : goal.invariant-loop-child
invariant-loop-child l = map view l.children.items ≡ map (λ s. symbol_data (symbol_of s)) (take l.child-index l.child-items)
