use Rattle.std.proofs.Common.{◌≡◌, map, take}
use Rattle.serde_json.specs.View.{view}
use Rattle.lsp_model.specs.Answers.{completion_data}
use Rattle.lsp_answers.specs.Puts.{completion_of}
use Rattle.lsp_front.specs.Sayings.{range_of}
use Rattle.lsp_answers.proofs.write.completion_items.Given as goal

abbrev pub invariant-loop-name : goal.invariant-loop-name
invariant-loop-name l = map view l.items.items ≡ map (λ c. completion_data (range_of l.word) (completion_of c)) (take l.name-index l.names)
