use Rattle.std.proofs.Common.{◌≡◌, map, take}
use Rattle.serde_json.specs.View.{view}
use Rattle.lsp_model.specs.Answers.{action_data}
use Rattle.lsp_answers.specs.Puts.{action_of}
use Rattle.lsp_answers.proofs.write.actions_value.Given as goal

abbrev pub invariant-loop-action : goal.invariant-loop-action
invariant-loop-action l = map view l.values.items ≡ map (λ a. action_data l.uri (action_of a)) (take l.action-index l.actions)
