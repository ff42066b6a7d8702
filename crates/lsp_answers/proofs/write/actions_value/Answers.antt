use Rattle.std.proofs.Common.{◌≡◌, ◌∙◌, sym, ap, take, map, arith}
use Rattle.std.proofs.lemmas.List.{take_all}
use Rattle.std.proofs.lemmas.Simd.{map-map}
use Rattle.serde_json.specs.Data.{Data, array}
use Rattle.serde_json.specs.View.{items_of}
use Rattle.lsp_model.specs.Answers.{action_data}
use Rattle.lsp_answers.specs.Puts.{action_of}
use Rattle.lsp_answers.specs.declared.answer.Action.{Action}
use Rattle.lsp_answers.proofs.write.actions_value.Goals as goal

pub returns : goal.returns
returns c =
    let actions = c.args.actions.now in
    let one : Action → Data = λ a. action_data c.args.uri.now (action_of a) in
    let whole : take c.loop-action.action-index actions ≡ actions = take_all _ _ (omega arith) in
    c.array_value.ensures ∙ ap (λ ds. array (items_of ds)) (c.loop-action.invariant ∙ ap (map one) whole ∙ sym (map-map (action_data c.args.uri.now) action_of actions))
