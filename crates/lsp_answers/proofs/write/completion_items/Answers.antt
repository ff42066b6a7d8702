use Rattle.std.proofs.Common.{◌≡◌, ◌∙◌, sym, ap, take, map, arith}
use Rattle.std.proofs.lemmas.List.{take_all}
use Rattle.std.proofs.lemmas.Simd.{map-map}
use Rattle.serde_json.specs.Data.{Data, array}
use Rattle.serde_json.specs.View.{items_of}
use Rattle.lsp_model.specs.Answers.{completion_data}
use Rattle.lsp_answers.specs.Puts.{completion_of}
use Rattle.lsp_front.specs.Sayings.{range_of}
use Rattle.lsp_answers.specs.declared.answer.Completion.{Completion}
use Rattle.lsp_answers.proofs.write.completion_items.Goals as goal

pub returns : goal.returns
returns c =
    let names = c.args.names.now in
    let one : Completion → Data = λ n. completion_data (range_of c.args.word) (completion_of n) in
    let whole : take c.loop-name.name-index names ≡ names = take_all _ _ (omega arith) in
    c.array_value.ensures ∙ ap (λ ds. array (items_of ds)) (c.loop-name.invariant ∙ ap (map one) whole ∙ sym (map-map (completion_data (range_of c.args.word)) completion_of names))
