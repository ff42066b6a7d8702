use Rattle.std.proofs.Common.{◌≡◌, ◌∙◌, sym, ap, take, map, arith}
use Rattle.std.proofs.lemmas.List.{take_all}
use Rattle.std.proofs.lemmas.Simd.{map-map}
use Rattle.serde_json.specs.Data.{Data, array}
use Rattle.serde_json.specs.View.{items_of}
use Rattle.lsp_model.specs.Answers.{place_data}
use Rattle.lsp_front.specs.Sayings.{range_of}
use Rattle.lsp_front.specs.declared.message.Range.{Range}
use Rattle.lsp_answers.proofs.write.places_value.Goals as goal

pub returns : goal.returns
returns c =
    let ranges = c.args.ranges.now in
    let one : Range → Data = λ r. place_data c.args.uri.now (range_of r) in
    let whole : take c.loop-range.range-index ranges ≡ ranges = take_all _ _ (omega arith) in
    c.array_value.ensures ∙ ap (λ ds. array (items_of ds)) (c.loop-range.invariant ∙ ap (map one) whole ∙ sym (map-map (place_data c.args.uri.now) range_of ranges))
