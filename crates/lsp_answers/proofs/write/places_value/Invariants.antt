use Rattle.std.proofs.Common.{◌≡◌, map, take}
use Rattle.serde_json.specs.View.{view}
use Rattle.lsp_model.specs.Answers.{place_data}
use Rattle.lsp_front.specs.Sayings.{range_of}
use Rattle.lsp_answers.proofs.write.places_value.Given as goal

abbrev pub invariant-loop-range : goal.invariant-loop-range
invariant-loop-range l = map view l.places.items ≡ map (λ r. place_data l.uri (range_of r)) (take l.range-index l.ranges)
