use Rattle.std.proofs.Common.{◌≡◌, map, take}
use Rattle.serde_json.specs.View.{view}
use Rattle.service_model.specs.Replies.{outlined_data}
use Rattle.json_lines.specs.Means.{outlined_of}
use Rattle.json_lines.proofs.write.+outlined_value.Given as goal

abbrev pub invariant-loop-child : goal.invariant-loop-child
invariant-loop-child l = map view l.children.items ≡ map (λ o. outlined_data (outlined_of o)) (take l.child-index l.child-items)
