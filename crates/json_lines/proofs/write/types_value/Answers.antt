use Rattle.std.proofs.lemmas.Simd.{map-map}
use Rattle.service_model.specs.Replies.{typed_data}
use Rattle.json_lines.specs.Means.{typed_of}
use Rattle.json_lines.proofs.write.types_value.Goals as goal

pub returns : goal.returns
returns c = rw (map-map typed_data typed_of c.args.list.now) c.list_value.ensures
