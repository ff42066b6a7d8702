use Rattle.std.proofs.lemmas.Simd.{map-map}
use Rattle.service_model.specs.Replies.{span_data}
use Rattle.json_lines.specs.Means.{span_of}
use Rattle.json_lines.proofs.write.spans_value.Goals as goal

pub returns : goal.returns
returns c = rw (map-map span_data span_of c.args.list.now) c.list_value.ensures
