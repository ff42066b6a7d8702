use Rattle.std.proofs.lemmas.Simd.{map-map}
use Rattle.service_model.specs.Replies.{fault_data}
use Rattle.json_lines.specs.Means.{fault_of}
use Rattle.json_lines.proofs.write.fault_list_value.Goals as goal

pub returns : goal.returns
returns c = rw (map-map fault_data fault_of c.args.list.now) c.list_value.ensures
