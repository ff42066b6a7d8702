use Rattle.std.proofs.lemmas.Simd.{map-map}
use Rattle.service_model.specs.Replies.{entry_data}
use Rattle.json_lines.specs.Means.{entry_of}
use Rattle.json_lines.proofs.write.entry_list_value.Goals as goal

pub returns : goal.returns
returns c = rw (map-map entry_data entry_of c.args.list.now) c.list_value.ensures
