use Rattle.std.proofs.lemmas.Simd.{map-map}
use Rattle.serde_json.specs.Data.{string}
use Rattle.text_terms.specs.Bytes.{str_bytes}
use Rattle.json_lines.proofs.write.texts_value.Goals as goal

pub returns : goal.returns
returns c = rw (map-map string str_bytes c.args.list.now) c.list_value.ensures
