use Rattle.std.proofs.lemmas.Simd.{map-map}
use Rattle.lsp_model.specs.Answers.{highlight_data}
use Rattle.lsp_front.specs.Sayings.{range_of}
use Rattle.lsp_answers.proofs.write.highlights_value.Goals as goal

pub returns : goal.returns
returns c = rw (map-map highlight_data range_of c.args.ranges.now) c.list_value.ensures
