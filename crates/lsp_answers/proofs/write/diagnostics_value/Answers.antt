use Rattle.std.proofs.lemmas.Simd.{map-map}
use Rattle.lsp_model.specs.Answers.{diagnostic_data}
use Rattle.lsp_answers.specs.Puts.{diagnostic_of}
use Rattle.lsp_answers.proofs.write.diagnostics_value.Goals as goal

pub returns : goal.returns
returns c = rw (map-map diagnostic_data diagnostic_of c.args.list.now) c.list_value.ensures
