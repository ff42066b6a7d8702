use Rattle.std.proofs.Common.{◌≡◌, map, take}
use Rattle.serde_json.specs.View.{view}
use Rattle.lsp_answers.proofs.write.list_value.Given as goal

abbrev pub invariant-loop-shown : goal.invariant-loop-shown
invariant-loop-shown g l = map view l.values.items ≡ map g.T.Shown.json (take l.shown-index l.list)
