use Rattle.std.proofs.Common.{◌≡◌, map, drop}
use Rattle.std.specs.List.{list_all}
use Rattle.service_model.specs.WellTyped.{is_short}
use Rattle.syntax_tree.specs.View.{tok_of}
use Rattle.text_reading.proofs.reading.are_short.Given as goal

abbrev pub invariant-loop-token : goal.invariant-loop-token
invariant-loop-token l = list_all is_short (map tok_of (drop l.token-index l.tokens)) ≡ list_all is_short (map tok_of l.tokens)
