use Rattle.std.proofs.Common.{◌≡◌, map, take}
use Rattle.text_terms.specs.Bytes.{str_bytes}
use Rattle.syntax_tree.specs.View.{tok_of}
use Rattle.typing_state.specs.Bound.{names_of_tokens}
use Rattle.typing_state.proofs.names.modules_of.Given as goal

abbrev pub invariant-loop-qualifier : goal.invariant-loop-qualifier
invariant-loop-qualifier l = map str_bytes l.names.items ≡ names_of_tokens (map (λ t. tok_of t.now) (take l.qualifier-index l.qualifiers))
