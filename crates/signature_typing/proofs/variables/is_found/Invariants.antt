use Rattle.std.proofs.Common.{◌≡◌, drop}
use Rattle.text_terms.specs.Bytes.{str_bytes}
use Rattle.typing_model.specs.Records.{is_among}
use Rattle.decl_typing.specs.Parameters.{token_names}
use Rattle.signature_typing.proofs.variables.is_found.Given as goal

abbrev pub invariant-loop-other : goal.invariant-loop-other
invariant-loop-other l = is_among (str_bytes l.token.name) (token_names (drop l.other-index l.found)) ≡ is_among (str_bytes l.token.name) (token_names l.found)
