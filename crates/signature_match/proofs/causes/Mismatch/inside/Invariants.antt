use Rattle.std.proofs.Common.{◌≡◌, ◌∷◌, map}
use Rattle.text_terms.specs.Bytes.{str_bytes}
use Rattle.signature_match.proofs.causes.Mismatch.inside.Given as goal

abbrev pub invariant-loop-member : goal.invariant-loop-member
invariant-loop-member l = map str_bytes l.path.items ≡ str_bytes l.name ∷ map str_bytes l.yielded
