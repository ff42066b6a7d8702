use Rattle.std.proofs.Common.{◌≡◌, map, take, string_bytes}
use Rattle.std.specs.List.{join_with_byte}
use Rattle.text_terms.specs.Bytes.{str_bytes}
use Rattle.signature_match.proofs.causes.Mismatch.text.Given as goal

abbrev pub invariant-loop-place : goal.invariant-loop-place
invariant-loop-place l = string_bytes l.text ≡ join_with_byte 46 (map str_bytes (take l.place l.self.path.items))
