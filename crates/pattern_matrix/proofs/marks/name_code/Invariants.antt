use Rattle.std.proofs.Common.{◌≡◌, drop}
use Rattle.text_terms.specs.Bytes.{str_bytes}
use Rattle.pattern_matrix.specs.Marks.{name_code}
use Rattle.pattern_matrix.proofs.marks.name_code.Given as goal

abbrev pub invariant-loop-byte : goal.invariant-loop-byte
invariant-loop-byte l = name_code l.code (drop l.byte-index l.byte-items) ≡ name_code l.before (str_bytes l.name)
