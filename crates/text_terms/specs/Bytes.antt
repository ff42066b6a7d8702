-- The bytes of a shared text.
use Rattle.std.specs.Prelude.{ℕ, List, string_bytes}
use Rattle.text_terms.specs.declared.RcStr.{RcStr}

-- the bytes of the text, in UTF-8
abbrev pub str_bytes : RcStr → List ℕ
str_bytes r = string_bytes r.text.value
