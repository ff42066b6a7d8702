-- The tokens of a text: each the longest spelling at its place, with blanks and closed comments between. (OCaml manual, "Lexical conventions".)
use Rattle.std.specs.Prelude.{◌≡◌, ℕ, ◌+◌, ◌-◌, ◌==◌, ◌≤◌, List, [], ◌∷◌, ◌++◌, length, take, drop, Bool, true, false, if◌then◌else◌, Option, Some, None, get_or}
use Rattle.std.specs.List.{list_all}
use Rattle.token_model.specs.Bytes.{is_blank, continues, begins}
use Rattle.token_model.specs.Kinds.{Kind, Tok, junk}
use Rattle.token_model.specs.Spellings.{IsString, Spells}
use Rattle.token_model.specs.Comments.{begins_comment, OpensQuoted, Closes}

-- from these bytes to the second ones stand only blanks and closed comments
pub data Gap : List ℕ → List ℕ → Type 0 where
  no_gap : {bs : List ℕ} → Gap bs bs
  blank : {b : ℕ} {bs rest : List ℕ} → is_blank b ≡ true → Gap bs rest → Gap (b ∷ bs) rest
  comment : {bs : List ℕ} (middle : List ℕ) {rest : List ℕ} → Closes bs middle → Gap middle rest → Gap (40 ∷ 42 ∷ bs) rest

-- a comment, a string or a quoted string begins here and has no end
pub data IsUnclosed : List ℕ → Type 0 where
  unclosed_comment : {bs : List ℕ} → ((rest : List ℕ) → Closes bs rest → ⊥) → IsUnclosed (40 ∷ 42 ∷ bs)
  unclosed_string : {bs : List ℕ} → ((spelled rest : List ℕ) → 34 ∷ bs ≡ spelled ++ rest → IsString spelled → ⊥) → IsUnclosed (34 ∷ bs)
  unclosed_quoted : {bs : List ℕ} → OpensQuoted bs → ((spelled rest : List ℕ) → bs ≡ spelled ++ rest → IsString spelled → ⊥) → IsUnclosed bs

-- what is spelled before what follows, and no longer front of both spells a token
pub record IsLongest (kind : Kind) (bytes name rest : List ℕ) : Type 0 where
  pub spelled : Spells kind bytes name rest
  pub longest : (other : Kind) (front shown behind : List ℕ) → bytes ++ rest ≡ front ++ behind → Spells other front shown behind → length front ≤ length bytes

-- The token that stands here, of these bytes before those that follow.
pub data Stands : Kind → List ℕ → List ℕ → List ℕ → Type 0 where
  -- an unclosed comment, string or quoted string up to the end
  unclosed : {bytes : List ℕ} → IsUnclosed bytes → Stands junk bytes bytes []
  -- the longest spelling
  longest : {kind : Kind} {bytes name rest : List ℕ} → (IsUnclosed (bytes ++ rest) → ⊥) → begins_comment (bytes ++ rest) ≡ false → IsLongest kind bytes name rest → Stands kind bytes name rest
  -- one character, where neither a blank nor a token nor a comment begins
  stray : {b : ℕ} {bs rest : List ℕ} → (IsUnclosed (b ∷ bs ++ rest) → ⊥) → begins_comment (b ∷ bs ++ rest) ≡ false → is_blank b ≡ false
      → ((other : Kind) (front shown behind : List ℕ) → b ∷ bs ++ rest ≡ front ++ behind → Spells other front shown behind → ⊥)
      → list_all continues bs ≡ true → begins continues rest ≡ false → Stands junk (b ∷ bs) (b ∷ bs) rest

-- The first token of bytes that stand at a place, behind a gap.
pub record IsFirst (at : ℕ) (bytes : List ℕ) (token : Tok) : Type 0 where
  pub spelled : List ℕ
  pub rest : List ℕ
  pub gap : Gap bytes (spelled ++ rest)
  pub stands : Stands token.kind spelled token.name rest
  pub start : token.start + length (spelled ++ rest) ≡ at + length bytes
  pub end : token.end ≡ token.start + length spelled

-- the first token of bytes that stand at a place; none, where only a gap is left
abbrev pub First : ℕ → List ℕ → Option Tok → Type 0
First at bytes None = Gap bytes []
First at bytes (Some token) = IsFirst at bytes token

-- the bytes behind the last line feed of these, or so many more where they have none
abbrev pub column_from : ℕ → List ℕ → ℕ
column_from n [] = n
column_from n (b ∷ bs) = if b == 10 then column_from 0 bs else column_from (n + 1) bs

-- the column of a place in a text: how many bytes stand between the last line feed before it and it
unfoldable pub column : List ℕ → ℕ → ℕ
column text at = column_from 0 (take at text)

-- the token has the column of its place
abbrev pub HasColumn : List ℕ → Option Tok → Type 0
HasColumn text None = Unit {0}
HasColumn text (Some token) = token.col ≡ column text token.start

-- the first token of a text at or behind a place
unfoldable pub FirstToken : List ℕ → ℕ → Option Tok → Type 0
FirstToken text at token = First at (drop at text) token × HasColumn text token

-- these are the tokens of a text from a place on
abbrev pub LexFrom : List ℕ → ℕ → List Tok → Type 0
LexFrom text at [] = FirstToken text at None
LexFrom text at (t ∷ ts) = FirstToken text at (Some t) × LexFrom text t.end ts

-- these are the tokens of a text
unfoldable pub Lex : List ℕ → List Tok → Type 0
Lex text tokens = LexFrom text 0 tokens
