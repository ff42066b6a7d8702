-- Comments. (OCaml manual, "Lexical conventions", Comments.)
use Rattle.std.specs.Prelude.{◌≡◌, ℕ, ◌==◌, ◌&&◌, ◌||◌, List, [], ◌∷◌, ◌++◌, Bool, true, false, get_or, nat_lt}
use Rattle.std.specs.List.{list_all}
use Rattle.token_model.specs.Bytes.{is_blank, is_lower}
use Rattle.token_model.specs.Spellings.{IsChar, IsString}

-- the first two bytes are these
abbrev pub begins_with : ℕ → ℕ → List ℕ → Bool
begins_with b c bs = get_or bs 0 0 == b && get_or bs 1 0 == c

-- a comment begins here
abbrev pub begins_comment : List ℕ → Bool
begins_comment bs = begins_with 40 42 bs

-- a quoted string begins here
pub data OpensQuoted : List ℕ → Type 0 where
  opens : (id bs : List ℕ) → list_all is_lower id ≡ true → OpensQuoted (123 ∷ id ++ 124 ∷ bs)

-- what no comment, comment's end, string, quoted string or character literal begins with
pub record IsPlainInside (bytes : List ℕ) : Type 0 where
  pub comment : begins_comment bytes ≡ false
  pub end : begins_with 42 41 bytes ≡ false
  pub quote : (get_or bytes 0 0 == 34) ≡ false
  pub quoted : OpensQuoted bytes → ⊥
  pub character : (spelled behind : List ℕ) → bytes ≡ spelled ++ behind → IsChar spelled → ⊥

-- In a comment stand these bytes, and behind the comment's end the second ones. Comments nest; strings, quoted strings and character literals in a comment are read as such.
pub data Closes : List ℕ → List ℕ → Type 0 where
  end : {rest : List ℕ} → Closes (42 ∷ 41 ∷ rest) rest
  nested : {bs : List ℕ} (middle : List ℕ) {rest : List ℕ} → Closes bs middle → Closes middle rest → Closes (40 ∷ 42 ∷ bs) rest
  string_inside : (spelled bs : List ℕ) {rest : List ℕ} → IsString spelled → Closes bs rest → Closes (spelled ++ bs) rest
  char_inside : (spelled bs : List ℕ) {rest : List ℕ} → IsChar spelled → Closes bs rest → Closes (spelled ++ bs) rest
  byte_inside : {b : ℕ} {bs rest : List ℕ} → IsPlainInside (b ∷ bs) → Closes bs rest → Closes (b ∷ bs) rest
