-- The word before a cursor, and the prefix that it asks for.
use Rattle.std.specs.Prelude.{◌≡◌, ℕ, zero, suc, ◌+◌, ◌-◌, ◌==◌, ◌&&◌, List, [], take, drop, slice_index, Bool, true, false, not, nat_lt, if◌then◌else◌}
use Rattle.std.specs.Str.{is_utf8}
use Rattle.lsp_model.specs.Frames.{is_digit}
use Rattle.lsp_model.specs.Spans.{is_name_byte, is_upper, run_start}

-- where the name that ends at a place begins
abbrev pub name_start : List ℕ → ℕ → ℕ
name_start text at = run_start is_name_byte text at

-- whether a point ends at a place
abbrev pub has_point : List ℕ → ℕ → Bool
has_point text at = nat_lt 0 at && slice_index text (at - 1) == 46

-- whether the name that ends at a place has some byte, and its first byte is of a kind
abbrev pub begins_with : (ℕ → Bool) → List ℕ → ℕ → Bool
begins_with test text at = nat_lt (name_start text at) at && test (slice_index text (name_start text at))

-- where the module's name begins that ends at a point before a place; the place itself where there is none
abbrev pub module_start : List ℕ → ℕ → ℕ
module_start text at = if has_point text at && begins_with is_upper text (at - 1) then name_start text (at - 1) else at

-- where at most so many modules begin that are before a place
abbrev pub modules_start : ℕ → List ℕ → ℕ → ℕ
modules_start zero text at = at
modules_start (suc n) text at = if nat_lt (module_start text at) at then modules_start n text (module_start text at) else at

-- where the prefix of the word begins that begins at a place: with the modules before the word
unfoldable pub prefix_start : List ℕ → ℕ → ℕ
prefix_start text word = modules_start word text word

-- what is completed: names, labels alone behind another point, or nothing behind that of a number
pub data Scope : Type 0 where
  all_names : Scope
  only_labels : Scope
  no_names : Scope

-- what a prefix that begins at a place completes
abbrev pub scope_at : List ℕ → ℕ → Scope
scope_at text start = if not (has_point text start) then all_names else if begins_with is_digit text (start - 1) then no_names else only_labels

-- a prefix as a text; names and points are always one
abbrev pub as_text : List ℕ → List ℕ
as_text bs = if is_utf8 bs then bs else []

-- the bytes from one place to another
abbrev pub bytes_between : List ℕ → ℕ → ℕ → List ℕ
bytes_between text start end = take (end - start) (drop start text)
