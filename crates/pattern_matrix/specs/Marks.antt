-- Marks of rows: numbers by which most rows that can't match the same value are known without a search.
use Rattle.std.specs.Prelude.{ℕ, zero, suc, ◌+◌, ◌*◌, ◌%◌, Bool, true, false, nat_eq, [], ◌∷◌, Option, Some, None, if◌then◌else◌}
use Rattle.signature_model.specs.Declarations.{Name}
use Rattle.pattern_matrix.specs.Lines.{Typed, Typeds, any, con, lit, either, none, also, Line, Head, built_head, literal_head}

-- the code of what came before, and of one byte more
unfoldable pub coded : ℕ → ℕ → ℕ
coded before b = (before % 2147483647) * 257 + b

-- the code of what came before, and of a name
abbrev pub name_code : ℕ → Name → ℕ
name_code before [] = before
name_code before (b ∷ bs) = name_code (coded before b) bs

-- the code of the name that a pattern begins with; none where it matches anything or is of alternatives
abbrev pub head_code : Typed → Option ℕ
head_code any = None
head_code (con all n ps) = Some (name_code 0 n)
head_code (lit n) = Some (name_code 0 n)
head_code (either ps) = None

-- the same of a line's first pattern
abbrev pub line_code : Line → Option ℕ
line_code [] = None
line_code (p ∷ rest) = head_code p

-- the code of a head's name
abbrev pub code_of : Head → ℕ
code_of (built_head n parts) = name_code 0 n
code_of (literal_head n) = name_code 0 n

-- whether there is a code, and another than this one
abbrev pub is_other : Option ℕ → ℕ → Bool
is_other None c = false
is_other (Some a) c = if nat_eq a c then false else true

-- the code of a pattern's name, of its first part's name, and so on down; none where one of them matches anything or is of alternatives
abbrev mutual
  pub mark_from : ℕ → Typed → Option ℕ
  mark_from before any = None
  mark_from before (con all n ps) = mark_first (name_code before n) ps
  mark_from before (lit n) = Some (name_code before n)
  mark_from before (either ps) = None

  -- the same of the first of several parts, where there is one
  pub mark_first : ℕ → Typeds → Option ℕ
  mark_first before none = Some before
  mark_first before (also p ps) = mark_from before p

-- the code so far, and that of the part at a place; the code so far where there are fewer parts
abbrev pub mark_part : ℕ → ℕ → Typeds → Option ℕ
mark_part at before none = Some before
mark_part zero before (also p ps) = mark_from before p
mark_part (suc at) before (also p ps) = mark_part at before ps

-- the mark of a pattern: the code of its name and of its part at a place
abbrev pub mark_at : ℕ → Typed → Option ℕ
mark_at at any = None
mark_at at (con all n ps) = mark_part at (name_code 0 n) ps
mark_at at (lit n) = Some (name_code 0 n)
mark_at at (either ps) = None

-- the mark of a line: that of its first pattern
abbrev pub line_mark : ℕ → Line → Option ℕ
line_mark at [] = None
line_mark at (p ∷ rest) = mark_at at p

-- whether patterns of these marks can match the same value
abbrev pub can_meet : Option ℕ → Option ℕ → Bool
can_meet None b = true
can_meet (Some a) None = true
can_meet (Some a) (Some b) = nat_eq a b
