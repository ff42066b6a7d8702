-- Which of the missed shapes is shown: it is built column by column from the left, by specialised and default matrices (Maranget 2007).
use Rattle.std.specs.Prelude.{◌≡◌, ℕ, zero, suc, Bool, true, false, ◌&&◌, ◌||◌, List, [], ◌∷◌, ◌++◌, length, if◌then◌else◌}
use Rattle.type_model.specs.Types.{Typ}
use Rattle.signature_model.specs.Declarations.{Name}
use Rattle.signature_model.specs.Components.{same_name}
use Rattle.match_model.specs.Values.{Pattern, Patterns, any, of_constructor, of_literal, either, no_patterns, also_pattern, Shape, Shapes, open_shape, of_built, no_shapes, also_shape}
use Rattle.match_model.specs.Forms.{World, Built, Form, closed_form, open_form, literals, no_form, form_of}

-- the patterns of one row, from the first column on
abbrev pub Line : Type 0
Line = List Pattern

-- patterns in order, as a list
abbrev pub list_of : Patterns → List Pattern
list_of no_patterns = []
list_of (also_pattern p ps) = p ∷ list_of ps

-- a line with each of several patterns in its first column
abbrev pub with_each : Line → Patterns → List Line
with_each rest no_patterns = []
with_each rest (also_pattern p ps) = (p ∷ rest) ∷ with_each rest ps

-- the lines with the alternatives of a pattern in its place, as far as patterns are alternatives of alternatives
abbrev mutual
  pub spread : Pattern → Line → List Line
  spread any rest = (any ∷ rest) ∷ []
  spread (of_constructor n ps) rest = (of_constructor n ps ∷ rest) ∷ []
  spread (of_literal n) rest = (of_literal n ∷ rest) ∷ []
  spread (either ps) rest = spread_all ps rest

  -- the lines of each of several patterns in this place
  pub spread_all : Patterns → Line → List Line
  spread_all no_patterns rest = []
  spread_all (also_pattern p ps) rest = spread p rest ++ spread_all ps rest

-- the lines without alternatives in the first column
abbrev pub spread_lines : List Line → List Line
spread_lines [] = []
spread_lines ([] ∷ ls) = [] ∷ spread_lines ls
spread_lines ((p ∷ rest) ∷ ls) = spread p rest ++ spread_lines ls

-- as many patterns that match anything as there are types
abbrev pub anything : List Typ → Line
anything [] = []
anything (t ∷ ts) = any ∷ anything ts

-- what a line asks of the parts of a constructor, if it has a place for it
abbrev pub under : Name → List Typ → Pattern → Line → List Line
under k ts any rest = (anything ts ++ rest) ∷ []
under k ts (of_constructor n ps) rest = if same_name k n then (list_of ps ++ rest) ∷ [] else []
under k ts (of_literal n) rest = []
under k ts (either ps) rest = []

-- what each line asks of the parts of a constructor, where it has a place for it: the specialised matrix
abbrev pub lines_under : Name → List Typ → List Line → List Line
lines_under k ts [] = []
lines_under k ts ([] ∷ ls) = lines_under k ts ls
lines_under k ts ((p ∷ rest) ∷ ls) = under k ts p rest ++ lines_under k ts ls

-- what is behind the first column of a line, if it has no head there
abbrev pub without_head : Pattern → Line → List Line
without_head any rest = rest ∷ []
without_head (of_constructor n ps) rest = []
without_head (of_literal n) rest = []
without_head (either ps) rest = []

-- of each line without a head, what is behind its first column: the default matrix
abbrev pub headless : List Line → List Line
headless [] = []
headless ([] ∷ ls) = headless ls
headless ((p ∷ rest) ∷ ls) = without_head p rest ++ headless ls

-- whether a constructor is the head of a pattern
abbrev pub is_head : Name → Pattern → Bool
is_head k any = false
is_head k (of_constructor n ps) = same_name k n
is_head k (of_literal n) = false
is_head k (either ps) = false

-- whether a constructor heads one of several lines
abbrev pub heads_some : Name → List Line → Bool
heads_some k [] = false
heads_some k ([] ∷ ls) = heads_some k ls
heads_some k ((p ∷ rest) ∷ ls) = is_head k p || heads_some k ls

-- whether each of some constructors heads a line
abbrev pub all_head : List Built → List Line → Bool
all_head [] ls = true
all_head (k ∷ ks) ls = heads_some k.name ls && all_head ks ls

-- whether one of some constructors heads a line
abbrev pub some_head : List Built → List Line → Bool
some_head [] ls = false
some_head (k ∷ ks) ls = heads_some k.name ls || some_head ks ls

-- whether the constructors that head the first column are all those of the type
abbrev pub is_complete : Form → List Line → Bool
is_complete (closed_form []) ls = false
is_complete (closed_form (k ∷ ks)) ls = all_head (k ∷ ks) ls
is_complete (open_form ks) ls = false
is_complete literals ls = false
is_complete no_form ls = false

-- as many open shapes as there are types
abbrev pub opens : List Typ → Shapes
opens [] = no_shapes
opens (t ∷ ts) = also_shape open_shape (opens ts)

-- the first constructor that heads no line, with open parts
abbrev pub first_absent : List Built → List Line → Shape
first_absent [] ls = open_shape
first_absent (k ∷ ks) ls = if heads_some k.name ls then first_absent ks ls else of_built k.name (opens k.parts)

-- the shape of a column in which not all constructors head a line: open where none does or the type is no variant
abbrev pub column_shape : Form → List Line → Shape
column_shape (closed_form ks) ls = if some_head ks ls then first_absent ks ls else open_shape
column_shape (open_form ks) ls = open_shape
column_shape literals ls = open_shape
column_shape no_form ls = open_shape

-- the shapes of the first columns, so many of them
abbrev pub taken : ℕ → Shapes → Shapes
taken zero ss = no_shapes
taken (suc n) no_shapes = no_shapes
taken (suc n) (also_shape s ss) = also_shape s (taken n ss)

-- the shapes of the other columns, behind so many
abbrev pub left_behind : ℕ → Shapes → Shapes
left_behind zero ss = ss
left_behind (suc n) no_shapes = no_shapes
left_behind (suc n) (also_shape s ss) = left_behind n ss

-- The shapes that are shown for lines of patterns over columns of these types, where a value is missed.
mutual
  pub data Shows (w : World) : List Typ → List Line → Shapes → Type 0 where
    -- no column is left, and no line
    at_end : Shows w [] [] no_shapes
    -- all constructors head a line: the first one, in the order of the declaration, that leaves shapes
    by_constructor : {t : Typ} {ts : List Typ} {ls : List Line} {ks : List Built} {s : Shape} {ss : Shapes} →
        form_of w t ≡ closed_form ks → is_complete (closed_form ks) (spread_lines ls) ≡ true → FirstShown w ks ts (spread_lines ls) s ss → Shows w (t ∷ ts) ls (also_shape s ss)
    -- else the lines without a head decide
    by_default : {t : Typ} {ts : List Typ} {ls : List Line} {ss : Shapes} →
        is_complete (form_of w t) (spread_lines ls) ≡ false → Shows w ts (headless (spread_lines ls)) ss →
        Shows w (t ∷ ts) ls (also_shape (column_shape (form_of w t) (spread_lines ls)) ss)

  -- the first of a type's constructors that leaves shapes, and the shapes that are shown with it
  pub data FirstShown (w : World) : List Built → List Typ → List Line → Shape → Shapes → Type 0 where
    here : {k : Built} {ks : List Built} {ts : List Typ} {ls : List Line} {ss : Shapes} →
        Shows w (k.parts ++ ts) (lines_under k.name k.parts ls) ss →
        FirstShown w (k ∷ ks) ts ls (of_built k.name (taken (length k.parts) ss)) (left_behind (length k.parts) ss)
    further : {k : Built} {ks : List Built} {ts : List Typ} {ls : List Line} {s : Shape} {ss : Shapes} →
        ShowsNone w (k.parts ++ ts) (lines_under k.name k.parts ls) → FirstShown w ks ts ls s ss → FirstShown w (k ∷ ks) ts ls s ss

  -- nothing is left: no value is missed
  pub data ShowsNone (w : World) : List Typ → List Line → Type 0 where
    some_line : {l : Line} {ls : List Line} → ShowsNone w [] (l ∷ ls)
    none_by_constructor : {t : Typ} {ts : List Typ} {ls : List Line} {ks : List Built} →
        form_of w t ≡ closed_form ks → is_complete (closed_form ks) (spread_lines ls) ≡ true → NoneShown w ks ts (spread_lines ls) → ShowsNone w (t ∷ ts) ls
    none_by_default : {t : Typ} {ts : List Typ} {ls : List Line} →
        is_complete (form_of w t) (spread_lines ls) ≡ false → ShowsNone w ts (headless (spread_lines ls)) → ShowsNone w (t ∷ ts) ls

  -- none of a type's constructors leaves shapes
  pub data NoneShown (w : World) : List Built → List Typ → List Line → Type 0 where
    no_more : {ts : List Typ} {ls : List Line} → NoneShown w [] ts ls
    and_none : {k : Built} {ks : List Built} {ts : List Typ} {ls : List Line} →
        ShowsNone w (k.parts ++ ts) (lines_under k.name k.parts ls) → NoneShown w ks ts ls → NoneShown w (k ∷ ks) ts ls
