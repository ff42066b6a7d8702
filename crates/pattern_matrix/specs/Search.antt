-- What is found for a row in lines: the shapes of a value that the row matches and no line does, column by column from the left, or nothing.
use Rattle.std.specs.Prelude.{◌≡◌, ◌≤◌, List, [], ◌∷◌, ◌++◌, take, drop, length, Option, Some, None, option_map}
use Rattle.signature_model.specs.Declarations.{Name}
use Rattle.match_model.specs.Values.{Shape, of_built, of_spelling}
use Rattle.pattern_matrix.specs.Lines.{Member, Typed, Typeds, any, con, lit, either, none, also, items_of, Line, opened, Head, built_head, literal_head, head_of, lines_under, headless, family, column, shapes_in}
use Rattle.pattern_matrix.specs.Weights.{lines_weight}

-- a line is one of some
pub data IsIn : Line → List Line → Type 0 where
  here : {l : Line} {ls : List Line} → IsIn l (l ∷ ls)
  there : {l m : Line} {ls : List Line} → IsIn l ls → IsIn l (m ∷ ls)

-- some lines without repetitions of lines among them
pub record IsSqueezed (fewer lines : List Line) : Type 0 where
  pub kept : (l : Line) → IsIn l fewer → IsIn l lines
  pub none_lost : (l : Line) → IsIn l lines → IsIn l fewer
  pub lighter : lines_weight fewer ≤ lines_weight lines

-- the shapes of the parts of a head, as the head's one shape
abbrev pub with_head : Head → List Shape → List Shape
with_head (built_head n parts) ss = of_built n (shapes_in (take parts ss)) ∷ drop parts ss
with_head (literal_head n) ss = of_spelling n ∷ ss

-- what is found behind a head, with the head in front
abbrev pub under_head : Head → Option (List Shape) → Option (List Shape)
under_head h found = option_map (with_head h) found

-- what is found behind the first column, with the shape of that column in front
abbrev pub behind : Shape → Option (List Shape) → Option (List Shape)
behind s found = option_map (λ ss. s ∷ ss) found

-- what is searched for
pub data Task : Type 0 where
  -- a row in lines
  row_in : List Line → Line → Task
  -- each of several patterns before the rest of a row
  some_in : List Line → Typeds → Line → Task
  -- each of several constructors before the rest of a row
  members_in : List Line → List Member → Line → Task

-- a search finds these shapes, or nothing (Maranget 2007, for the usefulness of a row)
pub data Finds : Task → Option (List Shape) → Type 0 where
  -- no column is left
  missed : Finds (row_in [] []) (Some [])
  covered : {l : Line} {ls : List Line} → Finds (row_in (l ∷ ls) []) None
  -- the row begins with a constructor, a literal or alternatives
  by_con : {all : List Member} {n : Name} {ps : Typeds} {rest : Line} {ls : List Line} {r s : Option (List Shape)} →
      Finds (row_in (lines_under (built_head n (length (items_of ps))) ls) (items_of ps ++ rest)) s →
      r ≡ under_head (built_head n (length (items_of ps))) s → Finds (row_in ls (con all n ps ∷ rest)) r
  by_lit : {n : Name} {rest : Line} {ls : List Line} {r s : Option (List Shape)} →
      Finds (row_in (lines_under (literal_head n) ls) rest) s → r ≡ under_head (literal_head n) s → Finds (row_in ls (lit n ∷ rest)) r
  by_either : {ps : Typeds} {rest : Line} {ls : List Line} {r : Option (List Shape)} →
      Finds (some_in ls ps rest) r → Finds (row_in ls (either ps ∷ rest)) r
  -- it begins with anything: all constructors head a line, or the lines without a head decide
  by_members : {rest : Line} {ls : List Line} {r : Option (List Shape)} →
      column ls ≡ None → Finds (members_in ls (family ls) rest) r → Finds (row_in ls (any ∷ rest)) r
  by_default : {rest : Line} {ls : List Line} {shape : Shape} {r s : Option (List Shape)} →
      column ls ≡ Some shape → Finds (row_in (headless ls) rest) s → r ≡ behind shape s → Finds (row_in ls (any ∷ rest)) r
  -- repeated lines change nothing
  squeezed : {row : Line} {ls fewer : List Line} {r : Option (List Shape)} →
      IsSqueezed fewer ls → Finds (row_in fewer row) r → Finds (row_in ls row) r
  no_pattern : {rest : Line} {ls : List Line} → Finds (some_in ls none rest) None
  this_pattern : {p : Typed} {ps : Typeds} {rest : Line} {ls : List Line} {ss : List Shape} →
      Finds (row_in ls (p ∷ rest)) (Some ss) → Finds (some_in ls (also p ps) rest) (Some ss)
  next_pattern : {p : Typed} {ps : Typeds} {rest : Line} {ls : List Line} {r : Option (List Shape)} →
      Finds (row_in ls (p ∷ rest)) None → Finds (some_in ls ps rest) r → Finds (some_in ls (also p ps) rest) r
  no_member : {rest : Line} {ls : List Line} → Finds (members_in ls [] rest) None
  this_member : {k : Member} {ks : List Member} {rest : Line} {ls : List Line} {ss : List Shape} {r : Option (List Shape)} →
      Finds (row_in (lines_under (head_of k) ls) (opened k.parts ++ rest)) (Some ss) → r ≡ Some (with_head (head_of k) ss) →
      Finds (members_in ls (k ∷ ks) rest) r
  next_member : {k : Member} {ks : List Member} {rest : Line} {ls : List Line} {r : Option (List Shape)} →
      Finds (row_in (lines_under (head_of k) ls) (opened k.parts ++ rest)) None → Finds (members_in ls ks rest) r →
      Finds (members_in ls (k ∷ ks) rest) r

-- what is found under a head, with the head's own shape
abbrev pub FindsUnder : Head → List Line → Line → Option (List Shape) → Type 0
FindsUnder h ls row r = (s : Option (List Shape)) × Finds (row_in (lines_under h ls) row) s × (r ≡ under_head h s)
