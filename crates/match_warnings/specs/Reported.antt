-- Which warnings of a match are reported, by what its rows see of the cases' patterns.
use Rattle.std.specs.Prelude.{◌≡◌, ℕ, ◌+◌, ◌==◌, ◌||◌, Bool, true, false, List, [], ◌∷◌, ◌++◌, map, length, codes, Option, Some, None, if◌then◌else◌}
use Rattle.std.specs.List.{list_any}
use Rattle.tree_model.specs.Trees.{Place, Tree, Forest, Part, node, no_parts, part, taken, inner, missing}
use Rattle.tree_model.specs.Rows.{Row}
use Rattle.type_model.specs.Types.{Path, Typ}
use Rattle.match_model.specs.Values.{Shape}
use Rattle.match_model.specs.Forms.{World}
use Rattle.match_model.specs.Rows as model
use Rattle.match_model.specs.Rows.{IsUnused}
use Rattle.match_model.specs.Printed.{alone, text_of}
use Rattle.env_table.specs.declared.entries.Entry.{Entry}
use Rattle.env_table.specs.declared.faults.Fault.{Fault}
use Rattle.env_table.specs.declared.faults.FaultKind.{FaultKind}
use Rattle.env_table.specs.declared.faults.FaultKind.TheVariants as fault
use Rattle.row_parts.specs.Numbered.{Numbered}
use Rattle.typing_state.specs.declared.parts.Telling.{Telling}
use Rattle.typing_state.specs.declared.parts.Telling.TheVariants.{Aloud, Quiet}
use Rattle.typing_conditions.specs.Sights.{Report}
use Rattle.typing_steps.specs.States.{report_of}
use Rattle.pattern_matrix.specs.Lines.{Member, Typed, Line, listed}
use Rattle.pattern_matrix.specs.Rows.{line_of}
use Rattle.pattern_matrix.specs.Typing.{IsSound, AreTyped, plains}
use Rattle.pattern_matrix.specs.Exact.{TellsMissed, AreThose}
use Rattle.pattern_matrix.specs.declared.patterns.PatRow.{PatRow}
use Rattle.match_warnings.specs.Warnings.{is_try, spans_of}
use Rattle.match_warnings.specs.Patterns.{pattern_of, AreShared}
use Rattle.match_warnings.specs.declared.warnings.Rows.{Rows}

-- ---- what is seen of cases

-- whether a part of a tree is missing, be it an operand or a token, at any depth
abbrev mutual
  pub lacks_part : Tree → Bool
  lacks_part (node r x ps) = some_lacking ps

  -- whether one of some parts is missing, or a part of it is
  pub some_lacking : Forest → Bool
  some_lacking no_parts = false
  some_lacking (part slot p ps) = is_lacking p || some_lacking ps

  -- whether a part is missing, or a part of it is
  pub is_lacking : Part → Bool
  is_lacking (taken t) = false
  is_lacking (inner t) = lacks_part t
  is_lacking (missing at) = true

-- what is seen of a pattern of a match: nothing where a fault was reported in it or a part of it is missing
abbrev pub seen_in : List Entry → Bool → Numbered → Option Typed
seen_in env faulty p = if faulty || is_lacking p.part then None else pattern_of env p

-- a case of a match: where it is, what is seen of its pattern, and whether it has a guard
pub record Case : Type 0 where
  pub at : Place
  pub seen : Option Typed
  pub guarded : Bool

-- a case, by its pattern
abbrev pub case_in : List Entry → Bool → Place → Numbered → Bool → Case
case_in env faulty at p guarded = record { at = at; seen = seen_in env faulty p; guarded = guarded }

-- a row of a match, and whether it has a guard
pub record SeenRow : Type 0 where
  pub line : Line
  pub guarded : Bool

-- a row of one pattern
abbrev pub one_pattern : Typed → Bool → SeenRow
one_pattern p guarded = record { line = p ∷ []; guarded = guarded }

-- a row before others, where all are there
abbrev pub with_row : Option Typed → Bool → Option (List SeenRow) → Option (List SeenRow)
with_row None guarded rows = None
with_row (Some p) guarded None = None
with_row (Some p) guarded (Some rows) = Some (one_pattern p guarded ∷ rows)

-- the rows of cases, where each pattern is seen
abbrev pub rows_of_cases : List Case → Option (List SeenRow)
rows_of_cases [] = Some []
rows_of_cases (c ∷ cs) = with_row c.seen c.guarded (rows_of_cases cs)

-- ---- what rows miss

-- a row as it matches values
abbrev pub plain_row : SeenRow → model.Row
plain_row r = record { patterns = plains (listed r.line); guarded = r.guarded }

-- each pattern is of the type, and knows the constructors of its types
abbrev pub AreRowsOf : World → Typ → List SeenRow → Type 0
AreRowsOf w t [] = Unit {0}
AreRowsOf w t (r ∷ rs) = AreTyped w (t ∷ []) (listed r.line) × AreRowsOf w t rs

-- The shape that is shown of what rows miss, or none: the one by the definitions, in each world in which the rows' patterns are typed.
abbrev pub IsMissedBy : List SeenRow → Option Shape → Type 0
IsMissedBy rows shape = (w : World) (t : Typ) → IsSound w → AreRowsOf w t rows → TellsMissed w (t ∷ []) (map plain_row rows) shape

-- The numbers of the rows that no value reaches, in order: those by the definitions, in each such world.
abbrev pub AreUnusedIn : List SeenRow → List ℕ → Type 0
AreUnusedIn rows us = (w : World) (t : Typ) → IsSound w → AreRowsOf w t rows → AreThose (λ k. IsUnused w (t ∷ []) (map plain_row rows) k) (length rows) us

-- ---- what is reported

-- a warning that is reported: where it is, its kind, and its message
abbrev pub warning : Place → FaultKind → List ℕ → Report
warning at kind message = record { at = at; kind = kind; message = message }

-- just these warnings are reported, in their order, after the faults from before; where nothing is to be reported, none is
abbrev pub Reports : Telling → List Report → (old new : List Fault) → Type 0
Reports Quiet ws old new = new ≡ old
Reports Aloud ws old new = (more : List Fault) × (new ≡ old ++ more) × (map report_of more ≡ ws)

-- the warning of a missed shape, if there is one: its message has the shape, printed as a pattern
abbrev pub missed_if : Place → Option Shape → List Report
missed_if at None = []
missed_if at (Some s) = warning at fault.Missed (codes "Not every value is matched: " ++ text_of alone s) ∷ []

-- the warning of what rows miss is reported at a place
abbrev pub ReportsMissed : List SeenRow → Telling → Place → (old new : List Fault) → Type 0
ReportsMissed rows t at old new = (shape : Option Shape) × IsMissedBy rows shape × Reports t (missed_if at shape) old new

-- the warning of what a match misses, unless it is a `try`
abbrev pub TellsOfMissed : Bool → Place → List SeenRow → List Report → Type 0
TellsOfMissed true at rows ws = ws ≡ []
TellsOfMissed false at rows ws = (shape : Option Shape) × IsMissedBy rows shape × (ws ≡ missed_if at shape)

-- the warning of a case, if no value reaches it
abbrev pub unused_if : Bool → Place → List Report
unused_if true at = warning at fault.Unused (codes "No value reaches this case") ∷ []
unused_if false at = []

-- the warnings of the cases with these numbers, where the first has a number
abbrev pub unused_among : List ℕ → ℕ → List Place → List Report
unused_among us k [] = []
unused_among us k (at ∷ ats) = unused_if (list_any (λ u. u == k) us) at ++ unused_among us (k + 1) ats

-- Of a match at a place whose cases are at these places: where there are rows, the warning of what they miss, and then one of each case that no value reaches.
abbrev pub ReportsRows : Option (List SeenRow) → Telling → Row → Place → List Place → (old new : List Fault) → Type 0
ReportsRows None t r at cases old new = new ≡ old
ReportsRows (Some []) t r at cases old new = new ≡ old
ReportsRows (Some (s ∷ ss)) t r at cases old new =
    (ws : List Report) × (us : List ℕ) × TellsOfMissed (is_try r) at (s ∷ ss) ws × AreUnusedIn (s ∷ ss) us × Reports t (ws ++ unused_among us 0 cases) old new

-- the same of a match with these cases
abbrev pub ReportsMatch : List Case → Telling → Row → Place → (old new : List Fault) → Type 0
ReportsMatch cases t r at old new = ReportsRows (rows_of_cases cases) t r at (map (λ (c : Case). c.at) cases) old new

-- of a pattern by itself: the warning of what it misses
abbrev pub ReportsPattern : Option Typed → Telling → Place → (old new : List Fault) → Type 0
ReportsPattern None t at old new = new ≡ old
ReportsPattern (Some p) t at old new = ReportsMissed (one_pattern p false ∷ []) t at old new

-- ---- the rows of the code

-- a row of the code
abbrev pub seen_row : PatRow → SeenRow
seen_row r = record { line = line_of r; guarded = r.guarded }

-- the rows of a match, if each of its patterns is seen
abbrev pub rows_in : Rows → Option (List SeenRow)
rows_in r = if r.is_open then None else Some (map seen_row r.rows.items)

-- The rows of a match are those of these cases, and each origin's constructors are those of a function.
pub record Holds (members : Path → List Member) (rows : Rows) (cases : List Case) : Type 0 where
  pub spans : spans_of rows ≡ map (λ (c : Case). c.at) cases
  pub seen : rows_in rows ≡ rows_of_cases cases
  pub shared : AreShared members rows.types.items
