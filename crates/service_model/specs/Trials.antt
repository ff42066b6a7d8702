-- The faults that a change adds to a text.
use Rattle.std.specs.Prelude.{◌≡◌, ◌≤◌, ◌⊎◌, All, ℕ, ◌+◌, ◌-◌, ◌^◌, min, List, [], ◌++◌, length, map, filter, not, ◌&&◌, nat_eq, nat_le, nat_lt, Bool, Option, Some, None, if◌then◌else◌}
use Rattle.std.specs.List.{Contains, list_any}
use Rattle.std.specs.Str.{IsUtf8, bytes_eq}
use Rattle.text_model.specs.Edits.{apply, text_limit}
use Rattle.token_model.specs.Kinds.{Tok}
use Rattle.token_model.specs.Tokens.{Lex}
use Rattle.tree_model.specs.Trees.{Place}
use Rattle.query_model.specs.Faults.{Fault, TyperFault, by_typer}
use Rattle.service_model.specs.Structure.{faults_in, TyperFaults}

-- bytes in place of a part of a text leave a text: one of whole characters, within the limit
abbrev pub LeavesText : List ℕ → Place → List ℕ → Type 0
LeavesText text x bytes = IsUtf8 (apply text x.start x.end bytes) × (length (apply text x.start x.end bytes) ≤ text_limit)

-- ---- marks

-- a fault without its message
pub record Mark : Type 0 where
  pub start : ℕ
  pub end : ℕ
  pub kind : List ℕ

-- the mark of a fault
abbrev pub mark_of : Fault → Mark
mark_of f = record { start = f.span.start; end = f.span.end; kind = f.kind }

-- whether two marks have the same place and the same kind
abbrev pub same_mark : Mark → Mark → Bool
same_mark a b = nat_eq a.start b.start && (nat_eq a.end b.end && bytes_eq a.kind b.kind)

-- a mark is one of these
abbrev pub is_among : List Mark → Mark → Bool
is_among ms m = list_any (same_mark m) ms

-- the marks of a text of these tokens in which the typer tells these faults
abbrev pub marks : List Tok → List TyperFault → List Mark
marks tokens typed = map mark_of (faults_in tokens ++ map by_typer typed)

-- ---- the changed text's marks in the text

-- Where a place of the changed text is in the text, so many bytes being in place of a part: up to the part's start it stays, among the bytes it is that start, and behind them it moves by the difference. No place is past 2 ^ 32 - 1.
abbrev pub moved : Place → ℕ → ℕ → ℕ
moved x count p = if nat_le p x.start then p else if nat_lt p (x.start + count) then x.start else min (x.end + (p - (x.start + count))) (2 ^ 32 - 1)

-- a mark of the changed text as one of the text
abbrev pub moved_mark : Place → ℕ → Mark → Mark
moved_mark x count m = record { start = moved x count m.start; end = moved x count m.end; kind = m.kind }

-- where those of these marks start that aren't known
abbrev pub new_starts : List Mark → List Mark → List ℕ
new_starts known ms = map (λ m. m.start) (filter (λ m. not (is_among known m)) ms)

-- the least of these numbers; none exactly where there are none
abbrev pub IsLeast : Option ℕ → List ℕ → Type 0
IsLeast None ns = ns ≡ []
IsLeast (Some n) ns = Contains ns n × All (λ m. n ≤ m) ns

-- ---- what a trial tells

-- This is the first place at which bytes in place of a part of a text add a fault, or none where they add none; a fault is new where the text has none with its mark. The parser's faults are known. Those of the typer are some list for either text, of which `TyperFaults` holds: of a text of `let` and `;;` the place and kind of each are known, but for warnings.
abbrev pub FirstAdded : List ℕ → Place → List ℕ → Option ℕ → Type 0
FirstAdded text x bytes first =
    ∥ ((before : List Tok) × (after : List Tok) × (known : List TyperFault) × (found : List TyperFault) × Lex text before × Lex (apply text x.start x.end bytes) after
    × TyperFaults text known × TyperFaults (apply text x.start x.end bytes) found
    × IsLeast first (new_starts (marks before known) (map (moved_mark x (length bytes)) (marks after found)))) ∥₁

-- the part is one of the text, and the bytes in its place leave a text
abbrev pub Fits : List ℕ → Place → List ℕ → Type 0
Fits text x bytes = (x.start ≤ x.end) × (x.end ≤ length text) × LeavesText text x bytes

-- What a trial of bytes in place of a part of a text tells: the first place of a new fault, if there is one; where no text is left, the part's start. Where both texts are of `let` and `;;`, it is known which of the typer's faults are new, but for warnings: as far as a mark goes, which has no message.
abbrev pub TrialTells : List ℕ → Place → List ℕ → Option ℕ → Type 0
TrialTells text x bytes first = (Fits text x bytes × FirstAdded text x bytes first) ⊎ ((Fits text x bytes → ⊥) × (first ≡ Some x.start))

-- Bytes in place of a part of a text leave a text, and add no fault. So where both texts are of `let` and `;;`, each demand of the changed text that isn't kept has, moved back, the place and the kind of a fault of the text.
abbrev pub AddsNoFault : List ℕ → Place → List ℕ → Type 0
AddsNoFault text x bytes = LeavesText text x bytes × FirstAdded text x bytes None
