-- The marks that a trial keeps, in the definitions.
use Rattle.std.specs.Prelude.{◌≡◌, ℕ, nat_le, Bool, List, map, Option, Some, None, if◌then◌else◌}
use Rattle.std.specs.HashSet.{HashSet, contains}
use Rattle.std.specs.List.{list_any}
use Rattle.token_model.specs.Kinds.{Tok}
use Rattle.token_model.specs.Tokens.{Lex}
use Rattle.query_model.specs.Faults.{TyperFault}
use Rattle.service_model.specs.Structure.{faults_in, TyperFaults}
use Rattle.service_model.specs.Trials.{Mark, is_among, marks, same_mark}
use Rattle.frame_steps.specs.declared.stack.SyntaxFault.{SyntaxFault}
use Rattle.text_queries.specs.Faults.{fault_of}
use Rattle.text_changes.specs.declared.trials.Mark as code

-- a mark of a trial
abbrev pub mark_in : code.Mark → Mark
mark_in m = record { start = m.start; end = m.end; kind = m.kind.now }

-- two marks of trials are one
abbrev pub same_code : code.Mark → code.Mark → Bool
same_code a b = same_mark (mark_in a) (mark_in b)

-- a set has these marks and no other
abbrev pub HasMarks : {S : Type 0} → List code.Mark → HashSet code.Mark S → Type 0
HasMarks ms s = (m : code.Mark) → contains same_code s m ≡ list_any (same_code m) ms

-- the parser tells these faults of a text
abbrev pub IsParserOf : List ℕ → List SyntaxFault → Type 0
IsParserOf text faults = (tokens : List Tok) × Lex text tokens × (map fault_of faults ≡ faults_in tokens)

-- these marks are those of a text, for faults that may be the typer's
abbrev pub Knows : List ℕ → List code.Mark → Type 0
Knows text keys = (tokens : List Tok) × (typed : List TyperFault) × Lex text tokens × TyperFaults text typed × ((m : code.Mark) → is_among (map mark_in keys) (mark_in m) ≡ is_among (marks tokens typed) (mark_in m))

-- the lesser of a place, if there is one, and another
abbrev pub lesser : Option ℕ → ℕ → ℕ
lesser None p = p
lesser (Some before) p = if nat_le before p then before else p
