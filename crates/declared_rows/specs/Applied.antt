-- What a call denotes that gives a declaration arguments, in a declaration.
use Rattle.std.specs.Prelude.{◌≡◌, ℕ, List, [], ◌∷◌, ◌++◌, length}
use Rattle.type_model.specs.Types.{Path, Typ, types_of}
use Rattle.type_model.specs.Types.{Typ as type, Typs as types}
use Rattle.signature_model.specs.Changes.{argument}
use Rattle.signature_model.specs.Matching.{used}
use Rattle.env_table.specs.declared.entries.Declaration.{Declaration}
use Rattle.typing_state.specs.declared.parts.Parts.{Parts}
use Rattle.typing_conditions.specs.Standing.{IsIn}
use Rattle.typing_conditions.specs.Frames.{Frame}
use Rattle.typing_steps.specs.States.{sight}
use Rattle.declared_rows.specs.Assignments.{Assignment, Assigns, AllDenote, AssignedTo}
use Rattle.declared_rows.specs.Contracts.{IsKnownBy}

-- a declaration's type over types, with unknown types of the type expression n
abbrev pub over_types : ℕ → List Typ → Typ → Typ
over_types n ts u = used (argument (types_of ts)) (λ (o : Path). type.Con (o ++ n ∷ []) types.Nil) u

-- A call gives a declaration of the code these arguments: its node denotes the declaration's type over what their nodes denote, with unknown types of its own.
abbrev pub AppliesWith : (a b : Parts) → Declaration → List ℕ → ℕ → Type 0
AppliesWith a b d ms m = (F : Frame) (arity n : ℕ) (U : List ℕ) (A : Assignment) (types : List Typ) (u : Typ) → Assigns F arity U (sight a) A → IsKnownBy F d u → AllDenote A ms types → length ms ≡ d.arity → (IsIn U n → ⊥) →
    AssignedTo F arity (n ∷ U) (sight a) (sight b) A m (over_types n types u)
