-- A field that is set: what is asked of its label besides what any field asks, and what the functions of its row carry.
use Rattle.std.specs.Prelude.{◌≡◌, ℕ, Bool, true, List, [], ◌++◌, Option, Some, None, option_map, if◌then◌else◌}
use Rattle.token_model.specs.Kinds.{Tok}
use Rattle.signature_model.specs.Declarations.{Label}
use Rattle.typing_model.specs.Demands.{Condition, test, not_mutable}
use Rattle.typing_model.specs.Contexts.{Context, is_kept, ask}
use Rattle.typing_model.specs.Parts.{Expression, Written, place_of}
use Rattle.typing_model.specs.Expressions.{label_found, ask_mutable}
use Rattle.env_table.specs.declared.entries.Entry.{Entry}
use Rattle.typing_state.specs.declared.parts.Parts.{Parts}
use Rattle.typing_conditions.specs.Sights.{Letters}
use Rattle.typing_conditions.specs.Frames.{Frame}
use Rattle.typing_conditions.specs.Meanings.{AllMean}
use Rattle.typing_conditions.specs.Carrying.{Scope, Carried, CarriedTo}
use Rattle.typing_conditions.specs.Surroundings.{Surrounds}
use Rattle.typing_steps.specs.States.{is_aloud, sight}
use Rattle.typing_steps.specs.Typing.{as_declared, RowCarried}
use Rattle.typing_rows.specs.Asked.{field_ends}
use Rattle.typing_rows.specs.Contracts.{types_at}

-- `mutable` of the label of a path, by whether it is; it is the demand 0 of the row n that sets the field
abbrev pub settable_asks : ℕ → Written → Bool → List Condition
settable_asks n p mutable = elim p.last [ None ↦ [] | Some t ↦ ask n 0 (place_of t) (test (not_mutable t.name) mutable) ]

-- the same by the label that is found
abbrev pub mutable_by : ℕ → Option Tok → Option Label → List Condition
mutable_by n last o = elim o [ None ↦ [] | Some l ↦ elim last [ None ↦ [] | Some t ↦ ask n 0 (place_of t) (test (not_mutable t.name) l.is_mutable) ] ]

-- the same by the path, where the demand that the label is bound, which is that of the field m, is kept
abbrev pub mutable_asks : Context → (n m : ℕ) → Written → List Condition
mutable_asks c n m p = mutable_by n p.last (if is_kept c m 0 then option_map (λ r. r.1) (label_found c p) else None)

-- the demand that a label is mutable
abbrev pub AsksSettable : (a b : Parts) → Written → Bool → Type 0
AsksSettable a b p mutable = is_aloud a.telling ≡ true → (F : Frame) (scope : Scope) (G : Letters) (n : ℕ) → Carried F scope (λ c. settable_asks n p mutable) (sight a) G (sight b) G

-- the end of the field m that the row n sets: as of any field, and then `mutable`
abbrev pub EndsSettable : (a b : Parts) → List Entry → Written → List Expression → List ℕ → (ty : ℕ) → Type 0
EndsSettable a b env p es ms ty = is_aloud a.telling ≡ true → (F : Frame) (scope : Scope) (G : Letters) (n m : ℕ) → scope.own m ≡ true → Surrounds as_declared F (sight a) G env scope → AllMean F (sight a) G (types_at es) ms →
    RowCarried F scope (λ c. field_ends p es c m ++ mutable_asks c n m p) (sight a) G (sight b) m ty

-- the left part of `e . l <- e`, with `mutable` of its label
abbrev pub TypesSettable : (a b : Parts) → List Entry → Expression → (m : ℕ) → Type 0
TypesSettable a b env e m = is_aloud a.telling ≡ true → (F : Frame) (scope : Scope) (G : Letters) (n : ℕ) → Surrounds as_declared F (sight a) G env scope →
    CarriedTo F scope (λ c. e.typed c ++ ask_mutable c n e.form) (sight a) G (sight b) G (λ ch. ch.type_at e.node) m
