-- Terms in place of a hole: where they go, why there are none, and which are kept.
use Rattle.std.specs.Prelude.{◌≡◌, ◌⊎◌, ℕ, List, [], ◌∷◌, Option, Some, None}
use Rattle.text_terms.specs.Bytes.{str_bytes}
use Rattle.text_terms.specs.declared.Span.{Span}
use Rattle.query_model.specs.TypedNodes.{Typed}
use Rattle.query_engine.specs.declared.trials.Replacement.{Replacement}
use Rattle.construct_terms.specs.declared.ConstructFault.{ConstructFault}
use Rattle.construct_terms.specs.declared.ConstructFault.TheVariants.{NoNode, NotAHole, NoMemory}

-- a candidate goes in place of the span
abbrev pub IsAt : Span → Replacement → Type 0
IsAt x r = r.span ≡ x

-- a typed node, or none, is refused: `NoNode` exactly where there is none, unless memory is short
abbrev pub IsRefusedAt : ConstructFault → Option Typed → Type 0
IsRefusedAt NoMemory n = Unit {0}
IsRefusedAt e None = e ≡ NoNode
IsRefusedAt e (Some n) = e ≡ NotAHole

-- what a trial tells of a candidate
abbrev pub told_by : (Span → List ℕ → Option ℕ → Type 0) → Replacement → Option ℕ → Type 0
told_by Tells r place = Tells r.span (str_bytes r.text) place

-- what is kept of candidates: those of which no place is told, in their order, and no other
abbrev pub AreKept : (Replacement → Option ℕ → Type 0) → List Replacement → List Replacement → Type 0
AreKept Tells [] kept = kept ≡ []
AreKept Tells (c ∷ cs) kept = (Tells c None × ((rest : List Replacement) × (kept ≡ c ∷ rest) × AreKept Tells cs rest)) ⊎ ((p : ℕ) × Tells c (Some p) × AreKept Tells cs kept)
