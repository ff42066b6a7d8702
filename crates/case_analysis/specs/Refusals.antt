-- Why there are no cases.
use Rattle.std.specs.Prelude.{◌≡◌, ℕ, Option, Some, None}
use Rattle.query_model.specs.TypedNodes.{Typed}
use Rattle.case_analysis.specs.declared.SplitFault.{SplitFault}
use Rattle.case_analysis.specs.declared.SplitFault.TheVariants.{NoNode, NothingToSplit, HiddenConstructor, WouldFault, NoMemory}

-- a typed node is refused: it has no cases, or one that no path reaches, or memory is short
abbrev pub IsRefusedAtNode : SplitFault → Type 0
IsRefusedAtNode NoNode = ⊥
IsRefusedAtNode NothingToSplit = Unit {0}
IsRefusedAtNode (HiddenConstructor name) = Unit {0}
IsRefusedAtNode (WouldFault at) = ⊥
IsRefusedAtNode NoMemory = Unit {0}

-- a typed node, or none, is refused: `NoNode` exactly where there is none, unless memory is short
abbrev pub IsRefusedAt : SplitFault → Option Typed → Type 0
IsRefusedAt NoMemory n = Unit {0}
IsRefusedAt e None = e ≡ NoNode
IsRefusedAt e (Some n) = IsRefusedAtNode e

-- a candidate is refused by a trial: it tells the place that is answered, or memory is short
abbrev pub IsRefusedByTrial : (Option ℕ → Type 0) → SplitFault → Type 0
IsRefusedByTrial Tells NoNode = ⊥
IsRefusedByTrial Tells NothingToSplit = ⊥
IsRefusedByTrial Tells (HiddenConstructor name) = ⊥
IsRefusedByTrial Tells (WouldFault at) = Tells (Some at)
IsRefusedByTrial Tells NoMemory = Unit {0}
