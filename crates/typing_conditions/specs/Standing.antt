-- How an environment of the code stands for one of the definitions, under types for the nodes.
use Rattle.std.specs.Prelude.{◌≡◌, ℕ, true, List, slice_get, Option, Some}
use Rattle.type_model.specs.Types.{Typ, occurs}
use Rattle.type_model.specs.Schemes.{Scheme}
use Rattle.signature_model.specs.Declarations as rules
use Rattle.signature_model.specs.Entries.{Environment, free_in}
use Rattle.type_nodes.specs.Nodes.{Node}
use Rattle.type_nodes.specs.Readings.{Types}
use Rattle.env_table.specs.declared.entries.Constructor.{Constructor}
use Rattle.env_table.specs.declared.entries.Declaration.{Declaration}
use Rattle.env_table.specs.declared.entries.Entry.{Entry}
use Rattle.typing_conditions.specs.Locals.{IsFreeVar, stands_in_any}
use Rattle.typing_conditions.specs.Environments.{EnvAs}

-- a node is one of a list
abbrev pub IsIn : List ℕ → ℕ → Type 0
IsIn C r = (k : ℕ) × (slice_get C k ≡ Some r)

-- the roots of the names of an environment are among C
abbrev pub Covers : (D : Declaration → rules.Declaration → Type 0) → (X : Constructor → Option Typ → Type 0) → List ℕ → List Entry → Type 0
Covers D X C env = (E : Environment) × EnvAs (λ r sc. IsIn C r) D X env E

-- Its names stand for those of the definitions, schemes by R (`SchemeReads` at a reading, `SchemeFits` under types that fit); the
-- roots are among C. What a free variable that stands in C reads as has only variables that are free in the environment.
pub record Stands (R : List Node → Types → ℕ → Scheme → Type 0) (D : Declaration → rules.Declaration → Type 0) (X : Constructor → Option Typ → Type 0)
    (nodes : List Node) (J : Types) (C : List ℕ) (V : Types) (env : List Entry) (E : Environment) : Type 0 where
  pub names : EnvAs (λ r sc. R nodes V r sc × IsIn C r) D X env E
  pub brings : (u w : ℕ) → IsFreeVar nodes u → stands_in_any J C u ≡ true → occurs w (V u) ≡ true → free_in w E ≡ true
