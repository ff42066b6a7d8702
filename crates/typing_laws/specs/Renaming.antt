-- Renamings of variables, and the weak variables that they keep.
use Rattle.std.specs.Prelude.{◌≡◌, ℕ, true, List}
use Rattle.type_model.specs.Types.{Path, Typ, Var, occurs}
use Rattle.type_model.specs.Substitutions.{Subst, apply}
use Rattle.type_print_model.specs.Variables.{is_among}
use Rattle.typing_model.specs.Contexts.{Choice}

-- another variable for each
abbrev pub renaming : (ℕ → ℕ) → Subst
renaming f = λ v. Var (f v)

-- a renaming keeps which variables of a type are weak
abbrev pub KeepsWeak : (ℕ → ℕ) → List ℕ → List ℕ → Typ → Type 0
KeepsWeak f weak others t = (v : ℕ) → occurs v t ≡ true → is_among (f v) others ≡ is_among v weak

-- types of nodes are those of others with other variables, each for one
pub record AreRenamed (types others : ℕ → Typ) : Type 0 where
  pub forth : ℕ → ℕ
  pub back : ℕ → ℕ
  pub gives : (n : ℕ) → others n ≡ apply (renaming forth) (types n)
  pub undone : (n v : ℕ) → occurs v (types n) ≡ true → back (forth v) ≡ v

-- a variable stands in a type that is chosen: that of a node, one that a row leaves open, or one that an unknown type stands for
pub data StandsIn (choice : Choice) (v : ℕ) : Type 0 where
  at_node : (n : ℕ) → occurs v (choice.type_at n) ≡ true → StandsIn choice v
  at_letter : (n k : ℕ) → occurs v (choice.letter n k) ≡ true → StandsIn choice v
  at_unknown : (n : ℕ) (o : Path) → occurs v (choice.filled n o) ≡ true → StandsIn choice v

-- the types that are chosen are those of another choice with other variables, each for one
pub record AreRenamedChoices (choice other : Choice) : Type 0 where
  pub forth : ℕ → ℕ
  pub back : ℕ → ℕ
  pub nodes : (n : ℕ) → other.type_at n ≡ apply (renaming forth) (choice.type_at n)
  pub letters : (n k : ℕ) → other.letter n k ≡ apply (renaming forth) (choice.letter n k)
  pub unknowns : (n : ℕ) (o : Path) → other.filled n o ≡ apply (renaming forth) (choice.filled n o)
  pub undone : (v : ℕ) → StandsIn choice v → back (forth v) ≡ v

-- the variables of a type stand in types that are chosen
abbrev pub IsOf : Choice → Typ → Type 0
IsOf choice t = (v : ℕ) → occurs v t ≡ true → StandsIn choice v
