-- The type variables that are written in an item.
use Rattle.std.specs.Prelude.{◌≡◌, ℕ, Bool, List, slice_get, Some, IsSome, String}
use Rattle.std.specs.Str.{bytes_eq}
use Rattle.std.specs.HashMap.{HashMap, get_by_text}
use Rattle.std.specs.HashSet.{HashSet, contains_by}
use denote.Ref.{Bor}
use Rattle.token_model.specs.Kinds.{Tok}
use Rattle.signature_model.specs.Declarations.{Name}
use Rattle.typing_model.specs.Items.{variables_written}

-- whether a name is in a set
abbrev pub has : {S : Type 0} → HashSet (Bor (List ℕ)) S → Name → Bool
has s n = contains_by (λ k. bytes_eq n k.now) s

-- each name of a map is among the type variables of tokens
abbrev pub AreNamedIn : {X Y S : Type 0} → List Tok → HashMap (String Y) X S → Type 0
AreNamedIn ts m = (x : Name) → IsSome (get_by_text m x) → (k : ℕ) × (slice_get (variables_written ts) k ≡ Some x)
