-- The names of the variables of a printed type (OCaml manual, 11.4 for type variables; "Polymorphism and its limitations" for weak ones).
use Rattle.std.specs.Prelude.{ℕ, suc, ◌+◌, ◌==◌, ◌||◌, Bool, true, false, List, [], ◌∷◌, ◌++◌, ◌/◌, ◌%◌, codes, if◌then◌else◌}
use Rattle.std.specs.Fmt.{decimal}
use Rattle.type_model.specs.Types.{Typ, Typs, Var, Arrow, Tuple, Con, Nil, Cons}

-- the variables of a type, one for each place where one stands, in the order of the text
abbrev mutual
  pub variables_of : Typ → List ℕ
  variables_of (Var v) = v ∷ []
  variables_of (Arrow a b) = variables_of a ++ variables_of b
  variables_of (Tuple ts) = variables_in ts
  variables_of (Con o ts) = variables_in ts

  -- the variables of several types in order
  pub variables_in : Typs → List ℕ
  variables_in Nil = []
  variables_in (Cons t ts) = variables_of t ++ variables_in ts

-- whether a variable is one of a list
abbrev pub is_among : ℕ → List ℕ → Bool
is_among v [] = false
is_among v (w ∷ ws) = v == w || is_among v ws

-- how many variables of a kind occur before v does for the first time; `seen` are those before
abbrev pub rank_in : (ℕ → Bool) → List ℕ → ℕ → List ℕ → ℕ
rank_in test seen v [] = 0
rank_in test seen v (w ∷ ws) = if v == w then 0 else if is_among w seen then rank_in test seen v ws else if test w then suc (rank_in test (w ∷ seen) v ws) else rank_in test (w ∷ seen) v ws

-- 'a to 'z, then 'a1 to 'z1, and so on
abbrev pub letter_name : ℕ → List ℕ
letter_name k = codes "'" ++ ((97 + k % 26) ∷ (if k / 26 == 0 then [] else decimal (k / 26)))

-- '_weak1, '_weak2, and so on
abbrev pub weak_name : ℕ → List ℕ
weak_name k = codes "'_weak" ++ decimal (k + 1)

-- the name of a variable among those of a text, in order, where the weak ones have names of their own
abbrev pub variable_name : List ℕ → List ℕ → ℕ → List ℕ
variable_name weak all v = if is_among v weak then weak_name (rank_in (λ w. is_among w weak) [] v all) else letter_name (rank_in (λ w. if is_among w weak then false else true) [] v all)
