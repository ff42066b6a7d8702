-- Types that are instances of each other differ by a renaming.
use Rattle.std.proofs.Common.{◌≡◌, ℕ, Bool, true, false, ◌++◌, map, refl, sym, ◌∙◌, ap, inl, inr}
use Rattle.std.proofs.lemmas.Bool.{eqb-true}
use Rattle.std.proofs.lemmas.List.{map-append}
use Rattle.type_model.specs.Types.{Path, Typ, Typs, Var, Arrow, Tuple, Con, Nil, Cons, occurs, occurs_any}
use Rattle.type_model.specs.Substitutions.{Subst, apply, apply_all, after}
use Rattle.type_model.proofs.Applying.{or_cases, apply_agree, apply-apply}
use Rattle.type_print_model.specs.Variables.{variables_of, variables_in}
use Rattle.type_print_model.specs.Printing.{mentions, mentions_any}
use Rattle.typing_laws.specs.Renaming.{renaming}
use Rattle.typing_laws.proofs.Bools.{no_yes}

-- the parts of a type
abbrev left : Typ → Typ
left (Var v) = Var v
left (Arrow a b) = a
left (Tuple ts) = Tuple ts
left (Con o ts) = Con o ts

abbrev right : Typ → Typ
right (Var v) = Var v
right (Arrow a b) = b
right (Tuple ts) = Tuple ts
right (Con o ts) = Con o ts

abbrev parts : Typ → Typs
parts (Var v) = Nil
parts (Arrow a b) = Nil
parts (Tuple ts) = ts
parts (Con o ts) = ts

abbrev head : Typs → Typ
head Nil = Tuple Nil
head (Cons t ts) = t

abbrev tail : Typs → Typs
tail Nil = Nil
tail (Cons t ts) = ts

-- a substitution that leaves a type leaves each of its variables
mutual
  pub leaves_each : (s : Subst) (t : Typ) → apply s t ≡ t → (v : ℕ) → occurs v t ≡ true → s v ≡ Var v
  leaves_each s (Var w) e v o = let i = eqb-true v w o in ap s i ∙ e ∙ ap Var (sym i)
  leaves_each s (Arrow a b) e v o =
      elim (or_cases (occurs v a) (occurs v b) o) [ inl i ↦ leaves_each s a (ap left e) v i | inr i ↦ leaves_each s b (ap right e) v i ]
  leaves_each s (Tuple ts) e v o = leaves_all s ts (ap parts e) v o
  leaves_each s (Con p ts) e v o = leaves_all s ts (ap parts e) v o

  pub leaves_all : (s : Subst) (ts : Typs) → apply_all s ts ≡ ts → (v : ℕ) → occurs_any v ts ≡ true → s v ≡ Var v
  leaves_all s Nil e v o = absurd (no_yes o)
  leaves_all s (Cons t ts) e v o =
      elim (or_cases (occurs v t) (occurs_any v ts) o) [ inl i ↦ leaves_each s t (ap head e) v i | inr i ↦ leaves_all s ts (ap tail e) v i ]

-- the variable that a type is
abbrev pub variable_in : Typ → ℕ
variable_in (Var v) = v
variable_in (Arrow a b) = 0
variable_in (Tuple ts) = 0
variable_in (Con o ts) = 0

abbrev is_variable : Typ → Bool
is_variable (Var v) = true
is_variable (Arrow a b) = false
is_variable (Tuple ts) = false
is_variable (Con o ts) = false

-- what becomes a variable is one
becomes_variable : (r : Subst) (t : Typ) (v : ℕ) → apply r t ≡ Var v → t ≡ Var (variable_in t)
becomes_variable r (Var w) v e = refl
becomes_variable r (Arrow a b) v e = absurd (no_yes (ap is_variable e))
becomes_variable r (Tuple ts) v e = absurd (no_yes (ap is_variable e))
becomes_variable r (Con o ts) v e = absurd (no_yes (ap is_variable e))

-- where s gives a type and r gives it back, s puts a variable in for each variable, and r puts that back
pub puts_variables : (s r : Subst) (t u : Typ) → u ≡ apply s t → t ≡ apply r u → (v : ℕ) → occurs v t ≡ true → (s v ≡ Var (variable_in (s v))) × (r (variable_in (s v)) ≡ Var v)
puts_variables s r t u e f v o =
    let back : apply r (s v) ≡ Var v = leaves_each (after r s) t (sym (apply-apply r s t) ∙ ap (apply r) (sym e) ∙ sym f) v o in
    let is : s v ≡ Var (variable_in (s v)) = becomes_variable r (s v) v back in
    (is, ap (apply r) (sym is) ∙ back)

-- so u is a renaming of t
pub is_renamed : (s r : Subst) (t u : Typ) → u ≡ apply s t → t ≡ apply r u → u ≡ apply (renaming (λ v. variable_in (s v))) t
is_renamed s r t u e f = e ∙ apply_agree s (renaming (λ v. variable_in (s v))) t (λ v o. (puts_variables s r t u e f v o).0)

-- the variables of a renamed type, in order
mutual
  pub variables_renamed : (f : ℕ → ℕ) (t : Typ) → variables_of (apply (renaming f) t) ≡ map f (variables_of t)
  variables_renamed f (Var v) = refl
  variables_renamed f (Arrow a b) =
      ap (λ xs. xs ++ variables_of (apply (renaming f) b)) (variables_renamed f a) ∙ ap (λ ys. map f (variables_of a) ++ ys) (variables_renamed f b) ∙ sym (map-append f (variables_of a) (variables_of b))
  variables_renamed f (Tuple ts) = variables_renamed_in f ts
  variables_renamed f (Con o ts) = variables_renamed_in f ts

  pub variables_renamed_in : (f : ℕ → ℕ) (ts : Typs) → variables_in (apply_all (renaming f) ts) ≡ map f (variables_in ts)
  variables_renamed_in f Nil = refl
  variables_renamed_in f (Cons t ts) =
      ap (λ xs. xs ++ variables_in (apply_all (renaming f) ts)) (variables_renamed f t) ∙ ap (λ ys. map f (variables_of t) ++ ys) (variables_renamed_in f ts) ∙ sym (map-append f (variables_of t) (variables_in ts))

-- the origins in a renamed type
mutual
  pub mentions_renamed : (f : ℕ → ℕ) (o : Path) (t : Typ) → mentions o (apply (renaming f) t) ≡ mentions o t
  mentions_renamed f o (Var v) = refl
  mentions_renamed f o (Arrow a b) = let p = mentions_renamed f o a in let q = mentions_renamed f o b in cc
  mentions_renamed f o (Tuple ts) = mentions_renamed_any f o ts
  mentions_renamed f o (Con p ts) = let q = mentions_renamed_any f o ts in cc

  pub mentions_renamed_any : (f : ℕ → ℕ) (o : Path) (ts : Typs) → mentions_any o (apply_all (renaming f) ts) ≡ mentions_any o ts
  mentions_renamed_any f o Nil = refl
  mentions_renamed_any f o (Cons t ts) = let p = mentions_renamed f o t in let q = mentions_renamed_any f o ts in cc
