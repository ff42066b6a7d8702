-- The two lemmas on generalisation, in an environment and with types held.
use Rattle.std.proofs.Common.{◌≡◌, ℕ, Bool, true, false, not, List, [], ◌∷◌, map, refl, sym, ◌∙◌, inl, inr}
use Rattle.type_model.specs.Types.{Typ, occurs}
use Rattle.type_model.specs.Substitutions.{Subst, apply}
use Rattle.type_model.specs.Schemes.{HasInstance}
use Rattle.type_model.proofs.Applying.{or_left, or_right, or_cases, occurs_put, occurs_from}
use Rattle.type_model.proofs.Generalising.{HasInstanceAfter, instance_before, instance_after}
use Rattle.signature_model.specs.Entries.{Environment, free_in}
use Rattle.typing_model.specs.Contexts.{occurs_in, generalised_in}
use Rattle.typing_laws.specs.Under.{HasInstanceUnder, IsSchemeUnder, IsUnder, stays_free, IsApart}
use Rattle.typing_laws.proofs.Bools.{and_cases, and_both, not_not, no_yes}
use Rattle.typing_laws.proofs.Free.{ComesFrom, environment_brings, environment_from}

-- what is put in for a variable of a held type brings its variables
held_brings : (s : Subst) (held : List Typ) (v w : ℕ) → occurs_in v held ≡ true → occurs w (s v) ≡ true → occurs_in w (map (apply s) held) ≡ true
held_brings s [] v w h o = absurd (no_yes h)
held_brings s (t ∷ ts) v w h o =
    elim (or_cases (occurs v t) (occurs_in v ts) h) [
      | inl i ↦ or_left (occurs w (apply s t)) (occurs_in w (map (apply s) ts)) (occurs_put s v w t i o)
      | inr i ↦ or_right (occurs w (apply s t)) (occurs_in w (map (apply s) ts)) (held_brings s ts v w i o)
    ]

-- and each variable that is held behind comes from one
held_from : (s : Subst) (held : List Typ) (w : ℕ) → occurs_in w (map (apply s) held) ≡ true → ComesFrom s w (λ v. occurs_in v held)
held_from s [] w h = absurd (no_yes h)
held_from s (t ∷ ts) w h =
    elim (or_cases (occurs w (apply s t)) (occurs_in w (map (apply s) ts)) h) [
      | inl i ↦ let (v, p, q) = occurs_from s w t i in (v, or_left (occurs v t) (occurs_in v ts) p, q)
      | inr i ↦ let (v, p, q) = held_from s ts w i in (v, or_right (occurs v t) (occurs_in v ts) p, q)
    ]

-- what is put in for a variable that stays free brings variables that stay free
pub free_brings : (env behind : Environment) (held : List Typ) (s : Subst) → IsUnder s env behind → (v w : ℕ) →
    stays_free env held v ≡ true → occurs w (s v) ≡ true → stays_free behind (map (apply s) held) w ≡ true
free_brings env behind held s h v w f o =
    elim (or_cases (free_in v env) (occurs_in v held) f) [
      | inl i ↦ or_left (free_in w behind) (occurs_in w (map (apply s) held)) (environment_brings s h v w i o)
      | inr i ↦ or_right (free_in w behind) (occurs_in w (map (apply s) held)) (held_brings s held v w i o)
    ]

-- and each one that stays free behind comes from one
pub free_from : (env behind : Environment) (held : List Typ) (s : Subst) → IsUnder s env behind → (w : ℕ) →
    stays_free behind (map (apply s) held) w ≡ true → ComesFrom s w (stays_free env held)
free_from env behind held s h w f =
    elim (or_cases (free_in w behind) (occurs_in w (map (apply s) held)) f) [
      | inl i ↦ let (v, p, q) = environment_from s h w i in (v, or_left (free_in v env) (occurs_in v held) p, q)
      | inr i ↦ let (v, p, q) = held_from s held w i in (v, or_right (free_in v env) (occurs_in v held) p, q)
    ]

-- agreeing at the variables that stay free and agreeing at those that are free in the scheme is the same
to_under : (env : Environment) (held : List Typ) (s : Subst) (t x : Typ) → HasInstanceAfter (stays_free env held) s t x → HasInstanceUnder s (generalised_in env held t) x
to_under env held s t x (r, agrees, e) =
    (r, λ v f. let p = and_cases (occurs v t) (not (not (stays_free env held v))) f in agrees v p.0 (sym (not_not (stays_free env held v)) ∙ p.1), e)

from_under : (env : Environment) (held : List Typ) (s : Subst) (t x : Typ) → HasInstanceUnder s (generalised_in env held t) x → HasInstanceAfter (stays_free env held) s t x
from_under env held s t x (r, agrees, e) =
    (r, λ v o f. agrees v (and_both (occurs v t) (not (not (stays_free env held v))) o (not_not (stays_free env held v) ∙ f)), e)

-- for every substitution: each instance of what is generalised behind it is one of it of what is generalised before
pub instances_from_before : (env behind : Environment) (held : List Typ) (t : Typ) (s : Subst) (x : Typ) → IsUnder s env behind →
    HasInstance (generalised_in behind (map (apply s) held) (apply s t)) x → HasInstanceUnder s (generalised_in env held t) x
instances_from_before env behind held t s x h i =
    to_under env held s t x (instance_before (stays_free env held) (stays_free behind (map (apply s) held)) s t x (λ v o f w p. free_brings env behind held s h v w f p) i)

-- a variable that is bound before is bound behind, where none that is bound is put in
bound_stays : (env behind : Environment) (held : List Typ) (t : Typ) (s : Subst) → IsUnder s env behind → IsApart env held t s →
    (v : ℕ) → occurs v t ≡ true → stays_free env held v ≡ false → stays_free behind (map (apply s) held) v ≡ false
bound_stays env behind held t s h apart v o f = by (stays_free behind (map (apply s) held) v) refl
  where
    by : (b : Bool) → stays_free behind (map (apply s) held) v ≡ b → stays_free behind (map (apply s) held) v ≡ false
    by false e = e
    by true e = let (u, p, q) = free_from env behind held s h v e in absurd (no_yes (sym f ∙ apart.puts u v p q o))

-- where a substitution changes only what stays free, and puts in nothing that is bound: generalising behind it gives it of what is generalised before
pub generalised_is_under : (env behind : Environment) (held : List Typ) (t : Typ) (s : Subst) → IsUnder s env behind → IsApart env held t s →
    IsSchemeUnder s (generalised_in env held t) (generalised_in behind (map (apply s) held) (apply s t))
generalised_is_under env behind held t s h apart = record {
  each = λ x i. instances_from_before env behind held t s x h i;
  all = λ x i. instance_after (stays_free env held) (stays_free behind (map (apply s) held)) s t x (λ v o f w p. free_brings env behind held s h v w f p)
      (λ v o f. (apart.changes v f, bound_stays env behind held t s h apart v o f)) (from_under env held s t x i);
}
