use Rattle.std.proofs.Common.{◌≡◌, ℕ, ◌==◌, Bool, true, false, [], ◌∷◌, codes, refl, sym, subst, if◌then◌else◌}
use Rattle.std.proofs.lemmas.Bool.{eqb-true}
use Rattle.type_model.specs.Types.{Var, Arrow}
use Rattle.type_model.specs.Schemes.{Scheme}
use Rattle.typing_model.specs.BuiltIns.{int_type}
use Rattle.typing_model.specs.Contexts.{generalised_in}
use Rattle.model_checks.specs.Scopes.{one_value}
use Rattle.model_checks.proofs.Apart.{no_yes}
use Rattle.model_checks.proofs.names.generalisation.Goals as goal

-- the scheme of 'w -> 'a, where 'w is free in the environment
abbrev scheme : Scheme
scheme = generalised_in (one_value (codes "x") (Var 1) ∷ []) [] (Arrow (Var 1) (Var 2))

leaves_others : (v : ℕ) → scheme.bound v ≡ false → (if v == 2 then int_type else Var v) ≡ Var v
leaves_others v h = by (v == 2) refl
  where
    by : (b : Bool) → (v == 2) ≡ b → (if b then int_type else Var v) ≡ Var v
    by true e = absurd (no_yes (sym (subst (λ w. scheme.bound w ≡ false) (eqb-true v 2 e) h)))
    by false e = refl

pub returns-clause-instance : goal.returns-clause-instance
returns-clause-instance c = ((λ v. if v == 2 then int_type else Var v), leaves_others, refl)
