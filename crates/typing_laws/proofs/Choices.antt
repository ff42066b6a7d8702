-- Most general choices are renamings of each other, and so are the variables that are free in their environments.
use Rattle.std.proofs.Common.{◌≡◌, ℕ, Bool, true, false, List, refl, sym, ◌∙◌, ap, subst, inl, inr}
use Rattle.std.proofs.lemmas.Bool.{eqb-true}
use Rattle.type_model.specs.Types.{Path, Typ, Var, occurs}
use Rattle.type_model.specs.Substitutions.{apply}
use Rattle.type_model.proofs.Applying.{or_cases, eqb_same}
use Rattle.signature_model.specs.Declarations.{Name}
use Rattle.signature_model.specs.Entries.{Environment, free_in}
use Rattle.type_print_model.specs.Variables.{is_among}
use Rattle.type_print_model.specs.Paths.{Naming}
use Rattle.type_print_model.specs.Printing.{Prints, PrintsTwo}
use Rattle.typing_model.specs.Demands.{Site, Condition}
use Rattle.typing_model.specs.Contexts.{Choice}
use Rattle.typing_model.specs.Typings.{IsMostGeneralChoice}
use Rattle.typing_laws.specs.Renaming.{renaming, StandsIn, at_node, at_letter, at_unknown, AreRenamedChoices, IsOf}
use Rattle.typing_laws.specs.Under.{IsUnder}
use Rattle.typing_laws.proofs.Bools.{no_yes}
use Rattle.typing_laws.proofs.Free.{environment_brings, environment_from}
use Rattle.typing_laws.proofs.Renamed.{variable_in, puts_variables, is_renamed}
use Rattle.typing_laws.proofs.Alike.{prints_alone, prints_both}

-- two most general choices are renamings of each other
pub choices_renamed : (kept : Site → Bool) (asked : Choice → List Condition) (choice other : Choice) → IsMostGeneralChoice kept asked choice → IsMostGeneralChoice kept asked other → AreRenamedChoices choice other
choices_renamed kept asked choice other m k =
    let forth = m.general other k.holds in
    let back = k.general choice m.holds in
    record {
      forth = λ v. variable_in (forth.0 v);
      back = λ v. variable_in (back.0 v);
      nodes = λ n. is_renamed forth.0 back.0 (choice.type_at n) (other.type_at n) (forth.1 n) (back.1 n);
      letters = λ n k. is_renamed forth.0 back.0 (choice.letter n k) (other.letter n k) (forth.2 n k) (back.2 n k);
      unknowns = λ n o. is_renamed forth.0 back.0 (choice.filled n o) (other.filled n o) (forth.3 n o) (back.3 n o);
      undone = λ v stands. elim stands [
        | at_node n i ↦ ap variable_in (puts_variables forth.0 back.0 (choice.type_at n) (other.type_at n) (forth.1 n) (back.1 n) v i).1
        | at_letter n k i ↦ ap variable_in (puts_variables forth.0 back.0 (choice.letter n k) (other.letter n k) (forth.2 n k) (back.2 n k) v i).1
        | at_unknown n o i ↦ ap variable_in (puts_variables forth.0 back.0 (choice.filled n o) (other.filled n o) (forth.3 n o) (back.3 n o) v i).1
      ];
    }

-- what doesn't hold fails
fails : (b : Bool) → (b ≡ true → ⊥) → b ≡ false
fails true h = absurd (h refl)
fails false h = refl

-- the same variables are free in the renamed environment
pub free_renamed : (choice other : Choice) (r : AreRenamedChoices choice other) (env behind : Environment) → IsUnder (renaming r.forth) env behind → ((v : ℕ) → free_in v env ≡ true → StandsIn choice v) →
    (v : ℕ) → StandsIn choice v → free_in (r.forth v) behind ≡ free_in v env
free_renamed choice other r env behind under inside v stands = by (free_in v env) refl
  where
    is_it : (u : ℕ) → free_in u env ≡ true → occurs (r.forth v) (Var (r.forth u)) ≡ true → u ≡ v
    is_it u f o = sym (r.undone u (inside u f)) ∙ ap r.back (sym (eqb-true (r.forth v) (r.forth u) o)) ∙ r.undone v stands

    by : (b : Bool) → free_in v env ≡ b → free_in (r.forth v) behind ≡ b
    by true e = environment_brings (renaming r.forth) under v (r.forth v) e (eqb_same (r.forth v))
    by false e =
        fails (free_in (r.forth v) behind) (λ f.
        let from = environment_from (renaming r.forth) under (r.forth v) f in
        no_yes (sym e ∙ subst (λ u. free_in u env ≡ true) (is_it from.0 from.1 from.2) from.1))

-- so a type that is chosen prints alike, where those that are free in the environment are weak
pub weak_alike : {E : Type 0} (N : Naming E) (scope : List E) (declared : Path → Name) (choice other : Choice) (r : AreRenamedChoices choice other) (env behind : Environment) → IsUnder (renaming r.forth) env behind →
    ((v : ℕ) → free_in v env ≡ true → StandsIn choice v) → (weak weaks : List ℕ) → ((v : ℕ) → is_among v weak ≡ free_in v env) → ((v : ℕ) → is_among v weaks ≡ free_in v behind) → (n : ℕ) (shown : List ℕ) →
    Prints N scope declared weak (choice.type_at n) shown → Prints N scope declared weaks (other.type_at n) shown
weak_alike N scope declared choice other r env behind under inside weak weaks w u n shown p =
    subst (λ t. Prints N scope declared weaks t shown) (sym (r.nodes n))
    (prints_alone N scope declared r.forth r.back weak weaks (choice.type_at n) shown (λ v o. r.undone v (at_node n o))
    (λ v o. u (r.forth v) ∙ free_renamed choice other r env behind under inside v (at_node n o) ∙ sym (w v)) p)

-- and two types made of the chosen ones are printed as those made of the others
pub told_alike : {E : Type 0} (N : Naming E) (scope : List E) (declared : Path → Name) (choice other : Choice) (r : AreRenamedChoices choice other) (t u : Typ) → IsOf choice t → IsOf choice u → (first second : List ℕ) →
    PrintsTwo N scope declared t u first second → PrintsTwo N scope declared (apply (renaming r.forth) t) (apply (renaming r.forth) u) first second
told_alike N scope declared choice other r t u i j first second p =
    prints_both N scope declared r.forth r.back t u first second (λ v o. r.undone v (elim (or_cases (occurs v t) (occurs v u) o) [ inl a ↦ i v a | inr b ↦ j v b ])) p
