-- A type is printed as one text, whichever values are in scope and whichever most general choice it is taken from.
use Rattle.std.proofs.Common.{◌≡◌, ℕ, Bool, true, List, [], refl, sym, subst}
use Rattle.type_model.specs.Types.{Path, Typ, occurs}
use Rattle.type_model.proofs.Applying.{apply_leaves}
use Rattle.signature_model.specs.Declarations.{Name}
use Rattle.signature_model.specs.Entries.{Environment}
use Rattle.type_print_model.specs.Variables.{variables_of, is_among}
use Rattle.type_print_model.specs.Paths.{Naming, naming}
use Rattle.type_print_model.specs.Printing.{Prints}
use Rattle.typing_model.specs.Demands.{Site, Condition}
use Rattle.typing_model.specs.Contexts.{Choice}
use Rattle.typing_model.specs.Typings.{IsMostGeneralChoice}
use Rattle.typing_laws.specs.Renaming.{renaming, at_node, KeepsWeak, AreRenamedChoices}
use Rattle.typing_laws.proofs.Choices.{choices_renamed}
use Rattle.typing_laws.proofs.Alike.{prints_alone}
use Rattle.typed_model.specs.Over.{IsOver}
use Rattle.print_laws.proofs.Over.{prints_over}
use Rattle.print_laws.proofs.One.{one_text}

-- a text depends on which variables of the type are weak, in any list
pub prints_weak : {E : Type 0} (N : Naming E) (env : List E) (declared : Path → Name) (weak weaks : List ℕ) (t : Typ) (s : List ℕ) → ((v : ℕ) → occurs v t ≡ true → is_among v weaks ≡ is_among v weak) → Prints N env declared weak t s → Prints N env declared weaks t s
prints_weak N env declared weak weaks t s keeps p =
    subst (λ u. Prints N env declared weaks u s) (apply_leaves (renaming (λ v. v)) t (λ v o. refl)) (prints_alone N env declared (λ v. v) (λ v. v) weak weaks t s (λ v o. refl) keeps p)

-- two texts of a type are one where the two environments have values and exceptions alone over one
pub texts_over : {env E F : Environment} → IsOver env E → IsOver env F → (declared : Path → Name) (weak : List ℕ) (t : Typ) (s u : List ℕ) → Prints naming E declared weak t s → Prints naming F declared weak t u → s ≡ u
texts_over {F = F} one two declared weak t s u p q = one_text F declared weak (variables_of t) t s u (prints_over one two declared weak t s p) q

-- and where the type is that of a node in two choices of which one is the other renamed, with the same weak variables
pub texts_renamed : {env E F : Environment} → IsOver env E → IsOver env F → (declared : Path → Name) (choice other : Choice) (r : AreRenamedChoices choice other) (weak weaks : List ℕ) (n : ℕ) (s u : List ℕ) → KeepsWeak r.forth weak weaks (choice.type_at n) →
    Prints naming E declared weak (choice.type_at n) s → Prints naming F declared weaks (other.type_at n) u → s ≡ u
texts_renamed {E = E} one two declared choice other r weak weaks n s u keeps p q =
    texts_over one two declared weaks (other.type_at n) s u
    (subst (λ t. Prints naming E declared weaks t s) (sym (r.nodes n)) (prints_alone naming E declared r.forth r.back weak weaks (choice.type_at n) s (λ v o. r.undone v (at_node n o)) keeps p)) q

-- so it is in two most general choices, where no variable is weak
pub texts_are_one : {env E F : Environment} → IsOver env E → IsOver env F → (declared : Path → Name) (kept : Site → Bool) (asked : Choice → List Condition) (choice other : Choice) →
    IsMostGeneralChoice kept asked choice → IsMostGeneralChoice kept asked other → (n : ℕ) (s u : List ℕ) → Prints naming E declared [] (choice.type_at n) s → Prints naming F declared [] (other.type_at n) u → s ≡ u
texts_are_one one two declared kept asked choice other m k n s u p q = texts_renamed one two declared choice other (choices_renamed kept asked choice other m k) [] [] n s u (λ v o. refl) p q
