-- A type is shown as one text in two environments that have values and exceptions alone over one.
use Rattle.std.proofs.Common.{◌≡◌, ℕ, List, [], sym, subst}
use Rattle.type_model.specs.Types.{Path, Typ}
use Rattle.signature_model.specs.Declarations.{Name}
use Rattle.signature_model.specs.Entries.{Environment}
use Rattle.type_print_model.specs.Variables.{variables_of}
use Rattle.type_print_model.specs.Paths.{IsNameOf, shown, naming}
use Rattle.type_print_model.specs.Printing.{Prints}
use Rattle.typing_laws.specs.Renaming.{KeepsWeak, AreRenamed}
use Rattle.typing_laws.proofs.Alike.{print_alike}
use Rattle.typed_model.specs.Over.{IsOver}
use Rattle.typed_model.specs.Shown.{IsCalled, IsShownAs}
use Rattle.print_laws.proofs.One.{one_text}
use Rattle.print_laws.proofs.Over.{prints_over}

-- what a constructor is called is its name, whatever names declarations give
called_named : (E : Environment) (declared : Path → Name) (o : Path) (s : List ℕ) → IsCalled E o s → IsNameOf naming E declared o s
called_named E declared o s c = subst (IsNameOf naming E declared o) (sym c.spelled) (shown c.shown)

-- so a type is shown as it is printed
shown_printed : (E : Environment) (declared : Path → Name) (weak : List ℕ) (t : Typ) (text : List ℕ) → IsShownAs E weak t text → Prints naming E declared weak t text
shown_printed E declared weak t text h = record { origin = h.origin; named = λ o m. called_named E declared o (h.origin o) (h.called o m); text = h.text }

-- So a type and a renamed one are shown as one text.
pub shown_one : {env E F : Environment} → IsOver env E → IsOver env F → (types others : ℕ → Typ) (r : AreRenamed types others) (weak weaks : List ℕ) (n : ℕ) → KeepsWeak r.forth weak weaks (types n) →
    (text other : List ℕ) → IsShownAs E weak (types n) text → IsShownAs F weaks (others n) other → text ≡ other
shown_one {E = E} {F = F} one two types others r weak weaks n keeps text other h g =
    let none : Path → Name = λ o. [] in
    one_text E none weaks (variables_of (others n)) (others n) text other (print_alike naming E none types others r weak weaks n text keeps (shown_printed E none weak (types n) text h))
    (prints_over two one none weaks (others n) other (shown_printed F none weaks (others n) other g))
