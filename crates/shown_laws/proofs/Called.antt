-- A type that is printed with names of one byte a character, each of which a path of an environment gives, is shown as it is with this environment.
use Rattle.std.proofs.Common.{◌≡◌, ℕ, true, List, refl}
use Rattle.type_model.specs.Types.{Path, Typ}
use Rattle.signature_model.specs.Declarations.{Name}
use Rattle.signature_model.specs.Entries.{Environment}
use Rattle.type_print_model.specs.Variables.{variables_of}
use Rattle.type_print_model.specs.Paths.{IsNameOf}
use Rattle.type_print_model.specs.Printing.{alone, mentions, text_of}
use Rattle.typed_model.specs.Shown.{IsCalled, IsShownAs}
use Rattle.env_table.specs.declared.entries.Entry.{Entry}
use Rattle.type_nodes.specs.Nodes.{Node}
use Rattle.type_print.specs.Paths.{naming, name_in}
use Rattle.type_print.specs.Texts.{names_found, IsAscii, PrintsIn}
use Rattle.type_print.proofs.Ascii.{ascii_cuttable}
use Rattle.type_print.proofs.Levels.{named_right}
use Rattle.print_laws.proofs.Ascii.{of_variable, text_ascii}

pub shown_as : (nodes : List Node) (env : List Entry) (E : Environment) (weak : List ℕ) (t : Typ) (text : List ℕ) →
    ((declared : Path → Name) (o : Path) (s : List ℕ) → mentions o t ≡ true → IsNameOf naming env declared o s → IsCalled E o s × IsAscii s) → PrintsIn nodes env weak (variables_of t) t text → IsShownAs E weak t text
shown_as nodes env E weak t text called p =
    let names = names_found env p.declared weak (variables_of t) in
    let ascii : IsAscii (text_of names alone t) =
    text_ascii names (λ v. of_variable weak (variables_of t) v) alone t (λ o m. (called p.declared o (name_in env o (p.declared o)) m (named_right env o (p.declared o) p.declared refl)).1) in
    let q = p.prints (ascii_cuttable (text_of names alone t) ascii) in
    record { origin = q.origin; called = λ o m. (called p.declared o (q.origin o) m (q.named o m)).0; text = q.text }
