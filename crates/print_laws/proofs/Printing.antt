-- What the code prints of a node is what the definitions print of the node's own type. The names in scope may stand for those of the definitions by the nodes of another state, from before.
use Rattle.std.proofs.Common.{◌≡◌, ℕ, ◌<◌, true, List, [], ◌++◌, length, Option, refl, sym, subst}
use Rattle.type_model.specs.Types.{Path, Typ}
use Rattle.type_model.specs.Schemes.{Scheme}
use Rattle.signature_model.specs.Declarations.{Name}
use Rattle.signature_model.specs.Entries.{Environment}
use Rattle.type_print_model.specs.Variables.{variables_of, variable_name}
use Rattle.type_print_model.specs.Printing.{text_of, alone, mentions, PrintsAmong, Prints, PrintsTwo}
use Rattle.type_print_model.specs.Paths as model
use Rattle.type_nodes.specs.Nodes.{Node, IsSound}
use Rattle.type_nodes.specs.Readings.{Types}
use Rattle.env_table.specs.declared.entries.Constructor.{Constructor}
use Rattle.env_table.specs.declared.entries.Entry.{Entry}
use Rattle.type_print.specs.Paths.{naming, name_in}
use Rattle.type_print.specs.Shown.{shown}
use Rattle.type_print.specs.Texts.{IsAscii, Declares, PrintsBy}
use Rattle.typing_conditions.specs.Environments.{EnvAs}
use Rattle.typing_conditions.specs.Declared.{DeclaredAs}
use Rattle.typing_conditions.specs.Locals.{IsOwn}
use Rattle.type_print.proofs.Ascii.{ascii_cuttable}
use Rattle.type_print.proofs.Levels.{named_right}
use Rattle.print_laws.specs.Rigid.{HasNoRigid}
use Rattle.print_laws.specs.Ascii.{names_ascii}
use Rattle.print_laws.specs.Environments.{IsHidden}
use Rattle.print_laws.specs.Named.{AreNamedOnce, name_among}
use Rattle.print_laws.proofs.Naming.{names_as}
use Rattle.print_laws.proofs.Shown.{own_shown}
use Rattle.print_laws.proofs.Ascii.{of_variable, of_origin, text_ascii}
use Rattle.print_laws.proofs.Declared.{declares_so}
use Rattle.print_laws.proofs.One.{prints_reached}

module _ {R : ℕ → Scheme → Type 0} {old : List Node} {C : List ℕ} {N : Types} {X : Constructor → Option Typ → Type 0} {env : List Entry} {E : Environment} (h : EnvAs R (DeclaredAs old C N) X env E) where
  -- what is printed with the names of the code is printed with those of the definitions
  pub prints_named : (declared : Path → Name) (weak all : List ℕ) (t : Typ) (text : List ℕ) → PrintsAmong naming env declared weak all t text → PrintsAmong model.naming E declared weak all t text
  prints_named declared weak all t text p = record { origin = p.origin; named = λ o m. names_as h declared o (p.origin o) (p.named o m); text = p.text }

  -- The text of a type has one byte for each character where the names of the types and modules in scope have, and those of the declarations in the type that no path reaches.
  pub text_is_ascii : names_ascii E ≡ true → (declared : Path → Name) (weak all : List ℕ) (t : Typ) → ((o : Path) → mentions o t ≡ true → IsHidden E o → IsAscii (declared o)) →
      IsAscii (text_of (record { variable = variable_name weak all; origin = λ o. name_in env o (declared o) }) alone t)
  text_is_ascii names declared weak all t ascii =
      text_ascii (record { variable = variable_name weak all; origin = λ o. name_in env o (declared o) }) (of_variable weak all) alone t (λ o m.
      of_origin E names declared o (name_in env o (declared o)) (ascii o m) (names_as h declared o (name_in env o (declared o)) (named_right env o (declared o) declared refl)))

  module _ (nodes : List Node) (names : names_ascii E ≡ true) (declared : Path → Name) (declares : Declares nodes declared) where
    -- so the code prints it as the definitions do, among types with any variables
    prints_among : (weak all : List ℕ) (t : Typ) (text : List ℕ) → ((o : Path) → mentions o t ≡ true → IsHidden E o → IsAscii (declared o)) → PrintsBy nodes env weak all t text → PrintsAmong model.naming E declared weak all t text
    prints_among weak all t text ascii p = prints_named declared weak all t text (p declared declares (ascii_cuttable _ (text_is_ascii names declared weak all t ascii)))

    -- A type that is the one printed of a node is printed as the node is,
    pub prints_ascii : (n : ℕ) (t : Typ) → t ≡ shown nodes n → ((o : Path) → mentions o t ≡ true → IsHidden E o → IsAscii (declared o)) → (weak : List ℕ) (text : List ℕ) →
        PrintsBy nodes env weak (variables_of (shown nodes n)) (shown nodes n) text → Prints model.naming E declared weak t text
    prints_ascii n t same ascii weak text p = prints_among weak (variables_of t) t text ascii (subst (λ u. PrintsBy nodes env weak (variables_of u) u text) (sym same) p)

    -- and so are the two types of a message.
    pub prints_two : (m n : ℕ) (t u : Typ) → t ≡ shown nodes m → u ≡ shown nodes n → ((o : Path) → mentions o t ≡ true → IsHidden E o → IsAscii (declared o)) → ((o : Path) → mentions o u ≡ true → IsHidden E o → IsAscii (declared o)) →
        (first second : List ℕ) → (let all = variables_of (shown nodes m) ++ variables_of (shown nodes n) in PrintsBy nodes env [] all (shown nodes m) first × PrintsBy nodes env [] all (shown nodes n) second) → PrintsTwo model.naming E declared t u first second
    prints_two m n t u one two t_ascii u_ascii first second (p, q) = (
      prints_among [] (variables_of t ++ variables_of u) t first t_ascii (subst (λ x. PrintsBy nodes env [] (variables_of x ++ variables_of u) x first) (sym one) (subst (λ y. PrintsBy nodes env [] (variables_of (shown nodes m) ++ variables_of y) (shown nodes m) first) (sym two) p)),
      prints_among [] (variables_of t ++ variables_of u) u second u_ascii (subst (λ x. PrintsBy nodes env [] (variables_of x ++ variables_of u) u second) (sym one) (subst (λ y. PrintsBy nodes env [] (variables_of (shown nodes m) ++ variables_of y) y second) (sym two) q)),
    )

  -- By itself it is so with any declared names where nodes of one origin have one name for it, and a path reaches each origin of the type.
  pub prints_reachable : (nodes : List Node) → names_ascii E ≡ true → AreNamedOnce nodes → (n : ℕ) (t : Typ) → t ≡ shown nodes n → ((o : Path) → mentions o t ≡ true → IsHidden E o → ⊥) → (declared : Path → Name) (weak : List ℕ) (text : List ℕ) →
      PrintsBy nodes env weak (variables_of (shown nodes n)) (shown nodes n) text → Prints model.naming E declared weak t text
  prints_reachable nodes names once n t same reached declared weak text p =
      prints_reached E (λ o. name_among o nodes) declared weak (variables_of t) t text reached
      (prints_ascii nodes names (λ o. name_among o nodes) (declares_so nodes once) n t same (λ o m none. absurd (reached o m none)) weak text p)

  -- What is printed of a node in whose own type no rigid variable stands is what that type is printed as, where its text has one byte for each character.
  pub prints_as : {nodes : List Node} {I : Types} → IsSound nodes → IsOwn nodes I → (n : ℕ) → n < length nodes → HasNoRigid (I n) → (declared : Path → Name) → Declares nodes declared → (weak : List ℕ) (text : List ℕ) →
      IsAscii (text_of (record { variable = variable_name weak (variables_of (shown nodes n)); origin = λ o. name_in env o (declared o) }) alone (shown nodes n)) →
      PrintsBy nodes env weak (variables_of (shown nodes n)) (shown nodes n) text → Prints model.naming E declared weak (I n) text
  prints_as {nodes = nodes} {I = I} sound own n inside clean declared declares weak text ascii p =
      subst (λ t. Prints model.naming E declared weak t text) (sym (own_shown nodes sound I own n inside clean))
      (prints_named declared weak (variables_of (shown nodes n)) (shown nodes n) text (p declared declares (ascii_cuttable _ ascii)))
