-- What functions on declarations settle, by what their calls do.
use Rattle.std.proofs.Common.{◌≡◌, ◌∙◌, ◌++◌, ℕ, List, [], Some, None, option_map, refl, sym, ap, subst, append-nil}
use Rattle.tree_model.specs.Slots.{is_operand}
use Rattle.tree_model.specs.Trees.{Tree}
use Rattle.row_parts.specs.Numbered.{Numbered, first_in}
use Rattle.signature_model.specs.Declarations.{Name}
use Rattle.signature_model.specs.Records.{is_some}
use Rattle.typing_model.specs.Contexts.{parameters, tell}
use Rattle.typing_model.specs.Parts.{TypeExpression, ConstructorPart}
use Rattle.typing_model.specs.Declarations.{read_optional, constructor_row}
use Rattle.env_table.specs.declared.entries.Entry.{Entry}
use Rattle.typing_state.specs.declared.parts.Parts.{Parts}
use Rattle.typing_steps.specs.States.{sight}
use Rattle.operand_laws.specs.Operands.{number_of, parts_of, type_of}
use Rattle.operand_laws.proofs.Sorts.{first_type_stands}
use Rattle.typing_rows.proofs.Placed.{first_operand}
use Rattle.typing_rows.specs.Settled.{behind}
use Rattle.typing_rows.specs.DeclaredOperands.{SettlesOperand}
use Rattle.typing_rows.proofs.Settling.{settled_none, settled_trans, settled_here, settled_told}
use Rattle.decl_typing.proofs.Levels.{with_level}
use Rattle.decl_typing.specs.Settling.{SettlesOption, argument_of, SettlesArgument, SettlesConstructor}

-- no type expression is there, and nothing is reported
pub none_settles : (a b : Parts) (env : List Entry) (names : List Name) → (sight b).reports ≡ (sight a).reports → SettlesOption a b env names (λ c. read_optional c None) None
none_settles a b env names kept = λ aloud B around. record { judged = []; told = []; fixes = []; type = None; given = refl; reports = kept ∙ sym (append-nil (sight a).reports); settled = settled_none; gives = λ ch h. refl }

-- one that is read
pub some_settles : (a b d : Parts) (env : List Entry) (names : List Name) (o : Numbered) → (sight d).reports ≡ (sight b).reports → SettlesOperand a b env names o → (number : ℕ) (t : Tree) → first_in number t 2 ≡ Some o → SettlesArgument a d env names number t
some_settles a b d env names o kept read number t there formed =
    subst (λ x. SettlesOption a d env names (λ c. read_optional c x) x) (sym (ap (option_map (type_of a.item)) there)) (λ aloud B around.
    let x = read (first_operand number t 2 o formed there) aloud B around in
    record { judged = x.judged; told = x.told; fixes = x.fixes; type = Some x.type; given = refl; reports = kept ∙ x.reports; settled = x.settled; gives = λ ch h. ap Some (x.gives ch h) })

-- where there is none
pub no_settles : (a b : Parts) (env : List Entry) (names : List Name) → (sight b).reports ≡ (sight a).reports → (number : ℕ) (t : Tree) → first_in number t 2 ≡ None → SettlesArgument a b env names number t
no_settles a b env names kept number t none formed =
    subst (λ x. SettlesOption a b env names (λ c. read_optional c x) x) (sym (ap (option_map (type_of a.item)) none)) (none_settles a b env names kept)

-- it is so through a call at another level, and one after which nothing more is reported
pub settles_deeper : (at read after : Parts) (l : ℕ) (env : List Entry) (names : List Name) (number : ℕ) (t : Tree) → (sight after).reports ≡ (sight read).reports → SettlesArgument (with_level at l) read env names number t → SettlesArgument at after env names number t
settles_deeper at read after l env names number t kept reads formed = λ aloud B around.
    let x = reads formed aloud B around in
    record { judged = x.judged; told = x.told; fixes = x.fixes; type = x.type; given = x.given; reports = kept ∙ x.reports; settled = x.settled; gives = x.gives }

-- an exception whose argument is read
pub exception_settles : (a b d : Parts) (env : List Entry) (number : ℕ) (t : Tree) → (sight d).reports ≡ (sight b).reports → SettlesArgument a b env [] number t → SettlesConstructor a d env number t
unfolding is_operand
exception_settles a b d env number t kept read formed row = λ aloud B around.
    let x = read formed aloud (behind B [] []) around in
    record {
      judged = x.judged;
      told = x.told;
      fixes = x.fixes;
      type = x.type;
      given = x.given ∙ ap is_some (sym same);
      reports = kept ∙ x.reports;
      settled = settled_here (λ c h. ap (λ o. tell n c ++ read_optional c o) (sym same) ∙ ap (λ v. tell n c ++ read_optional (record c { variables = v }) k.argument) (h.variables ∙ ap parameters around.1)) (settled_trans (settled_told n) x.settled);
      gives = λ ch h. ap (option_map (λ (y : TypeExpression). ch.type_at y.node)) same ∙ x.gives ch h;
    }
  where
    n : ℕ
    n = number_of a.item number

    k : ConstructorPart
    k = constructor_row n (parts_of a.item number t)

    same : k.argument ≡ argument_of a.item number t
    same = first_type_stands a.item number t 2 formed (ap (λ r. is_operand r 2) row)
