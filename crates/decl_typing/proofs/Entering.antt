-- What an exception enters, by what its calls do.
use Rattle.std.proofs.Common.{◌≡◌, ◌∙◌, ℕ, List, [], ◌∷◌, ◌++◌, option_map, sym, ap, subst}
use Rattle.tree_model.specs.Slots.{is_operand}
use Rattle.tree_model.specs.Trees.{Tree}
use Rattle.signature_model.specs.Records.{is_some}
use Rattle.typing_model.specs.BuiltIns.{exn_type}
use Rattle.typing_model.specs.Contexts.{parameters, tell}
use Rattle.typing_model.specs.Parts.{TypeExpression, ConstructorPart}
use Rattle.typing_model.specs.Declarations.{read_optional, constructor_row}
use Rattle.env_table.specs.declared.entries.Entry.{Entry}
use Rattle.typing_state.specs.declared.parts.Parts.{Parts}
use Rattle.typing_state.specs.Goes.{Goes, OnlyIndex}
use Rattle.type_nodes.specs.Nodes.{IsSound}
use Rattle.typing_conditions.specs.Locals.{IsPlain, ClosesAll}
use Rattle.operand_laws.specs.Operands.{number_of, parts_of}
use Rattle.operand_laws.proofs.Sorts.{first_type_stands}
use Rattle.typing_rows.specs.Settled.{behind}
use Rattle.typing_rows.proofs.DeclaredOrdered.{index_reports}
use Rattle.typing_rows.proofs.Settling.{settled_trans, settled_here, settled_told}
use Rattle.typing_rows.proofs.Noted.{noted_on}
use Rattle.decl_typing.specs.Denoting.{ClosesArgument}
use Rattle.decl_typing.specs.Entering.{ClosesException}
use Rattle.decl_typing.specs.Settling.{argument_of}

-- an exception whose root is closed, once its node is recorded
pub exception_closes : (a b d : Parts) (env : List Entry) (number : ℕ) (t : Tree) (e r : ℕ) → OnlyIndex b d → Goes b d → ClosesArgument a b env [] [] number t exn_type e r → ClosesException a d env number t e r
unfolding is_operand
exception_closes a b d env number t e r rest goes read formed row = λ aloud zero B around F arity U A inside noted denotes.
    let x = read formed aloud zero (behind B [] []) around F arity U A inside noted denotes in
    record {
      settled = record {
        judged = x.settled.judged;
        told = x.settled.told;
        fixes = x.settled.fixes;
        type = x.settled.type;
        given = x.settled.given ∙ ap is_some (sym same);
        reports = index_reports b d rest ∙ x.settled.reports;
        settled = settled_here (λ c h. ap (λ o. tell n c ++ read_optional c o) (sym same) ∙ ap (λ v. tell n c ++ read_optional (record c { variables = v }) k.argument) (h.variables ∙ ap parameters around.1)) (settled_trans (settled_told n) x.settled.settled);
        gives = λ ch h. ap (option_map (λ (y : TypeExpression). ch.type_at y.node)) same ∙ x.settled.gives ch h;
      };
      numbers = x.numbers;
      before = x.before;
      to = x.to;
      noted = noted_on x.numbers x.noted goes;
      closes = λ K own. subst (λ s. ClosesAll x.before.store.nodes s.nodes K (r ∷ []) 0) (sym rest.store) (x.closes K own);
      sound = subst (λ s. IsSound s.nodes) (sym rest.store) x.sound;
      plain = subst (λ s. IsPlain s.nodes) (sym rest.store) x.plain;
      level = rest.level ∙ x.level;
    }
  where
    n : ℕ
    n = number_of a.item number

    k : ConstructorPart
    k = constructor_row n (parts_of a.item number t)

    same : k.argument ≡ argument_of a.item number t
    same = first_type_stands a.item number t 2 formed (ap (λ r. is_operand r 2) row)
