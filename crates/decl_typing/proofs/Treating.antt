-- The names in scope that functions on exceptions record, by what their calls do.
use Rattle.std.proofs.Common.{◌≡◌, ◌∙◌, ◌++◌, ℕ, List, [], Some, None, option_map, refl, sym, ap, subst}
use Rattle.tree_model.specs.Slots.{is_operand}
use Rattle.tree_model.specs.Trees.{Tree}
use Rattle.row_parts.specs.Numbered.{Numbered, first_in}
use Rattle.typing_model.specs.Contexts.{Context, parameters, tell}
use Rattle.typing_model.specs.Declarations.{read_optional}
use Rattle.env_table.specs.declared.entries.Entry.{Entry}
use Rattle.env_table.specs.declared.seen.Seen.{Seen}
use Rattle.typing_state.specs.declared.parts.Parts.{Parts}
use Rattle.typing_state.specs.Goes.{Goes}
use Rattle.typing_state.specs.Notes.{Noted}
use Rattle.operand_laws.specs.Operands.{number_of, type_of}
use Rattle.operand_laws.proofs.Sorts.{first_type_stands}
use Rattle.typing_steps.specs.States.{sight}
use Rattle.typing_conditions.specs.Sights.{Sight}
use Rattle.typing_conditions.specs.Judging.{AllSeen}
use Rattle.typing_conditions.specs.Carrying.{Asks}
use Rattle.typing_rows.specs.Treating.{IsScoped, Treats, TreatsOperand}
use Rattle.typing_rows.proofs.Noted.{still_scoped, scope_after}
use Rattle.typing_rows.proofs.Placed.{first_operand}
use Rattle.typing_rows.proofs.Treating.{none_treated, treats_on, treats_as, treats_node}
use Rattle.decl_typing.proofs.Levels.{with_level}
use Rattle.decl_typing.specs.Entering.{TreatsArgument, TreatsException}

-- no argument is there
pub no_treats : (a b : Parts) (env : List Entry) (number : ℕ) (t : Tree) → first_in number t 2 ≡ None → TreatsArgument a b env number t
no_treats a b env number t none formed aloud = treats_as (λ c. ap (read_optional c) (sym (ap (option_map (type_of a.item)) none))) (none_treated (λ c. refl))

-- one that is read
pub some_treats : (a b d : Parts) (env : List Entry) (o : Numbered) → Goes b d → TreatsOperand a b env o → (number : ℕ) (t : Tree) → first_in number t 2 ≡ Some o → TreatsArgument a d env number t
some_treats a b d env o goes read number t there formed aloud =
    treats_as (λ c. ap (read_optional c) (sym (ap (option_map (type_of a.item)) there))) (treats_on (still_scoped goes) (read (first_operand number t 2 o formed there) aloud))

-- it is so through a call at another level, and one after which more is recorded
pub treats_deeper : (at read after : Parts) (l m : ℕ) (env : List Entry) (number : ℕ) (t : Tree) → Goes (with_level read m) after → TreatsArgument (with_level at l) read env number t → TreatsArgument at after env number t
treats_deeper at read after l m env number t goes reads formed aloud = treats_on {b = sight read} (still_scoped goes) (reads formed aloud)

-- conditions in another context of the same environment
treats_inside : {b : Sight} {env : List Entry} {asks : Asks} (into : Context → Context) → ((c : Context) → (into c).env ≡ c.env) → Treats b env asks → Treats b env (λ c. asks (into c))
treats_inside {b} {env} {asks} into same p = record { sees = λ c. subst (λ E. AllSeen (IsScoped b env E) (asks (into c))) (same c) (p.sees (into c)); starts = λ c. p.starts (into c) }

-- an exception, once its node is recorded
pub exception_treats : (a b d : Parts) (env : List Entry) (number : ℕ) (t : Tree) (seen : Seen) → Goes a b → TreatsArgument a b env number t → seen.env ≡ env → Noted b.telling b d number seen → Goes b d → TreatsException a d env number t
unfolding is_operand
exception_treats a b d env number t seen goes read in_scope noted further formed row aloud =
    treats_as (λ c. ap (λ o. tell (number_of a.item number) c ++ read_optional (record c { variables = parameters [] }) o) (sym (first_type_stands a.item number t 2 formed (ap (λ r. is_operand r 2) row))))
    (treats_node a.item number (scope_after a b d number seen goes noted aloud ∙ ap Some in_scope) (treats_inside (λ c. record c { variables = parameters [] }) (λ c. refl) (treats_on (still_scoped further) (read formed aloud))))
