-- What functions on declarations denote, by what their calls do.
use Rattle.std.proofs.Common.{◌≡◌, ◌∙◌, ℕ, List, [], ◌∷◌, ◌++◌, Option, Some, None, option_map, refl, sym, ap, subst, append-nil}
use Rattle.tree_model.specs.Trees.{Tree}
use Rattle.row_parts.specs.declared.slots.Operand.{Operand}
use Rattle.row_parts.specs.Numbered.{Numbered, first_in, operand_view}
use Rattle.type_model.specs.Types.{Typ}
use Rattle.signature_model.specs.Declarations.{Name}
use Rattle.typing_model.specs.Contexts.{tell}
use Rattle.typing_model.specs.Parts.{TypeExpression}
use Rattle.typing_model.specs.Declarations.{read_optional}
use Rattle.type_nodes.specs.Nodes.{IsNode, IsSound, Arrow}
use Rattle.type_nodes.specs.Changes.{Makes}
use Rattle.level_unify.specs.Generalising.{Generalised}
use Rattle.env_table.specs.declared.entries.Entry.{Entry}
use Rattle.typing_state.specs.declared.parts.Parts.{Parts}
use Rattle.typing_state.specs.Goes.{Goes, OnlyStore, OnlyIndex}
use Rattle.typing_conditions.specs.Carrying.{Asks}
use Rattle.typing_conditions.specs.Locals.{IsPlain, ClosesAll}
use Rattle.typing_conditions.proofs.Bindings.{generalised_closes}
use Rattle.typing_steps.specs.States.{sight}
use Rattle.typing_steps.proofs.Seeing.{only_nodes}
use Rattle.operand_laws.specs.Operands.{type_of}
use Rattle.typing_rows.specs.Settled.{behind}
use Rattle.typing_rows.specs.Operands.{IsTypeOperand}
use Rattle.typing_rows.proofs.DeclaredOrdered.{store_reports, index_reports}
use Rattle.typing_rows.proofs.Placed.{first_operand}
use Rattle.typing_rows.proofs.Settling.{settled_none, settled_trans, settled_told}
use Rattle.declared_rows.specs.Operands.{DenotesOperand}
use Rattle.declared_rows.proofs.Going.{assigned_refl, denotes_on, to_after, to_before}
use Rattle.declared_rows.proofs.Made.{arrow_denotes}
use Rattle.typing_rows.proofs.Noted.{noted_on}
use Rattle.declared_rows.proofs.Ordered.{index_still}
use Rattle.decl_typing.specs.Denoting.{DenotesOption, DenotesArgument, DenotesConstructor, ClosesArgument}
use Rattle.decl_typing.specs.Settling.{IsOperandIf}
use Rattle.decl_groups.specs.declared.groups.ConstructorPart.{ConstructorPart as CodePart}
use Rattle.decl_typing.proofs.Levels.{with_level, level_noted}

-- there is no argument: the root is that of the result
pub none_denotes : (a : Parts) (env : List Entry) (names : List Name) (ps : List ℕ) (result : Typ) (e : ℕ) → DenotesOption a a env names ps (λ c. read_optional c None) None result e e
none_denotes a env names ps result e = λ aloud B around F arity U A inside noted denotes. record {
  settled = record { judged = []; told = []; fixes = []; type = None; given = refl; reports = sym (append-nil (sight a).reports); settled = settled_none; gives = λ ch h. refl };
  numbers = U;
  to = record { on = assigned_refl inside.assigns; denotes = denotes };
  noted = noted;
}

-- one is read, and the root is an arrow from it to the result
pub some_denotes : (a b d : Parts) (env : List Entry) (names : List Name) (ps : List ℕ) (o : Numbered) (result : Typ) (x e m : ℕ) → IsTypeOperand o → DenotesOperand a b env names ps o x → (IsNode b.store.nodes x → IsNode b.store.nodes e → Makes b.store d.store m (Arrow x e)) → OnlyStore b d → Goes b d →
    DenotesOption a d env names ps (λ c. read_optional c (Some (type_of a.item o))) (Some (type_of a.item o)) result e m
some_denotes a b d env names ps o result x e m operand read makes rest goes = λ aloud B around F arity U A inside noted denotes.
    let y = read operand aloud B around F arity U A inside noted in
    let here = y.to.on.assigns in
    let last = denotes_on inside.assigns y.to.on denotes in
    let made = makes (here.opens x y.to.denotes.known).inside (here.opens e last.known).inside in
    record {
      settled = record { judged = y.settled.judged; told = y.settled.told; fixes = y.settled.fixes; type = Some y.settled.type; given = refl; reports = store_reports b d rest ∙ y.settled.reports; settled = y.settled.settled; gives = λ ch h. ap Some (y.settled.gives ch h) };
      numbers = y.numbers;
      to = to_after y.to.on (arrow_denotes {s = b.store.trail} {u = d.store.trail} here y.to.denotes last made (only_nodes b d rest));
      noted = noted_on y.numbers y.noted goes;
    }

-- the same of the argument of a constructor with a number
pub no_argument : (a : Parts) (env : List Entry) (names : List Name) (ps : List ℕ) (number : ℕ) (t : Tree) (result : Typ) (e : ℕ) → first_in number t 2 ≡ None → DenotesArgument a a env names ps number t result e e
no_argument a env names ps number t result e none formed =
    subst (λ x. DenotesOption a a env names ps (λ c. read_optional c x) x result e e) (sym (ap (option_map (type_of a.item)) none)) (none_denotes a env names ps result e)

pub some_argument : (a b d : Parts) (env : List Entry) (names : List Name) (ps : List ℕ) (o : Numbered) (number : ℕ) (t : Tree) (result : Typ) (x e m : ℕ) → first_in number t 2 ≡ Some o → DenotesOperand a b env names ps o x →
    (IsNode b.store.nodes x → IsNode b.store.nodes e → Makes b.store d.store m (Arrow x e)) → OnlyStore b d → Goes b d → DenotesArgument a d env names ps number t result e m
some_argument a b d env names ps o number t result x e m there read makes rest goes formed =
    subst (λ y. DenotesOption a d env names ps (λ c. read_optional c y) y result e m) (sym (ap (option_map (type_of a.item)) there)) (some_denotes a b d env names ps o result x e m (first_operand number t 2 o formed there) read makes rest goes)

-- and of that of a constructor of the code
pub no_part : (a : Parts) (env : List Entry) (names : List Name) (ps : List ℕ) (p : CodePart) (result : Typ) (e : ℕ) → p.argument ≡ None → DenotesConstructor a a env names ps p result e e
no_part a env names ps p result e none has =
    subst (λ (x : Option Operand). DenotesOption a a env names ps (λ c. read_optional c (option_map (type_of a.item) (option_map operand_view x))) (option_map (type_of a.item) (option_map operand_view x)) result e e) (sym none) (none_denotes a env names ps result e)

pub some_part : (a b d : Parts) (env : List Entry) (names : List Name) (ps : List ℕ) (p : CodePart) (o : Operand) (result : Typ) (x e m : ℕ) → p.argument ≡ Some o → DenotesOperand a b env names ps (operand_view o) x →
    (IsNode b.store.nodes x → IsNode b.store.nodes e → Makes b.store d.store m (Arrow x e)) → OnlyStore b d → Goes b d → DenotesConstructor a d env names ps p result e m
some_part a b d env names ps p o result x e m there read makes rest goes has =
    subst (λ (y : Option Operand). DenotesOption a d env names ps (λ c. read_optional c (option_map (type_of a.item) (option_map operand_view y))) (option_map (type_of a.item) (option_map operand_view y)) result e m) (sym there)
    (some_denotes a b d env names ps (operand_view o) result x e m (subst IsOperandIf there has) read makes rest goes)

-- the same behind the node of a constructor, once that is recorded
pub told_denotes : (a b d : Parts) (env : List Entry) (names : List Name) (ps : List ℕ) (asks : Asks) (o : Option TypeExpression) (n : ℕ) (result : Typ) (e m : ℕ) → OnlyIndex b d → Goes b d → DenotesOption a b env names ps asks o result e m → DenotesOption a d env names ps (λ c. tell n c ++ asks c) o result e m
told_denotes a b d env names ps asks o n result e m rest goes read = λ aloud B around F arity U A inside noted denotes.
    let x = read aloud (behind B [] []) around F arity U A inside noted denotes in
    record {
      settled = record { judged = x.settled.judged; told = x.settled.told; fixes = x.settled.fixes; type = x.settled.type; given = x.settled.given; reports = index_reports b d rest ∙ x.settled.reports; settled = settled_trans (settled_told n) x.settled.settled; gives = x.settled.gives };
      numbers = x.numbers;
      to = to_before x.to (index_still b d rest x.to.on.assigns);
      noted = noted_on x.numbers x.noted goes;
    }

-- nothing is done
pub only_same : (a : Parts) → OnlyIndex a a
only_same a = record { store = refl; faults = refl; written = refl; item = refl; level = refl; telling = refl; constants = refl }

-- one call after another records alone
pub index_then : {a b c : Parts} → OnlyIndex a b → OnlyIndex b c → OnlyIndex a c
index_then p q = record {
  store = q.store ∙ p.store;
  faults = q.faults ∙ p.faults;
  written = q.written ∙ p.written;
  item = q.item ∙ p.item;
  level = q.level ∙ p.level;
  telling = q.telling ∙ p.telling;
  constants = q.constants ∙ p.constants;
}

-- a root is closed that was made one level further in
pub closed_denotes : (at read after : Parts) (l : ℕ) (env : List Entry) (names : List Name) (ps : List ℕ) (number : ℕ) (t : Tree) (result : Typ) (e r : ℕ) → (at.level ≡ 0 → l ≡ 1) → DenotesArgument (with_level at l) read env names ps number t result e r →
    (IsNode read.store.nodes r → Generalised read.store.nodes after.store.nodes r at.level) → IsSound after.store.nodes → IsPlain after.store.nodes → OnlyStore (with_level read at.level) after → Goes (with_level read at.level) after → ClosesArgument at after env names ps number t result e r
closed_denotes at read after l env names ps number t result e r one reads bound sound plain rest goes formed = λ aloud zero B around F arity U A inside noted denotes.
    let x = subst (λ k. DenotesArgument (with_level at k) read env names ps number t result e r) (one zero) reads formed aloud B around F arity U A inside (level_noted at 1 U noted) denotes in
    let there = (x.to.on.assigns.opens r x.to.denotes.known).inside in
    record {
      settled = record { judged = x.settled.judged; told = x.settled.told; fixes = x.settled.fixes; type = x.settled.type; given = x.settled.given; reports = store_reports (with_level read at.level) after rest ∙ x.settled.reports; settled = x.settled.settled; gives = x.settled.gives };
      numbers = x.numbers;
      before = read;
      to = x.to;
      noted = noted_on x.numbers (level_noted read at.level x.numbers x.noted) goes;
      closes = λ K own. subst (ClosesAll read.store.nodes after.store.nodes K (r ∷ [])) zero (generalised_closes read.store.nodes after.store.nodes K r at.level own there (bound there));
      sound = sound;
      plain = plain;
      level = rest.level;
    }
