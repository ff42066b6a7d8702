-- What functions on specifications denote, by what their calls do.
use Rattle.std.proofs.Common.{◌≡◌, ◌∙◌, ℕ, List, [], ◌∷◌, ◌++◌, true, length, Some, None, refl, sym, ap, subst}
use Rattle.token_model.specs.Kinds.{Tok}
use Rattle.tree_model.specs.Trees.{Tree}
use Rattle.row_parts.specs.Numbered.{filled_in, token_in}
use Rattle.type_nodes.specs.Nodes.{IsNode, IsSound}
use Rattle.level_unify.specs.Generalising.{Generalised}
use Rattle.env_table.specs.declared.entries.Entry.{Entry}
use Rattle.typing_state.specs.declared.parts.Parts.{Parts}
use Rattle.typing_state.specs.Goes.{Goes, OnlyStore, OnlyIndex}
use Rattle.typing_conditions.specs.Locals.{IsPlain, ClosesAll}
use Rattle.typing_conditions.proofs.Bindings.{generalised_closes}
use Rattle.typing_steps.specs.States.{is_aloud, sight}
use Rattle.operand_laws.specs.Operands.{type_of}
use Rattle.typing_rows.specs.Operands.{IsTypeOperand}
use Rattle.typing_rows.proofs.Placed.{filled_operand}
use Rattle.typing_rows.proofs.DeclaredOrdered.{store_reports, index_reports}
use Rattle.declared_rows.specs.Assignments.{AssignedTo}
use Rattle.declared_rows.specs.Contracts.{Inside, DenotesTo}
use Rattle.declared_rows.specs.Operands.{DenotesOperand}
use Rattle.declared_rows.proofs.Going.{to_after}
use Rattle.typing_rows.proofs.Noted.{noted_on}
use Rattle.decl_typing.specs.Parameters.{MakesParameters}
use Rattle.decl_typing.proofs.Levels.{with_level, level_noted}
use Rattle.signature_typing.specs.Values.{variables_of, DenotesValue, ClosesValue, IsValue, SpecifiesNamed, SpecifiesValue}

-- the type variables of a specification are made as parameters, and then its type is read
pub value_denotes : (a b d : Parts) (env : List Entry) (number : ℕ) (t : Tree) (ps : List ℕ) (m : ℕ) → length ps ≡ length (variables_of t) → MakesParameters a b ps → OnlyStore a b → Goes a b →
    DenotesOperand b d env (variables_of t) ps (filled_in number t 3) m → DenotesValue a d env number t m
value_denotes a b d env number t ps m many makes rest goes read formed aloud B around F U A inside noted =
    let x = makes F U A inside.assigns in
    let here : Inside F (length ps) U b x.on.after B.named env ps = record { assigns = x.on.assigns; types = inside.types; parameters = x.are } in
    let z = subst (λ i. IsTypeOperand (filled_in number t 3) → DenotesTo b d env (variables_of t) ps (λ c. (type_of i (filled_in number t 3)).read c) (type_of i (filled_in number t 3)).node m) rest.item read (filled_operand number t 3 formed) (subst (λ k. is_aloud k ≡ true) (sym rest.telling) aloud) B around F (length ps) U x.on.after here (noted_on U noted goes) in
    record {
      settled = record {
        judged = z.settled.judged;
        told = z.settled.told;
        fixes = z.settled.fixes;
        type = z.settled.type;
        reports = z.settled.reports ∙ ap (λ rs. rs ++ z.settled.told) (store_reports a b rest);
        settled = z.settled.settled;
        gives = z.settled.gives;
      };
      numbers = z.numbers;
      to = subst (λ k. AssignedTo F k z.numbers (sight a) (sight d) A m z.settled.type) many (to_after x.on z.to);
      noted = z.noted;
    }

-- the root is closed, which was made one level further in
pub value_closed : (at read after : Parts) (l : ℕ) (env : List Entry) (number : ℕ) (t : Tree) (r : ℕ) → (at.level ≡ 0 → l ≡ 1) → DenotesValue (with_level at l) read env number t r →
    (IsNode read.store.nodes r → Generalised read.store.nodes after.store.nodes r at.level) → IsSound after.store.nodes → IsPlain after.store.nodes → OnlyStore (with_level read at.level) after → Goes (with_level read at.level) after → ClosesValue at after env number t r
value_closed at read after l env number t r one reads bound sound plain rest goes formed = λ aloud zero B around F U A inside noted.
    let x = subst (λ k. DenotesValue (with_level at k) read env number t r) (one zero) reads formed aloud B around F U A inside (level_noted at 1 U noted) in
    let there = (x.to.on.assigns.opens r x.to.denotes.known).inside in
    record {
      settled = record { judged = x.settled.judged; told = x.settled.told; fixes = x.settled.fixes; type = x.settled.type; reports = store_reports (with_level read at.level) after rest ∙ x.settled.reports; settled = x.settled.settled; gives = x.settled.gives };
      numbers = x.numbers;
      before = read;
      to = x.to;
      noted = noted_on x.numbers (level_noted read at.level x.numbers x.noted) goes;
      closes = λ K own. subst (ClosesAll read.store.nodes after.store.nodes K (r ∷ [])) zero (generalised_closes read.store.nodes after.store.nodes K r at.level own there (bound there));
      sound = sound;
      plain = plain;
      level = rest.level;
    }

-- and then the node is recorded
pub value_noted : (a b d : Parts) (env : List Entry) (number : ℕ) (t : Tree) (r : ℕ) → OnlyIndex b d → Goes b d → ClosesValue a b env number t r → ClosesValue a d env number t r
value_noted a b d env number t r rest goes read formed = λ aloud zero B around F U A inside noted.
    let x = read formed aloud zero B around F U A inside noted in
    record {
      settled = record { judged = x.settled.judged; told = x.settled.told; fixes = x.settled.fixes; type = x.settled.type; reports = index_reports b d rest ∙ x.settled.reports; settled = x.settled.settled; gives = x.settled.gives };
      numbers = x.numbers;
      before = x.before;
      to = x.to;
      noted = noted_on x.numbers x.noted goes;
      closes = λ K own. subst (λ s. ClosesAll x.before.store.nodes s.nodes K (r ∷ []) 0) (sym rest.store) (x.closes K own);
      sound = subst (λ s. IsSound s.nodes) (sym rest.store) x.sound;
      plain = subst (λ s. IsPlain s.nodes) (sym rest.store) x.plain;
      level = rest.level ∙ x.level;
    }

-- no name is written
pub enters_none : (a b d : Parts) (env : List Entry) (number : ℕ) (t : Tree) (r : ℕ) → OnlyIndex b d → Goes b d → ClosesValue a b env number t r → token_in t 1 ≡ None → SpecifiesValue a d env env number t
enters_none a b d env number t r rest goes read none = subst (λ o. SpecifiesNamed o a d env env number t) (sym none) (record { root = r; closes = value_noted a b d env number t r rest goes read; scope = refl })

-- one is, and it is entered
pub enters_one : (a b d : Parts) (env after : List Entry) (number : ℕ) (t : Tree) (r : ℕ) (name : Tok) (entry : Entry) → OnlyIndex b d → Goes b d → ClosesValue a b env number t r → token_in t 1 ≡ Some name → IsValue entry name r → after ≡ entry ∷ env → SpecifiesValue a d env after number t
enters_one a b d env after number t r name entry rest goes read some is scope =
    subst (λ o. SpecifiesNamed o a d env after number t) (sym some) (record { root = r; closes = value_noted a b d env number t r rest goes read; entry = entry; is = is; scope = scope })
