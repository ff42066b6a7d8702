-- Rows of type expressions without constructors, in a declaration.
use Rattle.std.proofs.Common.{◌≡◌, ◌∙◌, ◌++◌, ◌==◌, ℕ, suc, Bool, true, false, List, [], ◌∷◌, length, Option, Some, None, refl, sym, ap, subst, append_assoc, arith}
use Rattle.std.specs.Prelude.{codes}
use Rattle.std.proofs.lemmas.Bool.{ne_eqb}
use Rattle.token_model.specs.Kinds.{Tok}
use Rattle.tree_model.specs.Trees.{Place}
use Rattle.text_terms.specs.declared.Span.{Span}
use Rattle.syntax_tree.specs.View.{place_of}
use Rattle.type_model.specs.Types.{Typ, types_of}
use Rattle.type_model.specs.Types.{Typ as type, Typs as types}
use Rattle.signature_model.specs.Declarations.{Name}
use Rattle.typing_model.specs.Demands.{Site, site, type_variable_word, Condition, same, demand, test, unbound, arity}
use Rattle.typing_model.specs.Contexts.{Context, parameters, type_at, ask, unresolved}
use Rattle.typing_model.specs.Parts as parts
use Rattle.typing_model.specs.Parts.{TypeExpression}
use Rattle.typing_model.specs.TypeExpressions.{index_from, variable_asks, types_of_nodes, nodes_of, in_parentheses}
use Rattle.env_table.specs.declared.entries.Entry.{Entry}
use Rattle.env_table.specs.declared.faults.FaultKind.TheVariants as fault
use Rattle.typing_state.specs.declared.parts.Parts.{Parts}
use Rattle.typing_state.specs.declared.demands.Verdict.{Verdict}
use Rattle.typing_state.specs.declared.messages.Word.TheVariants as word
use Rattle.typing_state.specs.Messages.{unbound_text}
use Rattle.typing_state.specs.Demands.{ArityIs}
use Rattle.typing_state.specs.Goes.{faults_of, Told}
use Rattle.typing_conditions.specs.Sights.{Sight}
use Rattle.typing_conditions.proofs.Equals.{judged_as}
use Rattle.typing_conditions.specs.Carrying.{Asks}
use Rattle.typing_steps.specs.States.{is_aloud, sight}
use Rattle.typing_steps.specs.Demands.{is_kept}
use Rattle.typing_rows.proofs.Composed.{nodes_many}
use Rattle.typing_rows.specs.Settled.{Before, behind, GivesAll, SettledTo}
use Rattle.typing_rows.specs.DeclaredContracts.{SettlesTo, SettlesEnd}
use Rattle.typing_rows.specs.DeclaredOperands.{SettlesParentheses}
use Rattle.typing_rows.proofs.Settling.{settled_trans}
use Rattle.typing_rows.proofs.Judging.{Judges, test_judges, arity_judges, complaint_judges}
use Rattle.typing_rows.proofs.DeclaredOrdered.{to_here, same_to, unresolved_to}

-- a demand, and then the conditions of a type expression behind it
pub judged_then : {B : Before} {asks further : Asks} {a b d : Sight} {s : Site} {v : Bool} {n : ℕ} (x : Judges B asks a b s v) → SettledTo (behind B (judged_as s v) []) further b d n → SettledTo B (λ c. asks c ++ further c) a d n
judged_then {a = a} {s = s} {v = v} x y = record {
  judged = judged_as s v ++ y.judged;
  told = x.told ++ y.told;
  fixes = y.fixes;
  type = y.type;
  reports = y.reports ∙ ap (λ rs. rs ++ y.told) x.reports ∙ append_assoc a.reports x.told y.told;
  settled = settled_trans x.settled y.settled;
  gives = y.gives;
}

-- what is asked of a type variable, by the number of its parameter
abbrev pub by_number : Context → ℕ → Tok → Option ℕ → List Condition
by_number c n t o = elim o [
  | None ↦ ask n 0 (parts.place_of t) (test (unbound type_variable_word t.name) false) ++ unresolved c n
  | Some k ↦ ask n 0 (parts.place_of t) (test (unbound type_variable_word t.name) true) ++ same (type_at c n) (type.Var k) ∷ []
]

-- 'a, which is a parameter
pub variable_known : (a : Parts) (env : List Entry) (names : List Name) (n : ℕ) (t : Tok) (k : ℕ) → index_from 0 t.name names ≡ Some k → SettlesTo a a env names (λ c. variable_asks c n t c.variables) n
variable_known a env names n t k found = λ aloud B around.
    to_here (λ c h. sym (ap (variable_asks c n t) (h.variables ∙ ap parameters around.1) ∙ ap (by_number c n t) found))
    (judged_then (test_judges {at = parts.place_of t} {b = sight a} (unbound type_variable_word t.name) (site n 0) true refl) (same_to n (type.Var k) (λ c. type.Var k) (λ c h. refl) refl))

-- 'a, which is none
pub variable_unbound : (a b d : Parts) (env : List Entry) (names : List Name) (n : ℕ) (t : Tok) (span : Span) {x : Name} → place_of span ≡ parts.place_of t → index_from 0 t.name names ≡ None → x ≡ t.name → Told a.telling (faults_of a) (faults_of b) span fault.Bound (unbound_text word.TypeVariable x) →
    (sight d).reports ≡ (sight b).reports → SettlesTo a d env names (λ c. variable_asks c n t c.variables) n
variable_unbound a b d env names n t span place none named told kept = λ aloud B around.
    let x = unbound type_variable_word t.name in
    let j = subst (λ p. Judges B (λ c. demand (site n 0) p (test x false) ∷ []) (sight a) (sight b) (site n 0) false) place (complaint_judges a b {B = B} x (site n 0) aloud (subst (λ y. Told a.telling (faults_of a) (faults_of b) span fault.Bound (unbound_text word.TypeVariable y)) named told)) in
    to_here (λ c h. sym (ap (variable_asks c n t) (h.variables ∙ ap parameters around.1) ∙ ap (by_number c n t) none)) (judged_then j (unresolved_to names n around.1 kept))

-- the first of some types
abbrev first_type : List Typ → Typ
first_type [] = type.Tuple types.Nil
first_type (t ∷ ts) = t

-- parentheses around nothing, as no well formed tree has them
pub ends_empty : (a b : Parts) (names : List Name) (at : Place) → SettlesParentheses a b names at []
ends_empty a b names at env n t ts = λ aloud B around us gives many. absurd (let e : suc (length (nodes_of ts)) ≡ 0 = many in cc)

-- ( t )
pub ends_single : (a : Parts) (names : List Name) (at : Place) (m : ℕ) → SettlesParentheses a a names at (m ∷ [])
ends_single a names at m env n t ts = λ aloud B around us gives many. by ts gives many
  where
    by : {B : Before} {us : List Typ} (ts : List TypeExpression) → GivesAll B.fixes (nodes_of (t ∷ ts)) us → length (nodes_of (t ∷ ts)) ≡ length (m ∷ []) → SettledTo B (λ c. in_parentheses c n at (t ∷ ts)) (sight a) (sight a) n
    by {B} {us} [] gives many = same_to n (first_type us) (λ c. type_at c t.node) (λ c h. ap first_type (gives c.chosen h.fixed)) refl
    by (u ∷ ts) gives many = absurd (let e : suc (suc (length (nodes_of ts))) ≡ 1 = many in cc)

pub not_one : (k : ℕ) → (1 == suc (suc k)) ≡ false
not_one k = ne_eqb 1 (suc (suc k)) (λ e. absurd (omega arith))

-- ( t, t ), which is no type
pub ends_several : (a b d : Parts) (names : List Name) (x y : ℕ) (span : Span) (ms : List ℕ) (v : Verdict) → ArityIs v a b span (codes "(,)") 1 (length (x ∷ y ∷ ms)) → (sight d).reports ≡ (sight b).reports → SettlesParentheses a d names (place_of span) (x ∷ y ∷ ms)
ends_several a b d names x y span ms v is kept env n t ts = λ aloud B around us gives many. by ts aloud around.1 many
  where
    by : {B : Before} (ts : List TypeExpression) → is_aloud a.telling ≡ true → B.names ≡ names → length (nodes_of (t ∷ ts)) ≡ length (x ∷ y ∷ ms) → SettledTo B (λ c. in_parentheses c n (place_of span) (t ∷ ts)) (sight a) (sight d) n
    by [] aloud are many = absurd (let e : 1 ≡ suc (suc (length ms)) = many in cc)
    by {B} (u ∷ ts) aloud are many =
        let count : length (x ∷ y ∷ ms) ≡ length (t ∷ u ∷ ts) = sym many ∙ nodes_many (t ∷ u ∷ ts) in
        let one = arity_judges a b {B = B} (site n 0) v aloud is in
        let two = subst (λ k. Judges B (λ c. demand (site n 0) (place_of span) (test (arity (codes "(,)") 1 k) (1 == k)) ∷ []) (sight a) (sight b) (site n 0) (is_kept v)) count one in
        let three = subst (λ h. Judges B (λ c. demand (site n 0) (place_of span) (test (arity (codes "(,)") 1 (length (t ∷ u ∷ ts))) h) ∷ []) (sight a) (sight b) (site n 0) (is_kept v)) (not_one (length ts)) two in
        judged_then three (unresolved_to names n are kept)

-- t * t
pub ends_tuple : (a b : Parts) (env : List Entry) (names : List Name) (ns ms : List ℕ) (n : ℕ) → (sight b).reports ≡ (sight a).reports → SettlesEnd a b env names (λ c. same (type_at c n) (type.Tuple (types_of (types_of_nodes c ns))) ∷ []) ns ms n
ends_tuple a b env names ns ms n kept = λ aloud B around ts gives many.
    same_to n (type.Tuple (types_of ts)) (λ c. type.Tuple (types_of (types_of_nodes c ns))) (λ c h. ap (λ us. type.Tuple (types_of us)) (gives c.chosen h.fixed)) kept

-- an arrow over the first two of some types
abbrev arrow_over : List Typ → Typ
arrow_over [] = type.Tuple types.Nil
arrow_over (t ∷ []) = t
arrow_over (t ∷ u ∷ ts) = type.Arrow t u

-- t -> t
pub ends_arrow : (a b : Parts) (env : List Entry) (names : List Name) (from to : ℕ) (ms : List ℕ) (n : ℕ) → (sight b).reports ≡ (sight a).reports →
    SettlesEnd a b env names (λ c. same (type_at c n) (type.Arrow (type_at c from) (type_at c to)) ∷ []) (from ∷ to ∷ []) ms n
ends_arrow a b env names from to ms n kept = λ aloud B around ts gives many.
    same_to n (arrow_over ts) (λ c. type.Arrow (type_at c from) (type_at c to)) (λ c h. ap arrow_over (gives c.chosen h.fixed)) kept

-- another row names no type
pub ends_other : (a b : Parts) (env : List Entry) (names : List Name) (ns ms : List ℕ) (n : ℕ) → (sight b).reports ≡ (sight a).reports → SettlesEnd a b env names (λ c. unresolved c n) ns ms n
ends_other a b env names ns ms n kept = λ aloud B around ts gives many. unresolved_to names n around.1 kept

-- a row without parts
pub ends_alone : (a b : Parts) (env : List Entry) (names : List Name) (asks : Asks) (ns ms : List ℕ) (n : ℕ) → SettlesTo a b env names asks n → SettlesEnd a b env names asks ns ms n
ends_alone a b env names asks ns ms n read = λ aloud B around ts gives many. read aloud B around
