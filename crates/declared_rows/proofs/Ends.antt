-- The ends of type expressions without constructors in a declaration: what is settled, and what their nodes denote.
use Rattle.std.proofs.Common.{◌≡◌, ◌∙◌, ◌==◌, ℕ, suc, true, false, List, [], ◌∷◌, length, Some, None, refl, sym, ap, subst}
use Rattle.std.specs.Prelude.{codes, slice_get, All}
use Rattle.token_model.specs.Kinds.{Tok}
use Rattle.tree_model.specs.Trees.{Place}
use Rattle.text_terms.specs.declared.Span.{Span}
use Rattle.syntax_tree.specs.View.{place_of}
use Rattle.type_model.specs.Types.{Typ, types_of}
use Rattle.type_model.specs.Types.{Typ as type}
use Rattle.signature_model.specs.Declarations.{Name}
use Rattle.typing_model.specs.Demands.{site, type_variable_word, same, demand, test, unbound, arity}
use Rattle.typing_model.specs.Contexts.{parameters, type_at, unresolved}
use Rattle.typing_model.specs.Parts as parts
use Rattle.typing_model.specs.Parts.{TypeExpression}
use Rattle.typing_model.specs.TypeExpressions.{index_from, variable_asks, types_of_nodes, nodes_of, in_parentheses}
use Rattle.type_nodes.specs.Nodes.{IsNode, Tuple}
use Rattle.type_nodes.specs.Changes.{Makes}
use Rattle.env_table.specs.declared.entries.Entry.{Entry}
use Rattle.env_table.specs.declared.faults.FaultKind.TheVariants as fault
use Rattle.typing_state.specs.declared.parts.Parts.{Parts}
use Rattle.typing_state.specs.declared.demands.Verdict.{Verdict}
use Rattle.typing_state.specs.declared.messages.Word.TheVariants as word
use Rattle.typing_state.specs.Messages.{unbound_text}
use Rattle.typing_state.specs.Demands.{ArityIs}
use Rattle.typing_state.specs.Goes.{faults_of, Told, OnlyStore, OnlyFaults}
use Rattle.typing_conditions.specs.Frames.{Frame}
use Rattle.typing_conditions.specs.Carrying.{Asks}
use Rattle.typing_steps.specs.States.{is_aloud, sight}
use Rattle.typing_steps.specs.Demands.{is_kept}
use Rattle.typing_steps.proofs.Seeing.{only_nodes}
use Rattle.typing_rows.proofs.Composed.{nodes_many}
use Rattle.typing_rows.specs.Settled.{Before, GivesAll}
use Rattle.typing_rows.proofs.Judging.{Judges, test_judges, complaint_judges, arity_judges}
use Rattle.typing_rows.proofs.DeclaredOrdered.{store_reports}
use Rattle.declared_rows.specs.Assignments.{Assignment, Assigns, AllDenote, none_denote, one_denotes}
use Rattle.declared_rows.specs.Contracts.{EndDenoted, DenotesEnd, MakesUnknown}
use Rattle.declared_rows.specs.Operands.{DenotesAlone, DenotesParentheses, MakesArrow}
use Rattle.declared_rows.proofs.Made.{all_inside, all_known, arrow_denotes, tuple_denotes}
use Rattle.declared_rows.proofs.Going.{assigned_refl}
use Rattle.declared_rows.proofs.Judged.{settled_as, to_more, unknown_denoted, end_here, faults_assigns, same_faults, judged_denoted}
use Rattle.typing_rows.proofs.DeclaredComposed.{by_number, not_one}

-- 'a, which is a parameter
pub variable_denotes : (a : Parts) (env : List Entry) (names : List Name) (ps : List ℕ) (n : ℕ) (t : Tok) (k m : ℕ) → index_from 0 t.name names ≡ Some k → slice_get ps k ≡ Some m → DenotesAlone a a env names ps (λ c. variable_asks c n t c.variables) n m
variable_denotes a env names ps n t k m found there = λ aloud B around F arity U A inside.
    end_here (λ c h. sym (ap (variable_asks c n t) (h.variables ∙ ap parameters around.1) ∙ ap (by_number c n t) found))
    (judged_denoted a a a (test_judges {at = parts.place_of t} {b = sight a} (unbound type_variable_word t.name) (site n 0) true refl) (same_faults a a refl) inside.assigns (record {
      settled = settled_as (type.Var k) (λ c. type.Var k) (λ c h. refl) (λ c h. refl) refl;
      to = λ new. to_more n (record { on = assigned_refl inside.assigns; denotes = inside.parameters k m there });
    }))

-- 'a, which is none
pub variable_unknown : (a b d : Parts) (env : List Entry) (names : List Name) (ps : List ℕ) (n : ℕ) (t : Tok) (span : Span) (m : ℕ) {x : Name} → place_of span ≡ parts.place_of t → index_from 0 t.name names ≡ None → x ≡ t.name → Told a.telling (faults_of a) (faults_of b) span fault.Bound (unbound_text word.TypeVariable x) → OnlyFaults a b →
    MakesUnknown b d m → DenotesAlone a d env names ps (λ c. variable_asks c n t c.variables) n m
variable_unknown a b d env names ps n t span m place none named told rest made = λ aloud B around F arity U A inside.
    let x = unbound type_variable_word t.name in
    let j = subst (λ p. Judges B (λ c. demand (site n 0) p (test x false) ∷ []) (sight a) (sight b) (site n 0) false) place (complaint_judges a b {B = B} x (site n 0) aloud (subst (λ y. Told a.telling (faults_of a) (faults_of b) span fault.Bound (unbound_text word.TypeVariable y)) named told)) in
    end_here (λ c h. sym (ap (variable_asks c n t) (h.variables ∙ ap parameters around.1) ∙ ap (by_number c n t) none))
    (judged_denoted a b d j rest inside.assigns (unknown_denoted b d (λ c. unresolved c n) n m (λ c h. refl) names around.1 (faults_assigns a b rest inside.assigns) made))

-- a row without parts
pub alone_ends : (a b : Parts) (env : List Entry) (names : List Name) (ps : List ℕ) (asks : Asks) (ns ms : List ℕ) (n m : ℕ) → DenotesAlone a b env names ps asks n m → DenotesEnd a b env names ps asks ns ms n m
alone_ends a b env names ps asks ns ms n m read = λ aloud B around ts gives many F arity U A inside all. read aloud B around F arity U A inside

-- a type expression that names no type
pub unknown_alone : (a b : Parts) (env : List Entry) (names : List Name) (ps : List ℕ) (n m : ℕ) → MakesUnknown a b m → DenotesAlone a b env names ps (λ c. unresolved c n) n m
unknown_alone a b env names ps n m made = λ aloud B around F arity U A inside. unknown_denoted a b (λ c. unresolved c n) n m (λ c h. refl) names around.1 inside.assigns made

-- parentheses around nothing, as no well formed tree has them
pub none_inside : (a b : Parts) (names : List Name) (ps : List ℕ) (at : Place) (m : ℕ) → DenotesParentheses a b names ps at [] m
none_inside a b names ps at m env n t ts = λ aloud B around us gives many. absurd (let e : suc (length (nodes_of ts)) ≡ 0 = many in cc)

-- ( t )
pub one_inside : (a : Parts) (names : List Name) (ps : List ℕ) (at : Place) (m : ℕ) → DenotesParentheses a a names ps at (m ∷ []) m
one_inside a names ps at m env n t ts = λ aloud B around us gives many F arity U A inside all. by ts gives many all inside.assigns
  where
    by : {B : Before} {F : Frame} {arity : ℕ} {U : List ℕ} {A : Assignment} {us : List Typ} (ts : List TypeExpression) → GivesAll B.fixes (nodes_of (t ∷ ts)) us → length (nodes_of (t ∷ ts)) ≡ length (m ∷ []) → AllDenote A (m ∷ []) us → Assigns F arity U (sight a) A →
        EndDenoted B (λ c. in_parentheses c n at (t ∷ ts)) F arity U a a A n m
    by {B} [] gives many (one_denotes {t = u} d none_denote) here = record {
      settled = settled_as u (λ c. type_at c t.node) (λ c h. let f : c.chosen.type_at t.node ∷ [] ≡ u ∷ [] = gives c.chosen h.fixed in cc) (λ c h. refl) refl;
      to = λ new. to_more n (record { on = assigned_refl here; denotes = d });
    }
    by (u ∷ ts) gives many all here = absurd (let e : suc (suc (length (nodes_of ts))) ≡ 1 = many in cc)

-- ( t, t ), which is no type
pub several_inside : (a b d : Parts) (names : List Name) (ps : List ℕ) (x y : ℕ) (span : Span) (ms : List ℕ) (v : Verdict) (m : ℕ) → ArityIs v a b span (codes "(,)") 1 (length (x ∷ y ∷ ms)) → OnlyFaults a b → MakesUnknown b d m → DenotesParentheses a d names ps (place_of span) (x ∷ y ∷ ms) m
several_inside a b d names ps x y span ms v m is rest made env n t ts = λ aloud B around us gives many F arity U A inside all. by ts aloud around.1 many inside.assigns
  where
    by : {B : Before} {F : Frame} {arity : ℕ} {U : List ℕ} {A : Assignment} (ts : List TypeExpression) → is_aloud a.telling ≡ true → B.names ≡ names → length (nodes_of (t ∷ ts)) ≡ length (x ∷ y ∷ ms) → Assigns F arity U (sight a) A →
        EndDenoted B (λ c. in_parentheses c n (place_of span) (t ∷ ts)) F arity U a d A n m
    by [] aloud are many here = absurd (let e : 1 ≡ suc (suc (length ms)) = many in cc)
    by {B} (u ∷ ts) aloud are many here =
        let count : length (x ∷ y ∷ ms) ≡ length (t ∷ u ∷ ts) = sym many ∙ nodes_many (t ∷ u ∷ ts) in
        let one = arity_judges a b {B = B} (site n 0) v aloud is in
        let two = subst (λ k. Judges B (λ c. demand (site n 0) (place_of span) (test (arity (codes "(,)") 1 k) (1 == k)) ∷ []) (sight a) (sight b) (site n 0) (is_kept v)) count one in
        let three = subst (λ h. Judges B (λ c. demand (site n 0) (place_of span) (test (arity (codes "(,)") 1 (length (t ∷ u ∷ ts))) h) ∷ []) (sight a) (sight b) (site n 0) (is_kept v)) (not_one (length ts)) two in
        judged_denoted a b d three rest here (unknown_denoted b d (λ c. unresolved c n) n m (λ c h. refl) names are (faults_assigns a b rest here) made)

-- t * t
pub tuple_end : (a b : Parts) (env : List Entry) (names : List Name) (ps ns ms : List ℕ) (n m : ℕ) → (All (IsNode a.store.nodes) ms → Makes a.store b.store m (Tuple ms)) → OnlyStore a b →
    DenotesEnd a b env names ps (λ c. same (type_at c n) (type.Tuple (types_of (types_of_nodes c ns))) ∷ []) ns ms n m
tuple_end a b env names ps ns ms n m made rest = λ aloud B around ts gives many F arity U A inside all. record {
  settled = settled_as (type.Tuple (types_of ts)) (λ c. type.Tuple (types_of (types_of_nodes c ns))) (λ c h. ap (λ us. type.Tuple (types_of us)) (gives c.chosen h.fixed)) (λ c h. refl) (store_reports a b rest);
  to = λ new. to_more n (tuple_denotes {s = a.store.trail} {u = b.store.trail} inside.assigns all (made (all_inside a.store.nodes ms (λ k x e. (inside.assigns.opens x (all_known all k x e)).inside))) (only_nodes a b rest));
}

-- t -> t
pub arrow_end : (a b : Parts) (env : List Entry) (names : List Name) (ps : List ℕ) (from to : ℕ) (ms : List ℕ) (n m : ℕ) → MakesArrow a b ms m →
    DenotesEnd a b env names ps (λ c. same (type_at c n) (type.Arrow (type_at c from) (type_at c to)) ∷ []) (from ∷ to ∷ []) ms n m
arrow_end a b env names ps from to [] n m made = λ aloud B around ts gives many. absurd (cc)
arrow_end a b env names ps from to (x ∷ []) n m made = λ aloud B around ts gives many. absurd (cc)
arrow_end a b env names ps from to (x ∷ y ∷ z ∷ zs) n m made = λ aloud B around ts gives many. absurd (cc)
arrow_end a b env names ps from to (x ∷ y ∷ []) n m (made, rest) = λ aloud B around ts gives many F arity U A inside all. by gives all inside.assigns
  where
    by : {B : Before} {F : Frame} {arity : ℕ} {U : List ℕ} {A : Assignment} {ts : List Typ} → GivesAll B.fixes (from ∷ to ∷ []) ts → AllDenote A (x ∷ y ∷ []) ts → Assigns F arity U (sight a) A →
        EndDenoted B (λ c. same (type_at c n) (type.Arrow (type_at c from) (type_at c to)) ∷ []) F arity U a b A n m
    by gives (one_denotes {t = t} p (one_denotes {t = u} q none_denote)) here = record {
      settled = settled_as (type.Arrow t u) (λ c. type.Arrow (type_at c from) (type_at c to)) (λ c h. let f : c.chosen.type_at from ∷ c.chosen.type_at to ∷ [] ≡ t ∷ u ∷ [] = gives c.chosen h.fixed in cc) (λ c h. refl) (store_reports a b rest);
      to = λ new. to_more n (arrow_denotes {s = a.store.trail} {u = b.store.trail} here p q (made (here.opens x p.known).inside (here.opens y q.known).inside) (only_nodes a b rest));
    }
