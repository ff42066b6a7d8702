-- Rows of type expressions without constructors.
use Rattle.std.proofs.Common.{◌≡◌, ◌∙◌, ◌==◌, ℕ, suc, true, false, List, [], ◌∷◌, length, min, refl, sym, ap, subst, arith}
use Rattle.std.specs.Prelude.{All, Some, codes}
use Rattle.std.proofs.lemmas.Bool.{ne_eqb}
use Rattle.token_model.specs.Kinds.{Tok}
use Rattle.tree_model.specs.Trees.{Place}
use Rattle.text_terms.specs.declared.Span.{Span}
use Rattle.syntax_tree.specs.View.{place_of}
use Rattle.type_model.specs.Types.{types_of}
use Rattle.type_model.specs.Types.{Typ as type}
use Rattle.typing_model.specs.Demands.{site, same, demand, test, arity}
use Rattle.typing_model.specs.Contexts.{in_item, type_at, unresolved}
use Rattle.typing_model.specs.Parts.{TypeExpression}
use Rattle.typing_model.specs.TypeExpressions.{variable_asks, types_of_nodes, nodes_of, in_parentheses}
use Rattle.type_terms.specs.declared.types.NodeRef.{NodeRef}
use Rattle.type_nodes.specs.Nodes.{Var, Arrow, Tuple, IsNode}
use Rattle.type_nodes.specs.Changes.{Makes}
use Rattle.env_table.specs.declared.entries.Entry.{Entry}
use Rattle.typing_state.specs.declared.parts.Parts.{Parts}
use Rattle.typing_state.specs.declared.demands.Verdict.{Verdict}
use Rattle.typing_state.specs.Demands.{ArityIs}
use Rattle.typing_state.specs.Goes.{OnlyFaults, OnlyStore}
use Rattle.typing_state.specs.Types.{MakesVar, any_scope, level_for}
use Rattle.typing_conditions.specs.Sights.{Sight, own, Letters}
use Rattle.typing_conditions.specs.Hiding.{Owns}
use Rattle.typing_conditions.specs.Frames.{Frame, Reaches}
use Rattle.typing_conditions.specs.Meanings.{AllMean, none_mean, one_means}
use Rattle.typing_conditions.specs.Carrying.{Asks, Scope, Carried}
use Rattle.typing_conditions.proofs.Carried.{carried_refl, carried_trans, owns_last}
use Rattle.typing_conditions.proofs.Meaning.{written_means}
use Rattle.typing_steps.specs.States.{is_aloud, sight}
use Rattle.typing_steps.specs.Writing.{PutsVariable}
use Rattle.typing_steps.proofs.Making.{tuple_over, arrow_over}
use Rattle.typing_steps.proofs.Testing.{AreSameHere, carried_here, here_hides, arity_asked}
use Rattle.typing_steps.proofs.Writing.{variable_made}
use Rattle.typing_rows.specs.TypeContracts.{RowRead, ReadsRow, types_at, EndsRead}
use Rattle.typing_rows.specs.Operands.{EndsParentheses}
use Rattle.typing_rows.proofs.Reading.{read_as, same_read, any_read, unresolved_read}
use Rattle.typing_rows.proofs.TypeOrdered.{types_by_nodes}

-- a type variable of the item, in its context
of_item : {F : Frame} {scope : Scope} {a b : Sight} {G : Letters} {m : ℕ} (n : ℕ) (t : Tok) → scope.variables ≡ in_item F.owner → RowRead F scope (λ c. same (type_at c n) (c.chosen.written F.owner t.name) ∷ []) a G b n m →
    RowRead F scope (λ c. variable_asks c n t c.variables) a G b n m
of_item {F} {scope} {a} {b} {G} {m} n t item x =
    let e : AreSameHere F scope a G (λ c. same (type_at c n) (c.chosen.written F.owner t.name) ∷ []) (λ c. variable_asks c n t c.variables) = λ V c loose under g named. sym (ap (variable_asks c n t) (under.variables ∙ item)) in
    record { letters = x.letters; carried = carried_here e x.carried; means = x.means; owns = λ known. subst (λ xs. Owns n m b xs ((own n, m) ∷ x.letters)) (sym (here_hides e x.carried)) (x.owns known) }

-- 'a, which was written before
pub variable_again : (a : Parts) (env : List Entry) (n : ℕ) (t : Tok) (m : ℕ) → (sight a).written t.name ≡ Some m → ReadsRow a a env (λ c. variable_asks c n t c.variables) n m
variable_again a env n t m there = λ aloud F scope G s. of_item n t s.item (same_read n (record { carried = carried_refl; means = written_means s.written there }))

-- 'a, for the first time in the item
pub variable_first : (a b : Parts) (env : List Entry) (n : ℕ) (t : Tok) (m : NodeRef) → Makes a.store b.store m.0 (Var (level_for (min a.level 1)) any_scope) → PutsVariable a b t.name m → ReadsRow a b env (λ c. variable_asks c n t c.variables) n m.0
variable_first a b env n t m made puts = λ aloud F scope G s. of_item n t s.item (same_read n (variable_made a b {F = F} {scope = scope} {G = G} s.reached made puts))

-- there are as many nodes as types
pub as_many : {F : Frame} {a : Sight} {G : Letters} (ns ms : List ℕ) → AllMean F a G (types_at ns) ms → length ns ≡ length ms
as_many [] [] all = refl
as_many {F = F} {a = a} {G = G} [] (m ∷ ms) all = elim all [ ]
as_many {F = F} {a = a} {G = G} (n ∷ ns) [] all = elim all [ ]
as_many (n ∷ ns) (m ∷ ms) (one_means h hs) = ap suc (as_many ns ms hs)

-- and as many as type expressions
pub nodes_many : (ts : List TypeExpression) → length (nodes_of ts) ≡ length ts
nodes_many [] = refl
nodes_many (t ∷ ts) = ap suc (nodes_many ts)

not_one : (k : ℕ) → (1 == suc (suc k)) ≡ false
not_one k = ne_eqb 1 (suc (suc k)) (λ e. absurd (omega arith))

-- parentheses around nothing, as only a malformed tree has them
pub ends_empty : (a b : Parts) (at : Place) (m : ℕ) → MakesVar a b m any_scope → OnlyStore a b → EndsParentheses a b at [] m
ends_empty a b at m made rest env n ts = λ aloud F scope G s all. by ts all (any_read a b {scope = scope} {G = G} n s.reached made rest)
  where
    by : {F : Frame} {scope : Scope} {G : Letters} (ts : List TypeExpression) → AllMean F (sight a) G (types_at (nodes_of ts)) [] → RowRead F scope (λ c. []) (sight a) G (sight b) n m → RowRead F scope (λ c. in_parentheses c n at ts) (sight a) G (sight b) n m
    by [] all x = x
    by {F = F} {G = G} (t ∷ ts) all x = elim all [ ]

-- ( t )
pub ends_single : (a : Parts) (at : Place) (m : ℕ) → EndsParentheses a a at (m ∷ []) m
ends_single a at m env n ts = λ aloud F scope G s all. by ts all
  where
    by : {F : Frame} {scope : Scope} {G : Letters} (ts : List TypeExpression) → AllMean F (sight a) G (types_at (nodes_of ts)) (m ∷ []) → RowRead F scope (λ c. in_parentheses c n at ts) (sight a) G (sight a) n m
    by {F = F} {G = G} [] all = elim all [ ]
    by (t ∷ []) (one_means h hs) = same_read n (record { carried = carried_refl; means = h })
    by {F = F} {G = G} (t ∷ u ∷ ts) (one_means h hs) = elim hs [ ]

-- ( t, t ), which is no type
pub ends_several : (a b d : Parts) (m x y : ℕ) (span : Span) (ms : List ℕ) (v : Verdict) → ArityIs v a b span (codes "(,)") 1 (length (x ∷ y ∷ ms)) → OnlyFaults a b → MakesVar b d m any_scope → OnlyStore b d → EndsParentheses a d (place_of span) (x ∷ y ∷ ms) m
ends_several a b d m x y span ms v is only made rest env n ts = λ aloud F scope G s all. by ts all aloud s.reached s.item
  where
    by : {F : Frame} {scope : Scope} {G : Letters} (ts : List TypeExpression) → AllMean F (sight a) G (types_at (nodes_of ts)) (x ∷ y ∷ ms) → is_aloud a.telling ≡ true → Reaches F (sight a) → scope.variables ≡ in_item F.owner →
        RowRead F scope (λ c. in_parentheses c n (place_of span) ts) (sight a) G (sight d) n m
    by {F = F} {G = G} [] all aloud reached item = elim all [ ]
    by {F = F} {G = G} (t ∷ []) (one_means h hs) aloud reached item = elim hs [ ]
    by {F} {scope} {G} (t ∷ u ∷ ts) all aloud reached item =
        let count : length (x ∷ y ∷ ms) ≡ length (t ∷ u ∷ ts) = sym (as_many (nodes_of (t ∷ u ∷ ts)) (x ∷ y ∷ ms) all) ∙ nodes_many (t ∷ u ∷ ts) in
        let one = arity_asked a b {F = F} {scope = scope} {G = G} (site n 0) v aloud is only in
        let two = subst (λ k. Carried F scope (λ c. demand (site n 0) (place_of span) (test (arity (codes "(,)") 1 k) (1 == k)) ∷ []) (sight a) G (sight b) G) count one.carried in
        let three = subst (λ h. Carried F scope (λ c. demand (site n 0) (place_of span) (test (arity (codes "(,)") 1 (length (t ∷ u ∷ ts))) h) ∷ []) (sight a) G (sight b) G) (not_one (length ts)) two in
        let last = unresolved_read b d {F = F} {scope = scope} {G = G} n (three.stays.reaches reached) item made rest in
        record { letters = last.letters; carried = carried_trans three last.carried; means = last.means; owns = λ known. owns_last three last.carried (last.owns known) }

-- t * t
pub ends_tuple : (a b : Parts) (env : List Entry) (ns ms : List ℕ) (n m : ℕ) → (All (IsNode a.store.nodes) ms → Makes a.store b.store m (Tuple ms)) → OnlyStore a b → EndsRead a b env (λ c. same (type_at c n) (type.Tuple (types_of (types_of_nodes c ns))) ∷ []) ns ms n m
ends_tuple a b env ns ms n m made rest = λ aloud F scope G s all.
    let x = same_read n (tuple_over a b {scope = scope} s.reached all made rest) in
    read_as (λ c. ap (λ ts. same (type_at c n) (type.Tuple (types_of ts)) ∷ []) (types_by_nodes c.chosen ns)) x

-- t -> t
pub ends_arrow : (a b : Parts) (env : List Entry) (from to x y n m : ℕ) → (IsNode a.store.nodes x → IsNode a.store.nodes y → Makes a.store b.store m (Arrow x y)) → OnlyStore a b →
    EndsRead a b env (λ c. same (type_at c n) (type.Arrow (type_at c from) (type_at c to)) ∷ []) (from ∷ to ∷ []) (x ∷ y ∷ []) n m
ends_arrow a b env from to x y n m made rest = λ aloud F scope G s all. by all
  where
    by : {F : Frame} {scope : Scope} {G : Letters} → AllMean F (sight a) G (types_at (from ∷ to ∷ [])) (x ∷ y ∷ []) → RowRead F scope (λ c. same (type_at c n) (type.Arrow (type_at c from) (type_at c to)) ∷ []) (sight a) G (sight b) n m
    by {scope = scope} (one_means p (one_means q none_mean)) = same_read n (arrow_over a b {scope = scope} p q made rest)

-- another row names no type
pub ends_other : (a b : Parts) (env : List Entry) (ns ms : List ℕ) (n m : ℕ) → MakesVar a b m any_scope → OnlyStore a b → EndsRead a b env (λ c. unresolved c n) ns ms n m
ends_other a b env ns ms n m made rest = λ aloud F scope G s all. unresolved_read a b n s.reached s.item made rest

-- a row without parts
pub ends_alone : (a b : Parts) (env : List Entry) (asks : Asks) (ns ms : List ℕ) (n m : ℕ) → ReadsRow a b env asks n m → EndsRead a b env asks ns ms n m
ends_alone a b env asks ns ms n m read = λ aloud F scope G s all. read aloud F scope G s
