-- Limits, and types that are generalised, one after the other, in the words of the calls that do so.
use Rattle.std.proofs.Common.{◌≡◌, ◌∙◌, ℕ, List, [], ◌∷◌, ◌++◌, refl, ap, subst}
use Rattle.type_nodes.specs.Nodes.{Var, IsNode, IsSound}
use Rattle.type_nodes.specs.States.{State}
use Rattle.type_nodes.specs.Changes.{Makes}
use Rattle.level_unify.specs.Generalising.{Generalised}
use Rattle.typing_state.specs.declared.parts.Parts.{Parts}
use Rattle.typing_state.specs.Goes.{OnlyStore, Goes}
use Rattle.typing_state.specs.Types.{level_for, any_scope, JoinedIfNodes}
use Rattle.binding_rows.specs.Closing.{Limit, limit_nodes, LimitsAll, LimitsNodes, GeneralisesAll}

-- no type is limited
pub limits_none : (a : Parts) (level : ℕ) → LimitsNodes a a level []
limits_none a level = record { limits = []; all = refl; nodes = refl }

-- one type is, as the clause of `limit` says it
pub limits_one : {a b : Parts} {level m : ℕ} → (mid : State) × (n : ℕ) × Makes a.store mid n (Var (level_for level) any_scope) × JoinedIfNodes mid b.store n m → OnlyStore a b → Goes a b → IsSound b.store.nodes → LimitsNodes a b level (m ∷ [])
limits_one {b = b} {m = m} (mid, n, makes, joins) rest goes sound = record {
  limits = record { node = m; variable = n } ∷ [];
  all = (b, record { mid = mid; makes = makes; joins = joins; rest = rest; goes = goes; sound = sound }, refl);
  nodes = refl;
}

all_then : (a b c : Parts) (level : ℕ) (ls ms : List Limit) → LimitsAll a b level ls → LimitsAll b c level ms → LimitsAll a c level (ls ++ ms)
all_then a b c level [] ms same q = subst (λ x. LimitsAll x c level ms) same q
all_then a b c level (l ∷ ls) ms (x, one, p) q = (x, one, all_then x b c level ls ms p q)

pub nodes_then : (ls ms : List Limit) → limit_nodes (ls ++ ms) ≡ limit_nodes ls ++ limit_nodes ms
nodes_then [] ms = refl
nodes_then (l ∷ ls) ms = ap (λ ns. l.node ∷ ns) (nodes_then ls ms)

-- some types are, and then others
pub limits_then : {a b c : Parts} {level : ℕ} {ms ns : List ℕ} → LimitsNodes a b level ms → LimitsNodes b c level ns → LimitsNodes a c level (ms ++ ns)
limits_then {a} {b} {c} {level} p q = record { limits = p.limits ++ q.limits; all = all_then a b c level p.limits q.limits p.all q.all; nodes = nodes_then p.limits q.limits ∙ (λ i. p.nodes i ++ q.nodes i) }

-- no type is generalised
pub generalises_none : (a : Parts) → GeneralisesAll a a []
generalises_none a = refl

-- one type is, as the clause of `generalise` says it
pub generalises_one : {a b : Parts} {n : ℕ} → (IsNode a.store.nodes n → Generalised a.store.nodes b.store.nodes n a.level) → OnlyStore a b → GeneralisesAll a b (n ∷ [])
generalises_one {b = b} bound rest = (b, record { bound = bound; rest = rest }, refl)

-- some types are, and then others
pub generalises_then : (a b c : Parts) (ms ns : List ℕ) → GeneralisesAll a b ms → GeneralisesAll b c ns → GeneralisesAll a c (ms ++ ns)
generalises_then a b c [] ns same q = subst (λ x. GeneralisesAll x c ns) same q
generalises_then a b c (m ∷ ms) ns (x, one, p) q = (x, one, generalises_then x b c ms ns p q)
