-- Stores without a bound variable.
use Rattle.std.proofs.Common.{◌≡◌, ◌≢◌, ℕ, zero, suc, ◌+◌, true, List, [], ◌∷◌, length, refl, sym, ◌∙◌, ap, subst, arith, inl, inr}
use Rattle.std.specs.Prelude.{All}
use Rattle.type_nodes.specs.Nodes.{Node, Var, Rigid, Arrow, Tuple, Con, bound_level}
use Rattle.type_nodes.specs.States.{State, state}
use Rattle.type_nodes.specs.Changes.{Makes}
use Rattle.type_nodes.proofs.Lists.{get-append_cases, length-snoc}
use Rattle.level_unify.specs.Solutions.{AllFree, HaveNoBound}

pub free_none : AllFree []
free_none = record { each = λ n level scope e. absurd (cc) }

-- one node more
pub free_more : (old new : State) (n : ℕ) (c : Node) → AllFree old.nodes → Makes old new n c → ((level scope : ℕ) → c ≡ Var level scope → level ≢ bound_level) → AllFree new.nodes
free_more old new n c free made own = subst AllFree (sym made.added.nodes) (record {
  each = λ m level scope e. elim (get-append_cases old.nodes c m (Var level scope) e) [
    | inl f ↦ free.each m level scope f
    | inr (p, q) ↦ own level scope (sym q)
  ];
})

pub no_bound : (nodes : List Node) (a b : ℕ) → AllFree nodes → HaveNoBound nodes a b
no_bound nodes a b free = record {
  set = λ n. true;
  closed = record { each = λ n c has e k d lt. refl };
  left = refl;
  right = refl;
  free = λ n level scope has e. free.each n level scope e;
}

pub longer : (old new : State) (n : ℕ) (c : Node) → Makes old new n c → length new.nodes ≡ length old.nodes + 1
longer old new n c made = let e = ap length made.added.nodes ∙ length-snoc old.nodes c in omega arith

pub free_var : (old new : State) (n level scope : ℕ) → AllFree old.nodes → Makes old new n (Var level scope) → level ≢ bound_level → AllFree new.nodes
free_var old new n level scope free made open' = free_more old new n (Var level scope) free made (λ l o e. let f : level ≡ l = cc in λ b. open' (f ∙ b))

pub free_rigid : (old new : State) (n : ℕ) → AllFree old.nodes → Makes old new n Rigid → AllFree new.nodes
free_rigid old new n free made = free_more old new n Rigid free made (λ l o e. absurd (cc))

pub free_arrow : (old new : State) (n a b : ℕ) → AllFree old.nodes → Makes old new n (Arrow a b) → AllFree new.nodes
free_arrow old new n a b free made = free_more old new n (Arrow a b) free made (λ l o e. absurd (cc))

pub free_tuple : (old new : State) (n : ℕ) (ms : List ℕ) → AllFree old.nodes → Makes old new n (Tuple ms) → AllFree new.nodes
free_tuple old new n ms free made = free_more old new n (Tuple ms) free made (λ l o e. absurd (cc))

pub free_con : (old new : State) (n : ℕ) (p name ms : List ℕ) → AllFree old.nodes → Makes old new n (Con p name ms) → AllFree new.nodes
free_con old new n p name ms free made = free_more old new n (Con p name ms) free made (λ l o e. absurd (cc))

pub free_start : (s : State) → s ≡ state [] [] → AllFree s.nodes
free_start s e = subst (λ x. AllFree x.nodes) (sym e) free_none

-- the levels of the tests
pub one_free : 1 ≢ bound_level
one_free e = cc

pub two_free : 2 ≢ bound_level
two_free e = cc

-- a tuple of one node twice
pub both_inside : (P : ℕ → Type 0) (n : ℕ) → P n → All P (n ∷ n ∷ [])
both_inside P n h zero d lt = h
both_inside P n h (suc zero) d lt = h
both_inside P n h (suc (suc k)) d lt = absurd (omega arith)
