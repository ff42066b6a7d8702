-- New nodes, the parts of which are new, and of which one is generalised: the nodes of before are as they were.
use Rattle.std.proofs.Common.{◌≡◌, ◌∙◌, ℕ, ◌≤◌, nat_le, List, length, get_or, Some, sym, ap, subst, arith, inl, inr}
use Rattle.std.specs.Prelude.{slice_get, All}
use Rattle.std.proofs.lemmas.Option.{slice_get_within}
use Rattle.type_nodes.specs.Nodes.{Node, Var, bound_level, parts, IsClosed}
use Rattle.type_nodes.specs.Readings.{Types, IsReading}
use Rattle.type_nodes.specs.States.{State}
use Rattle.type_nodes.specs.Changes.{Makes}
use Rattle.type_nodes.proofs.Lists.{get-append_cases}
use Rattle.level_unify.specs.Generalising.{Generalised}
use Rattle.level_unify.proofs.Steps.{cell_at}
use Rattle.typing_conditions.proofs.Making.{makes_extends}
use Rattle.typing_conditions.proofs.Steps.{Grows}
use Rattle.typing_conditions.proofs.Regions.{is_new, new_is}

-- nodes from a number on have parts from it on
pub record NewParts (k : ℕ) (nodes : List Node) : Type 0 where
  pub each : (n : ℕ) (c : Node) → k ≤ n → slice_get nodes n ≡ Some c → All (λ m. k ≤ m) (parts c)

-- there are none yet
pub new_none : (nodes : List Node) → NewParts (length nodes) nodes
new_none nodes = record { each = λ n c le e. absurd (let p = slice_get_within nodes n c e in omega arith) }

-- one node more
pub new_more : (old new : State) (k n : ℕ) (c : Node) → NewParts k old.nodes → Makes old new n c → All (λ m. k ≤ m) (parts c) → NewParts k new.nodes
new_more old new k n c news made h = record {
  each = λ m x le e. elim (get-append_cases old.nodes c m x (ap (λ xs. slice_get xs m) (sym made.added.nodes) ∙ e)) [
    | inl f ↦ news.each m x le f
    | inr (p, q) ↦ subst (λ d. All (λ j. k ≤ j) (parts d)) (sym q) h
  ];
}

-- where one node is made those of before are as they were
pub grows_made : (old new : State) (n : ℕ) (c : Node) → Makes old new n c → Grows old.nodes new.nodes
grows_made old new n c made = let x = makes_extends old new n c made in record { longer = x.longer; node = x.node }

-- one step after another
pub grows_then : (old mid new : List Node) → Grows old mid → Grows mid new → Grows old new
grows_then old mid new p q = record { longer = let l = p.longer in let l' = q.longer in omega arith; node = λ n lt. q.node n (let l = p.longer in omega arith) ∙ p.node n lt }

-- Generalising a new type binds new variables alone.
pub grows_closed : (old mid new : List Node) (r level : ℕ) → Grows old mid → NewParts (length old) mid → length old ≤ r → Generalised mid new r level → Grows old new
grows_closed old mid new r level grows news above g = record {
  longer = let e = g.len in let l = grows.longer in omega arith;
  node = λ n lt.
      let (c, e) = cell_at mid n (let l = grows.longer in omega arith) in
      g.stays n c e (λ h stands. let le = is_new (length old) n (stands.each (nat_le (length old)) closed (new_is (length old) r above)) in absurd (omega arith)) ∙ sym e ∙ grows.node n lt;
}
  where
    closed : IsClosed mid (nat_le (length old))
    closed = record { each = λ n c has e k d lt. new_is (length old) (get_or (parts c) k d) (news.each n c (is_new (length old) n has) e k d lt) }

-- a reading of the grown store is one of that of before
pub reads_grown : (old new : List Node) → Grows old new → (V : Types) → IsReading new V → IsReading old V
reads_grown old new grows V reads = record {
  fits = record { each = λ n c e. reads.fits.each n c (still n c e) };
  own = λ n scope e. reads.own n scope (still n (Var bound_level scope) e);
  apart = λ n level scope b scope' e free e'. reads.apart n level scope b scope' (still n (Var level scope) e) free (still b (Var bound_level scope') e');
}
  where
    still : (n : ℕ) (c : Node) → slice_get old n ≡ Some c → slice_get new n ≡ Some c
    still n c e = grows.node n (slice_get_within old n c e) ∙ e
