-- Holding a type at a level: its variables are of at most that level, and a `let` around it doesn't generalise them.
use Rattle.std.proofs.Common.{◌≡◌, ◌≢◌, ℕ, zero, suc, ◌<◌, ◌≤◌, true, false, List, [], ◌∷◌, ◌++◌, length, Some, refl, ◌∙◌, ap, subst, arith}
use Rattle.std.specs.Prelude.{slice_get}
use Rattle.type_model.specs.Types.{occurs}
use Rattle.type_model.specs.Limits.{no_scope}
use Rattle.type_model.proofs.Applying.{or_left, eqb_same}
use Rattle.typing_laws.proofs.Bools.{no_yes}
use Rattle.type_nodes.specs.Nodes.{Node, Var, bound_level}
use Rattle.type_nodes.specs.Readings.{Types}
use Rattle.type_nodes.specs.States.{State}
use Rattle.type_nodes.specs.Changes.{Makes}
use Rattle.type_nodes.proofs.Lists.{get-append_last, length-snoc}
use Rattle.level_unify.specs.Solutions.{Loose, HaveNoBound}
use Rattle.level_unify.specs.Unification.{Unified}
use Rattle.typing_conditions.specs.Locals.{IsOwn, stands_in_any, Within, Local}
use Rattle.typing_conditions.proofs.Steps.{local_then, local_unified}
use Rattle.typing_conditions.proofs.Instances.{local_node, local_more, new_within}
use Rattle.level_unify.specs.Limits.{FitsUnder}
use Rattle.level_unify.proofs.Unified.{fits_under}
use Rattle.typing_conditions.proofs.Fresh.{own_fits}

-- where a new node is
made_at : (old new : State) (n : ℕ) (c : Node) → Makes old new n c → slice_get new.nodes n ≡ Some c
made_at old new n c made = ap (λ ns. slice_get ns n) made.added.nodes ∙ ap (slice_get (old.nodes ++ c ∷ [])) made.added.number ∙ get-append_last old.nodes c

made_in : (old new : State) (n : ℕ) (c : Node) → Makes old new n c → n < length new.nodes
made_in old new n c made = let a = made.added.number in let b = ap length made.added.nodes ∙ length-snoc old.nodes c in omega (arith, a, b)

-- Holding a type at a level: a new variable f of the level is made one with r. It is a step of a group at the next level, in which f is held.
module _ (old mid : State) (new : List Node) (I J K : Types) (f r level : ℕ) (H : ℕ → List ℕ) (before : IsOwn old.nodes I) (between : IsOwn mid.nodes J) (after : IsOwn new K)
    (made : Makes old mid f (Var level no_scope)) (free : level ≢ bound_level)
    (one : Unified mid.nodes new f r) (none : HaveNoBound mid.nodes f r) (tight : (V : Types) → Loose new V → Loose mid.nodes V)
    (inside : r < length mid.nodes)
    (held : (k u : ℕ) → level ≤ k → stands_in_any J (f ∷ []) u ≡ true → stands_in_any J (H k) u ≡ true) where
  hold_var : Local old.nodes mid.nodes I J [] H (suc level)
  hold_var = local_node old mid f (Var level no_scope) I J H (suc level) before between made (λ k l o lt e le.
      held k f (let s : level ≡ l = cc in omega arith) (or_left (occurs f (J f)) false (ap (occurs f) (between.vars f level no_scope (made_at old mid f (Var level no_scope) made)) ∙ eqb_same f)))

  hold_one : Local mid.nodes new J K (f ∷ r ∷ []) H (suc level)
  hold_one = local_more mid.nodes new J K (f ∷ r ∷ []) (f ∷ r ∷ []) (λ k. []) H (suc level) (suc level) after (omega arith) (λ k c e. (k, e)) (λ k u lt h. absurd (no_yes h))
      (local_unified mid.nodes new J K f r (suc level) between after one none tight)

  -- what stands in the type is of at most the level then
  pub held_is_low : (v l o : ℕ) → occurs v (K r) ≡ true → slice_get new v ≡ Some (Var l o) → l ≤ level
  held_is_low v l o h e =
      let same : K f ≡ K r = (one.fitted (λ x. 0) K own_under).1 in
      hold_one.refines.falls f level no_scope v l o (made_at old mid f (Var level no_scope) made) free e (ap (occurs v) same ∙ h)
    where
      own_under : FitsUnder (λ x. 0) new K
      own_under = fits_under new K (own_fits new K after)

  -- holding touches only the type and the new variable
  pub local_held : (C : List ℕ) → ((k c : ℕ) → slice_get (r ∷ []) k ≡ Some c → Within old.nodes C c) → Local old.nodes new I K C H (suc level)
  local_held C within = local_then old.nodes mid.nodes new I J K C (f ∷ r ∷ []) H H (suc level) before between after
      (local_more old.nodes mid.nodes I J [] C H H (suc level) (suc level) between (omega arith) (λ k c e. absurd (none_there k c e)) (λ k u lt h. h) hold_var) hold_one both (λ k u lt h. h)
    where
      none_there : (k c : ℕ) → slice_get [] k ≡ Some c → ⊥
      none_there k c e = cc

      both : (k d : ℕ) → slice_get (f ∷ r ∷ []) k ≡ Some d → Within old.nodes C d × (d < length mid.nodes)
      both zero d e = let s : f ≡ d = cc in (subst (Within old.nodes C) s (new_within old.nodes C f (let a = made.added.number in omega arith)), subst (λ j. j < length mid.nodes) s (made_in old mid f (Var level no_scope) made))
      both (suc zero) d e = let s : r ≡ d = cc in (subst (Within old.nodes C) s (within zero r refl), subst (λ j. j < length mid.nodes) s inside)
      both (suc (suc k)) d e = absurd (cc)
