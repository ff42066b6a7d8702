-- What rolling back to a mark brings back.
use Rattle.std.proofs.Common.{◌≡◌, ◌∙◌, ℕ, length, ap, subst, arith}
use Rattle.type_nodes.specs.States.{State, state, Keeps, Restored}
use Rattle.type_nodes.proofs.Trails.{state_now}

same_state : (a b : State) → a.nodes ≡ b.nodes → a.trail ≡ b.trail → a ≡ b
same_state a b p q = ap (λ n. state n a.trail) p ∙ ap (state b.nodes) q

-- back at the end of a trail from before, all is as it was then
pub restored_same : (old mid new : State) (mark : ℕ) → mark ≡ length old.trail → Keeps old mid → Restored mid new mark → new ≡ old
restored_same old mid new mark e k r =
    let at_end : Restored mid new (length old.trail) = subst (Restored mid new) e r in
    same_state new old (at_end.nodes ∙ k.states (length old.trail) (omega arith) ∙ state_now old) (at_end.trail ∙ k.before)
