-- The trail of a store: what one more write keeps, and what rolling back brings back.
use Rattle.std.proofs.Common.{◌≡◌, ℕ, zero, suc, ◌-◌, ◌≤◌, List, [], ◌∷◌, ◌++◌, length, take, drop, map, set, Some, refl, sym, ◌∙◌, ap, subst, arith, ◌⊎◌, inl, inr}
use Rattle.std.specs.Prelude.{slice_get}
use Rattle.std.proofs.Math.Seq.{take-append_seam}
use Rattle.undo_trail.specs.Undoing.{all_undone}
use Rattle.undo_trail.proofs.Undone.{undone-push, undone_in_steps}
use Rattle.type_nodes.specs.Nodes.{Node, IsSound, IsPlainNode, IsPlain}
use Rattle.type_nodes.specs.States.{Change, Made, Was, State, state, undone, state_at, IsStore, Keeps, Restored}
use Rattle.type_nodes.specs.Changes.{Added, Replaced}
use Rattle.type_nodes.proofs.Lists.{set-set_back, drop_all, length-snoc, length-take_le, take_whole, take-take}
use Rattle.type_nodes.proofs.Plain.{added_plain, replaced_plain}

-- undoing the making of a node
pub undone_added : (nodes : List Node) (c : Node) → undone Made (nodes ++ c ∷ []) ≡ nodes
undone_added nodes c =
    let n = length-snoc nodes c in
    let e : length (nodes ++ c ∷ []) - 1 ≡ length nodes = omega arith in
    ap (λ k. take k (nodes ++ c ∷ [])) e ∙ take-append_seam nodes (c ∷ [])

-- undoing the writing of a node
pub undone_replaced : (nodes : List Node) (n : ℕ) (b c : Node) → slice_get nodes n ≡ Some b → undone (Was n b) (set nodes n c) ≡ nodes
undone_replaced nodes n b c h = set-set_back nodes n b c h

-- the state at the trail's end is the present one
pub state_now : (s : State) → state_at s (length s.trail) ≡ s.nodes
state_now s = ap (λ t. all_undone undone t s.nodes) (drop_all (length s.trail) s.trail (omega arith))

-- the present nodes are sound
pub sound_now : (s : State) → IsStore s → IsSound s.nodes
sound_now s h = subst IsSound (state_now s) (h.sound (length s.trail) (omega arith))

-- the present nodes are plain
pub plain_now : (s : State) → IsStore s → IsPlain s.nodes
plain_now s h = subst IsPlain (state_now s) (h.plain (length s.trail) (omega arith))

-- one more write, which undoes to the nodes before, keeps the states at the marks before it
pub pushed_states : (old new : State) (w : Change) → new.trail ≡ old.trail ++ w ∷ [] → undone w new.nodes ≡ old.nodes →
    (mark : ℕ) → mark ≤ length old.trail → state_at new mark ≡ state_at old mark
pushed_states old new w t u mark h =
    ap (λ l. all_undone undone (drop mark l) new.nodes) t ∙ undone-push undone mark old.trail w old.nodes new.nodes h u

pub pushed_keeps : (old new : State) (w : Change) → new.trail ≡ old.trail ++ w ∷ [] → undone w new.nodes ≡ old.nodes → Keeps old new
pushed_keeps old new w t u = record {
  longer = let n = ap length t ∙ length-snoc old.trail w in omega arith;
  before = ap (take (length old.trail)) t ∙ take-append_seam old.trail (w ∷ []);
  states = pushed_states old new w t u;
}

le_cases : (m n : ℕ) → m ≤ suc n → (m ≤ n) ⊎ (m ≡ suc n)
le_cases m n h = grind arith

-- what held at the marks before and holds of the new nodes, holds at each mark behind one more write
pushed_at : (P : List Node → Type 0) (old new : State) (w : Change) → new.trail ≡ old.trail ++ w ∷ [] → undone w new.nodes ≡ old.nodes →
    ((mark : ℕ) → mark ≤ length old.trail → P (state_at old mark)) → P new.nodes → (mark : ℕ) → mark ≤ length new.trail → P (state_at new mark)
pushed_at P old new w t u before now mark h =
    let len : length new.trail ≡ suc (length old.trail) = ap length t ∙ length-snoc old.trail w in
    elim (le_cases mark (length old.trail) (omega arith)) [
      | inl le ↦ subst P (sym (pushed_states old new w t u mark le)) (before mark le)
      | inr eq ↦ subst P (sym (state_now new) ∙ ap (state_at new) (len ∙ sym eq)) now
    ]

-- one more write leaves a store, where the new nodes are sound and plain
pub pushed_store : (old new : State) (w : Change) → new.trail ≡ old.trail ++ w ∷ [] → undone w new.nodes ≡ old.nodes → IsStore old → IsSound new.nodes → IsPlain new.nodes → IsStore new
pushed_store old new w t u store sound plain = record {
  sound = pushed_at IsSound old new w t u store.sound sound;
  plain = pushed_at IsPlain old new w t u store.plain plain;
}

pub added_keeps : (old new : State) (n : ℕ) (c : Node) → Added old new n c → Keeps old new
added_keeps old new n c a = pushed_keeps old new Made a.trail (ap (undone Made) a.nodes ∙ undone_added old.nodes c)

pub added_store : (old new : State) (n : ℕ) (c : Node) → Added old new n c → IsStore old → IsPlainNode c → IsSound (old.nodes ++ c ∷ []) → IsStore new
added_store old new n c a store plain sound =
    pushed_store old new Made a.trail (ap (undone Made) a.nodes ∙ undone_added old.nodes c) store (subst IsSound (sym a.nodes) sound)
    (subst IsPlain (sym a.nodes) (added_plain old.nodes c plain (plain_now old store)))

pub replaced_keeps : (old new : State) (n : ℕ) (c : Node) → Replaced old new n c → Keeps old new
replaced_keeps old new n c r = pushed_keeps old new (Was n r.before) r.trail (ap (undone (Was n r.before)) r.nodes ∙ undone_replaced old.nodes n r.before c r.was)

pub replaced_store : (old new : State) (n : ℕ) (c : Node) → Replaced old new n c → IsStore old → IsPlainNode c → IsSound (set old.nodes n c) → IsStore new
replaced_store old new n c r store plain sound =
    pushed_store old new (Was n r.before) r.trail (ap (undone (Was n r.before)) r.nodes ∙ undone_replaced old.nodes n r.before c r.was) store (subst IsSound (sym r.nodes) sound)
    (subst IsPlain (sym r.nodes) (replaced_plain old.nodes n r.before c r.was plain (plain_now old store)))

-- nothing written keeps all
pub keeps_refl : (s : State) → Keeps s s
keeps_refl s = record { longer = omega arith; before = take_whole s.trail; states = λ m h. refl }

pub keeps_same : (old new : State) → new ≡ old → Keeps old new
keeps_same old new e = subst (λ s. Keeps old s) (sym e) (keeps_refl old)

-- undoing writes of the code is undoing what they mean
pub all_undone-map : {W : Type 0} (f : W → Change) (ws : List W) (nodes : List Node) → all_undone (λ w. undone (f w)) ws nodes ≡ all_undone undone (map f ws) nodes
all_undone-map f [] nodes = refl
all_undone-map f (w ∷ ws) nodes = ap (undone (f w)) (all_undone-map f ws nodes)

-- the state after undoing to a mark
pub restored_at : (old new : State) (mark : ℕ) → new.nodes ≡ state_at old mark → new.trail ≡ take mark old.trail → Restored old new mark
restored_at old new mark p q = record {
  nodes = p;
  trail = q;
  states = λ m h.
      (λ i. all_undone undone (drop m (q i)) (p i)) ∙ undone_in_steps undone m mark old.trail old.nodes h;
}

-- what held at each mark does after undoing to one
restored_each : (P : List Node → Type 0) (old new : State) (mark : ℕ) → mark ≤ length old.trail → Restored old new mark →
    ((m : ℕ) → m ≤ length old.trail → P (state_at old m)) → (m : ℕ) → m ≤ length new.trail → P (state_at new m)
restored_each P old new mark h r before m k =
    let n : length new.trail ≡ mark = ap length r.trail ∙ length-take_le mark old.trail h in
    let le : m ≤ mark = omega arith in
    subst P (sym (r.states m le)) (before m (omega arith))

pub restored_store : (old new : State) (mark : ℕ) → mark ≤ length old.trail → Restored old new mark → IsStore old → IsStore new
restored_store old new mark h r store = record {
  sound = restored_each IsSound old new mark h r store.sound;
  plain = restored_each IsPlain old new mark h r store.plain;
}

-- a store without nodes
pub empty_store : IsStore (state [] [])
empty_store = record { sound = λ mark h. at mark h; plain = λ mark h. plain_at mark h }
  where
    plain_at : (mark : ℕ) → mark ≤ 0 → IsPlain (all_undone undone (drop mark []) [])
    plain_at zero h = record { each = λ n c e. absurd (cc) }
    plain_at (suc m) h = absurd (omega arith)

    at : (mark : ℕ) → mark ≤ 0 → IsSound (all_undone undone (drop mark []) [])
    at zero h = ((λ n. 0), record { each = λ n c e. absurd (cc) })
    at (suc m) h = absurd (omega arith)

-- rolling back to where a change began, which kept the states, gives the store before it
pub restored_whole : (old mid new : State) → Keeps old mid → Restored mid new (length old.trail) → new ≡ old
restored_whole old mid new keeps back =
    let nodes : new.nodes ≡ old.nodes = back.nodes ∙ keeps.states (length old.trail) (omega arith) ∙ state_now old in
    let trail : new.trail ≡ old.trail = back.trail ∙ keeps.before in
    λ i. record { nodes = nodes i; trail = trail i }

-- one change after another keeps the states
pub keeps_trans : (a b c : State) → Keeps a b → Keeps b c → Keeps a c
keeps_trans a b c p q = record {
  longer = let x = p.longer in let y = q.longer in omega arith;
  before = sym (take-take (length a.trail) (length b.trail) c.trail p.longer) ∙ ap (take (length a.trail)) q.before ∙ p.before;
  states = λ m h. q.states m (let x = p.longer in omega arith) ∙ p.states m h;
}
