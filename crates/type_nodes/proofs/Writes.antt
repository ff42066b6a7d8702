-- What one write does to a store, told by the nodes that read otherwise.
use Rattle.std.proofs.Common.{◌≡◌, ◌≢◌, ℕ, ◌<◌, Bool, true, false, eqb, List, [], ◌∷◌, ◌++◌, length, set, Some, refl, sym, ◌∙◌, ap, subst, arith, inl, inr}
use Rattle.std.proofs.lemmas.Bool.{eq-eqb, eqb-true}
use Rattle.std.specs.Prelude.{slice_get, All}
use Rattle.type_nodes.specs.Nodes.{Node, Var, Link, parts, IsSound, IsPlainNode, Apart}
use Rattle.type_nodes.specs.Links.{root, reading, IsNoLink, IsFree, IsVariable}
use Rattle.type_nodes.specs.States.{State, IsStore}
use Rattle.type_nodes.specs.Changes.{Added, Replaced, Makes, Redirects, Relevels}
use Rattle.type_nodes.proofs.Lists.{get-set_same, get-set_other, get-append_left, get-append_last, one_element, length-snoc}
use Rattle.type_nodes.proofs.Trails.{sound_now, added_store, replaced_store}
use Rattle.type_nodes.proofs.Ranks.{added_sound, relevelled_sound, redirected_sound}
use Rattle.type_nodes.proofs.Roots.{root_settled, root_inside, apart_root, apart_other, relevelled_root, added_root, added_own, EndsAfter, redirected_root}

-- a node that was made reads as itself, and the others as before
pub makes : (old new : State) (n : ℕ) (c : Node) → IsStore old → IsNoLink c → Added old new n c → Makes old new n c
makes old new n c store is a =
    let sound = sound_now old store in
    let end : root (old.nodes ++ c ∷ []) n ≡ n = subst (λ k. root (old.nodes ++ c ∷ []) k ≡ k) (sym a.number) (added_own old.nodes c is) in
    let at : slice_get (old.nodes ++ c ∷ []) n ≡ Some c = subst (λ k. slice_get (old.nodes ++ c ∷ []) k ≡ Some c) (sym a.number) (get-append_last old.nodes c) in
    let same : (m : ℕ) → m < length old.nodes → root new.nodes m ≡ root old.nodes m = λ m lt. ap (λ ns. root ns m) a.nodes ∙ added_root old.nodes c sound m lt in
    record {
      added = a;
      own = ap (λ ns. root ns n) a.nodes ∙ end;
      reads = ap (λ ns. reading ns n) a.nodes ∙ ap (slice_get (old.nodes ++ c ∷ [])) end ∙ at;
      others = same;
      others_read = λ m lt.
          ap (slice_get new.nodes) (same m lt) ∙ ap (λ ns. slice_get ns (root old.nodes m)) a.nodes
          ∙ get-append_left old.nodes (c ∷ []) (root old.nodes m) (root_inside old.nodes sound m lt);
    }

pub makes_store : (old new : State) (n : ℕ) (c : Node) → IsStore old → All (λ m. m < length old.nodes) (parts c) → IsPlainNode c → Added old new n c → IsStore new
makes_store old new n c store inside plain a = added_store old new n c a store plain (added_sound old.nodes c inside (sound_now old store))

-- a level and a scope that were written are those of the variable, and the others are as before
pub relevels : (old new : State) (v level scope : ℕ) → IsStore old → IsVariable old.nodes v → Replaced old new (root old.nodes v) (Var level scope) → Relevels old new v level scope
relevels old new v level scope store var w =
    let r = root old.nodes v in
    let ends : (m : ℕ) → root new.nodes m ≡ root old.nodes m =
    λ m. ap (λ ns. root ns m) w.nodes ∙ relevelled_root old.nodes r (Var var.level var.scope) (Var level scope) var.reads tt tt m in
    record {
      written = w;
      ends = ends;
      reads = λ m lt same.
          ap (slice_get new.nodes) (ends m ∙ same) ∙ ap (λ ns. slice_get ns r) w.nodes ∙ get-set_same old.nodes r (Var var.level var.scope) (Var level scope) var.reads;
      others_read = λ m other.
          ap (slice_get new.nodes) (ends m) ∙ ap (λ ns. slice_get ns (root old.nodes m)) w.nodes
          ∙ get-set_other old.nodes r (root old.nodes m) (Var level scope) other;
    }

pub relevels_store : (old new : State) (v level scope : ℕ) → IsStore old → Replaced old new (root old.nodes v) (Var level scope) → IsStore new
relevels_store old new v level scope store w =
    replaced_store old new (root old.nodes v) (Var level scope) w store tt (relevelled_sound old.nodes (root old.nodes v) level scope w.before w.was (sound_now old store))

-- a root that was linked to another reads as that, and the others read as before
pub redirected_is_sound : (old new : State) (a b : ℕ) → IsStore old → b < length old.nodes → Apart old.nodes (root old.nodes a) b →
    Replaced old new (root old.nodes a) (Link (root old.nodes b)) → IsSound (set old.nodes (root old.nodes a) (Link (root old.nodes b)))
redirected_is_sound old new a b store b_in apart w =
    let sound = sound_now old store in
    redirected_sound old.nodes (root old.nodes a) (root old.nodes b) w.before w.was (root_inside old.nodes sound b b_in) (apart_root old.nodes (root old.nodes a) b apart) sound

-- where each node ends after that
ends_after : (old new : State) (a b : ℕ) → IsStore old → a < length old.nodes → b < length old.nodes → Apart old.nodes (root old.nodes a) b →
    Replaced old new (root old.nodes a) (Link (root old.nodes b)) →
    (m : ℕ) → m < length old.nodes → EndsAfter old.nodes (set old.nodes (root old.nodes a) (Link (root old.nodes b))) (root old.nodes a) (root old.nodes b) m
ends_after old new a b store a_in b_in apart w m lt =
    let sound = sound_now old store in
    redirected_root old.nodes (root old.nodes a) (root old.nodes b) w.before sound (redirected_is_sound old new a b store b_in apart w) w.was
    (root_settled old.nodes sound a a_in) (root_settled old.nodes sound b b_in)
    (apart_other old.nodes (root old.nodes a) (root old.nodes b) (apart_root old.nodes (root old.nodes a) b apart)) m lt

pub redirects : (old new : State) (a b : ℕ) → IsStore old → a < length old.nodes → b < length old.nodes → Apart old.nodes (root old.nodes a) b →
    Replaced old new (root old.nodes a) (Link (root old.nodes b)) → Redirects old new a b
redirects old new a b store a_in b_in apart w =
    let r = root old.nodes a in
    let s = root old.nodes b in
    let other : r ≢ s = apart_other old.nodes r s (apart_root old.nodes r b apart) in
    let there : (m : ℕ) → m < length old.nodes → root old.nodes m ≡ r → root new.nodes m ≡ s =
    λ m lt same. elim (ends_after old new a b store a_in b_in apart w m lt) [ inl (p, q) ↦ ap (λ ns. root ns m) w.nodes ∙ q | inr (p, q) ↦ absurd (p same) ] in
    let away : (m : ℕ) → m < length old.nodes → root old.nodes m ≢ r → root new.nodes m ≡ root old.nodes m =
    λ m lt not. elim (ends_after old new a b store a_in b_in apart w m lt) [ inl (p, q) ↦ absurd (not p) | inr (p, q) ↦ ap (λ ns. root ns m) w.nodes ∙ q ] in
    record {
      written = w;
      ends = there;
      reads = λ m lt same. ap (slice_get new.nodes) (there m lt same) ∙ ap (λ ns. slice_get ns s) w.nodes ∙ get-set_other old.nodes r s (Link s) (λ e. other (sym e));
      others = away;
      others_read = λ m lt not.
          ap (slice_get new.nodes) (away m lt not) ∙ ap (λ ns. slice_get ns (root old.nodes m)) w.nodes ∙ get-set_other old.nodes r (root old.nodes m) (Link s) not;
    }

pub redirects_store : (old new : State) (a b : ℕ) → IsStore old → b < length old.nodes → Apart old.nodes (root old.nodes a) b →
    Replaced old new (root old.nodes a) (Link (root old.nodes b)) → IsStore new
redirects_store old new a b store b_in apart w =
    replaced_store old new (root old.nodes a) (Link (root old.nodes b)) w store tt (redirected_is_sound old new a b store b_in apart w)

-- a node that isn't bound is a variable at its root
pub free_variable : (nodes : List Node) (v : ℕ) → IsFree nodes v → IsVariable nodes v
free_variable nodes v f = record { level = f.level; scope = f.scope; reads = f.reads }

-- a node that was made is there, and so are those from before
pub made_inside : (old new : State) (n : ℕ) (c : Node) → Added old new n c → n < length new.nodes
made_inside old new n c a = let e = ap length a.nodes ∙ length-snoc old.nodes c in let f = a.number in omega arith

pub still_inside : (old new : State) (n : ℕ) (c : Node) → Added old new n c → (m : ℕ) → m < length old.nodes → m < length new.nodes
still_inside old new n c a m h = let e = ap length a.nodes ∙ length-snoc old.nodes c in omega arith

-- a node without parts has nothing occurring in it but itself
pub apart_leaf : (nodes : List Node) (v n : ℕ) (c : Node) → slice_get nodes n ≡ Some c → parts c ≡ [] → v ≢ n → Apart nodes v n
apart_leaf nodes v n c at none other = ((λ m. eqb m n), record { each = each }, eq-eqb n n refl, not_it (eqb v n) refl)
  where
    not_it : (b : Bool) → eqb v n ≡ b → eqb v n ≡ false
    not_it true e = absurd (other (eqb-true v n e))
    not_it false e = e

    each : (m : ℕ) (x : Node) → eqb m n ≡ true → slice_get nodes m ≡ Some x → All (λ k. eqb k n ≡ true) (parts x)
    each m x h e =
        let same : c ≡ x = one_element c x (slice_get nodes n) at (subst (λ k. slice_get nodes k ≡ Some x) (eqb-true m n h) e) in
        subst (λ y. All (λ k. eqb k n ≡ true) (parts y)) same (subst (λ ms. All (λ k. eqb k n ≡ true) ms) (sym none) (λ k d lt. absurd (omega arith)))
