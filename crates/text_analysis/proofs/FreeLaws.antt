-- The variables that were found for each item, while items are typed and while typing goes back to a point.
use Rattle.std.proofs.Common.{◌≡◌, ◌∙◌, ℕ, zero, suc, ◌+◌, ◌≤◌, List, [], ◌∷◌, ◌++◌, length, take, refl, sym, ap, subst, inl, inr, arith}
use Rattle.std.proofs.lemmas.List.{map-append}
use Rattle.std.specs.declared.vec.Vec.{Vec}
use Rattle.std.specs.declared.alloc.Global.{Global}
use Rattle.tree_model.specs.Trees.{Tree}
use Rattle.type_terms.specs.declared.types.NodeRef.{NodeRef}
use Rattle.type_nodes.specs.Nodes.{Node}
use Rattle.type_nodes.specs.States.{state_at}
use Rattle.type_nodes.specs.Views.{numbers}
use Rattle.type_nodes.proofs.Trails.{state_now}
use Rattle.type_nodes.proofs.Lists.{get-append_left, get-append_last, get-append_cases}
use Rattle.env_table.specs.declared.entries.Entry.{Entry}
use Rattle.typing_state.specs.declared.parts.Parts.{Parts}
use Rattle.module_steps.specs.declared.scenes.Scene.{Scene}
use Rattle.weak_variables.specs.Search.{lists_of}
use Rattle.weak_variables.proofs.Listing.{none_listed}
use Rattle.text_analysis.specs.declared.point.Point.{Point}
use Rattle.text_analysis.specs.declared.typed_items.TypedItems.{TypedItems}
use Rattle.text_analysis.specs.Points.{IsPointOf, ArePoints, GoesBack, GoesOnFrom}
use Rattle.text_analysis.specs.Weak.{HasFree, AreFreeAt}
use Rattle.text_analysis.proofs.PointLaws.{take_whole, take_left, take_twice, within, last_point, get_front}

pub take_all : {A : Type 0} (n : ℕ) (xs : List A) → length xs ≡ n → take n xs ≡ xs
take_all n xs e = ap (λ k. take k xs) (sym e) ∙ take_whole xs

-- lists of the first ones
pub lists_take : (k : ℕ) (vs : List (Vec NodeRef Global)) → lists_of (take k vs) ≡ take k (lists_of vs)
lists_take zero vs = refl
lists_take (suc k) [] = refl
lists_take (suc k) (v ∷ vs) = ap (λ nss. numbers v.items ∷ nss) (lists_take k vs)

pub length_lists : (vs : List (Vec NodeRef Global)) → length (lists_of vs) ≡ length vs
length_lists [] = refl
length_lists (v ∷ vs) = ap suc (length_lists vs)

pub lists_grown : (vs ws : List (Vec NodeRef Global)) → take (length vs) ws ≡ vs → take (length (lists_of vs)) (lists_of ws) ≡ lists_of vs
lists_grown vs ws e = ap (λ k. take k (lists_of ws)) (length_lists vs) ∙ sym (lists_take (length vs) ws) ∙ ap lists_of e

pub lists_last : (vs ws : List (Vec NodeRef Global)) (v : Vec NodeRef Global) → ws ≡ vs ++ v ∷ [] → lists_of ws ≡ lists_of vs ++ numbers v.items ∷ []
lists_last vs ws v e = ap lists_of e ∙ map-append (λ (w : Vec NodeRef Global). numbers w.items) vs (v ∷ [])

-- what is known of found variables is by the items, the nodes, the names and the lists alone
pub free_as : {first : Parts} {env : List Entry} {items items' : List Tree} {nodes nodes' : List Node} {now now' : List Entry} {free free' : List (List ℕ)} → items ≡ items' → nodes ≡ nodes' → now ≡ now' → free ≡ free' → HasFree first env items nodes now free → HasFree first env items' nodes' now' free'
free_as {first} {env} {items} {items'} {nodes} {nodes'} {now} {now'} {free} {free'} i n e f h =
    subst (λ ts. HasFree first env ts nodes' now' free') i (subst (λ ns. HasFree first env items ns now' free') n (subst (λ es. HasFree first env items nodes es free') e (subst (HasFree first env items nodes now) f h)))

-- before the first item
pub free_none : (first : Parts) (env now : List Entry) → now ≡ env → HasFree first env [] first.store.nodes now []
free_none first env now same = subst (λ es. HasFree first env [] first.store.nodes es []) (sym same) (record { counted = refl; listed = λ opens carried keeps. none_listed first.store.nodes env })

pub free_at_none : (first : Parts) (env : List Entry) (items : List Tree) (free : List (List ℕ)) (at : Parts) → AreFreeAt first env items free [] at
free_at_none first env items free at = record { each = λ k p h. absurd (cc) }

-- a point more, of the present state
pub free_more : {first : Parts} {env : List Entry} {items : List Tree} {free : List (List ℕ)} {ps : List Point} {at : Parts} {now : Scene} {plain : _} (p : Point) (number : ℕ) → AreFreeAt first env items free ps at → length ps ≡ length items → HasFree first env items at.store.nodes now.env free → IsPointOf p number at now plain →
    AreFreeAt first env items free (ps ++ p ∷ []) at
free_more {first} {env} {items} {free} {ps} {at} {now} p number are counted has is = record {
  each = λ k q h. elim (get-append_cases ps p k q h) [
    | inl e ↦ are.each k q e
    | inr (e, same) ↦
        let place : k ≡ length items = e ∙ counted in
        let long = has.counted in
        subst (λ x. HasFree first env (take k items) (state_at at.store x.mark.0) x.env (take k free)) (sym same)
        (free_as (sym (take_all k items (sym place))) (sym (ap (state_at at.store) is.mark ∙ state_now at.store)) (sym is.scope) (sym (take_all k free (long ∙ sym place))) has)
  ];
}

-- typing goes on, and more may be found
pub free_goes : {first : Parts} {env : List Entry} {free free' : List (List ℕ)} {ps : List Point} {a d : Parts} (items : List Tree) (number : ℕ) → ArePoints first env items ps a → AreFreeAt first env items free ps a → GoesOnFrom a number d → take (length free) free' ≡ free → length ps ≤ length free + 1 →
    AreFreeAt first env items free' ps d
free_goes {first} {env} {free} {free'} {ps} {a} {d} items number points are on grown few = record {
  each = λ k p h.
      let inside : p.mark.0 ≤ length a.store.trail = (points.each k p h).within in
      let lt = within ps k p h in
      free_as refl
      (sym (on.goes.store.states p.mark.0 (subst (λ s. p.mark.0 ≤ length s.trail) (sym on.store) inside) ∙ ap (λ s. state_at s p.mark.0) on.store)) refl
      (ap (take k) (sym grown) ∙ take_twice k (length free) free' (omega arith)) (are.each k p h);
}

-- one item more
pub free_before : {first : Parts} {env : List Entry} {free : List (List ℕ)} {ps : List Point} {at : Parts} (items : List Tree) (t : Tree) → AreFreeAt first env items free ps at → length ps ≤ length items + 1 → AreFreeAt first env (items ++ t ∷ []) free ps at
free_before items t are few = record { each = λ k p h. free_as (sym (take_left k items (t ∷ []) (let w = within _ k p h in omega arith))) refl refl refl (are.each k p h) }

-- the first items, and the points up to the one after them
pub free_cut : {first : Parts} {env : List Entry} {free : List (List ℕ)} {ps : List Point} {at : Parts} (items : List Tree) (n : ℕ) → AreFreeAt first env items free ps at → AreFreeAt first env (take n items) free (take (n + 1) ps) at
free_cut {ps = ps} items n are = record { each = λ k q h. let r = get_front (n + 1) ps k q h in free_as (sym (take_twice k n items (let e = r.0 in omega arith))) refl refl refl (are.each k q r.1) }

-- typing goes back to the last point
pub free_back : {first : Parts} {env : List Entry} {a b : Parts} (items : List Tree) (free : List (List ℕ)) (ps : List Point) (p : Point) (now : List Entry) → ArePoints first env items (ps ++ p ∷ []) a → AreFreeAt first env items free (ps ++ p ∷ []) a → length ps ≡ length items → GoesBack p a b → now ≡ p.env →
    HasFree first env items b.store.nodes now (take (length items) free) × AreFreeAt first env items (take (length items) free) ps b
free_back {first} {env} {a} {b} items free ps p now points are few back scope = (
  free_as (take_all (length ps) items (sym few)) (sym (back.store last).nodes) (sym scope) (ap (λ k. take k free) few) (are.each (length ps) p (get-append_last ps p)),
  record {
    each = λ k q h.
        let lt = within ps k q h in
        let here = get-append_left ps (p ∷ []) k lt ∙ h in
        free_as refl (sym ((back.store last).states q.mark.0 (points.ordered k (length ps) q p lt here (get-append_last ps p)).mark)) refl (sym (take_twice k (length items) free (omega arith))) (are.each k q here);
  },
)
  where
    last : p.mark.0 ≤ length a.store.trail
    last = (last_point ps p points).within

-- typing goes on from where an item was begun
pub found_go : {first : Parts} {env : List Entry} {ps : List Point} (old new : TypedItems) (items : List Tree) (number : ℕ) → ArePoints first env items ps old.parts × (length ps ≡ length items + 1) × AreFreeAt first env items (lists_of old.free.items) ps old.parts → GoesOnFrom old.parts number new.parts →
    take (length old.free.items) new.free.items ≡ old.free.items → length (lists_of old.free.items) ≡ length items → AreFreeAt first env items (lists_of new.free.items) ps new.parts
found_go old new items number (points, count, are) on grown counted = free_goes items number points are on (lists_grown old.free.items new.free.items grown) (omega arith)
