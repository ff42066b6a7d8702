-- Types that fit the state where a declaration starts go on to the one after it: a declaration changes no variable of before.
use Rattle.std.proofs.Common.{◌≡◌, ◌∙◌, inl, inr, ℕ, ◌<◌, ◌≤◌, nat_lt, nat_le, Bool, true, false, List, length, Some, refl, sym, ap, subst, arith, if◌then◌else◌}
use Rattle.std.specs.Prelude.{slice_get}
use Rattle.std.proofs.lemmas.Bool.{leb-true}
use Rattle.std.proofs.lemmas.Option.{slice_get_within}
use Rattle.type_model.specs.Types.{Typ, occurs}
use Rattle.type_model.specs.Types.{Typ as type, Typs as typs}
use Rattle.type_model.specs.Substitutions.{apply}
use Rattle.type_model.specs.Limits.{IsInScope}
use Rattle.type_model.proofs.Applying.{or_cases, apply_agree, apply_leaves, eqb_same}
use Rattle.type_nodes.specs.Nodes.{Node, Var, Rigid, Link, Arrow, Tuple, Con}
use Rattle.type_nodes.specs.Readings.{Types, FitsNode, Fits}
use Rattle.type_nodes.proofs.Lists.{one_element}
use Rattle.level_unify.specs.Solutions.{FitsLoosely, Loose}
use Rattle.level_unify.proofs.Unified.{fits_loosely}
use Rattle.level_unify.proofs.Variants.{loose_apply}
use Rattle.typing_conditions.specs.Locals.{IsOwn, stands_in_any, all_pass, Local, ClosesAll}
use Rattle.typing_conditions.specs.Sights.{Sight, SameAt}
use Rattle.typing_conditions.specs.Frames.{Frame}
use Rattle.typing_conditions.proofs.Regions.{region, region_is, passed}
use Rattle.typing_conditions.proofs.Steps.{old_or_new}
use Rattle.typing_conditions.proofs.Own.{own_of}
use Rattle.typing_conditions.proofs.Fresh.{fits_closed}
use Rattle.declared_rows.specs.Assignments.{Assignment, Assigns, IsDeclaring}

below : (v k : ℕ) → v < k → nat_lt v k ≡ true
below v k lt = grind arith

not_below : (v k : ℕ) → k ≤ v → nat_lt v k ≡ false
not_below v k le = grind arith

module _ {F : Frame} {arity : ℕ} {U : List ℕ} {b : Sight} {A : Assignment} (declaring : IsDeclaring F) (at : Assigns F arity U b A) where
  -- a variable of the start is as it was
  old_variable : (K : Types) → IsOwn b.nodes K → (v l o : ℕ) → slice_get F.start v ≡ Some (Var l o) → slice_get b.nodes v ≡ Some (Var l o)
  old_variable K own v l o e = by (region F.start F.types F.roots v) refl
    where
      local : Local F.start b.nodes F.types K F.roots at.reached.held F.level
      local = at.reached.local K own

      by : (t : Bool) → region F.start F.types F.roots v ≡ t → slice_get b.nodes v ≡ Some (Var l o)
      by false h = local.outside (region F.start F.types F.roots) (region_is F.start F.types F.roots at.reached.frame.own.loose) v h ∙ e
      by true h =
          let passes : all_pass (stands_in_any F.types F.roots) (F.types v) ≡ true = elim (or_cases (nat_le (length F.start) v) (all_pass (stands_in_any F.types F.roots) (F.types v)) h) [ inl i ↦ absurd (let le = leb-true (length F.start) v i in let lt = slice_get_within F.start v (Var l o) e in omega arith) | inr i ↦ i ] in
          let stands : stands_in_any F.types F.roots v ≡ true = passed (stands_in_any F.types F.roots) (F.types v) v passes (ap (occurs v) (at.reached.frame.own.vars v l o e) ∙ eqb_same v) in
          let (scope, f) = declaring.bound v stands in
          local.refines.bounds v scope f ∙ sym f ∙ e

  -- the types of the variables of the start, and a closed type for each variable that was made
  abbrev types_for : Types → ℕ → Typ
  types_for V v = if nat_lt v (length F.start) then V v else type.Tuple typs.Nil

  for_old : (V : Types) (v : ℕ) → v < length F.start → types_for V v ≡ V v
  for_old V v lt = ap (λ (t : Bool). if t then V v else type.Tuple typs.Nil) (below v (length F.start) lt)

  for_new : (V : Types) (v : ℕ) → length F.start ≤ v → types_for V v ≡ type.Tuple typs.Nil
  for_new V v le = ap (λ (t : Bool). if t then V v else type.Tuple typs.Nil) (not_below v (length F.start) le)

  -- the nodes' own types at nodes of the start are the same
  own_same : (K : Types) → IsOwn b.nodes K → (m : ℕ) → m < length F.start → K m ≡ F.types m
  own_same K own m lt =
      let own_a = at.reached.frame.own in
      own_a.comes K ((at.reached.local K own).refines.loose K own.loose) m ∙ apply_leaves K (F.types m) (λ v o. let var = own_a.only m v lt o in own.vars v var.level var.scope (old_variable K own v var.level var.scope var.at))

  types_old : (V K : Types) → IsOwn b.nodes K → Loose F.start V → (m : ℕ) → m < length F.start → apply (types_for V) (K m) ≡ V m
  types_old V K own loose m lt =
      let own_a = at.reached.frame.own in
      ap (apply (types_for V)) (own_same K own m lt)
      ∙ apply_agree (types_for V) V (F.types m) (λ v o. let var = own_a.only m v lt o in for_old V v (slice_get_within F.start v (Var var.level var.scope) var.at))
      ∙ sym (own_a.comes V loose m)

  -- a free variable has a type in its scope
  variable_fits : (V K : Types) → IsOwn b.nodes K → Fits F.start V → (n l o : ℕ) → slice_get b.nodes n ≡ Some (Var l o) → FitsNode (λ k. apply (types_for V) (K k)) n (Var l o)
  variable_fits V K own fits n l o e = elim (old_or_new n (length F.start)) [
    | inl lt ↦
        let is : F.types n ≡ type.Var n = sym (own_same K own n lt) ∙ own.vars n l o e in
        let var = at.reached.frame.own.only n n lt (ap (occurs n) is ∙ eqb_same n) in
        let same : Var var.level var.scope ≡ Var l o = one_element (Var var.level var.scope) (Var l o) (slice_get b.nodes n) (old_variable K own n var.level var.scope var.at) e in
        subst (FitsNode (λ k. apply (types_for V) (K k)) n) same (λ free. subst (IsInScope var.scope) (sym (types_old V K own (fits_loosely F.start V fits) n lt)) (fits.each n (Var var.level var.scope) var.at free))
    | inr le ↦ λ free. subst (IsInScope o) (sym (ap (apply (types_for V)) (own.vars n l o e) ∙ for_new V n le)) tt
  ]

  fits_before : (V K : Types) → IsOwn b.nodes K → Fits F.start V → Fits b.nodes (λ k. apply (types_for V) (K k))
  fits_before V K own fits = record { each = λ n c e. each n c e ((loose_apply b.nodes (types_for V) K own.loose).each n c e) }
    where
      W : Types
      W k = apply (types_for V) (K k)

      each : (n : ℕ) (c : Node) → slice_get b.nodes n ≡ Some c → FitsLoosely W n c → FitsNode W n c
      each n (Var l o) e h = variable_fits V K own fits n l o e
      each n Rigid e h = h
      each n (Link m) e h = h
      each n (Arrow x y) e h = h
      each n (Tuple ms) e h = h
      each n (Con p name ms) e h = h

  -- Types that fit the start go on to ones that fit the state after the variables of roots are bound.
  pub fits_declared : {nodes : List Node} {R : List ℕ} → ((K : Types) → IsOwn b.nodes K → ClosesAll b.nodes nodes K R 0) → (V : Types) → Fits F.start V → (W : Types) × Fits nodes W × SameAt F.start V W
  fits_declared {nodes} {R} closes V fits =
      let (K, own) = own_of b.nodes at.reached.sound in
      let W : Types = λ k. apply (types_for V) (K k) in
      (W, fits_closed b.nodes nodes K W R 0 (closes K own) (fits_before V K own fits), λ n lt. types_old V K own (fits_loosely F.start V fits) n lt)
