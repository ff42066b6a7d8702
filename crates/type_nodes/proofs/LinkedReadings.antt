-- A link between two roots that every reading gives one type leaves the readings.
use Rattle.std.proofs.Common.{◌≡◌, ℕ, zero, suc, ◌<◌, List, length, set, get_or, Option, Some, None, refl, sym, ◌∙◌, ap, subst, arith, inl, inr}
use Rattle.std.specs.Prelude.{slice_get, All}
use Rattle.type_model.specs.Types.{Typ as type}
use Rattle.type_model.specs.Substitutions.{apply}
use Rattle.type_nodes.specs.Nodes.{Node, Var, Rigid, Link, Arrow, Tuple, Con, parts, bound_level, IsRanked, IsSound}
use Rattle.type_nodes.specs.Links.{next, follow, root, IsComposite}
use Rattle.type_nodes.specs.Readings.{Types, FitsNode, Fits, IsReading, ReadAlike, SameReadings}
use Rattle.type_nodes.proofs.Lists.{same_or_other, one_element, get-set_same, get-set_other}
use Rattle.type_nodes.proofs.Roots.{link_or_stays, next_link, of_link}
use Rattle.type_nodes.proofs.Identity.{built_from, built_apply, identity, identity_built, identity_reads, parts_apply}

-- a node has its root's type
pub root_type : (nodes : List Node) (V : Types) → Fits nodes V → (n : ℕ) → V n ≡ V (root nodes n)
root_type nodes V fits n = at (length nodes) n
  where
    one : (m : ℕ) → V m ≡ V (next nodes m)
    one m = elim (link_or_stays nodes m) [
      | inl stays ↦ ap V (sym stays)
      | inr (j, e) ↦ fits.each m (Link j) e ∙ ap V (sym (next_link nodes m j e))
    ]

    at : (k m : ℕ) → V m ≡ V (follow k nodes m)
    at zero m = refl
    at (suc k) m = one m ∙ at k (next nodes m)

-- a node's type comes from the general reading, where its own equation holds and its parts' types do
kept_node : (nodes : List Node) (rank : ℕ → ℕ) (V : Types) → IsRanked nodes rank → (n : ℕ) →
    ((c : Node) → slice_get nodes n ≡ Some c → FitsNode V n c × All (λ m. V m ≡ apply V (identity rank nodes m)) (parts c)) → V n ≡ apply V (identity rank nodes n)
kept_node nodes rank V ranked n h = at (slice_get nodes n) refl
  where
    at : (o : Option Node) → slice_get nodes n ≡ o → V n ≡ apply V (identity rank nodes n)
    at None e = let i : identity rank nodes n ≡ type.Var n = rw e refl in ap (apply V) (sym i)
    at (Some c) e = built_apply V (identity rank nodes) n c (h c e).0 (h c e).1 ∙ ap (apply V) (sym (identity_built nodes rank ranked n c e))

-- what fits the linked nodes comes from the general reading of the nodes before, where that gives both roots one type
determined : (nodes : List Node) (rank rank' : ℕ → ℕ) (r s : ℕ) (b : Node) (V : Types) → IsRanked nodes rank → IsRanked (set nodes r (Link s)) rank' →
    slice_get nodes r ≡ Some b → identity rank nodes r ≡ identity rank nodes s → Fits (set nodes r (Link s)) V →
    (k n : ℕ) → rank' n < k → V n ≡ apply V (identity rank nodes n)
determined nodes rank rank' r s b V ranked ranked' at alike fits zero n low = absurd (omega arith)
determined nodes rank rank' r s b V ranked ranked' at alike fits (suc k) n low = elim (same_or_other n r) [
  | inl same ↦
      let e : slice_get (set nodes r (Link s)) n ≡ Some (Link s) = subst (λ j. slice_get (set nodes r (Link s)) j ≡ Some (Link s)) (sym same) (get-set_same nodes r b (Link s) at) in
      let down = of_link (λ m. (m < length (set nodes r (Link s))) × (rank' m < rank' n)) s (ranked'.each n (Link s) e) in
      let lower = down.1 in
      fits.each n (Link s) e ∙ determined nodes rank rank' r s b V ranked ranked' at alike fits k s (omega arith)
      ∙ ap (apply V) (sym alike ∙ ap (identity rank nodes) (sym same))
  | inr other ↦ kept_node nodes rank V ranked n (λ c e.
      let e' : slice_get (set nodes r (Link s)) n ≡ Some c = get-set_other nodes r n (Link s) other ∙ e in (
        fits.each n c e',
        λ j d lt.
            let down = ranked'.each n c e' j d lt in let lower = down.1 in
            determined nodes rank rank' r s b V ranked ranked' at alike fits k (get_or (parts c) j d) (omega arith),
      ))
]

-- the equation of an arrow, a tuple or a constructor holds, where it comes from the general reading
composite_fits : (V I : Types) (n : ℕ) (c : Node) → IsComposite c → V n ≡ apply V (built_from I n (Some c)) → All (λ m. V m ≡ apply V (I m)) (parts c) → FitsNode V n c
composite_fits V I n (Var level scope) is e h = absurd is
composite_fits V I n Rigid is e h = absurd is
composite_fits V I n (Link m) is e h = absurd is
composite_fits V I n (Arrow a b) is e h =
    let p : V a ≡ apply V (I a) = h zero zero (omega arith) in let q : V b ≡ apply V (I b) = h 1 zero (omega arith) in
    e ∙ sym (λ i. type.Arrow (p i) (q i))
composite_fits V I n (Tuple ms) is e h = e ∙ ap type.Tuple (sym (parts_apply V I ms h))
composite_fits V I n (Con path name ms) is e h = e ∙ ap (type.Con path) (sym (parts_apply V I ms h))

-- a variable is neither the composite that was linked nor the link
var_elsewhere : (nodes : List Node) (r s : ℕ) (b : Node) → slice_get nodes r ≡ Some b → IsComposite b → (n level scope : ℕ) →
    (slice_get (set nodes r (Link s)) n ≡ Some (Var level scope) → slice_get nodes n ≡ Some (Var level scope))
    × (slice_get nodes n ≡ Some (Var level scope) → slice_get (set nodes r (Link s)) n ≡ Some (Var level scope))
var_elsewhere nodes r s b at is n level scope = elim (same_or_other n r) [
  | inl same ↦ (
    λ e. absurd (no_link_var s level scope (one_element (Link s) (Var level scope) (slice_get (set nodes r (Link s)) r) (get-set_same nodes r b (Link s) at) (subst (λ k. slice_get (set nodes r (Link s)) k ≡ Some (Var level scope)) same e))),
    λ e. absurd (subst IsComposite (one_element b (Var level scope) (slice_get nodes r) at (subst (λ k. slice_get nodes k ≡ Some (Var level scope)) same e)) is),
  )
  | inr other ↦ (λ e. sym (get-set_other nodes r n (Link s) other) ∙ e, λ e. get-set_other nodes r n (Link s) other ∙ e)
]
  where
    no_link_var : (m l o : ℕ) → Link m ≡ Var l o → ⊥
    no_link_var m l o e = cc

pub same_readings : (nodes : List Node) (r s : ℕ) (b : Node) → IsSound nodes → IsSound (set nodes r (Link s)) → slice_get nodes r ≡ Some b → IsComposite b →
    ReadAlike nodes r s → SameReadings nodes (set nodes r (Link s))
same_readings nodes r s b (rank, ranked) (rank', ranked') at is alike V = (forth, back)
  where
    new : (n : ℕ) (c : Node) → IsReading nodes V → slice_get (set nodes r (Link s)) n ≡ Some c → FitsNode V n c
    new n c reads e = elim (same_or_other n r) [
      | inl same ↦
          let e' : Link s ≡ c = one_element (Link s) c (slice_get (set nodes r (Link s)) r) (get-set_same nodes r b (Link s) at) (subst (λ k. slice_get (set nodes r (Link s)) k ≡ Some c) same e) in
          subst (FitsNode V n) e' (ap V same ∙ alike V reads)
      | inr other ↦ reads.fits.each n c (sym (get-set_other nodes r n (Link s) other) ∙ e)
    ]

    forth : IsReading nodes V → IsReading (set nodes r (Link s)) V
    forth reads = record {
      fits = record { each = λ n c e. new n c reads e };
      own = λ n scope e. reads.own n scope ((var_elsewhere nodes r s b at is n bound_level scope).0 e);
      apart = λ n level scope m scope' e free e'.
          reads.apart n level scope m scope' ((var_elsewhere nodes r s b at is n level scope).0 e) free ((var_elsewhere nodes r s b at is m bound_level scope').0 e');
    }

    from : IsReading (set nodes r (Link s)) V → (n : ℕ) → V n ≡ apply V (identity rank nodes n)
    from reads n = determined nodes rank rank' r s b V ranked ranked' at (alike (identity rank nodes) (identity_reads nodes rank ranked)) reads.fits (suc (rank' n)) n (omega arith)

    old : (n : ℕ) (c : Node) → IsReading (set nodes r (Link s)) V → slice_get nodes n ≡ Some c → FitsNode V n c
    old n c reads e = elim (same_or_other n r) [
      | inl same ↦
          let e' : b ≡ c = one_element b c (slice_get nodes r) at (subst (λ k. slice_get nodes k ≡ Some c) same e) in
          composite_fits V (identity rank nodes) n c (subst IsComposite e' is)
          (from reads n ∙ ap (apply V) (identity_built nodes rank ranked n c e)) (λ j d lt. from reads (get_or (parts c) j d))
      | inr other ↦ reads.fits.each n c (get-set_other nodes r n (Link s) other ∙ e)
    ]

    back : IsReading (set nodes r (Link s)) V → IsReading nodes V
    back reads = record {
      fits = record { each = λ n c e. old n c reads e };
      own = λ n scope e. reads.own n scope ((var_elsewhere nodes r s b at is n bound_level scope).1 e);
      apart = λ n level scope m scope' e free e'.
          reads.apart n level scope m scope' ((var_elsewhere nodes r s b at is n level scope).1 e) free ((var_elsewhere nodes r s b at is m bound_level scope').1 e');
    }

-- nodes that are read alike have roots that are
pub roots_alike : (nodes : List Node) (a b : ℕ) → ReadAlike nodes a b → ReadAlike nodes (root nodes a) (root nodes b)
roots_alike nodes a b alike V reads = sym (root_type nodes V reads.fits a) ∙ alike V reads ∙ root_type nodes V reads.fits b
