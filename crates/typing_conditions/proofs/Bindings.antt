-- What generalising the types of names does, name by name.
use Rattle.std.proofs.Common.{◌≡◌, ◌≢◌, ℕ, ◌<◌, ◌≤◌, Bool, true, false, List, [], ◌∷◌, ◌++◌, length, Some, refl, sym, ◌∙◌, ap, arith, ◌⊎◌, inl, inr}
use Rattle.std.specs.Prelude.{slice_get}
use Rattle.std.proofs.lemmas.Option.{slice_get_past}
use Rattle.type_model.specs.Types.{occurs}
use Rattle.type_model.proofs.Applying.{or_left, or_right, or_cases}
use Rattle.typing_laws.proofs.Bools.{no_yes}
use Rattle.type_nodes.specs.Nodes.{Node, Var, Rigid, Link, Arrow, Tuple, Con, bound_level}
use Rattle.type_nodes.specs.Readings.{Types}
use Rattle.level_unify.specs.Generalising.{IsAbove, Generalised}
use Rattle.level_unify.proofs.Steps.{cell_at}
use Rattle.level_unify.proofs.Variants.{stands_occurs}
use Rattle.typing_conditions.specs.Locals.{IsOwn, stands_in_any, ClosesAll}
use Rattle.typing_conditions.proofs.Steps.{old_or_new}

-- there is no node after the end
past_end : (nodes new : List Node) (n : ℕ) → length new ≡ length nodes → length nodes ≤ n → slice_get new n ≡ slice_get nodes n
past_end nodes new n len le = slice_get_past new n (omega (arith, len)) ∙ sym (slice_get_past nodes n le)

above_var : (level : ℕ) (c : Node) → IsAbove level c → (l : ℕ) × (o : ℕ) × (c ≡ Var l o) × (l ≢ bound_level) × (level < l)
above_var level (Var l o) h = (l, o, refl, h.0, h.1)
above_var level Rigid h = absurd h
above_var level (Link m) h = absurd h
above_var level (Arrow a b) h = absurd h
above_var level (Tuple ms) h = absurd h
above_var level (Con p name ms) h = absurd h

-- generalising one type closes it
pub generalised_closes : (nodes new : List Node) (J : Types) (r level : ℕ) → IsOwn nodes J → r < length nodes → Generalised nodes new r level → ClosesAll nodes new J (r ∷ []) level
generalised_closes nodes new J r level own lt g = record {
  len = g.len;
  binds = λ v l o e free above h. elim (or_cases (occurs v (J r)) false h) [
    | inl i ↦ g.binds v (Var l o) e (free, above) (own.stands r v lt i)
    | inr i ↦ absurd (no_yes i)
  ];
  stays = λ n h. elim (old_or_new n (length nodes)) [
    | inr le ↦ past_end nodes new n g.len le
    | inl inside ↦
        let (c, e) = cell_at nodes n inside in
        g.stays n c e (λ above stands.
        let (l, o, is, free, more) = above_var level c above in
        let e' = e ∙ ap (λ k. Some k) is in
        h l o e' free more (or_left (occurs n (J r)) false (stands_occurs nodes J n r own.loose (own.vars n l o e') stands)))
        ∙ sym e
  ];
}

-- what stands in the first of two lists of nodes stands in both together
pub any_before : (u : ℕ) (J : Types) (rs ss : List ℕ) → stands_in_any J rs u ≡ true → stands_in_any J (rs ++ ss) u ≡ true
any_before u J [] ss h = absurd (no_yes h)
any_before u J (r ∷ rs) ss h = elim (or_cases (occurs u (J r)) (stands_in_any J rs u) h) [
  | inl i ↦ or_left (occurs u (J r)) (stands_in_any J (rs ++ ss) u) i
  | inr i ↦ or_right (occurs u (J r)) (stands_in_any J (rs ++ ss) u) (any_before u J rs ss i)
]

-- and so does what stands in the second
pub any_after : (u : ℕ) (J : Types) (rs ss : List ℕ) → stands_in_any J ss u ≡ true → stands_in_any J (rs ++ ss) u ≡ true
any_after u J [] ss h = h
any_after u J (r ∷ rs) ss h = or_right (occurs u (J r)) (stands_in_any J (rs ++ ss) u) (any_after u J rs ss h)

any_either : (u : ℕ) (J : Types) (rs ss : List ℕ) → stands_in_any J (rs ++ ss) u ≡ true → (stands_in_any J rs u ≡ true) ⊎ (stands_in_any J ss u ≡ true)
any_either u J [] ss h = inr h
any_either u J (r ∷ rs) ss h = elim (or_cases (occurs u (J r)) (stands_in_any J (rs ++ ss) u) h) [
  | inl i ↦ inl (or_left (occurs u (J r)) (stands_in_any J rs u) i)
  | inr i ↦ elim (any_either u J rs ss i) [ inl j ↦ inl (or_right (occurs u (J r)) (stands_in_any J rs u) j) | inr j ↦ inr j ]
]

-- closing some types and then others closes all
pub closes_then : (a b c : List Node) (J : Types) (rs ss : List ℕ) (level : ℕ) → ClosesAll a b J rs level → ClosesAll b c J ss level → ClosesAll a c J (rs ++ ss) level
closes_then a b c J rs ss level one two = record {
  len = two.len ∙ one.len;
  binds = λ v l o e free above h. at v l o e free above (any_either v J rs ss h);
  stays = λ n h.
      let first = one.stays n (λ l o e free above i. h l o e free above (any_before n J rs ss i)) in
      two.stays n (λ l o e free above i. h l o (sym first ∙ e) free above (any_after n J rs ss i)) ∙ first;
}
  where
    kept : (v o : ℕ) → slice_get b v ≡ Some (Var bound_level o) → slice_get c v ≡ Some (Var bound_level o)
    kept v o e = two.stays v (λ l o' e' free above i. free (same_level v l o' o e' e)) ∙ e
      where
        same_level : (v l o' o : ℕ) → slice_get b v ≡ Some (Var l o') → slice_get b v ≡ Some (Var bound_level o) → l ≡ bound_level
        same_level v l o' o p q = let f : Some (Var l o') ≡ Some (Var bound_level o) = sym p ∙ q in cc

    at : (v l o : ℕ) → slice_get a v ≡ Some (Var l o) → l ≢ bound_level → level < l → (stands_in_any J rs v ≡ true) ⊎ (stands_in_any J ss v ≡ true) → slice_get c v ≡ Some (Var bound_level o)
    at v l o e free above (inl i) = kept v o (one.binds v l o e free above i)
    at v l o e free above (inr i) = by (stands_in_any J rs v) refl
      where
        by : (t : Bool) → stands_in_any J rs v ≡ t → slice_get c v ≡ Some (Var bound_level o)
        by true j = kept v o (one.binds v l o e free above j)
        by false j = two.binds v l o (one.stays v (λ l' o' e' free' above' k. no_yes (sym j ∙ k)) ∙ e) free above i
