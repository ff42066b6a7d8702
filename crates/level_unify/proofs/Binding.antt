-- Binding variables by their levels.
use Rattle.std.proofs.Common.{◌≡◌, ◌≢◌, ◌↔◌, ℕ, ◌+◌, ◌<◌, ◌≤◌, Bool, true, false, List, length, set, Some, refl, sym, ◌∙◌, ap, subst, arith, ◌⊎◌, inl, inr}
use Rattle.std.specs.Prelude.{slice_get, IsTrue}
use Rattle.std.proofs.lemmas.List.{length-set}
use Rattle.std.proofs.lemmas.Bool.Decides.{leb_tells}
use Rattle.std.proofs.lemmas.Option.{slice_get_within}
use Rattle.type_nodes.specs.Nodes.{Node, Var, Rigid, Link, Arrow, Tuple, Con, bound_level}
use Rattle.type_nodes.specs.Links.{root, reading, IsFree}
use Rattle.type_nodes.specs.States.{State}
use Rattle.type_nodes.specs.Changes.{Quantifies}
use Rattle.type_nodes.specs.Views.{Shows}
use Rattle.type_nodes.specs.declared.view.View.{View}
use Rattle.type_nodes.proofs.Lists.{same_or_other, one_element, get-set_same, get-set_other}
use Rattle.type_nodes.proofs.Roots.{next_stays, root_here}
use Rattle.level_unify.specs.Walks.{StandsIn, Reached}
use Rattle.level_unify.specs.Plans.{IsFreeVar, Views}
use Rattle.level_unify.specs.Generalising.{IsAbove, bound_of, Generalised, BoundOne, BoundTo}
use Rattle.level_unify.proofs.Steps.{cell_at, views_at, free_at}

-- the test of what a root shows, told by its cell
pub record AboveAt (nodes : List Node) (n level : ℕ) (res : Bool) : Type 0 where
  pub node : Node
  pub at : slice_get nodes n ≡ Some node
  pub test : IsTrue res ↔ IsAbove level node

pub above_at : (nodes : List Node) (n level : ℕ) (view : View) (res : Bool) → n < length nodes → root nodes n ≡ n → Shows view (root nodes n) (reading nodes n) →
    ((c : Node) → Views view c → IsTrue res ↔ IsAbove level c) → AboveAt nodes n level res
above_at nodes n level view res lt end shows test =
    let (c, at) = cell_at nodes n lt in
    record { node = c; at = at; test = test c (views_at nodes n view c shows end at) }

above_free : (level : ℕ) (c : Node) → IsAbove level c → IsFreeVar c
above_free level (Var l o) h = h.0
above_free level Rigid h = h
above_free level (Link m) h = h
above_free level (Arrow a b) h = h
above_free level (Tuple ms) h = h
above_free level (Con p name ms) h = h

pub above_is_free : (nodes : List Node) (n level : ℕ) (res : Bool) → n < length nodes → root nodes n ≡ n → res ≡ true → AboveAt nodes n level res → IsFree nodes n
above_is_free nodes n level res lt end e a = free_at nodes n a.node lt end a.at (above_free level a.node (a.test.0 e))

-- a bound variable isn't above a level
bound_not : (level : ℕ) (c : Node) → IsAbove level c → IsAbove level (bound_of c) → ⊥
bound_not level (Var l o) h h' = h'.0 refl
bound_not level Rigid h h' = h
bound_not level (Link m) h h' = h
bound_not level (Arrow a b) h h' = h
bound_not level (Tuple ms) h h' = h
bound_not level (Con p name ms) h h' = h

same_scope : (level : ℕ) (c : Node) (l o : ℕ) → c ≡ Var l o → Var bound_level o ≡ bound_of c
same_scope level c l o e = sym (ap bound_of e)

-- a variable that was bound
pub bound_one : (old new : State) (n level : ℕ) (res : Bool) → root old.nodes n ≡ n → res ≡ true → AboveAt old.nodes n level res → Quantifies old new n → BoundOne old.nodes new.nodes level n
bound_one old new n level res end e a q =
    let put : new.nodes ≡ set old.nodes n (Var bound_level q.scope) = q.bound.written.nodes ∙ ap (λ k. set old.nodes k (Var bound_level q.scope)) end in
    let cell : a.node ≡ Var q.level q.scope = one_element a.node (Var q.level q.scope) (slice_get old.nodes n) a.at (sym (ap (slice_get old.nodes) end) ∙ q.was) in
    record {
      len = ap length put ∙ length-set old.nodes n (Var bound_level q.scope);
      own = λ c at above.
          let same : a.node ≡ c = one_element a.node c (slice_get old.nodes n) a.at at in
          ap (λ ns. slice_get ns n) put ∙ get-set_same old.nodes n a.node (Var bound_level q.scope) a.at ∙ ap (λ x. Some x) (same_scope level c q.level q.scope (sym same ∙ cell));
      not = λ c at not_above.
          let same : a.node ≡ c = one_element a.node c (slice_get old.nodes n) a.at at in
          absurd (not_above (subst (IsAbove level) same (a.test.0 e)));
      others = λ m other. ap (λ ns. slice_get ns m) put ∙ get-set_other old.nodes n m (Var bound_level q.scope) other;
      roots = q.bound.ends;
    }

-- a node that isn't above the level stays
pub bound_none : (nodes : List Node) (n level : ℕ) (res : Bool) → res ≡ false → AboveAt nodes n level res → BoundOne nodes nodes level n
bound_none nodes n level res e a = record {
  len = refl;
  own = λ c at above.
      let same : a.node ≡ c = one_element a.node c (slice_get nodes n) a.at at in
      absurd (let t : res ≡ true = a.test.1 (subst (IsAbove level) (sym same) above) in cc);
  not = λ c at not_above. at;
  others = λ m other. refl;
  roots = λ m. refl;
}

pub bound_start : (nodes : List Node) (r level : ℕ) (found : List ℕ) → BoundTo nodes nodes r level found 0
bound_start nodes r level found = record { len = refl; roots = λ m. refl; each = λ n c e. inl e; done = λ k n c lt f e h. absurd (omega arith) }

above_or_not : (level : ℕ) (c : Node) → IsAbove level c ⊎ (IsAbove level c → ⊥)
above_or_not level (Var l o) = elim (same_or_other l bound_level) [
  | inl e ↦ inr (λ h. h.0 e)
  | inr f ↦ elim (lt_or_not level l) [ inl lt ↦ inl (f, lt) | inr ge ↦ inr (λ h. ge h.1) ]
]
  where
    lt_or_not : (m n : ℕ) → (m < n) ⊎ (m < n → ⊥)
    lt_or_not m n = elim (leb_tells n m) [ inl h ↦ inr (λ lt. let g = h.1 in omega arith) | inr h ↦ inl h.1 ]
above_or_not level Rigid = inr (λ h. h)
above_or_not level (Link m) = inr (λ h. h)
above_or_not level (Arrow a b) = inr (λ h. h)
above_or_not level (Tuple ms) = inr (λ h. h)
above_or_not level (Con p name ms) = inr (λ h. h)

-- one node more
pub bound_on : (old now new : List Node) (r level : ℕ) (found : List ℕ) (at n : ℕ) → Reached old r found → slice_get found at ≡ Some n → BoundTo old now r level found at → BoundOne now new level n →
    BoundTo old new r level found (at + 1)
bound_on old now new r level found at n reached here h one = record {
  len = one.len ∙ h.len;
  roots = λ m. one.roots m ∙ h.roots m;
  each = λ m c e. elim (same_or_other m n) [
    | inl same ↦ elim (own m c e same) [
      | inl (above, f) ↦ inr (above, subst (λ k. StandsIn old k r) (sym same) (reached.roots at n here).2, f)
      | inr (not, f) ↦ inl f
    ]
    | inr other ↦ elim (h.each m c e) [
      | inl f ↦ inl (one.others m other ∙ f)
      | inr (above, stands, f) ↦ inr (above, stands, one.others m other ∙ f)
    ]
  ];
  done = λ k m c lt f e above. elim (same_or_other m n) [
    | inl same ↦ elim (own m c e same) [ inl (a, g) ↦ g | inr (not, g) ↦ absurd (not above) ]
    | inr other ↦
        let away : k ≢ at = λ same. other (one_element m n (slice_get found at) (subst (λ j. slice_get found j ≡ Some m) same f) here) in
        one.others m other ∙ h.done k m c (omega arith) f e above
  ];
}
  where
    own : (m : ℕ) (c : Node) → slice_get old m ≡ Some c → m ≡ n → (IsAbove level c × (slice_get new m ≡ Some (bound_of c))) ⊎ ((IsAbove level c → ⊥) × (slice_get new m ≡ Some c))
    own m c e same =
        let e' : slice_get old n ≡ Some c = subst (λ k. slice_get old k ≡ Some c) same e in
        elim (h.each n c e') [
          | inl f ↦ elim (above_or_not level c) [
            | inl above ↦ inl (above, ap (slice_get new) same ∙ one.own c f above)
            | inr not ↦ inr (not, ap (slice_get new) same ∙ one.not c f not)
          ]
          | inr (above, stands, f) ↦ inl (above, ap (slice_get new) same ∙ one.not (bound_of c) f (bound_not level c above))
        ]

above_root : (nodes : List Node) (n level : ℕ) (c : Node) → slice_get nodes n ≡ Some c → IsAbove level c → root nodes n ≡ n
above_root nodes n level (Var l o) e h = root_here nodes n (next_stays nodes n (Var l o) e tt)
above_root nodes n level Rigid e h = absurd h
above_root nodes n level (Link m) e h = absurd h
above_root nodes n level (Arrow a b) e h = absurd h
above_root nodes n level (Tuple ms) e h = absurd h
above_root nodes n level (Con p name ms) e h = absurd h

-- all that was found
pub generalised : (old new : List Node) (r level : ℕ) (found : List ℕ) (at : ℕ) → length found ≤ at → Reached old r found → BoundTo old new r level found at → Generalised old new r level
generalised old new r level found at all reached h = record {
  len = h.len;
  binds = λ n c e above stands.
      let (k, f) = reached.listed n (stands.each reached.set reached.closed reached.start) in
      let f' : slice_get found k ≡ Some n = f ∙ ap (λ m. Some m) (above_root old n level c e above) in
      h.done k n c (let w = slice_get_within found k n f' in omega arith) f' e above;
  stays = λ n c e not. elim (h.each n c e) [ inl f ↦ f | inr (above, stands, f) ↦ absurd (not above stands) ];
}
