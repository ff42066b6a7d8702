-- The variables of a copy become unknown types, one by one.
use Rattle.std.proofs.Common.{◌≡◌, ◌≢◌, ◌∙◌, ◌⊎◌, inl, inr, ℕ, ◌+◌, ◌≤◌, List, length, set, map, Some, refl, sym, ap, subst, arith}
use Rattle.std.specs.Prelude.{slice_get}
use Rattle.std.proofs.lemmas.List.{length-set}
use Rattle.std.proofs.lemmas.Option.{slice_get_within}
use Rattle.type_nodes.specs.Nodes.{Node, Var, Rigid, Link, Arrow, Tuple, Con, bound_level}
use Rattle.type_nodes.specs.Links.{root}
use Rattle.type_nodes.specs.States.{State}
use Rattle.type_nodes.specs.Changes.{Relevels}
use Rattle.type_nodes.proofs.Lists.{same_or_other, one_element, get-set_same, get-set_other}
use Rattle.type_nodes.proofs.Roots.{next_stays, root_here}
use Rattle.type_nodes.specs.Links.{IsNoLink}
use Rattle.type_nodes.specs.Readings.{Types}
use Rattle.level_unify.specs.Walks.{StandsIn, Reached}
use Rattle.level_unify.specs.Solutions.{Loose, FitsLoosely}
use Rattle.typing_conditions.specs.Standing.{IsIn}
use Rattle.declared_rows.specs.Unknowns.{IsOther, Opens, OpensOne, OpensTo}
use Rattle.declared_rows.proofs.Opened.{in_or_not}

-- where a free variable is none of the roots it is relevelled
pub opened_one : (old new : State) (rs : List ℕ) (n l o : ℕ) → root old.nodes n ≡ n → slice_get old.nodes n ≡ Some (Var l o) → l ≢ bound_level → Relevels old new n l 0 → (IsIn rs n → ⊥) → OpensOne old.nodes new.nodes rs n
opened_one old new rs n l o end at bound r none =
    let put : new.nodes ≡ set old.nodes n (Var l 0) = r.written.nodes ∙ ap (λ k. set old.nodes k (Var l 0)) end in
    let here : slice_get new.nodes n ≡ Some (Var l 0) = ap (λ ns. slice_get ns n) put ∙ get-set_same old.nodes n (Var l o) (Var l 0) at in
    record {
      len = ap length put ∙ length-set old.nodes n (Var l 0);
      own = λ l' o' e free no. let f : Var l o ≡ Var l' o' = one_element (Var l o) (Var l' o') (slice_get old.nodes n) at e in let g : l ≡ l' = cc in here ∙ ap (λ k. Some (Var k 0)) g;
      not = λ c e isnt. absurd (isnt l o (one_element c (Var l o) (slice_get old.nodes n) e at) bound none);
      others = λ m other. ap (λ ns. slice_get ns m) put ∙ get-set_other old.nodes n m (Var l 0) other;
      roots = r.ends;
    }

-- another node stays
pub opened_none : (nodes : List Node) (rs : List ℕ) (n : ℕ) → ((l o : ℕ) → slice_get nodes n ≡ Some (Var l o) → l ≢ bound_level → (IsIn rs n → ⊥) → ⊥) → OpensOne nodes nodes rs n
opened_none nodes rs n isnt = record { len = refl; own = λ l o e free none. absurd (isnt l o e free none); not = λ c e h. e; others = λ m other. refl; roots = λ m. refl }

pub opens_start : (nodes : List Node) (r : ℕ) (ps found : List ℕ) → OpensTo nodes nodes r ps found 0
opens_start nodes r ps found = record { len = refl; roots = λ m. refl; each = λ n c e. inl e; done = λ k n c lt f e x. absurd (omega arith) }

-- a free variable that is none of some roots, or not
is_one : (rs : List ℕ) (n : ℕ) (c : Node) → ((l : ℕ) × (o : ℕ) × (c ≡ Var l o) × (l ≢ bound_level) × (IsIn rs n → ⊥)) ⊎ ((l o : ℕ) → c ≡ Var l o → l ≢ bound_level → (IsIn rs n → ⊥) → ⊥)
is_one rs n (Var l o) = elim (same_or_other l bound_level) [
  | inl bound ↦ inr (λ l' o' e free none. free (let f : l ≡ l' = cc in sym f ∙ bound))
  | inr free ↦ elim (in_or_not rs n) [ inl i ↦ inr (λ l' o' e free' none. none i) | inr none ↦ inl (l, o, refl, free, none) ]
]
is_one rs n Rigid = inr (λ l o e. absurd (cc))
is_one rs n (Link m) = inr (λ l o e. absurd (cc))
is_one rs n (Arrow a b) = inr (λ l o e. absurd (cc))
is_one rs n (Tuple ms) = inr (λ l o e. absurd (cc))
is_one rs n (Con p name ms) = inr (λ l o e. absurd (cc))

-- one node more
pub opens_on : (old now new : List Node) (r : ℕ) (ps found : List ℕ) (at n : ℕ) → Reached old r found → slice_get found at ≡ Some n → OpensTo old now r ps found at → OpensOne now new (map (root old) ps) n → OpensTo old new r ps found (at + 1)
opens_on old now new r ps found at n reached here h one = record {
  len = one.len ∙ h.len;
  roots = λ m. one.roots m ∙ h.roots m;
  each = λ m c e. elim (same_or_other m n) [
    | inl same ↦ elim (own m c e same) [ inl (x, f) ↦ inr (x, f) | inr (not, f) ↦ inl f ]
    | inr other ↦ elim (h.each m c e) [ inl f ↦ inl (one.others m other ∙ f) | inr (x, f) ↦ inr (x, one.others m other ∙ f) ]
  ];
  done = λ k m c lt f e x. elim (same_or_other m n) [
    | inl same ↦ elim (own m c e same) [ inl (y, g) ↦ g ∙ ap (λ l. Some (Var l 0)) (same_level c x y) | inr (not, g) ↦ absurd (not x) ]
    | inr other ↦
        let away : k ≢ at = λ same. other (one_element m n (slice_get found at) (subst (λ j. slice_get found j ≡ Some m) same f) here) in
        one.others m other ∙ h.done k m c (omega arith) f e x
  ];
}
  where
    same_level : {m : ℕ} (c : Node) (x y : IsOther old r ps m c) → y.level ≡ x.level
    same_level c x y = let e : Var y.level y.scope ≡ Var x.level x.scope = sym y.is ∙ x.is in cc

    own : (m : ℕ) (c : Node) → slice_get old m ≡ Some c → m ≡ n → ((x : IsOther old r ps m c) × (slice_get new m ≡ Some (Var x.level 0))) ⊎ ((IsOther old r ps m c → ⊥) × (slice_get new m ≡ Some c))
    own m c e same =
        let e' : slice_get old n ≡ Some c = subst (λ k. slice_get old k ≡ Some c) same e in
        elim (h.each n c e') [
          | inl f ↦ elim (is_one (map (root old) ps) n c) [
            | inl (l, o, is, free, none) ↦ inl (
              record { level = l; scope = o; is = is; free = free; stands = subst (λ k. StandsIn old k r) (sym same) (reached.roots at n here).2; none = λ i. none (subst (IsIn (map (root old) ps)) same i) },
              ap (slice_get new) same ∙ one.own l o (f ∙ ap (λ x. Some x) is) free none,
            )
            | inr not ↦ inr (λ x. not x.level x.scope x.is x.free (λ i. x.none (subst (IsIn (map (root old) ps)) (sym same) i)), ap (slice_get new) same ∙ one.not c f not)
          ]
          | inr (x, f) ↦ inl (
            record { level = x.level; scope = x.scope; is = x.is; free = x.free; stands = subst (λ k. StandsIn old k r) (sym same) x.stands; none = λ i. x.none (subst (IsIn (map (root old) ps)) same i) },
            ap (slice_get new) same ∙ one.own x.level 0 f x.free x.none,
          )
        ]

-- all that was found
pub opens_all : (old new : List Node) (r : ℕ) (ps found : List ℕ) (at : ℕ) → length found ≤ at → Reached old r found → OpensTo old new r ps found at → Opens old new r ps
opens_all old new r ps found at all reached h = record {
  len = h.len;
  opens = λ n c e x.
      let (k, f) = reached.listed n (x.stands.each reached.set reached.closed reached.start) in
      let f' : slice_get found k ≡ Some n = f ∙ ap (λ m. Some m) (root_here old n (next_stays old n c e (subst IsNoLink (sym x.is) tt))) in
      h.done k n c (let w = slice_get_within found k n f' in omega arith) f' e x;
  stays = λ n c e not. elim (h.each n c e) [ inl f ↦ f | inr (x, f) ↦ absurd (not x) ];
  roots = h.roots;
}

-- no type is lost
pub opened_tight : (old new : List Node) (rs : List ℕ) (n : ℕ) → OpensOne old new rs n → (V : Types) → Loose new V → Loose old V
opened_tight old new rs n one V loose = record {
  each = λ m c e. elim (same_or_other m n) [
    | inr other ↦ loose.each m c (one.others m other ∙ e)
    | inl same ↦ elim (is_one rs n c) [
      | inl (l, o, is, free, none) ↦ subst (FitsLoosely V m) (sym is) tt
      | inr not ↦ loose.each m c (ap (slice_get new) same ∙ one.not c (sym (ap (slice_get old) same) ∙ e) not)
    ]
  ];
}
