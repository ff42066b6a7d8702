-- The loop of unification.
use Rattle.std.proofs.Common.{◌≡◌, ℕ, zero, suc, ◌+◌, ◌<◌, Bool, true, List, [], ◌∷◌, ◌++◌, length, Some, refl, sym, ◌∙◌, ap, subst, arith, inl, inr, length-append}
use Rattle.std.specs.Prelude.{slice_get}
use Rattle.type_nodes.specs.Nodes.{Node, Var, Link, IsClosed, IsSound}
use Rattle.type_nodes.specs.Links.{next, follow, root}
use Rattle.type_nodes.specs.Readings.{Types}
use Rattle.type_nodes.proofs.Lists.{get-append_last, length-snoc}
use Rattle.type_nodes.proofs.Roots.{link_or_stays, next_link, closed_root, root_inside, root_here, root_settled}
use Rattle.level_unify.specs.Solutions.{Loose, Equation, Solves, AllIn, work, StaysWithin, Steps, Solved, NeverOne, HaveNoBound}

-- what holds of each equation
abbrev pub Each : (Equation → Type 0) → List Equation → Type 0
Each P es = (k : ℕ) (e : Equation) → slice_get es k ≡ Some e → P e

each_left : (P : Equation → Type 0) (xs ys : List Equation) → Each P (xs ++ ys) → Each P xs
each_left P [] ys h k e at = absurd (cc)
each_left P (x ∷ xs) ys h zero e at = h zero e at
each_left P (x ∷ xs) ys h (suc k) e at = each_left P xs ys (λ j f g. h (suc j) f g) k e at

each_right : (P : Equation → Type 0) (xs ys : List Equation) → Each P (xs ++ ys) → Each P ys
each_right P [] ys h k e at = h k e at
each_right P (x ∷ xs) ys h k e at = each_right P xs ys (λ j f g. h (suc j) f g) k e at

each_both : (P : Equation → Type 0) (xs ys : List Equation) → Each P xs → Each P ys → Each P (xs ++ ys)
each_both P [] ys h i k e at = i k e at
each_both P (x ∷ xs) ys h i zero e at = h zero e at
each_both P (x ∷ xs) ys h i (suc k) e at = each_both P xs ys (λ j f g. h (suc j) f g) i k e at

each_one : (P : Equation → Type 0) (x : Equation) → P x → Each P (x ∷ [])
each_one P x h zero e at = let f : x ≡ e = cc in subst P f h
each_one P x h (suc k) e at = absurd (cc)

-- a node has its root's type
pub loose_root : (nodes : List Node) (V : Types) → Loose nodes V → (n : ℕ) → V n ≡ V (root nodes n)
loose_root nodes V fits n = at (length nodes) n
  where
    one : (m : ℕ) → V m ≡ V (next nodes m)
    one m = elim (link_or_stays nodes m) [
      | inl stays ↦ ap V (sym stays)
      | inr (j, e) ↦ fits.each m (Link j) e ∙ ap V (sym (next_link nodes m j e))
    ]

    at : (k m : ℕ) → V m ≡ V (follow k nodes m)
    at zero m = refl
    at (suc k) m = one m ∙ at k (next nodes m)

-- where unification of a and b stands: the types that fit and solve what is left are those from before that give both one type
pub record Solving (old now : List Node) (a b : ℕ) (todo : List Equation) : Type 0 where
  pub len : length now ≡ length old
  pub inside : AllIn (λ n. n < length now) todo
  pub forth : (V : Types) → Loose old V → V a ≡ V b → Loose now V × Solves V todo
  pub back : (V : Types) → Loose now V → Solves V todo → Loose old V × (V a ≡ V b)
  pub stays : StaysWithin old now a b
  pub within : (F : ℕ → Bool) → IsClosed old F → F a ≡ true → F b ≡ true → AllIn (λ n. F n ≡ true) todo

pub solving_start : (old : List Node) (a b : ℕ) (todo : List Equation) → a < length old → b < length old → todo ≡ [] ++ (a, b) ∷ [] → Solving old old a b todo
solving_start old a b todo a_in b_in e = subst (Solving old old a b) (sym e) (record {
  len = refl;
  inside = record { each = each_one (λ x. (x.0 < length old) × (x.1 < length old)) (a, b) (a_in, b_in) };
  forth = λ V fits same. (fits, record { each = each_one (λ x. V x.0 ≡ V x.1) (a, b) same });
  back = λ V fits all. (fits, all.each 0 (a, b) refl);
  stays = record { closed = λ F closed has has'. closed; outside = λ F closed has has' n lacks. refl; links = λ n c at is. at };
  within = λ F closed has has'. record { each = each_one (λ x. (F x.0 ≡ true) × (F x.1 ≡ true)) (a, b) (has, has') };
})

-- the equation that is taken
pub taken_inside : (old now : List Node) (a b : ℕ) (todo rest : List Equation) (e : Equation) → Solving old now a b todo → todo ≡ rest ++ e ∷ [] → (e.0 < length now) × (e.1 < length now)
taken_inside old now a b todo rest e s same =
    s.inside.each (length rest) e (subst (λ l. slice_get l (length rest) ≡ Some e) (sym same) (get-append_last rest e))

-- both nodes have one root
pub solving_skip : (old now : List Node) (a b : ℕ) (todo rest : List Equation) (e : Equation) → Solving old now a b todo → todo ≡ rest ++ e ∷ [] → root now e.0 ≡ root now e.1 → Solving old now a b rest
solving_skip old now a b todo rest e s same one =
    let at : Solving old now a b (rest ++ e ∷ []) = subst (Solving old now a b) same s in
    record {
      len = at.len;
      inside = record { each = each_left (λ x. (x.0 < length now) × (x.1 < length now)) rest (e ∷ []) at.inside.each };
      forth = λ V fits h. let f = at.forth V fits h in (f.0, record { each = each_left (λ x. V x.0 ≡ V x.1) rest (e ∷ []) f.1.each });
      back = λ V fits all. at.back V fits (record {
        each = each_both (λ x. V x.0 ≡ V x.1) rest (e ∷ []) all.each (each_one (λ x. V x.0 ≡ V x.1) e (loose_root now V fits e.0 ∙ ap V one ∙ sym (loose_root now V fits e.1)));
      });
      stays = at.stays;
      within = λ F closed has has'. record { each = each_left (λ x. (F x.0 ≡ true) × (F x.1 ≡ true)) rest (e ∷ []) (at.within F closed has has').each };
    }

-- the roots of the equation that is taken are in each closed set with a and b
pub taken_within : (old now : List Node) (a b : ℕ) (rest : List Equation) (e : Equation) → Solving old now a b (rest ++ e ∷ []) → (F : ℕ → Bool) → IsClosed old F → F a ≡ true → F b ≡ true →
    (F (root now e.0) ≡ true) × (F (root now e.1) ≡ true)
taken_within old now a b rest e s F closed has has' =
    let h = (s.within F closed has has').each (length rest) e (get-append_last rest e) in
    let c = s.stays.closed F closed has has' in
    (closed_root now F c e.0 h.0, closed_root now F c e.1 h.1)

pub solving_step : (O O' : ℕ → Bool) (old now new : List Node) (a b r s : ℕ) (todo rest todo' : List Equation) (e : Equation) → Solving old now a b todo → todo ≡ rest ++ e ∷ [] → r ≡ root now e.0 → s ≡ root now e.1 →
    Steps now new r s O O' rest todo' → Solving old new a b todo'
solving_step O O' old now new a b r s todo rest todo' e sol same is is' (extra, more, st) =
    subst (Solving old new a b) (sym more) (go (subst (Solving old now a b) same sol))
  where
    go : Solving old now a b (rest ++ e ∷ []) → Solving old new a b (rest ++ extra)
    go at = record {
      len = st.len ∙ at.len;
      inside = record {
        each = λ k x h. subst (λ l. (x.0 < l) × (x.1 < l)) (sym st.len)
            (each_both (λ y. (y.0 < length now) × (y.1 < length now)) rest extra (each_left (λ y. (y.0 < length now) × (y.1 < length now)) rest (e ∷ []) at.inside.each) st.inside.each k x h);
      };
      forth = λ V fits h.
          let f = at.forth V fits h in
          let one : V e.0 ≡ V e.1 = each_right (λ x. V x.0 ≡ V x.1) rest (e ∷ []) f.1.each 0 e refl in
          let g = st.forth V f.0 (ap V is ∙ sym (loose_root now V f.0 e.0) ∙ one ∙ loose_root now V f.0 e.1 ∙ sym (ap V is')) in
          (g.0, record { each = each_both (λ x. V x.0 ≡ V x.1) rest extra (each_left (λ x. V x.0 ≡ V x.1) rest (e ∷ []) f.1.each) g.1.each });
      back = λ V fits all.
          let g = st.back V fits (record { each = each_right (λ x. V x.0 ≡ V x.1) rest extra all.each }) in
          let one : V e.0 ≡ V e.1 = loose_root now V g.0 e.0 ∙ sym (ap V is) ∙ g.1 ∙ ap V is' ∙ sym (loose_root now V g.0 e.1) in
          at.back V g.0 (record { each = each_both (λ x. V x.0 ≡ V x.1) rest (e ∷ []) (each_left (λ x. V x.0 ≡ V x.1) rest extra all.each) (each_one (λ x. V x.0 ≡ V x.1) e one) });
      stays = record {
        closed = λ F closed has has'. let t = ends F closed has has' at in st.stays.closed F (at.stays.closed F closed has has') t.0 t.1;
        outside = λ F closed has has' n lacks. let t = ends F closed has has' at in st.stays.outside F (at.stays.closed F closed has has') t.0 t.1 n lacks ∙ at.stays.outside F closed has has' n lacks;
        links = λ n c h no. at.stays.links n c (st.stays.links n c h no) no;
      };
      within = λ F closed has has'.
          let t = ends F closed has has' at in
          record {
            each = each_both (λ x. (F x.0 ≡ true) × (F x.1 ≡ true)) rest extra
                (each_left (λ x. (F x.0 ≡ true) × (F x.1 ≡ true)) rest (e ∷ []) (at.within F closed has has').each) (st.within F (at.stays.closed F closed has has') t.0 t.1).each;
          };
    }
      where
        ends : (F : ℕ → Bool) → IsClosed old F → F a ≡ true → F b ≡ true → Solving old now a b (rest ++ e ∷ []) → (F r ≡ true) × (F s ≡ true)
        ends F closed has has' at' =
            let t = taken_within old now a b rest e at' F closed has has' in
            (ap F is ∙ t.0, ap F is' ∙ t.1)

pub solving_end : (old now : List Node) (a b : ℕ) (todo : List Equation) → length todo ≡ 0 → Solving old now a b todo → Solved old now a b
solving_end old now a b [] len s = record {
  len = s.len;
  forth = λ V fits same. (s.forth V fits same).0;
  back = λ V fits. s.back V fits (record { each = λ k e at. absurd (cc) });
  stays = s.stays;
}
solving_end old now a b (e ∷ todo) len s = absurd (omega arith)

-- no bound variable occurs in the roots of the equation that is taken
none_taken : (old now : List Node) (a b r s : ℕ) (rest : List Equation) (e : Equation) → Solving old now a b (rest ++ e ∷ []) → r ≡ root now e.0 → s ≡ root now e.1 → HaveNoBound old a b → HaveNoBound now r s
none_taken old now a b r s rest e sol is is' none =
    let t = taken_within old now a b rest e sol none.set none.closed none.left none.right in
    record {
      set = none.set;
      closed = sol.stays.closed none.set none.closed none.left none.right;
      left = ap none.set is ∙ t.0;
      right = ap none.set is' ∙ t.1;
      free = λ n level scope has at. none.free n level scope has (sol.stays.links n (Var level scope) at tt);
    }

pub solving_clash : (old now : List Node) (a b r s : ℕ) (todo rest : List Equation) (e : Equation) → Solving old now a b todo → todo ≡ rest ++ e ∷ [] → r ≡ root now e.0 → s ≡ root now e.1 →
    (HaveNoBound now r s → NeverOne now r s) → HaveNoBound old a b → NeverOne old a b
solving_clash old now a b r s todo rest e sol same is is' h none =
    let at : Solving old now a b (rest ++ e ∷ []) = subst (Solving old now a b) same sol in
    let never = h (none_taken old now a b r s rest e at is is' none) in
    record {
      never = λ V fits one.
          let f = at.forth V fits one in
          let same_type : V e.0 ≡ V e.1 = each_right (λ x. V x.0 ≡ V x.1) rest (e ∷ []) f.1.each 0 e refl in
          never.never V f.0 (ap V is ∙ sym (loose_root now V f.0 e.0) ∙ same_type ∙ loose_root now V f.0 e.1 ∙ sym (ap V is'));
    }

-- each step leaves less to do
pub step_smaller : (O O' : ℕ → Bool) (now new : List Node) (r s : ℕ) (todo rest todo' : List Equation) (e : Equation) → todo ≡ rest ++ e ∷ [] → Steps now new r s O O' rest todo' →
    work O' new + length todo' < work O now + length todo
step_smaller O O' now new r s todo rest todo' e same (extra, more, st) =
    let l = ap length same ∙ length-snoc rest e in
    let m = ap length more ∙ length-append rest extra in
    let n = st.smaller in omega arith

pub skip_smaller : (todo rest : List Equation) (e : Equation) → todo ≡ rest ++ e ∷ [] → length rest < length todo
skip_smaller todo rest e same = let l = ap length same ∙ length-snoc rest e in omega arith

-- the root of a node is a node, and its own root
pub own_root : (nodes : List Node) (n r : ℕ) → IsSound nodes → n < length nodes → r ≡ root nodes n → (r < length nodes) × (root nodes r ≡ r)
own_root nodes n r sound lt is = (
  subst (λ k. k < length nodes) (sym is) (root_inside nodes sound n lt),
  subst (λ k. root nodes k ≡ k) (sym is) (root_here nodes (root nodes n) (root_settled nodes sound n lt)),
)
