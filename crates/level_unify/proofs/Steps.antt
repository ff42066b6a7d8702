-- One step of unification: a root is linked to another.
use Rattle.std.proofs.Common.{◌≡◌, ◌≢◌, ℕ, zero, suc, ◌<◌, ◌≤◌, Bool, true, List, [], ◌∷◌, ◌++◌, length, set, Some, refl, sym, ◌∙◌, ap, subst, arith, inl, inr}
use Rattle.std.specs.Prelude.{slice_get, All, Result, Ok, Err, OnOk, IfErr}
use Rattle.std.proofs.lemmas.List.{length-set}
use Rattle.type_model.specs.Types.{Typ}
use Rattle.type_nodes.specs.Nodes.{Node, Var, Rigid, Link, Arrow, Tuple, Con, parts, IsSound, Apart}
use Rattle.type_nodes.proofs.Ranks.{redirected_sound}
use Rattle.type_nodes.specs.Links.{IsNoLink, IsFree, root, reading}
use Rattle.type_nodes.specs.Readings.{Types}
use Rattle.type_nodes.proofs.Lists.{same_or_other, one_element, get-set_same, get-set_other}
use Rattle.type_nodes.specs.Views.{Shows}
use Rattle.type_nodes.specs.declared.view.View.{View}
use Rattle.type_nodes.proofs.Roots.{root_no_link}
use Rattle.level_unify.specs.declared.plan.Plan.{Plan}
use Rattle.level_unify.specs.declared.plan.Plan.TheVariants.{BindLeft, BindRight}
use Rattle.level_unify.specs.declared.solve.Stop.{Stop}
use Rattle.level_unify.specs.declared.solve.Stop.TheVariants.{Clash}
use Rattle.level_unify.specs.Walks.{StandsIn}
use Rattle.level_unify.specs.Plans.{IsFreeVar, SameHead, Plans, Views}
use Rattle.level_unify.proofs.Sizes.{never_inside}
use Rattle.level_unify.proofs.Weights.{Opens, work_linked, work_opened}
use Rattle.level_unify.specs.Solutions.{FitsLoosely, Equation, paired, AllIn, weight_of, StaysWithin, Stepped, Steps, NeverOne, HaveNoBound}
use Rattle.level_unify.proofs.Loosely.{loose_before, loose_after, loose_at_set, head_forth, head_back, none_solved, both_solved}

-- a link stays within what the two roots lead to
linked_stays : (nodes : List Node) (r s : ℕ) (c : Node) → slice_get nodes r ≡ Some c → StaysWithin nodes (set nodes r (Link s)) r s
linked_stays nodes r s c at = record {
  closed = λ F closed has_r has_s. record {
    each = λ n d has e. elim (same_or_other n r) [
      | inl same ↦
          let f : Link s ≡ d = one_element (Link s) d (slice_get (set nodes r (Link s)) r) (get-set_same nodes r c (Link s) at) (subst (λ k. slice_get (set nodes r (Link s)) k ≡ Some d) same e) in
          subst (λ x. All (λ m. F m ≡ true) (parts x)) f (one F has_s)
      | inr other ↦ closed.each n d has (sym (get-set_other nodes r n (Link s) other) ∙ e)
    ];
  };
  outside = λ F closed has_r has_s n lacks. get-set_other nodes r n (Link s) (λ same. absurd (let e : F n ≡ F r = ap F same in cc));
  links = λ n d e is. elim (same_or_other n r) [
    | inl same ↦ absurd (
        let f : Link s ≡ d = one_element (Link s) d (slice_get (set nodes r (Link s)) r) (get-set_same nodes r c (Link s) at) (subst (λ k. slice_get (set nodes r (Link s)) k ≡ Some d) same e) in
        subst IsNoLink (sym f) is)
    | inr other ↦ sym (get-set_other nodes r n (Link s) other) ∙ e
  ];
}
  where
    one : (F : ℕ → Bool) → F s ≡ true → All (λ m. F m ≡ true) (s ∷ [])
    one F has zero d lt = has
    one F has (suc k) d lt = absurd (omega arith)

none_in : (F : ℕ → Type 0) → AllIn F []
none_in F = record { each = λ k e at. absurd (cc) }

one_more : (F : ℕ → Type 0) (m n : ℕ) (es : List Equation) → F m → F n → AllIn F es → AllIn F ((m, n) ∷ es)
one_more F m n es p q h = record { each = at }
  where
    at : (k : ℕ) (e : Equation) → slice_get ((m, n) ∷ es) k ≡ Some e → F e.0 × F e.1
    at zero e same = let f : (m, n) ≡ e = cc in subst (λ (x : Equation). F x.0 × F x.1) f (p, q)
    at (suc k) e same = h.each k e same

paired_in : (F : ℕ → Type 0) (ms ns : List ℕ) → All F ms → All F ns → AllIn F (paired ms ns)
paired_in F [] ns p q = none_in F
paired_in F (m ∷ ms) [] p q = none_in F
paired_in F (m ∷ ms) (n ∷ ns) p q =
    one_more F m n (paired ms ns) (p zero zero (omega arith)) (q zero zero (omega arith))
    (paired_in F ms ns (λ k d lt. p (suc k) d (omega arith)) (λ k d lt. q (suc k) d (omega arith)))

paired_length : (ms ns : List ℕ) → length (paired ms ns) ≤ length ms
paired_length [] ns = omega arith
paired_length (m ∷ ms) [] = omega arith
paired_length (m ∷ ms) (n ∷ ns) = let h = paired_length ms ns in omega arith

free_fits : (V : Types) (r : ℕ) (c : Node) → IsFreeVar c → FitsLoosely V r c × (weight_of c ≡ 1)
free_fits V r (Var level scope) h = (tt, refl)
free_fits V r Rigid h = absurd h
free_fits V r (Link m) h = absurd h
free_fits V r (Arrow a b) h = absurd h
free_fits V r (Tuple ms) h = absurd h
free_fits V r (Con path name ms) h = absurd h

head_weight : (c d : Node) → SameHead c d → suc (length (parts c)) ≡ weight_of c
head_weight (Arrow a b) (Arrow x y) h = refl
head_weight (Tuple ms) (Tuple ns) h = refl
head_weight (Con o name ms) (Con o' name' ns) h = refl
head_weight (Var l o) d h = absurd h
head_weight Rigid d h = absurd h
head_weight (Link m) d h = absurd h
head_weight (Arrow a b) (Var l o) h = absurd h
head_weight (Arrow a b) Rigid h = absurd h
head_weight (Arrow a b) (Link m) h = absurd h
head_weight (Arrow a b) (Tuple ns) h = absurd h
head_weight (Arrow a b) (Con o' name' ns) h = absurd h
head_weight (Tuple ms) (Var l o) h = absurd h
head_weight (Tuple ms) Rigid h = absurd h
head_weight (Tuple ms) (Link m) h = absurd h
head_weight (Tuple ms) (Arrow x y) h = absurd h
head_weight (Tuple ms) (Con o' name' ns) h = absurd h
head_weight (Con o name ms) (Var l u) h = absurd h
head_weight (Con o name ms) Rigid h = absurd h
head_weight (Con o name ms) (Link m) h = absurd h
head_weight (Con o name ms) (Arrow x y) h = absurd h
head_weight (Con o name ms) (Tuple ns) h = absurd h

-- a free variable is linked
pub step_bind : (O : ℕ → Bool) (nodes new : List Node) (r s : ℕ) (c : Node) → slice_get nodes r ≡ Some c → IsFreeVar c → new ≡ set nodes r (Link s) → Stepped nodes new r s O O []
step_bind O nodes new r s c at free e = subst (λ x. Stepped nodes x r s O O []) (sym e) (record {
  len = length-set nodes r (Link s);
  smaller = let w = work_linked O nodes r s c at in let f = (free_fits (λ n. Typ.Var n) r c free).1 in omega arith;
  inside = none_in (λ n. n < length nodes);
  forth = λ V fits same. (loose_after nodes V r c (Link s) at same fits, none_solved V);
  back = λ V fits all. (loose_before nodes V r c (Link s) at (free_fits V r c free).0 fits, loose_at_set nodes V r s c at fits);
  stays = linked_stays nodes r s c at;
  within = λ F closed has_r has_s. none_in (λ n. F n ≡ true);
})

-- two composites with one head are linked, and their parts are left
pub step_parts : (O : ℕ → Bool) (nodes new : List Node) (r s : ℕ) (c d : Node) → IsSound nodes → slice_get nodes r ≡ Some c → slice_get nodes s ≡ Some d → r ≢ s → SameHead c d →
    new ≡ set nodes r (Link s) → Stepped nodes new r s O O (paired (parts c) (parts d))
step_parts O nodes new r s c d sound at at' other head e = subst (λ x. Stepped nodes x r s O O (paired (parts c) (parts d))) (sym e) (record {
  len = length-set nodes r (Link s);
  smaller = let w = work_linked O nodes r s c at in let f = head_weight c d head in let g = paired_length (parts c) (parts d) in omega arith;
  inside = paired_in (λ n. n < length nodes) (parts c) (parts d) (λ k x lt. (sound.1.each r c at k x lt).0) (λ k x lt. (sound.1.each s d at' k x lt).0);
  forth = λ V fits same. (
    loose_after nodes V r c (Link s) at same fits,
    head_forth V r s c d head (fits.each r c at) (fits.each s d at') same,
  );
  back = λ V fits all.
      let same = loose_at_set nodes V r s c at fits in
      let there : FitsLoosely V s d = fits.each s d (get-set_other nodes r s (Link s) (λ z. other (sym z)) ∙ at') in
      (loose_before nodes V r c (Link s) at (head_back V r s c d head there same all) fits, same);
  stays = linked_stays nodes r s c at;
  within = λ F closed has_r has_s. paired_in (λ n. F n ≡ true) (parts c) (parts d) (closed.each r c has_r at) (closed.each s d has_s at');
})

-- two composites with one head are put back, and their parts are left as well
pub step_opens : (O O' : ℕ → Bool) (nodes : List Node) (r s : ℕ) (c d : Node) → IsSound nodes → r < length nodes → s < length nodes → slice_get nodes r ≡ Some c → slice_get nodes s ≡ Some d → SameHead c d →
    Opens O O' r → Stepped nodes nodes r s O O' ((r, s) ∷ paired (parts c) (parts d))
step_opens O O' nodes r s c d sound r_in s_in at at' head opens = record {
  len = refl;
  smaller = let w = work_opened O O' nodes r c at opens in let f = head_weight c d head in let g = paired_length (parts c) (parts d) in omega arith;
  inside = one_more (λ n. n < length nodes) r s (paired (parts c) (parts d)) r_in s_in
      (paired_in (λ n. n < length nodes) (parts c) (parts d) (λ k x lt. (sound.1.each r c at k x lt).0) (λ k x lt. (sound.1.each s d at' k x lt).0));
  forth = λ V fits same. (fits, both_solved V (r, s) (paired (parts c) (parts d)) same (head_forth V r s c d head (fits.each r c at) (fits.each s d at') same));
  back = λ V fits all. (fits, all.each 0 (r, s) refl);
  stays = record { closed = λ F closed has has'. closed; outside = λ F closed has has' n lacks. refl; links = λ n c at is. at };
  within = λ F closed has_r has_s. one_more (λ n. F n ≡ true) r s (paired (parts c) (parts d)) has_r has_s
      (paired_in (λ n. F n ≡ true) (parts c) (parts d) (closed.each r c has_r at) (closed.each s d has_s at'));
}

-- a step, with the roots the other way round
pub step_turned : (O O' : ℕ → Bool) (nodes new : List Node) (r s : ℕ) (extra : List Equation) → Stepped nodes new s r O O' extra → Stepped nodes new r s O O' extra
step_turned O O' nodes new r s extra st = record {
  len = st.len;
  smaller = st.smaller;
  inside = st.inside;
  forth = λ V fits same. st.forth V fits (sym same);
  back = λ V fits all. let h = st.back V fits all in (h.0, sym h.1);
  stays = record {
    closed = λ F closed has_r has_s. st.stays.closed F closed has_s has_r;
    outside = λ F closed has_r has_s. st.stays.outside F closed has_s has_r;
    links = st.stays.links;
  };
  within = λ F closed has_r has_s. st.within F closed has_s has_r;
}

pub never_turned : (nodes : List Node) (r s : ℕ) → NeverOne nodes s r → NeverOne nodes r s
never_turned nodes r s h = record { never = λ V fits same. h.never V fits (sym same) }

-- what a view of a root shows
pub views_at : (nodes : List Node) (n : ℕ) (view : View) (c : Node) → Shows view (root nodes n) (reading nodes n) → root nodes n ≡ n → slice_get nodes n ≡ Some c → Views view c
views_at nodes n view c shows end at = (root nodes n, subst (Shows view (root nodes n)) (ap (slice_get nodes) end ∙ at) shows)

-- two roots with what was planned for them
pub record Planned (nodes : List Node) (r s : ℕ) (plan : Plan) : Type 0 where
  pub left : Node
  pub right : Node
  pub left_at : slice_get nodes r ≡ Some left
  pub right_at : slice_get nodes s ≡ Some right
  pub plans : Plans left right plan

pub cell_at : (nodes : List Node) (n : ℕ) → n < length nodes → (c : Node) × (slice_get nodes n ≡ Some c)
cell_at [] n lt = absurd (omega arith)
cell_at (c ∷ nodes) zero lt = (c, refl)
cell_at (c ∷ nodes) (suc n) lt = cell_at nodes n (omega arith)

pub planned : (nodes : List Node) (r s : ℕ) (view view' : View) (plan : Plan) → r < length nodes → s < length nodes → root nodes r ≡ r → root nodes s ≡ s →
    Shows view (root nodes r) (reading nodes r) → Shows view' (root nodes s) (reading nodes s) →
    ((c d : Node) → Views view c → Views view' d → Plans c d plan) → Planned nodes r s plan
planned nodes r s view view' plan r_in s_in r_end s_end shows shows' plans =
    let (c, at) = cell_at nodes r r_in in
    let (d, at') = cell_at nodes s s_in in
    record { left = c; right = d; left_at = at; right_at = at'; plans = plans c d (views_at nodes r view c shows r_end at) (views_at nodes s view' d shows' s_end at') }

-- a root with a free variable
pub free_at : (nodes : List Node) (n : ℕ) (c : Node) → n < length nodes → root nodes n ≡ n → slice_get nodes n ≡ Some c → IsFreeVar c → IsFree nodes n
free_at nodes n (Var level scope) lt end at free = record { inside = lt; level = level; scope = scope; reads = ap (slice_get nodes) end ∙ at; unbound = free }
free_at nodes n Rigid lt end at free = absurd free
free_at nodes n (Link m) lt end at free = absurd free
free_at nodes n (Arrow a b) lt end at free = absurd free
free_at nodes n (Tuple ms) lt end at free = absurd free
free_at nodes n (Con path name ms) lt end at free = absurd free

one_on : (es : List Equation) (e : Equation) (fs : List Equation) → (es ++ e ∷ []) ++ fs ≡ es ++ e ∷ fs
one_on [] e fs = refl
one_on (x ∷ es) e fs = ap (λ l. x ∷ l) (one_on es e fs)

nothing_more : (es : List Equation) → es ≡ es ++ []
nothing_more [] = refl
nothing_more (e ∷ es) = ap (λ l. e ∷ l) (nothing_more es)

-- what a step did, told by the answer
pub bound_left : (O : ℕ → Bool) (nodes new : List Node) (r s : ℕ) (todo : List Equation) (res : Result (Unit {0}) Stop) → Planned nodes r s BindLeft →
    OnOk res (new ≡ set nodes r (Link s)) → OnOk res (Steps nodes new r s O O todo todo)
bound_left O nodes new r s todo (Ok u) p e = ([], nothing_more todo, step_bind O nodes new r s p.left p.left_at p.plans e)
bound_left O nodes new r s todo (Err f) p e = tt

pub bound_right : (O : ℕ → Bool) (nodes new : List Node) (r s : ℕ) (todo : List Equation) (res : Result (Unit {0}) Stop) → Planned nodes r s BindRight →
    OnOk res (new ≡ set nodes s (Link r)) → OnOk res (Steps nodes new r s O O todo todo)
bound_right O nodes new r s todo (Ok u) p e = ([], nothing_more todo, step_turned O O nodes new r s [] (step_bind O nodes new s r p.right p.right_at p.plans e))
bound_right O nodes new r s todo (Err f) p e = tt

pub tied : (O O' : ℕ → Bool) (nodes new : List Node) (r s : ℕ) (todo todo' : List Equation) → O' ≡ O → IsSound nodes → r ≢ s → (c d : Node) → slice_get nodes r ≡ Some c → slice_get nodes s ≡ Some d → SameHead c d →
    new ≡ set nodes r (Link s) → todo' ≡ todo ++ paired (parts c) (parts d) → Steps nodes new r s O O' todo todo'
tied O O' nodes new r s todo todo' same sound other c d at at' head e left =
    subst (λ P. Steps nodes new r s O P todo todo') (sym same) (paired (parts c) (parts d), left, step_parts O nodes new r s c d sound at at' other head e)

pub opened : (O O' : ℕ → Bool) (nodes : List Node) (r s : ℕ) (todo todo' : List Equation) → IsSound nodes → r < length nodes → s < length nodes → (c d : Node) → slice_get nodes r ≡ Some c → slice_get nodes s ≡ Some d →
    SameHead c d → Opens O O' r → todo' ≡ (todo ++ (r, s) ∷ []) ++ paired (parts c) (parts d) → Steps nodes nodes r s O O' todo todo'
opened O O' nodes r s todo todo' sound r_in s_in c d at at' head opens left =
    ((r, s) ∷ paired (parts c) (parts d), left ∙ one_on todo (r, s) (paired (parts c) (parts d)), step_opens O O' nodes r s c d sound r_in s_in at at' head opens)

-- what stands inside another root clashes
pub inside_clash : (nodes : List Node) (r s : ℕ) (c : Node) (res : Result (Unit {0}) Stop) → IsSound nodes → s < length nodes → root nodes s ≡ s → slice_get nodes s ≡ Some c → r ≢ s →
    IfErr res (λ e. e ≡ Clash → StandsIn nodes r s) → IfErr res (λ e. e ≡ Clash → HaveNoBound nodes r s → NeverOne nodes r s)
inside_clash nodes r s c (Ok u) sound lt end at other h = h
inside_clash nodes r s c (Err e) sound lt end at other h = λ f none. never_inside nodes r s c at (root_no_link nodes sound s c lt (ap (slice_get nodes) end ∙ at)) other (h f)

pub inside_clash_turned : (nodes : List Node) (r s : ℕ) (c : Node) (res : Result (Unit {0}) Stop) → IsSound nodes → r < length nodes → root nodes r ≡ r → slice_get nodes r ≡ Some c → r ≢ s →
    IfErr res (λ e. e ≡ Clash → StandsIn nodes s r) → IfErr res (λ e. e ≡ Clash → HaveNoBound nodes r s → NeverOne nodes r s)
inside_clash_turned nodes r s c (Ok u) sound lt end at other h = h
inside_clash_turned nodes r s c (Err e) sound lt end at other h = λ f none.
    never_turned nodes r s (never_inside nodes s r c at (root_no_link nodes sound r c lt (ap (slice_get nodes) end ∙ at)) (λ z. other (sym z)) (h f))

-- a link to where it doesn't occur leaves no node in itself
pub linked_sound : (nodes new : List Node) (r s : ℕ) → r < length nodes → s < length nodes → IsSound nodes → Apart nodes r s → new ≡ set nodes r (Link s) → IsSound new
linked_sound nodes new r s r_in s_in sound apart e =
    let (c, at) = cell_at nodes r r_in in
    subst IsSound (sym e) (redirected_sound nodes r s c at s_in apart sound)
