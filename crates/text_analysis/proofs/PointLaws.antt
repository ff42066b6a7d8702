-- The points before items, while items are typed and while typing goes back to one of them.
use Rattle.std.proofs.Common.{◌≡◌, ◌∙◌, inl, inr, ℕ, zero, suc, ◌+◌, ◌<◌, ◌≤◌, Bool, true, false, List, [], ◌∷◌, ◌++◌, length, length-append, take, drop, Some, None, Option, if◌then◌else◌, refl, sym, ap, subst, arith}
use Rattle.std.specs.Prelude.{slice_get, nat_lt}
use Rattle.std.proofs.lemmas.Bool.{lt-ltb, le-ltb, ltb-true, ltb-false}
use Rattle.tree_model.specs.Trees.{Tree, inner}
use Rattle.level_unify.specs.Solutions.{Tightens}
use Rattle.level_unify.proofs.Tightening.{tightens_refl, tightens_trans}
use Rattle.type_nodes.specs.Nodes.{Node}
use Rattle.type_nodes.specs.States.{state_at}
use Rattle.type_nodes.proofs.Trails.{state_now}
use Rattle.type_nodes.proofs.Lists.{get-append_left, get-append_last, get-append_cases}
use Rattle.row_parts.specs.Numbered.{node_with}
use Rattle.env_table.specs.declared.entries.Entry.{Entry}
use Rattle.typed_index.specs.Seen.{seen_at, before_item}
use Rattle.env_table.specs.declared.seen.Seen.{Seen}
use Rattle.typing_state.specs.declared.parts.Parts.{Parts}
use Rattle.typing_state.specs.Goes.{faults_of, Goes}
use Rattle.binding_rows.specs.ItemRows.{IsCarriedItemOperand}
use Rattle.module_steps.specs.declared.scenes.Scene.{Scene}
use Rattle.module_steps.specs.Scenes.{SameNames}
use Rattle.module_typing.specs.Items.{GivesItem, NamesNone}
use Rattle.text_analysis.specs.declared.point.Point.{Point}
use Rattle.text_analysis.specs.Given.{NoneStands, IsAs, HasFront}
use Rattle.text_analysis.specs.Points.{EndsAt, IsPointOf, LeadsBack, IsSooner, ArePoints, GoesBack, GoesOnFrom}
use Rattle.text_analysis.proofs.GivenLaws.{given_back, given_more, carried_split}

pub take_whole : {A : Type 0} (xs : List A) → take (length xs) xs ≡ xs
take_whole [] = refl
take_whole (x ∷ xs) = ap (λ l. x ∷ l) (take_whole xs)

pub take_left : {A : Type 0} (k : ℕ) (xs ys : List A) → k ≤ length xs → take k (xs ++ ys) ≡ take k xs
take_left zero xs ys h = refl
take_left (suc k) [] ys h = absurd (omega arith)
take_left (suc k) (x ∷ xs) ys h = ap (λ l. x ∷ l) (take_left k xs ys (omega arith))

pub take_twice : {A : Type 0} (k n : ℕ) (xs : List A) → k ≤ n → take k (take n xs) ≡ take k xs
take_twice zero n xs h = refl
take_twice (suc k) zero xs h = absurd (omega arith)
take_twice (suc k) (suc n) [] h = refl
take_twice (suc k) (suc n) (x ∷ xs) h = ap (λ l. x ∷ l) (take_twice k n xs (omega arith))

length_taken : {A : Type 0} (k : ℕ) (xs : List A) → length (take k xs) ≤ length xs
length_taken zero xs = omega arith
length_taken (suc k) [] = omega arith
length_taken (suc k) (x ∷ xs) = let h = length_taken k xs in omega arith

pub length_taken_as : {A : Type 0} (k : ℕ) (xs : List A) → k ≤ length xs → length (take k xs) ≡ k
length_taken_as zero xs h = refl
length_taken_as (suc k) [] h = absurd (omega arith)
length_taken_as (suc k) (x ∷ xs) h = ap suc (length_taken_as k xs (omega arith))

pub within : {A : Type 0} (xs : List A) (k : ℕ) (x : A) → slice_get xs k ≡ Some x → k < length xs
within [] k x h = absurd (cc)
within (y ∷ xs) zero x h = omega arith
within (y ∷ xs) (suc k) x h = let i = within xs k x h in omega arith

-- what is recorded for the items before one
before_in : (n : ℕ) (f : ℕ → ℕ → Option Seen) (i q : ℕ) → i < n → before_item n f i q ≡ f i q
before_in n f i q h = ap (λ t. if t then f i q else None) (lt-ltb i n h)

pub before_past : (n : ℕ) (f : ℕ → ℕ → Option Seen) (i q : ℕ) → n ≤ i → before_item n f i q ≡ None
before_past n f i q h = ap (λ t. if t then f i q else None) (le-ltb i n h)

-- it is as before where it is as before for each of them
before_same : (n : ℕ) (f g : ℕ → ℕ → Option Seen) → ((i q : ℕ) → i < n → g i q ≡ f i q) → (i q : ℕ) → before_item n g i q ≡ before_item n f i q
before_same n f g same i q = by (nat_lt i n) refl
  where
    by : (t : Bool) → nat_lt i n ≡ t → before_item n g i q ≡ before_item n f i q
    by true e = let lt = ltb-true i n e in before_in n g i q lt ∙ same i q lt ∙ sym (before_in n f i q lt)
    by false e = let past = ltb-false i n e in before_past n g i q past ∙ sym (before_past n f i q past)

-- it is all that is recorded where nothing is for later ones
before_all : (n : ℕ) (f : ℕ → ℕ → Option Seen) → ((i q : ℕ) → n ≤ i → f i q ≡ None) → (i q : ℕ) → before_item n f i q ≡ f i q
before_all n f none i q = by (nat_lt i n) refl
  where
    by : (t : Bool) → nat_lt i n ≡ t → before_item n f i q ≡ f i q
    by true e = before_in n f i q (ltb-true i n e)
    by false e = let past = ltb-false i n e in before_past n f i q past ∙ sym (none i q past)

-- a point of the present state brings it back
pub point_now : {first : Parts} {env : List Entry} {items : List Tree} {at : Parts} {now : Scene} {plain : Bool} (p : Point) (number : ℕ) → EndsAt first env items at now plain → IsPointOf p number at now plain → number ≡ length items + 1 → LeadsBack first env items p at
point_now {first} {env} {items} {at} {now} {plain} p number ends is next = record {
  before = at;
  scene = now;
  ends = subst (EndsAt first env items at now) (sym is.plain) ends;
  number_is = is.number_is ∙ next;
  scope = is.scope;
  within = let e = is.mark in omega arith;
  nodes = ap (state_at at.store) is.mark ∙ state_now at.store;
  types = tightens_refl at.store.nodes;
  counted = let e = is.faults in omega arith;
  faults = ap (λ n. take n (faults_of at)) is.faults ∙ take_whole (faults_of at);
  index = before_all p.number (seen_at at.index) (λ i q past. ends.unrecorded i q (let e = is.number_is ∙ next in omega arith));
  constants = refl;
}

-- and comes after the others
pub points_more : {first : Parts} {env : List Entry} {items : List Tree} {ps : List Point} {at : Parts} {now : Scene} {plain : Bool} (p : Point) (number : ℕ) → ArePoints first env items ps at → length ps ≡ length items → EndsAt first env items at now plain → IsPointOf p number at now plain →
    number ≡ length items + 1 → ArePoints first env items (ps ++ p ∷ []) at
points_more {first} {env} {items} {ps} {at} p number are counted ends is next = record {
  each = λ k q h. elim (get-append_cases ps p k q h) [
    | inl e ↦ are.each k q e
    | inr (e, e') ↦ subst (λ x. LeadsBack first env (take k items) x at) (sym e') (subst (λ ts. LeadsBack first env ts p at) (sym (ap (λ n. take n items) (e ∙ counted) ∙ take_whole items)) (point_now p number ends is next))
  ];
  ordered = λ j k q r lt hj hk. let inside = in_front j k q r lt hj hk in elim (get-append_cases ps p k r hk) [
    | inl e ↦ are.ordered j k q r lt inside e
    | inr (e, e') ↦ subst (λ x. IsSooner q x at) (sym e') (sooner_now (are.each j q inside))
  ];
}
  where
    in_front : (j k : ℕ) (q r : Point) → j < k → slice_get (ps ++ p ∷ []) j ≡ Some q → slice_get (ps ++ p ∷ []) k ≡ Some r → slice_get ps j ≡ Some q
    in_front j k q r lt hj hk = elim (get-append_cases ps p j q hj) [
      | inl e ↦ e
      | inr (e, e') ↦ absurd (elim (get-append_cases ps p k r hk) [ inl f ↦ let w = within ps k r f in omega arith | inr (f, f') ↦ omega arith ])
    ]

    sooner_now : {items : List Tree} {q : Point} → LeadsBack first env items q at → IsSooner q p at
    sooner_now {items} {q} l = record {
      mark = let w = l.within in let m = is.mark in omega arith;
      faults = let w = l.counted in let m = is.faults in omega arith;
      types = subst (Tightens (state_at at.store q.mark.0)) (sym (ap (state_at at.store) is.mark ∙ state_now at.store)) (subst (λ ns. Tightens ns at.store.nodes) (sym l.nodes) l.types);
    }

tightens_between : {old new old' new' : List Node} → old ≡ old' → new ≡ new' → Tightens old new → Tightens old' new'
tightens_between {old} {new} {old'} {new'} e f h = subst (λ ns. Tightens ns new') e (subst (Tightens old) f h)

-- a point brings back the same from a state that goes on from there with the next item
leads_goes : {first : Parts} {env : List Entry} {items : List Tree} {p : Point} {a b d : Parts} (number : ℕ) → LeadsBack first env items p a → b.store ≡ a.store → IsAs a b → length items < number → b.item ≡ number → Goes b d → LeadsBack first env items p d
leads_goes {first} {env} {items} {p} {a} {b} {d} number leads store alike lt item goes =
    let own = leads.number_is in
    let longer : length a.store.trail ≤ length d.store.trail = subst (λ s. length s.trail ≤ length d.store.trail) store goes.store.longer in
    let inside = leads.within in
    let begins : faults_of d ≡ faults_of a ++ goes.faults.0 = goes.faults.1 ∙ ap (λ fs. fs ++ goes.faults.0) alike.faults in
    record {
      before = leads.before;
      scene = leads.scene;
      ends = leads.ends;
      number_is = own;
      scope = leads.scope;
      within = omega arith;
      nodes = goes.store.states p.mark.0 (subst (λ s. p.mark.0 ≤ length s.trail) (sym store) inside) ∙ ap (λ s. state_at s p.mark.0) store ∙ leads.nodes;
      types = tightens_trans leads.before.store.nodes a.store.nodes d.store.nodes leads.types (subst (λ s. Tightens s.nodes d.store.nodes) store goes.types);
      counted = let c = leads.counted in let n : length (faults_of d) ≡ length (faults_of a) + length goes.faults.0 = ap length begins ∙ length-append (faults_of a) goes.faults.0 in omega arith;
      faults = ap (take p.faults) begins ∙ take_left p.faults (faults_of a) goes.faults.0 leads.counted ∙ leads.faults;
      index = λ i q. before_same p.number (seen_at a.index) (seen_at d.index) (λ j r below. goes.index j r (λ e. absurd (let n : j ≡ number = e ∙ item in omega arith)) ∙ alike.index j r) i q ∙ leads.index i q;
      constants = goes.constants ∙ alike.constants ∙ leads.constants;
    }

pub points_go : {first : Parts} {env : List Entry} {ps : List Point} {a d : Parts} (items : List Tree) (number : ℕ) → ArePoints first env items ps a → GoesOnFrom a number d → number ≡ length items + 1 → ArePoints first env items ps d
points_go {a = a} {d = d} items number are on next = record {
  each = λ k p h. leads_goes number (are.each k p h) on.store on.alike (let n = length_taken k items in omega arith) on.item on.goes;
  ordered = λ j k p q lt hj hk. let o = are.ordered j k p q lt hj hk in record { mark = o.mark; faults = o.faults; types = tightens_between (sym (kept p (are.each j p hj).within)) (sym (kept q (are.each k q hk).within)) o.types };
}
  where
    kept : (p : Point) → p.mark.0 ≤ length a.store.trail → state_at d.store p.mark.0 ≡ state_at a.store p.mark.0
    kept p inside = on.goes.store.states p.mark.0 (subst (λ s. p.mark.0 ≤ length s.trail) (sym on.store) inside) ∙ ap (λ s. state_at s p.mark.0) on.store

-- the points of items are those of these items with one more
pub points_before : {first : Parts} {env : List Entry} {ps : List Point} {a : Parts} (items : List Tree) (t : Tree) → ArePoints first env items ps a → length ps ≤ length items + 1 → ArePoints first env (items ++ t ∷ []) ps a
points_before {first} {env} {ps} {a} items t are few = record {
  each = λ k p h. subst (λ ts. LeadsBack first env ts p a) (sym (take_left k items (t ∷ []) (let w = within ps k p h in omega arith))) (are.each k p h);
  ordered = are.ordered;
}

-- One item more is typed.
pub ends_more : {first a b d : Parts} {env : List Entry} {s s' : Scene} {plain plain' : Bool} (items : List Tree) (t : Tree) → EndsAt first env items a s plain → IsAs a b → b.telling ≡ a.telling → b.level ≡ a.level → b.item ≡ length items + 1 → GivesItem b d s s' (node_with 0 t) → Goes b d →
    (NamesNone (inner t) → SameNames s s') → (plain' ≡ true → (plain ≡ true) × NamesNone (inner t)) → (IsCarriedItemOperand (node_with 0 t) → plain ≡ true → plain' ≡ true) → EndsAt first env (items ++ t ∷ []) d s' plain'
ends_more {first} {a} {b} {d} {env} {s} {s'} items t ends alike telling level item gives goes same plain known = record {
  given = given_more {first = first} {a = a} {b = b} {d = d} {env = env} {s = s} {s' = s'} items t ends.given alike telling level item gives;
  unrecorded = λ i p past. let n : length (items ++ t ∷ []) ≡ length items + 1 = length-append items (t ∷ []) in goes.index i p (λ e. absurd (let f : i ≡ length items + 1 = e ∙ item in omega arith)) ∙ alike.index i p ∙ ends.unrecorded i p (omega arith);
  plain = λ e k n. let h = plain e in same h.1 k n ∙ ends.plain h.0 k n;
  known = λ c. let h = carried_split items t c in known h.1 (ends.known h.0);
}

-- The state after the first items is brought back.
pub ends_back : {first a b : Parts} {env : List Entry} {items : List Tree} {s : Scene} (p : Point) → LeadsBack first env items p a → GoesBack p a b → s.env ≡ p.env → (p.is_plain ≡ true → NoneStands s) → EndsAt first env items b s p.is_plain
ends_back {first} {a} {b} {env} {items} {s} p leads back scope none = record {
  given = given_back {first = first} {a = leads.before} {b = b} {env = env} {s = leads.scene} {s' = s} items (record {
    nodes = (back.store leads.within).nodes ∙ leads.nodes;
    index = λ i q. back.index i q ∙ leads.index i q;
    faults = back.faults ∙ leads.faults;
    constants = back.constants ∙ leads.constants;
  }) back.aloud back.level (scope ∙ leads.scope) (λ carried k n. let plain = leads.ends.known carried in none plain k n ∙ sym (leads.ends.plain plain k n)) leads.ends.given;
  unrecorded = λ i q past. back.index i q ∙ before_past p.number (seen_at a.index) i q (let n = leads.number_is in omega arith);
  plain = none;
  known = leads.ends.known;
}

-- the last point leads back to the items before it
pub last_point : {first a : Parts} {env : List Entry} {items : List Tree} (ps : List Point) (p : Point) → ArePoints first env items (ps ++ p ∷ []) a → LeadsBack first env (take (length ps) items) p a
last_point ps p are = are.each (length ps) p (get-append_last ps p)

-- and so are the points before it
pub points_back : {first a b : Parts} {env : List Entry} {ps : List Point} (items : List Tree) (p : Point) → ArePoints first env items (ps ++ p ∷ []) a → length ps ≤ length items → GoesBack p a b → ArePoints first env (take (length ps) items) ps b
points_back {first} {a} {b} {env} {ps} items p are few back = record {
  each = each;
  ordered = λ j k q r lt hj hk. let o = are.ordered j k q r lt (in_all j q hj) (in_all k r hk) in record { mark = o.mark; faults = o.faults; types = tightens_between (sym (kept j q hj)) (sym (kept k r hk)) o.types };
}
  where
    in_all : (k : ℕ) (q : Point) → slice_get ps k ≡ Some q → slice_get (ps ++ p ∷ []) k ≡ Some q
    in_all k q h = get-append_left ps (p ∷ []) k (within ps k q h) ∙ h

    last : LeadsBack first env (take (length ps) items) p a
    last = last_point ps p are

    sooner : (k : ℕ) (q : Point) → slice_get ps k ≡ Some q → IsSooner q p a
    sooner k q h = are.ordered k (length ps) q p (within ps k q h) (in_all k q h) (get-append_last ps p)

    kept : (k : ℕ) (q : Point) → slice_get ps k ≡ Some q → state_at b.store q.mark.0 ≡ state_at a.store q.mark.0
    kept k q h = (back.store last.within).states q.mark.0 (sooner k q h).mark

    each : (k : ℕ) (q : Point) → slice_get ps k ≡ Some q → LeadsBack first env (take k (take (length ps) items)) q b
    each k q h =
        let lt = within ps k q h in
        let l = are.each k q (in_all k q h) in
        let o = sooner k q h in
        let r = back.store last.within in
        let n = length_taken_as k items (omega arith) in
        let whole = length_taken_as (length ps) items few in
        let own = l.number_is in
        let end = last.number_is in
        let trail : length b.store.trail ≡ p.mark.0 = ap length r.trail ∙ length_taken_as p.mark.0 a.store.trail last.within in
        let count : length (faults_of b) ≡ p.faults = ap length back.faults ∙ length_taken_as p.faults (faults_of a) last.counted in
        let m = o.mark in
        let f = o.faults in
        subst (λ ts. LeadsBack first env ts q b) (sym (take_twice k (length ps) items (omega arith))) (record {
          before = l.before;
          scene = l.scene;
          ends = l.ends;
          number_is = l.number_is;
          scope = l.scope;
          within = omega arith;
          nodes = kept k q h ∙ l.nodes;
          types = tightens_between l.nodes (sym r.nodes) o.types;
          counted = omega arith;
          faults = ap (take q.faults) back.faults ∙ take_twice q.faults p.faults (faults_of a) f ∙ l.faults;
          index = λ i x. before_same q.number (seen_at a.index) (seen_at b.index) (λ j y below. back.index j y ∙ before_in p.number (seen_at a.index) j y (omega arith)) i x ∙ l.index i x;
          constants = back.constants ∙ l.constants;
        })

-- the first elements of a list
pub get_front : {A : Type 0} (n : ℕ) (xs : List A) (k : ℕ) (x : A) → slice_get (take n xs) k ≡ Some x → (k < n) × (slice_get xs k ≡ Some x)
get_front zero xs k x h = absurd (cc)
get_front (suc n) [] k x h = absurd (cc)
get_front (suc n) (y ∷ xs) zero x h = (omega arith, h)
get_front (suc n) (y ∷ xs) (suc k) x h = let r = get_front n xs k x h in (let e = r.0 in omega arith, r.1)

-- of the first items, and of the one after them
pub points_cut : {first a : Parts} {env : List Entry} {ps : List Point} (items : List Tree) (n : ℕ) → ArePoints first env items ps a → ArePoints first env (take n items) (take (n + 1) ps) a
points_cut {first} {a} {env} {ps} items n are = record {
  each = λ k q h. let r = get_front (n + 1) ps k q h in subst (λ ts. LeadsBack first env ts q a) (sym (take_twice k n items (let e = r.0 in omega arith))) (are.each k q r.1);
  ordered = λ j k q r lt hj hk. let x = get_front (n + 1) ps j q hj in let y = get_front (n + 1) ps k r hk in are.ordered j k q r lt x.1 y.1;
}

-- there is a point before each item
point_there : (ps : List Point) (k : ℕ) → k < length ps → (p : Point) × (slice_get ps k ≡ Some p)
point_there [] k h = absurd (omega arith)
point_there (p ∷ ps) zero h = (p, refl)
point_there (p ∷ ps) (suc k) h = point_there ps k (omega arith)

split_at : {A : Type 0} (n : ℕ) (xs : List A) → xs ≡ take n xs ++ drop n xs
split_at zero xs = refl
split_at (suc n) [] = refl
split_at (suc n) (x ∷ xs) = ap (λ l. x ∷ l) (split_at n xs)

-- the state goes on from the one after the first items
pub points_fronts : {first : Parts} {env : List Entry} {ps : List Point} {at : Parts} (items : List Tree) → ArePoints first env items ps at → (k : ℕ) → k < length ps → HasFront first env (take k items) at
points_fronts {first} {env} {ps} {at} items are k lt =
    let (p, is) = point_there ps k lt in
    let l = are.each k p is in
    record {
      before = l.before;
      now = l.scene;
      given = l.ends.given;
      types = l.types;
      faults = (drop p.faults (faults_of at), split_at p.faults (faults_of at) ∙ ap (λ fs. fs ++ drop p.faults (faults_of at)) l.faults);
      index = λ i q within. sym (before_in p.number (seen_at at.index) i q (let n = l.number_is in omega arith)) ∙ l.index i q;
    }
