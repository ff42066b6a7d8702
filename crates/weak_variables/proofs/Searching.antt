-- Searches for variables, one after the other.
use Rattle.std.proofs.Common.{◌≡◌, ◌∙◌, ◌⊎◌, inl, inr, ℕ, zero, suc, ◌+◌, ◌<◌, ◌≤◌, Bool, true, false, ◌&&◌, not, nat_eq, nat_lt, List, [], ◌∷◌, ◌++◌, length, map, drop, slice_index_or, Option, None, Some, Result, Ok, Err, refl, sym, ap, subst, arith, if◌then◌else◌}
use Rattle.std.specs.Prelude.{slice_get, OnOk}
use Rattle.std.proofs.lemmas.List.{drop_more, drop_all, map-append}
use Rattle.std.proofs.lemmas.Bool.{eqb-true, eq-eqb}
use Rattle.type_terms.specs.declared.types.NodeRef.{NodeRef}
use Rattle.std.specs.declared.rc.Rc.{Rc}
use Rattle.std.specs.declared.vec.Vec.{Vec}
use Rattle.std.specs.declared.alloc.Global.{Global}
use Rattle.env_table.specs.declared.entries.Entry.{Entry}
use Rattle.env_table.specs.declared.entries.What.{What}
use Rattle.env_table.specs.declared.entries.What.TheVariants as what
use Rattle.type_nodes.specs.Views.{numbers}
use Rattle.std.proofs.lemmas.Bool.Decides.{nat_tests}
use Rattle.type_nodes.specs.Nodes.{Node, IsClosed, Var, Rigid, Link, Arrow, Tuple, Con, bound_level}
use Rattle.type_nodes.specs.Links.{root, reading}
use Rattle.type_nodes.proofs.Roots.{root_here, next_stays}
use Rattle.type_nodes.proofs.Lists.{get-append_cases, get-append_left, get-append_last}
use Rattle.level_unify.specs.Walks.{StandsIn, Reached}
use Rattle.typing_conditions.specs.Locals.{IsFreeVar}
use Rattle.typing_conditions.specs.Standing.{IsIn}
use Rattle.weak_variables.specs.Free.{IsFreeIn, HasRoot, IsRoot, AreAllValues, IsFound, FreeOf}
use Rattle.weak_variables.specs.Search.{free_cell, is_free, lists_of, IsFreeAs}
use Rattle.weak_variables.specs.Listed.{Lists, Adds, IsFreeInOne, Finds}
use Rattle.weak_variables.proofs.Standing.{place_inside, free_inside}

-- ---- members of lists

pub in_left : (xs ys : List ℕ) (v : ℕ) → IsIn xs v → IsIn (xs ++ ys) v
in_left xs ys v (k, at) = (k, get-append_left xs ys k (place_inside xs k v at) ∙ at)

pub in_last : (xs : List ℕ) (v : ℕ) → IsIn (xs ++ v ∷ []) v
in_last xs v = (length xs, get-append_last xs v)

pub in_cases : (xs : List ℕ) (x v : ℕ) → IsIn (xs ++ x ∷ []) v → IsIn xs v ⊎ (v ≡ x)
in_cases xs x v (k, at) = elim (get-append_cases xs x k v at) [ inl h ↦ inl (k, h) | inr h ↦ inr h.1 ]

pub in_head : (x : ℕ) (xs : List ℕ) (v : ℕ) → IsIn (x ∷ xs) v → (v ≡ x) ⊎ IsIn xs v
in_head x xs v (zero, at) = inl (let same : x ≡ v = cc in sym same)
in_head x xs v (suc k, at) = inr (k, at)

pub in_none : (v : ℕ) → IsIn [] v → ⊥
in_none v (k, at) = cc

-- ---- searches

pub lists_refl : (before : ℕ → Bool) (olds : List ℕ) → Lists before before olds olds
lists_refl before olds = record { keeps = λ v h. h; only = λ v h. inl h; goes = λ v h. h }

pub lists_then : (a b c : ℕ → Bool) (us vs ws : List ℕ) → Lists a b us vs → Lists b c vs ws → Lists a c us ws
lists_then a b c us vs ws h k = record {
  keeps = λ v is. k.keeps v (h.keeps v is);
  only = λ v is. elim (k.only v is) [ inl was ↦ elim (h.only v was) [ inl first ↦ inl first | inr found ↦ inr (k.goes v found) ] | inr found ↦ inr found ];
  goes = λ v is. k.goes v (h.goes v is);
}

pub adds_none : {P : ℕ → Type 0} (before : ℕ → Bool) (olds : List ℕ) → ((v : ℕ) → P v → before v ≡ true) → Adds P before before olds olds
adds_none before olds all = record { lists = lists_refl before olds; all = all; found = λ v h. inl h }

pub adds_then : {P Q : ℕ → Type 0} (a b c : ℕ → Bool) (us vs ws : List ℕ) → Adds P a b us vs → Adds Q b c vs ws → Adds (λ v. P v ⊎ Q v) a c us ws
adds_then a b c us vs ws h k = record {
  lists = lists_then a b c us vs ws h.lists k.lists;
  all = λ v either. elim either [ inl p ↦ k.lists.keeps v (h.all v p) | inr q ↦ k.all v q ];
  found = λ v is. elim (k.found v is) [ inl was ↦ elim (h.found v was) [ inl first ↦ inl first | inr p ↦ inr (inl p) ] | inr q ↦ inr (inr q) ];
}

pub adds_as : {P Q : ℕ → Type 0} (a b : ℕ → Bool) (us vs : List ℕ) → ((v : ℕ) → P v → Q v) → ((v : ℕ) → Q v → P v) → Adds P a b us vs → Adds Q a b us vs
adds_as a b us vs f g h = record { lists = h.lists; all = λ v q. h.all v (g v q); found = λ v is. elim (h.found v is) [ inl was ↦ inl was | inr p ↦ inr (f v p) ] }

-- one variable more is listed and found
pub adds_one : (before after : ℕ → Bool) (r : ℕ) (us vs : List ℕ) → ((v : ℕ) → after v ≡ (if nat_eq r v then true else before v)) → vs ≡ us ++ r ∷ [] → Adds (λ v. v ≡ r) before after us vs
adds_one before after r us vs now grown = record {
  lists = record {
    keeps = λ v h. now v ∙ by (nat_eq r v) (before v) h;
    only = λ v h. elim (split (nat_eq r v) (before v) refl (sym (now v) ∙ h)) [ inl e ↦ inr (subst (λ ws. IsIn ws v) (sym grown) (subst (λ w. IsIn (us ++ r ∷ []) w) (eqb-true r v e) (in_last us r))) | inr was ↦ inl was ];
    goes = λ v h. subst (λ ws. IsIn ws v) (sym grown) (in_left us (r ∷ []) v h);
  };
  all = λ v is. now v ∙ ap (λ b. if b then true else before v) (eq-eqb r v (sym is));
  found = λ v h. in_cases us r v (subst (λ ws. IsIn ws v) grown h);
}
  where
    by : (b c : Bool) → c ≡ true → (if b then true else c) ≡ true
    by true c h = refl
    by false c h = h

    split : (b c : Bool) {d : Bool} → d ≡ b → (if b then true else c) ≡ true → (d ≡ true) ⊎ (c ≡ true)
    split true c e h = inl e
    split false c e h = inr h

-- ---- what is reached from a node

-- a free variable is its own root
pub root_of_free : (nodes : List Node) (v : ℕ) → IsFreeVar nodes v → root nodes v ≡ v
root_of_free nodes v f = root_here nodes v (next_stays nodes v (Var f.level f.scope) f.at tt)

-- a free variable among these
abbrev pub IsFreeAmong : List Node → List ℕ → ℕ → Type 0
IsFreeAmong nodes ms v = IsIn ms v × IsFreeVar nodes v

-- the free ones among all that is reached from a node are those that are free in its type
pub reached_free : (nodes : List Node) (n : ℕ) (ms : List ℕ) → Reached nodes n ms → (v : ℕ) → IsFreeAmong nodes ms v → IsFreeInOne nodes (λ m. m ≡ n) v
reached_free nodes n ms r v ((k, at), f) = (n, refl, record { var = f; stands = (r.roots k v at).2 })

pub free_reached : (nodes : List Node) (n : ℕ) (ms : List ℕ) → Reached nodes n ms → (v : ℕ) → IsFreeInOne nodes (λ m. m ≡ n) v → IsFreeAmong nodes ms v
free_reached nodes n ms r v (m, same, f) =
    let stands : StandsIn nodes v n = subst (StandsIn nodes v) same f.stands in
    let (k, at) = r.listed v (stands.each r.set r.closed r.start) in
    ((k, at ∙ ap Some (root_of_free nodes v f.var)), f.var)

-- nothing is free in what is no node
pub no_node : (nodes : List Node) (n v : ℕ) → (n < length nodes → ⊥) → IsFreeIn nodes n v → ⊥
no_node nodes n v none f = none (subst (λ m. m < length nodes) (sym (eqb-true n v (f.stands.each (nat_eq n) closed (eq-eqb n n refl)))) (free_inside nodes v f.var))
  where
    closed : IsClosed nodes (nat_eq n)
    closed = record { each = λ m c is at. absurd (none (subst (λ k. k < length nodes) (sym (eqb-true n m is)) (place_inside nodes m c at))) }

-- ---- the calls of a search

pub on_ok : {A E P Q : Type 0} (r : Result A E) → (P → Q) → OnOk r P → OnOk r Q
on_ok (Ok a) f h = f h
on_ok (Err e) f h = tt

below : (n m : ℕ) → n < m → nat_lt n m ≡ true
below n m h = grind (arith, nat_tests)

-- what is free reads as a variable
pub free_is : (nodes : List Node) (v : ℕ) → IsFreeVar nodes v → is_free nodes v ≡ true
free_is nodes v f = both (nat_lt v (length nodes)) (free_cell (reading nodes v)) (below v (length nodes) (free_inside nodes v f)) (ap (λ r. free_cell (slice_get nodes r)) (root_of_free nodes v f) ∙ ap free_cell f.at ∙ unbound (nat_eq f.level bound_level) refl)
  where
    both : (a b : Bool) → a ≡ true → b ≡ true → a && b ≡ true
    both a b one other = rw (one, other) refl

    unbound : (b : Bool) → nat_eq f.level bound_level ≡ b → not b ≡ true
    unbound false e = refl
    unbound true e = absurd (f.free (eqb-true f.level bound_level e))

-- a root that reads as a variable is one
pub is_free_var : (nodes : List Node) (v : ℕ) → root nodes v ≡ v → is_free nodes v ≡ true → IsFreeVar nodes v
is_free_var nodes v own is = by (slice_get nodes v) refl (ap (λ r. free_cell (slice_get nodes r)) (sym own) ∙ (right (nat_lt v (length nodes)) (free_cell (reading nodes v)) is))
  where
    right : (a b : Bool) → a && b ≡ true → b ≡ true
    right true b e = e
    right false b e = cc

    other : (b : Bool) → not b ≡ true → b ≡ true → ⊥
    other true e h = cc
    other false e h = cc

    by : (c : Option Node) → slice_get nodes v ≡ c → free_cell c ≡ true → IsFreeVar nodes v
    by None e h = absurd (cc)
    by (Some (Var level scope)) e h = record { level = level; scope = scope; at = e; free = λ bound. other (nat_eq level bound_level) h (eq-eqb level bound_level bound) }
    by (Some Rigid) e h = absurd (cc)
    by (Some (Link m)) e h = absurd (cc)
    by (Some (Arrow x y)) e h = absurd (cc)
    by (Some (Tuple ms)) e h = absurd (cc)
    by (Some (Con p name ms)) e h = absurd (cc)

-- a node that is a free variable is listed
pub list_free : (nodes : List Node) (a b : ℕ → Bool) (us vs : List ℕ) (n : ℕ) (test : Bool) → test ≡ is_free nodes n → test ≡ true → Adds (λ v. v ≡ n) a b us vs → Adds (IsFreeAs nodes (λ v. v ≡ n)) a b us vs
list_free nodes a b us vs n test is so = adds_as a b us vs (λ v e. (e, ap (is_free nodes) e ∙ sym is ∙ so)) (λ v p. p.0)

pub list_none : (nodes : List Node) (a : ℕ → Bool) (us : List ℕ) (n : ℕ) (test : Bool) → test ≡ is_free nodes n → test ≡ false → Adds (IsFreeAs nodes (λ v. v ≡ n)) a a us us
list_none nodes a us n test is off = adds_none a us (λ v p. absurd (let e : true ≡ false = sym p.1 ∙ ap (is_free nodes) p.0 ∙ sym is ∙ off in cc))

-- numbers of one node more
number_read : (xs : List NodeRef) (i : ℕ) (d : NodeRef) → i < length xs → numbers (drop i xs) ≡ (slice_index_or xs i d).0 ∷ numbers (drop (i + 1) xs)
number_read xs i d lt = ap numbers (drop_more xs i d lt)

-- a node more of some
pub list_more : (nodes : List Node) (xs : List NodeRef) (i : ℕ) (d : NodeRef) (a b c : ℕ → Bool) (us vs ws : List ℕ) → i < length xs → Adds (IsFreeAs nodes (λ v. v ≡ (slice_index_or xs i d).0)) a b us vs →
    Adds (IsFreeAs nodes (IsIn (numbers (drop (i + 1) xs)))) b c vs ws → Adds (IsFreeAs nodes (IsIn (numbers (drop i xs)))) a c us ws
list_more nodes xs i d a b c us vs ws lt h k =
    subst (λ ns. Adds (IsFreeAs nodes (IsIn ns)) a c us ws) (sym (number_read xs i d lt))
    (adds_as a c us ws
    (λ v either. elim either [ inl p ↦ ((zero, ap Some (sym p.0)), p.1) | inr p ↦ let (j, at) = p.0 in ((suc j, at), p.1) ])
    (λ v p. elim (in_head (slice_index_or xs i d).0 (numbers (drop (i + 1) xs)) v p.0) [ inl same ↦ inl (same, p.1) | inr later ↦ inr (later, p.1) ])
    (adds_then a b c us vs ws h k))

pub look_more : (nodes : List Node) (xs : List NodeRef) (i : ℕ) (d : NodeRef) (a b c : ℕ → Bool) (us vs ws : List ℕ) → i < length xs → Finds nodes (λ m. m ≡ (slice_index_or xs i d).0) a b us vs →
    Finds nodes (IsIn (numbers (drop (i + 1) xs))) b c vs ws → Finds nodes (IsIn (numbers (drop i xs))) a c us ws
look_more nodes xs i d a b c us vs ws lt h k =
    subst (λ ns. Finds nodes (IsIn ns) a c us ws) (sym (number_read xs i d lt))
    (adds_as a c us ws
    (λ v either. elim either [ inl p ↦ let (n, same, f) = p in (n, (zero, ap Some (sym same)), f) | inr p ↦ let (n, (j, at), f) = p in (n, (suc j, at), f) ])
    (λ v p. let (n, here, f) = p in elim (in_head (slice_index_or xs i d).0 (numbers (drop (i + 1) xs)) n here) [ inl same ↦ inl (n, same, f) | inr later ↦ inr (n, later, f) ])
    (adds_then a b c us vs ws h k))

-- and at their end
pub list_end : (nodes : List Node) (xs : List NodeRef) (i : ℕ) (a : ℕ → Bool) (us : List ℕ) → length xs ≤ i → Adds (IsFreeAs nodes (IsIn (numbers (drop i xs)))) a a us us
list_end nodes xs i a us past = adds_none a us (λ v p. absurd (in_none v (subst (λ ns. IsIn (numbers ns) v) (drop_all i xs past) p.0)))

pub look_end : (nodes : List Node) (xs : List NodeRef) (i : ℕ) (a : ℕ → Bool) (us : List ℕ) → length xs ≤ i → Finds nodes (IsIn (numbers (drop i xs))) a a us us
look_end nodes xs i a us past = adds_none a us (λ v p. absurd (let (n, here, f) = p in in_none n (subst (λ ns. IsIn (numbers ns) n) (drop_all i xs past) here)))

-- what is reached from a node
pub look_reached : (nodes : List Node) (n : ℕ) (ms ns : List NodeRef) (a b : ℕ → Bool) (us vs : List ℕ) → Reached nodes n (numbers ms) → ns ≡ ms → Adds (IsFreeAs nodes (IsIn (numbers ns))) a b us vs → Finds nodes (λ m. m ≡ n) a b us vs
look_reached nodes n ms ns a b us vs r same h =
    adds_as a b us vs
    (λ v p. let (k, at) = p.0 in reached_free nodes n (numbers ms) r v (p.0, is_free_var nodes v (r.roots k v at).1 p.1))
    (λ v p. let (there, f) = free_reached nodes n (numbers ms) r v p in (there, free_is nodes v f))
    (subst (λ xs. Adds (IsFreeAs nodes (IsIn (numbers xs))) a b us vs) same h)

pub look_none : (nodes : List Node) (n : ℕ) (a : ℕ → Bool) (us : List ℕ) → (n < length nodes → ⊥) → Finds nodes (λ m. m ≡ n) a a us us
look_none nodes n a us none = adds_none a us (λ v p. absurd (let (m, same, f) = p in no_node nodes n v none (subst (λ k. IsFreeIn nodes k v) same f)))

-- an entry that is a value
pub entry_value : (nodes : List Node) (w : What) (n m : NodeRef) (a b : ℕ → Bool) (us vs : List ℕ) → w ≡ what.Scheme n → w ≡ what.Scheme m → Finds nodes (λ k. k ≡ n.0) a b us vs → Finds nodes (λ k. k ≡ m.0) a b us vs
entry_value nodes w n m a b us vs is so h = let same : n ≡ m = let e : what.Scheme n ≡ what.Scheme m = sym is ∙ so in cc in subst (λ (x : NodeRef). Finds nodes (λ k. k ≡ x.0) a b us vs) same h

-- the numbers of nodes with one more behind them
pub number_last : (xs ys : List NodeRef) (x : NodeRef) → ys ≡ xs ++ x ∷ [] → numbers ys ≡ numbers xs ++ x.0 ∷ []
number_last xs ys x e = ap numbers e ∙ map-append (λ (n : NodeRef). n.0) xs (x ∷ [])

-- ---- the entries of an item

-- the entries behind owners
abbrev pub entries_in : List (Rc Entry Global) → List Entry
entries_in es = map (λ e. e.value) es

-- an entry more: what is found in its type, and then in those of the others
pub entries_more : (nodes : List Node) (es : List (Rc Entry Global)) (i : ℕ) (x : Rc Entry Global) (a b c : ℕ → Bool) (us vs ws : List ℕ) → i < length es → x ≡ slice_index_or es i x → ((m : NodeRef) → x.value.what ≡ what.Scheme m → Finds nodes (λ k. k ≡ m.0) a b us vs) →
    (AreAllValues (entries_in (drop (i + 1) es)) → Finds nodes (IsRoot (entries_in (drop (i + 1) es))) b c vs ws) → AreAllValues (entries_in (drop i es)) → Finds nodes (IsRoot (entries_in (drop i es))) a c us ws
entries_more nodes es i x a b c us vs ws lt e one rest values = subst (λ fs. Finds nodes (IsRoot fs) a c us ws) (sym read) (by (subst AreAllValues read values))
  where
    read : entries_in (drop i es) ≡ x.value ∷ entries_in (drop (i + 1) es)
    read = ap entries_in (drop_more es i x lt ∙ ap (λ y. y ∷ drop (i + 1) es) (sym e))

    by : AreAllValues (x.value ∷ entries_in (drop (i + 1) es)) → Finds nodes (IsRoot (x.value ∷ entries_in (drop (i + 1) es))) a c us ws
    by ((m, is), others) =
        adds_as a c us ws
        (λ v either. elim either [ inl p ↦ let (n, same, f) = p in (n, inl (m, is, sym same), f) | inr p ↦ let (n, r, f) = p in (n, inr r, f) ])
        (λ v p. let (n, r, f) = p in elim r [ inl own ↦ inl (n, root_is own, f) | inr other ↦ inr (n, other, f) ])
        (adds_then a b c us vs ws (one m is) (rest others))
      where
        root_is : {n : ℕ} → HasRoot x.value n → n ≡ m.0
        root_is (k, so, at) = let same : k ≡ m = let z : what.Scheme k ≡ what.Scheme m = sym so ∙ is in cc in sym at ∙ ap (λ (y : NodeRef). y.0) same

-- and at their end
pub entries_end : (nodes : List Node) (es : List (Rc Entry Global)) (i : ℕ) (a : ℕ → Bool) (us : List ℕ) → length es ≤ i → AreAllValues (entries_in (drop i es)) → Finds nodes (IsRoot (entries_in (drop i es))) a a us us
entries_end nodes es i a us past values = adds_none a us (λ v p. let (n, r, f) = p in absurd (subst (λ fs. IsRoot (entries_in fs) n) (drop_all i es past) r))

-- ---- lists of nodes

-- a list more
pub lists_more : (nodes : List Node) (vs : List (Vec NodeRef Global)) (i : ℕ) (x : Vec NodeRef Global) (ns : List NodeRef) (a b c : ℕ → Bool) (us ws zs : List ℕ) → i < length vs → x ≡ slice_index_or vs i x → ns ≡ x.items → Finds nodes (IsIn (numbers ns)) a b us ws →
    Finds nodes (IsFound (lists_of (drop (i + 1) vs))) b c ws zs → Finds nodes (IsFound (lists_of (drop i vs))) a c us zs
lists_more nodes vs i x ns a b c us ws zs lt e same one rest =
    subst (λ fs. Finds nodes (IsFound fs) a c us zs) (sym (ap lists_of (drop_more vs i x lt ∙ ap (λ y. y ∷ drop (i + 1) vs) (sym e))))
    (adds_as a c us zs
    (λ v either. elim either [ inl p ↦ let (n, here, f) = p in (n, inl here, f) | inr p ↦ let (n, later, f) = p in (n, inr later, f) ])
    (λ v p. let (n, found, f) = p in elim found [ inl here ↦ inl (n, here, f) | inr later ↦ inr (n, later, f) ])
    (adds_then a b c us ws zs (subst (λ ms. Finds nodes (IsIn (numbers ms)) a b us ws) same one) rest))

pub lists_end : (nodes : List Node) (vs : List (Vec NodeRef Global)) (i : ℕ) (a : ℕ → Bool) (us : List ℕ) → length vs ≤ i → Finds nodes (IsFound (lists_of (drop i vs))) a a us us
lists_end nodes vs i a us past = adds_none a us (λ v p. let (n, found, f) = p in absurd (subst (λ fs. IsFound (lists_of fs) n) (drop_all i vs past) found))

-- from where nothing is listed and found
pub finds_from : (nodes : List Node) (R : ℕ → Type 0) (a c : ℕ → Bool) (us ws : List ℕ) → ((v : ℕ) → a v ≡ false) → us ≡ [] → Finds nodes R a c us ws → Finds nodes R (λ v. false) c [] ws
finds_from nodes R a c us ws none empty h = record {
  lists = record {
    keeps = λ v e. absurd (cc);
    only = λ v is. elim (h.lists.only v is) [ inl was ↦ absurd (let e = none v in cc) | inr found ↦ inr found ];
    goes = λ v is. absurd (in_none v is);
  };
  all = h.all;
  found = λ v is. elim (h.found v is) [ inl was ↦ absurd (in_none v (subst (λ ns. IsIn ns v) empty was)) | inr p ↦ inr p ];
}

-- So what was found then is what is free.
pub free_found : (nodes : List Node) (R : ℕ → Type 0) (after : ℕ → Bool) (ws : List ℕ) → Finds nodes R (λ v. false) after [] ws → FreeOf nodes R ws
free_found nodes R after ws h = record {
  all = λ n v r f. elim (h.lists.only v (h.all v (n, r, f))) [ inl was ↦ absurd (cc) | inr found ↦ found ];
  only = λ v is. elim (h.found v is) [ inl was ↦ absurd (in_none v was) | inr p ↦ p ];
}
