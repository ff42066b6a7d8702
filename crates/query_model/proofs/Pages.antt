-- The faults in order, and a page of the first of them that is kept while they come.
use Rattle.std.proofs.Common.{◌≡◌, ℕ, zero, suc, ◌+◌, length, ◌<◌, ◌≤◌, ◌⊎◌, inl, inr, List, [], ◌∷◌, ◌++◌, take, drop, refl, sym, ◌∙◌, ap, subst, arith, Bool, true, false, if◌then◌else◌}
use Rattle.std.proofs.lemmas.List.{take-take}
use Rattle.std.specs.Prelude.{◌&&◌, ◌||◌, nat_eq, nat_lt}
use Rattle.query_model.specs.Faults.{Fault, front, is_before, rank, placed, placed_among, ordered, NoneBefore, InOrder}

-- whether one fault is told before another, by its three numbers
abbrev earlier : (a b c x y z : ℕ) → Bool
earlier a b c x y z = nat_lt a x || nat_eq a x && nat_lt b y || (nat_eq a x && nat_eq b y) && nat_lt c z

-- the second three numbers are those of a fault that is told before, or with, that of the first
abbrev UpTo : (a b c x y z : ℕ) → Type 0
UpTo a b c x y z = (x < a) ⊎ ((x ≡ a) × ((y < b) ⊎ ((y ≡ b) × (z ≤ c))))

-- of two faults at most one is told before the other
earlier_one : (a b c x y z : ℕ) → earlier a b c x y z ≡ true → earlier x y z a b c ≡ false
earlier_one a b c x y z h = grind arith

up_to : (a b c x y z : ℕ) → earlier a b c x y z ≡ false → UpTo a b c x y z
up_to a b c x y z h = grind arith

not_earlier : (a b c x y z : ℕ) → UpTo a b c x y z → earlier a b c x y z ≡ false
not_earlier a b c x y z (inl l) = grind arith
not_earlier a b c x y z (inr (e, inl l)) = grind arith
not_earlier a b c x y z (inr (e, inr l)) = grind arith

chained : (a b c x y z u v w : ℕ) → UpTo a b c x y z → UpTo x y z u v w → UpTo a b c u v w
chained a b c x y z u v w (inl l) (inl m) = inl (omega arith)
chained a b c x y z u v w (inl l) (inr m) = inl (omega (arith, m.0))
chained a b c x y z u v w (inr l) (inl m) = inl (omega (arith, l.0))
chained a b c x y z u v w (inr (e, inl l)) (inr (f, inl m)) = inr (omega arith, inl (omega arith))
chained a b c x y z u v w (inr (e, inl l)) (inr (f, inr m)) = inr (omega arith, inl (omega (arith, m.0)))
chained a b c x y z u v w (inr (e, inr l)) (inr (f, inl m)) = inr (omega arith, inl (omega (arith, l.0)))
chained a b c x y z u v w (inr (e, inr l)) (inr (f, inr m)) = inr (omega arith, inr (omega (arith, l.0, m.0), omega (arith, l.1, m.1)))

-- where a fault isn't told before a second, nor the second before a third, the first isn't told before the third
not_before : (f g h : Fault) → is_before f g ≡ false → is_before g h ≡ false → is_before f h ≡ false
not_before f g h p q =
    not_earlier f.span.start f.span.end (rank f.source) h.span.start h.span.end (rank h.source)
    (chained f.span.start f.span.end (rank f.source) g.span.start g.span.end (rank g.source) h.span.start h.span.end (rank h.source)
    (up_to f.span.start f.span.end (rank f.source) g.span.start g.span.end (rank g.source) p)
    (up_to g.span.start g.span.end (rank g.source) h.span.start h.span.end (rank h.source) q))

-- of two faults at most one is told before the other
not_both : (f g : Fault) → is_before f g ≡ true → is_before g f ≡ false
not_both f g p = earlier_one f.span.start f.span.end (rank f.source) g.span.start g.span.end (rank g.source) p

-- what is told before no fault of a list is told before none that is told later than its first
none_before_on : (f g : Fault) (hs : List Fault) → is_before g f ≡ false → NoneBefore g hs → NoneBefore f hs
none_before_on f g [] p n = tt
none_before_on f g (h ∷ hs) p n = (not_before h g f n.0 p, none_before_on f g hs p n.1)

placed_none : (g f : Fault) (hs : List Fault) → is_before f g ≡ false → NoneBefore g hs → NoneBefore g (placed f hs)
placed_none g f [] p n = (p, tt)
placed_none g f (h ∷ hs) p n = by (is_before f h) (placed_none g f hs p n.1)
  where
    by : (b : Bool) → NoneBefore g (placed f hs) → NoneBefore g (if b then f ∷ h ∷ hs else h ∷ placed f hs)
    by true r = (p, n)
    by false r = (n.0, r)

-- a fault put among faults in order leaves them in order
pub placed_in_order : (f : Fault) (gs : List Fault) → InOrder gs → InOrder (placed f gs)
placed_in_order f [] o = (tt, tt)
placed_in_order f (g ∷ gs) o = by (is_before f g) refl (placed_in_order f gs o.1)
  where
    by : (b : Bool) → is_before f g ≡ b → InOrder (placed f gs) → InOrder (if b then f ∷ g ∷ gs else g ∷ placed f gs)
    by true e r = ((not_both f g e, none_before_on f g gs (not_both f g e) o.0), o)
    by false e r = (placed_none g f gs e o.0, r)

-- so are all that are put one by one
placed_among_in_order : (done fs : List Fault) → InOrder done → InOrder (placed_among done fs)
placed_among_in_order done [] o = o
placed_among_in_order done (f ∷ fs) o = placed_among_in_order (placed f done) fs (placed_in_order f done o)

-- the faults in order are in order
pub ordered_in_order : (fs : List Fault) → InOrder (ordered fs)
unfolding ordered
ordered_in_order fs = placed_among_in_order [] fs tt

-- the first faults of some in order are in order
none_before_taken : (n : ℕ) (f : Fault) (gs : List Fault) → NoneBefore f gs → NoneBefore f (take n gs)
none_before_taken zero f gs h = tt
none_before_taken (suc n) f [] h = tt
none_before_taken (suc n) f (g ∷ gs) h = (h.0, none_before_taken n f gs h.1)

pub taken_in_order : (n : ℕ) (gs : List Fault) → InOrder gs → InOrder (take n gs)
taken_in_order zero gs h = tt
taken_in_order (suc n) [] h = tt
taken_in_order (suc n) (g ∷ gs) h = (none_before_taken n g gs h.0, taken_in_order n gs h.1)

-- one more than are wanted among the first may be left out
taken_behind : (n : ℕ) (g : Fault) (gs : List Fault) → take n (g ∷ take n gs) ≡ take n (g ∷ gs)
taken_behind zero g gs = refl
taken_behind (suc n) g [] = refl
taken_behind (suc n) g (h ∷ hs) = ap (λ l. g ∷ l) (taken_behind n h hs)

-- the first faults with one more put among them are those of all with it
placed_taken : (n : ℕ) (f : Fault) (gs : List Fault) → take n (placed f (take n gs)) ≡ take n (placed f gs)
placed_taken zero f gs = refl
placed_taken (suc n) f [] = refl
placed_taken (suc n) f (g ∷ gs) = by (is_before f g) (placed_taken n f gs)
  where
    by : (b : Bool) → take n (placed f (take n gs)) ≡ take n (placed f gs) → take (suc n) (if b then f ∷ g ∷ take n gs else g ∷ placed f (take n gs)) ≡ take (suc n) (if b then f ∷ g ∷ gs else g ∷ placed f gs)
    by true r = ap (λ l. f ∷ l) (taken_behind n g gs)
    by false r = ap (λ l. g ∷ l) r

-- of faults that are put one by one, only the first that are there so far decide which are the first
pub placed_among_taken : (n : ℕ) (done fs : List Fault) → take n (placed_among (take n done) fs) ≡ take n (placed_among done fs)
placed_among_taken n done [] = take-take n n done (omega arith)
placed_among_taken n done (f ∷ fs) =
    sym (placed_among_taken n (placed f (take n done)) fs) ∙ ap (λ gs. take n (placed_among gs fs)) (placed_taken n f done) ∙ placed_among_taken n (placed f done) fs

-- the last of faults in order is told before none of them
last_none_before : (g l : Fault) (gs : List Fault) → NoneBefore g (gs ++ l ∷ []) → is_before l g ≡ false
last_none_before g l [] h = h.0
last_none_before g l (x ∷ gs) h = last_none_before g l gs h.1

-- a fault that isn't told before the last of some in order stands behind all of them
pub placed_behind : (f l : Fault) (gs : List Fault) → InOrder (gs ++ l ∷ []) → is_before f l ≡ false → placed f (gs ++ l ∷ []) ≡ (gs ++ l ∷ []) ++ f ∷ []
placed_behind f l [] o e = rw e refl
placed_behind f l (g ∷ gs) o e =
    let later : is_before f g ≡ false = not_before f l g e (last_none_before g l gs o.0) in
    rw later (ap (λ hs. g ∷ hs) (placed_behind f l gs o.1 e))

-- there are no more in front of a fault than there are
pub front_within : (f : Fault) (gs : List Fault) → front f gs ≤ length gs
front_within f [] = omega arith
front_within f (g ∷ gs) = by (is_before f g) (front_within f gs)
  where
    by : (b : Bool) → front f gs ≤ length gs → (if b then 0 else 1 + front f gs) ≤ length (g ∷ gs)
    by true r = omega arith
    by false r = omega arith

-- a fault is put behind those in front of it
pub placed_at_front : (f : Fault) (gs : List Fault) → placed f gs ≡ take (front f gs) gs ++ f ∷ drop (front f gs) gs
placed_at_front f [] = refl
placed_at_front f (g ∷ gs) = by (is_before f g) (placed_at_front f gs)
  where
    by : (b : Bool) → placed f gs ≡ take (front f gs) gs ++ f ∷ drop (front f gs) gs
        → (if b then f ∷ g ∷ gs else g ∷ placed f gs) ≡ take (if b then 0 else 1 + front f gs) (g ∷ gs) ++ f ∷ drop (if b then 0 else 1 + front f gs) (g ∷ gs)
    by true r = refl
    by false r = let e : suc (front f gs) ≡ 1 + front f gs = omega arith in subst (λ n. g ∷ placed f gs ≡ take n (g ∷ gs) ++ f ∷ drop n (g ∷ gs)) e (ap (λ hs. g ∷ hs) r)
