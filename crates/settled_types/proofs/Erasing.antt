-- Types without the constructors that aren't among some: an empty tuple stands in the place of each. Unknown types stay.
use Rattle.std.proofs.Common.{◌≡◌, ◌∙◌, ℕ, zero, suc, Bool, true, false, ◌||◌, List, [], ◌∷◌, map, Some, None, refl, sym, ap, inl, inr, if◌then◌else◌}
use Rattle.std.proofs.Math.Path.{fun_ext}
use Rattle.type_model.specs.Types.{Path, Typ, Typs, Var, Arrow, Tuple, Con, Nil, Cons, occurs, occurs_any, types_of}
use Rattle.type_model.specs.Substitutions.{Subst, apply, apply_all}
use Rattle.type_model.specs.Limits.{in_scope, IsInScope, AreInScope}
use Rattle.type_model.proofs.Applying.{or_left, or_right, or_cases}
use Rattle.signature_model.specs.Changes.{among, argument, put, change, change_all}
use Rattle.signature_model.specs.Matching.{is_unknown, used, all_used, IsKnown, AreKnown, filling}
use Rattle.typing_laws.proofs.Bools.{no_yes, and_cases, and_both}
use Rattle.settled_types.specs.Made.{is_made_of, are_made_of}

-- whether a constructor stays
abbrev pub stays : List Path → Path → Bool
stays os o = is_unknown o || among o os

-- a constructor with its arguments, or the empty tuple
abbrev if_it_stays : Bool → Path → Typs → Typ
if_it_stays b o ts = if b then Con o ts else Tuple Nil

abbrev mutual
  -- a type without the others
  pub erase : List Path → Typ → Typ
  erase os (Var v) = Var v
  erase os (Arrow a b) = Arrow (erase os a) (erase os b)
  erase os (Tuple ts) = Tuple (erase_all os ts)
  erase os (Con o ts) = if_it_stays (stays os o) o (erase_all os ts)

  pub erase_all : List Path → Typs → Typs
  erase_all os Nil = Nil
  erase_all os (Cons t ts) = Cons (erase os t) (erase_all os ts)

module _ (os : List Path) where
  -- a type that is made of them stays as it is
  mutual
    pub erase_made : (t : Typ) → is_made_of os t ≡ true → erase os t ≡ t
    erase_made (Var v) h = refl
    erase_made (Arrow a b) h = let (f, g) = and_cases (is_made_of os a) (is_made_of os b) h in let p = erase_made a f in let q = erase_made b g in (λ i. Arrow (p i) (q i))
    erase_made (Tuple ts) h = ap Tuple (erase_made_all ts h)
    erase_made (Con o ts) h =
        let (f, g) = and_cases (among o os) (are_made_of os ts) h in
        ap (λ b. if_it_stays b o (erase_all os ts)) (or_right (is_unknown o) (among o os) f) ∙ ap (Con o) (erase_made_all ts g)

    erase_made_all : (ts : Typs) → are_made_of os ts ≡ true → erase_all os ts ≡ ts
    erase_made_all Nil h = refl
    erase_made_all (Cons t ts) h = let (f, g) = and_cases (is_made_of os t) (are_made_of os ts) h in let p = erase_made t f in let q = erase_made_all ts g in (λ i. Cons (p i) (q i))

  -- so does a constructor that is one of them, over what is left of its arguments
  pub erase_con : (o : Path) (ts : Typs) → among o os ≡ true → erase os (Con o ts) ≡ Con o (erase_all os ts)
  erase_con o ts h = ap (λ b. if_it_stays b o (erase_all os ts)) (or_right (is_unknown o) (among o os) h)

  -- substitutions
  apply_if : (b : Bool) (o : Path) (ts : Typs) (r : Subst) → apply r (if_it_stays b o ts) ≡ if_it_stays b o (apply_all r ts)
  apply_if true o ts r = refl
  apply_if false o ts r = refl

  mutual
    pub erase_apply : (s : Subst) (t : Typ) → erase os (apply s t) ≡ apply (λ v. erase os (s v)) (erase os t)
    erase_apply s (Var v) = refl
    erase_apply s (Arrow a b) = let p = erase_apply s a in let q = erase_apply s b in (λ i. Arrow (p i) (q i))
    erase_apply s (Tuple ts) = ap Tuple (erase_apply_all s ts)
    erase_apply s (Con o ts) = ap (if_it_stays (stays os o) o) (erase_apply_all s ts) ∙ sym (apply_if (stays os o) o (erase_all os ts) (λ v. erase os (s v)))

    erase_apply_all : (s : Subst) (ts : Typs) → erase_all os (apply_all s ts) ≡ apply_all (λ v. erase os (s v)) (erase_all os ts)
    erase_apply_all s Nil = refl
    erase_apply_all s (Cons t ts) = let p = erase_apply s t in let q = erase_apply_all s ts in (λ i. Cons (p i) (q i))

  pub erase_argument : (ts : Typs) (k : ℕ) → erase os (argument ts k) ≡ argument (erase_all os ts) k
  erase_argument Nil k = refl
  erase_argument (Cons t ts) zero = refl
  erase_argument (Cons t ts) (suc k) = erase_argument ts k

  pub erase_types : {A : Type 0} (f : A → Typ) (xs : List A) → erase_all os (types_of (map f xs)) ≡ types_of (map (λ x. erase os (f x)) xs)
  erase_types f [] = refl
  erase_types f (x ∷ xs) = ap (Cons (erase os (f x))) (erase_types f xs)

  -- a type of a declaration in a use
  by_unknown : (f : Path → Typ) (o : Path) (us vs : Typs) → among o os ≡ true → erase_all os us ≡ vs → (b : Bool) → erase os (if b then f o else Con o us) ≡ (if b then erase os (f o) else Con o vs)
  by_unknown f o us vs h e true = refl
  by_unknown f o us vs h e false = erase_con o us h ∙ ap (Con o) e

  mutual
    pub erase_used : (s : Subst) (f : Path → Typ) (t : Typ) → is_made_of os t ≡ true → erase os (used s f t) ≡ used (λ v. erase os (s v)) (λ o. erase os (f o)) t
    erase_used s f (Var v) h = refl
    erase_used s f (Arrow a b) h = let (i, j) = and_cases (is_made_of os a) (is_made_of os b) h in let p = erase_used s f a i in let q = erase_used s f b j in (λ k. Arrow (p k) (q k))
    erase_used s f (Tuple ts) h = ap Tuple (erase_all_used s f ts h)
    erase_used s f (Con o ts) h =
        let (i, j) = and_cases (among o os) (are_made_of os ts) h in
        by_unknown f o (all_used s f ts) (all_used (λ v. erase os (s v)) (λ p. erase os (f p)) ts) i (erase_all_used s f ts j) (is_unknown o)

    erase_all_used : (s : Subst) (f : Path → Typ) (ts : Typs) → are_made_of os ts ≡ true → erase_all os (all_used s f ts) ≡ all_used (λ v. erase os (s v)) (λ o. erase os (f o)) ts
    erase_all_used s f Nil h = refl
    erase_all_used s f (Cons t ts) h = let (i, j) = and_cases (is_made_of os t) (are_made_of os ts) h in let p = erase_used s f t i in let q = erase_all_used s f ts j in (λ k. Cons (p k) (q k))

  -- types for unknown ones
  filled_con : (f : Path → Typ) (o : Path) (us vs : Typs) → erase_all os us ≡ vs → (b c : Bool) →
      erase os (put o (if b then Some (f o) else None) us) ≡ (if b then apply (argument vs) (erase os (f o)) else erase os (Con o us))
  filled_con f o us vs e true c =
      erase_apply (argument us) (f o) ∙ ap (λ s. apply s (erase os (f o))) (fun_ext (erase_argument us) ∙ ap argument e)
  filled_con f o us vs e false c = refl

  changed_con : (f : Path → Typ) (o : Path) (us vs : Typs) → change_all (filling f) us ≡ vs → (b c : Bool) → is_unknown o ≡ b → among o os ≡ c →
      change (filling f) (if_it_stays (b || c) o us) ≡ (if b then apply (argument vs) (f o) else if_it_stays c o vs)
  changed_con f o us vs e true c i j = ap (λ x. put o (if x then Some (f o) else None) (change_all (filling f) us)) i ∙ ap (λ ws. apply (argument ws) (f o)) e
  changed_con f o us vs e false true i j = ap (λ x. put o (if x then Some (f o) else None) (change_all (filling f) us)) i ∙ ap (Con o) e
  changed_con f o us vs e false false i j = refl

  -- one constructor, by whether it is an unknown type
  filled_by : (f : Path → Typ) (o : Path) (ts : Typs) → erase_all os (change_all (filling f) ts) ≡ change_all (filling (λ p. erase os (f p))) (erase_all os ts) → (b : Bool) → is_unknown o ≡ b →
      erase os (change (filling f) (Con o ts)) ≡ change (filling (λ p. erase os (f p))) (erase os (Con o ts))
  filled_by f o ts all true e =
      (let us : Typs = change_all (filling f) ts in
      let vs : Typs = change_all (filling (λ p. erase os (f p))) (erase_all os ts) in
      ap (λ b. erase os (put o (if b then Some (f o) else None) us)) e ∙ filled_con f o us vs all true true ∙
      sym (ap (λ b. change (filling (λ p. erase os (f p))) (if_it_stays (b || among o os) o (erase_all os ts))) e ∙ changed_con (λ p. erase os (f p)) o (erase_all os ts) vs refl true (among o os) e refl))
  filled_by f o ts all false e =
      (let us : Typs = change_all (filling f) ts in
      let vs : Typs = change_all (filling (λ p. erase os (f p))) (erase_all os ts) in
      ap (λ b. erase os (put o (if b then Some (f o) else None) us)) e ∙ ap (λ b. if_it_stays (b || among o os) o (erase_all os us)) e ∙ ap (if_it_stays (among o os) o) all ∙
      sym (ap (λ b. change (filling (λ p. erase os (f p))) (if_it_stays (b || among o os) o (erase_all os ts))) e ∙ changed_con (λ p. erase os (f p)) o (erase_all os ts) vs refl false (among o os) e refl))

  mutual
    pub erase_filled : (f : Path → Typ) (t : Typ) → erase os (change (filling f) t) ≡ change (filling (λ o. erase os (f o))) (erase os t)
    erase_filled f (Var v) = refl
    erase_filled f (Arrow a b) = let p = erase_filled f a in let q = erase_filled f b in (λ i. Arrow (p i) (q i))
    erase_filled f (Tuple ts) = ap Tuple (erase_filled_all f ts)
    erase_filled f (Con o ts) = filled_by f o ts (erase_filled_all f ts) (is_unknown o) refl

    erase_filled_all : (f : Path → Typ) (ts : Typs) → erase_all os (change_all (filling f) ts) ≡ change_all (filling (λ o. erase os (f o))) (erase_all os ts)
    erase_filled_all f Nil = refl
    erase_filled_all f (Cons t ts) = let p = erase_filled f t in let q = erase_filled_all f ts in (λ i. Cons (p i) (q i))

  -- what is left has no other variables, origins and unknown types
  occurs_if : (b : Bool) (o : Path) (ts : Typs) (v : ℕ) → occurs v (if_it_stays b o ts) ≡ true → occurs_any v ts ≡ true
  occurs_if true o ts v h = h
  occurs_if false o ts v h = absurd (no_yes h)

  mutual
    pub occurs_left : (v : ℕ) (t : Typ) → occurs v (erase os t) ≡ true → occurs v t ≡ true
    occurs_left v (Var w) h = h
    occurs_left v (Arrow a b) h = elim (or_cases (occurs v (erase os a)) (occurs v (erase os b)) h) [ inl i ↦ or_left (occurs v a) (occurs v b) (occurs_left v a i) | inr i ↦ or_right (occurs v a) (occurs v b) (occurs_left v b i) ]
    occurs_left v (Tuple ts) h = occurs_left_any v ts h
    occurs_left v (Con o ts) h = occurs_left_any v ts (occurs_if (stays os o) o (erase_all os ts) v h)

    occurs_left_any : (v : ℕ) (ts : Typs) → occurs_any v (erase_all os ts) ≡ true → occurs_any v ts ≡ true
    occurs_left_any v Nil h = h
    occurs_left_any v (Cons t ts) h = elim (or_cases (occurs v (erase os t)) (occurs_any v (erase_all os ts)) h) [ inl i ↦ or_left (occurs v t) (occurs_any v ts) (occurs_left v t i) | inr i ↦ or_right (occurs v t) (occurs_any v ts) (occurs_left_any v ts i) ]

  scope_if : (scope : ℕ) (o : Path) (ts : Typs) → in_scope scope o ≡ true → AreInScope scope ts → (b : Bool) → IsInScope scope (if_it_stays b o ts)
  scope_if scope o ts h g true = (h, g)
  scope_if scope o ts h g false = tt

  mutual
    pub scope_left : (scope : ℕ) (t : Typ) → IsInScope scope t → IsInScope scope (erase os t)
    scope_left scope (Var v) h = tt
    scope_left scope (Arrow a b) h = (scope_left scope a h.0, scope_left scope b h.1)
    scope_left scope (Tuple ts) h = scope_left_all scope ts h
    scope_left scope (Con o ts) h = scope_if scope o (erase_all os ts) h.0 (scope_left_all scope ts h.1) (stays os o)

    scope_left_all : (scope : ℕ) (ts : Typs) → AreInScope scope ts → AreInScope scope (erase_all os ts)
    scope_left_all scope Nil h = tt
    scope_left_all scope (Cons t ts) h = (scope_left scope t h.0, scope_left_all scope ts h.1)

  known_if : (o : Path) (ts : Typs) → is_unknown o ≡ false → AreKnown ts → (b : Bool) → IsKnown (if_it_stays b o ts)
  known_if o ts h g true = (h, g)
  known_if o ts h g false = tt

  mutual
    pub known_left : (t : Typ) → IsKnown t → IsKnown (erase os t)
    known_left (Var v) h = tt
    known_left (Arrow a b) h = (known_left a h.0, known_left b h.1)
    known_left (Tuple ts) h = known_left_all ts h
    known_left (Con o ts) h = known_if o (erase_all os ts) h.0 (known_left_all ts h.1) (stays os o)

    known_left_all : (ts : Typs) → AreKnown ts → AreKnown (erase_all os ts)
    known_left_all Nil h = tt
    known_left_all (Cons t ts) h = (known_left t h.0, known_left_all ts h.1)

  -- each constructor in a type stays
  abbrev mutual
    pub Stays : Typ → Type 0
    Stays (Var v) = Unit {0}
    Stays (Arrow a b) = Stays a × Stays b
    Stays (Tuple ts) = StayAll ts
    Stays (Con o ts) = (stays os o ≡ true) × StayAll ts

    pub StayAll : Typs → Type 0
    StayAll Nil = Unit {0}
    StayAll (Cons t ts) = Stays t × StayAll ts

  stays_if : (o : Path) (ts : Typs) → StayAll ts → (b : Bool) → stays os o ≡ b → Stays (if_it_stays b o ts)
  stays_if o ts h true e = (e, h)
  stays_if o ts h false e = tt

  -- as in what is left of one
  mutual
    pub left_stays : (t : Typ) → Stays (erase os t)
    left_stays (Var v) = tt
    left_stays (Arrow a b) = (left_stays a, left_stays b)
    left_stays (Tuple ts) = left_stay ts
    left_stays (Con o ts) = stays_if o (erase_all os ts) (left_stay ts) (stays os o) refl

    left_stay : (ts : Typs) → StayAll (erase_all os ts)
    left_stay Nil = tt
    left_stay (Cons t ts) = (left_stays t, left_stay ts)

  -- and in a type of which one in which it is so is an instance
  mutual
    pub instance_stays : (s : Subst) (t : Typ) → Stays (apply s t) → Stays t
    instance_stays s (Var v) h = tt
    instance_stays s (Arrow a b) h = (instance_stays s a h.0, instance_stays s b h.1)
    instance_stays s (Tuple ts) h = instance_stay s ts h
    instance_stays s (Con o ts) h = (h.0, instance_stay s ts h.1)

    instance_stay : (s : Subst) (ts : Typs) → StayAll (apply_all s ts) → StayAll ts
    instance_stay s Nil h = tt
    instance_stay s (Cons t ts) h = (instance_stays s t h.0, instance_stay s ts h.1)

  -- Such a type is made of them where no unknown type stands in it.
  mutual
    pub made_known : (t : Typ) → Stays t → IsKnown t → is_made_of os t ≡ true
    made_known (Var v) h k = refl
    made_known (Arrow a b) h k = and_both (is_made_of os a) (is_made_of os b) (made_known a h.0 k.0) (made_known b h.1 k.1)
    made_known (Tuple ts) h k = made_all ts h k
    made_known (Con o ts) h k = and_both (among o os) (are_made_of os ts) (ap (λ b. b || among o os) (sym k.0) ∙ h.0) (made_all ts h.1 k.1)

    made_all : (ts : Typs) → StayAll ts → AreKnown ts → are_made_of os ts ≡ true
    made_all Nil h k = refl
    made_all (Cons t ts) h k = and_both (is_made_of os t) (are_made_of os ts) (made_known t h.0 k.0) (made_all ts h.1 k.1)
