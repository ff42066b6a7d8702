-- Each type has a value, and one that no line's first pattern is a head of.
use Rattle.std.proofs.Common.{◌≡◌, ℕ, zero, suc, pred, ◌+◌, ◌≤◌, Bool, true, false, ◌&&◌, ◌||◌, List, [], ◌∷◌, length, map, ◌⊎◌, inl, inr, Option, Some, None, refl, sym, ap, ◌∙◌, subst, arith, cond}
use Rattle.std.specs.Prelude.{option_map, unwrap_or}
use Rattle.std.specs.Option.{option_or}
use Rattle.type_model.specs.Types.{Typ}
use Rattle.signature_model.specs.Declarations.{Name}
use Rattle.signature_model.specs.Components.{same_name}
use Rattle.match_model.specs.Values.{Value, Values, built, literal, opaque, cut_off, no_values, also_value, matches, match_all, matches_some, is_in, all_in, Shape, open_shape}
use Rattle.match_model.specs.Forms.{Built, Form, closed_form, open_form, literals, no_form, World, form_of, constructors_of, IsOne, first, later, IsOf, AreOf, below as cut}
use Rattle.pattern_matrix.specs.Lines.{Member, Typed, Typeds, any, con, lit, either, none, also, Line, without_head, each_without_head, headless, is_head, some_is_head, heads_some, family_in, family_in_some, family, first_absent, shapes_in, open_shapes, open_built, column, column_by}
use Rattle.pattern_matrix.specs.Typing.{plain, plains, member, members, IsSound}
use Rattle.pattern_matrix.proofs.Matching.{Column, match_line, match_some, LinesFit, or-none, or-and, match_some-append, name-is, name-same, name-turned}
use Rattle.pattern_matrix.proofs.Fitting.{family-typed, family-typed-in}

abbrev pub Some_of : World → ℕ → Typ → Type 0
Some_of w d t = (v : Value) × IsOf w d t v

abbrev pub Some_each : World → ℕ → List Typ → Type 0
Some_each w d ts = (us : Values) × AreOf w d ts us

each : (w : World) (d : ℕ) → ((t : Typ) → Some_of w d t) → (ts : List Typ) → Some_each w d ts
each w d f [] = (no_values, AreOf.none)
each w d f (t ∷ ts) = let r = each w d f ts in (also_value (f t).0 r.0, AreOf.and_one (f t).1 r.1)

-- a value of a form, where there are values of the parts
of_form : (w : World) → IsSound w → (d : ℕ) (t : Typ) (f : Form) → form_of w t ≡ f → ((ts : List Typ) → Some_each w (pred d) ts) → Some_of w d t
of_form w s d t (closed_form []) e parts = absurd (s.inhabited t e)
of_form w s d t (closed_form (k ∷ ks)) e parts =
    let one : IsOne k (constructors_of (form_of w t)) = subst (λ f. IsOne k (constructors_of f)) (sym e) first in
    (built k.name (parts k.parts).0, IsOf.of_constructor' one (parts k.parts).1)
of_form w s d t (open_form ks) e parts = (opaque, IsOf.of_other e)
of_form w s d t literals e parts = (literal [], IsOf.of_literal' e)
of_form w s d t no_form e parts = (opaque, IsOf.of_no_form e)

inhabitant : (w : World) → IsSound w → (d : ℕ) (t : Typ) → Some_of w d t
inhabitant w s zero t = (cut_off, cut)
inhabitant w s (suc d) t = of_form w s (suc d) t (form_of w t) refl (each w d (inhabitant w s d))

pub inhabitants : (w : World) → IsSound w → (d : ℕ) (ts : List Typ) → Some_each w d ts
inhabitants w s d ts = each w d (inhabitant w s d) ts

-- a value that no head in a pattern matches
abbrev mutual
  pub Avoids : Value → Typed → Type 0
  Avoids v any = Unit {0}
  Avoids v (con all n ps) = matches (plain (con all n ps)) v ≡ false
  Avoids v (lit n) = matches (plain (lit n)) v ≡ false
  Avoids v (either ps) = AvoidsEach v ps

  pub AvoidsEach : Value → Typeds → Type 0
  AvoidsEach v none = Unit {0}
  AvoidsEach v (also p ps) = Avoids v p × AvoidsEach v ps

abbrev pub AvoidsLine : Value → Line → Type 0
AvoidsLine v [] = Unit {0}
AvoidsLine v (p ∷ rest) = Avoids v p

abbrev pub AvoidsLines : Value → List Line → Type 0
AvoidsLines v [] = Unit {0}
AvoidsLines v (l ∷ ls) = AvoidsLine v l × AvoidsLines v ls

mutual
  without_head-avoided : (v : Value) (p : Typed) → Avoids v p → (rest : Line) (vs : List Value) → (matches (plain p) v && match_line rest vs) ≡ match_some (without_head p rest) vs
  without_head-avoided v any h rest vs = sym (or-none (match_line rest vs))
  without_head-avoided v (con all n ps) h rest vs = ap (λ b. b && match_line rest vs) h
  without_head-avoided v (lit n) h rest vs = ap (λ b. b && match_line rest vs) h
  without_head-avoided v (either ps) h rest vs = each_without_head-avoided v ps h rest vs

  each_without_head-avoided : (v : Value) (ps : Typeds) → AvoidsEach v ps → (rest : Line) (vs : List Value) → (matches_some (plains ps) v && match_line rest vs) ≡ match_some (each_without_head ps rest) vs
  each_without_head-avoided v none h rest vs = refl
  each_without_head-avoided v (also p ps) h rest vs =
      let m = match_line rest vs in
      sym (or-and (matches (plain p) v) (matches_some (plains ps) v) m) ∙ ap (λ b. b || (matches_some (plains ps) v && m)) (without_head-avoided v p h.0 rest vs)
      ∙ ap (λ b. match_some (without_head p rest) vs || b) (each_without_head-avoided v ps h.1 rest vs)
      ∙ sym (match_some-append (without_head p rest) (each_without_head ps rest) vs)

-- such a value is matched as what is behind it is by the lines without a head
pub headless-avoided : (v : Value) (ls : List Line) → AvoidsLines v ls → (vs : List Value) → match_some ls (v ∷ vs) ≡ match_some (headless ls) vs
headless-avoided v [] h vs = refl
headless-avoided v ([] ∷ ls) h vs = headless-avoided v ls h.1 vs
headless-avoided v ((p ∷ rest) ∷ ls) h vs =
    ap (λ b. b || match_some ls (v ∷ vs)) (without_head-avoided v p h.0 rest vs) ∙ ap (λ b. match_some (without_head p rest) vs || b) (headless-avoided v ls h.1 vs)
    ∙ sym (match_some-append (without_head p rest) (headless ls) vs)

-- an opaque value
mutual
  opaque-avoids : (p : Typed) → Avoids opaque p
  opaque-avoids any = tt
  opaque-avoids (con all n ps) = refl
  opaque-avoids (lit n) = refl
  opaque-avoids (either ps) = opaque-avoids-each ps

  opaque-avoids-each : (ps : Typeds) → AvoidsEach opaque ps
  opaque-avoids-each none = tt
  opaque-avoids-each (also p ps) = (opaque-avoids p, opaque-avoids-each ps)

opaque-avoids-lines : (ls : List Line) → AvoidsLines opaque ls
opaque-avoids-lines [] = tt
opaque-avoids-lines ([] ∷ ls) = (tt, opaque-avoids-lines ls)
opaque-avoids-lines ((p ∷ rest) ∷ ls) = (opaque-avoids p, opaque-avoids-lines ls)

-- a literal that is longer than all
abbrev mutual
  long_in : Typed → ℕ
  long_in any = 0
  long_in (con all n ps) = 0
  long_in (lit n) = suc (length n)
  long_in (either ps) = long_in_each ps

  long_in_each : Typeds → ℕ
  long_in_each none = 0
  long_in_each (also p ps) = long_in p + long_in_each ps

abbrev long_in_line : Line → ℕ
long_in_line [] = 0
long_in_line (p ∷ rest) = long_in p

abbrev long_in_lines : List Line → ℕ
long_in_lines [] = 0
long_in_lines (l ∷ ls) = long_in_line l + long_in_lines ls

abbrev zeros : ℕ → Name
zeros zero = []
zeros (suc n) = 0 ∷ zeros n

length-zeros : (n : ℕ) → length (zeros n) ≡ n
length-zeros zero = refl
length-zeros (suc n) = ap suc (length-zeros n)

other-by : (a b : Name) (x : Bool) → same_name a b ≡ x → (a ≡ b → ⊥) → same_name a b ≡ false
other-by a b true e other = absurd (other (name-is a b e))
other-by a b false e other = e

if-other : (a b : Name) → (a ≡ b → ⊥) → same_name a b ≡ false
if-other a b other = other-by a b (same_name a b) refl other

mutual
  literal-avoids : (n : ℕ) (p : Typed) → long_in p ≤ n → Avoids (literal (zeros n)) p
  literal-avoids n any h = tt
  literal-avoids n (con all m ps) h = refl
  literal-avoids n (lit m) h = if-other m (zeros n) (λ e. let l : length m ≡ n = ap length e ∙ length-zeros n in omega arith)
  literal-avoids n (either ps) h = literal-avoids-each n ps h

  literal-avoids-each : (n : ℕ) (ps : Typeds) → long_in_each ps ≤ n → AvoidsEach (literal (zeros n)) ps
  literal-avoids-each n none h = tt
  literal-avoids-each n (also p ps) h = (literal-avoids n p (omega arith), literal-avoids-each n ps (omega arith))

literal-avoids-lines : (n : ℕ) (ls : List Line) → long_in_lines ls ≤ n → AvoidsLines (literal (zeros n)) ls
literal-avoids-lines n [] h = tt
literal-avoids-lines n ([] ∷ ls) h = (tt, literal-avoids-lines n ls (omega arith))
literal-avoids-lines n ((p ∷ rest) ∷ ls) h = (literal-avoids n p (omega arith), literal-avoids-lines n ls (omega arith))

-- a constructor that heads no line
or-neither : (a b : Bool) → (a || b) ≡ false → (a ≡ false) × (b ≡ false)
or-neither true b e = cc
or-neither false b e = (refl, e)

mutual
  built-avoids : (k : Name) (us : Values) (p : Typed) → is_head k p ≡ false → Avoids (built k us) p
  built-avoids k us any h = tt
  built-avoids k us (con all n ps) h = ap (λ b. b && match_all (plains ps) us) (name-turned n k ∙ h)
  built-avoids k us (lit n) h = refl
  built-avoids k us (either ps) h = built-avoids-each k us ps h

  built-avoids-each : (k : Name) (us : Values) (ps : Typeds) → some_is_head k ps ≡ false → AvoidsEach (built k us) ps
  built-avoids-each k us none h = tt
  built-avoids-each k us (also p ps) h =
      let e = or-neither (is_head k p) (some_is_head k ps) h in
      (built-avoids k us p e.0, built-avoids-each k us ps e.1)

built-avoids-lines : (k : Name) (us : Values) (ls : List Line) → heads_some k ls ≡ false → AvoidsLines (built k us) ls
built-avoids-lines k us [] h = tt
built-avoids-lines k us ([] ∷ ls) h = (tt, built-avoids-lines k us ls h)
built-avoids-lines k us ((p ∷ rest) ∷ ls) h =
    let e = or-neither (is_head k p) (heads_some k ls) h in
    (built-avoids k us p e.0, built-avoids-lines k us ls e.1)

-- where the first constructor of a column knows none, and its type has some, there is no constructor
or-empty : (a b : Option (List Member)) → option_or a b ≡ None → (a ≡ None) × (b ≡ None)
or-empty None b e = (refl, e)
or-empty (Some all) b e = cc

mutual
  headless-in : (k : Name) (p : Typed) → family_in p ≡ None → is_head k p ≡ false
  headless-in k any e = refl
  headless-in k (con all n ps) e = cc
  headless-in k (lit n) e = refl
  headless-in k (either ps) e = headless-in-each k ps e

  headless-in-each : (k : Name) (ps : Typeds) → family_in_some ps ≡ None → some_is_head k ps ≡ false
  headless-in-each k none e = refl
  headless-in-each k (also p ps) e =
      let f = or-empty (family_in p) (family_in_some ps) e in
      ap (λ b. b || some_is_head k ps) (headless-in k p f.0) ∙ headless-in-each k ps f.1

family-none : (o : Option (List Member)) (all : List Member) → unwrap_or o all ≡ [] → ((own : List Member) → o ≡ Some own → own ≡ [] → ⊥) → (o ≡ None) × (all ≡ [])
family-none None all e f = (refl, e)
family-none (Some own) all e f = absurd (f own refl e)

pub all-headless : (w : World) (c : Column) (cs : List Column) (ls : List Line) → LinesFit w (c ∷ cs) ls → (members (form_of w c.body) ≡ [] → ⊥) → family ls ≡ [] →
    (k : Name) → heads_some k ls ≡ false
all-headless w c cs [] h some e k = refl
all-headless w c cs ([] ∷ ls) h some e k = absurd h.0
all-headless w c cs ((p ∷ rest) ∷ ls) h some e k =
    let f = family-none (family_in p) (family ls) e (λ own is empty. some (sym (family-typed-in w c p h.0.0 h.0.1 own is).0 ∙ empty)) in
    ap (λ b. b || heads_some k ls) (headless-in k p f.0) ∙ all-headless w c cs ls h.1 some f.1 k

abbrev Absent : List Built → List Line → Member → Type 0
Absent bs ls m = (k : Built) × IsOne k bs × (m ≡ member k) × (heads_some k.name ls ≡ false)

some-same : (a b : Member) → Some a ≡ Some b → a ≡ b
some-same a b e = cc

absent-by : (b : Built) (bs : List Built) (ls : List Line) (m : Member) (x : Bool) → heads_some b.name ls ≡ x → (first_absent (map member bs) ls ≡ Some m → Absent bs ls m) →
    cond x (first_absent (map member bs) ls) (Some (member b)) ≡ Some m → Absent (b ∷ bs) ls m
absent-by b bs ls m true h further e = let r = further e in (r.0, later r.1, r.2, r.3)
absent-by b bs ls m false h further e = (b, first, sym (some-same (member b) m e), h)

absent-is : (bs : List Built) (ls : List Line) (m : Member) → first_absent (map member bs) ls ≡ Some m → Absent bs ls m
absent-is [] ls m e = cc
absent-is (b ∷ bs) ls m e = absent-by b bs ls m (heads_some b.name ls) refl (absent-is bs ls m) e

mapped-some : {A B : Type 0} (f : A → B) (o : Option A) (y : B) → option_map f o ≡ Some y → (x : A) × (o ≡ Some x) × (f x ≡ y)
mapped-some f None y e = cc
mapped-some f (Some x) y e = (x, refl, cc)

opens-in : {w : World} {d : ℕ} {ts : List Typ} {us : Values} → AreOf w d ts us → all_in (shapes_in (open_shapes (length ts))) us ≡ true
opens-in AreOf.none = refl
opens-in (AreOf.and_one v vs) = opens-in vs

-- what a column may show, with a value of it that no head matches
abbrev pub Chosen : World → Column → List Line → Shape → Type 0
Chosen w c ls shape = (v : Value) × IsOf w c.depth c.body v × (is_in shape v ≡ true) × AvoidsLines v ls

pub column-open : (ls : List Line) (shape : Shape) → family ls ≡ [] → column ls ≡ Some shape → open_shape ≡ shape
column-open ls shape empty e = let x : Some open_shape ≡ Some shape = sym (ap (λ ks. column_by ks ls) empty) ∙ e in cc

open-chosen : (w : World) (c : Column) (ls : List Line) (shape : Shape) (v : Value) → open_shape ≡ shape → IsOf w c.depth c.body v → AvoidsLines v ls → Chosen w c ls shape
open-chosen w c ls shape v e is avoids = (v, is, subst (λ s. is_in s v ≡ true) e refl, avoids)

pub none-known : (w : World) (c : Column) (cs : List Column) (ls : List Line) → LinesFit w (c ∷ cs) ls → members (form_of w c.body) ≡ [] → family ls ≡ []
none-known w c cs ls h e = elim (family-typed w c cs ls h) [ inl empty ↦ empty | inr known ↦ known.0 ∙ e ]

absent-chosen : (w : World) → IsSound w → (c : Column) (ls : List Line) (shape : Shape) (k : Built) → IsOne k (constructors_of (form_of w c.body)) → heads_some k.name ls ≡ false →
    (open_built (member k) ≡ shape) ⊎ (open_shape ≡ shape) → Chosen w c ls shape
absent-chosen w s c ls shape k one absent is =
    let us = inhabitants w s (pred c.depth) k.parts in
    let v = built k.name us.0 in
    let within : is_in (open_built (member k)) v ≡ true = ap (λ b. b && all_in (shapes_in (open_shapes (length k.parts))) us.0) (name-same k.name k.name refl) ∙ opens-in us.1 in
    (v, IsOf.of_constructor' one us.1, elim is [ inl e ↦ subst (λ x. is_in x v ≡ true) e within | inr e ↦ subst (λ x. is_in x v ≡ true) e refl ], built-avoids-lines k.name us.0 ls absent)

closed-chosen : (w : World) → IsSound w → (c : Column) (cs : List Column) (ls : List Line) (shape : Shape) (k : Built) (ks : List Built) → form_of w c.body ≡ closed_form (k ∷ ks) →
    LinesFit w (c ∷ cs) ls → column ls ≡ Some shape → Chosen w c ls shape
closed-chosen w s c cs ls shape k ks f h e =
    let one : IsOne k (constructors_of (form_of w c.body)) = subst (λ g. IsOne k (constructors_of g)) (sym f) first in
    let some : members (form_of w c.body) ≡ [] → ⊥ = λ empty. let x : map member (k ∷ ks) ≡ [] = sym (ap members f) ∙ empty in cc in
    elim (family-typed w c cs ls h) [
      | inl empty ↦ absent-chosen w s c ls shape k one (all-headless w c cs ls h some empty k.name) (inr (column-open ls shape empty e))
      | inr known ↦
          let shown : column_by (map member (k ∷ ks)) ls ≡ Some shape = sym (ap (λ all. column_by all ls) (known.0 ∙ ap members f)) ∙ e in
          let m = mapped-some open_built (first_absent (map member (k ∷ ks)) ls) shape shown in
          let a = absent-is (k ∷ ks) ls m.0 m.1 in
          absent-chosen w s c ls shape a.0 (subst (λ g. IsOne a.0 (constructors_of g)) (sym f) a.1) a.3 (inl (ap open_built (sym a.2) ∙ m.2))
    ]

chosen-by : (w : World) → IsSound w → (c : Column) (cs : List Column) (ls : List Line) (shape : Shape) (f : Form) → form_of w c.body ≡ f →
    LinesFit w (c ∷ cs) ls → column ls ≡ Some shape → Chosen w c ls shape
chosen-by w s c cs ls shape (closed_form []) f h e = absurd (s.inhabited c.body f)
chosen-by w s c cs ls shape (closed_form (k ∷ ks)) f h e = closed-chosen w s c cs ls shape k ks f h e
chosen-by w s c cs ls shape (open_form ks) f h e =
    open-chosen w c ls shape opaque (column-open ls shape (none-known w c cs ls h (ap members f)) e) (IsOf.of_other f) (opaque-avoids-lines ls)
chosen-by w s c cs ls shape literals f h e =
    open-chosen w c ls shape (literal (zeros (long_in_lines ls))) (column-open ls shape (none-known w c cs ls h (ap members f)) e) (IsOf.of_literal' f)
    (literal-avoids-lines (long_in_lines ls) ls (omega arith))
chosen-by w s c cs ls shape no_form f h e =
    open-chosen w c ls shape opaque (column-open ls shape (none-known w c cs ls h (ap members f)) e) (IsOf.of_no_form f) (opaque-avoids-lines ls)

pub chosen : (w : World) → IsSound w → (c : Column) (cs : List Column) (ls : List Line) (shape : Shape) → LinesFit w (c ∷ cs) ls → column ls ≡ Some shape → Chosen w c ls shape
chosen w s c cs ls shape h e = chosen-by w s c cs ls shape (form_of w c.body) refl h e
