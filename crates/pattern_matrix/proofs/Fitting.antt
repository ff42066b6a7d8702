-- Lines that fit their columns, and what the steps of the search leave of them.
use Rattle.std.proofs.Common.{◌≡◌, ℕ, zero, suc, pred, ◌≤◌, max, Bool, true, false, List, [], ◌∷◌, ◌++◌, length, ◌⊎◌, inl, inr, Option, Some, None, refl, sym, ◌∙◌, subst, arith, cond}
use Rattle.std.proofs.Math.Nat.{le-max_left, le-max_right}
use Rattle.std.specs.Prelude.{unwrap_or}
use Rattle.std.specs.Option.{option_or}
use Rattle.type_model.specs.Types.{Typ}
use Rattle.signature_model.specs.Declarations.{Name}
use Rattle.signature_model.specs.Components.{same_name}
use Rattle.match_model.specs.Values.{Value, Values, no_values, also_value}
use Rattle.match_model.specs.Forms.{Built, World, form_of, constructors_of, IsOne, AreOf}
use Rattle.match_model.specs.Rows.{depth_of, depth_in}
use Rattle.pattern_matrix.specs.Lines.{Member, Typed, Typeds, any, con, lit, either, none, also, items_of, Line, opened, built_head, literal_head, under, under_each, lines_under, without_head, each_without_head, headless, family_in, family_in_some, family}
use Rattle.pattern_matrix.specs.Search.{IsIn, here, there}
use Rattle.pattern_matrix.specs.Typing.{plain, plains, members, IsTyped, AreTyped, AreAllTyped, IsSound}
use Rattle.pattern_matrix.proofs.Matching.{Column, columns_at, match_line, match_some, LineFits, LinesFit, AreIn, values_list, name-is, or-first, or-second, or-cases}

pub max-first : (a b d : ℕ) → max a b ≤ d → a ≤ d
max-first a b d h = omega (arith, le-max_left a b)

pub max-second : (a b d : ℕ) → max a b ≤ d → b ≤ d
max-second a b d h = omega (arith, le-max_right a b)

pub below : (d n : ℕ) → suc n ≤ d → n ≤ pred d
below zero n h = absurd (omega arith)
below (suc d) n h = omega arith

pub first-or : (a b : Option (List Member)) (all : List Member) → option_or a b ≡ Some all → (a ≡ Some all) ⊎ (b ≡ Some all)
first-or None b all e = inr e
first-or (Some own) b all e = inl e

pub parts-fit : (w : World) (d : ℕ) (ts : List Typ) (ps : Typeds) → AreTyped w ts ps → depth_in (plains ps) ≤ d → LineFits w (columns_at d ts) (items_of ps)
parts-fit w d [] none h deep = tt
parts-fit w d [] (also p ps) h deep = absurd h
parts-fit w d (t ∷ ts) none h deep = absurd h
parts-fit w d (t ∷ ts) (also p ps) h deep =
    (h.0, max-first (depth_of (plain p)) (depth_in (plains ps)) d deep, parts-fit w d ts ps h.1 (max-second (depth_of (plain p)) (depth_in (plains ps)) d deep))

pub fits-append : (w : World) (cs ds : List Column) (a b : Line) → LineFits w cs a → LineFits w ds b → LineFits w (cs ++ ds) (a ++ b)
fits-append w [] ds [] b h g = g
fits-append w [] ds (p ∷ a) b h g = absurd h
fits-append w (c ∷ cs) ds [] b h g = absurd h
fits-append w (c ∷ cs) ds (p ∷ a) b h g = (h.0, h.1, fits-append w cs ds a b h.2 g)

pub opened-fit : (w : World) (d : ℕ) (ts : List Typ) → LineFits w (columns_at d ts) (opened (length ts))
opened-fit w d [] = tt
opened-fit w d (t ∷ ts) = (tt, omega arith, opened-fit w d ts)

pub lines-append-fit : (w : World) (cs : List Column) (a b : List Line) → LinesFit w cs a → LinesFit w cs b → LinesFit w cs (a ++ b)
lines-append-fit w cs [] b h g = g
lines-append-fit w cs (l ∷ a) b h g = (h.0, lines-append-fit w cs a b h.1 g)

if-fit : (w : World) (cs : List Column) (a b : Bool) (l : Line) → a ≡ b → (b ≡ true → LineFits w cs l) → LinesFit w cs (cond a (l ∷ []) [])
if-fit w cs true b l e f = (f (sym e), tt)
if-fit w cs false b l e f = tt

mutual
  pub under-fit : (w : World) → IsSound w → (c : Column) (cs : List Column) (p : Typed) → IsTyped w c.body p → depth_of (plain p) ≤ c.depth → (rest : Line) → LineFits w cs rest →
      (k : Built) → IsOne k (constructors_of (form_of w c.body)) → LinesFit w (columns_at (pred c.depth) k.parts ++ cs) (under (built_head k.name (length k.parts)) p rest)
  under-fit w s c cs any h deep rest fits k one = (fits-append w (columns_at (pred c.depth) k.parts) cs (opened (length k.parts)) rest (opened-fit w (pred c.depth) k.parts) fits, tt)
  under-fit w s c cs (con all n ps) h deep rest fits k one =
      if-fit w (columns_at (pred c.depth) k.parts ++ cs) (same_name k.name n) (same_name k.name n) (items_of ps ++ rest) refl (λ same.
      let own : h.0 ≡ k = s.apart c.body h.0 k h.1 one (sym h.2 ∙ sym (name-is k.name n same)) in
      let parts : AreTyped w k.parts ps = subst (λ b. AreTyped w b.parts ps) own h.4 in
      fits-append w (columns_at (pred c.depth) k.parts) cs (items_of ps) rest (parts-fit w (pred c.depth) k.parts ps parts (below c.depth (depth_in (plains ps)) deep)) fits)
  under-fit w s c cs (lit n) h deep rest fits k one = tt
  under-fit w s c cs (either ps) h deep rest fits k one = under_each-fit w s c cs ps h deep rest fits k one

  under_each-fit : (w : World) → IsSound w → (c : Column) (cs : List Column) (ps : Typeds) → AreAllTyped w c.body ps → depth_in (plains ps) ≤ c.depth → (rest : Line) → LineFits w cs rest →
      (k : Built) → IsOne k (constructors_of (form_of w c.body)) → LinesFit w (columns_at (pred c.depth) k.parts ++ cs) (under_each (built_head k.name (length k.parts)) ps rest)
  under_each-fit w s c cs none h deep rest fits k one = tt
  under_each-fit w s c cs (also p ps) h deep rest fits k one =
      let head = built_head k.name (length k.parts) in
      lines-append-fit w (columns_at (pred c.depth) k.parts ++ cs) (under head p rest) (under_each head ps rest)
      (under-fit w s c cs p h.0 (max-first (depth_of (plain p)) (depth_in (plains ps)) c.depth deep) rest fits k one)
      (under_each-fit w s c cs ps h.1 (max-second (depth_of (plain p)) (depth_in (plains ps)) c.depth deep) rest fits k one)

pub lines_under-fit : (w : World) → IsSound w → (c : Column) (cs : List Column) (ls : List Line) → LinesFit w (c ∷ cs) ls → (k : Built) → IsOne k (constructors_of (form_of w c.body)) →
    LinesFit w (columns_at (pred c.depth) k.parts ++ cs) (lines_under (built_head k.name (length k.parts)) ls)
lines_under-fit w s c cs [] h k one = tt
lines_under-fit w s c cs ([] ∷ ls) h k one = absurd h.0
lines_under-fit w s c cs ((p ∷ rest) ∷ ls) h k one =
    let head = built_head k.name (length k.parts) in
    lines-append-fit w (columns_at (pred c.depth) k.parts ++ cs) (under head p rest) (lines_under head ls)
    (under-fit w s c cs p h.0.0 h.0.1 rest h.0.2 k one) (lines_under-fit w s c cs ls h.1 k one)

mutual
  under-fit-literal : (w : World) (cs : List Column) (p : Typed) (rest : Line) → LineFits w cs rest → (n : Name) → LinesFit w cs (under (literal_head n) p rest)
  under-fit-literal w cs any rest fits n = (fits, tt)
  under-fit-literal w cs (con all m ps) rest fits n = tt
  under-fit-literal w cs (lit m) rest fits n = if-fit w cs (same_name n m) (same_name n m) rest refl (λ same. fits)
  under-fit-literal w cs (either ps) rest fits n = under_each-fit-literal w cs ps rest fits n

  under_each-fit-literal : (w : World) (cs : List Column) (ps : Typeds) (rest : Line) → LineFits w cs rest → (n : Name) → LinesFit w cs (under_each (literal_head n) ps rest)
  under_each-fit-literal w cs none rest fits n = tt
  under_each-fit-literal w cs (also p ps) rest fits n =
      lines-append-fit w cs (under (literal_head n) p rest) (under_each (literal_head n) ps rest) (under-fit-literal w cs p rest fits n) (under_each-fit-literal w cs ps rest fits n)

pub lines_under-fit-literal : (w : World) (c : Column) (cs : List Column) (ls : List Line) → LinesFit w (c ∷ cs) ls → (n : Name) → LinesFit w cs (lines_under (literal_head n) ls)
lines_under-fit-literal w c cs [] h n = tt
lines_under-fit-literal w c cs ([] ∷ ls) h n = absurd h.0
lines_under-fit-literal w c cs ((p ∷ rest) ∷ ls) h n =
    lines-append-fit w cs (under (literal_head n) p rest) (lines_under (literal_head n) ls) (under-fit-literal w cs p rest h.0.2 n) (lines_under-fit-literal w c cs ls h.1 n)

mutual
  without_head-fit : (w : World) (cs : List Column) (p : Typed) (rest : Line) → LineFits w cs rest → LinesFit w cs (without_head p rest)
  without_head-fit w cs any rest fits = (fits, tt)
  without_head-fit w cs (con all m ps) rest fits = tt
  without_head-fit w cs (lit m) rest fits = tt
  without_head-fit w cs (either ps) rest fits = each_without_head-fit w cs ps rest fits

  each_without_head-fit : (w : World) (cs : List Column) (ps : Typeds) (rest : Line) → LineFits w cs rest → LinesFit w cs (each_without_head ps rest)
  each_without_head-fit w cs none rest fits = tt
  each_without_head-fit w cs (also p ps) rest fits =
      lines-append-fit w cs (without_head p rest) (each_without_head ps rest) (without_head-fit w cs p rest fits) (each_without_head-fit w cs ps rest fits)

pub headless-fit : (w : World) (c : Column) (cs : List Column) (ls : List Line) → LinesFit w (c ∷ cs) ls → LinesFit w cs (headless ls)
headless-fit w c cs [] h = tt
headless-fit w c cs ([] ∷ ls) h = absurd h.0
headless-fit w c cs ((p ∷ rest) ∷ ls) h =
    lines-append-fit w cs (without_head p rest) (headless ls) (without_head-fit w cs p rest h.0.2) (headless-fit w c cs ls h.1)

fits-in : (w : World) (cs : List Column) (l : Line) (ls : List Line) → LinesFit w cs ls → IsIn l ls → LineFits w cs l
fits-in w cs l [] h is = elim is [ ]
fits-in w cs l (m ∷ ls) h here = h.0
fits-in w cs l (m ∷ ls) h (there is) = fits-in w cs l ls h.1 is

-- lines among others
pub among-fit : (w : World) (cs : List Column) (fewer ls : List Line) → LinesFit w cs ls → ((l : Line) → IsIn l fewer → IsIn l ls) → LinesFit w cs fewer
among-fit w cs [] ls h f = tt
among-fit w cs (l ∷ fewer) ls h f = (fits-in w cs l ls h (f l here), among-fit w cs fewer ls h (λ m is. f m (there is)))

match-in : (l : Line) (ls : List Line) (vs : List Value) → IsIn l ls → match_line l vs ≡ true → match_some ls vs ≡ true
match-in l [] vs is e = elim is [ ]
match-in l (m ∷ ls) vs here e = or-first (match_line l vs) (match_some ls vs) e
match-in l (m ∷ ls) vs (there is) e = or-second (match_line m vs) (match_some ls vs) (match-in l ls vs is e)

pub among-match : (fewer ls : List Line) (vs : List Value) → ((l : Line) → IsIn l fewer → IsIn l ls) → match_some fewer vs ≡ true → match_some ls vs ≡ true
among-match [] ls vs f e = cc
among-match (l ∷ fewer) ls vs f e =
    elim (or-cases (match_line l vs) (match_some fewer vs) e) [ inl x ↦ match-in l ls vs (f l here) x | inr y ↦ among-match fewer ls vs (λ m is. f m (there is)) y ]

pub are-in-append : (w : World) (d : ℕ) (ts : List Typ) (us : Values) (cs : List Column) (vs : List Value) → AreOf w d ts us → AreIn w cs vs → AreIn w (columns_at d ts ++ cs) (values_list us ++ vs)
are-in-append w d [] (also_value u us) cs vs h g = elim h [ ]
are-in-append w d (t ∷ ts) no_values cs vs h g = elim h [ ]
are-in-append w d [] no_values cs vs AreOf.none g = g
are-in-append w d (t ∷ ts) (also_value u us) cs vs (AreOf.and_one h hs) g = (h, are-in-append w d ts us cs vs hs g)

-- the constructors that a column's first constructor knows are those of the type
mutual
  pub family-typed-in : (w : World) (c : Column) (p : Typed) → IsTyped w c.body p → depth_of (plain p) ≤ c.depth → (all : List Member) → family_in p ≡ Some all →
      (all ≡ members (form_of w c.body)) × (1 ≤ c.depth)
  family-typed-in w c any h deep all e = cc
  family-typed-in w c (con own n ps) h deep all e = (let same : all ≡ own = cc in same ∙ h.3, omega arith)
  family-typed-in w c (lit n) h deep all e = cc
  family-typed-in w c (either ps) h deep all e = family-typed-in-some w c ps h deep all e

  family-typed-in-some : (w : World) (c : Column) (ps : Typeds) → AreAllTyped w c.body ps → depth_in (plains ps) ≤ c.depth → (all : List Member) → family_in_some ps ≡ Some all →
      (all ≡ members (form_of w c.body)) × (1 ≤ c.depth)
  family-typed-in-some w c none h deep all e = cc
  family-typed-in-some w c (also p ps) h deep all e =
      elim (first-or (family_in p) (family_in_some ps) all e) [
        | inl x ↦ family-typed-in w c p h.0 (max-first (depth_of (plain p)) (depth_in (plains ps)) c.depth deep) all x
        | inr y ↦ family-typed-in-some w c ps h.1 (max-second (depth_of (plain p)) (depth_in (plains ps)) c.depth deep) all y
      ]

family-step : (w : World) (c : Column) (o : Option (List Member)) (all : List Member) → ((own : List Member) → o ≡ Some own → (own ≡ members (form_of w c.body)) × (1 ≤ c.depth)) →
    (all ≡ []) ⊎ ((all ≡ members (form_of w c.body)) × (1 ≤ c.depth)) → (unwrap_or o all ≡ []) ⊎ ((unwrap_or o all ≡ members (form_of w c.body)) × (1 ≤ c.depth))
family-step w c None all f g = g
family-step w c (Some own) all f g = inr (f own refl)

pub family-typed : (w : World) (c : Column) (cs : List Column) (ls : List Line) → LinesFit w (c ∷ cs) ls → (family ls ≡ []) ⊎ ((family ls ≡ members (form_of w c.body)) × (1 ≤ c.depth))
family-typed w c cs [] h = inl refl
family-typed w c cs ([] ∷ ls) h = absurd h.0
family-typed w c cs ((p ∷ rest) ∷ ls) h = family-step w c (family_in p) (family ls) (family-typed-in w c p h.0.0 h.0.1) (family-typed w c cs ls h.1)
