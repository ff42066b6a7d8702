-- Rows whose marks can't meet match no value together, so a row is searched for in the rows near it alone.
use Rattle.std.proofs.Common.{◌≡◌, ℕ, zero, suc, pred, ◌≤◌, Bool, true, false, ◌&&◌, ◌||◌, List, [], ◌∷◌, ◌++◌, Option, Some, None, refl, sym, ap, ◌∙◌, subst, arith, if◌then◌else◌}
use Rattle.std.proofs.lemmas.Bool.Decides.{nat_tests}
use Rattle.signature_model.specs.Declarations.{Name}
use Rattle.signature_model.specs.Components.{same_name}
use Rattle.match_model.specs.Values.{Value, Values, no_values, also_value, literal, matches, match_all, if_built, if_literal}
use Rattle.match_model.specs.Forms.{World, IsOf, AreOf}
use Rattle.match_model.specs.Rows.{depth_of, depth_in}
use Rattle.type_model.specs.Types.{Typ}
use Rattle.pattern_matrix.specs.Lines.{Typed, Typeds, any, con, lit, either, none, also, Line}
use Rattle.pattern_matrix.specs.Typing.{plain, plains}
use Rattle.pattern_matrix.specs.Marks.{name_code, mark_from, mark_first, mark_part, mark_at, line_mark, can_meet}
use Rattle.pattern_matrix.specs.Rows.{line_of, lines_of, mark_of, near_lines, unless_guarded}
use Rattle.pattern_matrix.specs.declared.patterns.PatRow.{PatRow}
use Rattle.pattern_matrix.proofs.Matching.{Column, match_line, match_some, LineFits, LinesFit, AreIn, and-left, and-right, name-is}
use Rattle.pattern_matrix.proofs.Fitting.{below, max-first, max-second}
use Rattle.pattern_matrix.proofs.Covers.{value-matched, value-literal}

-- a literal has the mark of a pattern that matches it
literal-agrees : (q : Typed) (k : Name) (c a b : ℕ) → matches (plain q) (literal k) ≡ true → Some (name_code c k) ≡ Some a → mark_from c q ≡ Some b → a ≡ b
literal-agrees any k c a b n e f = cc
literal-agrees (con all l qs) k c a b n e f = cc
literal-agrees (lit l) k c a b n e f = let same = name-is l k n in cc
literal-agrees (either qs) k c a b n e f = cc

-- the marks of patterns that match one value are the same, where both have one
mutual
  marks-agree : (w : World) (d : ℕ) (t : Typ) (p q : Typed) (v : Value) (c a b : ℕ) → IsOf w d t v → depth_of (plain p) ≤ d → matches (plain p) v ≡ true → matches (plain q) v ≡ true →
      mark_from c p ≡ Some a → mark_from c q ≡ Some b → a ≡ b
  marks-agree w d t any q v c a b is deep m n e f = cc
  marks-agree w d t (either ps) q v c a b is deep m n e f = cc
  marks-agree w d t (lit k) q v c a b is deep m n e f = literal-agrees q k c a b (subst (λ x. matches (plain q) x ≡ true) (value-literal is deep k m) n) e f
  marks-agree w d t (con all k ps) any v c a b is deep m n e f = cc
  marks-agree w d t (con all k ps) (either qs) v c a b is deep m n e f = cc
  marks-agree w d t (con all k ps) (lit o) v c a b is deep m n e f =
      let r = value-matched is (omega arith) k (match_all (plains ps)) m in
      let no : false ≡ true = subst (λ x. if_literal true o x ≡ true) r.5 n in cc
  marks-agree w d t (con all k ps) (con others o qs) v c a b is deep m n e f =
      let r = value-matched is (omega arith) k (match_all (plains ps)) m in
      let both : (same_name o r.0.name && match_all (plains qs) r.2) ≡ true = subst (λ x. matches (plain (con others o qs)) x ≡ true) r.5 n in
      let own : k ≡ o = r.4 ∙ sym (name-is o r.0.name (and-left (same_name o r.0.name) (match_all (plains qs) r.2) both)) in
      firsts-agree w (pred d) r.0.parts ps qs r.2 (name_code c o) a b r.3 (below d (depth_in (plains ps)) deep) r.6
      (and-right (same_name o r.0.name) (match_all (plains qs) r.2) both) (subst (λ x. mark_first (name_code c x) ps ≡ Some a) own e) f

  -- the same of the first parts
  firsts-agree : (w : World) (d : ℕ) (ts : List Typ) (ps qs : Typeds) (us : Values) (c a b : ℕ) → AreOf w d ts us → depth_in (plains ps) ≤ d → match_all (plains ps) us ≡ true →
      match_all (plains qs) us ≡ true → mark_first c ps ≡ Some a → mark_first c qs ≡ Some b → a ≡ b
  firsts-agree w d ts none none us c a b are deep m n e f = cc
  firsts-agree w d ts none (also q qs) no_values c a b are deep m n e f = cc
  firsts-agree w d ts none (also q qs) (also_value u us) c a b are deep m n e f = cc
  firsts-agree w d ts (also p ps) qs no_values c a b are deep m n e f = cc
  firsts-agree w d ts (also p ps) none (also_value u us) c a b are deep m n e f = cc
  firsts-agree w d [] (also p ps) (also q qs) (also_value u us) c a b are deep m n e f = elim are [ ]
  firsts-agree w d (t ∷ ts) (also p ps) (also q qs) (also_value u us) c a b (AreOf.and_one is are) deep m n e f =
      marks-agree w d t p q u c a b is (max-first (depth_of (plain p)) (depth_in (plains ps)) d deep) (and-left (matches (plain p) u) (match_all (plains ps) us) m)
      (and-left (matches (plain q) u) (match_all (plains qs) us) n) e f

-- marks that are the same can meet
agreed-meet : (a b : Option ℕ) → ((x y : ℕ) → a ≡ Some x → b ≡ Some y → x ≡ y) → can_meet a b ≡ true
agreed-meet None b f = refl
agreed-meet (Some x) None f = refl
agreed-meet (Some x) (Some y) f = let same = f x y refl refl in grind (arith, nat_tests)

-- the same of the parts at a place
parts-agree : (w : World) (d : ℕ) (ts : List Typ) (at : ℕ) (ps qs : Typeds) (us : Values) (c a b : ℕ) → AreOf w d ts us → depth_in (plains ps) ≤ d → match_all (plains ps) us ≡ true →
    match_all (plains qs) us ≡ true → mark_part at c ps ≡ Some a → mark_part at c qs ≡ Some b → a ≡ b
parts-agree w d ts at none none us c a b are deep m n e f = cc
parts-agree w d ts at none (also q qs) no_values c a b are deep m n e f = cc
parts-agree w d ts at none (also q qs) (also_value u us) c a b are deep m n e f = cc
parts-agree w d ts at (also p ps) qs no_values c a b are deep m n e f = cc
parts-agree w d ts at (also p ps) none (also_value u us) c a b are deep m n e f = cc
parts-agree w d [] at (also p ps) (also q qs) (also_value u us) c a b are deep m n e f = elim are [ ]
parts-agree w d (t ∷ ts) zero (also p ps) (also q qs) (also_value u us) c a b (AreOf.and_one is are) deep m n e f =
    marks-agree w d t p q u c a b is (max-first (depth_of (plain p)) (depth_in (plains ps)) d deep) (and-left (matches (plain p) u) (match_all (plains ps) us) m)
    (and-left (matches (plain q) u) (match_all (plains qs) us) n) e f
parts-agree w d (t ∷ ts) (suc at) (also p ps) (also q qs) (also_value u us) c a b (AreOf.and_one is are) deep m n e f =
    parts-agree w d ts at ps qs us c a b are (max-second (depth_of (plain p)) (depth_in (plains ps)) d deep) (and-right (matches (plain p) u) (match_all (plains ps) us) m)
    (and-right (matches (plain q) u) (match_all (plains qs) us) n) e f

-- the marks by the parts at a place, of patterns that match one value, are the same, where both have one
tops-agree : (w : World) (d : ℕ) (t : Typ) (at : ℕ) (p q : Typed) (v : Value) (a b : ℕ) → IsOf w d t v → depth_of (plain p) ≤ d → matches (plain p) v ≡ true → matches (plain q) v ≡ true →
    mark_at at p ≡ Some a → mark_at at q ≡ Some b → a ≡ b
tops-agree w d t at any q v a b is deep m n e f = cc
tops-agree w d t at (either ps) q v a b is deep m n e f = cc
tops-agree w d t at (lit k) any v a b is deep m n e f = cc
tops-agree w d t at (lit k) (either qs) v a b is deep m n e f = cc
tops-agree w d t at (lit k) (lit o) v a b is deep m n e f = literal-agrees (lit o) k 0 a b (subst (λ x. matches (plain (lit o)) x ≡ true) (value-literal is deep k m) n) e f
tops-agree w d t at (lit k) (con all o qs) v a b is deep m n e f =
    let no : false ≡ true = subst (λ x. if_built true o x (match_all (plains qs)) ≡ true) (value-literal is deep k m) n in cc
tops-agree w d t at (con all k ps) any v a b is deep m n e f = cc
tops-agree w d t at (con all k ps) (either qs) v a b is deep m n e f = cc
tops-agree w d t at (con all k ps) (lit o) v a b is deep m n e f =
    let r = value-matched is (omega arith) k (match_all (plains ps)) m in
    let no : false ≡ true = subst (λ x. if_literal true o x ≡ true) r.5 n in cc
tops-agree w d t at (con all k ps) (con others o qs) v a b is deep m n e f =
    let r = value-matched is (omega arith) k (match_all (plains ps)) m in
    let both : (same_name o r.0.name && match_all (plains qs) r.2) ≡ true = subst (λ x. matches (plain (con others o qs)) x ≡ true) r.5 n in
    let own : k ≡ o = r.4 ∙ sym (name-is o r.0.name (and-left (same_name o r.0.name) (match_all (plains qs) r.2) both)) in
    parts-agree w (pred d) r.0.parts at ps qs r.2 (name_code 0 o) a b r.3 (below d (depth_in (plains ps)) deep) r.6
    (and-right (same_name o r.0.name) (match_all (plains qs) r.2) both) (subst (λ x. mark_part at (name_code 0 x) ps ≡ Some a) own e) f

-- lines that match the same values can meet
lines-meet : (w : World) (cs : List Column) (at : ℕ) (l m : Line) (vs : List Value) → LineFits w cs l → AreIn w cs vs → match_line l vs ≡ true → match_line m vs ≡ true →
    can_meet (line_mark at l) (line_mark at m) ≡ true
lines-meet w cs at [] m vs fits is e f = refl
lines-meet w [] at (p ∷ l) m vs fits is e f = absurd fits
lines-meet w (c ∷ cs) at (p ∷ l) m [] fits is e f = absurd is
lines-meet w (c ∷ cs) at (p ∷ l) [] (v ∷ vs) fits is e f = cc
lines-meet w (c ∷ cs) at (p ∷ l) (q ∷ m) (v ∷ vs) fits is e f =
    agreed-meet (mark_at at p) (mark_at at q)
    (λ x y g h. tops-agree w c.depth c.body at p q v x y is.0 fits.1 (and-left (matches (plain p) v) (match_line l vs) e) (and-left (matches (plain q) v) (match_line m vs) f) g h)

-- a line that meets none of the values adds nothing
none-here : (a b : Bool) → (a ≡ true → false ≡ true) → (a || b) ≡ b
none-here true b f = let no : false ≡ true = f refl in cc
none-here false b f = refl

-- one row's part of the lines that are near
near-one : (meets g : Bool) (l : Line) (near all : List Line) (vs : List Value) → (match_line l vs ≡ true → meets ≡ true) → match_some near vs ≡ match_some all vs →
    match_some ((if meets then unless_guarded g l else []) ++ near) vs ≡ match_some (unless_guarded g l ++ all) vs
near-one true true l near all vs f e = e
near-one true false l near all vs f e = ap (λ b. match_line l vs || b) e
near-one false true l near all vs f e = e
near-one false false l near all vs f e = e ∙ sym (none-here (match_line l vs) (match_some all vs) f)

-- of the values that a row matches, the lines near it match those that all lines match
pub near-match : (w : World) (cs : List Column) (at : ℕ) (l : Line) (rs : List PatRow) (vs : List Value) → LineFits w cs l → AreIn w cs vs → match_line l vs ≡ true →
    match_some (near_lines at (line_mark at l) rs) vs ≡ match_some (lines_of rs) vs
near-match w cs at l [] vs fits is e = refl
near-match w cs at l (r ∷ rs) vs fits is e =
    near-one (can_meet (line_mark at l) (mark_of at r)) r.guarded (line_of r) (near_lines at (line_mark at l) rs) (lines_of rs) vs (λ f. lines-meet w cs at l (line_of r) vs fits is e f)
    (near-match w cs at l rs vs fits is e)

-- one row's part of the lines that fit
near-one-fits : (w : World) (cs : List Column) (meets g : Bool) (l : Line) (near all : List Line) → LinesFit w cs (unless_guarded g l ++ all) → (LinesFit w cs all → LinesFit w cs near) →
    LinesFit w cs ((if meets then unless_guarded g l else []) ++ near)
near-one-fits w cs true true l near all h f = f h
near-one-fits w cs true false l near all h f = (h.0, f h.1)
near-one-fits w cs false true l near all h f = f h
near-one-fits w cs false false l near all h f = f h.1

-- the lines near a row fit where all lines do
pub near-fit : (w : World) (cs : List Column) (at : ℕ) (m : Option ℕ) (rs : List PatRow) → LinesFit w cs (lines_of rs) → LinesFit w cs (near_lines at m rs)
near-fit w cs at m [] h = tt
near-fit w cs at m (r ∷ rs) h = near-one-fits w cs (can_meet m (mark_of at r)) r.guarded (line_of r) (near_lines at m rs) (lines_of rs) h (λ g. near-fit w cs at m rs g)
