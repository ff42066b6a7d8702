-- Where nothing is found, each value that the row matches is matched by a line.
use Rattle.std.proofs.Common.{◌≡◌, ℕ, pred, ◌≤◌, Bool, true, List, [], ◌∷◌, ◌++◌, length, map, inl, inr, Option, Some, None, refl, sym, ap, ◌∙◌, subst, arith}
use Rattle.std.specs.Prelude.{option_map}
use Rattle.type_model.specs.Types.{Typ}
use Rattle.signature_model.specs.Declarations.{Name}
use Rattle.signature_model.specs.Components.{same_name}
use Rattle.match_model.specs.Values.{Value, Values, built, literal, matches, match_all, matches_some, if_built, if_literal, open_shape}
use Rattle.match_model.specs.Values.{Shape as plain_shape}
use Rattle.match_model.specs.Forms.{Built, Form, closed_form, open_form, literals, no_form, World, form_of, constructors_of, IsOne, first, later, IsOf, AreOf}
use Rattle.match_model.specs.Rows.{depth_of, depth_in}
use Rattle.pattern_matrix.specs.Lines.{Member, Typed, Typeds, any, con, lit, either, also, items_of, Line, opened, built_head, literal_head, head_of, lines_under, headless, family, column, column_by}
use Rattle.pattern_matrix.specs.Search.{Task, row_in, some_in, members_in, Finds, missed, covered, by_con, by_lit, by_either, by_members, by_default, squeezed, no_pattern, this_pattern, next_pattern, no_member, this_member, next_member, with_head, IsSqueezed}
use Rattle.pattern_matrix.specs.Typing.{plain, plains, member, members, AreTyped, AreAllTyped, IsSound}
use Rattle.pattern_matrix.proofs.Matching.{Column, columns_at, match_line, match_some, LineFits, LinesFit, AreIn, values_list, name-is, and-left, and-right, and-both, or-cases, match_line-append, items-match, opened-match, typed-length, values-length, lines_under-match, lines_under-match-literal, headless-match}
use Rattle.pattern_matrix.proofs.Fitting.{below, max-first, max-second, parts-fit, fits-append, opened-fit, lines_under-fit, lines_under-fit-literal, headless-fit, among-fit, among-match, are-in-append, family-typed}

-- the constructor that a value begins with
pub value-built : {w : World} {d : ℕ} {t : Typ} {v : Value} → IsOf w d t v → 1 ≤ d → (members (form_of w t) ≡ [] → ⊥) →
    (k : Built) × IsOne k (constructors_of (form_of w t)) × (us : Values) × AreOf w (pred d) k.parts us × (v ≡ built k.name us)
value-built (IsOf.of_constructor' {d = d} {t = t} {k = k} {vs = us} one are) deep some = (k, one, us, are, refl)
value-built (IsOf.of_other f) deep some = absurd (some (ap members f))
value-built (IsOf.of_literal' f) deep some = absurd (some (ap members f))
value-built (IsOf.of_no_form f) deep some = absurd (some (ap members f))
value-built IsOf.below deep some = absurd (omega arith)

pub value-matched : {w : World} {d : ℕ} {t : Typ} {v : Value} → IsOf w d t v → 1 ≤ d → (n : Name) (test : Values → Bool) → if_built true n v test ≡ true →
    (k : Built) × IsOne k (constructors_of (form_of w t)) × (us : Values) × AreOf w (pred d) k.parts us × (n ≡ k.name) × (v ≡ built k.name us) × (test us ≡ true)
value-matched (IsOf.of_constructor' {d = d} {t = t} {k = k} {vs = us} one are) deep n test e =
    (k, one, us, are, name-is n k.name (and-left (same_name n k.name) (test us) e), refl, and-right (same_name n k.name) (test us) e)
value-matched (IsOf.of_other f) deep n test e = cc
value-matched (IsOf.of_literal' f) deep n test e = cc
value-matched (IsOf.of_no_form f) deep n test e = cc
value-matched IsOf.below deep n test e = absurd (omega arith)

pub value-literal : {w : World} {d : ℕ} {t : Typ} {v : Value} → IsOf w d t v → 1 ≤ d → (n : Name) → if_literal true n v ≡ true → v ≡ literal n
value-literal (IsOf.of_constructor' one are) deep n e = cc
value-literal (IsOf.of_other f) deep n e = cc
value-literal (IsOf.of_literal' {d = d} {t = t} {n = m} f) deep n e = ap literal (sym (name-is n m e))
value-literal (IsOf.of_no_form f) deep n e = cc
value-literal IsOf.below deep n e = absurd (omega arith)

abbrev pub Covers : World → Task → Type 0
Covers w (row_in ls row) = (cs : List Column) → LinesFit w cs ls → LineFits w cs row → (vs : List Value) → AreIn w cs vs → match_line row vs ≡ true → match_some ls vs ≡ true
Covers w (some_in ls ps rest) = (c : Column) (cs : List Column) → LinesFit w (c ∷ cs) ls → AreAllTyped w c.body ps → depth_in (plains ps) ≤ c.depth → LineFits w cs rest →
    (v : Value) (vs : List Value) → IsOf w c.depth c.body v → AreIn w cs vs → matches_some (plains ps) v ≡ true → match_line rest vs ≡ true → match_some ls (v ∷ vs) ≡ true
Covers w (members_in ls ks rest) = (c : Column) (cs : List Column) → LinesFit w (c ∷ cs) ls → LineFits w cs rest → (bs : List Built) → ks ≡ map member bs →
    (k : Built) → IsOne k bs → IsOne k (constructors_of (form_of w c.body)) → (us : Values) → AreOf w (pred c.depth) k.parts us → (vs : List Value) → AreIn w cs vs →
    match_line rest vs ≡ true → match_some ls (built k.name us ∷ vs) ≡ true

end-covers : (w : World) (cs : List Column) (l : Line) (ls : List Line) → LinesFit w cs (l ∷ ls) → LineFits w cs [] → (vs : List Value) → AreIn w cs vs → match_some (l ∷ ls) vs ≡ true
end-covers w [] [] ls fl fr [] iv = refl
end-covers w [] [] ls fl fr (v ∷ vs) iv = absurd iv
end-covers w [] (p ∷ l) ls fl fr vs iv = absurd fl.0
end-covers w (c ∷ cs) l ls fl fr vs iv = absurd fr

-- the lines under a constructor, at the parts of a value
under-covers : (w : World) → IsSound w → (c : Column) (cs : List Column) (ls : List Line) → LinesFit w (c ∷ cs) ls → (k : Built) → IsOne k (constructors_of (form_of w c.body)) →
    (us : Values) → AreOf w (pred c.depth) k.parts us → (row : Line) (vs : List Value) → AreIn w cs vs → LineFits w (columns_at (pred c.depth) k.parts ++ cs) row →
    match_line row (values_list us ++ vs) ≡ true → Covers w (row_in (lines_under (built_head k.name (length k.parts)) ls) row) → match_some ls (built k.name us ∷ vs) ≡ true
under-covers w s c cs ls fl k one us are row vs iv fr m ih =
    sym (lines_under-match w s c cs ls fl k one us (values-length are) vs)
    ∙ ih (columns_at (pred c.depth) k.parts ++ cs) (lines_under-fit w s c cs ls fl k one) fr (values_list us ++ vs) (are-in-append w (pred c.depth) k.parts us cs vs are iv) m

con-covers : (w : World) → IsSound w → (all : List Member) (n : Name) (ps : Typeds) (rest : Line) (ls : List Line) →
    Covers w (row_in (lines_under (built_head n (length (items_of ps))) ls) (items_of ps ++ rest)) → Covers w (row_in ls (con all n ps ∷ rest))
con-covers w s all n ps rest ls ih [] fl fr vs iv m = absurd fr
con-covers w s all n ps rest ls ih (c ∷ cs) fl fr [] iv m = absurd iv
con-covers w s all n ps rest ls ih (c ∷ cs) fl fr (v ∷ vs) iv m =
    let deep : 1 ≤ c.depth = omega (arith, fr.1) in
    let f = value-matched iv.0 deep n (match_all (plains ps)) (and-left (matches (plain (con all n ps)) v) (match_line rest vs) m) in
    let k = f.0 in
    let us = f.2 in
    let own : fr.0.0 ≡ k = s.apart c.body fr.0.0 k fr.0.1 f.1 (sym fr.0.2 ∙ f.4) in
    let parts : AreTyped w k.parts ps = subst (λ b. AreTyped w b.parts ps) own fr.0.4 in
    let long : length (items_of ps) ≡ length k.parts = typed-length w k.parts ps parts in
    let head : built_head n (length (items_of ps)) ≡ built_head k.name (length k.parts) = λ i. built_head (f.4 i) (long i) in
    let fits = fits-append w (columns_at (pred c.depth) k.parts) cs (items_of ps) rest (parts-fit w (pred c.depth) k.parts ps parts (below c.depth (depth_in (plains ps)) fr.1)) fr.2 in
    let here = match_line-append (items_of ps) rest (values_list us) vs (long ∙ sym (values-length f.3))
    ∙ and-both (match_line (items_of ps) (values_list us)) (match_line rest vs) (items-match ps us ∙ f.6) (and-right (matches (plain (con all n ps)) v) (match_line rest vs) m) in
    subst (λ x. match_some ls (x ∷ vs) ≡ true) (sym f.5)
    (under-covers w s c cs ls fl k f.1 us f.3 (items_of ps ++ rest) vs iv.1 fits here (subst (λ h. Covers w (row_in (lines_under h ls) (items_of ps ++ rest))) head ih))

lit-covers : (w : World) (n : Name) (rest : Line) (ls : List Line) → Covers w (row_in (lines_under (literal_head n) ls) rest) → Covers w (row_in ls (lit n ∷ rest))
lit-covers w n rest ls ih [] fl fr vs iv m = absurd fr
lit-covers w n rest ls ih (c ∷ cs) fl fr [] iv m = absurd iv
lit-covers w n rest ls ih (c ∷ cs) fl fr (v ∷ vs) iv m =
    let deep : 1 ≤ c.depth = omega (arith, fr.1) in
    let is = value-literal iv.0 deep n (and-left (matches (plain (lit n)) v) (match_line rest vs) m) in
    subst (λ x. match_some ls (x ∷ vs) ≡ true) (sym is)
    (sym (lines_under-match-literal w c cs ls fl n vs) ∙ ih cs (lines_under-fit-literal w c cs ls fl n) fr.2 vs iv.1 (and-right (matches (plain (lit n)) v) (match_line rest vs) m))

either-covers : (w : World) (ps : Typeds) (rest : Line) (ls : List Line) → Covers w (some_in ls ps rest) → Covers w (row_in ls (either ps ∷ rest))
either-covers w ps rest ls ih [] fl fr vs iv m = absurd fr
either-covers w ps rest ls ih (c ∷ cs) fl fr [] iv m = absurd iv
either-covers w ps rest ls ih (c ∷ cs) fl fr (v ∷ vs) iv m =
    ih c cs fl fr.0 fr.1 fr.2 v vs iv.0 iv.1 (and-left (matches_some (plains ps) v) (match_line rest vs) m) (and-right (matches_some (plains ps) v) (match_line rest vs) m)

default-covers : (w : World) (rest : Line) (ls : List Line) → Covers w (row_in (headless ls) rest) → Covers w (row_in ls (any ∷ rest))
default-covers w rest ls ih [] fl fr vs iv m = absurd fr
default-covers w rest ls ih (c ∷ cs) fl fr [] iv m = absurd iv
default-covers w rest ls ih (c ∷ cs) fl fr (v ∷ vs) iv m = headless-match ls v vs (ih cs (headless-fit w c cs ls fl) fr.2 vs iv.1 m)

pub all-members : (f : Form) → (members f ≡ [] → ⊥) → members f ≡ map member (constructors_of f)
all-members (closed_form ks) some = refl
all-members (open_form ks) some = absurd (some refl)
all-members literals some = absurd (some refl)
all-members no_form some = absurd (some refl)

pub column-some : (ls : List Line) → column ls ≡ None → family ls ≡ [] → ⊥
column-some ls e f = let x : Some (open_shape) ≡ None = sym (ap (λ ks. column_by ks ls) f) ∙ e in cc

members-covers : (w : World) (rest : Line) (ls : List Line) → column ls ≡ None → Covers w (members_in ls (family ls) rest) → Covers w (row_in ls (any ∷ rest))
members-covers w rest ls e ih [] fl fr vs iv m = absurd fr
members-covers w rest ls e ih (c ∷ cs) fl fr [] iv m = absurd iv
members-covers w rest ls e ih (c ∷ cs) fl fr (v ∷ vs) iv m =
    elim (family-typed w c cs ls fl) [
      | inl empty ↦ absurd (column-some ls e empty)
      | inr known ↦
          let some : members (form_of w c.body) ≡ [] → ⊥ = λ empty. column-some ls e (known.0 ∙ empty) in
          let f = value-built iv.0 known.1 some in
          subst (λ x. match_some ls (x ∷ vs) ≡ true) (sym f.4)
          (ih c cs fl fr.2 (constructors_of (form_of w c.body)) (known.0 ∙ all-members (form_of w c.body) some) f.0 f.1 f.1 f.2 f.3 vs iv.1 m)
    ]

-- one constructor, before the others
member-covers : (w : World) → IsSound w → (k : Member) (ks : List Member) (rest : Line) (ls : List Line) → Covers w (row_in (lines_under (head_of k) ls) (opened k.parts ++ rest)) →
    Covers w (members_in ls ks rest) → Covers w (members_in ls (k ∷ ks) rest)
member-covers w s k ks rest ls this others c cs fl fr [] e b one own us are vs iv m = elim one [ ]
member-covers w s k ks rest ls this others c cs fl fr (b ∷ bs) e b' first own us are vs iv m =
    let is : k ≡ member b = cc in
    let fits = fits-append w (columns_at (pred c.depth) b.parts) cs (opened (length b.parts)) rest (opened-fit w (pred c.depth) b.parts) fr in
    under-covers w s c cs ls fl b own us are (opened (length b.parts) ++ rest) vs iv fits (opened-match (length b.parts) rest (values_list us) vs (values-length are) ∙ m)
    (subst (λ x. Covers w (row_in (lines_under (head_of x) ls) (opened x.parts ++ rest))) is this)
member-covers w s k ks rest ls this others c cs fl fr (b ∷ bs) e b' (later one) own us are vs iv m =
    let left : ks ≡ map member bs = cc in
    others c cs fl fr bs left b' one own us are vs iv m

pattern-covers : (w : World) (p : Typed) (ps : Typeds) (rest : Line) (ls : List Line) → Covers w (row_in ls (p ∷ rest)) → Covers w (some_in ls ps rest) → Covers w (some_in ls (also p ps) rest)
pattern-covers w p ps rest ls this others c cs fl typed deep fr v vs is iv m r =
    elim (or-cases (matches (plain p) v) (matches_some (plains ps) v) m) [
      | inl x ↦ this (c ∷ cs) fl (typed.0, max-first (depth_of (plain p)) (depth_in (plains ps)) c.depth deep, fr) (v ∷ vs) (is, iv) (and-both (matches (plain p) v) (match_line rest vs) x r)
      | inr y ↦ others c cs fl typed.1 (max-second (depth_of (plain p)) (depth_in (plains ps)) c.depth deep) fr v vs is iv y r
    ]

squeezed-covers : (w : World) (row : Line) (ls fewer : List Line) → IsSqueezed fewer ls → Covers w (row_in fewer row) → Covers w (row_in ls row)
squeezed-covers w row ls fewer q ih cs fl fr vs iv m = among-match fewer ls vs q.kept (ih cs (among-fit w cs fewer ls fl q.kept) fr vs iv m)

none-under : (h : List plain_shape → List plain_shape) (s : Option (List plain_shape)) → None ≡ option_map h s → s ≡ None
none-under h None e = refl
none-under h (Some ss) e = cc

no-one : (bs : List Built) → [] ≡ map member bs → (k : Built) → IsOne k bs → ⊥
no-one [] e k one = elim one [ ]
no-one (b ∷ bs) e k one = cc

-- the theorem
pub covers : (w : World) → IsSound w → {t : Task} {r : Option (List plain_shape)} → Finds t r → r ≡ None → Covers w t
covers w s missed e = cc
covers w s (covered {l = l} {ls = ls}) e = λ cs fl fr vs iv m. end-covers w cs l ls fl fr vs iv
covers w s (by_con {all = all} {n = n} {ps = ps} {rest = rest} {ls = ls} {r = r} {s = found} f is) e =
    con-covers w s all n ps rest ls (covers w s f (none-under (with_head (built_head n (length (items_of ps)))) found (sym e ∙ is)))
covers w s (by_lit {n = n} {rest = rest} {ls = ls} {r = r} {s = found} f is) e = lit-covers w n rest ls (covers w s f (none-under (with_head (literal_head n)) found (sym e ∙ is)))
covers w s (by_either {ps = ps} {rest = rest} {ls = ls} {r = r} f) e = either-covers w ps rest ls (covers w s f e)
covers w s (by_members {rest = rest} {ls = ls} {r = r} all f) e = members-covers w rest ls all (covers w s f e)
covers w s (by_default {rest = rest} {ls = ls} {shape = shape} {r = r} {s = found} shown f is) e = default-covers w rest ls (covers w s f (none-under (λ ss. shape ∷ ss) found (sym e ∙ is)))
covers w s (squeezed {row = row} {ls = ls} {fewer = fewer} {r = r} q f) e = squeezed-covers w row ls fewer q (covers w s f e)
covers w s (no_pattern {rest = rest} {ls = ls}) e = λ c cs fl typed deep fr v vs is iv m r. cc
covers w s (this_pattern f) e = cc
covers w s (next_pattern {p = p} {ps = ps} {rest = rest} {ls = ls} {r = r} f g) e = pattern-covers w p ps rest ls (covers w s f refl) (covers w s g e)
covers w s (no_member {rest = rest} {ls = ls}) e = λ c cs fl fr bs is k one own us are vs iv m. absurd (no-one bs is k one)
covers w s (this_member f is) e = cc
covers w s (next_member {k = k} {ks = ks} {rest = rest} {ls = ls} {r = r} f g) e = member-covers w s k ks rest ls (covers w s f refl) (covers w s g e)
