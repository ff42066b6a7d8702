-- Where shapes are found, they have values that the row matches and no line does.
use Rattle.std.proofs.Common.{◌≡◌, ℕ, pred, ◌≤◌, Bool, true, false, ◌&&◌, List, [], ◌∷◌, ◌++◌, length, map, take, drop, inl, inr, Option, Some, None, refl, sym, ap, ◌∙◌, subst}
use Rattle.std.specs.Prelude.{option_map}
use Rattle.type_model.specs.Types.{Typ}
use Rattle.signature_model.specs.Declarations.{Name}
use Rattle.signature_model.specs.Components.{same_name}
use Rattle.match_model.specs.Values.{Value, Values, built, literal, no_values, also_value, matches, match_all, matches_some, Shape, is_in, all_in}
use Rattle.match_model.specs.Forms.{Built, World, form_of, constructors_of, IsOne, first, later, IsOf, AreOf}
use Rattle.match_model.specs.Rows.{depth_of, depth_in}
use Rattle.pattern_matrix.specs.Lines.{Member, Typed, Typeds, any, con, lit, either, also, items_of, Line, opened, built_head, literal_head, head_of, lines_under, headless, family, column, shapes_in}
use Rattle.pattern_matrix.specs.Search.{Task, row_in, some_in, members_in, Finds, missed, covered, by_con, by_lit, by_either, by_members, by_default, squeezed, no_pattern, this_pattern, next_pattern, no_member, this_member, next_member, with_head, IsSqueezed}
use Rattle.pattern_matrix.specs.Typing.{plain, plains, member, members, AreAllTyped, IsSound}
use Rattle.pattern_matrix.proofs.Matching.{Column, columns_at, match_line, match_some, LineFits, LinesFit, AreIn, values_list, name-same, and-left, and-right, and-both, or-first, or-second, match_line-append, items-match, typed-length, values-length, lines_under-match, lines_under-match-literal}
use Rattle.pattern_matrix.proofs.Fitting.{below, max-first, max-second, parts-fit, fits-append, opened-fit, lines_under-fit, lines_under-fit-literal, headless-fit, among-fit, among-match, family-typed}
use Rattle.pattern_matrix.proofs.Covers.{all-members, column-some}
use Rattle.pattern_matrix.proofs.Weighing.{length-opened}
use Rattle.pattern_matrix.proofs.Inhabited.{chosen, headless-avoided}

abbrev pub in_shapes : List Shape → List Value → Bool
in_shapes [] [] = true
in_shapes [] (v ∷ vs) = false
in_shapes (s ∷ ss) [] = false
in_shapes (s ∷ ss) (v ∷ vs) = is_in s v && in_shapes ss vs

-- values of the columns that are in the shapes, that the row matches, and no line
abbrev pub MissedBy : World → List Line → List Shape → List Column → Line → Type 0
MissedBy w ls ss cs row = (vs : List Value) × AreIn w cs vs × (match_line row vs ≡ true) × (in_shapes ss vs ≡ true) × (match_some ls vs ≡ false)

abbrev pub MissedBehind : World → List Line → List Shape → Column → List Column → Line → (Value → Bool) → Type 0
MissedBehind w ls ss c cs rest test = (v : Value) × (vs : List Value) × IsOf w c.depth c.body v × AreIn w cs vs × (test v ≡ true) × (match_line rest vs ≡ true) ×
    (in_shapes ss (v ∷ vs) ≡ true) × (match_some ls (v ∷ vs) ≡ false)

abbrev pub Gives : World → Task → List Shape → Type 0
Gives w (row_in ls row) ss = (cs : List Column) → LinesFit w cs ls → LineFits w cs row → MissedBy w ls ss cs row
Gives w (some_in ls ps rest) ss = (c : Column) (cs : List Column) → LinesFit w (c ∷ cs) ls → AreAllTyped w c.body ps → depth_in (plains ps) ≤ c.depth → LineFits w cs rest →
    MissedBehind w ls ss c cs rest (λ v. matches_some (plains ps) v)
Gives w (members_in ls ks rest) ss = (c : Column) (cs : List Column) → LinesFit w (c ∷ cs) ls → LineFits w cs rest → (bs : List Built) → ks ≡ map member bs →
    ((k : Built) → IsOne k bs → IsOne k (constructors_of (form_of w c.body))) → MissedBehind w ls ss c cs rest (λ v. true)

abbrev Split : World → ℕ → List Typ → List Column → List Value → Type 0
Split w d ts cs ws = (us : Values) × (vs : List Value) × AreOf w d ts us × AreIn w cs vs × (ws ≡ values_list us ++ vs)

split : (w : World) (d : ℕ) (ts : List Typ) (cs : List Column) (ws : List Value) → AreIn w (columns_at d ts ++ cs) ws → Split w d ts cs ws
split w d [] cs ws h = (no_values, ws, AreOf.none, h, refl)
split w d (t ∷ ts) cs [] h = absurd h
split w d (t ∷ ts) cs (v ∷ ws) h = let r = split w d ts cs ws h.1 in (also_value v r.0, r.1, AreOf.and_one h.0 r.2, r.3, ap (λ x. v ∷ x) r.4)

cut-shapes : (ss : List Shape) (us : Values) (vs : List Value) → in_shapes ss (values_list us ++ vs) ≡ true →
    (all_in (shapes_in (take (length (values_list us)) ss)) us ≡ true) × (in_shapes (drop (length (values_list us)) ss) vs ≡ true)
cut-shapes ss no_values vs h = (refl, h)
cut-shapes [] (also_value u us) vs h = cc
cut-shapes (s ∷ ss) (also_value u us) vs h =
    let r = cut-shapes ss us vs (and-right (is_in s u) (in_shapes ss (values_list us ++ vs)) h) in
    (and-both (is_in s u) (all_in (shapes_in (take (length (values_list us)) ss)) us) (and-left (is_in s u) (in_shapes ss (values_list us ++ vs)) h) r.0, r.1)

-- a missed value below a constructor is a missed value of the constructor
under-misses : (w : World) → IsSound w → (c : Column) (cs : List Column) (ls : List Line) → LinesFit w (c ∷ cs) ls → (k : Built) → IsOne k (constructors_of (form_of w c.body)) →
    (front rest : Line) → length front ≡ length k.parts → (ss : List Shape) → MissedBy w (lines_under (built_head k.name (length k.parts)) ls) ss (columns_at (pred c.depth) k.parts ++ cs) (front ++ rest) →
    (us : Values) × (vs : List Value) × AreOf w (pred c.depth) k.parts us × AreIn w cs vs × (match_line front (values_list us) ≡ true) × (match_line rest vs ≡ true) ×
    (in_shapes (with_head (built_head k.name (length k.parts)) ss) (built k.name us ∷ vs) ≡ true) × (match_some ls (built k.name us ∷ vs) ≡ false)
under-misses w s c cs ls fl k one front rest long ss m =
    let r = split w (pred c.depth) k.parts cs m.0 m.1 in
    let us = r.0 in
    let vs = r.1 in
    let count : length (values_list us) ≡ length k.parts = values-length r.2 in
    let both : (match_line front (values_list us) && match_line rest vs) ≡ true =
    sym (match_line-append front rest (values_list us) vs (long ∙ sym count)) ∙ subst (λ ws. match_line (front ++ rest) ws ≡ true) r.4 m.2 in
    let shapes = cut-shapes ss us vs (subst (λ ws. in_shapes ss ws ≡ true) r.4 m.3) in
    let inner : all_in (shapes_in (take (length k.parts) ss)) us ≡ true = subst (λ n. all_in (shapes_in (take n ss)) us ≡ true) count shapes.0 in
    let outer : in_shapes (drop (length k.parts) ss) vs ≡ true = subst (λ n. in_shapes (drop n ss) vs ≡ true) count shapes.1 in
    let within = and-both (same_name k.name k.name && all_in (shapes_in (take (length k.parts) ss)) us) (in_shapes (drop (length k.parts) ss) vs)
    (and-both (same_name k.name k.name) (all_in (shapes_in (take (length k.parts) ss)) us) (name-same k.name k.name refl) inner) outer in (
      us,
      vs,
      r.2,
      r.3,
      and-left (match_line front (values_list us)) (match_line rest vs) both,
      and-right (match_line front (values_list us)) (match_line rest vs) both,
      within,
      sym (lines_under-match w s c cs ls fl k one us count vs) ∙ subst (λ ws. match_some (lines_under (built_head k.name (length k.parts)) ls) ws ≡ false) r.4 m.4,
    )

con-misses : (w : World) → IsSound w → (all : List Member) (n : Name) (ps : Typeds) (rest : Line) (ls : List Line) (ss : List Shape) →
    Gives w (row_in (lines_under (built_head n (length (items_of ps))) ls) (items_of ps ++ rest)) ss →
    Gives w (row_in ls (con all n ps ∷ rest)) (with_head (built_head n (length (items_of ps))) ss)
con-misses w s all n ps rest ls ss ih [] fl fr = absurd fr
con-misses w s all n ps rest ls ss ih (c ∷ cs) fl fr =
    let k = fr.0.0 in
    let one : IsOne k (constructors_of (form_of w c.body)) = fr.0.1 in
    let long : length (items_of ps) ≡ length k.parts = typed-length w k.parts ps fr.0.4 in
    let head : built_head n (length (items_of ps)) ≡ built_head k.name (length k.parts) = λ i. built_head (fr.0.2 i) (long i) in
    let fits = fits-append w (columns_at (pred c.depth) k.parts) cs (items_of ps) rest (parts-fit w (pred c.depth) k.parts ps fr.0.4 (below c.depth (depth_in (plains ps)) fr.1)) fr.2 in
    let inner = (subst (λ h. Gives w (row_in (lines_under h ls) (items_of ps ++ rest)) ss) head ih) (columns_at (pred c.depth) k.parts ++ cs) (lines_under-fit w s c cs ls fl k one) fits in
    let m = under-misses w s c cs ls fl k one (items_of ps) rest long ss inner in
    let v = built k.name m.0 in
    let here : (matches (plain (con all n ps)) v && match_line rest m.1) ≡ true =
    and-both (matches (plain (con all n ps)) v) (match_line rest m.1)
    (and-both (same_name n k.name) (match_all (plains ps) m.0) (name-same n k.name fr.0.2) (sym (items-match ps m.0) ∙ m.4)) m.5 in
    (v ∷ m.1, (IsOf.of_constructor' one m.2, m.3), here, subst (λ h. in_shapes (with_head h ss) (v ∷ m.1) ≡ true) (sym head) m.6, m.7)

lit-misses : (w : World) (n : Name) (rest : Line) (ls : List Line) (ss : List Shape) → Gives w (row_in (lines_under (literal_head n) ls) rest) ss →
    Gives w (row_in ls (lit n ∷ rest)) (with_head (literal_head n) ss)
lit-misses w n rest ls ss ih [] fl fr = absurd fr
lit-misses w n rest ls ss ih (c ∷ cs) fl fr =
    let m = ih cs (lines_under-fit-literal w c cs ls fl n) fr.2 in
    let own = name-same n n refl in (
      literal n ∷ m.0,
      (IsOf.of_literal' fr.0, m.1),
      and-both (same_name n n) (match_line rest m.0) own m.2,
      and-both (same_name n n) (in_shapes ss m.0) own m.3,
      sym (lines_under-match-literal w c cs ls fl n m.0) ∙ m.4,
    )

either-misses : (w : World) (ps : Typeds) (rest : Line) (ls : List Line) (ss : List Shape) → Gives w (some_in ls ps rest) ss → Gives w (row_in ls (either ps ∷ rest)) ss
either-misses w ps rest ls ss ih [] fl fr = absurd fr
either-misses w ps rest ls ss ih (c ∷ cs) fl fr =
    let m = ih c cs fl fr.0 fr.1 fr.2 in
    (m.0 ∷ m.1, (m.2, m.3), and-both (matches_some (plains ps) m.0) (match_line rest m.1) m.4 m.5, m.6, m.7)

members-misses : (w : World) (rest : Line) (ls : List Line) (ss : List Shape) → column ls ≡ None → Gives w (members_in ls (family ls) rest) ss → Gives w (row_in ls (any ∷ rest)) ss
members-misses w rest ls ss e ih [] fl fr = absurd fr
members-misses w rest ls ss e ih (c ∷ cs) fl fr =
    elim (family-typed w c cs ls fl) [
      | inl empty ↦ absurd (column-some ls e empty)
      | inr known ↦
          let some : members (form_of w c.body) ≡ [] → ⊥ = λ empty. column-some ls e (known.0 ∙ empty) in
          let m = ih c cs fl fr.2 (constructors_of (form_of w c.body)) (known.0 ∙ all-members (form_of w c.body) some) (λ k one. one) in
          (m.0 ∷ m.1, (m.2, m.3), m.5, m.6, m.7)
    ]

default-misses : (w : World) → IsSound w → (rest : Line) (ls : List Line) (shape : Shape) (ss : List Shape) → column ls ≡ Some shape → Gives w (row_in (headless ls) rest) ss →
    Gives w (row_in ls (any ∷ rest)) (shape ∷ ss)
default-misses w s rest ls shape ss e ih [] fl fr = absurd fr
default-misses w s rest ls shape ss e ih (c ∷ cs) fl fr =
    let m = ih cs (headless-fit w c cs ls fl) fr.2 in
    let v = chosen w s c cs ls shape fl e in
    (v.0 ∷ m.0, (v.1, m.1), m.2, and-both (is_in shape v.0) (in_shapes ss m.0) v.2 m.3, headless-avoided v.0 ls v.3 m.0 ∙ m.4)

not-more : (a b : Bool) → (a ≡ true → b ≡ true) → b ≡ false → a ≡ false
not-more true b f e = let x = f refl in cc
not-more false b f e = refl

squeezed-misses : (w : World) (row : Line) (ls fewer : List Line) (ss : List Shape) → IsSqueezed fewer ls → Gives w (row_in fewer row) ss → Gives w (row_in ls row) ss
squeezed-misses w row ls fewer ss q ih cs fl fr =
    let m = ih cs (among-fit w cs fewer ls fl q.kept) fr in
    (m.0, m.1, m.2, m.3, not-more (match_some ls m.0) (match_some fewer m.0) (among-match ls fewer m.0 q.none_lost) m.4)

pattern-missed : (w : World) (p : Typed) (ps : Typeds) (rest : Line) (ls : List Line) (ss : List Shape) (c : Column) (cs : List Column) → MissedBy w ls ss (c ∷ cs) (p ∷ rest) →
    MissedBehind w ls ss c cs rest (λ v. matches_some (plains (also p ps)) v)
pattern-missed w p ps rest ls ss c cs ([], is, m, shapes, no_line) = absurd is
pattern-missed w p ps rest ls ss c cs (v ∷ vs, is, m, shapes, no_line) = (
  v,
  vs,
  is.0,
  is.1,
  or-first (matches (plain p) v) (matches_some (plains ps) v) (and-left (matches (plain p) v) (match_line rest vs) m),
  and-right (matches (plain p) v) (match_line rest vs) m,
  shapes,
  no_line,
)

pattern-misses : (w : World) (p : Typed) (ps : Typeds) (rest : Line) (ls : List Line) (ss : List Shape) → Gives w (row_in ls (p ∷ rest)) ss → Gives w (some_in ls (also p ps) rest) ss
pattern-misses w p ps rest ls ss ih c cs fl typed deep fr =
    pattern-missed w p ps rest ls ss c cs (ih (c ∷ cs) fl (typed.0, max-first (depth_of (plain p)) (depth_in (plains ps)) c.depth deep, fr))

next-misses : (w : World) (p : Typed) (ps : Typeds) (rest : Line) (ls : List Line) (ss : List Shape) → Gives w (some_in ls ps rest) ss → Gives w (some_in ls (also p ps) rest) ss
next-misses w p ps rest ls ss ih c cs fl typed deep fr =
    let m = ih c cs fl typed.1 (max-second (depth_of (plain p)) (depth_in (plains ps)) c.depth deep) fr in
    (m.0, m.1, m.2, m.3, or-second (matches (plain p) m.0) (matches_some (plains ps) m.0) m.4, m.5, m.6, m.7)

member-misses : (w : World) → IsSound w → (k : Member) (ks : List Member) (rest : Line) (ls : List Line) (ss : List Shape) →
    Gives w (row_in (lines_under (head_of k) ls) (opened k.parts ++ rest)) ss → Gives w (members_in ls (k ∷ ks) rest) (with_head (head_of k) ss)
member-misses w s k ks rest ls ss ih c cs fl fr [] e own = cc
member-misses w s k ks rest ls ss ih c cs fl fr (b ∷ bs) e own =
    let is : k ≡ member b = cc in
    let one = own b first in
    let fits = fits-append w (columns_at (pred c.depth) b.parts) cs (opened (length b.parts)) rest (opened-fit w (pred c.depth) b.parts) fr in
    let inner = (subst (λ x. Gives w (row_in (lines_under (head_of x) ls) (opened x.parts ++ rest)) ss) is ih) (columns_at (pred c.depth) b.parts ++ cs) (lines_under-fit w s c cs ls fl b one) fits in
    let m = under-misses w s c cs ls fl b one (opened (length b.parts)) rest (length-opened (length b.parts)) ss inner in
    (built b.name m.0, m.1, IsOf.of_constructor' one m.2, m.3, refl, m.5, subst (λ x. in_shapes (with_head (head_of x) ss) (built b.name m.0 ∷ m.1) ≡ true) (sym is) m.6, m.7)

later-misses : (w : World) (k : Member) (ks : List Member) (rest : Line) (ls : List Line) (ss : List Shape) → Gives w (members_in ls ks rest) ss → Gives w (members_in ls (k ∷ ks) rest) ss
later-misses w k ks rest ls ss ih c cs fl fr [] e own = cc
later-misses w k ks rest ls ss ih c cs fl fr (b ∷ bs) e own = let left : ks ≡ map member bs = cc in ih c cs fl fr bs left (λ x one. own x (later one))

some-under : (h : List Shape → List Shape) (s : Option (List Shape)) (ss : List Shape) → Some ss ≡ option_map h s → (inner : List Shape) × (s ≡ Some inner) × (h inner ≡ ss)
some-under h None ss e = cc
some-under h (Some inner) ss e = (inner, refl, cc)

some-is : (a b : List Shape) → Some a ≡ Some b → a ≡ b
some-is a b e = cc

end-misses : (w : World) (cs : List Column) (ss : List Shape) → LineFits w cs [] → [] ≡ ss → MissedBy w [] ss cs []
end-misses w [] ss fr e = ([], tt, refl, subst (λ xs. in_shapes xs [] ≡ true) e refl, refl)
end-misses w (c ∷ cs) ss fr e = absurd fr

-- the theorem
pub gives : (w : World) → IsSound w → {t : Task} {r : Option (List Shape)} → Finds t r → (ss : List Shape) → r ≡ Some ss → Gives w t ss
gives w s missed ss e = λ cs fl fr. end-misses w cs ss fr (some-is [] ss e)
gives w s covered ss e = cc
gives w s (by_con {all = all} {n = n} {ps = ps} {rest = rest} {ls = ls} {r = r} {s = found} f is) ss e =
    let head = built_head n (length (items_of ps)) in
    let u = some-under (with_head head) found ss (sym e ∙ is) in
    subst (Gives w (row_in ls (con all n ps ∷ rest))) u.2 (con-misses w s all n ps rest ls u.0 (gives w s f u.0 u.1))
gives w s (by_lit {n = n} {rest = rest} {ls = ls} {r = r} {s = found} f is) ss e =
    let u = some-under (with_head (literal_head n)) found ss (sym e ∙ is) in
    subst (Gives w (row_in ls (lit n ∷ rest))) u.2 (lit-misses w n rest ls u.0 (gives w s f u.0 u.1))
gives w s (by_either {ps = ps} {rest = rest} {ls = ls} {r = r} f) ss e = either-misses w ps rest ls ss (gives w s f ss e)
gives w s (by_members {rest = rest} {ls = ls} {r = r} all f) ss e = members-misses w rest ls ss all (gives w s f ss e)
gives w s (by_default {rest = rest} {ls = ls} {shape = shape} {r = r} {s = found} shown f is) ss e =
    let u = some-under (λ xs. shape ∷ xs) found ss (sym e ∙ is) in
    subst (Gives w (row_in ls (any ∷ rest))) u.2 (default-misses w s rest ls shape u.0 shown (gives w s f u.0 u.1))
gives w s (squeezed {row = row} {ls = ls} {fewer = fewer} {r = r} q f) ss e = squeezed-misses w row ls fewer ss q (gives w s f ss e)
gives w s no_pattern ss e = cc
gives w s (this_pattern {p = p} {ps = ps} {rest = rest} {ls = ls} {ss = own} f) ss e = pattern-misses w p ps rest ls ss (gives w s f ss e)
gives w s (next_pattern {p = p} {ps = ps} {rest = rest} {ls = ls} {r = r} f g) ss e = next-misses w p ps rest ls ss (gives w s g ss e)
gives w s no_member ss e = cc
gives w s (this_member {k = k} {ks = ks} {rest = rest} {ls = ls} {ss = own} {r = r} f is) ss e =
    let same : with_head (head_of k) own ≡ ss = some-is (with_head (head_of k) own) ss (sym is ∙ e) in
    subst (Gives w (members_in ls (k ∷ ks) rest)) same (member-misses w s k ks rest ls own (gives w s f own refl))
gives w s (next_member {k = k} {ks = ks} {rest = rest} {ls = ls} {r = r} f g) ss e = later-misses w k ks rest ls ss (gives w s g ss e)
