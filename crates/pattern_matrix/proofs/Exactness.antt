-- From what the search finds to what a match tells.
use Rattle.std.proofs.Common.{◌≡◌, ℕ, zero, suc, max, ◌≤◌, Bool, true, false, not, ◌&&◌, ◌||◌, List, [], ◌∷◌, ◌++◌, length, take, Option, Some, None, refl, sym, ap, ◌∙◌, subst, arith}
use Rattle.std.specs.Prelude.{slice_get, option_map}
use Rattle.std.proofs.lemmas.List.{take-map}
use Rattle.std.proofs.Math.Nat.{max-le}
use Rattle.std.proofs.lemmas.Option.{slice_get-map}
use Rattle.type_model.specs.Types.{Typ}
use Rattle.match_model.specs.Values.{Value, Values, no_values, also_value, match_all, Shape, is_in, all_in, Pattern}
use Rattle.match_model.specs.Forms.{World, AreOf}
use Rattle.match_model.specs.Rows.{Row, depth_in, deepest, is_matched, IsUnused}
use Rattle.match_model.specs.Shown.{list_of}
use Rattle.pattern_matrix.specs.Lines.{listed, Line, opened, shapes_in}
use Rattle.pattern_matrix.specs.Search.{Finds, row_in}
use Rattle.pattern_matrix.specs.Typing.{plain, plains, AreTyped, IsSound}
use Rattle.pattern_matrix.specs.Rows.{line_of, lines_of, mark_of, near_lines, unless_guarded, together, FindsShape, IsTold, AreUnused, covered_one, useful_one}
use Rattle.pattern_matrix.specs.Rows as told
use Rattle.pattern_matrix.specs.Exact.{row_of, rows_of, IsRowTyped, AreRowsTyped, IsCovered, AddsTo, Tells, TellsMissed, unless, open_lines, AreThose, at_start, such, other}
use Rattle.pattern_matrix.specs.declared.patterns.PatRow.{PatRow}
use Rattle.pattern_matrix.proofs.Listing.{items_of-listed}
use Rattle.pattern_matrix.proofs.Matching.{Column, columns_at, match_line, match_some, LineFits, LinesFit, AreIn, values_list, items-match}
use Rattle.pattern_matrix.proofs.Fitting.{max-first, max-second, parts-fit, opened-fit}
use Rattle.pattern_matrix.proofs.Covers.{covers}
use Rattle.pattern_matrix.proofs.Nearness.{near-match, near-fit}
use Rattle.pattern_matrix.proofs.Misses.{in_shapes, gives}
use Rattle.pattern_matrix.proofs.Showing.{erased, all_erased, bodies, Told, shows, alike}

-- values, shapes and rows on both sides
line-matches : (l : Line) (us : Values) → match_line l (values_list us) ≡ match_all (plains (listed l)) us
line-matches l us = ap (λ m. match_line m (values_list us)) (sym (items_of-listed l)) ∙ items-match (listed l) us

are-in : {w : World} {d : ℕ} {ts : List Typ} {us : Values} → AreOf w d ts us → AreIn w (columns_at d ts) (values_list us)
are-in AreOf.none = tt
are-in (AreOf.and_one v vs) = (v, are-in vs)

abbrev AsValues : World → ℕ → List Typ → List Value → Type 0
AsValues w d ts vs = (us : Values) × AreOf w d ts us × (values_list us ≡ vs)

as-values : (w : World) (d : ℕ) (ts : List Typ) (vs : List Value) → AreIn w (columns_at d ts) vs → AsValues w d ts vs
as-values w d [] [] h = (no_values, AreOf.none, refl)
as-values w d [] (v ∷ vs) h = absurd h
as-values w d (t ∷ ts) [] h = absurd h
as-values w d (t ∷ ts) (v ∷ vs) h = let r = as-values w d ts vs h.1 in (also_value v r.0, AreOf.and_one h.0 r.1, ap (λ xs. v ∷ xs) r.2)

shapes-on-values : (ss : List Shape) (us : Values) → all_in (shapes_in ss) us ≡ in_shapes ss (values_list us)
shapes-on-values [] no_values = refl
shapes-on-values [] (also_value u us) = refl
shapes-on-values (s ∷ ss) no_values = refl
shapes-on-values (s ∷ ss) (also_value u us) = ap (λ b. is_in s u && b) (shapes-on-values ss us)

one-matched : (g : Bool) (l : Line) (rest : List Line) (us : Values) (m : Bool) → m ≡ match_some rest (values_list us) →
    ((not g && match_all (plains (listed l)) us) || m) ≡ match_some (unless_guarded g l ++ rest) (values_list us)
one-matched true l rest us m e = e
one-matched false l rest us m e = ap (λ b. b || m) (sym (line-matches l us)) ∙ ap (λ b. match_line l (values_list us) || b) e

rows-match : (rs : List PatRow) (us : Values) → is_matched (rows_of rs) us ≡ match_some (lines_of rs) (values_list us)
rows-match [] us = refl
rows-match (r ∷ rs) us = one-matched r.guarded (line_of r) (lines_of rs) us (is_matched (rows_of rs) us) (rows-match rs us)

line-fits : (w : World) (ts : List Typ) (d : ℕ) (l : Line) → AreTyped w ts (listed l) → depth_in (plains (listed l)) ≤ d → LineFits w (columns_at d ts) l
line-fits w ts d l h deep = subst (λ m. LineFits w (columns_at d ts) m) (items_of-listed l) (parts-fit w d ts (listed l) h deep)

guarded-fits : (w : World) (cs : List Column) (g : Bool) (l : Line) (ls : List Line) → LineFits w cs l → LinesFit w cs ls → LinesFit w cs (unless_guarded g l ++ ls)
guarded-fits w cs true l ls h hs = hs
guarded-fits w cs false l ls h hs = (h, hs)

rows-fit : (w : World) (ts : List Typ) (d : ℕ) (rs : List PatRow) → AreRowsTyped w ts rs → deepest (rows_of rs) ≤ d → LinesFit w (columns_at d ts) (lines_of rs)
rows-fit w ts d [] h deep = tt
rows-fit w ts d (r ∷ rs) h deep =
    guarded-fits w (columns_at d ts) r.guarded (line_of r) (lines_of rs)
    (line-fits w ts d (line_of r) h.0 (max-first (depth_in (plains (listed (line_of r)))) (deepest (rows_of rs)) d deep))
    (rows-fit w ts d rs h.1 (max-second (depth_in (plains (listed (line_of r)))) (deepest (rows_of rs)) d deep))

-- where nothing is found, the row is covered
pub found-none : (rs : List PatRow) (r : PatRow) → Finds (row_in (lines_of rs) (line_of r)) None → (w : World) (ts : List Typ) (d : ℕ) → IsSound w → AreRowsTyped w ts rs → IsRowTyped w ts r →
    deepest (row_of r ∷ rows_of rs) ≤ d → IsCovered w ts d (rows_of rs) (row_of r)
found-none rs r f w ts d s hs h deep = λ vs are m.
    let a = max-first (depth_in (plains (listed (line_of r)))) (deepest (rows_of rs)) d deep in
    let b = max-second (depth_in (plains (listed (line_of r)))) (deepest (rows_of rs)) d deep in
    rows-match rs vs ∙ covers w s f refl (columns_at d ts) (rows-fit w ts d rs hs b) (line-fits w ts d (line_of r) h a) (values_list vs) (are-in are) (line-matches (line_of r) vs ∙ m)

-- where shapes are found, the row adds values of them
pub found-some : (rs : List PatRow) (r : PatRow) (ss : List Shape) → Finds (row_in (lines_of rs) (line_of r)) (Some ss) → (w : World) (ts : List Typ) (d : ℕ) → IsSound w →
    AreRowsTyped w ts rs → IsRowTyped w ts r → deepest (row_of r ∷ rows_of rs) ≤ d → AddsTo w ts d (rows_of rs) (row_of r) ss
found-some rs r ss f w ts d s hs h deep =
    let a = max-first (depth_in (plains (listed (line_of r)))) (deepest (rows_of rs)) d deep in
    let b = max-second (depth_in (plains (listed (line_of r)))) (deepest (rows_of rs)) d deep in
    let m = gives w s f ss refl (columns_at d ts) (rows-fit w ts d rs hs b) (line-fits w ts d (line_of r) h a) in
    let v = as-values w d ts m.0 m.1 in
    record {
      values = v.0;
      typed = v.1;
      shaped = shapes-on-values ss v.0 ∙ ap (in_shapes ss) v.2 ∙ m.3;
      matched = sym (line-matches (line_of r) v.0) ∙ ap (match_line (line_of r)) v.2 ∙ m.2;
      missed = rows-match rs v.0 ∙ ap (match_some (lines_of rs)) v.2 ∙ m.4;
    }

pub tells : (rs : List PatRow) (r : PatRow) (o : Option Shape) → FindsShape (lines_of rs) (line_of r) o → (w : World) (ts : List Typ) (d : ℕ) → IsSound w →
    AreRowsTyped w ts rs → IsRowTyped w ts r → deepest (row_of r ∷ rows_of rs) ≤ d → Tells w ts d (rows_of rs) (row_of r) o
tells rs r None f w ts d s hs h deep = found-none rs r f w ts d s hs h deep
tells rs r (Some s') f w ts d s hs h deep = (f.0, f.2, found-some rs r f.0 f.1 w ts d s hs h deep)

-- the same where the row is searched for in the lines near it alone
pub near-none : (rs : List PatRow) (at : ℕ) (r : PatRow) → Finds (row_in (near_lines at (mark_of at r) rs) (line_of r)) None → (w : World) (ts : List Typ) (d : ℕ) → IsSound w → AreRowsTyped w ts rs →
    IsRowTyped w ts r → deepest (row_of r ∷ rows_of rs) ≤ d → IsCovered w ts d (rows_of rs) (row_of r)
near-none rs at r f w ts d s hs h deep = λ vs are m.
    let a = max-first (depth_in (plains (listed (line_of r)))) (deepest (rows_of rs)) d deep in
    let b = max-second (depth_in (plains (listed (line_of r)))) (deepest (rows_of rs)) d deep in
    let cs = columns_at d ts in
    let fit = line-fits w ts d (line_of r) h a in
    let own = line-matches (line_of r) vs ∙ m in
    rows-match rs vs ∙ sym (near-match w cs at (line_of r) rs (values_list vs) fit (are-in are) own)
    ∙ covers w s f refl cs (near-fit w cs at (mark_of at r) rs (rows-fit w ts d rs hs b)) fit (values_list vs) (are-in are) own

-- the same where shapes are found
pub near-some : (rs : List PatRow) (at : ℕ) (r : PatRow) (ss : List Shape) → Finds (row_in (near_lines at (mark_of at r) rs) (line_of r)) (Some ss) → (w : World) (ts : List Typ) (d : ℕ) → IsSound w →
    AreRowsTyped w ts rs → IsRowTyped w ts r → deepest (row_of r ∷ rows_of rs) ≤ d → AddsTo w ts d (rows_of rs) (row_of r) ss
near-some rs at r ss f w ts d s hs h deep =
    let a = max-first (depth_in (plains (listed (line_of r)))) (deepest (rows_of rs)) d deep in
    let b = max-second (depth_in (plains (listed (line_of r)))) (deepest (rows_of rs)) d deep in
    let cs = columns_at d ts in
    let fit = line-fits w ts d (line_of r) h a in
    let m = gives w s f ss refl cs (near-fit w cs at (mark_of at r) rs (rows-fit w ts d rs hs b)) fit in
    let v = as-values w d ts m.0 m.1 in
    record {
      values = v.0;
      typed = v.1;
      shaped = shapes-on-values ss v.0 ∙ ap (in_shapes ss) v.2 ∙ m.3;
      matched = sym (line-matches (line_of r) v.0) ∙ ap (match_line (line_of r)) v.2 ∙ m.2;
      missed = rows-match rs v.0 ∙ ap (match_some (lines_of rs)) v.2 ∙ sym (near-match w cs at (line_of r) rs m.0 fit m.1 m.2) ∙ m.4;
    }

-- the rows before one
typed-before : (w : World) (ts : List Typ) (k : ℕ) (rs : List PatRow) → AreRowsTyped w ts rs → AreRowsTyped w ts (take k rs)
typed-before w ts zero rs h = tt
typed-before w ts (suc k) [] h = tt
typed-before w ts (suc k) (r ∷ rs) h = (h.0, typed-before w ts k rs h.1)

typed-at : (w : World) (ts : List Typ) (k : ℕ) (rs : List PatRow) (r : PatRow) → AreRowsTyped w ts rs → slice_get rs k ≡ Some r → IsRowTyped w ts r
typed-at w ts k [] r h e = cc
typed-at w ts zero (q ∷ rs) r h e = let same : q ≡ r = cc in subst (λ x. IsRowTyped w ts x) same h.0
typed-at w ts (suc k) (q ∷ rs) r h e = typed-at w ts k rs r h.1 e

max-bound : (a b d : ℕ) → a ≤ d → b ≤ d → max a b ≤ d
max-bound a b d h g = max-le h g

deep-before : (k : ℕ) (rs : List PatRow) (d : ℕ) → deepest (rows_of rs) ≤ d → deepest (rows_of (take k rs)) ≤ d
deep-before zero rs d h = omega arith
deep-before (suc k) [] d h = omega arith
deep-before (suc k) (r ∷ rs) d h =
    max-bound (depth_in (plains (listed (line_of r)))) (deepest (rows_of (take k rs))) d (max-first (depth_in (plains (listed (line_of r)))) (deepest (rows_of rs)) d h)
    (deep-before k rs d (max-second (depth_in (plains (listed (line_of r)))) (deepest (rows_of rs)) d h))

deep-at : (k : ℕ) (rs : List PatRow) (r : PatRow) (d : ℕ) → slice_get rs k ≡ Some r → deepest (rows_of rs) ≤ d → depth_in (plains (listed (line_of r))) ≤ d
deep-at k [] r d e h = cc
deep-at zero (q ∷ rs) r d e h =
    let same : q ≡ r = cc in
    subst (λ x. depth_in (plains (listed (line_of x))) ≤ d) same (max-first (depth_in (plains (listed (line_of q)))) (deepest (rows_of rs)) d h)
deep-at (suc k) (q ∷ rs) r d e h = deep-at k rs r d e (max-second (depth_in (plains (listed (line_of q)))) (deepest (rows_of rs)) d h)

le-refl : (n : ℕ) → n ≤ n
le-refl n = omega arith

deep-of : (rs : List PatRow) (k : ℕ) (r : PatRow) → slice_get rs k ≡ Some r → deepest (row_of r ∷ rows_of (take k rs)) ≤ deepest (rows_of rs)
deep-of rs k r e =
    let d = deepest (rows_of rs) in
    max-bound (depth_in (plains (listed (line_of r)))) (deepest (rows_of (take k rs))) d (deep-at k rs r d e (le-refl d)) (deep-before k rs d (le-refl d))

row-at : (rs : List PatRow) (k : ℕ) (r : PatRow) → slice_get rs k ≡ Some r → slice_get (rows_of rs) k ≡ Some (row_of r)
row-at rs k r e = slice_get-map row_of rs k ∙ ap (option_map row_of) e

pub unused-told : (rs : List PatRow) (k : ℕ) → IsTold rs k true → (w : World) (ts : List Typ) → IsSound w → AreRowsTyped w ts rs → IsUnused w ts (rows_of rs) k
unused-told rs k f w ts s hs =
    let r = f.1 in
    let cover = near-none (take k rs) f.0 r f.3 w ts (deepest (rows_of rs)) s (typed-before w ts k rs hs) (typed-at w ts k rs r hs f.2) (deep-of rs k r f.2) in
    record { row = row_of r; stands = row-at rs k r f.2; each = λ vs are m. ap (λ q. is_matched q vs) (take-map row_of k rs) ∙ cover vs are m }

same-row : (a b : Row) → Some a ≡ Some b → a ≡ b
same-row a b e = cc

pub useful-told : (rs : List PatRow) (k : ℕ) → IsTold rs k false → (w : World) (ts : List Typ) → IsSound w → AreRowsTyped w ts rs → IsUnused w ts (rows_of rs) k → ⊥
useful-told rs k f w ts s hs u =
    let r = f.1 in
    let m = near-some (take k rs) f.0 r f.3.0 f.3.1 w ts (deepest (rows_of rs)) s (typed-before w ts k rs hs) (typed-at w ts k rs r hs f.2) (deep-of rs k r f.2) in
    let same : row_of r ≡ u.row = same-row (row_of r) u.row (sym (row-at rs k r f.2) ∙ u.stands) in
    let yes : is_matched (take k (rows_of rs)) m.values ≡ true = u.each m.values m.typed (ap (λ q. match_all q.patterns m.values) (sym same) ∙ m.matched) in
    let x : true ≡ false = sym yes ∙ ap (λ q. is_matched q m.values) (take-map row_of k rs) ∙ m.missed in cc

pub those-unused : (rs : List PatRow) (w : World) (ts : List Typ) → IsSound w → AreRowsTyped w ts rs → {n : ℕ} {us : List ℕ} → AreUnused rs n us →
    AreThose (λ k. IsUnused w ts (rows_of rs) k) n us
those-unused rs w ts s hs told.at_start = at_start
those-unused rs w ts s hs (covered_one {k = k} f before is) = such (unused-told rs k f w ts s hs) (those-unused rs w ts s hs before) is
those-unused rs w ts s hs (useful_one {k = k} f before) = other (useful-told rs k f w ts s hs) (those-unused rs w ts s hs before)

-- what is shown for a whole match
bodies-at : (d : ℕ) (ts : List Typ) → bodies (columns_at d ts) ≡ ts
bodies-at d [] = refl
bodies-at d (t ∷ ts) = ap (λ us. t ∷ us) (bodies-at d ts)

length-at : (d : ℕ) (ts : List Typ) → length (columns_at d ts) ≡ length ts
length-at d [] = refl
length-at d (t ∷ ts) = ap suc (length-at d ts)

listed-erased : (l : Line) → erased l ≡ list_of (plains (listed l))
listed-erased [] = refl
listed-erased (p ∷ l) = ap (λ m. plain p ∷ m) (listed-erased l)

one-open : (g : Bool) (l : Line) (rest : List Line) (xs : List (List Pattern)) → all_erased rest ≡ xs → all_erased (unless_guarded g l ++ rest) ≡ unless g (list_of (plains (listed l))) ++ xs
one-open true l rest xs e = e
one-open false l rest xs e = ap (λ m. m ∷ all_erased rest) (listed-erased l) ∙ ap (λ ys. list_of (plains (listed l)) ∷ ys) e

lines-open : (rs : List PatRow) → all_erased (lines_of rs) ≡ open_lines (rows_of rs)
lines-open [] = refl
lines-open (r ∷ rs) = one-open r.guarded (line_of r) (lines_of rs) (open_lines (rows_of rs)) (lines-open rs)

open-fits : (w : World) (d : ℕ) (ts : List Typ) (n : ℕ) → length ts ≡ n → LineFits w (columns_at d ts) (opened n)
open-fits w d ts n e = subst (λ m. LineFits w (columns_at d ts) (opened m)) e (opened-fit w d ts)

open-matches : (w : World) (d : ℕ) (ts : List Typ) (n : ℕ) (us : Values) → length ts ≡ n → AreOf w d ts us → match_line (opened n) (values_list us) ≡ true
open-matches w d [] zero us e AreOf.none = refl
open-matches w d [] (suc n) us e h = absurd (omega arith)
open-matches w d (t ∷ ts) zero us e h = absurd (omega arith)
open-matches w d (t ∷ ts) (suc n) us e (AreOf.and_one v vs) = open-matches w d ts n _ (omega arith) vs

told-shown : (rs : List PatRow) (n : ℕ) (r : Option (List Shape)) → Finds (row_in (lines_of rs) (opened n)) r → (w : World) (ts : List Typ) → IsSound w → AreRowsTyped w ts rs → length ts ≡ n →
    Told w ts (open_lines (rows_of rs)) r
told-shown rs n r f w ts s hs e =
    let d = deepest (rows_of rs) in
    let row : opened n ≡ opened (length (columns_at d ts)) = ap opened (sym (length-at d ts ∙ e)) in
    subst (λ us. Told w us (open_lines (rows_of rs)) r) (bodies-at d ts)
    (subst (λ L. Told w (bodies (columns_at d ts)) L r) (lines-open rs)
    (shows w s f (columns_at d ts) (all_erased (lines_of rs)) (rows-fit w ts d rs hs (le-refl d)) row (alike (all_erased (lines_of rs)))))

not-both : (b : Bool) → b ≡ true → b ≡ false → ⊥
not-both true e f = cc
not-both false e f = cc

pub tells-missed : (rs : List PatRow) (n : ℕ) (o : Option Shape) → FindsShape (lines_of rs) (opened n) o → (w : World) (ts : List Typ) → IsSound w → AreRowsTyped w ts rs → length ts ≡ n →
    TellsMissed w ts (rows_of rs) o
tells-missed rs n None f w ts s hs e =
    let d = deepest (rows_of rs) in
    let fit = rows-fit w ts d rs hs (le-refl d) in (
      λ shapes m. not-both (is_matched (rows_of rs) m.values)
          (rows-match rs m.values ∙ covers w s f refl (columns_at d ts) fit (open-fits w d ts n e) (values_list m.values) (are-in m.typed) (open-matches w d ts n m.values e m.typed)) m.missed,
      told-shown rs n None f w ts s hs e,
    )
tells-missed rs n (Some s') f w ts s hs e =
    let d = deepest (rows_of rs) in
    let ss = f.0 in
    let m = gives w s f.1 ss refl (columns_at d ts) (rows-fit w ts d rs hs (le-refl d)) (open-fits w d ts n e) in
    let v = as-values w d ts m.0 m.1 in (
      ss,
      f.2,
      record {
        values = v.0;
        typed = v.1;
        shaped = shapes-on-values ss v.0 ∙ ap (in_shapes ss) v.2 ∙ m.3;
        missed = rows-match rs v.0 ∙ ap (match_some (lines_of rs)) v.2 ∙ m.4;
      },
      told-shown rs n (Some ss) f.1 w ts s hs e,
    )

pub nothing-behind : (l : Line) → l ++ [] ≡ l
nothing-behind [] = refl
nothing-behind (p ∷ l) = ap (λ m. p ∷ m) (nothing-behind l)
