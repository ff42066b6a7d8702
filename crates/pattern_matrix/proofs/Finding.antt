-- What is found, step by step.
use Rattle.std.proofs.Common.{◌≡◌, ℕ, zero, suc, ◌+◌, ◌<◌, ◌≤◌, true, false, List, [], ◌∷◌, ◌++◌, length, map, drop, get_or, Option, Some, None, refl, sym, ap, ◌∙◌, subst, arith, Vec, Global}
use Rattle.std.specs.Prelude.{option_map}
use Rattle.std.specs.Option.{is_some}
use Rattle.signature_model.specs.Declarations.{Name}
use Rattle.pattern_matrix.specs.Lines.{Member, Typed, any, con, lit, either, listed, items_of, Line, opened, Head, built_head, literal_head, head_of, lines_under, headless, family, first_absent, column, column_by, open_built}
use Rattle.pattern_matrix.specs.Search.{Finds, FindsUnder, row_in, some_in, members_in, by_con, by_lit, by_either, squeezed, this_pattern, next_pattern, this_member, next_member, no_pattern, no_member, by_members, by_default, missed, covered, IsSqueezed, under_head, behind}
use Rattle.pattern_matrix.specs.Views.{typed_of, member_of, members_of, shapes_view}
use Rattle.match_model.specs.Values.{Shape as plain}
use Rattle.pattern_matrix.specs.declared.patterns.Built.{Built}
use Rattle.pattern_matrix.specs.declared.patterns.Pat.{Pat}
use Rattle.pattern_matrix.specs.declared.patterns.Shape.{Shape}
use Rattle.pattern_matrix.proofs.Listing.{items_of-listed}
use Rattle.pattern_matrix.proofs.Squeezing.{at-drop}

-- a row that begins with a constructor, a literal or alternatives
pub con-found : (all : List Member) (n : Name) (xs : List Typed) (rest : Line) (ls : List Line) (first : Typed) (row : Line) (k : ℕ) (r : Option (List plain)) →
    first ≡ con all n (listed xs) → row ≡ xs ++ rest → k ≡ length xs → FindsUnder (built_head n k) ls row r → Finds (row_in ls (first ∷ rest)) r
con-found all n xs rest ls first row k r is cells count found =
    let ps = items_of-listed xs in
    let len : k ≡ length (items_of (listed xs)) = count ∙ ap length (sym ps) in
    let own : row ≡ items_of (listed xs) ++ rest = cells ∙ ap (λ qs. qs ++ rest) (sym ps) in
    let inner = subst (λ m. Finds (row_in (lines_under (built_head n m) ls) row) found.0) len found.1 in
    let outer = found.2 ∙ ap (λ m. under_head (built_head n m) found.0) len in
    subst (λ p. Finds (row_in ls (p ∷ rest)) r) (sym is)
    (by_con (subst (λ l. Finds (row_in (lines_under (built_head n (length (items_of (listed xs)))) ls) l) found.0) own inner) outer)

pub literal-found : (n : Name) (rest : Line) (ls : List Line) (first : Typed) (row : Line) (r : Option (List plain)) →
    first ≡ lit n → row ≡ rest → FindsUnder (literal_head n) ls row r → Finds (row_in ls (first ∷ rest)) r
literal-found n rest ls first row r is cells found =
    subst (λ p. Finds (row_in ls (p ∷ rest)) r) (sym is) (by_lit (subst (λ l. Finds (row_in (lines_under (literal_head n) ls) l) found.0) cells found.1) found.2)

pub either-found : (xs : List Typed) (rest : Line) (ls : List Line) (first : Typed) (r : Option (List plain)) →
    first ≡ either (listed xs) → Finds (some_in ls (listed xs) rest) r → Finds (row_in ls (first ∷ rest)) r
either-found xs rest ls first r is found = subst (λ p. Finds (row_in ls (p ∷ rest)) r) (sym is) (by_either found)

-- one of several patterns finds something, or the next ones decide
this-found : (p : Typed) (ps : List Typed) (rest : Line) (ls : List Line) (found : Option (Vec Shape Global)) → true ≡ is_some found →
    Finds (row_in ls (p ∷ rest)) (shapes_view found) → Finds (some_in ls (listed (p ∷ ps)) rest) (shapes_view found)
this-found p ps rest ls None e h = cc
this-found p ps rest ls (Some v) e h = this_pattern h

pub alternative-found : (xs : List Pat) (i : ℕ) (x : Pat) (rest : Line) (ls : List Line) (found : Option (Vec Shape Global)) → i < length xs → x ≡ get_or xs i x →
    true ≡ is_some found → Finds (row_in ls (typed_of x ∷ rest)) (shapes_view found) → Finds (some_in ls (listed (map typed_of (drop i xs))) rest) (shapes_view found)
alternative-found xs i x rest ls found lt e some h =
    subst (λ zs. Finds (some_in ls (listed (map typed_of zs)) rest) (shapes_view found)) (sym (at-drop xs i x lt e))
    (this-found (typed_of x) (map typed_of (drop (i + 1) xs)) rest ls found some h)

next-found : (p : Typed) (ps : List Typed) (rest : Line) (ls : List Line) (found : Option (Vec Shape Global)) (r : Option (List plain)) → false ≡ is_some found →
    Finds (row_in ls (p ∷ rest)) (shapes_view found) → Finds (some_in ls (listed ps) rest) r → Finds (some_in ls (listed (p ∷ ps)) rest) r
next-found p ps rest ls None r e h more = next_pattern h more
next-found p ps rest ls (Some v) r e h more = cc

pub alternatives-left : (xs : List Pat) (i : ℕ) (x : Pat) (rest : Line) (ls : List Line) (found : Option (Vec Shape Global)) (r : Option (List plain)) → i < length xs → x ≡ get_or xs i x →
    false ≡ is_some found → Finds (row_in ls (typed_of x ∷ rest)) (shapes_view found) → Finds (some_in ls (listed (map typed_of (drop (i + 1) xs))) rest) r →
    Finds (some_in ls (listed (map typed_of (drop i xs))) rest) r
alternatives-left xs i x rest ls found r lt e none h more =
    subst (λ zs. Finds (some_in ls (listed (map typed_of zs)) rest) r) (sym (at-drop xs i x lt e))
    (next-found (typed_of x) (map typed_of (drop (i + 1) xs)) rest ls found r none h more)

-- one of several constructors finds something, or the next ones decide
member-under : (k : Member) (ks : List Member) (rest : Line) (ls : List Line) (v : Vec Shape Global) (s : Option (List plain)) →
    Finds (row_in (lines_under (head_of k) ls) (opened k.parts ++ rest)) s → shapes_view (Some v) ≡ under_head (head_of k) s →
    Finds (members_in ls (k ∷ ks) rest) (shapes_view (Some v))
member-under k ks rest ls v None f is = cc
member-under k ks rest ls v (Some ss) f is = this_member f is

this-member : (k : Member) (ks : List Member) (rest row : Line) (ls : List Line) (found : Option (Vec Shape Global)) → true ≡ is_some found → row ≡ opened k.parts ++ rest →
    FindsUnder (head_of k) ls row (shapes_view found) → Finds (members_in ls (k ∷ ks) rest) (shapes_view found)
this-member k ks rest row ls None e cells h = cc
this-member k ks rest row ls (Some v) e cells h = member-under k ks rest ls v h.0 (subst (λ l. Finds (row_in (lines_under (head_of k) ls) l) h.0) cells h.1) h.2

none-under : (k : Member) (ks : List Member) (rest : Line) (ls : List Line) (s r : Option (List plain)) →
    Finds (row_in (lines_under (head_of k) ls) (opened k.parts ++ rest)) s → None ≡ under_head (head_of k) s →
    Finds (members_in ls ks rest) r → Finds (members_in ls (k ∷ ks) rest) r
none-under k ks rest ls None r f is more = next_member f more
none-under k ks rest ls (Some ss) r f is more = cc

next-member : (k : Member) (ks : List Member) (rest row : Line) (ls : List Line) (found : Option (Vec Shape Global)) (r : Option (List plain)) → false ≡ is_some found →
    row ≡ opened k.parts ++ rest → FindsUnder (head_of k) ls row (shapes_view found) → Finds (members_in ls ks rest) r → Finds (members_in ls (k ∷ ks) rest) r
next-member k ks rest row ls None r e cells h more = none-under k ks rest ls h.0 r (subst (λ l. Finds (row_in (lines_under (head_of k) ls) l) h.0) cells h.1) h.2 more
next-member k ks rest row ls (Some v) r e cells h more = cc

pub member-found : (xs : List Built) (i : ℕ) (x : Built) (rest row : Line) (ls : List Line) (h : Head) (found : Option (Vec Shape Global)) → i < length xs → x ≡ get_or xs i x →
    true ≡ is_some found → row ≡ opened x.parts ++ rest → h ≡ head_of (member_of x) → FindsUnder h ls row (shapes_view found) →
    Finds (members_in ls (members_of (drop i xs)) rest) (shapes_view found)
member-found xs i x rest row ls h found lt e some cells is f =
    subst (λ zs. Finds (members_in ls (members_of zs) rest) (shapes_view found)) (sym (at-drop xs i x lt e))
    (this-member (member_of x) (members_of (drop (i + 1) xs)) rest row ls found some cells (subst (λ g. FindsUnder g ls row (shapes_view found)) is f))

pub members-left : (xs : List Built) (i : ℕ) (x : Built) (rest row : Line) (ls : List Line) (h : Head) (found : Option (Vec Shape Global)) (r : Option (List plain)) → i < length xs →
    x ≡ get_or xs i x → false ≡ is_some found → row ≡ opened x.parts ++ rest → h ≡ head_of (member_of x) → FindsUnder h ls row (shapes_view found) →
    Finds (members_in ls (members_of (drop (i + 1) xs)) rest) r → Finds (members_in ls (members_of (drop i xs)) rest) r
members-left xs i x rest row ls h found r lt e none cells is f more =
    subst (λ zs. Finds (members_in ls (members_of zs) rest) r) (sym (at-drop xs i x lt e))
    (next-member (member_of x) (members_of (drop (i + 1) xs)) rest row ls found r none cells (subst (λ g. FindsUnder g ls row (shapes_view found)) is f) more)

all-dropped : {A : Type 0} (xs : List A) (i : ℕ) → length xs ≤ i → drop i xs ≡ []
all-dropped [] zero h = refl
all-dropped [] (suc i) h = refl
all-dropped (x ∷ xs) zero h = absurd (omega arith)
all-dropped (x ∷ xs) (suc i) h = all-dropped xs i (omega arith)

-- none is left
pub no-alternative-left : (xs : List Pat) (i : ℕ) (rest : Line) (ls : List Line) → length xs ≤ i → Finds (some_in ls (listed (map typed_of (drop i xs))) rest) None
no-alternative-left xs i rest ls h = subst (λ zs. Finds (some_in ls (listed (map typed_of zs)) rest) None) (sym (all-dropped xs i h)) no_pattern

pub no-member-left : (xs : List Built) (i : ℕ) (rest : Line) (ls : List Line) → length xs ≤ i → Finds (members_in ls (members_of (drop i xs)) rest) None
no-member-left xs i rest ls h = subst (λ zs. Finds (members_in ls (members_of zs) rest) None) (sym (all-dropped xs i h)) no_member

-- all constructors head a line
pub by-all-members : (bs : List Built) (rest : Line) (ls : List Line) (r : Option (List plain)) → members_of bs ≡ family ls → 0 < length bs → None ≡ first_absent (members_of bs) ls →
    Finds (members_in ls (members_of bs) rest) r → Finds (row_in ls (any ∷ rest)) r
by-all-members [] rest ls r all some none f = absurd (omega arith)
by-all-members (b ∷ bs) rest ls r all some none f =
    let complete : column ls ≡ None = ap (λ ks. column_by ks ls) (sym all) ∙ ap (option_map open_built) (sym none) in
    by_members complete (subst (λ ks. Finds (members_in ls ks rest) r) all f)

-- the lines without a head decide
pub default-found : (rest : Line) (ls fewer : List Line) (row : Line) (shape : plain) (r s : Option (List plain)) → column ls ≡ Some shape → IsSqueezed fewer (headless ls) → row ≡ rest →
    Finds (row_in fewer row) s → r ≡ behind shape s → Finds (row_in ls (any ∷ rest)) r
default-found rest ls fewer row shape r s shown fewer-is cells f is =
    by_default shown (squeezed fewer-is (subst (λ l. Finds (row_in fewer l) s) cells f)) is

-- no column is left
pub end-missed : (ls : List Line) → length ls ≡ 0 → Finds (row_in ls []) (Some [])
end-missed [] e = missed
end-missed (l ∷ ls) e = absurd (omega arith)

pub end-covered : (ls : List Line) → 0 < length ls → Finds (row_in ls []) None
end-covered [] h = absurd (omega arith)
end-covered (l ∷ ls) h = covered
