-- What is found for a row that matches anything is the shape that is shown.
use Rattle.std.proofs.Common.{◌≡◌, ℕ, zero, suc, pred, Bool, true, false, ◌&&◌, ◌||◌, List, [], ◌∷◌, ◌++◌, length, map, take, drop, ◌⊎◌, inl, inr, Option, Some, None, refl, sym, ap, ◌∙◌, subst, cond, append_assoc}
use Rattle.std.specs.Prelude.{option_map, unwrap_or}
use Rattle.std.proofs.lemmas.List.{map-append}
use Rattle.type_model.specs.Types.{Typ}
use Rattle.signature_model.specs.Declarations.{Name}
use Rattle.signature_model.specs.Components.{same_name}
use Rattle.match_model.specs.Values.{Pattern, Patterns, no_patterns, also_pattern, Shape, Shapes, open_shape, of_built, no_shapes, also_shape}
use Rattle.match_model.specs.Values as model
use Rattle.match_model.specs.Forms.{Built, Form, closed_form, open_form, literals, no_form, World, form_of, constructors_of, IsOne, first, later}
use Rattle.match_model.specs.Shown as shown
use Rattle.match_model.specs.Shown.{Shows, FirstShown, ShowsNone, NoneShown, is_complete, column_shape, all_head, some_head}
use Rattle.pattern_matrix.specs.Lines.{Member, Typed, Typeds, any, con, lit, either, none, also, items_of, Line, opened, built_head, head_of, under, under_each, lines_under, without_head, each_without_head, headless, is_head, some_is_head, heads_some, family_in, family_in_some, family, first_absent, open_built, open_shapes, column, column_by, shapes_in}
use Rattle.pattern_matrix.specs.Search.{Task, row_in, some_in, members_in, Finds, missed, covered, by_con, by_lit, by_either, by_members, by_default, squeezed, no_pattern, this_pattern, next_pattern, no_member, this_member, next_member, with_head, behind, IsIn, here, there, IsSqueezed}
use Rattle.pattern_matrix.specs.Typing.{plain, plains, member, members, IsTyped, AreAllTyped, IsSound}
use Rattle.pattern_matrix.proofs.Matching.{Column, columns_at, LinesFit, or_assoc, or-first, or-second, or-cases, or-none, both-ways, name-same}
use Rattle.pattern_matrix.proofs.Fitting.{lines_under-fit, headless-fit, among-fit, family-typed, first-or}
use Rattle.pattern_matrix.proofs.Covers.{column-some}
use Rattle.pattern_matrix.proofs.Inhabited.{all-headless, column-open, none-known}

abbrev pub erased : Line → List Pattern
erased = map plain

abbrev pub all_erased : List Line → List (List Pattern)
all_erased = map erased

-- what is spread first is what is taken through the alternatives
list_of-plains : (ps : Typeds) → shown.list_of (plains ps) ≡ erased (items_of ps)
list_of-plains none = refl
list_of-plains (also p ps) = ap (λ l. plain p ∷ l) (list_of-plains ps)

opened-erased : (ts : List Typ) → erased (opened (length ts)) ≡ shown.anything ts
opened-erased [] = refl
opened-erased (t ∷ ts) = ap (λ l. model.any ∷ l) (opened-erased ts)

under-append : (k : Name) (ts : List Typ) (a b : List (List Pattern)) → shown.lines_under k ts (a ++ b) ≡ shown.lines_under k ts a ++ shown.lines_under k ts b
under-append k ts [] b = refl
under-append k ts ([] ∷ a) b = under-append k ts a b
under-append k ts ((p ∷ rest) ∷ a) b =
    ap (λ l. shown.under k ts p rest ++ l) (under-append k ts a b) ∙ sym (append_assoc (shown.under k ts p rest) (shown.lines_under k ts a) (shown.lines_under k ts b))

if-erased : (b : Bool) (l : Line) (m : List Pattern) → m ≡ erased l → (cond b (m ∷ []) []) ++ [] ≡ all_erased (cond b (l ∷ []) [])
if-erased true l m e = ap (λ x. x ∷ []) e
if-erased false l m e = refl

mutual
  under-spread : (k : Name) (ts : List Typ) (p : Typed) (rest : Line) →
      shown.lines_under k ts (shown.spread (plain p) (erased rest)) ≡ all_erased (under (built_head k (length ts)) p rest)
  under-spread k ts any rest = ap (λ l. l ∷ []) (ap (λ l. l ++ erased rest) (sym (opened-erased ts)) ∙ sym (map-append plain (opened (length ts)) rest))
  under-spread k ts (con all n ps) rest =
      if-erased (same_name k n) (items_of ps ++ rest) (shown.list_of (plains ps) ++ erased rest) (ap (λ l. l ++ erased rest) (list_of-plains ps) ∙ sym (map-append plain (items_of ps) rest))
  under-spread k ts (lit n) rest = refl
  under-spread k ts (either ps) rest = under-spread-each k ts ps rest

  under-spread-each : (k : Name) (ts : List Typ) (ps : Typeds) (rest : Line) →
      shown.lines_under k ts (shown.spread_all (plains ps) (erased rest)) ≡ all_erased (under_each (built_head k (length ts)) ps rest)
  under-spread-each k ts none rest = refl
  under-spread-each k ts (also p ps) rest =
      let h = built_head k (length ts) in
      under-append k ts (shown.spread (plain p) (erased rest)) (shown.spread_all (plains ps) (erased rest))
      ∙ ap (λ l. l ++ shown.lines_under k ts (shown.spread_all (plains ps) (erased rest))) (under-spread k ts p rest)
      ∙ ap (λ l. all_erased (under h p rest) ++ l) (under-spread-each k ts ps rest) ∙ sym (map-append erased (under h p rest) (under_each h ps rest))

lines_under-spread : (k : Name) (ts : List Typ) (ls : List Line) → shown.lines_under k ts (shown.spread_lines (all_erased ls)) ≡ all_erased (lines_under (built_head k (length ts)) ls)
lines_under-spread k ts [] = refl
lines_under-spread k ts ([] ∷ ls) = lines_under-spread k ts ls
lines_under-spread k ts ((p ∷ rest) ∷ ls) =
    let h = built_head k (length ts) in
    under-append k ts (shown.spread (plain p) (erased rest)) (shown.spread_lines (all_erased ls))
    ∙ ap (λ l. l ++ shown.lines_under k ts (shown.spread_lines (all_erased ls))) (under-spread k ts p rest)
    ∙ ap (λ l. all_erased (under h p rest) ++ l) (lines_under-spread k ts ls) ∙ sym (map-append erased (under h p rest) (lines_under h ls))

headless-append : (a b : List (List Pattern)) → shown.headless (a ++ b) ≡ shown.headless a ++ shown.headless b
headless-append [] b = refl
headless-append ([] ∷ a) b = headless-append a b
headless-append ((p ∷ rest) ∷ a) b =
    ap (λ l. shown.without_head p rest ++ l) (headless-append a b) ∙ sym (append_assoc (shown.without_head p rest) (shown.headless a) (shown.headless b))

mutual
  headless-spread-one : (p : Typed) (rest : Line) → shown.headless (shown.spread (plain p) (erased rest)) ≡ all_erased (without_head p rest)
  headless-spread-one any rest = refl
  headless-spread-one (con all n ps) rest = refl
  headless-spread-one (lit n) rest = refl
  headless-spread-one (either ps) rest = headless-spread-each ps rest

  headless-spread-each : (ps : Typeds) (rest : Line) → shown.headless (shown.spread_all (plains ps) (erased rest)) ≡ all_erased (each_without_head ps rest)
  headless-spread-each none rest = refl
  headless-spread-each (also p ps) rest =
      headless-append (shown.spread (plain p) (erased rest)) (shown.spread_all (plains ps) (erased rest))
      ∙ ap (λ l. l ++ shown.headless (shown.spread_all (plains ps) (erased rest))) (headless-spread-one p rest)
      ∙ ap (λ l. all_erased (without_head p rest) ++ l) (headless-spread-each ps rest) ∙ sym (map-append erased (without_head p rest) (each_without_head ps rest))

headless-spread : (ls : List Line) → shown.headless (shown.spread_lines (all_erased ls)) ≡ all_erased (headless ls)
headless-spread [] = refl
headless-spread ([] ∷ ls) = headless-spread ls
headless-spread ((p ∷ rest) ∷ ls) =
    headless-append (shown.spread (plain p) (erased rest)) (shown.spread_lines (all_erased ls))
    ∙ ap (λ l. l ++ shown.headless (shown.spread_lines (all_erased ls))) (headless-spread-one p rest)
    ∙ ap (λ l. all_erased (without_head p rest) ++ l) (headless-spread ls) ∙ sym (map-append erased (without_head p rest) (headless ls))

heads-append : (k : Name) (a b : List (List Pattern)) → shown.heads_some k (a ++ b) ≡ (shown.heads_some k a || shown.heads_some k b)
heads-append k [] b = refl
heads-append k ([] ∷ a) b = heads-append k a b
heads-append k ((p ∷ rest) ∷ a) b = ap (λ x. shown.is_head k p || x) (heads-append k a b) ∙ or_assoc (shown.is_head k p) (shown.heads_some k a) (shown.heads_some k b)

mutual
  heads-spread-one : (k : Name) (p : Typed) (rest : Line) → shown.heads_some k (shown.spread (plain p) (erased rest)) ≡ is_head k p
  heads-spread-one k any rest = refl
  heads-spread-one k (con all n ps) rest = or-none (same_name k n)
  heads-spread-one k (lit n) rest = refl
  heads-spread-one k (either ps) rest = heads-spread-each k ps rest

  heads-spread-each : (k : Name) (ps : Typeds) (rest : Line) → shown.heads_some k (shown.spread_all (plains ps) (erased rest)) ≡ some_is_head k ps
  heads-spread-each k none rest = refl
  heads-spread-each k (also p ps) rest =
      heads-append k (shown.spread (plain p) (erased rest)) (shown.spread_all (plains ps) (erased rest))
      ∙ ap (λ x. x || shown.heads_some k (shown.spread_all (plains ps) (erased rest))) (heads-spread-one k p rest) ∙ ap (λ x. is_head k p || x) (heads-spread-each k ps rest)

heads-spread : (k : Name) (ls : List Line) → shown.heads_some k (shown.spread_lines (all_erased ls)) ≡ heads_some k ls
heads-spread k [] = refl
heads-spread k ([] ∷ ls) = heads-spread k ls
heads-spread k ((p ∷ rest) ∷ ls) =
    heads-append k (shown.spread (plain p) (erased rest)) (shown.spread_lines (all_erased ls))
    ∙ ap (λ x. x || shown.heads_some k (shown.spread_lines (all_erased ls))) (heads-spread-one k p rest) ∙ ap (λ x. is_head k p || x) (heads-spread k ls)

-- the order of lines and repeated lines change nothing of it
pub data Among : List Pattern → List (List Pattern) → Type 0 where
  now : {x : List Pattern} {xs : List (List Pattern)} → Among x (x ∷ xs)
  next : {x y : List Pattern} {xs : List (List Pattern)} → Among x xs → Among x (y ∷ xs)

pub record Alike (xs ys : List (List Pattern)) : Type 0 where
  pub left : (x : List Pattern) → Among x xs → Among x ys
  pub right : (x : List Pattern) → Among x ys → Among x xs

among-left : {x : List Pattern} {a : List (List Pattern)} (b : List (List Pattern)) → Among x a → Among x (a ++ b)
among-left b now = now
among-left b (next h) = next (among-left b h)

among-right : {x : List Pattern} (a : List (List Pattern)) {b : List (List Pattern)} → Among x b → Among x (a ++ b)
among-right [] h = h
among-right (y ∷ a) h = next (among-right a h)

among-either : (x : List Pattern) (a b : List (List Pattern)) → Among x (a ++ b) → Among x a ⊎ Among x b
among-either x [] b h = inr h
among-either x (y ∷ a) b now = inl now
among-either x (y ∷ a) b (next h) = elim (among-either x a b h) [ inl i ↦ inl (next i) | inr i ↦ inr i ]

-- a walk that takes each line by itself
record Linewise (F : List (List Pattern) → List (List Pattern)) : Type 0 where
  empty : F [] ≡ []
  step : (l : List Pattern) (ls : List (List Pattern)) → F (l ∷ ls) ≡ F (l ∷ []) ++ F ls

walked : (F : List (List Pattern) → List (List Pattern)) → Linewise F → (l y : List Pattern) (ls : List (List Pattern)) → Among l ls → Among y (F (l ∷ [])) → Among y (F ls)
walked F s l y [] is h = elim is [ ]
walked F s l y (m ∷ ls) now h = subst (λ z. Among y z) (sym (s.step m ls)) (among-left (F ls) h)
walked F s l y (m ∷ ls) (next is) h = subst (λ z. Among y z) (sym (s.step m ls)) (among-right (F (m ∷ [])) (walked F s l y ls is h))

abbrev Source : (List (List Pattern) → List (List Pattern)) → List Pattern → List (List Pattern) → Type 0
Source F y ls = (l : List Pattern) × Among l ls × Among y (F (l ∷ []))

source : (F : List (List Pattern) → List (List Pattern)) → Linewise F → (y : List Pattern) (ls : List (List Pattern)) → Among y (F ls) → Source F y ls
source F s y [] h = let x : Among y [] = subst (λ z. Among y z) s.empty h in elim x [ ]
source F s y (m ∷ ls) h =
    elim (among-either y (F (m ∷ [])) (F ls) (subst (λ z. Among y z) (s.step m ls) h)) [
      | inl i ↦ (m, now, i)
      | inr i ↦ let r = source F s y ls i in (r.0, next r.1, r.2)
    ]

walked-alike : (F : List (List Pattern) → List (List Pattern)) → Linewise F → (a b : List (List Pattern)) → Alike a b → Alike (F a) (F b)
walked-alike F s a b h = record {
  left = λ y i. let r = source F s y a i in walked F s r.0 y b (h.left r.0 r.1) r.2;
  right = λ y i. let r = source F s y b i in walked F s r.0 y a (h.right r.0 r.1) r.2;
}

append-none : (a : List (List Pattern)) → a ++ [] ≡ a
append-none [] = refl
append-none (x ∷ a) = ap (λ l. x ∷ l) (append-none a)

under-step : (k : Name) (ts : List Typ) (l : List Pattern) (ls : List (List Pattern)) →
    shown.lines_under k ts (shown.spread_lines (l ∷ ls)) ≡ shown.lines_under k ts (shown.spread_lines (l ∷ [])) ++ shown.lines_under k ts (shown.spread_lines ls)
under-step k ts [] ls = refl
under-step k ts (p ∷ rest) ls =
    under-append k ts (shown.spread p rest) (shown.spread_lines ls)
    ∙ ap (λ a. shown.lines_under k ts a ++ shown.lines_under k ts (shown.spread_lines ls)) (sym (append-none (shown.spread p rest)))

headless-step : (l : List Pattern) (ls : List (List Pattern)) →
    shown.headless (shown.spread_lines (l ∷ ls)) ≡ shown.headless (shown.spread_lines (l ∷ [])) ++ shown.headless (shown.spread_lines ls)
headless-step [] ls = refl
headless-step (p ∷ rest) ls =
    headless-append (shown.spread p rest) (shown.spread_lines ls) ∙ ap (λ a. shown.headless a ++ shown.headless (shown.spread_lines ls)) (sym (append-none (shown.spread p rest)))

heads-step : (k : Name) (l : List Pattern) (ls : List (List Pattern)) →
    shown.heads_some k (shown.spread_lines (l ∷ ls)) ≡ (shown.heads_some k (shown.spread_lines (l ∷ [])) || shown.heads_some k (shown.spread_lines ls))
heads-step k [] ls = refl
heads-step k (p ∷ rest) ls =
    heads-append k (shown.spread p rest) (shown.spread_lines ls) ∙ ap (λ a. shown.heads_some k a || shown.heads_some k (shown.spread_lines ls)) (sym (append-none (shown.spread p rest)))

under-linewise : (k : Name) (ts : List Typ) → Linewise (λ ls. shown.lines_under k ts (shown.spread_lines ls))
under-linewise k ts = record { empty = refl; step = λ l ls. under-step k ts l ls }

headless-linewise : Linewise (λ ls. shown.headless (shown.spread_lines ls))
headless-linewise = record { empty = refl; step = λ l ls. headless-step l ls }

heads-true : (k : Name) (l : List Pattern) (ls : List (List Pattern)) → Among l ls → shown.heads_some k (shown.spread_lines (l ∷ [])) ≡ true → shown.heads_some k (shown.spread_lines ls) ≡ true
heads-true k l [] is h = elim is [ ]
heads-true k l (m ∷ ls) now h = heads-step k m ls ∙ or-first (shown.heads_some k (shown.spread_lines (m ∷ []))) (shown.heads_some k (shown.spread_lines ls)) h
heads-true k l (m ∷ ls) (next is) h =
    heads-step k m ls ∙ or-second (shown.heads_some k (shown.spread_lines (m ∷ []))) (shown.heads_some k (shown.spread_lines ls)) (heads-true k l ls is h)

abbrev Header : Name → List (List Pattern) → Type 0
Header k ls = (l : List Pattern) × Among l ls × (shown.heads_some k (shown.spread_lines (l ∷ [])) ≡ true)

header : (k : Name) (ls : List (List Pattern)) → shown.heads_some k (shown.spread_lines ls) ≡ true → Header k ls
header k [] h = cc
header k (m ∷ ls) h =
    elim (or-cases (shown.heads_some k (shown.spread_lines (m ∷ []))) (shown.heads_some k (shown.spread_lines ls)) (sym (heads-step k m ls) ∙ h)) [
      | inl i ↦ (m, now, i)
      | inr i ↦ let r = header k ls i in (r.0, next r.1, r.2)
    ]

heads-alike : (k : Name) (a b : List (List Pattern)) → Alike a b → shown.heads_some k (shown.spread_lines a) ≡ shown.heads_some k (shown.spread_lines b)
heads-alike k a b h =
    both-ways (shown.heads_some k (shown.spread_lines a)) (shown.heads_some k (shown.spread_lines b))
    (λ e. let r = header k a e in heads-true k r.0 b (h.left r.0 r.1) r.2) (λ e. let r = header k b e in heads-true k r.0 a (h.right r.0 r.1) r.2)

in-erased : (l : Line) (ls : List Line) → IsIn l ls → Among (erased l) (all_erased ls)
in-erased l [] is = elim is [ ]
in-erased l (m ∷ ls) here = now
in-erased l (m ∷ ls) (there is) = next (in-erased l ls is)

abbrev Kept : List Pattern → List Line → Type 0
Kept x ls = (l : Line) × IsIn l ls × (x ≡ erased l)

among-erased : (x : List Pattern) (ls : List Line) → Among x (all_erased ls) → Kept x ls
among-erased x [] h = elim h [ ]
among-erased x (m ∷ ls) now = (m, here, refl)
among-erased x (m ∷ ls) (next h) = let r = among-erased x ls h in (r.0, there r.1, r.2)

fewer-alike : (ls fewer : List Line) (ys : List (List Pattern)) → IsSqueezed fewer ls → Alike (all_erased ls) ys → Alike (all_erased fewer) ys
fewer-alike ls fewer ys q h = record {
  left = λ x i. let r = among-erased x fewer i in h.left x (subst (λ z. Among z (all_erased ls)) (sym r.2) (in-erased r.0 ls (q.kept r.0 r.1)));
  right = λ x i. let r = among-erased x ls (h.right x i) in subst (λ z. Among z (all_erased fewer)) (sym r.2) (in-erased r.0 fewer (q.none_lost r.0 r.1));
}

opens-shapes : (ts : List Typ) → shown.opens ts ≡ shapes_in (open_shapes (length ts))
opens-shapes [] = refl
opens-shapes (t ∷ ts) = ap (λ ss. also_shape open_shape ss) (opens-shapes ts)

-- what heads the lines decides whether they are complete, and the shape of the column
abbrev Agree : List (List Pattern) → List Line → Type 0
Agree L ls = (k : Name) → shown.heads_some k L ≡ heads_some k ls

all-there-by : (b : Built) (bs : List Built) (L : List (List Pattern)) (ls : List Line) (x : Bool) → heads_some b.name ls ≡ x → Agree L ls →
    cond x (first_absent (map member bs) ls) (Some (member b)) ≡ None → (first_absent (map member bs) ls ≡ None → all_head bs L ≡ true) → all_head (b ∷ bs) L ≡ true
all-there-by b bs L ls true h f e others = ap (λ x. x && all_head bs L) (f b.name ∙ h) ∙ others e
all-there-by b bs L ls false h f e others = cc

one-absent-by : (b : Built) (bs : List Built) (L : List (List Pattern)) (ls : List Line) (m : Member) (x : Bool) → heads_some b.name ls ≡ x → Agree L ls →
    cond x (first_absent (map member bs) ls) (Some (member b)) ≡ Some m →
    (first_absent (map member bs) ls ≡ Some m → (all_head bs L ≡ false) × (shown.first_absent bs L ≡ open_built m)) →
    (all_head (b ∷ bs) L ≡ false) × (shown.first_absent (b ∷ bs) L ≡ open_built m)
one-absent-by b bs L ls m true h f e others =
    let r = others e in
    let is : shown.heads_some b.name L ≡ true = f b.name ∙ h in
    (ap (λ x. x && all_head bs L) is ∙ r.0, ap (λ x. cond x (shown.first_absent bs L) (of_built b.name (shown.opens b.parts))) is ∙ r.1)
one-absent-by b bs L ls m false h f e others =
    let is : shown.heads_some b.name L ≡ false = f b.name ∙ h in
    let same : member b ≡ m = cc in
    (ap (λ x. x && all_head bs L) is, ap (λ x. cond x (shown.first_absent bs L) (of_built b.name (shown.opens b.parts))) is ∙ ap (of_built b.name) (opens-shapes b.parts) ∙ ap open_built same)

all-there : (bs : List Built) (L : List (List Pattern)) (ls : List Line) → Agree L ls → first_absent (map member bs) ls ≡ None → all_head bs L ≡ true
all-there [] L ls f e = refl
all-there (b ∷ bs) L ls f e = all-there-by b bs L ls (heads_some b.name ls) refl f e (all-there bs L ls f)

one-absent : (bs : List Built) (L : List (List Pattern)) (ls : List Line) (m : Member) → Agree L ls → first_absent (map member bs) ls ≡ Some m →
    (all_head bs L ≡ false) × (shown.first_absent bs L ≡ open_built m)
one-absent [] L ls m f e = cc
one-absent (b ∷ bs) L ls m f e = one-absent-by b bs L ls m (heads_some b.name ls) refl f e (one-absent bs L ls m f)

mapped-none : {A B : Type 0} (f : A → B) (o : Option A) → option_map f o ≡ None → o ≡ None
mapped-none f None e = refl
mapped-none f (Some x) e = cc

mapped-some : {A B : Type 0} (f : A → B) (o : Option A) (y : B) → option_map f o ≡ Some y → (x : A) × (o ≡ Some x) × (f x ≡ y)
mapped-some f None y e = cc
mapped-some f (Some x) y e = (x, refl, cc)

abbrev Complete : Form → List (List Pattern) → Type 0
Complete f L = (k : Built) × (ks : List Built) × (f ≡ closed_form (k ∷ ks)) × (all_head (k ∷ ks) L ≡ true)

complete-by : (f : Form) (L : List (List Pattern)) (ls : List Line) → Agree L ls → family ls ≡ members f → column ls ≡ None → Complete f L
complete-by (closed_form []) L ls a fam e = absurd (column-some ls e fam)
complete-by (closed_form (k ∷ ks)) L ls a fam e =
    let all : option_map open_built (first_absent (map member (k ∷ ks)) ls) ≡ None = sym (ap (λ x. column_by x ls) fam) ∙ e in
    (k, ks, refl, all-there (k ∷ ks) L ls a (mapped-none open_built (first_absent (map member (k ∷ ks)) ls) all))
complete-by (open_form ks) L ls a fam e = absurd (column-some ls e fam)
complete-by literals L ls a fam e = absurd (column-some ls e fam)
complete-by no_form L ls a fam e = absurd (column-some ls e fam)

-- some constructor of the type heads a line
abbrev Headed : World → Typ → (Name → Bool) → Type 0
Headed w t test = (k : Built) × IsOne k (constructors_of (form_of w t)) × (test k.name ≡ true)

mutual
  headed-in : (w : World) (t : Typ) (p : Typed) → IsTyped w t p → (all : List Member) → family_in p ≡ Some all → Headed w t (λ k. is_head k p)
  headed-in w t any h all e = cc
  headed-in w t (con own n ps) h all e = (h.0, h.1, name-same h.0.name n (sym h.2))
  headed-in w t (lit n) h all e = cc
  headed-in w t (either ps) h all e = headed-in-some w t ps h all e

  headed-in-some : (w : World) (t : Typ) (ps : Typeds) → AreAllTyped w t ps → (all : List Member) → family_in_some ps ≡ Some all → Headed w t (λ k. some_is_head k ps)
  headed-in-some w t none h all e = cc
  headed-in-some w t (also p ps) h all e =
      elim (first-or (family_in p) (family_in_some ps) all e) [
        | inl x ↦ let r = headed-in w t p h.0 all x in (r.0, r.1, or-first (is_head r.0.name p) (some_is_head r.0.name ps) r.2)
        | inr y ↦ let r = headed-in-some w t ps h.1 all y in (r.0, r.1, or-second (is_head r.0.name p) (some_is_head r.0.name ps) r.2)
      ]

headed-by : (w : World) (c : Column) (p : Typed) (rest : Line) (ls : List Line) (o : Option (List Member)) → family_in p ≡ o → IsTyped w c.body p → (unwrap_or o (family ls) ≡ [] → ⊥) →
    ((family ls ≡ [] → ⊥) → Headed w c.body (λ k. heads_some k ls)) → Headed w c.body (λ k. heads_some k ((p ∷ rest) ∷ ls))
headed-by w c p rest ls None e h some others = let r = others some in (r.0, r.1, or-second (is_head r.0.name p) (heads_some r.0.name ls) r.2)
headed-by w c p rest ls (Some all) e h some others = let r = headed-in w c.body p h all e in (r.0, r.1, or-first (is_head r.0.name p) (heads_some r.0.name ls) r.2)

headed : (w : World) (c : Column) (cs : List Column) (ls : List Line) → LinesFit w (c ∷ cs) ls → (family ls ≡ [] → ⊥) → Headed w c.body (λ k. heads_some k ls)
headed w c cs [] h some = absurd (some refl)
headed w c cs ([] ∷ ls) h some = absurd h.0
headed w c cs ((p ∷ rest) ∷ ls) h some = headed-by w c p rest ls (family_in p) refl h.0.0 some (headed w c cs ls h.1)

some-there : (bs : List Built) (L : List (List Pattern)) (k : Built) → IsOne k bs → shown.heads_some k.name L ≡ true → some_head bs L ≡ true
some-there [] L k one e = elim one [ ]
some-there (b ∷ bs) L k first e = or-first (shown.heads_some b.name L) (some_head bs L) e
some-there (b ∷ bs) L k (later one) e = or-second (shown.heads_some b.name L) (some_head bs L) (some-there bs L k one e)

none-there : (bs : List Built) (L : List (List Pattern)) → ((k : Name) → shown.heads_some k L ≡ false) → some_head bs L ≡ false
none-there [] L f = refl
none-there (b ∷ bs) L f = ap (λ x. x || some_head bs L) (f b.name) ∙ none-there bs L f

abbrev Incomplete : Form → List (List Pattern) → Shape → Type 0
Incomplete f L shape = (is_complete f L ≡ false) × (column_shape f L ≡ shape)

incomplete-by : (w : World) → IsSound w → (c : Column) (cs : List Column) (ls : List Line) (L : List (List Pattern)) (shape : Shape) → LinesFit w (c ∷ cs) ls → Agree L ls → column ls ≡ Some shape →
    (f : Form) → form_of w c.body ≡ f → Incomplete f L shape
incomplete-by w s c cs ls L shape h a e (closed_form []) f = absurd (s.inhabited c.body f)
incomplete-by w s c cs ls L shape h a e (closed_form (k ∷ ks)) f =
    let some : members (form_of w c.body) ≡ [] → ⊥ = λ empty. let x : map member (k ∷ ks) ≡ [] = sym (ap members f) ∙ empty in cc in
    elim (family-typed w c cs ls h) [
      | inl empty ↦
          let no_head : (n : Name) → shown.heads_some n L ≡ false = λ n. a n ∙ all-headless w c cs ls h some empty n in
          (ap (λ x. x && all_head ks L) (no_head k.name), ap (λ x. cond x (shown.first_absent (k ∷ ks) L) open_shape) (none-there (k ∷ ks) L no_head) ∙ column-open ls shape empty e)
      | inr known ↦
          let all : map member (k ∷ ks) ≡ family ls = sym (known.0 ∙ ap members f) in
          let told : column_by (map member (k ∷ ks)) ls ≡ Some shape = ap (λ x. column_by x ls) all ∙ e in
          let m = mapped-some open_built (first_absent (map member (k ∷ ks)) ls) shape told in
          let r = one-absent (k ∷ ks) L ls m.0 a m.1 in
          let q = headed w c cs ls h (λ empty. let x : map member (k ∷ ks) ≡ [] = all ∙ empty in cc) in
          let one : IsOne q.0 (k ∷ ks) = subst (λ g. IsOne q.0 (constructors_of g)) f q.1 in
          (r.0, ap (λ x. cond x (shown.first_absent (k ∷ ks) L) open_shape) (some-there (k ∷ ks) L q.0 one (a q.0.name ∙ q.2)) ∙ r.1 ∙ m.2)
    ]
incomplete-by w s c cs ls L shape h a e (open_form ks) f = (refl, column-open ls shape (none-known w c cs ls h (ap members f)) e)
incomplete-by w s c cs ls L shape h a e literals f = (refl, column-open ls shape (none-known w c cs ls h (ap members f)) e)
incomplete-by w s c cs ls L shape h a e no_form f = (refl, column-open ls shape (none-known w c cs ls h (ap members f)) e)

-- what is shown at each step
abbrev pub Told : World → List Typ → List (List Pattern) → Option (List Shape) → Type 0
Told w ts L None = ShowsNone w ts L
Told w ts L (Some ss) = Shows w ts L (shapes_in ss)

abbrev ToldFirst : World → List Built → List Typ → List (List Pattern) → Option (List Shape) → Type 0
ToldFirst w bs ts L None = NoneShown w bs ts L
ToldFirst w bs ts L (Some []) = ⊥
ToldFirst w bs ts L (Some (s ∷ ss)) = FirstShown w bs ts L s (shapes_in ss)

abbrev pub bodies : List Column → List Typ
bodies = map (λ c. c.body)

bodies-append : (d : ℕ) (ts : List Typ) (cs : List Column) → bodies (columns_at d ts ++ cs) ≡ ts ++ bodies cs
bodies-append d [] cs = refl
bodies-append d (t ∷ ts) cs = ap (λ us. t ∷ us) (bodies-append d ts cs)

opened-columns : (d : ℕ) (ts : List Typ) (cs : List Column) → opened (length ts) ++ opened (length cs) ≡ opened (length (columns_at d ts ++ cs))
opened-columns d [] cs = refl
opened-columns d (t ∷ ts) cs = ap (λ l. any ∷ l) (opened-columns d ts cs)

taken-shapes : (n : ℕ) (ss : List Shape) → shown.taken n (shapes_in ss) ≡ shapes_in (take n ss)
taken-shapes zero ss = refl
taken-shapes (suc n) [] = refl
taken-shapes (suc n) (s ∷ ss) = ap (λ x. also_shape s x) (taken-shapes n ss)

left-shapes : (n : ℕ) (ss : List Shape) → shown.left_behind n (shapes_in ss) ≡ shapes_in (drop n ss)
left-shapes zero ss = refl
left-shapes (suc n) [] = refl
left-shapes (suc n) (s ∷ ss) = left-shapes n ss

abbrev pub Showing : World → Task → Option (List Shape) → Type 0
Showing w (row_in ls row) r = (cs : List Column) (L : List (List Pattern)) → LinesFit w cs ls → row ≡ opened (length cs) → Alike (all_erased ls) L → Told w (bodies cs) L r
Showing w (some_in ls ps rest) r = Unit {0}
Showing w (members_in ls ks rest) r = (c : Column) (cs : List Column) (L : List (List Pattern)) → LinesFit w (c ∷ cs) ls → rest ≡ opened (length cs) → Alike (all_erased ls) L →
    (bs : List Built) → ks ≡ map member bs → ((k : Built) → IsOne k bs → IsOne k (constructors_of (form_of w c.body))) → ToldFirst w bs (bodies cs) (shown.spread_lines L) r

end-shown : (w : World) (cs : List Column) (L : List (List Pattern)) → [] ≡ opened (length cs) → Alike [] L → Shows w (bodies cs) L no_shapes
end-shown w [] [] e h = shown.at_end
end-shown w [] (x ∷ L) e h = let i = h.right x now in elim i [ ]
end-shown w (c ∷ cs) L e h = cc

end-none : (w : World) (cs : List Column) (l : Line) (ls : List Line) (L : List (List Pattern)) → [] ≡ opened (length cs) → Alike (all_erased (l ∷ ls)) L → ShowsNone w (bodies cs) L
end-none w [] l ls [] e h = let i = h.left (erased l) now in elim i [ ]
end-none w [] l ls (x ∷ L) e h = shown.some_line
end-none w (c ∷ cs) l ls L e h = cc

abbrev IsAny : Typed → Type 0
IsAny any = Unit {0}
IsAny (con all n ps) = ⊥
IsAny (lit n) = ⊥
IsAny (either ps) = ⊥

opens-with-any : (p : Typed) (rest : Line) (n : ℕ) → p ∷ rest ≡ opened n → IsAny p
opens-with-any p rest zero e = cc
opens-with-any p rest (suc n) e = let same : any ≡ p = cc in subst IsAny same tt

by-constructor-told : (w : World) (t : Typ) (ts : List Typ) (L : List (List Pattern)) (k : Built) (ks : List Built) (r : Option (List Shape)) → form_of w t ≡ closed_form (k ∷ ks) →
    all_head (k ∷ ks) (shown.spread_lines L) ≡ true → ToldFirst w (k ∷ ks) ts (shown.spread_lines L) r → Told w (t ∷ ts) L r
by-constructor-told w t ts L k ks None f e h = shown.none_by_constructor f e h
by-constructor-told w t ts L k ks (Some []) f e h = absurd h
by-constructor-told w t ts L k ks (Some (s ∷ ss)) f e h = shown.by_constructor f e h

agree : (ls : List Line) (L : List (List Pattern)) → Alike (all_erased ls) L → Agree (shown.spread_lines L) ls
agree ls L h k = sym (heads-alike k (all_erased ls) L h) ∙ heads-spread k ls

members-shown : (w : World) (rest : Line) (ls : List Line) (r : Option (List Shape)) → column ls ≡ None → Showing w (members_in ls (family ls) rest) r → Showing w (row_in ls (any ∷ rest)) r
members-shown w rest ls r e ih [] L fl is h = cc
members-shown w rest ls r e ih (c ∷ cs) L fl is h =
    let behind_it : rest ≡ opened (length cs) = cc in
    elim (family-typed w c cs ls fl) [
      | inl empty ↦ absurd (column-some ls e empty)
      | inr known ↦
          let f = complete-by (form_of w c.body) (shown.spread_lines L) ls (agree ls L h) known.0 e in
          by-constructor-told w c.body (bodies cs) L f.0 f.1 r f.2 f.3
          (ih c cs L fl behind_it h (f.0 ∷ f.1) (known.0 ∙ ap members f.2) (λ k one. subst (λ g. IsOne k (constructors_of g)) (sym f.2) one))
    ]

default-told : (w : World) (t : Typ) (ts : List Typ) (L : List (List Pattern)) (shape : Shape) (r found : Option (List Shape)) → Incomplete (form_of w t) (shown.spread_lines L) shape →
    r ≡ behind shape found → Told w ts (shown.headless (shown.spread_lines L)) found → Told w (t ∷ ts) L r
default-told w t ts L shape r None i is h = subst (Told w (t ∷ ts) L) (sym is) (shown.none_by_default i.0 h)
default-told w t ts L shape r (Some ss) i is h =
    subst (Told w (t ∷ ts) L) (sym is) (subst (λ s. Shows w (t ∷ ts) L (also_shape s (shapes_in ss))) i.1 (shown.by_default i.0 h))

default-shown : (w : World) → IsSound w → (rest : Line) (ls : List Line) (shape : Shape) (r found : Option (List Shape)) → column ls ≡ Some shape → r ≡ behind shape found →
    Showing w (row_in (headless ls) rest) found → Showing w (row_in ls (any ∷ rest)) r
default-shown w s rest ls shape r found e is ih [] L fl o h = cc
default-shown w s rest ls shape r found e is ih (c ∷ cs) L fl o h =
    let behind_it : rest ≡ opened (length cs) = cc in
    let inner = subst (λ x. Alike x (shown.headless (shown.spread_lines L))) (headless-spread ls) (walked-alike (λ x. shown.headless (shown.spread_lines x)) headless-linewise (all_erased ls) L h) in
    default-told w c.body (bodies cs) L shape r found (incomplete-by w s c cs ls (shown.spread_lines L) shape fl (agree ls L h) e (form_of w c.body) refl) is
    (ih cs (shown.headless (shown.spread_lines L)) (headless-fit w c cs ls fl) behind_it inner)

-- what is shown below one constructor
below-one : (w : World) → IsSound w → (b : Built) (rest : Line) (ls : List Line) (found : Option (List Shape)) → Showing w (row_in (lines_under (head_of (member b)) ls) (opened (length b.parts) ++ rest)) found →
    (c : Column) (cs : List Column) (L : List (List Pattern)) → LinesFit w (c ∷ cs) ls → rest ≡ opened (length cs) → Alike (all_erased ls) L → IsOne b (constructors_of (form_of w c.body)) →
    Told w (b.parts ++ bodies cs) (shown.lines_under b.name b.parts (shown.spread_lines L)) found
below-one w s b rest ls found ih c cs L fl is h one =
    let d = pred c.depth in
    let F : List (List Pattern) → List (List Pattern) = λ x. shown.lines_under b.name b.parts (shown.spread_lines x) in
    let inner = subst (λ x. Alike x (F L)) (lines_under-spread b.name b.parts ls) (walked-alike F (under-linewise b.name b.parts) (all_erased ls) L h) in
    let row : opened (length b.parts) ++ rest ≡ opened (length (columns_at d b.parts ++ cs)) = ap (λ l. opened (length b.parts) ++ l) is ∙ opened-columns d b.parts cs in
    subst (λ ts. Told w ts (F L) found) (bodies-append d b.parts cs) (ih (columns_at d b.parts ++ cs) (F L) (lines_under-fit w s c cs ls fl b one) row inner)

member-shown : (w : World) → IsSound w → (k : Member) (ks : List Member) (rest : Line) (ls : List Line) (ss : List Shape) (r : Option (List Shape)) →
    Showing w (row_in (lines_under (head_of k) ls) (opened k.parts ++ rest)) (Some ss) → r ≡ Some (with_head (head_of k) ss) → Showing w (members_in ls (k ∷ ks) rest) r
member-shown w s k ks rest ls ss r ih is c cs L fl o h [] e own = cc
member-shown w s k ks rest ls ss r ih is c cs L fl o h (b ∷ bs) e own =
    let same : k ≡ member b = cc in
    let n = length b.parts in
    let under_it = below-one w s b rest ls (Some ss) (subst (λ x. Showing w (row_in (lines_under (head_of x) ls) (opened x.parts ++ rest)) (Some ss)) same ih) c cs L fl o h (own b first) in
    let it : FirstShown w (b ∷ bs) (bodies cs) (shown.spread_lines L) (of_built b.name (shapes_in (take n ss))) (shapes_in (drop n ss)) =
    subst (λ x. FirstShown w (b ∷ bs) (bodies cs) (shown.spread_lines L) (of_built b.name (shapes_in (take n ss))) x) (left-shapes n ss)
    (subst (λ x. FirstShown w (b ∷ bs) (bodies cs) (shown.spread_lines L) (of_built b.name x) (shown.left_behind n (shapes_in ss))) (taken-shapes n ss) (shown.here under_it)) in
    subst (ToldFirst w (b ∷ bs) (bodies cs) (shown.spread_lines L)) (sym (is ∙ ap (λ x. Some (with_head (head_of x) ss)) same)) it

further-told : (w : World) (b : Built) (bs : List Built) (ts : List Typ) (L : List (List Pattern)) (r : Option (List Shape)) →
    ShowsNone w (b.parts ++ ts) (shown.lines_under b.name b.parts L) → ToldFirst w bs ts L r → ToldFirst w (b ∷ bs) ts L r
further-told w b bs ts L None h g = shown.and_none h g
further-told w b bs ts L (Some []) h g = absurd g
further-told w b bs ts L (Some (s ∷ ss)) h g = shown.further h g

later-shown : (w : World) → IsSound w → (k : Member) (ks : List Member) (rest : Line) (ls : List Line) (r : Option (List Shape)) →
    Showing w (row_in (lines_under (head_of k) ls) (opened k.parts ++ rest)) None → Showing w (members_in ls ks rest) r → Showing w (members_in ls (k ∷ ks) rest) r
later-shown w s k ks rest ls r ih others c cs L fl o h [] e own = cc
later-shown w s k ks rest ls r ih others c cs L fl o h (b ∷ bs) e own =
    let same : k ≡ member b = cc in
    let left : ks ≡ map member bs = cc in
    further-told w b bs (bodies cs) (shown.spread_lines L) r
    (below-one w s b rest ls None (subst (λ x. Showing w (row_in (lines_under (head_of x) ls) (opened x.parts ++ rest)) None) same ih) c cs L fl o h (own b first))
    (others c cs L fl o h bs left (λ x one. own x (later one)))

none-told : (w : World) (bs : List Built) (ts : List Typ) (L : List (List Pattern)) → [] ≡ map member bs → NoneShown w bs ts L
none-told w [] ts L e = shown.no_more
none-told w (b ∷ bs) ts L e = cc

-- the theorem
pub shows : (w : World) → IsSound w → {t : Task} {r : Option (List Shape)} → Finds t r → Showing w t r
shows w s missed = λ cs L fl o h. end-shown w cs L o h
shows w s (covered {l = l} {ls = ls}) = λ cs L fl o h. end-none w cs l ls L o h
shows w s (by_con {all = all} {n = n} {ps = ps} {rest = rest} f is) = λ cs L fl o h. absurd (opens-with-any (con all n ps) rest (length cs) o)
shows w s (by_lit {n = n} {rest = rest} f is) = λ cs L fl o h. absurd (opens-with-any (lit n) rest (length cs) o)
shows w s (by_either {ps = ps} {rest = rest} f) = λ cs L fl o h. absurd (opens-with-any (either ps) rest (length cs) o)
shows w s (by_members {rest = rest} {ls = ls} {r = r} all f) = members-shown w rest ls r all (shows w s f)
shows w s (by_default {rest = rest} {ls = ls} {shape = shape} {r = r} {s = found} e f is) = default-shown w s rest ls shape r found e is (shows w s f)
shows w s (squeezed {row = row} {ls = ls} {fewer = fewer} q f) = λ cs L fl o h. shows w s f cs L (among-fit w cs fewer ls fl q.kept) o (fewer-alike ls fewer L q h)
shows w s no_pattern = tt
shows w s (this_pattern f) = tt
shows w s (next_pattern f g) = tt
shows w s no_member = λ c cs L fl o h bs e own. none-told w bs (bodies cs) (shown.spread_lines L) e
shows w s (this_member {k = k} {ks = ks} {rest = rest} {ls = ls} {ss = ss} {r = r} f is) = member-shown w s k ks rest ls ss r (shows w s f) is
shows w s (next_member {k = k} {ks = ks} {rest = rest} {ls = ls} {r = r} f g) = later-shown w s k ks rest ls r (shows w s f) (shows w s g)

-- lines are alike to themselves
pub alike : (xs : List (List Pattern)) → Alike xs xs
alike xs = record { left = λ x h. h; right = λ x h. h }
