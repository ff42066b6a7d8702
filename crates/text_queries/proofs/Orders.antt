-- The first faults of a page, as they come.
use Rattle.std.proofs.Common.{◌≡◌, ◌≤◌, ◌-◌, ◌+◌, get_or, map, drop, not, ℕ, List, [], ◌∷◌, ◌++◌, length, take, min, refl, sym, ◌∙◌, ap, subst, arith, Bool, true, false}
use Rattle.std.proofs.lemmas.List.{take_all, take_at, take_more, take-map, drop-map, map-append, length-map, length-take}
use Rattle.std.specs.List.{insert}
use Rattle.query_model.specs.Faults.{Fault, front, is_before, parser, placed, placed_among, ordered, page_limit, InOrder}
use Rattle.query_model.proofs.Pages.{placed_in_order, taken_in_order, placed_among_taken, placed_behind, placed_at_front, front_within}
use Rattle.text_queries.specs.Faults.{fault_of, told_of, FillsPage}
use Rattle.text_queries.specs.declared.tellers.Told.{Told}
use Rattle.frame_steps.specs.declared.stack.SyntaxFault.{SyntaxFault}
use Rattle.frame_steps.specs.declared.stack.SyntaxFault.TheVariants.{Added, Skipped, TooDeep, Cut}

-- a fault of the parser is told by it
pub by_parser : (f : SyntaxFault) → (fault_of f).source ≡ parser
by_parser (Added p n) = refl
by_parser (Skipped s) = refl
by_parser (TooDeep s) = refl
by_parser (Cut p) = refl

-- the first faults of those that came, in order, from which the first of all follow with those that are left
pub record IsPageFor (old all page left : List Fault) : Type 0 where
  pub order : InOrder page
  pub short : length page ≤ page_limit
  pub first : take page_limit (placed_among page left) ≡ take page_limit (placed_among old all)

-- at first no fault has come
pub page_begun : (old all : List Fault) → InOrder old → length old ≤ page_limit → IsPageFor old all old all
page_begun old all order short = record { order = order; short = short; first = refl }

taken_short : (n : ℕ) (gs : List Fault) → length (take n gs) ≤ n
taken_short n gs = let e : length (take n gs) ≡ min n (length gs) = length-take n gs in omega arith

-- a fault comes
pub page_kept : (old all page next : List Fault) (f : Fault) (left : List Fault) → next ≡ take page_limit (placed f page) → IsPageFor old all page (f ∷ left) → IsPageFor old all next left
page_kept old all page next f left is h = record {
  order = subst InOrder (sym is) (taken_in_order page_limit (placed f page) (placed_in_order f page h.order));
  short = subst (λ gs. length gs ≤ page_limit) (sym is) (taken_short page_limit (placed f page));
  first = ap (λ gs. take page_limit (placed_among gs left)) is ∙ placed_among_taken page_limit (placed f page) left ∙ h.first;
}

-- all have come
pub page_done : (old all page : List Fault) → IsPageFor old all page [] → FillsPage old all page
page_done old all page h = record { order = h.order; first = sym (take_all page_limit page h.short) ∙ h.first }

placed_among_append : (done fs gs : List Fault) → placed_among done (fs ++ gs) ≡ placed_among (placed_among done fs) gs
placed_among_append done [] gs = refl
placed_among_append done (f ∷ fs) gs = placed_among_append (placed f done) fs gs

-- faults in two parts
pub page_of_both : (fs gs first both : List Fault) → FillsPage [] fs first → FillsPage first gs both → both ≡ take page_limit (ordered (fs ++ gs))
unfolding ordered
page_of_both fs gs first both a b =
    b.first ∙ ap (λ page. take page_limit (placed_among page gs)) a.first
    ∙ placed_among_taken page_limit (placed_among [] fs) gs
    ∙ ap (take page_limit) (sym (placed_among_append [] fs gs))

-- a page that was filled is short
pub filled_short : (old fs page : List Fault) → FillsPage old fs page → length page ≤ page_limit
filled_short old fs page h = subst (λ gs. length gs ≤ page_limit) (sym h.first) (taken_short page_limit (placed_among old fs))

-- a full page stays where a fault stands behind its last
pub full_page : (n : ℕ) (f l : Fault) (front : List Fault) → InOrder (front ++ l ∷ []) → length (front ++ l ∷ []) ≡ n → is_before f l ≡ false → take n (placed f (front ++ l ∷ [])) ≡ front ++ l ∷ []
full_page n f l front o full e =
    let whole = front ++ l ∷ [] in
    ap (take n) (placed_behind f l front o e) ∙ take_at whole (f ∷ []) n full

not_true : (b : Bool) → not b ≡ true → b ≡ false
not_true true h = absurd (cc)
not_true false h = refl

-- a list is its front and its last
split_last : {A : Type 0} (xs : List A) (d : A) → 1 ≤ length xs → xs ≡ take (length xs - 1) xs ++ get_or xs (length xs - 1) d ∷ []
split_last xs d some = sym (take_all (length xs - 1 + 1) xs (omega arith)) ∙ take_more xs (length xs - 1) d (omega arith)

-- the same of the faults of a page
pub behind : (n : ℕ) (f : Told) (page : List Told) (d : Told) → 1 ≤ length page → InOrder (map told_of page) → length page ≡ n → is_before (told_of f) (told_of (get_or page (length page - 1) d)) ≡ false
    → take n (placed (told_of f) (map told_of page)) ≡ map told_of page
behind n f page d some o full e =
    let front = map told_of (take (length page - 1) page) in
    let last = told_of (get_or page (length page - 1) d) in
    let whole : map told_of page ≡ front ++ last ∷ [] = ap (map told_of) (split_last page d some) ∙ map-append told_of (take (length page - 1) page) (get_or page (length page - 1) d ∷ []) in
    subst (λ gs. take n (placed (told_of f) gs) ≡ gs) (sym whole)
    (full_page n (told_of f) last front (subst InOrder whole o) (ap length (sym whole) ∙ length-map page told_of ∙ full) e)

pub is_behind : (f : Told) (page : List Told) (d : Told) (b : Bool) → 1 ≤ length page → InOrder (map told_of page) → length page ≡ page_limit → b ≡ is_before (told_of f) (told_of (get_or page (length page - 1) d))
    → not b ≡ true → take page_limit (placed (told_of f) (map told_of page)) ≡ map told_of page
is_behind f page d b some o full is h = behind page_limit f page d some o full (sym is ∙ not_true b h)

-- the place of a fault is within the page
pub front_fits : (f : Told) (page : List Told) → front (told_of f) (map told_of page) ≤ length page
front_fits f page = let h : front (told_of f) (map told_of page) ≤ length (map told_of page) = front_within (told_of f) (map told_of page) in let e : length (map told_of page) ≡ length page = length-map page told_of in omega arith

-- a fault that is put at its place, as far as it is among the first
pub kept : (f : Told) (old mid new : List Told) (at : ℕ) → at ≡ front (told_of f) (map told_of old) → mid ≡ insert old at f → new ≡ take page_limit mid → map told_of new ≡ take page_limit (placed (told_of f) (map told_of old))
kept f old mid new at is put first =
    ap (map told_of) (first ∙ ap (take page_limit) put)
    ∙ sym (take-map told_of page_limit (insert old at f))
    ∙ ap (take page_limit) (map-append told_of (take at old) (f ∷ drop at old) ∙ inserted ∙ sym (subst (λ k. placed (told_of f) (map told_of old) ≡ take k (map told_of old) ++ told_of f ∷ drop k (map told_of old)) (sym is) (placed_at_front (told_of f) (map told_of old))))
  where
    inserted : map told_of (take at old) ++ told_of f ∷ map told_of (drop at old) ≡ take at (map told_of old) ++ told_of f ∷ drop at (map told_of old)
    inserted = rw (take-map told_of at old, drop-map told_of at old) refl
