-- The two searches, step by step: for a declaration at any depth, and for modules level by level.
use Rattle.std.proofs.Common.{◌≡◌, ◌⊎◌, inl, inr, ℕ, suc, ◌+◌, ◌<◌, ◌≤◌, Bool, true, false, List, [], ◌∷◌, ◌++◌, length, codes, append_assoc, refl, arith}
use Rattle.std.specs.Prelude.{if◌then◌else◌, ◌==◌}
use Rattle.std.proofs.lemmas.Bool.{eqb-true}
use Rattle.text_terms.specs.Bytes.{str_bytes}
use Rattle.signature_model.specs.Declarations.{Name}
use Rattle.env_table.specs.declared.entries.Entry.{Entry}
use Rattle.type_print.specs.Paths.{is_module, among, contents, entry_weight, entries_weight}
use Rattle.type_print.proofs.Searching.{contents_weight}
use Rattle.type_alternatives.specs.Standing.{Stands, here, later, within, StandsInAny, lists_weight}
use Rattle.type_alternatives.specs.declared.reached.Inside.{Inside}
use Rattle.type_alternatives.specs.Levels.{Searched, level_of, modules_among, next_level, level_weight}

-- what stands in a list is its first entry, or stands in the others or in the first
open_first : (e x : Entry) (es : List Entry) → Stands e (x ∷ es) → (e ≡ x) ⊎ (Stands e es ⊎ Stands e (contents x))
open_first e x es here = inl refl
open_first e x es (later h) = inr (inl h)
open_first e x es (within h) = inr (inr h)

-- nothing stands in no list
stands_in_some : (e : Entry) (es : List Entry) → Stands e es → 0 < length es
stands_in_some e es here = omega arith
stands_in_some e es (later h) = omega arith
stands_in_some e es (within h) = omega arith

-- what stands in one of two groups of lists stands in one of both
any_first : (e : Entry) (xs ys : List (List Entry)) → StandsInAny e xs → StandsInAny e (xs ++ ys)
any_first e [] ys h = absurd h
any_first e (x ∷ xs) ys (inl h) = inl h
any_first e (x ∷ xs) ys (inr h) = inr (any_first e xs ys h)

any_second : (e : Entry) (xs ys : List (List Entry)) → StandsInAny e ys → StandsInAny e (xs ++ ys)
any_second e [] ys h = h
any_second e (x ∷ xs) ys h = inr (any_second e xs ys h)

-- and the other way round
any_either : (e : Entry) (xs ys : List (List Entry)) → StandsInAny e (xs ++ ys) → StandsInAny e xs ⊎ StandsInAny e ys
any_either e [] ys h = inr h
any_either e (x ∷ xs) ys (inl h) = inl (inl h)
any_either e (x ∷ xs) ys (inr h) = elim (any_either e xs ys h) [ inl i ↦ inl (inr i) | inr i ↦ inr i ]

-- the lists that are left behind the first entry of the last one
abbrev pub opened : List (List Entry) → Entry → List Entry → List (List Entry)
opened rest x older = (rest ++ older ∷ []) ++ contents x ∷ []

-- what stands in them stood in those before
pub still_stands : (e x : Entry) (rest : List (List Entry)) (older : List Entry) → StandsInAny e (opened rest x older) → StandsInAny e (rest ++ (x ∷ older) ∷ [])
still_stands e x rest older h = elim (any_either e (rest ++ older ∷ []) (contents x ∷ []) h) [
  | inl i ↦ elim (any_either e rest (older ∷ []) i) [
    | inl j ↦ any_first e rest ((x ∷ older) ∷ []) j
    | inr j ↦ elim j [ inl k ↦ any_second e rest ((x ∷ older) ∷ []) (inl (later k)) | inr k ↦ absurd k ]
  ]
  | inr i ↦ elim i [ inl k ↦ any_second e rest ((x ∷ older) ∷ []) (inl (within k)) | inr k ↦ absurd k ]
]

-- and what stood in those before is that entry or stands in them
pub stands_yet : (e x : Entry) (rest : List (List Entry)) (older : List Entry) → StandsInAny e (rest ++ (x ∷ older) ∷ []) → (e ≡ x) ⊎ StandsInAny e (opened rest x older)
stands_yet e x rest older h = elim (any_either e rest ((x ∷ older) ∷ []) h) [
  | inl i ↦ inr (any_first e (rest ++ older ∷ []) (contents x ∷ []) (any_first e rest (older ∷ []) i))
  | inr i ↦ elim i [
    | inl j ↦ elim (open_first e x older j) [
      | inl k ↦ inl k
      | inr k ↦ elim k [
        | inl m ↦ inr (any_first e (rest ++ older ∷ []) (contents x ∷ []) (any_second e rest (older ∷ []) (inl m)))
        | inr m ↦ inr (any_second e (rest ++ older ∷ []) (contents x ∷ []) (inl m))
      ]
    ]
    | inr j ↦ absurd j
  ]
]

-- an empty list may be left out
pub stands_elsewhere : (e : Entry) (rest : List (List Entry)) → StandsInAny e (rest ++ [] ∷ []) → StandsInAny e rest
stands_elsewhere e rest h = elim (any_either e rest ([] ∷ []) h) [
  | inl i ↦ i
  | inr i ↦ elim i [ inl j ↦ (let none = stands_in_some e [] j in absurd (omega arith)) | inr j ↦ absurd j ]
]

-- the entry that is looked at stands in the lists that are left
pub looked_at : (x : Entry) (rest : List (List Entry)) (older : List Entry) → StandsInAny x (rest ++ (x ∷ older) ∷ [])
looked_at x rest older = any_second x rest ((x ∷ older) ∷ []) (inl here)

lists_more : (xs ys : List (List Entry)) → lists_weight (xs ++ ys) ≡ lists_weight xs + lists_weight ys
lists_more [] ys = omega arith
lists_more (x ∷ xs) ys = let h = lists_more xs ys in omega arith

-- less is left behind each entry
pub opened_less : (x : Entry) (rest : List (List Entry)) (older : List Entry) → lists_weight (opened rest x older) < lists_weight (rest ++ (x ∷ older) ∷ [])
opened_less x rest older =
    let a = lists_more (rest ++ older ∷ []) (contents x ∷ []) in
    let b = lists_more rest (older ∷ []) in
    let c = lists_more rest ((x ∷ older) ∷ []) in
    let w = contents_weight x in
    omega arith

-- and without an empty list
pub rest_less : (rest : List (List Entry)) → lists_weight rest < lists_weight (rest ++ [] ∷ [])
rest_less rest = let h = lists_more rest ([] ∷ []) in omega arith

-- a module more was added, which no newer one hides
pub module_added : (path : List ℕ) (seen : List Name) (e : Entry) (older : List Entry) (before after : List Searched) → is_module e ≡ true → among (str_bytes e.name) seen ≡ false →
    after ≡ before ++ (path ++ str_bytes e.name ++ codes ".", contents e) ∷ [] → after ++ modules_among path (str_bytes e.name ∷ seen) older ≡ before ++ modules_among path seen (e ∷ older)
module_added path seen e older before after is new added = rw (is, new, added, append_assoc)

-- the modules among entries weigh no more than these
among_weight : (path : List ℕ) (seen : List Name) (es : List Entry) → level_weight (modules_among path seen es) ≤ entries_weight es
among_weight path seen [] = omega arith
among_weight path seen (e ∷ es) = after_entry path seen e es (is_module e) (among (str_bytes e.name) seen) (among_weight path seen es) (among_weight path (str_bytes e.name ∷ seen) es) where
  after_entry : (path : List ℕ) (seen : List Name) (e : Entry) (es : List Entry) (m a : Bool) → level_weight (modules_among path seen es) ≤ entries_weight es → level_weight (modules_among path (str_bytes e.name ∷ seen) es) ≤ entries_weight es →
      level_weight (if m then (if a then modules_among path seen es else (path ++ str_bytes e.name ++ codes ".", contents e) ∷ modules_among path (str_bytes e.name ∷ seen) es) else modules_among path seen es) ≤ entry_weight e + entries_weight es
  after_entry path seen e es true true h i = omega arith
  after_entry path seen e es true false h i = let w = contents_weight e in omega arith
  after_entry path seen e es false a h i = omega arith

level_more : (q r : List Searched) → level_weight (q ++ r) ≡ level_weight q + level_weight r
level_more [] r = omega arith
level_more (s ∷ q) r = let h = level_more q r in omega arith

next_weight : (q : List Searched) → level_weight (next_level q) + length q ≤ level_weight q
next_weight [] = omega arith
next_weight (s ∷ q) = let h = next_weight q in let i = among_weight s.0 [] s.1 in let a = level_more (modules_among s.0 [] s.1) (next_level q) in omega arith

-- the next level weighs less than one that isn't empty
pub next_less : (q : List Searched) → 0 < length q → level_weight (next_level q) < level_weight q
next_less q some = let h = next_weight q in omega arith

-- what stands in some lists stands in them and an empty one
pub any_before : (e : Entry) (rest : List (List Entry)) → StandsInAny e rest → StandsInAny e (rest ++ [] ∷ [])
any_before e rest h = any_first e rest ([] ∷ []) h

-- a level is empty where no module is left, and otherwise isn't
pub no_level : (is : List Inside) → (length is == 0) ≡ true → level_of is ≡ []
no_level [] h = refl
no_level (i ∷ is) h = let e = eqb-true (suc (length is)) 0 h in absurd (omega arith)

pub some_level : (is : List Inside) → (length is == 0) ≡ false → 0 < length (level_of is)
some_level [] h = absurd (cc)
some_level (i ∷ is) h = omega arith
