-- Whether a `match` and a `let` are non-expansive, by their operands.
use Rattle.std.proofs.Common.{◌≡◌, ◌∙◌, ◌++◌, ◌&&◌, ℕ, Bool, true, false, not, List, [], ◌∷◌, Option, Some, None, option_map, refl, sym, ap, if◌then◌else◌}
use Rattle.std.specs.List.{cons_option}
use Rattle.std.specs.Prelude.{All}
use Rattle.std.proofs.lemmas.List.Elements.{All-nil, All-cons, All-head, All-tail, All-append}
use Rattle.tree_model.specs.Rows.{ematch_row, elet_row}
use Rattle.tree_model.specs.Slots.{is_operand}
use Rattle.tree_model.specs.Trees.{Place, Tree, Part, taken, inner, missing}
use Rattle.row_parts.specs.Numbered.{Numbered, numbered, first_of, operands_in, first_in, filled_in}
use Rattle.typing_model.specs.Contexts.{Context}
use Rattle.typing_model.specs.Parts.{Expression, Binding}
use Rattle.typing_model.specs.Bindings.{generalises}
use Rattle.typing_model.specs.Expressions.{all_values, cases_are_values, all_generalise, is_some}
use Rattle.operand_laws.specs.Formed.{row_of, is_needed, may_repeat}
use Rattle.operand_laws.specs.Operands.{expression_of}
use Rattle.typing_rows.specs.Asked.{row_expression, expressions_of}
use Rattle.typing_rows.specs.CarriedRows.{sort_in, IsCarried}
use Rattle.typing_rows.specs.Valued.{body_in, bodies_of, is_unguarded, are_unguarded, right_in, rights_of}
use Rattle.typing_rows.proofs.Going.{operands_carried, cases_carried, bindings_carried}
use Rattle.typing_rows.proofs.Terms.{alone}
use Rattle.binding_rows.specs.CaseCarried.{IsCasePart, IsCase}
use Rattle.binding_rows.specs.Cases.{cases_of}
use Rattle.binding_rows.proofs.Matches.{case_term, match_term}
use Rattle.binding_rows.proofs.CaseNodes.{all_cases}
use Rattle.pattern_rows.specs.Contracts.{patterns_of}
use Rattle.binding_rows.specs.Carried.{IsBindingPart, IsBinding}
use Rattle.binding_rows.specs.Operands.{bindings_of, binding_over}
use Rattle.binding_rows.proofs.Nodes.{all_bindings}
use Rattle.binding_rows.proofs.Terms.{binding_term, let_term}

both_left : (a b : Bool) → (a && b) ≡ true → a ≡ true
both_left true b h = refl
both_left false b h = h

both_right : (a b : Bool) → (a && b) ≡ true → b ≡ true
both_right true b h = h
both_right false b h = absurd (cc)

one_false : (a b : Bool) → (a && b) ≡ false → b ≡ true → a ≡ false
one_false false b h t = refl
one_false true b h t = sym t ∙ h

and_false : (a : Bool) → (a && false) ≡ false
and_false true = refl
and_false false = refl

and_turned : (a b : Bool) → (a && b) ≡ (b && a)
and_turned true true = refl
and_turned true false = refl
and_turned false true = refl
and_turned false false = refl

-- an unguarded case asks that its body is non-expansive, and others that theirs are
unguarded_one : (i : ℕ) (c : Context) (g : Option Numbered) (e : Expression) (b : Bool) → not (is_some g) ≡ true → (not (is_some (option_map (λ o. expression_of i o) g)) && e.is_value c && b) ≡ (e.is_value c && b)
unguarded_one i c None e b h = refl
unguarded_one i c (Some o) e b h = absurd (cc)

guarded_one : (i : ℕ) (c : Context) (g : Option Numbered) (e : Expression) (b : Bool) → not (is_some g) ≡ false → (not (is_some (option_map (λ o. expression_of i o) g)) && e.is_value c && b) ≡ false
guarded_one i c None e b h = absurd (cc)
guarded_one i c (Some o) e b h = refl

guarded_later : (i : ℕ) (c : Context) (g : Option Numbered) (e : Expression) → (not (is_some (option_map (λ o. expression_of i o) g)) && e.is_value c && false) ≡ false
guarded_later i c g e = and_false (not (is_some (option_map (λ o. expression_of i o) g)) && e.is_value c)

-- a case before others, where none is guarded
case_before : (i n : ℕ) (at : Place) (c : Context) (p : Part) (os : List Numbered) → IsCasePart n p → is_unguarded n p ≡ true → cases_are_values c (cases_of i os) ≡ all_values c (expressions_of i (bodies_of os)) →
    cases_are_values c (cases_of i (numbered n at p ∷ os)) ≡ all_values c (expressions_of i (bodies_of (numbered n at p ∷ os)))
case_before i n at c (taken t) os h free rest = rest
case_before i n at c (inner t) os h free rest =
    ap (λ x. cases_are_values c (cons_option x (cases_of i os))) (case_term i n at t h.formed h.row) ∙
    unguarded_one i c (first_in n t 2) (expression_of i (filled_in n t 4)) (cases_are_values c (cases_of i os)) free ∙ ap (λ b. (expression_of i (filled_in n t 4)).is_value c && b) rest
case_before i n at c (missing q) os h free rest = rest

-- cases of which none is guarded are non-expansive where their bodies are
pub unguarded_values : (i : ℕ) (c : Context) (os : List Numbered) → All IsCase os → are_unguarded os ≡ true → cases_are_values c (cases_of i os) ≡ all_values c (expressions_of i (bodies_of os))
unguarded_values i c [] all free = refl
unguarded_values i c (o ∷ os) all free =
    let one = All-head IsCase o os all in
    case_before i o.number o.at c o.part os one (both_left (is_unguarded o.number o.part) (are_unguarded os) free)
    (unguarded_values i c os (All-tail IsCase o os all) (both_right (is_unguarded o.number o.part) (are_unguarded os) free))

-- a guarded case before others
case_guarded : (i n : ℕ) (at : Place) (c : Context) (p : Part) (os : List Numbered) → IsCasePart n p → is_unguarded n p ≡ false → cases_are_values c (cases_of i (numbered n at p ∷ os)) ≡ false
case_guarded i n at c (taken t) os h held = absurd (cc)
case_guarded i n at c (inner t) os h held =
    ap (λ x. cases_are_values c (cons_option x (cases_of i os))) (case_term i n at t h.formed h.row) ∙ guarded_one i c (first_in n t 2) (expression_of i (filled_in n t 4)) (cases_are_values c (cases_of i os)) held
case_guarded i n at c (missing q) os h held = absurd (cc)

-- a case before others of which one is guarded
case_later : (i n : ℕ) (at : Place) (c : Context) (p : Part) (os : List Numbered) → IsCasePart n p → cases_are_values c (cases_of i os) ≡ false → cases_are_values c (cases_of i (numbered n at p ∷ os)) ≡ false
case_later i n at c (taken t) os h rest = rest
case_later i n at c (inner t) os h rest =
    ap (λ x. cases_are_values c (cons_option x (cases_of i os))) (case_term i n at t h.formed h.row) ∙
    ap (λ b. not (is_some (option_map (λ o. expression_of i o) (first_in n t 2))) && (expression_of i (filled_in n t 4)).is_value c && b) rest ∙ guarded_later i c (first_in n t 2) (expression_of i (filled_in n t 4))
case_later i n at c (missing q) os h rest = rest

-- cases of which one is guarded are not
pub guarded_values : (i : ℕ) (c : Context) (os : List Numbered) → All IsCase os → are_unguarded os ≡ false → cases_are_values c (cases_of i os) ≡ false
guarded_values i c [] all held = absurd (cc)
guarded_values i c (o ∷ os) all held = by (are_unguarded os) refl (guarded_values i c os (All-tail IsCase o os all))
  where
    one : IsCase o
    one = All-head IsCase o os all

    by : (b : Bool) → are_unguarded os ≡ b → (are_unguarded os ≡ false → cases_are_values c (cases_of i os) ≡ false) → cases_are_values c (cases_of i (o ∷ os)) ≡ false
    by true e rest = case_guarded i o.number o.at c o.part os one (one_false (is_unguarded o.number o.part) (are_unguarded os) held e)
    by false e rest = case_later i o.number o.at c o.part os one (rest e)

-- a binding by its parameters
binding_by : (i : ℕ) (c : Context) (ps : List Numbered) (e : Numbered) (b : Binding) (xs : List Numbered) (v : Bool) → b.parameters ≡ patterns_of i ps → b.body ≡ expression_of i e → v ≡ all_values c (expressions_of i xs) →
    (generalises c b && v) ≡ all_values c (expressions_of i (cons_option (if is_some (first_of ps) then None else Some e) xs))
binding_by i c [] e b xs v given body rest = (λ k. elim (given k) [ [] ↦ (body k).is_value c | p ∷ ps ↦ true ] && rest k)
binding_by i c (p ∷ ps) e b xs v given body rest = (λ k. elim (given k) [ [] ↦ b.body.is_value c | p ∷ ps ↦ true ] && rest k)

binding_before : (i n : ℕ) (at : Place) (c : Context) (p : Part) (os : List Numbered) → IsBindingPart n p → all_generalise c (bindings_of i os) ≡ all_values c (expressions_of i (rights_of os)) →
    all_generalise c (bindings_of i (numbered n at p ∷ os)) ≡ all_values c (expressions_of i (rights_of (numbered n at p ∷ os)))
binding_before i n at c (taken t) os h rest = rest
binding_before i n at c (inner t) os h rest =
    ap (λ x. all_generalise c (cons_option x (bindings_of i os))) (binding_term i n at t h.formed h.row) ∙
    binding_by i c (operands_in n t 1) (filled_in n t 5) (binding_over i n t) (rights_of os) (all_generalise c (bindings_of i os)) refl refl rest
binding_before i n at c (missing q) os h rest = rest

-- bindings are generalised where the right sides of those without parameters are non-expansive
pub rights_values : (i : ℕ) (c : Context) (os : List Numbered) → All IsBinding os → all_generalise c (bindings_of i os) ≡ all_values c (expressions_of i (rights_of os))
rights_values i c [] all = refl
rights_values i c (o ∷ os) all = let one = All-head IsBinding o os all in binding_before i o.number o.at c o.part os one (rights_values i c os (All-tail IsBinding o os all))

cases : (n : ℕ) (at : Place) (t : Tree) → row_of t ≡ ematch_row → IsCarried (numbered n at (inner t)) → All IsCase (operands_in n t 4)
cases n at t row h = all_cases (operands_in n t 4) (cases_carried n at t 4 (ap (λ r. sort_in r 4) row) h)

bindings : (n : ℕ) (at : Place) (t : Tree) → row_of t ≡ elet_row → IsCarried (numbered n at (inner t)) → All IsBinding (operands_in n t 2)
bindings n at t row h = all_bindings (operands_in n t 2) (bindings_carried n at t 2 (ap (λ r. sort_in r 2) row) h)

body_carried : (n : ℕ) (p : Part) (xs : List Numbered) → IsCasePart n p → All IsCarried xs → All IsCarried (cons_option (body_in n p) xs)
body_carried n (taken t) xs h rest = rest
body_carried n (inner t) xs h rest = All-cons IsCarried (filled_in n t 4) xs h.body rest
body_carried n (missing at) xs h rest = rest

-- the bodies of cases are carried
bodies_carried : (os : List Numbered) → All IsCase os → All IsCarried (bodies_of os)
bodies_carried [] all = All-nil IsCarried
bodies_carried (o ∷ os) all = body_carried o.number o.part (bodies_of os) (All-head IsCase o os all) (bodies_carried os (All-tail IsCase o os all))

right_carried : (n : ℕ) (p : Part) (xs : List Numbered) → IsBindingPart n p → All IsCarried xs → All IsCarried (cons_option (right_in n p) xs)
right_carried n (taken t) xs h rest = rest
right_carried n (inner t) xs h rest = by (is_some (first_in n t 1))
  where
    by : (b : Bool) → All IsCarried (cons_option (if b then None else Some (filled_in n t 5)) xs)
    by true = rest
    by false = All-cons IsCarried (filled_in n t 5) xs h.body rest
right_carried n (missing at) xs h rest = rest

-- the right sides of bindings are
rights_carried : (os : List Numbered) → All IsBinding os → All IsCarried (rights_of os)
rights_carried [] all = All-nil IsCarried
rights_carried (o ∷ os) all = right_carried o.number o.part (rights_of os) (All-head IsBinding o os all) (rights_carried os (All-tail IsBinding o os all))

-- a match without guards
pub match_value : (i n : ℕ) (at : Place) (t : Tree) → row_of t ≡ ematch_row → IsCarried (numbered n at (inner t)) → are_unguarded (operands_in n t 4) ≡ true → (c : Context) →
    (row_expression i n at t).is_value c ≡ all_values c (expressions_of i (operands_in n t 1 ++ bodies_of (operands_in n t 4)))
unfolding is_operand is_needed may_repeat
match_value i n at t row h free c =
    ap (λ e. e.is_value c) (match_term i n at t h.formed row) ∙ ap (λ b. (expression_of i (filled_in n t 1)).is_value c && b) (unguarded_values i c (operands_in n t 4) (cases n at t row h) free) ∙
    ap (λ os. all_values c (expressions_of i (os ++ bodies_of (operands_in n t 4)))) (sym (alone i n t h.formed ematch_row 1 row refl refl refl))

-- a match with a guard
pub match_never : (i n : ℕ) (at : Place) (t : Tree) → row_of t ≡ ematch_row → IsCarried (numbered n at (inner t)) → are_unguarded (operands_in n t 4) ≡ false → (c : Context) → (row_expression i n at t).is_value c ≡ false
match_never i n at t row h held c =
    ap (λ e. e.is_value c) (match_term i n at t h.formed row) ∙ ap (λ b. (expression_of i (filled_in n t 1)).is_value c && b) (guarded_values i c (operands_in n t 4) (cases n at t row h) held) ∙ and_false ((expression_of i (filled_in n t 1)).is_value c)

-- let p = e in e
pub let_value : (i n : ℕ) (at : Place) (t : Tree) → row_of t ≡ elet_row → IsCarried (numbered n at (inner t)) → (c : Context) →
    (row_expression i n at t).is_value c ≡ all_values c (expressions_of i (operands_in n t 5 ++ rights_of (operands_in n t 2)))
unfolding is_operand is_needed may_repeat
let_value i n at t row h c =
    ap (λ e. e.is_value c) (let_term i n at t h.formed row) ∙ ap (λ b. b && (expression_of i (filled_in n t 5)).is_value c) (rights_values i c (operands_in n t 2) (bindings n at t row h)) ∙
    and_turned (all_values c (expressions_of i (rights_of (operands_in n t 2)))) ((expression_of i (filled_in n t 5)).is_value c) ∙
    ap (λ os. all_values c (expressions_of i (os ++ rights_of (operands_in n t 2)))) (sym (alone i n t h.formed elet_row 5 row refl refl refl))

-- the operands that decide of a match are carried
pub match_carried : (n : ℕ) (at : Place) (t : Tree) → row_of t ≡ ematch_row → IsCarried (numbered n at (inner t)) → All IsCarried (operands_in n t 1 ++ bodies_of (operands_in n t 4))
match_carried n at t row h = All-append IsCarried (operands_in n t 1) (bodies_of (operands_in n t 4)) (operands_carried n at t 1 (ap (λ r. sort_in r 1) row) h) (bodies_carried (operands_in n t 4) (cases n at t row h))

-- and so are those of a `let`
pub let_carried : (n : ℕ) (at : Place) (t : Tree) → row_of t ≡ elet_row → IsCarried (numbered n at (inner t)) → All IsCarried (operands_in n t 5 ++ rights_of (operands_in n t 2))
let_carried n at t row h = All-append IsCarried (operands_in n t 5) (rights_of (operands_in n t 2)) (operands_carried n at t 5 (ap (λ r. sort_in r 5) row) h) (rights_carried (operands_in n t 2) (bindings n at t row h))
