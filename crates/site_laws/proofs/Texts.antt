-- A text without modules makes each demand once.
use Rattle.std.proofs.Common.{◌≡◌, ℕ, ◌+◌, ◌^◌, ◌≤◌, Bool, true, List, [], ◌∷◌, ◌++◌, Option, Some, None, refl, subst, arith}
use Rattle.token_model.specs.Kinds.{Tok}
use Rattle.tree_model.specs.Trees.{Place, Tree, Forest, Part, node, no_parts, part, taken, inner, missing, size_of, forest_size, part_size, part_yield}
use Rattle.tree_model.specs.Rows.{Row, binding_row, case_row, ffield_row, qfield_row, let_row, type_row, exception_row, break_row}
use Rattle.signature_model.specs.Entries.{Environment}
use Rattle.typing_model.specs.Demands.{Site, sites_of}
use Rattle.typing_model.specs.Contexts.{Context, Choice, Bound, parameters, under}
use Rattle.typing_model.specs.Parts.{Expression, Pattern, TypeExpression, ConstructorPart, FieldPattern, Item, Seen, seen_too, no_names, Child, token_in, path_in, no_expression_at, no_pattern_at, no_type_at, types_in, expression_in, expressions_in, pattern_in, patterns_in, first_of, place_of}
use Rattle.typing_model.specs.Bindings.{names_of_group}
use Rattle.typing_model.specs.Expressions.{expression_row, bindings_in, is_some}
use Rattle.typing_model.specs.Patterns.{pattern_row}
use Rattle.typing_model.specs.TypeExpressions as types
use Rattle.typing_model.specs.Items.{inside_item, names_made, exception_item, items_ask}
use Rattle.typing_model.specs.Modules.{item_row}
use Rattle.typing_model.specs.Meanings.{binding_of, case_of, field_of, field_pattern_of, recorded_expression, recorded_pattern, recorded_type, recorded_item, node_child, leaf_child, children_of, child_of, tree_child, item_base, items_from}
use Rattle.typing_model.specs.Typings.{outermost, conditions_of}
use Rattle.typing_model.specs.Plain.{is_plain_row, has_no_modules, has_lets_alone, has_values_alone}
use Rattle.typing_laws.proofs.Bools.{no_yes, and_cases}
use Rattle.typing_laws.proofs.Settled.{lets_plain, values_plain}
use Rattle.typing_laws.proofs.Steady.{IfThere, absent, there}
use Rattle.site_laws.proofs.Sites.{IfHere, gone, here, Distinct, Within, Either, Lies, widen, then_within, both_in, At, Range, told, known_too, quiet, none_within}
use Rattle.site_laws.proofs.Types.{ApartType, no_type_apart}
use Rattle.site_laws.proofs.Patterns.{ApartPattern, ApartFieldPattern, no_pattern_apart, field_pattern_apart}
use Rattle.site_laws.proofs.Expressions.{ApartExpression, no_expression_apart}
use Rattle.site_laws.proofs.Records.{ApartField, ApartCase, field_apart, case_apart}
use Rattle.site_laws.proofs.Bindings.{ApartBinding, binding_apart, bindings_apart}
use Rattle.site_laws.proofs.Declarations.{optional_apart, group_within}
use Rattle.site_laws.proofs.Rows.{ApartException, first_exception, declarations_slot, constructor_kind, label_kind, told_kind, right_kind, declaration_kind, ApartChild, Spread, ends, more, InSlot, slots_apart, slot_others, slot_in, node_in, patterns_slot, first_expression, one_expression_slot, first_pattern, one_pattern_slot, first_type_slot, bindings_slot, expression_row_apart, pattern_row_apart, type_row_apart, wider}

-- a part that tells its environment first
expression_told : {P : Site → Type 0} (n : ℕ) (e : Expression) → ApartExpression P e → ApartExpression P (recorded_expression n e)
expression_told n e s = record { types = λ c. told (known_too (s.types c)); negates = λ c. told (known_too (s.negates c)); forms = s.forms }

pattern_told : {P : Site → Type 0} (n : ℕ) (p : Pattern) → ApartPattern P p → ApartPattern P (recorded_pattern n p)
pattern_told n p s = record { matches = λ c seen. told (known_too (s.matches c seen)) }

type_told : {P : Site → Type 0} (n : ℕ) (t : TypeExpression) → ApartType P t → ApartType P (recorded_type n t)
type_told n t s = record { reads = λ c. told (s.reads c); reads_group = λ c. told (s.reads_group c) }

-- the parts that are no node of a sort of their own
binding_kind : (r : Row) (n : ℕ) {hi : ℕ} (cs : List Child) → Spread (n + 1) hi cs → IfHere (ApartBinding (Range n hi)) (binding_of r n cs)
binding_kind binding_row n cs h = here (binding_apart (record { node = n; pattern = pattern_in 0 cs; parameters = patterns_in 1 cs; annotation = first_of (types_in 3 cs); body = expression_in 5 cs })
    (one_pattern_slot n h 0) (patterns_slot n h 1) (first_type_slot n h 3) (one_expression_slot n h 5)
    (slots_apart 0 1 refl h) (slots_apart 0 3 refl h) (slots_apart 0 5 refl h) (slots_apart 1 3 refl h) (slots_apart 1 5 refl h) (slots_apart 3 5 refl h)
    (slot_others n h 0) (slot_others n h 1) (slot_others n h 3) (slot_others n h 5) (slot_in n h 0) (slot_in n h 1) (slot_in n h 3) (slot_in n h 5) (node_in n h))
binding_kind _ n cs h = gone

case_kind : (r : Row) (n : ℕ) {hi : ℕ} (cs : List Child) → Spread (n + 1) hi cs → IfThere (ApartCase (Range n hi)) (case_of r n cs)
case_kind case_row n cs h = there (case_apart (record { node = n; pattern = pattern_in 0 cs; guard = first_of (expressions_in 2 cs); body = expression_in 4 cs })
    (one_pattern_slot n h 0) (first_expression n h 2) (one_expression_slot n h 4) (slots_apart 0 2 refl h) (slots_apart 0 4 refl h) (slots_apart 2 4 refl h) (slot_in n h 0) (slot_in n h 2) (slot_in n h 4))
case_kind _ n cs h = absent

field_kind : (r : Row) (n : ℕ) {hi : ℕ} (cs : List Child) → Spread (n + 1) hi cs → IfThere (ApartField (Range n hi)) (field_of r n cs)
field_kind ffield_row n cs h = there (field_apart {A = At n} {B = InSlot 3 h} (record { node = n; label = path_in 0 1 cs; value = first_of (expressions_in 3 cs) }) (λ x i. i) (first_expression n h 3) (λ x i j. slot_others n h 3 x j i) (node_in n h) (slot_in n h 3))
field_kind _ n cs h = absent

field_pattern_kind : (r : Row) (n : ℕ) {hi : ℕ} (cs : List Child) → Spread (n + 1) hi cs → IfThere (ApartFieldPattern (Range n hi)) (field_pattern_of r n cs)
field_pattern_kind qfield_row n {hi} cs h = there (fitted (field_pattern_apart (record { node = n; label = path_in 0 1 cs; pattern = first_of (patterns_in 3 cs) }) (first_pattern n h 3) (slot_others n h 3)))
  where
    fitted : {f : FieldPattern} → ApartFieldPattern (Either (InSlot 3 h) (At n)) f → ApartFieldPattern (Range n hi) f
    fitted s = record { matches = λ c k found names seen t. widen (both_in (slot_in n h 3) (node_in n h)) (s.matches c k found names seen t) }
field_pattern_kind _ n cs h = absent

-- a node over its parts, and a part that is none
node_apart : (slot : ℕ) (p : Part) (r : Row) (n : ℕ) (q : Place) {hi : ℕ} (cs : List Child) → Spread (n + 1) hi cs → ApartChild n hi (node_child slot p r n q cs)
node_apart slot p r n q cs h = record {
  expression = expression_told n (expression_row r n q cs) (expression_row_apart n h r q);
  pattern = pattern_told n (pattern_row r n q cs) (pattern_row_apart n h r q);
  type_expression = type_told n (types.type_row r n q cs) (type_row_apart n h r q);
  binding = binding_kind r n cs h;
  case = case_kind r n cs h;
  field = field_kind r n cs h;
  field_pattern = field_pattern_kind r n cs h;
  constructor = constructor_kind n h r;
  label = label_kind n h r;
  told = told_kind n h r;
  right_side = right_kind n h r;
  declaration = declaration_kind n h r;
}

leaf_apart : {lo hi : ℕ} (slot : ℕ) (p : Part) (n : ℕ) (q : Place) → ApartChild lo hi (leaf_child slot p n q)
leaf_apart slot p n q = record {
  expression = expression_told n (no_expression_at n q) (no_expression_apart n q);
  pattern = pattern_told n (no_pattern_at n q) (no_pattern_apart n q);
  type_expression = type_told n (no_type_at n q) (no_type_apart n q);
  binding = gone;
  case = absent;
  field = absent;
  field_pattern = absent;
  constructor = gone;
  label = gone;
  told = gone;
  right_side = gone;
  declaration = gone;
}

mutual
  children_apart : (n : ℕ) (r : Row) (ps : Forest) → Spread n (n + forest_size r ps) (children_of n r ps)
  children_apart n r no_parts = subst (λ k. Spread n k []) (omega arith) ends
  children_apart n r (part slot p ps) =
      more (omega arith) (child_apart n r slot p) (subst (λ k. Spread (n + part_size r slot p) k (children_of (n + part_size r slot p) r ps)) (omega arith) (children_apart (n + part_size r slot p) r ps))

  child_apart : (n : ℕ) (r : Row) (slot : ℕ) (p : Part) → ApartChild n (n + part_size r slot p) (child_of n slot p)
  child_apart n r slot (taken t) = leaf_apart slot (taken t) n (place_of t)
  child_apart n r slot (inner t) = tree_apart n slot t
  child_apart n r slot (missing p) = leaf_apart slot (missing p) n p

  tree_apart : (n : ℕ) (slot : ℕ) (t : Tree) → ApartChild n (n + size_of t) (tree_child n slot t)
  tree_apart n slot (node r x ps) = node_apart slot (inner (node r x ps)) r n x.span (children_of (n + 1) r ps) (subst (λ k. Spread (n + 1) k (children_of (n + 1) r ps)) (omega arith) (children_apart (n + 1) r ps))

-- an item makes its demands in a set, each once
record ApartItem (P : Site → Type 0) (i : Item) : Type 0 where
  pub asks : (c : Context) (seen : Seen) → Within P (i.asks c seen)

made_silent : (n : ℕ) (c : Context) (bs : List Bound) → sites_of (names_made n c bs) ≡ []
made_silent n c [] = refl
made_silent n c (b ∷ bs) = made_silent n c bs

exception_apart : {P : Site → Type 0} (n : ℕ) {k : Option ConstructorPart} → IfHere (ApartException P) k → ApartItem P (exception_item n k)
exception_apart n gone = record { asks = λ c seen. none_within }
exception_apart n (here s) = record { asks = λ c seen. told (optional_apart (record c { variables = parameters [] }) s.argument) }

item_in_set : {P R : Site → Type 0} {i : Item} → Lies P R → ApartItem P i → ApartItem R i
item_in_set g s = record { asks = λ c seen. widen g (s.asks c seen) }

row_apart : (r : Row) (n : ℕ) {hi : ℕ} (q : Place) (ts : List Tok) (cs : List Child) → is_plain_row r ≡ true → Spread (n + 1) hi cs → IfThere (ApartItem (Range n hi)) (item_row r n q ts cs)
unfolding item_row
row_apart let_row n q ts cs e h = there (record {
  asks = λ c seen. quiet (names_made n (inside_item n ts c) (names_of_group (bindings_in 2 cs))) (made_silent n (inside_item n ts c) (names_of_group (bindings_in 2 cs)))
      (bindings_apart (inside_item n ts c) (is_some (token_in 1 cs)) (wider (slot_in n h 2) (bindings_slot 2 h)));
})
row_apart type_row n q ts cs e h = there (record { asks = λ c seen. widen (λ x i. let k = i.0 in (omega (arith, k), i.1)) (group_within c seen.types (declarations_slot 2 h)) })
row_apart exception_row n q ts cs e h = there (item_in_set (slot_in n h 1) (exception_apart n (first_exception 1 h)))
row_apart break_row n q ts cs e h = there (record { asks = λ c seen. none_within })
row_apart _ n q ts cs e h = absurd (no_yes e)

item_told : {P : Site → Type 0} (n : ℕ) (i : Option Item) → IfThere (ApartItem P) i → IfThere (ApartItem P) (recorded_item n i)
item_told n None absent = absent
item_told n (Some i) (there s) = there (record { asks = λ c seen. told (s.asks c seen) })

-- no item has more nodes than there are numbers for it
abbrev pub AreSmall : List Tree → Type 0
AreSmall [] = Unit {0}
AreSmall (t ∷ ts) = (size_of t ≤ 2 ^ 32) × AreSmall ts

-- the items of a text, in ranges one behind the other
data Items : ℕ → List Item → Type 0 where
  no_items : {lo : ℕ} → Items lo []
  and_item : {lo mid next : ℕ} {i : Item} {is : List Item} → ApartItem (Range lo mid) i → lo ≤ next → mid ≤ next → Items next is → Items lo (i ∷ is)

items_lower : {lo k : ℕ} {is : List Item} → lo ≤ k → Items k is → Items lo is
items_lower le no_items = no_items
items_lower le (and_item s f g rest) = and_item (record { asks = λ c seen. widen (λ x i. (let h = i.0 in omega (arith, le, h), i.1)) (s.asks c seen) }) (omega (arith, le, f)) g rest

items_apart : (k : ℕ) (ts : List Tree) → has_no_modules ts ≡ true → AreSmall ts → Items (item_base k) (items_from k ts)
items_apart k [] e small = no_items
items_apart k (node r x ps ∷ ts) e (fits, small) =
    let (first, others) = and_cases (is_plain_row r) (has_no_modules ts) e in
    by (items_apart (k + 1) ts others small) (tree_child (item_base k) 0 (node r x ps)).item
    (item_told (item_base k) (item_row r (item_base k) x.span (part_yield (inner (node r x ps))) (children_of (item_base k + 1) r ps))
    (row_apart r (item_base k) x.span (part_yield (inner (node r x ps))) (children_of (item_base k + 1) r ps) first
    (subst (λ j. Spread (item_base k + 1) j (children_of (item_base k + 1) r ps)) (omega arith) (children_apart (item_base k + 1) r ps))))
  where
    by : Items (item_base (k + 1)) (items_from (k + 1) ts) → (o : Option Item) → IfThere (ApartItem (Range (item_base k) (item_base k + size_of (node r x ps)))) o →
        Items (item_base k) (elim o [ None ↦ items_from (k + 1) ts | Some y ↦ y ∷ items_from (k + 1) ts ])
    by later None absent = items_lower (omega arith) later
    by later (Some y) (there s) = and_item s (omega arith) (omega (arith, fits)) later

items_within : {lo : ℕ} (c : Context) (seen : Seen) {xs : List Item} → Items lo xs → Within (λ x. lo ≤ x.node) (items_ask c seen xs)
items_within c seen no_items = none_within
items_within c seen (and_item {i = i} s f g rest) =
    then_within (s.asks c seen) (items_within (under (i.adds c ++ c.env) c) (seen_too seen (i.named c)) rest) (λ x a b. let h = a.1 in omega (arith, g, h, b)) (λ x a. a.0) (λ x b. omega (arith, f, b))

-- A text without modules makes each demand once.
pub plain_sites_apart : (env : Environment) (text : List Tree) → has_no_modules text ≡ true → AreSmall text → (kept : Site → Bool) (ch : Choice) → Distinct (sites_of (conditions_of env text kept ch))
plain_sites_apart env text none small kept ch = (items_within (outermost env kept ch) no_names (items_apart 1 text none small)).once

-- So does one of `let`, exceptions and `;;`,
pub values_sites_apart : (env : Environment) (text : List Tree) → has_values_alone text ≡ true → AreSmall text → (kept : Site → Bool) (ch : Choice) → Distinct (sites_of (conditions_of env text kept ch))
values_sites_apart env text values = plain_sites_apart env text (values_plain text values)

-- and one of `let` and `;;` alone.
pub sites_apart : (env : Environment) (text : List Tree) → has_lets_alone text ≡ true → AreSmall text → (kept : Site → Bool) (ch : Choice) → Distinct (sites_of (conditions_of env text kept ch))
sites_apart env text lets = plain_sites_apart env text (lets_plain text lets)
