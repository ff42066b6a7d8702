-- Which demands a text without modules makes doesn't depend on the types that are chosen.
use Rattle.std.proofs.Common.{◌≡◌, ℕ, ◌+◌, Bool, true, List, [], ◌∷◌, ◌++◌, filter_map, Option, Some, None, refl, sym, subst}
use Rattle.token_model.specs.Kinds.{Tok}
use Rattle.tree_model.specs.Trees.{Place, Tree, Forest, Part, node, no_parts, part, taken, inner, missing, part_size, part_yield}
use Rattle.tree_model.specs.Rows.{Row, binding_row, case_row, ffield_row, qfield_row, let_row, type_row, exception_row, break_row}
use Rattle.signature_model.specs.Entries.{Environment}
use Rattle.typing_model.specs.Demands.{Site}
use Rattle.typing_model.specs.Contexts.{Context, Choice, Bound, under, generalised_in}
use Rattle.typing_model.specs.Names.{then_by}
use Rattle.typing_model.specs.Parts.{Expression, Pattern, TypeExpression, Binding, ConstructorPart, DeclarationPart, Item, Seen, seen_too, no_names, Child, in_slot, token_in, first_of, no_expression_at, no_pattern_at, no_type_at, types_in, expressions_in, patterns_in, place_of}
use Rattle.typing_model.specs.Bindings.{names_of_group, held_by}
use Rattle.typing_model.specs.Expressions.{expression_row, bindings_in, is_some}
use Rattle.typing_model.specs.Patterns.{pattern_row}
use Rattle.typing_model.specs.TypeExpressions as types
use Rattle.typing_model.specs.Items.{inside_item, names_made, let_item, type_item, exception_item, no_item, items_ask}
use Rattle.typing_model.specs.Modules.{item_row}
use Rattle.typing_model.specs.Meanings.{binding_of, case_of, field_of, field_pattern_of, recorded_expression, recorded_pattern, recorded_type, recorded_item, node_child, leaf_child, children_of, child_of, tree_child, item_base, items_from, items_of}
use Rattle.typing_model.specs.Typings.{outermost, conditions_of}
use Rattle.typing_model.specs.Plain.{is_plain_row, has_no_modules, has_lets_alone, has_values_alone}
use Rattle.typing_laws.specs.Reexports.{has_new_types}
use Rattle.typing_laws.specs.Renaming.{AreRenamedChoices}
use Rattle.typing_laws.proofs.Bools.{no_yes, and_cases}
use Rattle.typing_laws.proofs.Steady.{Each, no_one, one_and, IfThere, absent, there}
use Rattle.typing_laws.proofs.Settled.{lets_values, values_new, new_plain}
use Rattle.typing_laws.proofs.SteadyRows.{first_there}
use Rattle.fault_model.specs.Refused.{refused_of}
use Rattle.typing_conditions.specs.Judging.{judgements}
use Rattle.demand_laws.proofs.Alike.{Same, alone, judged_same, refused_same, at_treated, at_known, behind, along, NamesAlike, names_too, in_front, as_one, Two, left, right}
use Rattle.demand_laws.proofs.Alike as alike
use Rattle.demand_laws.proofs.Types.{AlikeType, no_type_alike}
use Rattle.demand_laws.proofs.Patterns.{AlikePattern, AlikeFieldPattern, no_pattern_alike}
use Rattle.demand_laws.proofs.Declarations.{AlikeConstructor, AlikeDeclaration, group_alike, group_added, exception_alike, exception_added}
use Rattle.demand_laws.proofs.Agreed.{new_agree, renamed_agree}
use Rattle.demand_laws.specs.Agreeing.{AgreeOn, AgreeRow, AreAgreed}
use Rattle.demand_laws.proofs.Bindings.{AlikeExpression, AlikeBinding, bindings_alike}
use Rattle.demand_laws.proofs.Expressions.{AlikeCase, AlikeField, no_expression_alike}
use Rattle.demand_laws.proofs.Rows.{one_constructor_alike, declarations_alike, constructor_row_alike, label_row_alike, told_row_alike, right_row_alike, declaration_row_alike, AlikeChild, expressions_alike, patterns_alike, types_alike, expression_alike, one_pattern_alike, bindings_alike as let_alike, expression_row_alike, pattern_row_alike, type_row_alike}

-- a part that tells its environment first
expression_told : (n : ℕ) (e : Expression) → AlikeExpression e → AlikeExpression (recorded_expression n e)
expression_told n e s = record { types = λ c. at_treated (at_known (s.types c)); negates = λ c. at_treated (at_known (s.negates c)); values = s.values; forms = s.forms }

pattern_told : (n : ℕ) (p : Pattern) → AlikePattern p → AlikePattern (recorded_pattern n p)
pattern_told n p s = record { matches = λ c seen. at_treated (at_known (s.matches c seen)) }

type_told : (n : ℕ) (t : TypeExpression) → AlikeType t → AlikeType (recorded_type n t)
type_told n t s = record { reads = λ c. at_treated (s.reads c); reads_group = λ c. at_treated (s.reads_group c) }

-- the parts that are no node of a sort of their own
binding_alike : (r : Row) (n : ℕ) (cs : List Child) → Each AlikeChild cs → IfThere AlikeBinding (binding_of r n cs)
binding_alike binding_row n cs h = there (record {
  pattern = one_pattern_alike 0 cs h;
  parameters = patterns_alike 1 cs h;
  annotation = first_there (types_in 3 cs) (types_alike 3 cs h);
  body = expression_alike 5 cs h;
})
binding_alike _ n cs h = absent

case_alike : (r : Row) (n : ℕ) (cs : List Child) → Each AlikeChild cs → IfThere AlikeCase (case_of r n cs)
case_alike case_row n cs h = there (record { pattern = one_pattern_alike 0 cs h; guard = first_there (expressions_in 2 cs) (expressions_alike 2 cs h); body = expression_alike 4 cs h })
case_alike _ n cs h = absent

field_alike : (r : Row) (n : ℕ) (cs : List Child) → Each AlikeChild cs → IfThere AlikeField (field_of r n cs)
field_alike ffield_row n cs h = there (record { value = first_there (expressions_in 3 cs) (expressions_alike 3 cs h) })
field_alike _ n cs h = absent

field_pattern_alike : (r : Row) (n : ℕ) (cs : List Child) → Each AlikeChild cs → IfThere AlikeFieldPattern (field_pattern_of r n cs)
field_pattern_alike qfield_row n cs h = there (record { pattern = first_there (patterns_in 3 cs) (patterns_alike 3 cs h) })
field_pattern_alike _ n cs h = absent

-- a node over such parts, and a part that is none
pub node_alike : (slot : ℕ) (p : Part) (r : Row) (n : ℕ) (q : Place) (cs : List Child) → Each AlikeChild cs → AlikeChild (node_child slot p r n q cs)
node_alike slot p r n q cs h = record {
  expression = expression_told n (expression_row r n q cs) (expression_row_alike r n q cs h);
  pattern = pattern_told n (pattern_row r n q cs) (pattern_row_alike r n q cs h);
  type_expression = type_told n (types.type_row r n q cs) (type_row_alike r n q cs h);
  binding = binding_alike r n cs h;
  case = case_alike r n cs h;
  field = field_alike r n cs h;
  field_pattern = field_pattern_alike r n cs h;
  constructor = constructor_row_alike r n cs h;
  label = label_row_alike r n cs h;
  told = told_row_alike r cs h;
  right_side = right_row_alike r n cs h;
  declaration = declaration_row_alike r n cs h;
}

pub leaf_alike : (slot : ℕ) (p : Part) (n : ℕ) (q : Place) → AlikeChild (leaf_child slot p n q)
leaf_alike slot p n q = record {
  expression = expression_told n (no_expression_at n q) (no_expression_alike n q);
  pattern = pattern_told n (no_pattern_at n q) (no_pattern_alike n q);
  type_expression = type_told n (no_type_at n q) (no_type_alike n q);
  binding = absent;
  case = absent;
  field = absent;
  field_pattern = absent;
  constructor = absent;
  label = absent;
  told = absent;
  right_side = absent;
  declaration = absent;
}

mutual
  children_alike : (n : ℕ) (r : Row) (ps : Forest) → Each AlikeChild (children_of n r ps)
  children_alike n r no_parts = no_one
  children_alike n r (part slot p ps) = one_and (child_alike n slot p) (children_alike (n + part_size r slot p) r ps)

  child_alike : (n : ℕ) (slot : ℕ) (p : Part) → AlikeChild (child_of n slot p)
  child_alike n slot (taken t) = leaf_alike slot (taken t) n (place_of t)
  child_alike n slot (inner t) = tree_alike n slot t
  child_alike n slot (missing p) = leaf_alike slot (missing p) n p

  tree_alike : (n : ℕ) (slot : ℕ) (t : Tree) → AlikeChild (tree_child n slot t)
  tree_alike n slot (node r x ps) = node_alike slot (inner (node r x ps)) r n x.span (children_of (n + 1) r ps) (children_alike (n + 1) r ps)

-- an item makes the same demands, and adds the same names where these two choices are compared
record AlikeItem (ch other : Choice) (i : Item) : Type 0 where
  pub asks : (c : Two) (seen : Seen) → Same (i.asks (left c) seen) (i.asks (right c) seen)
  pub adds : (c : Two) → c.first.chosen ≡ ch → c.choice ≡ other → NamesAlike (i.adds (left c)) (i.adds (right c))
  pub named : (c : Two) → i.named (left c) ≡ i.named (right c)

made_alike : (n : ℕ) (c d : Context) (bs : List Bound) → Same (names_made n c bs) (names_made n d bs)
made_alike n c d [] = alone (λ k. refl)
made_alike n c d (b ∷ bs) = alone (made_alike n c d bs).each

-- both contexts inside an item
abbrev inside : ℕ → List Tok → Two → Two
inside n ts c = record { first = inside_item n ts (left c); env = c.env; choice = c.choice; names = c.names }

let_item_alike : {ch other : Choice} (n : ℕ) (ts : List Tok) (is_rec : Bool) (bs : List Binding) → Each AlikeBinding bs → AlikeItem ch other (let_item n ts is_rec bs)
let_item_alike n ts is_rec bs each = record {
  asks = λ c seen. behind (bindings_alike (inside n ts c) is_rec bs each) (made_alike n (left (inside n ts c)) (right (inside n ts c)) (names_of_group bs));
  adds = λ c p q.
      names_too (generalised_in c.first.env (held_by (left (inside n ts c)) bs)) (generalised_in c.env (held_by (right (inside n ts c)) bs)) (left (inside n ts c)) (right (inside n ts c)) (names_of_group bs) alike.no_names;
  named = λ c. refl;
}

no_item_alike : {ch other : Choice} (n : ℕ) → AlikeItem ch other (no_item n)
no_item_alike n = record { asks = λ c seen. alone (λ k. refl); adds = λ c p q. alike.no_names; named = λ c. refl }

exception_item_alike : {ch other : Choice} (n : ℕ) (x : Option ConstructorPart) → IfThere AlikeConstructor x → AlikeItem ch other (exception_item n x)
exception_item_alike n None absent = no_item_alike n
exception_item_alike n (Some x) (there s) = record { asks = λ c seen. exception_alike c x s; adds = λ c p q. exception_added c x; named = λ c. refl }

-- choices that are one agree alike
agree_too : {ch other c d : Choice} → c ≡ ch → d ≡ other → (ds : List DeclarationPart) → AgreeOn ch other ds → AgreeOn c d ds
agree_too {ch} {other} {c} {d} p q ds h = subst (λ x. AgreeOn x d ds) (sym p) (subst (λ y. AgreeOn ch y ds) (sym q) h)

type_item_alike : {ch other : Choice} (n : ℕ) (ds : List DeclarationPart) → AgreeOn ch other ds → Each AlikeDeclaration ds → AlikeItem ch other (type_item n ds)
type_item_alike n ds h each = record { asks = λ c seen. group_alike c seen.types ds each; adds = λ c p q. group_added c ds (agree_too p q ds h); named = λ c. refl }

row_alike : {ch other : Choice} (r : Row) (n : ℕ) (q : Place) (ts : List Tok) (cs : List Child) → is_plain_row r ≡ true → AgreeRow ch other r cs → Each AlikeChild cs → IfThere (AlikeItem ch other) (item_row r n q ts cs)
unfolding item_row
row_alike let_row n q ts cs e a h = there (let_item_alike n ts (is_some (token_in 1 cs)) (bindings_in 2 cs) (let_alike 2 cs h))
row_alike type_row n q ts cs e a h = there (type_item_alike n (filter_map (λ c. c.declaration) (in_slot 2 cs)) a (declarations_alike 2 cs h))
row_alike exception_row n q ts cs e a h = there (exception_item_alike n (then_by (first_of (in_slot 1 cs)) (λ c. c.constructor)) (one_constructor_alike 1 cs h))
row_alike break_row n q ts cs e a h = there (no_item_alike n)
row_alike _ n q ts cs e a h = absurd (no_yes e)

item_told : {ch other : Choice} (n : ℕ) (i : Option Item) → IfThere (AlikeItem ch other) i → IfThere (AlikeItem ch other) (recorded_item n i)
item_told n None absent = absent
item_told n (Some i) (there s) = there (record { asks = λ c seen. at_treated (s.asks c seen); adds = s.adds; named = s.named })

items_alike : {ch other : Choice} (i : ℕ) (ts : List Tree) → has_no_modules ts ≡ true → AreAgreed ch other i ts → Each (AlikeItem ch other) (items_from i ts)
items_alike i [] e a = no_one
items_alike {ch} {other} i (node r x ps ∷ ts) e (agree, agreed) =
    let (first, others) = and_cases (is_plain_row r) (has_no_modules ts) e in
    by (tree_child (item_base i) 0 (node r x ps)).item
    (item_told (item_base i) (item_row r (item_base i) x.span (part_yield (inner (node r x ps))) (children_of (item_base i + 1) r ps))
    (row_alike r (item_base i) x.span (part_yield (inner (node r x ps))) (children_of (item_base i + 1) r ps) first agree (children_alike (item_base i + 1) r ps)))
    (items_alike (i + 1) ts others agreed)
  where
    by : (o : Option Item) → IfThere (AlikeItem ch other) o → Each (AlikeItem ch other) (items_from (i + 1) ts) → Each (AlikeItem ch other) (elim o [ None ↦ items_from (i + 1) ts | Some y ↦ y ∷ items_from (i + 1) ts ])
    by None absent h = h
    by (Some y) (there s) h = one_and s h

-- both contexts behind an item
abbrev behind_item : {ch other : Choice} (c : Two) → c.first.chosen ≡ ch → c.choice ≡ other → (i : Item) → AlikeItem ch other i → Two
behind_item c p q i s = record { first = under (i.adds (left c) ++ c.first.env) (left c); env = i.adds (right c) ++ c.env; choice = c.choice; names = in_front (s.adds c p q) c.names }

items_same : {ch other : Choice} (c : Two) (seen : Seen) → c.first.chosen ≡ ch → c.choice ≡ other → (xs : List Item) → Each (AlikeItem ch other) xs → Same (items_ask (left c) seen xs) (items_ask (right c) seen xs)
items_same c seen p q [] no_one = alone (λ k. refl)
items_same c seen p q (i ∷ xs) (one_and s each) =
    behind (s.asks c seen) (along (λ names. items_ask (left (behind_item c p q i s)) (seen_too seen names) xs) (λ names. items_ask (right (behind_item c p q i s)) (seen_too seen names) xs) (s.named c)
    (items_same (behind_item c p q i s) (seen_too seen (i.named (left c))) p q xs each))

-- What a text asks is the same but for the types in it, whatever types are chosen that agree on what is re-exported.
same_asked : (env : Environment) (text : List Tree) → has_no_modules text ≡ true → (kept : Site → Bool) (ch other : Choice) → AreAgreed ch other 1 text → Same (conditions_of env text kept ch) (conditions_of env text kept other)
same_asked env text e kept ch other agreed = items_same (record { first = outermost env kept ch; env = env; choice = other; names = as_one env }) no_names refl refl (items_of text) (items_alike 1 text e agreed)

-- So which demands a text without modules makes doesn't depend on the types that are chosen but for the origins of the record types that it re-exports.
pub plain_ask_alike : (env : Environment) (text : List Tree) → has_no_modules text ≡ true → (kept : Site → Bool) (ch other : Choice) → AreAgreed ch other 1 text → judgements kept (conditions_of env text kept ch) ≡ judgements kept (conditions_of env text kept other)
plain_ask_alike env text e kept ch other agreed = judged_same (same_asked env text e kept ch other agreed) kept

-- Nor do the places and kinds of those that aren't kept, and the messages of those on names.
pub plain_refused_alike : (env : Environment) (text : List Tree) → has_no_modules text ≡ true → (kept : Site → Bool) (ch other : Choice) → AreAgreed ch other 1 text → refused_of kept (conditions_of env text kept ch) ≡ refused_of kept (conditions_of env text kept other)
plain_refused_alike env text e kept ch other agreed = refused_same (same_asked env text e kept ch other agreed) kept

-- The types of choices that are renamings of one another, as principal ones are, have the same origins.
pub renamed_ask_alike : (env : Environment) (text : List Tree) → has_no_modules text ≡ true → (kept : Site → Bool) (ch other : Choice) → AreRenamedChoices ch other → judgements kept (conditions_of env text kept ch) ≡ judgements kept (conditions_of env text kept other)
renamed_ask_alike env text e kept ch other r = plain_ask_alike env text e kept ch other (renamed_agree r 1 text)

pub renamed_refused_alike : (env : Environment) (text : List Tree) → has_no_modules text ≡ true → (kept : Site → Bool) (ch other : Choice) → AreRenamedChoices ch other → refused_of kept (conditions_of env text kept ch) ≡ refused_of kept (conditions_of env text kept other)
renamed_refused_alike env text e kept ch other r = plain_refused_alike env text e kept ch other (renamed_agree r 1 text)

-- In a text without re-exports any types may be chosen.
pub new_ask_alike : (env : Environment) (text : List Tree) → has_new_types text ≡ true → (kept : Site → Bool) (ch other : Choice) → judgements kept (conditions_of env text kept ch) ≡ judgements kept (conditions_of env text kept other)
new_ask_alike env text e kept ch other = plain_ask_alike env text (new_plain text e) kept ch other (new_agree ch other 1 text e)

pub new_refused_alike : (env : Environment) (text : List Tree) → has_new_types text ≡ true → (kept : Site → Bool) (ch other : Choice) → refused_of kept (conditions_of env text kept ch) ≡ refused_of kept (conditions_of env text kept other)
new_refused_alike env text e kept ch other = plain_refused_alike env text (new_plain text e) kept ch other (new_agree ch other 1 text e)

-- A text of `let`, exceptions and `;;` is such a text,
pub values_ask_alike : (env : Environment) (text : List Tree) → has_values_alone text ≡ true → (kept : Site → Bool) (ch other : Choice) → judgements kept (conditions_of env text kept ch) ≡ judgements kept (conditions_of env text kept other)
values_ask_alike env text e = new_ask_alike env text (values_new text e)

pub values_refused_alike : (env : Environment) (text : List Tree) → has_values_alone text ≡ true → (kept : Site → Bool) (ch other : Choice) → refused_of kept (conditions_of env text kept ch) ≡ refused_of kept (conditions_of env text kept other)
values_refused_alike env text e = new_refused_alike env text (values_new text e)

-- and so is one of `let` and `;;`.
pub asks_alike : (env : Environment) (text : List Tree) → has_lets_alone text ≡ true → (kept : Site → Bool) (ch other : Choice) → judgements kept (conditions_of env text kept ch) ≡ judgements kept (conditions_of env text kept other)
asks_alike env text e = values_ask_alike env text (lets_values text e)

pub refused_alike : (env : Environment) (text : List Tree) → has_lets_alone text ≡ true → (kept : Site → Bool) (ch other : Choice) → refused_of kept (conditions_of env text kept ch) ≡ refused_of kept (conditions_of env text kept other)
refused_alike env text e = values_refused_alike env text (lets_values text e)
