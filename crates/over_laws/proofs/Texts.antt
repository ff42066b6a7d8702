-- In a text of `let`, exceptions and `;;` each node is treated in the first environment with values and exceptions in front.
use Rattle.std.proofs.Common.{◌≡◌, ℕ, ◌+◌, Bool, true, List, [], ◌∷◌, ◌++◌, Option, Some, None, option_map, refl}
use Rattle.token_model.specs.Kinds.{Tok}
use Rattle.tree_model.specs.Trees.{Place, Tree, Forest, Part, node, no_parts, part, taken, inner, missing, part_size, part_yield}
use Rattle.tree_model.specs.Rows.{Row, binding_row, case_row, ffield_row, qfield_row, con_row, let_row, exception_row, break_row}
use Rattle.type_model.specs.Types.{Typ}
use Rattle.signature_model.specs.Declarations.{in_text}
use Rattle.signature_model.specs.Entries.{Environment, entry, an_exception}
use Rattle.std.specs.Prelude.{slice_get}
use Rattle.typing_model.specs.Demands.{Site, treated, environment_of}
use Rattle.typing_model.specs.Contexts.{Context, Choice, Bound, parameters, type_at, under, generalised_in}
use Rattle.typing_model.specs.Declarations.{read_optional, entries_of_exception}
use Rattle.typing_model.specs.Parts.{Expression, Pattern, TypeExpression, ConstructorPart, Item, Seen, seen_too, no_names, Child, token_in, path_in, no_expression_at, no_pattern_at, no_type_at, types_in, expression_in, expressions_in, pattern_in, patterns_in, first_of, place_of}
use Rattle.typing_model.specs.Bindings.{names_of_group, held_by}
use Rattle.typing_model.specs.Expressions.{expression_row, bindings_in, is_some}
use Rattle.typing_model.specs.Patterns.{pattern_row}
use Rattle.typing_model.specs.TypeExpressions.{type_row}
use Rattle.typing_model.specs.Items.{inside_item, names_made, exception_item, items_ask}
use Rattle.typing_model.specs.Modules.{item_row}
use Rattle.typing_model.specs.Meanings.{binding_of, case_of, field_of, field_pattern_of, constructor_of, recorded_expression, recorded_pattern, recorded_type, recorded_item, node_child, leaf_child, children_of, child_of, tree_child, item_base, items_from}
use Rattle.typing_model.specs.Typings.{outermost, conditions_of, conditions_before}
use Rattle.typing_model.specs.Plain.{has_lets_alone, is_value_row, has_values_alone}
use Rattle.typing_laws.proofs.Bools.{no_yes, and_cases}
use Rattle.typing_laws.proofs.Settled.{lets_values}
use Rattle.typing_laws.proofs.Steady.{Each, no_one, one_and, IfThere, absent, there}
use Rattle.typed_model.specs.Over.{AreNoTypes, IsOver}
use Rattle.typed_model.specs.Shown.{IsToldTyped}
use Rattle.over_laws.proofs.Told.{Around, IsIn, over_itself, over_more, values_with, Told, nothing_told, join, told, told_typed, found_over, before_over, typed_over}
use Rattle.over_laws.proofs.Types.{ToldType, no_type_told}
use Rattle.over_laws.proofs.Patterns.{ToldPattern, ToldFieldPattern, no_pattern_told, field_pattern_told}
use Rattle.over_laws.proofs.Expressions.{ToldExpression, no_expression_told}
use Rattle.over_laws.proofs.Records.{ToldField, ToldCase, field_told, case_told}
use Rattle.over_laws.proofs.Bindings.{ToldBinding, binding_told, bindings_told}
use Rattle.over_laws.proofs.Rows.{ToldConstructor, ToldChild, first_constructor, patterns_slot, first_expression, one_expression_slot, first_pattern, one_pattern_slot, first_type_slot, bindings_slot, expression_row_told, pattern_row_told, type_row_told}

-- a part that tells its own environment first
expression_told : {w : Around} (n : ℕ) (e : Expression) → ToldExpression w e → ToldExpression w (recorded_expression n e)
expression_told n e s = record { types = λ c o. told_typed o ((s.types c o)); negates = λ c o. told_typed o ((s.negates c o)) }

pattern_told : {w : Around} (n : ℕ) (p : Pattern) → ToldPattern w p → ToldPattern w (recorded_pattern n p)
pattern_told n p s = record { matches = λ c seen o. told_typed o ((s.matches c seen o)) }

type_told : {w : Around} (n : ℕ) (t : TypeExpression) → ToldType w t → ToldType w (recorded_type n t)
type_told n t s = record { reads = λ c o. told o (s.reads c o); reads_group = λ c o. told o (s.reads_group c o) }

-- the parts that are no node of a sort of their own
binding_kind : {w : Around} (r : Row) (n : ℕ) (cs : List Child) → Each (ToldChild w) cs → IfThere (ToldBinding w) (binding_of r n cs)
binding_kind binding_row n cs h = there (binding_told (record { node = n; pattern = pattern_in 0 cs; parameters = patterns_in 1 cs; annotation = first_of (types_in 3 cs); body = expression_in 5 cs })
    (one_pattern_slot n h 0) (patterns_slot n h 1) (first_type_slot n h 3) (one_expression_slot n h 5))
binding_kind _ n cs h = absent

case_kind : {w : Around} (r : Row) (n : ℕ) (cs : List Child) → Each (ToldChild w) cs → IfThere (ToldCase w) (case_of r n cs)
case_kind case_row n cs h = there (case_told (record { node = n; pattern = pattern_in 0 cs; guard = first_of (expressions_in 2 cs); body = expression_in 4 cs }) (one_pattern_slot n h 0) (first_expression n h 2) (one_expression_slot n h 4))
case_kind _ n cs h = absent

field_kind : {w : Around} (r : Row) (n : ℕ) (cs : List Child) → Each (ToldChild w) cs → IfThere (ToldField w) (field_of r n cs)
field_kind ffield_row n cs h = there (field_told (record { node = n; label = path_in 0 1 cs; value = first_of (expressions_in 3 cs) }) (first_expression n h 3))
field_kind _ n cs h = absent

field_pattern_kind : {w : Around} (r : Row) (n : ℕ) (cs : List Child) → Each (ToldChild w) cs → IfThere (ToldFieldPattern w) (field_pattern_of r n cs)
field_pattern_kind qfield_row n cs h = there (field_pattern_told (record { node = n; label = path_in 0 1 cs; pattern = first_of (patterns_in 3 cs) }) (first_pattern n h 3))
field_pattern_kind _ n cs h = absent

constructor_kind : {w : Around} (r : Row) (n : ℕ) (cs : List Child) → Each (ToldChild w) cs → IfThere (ToldConstructor w) (constructor_of r n cs)
constructor_kind con_row n cs h = there (record { argument = first_type_slot n h 2 })
constructor_kind _ n cs h = absent

-- a node over its parts, and a part that is none
node_told : {w : Around} (slot : ℕ) (p : Part) (r : Row) (n : ℕ) (q : Place) (cs : List Child) → Each (ToldChild w) cs → ToldChild w (node_child slot p r n q cs)
node_told slot p r n q cs h = record {
  expression = expression_told n (expression_row r n q cs) (expression_row_told n h r q);
  pattern = pattern_told n (pattern_row r n q cs) (pattern_row_told n h r q);
  type_expression = type_told n (type_row r n q cs) (type_row_told n h r q);
  binding = binding_kind r n cs h;
  case = case_kind r n cs h;
  field = field_kind r n cs h;
  field_pattern = field_pattern_kind r n cs h;
  constructor = constructor_kind r n cs h;
}

leaf_told : {w : Around} (slot : ℕ) (p : Part) (n : ℕ) (q : Place) → ToldChild w (leaf_child slot p n q)
leaf_told slot p n q = record {
  expression = expression_told n (no_expression_at n q) (no_expression_told n q);
  pattern = pattern_told n (no_pattern_at n q) (no_pattern_told n q);
  type_expression = type_told n (no_type_at n q) (no_type_told n q);
  binding = absent;
  case = absent;
  field = absent;
  field_pattern = absent;
  constructor = absent;
}

mutual
  children_told : {w : Around} (n : ℕ) (r : Row) (ps : Forest) → Each (ToldChild w) (children_of n r ps)
  children_told n r no_parts = no_one
  children_told n r (part slot p ps) = one_and (child_told n slot p) (children_told (n + part_size r slot p) r ps)

  child_told : {w : Around} (n slot : ℕ) (p : Part) → ToldChild w (child_of n slot p)
  child_told n slot (taken t) = leaf_told slot (taken t) n (place_of t)
  child_told n slot (inner t) = tree_told n slot t
  child_told n slot (missing p) = leaf_told slot (missing p) n p

  tree_told : {w : Around} (n slot : ℕ) (t : Tree) → ToldChild w (tree_child n slot t)
  tree_told n slot (node r x ps) = node_told slot (inner (node r x ps)) r n x.span (children_of (n + 1) r ps) (children_told (n + 1) r ps)

-- an item tells environments with values and exceptions in front where it stands in one, and adds no types
record ToldItem (w : Around) (i : Item) : Type 0 where
  pub asks : (c : Context) (seen : Seen) → IsIn w c → Told w (i.asks c seen)
  pub adds : (c : Context) → AreNoTypes (i.adds c)

made_told : {w : Around} (n : ℕ) (c : Context) (bs : List Bound) → Told w (names_made n c bs)
made_told n c [] = nothing_told
made_told n c (b ∷ bs) = record { over = (made_told n c bs).over; first = tt }

optional_told : {w : Around} (c : Context) (o : IsIn w c) {t : Option TypeExpression} → IfThere (ToldType w) t → Told w (read_optional c t)
optional_told c o absent = nothing_told
optional_told c o (there s) = s.reads c o

exception_added : (c : Context) (k : ConstructorPart) → AreNoTypes (entries_of_exception c k)
exception_added c k = by k.name
  where
    by : (o : Option Tok) → AreNoTypes (elim o [ None ↦ [] | Some t ↦ entry t.name (in_text (place_of t)) (an_exception (option_map (λ a. type_at c a.node) k.argument)) ∷ [] ])
    by None = tt
    by (Some t) = (tt, tt)

exception_told : {w : Around} (n : ℕ) {k : Option ConstructorPart} → IfThere (ToldConstructor w) k → ToldItem w (exception_item n k)
exception_told n absent = record { asks = λ c seen o. nothing_told; adds = λ c. tt }
exception_told n (there {x = k} s) = record { asks = λ c seen o. told o (optional_told (record c { variables = parameters [] }) (record { over = o.over; chosen = o.chosen }) s.argument); adds = λ c. exception_added c k }

row_told : {w : Around} (r : Row) (n : ℕ) (q : Place) (ts : List Tok) (cs : List Child) → is_value_row r ≡ true → Each (ToldChild w) cs → IfThere (ToldItem w) (item_row r n q ts cs)
unfolding item_row
row_told let_row n q ts cs e h = there (record {
  asks = λ c seen o. join (bindings_told (inside_item n ts c) (record { over = o.over; chosen = o.chosen }) (is_some (token_in 1 cs)) (bindings_slot n h 2)) (made_told n (inside_item n ts c) (names_of_group (bindings_in 2 cs)));
  adds = λ c. values_with (generalised_in c.env (held_by (inside_item n ts c) (bindings_in 2 cs))) (inside_item n ts c) (names_of_group (bindings_in 2 cs)) [] tt;
})
row_told exception_row n q ts cs e h = there (exception_told n (first_constructor 1 cs h))
row_told break_row n q ts cs e h = there (record { asks = λ c seen o. nothing_told; adds = λ c. tt })
row_told _ n q ts cs e h = absurd (no_yes e)

item_told : {w : Around} (n : ℕ) (i : Option Item) → IfThere (ToldItem w) i → IfThere (ToldItem w) (recorded_item n i)
item_told n None absent = absent
item_told n (Some i) (there s) = there (record { asks = λ c seen o. told o (s.asks c seen o); adds = s.adds })

items_told : {w : Around} (k : ℕ) (ts : List Tree) → has_values_alone ts ≡ true → Each (ToldItem w) (items_from k ts)
items_told k [] e = no_one
items_told {w} k (node r x ps ∷ ts) e =
    let (first, others) = and_cases (is_value_row r) (has_values_alone ts) e in
    by (items_told (k + 1) ts others) (tree_child (item_base k) 0 (node r x ps)).item
    (item_told (item_base k) (item_row r (item_base k) x.span (part_yield (inner (node r x ps))) (children_of (item_base k + 1) r ps))
    (row_told r (item_base k) x.span (part_yield (inner (node r x ps))) (children_of (item_base k + 1) r ps) first (children_told (item_base k + 1) r ps)))
  where
    by : Each (ToldItem w) (items_from (k + 1) ts) → (o : Option Item) → IfThere (ToldItem w) o → Each (ToldItem w) (elim o [ None ↦ items_from (k + 1) ts | Some y ↦ y ∷ items_from (k + 1) ts ])
    by later None absent = later
    by later (Some y) (there s) = one_and s later

asked_told : {w : Around} (c : Context) (seen : Seen) (o : IsIn w c) {xs : List Item} → Each (ToldItem w) xs → Told w (items_ask c seen xs)
asked_told c seen o no_one = nothing_told
asked_told c seen o (one_and {x = i} s rest) = join (s.asks c seen o) (asked_told (under (i.adds c ++ c.env) c) (seen_too seen (i.named c)) (over_more c (i.adds c) (s.adds c) o) rest)

-- what a text tells, in its first environment
text_told : (env : Environment) (items : List Tree) (kept : Site → Bool) (ch : Choice) → has_values_alone items ≡ true → Told (record { env = env; types = ch.type_at }) (conditions_of env items kept ch)
text_told env items kept ch values = asked_told (outermost env kept ch) no_names (record { over = over_itself; chosen = refl }) (items_told 1 items values)

-- In a text of `let`, exceptions and `;;` each environment in which a node is treated is the first one with values and exceptions in front.
pub values_tell_over : (env : Environment) (items : List Tree) (kept : Site → Bool) (ch : Choice) → has_values_alone items ≡ true → (n : ℕ) (E : Environment) → environment_of n (conditions_of env items kept ch) ≡ Some E → IsOver env E
values_tell_over env items kept ch values n E e = found_over (record { env = env; types = ch.type_at }) n E (conditions_of env items kept ch) (text_told env items kept ch values).over e

-- So is each in which a node is treated before the demand of a site.
pub values_before_over : (env : Environment) (items : List Tree) (kept : Site → Bool) (ch : Choice) → has_values_alone items ≡ true → (s : Site) (n : ℕ) (E : Environment) (k : ℕ) → slice_get (conditions_before s (conditions_of env items kept ch)) k ≡ Some (treated n E) → IsOver env E
values_before_over env items kept ch values s n E k e = before_over (record { env = env; types = ch.type_at }) n E s (conditions_of env items kept ch) (text_told env items kept ch values).over k e

-- And so is each in which a node is told with its type.
pub values_tell_typed_over : (env : Environment) (items : List Tree) (kept : Site → Bool) (ch : Choice) → has_values_alone items ≡ true → (n : ℕ) (E : Environment) (t : Typ) → IsToldTyped n E t (conditions_of env items kept ch) → IsOver env E
values_tell_typed_over env items kept ch values n E t h = (typed_over (record { env = env; types = ch.type_at }) n E t (conditions_of env items kept ch) (text_told env items kept ch values).over h).0

-- The type with which a node is told is the one that is chosen for it.
pub values_tell_own : (env : Environment) (items : List Tree) (kept : Site → Bool) (ch : Choice) → has_values_alone items ≡ true → (n : ℕ) (E : Environment) (t : Typ) → IsToldTyped n E t (conditions_of env items kept ch) → t ≡ ch.type_at n
values_tell_own env items kept ch values n E t h = (typed_over (record { env = env; types = ch.type_at }) n E t (conditions_of env items kept ch) (text_told env items kept ch values).over h).1

-- A text of `let` and `;;` is such a text.
pub lets_tell_over : (env : Environment) (items : List Tree) (kept : Site → Bool) (ch : Choice) → has_lets_alone items ≡ true → (n : ℕ) (E : Environment) → environment_of n (conditions_of env items kept ch) ≡ Some E → IsOver env E
lets_tell_over env items kept ch lets = values_tell_over env items kept ch (lets_values items lets)

pub lets_tell_typed_over : (env : Environment) (items : List Tree) (kept : Site → Bool) (ch : Choice) → has_lets_alone items ≡ true → (n : ℕ) (E : Environment) (t : Typ) → IsToldTyped n E t (conditions_of env items kept ch) → IsOver env E
lets_tell_typed_over env items kept ch lets = values_tell_typed_over env items kept ch (lets_values items lets)

pub lets_tell_own : (env : Environment) (items : List Tree) (kept : Site → Bool) (ch : Choice) → has_lets_alone items ≡ true → (n : ℕ) (E : Environment) (t : Typ) → IsToldTyped n E t (conditions_of env items kept ch) → t ≡ ch.type_at n
lets_tell_own env items kept ch lets = values_tell_own env items kept ch (lets_values items lets)
