-- What two sets of kept demands ask of a text goes together: which demands are made is decided by those before.
use Rattle.std.proofs.Common.{ℕ, ◌+◌, List, [], ◌∷◌, ◌++◌, Option, Some, None}
use Rattle.tree_model.specs.Trees.{Place, Tree, Forest, Part, node, no_parts, part, taken, inner, missing, part_size, part_yield}
use Rattle.tree_model.specs.Rows.{Row, binding_row, case_row, ffield_row, qfield_row, con_row, label_row, decl_row, with_row}
use Rattle.signature_model.specs.Entries.{Environment}
use Rattle.typing_model.specs.Demands.{Condition}
use Rattle.typing_model.specs.Contexts.{Context, Choice, tell, tell_typed}
use Rattle.typing_model.specs.Parts.{Form, a_constructor, a_path, a_float, a_false, a_field, no_expression, other, Expression, Pattern, TypeExpression, Item, ModuleExpression, ModuleType, Child, in_slot, no_expression_at, no_pattern_at, no_type_at, no_module_at, no_module_type_at, first_of, types_in, expressions_in, patterns_in, place_of, no_names}
use Rattle.typing_model.specs.Expressions.{expression_row}
use Rattle.typing_model.specs.Patterns.{pattern_row}
use Rattle.typing_model.specs.TypeExpressions.{type_row}
use Rattle.typing_model.specs.Modules.{item_row, signature_item_row, module_expression_row, module_type_row}
use Rattle.typing_model.specs.Meanings.{binding_of, case_of, field_of, field_pattern_of, constructor_of, label_of, declaration_of, recorded_expression, recorded_pattern, recorded_type, recorded_item, recorded_module, recorded_module_type, with_clause_of, node_child, leaf_child, children_of, child_of, tree_child, item_base, items_from, items_of}
use Rattle.typing_model.specs.Typings.{outermost, conditions_of}
use Rattle.typing_laws.proofs.Together.{Kept, keeping, Together, at_treated, Agreed, past_treated, past_known}
use Rattle.typing_laws.proofs.Whole as whole
use Rattle.typing_laws.proofs.Steady.{Each, no_one, one_and, IfThere, absent, there, WholeType, SteadyType, IsFormSteady, SteadyExpression, SteadyPattern, SteadyBinding, SteadyCase, SteadyField, SteadyFieldPattern, SteadyConstructor, SteadyLabel, SteadyRight, SteadyDeclaration, SteadyModule, SteadyModuleType, SteadyClause, SteadyItem, SteadyChild}
use Rattle.typing_laws.proofs.SteadyTypes.{no_type_steady}
use Rattle.typing_laws.proofs.WholeTypes.{no_type_whole}
use Rattle.typing_laws.proofs.SteadyPatterns.{no_pattern_steady}
use Rattle.typing_laws.proofs.SteadyExpressions.{no_expression_steady}
use Rattle.typing_laws.proofs.SteadyItems.{items_alike}
use Rattle.typing_laws.proofs.SteadyModules.{no_module_steady, no_module_type_steady}
use Rattle.typing_laws.proofs.SteadyRows.{expressions_steady, patterns_steady, types_steady, types_whole, expression_steady, one_pattern_steady, one_type_steady, one_type_whole, first_there, then_there, first_steady, expression_row_steady, pattern_row_steady, type_row_steady, type_row_whole, told_row_steady, right_side_steady, item_steady, signature_item_steady, module_row_steady, module_type_row_steady}

-- a part that tells its environment first
further_form : (k m : Kept) (typed after : Context → List Condition) (f : Form) → ((c : Context) → Agreed k m (after (keeping k c)) → Agreed k m (typed (keeping k c))) → IsFormSteady k m typed f → IsFormSteady k m after f
further_form k m typed after (a_constructor p) h s = tt
further_form k m typed after (a_path p) h s = tt
further_form k m typed after a_float h s = tt
further_form k m typed after a_false h s = tt
further_form k m typed after (a_field p l) h s = λ c a. s c (h c a)
further_form k m typed after no_expression h s = tt
further_form k m typed after other h s = tt

behind_told : {k m : Kept} (n : ℕ) (c : Context) (xs : List Condition) → Agreed k m (tell_typed n c ++ xs) → Agreed k m xs
behind_told n c xs (past_treated (past_known a)) = a

expression_told : {k m : Kept} (n : ℕ) (e : Expression) → SteadyExpression k m e → SteadyExpression k m (recorded_expression n e)
expression_told {k} {m} n e s = record {
  types = λ c. whole.at_treated (whole.at_known (s.types c));
  negates = λ c. whole.at_treated (whole.at_known (s.negates c));
  values = s.values;
  forms = further_form k m e.typed (λ c. tell_typed n c ++ e.typed c) e.form (λ c a. behind_told n (keeping k c) (e.typed (keeping k c)) a) s.forms;
}

pattern_told : {k m : Kept} (n : ℕ) (p : Pattern) → SteadyPattern k m p → SteadyPattern k m (recorded_pattern n p)
pattern_told n p s = record { binds = s.binds; matches = λ c seen. whole.at_treated (whole.at_known (s.matches c seen)) }

type_told : {k m : Kept} (n : ℕ) (t : TypeExpression) → SteadyType k m t → SteadyType k m (recorded_type n t)
type_told n t s = record { reads = λ c E F h. at_treated (s.reads c E F h); reads_group = λ c E F h. at_treated (s.reads_group c E F h) }

type_whole : {k m : Kept} (n : ℕ) (t : TypeExpression) → WholeType k m t → WholeType k m (recorded_type n t)
type_whole n t s = record { reads = λ c. whole.at_treated (s.reads c); reads_group = λ c. whole.at_treated (s.reads_group c) }

behind_tell : {k m : Kept} (n : ℕ) (c : Context) (xs : List Condition) → Agreed k m (tell n c ++ xs) → Agreed k m xs
behind_tell n c xs (past_treated a) = a

item_told : {k m : Kept} (n : ℕ) (i : Option Item) → IfThere (SteadyItem k m) i → IfThere (SteadyItem k m) (recorded_item n i)
item_told n None absent = absent
item_told {k} {m} n (Some i) (there s) = there (record {
  asks = λ c seen. at_treated (s.asks c seen);
  adds = λ c seen a. s.adds c seen (behind_tell n (keeping k c) (i.asks (keeping k c) seen) a);
  components = λ c seen a. s.components c seen (behind_tell n (keeping k c) (i.asks (keeping k c) seen) a);
  named = λ c seen a. s.named c seen (behind_tell n (keeping k c) (i.asks (keeping k c) seen) a);
  makes = λ c seen a. s.makes c seen (behind_tell n (keeping k c) (i.asks (keeping k c) seen) a);
})

module_told : {k m : Kept} (n : ℕ) (x : ModuleExpression) → SteadyModule k m x → SteadyModule k m (recorded_module n x)
module_told {k} {m} n x s = record {
  asks = λ c. at_treated (s.asks c);
  signs = λ c a. s.signs c (behind_tell n (keeping k c) (x.asks (keeping k c)) a);
  makes = λ c a. s.makes c (behind_tell n (keeping k c) (x.asks (keeping k c)) a);
}

module_type_told : {k m : Kept} (n : ℕ) (y : ModuleType) → SteadyModuleType k m y → SteadyModuleType k m (recorded_module_type n y)
module_type_told {k} {m} n y s = record {
  asks = λ c. at_treated (s.asks c);
  templates = λ c a. s.templates c (behind_tell n (keeping k c) (y.asks (keeping k c)) a);
}

-- the parts that are no node of a sort of their own
binding_steady : {k m : Kept} (r : Row) (n : ℕ) (cs : List Child) → Each (SteadyChild k m) cs → IfThere (SteadyBinding k m) (binding_of r n cs)
binding_steady binding_row n cs h = there (record {
  pattern = one_pattern_steady 0 cs h;
  parameters = patterns_steady 1 cs h;
  annotation = first_there (types_in 3 cs) (types_whole 3 cs h);
  body = expression_steady 5 cs h;
})
binding_steady _ n cs h = absent

case_steady : {k m : Kept} (r : Row) (n : ℕ) (cs : List Child) → Each (SteadyChild k m) cs → IfThere (SteadyCase k m) (case_of r n cs)
case_steady case_row n cs h = there (record { pattern = one_pattern_steady 0 cs h; guard = first_there (expressions_in 2 cs) (expressions_steady 2 cs h); body = expression_steady 4 cs h })
case_steady _ n cs h = absent

field_steady : {k m : Kept} (r : Row) (n : ℕ) (cs : List Child) → Each (SteadyChild k m) cs → IfThere (SteadyField k m) (field_of r n cs)
field_steady ffield_row n cs h = there (record { value = first_there (expressions_in 3 cs) (expressions_steady 3 cs h) })
field_steady _ n cs h = absent

field_pattern_steady : {k m : Kept} (r : Row) (n : ℕ) (cs : List Child) → Each (SteadyChild k m) cs → IfThere (SteadyFieldPattern k m) (field_pattern_of r n cs)
field_pattern_steady qfield_row n cs h = there (record { pattern = first_there (patterns_in 3 cs) (patterns_steady 3 cs h) })
field_pattern_steady _ n cs h = absent

constructor_steady : {k m : Kept} (r : Row) (n : ℕ) (cs : List Child) → Each (SteadyChild k m) cs → IfThere (SteadyConstructor k m) (constructor_of r n cs)
constructor_steady con_row n cs h = there (record { argument = first_there (types_in 2 cs) (types_steady 2 cs h); whole_argument = first_there (types_in 2 cs) (types_whole 2 cs h) })
constructor_steady _ n cs h = absent

label_steady : {k m : Kept} (r : Row) (n : ℕ) (cs : List Child) → Each (SteadyChild k m) cs → IfThere (SteadyLabel k m) (label_of r n cs)
label_steady label_row n cs h = there (record { body = one_type_steady 3 cs h; whole_body = one_type_whole 3 cs h })
label_steady _ n cs h = absent

declaration_steady : {k m : Kept} (r : Row) (n : ℕ) (cs : List Child) → Each (SteadyChild k m) cs → IfThere (SteadyDeclaration k m) (declaration_of r n cs)
declaration_steady {k} {m} decl_row n cs h = there (record { right = then_there (SteadyRight k m) (first_of (in_slot 2 cs)) (λ c. c.right_side) (λ c g. g.right_side) (first_steady 2 cs h) })
declaration_steady _ n cs h = absent

clause_steady : {k m : Kept} (r : Row) (n : ℕ) (cs : List Child) → Each (SteadyChild k m) cs → IfThere (SteadyClause k m) (with_clause_of r n cs)
clause_steady with_row n cs h = there (record { body = one_type_steady 3 cs h })
clause_steady _ n cs h = absent

-- a node over steady parts, and a part that is none
node_steady : {k m : Kept} (slot : ℕ) (p : Part) (r : Row) (n : ℕ) (q : Place) (cs : List Child) → Each (SteadyChild k m) cs → SteadyChild k m (node_child slot p r n q cs)
node_steady slot p r n q cs h = record {
  expression = expression_told n (expression_row r n q cs) (expression_row_steady r n q cs h);
  pattern = pattern_told n (pattern_row r n q cs) (pattern_row_steady r n q cs h);
  type_expression = type_told n (type_row r n q cs) (type_row_steady r n q cs h);
  whole_type = type_whole n (type_row r n q cs) (type_row_whole r n q cs h);
  binding = binding_steady r n cs h;
  case = case_steady r n cs h;
  field = field_steady r n cs h;
  field_pattern = field_pattern_steady r n cs h;
  constructor = constructor_steady r n cs h;
  label = label_steady r n cs h;
  told = told_row_steady r cs h;
  right_side = right_side_steady r n cs h;
  declaration = declaration_steady r n cs h;
  item = item_told n (item_row r n q (part_yield p) cs) (item_steady r n q (part_yield p) cs h);
  signature_item = item_told n (signature_item_row r n q (part_yield p) cs) (signature_item_steady r n q (part_yield p) cs h);
  module_expression = module_told n (module_expression_row r n q cs) (module_row_steady r n q cs h);
  module_type = module_type_told n (module_type_row r n cs) (module_type_row_steady r n cs h);
  with_clause = clause_steady r n cs h;
}

leaf_steady : {k m : Kept} (slot : ℕ) (p : Part) (n : ℕ) (q : Place) → SteadyChild k m (leaf_child slot p n q)
leaf_steady slot p n q = record {
  expression = expression_told n (no_expression_at n q) (no_expression_steady n q);
  pattern = pattern_told n (no_pattern_at n q) (no_pattern_steady n q);
  type_expression = type_told n (no_type_at n q) (no_type_steady n q);
  whole_type = type_whole n (no_type_at n q) (no_type_whole n q);
  binding = absent;
  case = absent;
  field = absent;
  field_pattern = absent;
  constructor = absent;
  label = absent;
  told = absent;
  right_side = absent;
  declaration = absent;
  item = absent;
  signature_item = absent;
  module_expression = module_told n (no_module_at n q) (no_module_steady n q);
  module_type = module_type_told n (no_module_type_at n) (no_module_type_steady n);
  with_clause = absent;
}

mutual
  pub children_steady : {k m : Kept} (n : ℕ) (r : Row) (ps : Forest) → Each (SteadyChild k m) (children_of n r ps)
  children_steady n r no_parts = no_one
  children_steady n r (part slot p ps) = one_and (child_steady n slot p) (children_steady (n + part_size r slot p) r ps)

  pub child_steady : {k m : Kept} (n : ℕ) (slot : ℕ) (p : Part) → SteadyChild k m (child_of n slot p)
  child_steady n slot (taken t) = leaf_steady slot (taken t) n (place_of t)
  child_steady n slot (inner t) = tree_steady n slot t
  child_steady n slot (missing p) = leaf_steady slot (missing p) n p

  pub tree_steady : {k m : Kept} (n : ℕ) (slot : ℕ) (t : Tree) → SteadyChild k m (tree_child n slot t)
  tree_steady n slot (node r x ps) = node_steady slot (inner (node r x ps)) r n x.span (children_of (n + 1) r ps) (children_steady (n + 1) r ps)

items_steady : {k m : Kept} (i : ℕ) (ts : List Tree) → Each (SteadyItem k m) (items_from i ts)
items_steady i [] = no_one
items_steady {k} {m} i (t ∷ ts) = by (tree_child (item_base i) 0 t).item (tree_steady (item_base i) 0 t).item (items_steady (i + 1) ts)
  where
    by : (o : Option Item) → IfThere (SteadyItem k m) o → Each (SteadyItem k m) (items_from (i + 1) ts) → Each (SteadyItem k m) (elim o [ None ↦ items_from (i + 1) ts | Some x ↦ x ∷ items_from (i + 1) ts ])
    by None absent h = h
    by (Some x) (there s) h = one_and s h

-- the whole text
pub text_together : {k m : Kept} (env : Environment) (text : List Tree) (choice : Choice) → Together k m (conditions_of env text k choice) (conditions_of env text m choice)
text_together {k} env text choice = items_alike (outermost env k choice) no_names (items_of text) (items_steady 1 text)
