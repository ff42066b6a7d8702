-- What the trees of a text mean: each node by its row, over what its parts mean. (The files of the rows name the sections of the OCaml manual.)
use Rattle.std.specs.Prelude.{ℕ, ◌+◌, ◌*◌, ◌^◌, List, [], ◌∷◌, ◌++◌, Option, Some, None}
use Rattle.tree_model.specs.Rows.{Row, binding_row, case_row, ffield_row, qfield_row, head_row, con_row, label_row, decl_row, with_row}
use Rattle.tree_model.specs.Trees.{Place, Tree, Forest, Part, node, no_parts, part, taken, inner, missing, part_size, part_yield}
use Rattle.typing_model.specs.Contexts.{tell, tell_typed}
use Rattle.typing_model.specs.Names.{then_by}
use Rattle.typing_model.specs.Parts.{Expression, Pattern, TypeExpression, Binding, Case, Field, FieldPattern, Head, ConstructorPart, LabelPart, DeclarationPart, Item, ModuleExpression, ModuleType, WithClause, no_module_at, no_module_type_at, Child, in_slot, type_in, path_in, no_expression_at, no_pattern_at, no_type_at, expressions_in, expression_in, patterns_in, pattern_in, types_in, first_of, place_of}
use Rattle.typing_model.specs.Patterns.{pattern_row}
use Rattle.typing_model.specs.TypeExpressions.{type_row}
use Rattle.typing_model.specs.Expressions.{expression_row}
use Rattle.typing_model.specs.Declarations as declarations
use Rattle.typing_model.specs.Declarations.{told_row, right_side_row, declaration_row}
use Rattle.typing_model.specs.Modules.{item_row, signature_item_row, module_expression_row, module_type_row}

-- a binding, by its parts
abbrev pub binding_of : Row → ℕ → List Child → Option Binding
binding_of binding_row n cs = Some (record { node = n; pattern = pattern_in 0 cs; parameters = patterns_in 1 cs; annotation = first_of (types_in 3 cs); body = expression_in 5 cs })
binding_of _ n cs = None

-- a case, by its parts
abbrev pub case_of : Row → ℕ → List Child → Option Case
case_of case_row n cs = Some (record { node = n; pattern = pattern_in 0 cs; guard = first_of (expressions_in 2 cs); body = expression_in 4 cs })
case_of _ n cs = None

-- a field of an expression, by its parts
abbrev pub field_of : Row → ℕ → List Child → Option Field
field_of ffield_row n cs = Some (record { node = n; label = path_in 0 1 cs; value = first_of (expressions_in 3 cs) })
field_of _ n cs = None

-- a field of a pattern, by its parts
abbrev pub field_pattern_of : Row → ℕ → List Child → Option FieldPattern
field_pattern_of qfield_row n cs = Some (record { node = n; label = path_in 0 1 cs; pattern = first_of (patterns_in 3 cs) })
field_pattern_of _ n cs = None

-- the head of a declaration, by its parts
abbrev pub head_of : Row → List Child → Option Head
head_of head_row cs = Some (declarations.head_row cs)
head_of _ cs = None

-- a constructor, where the row is one
abbrev pub constructor_of : Row → ℕ → List Child → Option ConstructorPart
constructor_of con_row n cs = Some (declarations.constructor_row n cs)
constructor_of _ n cs = None

-- a label, where the row is one
abbrev pub label_of : Row → ℕ → List Child → Option LabelPart
label_of label_row n cs = Some (declarations.label_row n cs)
label_of _ n cs = None

-- a declaration, where the row is one
abbrev pub declaration_of : Row → ℕ → List Child → Option DeclarationPart
declaration_of decl_row n cs = Some (declaration_row n cs)
declaration_of _ n cs = None

-- what each node tells first: the environment in which it is treated
abbrev pub recorded_expression : ℕ → Expression → Expression
recorded_expression n e = record e { typed = λ c. tell_typed n c ++ e.typed c; negated = λ c. tell_typed n c ++ e.negated c }

-- the same of a pattern
abbrev pub recorded_pattern : ℕ → Pattern → Pattern
recorded_pattern n p = record p { matched = λ c seen. tell_typed n c ++ p.matched c seen }

-- the same of a type expression
abbrev pub recorded_type : ℕ → TypeExpression → TypeExpression
recorded_type n t = record t { read = λ c. tell n c ++ t.read c; grouped_read = λ c. tell n c ++ t.grouped_read c }

-- the same of an item
abbrev pub recorded_item : ℕ → Option Item → Option Item
recorded_item n None = None
recorded_item n (Some i) = Some (record i { asks = λ c seen. tell n c ++ i.asks c seen })

-- the same of a module expression
abbrev pub recorded_module : ℕ → ModuleExpression → ModuleExpression
recorded_module n m = record m { asks = λ c. tell n c ++ m.asks c }

-- the same of a module type
abbrev pub recorded_module_type : ℕ → ModuleType → ModuleType
recorded_module_type n y = record y { asks = λ c. tell n c ++ y.asks c }

-- a clause behind `with`, by its parts
abbrev pub with_clause_of : Row → ℕ → List Child → Option WithClause
with_clause_of with_row n cs = Some (record { node = n; head = elim (then_by (first_of (in_slot 1 cs)) (λ k. k.head)) [ None ↦ record { parameters = []; name = None } | Some h ↦ h ]; body = type_in 3 cs })
with_clause_of _ n cs = None

-- the node of a row in a slot, with this number, at this place, over these parts
abbrev pub node_child : ℕ → Part → Row → ℕ → Place → List Child → Child
node_child slot p r n at cs = record {
  slot = slot;
  part = p;
  expression = recorded_expression n (expression_row r n at cs);
  pattern = recorded_pattern n (pattern_row r n at cs);
  type_expression = recorded_type n (type_row r n at cs);
  binding = binding_of r n cs;
  case = case_of r n cs;
  field = field_of r n cs;
  field_pattern = field_pattern_of r n cs;
  head = head_of r cs;
  constructor = constructor_of r n cs;
  label = label_of r n cs;
  told = told_row r cs;
  right_side = right_side_row r n cs;
  declaration = declaration_of r n cs;
  item = recorded_item n (item_row r n at (part_yield p) cs);
  signature_item = recorded_item n (signature_item_row r n at (part_yield p) cs);
  module_expression = recorded_module n (module_expression_row r n at cs);
  module_type = recorded_module_type n (module_type_row r n cs);
  with_clause = with_clause_of r n cs;
}

-- a token or a missing part in a slot, which has the number if it is an operand
abbrev pub leaf_child : ℕ → Part → ℕ → Place → Child
leaf_child slot p n at = record {
  slot = slot;
  part = p;
  expression = recorded_expression n (no_expression_at n at);
  pattern = recorded_pattern n (no_pattern_at n at);
  type_expression = recorded_type n (no_type_at n at);
  binding = None;
  case = None;
  field = None;
  field_pattern = None;
  head = None;
  constructor = None;
  label = None;
  told = None;
  right_side = None;
  declaration = None;
  item = None;
  signature_item = None;
  module_expression = recorded_module n (no_module_at n at);
  module_type = recorded_module_type n (no_module_type_at n);
  with_clause = None;
}

-- the parts of a row, where the first has the number n
abbrev mutual
  pub children_of : ℕ → Row → Forest → List Child
  children_of n r no_parts = []
  children_of n r (part slot p ps) = child_of n slot p ∷ children_of (n + part_size r slot p) r ps

  -- a part in a slot, whose first node has this number
  pub child_of : ℕ → ℕ → Part → Child
  child_of n slot (taken t) = leaf_child slot (taken t) n (place_of t)
  child_of n slot (inner t) = tree_child n slot t
  child_of n slot (missing p) = leaf_child slot (missing p) n p

  -- a tree in a slot, whose own node has this number and whose parts have the ones behind it
  pub tree_child : ℕ → ℕ → Tree → Child
  tree_child n slot (node r x ps) = node_child slot (inner (node r x ps)) r n x.span (children_of (n + 1) r ps)

-- the number of the first node of an item; items are numbered from 1
abbrev pub item_base : ℕ → ℕ
item_base i = i * 2 ^ 32

-- the items of a text, where the first has the number i
abbrev pub items_from : ℕ → List Tree → List Item
items_from i [] = []
items_from i (t ∷ ts) = elim (tree_child (item_base i) 0 t).item [ None ↦ items_from (i + 1) ts | Some m ↦ m ∷ items_from (i + 1) ts ]

-- the items of a whole text
abbrev pub items_of : List Tree → List Item
items_of ts = items_from 1 ts
