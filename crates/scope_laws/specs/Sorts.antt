-- The sorts of the parts of each row that stands in a `let`, a declaration of types or an exception, and trees whose parts are of these sorts.
use Rattle.std.specs.Prelude.{◌≡◌, ◌⊎◌, ℕ, ◌==◌, Bool, true, false, List, [], ◌∷◌, if◌then◌else◌}
use Rattle.tree_model.specs.Rows.{Row, let_row, type_row, exception_row, decl_row, head_row, alias_row, variant_row, record_row, con_row, label_row, tvar_row, tcon_row, tparen_row, tapp_row, ttuple_row, tarrow_row, pname_row, pany_row, pconst_row, pneg_row, pcon_row, pparen_row, plist_row, precord_row, papp_row, pcons_row, ptuple_row, por_row, pas_row, qfield_row, binding_row, case_row, ffield_row, name_row, econ_row, epath_row, econst_row, hole_row, eparen_row, ebegin_row, elist_row, erecord_row, prefix_row, field_row, eapp_row, eassert_row, ewhile_row, efor_row, eneg_row, infix_row, econs_row, etuple_row, eset_row, eif_row, eseq_row, elet_row, ematch_row, etry_row, efun_row, efunction_row}
use Rattle.tree_model.specs.Trees.{Tree, Forest, Part, node, no_parts, part, taken, inner, missing}
use Rattle.operand_laws.specs.Formed.{row_of, is_in, is_in_order}

-- what parts of trees are; the head of a constructor's pattern is a constructor
pub data Sort : Type 0 where
  an_expression : Sort
  a_pattern : Sort
  a_constructor : Sort
  a_type : Sort
  a_binding : Sort
  a_case : Sort
  a_field : Sort
  a_field_pattern : Sort
  a_declaration : Sort
  a_head : Sort
  a_right_side : Sort
  a_kind : Sort
  a_declared_constructor : Sort
  a_declared_label : Sort
  no_sort : Sort

-- the slots of a row that take operands, each with the sort of these
abbrev pub slots_of : Row → List (ℕ × Sort)
slots_of let_row = (2, a_binding) ∷ []
slots_of type_row = (2, a_declaration) ∷ []
slots_of exception_row = (1, a_declared_constructor) ∷ []
slots_of decl_row = (0, a_head) ∷ (2, a_right_side) ∷ []
slots_of alias_row = (0, a_type) ∷ (2, a_kind) ∷ []
slots_of variant_row = (1, a_declared_constructor) ∷ []
slots_of record_row = (1, a_declared_label) ∷ []
slots_of con_row = (2, a_type) ∷ []
slots_of label_row = (3, a_type) ∷ []
slots_of tparen_row = (1, a_type) ∷ []
slots_of tapp_row = (0, a_type) ∷ []
slots_of ttuple_row = (0, a_type) ∷ (2, a_type) ∷ []
slots_of tarrow_row = (0, a_type) ∷ (2, a_type) ∷ []
slots_of pparen_row = (1, a_pattern) ∷ (3, a_type) ∷ []
slots_of plist_row = (1, a_pattern) ∷ []
slots_of precord_row = (1, a_field_pattern) ∷ []
slots_of papp_row = (0, a_constructor) ∷ (1, a_pattern) ∷ []
slots_of pcons_row = (0, a_pattern) ∷ (2, a_pattern) ∷ []
slots_of ptuple_row = (0, a_pattern) ∷ (2, a_pattern) ∷ []
slots_of por_row = (0, a_pattern) ∷ (2, a_pattern) ∷ []
slots_of pas_row = (0, a_pattern) ∷ []
slots_of qfield_row = (3, a_pattern) ∷ []
slots_of binding_row = (0, a_pattern) ∷ (1, a_pattern) ∷ (3, a_type) ∷ (5, an_expression) ∷ []
slots_of case_row = (0, a_pattern) ∷ (2, an_expression) ∷ (4, an_expression) ∷ []
slots_of ffield_row = (3, an_expression) ∷ []
slots_of eparen_row = (1, an_expression) ∷ (3, a_type) ∷ []
slots_of ebegin_row = (1, an_expression) ∷ []
slots_of elist_row = (1, an_expression) ∷ []
slots_of erecord_row = (1, an_expression) ∷ (3, an_expression) ∷ (5, a_field) ∷ []
slots_of prefix_row = (1, an_expression) ∷ []
slots_of field_row = (0, an_expression) ∷ []
slots_of eapp_row = (0, an_expression) ∷ (1, an_expression) ∷ []
slots_of eassert_row = (1, an_expression) ∷ []
slots_of ewhile_row = (1, an_expression) ∷ (3, an_expression) ∷ []
slots_of efor_row = (3, an_expression) ∷ (5, an_expression) ∷ (7, an_expression) ∷ []
slots_of eneg_row = (1, an_expression) ∷ []
slots_of infix_row = (0, an_expression) ∷ (2, an_expression) ∷ []
slots_of econs_row = (0, an_expression) ∷ (2, an_expression) ∷ []
slots_of etuple_row = (0, an_expression) ∷ (2, an_expression) ∷ []
slots_of eset_row = (0, an_expression) ∷ (2, an_expression) ∷ []
slots_of eif_row = (1, an_expression) ∷ (3, an_expression) ∷ (5, an_expression) ∷ []
slots_of eseq_row = (0, an_expression) ∷ (2, an_expression) ∷ []
slots_of elet_row = (2, a_binding) ∷ (5, an_expression) ∷ []
slots_of ematch_row = (1, an_expression) ∷ (4, a_case) ∷ []
slots_of etry_row = (1, an_expression) ∷ (4, a_case) ∷ []
slots_of efun_row = (1, a_pattern) ∷ (3, an_expression) ∷ []
slots_of efunction_row = (4, a_case) ∷ []
slots_of _ = []

-- the sort of a slot among these
abbrev pub sort_among : ℕ → List (ℕ × Sort) → Sort
sort_among s [] = no_sort
sort_among s (e ∷ es) = if s == e.0 then e.1 else sort_among s es

-- the sort of the parts in a slot of a row
abbrev pub sort_in : Row → ℕ → Sort
sort_in r s = sort_among s (slots_of r)

-- the rows of expressions
abbrev pub is_expression_row : Row → Bool
is_expression_row name_row = true
is_expression_row econ_row = true
is_expression_row epath_row = true
is_expression_row econst_row = true
is_expression_row hole_row = true
is_expression_row eparen_row = true
is_expression_row ebegin_row = true
is_expression_row elist_row = true
is_expression_row erecord_row = true
is_expression_row prefix_row = true
is_expression_row field_row = true
is_expression_row eapp_row = true
is_expression_row eassert_row = true
is_expression_row ewhile_row = true
is_expression_row efor_row = true
is_expression_row eneg_row = true
is_expression_row infix_row = true
is_expression_row econs_row = true
is_expression_row etuple_row = true
is_expression_row eset_row = true
is_expression_row eif_row = true
is_expression_row eseq_row = true
is_expression_row elet_row = true
is_expression_row ematch_row = true
is_expression_row etry_row = true
is_expression_row efun_row = true
is_expression_row efunction_row = true
is_expression_row _ = false

-- the rows of patterns
abbrev pub is_pattern_row : Row → Bool
is_pattern_row pname_row = true
is_pattern_row pany_row = true
is_pattern_row pconst_row = true
is_pattern_row pneg_row = true
is_pattern_row pcon_row = true
is_pattern_row pparen_row = true
is_pattern_row plist_row = true
is_pattern_row precord_row = true
is_pattern_row papp_row = true
is_pattern_row pcons_row = true
is_pattern_row ptuple_row = true
is_pattern_row por_row = true
is_pattern_row pas_row = true
is_pattern_row _ = false

-- the rows of type expressions
abbrev pub is_type_row : Row → Bool
is_type_row tvar_row = true
is_type_row tcon_row = true
is_type_row tparen_row = true
is_type_row tapp_row = true
is_type_row ttuple_row = true
is_type_row tarrow_row = true
is_type_row _ = false

-- the rows of what is told of a type's values
abbrev pub is_kind_row : Row → Bool
is_kind_row variant_row = true
is_kind_row record_row = true
is_kind_row _ = false

-- a row is of a sort
abbrev pub is_of : Sort → Row → Bool
is_of an_expression r = is_expression_row r
is_of a_pattern r = is_pattern_row r
is_of a_constructor pcon_row = true
is_of a_constructor _ = false
is_of a_type r = is_type_row r
is_of a_binding binding_row = true
is_of a_binding _ = false
is_of a_case case_row = true
is_of a_case _ = false
is_of a_field ffield_row = true
is_of a_field _ = false
is_of a_field_pattern qfield_row = true
is_of a_field_pattern _ = false
is_of a_declaration decl_row = true
is_of a_declaration _ = false
is_of a_head head_row = true
is_of a_head _ = false
is_of a_right_side alias_row = true
is_of a_right_side r = is_kind_row r
is_of a_kind r = is_kind_row r
is_of a_declared_constructor con_row = true
is_of a_declared_constructor _ = false
is_of a_declared_label label_row = true
is_of a_declared_label _ = false
is_of no_sort r = false

-- a record has the value of a first part or the word `with`, and not both
abbrev pub IsApart : Row → Forest → Type 0
IsApart erecord_row ps = (is_in 3 ps ≡ false) ⊎ (is_in 4 ps ≡ false)
IsApart _ ps = Unit {0}

-- in a node, and in the nodes in it, operands come in order, and each part is of the sort of its slot
abbrev mutual
  pub IsSorted : Tree → Type 0
  IsSorted (node r x ps) = (is_in_order r 0 ps ≡ true) × IsApart r ps × AreSorted r ps

  -- the parts of a row
  pub AreSorted : Row → Forest → Type 0
  AreSorted r no_parts = Unit {0}
  AreSorted r (part s p ps) = IsPartSorted (sort_in r s) p × AreSorted r ps

  -- a part that is a node of a sort, if it is one
  pub IsPartSorted : Sort → Part → Type 0
  IsPartSorted k (taken t) = Unit {0}
  IsPartSorted k (inner t) = (is_of k (row_of t) ≡ true) × IsSorted t
  IsPartSorted k (missing at) = Unit {0}

-- items that are such trees
abbrev pub AreItemsSorted : List Tree → Type 0
AreItemsSorted [] = Unit {0}
AreItemsSorted (t ∷ ts) = IsSorted t × AreItemsSorted ts
