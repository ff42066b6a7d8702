-- Which expressions are made of rows whose conditions are carried so far.
use Rattle.std.specs.Prelude.{◌≡◌, ℕ, ◌==◌, Bool, true, false, ◌||◌, codes, Option, Some, None, if◌then◌else◌}
use Rattle.std.specs.Str.{bytes_eq}
use Rattle.token_model.specs.Kinds.{Tok, Kind, upper}
use Rattle.tree_model.specs.Rows.{Row, pparen_row, plist_row, precord_row, qfield_row, papp_row, pcons_row, ptuple_row, por_row, pas_row, case_row, binding_row, ematch_row, etry_row, efun_row, efunction_row, name_row, econ_row, epath_row, econst_row, hole_row, eparen_row, ebegin_row, elist_row, prefix_row, field_row, eapp_row, eassert_row, ewhile_row, efor_row, eneg_row, infix_row, econs_row, etuple_row, eset_row, eif_row, eseq_row, elet_row, erecord_row, ffield_row}
use Rattle.tree_model.specs.Trees.{Place, Tree, Forest, Part, node, no_parts, part, taken, inner, missing}
use Rattle.tree_model.specs.Extents.{extent_of}
use Rattle.row_parts.specs.Numbered.{Numbered, token_in}
use Rattle.operand_laws.specs.Formed.{IsOperandFormed}
use Rattle.typing_rows.specs.CarriedPatternRows.{IsCarriedPatternRow}

-- a kind that isn't that of a constructor's name
abbrev pub is_upper : Kind → Bool
is_upper upper = true
is_upper _ = false

-- a token that names a constructor
abbrev pub names_constructor : Option Tok → Bool
names_constructor None = false
names_constructor (Some t) = is_upper t.kind

-- one of the two signs, `-` and `-.`
abbrev pub is_sign : Option Tok → Bool
is_sign None = true
is_sign (Some t) = bytes_eq t.name (codes "-") || bytes_eq t.name (codes "-.")

-- the rows of expressions
abbrev pub IsCarriedRow : Row → Tree → Forest → Type 0
IsCarriedRow name_row t ps = Unit {0}  -- x
IsCarriedRow econ_row t ps = Unit {0}  -- A
IsCarriedRow epath_row t ps = Unit {0}  -- M.x, M.A
IsCarriedRow econst_row t ps = Unit {0}  -- 1, "a", true
IsCarriedRow hole_row t ps = Unit {0}  -- _
IsCarriedRow eparen_row t ps = Unit {0}  -- ( e ), ( e : t )
IsCarriedRow ebegin_row t ps = Unit {0}  -- begin e end
IsCarriedRow elist_row t ps = Unit {0}  -- [ e; e ]
IsCarriedRow prefix_row t ps = Unit {0}  -- ! e
IsCarriedRow field_row t ps = Unit {0}  -- e . l
IsCarriedRow eapp_row t ps = Unit {0}  -- e e e, A e
IsCarriedRow eassert_row t ps = Unit {0}  -- assert e
IsCarriedRow ewhile_row t ps = Unit {0}  -- while e do e done
IsCarriedRow efor_row t ps = Unit {0}  -- for x = e to e do e done
IsCarriedRow eneg_row t ps = is_sign (token_in t 0) ≡ true  -- - e
IsCarriedRow infix_row t ps = Unit {0}  -- e + e
IsCarriedRow econs_row t ps = Unit {0}  -- e :: e
IsCarriedRow etuple_row t ps = Unit {0}  -- e, e
IsCarriedRow eset_row t ps = Unit {0}  -- e . l <- e
IsCarriedRow eif_row t ps = Unit {0}  -- if e then e else e
IsCarriedRow eseq_row t ps = Unit {0}  -- e; e
IsCarriedRow ematch_row t ps = Unit {0}  -- match e with p -> e
IsCarriedRow etry_row t ps = Unit {0}  -- try e with p -> e
IsCarriedRow efun_row t ps = Unit {0}  -- fun p p -> e
IsCarriedRow efunction_row t ps = Unit {0}  -- function p -> e
IsCarriedRow elet_row t ps = Unit {0}  -- let p = e in e
IsCarriedRow erecord_row t ps = Unit {0}  -- { l = e }, { e with l = e }
IsCarriedRow _ t ps = ⊥

-- what parts of trees are
pub data Sort : Type 0 where
  an_expression : Sort
  a_pattern : Sort
  a_type : Sort
  a_field_pattern : Sort
  a_field : Sort
  a_case : Sort
  a_binding : Sort

-- the sort of what is in a slot of a row of expressions or patterns, of a field of a record or of a record pattern, of a case, or of a binding
abbrev pub sort_in : Row → ℕ → Sort
sort_in pparen_row s = if s == 3 then a_type else a_pattern
sort_in plist_row s = a_pattern
sort_in precord_row s = a_field_pattern
sort_in qfield_row s = a_pattern
sort_in papp_row s = a_pattern
sort_in pcons_row s = a_pattern
sort_in ptuple_row s = a_pattern
sort_in por_row s = a_pattern
sort_in pas_row s = a_pattern
sort_in case_row s = if s == 0 then a_pattern else an_expression
sort_in binding_row s = if s == 0 || s == 1 then a_pattern else if s == 3 then a_type else an_expression
sort_in eparen_row s = if s == 3 then a_type else an_expression
sort_in ematch_row s = if s == 4 then a_case else an_expression
sort_in etry_row s = if s == 4 then a_case else an_expression
sort_in efunction_row s = if s == 4 then a_case else an_expression
sort_in efun_row s = if s == 1 then a_pattern else an_expression
sort_in elet_row s = if s == 2 then a_binding else an_expression
sort_in erecord_row s = if s == 5 then a_field else an_expression
sort_in _ s = an_expression

-- the row of a field of a record pattern
abbrev pub IsFieldPatternRow : Row → Type 0
IsFieldPatternRow qfield_row = Unit {0}
IsFieldPatternRow _ = ⊥

-- the row of a field of a record expression
abbrev pub IsFieldRow : Row → Type 0
IsFieldRow ffield_row = Unit {0}
IsFieldRow _ = ⊥

-- the row of a case
abbrev pub IsCaseRow : Row → Type 0
IsCaseRow case_row = Unit {0}
IsCaseRow _ = ⊥

-- the row of a binding
abbrev pub IsBindingRow : Row → Type 0
IsBindingRow binding_row = Unit {0}
IsBindingRow _ = ⊥

abbrev mutual
  -- a node of a sort, and all nodes in it, are of such rows; of a type expression nothing is asked
  pub IsTreeOfSort : Sort → Tree → Type 0
  IsTreeOfSort an_expression (node r x ps) = IsCarriedRow r (node r x ps) ps × AreOfCarriedRows r ps
  IsTreeOfSort a_pattern (node r x ps) = IsCarriedPatternRow r ps × AreOfCarriedRows r ps
  IsTreeOfSort a_field_pattern (node r x ps) = IsFieldPatternRow r × AreOfCarriedRows r ps
  IsTreeOfSort a_field (node r x ps) = IsFieldRow r × AreOfCarriedRows r ps
  IsTreeOfSort a_case (node r x ps) = IsCaseRow r × AreOfCarriedRows r ps
  IsTreeOfSort a_binding (node r x ps) = IsBindingRow r × AreOfCarriedRows r ps
  IsTreeOfSort a_type (node r x ps) = Unit {0}

  -- so are all parts of a row, each of the sort of its slot
  pub AreOfCarriedRows : Row → Forest → Type 0
  AreOfCarriedRows r no_parts = Unit {0}
  AreOfCarriedRows r (part s p ps) = IsOfSort (sort_in r s) p × AreOfCarriedRows r ps

  -- so is a part; one that is missing is too
  pub IsOfSort : Sort → Part → Type 0
  IsOfSort k (taken t) = Unit {0}
  IsOfSort k (inner t) = IsTreeOfSort k t
  IsOfSort k (missing at) = Unit {0}

-- an expression made of such rows
abbrev pub IsTreeOfCarriedRows : Tree → Type 0
IsTreeOfCarriedRows t = IsTreeOfSort an_expression t

-- a part that is one
abbrev pub IsOfCarriedRows : Part → Type 0
IsOfCarriedRows p = IsOfSort an_expression p

-- a pattern made of such rows
abbrev pub IsTreeOfCarriedPatterns : Tree → Type 0
IsTreeOfCarriedPatterns t = IsTreeOfSort a_pattern t

-- a part that is one
abbrev pub IsOfCarriedPatterns : Part → Type 0
IsOfCarriedPatterns p = IsOfSort a_pattern p

-- what is at an operand stands where its node does
abbrev pub IsPartPlaced : Place → Part → Type 0
IsPartPlaced at (taken t) = Unit {0}
IsPartPlaced at (inner t) = at ≡ (extent_of t).span
IsPartPlaced at (missing q) = Unit {0}

-- an operand that does
abbrev pub IsPlaced : Numbered → Type 0
IsPlaced o = IsPartPlaced o.at o.part

-- an operand that is an expression whose tree is well formed and made of such rows
pub record IsCarried (o : Numbered) : Type 0 where
  pub formed : IsOperandFormed o
  pub placed : IsPlaced o
  pub rows : IsOfCarriedRows o.part

-- one that is such a case
pub record IsCarriedCase (o : Numbered) : Type 0 where
  pub formed : IsOperandFormed o
  pub rows : IsOfSort a_case o.part

-- one that is such a binding
pub record IsCarriedBinding (o : Numbered) : Type 0 where
  pub formed : IsOperandFormed o
  pub rows : IsOfSort a_binding o.part
