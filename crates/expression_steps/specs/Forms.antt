-- How the rows of expressions are typed: their forms, and what a row without parts is.
use Rattle.std.specs.Prelude.{ℕ, Option}
use Rattle.token_model.specs.Kinds.{Tok}
use Rattle.tree_model.specs.Trees.{Tree}
use Rattle.tree_model.specs.Rows.{Row, name_row, econ_row, epath_row, econst_row, hole_row, eparen_row, erecord_row, prefix_row, eapp_row, efor_row, eneg_row, infix_row, eset_row, elet_row, ematch_row, etry_row, efun_row, efunction_row}
use Rattle.row_parts.specs.Numbered.{Numbered, Written, filled_in, token_in, path_in}
use Rattle.expression_steps.specs.declared.forms.RowForm.{RowForm}
use Rattle.expression_steps.specs.declared.forms.RowForm.TheVariants as form

-- the pattern of a binding
abbrev pub bound_pattern : ℕ → Tree → Numbered
bound_pattern n t = filled_in n t 0

-- what a row without parts is that is no constructor: a value by its path, a constant by its token, or anything
pub data Value : Type 0 where
  named : Written → Value
  constant : Option Tok → Value
  anything : Value

-- that of a row
abbrev pub value_in : Row → Tree → Value
value_in name_row t = named (path_in t 9 0)
value_in epath_row t = named (path_in t 0 1)
value_in econst_row t = constant (token_in t 0)
value_in _ t = anything

-- how the parts of a row are typed
abbrev pub form_of : Row → RowForm
form_of name_row = form.Leaf
form_of econ_row = form.Leaf
form_of epath_row = form.Leaf
form_of econst_row = form.Leaf
form_of hole_row = form.Leaf
form_of eapp_row = form.Application
form_of prefix_row = form.Operation
form_of infix_row = form.Operation
form_of eneg_row = form.Minus
form_of erecord_row = form.Record
form_of elet_row = form.Let
form_of ematch_row = form.Match
form_of etry_row = form.Match
form_of efunction_row = form.Cases
form_of efun_row = form.Function
form_of eparen_row = form.Parenthesised
form_of eset_row = form.Set
form_of efor_row = form.Loop
form_of _ = form.Plain
