-- The forms of patterns, by their rows.
use Rattle.std.specs.Prelude.{Bool, true, false, Option, Some, None}
use Rattle.token_model.specs.Kinds as kind
use Rattle.tree_model.specs.Rows.{Row, pname_row, pany_row, pconst_row, pneg_row, pcon_row, pparen_row, plist_row, precord_row, papp_row, pcons_row, ptuple_row, por_row}
use Rattle.match_warnings.specs.declared.forms.Form.{Form}
use Rattle.match_warnings.specs.declared.forms.Form.TheVariants as form
use Rattle.match_warnings.specs.declared.forms.Compound.{Compound}
use Rattle.match_warnings.specs.declared.forms.Compound.TheVariants as compound
use Rattle.match_warnings.specs.declared.forms.Constant.{Constant}
use Rattle.match_warnings.specs.declared.forms.Constant.TheVariants as constant

-- the form of a row
unfoldable pub form_of : Row → Form
form_of pname_row = form.Name
form_of pany_row = form.Wildcard
form_of pconst_row = form.Constant
form_of pneg_row = form.Negative
form_of precord_row = form.Record
form_of pcon_row = form.Bare
form_of papp_row = form.Over compound.Applied
form_of plist_row = form.Over compound.List
form_of pcons_row = form.Over compound.Cons
form_of ptuple_row = form.Over compound.Tuple
form_of por_row = form.Over compound.Either
form_of pparen_row = form.Over compound.Bracketed
form_of _ = form.Over compound.Other

-- whether the parts of a pattern that are patterns are those in its slot 1
abbrev pub is_bracketed : Compound → Bool
is_bracketed compound.Applied = true
is_bracketed compound.List = true
is_bracketed compound.Bracketed = true
is_bracketed _ = false

-- what a constant of a kind is
unfoldable pub constant_of : kind.Kind → Constant
constant_of kind.unit = constant.Unit
constant_of kind.true_word = constant.True
constant_of kind.false_word = constant.False
constant_of kind.nil = constant.Nil
constant_of _ = constant.Literal

-- whether a pattern of a form matches any value, wherever it is there
abbrev pub matches_any : Form → Bool
matches_any form.Name = true
matches_any form.Wildcard = true
matches_any form.Constant = false
matches_any form.Negative = false
matches_any form.Record = false
matches_any form.Bare = false
matches_any (form.Over f) = false

-- the same of a row that may be missing
abbrev pub is_plain : Option Row → Bool
is_plain None = false
is_plain (Some r) = matches_any (form_of r)
