-- Heads of patterns: one that is a constructor in the code is that one in the definitions.
use Rattle.std.proofs.Common.{◌≡◌, ℕ, List, Option, Some, None, option_map, refl, ap}
use Rattle.token_model.specs.Kinds.{Tok}
use Rattle.tree_model.specs.Rows.{Row, pname_row, pcon_row, pparen_row, papp_row, pas_row}
use Rattle.tree_model.specs.Trees.{Place, Tree, Part, node, taken, inner, missing}
use Rattle.row_parts.specs.Numbered.{Numbered, numbered, path_in}
use Rattle.typing_model.specs.Parts as parts
use Rattle.typing_model.specs.Parts.{Child, Pattern, TypeExpression}
use Rattle.typing_model.specs.Patterns.{pattern_row, pname, pparen, papp, pas}
use Rattle.operand_laws.specs.Operands.{number_of, parts_of, pattern_of, path_of}
use Rattle.operand_laws.proofs.Tokens.{path_stands}
use Rattle.pattern_names.specs.PatternNames.{constructor_in, constructor_at}

name_none : (n : ℕ) (at : Place) (o : Option Tok) → (pname n at o).constructor ≡ None
name_none n at None = refl
name_none n at (Some t) = refl

paren_none : (n : ℕ) (at : Place) (p : Pattern) (o : Option TypeExpression) → (pparen n at p o).constructor ≡ None
paren_none n at p None = refl
paren_none n at p (Some t) = refl

applied_none : (n : ℕ) (at : Place) (h p : Pattern) → (papp n at h p).constructor ≡ None
applied_none n at h p = by h.constructor
  where
    by : (o : Option parts.Written) → (papp n at (record h { constructor = o }) p).constructor ≡ None
    by None = refl
    by (Some w) = refl

as_none : (n : ℕ) (at : Place) (p : Pattern) (o : Option Tok) → (pas n at p o).constructor ≡ None
as_none n at p None = refl
as_none n at p (Some t) = refl

row_constructor : (r : Row) (n : ℕ) (at : Place) (cs : List Child) (t : Tree) → parts.path_in 0 1 cs ≡ path_of (path_in t 0 1) → (pattern_row r n at cs).constructor ≡ option_map path_of (constructor_in r t)
unfolding pattern_row
row_constructor pname_row n at cs t e = name_none n at (parts.token_in 0 cs)
row_constructor pcon_row n at cs t e = ap Some e
row_constructor pparen_row n at cs t e = paren_none n at (parts.pattern_in 1 cs) (parts.first_of (parts.types_in 3 cs))
row_constructor papp_row n at cs t e = applied_none n at (parts.pattern_in 0 cs) (parts.pattern_in 1 cs)
row_constructor pas_row n at cs t e = as_none n at (parts.pattern_in 0 cs) (parts.token_in 2 cs)
row_constructor _ n at cs t e = refl

-- the constructor that an operand is
pub head_constructor : (i : ℕ) (o : Numbered) → (pattern_of i o).constructor ≡ option_map path_of (constructor_at o.part)
head_constructor i o = by o.number o.at o.part
  where
    by : (n : ℕ) (at : Place) (p : Part) → (pattern_of i (numbered n at p)).constructor ≡ option_map path_of (constructor_at p)
    by n at (taken t) = refl
    by n at (missing q) = refl
    by n at (inner (node r x ps)) = row_constructor r (number_of i n) at (parts_of i n (node r x ps)) (node r x ps) (path_stands i n (node r x ps) 0 1)
