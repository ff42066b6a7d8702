-- Which rows of patterns carry their conditions so far.
use Rattle.tree_model.specs.Rows.{Row, pname_row, pany_row, pconst_row, pneg_row, pcon_row, pparen_row, plist_row, precord_row, papp_row, pcons_row, ptuple_row, por_row, pas_row}
use Rattle.tree_model.specs.Trees.{Forest}

-- all rows of patterns
abbrev pub IsCarriedPatternRow : Row → Forest → Type 0
IsCarriedPatternRow pname_row ps = Unit {0}  -- x
IsCarriedPatternRow pany_row ps = Unit {0}  -- _
IsCarriedPatternRow pconst_row ps = Unit {0}  -- 1, "a", true
IsCarriedPatternRow pneg_row ps = Unit {0}  -- - 1
IsCarriedPatternRow pcon_row ps = Unit {0}  -- A
IsCarriedPatternRow pparen_row ps = Unit {0}  -- ( p ), ( p : t )
IsCarriedPatternRow plist_row ps = Unit {0}  -- [ p; p ]
IsCarriedPatternRow precord_row ps = Unit {0}  -- { l = p; l }
IsCarriedPatternRow papp_row ps = Unit {0}  -- A p
IsCarriedPatternRow pcons_row ps = Unit {0}  -- p :: p
IsCarriedPatternRow ptuple_row ps = Unit {0}  -- p, p
IsCarriedPatternRow por_row ps = Unit {0}  -- p | p
IsCarriedPatternRow pas_row ps = Unit {0}  -- p as x
IsCarriedPatternRow _ ps = ⊥
