-- What is said of two types that clash.
use Rattle.std.specs.Prelude.{ℕ, List, [], ◌++◌, codes}
use Rattle.level_unify.specs.declared.fault.ClashKind.{ClashKind}
use Rattle.level_unify.specs.declared.fault.ClashKind.TheVariants.{Shape, Cycle, Scope}

-- what stands behind two types that differ
abbrev pub ending_text : ClashKind → List ℕ
ending_text Shape = []
ending_text Cycle = codes ", which would contain itself"
ending_text Scope = codes ", in which a later type may not stand"

-- a type is found where another one is wanted
abbrev pub equal_text : (found wanted : List ℕ) → ClashKind → List ℕ
equal_text found wanted kind = codes "This has type " ++ found ++ codes " but type " ++ wanted ++ codes " is wanted" ++ ending_text kind
