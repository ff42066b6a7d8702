-- The names of the modules on a way, the innermost first.
use Rattle.std.specs.Prelude.{List, [], ◌∷◌, Option, Some, None}
use Rattle.std.specs.declared.rc.Rc.{Rc}
use Rattle.std.specs.declared.alloc.Global.{Global}
use Rattle.text_terms.specs.Bytes.{str_bytes}
use Rattle.signature_model.specs.Declarations.{Name}
use Rattle.type_print.specs.declared.ways.Step.{Step, fold-Step}
use Rattle.type_print.specs.declared.ways.Step.TheOpen.{Step-F}

-- the names of a way behind a shared pointer
abbrev pub shared_way : Option (Rc (List Name) Global) → List Name
shared_way None = []
shared_way (Some r) = r.value

-- the name of a step, in front of those of the modules round it
abbrev pub step_of : Step-F (List Name) → List Name
step_of s = str_bytes s.name ∷ shared_way s.outer

-- the names of a step and of the modules round it
abbrev pub step_view : Step → List Name
step_view = fold-Step (List Name) step_of

-- the names of a way, which may be empty
abbrev pub way_view : Option (Rc Step Global) → List Name
way_view None = []
way_view (Some r) = step_view r.value
