-- Types as they are printed, where constructors are called by the numbers of their origins: the built-in ones by their names, and others t.
use Rattle.std.specs.Prelude.{ℕ, List, codes, if◌then◌else◌}
use Rattle.type_model.specs.Types.{Path, Typ, Typs, Con, Nil, Cons}
use Rattle.type_model.specs.Origins.{same_path}
use Rattle.type_print_model.specs.Variables.{variables_of, variable_name}
use Rattle.type_print_model.specs.Printing.{text_of, alone, cut}
use Rattle.typing_model.specs.BuiltIns.{built_in_origin}

-- int and list by their names, and every other constructor t
abbrev pub name_of : Path → List ℕ
name_of o = if same_path o (built_in_origin 0) then codes "int" else if same_path o (built_in_origin 7) then codes "list" else codes "t"

-- the text of a type, where these variables are weak
abbrev pub printed : List ℕ → Typ → List ℕ
printed weak t = cut (text_of (record { variable = variable_name weak (variables_of t); origin = name_of }) alone t)

-- some types
abbrev pub int : Typ
int = Con (built_in_origin 0) Nil

-- t list
abbrev pub list : Typ → Typ
list t = Con (built_in_origin 7) (Cons t Nil)

-- two types
abbrev pub pair : Typ → Typ → Typs
pair t u = Cons t (Cons u Nil)
