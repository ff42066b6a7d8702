-- Declarations that are one as records.
use Rattle.std.specs.Prelude.{◌≡◌, Option, Some}
use Rattle.signature_model.specs.Declarations.{Declaration, Label, type_of}
use Rattle.typing_model.specs.Records.{labels_in}
use Rattle.typing_conditions.specs.Declared.{OneByOne}

-- two labels have one name and one type, and both may be set or neither
pub record SameLabel (l k : Label) : Type 0 where
  pub name : l.name ≡ k.name
  pub mutable : l.is_mutable ≡ k.is_mutable
  pub body : l.body ≡ k.body

-- two declarations have one type, and the same labels in order
pub record SameRecord (d e : Declaration) : Type 0 where
  pub owner : type_of d ≡ type_of e
  pub labels : OneByOne SameLabel (labels_in d.shape) (labels_in e.shape)

-- what is found is a declaration that is one with another
pub record IsOneWith (e : Declaration) (found : Option Declaration) : Type 0 where
  pub declaration : Declaration
  pub is : found ≡ Some declaration
  pub same : SameRecord declaration e
