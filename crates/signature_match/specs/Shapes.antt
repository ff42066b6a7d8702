-- What two declarations agree in besides their types.
use Rattle.std.specs.Prelude.{◌≡◌, ◌≢◌, Option, None}
use Rattle.std.specs.List.{AllZip}
use Rattle.text_terms.specs.Bytes.{str_bytes}
use Rattle.signature_model.specs.Failing as rules
use Rattle.env_table.specs.declared.entries.Constructor.{Constructor}
use Rattle.env_table.specs.declared.entries.Label.{Label}
use Rattle.env_table.specs.declared.entries.Declaration.{Declaration}
use Rattle.env_table.specs.declared.entries.Shape.{Shape}
use Rattle.env_table.specs.declared.entries.Shape.TheVariants as shape
use Rattle.signature_match.specs.Blames.{here, MayFail}

-- two constructors have one name, and both have an argument or neither has
pub record ConstructorsFit (k l : Constructor) : Type 0 where
  pub name : str_bytes k.name ≡ str_bytes l.name
  pub has_argument : k.has_argument ≡ l.has_argument

-- two labels have one name, and both are mutable or neither is
pub record LabelsFit (k l : Label) : Type 0 where
  pub name : str_bytes k.name ≡ str_bytes l.name
  pub is_mutable : k.is_mutable ≡ l.is_mutable

-- the constructors or labels fit one by one; a wanted declaration that tells nothing of its values asks nothing
abbrev pub ShapesFit : (actual wanted : Shape) → Type 0
ShapesFit actual shape.Opaque = Unit {0}
ShapesFit (shape.Variant ks) (shape.Variant ls) = AllZip ConstructorsFit ks.items ls.items
ShapesFit (shape.Labels ks) (shape.Labels ls) = AllZip LabelsFit ks.items ls.items
ShapesFit shape.Opaque (shape.Variant ls) = ⊥
ShapesFit shape.Opaque (shape.Labels ls) = ⊥
ShapesFit (shape.Variant ks) (shape.Labels ls) = ⊥
ShapesFit (shape.Labels ks) (shape.Variant ls) = ⊥

-- what is told of a wanted type by an actual one: another arity fails, and what passes has a shape that fits
pub record TypeJudged (actual wanted : Declaration) (told : Option rules.Blame) : Type 0 where
  pub arity : actual.arity ≢ wanted.arity → told ≡ here rules.TypeArity
  pub same_arity : actual.arity ≡ wanted.arity → MayFail rules.TypeDiffers told
  pub shape : told ≡ None → ShapesFit actual.shape wanted.shape

-- what is told of a wanted exception by an actual one: what passes has an argument where that has one
pub record ExceptionJudged (actual wanted : Constructor) (told : Option rules.Blame) : Type 0 where
  pub cause : MayFail rules.ExceptionDiffers told
  pub has_argument : told ≡ None → actual.has_argument ≡ wanted.has_argument
