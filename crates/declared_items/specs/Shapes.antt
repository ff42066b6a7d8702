-- What a declaration tells of its values in the definitions, by its parts and the types that are decided for them.
use Rattle.std.specs.Prelude.{ℕ, List, [], ◌∷◌, Option, Some, None, option_map}
use denote.Ref.{Bor}
use Rattle.syntax_tree.specs.declared.tree.Token.{Token}
use Rattle.syntax_tree.specs.View.{tok_of}
use Rattle.token_model.specs.Kinds.{Tok}
use Rattle.type_model.specs.Types.{Typ}
use Rattle.signature_model.specs.Declarations as rules
use Rattle.signature_model.specs.Declarations.{in_text}
use Rattle.typing_model.specs.Declarations.{variant_of}
use Rattle.typing_model.specs.Parts as parts
use Rattle.typing_model.specs.Parts.{place_of}
use Rattle.typing_rows.specs.Settled.{Fixes}
use Rattle.declared_rows.specs.Assignments.{Assignment}
use Rattle.env_table.specs.declared.entries.Shape.{Shape}
use Rattle.decl_groups.specs.declared.groups.ConstructorPart.{ConstructorPart}
use Rattle.decl_groups.specs.declared.groups.LabelPart.{LabelPart}
use Rattle.decl_groups.specs.declared.groups.Told.{Told}
use Rattle.decl_typing.specs.Owned.{ShapeMade, nothing_made, constructors_made, labels_made}

-- a constructor that has a name, in front of others
abbrev pub with_constructor : Option (Bor Token) → Option Typ → List rules.Constructor → List rules.Constructor
with_constructor None t ks = ks
with_constructor (Some k) t ks = record { name = (tok_of k.now).name; place = in_text (place_of (tok_of k.now)); argument = t } ∷ ks

-- the constructors of some parts, whose arguments have these types
abbrev pub constructors_by : List ConstructorPart → List (Option Typ) → List rules.Constructor
constructors_by [] ts = []
constructors_by (p ∷ ps) [] = []
constructors_by (p ∷ ps) (t ∷ ts) = with_constructor p.name t (constructors_by ps ts)

-- a label that has a name, in front of others
abbrev pub with_label : LabelPart → Option (Bor Token) → Typ → List rules.Label → List rules.Label
with_label p None t ls = ls
with_label p (Some k) t ls = record { name = (tok_of k.now).name; place = in_text (place_of (tok_of k.now)); is_mutable = p.is_mutable; body = t } ∷ ls

-- the labels of some parts, whose fields have these types
abbrev pub labels_by : List LabelPart → List Typ → List rules.Label
labels_by [] ts = []
labels_by (p ∷ ps) [] = []
labels_by (p ∷ ps) (t ∷ ts) = with_label p p.name t (labels_by ps ts)

-- what is told of a type that was made
abbrev pub shape_by : {A : Assignment} {owner : Typ} {fixes : Fixes} {i : _} {told : Option Told} {z : Shape} → ShapeMade A owner fixes i told z → rules.Shape
shape_by (nothing_made e) = rules.Opaque
shape_by (constructors_made {ps = ps} types gives made is) = variant_of (constructors_by ps.items types)
shape_by (labels_made {ps = ps} types gives made is) = rules.Labels (labels_by ps.items types)

-- a declaration that is a type of its own, by its number, its name, its parameters and what it tells
abbrev pub own_declaration : ℕ → Option Tok → List Tok → Option parts.Told → parts.DeclarationPart
own_declaration n name ts told = record { node = n; head = record { parameters = ts; name = name }; right = option_map parts.own told }
