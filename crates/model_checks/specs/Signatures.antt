-- Small signatures, and the names in scope behind a text.
use Rattle.std.specs.Prelude.{List, [], ◌∷◌, codes}
use Rattle.tree_model.specs.Trees.{Tree}
use Rattle.type_model.specs.Types.{Typ, Con, Nil}
use Rattle.signature_model.specs.Declarations.{Place, built_in, Definition, Own, Is, Opaque, Declaration}
use Rattle.signature_model.specs.Signatures.{Signature, Structure, Components, Done, Component, Value, TypeName, Template, template}
use Rattle.signature_model.specs.Entries.{Environment}
use Rattle.typing_model.specs.BuiltIns.{built_in_names, int_type, string_type}
use Rattle.typing_model.specs.Contexts.{Choice, monomorphic}
use Rattle.typing_model.specs.Items.{behind_items}
use Rattle.typing_model.specs.Meanings.{items_of}
use Rattle.typing_model.specs.Typings.{outermost}
use Rattle.model_checks.specs.Asked.{all_kept}

-- some place
abbrev pub somewhere : Place
somewhere = built_in 0

-- a type without parameters that tells nothing of its values
abbrev pub plain : Definition → Declaration
plain d = record { arity = 0; definition = d; shape = Opaque }

-- the type that is made at 5, and its values
abbrev pub own_type : Typ
own_type = Con (5 ∷ []) Nil

-- sig type t val x : t end
abbrev pub abstract_one : Signature
abstract_one = Structure (Component (codes "t") somewhere (TypeName (plain (Own (5 ∷ [])))) (Component (codes "x") somewhere (Value (monomorphic own_type)) Done))

-- struct type t = int let x = 1 end
abbrev pub int_one : Signature
int_one = Structure (Component (codes "t") somewhere (TypeName (plain (Is int_type))) (Component (codes "x") somewhere (Value (monomorphic int_type)) Done))

-- struct type t = int let x = "a" end
abbrev pub wrong_one : Signature
wrong_one = Structure (Component (codes "t") somewhere (TypeName (plain (Is int_type))) (Component (codes "x") somewhere (Value (monomorphic string_type)) Done))

-- val a : int, and behind it val b : string
abbrev pub only_a : Components
only_a = Component (codes "a") somewhere (Value (monomorphic int_type)) Done

-- both values
abbrev pub both : Components
both = Component (codes "a") somewhere (Value (monomorphic int_type)) (Component (codes "b") somewhere (Value (monomorphic string_type)) Done)

-- sig end, and struct type t end, which makes a type
abbrev pub empty : Signature
empty = Structure Done

-- a body that makes a type
abbrev pub body : Template
body = template ((5 ∷ []) ∷ []) (Structure (Component (codes "t") somewhere (TypeName (plain (Own (5 ∷ [])))) Done))

-- the names in scope behind a text, where all its demands are kept
abbrev pub behind : List Tree → Choice → Environment
behind text choice = behind_items (outermost built_in_names all_kept choice) (items_of text)
