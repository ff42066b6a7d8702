-- What the items of a structure ask, row by row, and what they add to the names in scope (OCaml manual, 11.11).
use Rattle.std.specs.Prelude.{ℕ, Bool, false, List, [], ◌∷◌, ◌++◌, reverse, Option, Some, None, option_map, if◌then◌else◌}
use Rattle.token_model.specs.Kinds.{Tok, Kind, ty_var}
use Rattle.type_model.specs.Types.{Path, Typ}
use Rattle.type_model.specs.Schemes.{Scheme}
use Rattle.signature_model.specs.Declarations.{Name, in_text, Definition, Own, Is}
use Rattle.signature_model.specs.Signatures.{Signature, Structure, Components, Done, Component, Meaning, Value, TypeName, Exception, Module, ModuleType}
use Rattle.signature_model.specs.Components.{newest, as_value, as_exception}
use Rattle.signature_model.specs.Entries.{Environment}
use Rattle.typing_model.specs.Demands.{Condition, made}
use Rattle.typing_model.specs.Contexts.{Context, Bound, in_item, under, type_at, entries_with, generalised_in}
use Rattle.typing_model.specs.Parts.{Binding, ConstructorPart, DeclarationPart, Item, Seen, no_names, seen_too, place_of}
use Rattle.typing_model.specs.Bindings.{bindings_ask, names_of_group, held_by}
use Rattle.typing_model.specs.Expressions.{is_some}
use Rattle.typing_model.specs.Declarations.{group_asks, declaration_of, entries_of_group, exception_asks, entries_of_exception}

-- the names of the type variables among tokens
abbrev pub variable_by : Kind → Name → List Name
variable_by ty_var n = n ∷ []
variable_by _ n = []

-- the names of all type variables among tokens, in order
abbrev pub variables_written : List Tok → List Name
variables_written [] = []
variables_written (t ∷ ts) = variable_by t.kind t.name ++ variables_written ts

-- an item's own context: the type variables in it are its own
abbrev pub inside_item : ℕ → List Tok → Context → Context
inside_item n ts c = record c { variables = in_item n; held = variables_written ts }

-- the types of the names that an item binds were made before it
abbrev pub names_made : ℕ → Context → List Bound → List Condition
names_made n c [] = []
names_made n c (b ∷ bs) = made n (b.has_type c) ∷ names_made n c bs

-- components in order behind others
abbrev pub then_components : Components → Components → Components
then_components Done ds = ds
then_components (Component n at m cs) ds = Component n at m (then_components cs ds)

-- the values of these names, as components
abbrev pub value_components : (Typ → Scheme) → Context → List Bound → Components
value_components scheme c [] = Done
value_components scheme c (b ∷ bs) = Component b.name (in_text b.place) (Value (scheme (b.has_type c))) (value_components scheme c bs)

-- let b and b
abbrev pub let_item : ℕ → List Tok → Bool → List Binding → Item
let_item n ts is_rec bs = record {
  node = n;
  asks = λ c seen. let inner = inside_item n ts c in bindings_ask inner is_rec bs ++ names_made n inner (names_of_group bs);
  adds = λ c. let inner = inside_item n ts c in entries_with (generalised_in c.env (held_by inner bs)) inner (names_of_group bs) [];
  components = λ c. let inner = inside_item n ts c in value_components (generalised_in c.env (held_by inner bs)) inner (names_of_group bs);
  named = λ c. no_names;
  makes = λ c. [];
}

-- the names of declarations
abbrev pub names_of_declarations : List DeclarationPart → List Name
names_of_declarations [] = []
names_of_declarations (d ∷ ds) = elim d.head.name [ None ↦ [] | Some t ↦ t.name ∷ [] ] ++ names_of_declarations ds

-- the declarations that have a name, as components
abbrev pub type_components : Context → List DeclarationPart → List DeclarationPart → Components
type_components c all [] = Done
type_components c all (d ∷ ds) = elim d.head.name [ None ↦ type_components c all ds | Some t ↦ Component t.name (in_text (place_of t)) (TypeName (declaration_of c all d)) (type_components c all ds) ]

-- the origin that a declaration makes, if it makes one
abbrev pub origin_by : Definition → List Path
origin_by (Own o) = o ∷ []
origin_by (Is t) = []

-- the origins that a group of declarations makes
abbrev pub origins_of_group : Context → List DeclarationPart → List DeclarationPart → List Path
origins_of_group c all [] = []
origins_of_group c all (d ∷ ds) = origin_by (declaration_of c all d).definition ++ origins_of_group c all ds

-- type d and d
abbrev pub type_item : ℕ → List DeclarationPart → Item
type_item n ds = record {
  node = n;
  asks = λ c seen. group_asks c seen.types ds;
  adds = λ c. reverse (entries_of_group c ds ds);
  components = λ c. type_components c ds ds;
  named = λ c. record no_names { types = names_of_declarations ds };
  makes = λ c. origins_of_group c ds ds;
}

-- an exception that has a name, as a component
abbrev pub exception_components : Context → ConstructorPart → Components
exception_components c k = elim k.name [ None ↦ Done | Some t ↦ Component t.name (in_text (place_of t)) (Exception (option_map (λ a. type_at c a.node) k.argument)) Done ]

-- ;;
abbrev pub no_item : ℕ → Item
no_item n = record { node = n; asks = λ c seen. []; adds = λ c. []; components = λ c. Done; named = λ c. no_names; makes = λ c. [] }

-- exception A of t
abbrev pub exception_item : ℕ → Option ConstructorPart → Item
exception_item n None = no_item n
exception_item n (Some k) = record (no_item n) { asks = λ c seen. exception_asks c k; adds = λ c. entries_of_exception c k; components = λ c. exception_components c k }

-- the names of types, modules and module types behind some items
abbrev pub seen_names : Context → List Item → Seen → Seen
seen_names c [] seen = seen
seen_names c (i ∷ is_) seen = seen_names (under (i.adds c ++ c.env) c) is_ (seen_too seen (i.named c))

-- what items ask in order, each in the environment behind those before
abbrev pub items_ask : Context → Seen → List Item → List Condition
items_ask c seen [] = []
items_ask c seen (i ∷ is_) = i.asks c seen ++ items_ask (under (i.adds c ++ c.env) c) (seen_too seen (i.named c)) is_

-- the environment behind items
abbrev pub behind_items : Context → List Item → Environment
behind_items c [] = c.env
behind_items c (i ∷ is_) = behind_items (under (i.adds c ++ c.env) c) is_

-- the components of items, in order
abbrev pub components_of_items : Context → List Item → Components
components_of_items c [] = Done
components_of_items c (i ∷ is_) = then_components (i.components c) (components_of_items (under (i.adds c ++ c.env) c) is_)

-- the origins that items make
abbrev pub made_by_items : Context → List Item → List Path
made_by_items c [] = []
made_by_items c (i ∷ is_) = i.makes c ++ made_by_items (under (i.adds c ++ c.env) c) is_

-- of the values of one name, and of the exceptions of one name, a structure has the newest alone
abbrev pub is_older : Name → Meaning → Components → Bool
is_older n (Value s) cs = is_some (newest as_value n cs)
is_older n (TypeName d) cs = false
is_older n (Exception o) cs = is_some (newest as_exception n cs)
is_older n (Module s) cs = false
is_older n (ModuleType os s) cs = false

-- components without the values and exceptions that are older than one of their name
abbrev pub newest_alone : Components → Components
newest_alone Done = Done
newest_alone (Component n at m cs) = if is_older n m cs then newest_alone cs else Component n at m (newest_alone cs)

-- the signature of items
abbrev pub signature_of_items : Context → List Item → Signature
signature_of_items c is_ = Structure (newest_alone (components_of_items c is_))
