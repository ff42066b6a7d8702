-- The first environment, of the built-in types and the prelude, and what is found of a whole text that starts from it (OCaml manual, "The core library", for what the prelude has).
use Rattle.std.specs.Prelude.{◌≡◌, ℕ, Bool, true, List, map, filter_map}
use Rattle.token_model.specs.Kinds.{Tok}
use Rattle.token_model.specs.Tokens.{Lex}
use Rattle.tree_model.specs.Trees.{Tree, node}
use Rattle.grammar_model.specs.Named.{named}
use Rattle.grammar_model.specs.Named as trees
use Rattle.grammar_model.specs.Ocaml.{program_text, interface_text, grammar, row_name}
use Rattle.recovery_model.specs.Recovery.{recover}
use Rattle.type_model.specs.Types.{Typ}
use Rattle.signature_model.specs.Declarations.{Place, in_text, in_prelude, built_in, Constructor, Label, Shape, Opaque, Variant, Labels, Declaration}
use Rattle.signature_model.specs.Signatures.{Signature, Hole, Structure, Functor, Components, Done, Component, Meaning, Value, TypeName, Exception, Module, ModuleType}
use Rattle.signature_model.specs.Entries.{Referent, a_value, a_constructor, an_exception, a_label, a_type, a_module, a_module_type, Entry, entry, Environment}
use Rattle.typing_model.specs.Demands.{Site, AllHold}
use Rattle.typing_model.specs.Contexts.{Choice}
use Rattle.typing_model.specs.Parts.{Item, no_names}
use Rattle.typing_model.specs.BuiltIns.{built_in_names}
use Rattle.typing_model.specs.Items.{items_ask, behind_items}
use Rattle.typing_model.specs.Meanings.{children_of}
use Rattle.typing_model.specs.Typings.{outermost, IsKept, IsPrincipal}
use Rattle.typing_model.specs.Faults.{Fault, IsFaultAt}
use Rattle.typing_model.specs.PreludeText.{prelude_text}

-- a place of the prelude's own text
abbrev pub place_there : Place → Place
place_there (in_text p) = in_prelude p
place_there (in_prelude p) = in_prelude p
place_there (built_in k) = built_in k

-- a constructor that is defined in the prelude
abbrev pub constructor_there : Constructor → Constructor
constructor_there k = record k { place = place_there k.place }

-- a label that is defined there
abbrev pub label_there : Label → Label
label_there l = record l { place = place_there l.place }

-- what is told of values there
abbrev pub shape_there : Shape → Shape
shape_there Opaque = Opaque
shape_there (Variant ks) = Variant (map constructor_there ks)
shape_there (Labels ls) = Labels (map label_there ls)

-- a declaration there
abbrev pub declaration_there : Declaration → Declaration
declaration_there d = record d { shape = shape_there d.shape }

-- a signature whose names are defined in the prelude
abbrev mutual
  pub signature_there : Signature → Signature
  signature_there Hole = Hole
  signature_there (Structure cs) = Structure (components_there cs)
  signature_there (Functor pm p bm b) = Functor pm (signature_there p) bm (signature_there b)

  -- components that are defined there
  pub components_there : Components → Components
  components_there Done = Done
  components_there (Component n at m cs) = Component n (place_there at) (meaning_there m) (components_there cs)

  -- what a component that is defined there stands for
  pub meaning_there : Meaning → Meaning
  meaning_there (Value s) = Value s
  meaning_there (TypeName d) = TypeName (declaration_there d)
  meaning_there (Exception o) = Exception o
  meaning_there (Module s) = Module (signature_there s)
  meaning_there (ModuleType made s) = ModuleType made (signature_there s)

-- what a name of the prelude stands for
abbrev pub referent_there : Referent → Referent
referent_there (a_value s) = a_value s
referent_there (a_constructor d k) = a_constructor (declaration_there d) (constructor_there k)
referent_there (an_exception o) = an_exception o
referent_there (a_label d l) = a_label (declaration_there d) (label_there l)
referent_there (a_type d) = a_type (declaration_there d)
referent_there (a_module s) = a_module (signature_there s)
referent_there (a_module_type t) = a_module_type (record t { signature = signature_there t.signature })

-- an entry whose name is defined in the prelude; that of a built-in type stays
abbrev pub entry_there : Entry → Entry
entry_there e = entry e.name (place_there e.place) (referent_there e.stands_for)

-- the items of a signature's tree; their nodes are numbered on from 0, as those of the item 0
abbrev pub specifications_of : Tree → List Item
specifications_of (node r x ps) = filter_map (λ k. k.signature_item) (children_of 0 r ps)

-- the items of a prelude of these tokens
abbrev pub prelude_items : List Tok → List Item
prelude_items ts = specifications_of (named row_name (recover (grammar interface_text) ts).0)

-- all demands are kept
abbrev pub every_site : Site → Bool
every_site s = true

-- the names in scope behind the built-in types and a prelude of these tokens
abbrev pub behind_prelude : List Tok → Choice → Environment
behind_prelude ts choice = map entry_there (behind_items (outermost built_in_names every_site choice) (prelude_items ts))

-- the first environment: that of the prelude's text, in a typing that keeps all of its demands
pub record IsFirst (env : Environment) : Type 0 where
  pub tokens : List Tok
  pub lexed : Lex prelude_text tokens
  pub choice : Choice
  pub holds : AllHold every_site (items_ask (outermost built_in_names every_site choice) no_names (prelude_items tokens))
  pub stands : env ≡ behind_prelude tokens choice

-- the trees of the items of a program of these tokens
abbrev pub program_items : List Tok → List Tree
program_items ts = trees.items_of (named row_name (recover (grammar program_text) ts).0)

-- what a text is typed as: the first environment, and its items' trees
pub record IsSetting (text : List ℕ) (env : Environment) (items : List Tree) : Type 0 where
  pub tokens : List Tok
  pub lexed : Lex text tokens
  pub parsed : items ≡ program_items tokens
  pub first : IsFirst env

-- the kept demands of a text, and a most general typing
pub record IsFound (text : List ℕ) (kept : Site → Bool) (types : ℕ → Typ) : Type 0 where
  pub env : Environment
  pub items : List Tree
  pub setting : IsSetting text env items
  pub keeps : IsKept env items kept
  pub principal : IsPrincipal env items kept types

-- a fault of the types and names of a text
pub record IsFaultOf (text : List ℕ) (kept : Site → Bool) (s : Site) (f : Fault) : Type 0 where
  pub env : Environment
  pub items : List Tree
  pub setting : IsSetting text env items
  pub keeps : IsKept env items kept
  pub fault : IsFaultAt env items kept s f
