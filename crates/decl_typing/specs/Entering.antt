-- What an item that declares an exception makes: its entry, and the root of its type.
use Rattle.std.specs.Prelude.{◌≡◌, ℕ, Bool, List, [], ◌∷◌, Option, Some, None, option_map}
use Rattle.std.specs.declared.rc.Rc.{Rc}
use Rattle.std.specs.declared.alloc.Global.{Global}
use Rattle.token_model.specs.Kinds.{Tok}
use Rattle.tree_model.specs.Rows.{con_row}
use Rattle.tree_model.specs.Trees.{Tree, Part, taken, inner, missing}
use Rattle.text_terms.specs.Bytes.{str_bytes}
use Rattle.signature_model.specs.Declarations.{in_text}
use Rattle.typing_model.specs.Parts.{place_of}
use Rattle.typing_conditions.specs.Environments.{defined_at}
use Rattle.signature_model.specs.Records.{is_some}
use Rattle.typing_model.specs.BuiltIns.{exn_type}
use Rattle.typing_model.specs.Declarations.{read_optional, exception_asks, constructor_row}
use Rattle.env_table.specs.declared.entries.Constructor.{Constructor}
use Rattle.env_table.specs.declared.entries.Entry.{Entry}
use Rattle.env_table.specs.declared.entries.Kind.TheVariants as kind
use Rattle.env_table.specs.declared.entries.What.TheVariants as what
use Rattle.row_parts.specs.Numbered.{Numbered, first_in, token_in}
use Rattle.typing_state.specs.declared.parts.Parts.{Parts}
use Rattle.typing_rows.specs.Treating.{TreatsTo}
use Rattle.operand_laws.specs.Formed.{row_of, IsFormed}
use Rattle.operand_laws.specs.Operands.{number_of, parts_of}
use Rattle.decl_typing.specs.declared.decls.Declared.{Declared}
use Rattle.decl_typing.specs.Denoting.{ClosesOption}
use Rattle.decl_typing.specs.Settling.{argument_of}

-- an entry is an exception whose name is written as this token, with this root, which takes an argument or not
pub record IsException (x : Entry) (t : Tok) (r : ℕ) (given : Bool) : Type 0 where
  pub cell : Rc Constructor Global
  pub what : x.what ≡ what.Exception cell
  pub root : cell.value.root.0 ≡ r
  pub takes : cell.value.has_argument ≡ given
  pub name : str_bytes x.name ≡ t.name
  pub kind : x.kind ≡ kind.Constructor
  pub placed : defined_at x.place ≡ in_text (place_of t)

-- Between items a call closes the root of an exception, whose node has this number.
abbrev pub ClosesException : (a b : Parts) → List Entry → (number : ℕ) → Tree → (e r : ℕ) → Type 0
ClosesException a b env number t e r =
    IsFormed number t → row_of t ≡ con_row → ClosesOption a b env [] [] (λ c. exception_asks c (constructor_row (number_of a.item number) (parts_of a.item number t))) (constructor_row (number_of a.item number) (parts_of a.item number t)).argument exn_type e r

-- Where faults are reported the names in scope are recorded for the nodes in the argument of a constructor.
abbrev pub TreatsArgument : (a b : Parts) → List Entry → (number : ℕ) → Tree → Type 0
TreatsArgument a b env number t = IsFormed number t → TreatsTo a b env (λ c. read_optional c (argument_of a.item number t))

-- the same for an exception, with the node of its constructor
abbrev pub TreatsException : (a b : Parts) → List Entry → (number : ℕ) → Tree → Type 0
TreatsException a b env number t = IsFormed number t → row_of t ≡ con_row → TreatsTo a b env (λ c. exception_asks c (constructor_row (number_of a.item number) (parts_of a.item number t)))

-- The entry that such a call answers is an exception with that root, of the name that is written. `treats`: where faults are reported, the names in scope are recorded for each node that is treated in it.
pub record DeclaresOne (a b : Parts) (env : List Entry) (number : ℕ) (t : Tree) (e : ℕ) (x : Entry) : Type 0 where
  pub root : ℕ
  pub name : Tok
  pub entry : IsException x name root (is_some (first_in number t 2))
  pub named : token_in t 0 ≡ Some name
  pub closes : ClosesException a b env number t e root
  pub treats : TreatsException a b env number t

-- it answers none where no name is written
abbrev pub DeclaresException : (a b : Parts) → List Entry → (number : ℕ) → Tree → (e : ℕ) → Option (Rc Entry Global) → Type 0
DeclaresException a b env number t e None = token_in t 0 ≡ None
DeclaresException a b env number t e (Some x) = DeclaresOne a b env number t e x.value

-- the same of what stands behind `exception`
abbrev pub DeclaresPart : (a b : Parts) → List Entry → (number : ℕ) → Part → (e : ℕ) → Option (Rc Entry Global) → Type 0
DeclaresPart a b env number (taken t) e x = Unit {0}
DeclaresPart a b env number (inner t) e x = DeclaresException a b env number t e x
DeclaresPart a b env number (missing q) e x = x ≡ None

-- the same where it may be left out
abbrev pub DeclaresPartIf : (a b : Parts) → List Entry → Option Numbered → (e : ℕ) → Option (Rc Entry Global) → Type 0
DeclaresPartIf a b env None e x = x ≡ None
DeclaresPartIf a b env (Some o) e x = DeclaresPart a b env o.number o.part e x

-- an entry that may be there, alone, and before others
abbrev pub alone : Option (Rc Entry Global) → List (Rc Entry Global)
alone None = []
alone (Some x) = x ∷ []

abbrev pub entered : Option (Rc Entry Global) → List Entry → List Entry
entered None env = env
entered (Some x) env = x.value ∷ env

-- What an item adds that declares an exception: its entry, where it has one, and no origin.
pub record DeclaresItem (a b : Parts) (env : List Entry) (o : Option Numbered) (e : ℕ) (d : Declared) : Type 0 where
  pub entry : Option (Rc Entry Global)
  pub declares : DeclaresPartIf a b env o e entry
  pub entries : d.entries.items ≡ alone entry
  pub behind : d.env ≡ entered entry env
  pub makes : d.makes.items ≡ []
