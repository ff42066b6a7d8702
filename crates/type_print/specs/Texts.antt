-- What is written, piece by piece.
use Rattle.std.specs.Prelude.{◌≡◌, ℕ, ◌<◌, Bool, true, false, List, [], ◌∷◌, ◌++◌, codes, length, nat_eq, Option, Some, None, if◌then◌else◌}
use Rattle.std.specs.Str.{bytes_eq, IsCharBoundary}
use Rattle.std.specs.HashMap.{get}
use Rattle.std.specs.Fmt.{decimal}
use Rattle.text_terms.specs.Bytes.{str_bytes}
use Rattle.type_model.specs.Types.{Path, Typ}
use Rattle.type_model.specs.Types.{Typ as type}
use Rattle.type_nodes.specs.Nodes.{Node, Var, Rigid, Link, Arrow, Tuple, Con}
use Rattle.type_nodes.specs.Links.{root, reading}
use Rattle.signature_model.specs.Declarations.{Name}
use Rattle.type_print_model.specs.Variables.{letter_name, variable_name, variables_of}
use Rattle.type_print_model.specs.Printing.{Names, text_of, cut, alone, most_shown, mentions, PrintsAmong}
use Rattle.env_table.specs.declared.entries.Entry.{Entry}
use Rattle.type_print.specs.declared.variables.VariableName.{VariableName}
use Rattle.type_print.specs.declared.variables.VariableName.TheVariants as name
use Rattle.type_print.specs.declared.variables.Variables.{Variables}
use Rattle.type_print.specs.declared.printing.Known.{Known}
use Rattle.type_print.specs.Paths.{name_in, naming}
use Rattle.type_print.specs.Shown.{shown}
use Rattle.type_print.specs.Pieces.{Part, a_type, a_head, a_text}

-- each character has one byte
abbrev pub IsAscii : List ℕ → Type 0
IsAscii [] = Unit {0}
IsAscii (b ∷ bs) = (b < 128) × IsAscii bs

-- a text that is too long has no character across the place where it is cut
abbrev pub IsCuttable : List ℕ → Type 0
IsCuttable bs = most_shown < length bs → IsCharBoundary bs most_shown

-- the text of a variable's name
abbrev pub name_text : Option VariableName → List ℕ
name_text None = []
name_text (Some (name.Letter k)) = letter_name k
name_text (Some (name.Weak k)) = codes "'_weak" ++ decimal k

-- the text of a variable, by the names that were given
abbrev pub variable_text : Variables → ℕ → List ℕ
variable_text vs v = name_text (get nat_eq vs.names v)

-- origins that were named have these names
abbrev pub KnownAre : (Path → List ℕ) → List Known → Type 0
KnownAre f [] = Unit {0}
KnownAre f (k ∷ ks) = (str_bytes k.name ≡ f k.path.items) × KnownAre f ks

-- whether an origin was named
abbrev pub is_known : Path → List Known → Bool
is_known o [] = false
is_known o (k ∷ ks) = if bytes_eq k.path.items o then true else is_known o ks

-- a node of the store declares an origin by a name
abbrev pub IsDeclared : List Node → Path → Name → Type 0
IsDeclared nodes o name = (n : ℕ) × (ms : List ℕ) × (reading nodes n ≡ Some (Con o name ms))

-- an origin was named as the search names it, by a name by which a node of the store declares it
pub record IsFound (nodes : List Node) (env : List Entry) (k : Known) : Type 0 where
  pub name : Name
  pub declares : IsDeclared nodes k.path.items name
  pub found : str_bytes k.name ≡ name_in env k.path.items name

-- origins were named so, each once
abbrev pub AreKnown : List Node → List Entry → List Known → Type 0
AreKnown nodes env [] = Unit {0}
AreKnown nodes env (k ∷ ks) = IsFound nodes env k × (is_known k.path.items ks ≡ false) × AreKnown nodes env ks

-- an origin is the last one that was named, by this name
pub record IsLast (o : Path) (name : List ℕ) (old new : List Known) : Type 0 where
  pub one : Known
  pub path : one.path.items ≡ o
  pub spelled : str_bytes one.name ≡ name
  pub last : new ≡ old ++ one ∷ []

-- names are those of these variables, and of the origins that were named
pub record Speaks (vs : Variables) (known : List Known) (ns : Names) : Type 0 where
  pub variable : (v : ℕ) → ns.variable v ≡ variable_text vs v
  pub origin : KnownAre ns.origin known

-- a type is written with the names of these variables, and those of the origins that are named then
abbrev pub Writes : Variables → (old new : List Known) → Typ → List ℕ → Type 0
Writes vs old new t text = (ns : Names) → Speaks vs new ns → Speaks vs old ns × (IsCuttable (text_of ns alone t) → text ≡ cut (text_of ns alone t))

-- what a type is printed as where its variables have these names, and origins the paths that the search for them finds
abbrev pub PrintsWith : List Node → List Entry → (ℕ → List ℕ) → Typ → List ℕ → Type 0
PrintsWith nodes env variable t text =
    (ns : Names) → ((v : ℕ) → ns.variable v ≡ variable v) → ((n : ℕ) (p : Path) (name ms : List ℕ) → reading nodes n ≡ Some (Con p name ms) → ns.origin p ≡ name_in env p name) →
    IsCuttable (text_of ns alone t) → text ≡ cut (text_of ns alone t)

-- origins that nodes have are declared by these names
abbrev pub Declares : List Node → (Path → Name) → Type 0
Declares nodes declared = (n : ℕ) (p : Path) (name ms : List ℕ) → reading nodes n ≡ Some (Con p name ms) → declared p ≡ name

-- the names of variables of which some are weak, and those that the search gives origins which are declared by these names
abbrev pub names_found : List Entry → (Path → Name) → (weak all : List ℕ) → Names
names_found env declared weak all = record { variable = variable_name weak all; origin = λ o. name_in env o (declared o) }

-- what a type is printed as, by the definition, where origins are declared by these names, among types with these variables of which some are weak
abbrev pub PrintsNamed : List Entry → (Path → Name) → (weak all : List ℕ) → Typ → List ℕ → Type 0
PrintsNamed env declared weak all t text = IsCuttable (text_of (names_found env declared weak all) alone t) → PrintsAmong naming env declared weak all t text

-- the same for all names that agree with each node of the store
abbrev pub PrintsBy : List Node → List Entry → (weak all : List ℕ) → Typ → List ℕ → Type 0
PrintsBy nodes env weak all t text = (declared : Path → Name) → Declares nodes declared → PrintsNamed env declared weak all t text

-- each origin in a type has a name by which a node of the store declares it
abbrev pub DeclaresIn : List Node → (Path → Name) → Typ → Type 0
DeclaresIn nodes declared t = (o : Path) → mentions o t ≡ true → IsDeclared nodes o (declared o)

-- what a type is printed as, by the definition, with one name for each origin in it, whatever names nodes of the store have for one path
pub record PrintsIn (nodes : List Node) (env : List Entry) (weak all : List ℕ) (t : Typ) (text : List ℕ) : Type 0 where
  pub declared : Path → Name
  pub declares : DeclaresIn nodes declared t
  pub prints : PrintsNamed env declared weak all t text

-- what the two types of a message are printed as, by the definition: the names of variables are shared, and each origin has one name in both
pub record PrintsTwoIn (nodes : List Node) (env : List Entry) (t u : Typ) (first second : List ℕ) : Type 0 where
  pub declared : Path → Name
  pub declares_first : DeclaresIn nodes declared t
  pub declares_second : DeclaresIn nodes declared u
  pub prints_first : PrintsNamed env declared [] (variables_of t ++ variables_of u) t first
  pub prints_second : PrintsNamed env declared [] (variables_of t ++ variables_of u) u second

-- the names of the variables of two types, which they share, by first occurrence
abbrev pub shared_names : List Node → (a b : ℕ) → ℕ → List ℕ
shared_names nodes a b = variable_name [] (variables_of (shown nodes a) ++ variables_of (shown nodes b))

-- the texts of two types, by each naming of origins that agrees with all nodes, and by one of their own
pub record ShowTwo (nodes : List Node) (env : List Entry) (a b : ℕ) (first second : List ℕ) : Type 0 where
  pub found_first : PrintsWith nodes env (shared_names nodes a b) (shown nodes a) first
  pub found_second : PrintsWith nodes env (shared_names nodes a b) (shown nodes b) second
  pub inside : PrintsTwoIn nodes env (shown nodes a) (shown nodes b) first second

-- the name of a type's constructor
abbrev pub head_text : Names → Typ → List ℕ
head_text ns (type.Var v) = []
head_text ns (type.Arrow a b) = []
head_text ns (type.Tuple ts) = []
head_text ns (type.Con o ts) = ns.origin o

-- what is written for a piece at once
abbrev pub said_node : Names → ℕ → Option Node → List ℕ
said_node ns r None = []
said_node ns r (Some (Var level scope)) = ns.variable r
said_node ns r (Some Rigid) = ns.variable r
said_node ns r (Some (Link m)) = []
said_node ns r (Some (Arrow a b)) = []
said_node ns r (Some (Tuple ms)) = []
said_node ns r (Some (Con path name ms)) = []

-- the name of a node's type constructor, if the node has one
abbrev pub said_head : Names → Option Node → List ℕ
said_head ns None = []
said_head ns (Some (Var level scope)) = []
said_head ns (Some Rigid) = []
said_head ns (Some (Link m)) = []
said_head ns (Some (Arrow a b)) = []
said_head ns (Some (Tuple ms)) = []
said_head ns (Some (Con path name ms)) = ns.origin path

-- the same by the piece: a type, the name of a constructor, or some bytes
abbrev pub said : List Node → Names → Part → List ℕ
said nodes ns (a_type n w) = said_node ns (root nodes n) (reading nodes n)
said nodes ns (a_head n) = said_head ns (reading nodes n)
said nodes ns (a_text s) = s

-- the whole text of a piece
abbrev pub part_text : List Node → Names → Part → List ℕ
part_text nodes ns (a_type n w) = text_of ns w (shown nodes n)
part_text nodes ns (a_head n) = head_text ns (shown nodes n)
part_text nodes ns (a_text s) = s

-- the whole text of several pieces
abbrev pub parts_text : List Node → Names → List Part → List ℕ
parts_text nodes ns [] = []
parts_text nodes ns (p ∷ ps) = part_text nodes ns p ++ parts_text nodes ns ps
