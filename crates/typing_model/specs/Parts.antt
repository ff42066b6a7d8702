-- What the parts of a program mean by their sorts: an expression, a pattern, a type expression, a binding, a case, a field (OCaml manual, 11.4, 11.6 to 11.8, 11.10 and 11.11; Wright 1995, for non-expansive expressions).
use Rattle.std.specs.Prelude.{ℕ, ◌-◌, Bool, true, ◌==◌, List, [], ◌∷◌, ◌++◌, map, filter_map, Option, Some, None, if◌then◌else◌}
use Rattle.type_model.specs.Types.{Path}
use Rattle.token_model.specs.Kinds.{Tok}
use Rattle.tree_model.specs.Trees.{Place, place, Part, taken, inner, missing}
use Rattle.signature_model.specs.Declarations.{Name, Label}
use Rattle.signature_model.specs.Entries.{Entry}
use Rattle.signature_model.specs.Signatures.{Signature, Hole, Components, Template, template}
use Rattle.typing_model.specs.Demands.{Condition}
use Rattle.typing_model.specs.Contexts.{Context, Bound, unresolved}

-- a path as it is written: the qualifiers and the last token, which may be missing
pub record Written : Type 0 where
  pub qualifiers : List Tok
  pub last : Option Tok

-- what an expression is where its place in another decides more than its type
pub data Form : Type 0 where
  -- A, M.A
  a_constructor : Written → Form
  -- x, M.x, which may be a label
  a_path : Written → Form
  -- a numeral with a point or an exponent
  a_float : Form
  -- false
  a_false : Form
  -- e . l, and what its label is in a context
  a_field : Written → (Context → Option Label) → Form
  -- missing
  no_expression : Form
  other : Form

-- an expression: its node, where it stands, its form, what it asks, what it asks directly under a minus, and whether it is non-expansive
pub record Expression : Type 0 where
  pub node : ℕ
  pub at : Place
  pub form : Form
  pub typed : Context → List Condition
  pub negated : Context → List Condition
  pub is_value : Context → Bool

-- a pattern: its node, where it stands, the names that it binds, all names in it, what it asks behind these names, and its constructor if it is one alone
pub record Pattern : Type 0 where
  pub node : ℕ
  pub at : Place
  pub names : List Bound
  pub mentions : List Name
  pub matched : Context → List Name → List Condition
  pub constructor : Option Written

-- a type expression: its node, where it stands, what it asks, its parts where it is several types in parentheses, and the constructors without a module in it
pub record TypeExpression : Type 0 where
  pub node : ℕ
  pub at : Place
  pub read : Context → List Condition
  pub mentions : List Name
  pub grouped : List ℕ
  pub grouped_read : Context → List Condition

-- p1 p2 : t = e
pub record Binding : Type 0 where
  pub node : ℕ
  pub pattern : Pattern
  pub parameters : List Pattern
  pub annotation : Option TypeExpression
  pub body : Expression

-- p when e -> e
pub record Case : Type 0 where
  pub node : ℕ
  pub pattern : Pattern
  pub guard : Option Expression
  pub body : Expression

-- l = e
pub record Field : Type 0 where
  pub node : ℕ
  pub label : Written
  pub value : Option Expression

-- l = p
pub record FieldPattern : Type 0 where
  pub node : ℕ
  pub label : Written
  pub pattern : Option Pattern

-- ('a, 'b) t
pub record Head : Type 0 where
  pub parameters : List Tok
  pub name : Option Tok

-- A, A of t
pub record ConstructorPart : Type 0 where
  pub node : ℕ
  pub name : Option Tok
  pub argument : Option TypeExpression

-- l : t, mutable l : t
pub record LabelPart : Type 0 where
  pub node : ℕ
  pub is_mutable : Bool
  pub name : Option Tok
  pub body : TypeExpression

-- what a declaration tells of its values
pub data Told : Type 0 where
  -- A | B
  constructors : List ConstructorPart → Told
  -- { l : t }
  labels : List LabelPart → Told

-- what stands behind the `=` of a declaration
pub data RightSide : Type 0 where
  -- t, t = A | B: the node of the row, the type, its last token, and what is told of its values
  another : ℕ → TypeExpression → Option Tok → Option Told → RightSide
  -- A | B, { l : t }
  own : Told → RightSide

-- h = r
pub record DeclarationPart : Type 0 where
  pub node : ℕ
  pub head : Head
  pub right : Option RightSide

-- a module expression: its node, where it stands, what it asks, its signature, and the origins that it makes
pub record ModuleExpression : Type 0 where
  pub node : ℕ
  pub at : Place
  pub asks : Context → List Condition
  pub signature : Context → Signature
  pub makes : Context → List Path

-- a module type: its node, what it asks, and its template
pub record ModuleType : Type 0 where
  pub node : ℕ
  pub asks : Context → List Condition
  pub template : Context → Template

-- type h = t, behind `with`
pub record WithClause : Type 0 where
  pub node : ℕ
  pub head : Head
  pub body : TypeExpression

-- (X : S)
pub record Parameter : Type 0 where
  pub name : Option Tok
  pub module_type : ModuleType

-- the names of types, modules and module types that stand in a structure or signature
pub record Seen : Type 0 where
  pub types : List Name
  pub modules : List Name
  pub module_types : List Name

-- an item of a structure or a signature: its node, what it asks where these names stand before it, the entries that it adds, the newest first, the components that it adds, in order, the names of its kinds, and the origins that it makes
pub record Item : Type 0 where
  pub node : ℕ
  pub asks : Context → Seen → List Condition
  pub adds : Context → List Entry
  pub components : Context → Components
  pub named : Context → Seen
  pub makes : Context → List Path

-- a part of a row: its slot, and what it is as each sort; a part that is missing, or of another sort, is none of those that may be none
pub record Child : Type 0 where
  pub slot : ℕ
  pub part : Part
  pub expression : Expression
  pub pattern : Pattern
  pub type_expression : TypeExpression
  pub binding : Option Binding
  pub case : Option Case
  pub field : Option Field
  pub field_pattern : Option FieldPattern
  pub head : Option Head
  pub constructor : Option ConstructorPart
  pub label : Option LabelPart
  pub told : Option Told
  pub right_side : Option RightSide
  pub declaration : Option DeclarationPart
  pub item : Option Item
  pub signature_item : Option Item
  pub module_expression : ModuleExpression
  pub module_type : ModuleType
  pub with_clause : Option WithClause

-- the parts in a slot, in order
abbrev pub in_slot : ℕ → List Child → List Child
in_slot s [] = []
in_slot s (c ∷ cs) = if c.slot == s then c ∷ in_slot s cs else in_slot s cs

-- the first of a list
abbrev pub first_of : {A : Type 0} → List A → Option A
first_of [] = None
first_of (x ∷ xs) = Some x

-- the last of a list
abbrev pub last_of : {A : Type 0} → List A → Option A
last_of [] = None
last_of (x ∷ []) = Some x
last_of (x ∷ y ∷ ys) = last_of (y ∷ ys)

-- the token of a part that is one
abbrev pub token_of : Part → Option Tok
token_of (taken t) = Some t
token_of (inner t) = None
token_of (missing p) = None

-- the tokens in a slot
abbrev pub tokens_in : ℕ → List Child → List Tok
tokens_in s cs = filter_map (λ c. token_of c.part) (in_slot s cs)

-- the same with the missing ones
abbrev pub optional_tokens_in : ℕ → List Child → List (Option Tok)
optional_tokens_in s cs = map (λ c. token_of c.part) (in_slot s cs)

-- the first token in a slot
abbrev pub token_in : ℕ → List Child → Option Tok
token_in s cs = first_of (tokens_in s cs)

-- a path whose qualifiers and whose last token stand in two slots
abbrev pub path_in : ℕ → ℕ → List Child → Written
path_in q l cs = record { qualifiers = tokens_in q cs; last = token_in l cs }

-- where a token stands
abbrev pub place_of : Tok → Place
place_of t = place t.start t.end

-- where the name of a qualifier is, which ends with a point
abbrev pub place_without_point : Tok → Place
place_without_point t = place t.start (t.end - 1)

-- a missing part: any type, and no demand
abbrev pub no_expression_at : ℕ → Place → Expression
no_expression_at n at = record { node = n; at = at; form = no_expression; typed = λ c. []; negated = λ c. []; is_value = λ c. true }

-- a missing pattern: it binds no name
abbrev pub no_pattern_at : ℕ → Place → Pattern
no_pattern_at n at = record { node = n; at = at; names = []; mentions = []; matched = λ c seen. []; constructor = None }

-- a missing type expression
abbrev pub no_type_at : ℕ → Place → TypeExpression
no_type_at n at = record { node = n; at = at; read = λ c. unresolved c n; mentions = []; grouped = n ∷ []; grouped_read = λ c. unresolved c n }

-- the expressions, patterns and type expressions in a slot, missing ones included
abbrev pub expressions_in : ℕ → List Child → List Expression
expressions_in s cs = map (λ c. c.expression) (in_slot s cs)

-- the patterns in a slot
abbrev pub patterns_in : ℕ → List Child → List Pattern
patterns_in s cs = map (λ c. c.pattern) (in_slot s cs)

-- the type expressions in a slot
abbrev pub types_in : ℕ → List Child → List TypeExpression
types_in s cs = map (λ c. c.type_expression) (in_slot s cs)

-- the one in a slot; a slot that must be filled always is, so the other answer is never asked for
abbrev pub expression_in : ℕ → List Child → Expression
expression_in s cs = elim (first_of (expressions_in s cs)) [ None ↦ no_expression_at 0 (place 0 0) | Some e ↦ e ]

-- the pattern in a slot
abbrev pub pattern_in : ℕ → List Child → Pattern
pattern_in s cs = elim (first_of (patterns_in s cs)) [ None ↦ no_pattern_at 0 (place 0 0) | Some p ↦ p ]

-- the type expression in a slot
abbrev pub type_in : ℕ → List Child → TypeExpression
type_in s cs = elim (first_of (types_in s cs)) [ None ↦ no_type_at 0 (place 0 0) | Some t ↦ t ]

-- a missing module or module type is a hole
abbrev pub no_module_at : ℕ → Place → ModuleExpression
no_module_at n at = record { node = n; at = at; asks = λ c. []; signature = λ c. Hole; makes = λ c. [] }

-- a missing module type
abbrev pub no_module_type_at : ℕ → ModuleType
no_module_type_at n = record { node = n; asks = λ c. []; template = λ c. template [] Hole }

-- the module expressions in a slot
abbrev pub modules_in : ℕ → List Child → List ModuleExpression
modules_in s cs = map (λ c. c.module_expression) (in_slot s cs)

-- the module types in a slot
abbrev pub module_types_in : ℕ → List Child → List ModuleType
module_types_in s cs = map (λ c. c.module_type) (in_slot s cs)

-- the module expression in a slot
abbrev pub module_in : ℕ → List Child → ModuleExpression
module_in s cs = elim (first_of (modules_in s cs)) [ None ↦ no_module_at 0 (place 0 0) | Some m ↦ m ]

-- the module type in a slot
abbrev pub module_type_in : ℕ → List Child → ModuleType
module_type_in s cs = elim (first_of (module_types_in s cs)) [ None ↦ no_module_type_at 0 | Some y ↦ y ]

-- no names
abbrev pub no_names : Seen
no_names = record { types = []; modules = []; module_types = [] }

-- names and others
abbrev pub seen_too : Seen → Seen → Seen
seen_too a b = record { types = a.types ++ b.types; modules = a.modules ++ b.modules; module_types = a.module_types ++ b.module_types }
