-- What is said of a text's structure: its outline, and its faults.
use Rattle.std.specs.Prelude.{◌≡◌, ℕ, List, ◌++◌, codes, map, Bool, true, false}
use Rattle.text_model.specs.Positions.{position_of}
use Rattle.token_model.specs.Kinds.{Tok}
use Rattle.token_model.specs.Tokens.{Lex}
use Rattle.tree_model.specs.Trees.{Tree}
use Rattle.grammar_model.specs.Named.{named, items_of}
use Rattle.recovery_model.specs.Recovery.{recover}
use Rattle.grammar_model.specs.Ocaml.{grammar, program_text, row_name}
use Rattle.query_model.specs.Outlines.{Kind, value, type_name, exception_name, module_name, module_type, Member, Members, member, no_members, also, members_of, outline}
use Rattle.query_model.specs.Faults.{Fault, Listed, TyperFault, by_typer, told, page, has_more}
use Rattle.fault_model.specs.Refused.{IsOfValues, AreRefused}
use Rattle.service_model.specs.Replies as said
use Rattle.service_model.specs.WellTyped.{is_well_typed}

-- the items of a text of these tokens, finished or not
unfoldable pub items_in : List Tok → List Tree
items_in tokens = items_of (named row_name (recover (grammar program_text) tokens).0)

-- the faults that its parser tells, in the order of the tokens
unfoldable pub faults_in : List Tok → List Fault
faults_in tokens = map told (recover (grammar program_text) tokens).1

-- ---- the outline

-- what a name stands for, as it is printed
abbrev pub kind_text : Kind → List ℕ
kind_text value = codes "Value"
kind_text type_name = codes "Type"
kind_text exception_name = codes "Exception"
kind_text module_name = codes "Module"
kind_text module_type = codes "ModuleType"

-- a bound name with lines and columns of a text in place of offsets, and all that stands inside
abbrev mutual
  pub shown_member : List ℕ → Member → said.Outlined
  shown_member text (member k n p ms) = said.outlined (position_of text p.start) (position_of text p.end) (kind_text k) n (shown_members text ms)

  -- the same of each of these members
  pub shown_members : List ℕ → Members → said.Outline
  shown_members text no_members = said.no_more
  shown_members text (also m ms) = said.next (shown_member text m) (shown_members text ms)

-- the outline of a text of these tokens
abbrev pub outline_said : List ℕ → List Tok → said.Said
outline_said text tokens = said.outline (shown_members text (members_of (outline (items_in tokens))))

-- what is said of the outline
abbrev pub OutlineIs : List ℕ → said.Said → Type 0
OutlineIs text s = (tokens : List Tok) × Lex text tokens × (s ≡ outline_said text tokens)

-- ---- the faults

-- a fault with lines and columns of a text in place of offsets
abbrev pub shown_fault : List ℕ → Listed → said.Fault
shown_fault text f = record { start = position_of text f.span.start; end = position_of text f.span.end; kind = f.kind; message = f.message; source = f.source }

-- the page of these faults of a text
abbrev pub faults_said : List ℕ → List Fault → said.Said
faults_said text fs = said.faults (map (shown_fault text) (page fs)) (has_more fs)

-- What is known of the typer's faults of a text: those of a text of `let`, `;;` and exceptions without an argument, but for warnings, are those of the demands that aren't kept, in order, each at its place, of its kind and with its message. So such a text that can be typed has none.
abbrev pub TyperFaults : List ℕ → List TyperFault → Type 0
TyperFaults text typed = (t : IsOfValues text) → ∥ AreRefused (items_in t.tokens) typed ∥₁

-- the page of the parser's faults together with those of the typer, in the order of their demands; which these are stays open, but for what `TyperFaults` says
abbrev pub FaultsAre : List ℕ → List Fault → said.Said → Type 0
FaultsAre text parsed s = (typed : List TyperFault) × TyperFaults text typed × (s ≡ faults_said text (parsed ++ map by_typer typed))

-- of a text that is well typed so the parser's faults alone
abbrev pub ErrorsBy : Bool → List ℕ → List Tok → said.Said → Type 0
ErrorsBy true text tokens s = s ≡ faults_said text (faults_in tokens)
ErrorsBy false text tokens s = FaultsAre text (faults_in tokens) s

-- what is said of the faults
abbrev pub ErrorsAre : List ℕ → said.Said → Type 0
ErrorsAre text s = (tokens : List Tok) × Lex text tokens × ErrorsBy (is_well_typed tokens) text tokens s
