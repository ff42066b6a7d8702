-- The demands of a text that aren't kept: where each stands, which kind of fault it is, and what is reported of it.
use Rattle.std.specs.Prelude.{◌≡◌, ℕ, ◌<◌, ◌^◌, Bool, true, false, List, [], ◌∷◌, All, map, Option, Some, None, if◌then◌else◌}
use Rattle.std.specs.List.{AllZip}
use Rattle.token_model.specs.Kinds.{Tok}
use Rattle.token_model.specs.Tokens.{Lex}
use Rattle.tree_model.specs.Trees.{Place, Tree, size_of}
use Rattle.query_model.specs.Faults.{TyperKind, TyperFault}
use Rattle.query_model.specs.Faults as fault
use Rattle.signature_model.specs.Entries.{Environment}
use Rattle.typing_model.specs.Demands.{Site, Complaint, unbound, arity, no_label, not_mutable, incomplete, twice, one_side, too_large, cyclic, differs, no_functor, no_abstract_type, Demand, equal, test, agrees, matches, closes, Condition, same, instance, made, known, demand, treated, AllHold}
use Rattle.typing_model.specs.Messages.{complaint_text}
use Rattle.typing_model.specs.Contexts.{Choice}
use Rattle.typing_model.specs.Typings.{conditions_of, IsKept, IsPrincipal}
use Rattle.typing_model.specs.First.{program_items, IsFirst}
use Rattle.typing_model.specs.Plain.{has_values_alone}
use Rattle.fault_model.specs.Values.{are_bare}
use Rattle.fault_model.specs.Messages.{IsMessageAt}

-- the kind of fault that a complaint is
abbrev pub kind_of_complaint : Complaint → TyperKind
kind_of_complaint (unbound w x) = fault.bound
kind_of_complaint (arity x n m) = fault.arity
kind_of_complaint no_label = fault.label
kind_of_complaint (not_mutable x) = fault.mutable
kind_of_complaint (incomplete x) = fault.complete
kind_of_complaint (twice x) = fault.unique
kind_of_complaint (one_side x) = fault.sides
kind_of_complaint too_large = fault.range
kind_of_complaint (cyclic x) = fault.cycle
kind_of_complaint (differs x) = fault.reexport
kind_of_complaint no_functor = fault.functor
kind_of_complaint (no_abstract_type x n) = fault.with

-- the kind of fault that a demand is where it isn't kept
abbrev pub kind_asked : Demand → TyperKind
kind_asked (equal t u) = fault.equal
kind_asked (test c b) = kind_of_complaint c
kind_asked (agrees c n s t) = kind_of_complaint c
kind_asked (matches A t) = fault.matching
kind_asked (closes env s) = fault.closing

-- the message of a demand where it isn't kept, but for those that name types and signatures
abbrev pub says_asked : Demand → Option (List ℕ)
says_asked (equal t u) = None
says_asked (test c b) = Some (complaint_text c)
says_asked (agrees c n s t) = Some (complaint_text c)
says_asked (matches A t) = None
says_asked (closes env s) = None

-- where a fault stands, of which kind it is, and its message, but for those that name types and signatures
pub record Refused : Type 0 where
  pub at : Place
  pub kind : TyperKind
  pub says : Option (List ℕ)

-- a demand at a place, as a fault
abbrev pub refused_as : Place → Demand → Refused
refused_as at d = record { at = at; kind = kind_asked d; says = says_asked d }

-- the demands that aren't kept, in order
abbrev pub refused_of : (Site → Bool) → List Condition → List Refused
refused_of kept [] = []
refused_of kept (same t u ∷ cs) = refused_of kept cs
refused_of kept (instance s t ∷ cs) = refused_of kept cs
refused_of kept (made n t ∷ cs) = refused_of kept cs
refused_of kept (known t ∷ cs) = refused_of kept cs
refused_of kept (demand s at d ∷ cs) = if kept s then refused_of kept cs else refused_as at d ∷ refused_of kept cs
refused_of kept (treated n env ∷ cs) = refused_of kept cs

-- their sites
abbrev pub sites_refused : (Site → Bool) → List Condition → List Site
sites_refused kept [] = []
sites_refused kept (same t u ∷ cs) = sites_refused kept cs
sites_refused kept (instance s t ∷ cs) = sites_refused kept cs
sites_refused kept (made n t ∷ cs) = sites_refused kept cs
sites_refused kept (known t ∷ cs) = sites_refused kept cs
sites_refused kept (demand s at d ∷ cs) = if kept s then sites_refused kept cs else s ∷ sites_refused kept cs
sites_refused kept (treated n env ∷ cs) = sites_refused kept cs

-- whether a kind is that of a warning
abbrev pub is_warning : TyperKind → Bool
is_warning fault.missed = true
is_warning fault.unused = true
is_warning _ = false

-- a message of a fault of a kind, but for the kinds whose messages name types and signatures
abbrev pub says_by : TyperKind → List ℕ → Option (List ℕ)
says_by fault.equal message = None
says_by fault.matching message = None
says_by fault.closing message = None
says_by _ message = Some message

-- a fault that is reported, without a message that names types or signatures
abbrev pub reported_as : TyperFault → Refused
reported_as f = record { at = f.span; kind = f.kind; says = says_by f.kind f.message }

-- what is reported, but for the warnings among it
abbrev pub standing : List TyperFault → List TyperFault
standing [] = []
standing (f ∷ fs) = if is_warning f.kind then standing fs else f ∷ standing fs

-- items of a text that are `let`, `;;` and exceptions that have a name and take no argument, each of fewer than 2^32 nodes
pub record AreOfValues (items : List Tree) : Type 0 where
  pub tokens : List Tok
  pub parsed : items ≡ program_items tokens
  pub few : All (λ t. size_of t < 2 ^ 32) items
  pub values : has_values_alone items ≡ true
  pub bare : are_bare items ≡ true

-- the same of the items of a text
pub record IsOfValues (text : List ℕ) : Type 0 where
  pub tokens : List Tok
  pub lexed : Lex text tokens
  pub items : AreOfValues (program_items tokens)

-- a fault that two types differ is at the place of the demand of a site, with its message
abbrev pub IsTold : Environment → List Tree → (Site → Bool) → Site → TyperFault → Type 0
IsTold env items kept s f = f.kind ≡ fault.equal → IsMessageAt env items kept s f.span f.message

-- What of the faults of items is fixed by a principal typing with the kept demands: but for warnings there is one for each demand that isn't kept, in order, at its place, of its kind and with its message, where that is about names;
-- and each that two types differ has the message of its own demand.
pub record AreRefused (items : List Tree) (faults : List TyperFault) : Type 0 where
  pub env : Environment
  pub first : IsFirst env
  pub kept : Site → Bool
  pub keeps : IsKept env items kept
  pub choice : Choice
  pub principal : IsPrincipal env items kept choice.type_at
  pub holds : AllHold kept (conditions_of env items kept choice)
  pub are : map reported_as (standing faults) ≡ refused_of kept (conditions_of env items kept choice)
  pub told : AllZip (IsTold env items kept) (sites_refused kept (conditions_of env items kept choice)) (standing faults)
