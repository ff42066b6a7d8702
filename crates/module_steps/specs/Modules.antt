-- Modules and functors.
use Rattle.std.specs.Prelude.{◌≡◌, ℕ, Bool, true, false, List, [], ◌∷◌, ◌++◌, map, Option, Some, None, IfSome, option_map}
use Rattle.std.specs.List.{join_with_byte}
use Rattle.std.specs.declared.rc.Rc.{Rc}
use Rattle.std.specs.declared.alloc.Global.{Global}
use Rattle.text_terms.specs.Bytes.{str_bytes}
use Rattle.text_terms.specs.declared.Span.{Span}
use Rattle.type_model.specs.Types.{Path}
use Rattle.syntax_tree.specs.declared.Token.{Token}
use Rattle.env_table.specs.declared.entries.What.{out-What}
use Rattle.env_table.specs.declared.entries.Entry.{Entry}
use Rattle.env_table.specs.declared.entries.Sig.{Sig, out-Sig}
use Rattle.env_table.specs.declared.entries.Sig.TheOpen.{Sig-F, What-F}
use Rattle.env_table.specs.declared.entries.Kind.TheVariants as kind
use Rattle.env_table.specs.declared.entries.Place.TheVariants as place
use Rattle.env_table.specs.declared.entries.Template.{Template}
use Rattle.env_table.specs.declared.faults.FaultKind.{FaultKind}
use Rattle.env_table.specs.declared.faults.FaultKind.TheVariants as fault
use Rattle.typing_state.specs.declared.parts.Parts.{Parts}
use Rattle.typing_state.specs.Goes.{faults_of, Begins, Told}
use Rattle.signature_match.specs.declared.causes.Mismatch.{Mismatch}
use Rattle.signature_match.specs.Anew.{IsMadeAnew}
use Rattle.signature_match.specs.Blames.{blame_of}
use Rattle.signature_match.specs.Telling.{TellsMatch}
use Rattle.signature_model.specs.Templates.{origins_at}
use Rattle.type_nodes.specs.Nodes.{Node}
use Rattle.module_steps.specs.declared.made.Made.{Made}
use Rattle.module_steps.specs.declared.functors.Taken.{Taken}
use Rattle.type_reading.specs.Copying.{paths_of}
use Rattle.sig_template.specs.Ways.{sig_of}
use Rattle.sig_template.specs.Changed.{made_of}
use Rattle.module_steps.specs.Told.{mismatch_message}

-- whether nothing is known of a module
abbrev pub opened_hole : {S W C E T : Type 0} → Sig-F S W C E T → Bool
opened_hole (Sig-F.Structure c) = false
opened_hole (Sig-F.Functor p b) = false
opened_hole Sig-F.Hole = true

abbrev pub is_hole : Sig → Bool
is_hole s = opened_hole (out-Sig s)

-- whether a module is known to be no functor
abbrev pub opened_structure : {S W C E T : Type 0} → Sig-F S W C E T → Bool
opened_structure (Sig-F.Structure c) = true
opened_structure (Sig-F.Functor p b) = false
opened_structure Sig-F.Hole = false

abbrev pub is_structure : Sig → Bool
is_structure s = opened_structure (out-Sig s)

-- whether a module is known to be a functor
abbrev pub opened_functor : {S W C E T : Type 0} → Sig-F S W C E T → Bool
opened_functor (Sig-F.Structure c) = false
opened_functor (Sig-F.Functor p b) = true
opened_functor Sig-F.Hole = false

abbrev pub is_functor : Sig → Bool
is_functor s = opened_functor (out-Sig s)

-- a module of which nothing is known makes these origins
abbrev pub IsUnknown : Made → List Path → Type 0
IsUnknown m made = (is_hole m.sig.value ≡ true) × (paths_of m.makes.items ≡ made)

-- a module has the signature of a template, and makes its origins behind these
abbrev pub IsBehind : Made → List Path → Template → Type 0
IsBehind m made t = (m.sig.value ≡ sig_of t) × (paths_of m.makes.items ≡ made ++ made_of t)

-- a template made anew at the node of a number: its origins and its signature have the number in front, where its types were nodes
abbrev pub IsTemplateAt : List Node → (number : ℕ) → (old new : Template) → Type 0
IsTemplateAt nodes number old new = (made_of new ≡ origins_at (made_of old) number) × IsMadeAnew nodes number old new

-- a demand that is kept changes nothing; one that isn't tells exactly this fault
abbrev pub ToldUnless : (kept : Bool) → (old new : Parts) → Span → FaultKind → (message : List ℕ) → Type 0
ToldUnless true old new span kind message = new ≡ old
ToldUnless false old new span kind message = Told old.telling (faults_of old) (faults_of new) span kind message

-- the path of a mismatch, with points between its names
abbrev pub dotted : Mismatch → List ℕ
dotted m = join_with_byte 46 (map str_bytes m.path.items)

-- what comes of a mismatch, if there is one: the demand isn't kept, and exactly its fault is told
abbrev pub ToldMismatch : Option Mismatch → (kept : Bool) → (old new : Parts) → Span → Type 0
ToldMismatch None kept old new span = (kept ≡ true) × (new ≡ old)
ToldMismatch (Some m) kept old new span = (kept ≡ false) × Told old.telling (faults_of old) (faults_of new) span fault.Match (mismatch_message m.cause (dotted m))

-- what comes of the demand that a signature matches: what the match tells decides whether it is kept; where it isn't, its one fault names the component and the cause, and the types are as before
pub record AsksMatch (kept : Bool) (old new : Parts) (span : Span) (actual : Sig) (wanted : Template) : Type 0 where
  pub mid : Parts
  pub mismatch : Option Mismatch
  pub tells : TellsMatch old.store.nodes mid.store.nodes actual wanted (option_map blame_of mismatch)
  pub before : IfSome mismatch (λ m. mid.store ≡ old.store)
  pub faults : Begins (faults_of old) (faults_of mid)
  pub told : ToldMismatch mismatch kept mid new span

-- the signatures of parameters
abbrev pub templates_of : List Taken → List Template
templates_of [] = []
templates_of (p ∷ ps) = p.template.value ∷ templates_of ps

-- a template is that of functors of these parameters in order, the outermost first, over a body; it makes nothing, and without parameters it is the body
abbrev pub IsFunctorOver : List Template → (body t : Template) → Type 0
IsFunctorOver [] body t = t ≡ body
IsFunctorOver (p ∷ ps) body t = (made_of t ≡ []) × ((parameter inner : Rc Template Global) × (out-Sig (sig_of t) ≡ Sig-F.Functor parameter inner) × (parameter.value ≡ p) × IsFunctorOver ps body inner.value)

-- a functor of parameters over a module, which makes nothing; what the body makes is made where it is applied
abbrev pub IsFunctor : List Taken → (body m : Made) → Type 0
IsFunctor ps body m = (paths_of m.makes.items ≡ []) × ((inside t : Template) × (sig_of inside ≡ body.sig.value) × (made_of inside ≡ paths_of body.makes.items) × IsFunctorOver (templates_of ps) inside t × (sig_of t ≡ m.sig.value))

-- a module behind parameters is a functor over it; without any it is as before
abbrev pub IsClosed : List Taken → (body m : Made) → Type 0
IsClosed [] body m = m ≡ body
IsClosed (p ∷ ps) body m = IsFunctor (p ∷ ps) body m

-- a module has the signature of a template that makes nothing, and makes nothing
abbrev pub IsItself : Template → Made → Type 0
IsItself t m = (m.sig.value ≡ sig_of t) × (paths_of m.makes.items ≡ [])

-- the environment behind parameters
abbrev pub env_behind : List Taken → List Entry → List Entry
env_behind [] env = env
env_behind (p ∷ ps) env = env_behind ps p.env

-- an entry, if there is one, in front of others
abbrev pub named_before : Option (Rc Entry Global) → List (Option Entry) → List (Option Entry)
named_before None es = es
named_before (Some e) es = Some e.value ∷ es

-- the entries of the parameters that have names
abbrev pub named : List Taken → List (Option Entry)
named [] = []
named (p ∷ ps) = named_before p.entry (named ps)

-- an entry is the module of a token, of this signature
abbrev pub opened_is : {S W C E T : Type 0} → What-F S W C E T → S → Type 0
opened_is (What-F.Module s) sig = s.value ≡ sig
opened_is (What-F.Scheme n) sig = ⊥
opened_is (What-F.Constructor d k) sig = ⊥
opened_is (What-F.Exception c) sig = ⊥
opened_is (What-F.Label d k) sig = ⊥
opened_is (What-F.Type d) sig = ⊥
opened_is (What-F.ModuleType t) sig = ⊥

pub record IsModule (e : Entry) (t : Token) (s : Sig) : Type 0 where
  pub name : str_bytes e.name ≡ str_bytes t.name
  pub kind : e.kind ≡ kind.Module
  pub place : e.place ≡ place.Buffer t.span
  pub sig : opened_is (out-What e.what) s

-- a parameter behind an environment: its name, if it has one, is a module in front of it
abbrev pub TakesName : Option Token → Template → List Entry → Taken → Type 0
TakesName None template env p = (p.template.value ≡ template) × (p.entry ≡ None) × (p.env ≡ env)
TakesName (Some t) template env p = (p.template.value ≡ template) × ((e : Rc Entry Global) × (p.entry ≡ Some e) × (p.env ≡ e.value ∷ env) × IsModule e.value t (sig_of template))
