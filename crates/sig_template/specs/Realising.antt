-- Which types of an actual signature stand for the origins that a wanted one makes (Leroy 1994, for realisations).
use Rattle.std.specs.Prelude.{◌≡◌, ℕ, Bool, true, false, ◌&&◌, List, [], ◌∷◌, Option, Some, None, if◌then◌else◌}
use Rattle.std.specs.Option.{option_or, option_and_then}
use Rattle.type_model.specs.Types.{Path}
use Rattle.type_model.specs.Origins.{same_path}
use Rattle.type_terms.specs.Views.{path_of}
use Rattle.type_terms.specs.declared.types.Origin.{Origin}
use Rattle.std.specs.declared.rc.Rc.{Rc}
use Rattle.std.specs.declared.alloc.Global.{Global}
use Rattle.text_terms.specs.Bytes.{str_bytes}
use Rattle.type_nodes.specs.Nodes.{Node}
use Rattle.type_nodes.specs.Readings.{Types}
use Rattle.scheme_match.specs.Unknown.{HasUnknown}
use Rattle.signature_model.specs.Changes.{among, Change, in_front}
use Rattle.signature_model.specs.Declarations.{Name}
use Rattle.signature_model.specs.Entries.{type_kind, module_kind}
use Rattle.signature_model.specs.Lookups.{newest_by}
use Rattle.env_table.specs.declared.entries.Declaration.{Declaration}
use Rattle.env_table.specs.declared.entries.Entry.{Entry}
use Rattle.env_table.specs.declared.entries.What.{What, out-What}
use Rattle.env_table.specs.declared.entries.Components.{Components}
use Rattle.env_table.specs.declared.entries.Sig.{Sig, out-Sig}
use Rattle.env_table.specs.declared.entries.Sig.TheOpen.{Sig-F, What-F}
use Rattle.env_table.specs.declared.entries.Template.{Template}
use Rattle.env_table.specs.Views.{is_named, names_in, inside_sig}
use Rattle.type_reading.specs.declared.changes.Real.{Real}
use Rattle.type_reading.specs.Copying.{real_at, change_by, AreDeclared}
use Rattle.sig_template.specs.declared.realising.Realised.{Realised}
use Rattle.sig_template.specs.Structures.{entries_of}
use Rattle.sig_template.specs.Ways.{sig_of, components_of}
use Rattle.sig_template.specs.Changed.{made_of, IsChangedSig}
use Rattle.sig_template.specs.Live.{AreLive}

-- what stands on the actual side: nothing, as where there is a functor; a module that isn't known; or components, the newest first
pub data Side : Type 0 where
  nothing : Side
  unknown_module : Side
  known : List Entry → Side

-- what an origin gets: the type of a declaration, or an unknown type
pub data Given : Type 0 where
  a_declaration : Declaration → Given
  an_unknown : Given

-- the side of a structure with these entries; the same of a functor, which has none
abbrev pub side_by : {T : Type 0} → (whole : List Entry) → Sig-F Sig What Components Entry T → Side
side_by whole (Sig-F.Structure c) = known whole
side_by whole (Sig-F.Functor p b) = known whole
side_by whole Sig-F.Hole = unknown_module

-- the actual side that a signature is; in a functor stands nothing
abbrev pub side_of : Sig → Side
side_of s = side_by (names_in (inside_sig s)) (out-Sig s)

-- a declaration of a type's entry
abbrev pub declared_by : {S W C E T : Type 0} → What-F S W C E T → Option Declaration
declared_by (What-F.Scheme n) = None
declared_by (What-F.Constructor d k) = None
declared_by (What-F.Exception c) = None
declared_by (What-F.Label d k) = None
declared_by (What-F.Type d) = Some d.value
declared_by (What-F.Module s) = None
declared_by (What-F.ModuleType t) = None

-- the signature of a module's entry
abbrev pub module_by : {S W C E T : Type 0} → What-F S W C E T → Option S
module_by (What-F.Scheme n) = None
module_by (What-F.Constructor d k) = None
module_by (What-F.Exception c) = None
module_by (What-F.Label d k) = None
module_by (What-F.Type d) = None
module_by (What-F.Module s) = Some s.value
module_by (What-F.ModuleType t) = None

-- the newest declaration of a name on a side
abbrev pub newest_declared : Name → Side → Option Declaration
newest_declared n nothing = None
newest_declared n unknown_module = None
newest_declared n (known es) = option_and_then (λ (e : Entry). declared_by (out-What e.what)) (newest_by (is_named type_kind n) es)

-- the side of a signature, or nothing
abbrev pub side_in : Option Sig → Side
side_in None = nothing
side_in (Some s) = side_of s

-- the newest module of a name on a side, as a side
abbrev pub inner_side : Name → Side → Side
inner_side n nothing = nothing
inner_side n unknown_module = unknown_module
inner_side n (known es) = side_in (option_and_then (λ (e : Entry). module_by (out-What e.what)) (newest_by (is_named module_kind n) es))

-- what an origin gets for a type of this name
abbrev pub given_for : Name → Side → Option Given
given_for n unknown_module = Some an_unknown
given_for n nothing = None
given_for n (known es) = elim (newest_declared n (known es)) [ None ↦ None | Some d ↦ Some (a_declaration d) ]

-- whether an origin is the one that a declaration makes
abbrev pub is_own : Path → Option Origin → Bool
is_own o None = false
is_own o (Some p) = same_path o (path_of p)

-- what a wanted type's declaration of this name gives an origin, where it makes that
abbrev pub given_by : List Path → Path → Name → Side → Declaration → Option Given
given_by made o n A d = if is_own o d.origin && among o made then given_for n A else None

mutual
  -- what the first wanted type that makes an origin, in order and through modules, gives it by an actual side
  pub data Finds : (made : List Path) → (o : Path) → Side → (wanted : Sig) → Option Given → Type 0 where
    no_structure : {made : List Path} {o : Path} {A : Side} {W : Sig} → components_of W ≡ None → Finds made o A W None
    in_structure : {made : List Path} {o : Path} {A : Side} {W : Sig} {found : Option Given} (es : List (Rc Entry Global)) → components_of W ≡ Some es → FindsIn made o A (entries_of es) found → Finds made o A W found

  -- the same among components
  pub data FindsIn : (made : List Path) → (o : Path) → Side → (wanted : List Entry) → Option Given → Type 0 where
    none_left : {made : List Path} {o : Path} {A : Side} → FindsIn made o A [] None
    by_type : {made : List Path} {o : Path} {A : Side} {e : Entry} {es : List Entry} {rest : Option Given} (d : Declaration) → declared_by (out-What e.what) ≡ Some d →
        FindsIn made o A es rest → FindsIn made o A (e ∷ es) (option_or (given_by made o (str_bytes e.name) A d) rest)
    by_module : {made : List Path} {o : Path} {A : Side} {e : Entry} {es : List Entry} {inner rest : Option Given} (s : Sig) → module_by (out-What e.what) ≡ Some s →
        Finds made o (inner_side (str_bytes e.name) A) s inner → FindsIn made o A es rest → FindsIn made o A (e ∷ es) (option_or inner rest)
    by_other : {made : List Path} {o : Path} {A : Side} {e : Entry} {es : List Entry} {rest : Option Given} → declared_by (out-What e.what) ≡ None → module_by (out-What e.what) ≡ None →
        FindsIn made o A es rest → FindsIn made o A (e ∷ es) rest

-- what an origin that a wanted template makes gets by an actual signature: in one that isn't known every origin is unknown
abbrev pub GetsBy : Side → Template → Path → Option Given → Type 0
GetsBy unknown_module t o found = found ≡ Some an_unknown
GetsBy nothing t o found = Finds (made_of t) o nothing (sig_of t) found
GetsBy (known es) t o found = Finds (made_of t) o (known es) (sig_of t) found

-- the same by an actual signature
abbrev pub Gets : Sig → Template → Path → Option Given → Type 0
Gets A t o found = GetsBy (side_of A) t o found

-- the first type for an origin
abbrev pub real_of : Path → List Real → Option Real
real_of o [] = None
real_of o (r ∷ rs) = if same_path o r.origin.path.items then Some r else real_of o rs

-- a type of as many parameters; where nothing unknown stands in the declaration's, it is that
abbrev pub IsReal : List Node → Option Given → Option Real → Type 0
IsReal nodes None None = Unit {0}
IsReal nodes (Some an_unknown) (Some r) = r.arity ≡ 0
IsReal nodes (Some (a_declaration d)) (Some r) = (r.arity ≡ d.arity) × ((HasUnknown nodes d.root.0 → ⊥) → r.root ≡ d.root)
IsReal nodes None (Some r) = ⊥
IsReal nodes (Some g) None = ⊥

-- each origin that a template makes has the type that it gets by an actual signature
pub record Realises (nodes : List Node) (A : Sig) (t : Template) (realised : Realised) : Type 0 where
  pub made : realised.changes.made.items ≡ []
  pub each : (o : Path) → among o (made_of t) ≡ true → (found : Option Given) × Gets A t o found × IsReal nodes found (real_of o realised.changes.real.items)

-- A signature after a change by the types that a template's origins get: where nothing unknown is opened, and the types are those of
-- declarations, at each reading.
pub record IsPutInto (old new : List Node) (realised : Realised) (c : Types → Change) (before after : Sig) : Type 0 where
  pub changed : realised.opened.items ≡ [] → AreDeclared old realised.changes.real.items → AreLive old before → IsChangedSig new c before after

-- a wanted template's signature with its origins realised by an actual one
pub record IsRealisedSig (old new : List Node) (A : Sig) (t : Template) (s : Sig) : Type 0 where
  pub realised : Realised
  pub realises : Realises old A t realised
  pub put : IsPutInto old new realised (change_by realised.changes) (sig_of t) s

-- a functor's body for an argument, applied at a node: the parameter's origins have the types that they get, and the body's have the node's number in front
pub record IsApplied (old new : List Node) (node : ℕ) (argument : Sig) (parameter body applied : Template) : Type 0 where
  pub realised : Realised
  pub realises : Realises old argument parameter realised
  pub put : IsPutInto old new realised (λ V. record { path = (in_front (made_of body) node).path; real = λ o. real_at V o realised.changes.real.items }) (sig_of body) (sig_of applied)
