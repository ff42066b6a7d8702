-- Signatures with other paths and types in the place of origins (Leroy 2000, A modular module system, for substitutions of paths).
use Rattle.std.specs.Prelude.{◌≡◌, ℕ, List, map, Option, Some, None, option_map}
use Rattle.std.specs.List.{AllZip}
use Rattle.text_terms.specs.Bytes.{str_bytes}
use Rattle.type_model.specs.Types.{Path, Typ}
use Rattle.type_terms.specs.Views.{path_of}
use Rattle.type_nodes.specs.Nodes.{Node}
use Rattle.signature_model.specs.Changes.{Change}
use Rattle.type_nodes.specs.Readings.{Types}
use Rattle.env_table.specs.declared.entries.Constructor.{Constructor}
use Rattle.env_table.specs.declared.entries.Label.{Label}
use Rattle.env_table.specs.declared.entries.Shape.{Shape}
use Rattle.env_table.specs.declared.entries.Shape.TheVariants as shape
use Rattle.env_table.specs.declared.entries.Declaration.{Declaration}
use Rattle.env_table.specs.declared.entries.What.{What, out-What}
use Rattle.env_table.specs.declared.entries.Entry.{Entry}
use Rattle.env_table.specs.declared.entries.Sig.{Sig, out-Sig}
use Rattle.env_table.specs.declared.entries.Sig.TheOpen.{Sig-F, What-F}
use Rattle.env_table.specs.declared.entries.Components.{Components, out-Components}
use Rattle.env_table.specs.declared.entries.Template.{Template, out-Template}
use Rattle.type_reading.specs.Copying.{paths_of, IsChanged}
use Rattle.sig_template.specs.Structures.{entries_of}
use Rattle.sig_template.specs.Ways.{Step, sub}

-- the paths that a template makes
abbrev pub made_of : Template → List (List ℕ)
made_of t = paths_of (out-Template t).made.items

-- a constructor, or an exception: its name and whether it has an argument stay
pub record IsChangedConstructor (nodes : List Node) (c : Types → Change) (old new : Constructor) : Type 0 where
  pub name : str_bytes new.name ≡ str_bytes old.name
  pub has_argument : new.has_argument ≡ old.has_argument
  pub root : IsChanged nodes c old.root.0 new.root.0

-- a label: its name and whether it may be set stay
pub record IsChangedLabel (nodes : List Node) (c : Types → Change) (old new : Label) : Type 0 where
  pub name : str_bytes new.name ≡ str_bytes old.name
  pub is_mutable : new.is_mutable ≡ old.is_mutable
  pub root : IsChanged nodes c old.root.0 new.root.0

-- as many constructors, or labels, in their order
abbrev pub IsChangedShape : List Node → (Types → Change) → (old new : Shape) → Type 0
IsChangedShape nodes c shape.Opaque shape.Opaque = Unit {0}
IsChangedShape nodes c (shape.Variant ks) (shape.Variant js) = AllZip (IsChangedConstructor nodes c) ks.items js.items
IsChangedShape nodes c (shape.Labels ks) (shape.Labels js) = AllZip (IsChangedLabel nodes c) ks.items js.items
IsChangedShape nodes c _ _ = ⊥

-- the path of an origin after the change; None where a type stands in its place
abbrev pub path_after : Path → Option Typ → Option Path
path_after p None = Some p
path_after p (Some t) = None

-- the path of the origin that a declaration makes, after the change
abbrev pub origin_after : Change → Option Path → Option Path
origin_after c None = None
origin_after c (Some o) = path_after (c.path o) (c.real o)

-- a declaration: the origin that it makes has the path after the change, or there is none where a type stands in its place
pub record IsChangedDeclaration (nodes : List Node) (c : Types → Change) (old new : Declaration) : Type 0 where
  pub arity : new.arity ≡ old.arity
  pub origin : (V : Types) → option_map path_of new.origin ≡ origin_after (c V) (option_map path_of old.origin)
  pub root : IsChanged nodes c old.root.0 new.root.0
  pub shape : IsChangedShape nodes c old.shape new.shape

-- What a name stands for. The declaration of a constructor or of a label is that of the type in front of it, and left open here;
-- what stands in modules and in module types is told by ways.
abbrev pub IsChangedWhat : {S W C E S' W' C' E' : Type 0} → List Node → (Types → Change) → What-F S W C E Template → What-F S' W' C' E' Template → Type 0
IsChangedWhat nodes c (What-F.Scheme n) (What-F.Scheme m) = IsChanged nodes c n.0 m.0
IsChangedWhat nodes c (What-F.Constructor d k) (What-F.Constructor e j) = j ≡ k
IsChangedWhat nodes c (What-F.Exception k) (What-F.Exception j) = IsChangedConstructor nodes c k.value j.value
IsChangedWhat nodes c (What-F.Label d k) (What-F.Label e j) = j ≡ k
IsChangedWhat nodes c (What-F.Type d) (What-F.Type e) = IsChangedDeclaration nodes c d.value e.value
IsChangedWhat nodes c (What-F.Module s) (What-F.Module t) = Unit {0}
IsChangedWhat nodes c (What-F.ModuleType s) (What-F.ModuleType t) = (V : Types) → made_of t.value ≡ map (c V).path (made_of s.value)
IsChangedWhat nodes c _ _ = ⊥

-- a component: its name, its kind and its place stay
pub record IsChangedEntry (nodes : List Node) (c : Types → Change) (old new : Entry) : Type 0 where
  pub name : str_bytes new.name ≡ str_bytes old.name
  pub kind : new.kind ≡ old.kind
  pub place : new.place ≡ old.place
  pub what : IsChangedWhat nodes c (out-What old.what) (out-What new.what)

-- the components of a structure in their order, and what a functor makes
abbrev pub IsChangedOpened : List Node → (Types → Change) → Sig-F Sig What Components Entry Template → Sig-F Sig What Components Entry Template → Type 0
IsChangedOpened nodes c Sig-F.Hole Sig-F.Hole = Unit {0}
IsChangedOpened nodes c (Sig-F.Structure es) (Sig-F.Structure fs) = AllZip (IsChangedEntry nodes c) (entries_of (out-Components es).entries.items) (entries_of (out-Components fs).entries.items)
IsChangedOpened nodes c (Sig-F.Functor p b) (Sig-F.Functor q d) = (V : Types) → (made_of q.value ≡ map (c V).path (made_of p.value)) × (made_of d.value ≡ map (c V).path (made_of b.value))
IsChangedOpened nodes c _ _ = ⊥

-- a signature to which a way leads, but for the signatures in it
abbrev pub IsChangedHere : List Node → (Types → Change) → Option Sig → Option Sig → Type 0
IsChangedHere nodes c None None = Unit {0}
IsChangedHere nodes c (Some s) (Some t) = IsChangedOpened nodes c (out-Sig s) (out-Sig t)
IsChangedHere nodes c _ _ = ⊥

-- where a signature is, its change is; each way leads to a change, or from both to nothing
pub record IsChangedIn (nodes : List Node) (c : Types → Change) (old new : Option Sig) : Type 0 where
  pub each : (way : List Step) → IsChangedHere nodes c (sub way old) (sub way new)

-- a signature after a change
abbrev pub IsChangedSig : List Node → (Types → Change) → (old new : Sig) → Type 0
IsChangedSig nodes c old new = IsChangedIn nodes c (Some old) (Some new)
