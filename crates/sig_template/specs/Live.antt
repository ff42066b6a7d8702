-- Signatures whose types are nodes of a store.
use Rattle.std.specs.Prelude.{List, All, Option, Some, None}
use Rattle.type_nodes.specs.Nodes.{Node, IsNode}
use Rattle.env_table.specs.declared.entries.Constructor.{Constructor}
use Rattle.env_table.specs.declared.entries.Label.{Label}
use Rattle.env_table.specs.declared.entries.Shape.{Shape}
use Rattle.env_table.specs.declared.entries.Shape.TheVariants as shape
use Rattle.env_table.specs.declared.entries.Declaration.{Declaration}
use Rattle.env_table.specs.declared.entries.What.{What, out-What}
use Rattle.env_table.specs.declared.entries.Entry.{Entry}
use Rattle.env_table.specs.declared.entries.Sig.{Sig, out-Sig}
use Rattle.env_table.specs.declared.entries.Sig.TheOpen.{Sig-F, What-F}
use Rattle.env_table.specs.declared.entries.Components.{Components, out-Components}
use Rattle.sig_template.specs.Structures.{entries_of}
use Rattle.sig_template.specs.Ways.{Step, sub}

-- the type of a constructor is a node
abbrev pub IsLiveConstructor : List Node → Constructor → Type 0
IsLiveConstructor nodes k = IsNode nodes k.root.0

-- the type of a label is a node
abbrev pub IsLiveLabel : List Node → Label → Type 0
IsLiveLabel nodes l = IsNode nodes l.root.0

-- the types of constructors and of labels are nodes
abbrev pub IsLiveShape : List Node → Shape → Type 0
IsLiveShape nodes shape.Opaque = Unit {0}
IsLiveShape nodes (shape.Variant ks) = All (IsLiveConstructor nodes) ks.items
IsLiveShape nodes (shape.Labels ls) = All (IsLiveLabel nodes) ls.items

-- the types of a declaration are nodes
abbrev pub IsLiveDeclaration : List Node → Declaration → Type 0
IsLiveDeclaration nodes d = IsNode nodes d.root.0 × IsLiveShape nodes d.shape

-- the types of what a name stands for are nodes; what stands in modules and in module types is told by ways
abbrev pub IsLiveWhat : {S W C E T : Type 0} → List Node → What-F S W C E T → Type 0
IsLiveWhat nodes (What-F.Scheme n) = IsNode nodes n.0
IsLiveWhat nodes (What-F.Constructor d k) = IsLiveDeclaration nodes d.value
IsLiveWhat nodes (What-F.Exception k) = IsLiveConstructor nodes k.value
IsLiveWhat nodes (What-F.Label d k) = IsLiveDeclaration nodes d.value
IsLiveWhat nodes (What-F.Type d) = IsLiveDeclaration nodes d.value
IsLiveWhat nodes (What-F.Module s) = Unit {0}
IsLiveWhat nodes (What-F.ModuleType t) = Unit {0}

-- the types of a component are nodes
abbrev pub IsLiveEntry : List Node → Entry → Type 0
IsLiveEntry nodes e = IsLiveWhat nodes (out-What e.what)

abbrev pub AreLiveOpened : {T : Type 0} → List Node → Sig-F Sig What Components Entry T → Type 0
AreLiveOpened nodes (Sig-F.Structure c) = All (IsLiveEntry nodes) (entries_of (out-Components c).entries.items)
AreLiveOpened nodes (Sig-F.Functor p b) = Unit {0}
AreLiveOpened nodes Sig-F.Hole = Unit {0}

-- the types of the components of a signature are nodes
abbrev pub AreLiveHere : List Node → Option Sig → Type 0
AreLiveHere nodes None = Unit {0}
AreLiveHere nodes (Some s) = AreLiveOpened nodes (out-Sig s)

-- the same wherever a way leads from a signature
pub record AreLiveIn (nodes : List Node) (s : Option Sig) : Type 0 where
  pub each : (way : List Step) → AreLiveHere nodes (sub way s)

-- the types in a signature are nodes; a number that is no node stands for nothing
abbrev pub AreLive : List Node → Sig → Type 0
AreLive nodes s = AreLiveIn nodes (Some s)
