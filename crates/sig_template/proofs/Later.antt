-- Signatures whose types are nodes, in a store with more nodes.
use Rattle.std.proofs.Common.{◌≤◌, List, length, Option, Some, None, arith}
use Rattle.type_nodes.specs.Nodes.{Node}
use Rattle.env_table.specs.declared.entries.Shape.{Shape}
use Rattle.env_table.specs.declared.entries.Shape.TheVariants as shape
use Rattle.env_table.specs.declared.entries.Declaration.{Declaration}
use Rattle.env_table.specs.declared.entries.What.{What}
use Rattle.env_table.specs.declared.entries.Entry.{Entry}
use Rattle.env_table.specs.declared.entries.Sig.{Sig, out-Sig}
use Rattle.env_table.specs.declared.entries.Sig.TheOpen.{Sig-F, What-F}
use Rattle.env_table.specs.declared.entries.Components.{Components}
use Rattle.sig_template.specs.Ways.{sub}
use Rattle.sig_template.specs.Live.{IsLiveShape, IsLiveDeclaration, IsLiveWhat, AreLiveOpened, AreLiveHere, AreLive}

shape_later : (old new : List Node) → length old ≤ length new → (s : Shape) → IsLiveShape old s → IsLiveShape new s
shape_later old new le shape.Opaque live = tt
shape_later old new le (shape.Variant ks) live = λ k d lt. let h = live k d lt in omega arith
shape_later old new le (shape.Labels ls) live = λ k d lt. let h = live k d lt in omega arith

declaration_later : (old new : List Node) → length old ≤ length new → (d : Declaration) → IsLiveDeclaration old d → IsLiveDeclaration new d
declaration_later old new le d live = (let h = live.0 in omega arith, shape_later old new le d.shape live.1)

what_later : {S W C E T : Type 0} (old new : List Node) → length old ≤ length new → (w : What-F S W C E T) → IsLiveWhat old w → IsLiveWhat new w
what_later old new le (What-F.Scheme n) live = omega arith
what_later old new le (What-F.Constructor d k) live = declaration_later old new le d.value live
what_later old new le (What-F.Exception k) live = omega arith
what_later old new le (What-F.Label d k) live = declaration_later old new le d.value live
what_later old new le (What-F.Type d) live = declaration_later old new le d.value live
what_later old new le (What-F.Module s) live = tt
what_later old new le (What-F.ModuleType t) live = tt

opened_later : {T : Type 0} (old new : List Node) → length old ≤ length new → (s : Sig-F Sig What Components Entry T) → AreLiveOpened old s → AreLiveOpened new s
opened_later old new le (Sig-F.Structure c) live = λ k d lt. what_later old new le _ (live k d lt)
opened_later old new le (Sig-F.Functor p b) live = tt
opened_later old new le Sig-F.Hole live = tt

here_later : (old new : List Node) → length old ≤ length new → (s : Option Sig) → AreLiveHere old s → AreLiveHere new s
here_later old new le None live = tt
here_later old new le (Some s) live = opened_later old new le (out-Sig s) live

-- the types in a signature stay nodes
pub live_later : (old new : List Node) → length old ≤ length new → (s : Sig) → AreLive old s → AreLive new s
live_later old new le s live = record { each = λ way. here_later old new le (sub way (Some s)) (live.each way) }
