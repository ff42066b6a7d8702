-- Shapes of declarations, one after the other.
use Rattle.std.proofs.Common.{◌≡◌, List, sym, subst}
use Rattle.std.specs.Prelude.{All}
use Rattle.std.specs.List.{AllZip}
use Rattle.std.specs.declared.alloc.Global.{Global}
use Rattle.std.specs.declared.vec.Vec.{Vec}
use Rattle.type_nodes.specs.Nodes.{Node}
use Rattle.type_reading.specs.declared.changes.Changes.{Changes}
use Rattle.type_reading.specs.declared.copies.Copies.{Copies}
use Rattle.type_reading.specs.Copying.{change_by}
use Rattle.env_table.specs.declared.entries.Constructor.{Constructor}
use Rattle.env_table.specs.declared.entries.Label.{Label}
use Rattle.env_table.specs.declared.entries.Shape.{Shape}
use Rattle.env_table.specs.declared.entries.Shape.TheVariants as shape
use Rattle.sig_template.specs.Changed.{IsChangedConstructor, IsChangedLabel, IsChangedShape}
use Rattle.sig_template.specs.Live.{IsLiveConstructor, IsLiveLabel, IsLiveShape}
use Rattle.sig_template.specs.Turns.{Turns}
use Rattle.sig_template.proofs.Turning.{turns_same}

pub shape_opaque : (c : Changes) (old : Shape) (a : List Node) (k : Copies) → old ≡ shape.Opaque → Turns c (λ ns. IsLiveShape ns old) (λ ns. IsChangedShape ns (change_by c) old shape.Opaque) a a k k
shape_opaque c old a k is = subst (λ o. Turns c (λ ns. IsLiveShape ns o) (λ ns. IsChangedShape ns (change_by c) o shape.Opaque) a a k k) (sym is)
    (turns_same c (λ ns. IsLiveShape ns shape.Opaque) (λ ns. IsChangedShape ns (change_by c) shape.Opaque shape.Opaque) a k (λ ns. tt))

pub shape_variant : (c : Changes) (old : Shape) (ks js : Vec Constructor Global) (items : List Constructor) (a b : List Node) (k l : Copies) → old ≡ shape.Variant ks → items ≡ ks.items →
    Turns c (λ ns. All (IsLiveConstructor ns) items) (λ ns. AllZip (IsChangedConstructor ns (change_by c)) items js.items) a b k l →
    Turns c (λ ns. IsLiveShape ns old) (λ ns. IsChangedShape ns (change_by c) old (shape.Variant js)) a b k l
shape_variant c old ks js items a b k l is same p = subst (λ o. Turns c (λ ns. IsLiveShape ns o) (λ ns. IsChangedShape ns (change_by c) o (shape.Variant js)) a b k l) (sym is)
    (subst (λ xs. Turns c (λ ns. All (IsLiveConstructor ns) xs) (λ ns. AllZip (IsChangedConstructor ns (change_by c)) xs js.items) a b k l) same p)

pub shape_labels : (c : Changes) (old : Shape) (ks js : Vec Label Global) (items : List Label) (a b : List Node) (k l : Copies) → old ≡ shape.Labels ks → items ≡ ks.items →
    Turns c (λ ns. All (IsLiveLabel ns) items) (λ ns. AllZip (IsChangedLabel ns (change_by c)) items js.items) a b k l →
    Turns c (λ ns. IsLiveShape ns old) (λ ns. IsChangedShape ns (change_by c) old (shape.Labels js)) a b k l
shape_labels c old ks js items a b k l is same p = subst (λ o. Turns c (λ ns. IsLiveShape ns o) (λ ns. IsChangedShape ns (change_by c) o (shape.Labels js)) a b k l) (sym is)
    (subst (λ xs. Turns c (λ ns. All (IsLiveLabel ns) xs) (λ ns. AllZip (IsChangedLabel ns (change_by c)) xs js.items) a b k l) same p)
