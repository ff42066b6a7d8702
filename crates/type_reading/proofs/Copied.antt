-- The types of copies.
use Rattle.std.proofs.Common.{◌≡◌, ◌≢◌, ℕ, zero, suc, ◌<◌, ◌⊎◌, inl, inr, List, [], ◌∷◌, length, map, get_or, Option, Some, None, refl, sym, ◌∙◌, ap, subst, arith}
use Rattle.std.specs.Prelude.{slice_get, All, unwrap_or}
use Rattle.type_model.specs.Types.{Path, Typ, types_of}
use Rattle.type_model.specs.Types.{Typ as type, Typs as types}
use Rattle.type_model.specs.Substitutions.{apply}
use Rattle.type_nodes.specs.Nodes.{Node, Var, Rigid, Link, Arrow, Tuple, Con, parts, bound_level, IsNode}
use Rattle.type_nodes.specs.Links.{root, reading, IsComposite}
use Rattle.type_nodes.specs.States.{State}
use Rattle.type_nodes.specs.Changes.{Makes}
use Rattle.type_nodes.specs.Readings.{Types, IsReading, FitsNode}
use Rattle.type_nodes.proofs.LinkedReadings.{root_type}
use Rattle.type_nodes.proofs.Lists.{same_or_other}
use Rattle.type_nodes.proofs.Roots.{closed_root}
use Rattle.signature_model.specs.Changes.{Change, argument, change, change_all, put}
use Rattle.level_unify.specs.Copies.{Table, image, with_parts, Extends}
use Rattle.level_unify.specs.Walks.{StandsIn}
use Rattle.type_reading.specs.declared.changes.Changes.{Changes}
use Rattle.type_reading.specs.Copying.{declared, IsDeclaredOver, real_at, change_by, KeepsUnbound, IsChanged, AreChanged, AreCopied}
use Rattle.type_reading.proofs.Extending.{reading_before, stands_after, unbound_after, makes_extends, made_here}

-- a copy stays one when nodes are added
pub changed_after : (old new : List Node) (c : Types → Change) (n m : ℕ) → Extends old new → IsNode old n → IsChanged old c n m → IsChanged new c n m
changed_after old new c n m extends lt changed = record {
  inside = let l = extends.longer in let i = changed.inside in omega arith;
  reads = λ V reads keeps. changed.reads V (reading_before old new V extends reads) (λ v stands free. keeps v (stands_after old new v n extends stands) (unbound_after old new v extends free));
}

-- what stands in a node's root stands in it, and so does what stands in a part
pub stands_root : (nodes : List Node) (v n : ℕ) → StandsIn nodes v (root nodes n) → StandsIn nodes v n
stands_root nodes v n stands = record { each = λ F closed has. stands.each F closed (closed_root nodes F closed n has) }

stands_part : (nodes : List Node) (v n : ℕ) (c : Node) (k d : ℕ) → reading nodes n ≡ Some c → k < length (parts c) → StandsIn nodes v (get_or (parts c) k d) → StandsIn nodes v n
stands_part nodes v n c k d reads lt stands = record {
  each = λ F closed has. stands.each F closed (closed.each (root nodes n) c (closed_root nodes F closed n has) reads k d lt);
}

-- the root's copy is the node's
pub root_changed : (nodes : List Node) (c : Types → Change) (n m : ℕ) → IsChanged nodes c (root nodes n) m → IsChanged nodes c n m
root_changed nodes c n m changed = record {
  inside = changed.inside;
  reads = λ V reads keeps. changed.reads V reads (λ v stands free. keeps v (stands_root nodes v n stands) free) ∙ ap (change (c V)) (sym (root_type nodes V reads.fits n));
}

-- where a node's root has a copy, the image is one of the node
pub image_changed : (nodes : List Node) (c : Types → Change) (T : Table) (n : ℕ) → AreChanged nodes c T → T (root nodes n) ≢ None → IsChanged nodes c n (image nodes T n)
image_changed nodes c T n kept has = at (T (root nodes n)) refl
  where
    at : (o : Option ℕ) → T (root nodes n) ≡ o → IsChanged nodes c n (image nodes T n)
    at None e = absurd (has e)
    at (Some m) e = subst (λ o. IsChanged nodes c n (unwrap_or o (root nodes n))) (sym e) (root_changed nodes c n m (kept.each (root nodes n) m e).1)

-- a type from those of a node's parts
abbrev pub built : Types → Node → Typ
built V (Var level scope) = type.Tuple types.Nil
built V Rigid = type.Tuple types.Nil
built V (Link m) = V m
built V (Arrow a b) = type.Arrow (V a) (V b)
built V (Tuple ms) = type.Tuple (types_of (map V ms))
built V (Con path name ms) = type.Con path (types_of (map V ms))

fits_built : (V : Types) (n : ℕ) (c : Node) → IsComposite c → FitsNode V n c → V n ≡ built V c
fits_built V n (Var level scope) is h = absurd is
fits_built V n Rigid is h = absurd is
fits_built V n (Link m) is h = absurd is
fits_built V n (Arrow a b) is h = h
fits_built V n (Tuple ms) is h = h
fits_built V n (Con path name ms) is h = h

-- the path of an origin after the changes
abbrev pub path_after : Changes → Path → Path
path_after c o = (change_by c (λ n. type.Var n)).path o

-- a node with its path after the changes
abbrev pub moved_node : Changes → Node → Node
moved_node c (Var level scope) = Var level scope
moved_node c Rigid = Rigid
moved_node c (Link m) = Link m
moved_node c (Arrow a b) = Arrow a b
moved_node c (Tuple ms) = Tuple ms
moved_node c (Con path name ms) = Con (path_after c path) name ms

-- no type stands in the place of a node's origin
abbrev pub HasNoReal : Changes → Node → Type 0
HasNoReal c (Var level scope) = Unit {0}
HasNoReal c Rigid = Unit {0}
HasNoReal c (Link m) = Unit {0}
HasNoReal c (Arrow a b) = Unit {0}
HasNoReal c (Tuple ms) = Unit {0}
HasNoReal c (Con path name ms) = (V : Types) → real_at V path c.real.items ≡ None

all_changed : (c : Change) (V : Types) (f : ℕ → ℕ) (ms : List ℕ) → All (λ p. V (f p) ≡ change c (V p)) ms → types_of (map V (map f ms)) ≡ change_all c (types_of (map V ms))
all_changed c V f [] h = refl
all_changed c V f (m ∷ ms) h =
    let here : V (f m) ≡ change c (V m) = h zero zero (omega arith) in
    let there : types_of (map V (map f ms)) ≡ change_all c (types_of (map V ms)) = all_changed c V f ms (λ k d lt. h (suc k) d (omega arith)) in
    cc

-- the type from the copies of the parts is the type after the changes
built_changed : (c : Changes) (V : Types) (f : ℕ → ℕ) (x : Node) → IsComposite x → HasNoReal c x → All (λ p. V (f p) ≡ change (change_by c V) (V p)) (parts x) →
    built V (moved_node c (with_parts f x)) ≡ change (change_by c V) (built V x)
built_changed c V f (Var level scope) is none h = absurd is
built_changed c V f Rigid is none h = absurd is
built_changed c V f (Link m) is none h = absurd is
built_changed c V f (Arrow a b) is none h =
    let l : V (f a) ≡ change (change_by c V) (V a) = h zero zero (omega arith) in
    let r : V (f b) ≡ change (change_by c V) (V b) = h 1 zero (omega arith) in
    cc
built_changed c V f (Tuple ms) is none h = ap type.Tuple (all_changed (change_by c V) V f ms h)
built_changed c V f (Con path name ms) is none h =
    ap (type.Con (path_after c path)) (all_changed (change_by c V) V f ms h)
    ∙ ap (λ o. put (path_after c path) o (change_all (change_by c V) (types_of (map V ms)))) (sym (none V))

reads_built : (nodes : List Node) (V : Types) (n : ℕ) (x : Node) → IsReading nodes V → reading nodes n ≡ Some x → IsComposite x → V n ≡ built V x
reads_built nodes V n x reads at is = root_type nodes V reads.fits n ∙ root_built x is at
  where
    root_built : (x : Node) → IsComposite x → reading nodes n ≡ Some x → V (root nodes n) ≡ built V x
    root_built x is at = fits_built V (root nodes n) x is (reads.fits.each (root nodes n) x at)

-- the copies of the parts have their types after the change
abbrev pub PartsChanged : (Types → Change) → Types → (ℕ → ℕ) → Node → Type 0
PartsChanged c V f x = All (λ p. V (f p) ≡ change (c V) (V p)) (parts x)

-- a node is another's copy where it has the type after the change, once its parts' copies have
over_changed : (old new : List Node) (c : Types → Change) (T : Table) (n m : ℕ) (x : Node) → Extends old new → IsComposite x → reading old n ≡ Some x → AreCopied old c T (parts x) → IsNode new m →
    ((V : Types) → IsReading new V → PartsChanged c V (image old T) x → V m ≡ change (c V) (built V x)) → IsNode old n → IsChanged new c n m
over_changed old new c T n m x extends is at copied inside types n_in = changed_new
  where
    old_changed : (V : Types) → IsReading new V → KeepsUnbound old c V n → V m ≡ change (c V) (V n)
    old_changed V reads keeps =
        let before = reading_before old new V extends reads in
        types V reads (λ k d lt. (copied k d lt).1.reads V before (λ v stands free. keeps v (stands_part old v n x k d at lt stands) free))
        ∙ ap (change (c V)) (sym (reads_built old V n x before at is))

    changed_new : IsChanged new c n m
    changed_new = record {
      inside = inside;
      reads = λ V reads keeps. old_changed V reads (λ v stands free. keeps v (stands_after old new v n extends stands) (unbound_after old new v extends free));
    }

moved_composite : (c : Changes) (f : ℕ → ℕ) (x : Node) → IsComposite x → IsComposite (moved_node c (with_parts f x))
moved_composite c f (Var level scope) is = is
moved_composite c f Rigid is = is
moved_composite c f (Link m) is = is
moved_composite c f (Arrow a b) is = tt
moved_composite c f (Tuple ms) is = tt
moved_composite c f (Con path name ms) is = tt

-- a node that was made over the copies
pub made_changed : (old new : State) (c : Changes) (T : Table) (n m : ℕ) (x : Node) → IsComposite x → HasNoReal c x → reading old.nodes n ≡ Some x → AreCopied old.nodes (change_by c) T (parts x) →
    Makes old new m (moved_node c (with_parts (image old.nodes T) x)) → IsNode old.nodes n → IsChanged new.nodes (change_by c) n m
made_changed old new c T n m x is none at copied makes n_in =
    let y = moved_node c (with_parts (image old.nodes T) x) in
    let here = made_here old new m y makes in
    over_changed old.nodes new.nodes (change_by c) T n m x (makes_extends old new m y makes) is at copied here.0
    (λ V reads h. fits_built V m y (moved_composite c (image old.nodes T) x is) (reads.fits.each m y here.1) ∙ built_changed c V (image old.nodes T) x is none h) n_in

-- a declared type over the copies of a constructor's arguments, where it stands in the place of the origin
pub real_changed : (old new : List Node) (c : Changes) (T : Table) (n m r arity : ℕ) (path : Path) (name ms : List ℕ) → Extends old new → reading old n ≡ Some (Con path name ms) → AreCopied old (change_by c) T ms →
    IsDeclaredOver new r arity (map (image old T) ms) m → ((V : Types) → real_at V path c.real.items ≡ Some (declared arity (V r))) → IsNode old n → IsChanged new (change_by c) n m
real_changed old new c T n m r arity path name ms extends at copied over real n_in =
    over_changed old new (change_by c) T n m (Con path name ms) extends tt at copied over.inside
    (λ V reads h. over.reads V reads ∙ ap (λ ts. apply (argument ts) (declared arity (V r))) (all_changed (change_by c V) V (image old T) ms h)
    ∙ ap (λ o. put (path_after c path) o (change_all (change_by c V) (types_of (map V ms)))) (sym (real V))) n_in

map_types : (nodes : List Node) (V : Types) (f : ℕ → ℕ) (ms : List ℕ) → IsReading nodes V → All (λ p. f p ≡ root nodes p) ms → types_of (map V ms) ≡ types_of (map V (map f ms))
map_types nodes V f [] reads h = refl
map_types nodes V f (m ∷ ms) reads h =
    let here : V m ≡ V (f m) = root_type nodes V reads.fits m ∙ ap V (sym (h zero zero (omega arith))) in
    let there : types_of (map V ms) ≡ types_of (map V (map f ms)) = map_types nodes V f ms reads (λ k d lt. h (suc k) d (omega arith)) in
    cc

same_built : (nodes : List Node) (V : Types) (f : ℕ → ℕ) (x : Node) → IsReading nodes V → IsComposite x → All (λ p. f p ≡ root nodes p) (parts x) → built V x ≡ built V (with_parts f x)
same_built nodes V f (Var level scope) reads is h = absurd is
same_built nodes V f Rigid reads is h = absurd is
same_built nodes V f (Link m) reads is h = absurd is
same_built nodes V f (Arrow a b) reads is h =
    let l : V a ≡ V (f a) = root_type nodes V reads.fits a ∙ ap V (sym (h zero zero (omega arith))) in
    let r : V b ≡ V (f b) = root_type nodes V reads.fits b ∙ ap V (sym (h 1 zero (omega arith))) in
    cc
same_built nodes V f (Tuple ms) reads is h = ap type.Tuple (map_types nodes V f ms reads h)
same_built nodes V f (Con path name ms) reads is h = ap (type.Con path) (map_types nodes V f ms reads h)

-- the node itself, where its parts' copies are their roots, and it keeps its path and origin
pub itself_changed : (nodes : List Node) (c : Changes) (T : Table) (n : ℕ) (x : Node) → Extends nodes nodes → IsComposite x → HasNoReal c x → reading nodes n ≡ Some x → AreCopied nodes (change_by c) T (parts x) →
    All (λ p. image nodes T p ≡ root nodes p) (parts x) → moved_node c (with_parts (image nodes T) x) ≡ with_parts (image nodes T) x → IsNode nodes n → IsChanged nodes (change_by c) n n
itself_changed nodes c T n x same is none at copied roots path n_in =
    over_changed nodes nodes (change_by c) T n n x same is at copied n_in
    (λ V reads h. reads_built nodes V n x reads at is ∙ same_built nodes V (image nodes T) x reads is roots ∙ ap (built V) (sym path) ∙ built_changed c V (image nodes T) x is none h) n_in

-- a variable is its own copy
pub var_changed : (nodes : List Node) (c : Types → Change) (n level scope : ℕ) → IsNode nodes n → root nodes n ≡ n → reading nodes n ≡ Some (Var level scope) → IsChanged nodes c n n
var_changed nodes c n level scope inside end at = record { inside = inside; reads = λ V reads keeps. go (same_or_other level bound_level) V reads keeps }
  where
    go : (level ≡ bound_level) ⊎ (level ≢ bound_level) → (V : Types) → IsReading nodes V → KeepsUnbound nodes c V n → V n ≡ change (c V) (V n)
    go (inl bound) V reads keeps =
        let here : slice_get nodes n ≡ Some (Var bound_level scope) = ap (slice_get nodes) (sym end) ∙ at ∙ ap (λ l. Some (Var l scope)) bound in
        let own : V n ≡ type.Var n = reads.own n scope here in
        own ∙ sym (ap (change (c V)) own)
    go (inr free) V reads keeps = sym (keeps n (record { each = λ F closed has. has }) (inl (record { inside = inside; level = level; scope = scope; reads = at; unbound = free })))

-- a rigid variable is its own copy
pub rigid_changed : (nodes : List Node) (c : Types → Change) (n : ℕ) → IsNode nodes n → reading nodes n ≡ Some Rigid → IsChanged nodes c n n
rigid_changed nodes c n inside at = record { inside = inside; reads = λ V reads keeps. sym (keeps n (record { each = λ F closed has. has }) (inr (inside, at))) }
