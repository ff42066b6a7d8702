-- The types of copies.
use Rattle.std.proofs.Common.{◌≡◌, ◌≢◌, ℕ, zero, suc, List, [], ◌∷◌, map, get_or, Option, Some, None, refl, sym, ◌∙◌, ap, subst, arith}
use Rattle.std.specs.Prelude.{slice_get, All, unwrap_or}
use Rattle.std.proofs.lemmas.Option.{slice_get_within}
use Rattle.type_model.specs.Types.{Typ, types_of}
use Rattle.type_model.specs.Types.{Typ as type, Typs as types}
use Rattle.type_model.specs.Substitutions.{Subst, apply, apply_all}
use Rattle.type_model.proofs.Applying.{apply_agree}
use Rattle.type_nodes.specs.Nodes.{Node, Var, Rigid, Link, Arrow, Tuple, Con, parts, bound_level, IsNode, IsSound}
use Rattle.type_nodes.specs.Links.{root, IsComposite, IsNoLink}
use Rattle.type_nodes.specs.Readings.{Types, IsReading, FitsNode}
use Rattle.type_nodes.proofs.LinkedReadings.{root_type}
use Rattle.type_nodes.proofs.Lists.{one_element}
use Rattle.type_nodes.proofs.Roots.{root_inside}
use Rattle.level_unify.specs.Copies.{Table, image, with_parts, Extends, IsBoundVar}
use Rattle.level_unify.proofs.Instances.{reading_before}
use Rattle.type_substitution.specs.Substituting.{by_types, ReadsBound, IsSubstituted}
use Rattle.type_substitution.specs.Copying.{AreSubstituted, HaveCopies, IsKept, IsOver, StandsFor}
use Rattle.type_substitution.proofs.Standing.{same_roots, free_stays}

-- what reads as a bound variable does so in a store with more nodes, and did so before
bound_after : (old new : List Node) (p : ℕ) → Extends old new → IsNode old p → ReadsBound old p → ReadsBound new p
bound_after old new p extends lt (scope, e) = (scope, ap (slice_get new) (extends.roots p lt) ∙ extends.node (root old p) (slice_get_within old (root old p) (Var bound_level scope) e) ∙ e)

bound_before : (old new : List Node) (p : ℕ) → IsSound old → Extends old new → IsNode old p → ReadsBound new p → ReadsBound old p
bound_before old new p sound extends lt (scope, e) = (scope, sym (extends.node (root old p) (root_inside old sound p lt)) ∙ ap (slice_get new) (sym (extends.roots p lt)) ∙ e)

-- the roots of nodes stay
roots_stay : (old new : List Node) (vs : List ℕ) → Extends old new → All (IsNode old) vs → All (λ p. root new p ≡ root old p) vs
roots_stay old new vs extends nodes k d lt = extends.roots (get_or vs k d) (nodes k d lt)

-- the variables' roots may be taken after or before
pub from_after : (old new : List Node) (vs ts : List ℕ) (n m : ℕ) → Extends old new → All (IsNode old) vs → IsSubstituted new new vs ts n m → IsSubstituted old new vs ts n m
from_after old new vs ts n m extends nodes is = record {
  inside = is.inside;
  reads = λ V reads bound.
      is.reads V reads (λ k d lt. bound_after old new (get_or vs k d) extends (nodes k d lt) (bound k d lt))
      ∙ apply_agree (by_types new V vs ts) (by_types old V vs ts) (V n) (λ v o. sym (same_roots old new V vs ts (roots_stay old new vs extends nodes) v));
}

pub from_before : (old new : List Node) (vs ts : List ℕ) (n m : ℕ) → IsSound old → Extends old new → All (IsNode old) vs → IsSubstituted old new vs ts n m → IsSubstituted new new vs ts n m
from_before old new vs ts n m sound extends nodes is = record {
  inside = is.inside;
  reads = λ V reads bound.
      is.reads V reads (λ k d lt. bound_before old new (get_or vs k d) sound extends (nodes k d lt) (bound k d lt))
      ∙ apply_agree (by_types old V vs ts) (by_types new V vs ts) (V n) (λ v o. same_roots old new V vs ts (roots_stay old new vs extends nodes) v);
}

-- a copy stays one when nodes are added
pub later : (base old new : List Node) (vs ts : List ℕ) (n m : ℕ) → Extends old new → IsSubstituted base old vs ts n m → IsSubstituted base new vs ts n m
later base old new vs ts n m extends is = record {
  inside = let l = extends.longer in let i = is.inside in omega arith;
  reads = λ V reads bound. is.reads V (reading_before old new V extends reads) bound;
}

-- the root's copy is the node's
root_substituted : (base nodes : List Node) (vs ts : List ℕ) (n m : ℕ) → IsSubstituted base nodes vs ts (root nodes n) m → IsSubstituted base nodes vs ts n m
root_substituted base nodes vs ts n m is = record {
  inside = is.inside;
  reads = λ V reads bound. is.reads V reads bound ∙ ap (apply (by_types base V vs ts)) (sym (root_type nodes V reads.fits n));
}

-- where a node's root has a copy, the image is one of the node
pub image_substituted : (nodes : List Node) (vs ts : List ℕ) (T : Table) (n : ℕ) → AreSubstituted nodes vs ts T → T (root nodes n) ≢ None → IsSubstituted nodes nodes vs ts n (image nodes T n)
image_substituted nodes vs ts T n copies has = at (T (root nodes n)) refl
  where
    at : (o : Option ℕ) → T (root nodes n) ≡ o → IsSubstituted nodes nodes vs ts n (image nodes T n)
    at None e = absurd (has e)
    at (Some m) e = subst (λ o. IsSubstituted nodes nodes vs ts n (unwrap_or o (root nodes n))) (sym e) (root_substituted nodes nodes vs ts n m (copies.each (root nodes n) m e).1)

-- a type from those of a node's parts
abbrev built : Types → Node → Typ
built V (Var level scope) = type.Tuple types.Nil
built V Rigid = type.Tuple types.Nil
built V (Link m) = V m
built V (Arrow a b) = type.Arrow (V a) (V b)
built V (Tuple ms) = type.Tuple (types_of (map V ms))
built V (Con path name ms) = type.Con path (types_of (map V ms))

fits_built : (V : Types) (n : ℕ) (c : Node) → IsComposite c → FitsNode V n c → V n ≡ built V c
fits_built V n (Var level scope) is h = absurd is
fits_built V n Rigid is h = absurd is
fits_built V n (Link m) is h = absurd is
fits_built V n (Arrow a b) is h = h
fits_built V n (Tuple ms) is h = h
fits_built V n (Con path name ms) is h = h

-- a substitution of the types of the parts is one of the type
all_applied : (s : Subst) (V : Types) (f : ℕ → ℕ) (ms : List ℕ) → All (λ p. V (f p) ≡ apply s (V p)) ms → types_of (map V (map f ms)) ≡ apply_all s (types_of (map V ms))
all_applied s V f [] h = refl
all_applied s V f (m ∷ ms) h =
    let here : V (f m) ≡ apply s (V m) = h zero zero (omega arith) in
    let there : types_of (map V (map f ms)) ≡ apply_all s (types_of (map V ms)) = all_applied s V f ms (λ k d lt. h (suc k) d (omega arith)) in
    cc

built_applied : (s : Subst) (V : Types) (f : ℕ → ℕ) (x : Node) → IsComposite x → All (λ p. V (f p) ≡ apply s (V p)) (parts x) → built V (with_parts f x) ≡ apply s (built V x)
built_applied s V f (Var level scope) is h = absurd is
built_applied s V f Rigid is h = absurd is
built_applied s V f (Link m) is h = absurd is
built_applied s V f (Arrow a b) is h =
    let l : V (f a) ≡ apply s (V a) = h zero zero (omega arith) in
    let r : V (f b) ≡ apply s (V b) = h 1 zero (omega arith) in
    cc
built_applied s V f (Tuple ms) is h = ap type.Tuple (all_applied s V f ms h)
built_applied s V f (Con path name ms) is h = ap (type.Con path) (all_applied s V f ms h)

parts_composite : (f : ℕ → ℕ) (x : Node) → IsComposite x → IsComposite (with_parts f x)
parts_composite f (Var level scope) is = is
parts_composite f Rigid is = is
parts_composite f (Link m) is = is
parts_composite f (Arrow a b) is = tt
parts_composite f (Tuple ms) is = tt
parts_composite f (Con path name ms) is = tt

-- the types of the parts are those of their roots
map_types : (nodes : List Node) (V : Types) (f : ℕ → ℕ) (ms : List ℕ) → IsReading nodes V → All (λ p. f p ≡ root nodes p) ms → types_of (map V ms) ≡ types_of (map V (map f ms))
map_types nodes V f [] reads h = refl
map_types nodes V f (m ∷ ms) reads h =
    let here : V m ≡ V (f m) = root_type nodes V reads.fits m ∙ ap V (sym (h zero zero (omega arith))) in
    let there : types_of (map V ms) ≡ types_of (map V (map f ms)) = map_types nodes V f ms reads (λ k d lt. h (suc k) d (omega arith)) in
    cc

same_built : (nodes : List Node) (V : Types) (f : ℕ → ℕ) (x : Node) → IsReading nodes V → IsComposite x → All (λ p. f p ≡ root nodes p) (parts x) → built V x ≡ built V (with_parts f x)
same_built nodes V f (Var level scope) reads is h = absurd is
same_built nodes V f Rigid reads is h = absurd is
same_built nodes V f (Link m) reads is h = absurd is
same_built nodes V f (Arrow a b) reads is h =
    let l : V a ≡ V (f a) = root_type nodes V reads.fits a ∙ ap V (sym (h zero zero (omega arith))) in
    let r : V b ≡ V (f b) = root_type nodes V reads.fits b ∙ ap V (sym (h 1 zero (omega arith))) in
    cc
same_built nodes V f (Tuple ms) reads is h = ap type.Tuple (map_types nodes V f ms reads h)
same_built nodes V f (Con path name ms) reads is h = ap (type.Con path) (map_types nodes V f ms reads h)

-- a node whose type is built from the copies of another's parts is its copy
pub over_substituted : (old new : List Node) (vs ts : List ℕ) (T : Table) (n m : ℕ) (c : Node) → Extends old new → AreSubstituted old vs ts T → IsComposite c → slice_get old n ≡ Some c → HaveCopies old T (parts c) → IsNode new m →
    ((V : Types) → IsReading new V → V m ≡ built V (with_parts (image old T) c)) → IsSubstituted old new vs ts n m
over_substituted old new vs ts T n m c extends copies is at has inside types = record {
  inside = inside;
  reads = λ V reads bound.
      let before = reading_before old new V extends reads in
      types V reads
      ∙ built_applied (by_types old V vs ts) V (image old T) c is (λ k d lt. (image_substituted old vs ts T (get_or (parts c) k d) copies (has k d lt)).reads V before bound)
      ∙ ap (apply (by_types old V vs ts)) (sym (fits_built V n c is (before.fits.each n c at)));
}

-- a node that was made with the copies
pub made_over : (old new : List Node) (vs ts : List ℕ) (T : Table) (n m : ℕ) (c x : Node) → Extends old new → AreSubstituted old vs ts T → slice_get old n ≡ Some c → HaveCopies old T (parts c) → IsOver old T c x → slice_get new m ≡ Some x →
    IsSubstituted old new vs ts n m
made_over old new vs ts T n m c x extends copies at has (is, same) here =
    over_substituted old new vs ts T n m c extends copies is at has (slice_get_within new m x here)
    (λ V reads. fits_built V m (with_parts (image old T) c) (parts_composite (image old T) c is) (reads.fits.each m (with_parts (image old T) c) (here ∙ ap (λ y. Some y) same)))

-- a composite whose parts keep their roots
composite_kept : (nodes : List Node) (vs ts : List ℕ) (T : Table) (n : ℕ) (c : Node) → Extends nodes nodes → AreSubstituted nodes vs ts T → slice_get nodes n ≡ Some c → HaveCopies nodes T (parts c) → IsComposite c → All (λ p. image nodes T p ≡ root nodes p) (parts c) →
    IsSubstituted nodes nodes vs ts n n
composite_kept nodes vs ts T n c same copies at has is roots =
    over_substituted nodes nodes vs ts T n n c same copies is at has (slice_get_within nodes n c at)
    (λ V reads. fits_built V n c is (reads.fits.each n c at) ∙ same_built nodes V (image nodes T) c reads is roots)

-- a node that is its own copy
pub kept : (nodes : List Node) (vs ts : List ℕ) (T : Table) (n : ℕ) (c : Node) → Extends nodes nodes → AreSubstituted nodes vs ts T → slice_get nodes n ≡ Some c → IsNoLink c → HaveCopies nodes T (parts c) → IsKept nodes T c → IsSubstituted nodes nodes vs ts n n
kept nodes vs ts T n (Var level scope) same copies at end has (free, roots) = record {
  inside = slice_get_within nodes n (Var level scope) at;
  reads = λ V reads bound. sym (free_stays nodes V vs ts n level scope reads bound at free);
}
kept nodes vs ts T n Rigid same copies at end has (free, roots) = record {
  inside = slice_get_within nodes n Rigid at;
  reads = λ V reads bound. let own = reads.fits.each n Rigid at in own ∙ sym (ap (apply (by_types nodes V vs ts)) own);
}
kept nodes vs ts T n (Link m) same copies at end has (free, roots) = absurd end
kept nodes vs ts T n (Arrow a b) same copies at end has (free, roots) = composite_kept nodes vs ts T n (Arrow a b) same copies at has tt roots
kept nodes vs ts T n (Tuple ms) same copies at end has (free, roots) = composite_kept nodes vs ts T n (Tuple ms) same copies at has tt roots
kept nodes vs ts T n (Con path name ms) same copies at end has (free, roots) = composite_kept nodes vs ts T n (Con path name ms) same copies at has tt roots

-- what stands for a bound variable
pub for_bound : (old new : List Node) (vs ts : List ℕ) (n m : ℕ) (c : Node) → Extends old new → slice_get old n ≡ Some c → IsBoundVar c → StandsFor old new vs ts n m → IsSubstituted old new vs ts n m
for_bound old new vs ts n m (Var level scope) extends at bound stands = record {
  inside = stands.inside;
  reads = λ V reads given.
      let own : V n ≡ type.Var n = (reading_before old new V extends reads).own n scope (at ∙ ap (λ l. Some (Var l scope)) bound) in
      stands.reads V reads own ∙ sym (ap (apply (by_types old V vs ts)) own);
}
for_bound old new vs ts n m Rigid extends at bound stands = absurd bound
for_bound old new vs ts n m (Link k) extends at bound stands = absurd bound
for_bound old new vs ts n m (Arrow a b) extends at bound stands = absurd bound
for_bound old new vs ts n m (Tuple ms) extends at bound stands = absurd bound
for_bound old new vs ts n m (Con path name ms) extends at bound stands = absurd bound

-- a composite is its own copy where its parts are
pub keeps : (nodes : List Node) (T : Table) (o : Option Node) (x c : Node) → (IsBoundVar x → ⊥) → o ≡ Some x → o ≡ Some c → All (λ p. image nodes T p ≡ root nodes p) (parts x) → IsKept nodes T c
keeps nodes T o x c unbound e e' h = subst (IsKept nodes T) (one_element x c o e e') (unbound, h)
