-- Types that fit, under substitutions and where they are moved to copies.
use Rattle.std.proofs.Common.{◌≡◌, ◌≢◌, ℕ, zero, suc, ◌<◌, Bool, true, false, not, eqb, List, [], ◌∷◌, length, map, get_or, Option, Some, None, refl, sym, ◌∙◌, ap, arith, inl, inr}
use Rattle.std.specs.Prelude.{slice_get, All}
use Rattle.std.proofs.lemmas.Bool.Decides.{eqb_tells}
use Rattle.std.proofs.lemmas.Bool.{eqb-true}
use Rattle.type_model.specs.Types.{types_of, occurs, occurs_any}
use Rattle.type_model.specs.Types.{Typ as type}
use Rattle.type_model.specs.Substitutions.{Subst, apply, apply_all}
use Rattle.type_model.proofs.Applying.{or_left, or_right, eqb_same, apply_leaves, apply_all-types_of}
use Rattle.type_nodes.specs.Nodes.{Node, Var, Rigid, Link, Arrow, Tuple, Con, parts, bound_level, IsClosed}
use Rattle.type_nodes.specs.Links.{IsComposite}
use Rattle.type_nodes.specs.Readings.{Types, IsReading}
use Rattle.type_nodes.proofs.Identity.{map_agree}
use Rattle.level_unify.specs.Walks.{StandsIn}
use Rattle.level_unify.specs.Solutions.{Loose, FitsLoosely}
use Rattle.level_unify.specs.Copies.{IsBoundVar, with_parts}
use Rattle.level_unify.specs.Instances.{is_bound, is_bound_var, IsVariant}
use Rattle.level_unify.proofs.Unified.{fits_loosely}

-- bound variables, by the node that stands there
pub bound_cell : (nodes : List Node) (b : ℕ) → is_bound nodes b ≡ true → (scope : ℕ) × (slice_get nodes b ≡ Some (Var bound_level scope))
bound_cell nodes b h = at (slice_get nodes b) refl h
  where
    at : (o : Option Node) → slice_get nodes b ≡ o → is_bound_var o ≡ true → (scope : ℕ) × (slice_get nodes b ≡ Some (Var bound_level scope))
    at None e t = absurd (cc)
    at (Some (Var l o)) e t = (o, e ∙ ap (λ k. Some (Var k o)) (eqb-true l bound_level t))
    at (Some Rigid) e t = absurd (cc)
    at (Some (Link m)) e t = absurd (cc)
    at (Some (Arrow a c)) e t = absurd (cc)
    at (Some (Tuple ms)) e t = absurd (cc)
    at (Some (Con p name ms)) e t = absurd (cc)

pub bound_there : (nodes : List Node) (b : ℕ) (c : Node) → slice_get nodes b ≡ Some c → IsBoundVar c → is_bound nodes b ≡ true
bound_there nodes b (Var l o) e h = ap is_bound_var e ∙ ap (λ k. eqb k bound_level) h ∙ eqb_same bound_level
bound_there nodes b Rigid e h = absurd h
bound_there nodes b (Link m) e h = absurd h
bound_there nodes b (Arrow a c) e h = absurd h
bound_there nodes b (Tuple ms) e h = absurd h
bound_there nodes b (Con p name ms) e h = absurd h

pub free_there : (nodes : List Node) (n level scope : ℕ) → slice_get nodes n ≡ Some (Var level scope) → level ≢ bound_level → is_bound nodes n ≡ false
free_there nodes n level scope e free = elim (eqb_tells level bound_level) [ inl (_, same) ↦ absurd (free same) | inr (t, _) ↦ ap is_bound_var e ∙ t ]

-- two types for a node that fit it and agree on its parts are one, where they agree on variables
pub same_at : (V U : Types) (n : ℕ) (c : Node) → FitsLoosely V n c → FitsLoosely U n c → ((l o : ℕ) → c ≡ Var l o → V n ≡ U n) → All (λ m. V m ≡ U m) (parts c) → V n ≡ U n
same_at V U n (Var l o) p q var h = var l o refl
same_at V U n Rigid p q var h = p ∙ sym q
same_at V U n (Link m) p q var h = let e : V m ≡ U m = h zero zero (omega arith) in p ∙ e ∙ sym q
same_at V U n (Arrow a b) p q var h = let e : V a ≡ U a = h zero zero (omega arith) in let f : V b ≡ U b = h 1 zero (omega arith) in p ∙ (λ i. type.Arrow (e i) (f i)) ∙ sym q
same_at V U n (Tuple ms) p q var h = p ∙ ap (λ ts. type.Tuple (types_of ts)) (map_agree V U ms h) ∙ sym q
same_at V U n (Con o name ms) p q var h = p ∙ ap (λ ts. type.Con o (types_of ts)) (map_agree V U ms h) ∙ sym q

map_through : (W U : Types) (f : ℕ → ℕ) (ms : List ℕ) → All (λ m. W (f m) ≡ U m) ms → map W (map f ms) ≡ map U ms
map_through W U f [] h = refl
map_through W U f (m ∷ ms) h =
    let p : W (f m) ≡ U m = h zero zero (omega arith) in
    let q = map_through W U f ms (λ k d lt. h (suc k) d (omega arith)) in
    (λ i. p i ∷ q i)

-- the copy of a node has the node's type, where the images of the parts have theirs
pub copy_at : (W U : Types) (m n : ℕ) (f : ℕ → ℕ) (c : Node) → IsComposite c → FitsLoosely W m (with_parts f c) → FitsLoosely U n c → All (λ p. W (f p) ≡ U p) (parts c) → W m ≡ U n
copy_at W U m n f (Var l o) is p q h = absurd is
copy_at W U m n f Rigid is p q h = absurd is
copy_at W U m n f (Link k) is p q h = absurd is
copy_at W U m n f (Arrow a b) is p q h = let e : W (f a) ≡ U a = h zero zero (omega arith) in let g : W (f b) ≡ U b = h 1 zero (omega arith) in p ∙ (λ i. type.Arrow (e i) (g i)) ∙ sym q
copy_at W U m n f (Tuple ms) is p q h = p ∙ ap (λ ts. type.Tuple (types_of ts)) (map_through W U f ms h) ∙ sym q
copy_at W U m n f (Con o name ms) is p q h = p ∙ ap (λ ts. type.Con o (types_of ts)) (map_through W U f ms h) ∙ sym q

-- and a copy with the node's type fits
pub copy_fits : (W U : Types) (m n : ℕ) (f : ℕ → ℕ) (c : Node) → IsComposite c → FitsLoosely U n c → All (λ p. W (f p) ≡ U p) (parts c) → W m ≡ U n → FitsLoosely W m (with_parts f c)
copy_fits W U m n f (Var l o) is q h same = absurd is
copy_fits W U m n f Rigid is q h same = absurd is
copy_fits W U m n f (Link k) is q h same = absurd is
copy_fits W U m n f (Arrow a b) is q h same = let e : W (f a) ≡ U a = h zero zero (omega arith) in let g : W (f b) ≡ U b = h 1 zero (omega arith) in same ∙ q ∙ sym (λ i. type.Arrow (e i) (g i))
copy_fits W U m n f (Tuple ms) is q h same = same ∙ q ∙ ap (λ ts. type.Tuple (types_of ts)) (sym (map_through W U f ms h))
copy_fits W U m n f (Con o name ms) is q h same = same ∙ q ∙ ap (λ ts. type.Con o (types_of ts)) (sym (map_through W U f ms h))

-- what fits a node still does, where its type and those of its parts are the same
pub still_fits : (V W : Types) (n : ℕ) (c : Node) → FitsLoosely V n c → W n ≡ V n → All (λ m. W m ≡ V m) (parts c) → FitsLoosely W n c
still_fits V W n (Var l o) p e h = tt
still_fits V W n Rigid p e h = e ∙ p
still_fits V W n (Link m) p e h = let f : W m ≡ V m = h zero zero (omega arith) in e ∙ p ∙ sym f
still_fits V W n (Arrow a b) p e h = let f : W a ≡ V a = h zero zero (omega arith) in let g : W b ≡ V b = h 1 zero (omega arith) in e ∙ p ∙ sym (λ i. type.Arrow (f i) (g i))
still_fits V W n (Tuple ms) p e h = e ∙ p ∙ ap (λ ts. type.Tuple (types_of ts)) (sym (map_agree W V ms h))
still_fits V W n (Con o name ms) p e h = e ∙ p ∙ ap (λ ts. type.Con o (types_of ts)) (sym (map_agree W V ms h))

map_apply : (s : Subst) (V : Types) (ms : List ℕ) → map (apply s) (map V ms) ≡ map (λ m. apply s (V m)) ms
map_apply s V [] = refl
map_apply s V (m ∷ ms) = ap (λ ts. apply s (V m) ∷ ts) (map_apply s V ms)

all_applied : (s : Subst) (V : Types) (ms : List ℕ) → apply_all s (types_of (map V ms)) ≡ types_of (map (λ m. apply s (V m)) ms)
all_applied s V ms = apply_all-types_of s (map V ms) ∙ ap types_of (map_apply s V ms)

apply_at : (s : Subst) (V : Types) (n : ℕ) (c : Node) → FitsLoosely V n c → FitsLoosely (λ k. apply s (V k)) n c
apply_at s V n (Var l o) h = tt
apply_at s V n Rigid h = ap (apply s) h
apply_at s V n (Link m) h = ap (apply s) h
apply_at s V n (Arrow a b) h = ap (apply s) h
apply_at s V n (Tuple ms) h = ap (apply s) h ∙ ap type.Tuple (all_applied s V ms)
apply_at s V n (Con o name ms) h = ap (apply s) h ∙ ap (type.Con o) (all_applied s V ms)

-- a substitution of types that fit gives types that fit
pub loose_apply : (nodes : List Node) (s : Subst) (V : Types) → Loose nodes V → Loose nodes (λ n. apply s (V n))
loose_apply nodes s V fits = record { each = λ n c e. apply_at s V n c (fits.each n c e) }

-- a substitution of the bound variables of a reading leaves the types of the free ones
pub reading_variant : (nodes : List Node) (s : Subst) (V : Types) → ((v : ℕ) → is_bound nodes v ≡ false → s v ≡ type.Var v) → IsReading nodes V → IsVariant nodes V (λ n. apply s (V n))
reading_variant nodes s V fixes reads = record {
  loose = loose_apply nodes s V (fits_loosely nodes V reads.fits);
  free = λ n level scope e free. apply_leaves s (V n) (λ v o. fixes v (not_bound n level scope e free v o (is_bound nodes v) refl));
}
  where
    not_bound : (n level scope : ℕ) → slice_get nodes n ≡ Some (Var level scope) → level ≢ bound_level → (v : ℕ) → occurs v (V n) ≡ true → (t : Bool) → is_bound nodes v ≡ t → is_bound nodes v ≡ false
    not_bound n level scope e free v o false h = h
    not_bound n level scope e free v o true h =
        let (scope', e') = bound_cell nodes v h in
        absurd (let f = reads.apart n level scope v scope' e free e' in cc)

any_at : (b : ℕ) (V : Types) (ms : List ℕ) (k d : ℕ) → k < length ms → occurs b (V (get_or ms k d)) ≡ true → occurs_any b (types_of (map V ms)) ≡ true
any_at b V [] k d lt h = absurd (omega arith)
any_at b V (m ∷ ms) zero d lt h = or_left (occurs b (V m)) (occurs_any b (types_of (map V ms))) h
any_at b V (m ∷ ms) (suc k) d lt h = or_right (occurs b (V m)) (occurs_any b (types_of (map V ms))) (any_at b V ms k d (omega arith) h)

-- what occurs in the type of a part occurs in that of the node
part_occurs : (b : ℕ) (V : Types) (n : ℕ) (c : Node) → FitsLoosely V n c → All (λ m. occurs b (V m) ≡ true → occurs b (V n) ≡ true) (parts c)
part_occurs b V n (Var l o) fits k d lt = absurd (omega arith)
part_occurs b V n Rigid fits k d lt = absurd (omega arith)
part_occurs b V n (Link m) fits zero d lt = λ h. ap (occurs b) fits ∙ h
part_occurs b V n (Link m) fits (suc k) d lt = absurd (omega arith)
part_occurs b V n (Arrow x y) fits zero d lt = λ h. ap (occurs b) fits ∙ or_left (occurs b (V x)) (occurs b (V y)) h
part_occurs b V n (Arrow x y) fits (suc zero) d lt = λ h. ap (occurs b) fits ∙ or_right (occurs b (V x)) (occurs b (V y)) h
part_occurs b V n (Arrow x y) fits (suc (suc k)) d lt = absurd (omega arith)
part_occurs b V n (Tuple ms) fits k d lt = λ h. ap (occurs b) fits ∙ any_at b V ms k d lt h
part_occurs b V n (Con p name ms) fits k d lt = λ h. ap (occurs b) fits ∙ any_at b V ms k d lt h

-- a bound variable that stands in a node occurs in its type
pub stands_occurs : (nodes : List Node) (V : Types) (b r : ℕ) → Loose nodes V → V b ≡ type.Var b → StandsIn nodes b r → occurs b (V r) ≡ true
stands_occurs nodes V b r fits own stands = at (occurs b (V r)) refl
  where
    F : ℕ → Bool
    F n = not (occurs b (V n))

    lacks : (x y : Bool) → (y ≡ true → x ≡ true) → not x ≡ true → not y ≡ true
    lacks true true h e = e
    lacks true false h e = refl
    lacks false true h e = absurd (let f = h refl in cc)
    lacks false false h e = refl

    closed : IsClosed nodes F
    closed = record { each = λ n c has e k d lt. lacks (occurs b (V n)) (occurs b (V (get_or (parts c) k d))) (part_occurs b V n c (fits.each n c e) k d lt) has }

    at : (t : Bool) → occurs b (V r) ≡ t → occurs b (V r) ≡ true
    at true e = e
    at false e = absurd (
        let has : F b ≡ true = stands.each F closed (ap not e) in
        let own' : F b ≡ false = ap not (ap (occurs b) own ∙ eqb_same b) in cc)
