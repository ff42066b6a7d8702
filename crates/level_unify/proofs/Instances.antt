-- What a copy's types are: those of the node, with other types for the bound variables.
use Rattle.std.proofs.Common.{◌≡◌, ◌≢◌, ℕ, zero, suc, ◌<◌, ◌≤◌, Bool, true, false, cond, ltb, List, [], ◌∷◌, map, not, ◌&&◌, length, get_or, Option, Some, None, refl, sym, ◌∙◌, ap, subst, arith, ◌⊎◌, inl, inr}
use Rattle.std.specs.Prelude.{slice_get, All, unwrap_or, is_some}
use Rattle.std.proofs.lemmas.Bool.{lt-ltb, le-ltb}
use Rattle.std.proofs.lemmas.Option.{slice_get_within}
use Rattle.type_nodes.specs.Nodes.{Node, Var, Rigid, Link, Arrow, Tuple, Con, parts, bound_level}
use Rattle.type_nodes.specs.Links.{root, IsComposite, IsNoLink}
use Rattle.type_nodes.specs.Readings.{Types, IsReading}
use Rattle.type_nodes.proofs.Lists.{one_element}
use Rattle.type_nodes.proofs.Roots.{root_here, next_stays, root_link, closed_root}
use Rattle.level_unify.specs.Walks.{StandsIn}
use Rattle.level_unify.specs.Solutions.{Loose, FitsLoosely, HaveNoBound}
use Rattle.level_unify.specs.Limits.{FitsUnder}
use Rattle.level_unify.specs.Copies.{Table, image, with_parts, IsBoundVar, IsCopy, Extends, Copied, IsShared}
use Rattle.level_unify.specs.Instances.{is_bound, IsVariant, CopiesOnce, StaysInside}
use Rattle.level_unify.proofs.Images.{parts_map}
use Rattle.level_unify.proofs.Steps.{cell_at}
use Rattle.level_unify.proofs.Solving.{loose_root}
use Rattle.level_unify.proofs.Walking.{get_here, parts_inside}
use Rattle.level_unify.proofs.Variants.{bound_cell, bound_there, same_at, copy_at, copy_fits, still_fits}

-- what stands in r was found
pub found_at : (old new : List Node) (made : Node) (r m : ℕ) (c : Copied old new made r m) (n : ℕ) → StandsIn old n r → (k : ℕ) × (slice_get c.found k ≡ Some (root old n))
found_at old new made r m c n stands = c.reached.listed n (stands.each c.reached.set c.reached.closed c.reached.start)

pub var_root : (nodes : List Node) (n level scope : ℕ) → slice_get nodes n ≡ Some (Var level scope) → root nodes n ≡ n
var_root nodes n level scope e = root_here nodes n (next_stays nodes n (Var level scope) e tt)

-- what fits the new nodes fits the old ones
pub loose_before : (old new : List Node) (V : Types) → Extends old new → Loose new V → Loose old V
loose_before old new V extends fits = record { each = λ n c e. fits.each n c (extends.node n (slice_get_within old n c e) ∙ e) }

-- a root with a copy, and what stands there
pub record CopyAt (old new : List Node) (made : Node) (found : List ℕ) (T : Table) (n m : ℕ) : Type 0 where
  pub place : ℕ
  pub listed : slice_get found place ≡ Some n
  pub node : Node
  pub node_at : slice_get old n ≡ Some node
  pub copy : Node
  pub copy_at : slice_get new m ≡ Some copy
  pub is : IsCopy old T made node copy

pub copied_at : (old new : List Node) (made : Node) (r m' : ℕ) (c : Copied old new made r m') (n m : ℕ) → c.table n ≡ Some m → CopyAt old new made c.found c.table n m
copied_at old new made r m' c n m e =
    let (lo, hi, s) = c.copied.sources n m e in
    let (t, (k, lt, f)) = c.copied.copies m lo hi in
    let f' : slice_get c.found k ≡ Some n = f ∙ ap (λ j. Some j) s in
    let (node, at) = cell_at old n (c.reached.roots k n f').0 in
    elim (c.copied.images k n node lt f' at) [
      | inl (none, _) ↦ absurd (let g : Some m ≡ None = sym e ∙ none in cc)
      | inr (q, x, t', there, copy) ↦
          let same : q ≡ m = one_element q m (c.table n) t' e in
          record { place = k; listed = f'; node = node; node_at = at; copy = x; copy_at = subst (λ j. slice_get new j ≡ Some x) same there; is = copy }
    ]

-- a free variable has no copy
pub free_uncopied : (old new : List Node) (made : Node) (r m' : ℕ) (c : Copied old new made r m') (n level scope : ℕ) → slice_get old n ≡ Some (Var level scope) → level ≢ bound_level → c.table n ≡ None
free_uncopied old new made r m' c n level scope e free = at (c.table n) refl
  where
    no_copy : (x : Node) → IsCopy old c.table made (Var level scope) x → ⊥
    no_copy x (inl (bound, _)) = free bound
    no_copy x (inr (is, _, _)) = is

    at : (o : Option ℕ) → c.table n ≡ o → c.table n ≡ None
    at None f = f
    at (Some m) f =
        let a = copied_at old new made r m' c n m f in
        absurd (no_copy a.copy (subst (λ d. IsCopy old c.table made d a.copy) (one_element a.node (Var level scope) (slice_get old n) a.node_at e) a.is))

-- what is made for bound variables stands at a bound variable's copy
pub bound_made : (old new : List Node) (made : Node) (r m' : ℕ) (c : Copied old new made r m') (b m : ℕ) → is_bound old b ≡ true → c.table b ≡ Some m → slice_get new m ≡ Some made
bound_made old new made r m' c b m bound t =
    let (scope, e) = bound_cell old b bound in
    let a = copied_at old new made r m' c b m t in
    a.copy_at ∙ ap (λ y. Some y) (is_made scope a.copy (subst (λ d. IsCopy old c.table made d a.copy) (one_element a.node (Var bound_level scope) (slice_get old b) a.node_at e) a.is))
  where
    is_made : (scope : ℕ) (x : Node) → IsCopy old c.table made (Var bound_level scope) x → x ≡ made
    is_made scope x (inl (_, e)) = e
    is_made scope x (inr (is, _, _)) = absurd is

-- a bound variable that stands in r has a copy
pub bound_copied : (old new : List Node) (made : Node) (r m' : ℕ) (c : Copied old new made r m') (b : ℕ) → is_bound old b ≡ true → StandsIn old b r → (m : ℕ) × (c.table b ≡ Some m)
bound_copied old new made r m' c b bound stands =
    let (scope, e) = bound_cell old b bound in
    let (k, f) = found_at old new made r m' c b stands in
    let f' : slice_get c.found k ≡ Some b = f ∙ ap (λ j. Some j) (var_root old b bound_level scope e) in
    elim (c.copied.images k b (Var bound_level scope) (slice_get_within c.found k b f') f' e) [
      | inl (_, (none, _)) ↦ absurd (none refl)
      | inr (m, x, t, there, copy) ↦ (m, t)
    ]

pub image_none : (old : List Node) (T : Table) (n : ℕ) → root old n ≡ n → T n ≡ None → image old T n ≡ n
image_none old T n end none = ap (λ k. unwrap_or (T k) k) end ∙ ap (λ o. unwrap_or o n) none

pub image_some : (old : List Node) (T : Table) (n m : ℕ) → root old n ≡ n → T n ≡ Some m → image old T n ≡ m
image_some old T n m end some = ap (λ k. unwrap_or (T k) k) end ∙ ap (λ o. unwrap_or o n) some

image_root : (old : List Node) (T : Table) (p : ℕ) → root old (root old p) ≡ root old p → image old T (root old p) ≡ image old T p
image_root old T p end = ap (λ k. unwrap_or (T k) k) end

-- a place in the list of a part's root, before the node's
pub record PartAt (old : List Node) (found : List ℕ) (k p : ℕ) : Type 0 where
  pub place : ℕ
  pub before : place < k
  pub listed : slice_get found place ≡ Some (root old p)
  pub end : root old (root old p) ≡ root old p
  pub inside : p < length old
  pub root_in : root old p < length old

part_at : (old new : List Node) (made : Node) (r m' : ℕ) (c : Copied old new made r m') (k n : ℕ) (d : Node) → slice_get c.found k ≡ Some n → slice_get old n ≡ Some d → All (PartAt old c.found k) (parts d)
part_at old new made r m' c k n d e at i z lt =
    let (j, low, f) = c.reached.behind k n d e at i z lt in
    let own = c.reached.roots j (root old (get_or (parts d) i z)) f in
    record { place = j; before = low; listed = f; end = own.1; inside = parts_inside old c.sound n d at i z lt; root_in = own.0 }

-- Types W that fit the new nodes and types U that fit the old ones, the same at the free variables, and at the bound variables
-- as W at their copies: then each image has in W the type that the node has in U.
pub images_typed : (old new : List Node) (made : Node) (r m' : ℕ) (c : Copied old new made r m') (W U : Types) → Loose new W → Loose old U →
    ((n l o : ℕ) → slice_get old n ≡ Some (Var l o) → l ≢ bound_level → W n ≡ U n) →
    ((n m : ℕ) → c.table n ≡ Some m → is_bound old n ≡ true → W m ≡ U n) →
    (k n : ℕ) → slice_get c.found k ≡ Some n → W (image old c.table n) ≡ U n
images_typed old new made r m' c W U w u free bound k n e = go (suc k) k n (omega arith) e
  where
    before : Loose old W
    before = loose_before old new W c.copied.extends w

    go : (i k n : ℕ) → k < i → slice_get c.found k ≡ Some n → W (image old c.table n) ≡ U n
    go zero k n lt e = absurd (omega arith)
    go (suc i) k n lt e =
        let own = c.reached.roots k n e in
        let (d, at) = cell_at old n own.0 in
        let images : All (λ p. W (image old c.table p) ≡ U p) (parts d) = λ j z within.
        let a = part_at old new made r m' c k n d e at j z within in
        let b = a.before in
        sym (ap W (image_root old c.table (get_or (parts d) j z) a.end)) ∙ go i a.place (root old (get_or (parts d) j z)) (omega arith) a.listed ∙ sym (loose_root old U u (get_or (parts d) j z)) in
        elim (c.copied.images k n d (slice_get_within c.found k n e) e at) [
          | inl (none, shared) ↦ ap W (image_none old c.table n own.1 none) ∙ same_at W U n d (before.each n d at) (u.each n d at) (var d at shared.0)
              (λ j z within.
              let a = part_at old new made r m' c k n d e at j z within in
              loose_root old W before (get_or (parts d) j z) ∙ sym (ap W (image_none old c.table (root old (get_or (parts d) j z)) a.end (shared.1 j z within))) ∙ ap W (image_root old c.table (get_or (parts d) j z) a.end) ∙ images j z within)
          | inr (m, x, t, there, copy) ↦ ap W (image_some old c.table n m own.1 t) ∙ of_copy m d x at t there images copy
        ]
      where
        var : (d : Node) → slice_get old n ≡ Some d → (IsBoundVar d → ⊥) → (l o : ℕ) → d ≡ Var l o → W n ≡ U n
        var d at none l o is = free n l o (at ∙ ap (λ y. Some y) is) (λ b. none (subst IsBoundVar (sym is) b))

        of_copy : (m : ℕ) (d x : Node) → slice_get old n ≡ Some d → c.table n ≡ Some m → slice_get new m ≡ Some x → All (λ p. W (image old c.table p) ≡ U p) (parts d) → IsCopy old c.table made d x → W m ≡ U n
        of_copy m d x at t there images (inl (b, _)) = bound n m t (bound_there old n d at b)
        of_copy m d x at t there images (inr (is, _, same)) = copy_at W U m n (image old c.table) d is (subst (FitsLoosely W m) same (w.each m x there)) (u.each n d at) images

-- so the copy has the type that U gives r
pub copy_typed : (old new : List Node) (made : Node) (r m' : ℕ) (c : Copied old new made r m') (W U : Types) → Loose new W → Loose old U →
    ((n l o : ℕ) → slice_get old n ≡ Some (Var l o) → l ≢ bound_level → W n ≡ U n) →
    ((n m : ℕ) → c.table n ≡ Some m → is_bound old n ≡ true → W m ≡ U n) → W m' ≡ U r
copy_typed old new made r m' c W U w u free bound =
    let (k, e) = found_at old new made r m' c r (record { each = λ F closed has. has }) in
    ap W c.is ∙ sym (ap W (image_root old c.table r (c.reached.roots k (root old r) e).1)) ∙ images_typed old new made r m' c W U w u free bound k (root old r) e ∙ sym (loose_root old U u r)

-- a node without a copy has the same type in types that differ at bound variables alone
shared_typed : (old new : List Node) (made : Node) (r m' : ℕ) (c : Copied old new made r m') (V U : Types) → Loose old V → IsVariant old V U → (k n : ℕ) → slice_get c.found k ≡ Some n → c.table n ≡ None → V n ≡ U n
shared_typed old new made r m' c V U v u k n e none = go (suc k) k n (omega arith) e none
  where
    go : (i k n : ℕ) → k < i → slice_get c.found k ≡ Some n → c.table n ≡ None → V n ≡ U n
    go zero k n lt e none = absurd (omega arith)
    go (suc i) k n lt e none =
        let own = c.reached.roots k n e in
        let (d, at) = cell_at old n own.0 in
        elim (c.copied.images k n d (slice_get_within c.found k n e) e at) [
          | inl (_, shared) ↦ same_at V U n d (v.each n d at) (u.loose.each n d at) (var d at shared.0)
              (λ j z within.
              let a = part_at old new made r m' c k n d e at j z within in
              let b = a.before in
              loose_root old V v (get_or (parts d) j z) ∙ go i a.place (root old (get_or (parts d) j z)) (omega arith) a.listed (shared.1 j z within) ∙ sym (loose_root old U u.loose (get_or (parts d) j z)))
          | inr (m, x, t, there, copy) ↦ absurd (let f : Some m ≡ None = sym t ∙ none in cc)
        ]
      where
        var : (d : Node) → slice_get old n ≡ Some d → (IsBoundVar d → ⊥) → (l o : ℕ) → d ≡ Var l o → V n ≡ U n
        var d at none' l o is = sym (u.free n l o (at ∙ ap (λ y. Some y) is) (λ b. none' (subst IsBoundVar (sym is) b)))

-- what fits the new nodes, and is read from them, fits the old ones and is read from them
pub under_before : (old new : List Node) (L : ℕ → ℕ) (V : Types) → Extends old new → FitsUnder L new V → FitsUnder L old V
under_before old new L V extends fits = record {
  loose = loose_before old new V extends fits.loose;
  under = λ n l o e free. fits.under n l o (extends.node n (slice_get_within old n (Var l o) e) ∙ e) free;
}

pub reading_before : (old new : List Node) (V : Types) → Extends old new → IsReading new V → IsReading old V
reading_before old new V extends reads = record {
  fits = record { each = λ n c e. reads.fits.each n c (still n c e) };
  own = λ n scope e. reads.own n scope (still n (Var bound_level scope) e);
  apart = λ n level scope b scope' e free e'. reads.apart n level scope b scope' (still n (Var level scope) e) free (still b (Var bound_level scope') e');
}
  where
    still : (n : ℕ) (c : Node) → slice_get old n ≡ Some c → slice_get new n ≡ Some c
    still n c e = extends.node n (slice_get_within old n c e) ∙ e

-- types for the new nodes: those of before, and for each node that was made the one that U gives its source
abbrev pub extended : List Node → (ℕ → ℕ) → Types → Types → Types
extended old source V U n = cond (ltb n (length old)) (V n) (U (source n))

pub at_old : (old : List Node) (source : ℕ → ℕ) (V U : Types) (n : ℕ) → n < length old → extended old source V U n ≡ V n
at_old old source V U n lt = let e = lt-ltb n (length old) lt in ap (λ b. cond b (V n) (U (source n))) e

pub at_new : (old : List Node) (source : ℕ → ℕ) (V U : Types) (n : ℕ) → length old ≤ n → extended old source V U n ≡ U (source n)
at_new old source V U n le = let e = le-ltb n (length old) le in ap (λ b. cond b (V n) (U (source n))) e

-- the image of a node that was found has in them the type that U gives the node
image_typed : (old new : List Node) (made : Node) (r m' : ℕ) (c : Copied old new made r m') (V U : Types) → Loose old V → IsVariant old V U → (k p : ℕ) → slice_get c.found k ≡ Some (root old p) →
    extended old c.copied.source V U (image old c.table p) ≡ U p
image_typed old new made r m' c V U v u k p e = at (c.table (root old p)) refl
  where
    own : (root old p < length old) × (root old (root old p) ≡ root old p) × StandsIn old (root old p) r
    own = c.reached.roots k (root old p) e

    at : (o : Option ℕ) → c.table (root old p) ≡ o → extended old c.copied.source V U (image old c.table p) ≡ U p
    at None none =
        ap (extended old c.copied.source V U) (ap (λ o. unwrap_or o (root old p)) none) ∙ at_old old c.copied.source V U (root old p) own.0
        ∙ shared_typed old new made r m' c V U v u k (root old p) e none ∙ sym (loose_root old U u.loose p)
    at (Some q) some =
        let (lo, hi, s) = c.copied.sources (root old p) q some in
        ap (extended old c.copied.source V U) (ap (λ o. unwrap_or o (root old p)) some) ∙ at_new old c.copied.source V U q lo ∙ ap U s ∙ sym (loose_root old U u.loose p)

-- a node that was made: its source, and what stands there
pub made_at : (old new : List Node) (made : Node) (r m' : ℕ) (c : Copied old new made r m') (n : ℕ) → length old ≤ n → n < length new → CopyAt old new made c.found c.table (c.copied.source n) n
made_at old new made r m' c n lo hi = copied_at old new made r m' c (c.copied.source n) n (c.copied.copies n lo hi).0

pub old_or_new : (n k : ℕ) → (n < k) ⊎ (k ≤ n)
old_or_new n k = grind arith

-- they fit, where what is made for bound variables fits
pub extended_loose : (old new : List Node) (made : Node) (r m' : ℕ) (c : Copied old new made r m') (V U : Types) → Loose old V → IsVariant old V U →
    ((n : ℕ) → c.table (c.copied.source n) ≡ Some n → is_bound old (c.copied.source n) ≡ true → extended old c.copied.source V U n ≡ U (c.copied.source n) → FitsLoosely (extended old c.copied.source V U) n made) →
    Loose new (extended old c.copied.source V U)
extended_loose old new made r m' c V U v u fits = record { each = λ n x e. elim (old_or_new n (length old)) [ inl lt ↦ of_old n x lt e | inr le ↦ of_new n x le (slice_get_within new n x e) e ] }
  where
    W : Types
    W = extended old c.copied.source V U

    of_old : (n : ℕ) (x : Node) → n < length old → slice_get new n ≡ Some x → FitsLoosely W n x
    of_old n x lt e =
        let e' = sym (c.copied.extends.node n lt) ∙ e in
        still_fits V W n x (v.each n x e') (at_old old c.copied.source V U n lt) (λ j z within. at_old old c.copied.source V U (get_or (parts x) j z) (parts_inside old c.sound n x e' j z within))

    of_copy : (n : ℕ) (a : CopyAt old new made c.found c.table (c.copied.source n) n) → length old ≤ n → c.table (c.copied.source n) ≡ Some n → IsCopy old c.table made a.node a.copy → FitsLoosely W n a.copy
    of_copy n a le t (inl (b, same)) = subst (FitsLoosely W n) (sym same) (fits n t (bound_there old (c.copied.source n) a.node a.node_at b) (at_new old c.copied.source V U n le))
    of_copy n a le t (inr (is, _, same)) =
        subst (FitsLoosely W n) (sym same) (copy_fits W U n (c.copied.source n) (image old c.table) a.node is (u.loose.each (c.copied.source n) a.node a.node_at)
        (λ j z within.
        let p = part_at old new made r m' c a.place (c.copied.source n) a.node a.listed a.node_at j z within in
        image_typed old new made r m' c V U v u p.place (get_or (parts a.node) j z) p.listed)
        (at_new old c.copied.source V U n le))

    of_new : (n : ℕ) (x : Node) → length old ≤ n → n < length new → slice_get new n ≡ Some x → FitsLoosely W n x
    of_new n x le hi e =
        let a = made_at old new made r m' c n le hi in
        subst (FitsLoosely W n) (one_element a.copy x (slice_get new n) a.copy_at e) (of_copy n a le (c.copied.copies n le hi).0 a.is)

-- the copy has in them the type that U gives r
pub extended_copy : (old new : List Node) (made : Node) (r m' : ℕ) (c : Copied old new made r m') (V U : Types) → Loose old V → IsVariant old V U → extended old c.copied.source V U m' ≡ U r
extended_copy old new made r m' c V U v u =
    let (k, e) = found_at old new made r m' c r (record { each = λ F closed has. has }) in
    ap (extended old c.copied.source V U) c.is ∙ image_typed old new made r m' c V U v u k r e

-- a variable that was made is what is made for bound variables, and its source is one that stands in r
pub made_var : (old new : List Node) (made : Node) (r m' : ℕ) (c : Copied old new made r m') (n l o : ℕ) → length old ≤ n → slice_get new n ≡ Some (Var l o) →
    (made ≡ Var l o) × (is_bound old (c.copied.source n) ≡ true) × StandsIn old (c.copied.source n) r
made_var old new made r m' c n l o le e =
    let a = made_at old new made r m' c n le (slice_get_within new n (Var l o) e) in
    of_copy a (one_element a.copy (Var l o) (slice_get new n) a.copy_at e) a.is
  where
    no_var : (f : ℕ → ℕ) (d : Node) → IsComposite d → with_parts f d ≡ Var l o → ⊥
    no_var f (Var l' o') is q = is
    no_var f Rigid is q = is
    no_var f (Link k) is q = is
    no_var f (Arrow a b) is q = cc
    no_var f (Tuple ms) is q = cc
    no_var f (Con p name ms) is q = cc

    of_copy : (a : CopyAt old new made c.found c.table (c.copied.source n) n) → a.copy ≡ Var l o → IsCopy old c.table made a.node a.copy →
        (made ≡ Var l o) × (is_bound old (c.copied.source n) ≡ true) × StandsIn old (c.copied.source n) r
    of_copy a is (inl (b, same)) = (sym same ∙ is, bound_there old (c.copied.source n) a.node a.node_at b, (c.reached.roots a.place (c.copied.source n) a.listed).2)
    of_copy a is (inr (comp, _, same)) = absurd (no_var (image old c.table) a.node comp (sym same ∙ is))

-- a bound variable that stands in a node
abbrev HasBoundIn : List Node → ℕ → Type 0
HasBoundIn old n = (b : ℕ) × (is_bound old b ≡ true) × StandsIn old b n

-- in a root with a copy a bound variable stands
bound_below : (old new : List Node) (made : Node) (r m' : ℕ) (c : Copied old new made r m') (k n m : ℕ) → slice_get c.found k ≡ Some n → c.table n ≡ Some m → HasBoundIn old n
bound_below old new made r m' c k n m e t = go (suc k) k n m (omega arith) e t
  where
    -- the same for roots that come before a place
    Earlier : ℕ → Type 0
    Earlier k = (k' q m2 : ℕ) → k' < k → slice_get c.found k' ≡ Some q → c.table q ≡ Some m2 → HasBoundIn old q

    copied_part : (k p : ℕ) → PartAt old c.found k p → Earlier k → (o : Option ℕ) → c.table (root old p) ≡ o → c.table (root old p) ≢ None → HasBoundIn old (root old p)
    copied_part k p q earlier None f some = absurd (some f)
    copied_part k p q earlier (Some m2) f some = earlier q.place (root old p) m2 q.before q.listed f

    of_copy : (k n m : ℕ) → slice_get c.found k ≡ Some n → (a : CopyAt old new made c.found c.table n m) → Earlier k → IsCopy old c.table made a.node a.copy → HasBoundIn old n
    of_copy k n m e a earlier (inl (b, _)) = (n, bound_there old n a.node a.node_at b, record { each = λ F closed has. has })
    of_copy k n m e a earlier (inr (_, (j, p, f, some), _)) =
        let within = slice_get_within (parts a.node) j p f in
        let same : get_or (parts a.node) j 0 ≡ p = one_element (get_or (parts a.node) j 0) p (slice_get (parts a.node) j) (get_here (parts a.node) j 0 within) f in
        let q : PartAt old c.found k p = subst (PartAt old c.found k) same (part_at old new made r m' c k n a.node e a.node_at j 0 within) in
        let (b, bound, stands) = copied_part k p q earlier (c.table (root old p)) refl some in (
          b,
          bound,
          record {
            each = λ F closed has. stands.each F closed (closed_root old F closed p (subst (λ x. F x ≡ true) same (closed.each n a.node has a.node_at j 0 within)));
          },
        )

    go : (i k n m : ℕ) → k < i → slice_get c.found k ≡ Some n → c.table n ≡ Some m → HasBoundIn old n
    go zero k n m lt e t = absurd (omega arith)
    go (suc i) k n m lt e t =
        let a = copied_at old new made r m' c n m t in
        of_copy k n m e a (λ k' q m2 lt' g t'. go i k' q m2 (omega arith) g t') a.is

pub copies_once : (old new : List Node) (made : Node) (r m' : ℕ) → Copied old new made r m' → CopiesOnce old new r
copies_once old new made r m' c = record {
  source = c.copied.source;
  stands = λ m lo hi. let a = made_at old new made r m' c m lo hi in (c.reached.roots a.place (c.copied.source m) a.listed).2;
  bound = λ m lo hi. let a = made_at old new made r m' c m lo hi in bound_below old new made r m' c a.place (c.copied.source m) m a.listed (c.copied.copies m lo hi).0;
  once = λ m n lo hi lo' hi' same. one_element m n (c.table (c.copied.source m)) (c.copied.copies m lo hi).0 (ap c.table same ∙ (c.copied.copies n lo' hi').0);
}

-- the copy is a node
pub copy_in : (old new : List Node) (made : Node) (r m' : ℕ) → Copied old new made r m' → m' < length new
copy_in old new made r m' c = at (c.table (root old r)) refl
  where
    inside : root old r < length old
    inside = let (k, e) = found_at old new made r m' c r (record { each = λ F closed has. has }) in (c.reached.roots k (root old r) e).0

    at : (o : Option ℕ) → c.table (root old r) ≡ o → m' < length new
    at None none = let is : m' ≡ root old r = c.is ∙ ap (λ o. unwrap_or o (root old r)) none in let l = c.copied.extends.longer in let i = inside in omega arith
    at (Some q) some = let is : m' ≡ q = c.is ∙ ap (λ o. unwrap_or o (root old r)) some in let h = (c.copied.sources (root old r) q some).1 in omega arith

-- no bound variable stands in the copy
pub copy_unbound : (old new : List Node) (made : Node) (r m' : ℕ) (c : Copied old new made r m') → parts made ≡ [] → ((l o : ℕ) → made ≡ Var l o → l ≢ bound_level) → HaveNoBound new m' m'
copy_unbound old new made r m' c leaf free_made = record {
  set = F;
  closed = record { each = λ n x has e. elim (old_or_new n (length old)) [ inl lt ↦ of_old n x lt has (sym (c.copied.extends.node n lt) ∙ e) | inr le ↦ of_new n x le e ] };
  left = has_copy;
  right = has_copy;
  free = λ n l o has e. elim (old_or_new n (length old)) [
    | inl lt ↦ old_free n l o lt has (sym (c.copied.extends.node n lt) ∙ e)
    | inr le ↦ free_made l o (made_var old new made r m' c n l o le e).0
  ];
}
  where
    -- the nodes of before that stand in r and have no copy, and all that was made
    F : ℕ → Bool
    F n = cond (ltb n (length old)) (c.reached.set n && not (is_some (c.table (root old n)))) true

    uncopied : (o : Option ℕ) → not (is_some o) ≡ true → o ≡ None
    uncopied None e = refl
    uncopied (Some m) e = absurd (cc)

    both : (a b : Bool) → (a && b) ≡ true → (a ≡ true) × (b ≡ true)
    both true true e = (refl, refl)
    both true false e = absurd (cc)
    both false b e = absurd (cc)

    in_old : (n : ℕ) → n < length old → F n ≡ true → (c.reached.set n ≡ true) × (c.table (root old n) ≡ None)
    in_old n lt has =
        let e = lt-ltb n (length old) lt in
        let (a, b) = both (c.reached.set n) (not (is_some (c.table (root old n)))) (sym (ap (λ t. cond t (c.reached.set n && not (is_some (c.table (root old n)))) true) e) ∙ has) in
        (a, uncopied (c.table (root old n)) b)

    old_in : (n : ℕ) → n < length old → c.reached.set n ≡ true → c.table (root old n) ≡ None → F n ≡ true
    old_in n lt a none =
        let e = lt-ltb n (length old) lt in
        ap (λ t. cond t (c.reached.set n && not (is_some (c.table (root old n)))) true) e ∙ (λ i. a i && not (is_some (none i)))

    new_in : (n : ℕ) → length old ≤ n → F n ≡ true
    new_in n le = let e = le-ltb n (length old) le in ap (λ t. cond t (c.reached.set n && not (is_some (c.table (root old n)))) true) e

    -- the image of what stands in r
    image_in : (p : ℕ) → c.reached.set p ≡ true → p < length old → F (image old c.table p) ≡ true
    image_in p has lt = at (c.table (root old p)) refl
      where
        own : (root old p < length old) × (root old (root old p) ≡ root old p)
        own = let (k, e) = c.reached.listed p has in let h = c.reached.roots k (root old p) e in (h.0, h.1)

        at : (o : Option ℕ) → c.table (root old p) ≡ o → F (image old c.table p) ≡ true
        at None none =
            ap F (ap (λ o. unwrap_or o (root old p)) none)
            ∙ old_in (root old p) own.0 (closed_root old c.reached.set c.reached.closed p has) (ap c.table own.1 ∙ none)
        at (Some q) some = ap F (ap (λ o. unwrap_or o (root old p)) some) ∙ new_in q (c.copied.sources (root old p) q some).0

    has_copy : F m' ≡ true
    has_copy = ap F c.is ∙ image_in r c.reached.start inside
      where
        inside : r < length old
        inside = c.inside

    root_place : (n : ℕ) (x : Node) → n < length old → F n ≡ true → slice_get old n ≡ Some x → IsNoLink x → (k : ℕ) × (slice_get c.found k ≡ Some n) × (c.table n ≡ None)
    root_place n x lt has e is =
        let end = root_here old n (next_stays old n x e is) in
        let (a, none) = in_old n lt has in
        let (k, f) = c.reached.listed n a in
        (k, f ∙ ap (λ j. Some j) end, sym (ap c.table end) ∙ none)

    shared : (n : ℕ) (x : Node) → n < length old → F n ≡ true → slice_get old n ≡ Some x → IsNoLink x → IsShared old c.table x
    shared n x lt has e is =
        let (k, f, none) = root_place n x lt has e is in
        elim (c.copied.images k n x (slice_get_within c.found k n f) f e) [
          | inl (_, s) ↦ s
          | inr (m, y, t, _, _) ↦ absurd (let g : Some m ≡ None = sym t ∙ none in cc)
        ]

    composite : (n : ℕ) (x : Node) → n < length old → F n ≡ true → slice_get old n ≡ Some x → IsNoLink x → All (λ p. F p ≡ true) (parts x)
    composite n x lt has e is = λ j z within.
        old_in (get_or (parts x) j z) (parts_inside old c.sound n x e j z within) (c.reached.closed.each n x (in_old n lt has).0 e j z within) ((shared n x lt has e is).1 j z within)

    of_link : (n p : ℕ) → n < length old → F n ≡ true → slice_get old n ≡ Some (Link p) → All (λ q. F q ≡ true) (p ∷ [])
    of_link n p lt has e zero z within =
        let (a, none) = in_old n lt has in
        old_in p (parts_inside old c.sound n (Link p) e zero zero (omega arith)) (c.reached.closed.each n (Link p) a e zero zero (omega arith)) (sym (ap c.table (root_link old c.sound n p lt e)) ∙ none)
    of_link n p lt has e (suc j) z within = absurd (omega arith)

    of_old : (n : ℕ) (x : Node) → n < length old → F n ≡ true → slice_get old n ≡ Some x → All (λ p. F p ≡ true) (parts x)
    of_old n (Var l o) lt has e = λ j z within. absurd (omega arith)
    of_old n Rigid lt has e = λ j z within. absurd (omega arith)
    of_old n (Link p) lt has e = of_link n p lt has e
    of_old n (Arrow a b) lt has e = composite n (Arrow a b) lt has e tt
    of_old n (Tuple ms) lt has e = composite n (Tuple ms) lt has e tt
    of_old n (Con p name ms) lt has e = composite n (Con p name ms) lt has e tt

    images_in : (ms : List ℕ) → All (λ p. (c.reached.set p ≡ true) × (p < length old)) ms → All (λ p. F p ≡ true) (map (image old c.table) ms)
    images_in [] h j z within = absurd (omega arith)
    images_in (p ∷ ms) h zero z within = let a = h zero zero (omega arith) in image_in p a.0 a.1
    images_in (p ∷ ms) h (suc j) z within = images_in ms (λ k d l. h (suc k) d (omega arith)) j z (omega arith)

    of_copy : (n : ℕ) (a : CopyAt old new made c.found c.table (c.copied.source n) n) → IsCopy old c.table made a.node a.copy → All (λ p. F p ≡ true) (parts a.copy)
    of_copy n a (inl (_, same)) = subst (λ ms. All (λ p. F p ≡ true) ms) (sym (ap parts same ∙ leaf)) (λ j z within. absurd (omega arith))
    of_copy n a (inr (_, _, same)) =
        let stands = (c.reached.roots a.place (c.copied.source n) a.listed).2 in
        let has = stands.each c.reached.set c.reached.closed c.reached.start in
        subst (λ ms. All (λ p. F p ≡ true) ms) (sym (ap parts same ∙ parts_map (image old c.table) a.node))
        (images_in (parts a.node) (λ j z within. (c.reached.closed.each (c.copied.source n) a.node has a.node_at j z within, parts_inside old c.sound (c.copied.source n) a.node a.node_at j z within)))

    of_new : (n : ℕ) (x : Node) → length old ≤ n → slice_get new n ≡ Some x → All (λ p. F p ≡ true) (parts x)
    of_new n x le e =
        let a = made_at old new made r m' c n le (slice_get_within new n x e) in
        subst (λ y. All (λ p. F p ≡ true) (parts y)) (one_element a.copy x (slice_get new n) a.copy_at e) (of_copy n a a.is)

    old_free : (n l o : ℕ) → n < length old → F n ≡ true → slice_get old n ≡ Some (Var l o) → l ≢ bound_level
    old_free n l o lt has e b = (shared n (Var l o) lt has e tt).0 b

-- what stands in r, and all that was made, stays among itself
pub copy_within : (old new : List Node) (made : Node) (r m' : ℕ) (c : Copied old new made r m') → parts made ≡ [] → StaysInside old new r m'
copy_within old new made r m' c leaf F closed has rest = (
  record { each = λ n x h e. elim (old_or_new n (length old)) [ inl lt ↦ closed.each n x h (sym (c.copied.extends.node n lt) ∙ e) | inr le ↦ of_new n x le e ] },
  subst (λ j. F j ≡ true) (sym c.is) (image_in r has),
)
  where
    of_table : (p : ℕ) → F p ≡ true → (o : Option ℕ) → c.table (root old p) ≡ o → F (unwrap_or o (root old p)) ≡ true
    of_table p h None e = closed_root old F closed p h
    of_table p h (Some q) e = rest q (c.copied.sources (root old p) q e).0

    image_in : (p : ℕ) → F p ≡ true → F (image old c.table p) ≡ true
    image_in p h = of_table p h (c.table (root old p)) refl

    all_images : (ps : List ℕ) → All (λ p. F p ≡ true) ps → All (λ p. F p ≡ true) (map (image old c.table) ps)
    all_images [] h k d lt = absurd (omega arith)
    all_images (p ∷ ps) h zero d lt = image_in p (h zero zero (omega arith))
    all_images (p ∷ ps) h (suc k) d lt = all_images ps (λ j z l. h (suc j) z (omega arith)) k d (omega arith)

    of_copy : (n : ℕ) (a : CopyAt old new made c.found c.table (c.copied.source n) n) → IsCopy old c.table made a.node a.copy → All (λ p. F p ≡ true) (parts a.copy)
    of_copy n a (inl (b, same)) = subst (λ ps. All (λ p. F p ≡ true) ps) (sym (ap parts same ∙ leaf)) (λ k d lt. absurd (omega arith))
    of_copy n a (inr (is, _, same)) =
        subst (λ ps. All (λ p. F p ≡ true) ps) (sym (ap parts same ∙ parts_map (image old c.table) a.node))
        (all_images (parts a.node) (closed.each (c.copied.source n) a.node ((c.reached.roots a.place (c.copied.source n) a.listed).2.each F closed has) a.node_at))

    of_new : (n : ℕ) (x : Node) → length old ≤ n → slice_get new n ≡ Some x → All (λ p. F p ≡ true) (parts x)
    of_new n x le e =
        let a = made_at old new made r m' c n le (slice_get_within new n x e) in
        subst (λ y. All (λ p. F p ≡ true) (parts y)) (one_element a.copy x (slice_get new n) a.copy_at e) (of_copy n a a.is)
