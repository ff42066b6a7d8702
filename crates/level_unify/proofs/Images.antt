-- Which nodes have copies, and what stands there.
use Rattle.std.proofs.Common.{◌≡◌, ◌≢◌, ◌↔◌, ℕ, zero, suc, ◌+◌, ◌<◌, ◌≤◌, Bool, true, false, List, [], ◌∷◌, length, map, get_or, Option, Some, None, refl, sym, ◌∙◌, ap, subst, arith, inl, inr}
use Rattle.std.specs.Prelude.{slice_get, All, IsTrue, is_some, option_map, unwrap_or}
use Rattle.std.proofs.lemmas.Option.{slice_get_within}
use Rattle.type_terms.specs.declared.types.NodeRef.{NodeRef}
use Rattle.type_nodes.specs.Nodes.{Node, Var, Rigid, Link, Arrow, Tuple, Con, parts, IsSound}
use Rattle.type_nodes.proofs.Roots.{root_inside}
use Rattle.type_nodes.specs.Links.{root}
use Rattle.type_nodes.proofs.Lists.{same_or_other, one_element}
use Rattle.level_unify.specs.declared.copies.Fresh.{Fresh}
use Rattle.level_unify.specs.declared.copies.Fresh.TheVariants as fresh
use Rattle.level_unify.specs.declared.copies.Shape.{Shape}
use Rattle.level_unify.specs.Copies.{Table, image, IsAnyCopied, IsShared, IsCopy, with_parts, AreInside, fresh_node, shape_node, ShapesAs}
use Rattle.level_unify.proofs.Steps.{cell_at}
use Rattle.level_unify.proofs.Walking.{get_here, parts_inside}

pub key_some : (o : Option NodeRef) → is_some o ≡ true → option_map (λ (m : NodeRef). m.0) o ≢ None
key_some None e = absurd (cc)
key_some (Some m) e = λ f. cc

pub key_none : (o : Option NodeRef) → is_some o ≡ false → option_map (λ (m : NodeRef). m.0) o ≡ None
key_none None e = refl
key_none (Some m) e = absurd (cc)

-- the root of one node has a copy
pub some_copied : (nodes : List Node) (T : Table) (ms : List ℕ) (k m r : ℕ) → slice_get ms k ≡ Some m → r ≡ root nodes m → T r ≢ None → IsTrue true ↔ IsAnyCopied nodes T ms
some_copied nodes T ms k m r here is some = ((λ h. (k, m, here, λ e. some (ap T is ∙ e))), λ h. refl)

-- no root of the first nodes has a copy
pub none_copied : (nodes : List Node) (T : Table) (ms : List ℕ) (at m r : ℕ) → slice_get ms at ≡ Some m → r ≡ root nodes m → T r ≡ None →
    ((k n : ℕ) → k < at → slice_get ms k ≡ Some n → T (root nodes n) ≡ None) → (k n : ℕ) → k < at + 1 → slice_get ms k ≡ Some n → T (root nodes n) ≡ None
none_copied nodes T ms at m r here is none h k n lt e = elim (same_or_other k at) [
  | inl same ↦
      let f : m ≡ n = one_element m n (slice_get ms at) here (subst (λ j. slice_get ms j ≡ Some n) same e) in
      subst (λ j. T (root nodes j) ≡ None) f (ap T (sym is) ∙ none)
  | inr other ↦ h k n (omega arith) e
]

not_true : IsTrue false → ⊥
not_true h = cc

pub all_uncopied : (nodes : List Node) (T : Table) (ms : List ℕ) (at : ℕ) → length ms ≤ at → ((k n : ℕ) → k < at → slice_get ms k ≡ Some n → T (root nodes n) ≡ None) → IsTrue false ↔ IsAnyCopied nodes T ms
all_uncopied nodes T ms at over h = ((λ t. absurd (not_true t)), λ (k, m, e, some). absurd (some (h k m (let l = slice_get_within ms k m e in omega arith) e)))

-- where no part has a copy, each has none
pub all_shared : (nodes : List Node) (T : Table) (ms : List ℕ) (res : Bool) → IsTrue res ↔ IsAnyCopied nodes T ms → res ≡ false → All (λ m. T (root nodes m) ≡ None) ms
all_shared nodes T ms res test lacks k d lt = at (T (root nodes (get_or ms k d))) refl
  where
    at : (o : Option ℕ) → T (root nodes (get_or ms k d)) ≡ o → T (root nodes (get_or ms k d)) ≡ None
    at None e = e
    at (Some m) e = absurd (let h : res ≡ true = test.1 (k, get_or ms k d, get_here ms k d lt, λ f. (let g : Some m ≡ None = sym e ∙ f in cc)) in cc)

-- the two nodes of an arrow
pub first_of : (P : ℕ → Type 0) (a b : ℕ) → All P (a ∷ b ∷ []) → P a
first_of P a b h = h zero zero (omega arith)

pub second_of : (P : ℕ → Type 0) (a b : ℕ) → All P (a ∷ b ∷ []) → P b
second_of P a b h = h 1 zero (omega arith)

-- a constructor without a copy
pub con_shared : (nodes : List Node) (T : Table) (o : Option Node) (p name ms : List ℕ) (c : Node) (res : Bool) → o ≡ Some (Con p name ms) → o ≡ Some c → IsTrue res ↔ IsAnyCopied nodes T ms → res ≡ false → IsShared nodes T c
con_shared nodes T o p name ms c res e e' test lacks =
    subst (IsShared nodes T) (one_element (Con p name ms) c o e e') ((λ h. h), all_shared nodes T ms res test lacks)

-- a constructor's copy
pub con_copied : (nodes : List Node) (T : Table) (o : Option Node) (p name ms p' name' ms' : List ℕ) (new c : Node) (res : Bool) → o ≡ Some (Con p name ms) → o ≡ Some c → IsTrue res ↔ IsAnyCopied nodes T ms → res ≡ true →
    p' ≡ p → name' ≡ name → ms' ≡ map (image nodes T) ms → IsCopy nodes T new c (Con p' name' ms')
con_copied nodes T o p name ms p' name' ms' new c res e e' test has q r t =
    subst (λ x. IsCopy nodes T new x (Con p' name' ms')) (one_element (Con p name ms) c o e e') (inr (tt, test.0 has, (λ i. Con (q i) (r i) (t i))))

image_inside : (nodes : List Node) (T : Table) → IsSound nodes → AreInside nodes T → (m : ℕ) → m < length nodes → image nodes T m < length nodes
image_inside nodes T sound inside m lt = at (T (root nodes m)) refl
  where
    at : (o : Option ℕ) → T (root nodes m) ≡ o → unwrap_or (T (root nodes m)) (root nodes m) < length nodes
    at None e = subst (λ x. unwrap_or x (root nodes m) < length nodes) (sym e) (root_inside nodes sound m lt)
    at (Some k) e = subst (λ x. unwrap_or x (root nodes m) < length nodes) (sym e) (inside.each (root nodes m) k e)

images_inside : (nodes : List Node) (T : Table) → IsSound nodes → AreInside nodes T → (ms : List ℕ) → All (λ m. m < length nodes) ms → All (λ m. m < length nodes) (map (image nodes T) ms)
images_inside nodes T sound inside [] h k d lt = absurd (omega arith)
images_inside nodes T sound inside (m ∷ ms) h zero d lt = image_inside nodes T sound inside m (h zero zero (omega arith))
images_inside nodes T sound inside (m ∷ ms) h (suc k) d lt = images_inside nodes T sound inside ms (λ j e l. h (suc j) e (omega arith)) k d (omega arith)

pub parts_map : (f : ℕ → ℕ) (c : Node) → parts (with_parts f c) ≡ map f (parts c)
parts_map f (Var l o) = refl
parts_map f Rigid = refl
parts_map f (Link m) = refl
parts_map f (Arrow a b) = refl
parts_map f (Tuple ms) = refl
parts_map f (Con p name ms) = refl

-- the parts of a copy are nodes
pub copy_inside : (nodes : List Node) (T : Table) (n : ℕ) (new c x : Node) → IsSound nodes → AreInside nodes T → slice_get nodes n ≡ Some c → parts new ≡ [] → IsCopy nodes T new c x → All (λ m. m < length nodes) (parts x)
copy_inside nodes T n new c x sound inside at none (inl (b, e)) = subst (λ ms. All (λ m. m < length nodes) ms) (sym (ap parts e ∙ none)) (λ k d lt. absurd (omega arith))
copy_inside nodes T n new c x sound inside at none (inr (is, any, e)) =
    subst (λ ms. All (λ m. m < length nodes) ms) (sym (ap parts e ∙ parts_map (image nodes T) c)) (images_inside nodes T sound inside (parts c) (parts_inside nodes sound n c at))

no_parts : (f : Fresh) → parts (fresh_node f) ≡ []
no_parts (fresh.Flexible level) = refl
no_parts fresh.Rigid = refl

-- the same, with the shape that was answered
pub shape_inside : (nodes : List Node) (T : Table) (n : ℕ) (f : Fresh) (o : Option Shape) (s : Shape) → IsSound nodes → AreInside nodes T → n < length nodes → root nodes n ≡ n → o ≡ Some s →
    ((c : Node) → slice_get nodes (root nodes n) ≡ Some c → ShapesAs nodes T c o) → All (λ m. m < length nodes) (parts (shape_node (fresh_node f) s))
shape_inside nodes T n f o s sound inside lt end is shapes =
    let (c, at) = cell_at nodes n lt in
    let copy = subst (ShapesAs nodes T c) is (shapes c (ap (slice_get nodes) end ∙ at)) in
    copy_inside nodes T n (fresh_node f) c (shape_node (fresh_node f) s) sound inside at (no_parts f) (copy (fresh_node f))
