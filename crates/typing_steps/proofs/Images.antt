-- The letters of an instance of a declaration's root: the images of its variables, each for what is chosen at the row's node for its name.
use Rattle.std.proofs.Common.{◌≡◌, ◌∙◌, ◌++◌, inl, inr, ℕ, zero, suc, ◌<◌, true, false, List, [], ◌∷◌, length, refl, sym, ap, if◌then◌else◌, Some}
use Rattle.std.specs.Prelude.{slice_get}
use Rattle.std.proofs.lemmas.Bool.{eqb-true}
use Rattle.type_model.specs.Types.{Typ, Typs, occurs, occurs_any}
use Rattle.type_model.specs.Types.{Typ as type, Typs as types}
use Rattle.type_model.specs.Substitutions.{apply, apply_all}
use Rattle.type_model.proofs.Applying.{or_left, or_right, or_cases, eqb_same}
use Rattle.typing_laws.proofs.Bools.{no_yes}
use Rattle.signature_model.specs.Matching.{used}
use Rattle.typing_model.specs.Contexts.{Choice}
use Rattle.type_nodes.specs.Nodes.{Node}
use Rattle.type_nodes.specs.Readings.{Types}
use Rattle.typing_conditions.specs.Locals.{IsOwn}
use Rattle.typing_conditions.specs.Declared.{IsNamed, a_parameter, an_unknown, RootAs}
use Rattle.typing_conditions.specs.Sights.{Key, own, letter, filled, value_of, Letters, IsKnownFor, AreGiven, AreNodes}
use Rattle.typing_conditions.specs.Hiding.{plain_key, is_doubtful, row_of, AreOfRow}
use Rattle.typing_conditions.proofs.Judged.{given_left, given_right, given_both}
use Rattle.typing_conditions.proofs.Hiding.{split_get}

-- what is chosen at a node for a name
abbrev pub key_for : ℕ → Typ → Key
key_for n (type.Var k) = letter n k
key_for n (type.Arrow a b) = letter n 0
key_for n (type.Tuple ts) = letter n 0
key_for n (type.Con o ts) = filled n o

-- the images of a type's variables, each for what is chosen at a node for its name
abbrev mutual
  pub images_in : ℕ → Types → (ℕ → ℕ) → Typ → Letters
  images_in n N image (type.Var v) = (key_for n (N v), image v) ∷ []
  images_in n N image (type.Arrow a b) = images_in n N image a ++ images_in n N image b
  images_in n N image (type.Tuple ts) = images_in_all n N image ts
  images_in n N image (type.Con o ts) = images_in_all n N image ts

  -- of several types
  pub images_in_all : ℕ → Types → (ℕ → ℕ) → Typs → Letters
  images_in_all n N image types.Nil = []
  images_in_all n N image (types.Cons t ts) = images_in n N image t ++ images_in_all n N image ts

-- unknown types are allowed in it
known_for : (n : ℕ) (name t : Typ) → IsKnownFor (key_for n name) t
known_for n (type.Var k) t = tt
known_for n (type.Arrow a b) t = tt
known_for n (type.Tuple ts) t = tt
known_for n (type.Con o ts) t = tt

-- and it is what the name is used as
pub named_value : {nodes : List Node} {N : Types} {arity v : ℕ} (n : ℕ) (ch : Choice) → IsNamed nodes N arity v → value_of ch (key_for n (N v)) ≡ used (ch.letter n) (ch.filled n) (N v)
named_value n ch (a_parameter scope k e other lt is) = ap (λ x. value_of ch (key_for n x)) is ∙ sym (ap (used (ch.letter n) (ch.filled n)) is)
named_value n ch (an_unknown o e u is) =
    ap (λ x. value_of ch (key_for n x)) is ∙ sym (ap (used (ch.letter n) (ch.filled n)) is ∙ ap (λ b. if b then ch.filled n o else type.Con o types.Nil) u)

-- letters of two lists are nodes
pub nodes_both : (nodes : List Node) (xs ys : Letters) → AreNodes xs nodes → AreNodes ys nodes → AreNodes (xs ++ ys) nodes
nodes_both nodes [] ys g h = h
nodes_both nodes (x ∷ xs) ys g h = (g.0, nodes_both nodes xs ys g.1 h)

module _ (n : ℕ) (N : Types) (image : ℕ → ℕ) (V : Types) (ch : Choice) where
  mutual
    -- each image has the type that is chosen
    pub given_at : (t : Typ) → AreGiven (images_in n N image t) V ch → (v : ℕ) → occurs v t ≡ true → value_of ch (key_for n (N v)) ≡ V (image v)
    given_at (type.Var w) g v o = let s = eqb-true v w o in ap (λ x. value_of ch (key_for n (N x))) s ∙ g.0.is ∙ ap (λ x. V (image x)) (sym s)
    given_at (type.Arrow a b) g v o = elim (or_cases (occurs v a) (occurs v b) o) [
      | inl i ↦ given_at a (given_left V ch (images_in n N image a) (images_in n N image b) g) v i
      | inr i ↦ given_at b (given_right V ch (images_in n N image a) (images_in n N image b) g) v i
    ]
    given_at (type.Tuple ts) g v o = given_at_all ts g v o
    given_at (type.Con c ts) g v o = given_at_all ts g v o

    given_at_all : (ts : Typs) → AreGiven (images_in_all n N image ts) V ch → (v : ℕ) → occurs_any v ts ≡ true → value_of ch (key_for n (N v)) ≡ V (image v)
    given_at_all types.Nil g v o = absurd (no_yes o)
    given_at_all (types.Cons t ts) g v o = elim (or_cases (occurs v t) (occurs_any v ts) o) [
      | inl i ↦ given_at t (given_left V ch (images_in n N image t) (images_in_all n N image ts) g) v i
      | inr i ↦ given_at_all ts (given_right V ch (images_in n N image t) (images_in_all n N image ts) g) v i
    ]

    -- and they are given where each has
    pub at_given : (t : Typ) → ((v : ℕ) → occurs v t ≡ true → value_of ch (key_for n (N v)) ≡ V (image v)) → AreGiven (images_in n N image t) V ch
    at_given (type.Var w) h = (record { is = h w (eqb_same w); known = known_for n (N w) (V (image w)) }, tt)
    at_given (type.Arrow a b) h =
        given_both V ch (images_in n N image a) (images_in n N image b) (at_given a (λ v o. h v (or_left (occurs v a) (occurs v b) o))) (at_given b (λ v o. h v (or_right (occurs v a) (occurs v b) o)))
    at_given (type.Tuple ts) h = at_given_all ts h
    at_given (type.Con c ts) h = at_given_all ts h

    at_given_all : (ts : Typs) → ((v : ℕ) → occurs_any v ts ≡ true → value_of ch (key_for n (N v)) ≡ V (image v)) → AreGiven (images_in_all n N image ts) V ch
    at_given_all types.Nil h = tt
    at_given_all (types.Cons t ts) h = given_both V ch (images_in n N image t) (images_in_all n N image ts) (at_given t (λ v o. h v (or_left (occurs v t) (occurs_any v ts) o))) (at_given_all ts (λ v o. h v (or_right (occurs v t) (occurs_any v ts) o)))

module _ (n : ℕ) (N : Types) (image : ℕ → ℕ) (nodes : List Node) where
  mutual
    -- they are nodes where each is
    pub nodes_at : (t : Typ) → ((v : ℕ) → occurs v t ≡ true → image v < length nodes) → AreNodes (images_in n N image t) nodes
    nodes_at (type.Var w) h = (h w (eqb_same w), tt)
    nodes_at (type.Arrow a b) h = nodes_both nodes (images_in n N image a) (images_in n N image b) (nodes_at a (λ v o. h v (or_left (occurs v a) (occurs v b) o))) (nodes_at b (λ v o. h v (or_right (occurs v a) (occurs v b) o)))
    nodes_at (type.Tuple ts) h = nodes_at_all ts h
    nodes_at (type.Con c ts) h = nodes_at_all ts h

    nodes_at_all : (ts : Typs) → ((v : ℕ) → occurs_any v ts ≡ true → image v < length nodes) → AreNodes (images_in_all n N image ts) nodes
    nodes_at_all types.Nil h = tt
    nodes_at_all (types.Cons t ts) h = nodes_both nodes (images_in n N image t) (images_in_all n N image ts) (nodes_at t (λ v o. h v (or_left (occurs v t) (occurs_any v ts) o))) (nodes_at_all ts (λ v o. h v (or_right (occurs v t) (occurs_any v ts) o)))

-- a root that stands for an arrow is one
pub arrow_inside : {nodes : List Node} {I : Types} {C : List ℕ} {N : Types} {arity r : ℕ} {t : Typ} (x y : Typ) → t ≡ type.Arrow x y → RootAs nodes C N arity r t → IsOwn nodes I → (p : Typ) × (q : Typ) × (I r ≡ type.Arrow p q)
arrow_inside {nodes} {I} {C} {N} {arity} {r} {t} x y e root owned = by (I r) refl
  where
    by : (z : Typ) → I r ≡ z → (p : Typ) × (q : Typ) × (I r ≡ type.Arrow p q)
    by (type.Var v) f = absurd (named (root.named I owned v (ap (occurs v) f ∙ eqb_same v)))
      where
        name_is : N v ≡ type.Arrow x y
        name_is = sym (root.is I owned ∙ ap (apply N) f) ∙ e

        named : IsNamed nodes N arity v → ⊥
        named (a_parameter scope k at other lt is) = let h : type.Var k ≡ type.Arrow x y = sym is ∙ name_is in cc
        named (an_unknown o at u is) = let h : type.Con o types.Nil ≡ type.Arrow x y = sym is ∙ name_is in cc
    by (type.Arrow p q) f = (p, q, f)
    by (type.Tuple ts) f = absurd (let h : type.Arrow x y ≡ type.Tuple (apply_all N ts) = sym e ∙ root.is I owned ∙ ap (apply N) f in cc)
    by (type.Con o ts) f = absurd (let h : type.Arrow x y ≡ type.Con o (apply_all N ts) = sym e ∙ root.is I owned ∙ ap (apply N) f in cc)

-- a letter is the image of a variable of the type
mutual
  image_in : (n : ℕ) (N : Types) (image : ℕ → ℕ) (t : Typ) (k : ℕ) (x : Key × ℕ) → slice_get (images_in n N image t) k ≡ Some x → (v : ℕ) × (occurs v t ≡ true) × (x.0 ≡ key_for n (N v)) × (x.1 ≡ image v)
  image_in n N image (type.Var v) zero x e = let s : (key_for n (N v), image v) ≡ x = cc in (v, eqb_same v, ap (λ (y : Key × ℕ). y.0) (sym s), ap (λ (y : Key × ℕ). y.1) (sym s))
  image_in n N image (type.Var v) (suc k) x e = absurd (cc)
  image_in n N image (type.Arrow a b) k x e = elim (split_get (images_in n N image a) (images_in n N image b) k x e) [
    | inl (j, f) ↦ let (v, o, p, q) = image_in n N image a j x f in (v, or_left (occurs v a) (occurs v b) o, p, q)
    | inr (j, f) ↦ let (v, o, p, q) = image_in n N image b j x f in (v, or_right (occurs v a) (occurs v b) o, p, q)
  ]
  image_in n N image (type.Tuple ts) k x e = image_in_all n N image ts k x e
  image_in n N image (type.Con c ts) k x e = image_in_all n N image ts k x e

  image_in_all : (n : ℕ) (N : Types) (image : ℕ → ℕ) (ts : Typs) (k : ℕ) (x : Key × ℕ) → slice_get (images_in_all n N image ts) k ≡ Some x → (v : ℕ) × (occurs_any v ts ≡ true) × (x.0 ≡ key_for n (N v)) × (x.1 ≡ image v)
  image_in_all n N image types.Nil k x e = absurd (cc)
  image_in_all n N image (types.Cons t ts) k x e = elim (split_get (images_in n N image t) (images_in_all n N image ts) k x e) [
    | inl (j, f) ↦ let (v, o, p, q) = image_in n N image t j x f in (v, or_left (occurs v t) (occurs_any v ts) o, p, q)
    | inr (j, f) ↦ let (v, o, p, q) = image_in_all n N image ts j x f in (v, or_right (occurs v t) (occurs_any v ts) o, p, q)
  ]

-- the key for a name is that of the row, without doubt, and of no node's type
key_row : (n : ℕ) (t : Typ) → row_of (key_for n t) ≡ n
key_row n (type.Var k) = refl
key_row n (type.Arrow a b) = refl
key_row n (type.Tuple ts) = refl
key_row n (type.Con o ts) = refl

key_sure : (n : ℕ) (t : Typ) → is_doubtful (key_for n t) ≡ false
key_sure n (type.Var k) = refl
key_sure n (type.Arrow a b) = refl
key_sure n (type.Tuple ts) = refl
key_sure n (type.Con o ts) = refl

key_other : (n h : ℕ) (t : Typ) → plain_key (key_for n t) ≡ own h → ⊥
key_other n h (type.Var k) e = absurd (cc)
key_other n h (type.Arrow a b) e = absurd (cc)
key_other n h (type.Tuple ts) e = absurd (cc)
key_other n h (type.Con o ts) e = absurd (cc)

-- two names with one key are one
key_one : {nodes : List Node} {N : Types} {arity v w : ℕ} (n : ℕ) → IsNamed nodes N arity v → IsNamed nodes N arity w → plain_key (key_for n (N v)) ≡ plain_key (key_for n (N w)) → N v ≡ N w
key_one n (a_parameter scope k e other lt is) (a_parameter scope' k' e' other' lt' is') same =
    let f : letter n k ≡ letter n k' = ap (λ t. plain_key (key_for n t)) (sym is) ∙ same ∙ ap (λ t. plain_key (key_for n t)) is' in
    let g : k ≡ k' = cc in is ∙ ap (λ j. type.Var j) g ∙ sym is'
key_one n (an_unknown o e u is) (an_unknown o' e' u' is') same =
    let f : filled n o ≡ filled n o' = ap (λ t. plain_key (key_for n t)) (sym is) ∙ same ∙ ap (λ t. plain_key (key_for n t)) is' in
    let g : o ≡ o' = cc in is ∙ ap (λ p. type.Con p types.Nil) g ∙ sym is'
key_one n (a_parameter scope k e other lt is) (an_unknown o' e' u' is') same =
    absurd (let f : letter n k ≡ filled n o' = ap (λ t. plain_key (key_for n t)) (sym is) ∙ same ∙ ap (λ t. plain_key (key_for n t)) is' in cc)
key_one n (an_unknown o e u is) (a_parameter scope' k' e' other' lt' is') same =
    absurd (let f : filled n o ≡ letter n k' = ap (λ t. plain_key (key_for n t)) (sym is) ∙ same ∙ ap (λ t. plain_key (key_for n t)) is' in cc)

-- So the letters of an instance belong to its row alone.
pub images_of_row : {nodes : List Node} {C : List ℕ} {N : Types} {arity r : ℕ} {t : Typ} (n : ℕ) (image : ℕ → ℕ) (I : Types) → IsOwn nodes I → RootAs nodes C N arity r t → AreOfRow n (images_in n N image (I r))
images_of_row {N = N} {r = r} n image I owned root = record {
  row = λ k x e. let (v, o, p, q) = image_in n N image (I r) k x e in ap row_of p ∙ key_row n (N v);
  sure = λ k x e. let (v, o, p, q) = image_in n N image (I r) k x e in ap is_doubtful p ∙ key_sure n (N v);
  other = λ k x h e is. let (v, o, p, q) = image_in n N image (I r) k x e in key_other n h (N v) (ap plain_key (sym p) ∙ is);
  one = λ j k x y e f is.
      let (v, o, p, q) = image_in n N image (I r) j x e in
      let (w, o', p', q') = image_in n N image (I r) k y f in
      q ∙ ap image (root.apart I owned v w o o' (key_one n (root.named I owned v o) (root.named I owned w o') (ap plain_key (sym p) ∙ is ∙ ap plain_key p'))) ∙ sym q';
}
