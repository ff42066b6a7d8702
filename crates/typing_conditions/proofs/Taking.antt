-- An instance of a declaration's root is the definitions' use of what the root stands for: the types of its new variables are those of the use, both ways.
use Rattle.std.proofs.Common.{◌≡◌, ℕ, ◌<◌, true, List, [], length, Some, refl, sym, ◌∙◌, ap, inl, inr, if◌then◌else◌}
use Rattle.std.specs.Prelude.{slice_get}
use Rattle.std.proofs.lemmas.Bool.{eqb-true}
use Rattle.std.proofs.lemmas.Option.{slice_get_within}
use Rattle.type_model.specs.Types.{Path, Typ, Typs, occurs, occurs_any}
use Rattle.type_model.specs.Types.{Typ as type, Typs as types}
use Rattle.type_model.specs.Substitutions.{Subst, apply, apply_all, after}
use Rattle.type_model.proofs.Applying.{or_cases, apply_agree, apply-apply, apply_Var, eqb_same, occurs_put}
use Rattle.type_model.proofs.Generalising.{choose}
use Rattle.typing_laws.proofs.Bools.{no_yes}
use Rattle.signature_model.specs.Matching.{IsKnown, AreKnown, used, all_used}
use Rattle.type_nodes.specs.Nodes.{Node, Var, bound_level}
use Rattle.type_nodes.specs.Readings.{Types, Fits}
use Rattle.level_unify.specs.Solutions.{Loose}
use Rattle.level_unify.specs.Instances.{is_bound, IsVariant, SameTypes, Instantiated}
use Rattle.level_unify.proofs.Unified.{fits_loosely, fits_under, under_fits}
use Rattle.level_unify.proofs.Variants.{bound_there, free_there, loose_apply}
use Rattle.typing_conditions.specs.Locals.{IsOwn}
use Rattle.typing_conditions.proofs.Uses.{under_any}
use Rattle.typing_conditions.specs.Declared.{RootAs}
use Rattle.typing_conditions.proofs.Roots.{own_reads, named_bound}

-- two substitutions that do the same to a type do so to each of its variables
mutual
  pub agree_at : (f g : Subst) (t : Typ) → apply f t ≡ apply g t → (v : ℕ) → occurs v t ≡ true → f v ≡ g v
  agree_at f g (type.Var w) e v o = let s = eqb-true v w o in ap f s ∙ e ∙ ap g (sym s)
  agree_at f g (type.Arrow a b) e v o = elim (or_cases (occurs v a) (occurs v b) o) [
    | inl i ↦ let p : apply f a ≡ apply g a = cc in agree_at f g a p v i
    | inr i ↦ let p : apply f b ≡ apply g b = cc in agree_at f g b p v i
  ]
  agree_at f g (type.Tuple ts) e v o = let p : apply_all f ts ≡ apply_all g ts = cc in agree_all_at f g ts p v o
  agree_at f g (type.Con c ts) e v o = let p : apply_all f ts ≡ apply_all g ts = cc in agree_all_at f g ts p v o

  agree_all_at : (f g : Subst) (ts : Typs) → apply_all f ts ≡ apply_all g ts → (v : ℕ) → occurs_any v ts ≡ true → f v ≡ g v
  agree_all_at f g types.Nil e v o = absurd (no_yes o)
  agree_all_at f g (types.Cons t ts) e v o = elim (or_cases (occurs v t) (occurs_any v ts) o) [
    | inl i ↦ let p : apply f t ≡ apply g t = cc in agree_at f g t p v i
    | inr i ↦ let p : apply_all f ts ≡ apply_all g ts = cc in agree_all_at f g ts p v i
  ]

-- the use of a type whose variables got names is the type with the uses of the names, where no unknown type stands in it
mutual
  pub used_named : (s : Subst) (f : Path → Typ) (N : Types) (t : Typ) → IsKnown t → used s f (apply N t) ≡ apply (λ v. used s f (N v)) t
  used_named s f N (type.Var v) h = refl
  used_named s f N (type.Arrow a b) h = let p = used_named s f N a h.0 in let q = used_named s f N b h.1 in (λ i. type.Arrow (p i) (q i))
  used_named s f N (type.Tuple ts) h = ap type.Tuple (all_used_named s f N ts h)
  used_named s f N (type.Con o ts) h = ap (λ b. if b then f o else type.Con o (all_used s f (apply_all N ts))) h.0 ∙ ap (type.Con o) (all_used_named s f N ts h.1)

  all_used_named : (s : Subst) (f : Path → Typ) (N : Types) (ts : Typs) → AreKnown ts → all_used s f (apply_all N ts) ≡ apply_all (λ v. used s f (N v)) ts
  all_used_named s f N types.Nil h = refl
  all_used_named s f N (types.Cons t ts) h = let p = used_named s f N t h.0 in let q = all_used_named s f N ts h.1 in (λ i. types.Cons (p i) (q i))

-- the number of a variable
abbrev pub number_of : Typ → ℕ
number_of (type.Var v) = v
number_of (type.Arrow a b) = 0
number_of (type.Tuple ts) = 0
number_of (type.Con o ts) = 0

-- what may become a tuple and may become a constructor is a variable
variable_is : (f g : Subst) (o : Path) (t : Typ) → apply f t ≡ type.Tuple types.Nil → apply g t ≡ type.Con o types.Nil → t ≡ type.Var (number_of t)
variable_is f g o (type.Var v) p q = refl
variable_is f g o (type.Arrow a b) p q = absurd (cc)
variable_is f g o (type.Tuple ts) p q = absurd (cc)
variable_is f g o (type.Con c ts) p q = absurd (cc)

-- Each variable of a root has a new node in a copy of it: whatever types the nodes have, the copy's is the root's with theirs in the place of the variables.
pub record HasImages (new : List Node) (I : Types) (r m : ℕ) : Type 0 where
  pub image : ℕ → ℕ
  pub inside : (v : ℕ) → occurs v (I r) ≡ true → image v < length new
  pub is : (V : Types) → Loose new V → V m ≡ apply (λ v. V (image v)) (I r)

-- An instance of a root all of whose variables are bound.
module _ {old new : List Node} {I : Types} {r level m : ℕ} (before : IsOwn old I) (inst : Instantiated old new r level m) (bound : (v : ℕ) → occurs v (I r) ≡ true → (scope : ℕ) × (slice_get old v ≡ Some (Var bound_level scope))) where
  -- other types in the place of bound variables
  others : Subst → Types → Types
  others u V n = apply (λ v. choose (is_bound old v) (u v) (V v)) (I n)

  variant : (u : Subst) (V : Types) → IsVariant old V (others u V)
  unfolding others
  variant u V = record {
    loose = loose_apply old (λ v. choose (is_bound old v) (u v) (V v)) I before.loose;
    free = λ n l o e free. ap (apply (λ v. choose (is_bound old v) (u v) (V v))) (before.vars n l o e) ∙ ap (λ b. choose b (u n) (V n)) (free_there old n l o e free);
  }

  at_root : (u : Subst) (V : Types) → others u V r ≡ apply u (I r)
  unfolding others
  at_root u V = apply_agree (λ v. choose (is_bound old v) (u v) (V v)) u (I r) (λ v o. let (scope, e) = bound v o in ap (λ b. choose b (u v) (V v)) (bound_there old v (Var bound_level scope) e refl))

  -- types that fit go on with any types in the place of the root's variables
  pub instance_takes : (u : Subst) (V : Types) → Fits old V → (W : Types) × Fits new W × SameTypes old V W × (W m ≡ apply u (I r))
  instance_takes u V fits =
      let (W, fits', same, is) = inst.fitted (λ v. 0) V (others u V) (fits_under old V fits) (variant u V) (λ b h stands. under_any level (others u V b)) in
      (W, under_fits (λ v. 0) new W fits', same, is ∙ at_root u V)

-- And its images, by the nodes' own types after it.
module _ {old new : List Node} {I K : Types} {r level m : ℕ} (before : IsOwn old I) (after_own : IsOwn new K) (inst : Instantiated old new r level m)
    (bound : (v : ℕ) → occurs v (I r) ≡ true → (scope : ℕ) × (slice_get old v ≡ Some (Var bound_level scope))) where
  loose_then : Loose old K
  loose_then = record { each = λ n c e. after_own.loose.each n c (inst.extends.node n (slice_get_within old n c e) ∙ e) }

  root_same : K r ≡ I r
  root_same = before.comes K loose_then r ∙ apply_agree K type.Var (I r) (λ v o. let (scope, e) = bound v o in after_own.vars v bound_level scope (inst.extends.node v (slice_get_within old v (Var bound_level scope) e) ∙ e)) ∙ apply_Var (I r)

  -- the new types for the root's variables, among the nodes' own
  own_copy : (s : Subst) × (K m ≡ apply s (I r))
  own_copy = let (before_reads, (s, fixes, e), none) = inst.reads K (own_reads new K after_own) in (s, e ∙ ap (apply s) root_same)

  -- which are any types, when types go on
  any_for : (u : Subst) → (W : Types) × ((v : ℕ) → occurs v (I r) ≡ true → apply W (own_copy.0 v) ≡ u v)
  any_for u =
      let (W, fits, same, is) = instance_takes before inst bound u I (own_reads old I before).fits in
      let both : apply (after W own_copy.0) (I r) ≡ apply u (I r) = sym (apply-apply W own_copy.0 (I r)) ∙ ap (apply W) (sym own_copy.1) ∙ sym (after_own.comes W (fits_loosely new W fits) m) ∙ is in
      (W, λ v o. agree_at (after W own_copy.0) u (I r) both v o)

  -- hence variables
  is_variable : (v : ℕ) → occurs v (I r) ≡ true → own_copy.0 v ≡ type.Var (number_of (own_copy.0 v))
  is_variable v o =
      let (f, p) = any_for (λ v. type.Tuple types.Nil) in
      let (g, q) = any_for (λ v. type.Con [] types.Nil) in
      variable_is f g [] (own_copy.0 v) (p v o) (q v o)

  pub images_of : HasImages new I r m
  images_of = record {
    image = λ v. number_of (own_copy.0 v);
    inside = λ v o.
        let stands : occurs (number_of (own_copy.0 v)) (apply own_copy.0 (I r)) ≡ true =
        occurs_put own_copy.0 v (number_of (own_copy.0 v)) (I r) o (ap (occurs (number_of (own_copy.0 v))) (is_variable v o) ∙ eqb_same (number_of (own_copy.0 v))) in
        let var = after_own.only m (number_of (own_copy.0 v)) inst.inside (ap (occurs (number_of (own_copy.0 v))) own_copy.1 ∙ stands) in
        slice_get_within new (number_of (own_copy.0 v)) (Var var.level var.scope) var.at;
    is = λ V loose. after_own.comes V loose m ∙ ap (apply V) own_copy.1 ∙ apply-apply V own_copy.0 (I r) ∙ apply_agree (after V own_copy.0) (λ v. V (number_of (own_copy.0 v))) (I r) (λ v o. ap (apply V) (is_variable v o));
  }

-- An instance of a root that stands for a type of a declaration, with its images.
module _ {old new : List Node} {I N : Types} {C : List ℕ} {arity r m : ℕ} {t : Typ} (before : IsOwn old I) (root : RootAs old C N arity r t) (images : HasImages new I r m) where
  -- the use of the type is the type with the uses of the names
  pub use_of_root : (s : Subst) (f : Path → Typ) → used s f t ≡ apply (λ v. used s f (N v)) (I r)
  use_of_root s f = ap (used s f) (root.is I before) ∙ used_named s f N (I r) (root.known I before)

  -- soundness: where the use has the types of the images, the copy has that of the use
  pub take_sound : (V : Types) (s : Subst) (f : Path → Typ) → Loose new V → ((v : ℕ) → occurs v (I r) ≡ true → used s f (N v) ≡ V (images.image v)) → used s f t ≡ V m
  take_sound V s f loose h = use_of_root s f ∙ apply_agree (λ v. used s f (N v)) (λ v. V (images.image v)) (I r) h ∙ sym (images.is V loose)

  -- and where the copy has the type of the use, the images have its types
  pub take_each : (V : Types) (s : Subst) (f : Path → Typ) → Loose new V → V m ≡ used s f t → (v : ℕ) → occurs v (I r) ≡ true → used s f (N v) ≡ V (images.image v)
  take_each V s f loose e v o = agree_at (λ v. used s f (N v)) (λ v. V (images.image v)) (I r) (sym (use_of_root s f) ∙ sym e ∙ images.is V loose) v o

-- completeness: types that fit go on with those of any use
pub take_complete : {old new : List Node} {I N : Types} {C : List ℕ} {arity r level m : ℕ} {t : Typ} → IsOwn old I → RootAs old C N arity r t → Instantiated old new r level m → (V : Types) (s : Subst) (f : Path → Typ) → Fits old V →
    (W : Types) × Fits new W × SameTypes old V W × (W m ≡ used s f t)
take_complete {I = I} {N = N} before root inst V s f fits =
    let (W, fits', same, is) = instance_takes before inst (λ v o. named_bound (root.named I before v o)) (λ v. used s f (N v)) V fits in
    (W, fits', same, is ∙ sym (ap (used s f) (root.is I before) ∙ used_named s f N (I _) (root.known I before)))
