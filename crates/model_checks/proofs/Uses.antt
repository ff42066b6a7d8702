-- Uses of names: an instance of a type without unknown ones.
use Rattle.std.proofs.Common.{◌≡◌, ℕ, true, false, Some, None, refl, ◌∙◌, ap, if◌then◌else◌}
use Rattle.type_model.specs.Types.{Path, Typ, Typs, Var, Arrow, Tuple, Con, Nil, Cons, occurs}
use Rattle.type_model.specs.Substitutions.{apply}
use Rattle.type_model.specs.Schemes.{Scheme}
use Rattle.type_model.proofs.Applying.{apply_leaves}
use Rattle.signature_model.specs.Changes.{change, change_all, put}
use Rattle.signature_model.specs.Matching.{filling, IsKnown, AreKnown}
use Rattle.typing_model.specs.Contexts.{monomorphic}
use Rattle.typing_model.specs.Demands.{IsUse}

-- filling changes nothing where no unknown type stands
mutual
  pub filled_known : (f : Path → Typ) (t : Typ) → IsKnown t → change (filling f) t ≡ t
  filled_known f (Var v) h = refl
  filled_known f (Arrow a b) h = ap (λ t. Arrow t (change (filling f) b)) (filled_known f a h.0) ∙ ap (Arrow a) (filled_known f b h.1)
  filled_known f (Tuple ts) h = ap Tuple (filled_known_all f ts h)
  filled_known f (Con o ts) h =
      ap (λ b. put o (if b then Some (f o) else None) (change_all (filling f) ts)) h.0 ∙ ap (Con o) (filled_known_all f ts h.1)

  filled_known_all : (f : Path → Typ) (ts : Typs) → AreKnown ts → change_all (filling f) ts ≡ ts
  filled_known_all f Nil h = refl
  filled_known_all f (Cons t ts) h = ap (λ u. Cons u (change_all (filling f) ts)) (filled_known f t h.0) ∙ ap (Cons t) (filled_known_all f ts h.1)

-- a use of a name whose scheme binds none of its variables has the scheme's type
pub use_of_fixed : (sc : Scheme) (u : Typ) → IsKnown sc.body → ((v : ℕ) → occurs v sc.body ≡ true → sc.bound v ≡ false) → IsUse sc u → u ≡ sc.body
use_of_fixed sc u k fixed use_ =
    use_.instance.2 ∙ ap (apply use_.instance.0) (filled_known use_.fill sc.body k) ∙ apply_leaves use_.instance.0 sc.body (λ v o. use_.instance.1 v (fixed v o))

-- a use of a name that has one type has that type
pub use_of_one : (t u : Typ) → IsKnown t → IsUse (monomorphic t) u → u ≡ t
use_of_one t u k use_ = use_of_fixed (monomorphic t) u k (λ v o. refl) use_

-- a use of a name whose type is an arrow between one type is such an arrow
pub use_of_same : (sc : Scheme) (t u : Typ) → IsKnown sc.body → sc.body ≡ Arrow t t → IsUse sc u → (a : Typ) × (u ≡ Arrow a a)
use_of_same sc t u k e use_ = (
  apply use_.instance.0 t,
  use_.instance.2 ∙ ap (apply use_.instance.0) (filled_known use_.fill sc.body k ∙ e),
)
