-- Types after closing, and that a new variable can be made one with any open node.
use Rattle.std.proofs.Common.{◌≡◌, ◌≢◌, ℕ, ◌<◌, Bool, true, false, List, [], ◌∷◌, length, Some, refl, sym, ◌∙◌, ap, subst, arith, ◌⊎◌, inl, inr}
use Rattle.std.specs.Prelude.{slice_get}
use Rattle.std.proofs.lemmas.Option.{slice_get_within}
use Rattle.std.proofs.lemmas.Bool.Decides.{eqb_tells}
use Rattle.type_model.specs.Types.{occurs}
use Rattle.type_model.specs.Types.{Typ as type}
use Rattle.type_model.specs.Limits.{no_scope, IsInScope}
use Rattle.type_nodes.specs.Nodes.{Node, Var, bound_level, IsSound, IsClosed, Rigid, Link, Arrow, Tuple, Con}
use Rattle.type_nodes.specs.Readings.{Types, Fits, FitsNode, IsReading}
use Rattle.type_nodes.specs.States.{State}
use Rattle.type_nodes.specs.Changes.{Makes}
use Rattle.type_nodes.proofs.Lists.{one_element, get-append_cases, get-append_left}
use Rattle.level_unify.specs.Solutions.{HaveNoBound}
use Rattle.level_unify.specs.Unification.{Unified, NeverAlike}
use Rattle.level_unify.specs.Solutions.{FitsLoosely}
use Rattle.level_unify.specs.Instances.{SameTypes}
use Rattle.level_unify.proofs.Steps.{cell_at}
use Rattle.typing_conditions.specs.Locals.{IsOwn, ClosesAll}
use Rattle.typing_conditions.proofs.Own.{own_of}
use Rattle.typing_conditions.proofs.Steps.{same_node}
use Rattle.typing_conditions.proofs.Closing.{became}
use Rattle.typing_conditions.proofs.Uses.{under_any}
use Rattle.std.proofs.Common.{◌≡◌, ◌≢◌, ℕ, ◌<◌, true, cond, eqb, List, [], ◌∷◌, ◌++◌, length, get_or, Some, refl, sym, ◌∙◌, ap, subst, arith, inl, inr}
use Rattle.type_model.specs.Types.{Typ, occurs}
use Rattle.type_model.specs.Types.{Typ as type}
use Rattle.type_model.specs.Limits.{no_scope, IsUnder}
use Rattle.type_model.proofs.Applying.{eqb_same}
use Rattle.type_nodes.specs.Nodes.{Node, Var, parts, bound_level, IsSound}
use Rattle.type_nodes.specs.Readings.{Types, Fits, IsReading}
use Rattle.type_nodes.proofs.Lists.{get-append_cases}
use Rattle.level_unify.specs.Solutions.{Loose, FitsLoosely}
use Rattle.level_unify.specs.Limits.{FitsUnder}
use Rattle.level_unify.specs.Instances.{SameTypes}
use Rattle.level_unify.proofs.Unified.{fits_under, under_fits}
use Rattle.level_unify.proofs.Variants.{still_fits}
use Rattle.level_unify.proofs.Walking.{parts_inside}

-- closing binds variables, so its readings were readings, and what fitted fits
fits_var : (V : Types) (n l o : ℕ) (c : Node) → c ≡ Var l o → (l ≢ bound_level → IsInScope o (V n)) → FitsNode V n c
fits_var V n l o c e h = subst (FitsNode V n) (sym e) h

-- a reading after closing was one before
pub reads_closed : (nodes new : List Node) (J V : Types) (R : List ℕ) (level : ℕ) → ClosesAll nodes new J R level → IsReading new V → IsReading nodes V
reads_closed nodes new J V R level closes reads = record {
  fits = record {
    each = λ n c e. elim (became nodes new J R level n c closes e) [
      | inl same ↦ reads.fits.each n c same
      | inr (d, f, b) ↦ fits_var V n b.own_level b.scope c b.was (λ free. subst (IsInScope b.scope) (sym (reads.own n b.scope (f ∙ ap (λ k. Some k) b.now))) tt)
    ];
  };
  own = λ n scope e. reads.own n scope (closes.stays n (λ l o f free above h. free (same_node nodes n l o bound_level scope f e)) ∙ e);
  apart = λ n level' scope b scope' e free e'.
      let bound : slice_get new b ≡ Some (Var bound_level scope') = closes.stays b (λ l o f free' above h. free' (same_node nodes b l o bound_level scope' f e')) ∙ e' in
      elim (became nodes new J R level n (Var level' scope) closes e) [
        | inl same ↦ reads.apart n level' scope b scope' same free bound
        | inr (d, f, k) ↦
            ap (occurs b) (reads.own n k.scope (f ∙ ap (λ j. Some j) k.now))
            ∙ other n b level' scope scope' e e' free
      ];
}
  where
    other : (n b level' scope scope' : ℕ) → slice_get nodes n ≡ Some (Var level' scope) → slice_get nodes b ≡ Some (Var bound_level scope') → level' ≢ bound_level → occurs b (type.Var n) ≡ false
    other n b level' scope scope' e e' free = elim (eqb_tells b n) [
      | inl (_, s) ↦ absurd (free (same_node nodes n level' scope bound_level scope' e (ap (slice_get nodes) (sym s) ∙ e')))
      | inr (f, _) ↦ f
    ]

-- types that fitted fit after closing
pub fits_closed : (nodes new : List Node) (J V : Types) (R : List ℕ) (level : ℕ) → ClosesAll nodes new J R level → Fits nodes V → Fits new V
fits_closed nodes new J V R level closes fits = record {
  each = λ n d e.
      let lt : n < length nodes = (let p = slice_get_within new n d e in let q = closes.len in omega arith) in
      let (c, f) = cell_at nodes n lt in
      elim (became nodes new J R level n c closes f) [
        | inl same ↦ subst (FitsNode V n) (one_element c d (slice_get new n) same e) (fits.each n c f)
        | inr (d', g, b) ↦ fits_var V n bound_level b.scope d (one_element d d' (slice_get new n) e g ∙ b.now) (λ free. absurd (free refl))
      ];
}

-- a new variable has any type
pub new_variable : (old new : State) (n l : ℕ) (V : Types) (t : Typ) → IsSound old.nodes → Makes old new n (Var l no_scope) → Fits old.nodes V → (W : Types) × Fits new.nodes W × SameTypes old.nodes V W × (W n ≡ t)
new_variable old new n l V t sound made fits = (W, under_fits (λ v. 0) new.nodes W fitted, same, at_new)
  where
    W : Types
    W m = cond (eqb m n) t (V m)

    at_new : W n ≡ t
    at_new = ap (λ b. cond b t (V n)) (eqb_same n)

    at_old : (m : ℕ) → m < length old.nodes → W m ≡ V m
    at_old m lt = elim (eqb_tells m n) [ inl (_, e) ↦ absurd (let p = made.added.number in omega arith) | inr (f, _) ↦ ap (λ b. cond b t (V m)) f ]

    same : SameTypes old.nodes V W
    same m lt = at_old m lt

    old_fits : FitsUnder (λ v. 0) old.nodes V
    old_fits = fits_under old.nodes V fits

    node_fits : (m : ℕ) (c : Node) → slice_get old.nodes m ≡ Some c → FitsLoosely W m c
    node_fits m c e = still_fits V W m c (old_fits.loose.each m c e) (at_old m (slice_get_within old.nodes m c e)) (λ k d lt. at_old (get_or (parts c) k d) (parts_inside old.nodes sound m c e k d lt))

    var_fits : (m : ℕ) → FitsLoosely W m (Var l no_scope)
    var_fits m = tt

    loose : Loose (old.nodes ++ Var l no_scope ∷ []) W
    loose = record {
      each = λ m c e. elim (get-append_cases old.nodes (Var l no_scope) m c e) [
        | inl f ↦ node_fits m c f
        | inr (p, q) ↦ subst (λ d. FitsLoosely W m d) (sym q) (var_fits m)
      ];
    }

    under_new : (m k o l' o' : ℕ) → Var k o ≡ Var l' o' → IsUnder (λ v. 0) l' no_scope (W m) → o ≡ no_scope → IsUnder (λ v. 0) l' o' (W m)
    under_new m k o l' o' e h s = let f : o ≡ o' = cc in subst (λ z. IsUnder (λ v. 0) l' z (W m)) (sym s ∙ f) h

    limits : (m l' o : ℕ) → slice_get (old.nodes ++ Var l no_scope ∷ []) m ≡ Some (Var l' o) → l' ≢ bound_level → IsUnder (λ v. 0) l' o (W m)
    limits m l' o e free = elim (get-append_cases old.nodes (Var l no_scope) m (Var l' o) e) [
      | inl f ↦ subst (IsUnder (λ v. 0) l' o) (sym (at_old m (slice_get_within old.nodes m (Var l' o) f))) (old_fits.under m l' o f free)
      | inr (p, q) ↦ under_new m l no_scope l' o (sym q) (under_any l' (W m)) refl
    ]

    fitted : FitsUnder (λ v. 0) new.nodes W
    fitted = subst (λ ns. FitsUnder (λ v. 0) ns W) (sym made.added.nodes) (record { loose = loose; under = limits })

-- own types are a reading
pub own_fits : (nodes : List Node) (I : Types) → IsOwn nodes I → Fits nodes I
own_fits nodes I own = record { each = λ n c e. each n c e (own.loose.each n c e) }
  where
    each : (n : ℕ) (c : Node) → slice_get nodes n ≡ Some c → FitsLoosely I n c → FitsNode I n c
    each n (Var l o) e h = λ free. subst (IsInScope o) (sym (own.vars n l o e)) tt
    each n Rigid e h = h
    each n (Link m) e h = h
    each n (Arrow a b) e h = h
    each n (Tuple ms) e h = h
    each n (Con p name ms) e h = h

other_var : (nodes : List Node) (n b l o o' : ℕ) → slice_get nodes n ≡ Some (Var l o) → slice_get nodes b ≡ Some (Var bound_level o') → l ≢ bound_level → occurs b (type.Var n) ≡ false
other_var nodes n b l o o' e f free = elim (eqb_tells b n) [ inl (_, s) ↦ absurd (free (same_node nodes n l o bound_level o' e (ap (slice_get nodes) (sym s) ∙ f))) | inr (t, _) ↦ t ]

-- A new variable can be one with any node in which no bound variable stands.
pub fresh_joins : (old new : State) (n l r : ℕ) → IsSound old.nodes → Makes old new n (Var l no_scope) → l ≢ bound_level → r < length old.nodes → HaveNoBound new.nodes n r → NeverAlike new.nodes n r → ⊥
fresh_joins old new n l r sound made free inside none never = at (own_of old.nodes sound)
  where
    at : (I : Types) × IsOwn old.nodes I → ⊥
    at (I, own) =
        let (W, fits, same, is) = new_variable old new n l I (I r) sound made (own_fits old.nodes I own) in
        never.never W (reading I own W fits same is) (is ∙ sym (same r inside))
      where
        below : (m : ℕ) → m < length old.nodes → slice_get new.nodes m ≡ slice_get old.nodes m
        below m lt = ap (λ ns. slice_get ns m) made.added.nodes ∙ get-append_left old.nodes (Var l no_scope ∷ []) m lt

        -- a bound variable is an old one
        bound_old : (b o : ℕ) → slice_get new.nodes b ≡ Some (Var bound_level o) → (b < length old.nodes) × (slice_get old.nodes b ≡ Some (Var bound_level o))
        bound_old b o e = elim (get-append_cases old.nodes (Var l no_scope) b (Var bound_level o) (ap (λ ns. slice_get ns b) (sym made.added.nodes) ∙ e)) [
          | inl f ↦ (slice_get_within old.nodes b (Var bound_level o) f, f)
          | inr (p, q) ↦ absurd (free (let f : bound_level ≡ l = cc in sym f))
        ]

        old_closed : IsClosed old.nodes none.set
        old_closed = record { each = λ m c has e. none.closed.each m c has (below m (slice_get_within old.nodes m c e) ∙ e) }

        -- none stands in r
        lacks : (I : Types) → IsOwn old.nodes I → (b o : ℕ) → slice_get old.nodes b ≡ Some (Var bound_level o) → (t : Bool) → occurs b (I r) ≡ t → occurs b (I r) ≡ false
        lacks I own b o e false h = h
        lacks I own b o e true h = absurd (none.free b bound_level o ((own.stands r b inside h).each none.set old_closed none.right) (below b (slice_get_within old.nodes b (Var bound_level o) e) ∙ e) refl)

        reading : (I : Types) → IsOwn old.nodes I → (W : Types) → Fits new.nodes W → SameTypes old.nodes I W → W n ≡ I r → IsReading new.nodes W
        reading I own W fits same is = record {
          fits = fits;
          own = λ m o e. let (lt, f) = bound_old m o e in same m lt ∙ own.vars m bound_level o f;
          apart = λ m k o b o' e open' e'.
              let (lt, f) = bound_old b o' e' in
              elim (get-append_cases old.nodes (Var l no_scope) m (Var k o) (ap (λ ns. slice_get ns m) (sym made.added.nodes) ∙ e)) [
                | inl g ↦ ap (occurs b) (same m (slice_get_within old.nodes m (Var k o) g) ∙ own.vars m k o g) ∙ other_var old.nodes m b k o o' g f open'
                | inr (p, q) ↦ ap (occurs b) (ap W (p ∙ sym made.added.number) ∙ is) ∙ lacks I own b o' f (occurs b (I r)) refl
              ];
        }

-- so what `join` answers is that they are one
pub fresh_is_one : (old new : State) (third : List Node) (n l r : ℕ) (after : State) → IsSound old.nodes → Makes old new n (Var l no_scope) → l ≢ bound_level → r < length old.nodes → after.nodes ≡ third →
    (HaveNoBound new.nodes n r → Unified new.nodes after.nodes n r) ⊎ ((after ≡ new) × (HaveNoBound new.nodes n r → NeverAlike new.nodes n r)) → HaveNoBound new.nodes n r → Unified new.nodes third n r
fresh_is_one old new third n l r after sound made free inside same (inl one) none = subst (λ ns. Unified new.nodes ns n r) same (one none)
fresh_is_one old new third n l r after sound made free inside same (inr (_, never)) none = absurd (fresh_joins old new n l r sound made free inside none (never none))
