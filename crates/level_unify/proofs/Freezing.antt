-- Instances with new rigid variables.
use Rattle.std.proofs.Common.{◌≡◌, ℕ, ◌≤◌, true, false, List, length, sym, ◌∙◌, ap, subst, Result, Ok, Err, refl}
use Rattle.std.specs.Prelude.{slice_get, IfOk}
use Rattle.std.specs.declared.alloc.AllocError.{AllocError}
use Rattle.type_terms.specs.declared.types.NodeRef.{NodeRef}
use Rattle.type_model.specs.Types.{occurs}
use Rattle.type_model.specs.Types.{Typ as type}
use Rattle.type_model.specs.Substitutions.{Subst, apply}
use Rattle.type_model.specs.Origins.{rigid}
use Rattle.type_nodes.specs.Nodes.{Node, Var, Rigid, bound_level, IsSound}
use Rattle.type_nodes.specs.Readings.{Types}
use Rattle.level_unify.specs.Limits.{FitsUnder}
use Rattle.level_unify.specs.Copies.{image, Copied}
use Rattle.level_unify.specs.Instances.{is_bound, IsVariant, rigid_for, Frozen}
use Rattle.level_unify.proofs.Unified.{fits_under}
use Rattle.level_unify.proofs.Variants.{bound_cell, free_there, reading_variant}
use Rattle.level_unify.proofs.Instances.{bound_made, bound_copied, under_before, reading_before, extended, at_old, made_var, copies_once, copy_within, copy_in, copy_unbound}
use Rattle.level_unify.proofs.Instancing.{for_bound, on_bound, on_free, general, general_bound, general_variant, bound_image, after_fits, after_reads, extended_reads, extended_under}

rigid_no_var : (l o : ℕ) → Rigid ≡ Var l o → ⊥
rigid_no_var l o e = cc

-- types that give bound variables their rigid variables extend to the copy
rigid_under : (old new : List Node) (r m' : ℕ) (c : Copied old new Rigid r m') (L : ℕ → ℕ) (V U : Types) → FitsUnder L old V → IsVariant old V U → ((b : ℕ) → is_bound old b ≡ true → U b ≡ rigid (image old c.table b)) → FitsUnder L new (extended old c.copied.source V U)
rigid_under old new r m' c L V U fits variant puts =
    extended_under old new Rigid r m' c L V U fits variant
    (λ n t bound e. e ∙ puts (c.copied.source n) bound ∙ ap rigid (bound_image old new Rigid r m' c (c.copied.source n) n bound t))
    (λ n l o same. absurd (rigid_no_var l o same))

pub frozen : (old new : List Node) (r m' : ℕ) → Copied old new Rigid r m' → Frozen old new r m'
frozen old new r m' c = record {
  inside = copy_in old new Rigid r m' c;
  extends = c.copied.extends;
  copies = copies_once old new Rigid r m' c;
  within = copy_within old new Rigid r m' c refl;
  unbound = copy_unbound old new Rigid r m' c refl (λ l o e. absurd (rigid_no_var l o e));
  image = image old c.table;
  made = λ b bound stands.
      let (m, t) = bound_copied old new Rigid r m' c b bound stands in
      let is = bound_image old new Rigid r m' c b m bound t in
      (subst (λ k. length old ≤ k) (sym is) (c.copied.sources b m t).0, ap (slice_get new) is ∙ bound_made old new Rigid r m' c b m bound t);
  distinct = λ b b' bound stands bound' stands' same.
      let (m, t) = bound_copied old new Rigid r m' c b bound stands in
      let (n, t') = bound_copied old new Rigid r m' c b' bound' stands' in
      let one : m ≡ n = sym (bound_image old new Rigid r m' c b m bound t) ∙ same ∙ bound_image old new Rigid r m' c b' n bound' t' in
      sym (c.copied.sources b m t).2 ∙ ap c.copied.source one ∙ (c.copied.sources b' n t').2;
  vars = λ n l o le e. rigid_no_var l o (made_var old new Rigid r m' c n l o le e).0;
  reads = λ V reads. (
    reading_before old new V c.copied.extends reads,
    after_reads old new Rigid r m' c V (rigid_for old (image old c.table)) reads fixes
        (λ b m bound t. puts b bound ∙ ap rigid (bound_image old new Rigid r m' c b m bound t) ∙ sym (reads.fits.each m Rigid (bound_made old new Rigid r m' c b m bound t))),
  );
  read = λ V reads.
      let variant = reading_variant old (rigid_for old (image old c.table)) V fixes reads in
      let U : Types = λ n. apply (rigid_for old (image old c.table)) (V n) in
      let own : (b : ℕ) → is_bound old b ≡ true → U b ≡ rigid (image old c.table b) = λ b bound. (let (o, e) = bound_cell old b bound in ap (apply (rigid_for old (image old c.table))) (reads.own b o e) ∙ puts b bound) in
      let fits = rigid_under old new r m' c (λ v. 0) V U (fits_under old V reads.fits) variant own in (
        extended old c.copied.source V U,
        extended_reads old new Rigid r m' c V U reads fits (λ scope e. rigid_no_var bound_level scope e) (λ n b bound stands bound'. ap (occurs b) (own (c.copied.source n) bound)),
        (λ n within. at_old old c.copied.source V U n within),
      );
  fits = λ L V fits.
      let (variant, same) = after_fits old new Rigid r m' c V fits.loose in (
        under_before old new L V c.copied.extends fits,
        (
          general old new Rigid r m' c (λ v. V (image old c.table v)),
          variant,
          (λ b bound stands.
              let (m, t) = bound_copied old new Rigid r m' c b bound stands in
              let is = bound_image old new Rigid r m' c b m bound t in
              general_bound old new Rigid r m' c (λ v. V (image old c.table v)) b bound ∙ ap V is ∙ fits.loose.each m Rigid (bound_made old new Rigid r m' c b m bound t) ∙ ap rigid (sym is)),
          same,
        ),
      );
  fitted = λ L V fits.
      let s : Subst = for_bound old (λ b. rigid (image old c.table b)) V in
      let variant = general_variant old new Rigid r m' c s V (λ n l o e free. on_free old (λ b. rigid (image old c.table b)) V n (free_there old n l o e free)) in
      let U = general old new Rigid r m' c s in (
        extended old c.copied.source V U,
        rigid_under old new r m' c L V U fits variant (λ b bound. general_bound old new Rigid r m' c s b bound ∙ on_bound old (λ k. rigid (image old c.table k)) V b bound),
        (λ n within. at_old old c.copied.source V U n within),
      );
}
  where
    fixes : (v : ℕ) → is_bound old v ≡ false → rigid_for old (image old c.table) v ≡ type.Var v
    fixes v e = on_free old (λ b. rigid (image old c.table b)) type.Var v e

    puts : (b : ℕ) → is_bound old b ≡ true → rigid_for old (image old c.table) b ≡ rigid (image old c.table b)
    puts b e = on_bound old (λ k. rigid (image old c.table k)) type.Var b e

-- the same with the answer
pub frozen_answer : (old new : List Node) (r : ℕ) (res : Result NodeRef AllocError) → IfOk res (λ m. Copied old new Rigid r m.0) → IfOk res (λ m. Frozen old new r m.0)
frozen_answer old new r (Ok m) c = frozen old new r m.0 c
frozen_answer old new r (Err e) c = tt

-- the nodes after it are sound
pub frozen_sound : (old new : List Node) (r : ℕ) (res : Result NodeRef AllocError) → IfOk res (λ m. Copied old new Rigid r m.0) → IfOk res (λ _. IsSound new)
frozen_sound old new r (Ok m) c = c.sound_after
frozen_sound old new r (Err e) c = tt
