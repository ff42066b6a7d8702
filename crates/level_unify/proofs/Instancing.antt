-- The readings of a copy, and instances with new variables.
use Rattle.type_model.specs.Schemes.{HasInstance}
use Rattle.std.proofs.Common.{◌≡◌, ◌≢◌, ℕ, ◌<◌, Bool, true, false, if◌then◌else◌, List, length, Some, refl, sym, ◌∙◌, ap, subst, arith, inl, inr, Result, Ok, Err}
use Rattle.std.specs.Prelude.{slice_get, IfOk}
use Rattle.std.proofs.lemmas.Bool.{le-leb}
use Rattle.std.proofs.lemmas.Option.{slice_get_within}
use Rattle.std.specs.declared.alloc.AllocError.{AllocError}
use Rattle.type_terms.specs.declared.types.NodeRef.{NodeRef}
use Rattle.type_model.specs.Types.{Path, Typ, Typs, occurs}
use Rattle.type_model.specs.Types.{Typ as type, Typs as types}
use Rattle.type_model.specs.Substitutions.{Subst, apply}
use Rattle.type_model.specs.Origins.{made_before}
use Rattle.type_model.specs.Limits.{no_scope, in_scope, IsUnder, AreUnder}
use Rattle.type_model.proofs.Applying.{or_left, occurs_put}
use Rattle.type_nodes.specs.Nodes.{Node, Var, bound_level}
use Rattle.type_nodes.specs.Readings.{Types, IsReading}
use Rattle.type_nodes.proofs.Identity.{identity, identity_built, identity_fits}
use Rattle.level_unify.specs.Walks.{StandsIn}
use Rattle.level_unify.specs.Solutions.{Loose, FitsLoosely, HaveNoBound}
use Rattle.level_unify.specs.Limits.{FitsUnder}
use Rattle.level_unify.specs.Copies.{image, Copied}
use Rattle.level_unify.specs.Instances.{is_bound, HasNoBoundVar, IsVariant, KeepsLevel, Instantiated, scheme_at}
use Rattle.level_unify.proofs.Unified.{fits_loosely, fits_under, under_fits, apart_within}
use Rattle.level_unify.proofs.Variants.{bound_cell, bound_there, loose_apply, reading_variant, stands_occurs}
use Rattle.level_unify.proofs.Instances.{var_root, free_uncopied, bound_made, bound_copied, image_none, image_some, copy_typed, under_before, reading_before, extended, at_old, at_new, extended_loose, extended_copy, made_var, copies_once, copy_within, copy_in, copy_unbound, old_or_new}

-- a scope that limits nothing has every origin in it
everything_in : (o : Path) → in_scope no_scope o ≡ true
everything_in o = or_left _ (made_before no_scope o) (le-leb no_scope no_scope (omega arith))

mutual
  anything_under : (level : ℕ) (t : Typ) → IsUnder (λ v. 0) level no_scope t
  anything_under level (type.Var v) = omega arith
  anything_under level (type.Arrow a b) = (anything_under level a, anything_under level b)
  anything_under level (type.Tuple ts) = all_anything_under level ts
  anything_under level (type.Con o ts) = (everything_in o, all_anything_under level ts)

  all_anything_under : (level : ℕ) (ts : Typs) → AreUnder (λ v. 0) level no_scope ts
  all_anything_under level types.Nil = tt
  all_anything_under level (types.Cons t ts) = (anything_under level t, all_anything_under level ts)

-- a substitution of the bound variables alone
abbrev pub for_bound : List Node → (ℕ → Typ) → (ℕ → Typ) → Subst
for_bound nodes t u v = if is_bound nodes v then t v else u v

pub on_bound : (nodes : List Node) (t u : ℕ → Typ) (v : ℕ) → is_bound nodes v ≡ true → for_bound nodes t u v ≡ t v
on_bound nodes t u v e = ap (λ b. if b then t v else u v) e

pub on_free : (nodes : List Node) (t u : ℕ → Typ) (v : ℕ) → is_bound nodes v ≡ false → for_bound nodes t u v ≡ u v
on_free nodes t u v e = ap (λ b. if b then t v else u v) e

-- The types that come from the most general reading by a substitution: at each variable it is the substitution's.
abbrev pub general : (old new : List Node) (made : Node) (r m' : ℕ) → Copied old new made r m' → Subst → Types
general old new made r m' c s n = apply s (identity c.sound.0 old n)

pub general_var : (old new : List Node) (made : Node) (r m' : ℕ) (c : Copied old new made r m') (s : Subst) (n l o : ℕ) → slice_get old n ≡ Some (Var l o) → general old new made r m' c s n ≡ s n
general_var old new made r m' c s n l o e = ap (apply s) (identity_built old c.sound.0 c.sound.1 n (Var l o) e)

pub general_bound : (old new : List Node) (made : Node) (r m' : ℕ) (c : Copied old new made r m') (s : Subst) (b : ℕ) → is_bound old b ≡ true → general old new made r m' c s b ≡ s b
general_bound old new made r m' c s b bound = let (o, e) = bound_cell old b bound in general_var old new made r m' c s b bound_level o e

pub general_variant : (old new : List Node) (made : Node) (r m' : ℕ) (c : Copied old new made r m') (s : Subst) (V : Types) → ((n l o : ℕ) → slice_get old n ≡ Some (Var l o) → l ≢ bound_level → s n ≡ V n) → IsVariant old V (general old new made r m' c s)
general_variant old new made r m' c s V same = record {
  loose = loose_apply old s (identity c.sound.0 old) (fits_loosely old (identity c.sound.0 old) (identity_fits old c.sound.0 c.sound.1));
  free = λ n l o e free. general_var old new made r m' c s n l o e ∙ same n l o e free;
}

-- the image of a free variable is itself, and that of a bound one its copy
pub free_image : (old new : List Node) (made : Node) (r m' : ℕ) (c : Copied old new made r m') (n l o : ℕ) → slice_get old n ≡ Some (Var l o) → l ≢ bound_level → image old c.table n ≡ n
free_image old new made r m' c n l o e free = image_none old c.table n (var_root old n l o e) (free_uncopied old new made r m' c n l o e free)

pub bound_image : (old new : List Node) (made : Node) (r m' : ℕ) (c : Copied old new made r m') (b m : ℕ) → is_bound old b ≡ true → c.table b ≡ Some m → image old c.table b ≡ m
bound_image old new made r m' c b m bound t = let (o, e) = bound_cell old b bound in image_some old c.table b m (var_root old b bound_level o e) t

-- What fits after copying gives the copy the type of r in a variant: each bound variable has in it the type of its image.
pub after_fits : (old new : List Node) (made : Node) (r m' : ℕ) (c : Copied old new made r m') (V : Types) → Loose new V →
    IsVariant old V (general old new made r m' c (λ v. V (image old c.table v))) × (V m' ≡ general old new made r m' c (λ v. V (image old c.table v)) r)
after_fits old new made r m' c V fits = (variant, copy_typed old new made r m' c V U fits variant.loose (λ n l o e free. sym (variant.free n l o e free)) (λ n m t b. sym (general_bound old new made r m' c s n b ∙ ap V (bound_image old new made r m' c n m b t))))
  where
    s : Subst
    s v = V (image old c.table v)

    U : Types
    U = general old new made r m' c s

    variant : IsVariant old V U
    variant = general_variant old new made r m' c s V (λ n l o e free. ap V (free_image old new made r m' c n l o e free))

-- the same for readings, where a substitution of the bound variables does it
pub after_reads : (old new : List Node) (made : Node) (r m' : ℕ) (c : Copied old new made r m') (V : Types) (s : Subst) → IsReading new V → ((v : ℕ) → is_bound old v ≡ false → s v ≡ type.Var v) → ((b m : ℕ) → is_bound old b ≡ true → c.table b ≡ Some m → s b ≡ V m) →
    V m' ≡ apply s (V r)
after_reads old new made r m' c V s reads fixes puts =
    let before = reading_before old new V c.copied.extends reads in
    let variant = reading_variant old s V fixes before in
    copy_typed old new made r m' c V (λ n. apply s (V n)) (fits_loosely new V reads.fits) variant.loose (λ n l o e free. sym (variant.free n l o e free))
    (λ n m t b. let (o, e) = bound_cell old n b in sym (ap (apply s) (before.own n o e) ∙ puts n m b t))

-- no bound variable is in the copy's type
pub unbound_type : (old new : List Node) (made : Node) (r m' : ℕ) (c : Copied old new made r m') (V : Types) → IsReading new V → HaveNoBound new m' m' → HasNoBoundVar old (V m')
unbound_type old new made r m' c V reads none b bound =
    let (o, e) = bound_cell old b bound in
    let there : slice_get new b ≡ Some (Var bound_level o) = c.copied.extends.node b (slice_get_within old b (Var bound_level o) e) ∙ e in
    apart_within new m' m' V c.sound_after none (fits_loosely new V reads.fits) b (λ n l scope at free. reads.apart n l scope b o at free there) m' (copy_in old new made r m' c) none.left

-- a reading of before with other types for the bound variables, in which no variable is bound, is one after copying
pub extended_reads : (old new : List Node) (made : Node) (r m' : ℕ) (c : Copied old new made r m') (V U : Types) → IsReading old V → FitsUnder (λ v. 0) new (extended old c.copied.source V U) → ((scope : ℕ) → made ≢ Var bound_level scope) →
    ((n b : ℕ) → is_bound old (c.copied.source n) ≡ true → StandsIn old (c.copied.source n) r → is_bound old b ≡ true → occurs b (U (c.copied.source n)) ≡ false) → IsReading new (extended old c.copied.source V U)
extended_reads old new made r m' c V U reads fits free_made none = record {
  fits = under_fits (λ v. 0) new W fits;
  own = λ n scope e. let (lt, e') = bound_before n scope e in at_old old c.copied.source V U n lt ∙ reads.own n scope e';
  apart = λ n l o b scope e free e'.
      let (lt, f) = bound_before b scope e' in
      elim (old_or_new n (length old)) [
        | inl lt' ↦ ap (occurs b) (at_old old c.copied.source V U n lt') ∙ reads.apart n l o b scope (sym (c.copied.extends.node n lt') ∙ e) free f
        | inr le ↦
            let (same, bound, stands) = made_var old new made r m' c n l o le e in
            ap (occurs b) (at_new old c.copied.source V U n le) ∙ none n b bound stands (bound_there old b (Var bound_level scope) f refl)
      ];
}
  where
    W : Types
    W = extended old c.copied.source V U

    bound_before : (n scope : ℕ) → slice_get new n ≡ Some (Var bound_level scope) → (n < length old) × (slice_get old n ≡ Some (Var bound_level scope))
    bound_before n scope e = elim (old_or_new n (length old)) [
      | inl lt ↦ (lt, sym (c.copied.extends.node n lt) ∙ e)
      | inr le ↦ absurd (free_made scope (made_var old new made r m' c n bound_level scope le e).0)
    ]

-- types that keep to the levels still do, where what was made keeps to them
pub extended_under : (old new : List Node) (made : Node) (r m' : ℕ) (c : Copied old new made r m') (L : ℕ → ℕ) (V U : Types) → FitsUnder L old V → IsVariant old V U →
    ((n : ℕ) → c.table (c.copied.source n) ≡ Some n → is_bound old (c.copied.source n) ≡ true → extended old c.copied.source V U n ≡ U (c.copied.source n) → FitsLoosely (extended old c.copied.source V U) n made) →
    ((n l o : ℕ) → made ≡ Var l o → is_bound old (c.copied.source n) ≡ true → StandsIn old (c.copied.source n) r → IsUnder L l o (U (c.copied.source n))) → FitsUnder L new (extended old c.copied.source V U)
extended_under old new made r m' c L V U fits variant made_fits made_under = record {
  loose = extended_loose old new made r m' c V U fits.loose variant made_fits;
  under = λ n l o e free. elim (old_or_new n (length old)) [
    | inl lt ↦ subst (IsUnder L l o) (sym (at_old old c.copied.source V U n lt)) (fits.under n l o (sym (c.copied.extends.node n lt) ∙ e) free)
    | inr le ↦
        let (same, bound, stands) = made_var old new made r m' c n l o le e in
        subst (IsUnder L l o) (sym (at_new old c.copied.source V U n le)) (made_under n l o same bound stands)
  ];
}

same_level : (level l o : ℕ) → Var level no_scope ≡ Var l o → (l ≡ level) × (o ≡ no_scope)
same_level level l o e = let p : level ≡ l = cc in let q : no_scope ≡ o = cc in (sym p, sym q)

below_free : (level : ℕ) → level < bound_level → level ≢ bound_level
below_free level lt e = omega arith

flexible_under : (old new : List Node) (r level m' : ℕ) (c : Copied old new (Var level no_scope) r m') (L : ℕ → ℕ) (V U : Types) → FitsUnder L old V → IsVariant old V U → KeepsLevel L old r level U → FitsUnder L new (extended old c.copied.source V U)
flexible_under old new r level m' c L V U fits variant keeps =
    extended_under old new (Var level no_scope) r m' c L V U fits variant (λ n t b e. tt)
    (λ n l o same bound stands.
    let (p, q) = same_level level l o same in
    subst (λ k. IsUnder L k o (U (c.copied.source n))) (sym p) (subst (λ k. IsUnder L level k (U (c.copied.source n))) (sym q) (keeps (c.copied.source n) bound stands)))

pub instantiated : (old new : List Node) (r level m' : ℕ) → level < bound_level → Copied old new (Var level no_scope) r m' → Instantiated old new r level m'
instantiated old new r level m' lt c = record {
  inside = copy_in old new (Var level no_scope) r m' c;
  extends = c.copied.extends;
  copies = copies_once old new (Var level no_scope) r m' c;
  within = copy_within old new (Var level no_scope) r m' c refl;
  unbound = unbound;
  vars = λ n l o le e. same_level level l o (made_var old new (Var level no_scope) r m' c n l o le e).0;
  reads = λ V reads.
      let instance : HasInstance (scheme_at old V r) (V m') = (
        put V,
        (λ v e. on_free old (λ b. V (image old c.table b)) type.Var v e),
        after_reads old new (Var level no_scope) r m' c V (put V) reads (λ v e. on_free old (λ b. V (image old c.table b)) type.Var v e)
            (λ b m bound t. on_bound old (λ v. V (image old c.table v)) type.Var b bound ∙ ap V (bound_image old new (Var level no_scope) r m' c b m bound t)),
      ) in
      (reading_before old new V c.copied.extends reads, instance, unbound_type old new (Var level no_scope) r m' c V reads unbound);
  read = λ V x reads (s, fixes, eq) none.
      let variant = reading_variant old s V fixes reads in
      let W = extended old c.copied.source V (λ n. apply s (V n)) in
      let fits = flexible_under old new r level m' c (λ v. 0) V (λ n. apply s (V n)) (fits_under old V reads.fits) variant (λ b bound stands. anything_under level (apply s (V b))) in (
        W,
        extended_reads old new (Var level no_scope) r m' c V (λ n. apply s (V n)) reads fits (λ scope e. below_free level lt (sym (same_level level bound_level scope e).0)) (λ n b bound stands bound'. lacks V x s reads eq none (c.copied.source n) b bound stands bound'),
        (λ n within. at_old old c.copied.source V (λ k. apply s (V k)) n within),
        extended_copy old new (Var level no_scope) r m' c V (λ n. apply s (V n)) (fits_loosely old V reads.fits) variant ∙ sym eq,
      );
  fits = λ L V fits.
      let (variant, same) = after_fits old new (Var level no_scope) r m' c V fits.loose in (
        under_before old new L V c.copied.extends fits,
        (
          general old new (Var level no_scope) r m' c (λ v. V (image old c.table v)),
          variant,
          (λ b bound stands.
              let (m, t) = bound_copied old new (Var level no_scope) r m' c b bound stands in
              let there = bound_made old new (Var level no_scope) r m' c b m bound t in
              subst (IsUnder L level no_scope) (sym (general_bound old new (Var level no_scope) r m' c (λ v. V (image old c.table v)) b bound ∙ ap V (bound_image old new (Var level no_scope) r m' c b m bound t))) (fits.under m level no_scope there (below_free level lt))),
          same,
        ),
      );
  fitted = λ L V U fits variant keeps.
      (extended old c.copied.source V U, flexible_under old new r level m' c L V U fits variant keeps, (λ n within. at_old old c.copied.source V U n within), extended_copy old new (Var level no_scope) r m' c V U fits.loose variant);
}
  where
    unbound : HaveNoBound new m' m'
    unbound = copy_unbound old new (Var level no_scope) r m' c refl (λ l o e b. below_free level lt (sym (same_level level l o e).0 ∙ b))

    put : Types → Subst
    put V = for_bound old (λ b. V (image old c.table b)) type.Var

    lacks : (V : Types) (x : Typ) (s : Subst) → IsReading old V → x ≡ apply s (V r) → HasNoBoundVar old x → (u b : ℕ) → is_bound old u ≡ true → StandsIn old u r → is_bound old b ≡ true → occurs b (apply s (V u)) ≡ false
    lacks V x s reads eq none u b bound stands bound' = at (occurs b (apply s (V u))) refl
      where
        own : V u ≡ type.Var u
        own = let (o, e) = bound_cell old u bound in reads.own u o e

        at : (t : Bool) → occurs b (apply s (V u)) ≡ t → occurs b (apply s (V u)) ≡ false
        at false e = e
        at true e = absurd (
            let put_in : occurs b (s u) ≡ true = sym (ap (λ t. occurs b (apply s t)) own) ∙ e in
            let in_x : occurs b (apply s (V r)) ≡ true = occurs_put s u b (V r) (stands_occurs old V u r (fits_loosely old V reads.fits) own stands) put_in in
            let not_in : occurs b (apply s (V r)) ≡ false = sym (ap (occurs b) eq) ∙ none b bound' in cc)

-- the same with the answer
pub instance_answer : (old new : List Node) (r level : ℕ) (res : Result NodeRef AllocError) → level < bound_level → IfOk res (λ m. Copied old new (Var level no_scope) r m.0) → IfOk res (λ m. Instantiated old new r level m.0)
instance_answer old new r level (Ok m) lt c = instantiated old new r level m.0 lt c
instance_answer old new r level (Err e) lt c = tt
