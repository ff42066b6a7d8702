-- Which variables are free behind a substitution: those of what it puts in for free ones.
use Rattle.std.proofs.Common.{◌≡◌, ℕ, Bool, true, false, not, [], refl, sym, ◌∙◌, ap, subst, inl, inr}
use Rattle.std.proofs.lemmas.Bool.{eqb-true}
use Rattle.type_model.specs.Types.{Typ, Var, Con, Nil, occurs}
use Rattle.type_model.specs.Substitutions.{Subst, apply}
use Rattle.type_model.specs.Schemes.{Scheme, free_in_scheme}
use Rattle.type_model.proofs.Applying.{or_left, or_right, or_cases, eqb_same, occurs_put, occurs_from}
use Rattle.type_model.proofs.Generalising.{choose}
use Rattle.signature_model.specs.Signatures.{Signature, Components, Meaning}
use Rattle.signature_model.specs.Functors.{IsClosed}
use Rattle.signature_model.specs.Entries.{Referent, Environment, free_in, free_in_signature, free_in_components, free_in_meaning, free_in_referent}
use Rattle.typing_laws.specs.Under.{IsSchemeUnder, IsSignatureUnder, of_hole, of_structure, of_functor, AreUnder, no_components, component, IsMeaningUnder, of_value, of_type, of_exception, of_module, of_module_type, IsReferentUnder, value, constructor, exception, label, type_name, module_name, module_type, IsUnder, no_names, newest}
use Rattle.typing_laws.proofs.Bools.{and_cases, and_both, no_yes}

-- a type in which no variable stands
abbrev closed : Typ
closed = Con [] Nil

-- a variable that stands in what is put in for a free one
abbrev pub ComesFrom : Subst → ℕ → (ℕ → Bool) → Type 0
ComesFrom s w free = (v : ℕ) × (free v ≡ true) × (occurs w (s v) ≡ true)

-- a variable that isn't free is the scheme's own, where it stands in the body
own_where_bound : (sc : Scheme) (w : ℕ) → occurs w sc.body ≡ true → free_in_scheme w sc ≡ false → sc.bound w ≡ true
own_where_bound sc w o f = by (sc.bound w) refl
  where
    by : (b : Bool) → sc.bound w ≡ b → sc.bound w ≡ true
    by true e = e
    by false e = absurd (no_yes (sym f ∙ and_both (occurs w sc.body) (not (sc.bound w)) o (ap not e)))

-- what is put in for a free variable of a scheme brings its variables
pub scheme_brings : (s : Subst) (sc behind : Scheme) → IsSchemeUnder s sc behind → (v w : ℕ) → free_in_scheme v sc ≡ true → occurs w (s v) ≡ true → free_in_scheme w behind ≡ true
scheme_brings s sc behind h v w f o = by (free_in_scheme w behind) refl
  where
    q : Subst
    q u = choose (behind.bound u) closed (Var u)

    keeps : (u : ℕ) (b : Bool) → behind.bound u ≡ b → behind.bound u ≡ false → choose (behind.bound u) closed (Var u) ≡ Var u
    keeps u true e g = absurd (no_yes (sym g ∙ e))
    keeps u false e g = ap (λ b. choose b closed (Var u)) e

    -- it isn't the scheme's own, since that is closed
    is_other : (u : ℕ) (b : Bool) → behind.bound u ≡ b → occurs w (choose b closed (Var u)) ≡ true → (w ≡ u) × (b ≡ false)
    is_other u true e k = absurd (no_yes k)
    is_other u false e k = (eqb-true w u k, refl)

    by : (b : Bool) → free_in_scheme w behind ≡ b → free_in_scheme w behind ≡ true
    by true e = e
    by false e =
        let i = h.each (apply q behind.body) (q, λ u g. keeps u (behind.bound u) refl g, refl) in
        let put : occurs w (apply i.0 sc.body) ≡ true = occurs_put i.0 v w sc.body (and_cases (occurs v sc.body) (not (sc.bound v)) f).0 (ap (occurs w) (i.1 v f) ∙ o) in
        let from = occurs_from q w behind.body (ap (occurs w) i.2 ∙ put) in
        let at = is_other from.0 (behind.bound from.0) refl from.2 in
        let inside : occurs w behind.body ≡ true = subst (λ u. occurs u behind.body ≡ true) (sym at.0) from.1 in
        let kept : behind.bound w ≡ false = ap behind.bound at.0 ∙ at.1 in
        absurd (no_yes (sym kept ∙ own_where_bound behind w inside e))

-- a free variable isn't the scheme's own
free_is_not_own : (sc : Scheme) (w : ℕ) → free_in_scheme w sc ≡ true → sc.bound w ≡ false
free_is_not_own sc w f = by (sc.bound w) refl
  where
    by : (b : Bool) → sc.bound w ≡ b → sc.bound w ≡ false
    by false e = e
    by true e = absurd (no_yes (sym (ap not e) ∙ (and_cases (occurs w sc.body) (not (sc.bound w)) f).1))

-- and each free variable comes from one
pub scheme_from : (s : Subst) (sc behind : Scheme) → IsSchemeUnder s sc behind → (w : ℕ) → free_in_scheme w behind ≡ true → ComesFrom s w (λ v. free_in_scheme v sc)
scheme_from s sc behind h w f =
    let r : Subst = λ v. choose (free_in_scheme v sc) (s v) closed in
    let i = h.all (apply r sc.body) (r, λ v g. ap (λ b. choose b (s v) closed) g, refl) in
    let stands : occurs w (i.0 w) ≡ true = ap (occurs w) (i.1 w (free_is_not_own behind w f)) ∙ eqb_same w in
    let put : occurs w (apply i.0 behind.body) ≡ true = occurs_put i.0 w w behind.body (and_cases (occurs w behind.body) (not (behind.bound w)) f).0 stands in
    let from = occurs_from r w sc.body (ap (occurs w) i.2 ∙ put) in
    from_free from.0 (free_in_scheme from.0 sc) refl from.2
  where
    from_free : (v : ℕ) (b : Bool) → free_in_scheme v sc ≡ b → occurs w (choose b (s v) closed) ≡ true → ComesFrom s w (λ v. free_in_scheme v sc)
    from_free v true e k = (v, e, k)
    from_free v false e k = absurd (no_yes k)

-- the same in signatures
mutual
  pub signature_brings : (s : Subst) {A B : Signature} → IsSignatureUnder s A B → (v w : ℕ) → free_in_signature v A ≡ true → occurs w (s v) ≡ true → free_in_signature w B ≡ true
  signature_brings s of_hole v w f o = absurd (no_yes f)
  signature_brings s (of_structure h) v w f o = components_bring s h v w f o
  signature_brings s (of_functor {P = P} {Q = Q} {B = B} {C = C} h k) v w f o =
      elim (or_cases (free_in_signature v P) (free_in_signature v B) f) [
        | inl i ↦ or_left (free_in_signature w Q) (free_in_signature w C) (signature_brings s h v w i o)
        | inr i ↦ or_right (free_in_signature w Q) (free_in_signature w C) (signature_brings s k v w i o)
      ]

  pub components_bring : (s : Subst) {A B : Components} → AreUnder s A B → (v w : ℕ) → free_in_components v A ≡ true → occurs w (s v) ≡ true → free_in_components w B ≡ true
  components_bring s no_components v w f o = absurd (no_yes f)
  components_bring s (component {m = m} {k = k} {A = A} {B = B} h g) v w f o =
      elim (or_cases (free_in_meaning v m) (free_in_components v A) f) [
        | inl i ↦ or_left (free_in_meaning w k) (free_in_components w B) (meaning_brings s h v w i o)
        | inr i ↦ or_right (free_in_meaning w k) (free_in_components w B) (components_bring s g v w i o)
      ]

  pub meaning_brings : (s : Subst) {m k : Meaning} → IsMeaningUnder s m k → (v w : ℕ) → free_in_meaning v m ≡ true → occurs w (s v) ≡ true → free_in_meaning w k ≡ true
  meaning_brings s (of_value {before = a} {behind = b} h) v w f o = scheme_brings s a b h v w f o
  meaning_brings s of_type v w f o = absurd (no_yes f)
  meaning_brings s of_exception v w f o = absurd (no_yes f)
  meaning_brings s (of_module h) v w f o = signature_brings s h v w f o
  meaning_brings s of_module_type v w f o = absurd (no_yes f)

mutual
  pub signature_from : (s : Subst) {A B : Signature} → IsSignatureUnder s A B → (w : ℕ) → free_in_signature w B ≡ true → ComesFrom s w (λ v. free_in_signature v A)
  signature_from s of_hole w f = absurd (no_yes f)
  signature_from s (of_structure h) w f = components_from s h w f
  signature_from s (of_functor {P = P} {Q = Q} {B = B} {C = C} h k) w f =
      elim (or_cases (free_in_signature w Q) (free_in_signature w C) f) [
        | inl i ↦ let (v, p, q) = signature_from s h w i in (v, or_left (free_in_signature v P) (free_in_signature v B) p, q)
        | inr i ↦ let (v, p, q) = signature_from s k w i in (v, or_right (free_in_signature v P) (free_in_signature v B) p, q)
      ]

  pub components_from : (s : Subst) {A B : Components} → AreUnder s A B → (w : ℕ) → free_in_components w B ≡ true → ComesFrom s w (λ v. free_in_components v A)
  components_from s no_components w f = absurd (no_yes f)
  components_from s (component {m = m} {k = k} {A = A} {B = B} h g) w f =
      elim (or_cases (free_in_meaning w k) (free_in_components w B) f) [
        | inl i ↦ let (v, p, q) = meaning_from s h w i in (v, or_left (free_in_meaning v m) (free_in_components v A) p, q)
        | inr i ↦ let (v, p, q) = components_from s g w i in (v, or_right (free_in_meaning v m) (free_in_components v A) p, q)
      ]

  pub meaning_from : (s : Subst) {m k : Meaning} → IsMeaningUnder s m k → (w : ℕ) → free_in_meaning w k ≡ true → ComesFrom s w (λ v. free_in_meaning v m)
  meaning_from s (of_value {before = a} {behind = b} h) w f = scheme_from s a b h w f
  meaning_from s of_type w f = absurd (no_yes f)
  meaning_from s of_exception w f = absurd (no_yes f)
  meaning_from s (of_module h) w f = signature_from s h w f
  meaning_from s of_module_type w f = absurd (no_yes f)

-- and in environments
pub referent_brings : (s : Subst) {r q : Referent} → IsReferentUnder s r q → (v w : ℕ) → free_in_referent v r ≡ true → occurs w (s v) ≡ true → free_in_referent w q ≡ true
referent_brings s (value {before = a} {behind = b} h) v w f o = scheme_brings s a b h v w f o
referent_brings s constructor v w f o = absurd (no_yes f)
referent_brings s exception v w f o = absurd (no_yes f)
referent_brings s label v w f o = absurd (no_yes f)
referent_brings s type_name v w f o = absurd (no_yes f)
referent_brings s (module_name h) v w f o = signature_brings s h v w f o
referent_brings s module_type v w f o = absurd (no_yes f)

pub environment_brings : (s : Subst) {E F : Environment} → IsUnder s E F → (v w : ℕ) → free_in v E ≡ true → occurs w (s v) ≡ true → free_in w F ≡ true
environment_brings s no_names v w f o = absurd (no_yes f)
environment_brings s (newest {r = r} {q = q} {E = E} {F = F} h g) v w f o =
    elim (or_cases (free_in_referent v r) (free_in v E) f) [
      | inl i ↦ or_left (free_in_referent w q) (free_in w F) (referent_brings s h v w i o)
      | inr i ↦ or_right (free_in_referent w q) (free_in w F) (environment_brings s g v w i o)
    ]

pub referent_from : (s : Subst) {r q : Referent} → IsReferentUnder s r q → (w : ℕ) → free_in_referent w q ≡ true → ComesFrom s w (λ v. free_in_referent v r)
referent_from s (value {before = a} {behind = b} h) w f = scheme_from s a b h w f
referent_from s constructor w f = absurd (no_yes f)
referent_from s exception w f = absurd (no_yes f)
referent_from s label w f = absurd (no_yes f)
referent_from s type_name w f = absurd (no_yes f)
referent_from s (module_name h) w f = signature_from s h w f
referent_from s module_type w f = absurd (no_yes f)

pub environment_from : (s : Subst) {E F : Environment} → IsUnder s E F → (w : ℕ) → free_in w F ≡ true → ComesFrom s w (λ v. free_in v E)
environment_from s no_names w f = absurd (no_yes f)
environment_from s (newest {r = r} {q = q} {E = E} {F = F} h g) w f =
    elim (or_cases (free_in_referent w q) (free_in w F) f) [
      | inl i ↦ let (v, p, q) = referent_from s h w i in (v, or_left (free_in_referent v r) (free_in v E) p, q)
      | inr i ↦ let (v, p, q) = environment_from s g w i in (v, or_right (free_in_referent v r) (free_in v E) p, q)
    ]

-- a body that leaves nothing open leaves nothing open behind a substitution
pub stays_closed : (s : Subst) (env behind : Environment) (body after : Signature) → IsUnder s env behind → IsSignatureUnder s body after → IsClosed env body → IsClosed behind after
stays_closed s env behind body after u h c = record { each = λ w f. let from = signature_from s h w f in environment_brings s u from.0 w (c.each from.0 from.1) from.2 }
