-- Each environment has one under each substitution: the schemes' own variables are moved behind those that are put in.
use Rattle.std.proofs.Common.{◌≡◌, ℕ, suc, ◌+◌, ◌-◌, ◌<◌, nat_le, Bool, true, false, not, [], ◌∷◌, refl, sym, ◌∙◌, ap, arith, inl, inr}
use Rattle.std.proofs.lemmas.Bool.{eqb-true}
use Rattle.type_model.specs.Types.{Typ, Typs, Var, Arrow, Tuple, Con, Nil, Cons, occurs, occurs_any}
use Rattle.type_model.specs.Substitutions.{Subst, apply, after}
use Rattle.type_model.specs.Schemes.{Scheme, free_in_scheme}
use Rattle.type_model.proofs.Applying.{or_cases, apply_agree, apply-apply, apply_leaves, occurs_put}
use Rattle.type_model.proofs.Generalising.{choose}
use Rattle.signature_model.specs.Signatures.{Signature, Hole, Structure, Functor, Components, Done, Component, Meaning, Value, TypeName, Exception, Module, ModuleType}
use Rattle.signature_model.specs.Entries.{Referent, a_value, a_constructor, an_exception, a_label, a_type, a_module, a_module_type, entry, Environment}
use Rattle.typing_laws.specs.Under.{IsSchemeUnder, IsSignatureUnder, of_hole, of_structure, of_functor, AreUnder, no_components, component, IsMeaningUnder, of_value, of_type, of_exception, of_module, of_module_type, IsReferentUnder, value, constructor, exception, label, type_name, module_name, module_type, IsUnder, no_names, newest}
use Rattle.typing_laws.proofs.Bools.{and_cases, and_both, no_yes}

-- a number behind all variables of a type
abbrev mutual
  behind : Typ → ℕ
  behind (Var v) = suc v
  behind (Arrow a b) = behind a + behind b
  behind (Tuple ts) = behind_all ts
  behind (Con o ts) = behind_all ts

  behind_all : Typs → ℕ
  behind_all Nil = 0
  behind_all (Cons t ts) = behind t + behind_all ts

mutual
  is_before : (v : ℕ) (t : Typ) → occurs v t ≡ true → v < behind t
  is_before v (Var w) o = let e = eqb-true v w o in omega arith
  is_before v (Arrow a b) o =
      elim (or_cases (occurs v a) (occurs v b) o) [ inl i ↦ let p = is_before v a i in omega arith | inr i ↦ let p = is_before v b i in omega arith ]
  is_before v (Tuple ts) o = is_before_all v ts o
  is_before v (Con p ts) o = is_before_all v ts o

  is_before_all : (v : ℕ) (ts : Typs) → occurs_any v ts ≡ true → v < behind_all ts
  is_before_all v Nil o = absurd (no_yes o)
  is_before_all v (Cons t ts) o =
      elim (or_cases (occurs v t) (occurs_any v ts) o) [ inl i ↦ let p = is_before v t i in omega arith | inr i ↦ let p = is_before_all v ts i in omega arith ]

-- a scheme's own variables moved behind those of s of the body
abbrev moved : Subst → Scheme → Subst
moved s sc v = choose (sc.bound v) (Var (v + behind (apply s sc.body))) (s v)

-- s of a scheme
abbrev pub scheme_under : Subst → Scheme → Scheme
scheme_under s sc = record { body = apply (moved s sc) sc.body; bound = λ v. nat_le (behind (apply s sc.body)) v }

below : (n v : ℕ) → v < n → nat_le n v ≡ false
below n v h = grind arith

above : (n v : ℕ) → nat_le n (v + n) ≡ true
above n v = grind arith

back : (n v : ℕ) → (v + n) - n ≡ v
back n v = omega arith

pub scheme_exists : (s : Subst) (sc : Scheme) → IsSchemeUnder s sc (scheme_under s sc)
scheme_exists s sc = record {
  each = λ x (p, fixes, e). (after p (moved s sc), λ v f. keeps p fixes v f, e ∙ apply-apply p (moved s sc) sc.body);
  all = λ x (r, agrees, e).
      let n : ℕ = behind (apply s sc.body) in
      let p : Subst = λ w. choose (nat_le n w) (r (w - n)) (Var w) in
      (p, λ w f. ap (λ b. choose b (r (w - n)) (Var w)) f, e ∙ sym (apply-apply p (moved s sc) sc.body ∙ apply_agree (after p (moved s sc)) r sc.body (λ v o. puts r agrees v o (sc.bound v) refl)));
}
  where
    -- what is put in for a free variable has variables that aren't the new scheme's own
    is_below : (v w : ℕ) → occurs v sc.body ≡ true → occurs w (s v) ≡ true → nat_le (behind (apply s sc.body)) w ≡ false
    is_below v w o k = below (behind (apply s sc.body)) w (is_before w (apply s sc.body) (occurs_put s v w sc.body o k))

    keeps : (p : Subst) → ((w : ℕ) → nat_le (behind (apply s sc.body)) w ≡ false → p w ≡ Var w) → (v : ℕ) → free_in_scheme v sc ≡ true → apply p (moved s sc v) ≡ s v
    keeps p fixes v f = by (occurs v sc.body) (sc.bound v) refl refl
      where
        by : (a b : Bool) → occurs v sc.body ≡ a → sc.bound v ≡ b → apply p (moved s sc v) ≡ s v
        by true false o e = ap (λ c. apply p (choose c (Var (v + behind (apply s sc.body))) (s v))) e ∙ apply_leaves p (s v) (λ w k. fixes w (is_below v w o k))
        by true true o e = absurd (no_yes (sym (ap not e) ∙ (and_cases (occurs v sc.body) (not (sc.bound v)) f).1))
        by false b o e = absurd (no_yes (sym o ∙ (and_cases (occurs v sc.body) (not (sc.bound v)) f).0))

    puts : (r : Subst) → ((v : ℕ) → free_in_scheme v sc ≡ true → r v ≡ s v) → (v : ℕ) → occurs v sc.body ≡ true → (b : Bool) → sc.bound v ≡ b →
        apply (λ w. choose (nat_le (behind (apply s sc.body)) w) (r (w - behind (apply s sc.body))) (Var w)) (moved s sc v) ≡ r v
    puts r agrees v o true e =
        let n : ℕ = behind (apply s sc.body) in
        ap (λ c. apply (λ w. choose (nat_le n w) (r (w - n)) (Var w)) (choose c (Var (v + n)) (s v))) e ∙ ap (λ c. choose c (r ((v + n) - n)) (Var (v + n))) (above n v) ∙ ap r (back n v)
    puts r agrees v o false e =
        let n : ℕ = behind (apply s sc.body) in
        ap (λ c. apply (λ w. choose (nat_le n w) (r (w - n)) (Var w)) (choose c (Var (v + n)) (s v))) e ∙
        apply_leaves (λ w. choose (nat_le n w) (r (w - n)) (Var w)) (s v) (λ w k. ap (λ c. choose c (r (w - n)) (Var w)) (is_below v w o k)) ∙
        sym (agrees v (and_both (occurs v sc.body) (not (sc.bound v)) o (ap not e)))

-- s of a signature, and of an environment
abbrev mutual
  pub signature_under : Subst → Signature → Signature
  signature_under s Hole = Hole
  signature_under s (Structure cs) = Structure (components_under s cs)
  signature_under s (Functor pm p bm b) = Functor pm (signature_under s p) bm (signature_under s b)

  pub components_under : Subst → Components → Components
  components_under s Done = Done
  components_under s (Component n at m cs) = Component n at (meaning_under s m) (components_under s cs)

  pub meaning_under : Subst → Meaning → Meaning
  meaning_under s (Value sc) = Value (scheme_under s sc)
  meaning_under s (TypeName d) = TypeName d
  meaning_under s (Exception o) = Exception o
  meaning_under s (Module S) = Module (signature_under s S)
  meaning_under s (ModuleType made S) = ModuleType made S

abbrev pub referent_under : Subst → Referent → Referent
referent_under s (a_value sc) = a_value (scheme_under s sc)
referent_under s (a_constructor d k) = a_constructor d k
referent_under s (an_exception o) = an_exception o
referent_under s (a_label d l) = a_label d l
referent_under s (a_type d) = a_type d
referent_under s (a_module S) = a_module (signature_under s S)
referent_under s (a_module_type t) = a_module_type t

abbrev pub under : Subst → Environment → Environment
under s [] = []
under s (e ∷ env) = entry e.name e.place (referent_under s e.stands_for) ∷ under s env

mutual
  pub signature_exists : (s : Subst) (A : Signature) → IsSignatureUnder s A (signature_under s A)
  signature_exists s Hole = of_hole
  signature_exists s (Structure cs) = of_structure (components_exist s cs)
  signature_exists s (Functor pm p bm b) = of_functor (signature_exists s p) (signature_exists s b)

  pub components_exist : (s : Subst) (A : Components) → AreUnder s A (components_under s A)
  components_exist s Done = no_components
  components_exist s (Component n at m cs) = component (meaning_exists s m) (components_exist s cs)

  pub meaning_exists : (s : Subst) (m : Meaning) → IsMeaningUnder s m (meaning_under s m)
  meaning_exists s (Value sc) = of_value (scheme_exists s sc)
  meaning_exists s (TypeName d) = of_type
  meaning_exists s (Exception o) = of_exception
  meaning_exists s (Module S) = of_module (signature_exists s S)
  meaning_exists s (ModuleType made S) = of_module_type

referent_exists : (s : Subst) (r : Referent) → IsReferentUnder s r (referent_under s r)
referent_exists s (a_value sc) = value (scheme_exists s sc)
referent_exists s (a_constructor d k) = constructor
referent_exists s (an_exception o) = exception
referent_exists s (a_label d l) = label
referent_exists s (a_type d) = type_name
referent_exists s (a_module S) = module_name (signature_exists s S)
referent_exists s (a_module_type t) = module_type

-- each environment has one under each substitution
pub environment_exists : (s : Subst) (env : Environment) → IsUnder s env (under s env)
environment_exists s [] = no_names
environment_exists s (e ∷ env) = newest (referent_exists s e.stands_for) (environment_exists s env)
