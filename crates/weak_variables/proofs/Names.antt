-- The names of the code against those of the definitions: what is free in the types of values.
use Rattle.std.proofs.Common.{◌≡◌, ◌∙◌, ◌⊎◌, inl, inr, ℕ, suc, true, List, [], ◌∷◌, ◌++◌, length, length-append, refl, sym, ap, subst, arith, Option}
use Rattle.type_model.specs.Types.{Typ, occurs}
use Rattle.type_model.specs.Schemes.{Scheme, free_in_scheme}
use Rattle.type_model.proofs.Applying.{or_cases, or_left, or_right, eqb_same}
use Rattle.signature_model.specs.Declarations as rules
use Rattle.signature_model.specs.Entries.{Environment, Referent, a_value, free_in, free_in_referent}
use Rattle.type_terms.specs.declared.types.NodeRef.{NodeRef}
use Rattle.type_nodes.specs.Nodes.{Node}
use Rattle.type_nodes.specs.Readings.{Types}
use Rattle.env_table.specs.declared.entries.Constructor.{Constructor}
use Rattle.env_table.specs.declared.entries.Declaration.{Declaration}
use Rattle.env_table.specs.declared.entries.Entry.{Entry}
use Rattle.env_table.specs.declared.entries.What.{What}
use Rattle.env_table.specs.declared.entries.What.TheVariants as what
use Rattle.typing_conditions.specs.Locals.{IsOwn}
use Rattle.typing_conditions.specs.Assumptions.{SchemeReads}
use Rattle.typing_conditions.specs.Standing.{IsIn}
use Rattle.typing_conditions.specs.Environments.{WhatAs, of_value, of_constructor, of_exception, of_label, of_type, of_module, of_module_type, entry_as, EnvAs, no_names, newest}
use Rattle.weak_variables.specs.Over.{AreValues}
use Rattle.weak_variables.specs.Free.{IsFreeIn, IsRoot, AreAllValues}
use Rattle.weak_variables.proofs.Standing.{free_of_var, occurs_free}

module _ {R : ℕ → Scheme → Type 0} {D : Declaration → rules.Declaration → Type 0} {X : Constructor → Option Typ → Type 0} where
  pub same_length : {es : List Entry} {E : Environment} → EnvAs R D X es E → length es ≡ length E
  same_length no_names = refl
  same_length (newest h rest) = ap suc (same_length rest)

  -- the names in front of as many stand for those in front
  pub front_as : (names env : List Entry) (values first : Environment) → length env ≡ length first → EnvAs R D X (names ++ env) (values ++ first) → EnvAs R D X names values
  front_as [] env [] first same are = no_names
  front_as [] env (f ∷ values) first same are = absurd (let n : length env ≡ length ((f ∷ values) ++ first) = same_length are in let m = length-append values first in omega arith)
  front_as (e ∷ names) env [] first same are = absurd (let n : length ((e ∷ names) ++ env) ≡ length first = same_length are in let m = length-append names env in omega arith)
  front_as (e ∷ names) env (f ∷ values) first same (newest h rest) = newest h (front_as names env values first same rest)

  -- what stands for a value is one
  value_as : {w : What} {r : Referent} (sc : Scheme) → WhatAs R D X w r → r ≡ a_value sc → (m : NodeRef) × (w ≡ what.Scheme m) × R m.0 sc
  value_as sc (of_value {n = m} {sc = s} is h) e = let same : s ≡ sc = cc in (m, is, subst (R m.0) same h)
  value_as sc (of_constructor is h k) e = absurd (cc)
  value_as sc (of_exception is h) e = absurd (cc)
  value_as sc (of_label is h k) e = absurd (cc)
  value_as sc (of_type is h) e = absurd (cc)
  value_as sc (of_module is h) e = absurd (cc)
  value_as sc (of_module_type is h) e = absurd (cc)

  -- a value's root stands for a scheme
  root_as : {w : What} {r : Referent} (m : NodeRef) → WhatAs R D X w r → w ≡ what.Scheme m → (sc : Scheme) × (r ≡ a_value sc) × R m.0 sc
  root_as m (of_value {n = n} {sc = sc} is h) e = let same : n ≡ m = let z : what.Scheme n ≡ what.Scheme m = sym is ∙ e in cc in (sc, refl, subst (λ (x : NodeRef). R x.0 sc) same h)
  root_as m (of_constructor {d = d} {place = k} is h c) e = absurd (let z : what.Constructor d k ≡ what.Scheme m = sym is ∙ e in cc)
  root_as m (of_exception {c = c} is h) e = absurd (let z : what.Exception c ≡ what.Scheme m = sym is ∙ e in cc)
  root_as m (of_label {d = d} {place = k} is h c) e = absurd (let z : what.Label d k ≡ what.Scheme m = sym is ∙ e in cc)
  root_as m (of_type {d = d} is h) e = absurd (let z : what.Type d ≡ what.Scheme m = sym is ∙ e in cc)
  root_as m (of_module {s = s} is h) e = absurd (let z : what.Module s ≡ what.Scheme m = sym is ∙ e in cc)
  root_as m (of_module_type {t = t} is h) e = absurd (let z : what.ModuleType t ≡ what.Scheme m = sym is ∙ e in cc)

  -- what stands for values are values
  pub values_as : (names : List Entry) (values : Environment) → AreValues values → EnvAs R D X names values → AreAllValues names
  values_as [] [] are h = tt
  values_as [] (f ∷ fs) are h = absurd (let n : length {A = Entry} [] ≡ length (f ∷ fs) = same_length h in cc)
  values_as (e ∷ es) [] are h = absurd (let n : length (e ∷ es) ≡ 0 = same_length h in cc)
  values_as (e ∷ es) (f ∷ fs) ((sc, is), are) (newest (entry_as named kind p h) rest) = let (m, here, r) = value_as sc h is in ((m, here), values_as es fs are rest)

-- the roots of names are among some nodes
pub root_covered : (C : List ℕ) {D : Declaration → rules.Declaration → Type 0} {X : Constructor → Option Typ → Type 0} (es : List Entry) (E : Environment) → EnvAs (λ r sc. IsIn C r) D X es E → (n : ℕ) → IsRoot es n → IsIn C n
root_covered C es E no_names n r = absurd r
root_covered C (e ∷ es) (f ∷ fs) (newest (entry_as named kind p h) rest) n (inl (m, is, same)) = let (sc, value, at) = root_as m h is in subst (IsIn C) same at
root_covered C (e ∷ es) (f ∷ fs) (newest (entry_as named kind p h) rest) n (inr r) = root_covered C es fs rest n r

-- roots of names, and of others after them
pub root_cases : (xs ys : List Entry) (n : ℕ) → IsRoot (xs ++ ys) n → IsRoot xs n ⊎ IsRoot ys n
root_cases [] ys n r = inr r
root_cases (x ∷ xs) ys n (inl h) = inl (inl h)
root_cases (x ∷ xs) ys n (inr h) = elim (root_cases xs ys n h) [ inl r ↦ inl (inr r) | inr r ↦ inr r ]

pub root_left : (xs ys : List Entry) (n : ℕ) → IsRoot xs n → IsRoot (xs ++ ys) n
root_left [] ys n r = absurd r
root_left (x ∷ xs) ys n (inl h) = inl h
root_left (x ∷ xs) ys n (inr h) = inr (root_left xs ys n h)

pub root_right : (xs ys : List Entry) (n : ℕ) → IsRoot ys n → IsRoot (xs ++ ys) n
root_right [] ys n r = r
root_right (x ∷ xs) ys n r = inr (root_right xs ys n r)

pub values_split : (xs ys : List Entry) → AreAllValues (xs ++ ys) → AreAllValues xs × AreAllValues ys
values_split [] ys are = (tt, are)
values_split (x ∷ xs) ys are = let r = values_split xs ys are.1 in ((are.0, r.0), r.1)

module _ (nodes : List Node) (J : Types) (own : IsOwn nodes J) where
  -- what is free in a scheme is free in the type of its root
  scheme_free : (r v : ℕ) (sc : Scheme) → SchemeReads nodes J r sc → free_in_scheme v sc ≡ true → IsFreeIn nodes r v
  scheme_free r v sc reads is =
      let o = reads.only v is in
      let inside = reads.free.inside in
      occurs_free nodes J own r v inside (free_of_var nodes v (own.only r v inside o) (λ b. absurd (let z = reads.none v b in cc))) o

  -- and the other way
  free_scheme : (r v : ℕ) (sc : Scheme) → SchemeReads nodes J r sc → IsFreeIn nodes r v → free_in_scheme v sc ≡ true
  free_scheme r v sc reads f = reads.free.each v v f.var f.stands (ap (occurs v) (own.vars v f.var.level f.var.scope f.var.at) ∙ eqb_same v)

  module _ (roots : List ℕ) {D : Declaration → rules.Declaration → Type 0} {X : Constructor → Option Typ → Type 0} where
    -- What is free in values is free in the type of one of the names that stand for them.
    pub free_there : (names : List Entry) (values : Environment) → AreValues values → EnvAs (λ r sc. SchemeReads nodes J r sc × IsIn roots r) D X names values → (v : ℕ) → free_in v values ≡ true → (n : ℕ) × IsRoot names n × IsFreeIn nodes n v
    free_there names [] are h v is = absurd (cc)
    free_there [] (f ∷ fs) are h v is = absurd (let n : length {A = Entry} [] ≡ length (f ∷ fs) = same_length h in cc)
    free_there (e ∷ es) (f ∷ fs) ((sc, value), are) (newest (entry_as named kind p h) rest) v is = elim (or_cases (free_in_referent v f.stands_for) (free_in v fs) is) [
      | inl here ↦ let (m, scheme, reads) = value_as sc h value in (m.0, inl (m, scheme, refl), scheme_free m.0 v sc reads.0 (sym (ap (free_in_referent v) value) ∙ here))
      | inr later ↦ let (n, r, free) = free_there es fs are rest v later in (n, inr r, free)
    ]

    -- And what is free in the type of one of the names is free in what it stands for.
    pub there_free : (names : List Entry) (values : Environment) → EnvAs (λ r sc. SchemeReads nodes J r sc × IsIn roots r) D X names values → (n v : ℕ) → IsRoot names n → IsFreeIn nodes n v → free_in v values ≡ true
    there_free names values no_names n v r f = absurd r
    there_free (e ∷ es) (g ∷ gs) (newest (entry_as named kind p h) rest) n v (inl (m, scheme, same)) f =
        let (sc, value, reads) = root_as m h scheme in
        or_left (free_in_referent v g.stands_for) (free_in v gs) (ap (free_in_referent v) value ∙ free_scheme m.0 v sc reads.0 (subst (λ k. IsFreeIn nodes k v) (sym same) f))
    there_free (e ∷ es) (g ∷ gs) (newest (entry_as named kind p h) rest) n v (inr r) f = or_right (free_in_referent v g.stands_for) (free_in v gs) (there_free es gs rest n v r f)
