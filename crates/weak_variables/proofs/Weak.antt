-- The variables that were found are those that are free in the environment of the definitions.
use Rattle.std.proofs.Common.{◌≡◌, ◌∙◌, ◌⊎◌, inl, inr, ℕ, zero, suc, Bool, true, false, ◌==◌, List, [], ◌∷◌, ◌++◌, length, Option, Some, refl, sym, ap, subst}
use Rattle.std.proofs.lemmas.Bool.{eqb-true, eq-eqb}
use Rattle.type_model.specs.Types.{Typ}
use Rattle.type_model.proofs.Applying.{or_cases, or_left, or_right}
use Rattle.signature_model.specs.Declarations as rules
use Rattle.signature_model.specs.Entries.{Environment, free_in, free_in_referent}
use Rattle.type_print_model.specs.Variables.{is_among}
use Rattle.type_nodes.specs.Nodes.{Node}
use Rattle.type_nodes.specs.Readings.{Types}
use Rattle.env_table.specs.declared.entries.Constructor.{Constructor}
use Rattle.env_table.specs.declared.entries.Declaration.{Declaration}
use Rattle.env_table.specs.declared.entries.Entry.{Entry}
use Rattle.typing_conditions.specs.Locals.{IsOwn}
use Rattle.typing_conditions.specs.Assumptions.{SchemeReads}
use Rattle.typing_conditions.specs.Standing.{IsIn}
use Rattle.typing_conditions.specs.Environments.{EnvAs}
use Rattle.weak_variables.specs.Over.{IsOver}
use Rattle.weak_variables.specs.Free.{IsFound, FreeOf}
use Rattle.weak_variables.specs.Listed.{IsListed}
use Rattle.weak_variables.proofs.Names.{front_as, values_as, free_there, there_free}

pub among_in : (vs : List ℕ) (v : ℕ) → is_among v vs ≡ true → IsIn vs v
among_in [] v h = absurd (cc)
among_in (w ∷ ws) v h = elim (or_cases (v == w) (is_among v ws) h) [ inl e ↦ (zero, let same = eqb-true v w e in ap Some (sym same)) | inr later ↦ let (k, at) = among_in ws v later in (suc k, at) ]

pub in_among : (vs : List ℕ) (v : ℕ) → IsIn vs v → is_among v vs ≡ true
in_among [] v (k, at) = absurd (cc)
in_among (w ∷ ws) v (zero, at) = or_left (v == w) (is_among v ws) (eq-eqb v w (let same : w ≡ v = cc in sym same))
in_among (w ∷ ws) v (suc k, at) = or_right (v == w) (is_among v ws) (in_among ws v (k, at))

-- a variable that is free in an environment is so in one with others in front
free_after : (v : ℕ) (xs ys : Environment) → free_in v (xs ++ ys) ≡ true → (free_in v xs ≡ true) ⊎ (free_in v ys ≡ true)
free_after v [] ys h = inr h
free_after v (x ∷ xs) ys h = elim (or_cases (free_in_referent v x.stands_for) (free_in v (xs ++ ys)) h) [
  | inl here ↦ inl (or_left (free_in_referent v x.stands_for) (free_in v xs) here)
  | inr later ↦ elim (free_after v xs ys later) [ inl l ↦ inl (or_right (free_in_referent v x.stands_for) (free_in v xs) l) | inr r ↦ inr r ]
]

free_front : (v : ℕ) (xs ys : Environment) → free_in v xs ≡ true → free_in v (xs ++ ys) ≡ true
free_front v [] ys h = absurd (cc)
free_front v (x ∷ xs) ys h = elim (or_cases (free_in_referent v x.stands_for) (free_in v xs) h) [
  | inl here ↦ or_left (free_in_referent v x.stands_for) (free_in v (xs ++ ys)) here
  | inr later ↦ or_right (free_in_referent v x.stands_for) (free_in v (xs ++ ys)) (free_front v xs ys later)
]

alike : (a b : Bool) → (a ≡ true → b ≡ true) → (b ≡ true → a ≡ true) → a ≡ b
alike true true f g = refl
alike true false f g = sym (f refl)
alike false true f g = g refl
alike false false f g = refl

-- the names after those of before stand for the values in front
names_as : (nodes : List Node) (J : Types) (roots : List ℕ) {D : Declaration → rules.Declaration → Type 0} {X : Constructor → Option Typ → Type 0} (now env names : List Entry) (E first values : Environment) →
    EnvAs (λ r sc. SchemeReads nodes J r sc × IsIn roots r) D X now E → E ≡ values ++ first → length env ≡ length first → now ≡ names ++ env → EnvAs (λ r sc. SchemeReads nodes J r sc × IsIn roots r) D X names values
names_as nodes J roots {D} {X} now env names E first values stands is long scope =
    front_as names env values first long
    (subst (λ es. EnvAs (λ r sc. SchemeReads nodes J r sc × IsIn roots r) D X es (values ++ first)) scope (subst (EnvAs (λ r sc. SchemeReads nodes J r sc × IsIn roots r) D X now) is stands))

-- So it is where the names of the code stand for an environment that has values in front of one in which nothing is free.
pub are_weak : (nodes : List Node) (J : Types) → IsOwn nodes J → (roots : List ℕ) {D : Declaration → rules.Declaration → Type 0} {X : Constructor → Option Typ → Type 0} (now env : List Entry) (E first : Environment) →
    EnvAs (λ r sc. SchemeReads nodes J r sc × IsIn roots r) D X now E → IsOver first E → ((v : ℕ) → free_in v first ≡ false) → length env ≡ length first → (free : List (List ℕ)) → IsListed nodes env now free → (weak : List ℕ) → FreeOf nodes (IsFound free) weak →
    (v : ℕ) → is_among v weak ≡ free_in v E
are_weak nodes J own roots {D} {X} now env E first stands over closed long free listed weak of v = by (names_as nodes J roots now env listed.names E first over.values stands over.is long listed.scope)
  where
    by : EnvAs (λ r sc. SchemeReads nodes J r sc × IsIn roots r) D X listed.names over.values → is_among v weak ≡ free_in v E
    by names = alike (is_among v weak) (free_in v E)
        (λ h.
        let (u, found, f) = of.only v (among_in weak v h) in
        let (n, r, g) = (listed.same (values_as listed.names over.values over.are_values names)).back u v found f in
        ap (free_in v) over.is ∙ free_front v over.values first (there_free nodes J own roots listed.names over.values names n v r g))
        (λ h. elim (free_after v over.values first (sym (ap (free_in v) over.is) ∙ h)) [
          | inl here ↦
              let (n, r, g) = free_there nodes J own roots listed.names over.values over.are_values names v here in
              let (u, found, f) = (listed.same (values_as listed.names over.values over.are_values names)).there n v r g in
              in_among weak v (of.all u v found f)
          | inr there ↦ absurd (let none = closed v in cc)
        ])
