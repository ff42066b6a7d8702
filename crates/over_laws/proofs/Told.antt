-- Environments with values and exceptions in front, and conditions that tell such environments alone.
use Rattle.std.proofs.Common.{◌≡◌, ◌∙◌, ℕ, zero, suc, ◌==◌, Bool, true, false, List, [], ◌∷◌, ◌++◌, Some, refl, ap, subst, if◌then◌else◌}
use Rattle.tree_model.specs.Trees.{Place}
use Rattle.type_model.specs.Types.{Typ}
use Rattle.type_model.specs.Schemes.{Scheme}
use Rattle.signature_model.specs.Declarations.{in_text}
use Rattle.signature_model.specs.Entries.{Environment, entry, a_value}
use Rattle.typing_model.specs.Typings.{conditions_before}
use Rattle.std.specs.Prelude.{slice_get}
use Rattle.typing_model.specs.Demands.{Site, same_site, Demand, Condition, same, instance, made, known, demand, treated, environment_of}
use Rattle.typing_model.specs.Contexts.{Context, Bound, under, type_at, ask, entries_with, with_names, monomorphic}
use Rattle.typed_model.specs.Over.{AreNoTypes, IsOver}
use Rattle.typed_model.specs.Shown.{IsToldTyped}

-- an environment is itself with nothing in front
pub over_itself : {env : Environment} → IsOver env env
over_itself = record { front = []; are_no_types = tt; is = refl }

-- such names in front of such names
values_all : (xs ys : Environment) → AreNoTypes xs → AreNoTypes ys → AreNoTypes (xs ++ ys)
values_all [] ys h g = g
values_all (x ∷ xs) ys h g = (h.0, values_all xs ys h.1 g)

-- what is in front of both
in_front : (xs ys zs : Environment) → xs ++ (ys ++ zs) ≡ (xs ++ ys) ++ zs
in_front [] ys zs = refl
in_front (x ∷ xs) ys zs = ap (λ es. x ∷ es) (in_front xs ys zs)

-- such names in front of one that has such in front
pub over_values : {env E : Environment} (values : Environment) → AreNoTypes values → IsOver env E → IsOver env (values ++ E)
over_values {env} values are h = record { front = values ++ h.front; are_no_types = values_all values h.front are h.are_no_types; is = ap (λ es. values ++ es) h.is ∙ in_front values h.front env }

-- names with schemes are no types
pub values_with : (scheme : Typ → Scheme) (c : Context) (bs : List Bound) (E : Environment) → AreNoTypes E → AreNoTypes (entries_with scheme c bs E)
values_with scheme c [] E h = h
values_with scheme c (b ∷ bs) E h = values_with scheme c bs (entry b.name (in_text b.place) (a_value (scheme (b.has_type c))) ∷ E) (tt, h)

-- names with schemes in front of one that has such names in front
names_in_front : {env E : Environment} (scheme : Typ → Scheme) (c : Context) (bs : List Bound) → IsOver env E → IsOver env (entries_with scheme c bs E)
names_in_front scheme c [] h = h
names_in_front {E = E} scheme c (b ∷ bs) h = names_in_front scheme c bs (over_values (entry b.name (in_text b.place) (a_value (scheme (b.has_type c))) ∷ []) (tt, tt) h)

-- an environment, and the types that are chosen for nodes
pub record Around : Type 0 where
  pub env : Environment
  pub types : ℕ → Typ

-- a context has values and exceptions in front of the environment, and these types
pub record IsIn (w : Around) (c : Context) : Type 0 where
  pub over : IsOver w.env c.env
  pub chosen : c.chosen.type_at ≡ w.types

-- a context with names in front
pub over_names : {w : Around} (scheme : Typ → Scheme) (c : Context) (bs : List Bound) → IsIn w c → IsIn w (under (entries_with scheme c bs c.env) c)
over_names scheme c bs o = record { over = names_in_front scheme c bs o.over; chosen = o.chosen }

-- and with values and exceptions
pub over_more : {w : Around} (c : Context) (values : Environment) → AreNoTypes values → IsIn w c → IsIn w (under (values ++ c.env) c)
over_more c values are o = record { over = over_values values are o.over; chosen = o.chosen }

-- the context of a part in which names of patterns are in scope
pub over_with : {w : Around} (c : Context) (bs : List Bound) → IsIn w c → IsIn w (with_names c bs)
over_with c bs o = over_names monomorphic c bs o

-- the type that is known directly after a node is treated is its own
abbrev pub OwnNext : Around → ℕ → List Condition → Type 0
OwnNext w n [] = Unit {0}
OwnNext w n (same t u ∷ cs) = Unit {0}
OwnNext w n (instance s t ∷ cs) = Unit {0}
OwnNext w n (made m t ∷ cs) = Unit {0}
OwnNext w n (known t ∷ cs) = t ≡ w.types n
OwnNext w n (demand s at d ∷ cs) = Unit {0}
OwnNext w n (treated m E ∷ cs) = Unit {0}

-- conditions don't begin with a type that is known
abbrev pub BeginsOther : List Condition → Type 0
BeginsOther [] = Unit {0}
BeginsOther (same t u ∷ cs) = Unit {0}
BeginsOther (instance s t ∷ cs) = Unit {0}
BeginsOther (made m t ∷ cs) = Unit {0}
BeginsOther (known t ∷ cs) = ⊥
BeginsOther (demand s at d ∷ cs) = Unit {0}
BeginsOther (treated m E ∷ cs) = Unit {0}

-- each environment that conditions tell has values and exceptions in front of this one, and where a type is known directly after a node is treated, it is the node's own
abbrev pub AllOver : Around → List Condition → Type 0
AllOver w [] = Unit {0}
AllOver w (same t u ∷ cs) = AllOver w cs
AllOver w (instance s t ∷ cs) = AllOver w cs
AllOver w (made n t ∷ cs) = AllOver w cs
AllOver w (known t ∷ cs) = AllOver w cs
AllOver w (demand s at d ∷ cs) = AllOver w cs
AllOver w (treated n E ∷ cs) = IsOver w.env E × OwnNext w n cs × AllOver w cs

-- conditions that tell such environments alone
pub record Told (w : Around) (cs : List Condition) : Type 0 where
  pub over : AllOver w cs
  pub first : BeginsOther cs

-- conditions by what each of them tells
pub silent : {w : Around} (cs : List Condition) → BeginsOther cs × AllOver w cs → Told w cs
silent cs h = record { over = h.1; first = h.0 }

-- no condition
pub nothing_told : {w : Around} → Told w []
nothing_told = record { over = tt; first = tt }

-- what is next in two lists, one after the other
own_next : (w : Around) (n : ℕ) (ys : List Condition) → BeginsOther ys → OwnNext w n ys
own_next w n [] h = tt
own_next w n (same t u ∷ cs) h = tt
own_next w n (instance s t ∷ cs) h = tt
own_next w n (made m t ∷ cs) h = tt
own_next w n (known t ∷ cs) h = absurd h
own_next w n (demand s at d ∷ cs) h = tt
own_next w n (treated m E ∷ cs) h = tt

own_then : (w : Around) (n : ℕ) (xs ys : List Condition) → OwnNext w n xs → BeginsOther ys → OwnNext w n (xs ++ ys)
own_then w n [] ys h g = own_next w n ys g
own_then w n (same t u ∷ cs) ys h g = tt
own_then w n (instance s t ∷ cs) ys h g = tt
own_then w n (made m t ∷ cs) ys h g = tt
own_then w n (known t ∷ cs) ys h g = h
own_then w n (demand s at d ∷ cs) ys h g = tt
own_then w n (treated m E ∷ cs) ys h g = tt

begins_then : (xs ys : List Condition) → BeginsOther xs → BeginsOther ys → BeginsOther (xs ++ ys)
begins_then [] ys h g = g
begins_then (same t u ∷ cs) ys h g = tt
begins_then (instance s t ∷ cs) ys h g = tt
begins_then (made m t ∷ cs) ys h g = tt
begins_then (known t ∷ cs) ys h g = absurd h
begins_then (demand s at d ∷ cs) ys h g = tt
begins_then (treated m E ∷ cs) ys h g = tt

-- what each of two lists tells
all_over : (w : Around) (xs ys : List Condition) → AllOver w xs → BeginsOther ys → AllOver w ys → AllOver w (xs ++ ys)
all_over w [] ys h f g = g
all_over w (same t u ∷ xs) ys h f g = all_over w xs ys h f g
all_over w (instance s t ∷ xs) ys h f g = all_over w xs ys h f g
all_over w (made n t ∷ xs) ys h f g = all_over w xs ys h f g
all_over w (known t ∷ xs) ys h f g = all_over w xs ys h f g
all_over w (demand s at d ∷ xs) ys h f g = all_over w xs ys h f g
all_over w (treated n E ∷ xs) ys h f g = (h.0, own_then w n xs ys h.1 f, all_over w xs ys h.2 f g)

-- conditions behind others
pub join : {w : Around} {xs ys : List Condition} → Told w xs → Told w ys → Told w (xs ++ ys)
join {w} {xs} {ys} h g = record { over = all_over w xs ys h.over g.first g.over; first = begins_then xs ys h.first g.first }

-- conditions behind others, which tell nothing
pub quiet : {w : Around} {xs : List Condition} (ys : List Condition) → BeginsOther ys × AllOver w ys → Told w xs → Told w (xs ++ ys)
quiet ys e h = join h (silent ys e)

-- one demand
pub asked : {w : Around} {n k : ℕ} {p : Place} {d : Demand} → Told w (ask n k p d)
asked = record { over = tt; first = tt }

-- a node is treated first
pub told : {w : Around} {c : Context} {i : ℕ} {cs : List Condition} → IsIn w c → Told w cs → Told w (treated i c.env ∷ cs)
told {w} {c} {i} {cs} o h = record { over = (o.over, own_next w i cs h.first, h.over); first = tt }

-- and its type is known
pub told_typed : {w : Around} {c : Context} {i : ℕ} {cs : List Condition} → IsIn w c → Told w cs → Told w (treated i c.env ∷ known (type_at c i) ∷ cs)
told_typed {w} {c} {i} {cs} o h = record { over = (o.over, ap (λ f. f i) o.chosen, h.over); first = tt }

-- the environment in which a node is treated is one of them
pub found_over : (w : Around) (n : ℕ) (E : Environment) (cs : List Condition) → AllOver w cs → environment_of n cs ≡ Some E → IsOver w.env E
found_over w n E [] h e = absurd (cc)
found_over w n E (same t u ∷ cs) h e = found_over w n E cs h e
found_over w n E (instance s t ∷ cs) h e = found_over w n E cs h e
found_over w n E (made m t ∷ cs) h e = found_over w n E cs h e
found_over w n E (known t ∷ cs) h e = found_over w n E cs h e
found_over w n E (demand s at d ∷ cs) h e = found_over w n E cs h e
found_over w n E (treated m F ∷ cs) h e = by (n == m) e (found_over w n E cs h.2)
  where
    one : {A : Type 0} {x y : A} → Some x ≡ Some y → x ≡ y
    one p = cc

    by : (b : Bool) → (if b then Some F else environment_of n cs) ≡ Some E → (environment_of n cs ≡ Some E → IsOver w.env E) → IsOver w.env E
    by true p later = subst (IsOver w.env) (one p) h.0
    by false p later = later p

-- so is each in which a node is treated before the demand of a site
pub before_over : (w : Around) (n : ℕ) (E : Environment) (s : Site) (cs : List Condition) → AllOver w cs → (k : ℕ) → slice_get (conditions_before s cs) k ≡ Some (treated n E) → IsOver w.env E
before_over w n E s [] h k e = absurd (cc)
before_over w n E s (same t u ∷ cs) h zero e = absurd (cc)
before_over w n E s (same t u ∷ cs) h (suc k) e = before_over w n E s cs h k e
before_over w n E s (instance z t ∷ cs) h zero e = absurd (cc)
before_over w n E s (instance z t ∷ cs) h (suc k) e = before_over w n E s cs h k e
before_over w n E s (made m t ∷ cs) h zero e = absurd (cc)
before_over w n E s (made m t ∷ cs) h (suc k) e = before_over w n E s cs h k e
before_over w n E s (known t ∷ cs) h zero e = absurd (cc)
before_over w n E s (known t ∷ cs) h (suc k) e = before_over w n E s cs h k e
before_over w n E s (treated m F ∷ cs) h zero e = let is : F ≡ E = cc in subst (IsOver w.env) is h.0
before_over w n E s (treated m F ∷ cs) h (suc k) e = before_over w n E s cs h.2 k e
before_over w n E s (demand t at d ∷ cs) h k e = by (same_site s t) k e (before_over w n E s cs h)
  where
    by : (b : Bool) (k : ℕ) → slice_get (elim b [ true ↦ [] | false ↦ demand t at d ∷ conditions_before s cs ]) k ≡ Some (treated n E) → ((k : ℕ) → slice_get (conditions_before s cs) k ≡ Some (treated n E) → IsOver w.env E) → IsOver w.env E
    by true k e further = absurd (cc)
    by false zero e further = absurd (cc)
    by false (suc k) e further = further k e

-- so is each environment in which they tell a node with its type, which is the node's own
all_told : (w : Around) (n : ℕ) (E : Environment) (t : Typ) (xs ys : List Condition) → AllOver w (xs ++ treated n E ∷ known t ∷ ys) → IsOver w.env E × (t ≡ w.types n)
all_told w n E t [] ys h = (h.0, h.1)
all_told w n E t (same u v ∷ xs) ys h = all_told w n E t xs ys h
all_told w n E t (instance s u ∷ xs) ys h = all_told w n E t xs ys h
all_told w n E t (made m u ∷ xs) ys h = all_told w n E t xs ys h
all_told w n E t (known u ∷ xs) ys h = all_told w n E t xs ys h
all_told w n E t (demand s at d ∷ xs) ys h = all_told w n E t xs ys h
all_told w n E t (treated m F ∷ xs) ys h = all_told w n E t xs ys h.2

pub typed_over : (w : Around) (n : ℕ) (E : Environment) (t : Typ) (cs : List Condition) → AllOver w cs → IsToldTyped n E t cs → IsOver w.env E × (t ≡ w.types n)
typed_over w n E t cs h told = all_told w n E t told.before told.after (subst (AllOver w) told.is h)
