-- A type of its own: what its body and its root denote.
use Rattle.std.proofs.Common.{◌≡◌, ℕ, zero, suc, ◌+◌, List, [], ◌∷◌, ◌++◌, length, Some, refl, ap, subst, arith}
use Rattle.std.specs.Prelude.{slice_get}
use Rattle.type_model.specs.Types.{Path, Typ, types_of}
use Rattle.type_model.specs.Types.{Typ as type, Typs as types}
use Rattle.signature_model.specs.Declarations.{parameters_from}
use Rattle.type_nodes.specs.Nodes.{Tuple, Con}
use Rattle.type_nodes.specs.States.{Change, state}
use Rattle.type_nodes.specs.Changes.{Makes}
use Rattle.typing_conditions.specs.Declared.{and_last, with_parameters}
use Rattle.typing_conditions.specs.Sights.{Sight}
use Rattle.typing_conditions.specs.Frames.{Frame}
use Rattle.typing_conditions.specs.Steps.{OnlyNodes}
use Rattle.declared_rows.specs.Assignments.{Assignment, Assigns, Denotes, AllDenote, none_denote, one_denotes, AssignedTo}
use Rattle.declared_rows.specs.Contracts.{AreParameters}
use Rattle.declared_rows.proofs.Going.{all_denote_more}
use Rattle.declared_rows.proofs.Made.{con_denotes, tuple_denotes}

-- the variables from a number on
abbrev variables_from : ℕ → ℕ → List Typ
variables_from j zero = []
variables_from j (suc k) = type.Var j ∷ variables_from (j + 1) k

variables_are : (j k : ℕ) → types_of (variables_from j k) ≡ parameters_from j k
variables_are j zero = refl
variables_are j (suc k) = ap (types.Cons (type.Var j)) (variables_are (j + 1) k)

variables_last : (j k : ℕ) (t : Typ) → types_of (variables_from j k ++ t ∷ []) ≡ and_last (parameters_from j k) t
variables_last j zero t = refl
variables_last j (suc k) t = ap (types.Cons (type.Var j)) (variables_last (j + 1) k t)

all_parameters : {A : Assignment} (ps : List ℕ) (j : ℕ) → ((k p : ℕ) → slice_get ps k ≡ Some p → Denotes A p (type.Var (j + k))) → AllDenote A ps (variables_from j (length ps))
all_parameters [] j h = none_denote
all_parameters {A} (p ∷ ps) j h =
    one_denotes (subst (λ i. Denotes A p (type.Var i)) (let e : j + 0 ≡ j = omega arith in e) (h 0 p refl)) (all_parameters ps (j + 1) (λ k q e. subst (λ i. Denotes A q (type.Var i)) (let f : j + suc k ≡ (j + 1) + k = omega arith in f) (h (suc k) q e)))

parameters_denote : {A : Assignment} (ps : List ℕ) → AreParameters A ps → AllDenote A ps (variables_from 0 (length ps))
parameters_denote {A} ps h = all_parameters ps 0 (λ k p e. subst (λ i. Denotes A p (type.Var i)) (let f : k ≡ 0 + k = omega arith in f) (h k p e))

-- The constructor of an origin over the parameters.
pub own_denotes : {F : Frame} {a b : Sight} {s u : List Change} {arity n : ℕ} {ps : List ℕ} {U : List ℕ} {A : Assignment} (path : Path) (name : List ℕ) → Assigns F arity U a A → AreParameters A ps → Makes (state a.nodes s) (state b.nodes u) n (Con path name ps) → OnlyNodes a b →
    AssignedTo F arity U a b A n (type.Con path (parameters_from 0 (length ps)))
own_denotes {F} {a} {b} {s} {u} {arity} {n} {ps} {U} {A} path name at params made rest =
    subst (λ ts. AssignedTo F arity U a b A n (type.Con path ts)) (variables_are 0 (length ps)) (con_denotes {s = s} {u = u} path name at (parameters_denote ps params) made rest)

-- The root of a declaration with parameters: the tuple of them and its type.
pub root_denotes : {F : Frame} {a b : Sight} {s u : List Change} {arity n body : ℕ} {U : List ℕ} {A : Assignment} {t : Typ} (p : ℕ) (ps : List ℕ) → Assigns F arity U a A → AreParameters A (p ∷ ps) → Denotes A body t → Makes (state a.nodes s) (state b.nodes u) n (Tuple ((p ∷ ps) ++ body ∷ [])) → OnlyNodes a b →
    AssignedTo F arity U a b A n (with_parameters (length (p ∷ ps)) t)
root_denotes {F} {a} {b} {s} {u} {arity} {n} {body} {U} {A} {t} p ps at params d made rest =
    subst (λ ts. AssignedTo F arity U a b A n (type.Tuple ts)) (variables_last 0 (length (p ∷ ps)) t) (tuple_denotes {s = s} {u = u} at (all_denote_more (parameters_denote (p ∷ ps) params) d) made rest)
