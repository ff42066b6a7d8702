-- The nodes' own types as a reading, and roots in which all variables are bound.
use Rattle.std.proofs.Common.{◌≡◌, ℕ, ◌<◌, true, List, length, Some, sym, ◌∙◌, ap, subst, arith}
use Rattle.std.specs.Prelude.{slice_get}
use Rattle.std.proofs.lemmas.Bool.{ne_eqb}
use Rattle.std.proofs.lemmas.Option.{slice_get_within}
use Rattle.type_model.specs.Types.{Typ, occurs}
use Rattle.type_model.specs.Substitutions.{apply}
use Rattle.type_model.specs.Limits.{IsInScope}
use Rattle.type_model.proofs.Applying.{apply_agree, apply_leaves}
use Rattle.signature_model.specs.Matching.{IsKnown}
use Rattle.type_nodes.specs.Nodes.{Node, Var, Rigid, Link, Arrow, Tuple, Con, bound_level}
use Rattle.type_nodes.specs.Readings.{Types, FitsNode, IsReading}
use Rattle.level_unify.specs.Solutions.{FitsLoosely}
use Rattle.typing_conditions.specs.Locals.{IsOwn, Refines}
use Rattle.typing_conditions.specs.Standing.{IsIn}
use Rattle.typing_conditions.proofs.Steps.{same_node}
use Rattle.typing_conditions.specs.Declared.{IsNamed, a_parameter, an_unknown, RootAs}

own_fits : (nodes : List Node) (I : Types) → IsOwn nodes I → (n : ℕ) (c : Node) → slice_get nodes n ≡ Some c → FitsLoosely I n c → FitsNode I n c
own_fits nodes I own n (Var l o) e h = λ free. subst (IsInScope o) (sym (own.vars n l o e)) tt
own_fits nodes I own n Rigid e h = h
own_fits nodes I own n (Link m) e h = h
own_fits nodes I own n (Arrow a b) e h = h
own_fits nodes I own n (Tuple ms) e h = h
own_fits nodes I own n (Con p name ms) e h = h

-- the nodes' own types are a reading
pub own_reads : (nodes : List Node) (I : Types) → IsOwn nodes I → IsReading nodes I
own_reads nodes I own = record {
  fits = record { each = λ n c e. own_fits nodes I own n c e (own.loose.each n c e) };
  own = λ n scope e. own.vars n bound_level scope e;
  apart = λ n level scope b scope' e free e'. ap (occurs b) (own.vars n level scope e) ∙ ne_eqb b n (λ s. free (same_node nodes n level scope bound_level scope' e (ap (slice_get nodes) (sym s) ∙ e')));
}

-- a variable with a name is bound
pub named_bound : {nodes : List Node} {N : Types} {arity v : ℕ} → IsNamed nodes N arity v → (scope : ℕ) × (slice_get nodes v ≡ Some (Var bound_level scope))
named_bound (a_parameter scope k e other lt is) = (scope, e)
named_bound (an_unknown o e u is) = (0, e)

-- and keeps it later on
pub named_after : {old new : List Node} {J N : Types} {arity v : ℕ} → Refines old new J → IsNamed old N arity v → IsNamed new N arity v
named_after {v = v} step (a_parameter scope k e other lt is) = a_parameter scope k (step.bounds v scope e) other lt is
named_after {v = v} step (an_unknown o e u is) = an_unknown o (step.bounds v 0 e) u is

-- a root in which all variables are bound has one type of its own for ever
pub same_root : {old new : List Node} {I J K : Types} (r : ℕ) → IsOwn old I → IsOwn new K → Refines old new J → ((v : ℕ) → occurs v (I r) ≡ true → (scope : ℕ) × (slice_get old v ≡ Some (Var bound_level scope))) → K r ≡ I r
same_root {I = I} {K = K} r before after step bound =
    before.comes K (step.loose K after.loose) r ∙ apply_leaves K (I r) (λ v o. let (scope, e) = bound v o in after.vars v bound_level scope (step.bounds v scope e))

-- what a root stands for it stands for later on, and among more roots
pub root_after : {old new : List Node} {I J N : Types} {C C' : List ℕ} {arity r : ℕ} {t : Typ} → IsOwn old I → Refines old new J → ((n : ℕ) → IsIn C n → IsIn C' n) → RootAs old C N arity r t → RootAs new C' N arity r t
root_after {old} {new} {I} {J} {N} {C} {C'} {arity} {r} {t} before step more root = record {
  inside = let p = root.inside in let q = step.longer in omega arith;
  among = more r root.among;
  known = λ K own. subst IsKnown (sym (here K own)) (root.known I before);
  is = λ K own. root.is I before ∙ ap (apply N) (sym (here K own));
  named = λ K own v o. named_after step (root.named I before v (ap (occurs v) (sym (here K own)) ∙ o));
  apart = λ K own v w o p e. root.apart I before v w (ap (occurs v) (sym (here K own)) ∙ o) (ap (occurs w) (sym (here K own)) ∙ p) e;
}
  where
    here : (K : Types) → IsOwn new K → K r ≡ I r
    here K own = same_root r before own step (λ v o. named_bound (root.named I before v o))

-- more names
pub root_renamed : {nodes : List Node} {N M : Types} {C : List ℕ} {arity r : ℕ} {t : Typ} → ((v : ℕ) → v < length nodes → M v ≡ N v) → RootAs nodes C N arity r t → RootAs nodes C M arity r t
root_renamed {nodes} {N} {M} {C} {arity} {r} {t} same root = record {
  inside = root.inside;
  among = root.among;
  known = root.known;
  is = λ I own. root.is I own ∙ apply_agree N M (I r) (λ v o. sym (at I own v o));
  named = λ I own v o. renamed (at I own v o) (root.named I own v o);
  apart = λ I own v w o p e. root.apart I own v w o p (sym (at I own v o) ∙ e ∙ at I own w p);
}
  where
    at : (I : Types) → IsOwn nodes I → (v : ℕ) → occurs v (I r) ≡ true → M v ≡ N v
    at I own v o = let (scope, e) = named_bound (root.named I own v o) in same v (slice_get_within nodes v (Var bound_level scope) e)

    renamed : {v : ℕ} → M v ≡ N v → IsNamed nodes N arity v → IsNamed nodes M arity v
    renamed e (a_parameter scope k f other lt is) = a_parameter scope k f other lt (e ∙ is)
    renamed e (an_unknown o f u is) = an_unknown o f u (e ∙ is)
