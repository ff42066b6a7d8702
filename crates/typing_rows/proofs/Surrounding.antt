-- The names of a state's surroundings are names among which a declaration's type expressions stand.
use Rattle.std.proofs.Common.{◌≡◌, ◌∙◌, ℕ, zero, suc, List, refl, sym, ap}
use Rattle.type_model.specs.Types.{Typ, Typs}
use Rattle.type_model.specs.Types.{Typ as type, Typs as types}
use Rattle.type_model.specs.Substitutions.{apply}
use Rattle.signature_model.specs.Declarations as rules
use Rattle.signature_model.specs.Declarations.{parameters_from, type_of}
use Rattle.type_nodes.specs.Nodes.{Node}
use Rattle.type_nodes.specs.Readings.{Types}
use Rattle.env_table.specs.declared.entries.Declaration.{Declaration}
use Rattle.typing_conditions.specs.Locals.{IsOwn}
use Rattle.typing_conditions.specs.Declared.{and_last, with_parameters, DeclaredAs}
use Rattle.typing_rows.specs.Around.{TypeAs}

-- the last of some types
abbrev last_type : Typs → Typ
last_type types.Nil = type.Tuple types.Nil
last_type (types.Cons t types.Nil) = t
last_type (types.Cons t (types.Cons u us)) = last_type (types.Cons u us)

-- the parts of a tuple
abbrev parts_of : Typ → Typs
parts_of (type.Tuple ts) = ts
parts_of _ = types.Nil

-- what stands behind so many parameters
abbrev pub behind_parameters : ℕ → Typ → Typ
behind_parameters zero t = t
behind_parameters (suc k) t = last_type (parts_of t)

last_is : (us : Typs) (t : Typ) → last_type (and_last us t) ≡ t
last_is types.Nil t = refl
last_is (types.Cons u types.Nil) t = refl
last_is (types.Cons u (types.Cons v us)) t = last_is (types.Cons v us) t

behind_is : (k : ℕ) (t : Typ) → behind_parameters k (with_parameters k t) ≡ t
behind_is zero t = refl
behind_is (suc k) t = last_is (parameters_from 0 (suc k)) t

-- the type by which a declaration of the code is known, where its root is one of a store
abbrev pub known_by : Types → Types → Declaration → Typ
known_by N I d = behind_parameters d.arity (apply N (I d.root.0))

-- so what stands for a declaration of the definitions does so as far as its type goes
pub declared_known : {nodes : List Node} {I : Types} {C : List ℕ} {N : Types} {d : Declaration} {e : rules.Declaration} → IsOwn nodes I → DeclaredAs nodes C N d e → TypeAs (known_by N I) d e
declared_known {I = I} {N = N} {d = d} {e = e} own h =
    (h.arity, sym (ap (behind_parameters d.arity) (sym (h.root.is I own) ∙ ap (λ k. with_parameters k (type_of e)) h.arity) ∙ behind_is d.arity (type_of e)))
