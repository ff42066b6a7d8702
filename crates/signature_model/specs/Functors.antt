-- Functors: an application, and the closing of a body (OCaml manual, 11.11; Leroy 1995, Applicative functors and fully transparent higher-order modules, for the generative form).
use Rattle.std.specs.Prelude.{◌≡◌, ℕ, true, ◌||◌, not, ◌∷◌, if◌then◌else◌}
use Rattle.type_model.specs.Schemes.{Scheme}
use Rattle.signature_model.specs.Signatures.{Signature, Hole, Structure, Functor, Components, Done, Component, Meaning, Value, TypeName, Exception, Module, ModuleType, Template}
use Rattle.signature_model.specs.Changes.{among, change_signature}
use Rattle.signature_model.specs.Matching.{realisation}
use Rattle.signature_model.specs.Entries.{Environment, free_in, free_in_signature}

-- the signature of an application at the node u: the parameter's origins are those of the argument, and the body's are made anew there
abbrev pub applied : ℕ → Signature → Template → Template → Signature
applied u argument parameter body =
    change_signature (record { path = λ o. if among o body.made then u ∷ o else o; real = realisation argument parameter }) body.signature

-- a scheme that binds also what isn't free in an environment
abbrev pub bound_also : Environment → Scheme → Scheme
bound_also env s = record s { bound = λ v. s.bound v || not (free_in v env) }

-- a body whose value schemes bind what isn't free in its environment
abbrev mutual
  pub closed_over : Environment → Signature → Signature
  closed_over env Hole = Hole
  closed_over env (Structure cs) = Structure (closed_components env cs)
  closed_over env (Functor pm p bm b) = Functor pm p bm (closed_over env b)

  -- components whose value schemes bind what isn't free in the environment
  pub closed_components : Environment → Components → Components
  closed_components env Done = Done
  closed_components env (Component n at m cs) = Component n at (closed_meaning env m) (closed_components env cs)

  -- what a component stands for, closed so; a module type stays as it is
  pub closed_meaning : Environment → Meaning → Meaning
  closed_meaning env (Value s) = Value (bound_also env s)
  closed_meaning env (TypeName d) = TypeName d
  closed_meaning env (Exception o) = Exception o
  closed_meaning env (Module s) = Module (closed_over env s)
  closed_meaning env (ModuleType made s) = ModuleType made s

-- a body leaves nothing open where each variable that is free in it is free in its environment
pub record IsClosed (env : Environment) (s : Signature) : Type 0 where
  pub each : (v : ℕ) → free_in_signature v s ≡ true → free_in v env ≡ true
