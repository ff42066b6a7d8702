-- Declarations and exceptions with other names of variables that aren't nodes of the store.
use Rattle.std.proofs.Common.{◌≡◌, ℕ, ◌<◌, List, length, Option}
use Rattle.type_model.specs.Types.{Typ}
use Rattle.signature_model.specs.Declarations as rules
use Rattle.type_nodes.specs.Nodes.{Node}
use Rattle.type_nodes.specs.Readings.{Types}
use Rattle.env_table.specs.declared.entries.Constructor.{Constructor}
use Rattle.env_table.specs.declared.entries.Declaration.{Declaration}
use Rattle.env_table.specs.declared.entries.Shape.{Shape}
use Rattle.typing_conditions.specs.Declared.{MakesAs, ConstructorAs, LabelAs, ShapeAs, tell_nothing, tell_constructors, tell_labels, DeclaredAs, ExceptionAs}
use Rattle.typing_conditions.proofs.Roots.{root_renamed}
use Rattle.typing_conditions.proofs.DeclaredLater.{one_by_one}

module _ {nodes : List Node} {N M : Types} {C : List ℕ} (same : (v : ℕ) → v < length nodes → M v ≡ N v) where
  makes_renamed : {arity : ℕ} {c : Constructor} {result : Typ} {argument : Option Typ} → MakesAs nodes C N arity c result argument → MakesAs nodes C M arity c result argument
  makes_renamed m = record { takes = m.takes; root = root_renamed same m.root }

  shape_renamed : {arity : ℕ} {owner : Typ} {s : Shape} {z : rules.Shape} → ShapeAs nodes C N arity owner s z → ShapeAs nodes C M arity owner s z
  shape_renamed (tell_nothing e) = tell_nothing e
  shape_renamed {arity} {owner} (tell_constructors e cs) =
      tell_constructors e (one_by_one {P = ConstructorAs nodes C N arity owner} {Q = ConstructorAs nodes C M arity owner} (λ c k h. record { name = h.name; makes = makes_renamed h.makes }) cs)
  shape_renamed {arity} {owner} (tell_labels e ls) =
      tell_labels e (one_by_one {P = LabelAs nodes C N arity owner} {Q = LabelAs nodes C M arity owner} (λ l k h. record { name = h.name; mutable = h.mutable; root = root_renamed same h.root }) ls)

  -- a declaration
  pub declared_renamed : {d : Declaration} {e : rules.Declaration} → DeclaredAs nodes C N d e → DeclaredAs nodes C M d e
  declared_renamed h = record { arity = h.arity; origin = h.origin; defines = h.defines; root = root_renamed same h.root; shape = shape_renamed h.shape }

  -- an exception
  pub exception_renamed : {c : Constructor} {argument : Option Typ} → ExceptionAs nodes C N c argument → ExceptionAs nodes C M c argument
  exception_renamed h = makes_renamed h
