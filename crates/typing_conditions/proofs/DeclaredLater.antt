-- What stands for a declaration, a constructor or a label does so later on, and among more roots.
use Rattle.std.proofs.Common.{ℕ, List, Option}
use Rattle.type_model.specs.Types.{Typ}
use Rattle.signature_model.specs.Declarations as rules
use Rattle.type_nodes.specs.Nodes.{Node}
use Rattle.type_nodes.specs.Readings.{Types}
use Rattle.env_table.specs.declared.entries.Constructor.{Constructor}
use Rattle.env_table.specs.declared.entries.Declaration.{Declaration}
use Rattle.env_table.specs.declared.entries.Shape.{Shape}
use Rattle.typing_conditions.specs.Locals.{IsOwn, Refines}
use Rattle.typing_conditions.specs.Standing.{IsIn}
use Rattle.typing_conditions.specs.Declared.{MakesAs, ConstructorAs, LabelAs, OneByOne, no_more, one_more, ShapeAs, tell_nothing, tell_constructors, tell_labels, DeclaredAs, ExceptionAs}
use Rattle.typing_conditions.proofs.Roots.{root_after}

-- one by one, by what holds of each
pub one_by_one : {A B : Type 0} {P Q : A → B → Type 0} → ((x : A) (y : B) → P x y → Q x y) → {xs : List A} {ys : List B} → OneByOne P xs ys → OneByOne Q xs ys
one_by_one h no_more = no_more
one_by_one h (one_more {x = x} {y = y} p ps) = one_more (h x y p) (one_by_one h ps)

module _ {old new : List Node} {I J N : Types} {C C' : List ℕ} (before : IsOwn old I) (step : Refines old new J) (more : (r : ℕ) → IsIn C r → IsIn C' r) where
  pub makes_after : {arity : ℕ} {c : Constructor} {result : Typ} {argument : Option Typ} → MakesAs old C N arity c result argument → MakesAs new C' N arity c result argument
  makes_after m = record { takes = m.takes; root = root_after before step more m.root }

  shape_after : {arity : ℕ} {owner : Typ} {s : Shape} {z : rules.Shape} → ShapeAs old C N arity owner s z → ShapeAs new C' N arity owner s z
  shape_after (tell_nothing e) = tell_nothing e
  shape_after {arity} {owner} (tell_constructors e cs) =
      tell_constructors e (one_by_one {P = ConstructorAs old C N arity owner} {Q = ConstructorAs new C' N arity owner} (λ c k h. record { name = h.name; makes = makes_after h.makes }) cs)
  shape_after {arity} {owner} (tell_labels e ls) =
      tell_labels e (one_by_one {P = LabelAs old C N arity owner} {Q = LabelAs new C' N arity owner} (λ l k h. record { name = h.name; mutable = h.mutable; root = root_after before step more h.root }) ls)

  -- a declaration
  pub declared_after : {d : Declaration} {e : rules.Declaration} → DeclaredAs old C N d e → DeclaredAs new C' N d e
  declared_after h = record { arity = h.arity; origin = h.origin; defines = h.defines; root = root_after before step more h.root; shape = shape_after h.shape }

  -- an exception
  pub exception_after : {c : Constructor} {argument : Option Typ} → ExceptionAs old C N c argument → ExceptionAs new C' N c argument
  exception_after h = makes_after h
