-- Bindings make the same demands, and their names stand in scope alike.
use Rattle.std.proofs.Common.{◌≡◌, Bool, true, false, List, [], ◌∷◌, ◌++◌, Option, Some, None, refl}
use Rattle.signature_model.specs.Declarations.{Name, Label}
use Rattle.typing_model.specs.Contexts.{Context, Bound, with_names, entries_with, generalised_in}
use Rattle.typing_model.specs.Parts.{Form, a_constructor, a_path, a_float, a_false, a_field, no_expression, other, Expression, Pattern, TypeExpression, Binding}
use Rattle.typing_model.specs.Patterns.{all_names}
use Rattle.typing_model.specs.Bindings.{matched_apart, read_annotation, has_annotation, right_side, names_of_group, bound_in_turn, patterns_first, right_sides, bindings_ask, generalises, held_by, types_written, within_let}
use Rattle.typing_laws.proofs.Steady.{Each, no_one, one_and, IfThere, absent, there}
use Rattle.demand_laws.proofs.Alike.{Same, alone, at_treated, behind, Both, Two, left, right, more, names_too}
use Rattle.demand_laws.proofs.Types.{AlikeType}
use Rattle.demand_laws.proofs.Patterns.{AlikePattern}

-- two labels are mutable, or neither is
pub record IsMutableAlike (l m : Label) : Type 0 where
  pub one : l.is_mutable ≡ m.is_mutable

-- the label of a field is alike in both of two contexts
abbrev pub IsFormAlike : Form → Type 0
IsFormAlike (a_constructor p) = Unit {0}
IsFormAlike (a_path p) = Unit {0}
IsFormAlike a_float = Unit {0}
IsFormAlike a_false = Unit {0}
IsFormAlike (a_field p label) = (c : Two) → Both IsMutableAlike (label (left c)) (label (right c))
IsFormAlike no_expression = Unit {0}
IsFormAlike other = Unit {0}

-- an expression makes the same demands in both of two contexts, and is non-expansive in both or in neither
pub record AlikeExpression (e : Expression) : Type 0 where
  pub types : (c : Two) → Same (e.typed (left c)) (e.typed (right c))
  pub negates : (c : Two) → Same (e.negated (left c)) (e.negated (right c))
  pub values : (c : Two) → e.is_value (left c) ≡ e.is_value (right c)
  pub forms : IsFormAlike e.form

pub record AlikeBinding (b : Binding) : Type 0 where
  pub pattern : AlikePattern b.pattern
  pub parameters : Each AlikePattern b.parameters
  pub annotation : IfThere AlikeType b.annotation
  pub body : AlikeExpression b.body

pub apart_alike : (c : Two) (ps : List Pattern) → Each AlikePattern ps → Same (matched_apart (left c) ps) (matched_apart (right c) ps)
apart_alike c [] no_one = alone (λ k. refl)
apart_alike c (p ∷ ps) (one_and s each) = behind (s.matches c []) (apart_alike c ps each)

annotation_alike : (c : Two) (t : Option TypeExpression) → IfThere AlikeType t → Same (read_annotation (left c) t) (read_annotation (right c) t)
annotation_alike c None absent = alone (λ k. refl)
annotation_alike c (Some t) (there s) = s.reads c

annotated_alike : (c d : Context) (b : Binding) (t : Option TypeExpression) → Same (has_annotation c b t) (has_annotation d b t)
annotated_alike c d b None = alone (λ k. refl)
annotated_alike c d b (Some t) = alone (λ k. refl)

right_side_alike : (b : Binding) → AlikeBinding b → (c : Two) → Same (right_side (left c) b) (right_side (right c) b)
right_side_alike b s c =
    behind (behind (behind (apart_alike c b.parameters s.parameters) (annotation_alike c b.annotation s.annotation)) (s.body.types (more c (all_names b.parameters))))
    (annotated_alike (left c) (right c) b b.annotation)

in_turn_alike : (c : Two) (seen : List Name) (bs : List Binding) → Each AlikeBinding bs → Same (bound_in_turn (left c) seen bs) (bound_in_turn (right c) seen bs)
in_turn_alike c seen [] no_one = alone (λ k. refl)
in_turn_alike c seen (b ∷ bs) (one_and s each) =
    at_treated (behind (behind (behind (right_side_alike b s c) (s.pattern.matches c seen)) (alone (λ k. refl))) (in_turn_alike c (seen ++ b.pattern.mentions) bs each))

patterns_alike : (c : Two) (seen : List Name) (bs : List Binding) → Each AlikeBinding bs → Same (patterns_first (left c) seen bs) (patterns_first (right c) seen bs)
patterns_alike c seen [] no_one = alone (λ k. refl)
patterns_alike c seen (b ∷ bs) (one_and s each) = at_treated (behind (s.pattern.matches c seen) (patterns_alike c (seen ++ b.pattern.mentions) bs each))

right_sides_alike : (c : Two) (group : List Bound) (bs : List Binding) → Each AlikeBinding bs → Same (right_sides (left c) (with_names (left c) group) bs) (right_sides (right c) (with_names (right c) group) bs)
right_sides_alike c group [] no_one = alone (λ k. refl)
right_sides_alike c group (b ∷ bs) (one_and s each) = behind (behind (right_side_alike b s (more c group)) (alone (λ k. refl))) (right_sides_alike c group bs each)

pub bindings_alike : (c : Two) (is_rec : Bool) (bs : List Binding) → Each AlikeBinding bs → Same (bindings_ask (left c) is_rec bs) (bindings_ask (right c) is_rec bs)
bindings_alike c true bs each = behind (patterns_alike c [] bs each) (right_sides_alike c (names_of_group bs) bs each)
bindings_alike c false bs each = in_turn_alike c [] bs each

-- which bindings are generalised doesn't depend on the types that are chosen
pub generalises_alike : (c : Two) (b : Binding) → AlikeBinding b → generalises (left c) b ≡ generalises (right c) b
generalises_alike c b s = by b.parameters refl
  where
    by : (ps : List Pattern) → b.parameters ≡ ps → generalises (left c) b ≡ generalises (right c) b
    by [] e = rw (e, generalises) (s.body.values c)
    by (p ∷ ps) e = rw (e, generalises) refl

-- both contexts with the names of a group, generalised
abbrev pub in_let : Two → List Binding → Two
in_let c bs = record {
  first = within_let (left c) bs;
  env = entries_with (generalised_in c.env (types_written (right c) c.first.variables ++ held_by (right c) bs)) (right c) (names_of_group bs) c.env;
  choice = c.choice;
  names = names_too (generalised_in c.first.env (types_written (left c) c.first.variables ++ held_by (left c) bs)) (generalised_in c.env (types_written (right c) c.first.variables ++ held_by (right c) bs)) (left c) (right c) (names_of_group bs) c.names;
}
