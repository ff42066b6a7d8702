-- What bindings ask holds of what is left of types, and their names stand in scope with it.
use Rattle.std.proofs.Common.{◌≡◌, Bool, true, false, List, [], ◌∷◌, ◌++◌, map, Option, Some, None, refl, ap, if◌then◌else◌}
use Rattle.type_model.specs.Types.{Typ, Arrow}
use Rattle.signature_model.specs.Declarations.{Name}
use Rattle.typing_model.specs.Contexts.{Bound, in_item, type_at, with_names, entries_with, generalised_in}
use Rattle.typing_model.specs.Parts.{Expression, Pattern, TypeExpression, Binding}
use Rattle.typing_model.specs.Patterns.{all_names}
use Rattle.typing_model.specs.Bindings.{matched_apart, arrows, right_type, read_annotation, has_annotation, right_side, pattern_has, names_of_group, bound_in_turn, patterns_first, right_sides, bindings_ask, generalises, held_by, types_written}
use Rattle.typing_laws.proofs.Steady.{Each, no_one, one_and, each_append, IfThere, absent, there}
use Rattle.demand_laws.proofs.Bindings.{AlikeExpression, AlikeBinding, generalises_alike}
use Rattle.settled_types.specs.Made.{Constructors}
use Rattle.settled_types.proofs.Goes.{rest, Goes, nothing_goes, behind, at_treated, equal_one, Pair, left, right, two, RestName, names_too, more, RestTypes, no_types, a_type_too, rest_append, general_left}
use Rattle.settled_types.proofs.Types.{GoesType}
use Rattle.settled_types.proofs.Patterns.{GoesPattern, names_all}

-- what an expression asks holds of what is left
pub record GoesTyped (w : Constructors) (e : Expression) : Type 0 where
  pub types : (c : Pair w) → Goes w (e.typed (left c)) (e.typed (right c))
  pub negates : (c : Pair w) → Goes w (e.negated (left c)) (e.negated (right c))

-- and it is non-expansive in both of two contexts or in neither
pub record GoesExpression (w : Constructors) (e : Expression) : Type 0 where
  pub alike : AlikeExpression e
  pub goes : GoesTyped w e

pub record GoesBinding (w : Constructors) (b : Binding) : Type 0 where
  pub alike : AlikeBinding b
  pub pattern : GoesPattern w b.pattern
  pub parameters : Each (GoesPattern w) b.parameters
  pub annotation : IfThere (GoesType w) b.annotation
  pub body : GoesTyped w b.body

pub apart_goes : {w : Constructors} (c : Pair w) (ps : List Pattern) → Each (GoesPattern w) ps → Goes w (matched_apart (left c) ps) (matched_apart (right c) ps)
apart_goes c [] no_one = nothing_goes
apart_goes c (p ∷ ps) (one_and s each) = behind (s.matches c []) (apart_goes c ps each)

pub arrows_left : {w : Constructors} (c : Pair w) (ps : List Pattern) (t u : Typ) → u ≡ rest w t → arrows (right c) ps u ≡ rest w (arrows (left c) ps t)
arrows_left c [] t u e = e
arrows_left c (p ∷ ps) t u e = ap (Arrow (type_at (right c) p.node)) (arrows_left c ps t u e)

right_left : {w : Constructors} (c : Pair w) (b : Binding) → right_type (right c) b ≡ rest w (right_type (left c) b)
right_left {w} c b = by b.annotation
  where
    by : (o : Option TypeExpression) → elim o [ None ↦ type_at (right c) b.body.node | Some t ↦ type_at (right c) t.node ] ≡ rest w (elim o [ None ↦ type_at (left c) b.body.node | Some t ↦ type_at (left c) t.node ])
    by None = refl
    by (Some t) = refl

annotation_goes : {w : Constructors} (c : Pair w) (t : Option TypeExpression) → IfThere (GoesType w) t → Goes w (read_annotation (left c) t) (read_annotation (right c) t)
annotation_goes c None absent = nothing_goes
annotation_goes c (Some t) (there s) = s.reads c

annotated_goes : {w : Constructors} (c : Pair w) (b : Binding) (t : Option TypeExpression) → Goes w (has_annotation (left c) b t) (has_annotation (right c) b t)
annotated_goes c b None = nothing_goes
annotated_goes {w} c b (Some t) = equal_one w refl refl

right_side_goes : {w : Constructors} (b : Binding) → GoesBinding w b → (c : Pair w) → Goes w (right_side (left c) b) (right_side (right c) b)
right_side_goes b s c =
    behind (behind (behind (apart_goes c b.parameters s.parameters) (annotation_goes c b.annotation s.annotation)) (s.body.types (more c (all_names b.parameters) (names_all b.parameters s.parameters))))
    (annotated_goes c b b.annotation)

has_goes : {w : Constructors} (c : Pair w) (b : Binding) → Goes w (pattern_has (left c) b) (pattern_has (right c) b)
has_goes {w} c b = equal_one w refl (arrows_left c b.parameters (right_type (left c) b) (right_type (right c) b) (right_left c b))

in_turn_goes : {w : Constructors} (c : Pair w) (seen : List Name) (bs : List Binding) → Each (GoesBinding w) bs → Goes w (bound_in_turn (left c) seen bs) (bound_in_turn (right c) seen bs)
in_turn_goes c seen [] no_one = nothing_goes
in_turn_goes c seen (b ∷ bs) (one_and s each) =
    at_treated (behind (behind (behind (right_side_goes b s c) (s.pattern.matches c seen)) (has_goes c b)) (in_turn_goes c (seen ++ b.pattern.mentions) bs each))

patterns_go : {w : Constructors} (c : Pair w) (seen : List Name) (bs : List Binding) → Each (GoesBinding w) bs → Goes w (patterns_first (left c) seen bs) (patterns_first (right c) seen bs)
patterns_go c seen [] no_one = nothing_goes
patterns_go c seen (b ∷ bs) (one_and s each) = at_treated (behind (s.pattern.matches c seen) (patterns_go c (seen ++ b.pattern.mentions) bs each))

pub group_names : {w : Constructors} (bs : List Binding) → Each (GoesBinding w) bs → Each (RestName w) (names_of_group bs)
group_names [] no_one = no_one
group_names (b ∷ bs) (one_and s each) = each_append s.pattern.names (group_names bs each)

right_sides_go : {w : Constructors} (c : Pair w) (group : List Bound) → Each (RestName w) group → (bs : List Binding) → Each (GoesBinding w) bs → Goes w (right_sides (left c) (with_names (left c) group) bs) (right_sides (right c) (with_names (right c) group) bs)
right_sides_go c group names [] no_one = nothing_goes
right_sides_go c group names (b ∷ bs) (one_and s each) = behind (behind (right_side_goes b s (more c group names)) (has_goes c b)) (right_sides_go c group names bs each)

pub bindings_go : {w : Constructors} (c : Pair w) (is_rec : Bool) (bs : List Binding) → Each (GoesBinding w) bs → Goes w (bindings_ask (left c) is_rec bs) (bindings_ask (right c) is_rec bs)
bindings_go c true bs each = behind (patterns_go c [] bs each) (right_sides_go c (names_of_group bs) (group_names bs each) bs each)
bindings_go c false bs each = in_turn_goes c [] bs each

-- the types that a group holds
names_held : {w : Constructors} (c : Pair w) (bs : List Bound) → Each (RestName w) bs → RestTypes w (map (λ n. n.has_type (left c)) bs) (map (λ n. n.has_type (right c)) bs)
names_held c [] no_one = no_types
names_held c (b ∷ bs) (one_and s each) = a_type_too (s.gives c) (names_held c bs each)

pub group_held : {w : Constructors} (c : Pair w) (bs : List Binding) → Each (GoesBinding w) bs → RestTypes w (held_by (left c) bs) (held_by (right c) bs)
group_held c [] no_one = no_types
group_held {w} c (b ∷ bs) (one_and s each) = by (generalises (left c) b) (generalises (right c) b) (generalises_alike (two c) b s.alike) (group_held c bs each)
  where
    by : (x y : Bool) → x ≡ y → RestTypes w (held_by (left c) bs) (held_by (right c) bs) →
        RestTypes w (if x then held_by (left c) bs else type_at (left c) b.body.node ∷ map (λ n. n.has_type (left c)) b.pattern.names ++ held_by (left c) bs)
        (if y then held_by (right c) bs else type_at (right c) b.body.node ∷ map (λ n. n.has_type (right c)) b.pattern.names ++ held_by (right c) bs)
    by true true e h = h
    by false false e h = a_type_too refl (rest_append (names_held c b.pattern.names s.pattern.names) h)
    by true false e h = absurd (cc)
    by false true e h = absurd (cc)

pub written_held : {w : Constructors} (c : Pair w) → RestTypes w (types_written (left c) (in_item c.item)) (types_written (right c) (in_item c.item))
written_held {w} c = by c.held
  where
    by : (ns : List Name) → RestTypes w (map (c.choice.written c.item) ns) (map (λ n. rest w (c.choice.written c.item n)) ns)
    by [] = no_types
    by (n ∷ ns) = a_type_too refl (by ns)

-- both contexts with the names of a group, generalised
abbrev pub in_let : {w : Constructors} (c : Pair w) (bs : List Binding) → Each (GoesBinding w) bs → Pair w
in_let {w} c bs each = record {
  env = entries_with (generalised_in c.env (types_written (left c) (in_item c.item) ++ held_by (left c) bs)) (left c) (names_of_group bs) c.env;
  others = entries_with (generalised_in c.others (types_written (right c) (in_item c.item) ++ held_by (right c) bs)) (right c) (names_of_group bs) c.others;
  item = c.item;
  held = c.held;
  kept = c.kept;
  choice = c.choice;
  names = names_too (generalised_in c.env (types_written (left c) (in_item c.item) ++ held_by (left c) bs)) (generalised_in c.others (types_written (right c) (in_item c.item) ++ held_by (right c) bs)) c (names_of_group bs) (group_names bs each)
      (general_left w c.names (rest_append (written_held c) (group_held c bs each))) c.names;
}
