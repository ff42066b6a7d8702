-- What bindings ask goes together, and their names stand in scope alike.
use Rattle.std.proofs.Common.{◌≡◌, Bool, true, false, List, [], ◌∷◌, ◌++◌, map, Option, Some, None, refl, ◌∙◌, ap, subst, if◌then◌else◌}
use Rattle.type_model.specs.Types.{Typ}
use Rattle.signature_model.specs.Declarations.{Name}
use Rattle.typing_model.specs.Demands.{Condition}
use Rattle.typing_model.specs.Contexts.{Context, Bound, under, with_names, entries_with, generalised_in}
use Rattle.typing_model.specs.Parts.{Pattern, TypeExpression, Binding}
use Rattle.typing_model.specs.Patterns.{all_names}
use Rattle.typing_model.specs.Bindings.{matched_apart, read_annotation, right_side, names_of_group, bound_in_turn, patterns_first, right_sides, bindings_ask, generalises, held_by, types_written, behind_group, within_let}
use Rattle.typing_laws.proofs.Together.{Kept, keeping}
use Rattle.typing_laws.proofs.Whole.{Whole, at_end, at_treated, alone, behind}
use Rattle.typing_laws.proofs.Steady.{Each, no_one, one_and, each_append, IfThere, absent, there, SameName, WholeType, SteadyPattern, SteadyBinding, entries_alike, in_scope}
use Rattle.typing_laws.proofs.SteadyPatterns.{all_names_one}

pub apart_alike : {k m : Kept} (c : Context) (ps : List Pattern) → Each (SteadyPattern k m) ps → Whole k m (matched_apart (keeping k c) ps) (matched_apart (keeping m c) ps)
apart_alike c [] no_one = at_end
apart_alike c (p ∷ ps) (one_and s each) = behind (s.matches c []) (λ a. apart_alike c ps each)

annotation_alike : {k m : Kept} (c : Context) (t : Option TypeExpression) → IfThere (WholeType k m) t → Whole k m (read_annotation (keeping k c) t) (read_annotation (keeping m c) t)
annotation_alike c None absent = at_end
annotation_alike c (Some t) (there s) = s.reads c

right_side_alike : {k m : Kept} (b : Binding) → SteadyBinding k m b → (c : Context) → Whole k m (right_side (keeping k c) b) (right_side (keeping m c) b)
right_side_alike b s c =
    behind (behind (behind (apart_alike c b.parameters s.parameters) (λ a. annotation_alike c b.annotation s.annotation))
    (λ a. in_scope b.body.typed c (all_names b.parameters) (all_names_one b.parameters s.parameters) s.body.types)) (λ a. alone _)

pub group_names_one : {k m : Kept} (bs : List Binding) → Each (SteadyBinding k m) bs → Each (SameName k m) (names_of_group bs)
group_names_one [] no_one = no_one
group_names_one (b ∷ bs) (one_and s each) = each_append s.pattern.binds (group_names_one bs each)

in_turn_alike : {k m : Kept} (c : Context) (seen : List Name) (bs : List Binding) → Each (SteadyBinding k m) bs → Whole k m (bound_in_turn (keeping k c) seen bs) (bound_in_turn (keeping m c) seen bs)
in_turn_alike c seen [] no_one = at_end
in_turn_alike c seen (b ∷ bs) (one_and s each) =
    at_treated (behind (behind (behind (right_side_alike b s c) (λ a. s.pattern.matches c seen)) (λ a. alone _)) (λ a. in_turn_alike c (seen ++ b.pattern.mentions) bs each))

patterns_alike : {k m : Kept} (c : Context) (seen : List Name) (bs : List Binding) → Each (SteadyBinding k m) bs → Whole k m (patterns_first (keeping k c) seen bs) (patterns_first (keeping m c) seen bs)
patterns_alike c seen [] no_one = at_end
patterns_alike c seen (b ∷ bs) (one_and s each) = at_treated (behind (s.pattern.matches c seen) (λ a. patterns_alike c (seen ++ b.pattern.mentions) bs each))

right_sides_alike : {k m : Kept} (c : Context) (group : List Bound) (bs : List Binding) → Each (SameName k m) group → Each (SteadyBinding k m) bs →
    Whole k m (right_sides (keeping k c) (with_names (keeping k c) group) bs) (right_sides (keeping m c) (with_names (keeping m c) group) bs)
right_sides_alike c group [] names no_one = at_end
right_sides_alike c group (b ∷ bs) names (one_and s each) =
    behind (behind (in_scope (λ d. right_side d b) c group names (right_side_alike b s)) (λ a. alone _)) (λ a. right_sides_alike c group bs names each)

pub bindings_alike : {k m : Kept} (c : Context) (is_rec : Bool) (bs : List Binding) → Each (SteadyBinding k m) bs → Whole k m (bindings_ask (keeping k c) is_rec bs) (bindings_ask (keeping m c) is_rec bs)
bindings_alike c true bs each = behind (patterns_alike c [] bs each) (λ a. right_sides_alike c (names_of_group bs) bs (group_names_one bs each) each)
bindings_alike c false bs each = in_turn_alike c [] bs each

-- which bindings are generalised doesn't depend on the kept demands
pub generalises_alike : {k m : Kept} (c : Context) (b : Binding) → SteadyBinding k m b → generalises (keeping k c) b ≡ generalises (keeping m c) b
generalises_alike {k} {m} c b s = by b.parameters refl
  where
    by : (ps : List Pattern) → b.parameters ≡ ps → generalises (keeping k c) b ≡ generalises (keeping m c) b
    by [] e = rw (e, generalises) (s.body.values c)
    by (p ∷ ps) e = rw (e, generalises) refl

types_one : {k m : Kept} (c : Context) (bs : List Bound) → Each (SameName k m) bs → map (λ b. b.has_type (keeping k c)) bs ≡ map (λ b. b.has_type (keeping m c)) bs
types_one c [] no_one = refl
types_one {k} {m} c (b ∷ bs) (one_and s each) = heads (b.has_type (keeping k c)) (b.has_type (keeping m c)) _ _ (s.one c) (types_one c bs each)
  where
    heads : (t u : Typ) (ts us : List Typ) → t ≡ u → ts ≡ us → t ∷ ts ≡ u ∷ us
    heads t u ts us e f = cc

-- nor what is held
pub held_alike : {k m : Kept} (c : Context) (bs : List Binding) → Each (SteadyBinding k m) bs → held_by (keeping k c) bs ≡ held_by (keeping m c) bs
held_alike c [] no_one = refl
held_alike {k} {m} c (b ∷ bs) (one_and s each) =
    by (generalises (keeping k c) b) (generalises (keeping m c) b) (map (λ n. n.has_type (keeping k c)) b.pattern.names) (map (λ n. n.has_type (keeping m c)) b.pattern.names)
    (held_by (keeping k c) bs) (held_by (keeping m c) bs) (generalises_alike c b s) (types_one c b.pattern.names s.pattern.binds) (held_alike c bs each)
  where
    by : (x y : Bool) (ts us vs ws : List Typ) → x ≡ y → ts ≡ us → vs ≡ ws → (if x then vs else c.chosen.type_at b.body.node ∷ ts ++ vs) ≡ (if y then ws else c.chosen.type_at b.body.node ∷ us ++ ws)
    by x y ts us vs ws e f g = cc

-- so the names of a group stand in scope alike
pub behind_alike : {k m : Kept} (c : Context) (held : List Typ) (bs : List Binding) → Each (SteadyBinding k m) bs → behind_group (keeping k c) held bs ≡ behind_group (keeping m c) held bs
behind_alike {k} {m} c held bs each =
    entries_alike (generalised_in c.env (held ++ held_by (keeping k c) bs)) c c.env (group_names_one bs each) ∙
    ap (λ ts. entries_with (generalised_in c.env (held ++ ts)) (keeping m c) (names_of_group bs) c.env) (held_alike c bs each)

pub in_let : {k m : Kept} (f : Context → List Condition) (c : Context) (bs : List Binding) → Each (SteadyBinding k m) bs → ((d : Context) → Whole k m (f (keeping k d)) (f (keeping m d))) →
    Whole k m (f (within_let (keeping k c) bs)) (f (within_let (keeping m c) bs))
in_let {k} {m} f c bs each h =
    subst (λ E. Whole k m (f (within_let (keeping k c) bs)) (f (under E (keeping m c)))) (behind_alike c (types_written c c.variables) bs each) (h (within_let (keeping k c) bs))
