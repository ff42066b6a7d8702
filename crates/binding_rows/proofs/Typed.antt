-- Typed and opened bindings later on, and the demand that a pattern has the type of the whole.
use Rattle.std.proofs.Common.{◌≡◌, ◌∙◌, ◌++◌, ℕ, List, [], ◌∷◌, Option, Some, None, refl, sym, ap, subst, append-nil}
use Rattle.tree_model.specs.Trees.{Place}
use Rattle.type_model.specs.Types.{Typ}
use Rattle.type_model.specs.Types.{Typ as type}
use Rattle.typing_model.specs.Demands.{site, equal}
use Rattle.typing_model.specs.Contexts.{Choice, Context, ask, type_at}
use Rattle.typing_model.specs.Parts.{Pattern, TypeExpression, Binding}
use Rattle.typing_model.specs.Bindings.{arrows, pattern_has, names_of_group}
use Rattle.env_table.specs.declared.entries.Entry.{Entry}
use Rattle.typing_state.specs.declared.parts.Parts.{Parts}
use Rattle.typing_conditions.specs.Sights.{Sight, Letters}
use Rattle.typing_conditions.specs.Frames.{Frame}
use Rattle.typing_conditions.specs.Carrying.{Stays, Carried}
use Rattle.typing_conditions.proofs.Carried.{carried_trans, carried_as}
use Rattle.typing_conditions.proofs.Meaning.{means_on}
use Rattle.typing_steps.specs.States.{sight}
use Rattle.typing_steps.specs.Typing.{AsksEqual}
use Rattle.typing_steps.specs.Warning.{OnlyWarnings}
use Rattle.pattern_rows.specs.Bounds.{AllBound, none_bound}
use Rattle.pattern_rows.specs.Contracts.{types_at}
use Rattle.pattern_rows.proofs.Naming.{all_bound_on, all_bound_both}
use Rattle.binding_rows.specs.Parameters.{arrows_by}
use Rattle.binding_rows.proofs.Scopes.{only_warned}
use Rattle.binding_rows.specs.Rights.{right_by}
use Rattle.binding_rows.specs.Groups.{TypedBinding, IsTyped, AllTyped, none_typed, one_typed, names_typed, OpenedBinding, IsOpened, AllOpened, none_opened, one_opened, names_opened, whole_asks, AsksWhole}

-- a typed binding stands for the same later on
pub is_typed_on : {F : Frame} {a b : Sight} {G H : Letters} {x : Binding} {y : TypedBinding} → Stays F a G b H → IsTyped F a G x y → IsTyped F b H x y
is_typed_on s h = record { names = all_bound_on s h.names; right = means_on s h.right }

-- so do typed bindings
pub all_typed_on : {F : Frame} {a b : Sight} {G H : Letters} {xs : List Binding} {ys : List TypedBinding} → Stays F a G b H → AllTyped F a G xs ys → AllTyped F b H xs ys
all_typed_on s none_typed = none_typed
all_typed_on s (one_typed h hs) = one_typed (is_typed_on s h) (all_typed_on s hs)

-- some typed bindings, and then one more
pub all_typed_more : {F : Frame} {a : Sight} {G : Letters} {xs : List Binding} {ys : List TypedBinding} {x : Binding} {y : TypedBinding} → AllTyped F a G xs ys → IsTyped F a G x y → AllTyped F a G (xs ++ x ∷ []) (ys ++ y ∷ [])
all_typed_more none_typed h = one_typed h none_typed
all_typed_more (one_typed p ps) h = one_typed p (all_typed_more ps h)

-- the names of a group
pub group_names : {F : Frame} {a : Sight} {G : Letters} {xs : List Binding} {ys : List TypedBinding} → AllTyped F a G xs ys → AllBound F a G (names_of_group xs) (names_typed ys)
group_names none_typed = none_bound
group_names (one_typed h hs) = all_bound_both h.names (group_names hs)

-- an opened binding stands for the same later on
pub is_opened_on : {F : Frame} {a b : Sight} {G H : Letters} {x : Binding} {y : OpenedBinding} → Stays F a G b H → IsOpened F a G x y → IsOpened F b H x y
is_opened_on s h = record { means = means_on s h.means; names = all_bound_on s h.names }

-- so do opened bindings
pub all_opened_on : {F : Frame} {a b : Sight} {G H : Letters} {xs : List Binding} {ys : List OpenedBinding} → Stays F a G b H → AllOpened F a G xs ys → AllOpened F b H xs ys
all_opened_on s none_opened = none_opened
all_opened_on s (one_opened h hs) = one_opened (is_opened_on s h) (all_opened_on s hs)

-- some opened bindings, and then one more
pub all_opened_more : {F : Frame} {a : Sight} {G : Letters} {xs : List Binding} {ys : List OpenedBinding} {x : Binding} {y : OpenedBinding} → AllOpened F a G xs ys → IsOpened F a G x y → AllOpened F a G (xs ++ x ∷ []) (ys ++ y ∷ [])
all_opened_more none_opened h = one_opened h none_opened
all_opened_more (one_opened p ps) h = one_opened p (all_opened_more ps h)

-- the names of opened bindings are those of the group
pub opened_names : {F : Frame} {a : Sight} {G : Letters} {xs : List Binding} {ys : List OpenedBinding} → AllOpened F a G xs ys → AllBound F a G (names_of_group xs) (names_opened ys)
opened_names none_opened = none_bound
opened_names (one_opened h hs) = all_bound_both h.names (opened_names hs)

-- the arrow of the definitions is that over the types of the parameters
pub arrows_same : (c : Context) (ps : List Pattern) (to : Choice → Typ) → arrows_by (types_at ps) to c.chosen ≡ arrows c ps (to c.chosen)
arrows_same c [] to = refl
arrows_same c (p ∷ ps) to = ap (λ t. type.Arrow (c.chosen.type_at p.node) t) (arrows_same c ps to)

-- the type of a right side is that by the choice
right_same : (c : Context) (x : Binding) (o : Option TypeExpression) → right_by o x.body c.chosen ≡ elim o [ None ↦ type_at c x.body.node | Some t ↦ type_at c t.node ]
right_same c x None = refl
right_same c x (Some w) = refl

-- the pattern has the type of the whole
pub whole_same : (c : Context) (x : Binding) → whole_asks c.chosen x ≡ pattern_has c x
whole_same c x =
    ap (λ t. ask x.node 1 x.pattern.at (equal (type_at c x.pattern.node) t)) (arrows_same c x.parameters (right_by x.annotation x.body) ∙ ap (λ t. arrows c x.parameters t) (right_same c x x.annotation))

-- the demand, and the warnings of the pattern
pub whole_asked : (a b d : Parts) (env : List Entry) (p : Pattern) (at : Place) (found whole : ℕ) → p.at ≡ at → AsksEqual a b env at found whole → OnlyWarnings b d → AsksWhole a d env p found whole
whole_asked a b d env p at found whole place asked warned = λ aloud F scope G n t its sees is has.
    let x = asked aloud F scope G (site n 1) (λ ch. ch.type_at p.node) t its sees is has in
    let y = subst (λ l. Carried F scope (λ c. ask n 1 l (equal (type_at c p.node) (t c.chosen))) (sight a) G (sight b) G) (sym place) x in
    carried_as (λ c. append-nil (ask n 1 p.at (equal (type_at c p.node) (t c.chosen)))) (carried_trans y (only_warned b d warned))
