-- Bindings: their demands in order, and the schemes of their names (OCaml manual, 11.7.2; Damas and Milner 1982).
use Rattle.std.specs.Prelude.{Bool, true, false, List, [], ◌∷◌, ◌++◌, map, Option, Some, None, if◌then◌else◌}
use Rattle.type_model.specs.Types.{Typ, Arrow}
use Rattle.signature_model.specs.Declarations.{Name}
use Rattle.signature_model.specs.Entries.{Environment}
use Rattle.typing_model.specs.Demands.{equal, Condition}
use Rattle.typing_model.specs.Contexts.{Context, Bound, Variables, in_item, parameters, under, type_at, ask, tell, with_names, entries_with, generalised_in}
use Rattle.typing_model.specs.Parts.{Pattern, TypeExpression, Binding}
use Rattle.typing_model.specs.Patterns.{all_names}

-- each parameter is a pattern of its own
abbrev pub matched_apart : Context → List Pattern → List Condition
matched_apart c [] = []
matched_apart c (p ∷ ps) = p.matched c [] ++ matched_apart c ps

-- from the types of parameters to a type
abbrev pub arrows : Context → List Pattern → Typ → Typ
arrows c [] t = t
arrows c (p ∷ ps) t = Arrow (type_at c p.node) (arrows c ps t)

-- the type of a right side: the written one where there is one
abbrev pub right_type : Context → Binding → Typ
right_type c b = elim b.annotation [ None ↦ type_at c b.body.node | Some t ↦ type_at c t.node ]

-- a written type is read, if there is one
abbrev pub read_annotation : Context → Option TypeExpression → List Condition
read_annotation c None = []
read_annotation c (Some t) = t.read c

-- and the right side has it
abbrev pub has_annotation : Context → Binding → Option TypeExpression → List Condition
has_annotation c b None = []
has_annotation c b (Some t) = ask b.node 0 b.body.at (equal (type_at c b.body.node) (type_at c t.node))

-- the parameters, the annotation, the right side, which has the written type; `outer` is what the parameters stand in
abbrev pub right_side : Context → Binding → List Condition
right_side outer b =
    matched_apart outer b.parameters ++ read_annotation outer b.annotation ++ b.body.typed (with_names outer (all_names b.parameters)) ++ has_annotation outer b b.annotation

-- the pattern has the type of the whole
abbrev pub pattern_has : Context → Binding → List Condition
pattern_has c b = ask b.node 1 b.pattern.at (equal (type_at c b.pattern.node) (arrows c b.parameters (right_type c b)))

-- the names of a group
abbrev pub names_of_group : List Binding → List Bound
names_of_group [] = []
names_of_group (b ∷ bs) = b.pattern.names ++ names_of_group bs

-- without `rec`: of each binding the right side and then the pattern, all in the context outside
abbrev pub bound_in_turn : Context → List Name → List Binding → List Condition
bound_in_turn c seen [] = []
bound_in_turn c seen (b ∷ bs) = tell b.node c ++ right_side c b ++ b.pattern.matched c seen ++ pattern_has c b ++ bound_in_turn c (seen ++ b.pattern.mentions) bs

-- with `rec`: all patterns first
abbrev pub patterns_first : Context → List Name → List Binding → List Condition
patterns_first c seen [] = []
patterns_first c seen (b ∷ bs) = tell b.node c ++ b.pattern.matched c seen ++ patterns_first c (seen ++ b.pattern.mentions) bs

-- then each right side, in which the names of the group have one type each
abbrev pub right_sides : Context → Context → List Binding → List Condition
right_sides c inner [] = []
right_sides c inner (b ∷ bs) = right_side inner b ++ pattern_has c b ++ right_sides c inner bs

-- with `rec`: the patterns, and then the right sides among the names
abbrev pub bound_together : Context → List Binding → List Condition
bound_together c bs = patterns_first c [] bs ++ right_sides c (with_names c (names_of_group bs)) bs

-- what a group of bindings asks, with or without `rec`
abbrev pub bindings_ask : Context → Bool → List Binding → List Condition
bindings_ask c true bs = bound_together c bs
bindings_ask c false bs = bound_in_turn c [] bs

-- whether the names of a binding are generalised: it has parameters, or its right side is non-expansive (Wright 1995)
abbrev pub generalises : Context → Binding → Bool
generalises c b = elim b.parameters [ [] ↦ b.body.is_value c | p ∷ ps ↦ true ]

-- the types whose variables a group doesn't bind: those of the right sides that may not be generalised, and of the names that they bind
abbrev pub held_by : Context → List Binding → List Typ
held_by c [] = []
held_by c (b ∷ bs) = if generalises c b then held_by c bs else type_at c b.body.node ∷ map (λ n. n.has_type c) b.pattern.names ++ held_by c bs

-- the types of the type variables that are written in the item round a binding
abbrev pub types_written : Context → Variables → List Typ
types_written c (in_item i) = map (c.chosen.written i) c.held
types_written c (parameters ps) = []

-- the environment behind a group: each name with its type generalised in the environment outside
abbrev pub behind_group : Context → List Typ → List Binding → Environment
behind_group c held bs = entries_with (generalised_in c.env (held ++ held_by c bs)) c (names_of_group bs) c.env

-- the context of the body of `let .. in`
abbrev pub within_let : Context → List Binding → Context
within_let c bs = under (behind_group c (types_written c c.variables) bs) c
