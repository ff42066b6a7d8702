-- What expressions ask, row by row (OCaml manual, 11.7).
use Rattle.std.specs.Prelude.{ℕ, ◌+◌, ◌==◌, Bool, true, false, not, ◌&&◌, List, [], ◌∷◌, ◌++◌, codes, map, filter_map, length, Option, Some, None, option_map, if◌then◌else◌}
use Rattle.token_model.specs.Kinds.{Tok, Kind, lower, upper, float, false_word}
use Rattle.tree_model.specs.Trees.{Place}
use Rattle.tree_model.specs.Rows.{Row, name_row, econ_row, epath_row, econst_row, hole_row, eparen_row, ebegin_row, elist_row, erecord_row, prefix_row, field_row, eapp_row, eassert_row, ewhile_row, efor_row, eneg_row, infix_row, econs_row, etuple_row, eset_row, eif_row, eseq_row, elet_row, ematch_row, etry_row, efun_row, efunction_row}
use Rattle.type_model.specs.Types.{Typ, Arrow, Tuple, types_of}
use Rattle.signature_model.specs.Declarations.{Name, Declaration, Label, type_of}
use Rattle.signature_model.specs.Components.{same_name}
use Rattle.signature_model.specs.Entries.{value_kind, label_kind}
use Rattle.typing_model.specs.Demands.{value_word, label_word, Demand, equal, test, no_label, not_mutable, Condition, same, instance}
use Rattle.typing_model.specs.Contexts.{Context, Bound, type_at, letter, is_kept, ask, tell, with_names}
use Rattle.typing_model.specs.Parts.{Written, Form, a_constructor, a_path, a_float, a_false, a_field, no_expression, other, Expression, Pattern, TypeExpression, Binding, Case, Field, Child, in_slot, path_in, token_in, place_of, no_expression_at, expressions_in, expression_in, patterns_in, types_in, first_of, last_of}
use Rattle.typing_model.specs.Names.{ask_bound, Built, found_by, referent_of, then_by, scheme_in, label_in, used_at}
use Rattle.typing_model.specs.BuiltIns.{int_type, unit_type, bool_type, float_type, exn_type, list_type, constant}
use Rattle.typing_model.specs.Records.{ask_record, declaration_found, field_type, ask_once, name_in, ask_complete, labels_in}
use Rattle.typing_model.specs.Patterns.{constructor_alone, built_by, applied_constructor, argument_has, ask_all, all_names, behind_first, kept_record}
use Rattle.typing_model.specs.Bindings.{bindings_ask, within_let, matched_apart, arrows, generalises}

-- an expression of the usual kind: it asks the same under a minus
abbrev pub expression : ℕ → Place → Form → (Context → List Condition) → (Context → Bool) → Expression
expression n at form typed is_value = record { node = n; at = at; form = form; typed = typed; negated = typed; is_value = is_value }

-- the same in every context
abbrev pub always : Bool → Context → Bool
always b c = b

-- expressions in order
abbrev pub typed_all : Context → List Expression → List Condition
typed_all c [] = []
typed_all c (e ∷ es) = e.typed c ++ typed_all c es

-- whether all of these expressions are non-expansive
abbrev pub all_values : Context → List Expression → Bool
all_values c [] = true
all_values c (e ∷ es) = e.is_value c && all_values c es

-- the types of expressions
abbrev pub node_types : Context → List Expression → List Typ
node_types c es = map (λ e. type_at c e.node) es

-- an expression has a type: a demand of a number at the expression
abbrev pub has_type : Context → ℕ → ℕ → Expression → Typ → List Condition
has_type c n k e t = ask n k e.at (equal (type_at c e.node) t)

-- the node has a type in any case
abbrev pub is_of : Context → ℕ → Typ → List Condition
is_of c n t = same (type_at c n) t ∷ []

-- `bound` of a value, and an instance of its scheme
abbrev pub value_asks : Context → ℕ → ℕ → Written → Typ → List Condition
value_asks c n k p t = elim p.last [
  | None ↦ []
  | Some x ↦ ask_bound c n k value_kind value_word p x ++
      elim (if is_kept c n k then then_by (referent_of (found_by c value_kind p x)) scheme_in else None) [ None ↦ [] | Some s ↦ instance s t ∷ [] ]
]

-- x, M.x, ( + ): an operator is no path to a name
abbrev pub name_form : Written → Form
name_form p = elim p.last [ None ↦ other | Some t ↦ by t.kind ]
  where
    by : Kind → Form
    by lower = a_path p
    by _ = other

-- a name, as an expression
abbrev pub name_expression : ℕ → Place → Written → Expression
name_expression n at p = expression n at (name_form p) (λ c. value_asks c n 0 p (type_at c n)) (always true)

-- A, M.A
abbrev pub constructor_expression : ℕ → Place → Written → Expression
constructor_expression n at p = expression n at (a_constructor p) (λ c. constructor_alone c n p) (always true)

-- M. , a path whose last token is missing: it asks nothing, and is no expression that is missing
abbrev pub unnamed_path : ℕ → Place → Expression
unnamed_path n at = expression n at other (λ c. []) (always true)

-- a path to a value or a constructor, by its last token
abbrev pub path_expression : ℕ → Place → Written → Expression
path_expression n at p = elim p.last [ None ↦ unnamed_path n at | Some t ↦ by t.kind ]
  where
    by : Kind → Expression
    by upper = constructor_expression n at p
    by _ = name_expression n at p

-- a literal that has a form of its own
abbrev pub literal_form : Option Tok → Form
literal_form None = other
literal_form (Some t) = by t.kind
  where
    by : Kind → Form
    by float = a_float
    by false_word = a_false
    by _ = other

-- a constant
abbrev pub constant_expression : ℕ → Place → Option Tok → Expression
constant_expression n at t = record { node = n; at = at; form = literal_form t; typed = constant false n t; negated = constant true n t; is_value = always true }

-- _
abbrev pub hole_expression : ℕ → Place → Expression
hole_expression n at = expression n at other (λ c. []) (always true)

-- ( e ), ( e : t )
abbrev pub parenthesised : ℕ → Place → Expression → Option TypeExpression → Expression
parenthesised n at e None = expression n at other (λ c. e.typed c ++ is_of c n (type_at c e.node)) e.is_value
parenthesised n at e (Some t) = expression n at other (λ c. e.typed c ++ t.read c ++ has_type c n 0 e (type_at c t.node) ++ is_of c n (type_at c t.node)) e.is_value

-- begin e end, begin end
abbrev pub begun : ℕ → Place → Option Expression → Expression
begun n at None = expression n at other (λ c. is_of c n unit_type) (always true)
begun n at (Some e) = expression n at other (λ c. e.typed c ++ is_of c n (type_at c e.node)) e.is_value

-- the type of the first of some expressions
abbrev pub first_type : Context → ℕ → List Expression → Typ
first_type c n [] = letter c n 0
first_type c n (e ∷ es) = type_at c e.node

-- each of these expressions has a type
abbrev pub each_has : Context → Typ → List Expression → List (Place × Demand)
each_has c t es = map (λ e. (e.at, equal (type_at c e.node) t)) es

-- [ e; e ]: the parts, each behind the first has its type
abbrev pub list_expression : ℕ → Place → List Expression → Expression
list_expression n at es = expression n at other
    (λ c. typed_all c es ++ ask_all n 0 (each_has c (first_type c n es) (behind_first es)) ++ is_of c n (list_type (first_type c n es)))
    (λ c. all_values c es)

-- e :: e: the right part is a list of the left
abbrev pub cons_expression : ℕ → Place → Expression → Expression → Expression
cons_expression n at e f = expression n at other
    (λ c. e.typed c ++ f.typed c ++ has_type c n 0 f (list_type (type_at c e.node)) ++ is_of c n (list_type (type_at c e.node)))
    (λ c. e.is_value c && f.is_value c)

-- e, e
abbrev pub tuple_expression : ℕ → Place → List Expression → Expression
tuple_expression n at es = expression n at other (λ c. typed_all c es ++ is_of c n (Tuple (types_of (node_types c es)))) (λ c. all_values c es)

-- a head of this type and its arguments: the head is p -> r, the argument, the argument is p; r goes on as the head's type, and the last r is the node's.
-- The demands have numbers from k on, the letters from j on.
abbrev pub applied_from : Context → ℕ → ℕ → ℕ → Place → Typ → List Expression → List Condition
applied_from c n k j at h [] = is_of c n h
applied_from c n k j at h (e ∷ es) =
    ask n k at (equal h (Arrow (letter c n j) (letter c n (j + 1)))) ++ e.typed c ++ has_type c n (k + 1) e (letter c n j) ++ applied_from c n (k + 2) (j + 2) at (letter c n (j + 1)) es

-- the arguments behind the first one of a constructor: the result goes on as the head's type
abbrev pub behind_constructor : Context → ℕ → Expression → List Expression → List Condition
behind_constructor c n head [] = is_of c n (type_at c head.node)
behind_constructor c n head (e ∷ es) = applied_from c n 3 0 head.at (type_at c head.node) (e ∷ es)

-- the same where the constructor isn't found or its module isn't known: of one argument the whole is what the constructor is, and of more it is anything
abbrev pub behind_unbound : Context → ℕ → Expression → List Expression → List Condition
behind_unbound c n head [] = is_of c n (type_at c head.node)
behind_unbound c n head (e ∷ es) = typed_all c (e ∷ es)

-- the arguments behind the first one, by the constructor that is found
abbrev pub behind_argument : Context → ℕ → Expression → List Expression → Option Built → List Condition
behind_argument c n head es None = behind_unbound c n head es
behind_argument c n head es (Some b) = behind_constructor c n head es

-- A e: `bound`, `arity`; the first argument, which is the declared one; the result, which the constructor has too
abbrev pub constructor_applied : Context → ℕ → Written → Expression → List Expression → List Condition
constructor_applied c n p head [] = head.typed c
constructor_applied c n p head (e ∷ es) =
    applied_constructor c n p head.node (head.node ∷ []) (e.typed c) (argument_has n 2 e.at (type_at c e.node)) ++
    behind_argument c n head es (then_by p.last (built_by c n p))

-- what an application asks by the form of its head
abbrev pub application_asks : Context → ℕ → Expression → List Expression → Form → List Condition
application_asks c n head es (a_constructor p) = constructor_applied c n p head es
application_asks c n head es (a_path p) = head.typed c ++ applied_from c n 0 0 head.at (type_at c head.node) es
application_asks c n head es a_float = head.typed c ++ applied_from c n 0 0 head.at (type_at c head.node) es
application_asks c n head es a_false = head.typed c ++ applied_from c n 0 0 head.at (type_at c head.node) es
application_asks c n head es (a_field p l) = head.typed c ++ applied_from c n 0 0 head.at (type_at c head.node) es
application_asks c n head es no_expression = head.typed c ++ applied_from c n 0 0 head.at (type_at c head.node) es
application_asks c n head es other = head.typed c ++ applied_from c n 0 0 head.at (type_at c head.node) es

-- a constructor with a non-expansive argument
abbrev pub is_built_value : Context → List Expression → Form → Bool
is_built_value c es (a_constructor p) = (length es == 1) && all_values c es
is_built_value c es (a_path p) = false
is_built_value c es a_float = false
is_built_value c es a_false = false
is_built_value c es (a_field p l) = false
is_built_value c es no_expression = false
is_built_value c es other = false

-- e e e
abbrev pub application : ℕ → Place → Expression → List Expression → Expression
application n at head es = expression n at other (λ c. application_asks c n head es head.form) (λ c. is_built_value c es head.form)

-- an operator with its arguments: `bound`, and then as an application of it; its own type is the letter 0
abbrev pub operator_applied : Context → ℕ → Option Tok → Name → List Expression → List Condition
operator_applied c n None x es = typed_all c es
operator_applied c n (Some t) x es =
    value_asks c n 0 (record { qualifiers = []; last = Some (record t { name = x }) }) (letter c n 0) ++ applied_from c n 1 1 (place_of t) (letter c n 0) es

-- the name of a token; none where it is missing
abbrev pub name_of : Option Tok → Name
name_of None = []
name_of (Some t) = t.name

-- e + e
abbrev pub infix_expression : ℕ → Place → Option Tok → Expression → Expression → Expression
infix_expression n at t e f = expression n at other (λ c. operator_applied c n t (name_of t) (e ∷ f ∷ [])) (always false)

-- ! e
abbrev pub prefix_expression : ℕ → Place → Option Tok → Expression → Expression
prefix_expression n at t e = expression n at other (λ c. operator_applied c n t (name_of t) (e ∷ [])) (always false)

-- the expression as it stands directly under a sign: under `-`, and not under `-.`, a numeral may be one more
abbrev pub under_sign : Option Tok → Expression → Expression
under_sign t e = if same_name (name_of t) (codes "-") then record e { typed = e.negated } else e

-- - e, -. e: over a numeral with a point its type is float, and elsewhere it is ~- or ~-. with its argument
abbrev pub minus_asks : Context → ℕ → Option Tok → Expression → Form → List Condition
minus_asks c n t e a_float = e.negated c ++ is_of c n float_type
minus_asks c n t e (a_constructor p) = operator_applied c n t (codes "~" ++ name_of t) (under_sign t e ∷ [])
minus_asks c n t e (a_path p) = operator_applied c n t (codes "~" ++ name_of t) (under_sign t e ∷ [])
minus_asks c n t e a_false = operator_applied c n t (codes "~" ++ name_of t) (under_sign t e ∷ [])
minus_asks c n t e (a_field p l) = operator_applied c n t (codes "~" ++ name_of t) (under_sign t e ∷ [])
minus_asks c n t e no_expression = operator_applied c n t (codes "~" ++ name_of t) (under_sign t e ∷ [])
minus_asks c n t e other = operator_applied c n t (codes "~" ++ name_of t) (under_sign t e ∷ [])

-- a minus in front of an expression
abbrev pub minus_expression : ℕ → Place → Option Tok → Expression → Expression
minus_expression n at t e = expression n at other (λ c. minus_asks c n t e e.form) (always false)

-- the label that a path finds, and its declaration
abbrev pub label_found : Context → Written → Option (Declaration × Label)
label_found c p = then_by p.last (λ t. then_by (referent_of (found_by c label_kind p t)) label_in)

-- e . l: the left part; `bound` of the label; the left part is the record; the field
abbrev pub field_asks : Context → ℕ → Expression → Written → List Condition
field_asks c n e p = elim p.last [
  | None ↦ e.typed c
  | Some t ↦ e.typed c ++ ask_bound c n 0 label_kind label_word p t ++
      elim (if is_kept c n 0 then label_found c p else None) [ None ↦ [] | Some (d, l) ↦ has_type c n 1 e (used_at c n (type_of d)) ++ is_of c n (used_at c n l.body) ]
]

-- e . l, as an expression
abbrev pub field_expression : ℕ → Place → Expression → Written → Expression
field_expression n at e p = expression n at (a_field p (λ c. if is_kept c n 0 then option_map (λ r. r.1) (label_found c p) else None)) (λ c. field_asks c n e p) e.is_value

-- `mutable` of the label of a field
abbrev pub ask_mutable : Context → ℕ → Form → List Condition
ask_mutable c n (a_field p label) = elim (label c) [ None ↦ [] | Some l ↦ elim p.last [ None ↦ [] | Some t ↦ ask n 0 (place_of t) (test (not_mutable t.name) l.is_mutable) ] ]
ask_mutable c n (a_constructor p) = []
ask_mutable c n (a_path p) = []
ask_mutable c n a_float = []
ask_mutable c n a_false = []
ask_mutable c n no_expression = []
ask_mutable c n other = []

-- e . l <- e: as the field; `mutable`; the right part, which is the field
abbrev pub set_expression : ℕ → Place → Expression → Expression → Expression
set_expression n at e f = expression n at other
    (λ c. e.typed c ++ ask_mutable c n e.form ++ f.typed c ++ has_type c n 1 f (type_at c e.node) ++ is_of c n unit_type) (always false)

-- the value of a field that has none of its own: the name of its label
abbrev pub pun_asks : Context → Field → Option Typ → List Condition
pun_asks c f t = elim f.label.last [
  | None ↦ []
  | Some x ↦ value_asks c f.node 1 (record { qualifiers = []; last = Some x }) (letter c f.node 0) ++
      elim t [ None ↦ [] | Some t ↦ ask f.node 2 (place_of x) (equal (letter c f.node 0) t) ]
]

-- a field's own node, which a first part read as a label tells as well
abbrev pub told_field : Context → Field → List Condition
told_field c f = tell f.node c

-- a field: its label is new where the record is found; the value, which is the field
abbrev pub field_value_asks : Context → Bool → Field → List Name → Option Typ → List Condition
field_value_asks c is_found f labels t =
    told_field c f ++ (if is_found then ask_once f.node 0 labels f.label else []) ++
    elim f.value [ None ↦ pun_asks c f t | Some e ↦ e.typed c ++ elim t [ None ↦ [] | Some t ↦ has_type c f.node 2 e t ] ]

-- whether there is one
abbrev pub is_some : {A : Type 0} → Option A → Bool
is_some None = false
is_some (Some a) = true

-- fields in order, each behind the labels of those before
abbrev pub fields_ask : Context → ℕ → Option Declaration → List Field → List Name → List Condition
fields_ask c n found [] labels = []
fields_ask c n found (f ∷ fs) labels =
    field_value_asks c (is_some found) f labels (field_type c n f.node found f.label) ++ fields_ask c n found fs (labels ++ name_in f.label)

-- the labels of fields
abbrev pub labels_of : List Field → List Written
labels_of fs = map (λ f. f.label) fs

-- the names of the labels that are written
abbrev pub names_of_labels : List Field → List Name
names_of_labels [] = []
names_of_labels (f ∷ fs) = name_in f.label ++ names_of_labels fs

-- the node has the type of the record, if it is found
abbrev pub is_record : Context → ℕ → Option Declaration → List Condition
is_record c n None = []
is_record c n (Some d) = is_of c n (used_at c n (type_of d))

-- { l = e }: the type by its labels, the fields, `complete`; `before` and `loose` are what a first part that is no label asks
abbrev pub record_asks : Context → ℕ → Place → List Condition → List Condition → List Field → List Condition
record_asks c n at before loose fs =
    let found = kept_record c n 1 (labels_of fs) in
    before ++ ask_record c n 1 (labels_of fs) ++ loose ++ fields_ask c n found fs [] ++ ask_complete n 3 at found (names_of_labels fs) ++ is_record c n found

-- { e with l = e }: the first part; the type by the labels; the first part is the record; the fields
abbrev pub update_asks : Context → ℕ → Expression → List Field → List Condition
update_asks c n e fs =
    let found = kept_record c n 1 (labels_of fs) in
    e.typed c ++ ask_record c n 1 (labels_of fs) ++ elim found [ None ↦ [] | Some d ↦ has_type c n 2 e (used_at c n (type_of d)) ] ++ fields_ask c n found fs [] ++ is_record c n found

-- the first part of a record, read as a label where it is a path to one
abbrev pub first_field : Form → ℕ → Option Expression → List Field
first_field (a_path p) n value = record { node = n; label = p; value = value } ∷ []
first_field (a_constructor p) n value = []
first_field a_float n value = []
first_field a_false n value = []
first_field (a_field p l) n value = []
first_field no_expression n value = []
first_field other n value = []

-- what a first part asks that isn't read as a label: `label`, and then as an expression; one that is missing makes no demand `label`
abbrev pub before_labels : Context → ℕ → Expression → Form → List Condition
before_labels c n e (a_path p) = []
before_labels c n e no_expression = e.typed c
before_labels c n e (a_constructor p) = ask n 0 e.at (test no_label false) ++ e.typed c
before_labels c n e a_float = ask n 0 e.at (test no_label false) ++ e.typed c
before_labels c n e a_false = ask n 0 e.at (test no_label false) ++ e.typed c
before_labels c n e (a_field p l) = ask n 0 e.at (test no_label false) ++ e.typed c
before_labels c n e other = ask n 0 e.at (test no_label false) ++ e.typed c

-- the value behind the `=` of a first part that isn't read as a label
abbrev pub loose_value : Context → Form → Option Expression → List Condition
loose_value c (a_path p) value = []
loose_value c (a_constructor p) value = typed_all c (elim value [ None ↦ [] | Some e ↦ e ∷ [] ])
loose_value c a_float value = typed_all c (elim value [ None ↦ [] | Some e ↦ e ∷ [] ])
loose_value c a_false value = typed_all c (elim value [ None ↦ [] | Some e ↦ e ∷ [] ])
loose_value c (a_field p l) value = typed_all c (elim value [ None ↦ [] | Some e ↦ e ∷ [] ])
loose_value c no_expression value = typed_all c (elim value [ None ↦ [] | Some e ↦ e ∷ [] ])
loose_value c other value = typed_all c (elim value [ None ↦ [] | Some e ↦ e ∷ [] ])

-- whether the values of fields are non-expansive, and no label of their record is mutable
abbrev pub all_field_values : Context → List Field → Bool
all_field_values c [] = true
all_field_values c (f ∷ fs) = elim f.value [ None ↦ true | Some e ↦ e.is_value c ] && all_field_values c fs

-- whether no label is mutable
abbrev pub none_mutable : List Label → Bool
none_mutable [] = true
none_mutable (l ∷ ls) = not l.is_mutable && none_mutable ls

-- whether a record is non-expansive: its values are, and no label is mutable
abbrev pub is_constant_record : Context → List Field → Bool
is_constant_record c fs = elim (declaration_found c (labels_of fs)) [ None ↦ true | Some d ↦ none_mutable (labels_in d.shape) ] && all_field_values c fs

-- { l = e }, as an expression
abbrev pub record_expression : ℕ → Place → Expression → Option Expression → List Field → Expression
record_expression n at e value fs = expression n at other
    (λ c. record_asks c n at (before_labels c n e e.form) (loose_value c e.form value) (first_field e.form e.node value ++ fs))
    (λ c. is_constant_record c (first_field e.form e.node value ++ fs))

-- { e with l = e }, as an expression
abbrev pub update_expression : ℕ → Place → Expression → List Field → Expression
update_expression n at e fs = expression n at other (λ c. update_asks c n e fs) (λ c. e.is_value c && is_constant_record c fs)

-- assert e; over `false` it has any type
abbrev pub assert_asks : Context → ℕ → Expression → Form → List Condition
assert_asks c n e a_false = e.typed c
assert_asks c n e (a_constructor p) = e.typed c ++ has_type c n 0 e bool_type ++ is_of c n unit_type
assert_asks c n e (a_path p) = e.typed c ++ has_type c n 0 e bool_type ++ is_of c n unit_type
assert_asks c n e a_float = e.typed c ++ has_type c n 0 e bool_type ++ is_of c n unit_type
assert_asks c n e (a_field p l) = e.typed c ++ has_type c n 0 e bool_type ++ is_of c n unit_type
assert_asks c n e no_expression = e.typed c ++ has_type c n 0 e bool_type ++ is_of c n unit_type
assert_asks c n e other = e.typed c ++ has_type c n 0 e bool_type ++ is_of c n unit_type

-- whether a form is the word `false`
abbrev pub is_false : Form → Bool
is_false a_false = true
is_false (a_constructor p) = false
is_false (a_path p) = false
is_false a_float = false
is_false (a_field p l) = false
is_false no_expression = false
is_false other = false

-- assert e, as an expression
abbrev pub assert_expression : ℕ → Place → Expression → Expression
assert_expression n at e = expression n at other (λ c. assert_asks c n e e.form) (always (is_false e.form))

-- if e then e else e: each part is followed by its own demand
abbrev pub if_expression : ℕ → Place → Expression → Expression → Option Expression → Expression
if_expression n at e f None = expression n at other
    (λ c. e.typed c ++ has_type c n 0 e bool_type ++ f.typed c ++ has_type c n 1 f unit_type ++ is_of c n unit_type) f.is_value
if_expression n at e f (Some g) = expression n at other
    (λ c. e.typed c ++ has_type c n 0 e bool_type ++ f.typed c ++ g.typed c ++ has_type c n 1 g (type_at c f.node) ++ is_of c n (type_at c f.node))
    (λ c. f.is_value c && g.is_value c)

-- e; e: the type of the last part
abbrev pub sequence_expression : ℕ → Place → List Expression → Expression
sequence_expression n at es = expression n at other (λ c. typed_all c es ++ elim (last_of es) [ None ↦ [] | Some e ↦ is_of c n (type_at c e.node) ]) (always false)

-- while e do e done
abbrev pub while_expression : ℕ → Place → Expression → Expression → Expression
while_expression n at e f = expression n at other (λ c. e.typed c ++ has_type c n 0 e bool_type ++ f.typed c ++ is_of c n unit_type) (always false)

-- the variable of a loop
abbrev pub loop_names : Option Tok → List Bound
loop_names None = []
loop_names (Some t) = record { name = t.name; place = place_of t; has_type = λ c. int_type } ∷ []

-- for x = e to e do e done
abbrev pub for_expression : ℕ → Place → Option Tok → Expression → Expression → Expression → Expression
for_expression n at x e f g = expression n at other
    (λ c. e.typed c ++ has_type c n 0 e int_type ++ f.typed c ++ has_type c n 1 f int_type ++ g.typed (with_names c (loop_names x)) ++ is_of c n unit_type) (always false)

-- what the cases of a match ask: of each the pattern, which has the type of the subject, the guard, which is a bool, and the body, which has the type of the bodies;
-- the demands of a case have the numbers k, k + 1 and k + 2
abbrev pub guard_asks : Context → ℕ → ℕ → Option Expression → List Condition
guard_asks c n k None = []
guard_asks c n k (Some e) = e.typed c ++ has_type c n k e bool_type

-- one case
abbrev pub case_asks : Context → ℕ → ℕ → Typ → Option Typ → Case → List Condition
case_asks c n k subject result a =
    let inner = with_names c a.pattern.names in
    tell a.node c ++ a.pattern.matched c [] ++ ask n k a.pattern.at (equal (type_at c a.pattern.node) subject) ++ guard_asks inner n (k + 1) a.guard ++ a.body.typed inner ++
    elim result [ None ↦ [] | Some t ↦ has_type c n (k + 2) a.body t ]

-- the cases behind the first one, whose bodies have its type
abbrev pub later_cases : Context → ℕ → ℕ → Typ → Typ → List Case → List Condition
later_cases c n k subject result [] = []
later_cases c n k subject result (a ∷ as_) = case_asks c n k subject (Some result) a ++ later_cases c n (k + 3) subject result as_

-- the body of the first case has the type of the bodies
abbrev pub cases_ask : Context → ℕ → Typ → List Case → List Condition
cases_ask c n subject [] = []
cases_ask c n subject (a ∷ as_) = case_asks c n 0 subject None a ++ later_cases c n 3 subject (type_at c a.body.node) as_

-- the type of the first body; without a case any type
abbrev pub first_body : Context → ℕ → List Case → Typ
first_body c n [] = letter c n 1
first_body c n (a ∷ as_) = type_at c a.body.node

-- whether no case has a guard, and all bodies are non-expansive
abbrev pub cases_are_values : Context → List Case → Bool
cases_are_values c [] = true
cases_are_values c (a ∷ as_) = not (is_some a.guard) && a.body.is_value c && cases_are_values c as_

-- match e with c | c
abbrev pub match_expression : ℕ → Place → Expression → List Case → Expression
match_expression n at e cases = expression n at other
    (λ c. e.typed c ++ cases_ask c n (type_at c e.node) cases ++ is_of c n (first_body c n cases)) (λ c. e.is_value c && cases_are_values c cases)

-- try e with c | c: the patterns are exceptions, the bodies have the type of the part
abbrev pub try_expression : ℕ → Place → Expression → List Case → Expression
try_expression n at e cases = expression n at other
    (λ c. e.typed c ++ later_cases c n 0 exn_type (type_at c e.node) cases ++ is_of c n (type_at c e.node)) (always false)

-- function c | c
abbrev pub function_expression : ℕ → Place → List Case → Expression
function_expression n at cases = expression n at other
    (λ c. cases_ask c n (letter c n 0) cases ++ is_of c n (Arrow (letter c n 0) (first_body c n cases))) (always true)

-- fun p p -> e
abbrev pub fun_expression : ℕ → Place → List Pattern → Expression → Expression
fun_expression n at ps e = expression n at other
    (λ c. matched_apart c ps ++ e.typed (with_names c (all_names ps)) ++ is_of c n (arrows c ps (type_at c e.node))) (always true)

-- let b and b in e
abbrev pub all_generalise : Context → List Binding → Bool
all_generalise c [] = true
all_generalise c (b ∷ bs) = generalises c b && all_generalise c bs

-- a let with a body, as an expression
abbrev pub let_expression : ℕ → Place → Bool → List Binding → Expression → Expression
let_expression n at is_rec bs e = expression n at other
    (λ c. bindings_ask c is_rec bs ++ e.typed (within_let c bs) ++ is_of c n (type_at c e.node)) (λ c. all_generalise c bs && e.is_value c)

-- the cases in a slot
abbrev pub cases_in : ℕ → List Child → List Case
cases_in s cs = filter_map (λ c. c.case) (in_slot s cs)

-- the fields in a slot
abbrev pub fields_in : ℕ → List Child → List Field
fields_in s cs = filter_map (λ c. c.field) (in_slot s cs)

-- the bindings in a slot
abbrev pub bindings_in : ℕ → List Child → List Binding
bindings_in s cs = filter_map (λ c. c.binding) (in_slot s cs)

-- an expression by its row
unfoldable pub expression_row : Row → ℕ → Place → List Child → Expression
expression_row name_row n at cs = name_expression n at (path_in 9 0 cs)
expression_row econ_row n at cs = constructor_expression n at (path_in 9 0 cs)
expression_row epath_row n at cs = path_expression n at (path_in 0 1 cs)
expression_row econst_row n at cs = constant_expression n at (token_in 0 cs)
expression_row hole_row n at cs = hole_expression n at
expression_row eparen_row n at cs = parenthesised n at (expression_in 1 cs) (first_of (types_in 3 cs))
expression_row ebegin_row n at cs = begun n at (first_of (expressions_in 1 cs))
expression_row elist_row n at cs = list_expression n at (expressions_in 1 cs)
expression_row erecord_row n at cs =
    if is_some (token_in 4 cs) then update_expression n at (expression_in 1 cs) (fields_in 5 cs) else record_expression n at (expression_in 1 cs) (first_of (expressions_in 3 cs)) (fields_in 5 cs)
expression_row prefix_row n at cs = prefix_expression n at (token_in 0 cs) (expression_in 1 cs)
expression_row field_row n at cs = field_expression n at (expression_in 0 cs) (path_in 2 3 cs)
expression_row eapp_row n at cs = application n at (expression_in 0 cs) (expressions_in 1 cs)
expression_row eassert_row n at cs = assert_expression n at (expression_in 1 cs)
expression_row ewhile_row n at cs = while_expression n at (expression_in 1 cs) (expression_in 3 cs)
expression_row efor_row n at cs = for_expression n at (token_in 1 cs) (expression_in 3 cs) (expression_in 5 cs) (expression_in 7 cs)
expression_row eneg_row n at cs = minus_expression n at (token_in 0 cs) (expression_in 1 cs)
expression_row infix_row n at cs = infix_expression n at (token_in 1 cs) (expression_in 0 cs) (expression_in 2 cs)
expression_row econs_row n at cs = cons_expression n at (expression_in 0 cs) (expression_in 2 cs)
expression_row etuple_row n at cs = tuple_expression n at (expressions_in 0 cs ++ expressions_in 2 cs)
expression_row eset_row n at cs = set_expression n at (expression_in 0 cs) (expression_in 2 cs)
expression_row eif_row n at cs = if_expression n at (expression_in 1 cs) (expression_in 3 cs) (first_of (expressions_in 5 cs))
expression_row eseq_row n at cs = sequence_expression n at (expressions_in 0 cs ++ expressions_in 2 cs)
expression_row elet_row n at cs = let_expression n at (is_some (token_in 1 cs)) (bindings_in 2 cs) (expression_in 5 cs)
expression_row ematch_row n at cs = match_expression n at (expression_in 1 cs) (cases_in 4 cs)
expression_row etry_row n at cs = try_expression n at (expression_in 1 cs) (cases_in 4 cs)
expression_row efun_row n at cs = fun_expression n at (patterns_in 1 cs) (expression_in 3 cs)
expression_row efunction_row n at cs = function_expression n at (cases_in 4 cs)
expression_row _ n at cs = no_expression_at n at
