-- A text without modules makes no demand on signatures, so it asks for no closing.
use Rattle.std.proofs.Common.{◌≡◌, ℕ, ◌+◌, ◌==◌, Bool, true, false, not, List, [], ◌∷◌, ◌++◌, filter_map, length, Option, Some, None, option_map, refl, sym, subst, if◌then◌else◌}
use Rattle.token_model.specs.Kinds.{Tok}
use Rattle.tree_model.specs.Trees.{Place, place, Tree, Forest, Part, node, no_parts, part, taken, inner, missing, part_size, part_yield}
use Rattle.tree_model.specs.Rows.{Row, binding_row, case_row, ffield_row, qfield_row, con_row, label_row, decl_row, alias_row, variant_row, record_row, tvar_row, tcon_row, tparen_row, tapp_row, ttuple_row, tarrow_row, pname_row, pany_row, pconst_row, pneg_row, pcon_row, pparen_row, plist_row, precord_row, papp_row, pcons_row, ptuple_row, por_row, pas_row, name_row, econ_row, epath_row, econst_row, hole_row, eparen_row, ebegin_row, elist_row, erecord_row, prefix_row, field_row, eapp_row, eassert_row, ewhile_row, efor_row, eneg_row, infix_row, econs_row, etuple_row, eset_row, eif_row, eseq_row, elet_row, ematch_row, etry_row, efun_row, efunction_row, let_row, type_row, exception_row, break_row}
use Rattle.signature_model.specs.Declarations.{Name}
use Rattle.signature_model.specs.Entries.{Environment}
use Rattle.signature_model.specs.Signatures.{Signature}
use Rattle.typing_model.specs.Demands.{Site, site, same_site, Demand, equal, test, agrees, matches, closes, cyclic, twice, Condition, demand_of}
use Rattle.typing_model.specs.Contexts.{Context, Bound, parameters, under, type_at, letter, ask, with_names, Choice}
use Rattle.typing_model.specs.Parts.{Expression, Pattern, TypeExpression, Binding, ConstructorPart, LabelPart, Told, constructors, labels, RightSide, another, own, DeclarationPart, Item, Seen, Child, in_slot, path_in, token_in, expressions_in, expression_in, patterns_in, pattern_in, types_in, type_in, first_of, no_expression_at, no_pattern_at, no_type_at, place_of, no_names, seen_too}
use Rattle.typing_model.specs.BuiltIns.{exn_type}
use Rattle.typing_model.specs.Names.{then_by}
use Rattle.typing_model.specs.Patterns.{all_names, behind_first, first_type, pattern_row}
use Rattle.typing_model.specs.TypeExpressions as types
use Rattle.typing_model.specs.Expressions.{expression_row, cases_in, fields_in, bindings_in, is_some, update_expression, record_expression, name_of, loop_names, expression}
use Rattle.typing_model.specs.Expressions as expressions
use Rattle.typing_model.specs.Bindings.{names_of_group, within_let}
use Rattle.typing_model.specs.Declarations.{names_asked, names_of_types, read_optional, constructors_read, labels_read, constructors_new, labels_new, shape_asks, reexport_asked, names_itself, shape_of, token_name, right_asks, declarations_ask, abbreviation_in, contains_itself, cycles_asked, new_tokens, names_of_tokens, told_row, right_side_row}
use Rattle.typing_model.specs.Records.{is_among}
use Rattle.typing_model.specs.Items.{inside_item, names_made, let_item, type_item, exception_item, items_ask}
use Rattle.typing_model.specs.Modules.{item_row}
use Rattle.typing_model.specs.Meanings.{binding_of, case_of, field_of, field_pattern_of, constructor_of, label_of, declaration_of, recorded_item, node_child, leaf_child, children_of, child_of, tree_child, item_base, items_from, items_of}
use Rattle.typing_model.specs.Typings.{outermost, conditions_of, no_choice, body_in, body_asked, body_at, is_closing}
use Rattle.typing_model.specs.Plain.{is_plain_row, is_plain_item, has_no_modules}
use Rattle.typing_laws.proofs.Bools.{no_yes, and_cases}
use Rattle.typing_laws.proofs.Together.{on_signatures}
use Rattle.typing_laws.proofs.Steady.{Each, no_one, one_and, each_append, IfThere, absent, there}
use Rattle.typing_laws.proofs.SteadyRows.{mapped, filtered, first_there, then_there}
use Rattle.typing_laws.proofs.SteadyDeclarations.{OneAsked, reexport_one}
use Rattle.typing_laws.proofs.Quiet.{Quiet, silence, q_demand, q_same, q_instance, q_made, q_known, q_treated, also, NoEnd, all_quiet, QuietType, QuietExpression, QuietPattern, QuietBinding, QuietCase, QuietField, QuietFieldPattern, QuietConstructor, QuietLabel, QuietTold, of_constructors, of_labels, QuietRight, of_another, of_own, QuietDeclaration, QuietItem, no_type_quiet, tvar_quiet, tcon_quiet, tapp_quiet, tparen_quiet, ttuple_quiet, tarrow_quiet, over_quiet, pname_quiet, constant_quiet, constructor_alone_quiet, papp_quiet, pparen_quiet, pas_quiet, has_quiet, por_quiet, precord_quiet}
use Rattle.typing_laws.proofs.QuietExpressions.{typed_too, usual, all_typed, name_quiet, econ_quiet, path_quiet, paren_quiet, begun_quiet, each_quiet, eapp_quiet, operator_quiet, minus_quiet, field_quiet, mutable_quiet, update_quiet, erecord_quiet, assert_quiet, if_expression_quiet, sequence_quiet, later_quiet, cases_quiet, apart_quiet, bindings_quiet}

-- declarations
optional_quiet : (c : Context) (t : Option TypeExpression) → IfThere QuietType t → Quiet (read_optional c t)
optional_quiet c None absent = silence
optional_quiet c (Some t) (there s) = s.reads c

constructors_quiet : (c : Context) (ks : List ConstructorPart) → Each QuietConstructor ks → Quiet (constructors_read c ks)
constructors_quiet c [] no_one = silence
constructors_quiet c (k ∷ ks) (one_and s each) = q_treated (also (optional_quiet c k.argument s.argument) (constructors_quiet c ks each))

labels_quiet : (c : Context) (ls : List LabelPart) → Each QuietLabel ls → Quiet (labels_read c ls)
labels_quiet c [] no_one = silence
labels_quiet c (l ∷ ls) (one_and s each) = let b = s.body in q_treated (also (b.reads c) (labels_quiet c ls each))

new_constructors : (seen : List Name) (ks : List ConstructorPart) → Quiet (constructors_new seen ks)
new_constructors seen [] = silence
new_constructors seen (k ∷ ks) = by k.name (new_constructors seen ks) (λ t. new_constructors (seen ++ t.name ∷ []) ks)
  where
    by : (o : Option Tok) → Quiet (constructors_new seen ks) → ((t : Tok) → Quiet (constructors_new (seen ++ t.name ∷ []) ks)) →
        Quiet (elim o [ None ↦ constructors_new seen ks | Some t ↦ ask k.node 0 (place_of t) (test (twice t.name) (not (is_among t.name seen))) ++ constructors_new (seen ++ t.name ∷ []) ks ])
    by None h g = h
    by (Some t) h g = q_demand refl (g t)

new_labels : (seen : List Name) (ls : List LabelPart) → Quiet (labels_new seen ls)
new_labels seen [] = silence
new_labels seen (l ∷ ls) = by l.name (new_labels seen ls) (λ t. new_labels (seen ++ t.name ∷ []) ls)
  where
    by : (o : Option Tok) → Quiet (labels_new seen ls) → ((t : Tok) → Quiet (labels_new (seen ++ t.name ∷ []) ls)) →
        Quiet (elim o [ None ↦ labels_new seen ls | Some t ↦ ask l.node 0 (place_of t) (test (twice t.name) (not (is_among t.name seen))) ++ labels_new (seen ++ t.name ∷ []) ls ])
    by None h g = h
    by (Some t) h g = q_demand refl (g t)

new_names : (seen : List Name) (ds : List DeclarationPart) → Quiet (names_asked seen ds)
new_names seen [] = silence
new_names seen (d ∷ ds) = by d.head.name (new_names seen ds) (λ t. new_names (seen ++ t.name ∷ []) ds)
  where
    by : (o : Option Tok) → Quiet (names_asked seen ds) → ((t : Tok) → Quiet (names_asked (seen ++ t.name ∷ []) ds)) →
        Quiet (elim o [ None ↦ names_asked seen ds | Some t ↦ ask d.node 0 (place_of t) (test (twice t.name) (not (is_among t.name seen))) ++ names_asked (seen ++ t.name ∷ []) ds ])
    by None h g = h
    by (Some t) h g = q_demand refl (g t)

shape_quiet : (c : Context) (r : Option Told) → IfThere QuietTold r → Quiet (shape_asks c r)
shape_quiet c None absent = silence
shape_quiet c (Some (constructors ks)) (there (of_constructors each)) = also (constructors_quiet c ks each) (new_constructors [] ks)
shape_quiet c (Some (labels ls)) (there (of_labels each)) = also (labels_quiet c ls each) (new_labels [] ls)

told_quiet : (c : Context) (all : List DeclarationPart) (x : Option Tok) (arity n : ℕ) (t : TypeExpression) (l : Option Tok) (r : Option Told) →
    Quiet (elim r [ None ↦ [] | Some r ↦ reexport_asked c (names_itself c all x t.mentions) n arity t (token_name l) (shape_of c r) ])
told_quiet c all x arity n t l None = silence
told_quiet c all x arity n t l (Some r) =
    let one : OneAsked (site n 0) t.at (reexport_asked c (names_itself c all x t.mentions) n arity t (token_name l) (shape_of c r)) = reexport_one c (names_itself c all x t.mentions) n arity t (token_name l) (shape_of c r) in
    subst Quiet (sym one.all) (q_demand one.no_signature silence)

right_quiet : (c : Context) (all : List DeclarationPart) (x : Option Tok) (arity : ℕ) (o : Option RightSide) → IfThere QuietRight o → Quiet (right_asks c all x arity o)
right_quiet c all x arity None absent = silence
right_quiet c all x arity (Some (another n t l r)) (there (of_another s z)) = q_treated (also (also (s.reads c) (shape_quiet c r z)) (told_quiet c all x arity n t l r))
right_quiet c all x arity (Some (own r)) (there (of_own s)) = shape_quiet c (Some r) (there s)

tokens_quiet : (seen : List Name) (ts : List Tok) → Each NoEnd (new_tokens seen ts)
tokens_quiet seen [] = no_one
tokens_quiet seen (t ∷ ts) = one_and (record { no = refl }) (tokens_quiet (seen ++ t.name ∷ []) ts)

declarations_quiet : (c : Context) (all ds : List DeclarationPart) → Each QuietDeclaration ds → Quiet (declarations_ask c all ds)
declarations_quiet c all [] no_one = silence
declarations_quiet c all (d ∷ ds) (one_and s each) =
    also (q_treated (also (all_quiet d.node 1 (new_tokens [] d.head.parameters) (tokens_quiet [] d.head.parameters))
    (right_quiet (record c { variables = parameters (names_of_tokens d.head.parameters) }) all d.head.name (length d.head.parameters) d.right s.right))) (declarations_quiet c all ds each)

cycles_quiet : (all ds : List DeclarationPart) → Quiet (cycles_asked all ds)
cycles_quiet all [] = silence
cycles_quiet all (d ∷ ds) = by d.head.name (abbreviation_in d.right) (cycles_quiet all ds)
  where
    by : (o : Option Tok) (a : Option (ℕ × List Name)) → Quiet (cycles_asked all ds) → Quiet (elim o [
      | None ↦ cycles_asked all ds
      | Some t ↦ elim a [ None ↦ cycles_asked all ds | Some a ↦ ask a.0 0 (place_of t) (test (cyclic t.name) (not (contains_itself all a.0))) ++ cycles_asked all ds ]
    ])
    by None a h = h
    by (Some t) None h = h
    by (Some t) (Some a) h = q_demand refl h

type_item_quiet : (n : ℕ) (ds : List DeclarationPart) → Each QuietDeclaration ds → QuietItem (type_item n ds)
type_item_quiet n ds each = record { asks = λ c seen. also (also (new_names seen.types ds) (declarations_quiet (under (names_of_types c ds ds c.env) c) ds ds each)) (cycles_quiet ds ds) }

exception_quiet : (n : ℕ) (x : Option ConstructorPart) → IfThere QuietConstructor x → QuietItem (exception_item n x)
exception_quiet n None absent = record { asks = λ c seen. silence }
exception_quiet n (Some x) (there s) = record { asks = λ c seen. q_treated (optional_quiet (record c { variables = parameters [] }) x.argument s.argument) }

made_quiet : (n : ℕ) (c : Context) (bs : List Bound) → Quiet (names_made n c bs)
made_quiet n c [] = silence
made_quiet n c (b ∷ bs) = q_made (made_quiet n c bs)

let_quiet : (n : ℕ) (ts : List Tok) (is_rec : Bool) (bs : List Binding) → Each QuietBinding bs → QuietItem (let_item n ts is_rec bs)
let_quiet n ts is_rec bs each = record { asks = λ c seen. also (bindings_quiet (inside_item n ts c) is_rec bs each) (made_quiet n (inside_item n ts c) (names_of_group bs)) }

-- parts of rows
pub record QuietChild (x : Child) : Type 0 where
  pub expression : QuietExpression x.expression
  pub pattern : QuietPattern x.pattern
  pub type_expression : QuietType x.type_expression
  pub binding : IfThere QuietBinding x.binding
  pub case : IfThere QuietCase x.case
  pub field : IfThere QuietField x.field
  pub field_pattern : IfThere QuietFieldPattern x.field_pattern
  pub constructor : IfThere QuietConstructor x.constructor
  pub label : IfThere QuietLabel x.label
  pub told : IfThere QuietTold x.told
  pub right_side : IfThere QuietRight x.right_side
  pub declaration : IfThere QuietDeclaration x.declaration

slotted : (s : ℕ) (cs : List Child) → Each QuietChild cs → Each QuietChild (in_slot s cs)
slotted s [] no_one = no_one
slotted s (c ∷ cs) (one_and h each) = by (c.slot == s) (slotted s cs each)
  where
    by : (b : Bool) → Each QuietChild (in_slot s cs) → Each QuietChild (if b then c ∷ in_slot s cs else in_slot s cs)
    by true g = one_and h g
    by false g = g

es_quiet : (s : ℕ) (cs : List Child) → Each QuietChild cs → Each QuietExpression (expressions_in s cs)
es_quiet s cs each = mapped QuietExpression (λ c. c.expression) (in_slot s cs) (λ c h. h.expression) (slotted s cs each)

ps_quiet : (s : ℕ) (cs : List Child) → Each QuietChild cs → Each QuietPattern (patterns_in s cs)
ps_quiet s cs each = mapped QuietPattern (λ c. c.pattern) (in_slot s cs) (λ c h. h.pattern) (slotted s cs each)

ts_quiet : (s : ℕ) (cs : List Child) → Each QuietChild cs → Each QuietType (types_in s cs)
ts_quiet s cs each = mapped QuietType (λ c. c.type_expression) (in_slot s cs) (λ c h. h.type_expression) (slotted s cs each)

e_quiet : (s : ℕ) (cs : List Child) → Each QuietChild cs → QuietExpression (expression_in s cs)
e_quiet s cs each = by (first_of (expressions_in s cs)) (first_there (expressions_in s cs) (es_quiet s cs each))
  where
    by : (o : Option Expression) → IfThere QuietExpression o → QuietExpression (elim o [ None ↦ no_expression_at 0 (place 0 0) | Some e ↦ e ])
    by None absent = record { types = λ c. silence; negates = λ c. silence }
    by (Some e) (there h) = h

p_quiet : (s : ℕ) (cs : List Child) → Each QuietChild cs → QuietPattern (pattern_in s cs)
p_quiet s cs each = by (first_of (patterns_in s cs)) (first_there (patterns_in s cs) (ps_quiet s cs each))
  where
    by : (o : Option Pattern) → IfThere QuietPattern o → QuietPattern (elim o [ None ↦ no_pattern_at 0 (place 0 0) | Some p ↦ p ])
    by None absent = record { matches = λ c seen. silence }
    by (Some e) (there h) = h

t_quiet : (s : ℕ) (cs : List Child) → Each QuietChild cs → QuietType (type_in s cs)
t_quiet s cs each = by (first_of (types_in s cs)) (first_there (types_in s cs) (ts_quiet s cs each))
  where
    by : (o : Option TypeExpression) → IfThere QuietType o → QuietType (elim o [ None ↦ no_type_at 0 (place 0 0) | Some t ↦ t ])
    by None absent = record { reads = λ c. no_type_quiet c 0; reads_group = λ c. no_type_quiet c 0 }
    by (Some e) (there h) = h

fields_quiet : (s : ℕ) (cs : List Child) → Each QuietChild cs → Each QuietField (fields_in s cs)
fields_quiet s cs each = filtered QuietField (λ c. c.field) (in_slot s cs) (λ c h. h.field) (slotted s cs each)

cases_there : (s : ℕ) (cs : List Child) → Each QuietChild cs → Each QuietCase (cases_in s cs)
cases_there s cs each = filtered QuietCase (λ c. c.case) (in_slot s cs) (λ c h. h.case) (slotted s cs each)

bindings_there : (s : ℕ) (cs : List Child) → Each QuietChild cs → Each QuietBinding (bindings_in s cs)
bindings_there s cs each = filtered QuietBinding (λ c. c.binding) (in_slot s cs) (λ c h. h.binding) (slotted s cs each)

expression_row_quiet : (r : Row) (n : ℕ) (q : Place) (cs : List Child) → Each QuietChild cs → QuietExpression (expression_row r n q cs)
unfolding expression_row
expression_row_quiet name_row n q cs h = name_quiet n q (path_in 9 0 cs)
expression_row_quiet econ_row n q cs h = econ_quiet n q (path_in 9 0 cs)
expression_row_quiet epath_row n q cs h = path_quiet n q (path_in 0 1 cs)
expression_row_quiet econst_row n q cs h = record { types = constant_quiet false n (token_in 0 cs); negates = constant_quiet true n (token_in 0 cs) }
expression_row_quiet hole_row n q cs h = usual n q _ _ _ (λ c. silence)
expression_row_quiet eparen_row n q cs h = paren_quiet n q (expression_in 1 cs) (first_of (types_in 3 cs)) (e_quiet 1 cs h) (first_there (types_in 3 cs) (ts_quiet 3 cs h))
expression_row_quiet ebegin_row n q cs h = begun_quiet n q (first_of (expressions_in 1 cs)) (first_there (expressions_in 1 cs) (es_quiet 1 cs h))
expression_row_quiet elist_row n q cs h = usual n q _ _ _ (λ c. also (also (all_typed c (expressions_in 1 cs) (typed_too (expressions_in 1 cs) (es_quiet 1 cs h)))
    (all_quiet n 0 _ (each_quiet c (expressions.first_type c n (expressions_in 1 cs)) (behind_first (expressions_in 1 cs))))) (q_same silence))
expression_row_quiet erecord_row n q cs h = by (is_some (token_in 4 cs))
  where
    by : (b : Bool) → QuietExpression (if b then update_expression n q (expression_in 1 cs) (fields_in 5 cs) else record_expression n q (expression_in 1 cs) (first_of (expressions_in 3 cs)) (fields_in 5 cs))
    by true = usual n q _ _ _ (λ c. update_quiet c n (expression_in 1 cs) (fields_in 5 cs) (e_quiet 1 cs h) (fields_quiet 5 cs h))
    by false = erecord_quiet n q (expression_in 1 cs) (first_of (expressions_in 3 cs)) (fields_in 5 cs) (e_quiet 1 cs h) (first_there (expressions_in 3 cs) (es_quiet 3 cs h)) (fields_quiet 5 cs h)
expression_row_quiet prefix_row n q cs h = usual n q _ _ _ (λ c. operator_quiet c n (token_in 0 cs) (name_of (token_in 0 cs)) (expression_in 1 cs ∷ []) (typed_too (expression_in 1 cs ∷ []) (one_and (e_quiet 1 cs h) no_one)))
expression_row_quiet field_row n q cs h = record { types = λ c. field_quiet c n (expression_in 0 cs) (path_in 2 3 cs) (e_quiet 0 cs h); negates = λ c. field_quiet c n (expression_in 0 cs) (path_in 2 3 cs) (e_quiet 0 cs h) }
expression_row_quiet eapp_row n q cs h = eapp_quiet n q (expression_in 0 cs) (expressions_in 1 cs) _ (e_quiet 0 cs h) (es_quiet 1 cs h)
expression_row_quiet eassert_row n q cs h = usual n q _ _ _ (λ c. assert_quiet c n (expression_in 1 cs) (expression_in 1 cs).form (e_quiet 1 cs h))
expression_row_quiet ewhile_row n q cs h = let s = e_quiet 1 cs h in let z = e_quiet 3 cs h in usual n q _ _ _ (λ c. also (also (also (s.types c) (q_demand refl silence)) (z.types c)) (q_same silence))
expression_row_quiet efor_row n q cs h = let s = e_quiet 3 cs h in let z = e_quiet 5 cs h in let w = e_quiet 7 cs h in
    usual n q _ _ _ (λ c. also (also (also (also (also (s.types c) (q_demand refl silence)) (z.types c)) (q_demand refl silence)) (w.types (with_names c (loop_names (token_in 1 cs))))) (q_same silence))
expression_row_quiet eneg_row n q cs h = usual n q _ _ _ (λ c. minus_quiet c n (token_in 0 cs) (expression_in 1 cs) (expression_in 1 cs).form (e_quiet 1 cs h))
expression_row_quiet infix_row n q cs h = usual n q _ _ _ (λ c. operator_quiet c n (token_in 1 cs) (name_of (token_in 1 cs)) (expression_in 0 cs ∷ expression_in 2 cs ∷ [])
    (typed_too (expression_in 0 cs ∷ expression_in 2 cs ∷ []) (one_and (e_quiet 0 cs h) (one_and (e_quiet 2 cs h) no_one))))
expression_row_quiet econs_row n q cs h = let s = e_quiet 0 cs h in let z = e_quiet 2 cs h in usual n q _ _ _ (λ c. also (also (also (s.types c) (z.types c)) (q_demand refl silence)) (q_same silence))
expression_row_quiet etuple_row n q cs h = usual n q _ _ _ (λ c. also (all_typed c (expressions_in 0 cs ++ expressions_in 2 cs) (typed_too (expressions_in 0 cs ++ expressions_in 2 cs) (each_append (es_quiet 0 cs h) (es_quiet 2 cs h)))) (q_same silence))
expression_row_quiet eset_row n q cs h = let s = e_quiet 0 cs h in let z = e_quiet 2 cs h in
    usual n q _ _ _ (λ c. also (also (also (also (s.types c) (mutable_quiet c n (expression_in 0 cs).form)) (z.types c)) (q_demand refl silence)) (q_same silence))
expression_row_quiet eif_row n q cs h = if_expression_quiet n q (expression_in 1 cs) (expression_in 3 cs) (first_of (expressions_in 5 cs)) (e_quiet 1 cs h) (e_quiet 3 cs h) (first_there (expressions_in 5 cs) (es_quiet 5 cs h))
expression_row_quiet eseq_row n q cs h = sequence_quiet n q (expressions_in 0 cs ++ expressions_in 2 cs) (each_append (es_quiet 0 cs h) (es_quiet 2 cs h))
expression_row_quiet elet_row n q cs h = let s = e_quiet 5 cs h in
    usual n q _ _ _ (λ c. also (also (bindings_quiet c (is_some (token_in 1 cs)) (bindings_in 2 cs) (bindings_there 2 cs h)) (s.types (within_let c (bindings_in 2 cs)))) (q_same silence))
expression_row_quiet ematch_row n q cs h = let s = e_quiet 1 cs h in
    usual n q _ _ _ (λ c. also (also (s.types c) (cases_quiet c n (type_at c (expression_in 1 cs).node) (cases_in 4 cs) (cases_there 4 cs h))) (q_same silence))
expression_row_quiet etry_row n q cs h = let s = e_quiet 1 cs h in
    usual n q _ _ _ (λ c. also (also (s.types c) (later_quiet c n 0 exn_type (type_at c (expression_in 1 cs).node) (cases_in 4 cs) (cases_there 4 cs h))) (q_same silence))
expression_row_quiet efun_row n q cs h = let s = e_quiet 3 cs h in
    usual n q _ _ _ (λ c. also (also (apart_quiet c (patterns_in 1 cs) (ps_quiet 1 cs h)) (s.types (with_names c (all_names (patterns_in 1 cs))))) (q_same silence))
expression_row_quiet efunction_row n q cs h = usual n q _ _ _ (λ c. also (cases_quiet c n (letter c n 0) (cases_in 4 cs) (cases_there 4 cs h)) (q_same silence))
expression_row_quiet _ n q cs h = record { types = λ c. silence; negates = λ c. silence }

pattern_row_quiet : (r : Row) (n : ℕ) (q : Place) (cs : List Child) → Each QuietChild cs → QuietPattern (pattern_row r n q cs)
unfolding pattern_row
pattern_row_quiet pname_row n q cs h = pname_quiet n q (token_in 0 cs)
pattern_row_quiet pany_row n q cs h = over_quiet n q [] (λ c. []) no_one (λ c. silence)
pattern_row_quiet pconst_row n q cs h = over_quiet n q [] _ no_one (constant_quiet false n (token_in 0 cs))
pattern_row_quiet pneg_row n q cs h = over_quiet n q [] _ no_one (constant_quiet true n (token_in 1 cs))
pattern_row_quiet pcon_row n q cs h = record { matches = λ c seen. constructor_alone_quiet c n (path_in 0 1 cs) }
pattern_row_quiet pparen_row n q cs h = pparen_quiet n q (pattern_in 1 cs) (first_of (types_in 3 cs)) (p_quiet 1 cs h) (first_there (types_in 3 cs) (ts_quiet 3 cs h))
pattern_row_quiet plist_row n q cs h = over_quiet n q (patterns_in 1 cs) _ (ps_quiet 1 cs h) (λ c. also (all_quiet n 0 _ (has_quiet c (first_type c n (patterns_in 1 cs)) (behind_first (patterns_in 1 cs)))) (q_same silence))
pattern_row_quiet precord_row n q cs h = precord_quiet n q (filter_map (λ c. c.field_pattern) (in_slot 1 cs)) (filtered QuietFieldPattern (λ c. c.field_pattern) (in_slot 1 cs) (λ c g. g.field_pattern) (slotted 1 cs h))
pattern_row_quiet papp_row n q cs h = papp_quiet n q (pattern_in 0 cs) (pattern_in 1 cs) (p_quiet 1 cs h)
pattern_row_quiet pcons_row n q cs h = over_quiet n q (pattern_in 0 cs ∷ pattern_in 2 cs ∷ []) _ (one_and (p_quiet 0 cs h) (one_and (p_quiet 2 cs h) no_one)) (λ c. q_demand refl (q_same silence))
pattern_row_quiet ptuple_row n q cs h = over_quiet n q (patterns_in 0 cs ++ patterns_in 2 cs) _ (each_append (ps_quiet 0 cs h) (ps_quiet 2 cs h)) (λ c. q_same silence)
pattern_row_quiet por_row n q cs h = por_quiet n q (pattern_in 0 cs) (patterns_in 2 cs) (p_quiet 0 cs h) (ps_quiet 2 cs h)
pattern_row_quiet pas_row n q cs h = pas_quiet n q (pattern_in 0 cs) (token_in 2 cs) (p_quiet 0 cs h)
pattern_row_quiet _ n q cs h = record { matches = λ c seen. silence }

type_row_quiet : (r : Row) (n : ℕ) (q : Place) (cs : List Child) → Each QuietChild cs → QuietType (types.type_row r n q cs)
unfolding types.type_row
type_row_quiet tvar_row n q cs h = tvar_quiet n q (token_in 0 cs)
type_row_quiet tcon_row n q cs h = tcon_quiet n q (path_in 0 1 cs)
type_row_quiet tparen_row n q cs h = tparen_quiet n q (types_in 1 cs) (ts_quiet 1 cs h)
type_row_quiet tapp_row n q cs h = tapp_quiet n q (type_in 0 cs) (path_in 1 2 cs) (t_quiet 0 cs h)
type_row_quiet ttuple_row n q cs h = ttuple_quiet n q (types_in 0 cs ++ types_in 2 cs) (each_append (ts_quiet 0 cs h) (ts_quiet 2 cs h))
type_row_quiet tarrow_row n q cs h = tarrow_quiet n q (type_in 0 cs) (type_in 2 cs) (t_quiet 0 cs h) (t_quiet 2 cs h)
type_row_quiet _ n q cs h = record { reads = λ c. no_type_quiet c n; reads_group = λ c. no_type_quiet c n }

told_row_quiet : (r : Row) (cs : List Child) → Each QuietChild cs → IfThere QuietTold (told_row r cs)
told_row_quiet variant_row cs h = there (of_constructors (filtered QuietConstructor (λ c. c.constructor) (in_slot 1 cs) (λ c g. g.constructor) (slotted 1 cs h)))
told_row_quiet record_row cs h = there (of_labels (filtered QuietLabel (λ c. c.label) (in_slot 1 cs) (λ c g. g.label) (slotted 1 cs h)))
told_row_quiet _ cs h = absent

own_quiet : (o : Option Told) → IfThere QuietTold o → IfThere QuietRight (option_map own o)
own_quiet None absent = absent
own_quiet (Some r) (there s) = there (of_own s)

right_row_quiet : (r : Row) (n : ℕ) (cs : List Child) → Each QuietChild cs → IfThere QuietRight (right_side_row r n cs)
right_row_quiet alias_row n cs h = there (of_another (t_quiet 0 cs h) (then_there QuietTold (first_of (in_slot 2 cs)) (λ c. c.told) (λ c g. g.told) (first_there (in_slot 2 cs) (slotted 2 cs h))))
right_row_quiet variant_row n cs h = own_quiet (told_row variant_row cs) (told_row_quiet variant_row cs h)
right_row_quiet record_row n cs h = own_quiet (told_row record_row cs) (told_row_quiet record_row cs h)
right_row_quiet _ n cs h = absent

binding_quiet : (r : Row) (n : ℕ) (cs : List Child) → Each QuietChild cs → IfThere QuietBinding (binding_of r n cs)
binding_quiet binding_row n cs h = there (record { pattern = p_quiet 0 cs h; parameters = ps_quiet 1 cs h; annotation = first_there (types_in 3 cs) (ts_quiet 3 cs h); body = e_quiet 5 cs h })
binding_quiet _ n cs h = absent

case_quiet : (r : Row) (n : ℕ) (cs : List Child) → Each QuietChild cs → IfThere QuietCase (case_of r n cs)
case_quiet case_row n cs h = there (record { pattern = p_quiet 0 cs h; guard = first_there (expressions_in 2 cs) (es_quiet 2 cs h); body = e_quiet 4 cs h })
case_quiet _ n cs h = absent

field_of_quiet : (r : Row) (n : ℕ) (cs : List Child) → Each QuietChild cs → IfThere QuietField (field_of r n cs)
field_of_quiet ffield_row n cs h = there (record { value = first_there (expressions_in 3 cs) (es_quiet 3 cs h) })
field_of_quiet _ n cs h = absent

field_pattern_quiet : (r : Row) (n : ℕ) (cs : List Child) → Each QuietChild cs → IfThere QuietFieldPattern (field_pattern_of r n cs)
field_pattern_quiet qfield_row n cs h = there (record { pattern = first_there (patterns_in 3 cs) (ps_quiet 3 cs h) })
field_pattern_quiet _ n cs h = absent

constructor_quiet : (r : Row) (n : ℕ) (cs : List Child) → Each QuietChild cs → IfThere QuietConstructor (constructor_of r n cs)
constructor_quiet con_row n cs h = there (record { argument = first_there (types_in 2 cs) (ts_quiet 2 cs h) })
constructor_quiet _ n cs h = absent

label_quiet : (r : Row) (n : ℕ) (cs : List Child) → Each QuietChild cs → IfThere QuietLabel (label_of r n cs)
label_quiet label_row n cs h = there (record { body = t_quiet 3 cs h })
label_quiet _ n cs h = absent

declaration_quiet : (r : Row) (n : ℕ) (cs : List Child) → Each QuietChild cs → IfThere QuietDeclaration (declaration_of r n cs)
declaration_quiet decl_row n cs h = there (record { right = then_there QuietRight (first_of (in_slot 2 cs)) (λ c. c.right_side) (λ c g. g.right_side) (first_there (in_slot 2 cs) (slotted 2 cs h)) })
declaration_quiet _ n cs h = absent

node_quiet : (slot : ℕ) (p : Part) (r : Row) (n : ℕ) (q : Place) (cs : List Child) → Each QuietChild cs → QuietChild (node_child slot p r n q cs)
node_quiet slot p r n q cs h =
    let e = expression_row_quiet r n q cs h in
    let m = pattern_row_quiet r n q cs h in
    let t = type_row_quiet r n q cs h in
    record {
      expression = record { types = λ c. q_treated (q_known (e.types c)); negates = λ c. q_treated (q_known (e.negates c)) };
      pattern = record { matches = λ c seen. q_treated (q_known (m.matches c seen)) };
      type_expression = record { reads = λ c. q_treated (t.reads c); reads_group = λ c. q_treated (t.reads_group c) };
      binding = binding_quiet r n cs h;
      case = case_quiet r n cs h;
      field = field_of_quiet r n cs h;
      field_pattern = field_pattern_quiet r n cs h;
      constructor = constructor_quiet r n cs h;
      label = label_quiet r n cs h;
      told = told_row_quiet r cs h;
      right_side = right_row_quiet r n cs h;
      declaration = declaration_quiet r n cs h;
    }

leaf_quiet : (slot : ℕ) (p : Part) (n : ℕ) (q : Place) → QuietChild (leaf_child slot p n q)
leaf_quiet slot p n q = record {
  expression = record { types = λ c. q_treated (q_known silence); negates = λ c. q_treated (q_known silence) };
  pattern = record { matches = λ c seen. q_treated (q_known silence) };
  type_expression = record { reads = λ c. q_treated (no_type_quiet c n); reads_group = λ c. q_treated (no_type_quiet c n) };
  binding = absent;
  case = absent;
  field = absent;
  field_pattern = absent;
  constructor = absent;
  label = absent;
  told = absent;
  right_side = absent;
  declaration = absent;
}

mutual
  children_quiet : (n : ℕ) (r : Row) (ps : Forest) → Each QuietChild (children_of n r ps)
  children_quiet n r no_parts = no_one
  children_quiet n r (part slot p ps) = one_and (child_quiet n slot p) (children_quiet (n + part_size r slot p) r ps)

  child_quiet : (n : ℕ) (slot : ℕ) (p : Part) → QuietChild (child_of n slot p)
  child_quiet n slot (taken t) = leaf_quiet slot (taken t) n (place_of t)
  child_quiet n slot (inner t) = tree_quiet n slot t
  child_quiet n slot (missing p) = leaf_quiet slot (missing p) n p

  tree_quiet : (n : ℕ) (slot : ℕ) (t : Tree) → QuietChild (tree_child n slot t)
  tree_quiet n slot (node r x ps) = node_quiet slot (inner (node r x ps)) r n x.span (children_of (n + 1) r ps) (children_quiet (n + 1) r ps)

-- items without modules
row_quiet : (r : Row) (n : ℕ) (q : Place) (ts : List Tok) (cs : List Child) → is_plain_row r ≡ true → Each QuietChild cs → IfThere QuietItem (item_row r n q ts cs)
unfolding item_row
row_quiet let_row n q ts cs e h = there (let_quiet n ts (is_some (token_in 1 cs)) (bindings_in 2 cs) (bindings_there 2 cs h))
row_quiet type_row n q ts cs e h = there (type_item_quiet n (filter_map (λ c. c.declaration) (in_slot 2 cs)) (filtered QuietDeclaration (λ c. c.declaration) (in_slot 2 cs) (λ c g. g.declaration) (slotted 2 cs h)))
row_quiet exception_row n q ts cs e h = there (exception_quiet n (then_by (first_of (in_slot 1 cs)) (λ c. c.constructor)) (then_there QuietConstructor (first_of (in_slot 1 cs)) (λ c. c.constructor) (λ c g. g.constructor) (first_there (in_slot 1 cs) (slotted 1 cs h))))
row_quiet break_row n q ts cs e h = there (record { asks = λ c seen. silence })
row_quiet _ n q ts cs e h = absurd (no_yes e)

told_item : (n : ℕ) (o : Option Item) → IfThere QuietItem o → IfThere QuietItem (recorded_item n o)
told_item n None absent = absent
told_item n (Some i) (there s) = there (record { asks = λ c seen. q_treated (s.asks c seen) })

tree_item_quiet : (n : ℕ) (t : Tree) → is_plain_item t ≡ true → IfThere QuietItem (tree_child n 0 t).item
tree_item_quiet n (node r x ps) e =
    told_item n (item_row r n x.span (part_yield (inner (node r x ps))) (children_of (n + 1) r ps)) (row_quiet r n x.span (part_yield (inner (node r x ps))) (children_of (n + 1) r ps) e (children_quiet (n + 1) r ps))

items_quiet : (i : ℕ) (ts : List Tree) → has_no_modules ts ≡ true → Each QuietItem (items_from i ts)
items_quiet i [] e = no_one
items_quiet i (t ∷ ts) e =
    let p = and_cases (is_plain_item t) (has_no_modules ts) e in
    by (tree_child (item_base i) 0 t).item (tree_item_quiet (item_base i) t p.0) (items_quiet (i + 1) ts p.1)
  where
    by : (o : Option Item) → IfThere QuietItem o → Each QuietItem (items_from (i + 1) ts) → Each QuietItem (elim o [ None ↦ items_from (i + 1) ts | Some x ↦ x ∷ items_from (i + 1) ts ])
    by None absent h = h
    by (Some x) (there s) h = one_and s h

all_items_quiet : (c : Context) (seen : Seen) (xs : List Item) → Each QuietItem xs → Quiet (items_ask c seen xs)
all_items_quiet c seen [] no_one = silence
all_items_quiet c seen (i ∷ xs) (one_and s each) = also (s.asks c seen) (all_items_quiet (under (i.adds c ++ c.env) c) (seen_too seen (i.named c)) xs each)

-- no site of them is a closing
abbrev has_body : Option (Environment × Signature) → Bool
has_body o = elim o [ None ↦ false | Some b ↦ true ]

no_body : (d : Demand) → on_signatures d ≡ false → has_body (body_in d) ≡ false
no_body (equal t u) e = refl
no_body (test c b) e = refl
no_body (agrees c n s t) e = refl
no_body (matches a t) e = refl
no_body (closes x s) e = e

pub quiet_site : (s : Site) {cs : List Condition} → Quiet cs → has_body (body_at s cs) ≡ false
quiet_site s silence = refl
quiet_site s (q_demand {s = t} {p = p} {d = d} {cs = cs} e h) = by (same_site s t) (quiet_site s h)
  where
    by : (b : Bool) → has_body (body_at s cs) ≡ false → has_body (body_asked (if b then Some (p, d) else demand_of s cs)) ≡ false
    by true g = no_body d e
    by false g = g
quiet_site s (q_same h) = quiet_site s h
quiet_site s (q_instance h) = quiet_site s h
quiet_site s (q_made h) = quiet_site s h
quiet_site s (q_known h) = quiet_site s h
quiet_site s (q_treated h) = quiet_site s h

-- a text without modules makes no demand on signatures, whatever is kept and chosen
pub text_quiet : (env : Environment) (text : List Tree) (kept : Site → Bool) (choice : Choice) → has_no_modules text ≡ true → Quiet (conditions_of env text kept choice)
text_quiet env text kept choice plain = all_items_quiet (outermost env kept choice) no_names (items_of text) (items_quiet 1 text plain)

pub no_closings : (env : Environment) (text : List Tree) (kept : Site → Bool) → has_no_modules text ≡ true → (s : Site) → is_closing env text kept s ≡ false
no_closings env text kept plain s = quiet_site s (text_quiet env text kept no_choice plain)
