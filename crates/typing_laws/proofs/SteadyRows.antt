-- What each row asks goes together where its parts do.
use Rattle.std.proofs.Common.{ℕ, ◌==◌, Bool, true, false, List, [], ◌∷◌, ◌++◌, map, filter_map, Option, Some, None, option_map, if◌then◌else◌}
use Rattle.std.specs.List.{cons_option}
use Rattle.token_model.specs.Kinds.{Tok}
use Rattle.tree_model.specs.Trees.{Place, place}
use Rattle.tree_model.specs.Rows.{Row, alias_row, variant_row, record_row, tvar_row, tcon_row, tparen_row, tapp_row, ttuple_row, tarrow_row, pname_row, pany_row, pconst_row, pneg_row, pcon_row, pparen_row, plist_row, precord_row, papp_row, pcons_row, ptuple_row, por_row, pas_row, name_row, econ_row, epath_row, econst_row, hole_row, eparen_row, ebegin_row, elist_row, erecord_row, prefix_row, field_row, eapp_row, eassert_row, ewhile_row, efor_row, eneg_row, infix_row, econs_row, etuple_row, eset_row, eif_row, eseq_row, elet_row, ematch_row, etry_row, efun_row, efunction_row, let_row, type_row, exception_row, break_row, module_row, modtype_row, open_row, include_row, val_row, gmodule_row, mpath_row, mstruct_row, mparen_row, mapp_row, mfunctor_row, ypath_row, ysig_row, yparen_row, ywith_row, yfunctor_row}
use Rattle.typing_model.specs.Parts.{Expression, Pattern, TypeExpression, Told, own, ModuleExpression, ModuleType, Parameter, Child, in_slot, path_in, token_in, optional_tokens_in, expressions_in, expression_in, patterns_in, pattern_in, types_in, type_in, modules_in, module_in, module_types_in, module_type_in, first_of, no_expression_at, no_pattern_at, no_type_at, no_module_at, no_module_type_at}
use Rattle.typing_model.specs.Names.{then_by}
use Rattle.typing_model.specs.Patterns.{pattern_row}
use Rattle.typing_model.specs.TypeExpressions as types
use Rattle.typing_model.specs.Expressions.{expression_row, cases_in, fields_in, bindings_in, is_some, update_expression, record_expression}
use Rattle.typing_model.specs.Declarations.{told_row, right_side_row}
use Rattle.typing_model.specs.Modules.{paired, module_expression_row, module_type_row, module_of_item, item_row, signature_item_row, sealed, functor_expression}
use Rattle.typing_laws.proofs.Together.{Kept}
use Rattle.typing_laws.proofs.Whole.{at_end}
use Rattle.typing_laws.proofs.Steady.{Each, no_one, one_and, each_append, IfThere, absent, there, WholeType, SteadyType, SteadyExpression, SteadyPattern, SteadyBinding, SteadyCase, SteadyField, SteadyFieldPattern, SteadyConstructor, SteadyLabel, SteadyTold, of_constructors, of_labels, SteadyRight, of_another, of_own, SteadyDeclaration, SteadyModule, SteadyModuleType, SteadyClause, SteadyParameter, SteadyItem, SteadyChild}
use Rattle.typing_laws.proofs.SteadyTypes.{no_type_steady, tvar_steady, tcon_steady, tapp_steady, tparen_steady, ttuple_steady, tarrow_steady}
use Rattle.typing_laws.proofs.WholeTypes.{no_type_whole, tvar_whole, tcon_whole, tapp_whole, tparen_whole, ttuple_whole, tarrow_whole}
use Rattle.typing_laws.proofs.SteadyPatterns.{no_pattern_steady, over_steady, pname_steady, pconst_steady, pneg_steady, pcon_steady, papp_steady, pparen_steady, plist_steady, pcons_steady, ptuple_steady, pas_steady, por_steady, precord_steady}
use Rattle.typing_laws.proofs.SteadyExpressions.{no_expression_steady, name_steady, econ_steady, path_steady, econst_steady, hole_steady, eparen_steady, ebegin_steady, elist_steady, econs_steady, etuple_steady, eapp_steady, infix_steady, prefix_steady, eneg_steady, field_steady, eset_steady, erecord_steady, eupdate_steady, eassert_steady, eif_steady, eseq_steady, ewhile_steady, efor_steady, ematch_steady, etry_steady, efunction_steady, efun_steady, elet_steady}
use Rattle.typing_laws.proofs.SteadyItems.{let_item_steady, type_item_steady, no_item_steady, exception_item_steady}
use Rattle.typing_laws.proofs.SteadyModules.{no_module_steady, no_module_type_steady, mpath_steady, mstruct_steady, sealed_steady, mapp_steady, mfunctor_steady, ypath_steady, ysig_steady, yparen_steady, ywith_steady, yfunctor_steady, module_item_steady, module_type_item_steady, gmodule_steady, open_item_steady, include_item_steady, include_specification_steady, value_item_steady}

-- parts of a slot
pub slot_steady : {k m : Kept} (s : ℕ) (cs : List Child) → Each (SteadyChild k m) cs → Each (SteadyChild k m) (in_slot s cs)
slot_steady s [] no_one = no_one
slot_steady {k} {m} s (c ∷ cs) (one_and h each) = by (c.slot == s) (slot_steady s cs each)
  where
    by : (b : Bool) → Each (SteadyChild k m) (in_slot s cs) → Each (SteadyChild k m) (if b then c ∷ in_slot s cs else in_slot s cs)
    by true g = one_and h g
    by false g = g

pub mapped : {A B : Type 0} {P : A → Type 0} (Q : B → Type 0) (f : A → B) (xs : List A) → ((x : A) → P x → Q (f x)) → Each P xs → Each Q (map f xs)
mapped Q f [] h no_one = no_one
mapped Q f (x ∷ xs) h (one_and p each) = one_and (h x p) (mapped Q f xs h each)

pub filtered : {A B : Type 0} {P : A → Type 0} (Q : B → Type 0) (f : A → Option B) (xs : List A) → ((x : A) → P x → IfThere Q (f x)) → Each P xs → Each Q (filter_map f xs)
filtered Q f [] h no_one = no_one
filtered {A} {B} {P} Q f (x ∷ xs) h (one_and p each) = by (f x) (h x p) (filtered Q f xs h each)
  where
    by : (o : Option B) → IfThere Q o → Each Q (filter_map f xs) → Each Q (cons_option o (filter_map f xs))
    by None absent g = g
    by (Some b) (there q) g = one_and q g

pub first_there : {A : Type 0} {P : A → Type 0} (xs : List A) → Each P xs → IfThere P (first_of xs)
first_there [] no_one = absent
first_there (x ∷ xs) (one_and p each) = there p

pub expressions_steady : {k m : Kept} (s : ℕ) (cs : List Child) → Each (SteadyChild k m) cs → Each (SteadyExpression k m) (expressions_in s cs)
expressions_steady {k} {m} s cs each = mapped (SteadyExpression k m) (λ c. c.expression) (in_slot s cs) (λ c h. h.expression) (slot_steady s cs each)

pub patterns_steady : {k m : Kept} (s : ℕ) (cs : List Child) → Each (SteadyChild k m) cs → Each (SteadyPattern k m) (patterns_in s cs)
patterns_steady {k} {m} s cs each = mapped (SteadyPattern k m) (λ c. c.pattern) (in_slot s cs) (λ c h. h.pattern) (slot_steady s cs each)

pub types_steady : {k m : Kept} (s : ℕ) (cs : List Child) → Each (SteadyChild k m) cs → Each (SteadyType k m) (types_in s cs)
types_steady {k} {m} s cs each = mapped (SteadyType k m) (λ c. c.type_expression) (in_slot s cs) (λ c h. h.type_expression) (slot_steady s cs each)

pub types_whole : {k m : Kept} (s : ℕ) (cs : List Child) → Each (SteadyChild k m) cs → Each (WholeType k m) (types_in s cs)
types_whole {k} {m} s cs each = mapped (WholeType k m) (λ c. c.type_expression) (in_slot s cs) (λ c h. h.whole_type) (slot_steady s cs each)

modules_steady : {k m : Kept} (s : ℕ) (cs : List Child) → Each (SteadyChild k m) cs → Each (SteadyModule k m) (modules_in s cs)
modules_steady {k} {m} s cs each = mapped (SteadyModule k m) (λ c. c.module_expression) (in_slot s cs) (λ c h. h.module_expression) (slot_steady s cs each)

module_types_steady : {k m : Kept} (s : ℕ) (cs : List Child) → Each (SteadyChild k m) cs → Each (SteadyModuleType k m) (module_types_in s cs)
module_types_steady {k} {m} s cs each = mapped (SteadyModuleType k m) (λ c. c.module_type) (in_slot s cs) (λ c h. h.module_type) (slot_steady s cs each)

-- the one of a slot
pub expression_steady : {k m : Kept} (s : ℕ) (cs : List Child) → Each (SteadyChild k m) cs → SteadyExpression k m (expression_in s cs)
expression_steady {k} {m} s cs each = by (first_of (expressions_in s cs)) (first_there (expressions_in s cs) (expressions_steady s cs each))
  where
    by : (o : Option Expression) → IfThere (SteadyExpression k m) o → SteadyExpression k m (elim o [ None ↦ no_expression_at 0 (place 0 0) | Some e ↦ e ])
    by None absent = no_expression_steady 0 (place 0 0)
    by (Some e) (there h) = h

pub one_pattern_steady : {k m : Kept} (s : ℕ) (cs : List Child) → Each (SteadyChild k m) cs → SteadyPattern k m (pattern_in s cs)
one_pattern_steady {k} {m} s cs each = by (first_of (patterns_in s cs)) (first_there (patterns_in s cs) (patterns_steady s cs each))
  where
    by : (o : Option Pattern) → IfThere (SteadyPattern k m) o → SteadyPattern k m (elim o [ None ↦ no_pattern_at 0 (place 0 0) | Some p ↦ p ])
    by None absent = no_pattern_steady 0 (place 0 0)
    by (Some e) (there h) = h

pub one_type_steady : {k m : Kept} (s : ℕ) (cs : List Child) → Each (SteadyChild k m) cs → SteadyType k m (type_in s cs)
one_type_steady {k} {m} s cs each = by (first_of (types_in s cs)) (first_there (types_in s cs) (types_steady s cs each))
  where
    by : (o : Option TypeExpression) → IfThere (SteadyType k m) o → SteadyType k m (elim o [ None ↦ no_type_at 0 (place 0 0) | Some t ↦ t ])
    by None absent = no_type_steady 0 (place 0 0)
    by (Some e) (there h) = h

pub one_type_whole : {k m : Kept} (s : ℕ) (cs : List Child) → Each (SteadyChild k m) cs → WholeType k m (type_in s cs)
one_type_whole {k} {m} s cs each = by (first_of (types_in s cs)) (first_there (types_in s cs) (types_whole s cs each))
  where
    by : (o : Option TypeExpression) → IfThere (WholeType k m) o → WholeType k m (elim o [ None ↦ no_type_at 0 (place 0 0) | Some t ↦ t ])
    by None absent = no_type_whole 0 (place 0 0)
    by (Some e) (there h) = h

one_module_steady : {k m : Kept} (s : ℕ) (cs : List Child) → Each (SteadyChild k m) cs → SteadyModule k m (module_in s cs)
one_module_steady {k} {m} s cs each = by (first_of (modules_in s cs)) (first_there (modules_in s cs) (modules_steady s cs each))
  where
    by : (o : Option ModuleExpression) → IfThere (SteadyModule k m) o → SteadyModule k m (elim o [ None ↦ no_module_at 0 (place 0 0) | Some x ↦ x ])
    by None absent = no_module_steady 0 (place 0 0)
    by (Some e) (there h) = h

one_module_type_steady : {k m : Kept} (s : ℕ) (cs : List Child) → Each (SteadyChild k m) cs → SteadyModuleType k m (module_type_in s cs)
one_module_type_steady {k} {m} s cs each = by (first_of (module_types_in s cs)) (first_there (module_types_in s cs) (module_types_steady s cs each))
  where
    by : (o : Option ModuleType) → IfThere (SteadyModuleType k m) o → SteadyModuleType k m (elim o [ None ↦ no_module_type_at 0 | Some y ↦ y ])
    by None absent = no_module_type_steady 0
    by (Some e) (there h) = h

pub bindings_steady : {k m : Kept} (s : ℕ) (cs : List Child) → Each (SteadyChild k m) cs → Each (SteadyBinding k m) (bindings_in s cs)
bindings_steady {k} {m} s cs each = filtered (SteadyBinding k m) (λ c. c.binding) (in_slot s cs) (λ c h. h.binding) (slot_steady s cs each)

cases_steady : {k m : Kept} (s : ℕ) (cs : List Child) → Each (SteadyChild k m) cs → Each (SteadyCase k m) (cases_in s cs)
cases_steady {k} {m} s cs each = filtered (SteadyCase k m) (λ c. c.case) (in_slot s cs) (λ c h. h.case) (slot_steady s cs each)

fields_steady : {k m : Kept} (s : ℕ) (cs : List Child) → Each (SteadyChild k m) cs → Each (SteadyField k m) (fields_in s cs)
fields_steady {k} {m} s cs each = filtered (SteadyField k m) (λ c. c.field) (in_slot s cs) (λ c h. h.field) (slot_steady s cs each)

paired_steady : {k m : Kept} (ts : List (Option Tok)) (ys : List ModuleType) → Each (SteadyModuleType k m) ys → Each (SteadyParameter k m) (paired ts ys)
paired_steady ts [] no_one = no_one
paired_steady [] (y ∷ ys) (one_and s each) = one_and (record { module_type = s }) (paired_steady [] ys each)
paired_steady (t ∷ ts) (y ∷ ys) (one_and s each) = one_and (record { module_type = s }) (paired_steady ts ys each)

-- an expression by its row
pub expression_row_steady : {k m : Kept} (r : Row) (n : ℕ) (q : Place) (cs : List Child) → Each (SteadyChild k m) cs → SteadyExpression k m (expression_row r n q cs)
unfolding expression_row
expression_row_steady name_row n q cs h = name_steady n q (path_in 9 0 cs)
expression_row_steady econ_row n q cs h = econ_steady n q (path_in 9 0 cs)
expression_row_steady epath_row n q cs h = path_steady n q (path_in 0 1 cs)
expression_row_steady econst_row n q cs h = econst_steady n q (token_in 0 cs)
expression_row_steady hole_row n q cs h = hole_steady n q
expression_row_steady eparen_row n q cs h = eparen_steady n q (expression_in 1 cs) (first_of (types_in 3 cs)) (expression_steady 1 cs h) (first_there (types_in 3 cs) (types_whole 3 cs h))
expression_row_steady ebegin_row n q cs h = ebegin_steady n q (first_of (expressions_in 1 cs)) (first_there (expressions_in 1 cs) (expressions_steady 1 cs h))
expression_row_steady elist_row n q cs h = elist_steady n q (expressions_in 1 cs) (expressions_steady 1 cs h)
expression_row_steady {k} {m} erecord_row n q cs h = by (is_some (token_in 4 cs))
  where
    by : (b : Bool) → SteadyExpression k m (if b then update_expression n q (expression_in 1 cs) (fields_in 5 cs) else record_expression n q (expression_in 1 cs) (first_of (expressions_in 3 cs)) (fields_in 5 cs))
    by true = eupdate_steady n q (expression_in 1 cs) (fields_in 5 cs) (expression_steady 1 cs h) (fields_steady 5 cs h)
    by false = erecord_steady n q (expression_in 1 cs) (first_of (expressions_in 3 cs)) (fields_in 5 cs) (expression_steady 1 cs h) (first_there (expressions_in 3 cs) (expressions_steady 3 cs h)) (fields_steady 5 cs h)
expression_row_steady prefix_row n q cs h = prefix_steady n q (token_in 0 cs) (expression_in 1 cs) (expression_steady 1 cs h)
expression_row_steady field_row n q cs h = field_steady n q (expression_in 0 cs) (path_in 2 3 cs) (expression_steady 0 cs h)
expression_row_steady eapp_row n q cs h = eapp_steady n q (expression_in 0 cs) (expressions_in 1 cs) (expression_steady 0 cs h) (expressions_steady 1 cs h)
expression_row_steady eassert_row n q cs h = eassert_steady n q (expression_in 1 cs) (expression_steady 1 cs h)
expression_row_steady ewhile_row n q cs h = ewhile_steady n q (expression_in 1 cs) (expression_in 3 cs) (expression_steady 1 cs h) (expression_steady 3 cs h)
expression_row_steady efor_row n q cs h = efor_steady n q (token_in 1 cs) (expression_in 3 cs) (expression_in 5 cs) (expression_in 7 cs) (expression_steady 3 cs h) (expression_steady 5 cs h) (expression_steady 7 cs h)
expression_row_steady eneg_row n q cs h = eneg_steady n q (token_in 0 cs) (expression_in 1 cs) (expression_steady 1 cs h)
expression_row_steady infix_row n q cs h = infix_steady n q (token_in 1 cs) (expression_in 0 cs) (expression_in 2 cs) (expression_steady 0 cs h) (expression_steady 2 cs h)
expression_row_steady econs_row n q cs h = econs_steady n q (expression_in 0 cs) (expression_in 2 cs) (expression_steady 0 cs h) (expression_steady 2 cs h)
expression_row_steady etuple_row n q cs h = etuple_steady n q (expressions_in 0 cs ++ expressions_in 2 cs) (each_append (expressions_steady 0 cs h) (expressions_steady 2 cs h))
expression_row_steady eset_row n q cs h = eset_steady n q (expression_in 0 cs) (expression_in 2 cs) (expression_steady 0 cs h) (expression_steady 2 cs h)
expression_row_steady eif_row n q cs h = eif_steady n q (expression_in 1 cs) (expression_in 3 cs) (first_of (expressions_in 5 cs)) (expression_steady 1 cs h) (expression_steady 3 cs h) (first_there (expressions_in 5 cs) (expressions_steady 5 cs h))
expression_row_steady eseq_row n q cs h = eseq_steady n q (expressions_in 0 cs ++ expressions_in 2 cs) (each_append (expressions_steady 0 cs h) (expressions_steady 2 cs h))
expression_row_steady elet_row n q cs h = elet_steady n q (is_some (token_in 1 cs)) (bindings_in 2 cs) (expression_in 5 cs) (bindings_steady 2 cs h) (expression_steady 5 cs h)
expression_row_steady ematch_row n q cs h = ematch_steady n q (expression_in 1 cs) (cases_in 4 cs) (expression_steady 1 cs h) (cases_steady 4 cs h)
expression_row_steady etry_row n q cs h = etry_steady n q (expression_in 1 cs) (cases_in 4 cs) (expression_steady 1 cs h) (cases_steady 4 cs h)
expression_row_steady efun_row n q cs h = efun_steady n q (patterns_in 1 cs) (expression_in 3 cs) (patterns_steady 1 cs h) (expression_steady 3 cs h)
expression_row_steady efunction_row n q cs h = efunction_steady n q (cases_in 4 cs) (cases_steady 4 cs h)
expression_row_steady _ n q cs h = no_expression_steady n q

pub pattern_row_steady : {k m : Kept} (r : Row) (n : ℕ) (q : Place) (cs : List Child) → Each (SteadyChild k m) cs → SteadyPattern k m (pattern_row r n q cs)
unfolding pattern_row
pattern_row_steady pname_row n q cs h = pname_steady n q (token_in 0 cs)
pattern_row_steady pany_row n q cs h = over_steady n q [] (λ c. []) no_one (λ c. at_end)
pattern_row_steady pconst_row n q cs h = pconst_steady n q (token_in 0 cs)
pattern_row_steady pneg_row n q cs h = pneg_steady n q (token_in 1 cs)
pattern_row_steady pcon_row n q cs h = pcon_steady n q (path_in 0 1 cs)
pattern_row_steady pparen_row n q cs h = pparen_steady n q (pattern_in 1 cs) (first_of (types_in 3 cs)) (one_pattern_steady 1 cs h) (first_there (types_in 3 cs) (types_whole 3 cs h))
pattern_row_steady plist_row n q cs h = plist_steady n q (patterns_in 1 cs) (patterns_steady 1 cs h)
pattern_row_steady {k} {m} precord_row n q cs h = precord_steady n q (filter_map (λ c. c.field_pattern) (in_slot 1 cs)) (filtered (SteadyFieldPattern k m) (λ c. c.field_pattern) (in_slot 1 cs) (λ c g. g.field_pattern) (slot_steady 1 cs h))
pattern_row_steady papp_row n q cs h = papp_steady n q (pattern_in 0 cs) (pattern_in 1 cs) (one_pattern_steady 1 cs h)
pattern_row_steady pcons_row n q cs h = pcons_steady n q (pattern_in 0 cs) (pattern_in 2 cs) (one_pattern_steady 0 cs h) (one_pattern_steady 2 cs h)
pattern_row_steady ptuple_row n q cs h = ptuple_steady n q (patterns_in 0 cs ++ patterns_in 2 cs) (each_append (patterns_steady 0 cs h) (patterns_steady 2 cs h))
pattern_row_steady por_row n q cs h = por_steady n q (pattern_in 0 cs) (patterns_in 2 cs) (one_pattern_steady 0 cs h) (patterns_steady 2 cs h)
pattern_row_steady pas_row n q cs h = pas_steady n q (pattern_in 0 cs) (token_in 2 cs) (one_pattern_steady 0 cs h)
pattern_row_steady _ n q cs h = no_pattern_steady n q

pub type_row_steady : {k m : Kept} (r : Row) (n : ℕ) (q : Place) (cs : List Child) → Each (SteadyChild k m) cs → SteadyType k m (types.type_row r n q cs)
unfolding types.type_row
type_row_steady tvar_row n q cs h = tvar_steady n q (token_in 0 cs)
type_row_steady tcon_row n q cs h = tcon_steady n q (path_in 0 1 cs)
type_row_steady tparen_row n q cs h = tparen_steady n q (types_in 1 cs) (types_steady 1 cs h)
type_row_steady tapp_row n q cs h = tapp_steady n q (type_in 0 cs) (path_in 1 2 cs) (one_type_steady 0 cs h)
type_row_steady ttuple_row n q cs h = ttuple_steady n q (types_in 0 cs ++ types_in 2 cs) (each_append (types_steady 0 cs h) (types_steady 2 cs h))
type_row_steady tarrow_row n q cs h = tarrow_steady n q (type_in 0 cs) (type_in 2 cs) (one_type_steady 0 cs h) (one_type_steady 2 cs h)
type_row_steady _ n q cs h = no_type_steady n q

pub type_row_whole : {k m : Kept} (r : Row) (n : ℕ) (q : Place) (cs : List Child) → Each (SteadyChild k m) cs → WholeType k m (types.type_row r n q cs)
unfolding types.type_row
type_row_whole tvar_row n q cs h = tvar_whole n q (token_in 0 cs)
type_row_whole tcon_row n q cs h = tcon_whole n q (path_in 0 1 cs)
type_row_whole tparen_row n q cs h = tparen_whole n q (types_in 1 cs) (types_whole 1 cs h)
type_row_whole tapp_row n q cs h = tapp_whole n q (type_in 0 cs) (path_in 1 2 cs) (one_type_whole 0 cs h)
type_row_whole ttuple_row n q cs h = ttuple_whole n q (types_in 0 cs ++ types_in 2 cs) (each_append (types_whole 0 cs h) (types_whole 2 cs h))
type_row_whole tarrow_row n q cs h = tarrow_whole n q (type_in 0 cs) (type_in 2 cs) (one_type_whole 0 cs h) (one_type_whole 2 cs h)
type_row_whole _ n q cs h = no_type_whole n q

-- what stands behind another optional part
pub then_there : {A B : Type 0} {P : A → Type 0} (Q : B → Type 0) (o : Option A) (f : A → Option B) → ((x : A) → P x → IfThere Q (f x)) → IfThere P o → IfThere Q (then_by o f)
then_there Q None f h absent = absent
then_there Q (Some x) f h (there p) = h x p

pub first_steady : {k m : Kept} (s : ℕ) (cs : List Child) → Each (SteadyChild k m) cs → IfThere (SteadyChild k m) (first_of (in_slot s cs))
first_steady s cs each = first_there (in_slot s cs) (slot_steady s cs each)

-- the parts of declarations
pub told_row_steady : {k m : Kept} (r : Row) (cs : List Child) → Each (SteadyChild k m) cs → IfThere (SteadyTold k m) (told_row r cs)
told_row_steady {k} {m} variant_row cs h = there (of_constructors (filtered (SteadyConstructor k m) (λ c. c.constructor) (in_slot 1 cs) (λ c g. g.constructor) (slot_steady 1 cs h)))
told_row_steady {k} {m} record_row cs h = there (of_labels (filtered (SteadyLabel k m) (λ c. c.label) (in_slot 1 cs) (λ c g. g.label) (slot_steady 1 cs h)))
told_row_steady _ cs h = absent

own_steady : {k m : Kept} (o : Option Told) → IfThere (SteadyTold k m) o → IfThere (SteadyRight k m) (option_map own o)
own_steady None absent = absent
own_steady (Some r) (there s) = there (of_own s)

pub right_side_steady : {k m : Kept} (r : Row) (n : ℕ) (cs : List Child) → Each (SteadyChild k m) cs → IfThere (SteadyRight k m) (right_side_row r n cs)
right_side_steady {k} {m} alias_row n cs h = there (of_another (one_type_steady 0 cs h) (one_type_whole 0 cs h) (then_there (SteadyTold k m) (first_of (in_slot 2 cs)) (λ c. c.told) (λ c g. g.told) (first_steady 2 cs h)))
right_side_steady variant_row n cs h = own_steady (told_row variant_row cs) (told_row_steady variant_row cs h)
right_side_steady record_row n cs h = own_steady (told_row record_row cs) (told_row_steady record_row cs h)
right_side_steady _ n cs h = absent

-- the module of an item
module_of_item_steady : {k m : Kept} (n : ℕ) (cs : List Child) → Each (SteadyChild k m) cs → SteadyModule k m (module_of_item n cs)
module_of_item_steady {k} {m} n cs h = by (paired (optional_tokens_in 3 cs) (module_types_in 5 cs)) (paired_steady (optional_tokens_in 3 cs) (module_types_in 5 cs) (module_types_steady 5 cs h))
  where
    body : SteadyModule k m (sealed n (module_in 10 cs).at (module_in 10 cs) (first_of (module_types_in 8 cs)))
    body = sealed_steady n (module_in 10 cs).at (module_in 10 cs) (first_of (module_types_in 8 cs)) (one_module_steady 10 cs h) (first_there (module_types_in 8 cs) (module_types_steady 8 cs h))

    by : (ps : List Parameter) → Each (SteadyParameter k m) ps → SteadyModule k m (elim ps [
      | [] ↦ sealed n (module_in 10 cs).at (module_in 10 cs) (first_of (module_types_in 8 cs))
      | p ∷ ps ↦ functor_expression n (module_in 10 cs).at (p ∷ ps) (sealed n (module_in 10 cs).at (module_in 10 cs) (first_of (module_types_in 8 cs)))
    ])
    by [] each = body
    by (p ∷ ps) each = mfunctor_steady n (module_in 10 cs).at (p ∷ ps) (sealed n (module_in 10 cs).at (module_in 10 cs) (first_of (module_types_in 8 cs))) each body

pub item_steady : {k m : Kept} (r : Row) (n : ℕ) (q : Place) (ts : List Tok) (cs : List Child) → Each (SteadyChild k m) cs → IfThere (SteadyItem k m) (item_row r n q ts cs)
unfolding item_row
item_steady let_row n q ts cs h = there (let_item_steady n ts (is_some (token_in 1 cs)) (bindings_in 2 cs) (bindings_steady 2 cs h))
item_steady {k} {m} type_row n q ts cs h = there (type_item_steady n (filter_map (λ c. c.declaration) (in_slot 2 cs)) (filtered (SteadyDeclaration k m) (λ c. c.declaration) (in_slot 2 cs) (λ c g. g.declaration) (slot_steady 2 cs h)))
item_steady {k} {m} exception_row n q ts cs h = there (exception_item_steady n (then_by (first_of (in_slot 1 cs)) (λ c. c.constructor)) (then_there (SteadyConstructor k m) (first_of (in_slot 1 cs)) (λ c. c.constructor) (λ c g. g.constructor) (first_steady 1 cs h)))
item_steady break_row n q ts cs h = there (no_item_steady n)
item_steady module_row n q ts cs h = there (module_item_steady n (token_in 1 cs) (module_of_item n cs) (module_of_item_steady n cs h))
item_steady modtype_row n q ts cs h = there (module_type_item_steady n (token_in 1 cs) (module_type_in 3 cs) (one_module_type_steady 3 cs h))
item_steady open_row n q ts cs h = there (open_item_steady n (path_in 1 2 cs))
item_steady include_row n q ts cs h = there (include_item_steady n q (path_in 1 2 cs))
item_steady _ n q ts cs h = absent

pub signature_item_steady : {k m : Kept} (r : Row) (n : ℕ) (q : Place) (ts : List Tok) (cs : List Child) → Each (SteadyChild k m) cs → IfThere (SteadyItem k m) (signature_item_row r n q ts cs)
unfolding signature_item_row
signature_item_steady val_row n q ts cs h = there (value_item_steady n ts (token_in 1 cs) (type_in 3 cs) (one_type_steady 3 cs h))
signature_item_steady {k} {m} type_row n q ts cs h = there (type_item_steady n (filter_map (λ c. c.declaration) (in_slot 2 cs)) (filtered (SteadyDeclaration k m) (λ c. c.declaration) (in_slot 2 cs) (λ c g. g.declaration) (slot_steady 2 cs h)))
signature_item_steady {k} {m} exception_row n q ts cs h = there (exception_item_steady n (then_by (first_of (in_slot 1 cs)) (λ c. c.constructor)) (then_there (SteadyConstructor k m) (first_of (in_slot 1 cs)) (λ c. c.constructor) (λ c g. g.constructor) (first_steady 1 cs h)))
signature_item_steady gmodule_row n q ts cs h = there (gmodule_steady n (token_in 1 cs) (paired (optional_tokens_in 3 cs) (module_types_in 5 cs)) (module_type_in 8 cs)
    (paired_steady (optional_tokens_in 3 cs) (module_types_in 5 cs) (module_types_steady 5 cs h)) (one_module_type_steady 8 cs h))
signature_item_steady modtype_row n q ts cs h = there (module_type_item_steady n (token_in 1 cs) (module_type_in 3 cs) (one_module_type_steady 3 cs h))
signature_item_steady open_row n q ts cs h = there (open_item_steady n (path_in 1 2 cs))
signature_item_steady include_row n q ts cs h = there (include_specification_steady n q (path_in 1 2 cs))
signature_item_steady _ n q ts cs h = absent

pub module_row_steady : {k m : Kept} (r : Row) (n : ℕ) (q : Place) (cs : List Child) → Each (SteadyChild k m) cs → SteadyModule k m (module_expression_row r n q cs)
unfolding module_expression_row
module_row_steady mpath_row n q cs h = mpath_steady n q (path_in 0 1 cs)
module_row_steady {k} {m} mstruct_row n q cs h = mstruct_steady n q (filter_map (λ c. c.item) (in_slot 1 cs)) (filtered (SteadyItem k m) (λ c. c.item) (in_slot 1 cs) (λ c g. g.item) (slot_steady 1 cs h))
module_row_steady mparen_row n q cs h = sealed_steady n q (module_in 1 cs) (first_of (module_types_in 3 cs)) (one_module_steady 1 cs h) (first_there (module_types_in 3 cs) (module_types_steady 3 cs h))
module_row_steady mapp_row n q cs h = mapp_steady n q (module_in 0 cs) (module_in 2 cs) (first_of (module_types_in 4 cs)) (one_module_steady 0 cs h) (one_module_steady 2 cs h) (first_there (module_types_in 4 cs) (module_types_steady 4 cs h))
module_row_steady mfunctor_row n q cs h = mfunctor_steady n q (paired (optional_tokens_in 2 cs) (module_types_in 4 cs)) (module_in 7 cs) (paired_steady (optional_tokens_in 2 cs) (module_types_in 4 cs) (module_types_steady 4 cs h)) (one_module_steady 7 cs h)
module_row_steady _ n q cs h = no_module_steady n q

pub module_type_row_steady : {k m : Kept} (r : Row) (n : ℕ) (cs : List Child) → Each (SteadyChild k m) cs → SteadyModuleType k m (module_type_row r n cs)
unfolding module_type_row
module_type_row_steady ypath_row n cs h = ypath_steady n (path_in 0 1 cs)
module_type_row_steady {k} {m} ysig_row n cs h = ysig_steady n (filter_map (λ c. c.signature_item) (in_slot 1 cs)) (filtered (SteadyItem k m) (λ c. c.signature_item) (in_slot 1 cs) (λ c g. g.signature_item) (slot_steady 1 cs h))
module_type_row_steady yparen_row n cs h = yparen_steady n (module_type_in 1 cs) (one_module_type_steady 1 cs h)
module_type_row_steady {k} {m} ywith_row n cs h = ywith_steady n (module_type_in 0 cs) (filter_map (λ c. c.with_clause) (in_slot 2 cs)) (one_module_type_steady 0 cs h) (filtered (SteadyClause k m) (λ c. c.with_clause) (in_slot 2 cs) (λ c g. g.with_clause) (slot_steady 2 cs h))
module_type_row_steady yfunctor_row n cs h = yfunctor_steady n (paired (optional_tokens_in 2 cs) (module_types_in 4 cs)) (module_type_in 7 cs) (paired_steady (optional_tokens_in 2 cs) (module_types_in 4 cs) (module_types_steady 4 cs h)) (one_module_type_steady 7 cs h)
module_type_row_steady _ n cs h = no_module_type_steady n
