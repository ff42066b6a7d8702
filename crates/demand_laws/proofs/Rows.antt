-- What each row asks makes the same demands where its parts do.
use Rattle.std.proofs.Common.{ℕ, ◌==◌, Bool, true, false, List, [], ◌∷◌, ◌++◌, filter_map, Option, Some, None, option_map, refl, if◌then◌else◌}
use Rattle.tree_model.specs.Trees.{Place, place}
use Rattle.tree_model.specs.Rows.{Row, alias_row, variant_row, record_row, con_row, label_row, decl_row, tvar_row, tcon_row, tparen_row, tapp_row, ttuple_row, tarrow_row, pname_row, pany_row, pconst_row, pneg_row, pcon_row, pparen_row, plist_row, precord_row, papp_row, pcons_row, ptuple_row, por_row, pas_row, name_row, econ_row, epath_row, econst_row, hole_row, eparen_row, ebegin_row, elist_row, erecord_row, prefix_row, field_row, eapp_row, eassert_row, ewhile_row, efor_row, eneg_row, infix_row, econs_row, etuple_row, eset_row, eif_row, eseq_row, elet_row, ematch_row, etry_row, efun_row, efunction_row}
use Rattle.typing_model.specs.Parts.{Expression, Pattern, TypeExpression, Told, own, Child, in_slot, path_in, token_in, expressions_in, expression_in, patterns_in, pattern_in, types_in, type_in, first_of, no_expression_at, no_pattern_at, no_type_at}
use Rattle.typing_model.specs.Patterns.{pattern_row}
use Rattle.typing_model.specs.TypeExpressions as types
use Rattle.typing_model.specs.Expressions.{expression_row, cases_in, fields_in, bindings_in, is_some, update_expression, record_expression}
use Rattle.typing_model.specs.Names.{then_by}
use Rattle.typing_model.specs.Declarations.{told_row, right_side_row}
use Rattle.typing_model.specs.Meanings.{constructor_of, label_of, declaration_of}
use Rattle.typing_laws.proofs.Steady.{Each, no_one, one_and, each_append, IfThere, absent, there}
use Rattle.typing_laws.proofs.SteadyRows.{mapped, filtered, first_there, then_there}
use Rattle.demand_laws.proofs.Alike.{alone}
use Rattle.demand_laws.proofs.Types.{AlikeType, no_type_alike, tvar_alike, tcon_alike, tapp_alike, tparen_alike, ttuple_alike, tarrow_alike}
use Rattle.demand_laws.proofs.Patterns.{AlikePattern, AlikeFieldPattern, no_pattern_alike, over_alike, pname_alike, pconst_alike, pneg_alike, pcon_alike, papp_alike, pparen_alike, plist_alike, pcons_alike, ptuple_alike, pas_alike, por_alike, precord_alike}
use Rattle.demand_laws.proofs.Declarations.{AlikeConstructor, AlikeLabel, AlikeTold, of_constructors, of_labels, AlikeRight, of_another, of_own, AlikeDeclaration}
use Rattle.demand_laws.proofs.Bindings.{AlikeExpression, AlikeBinding}
use Rattle.demand_laws.proofs.Expressions.{AlikeCase, AlikeField, no_expression_alike, name_alike, econ_alike, path_alike, econst_alike, hole_alike, eparen_alike, ebegin_alike, elist_alike, econs_alike, etuple_alike, eapp_alike, infix_alike, prefix_alike, eneg_alike, field_alike, eset_alike, erecord_alike, eupdate_alike, eassert_alike, eif_alike, eseq_alike, ewhile_alike, efor_alike, ematch_alike, etry_alike, efunction_alike, efun_alike, elet_alike}

-- a part of a row, as each sort that stands in a `let`, a declaration of types or an exception
pub record AlikeChild (x : Child) : Type 0 where
  pub expression : AlikeExpression x.expression
  pub pattern : AlikePattern x.pattern
  pub type_expression : AlikeType x.type_expression
  pub binding : IfThere AlikeBinding x.binding
  pub case : IfThere AlikeCase x.case
  pub field : IfThere AlikeField x.field
  pub field_pattern : IfThere AlikeFieldPattern x.field_pattern
  pub constructor : IfThere AlikeConstructor x.constructor
  pub label : IfThere AlikeLabel x.label
  pub told : IfThere AlikeTold x.told
  pub right_side : IfThere AlikeRight x.right_side
  pub declaration : IfThere AlikeDeclaration x.declaration

-- parts of a slot
pub slot_alike : (s : ℕ) (cs : List Child) → Each AlikeChild cs → Each AlikeChild (in_slot s cs)
slot_alike s [] no_one = no_one
slot_alike s (c ∷ cs) (one_and h each) = by (c.slot == s) (slot_alike s cs each)
  where
    by : (b : Bool) → Each AlikeChild (in_slot s cs) → Each AlikeChild (if b then c ∷ in_slot s cs else in_slot s cs)
    by true g = one_and h g
    by false g = g

pub expressions_alike : (s : ℕ) (cs : List Child) → Each AlikeChild cs → Each AlikeExpression (expressions_in s cs)
expressions_alike s cs each = mapped AlikeExpression (λ c. c.expression) (in_slot s cs) (λ c h. h.expression) (slot_alike s cs each)

pub patterns_alike : (s : ℕ) (cs : List Child) → Each AlikeChild cs → Each AlikePattern (patterns_in s cs)
patterns_alike s cs each = mapped AlikePattern (λ c. c.pattern) (in_slot s cs) (λ c h. h.pattern) (slot_alike s cs each)

pub types_alike : (s : ℕ) (cs : List Child) → Each AlikeChild cs → Each AlikeType (types_in s cs)
types_alike s cs each = mapped AlikeType (λ c. c.type_expression) (in_slot s cs) (λ c h. h.type_expression) (slot_alike s cs each)

-- the one of a slot
pub expression_alike : (s : ℕ) (cs : List Child) → Each AlikeChild cs → AlikeExpression (expression_in s cs)
expression_alike s cs each = by (first_of (expressions_in s cs)) (first_there (expressions_in s cs) (expressions_alike s cs each))
  where
    by : (o : Option Expression) → IfThere AlikeExpression o → AlikeExpression (elim o [ None ↦ no_expression_at 0 (place 0 0) | Some e ↦ e ])
    by None absent = no_expression_alike 0 (place 0 0)
    by (Some e) (there h) = h

pub one_pattern_alike : (s : ℕ) (cs : List Child) → Each AlikeChild cs → AlikePattern (pattern_in s cs)
one_pattern_alike s cs each = by (first_of (patterns_in s cs)) (first_there (patterns_in s cs) (patterns_alike s cs each))
  where
    by : (o : Option Pattern) → IfThere AlikePattern o → AlikePattern (elim o [ None ↦ no_pattern_at 0 (place 0 0) | Some p ↦ p ])
    by None absent = no_pattern_alike 0 (place 0 0)
    by (Some e) (there h) = h

pub one_type_alike : (s : ℕ) (cs : List Child) → Each AlikeChild cs → AlikeType (type_in s cs)
one_type_alike s cs each = by (first_of (types_in s cs)) (first_there (types_in s cs) (types_alike s cs each))
  where
    by : (o : Option TypeExpression) → IfThere AlikeType o → AlikeType (elim o [ None ↦ no_type_at 0 (place 0 0) | Some t ↦ t ])
    by None absent = no_type_alike 0 (place 0 0)
    by (Some e) (there h) = h

pub bindings_alike : (s : ℕ) (cs : List Child) → Each AlikeChild cs → Each AlikeBinding (bindings_in s cs)
bindings_alike s cs each = filtered AlikeBinding (λ c. c.binding) (in_slot s cs) (λ c h. h.binding) (slot_alike s cs each)

cases_alike : (s : ℕ) (cs : List Child) → Each AlikeChild cs → Each AlikeCase (cases_in s cs)
cases_alike s cs each = filtered AlikeCase (λ c. c.case) (in_slot s cs) (λ c h. h.case) (slot_alike s cs each)

fields_alike : (s : ℕ) (cs : List Child) → Each AlikeChild cs → Each AlikeField (fields_in s cs)
fields_alike s cs each = filtered AlikeField (λ c. c.field) (in_slot s cs) (λ c h. h.field) (slot_alike s cs each)

first_alike : (s : ℕ) (cs : List Child) → Each AlikeChild cs → IfThere AlikeChild (first_of (in_slot s cs))
first_alike s cs each = first_there (in_slot s cs) (slot_alike s cs each)

-- the first constructor of a slot, and the declarations
pub one_constructor_alike : (s : ℕ) (cs : List Child) → Each AlikeChild cs → IfThere AlikeConstructor (then_by (first_of (in_slot s cs)) (λ c. c.constructor))
one_constructor_alike s cs each = then_there AlikeConstructor (first_of (in_slot s cs)) (λ c. c.constructor) (λ c h. h.constructor) (first_alike s cs each)

pub declarations_alike : (s : ℕ) (cs : List Child) → Each AlikeChild cs → Each AlikeDeclaration (filter_map (λ c. c.declaration) (in_slot s cs))
declarations_alike s cs each = filtered AlikeDeclaration (λ c. c.declaration) (in_slot s cs) (λ c h. h.declaration) (slot_alike s cs each)

-- the parts of a declaration by their rows
pub constructor_row_alike : (r : Row) (n : ℕ) (cs : List Child) → Each AlikeChild cs → IfThere AlikeConstructor (constructor_of r n cs)
constructor_row_alike con_row n cs h = there (record { argument = first_there (types_in 2 cs) (types_alike 2 cs h) })
constructor_row_alike _ n cs h = absent

pub label_row_alike : (r : Row) (n : ℕ) (cs : List Child) → Each AlikeChild cs → IfThere AlikeLabel (label_of r n cs)
label_row_alike label_row n cs h = there (record { body = one_type_alike 3 cs h })
label_row_alike _ n cs h = absent

pub told_row_alike : (r : Row) (cs : List Child) → Each AlikeChild cs → IfThere AlikeTold (told_row r cs)
told_row_alike variant_row cs h = there (of_constructors (filtered AlikeConstructor (λ c. c.constructor) (in_slot 1 cs) (λ c g. g.constructor) (slot_alike 1 cs h)))
told_row_alike record_row cs h = there (of_labels (filtered AlikeLabel (λ c. c.label) (in_slot 1 cs) (λ c g. g.label) (slot_alike 1 cs h)))
told_row_alike _ cs h = absent

own_alike : {o : Option Told} → IfThere AlikeTold o → IfThere AlikeRight (option_map own o)
own_alike absent = absent
own_alike (there s) = there (of_own s)

pub right_row_alike : (r : Row) (n : ℕ) (cs : List Child) → Each AlikeChild cs → IfThere AlikeRight (right_side_row r n cs)
right_row_alike alias_row n cs h = there (of_another (one_type_alike 0 cs h) (then_there AlikeTold (first_of (in_slot 2 cs)) (λ c. c.told) (λ c g. g.told) (first_alike 2 cs h)))
right_row_alike variant_row n cs h = own_alike (told_row_alike variant_row cs h)
right_row_alike record_row n cs h = own_alike (told_row_alike record_row cs h)
right_row_alike _ n cs h = absent

pub declaration_row_alike : (r : Row) (n : ℕ) (cs : List Child) → Each AlikeChild cs → IfThere AlikeDeclaration (declaration_of r n cs)
declaration_row_alike decl_row n cs h = there (record { right = then_there AlikeRight (first_of (in_slot 2 cs)) (λ c. c.right_side) (λ c g. g.right_side) (first_alike 2 cs h) })
declaration_row_alike _ n cs h = absent

-- an expression by its row
pub expression_row_alike : (r : Row) (n : ℕ) (q : Place) (cs : List Child) → Each AlikeChild cs → AlikeExpression (expression_row r n q cs)
unfolding expression_row
expression_row_alike name_row n q cs h = name_alike n q (path_in 9 0 cs)
expression_row_alike econ_row n q cs h = econ_alike n q (path_in 9 0 cs)
expression_row_alike epath_row n q cs h = path_alike n q (path_in 0 1 cs)
expression_row_alike econst_row n q cs h = econst_alike n q (token_in 0 cs)
expression_row_alike hole_row n q cs h = hole_alike n q
expression_row_alike eparen_row n q cs h = eparen_alike n q (expression_in 1 cs) (first_of (types_in 3 cs)) (expression_alike 1 cs h) (first_there (types_in 3 cs) (types_alike 3 cs h))
expression_row_alike ebegin_row n q cs h = ebegin_alike n q (first_of (expressions_in 1 cs)) (first_there (expressions_in 1 cs) (expressions_alike 1 cs h))
expression_row_alike elist_row n q cs h = elist_alike n q (expressions_in 1 cs) (expressions_alike 1 cs h)
expression_row_alike erecord_row n q cs h = by (is_some (token_in 4 cs))
  where
    by : (b : Bool) → AlikeExpression (if b then update_expression n q (expression_in 1 cs) (fields_in 5 cs) else record_expression n q (expression_in 1 cs) (first_of (expressions_in 3 cs)) (fields_in 5 cs))
    by true = eupdate_alike n q (expression_in 1 cs) (fields_in 5 cs) (expression_alike 1 cs h) (fields_alike 5 cs h)
    by false = erecord_alike n q (expression_in 1 cs) (first_of (expressions_in 3 cs)) (fields_in 5 cs) (expression_alike 1 cs h) (first_there (expressions_in 3 cs) (expressions_alike 3 cs h)) (fields_alike 5 cs h)
expression_row_alike prefix_row n q cs h = prefix_alike n q (token_in 0 cs) (expression_in 1 cs) (expression_alike 1 cs h)
expression_row_alike field_row n q cs h = field_alike n q (expression_in 0 cs) (path_in 2 3 cs) (expression_alike 0 cs h)
expression_row_alike eapp_row n q cs h = eapp_alike n q (expression_in 0 cs) (expressions_in 1 cs) (expression_alike 0 cs h) (expressions_alike 1 cs h)
expression_row_alike eassert_row n q cs h = eassert_alike n q (expression_in 1 cs) (expression_alike 1 cs h)
expression_row_alike ewhile_row n q cs h = ewhile_alike n q (expression_in 1 cs) (expression_in 3 cs) (expression_alike 1 cs h) (expression_alike 3 cs h)
expression_row_alike efor_row n q cs h = efor_alike n q (token_in 1 cs) (expression_in 3 cs) (expression_in 5 cs) (expression_in 7 cs) (expression_alike 3 cs h) (expression_alike 5 cs h) (expression_alike 7 cs h)
expression_row_alike eneg_row n q cs h = eneg_alike n q (token_in 0 cs) (expression_in 1 cs) (expression_alike 1 cs h)
expression_row_alike infix_row n q cs h = infix_alike n q (token_in 1 cs) (expression_in 0 cs) (expression_in 2 cs) (expression_alike 0 cs h) (expression_alike 2 cs h)
expression_row_alike econs_row n q cs h = econs_alike n q (expression_in 0 cs) (expression_in 2 cs) (expression_alike 0 cs h) (expression_alike 2 cs h)
expression_row_alike etuple_row n q cs h = etuple_alike n q (expressions_in 0 cs ++ expressions_in 2 cs) (each_append (expressions_alike 0 cs h) (expressions_alike 2 cs h))
expression_row_alike eset_row n q cs h = eset_alike n q (expression_in 0 cs) (expression_in 2 cs) (expression_alike 0 cs h) (expression_alike 2 cs h)
expression_row_alike eif_row n q cs h = eif_alike n q (expression_in 1 cs) (expression_in 3 cs) (first_of (expressions_in 5 cs)) (expression_alike 1 cs h) (expression_alike 3 cs h) (first_there (expressions_in 5 cs) (expressions_alike 5 cs h))
expression_row_alike eseq_row n q cs h = eseq_alike n q (expressions_in 0 cs ++ expressions_in 2 cs) (each_append (expressions_alike 0 cs h) (expressions_alike 2 cs h))
expression_row_alike elet_row n q cs h = elet_alike n q (is_some (token_in 1 cs)) (bindings_in 2 cs) (expression_in 5 cs) (bindings_alike 2 cs h) (expression_alike 5 cs h)
expression_row_alike ematch_row n q cs h = ematch_alike n q (expression_in 1 cs) (cases_in 4 cs) (expression_alike 1 cs h) (cases_alike 4 cs h)
expression_row_alike etry_row n q cs h = etry_alike n q (expression_in 1 cs) (cases_in 4 cs) (expression_alike 1 cs h) (cases_alike 4 cs h)
expression_row_alike efun_row n q cs h = efun_alike n q (patterns_in 1 cs) (expression_in 3 cs) (patterns_alike 1 cs h) (expression_alike 3 cs h)
expression_row_alike efunction_row n q cs h = efunction_alike n q (cases_in 4 cs) (cases_alike 4 cs h)
expression_row_alike _ n q cs h = no_expression_alike n q

pub pattern_row_alike : (r : Row) (n : ℕ) (q : Place) (cs : List Child) → Each AlikeChild cs → AlikePattern (pattern_row r n q cs)
unfolding pattern_row
pattern_row_alike pname_row n q cs h = pname_alike n q (token_in 0 cs)
pattern_row_alike pany_row n q cs h = over_alike n q [] (λ c. []) no_one (λ c. alone (λ k. refl))
pattern_row_alike pconst_row n q cs h = pconst_alike n q (token_in 0 cs)
pattern_row_alike pneg_row n q cs h = pneg_alike n q (token_in 1 cs)
pattern_row_alike pcon_row n q cs h = pcon_alike n q (path_in 0 1 cs)
pattern_row_alike pparen_row n q cs h = pparen_alike n q (pattern_in 1 cs) (first_of (types_in 3 cs)) (one_pattern_alike 1 cs h) (first_there (types_in 3 cs) (types_alike 3 cs h))
pattern_row_alike plist_row n q cs h = plist_alike n q (patterns_in 1 cs) (patterns_alike 1 cs h)
pattern_row_alike precord_row n q cs h = precord_alike n q (filter_map (λ c. c.field_pattern) (in_slot 1 cs)) (filtered AlikeFieldPattern (λ c. c.field_pattern) (in_slot 1 cs) (λ c g. g.field_pattern) (slot_alike 1 cs h))
pattern_row_alike papp_row n q cs h = papp_alike n q (pattern_in 0 cs) (pattern_in 1 cs) (one_pattern_alike 1 cs h)
pattern_row_alike pcons_row n q cs h = pcons_alike n q (pattern_in 0 cs) (pattern_in 2 cs) (one_pattern_alike 0 cs h) (one_pattern_alike 2 cs h)
pattern_row_alike ptuple_row n q cs h = ptuple_alike n q (patterns_in 0 cs ++ patterns_in 2 cs) (each_append (patterns_alike 0 cs h) (patterns_alike 2 cs h))
pattern_row_alike por_row n q cs h = por_alike n q (pattern_in 0 cs) (patterns_in 2 cs) (one_pattern_alike 0 cs h) (patterns_alike 2 cs h)
pattern_row_alike pas_row n q cs h = pas_alike n q (pattern_in 0 cs) (token_in 2 cs) (one_pattern_alike 0 cs h)
pattern_row_alike _ n q cs h = no_pattern_alike n q

pub type_row_alike : (r : Row) (n : ℕ) (q : Place) (cs : List Child) → Each AlikeChild cs → AlikeType (types.type_row r n q cs)
unfolding types.type_row
type_row_alike tvar_row n q cs h = tvar_alike n q (token_in 0 cs)
type_row_alike tcon_row n q cs h = tcon_alike n q (path_in 0 1 cs)
type_row_alike tparen_row n q cs h = tparen_alike n q (types_in 1 cs) (types_alike 1 cs h)
type_row_alike tapp_row n q cs h = tapp_alike n q (type_in 0 cs) (path_in 1 2 cs) (one_type_alike 0 cs h)
type_row_alike ttuple_row n q cs h = ttuple_alike n q (types_in 0 cs ++ types_in 2 cs) (each_append (types_alike 0 cs h) (types_alike 2 cs h))
type_row_alike tarrow_row n q cs h = tarrow_alike n q (type_in 0 cs) (type_in 2 cs) (one_type_alike 0 cs h) (one_type_alike 2 cs h)
type_row_alike _ n q cs h = no_type_alike n q
