-- What each row asks holds of what is left of types where what its parts ask does.
use Rattle.std.proofs.Common.{ℕ, ◌==◌, Bool, true, false, List, [], ◌∷◌, ◌++◌, filter_map, Option, Some, None, if◌then◌else◌}
use Rattle.tree_model.specs.Trees.{Place, place}
use Rattle.tree_model.specs.Rows.{Row, tvar_row, tcon_row, tparen_row, tapp_row, ttuple_row, tarrow_row, pname_row, pany_row, pconst_row, pneg_row, pcon_row, pparen_row, plist_row, precord_row, papp_row, pcons_row, ptuple_row, por_row, pas_row, name_row, econ_row, epath_row, econst_row, hole_row, eparen_row, ebegin_row, elist_row, erecord_row, prefix_row, field_row, eapp_row, eassert_row, ewhile_row, efor_row, eneg_row, infix_row, econs_row, etuple_row, eset_row, eif_row, eseq_row, elet_row, ematch_row, etry_row, efun_row, efunction_row}
use Rattle.typing_model.specs.Parts.{Expression, Pattern, TypeExpression, Child, in_slot, path_in, token_in, expressions_in, expression_in, patterns_in, pattern_in, types_in, type_in, first_of, no_expression_at, no_pattern_at, no_type_at}
use Rattle.typing_model.specs.Patterns.{pattern_row}
use Rattle.typing_model.specs.TypeExpressions as types
use Rattle.typing_model.specs.Expressions.{expression_row, cases_in, fields_in, bindings_in, is_some, update_expression, record_expression}
use Rattle.typing_laws.proofs.Steady.{Each, no_one, one_and, each_append, IfThere, absent, there}
use Rattle.typing_laws.proofs.SteadyRows.{mapped, filtered, first_there}
use Rattle.demand_laws.proofs.Rows.{AlikeChild, expression_alike}
use Rattle.settled_types.specs.Made.{Constructors}
use Rattle.settled_types.proofs.Goes.{nothing_goes}
use Rattle.settled_types.proofs.Types.{GoesType, no_type_goes, tvar_goes, tcon_goes, tapp_goes, tparen_goes, ttuple_goes, tarrow_goes}
use Rattle.settled_types.proofs.Patterns.{GoesPattern, GoesFieldPattern, no_pattern_goes, over_goes, pname_goes, pconst_goes, pneg_goes, pcon_goes, papp_goes, pparen_goes, plist_goes, pcons_goes, ptuple_goes, pas_goes, por_goes, precord_goes}
use Rattle.settled_types.proofs.Bindings.{GoesTyped, GoesExpression, GoesBinding}
use Rattle.settled_types.proofs.Expressions.{GoesCase, GoesField, no_expression_goes, name_goes, econ_goes, path_goes, econst_goes, hole_goes, eparen_goes, ebegin_goes, elist_goes, econs_goes, etuple_goes, eapp_goes, infix_goes, prefix_goes, eneg_goes, efield_goes, eset_goes, erecord_goes, eupdate_goes, eassert_goes, eif_goes, eseq_goes, ewhile_goes, efor_goes, ematch_goes, etry_goes, efunction_goes, efun_goes, elet_goes}

-- a part of a row, as each sort that stands in a `let`
pub record GoesChild (w : Constructors) (x : Child) : Type 0 where
  pub alike : AlikeChild x
  pub expression : GoesExpression w x.expression
  pub pattern : GoesPattern w x.pattern
  pub type_expression : GoesType w x.type_expression
  pub binding : IfThere (GoesBinding w) x.binding
  pub case : IfThere (GoesCase w) x.case
  pub field : IfThere (GoesField w) x.field
  pub field_pattern : IfThere (GoesFieldPattern w) x.field_pattern

module _ (w : Constructors) where
  -- what the parts make in any two contexts
  pub alike_all : (cs : List Child) → Each (GoesChild w) cs → Each AlikeChild cs
  alike_all [] no_one = no_one
  alike_all (c ∷ cs) (one_and h each) = one_and h.alike (alike_all cs each)

  -- parts of a slot
  pub slot_goes : (s : ℕ) (cs : List Child) → Each (GoesChild w) cs → Each (GoesChild w) (in_slot s cs)
  slot_goes s [] no_one = no_one
  slot_goes s (c ∷ cs) (one_and h each) = by (c.slot == s) (slot_goes s cs each)
    where
      by : (b : Bool) → Each (GoesChild w) (in_slot s cs) → Each (GoesChild w) (if b then c ∷ in_slot s cs else in_slot s cs)
      by true g = one_and h g
      by false g = g

  pub expressions_goes : (s : ℕ) (cs : List Child) → Each (GoesChild w) cs → Each (GoesTyped w) (expressions_in s cs)
  expressions_goes s cs each = mapped (GoesTyped w) (λ c. c.expression) (in_slot s cs) (λ c h. h.expression.goes) (slot_goes s cs each)

  pub patterns_goes : (s : ℕ) (cs : List Child) → Each (GoesChild w) cs → Each (GoesPattern w) (patterns_in s cs)
  patterns_goes s cs each = mapped (GoesPattern w) (λ c. c.pattern) (in_slot s cs) (λ c h. h.pattern) (slot_goes s cs each)

  pub types_goes : (s : ℕ) (cs : List Child) → Each (GoesChild w) cs → Each (GoesType w) (types_in s cs)
  types_goes s cs each = mapped (GoesType w) (λ c. c.type_expression) (in_slot s cs) (λ c h. h.type_expression) (slot_goes s cs each)

  -- the one of a slot
  pub expression_goes : (s : ℕ) (cs : List Child) → Each (GoesChild w) cs → GoesTyped w (expression_in s cs)
  expression_goes s cs each = by (first_of (expressions_in s cs)) (first_there (expressions_in s cs) (expressions_goes s cs each))
    where
      by : (o : Option Expression) → IfThere (GoesTyped w) o → GoesTyped w (elim o [ None ↦ no_expression_at 0 (place 0 0) | Some e ↦ e ])
      by None absent = no_expression_goes w 0 (place 0 0)
      by (Some e) (there h) = h

  pub one_pattern_goes : (s : ℕ) (cs : List Child) → Each (GoesChild w) cs → GoesPattern w (pattern_in s cs)
  one_pattern_goes s cs each = by (first_of (patterns_in s cs)) (first_there (patterns_in s cs) (patterns_goes s cs each))
    where
      by : (o : Option Pattern) → IfThere (GoesPattern w) o → GoesPattern w (elim o [ None ↦ no_pattern_at 0 (place 0 0) | Some p ↦ p ])
      by None absent = no_pattern_goes w 0 (place 0 0)
      by (Some e) (there h) = h

  pub one_type_goes : (s : ℕ) (cs : List Child) → Each (GoesChild w) cs → GoesType w (type_in s cs)
  one_type_goes s cs each = by (first_of (types_in s cs)) (first_there (types_in s cs) (types_goes s cs each))
    where
      by : (o : Option TypeExpression) → IfThere (GoesType w) o → GoesType w (elim o [ None ↦ no_type_at 0 (place 0 0) | Some t ↦ t ])
      by None absent = no_type_goes w 0 (place 0 0)
      by (Some e) (there h) = h

  pub bindings_goes : (s : ℕ) (cs : List Child) → Each (GoesChild w) cs → Each (GoesBinding w) (bindings_in s cs)
  bindings_goes s cs each = filtered (GoesBinding w) (λ c. c.binding) (in_slot s cs) (λ c h. h.binding) (slot_goes s cs each)

  cases_goes : (s : ℕ) (cs : List Child) → Each (GoesChild w) cs → Each (GoesCase w) (cases_in s cs)
  cases_goes s cs each = filtered (GoesCase w) (λ c. c.case) (in_slot s cs) (λ c h. h.case) (slot_goes s cs each)

  fields_goes : (s : ℕ) (cs : List Child) → Each (GoesChild w) cs → Each (GoesField w) (fields_in s cs)
  fields_goes s cs each = filtered (GoesField w) (λ c. c.field) (in_slot s cs) (λ c h. h.field) (slot_goes s cs each)

  whole_goes : (s : ℕ) (cs : List Child) → Each (GoesChild w) cs → GoesExpression w (expression_in s cs)
  whole_goes s cs each = record { alike = expression_alike s cs (alike_all cs each); goes = expression_goes s cs each }

  -- an expression by its row
  pub expression_row_goes : (r : Row) (n : ℕ) (q : Place) (cs : List Child) → Each (GoesChild w) cs → GoesTyped w (expression_row r n q cs)
  unfolding expression_row
  expression_row_goes name_row n q cs h = name_goes w n q (path_in 9 0 cs)
  expression_row_goes econ_row n q cs h = econ_goes w n q (path_in 9 0 cs)
  expression_row_goes epath_row n q cs h = path_goes w n q (path_in 0 1 cs)
  expression_row_goes econst_row n q cs h = econst_goes w n q (token_in 0 cs)
  expression_row_goes hole_row n q cs h = hole_goes w n q
  expression_row_goes eparen_row n q cs h = eparen_goes w n q (expression_in 1 cs) (first_of (types_in 3 cs)) (expression_goes 1 cs h) (first_there (types_in 3 cs) (types_goes 3 cs h))
  expression_row_goes ebegin_row n q cs h = ebegin_goes w n q (first_of (expressions_in 1 cs)) (first_there (expressions_in 1 cs) (expressions_goes 1 cs h))
  expression_row_goes elist_row n q cs h = elist_goes w n q (expressions_in 1 cs) (expressions_goes 1 cs h)
  expression_row_goes erecord_row n q cs h = by (is_some (token_in 4 cs))
    where
      by : (b : Bool) → GoesTyped w (if b then update_expression n q (expression_in 1 cs) (fields_in 5 cs) else record_expression n q (expression_in 1 cs) (first_of (expressions_in 3 cs)) (fields_in 5 cs))
      by true = eupdate_goes w n q (expression_in 1 cs) (fields_in 5 cs) (expression_goes 1 cs h) (fields_goes 5 cs h)
      by false = erecord_goes w n q (expression_in 1 cs) (first_of (expressions_in 3 cs)) (fields_in 5 cs) (expression_goes 1 cs h) (first_there (expressions_in 3 cs) (expressions_goes 3 cs h)) (fields_goes 5 cs h)
  expression_row_goes prefix_row n q cs h = prefix_goes w n q (token_in 0 cs) (expression_in 1 cs) (expression_goes 1 cs h)
  expression_row_goes field_row n q cs h = efield_goes w n q (expression_in 0 cs) (path_in 2 3 cs) (expression_goes 0 cs h)
  expression_row_goes eapp_row n q cs h = eapp_goes w n q (expression_in 0 cs) (expressions_in 1 cs) (expression_goes 0 cs h) (expressions_goes 1 cs h)
  expression_row_goes eassert_row n q cs h = eassert_goes w n q (expression_in 1 cs) (expression_goes 1 cs h)
  expression_row_goes ewhile_row n q cs h = ewhile_goes w n q (expression_in 1 cs) (expression_in 3 cs) (expression_goes 1 cs h) (expression_goes 3 cs h)
  expression_row_goes efor_row n q cs h = efor_goes w n q (token_in 1 cs) (expression_in 3 cs) (expression_in 5 cs) (expression_in 7 cs) (expression_goes 3 cs h) (expression_goes 5 cs h) (expression_goes 7 cs h)
  expression_row_goes eneg_row n q cs h = eneg_goes w n q (token_in 0 cs) (expression_in 1 cs) (expression_goes 1 cs h)
  expression_row_goes infix_row n q cs h = infix_goes w n q (token_in 1 cs) (expression_in 0 cs) (expression_in 2 cs) (expression_goes 0 cs h) (expression_goes 2 cs h)
  expression_row_goes econs_row n q cs h = econs_goes w n q (expression_in 0 cs) (expression_in 2 cs) (expression_goes 0 cs h) (expression_goes 2 cs h)
  expression_row_goes etuple_row n q cs h = etuple_goes w n q (expressions_in 0 cs ++ expressions_in 2 cs) (each_append (expressions_goes 0 cs h) (expressions_goes 2 cs h))
  expression_row_goes eset_row n q cs h = eset_goes w n q (expression_in 0 cs) (expression_in 2 cs) (whole_goes 0 cs h) (expression_goes 2 cs h)
  expression_row_goes eif_row n q cs h = eif_goes w n q (expression_in 1 cs) (expression_in 3 cs) (first_of (expressions_in 5 cs)) (expression_goes 1 cs h) (expression_goes 3 cs h) (first_there (expressions_in 5 cs) (expressions_goes 5 cs h))
  expression_row_goes eseq_row n q cs h = eseq_goes w n q (expressions_in 0 cs ++ expressions_in 2 cs) (each_append (expressions_goes 0 cs h) (expressions_goes 2 cs h))
  expression_row_goes elet_row n q cs h = elet_goes w n q (is_some (token_in 1 cs)) (bindings_in 2 cs) (expression_in 5 cs) (bindings_goes 2 cs h) (expression_goes 5 cs h)
  expression_row_goes ematch_row n q cs h = ematch_goes w n q (expression_in 1 cs) (cases_in 4 cs) (expression_goes 1 cs h) (cases_goes 4 cs h)
  expression_row_goes etry_row n q cs h = etry_goes w n q (expression_in 1 cs) (cases_in 4 cs) (expression_goes 1 cs h) (cases_goes 4 cs h)
  expression_row_goes efun_row n q cs h = efun_goes w n q (patterns_in 1 cs) (expression_in 3 cs) (patterns_goes 1 cs h) (expression_goes 3 cs h)
  expression_row_goes efunction_row n q cs h = efunction_goes w n q (cases_in 4 cs) (cases_goes 4 cs h)
  expression_row_goes _ n q cs h = no_expression_goes w n q

  pub pattern_row_goes : (r : Row) (n : ℕ) (q : Place) (cs : List Child) → Each (GoesChild w) cs → GoesPattern w (pattern_row r n q cs)
  unfolding pattern_row
  pattern_row_goes pname_row n q cs h = pname_goes w n q (token_in 0 cs)
  pattern_row_goes pany_row n q cs h = over_goes w n q [] (λ c. []) no_one (λ c. nothing_goes)
  pattern_row_goes pconst_row n q cs h = pconst_goes w n q (token_in 0 cs)
  pattern_row_goes pneg_row n q cs h = pneg_goes w n q (token_in 1 cs)
  pattern_row_goes pcon_row n q cs h = pcon_goes w n q (path_in 0 1 cs)
  pattern_row_goes pparen_row n q cs h = pparen_goes w n q (pattern_in 1 cs) (first_of (types_in 3 cs)) (one_pattern_goes 1 cs h) (first_there (types_in 3 cs) (types_goes 3 cs h))
  pattern_row_goes plist_row n q cs h = plist_goes w n q (patterns_in 1 cs) (patterns_goes 1 cs h)
  pattern_row_goes precord_row n q cs h = precord_goes w n q (filter_map (λ c. c.field_pattern) (in_slot 1 cs)) (filtered (GoesFieldPattern w) (λ c. c.field_pattern) (in_slot 1 cs) (λ c g. g.field_pattern) (slot_goes 1 cs h))
  pattern_row_goes papp_row n q cs h = papp_goes w n q (pattern_in 0 cs) (pattern_in 1 cs) (one_pattern_goes 1 cs h)
  pattern_row_goes pcons_row n q cs h = pcons_goes w n q (pattern_in 0 cs) (pattern_in 2 cs) (one_pattern_goes 0 cs h) (one_pattern_goes 2 cs h)
  pattern_row_goes ptuple_row n q cs h = ptuple_goes w n q (patterns_in 0 cs ++ patterns_in 2 cs) (each_append (patterns_goes 0 cs h) (patterns_goes 2 cs h))
  pattern_row_goes por_row n q cs h = por_goes w n q (pattern_in 0 cs) (patterns_in 2 cs) (one_pattern_goes 0 cs h) (patterns_goes 2 cs h)
  pattern_row_goes pas_row n q cs h = pas_goes w n q (pattern_in 0 cs) (token_in 2 cs) (one_pattern_goes 0 cs h)
  pattern_row_goes _ n q cs h = no_pattern_goes w n q

  pub type_row_goes : (r : Row) (n : ℕ) (q : Place) (cs : List Child) → Each (GoesChild w) cs → GoesType w (types.type_row r n q cs)
  unfolding types.type_row
  type_row_goes tvar_row n q cs h = tvar_goes w n q (token_in 0 cs)
  type_row_goes tcon_row n q cs h = tcon_goes w n q (path_in 0 1 cs)
  type_row_goes tparen_row n q cs h = tparen_goes w n q (types_in 1 cs) (types_goes 1 cs h)
  type_row_goes tapp_row n q cs h = tapp_goes w n q (type_in 0 cs) (path_in 1 2 cs) (one_type_goes 0 cs h)
  type_row_goes ttuple_row n q cs h = ttuple_goes w n q (types_in 0 cs ++ types_in 2 cs) (each_append (types_goes 0 cs h) (types_goes 2 cs h))
  type_row_goes tarrow_row n q cs h = tarrow_goes w n q (type_in 0 cs) (type_in 2 cs) (one_type_goes 0 cs h) (one_type_goes 2 cs h)
  type_row_goes _ n q cs h = no_type_goes w n q
