-- What each row tells, where its parts tell environments with values and exceptions in front.
use Rattle.std.proofs.Common.{ℕ, ◌==◌, Bool, true, false, List, [], ◌∷◌, ◌++◌, map, filter_map, Option, Some, None, if◌then◌else◌}
use Rattle.std.specs.List.{cons_option}
use Rattle.tree_model.specs.Trees.{Place, place}
use Rattle.tree_model.specs.Rows.{Row, tvar_row, tcon_row, tparen_row, tapp_row, ttuple_row, tarrow_row, pname_row, pany_row, pconst_row, pneg_row, pcon_row, pparen_row, plist_row, precord_row, papp_row, pcons_row, ptuple_row, por_row, pas_row, name_row, econ_row, epath_row, econst_row, hole_row, eparen_row, ebegin_row, elist_row, erecord_row, prefix_row, field_row, eapp_row, eassert_row, ewhile_row, efor_row, eneg_row, infix_row, econs_row, etuple_row, eset_row, eif_row, eseq_row, elet_row, ematch_row, etry_row, efun_row, efunction_row}
use Rattle.typing_model.specs.Parts.{Expression, Pattern, TypeExpression, ConstructorPart, Child, in_slot, path_in, token_in, expressions_in, expression_in, patterns_in, pattern_in, types_in, type_in, first_of, no_expression_at, no_pattern_at, no_type_at}
use Rattle.typing_model.specs.Names.{then_by}
use Rattle.typing_model.specs.Patterns.{pattern_row}
use Rattle.typing_model.specs.TypeExpressions as types
use Rattle.typing_model.specs.Expressions.{expression_row, cases_in, fields_in, bindings_in, is_some, update_expression, record_expression}
use Rattle.typing_laws.proofs.Steady.{Each, no_one, one_and, each_append, IfThere, absent, there}
use Rattle.over_laws.proofs.Told.{Around, nothing_told}
use Rattle.over_laws.proofs.Types.{ToldType, no_type_told, tvar_told, tcon_told, tapp_told, tparen_told, ttuple_told, tarrow_told}
use Rattle.over_laws.proofs.Patterns.{ToldPattern, ToldFieldPattern, no_pattern_told, pname_told, pconst_told, pneg_told, pcon_told, papp_told, pparen_told, plist_told, pcons_told, ptuple_told, pas_told, por_told, precord_told}
use Rattle.over_laws.proofs.Expressions.{ToldExpression, no_expression_told, name_told, econ_told, path_told, econst_told, hole_told, eparen_told, ebegin_told, elist_told, econs_told, etuple_told, eapp_told, infix_told, prefix_told, eneg_told, field_told, eset_told, eassert_told, eif_told, eseq_told, ewhile_told, efor_told}
use Rattle.over_laws.proofs.Records.{ToldField, ToldCase, erecord_told, eupdate_told, ematch_told, etry_told, efunction_told, efun_told}
use Rattle.over_laws.proofs.Bindings.{ToldBinding, elet_told}

-- the argument of a constructor
pub record ToldConstructor (w : Around) (k : ConstructorPart) : Type 0 where
  pub argument : IfThere (ToldType w) k.argument

-- a part of a row, as each sort that stands in a `let` or an exception, tells environments with values and exceptions in front where it stands in one
pub record ToldChild (w : Around) (x : Child) : Type 0 where
  pub expression : ToldExpression w x.expression
  pub pattern : ToldPattern w x.pattern
  pub type_expression : ToldType w x.type_expression
  pub binding : IfThere (ToldBinding w) x.binding
  pub case : IfThere (ToldCase w) x.case
  pub field : IfThere (ToldField w) x.field
  pub field_pattern : IfThere (ToldFieldPattern w) x.field_pattern
  pub constructor : IfThere (ToldConstructor w) x.constructor

-- the parts of a slot, in order
each_slot : {P : Child → Type 0} {X : Type 0} (Q : X → Type 0) (f : Child → X) → ((c : Child) → P c → Q (f c)) → (s : ℕ) {cs : List Child} → Each P cs → Each Q (map f (in_slot s cs))
each_slot Q f get s no_one = no_one
each_slot Q f get s (one_and {x = c} {xs = cs} one rest) = by (each_slot Q f get s rest) (c.slot == s)
  where
    by : Each Q (map f (in_slot s cs)) → (b : Bool) → Each Q (map f (if b then c ∷ in_slot s cs else in_slot s cs))
    by others true = one_and (get c one) others
    by others false = others

-- the same of those that may be parts of a sort
each_kind : {P : Child → Type 0} {X : Type 0} (Q : X → Type 0) (f : Child → Option X) → ((c : Child) → P c → IfThere Q (f c)) → (s : ℕ) {cs : List Child} → Each P cs → Each Q (filter_map f (in_slot s cs))
each_kind Q f get s no_one = no_one
each_kind {X = X} Q f get s (one_and {x = c} {xs = cs} one rest) = by (each_kind Q f get s rest) (c.slot == s)
  where
    kind : Each Q (filter_map f (in_slot s cs)) → (o : Option X) → IfThere Q o → Each Q (cons_option o (filter_map f (in_slot s cs)))
    kind others None absent = others
    kind others (Some y) (there q) = one_and q others

    by : Each Q (filter_map f (in_slot s cs)) → (b : Bool) → Each Q (filter_map f (if b then c ∷ in_slot s cs else in_slot s cs))
    by others true = kind others (f c) (get c one)
    by others false = others

-- the first of a list
first_told : {X : Type 0} {Q : X → Type 0} (xs : List X) → Each Q xs → IfThere Q (first_of xs)
first_told [] no_one = absent
first_told (x ∷ xs) (one_and q rest) = there q

-- the first constructor of a slot
pub first_constructor : {w : Around} (s : ℕ) (cs : List Child) → Each (ToldChild w) cs → IfThere (ToldConstructor w) (then_by (first_of (in_slot s cs)) (λ k. k.constructor))
first_constructor s [] no_one = absent
first_constructor {w} s (c ∷ cs) (one_and one rest) = by (first_constructor s cs rest) (c.slot == s)
  where
    by : IfThere (ToldConstructor w) (then_by (first_of (in_slot s cs)) (λ k. k.constructor)) → (b : Bool) →
        IfThere (ToldConstructor w) (then_by (first_of (if b then c ∷ in_slot s cs else in_slot s cs)) (λ k. k.constructor))
    by others true = one.constructor
    by others false = others

-- the parts of a row at a node n
module _ {w : Around} (n : ℕ) {cs : List Child} (h : Each (ToldChild w) cs) where
  pub expressions_slot : (s : ℕ) → Each (ToldExpression w) (expressions_in s cs)
  expressions_slot s = each_slot (ToldExpression w) (λ c. c.expression) (λ c k. k.expression) s h

  pub patterns_slot : (s : ℕ) → Each (ToldPattern w) (patterns_in s cs)
  patterns_slot s = each_slot (ToldPattern w) (λ c. c.pattern) (λ c k. k.pattern) s h

  pub types_slot : (s : ℕ) → Each (ToldType w) (types_in s cs)
  types_slot s = each_slot (ToldType w) (λ c. c.type_expression) (λ c k. k.type_expression) s h

  pub bindings_slot : (s : ℕ) → Each (ToldBinding w) (bindings_in s cs)
  bindings_slot s = each_kind (ToldBinding w) (λ c. c.binding) (λ c k. k.binding) s h

  cases_slot : (s : ℕ) → Each (ToldCase w) (cases_in s cs)
  cases_slot s = each_kind (ToldCase w) (λ c. c.case) (λ c k. k.case) s h

  fields_slot : (s : ℕ) → Each (ToldField w) (fields_in s cs)
  fields_slot s = each_kind (ToldField w) (λ c. c.field) (λ c k. k.field) s h

  -- the first of a slot
  pub first_expression : (s : ℕ) → IfThere (ToldExpression w) (first_of (expressions_in s cs))
  first_expression s = first_told (expressions_in s cs) (expressions_slot s)

  pub one_expression_slot : (s : ℕ) → ToldExpression w (expression_in s cs)
  one_expression_slot s = by (first_of (expressions_in s cs)) (first_expression s)
    where
      by : (o : Option Expression) → IfThere (ToldExpression w) o → ToldExpression w (elim o [ None ↦ no_expression_at 0 (place 0 0) | Some e ↦ e ])
      by None absent = no_expression_told 0 (place 0 0)
      by (Some e) (there q) = q

  pub first_pattern : (s : ℕ) → IfThere (ToldPattern w) (first_of (patterns_in s cs))
  first_pattern s = first_told (patterns_in s cs) (patterns_slot s)

  pub one_pattern_slot : (s : ℕ) → ToldPattern w (pattern_in s cs)
  one_pattern_slot s = by (first_of (patterns_in s cs)) (first_pattern s)
    where
      by : (o : Option Pattern) → IfThere (ToldPattern w) o → ToldPattern w (elim o [ None ↦ no_pattern_at 0 (place 0 0) | Some p ↦ p ])
      by None absent = no_pattern_told 0 (place 0 0)
      by (Some p) (there q) = q

  pub first_type_slot : (s : ℕ) → IfThere (ToldType w) (first_of (types_in s cs))
  first_type_slot s = first_told (types_in s cs) (types_slot s)

  one_type_slot : (s : ℕ) → ToldType w (type_in s cs)
  one_type_slot s = by (first_of (types_in s cs)) (first_type_slot s)
    where
      by : (o : Option TypeExpression) → IfThere (ToldType w) o → ToldType w (elim o [ None ↦ no_type_at 0 (place 0 0) | Some t ↦ t ])
      by None absent = no_type_told 0 (place 0 0)
      by (Some t) (there q) = q

  -- an expression by its row
  pub expression_row_told : (r : Row) (q : Place) → ToldExpression w (expression_row r n q cs)
  unfolding expression_row
  expression_row_told name_row q = name_told n q (path_in 9 0 cs)
  expression_row_told econ_row q = econ_told n q (path_in 9 0 cs)
  expression_row_told epath_row q = path_told n q (path_in 0 1 cs)
  expression_row_told econst_row q = econst_told n q (token_in 0 cs)
  expression_row_told hole_row q = hole_told n q
  expression_row_told eparen_row q = eparen_told n q (expression_in 1 cs) (first_of (types_in 3 cs)) (one_expression_slot 1) (first_type_slot 3)
  expression_row_told ebegin_row q = ebegin_told n q (first_of (expressions_in 1 cs)) (first_expression 1)
  expression_row_told elist_row q = elist_told n q (expressions_in 1 cs) (expressions_slot 1)
  expression_row_told erecord_row q = by (is_some (token_in 4 cs))
    where
      by : (b : Bool) → ToldExpression w (if b then update_expression n q (expression_in 1 cs) (fields_in 5 cs) else record_expression n q (expression_in 1 cs) (first_of (expressions_in 3 cs)) (fields_in 5 cs))
      by true = eupdate_told n q (expression_in 1 cs) (fields_in 5 cs) (one_expression_slot 1) (fields_slot 5)
      by false = erecord_told n q (expression_in 1 cs) (first_of (expressions_in 3 cs)) (fields_in 5 cs) (one_expression_slot 1) (first_expression 3) (fields_slot 5)
  expression_row_told prefix_row q = prefix_told n q (token_in 0 cs) (expression_in 1 cs) (one_expression_slot 1)
  expression_row_told field_row q = field_told n q (expression_in 0 cs) (path_in 2 3 cs) (one_expression_slot 0)
  expression_row_told eapp_row q = eapp_told n q (expression_in 0 cs) (expressions_in 1 cs) (one_expression_slot 0) (expressions_slot 1)
  expression_row_told eassert_row q = eassert_told n q (expression_in 1 cs) (one_expression_slot 1)
  expression_row_told ewhile_row q = ewhile_told n q (expression_in 1 cs) (expression_in 3 cs) (one_expression_slot 1) (one_expression_slot 3)
  expression_row_told efor_row q = efor_told n q (token_in 1 cs) (expression_in 3 cs) (expression_in 5 cs) (expression_in 7 cs) (one_expression_slot 3) (one_expression_slot 5) (one_expression_slot 7)
  expression_row_told eneg_row q = eneg_told n q (token_in 0 cs) (expression_in 1 cs) (one_expression_slot 1)
  expression_row_told infix_row q = infix_told n q (token_in 1 cs) (expression_in 0 cs) (expression_in 2 cs) (one_expression_slot 0) (one_expression_slot 2)
  expression_row_told econs_row q = econs_told n q (expression_in 0 cs) (expression_in 2 cs) (one_expression_slot 0) (one_expression_slot 2)
  expression_row_told etuple_row q = etuple_told n q (expressions_in 0 cs ++ expressions_in 2 cs) (each_append (expressions_slot 0) (expressions_slot 2))
  expression_row_told eset_row q = eset_told n q (expression_in 0 cs) (expression_in 2 cs) (one_expression_slot 0) (one_expression_slot 2)
  expression_row_told eif_row q = eif_told n q (expression_in 1 cs) (expression_in 3 cs) (first_of (expressions_in 5 cs)) (one_expression_slot 1) (one_expression_slot 3) (first_expression 5)
  expression_row_told eseq_row q = eseq_told n q (expressions_in 0 cs ++ expressions_in 2 cs) (each_append (expressions_slot 0) (expressions_slot 2))
  expression_row_told elet_row q = elet_told n q (is_some (token_in 1 cs)) (bindings_in 2 cs) (expression_in 5 cs) (bindings_slot 2) (one_expression_slot 5)
  expression_row_told ematch_row q = ematch_told n q (expression_in 1 cs) (cases_in 4 cs) (one_expression_slot 1) (cases_slot 4)
  expression_row_told etry_row q = etry_told n q (expression_in 1 cs) (cases_in 4 cs) (one_expression_slot 1) (cases_slot 4)
  expression_row_told efun_row q = efun_told n q (patterns_in 1 cs) (expression_in 3 cs) (patterns_slot 1) (one_expression_slot 3)
  expression_row_told efunction_row q = efunction_told n q (cases_in 4 cs) (cases_slot 4)
  expression_row_told _ q = no_expression_told n q

  -- a pattern by its row
  pub pattern_row_told : (r : Row) (q : Place) → ToldPattern w (pattern_row r n q cs)
  unfolding pattern_row
  pattern_row_told pname_row q = pname_told n q (token_in 0 cs)
  pattern_row_told pany_row q = record { matches = λ c seen o. nothing_told }
  pattern_row_told pconst_row q = pconst_told n q (token_in 0 cs)
  pattern_row_told pneg_row q = pneg_told n q (token_in 1 cs)
  pattern_row_told pcon_row q = pcon_told n q (path_in 0 1 cs)
  pattern_row_told pparen_row q = pparen_told n q (pattern_in 1 cs) (first_of (types_in 3 cs)) (one_pattern_slot 1) (first_type_slot 3)
  pattern_row_told plist_row q = plist_told n q (patterns_in 1 cs) (patterns_slot 1)
  pattern_row_told precord_row q = precord_told n q (filter_map (λ c. c.field_pattern) (in_slot 1 cs)) (each_kind (ToldFieldPattern w) (λ c. c.field_pattern) (λ c k. k.field_pattern) 1 h)
  pattern_row_told papp_row q = papp_told n q (pattern_in 0 cs) (pattern_in 1 cs) (one_pattern_slot 1)
  pattern_row_told pcons_row q = pcons_told n q (pattern_in 0 cs) (pattern_in 2 cs) (one_pattern_slot 0) (one_pattern_slot 2)
  pattern_row_told ptuple_row q = ptuple_told n q (patterns_in 0 cs ++ patterns_in 2 cs) (each_append (patterns_slot 0) (patterns_slot 2))
  pattern_row_told por_row q = por_told n q (pattern_in 0 cs) (patterns_in 2 cs) (one_and (one_pattern_slot 0) (patterns_slot 2))
  pattern_row_told pas_row q = pas_told n q (pattern_in 0 cs) (token_in 2 cs) (one_pattern_slot 0)
  pattern_row_told _ q = no_pattern_told n q

  -- a type expression by its row
  pub type_row_told : (r : Row) (q : Place) → ToldType w (types.type_row r n q cs)
  unfolding types.type_row
  type_row_told tvar_row q = tvar_told n q (token_in 0 cs)
  type_row_told tcon_row q = tcon_told n q (path_in 0 1 cs)
  type_row_told tparen_row q = tparen_told n q (types_in 1 cs) (types_slot 1)
  type_row_told tapp_row q = tapp_told n q (type_in 0 cs) (path_in 1 2 cs) (one_type_slot 0)
  type_row_told ttuple_row q = ttuple_told n q (types_in 0 cs ++ types_in 2 cs) (each_append (types_slot 0) (types_slot 2))
  type_row_told tarrow_row q = tarrow_told n q (type_in 0 cs) (type_in 2 cs) (one_type_slot 0) (one_type_slot 2)
  type_row_told _ q = no_type_told n q
