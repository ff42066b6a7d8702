-- The grammar of the language: the table of its rows, as it is written. A row has its name, its sort, its left operand if any, its level, and its parts in order.
use Rattle.std.specs.Prelude.{ℕ, List, [], ◌∷◌, slice_get}
use Rattle.tree_model.specs.Rows.{Row, program_row}
use Rattle.grammar_model.specs.Tables.{Table}
use Rattle.grammar_model.specs.Rows as lists
use Rattle.grammar_model.specs.Rows.{no_left, level, named, row_at, or_else, Sizes, table_of}
use Rattle.grammar_model.specs.Parts.{◌▸◌, stop, key, keys, operand, optional, either, repeated, parameters, separated, maybe_separated, row, open_row}
use Rattle.grammar_model.specs.Keys.{constants, lower_key, upper_key, qualifier_key, ty_var_key, op_name_key, module_type_key, int_key, float_key, and_key, as_key, assert_key, begin_key, do_key, done_key, downto_key, else_key, end_key, exception_key, for_key, fun_key, function_key, functor_key, if_key, in_key, include_key, let_key, match_key, module_key, mutable_key, of_key, open_key, rec_key, sig_key, struct_key, then_key, to_key, try_key, type_key, val_key, when_key, while_key, with_key, left_paren_key, right_paren_key, left_bracket_key, right_bracket_key, left_brace_key, right_brace_key, comma_key, semi_key, semi_semi_key, colon_key, dot_key, underscore_key, bar_key, arrow_key, left_arrow_key, colon_colon_key, colon_equal_key, op14_key, op13_key, op12_key, op10_key, op9_key, op8_key, op7_key, prefix_key, star_key, minus_key, minus_point_key, equal_key}
use Rattle.grammar_model.specs.Words.{row_names, program, signature_text, item, signature_item, expression, pattern, type_expression, module_expression, module_type, binding, case, declaration, head, right_side, type_kind, constructor, label, field, field_pattern, with_clause, program_name, let_name, type_name, exception_name, module_name, modtype_name, open_name, include_name, break_name, val_name, gmodule_name, decl_name, head_name, alias_name, variant_name, record_name, con_name, label_name, with_name, tvar_name, tcon_name, tparen_name, tapp_name, ttuple_name, tarrow_name, pname_name, pany_name, pconst_name, pneg_name, pcon_name, pparen_name, plist_name, precord_name, papp_name, pcons_name, ptuple_name, por_name, pas_name, qfield_name, binding_name, case_name, ffield_name, name_name, econ_name, epath_name, econst_name, hole_name, eparen_name, ebegin_name, elist_name, erecord_name, prefix_name, field_name, eapp_name, eassert_name, ewhile_name, efor_name, eneg_name, infix_name, econs_name, etuple_name, eset_name, eif_name, eseq_name, elet_name, ematch_name, etry_name, efun_name, efunction_name, mpath_name, mstruct_name, mparen_name, mapp_name, mfunctor_name, ypath_name, ysig_name, yparen_name, ywith_name, yfunctor_name}

-- the number of the row of a name as a pattern, the only one behind which parameters stand
abbrev pub pname_row : ℕ
pname_row = 39

-- the rows, numbered from 0
unfoldable pub rows : List lists.Row
rows =
    row program_name program no_left 0 (repeated (operand 0 item 0 ▸ stop) ▸ stop) ∷
    row let_name item no_left 0 (key 0 let_key ▸ optional (key 1 rec_key ▸ stop) ▸ operand 2 binding 0 ▸ repeated (key 3 and_key ▸ operand 2 binding 0 ▸ stop) ▸ stop) ∷
    row type_name item no_left 0 (key 0 type_key ▸ operand 2 declaration 0 ▸ repeated (key 3 and_key ▸ operand 2 declaration 0 ▸ stop) ▸ stop) ∷
    row type_name signature_item no_left 0 (key 0 type_key ▸ operand 2 declaration 0 ▸ repeated (key 3 and_key ▸ operand 2 declaration 0 ▸ stop) ▸ stop) ∷
    row exception_name item no_left 0 (key 0 exception_key ▸ operand 1 constructor 0 ▸ stop) ∷
    row exception_name signature_item no_left 0 (key 0 exception_key ▸ operand 1 constructor 0 ▸ stop) ∷
    row module_name item no_left 0 (key 0 module_key ▸ key 1 upper_key ▸ repeated (key 2 left_paren_key ▸ key 3 upper_key ▸ key 4 colon_key ▸ operand 5 module_type 0 ▸ key 6 right_paren_key ▸ stop) ▸ optional (key 7 colon_key ▸ operand 8 module_type 0 ▸ stop) ▸ key 9 equal_key ▸ operand 10 module_expression 0 ▸ stop) ∷
    row modtype_name item no_left 0 (key 0 module_type_key ▸ key 1 upper_key ▸ key 2 equal_key ▸ operand 3 module_type 0 ▸ stop) ∷
    row modtype_name signature_item no_left 0 (key 0 module_type_key ▸ key 1 upper_key ▸ key 2 equal_key ▸ operand 3 module_type 0 ▸ stop) ∷
    row open_name item no_left 0 (key 0 open_key ▸ repeated (key 1 qualifier_key ▸ stop) ▸ key 2 upper_key ▸ stop) ∷
    row open_name signature_item no_left 0 (key 0 open_key ▸ repeated (key 1 qualifier_key ▸ stop) ▸ key 2 upper_key ▸ stop) ∷
    row include_name item no_left 0 (key 0 include_key ▸ repeated (key 1 qualifier_key ▸ stop) ▸ key 2 upper_key ▸ stop) ∷
    row include_name signature_item no_left 0 (key 0 include_key ▸ repeated (key 1 qualifier_key ▸ stop) ▸ key 2 upper_key ▸ stop) ∷
    row break_name item no_left 0 (key 0 semi_semi_key ▸ stop) ∷
    row val_name signature_item no_left 0 (key 0 val_key ▸ keys 1 (lower_key ∷ op_name_key ∷ []) ▸ key 2 colon_key ▸ operand 3 type_expression 1 ▸ stop) ∷
    row gmodule_name signature_item no_left 0 (key 0 module_key ▸ key 1 upper_key ▸ repeated (key 2 left_paren_key ▸ key 3 upper_key ▸ key 4 colon_key ▸ operand 5 module_type 0 ▸ key 6 right_paren_key ▸ stop) ▸ key 7 colon_key ▸ operand 8 module_type 0 ▸ stop) ∷
    row decl_name declaration no_left 0 (operand 0 head 0 ▸ optional (key 1 equal_key ▸ operand 2 right_side 0 ▸ stop) ▸ stop) ∷
    row head_name head no_left 0 (key 4 lower_key ▸ stop) ∷
    row head_name head no_left 0 (key 1 ty_var_key ▸ key 4 lower_key ▸ stop) ∷
    row head_name head no_left 0 (key 0 left_paren_key ▸ key 1 ty_var_key ▸ repeated (key 2 comma_key ▸ key 1 ty_var_key ▸ stop) ▸ key 3 right_paren_key ▸ key 4 lower_key ▸ stop) ∷
    row alias_name right_side no_left 0 (operand 0 type_expression 1 ▸ optional (key 1 equal_key ▸ operand 2 type_kind 0 ▸ stop) ▸ stop) ∷
    row variant_name right_side no_left 0 (key 0 bar_key ▸ operand 1 constructor 0 ▸ repeated (key 0 bar_key ▸ operand 1 constructor 0 ▸ stop) ▸ stop) ∷
    row variant_name type_kind no_left 0 (key 0 bar_key ▸ operand 1 constructor 0 ▸ repeated (key 0 bar_key ▸ operand 1 constructor 0 ▸ stop) ▸ stop) ∷
    row variant_name right_side no_left 0 (operand 1 constructor 0 ▸ repeated (key 0 bar_key ▸ operand 1 constructor 0 ▸ stop) ▸ stop) ∷
    row variant_name type_kind no_left 0 (operand 1 constructor 0 ▸ repeated (key 0 bar_key ▸ operand 1 constructor 0 ▸ stop) ▸ stop) ∷
    row record_name right_side no_left 0 (key 0 left_brace_key ▸ separated 1 label 0 2 semi_key ▸ key 3 right_brace_key ▸ stop) ∷
    row record_name type_kind no_left 0 (key 0 left_brace_key ▸ separated 1 label 0 2 semi_key ▸ key 3 right_brace_key ▸ stop) ∷
    row con_name constructor no_left 0 (key 0 upper_key ▸ optional (key 1 of_key ▸ operand 2 type_expression 2 ▸ stop) ▸ stop) ∷
    row label_name label no_left 0 (key 1 lower_key ▸ key 2 colon_key ▸ operand 3 type_expression 1 ▸ stop) ∷
    row label_name label no_left 0 (key 0 mutable_key ▸ key 1 lower_key ▸ key 2 colon_key ▸ operand 3 type_expression 1 ▸ stop) ∷
    row with_name with_clause no_left 0 (key 0 type_key ▸ operand 1 head 0 ▸ key 2 equal_key ▸ operand 3 type_expression 1 ▸ stop) ∷
    row tvar_name type_expression no_left 5 (key 0 ty_var_key ▸ stop) ∷
    row tcon_name type_expression no_left 5 (key 1 lower_key ▸ stop) ∷
    row tcon_name type_expression no_left 5 (key 0 qualifier_key ▸ repeated (key 0 qualifier_key ▸ stop) ▸ key 1 lower_key ▸ stop) ∷
    row tparen_name type_expression no_left 5 (key 0 left_paren_key ▸ operand 1 type_expression 1 ▸ repeated (key 2 comma_key ▸ operand 1 type_expression 1 ▸ stop) ▸ key 3 right_paren_key ▸ stop) ∷
    row tapp_name type_expression (level 4) 4 (key 2 lower_key ▸ stop) ∷
    row tapp_name type_expression (level 4) 4 (key 1 qualifier_key ▸ repeated (key 1 qualifier_key ▸ stop) ▸ key 2 lower_key ▸ stop) ∷
    row ttuple_name type_expression (level 3) 2 (key 1 star_key ▸ operand 2 type_expression 3 ▸ repeated (key 1 star_key ▸ operand 2 type_expression 3 ▸ stop) ▸ stop) ∷
    row tarrow_name type_expression (level 2) 1 (key 1 arrow_key ▸ operand 2 type_expression 1 ▸ stop) ∷
    row pname_name pattern no_left 6 (keys 0 (lower_key ∷ op_name_key ∷ []) ▸ stop) ∷
    row pany_name pattern no_left 6 (key 0 underscore_key ▸ stop) ∷
    row pconst_name pattern no_left 6 (keys 0 constants ▸ stop) ∷
    row pneg_name pattern no_left 6 (key 0 minus_key ▸ keys 1 (int_key ∷ float_key ∷ []) ▸ stop) ∷
    row pcon_name pattern no_left 6 (key 1 upper_key ▸ stop) ∷
    row pcon_name pattern no_left 6 (key 0 qualifier_key ▸ repeated (key 0 qualifier_key ▸ stop) ▸ key 1 upper_key ▸ stop) ∷
    row pparen_name pattern no_left 6 (key 0 left_paren_key ▸ operand 1 pattern 0 ▸ optional (key 2 colon_key ▸ operand 3 type_expression 1 ▸ stop) ▸ key 4 right_paren_key ▸ stop) ∷
    row plist_name pattern no_left 6 (key 0 left_bracket_key ▸ separated 1 pattern 1 2 semi_key ▸ key 3 right_bracket_key ▸ stop) ∷
    row precord_name pattern no_left 6 (key 0 left_brace_key ▸ separated 1 field_pattern 0 2 semi_key ▸ key 3 right_brace_key ▸ stop) ∷
    row papp_name pattern (named pcon_name) 5 (operand 1 pattern 6 ▸ stop) ∷
    row pcons_name pattern (level 5) 4 (key 1 colon_colon_key ▸ operand 2 pattern 4 ▸ stop) ∷
    row ptuple_name pattern (level 4) 3 (key 1 comma_key ▸ operand 2 pattern 4 ▸ repeated (key 1 comma_key ▸ operand 2 pattern 4 ▸ stop) ▸ stop) ∷
    row por_name pattern (level 3) 2 (key 1 bar_key ▸ operand 2 pattern 3 ▸ repeated (key 1 bar_key ▸ operand 2 pattern 3 ▸ stop) ▸ stop) ∷
    row pas_name pattern (level 1) 1 (key 1 as_key ▸ key 2 lower_key ▸ stop) ∷
    row qfield_name field_pattern no_left 0 (key 1 lower_key ▸ optional (key 2 equal_key ▸ operand 3 pattern 1 ▸ stop) ▸ stop) ∷
    row qfield_name field_pattern no_left 0 (key 0 qualifier_key ▸ repeated (key 0 qualifier_key ▸ stop) ▸ key 1 lower_key ▸ optional (key 2 equal_key ▸ operand 3 pattern 1 ▸ stop) ▸ stop) ∷
    row qfield_name field_pattern no_left 0 (key 4 underscore_key ▸ stop) ∷
    row binding_name binding no_left 0 (operand 0 pattern 0 ▸ parameters 1 pattern 6 pname_row ▸ optional (key 2 colon_key ▸ operand 3 type_expression 1 ▸ stop) ▸ key 4 equal_key ▸ operand 5 expression 0 ▸ stop) ∷
    row case_name case no_left 0 (operand 0 pattern 0 ▸ optional (key 1 when_key ▸ operand 2 expression 0 ▸ stop) ▸ key 3 arrow_key ▸ operand 4 expression 0 ▸ stop) ∷
    row ffield_name field no_left 0 (key 1 lower_key ▸ optional (key 2 equal_key ▸ operand 3 expression 2 ▸ stop) ▸ stop) ∷
    row ffield_name field no_left 0 (key 0 qualifier_key ▸ repeated (key 0 qualifier_key ▸ stop) ▸ key 1 lower_key ▸ optional (key 2 equal_key ▸ operand 3 expression 2 ▸ stop) ▸ stop) ∷
    row name_name expression no_left 19 (keys 0 (lower_key ∷ op_name_key ∷ []) ▸ stop) ∷
    row econ_name expression no_left 19 (key 0 upper_key ▸ stop) ∷
    row epath_name expression no_left 19 (key 0 qualifier_key ▸ repeated (key 0 qualifier_key ▸ stop) ▸ keys 1 (lower_key ∷ upper_key ∷ []) ▸ stop) ∷
    row econst_name expression no_left 19 (keys 0 constants ▸ stop) ∷
    row hole_name expression no_left 19 (key 0 underscore_key ▸ stop) ∷
    row eparen_name expression no_left 19 (key 0 left_paren_key ▸ operand 1 expression 0 ▸ optional (key 2 colon_key ▸ operand 3 type_expression 1 ▸ stop) ▸ key 4 right_paren_key ▸ stop) ∷
    row ebegin_name expression no_left 19 (key 0 begin_key ▸ optional (operand 1 expression 0 ▸ stop) ▸ key 2 end_key ▸ stop) ∷
    row elist_name expression no_left 19 (key 0 left_bracket_key ▸ separated 1 expression 2 2 semi_key ▸ key 3 right_bracket_key ▸ stop) ∷
    row erecord_name expression no_left 19 (key 0 left_brace_key ▸ operand 1 expression 17 ▸ either (key 2 equal_key ▸ operand 3 expression 2 ▸ stop) (key 4 with_key ▸ operand 5 field 0 ▸ stop) ▸ optional (key 6 semi_key ▸ maybe_separated 5 field 0 6 semi_key ▸ stop) ▸ key 7 right_brace_key ▸ stop) ∷
    row prefix_name expression no_left 18 (key 0 prefix_key ▸ operand 1 expression 18 ▸ stop) ∷
    row field_name expression (level 17) 17 (key 1 dot_key ▸ repeated (key 2 qualifier_key ▸ stop) ▸ key 3 lower_key ▸ stop) ∷
    row eapp_name expression (level 17) 16 (operand 1 expression 17 ▸ repeated (operand 1 expression 17 ▸ stop) ▸ stop) ∷
    row eassert_name expression no_left 16 (key 0 assert_key ▸ operand 1 expression 17 ▸ stop) ∷
    row ewhile_name expression no_left 16 (key 0 while_key ▸ operand 1 expression 0 ▸ key 2 do_key ▸ operand 3 expression 0 ▸ key 4 done_key ▸ stop) ∷
    row efor_name expression no_left 16 (key 0 for_key ▸ key 1 lower_key ▸ key 2 equal_key ▸ operand 3 expression 0 ▸ keys 4 (to_key ∷ downto_key ∷ []) ▸ operand 5 expression 0 ▸ key 6 do_key ▸ operand 7 expression 0 ▸ key 8 done_key ▸ stop) ∷
    row eneg_name expression no_left 15 (key 0 minus_key ▸ operand 1 expression 15 ▸ stop) ∷
    row eneg_name expression no_left 15 (key 0 minus_point_key ▸ operand 1 expression 15 ▸ stop) ∷
    row infix_name expression (level 15) 14 (key 1 op14_key ▸ operand 2 expression 14 ▸ stop) ∷
    row infix_name expression (level 13) 13 (keys 1 (op13_key ∷ star_key ∷ []) ▸ operand 2 expression 14 ▸ stop) ∷
    row infix_name expression (level 12) 12 (keys 1 (op12_key ∷ minus_key ∷ minus_point_key ∷ []) ▸ operand 2 expression 13 ▸ stop) ∷
    row econs_name expression (level 12) 11 (key 1 colon_colon_key ▸ operand 2 expression 11 ▸ stop) ∷
    row infix_name expression (level 11) 10 (key 1 op10_key ▸ operand 2 expression 10 ▸ stop) ∷
    row infix_name expression (level 9) 9 (keys 1 (op9_key ∷ equal_key ∷ []) ▸ operand 2 expression 10 ▸ stop) ∷
    row infix_name expression (level 9) 8 (key 1 op8_key ▸ operand 2 expression 8 ▸ stop) ∷
    row infix_name expression (level 8) 7 (key 1 op7_key ▸ operand 2 expression 7 ▸ stop) ∷
    row etuple_name expression (level 7) 6 (key 1 comma_key ▸ operand 2 expression 7 ▸ repeated (key 1 comma_key ▸ operand 2 expression 7 ▸ stop) ▸ stop) ∷
    row infix_name expression (level 6) 5 (key 1 colon_equal_key ▸ operand 2 expression 5 ▸ stop) ∷
    row eset_name expression (named field_name) 5 (key 1 left_arrow_key ▸ operand 2 expression 5 ▸ stop) ∷
    open_row eif_name expression no_left 3 (key 0 if_key ▸ operand 1 expression 0 ▸ key 2 then_key ▸ operand 3 expression 4 ▸ optional (key 4 else_key ▸ operand 5 expression 4 ▸ stop) ▸ stop) ∷
    row eseq_name expression (level 2) 1 (key 1 semi_key ▸ maybe_separated 2 expression 2 1 semi_key ▸ stop) ∷
    open_row elet_name expression no_left 0 (key 0 let_key ▸ optional (key 1 rec_key ▸ stop) ▸ operand 2 binding 0 ▸ repeated (key 3 and_key ▸ operand 2 binding 0 ▸ stop) ▸ key 4 in_key ▸ operand 5 expression 0 ▸ stop) ∷
    open_row ematch_name expression no_left 0 (key 0 match_key ▸ operand 1 expression 0 ▸ key 2 with_key ▸ optional (key 3 bar_key ▸ stop) ▸ operand 4 case 0 ▸ repeated (key 3 bar_key ▸ operand 4 case 0 ▸ stop) ▸ stop) ∷
    open_row etry_name expression no_left 0 (key 0 try_key ▸ operand 1 expression 0 ▸ key 2 with_key ▸ optional (key 3 bar_key ▸ stop) ▸ operand 4 case 0 ▸ repeated (key 3 bar_key ▸ operand 4 case 0 ▸ stop) ▸ stop) ∷
    open_row efun_name expression no_left 0 (key 0 fun_key ▸ operand 1 pattern 6 ▸ repeated (operand 1 pattern 6 ▸ stop) ▸ key 2 arrow_key ▸ operand 3 expression 0 ▸ stop) ∷
    open_row efunction_name expression no_left 0 (key 0 function_key ▸ optional (key 3 bar_key ▸ stop) ▸ operand 4 case 0 ▸ repeated (key 3 bar_key ▸ operand 4 case 0 ▸ stop) ▸ stop) ∷
    row mpath_name module_expression no_left 2 (key 1 upper_key ▸ stop) ∷
    row mpath_name module_expression no_left 2 (key 0 qualifier_key ▸ repeated (key 0 qualifier_key ▸ stop) ▸ key 1 upper_key ▸ stop) ∷
    row mstruct_name module_expression no_left 2 (key 0 struct_key ▸ repeated (operand 1 item 0 ▸ stop) ▸ key 2 end_key ▸ stop) ∷
    row mparen_name module_expression no_left 2 (key 0 left_paren_key ▸ operand 1 module_expression 0 ▸ optional (key 2 colon_key ▸ operand 3 module_type 0 ▸ stop) ▸ key 4 right_paren_key ▸ stop) ∷
    row mapp_name module_expression (level 1) 1 (key 1 left_paren_key ▸ operand 2 module_expression 0 ▸ optional (key 3 colon_key ▸ operand 4 module_type 0 ▸ stop) ▸ key 5 right_paren_key ▸ stop) ∷
    row mfunctor_name module_expression no_left 0 (key 0 functor_key ▸ key 1 left_paren_key ▸ key 2 upper_key ▸ key 3 colon_key ▸ operand 4 module_type 0 ▸ key 5 right_paren_key ▸ repeated (key 1 left_paren_key ▸ key 2 upper_key ▸ key 3 colon_key ▸ operand 4 module_type 0 ▸ key 5 right_paren_key ▸ stop) ▸ key 6 arrow_key ▸ operand 7 module_expression 0 ▸ stop) ∷
    row ypath_name module_type no_left 2 (key 1 upper_key ▸ stop) ∷
    row ypath_name module_type no_left 2 (key 0 qualifier_key ▸ repeated (key 0 qualifier_key ▸ stop) ▸ key 1 upper_key ▸ stop) ∷
    row ysig_name module_type no_left 2 (key 0 sig_key ▸ repeated (operand 1 signature_item 0 ▸ stop) ▸ key 2 end_key ▸ stop) ∷
    row yparen_name module_type no_left 2 (key 0 left_paren_key ▸ operand 1 module_type 0 ▸ key 2 right_paren_key ▸ stop) ∷
    row ywith_name module_type (level 1) 1 (key 1 with_key ▸ operand 2 with_clause 0 ▸ repeated (key 3 and_key ▸ operand 2 with_clause 0 ▸ stop) ▸ stop) ∷
    row yfunctor_name module_type no_left 0 (key 0 functor_key ▸ key 1 left_paren_key ▸ key 2 upper_key ▸ key 3 colon_key ▸ operand 4 module_type 0 ▸ key 5 right_paren_key ▸ repeated (key 1 left_paren_key ▸ key 2 upper_key ▸ key 3 colon_key ▸ operand 4 module_type 0 ▸ key 5 right_paren_key ▸ stop) ▸ key 6 arrow_key ▸ operand 7 module_type 0 ▸ stop) ∷
    row ysig_name signature_text no_left 0 (repeated (operand 1 signature_item 0 ▸ stop) ▸ stop) ∷ []

-- the sorts and the keys have lower numbers than these
abbrev pub sizes : Sizes
sizes = record { sorts = 20; keys = 79 }

-- the texts that are read: a program, and a signature, which is read as the row `sig` without its two words
pub data Text : Type 0 where
  program_text : Text
  interface_text : Text

-- the row of a whole text
abbrev pub root_of : Text → ℕ
root_of program_text = 0
root_of interface_text = 107

-- the grammar of a text
abbrev pub grammar : Text → Table
grammar text = table_of (root_of text) sizes rows

-- the name of a row
abbrev pub row_name : ℕ → Row
row_name r = or_else program_row (slice_get row_names (row_at rows r).name)
