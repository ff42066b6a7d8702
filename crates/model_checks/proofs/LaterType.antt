-- let r = ref [] type t = A let () = r := [A]: its trees, its kept demands, and its fault.
use Rattle.std.proofs.Common.{◌≡◌, ℕ, true, false, List, [], ◌∷◌, codes, Option, Some, None, refl, sym, ◌∙◌, ap, subst, inl, inr}
use Rattle.tree_model.specs.Trees.{Tree, place, no_parts, part, taken, inner}
use Rattle.tree_model.specs.Extents.{node_over}
use Rattle.type_model.specs.Types.{Typ, Var, Arrow, Con, Nil, Cons}
use Rattle.signature_model.specs.Entries.{Environment}
use Rattle.typing_model.specs.BuiltIns.{built_in_origin, int_type, list_type, unit_type}
use Rattle.typing_model.specs.Contexts.{Choice}
use Rattle.typing_model.specs.Demands.{Site, site, equal, AllHold}
use Rattle.typing_model.specs.Typings.{conditions_of, no_choice, demands_of, HasTyping, IsMetUpTo, IsKept, IsMostGeneralChoice}
use Rattle.typing_model.specs.Faults.{Differ, IsCycle, IsFaultAt, types_differ, made_later, later, by_types}
use Rattle.model_checks.specs.Typings.{first, second, third}
use Rattle.model_checks.specs.Kept.{kept_at}
use Rattle.model_checks.specs.Open.{of_letter, open_choice}
use Rattle.model_checks.proofs.Apart.{no_yes, yes_no, con_is_no_variable}
use Rattle.model_checks.proofs.Keeping.{up_to, no_closing, keeps, before, is_fault}
use Rattle.model_checks.proofs.Coding.{is_instance, put_letter}
use Rattle.tree_model.specs.Slots.{is_operand}
use Rattle.grammar_model.specs.Rows.{chain_of, grower_of}
use Rattle.grammar_model.specs.Ocaml.{rows}
use Rattle.grammar_model.specs.Tables.{first_place}
use Rattle.grammar_model.specs.Keys.{kind_key, key_of}
use Rattle.recovery_model.specs.Steps as rules
use Rattle.recovery_model.specs.Recovery.{step, close, recover}
use Rattle.typing_model.specs.BuiltIns.{constant_by}
use Rattle.typing_model.specs.Patterns.{pattern_row}
use Rattle.typing_model.specs.Expressions.{expression_row}
use Rattle.typing_model.specs.Modules.{module_expression_row, module_type_row, item_row, signature_item_row}
use Rattle.type_model.specs.Types.{occurs}
use Rattle.typing_model.specs.Demands.{environment_of}
use Rattle.model_checks.specs.Scopes.{ref_type, with_assignment}
use Rattle.model_checks.proofs.References.{applied_ref, assigned_to}
use Rattle.model_checks.proofs.Coding.{put}
use Rattle.type_model.specs.Limits.{IsInScope}
use Rattle.signature_model.specs.Entries.{free_in}
use Rattle.tree_model.specs.Rows as rows_of
use Rattle.tree_model.specs.Rows.{let_row, binding_row, pname_row, pconst_row, name_row, econst_row, econ_row, eapp_row, infix_row, elist_row, decl_row, head_row, variant_row, con_row}
use Rattle.token_model.specs.Kinds.{let_word, lower, op9, nil, type_word, upper, unit, colon_equal, left_bracket, right_bracket}
use Rattle.typing_model.specs.Contexts.{generalised_in}
use Rattle.typing_model.specs.TypeExpressions as type_expressions
use Rattle.model_checks.specs.Texts.{tok, parsed, later_type}
use Rattle.model_checks.specs.Kept.{later_type_kept}
use Rattle.model_checks.proofs.Uses.{use_of_fixed}
use Rattle.model_checks.proofs.Later.{assigned, held_is_free, listed, of_lists}

-- its tree
abbrev pub later_type_tree : List Tree
later_type_tree = (node_over let_row (part 0 (taken (tok let_word 0 3 (codes "let"))) (part 2 (inner (node_over binding_row (part 0 (inner (node_over pname_row (part 0 (taken (tok lower 4 5 (codes "r"))) no_parts))) (part 4 (taken (tok op9 6 7 (codes "="))) (part 5 (inner (node_over eapp_row (part 0 (inner (node_over name_row (part 0 (taken (tok lower 8 11 (codes "ref"))) no_parts))) (part 1 (inner (node_over econst_row (part 0 (taken (tok nil 12 14 (codes "[]"))) no_parts))) no_parts)))) no_parts))))) no_parts))) ∷ (node_over rows_of.type_row (part 0 (taken (tok type_word 15 19 (codes "type"))) (part 2 (inner (node_over decl_row (part 0 (inner (node_over head_row (part 4 (taken (tok lower 20 21 (codes "t"))) no_parts))) (part 1 (taken (tok op9 22 23 (codes "="))) (part 2 (inner (node_over variant_row (part 1 (inner (node_over con_row (part 0 (taken (tok upper 24 25 (codes "A"))) no_parts))) no_parts))) no_parts))))) no_parts))) ∷ (node_over let_row (part 0 (taken (tok let_word 26 29 (codes "let"))) (part 2 (inner (node_over binding_row (part 0 (inner (node_over pconst_row (part 0 (taken (tok unit 30 32 (codes "()"))) no_parts))) (part 4 (taken (tok op9 33 34 (codes "="))) (part 5 (inner (node_over infix_row (part 0 (inner (node_over name_row (part 0 (taken (tok lower 35 36 (codes "r"))) no_parts))) (part 1 (taken (tok colon_equal 37 39 (codes ":="))) (part 2 (inner (node_over elist_row (part 0 (taken (tok left_bracket 40 41 (codes "["))) (part 1 (inner (node_over econ_row (part 0 (taken (tok upper 41 42 (codes "A"))) no_parts))) (part 3 (taken (tok right_bracket 42 43 (codes "]"))) no_parts))))) no_parts))))) no_parts))))) no_parts))) ∷ []

-- the parser gives it
pub is_parsed : parsed later_type ≡ later_type_tree
unfolding recover step close rules.step rows chain_of grower_of first_place kind_key key_of is_operand
is_parsed = refl

-- types that keep all other demands
abbrev int_letters : List (ℕ × ℕ × Typ)
int_letters = (first 5, 0, int_type) ∷ (first 3, 0, list_type (int_type)) ∷ (first 3, 1, ref_type (list_type (int_type))) ∷ (third 3, 0, Arrow (ref_type (list_type (int_type))) (Arrow (list_type (int_type)) unit_type)) ∷ (third 3, 1, ref_type (list_type (int_type))) ∷ (third 3, 2, Arrow (list_type (int_type)) unit_type) ∷ (third 3, 3, list_type (int_type)) ∷ (third 3, 4, unit_type) ∷ []

abbrev choice : Choice
choice = open_choice ((first 2, ref_type (list_type (int_type))) ∷ (first 3, ref_type (list_type (int_type))) ∷ (first 4, Arrow (list_type (int_type)) (ref_type (list_type (int_type)))) ∷ (first 5, list_type (int_type)) ∷ (third 2, unit_type) ∷ (third 3, unit_type) ∷ (third 4, ref_type (list_type (int_type))) ∷ (third 5, list_type (Con (second 1 ∷ []) Nil)) ∷ (third 6, Con (second 1 ∷ []) Nil) ∷ []) int_letters

-- all demands
abbrev pub later_type_asked : List Site
later_type_asked = site (first 4) 0 ∷ site (first 3) 0 ∷ site (first 3) 1 ∷ site (first 2) 0 ∷ site (first 1) 1 ∷ site (second 1) 0 ∷ site (second 4) 0 ∷ site (third 3) 0 ∷ site (third 3) 1 ∷ site (third 4) 0 ∷ site (third 3) 2 ∷ site (third 3) 3 ∷ site (third 6) 0 ∷ site (third 6) 1 ∷ site (third 3) 4 ∷ site (third 1) 1 ∷ []

pub all : demands_of with_assignment later_type_tree (kept_at later_type_kept) ≡ later_type_asked
unfolding constant_by pattern_row expression_row type_expressions.type_row module_expression_row module_type_row item_row signature_item_row
all = refl

-- no demand is a `closing`
open_ : no_closing (conditions_of with_assignment later_type_tree (kept_at later_type_kept) no_choice) ≡ true
unfolding constant_by pattern_row expression_row type_expressions.type_row module_expression_row module_type_row item_row signature_item_row
open_ = refl

-- a typing for each kept demand, with those before it
typed_0 : HasTyping with_assignment later_type_tree (up_to later_type_asked later_type_kept (site (first 4) 0))
unfolding constant_by pattern_row expression_row type_expressions.type_row module_expression_row module_type_row item_row signature_item_row
typed_0 = (choice.type_at, record { choice = choice; chosen = λ n. refl; holds = ((tt), ((tt), ((tt), (((refl {a = false}, ((refl {a = false}, ((refl {a = false}, tt), tt)), tt))), ((tt), ((((refl {a = false}, ((refl {a = false}, tt), tt)), (refl {a = false}, ((refl {a = false}, ((refl {a = false}, tt), tt)), tt)))), ((λ h. refl {a = true}), ((record { fill = λ o. int_type; instance = ((λ v. list_type (int_type)), (λ v h. absurd (yes_no h)), refl {a = Arrow (list_type (int_type)) (ref_type (list_type (int_type)))}) }), ((λ h. refl {a = Arrow (list_type (int_type)) (ref_type (list_type (int_type)))}), ((tt), (((refl {a = false}, ((refl {a = false}, tt), tt))), ((refl {a = list_type (int_type)}), ((λ h. refl {a = list_type (int_type)}), ((refl {a = ref_type (list_type (int_type))}), ((tt), (((refl {a = false}, ((refl {a = false}, ((refl {a = false}, tt), tt)), tt))), ((λ h. refl {a = true}), ((λ h. refl {a = ref_type (list_type (int_type))}), (((refl {a = true}, ((refl {a = true}, ((refl {a = true}, tt), tt)), tt))), ((tt), ((λ h. refl {a = true}), ((tt), ((tt), ((λ h. refl {a = true}), ((tt), ((tt), ((tt), (((refl {a = false}, tt)), ((λ h. refl {a = true}), ((λ h. refl {a = Arrow (ref_type (list_type (int_type))) (Arrow (list_type (int_type)) unit_type)}), ((tt), (((refl {a = false}, ((refl {a = false}, ((refl {a = false}, tt), tt)), tt))), ((λ h. refl {a = true}), ((λ h. refl {a = ref_type (list_type (int_type))}), ((λ h. refl {a = Arrow (list_type (int_type)) unit_type}), ((tt), (((refl {a = false}, ((refl {a = false}, tt), tt))), ((tt), (((refl {a = false}, tt)), ((λ h. refl {a = true}), ((refl {a = list_type (Con (second 1 ∷ []) Nil)}), ((λ h. absurd (no_yes h)), ((refl {a = unit_type}), ((tt), (((refl {a = false}, tt)), ((refl {a = unit_type}), ((λ h. refl {a = unit_type}), tt))))))))))))))))))))))))))))))))))))))))))))))) })

typed_1 : HasTyping with_assignment later_type_tree (up_to later_type_asked later_type_kept (site (first 3) 0))
unfolding constant_by pattern_row expression_row type_expressions.type_row module_expression_row module_type_row item_row signature_item_row
typed_1 = (choice.type_at, record { choice = choice; chosen = λ n. refl; holds = ((tt), ((tt), ((tt), (((refl {a = false}, ((refl {a = false}, ((refl {a = false}, tt), tt)), tt))), ((tt), ((((refl {a = false}, ((refl {a = false}, tt), tt)), (refl {a = false}, ((refl {a = false}, ((refl {a = false}, tt), tt)), tt)))), ((λ h. refl {a = true}), ((record { fill = λ o. int_type; instance = ((λ v. list_type (int_type)), (λ v h. absurd (yes_no h)), refl {a = Arrow (list_type (int_type)) (ref_type (list_type (int_type)))}) }), ((λ h. refl {a = Arrow (list_type (int_type)) (ref_type (list_type (int_type)))}), ((tt), (((refl {a = false}, ((refl {a = false}, tt), tt))), ((refl {a = list_type (int_type)}), ((λ h. refl {a = list_type (int_type)}), ((refl {a = ref_type (list_type (int_type))}), ((tt), (((refl {a = false}, ((refl {a = false}, ((refl {a = false}, tt), tt)), tt))), ((λ h. refl {a = true}), ((λ h. refl {a = ref_type (list_type (int_type))}), (((refl {a = true}, ((refl {a = true}, ((refl {a = true}, tt), tt)), tt))), ((tt), ((λ h. refl {a = true}), ((tt), ((tt), ((λ h. refl {a = true}), ((tt), ((tt), ((tt), (((refl {a = false}, tt)), ((λ h. refl {a = true}), ((λ h. refl {a = Arrow (ref_type (list_type (int_type))) (Arrow (list_type (int_type)) unit_type)}), ((tt), (((refl {a = false}, ((refl {a = false}, ((refl {a = false}, tt), tt)), tt))), ((λ h. refl {a = true}), ((λ h. refl {a = ref_type (list_type (int_type))}), ((λ h. refl {a = Arrow (list_type (int_type)) unit_type}), ((tt), (((refl {a = false}, ((refl {a = false}, tt), tt))), ((tt), (((refl {a = false}, tt)), ((λ h. refl {a = true}), ((refl {a = list_type (Con (second 1 ∷ []) Nil)}), ((λ h. absurd (no_yes h)), ((refl {a = unit_type}), ((tt), (((refl {a = false}, tt)), ((refl {a = unit_type}), ((λ h. refl {a = unit_type}), tt))))))))))))))))))))))))))))))))))))))))))))))) })

typed_2 : HasTyping with_assignment later_type_tree (up_to later_type_asked later_type_kept (site (first 3) 1))
unfolding constant_by pattern_row expression_row type_expressions.type_row module_expression_row module_type_row item_row signature_item_row
typed_2 = (choice.type_at, record { choice = choice; chosen = λ n. refl; holds = ((tt), ((tt), ((tt), (((refl {a = false}, ((refl {a = false}, ((refl {a = false}, tt), tt)), tt))), ((tt), ((((refl {a = false}, ((refl {a = false}, tt), tt)), (refl {a = false}, ((refl {a = false}, ((refl {a = false}, tt), tt)), tt)))), ((λ h. refl {a = true}), ((record { fill = λ o. int_type; instance = ((λ v. list_type (int_type)), (λ v h. absurd (yes_no h)), refl {a = Arrow (list_type (int_type)) (ref_type (list_type (int_type)))}) }), ((λ h. refl {a = Arrow (list_type (int_type)) (ref_type (list_type (int_type)))}), ((tt), (((refl {a = false}, ((refl {a = false}, tt), tt))), ((refl {a = list_type (int_type)}), ((λ h. refl {a = list_type (int_type)}), ((refl {a = ref_type (list_type (int_type))}), ((tt), (((refl {a = false}, ((refl {a = false}, ((refl {a = false}, tt), tt)), tt))), ((λ h. refl {a = true}), ((λ h. refl {a = ref_type (list_type (int_type))}), (((refl {a = true}, ((refl {a = true}, ((refl {a = true}, tt), tt)), tt))), ((tt), ((λ h. refl {a = true}), ((tt), ((tt), ((λ h. refl {a = true}), ((tt), ((tt), ((tt), (((refl {a = false}, tt)), ((λ h. refl {a = true}), ((λ h. refl {a = Arrow (ref_type (list_type (int_type))) (Arrow (list_type (int_type)) unit_type)}), ((tt), (((refl {a = false}, ((refl {a = false}, ((refl {a = false}, tt), tt)), tt))), ((λ h. refl {a = true}), ((λ h. refl {a = ref_type (list_type (int_type))}), ((λ h. refl {a = Arrow (list_type (int_type)) unit_type}), ((tt), (((refl {a = false}, ((refl {a = false}, tt), tt))), ((tt), (((refl {a = false}, tt)), ((λ h. refl {a = true}), ((refl {a = list_type (Con (second 1 ∷ []) Nil)}), ((λ h. absurd (no_yes h)), ((refl {a = unit_type}), ((tt), (((refl {a = false}, tt)), ((refl {a = unit_type}), ((λ h. refl {a = unit_type}), tt))))))))))))))))))))))))))))))))))))))))))))))) })

typed_3 : HasTyping with_assignment later_type_tree (up_to later_type_asked later_type_kept (site (first 2) 0))
unfolding constant_by pattern_row expression_row type_expressions.type_row module_expression_row module_type_row item_row signature_item_row
typed_3 = (choice.type_at, record { choice = choice; chosen = λ n. refl; holds = ((tt), ((tt), ((tt), (((refl {a = false}, ((refl {a = false}, ((refl {a = false}, tt), tt)), tt))), ((tt), ((((refl {a = false}, ((refl {a = false}, tt), tt)), (refl {a = false}, ((refl {a = false}, ((refl {a = false}, tt), tt)), tt)))), ((λ h. refl {a = true}), ((record { fill = λ o. int_type; instance = ((λ v. list_type (int_type)), (λ v h. absurd (yes_no h)), refl {a = Arrow (list_type (int_type)) (ref_type (list_type (int_type)))}) }), ((λ h. refl {a = Arrow (list_type (int_type)) (ref_type (list_type (int_type)))}), ((tt), (((refl {a = false}, ((refl {a = false}, tt), tt))), ((refl {a = list_type (int_type)}), ((λ h. refl {a = list_type (int_type)}), ((refl {a = ref_type (list_type (int_type))}), ((tt), (((refl {a = false}, ((refl {a = false}, ((refl {a = false}, tt), tt)), tt))), ((λ h. refl {a = true}), ((λ h. refl {a = ref_type (list_type (int_type))}), (((refl {a = true}, ((refl {a = true}, ((refl {a = true}, tt), tt)), tt))), ((tt), ((λ h. refl {a = true}), ((tt), ((tt), ((λ h. refl {a = true}), ((tt), ((tt), ((tt), (((refl {a = false}, tt)), ((λ h. refl {a = true}), ((λ h. refl {a = Arrow (ref_type (list_type (int_type))) (Arrow (list_type (int_type)) unit_type)}), ((tt), (((refl {a = false}, ((refl {a = false}, ((refl {a = false}, tt), tt)), tt))), ((λ h. refl {a = true}), ((λ h. refl {a = ref_type (list_type (int_type))}), ((λ h. refl {a = Arrow (list_type (int_type)) unit_type}), ((tt), (((refl {a = false}, ((refl {a = false}, tt), tt))), ((tt), (((refl {a = false}, tt)), ((λ h. refl {a = true}), ((refl {a = list_type (Con (second 1 ∷ []) Nil)}), ((λ h. absurd (no_yes h)), ((refl {a = unit_type}), ((tt), (((refl {a = false}, tt)), ((refl {a = unit_type}), ((λ h. refl {a = unit_type}), tt))))))))))))))))))))))))))))))))))))))))))))))) })

typed_4 : HasTyping with_assignment later_type_tree (up_to later_type_asked later_type_kept (site (first 1) 1))
unfolding constant_by pattern_row expression_row type_expressions.type_row module_expression_row module_type_row item_row signature_item_row
typed_4 = (choice.type_at, record { choice = choice; chosen = λ n. refl; holds = ((tt), ((tt), ((tt), (((refl {a = false}, ((refl {a = false}, ((refl {a = false}, tt), tt)), tt))), ((tt), ((((refl {a = false}, ((refl {a = false}, tt), tt)), (refl {a = false}, ((refl {a = false}, ((refl {a = false}, tt), tt)), tt)))), ((λ h. refl {a = true}), ((record { fill = λ o. int_type; instance = ((λ v. list_type (int_type)), (λ v h. absurd (yes_no h)), refl {a = Arrow (list_type (int_type)) (ref_type (list_type (int_type)))}) }), ((λ h. refl {a = Arrow (list_type (int_type)) (ref_type (list_type (int_type)))}), ((tt), (((refl {a = false}, ((refl {a = false}, tt), tt))), ((refl {a = list_type (int_type)}), ((λ h. refl {a = list_type (int_type)}), ((refl {a = ref_type (list_type (int_type))}), ((tt), (((refl {a = false}, ((refl {a = false}, ((refl {a = false}, tt), tt)), tt))), ((λ h. refl {a = true}), ((λ h. refl {a = ref_type (list_type (int_type))}), (((refl {a = true}, ((refl {a = true}, ((refl {a = true}, tt), tt)), tt))), ((tt), ((λ h. refl {a = true}), ((tt), ((tt), ((λ h. refl {a = true}), ((tt), ((tt), ((tt), (((refl {a = false}, tt)), ((λ h. refl {a = true}), ((λ h. refl {a = Arrow (ref_type (list_type (int_type))) (Arrow (list_type (int_type)) unit_type)}), ((tt), (((refl {a = false}, ((refl {a = false}, ((refl {a = false}, tt), tt)), tt))), ((λ h. refl {a = true}), ((λ h. refl {a = ref_type (list_type (int_type))}), ((λ h. refl {a = Arrow (list_type (int_type)) unit_type}), ((tt), (((refl {a = false}, ((refl {a = false}, tt), tt))), ((tt), (((refl {a = false}, tt)), ((λ h. refl {a = true}), ((refl {a = list_type (Con (second 1 ∷ []) Nil)}), ((λ h. absurd (no_yes h)), ((refl {a = unit_type}), ((tt), (((refl {a = false}, tt)), ((refl {a = unit_type}), ((λ h. refl {a = unit_type}), tt))))))))))))))))))))))))))))))))))))))))))))))) })

typed_5 : HasTyping with_assignment later_type_tree (up_to later_type_asked later_type_kept (site (second 1) 0))
unfolding constant_by pattern_row expression_row type_expressions.type_row module_expression_row module_type_row item_row signature_item_row
typed_5 = (choice.type_at, record { choice = choice; chosen = λ n. refl; holds = ((tt), ((tt), ((tt), (((refl {a = false}, ((refl {a = false}, ((refl {a = false}, tt), tt)), tt))), ((tt), ((((refl {a = false}, ((refl {a = false}, tt), tt)), (refl {a = false}, ((refl {a = false}, ((refl {a = false}, tt), tt)), tt)))), ((λ h. refl {a = true}), ((record { fill = λ o. int_type; instance = ((λ v. list_type (int_type)), (λ v h. absurd (yes_no h)), refl {a = Arrow (list_type (int_type)) (ref_type (list_type (int_type)))}) }), ((λ h. refl {a = Arrow (list_type (int_type)) (ref_type (list_type (int_type)))}), ((tt), (((refl {a = false}, ((refl {a = false}, tt), tt))), ((refl {a = list_type (int_type)}), ((λ h. refl {a = list_type (int_type)}), ((refl {a = ref_type (list_type (int_type))}), ((tt), (((refl {a = false}, ((refl {a = false}, ((refl {a = false}, tt), tt)), tt))), ((λ h. refl {a = true}), ((λ h. refl {a = ref_type (list_type (int_type))}), (((refl {a = true}, ((refl {a = true}, ((refl {a = true}, tt), tt)), tt))), ((tt), ((λ h. refl {a = true}), ((tt), ((tt), ((λ h. refl {a = true}), ((tt), ((tt), ((tt), (((refl {a = false}, tt)), ((λ h. refl {a = true}), ((λ h. refl {a = Arrow (ref_type (list_type (int_type))) (Arrow (list_type (int_type)) unit_type)}), ((tt), (((refl {a = false}, ((refl {a = false}, ((refl {a = false}, tt), tt)), tt))), ((λ h. refl {a = true}), ((λ h. refl {a = ref_type (list_type (int_type))}), ((λ h. refl {a = Arrow (list_type (int_type)) unit_type}), ((tt), (((refl {a = false}, ((refl {a = false}, tt), tt))), ((tt), (((refl {a = false}, tt)), ((λ h. refl {a = true}), ((refl {a = list_type (Con (second 1 ∷ []) Nil)}), ((λ h. absurd (no_yes h)), ((refl {a = unit_type}), ((tt), (((refl {a = false}, tt)), ((refl {a = unit_type}), ((λ h. refl {a = unit_type}), tt))))))))))))))))))))))))))))))))))))))))))))))) })

typed_6 : HasTyping with_assignment later_type_tree (up_to later_type_asked later_type_kept (site (second 4) 0))
unfolding constant_by pattern_row expression_row type_expressions.type_row module_expression_row module_type_row item_row signature_item_row
typed_6 = (choice.type_at, record { choice = choice; chosen = λ n. refl; holds = ((tt), ((tt), ((tt), (((refl {a = false}, ((refl {a = false}, ((refl {a = false}, tt), tt)), tt))), ((tt), ((((refl {a = false}, ((refl {a = false}, tt), tt)), (refl {a = false}, ((refl {a = false}, ((refl {a = false}, tt), tt)), tt)))), ((λ h. refl {a = true}), ((record { fill = λ o. int_type; instance = ((λ v. list_type (int_type)), (λ v h. absurd (yes_no h)), refl {a = Arrow (list_type (int_type)) (ref_type (list_type (int_type)))}) }), ((λ h. refl {a = Arrow (list_type (int_type)) (ref_type (list_type (int_type)))}), ((tt), (((refl {a = false}, ((refl {a = false}, tt), tt))), ((refl {a = list_type (int_type)}), ((λ h. refl {a = list_type (int_type)}), ((refl {a = ref_type (list_type (int_type))}), ((tt), (((refl {a = false}, ((refl {a = false}, ((refl {a = false}, tt), tt)), tt))), ((λ h. refl {a = true}), ((λ h. refl {a = ref_type (list_type (int_type))}), (((refl {a = true}, ((refl {a = true}, ((refl {a = true}, tt), tt)), tt))), ((tt), ((λ h. refl {a = true}), ((tt), ((tt), ((λ h. refl {a = true}), ((tt), ((tt), ((tt), (((refl {a = false}, tt)), ((λ h. refl {a = true}), ((λ h. refl {a = Arrow (ref_type (list_type (int_type))) (Arrow (list_type (int_type)) unit_type)}), ((tt), (((refl {a = false}, ((refl {a = false}, ((refl {a = false}, tt), tt)), tt))), ((λ h. refl {a = true}), ((λ h. refl {a = ref_type (list_type (int_type))}), ((λ h. refl {a = Arrow (list_type (int_type)) unit_type}), ((tt), (((refl {a = false}, ((refl {a = false}, tt), tt))), ((tt), (((refl {a = false}, tt)), ((λ h. refl {a = true}), ((refl {a = list_type (Con (second 1 ∷ []) Nil)}), ((λ h. absurd (no_yes h)), ((refl {a = unit_type}), ((tt), (((refl {a = false}, tt)), ((refl {a = unit_type}), ((λ h. refl {a = unit_type}), tt))))))))))))))))))))))))))))))))))))))))))))))) })

typed_7 : HasTyping with_assignment later_type_tree (up_to later_type_asked later_type_kept (site (third 3) 0))
unfolding constant_by pattern_row expression_row type_expressions.type_row module_expression_row module_type_row item_row signature_item_row
typed_7 = (choice.type_at, record { choice = choice; chosen = λ n. refl; holds = ((tt), ((tt), ((tt), (((refl {a = false}, ((refl {a = false}, ((refl {a = false}, tt), tt)), tt))), ((tt), ((((refl {a = false}, ((refl {a = false}, tt), tt)), (refl {a = false}, ((refl {a = false}, ((refl {a = false}, tt), tt)), tt)))), ((λ h. refl {a = true}), ((record { fill = λ o. int_type; instance = ((λ v. list_type (int_type)), (λ v h. absurd (yes_no h)), refl {a = Arrow (list_type (int_type)) (ref_type (list_type (int_type)))}) }), ((λ h. refl {a = Arrow (list_type (int_type)) (ref_type (list_type (int_type)))}), ((tt), (((refl {a = false}, ((refl {a = false}, tt), tt))), ((refl {a = list_type (int_type)}), ((λ h. refl {a = list_type (int_type)}), ((refl {a = ref_type (list_type (int_type))}), ((tt), (((refl {a = false}, ((refl {a = false}, ((refl {a = false}, tt), tt)), tt))), ((λ h. refl {a = true}), ((λ h. refl {a = ref_type (list_type (int_type))}), (((refl {a = true}, ((refl {a = true}, ((refl {a = true}, tt), tt)), tt))), ((tt), ((λ h. refl {a = true}), ((tt), ((tt), ((λ h. refl {a = true}), ((tt), ((tt), ((tt), (((refl {a = false}, tt)), ((λ h. refl {a = true}), ((record { fill = λ o. int_type; instance = ((λ v. list_type (int_type)), (λ v h. absurd (yes_no h)), refl {a = Arrow (ref_type (list_type (int_type))) (Arrow (list_type (int_type)) unit_type)}) }), ((λ h. refl {a = Arrow (ref_type (list_type (int_type))) (Arrow (list_type (int_type)) unit_type)}), ((tt), (((refl {a = false}, ((refl {a = false}, ((refl {a = false}, tt), tt)), tt))), ((λ h. refl {a = true}), ((λ h. refl {a = ref_type (list_type (int_type))}), ((λ h. refl {a = Arrow (list_type (int_type)) unit_type}), ((tt), (((refl {a = false}, ((refl {a = false}, tt), tt))), ((tt), (((refl {a = false}, tt)), ((λ h. refl {a = true}), ((refl {a = list_type (Con (second 1 ∷ []) Nil)}), ((λ h. absurd (no_yes h)), ((refl {a = unit_type}), ((tt), (((refl {a = false}, tt)), ((refl {a = unit_type}), ((λ h. refl {a = unit_type}), tt)))))))))))))))))))))))))))))))))))))))))))))))) })

typed_8 : HasTyping with_assignment later_type_tree (up_to later_type_asked later_type_kept (site (third 3) 1))
unfolding constant_by pattern_row expression_row type_expressions.type_row module_expression_row module_type_row item_row signature_item_row
typed_8 = (choice.type_at, record { choice = choice; chosen = λ n. refl; holds = ((tt), ((tt), ((tt), (((refl {a = false}, ((refl {a = false}, ((refl {a = false}, tt), tt)), tt))), ((tt), ((((refl {a = false}, ((refl {a = false}, tt), tt)), (refl {a = false}, ((refl {a = false}, ((refl {a = false}, tt), tt)), tt)))), ((λ h. refl {a = true}), ((record { fill = λ o. int_type; instance = ((λ v. list_type (int_type)), (λ v h. absurd (yes_no h)), refl {a = Arrow (list_type (int_type)) (ref_type (list_type (int_type)))}) }), ((λ h. refl {a = Arrow (list_type (int_type)) (ref_type (list_type (int_type)))}), ((tt), (((refl {a = false}, ((refl {a = false}, tt), tt))), ((refl {a = list_type (int_type)}), ((λ h. refl {a = list_type (int_type)}), ((refl {a = ref_type (list_type (int_type))}), ((tt), (((refl {a = false}, ((refl {a = false}, ((refl {a = false}, tt), tt)), tt))), ((λ h. refl {a = true}), ((λ h. refl {a = ref_type (list_type (int_type))}), (((refl {a = true}, ((refl {a = true}, ((refl {a = true}, tt), tt)), tt))), ((tt), ((λ h. refl {a = true}), ((tt), ((tt), ((λ h. refl {a = true}), ((tt), ((tt), ((tt), (((refl {a = false}, tt)), ((λ h. refl {a = true}), ((record { fill = λ o. int_type; instance = ((λ v. list_type (int_type)), (λ v h. absurd (yes_no h)), refl {a = Arrow (ref_type (list_type (int_type))) (Arrow (list_type (int_type)) unit_type)}) }), ((λ h. refl {a = Arrow (ref_type (list_type (int_type))) (Arrow (list_type (int_type)) unit_type)}), ((tt), (((refl {a = false}, ((refl {a = false}, ((refl {a = false}, tt), tt)), tt))), ((λ h. refl {a = true}), ((λ h. refl {a = ref_type (list_type (int_type))}), ((λ h. refl {a = Arrow (list_type (int_type)) unit_type}), ((tt), (((refl {a = false}, ((refl {a = false}, tt), tt))), ((tt), (((refl {a = false}, tt)), ((λ h. refl {a = true}), ((refl {a = list_type (Con (second 1 ∷ []) Nil)}), ((λ h. absurd (no_yes h)), ((refl {a = unit_type}), ((tt), (((refl {a = false}, tt)), ((refl {a = unit_type}), ((λ h. refl {a = unit_type}), tt)))))))))))))))))))))))))))))))))))))))))))))))) })

typed_9 : HasTyping with_assignment later_type_tree (up_to later_type_asked later_type_kept (site (third 4) 0))
unfolding constant_by pattern_row expression_row type_expressions.type_row module_expression_row module_type_row item_row signature_item_row
typed_9 = (choice.type_at, record { choice = choice; chosen = λ n. refl; holds = ((tt), ((tt), ((tt), (((refl {a = false}, ((refl {a = false}, ((refl {a = false}, tt), tt)), tt))), ((tt), ((((refl {a = false}, ((refl {a = false}, tt), tt)), (refl {a = false}, ((refl {a = false}, ((refl {a = false}, tt), tt)), tt)))), ((λ h. refl {a = true}), ((record { fill = λ o. int_type; instance = ((λ v. list_type (int_type)), (λ v h. absurd (yes_no h)), refl {a = Arrow (list_type (int_type)) (ref_type (list_type (int_type)))}) }), ((λ h. refl {a = Arrow (list_type (int_type)) (ref_type (list_type (int_type)))}), ((tt), (((refl {a = false}, ((refl {a = false}, tt), tt))), ((refl {a = list_type (int_type)}), ((λ h. refl {a = list_type (int_type)}), ((refl {a = ref_type (list_type (int_type))}), ((tt), (((refl {a = false}, ((refl {a = false}, ((refl {a = false}, tt), tt)), tt))), ((λ h. refl {a = true}), ((λ h. refl {a = ref_type (list_type (int_type))}), (((refl {a = true}, ((refl {a = true}, ((refl {a = true}, tt), tt)), tt))), ((tt), ((λ h. refl {a = true}), ((tt), ((tt), ((λ h. refl {a = true}), ((tt), ((tt), ((tt), (((refl {a = false}, tt)), ((λ h. refl {a = true}), ((record { fill = λ o. int_type; instance = ((λ v. list_type (int_type)), (λ v h. absurd (yes_no h)), refl {a = Arrow (ref_type (list_type (int_type))) (Arrow (list_type (int_type)) unit_type)}) }), ((λ h. refl {a = Arrow (ref_type (list_type (int_type))) (Arrow (list_type (int_type)) unit_type)}), ((tt), (((refl {a = false}, ((refl {a = false}, ((refl {a = false}, tt), tt)), tt))), ((λ h. refl {a = true}), ((record { fill = λ o. int_type; instance = ((λ v. Var v), (λ v h. refl {a = Var v}), refl {a = ref_type (list_type (int_type))}) }), ((λ h. refl {a = ref_type (list_type (int_type))}), ((λ h. refl {a = Arrow (list_type (int_type)) unit_type}), ((tt), (((refl {a = false}, ((refl {a = false}, tt), tt))), ((tt), (((refl {a = false}, tt)), ((λ h. refl {a = true}), ((refl {a = list_type (Con (second 1 ∷ []) Nil)}), ((λ h. absurd (no_yes h)), ((refl {a = unit_type}), ((tt), (((refl {a = false}, tt)), ((refl {a = unit_type}), ((λ h. refl {a = unit_type}), tt))))))))))))))))))))))))))))))))))))))))))))))))) })

typed_10 : HasTyping with_assignment later_type_tree (up_to later_type_asked later_type_kept (site (third 3) 2))
unfolding constant_by pattern_row expression_row type_expressions.type_row module_expression_row module_type_row item_row signature_item_row
typed_10 = (choice.type_at, record { choice = choice; chosen = λ n. refl; holds = ((tt), ((tt), ((tt), (((refl {a = false}, ((refl {a = false}, ((refl {a = false}, tt), tt)), tt))), ((tt), ((((refl {a = false}, ((refl {a = false}, tt), tt)), (refl {a = false}, ((refl {a = false}, ((refl {a = false}, tt), tt)), tt)))), ((λ h. refl {a = true}), ((record { fill = λ o. int_type; instance = ((λ v. list_type (int_type)), (λ v h. absurd (yes_no h)), refl {a = Arrow (list_type (int_type)) (ref_type (list_type (int_type)))}) }), ((λ h. refl {a = Arrow (list_type (int_type)) (ref_type (list_type (int_type)))}), ((tt), (((refl {a = false}, ((refl {a = false}, tt), tt))), ((refl {a = list_type (int_type)}), ((λ h. refl {a = list_type (int_type)}), ((refl {a = ref_type (list_type (int_type))}), ((tt), (((refl {a = false}, ((refl {a = false}, ((refl {a = false}, tt), tt)), tt))), ((λ h. refl {a = true}), ((λ h. refl {a = ref_type (list_type (int_type))}), (((refl {a = true}, ((refl {a = true}, ((refl {a = true}, tt), tt)), tt))), ((tt), ((λ h. refl {a = true}), ((tt), ((tt), ((λ h. refl {a = true}), ((tt), ((tt), ((tt), (((refl {a = false}, tt)), ((λ h. refl {a = true}), ((record { fill = λ o. int_type; instance = ((λ v. list_type (int_type)), (λ v h. absurd (yes_no h)), refl {a = Arrow (ref_type (list_type (int_type))) (Arrow (list_type (int_type)) unit_type)}) }), ((λ h. refl {a = Arrow (ref_type (list_type (int_type))) (Arrow (list_type (int_type)) unit_type)}), ((tt), (((refl {a = false}, ((refl {a = false}, ((refl {a = false}, tt), tt)), tt))), ((λ h. refl {a = true}), ((record { fill = λ o. int_type; instance = ((λ v. Var v), (λ v h. refl {a = Var v}), refl {a = ref_type (list_type (int_type))}) }), ((λ h. refl {a = ref_type (list_type (int_type))}), ((λ h. refl {a = Arrow (list_type (int_type)) unit_type}), ((tt), (((refl {a = false}, ((refl {a = false}, tt), tt))), ((tt), (((refl {a = false}, tt)), ((λ h. refl {a = true}), ((refl {a = list_type (Con (second 1 ∷ []) Nil)}), ((λ h. absurd (no_yes h)), ((refl {a = unit_type}), ((tt), (((refl {a = false}, tt)), ((refl {a = unit_type}), ((λ h. refl {a = unit_type}), tt))))))))))))))))))))))))))))))))))))))))))))))))) })

typed_11 : HasTyping with_assignment later_type_tree (up_to later_type_asked later_type_kept (site (third 3) 3))
unfolding constant_by pattern_row expression_row type_expressions.type_row module_expression_row module_type_row item_row signature_item_row
typed_11 = (choice.type_at, record { choice = choice; chosen = λ n. refl; holds = ((tt), ((tt), ((tt), (((refl {a = false}, ((refl {a = false}, ((refl {a = false}, tt), tt)), tt))), ((tt), ((((refl {a = false}, ((refl {a = false}, tt), tt)), (refl {a = false}, ((refl {a = false}, ((refl {a = false}, tt), tt)), tt)))), ((λ h. refl {a = true}), ((record { fill = λ o. int_type; instance = ((λ v. list_type (int_type)), (λ v h. absurd (yes_no h)), refl {a = Arrow (list_type (int_type)) (ref_type (list_type (int_type)))}) }), ((λ h. refl {a = Arrow (list_type (int_type)) (ref_type (list_type (int_type)))}), ((tt), (((refl {a = false}, ((refl {a = false}, tt), tt))), ((refl {a = list_type (int_type)}), ((λ h. refl {a = list_type (int_type)}), ((refl {a = ref_type (list_type (int_type))}), ((tt), (((refl {a = false}, ((refl {a = false}, ((refl {a = false}, tt), tt)), tt))), ((λ h. refl {a = true}), ((λ h. refl {a = ref_type (list_type (int_type))}), (((refl {a = true}, ((refl {a = true}, ((refl {a = true}, tt), tt)), tt))), ((tt), ((λ h. refl {a = true}), ((tt), ((tt), ((λ h. refl {a = true}), ((tt), ((tt), ((tt), (((refl {a = false}, tt)), ((λ h. refl {a = true}), ((record { fill = λ o. int_type; instance = ((λ v. list_type (int_type)), (λ v h. absurd (yes_no h)), refl {a = Arrow (ref_type (list_type (int_type))) (Arrow (list_type (int_type)) unit_type)}) }), ((λ h. refl {a = Arrow (ref_type (list_type (int_type))) (Arrow (list_type (int_type)) unit_type)}), ((tt), (((refl {a = false}, ((refl {a = false}, ((refl {a = false}, tt), tt)), tt))), ((λ h. refl {a = true}), ((record { fill = λ o. int_type; instance = ((λ v. Var v), (λ v h. refl {a = Var v}), refl {a = ref_type (list_type (int_type))}) }), ((λ h. refl {a = ref_type (list_type (int_type))}), ((λ h. refl {a = Arrow (list_type (int_type)) unit_type}), ((tt), (((refl {a = false}, ((refl {a = false}, tt), tt))), ((tt), (((refl {a = false}, tt)), ((λ h. refl {a = true}), ((refl {a = list_type (Con (second 1 ∷ []) Nil)}), ((λ h. absurd (no_yes h)), ((refl {a = unit_type}), ((tt), (((refl {a = false}, tt)), ((refl {a = unit_type}), ((λ h. refl {a = unit_type}), tt))))))))))))))))))))))))))))))))))))))))))))))))) })

typed_12 : HasTyping with_assignment later_type_tree (up_to later_type_asked later_type_kept (site (third 6) 0))
unfolding constant_by pattern_row expression_row type_expressions.type_row module_expression_row module_type_row item_row signature_item_row
typed_12 = (choice.type_at, record { choice = choice; chosen = λ n. refl; holds = ((tt), ((tt), ((tt), (((refl {a = false}, ((refl {a = false}, ((refl {a = false}, tt), tt)), tt))), ((tt), ((((refl {a = false}, ((refl {a = false}, tt), tt)), (refl {a = false}, ((refl {a = false}, ((refl {a = false}, tt), tt)), tt)))), ((λ h. refl {a = true}), ((record { fill = λ o. int_type; instance = ((λ v. list_type (int_type)), (λ v h. absurd (yes_no h)), refl {a = Arrow (list_type (int_type)) (ref_type (list_type (int_type)))}) }), ((λ h. refl {a = Arrow (list_type (int_type)) (ref_type (list_type (int_type)))}), ((tt), (((refl {a = false}, ((refl {a = false}, tt), tt))), ((refl {a = list_type (int_type)}), ((λ h. refl {a = list_type (int_type)}), ((refl {a = ref_type (list_type (int_type))}), ((tt), (((refl {a = false}, ((refl {a = false}, ((refl {a = false}, tt), tt)), tt))), ((λ h. refl {a = true}), ((λ h. refl {a = ref_type (list_type (int_type))}), (((refl {a = true}, ((refl {a = true}, ((refl {a = true}, tt), tt)), tt))), ((tt), ((λ h. refl {a = true}), ((tt), ((tt), ((λ h. refl {a = true}), ((tt), ((tt), ((tt), (((refl {a = false}, tt)), ((λ h. refl {a = true}), ((record { fill = λ o. int_type; instance = ((λ v. list_type (int_type)), (λ v h. absurd (yes_no h)), refl {a = Arrow (ref_type (list_type (int_type))) (Arrow (list_type (int_type)) unit_type)}) }), ((λ h. refl {a = Arrow (ref_type (list_type (int_type))) (Arrow (list_type (int_type)) unit_type)}), ((tt), (((refl {a = false}, ((refl {a = false}, ((refl {a = false}, tt), tt)), tt))), ((λ h. refl {a = true}), ((record { fill = λ o. int_type; instance = ((λ v. Var v), (λ v h. refl {a = Var v}), refl {a = ref_type (list_type (int_type))}) }), ((λ h. refl {a = ref_type (list_type (int_type))}), ((λ h. refl {a = Arrow (list_type (int_type)) unit_type}), ((tt), (((refl {a = false}, ((refl {a = false}, tt), tt))), ((tt), (((refl {a = false}, tt)), ((λ h. refl {a = true}), ((λ h. refl {a = true}), ((refl {a = Con (second 1 ∷ []) Nil}), ((refl {a = list_type (Con (second 1 ∷ []) Nil)}), ((λ h. absurd (no_yes h)), ((refl {a = unit_type}), ((tt), (((refl {a = false}, tt)), ((refl {a = unit_type}), ((λ h. refl {a = unit_type}), tt))))))))))))))))))))))))))))))))))))))))))))))))))) })

typed_13 : HasTyping with_assignment later_type_tree (up_to later_type_asked later_type_kept (site (third 6) 1))
unfolding constant_by pattern_row expression_row type_expressions.type_row module_expression_row module_type_row item_row signature_item_row
typed_13 = (choice.type_at, record { choice = choice; chosen = λ n. refl; holds = ((tt), ((tt), ((tt), (((refl {a = false}, ((refl {a = false}, ((refl {a = false}, tt), tt)), tt))), ((tt), ((((refl {a = false}, ((refl {a = false}, tt), tt)), (refl {a = false}, ((refl {a = false}, ((refl {a = false}, tt), tt)), tt)))), ((λ h. refl {a = true}), ((record { fill = λ o. int_type; instance = ((λ v. list_type (int_type)), (λ v h. absurd (yes_no h)), refl {a = Arrow (list_type (int_type)) (ref_type (list_type (int_type)))}) }), ((λ h. refl {a = Arrow (list_type (int_type)) (ref_type (list_type (int_type)))}), ((tt), (((refl {a = false}, ((refl {a = false}, tt), tt))), ((refl {a = list_type (int_type)}), ((λ h. refl {a = list_type (int_type)}), ((refl {a = ref_type (list_type (int_type))}), ((tt), (((refl {a = false}, ((refl {a = false}, ((refl {a = false}, tt), tt)), tt))), ((λ h. refl {a = true}), ((λ h. refl {a = ref_type (list_type (int_type))}), (((refl {a = true}, ((refl {a = true}, ((refl {a = true}, tt), tt)), tt))), ((tt), ((λ h. refl {a = true}), ((tt), ((tt), ((λ h. refl {a = true}), ((tt), ((tt), ((tt), (((refl {a = false}, tt)), ((λ h. refl {a = true}), ((record { fill = λ o. int_type; instance = ((λ v. list_type (int_type)), (λ v h. absurd (yes_no h)), refl {a = Arrow (ref_type (list_type (int_type))) (Arrow (list_type (int_type)) unit_type)}) }), ((λ h. refl {a = Arrow (ref_type (list_type (int_type))) (Arrow (list_type (int_type)) unit_type)}), ((tt), (((refl {a = false}, ((refl {a = false}, ((refl {a = false}, tt), tt)), tt))), ((λ h. refl {a = true}), ((record { fill = λ o. int_type; instance = ((λ v. Var v), (λ v h. refl {a = Var v}), refl {a = ref_type (list_type (int_type))}) }), ((λ h. refl {a = ref_type (list_type (int_type))}), ((λ h. refl {a = Arrow (list_type (int_type)) unit_type}), ((tt), (((refl {a = false}, ((refl {a = false}, tt), tt))), ((tt), (((refl {a = false}, tt)), ((λ h. refl {a = true}), ((λ h. refl {a = true}), ((refl {a = Con (second 1 ∷ []) Nil}), ((refl {a = list_type (Con (second 1 ∷ []) Nil)}), ((λ h. absurd (no_yes h)), ((refl {a = unit_type}), ((tt), (((refl {a = false}, tt)), ((refl {a = unit_type}), ((λ h. refl {a = unit_type}), tt))))))))))))))))))))))))))))))))))))))))))))))))))) })

typed_15 : HasTyping with_assignment later_type_tree (up_to later_type_asked later_type_kept (site (third 1) 1))
unfolding constant_by pattern_row expression_row type_expressions.type_row module_expression_row module_type_row item_row signature_item_row
typed_15 = (choice.type_at, record { choice = choice; chosen = λ n. refl; holds = ((tt), ((tt), ((tt), (((refl {a = false}, ((refl {a = false}, ((refl {a = false}, tt), tt)), tt))), ((tt), ((((refl {a = false}, ((refl {a = false}, tt), tt)), (refl {a = false}, ((refl {a = false}, ((refl {a = false}, tt), tt)), tt)))), ((λ h. refl {a = true}), ((record { fill = λ o. int_type; instance = ((λ v. list_type (int_type)), (λ v h. absurd (yes_no h)), refl {a = Arrow (list_type (int_type)) (ref_type (list_type (int_type)))}) }), ((λ h. refl {a = Arrow (list_type (int_type)) (ref_type (list_type (int_type)))}), ((tt), (((refl {a = false}, ((refl {a = false}, tt), tt))), ((refl {a = list_type (int_type)}), ((λ h. refl {a = list_type (int_type)}), ((refl {a = ref_type (list_type (int_type))}), ((tt), (((refl {a = false}, ((refl {a = false}, ((refl {a = false}, tt), tt)), tt))), ((λ h. refl {a = true}), ((λ h. refl {a = ref_type (list_type (int_type))}), (((refl {a = true}, ((refl {a = true}, ((refl {a = true}, tt), tt)), tt))), ((tt), ((λ h. refl {a = true}), ((tt), ((tt), ((λ h. refl {a = true}), ((tt), ((tt), ((tt), (((refl {a = false}, tt)), ((λ h. refl {a = true}), ((record { fill = λ o. int_type; instance = ((λ v. list_type (int_type)), (λ v h. absurd (yes_no h)), refl {a = Arrow (ref_type (list_type (int_type))) (Arrow (list_type (int_type)) unit_type)}) }), ((λ h. refl {a = Arrow (ref_type (list_type (int_type))) (Arrow (list_type (int_type)) unit_type)}), ((tt), (((refl {a = false}, ((refl {a = false}, ((refl {a = false}, tt), tt)), tt))), ((λ h. refl {a = true}), ((record { fill = λ o. int_type; instance = ((λ v. Var v), (λ v h. refl {a = Var v}), refl {a = ref_type (list_type (int_type))}) }), ((λ h. refl {a = ref_type (list_type (int_type))}), ((λ h. refl {a = Arrow (list_type (int_type)) unit_type}), ((tt), (((refl {a = false}, ((refl {a = false}, tt), tt))), ((tt), (((refl {a = false}, tt)), ((λ h. refl {a = true}), ((λ h. refl {a = true}), ((refl {a = Con (second 1 ∷ []) Nil}), ((refl {a = list_type (Con (second 1 ∷ []) Nil)}), ((λ h. absurd (no_yes h)), ((refl {a = unit_type}), ((tt), (((refl {a = false}, tt)), ((refl {a = unit_type}), ((λ h. refl {a = unit_type}), tt))))))))))))))))))))))))))))))))))))))))))))))))))) })

-- and none for the one that is refused
refused_14 : IsMetUpTo with_assignment later_type_tree (up_to later_type_asked later_type_kept (site (third 3) 4)) (site (third 3) 4) → ⊥
unfolding constant_by pattern_row expression_row type_expressions.type_row module_expression_row module_type_row item_row signature_item_row
refused_14 t =
    let h = t.holds in
    let at : ℕ → Typ = t.choice.type_at in
    let l : ℕ → Typ = t.choice.letter (third 3) in
    let used : at (third 4) ≡ at (first 2) =
    use_of_fixed (generalised_in with_assignment (at (first 3) ∷ at (first 2) ∷ []) (at (first 2))) (at (third 4)) h.1.1.1.1.1.1.1.1.1.1.1.1.1.1.1.0
    (λ v o. held_is_free (free_in v with_assignment) (occurs v (at (first 3))) (occurs v (at (first 2))) o) h.1.1.1.1.1.1.1.1.1.1.1.1.1.1.1.1.1.1.1.1.1.1.1.1.1.1.1.1.1.1.1.1.1.1.0 in
    let value : at (third 5) ≡ list_type (Con (second 1 ∷ []) Nil) = listed (at (third 5)) (at (third 6)) (Con (second 1 ∷ []) Nil) h.1.1.1.1.1.1.1.1.1.1.1.1.1.1.1.1.1.1.1.1.1.1.1.1.1.1.1.1.1.1.1.1.1.1.1.1.1.1.1.1.1.1.1.1.0 h.1.1.1.1.1.1.1.1.1.1.1.1.1.1.1.1.1.1.1.1.1.1.1.1.1.1.1.1.1.1.1.1.1.1.1.1.1.1.1.1.1.1.1.0 in
    let whole : at (first 2) ≡ ref_type (at (third 5)) =
    assigned (at (first 2)) (at (third 4)) (l 0) (l 1) (l 2) (l 3) (l 4) (h.1.1.1.1.1.1.1.1.1.1.1.1.1.1.1.1.1.1.1.1.1.1.1.1.1.1.1.1.1.0.instance.0 0) (at (third 5))
    used h.1.1.1.1.1.1.1.1.1.1.1.1.1.1.1.1.1.1.1.1.1.1.1.1.1.1.1.1.1.0.instance.2 (h.1.1.1.1.1.1.1.1.1.1.1.1.1.1.1.1.1.1.1.1.1.1.1.1.1.1.1.1.1.1.0 refl) (h.1.1.1.1.1.1.1.1.1.1.1.1.1.1.1.1.1.1.1.1.1.1.1.1.1.1.1.1.1.1.1.1.1.1.1.0 refl) (h.1.1.1.1.1.1.1.1.1.1.1.1.1.1.1.1.1.1.1.1.1.1.1.1.1.1.1.1.1.1.1.1.1.1.1.1.0 refl) (h.1.1.1.1.1.1.1.1.1.1.1.1.1.1.1.1.1.1.1.1.1.1.1.1.1.1.1.1.1.1.1.1.1.1.1.1.1.1.1.1.1.1.1.1.1.0 refl) in
    let scope : IsInScope (first 0) (ref_type (list_type (Con (second 1 ∷ []) Nil))) = subst (IsInScope (first 0)) (of_lists (at (first 2)) (at (third 5)) (Con (second 1 ∷ []) Nil) whole value) h.1.1.1.1.1.1.1.1.1.1.1.1.1.1.1.1.1.1.0 in
    no_yes scope.1.0.1.0.0

-- the kept demands
pub kept_ones : IsKept with_assignment (parsed later_type) (kept_at later_type_kept)
kept_ones =
    subst (λ text. IsKept with_assignment text (kept_at later_type_kept)) (sym is_parsed)
    (keeps with_assignment later_type_tree later_type_asked later_type_kept all open_ ((refl), ((refl), ((refl), ((refl), ((refl), ((refl), ((refl), ((refl), ((refl), ((refl), ((refl), ((refl), ((refl), ((refl), ((refl), tt))))))))))))))) ((typed_0), ((typed_1), ((typed_2), ((typed_3), ((typed_4), ((typed_5), ((typed_6), ((typed_7), ((typed_8), ((typed_9), ((typed_10), ((typed_11), ((typed_12), ((typed_13), ((typed_15), tt)))))))))))))))
    ((λ k t. yes_no k), ((λ k t. yes_no k), ((λ k t. yes_no k), ((λ k t. yes_no k), ((λ k t. yes_no k), ((λ k t. yes_no k), ((λ k t. yes_no k), ((λ k t. yes_no k), ((λ k t. yes_no k), ((λ k t. yes_no k), ((λ k t. yes_no k), ((λ k t. yes_no k), ((λ k t. yes_no k), ((λ k t. yes_no k), ((λ k t. refused_14 t), ((λ k t. yes_no k), tt)))))))))))))))))

-- the most general types before the fault
abbrev types : List (ℕ × Typ)
types = (first 2, ref_type (list_type (Var (of_letter (first 5) 0)))) ∷ (first 3, ref_type (list_type (Var (of_letter (first 5) 0)))) ∷ (first 4, Arrow (list_type (Var (of_letter (first 5) 0))) (ref_type (list_type (Var (of_letter (first 5) 0))))) ∷ (first 5, list_type (Var (of_letter (first 5) 0))) ∷ (third 2, unit_type) ∷ (third 3, unit_type) ∷ (third 4, ref_type (list_type (Var (of_letter (first 5) 0)))) ∷ (third 5, list_type (Con (second 1 ∷ []) Nil)) ∷ (third 6, Con (second 1 ∷ []) Nil) ∷ []

abbrev letters : List (ℕ × ℕ × Typ)
letters = (first 3, 0, list_type (Var (of_letter (first 5) 0))) ∷ (first 3, 1, ref_type (list_type (Var (of_letter (first 5) 0)))) ∷ (third 3, 0, Arrow (ref_type (list_type (Var (of_letter (first 5) 0)))) (Arrow (list_type (Var (of_letter (first 5) 0))) unit_type)) ∷ (third 3, 1, ref_type (list_type (Var (of_letter (first 5) 0)))) ∷ (third 3, 2, Arrow (list_type (Var (of_letter (first 5) 0))) unit_type) ∷ (third 3, 3, list_type (Var (of_letter (first 5) 0))) ∷ (third 3, 4, unit_type) ∷ []

holds : AllHold (before later_type_asked later_type_kept (site (third 3) 4)) (conditions_of with_assignment later_type_tree (before later_type_asked later_type_kept (site (third 3) 4)) (open_choice types letters))
unfolding constant_by pattern_row expression_row type_expressions.type_row module_expression_row module_type_row item_row signature_item_row
holds = ((tt), ((tt), ((tt), (((refl {a = false}, ((refl {a = false}, (tt, tt)), tt))), ((tt), ((((refl {a = false}, (tt, tt)), (refl {a = false}, ((refl {a = false}, (tt, tt)), tt)))), ((λ h. refl {a = true}), ((record { fill = λ o. int_type; instance = ((λ v. list_type (Var (of_letter (first 5) 0))), (λ v h. absurd (yes_no h)), refl {a = Arrow (list_type (Var (of_letter (first 5) 0))) (ref_type (list_type (Var (of_letter (first 5) 0))))}) }), ((λ h. refl {a = Arrow (list_type (Var (of_letter (first 5) 0))) (ref_type (list_type (Var (of_letter (first 5) 0))))}), ((tt), (((refl {a = false}, (tt, tt))), ((refl {a = list_type (Var (of_letter (first 5) 0))}), ((λ h. refl {a = list_type (Var (of_letter (first 5) 0))}), ((refl {a = ref_type (list_type (Var (of_letter (first 5) 0)))}), ((tt), (((refl {a = false}, ((refl {a = false}, (tt, tt)), tt))), ((λ h. refl {a = true}), ((λ h. refl {a = ref_type (list_type (Var (of_letter (first 5) 0)))}), (((refl {a = true}, ((refl {a = true}, (tt, tt)), tt))), ((tt), ((λ h. refl {a = true}), ((tt), ((tt), ((λ h. refl {a = true}), ((tt), ((tt), ((tt), (((refl {a = false}, tt)), ((λ h. refl {a = true}), ((record { fill = λ o. int_type; instance = ((λ v. list_type (Var (of_letter (first 5) 0))), (λ v h. absurd (yes_no h)), refl {a = Arrow (ref_type (list_type (Var (of_letter (first 5) 0)))) (Arrow (list_type (Var (of_letter (first 5) 0))) unit_type)}) }), ((λ h. refl {a = Arrow (ref_type (list_type (Var (of_letter (first 5) 0)))) (Arrow (list_type (Var (of_letter (first 5) 0))) unit_type)}), ((tt), (((refl {a = false}, ((refl {a = false}, (tt, tt)), tt))), ((λ h. refl {a = true}), ((record { fill = λ o. int_type; instance = ((λ v. Var v), (λ v h. refl {a = Var v}), refl {a = ref_type (list_type (Var (of_letter (first 5) 0)))}) }), ((λ h. refl {a = ref_type (list_type (Var (of_letter (first 5) 0)))}), ((λ h. refl {a = Arrow (list_type (Var (of_letter (first 5) 0))) unit_type}), ((tt), (((refl {a = false}, ((refl {a = false}, tt), tt))), ((tt), (((refl {a = false}, tt)), ((λ h. refl {a = true}), ((λ h. refl {a = true}), ((refl {a = Con (second 1 ∷ []) Nil}), ((refl {a = list_type (Con (second 1 ∷ []) Nil)}), ((λ h. absurd (no_yes h)), ((refl {a = unit_type}), ((tt), (((refl {a = false}, tt)), ((refl {a = unit_type}), ((λ h. absurd (no_yes h)), tt)))))))))))))))))))))))))))))))))))))))))))))))))))

-- the types are the most general ones
general : IsMostGeneralChoice (before later_type_asked later_type_kept (site (third 3) 4)) (conditions_of with_assignment later_type_tree (before later_type_asked later_type_kept (site (third 3) 4))) (open_choice types letters)
unfolding constant_by pattern_row expression_row type_expressions.type_row module_expression_row module_type_row item_row signature_item_row
general = record {
  holds = holds;
  general = λ other h.
      let at : ℕ → Typ = other.type_at in
      let l : ℕ → Typ = other.letter (first 3) in
      let x : Typ = put other (of_letter (first 5) 0) in
      let list : at (first 5) ≡ list_type x = h.1.1.1.1.1.1.1.1.1.1.1.0 ∙ ap list_type (sym (put_letter other (first 5) 0)) in
      let both = applied_ref (at (first 4)) (l 0) (l 1) (at (first 5)) (h.1.1.1.1.1.1.1.0.instance.0 0) x h.1.1.1.1.1.1.1.0.instance.2 (h.1.1.1.1.1.1.1.1.0 refl) (h.1.1.1.1.1.1.1.1.1.1.1.1.0 refl) list in
      let whole : at (first 3) ≡ ref_type (list_type x) = h.1.1.1.1.1.1.1.1.1.1.1.1.1.0 ∙ both.1 in
      let name : at (first 2) ≡ ref_type (list_type x) = h.1.1.1.1.1.1.1.1.1.1.1.1.1.1.1.1.1.0 refl ∙ whole in
      let head : at (first 4) ≡ Arrow (list_type x) (ref_type (list_type x)) = both.2 in
      let m : ℕ → Typ = other.letter (third 3) in
      let used : at (third 4) ≡ at (first 2) =
      use_of_fixed (generalised_in with_assignment (at (first 3) ∷ at (first 2) ∷ []) (at (first 2))) (at (third 4)) h.1.1.1.1.1.1.1.1.1.1.1.1.1.1.1.0 (λ v o. held_is_free (free_in v with_assignment) (occurs v (at (first 3))) (occurs v (at (first 2))) o) h.1.1.1.1.1.1.1.1.1.1.1.1.1.1.1.1.1.1.1.1.1.1.1.1.1.1.1.1.1.1.1.1.1.1.0 in
      let read : at (third 4) ≡ ref_type (list_type x) = used ∙ name in
      let made = assigned_to (m 0) (m 1) (m 2) (m 3) (m 4) (h.1.1.1.1.1.1.1.1.1.1.1.1.1.1.1.1.1.1.1.1.1.1.1.1.1.1.1.1.1.0.instance.0 0) (at (third 4)) (list_type x) h.1.1.1.1.1.1.1.1.1.1.1.1.1.1.1.1.1.1.1.1.1.1.1.1.1.1.1.1.1.0.instance.2 (h.1.1.1.1.1.1.1.1.1.1.1.1.1.1.1.1.1.1.1.1.1.1.1.1.1.1.1.1.1.1.0 refl) (h.1.1.1.1.1.1.1.1.1.1.1.1.1.1.1.1.1.1.1.1.1.1.1.1.1.1.1.1.1.1.1.1.1.1.1.0 refl) read (h.1.1.1.1.1.1.1.1.1.1.1.1.1.1.1.1.1.1.1.1.1.1.1.1.1.1.1.1.1.1.1.1.1.1.1.1.0 refl) in
      let last : at (third 6) ≡ Con (second 1 ∷ []) Nil = h.1.1.1.1.1.1.1.1.1.1.1.1.1.1.1.1.1.1.1.1.1.1.1.1.1.1.1.1.1.1.1.1.1.1.1.1.1.1.1.1.1.1.1.0 in
      let second_list : at (third 5) ≡ list_type (Con (second 1 ∷ []) Nil) = h.1.1.1.1.1.1.1.1.1.1.1.1.1.1.1.1.1.1.1.1.1.1.1.1.1.1.1.1.1.1.1.1.1.1.1.1.1.1.1.1.1.1.1.1.0 ∙ ap list_type last in
      let done : at (third 3) ≡ unit_type = h.1.1.1.1.1.1.1.1.1.1.1.1.1.1.1.1.1.1.1.1.1.1.1.1.1.1.1.1.1.1.1.1.1.1.1.1.1.1.1.1.1.1.1.1.1.1.0 ∙ made.4 in
      is_instance other types letters (name, (whole, (head, (list, (h.1.1.1.1.1.1.1.1.1.1.1.1.1.1.1.1.1.1.1.1.1.1.1.1.1.1.1.1.1.1.1.1.1.1.1.1.1.1.1.1.1.1.1.1.1.1.1.1.1.0, (done, (read, (second_list, (last, tt))))))))) (both.0, (both.1, (made.0, (made.1, (made.2, (made.3, (made.4, tt)))))));
}

abbrev found : Option Environment → Environment
found None = []
found (Some e) = e

abbrev pub scope : Environment
scope = found (environment_of (third 3) (conditions_of with_assignment later_type_tree (before later_type_asked later_type_kept (site (third 3) 4)) (open_choice types letters)))

no_cycle : IsCycle (list_type (Con (second 1 ∷ []) Nil)) (list_type (Var (of_letter (first 5) 0))) → ⊥
no_cycle (v, inl e) = con_is_no_variable (built_in_origin 7) (Cons (Con (second 1 ∷ []) Nil) Nil) v e.0
no_cycle (v, inr e) = con_is_no_variable (built_in_origin 7) (Cons (Var (of_letter (first 5) 0)) Nil) v e.0

differs : Differ (list_type (Con (second 1 ∷ []) Nil)) (list_type (Var (of_letter (first 5) 0))) made_later
differs = later no_cycle ((λ v. Con (second 1 ∷ []) Nil), refl)

-- the fault
pub is_a_fault : IsFaultAt with_assignment (parsed later_type) (kept_at later_type_kept) (site (third 3) 4) (record { at = place 40 43; told = types_differ (list_type (Con (second 1 ∷ []) Nil)) (list_type (Var (of_letter (first 5) 0))) made_later; env = scope })
unfolding constant_by pattern_row expression_row type_expressions.type_row module_expression_row module_type_row item_row signature_item_row
is_a_fault =
    subst (λ text. IsFaultAt with_assignment text (kept_at later_type_kept) (site (third 3) 4) (record { at = place 40 43; told = types_differ (list_type (Con (second 1 ∷ []) Nil)) (list_type (Var (of_letter (first 5) 0))) made_later; env = scope })) (sym is_parsed)
    (is_fault with_assignment later_type_tree later_type_asked later_type_kept (site (third 3) 4) (record { at = place 40 43; told = types_differ (list_type (Con (second 1 ∷ []) Nil)) (list_type (Var (of_letter (first 5) 0))) made_later; env = scope }) (open_choice types letters) (equal (list_type (Con (second 1 ∷ []) Nil)) (list_type (Var (of_letter (first 5) 0)))) all refl refl general (refl {a = Some (place 40 43, equal (list_type (Con (second 1 ∷ []) Nil)) (list_type (Var (of_letter (first 5) 0))))}) (by_types differs) (refl {a = Some scope}))
