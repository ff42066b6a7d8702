-- let f = let g = fun x -> x in (g 1, g "a"): its tree, its kept demands, and its most general types.
use Rattle.std.proofs.Common.{◌≡◌, ℕ, ◌==◌, true, false, List, [], ◌∷◌, codes, refl, sym, ◌∙◌, ap, subst, if◌then◌else◌}
use Rattle.tree_model.specs.Trees.{Tree, no_parts, part, taken, inner}
use Rattle.tree_model.specs.Extents.{node_over}
use Rattle.type_model.specs.Types.{Typ, Var, Arrow, Tuple, Nil, Cons}
use Rattle.typing_model.specs.BuiltIns.{built_in_names, int_type, string_type}
use Rattle.typing_model.specs.Contexts.{Choice}
use Rattle.typing_model.specs.Demands.{Site, site}
use Rattle.typing_model.specs.Typings.{conditions_of, no_choice, demands_of, HasTyping, IsKept, IsMostGeneralChoice}
use Rattle.model_checks.specs.Typings.{first, choice_of}
use Rattle.model_checks.specs.Kept.{kept_at}
use Rattle.model_checks.specs.Open.{of_node, open_choice}
use Rattle.model_checks.proofs.Apart.{yes_no}
use Rattle.model_checks.proofs.Keeping.{up_to, no_closing, keeps}
use Rattle.model_checks.proofs.Coding.{is_instance}
use Rattle.model_checks.proofs.Uses.{use_of_one}
use Rattle.tree_model.specs.Slots.{is_operand}
use Rattle.grammar_model.specs.Rows.{chain_of, grower_of}
use Rattle.grammar_model.specs.Ocaml.{rows}
use Rattle.grammar_model.specs.Tables.{first_place}
use Rattle.grammar_model.specs.Keys.{kind_key, key_of}
use Rattle.recovery_model.specs.Steps as rules
use Rattle.recovery_model.specs.Recovery.{step, close, recover}
use Rattle.typing_model.specs.BuiltIns.{constant_by}
use Rattle.typing_model.specs.Patterns.{pattern_row}
use Rattle.typing_model.specs.Expressions.{expression_row}
use Rattle.typing_model.specs.TypeExpressions.{type_row}
use Rattle.typing_model.specs.Modules.{module_expression_row, module_type_row, item_row, signature_item_row}
use Rattle.typing_model.specs.Typings.{IsPrincipal}
use Rattle.model_checks.specs.Open.{open_types}
use Rattle.model_checks.proofs.Keeping.{is_principal}
use Rattle.model_checks.proofs.Coding.{put, put_node}
use Rattle.typing_model.specs.Contexts.{generalised_in}
use Rattle.tree_model.specs.Rows.{let_row, binding_row, pname_row, name_row, econst_row, elet_row, efun_row, eparen_row, etuple_row, eapp_row}
use Rattle.token_model.specs.Kinds.{let_word, lower, op9, int, str, fun_word, arrow, in_word, left_paren, right_paren, comma}
use Rattle.model_checks.specs.Texts.{tok, parsed, used_twice}
use Rattle.model_checks.specs.Kept.{used_twice_kept}
use Rattle.model_checks.specs.Chosen.{pair_type, inner_open}
use Rattle.model_checks.proofs.Uses.{use_of_same}
use Rattle.model_checks.proofs.References.{same_applied}

-- its tree
abbrev pub used_twice_tree : List Tree
used_twice_tree = (node_over let_row (part 0 (taken (tok let_word 0 3 (codes "let"))) (part 2 (inner (node_over binding_row (part 0 (inner (node_over pname_row (part 0 (taken (tok lower 4 5 (codes "f"))) no_parts))) (part 4 (taken (tok op9 6 7 (codes "="))) (part 5 (inner (node_over elet_row (part 0 (taken (tok let_word 8 11 (codes "let"))) (part 2 (inner (node_over binding_row (part 0 (inner (node_over pname_row (part 0 (taken (tok lower 12 13 (codes "g"))) no_parts))) (part 4 (taken (tok op9 14 15 (codes "="))) (part 5 (inner (node_over efun_row (part 0 (taken (tok fun_word 16 19 (codes "fun"))) (part 1 (inner (node_over pname_row (part 0 (taken (tok lower 20 21 (codes "x"))) no_parts))) (part 2 (taken (tok arrow 22 24 (codes "->"))) (part 3 (inner (node_over name_row (part 0 (taken (tok lower 25 26 (codes "x"))) no_parts))) no_parts)))))) no_parts))))) (part 4 (taken (tok in_word 27 29 (codes "in"))) (part 5 (inner (node_over eparen_row (part 0 (taken (tok left_paren 30 31 (codes "("))) (part 1 (inner (node_over etuple_row (part 0 (inner (node_over eapp_row (part 0 (inner (node_over name_row (part 0 (taken (tok lower 31 32 (codes "g"))) no_parts))) (part 1 (inner (node_over econst_row (part 0 (taken (tok int 33 34 (codes "1"))) no_parts))) no_parts)))) (part 1 (taken (tok comma 34 35 (codes ","))) (part 2 (inner (node_over eapp_row (part 0 (inner (node_over name_row (part 0 (taken (tok lower 36 37 (codes "g"))) no_parts))) (part 1 (inner (node_over econst_row (part 0 (taken (tok str 38 41 (codes "\"a\""))) no_parts))) no_parts)))) no_parts))))) (part 4 (taken (tok right_paren 41 42 (codes ")"))) no_parts))))) no_parts)))))) no_parts))))) no_parts))) ∷ []

-- the parser gives it
pub is_parsed : parsed used_twice ≡ used_twice_tree
unfolding recover step close rules.step rows chain_of grower_of first_place kind_key key_of is_operand
is_parsed = refl

-- types that keep all demands
abbrev choice : Choice
choice = choice_of ((first 2, pair_type) ∷ (first 3, pair_type) ∷ (first 5, Arrow (Var (first 7)) (Var (first 7))) ∷ (first 6, Arrow (Var (first 7)) (Var (first 7))) ∷ (first 8, Var (first 7)) ∷ (first 9, pair_type) ∷ (first 10, pair_type) ∷ (first 11, int_type) ∷ (first 12, Arrow int_type int_type) ∷ (first 13, int_type) ∷ (first 14, string_type) ∷ (first 15, Arrow string_type string_type) ∷ (first 16, string_type) ∷ []) (λ n k. if n == first 11 then int_type else string_type)

-- all demands
abbrev pub used_twice_asked : List Site
used_twice_asked = site (first 7) 0 ∷ site (first 8) 0 ∷ site (first 5) 0 ∷ site (first 4) 1 ∷ site (first 12) 0 ∷ site (first 11) 0 ∷ site (first 13) 0 ∷ site (first 11) 1 ∷ site (first 15) 0 ∷ site (first 14) 0 ∷ site (first 14) 1 ∷ site (first 2) 0 ∷ site (first 1) 1 ∷ []

pub all : demands_of built_in_names used_twice_tree (kept_at used_twice_kept) ≡ used_twice_asked
unfolding constant_by pattern_row expression_row type_row module_expression_row module_type_row item_row signature_item_row
all = refl

-- no demand is a `closing`
open_ : no_closing (conditions_of built_in_names used_twice_tree (kept_at used_twice_kept) no_choice) ≡ true
unfolding constant_by pattern_row expression_row type_row module_expression_row module_type_row item_row signature_item_row
open_ = refl

-- a typing for each kept demand, with those before it
typed_0 : HasTyping built_in_names used_twice_tree (up_to used_twice_asked used_twice_kept (site (first 7) 0))
unfolding constant_by pattern_row expression_row type_row module_expression_row module_type_row item_row signature_item_row
typed_0 = (choice.type_at, record { choice = choice; chosen = λ n. refl; holds = ((tt), ((tt), ((tt), ((((refl {a = false}, tt), ((refl {a = false}, tt), tt))), ((tt), ((tt), (((tt, tt)), ((tt), ((tt), ((λ h. refl {a = true}), ((tt), ((tt), ((λ h. refl {a = true}), ((refl {a = Arrow (Var (first 7)) (Var (first 7))}), ((tt), (((tt, tt)), ((λ h. refl {a = true}), ((λ h. refl {a = Arrow (Var (first 7)) (Var (first 7))}), ((tt), ((((refl {a = false}, tt), ((refl {a = false}, tt), tt))), ((tt), ((((refl {a = false}, tt), ((refl {a = false}, tt), tt))), ((tt), (((refl {a = false}, tt)), ((tt), ((((refl {a = false}, tt), (refl {a = false}, tt))), ((λ h. refl {a = true}), ((λ h. refl {a = Arrow int_type int_type}), ((tt), (((refl {a = false}, tt)), ((λ h. refl {a = true}), ((refl {a = int_type}), ((λ h. refl {a = int_type}), ((refl {a = int_type}), ((tt), (((refl {a = false}, tt)), ((tt), ((((refl {a = false}, tt), (refl {a = false}, tt))), ((λ h. refl {a = true}), ((λ h. refl {a = Arrow string_type string_type}), ((tt), (((refl {a = false}, tt)), ((refl {a = string_type}), ((λ h. refl {a = string_type}), ((refl {a = string_type}), ((refl {a = pair_type}), ((refl {a = pair_type}), ((refl {a = pair_type}), ((tt), ((((refl {a = false}, tt), ((refl {a = false}, tt), tt))), ((λ h. refl {a = true}), ((λ h. refl {a = pair_type}), ((((refl {a = true}, tt), ((refl {a = true}, tt), tt))), tt))))))))))))))))))))))))))))))))))))))))))))))))))))) })

typed_1 : HasTyping built_in_names used_twice_tree (up_to used_twice_asked used_twice_kept (site (first 8) 0))
unfolding constant_by pattern_row expression_row type_row module_expression_row module_type_row item_row signature_item_row
typed_1 = (choice.type_at, record { choice = choice; chosen = λ n. refl; holds = ((tt), ((tt), ((tt), ((((refl {a = false}, tt), ((refl {a = false}, tt), tt))), ((tt), ((tt), (((tt, tt)), ((tt), ((tt), ((λ h. refl {a = true}), ((tt), ((tt), ((λ h. refl {a = true}), ((record { fill = λ o. int_type; instance = ((λ v. Var v), (λ v h. refl {a = Var v}), refl {a = Var (first 7)}) }), ((refl {a = Arrow (Var (first 7)) (Var (first 7))}), ((tt), (((tt, tt)), ((λ h. refl {a = true}), ((λ h. refl {a = Arrow (Var (first 7)) (Var (first 7))}), ((tt), ((((refl {a = false}, tt), ((refl {a = false}, tt), tt))), ((tt), ((((refl {a = false}, tt), ((refl {a = false}, tt), tt))), ((tt), (((refl {a = false}, tt)), ((tt), ((((refl {a = false}, tt), (refl {a = false}, tt))), ((λ h. refl {a = true}), ((λ h. refl {a = Arrow int_type int_type}), ((tt), (((refl {a = false}, tt)), ((λ h. refl {a = true}), ((refl {a = int_type}), ((λ h. refl {a = int_type}), ((refl {a = int_type}), ((tt), (((refl {a = false}, tt)), ((tt), ((((refl {a = false}, tt), (refl {a = false}, tt))), ((λ h. refl {a = true}), ((λ h. refl {a = Arrow string_type string_type}), ((tt), (((refl {a = false}, tt)), ((refl {a = string_type}), ((λ h. refl {a = string_type}), ((refl {a = string_type}), ((refl {a = pair_type}), ((refl {a = pair_type}), ((refl {a = pair_type}), ((tt), ((((refl {a = false}, tt), ((refl {a = false}, tt), tt))), ((λ h. refl {a = true}), ((λ h. refl {a = pair_type}), ((((refl {a = true}, tt), ((refl {a = true}, tt), tt))), tt)))))))))))))))))))))))))))))))))))))))))))))))))))))) })

typed_2 : HasTyping built_in_names used_twice_tree (up_to used_twice_asked used_twice_kept (site (first 5) 0))
unfolding constant_by pattern_row expression_row type_row module_expression_row module_type_row item_row signature_item_row
typed_2 = (choice.type_at, record { choice = choice; chosen = λ n. refl; holds = ((tt), ((tt), ((tt), ((((refl {a = false}, tt), ((refl {a = false}, tt), tt))), ((tt), ((tt), (((tt, tt)), ((tt), ((tt), ((λ h. refl {a = true}), ((tt), ((tt), ((λ h. refl {a = true}), ((record { fill = λ o. int_type; instance = ((λ v. Var v), (λ v h. refl {a = Var v}), refl {a = Var (first 7)}) }), ((refl {a = Arrow (Var (first 7)) (Var (first 7))}), ((tt), (((tt, tt)), ((λ h. refl {a = true}), ((λ h. refl {a = Arrow (Var (first 7)) (Var (first 7))}), ((tt), ((((refl {a = false}, tt), ((refl {a = false}, tt), tt))), ((tt), ((((refl {a = false}, tt), ((refl {a = false}, tt), tt))), ((tt), (((refl {a = false}, tt)), ((tt), ((((refl {a = false}, tt), (refl {a = false}, tt))), ((λ h. refl {a = true}), ((λ h. refl {a = Arrow int_type int_type}), ((tt), (((refl {a = false}, tt)), ((λ h. refl {a = true}), ((refl {a = int_type}), ((λ h. refl {a = int_type}), ((refl {a = int_type}), ((tt), (((refl {a = false}, tt)), ((tt), ((((refl {a = false}, tt), (refl {a = false}, tt))), ((λ h. refl {a = true}), ((λ h. refl {a = Arrow string_type string_type}), ((tt), (((refl {a = false}, tt)), ((refl {a = string_type}), ((λ h. refl {a = string_type}), ((refl {a = string_type}), ((refl {a = pair_type}), ((refl {a = pair_type}), ((refl {a = pair_type}), ((tt), ((((refl {a = false}, tt), ((refl {a = false}, tt), tt))), ((λ h. refl {a = true}), ((λ h. refl {a = pair_type}), ((((refl {a = true}, tt), ((refl {a = true}, tt), tt))), tt)))))))))))))))))))))))))))))))))))))))))))))))))))))) })

typed_3 : HasTyping built_in_names used_twice_tree (up_to used_twice_asked used_twice_kept (site (first 4) 1))
unfolding constant_by pattern_row expression_row type_row module_expression_row module_type_row item_row signature_item_row
typed_3 = (choice.type_at, record { choice = choice; chosen = λ n. refl; holds = ((tt), ((tt), ((tt), ((((refl {a = false}, tt), ((refl {a = false}, tt), tt))), ((tt), ((tt), (((tt, tt)), ((tt), ((tt), ((λ h. refl {a = true}), ((tt), ((tt), ((λ h. refl {a = true}), ((record { fill = λ o. int_type; instance = ((λ v. Var v), (λ v h. refl {a = Var v}), refl {a = Var (first 7)}) }), ((refl {a = Arrow (Var (first 7)) (Var (first 7))}), ((tt), (((tt, tt)), ((λ h. refl {a = true}), ((λ h. refl {a = Arrow (Var (first 7)) (Var (first 7))}), ((tt), ((((refl {a = false}, tt), ((refl {a = false}, tt), tt))), ((tt), ((((refl {a = false}, tt), ((refl {a = false}, tt), tt))), ((tt), (((refl {a = false}, tt)), ((tt), ((((refl {a = false}, tt), (refl {a = false}, tt))), ((λ h. refl {a = true}), ((λ h. refl {a = Arrow int_type int_type}), ((tt), (((refl {a = false}, tt)), ((λ h. refl {a = true}), ((refl {a = int_type}), ((λ h. refl {a = int_type}), ((refl {a = int_type}), ((tt), (((refl {a = false}, tt)), ((tt), ((((refl {a = false}, tt), (refl {a = false}, tt))), ((λ h. refl {a = true}), ((λ h. refl {a = Arrow string_type string_type}), ((tt), (((refl {a = false}, tt)), ((refl {a = string_type}), ((λ h. refl {a = string_type}), ((refl {a = string_type}), ((refl {a = pair_type}), ((refl {a = pair_type}), ((refl {a = pair_type}), ((tt), ((((refl {a = false}, tt), ((refl {a = false}, tt), tt))), ((λ h. refl {a = true}), ((λ h. refl {a = pair_type}), ((((refl {a = true}, tt), ((refl {a = true}, tt), tt))), tt)))))))))))))))))))))))))))))))))))))))))))))))))))))) })

typed_4 : HasTyping built_in_names used_twice_tree (up_to used_twice_asked used_twice_kept (site (first 12) 0))
unfolding constant_by pattern_row expression_row type_row module_expression_row module_type_row item_row signature_item_row
typed_4 = (choice.type_at, record { choice = choice; chosen = λ n. refl; holds = ((tt), ((tt), ((tt), ((((refl {a = false}, tt), ((refl {a = false}, tt), tt))), ((tt), ((tt), (((tt, tt)), ((tt), ((tt), ((λ h. refl {a = true}), ((tt), ((tt), ((λ h. refl {a = true}), ((record { fill = λ o. int_type; instance = ((λ v. Var v), (λ v h. refl {a = Var v}), refl {a = Var (first 7)}) }), ((refl {a = Arrow (Var (first 7)) (Var (first 7))}), ((tt), (((tt, tt)), ((λ h. refl {a = true}), ((λ h. refl {a = Arrow (Var (first 7)) (Var (first 7))}), ((tt), ((((refl {a = false}, tt), ((refl {a = false}, tt), tt))), ((tt), ((((refl {a = false}, tt), ((refl {a = false}, tt), tt))), ((tt), (((refl {a = false}, tt)), ((tt), ((((refl {a = false}, tt), (refl {a = false}, tt))), ((λ h. refl {a = true}), ((record { fill = λ o. int_type; instance = ((λ v. int_type), (λ v h. absurd (yes_no h)), refl {a = Arrow int_type int_type}) }), ((λ h. refl {a = Arrow int_type int_type}), ((tt), (((refl {a = false}, tt)), ((λ h. refl {a = true}), ((refl {a = int_type}), ((λ h. refl {a = int_type}), ((refl {a = int_type}), ((tt), (((refl {a = false}, tt)), ((tt), ((((refl {a = false}, tt), (refl {a = false}, tt))), ((λ h. refl {a = true}), ((λ h. refl {a = Arrow string_type string_type}), ((tt), (((refl {a = false}, tt)), ((refl {a = string_type}), ((λ h. refl {a = string_type}), ((refl {a = string_type}), ((refl {a = pair_type}), ((refl {a = pair_type}), ((refl {a = pair_type}), ((tt), ((((refl {a = false}, tt), ((refl {a = false}, tt), tt))), ((λ h. refl {a = true}), ((λ h. refl {a = pair_type}), ((((refl {a = true}, tt), ((refl {a = true}, tt), tt))), tt))))))))))))))))))))))))))))))))))))))))))))))))))))))) })

typed_5 : HasTyping built_in_names used_twice_tree (up_to used_twice_asked used_twice_kept (site (first 11) 0))
unfolding constant_by pattern_row expression_row type_row module_expression_row module_type_row item_row signature_item_row
typed_5 = (choice.type_at, record { choice = choice; chosen = λ n. refl; holds = ((tt), ((tt), ((tt), ((((refl {a = false}, tt), ((refl {a = false}, tt), tt))), ((tt), ((tt), (((tt, tt)), ((tt), ((tt), ((λ h. refl {a = true}), ((tt), ((tt), ((λ h. refl {a = true}), ((record { fill = λ o. int_type; instance = ((λ v. Var v), (λ v h. refl {a = Var v}), refl {a = Var (first 7)}) }), ((refl {a = Arrow (Var (first 7)) (Var (first 7))}), ((tt), (((tt, tt)), ((λ h. refl {a = true}), ((λ h. refl {a = Arrow (Var (first 7)) (Var (first 7))}), ((tt), ((((refl {a = false}, tt), ((refl {a = false}, tt), tt))), ((tt), ((((refl {a = false}, tt), ((refl {a = false}, tt), tt))), ((tt), (((refl {a = false}, tt)), ((tt), ((((refl {a = false}, tt), (refl {a = false}, tt))), ((λ h. refl {a = true}), ((record { fill = λ o. int_type; instance = ((λ v. int_type), (λ v h. absurd (yes_no h)), refl {a = Arrow int_type int_type}) }), ((λ h. refl {a = Arrow int_type int_type}), ((tt), (((refl {a = false}, tt)), ((λ h. refl {a = true}), ((refl {a = int_type}), ((λ h. refl {a = int_type}), ((refl {a = int_type}), ((tt), (((refl {a = false}, tt)), ((tt), ((((refl {a = false}, tt), (refl {a = false}, tt))), ((λ h. refl {a = true}), ((λ h. refl {a = Arrow string_type string_type}), ((tt), (((refl {a = false}, tt)), ((refl {a = string_type}), ((λ h. refl {a = string_type}), ((refl {a = string_type}), ((refl {a = pair_type}), ((refl {a = pair_type}), ((refl {a = pair_type}), ((tt), ((((refl {a = false}, tt), ((refl {a = false}, tt), tt))), ((λ h. refl {a = true}), ((λ h. refl {a = pair_type}), ((((refl {a = true}, tt), ((refl {a = true}, tt), tt))), tt))))))))))))))))))))))))))))))))))))))))))))))))))))))) })

typed_6 : HasTyping built_in_names used_twice_tree (up_to used_twice_asked used_twice_kept (site (first 13) 0))
unfolding constant_by pattern_row expression_row type_row module_expression_row module_type_row item_row signature_item_row
typed_6 = (choice.type_at, record { choice = choice; chosen = λ n. refl; holds = ((tt), ((tt), ((tt), ((((refl {a = false}, tt), ((refl {a = false}, tt), tt))), ((tt), ((tt), (((tt, tt)), ((tt), ((tt), ((λ h. refl {a = true}), ((tt), ((tt), ((λ h. refl {a = true}), ((record { fill = λ o. int_type; instance = ((λ v. Var v), (λ v h. refl {a = Var v}), refl {a = Var (first 7)}) }), ((refl {a = Arrow (Var (first 7)) (Var (first 7))}), ((tt), (((tt, tt)), ((λ h. refl {a = true}), ((λ h. refl {a = Arrow (Var (first 7)) (Var (first 7))}), ((tt), ((((refl {a = false}, tt), ((refl {a = false}, tt), tt))), ((tt), ((((refl {a = false}, tt), ((refl {a = false}, tt), tt))), ((tt), (((refl {a = false}, tt)), ((tt), ((((refl {a = false}, tt), (refl {a = false}, tt))), ((λ h. refl {a = true}), ((record { fill = λ o. int_type; instance = ((λ v. int_type), (λ v h. absurd (yes_no h)), refl {a = Arrow int_type int_type}) }), ((λ h. refl {a = Arrow int_type int_type}), ((tt), (((refl {a = false}, tt)), ((λ h. refl {a = true}), ((refl {a = int_type}), ((λ h. refl {a = int_type}), ((refl {a = int_type}), ((tt), (((refl {a = false}, tt)), ((tt), ((((refl {a = false}, tt), (refl {a = false}, tt))), ((λ h. refl {a = true}), ((λ h. refl {a = Arrow string_type string_type}), ((tt), (((refl {a = false}, tt)), ((refl {a = string_type}), ((λ h. refl {a = string_type}), ((refl {a = string_type}), ((refl {a = pair_type}), ((refl {a = pair_type}), ((refl {a = pair_type}), ((tt), ((((refl {a = false}, tt), ((refl {a = false}, tt), tt))), ((λ h. refl {a = true}), ((λ h. refl {a = pair_type}), ((((refl {a = true}, tt), ((refl {a = true}, tt), tt))), tt))))))))))))))))))))))))))))))))))))))))))))))))))))))) })

typed_7 : HasTyping built_in_names used_twice_tree (up_to used_twice_asked used_twice_kept (site (first 11) 1))
unfolding constant_by pattern_row expression_row type_row module_expression_row module_type_row item_row signature_item_row
typed_7 = (choice.type_at, record { choice = choice; chosen = λ n. refl; holds = ((tt), ((tt), ((tt), ((((refl {a = false}, tt), ((refl {a = false}, tt), tt))), ((tt), ((tt), (((tt, tt)), ((tt), ((tt), ((λ h. refl {a = true}), ((tt), ((tt), ((λ h. refl {a = true}), ((record { fill = λ o. int_type; instance = ((λ v. Var v), (λ v h. refl {a = Var v}), refl {a = Var (first 7)}) }), ((refl {a = Arrow (Var (first 7)) (Var (first 7))}), ((tt), (((tt, tt)), ((λ h. refl {a = true}), ((λ h. refl {a = Arrow (Var (first 7)) (Var (first 7))}), ((tt), ((((refl {a = false}, tt), ((refl {a = false}, tt), tt))), ((tt), ((((refl {a = false}, tt), ((refl {a = false}, tt), tt))), ((tt), (((refl {a = false}, tt)), ((tt), ((((refl {a = false}, tt), (refl {a = false}, tt))), ((λ h. refl {a = true}), ((record { fill = λ o. int_type; instance = ((λ v. int_type), (λ v h. absurd (yes_no h)), refl {a = Arrow int_type int_type}) }), ((λ h. refl {a = Arrow int_type int_type}), ((tt), (((refl {a = false}, tt)), ((λ h. refl {a = true}), ((refl {a = int_type}), ((λ h. refl {a = int_type}), ((refl {a = int_type}), ((tt), (((refl {a = false}, tt)), ((tt), ((((refl {a = false}, tt), (refl {a = false}, tt))), ((λ h. refl {a = true}), ((λ h. refl {a = Arrow string_type string_type}), ((tt), (((refl {a = false}, tt)), ((refl {a = string_type}), ((λ h. refl {a = string_type}), ((refl {a = string_type}), ((refl {a = pair_type}), ((refl {a = pair_type}), ((refl {a = pair_type}), ((tt), ((((refl {a = false}, tt), ((refl {a = false}, tt), tt))), ((λ h. refl {a = true}), ((λ h. refl {a = pair_type}), ((((refl {a = true}, tt), ((refl {a = true}, tt), tt))), tt))))))))))))))))))))))))))))))))))))))))))))))))))))))) })

typed_8 : HasTyping built_in_names used_twice_tree (up_to used_twice_asked used_twice_kept (site (first 15) 0))
unfolding constant_by pattern_row expression_row type_row module_expression_row module_type_row item_row signature_item_row
typed_8 = (choice.type_at, record { choice = choice; chosen = λ n. refl; holds = ((tt), ((tt), ((tt), ((((refl {a = false}, tt), ((refl {a = false}, tt), tt))), ((tt), ((tt), (((tt, tt)), ((tt), ((tt), ((λ h. refl {a = true}), ((tt), ((tt), ((λ h. refl {a = true}), ((record { fill = λ o. int_type; instance = ((λ v. Var v), (λ v h. refl {a = Var v}), refl {a = Var (first 7)}) }), ((refl {a = Arrow (Var (first 7)) (Var (first 7))}), ((tt), (((tt, tt)), ((λ h. refl {a = true}), ((λ h. refl {a = Arrow (Var (first 7)) (Var (first 7))}), ((tt), ((((refl {a = false}, tt), ((refl {a = false}, tt), tt))), ((tt), ((((refl {a = false}, tt), ((refl {a = false}, tt), tt))), ((tt), (((refl {a = false}, tt)), ((tt), ((((refl {a = false}, tt), (refl {a = false}, tt))), ((λ h. refl {a = true}), ((record { fill = λ o. int_type; instance = ((λ v. int_type), (λ v h. absurd (yes_no h)), refl {a = Arrow int_type int_type}) }), ((λ h. refl {a = Arrow int_type int_type}), ((tt), (((refl {a = false}, tt)), ((λ h. refl {a = true}), ((refl {a = int_type}), ((λ h. refl {a = int_type}), ((refl {a = int_type}), ((tt), (((refl {a = false}, tt)), ((tt), ((((refl {a = false}, tt), (refl {a = false}, tt))), ((λ h. refl {a = true}), ((record { fill = λ o. int_type; instance = ((λ v. string_type), (λ v h. absurd (yes_no h)), refl {a = Arrow string_type string_type}) }), ((λ h. refl {a = Arrow string_type string_type}), ((tt), (((refl {a = false}, tt)), ((refl {a = string_type}), ((λ h. refl {a = string_type}), ((refl {a = string_type}), ((refl {a = pair_type}), ((refl {a = pair_type}), ((refl {a = pair_type}), ((tt), ((((refl {a = false}, tt), ((refl {a = false}, tt), tt))), ((λ h. refl {a = true}), ((λ h. refl {a = pair_type}), ((((refl {a = true}, tt), ((refl {a = true}, tt), tt))), tt)))))))))))))))))))))))))))))))))))))))))))))))))))))))) })

typed_9 : HasTyping built_in_names used_twice_tree (up_to used_twice_asked used_twice_kept (site (first 14) 0))
unfolding constant_by pattern_row expression_row type_row module_expression_row module_type_row item_row signature_item_row
typed_9 = (choice.type_at, record { choice = choice; chosen = λ n. refl; holds = ((tt), ((tt), ((tt), ((((refl {a = false}, tt), ((refl {a = false}, tt), tt))), ((tt), ((tt), (((tt, tt)), ((tt), ((tt), ((λ h. refl {a = true}), ((tt), ((tt), ((λ h. refl {a = true}), ((record { fill = λ o. int_type; instance = ((λ v. Var v), (λ v h. refl {a = Var v}), refl {a = Var (first 7)}) }), ((refl {a = Arrow (Var (first 7)) (Var (first 7))}), ((tt), (((tt, tt)), ((λ h. refl {a = true}), ((λ h. refl {a = Arrow (Var (first 7)) (Var (first 7))}), ((tt), ((((refl {a = false}, tt), ((refl {a = false}, tt), tt))), ((tt), ((((refl {a = false}, tt), ((refl {a = false}, tt), tt))), ((tt), (((refl {a = false}, tt)), ((tt), ((((refl {a = false}, tt), (refl {a = false}, tt))), ((λ h. refl {a = true}), ((record { fill = λ o. int_type; instance = ((λ v. int_type), (λ v h. absurd (yes_no h)), refl {a = Arrow int_type int_type}) }), ((λ h. refl {a = Arrow int_type int_type}), ((tt), (((refl {a = false}, tt)), ((λ h. refl {a = true}), ((refl {a = int_type}), ((λ h. refl {a = int_type}), ((refl {a = int_type}), ((tt), (((refl {a = false}, tt)), ((tt), ((((refl {a = false}, tt), (refl {a = false}, tt))), ((λ h. refl {a = true}), ((record { fill = λ o. int_type; instance = ((λ v. string_type), (λ v h. absurd (yes_no h)), refl {a = Arrow string_type string_type}) }), ((λ h. refl {a = Arrow string_type string_type}), ((tt), (((refl {a = false}, tt)), ((refl {a = string_type}), ((λ h. refl {a = string_type}), ((refl {a = string_type}), ((refl {a = pair_type}), ((refl {a = pair_type}), ((refl {a = pair_type}), ((tt), ((((refl {a = false}, tt), ((refl {a = false}, tt), tt))), ((λ h. refl {a = true}), ((λ h. refl {a = pair_type}), ((((refl {a = true}, tt), ((refl {a = true}, tt), tt))), tt)))))))))))))))))))))))))))))))))))))))))))))))))))))))) })

typed_10 : HasTyping built_in_names used_twice_tree (up_to used_twice_asked used_twice_kept (site (first 14) 1))
unfolding constant_by pattern_row expression_row type_row module_expression_row module_type_row item_row signature_item_row
typed_10 = (choice.type_at, record { choice = choice; chosen = λ n. refl; holds = ((tt), ((tt), ((tt), ((((refl {a = false}, tt), ((refl {a = false}, tt), tt))), ((tt), ((tt), (((tt, tt)), ((tt), ((tt), ((λ h. refl {a = true}), ((tt), ((tt), ((λ h. refl {a = true}), ((record { fill = λ o. int_type; instance = ((λ v. Var v), (λ v h. refl {a = Var v}), refl {a = Var (first 7)}) }), ((refl {a = Arrow (Var (first 7)) (Var (first 7))}), ((tt), (((tt, tt)), ((λ h. refl {a = true}), ((λ h. refl {a = Arrow (Var (first 7)) (Var (first 7))}), ((tt), ((((refl {a = false}, tt), ((refl {a = false}, tt), tt))), ((tt), ((((refl {a = false}, tt), ((refl {a = false}, tt), tt))), ((tt), (((refl {a = false}, tt)), ((tt), ((((refl {a = false}, tt), (refl {a = false}, tt))), ((λ h. refl {a = true}), ((record { fill = λ o. int_type; instance = ((λ v. int_type), (λ v h. absurd (yes_no h)), refl {a = Arrow int_type int_type}) }), ((λ h. refl {a = Arrow int_type int_type}), ((tt), (((refl {a = false}, tt)), ((λ h. refl {a = true}), ((refl {a = int_type}), ((λ h. refl {a = int_type}), ((refl {a = int_type}), ((tt), (((refl {a = false}, tt)), ((tt), ((((refl {a = false}, tt), (refl {a = false}, tt))), ((λ h. refl {a = true}), ((record { fill = λ o. int_type; instance = ((λ v. string_type), (λ v h. absurd (yes_no h)), refl {a = Arrow string_type string_type}) }), ((λ h. refl {a = Arrow string_type string_type}), ((tt), (((refl {a = false}, tt)), ((refl {a = string_type}), ((λ h. refl {a = string_type}), ((refl {a = string_type}), ((refl {a = pair_type}), ((refl {a = pair_type}), ((refl {a = pair_type}), ((tt), ((((refl {a = false}, tt), ((refl {a = false}, tt), tt))), ((λ h. refl {a = true}), ((λ h. refl {a = pair_type}), ((((refl {a = true}, tt), ((refl {a = true}, tt), tt))), tt)))))))))))))))))))))))))))))))))))))))))))))))))))))))) })

typed_11 : HasTyping built_in_names used_twice_tree (up_to used_twice_asked used_twice_kept (site (first 2) 0))
unfolding constant_by pattern_row expression_row type_row module_expression_row module_type_row item_row signature_item_row
typed_11 = (choice.type_at, record { choice = choice; chosen = λ n. refl; holds = ((tt), ((tt), ((tt), ((((refl {a = false}, tt), ((refl {a = false}, tt), tt))), ((tt), ((tt), (((tt, tt)), ((tt), ((tt), ((λ h. refl {a = true}), ((tt), ((tt), ((λ h. refl {a = true}), ((record { fill = λ o. int_type; instance = ((λ v. Var v), (λ v h. refl {a = Var v}), refl {a = Var (first 7)}) }), ((refl {a = Arrow (Var (first 7)) (Var (first 7))}), ((tt), (((tt, tt)), ((λ h. refl {a = true}), ((λ h. refl {a = Arrow (Var (first 7)) (Var (first 7))}), ((tt), ((((refl {a = false}, tt), ((refl {a = false}, tt), tt))), ((tt), ((((refl {a = false}, tt), ((refl {a = false}, tt), tt))), ((tt), (((refl {a = false}, tt)), ((tt), ((((refl {a = false}, tt), (refl {a = false}, tt))), ((λ h. refl {a = true}), ((record { fill = λ o. int_type; instance = ((λ v. int_type), (λ v h. absurd (yes_no h)), refl {a = Arrow int_type int_type}) }), ((λ h. refl {a = Arrow int_type int_type}), ((tt), (((refl {a = false}, tt)), ((λ h. refl {a = true}), ((refl {a = int_type}), ((λ h. refl {a = int_type}), ((refl {a = int_type}), ((tt), (((refl {a = false}, tt)), ((tt), ((((refl {a = false}, tt), (refl {a = false}, tt))), ((λ h. refl {a = true}), ((record { fill = λ o. int_type; instance = ((λ v. string_type), (λ v h. absurd (yes_no h)), refl {a = Arrow string_type string_type}) }), ((λ h. refl {a = Arrow string_type string_type}), ((tt), (((refl {a = false}, tt)), ((refl {a = string_type}), ((λ h. refl {a = string_type}), ((refl {a = string_type}), ((refl {a = pair_type}), ((refl {a = pair_type}), ((refl {a = pair_type}), ((tt), ((((refl {a = false}, tt), ((refl {a = false}, tt), tt))), ((λ h. refl {a = true}), ((λ h. refl {a = pair_type}), ((((refl {a = true}, tt), ((refl {a = true}, tt), tt))), tt)))))))))))))))))))))))))))))))))))))))))))))))))))))))) })

typed_12 : HasTyping built_in_names used_twice_tree (up_to used_twice_asked used_twice_kept (site (first 1) 1))
unfolding constant_by pattern_row expression_row type_row module_expression_row module_type_row item_row signature_item_row
typed_12 = (choice.type_at, record { choice = choice; chosen = λ n. refl; holds = ((tt), ((tt), ((tt), ((((refl {a = false}, tt), ((refl {a = false}, tt), tt))), ((tt), ((tt), (((tt, tt)), ((tt), ((tt), ((λ h. refl {a = true}), ((tt), ((tt), ((λ h. refl {a = true}), ((record { fill = λ o. int_type; instance = ((λ v. Var v), (λ v h. refl {a = Var v}), refl {a = Var (first 7)}) }), ((refl {a = Arrow (Var (first 7)) (Var (first 7))}), ((tt), (((tt, tt)), ((λ h. refl {a = true}), ((λ h. refl {a = Arrow (Var (first 7)) (Var (first 7))}), ((tt), ((((refl {a = false}, tt), ((refl {a = false}, tt), tt))), ((tt), ((((refl {a = false}, tt), ((refl {a = false}, tt), tt))), ((tt), (((refl {a = false}, tt)), ((tt), ((((refl {a = false}, tt), (refl {a = false}, tt))), ((λ h. refl {a = true}), ((record { fill = λ o. int_type; instance = ((λ v. int_type), (λ v h. absurd (yes_no h)), refl {a = Arrow int_type int_type}) }), ((λ h. refl {a = Arrow int_type int_type}), ((tt), (((refl {a = false}, tt)), ((λ h. refl {a = true}), ((refl {a = int_type}), ((λ h. refl {a = int_type}), ((refl {a = int_type}), ((tt), (((refl {a = false}, tt)), ((tt), ((((refl {a = false}, tt), (refl {a = false}, tt))), ((λ h. refl {a = true}), ((record { fill = λ o. int_type; instance = ((λ v. string_type), (λ v h. absurd (yes_no h)), refl {a = Arrow string_type string_type}) }), ((λ h. refl {a = Arrow string_type string_type}), ((tt), (((refl {a = false}, tt)), ((refl {a = string_type}), ((λ h. refl {a = string_type}), ((refl {a = string_type}), ((refl {a = pair_type}), ((refl {a = pair_type}), ((refl {a = pair_type}), ((tt), ((((refl {a = false}, tt), ((refl {a = false}, tt), tt))), ((λ h. refl {a = true}), ((λ h. refl {a = pair_type}), ((((refl {a = true}, tt), ((refl {a = true}, tt), tt))), tt)))))))))))))))))))))))))))))))))))))))))))))))))))))))) })

-- the kept demands
pub kept_ones : IsKept built_in_names (parsed used_twice) (kept_at used_twice_kept)
kept_ones =
    subst (λ text. IsKept built_in_names text (kept_at used_twice_kept)) (sym is_parsed)
    (keeps built_in_names used_twice_tree used_twice_asked used_twice_kept all open_ ((refl), ((refl), ((refl), ((refl), ((refl), ((refl), ((refl), ((refl), ((refl), ((refl), ((refl), ((refl), ((refl), tt))))))))))))) ((typed_0), ((typed_1), ((typed_2), ((typed_3), ((typed_4), ((typed_5), ((typed_6), ((typed_7), ((typed_8), ((typed_9), ((typed_10), ((typed_11), ((typed_12), tt)))))))))))))
    ((λ k t. yes_no k), ((λ k t. yes_no k), ((λ k t. yes_no k), ((λ k t. yes_no k), ((λ k t. yes_no k), ((λ k t. yes_no k), ((λ k t. yes_no k), ((λ k t. yes_no k), ((λ k t. yes_no k), ((λ k t. yes_no k), ((λ k t. yes_no k), ((λ k t. yes_no k), ((λ k t. yes_no k), tt))))))))))))))

abbrev letters : List (ℕ × ℕ × Typ)
letters = (first 11, 0, int_type) ∷ (first 11, 1, int_type) ∷ (first 14, 0, string_type) ∷ (first 14, 1, string_type) ∷ []

-- the types are the most general ones
general : IsMostGeneralChoice (kept_at used_twice_kept) (conditions_of built_in_names used_twice_tree (kept_at used_twice_kept)) (open_choice inner_open letters)
unfolding constant_by pattern_row expression_row type_row module_expression_row module_type_row item_row signature_item_row
general = record {
  holds = ((tt), ((tt), ((tt), ((((refl {a = false}, tt), ((refl {a = false}, tt), tt))), ((tt), ((tt), (((tt, tt)), ((tt), ((tt), ((λ h. refl {a = true}), ((tt), ((tt), ((λ h. refl {a = true}), ((record { fill = λ o. int_type; instance = ((λ v. Var v), (λ v h. refl {a = Var v}), refl {a = Var (of_node (first 7))}) }), ((refl {a = Arrow (Var (of_node (first 7))) (Var (of_node (first 7)))}), ((tt), (((tt, tt)), ((λ h. refl {a = true}), ((λ h. refl {a = Arrow (Var (of_node (first 7))) (Var (of_node (first 7)))}), ((tt), ((((refl {a = false}, tt), ((refl {a = false}, tt), tt))), ((tt), ((((refl {a = false}, tt), ((refl {a = false}, tt), tt))), ((tt), (((refl {a = false}, tt)), ((tt), ((((refl {a = false}, tt), (refl {a = false}, tt))), ((λ h. refl {a = true}), ((record { fill = λ o. int_type; instance = ((λ v. int_type), (λ v h. absurd (yes_no h)), refl {a = Arrow int_type int_type}) }), ((λ h. refl {a = Arrow int_type int_type}), ((tt), (((refl {a = false}, tt)), ((λ h. refl {a = true}), ((refl {a = int_type}), ((λ h. refl {a = int_type}), ((refl {a = int_type}), ((tt), (((refl {a = false}, tt)), ((tt), ((((refl {a = false}, tt), (refl {a = false}, tt))), ((λ h. refl {a = true}), ((record { fill = λ o. int_type; instance = ((λ v. string_type), (λ v h. absurd (yes_no h)), refl {a = Arrow string_type string_type}) }), ((λ h. refl {a = Arrow string_type string_type}), ((tt), (((refl {a = false}, tt)), ((refl {a = string_type}), ((λ h. refl {a = string_type}), ((refl {a = string_type}), ((refl {a = pair_type}), ((refl {a = pair_type}), ((refl {a = pair_type}), ((tt), ((((refl {a = false}, tt), ((refl {a = false}, tt), tt))), ((λ h. refl {a = true}), ((λ h. refl {a = pair_type}), ((((refl {a = true}, tt), ((refl {a = true}, tt), tt))), tt))))))))))))))))))))))))))))))))))))))))))))))))))))))));
  general = λ other h.
      let at : ℕ → Typ = other.type_at in
      let l : ℕ → Typ = other.letter (first 11) in
      let m : ℕ → Typ = other.letter (first 14) in
      let x : Typ = put other (of_node (first 7)) in
      let own : at (first 7) ≡ x = sym (put_node other (first 7)) in
      let body : at (first 8) ≡ at (first 7) = use_of_one (at (first 7)) (at (first 8)) h.1.1.1.1.1.1.1.1.0 h.1.1.1.1.1.1.1.1.1.1.1.1.1.0 in
      let function : at (first 6) ≡ Arrow (at (first 7)) (at (first 7)) = h.1.1.1.1.1.1.1.1.1.1.1.1.1.1.0 ∙ ap (Arrow (at (first 7))) body in
      let name : at (first 5) ≡ Arrow (at (first 7)) (at (first 7)) = h.1.1.1.1.1.1.1.1.1.1.1.1.1.1.1.1.1.1.0 refl ∙ function in
      let one = use_of_same (generalised_in built_in_names [] (at (first 5))) (at (first 7)) (at (first 12)) h.1.1.1.1.1.1.1.1.1.1.1.1.1.1.1.1.0 name h.1.1.1.1.1.1.1.1.1.1.1.1.1.1.1.1.1.1.1.1.1.1.1.1.1.1.1.1.0 in
      let two = use_of_same (generalised_in built_in_names [] (at (first 5))) (at (first 7)) (at (first 15)) h.1.1.1.1.1.1.1.1.1.1.1.1.1.1.1.1.0 name h.1.1.1.1.1.1.1.1.1.1.1.1.1.1.1.1.1.1.1.1.1.1.1.1.1.1.1.1.1.1.1.1.1.1.1.1.1.1.1.1.1.0 in
      let int_use = same_applied (at (first 12)) (l 0) (l 1) (at (first 13)) (at (first 11)) one.0 int_type one.1 (h.1.1.1.1.1.1.1.1.1.1.1.1.1.1.1.1.1.1.1.1.1.1.1.1.1.1.1.1.1.0 refl) h.1.1.1.1.1.1.1.1.1.1.1.1.1.1.1.1.1.1.1.1.1.1.1.1.1.1.1.1.1.1.1.1.1.0 (h.1.1.1.1.1.1.1.1.1.1.1.1.1.1.1.1.1.1.1.1.1.1.1.1.1.1.1.1.1.1.1.1.1.1.0 refl) h.1.1.1.1.1.1.1.1.1.1.1.1.1.1.1.1.1.1.1.1.1.1.1.1.1.1.1.1.1.1.1.1.1.1.1.0 in
      let string_use = same_applied (at (first 15)) (m 0) (m 1) (at (first 16)) (at (first 14)) two.0 string_type two.1 (h.1.1.1.1.1.1.1.1.1.1.1.1.1.1.1.1.1.1.1.1.1.1.1.1.1.1.1.1.1.1.1.1.1.1.1.1.1.1.1.1.1.1.0 refl) h.1.1.1.1.1.1.1.1.1.1.1.1.1.1.1.1.1.1.1.1.1.1.1.1.1.1.1.1.1.1.1.1.1.1.1.1.1.1.1.1.1.1.1.1.1.0 (h.1.1.1.1.1.1.1.1.1.1.1.1.1.1.1.1.1.1.1.1.1.1.1.1.1.1.1.1.1.1.1.1.1.1.1.1.1.1.1.1.1.1.1.1.1.1.0 refl) h.1.1.1.1.1.1.1.1.1.1.1.1.1.1.1.1.1.1.1.1.1.1.1.1.1.1.1.1.1.1.1.1.1.1.1.1.1.1.1.1.1.1.1.1.1.1.1.0 in
      let pair : at (first 10) ≡ pair_type = h.1.1.1.1.1.1.1.1.1.1.1.1.1.1.1.1.1.1.1.1.1.1.1.1.1.1.1.1.1.1.1.1.1.1.1.1.1.1.1.1.1.1.1.1.1.1.1.1.0 ∙ ap (λ t. Tuple (Cons t (Cons (at (first 14)) Nil))) int_use.3 ∙ ap (λ t. Tuple (Cons int_type (Cons t Nil))) string_use.3 in
      let inside : at (first 9) ≡ pair_type = h.1.1.1.1.1.1.1.1.1.1.1.1.1.1.1.1.1.1.1.1.1.1.1.1.1.1.1.1.1.1.1.1.1.1.1.1.1.1.1.1.1.1.1.1.1.1.1.1.1.0 ∙ pair in
      let whole : at (first 3) ≡ pair_type = h.1.1.1.1.1.1.1.1.1.1.1.1.1.1.1.1.1.1.1.1.1.1.1.1.1.1.1.1.1.1.1.1.1.1.1.1.1.1.1.1.1.1.1.1.1.1.1.1.1.1.0 ∙ inside in
      let arrow_of_own : Arrow (at (first 7)) (at (first 7)) ≡ Arrow x x = ap (λ t. Arrow t t) own in
      is_instance other inner_open letters (h.1.1.1.1.1.1.1.1.1.1.1.1.1.1.1.1.1.1.1.1.1.1.1.1.1.1.1.1.1.1.1.1.1.1.1.1.1.1.1.1.1.1.1.1.1.1.1.1.1.1.1.1.1.1.0 refl ∙ whole, (whole, (name ∙ arrow_of_own, (function ∙ arrow_of_own, (body ∙ own, (inside, (pair, (int_use.3, (int_use.2, (h.1.1.1.1.1.1.1.1.1.1.1.1.1.1.1.1.1.1.1.1.1.1.1.1.1.1.1.1.1.1.1.1.1.0, (string_use.3, (string_use.2, (h.1.1.1.1.1.1.1.1.1.1.1.1.1.1.1.1.1.1.1.1.1.1.1.1.1.1.1.1.1.1.1.1.1.1.1.1.1.1.1.1.1.1.1.1.1.0, tt))))))))))))) (int_use.0, (int_use.1, (string_use.0, (string_use.1, tt))));
}

pub principal : IsPrincipal built_in_names (parsed used_twice) (kept_at used_twice_kept) (open_types inner_open)
principal =
    subst (λ text. IsPrincipal built_in_names text (kept_at used_twice_kept) (open_types inner_open)) (sym is_parsed)
    (is_principal (kept_at used_twice_kept) (conditions_of built_in_names used_twice_tree (kept_at used_twice_kept)) (open_choice inner_open letters) general)
