-- module M : sig val a : int val b : string end = struct let a = 1 end let c = M.b: its trees, its kept demands, and its fault.
use Rattle.std.proofs.Common.{◌≡◌, ℕ, true, false, List, [], ◌∷◌, codes, Option, Some, None, refl, sym, ◌∙◌, ap, subst}
use Rattle.tree_model.specs.Trees.{Tree, place, no_parts, part, taken, inner}
use Rattle.tree_model.specs.Extents.{node_over}
use Rattle.type_model.specs.Types.{Typ, Var}
use Rattle.typing_model.specs.BuiltIns.{built_in_names, int_type, string_type}
use Rattle.typing_model.specs.Contexts.{Choice}
use Rattle.typing_model.specs.Demands.{Site, site, equal, AllHold}
use Rattle.typing_model.specs.Typings.{conditions_of, no_choice, demands_of, HasTyping, IsMetUpTo, IsKept, IsMostGeneralChoice}
use Rattle.typing_model.specs.Faults.{IsFaultAt}
use Rattle.model_checks.specs.Typings.{first, second, choice_of}
use Rattle.model_checks.specs.Kept.{kept_at}
use Rattle.model_checks.specs.Open.{open_choice}
use Rattle.model_checks.proofs.Apart.{no_yes, yes_no}
use Rattle.model_checks.proofs.Keeping.{up_to, no_closing, keeps, before, is_fault}
use Rattle.model_checks.proofs.Coding.{is_instance}
use Rattle.tree_model.specs.Slots.{is_operand}
use Rattle.grammar_model.specs.Rows.{chain_of, grower_of}
use Rattle.grammar_model.specs.Ocaml.{rows}
use Rattle.grammar_model.specs.Tables.{first_place}
use Rattle.grammar_model.specs.Keys.{kind_key, key_of}
use Rattle.recovery_model.specs.Steps as rules
use Rattle.recovery_model.specs.Recovery.{step, close, recover}
use Rattle.typing_model.specs.BuiltIns.{constant_by}
use Rattle.typing_model.specs.Patterns.{pattern_row}
use Rattle.typing_model.specs.Expressions.{expression_row}
use Rattle.typing_model.specs.TypeExpressions.{type_row}
use Rattle.typing_model.specs.Modules.{module_expression_row, module_type_row, item_row, signature_item_row}
use Rattle.type_model.specs.Schemes.{Scheme}
use Rattle.signature_model.specs.Declarations.{unknown}
use Rattle.signature_model.specs.Signatures.{Signature, Hole, Template, template}
use Rattle.signature_model.specs.Matching.{Meets, structures, value, done, realised_by}
use Rattle.signature_model.specs.Failing.{blame, Absent, first_in}
use Rattle.tree_model.specs.Trees.{Place}
use Rattle.tree_model.specs.Rows.{let_row, binding_row, pname_row, econst_row, epath_row, module_row, ysig_row, val_row, tcon_row, mstruct_row}
use Rattle.token_model.specs.Kinds.{let_word, lower, op9, int, module_word, upper, colon, sig_word, val_word, struct_word, end_word, qualifier}
use Rattle.typing_model.specs.Demands.{Demand, test, agrees, matches, closes, demand_of}
use Rattle.typing_model.specs.Faults.{MeetsFirst, Tells, by_component, mismatches}
use Rattle.model_checks.specs.Texts.{tok, parsed, absent_component}
use Rattle.model_checks.specs.Kept.{absent_component_kept}
use Rattle.model_checks.proofs.Inverting.{matched, structures_met, behind_value, value_found}

-- its tree
abbrev pub absent_component_tree : List Tree
absent_component_tree = (node_over module_row (part 0 (taken (tok module_word 0 6 (codes "module"))) (part 1 (taken (tok upper 7 8 (codes "M"))) (part 7 (taken (tok colon 9 10 (codes ":"))) (part 8 (inner (node_over ysig_row (part 0 (taken (tok sig_word 11 14 (codes "sig"))) (part 1 (inner (node_over val_row (part 0 (taken (tok val_word 15 18 (codes "val"))) (part 1 (taken (tok lower 19 20 (codes "a"))) (part 2 (taken (tok colon 21 22 (codes ":"))) (part 3 (inner (node_over tcon_row (part 1 (taken (tok lower 23 26 (codes "int"))) no_parts))) no_parts)))))) (part 1 (inner (node_over val_row (part 0 (taken (tok val_word 27 30 (codes "val"))) (part 1 (taken (tok lower 31 32 (codes "b"))) (part 2 (taken (tok colon 33 34 (codes ":"))) (part 3 (inner (node_over tcon_row (part 1 (taken (tok lower 35 41 (codes "string"))) no_parts))) no_parts)))))) (part 2 (taken (tok end_word 42 45 (codes "end"))) no_parts)))))) (part 9 (taken (tok op9 46 47 (codes "="))) (part 10 (inner (node_over mstruct_row (part 0 (taken (tok struct_word 48 54 (codes "struct"))) (part 1 (inner (node_over let_row (part 0 (taken (tok let_word 55 58 (codes "let"))) (part 2 (inner (node_over binding_row (part 0 (inner (node_over pname_row (part 0 (taken (tok lower 59 60 (codes "a"))) no_parts))) (part 4 (taken (tok op9 61 62 (codes "="))) (part 5 (inner (node_over econst_row (part 0 (taken (tok int 63 64 (codes "1"))) no_parts))) no_parts))))) no_parts)))) (part 2 (taken (tok end_word 65 68 (codes "end"))) no_parts))))) no_parts))))))) ∷ (node_over let_row (part 0 (taken (tok let_word 69 72 (codes "let"))) (part 2 (inner (node_over binding_row (part 0 (inner (node_over pname_row (part 0 (taken (tok lower 73 74 (codes "c"))) no_parts))) (part 4 (taken (tok op9 75 76 (codes "="))) (part 5 (inner (node_over epath_row (part 0 (taken (tok qualifier 77 79 (codes "M"))) (part 1 (taken (tok lower 79 80 (codes "b"))) no_parts)))) no_parts))))) no_parts))) ∷ []

-- the parser gives it
pub is_parsed : parsed absent_component ≡ absent_component_tree
unfolding recover step close rules.step rows chain_of grower_of first_place kind_key key_of is_operand
is_parsed = refl

-- types that keep other demands, for those of int and of string
abbrev choice : Typ → Typ → Choice
choice t u = choice_of ((first 3, t) ∷ (first 5, u) ∷ (first 9, int_type) ∷ (first 10, int_type) ∷ (second 2, string_type) ∷ (second 3, string_type) ∷ []) (λ n k. Var 0)

-- all demands
abbrev absent_component_asked : List Site
absent_component_asked = site (first 0) 1 ∷ site (first 10) 0 ∷ site (first 9) 0 ∷ site (first 8) 1 ∷ site (first 3) 0 ∷ site (first 3) 1 ∷ site (first 5) 0 ∷ site (first 5) 1 ∷ site (first 0) 0 ∷ site (second 3) 0 ∷ site (second 2) 0 ∷ site (second 1) 1 ∷ []

all : demands_of built_in_names absent_component_tree (kept_at absent_component_kept) ≡ absent_component_asked
unfolding constant_by pattern_row expression_row type_row module_expression_row module_type_row item_row signature_item_row
all = refl

-- no demand is a `closing`
open_ : no_closing (conditions_of built_in_names absent_component_tree (kept_at absent_component_kept) no_choice) ≡ true
unfolding constant_by pattern_row expression_row type_row module_expression_row module_type_row item_row signature_item_row
open_ = refl

-- a typing for each kept demand, with those before it
typed_0 : HasTyping built_in_names absent_component_tree (up_to absent_component_asked absent_component_kept (site (first 0) 1))
unfolding constant_by pattern_row expression_row type_row module_expression_row module_type_row item_row signature_item_row
typed_0 = ((choice (unknown (first 3 ∷ [])) (unknown (first 5 ∷ []))).type_at, record { choice = (choice (unknown (first 3 ∷ [])) (unknown (first 5 ∷ []))); chosen = λ n. refl; holds = ((tt), ((λ h. refl {a = true}), ((tt), ((tt), ((tt), ((tt), (((refl {a = false}, tt)), ((λ h. refl {a = true}), ((refl {a = int_type}), ((tt), (((refl {a = false}, tt)), ((λ h. refl {a = true}), ((λ h. refl {a = int_type}), (((refl {a = true}, tt)), ((tt), ((tt), ((tt), ((λ h. refl {a = true}), ((refl {a = unknown (first 3 ∷ [])}), ((tt), ((tt), ((λ h. refl {a = true}), ((refl {a = unknown (first 5 ∷ [])}), ((λ h. absurd (no_yes h)), ((tt), ((tt), ((tt), (((refl {a = false}, tt)), ((λ h. refl {a = true}), ((tt), (((refl {a = false}, tt)), ((λ h. refl {a = true}), ((λ h. refl {a = string_type}), (((refl {a = true}, tt)), tt)))))))))))))))))))))))))))))))))) })

typed_1 : HasTyping built_in_names absent_component_tree (up_to absent_component_asked absent_component_kept (site (first 10) 0))
unfolding constant_by pattern_row expression_row type_row module_expression_row module_type_row item_row signature_item_row
typed_1 = ((choice (unknown (first 3 ∷ [])) (unknown (first 5 ∷ []))).type_at, record { choice = (choice (unknown (first 3 ∷ [])) (unknown (first 5 ∷ []))); chosen = λ n. refl; holds = ((tt), ((λ h. refl {a = true}), ((tt), ((tt), ((tt), ((tt), (((refl {a = false}, tt)), ((λ h. refl {a = true}), ((refl {a = int_type}), ((tt), (((refl {a = false}, tt)), ((λ h. refl {a = true}), ((λ h. refl {a = int_type}), (((refl {a = true}, tt)), ((tt), ((tt), ((tt), ((λ h. refl {a = true}), ((refl {a = unknown (first 3 ∷ [])}), ((tt), ((tt), ((λ h. refl {a = true}), ((refl {a = unknown (first 5 ∷ [])}), ((λ h. absurd (no_yes h)), ((tt), ((tt), ((tt), (((refl {a = false}, tt)), ((λ h. refl {a = true}), ((tt), (((refl {a = false}, tt)), ((λ h. refl {a = true}), ((λ h. refl {a = string_type}), (((refl {a = true}, tt)), tt)))))))))))))))))))))))))))))))))) })

typed_2 : HasTyping built_in_names absent_component_tree (up_to absent_component_asked absent_component_kept (site (first 9) 0))
unfolding constant_by pattern_row expression_row type_row module_expression_row module_type_row item_row signature_item_row
typed_2 = ((choice (unknown (first 3 ∷ [])) (unknown (first 5 ∷ []))).type_at, record { choice = (choice (unknown (first 3 ∷ [])) (unknown (first 5 ∷ []))); chosen = λ n. refl; holds = ((tt), ((λ h. refl {a = true}), ((tt), ((tt), ((tt), ((tt), (((refl {a = false}, tt)), ((λ h. refl {a = true}), ((refl {a = int_type}), ((tt), (((refl {a = false}, tt)), ((λ h. refl {a = true}), ((λ h. refl {a = int_type}), (((refl {a = true}, tt)), ((tt), ((tt), ((tt), ((λ h. refl {a = true}), ((refl {a = unknown (first 3 ∷ [])}), ((tt), ((tt), ((λ h. refl {a = true}), ((refl {a = unknown (first 5 ∷ [])}), ((λ h. absurd (no_yes h)), ((tt), ((tt), ((tt), (((refl {a = false}, tt)), ((λ h. refl {a = true}), ((tt), (((refl {a = false}, tt)), ((λ h. refl {a = true}), ((λ h. refl {a = string_type}), (((refl {a = true}, tt)), tt)))))))))))))))))))))))))))))))))) })

typed_3 : HasTyping built_in_names absent_component_tree (up_to absent_component_asked absent_component_kept (site (first 8) 1))
unfolding constant_by pattern_row expression_row type_row module_expression_row module_type_row item_row signature_item_row
typed_3 = ((choice (unknown (first 3 ∷ [])) (unknown (first 5 ∷ []))).type_at, record { choice = (choice (unknown (first 3 ∷ [])) (unknown (first 5 ∷ []))); chosen = λ n. refl; holds = ((tt), ((λ h. refl {a = true}), ((tt), ((tt), ((tt), ((tt), (((refl {a = false}, tt)), ((λ h. refl {a = true}), ((refl {a = int_type}), ((tt), (((refl {a = false}, tt)), ((λ h. refl {a = true}), ((λ h. refl {a = int_type}), (((refl {a = true}, tt)), ((tt), ((tt), ((tt), ((λ h. refl {a = true}), ((refl {a = unknown (first 3 ∷ [])}), ((tt), ((tt), ((λ h. refl {a = true}), ((refl {a = unknown (first 5 ∷ [])}), ((λ h. absurd (no_yes h)), ((tt), ((tt), ((tt), (((refl {a = false}, tt)), ((λ h. refl {a = true}), ((tt), (((refl {a = false}, tt)), ((λ h. refl {a = true}), ((λ h. refl {a = string_type}), (((refl {a = true}, tt)), tt)))))))))))))))))))))))))))))))))) })

typed_4 : HasTyping built_in_names absent_component_tree (up_to absent_component_asked absent_component_kept (site (first 3) 0))
unfolding constant_by pattern_row expression_row type_row module_expression_row module_type_row item_row signature_item_row
typed_4 = ((choice (unknown (first 3 ∷ [])) (unknown (first 5 ∷ []))).type_at, record { choice = (choice (unknown (first 3 ∷ [])) (unknown (first 5 ∷ []))); chosen = λ n. refl; holds = ((tt), ((λ h. refl {a = true}), ((tt), ((tt), ((tt), ((tt), (((refl {a = false}, tt)), ((λ h. refl {a = true}), ((refl {a = int_type}), ((tt), (((refl {a = false}, tt)), ((λ h. refl {a = true}), ((λ h. refl {a = int_type}), (((refl {a = true}, tt)), ((tt), ((tt), ((tt), ((λ h. refl {a = true}), ((λ h. refl {a = true}), ((refl {a = unknown (first 3 ∷ [])}), ((tt), ((tt), ((λ h. refl {a = true}), ((refl {a = unknown (first 5 ∷ [])}), ((λ h. absurd (no_yes h)), ((tt), ((tt), ((tt), (((refl {a = false}, tt)), ((λ h. refl {a = true}), ((tt), (((refl {a = false}, tt)), ((λ h. refl {a = true}), ((λ h. refl {a = string_type}), (((refl {a = true}, tt)), tt))))))))))))))))))))))))))))))))))) })

typed_5 : HasTyping built_in_names absent_component_tree (up_to absent_component_asked absent_component_kept (site (first 3) 1))
unfolding constant_by pattern_row expression_row type_row module_expression_row module_type_row item_row signature_item_row
typed_5 = ((choice (int_type) (unknown (first 5 ∷ []))).type_at, record { choice = (choice (int_type) (unknown (first 5 ∷ []))); chosen = λ n. refl; holds = ((tt), ((λ h. refl {a = true}), ((tt), ((tt), ((tt), ((tt), (((refl {a = false}, tt)), ((λ h. refl {a = true}), ((refl {a = int_type}), ((tt), (((refl {a = false}, tt)), ((λ h. refl {a = true}), ((λ h. refl {a = int_type}), (((refl {a = true}, tt)), ((tt), ((tt), ((tt), ((λ h. refl {a = true}), ((λ h. refl {a = true}), ((refl {a = int_type}), ((tt), ((tt), ((λ h. refl {a = true}), ((refl {a = unknown (first 5 ∷ [])}), ((λ h. absurd (no_yes h)), ((tt), ((tt), ((tt), (((refl {a = false}, tt)), ((λ h. refl {a = true}), ((tt), (((refl {a = false}, tt)), ((λ h. refl {a = true}), ((λ h. refl {a = string_type}), (((refl {a = true}, tt)), tt))))))))))))))))))))))))))))))))))) })

typed_6 : HasTyping built_in_names absent_component_tree (up_to absent_component_asked absent_component_kept (site (first 5) 0))
unfolding constant_by pattern_row expression_row type_row module_expression_row module_type_row item_row signature_item_row
typed_6 = ((choice (int_type) (unknown (first 5 ∷ []))).type_at, record { choice = (choice (int_type) (unknown (first 5 ∷ []))); chosen = λ n. refl; holds = ((tt), ((λ h. refl {a = true}), ((tt), ((tt), ((tt), ((tt), (((refl {a = false}, tt)), ((λ h. refl {a = true}), ((refl {a = int_type}), ((tt), (((refl {a = false}, tt)), ((λ h. refl {a = true}), ((λ h. refl {a = int_type}), (((refl {a = true}, tt)), ((tt), ((tt), ((tt), ((λ h. refl {a = true}), ((λ h. refl {a = true}), ((refl {a = int_type}), ((tt), ((tt), ((λ h. refl {a = true}), ((λ h. refl {a = true}), ((refl {a = unknown (first 5 ∷ [])}), ((λ h. absurd (no_yes h)), ((tt), ((tt), ((tt), (((refl {a = false}, tt)), ((λ h. refl {a = true}), ((tt), (((refl {a = false}, tt)), ((λ h. refl {a = true}), ((λ h. refl {a = string_type}), (((refl {a = true}, tt)), tt)))))))))))))))))))))))))))))))))))) })

typed_7 : HasTyping built_in_names absent_component_tree (up_to absent_component_asked absent_component_kept (site (first 5) 1))
unfolding constant_by pattern_row expression_row type_row module_expression_row module_type_row item_row signature_item_row
typed_7 = ((choice (int_type) (string_type)).type_at, record { choice = (choice (int_type) (string_type)); chosen = λ n. refl; holds = ((tt), ((λ h. refl {a = true}), ((tt), ((tt), ((tt), ((tt), (((refl {a = false}, tt)), ((λ h. refl {a = true}), ((refl {a = int_type}), ((tt), (((refl {a = false}, tt)), ((λ h. refl {a = true}), ((λ h. refl {a = int_type}), (((refl {a = true}, tt)), ((tt), ((tt), ((tt), ((λ h. refl {a = true}), ((λ h. refl {a = true}), ((refl {a = int_type}), ((tt), ((tt), ((λ h. refl {a = true}), ((λ h. refl {a = true}), ((refl {a = string_type}), ((λ h. absurd (no_yes h)), ((tt), ((tt), ((tt), (((refl {a = false}, tt)), ((λ h. refl {a = true}), ((tt), (((refl {a = false}, tt)), ((λ h. refl {a = true}), ((λ h. refl {a = string_type}), (((refl {a = true}, tt)), tt)))))))))))))))))))))))))))))))))))) })

typed_9 : HasTyping built_in_names absent_component_tree (up_to absent_component_asked absent_component_kept (site (second 3) 0))
unfolding constant_by pattern_row expression_row type_row module_expression_row module_type_row item_row signature_item_row
typed_9 = ((choice (int_type) (string_type)).type_at, record { choice = (choice (int_type) (string_type)); chosen = λ n. refl; holds = ((tt), ((λ h. refl {a = true}), ((tt), ((tt), ((tt), ((tt), (((refl {a = false}, tt)), ((λ h. refl {a = true}), ((refl {a = int_type}), ((tt), (((refl {a = false}, tt)), ((λ h. refl {a = true}), ((λ h. refl {a = int_type}), (((refl {a = true}, tt)), ((tt), ((tt), ((tt), ((λ h. refl {a = true}), ((λ h. refl {a = true}), ((refl {a = int_type}), ((tt), ((tt), ((λ h. refl {a = true}), ((λ h. refl {a = true}), ((refl {a = string_type}), ((λ h. absurd (no_yes h)), ((tt), ((tt), ((tt), (((refl {a = false}, tt)), ((λ h. refl {a = true}), ((record { fill = λ o. int_type; instance = ((λ v. Var v), (λ v h. absurd (yes_no h)), refl {a = string_type}) }), ((tt), (((refl {a = false}, tt)), ((λ h. refl {a = true}), ((λ h. refl {a = string_type}), (((refl {a = true}, tt)), tt))))))))))))))))))))))))))))))))))))) })

typed_10 : HasTyping built_in_names absent_component_tree (up_to absent_component_asked absent_component_kept (site (second 2) 0))
unfolding constant_by pattern_row expression_row type_row module_expression_row module_type_row item_row signature_item_row
typed_10 = ((choice (int_type) (string_type)).type_at, record { choice = (choice (int_type) (string_type)); chosen = λ n. refl; holds = ((tt), ((λ h. refl {a = true}), ((tt), ((tt), ((tt), ((tt), (((refl {a = false}, tt)), ((λ h. refl {a = true}), ((refl {a = int_type}), ((tt), (((refl {a = false}, tt)), ((λ h. refl {a = true}), ((λ h. refl {a = int_type}), (((refl {a = true}, tt)), ((tt), ((tt), ((tt), ((λ h. refl {a = true}), ((λ h. refl {a = true}), ((refl {a = int_type}), ((tt), ((tt), ((λ h. refl {a = true}), ((λ h. refl {a = true}), ((refl {a = string_type}), ((λ h. absurd (no_yes h)), ((tt), ((tt), ((tt), (((refl {a = false}, tt)), ((λ h. refl {a = true}), ((record { fill = λ o. int_type; instance = ((λ v. Var v), (λ v h. absurd (yes_no h)), refl {a = string_type}) }), ((tt), (((refl {a = false}, tt)), ((λ h. refl {a = true}), ((λ h. refl {a = string_type}), (((refl {a = true}, tt)), tt))))))))))))))))))))))))))))))))))))) })

typed_11 : HasTyping built_in_names absent_component_tree (up_to absent_component_asked absent_component_kept (site (second 1) 1))
unfolding constant_by pattern_row expression_row type_row module_expression_row module_type_row item_row signature_item_row
typed_11 = ((choice (int_type) (string_type)).type_at, record { choice = (choice (int_type) (string_type)); chosen = λ n. refl; holds = ((tt), ((λ h. refl {a = true}), ((tt), ((tt), ((tt), ((tt), (((refl {a = false}, tt)), ((λ h. refl {a = true}), ((refl {a = int_type}), ((tt), (((refl {a = false}, tt)), ((λ h. refl {a = true}), ((λ h. refl {a = int_type}), (((refl {a = true}, tt)), ((tt), ((tt), ((tt), ((λ h. refl {a = true}), ((λ h. refl {a = true}), ((refl {a = int_type}), ((tt), ((tt), ((λ h. refl {a = true}), ((λ h. refl {a = true}), ((refl {a = string_type}), ((λ h. absurd (no_yes h)), ((tt), ((tt), ((tt), (((refl {a = false}, tt)), ((λ h. refl {a = true}), ((record { fill = λ o. int_type; instance = ((λ v. Var v), (λ v h. absurd (yes_no h)), refl {a = string_type}) }), ((tt), (((refl {a = false}, tt)), ((λ h. refl {a = true}), ((λ h. refl {a = string_type}), (((refl {a = true}, tt)), tt))))))))))))))))))))))))))))))))))))) })

-- nothing is a value that isn't found
not_found : {a : Scheme} → ◌≡◌ {A = Option Scheme} None (Some a) → ⊥
not_found e = cc e

-- and none for the one that is refused
refused : IsMetUpTo built_in_names absent_component_tree (up_to absent_component_asked absent_component_kept (site (first 0) 0)) (site (first 0) 0) → ⊥
unfolding constant_by pattern_row expression_row type_row module_expression_row module_type_row item_row signature_item_row
refused t =
    let h = t.holds in
    not_found (value_found (behind_value (structures_met (matched (h.1.1.1.1.1.1.1.1.1.1.1.1.1.1.1.1.1.1.1.1.1.1.1.1.1.0 refl))))).1

-- the kept demands
pub kept_ones : IsKept built_in_names (parsed absent_component) (kept_at absent_component_kept)
kept_ones =
    subst (λ text. IsKept built_in_names text (kept_at absent_component_kept)) (sym is_parsed)
    (keeps built_in_names absent_component_tree absent_component_asked absent_component_kept all open_ ((refl), ((refl), ((refl), ((refl), ((refl), ((refl), ((refl), ((refl), ((refl), ((refl), ((refl), tt))))))))))) ((typed_0), ((typed_1), ((typed_2), ((typed_3), ((typed_4), ((typed_5), ((typed_6), ((typed_7), ((typed_9), ((typed_10), ((typed_11), tt)))))))))))
    ((λ k t. yes_no k), ((λ k t. yes_no k), ((λ k t. yes_no k), ((λ k t. yes_no k), ((λ k t. yes_no k), ((λ k t. yes_no k), ((λ k t. yes_no k), ((λ k t. yes_no k), ((λ k t. refused t), ((λ k t. yes_no k), ((λ k t. yes_no k), ((λ k t. yes_no k), tt)))))))))))))

-- the most general types before the fault
abbrev types : List (ℕ × Typ)
types = (first 3, int_type) ∷ (first 5, string_type) ∷ (first 9, int_type) ∷ (first 10, int_type) ∷ []

holds : AllHold (before absent_component_asked absent_component_kept (site (first 0) 0)) (conditions_of built_in_names absent_component_tree (before absent_component_asked absent_component_kept (site (first 0) 0)) (open_choice types []))
unfolding constant_by pattern_row expression_row type_row module_expression_row module_type_row item_row signature_item_row
holds = ((tt), ((λ h. refl {a = true}), ((tt), ((tt), ((tt), ((tt), (((refl {a = false}, tt)), ((λ h. refl {a = true}), ((refl {a = int_type}), ((tt), (((refl {a = false}, tt)), ((λ h. refl {a = true}), ((λ h. refl {a = int_type}), (((refl {a = true}, tt)), ((tt), ((tt), ((tt), ((λ h. refl {a = true}), ((λ h. refl {a = true}), ((refl {a = int_type}), ((tt), ((tt), ((λ h. refl {a = true}), ((λ h. refl {a = true}), ((refl {a = string_type}), ((λ h. absurd (no_yes h)), ((tt), ((tt), ((tt), ((tt), ((λ h. absurd (no_yes h)), ((tt), ((tt), ((λ h. absurd (no_yes h)), ((λ h. absurd (no_yes h)), ((tt), tt))))))))))))))))))))))))))))))))))))

-- the types are the most general ones
general : IsMostGeneralChoice (before absent_component_asked absent_component_kept (site (first 0) 0)) (conditions_of built_in_names absent_component_tree (before absent_component_asked absent_component_kept (site (first 0) 0))) (open_choice types [])
unfolding constant_by pattern_row expression_row type_row module_expression_row module_type_row item_row signature_item_row
general = record {
  holds = holds;
  general = λ other h.
      let at : ℕ → Typ = other.type_at in
      let one : at (first 10) ≡ int_type = h.1.1.1.1.1.1.1.1.0 in
      is_instance other types [] (h.1.1.1.1.1.1.1.1.1.1.1.1.1.1.1.1.1.1.1.0, (h.1.1.1.1.1.1.1.1.1.1.1.1.1.1.1.1.1.1.1.1.1.1.1.1.0, (h.1.1.1.1.1.1.1.1.1.1.1.1.0 refl ∙ one, (one, tt)))) tt;
}

abbrev actual_in : Option (Place × Demand) → Signature
actual_in None = Hole
actual_in (Some (at, equal t u)) = Hole
actual_in (Some (at, test c b)) = Hole
actual_in (Some (at, agrees c n s t)) = Hole
actual_in (Some (at, matches A W)) = A
actual_in (Some (at, closes e s)) = Hole

abbrev wanted_in : Option (Place × Demand) → Template
wanted_in None = template [] Hole
wanted_in (Some (at, equal t u)) = template [] Hole
wanted_in (Some (at, test c b)) = template [] Hole
wanted_in (Some (at, agrees c n s t)) = template [] Hole
wanted_in (Some (at, matches A W)) = W
wanted_in (Some (at, closes e s)) = template [] Hole

-- the demand of the seal in some types
abbrev sealing : Choice → Option (Place × Demand)
sealing choice = demand_of (site (first 0) 0) (conditions_of built_in_names absent_component_tree (before absent_component_asked absent_component_kept (site (first 0) 0)) choice)

-- its first component is met
first_met : Meets 0 (actual_in (sealing (open_choice types []))) (first_in 1 (realised_by (actual_in (sealing (open_choice types []))) (wanted_in (sealing (open_choice types [])))))
unfolding constant_by pattern_row expression_row type_row module_expression_row module_type_row item_row signature_item_row
first_met = structures (value (record { body = int_type; bound = _ }) refl (record { actual_fill = λ o. int_type; wanted_fill = λ o. int_type; each = λ x h. ((λ v. Var v), (λ v g. refl), h.2) }) done)

-- and never the second one
second_unmet : (choice : Choice) → Meets 0 (actual_in (sealing choice)) (first_in 2 (realised_by (actual_in (sealing choice)) (wanted_in (sealing choice)))) → ⊥
unfolding constant_by pattern_row expression_row type_row module_expression_row module_type_row item_row signature_item_row
second_unmet choice m = not_found (value_found (behind_value (structures_met m))).1

one_met : MeetsFirst built_in_names absent_component_tree (kept_at absent_component_kept) (site (first 0) 0) 1
unfolding constant_by pattern_row expression_row type_row module_expression_row module_type_row item_row signature_item_row
one_met = record {
  choice = open_choice types [];
  holds = subst (λ sites. AllHold (before sites absent_component_kept (site (first 0) 0)) (conditions_of built_in_names absent_component_tree (before sites absent_component_kept (site (first 0) 0)) (open_choice types []))) (sym all) holds;
  at = place 48 68;
  actual = actual_in (sealing (open_choice types []));
  wanted = wanted_in (sealing (open_choice types []));
  stands = subst (λ sites. demand_of (site (first 0) 0) (conditions_of built_in_names absent_component_tree (before sites absent_component_kept (site (first 0) 0)) (open_choice types [])) ≡ Some (place 48 68, matches (actual_in (sealing (open_choice types []))) (wanted_in (sealing (open_choice types []))))) (sym all) refl;
  meets = first_met;
}

two_unmet : MeetsFirst built_in_names absent_component_tree (kept_at absent_component_kept) (site (first 0) 0) 2 → ⊥
two_unmet m =
    let stands : sealing m.choice ≡ Some (m.at, matches m.actual m.wanted) =
    subst (λ sites. demand_of (site (first 0) 0) (conditions_of built_in_names absent_component_tree (before sites absent_component_kept (site (first 0) 0)) m.choice) ≡ Some (m.at, matches m.actual m.wanted)) all m.stands in
    second_unmet m.choice
    (subst (λ W. Meets 0 (actual_in (sealing m.choice)) (first_in 2 (realised_by (actual_in (sealing m.choice)) W))) (sym (ap wanted_in stands))
    (subst (λ A. Meets 0 A (first_in 2 (realised_by A m.wanted))) (sym (ap actual_in stands)) m.meets))

tells : Tells built_in_names absent_component_tree (kept_at absent_component_kept) (site (first 0) 0) (matches (actual_in (sealing (open_choice types []))) (wanted_in (sealing (open_choice types [])))) (mismatches (blame (codes "b" ∷ []) Absent))
unfolding constant_by pattern_row expression_row type_row module_expression_row module_type_row item_row signature_item_row
tells = by_component refl one_met two_unmet refl

-- the fault
pub is_a_fault : IsFaultAt built_in_names (parsed absent_component) (kept_at absent_component_kept) (site (first 0) 0) (record { at = place 48 68; told = mismatches (blame (codes "b" ∷ []) Absent); env = built_in_names })
unfolding constant_by pattern_row expression_row type_row module_expression_row module_type_row item_row signature_item_row
is_a_fault =
    subst (λ text. IsFaultAt built_in_names text (kept_at absent_component_kept) (site (first 0) 0) (record { at = place 48 68; told = mismatches (blame (codes "b" ∷ []) Absent); env = built_in_names })) (sym is_parsed)
    (is_fault built_in_names absent_component_tree absent_component_asked absent_component_kept (site (first 0) 0) (record { at = place 48 68; told = mismatches (blame (codes "b" ∷ []) Absent); env = built_in_names }) (open_choice types []) (matches (actual_in (sealing (open_choice types []))) (wanted_in (sealing (open_choice types [])))) all refl refl general (refl {a = Some (place 48 68, (matches (actual_in (sealing (open_choice types []))) (wanted_in (sealing (open_choice types [])))))}) tells (refl {a = Some built_in_names}))
