-- module M : sig type t val x : t end = struct type t = int let x = 1 end let y = M.x + 1: its trees, its kept demands, and its fault.
use Rattle.std.proofs.Common.{◌≡◌, ℕ, Bool, true, false, List, [], ◌∷◌, codes, Option, Some, None, refl, sym, ◌∙◌, ap, subst, inl, inr}
use Rattle.tree_model.specs.Trees.{Tree, place, no_parts, part, taken, inner}
use Rattle.tree_model.specs.Extents.{node_over}
use Rattle.type_model.specs.Types.{Typ, Var, Arrow, Tuple, Con, Nil}
use Rattle.type_model.specs.Substitutions.{apply}
use Rattle.signature_model.specs.Entries.{Environment}
use Rattle.typing_model.specs.BuiltIns.{built_in_origin, int_type}
use Rattle.typing_model.specs.Contexts.{Choice}
use Rattle.typing_model.specs.Demands.{Site, site, equal, AllHold}
use Rattle.typing_model.specs.Typings.{conditions_of, no_choice, demands_of, HasTyping, IsMetUpTo, IsKept, IsMostGeneralChoice}
use Rattle.typing_model.specs.Faults.{Differ, IsCycle, IsFaultAt, types_differ, plain, apart, by_types}
use Rattle.model_checks.specs.Typings.{first, second}
use Rattle.model_checks.specs.Kept.{kept_at}
use Rattle.model_checks.specs.Open.{of_letter, open_choice}
use Rattle.model_checks.proofs.Apart.{no_yes, yes_no, con_is_no_variable}
use Rattle.model_checks.proofs.Keeping.{up_to, no_closing, keeps, before, is_fault}
use Rattle.model_checks.proofs.Coding.{is_instance, put_letter}
use Rattle.tree_model.specs.Slots.{is_operand}
use Rattle.grammar_model.specs.Rows.{chain_of, grower_of}
use Rattle.grammar_model.specs.Ocaml.{rows}
use Rattle.grammar_model.specs.Tables.{first_place}
use Rattle.grammar_model.specs.Keys.{kind_key, key_of}
use Rattle.recovery_model.specs.Steps as rules
use Rattle.recovery_model.specs.Recovery.{step, close, recover}
use Rattle.typing_model.specs.BuiltIns.{constant_by}
use Rattle.typing_model.specs.Patterns.{pattern_row}
use Rattle.typing_model.specs.Expressions.{expression_row}
use Rattle.typing_model.specs.TypeExpressions as type_expressions
use Rattle.typing_model.specs.Modules.{module_expression_row, module_type_row, item_row, signature_item_row}
use Rattle.type_model.specs.Origins.{same_path}
use Rattle.signature_model.specs.Declarations.{unknown, Is, Opaque}
use Rattle.signature_model.specs.Changes.{change, in_front}
use Rattle.signature_model.specs.Matching.{Matches, filling, structures, type_name, value, done}
use Rattle.signature_model.specs.Matching as matching
use Rattle.tree_model.specs.Rows as rows_of
use Rattle.tree_model.specs.Rows.{let_row, binding_row, pname_row, econst_row, epath_row, infix_row, module_row, ysig_row, val_row, tcon_row, mstruct_row, decl_row, head_row, alias_row}
use Rattle.token_model.specs.Kinds.{let_word, lower, op9, op12, int, module_word, upper, colon, sig_word, val_word, struct_word, end_word, qualifier, type_word}
use Rattle.typing_model.specs.Demands.{environment_of}
use Rattle.model_checks.specs.Scopes.{with_plus}
use Rattle.model_checks.specs.Texts.{tok, parsed, sealed_type}
use Rattle.model_checks.specs.Kept.{sealed_type_kept}
use Rattle.model_checks.proofs.Later.{left, right}

-- its tree
abbrev pub sealed_type_tree : List Tree
sealed_type_tree = (node_over module_row (part 0 (taken (tok module_word 0 6 (codes "module"))) (part 1 (taken (tok upper 7 8 (codes "M"))) (part 7 (taken (tok colon 9 10 (codes ":"))) (part 8 (inner (node_over ysig_row (part 0 (taken (tok sig_word 11 14 (codes "sig"))) (part 1 (inner (node_over rows_of.type_row (part 0 (taken (tok type_word 15 19 (codes "type"))) (part 2 (inner (node_over decl_row (part 0 (inner (node_over head_row (part 4 (taken (tok lower 20 21 (codes "t"))) no_parts))) no_parts))) no_parts)))) (part 1 (inner (node_over val_row (part 0 (taken (tok val_word 22 25 (codes "val"))) (part 1 (taken (tok lower 26 27 (codes "x"))) (part 2 (taken (tok colon 28 29 (codes ":"))) (part 3 (inner (node_over tcon_row (part 1 (taken (tok lower 30 31 (codes "t"))) no_parts))) no_parts)))))) (part 2 (taken (tok end_word 32 35 (codes "end"))) no_parts)))))) (part 9 (taken (tok op9 36 37 (codes "="))) (part 10 (inner (node_over mstruct_row (part 0 (taken (tok struct_word 38 44 (codes "struct"))) (part 1 (inner (node_over rows_of.type_row (part 0 (taken (tok type_word 45 49 (codes "type"))) (part 2 (inner (node_over decl_row (part 0 (inner (node_over head_row (part 4 (taken (tok lower 50 51 (codes "t"))) no_parts))) (part 1 (taken (tok op9 52 53 (codes "="))) (part 2 (inner (node_over alias_row (part 0 (inner (node_over tcon_row (part 1 (taken (tok lower 54 57 (codes "int"))) no_parts))) no_parts))) no_parts))))) no_parts)))) (part 1 (inner (node_over let_row (part 0 (taken (tok let_word 58 61 (codes "let"))) (part 2 (inner (node_over binding_row (part 0 (inner (node_over pname_row (part 0 (taken (tok lower 62 63 (codes "x"))) no_parts))) (part 4 (taken (tok op9 64 65 (codes "="))) (part 5 (inner (node_over econst_row (part 0 (taken (tok int 66 67 (codes "1"))) no_parts))) no_parts))))) no_parts)))) (part 2 (taken (tok end_word 68 71 (codes "end"))) no_parts)))))) no_parts))))))) ∷ (node_over let_row (part 0 (taken (tok let_word 72 75 (codes "let"))) (part 2 (inner (node_over binding_row (part 0 (inner (node_over pname_row (part 0 (taken (tok lower 76 77 (codes "y"))) no_parts))) (part 4 (taken (tok op9 78 79 (codes "="))) (part 5 (inner (node_over infix_row (part 0 (inner (node_over epath_row (part 0 (taken (tok qualifier 80 82 (codes "M"))) (part 1 (taken (tok lower 82 83 (codes "x"))) no_parts)))) (part 1 (taken (tok op12 84 85 (codes "+"))) (part 2 (inner (node_over econst_row (part 0 (taken (tok int 86 87 (codes "1"))) no_parts))) no_parts))))) no_parts))))) no_parts))) ∷ []

pub is_parsed : parsed sealed_type ≡ sealed_type_tree
unfolding recover step close rules.step rows chain_of grower_of first_place kind_key key_of is_operand
is_parsed = refl

-- types that keep other demands, for those of int and of t
abbrev choice : Typ → Typ → Choice
choice t u = open_choice ((first 6, u) ∷ (first 12, t) ∷ (first 15, int_type) ∷ (first 16, int_type) ∷ (second 2, int_type) ∷ (second 3, int_type) ∷ (second 4, Con (first 0 ∷ first 3 ∷ []) Nil) ∷ (second 5, int_type) ∷ []) ((second 3, 0, Arrow int_type (Arrow int_type int_type)) ∷ (second 3, 1, int_type) ∷ (second 3, 2, Arrow int_type int_type) ∷ (second 3, 3, int_type) ∷ (second 3, 4, int_type) ∷ [])

-- all demands
abbrev sealed_type_asked : List Site
sealed_type_asked = site (first 0) 1 ∷ site (first 9) 0 ∷ site (first 12) 0 ∷ site (first 12) 1 ∷ site (first 11) 0 ∷ site (first 16) 0 ∷ site (first 15) 0 ∷ site (first 14) 1 ∷ site (first 3) 0 ∷ site (first 6) 0 ∷ site (first 6) 1 ∷ site (first 0) 0 ∷ site (second 3) 0 ∷ site (second 3) 1 ∷ site (second 4) 0 ∷ site (second 3) 2 ∷ site (second 3) 3 ∷ site (second 5) 0 ∷ site (second 3) 4 ∷ site (second 2) 0 ∷ site (second 1) 1 ∷ []

all : demands_of with_plus sealed_type_tree (kept_at sealed_type_kept) ≡ sealed_type_asked
unfolding constant_by pattern_row expression_row type_expressions.type_row module_expression_row module_type_row item_row signature_item_row
all = refl

-- no demand is a `closing`
open_ : no_closing (conditions_of with_plus sealed_type_tree (kept_at sealed_type_kept) no_choice) ≡ true
unfolding constant_by pattern_row expression_row type_expressions.type_row module_expression_row module_type_row item_row signature_item_row
open_ = refl

-- a typing for each kept demand, with those before it
typed_0 : HasTyping with_plus sealed_type_tree (up_to sealed_type_asked sealed_type_kept (site (first 0) 1))
unfolding constant_by pattern_row expression_row type_expressions.type_row module_expression_row module_type_row item_row signature_item_row
typed_0 = ((choice (unknown (first 12 ∷ [])) (unknown (first 6 ∷ []))).type_at, record { choice = (choice (unknown (first 12 ∷ [])) (unknown (first 6 ∷ []))); chosen = λ n. refl; holds = ((tt), ((λ h. refl {a = true}), ((tt), ((tt), ((λ h. refl {a = true}), ((tt), ((tt), ((tt), ((λ h. refl {a = true}), ((refl {a = unknown (first 12 ∷ [])}), ((λ h. refl {a = true}), ((tt), ((tt), ((tt), (((refl {a = false}, tt)), ((λ h. refl {a = true}), ((refl {a = int_type}), ((tt), (((refl {a = false}, tt)), ((λ h. refl {a = true}), ((λ h. refl {a = int_type}), (((refl {a = true}, tt)), ((tt), ((tt), ((λ h. refl {a = true}), ((tt), ((tt), ((tt), ((λ h. refl {a = true}), ((refl {a = unknown (first 6 ∷ [])}), ((λ h. absurd (no_yes h)), ((tt), ((tt), ((tt), (((refl {a = false}, tt)), ((λ h. refl {a = true}), ((λ h. refl {a = Arrow int_type (Arrow int_type int_type)}), ((tt), (((refl {a = false}, tt)), ((λ h. refl {a = true}), ((λ h. absurd (no_yes h)), ((λ h. refl {a = Arrow int_type int_type}), ((tt), (((refl {a = false}, tt)), ((λ h. refl {a = true}), ((refl {a = int_type}), ((λ h. refl {a = int_type}), ((refl {a = int_type}), ((tt), (((refl {a = false}, tt)), ((λ h. refl {a = true}), ((λ h. refl {a = int_type}), (((refl {a = true}, tt)), tt))))))))))))))))))))))))))))))))))))))))))))))))))))) })

typed_1 : HasTyping with_plus sealed_type_tree (up_to sealed_type_asked sealed_type_kept (site (first 9) 0))
unfolding constant_by pattern_row expression_row type_expressions.type_row module_expression_row module_type_row item_row signature_item_row
typed_1 = ((choice (unknown (first 12 ∷ [])) (unknown (first 6 ∷ []))).type_at, record { choice = (choice (unknown (first 12 ∷ [])) (unknown (first 6 ∷ []))); chosen = λ n. refl; holds = ((tt), ((λ h. refl {a = true}), ((tt), ((tt), ((λ h. refl {a = true}), ((tt), ((tt), ((tt), ((λ h. refl {a = true}), ((refl {a = unknown (first 12 ∷ [])}), ((λ h. refl {a = true}), ((tt), ((tt), ((tt), (((refl {a = false}, tt)), ((λ h. refl {a = true}), ((refl {a = int_type}), ((tt), (((refl {a = false}, tt)), ((λ h. refl {a = true}), ((λ h. refl {a = int_type}), (((refl {a = true}, tt)), ((tt), ((tt), ((λ h. refl {a = true}), ((tt), ((tt), ((tt), ((λ h. refl {a = true}), ((refl {a = unknown (first 6 ∷ [])}), ((λ h. absurd (no_yes h)), ((tt), ((tt), ((tt), (((refl {a = false}, tt)), ((λ h. refl {a = true}), ((λ h. refl {a = Arrow int_type (Arrow int_type int_type)}), ((tt), (((refl {a = false}, tt)), ((λ h. refl {a = true}), ((λ h. absurd (no_yes h)), ((λ h. refl {a = Arrow int_type int_type}), ((tt), (((refl {a = false}, tt)), ((λ h. refl {a = true}), ((refl {a = int_type}), ((λ h. refl {a = int_type}), ((refl {a = int_type}), ((tt), (((refl {a = false}, tt)), ((λ h. refl {a = true}), ((λ h. refl {a = int_type}), (((refl {a = true}, tt)), tt))))))))))))))))))))))))))))))))))))))))))))))))))))) })

typed_2 : HasTyping with_plus sealed_type_tree (up_to sealed_type_asked sealed_type_kept (site (first 12) 0))
unfolding constant_by pattern_row expression_row type_expressions.type_row module_expression_row module_type_row item_row signature_item_row
typed_2 = ((choice (unknown (first 12 ∷ [])) (unknown (first 6 ∷ []))).type_at, record { choice = (choice (unknown (first 12 ∷ [])) (unknown (first 6 ∷ []))); chosen = λ n. refl; holds = ((tt), ((λ h. refl {a = true}), ((tt), ((tt), ((λ h. refl {a = true}), ((tt), ((tt), ((tt), ((λ h. refl {a = true}), ((λ h. refl {a = true}), ((refl {a = unknown (first 12 ∷ [])}), ((λ h. refl {a = true}), ((tt), ((tt), ((tt), (((refl {a = false}, tt)), ((λ h. refl {a = true}), ((refl {a = int_type}), ((tt), (((refl {a = false}, tt)), ((λ h. refl {a = true}), ((λ h. refl {a = int_type}), (((refl {a = true}, tt)), ((tt), ((tt), ((λ h. refl {a = true}), ((tt), ((tt), ((tt), ((λ h. refl {a = true}), ((refl {a = unknown (first 6 ∷ [])}), ((λ h. absurd (no_yes h)), ((tt), ((tt), ((tt), (((refl {a = false}, tt)), ((λ h. refl {a = true}), ((λ h. refl {a = Arrow int_type (Arrow int_type int_type)}), ((tt), (((refl {a = false}, tt)), ((λ h. refl {a = true}), ((λ h. absurd (no_yes h)), ((λ h. refl {a = Arrow int_type int_type}), ((tt), (((refl {a = false}, tt)), ((λ h. refl {a = true}), ((refl {a = int_type}), ((λ h. refl {a = int_type}), ((refl {a = int_type}), ((tt), (((refl {a = false}, tt)), ((λ h. refl {a = true}), ((λ h. refl {a = int_type}), (((refl {a = true}, tt)), tt)))))))))))))))))))))))))))))))))))))))))))))))))))))) })

typed_3 : HasTyping with_plus sealed_type_tree (up_to sealed_type_asked sealed_type_kept (site (first 12) 1))
unfolding constant_by pattern_row expression_row type_expressions.type_row module_expression_row module_type_row item_row signature_item_row
typed_3 = ((choice (int_type) (unknown (first 6 ∷ []))).type_at, record { choice = (choice (int_type) (unknown (first 6 ∷ []))); chosen = λ n. refl; holds = ((tt), ((λ h. refl {a = true}), ((tt), ((tt), ((λ h. refl {a = true}), ((tt), ((tt), ((tt), ((λ h. refl {a = true}), ((λ h. refl {a = true}), ((refl {a = int_type}), ((λ h. refl {a = true}), ((tt), ((tt), ((tt), (((refl {a = false}, tt)), ((λ h. refl {a = true}), ((refl {a = int_type}), ((tt), (((refl {a = false}, tt)), ((λ h. refl {a = true}), ((λ h. refl {a = int_type}), (((refl {a = true}, tt)), ((tt), ((tt), ((λ h. refl {a = true}), ((tt), ((tt), ((tt), ((λ h. refl {a = true}), ((refl {a = unknown (first 6 ∷ [])}), ((λ h. absurd (no_yes h)), ((tt), ((tt), ((tt), (((refl {a = false}, tt)), ((λ h. refl {a = true}), ((λ h. refl {a = Arrow int_type (Arrow int_type int_type)}), ((tt), (((refl {a = false}, tt)), ((λ h. refl {a = true}), ((λ h. absurd (no_yes h)), ((λ h. refl {a = Arrow int_type int_type}), ((tt), (((refl {a = false}, tt)), ((λ h. refl {a = true}), ((refl {a = int_type}), ((λ h. refl {a = int_type}), ((refl {a = int_type}), ((tt), (((refl {a = false}, tt)), ((λ h. refl {a = true}), ((λ h. refl {a = int_type}), (((refl {a = true}, tt)), tt)))))))))))))))))))))))))))))))))))))))))))))))))))))) })

typed_4 : HasTyping with_plus sealed_type_tree (up_to sealed_type_asked sealed_type_kept (site (first 11) 0))
unfolding constant_by pattern_row expression_row type_expressions.type_row module_expression_row module_type_row item_row signature_item_row
typed_4 = ((choice (int_type) (unknown (first 6 ∷ []))).type_at, record { choice = (choice (int_type) (unknown (first 6 ∷ []))); chosen = λ n. refl; holds = ((tt), ((λ h. refl {a = true}), ((tt), ((tt), ((λ h. refl {a = true}), ((tt), ((tt), ((tt), ((λ h. refl {a = true}), ((λ h. refl {a = true}), ((refl {a = int_type}), ((λ h. refl {a = true}), ((tt), ((tt), ((tt), (((refl {a = false}, tt)), ((λ h. refl {a = true}), ((refl {a = int_type}), ((tt), (((refl {a = false}, tt)), ((λ h. refl {a = true}), ((λ h. refl {a = int_type}), (((refl {a = true}, tt)), ((tt), ((tt), ((λ h. refl {a = true}), ((tt), ((tt), ((tt), ((λ h. refl {a = true}), ((refl {a = unknown (first 6 ∷ [])}), ((λ h. absurd (no_yes h)), ((tt), ((tt), ((tt), (((refl {a = false}, tt)), ((λ h. refl {a = true}), ((λ h. refl {a = Arrow int_type (Arrow int_type int_type)}), ((tt), (((refl {a = false}, tt)), ((λ h. refl {a = true}), ((λ h. absurd (no_yes h)), ((λ h. refl {a = Arrow int_type int_type}), ((tt), (((refl {a = false}, tt)), ((λ h. refl {a = true}), ((refl {a = int_type}), ((λ h. refl {a = int_type}), ((refl {a = int_type}), ((tt), (((refl {a = false}, tt)), ((λ h. refl {a = true}), ((λ h. refl {a = int_type}), (((refl {a = true}, tt)), tt)))))))))))))))))))))))))))))))))))))))))))))))))))))) })

typed_5 : HasTyping with_plus sealed_type_tree (up_to sealed_type_asked sealed_type_kept (site (first 16) 0))
unfolding constant_by pattern_row expression_row type_expressions.type_row module_expression_row module_type_row item_row signature_item_row
typed_5 = ((choice (int_type) (unknown (first 6 ∷ []))).type_at, record { choice = (choice (int_type) (unknown (first 6 ∷ []))); chosen = λ n. refl; holds = ((tt), ((λ h. refl {a = true}), ((tt), ((tt), ((λ h. refl {a = true}), ((tt), ((tt), ((tt), ((λ h. refl {a = true}), ((λ h. refl {a = true}), ((refl {a = int_type}), ((λ h. refl {a = true}), ((tt), ((tt), ((tt), (((refl {a = false}, tt)), ((λ h. refl {a = true}), ((refl {a = int_type}), ((tt), (((refl {a = false}, tt)), ((λ h. refl {a = true}), ((λ h. refl {a = int_type}), (((refl {a = true}, tt)), ((tt), ((tt), ((λ h. refl {a = true}), ((tt), ((tt), ((tt), ((λ h. refl {a = true}), ((refl {a = unknown (first 6 ∷ [])}), ((λ h. absurd (no_yes h)), ((tt), ((tt), ((tt), (((refl {a = false}, tt)), ((λ h. refl {a = true}), ((λ h. refl {a = Arrow int_type (Arrow int_type int_type)}), ((tt), (((refl {a = false}, tt)), ((λ h. refl {a = true}), ((λ h. absurd (no_yes h)), ((λ h. refl {a = Arrow int_type int_type}), ((tt), (((refl {a = false}, tt)), ((λ h. refl {a = true}), ((refl {a = int_type}), ((λ h. refl {a = int_type}), ((refl {a = int_type}), ((tt), (((refl {a = false}, tt)), ((λ h. refl {a = true}), ((λ h. refl {a = int_type}), (((refl {a = true}, tt)), tt)))))))))))))))))))))))))))))))))))))))))))))))))))))) })

typed_6 : HasTyping with_plus sealed_type_tree (up_to sealed_type_asked sealed_type_kept (site (first 15) 0))
unfolding constant_by pattern_row expression_row type_expressions.type_row module_expression_row module_type_row item_row signature_item_row
typed_6 = ((choice (int_type) (unknown (first 6 ∷ []))).type_at, record { choice = (choice (int_type) (unknown (first 6 ∷ []))); chosen = λ n. refl; holds = ((tt), ((λ h. refl {a = true}), ((tt), ((tt), ((λ h. refl {a = true}), ((tt), ((tt), ((tt), ((λ h. refl {a = true}), ((λ h. refl {a = true}), ((refl {a = int_type}), ((λ h. refl {a = true}), ((tt), ((tt), ((tt), (((refl {a = false}, tt)), ((λ h. refl {a = true}), ((refl {a = int_type}), ((tt), (((refl {a = false}, tt)), ((λ h. refl {a = true}), ((λ h. refl {a = int_type}), (((refl {a = true}, tt)), ((tt), ((tt), ((λ h. refl {a = true}), ((tt), ((tt), ((tt), ((λ h. refl {a = true}), ((refl {a = unknown (first 6 ∷ [])}), ((λ h. absurd (no_yes h)), ((tt), ((tt), ((tt), (((refl {a = false}, tt)), ((λ h. refl {a = true}), ((λ h. refl {a = Arrow int_type (Arrow int_type int_type)}), ((tt), (((refl {a = false}, tt)), ((λ h. refl {a = true}), ((λ h. absurd (no_yes h)), ((λ h. refl {a = Arrow int_type int_type}), ((tt), (((refl {a = false}, tt)), ((λ h. refl {a = true}), ((refl {a = int_type}), ((λ h. refl {a = int_type}), ((refl {a = int_type}), ((tt), (((refl {a = false}, tt)), ((λ h. refl {a = true}), ((λ h. refl {a = int_type}), (((refl {a = true}, tt)), tt)))))))))))))))))))))))))))))))))))))))))))))))))))))) })

typed_7 : HasTyping with_plus sealed_type_tree (up_to sealed_type_asked sealed_type_kept (site (first 14) 1))
unfolding constant_by pattern_row expression_row type_expressions.type_row module_expression_row module_type_row item_row signature_item_row
typed_7 = ((choice (int_type) (unknown (first 6 ∷ []))).type_at, record { choice = (choice (int_type) (unknown (first 6 ∷ []))); chosen = λ n. refl; holds = ((tt), ((λ h. refl {a = true}), ((tt), ((tt), ((λ h. refl {a = true}), ((tt), ((tt), ((tt), ((λ h. refl {a = true}), ((λ h. refl {a = true}), ((refl {a = int_type}), ((λ h. refl {a = true}), ((tt), ((tt), ((tt), (((refl {a = false}, tt)), ((λ h. refl {a = true}), ((refl {a = int_type}), ((tt), (((refl {a = false}, tt)), ((λ h. refl {a = true}), ((λ h. refl {a = int_type}), (((refl {a = true}, tt)), ((tt), ((tt), ((λ h. refl {a = true}), ((tt), ((tt), ((tt), ((λ h. refl {a = true}), ((refl {a = unknown (first 6 ∷ [])}), ((λ h. absurd (no_yes h)), ((tt), ((tt), ((tt), (((refl {a = false}, tt)), ((λ h. refl {a = true}), ((λ h. refl {a = Arrow int_type (Arrow int_type int_type)}), ((tt), (((refl {a = false}, tt)), ((λ h. refl {a = true}), ((λ h. absurd (no_yes h)), ((λ h. refl {a = Arrow int_type int_type}), ((tt), (((refl {a = false}, tt)), ((λ h. refl {a = true}), ((refl {a = int_type}), ((λ h. refl {a = int_type}), ((refl {a = int_type}), ((tt), (((refl {a = false}, tt)), ((λ h. refl {a = true}), ((λ h. refl {a = int_type}), (((refl {a = true}, tt)), tt)))))))))))))))))))))))))))))))))))))))))))))))))))))) })

typed_8 : HasTyping with_plus sealed_type_tree (up_to sealed_type_asked sealed_type_kept (site (first 3) 0))
unfolding constant_by pattern_row expression_row type_expressions.type_row module_expression_row module_type_row item_row signature_item_row
typed_8 = ((choice (int_type) (unknown (first 6 ∷ []))).type_at, record { choice = (choice (int_type) (unknown (first 6 ∷ []))); chosen = λ n. refl; holds = ((tt), ((λ h. refl {a = true}), ((tt), ((tt), ((λ h. refl {a = true}), ((tt), ((tt), ((tt), ((λ h. refl {a = true}), ((λ h. refl {a = true}), ((refl {a = int_type}), ((λ h. refl {a = true}), ((tt), ((tt), ((tt), (((refl {a = false}, tt)), ((λ h. refl {a = true}), ((refl {a = int_type}), ((tt), (((refl {a = false}, tt)), ((λ h. refl {a = true}), ((λ h. refl {a = int_type}), (((refl {a = true}, tt)), ((tt), ((tt), ((λ h. refl {a = true}), ((tt), ((tt), ((tt), ((λ h. refl {a = true}), ((refl {a = unknown (first 6 ∷ [])}), ((λ h. absurd (no_yes h)), ((tt), ((tt), ((tt), (((refl {a = false}, tt)), ((λ h. refl {a = true}), ((λ h. refl {a = Arrow int_type (Arrow int_type int_type)}), ((tt), (((refl {a = false}, tt)), ((λ h. refl {a = true}), ((λ h. absurd (no_yes h)), ((λ h. refl {a = Arrow int_type int_type}), ((tt), (((refl {a = false}, tt)), ((λ h. refl {a = true}), ((refl {a = int_type}), ((λ h. refl {a = int_type}), ((refl {a = int_type}), ((tt), (((refl {a = false}, tt)), ((λ h. refl {a = true}), ((λ h. refl {a = int_type}), (((refl {a = true}, tt)), tt)))))))))))))))))))))))))))))))))))))))))))))))))))))) })

typed_9 : HasTyping with_plus sealed_type_tree (up_to sealed_type_asked sealed_type_kept (site (first 6) 0))
unfolding constant_by pattern_row expression_row type_expressions.type_row module_expression_row module_type_row item_row signature_item_row
typed_9 = ((choice (int_type) (unknown (first 6 ∷ []))).type_at, record { choice = (choice (int_type) (unknown (first 6 ∷ []))); chosen = λ n. refl; holds = ((tt), ((λ h. refl {a = true}), ((tt), ((tt), ((λ h. refl {a = true}), ((tt), ((tt), ((tt), ((λ h. refl {a = true}), ((λ h. refl {a = true}), ((refl {a = int_type}), ((λ h. refl {a = true}), ((tt), ((tt), ((tt), (((refl {a = false}, tt)), ((λ h. refl {a = true}), ((refl {a = int_type}), ((tt), (((refl {a = false}, tt)), ((λ h. refl {a = true}), ((λ h. refl {a = int_type}), (((refl {a = true}, tt)), ((tt), ((tt), ((λ h. refl {a = true}), ((tt), ((tt), ((tt), ((λ h. refl {a = true}), ((λ h. refl {a = true}), ((refl {a = unknown (first 6 ∷ [])}), ((λ h. absurd (no_yes h)), ((tt), ((tt), ((tt), (((refl {a = false}, tt)), ((λ h. refl {a = true}), ((λ h. refl {a = Arrow int_type (Arrow int_type int_type)}), ((tt), (((refl {a = false}, tt)), ((λ h. refl {a = true}), ((λ h. absurd (no_yes h)), ((λ h. refl {a = Arrow int_type int_type}), ((tt), (((refl {a = false}, tt)), ((λ h. refl {a = true}), ((refl {a = int_type}), ((λ h. refl {a = int_type}), ((refl {a = int_type}), ((tt), (((refl {a = false}, tt)), ((λ h. refl {a = true}), ((λ h. refl {a = int_type}), (((refl {a = true}, tt)), tt))))))))))))))))))))))))))))))))))))))))))))))))))))))) })

typed_10 : HasTyping with_plus sealed_type_tree (up_to sealed_type_asked sealed_type_kept (site (first 6) 1))
unfolding constant_by pattern_row expression_row type_expressions.type_row module_expression_row module_type_row item_row signature_item_row
typed_10 = ((choice (int_type) (Con (first 3 ∷ []) Nil)).type_at, record { choice = (choice (int_type) (Con (first 3 ∷ []) Nil)); chosen = λ n. refl; holds = ((tt), ((λ h. refl {a = true}), ((tt), ((tt), ((λ h. refl {a = true}), ((tt), ((tt), ((tt), ((λ h. refl {a = true}), ((λ h. refl {a = true}), ((refl {a = int_type}), ((λ h. refl {a = true}), ((tt), ((tt), ((tt), (((refl {a = false}, tt)), ((λ h. refl {a = true}), ((refl {a = int_type}), ((tt), (((refl {a = false}, tt)), ((λ h. refl {a = true}), ((λ h. refl {a = int_type}), (((refl {a = true}, tt)), ((tt), ((tt), ((λ h. refl {a = true}), ((tt), ((tt), ((tt), ((λ h. refl {a = true}), ((λ h. refl {a = true}), ((refl {a = Con (first 3 ∷ []) Nil}), ((λ h. absurd (no_yes h)), ((tt), ((tt), ((tt), (((refl {a = false}, tt)), ((λ h. refl {a = true}), ((λ h. refl {a = Arrow int_type (Arrow int_type int_type)}), ((tt), (((refl {a = false}, tt)), ((λ h. refl {a = true}), ((λ h. absurd (no_yes h)), ((λ h. refl {a = Arrow int_type int_type}), ((tt), (((refl {a = false}, tt)), ((λ h. refl {a = true}), ((refl {a = int_type}), ((λ h. refl {a = int_type}), ((refl {a = int_type}), ((tt), (((refl {a = false}, tt)), ((λ h. refl {a = true}), ((λ h. refl {a = int_type}), (((refl {a = true}, tt)), tt))))))))))))))))))))))))))))))))))))))))))))))))))))))) })

typed_11 : HasTyping with_plus sealed_type_tree (up_to sealed_type_asked sealed_type_kept (site (first 0) 0))
unfolding constant_by pattern_row expression_row type_expressions.type_row module_expression_row module_type_row item_row signature_item_row
typed_11 = ((choice (int_type) (Con (first 3 ∷ []) Nil)).type_at, record { choice = (choice (int_type) (Con (first 3 ∷ []) Nil)); chosen = λ n. refl; holds = ((tt), ((λ h. refl {a = true}), ((tt), ((tt), ((λ h. refl {a = true}), ((tt), ((tt), ((tt), ((λ h. refl {a = true}), ((λ h. refl {a = true}), ((refl {a = int_type}), ((λ h. refl {a = true}), ((tt), ((tt), ((tt), (((refl {a = false}, tt)), ((λ h. refl {a = true}), ((refl {a = int_type}), ((tt), (((refl {a = false}, tt)), ((λ h. refl {a = true}), ((λ h. refl {a = int_type}), (((refl {a = true}, tt)), ((tt), ((tt), ((λ h. refl {a = true}), ((tt), ((tt), ((tt), ((λ h. refl {a = true}), ((λ h. refl {a = true}), ((refl {a = Con (first 3 ∷ []) Nil}), ((λ h. matching.matches (structures (type_name (record { arity = 0; definition = Is int_type; shape = Opaque }) refl (record { arity = refl; same = record { left = λ o. int_type; right = λ o. int_type; closed_left = λ o v h. refl; closed_right = λ o v h. refl; same = refl }; shape = tt }) (value (record { body = int_type; bound = _ }) refl (record { actual_fill = λ o. int_type; wanted_fill = λ o. int_type; each = λ x h. ((λ v. Var v), (λ v g. refl), h.2) }) done)))), ((tt), ((tt), ((tt), (((refl {a = false}, tt)), ((λ h. refl {a = true}), ((λ h. refl {a = Arrow int_type (Arrow int_type int_type)}), ((tt), (((refl {a = false}, tt)), ((λ h. refl {a = true}), ((λ h. absurd (no_yes h)), ((λ h. refl {a = Arrow int_type int_type}), ((tt), (((refl {a = false}, tt)), ((λ h. refl {a = true}), ((refl {a = int_type}), ((λ h. refl {a = int_type}), ((refl {a = int_type}), ((tt), (((refl {a = false}, tt)), ((λ h. refl {a = true}), ((λ h. refl {a = int_type}), (((refl {a = true}, tt)), tt))))))))))))))))))))))))))))))))))))))))))))))))))))))) })

typed_12 : HasTyping with_plus sealed_type_tree (up_to sealed_type_asked sealed_type_kept (site (second 3) 0))
unfolding constant_by pattern_row expression_row type_expressions.type_row module_expression_row module_type_row item_row signature_item_row
typed_12 = ((choice (int_type) (Con (first 3 ∷ []) Nil)).type_at, record { choice = (choice (int_type) (Con (first 3 ∷ []) Nil)); chosen = λ n. refl; holds = ((tt), ((λ h. refl {a = true}), ((tt), ((tt), ((λ h. refl {a = true}), ((tt), ((tt), ((tt), ((λ h. refl {a = true}), ((λ h. refl {a = true}), ((refl {a = int_type}), ((λ h. refl {a = true}), ((tt), ((tt), ((tt), (((refl {a = false}, tt)), ((λ h. refl {a = true}), ((refl {a = int_type}), ((tt), (((refl {a = false}, tt)), ((λ h. refl {a = true}), ((λ h. refl {a = int_type}), (((refl {a = true}, tt)), ((tt), ((tt), ((λ h. refl {a = true}), ((tt), ((tt), ((tt), ((λ h. refl {a = true}), ((λ h. refl {a = true}), ((refl {a = Con (first 3 ∷ []) Nil}), ((λ h. matching.matches (structures (type_name (record { arity = 0; definition = Is int_type; shape = Opaque }) refl (record { arity = refl; same = record { left = λ o. int_type; right = λ o. int_type; closed_left = λ o v h. refl; closed_right = λ o v h. refl; same = refl }; shape = tt }) (value (record { body = int_type; bound = _ }) refl (record { actual_fill = λ o. int_type; wanted_fill = λ o. int_type; each = λ x h. ((λ v. Var v), (λ v g. refl), h.2) }) done)))), ((tt), ((tt), ((tt), (((refl {a = false}, tt)), ((λ h. refl {a = true}), ((record { fill = λ o. int_type; instance = ((λ v. Var v), (λ v h. absurd (yes_no h)), refl {a = Arrow int_type (Arrow int_type int_type)}) }), ((λ h. refl {a = Arrow int_type (Arrow int_type int_type)}), ((tt), (((refl {a = false}, tt)), ((λ h. refl {a = true}), ((λ h. absurd (no_yes h)), ((λ h. refl {a = Arrow int_type int_type}), ((tt), (((refl {a = false}, tt)), ((λ h. refl {a = true}), ((refl {a = int_type}), ((λ h. refl {a = int_type}), ((refl {a = int_type}), ((tt), (((refl {a = false}, tt)), ((λ h. refl {a = true}), ((λ h. refl {a = int_type}), (((refl {a = true}, tt)), tt)))))))))))))))))))))))))))))))))))))))))))))))))))))))) })

typed_13 : HasTyping with_plus sealed_type_tree (up_to sealed_type_asked sealed_type_kept (site (second 3) 1))
unfolding constant_by pattern_row expression_row type_expressions.type_row module_expression_row module_type_row item_row signature_item_row
typed_13 = ((choice (int_type) (Con (first 3 ∷ []) Nil)).type_at, record { choice = (choice (int_type) (Con (first 3 ∷ []) Nil)); chosen = λ n. refl; holds = ((tt), ((λ h. refl {a = true}), ((tt), ((tt), ((λ h. refl {a = true}), ((tt), ((tt), ((tt), ((λ h. refl {a = true}), ((λ h. refl {a = true}), ((refl {a = int_type}), ((λ h. refl {a = true}), ((tt), ((tt), ((tt), (((refl {a = false}, tt)), ((λ h. refl {a = true}), ((refl {a = int_type}), ((tt), (((refl {a = false}, tt)), ((λ h. refl {a = true}), ((λ h. refl {a = int_type}), (((refl {a = true}, tt)), ((tt), ((tt), ((λ h. refl {a = true}), ((tt), ((tt), ((tt), ((λ h. refl {a = true}), ((λ h. refl {a = true}), ((refl {a = Con (first 3 ∷ []) Nil}), ((λ h. matching.matches (structures (type_name (record { arity = 0; definition = Is int_type; shape = Opaque }) refl (record { arity = refl; same = record { left = λ o. int_type; right = λ o. int_type; closed_left = λ o v h. refl; closed_right = λ o v h. refl; same = refl }; shape = tt }) (value (record { body = int_type; bound = _ }) refl (record { actual_fill = λ o. int_type; wanted_fill = λ o. int_type; each = λ x h. ((λ v. Var v), (λ v g. refl), h.2) }) done)))), ((tt), ((tt), ((tt), (((refl {a = false}, tt)), ((λ h. refl {a = true}), ((record { fill = λ o. int_type; instance = ((λ v. Var v), (λ v h. absurd (yes_no h)), refl {a = Arrow int_type (Arrow int_type int_type)}) }), ((λ h. refl {a = Arrow int_type (Arrow int_type int_type)}), ((tt), (((refl {a = false}, tt)), ((λ h. refl {a = true}), ((λ h. absurd (no_yes h)), ((λ h. refl {a = Arrow int_type int_type}), ((tt), (((refl {a = false}, tt)), ((λ h. refl {a = true}), ((refl {a = int_type}), ((λ h. refl {a = int_type}), ((refl {a = int_type}), ((tt), (((refl {a = false}, tt)), ((λ h. refl {a = true}), ((λ h. refl {a = int_type}), (((refl {a = true}, tt)), tt)))))))))))))))))))))))))))))))))))))))))))))))))))))))) })

typed_14 : HasTyping with_plus sealed_type_tree (up_to sealed_type_asked sealed_type_kept (site (second 4) 0))
unfolding constant_by pattern_row expression_row type_expressions.type_row module_expression_row module_type_row item_row signature_item_row
typed_14 = ((choice (int_type) (Con (first 3 ∷ []) Nil)).type_at, record { choice = (choice (int_type) (Con (first 3 ∷ []) Nil)); chosen = λ n. refl; holds = ((tt), ((λ h. refl {a = true}), ((tt), ((tt), ((λ h. refl {a = true}), ((tt), ((tt), ((tt), ((λ h. refl {a = true}), ((λ h. refl {a = true}), ((refl {a = int_type}), ((λ h. refl {a = true}), ((tt), ((tt), ((tt), (((refl {a = false}, tt)), ((λ h. refl {a = true}), ((refl {a = int_type}), ((tt), (((refl {a = false}, tt)), ((λ h. refl {a = true}), ((λ h. refl {a = int_type}), (((refl {a = true}, tt)), ((tt), ((tt), ((λ h. refl {a = true}), ((tt), ((tt), ((tt), ((λ h. refl {a = true}), ((λ h. refl {a = true}), ((refl {a = Con (first 3 ∷ []) Nil}), ((λ h. matching.matches (structures (type_name (record { arity = 0; definition = Is int_type; shape = Opaque }) refl (record { arity = refl; same = record { left = λ o. int_type; right = λ o. int_type; closed_left = λ o v h. refl; closed_right = λ o v h. refl; same = refl }; shape = tt }) (value (record { body = int_type; bound = _ }) refl (record { actual_fill = λ o. int_type; wanted_fill = λ o. int_type; each = λ x h. ((λ v. Var v), (λ v g. refl), h.2) }) done)))), ((tt), ((tt), ((tt), (((refl {a = false}, tt)), ((λ h. refl {a = true}), ((record { fill = λ o. int_type; instance = ((λ v. Var v), (λ v h. absurd (yes_no h)), refl {a = Arrow int_type (Arrow int_type int_type)}) }), ((λ h. refl {a = Arrow int_type (Arrow int_type int_type)}), ((tt), (((refl {a = false}, tt)), ((λ h. refl {a = true}), ((record { fill = λ o. int_type; instance = ((λ v. Var v), (λ v h. absurd (yes_no h)), refl {a = Con (first 0 ∷ first 3 ∷ []) Nil}) }), ((λ h. absurd (no_yes h)), ((λ h. refl {a = Arrow int_type int_type}), ((tt), (((refl {a = false}, tt)), ((λ h. refl {a = true}), ((refl {a = int_type}), ((λ h. refl {a = int_type}), ((refl {a = int_type}), ((tt), (((refl {a = false}, tt)), ((λ h. refl {a = true}), ((λ h. refl {a = int_type}), (((refl {a = true}, tt)), tt))))))))))))))))))))))))))))))))))))))))))))))))))))))))) })

typed_16 : HasTyping with_plus sealed_type_tree (up_to sealed_type_asked sealed_type_kept (site (second 3) 3))
unfolding constant_by pattern_row expression_row type_expressions.type_row module_expression_row module_type_row item_row signature_item_row
typed_16 = ((choice (int_type) (Con (first 3 ∷ []) Nil)).type_at, record { choice = (choice (int_type) (Con (first 3 ∷ []) Nil)); chosen = λ n. refl; holds = ((tt), ((λ h. refl {a = true}), ((tt), ((tt), ((λ h. refl {a = true}), ((tt), ((tt), ((tt), ((λ h. refl {a = true}), ((λ h. refl {a = true}), ((refl {a = int_type}), ((λ h. refl {a = true}), ((tt), ((tt), ((tt), (((refl {a = false}, tt)), ((λ h. refl {a = true}), ((refl {a = int_type}), ((tt), (((refl {a = false}, tt)), ((λ h. refl {a = true}), ((λ h. refl {a = int_type}), (((refl {a = true}, tt)), ((tt), ((tt), ((λ h. refl {a = true}), ((tt), ((tt), ((tt), ((λ h. refl {a = true}), ((λ h. refl {a = true}), ((refl {a = Con (first 3 ∷ []) Nil}), ((λ h. matching.matches (structures (type_name (record { arity = 0; definition = Is int_type; shape = Opaque }) refl (record { arity = refl; same = record { left = λ o. int_type; right = λ o. int_type; closed_left = λ o v h. refl; closed_right = λ o v h. refl; same = refl }; shape = tt }) (value (record { body = int_type; bound = _ }) refl (record { actual_fill = λ o. int_type; wanted_fill = λ o. int_type; each = λ x h. ((λ v. Var v), (λ v g. refl), h.2) }) done)))), ((tt), ((tt), ((tt), (((refl {a = false}, tt)), ((λ h. refl {a = true}), ((record { fill = λ o. int_type; instance = ((λ v. Var v), (λ v h. absurd (yes_no h)), refl {a = Arrow int_type (Arrow int_type int_type)}) }), ((λ h. refl {a = Arrow int_type (Arrow int_type int_type)}), ((tt), (((refl {a = false}, tt)), ((λ h. refl {a = true}), ((record { fill = λ o. int_type; instance = ((λ v. Var v), (λ v h. absurd (yes_no h)), refl {a = Con (first 0 ∷ first 3 ∷ []) Nil}) }), ((λ h. absurd (no_yes h)), ((λ h. refl {a = Arrow int_type int_type}), ((tt), (((refl {a = false}, tt)), ((λ h. refl {a = true}), ((refl {a = int_type}), ((λ h. refl {a = int_type}), ((refl {a = int_type}), ((tt), (((refl {a = false}, tt)), ((λ h. refl {a = true}), ((λ h. refl {a = int_type}), (((refl {a = true}, tt)), tt))))))))))))))))))))))))))))))))))))))))))))))))))))))))) })

typed_17 : HasTyping with_plus sealed_type_tree (up_to sealed_type_asked sealed_type_kept (site (second 5) 0))
unfolding constant_by pattern_row expression_row type_expressions.type_row module_expression_row module_type_row item_row signature_item_row
typed_17 = ((choice (int_type) (Con (first 3 ∷ []) Nil)).type_at, record { choice = (choice (int_type) (Con (first 3 ∷ []) Nil)); chosen = λ n. refl; holds = ((tt), ((λ h. refl {a = true}), ((tt), ((tt), ((λ h. refl {a = true}), ((tt), ((tt), ((tt), ((λ h. refl {a = true}), ((λ h. refl {a = true}), ((refl {a = int_type}), ((λ h. refl {a = true}), ((tt), ((tt), ((tt), (((refl {a = false}, tt)), ((λ h. refl {a = true}), ((refl {a = int_type}), ((tt), (((refl {a = false}, tt)), ((λ h. refl {a = true}), ((λ h. refl {a = int_type}), (((refl {a = true}, tt)), ((tt), ((tt), ((λ h. refl {a = true}), ((tt), ((tt), ((tt), ((λ h. refl {a = true}), ((λ h. refl {a = true}), ((refl {a = Con (first 3 ∷ []) Nil}), ((λ h. matching.matches (structures (type_name (record { arity = 0; definition = Is int_type; shape = Opaque }) refl (record { arity = refl; same = record { left = λ o. int_type; right = λ o. int_type; closed_left = λ o v h. refl; closed_right = λ o v h. refl; same = refl }; shape = tt }) (value (record { body = int_type; bound = _ }) refl (record { actual_fill = λ o. int_type; wanted_fill = λ o. int_type; each = λ x h. ((λ v. Var v), (λ v g. refl), h.2) }) done)))), ((tt), ((tt), ((tt), (((refl {a = false}, tt)), ((λ h. refl {a = true}), ((record { fill = λ o. int_type; instance = ((λ v. Var v), (λ v h. absurd (yes_no h)), refl {a = Arrow int_type (Arrow int_type int_type)}) }), ((λ h. refl {a = Arrow int_type (Arrow int_type int_type)}), ((tt), (((refl {a = false}, tt)), ((λ h. refl {a = true}), ((record { fill = λ o. int_type; instance = ((λ v. Var v), (λ v h. absurd (yes_no h)), refl {a = Con (first 0 ∷ first 3 ∷ []) Nil}) }), ((λ h. absurd (no_yes h)), ((λ h. refl {a = Arrow int_type int_type}), ((tt), (((refl {a = false}, tt)), ((λ h. refl {a = true}), ((refl {a = int_type}), ((λ h. refl {a = int_type}), ((refl {a = int_type}), ((tt), (((refl {a = false}, tt)), ((λ h. refl {a = true}), ((λ h. refl {a = int_type}), (((refl {a = true}, tt)), tt))))))))))))))))))))))))))))))))))))))))))))))))))))))))) })

typed_18 : HasTyping with_plus sealed_type_tree (up_to sealed_type_asked sealed_type_kept (site (second 3) 4))
unfolding constant_by pattern_row expression_row type_expressions.type_row module_expression_row module_type_row item_row signature_item_row
typed_18 = ((choice (int_type) (Con (first 3 ∷ []) Nil)).type_at, record { choice = (choice (int_type) (Con (first 3 ∷ []) Nil)); chosen = λ n. refl; holds = ((tt), ((λ h. refl {a = true}), ((tt), ((tt), ((λ h. refl {a = true}), ((tt), ((tt), ((tt), ((λ h. refl {a = true}), ((λ h. refl {a = true}), ((refl {a = int_type}), ((λ h. refl {a = true}), ((tt), ((tt), ((tt), (((refl {a = false}, tt)), ((λ h. refl {a = true}), ((refl {a = int_type}), ((tt), (((refl {a = false}, tt)), ((λ h. refl {a = true}), ((λ h. refl {a = int_type}), (((refl {a = true}, tt)), ((tt), ((tt), ((λ h. refl {a = true}), ((tt), ((tt), ((tt), ((λ h. refl {a = true}), ((λ h. refl {a = true}), ((refl {a = Con (first 3 ∷ []) Nil}), ((λ h. matching.matches (structures (type_name (record { arity = 0; definition = Is int_type; shape = Opaque }) refl (record { arity = refl; same = record { left = λ o. int_type; right = λ o. int_type; closed_left = λ o v h. refl; closed_right = λ o v h. refl; same = refl }; shape = tt }) (value (record { body = int_type; bound = _ }) refl (record { actual_fill = λ o. int_type; wanted_fill = λ o. int_type; each = λ x h. ((λ v. Var v), (λ v g. refl), h.2) }) done)))), ((tt), ((tt), ((tt), (((refl {a = false}, tt)), ((λ h. refl {a = true}), ((record { fill = λ o. int_type; instance = ((λ v. Var v), (λ v h. absurd (yes_no h)), refl {a = Arrow int_type (Arrow int_type int_type)}) }), ((λ h. refl {a = Arrow int_type (Arrow int_type int_type)}), ((tt), (((refl {a = false}, tt)), ((λ h. refl {a = true}), ((record { fill = λ o. int_type; instance = ((λ v. Var v), (λ v h. absurd (yes_no h)), refl {a = Con (first 0 ∷ first 3 ∷ []) Nil}) }), ((λ h. absurd (no_yes h)), ((λ h. refl {a = Arrow int_type int_type}), ((tt), (((refl {a = false}, tt)), ((λ h. refl {a = true}), ((refl {a = int_type}), ((λ h. refl {a = int_type}), ((refl {a = int_type}), ((tt), (((refl {a = false}, tt)), ((λ h. refl {a = true}), ((λ h. refl {a = int_type}), (((refl {a = true}, tt)), tt))))))))))))))))))))))))))))))))))))))))))))))))))))))))) })

typed_19 : HasTyping with_plus sealed_type_tree (up_to sealed_type_asked sealed_type_kept (site (second 2) 0))
unfolding constant_by pattern_row expression_row type_expressions.type_row module_expression_row module_type_row item_row signature_item_row
typed_19 = ((choice (int_type) (Con (first 3 ∷ []) Nil)).type_at, record { choice = (choice (int_type) (Con (first 3 ∷ []) Nil)); chosen = λ n. refl; holds = ((tt), ((λ h. refl {a = true}), ((tt), ((tt), ((λ h. refl {a = true}), ((tt), ((tt), ((tt), ((λ h. refl {a = true}), ((λ h. refl {a = true}), ((refl {a = int_type}), ((λ h. refl {a = true}), ((tt), ((tt), ((tt), (((refl {a = false}, tt)), ((λ h. refl {a = true}), ((refl {a = int_type}), ((tt), (((refl {a = false}, tt)), ((λ h. refl {a = true}), ((λ h. refl {a = int_type}), (((refl {a = true}, tt)), ((tt), ((tt), ((λ h. refl {a = true}), ((tt), ((tt), ((tt), ((λ h. refl {a = true}), ((λ h. refl {a = true}), ((refl {a = Con (first 3 ∷ []) Nil}), ((λ h. matching.matches (structures (type_name (record { arity = 0; definition = Is int_type; shape = Opaque }) refl (record { arity = refl; same = record { left = λ o. int_type; right = λ o. int_type; closed_left = λ o v h. refl; closed_right = λ o v h. refl; same = refl }; shape = tt }) (value (record { body = int_type; bound = _ }) refl (record { actual_fill = λ o. int_type; wanted_fill = λ o. int_type; each = λ x h. ((λ v. Var v), (λ v g. refl), h.2) }) done)))), ((tt), ((tt), ((tt), (((refl {a = false}, tt)), ((λ h. refl {a = true}), ((record { fill = λ o. int_type; instance = ((λ v. Var v), (λ v h. absurd (yes_no h)), refl {a = Arrow int_type (Arrow int_type int_type)}) }), ((λ h. refl {a = Arrow int_type (Arrow int_type int_type)}), ((tt), (((refl {a = false}, tt)), ((λ h. refl {a = true}), ((record { fill = λ o. int_type; instance = ((λ v. Var v), (λ v h. absurd (yes_no h)), refl {a = Con (first 0 ∷ first 3 ∷ []) Nil}) }), ((λ h. absurd (no_yes h)), ((λ h. refl {a = Arrow int_type int_type}), ((tt), (((refl {a = false}, tt)), ((λ h. refl {a = true}), ((refl {a = int_type}), ((λ h. refl {a = int_type}), ((refl {a = int_type}), ((tt), (((refl {a = false}, tt)), ((λ h. refl {a = true}), ((λ h. refl {a = int_type}), (((refl {a = true}, tt)), tt))))))))))))))))))))))))))))))))))))))))))))))))))))))))) })

typed_20 : HasTyping with_plus sealed_type_tree (up_to sealed_type_asked sealed_type_kept (site (second 1) 1))
unfolding constant_by pattern_row expression_row type_expressions.type_row module_expression_row module_type_row item_row signature_item_row
typed_20 = ((choice (int_type) (Con (first 3 ∷ []) Nil)).type_at, record { choice = (choice (int_type) (Con (first 3 ∷ []) Nil)); chosen = λ n. refl; holds = ((tt), ((λ h. refl {a = true}), ((tt), ((tt), ((λ h. refl {a = true}), ((tt), ((tt), ((tt), ((λ h. refl {a = true}), ((λ h. refl {a = true}), ((refl {a = int_type}), ((λ h. refl {a = true}), ((tt), ((tt), ((tt), (((refl {a = false}, tt)), ((λ h. refl {a = true}), ((refl {a = int_type}), ((tt), (((refl {a = false}, tt)), ((λ h. refl {a = true}), ((λ h. refl {a = int_type}), (((refl {a = true}, tt)), ((tt), ((tt), ((λ h. refl {a = true}), ((tt), ((tt), ((tt), ((λ h. refl {a = true}), ((λ h. refl {a = true}), ((refl {a = Con (first 3 ∷ []) Nil}), ((λ h. matching.matches (structures (type_name (record { arity = 0; definition = Is int_type; shape = Opaque }) refl (record { arity = refl; same = record { left = λ o. int_type; right = λ o. int_type; closed_left = λ o v h. refl; closed_right = λ o v h. refl; same = refl }; shape = tt }) (value (record { body = int_type; bound = _ }) refl (record { actual_fill = λ o. int_type; wanted_fill = λ o. int_type; each = λ x h. ((λ v. Var v), (λ v g. refl), h.2) }) done)))), ((tt), ((tt), ((tt), (((refl {a = false}, tt)), ((λ h. refl {a = true}), ((record { fill = λ o. int_type; instance = ((λ v. Var v), (λ v h. absurd (yes_no h)), refl {a = Arrow int_type (Arrow int_type int_type)}) }), ((λ h. refl {a = Arrow int_type (Arrow int_type int_type)}), ((tt), (((refl {a = false}, tt)), ((λ h. refl {a = true}), ((record { fill = λ o. int_type; instance = ((λ v. Var v), (λ v h. absurd (yes_no h)), refl {a = Con (first 0 ∷ first 3 ∷ []) Nil}) }), ((λ h. absurd (no_yes h)), ((λ h. refl {a = Arrow int_type int_type}), ((tt), (((refl {a = false}, tt)), ((λ h. refl {a = true}), ((refl {a = int_type}), ((λ h. refl {a = int_type}), ((refl {a = int_type}), ((tt), (((refl {a = false}, tt)), ((λ h. refl {a = true}), ((λ h. refl {a = int_type}), (((refl {a = true}, tt)), tt))))))))))))))))))))))))))))))))))))))))))))))))))))))))) })

-- whether a type is int
abbrev is_int : Typ → Bool
is_int (Var v) = false
is_int (Arrow a b) = false
is_int (Tuple ts) = false
is_int (Con o ts) = same_path o (built_in_origin 0)

not_int : Con (first 0 ∷ first 3 ∷ []) Nil ≡ int_type → ⊥
not_int e = no_yes (ap is_int e)

-- and none for the one that is refused
refused : IsMetUpTo with_plus sealed_type_tree (up_to sealed_type_asked sealed_type_kept (site (second 3) 2)) (site (second 3) 2) → ⊥
unfolding constant_by pattern_row expression_row type_expressions.type_row module_expression_row module_type_row item_row signature_item_row
refused t =
    let h = t.holds in
    let at : ℕ → Typ = t.choice.type_at in
    let used : at (second 4) ≡ Con (first 0 ∷ first 3 ∷ []) Nil = h.1.1.1.1.1.1.1.1.1.1.1.1.1.1.1.1.1.1.1.1.1.1.1.1.1.1.1.1.1.1.1.1.1.1.1.1.1.1.1.1.1.1.1.0.instance.2 ∙ ap (λ t. apply h.1.1.1.1.1.1.1.1.1.1.1.1.1.1.1.1.1.1.1.1.1.1.1.1.1.1.1.1.1.1.1.1.1.1.1.1.1.1.1.1.1.1.1.0.instance.0 (change (filling h.1.1.1.1.1.1.1.1.1.1.1.1.1.1.1.1.1.1.1.1.1.1.1.1.1.1.1.1.1.1.1.1.1.1.1.1.1.1.1.1.1.1.1.0.fill) (change (in_front ((first 3 ∷ []) ∷ []) (first 0)) t))) h.1.1.1.1.1.1.1.1.1.1.1.1.1.1.1.1.1.1.1.1.1.1.1.1.1.1.1.1.1.1.1.0 in
    not_int (sym used ∙ h.1.1.1.1.1.1.1.1.1.1.1.1.1.1.1.1.1.1.1.1.1.1.1.1.1.1.1.1.1.1.1.1.1.1.1.1.1.1.1.1.1.1.1.1.0 refl ∙ ap left (sym (h.1.1.1.1.1.1.1.1.1.1.1.1.1.1.1.1.1.1.1.1.1.1.1.1.1.1.1.1.1.1.1.1.1.1.1.1.1.1.1.0 refl) ∙ h.1.1.1.1.1.1.1.1.1.1.1.1.1.1.1.1.1.1.1.1.1.1.1.1.1.1.1.1.1.1.1.1.1.1.1.1.1.1.0.instance.2))

-- the kept demands
pub kept_ones : IsKept with_plus (parsed sealed_type) (kept_at sealed_type_kept)
kept_ones =
    subst (λ text. IsKept with_plus text (kept_at sealed_type_kept)) (sym is_parsed)
    (keeps with_plus sealed_type_tree sealed_type_asked sealed_type_kept all open_ ((refl), ((refl), ((refl), ((refl), ((refl), ((refl), ((refl), ((refl), ((refl), ((refl), ((refl), ((refl), ((refl), ((refl), ((refl), ((refl), ((refl), ((refl), ((refl), ((refl), tt)))))))))))))))))))) ((typed_0), ((typed_1), ((typed_2), ((typed_3), ((typed_4), ((typed_5), ((typed_6), ((typed_7), ((typed_8), ((typed_9), ((typed_10), ((typed_11), ((typed_12), ((typed_13), ((typed_14), ((typed_16), ((typed_17), ((typed_18), ((typed_19), ((typed_20), tt))))))))))))))))))))
    ((λ k t. yes_no k), ((λ k t. yes_no k), ((λ k t. yes_no k), ((λ k t. yes_no k), ((λ k t. yes_no k), ((λ k t. yes_no k), ((λ k t. yes_no k), ((λ k t. yes_no k), ((λ k t. yes_no k), ((λ k t. yes_no k), ((λ k t. yes_no k), ((λ k t. yes_no k), ((λ k t. yes_no k), ((λ k t. yes_no k), ((λ k t. yes_no k), ((λ k t. refused t), ((λ k t. yes_no k), ((λ k t. yes_no k), ((λ k t. yes_no k), ((λ k t. yes_no k), ((λ k t. yes_no k), tt))))))))))))))))))))))

-- the most general types before the fault
abbrev types : List (ℕ × Typ)
types = (first 6, Con (first 3 ∷ []) Nil) ∷ (first 12, int_type) ∷ (first 15, int_type) ∷ (first 16, int_type) ∷ (second 3, Var (of_letter (second 3) 4)) ∷ (second 4, Con (first 0 ∷ first 3 ∷ []) Nil) ∷ (second 5, int_type) ∷ []

abbrev letters : List (ℕ × ℕ × Typ)
letters = (second 3, 0, Arrow int_type (Arrow int_type int_type)) ∷ (second 3, 1, int_type) ∷ (second 3, 2, Arrow int_type int_type) ∷ []

holds : AllHold (before sealed_type_asked sealed_type_kept (site (second 3) 2)) (conditions_of with_plus sealed_type_tree (before sealed_type_asked sealed_type_kept (site (second 3) 2)) (open_choice types letters))
unfolding constant_by pattern_row expression_row type_expressions.type_row module_expression_row module_type_row item_row signature_item_row
holds = ((tt), ((λ h. refl {a = true}), ((tt), ((tt), ((λ h. refl {a = true}), ((tt), ((tt), ((tt), ((λ h. refl {a = true}), ((λ h. refl {a = true}), ((refl {a = int_type}), ((λ h. refl {a = true}), ((tt), ((tt), ((tt), (((refl {a = false}, tt)), ((λ h. refl {a = true}), ((refl {a = int_type}), ((tt), (((refl {a = false}, tt)), ((λ h. refl {a = true}), ((λ h. refl {a = int_type}), (((refl {a = true}, tt)), ((tt), ((tt), ((λ h. refl {a = true}), ((tt), ((tt), ((tt), ((λ h. refl {a = true}), ((λ h. refl {a = true}), ((refl {a = Con (first 3 ∷ []) Nil}), ((λ h. matching.matches (structures (type_name (record { arity = 0; definition = Is int_type; shape = Opaque }) refl (record { arity = refl; same = record { left = λ o. int_type; right = λ o. int_type; closed_left = λ o v h. refl; closed_right = λ o v h. refl; same = refl }; shape = tt }) (value (record { body = int_type; bound = _ }) refl (record { actual_fill = λ o. int_type; wanted_fill = λ o. int_type; each = λ x h. ((λ v. Var v), (λ v g. refl), h.2) }) done)))), ((tt), ((tt), ((tt), ((tt), ((λ h. refl {a = true}), ((record { fill = λ o. int_type; instance = ((λ v. Var v), (λ v h. absurd (yes_no h)), refl {a = Arrow int_type (Arrow int_type int_type)}) }), ((λ h. refl {a = Arrow int_type (Arrow int_type int_type)}), ((tt), (((refl {a = false}, tt)), ((λ h. refl {a = true}), ((record { fill = λ o. int_type; instance = ((λ v. Var v), (λ v h. absurd (yes_no h)), refl {a = Con (first 0 ∷ first 3 ∷ []) Nil}) }), ((λ h. absurd (no_yes h)), ((λ h. absurd (no_yes h)), ((tt), (((refl {a = false}, tt)), ((λ h. absurd (no_yes h)), ((refl {a = int_type}), ((λ h. absurd (no_yes h)), ((refl {a = Var (of_letter (second 3) 4)}), ((tt), ((tt), ((λ h. absurd (no_yes h)), ((λ h. absurd (no_yes h)), ((tt), tt)))))))))))))))))))))))))))))))))))))))))))))))))))))))))

general : IsMostGeneralChoice (before sealed_type_asked sealed_type_kept (site (second 3) 2)) (conditions_of with_plus sealed_type_tree (before sealed_type_asked sealed_type_kept (site (second 3) 2))) (open_choice types letters)
unfolding constant_by pattern_row expression_row type_expressions.type_row module_expression_row module_type_row item_row signature_item_row
general = record {
  holds = holds;
  general = λ other h.
      let at : ℕ → Typ = other.type_at in
      let l : ℕ → Typ = other.letter (second 3) in
      let one : at (first 16) ≡ int_type = h.1.1.1.1.1.1.1.1.1.1.1.1.1.1.1.1.1.0 in
      let used : at (second 4) ≡ Con (first 0 ∷ first 3 ∷ []) Nil = h.1.1.1.1.1.1.1.1.1.1.1.1.1.1.1.1.1.1.1.1.1.1.1.1.1.1.1.1.1.1.1.1.1.1.1.1.1.1.1.1.1.1.1.0.instance.2 ∙ ap (λ t. apply h.1.1.1.1.1.1.1.1.1.1.1.1.1.1.1.1.1.1.1.1.1.1.1.1.1.1.1.1.1.1.1.1.1.1.1.1.1.1.1.1.1.1.1.0.instance.0 (change (filling h.1.1.1.1.1.1.1.1.1.1.1.1.1.1.1.1.1.1.1.1.1.1.1.1.1.1.1.1.1.1.1.1.1.1.1.1.1.1.1.1.1.1.1.0.fill) (change (in_front ((first 3 ∷ []) ∷ []) (first 0)) t))) h.1.1.1.1.1.1.1.1.1.1.1.1.1.1.1.1.1.1.1.1.1.1.1.1.1.1.1.1.1.1.1.0 in
      let plus : l 0 ≡ Arrow int_type (Arrow int_type int_type) = h.1.1.1.1.1.1.1.1.1.1.1.1.1.1.1.1.1.1.1.1.1.1.1.1.1.1.1.1.1.1.1.1.1.1.1.1.1.1.0.instance.2 in
      let arrow : Arrow (l 1) (l 2) ≡ Arrow int_type (Arrow int_type int_type) = sym (h.1.1.1.1.1.1.1.1.1.1.1.1.1.1.1.1.1.1.1.1.1.1.1.1.1.1.1.1.1.1.1.1.1.1.1.1.1.1.1.0 refl) ∙ plus in
      is_instance other types letters (h.1.1.1.1.1.1.1.1.1.1.1.1.1.1.1.1.1.1.1.1.1.1.1.1.1.1.1.1.1.1.1.0, (h.1.1.1.1.1.1.1.1.1.1.0, (h.1.1.1.1.1.1.1.1.1.1.1.1.1.1.1.1.1.1.1.1.1.0 refl ∙ one, (one, (h.1.1.1.1.1.1.1.1.1.1.1.1.1.1.1.1.1.1.1.1.1.1.1.1.1.1.1.1.1.1.1.1.1.1.1.1.1.1.1.1.1.1.1.1.1.1.1.1.1.1.1.0 ∙ sym (put_letter other (second 3) 4), (used, (h.1.1.1.1.1.1.1.1.1.1.1.1.1.1.1.1.1.1.1.1.1.1.1.1.1.1.1.1.1.1.1.1.1.1.1.1.1.1.1.1.1.1.1.1.1.1.1.1.1.0, tt))))))) (plus, (ap left arrow, (ap right arrow, tt)));
}

abbrev found : Option Environment → Environment
found None = []
found (Some e) = e

abbrev pub scope : Environment
scope = found (environment_of (second 3) (conditions_of with_plus sealed_type_tree (before sealed_type_asked sealed_type_kept (site (second 3) 2)) (open_choice types letters)))

no_cycle : IsCycle (Con (first 0 ∷ first 3 ∷ []) Nil) int_type → ⊥
no_cycle (v, inl e) = con_is_no_variable (first 0 ∷ first 3 ∷ []) Nil v e.0
no_cycle (v, inr e) = con_is_no_variable (built_in_origin 0) Nil v e.0

differs : Differ (Con (first 0 ∷ first 3 ∷ []) Nil) int_type plain
differs = apart no_cycle (λ one. not_int one.1)

-- the fault
pub is_a_fault : IsFaultAt with_plus (parsed sealed_type) (kept_at sealed_type_kept) (site (second 3) 2) (record { at = place 80 83; told = types_differ (Con (first 0 ∷ first 3 ∷ []) Nil) int_type plain; env = scope })
unfolding constant_by pattern_row expression_row type_expressions.type_row module_expression_row module_type_row item_row signature_item_row
is_a_fault =
    subst (λ text. IsFaultAt with_plus text (kept_at sealed_type_kept) (site (second 3) 2) (record { at = place 80 83; told = types_differ (Con (first 0 ∷ first 3 ∷ []) Nil) int_type plain; env = scope })) (sym is_parsed)
    (is_fault with_plus sealed_type_tree sealed_type_asked sealed_type_kept (site (second 3) 2) (record { at = place 80 83; told = types_differ (Con (first 0 ∷ first 3 ∷ []) Nil) int_type plain; env = scope }) (open_choice types letters) (equal (Con (first 0 ∷ first 3 ∷ []) Nil) int_type) all refl refl general (refl {a = Some (place 80 83, equal (Con (first 0 ∷ first 3 ∷ []) Nil) int_type)}) (by_types differs) (refl {a = Some scope}))
