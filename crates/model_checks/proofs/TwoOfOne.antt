-- module F (X : sig end) = struct type t = A end module E = struct end module P = F(E) module Q = F(E) let l = [P.A; Q.A]: its trees, its kept demands, and its fault.
use Rattle.std.proofs.Common.{◌≡◌, ℕ, Bool, true, false, List, [], ◌∷◌, codes, Option, Some, None, refl, sym, ◌∙◌, ap, subst, inl, inr}
use Rattle.tree_model.specs.Trees.{Tree, place, no_parts, part, taken, inner}
use Rattle.tree_model.specs.Extents.{node_over}
use Rattle.type_model.specs.Types.{Typ, Var, Arrow, Tuple, Con, Nil}
use Rattle.signature_model.specs.Signatures.{Signature, Structure, Done}
use Rattle.signature_model.specs.Entries.{Environment}
use Rattle.signature_model.specs.Matching.{Matches, structures, done}
use Rattle.signature_model.specs.Matching as matching
use Rattle.typing_model.specs.BuiltIns.{built_in_names, list_type}
use Rattle.typing_model.specs.Contexts.{Choice}
use Rattle.typing_model.specs.Demands.{Site, site, equal, environment_of}
use Rattle.typing_model.specs.Typings.{conditions_of, conditions_before, body_at, no_choice, demands_of, HasTyping, IsMetUpTo, IsKept, IsMostGeneralChoice}
use Rattle.typing_model.specs.Faults.{Differ, IsCycle, IsFaultAt, types_differ, plain, apart, by_types}
use Rattle.model_checks.specs.Typings.{first, second, third, fourth, fifth}
use Rattle.model_checks.specs.Kept.{kept_at, two_of_one_kept}
use Rattle.model_checks.specs.Open.{open_choice}
use Rattle.model_checks.specs.Texts.{tok, parsed, two_of_one}
use Rattle.model_checks.proofs.Apart.{no_yes, yes_no, con_is_no_variable}
use Rattle.model_checks.proofs.Keeping.{up_to, keeps_one_closing, closings_of, Closes, before, is_fault}
use Rattle.model_checks.proofs.Coding.{is_instance}
use Rattle.tree_model.specs.Slots.{is_operand}
use Rattle.grammar_model.specs.Rows.{chain_of, grower_of}
use Rattle.grammar_model.specs.Ocaml.{rows}
use Rattle.grammar_model.specs.Tables.{first_place}
use Rattle.grammar_model.specs.Keys.{kind_key, key_of}
use Rattle.recovery_model.specs.Steps as rules
use Rattle.recovery_model.specs.Recovery.{step, close, recover}
use Rattle.typing_model.specs.BuiltIns.{constant_by}
use Rattle.typing_model.specs.Patterns.{pattern_row}
use Rattle.typing_model.specs.Expressions.{expression_row}
use Rattle.typing_model.specs.TypeExpressions as type_expressions
use Rattle.typing_model.specs.Modules.{module_expression_row, module_type_row, item_row, signature_item_row}
use Rattle.type_model.specs.Origins.{same_path}
use Rattle.tree_model.specs.Rows as rows_of
use Rattle.tree_model.specs.Rows.{let_row, binding_row, pname_row, epath_row, elist_row, module_row, ysig_row, mstruct_row, mapp_row, mpath_row, decl_row, head_row, variant_row, con_row}
use Rattle.token_model.specs.Kinds.{let_word, lower, op9, module_word, upper, colon, semi, sig_word, struct_word, end_word, qualifier, type_word, left_paren, right_paren, left_bracket, right_bracket}

-- its tree
abbrev pub two_of_one_tree : List Tree
two_of_one_tree = (node_over module_row (part 0 (taken (tok module_word 0 6 (codes "module"))) (part 1 (taken (tok upper 7 8 (codes "F"))) (part 2 (taken (tok left_paren 9 10 (codes "("))) (part 3 (taken (tok upper 10 11 (codes "X"))) (part 4 (taken (tok colon 12 13 (codes ":"))) (part 5 (inner (node_over ysig_row (part 0 (taken (tok sig_word 14 17 (codes "sig"))) (part 2 (taken (tok end_word 18 21 (codes "end"))) no_parts)))) (part 6 (taken (tok right_paren 21 22 (codes ")"))) (part 9 (taken (tok op9 23 24 (codes "="))) (part 10 (inner (node_over mstruct_row (part 0 (taken (tok struct_word 25 31 (codes "struct"))) (part 1 (inner (node_over rows_of.type_row (part 0 (taken (tok type_word 32 36 (codes "type"))) (part 2 (inner (node_over decl_row (part 0 (inner (node_over head_row (part 4 (taken (tok lower 37 38 (codes "t"))) no_parts))) (part 1 (taken (tok op9 39 40 (codes "="))) (part 2 (inner (node_over variant_row (part 1 (inner (node_over con_row (part 0 (taken (tok upper 41 42 (codes "A"))) no_parts))) no_parts))) no_parts))))) no_parts)))) (part 2 (taken (tok end_word 43 46 (codes "end"))) no_parts))))) no_parts)))))))))) ∷ (node_over module_row (part 0 (taken (tok module_word 47 53 (codes "module"))) (part 1 (taken (tok upper 54 55 (codes "E"))) (part 9 (taken (tok op9 56 57 (codes "="))) (part 10 (inner (node_over mstruct_row (part 0 (taken (tok struct_word 58 64 (codes "struct"))) (part 2 (taken (tok end_word 65 68 (codes "end"))) no_parts)))) no_parts))))) ∷ (node_over module_row (part 0 (taken (tok module_word 69 75 (codes "module"))) (part 1 (taken (tok upper 76 77 (codes "P"))) (part 9 (taken (tok op9 78 79 (codes "="))) (part 10 (inner (node_over mapp_row (part 0 (inner (node_over mpath_row (part 1 (taken (tok upper 80 81 (codes "F"))) no_parts))) (part 1 (taken (tok left_paren 81 82 (codes "("))) (part 2 (inner (node_over mpath_row (part 1 (taken (tok upper 82 83 (codes "E"))) no_parts))) (part 5 (taken (tok right_paren 83 84 (codes ")"))) no_parts)))))) no_parts))))) ∷ (node_over module_row (part 0 (taken (tok module_word 85 91 (codes "module"))) (part 1 (taken (tok upper 92 93 (codes "Q"))) (part 9 (taken (tok op9 94 95 (codes "="))) (part 10 (inner (node_over mapp_row (part 0 (inner (node_over mpath_row (part 1 (taken (tok upper 96 97 (codes "F"))) no_parts))) (part 1 (taken (tok left_paren 97 98 (codes "("))) (part 2 (inner (node_over mpath_row (part 1 (taken (tok upper 98 99 (codes "E"))) no_parts))) (part 5 (taken (tok right_paren 99 100 (codes ")"))) no_parts)))))) no_parts))))) ∷ (node_over let_row (part 0 (taken (tok let_word 101 104 (codes "let"))) (part 2 (inner (node_over binding_row (part 0 (inner (node_over pname_row (part 0 (taken (tok lower 105 106 (codes "l"))) no_parts))) (part 4 (taken (tok op9 107 108 (codes "="))) (part 5 (inner (node_over elist_row (part 0 (taken (tok left_bracket 109 110 (codes "["))) (part 1 (inner (node_over epath_row (part 0 (taken (tok qualifier 110 112 (codes "P"))) (part 1 (taken (tok upper 112 113 (codes "A"))) no_parts)))) (part 2 (taken (tok semi 113 114 (codes ";"))) (part 1 (inner (node_over epath_row (part 0 (taken (tok qualifier 115 117 (codes "Q"))) (part 1 (taken (tok upper 117 118 (codes "A"))) no_parts)))) (part 3 (taken (tok right_bracket 118 119 (codes "]"))) no_parts))))))) no_parts))))) no_parts))) ∷ []

-- the parser gives it
pub is_parsed : parsed two_of_one ≡ two_of_one_tree
unfolding recover step close rules.step rows chain_of grower_of first_place kind_key key_of is_operand
is_parsed = refl

-- P.t and Q.t
abbrev of_first : Typ
of_first = Con (third 1 ∷ first 4 ∷ []) Nil

abbrev of_second : Typ
of_second = Con (fourth 1 ∷ first 4 ∷ []) Nil

-- types that keep all other demands
abbrev choice : Choice
choice = open_choice ((fifth 2, list_type of_first) ∷ (fifth 3, list_type of_first) ∷ (fifth 4, of_first) ∷ (fifth 5, of_second) ∷ []) []

-- all demands
abbrev two_of_one_asked : List Site
two_of_one_asked = site (first 0) 1 ∷ site (first 4) 0 ∷ site (first 7) 0 ∷ site (first 0) 2 ∷ site (second 0) 1 ∷ site (third 0) 1 ∷ site (third 2) 0 ∷ site (third 1) 0 ∷ site (third 3) 0 ∷ site (third 1) 2 ∷ site (fourth 0) 1 ∷ site (fourth 2) 0 ∷ site (fourth 1) 0 ∷ site (fourth 3) 0 ∷ site (fourth 1) 2 ∷ site (fifth 4) 0 ∷ site (fifth 4) 1 ∷ site (fifth 5) 0 ∷ site (fifth 5) 1 ∷ site (fifth 3) 0 ∷ site (fifth 2) 0 ∷ site (fifth 1) 1 ∷ []

all : demands_of built_in_names two_of_one_tree (kept_at two_of_one_kept) ≡ two_of_one_asked
unfolding constant_by pattern_row expression_row type_expressions.type_row module_expression_row module_type_row item_row signature_item_row
all = refl

-- the only `closing` is that of the body of F
closings : closings_of (conditions_of built_in_names two_of_one_tree (kept_at two_of_one_kept) no_choice) ≡ site (first 0) 2 ∷ []
unfolding constant_by pattern_row expression_row type_expressions.type_row module_expression_row module_type_row item_row signature_item_row
closings = refl

-- a typing for each kept demand, with those before it
typed_0 : HasTyping built_in_names two_of_one_tree (up_to two_of_one_asked two_of_one_kept (site (first 0) 1))
unfolding constant_by pattern_row expression_row type_expressions.type_row module_expression_row module_type_row item_row signature_item_row
typed_0 = (choice.type_at, record { choice = choice; chosen = λ n. refl; holds = (tt, ((λ h. refl {a = true}), (tt, (tt, (tt, ((λ h. absurd (no_yes h)), (tt, (tt, ((λ h. absurd (no_yes h)), ((λ h. absurd (no_yes h)), (tt, ((λ h. absurd (no_yes h)), (tt, (tt, ((λ h. absurd (no_yes h)), (tt, (tt, ((λ h. absurd (no_yes h)), ((λ h. absurd (no_yes h)), (tt, ((λ h. absurd (no_yes h)), (tt, ((λ h. absurd (no_yes h)), (tt, (tt, ((λ h. absurd (no_yes h)), ((λ h. absurd (no_yes h)), (tt, ((λ h. absurd (no_yes h)), (tt, (tt, (tt, (((refl {a = false}, ((refl {a = false}, tt), tt))), (tt, (((refl {a = false}, tt)), ((λ h. absurd (no_yes h)), (tt, (((refl {a = false}, tt)), ((λ h. absurd (no_yes h)), ((λ h. absurd (no_yes h)), ((refl {a = list_type of_first}), (tt, (((refl {a = false}, ((refl {a = false}, tt), tt))), ((λ h. absurd (no_yes h)), ((λ h. absurd (no_yes h)), (((refl {a = true}, ((refl {a = true}, tt), tt))), tt)))))))))))))))))))))))))))))))))))))))))))))) })

typed_1 : HasTyping built_in_names two_of_one_tree (up_to two_of_one_asked two_of_one_kept (site (first 4) 0))
unfolding constant_by pattern_row expression_row type_expressions.type_row module_expression_row module_type_row item_row signature_item_row
typed_1 = (choice.type_at, record { choice = choice; chosen = λ n. refl; holds = (tt, ((λ h. refl {a = true}), (tt, (tt, (tt, ((λ h. refl {a = true}), (tt, (tt, ((λ h. absurd (no_yes h)), ((λ h. absurd (no_yes h)), (tt, ((λ h. absurd (no_yes h)), (tt, (tt, ((λ h. absurd (no_yes h)), (tt, (tt, ((λ h. absurd (no_yes h)), ((λ h. absurd (no_yes h)), (tt, ((λ h. absurd (no_yes h)), (tt, ((λ h. absurd (no_yes h)), (tt, (tt, ((λ h. absurd (no_yes h)), ((λ h. absurd (no_yes h)), (tt, ((λ h. absurd (no_yes h)), (tt, (tt, (tt, (((refl {a = false}, ((refl {a = false}, tt), tt))), (tt, (((refl {a = false}, tt)), ((λ h. absurd (no_yes h)), (tt, (((refl {a = false}, tt)), ((λ h. absurd (no_yes h)), ((λ h. absurd (no_yes h)), ((refl {a = list_type of_first}), (tt, (((refl {a = false}, ((refl {a = false}, tt), tt))), ((λ h. absurd (no_yes h)), ((λ h. absurd (no_yes h)), (((refl {a = true}, ((refl {a = true}, tt), tt))), tt)))))))))))))))))))))))))))))))))))))))))))))) })

typed_2 : HasTyping built_in_names two_of_one_tree (up_to two_of_one_asked two_of_one_kept (site (first 7) 0))
unfolding constant_by pattern_row expression_row type_expressions.type_row module_expression_row module_type_row item_row signature_item_row
typed_2 = (choice.type_at, record { choice = choice; chosen = λ n. refl; holds = (tt, ((λ h. refl {a = true}), (tt, (tt, (tt, ((λ h. refl {a = true}), (tt, (tt, ((λ h. refl {a = true}), ((λ h. absurd (no_yes h)), (tt, ((λ h. absurd (no_yes h)), (tt, (tt, ((λ h. absurd (no_yes h)), (tt, (tt, ((λ h. absurd (no_yes h)), ((λ h. absurd (no_yes h)), (tt, ((λ h. absurd (no_yes h)), (tt, ((λ h. absurd (no_yes h)), (tt, (tt, ((λ h. absurd (no_yes h)), ((λ h. absurd (no_yes h)), (tt, ((λ h. absurd (no_yes h)), (tt, (tt, (tt, (((refl {a = false}, ((refl {a = false}, tt), tt))), (tt, (((refl {a = false}, tt)), ((λ h. absurd (no_yes h)), (tt, (((refl {a = false}, tt)), ((λ h. absurd (no_yes h)), ((λ h. absurd (no_yes h)), ((refl {a = list_type of_first}), (tt, (((refl {a = false}, ((refl {a = false}, tt), tt))), ((λ h. absurd (no_yes h)), ((λ h. absurd (no_yes h)), (((refl {a = true}, ((refl {a = true}, tt), tt))), tt)))))))))))))))))))))))))))))))))))))))))))))) })

typed_3 : HasTyping built_in_names two_of_one_tree (up_to two_of_one_asked two_of_one_kept (site (first 0) 2))
unfolding constant_by pattern_row expression_row type_expressions.type_row module_expression_row module_type_row item_row signature_item_row
typed_3 = (choice.type_at, record { choice = choice; chosen = λ n. refl; holds = (tt, ((λ h. refl {a = true}), (tt, (tt, (tt, ((λ h. refl {a = true}), (tt, (tt, ((λ h. refl {a = true}), ((λ h. tt), (tt, ((λ h. absurd (no_yes h)), (tt, (tt, ((λ h. absurd (no_yes h)), (tt, (tt, ((λ h. absurd (no_yes h)), ((λ h. absurd (no_yes h)), (tt, ((λ h. absurd (no_yes h)), (tt, ((λ h. absurd (no_yes h)), (tt, (tt, ((λ h. absurd (no_yes h)), ((λ h. absurd (no_yes h)), (tt, ((λ h. absurd (no_yes h)), (tt, (tt, (tt, (((refl {a = false}, ((refl {a = false}, tt), tt))), (tt, (((refl {a = false}, tt)), ((λ h. absurd (no_yes h)), (tt, (((refl {a = false}, tt)), ((λ h. absurd (no_yes h)), ((λ h. absurd (no_yes h)), ((refl {a = list_type of_first}), (tt, (((refl {a = false}, ((refl {a = false}, tt), tt))), ((λ h. absurd (no_yes h)), ((λ h. absurd (no_yes h)), (((refl {a = true}, ((refl {a = true}, tt), tt))), tt)))))))))))))))))))))))))))))))))))))))))))))) })

typed_4 : HasTyping built_in_names two_of_one_tree (up_to two_of_one_asked two_of_one_kept (site (second 0) 1))
unfolding constant_by pattern_row expression_row type_expressions.type_row module_expression_row module_type_row item_row signature_item_row
typed_4 = (choice.type_at, record { choice = choice; chosen = λ n. refl; holds = (tt, ((λ h. refl {a = true}), (tt, (tt, (tt, ((λ h. refl {a = true}), (tt, (tt, ((λ h. refl {a = true}), ((λ h. tt), (tt, ((λ h. refl {a = true}), (tt, (tt, ((λ h. absurd (no_yes h)), (tt, (tt, ((λ h. absurd (no_yes h)), ((λ h. absurd (no_yes h)), (tt, ((λ h. absurd (no_yes h)), (tt, ((λ h. absurd (no_yes h)), (tt, (tt, ((λ h. absurd (no_yes h)), ((λ h. absurd (no_yes h)), (tt, ((λ h. absurd (no_yes h)), (tt, (tt, (tt, (((refl {a = false}, ((refl {a = false}, tt), tt))), (tt, (((refl {a = false}, tt)), ((λ h. absurd (no_yes h)), (tt, (((refl {a = false}, tt)), ((λ h. absurd (no_yes h)), ((λ h. absurd (no_yes h)), ((refl {a = list_type of_first}), (tt, (((refl {a = false}, ((refl {a = false}, tt), tt))), ((λ h. absurd (no_yes h)), ((λ h. absurd (no_yes h)), (((refl {a = true}, ((refl {a = true}, tt), tt))), tt)))))))))))))))))))))))))))))))))))))))))))))) })

typed_5 : HasTyping built_in_names two_of_one_tree (up_to two_of_one_asked two_of_one_kept (site (third 0) 1))
unfolding constant_by pattern_row expression_row type_expressions.type_row module_expression_row module_type_row item_row signature_item_row
typed_5 = (choice.type_at, record { choice = choice; chosen = λ n. refl; holds = (tt, ((λ h. refl {a = true}), (tt, (tt, (tt, ((λ h. refl {a = true}), (tt, (tt, ((λ h. refl {a = true}), ((λ h. tt), (tt, ((λ h. refl {a = true}), (tt, (tt, ((λ h. refl {a = true}), (tt, (tt, ((λ h. absurd (no_yes h)), ((λ h. absurd (no_yes h)), (tt, ((λ h. absurd (no_yes h)), (tt, ((λ h. absurd (no_yes h)), (tt, (tt, ((λ h. absurd (no_yes h)), ((λ h. absurd (no_yes h)), (tt, ((λ h. absurd (no_yes h)), (tt, (tt, (tt, (((refl {a = false}, ((refl {a = false}, tt), tt))), (tt, (((refl {a = false}, tt)), ((λ h. absurd (no_yes h)), (tt, (((refl {a = false}, tt)), ((λ h. absurd (no_yes h)), ((λ h. absurd (no_yes h)), ((refl {a = list_type of_first}), (tt, (((refl {a = false}, ((refl {a = false}, tt), tt))), ((λ h. absurd (no_yes h)), ((λ h. absurd (no_yes h)), (((refl {a = true}, ((refl {a = true}, tt), tt))), tt)))))))))))))))))))))))))))))))))))))))))))))) })

typed_6 : HasTyping built_in_names two_of_one_tree (up_to two_of_one_asked two_of_one_kept (site (third 2) 0))
unfolding constant_by pattern_row expression_row type_expressions.type_row module_expression_row module_type_row item_row signature_item_row
typed_6 = (choice.type_at, record { choice = choice; chosen = λ n. refl; holds = (tt, ((λ h. refl {a = true}), (tt, (tt, (tt, ((λ h. refl {a = true}), (tt, (tt, ((λ h. refl {a = true}), ((λ h. tt), (tt, ((λ h. refl {a = true}), (tt, (tt, ((λ h. refl {a = true}), (tt, (tt, ((λ h. refl {a = true}), ((λ h. absurd (no_yes h)), (tt, ((λ h. absurd (no_yes h)), (tt, ((λ h. absurd (no_yes h)), (tt, (tt, ((λ h. absurd (no_yes h)), ((λ h. absurd (no_yes h)), (tt, ((λ h. absurd (no_yes h)), (tt, (tt, (tt, (((refl {a = false}, ((refl {a = false}, tt), tt))), (tt, (((refl {a = false}, tt)), ((λ h. absurd (no_yes h)), (tt, (((refl {a = false}, tt)), ((λ h. absurd (no_yes h)), ((λ h. absurd (no_yes h)), ((refl {a = list_type of_first}), (tt, (((refl {a = false}, ((refl {a = false}, tt), tt))), ((λ h. absurd (no_yes h)), ((λ h. absurd (no_yes h)), (((refl {a = true}, ((refl {a = true}, tt), tt))), tt)))))))))))))))))))))))))))))))))))))))))))))) })

typed_7 : HasTyping built_in_names two_of_one_tree (up_to two_of_one_asked two_of_one_kept (site (third 1) 0))
unfolding constant_by pattern_row expression_row type_expressions.type_row module_expression_row module_type_row item_row signature_item_row
typed_7 = (choice.type_at, record { choice = choice; chosen = λ n. refl; holds = (tt, ((λ h. refl {a = true}), (tt, (tt, (tt, ((λ h. refl {a = true}), (tt, (tt, ((λ h. refl {a = true}), ((λ h. tt), (tt, ((λ h. refl {a = true}), (tt, (tt, ((λ h. refl {a = true}), (tt, (tt, ((λ h. refl {a = true}), ((λ h. refl {a = true}), (tt, ((λ h. absurd (no_yes h)), ((λ h. absurd (no_yes h)), (tt, ((λ h. absurd (no_yes h)), (tt, (tt, ((λ h. absurd (no_yes h)), ((λ h. absurd (no_yes h)), (tt, ((λ h. absurd (no_yes h)), (tt, (tt, (tt, (((refl {a = false}, ((refl {a = false}, tt), tt))), (tt, (((refl {a = false}, tt)), ((λ h. absurd (no_yes h)), (tt, (((refl {a = false}, tt)), ((λ h. absurd (no_yes h)), ((λ h. absurd (no_yes h)), ((refl {a = list_type of_first}), (tt, (((refl {a = false}, ((refl {a = false}, tt), tt))), ((λ h. absurd (no_yes h)), ((λ h. absurd (no_yes h)), (((refl {a = true}, ((refl {a = true}, tt), tt))), tt))))))))))))))))))))))))))))))))))))))))))))))) })

typed_8 : HasTyping built_in_names two_of_one_tree (up_to two_of_one_asked two_of_one_kept (site (third 3) 0))
unfolding constant_by pattern_row expression_row type_expressions.type_row module_expression_row module_type_row item_row signature_item_row
typed_8 = (choice.type_at, record { choice = choice; chosen = λ n. refl; holds = (tt, ((λ h. refl {a = true}), (tt, (tt, (tt, ((λ h. refl {a = true}), (tt, (tt, ((λ h. refl {a = true}), ((λ h. tt), (tt, ((λ h. refl {a = true}), (tt, (tt, ((λ h. refl {a = true}), (tt, (tt, ((λ h. refl {a = true}), ((λ h. refl {a = true}), (tt, ((λ h. refl {a = true}), ((λ h. absurd (no_yes h)), (tt, ((λ h. absurd (no_yes h)), (tt, (tt, ((λ h. absurd (no_yes h)), ((λ h. absurd (no_yes h)), (tt, ((λ h. absurd (no_yes h)), (tt, (tt, (tt, (((refl {a = false}, ((refl {a = false}, tt), tt))), (tt, (((refl {a = false}, tt)), ((λ h. absurd (no_yes h)), (tt, (((refl {a = false}, tt)), ((λ h. absurd (no_yes h)), ((λ h. absurd (no_yes h)), ((refl {a = list_type of_first}), (tt, (((refl {a = false}, ((refl {a = false}, tt), tt))), ((λ h. absurd (no_yes h)), ((λ h. absurd (no_yes h)), (((refl {a = true}, ((refl {a = true}, tt), tt))), tt))))))))))))))))))))))))))))))))))))))))))))))) })

typed_9 : HasTyping built_in_names two_of_one_tree (up_to two_of_one_asked two_of_one_kept (site (third 1) 2))
unfolding constant_by pattern_row expression_row type_expressions.type_row module_expression_row module_type_row item_row signature_item_row
typed_9 = (choice.type_at, record { choice = choice; chosen = λ n. refl; holds = (tt, ((λ h. refl {a = true}), (tt, (tt, (tt, ((λ h. refl {a = true}), (tt, (tt, ((λ h. refl {a = true}), ((λ h. tt), (tt, ((λ h. refl {a = true}), (tt, (tt, ((λ h. refl {a = true}), (tt, (tt, ((λ h. refl {a = true}), ((λ h. refl {a = true}), (tt, ((λ h. refl {a = true}), ((λ h. matching.matches (structures done)), (tt, ((λ h. absurd (no_yes h)), (tt, (tt, ((λ h. absurd (no_yes h)), ((λ h. absurd (no_yes h)), (tt, ((λ h. absurd (no_yes h)), (tt, (tt, (tt, (((refl {a = false}, ((refl {a = false}, tt), tt))), (tt, (((refl {a = false}, tt)), ((λ h. absurd (no_yes h)), (tt, (((refl {a = false}, tt)), ((λ h. absurd (no_yes h)), ((λ h. absurd (no_yes h)), ((refl {a = list_type of_first}), (tt, (((refl {a = false}, ((refl {a = false}, tt), tt))), ((λ h. absurd (no_yes h)), ((λ h. absurd (no_yes h)), (((refl {a = true}, ((refl {a = true}, tt), tt))), tt))))))))))))))))))))))))))))))))))))))))))))))) })

typed_10 : HasTyping built_in_names two_of_one_tree (up_to two_of_one_asked two_of_one_kept (site (fourth 0) 1))
unfolding constant_by pattern_row expression_row type_expressions.type_row module_expression_row module_type_row item_row signature_item_row
typed_10 = (choice.type_at, record { choice = choice; chosen = λ n. refl; holds = (tt, ((λ h. refl {a = true}), (tt, (tt, (tt, ((λ h. refl {a = true}), (tt, (tt, ((λ h. refl {a = true}), ((λ h. tt), (tt, ((λ h. refl {a = true}), (tt, (tt, ((λ h. refl {a = true}), (tt, (tt, ((λ h. refl {a = true}), ((λ h. refl {a = true}), (tt, ((λ h. refl {a = true}), ((λ h. matching.matches (structures done)), (tt, ((λ h. refl {a = true}), (tt, (tt, ((λ h. absurd (no_yes h)), ((λ h. absurd (no_yes h)), (tt, ((λ h. absurd (no_yes h)), (tt, (tt, (tt, (((refl {a = false}, ((refl {a = false}, tt), tt))), (tt, (((refl {a = false}, tt)), ((λ h. absurd (no_yes h)), (tt, (((refl {a = false}, tt)), ((λ h. absurd (no_yes h)), ((λ h. absurd (no_yes h)), ((refl {a = list_type of_first}), (tt, (((refl {a = false}, ((refl {a = false}, tt), tt))), ((λ h. absurd (no_yes h)), ((λ h. absurd (no_yes h)), (((refl {a = true}, ((refl {a = true}, tt), tt))), tt))))))))))))))))))))))))))))))))))))))))))))))) })

typed_11 : HasTyping built_in_names two_of_one_tree (up_to two_of_one_asked two_of_one_kept (site (fourth 2) 0))
unfolding constant_by pattern_row expression_row type_expressions.type_row module_expression_row module_type_row item_row signature_item_row
typed_11 = (choice.type_at, record { choice = choice; chosen = λ n. refl; holds = (tt, ((λ h. refl {a = true}), (tt, (tt, (tt, ((λ h. refl {a = true}), (tt, (tt, ((λ h. refl {a = true}), ((λ h. tt), (tt, ((λ h. refl {a = true}), (tt, (tt, ((λ h. refl {a = true}), (tt, (tt, ((λ h. refl {a = true}), ((λ h. refl {a = true}), (tt, ((λ h. refl {a = true}), ((λ h. matching.matches (structures done)), (tt, ((λ h. refl {a = true}), (tt, (tt, ((λ h. refl {a = true}), ((λ h. absurd (no_yes h)), (tt, ((λ h. absurd (no_yes h)), (tt, (tt, (tt, (((refl {a = false}, ((refl {a = false}, tt), tt))), (tt, (((refl {a = false}, tt)), ((λ h. absurd (no_yes h)), (tt, (((refl {a = false}, tt)), ((λ h. absurd (no_yes h)), ((λ h. absurd (no_yes h)), ((refl {a = list_type of_first}), (tt, (((refl {a = false}, ((refl {a = false}, tt), tt))), ((λ h. absurd (no_yes h)), ((λ h. absurd (no_yes h)), (((refl {a = true}, ((refl {a = true}, tt), tt))), tt))))))))))))))))))))))))))))))))))))))))))))))) })

typed_12 : HasTyping built_in_names two_of_one_tree (up_to two_of_one_asked two_of_one_kept (site (fourth 1) 0))
unfolding constant_by pattern_row expression_row type_expressions.type_row module_expression_row module_type_row item_row signature_item_row
typed_12 = (choice.type_at, record { choice = choice; chosen = λ n. refl; holds = (tt, ((λ h. refl {a = true}), (tt, (tt, (tt, ((λ h. refl {a = true}), (tt, (tt, ((λ h. refl {a = true}), ((λ h. tt), (tt, ((λ h. refl {a = true}), (tt, (tt, ((λ h. refl {a = true}), (tt, (tt, ((λ h. refl {a = true}), ((λ h. refl {a = true}), (tt, ((λ h. refl {a = true}), ((λ h. matching.matches (structures done)), (tt, ((λ h. refl {a = true}), (tt, (tt, ((λ h. refl {a = true}), ((λ h. refl {a = true}), (tt, ((λ h. absurd (no_yes h)), ((λ h. absurd (no_yes h)), (tt, (tt, (tt, (((refl {a = false}, ((refl {a = false}, tt), tt))), (tt, (((refl {a = false}, tt)), ((λ h. absurd (no_yes h)), (tt, (((refl {a = false}, tt)), ((λ h. absurd (no_yes h)), ((λ h. absurd (no_yes h)), ((refl {a = list_type of_first}), (tt, (((refl {a = false}, ((refl {a = false}, tt), tt))), ((λ h. absurd (no_yes h)), ((λ h. absurd (no_yes h)), (((refl {a = true}, ((refl {a = true}, tt), tt))), tt)))))))))))))))))))))))))))))))))))))))))))))))) })

typed_13 : HasTyping built_in_names two_of_one_tree (up_to two_of_one_asked two_of_one_kept (site (fourth 3) 0))
unfolding constant_by pattern_row expression_row type_expressions.type_row module_expression_row module_type_row item_row signature_item_row
typed_13 = (choice.type_at, record { choice = choice; chosen = λ n. refl; holds = (tt, ((λ h. refl {a = true}), (tt, (tt, (tt, ((λ h. refl {a = true}), (tt, (tt, ((λ h. refl {a = true}), ((λ h. tt), (tt, ((λ h. refl {a = true}), (tt, (tt, ((λ h. refl {a = true}), (tt, (tt, ((λ h. refl {a = true}), ((λ h. refl {a = true}), (tt, ((λ h. refl {a = true}), ((λ h. matching.matches (structures done)), (tt, ((λ h. refl {a = true}), (tt, (tt, ((λ h. refl {a = true}), ((λ h. refl {a = true}), (tt, ((λ h. refl {a = true}), ((λ h. absurd (no_yes h)), (tt, (tt, (tt, (((refl {a = false}, ((refl {a = false}, tt), tt))), (tt, (((refl {a = false}, tt)), ((λ h. absurd (no_yes h)), (tt, (((refl {a = false}, tt)), ((λ h. absurd (no_yes h)), ((λ h. absurd (no_yes h)), ((refl {a = list_type of_first}), (tt, (((refl {a = false}, ((refl {a = false}, tt), tt))), ((λ h. absurd (no_yes h)), ((λ h. absurd (no_yes h)), (((refl {a = true}, ((refl {a = true}, tt), tt))), tt)))))))))))))))))))))))))))))))))))))))))))))))) })

typed_14 : HasTyping built_in_names two_of_one_tree (up_to two_of_one_asked two_of_one_kept (site (fourth 1) 2))
unfolding constant_by pattern_row expression_row type_expressions.type_row module_expression_row module_type_row item_row signature_item_row
typed_14 = (choice.type_at, record { choice = choice; chosen = λ n. refl; holds = (tt, ((λ h. refl {a = true}), (tt, (tt, (tt, ((λ h. refl {a = true}), (tt, (tt, ((λ h. refl {a = true}), ((λ h. tt), (tt, ((λ h. refl {a = true}), (tt, (tt, ((λ h. refl {a = true}), (tt, (tt, ((λ h. refl {a = true}), ((λ h. refl {a = true}), (tt, ((λ h. refl {a = true}), ((λ h. matching.matches (structures done)), (tt, ((λ h. refl {a = true}), (tt, (tt, ((λ h. refl {a = true}), ((λ h. refl {a = true}), (tt, ((λ h. refl {a = true}), ((λ h. matching.matches (structures done)), (tt, (tt, (tt, (((refl {a = false}, ((refl {a = false}, tt), tt))), (tt, (((refl {a = false}, tt)), ((λ h. absurd (no_yes h)), (tt, (((refl {a = false}, tt)), ((λ h. absurd (no_yes h)), ((λ h. absurd (no_yes h)), ((refl {a = list_type of_first}), (tt, (((refl {a = false}, ((refl {a = false}, tt), tt))), ((λ h. absurd (no_yes h)), ((λ h. absurd (no_yes h)), (((refl {a = true}, ((refl {a = true}, tt), tt))), tt)))))))))))))))))))))))))))))))))))))))))))))))) })

typed_15 : HasTyping built_in_names two_of_one_tree (up_to two_of_one_asked two_of_one_kept (site (fifth 4) 0))
unfolding constant_by pattern_row expression_row type_expressions.type_row module_expression_row module_type_row item_row signature_item_row
typed_15 = (choice.type_at, record { choice = choice; chosen = λ n. refl; holds = (tt, ((λ h. refl {a = true}), (tt, (tt, (tt, ((λ h. refl {a = true}), (tt, (tt, ((λ h. refl {a = true}), ((λ h. tt), (tt, ((λ h. refl {a = true}), (tt, (tt, ((λ h. refl {a = true}), (tt, (tt, ((λ h. refl {a = true}), ((λ h. refl {a = true}), (tt, ((λ h. refl {a = true}), ((λ h. matching.matches (structures done)), (tt, ((λ h. refl {a = true}), (tt, (tt, ((λ h. refl {a = true}), ((λ h. refl {a = true}), (tt, ((λ h. refl {a = true}), ((λ h. matching.matches (structures done)), (tt, (tt, (tt, (((refl {a = false}, ((refl {a = false}, tt), tt))), (tt, (((refl {a = false}, tt)), ((λ h. refl {a = true}), ((λ h. absurd (no_yes h)), ((refl {a = of_first}), (tt, (((refl {a = false}, tt)), ((λ h. absurd (no_yes h)), ((λ h. absurd (no_yes h)), ((refl {a = list_type of_first}), (tt, (((refl {a = false}, ((refl {a = false}, tt), tt))), ((λ h. absurd (no_yes h)), ((λ h. absurd (no_yes h)), (((refl {a = true}, ((refl {a = true}, tt), tt))), tt)))))))))))))))))))))))))))))))))))))))))))))))))) })

typed_16 : HasTyping built_in_names two_of_one_tree (up_to two_of_one_asked two_of_one_kept (site (fifth 4) 1))
unfolding constant_by pattern_row expression_row type_expressions.type_row module_expression_row module_type_row item_row signature_item_row
typed_16 = (choice.type_at, record { choice = choice; chosen = λ n. refl; holds = (tt, ((λ h. refl {a = true}), (tt, (tt, (tt, ((λ h. refl {a = true}), (tt, (tt, ((λ h. refl {a = true}), ((λ h. tt), (tt, ((λ h. refl {a = true}), (tt, (tt, ((λ h. refl {a = true}), (tt, (tt, ((λ h. refl {a = true}), ((λ h. refl {a = true}), (tt, ((λ h. refl {a = true}), ((λ h. matching.matches (structures done)), (tt, ((λ h. refl {a = true}), (tt, (tt, ((λ h. refl {a = true}), ((λ h. refl {a = true}), (tt, ((λ h. refl {a = true}), ((λ h. matching.matches (structures done)), (tt, (tt, (tt, (((refl {a = false}, ((refl {a = false}, tt), tt))), (tt, (((refl {a = false}, tt)), ((λ h. refl {a = true}), ((λ h. refl {a = true}), ((refl {a = of_first}), (tt, (((refl {a = false}, tt)), ((λ h. absurd (no_yes h)), ((λ h. absurd (no_yes h)), ((refl {a = list_type of_first}), (tt, (((refl {a = false}, ((refl {a = false}, tt), tt))), ((λ h. absurd (no_yes h)), ((λ h. absurd (no_yes h)), (((refl {a = true}, ((refl {a = true}, tt), tt))), tt)))))))))))))))))))))))))))))))))))))))))))))))))) })

typed_17 : HasTyping built_in_names two_of_one_tree (up_to two_of_one_asked two_of_one_kept (site (fifth 5) 0))
unfolding constant_by pattern_row expression_row type_expressions.type_row module_expression_row module_type_row item_row signature_item_row
typed_17 = (choice.type_at, record { choice = choice; chosen = λ n. refl; holds = (tt, ((λ h. refl {a = true}), (tt, (tt, (tt, ((λ h. refl {a = true}), (tt, (tt, ((λ h. refl {a = true}), ((λ h. tt), (tt, ((λ h. refl {a = true}), (tt, (tt, ((λ h. refl {a = true}), (tt, (tt, ((λ h. refl {a = true}), ((λ h. refl {a = true}), (tt, ((λ h. refl {a = true}), ((λ h. matching.matches (structures done)), (tt, ((λ h. refl {a = true}), (tt, (tt, ((λ h. refl {a = true}), ((λ h. refl {a = true}), (tt, ((λ h. refl {a = true}), ((λ h. matching.matches (structures done)), (tt, (tt, (tt, (((refl {a = false}, ((refl {a = false}, tt), tt))), (tt, (((refl {a = false}, tt)), ((λ h. refl {a = true}), ((λ h. refl {a = true}), ((refl {a = of_first}), (tt, (((refl {a = false}, tt)), ((λ h. refl {a = true}), ((λ h. absurd (no_yes h)), ((refl {a = of_second}), ((λ h. absurd (no_yes h)), ((refl {a = list_type of_first}), (tt, (((refl {a = false}, ((refl {a = false}, tt), tt))), ((λ h. absurd (no_yes h)), ((λ h. absurd (no_yes h)), (((refl {a = true}, ((refl {a = true}, tt), tt))), tt)))))))))))))))))))))))))))))))))))))))))))))))))))) })

typed_18 : HasTyping built_in_names two_of_one_tree (up_to two_of_one_asked two_of_one_kept (site (fifth 5) 1))
unfolding constant_by pattern_row expression_row type_expressions.type_row module_expression_row module_type_row item_row signature_item_row
typed_18 = (choice.type_at, record { choice = choice; chosen = λ n. refl; holds = (tt, ((λ h. refl {a = true}), (tt, (tt, (tt, ((λ h. refl {a = true}), (tt, (tt, ((λ h. refl {a = true}), ((λ h. tt), (tt, ((λ h. refl {a = true}), (tt, (tt, ((λ h. refl {a = true}), (tt, (tt, ((λ h. refl {a = true}), ((λ h. refl {a = true}), (tt, ((λ h. refl {a = true}), ((λ h. matching.matches (structures done)), (tt, ((λ h. refl {a = true}), (tt, (tt, ((λ h. refl {a = true}), ((λ h. refl {a = true}), (tt, ((λ h. refl {a = true}), ((λ h. matching.matches (structures done)), (tt, (tt, (tt, (((refl {a = false}, ((refl {a = false}, tt), tt))), (tt, (((refl {a = false}, tt)), ((λ h. refl {a = true}), ((λ h. refl {a = true}), ((refl {a = of_first}), (tt, (((refl {a = false}, tt)), ((λ h. refl {a = true}), ((λ h. refl {a = true}), ((refl {a = of_second}), ((λ h. absurd (no_yes h)), ((refl {a = list_type of_first}), (tt, (((refl {a = false}, ((refl {a = false}, tt), tt))), ((λ h. absurd (no_yes h)), ((λ h. absurd (no_yes h)), (((refl {a = true}, ((refl {a = true}, tt), tt))), tt)))))))))))))))))))))))))))))))))))))))))))))))))))) })

typed_19 : HasTyping built_in_names two_of_one_tree (up_to two_of_one_asked two_of_one_kept (site (fifth 2) 0))
unfolding constant_by pattern_row expression_row type_expressions.type_row module_expression_row module_type_row item_row signature_item_row
typed_19 = (choice.type_at, record { choice = choice; chosen = λ n. refl; holds = (tt, ((λ h. refl {a = true}), (tt, (tt, (tt, ((λ h. refl {a = true}), (tt, (tt, ((λ h. refl {a = true}), ((λ h. tt), (tt, ((λ h. refl {a = true}), (tt, (tt, ((λ h. refl {a = true}), (tt, (tt, ((λ h. refl {a = true}), ((λ h. refl {a = true}), (tt, ((λ h. refl {a = true}), ((λ h. matching.matches (structures done)), (tt, ((λ h. refl {a = true}), (tt, (tt, ((λ h. refl {a = true}), ((λ h. refl {a = true}), (tt, ((λ h. refl {a = true}), ((λ h. matching.matches (structures done)), (tt, (tt, (tt, (((refl {a = false}, ((refl {a = false}, tt), tt))), (tt, (((refl {a = false}, tt)), ((λ h. refl {a = true}), ((λ h. refl {a = true}), ((refl {a = of_first}), (tt, (((refl {a = false}, tt)), ((λ h. refl {a = true}), ((λ h. refl {a = true}), ((refl {a = of_second}), ((λ h. absurd (no_yes h)), ((refl {a = list_type of_first}), (tt, (((refl {a = false}, ((refl {a = false}, tt), tt))), ((λ h. refl {a = true}), ((λ h. absurd (no_yes h)), (((refl {a = true}, ((refl {a = true}, tt), tt))), tt)))))))))))))))))))))))))))))))))))))))))))))))))))) })

typed_20 : HasTyping built_in_names two_of_one_tree (up_to two_of_one_asked two_of_one_kept (site (fifth 1) 1))
unfolding constant_by pattern_row expression_row type_expressions.type_row module_expression_row module_type_row item_row signature_item_row
typed_20 = (choice.type_at, record { choice = choice; chosen = λ n. refl; holds = (tt, ((λ h. refl {a = true}), (tt, (tt, (tt, ((λ h. refl {a = true}), (tt, (tt, ((λ h. refl {a = true}), ((λ h. tt), (tt, ((λ h. refl {a = true}), (tt, (tt, ((λ h. refl {a = true}), (tt, (tt, ((λ h. refl {a = true}), ((λ h. refl {a = true}), (tt, ((λ h. refl {a = true}), ((λ h. matching.matches (structures done)), (tt, ((λ h. refl {a = true}), (tt, (tt, ((λ h. refl {a = true}), ((λ h. refl {a = true}), (tt, ((λ h. refl {a = true}), ((λ h. matching.matches (structures done)), (tt, (tt, (tt, (((refl {a = false}, ((refl {a = false}, tt), tt))), (tt, (((refl {a = false}, tt)), ((λ h. refl {a = true}), ((λ h. refl {a = true}), ((refl {a = of_first}), (tt, (((refl {a = false}, tt)), ((λ h. refl {a = true}), ((λ h. refl {a = true}), ((refl {a = of_second}), ((λ h. absurd (no_yes h)), ((refl {a = list_type of_first}), (tt, (((refl {a = false}, ((refl {a = false}, tt), tt))), ((λ h. refl {a = true}), ((λ h. refl {a = list_type of_first}), (((refl {a = true}, ((refl {a = true}, tt), tt))), tt)))))))))))))))))))))))))))))))))))))))))))))))))))) })

abbrev found_body : Option (Environment × Signature) → Environment × Signature
found_body None = ([], Structure Done)
found_body (Some e) = e

abbrev at_end : Environment × Signature
at_end = found_body (body_at (site (first 0) 2) (conditions_of built_in_names two_of_one_tree (before two_of_one_asked two_of_one_kept (site (first 0) 2)) (open_choice [] [])))

-- any types are the most general ones up to there, and nothing is left open
body_general : IsMostGeneralChoice (before two_of_one_asked two_of_one_kept (site (first 0) 2)) (λ choice. conditions_before (site (first 0) 2) (conditions_of built_in_names two_of_one_tree (before two_of_one_asked two_of_one_kept (site (first 0) 2)) choice)) (open_choice [] [])
unfolding constant_by pattern_row expression_row type_expressions.type_row module_expression_row module_type_row item_row signature_item_row
body_general = record { holds = (tt, ((λ h. refl {a = true}), (tt, (tt, (tt, ((λ h. refl {a = true}), (tt, (tt, ((λ h. refl {a = true}), tt))))))))); general = λ other h. is_instance other [] [] tt tt }

closed : Closes built_in_names two_of_one_tree two_of_one_asked two_of_one_kept (site (first 0) 2)
unfolding constant_by pattern_row expression_row type_expressions.type_row module_expression_row module_type_row item_row signature_item_row
closed = record { choice = open_choice [] []; outer = at_end.0; body = at_end.1; general = body_general; stands = refl {a = Some at_end}; closed = record { each = λ v h. absurd (no_yes h) } }

-- whether a type is P.t
abbrev is_of_first : Typ → Bool
is_of_first (Var v) = false
is_of_first (Arrow a b) = false
is_of_first (Tuple ts) = false
is_of_first (Con o ts) = same_path o (third 1 ∷ first 4 ∷ [])

are_two : of_second ≡ of_first → ⊥
are_two e = no_yes (ap is_of_first e)

-- no typing for the one that is refused
refused : IsMetUpTo built_in_names two_of_one_tree (up_to two_of_one_asked two_of_one_kept (site (fifth 3) 0)) (site (fifth 3) 0) → ⊥
unfolding constant_by pattern_row expression_row type_expressions.type_row module_expression_row module_type_row item_row signature_item_row
refused t =
    let h = t.holds in
    let at : ℕ → Typ = t.choice.type_at in
    let one : at (fifth 4) ≡ of_first = h.1.1.1.1.1.1.1.1.1.1.1.1.1.1.1.1.1.1.1.1.1.1.1.1.1.1.1.1.1.1.1.1.1.1.1.1.1.1.1.0 in
    let other : at (fifth 5) ≡ of_second = h.1.1.1.1.1.1.1.1.1.1.1.1.1.1.1.1.1.1.1.1.1.1.1.1.1.1.1.1.1.1.1.1.1.1.1.1.1.1.1.1.1.1.1.1.0 in
    let both : at (fifth 5) ≡ at (fifth 4) = h.1.1.1.1.1.1.1.1.1.1.1.1.1.1.1.1.1.1.1.1.1.1.1.1.1.1.1.1.1.1.1.1.1.1.1.1.1.1.1.1.1.1.1.1.1.0 refl in
    are_two (sym other ∙ both ∙ one)

-- the kept demands
pub kept_ones : IsKept built_in_names (parsed two_of_one) (kept_at two_of_one_kept)
kept_ones =
    subst (λ text. IsKept built_in_names text (kept_at two_of_one_kept)) (sym is_parsed)
    (keeps_one_closing built_in_names two_of_one_tree two_of_one_asked two_of_one_kept (site (first 0) 2) all closings refl (refl, (refl, (refl, (refl, (refl, (refl, (refl, (refl, (refl, (refl, (refl, (refl, (refl, (refl, (refl, (refl, (refl, (refl, (refl, (refl, (refl, tt))))))))))))))))))))) (typed_0, (typed_1, (typed_2, (typed_3, (typed_4, (typed_5, (typed_6, (typed_7, (typed_8, (typed_9, (typed_10, (typed_11, (typed_12, (typed_13, (typed_14, (typed_15, (typed_16, (typed_17, (typed_18, (typed_19, (typed_20, tt)))))))))))))))))))))
    ((λ k t. yes_no k), ((λ k t. yes_no k), ((λ k t. yes_no k), ((λ k t. yes_no k), ((λ k t. yes_no k), ((λ k t. yes_no k), ((λ k t. yes_no k), ((λ k t. yes_no k), ((λ k t. yes_no k), ((λ k t. yes_no k), ((λ k t. yes_no k), ((λ k t. yes_no k), ((λ k t. yes_no k), ((λ k t. yes_no k), ((λ k t. yes_no k), ((λ k t. yes_no k), ((λ k t. yes_no k), ((λ k t. yes_no k), ((λ k t. yes_no k), ((λ k t. refused t), ((λ k t. yes_no k), ((λ k t. yes_no k), tt)))))))))))))))))))))) closed)

-- the most general types before the fault
abbrev types : List (ℕ × Typ)
types = (fifth 3, list_type of_first) ∷ (fifth 4, of_first) ∷ (fifth 5, of_second) ∷ []

general : IsMostGeneralChoice (before two_of_one_asked two_of_one_kept (site (fifth 3) 0)) (conditions_of built_in_names two_of_one_tree (before two_of_one_asked two_of_one_kept (site (fifth 3) 0))) (open_choice types [])
unfolding constant_by pattern_row expression_row type_expressions.type_row module_expression_row module_type_row item_row signature_item_row
general = record {
  holds = (tt, ((λ h. refl {a = true}), (tt, (tt, (tt, ((λ h. refl {a = true}), (tt, (tt, ((λ h. refl {a = true}), ((λ h. tt), (tt, ((λ h. refl {a = true}), (tt, (tt, ((λ h. refl {a = true}), (tt, (tt, ((λ h. refl {a = true}), ((λ h. refl {a = true}), (tt, ((λ h. refl {a = true}), ((λ h. matching.matches (structures done)), (tt, ((λ h. refl {a = true}), (tt, (tt, ((λ h. refl {a = true}), ((λ h. refl {a = true}), (tt, ((λ h. refl {a = true}), ((λ h. matching.matches (structures done)), (tt, (tt, (tt, (((refl {a = false}, ((refl {a = false}, tt), tt))), (tt, (((refl {a = false}, tt)), ((λ h. refl {a = true}), ((λ h. refl {a = true}), ((refl {a = of_first}), (tt, (((refl {a = false}, tt)), ((λ h. refl {a = true}), ((λ h. refl {a = true}), ((refl {a = of_second}), ((λ h. absurd (no_yes h)), ((refl {a = list_type of_first}), (tt, ((tt), ((λ h. absurd (no_yes h)), ((λ h. absurd (no_yes h)), ((tt), tt))))))))))))))))))))))))))))))))))))))))))))))))))));
  general = λ other h.
      let at : ℕ → Typ = other.type_at in
      let one : at (fifth 4) ≡ of_first = h.1.1.1.1.1.1.1.1.1.1.1.1.1.1.1.1.1.1.1.1.1.1.1.1.1.1.1.1.1.1.1.1.1.1.1.1.1.1.1.0 in
      let second_one : at (fifth 5) ≡ of_second = h.1.1.1.1.1.1.1.1.1.1.1.1.1.1.1.1.1.1.1.1.1.1.1.1.1.1.1.1.1.1.1.1.1.1.1.1.1.1.1.1.1.1.1.1.0 in
      is_instance other types [] (h.1.1.1.1.1.1.1.1.1.1.1.1.1.1.1.1.1.1.1.1.1.1.1.1.1.1.1.1.1.1.1.1.1.1.1.1.1.1.1.1.1.1.1.1.1.1.0 ∙ ap list_type one, (one, (second_one, tt))) tt;
}

abbrev found : Option Environment → Environment
found None = []
found (Some e) = e

abbrev pub scope : Environment
scope = found (environment_of (fifth 3) (conditions_of built_in_names two_of_one_tree (before two_of_one_asked two_of_one_kept (site (fifth 3) 0)) (open_choice types [])))

no_cycle : IsCycle of_second of_first → ⊥
no_cycle (v, inl e) = con_is_no_variable (fourth 1 ∷ first 4 ∷ []) Nil v e.0
no_cycle (v, inr e) = con_is_no_variable (third 1 ∷ first 4 ∷ []) Nil v e.0

differs : Differ of_second of_first plain
differs = apart no_cycle (λ one. are_two one.1)

-- the fault
pub is_a_fault : IsFaultAt built_in_names (parsed two_of_one) (kept_at two_of_one_kept) (site (fifth 3) 0) (record { at = place 115 118; told = types_differ (Con (fourth 1 ∷ first 4 ∷ []) Nil) (Con (third 1 ∷ first 4 ∷ []) Nil) plain; env = scope })
unfolding constant_by pattern_row expression_row type_expressions.type_row module_expression_row module_type_row item_row signature_item_row
is_a_fault =
    subst (λ text. IsFaultAt built_in_names text (kept_at two_of_one_kept) (site (fifth 3) 0) (record { at = place 115 118; told = types_differ of_second of_first plain; env = scope })) (sym is_parsed)
    (is_fault built_in_names two_of_one_tree two_of_one_asked two_of_one_kept (site (fifth 3) 0) (record { at = place 115 118; told = types_differ of_second of_first plain; env = scope }) (open_choice types []) (equal of_second of_first) all refl refl general (refl {a = Some (place 115 118, equal of_second of_first)}) (by_types differs) (refl {a = Some scope}))
