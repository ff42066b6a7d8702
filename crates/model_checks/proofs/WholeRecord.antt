-- type t = { a : int } let r = { a = 1 }: its trees, its kept demands, and its most general types.
use Rattle.std.proofs.Common.{◌≡◌, ℕ, true, false, List, [], ◌∷◌, codes, refl, sym, ◌∙◌, subst}
use Rattle.tree_model.specs.Trees.{Tree, no_parts, part, taken, inner}
use Rattle.tree_model.specs.Extents.{node_over}
use Rattle.type_model.specs.Types.{Typ, Var, Con, Nil}
use Rattle.typing_model.specs.BuiltIns.{built_in_names, int_type}
use Rattle.typing_model.specs.Contexts.{Choice}
use Rattle.typing_model.specs.Demands.{Site, site}
use Rattle.typing_model.specs.Typings.{conditions_of, no_choice, demands_of, HasTyping, IsKept, IsMostGeneralChoice}
use Rattle.model_checks.specs.Typings.{first, second, choice_of}
use Rattle.model_checks.specs.Kept.{kept_at}
use Rattle.model_checks.specs.Open.{open_choice}
use Rattle.model_checks.proofs.Apart.{yes_no}
use Rattle.model_checks.proofs.Keeping.{up_to, no_closing, keeps}
use Rattle.model_checks.proofs.Coding.{is_instance}
use Rattle.tree_model.specs.Slots.{is_operand}
use Rattle.grammar_model.specs.Rows.{chain_of, grower_of}
use Rattle.grammar_model.specs.Ocaml.{rows}
use Rattle.grammar_model.specs.Tables.{first_place}
use Rattle.grammar_model.specs.Keys.{kind_key, key_of}
use Rattle.recovery_model.specs.Steps as rules
use Rattle.recovery_model.specs.Recovery.{step, close, recover}
use Rattle.typing_model.specs.BuiltIns.{constant_by}
use Rattle.typing_model.specs.Patterns.{pattern_row}
use Rattle.typing_model.specs.Expressions.{expression_row}
use Rattle.typing_model.specs.TypeExpressions as type_expressions
use Rattle.typing_model.specs.Modules.{module_expression_row, module_type_row, item_row, signature_item_row}
use Rattle.signature_model.specs.Declarations.{unknown}
use Rattle.typing_model.specs.Typings.{IsPrincipal}
use Rattle.model_checks.specs.Open.{open_types}
use Rattle.model_checks.proofs.Keeping.{is_principal}
use Rattle.tree_model.specs.Rows as rows_of
use Rattle.tree_model.specs.Rows.{let_row, binding_row, pname_row, name_row, econst_row, decl_row, head_row, record_row, label_row, tcon_row, erecord_row}
use Rattle.token_model.specs.Kinds.{let_word, lower, op9, int, type_word, left_brace, right_brace, colon}
use Rattle.model_checks.specs.Texts.{tok, parsed, whole_record}
use Rattle.model_checks.specs.Kept.{whole_record_kept}
use Rattle.model_checks.specs.Chosen.{record_types}

-- its tree
abbrev pub whole_record_tree : List Tree
whole_record_tree = (node_over rows_of.type_row (part 0 (taken (tok type_word 0 4 (codes "type"))) (part 2 (inner (node_over decl_row (part 0 (inner (node_over head_row (part 4 (taken (tok lower 5 6 (codes "t"))) no_parts))) (part 1 (taken (tok op9 7 8 (codes "="))) (part 2 (inner (node_over record_row (part 0 (taken (tok left_brace 9 10 (codes "{"))) (part 1 (inner (node_over label_row (part 1 (taken (tok lower 11 12 (codes "a"))) (part 2 (taken (tok colon 13 14 (codes ":"))) (part 3 (inner (node_over tcon_row (part 1 (taken (tok lower 15 18 (codes "int"))) no_parts))) no_parts))))) (part 3 (taken (tok right_brace 19 20 (codes "}"))) no_parts))))) no_parts))))) no_parts))) ∷ (node_over let_row (part 0 (taken (tok let_word 21 24 (codes "let"))) (part 2 (inner (node_over binding_row (part 0 (inner (node_over pname_row (part 0 (taken (tok lower 25 26 (codes "r"))) no_parts))) (part 4 (taken (tok op9 27 28 (codes "="))) (part 5 (inner (node_over erecord_row (part 0 (taken (tok left_brace 29 30 (codes "{"))) (part 1 (inner (node_over name_row (part 0 (taken (tok lower 31 32 (codes "a"))) no_parts))) (part 2 (taken (tok op9 33 34 (codes "="))) (part 3 (inner (node_over econst_row (part 0 (taken (tok int 35 36 (codes "1"))) no_parts))) (part 7 (taken (tok right_brace 37 38 (codes "}"))) no_parts))))))) no_parts))))) no_parts))) ∷ []

-- the parser gives it
pub is_parsed : parsed whole_record ≡ whole_record_tree
unfolding recover step close rules.step rows chain_of grower_of first_place kind_key key_of is_operand
is_parsed = refl

-- types that keep all demands, for that of int
abbrev choice : Typ → Choice
choice t = choice_of ((first 5, t) ∷ (second 2, Con (first 1 ∷ []) Nil) ∷ (second 3, Con (first 1 ∷ []) Nil) ∷ (second 5, int_type) ∷ []) (λ n k. Var 0)

-- all demands
abbrev pub whole_record_asked : List Site
whole_record_asked = site (first 1) 0 ∷ site (first 5) 0 ∷ site (first 5) 1 ∷ site (first 4) 0 ∷ site (second 3) 1 ∷ site (second 4) 0 ∷ site (second 5) 0 ∷ site (second 4) 2 ∷ site (second 2) 0 ∷ site (second 1) 1 ∷ []

pub all : demands_of built_in_names whole_record_tree (kept_at whole_record_kept) ≡ whole_record_asked
unfolding constant_by pattern_row expression_row type_expressions.type_row module_expression_row module_type_row item_row signature_item_row
all = refl

-- no demand is a `closing`
open_ : no_closing (conditions_of built_in_names whole_record_tree (kept_at whole_record_kept) no_choice) ≡ true
unfolding constant_by pattern_row expression_row type_expressions.type_row module_expression_row module_type_row item_row signature_item_row
open_ = refl

-- a typing for each kept demand, with those before it
typed_0 : HasTyping built_in_names whole_record_tree (up_to whole_record_asked whole_record_kept (site (first 1) 0))
unfolding constant_by pattern_row expression_row type_expressions.type_row module_expression_row module_type_row item_row signature_item_row
typed_0 = ((choice (unknown (first 5 ∷ []))).type_at, record { choice = (choice (unknown (first 5 ∷ []))); chosen = λ n. refl; holds = ((tt), ((λ h. refl {a = true}), ((tt), ((tt), ((tt), ((λ h. refl {a = true}), ((refl {a = unknown (first 5 ∷ [])}), ((λ h. refl {a = true}), ((tt), ((tt), ((tt), (((refl {a = false}, tt)), ((λ h. refl {a = true}), ((tt), ((tt), (((refl {a = false}, tt)), ((λ h. refl {a = true}), ((refl {a = int_type}), ((tt), (((refl {a = false}, tt)), ((λ h. refl {a = true}), ((λ h. refl {a = Con (first 1 ∷ []) Nil}), (((refl {a = true}, tt)), tt))))))))))))))))))))))) })

typed_1 : HasTyping built_in_names whole_record_tree (up_to whole_record_asked whole_record_kept (site (first 5) 0))
unfolding constant_by pattern_row expression_row type_expressions.type_row module_expression_row module_type_row item_row signature_item_row
typed_1 = ((choice (unknown (first 5 ∷ []))).type_at, record { choice = (choice (unknown (first 5 ∷ []))); chosen = λ n. refl; holds = ((tt), ((λ h. refl {a = true}), ((tt), ((tt), ((tt), ((λ h. refl {a = true}), ((λ h. refl {a = true}), ((refl {a = unknown (first 5 ∷ [])}), ((λ h. refl {a = true}), ((tt), ((tt), ((tt), (((refl {a = false}, tt)), ((λ h. refl {a = true}), ((tt), ((tt), (((refl {a = false}, tt)), ((λ h. refl {a = true}), ((refl {a = int_type}), ((tt), (((refl {a = false}, tt)), ((λ h. refl {a = true}), ((λ h. refl {a = Con (first 1 ∷ []) Nil}), (((refl {a = true}, tt)), tt)))))))))))))))))))))))) })

typed_2 : HasTyping built_in_names whole_record_tree (up_to whole_record_asked whole_record_kept (site (first 5) 1))
unfolding constant_by pattern_row expression_row type_expressions.type_row module_expression_row module_type_row item_row signature_item_row
typed_2 = ((choice (int_type)).type_at, record { choice = (choice (int_type)); chosen = λ n. refl; holds = ((tt), ((λ h. refl {a = true}), ((tt), ((tt), ((tt), ((λ h. refl {a = true}), ((λ h. refl {a = true}), ((refl {a = int_type}), ((λ h. refl {a = true}), ((tt), ((tt), ((tt), (((refl {a = false}, tt)), ((λ h. refl {a = true}), ((tt), ((tt), (((refl {a = false}, tt)), ((λ h. refl {a = true}), ((refl {a = int_type}), ((tt), (((refl {a = false}, tt)), ((λ h. refl {a = true}), ((λ h. refl {a = Con (first 1 ∷ []) Nil}), (((refl {a = true}, tt)), tt)))))))))))))))))))))))) })

typed_3 : HasTyping built_in_names whole_record_tree (up_to whole_record_asked whole_record_kept (site (first 4) 0))
unfolding constant_by pattern_row expression_row type_expressions.type_row module_expression_row module_type_row item_row signature_item_row
typed_3 = ((choice (int_type)).type_at, record { choice = (choice (int_type)); chosen = λ n. refl; holds = ((tt), ((λ h. refl {a = true}), ((tt), ((tt), ((tt), ((λ h. refl {a = true}), ((λ h. refl {a = true}), ((refl {a = int_type}), ((λ h. refl {a = true}), ((tt), ((tt), ((tt), (((refl {a = false}, tt)), ((λ h. refl {a = true}), ((tt), ((tt), (((refl {a = false}, tt)), ((λ h. refl {a = true}), ((refl {a = int_type}), ((tt), (((refl {a = false}, tt)), ((λ h. refl {a = true}), ((λ h. refl {a = Con (first 1 ∷ []) Nil}), (((refl {a = true}, tt)), tt)))))))))))))))))))))))) })

typed_4 : HasTyping built_in_names whole_record_tree (up_to whole_record_asked whole_record_kept (site (second 3) 1))
unfolding constant_by pattern_row expression_row type_expressions.type_row module_expression_row module_type_row item_row signature_item_row
typed_4 = ((choice (int_type)).type_at, record { choice = (choice (int_type)); chosen = λ n. refl; holds = ((tt), ((λ h. refl {a = true}), ((tt), ((tt), ((tt), ((λ h. refl {a = true}), ((λ h. refl {a = true}), ((refl {a = int_type}), ((λ h. refl {a = true}), ((tt), ((tt), ((tt), (((refl {a = false}, tt)), ((λ h. refl {a = true}), ((tt), ((λ h. refl {a = true}), ((tt), (((refl {a = false}, tt)), ((λ h. refl {a = true}), ((refl {a = int_type}), ((λ h. refl {a = int_type}), ((refl {a = Con (first 1 ∷ []) Nil}), ((tt), (((refl {a = false}, tt)), ((λ h. refl {a = true}), ((λ h. refl {a = Con (first 1 ∷ []) Nil}), (((refl {a = true}, tt)), tt))))))))))))))))))))))))))) })

typed_5 : HasTyping built_in_names whole_record_tree (up_to whole_record_asked whole_record_kept (site (second 4) 0))
unfolding constant_by pattern_row expression_row type_expressions.type_row module_expression_row module_type_row item_row signature_item_row
typed_5 = ((choice (int_type)).type_at, record { choice = (choice (int_type)); chosen = λ n. refl; holds = ((tt), ((λ h. refl {a = true}), ((tt), ((tt), ((tt), ((λ h. refl {a = true}), ((λ h. refl {a = true}), ((refl {a = int_type}), ((λ h. refl {a = true}), ((tt), ((tt), ((tt), (((refl {a = false}, tt)), ((λ h. refl {a = true}), ((tt), ((λ h. refl {a = true}), ((tt), (((refl {a = false}, tt)), ((λ h. refl {a = true}), ((refl {a = int_type}), ((λ h. refl {a = int_type}), ((refl {a = Con (first 1 ∷ []) Nil}), ((tt), (((refl {a = false}, tt)), ((λ h. refl {a = true}), ((λ h. refl {a = Con (first 1 ∷ []) Nil}), (((refl {a = true}, tt)), tt))))))))))))))))))))))))))) })

typed_6 : HasTyping built_in_names whole_record_tree (up_to whole_record_asked whole_record_kept (site (second 5) 0))
unfolding constant_by pattern_row expression_row type_expressions.type_row module_expression_row module_type_row item_row signature_item_row
typed_6 = ((choice (int_type)).type_at, record { choice = (choice (int_type)); chosen = λ n. refl; holds = ((tt), ((λ h. refl {a = true}), ((tt), ((tt), ((tt), ((λ h. refl {a = true}), ((λ h. refl {a = true}), ((refl {a = int_type}), ((λ h. refl {a = true}), ((tt), ((tt), ((tt), (((refl {a = false}, tt)), ((λ h. refl {a = true}), ((tt), ((λ h. refl {a = true}), ((tt), (((refl {a = false}, tt)), ((λ h. refl {a = true}), ((refl {a = int_type}), ((λ h. refl {a = int_type}), ((refl {a = Con (first 1 ∷ []) Nil}), ((tt), (((refl {a = false}, tt)), ((λ h. refl {a = true}), ((λ h. refl {a = Con (first 1 ∷ []) Nil}), (((refl {a = true}, tt)), tt))))))))))))))))))))))))))) })

typed_7 : HasTyping built_in_names whole_record_tree (up_to whole_record_asked whole_record_kept (site (second 4) 2))
unfolding constant_by pattern_row expression_row type_expressions.type_row module_expression_row module_type_row item_row signature_item_row
typed_7 = ((choice (int_type)).type_at, record { choice = (choice (int_type)); chosen = λ n. refl; holds = ((tt), ((λ h. refl {a = true}), ((tt), ((tt), ((tt), ((λ h. refl {a = true}), ((λ h. refl {a = true}), ((refl {a = int_type}), ((λ h. refl {a = true}), ((tt), ((tt), ((tt), (((refl {a = false}, tt)), ((λ h. refl {a = true}), ((tt), ((λ h. refl {a = true}), ((tt), (((refl {a = false}, tt)), ((λ h. refl {a = true}), ((refl {a = int_type}), ((λ h. refl {a = int_type}), ((refl {a = Con (first 1 ∷ []) Nil}), ((tt), (((refl {a = false}, tt)), ((λ h. refl {a = true}), ((λ h. refl {a = Con (first 1 ∷ []) Nil}), (((refl {a = true}, tt)), tt))))))))))))))))))))))))))) })

typed_8 : HasTyping built_in_names whole_record_tree (up_to whole_record_asked whole_record_kept (site (second 2) 0))
unfolding constant_by pattern_row expression_row type_expressions.type_row module_expression_row module_type_row item_row signature_item_row
typed_8 = ((choice (int_type)).type_at, record { choice = (choice (int_type)); chosen = λ n. refl; holds = ((tt), ((λ h. refl {a = true}), ((tt), ((tt), ((tt), ((λ h. refl {a = true}), ((λ h. refl {a = true}), ((refl {a = int_type}), ((λ h. refl {a = true}), ((tt), ((tt), ((tt), (((refl {a = false}, tt)), ((λ h. refl {a = true}), ((tt), ((λ h. refl {a = true}), ((tt), (((refl {a = false}, tt)), ((λ h. refl {a = true}), ((refl {a = int_type}), ((λ h. refl {a = int_type}), ((refl {a = Con (first 1 ∷ []) Nil}), ((tt), (((refl {a = false}, tt)), ((λ h. refl {a = true}), ((λ h. refl {a = Con (first 1 ∷ []) Nil}), (((refl {a = true}, tt)), tt))))))))))))))))))))))))))) })

typed_9 : HasTyping built_in_names whole_record_tree (up_to whole_record_asked whole_record_kept (site (second 1) 1))
unfolding constant_by pattern_row expression_row type_expressions.type_row module_expression_row module_type_row item_row signature_item_row
typed_9 = ((choice (int_type)).type_at, record { choice = (choice (int_type)); chosen = λ n. refl; holds = ((tt), ((λ h. refl {a = true}), ((tt), ((tt), ((tt), ((λ h. refl {a = true}), ((λ h. refl {a = true}), ((refl {a = int_type}), ((λ h. refl {a = true}), ((tt), ((tt), ((tt), (((refl {a = false}, tt)), ((λ h. refl {a = true}), ((tt), ((λ h. refl {a = true}), ((tt), (((refl {a = false}, tt)), ((λ h. refl {a = true}), ((refl {a = int_type}), ((λ h. refl {a = int_type}), ((refl {a = Con (first 1 ∷ []) Nil}), ((tt), (((refl {a = false}, tt)), ((λ h. refl {a = true}), ((λ h. refl {a = Con (first 1 ∷ []) Nil}), (((refl {a = true}, tt)), tt))))))))))))))))))))))))))) })

-- the kept demands
pub kept_ones : IsKept built_in_names (parsed whole_record) (kept_at whole_record_kept)
kept_ones =
    subst (λ text. IsKept built_in_names text (kept_at whole_record_kept)) (sym is_parsed)
    (keeps built_in_names whole_record_tree whole_record_asked whole_record_kept all open_ ((refl), ((refl), ((refl), ((refl), ((refl), ((refl), ((refl), ((refl), ((refl), ((refl), tt)))))))))) ((typed_0), ((typed_1), ((typed_2), ((typed_3), ((typed_4), ((typed_5), ((typed_6), ((typed_7), ((typed_8), ((typed_9), tt))))))))))
    ((λ k t. yes_no k), ((λ k t. yes_no k), ((λ k t. yes_no k), ((λ k t. yes_no k), ((λ k t. yes_no k), ((λ k t. yes_no k), ((λ k t. yes_no k), ((λ k t. yes_no k), ((λ k t. yes_no k), ((λ k t. yes_no k), tt)))))))))))

abbrev letters : List (ℕ × ℕ × Typ)
letters = []

-- the types are the most general ones
general : IsMostGeneralChoice (kept_at whole_record_kept) (conditions_of built_in_names whole_record_tree (kept_at whole_record_kept)) (open_choice record_types letters)
unfolding constant_by pattern_row expression_row type_expressions.type_row module_expression_row module_type_row item_row signature_item_row
general = record {
  holds = ((tt), ((λ h. refl {a = true}), ((tt), ((tt), ((tt), ((λ h. refl {a = true}), ((λ h. refl {a = true}), ((refl {a = int_type}), ((λ h. refl {a = true}), ((tt), ((tt), ((tt), (((refl {a = false}, tt)), ((λ h. refl {a = true}), ((tt), ((λ h. refl {a = true}), ((tt), (((refl {a = false}, tt)), ((λ h. refl {a = true}), ((refl {a = int_type}), ((λ h. refl {a = int_type}), ((refl {a = Con (first 1 ∷ []) Nil}), ((tt), (((refl {a = false}, tt)), ((λ h. refl {a = true}), ((λ h. refl {a = Con (first 1 ∷ []) Nil}), (((refl {a = true}, tt)), tt)))))))))))))))))))))))))));
  general = λ other h.
      let at : ℕ → Typ = other.type_at in
      is_instance other record_types letters (h.1.1.1.1.1.1.1.0, (h.1.1.1.1.1.1.1.1.1.1.1.1.1.1.1.1.1.1.1.1.1.1.1.1.1.0 refl ∙ h.1.1.1.1.1.1.1.1.1.1.1.1.1.1.1.1.1.1.1.1.1.0, (h.1.1.1.1.1.1.1.1.1.1.1.1.1.1.1.1.1.1.1.1.1.0, (h.1.1.1.1.1.1.1.1.1.1.1.1.1.1.1.1.1.1.1.0, tt)))) tt;
}

pub principal : IsPrincipal built_in_names (parsed whole_record) (kept_at whole_record_kept) (open_types record_types)
principal =
    subst (λ text. IsPrincipal built_in_names text (kept_at whole_record_kept) (open_types record_types)) (sym is_parsed)
    (is_principal (kept_at whole_record_kept) (conditions_of built_in_names whole_record_tree (kept_at whole_record_kept)) (open_choice record_types letters) general)
