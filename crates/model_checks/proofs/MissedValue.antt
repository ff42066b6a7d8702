-- let f x = match x with true -> 1: its tree, its kept demands, and its most general types.
use Rattle.std.proofs.Common.{◌≡◌, ℕ, true, false, List, [], ◌∷◌, codes, refl, sym, ◌∙◌, ap, subst}
use Rattle.tree_model.specs.Trees.{Tree, no_parts, part, taken, inner}
use Rattle.tree_model.specs.Extents.{node_over}
use Rattle.type_model.specs.Types.{Typ, Var, Arrow}
use Rattle.typing_model.specs.BuiltIns.{built_in_names, int_type, bool_type}
use Rattle.typing_model.specs.Contexts.{Choice}
use Rattle.typing_model.specs.Demands.{Site, site}
use Rattle.typing_model.specs.Typings.{conditions_of, no_choice, demands_of, HasTyping, IsKept, IsMostGeneralChoice}
use Rattle.model_checks.specs.Typings.{first, choice_of}
use Rattle.model_checks.specs.Kept.{kept_at}
use Rattle.model_checks.specs.Open.{open_choice}
use Rattle.model_checks.proofs.Apart.{yes_no}
use Rattle.model_checks.proofs.Keeping.{up_to, no_closing, keeps}
use Rattle.model_checks.proofs.Coding.{is_instance}
use Rattle.model_checks.proofs.Uses.{use_of_one}
use Rattle.tree_model.specs.Slots.{is_operand}
use Rattle.grammar_model.specs.Rows.{chain_of, grower_of}
use Rattle.grammar_model.specs.Ocaml.{rows}
use Rattle.grammar_model.specs.Tables.{first_place}
use Rattle.grammar_model.specs.Keys.{kind_key, key_of}
use Rattle.recovery_model.specs.Steps as rules
use Rattle.recovery_model.specs.Recovery.{step, close, recover}
use Rattle.typing_model.specs.BuiltIns.{constant_by}
use Rattle.typing_model.specs.Patterns.{pattern_row}
use Rattle.typing_model.specs.Expressions.{expression_row}
use Rattle.typing_model.specs.TypeExpressions.{type_row}
use Rattle.typing_model.specs.Modules.{module_expression_row, module_type_row, item_row, signature_item_row}
use Rattle.typing_model.specs.Typings.{IsPrincipal}
use Rattle.model_checks.specs.Open.{open_types}
use Rattle.model_checks.proofs.Keeping.{is_principal}
use Rattle.tree_model.specs.Rows.{let_row, binding_row, pname_row, pconst_row, name_row, econst_row, ematch_row, case_row}
use Rattle.token_model.specs.Kinds.{let_word, lower, op9, int, match_word, with_word, true_word, arrow}
use Rattle.model_checks.specs.Texts.{tok, parsed, missed_value}
use Rattle.model_checks.specs.Kept.{missed_value_kept}
use Rattle.model_checks.specs.Chosen.{match_types}

-- its tree
abbrev pub missed_value_tree : List Tree
missed_value_tree = (node_over let_row (part 0 (taken (tok let_word 0 3 (codes "let"))) (part 2 (inner (node_over binding_row (part 0 (inner (node_over pname_row (part 0 (taken (tok lower 4 5 (codes "f"))) no_parts))) (part 1 (inner (node_over pname_row (part 0 (taken (tok lower 6 7 (codes "x"))) no_parts))) (part 4 (taken (tok op9 8 9 (codes "="))) (part 5 (inner (node_over ematch_row (part 0 (taken (tok match_word 10 15 (codes "match"))) (part 1 (inner (node_over name_row (part 0 (taken (tok lower 16 17 (codes "x"))) no_parts))) (part 2 (taken (tok with_word 18 22 (codes "with"))) (part 4 (inner (node_over case_row (part 0 (inner (node_over pconst_row (part 0 (taken (tok true_word 23 27 (codes "true"))) no_parts))) (part 3 (taken (tok arrow 28 30 (codes "->"))) (part 4 (inner (node_over econst_row (part 0 (taken (tok int 31 32 (codes "1"))) no_parts))) no_parts))))) no_parts)))))) no_parts)))))) no_parts))) ∷ []

-- the parser gives it
pub is_parsed : parsed missed_value ≡ missed_value_tree
unfolding recover step close rules.step rows chain_of grower_of first_place kind_key key_of is_operand
is_parsed = refl

-- types that keep all demands
abbrev choice : Choice
choice = choice_of match_types (λ n k. Var 0)

-- all demands
abbrev pub missed_value_asked : List Site
missed_value_asked = site (first 3) 0 ∷ site (first 5) 0 ∷ site (first 4) 0 ∷ site (first 8) 0 ∷ site (first 2) 0 ∷ site (first 1) 1 ∷ []

pub all : demands_of built_in_names missed_value_tree (kept_at missed_value_kept) ≡ missed_value_asked
unfolding constant_by pattern_row expression_row type_row module_expression_row module_type_row item_row signature_item_row
all = refl

-- no demand is a `closing`
open_ : no_closing (conditions_of built_in_names missed_value_tree (kept_at missed_value_kept) no_choice) ≡ true
unfolding constant_by pattern_row expression_row type_row module_expression_row module_type_row item_row signature_item_row
open_ = refl

-- a typing for each kept demand, with those before it
typed_0 : HasTyping built_in_names missed_value_tree (up_to missed_value_asked missed_value_kept (site (first 3) 0))
unfolding constant_by pattern_row expression_row type_row module_expression_row module_type_row item_row signature_item_row
typed_0 = (choice.type_at, record { choice = choice; chosen = λ n. refl; holds = ((tt), ((tt), ((tt), (((refl {a = false}, tt)), ((λ h. refl {a = true}), ((tt), (((refl {a = false}, tt)), ((tt), (((refl {a = false}, tt)), ((λ h. refl {a = true}), ((tt), ((tt), (((refl {a = false}, tt)), ((refl {a = bool_type}), ((λ h. refl {a = bool_type}), ((tt), (((refl {a = false}, tt)), ((λ h. refl {a = true}), ((refl {a = int_type}), ((refl {a = int_type}), ((tt), ((((refl {a = false}, tt), (refl {a = false}, tt))), ((λ h. refl {a = true}), ((λ h. refl {a = Arrow bool_type int_type}), ((((refl {a = true}, tt), (refl {a = true}, tt))), tt))))))))))))))))))))))))) })

typed_1 : HasTyping built_in_names missed_value_tree (up_to missed_value_asked missed_value_kept (site (first 5) 0))
unfolding constant_by pattern_row expression_row type_row module_expression_row module_type_row item_row signature_item_row
typed_1 = (choice.type_at, record { choice = choice; chosen = λ n. refl; holds = ((tt), ((tt), ((tt), (((refl {a = false}, tt)), ((λ h. refl {a = true}), ((tt), (((refl {a = false}, tt)), ((tt), (((refl {a = false}, tt)), ((λ h. refl {a = true}), ((record { fill = λ o. int_type; instance = ((λ v. Var v), (λ v h. refl {a = Var v}), refl {a = bool_type}) }), ((tt), ((tt), (((refl {a = false}, tt)), ((refl {a = bool_type}), ((λ h. refl {a = bool_type}), ((tt), (((refl {a = false}, tt)), ((λ h. refl {a = true}), ((refl {a = int_type}), ((refl {a = int_type}), ((tt), ((((refl {a = false}, tt), (refl {a = false}, tt))), ((λ h. refl {a = true}), ((λ h. refl {a = Arrow bool_type int_type}), ((((refl {a = true}, tt), (refl {a = true}, tt))), tt)))))))))))))))))))))))))) })

typed_2 : HasTyping built_in_names missed_value_tree (up_to missed_value_asked missed_value_kept (site (first 4) 0))
unfolding constant_by pattern_row expression_row type_row module_expression_row module_type_row item_row signature_item_row
typed_2 = (choice.type_at, record { choice = choice; chosen = λ n. refl; holds = ((tt), ((tt), ((tt), (((refl {a = false}, tt)), ((λ h. refl {a = true}), ((tt), (((refl {a = false}, tt)), ((tt), (((refl {a = false}, tt)), ((λ h. refl {a = true}), ((record { fill = λ o. int_type; instance = ((λ v. Var v), (λ v h. refl {a = Var v}), refl {a = bool_type}) }), ((tt), ((tt), (((refl {a = false}, tt)), ((refl {a = bool_type}), ((λ h. refl {a = bool_type}), ((tt), (((refl {a = false}, tt)), ((λ h. refl {a = true}), ((refl {a = int_type}), ((refl {a = int_type}), ((tt), ((((refl {a = false}, tt), (refl {a = false}, tt))), ((λ h. refl {a = true}), ((λ h. refl {a = Arrow bool_type int_type}), ((((refl {a = true}, tt), (refl {a = true}, tt))), tt)))))))))))))))))))))))))) })

typed_3 : HasTyping built_in_names missed_value_tree (up_to missed_value_asked missed_value_kept (site (first 8) 0))
unfolding constant_by pattern_row expression_row type_row module_expression_row module_type_row item_row signature_item_row
typed_3 = (choice.type_at, record { choice = choice; chosen = λ n. refl; holds = ((tt), ((tt), ((tt), (((refl {a = false}, tt)), ((λ h. refl {a = true}), ((tt), (((refl {a = false}, tt)), ((tt), (((refl {a = false}, tt)), ((λ h. refl {a = true}), ((record { fill = λ o. int_type; instance = ((λ v. Var v), (λ v h. refl {a = Var v}), refl {a = bool_type}) }), ((tt), ((tt), (((refl {a = false}, tt)), ((refl {a = bool_type}), ((λ h. refl {a = bool_type}), ((tt), (((refl {a = false}, tt)), ((λ h. refl {a = true}), ((refl {a = int_type}), ((refl {a = int_type}), ((tt), ((((refl {a = false}, tt), (refl {a = false}, tt))), ((λ h. refl {a = true}), ((λ h. refl {a = Arrow bool_type int_type}), ((((refl {a = true}, tt), (refl {a = true}, tt))), tt)))))))))))))))))))))))))) })

typed_4 : HasTyping built_in_names missed_value_tree (up_to missed_value_asked missed_value_kept (site (first 2) 0))
unfolding constant_by pattern_row expression_row type_row module_expression_row module_type_row item_row signature_item_row
typed_4 = (choice.type_at, record { choice = choice; chosen = λ n. refl; holds = ((tt), ((tt), ((tt), (((refl {a = false}, tt)), ((λ h. refl {a = true}), ((tt), (((refl {a = false}, tt)), ((tt), (((refl {a = false}, tt)), ((λ h. refl {a = true}), ((record { fill = λ o. int_type; instance = ((λ v. Var v), (λ v h. refl {a = Var v}), refl {a = bool_type}) }), ((tt), ((tt), (((refl {a = false}, tt)), ((refl {a = bool_type}), ((λ h. refl {a = bool_type}), ((tt), (((refl {a = false}, tt)), ((λ h. refl {a = true}), ((refl {a = int_type}), ((refl {a = int_type}), ((tt), ((((refl {a = false}, tt), (refl {a = false}, tt))), ((λ h. refl {a = true}), ((λ h. refl {a = Arrow bool_type int_type}), ((((refl {a = true}, tt), (refl {a = true}, tt))), tt)))))))))))))))))))))))))) })

typed_5 : HasTyping built_in_names missed_value_tree (up_to missed_value_asked missed_value_kept (site (first 1) 1))
unfolding constant_by pattern_row expression_row type_row module_expression_row module_type_row item_row signature_item_row
typed_5 = (choice.type_at, record { choice = choice; chosen = λ n. refl; holds = ((tt), ((tt), ((tt), (((refl {a = false}, tt)), ((λ h. refl {a = true}), ((tt), (((refl {a = false}, tt)), ((tt), (((refl {a = false}, tt)), ((λ h. refl {a = true}), ((record { fill = λ o. int_type; instance = ((λ v. Var v), (λ v h. refl {a = Var v}), refl {a = bool_type}) }), ((tt), ((tt), (((refl {a = false}, tt)), ((refl {a = bool_type}), ((λ h. refl {a = bool_type}), ((tt), (((refl {a = false}, tt)), ((λ h. refl {a = true}), ((refl {a = int_type}), ((refl {a = int_type}), ((tt), ((((refl {a = false}, tt), (refl {a = false}, tt))), ((λ h. refl {a = true}), ((λ h. refl {a = Arrow bool_type int_type}), ((((refl {a = true}, tt), (refl {a = true}, tt))), tt)))))))))))))))))))))))))) })

-- the kept demands
pub kept_ones : IsKept built_in_names (parsed missed_value) (kept_at missed_value_kept)
kept_ones =
    subst (λ text. IsKept built_in_names text (kept_at missed_value_kept)) (sym is_parsed)
    (keeps built_in_names missed_value_tree missed_value_asked missed_value_kept all open_ ((refl), ((refl), ((refl), ((refl), ((refl), ((refl), tt)))))) ((typed_0), ((typed_1), ((typed_2), ((typed_3), ((typed_4), ((typed_5), tt))))))
    ((λ k t. yes_no k), ((λ k t. yes_no k), ((λ k t. yes_no k), ((λ k t. yes_no k), ((λ k t. yes_no k), ((λ k t. yes_no k), tt)))))))

abbrev letters : List (ℕ × ℕ × Typ)
letters = []

-- the types are the most general ones
general : IsMostGeneralChoice (kept_at missed_value_kept) (conditions_of built_in_names missed_value_tree (kept_at missed_value_kept)) (open_choice match_types letters)
unfolding constant_by pattern_row expression_row type_row module_expression_row module_type_row item_row signature_item_row
general = record {
  holds = ((tt), ((tt), ((tt), (((refl {a = false}, tt)), ((λ h. refl {a = true}), ((tt), (((refl {a = false}, tt)), ((tt), (((refl {a = false}, tt)), ((λ h. refl {a = true}), ((record { fill = λ o. int_type; instance = ((λ v. Var v), (λ v h. refl {a = Var v}), refl {a = bool_type}) }), ((tt), ((tt), (((refl {a = false}, tt)), ((refl {a = bool_type}), ((λ h. refl {a = bool_type}), ((tt), (((refl {a = false}, tt)), ((λ h. refl {a = true}), ((refl {a = int_type}), ((refl {a = int_type}), ((tt), ((((refl {a = false}, tt), (refl {a = false}, tt))), ((λ h. refl {a = true}), ((λ h. refl {a = Arrow bool_type int_type}), ((((refl {a = true}, tt), (refl {a = true}, tt))), tt))))))))))))))))))))))))));
  general = λ other h.
      let at : ℕ → Typ = other.type_at in
      let used : at (first 5) ≡ at (first 3) = use_of_one (at (first 3)) (at (first 5)) h.1.1.1.0 h.1.1.1.1.1.1.1.1.1.1.0 in
      let subject : at (first 5) ≡ bool_type = sym (h.1.1.1.1.1.1.1.1.1.1.1.1.1.1.1.0 refl) ∙ h.1.1.1.1.1.1.1.1.1.1.1.1.1.1.0 in
      let parameter : at (first 3) ≡ bool_type = sym used ∙ subject in
      let whole : at (first 4) ≡ int_type = h.1.1.1.1.1.1.1.1.1.1.1.1.1.1.1.1.1.1.1.1.0 ∙ h.1.1.1.1.1.1.1.1.1.1.1.1.1.1.1.1.1.1.1.0 in
      is_instance other match_types letters (h.1.1.1.1.1.1.1.1.1.1.1.1.1.1.1.1.1.1.1.1.1.1.1.1.0 refl ∙ ap (λ t. Arrow t (at (first 4))) parameter ∙ ap (Arrow bool_type) whole, (parameter, (whole, (subject, (h.1.1.1.1.1.1.1.1.1.1.1.1.1.1.0, (h.1.1.1.1.1.1.1.1.1.1.1.1.1.1.1.1.1.1.1.0, tt)))))) tt;
}

pub principal : IsPrincipal built_in_names (parsed missed_value) (kept_at missed_value_kept) (open_types match_types)
principal =
    subst (λ text. IsPrincipal built_in_names text (kept_at missed_value_kept) (open_types match_types)) (sym is_parsed)
    (is_principal (kept_at missed_value_kept) (conditions_of built_in_names missed_value_tree (kept_at missed_value_kept)) (open_choice match_types letters) general)
