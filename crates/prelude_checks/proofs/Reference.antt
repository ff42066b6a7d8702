-- let r = ref [], behind the prelude: its tree, its kept demands, and its most general types.
use Rattle.std.proofs.Common.{◌≡◌, ℕ, ◌==◌, true, false, List, [], ◌∷◌, codes, refl, sym, ◌∙◌, ap, subst, if◌then◌else◌}
use Rattle.tree_model.specs.Trees.{Tree, no_parts, part, taken, inner}
use Rattle.tree_model.specs.Extents.{node_over}
use Rattle.type_model.specs.Types.{Typ, Var, Arrow}
use Rattle.typing_model.specs.BuiltIns.{int_type, list_type}
use Rattle.typing_model.specs.Contexts.{Choice}
use Rattle.typing_model.specs.Demands.{Site, site}
use Rattle.typing_model.specs.Typings.{conditions_of, no_choice, demands_of, HasTyping, IsKept, IsMostGeneralChoice}
use Rattle.model_checks.specs.Typings.{first, choice_of}
use Rattle.model_checks.specs.Kept.{kept_at}
use Rattle.model_checks.specs.Open.{of_letter, open_choice}
use Rattle.model_checks.proofs.Apart.{yes_no}
use Rattle.model_checks.proofs.Keeping.{up_to, no_closing, keeps}
use Rattle.model_checks.proofs.Coding.{is_instance, put_letter}
use Rattle.tree_model.specs.Slots.{is_operand}
use Rattle.grammar_model.specs.Rows.{chain_of, grower_of}
use Rattle.grammar_model.specs.Ocaml.{rows}
use Rattle.grammar_model.specs.Tables.{first_place}
use Rattle.grammar_model.specs.Keys.{kind_key, key_of}
use Rattle.recovery_model.specs.Steps as rules
use Rattle.recovery_model.specs.Recovery.{step, close, recover}
use Rattle.typing_model.specs.BuiltIns.{constant_by}
use Rattle.typing_model.specs.Patterns.{pattern_row}
use Rattle.typing_model.specs.Expressions.{expression_row}
use Rattle.typing_model.specs.TypeExpressions.{type_row}
use Rattle.typing_model.specs.Modules.{module_expression_row, module_type_row, item_row, signature_item_row}
use Rattle.typing_model.specs.Typings.{IsPrincipal}
use Rattle.model_checks.specs.Open.{open_types}
use Rattle.prelude_checks.specs.Found.{ref_type, reference_open}
use Rattle.prelude_checks.proofs.Made.{applied_ref}
use Rattle.prelude_checks.proofs.Prelude.{first_names}
use Rattle.model_checks.proofs.Keeping.{is_principal}
use Rattle.model_checks.proofs.Coding.{put}
use Rattle.tree_model.specs.Rows.{let_row, binding_row, pname_row, name_row, econst_row, eapp_row}
use Rattle.token_model.specs.Kinds.{let_word, lower, op9, nil}
use Rattle.model_checks.specs.Texts.{tok, reference}
use Rattle.typing_model.specs.First.{program_items}
use Rattle.model_checks.specs.Kept.{reference_kept}

-- its tree
abbrev pub reference_tree : List Tree
reference_tree = (node_over let_row (part 0 (taken (tok let_word 0 3 (codes "let"))) (part 2 (inner (node_over binding_row (part 0 (inner (node_over pname_row (part 0 (taken (tok lower 4 5 (codes "r"))) no_parts))) (part 4 (taken (tok op9 6 7 (codes "="))) (part 5 (inner (node_over eapp_row (part 0 (inner (node_over name_row (part 0 (taken (tok lower 8 11 (codes "ref"))) no_parts))) (part 1 (inner (node_over econst_row (part 0 (taken (tok nil 12 14 (codes "[]"))) no_parts))) no_parts)))) no_parts))))) no_parts))) ∷ []

-- the parser gives it
pub is_parsed : program_items reference ≡ reference_tree
unfolding recover step close rules.step rows chain_of grower_of first_place kind_key key_of is_operand
is_parsed = refl

-- types that keep all demands
abbrev choice : Choice
choice = choice_of ((first 2, ref_type (list_type (int_type))) ∷ (first 3, ref_type (list_type (int_type))) ∷ (first 4, Arrow (list_type (int_type)) (ref_type (list_type (int_type)))) ∷ (first 5, list_type (int_type)) ∷ []) (λ n k. if n == first 5 then int_type else if k == 0 then list_type int_type else ref_type (list_type int_type))

-- all demands
abbrev pub reference_asked : List Site
reference_asked = site (first 4) 0 ∷ site (first 3) 0 ∷ site (first 3) 1 ∷ site (first 2) 0 ∷ site (first 1) 1 ∷ []

pub all : demands_of first_names reference_tree (kept_at reference_kept) ≡ reference_asked
unfolding recover step close rules.step rows chain_of grower_of first_place kind_key key_of is_operand constant_by pattern_row expression_row type_row module_expression_row module_type_row item_row signature_item_row
all = refl

-- no demand is a `closing`
open_ : no_closing (conditions_of first_names reference_tree (kept_at reference_kept) no_choice) ≡ true
unfolding recover step close rules.step rows chain_of grower_of first_place kind_key key_of is_operand constant_by pattern_row expression_row type_row module_expression_row module_type_row item_row signature_item_row
open_ = refl

-- a typing for each kept demand, with those before it
typed_0 : HasTyping first_names reference_tree (up_to reference_asked reference_kept (site (first 4) 0))
unfolding recover step close rules.step rows chain_of grower_of first_place kind_key key_of is_operand constant_by pattern_row expression_row type_row module_expression_row module_type_row item_row signature_item_row
typed_0 = (choice.type_at, record { choice = choice; chosen = λ n. refl; holds = ((tt), ((tt), ((tt), (((refl {a = false}, ((refl {a = false}, ((refl {a = false}, tt), tt)), tt))), ((tt), ((((refl {a = false}, ((refl {a = false}, tt), tt)), (refl {a = false}, ((refl {a = false}, ((refl {a = false}, tt), tt)), tt)))), ((λ h. refl {a = true}), ((record { fill = λ o. int_type; instance = ((λ v. list_type (int_type)), (λ v h. absurd (yes_no h)), refl {a = Arrow (list_type (int_type)) (ref_type (list_type (int_type)))}) }), ((λ h. refl {a = Arrow (list_type (int_type)) (ref_type (list_type (int_type)))}), ((tt), (((refl {a = false}, ((refl {a = false}, tt), tt))), ((refl {a = list_type (int_type)}), ((λ h. refl {a = list_type (int_type)}), ((refl {a = ref_type (list_type (int_type))}), ((tt), (((refl {a = false}, ((refl {a = false}, ((refl {a = false}, tt), tt)), tt))), ((λ h. refl {a = true}), ((λ h. refl {a = ref_type (list_type (int_type))}), (((refl {a = true}, ((refl {a = true}, ((refl {a = true}, tt), tt)), tt))), tt))))))))))))))))))) })

typed_1 : HasTyping first_names reference_tree (up_to reference_asked reference_kept (site (first 3) 0))
unfolding recover step close rules.step rows chain_of grower_of first_place kind_key key_of is_operand constant_by pattern_row expression_row type_row module_expression_row module_type_row item_row signature_item_row
typed_1 = (choice.type_at, record { choice = choice; chosen = λ n. refl; holds = ((tt), ((tt), ((tt), (((refl {a = false}, ((refl {a = false}, ((refl {a = false}, tt), tt)), tt))), ((tt), ((((refl {a = false}, ((refl {a = false}, tt), tt)), (refl {a = false}, ((refl {a = false}, ((refl {a = false}, tt), tt)), tt)))), ((λ h. refl {a = true}), ((record { fill = λ o. int_type; instance = ((λ v. list_type (int_type)), (λ v h. absurd (yes_no h)), refl {a = Arrow (list_type (int_type)) (ref_type (list_type (int_type)))}) }), ((λ h. refl {a = Arrow (list_type (int_type)) (ref_type (list_type (int_type)))}), ((tt), (((refl {a = false}, ((refl {a = false}, tt), tt))), ((refl {a = list_type (int_type)}), ((λ h. refl {a = list_type (int_type)}), ((refl {a = ref_type (list_type (int_type))}), ((tt), (((refl {a = false}, ((refl {a = false}, ((refl {a = false}, tt), tt)), tt))), ((λ h. refl {a = true}), ((λ h. refl {a = ref_type (list_type (int_type))}), (((refl {a = true}, ((refl {a = true}, ((refl {a = true}, tt), tt)), tt))), tt))))))))))))))))))) })

typed_2 : HasTyping first_names reference_tree (up_to reference_asked reference_kept (site (first 3) 1))
unfolding recover step close rules.step rows chain_of grower_of first_place kind_key key_of is_operand constant_by pattern_row expression_row type_row module_expression_row module_type_row item_row signature_item_row
typed_2 = (choice.type_at, record { choice = choice; chosen = λ n. refl; holds = ((tt), ((tt), ((tt), (((refl {a = false}, ((refl {a = false}, ((refl {a = false}, tt), tt)), tt))), ((tt), ((((refl {a = false}, ((refl {a = false}, tt), tt)), (refl {a = false}, ((refl {a = false}, ((refl {a = false}, tt), tt)), tt)))), ((λ h. refl {a = true}), ((record { fill = λ o. int_type; instance = ((λ v. list_type (int_type)), (λ v h. absurd (yes_no h)), refl {a = Arrow (list_type (int_type)) (ref_type (list_type (int_type)))}) }), ((λ h. refl {a = Arrow (list_type (int_type)) (ref_type (list_type (int_type)))}), ((tt), (((refl {a = false}, ((refl {a = false}, tt), tt))), ((refl {a = list_type (int_type)}), ((λ h. refl {a = list_type (int_type)}), ((refl {a = ref_type (list_type (int_type))}), ((tt), (((refl {a = false}, ((refl {a = false}, ((refl {a = false}, tt), tt)), tt))), ((λ h. refl {a = true}), ((λ h. refl {a = ref_type (list_type (int_type))}), (((refl {a = true}, ((refl {a = true}, ((refl {a = true}, tt), tt)), tt))), tt))))))))))))))))))) })

typed_3 : HasTyping first_names reference_tree (up_to reference_asked reference_kept (site (first 2) 0))
unfolding recover step close rules.step rows chain_of grower_of first_place kind_key key_of is_operand constant_by pattern_row expression_row type_row module_expression_row module_type_row item_row signature_item_row
typed_3 = (choice.type_at, record { choice = choice; chosen = λ n. refl; holds = ((tt), ((tt), ((tt), (((refl {a = false}, ((refl {a = false}, ((refl {a = false}, tt), tt)), tt))), ((tt), ((((refl {a = false}, ((refl {a = false}, tt), tt)), (refl {a = false}, ((refl {a = false}, ((refl {a = false}, tt), tt)), tt)))), ((λ h. refl {a = true}), ((record { fill = λ o. int_type; instance = ((λ v. list_type (int_type)), (λ v h. absurd (yes_no h)), refl {a = Arrow (list_type (int_type)) (ref_type (list_type (int_type)))}) }), ((λ h. refl {a = Arrow (list_type (int_type)) (ref_type (list_type (int_type)))}), ((tt), (((refl {a = false}, ((refl {a = false}, tt), tt))), ((refl {a = list_type (int_type)}), ((λ h. refl {a = list_type (int_type)}), ((refl {a = ref_type (list_type (int_type))}), ((tt), (((refl {a = false}, ((refl {a = false}, ((refl {a = false}, tt), tt)), tt))), ((λ h. refl {a = true}), ((λ h. refl {a = ref_type (list_type (int_type))}), (((refl {a = true}, ((refl {a = true}, ((refl {a = true}, tt), tt)), tt))), tt))))))))))))))))))) })

typed_4 : HasTyping first_names reference_tree (up_to reference_asked reference_kept (site (first 1) 1))
unfolding recover step close rules.step rows chain_of grower_of first_place kind_key key_of is_operand constant_by pattern_row expression_row type_row module_expression_row module_type_row item_row signature_item_row
typed_4 = (choice.type_at, record { choice = choice; chosen = λ n. refl; holds = ((tt), ((tt), ((tt), (((refl {a = false}, ((refl {a = false}, ((refl {a = false}, tt), tt)), tt))), ((tt), ((((refl {a = false}, ((refl {a = false}, tt), tt)), (refl {a = false}, ((refl {a = false}, ((refl {a = false}, tt), tt)), tt)))), ((λ h. refl {a = true}), ((record { fill = λ o. int_type; instance = ((λ v. list_type (int_type)), (λ v h. absurd (yes_no h)), refl {a = Arrow (list_type (int_type)) (ref_type (list_type (int_type)))}) }), ((λ h. refl {a = Arrow (list_type (int_type)) (ref_type (list_type (int_type)))}), ((tt), (((refl {a = false}, ((refl {a = false}, tt), tt))), ((refl {a = list_type (int_type)}), ((λ h. refl {a = list_type (int_type)}), ((refl {a = ref_type (list_type (int_type))}), ((tt), (((refl {a = false}, ((refl {a = false}, ((refl {a = false}, tt), tt)), tt))), ((λ h. refl {a = true}), ((λ h. refl {a = ref_type (list_type (int_type))}), (((refl {a = true}, ((refl {a = true}, ((refl {a = true}, tt), tt)), tt))), tt))))))))))))))))))) })

-- the kept demands
pub kept_ones : IsKept first_names (program_items reference) (kept_at reference_kept)
kept_ones =
    subst (λ text. IsKept first_names text (kept_at reference_kept)) (sym is_parsed)
    (keeps first_names reference_tree reference_asked reference_kept all open_ ((refl), ((refl), ((refl), ((refl), ((refl), tt))))) ((typed_0), ((typed_1), ((typed_2), ((typed_3), ((typed_4), tt)))))
    ((λ k t. yes_no k), ((λ k t. yes_no k), ((λ k t. yes_no k), ((λ k t. yes_no k), ((λ k t. yes_no k), tt))))))

abbrev letters : List (ℕ × ℕ × Typ)
letters = (first 3, 0, list_type (Var (of_letter (first 5) 0))) ∷ (first 3, 1, ref_type (list_type (Var (of_letter (first 5) 0)))) ∷ []

-- the types are the most general ones
general : IsMostGeneralChoice (kept_at reference_kept) (conditions_of first_names reference_tree (kept_at reference_kept)) (open_choice reference_open letters)
unfolding recover step close rules.step rows chain_of grower_of first_place kind_key key_of is_operand constant_by pattern_row expression_row type_row module_expression_row module_type_row item_row signature_item_row
general = record {
  holds = ((tt), ((tt), ((tt), (((refl {a = false}, ((refl {a = false}, (tt, tt)), tt))), ((tt), ((((refl {a = false}, (tt, tt)), (refl {a = false}, ((refl {a = false}, (tt, tt)), tt)))), ((λ h. refl {a = true}), ((record { fill = λ o. int_type; instance = ((λ v. list_type (Var (of_letter (first 5) 0))), (λ v h. absurd (yes_no h)), refl {a = Arrow (list_type (Var (of_letter (first 5) 0))) (ref_type (list_type (Var (of_letter (first 5) 0))))}) }), ((λ h. refl {a = Arrow (list_type (Var (of_letter (first 5) 0))) (ref_type (list_type (Var (of_letter (first 5) 0))))}), ((tt), (((refl {a = false}, (tt, tt))), ((refl {a = list_type (Var (of_letter (first 5) 0))}), ((λ h. refl {a = list_type (Var (of_letter (first 5) 0))}), ((refl {a = ref_type (list_type (Var (of_letter (first 5) 0)))}), ((tt), (((refl {a = false}, ((refl {a = false}, (tt, tt)), tt))), ((λ h. refl {a = true}), ((λ h. refl {a = ref_type (list_type (Var (of_letter (first 5) 0)))}), (((refl {a = true}, ((refl {a = true}, (tt, tt)), tt))), tt)))))))))))))))))));
  general = λ other h.
      let at : ℕ → Typ = other.type_at in
      let l : ℕ → Typ = other.letter (first 3) in
      let x : Typ = put other (of_letter (first 5) 0) in
      let list : at (first 5) ≡ list_type x = h.1.1.1.1.1.1.1.1.1.1.1.0 ∙ ap list_type (sym (put_letter other (first 5) 0)) in
      let both = applied_ref (at (first 4)) (l 0) (l 1) (at (first 5)) (h.1.1.1.1.1.1.1.0.instance.0 0) x h.1.1.1.1.1.1.1.0.instance.2 (h.1.1.1.1.1.1.1.1.0 refl) (h.1.1.1.1.1.1.1.1.1.1.1.1.0 refl) list in
      let whole : at (first 3) ≡ ref_type (list_type x) = h.1.1.1.1.1.1.1.1.1.1.1.1.1.0 ∙ both.1 in
      let name : at (first 2) ≡ ref_type (list_type x) = h.1.1.1.1.1.1.1.1.1.1.1.1.1.1.1.1.1.0 refl ∙ whole in
      let head : at (first 4) ≡ Arrow (list_type x) (ref_type (list_type x)) = both.2 in
      is_instance other reference_open letters (name, (whole, (head, (list, tt)))) (both.0, (both.1, tt));
}

pub principal : IsPrincipal first_names (program_items reference) (kept_at reference_kept) (open_types reference_open)
principal =
    subst (λ text. IsPrincipal first_names text (kept_at reference_kept) (open_types reference_open)) (sym is_parsed)
    (is_principal (kept_at reference_kept) (conditions_of first_names reference_tree (kept_at reference_kept)) (open_choice reference_open letters) general)
