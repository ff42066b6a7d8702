-- let f x = x x: its tree, its kept demands, and its fault.
use Rattle.std.proofs.Common.{◌≡◌, ℕ, ◌==◌, true, false, List, [], ◌∷◌, codes, Some, refl, sym, ◌∙◌, ap, subst, inr, if◌then◌else◌}
use Rattle.tree_model.specs.Trees.{Tree, place, no_parts, part, taken, inner}
use Rattle.tree_model.specs.Extents.{node_over}
use Rattle.type_model.specs.Types.{Typ, Var, Arrow}
use Rattle.type_model.proofs.Applying.{or_left, eqb_same}
use Rattle.signature_model.specs.Declarations.{in_text}
use Rattle.signature_model.specs.Entries.{entry, a_value, Environment}
use Rattle.typing_model.specs.BuiltIns.{built_in_names, int_type, bool_type}
use Rattle.typing_model.specs.Contexts.{Choice, monomorphic}
use Rattle.typing_model.specs.Demands.{Site, site, equal, AllHold}
use Rattle.typing_model.specs.Typings.{conditions_of, no_choice, demands_of, HasTyping, IsMetUpTo, IsKept, IsMostGeneralChoice}
use Rattle.typing_model.specs.Faults.{Differ, IsFaultAt, types_differ, contains_itself, in_itself, by_types}
use Rattle.model_checks.specs.Typings.{first, choice_of}
use Rattle.model_checks.specs.Kept.{kept_at}
use Rattle.model_checks.specs.Open.{of_letter, open_choice}
use Rattle.model_checks.proofs.Apart.{no_yes, yes_no, arrow_is_no_variable}
use Rattle.model_checks.proofs.Keeping.{up_to, no_closing, keeps, before, is_fault}
use Rattle.model_checks.proofs.Coding.{put, is_instance, put_letter}
use Rattle.model_checks.proofs.Uses.{use_of_one}
use Rattle.tree_model.specs.Slots.{is_operand}
use Rattle.grammar_model.specs.Rows.{chain_of, grower_of}
use Rattle.grammar_model.specs.Ocaml.{rows}
use Rattle.grammar_model.specs.Tables.{first_place}
use Rattle.grammar_model.specs.Keys.{kind_key, key_of}
use Rattle.recovery_model.specs.Steps as rules
use Rattle.recovery_model.specs.Recovery.{step, close, recover}
use Rattle.typing_model.specs.BuiltIns.{constant_by}
use Rattle.typing_model.specs.Patterns.{pattern_row}
use Rattle.typing_model.specs.Expressions.{expression_row}
use Rattle.typing_model.specs.TypeExpressions.{type_row}
use Rattle.typing_model.specs.Modules.{module_expression_row, module_type_row, item_row, signature_item_row}
use Rattle.tree_model.specs.Rows.{let_row, binding_row, pname_row, name_row, eapp_row}
use Rattle.token_model.specs.Kinds.{let_word, lower, op9}
use Rattle.model_checks.specs.Texts.{tok, parsed, self_application}
use Rattle.model_checks.specs.Kept.{self_application_kept}
use Rattle.model_checks.proofs.Cycles.{no_self_application}

-- its tree
abbrev pub self_application_tree : List Tree
self_application_tree = (node_over let_row (part 0 (taken (tok let_word 0 3 (codes "let"))) (part 2 (inner (node_over binding_row (part 0 (inner (node_over pname_row (part 0 (taken (tok lower 4 5 (codes "f"))) no_parts))) (part 1 (inner (node_over pname_row (part 0 (taken (tok lower 6 7 (codes "x"))) no_parts))) (part 4 (taken (tok op9 8 9 (codes "="))) (part 5 (inner (node_over eapp_row (part 0 (inner (node_over name_row (part 0 (taken (tok lower 10 11 (codes "x"))) no_parts))) (part 1 (inner (node_over name_row (part 0 (taken (tok lower 12 13 (codes "x"))) no_parts))) no_parts)))) no_parts)))))) no_parts))) ∷ []

-- the parser gives it
pub is_parsed : parsed self_application ≡ self_application_tree
unfolding recover step close rules.step rows chain_of grower_of first_place kind_key key_of is_operand
is_parsed = refl

-- types that keep all other demands
abbrev choice : Choice
choice = choice_of ((first 2, Arrow (Arrow int_type bool_type) bool_type) ∷ (first 3, Arrow int_type bool_type) ∷ (first 4, bool_type) ∷ (first 5, Arrow int_type bool_type) ∷ (first 6, Arrow int_type bool_type) ∷ []) (λ n k. if k == 0 then int_type else bool_type)

-- all demands
abbrev pub self_application_asked : List Site
self_application_asked = site (first 3) 0 ∷ site (first 5) 0 ∷ site (first 4) 0 ∷ site (first 6) 0 ∷ site (first 4) 1 ∷ site (first 2) 0 ∷ site (first 1) 1 ∷ []

pub all : demands_of built_in_names self_application_tree (kept_at self_application_kept) ≡ self_application_asked
unfolding constant_by pattern_row expression_row type_row module_expression_row module_type_row item_row signature_item_row
all = refl

-- no demand is a `closing`
open_ : no_closing (conditions_of built_in_names self_application_tree (kept_at self_application_kept) no_choice) ≡ true
unfolding constant_by pattern_row expression_row type_row module_expression_row module_type_row item_row signature_item_row
open_ = refl

-- a typing for each kept demand, with those before it
typed_0 : HasTyping built_in_names self_application_tree (up_to self_application_asked self_application_kept (site (first 3) 0))
unfolding constant_by pattern_row expression_row type_row module_expression_row module_type_row item_row signature_item_row
typed_0 = (choice.type_at, record { choice = choice; chosen = λ n. refl; holds = ((tt), ((tt), ((tt), ((((refl {a = false}, tt), (refl {a = false}, tt))), ((λ h. refl {a = true}), ((tt), (((refl {a = false}, tt)), ((tt), ((((refl {a = false}, tt), (refl {a = false}, tt))), ((λ h. refl {a = true}), ((λ h. refl {a = Arrow int_type bool_type}), ((tt), ((((refl {a = false}, tt), (refl {a = false}, tt))), ((λ h. refl {a = true}), ((λ h. absurd (no_yes h)), ((refl {a = bool_type}), ((tt), (((((refl {a = false}, tt), (refl {a = false}, tt)), (refl {a = false}, tt))), ((λ h. refl {a = true}), ((λ h. refl {a = Arrow (Arrow int_type bool_type) (bool_type)}), (((((refl {a = true}, tt), (refl {a = true}, tt)), (refl {a = true}, tt))), tt))))))))))))))))))))) })

typed_1 : HasTyping built_in_names self_application_tree (up_to self_application_asked self_application_kept (site (first 5) 0))
unfolding constant_by pattern_row expression_row type_row module_expression_row module_type_row item_row signature_item_row
typed_1 = (choice.type_at, record { choice = choice; chosen = λ n. refl; holds = ((tt), ((tt), ((tt), ((((refl {a = false}, tt), (refl {a = false}, tt))), ((λ h. refl {a = true}), ((tt), (((refl {a = false}, tt)), ((tt), ((((refl {a = false}, tt), (refl {a = false}, tt))), ((λ h. refl {a = true}), ((record { fill = λ o. int_type; instance = ((λ v. Var v), (λ v h. refl {a = Var v}), refl {a = Arrow int_type bool_type}) }), ((λ h. refl {a = Arrow int_type bool_type}), ((tt), ((((refl {a = false}, tt), (refl {a = false}, tt))), ((λ h. refl {a = true}), ((λ h. absurd (no_yes h)), ((refl {a = bool_type}), ((tt), (((((refl {a = false}, tt), (refl {a = false}, tt)), (refl {a = false}, tt))), ((λ h. refl {a = true}), ((λ h. refl {a = Arrow (Arrow int_type bool_type) (bool_type)}), (((((refl {a = true}, tt), (refl {a = true}, tt)), (refl {a = true}, tt))), tt)))))))))))))))))))))) })

typed_2 : HasTyping built_in_names self_application_tree (up_to self_application_asked self_application_kept (site (first 4) 0))
unfolding constant_by pattern_row expression_row type_row module_expression_row module_type_row item_row signature_item_row
typed_2 = (choice.type_at, record { choice = choice; chosen = λ n. refl; holds = ((tt), ((tt), ((tt), ((((refl {a = false}, tt), (refl {a = false}, tt))), ((λ h. refl {a = true}), ((tt), (((refl {a = false}, tt)), ((tt), ((((refl {a = false}, tt), (refl {a = false}, tt))), ((λ h. refl {a = true}), ((record { fill = λ o. int_type; instance = ((λ v. Var v), (λ v h. refl {a = Var v}), refl {a = Arrow int_type bool_type}) }), ((λ h. refl {a = Arrow int_type bool_type}), ((tt), ((((refl {a = false}, tt), (refl {a = false}, tt))), ((λ h. refl {a = true}), ((λ h. absurd (no_yes h)), ((refl {a = bool_type}), ((tt), (((((refl {a = false}, tt), (refl {a = false}, tt)), (refl {a = false}, tt))), ((λ h. refl {a = true}), ((λ h. refl {a = Arrow (Arrow int_type bool_type) (bool_type)}), (((((refl {a = true}, tt), (refl {a = true}, tt)), (refl {a = true}, tt))), tt)))))))))))))))))))))) })

typed_3 : HasTyping built_in_names self_application_tree (up_to self_application_asked self_application_kept (site (first 6) 0))
unfolding constant_by pattern_row expression_row type_row module_expression_row module_type_row item_row signature_item_row
typed_3 = (choice.type_at, record { choice = choice; chosen = λ n. refl; holds = ((tt), ((tt), ((tt), ((((refl {a = false}, tt), (refl {a = false}, tt))), ((λ h. refl {a = true}), ((tt), (((refl {a = false}, tt)), ((tt), ((((refl {a = false}, tt), (refl {a = false}, tt))), ((λ h. refl {a = true}), ((record { fill = λ o. int_type; instance = ((λ v. Var v), (λ v h. refl {a = Var v}), refl {a = Arrow int_type bool_type}) }), ((λ h. refl {a = Arrow int_type bool_type}), ((tt), ((((refl {a = false}, tt), (refl {a = false}, tt))), ((λ h. refl {a = true}), ((record { fill = λ o. int_type; instance = ((λ v. Var v), (λ v h. refl {a = Var v}), refl {a = Arrow int_type bool_type}) }), ((λ h. absurd (no_yes h)), ((refl {a = bool_type}), ((tt), (((((refl {a = false}, tt), (refl {a = false}, tt)), (refl {a = false}, tt))), ((λ h. refl {a = true}), ((λ h. refl {a = Arrow (Arrow int_type bool_type) (bool_type)}), (((((refl {a = true}, tt), (refl {a = true}, tt)), (refl {a = true}, tt))), tt))))))))))))))))))))))) })

typed_5 : HasTyping built_in_names self_application_tree (up_to self_application_asked self_application_kept (site (first 2) 0))
unfolding constant_by pattern_row expression_row type_row module_expression_row module_type_row item_row signature_item_row
typed_5 = (choice.type_at, record { choice = choice; chosen = λ n. refl; holds = ((tt), ((tt), ((tt), ((((refl {a = false}, tt), (refl {a = false}, tt))), ((λ h. refl {a = true}), ((tt), (((refl {a = false}, tt)), ((tt), ((((refl {a = false}, tt), (refl {a = false}, tt))), ((λ h. refl {a = true}), ((record { fill = λ o. int_type; instance = ((λ v. Var v), (λ v h. refl {a = Var v}), refl {a = Arrow int_type bool_type}) }), ((λ h. refl {a = Arrow int_type bool_type}), ((tt), ((((refl {a = false}, tt), (refl {a = false}, tt))), ((λ h. refl {a = true}), ((record { fill = λ o. int_type; instance = ((λ v. Var v), (λ v h. refl {a = Var v}), refl {a = Arrow int_type bool_type}) }), ((λ h. absurd (no_yes h)), ((refl {a = bool_type}), ((tt), (((((refl {a = false}, tt), (refl {a = false}, tt)), (refl {a = false}, tt))), ((λ h. refl {a = true}), ((λ h. refl {a = Arrow (Arrow int_type bool_type) (bool_type)}), (((((refl {a = true}, tt), (refl {a = true}, tt)), (refl {a = true}, tt))), tt))))))))))))))))))))))) })

typed_6 : HasTyping built_in_names self_application_tree (up_to self_application_asked self_application_kept (site (first 1) 1))
unfolding constant_by pattern_row expression_row type_row module_expression_row module_type_row item_row signature_item_row
typed_6 = (choice.type_at, record { choice = choice; chosen = λ n. refl; holds = ((tt), ((tt), ((tt), ((((refl {a = false}, tt), (refl {a = false}, tt))), ((λ h. refl {a = true}), ((tt), (((refl {a = false}, tt)), ((tt), ((((refl {a = false}, tt), (refl {a = false}, tt))), ((λ h. refl {a = true}), ((record { fill = λ o. int_type; instance = ((λ v. Var v), (λ v h. refl {a = Var v}), refl {a = Arrow int_type bool_type}) }), ((λ h. refl {a = Arrow int_type bool_type}), ((tt), ((((refl {a = false}, tt), (refl {a = false}, tt))), ((λ h. refl {a = true}), ((record { fill = λ o. int_type; instance = ((λ v. Var v), (λ v h. refl {a = Var v}), refl {a = Arrow int_type bool_type}) }), ((λ h. absurd (no_yes h)), ((refl {a = bool_type}), ((tt), (((((refl {a = false}, tt), (refl {a = false}, tt)), (refl {a = false}, tt))), ((λ h. refl {a = true}), ((λ h. refl {a = Arrow (Arrow int_type bool_type) (bool_type)}), (((((refl {a = true}, tt), (refl {a = true}, tt)), (refl {a = true}, tt))), tt))))))))))))))))))))))) })

-- and none for the one that is refused
refused_4 : IsMetUpTo built_in_names self_application_tree (up_to self_application_asked self_application_kept (site (first 4) 1)) (site (first 4) 1) → ⊥
unfolding constant_by pattern_row expression_row type_row module_expression_row module_type_row item_row signature_item_row
refused_4 t =
    let h = t.holds in let at : ℕ → Typ = t.choice.type_at in no_self_application (at (first 3)) (at (first 5)) (at (first 6)) (t.choice.letter (first 4) 0) (t.choice.letter (first 4) 1) (use_of_one (at (first 3)) (at (first 5)) h.1.1.1.0 h.1.1.1.1.1.1.1.1.1.1.0) (use_of_one (at (first 3)) (at (first 6)) h.1.1.1.0 h.1.1.1.1.1.1.1.1.1.1.1.1.1.1.1.0) (h.1.1.1.1.1.1.1.1.1.1.1.0 refl) (h.1.1.1.1.1.1.1.1.1.1.1.1.1.1.1.1.0 refl)

-- the kept demands
pub kept_ones : IsKept built_in_names (parsed self_application) (kept_at self_application_kept)
kept_ones =
    subst (λ text. IsKept built_in_names text (kept_at self_application_kept)) (sym is_parsed)
    (keeps built_in_names self_application_tree self_application_asked self_application_kept all open_ ((refl), ((refl), ((refl), ((refl), ((refl), ((refl), tt)))))) ((typed_0), ((typed_1), ((typed_2), ((typed_3), ((typed_5), ((typed_6), tt))))))
    ((λ k t. yes_no k), ((λ k t. yes_no k), ((λ k t. yes_no k), ((λ k t. yes_no k), ((λ k t. refused_4 t), ((λ k t. yes_no k), ((λ k t. yes_no k), tt))))))))

-- the most general types before the fault
abbrev types : List (ℕ × Typ)
types = (first 3, Arrow (Var (of_letter (first 4) 0)) (Var (of_letter (first 4) 1))) ∷ (first 4, Var (of_letter (first 4) 1)) ∷ (first 5, Arrow (Var (of_letter (first 4) 0)) (Var (of_letter (first 4) 1))) ∷ (first 6, Arrow (Var (of_letter (first 4) 0)) (Var (of_letter (first 4) 1))) ∷ []

abbrev pub scope : Environment
scope = entry (codes "x") (in_text (place 6 7)) (a_value (monomorphic (Arrow (Var (of_letter (first 4) 0)) (Var (of_letter (first 4) 1))))) ∷ built_in_names

holds : AllHold (before self_application_asked self_application_kept (site (first 4) 1)) (conditions_of built_in_names self_application_tree (before self_application_asked self_application_kept (site (first 4) 1)) (open_choice types []))
unfolding constant_by pattern_row expression_row type_row module_expression_row module_type_row item_row signature_item_row
holds = ((tt), ((tt), ((tt), (((tt, tt)), ((λ h. refl {a = true}), ((tt), ((tt), ((tt), (((tt, tt)), ((λ h. refl {a = true}), ((record { fill = λ o. int_type; instance = ((λ v. Var v), (λ v h. refl {a = Var v}), refl {a = Arrow (Var (of_letter (first 4) 0)) (Var (of_letter (first 4) 1))}) }), ((λ h. refl {a = Arrow (Var (of_letter (first 4) 0)) (Var (of_letter (first 4) 1))}), ((tt), (((tt, tt)), ((λ h. refl {a = true}), ((record { fill = λ o. int_type; instance = ((λ v. Var v), (λ v h. refl {a = Var v}), refl {a = Arrow (Var (of_letter (first 4) 0)) (Var (of_letter (first 4) 1))}) }), ((λ h. absurd (no_yes h)), ((refl {a = Var (of_letter (first 4) 1)}), ((tt), ((tt), ((λ h. absurd (no_yes h)), ((λ h. absurd (no_yes h)), ((tt), tt)))))))))))))))))))))))

-- the types are the most general ones
general : IsMostGeneralChoice (before self_application_asked self_application_kept (site (first 4) 1)) (conditions_of built_in_names self_application_tree (before self_application_asked self_application_kept (site (first 4) 1))) (open_choice types [])
unfolding constant_by pattern_row expression_row type_row module_expression_row module_type_row item_row signature_item_row
general = record {
  holds = holds;
  general = λ other h.
      let at : ℕ → Typ = other.type_at in
      let l : ℕ → Typ = other.letter (first 4) in
      let used : at (first 5) ≡ at (first 3) = use_of_one (at (first 3)) (at (first 5)) h.1.1.1.0 h.1.1.1.1.1.1.1.1.1.1.0 in
      let also : at (first 6) ≡ at (first 3) = use_of_one (at (first 3)) (at (first 6)) h.1.1.1.0 h.1.1.1.1.1.1.1.1.1.1.1.1.1.1.1.0 in
      let arrow : at (first 5) ≡ Arrow (put other (of_letter (first 4) 0)) (put other (of_letter (first 4) 1)) =
      h.1.1.1.1.1.1.1.1.1.1.1.0 refl ∙ ap (λ x. Arrow x (l 1)) (sym (put_letter other (first 4) 0)) ∙ ap (Arrow (put other (of_letter (first 4) 0))) (sym (put_letter other (first 4) 1)) in
      is_instance other types [] (sym used ∙ arrow, (h.1.1.1.1.1.1.1.1.1.1.1.1.1.1.1.1.1.0 ∙ sym (put_letter other (first 4) 1), (arrow, (also ∙ sym used ∙ arrow, tt)))) tt;
}

differs : Differ (Arrow (Var (of_letter (first 4) 0)) (Var (of_letter (first 4) 1))) (Var (of_letter (first 4) 0)) contains_itself
differs = in_itself (of_letter (first 4) 0, inr (refl, or_left (of_letter (first 4) 0 == of_letter (first 4) 0) (of_letter (first 4) 0 == of_letter (first 4) 1) (eqb_same (of_letter (first 4) 0)), arrow_is_no_variable (Var (of_letter (first 4) 0)) (Var (of_letter (first 4) 1)) (of_letter (first 4) 0)))

-- the fault
pub is_a_fault : IsFaultAt built_in_names (parsed self_application) (kept_at self_application_kept) (site (first 4) 1) (record { at = place 12 13; told = types_differ (Arrow (Var (of_letter (first 4) 0)) (Var (of_letter (first 4) 1))) (Var (of_letter (first 4) 0)) contains_itself; env = scope })
unfolding constant_by pattern_row expression_row type_row module_expression_row module_type_row item_row signature_item_row
is_a_fault =
    subst (λ text. IsFaultAt built_in_names text (kept_at self_application_kept) (site (first 4) 1) (record { at = place 12 13; told = types_differ (Arrow (Var (of_letter (first 4) 0)) (Var (of_letter (first 4) 1))) (Var (of_letter (first 4) 0)) contains_itself; env = scope })) (sym is_parsed)
    (is_fault built_in_names self_application_tree self_application_asked self_application_kept (site (first 4) 1) (record { at = place 12 13; told = types_differ (Arrow (Var (of_letter (first 4) 0)) (Var (of_letter (first 4) 1))) (Var (of_letter (first 4) 0)) contains_itself; env = scope }) (open_choice types []) (equal (Arrow (Var (of_letter (first 4) 0)) (Var (of_letter (first 4) 1))) (Var (of_letter (first 4) 0))) all refl refl general (refl {a = Some (place 12 13, equal (Arrow (Var (of_letter (first 4) 0)) (Var (of_letter (first 4) 1))) (Var (of_letter (first 4) 0)))}) (by_types differs) (refl {a = Some scope}))
