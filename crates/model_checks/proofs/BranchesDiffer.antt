-- let f x = if x then 1 else "a": its tree, its kept demands, and its fault.
use Rattle.std.proofs.Common.{◌≡◌, ℕ, true, false, List, [], ◌∷◌, codes, Some, refl, sym, ◌∙◌, subst, inl, inr}
use Rattle.tree_model.specs.Trees.{Tree, place, no_parts, part, taken, inner}
use Rattle.tree_model.specs.Extents.{node_over}
use Rattle.type_model.specs.Types.{Typ, Var, Arrow, Nil}
use Rattle.signature_model.specs.Declarations.{in_text}
use Rattle.signature_model.specs.Entries.{entry, a_value, Environment}
use Rattle.typing_model.specs.BuiltIns.{built_in_origin, built_in_names, int_type, bool_type, string_type}
use Rattle.typing_model.specs.Contexts.{Choice, monomorphic}
use Rattle.typing_model.specs.Demands.{Site, site, equal, AllHold}
use Rattle.typing_model.specs.Typings.{conditions_of, no_choice, demands_of, HasTyping, IsMetUpTo, IsKept, IsMostGeneralChoice}
use Rattle.typing_model.specs.Faults.{Differ, IsCycle, IsFaultAt, types_differ, plain, apart, by_types}
use Rattle.model_checks.specs.Typings.{first, choice_of}
use Rattle.model_checks.specs.Kept.{kept_at}
use Rattle.model_checks.specs.Open.{open_choice}
use Rattle.model_checks.proofs.Apart.{no_yes, yes_no, con_is_no_variable}
use Rattle.model_checks.proofs.Keeping.{up_to, no_closing, keeps, before, is_fault}
use Rattle.model_checks.proofs.Coding.{is_instance}
use Rattle.model_checks.proofs.Uses.{use_of_one}
use Rattle.tree_model.specs.Slots.{is_operand}
use Rattle.grammar_model.specs.Rows.{chain_of, grower_of}
use Rattle.grammar_model.specs.Ocaml.{rows}
use Rattle.grammar_model.specs.Tables.{first_place}
use Rattle.grammar_model.specs.Keys.{kind_key, key_of}
use Rattle.recovery_model.specs.Steps as rules
use Rattle.recovery_model.specs.Recovery.{step, close, recover}
use Rattle.typing_model.specs.BuiltIns.{constant_by}
use Rattle.typing_model.specs.Patterns.{pattern_row}
use Rattle.typing_model.specs.Expressions.{expression_row}
use Rattle.typing_model.specs.TypeExpressions.{type_row}
use Rattle.typing_model.specs.Modules.{module_expression_row, module_type_row, item_row, signature_item_row}
use Rattle.tree_model.specs.Rows.{let_row, binding_row, pname_row, name_row, econst_row, eif_row}
use Rattle.token_model.specs.Kinds.{let_word, lower, op9, if_word, then_word, else_word, int, str}
use Rattle.model_checks.specs.Texts.{tok, parsed, branches}
use Rattle.model_checks.specs.Kept.{branches_kept}
use Rattle.model_checks.proofs.Apart.{string_is_no_int}

-- its tree
abbrev pub branches_tree : List Tree
branches_tree = (node_over let_row (part 0 (taken (tok let_word 0 3 (codes "let"))) (part 2 (inner (node_over binding_row (part 0 (inner (node_over pname_row (part 0 (taken (tok lower 4 5 (codes "f"))) no_parts))) (part 1 (inner (node_over pname_row (part 0 (taken (tok lower 6 7 (codes "x"))) no_parts))) (part 4 (taken (tok op9 8 9 (codes "="))) (part 5 (inner (node_over eif_row (part 0 (taken (tok if_word 10 12 (codes "if"))) (part 1 (inner (node_over name_row (part 0 (taken (tok lower 13 14 (codes "x"))) no_parts))) (part 2 (taken (tok then_word 15 19 (codes "then"))) (part 3 (inner (node_over econst_row (part 0 (taken (tok int 20 21 (codes "1"))) no_parts))) (part 4 (taken (tok else_word 22 26 (codes "else"))) (part 5 (inner (node_over econst_row (part 0 (taken (tok str 27 30 (codes "\"a\""))) no_parts))) no_parts)))))))) no_parts)))))) no_parts))) ∷ []

-- the parser gives it
pub is_parsed : parsed branches ≡ branches_tree
unfolding recover step close rules.step rows chain_of grower_of first_place kind_key key_of is_operand
is_parsed = refl

-- types that keep all other demands
abbrev choice : Choice
choice = choice_of ((first 2, Arrow bool_type int_type) ∷ (first 3, bool_type) ∷ (first 4, int_type) ∷ (first 5, bool_type) ∷ (first 6, int_type) ∷ (first 7, string_type) ∷ []) (λ n k. Var 0)

-- all demands
abbrev pub branches_asked : List Site
branches_asked = site (first 3) 0 ∷ site (first 5) 0 ∷ site (first 4) 0 ∷ site (first 6) 0 ∷ site (first 4) 1 ∷ site (first 2) 0 ∷ site (first 1) 1 ∷ []

pub all : demands_of built_in_names branches_tree (kept_at branches_kept) ≡ branches_asked
unfolding constant_by pattern_row expression_row type_row module_expression_row module_type_row item_row signature_item_row
all = refl

-- no demand is a `closing`
open_ : no_closing (conditions_of built_in_names branches_tree (kept_at branches_kept) no_choice) ≡ true
unfolding constant_by pattern_row expression_row type_row module_expression_row module_type_row item_row signature_item_row
open_ = refl

-- a typing for each kept demand, with those before it
typed_0 : HasTyping built_in_names branches_tree (up_to branches_asked branches_kept (site (first 3) 0))
unfolding constant_by pattern_row expression_row type_row module_expression_row module_type_row item_row signature_item_row
typed_0 = (choice.type_at, record { choice = choice; chosen = λ n. refl; holds = ((tt), ((tt), ((tt), (((refl {a = false}, tt)), ((λ h. refl {a = true}), ((tt), (((refl {a = false}, tt)), ((tt), (((refl {a = false}, tt)), ((λ h. refl {a = true}), ((λ h. refl {a = bool_type}), ((tt), (((refl {a = false}, tt)), ((λ h. refl {a = true}), ((refl {a = int_type}), ((tt), (((refl {a = false}, tt)), ((refl {a = string_type}), ((λ h. absurd (no_yes h)), ((refl {a = int_type}), ((tt), ((((refl {a = false}, tt), (refl {a = false}, tt))), ((λ h. refl {a = true}), ((λ h. refl {a = Arrow bool_type int_type}), ((((refl {a = true}, tt), (refl {a = true}, tt))), tt))))))))))))))))))))))))) })

typed_1 : HasTyping built_in_names branches_tree (up_to branches_asked branches_kept (site (first 5) 0))
unfolding constant_by pattern_row expression_row type_row module_expression_row module_type_row item_row signature_item_row
typed_1 = (choice.type_at, record { choice = choice; chosen = λ n. refl; holds = ((tt), ((tt), ((tt), (((refl {a = false}, tt)), ((λ h. refl {a = true}), ((tt), (((refl {a = false}, tt)), ((tt), (((refl {a = false}, tt)), ((λ h. refl {a = true}), ((record { fill = λ o. int_type; instance = ((λ v. Var v), (λ v h. refl {a = Var v}), refl {a = bool_type}) }), ((λ h. refl {a = bool_type}), ((tt), (((refl {a = false}, tt)), ((λ h. refl {a = true}), ((refl {a = int_type}), ((tt), (((refl {a = false}, tt)), ((refl {a = string_type}), ((λ h. absurd (no_yes h)), ((refl {a = int_type}), ((tt), ((((refl {a = false}, tt), (refl {a = false}, tt))), ((λ h. refl {a = true}), ((λ h. refl {a = Arrow bool_type int_type}), ((((refl {a = true}, tt), (refl {a = true}, tt))), tt)))))))))))))))))))))))))) })

typed_2 : HasTyping built_in_names branches_tree (up_to branches_asked branches_kept (site (first 4) 0))
unfolding constant_by pattern_row expression_row type_row module_expression_row module_type_row item_row signature_item_row
typed_2 = (choice.type_at, record { choice = choice; chosen = λ n. refl; holds = ((tt), ((tt), ((tt), (((refl {a = false}, tt)), ((λ h. refl {a = true}), ((tt), (((refl {a = false}, tt)), ((tt), (((refl {a = false}, tt)), ((λ h. refl {a = true}), ((record { fill = λ o. int_type; instance = ((λ v. Var v), (λ v h. refl {a = Var v}), refl {a = bool_type}) }), ((λ h. refl {a = bool_type}), ((tt), (((refl {a = false}, tt)), ((λ h. refl {a = true}), ((refl {a = int_type}), ((tt), (((refl {a = false}, tt)), ((refl {a = string_type}), ((λ h. absurd (no_yes h)), ((refl {a = int_type}), ((tt), ((((refl {a = false}, tt), (refl {a = false}, tt))), ((λ h. refl {a = true}), ((λ h. refl {a = Arrow bool_type int_type}), ((((refl {a = true}, tt), (refl {a = true}, tt))), tt)))))))))))))))))))))))))) })

typed_3 : HasTyping built_in_names branches_tree (up_to branches_asked branches_kept (site (first 6) 0))
unfolding constant_by pattern_row expression_row type_row module_expression_row module_type_row item_row signature_item_row
typed_3 = (choice.type_at, record { choice = choice; chosen = λ n. refl; holds = ((tt), ((tt), ((tt), (((refl {a = false}, tt)), ((λ h. refl {a = true}), ((tt), (((refl {a = false}, tt)), ((tt), (((refl {a = false}, tt)), ((λ h. refl {a = true}), ((record { fill = λ o. int_type; instance = ((λ v. Var v), (λ v h. refl {a = Var v}), refl {a = bool_type}) }), ((λ h. refl {a = bool_type}), ((tt), (((refl {a = false}, tt)), ((λ h. refl {a = true}), ((refl {a = int_type}), ((tt), (((refl {a = false}, tt)), ((refl {a = string_type}), ((λ h. absurd (no_yes h)), ((refl {a = int_type}), ((tt), ((((refl {a = false}, tt), (refl {a = false}, tt))), ((λ h. refl {a = true}), ((λ h. refl {a = Arrow bool_type int_type}), ((((refl {a = true}, tt), (refl {a = true}, tt))), tt)))))))))))))))))))))))))) })

typed_5 : HasTyping built_in_names branches_tree (up_to branches_asked branches_kept (site (first 2) 0))
unfolding constant_by pattern_row expression_row type_row module_expression_row module_type_row item_row signature_item_row
typed_5 = (choice.type_at, record { choice = choice; chosen = λ n. refl; holds = ((tt), ((tt), ((tt), (((refl {a = false}, tt)), ((λ h. refl {a = true}), ((tt), (((refl {a = false}, tt)), ((tt), (((refl {a = false}, tt)), ((λ h. refl {a = true}), ((record { fill = λ o. int_type; instance = ((λ v. Var v), (λ v h. refl {a = Var v}), refl {a = bool_type}) }), ((λ h. refl {a = bool_type}), ((tt), (((refl {a = false}, tt)), ((λ h. refl {a = true}), ((refl {a = int_type}), ((tt), (((refl {a = false}, tt)), ((refl {a = string_type}), ((λ h. absurd (no_yes h)), ((refl {a = int_type}), ((tt), ((((refl {a = false}, tt), (refl {a = false}, tt))), ((λ h. refl {a = true}), ((λ h. refl {a = Arrow bool_type int_type}), ((((refl {a = true}, tt), (refl {a = true}, tt))), tt)))))))))))))))))))))))))) })

typed_6 : HasTyping built_in_names branches_tree (up_to branches_asked branches_kept (site (first 1) 1))
unfolding constant_by pattern_row expression_row type_row module_expression_row module_type_row item_row signature_item_row
typed_6 = (choice.type_at, record { choice = choice; chosen = λ n. refl; holds = ((tt), ((tt), ((tt), (((refl {a = false}, tt)), ((λ h. refl {a = true}), ((tt), (((refl {a = false}, tt)), ((tt), (((refl {a = false}, tt)), ((λ h. refl {a = true}), ((record { fill = λ o. int_type; instance = ((λ v. Var v), (λ v h. refl {a = Var v}), refl {a = bool_type}) }), ((λ h. refl {a = bool_type}), ((tt), (((refl {a = false}, tt)), ((λ h. refl {a = true}), ((refl {a = int_type}), ((tt), (((refl {a = false}, tt)), ((refl {a = string_type}), ((λ h. absurd (no_yes h)), ((refl {a = int_type}), ((tt), ((((refl {a = false}, tt), (refl {a = false}, tt))), ((λ h. refl {a = true}), ((λ h. refl {a = Arrow bool_type int_type}), ((((refl {a = true}, tt), (refl {a = true}, tt))), tt)))))))))))))))))))))))))) })

-- and none for the one that is refused
refused_4 : IsMetUpTo built_in_names branches_tree (up_to branches_asked branches_kept (site (first 4) 1)) (site (first 4) 1) → ⊥
unfolding constant_by pattern_row expression_row type_row module_expression_row module_type_row item_row signature_item_row
refused_4 t =
    let h = t.holds in let at : ℕ → Typ = t.choice.type_at in string_is_no_int (at (first 7)) (at (first 6)) h.1.1.1.1.1.1.1.1.1.1.1.1.1.1.1.1.1.1.0 h.1.1.1.1.1.1.1.1.1.1.1.1.1.1.1.0 (h.1.1.1.1.1.1.1.1.1.1.1.1.1.1.1.1.1.1.1.0 refl)

-- the kept demands
pub kept_ones : IsKept built_in_names (parsed branches) (kept_at branches_kept)
kept_ones =
    subst (λ text. IsKept built_in_names text (kept_at branches_kept)) (sym is_parsed)
    (keeps built_in_names branches_tree branches_asked branches_kept all open_ ((refl), ((refl), ((refl), ((refl), ((refl), ((refl), tt)))))) ((typed_0), ((typed_1), ((typed_2), ((typed_3), ((typed_5), ((typed_6), tt))))))
    ((λ k t. yes_no k), ((λ k t. yes_no k), ((λ k t. yes_no k), ((λ k t. yes_no k), ((λ k t. refused_4 t), ((λ k t. yes_no k), ((λ k t. yes_no k), tt))))))))

-- the most general types before the fault
abbrev types : List (ℕ × Typ)
types = (first 3, bool_type) ∷ (first 4, int_type) ∷ (first 5, bool_type) ∷ (first 6, int_type) ∷ (first 7, string_type) ∷ []

abbrev pub scope : Environment
scope = entry (codes "x") (in_text (place 6 7)) (a_value (monomorphic bool_type)) ∷ built_in_names

holds : AllHold (before branches_asked branches_kept (site (first 4) 1)) (conditions_of built_in_names branches_tree (before branches_asked branches_kept (site (first 4) 1)) (open_choice types []))
unfolding constant_by pattern_row expression_row type_row module_expression_row module_type_row item_row signature_item_row
holds = ((tt), ((tt), ((tt), (((refl {a = false}, tt)), ((λ h. refl {a = true}), ((tt), (((refl {a = false}, tt)), ((tt), (((refl {a = false}, tt)), ((λ h. refl {a = true}), ((record { fill = λ o. int_type; instance = ((λ v. Var v), (λ v h. refl {a = Var v}), refl {a = bool_type}) }), ((λ h. refl {a = bool_type}), ((tt), (((refl {a = false}, tt)), ((λ h. refl {a = true}), ((refl {a = int_type}), ((tt), (((refl {a = false}, tt)), ((refl {a = string_type}), ((λ h. absurd (no_yes h)), ((refl {a = int_type}), ((tt), ((tt), ((λ h. absurd (no_yes h)), ((λ h. absurd (no_yes h)), ((tt), tt))))))))))))))))))))))))))

-- the types are the most general ones
general : IsMostGeneralChoice (before branches_asked branches_kept (site (first 4) 1)) (conditions_of built_in_names branches_tree (before branches_asked branches_kept (site (first 4) 1))) (open_choice types [])
unfolding constant_by pattern_row expression_row type_row module_expression_row module_type_row item_row signature_item_row
general = record {
  holds = holds;
  general = λ other h.
      let at : ℕ → Typ = other.type_at in
      let used : at (first 5) ≡ at (first 3) = use_of_one (at (first 3)) (at (first 5)) h.1.1.1.0 h.1.1.1.1.1.1.1.1.1.1.0 in
      let condition : at (first 5) ≡ bool_type = h.1.1.1.1.1.1.1.1.1.1.1.0 refl in
      let one : at (first 6) ≡ int_type = h.1.1.1.1.1.1.1.1.1.1.1.1.1.1.1.0 in
      is_instance other types [] (sym used ∙ condition, (h.1.1.1.1.1.1.1.1.1.1.1.1.1.1.1.1.1.1.1.1.0 ∙ one, (condition, (one, (h.1.1.1.1.1.1.1.1.1.1.1.1.1.1.1.1.1.1.0, tt))))) tt;
}

no_cycle : IsCycle string_type int_type → ⊥
no_cycle (v, inl e) = con_is_no_variable (built_in_origin 2) Nil v e.0
no_cycle (v, inr e) = con_is_no_variable (built_in_origin 0) Nil v e.0

differs : Differ string_type int_type plain
differs = apart no_cycle (λ one. string_is_no_int string_type int_type refl refl one.1)

-- the fault
pub is_a_fault : IsFaultAt built_in_names (parsed branches) (kept_at branches_kept) (site (first 4) 1) (record { at = place 27 30; told = types_differ (string_type) (int_type) plain; env = scope })
unfolding constant_by pattern_row expression_row type_row module_expression_row module_type_row item_row signature_item_row
is_a_fault =
    subst (λ text. IsFaultAt built_in_names text (kept_at branches_kept) (site (first 4) 1) (record { at = place 27 30; told = types_differ (string_type) (int_type) plain; env = scope })) (sym is_parsed)
    (is_fault built_in_names branches_tree branches_asked branches_kept (site (first 4) 1) (record { at = place 27 30; told = types_differ (string_type) (int_type) plain; env = scope }) (open_choice types []) (equal (string_type) (int_type)) all refl refl general (refl {a = Some (place 27 30, equal (string_type) (int_type))}) (by_types differs) (refl {a = Some scope}))
