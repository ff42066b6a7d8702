-- let y = C 1, where C isn't bound: its tree, and its kept demands.
use Rattle.std.proofs.Common.{◌≡◌, true, false, List, [], ◌∷◌, codes, refl, sym, subst}
use Rattle.tree_model.specs.Trees.{Tree, no_parts, part, taken, inner}
use Rattle.tree_model.specs.Extents.{node_over}
use Rattle.typing_model.specs.BuiltIns.{built_in_names, int_type}
use Rattle.typing_model.specs.Contexts.{Choice}
use Rattle.typing_model.specs.Demands.{Site, site}
use Rattle.typing_model.specs.Typings.{conditions_of, no_choice, demands_of, HasTyping, IsMetUpTo, IsKept}
use Rattle.model_checks.specs.Typings.{first}
use Rattle.model_checks.specs.Kept.{kept_at, unbound_applied_kept}
use Rattle.model_checks.specs.Open.{open_choice}
use Rattle.model_checks.specs.Texts.{tok, parsed, unbound_applied}
use Rattle.model_checks.proofs.Apart.{no_yes, yes_no}
use Rattle.model_checks.proofs.Keeping.{up_to, no_closing, keeps}
use Rattle.tree_model.specs.Slots.{is_operand}
use Rattle.grammar_model.specs.Rows.{chain_of, grower_of}
use Rattle.grammar_model.specs.Ocaml.{rows}
use Rattle.grammar_model.specs.Tables.{first_place}
use Rattle.grammar_model.specs.Keys.{kind_key, key_of}
use Rattle.recovery_model.specs.Steps as rules
use Rattle.recovery_model.specs.Recovery.{step, close, recover}
use Rattle.typing_model.specs.BuiltIns.{constant_by}
use Rattle.typing_model.specs.Patterns.{pattern_row}
use Rattle.typing_model.specs.Expressions.{expression_row}
use Rattle.typing_model.specs.TypeExpressions.{type_row}
use Rattle.typing_model.specs.Modules.{module_expression_row, module_type_row, item_row, signature_item_row}
use Rattle.tree_model.specs.Rows.{let_row, binding_row, pname_row, econst_row, econ_row, eapp_row}
use Rattle.token_model.specs.Kinds.{let_word, lower, op9, upper, int}

-- its tree
abbrev pub unbound_applied_tree : List Tree
unbound_applied_tree = (node_over let_row (part 0 (taken (tok let_word 0 3 (codes "let"))) (part 2 (inner (node_over binding_row (part 0 (inner (node_over pname_row (part 0 (taken (tok lower 4 5 (codes "y"))) no_parts))) (part 4 (taken (tok op9 6 7 (codes "="))) (part 5 (inner (node_over eapp_row (part 0 (inner (node_over econ_row (part 0 (taken (tok upper 8 9 (codes "C"))) no_parts))) (part 1 (inner (node_over econst_row (part 0 (taken (tok int 10 11 (codes "1"))) no_parts))) no_parts)))) no_parts))))) no_parts))) ∷ []

-- the parser gives it
pub is_parsed : parsed unbound_applied ≡ unbound_applied_tree
unfolding recover step close rules.step rows chain_of grower_of first_place kind_key key_of is_operand
is_parsed = refl

-- types that keep all other demands
abbrev choice : Choice
choice = open_choice ((first 2, int_type) ∷ (first 3, int_type) ∷ (first 4, int_type) ∷ (first 5, int_type) ∷ []) []

-- all demands
abbrev unbound_applied_asked : List Site
unbound_applied_asked = site (first 3) 0 ∷ site (first 5) 0 ∷ site (first 2) 0 ∷ site (first 1) 1 ∷ []

all : demands_of built_in_names unbound_applied_tree (kept_at unbound_applied_kept) ≡ unbound_applied_asked
unfolding constant_by pattern_row expression_row type_row module_expression_row module_type_row item_row signature_item_row
all = refl

-- no demand is a `closing`
open_ : no_closing (conditions_of built_in_names unbound_applied_tree (kept_at unbound_applied_kept) no_choice) ≡ true
unfolding constant_by pattern_row expression_row type_row module_expression_row module_type_row item_row signature_item_row
open_ = refl

-- a typing for each kept demand, with those before it
typed_0 : HasTyping built_in_names unbound_applied_tree (up_to unbound_applied_asked unbound_applied_kept (site (first 5) 0))
unfolding constant_by pattern_row expression_row type_row module_expression_row module_type_row item_row signature_item_row
typed_0 = (choice.type_at, record { choice = choice; chosen = λ n. refl; holds = (tt, (tt, (tt, ((refl {a = false}, tt), (tt, ((refl {a = false}, tt), ((λ h. absurd (no_yes h)), (tt, ((refl {a = false}, tt), ((λ h. refl {a = true}), ((refl {a = int_type}), ((refl {a = int_type}), ((refl {a = int_type}), (tt, ((refl {a = false}, tt), ((λ h. absurd (no_yes h)), ((λ h. absurd (no_yes h)), ((refl {a = true}, tt), tt)))))))))))))))))) })

typed_1 : HasTyping built_in_names unbound_applied_tree (up_to unbound_applied_asked unbound_applied_kept (site (first 2) 0))
unfolding constant_by pattern_row expression_row type_row module_expression_row module_type_row item_row signature_item_row
typed_1 = (choice.type_at, record { choice = choice; chosen = λ n. refl; holds = (tt, (tt, (tt, ((refl {a = false}, tt), (tt, ((refl {a = false}, tt), ((λ h. absurd (no_yes h)), (tt, ((refl {a = false}, tt), ((λ h. refl {a = true}), ((refl {a = int_type}), ((refl {a = int_type}), ((refl {a = int_type}), (tt, ((refl {a = false}, tt), ((λ h. refl {a = true}), ((λ h. absurd (no_yes h)), ((refl {a = true}, tt), tt)))))))))))))))))) })

typed_2 : HasTyping built_in_names unbound_applied_tree (up_to unbound_applied_asked unbound_applied_kept (site (first 1) 1))
unfolding constant_by pattern_row expression_row type_row module_expression_row module_type_row item_row signature_item_row
typed_2 = (choice.type_at, record { choice = choice; chosen = λ n. refl; holds = (tt, (tt, (tt, ((refl {a = false}, tt), (tt, ((refl {a = false}, tt), ((λ h. absurd (no_yes h)), (tt, ((refl {a = false}, tt), ((λ h. refl {a = true}), ((refl {a = int_type}), ((refl {a = int_type}), ((refl {a = int_type}), (tt, ((refl {a = false}, tt), ((λ h. refl {a = true}), ((λ h. refl {a = int_type}), ((refl {a = true}, tt), tt)))))))))))))))))) })

-- and none for the one that is refused
refused : IsMetUpTo built_in_names unbound_applied_tree (up_to unbound_applied_asked unbound_applied_kept (site (first 3) 0)) (site (first 3) 0) → ⊥
unfolding constant_by pattern_row expression_row type_row module_expression_row module_type_row item_row signature_item_row
refused t = no_yes (t.holds.1.1.1.1.1.1.0 refl)

-- the kept demands
pub kept_ones : IsKept built_in_names (parsed unbound_applied) (kept_at unbound_applied_kept)
kept_ones =
    subst (λ text. IsKept built_in_names text (kept_at unbound_applied_kept)) (sym is_parsed)
    (keeps built_in_names unbound_applied_tree unbound_applied_asked unbound_applied_kept all open_ (refl, (refl, (refl, tt))) (typed_0, (typed_1, (typed_2, tt))) ((λ k t. refused t), ((λ k t. yes_no k), ((λ k t. yes_no k), ((λ k t. yes_no k), tt)))))
