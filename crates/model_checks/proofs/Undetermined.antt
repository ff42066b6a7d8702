-- module F (X : sig end) = struct let r = ref [] end: its tree, and its kept demands.
use Rattle.std.proofs.Common.{◌≡◌, ℕ, ◌==◌, Bool, true, false, not, ◌&&◌, ◌||◌, List, [], ◌∷◌, codes, Option, Some, None, refl, sym, ◌∙◌, ap, subst, if◌then◌else◌}
use Rattle.tree_model.specs.Trees.{Tree, place, no_parts, part, taken, inner}
use Rattle.tree_model.specs.Extents.{node_over}
use Rattle.type_model.specs.Types.{Typ, Var, Arrow}
use Rattle.type_model.proofs.Applying.{eqb_same}
use Rattle.signature_model.specs.Entries.{Environment}
use Rattle.typing_model.specs.BuiltIns.{int_type, list_type}
use Rattle.typing_model.specs.Contexts.{Choice}
use Rattle.typing_model.specs.Demands.{Site, site, same_site, closes, Condition, same, instance, made, known, demand, treated, AllHold}
use Rattle.typing_model.specs.Typings.{conditions_of, demands_of, HasTyping, IsKept, IsMostGeneralChoice}
use Rattle.model_checks.specs.Typings.{first, choice_of}
use Rattle.model_checks.specs.Kept.{kept_at}
use Rattle.model_checks.specs.Open.{of_letter, open_choice}
use Rattle.model_checks.proofs.Apart.{no_yes, yes_no}
use Rattle.model_checks.proofs.Keeping.{up_to, before}
use Rattle.model_checks.proofs.Coding.{is_instance, put_letter}
use Rattle.tree_model.specs.Slots.{is_operand}
use Rattle.grammar_model.specs.Rows.{chain_of, grower_of}
use Rattle.grammar_model.specs.Ocaml.{rows}
use Rattle.grammar_model.specs.Tables.{first_place}
use Rattle.grammar_model.specs.Keys.{kind_key, key_of}
use Rattle.recovery_model.specs.Steps as rules
use Rattle.recovery_model.specs.Recovery.{step, close, recover}
use Rattle.typing_model.specs.BuiltIns.{constant_by}
use Rattle.typing_model.specs.Patterns.{pattern_row}
use Rattle.typing_model.specs.Expressions.{expression_row}
use Rattle.typing_model.specs.TypeExpressions.{type_row}
use Rattle.typing_model.specs.Modules.{module_expression_row, module_type_row, item_row, signature_item_row}
use Rattle.type_model.specs.Types.{occurs}
use Rattle.model_checks.specs.Scopes.{ref_type, with_ref}
use Rattle.model_checks.proofs.References.{applied_ref}
use Rattle.model_checks.proofs.Coding.{put}
use Rattle.signature_model.specs.Signatures.{Signature, Structure, Done}
use Rattle.signature_model.specs.Entries.{free_in, free_in_signature}
use Rattle.tree_model.specs.Rows.{let_row, binding_row, pname_row, name_row, econst_row, eapp_row, module_row, ysig_row, mstruct_row}
use Rattle.token_model.specs.Kinds.{let_word, lower, op9, nil, module_word, upper, left_paren, right_paren, colon, sig_word, struct_word, end_word}
use Rattle.typing_model.specs.Typings.{conditions_before, body_at, is_closing}
use Rattle.typing_model.specs.Faults.{IsFaultAt, leaves_open, by_body}
use Rattle.model_checks.specs.Texts.{tok, parsed, undetermined}
use Rattle.model_checks.specs.Kept.{undetermined_kept}
use Rattle.model_checks.proofs.Keeping.{keeps_open, LeavesOpen, is_fault}

-- its tree
abbrev pub undetermined_tree : List Tree
undetermined_tree = (node_over module_row (part 0 (taken (tok module_word 0 6 (codes "module"))) (part 1 (taken (tok upper 7 8 (codes "F"))) (part 2 (taken (tok left_paren 9 10 (codes "("))) (part 3 (taken (tok upper 10 11 (codes "X"))) (part 4 (taken (tok colon 12 13 (codes ":"))) (part 5 (inner (node_over ysig_row (part 0 (taken (tok sig_word 14 17 (codes "sig"))) (part 2 (taken (tok end_word 18 21 (codes "end"))) no_parts)))) (part 6 (taken (tok right_paren 21 22 (codes ")"))) (part 9 (taken (tok op9 23 24 (codes "="))) (part 10 (inner (node_over mstruct_row (part 0 (taken (tok struct_word 25 31 (codes "struct"))) (part 1 (inner (node_over let_row (part 0 (taken (tok let_word 32 35 (codes "let"))) (part 2 (inner (node_over binding_row (part 0 (inner (node_over pname_row (part 0 (taken (tok lower 36 37 (codes "r"))) no_parts))) (part 4 (taken (tok op9 38 39 (codes "="))) (part 5 (inner (node_over eapp_row (part 0 (inner (node_over name_row (part 0 (taken (tok lower 40 43 (codes "ref"))) no_parts))) (part 1 (inner (node_over econst_row (part 0 (taken (tok nil 44 46 (codes "[]"))) no_parts))) no_parts)))) no_parts))))) no_parts)))) (part 2 (taken (tok end_word 47 50 (codes "end"))) no_parts))))) no_parts)))))))))) ∷ []

-- the parser gives it
pub is_parsed : parsed undetermined ≡ undetermined_tree
unfolding recover step close rules.step rows chain_of grower_of first_place kind_key key_of is_operand
is_parsed = refl

-- types that keep all other demands
abbrev choice : Choice
choice = choice_of ((first 5, ref_type (list_type (int_type))) ∷ (first 6, ref_type (list_type (int_type))) ∷ (first 7, Arrow (list_type (int_type)) (ref_type (list_type (int_type)))) ∷ (first 8, list_type (int_type)) ∷ []) (λ n k. if n == first 8 then int_type else if k == 0 then list_type int_type else ref_type (list_type int_type))

-- all demands
abbrev undetermined_asked : List Site
undetermined_asked = site (first 0) 1 ∷ site (first 7) 0 ∷ site (first 6) 0 ∷ site (first 6) 1 ∷ site (first 5) 0 ∷ site (first 4) 1 ∷ site (first 0) 2 ∷ []

all : demands_of with_ref undetermined_tree (kept_at undetermined_kept) ≡ undetermined_asked
unfolding constant_by pattern_row expression_row type_row module_expression_row module_type_row item_row signature_item_row
all = refl

-- a typing for each kept demand, with those before it
typed_0 : HasTyping with_ref undetermined_tree (up_to undetermined_asked undetermined_kept (site (first 0) 1))
unfolding constant_by pattern_row expression_row type_row module_expression_row module_type_row item_row signature_item_row
typed_0 = (choice.type_at, record { choice = choice; chosen = λ n. refl; holds = ((tt), ((λ h. refl {a = true}), ((tt), ((tt), ((tt), ((tt), ((tt), (((refl {a = false}, ((refl {a = false}, ((refl {a = false}, tt), tt)), tt))), ((tt), ((((refl {a = false}, ((refl {a = false}, tt), tt)), (refl {a = false}, ((refl {a = false}, ((refl {a = false}, tt), tt)), tt)))), ((λ h. refl {a = true}), ((λ h. refl {a = Arrow (list_type (int_type)) (ref_type (list_type (int_type)))}), ((tt), (((refl {a = false}, ((refl {a = false}, tt), tt))), ((refl {a = list_type (int_type)}), ((λ h. refl {a = list_type (int_type)}), ((refl {a = ref_type (list_type (int_type))}), ((tt), (((refl {a = false}, ((refl {a = false}, ((refl {a = false}, tt), tt)), tt))), ((λ h. refl {a = true}), ((λ h. refl {a = ref_type (list_type (int_type))}), (((refl {a = true}, ((refl {a = true}, ((refl {a = true}, tt), tt)), tt))), ((λ h. absurd (no_yes h)), tt))))))))))))))))))))))) })

typed_1 : HasTyping with_ref undetermined_tree (up_to undetermined_asked undetermined_kept (site (first 7) 0))
unfolding constant_by pattern_row expression_row type_row module_expression_row module_type_row item_row signature_item_row
typed_1 = (choice.type_at, record { choice = choice; chosen = λ n. refl; holds = ((tt), ((λ h. refl {a = true}), ((tt), ((tt), ((tt), ((tt), ((tt), (((refl {a = false}, ((refl {a = false}, ((refl {a = false}, tt), tt)), tt))), ((tt), ((((refl {a = false}, ((refl {a = false}, tt), tt)), (refl {a = false}, ((refl {a = false}, ((refl {a = false}, tt), tt)), tt)))), ((λ h. refl {a = true}), ((record { fill = λ o. int_type; instance = ((λ v. list_type (int_type)), (λ v h. absurd (yes_no h)), refl {a = Arrow (list_type (int_type)) (ref_type (list_type (int_type)))}) }), ((λ h. refl {a = Arrow (list_type (int_type)) (ref_type (list_type (int_type)))}), ((tt), (((refl {a = false}, ((refl {a = false}, tt), tt))), ((refl {a = list_type (int_type)}), ((λ h. refl {a = list_type (int_type)}), ((refl {a = ref_type (list_type (int_type))}), ((tt), (((refl {a = false}, ((refl {a = false}, ((refl {a = false}, tt), tt)), tt))), ((λ h. refl {a = true}), ((λ h. refl {a = ref_type (list_type (int_type))}), (((refl {a = true}, ((refl {a = true}, ((refl {a = true}, tt), tt)), tt))), ((λ h. absurd (no_yes h)), tt)))))))))))))))))))))))) })

typed_2 : HasTyping with_ref undetermined_tree (up_to undetermined_asked undetermined_kept (site (first 6) 0))
unfolding constant_by pattern_row expression_row type_row module_expression_row module_type_row item_row signature_item_row
typed_2 = (choice.type_at, record { choice = choice; chosen = λ n. refl; holds = ((tt), ((λ h. refl {a = true}), ((tt), ((tt), ((tt), ((tt), ((tt), (((refl {a = false}, ((refl {a = false}, ((refl {a = false}, tt), tt)), tt))), ((tt), ((((refl {a = false}, ((refl {a = false}, tt), tt)), (refl {a = false}, ((refl {a = false}, ((refl {a = false}, tt), tt)), tt)))), ((λ h. refl {a = true}), ((record { fill = λ o. int_type; instance = ((λ v. list_type (int_type)), (λ v h. absurd (yes_no h)), refl {a = Arrow (list_type (int_type)) (ref_type (list_type (int_type)))}) }), ((λ h. refl {a = Arrow (list_type (int_type)) (ref_type (list_type (int_type)))}), ((tt), (((refl {a = false}, ((refl {a = false}, tt), tt))), ((refl {a = list_type (int_type)}), ((λ h. refl {a = list_type (int_type)}), ((refl {a = ref_type (list_type (int_type))}), ((tt), (((refl {a = false}, ((refl {a = false}, ((refl {a = false}, tt), tt)), tt))), ((λ h. refl {a = true}), ((λ h. refl {a = ref_type (list_type (int_type))}), (((refl {a = true}, ((refl {a = true}, ((refl {a = true}, tt), tt)), tt))), ((λ h. absurd (no_yes h)), tt)))))))))))))))))))))))) })

typed_3 : HasTyping with_ref undetermined_tree (up_to undetermined_asked undetermined_kept (site (first 6) 1))
unfolding constant_by pattern_row expression_row type_row module_expression_row module_type_row item_row signature_item_row
typed_3 = (choice.type_at, record { choice = choice; chosen = λ n. refl; holds = ((tt), ((λ h. refl {a = true}), ((tt), ((tt), ((tt), ((tt), ((tt), (((refl {a = false}, ((refl {a = false}, ((refl {a = false}, tt), tt)), tt))), ((tt), ((((refl {a = false}, ((refl {a = false}, tt), tt)), (refl {a = false}, ((refl {a = false}, ((refl {a = false}, tt), tt)), tt)))), ((λ h. refl {a = true}), ((record { fill = λ o. int_type; instance = ((λ v. list_type (int_type)), (λ v h. absurd (yes_no h)), refl {a = Arrow (list_type (int_type)) (ref_type (list_type (int_type)))}) }), ((λ h. refl {a = Arrow (list_type (int_type)) (ref_type (list_type (int_type)))}), ((tt), (((refl {a = false}, ((refl {a = false}, tt), tt))), ((refl {a = list_type (int_type)}), ((λ h. refl {a = list_type (int_type)}), ((refl {a = ref_type (list_type (int_type))}), ((tt), (((refl {a = false}, ((refl {a = false}, ((refl {a = false}, tt), tt)), tt))), ((λ h. refl {a = true}), ((λ h. refl {a = ref_type (list_type (int_type))}), (((refl {a = true}, ((refl {a = true}, ((refl {a = true}, tt), tt)), tt))), ((λ h. absurd (no_yes h)), tt)))))))))))))))))))))))) })

typed_4 : HasTyping with_ref undetermined_tree (up_to undetermined_asked undetermined_kept (site (first 5) 0))
unfolding constant_by pattern_row expression_row type_row module_expression_row module_type_row item_row signature_item_row
typed_4 = (choice.type_at, record { choice = choice; chosen = λ n. refl; holds = ((tt), ((λ h. refl {a = true}), ((tt), ((tt), ((tt), ((tt), ((tt), (((refl {a = false}, ((refl {a = false}, ((refl {a = false}, tt), tt)), tt))), ((tt), ((((refl {a = false}, ((refl {a = false}, tt), tt)), (refl {a = false}, ((refl {a = false}, ((refl {a = false}, tt), tt)), tt)))), ((λ h. refl {a = true}), ((record { fill = λ o. int_type; instance = ((λ v. list_type (int_type)), (λ v h. absurd (yes_no h)), refl {a = Arrow (list_type (int_type)) (ref_type (list_type (int_type)))}) }), ((λ h. refl {a = Arrow (list_type (int_type)) (ref_type (list_type (int_type)))}), ((tt), (((refl {a = false}, ((refl {a = false}, tt), tt))), ((refl {a = list_type (int_type)}), ((λ h. refl {a = list_type (int_type)}), ((refl {a = ref_type (list_type (int_type))}), ((tt), (((refl {a = false}, ((refl {a = false}, ((refl {a = false}, tt), tt)), tt))), ((λ h. refl {a = true}), ((λ h. refl {a = ref_type (list_type (int_type))}), (((refl {a = true}, ((refl {a = true}, ((refl {a = true}, tt), tt)), tt))), ((λ h. absurd (no_yes h)), tt)))))))))))))))))))))))) })

typed_5 : HasTyping with_ref undetermined_tree (up_to undetermined_asked undetermined_kept (site (first 4) 1))
unfolding constant_by pattern_row expression_row type_row module_expression_row module_type_row item_row signature_item_row
typed_5 = (choice.type_at, record { choice = choice; chosen = λ n. refl; holds = ((tt), ((λ h. refl {a = true}), ((tt), ((tt), ((tt), ((tt), ((tt), (((refl {a = false}, ((refl {a = false}, ((refl {a = false}, tt), tt)), tt))), ((tt), ((((refl {a = false}, ((refl {a = false}, tt), tt)), (refl {a = false}, ((refl {a = false}, ((refl {a = false}, tt), tt)), tt)))), ((λ h. refl {a = true}), ((record { fill = λ o. int_type; instance = ((λ v. list_type (int_type)), (λ v h. absurd (yes_no h)), refl {a = Arrow (list_type (int_type)) (ref_type (list_type (int_type)))}) }), ((λ h. refl {a = Arrow (list_type (int_type)) (ref_type (list_type (int_type)))}), ((tt), (((refl {a = false}, ((refl {a = false}, tt), tt))), ((refl {a = list_type (int_type)}), ((λ h. refl {a = list_type (int_type)}), ((refl {a = ref_type (list_type (int_type))}), ((tt), (((refl {a = false}, ((refl {a = false}, ((refl {a = false}, tt), tt)), tt))), ((λ h. refl {a = true}), ((λ h. refl {a = ref_type (list_type (int_type))}), (((refl {a = true}, ((refl {a = true}, ((refl {a = true}, tt), tt)), tt))), ((λ h. absurd (no_yes h)), tt)))))))))))))))))))))))) })

abbrev types : List (ℕ × Typ)
types = (first 5, ref_type (list_type (Var (of_letter (first 8) 0)))) ∷ (first 6, ref_type (list_type (Var (of_letter (first 8) 0)))) ∷ (first 7, Arrow (list_type (Var (of_letter (first 8) 0))) (ref_type (list_type (Var (of_letter (first 8) 0))))) ∷ (first 8, list_type (Var (of_letter (first 8) 0))) ∷ []

abbrev letters : List (ℕ × ℕ × Typ)
letters = (first 6, 0, list_type (Var (of_letter (first 8) 0))) ∷ (first 6, 1, ref_type (list_type (Var (of_letter (first 8) 0)))) ∷ []

-- the types are the most general ones
general : IsMostGeneralChoice (before undetermined_asked undetermined_kept (site (first 0) 2)) (λ choice. conditions_before (site (first 0) 2) (conditions_of with_ref undetermined_tree (before undetermined_asked undetermined_kept (site (first 0) 2)) choice)) (open_choice types letters)
unfolding constant_by pattern_row expression_row type_row module_expression_row module_type_row item_row signature_item_row
general = record {
  holds = ((tt), ((λ h. refl {a = true}), ((tt), ((tt), ((tt), ((tt), ((tt), (((refl {a = false}, ((refl {a = false}, (tt, tt)), tt))), ((tt), ((((refl {a = false}, (tt, tt)), (refl {a = false}, ((refl {a = false}, (tt, tt)), tt)))), ((λ h. refl {a = true}), ((record { fill = λ o. int_type; instance = ((λ v. list_type (Var (of_letter (first 8) 0))), (λ v h. absurd (yes_no h)), refl {a = Arrow (list_type (Var (of_letter (first 8) 0))) (ref_type (list_type (Var (of_letter (first 8) 0))))}) }), ((λ h. refl {a = Arrow (list_type (Var (of_letter (first 8) 0))) (ref_type (list_type (Var (of_letter (first 8) 0))))}), ((tt), (((refl {a = false}, (tt, tt))), ((refl {a = list_type (Var (of_letter (first 8) 0))}), ((λ h. refl {a = list_type (Var (of_letter (first 8) 0))}), ((refl {a = ref_type (list_type (Var (of_letter (first 8) 0)))}), ((tt), (((refl {a = false}, ((refl {a = false}, (tt, tt)), tt))), ((λ h. refl {a = true}), ((λ h. refl {a = ref_type (list_type (Var (of_letter (first 8) 0)))}), (((refl {a = true}, ((refl {a = true}, (tt, tt)), tt))), tt)))))))))))))))))))))));
  general = λ other h.
      let at : ℕ → Typ = other.type_at in
      let l : ℕ → Typ = other.letter (first 6) in
      let x : Typ = put other (of_letter (first 8) 0) in
      let list : at (first 8) ≡ list_type x = h.1.1.1.1.1.1.1.1.1.1.1.1.1.1.1.0 ∙ ap list_type (sym (put_letter other (first 8) 0)) in
      let both = applied_ref (at (first 7)) (l 0) (l 1) (at (first 8)) (h.1.1.1.1.1.1.1.1.1.1.1.0.instance.0 0) x h.1.1.1.1.1.1.1.1.1.1.1.0.instance.2 (h.1.1.1.1.1.1.1.1.1.1.1.1.0 refl) (h.1.1.1.1.1.1.1.1.1.1.1.1.1.1.1.1.0 refl) list in
      let whole : at (first 6) ≡ ref_type (list_type x) = h.1.1.1.1.1.1.1.1.1.1.1.1.1.1.1.1.1.0 ∙ both.1 in
      let name : at (first 5) ≡ ref_type (list_type x) = h.1.1.1.1.1.1.1.1.1.1.1.1.1.1.1.1.1.1.1.1.1.0 refl ∙ whole in
      is_instance other types letters (name, (whole, (both.2, (list, tt)))) (both.0, (both.1, tt));
}

abbrev found : Option (Environment × Signature) → Environment × Signature
found None = ([], Structure Done)
found (Some e) = e

abbrev at_end : Environment × Signature
at_end = found (body_at (site (first 0) 2) (conditions_of with_ref undetermined_tree (before undetermined_asked undetermined_kept (site (first 0) 2)) (open_choice types letters)))

-- a variable that stands in the type of a held name is free in the body
free_where_held : (a b : Bool) → b ≡ true → ((((b || false) || false) && not (not (a || (((b || false) || false) || (((b || false) || false) || false))))) || false) ≡ true
free_where_held true true e = refl
free_where_held false true e = refl
free_where_held a false e = absurd (no_yes e)

and_false : (b : Bool) → ((b && false) || false) ≡ false
and_false true = refl
and_false false = refl

inside : free_in_signature (of_letter (first 8) 0) at_end.1 ≡ true
unfolding constant_by pattern_row expression_row type_row module_expression_row module_type_row item_row signature_item_row
inside = free_where_held (free_in (of_letter (first 8) 0) at_end.0) (of_letter (first 8) 0 == of_letter (first 8) 0) (eqb_same (of_letter (first 8) 0))

outside : free_in (of_letter (first 8) 0) at_end.0 ≡ false
unfolding constant_by pattern_row expression_row type_row module_expression_row module_type_row item_row signature_item_row
outside = and_false (occurs (of_letter (first 8) 0) (Arrow (Var 0) (ref_type (Var 0))))

left : LeavesOpen with_ref undetermined_tree undetermined_asked undetermined_kept (site (first 0) 2)
unfolding constant_by pattern_row expression_row type_row module_expression_row module_type_row item_row signature_item_row
left = record { choice = open_choice types letters; outer = at_end.0; body = at_end.1; general = general; stands = refl {a = Some at_end}; variable = of_letter (first 8) 0; inside = inside; outside = outside }

closes_here : is_closing with_ref undetermined_tree (kept_at undetermined_kept) (site (first 0) 2) ≡ true
unfolding constant_by pattern_row expression_row type_row module_expression_row module_type_row item_row signature_item_row
closes_here = refl

other_0 : is_closing with_ref undetermined_tree (kept_at undetermined_kept) (site (first 0) 1) ≡ false
unfolding constant_by pattern_row expression_row type_row module_expression_row module_type_row item_row signature_item_row
other_0 = refl

other_1 : is_closing with_ref undetermined_tree (kept_at undetermined_kept) (site (first 7) 0) ≡ false
unfolding constant_by pattern_row expression_row type_row module_expression_row module_type_row item_row signature_item_row
other_1 = refl

other_2 : is_closing with_ref undetermined_tree (kept_at undetermined_kept) (site (first 6) 0) ≡ false
unfolding constant_by pattern_row expression_row type_row module_expression_row module_type_row item_row signature_item_row
other_2 = refl

other_3 : is_closing with_ref undetermined_tree (kept_at undetermined_kept) (site (first 6) 1) ≡ false
unfolding constant_by pattern_row expression_row type_row module_expression_row module_type_row item_row signature_item_row
other_3 = refl

other_4 : is_closing with_ref undetermined_tree (kept_at undetermined_kept) (site (first 5) 0) ≡ false
unfolding constant_by pattern_row expression_row type_row module_expression_row module_type_row item_row signature_item_row
other_4 = refl

other_5 : is_closing with_ref undetermined_tree (kept_at undetermined_kept) (site (first 4) 1) ≡ false
unfolding constant_by pattern_row expression_row type_row module_expression_row module_type_row item_row signature_item_row
other_5 = refl

-- the kept demands
pub kept_ones : IsKept with_ref (parsed undetermined) (kept_at undetermined_kept)
kept_ones =
    subst (λ text. IsKept with_ref text (kept_at undetermined_kept)) (sym is_parsed)
    (keeps_open with_ref undetermined_tree undetermined_asked undetermined_kept all ((refl), ((refl), ((refl), ((refl), ((refl), ((refl), tt)))))) ((other_0), ((other_1), ((other_2), ((other_3), ((other_4), ((other_5), tt)))))) ((typed_0), ((typed_1), ((typed_2), ((typed_3), ((typed_4), ((typed_5), tt))))))
    ((λ k c t. yes_no k), ((λ k c t. yes_no k), ((λ k c t. yes_no k), ((λ k c t. yes_no k), ((λ k c t. yes_no k), ((λ k c t. yes_no k), ((λ k c t. no_yes (sym c ∙ closes_here)), tt)))))))
    ((λ k c. absurd (yes_no k)), ((λ k c. absurd (yes_no k)), ((λ k c. absurd (yes_no k)), ((λ k c. absurd (yes_no k)), ((λ k c. absurd (yes_no k)), ((λ k c. absurd (yes_no k)), ((λ k c. left), tt))))))))

-- what holds of all conditions holds of those before a demand
held_before : (kept : Site → Bool) (x : Site) (cs : List Condition) → AllHold kept cs → AllHold kept (conditions_before x cs)
held_before kept x [] h = h
held_before kept x (same t u ∷ cs) h = (h.0, held_before kept x cs h.1)
held_before kept x (instance s t ∷ cs) h = (h.0, held_before kept x cs h.1)
held_before kept x (made n t ∷ cs) h = (h.0, held_before kept x cs h.1)
held_before kept x (known t ∷ cs) h = (h.0, held_before kept x cs h.1)
held_before kept x (treated n env ∷ cs) h = (h.0, held_before kept x cs h.1)
held_before kept x (demand s at d ∷ cs) h = by (same_site x s) (held_before kept x cs h.1)
  where
    by : (b : Bool) → AllHold kept (conditions_before x cs) → AllHold kept (elim b [ true ↦ [] | false ↦ demand s at d ∷ conditions_before x cs ])
    by true later = tt
    by false later = (h.0, later)

-- the same types are the most general ones for the whole text
whole_general : IsMostGeneralChoice (before undetermined_asked undetermined_kept (site (first 0) 2)) (conditions_of with_ref undetermined_tree (before undetermined_asked undetermined_kept (site (first 0) 2))) (open_choice types letters)
unfolding constant_by pattern_row expression_row type_row module_expression_row module_type_row item_row signature_item_row
whole_general = record {
  holds = ((tt), ((λ h. refl {a = true}), ((tt), ((tt), ((tt), ((tt), ((tt), (((refl {a = false}, ((refl {a = false}, (tt, tt)), tt))), ((tt), ((((refl {a = false}, (tt, tt)), (refl {a = false}, ((refl {a = false}, (tt, tt)), tt)))), ((λ h. refl {a = true}), ((record { fill = λ o. int_type; instance = ((λ v. list_type (Var (of_letter (first 8) 0))), (λ v h. absurd (yes_no h)), refl {a = Arrow (list_type (Var (of_letter (first 8) 0))) (ref_type (list_type (Var (of_letter (first 8) 0))))}) }), ((λ h. refl {a = Arrow (list_type (Var (of_letter (first 8) 0))) (ref_type (list_type (Var (of_letter (first 8) 0))))}), ((tt), (((refl {a = false}, (tt, tt))), ((refl {a = list_type (Var (of_letter (first 8) 0))}), ((λ h. refl {a = list_type (Var (of_letter (first 8) 0))}), ((refl {a = ref_type (list_type (Var (of_letter (first 8) 0)))}), ((tt), (((refl {a = false}, ((refl {a = false}, (tt, tt)), tt))), ((λ h. refl {a = true}), ((λ h. refl {a = ref_type (list_type (Var (of_letter (first 8) 0)))}), (((refl {a = true}, ((refl {a = true}, (tt, tt)), tt))), ((λ k. absurd (no_yes k)), tt))))))))))))))))))))))));
  general = λ other h.
      general.general other (held_before (before undetermined_asked undetermined_kept (site (first 0) 2)) (site (first 0) 2) (conditions_of with_ref undetermined_tree (before undetermined_asked undetermined_kept (site (first 0) 2)) other) h);
}

-- the fault
pub is_a_fault : IsFaultAt with_ref (parsed undetermined) (kept_at undetermined_kept) (site (first 0) 2) (record { at = place 25 50; told = leaves_open; env = with_ref })
unfolding constant_by pattern_row expression_row type_row module_expression_row module_type_row item_row signature_item_row
is_a_fault =
    subst (λ text. IsFaultAt with_ref text (kept_at undetermined_kept) (site (first 0) 2) (record { at = place 25 50; told = leaves_open; env = with_ref })) (sym is_parsed)
    (is_fault with_ref undetermined_tree undetermined_asked undetermined_kept (site (first 0) 2) (record { at = place 25 50; told = leaves_open; env = with_ref }) (open_choice types letters) (closes at_end.0 at_end.1) all refl refl whole_general (refl {a = Some (place 25 50, closes at_end.0 at_end.1)}) by_body (refl {a = Some with_ref}))
