-- Whether a record is non-expansive, as the code gathers its labels and its values.
use Rattle.std.proofs.Common.{◌≡◌, ◌∙◌, ◌++◌, ◌&&◌, ℕ, Bool, true, false, not, List, [], ◌∷◌, map, Option, Some, None, refl, sym, ap, subst}
use Rattle.std.specs.Prelude.{All}
use Rattle.std.specs.List.{cons_option}
use Rattle.std.specs.Option.{option_to_list, IfSome}
use Rattle.std.proofs.lemmas.List.Elements.{All-nil, All-cons, All-head, All-tail, All-append}
use Rattle.token_model.specs.Kinds.{Tok}
use Rattle.tree_model.specs.Rows.{erecord_row}
use Rattle.tree_model.specs.Trees.{Place, Tree, Part, taken, inner, missing}
use Rattle.signature_model.specs.Records as labels
use Rattle.signature_model.specs.Records.{record_by}
use Rattle.row_parts.specs.Numbered.{Numbered, Written, numbered, operands_in, first_in, filled_in, token_in}
use Rattle.typing_model.specs.Contexts.{Context}
use Rattle.typing_model.specs.Expressions.{all_values}
use Rattle.env_table.specs.declared.entries.Entry.{Entry}
use Rattle.env_table.specs.Labels.{labelled, scope_for}
use Rattle.operand_laws.specs.Formed.{row_of}
use Rattle.typing_steps.specs.Typing.{as_declared, path_as}
use Rattle.typing_rows.specs.Asked.{row_expression, expressions_of}
use Rattle.typing_rows.specs.CarriedRows.{IsCarried}
use Rattle.use_typing.specs.Labels.{found_by, label_paths}
use Rattle.use_typing.specs.Paths.{labels_of}
use Rattle.use_typing.proofs.Recording.{found_alike}
use Rattle.binding_rows.specs.Decided.{IsAmong, FindsValues, FindsRowValue}
use Rattle.record_steps.specs.Recording.{found_here}
use Rattle.record_rows.specs.NonExpansive.{field_value_in, field_values, found_unset, is_constant_here}
use Rattle.record_rows.specs.ValueOperands.{IsCarriedValuePart, IsCarriedValue, AreFormedFields}
use Rattle.record_rows.specs.RecordExpressions.{IsRecordNode}
use Rattle.record_rows.proofs.Going.{record_node}
use Rattle.record_rows.proofs.NonExpansive.{made_constant, loose_constant, updated_constant}
use Rattle.record_rows.proofs.ValueOperands.{carried_formed}
use Rattle.value_forms.specs.Heads.{label_at}
use Rattle.value_forms.specs.RecordValues.{label_before, label_values, first_values, record_labels, record_values}
use Rattle.value_forms.proofs.LabelForms.{label_is, label_none}

-- a record is non-expansive where none of its labels may be set and its values are non-expansive
record_value : (env : List Entry) (i n : ℕ) (place : Place) (t : Tree) → row_of t ≡ erecord_row → IsCarried (numbered n place (inner t)) → (c : Context) → IsAmong as_declared env c →
    (row_expression i n place t).is_value c ≡ is_constant_here env c i (map path_as (record_labels n t)) (record_values n t)
record_value env i n place t row h c m = by (token_in t 4) refl
  where
    fields : AreFormedFields (operands_in n t 5)
    fields = carried_formed (operands_in n t 5) (record_node n place t row h).fields

    made : (l : Option Written) → token_in t 4 ≡ None → label_at (filled_in n t 1).part ≡ l →
        (row_expression i n place t).is_value c ≡ is_constant_here env c i (map path_as (option_to_list l ++ labels_of (operands_in n t 5))) (label_values n t l ++ field_values (operands_in n t 5))
    made None none is = loose_constant m.state m.at i n place t h.formed row fields none (label_none i (filled_in n t 1) is) m.types c m.loose m.under m.agrees m.named
    made (Some p) none is = made_constant m.state m.at i n place t h.formed row fields (path_as p) none (label_is i (filled_in n t 1) p is) m.types c m.loose m.under m.agrees m.named

    by : (w : Option Tok) → token_in t 4 ≡ w →
        (row_expression i n place t).is_value c ≡ is_constant_here env c i (map path_as (option_to_list (label_before w (filled_in n t 1)) ++ labels_of (operands_in n t 5))) (first_values n t w (label_before w (filled_in n t 1)) ++ field_values (operands_in n t 5))
    by None none = made (label_at (filled_in n t 1).part) none refl
    by (Some w) some = updated_constant m.state m.at i n place t h.formed row fields w some m.types c m.loose m.under m.agrees m.named

-- an operand that may be there, before others
one_carried : (o : Option Numbered) (xs : List Numbered) → IfSome o IsCarried → All IsCarried xs → All IsCarried (cons_option o xs)
one_carried None xs h rest = rest
one_carried (Some o) xs h rest = All-cons IsCarried o xs h rest

alone_carried : (o : Option Numbered) → IfSome o IsCarried → All IsCarried (option_to_list o)
alone_carried None h = All-nil IsCarried
alone_carried (Some o) h = All-cons IsCarried o [] h (All-nil IsCarried)

field_carried : (n : ℕ) (p : Part) (xs : List Numbered) → IsCarriedValuePart n p → All IsCarried xs → All IsCarried (cons_option (field_value_in n p) xs)
field_carried n (taken t) xs h rest = rest
field_carried n (inner t) xs h rest = one_carried (first_in n t 3) xs h.value rest
field_carried n (missing at) xs h rest = rest

-- the values of fields are carried
fields_carried : (os : List Numbered) → All IsCarriedValue os → All IsCarried (field_values os)
fields_carried [] all = All-nil IsCarried
fields_carried (o ∷ os) all = field_carried o.number o.part (field_values os) (All-head IsCarriedValue o os all) (fields_carried os (All-tail IsCarriedValue o os all))

first_carried : (n : ℕ) (t : Tree) (w : Option Tok) (l : Option Written) → IsRecordNode n t → All IsCarried (first_values n t w l)
first_carried n t (Some w) l h = All-cons IsCarried (filled_in n t 1) [] h.first (All-nil IsCarried)
first_carried n t None None h = All-nil IsCarried
first_carried n t None (Some p) h = alone_carried (first_in n t 3) h.value

-- the values of a record are
all_carried : (n : ℕ) (t : Tree) → IsRecordNode n t → All IsCarried (record_values n t)
all_carried n t h =
    let l = label_before (token_in t 4) (filled_in n t 1) in
    All-append IsCarried (first_values n t (token_in t 4) l) (field_values (operands_in n t 5)) (first_carried n t (token_in t 4) l h) (fields_carried (operands_in n t 5) h.fields)

-- what the gathered labels find
gathered_found : (env : List Entry) (n : ℕ) (t : Tree) (ws : List labels.Written) (l : Option Written) (os : List Numbered) → ws ≡ label_paths (option_to_list l ++ labels_of os) → l ≡ label_before (token_in t 4) (filled_in n t 1) → os ≡ operands_in n t 5 →
    record_by labelled env (scope_for env ws) ws ≡ found_here env (map path_as (record_labels n t))
gathered_found env n t ws l os paths first fields = ap (found_by env) (paths ∙ (λ k. label_paths (option_to_list (first k) ++ labels_of (fields k)))) ∙ found_alike env (record_labels n t)

not_true : (b : Bool) → not b ≡ true → b ≡ false
not_true true e = absurd (cc)
not_true false e = refl

not_false : (b : Bool) → not b ≡ false → b ≡ true
not_false true e = refl
not_false false e = absurd (cc)

-- a record with a mutable label is not
pub record_mutable : (env : List Entry) (n : ℕ) (t : Tree) (ws : List labels.Written) (l : Option Written) (os : List Numbered) → ws ≡ label_paths (option_to_list l ++ labels_of os) → l ≡ label_before (token_in t 4) (filled_in n t 1) → os ≡ operands_in n t 5 →
    not (found_unset (record_by labelled env (scope_for env ws) ws)) ≡ true → FindsRowValue env erecord_row n t false
record_mutable env n t ws l os paths first fields mutable row = λ place h i c m.
    record_value env i n place t row h c m ∙
    ap (λ b. b && all_values c (expressions_of i (record_values n t))) (sym (ap found_unset (gathered_found env n t ws l os paths first fields)) ∙ not_true (found_unset (record_by labelled env (scope_for env ws) ws)) mutable)

-- one without a mutable label is where its values are
pub record_unset : (env : List Entry) (n : ℕ) (t : Tree) (ws : List labels.Written) (l : Option Written) (os values : List Numbered) (v : Bool) → ws ≡ label_paths (option_to_list l ++ labels_of os) → l ≡ label_before (token_in t 4) (filled_in n t 1) → os ≡ operands_in n t 5 →
    not (found_unset (record_by labelled env (scope_for env ws) ws)) ≡ false → values ≡ first_values n t (token_in t 4) l ++ field_values os → FindsValues env values v → FindsRowValue env erecord_row n t v
record_unset env n t ws l os values v paths first fields unset gathered found row = λ place h i c m.
    let same : values ≡ record_values n t = gathered ∙ (λ k. first_values n t (token_in t 4) (first k) ++ field_values (fields k)) in
    record_value env i n place t row h c m ∙
    ap (λ b. b && all_values c (expressions_of i (record_values n t))) (sym (ap found_unset (gathered_found env n t ws l os paths first fields)) ∙ not_false (found_unset (record_by labelled env (scope_for env ws) ws)) unset) ∙
    ap (λ xs. all_values c (expressions_of i xs)) (sym same) ∙ found (subst (All IsCarried) (sym same) (all_carried n t (record_node n place t row h))) i c m
