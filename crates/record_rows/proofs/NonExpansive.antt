-- Whether a record is non-expansive: the names of the code decide it as the definitions do.
use Rattle.std.proofs.Common.{◌≡◌, ◌∙◌, ◌++◌, ◌&&◌, not, ℕ, Bool, true, false, List, [], ◌∷◌, Option, Some, None, option_map, refl, sym, ap}
use Rattle.std.specs.Option.{option_to_list}
use Rattle.std.specs.List.{cons_option}
use Rattle.std.proofs.lemmas.List.Elements.{All-head, All-tail}
use Rattle.token_model.specs.Kinds.{Tok}
use Rattle.tree_model.specs.Rows.{erecord_row}
use Rattle.tree_model.specs.Trees.{Place, Part, Tree, taken, inner, missing}
use Rattle.type_model.specs.Types.{Typ}
use Rattle.type_model.specs.Schemes.{Scheme}
use Rattle.signature_model.specs.Declarations as rules
use Rattle.signature_model.specs.Entries.{Entry as Named, Referent}
use Rattle.signature_model.specs.Lookups.{FoundAmong}
use Rattle.signature_model.specs.Records.{record_of}
use Rattle.row_parts.specs.Numbered.{Numbered, numbered, first_in, filled_in, operands_in, token_in, path_in}
use Rattle.typing_model.specs.Contexts.{Context}
use Rattle.typing_model.specs.Names.{entry_of, then_by, label_in}
use Rattle.typing_model.specs.Parts.{Written, Form, a_constructor, a_path, a_float, a_false, a_field, no_expression, other, Expression}
use Rattle.typing_model.specs.Records.{labels_of, labels_in}
use Rattle.typing_model.specs.Expressions.{none_mutable, all_values, all_field_values, first_field, is_constant_record}
use Rattle.type_nodes.specs.Nodes.{Node}
use Rattle.type_nodes.specs.Readings.{Types}
use Rattle.env_table.specs.declared.entries.Entry.{Entry}
use Rattle.env_table.specs.declared.entries.Label.{Label}
use Rattle.env_table.specs.declared.entries.Shape.{Shape}
use Rattle.env_table.specs.declared.entries.What.{What}
use Rattle.typing_conditions.specs.Assumptions.{SchemeFits}
use Rattle.typing_conditions.specs.Standing.{IsIn}
use Rattle.typing_conditions.specs.Environments.{WhatAs, of_value, of_constructor, of_exception, of_label, of_type, of_module, of_module_type, EntryAs, entry_as}
use Rattle.typing_conditions.proofs.Environments.{ComesTo, to_entry, to_hole, to_nothing}
use Rattle.typing_conditions.proofs.Own.{own_of}
use Rattle.typing_conditions.specs.Declared.{LabelAs, OneByOne, no_more, one_more, ShapeAs, tell_nothing, tell_constructors, tell_labels, DeclaredAs, ExceptionAs}
use Rattle.typing_conditions.specs.Sights.{Sight, Letters}
use Rattle.typing_conditions.specs.Frames.{Frame}
use Rattle.typing_conditions.specs.Carrying.{Scope}
use Rattle.typing_conditions.specs.Surroundings.{Surrounds}
use Rattle.typing_steps.specs.Typing.{as_declared, path_as}
use Rattle.typing_steps.specs.Building.{InEach}
use Rattle.operand_laws.specs.Formed.{row_of, IsFormed}
use Rattle.operand_laws.specs.Operands.{expression_of}
use Rattle.typing_rows.specs.Asked.{row_expression, expressions_of}
use Rattle.record_steps.specs.Named.{labels_here}
use Rattle.record_steps.proofs.Declared.{labels_alike}
use Rattle.record_rows.specs.Operands.{labels_at}
use Rattle.record_rows.specs.ValueOperands.{labelled_field, value_fields_of, IsFormedFieldPart, AreFormedFields}
use Rattle.record_rows.specs.NonExpansive.{none_set, what_unset, found_unset, unset_here, is_unset, unset_in, field_values, is_constant_here, IsNoLabel}
use Rattle.record_rows.proofs.Operands.{AreLabels, one_label, written_alike}
use Rattle.record_rows.proofs.RecordNodes.{record_term, update_term}
use Rattle.record_rows.proofs.ValueOperands.{value_field_there, formed_labels}

module _ {nodes : List Node} {C : List ℕ} {N : Types} where
  module _ {arity : ℕ} {owner : Typ} where
    -- none may be set of labels that stand for others, where none of those may
    unset_so : {ls : List Label} {ks : List rules.Label} → OneByOne (LabelAs nodes C N arity owner) ls ks → none_set ls ≡ none_mutable ks
    unset_so no_more = refl
    unset_so (one_more p ps) = let later = unset_so ps in (λ i. not (p.mutable i) && later i)

    shape_unset : {s : Shape} {z : rules.Shape} → ShapeAs nodes C N arity owner s z → none_set (labels_here s) ≡ none_mutable (labels_in z)
    shape_unset (tell_nothing e) = ap (λ s. none_set (labels_here s)) e
    shape_unset (tell_constructors e h) = ap (λ s. none_set (labels_here s)) e
    shape_unset (tell_labels e h) = ap (λ s. none_set (labels_here s)) e ∙ unset_so h

  module _ {R : ℕ → Scheme → Type 0} where
    what_so : {w : What} {f : Referent} → WhatAs R (DeclaredAs nodes C N) (ExceptionAs nodes C N) w f → what_unset w ≡ is_unset (option_map (λ r. r.0) (label_in f))
    what_so (of_value e h) = ap what_unset e
    what_so (of_constructor e h c) = ap what_unset e
    what_so (of_exception e h) = ap what_unset e
    what_so (of_label e h l) = ap what_unset e ∙ shape_unset h.shape
    what_so (of_type e h) = ap what_unset e
    what_so (of_module e h) = ap what_unset e
    what_so (of_module_type e h) = ap what_unset e

    entry_so : {e : Entry} {f : Named} → EntryAs R (DeclaredAs nodes C N) (ExceptionAs nodes C N) e f → what_unset e.what ≡ is_unset (option_map (λ r. r.0) (label_in f.stands_for))
    entry_so (entry_as n k p w) = what_so w

    found_so : {x : FoundAmong Entry} {y : FoundAmong Named} → ComesTo R (DeclaredAs nodes C N) (ExceptionAs nodes C N) x y → found_unset x ≡ is_unset (then_by (entry_of y) (λ f. option_map (λ r. r.0) (label_in f.stands_for)))
    found_so (to_entry h) = entry_so h
    found_so to_hole = refl
    found_so to_nothing = refl

-- Whether no label of the record type may be set is the same by the names of the code and by those of the definitions, in each context that a state allows.
pub unset_alike : {F : Frame} {scope : Scope} {G : Letters} {env : List Entry} (a : Sight) (ps : List Written) → Surrounds as_declared F a G env scope → InEach F scope a G (λ c. unset_in c ps ≡ unset_here env ps)
unset_alike {F} {scope} {G} {env} a ps at V c loose under agrees named =
    let own = own_of a.nodes at.reached.sound in
    let stands = (at.fits own.0 V c.chosen own.1 loose agrees named).names in
    let R : ℕ → Scheme → Type 0 = λ r sc. SchemeFits a.nodes V r sc × IsIn at.roots r in
    ap (λ E. unset_in (record c { env = E }) ps) under.env ∙ sym (found_so {R = R} (labels_alike R (DeclaredAs a.nodes at.roots at.names) (ExceptionAs a.nodes at.roots at.names) (λ d e h. h.defines) (labels_of ps) stands))

-- the values of fields are non-expansive where their operands are
values_so : (c : Context) (i : ℕ) (os : List Numbered) → AreFormedFields os → all_field_values c (value_fields_of i os) ≡ all_values c (expressions_of i (field_values os))
values_so c i [] all = refl
values_so c i (o ∷ os) all = by o.part (All-head (λ o. IsFormedFieldPart o.number o.part) o os all) (values_so c i os (All-tail (λ o. IsFormedFieldPart o.number o.part) o os all))
  where
    value : (n : ℕ) (l : Written) (v : Option Numbered) → all_field_values c (value_fields_of i os) ≡ all_values c (expressions_of i (field_values os)) →
        all_field_values c (labelled_field i n l v ∷ value_fields_of i os) ≡ all_values c (expressions_of i (cons_option v (field_values os)))
    value n l None later = later
    value n l (Some e) later = ap (λ b. (expression_of i e).is_value c && b) later

    by : (p : Part) → IsFormedFieldPart o.number p → all_field_values c (value_fields_of i os) ≡ all_values c (expressions_of i (field_values os)) →
        all_field_values c (value_fields_of i (numbered o.number o.at p ∷ os)) ≡ all_values c (expressions_of i (field_values (numbered o.number o.at p ∷ os)))
    by (taken t) h later = later
    by (missing at) h later = later
    by (inner t) h later =
        ap (λ x. all_field_values c (cons_option x (value_fields_of i os))) (value_field_there i o.number o.at t h.formed h.row) ∙ value o.number (path_as (path_in t 0 1)) (first_in o.number t 3) later

-- labels that are alike find the same
unset_same : (c : Context) {ps qs : List Written} → AreLabels ps qs → unset_in c ps ≡ unset_in c qs
unset_same c h = let w = written_alike h in (λ i. is_unset (then_by (entry_of (record_of c.env (w i))) (λ f. option_map (λ r. r.0) (label_in f.stands_for))))

-- what a form that is no label's has as a first field
no_first : (f : Form) (n : ℕ) (value : Option Expression) → IsNoLabel f → first_field f n value ≡ []
no_first (a_constructor p) n value h = refl
no_first (a_path p) n value h = absurd h
no_first a_float n value h = refl
no_first a_false n value h = refl
no_first (a_field p l) n value h = refl
no_first no_expression n value h = refl
no_first other n value h = refl

-- a record that is made, by its first label and its values, in each context that a state allows
module _ {F : Frame} {scope : Scope} {G : Letters} {env : List Entry} (a : Sight) (at : Surrounds as_declared F a G env scope) (i number : ℕ) (place : Place) (t : Tree) (formed : IsFormed number t) (row : row_of t ≡ erecord_row) (fields : AreFormedFields (operands_in number t 5)) where
  -- where its first part is a label
  pub made_constant : (l : Written) → token_in t 4 ≡ None → (expression_of i (filled_in number t 1)).form ≡ a_path l →
      InEach F scope a G (λ c. (row_expression i number place t).is_value c ≡ is_constant_here env c i (l ∷ labels_at (operands_in number t 5)) (option_to_list (first_in number t 3) ++ field_values (operands_in number t 5)))
  made_constant l none form V c loose under agrees named =
      let os = operands_in number t 5 in
      let e = expression_of i (filled_in number t 1) in
      let value = option_map (expression_of i) (first_in number t 3) in
      let fs = value_fields_of i os in
      ap (λ (x : Expression). x.is_value c) (record_term i number place t formed row none) ∙ ap (λ f. is_constant_record c (first_field f e.node value ++ fs)) form ∙
      (let p = sym (unset_same c (one_label {p = l} (formed_labels i os fields))) ∙ unset_alike a (l ∷ labels_at os) at V c loose under agrees named in
      let q = by c (first_in number t 3) (values_so c i os fields) in
      (λ k. p k && q k))
    where
      by : (c : Context) (v : Option Numbered) → all_field_values c (value_fields_of i (operands_in number t 5)) ≡ all_values c (expressions_of i (field_values (operands_in number t 5))) →
          (elim (option_map (expression_of i) v) [ None ↦ true | Some e ↦ e.is_value c ] && all_field_values c (value_fields_of i (operands_in number t 5))) ≡ all_values c (expressions_of i (option_to_list v ++ field_values (operands_in number t 5)))
      by c None later = later
      by c (Some e) later = ap (λ b. (expression_of i e).is_value c && b) later

  -- the same where its first part is no label: neither that nor the value after it counts
  pub loose_constant : token_in t 4 ≡ None → IsNoLabel (expression_of i (filled_in number t 1)).form →
      InEach F scope a G (λ c. (row_expression i number place t).is_value c ≡ is_constant_here env c i (labels_at (operands_in number t 5)) (field_values (operands_in number t 5)))
  loose_constant none form V c loose under agrees named =
      let os = operands_in number t 5 in
      let e = expression_of i (filled_in number t 1) in
      let value = option_map (expression_of i) (first_in number t 3) in
      let fs = value_fields_of i os in
      ap (λ (x : Expression). x.is_value c) (record_term i number place t formed row none) ∙ ap (λ gs. is_constant_record c (gs ++ fs)) (no_first e.form e.node value form) ∙
      (let p = sym (unset_same c (formed_labels i os fields)) ∙ unset_alike a (labels_at os) at V c loose under agrees named in
      let q = values_so c i os fields in
      (λ k. p k && q k))

  -- one that is updated: its first part counts
  pub updated_constant : (w : Tok) → token_in t 4 ≡ Some w → InEach F scope a G (λ c. (row_expression i number place t).is_value c ≡ is_constant_here env c i (labels_at (operands_in number t 5)) (filled_in number t 1 ∷ field_values (operands_in number t 5)))
  updated_constant w some V c loose under agrees named =
      let os = operands_in number t 5 in
      let e = expression_of i (filled_in number t 1) in
      ap (λ (x : Expression). x.is_value c) (update_term i number place t w formed row some) ∙
      (let p = sym (unset_same c (formed_labels i os fields)) ∙ unset_alike a (labels_at os) at V c loose under agrees named in
      let q = values_so c i os fields in
      (λ k. e.is_value c && (p k && q k))) ∙ turned (e.is_value c) (unset_here env (labels_at os)) (all_values c (expressions_of i (field_values os)))
    where
      turned : (x y z : Bool) → (x && (y && z)) ≡ (y && (x && z))
      turned true y z = refl
      turned false true z = refl
      turned false false z = refl
