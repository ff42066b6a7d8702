-- The operands of a record pattern are its fields, in order; those that are missing ask nothing.
use Rattle.std.proofs.Common.{◌≡◌, ◌∙◌, ℕ, List, [], ◌∷◌, map, Option, Some, None, option_map, refl, sym, ap, subst, if◌then◌else◌}
use Rattle.std.specs.Prelude.{◌++◌, All, IfSome}
use Rattle.std.specs.List.{cons_option}
use Rattle.std.proofs.lemmas.List.Elements.{All-head, All-tail}
use Rattle.token_model.specs.Kinds.{Tok}
use Rattle.tree_model.specs.Rows.{precord_row, qfield_row}
use Rattle.tree_model.specs.Slots.{is_operand}
use Rattle.tree_model.specs.Trees.{Place, Part, Tree, node, taken, inner, missing}
use Rattle.signature_model.specs.Declarations as rules
use Rattle.signature_model.specs.Declarations.{Name}
use Rattle.signature_model.specs.Entries.{Environment}
use Rattle.row_parts.specs.Numbered.{Numbered, numbered, first_in, operands_in, path_in}
use Rattle.typing_model.specs.Demands.{test, label_word}
use Rattle.typing_model.specs.Contexts.{Context, ask, is_kept}
use Rattle.typing_model.specs.Meanings.{field_pattern_of}
use Rattle.typing_model.specs.Names.{entry_of, label_in, lost_behind, then_by, place_unbound, complaint_unbound, is_found}
use Rattle.typing_model.specs.Parts.{Written, FieldPattern}
use Rattle.typing_model.specs.Records.{ask_record, first_lost, first_token, labels_of, name_in}
use Rattle.typing_model.specs.Patterns.{labels_of_fields, precord, pattern_row}
use Rattle.signature_model.specs.Records.{record_of}
use Rattle.env_table.specs.declared.entries.Entry.{Entry}
use Rattle.typing_state.specs.declared.parts.Parts.{Parts}
use Rattle.typing_state.specs.Goes.{Goes}
use Rattle.typing_state.proofs.Going.{goes_refl}
use Rattle.typing_conditions.proofs.Carried.{carried_refl}
use Rattle.typing_steps.specs.Typing.{path_as}
use Rattle.operand_laws.specs.Formed.{row_of, IsFormed}
use Rattle.operand_laws.specs.Operands.{number_of, parts_of, pattern_of}
use Rattle.operand_laws.proofs.Sorts.{chosen_stand, first_pattern_stands}
use Rattle.operand_laws.proofs.Tokens.{path_stands}
use Rattle.pattern_rows.specs.Bounds.{Bind}
use Rattle.pattern_rows.specs.CarriedPatterns.{IsCarriedPattern}
use Rattle.pattern_rows.specs.Contracts.{row_pattern}
use Rattle.typing_steps.specs.States.{is_aloud, sight}
use Rattle.record_steps.specs.Recording.{AsksNothing, HasScope}
use Rattle.record_steps.proofs.Demanded.{nothing_asked, one_asked}
use Rattle.record_rows.specs.Fields.{RecordHere, BeginsField, FieldAdds, FieldsInOrderFirst, Puns}
use Rattle.record_rows.specs.Operands.{field_of, fields_of, labels_at, IsCarriedField, MatchesFieldBy, MatchesFieldPart}
use Rattle.record_rows.proofs.Fields.{pattern_ends, in_order_more}
use Rattle.record_rows.proofs.Punned.{pun_ends}
use Rattle.record_rows.proofs.Rows.{AskAlike}

-- a record pattern over the fields in its slot
pub record_term : (i n : ℕ) (at : Place) (t : Tree) → IsFormed n t → row_of t ≡ precord_row → row_pattern i n at t ≡ precord (number_of i n) at (fields_of i (operands_in n t 1))
unfolding pattern_row is_operand
record_term i n at t formed row =
    ap (λ q. pattern_row q (number_of i n) at (parts_of i n t)) row ∙ ap (λ fs. precord (number_of i n) at fs) (chosen_stand (λ c. c.field_pattern) i n t 1 formed (ap (λ q. is_operand q 1) row))

-- a field of a node
abbrev pub field_over : ℕ → ℕ → Tree → FieldPattern
field_over i n t = record { node = number_of i n; label = path_as (path_in t 0 1); pattern = option_map (pattern_of i) (first_in n t 3) }

-- a field by its parts
pub field_there : (i n : ℕ) (at : Place) (t : Tree) → IsFormed n t → row_of t ≡ qfield_row → field_of i (numbered n at (inner t)) ≡ Some (field_over i n t)
unfolding is_operand
field_there i n at t formed row =
    by_row t ∙ ap (λ q. field_pattern_of q (number_of i n) (parts_of i n t)) row ∙
    (λ k. Some (record { node = number_of i n; label = path_stands i n t 0 1 k; pattern = first_pattern_stands i n t 3 formed (ap (λ q. is_operand q 3) row) k }))
  where
    by_row : (t : Tree) → field_of i (numbered n at (inner t)) ≡ field_pattern_of (row_of t) (number_of i n) (parts_of i n t)
    by_row (node r x ps) = refl

-- paths one by one, where those without a last token may be left out
pub data AreLabels : List Written → List Written → Type 0 where
  no_labels : AreLabels [] []
  one_label : {p : Written} {ps qs : List Written} → AreLabels ps qs → AreLabels (p ∷ ps) (p ∷ qs)
  left_out : {p : Written} {ps qs : List Written} → p.last ≡ None → AreLabels ps qs → AreLabels (p ∷ ps) qs

-- they name the same labels
pub written_alike : {ps qs : List Written} → AreLabels ps qs → labels_of ps ≡ labels_of qs
written_alike no_labels = refl
written_alike (one_label {p = p} {ps = ps} {qs = qs} h) = by p.last (written_alike h)
  where
    by : (o : Option Tok) → labels_of ps ≡ labels_of qs → labels_of (record { qualifiers = p.qualifiers; last = o } ∷ ps) ≡ labels_of (record { qualifiers = p.qualifiers; last = o } ∷ qs)
    by None e = e
    by (Some t) e = ap (λ ls. record { modules = map (λ (x : Tok). x.name) p.qualifiers; name = t.name } ∷ ls) e
written_alike (left_out {p = p} {ps = ps} {qs = qs} none h) = subst (λ o. labels_of (record { qualifiers = p.qualifiers; last = o } ∷ ps) ≡ labels_of qs) (sym none) (written_alike h)

-- lose the same qualifier
lost_alike : (E : Environment) {ps qs : List Written} → AreLabels ps qs → first_lost E ps ≡ first_lost E qs
lost_alike E no_labels = refl
lost_alike E (one_label {p = p} {ps = ps} {qs = qs} h) = ap (λ (x : Option Tok). elim (then_by p.last (λ t. lost_behind E [] p.qualifiers)) [ None ↦ x | Some q ↦ Some q ]) (lost_alike E h)
lost_alike E (left_out {p = p} {ps = ps} {qs = qs} none h) = subst (λ o. first_lost E (record { qualifiers = p.qualifiers; last = o } ∷ ps) ≡ first_lost E qs) (sym none) (lost_alike E h)

-- and are written first at the same token
first_alike : {ps qs : List Written} → AreLabels ps qs → first_token ps ≡ first_token qs
first_alike no_labels = refl
first_alike (one_label {p = p} {ps = ps} {qs = qs} h) = ap (λ (x : Option Tok). elim p.last [ None ↦ x | Some t ↦ Some t ]) (first_alike h)
first_alike (left_out {p = p} {ps = ps} {qs = qs} none h) = subst (λ o. first_token (record { qualifiers = p.qualifiers; last = o } ∷ ps) ≡ first_token qs) (sym none) (first_alike h)

-- so they ask the same, and find the same
pub labels_ask : {ps qs : List Written} → AreLabels ps qs → AskAlike ps qs
labels_ask {ps} {qs} h = record {
  asks = λ c n k. by c n k (first_token ps) refl;
  kept = λ c n k.
      let w = written_alike h in let f = first_alike h in
      (λ i. let found = then_by (entry_of (record_of c.env (w i))) (λ e. option_map (λ (r : rules.Declaration × rules.Label). r.0) (label_in e.stands_for)) in if is_kept c n k then found else elim (f i) [ None ↦ found | Some t ↦ None ]);
}
  where
    by : (c : Context) (n k : ℕ) (o : Option Tok) → first_token ps ≡ o → ask_record c n k ps ≡ ask_record c n k qs
    by c n k None e = nothing_asked c n k ps e ∙ sym (nothing_asked c n k qs (sym (first_alike h) ∙ e))
    by c n k (Some t) e =
        let w = written_alike h in let l = lost_alike c.env h in
        one_asked c n k ps t e ∙ (λ i. ask n k (place_unbound (l i) t) (test (complaint_unbound (l i) label_word t) (is_found (record_of c.env (w i))))) ∙ sym (one_asked c n k qs t (sym (first_alike h) ∙ e))

-- the labels of operands that are such fields are those of the fields
labels_stand : (i : ℕ) (os : List Numbered) → All IsCarriedField os → AreLabels (labels_at os) (labels_of_fields (fields_of i os))
labels_stand i [] all = no_labels
labels_stand i (o ∷ os) all = by o.part (All-head IsCarriedField o os all) (labels_stand i os (All-tail IsCarriedField o os all))
  where
    by : (p : Part) → IsCarriedField (numbered o.number o.at p) → AreLabels (labels_at os) (labels_of_fields (fields_of i os)) → AreLabels (labels_at (numbered o.number o.at p ∷ os)) (labels_of_fields (fields_of i (numbered o.number o.at p ∷ os)))
    by (taken t) h later = left_out refl later
    by (missing at) h later = left_out refl later
    by (inner t) h later =
        let one : field_of i (numbered o.number o.at (inner t)) ≡ Some (field_over i o.number t) = field_there i o.number o.at t h.formed h.row in
        subst (λ x. AreLabels (labels_at (numbered o.number o.at (inner t) ∷ os)) (labels_of_fields (cons_option x (fields_of i os)))) (sym one) (one_label later)

pub fields_ask : (i : ℕ) (os : List Numbered) → All IsCarriedField os → AskAlike (labels_at os) (labels_of_fields (fields_of i os))
fields_ask i os all = labels_ask (labels_stand i os all)

-- What comes of a field: its beginning, the record of its node, and its rest.
record FieldComes (a d : Parts) (env : List Entry) (here : RecordHere) (n : ℕ) (t : Tree) (names names' : List Bind) (seen seen' labels labels' : List Name) : Type 0 where
  mid : Parts
  told : Parts
  type : Option ℕ
  begins : BeginsField here a mid labels (path_as (path_in t 0 1)) type
  noted : AsksNothing mid told
  adds : FieldAdds told d env (field_over told.item n t) names names' seen seen' type
  goes_mid : Goes a mid
  goes_told : Goes mid told
  labelled : labels' ≡ labels ++ name_in (path_as (path_in t 0 1))

-- by whether it has a pattern of its own
field_comes : (a d : Parts) (env : List Entry) (here : RecordHere) (n : ℕ) (t : Tree) (names names' : List Bind) (seen seen' labels labels' : List Name) → IfSome (first_in n t 3) IsCarriedPattern →
    MatchesFieldBy (first_in n t 3) a d env here n (path_as (path_in t 0 1)) names names' seen seen' labels labels' → FieldComes a d env here n t names names' seen seen' labels labels'
field_comes a d env here n t names names' seen seen' labels labels' carried x = by (first_in n t 3) refl carried x
  where
    by : (o : Option Numbered) → first_in n t 3 ≡ o → IfSome o IsCarriedPattern → MatchesFieldBy o a d env here n (path_as (path_in t 0 1)) names names' seen seen' labels labels' → FieldComes a d env here n t names names' seen seen' labels labels'
    by None is h x = record {
      mid = x.mid;
      told = x.mid;
      type = x.type;
      begins = x.begins;
      noted = λ F scope G. carried_refl;
      adds = subst (λ p. FieldAdds x.mid d env (record { node = number_of x.mid.item n; label = path_as (path_in t 0 1); pattern = option_map (pattern_of x.mid.item) p }) names names' seen seen' x.type) (sym is)
          (pun_ends x.mid d env (number_of x.mid.item n) (path_in t 0 1).qualifiers (path_in t 0 1).last names names' seen seen' x.type (subst (λ i. Puns (path_in t 0 1).last x.mid d env (number_of i n) x.type names names' seen seen') (sym x.goes.item) x.puns));
      goes_mid = x.goes;
      goes_told = goes_refl x.mid;
      labelled = x.labelled;
    }
    by (Some o) is h x = record {
      mid = x.mid;
      told = x.told;
      type = x.type;
      begins = x.begins;
      noted = x.noted.asks;
      adds = subst (λ p. FieldAdds x.told d env (record { node = number_of x.told.item n; label = path_as (path_in t 0 1); pattern = option_map (pattern_of x.told.item) p }) names names' seen seen' x.type) (sym is)
          (pattern_ends x.told d env (number_of x.told.item n) (path_as (path_in t 0 1)) (pattern_of x.told.item o) names names' seen seen' x.type (λ loud. subst (λ i. HasScope (sight x.told) (number_of i n) env) (sym (x.goes_told.item ∙ x.goes_mid.item)) (x.noted.scope (sym (ap is_aloud x.goes_told.telling) ∙ loud))) (x.wanted h));
      goes_mid = x.goes_mid;
      goes_told = x.goes_told;
      labelled = x.labelled;
    }

-- One operand more in a loop.
pub operand_more : (a b d : Parts) (env : List Entry) (here : RecordHere) (all : List FieldPattern) (o : Numbered) (os : List Numbered) (names some more : List Bind) (seen now later labels labels' : List Name) → Goes a b → IsCarriedField o →
    FieldsInOrderFirst a b env here all (fields_of a.item (o ∷ os)) names some seen labels now → MatchesFieldPart b d env here o.number o.part some more now later labels labels' → FieldsInOrderFirst a d env here all (fields_of a.item os) names more seen labels' later
operand_more a b d env here all o os names some more seen now later labels labels' goes carried first one = by o.part carried first one
  where
    still : (d ≡ b) × (more ≡ some) × (later ≡ now) × (labels' ≡ labels) → FieldsInOrderFirst a b env here all (fields_of a.item os) names some seen labels now → FieldsInOrderFirst a d env here all (fields_of a.item os) names more seen labels' later
    still (p, q, r, s) h =
        subst (λ z. FieldsInOrderFirst a z env here all (fields_of a.item os) names more seen labels' later) (sym p) (subst (λ ns. FieldsInOrderFirst a b env here all (fields_of a.item os) names ns seen labels' later) (sym q)
        (subst (λ ls. FieldsInOrderFirst a b env here all (fields_of a.item os) names some seen ls later) (sym s) (subst (λ ls. FieldsInOrderFirst a b env here all (fields_of a.item os) names some seen labels ls) (sym r) h)))

    by : (p : Part) → IsCarriedField (numbered o.number o.at p) → FieldsInOrderFirst a b env here all (fields_of a.item (numbered o.number o.at p ∷ os)) names some seen labels now → MatchesFieldPart b d env here o.number p some more now later labels labels' →
        FieldsInOrderFirst a d env here all (fields_of a.item os) names more seen labels' later
    by (taken t) h x y = still y x
    by (missing at) h x y = still y x
    by (inner t) h x y =
        let w = field_comes b d env here o.number t some more now later labels labels' h.pattern y in
        let item : w.told.item ≡ a.item = w.goes_told.item ∙ w.goes_mid.item ∙ goes.item in
        let split : fields_of a.item (numbered o.number o.at (inner t) ∷ os) ≡ field_over a.item o.number t ∷ fields_of a.item os = ap (λ x. cons_option x (fields_of a.item os)) (field_there a.item o.number o.at t h.formed h.row) in
        let adds = subst (λ i. FieldAdds w.told d env (field_over i o.number t) some more now later w.type) item w.adds in
        subst (λ ls. FieldsInOrderFirst a d env here all (fields_of a.item os) names more seen ls later) (sym w.labelled)
        (in_order_more a b w.mid w.told d env here all (fields_of a.item (numbered o.number o.at (inner t) ∷ os)) (fields_of a.item os) (field_over a.item o.number t) names some more seen labels now later w.type split goes w.goes_mid w.goes_told x w.begins w.noted adds)
