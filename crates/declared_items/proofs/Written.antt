-- The constructors and labels that are written are those that the definitions take from the parts of their row.
use Rattle.std.proofs.Common.{◌≡◌, ◌∙◌, ℕ, List, [], ◌∷◌, All, map, filter_map, Option, Some, None, refl, sym, ap}
use Rattle.std.specs.List.{cons_option}
use Rattle.std.specs.Option.{is_some}
use Rattle.token_model.specs.Kinds.{Tok}
use Rattle.std.proofs.lemmas.List.Elements.{All-head, All-tail}
use Rattle.tree_model.specs.Rows.{con_row, label_row, variant_row, record_row}
use Rattle.tree_model.specs.Slots.{is_operand}
use Rattle.tree_model.specs.Trees.{Tree, Part, node, taken, inner, missing}
use Rattle.row_parts.specs.Numbered.{Numbered, operands_in, token_in}
use Rattle.typing_model.specs.Declarations as declarations
use Rattle.typing_model.specs.Meanings.{constructor_of, label_of, child_of}
use Rattle.typing_model.specs.Parts as parts
use Rattle.typing_model.specs.Parts.{Child, ConstructorPart, LabelPart}
use Rattle.operand_laws.specs.Formed.{row_of, IsFormed, IsPartFormed, is_needed}
use Rattle.operand_laws.specs.Operands.{number_of, parts_of, child_at}
use Rattle.operand_laws.proofs.Sorts.{chosen_stand, first_type_stands, type_stands}
use Rattle.operand_laws.proofs.Tokens.{token_stands}
use Rattle.typing_rows.specs.Operands.{IsTypeOperand}
use Rattle.typing_rows.proofs.Placed.{slot_operands}
use Rattle.decl_groups.specs.declared.groups.ConstructorPart.{ConstructorPart as CodePart}
use Rattle.decl_groups.specs.declared.groups.LabelPart.{LabelPart as CodeLabel}
use Rattle.decl_groups.specs.Written.{Constructor, Label, constructor_in, label_in, node_first, nodes_as, constructor_view, label_view}
use Rattle.decl_typing.specs.Labels.{label_as, labels_as}
use Rattle.decl_typing.specs.Settling.{constructor_as, constructors_as}
use Rattle.declared_items.specs.Written.{IsOfRow, AreOfRow, constructor_written, label_written}

-- the parts of the code, as the definitions take them
constructors_seen : (i : ℕ) (ps : List CodePart) → constructors_as i ps ≡ map (constructor_written i) (map constructor_view ps)
constructors_seen i [] = refl
constructors_seen i (p ∷ ps) = ap (λ ks. constructor_as i p ∷ ks) (constructors_seen i ps)

-- a node of a constructor's row is the constructor that is written
one_constructor : (i n : ℕ) (t : Tree) → IsFormed n t → row_of t ≡ con_row → declarations.constructor_row (number_of i n) (parts_of i n t) ≡ constructor_written i (constructor_in n t)
unfolding is_operand
one_constructor i n t formed row =
    let name = token_stands i n t 0 in
    let argument = first_type_stands i n t 2 formed (ap (λ r. is_operand r 2) row) in
    (λ j. record { node = number_of i n; name = name j; argument = argument j })

-- a part of a variant is the constructor that is written, in front of others
part_constructor : (i s n : ℕ) (p : Part) → IsPartFormed n p → IsOfRow con_row p → (ks : List ConstructorPart) (vs : List Constructor) → ks ≡ map (constructor_written i) vs → cons_option (child_of (number_of i n) s p).constructor ks ≡ map (constructor_written i) (node_first constructor_in n p vs)
part_constructor i s n (taken t) formed row ks vs e = e
part_constructor i s n (missing at) formed row ks vs e = e
part_constructor i s n (inner (node r x ps)) formed row ks vs e =
    let one = one_constructor i n (node r x ps) formed row in
    ap (λ q. cons_option (constructor_of q (number_of i n) (parts_of i n (node r x ps))) ks) row ∙ (λ j. one j ∷ e j)

-- so are all
parts_constructors : (i s : ℕ) (os : List Numbered) → All IsTypeOperand os → AreOfRow con_row os → filter_map (λ (o : Numbered). (child_at i s o).constructor) os ≡ map (constructor_written i) (nodes_as constructor_in os)
parts_constructors i s [] formed rows = refl
parts_constructors i s (o ∷ os) formed rows = part_constructor i s o.number o.part (All-head IsTypeOperand o os formed).formed (All-head (λ (q : Numbered). IsOfRow con_row q.part) o os rows) _ _ (parts_constructors i s os (All-tail IsTypeOperand o os formed) (All-tail (λ (q : Numbered). IsOfRow con_row q.part) o os rows))

-- The constructors of the code, where they are those that are written in a variant, are those of the definitions.
pub constructors_written : (i n : ℕ) (t : Tree) (ps : List CodePart) → IsFormed n t → row_of t ≡ variant_row → AreOfRow con_row (operands_in n t 1) → map constructor_view ps ≡ nodes_as constructor_in (operands_in n t 1) → filter_map (λ (k : Child). k.constructor) (parts.in_slot 1 (parts_of i n t)) ≡ constructors_as i ps
unfolding is_operand
constructors_written i n t ps formed row rows same =
    chosen_stand (λ (k : Child). k.constructor) i n t 1 formed (ap (λ r. is_operand r 1) row)
    ∙ parts_constructors i 1 (operands_in n t 1) (slot_operands n t 1 formed) rows
    ∙ sym (constructors_seen i ps ∙ ap (map (constructor_written i)) same)

-- The same of labels.
labels_seen : (i : ℕ) (ps : List CodeLabel) → labels_as i ps ≡ map (label_written i) (map label_view ps)
labels_seen i [] = refl
labels_seen i (p ∷ ps) = ap (λ ls. label_as i p ∷ ls) (labels_seen i ps)

same_there : (o : Option Tok) → declarations.is_there o ≡ is_some o
same_there None = refl
same_there (Some t) = refl

one_label : (i n : ℕ) (t : Tree) → IsFormed n t → row_of t ≡ label_row → declarations.label_row (number_of i n) (parts_of i n t) ≡ label_written i (label_in n t)
unfolding is_operand is_needed
one_label i n t formed row =
    let mutable = ap declarations.is_there (token_stands i n t 0) ∙ same_there (token_in t 0) in
    let name = token_stands i n t 1 in
    let body = type_stands i n t 3 formed (ap (λ r. is_operand r 3) row) (ap (λ r. is_needed r 3) row) in
    (λ j. record { node = number_of i n; is_mutable = mutable j; name = name j; body = body j })

part_label : (i s n : ℕ) (p : Part) → IsPartFormed n p → IsOfRow label_row p → (ks : List LabelPart) (vs : List Label) → ks ≡ map (label_written i) vs → cons_option (child_of (number_of i n) s p).label ks ≡ map (label_written i) (node_first label_in n p vs)
part_label i s n (taken t) formed row ks vs e = e
part_label i s n (missing at) formed row ks vs e = e
part_label i s n (inner (node r x ps)) formed row ks vs e =
    let one = one_label i n (node r x ps) formed row in
    ap (λ q. cons_option (label_of q (number_of i n) (parts_of i n (node r x ps))) ks) row ∙ (λ j. one j ∷ e j)

parts_labels : (i s : ℕ) (os : List Numbered) → All IsTypeOperand os → AreOfRow label_row os → filter_map (λ (o : Numbered). (child_at i s o).label) os ≡ map (label_written i) (nodes_as label_in os)
parts_labels i s [] formed rows = refl
parts_labels i s (o ∷ os) formed rows = part_label i s o.number o.part (All-head IsTypeOperand o os formed).formed (All-head (λ (q : Numbered). IsOfRow label_row q.part) o os rows) _ _ (parts_labels i s os (All-tail IsTypeOperand o os formed) (All-tail (λ (q : Numbered). IsOfRow label_row q.part) o os rows))

-- The labels of the code, where they are those that are written in a record, are those of the definitions.
pub labels_written : (i n : ℕ) (t : Tree) (ps : List CodeLabel) → IsFormed n t → row_of t ≡ record_row → AreOfRow label_row (operands_in n t 1) → map label_view ps ≡ nodes_as label_in (operands_in n t 1) → filter_map (λ (k : Child). k.label) (parts.in_slot 1 (parts_of i n t)) ≡ labels_as i ps
unfolding is_operand
labels_written i n t ps formed row rows same =
    chosen_stand (λ (k : Child). k.label) i n t 1 formed (ap (λ r. is_operand r 1) row)
    ∙ parts_labels i 1 (operands_in n t 1) (slot_operands n t 1 formed) rows
    ∙ sym (labels_seen i ps ∙ ap (map (label_written i)) same)
