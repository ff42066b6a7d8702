-- A declaration that is written as a type of its own is the one that the definitions take from its node.
use Rattle.std.proofs.Common.{◌≡◌, ◌∙◌, ℕ, ◌+◌, ◌<◌, ◌≤◌, ◌^◌, ◌==◌, Bool, true, false, List, [], ◌∷◌, All, length, map, Option, Some, None, option_map, refl, sym, ap, subst, arith, if◌then◌else◌}
use Rattle.std.proofs.lemmas.List.{length-map}
use Rattle.std.proofs.lemmas.List.Elements.{All-nil, All-cons, All-head, All-tail}
use denote.Ref.{Bor}
use Rattle.syntax_tree.specs.declared.tree.Token.{Token}
use Rattle.syntax_tree.specs.View.{tok_of}
use Rattle.tree_model.specs.Rows.{Row, decl_row, head_row, alias_row, variant_row, record_row}
use Rattle.tree_model.specs.Slots.{is_operand}
use Rattle.tree_model.specs.Trees.{Tree, Forest, Part, node, no_parts, part, taken, inner, missing, forest_size, part_size}
use Rattle.tree_model.specs.Extents.{told_size}
use Rattle.row_parts.specs.Numbered.{Numbered, behind, with_slot, node_with, missing_operand, operand_at, operands_from, in_slot, first_of, operands_in, first_in, filled_in, operand_view, token_view}
use Rattle.typing_model.specs.Declarations as declarations
use Rattle.typing_model.specs.Declarations.{right_side_row}
use Rattle.typing_model.specs.Meanings.{child_of, head_of}
use Rattle.typing_model.specs.Names.{then_by}
use Rattle.typing_model.specs.Parts as parts
use Rattle.typing_model.specs.Parts.{Child, Head, RightSide}
use Rattle.operand_laws.specs.Formed.{row_of, IsFormed, IsPartFormed, is_needed}
use Rattle.operand_laws.specs.Operands.{number_of, parts_of, child_at}
use Rattle.operand_laws.proofs.Sorts.{children_stand}
use Rattle.operand_laws.proofs.There.{filled_first}
use Rattle.operand_laws.proofs.Tokens.{token_stands, tokens_stand}
use Rattle.typing_rows.specs.Operands.{IsTypeOperand}
use Rattle.typing_rows.proofs.Placed.{slot_operands, first_operand, filled_operand}
use Rattle.decl_groups.specs.declared.groups.ConstructorPart.{ConstructorPart}
use Rattle.decl_groups.specs.declared.groups.DeclarationPart.{DeclarationPart}
use Rattle.decl_groups.specs.declared.groups.LabelPart.{LabelPart}
use Rattle.decl_groups.specs.declared.groups.Right.{Right}
use Rattle.decl_groups.specs.declared.groups.Right.TheVariants.{Abstract, Abbreviation, Reexport, Own}
use Rattle.decl_groups.specs.declared.groups.Told.TheVariants.{Constructors, Labels}
use Rattle.decl_groups.specs.Written as written
use Rattle.decl_groups.specs.Written.{constructor_in, label_in, node_first, nodes_as, right_row, right_part, right_of, parameters_in, name_in, declaration_in, constructor_view, label_view, right_view, declaration_view}
use Rattle.decl_typing.specs.Asked.{tokens_as}
use Rattle.decl_typing.specs.Entries.{named_first, constructor_names, label_names, names_told_if}
use Rattle.decl_typing.specs.Labels.{HasBody}
use Rattle.decl_typing.specs.Owned.{IsOwnRight, HasParts, told_in, told_as}
use Rattle.decl_typing.specs.Settling.{IsOperandIf, HasOperand}
use Rattle.declared_items.specs.Shapes.{own_declaration}
use Rattle.declared_items.specs.Written.{IsOfRow, TellsOwn, IsOwnPart, IsOwnSide, IsOwnNode}
use Rattle.declared_items.proofs.Written.{constructors_written, labels_written}

-- the first of two lists that are read alike, as it is read
first_read : {X Y C : Type 0} (f : X → Option C) (g : Y → Option C) (xs : List X) (ys : List Y) → map f xs ≡ map g ys → then_by (parts.first_of xs) f ≡ then_by (first_of ys) g
first_read f g [] [] e = refl
first_read f g [] (y ∷ ys) e = absurd (cc)
first_read f g (x ∷ xs) [] e = absurd (cc)
first_read f g (x ∷ xs) (y ∷ ys) e = let head : f x ≡ g y = cc in head

-- a head that may be missing
abbrev head_or_none : Option Head → Head
head_or_none o = elim o [ None ↦ record { parameters = []; name = None } | Some h ↦ h ]

-- the head of a part is what is written there
head_written : (i s n : ℕ) (p : Part) → IsOfRow head_row p → head_or_none (child_of (number_of i n) s p).head ≡ record { parameters = parameters_in p; name = name_in p }
head_written i s n (taken t) row = refl
head_written i s n (missing at) row = refl
head_written i s n (inner (node r x ps)) row =
    let ts = tokens_stand i n (node r x ps) 1 in
    let name = token_stands i n (node r x ps) 4 in
    ap (λ q. head_or_none (head_of q (parts_of i n (node r x ps)))) row ∙ (λ j. record { parameters = ts j; name = name j })

-- the head of a declaration
head_stands : (i n : ℕ) (t : Tree) → IsFormed n t → row_of t ≡ decl_row → IsOfRow head_row (filled_in n t 0).part → head_or_none (then_by (parts.first_of (parts.in_slot 0 (parts_of i n t))) (λ k. k.head)) ≡ record { parameters = parameters_in (filled_in n t 0).part; name = name_in (filled_in n t 0).part }
unfolding is_operand is_needed
head_stands i n t formed row head =
    ap head_or_none (first_read (λ (k : Child). k.head) (λ o. (child_at i 0 o).head) (parts.in_slot 0 (parts_of i n t)) (operands_in n t 0) (children_stand (λ k. k.head) i n t 0 formed (ap (λ r. is_operand r 0) row)))
    ∙ ap (λ o. head_or_none (then_by o (λ o. (child_at i 0 o).head))) (filled_first n t 0 formed (ap (λ r. is_operand r 0) row) (ap (λ r. is_needed r 0) row))
    ∙ head_written i 0 (filled_in n t 0).number (filled_in n t 0).part head

-- and its name
pub name_written : (i n : ℕ) (t : Tree) (x : IsOwnNode n t) → (declarations.declaration_row (number_of i n) (parts_of i n t)).head.name ≡ Some x.name
name_written i n t x = ap (λ (h : Head). h.name) (head_stands i n t x.formed x.row x.head) ∙ x.named

-- what a right side of the definitions is that tells this
abbrev own_side : ℕ → Right → Option RightSide
own_side i r = option_map parts.own (option_map (told_as i) (told_in r))

-- a right side that is told by no row of its own tells nothing
nothing_told : (i : ℕ) (r : Right) → IsOwnRight r → right_view r ≡ written.abstract → None ≡ own_side i r
nothing_told i Abstract own e = refl
nothing_told i (Abbreviation n ty) own e = absurd own
nothing_told i (Reexport n ty m k) own e = absurd own
nothing_told i (Own n k) own e = absurd (cc)

-- one that tells constructors tells those of its row
variant_told : (i n : ℕ) (t : Tree) (r : Right) → IsFormed n t → row_of t ≡ variant_row → TellsOwn variant_row n t → IsOwnRight r → right_view r ≡ right_row variant_row n t → right_side_row variant_row (number_of i n) (parts_of i n t) ≡ own_side i r
variant_told i n t Abstract formed row rows own e = absurd (cc)
variant_told i n t (Abbreviation m ty) formed row rows own e = absurd own
variant_told i n t (Reexport m ty q k) formed row rows own e = absurd own
variant_told i n t (Own m (Labels ls)) formed row rows own e = absurd (cc)
variant_told i n t (Own m (Constructors ks)) formed row rows own e =
    let same : map constructor_view ks.items ≡ nodes_as constructor_in (operands_in n t 1) = cc in
    ap (λ us. Some (parts.own (parts.constructors us))) (constructors_written i n t ks.items formed row rows same)

-- and one that tells labels
record_told : (i n : ℕ) (t : Tree) (r : Right) → IsFormed n t → row_of t ≡ record_row → TellsOwn record_row n t → IsOwnRight r → right_view r ≡ right_row record_row n t → right_side_row record_row (number_of i n) (parts_of i n t) ≡ own_side i r
record_told i n t Abstract formed row rows own e = absurd (cc)
record_told i n t (Abbreviation m ty) formed row rows own e = absurd own
record_told i n t (Reexport m ty q k) formed row rows own e = absurd own
record_told i n t (Own m (Constructors ks)) formed row rows own e = absurd (cc)
record_told i n t (Own m (Labels ls)) formed row rows own e =
    let same : map label_view ls.items ≡ nodes_as label_in (operands_in n t 1) = cc in
    ap (λ us. Some (parts.own (parts.labels us))) (labels_written i n t ls.items formed row rows same)

-- a right side by its row
row_told : (i n : ℕ) (q : Row) (t : Tree) (r : Right) → IsFormed n t → row_of t ≡ q → TellsOwn q n t → IsOwnRight r → right_view r ≡ right_row q n t → right_side_row q (number_of i n) (parts_of i n t) ≡ own_side i r
row_told i n alias_row t r formed row rows own e = absurd rows
row_told i n variant_row t r formed row rows own e = variant_told i n t r formed row rows own e
row_told i n record_row t r formed row rows own e = record_told i n t r formed row rows own e
row_told i n _ t r formed row rows own e = nothing_told i r own e

-- the right side that a part is
part_told : (i s n : ℕ) (p : Part) (r : Right) → IsPartFormed n p → IsOwnPart n p → IsOwnRight r → right_view r ≡ right_part n p → (child_of (number_of i n) s p).right_side ≡ own_side i r
part_told i s n (taken t) r formed rows own e = nothing_told i r own e
part_told i s n (missing at) r formed rows own e = nothing_told i r own e
part_told i s n (inner (node q x ps)) r formed rows own e = row_told i n q (node q x ps) r formed refl rows own e

-- the right side of a declaration
right_stands : (i n : ℕ) (t : Tree) (r : Right) → IsFormed n t → row_of t ≡ decl_row → IsOwnSide (first_in n t 2) → IsOwnRight r → right_view r ≡ right_of (first_in n t 2) → then_by (parts.first_of (parts.in_slot 2 (parts_of i n t))) (λ k. k.right_side) ≡ own_side i r
unfolding is_operand
right_stands i n t r formed row rows own e =
    first_read (λ (k : Child). k.right_side) (λ o. (child_at i 2 o).right_side) (parts.in_slot 2 (parts_of i n t)) (operands_in n t 2) (children_stand (λ k. k.right_side) i n t 2 formed (ap (λ r. is_operand r 2) row))
    ∙ by (first_in n t 2) refl rows e
  where
    by : (o : Option Numbered) → first_in n t 2 ≡ o → IsOwnSide o → right_view r ≡ right_of o → then_by o (λ o. (child_at i 2 o).right_side) ≡ own_side i r
    by None is rows e = nothing_told i r own e
    by (Some o) is rows e = part_told i 2 o.number o.part r (first_operand n t 2 o formed is).formed rows own e

-- The declaration of the definitions at a node is the code's, where that is the one which is written there as a type of its own.
pub declaration_written : (i n : ℕ) (t : Tree) (p : DeclarationPart) → IsOwnNode n t → IsOwnRight p.right → declaration_view p ≡ declaration_in n t →
    declarations.declaration_row (number_of i n) (parts_of i n t) ≡ own_declaration (number_of i p.number) (token_view p.name) (tokens_as p.parameters.items) (option_map (told_as i) (told_in p.right))
declaration_written i n t p x own same =
    let number = ap (λ (d : written.Declaration). d.number) same in
    let parameters = ap (λ (d : written.Declaration). d.parameters) same in
    let name = ap (λ (d : written.Declaration). d.name) same in
    let head = head_stands i n t x.formed x.row x.head ∙ (λ j. record { parameters = sym parameters j; name = sym name j }) in
    let right = right_stands i n t p.right x.formed x.row x.right own (ap (λ (d : written.Declaration). d.right) same) in
    (λ j. record { node = number_of i (sym number j); head = head j; right = right j })

-- no other type is on its right side
pub right_own : (n : ℕ) (t : Tree) (p : DeclarationPart) → IsOwnNode n t → declaration_view p ≡ declaration_in n t → IsOwnRight p.right
right_own n t p x same = by (first_in n t 2) x.right p.right (ap (λ (d : written.Declaration). d.right) same)
  where
    row : (k : ℕ) (q : Row) (u : Tree) (r : Right) → TellsOwn q k u → right_view r ≡ right_row q k u → IsOwnRight r
    row k q u Abstract rows e = tt
    row k q u (Own m ks) rows e = tt
    row k alias_row u r rows e = absurd rows
    row k variant_row u (Abbreviation m ty) rows e = absurd (cc)
    row k record_row u (Abbreviation m ty) rows e = absurd (cc)
    row k _ u (Abbreviation m ty) rows e = absurd (cc)
    row k variant_row u (Reexport m ty j ks) rows e = absurd (cc)
    row k record_row u (Reexport m ty j ks) rows e = absurd (cc)
    row k _ u (Reexport m ty j ks) rows e = absurd (cc)

    none : (r : Right) → right_view r ≡ written.abstract → IsOwnRight r
    none Abstract e = tt
    none (Own m ks) e = tt
    none (Abbreviation m ty) e = absurd (cc)
    none (Reexport m ty j ks) e = absurd (cc)

    side : (k : ℕ) (q : Part) (r : Right) → IsOwnPart k q → right_view r ≡ right_part k q → IsOwnRight r
    side k (taken u) r rows e = none r e
    side k (missing at) r rows e = none r e
    side k (inner (node q y us)) r rows e = row k q (node q y us) r rows e

    by : (o : Option Numbered) → IsOwnSide o → (r : Right) → right_view r ≡ right_of o → IsOwnRight r
    by None rows r e = none r e
    by (Some o) rows r e = side o.number o.part r rows e

-- What is read of nodes among operands holds of each, where it holds of one that is read of a well formed node.
nodes_hold : {A B : Type 0} (f : ℕ → Tree → A) (g : B → A) (P : B → Type 0) → ((b : B) (n : ℕ) (u : Tree) → IsFormed n u → g b ≡ f n u → P b) → (bs : List B) (os : List Numbered) → All IsTypeOperand os → map g bs ≡ nodes_as f os → All P bs
nodes_hold f g P each [] os formed e = All-nil P
nodes_hold f g P each (b ∷ bs) [] formed e = absurd (cc)
nodes_hold {A} {B} f g P each (b ∷ bs) (o ∷ os) formed e =
    by o.part (All-head IsTypeOperand o os formed).formed e (λ cs h. nodes_hold f g P each cs os (All-tail IsTypeOperand o os formed) h)
  where
    by : (q : Part) → IsPartFormed o.number q → map g (b ∷ bs) ≡ node_first f o.number q (nodes_as f os) → ((cs : List B) → map g cs ≡ nodes_as f os → All P cs) → All P (b ∷ bs)
    by (taken t) one e rest = rest (b ∷ bs) e
    by (missing at) one e rest = rest (b ∷ bs) e
    by (inner u) one e rest =
        let head : g b ≡ f o.number u = cc in
        let tail : map g bs ≡ nodes_as f os = cc in
        All-cons P b bs (each b o.number u one head) (rest bs tail)

-- a constructor's argument is well formed, and so is the body of a label
argument_formed : (p : ConstructorPart) (n : ℕ) (u : Tree) → IsFormed n u → constructor_view p ≡ constructor_in n u → HasOperand p
argument_formed p n u formed same = by p.argument (ap (λ (k : written.Constructor). k.argument) same)
  where
    by : (o : Option _) → option_map operand_view o ≡ first_in n u 2 → IsOperandIf o
    by None e = tt
    by (Some o) e = first_operand n u 2 (operand_view o) formed (sym e)

body_formed : (p : LabelPart) (n : ℕ) (u : Tree) → IsFormed n u → label_view p ≡ label_in n u → HasBody p
body_formed p n u formed same = subst IsTypeOperand (sym (ap (λ (l : written.Label). l.body) same)) (filled_operand n u 3 formed)

-- What is told of values has well formed parts, and fewer names than 2 ^ 32.
pub record IsToldWell (r : Right) : Type 0 where
  pub parts : HasParts (told_in r)
  pub few : length (names_told_if (told_in r)) < 2 ^ 32

-- names that may be missing are no more than their parts
constructors_few : (ps : List ConstructorPart) → length (constructor_names ps) ≤ length ps
constructors_few [] = omega arith
constructors_few (p ∷ ps) = by p.name (constructors_few ps)
  where
    by : (o : Option (Bor Token)) → length (constructor_names ps) ≤ length ps → length (named_first o (constructor_names ps)) ≤ length (p ∷ ps)
    by None le = omega arith
    by (Some t) le = omega arith

labels_few : (ps : List LabelPart) → length (label_names ps) ≤ length ps
labels_few [] = omega arith
labels_few (p ∷ ps) = by p.name (labels_few ps)
  where
    by : (o : Option (Bor Token)) → length (label_names ps) ≤ length ps → length (named_first o (label_names ps)) ≤ length (p ∷ ps)
    by None le = omega arith
    by (Some t) le = omega arith

-- nodes are no more than operands
nodes_few : {A : Type 0} (f : ℕ → Tree → A) (os : List Numbered) → length (nodes_as f os) ≤ length os
nodes_few f [] = omega arith
nodes_few f (o ∷ os) = by o.part (nodes_few f os)
  where
    by : (q : Part) → length (nodes_as f os) ≤ length os → length (node_first f o.number q (nodes_as f os)) ≤ length (o ∷ os)
    by (taken t) le = omega arith
    by (missing at) le = omega arith
    by (inner t) le = omega arith

-- an operand that may be in a slot
one_there : (s : ℕ) (b : Bool) (o : Numbered) (os : List (ℕ × Numbered)) (k : ℕ) → length (if b then o ∷ in_slot s os else in_slot s os) ≤ k + 1 + length (in_slot s os)
one_there s true o os k = omega arith
one_there s false o os k = omega arith

-- and operands no more than what is in the parts of their row
one_part : (n : ℕ) (r : Row) (s q : ℕ) (p : Part) (os : List (ℕ × Numbered)) → length (in_slot s (with_slot q (operand_at n r q p) os)) ≤ part_size r q p + length (in_slot s os)
one_part n r s q (taken t) os = omega arith
one_part n r s q (inner (node w x ps)) os = one_there s (q == s) (node_with n (node w x ps)) os (forest_size w ps)
one_part n r s q (missing at) os = by (is_operand r q)
  where
    by : (b : Bool) → length (in_slot s (with_slot q (if b then Some (missing_operand n at) else None) os)) ≤ (if b then 1 else 0) + length (in_slot s os)
    by true = one_there s (q == s) (missing_operand n at) os 0
    by false = omega arith

from_few : (n : ℕ) (r : Row) (s : ℕ) (ps : Forest) → length (in_slot s (operands_from n r ps)) ≤ forest_size r ps
unfolding operands_from
from_few n r s no_parts = omega arith
from_few n r s (part q p ps) =
    let le = from_few (behind n (told_size r q p)) r s ps in
    let one = one_part n r s q p (operands_from (behind n (told_size r q p)) r ps) in
    omega (arith, le, one)

operands_few : (n : ℕ) (t : Tree) (s : ℕ) → IsFormed n t → length (operands_in n t s) < 2 ^ 32
operands_few n (node r x ps) s formed = let le = from_few (behind n 1) r s ps in let room = formed.room in omega (arith, le, room)

-- the constructors of a well formed node, and the labels
constructors_well : (n : ℕ) (t : Tree) (ps : List ConstructorPart) → IsFormed n t → map constructor_view ps ≡ nodes_as constructor_in (operands_in n t 1) → All HasOperand ps × (length (constructor_names ps) < 2 ^ 32)
constructors_well n t ps formed same =
    let a = constructors_few ps in
    let b : length ps ≡ length (nodes_as constructor_in (operands_in n t 1)) = sym (length-map ps constructor_view) ∙ ap length same in
    let c = nodes_few constructor_in (operands_in n t 1) in
    let d = operands_few n t 1 formed in
    (nodes_hold constructor_in constructor_view HasOperand argument_formed ps (operands_in n t 1) (slot_operands n t 1 formed) same, omega (arith, a, b, c, d))

labels_well : (n : ℕ) (t : Tree) (ps : List LabelPart) → IsFormed n t → map label_view ps ≡ nodes_as label_in (operands_in n t 1) → All HasBody ps × (length (label_names ps) < 2 ^ 32)
labels_well n t ps formed same =
    let a = labels_few ps in
    let b : length ps ≡ length (nodes_as label_in (operands_in n t 1)) = sym (length-map ps label_view) ∙ ap length same in
    let c = nodes_few label_in (operands_in n t 1) in
    let d = operands_few n t 1 formed in
    (nodes_hold label_in label_view HasBody body_formed ps (operands_in n t 1) (slot_operands n t 1 formed) same, omega (arith, a, b, c, d))

-- a right side by its row
row_well : (n : ℕ) (q : Row) (t : Tree) (r : Right) → IsFormed n t → TellsOwn q n t → right_view r ≡ right_row q n t → IsToldWell r
row_well n q t Abstract formed rows e = record { parts = tt; few = omega arith }
row_well n alias_row t (Own m k) formed rows e = absurd rows
row_well n variant_row t (Own m (Constructors ps)) formed rows e =
    let same : map constructor_view ps.items ≡ nodes_as constructor_in (operands_in n t 1) = cc in
    let w = constructors_well n t ps.items formed same in
    record { parts = w.0; few = w.1 }
row_well n variant_row t (Own m (Labels ls)) formed rows e = absurd (cc)
row_well n record_row t (Own m (Labels ls)) formed rows e =
    let same : map label_view ls.items ≡ nodes_as label_in (operands_in n t 1) = cc in
    let w = labels_well n t ls.items formed same in
    record { parts = w.0; few = w.1 }
row_well n record_row t (Own m (Constructors ps)) formed rows e = absurd (cc)
row_well n _ t (Own m k) formed rows e = absurd (cc)
row_well n alias_row t (Abbreviation m ty) formed rows e = absurd rows
row_well n variant_row t (Abbreviation m ty) formed rows e = absurd (cc)
row_well n record_row t (Abbreviation m ty) formed rows e = absurd (cc)
row_well n _ t (Abbreviation m ty) formed rows e = absurd (cc)
row_well n alias_row t (Reexport m ty j k) formed rows e = absurd rows
row_well n variant_row t (Reexport m ty j k) formed rows e = absurd (cc)
row_well n record_row t (Reexport m ty j k) formed rows e = absurd (cc)
row_well n _ t (Reexport m ty j k) formed rows e = absurd (cc)

-- where no row tells anything
none_well : (r : Right) → right_view r ≡ written.abstract → IsToldWell r
none_well Abstract e = record { parts = tt; few = omega arith }
none_well (Own m k) e = absurd (cc)
none_well (Abbreviation m ty) e = absurd (cc)
none_well (Reexport m ty j k) e = absurd (cc)

part_well : (n : ℕ) (p : Part) (r : Right) → IsPartFormed n p → IsOwnPart n p → right_view r ≡ right_part n p → IsToldWell r
part_well n (taken t) r formed rows e = none_well r e
part_well n (missing at) r formed rows e = none_well r e
part_well n (inner (node q x ps)) r formed rows e = row_well n q (node q x ps) r formed rows e

-- What a declaration of the code tells is well formed, where it is the one that is written as a type of its own.
pub told_well : (n : ℕ) (t : Tree) (p : DeclarationPart) → IsOwnNode n t → declaration_view p ≡ declaration_in n t → IsToldWell p.right
told_well n t p x same = by (first_in n t 2) refl x.right (ap (λ (d : written.Declaration). d.right) same)
  where
    by : (o : Option Numbered) → first_in n t 2 ≡ o → IsOwnSide o → right_view p.right ≡ right_of o → IsToldWell p.right
    by None is rows e = none_well p.right e
    by (Some o) is rows e = part_well o.number o.part p.right (first_operand n t 2 o x.formed is).formed rows e

-- and its parameters are fewer than 2 ^ 32
pub parameters_few : (n : ℕ) (t : Tree) (p : DeclarationPart) → IsOwnNode n t → declaration_view p ≡ declaration_in n t → length p.parameters.items < 2 ^ 32
parameters_few n t p x same =
    let e = sym (length-map p.parameters.items (λ (k : Bor Token). tok_of k.now)) ∙ ap (λ (d : written.Declaration). length d.parameters) same in
    subst (λ m. m < 2 ^ 32) (sym e) x.few
