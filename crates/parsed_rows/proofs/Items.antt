-- The items of a program that the parser gives are carried, or of another kind.
use Rattle.std.proofs.Common.{◌≡◌, ◌∙◌, ◌==◌, ◌⊎◌, inl, inr, ℕ, Bool, true, false, not, List, [], ◌∷◌, Option, Some, None, refl, sym, ap, subst, if◌then◌else◌}
use Rattle.std.specs.Prelude.{All}
use Rattle.std.proofs.lemmas.Bool.{eqb-true}
use Rattle.std.proofs.lemmas.List.Elements.{All-nil, All-cons, All-head, All-tail}
use Rattle.token_model.specs.Kinds.{Tok}
use Rattle.tree_model.specs.Rows as names
use Rattle.tree_model.specs.Rows.{let_row, type_row, exception_row, module_row, modtype_row, open_row, include_row, break_row, con_row, mstruct_row}
use Rattle.tree_model.specs.Slots.{is_operand}
use Rattle.tree_model.specs.Trees as plain
use Rattle.tree_model.specs.Extents.{told_size}
use Rattle.row_parts.specs.Numbered.{Numbered, behind, with_slot, node_with, missing_operand, operand_at, operands_from, operands_in, in_slot, first_of, first_in, token_in}
use Rattle.grammar_model.specs.Trees.{Tree, Forest, Part, node, no_parts, part, taken, inner, missing, row_of}
use Rattle.grammar_model.specs.Tables.{What, nothing, token, operand, Last}
use Rattle.grammar_model.specs.Grammar.{last_in, StandsIn, BeginsWith, WellFormed, IsFilled, Follows, IsPartFormed}
use Rattle.grammar_model.specs.Named.{slot_of, named, named_parts, named_part, forest_items, items_of}
use Rattle.grammar_model.specs.Words.{item, binding, constructor}
use Rattle.grammar_model.specs.Ocaml.{Text, program_text, grammar, row_name}
use Rattle.recovery_model.specs.Recovery.{recover}
use Rattle.recovery_laws.proofs.Promises.{well_formed}
use Rattle.typing_model.specs.First.{program_items}
use Rattle.operand_laws.specs.Formed.{row_of as named_row_of, IsFormed, IsPartFormed as IsPartFormedAt}
use Rattle.operand_laws.proofs.Going.{operands_formed}
use Rattle.operand_laws.proofs.Parsed.{items_formed}
use Rattle.typing_rows.specs.CarriedRows.{a_binding, IsOfSort}
use Rattle.binding_rows.specs.ItemRows.{IsItemNode, IsExceptionNode, IsCarriedItem}
use Rattle.binding_rows.proofs.Nodes.{all_bindings}
use Rattle.parsed_rows.specs.Items.{IsOtherItemRow, IsNamelessPart, IsNameless, IsOtherItem, IsParsedItem, IsParsedPart, IsParsedOperand, IsSmall}
use Rattle.parsed_rows.proofs.Sized.{items_sized}
use Rattle.parsed_rows.proofs.Tabled.{is_let_row, is_item_row, is_structure_row, spot_structure, structure_alone, is_exception_row, constructor_fits, spot_constructor, exception_alone, is_con_row, row_of_constructor, binding_fits, item_fits, spot_binding, let_alone, row_of_item, spot_item, program_alone, then_of}
use Rattle.parsed_rows.proofs.Rows.{HasSort, part_of_sort}

-- the parts in a slot are of a kind
abbrev AreAllIn : ℕ → (plain.Part → Type 0) → plain.Forest → Type 0
AreAllIn s P plain.no_parts = Unit {0}
AreAllIn s P (plain.part q p ps) = ((q == s) ≡ true → P p) × AreAllIn s P ps

-- an operand is of a kind
abbrev IsOperandOf : (plain.Part → Type 0) → Numbered → Type 0
IsOperandOf P o = P o.part

-- an operand in front, which is of the kind if it stands in the slot
one_more : (s q : ℕ) (P : plain.Part → Type 0) (o : Numbered) (os : List (ℕ × Numbered)) → ((q == s) ≡ true → IsOperandOf P o) → All (IsOperandOf P) (in_slot s os) → All (IsOperandOf P) (in_slot s ((q, o) ∷ os))
one_more s q P o os h rest = by (q == s) refl
  where
    by : (b : Bool) → (q == s) ≡ b → All (IsOperandOf P) (if b then o ∷ in_slot s os else in_slot s os)
    by true e = All-cons (IsOperandOf P) o (in_slot s os) (h e) rest
    by false e = rest

-- the operand that a part is
operand_more : (s n : ℕ) (r : names.Row) (q : ℕ) (P : plain.Part → Type 0) (p : plain.Part) (os : List (ℕ × Numbered)) → ((q == s) ≡ true → P p) → All (IsOperandOf P) (in_slot s os) → All (IsOperandOf P) (in_slot s (with_slot q (operand_at n r q p) os))
operand_more s n r q P (plain.taken t) os h rest = rest
operand_more s n r q P (plain.inner t) os h rest = one_more s q P (node_with n t) os h rest
operand_more s n r q P (plain.missing at) os h rest = by (is_operand r q)
  where
    by : (b : Bool) → All (IsOperandOf P) (in_slot s (with_slot q (if b then Some (missing_operand n at) else None) os))
    by true = one_more s q P (missing_operand n at) os h rest
    by false = rest

slot_from : (s n : ℕ) (r : names.Row) (P : plain.Part → Type 0) (ps : plain.Forest) → AreAllIn s P ps → All (IsOperandOf P) (in_slot s (operands_from n r ps))
unfolding operands_from
slot_from s n r P plain.no_parts h = All-nil (IsOperandOf P)
slot_from s n r P (plain.part q p ps) h = operand_more s n r q P p (operands_from (behind n (told_size r q p)) r ps) h.0 (slot_from s (behind n (told_size r q p)) r P ps h.1)

-- the parts of a node in a slot are of a kind
abbrev HasSlotOf : ℕ → (plain.Part → Type 0) → plain.Tree → Type 0
HasSlotOf s P (plain.node r x ps) = AreAllIn s P ps

-- so are the operands in the slot
slot_operands : (s n : ℕ) (P : plain.Part → Type 0) (t : plain.Tree) → HasSlotOf s P t → All (IsOperandOf P) (operands_in n t s)
slot_operands s n P (plain.node r x ps) h = slot_from s (behind n 1) r P ps h

-- an operand in the slot 2 of a `let` is a binding
binding_at : (text : Text) (p : ℕ) (w : What) (c : Part) → binding_fits p w ≡ true → StandsIn (grammar text) w c → (slot_of p == 2) ≡ true → HasSort text a_binding c
binding_at text p nothing c fits h e = absurd h
binding_at text p (token ks) (taken t) fits h e = tt
binding_at text p (token ks) (inner t) fits h e = absurd h
binding_at text p (token ks) (missing at) fits h e = tt
binding_at text p (operand s n) (taken t) fits h e = absurd h
binding_at text p (operand s n) (inner t) fits h e = h.0 ∙ eqb-true s binding (then_of (slot_of p == 2) (s == binding) e fits)
binding_at text p (operand s n) (missing at) fits h e = tt

-- a row without a left operand begins with a part of a spot
begins_at : (text : Text) (r p : ℕ) (c : Part) (b : Bool) → b ≡ false → BeginsWith (grammar text) r b p c → StandsIn (grammar text) ((grammar text).what r p) c
begins_at text r p c true none h = absurd (cc)
begins_at text r p c false none h = h.1

not_true : (b : Bool) → not b ≡ true → b ≡ false
not_true true h = absurd (cc)
not_true false h = refl

bindings_follow : (text : Text) (r at : ℕ) (last : Last) (f : Forest) → is_let_row (row_name r) ≡ true → Follows (grammar text) r at last f → AreAllIn 2 (IsOfSort a_binding) (named_parts row_name f)
bindings_follow text r at last no_parts is h = tt
bindings_follow text r at last (part p c f) is h =
    (λ e. part_of_sort text a_binding c h.2 (binding_at text p ((grammar text).what r p) c (spot_binding text r p is) h.1 e), bindings_follow text r p (last_in ((grammar text).what r p) c) f is h.3)

-- the bindings of a `let` of the grammar
let_bindings : (text : Text) (r : ℕ) (f : Forest) → is_let_row (row_name r) ≡ true → IsFilled (grammar text) r f → AreAllIn 2 (IsOfSort a_binding) (named_parts row_name f)
let_bindings text r no_parts is h = tt
let_bindings text r (part p c f) is h =
    let stands = begins_at text r p c ((grammar text).has_left r) (not_true ((grammar text).has_left r) (let_alone text r is)) h.0 in
    (λ e. part_of_sort text a_binding c h.1 (binding_at text p ((grammar text).what r p) c (spot_binding text r p is) stands e), bindings_follow text r p (last_in ((grammar text).what r p) c) f is h.2)

-- a `let` of the grammar that is well formed is an item whose conditions are carried
pub let_item : (text : Text) (n : ℕ) (T : Tree) → WellFormed (grammar text) T → row_name (row_of T) ≡ let_row → IsFormed n (named row_name T) → IsItemNode n (named row_name T)
let_item text n (node r f) h row shape =
    let sorts = let_bindings text r f (ap is_let_row row) h in
    record {
      formed = shape;
      row = row;
      bindings = all_bindings (operands_in n (named row_name (node r f)) 2) (λ k d lt. record { formed = operands_formed n (named row_name (node r f)) 2 shape k d lt; rows = slot_operands 2 n (IsOfSort a_binding) (named row_name (node r f)) sorts k d lt });
    }

-- a part that is a constructor, if it is a node
abbrev HasConstructor : Text → Part → Type 0
HasConstructor text (taken t) = Unit {0}
HasConstructor text (inner T) = (grammar text).sort (row_of T) ≡ constructor
HasConstructor text (missing at) = Unit {0}

-- a part of that row, if it is a node
abbrev IsConPart : plain.Part → Type 0
IsConPart (plain.taken t) = Unit {0}
IsConPart (plain.inner t) = named_row_of t ≡ con_row
IsConPart (plain.missing at) = Unit {0}

constructor_at : (text : Text) (w : What) (c : Part) → constructor_fits w ≡ true → StandsIn (grammar text) w c → HasConstructor text c
constructor_at text nothing c fits h = absurd h
constructor_at text (token ks) (taken t) fits h = tt
constructor_at text (token ks) (inner t) fits h = absurd h
constructor_at text (token ks) (missing at) fits h = tt
constructor_at text (operand s n) (taken t) fits h = absurd h
constructor_at text (operand s n) (inner t) fits h = h.0 ∙ eqb-true s constructor fits
constructor_at text (operand s n) (missing at) fits h = tt

only_con : (r : names.Row) → is_con_row r ≡ true → r ≡ con_row
only_con con_row e = refl
only_con _ e = absurd (cc)

con_part : (text : Text) (c : Part) → HasConstructor text c → IsConPart (named_part row_name c)
con_part text (taken t) is = tt
con_part text (inner (node r f)) is = only_con (row_name r) (row_of_constructor text r is)
con_part text (missing at) is = tt

constructors_follow : (text : Text) (r at : ℕ) (last : Last) (f : Forest) → is_exception_row (row_name r) ≡ true → Follows (grammar text) r at last f → AreAllIn 1 IsConPart (named_parts row_name f)
constructors_follow text r at last no_parts is h = tt
constructors_follow text r at last (part p c f) is h =
    (λ e. con_part text c (constructor_at text ((grammar text).what r p) c (spot_constructor text r p is) h.1), constructors_follow text r p (last_in ((grammar text).what r p) c) f is h.3)

-- the constructor of an exception of the grammar
exception_parts : (text : Text) (r : ℕ) (f : Forest) → is_exception_row (row_name r) ≡ true → IsFilled (grammar text) r f → AreAllIn 1 IsConPart (named_parts row_name f)
exception_parts text r no_parts is h = tt
exception_parts text r (part p c f) is h =
    let stands = begins_at text r p c ((grammar text).has_left r) (not_true ((grammar text).has_left r) (exception_alone text r is)) h.0 in
    (λ e. con_part text c (constructor_at text ((grammar text).what r p) c (spot_constructor text r p is) stands), constructors_follow text r p (last_in ((grammar text).what r p) c) f is h.2)

-- an exception whose constructor has a name is carried
exception_by : (n : ℕ) (t : plain.Tree) → IsFormed n t → named_row_of t ≡ exception_row → (os : List Numbered) → operands_in n t 1 ≡ os → All (IsOperandOf IsConPart) os → IsExceptionNode n t ⊎ IsNameless (first_of os)
exception_by n t formed row [] e all = inr tt
exception_by n t formed row (o ∷ os) e all = by o.part refl (All-head (IsOperandOf IsConPart) o os all)
  where
    by : (p : plain.Part) → o.part ≡ p → IsConPart p → IsExceptionNode n t ⊎ IsNamelessPart o.part
    by (plain.taken k) is con = inr (subst IsNamelessPart (sym is) tt)
    by (plain.inner u) is con = named_by (token_in u 0) refl
      where
        named_by : (k : Option Tok) → token_in u 0 ≡ k → IsExceptionNode n t ⊎ IsNamelessPart o.part
        named_by None none = inr (subst IsNamelessPart (sym is) none)
        named_by (Some k) there = inl (record { formed = formed; row = row; operand = o; there = ap first_of e; constructor = u; part = is; is = con; name = k; named = there })
    by (plain.missing at) is con = inr (subst IsNamelessPart (sym is) tt)

-- an exception of the grammar is carried, or has no name
exception_item : (text : Text) (n : ℕ) (T : Tree) → WellFormed (grammar text) T → row_name (row_of T) ≡ exception_row → IsFormed n (named row_name T) → IsExceptionNode n (named row_name T) ⊎ IsNameless (first_in n (named row_name T) 1)
exception_item text n (node r f) h row shape =
    let t : plain.Tree = named row_name (node r f) in
    exception_by n t shape row (operands_in n t 1) refl (slot_operands 1 n IsConPart t (exception_parts text r f (ap is_exception_row row) h))

-- the row of an item is one of eight
item_rows : (r : names.Row) → is_item_row r ≡ true → (r ≡ let_row) ⊎ ((r ≡ break_row) ⊎ ((r ≡ exception_row) ⊎ IsOtherItemRow r))
item_rows let_row h = inl refl
item_rows break_row h = inr (inl refl)
item_rows type_row h = inr (inr (inr tt))
item_rows exception_row h = inr (inr (inl refl))
item_rows module_row h = inr (inr (inr tt))
item_rows modtype_row h = inr (inr (inr tt))
item_rows open_row h = inr (inr (inr tt))
item_rows include_row h = inr (inr (inr tt))
item_rows _ h = absurd (cc)

-- an item of the grammar is carried, or of another kind
pub parsed_item : (text : Text) (n : ℕ) (T : Tree) → WellFormed (grammar text) T → (grammar text).sort (row_of T) ≡ item → IsFormed n (named row_name T) → IsParsedItem n (named row_name T)
parsed_item text n (node r f) h sort shape = elim (item_rows (row_name r) (row_of_item text r sort)) [
  | inl row ↦ inl (inl (let_item text n (node r f) h row shape))
  | inr rest ↦ elim rest [
    | inl row ↦ inl (inr (inl row))
    | inr other ↦ elim other [
      | inl row ↦ elim (exception_item text n (node r f) h row shape) [ inl thrown ↦ inl (inr (inr thrown)) | inr nameless ↦ inr (inr (row, nameless)) ]
      | inr row ↦ inr (inl row)
    ]
  ]
]

-- a part that is an item, if it is a node
abbrev HasItem : Text → Part → Type 0
HasItem text (taken t) = Unit {0}
HasItem text (inner T) = (grammar text).sort (row_of T) ≡ item
HasItem text (missing at) = Unit {0}

item_at : (text : Text) (w : What) (c : Part) → item_fits w ≡ true → StandsIn (grammar text) w c → HasItem text c
item_at text nothing c fits h = absurd h
item_at text (token ks) (taken t) fits h = tt
item_at text (token ks) (inner t) fits h = absurd h
item_at text (token ks) (missing at) fits h = tt
item_at text (operand s n) (taken t) fits h = absurd h
item_at text (operand s n) (inner t) fits h = h.0 ∙ eqb-true s item fits
item_at text (operand s n) (missing at) fits h = tt

-- one part more of a program
item_more : (text : Text) (p : ℕ) (c : Part) (ps : plain.Forest) → IsPartFormed (grammar text) c → HasItem text c → All (IsFormed 0) (forest_items (plain.part (slot_of p) (named_part row_name c) ps)) → (All (IsFormed 0) (forest_items ps) → All (IsParsedItem 0) (forest_items ps)) →
    All (IsParsedItem 0) (forest_items (plain.part (slot_of p) (named_part row_name c) ps))
item_more text p (taken t) ps h is shapes rest = rest shapes
item_more text p (inner T) ps h is shapes rest =
    All-cons (IsParsedItem 0) (named row_name T) (forest_items ps) (parsed_item text 0 T h is (All-head (IsFormed 0) (named row_name T) (forest_items ps) shapes)) (rest (All-tail (IsFormed 0) (named row_name T) (forest_items ps) shapes))
item_more text p (missing at) ps h is shapes rest = rest shapes

items_follow : (text : Text) (at : ℕ) (last : Last) (f : Forest) → Follows (grammar text) 0 at last f → All (IsFormed 0) (forest_items (named_parts row_name f)) → All (IsParsedItem 0) (forest_items (named_parts row_name f))
items_follow text at last no_parts h shapes = All-nil (IsParsedItem 0)
items_follow text at last (part p c f) h shapes =
    item_more text p c (named_parts row_name f) h.2 (item_at text ((grammar text).what 0 p) c (spot_item text p) h.1) shapes (items_follow text p (last_in ((grammar text).what 0 p) c) f h.3)

items_filled : (text : Text) (f : Forest) → IsFilled (grammar text) 0 f → All (IsFormed 0) (forest_items (named_parts row_name f)) → All (IsParsedItem 0) (forest_items (named_parts row_name f))
items_filled text no_parts h shapes = All-nil (IsParsedItem 0)
items_filled text (part p c f) h shapes =
    let stands = begins_at text 0 p c ((grammar text).has_left 0) (program_alone text) h.0 in
    item_more text p c (named_parts row_name f) h.1 (item_at text ((grammar text).what 0 p) c (spot_item text p) stands) shapes (items_follow text p (last_in ((grammar text).what 0 p) c) f h.2)

-- each item of a program in the grammar, but for missing parts, is carried or of another kind, where it is small
pub items_carried : (text : Text) (T : Tree) → row_of T ≡ 0 → WellFormed (grammar text) T → All IsSmall (items_of (named row_name T)) → All (IsParsedItem 0) (items_of (named row_name T))
items_carried text (node r f) root h small =
    items_filled text f (subst (λ r. IsFilled (grammar text) r f) root h) (items_formed text (node r f) h (items_sized row_name (node r f) small))

-- so is each item of the program that the parser gives of any tokens
pub program_carried : (ts : List Tok) → All IsSmall (program_items ts) → All (IsParsedItem 0) (program_items ts)
program_carried ts small =
    let T : Tree = (recover (grammar program_text) ts).0 in
    items_carried program_text T (well_formed program_text ts).root (well_formed program_text ts).formed small

-- and where no item of it is of another kind, all are carried
pub lets_carried : (ts : List Tok) → All IsSmall (program_items ts) → All (λ t. IsOtherItem 0 t → ⊥) (program_items ts) → All (IsCarriedItem 0) (program_items ts)
lets_carried ts small none k d lt = elim (program_carried ts small k d lt) [ inl carried ↦ carried | inr other ↦ absurd (none k d lt other) ]

-- a part of a structure: an item of the grammar, if it is a node
abbrev IsItemPart : Text → plain.Part → Type 0
IsItemPart text (plain.taken t) = Unit {0}
IsItemPart text (plain.inner t) = (T : Tree) × (named row_name T ≡ t) × WellFormed (grammar text) T × ((grammar text).sort (row_of T) ≡ item)
IsItemPart text (plain.missing at) = Unit {0}

item_part : (text : Text) (c : Part) → IsPartFormed (grammar text) c → HasItem text c → IsItemPart text (named_part row_name c)
item_part text (taken t) h is = tt
item_part text (inner T) h is = (T, refl, h, is)
item_part text (missing at) h is = tt

-- the items of a structure of the grammar
structure_follow : (text : Text) (r at : ℕ) (last : Last) (f : Forest) → is_structure_row (row_name r) ≡ true → Follows (grammar text) r at last f → AreAllIn 1 (IsItemPart text) (named_parts row_name f)
structure_follow text r at last no_parts is h = tt
structure_follow text r at last (part p c f) is h =
    (λ e. item_part text c h.2 (item_at text ((grammar text).what r p) c (spot_structure text r p is) h.1), structure_follow text r p (last_in ((grammar text).what r p) c) f is h.3)

structure_items : (text : Text) (r : ℕ) (f : Forest) → is_structure_row (row_name r) ≡ true → IsFilled (grammar text) r f → AreAllIn 1 (IsItemPart text) (named_parts row_name f)
structure_items text r no_parts is h = tt
structure_items text r (part p c f) is h =
    let stands = begins_at text r p c ((grammar text).has_left r) (not_true ((grammar text).has_left r) (structure_alone text r is)) h.0 in
    (λ e. item_part text c h.1 (item_at text ((grammar text).what r p) c (spot_structure text r p is) stands), structure_follow text r p (last_in ((grammar text).what r p) c) f is h.2)

parsed_part : (text : Text) (n : ℕ) (p : plain.Part) → IsPartFormedAt n p → IsItemPart text p → IsParsedPart n p
parsed_part text n (plain.taken t) shape h = tt
parsed_part text n (plain.inner t) shape h = subst (IsParsedItem n) h.1 (parsed_item text n h.0 h.2 h.3 (subst (IsFormed n) (sym h.1) shape))
parsed_part text n (plain.missing at) shape h = tt

-- each item of a structure of the grammar, but for missing parts, is carried or of another kind
pub structure_carried : (text : Text) (n : ℕ) (T : Tree) → WellFormed (grammar text) T → row_name (row_of T) ≡ mstruct_row → IsFormed n (named row_name T) → All IsParsedOperand (operands_in n (named row_name T) 1)
structure_carried text n (node r f) h row shape k d lt =
    let t : plain.Tree = named row_name (node r f) in
    let items = structure_items text r f (ap is_structure_row row) h in
    parsed_part text _ _ (operands_formed n t 1 shape k d lt) (slot_operands 1 n (IsItemPart text) t items k d lt)
