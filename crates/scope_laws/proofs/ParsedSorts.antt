-- The items of a program that the parser gives are trees whose parts are of the sorts of their slots, where there is no module among them.
use Rattle.std.proofs.Common.{◌≡◌, ◌∙◌, ◌⊎◌, inl, inr, ℕ, ◌==◌, ◌≤◌, Bool, true, false, ◌&&◌, ◌||◌, List, refl, sym, subst, arith, if◌then◌else◌}
use Rattle.std.specs.Prelude.{slice_get, nat_le}
use Rattle.std.proofs.lemmas.Bool.{eqb-true, eq-eqb, leb-true, le-leb, and_parts}
use Rattle.token_model.specs.Kinds.{Tok}
use Rattle.tree_model.specs.Rows as names
use Rattle.tree_model.specs.Rows.{erecord_row}
use Rattle.tree_model.specs.Trees as plain
use Rattle.grammar_model.specs.Trees.{Tree, Forest, Part, node, no_parts, part, taken, inner, missing, row_of}
use Rattle.grammar_model.specs.Tables.{What, nothing, token, operand, Last, row}
use Rattle.grammar_model.specs.Rows.{Left, no_left, level, named as by_name, Row, Spot, row_at, or_else, is_left, left_takes, no_row}
use Rattle.grammar_model.specs.Checks.{each, each_spot, each_edge}
use Rattle.grammar_model.specs.Grammar.{last_in, left_last, StandsIn, BeginsWith, WellFormed, IsFilled, Follows, IsPartFormed}
use Rattle.grammar_model.specs.Named.{slot_of, named, named_parts, named_part, forest_items, items_of}
use Rattle.grammar_model.specs.Words.{row_names, expression, pattern, type_expression, binding, case, declaration, head, right_side, type_kind, constructor, label, field, field_pattern, pcon_name}
use Rattle.grammar_model.specs.Ocaml.{rows, Text, program_text, grammar, row_name}
use Rattle.grammar_laws.proofs.Instance.{each_row, spot_get}
use Rattle.recovery_model.specs.Recovery.{recover}
use Rattle.recovery_laws.proofs.Promises.{well_formed}
use Rattle.typing_model.specs.First.{program_items}
use Rattle.typing_model.specs.Plain.{is_plain_row, has_no_modules}
use Rattle.typing_laws.proofs.Bools.{no_yes, and_cases}
use Rattle.operand_laws.specs.Formed.{is_in}
use Rattle.operand_laws.proofs.Ordered.{in_order}
use Rattle.operand_laws.proofs.Needed.{edge_passes}
use Rattle.scope_laws.specs.Sorts.{Sort, an_expression, a_pattern, a_constructor, a_type, a_binding, a_case, a_field, a_field_pattern, a_declaration, a_head, a_right_side, a_kind, a_declared_constructor, a_declared_label, no_sort, sort_in, is_of, IsApart, IsSorted, AreSorted, IsPartSorted, AreItemsSorted}

-- the name of a row
abbrev name_of : Row → names.Row
name_of w = or_else names.program_row (slice_get row_names w.name)

-- the number of a sort in the table; that of the head of a pattern, and that of no sort, are none of it
abbrev sort_number : Sort → ℕ
sort_number an_expression = expression
sort_number a_pattern = pattern
sort_number a_constructor = 100
sort_number a_type = type_expression
sort_number a_binding = binding
sort_number a_case = case
sort_number a_field = field
sort_number a_field_pattern = field_pattern
sort_number a_declaration = declaration
sort_number a_head = head
sort_number a_right_side = right_side
sort_number a_kind = type_kind
sort_number a_declared_constructor = constructor
sort_number a_declared_label = label
sort_number no_sort = 101

-- where a row is of a sort, so is its name
abbrev name_fits : Sort → ℕ → Row → Bool
name_fits k i w = if w.sort == sort_number k then is_of k (name_of w) else true

-- so it is in the table
each_name_fits : (k : Sort) → each 0 rows (name_fits k) ≡ true
unfolding rows
each_name_fits an_expression = refl
each_name_fits a_pattern = refl
each_name_fits a_constructor = refl
each_name_fits a_type = refl
each_name_fits a_binding = refl
each_name_fits a_case = refl
each_name_fits a_field = refl
each_name_fits a_field_pattern = refl
each_name_fits a_declaration = refl
each_name_fits a_head = refl
each_name_fits a_right_side = refl
each_name_fits a_kind = refl
each_name_fits a_declared_constructor = refl
each_name_fits a_declared_label = refl
each_name_fits no_sort = refl

-- and of what stands for no row
no_row_fits : (k : Sort) (i : ℕ) → name_fits k i no_row ≡ true
no_row_fits an_expression i = refl
no_row_fits a_pattern i = refl
no_row_fits a_constructor i = refl
no_row_fits a_type i = refl
no_row_fits a_binding i = refl
no_row_fits a_case i = refl
no_row_fits a_field i = refl
no_row_fits a_field_pattern i = refl
no_row_fits a_declaration i = refl
no_row_fits a_head i = refl
no_row_fits a_right_side i = refl
no_row_fits a_kind i = refl
no_row_fits a_declared_constructor i = refl
no_row_fits a_declared_label i = refl
no_row_fits no_sort i = refl

-- what follows from a test that holds
then_of : (b c : Bool) → b ≡ true → (if b then c else true) ≡ true → c ≡ true
then_of true c e h = h
then_of false c e h = absurd (cc)

-- a row of a sort has the name of one
row_of_sort : (text : Text) (k : Sort) (r : ℕ) → (grammar text).sort r ≡ sort_number k → is_of k (row_name r) ≡ true
row_of_sort text k r e =
    then_of ((grammar text).sort r == sort_number k) (is_of k (row_name r)) (eq-eqb ((grammar text).sort r) (sort_number k) e) (each_row (name_fits k) rows (each_name_fits k) (no_row_fits k) r)

-- the table's sorts of what stands in a `let`, a declaration of types or an exception
abbrev is_inside : ℕ → Bool
is_inside s = s == expression || s == pattern || s == type_expression || s == binding || s == case || s == field || s == field_pattern ||
    s == declaration || s == head || s == right_side || s == type_kind || s == constructor || s == label

-- a row of such a sort, or of an item that is no module
abbrev is_known : Row → Bool
is_known w = is_inside w.sort || is_plain_row (name_of w)

-- an operand has the sort of its slot
abbrev spot_fits : names.Row → ℕ → What → Bool
spot_fits r p nothing = true
spot_fits r p (token ks) = true
spot_fits r p (operand s n) = s == sort_number (sort_in r (slot_of p)) && is_inside s

-- a left operand that is a constructor
abbrev is_con_left : Left → Bool
is_con_left no_left = false
is_con_left (level n) = false
is_con_left (by_name m) = m == pcon_name

-- so has a left operand
abbrev left_fits : Sort → Row → Bool
left_fits a_constructor w = is_con_left w.left && is_inside w.sort
left_fits k w = w.sort == sort_number k && is_inside w.sort

-- the operands of a known row have the sorts of their slots
abbrev row_fits : ℕ → Row → Bool
row_fits i w = if is_known w then each_spot 0 w.spots (λ p s. spot_fits (name_of w) p s.what) && (if is_left w.left then left_fits (sort_in (name_of w) 0) w else true) else true

-- so it is in the table
each_row_fits : each 0 rows row_fits ≡ true
unfolding rows
each_row_fits = refl

-- so it is of each known row
row_known : (text : Text) (r : ℕ) → is_known (row_at rows r) ≡ true →
    (each_spot 0 (row_at rows r).spots (λ p s. spot_fits (row_name r) p s.what) ≡ true) × ((if (grammar text).has_left r then left_fits (sort_in (row_name r) 0) (row_at rows r) else true) ≡ true)
row_known text r known =
    let spots = each_spot 0 (row_at rows r).spots (λ p s. spot_fits (row_name r) p s.what) in
    let left = (if (grammar text).has_left r then left_fits (sort_in (row_name r) 0) (row_at rows r) else true) in
    and_parts spots left (then_of (is_known (row_at rows r)) (spots && left) known (each_row row_fits rows each_row_fits (λ j. refl) r))

-- and of each of its spots
spot_known : (text : Text) (r p : ℕ) → is_known (row_at rows r) ≡ true → spot_fits (row_name r) p ((grammar text).what r p) ≡ true
spot_known text r p known =
    subst (λ j. spot_fits (row_name r) j ((grammar text).what r p) ≡ true) (omega arith)
    (spot_get (λ q s. spot_fits (row_name r) q s.what) (row_at rows r).spots 0 (row_known text r known).0 p (λ j. refl))

-- a part whose node, if it is one, is of a sort
abbrev HasSort : Text → Sort → Part → Type 0
HasSort text k (taken t) = Unit {0}
HasSort text k (inner t) = (is_of k (row_name (row_of t)) ≡ true) × (is_inside ((grammar text).sort (row_of t)) ≡ true)
HasSort text k (missing at) = Unit {0}

-- a part at a spot is of the sort of its slot
sort_at : (text : Text) (r : names.Row) (p : ℕ) (w : What) (c : Part) → spot_fits r p w ≡ true → StandsIn (grammar text) w c → HasSort text (sort_in r (slot_of p)) c
sort_at text r p nothing c fits h = absurd h
sort_at text r p (token ks) (taken t) fits h = tt
sort_at text r p (token ks) (inner t) fits h = absurd h
sort_at text r p (token ks) (missing at) fits h = tt
sort_at text r p (operand s n) (taken t) fits h = absurd h
sort_at text r p (operand s n) (inner t) fits h =
    let both = and_parts (s == sort_number (sort_in r (slot_of p))) (is_inside s) fits in
    (row_of_sort text (sort_in r (slot_of p)) (row_of t) (h.0 ∙ eqb-true s (sort_number (sort_in r (slot_of p))) both.0), subst (λ z. is_inside z ≡ true) (sym h.0) both.1)
sort_at text r p (operand s n) (missing at) fits h = tt

-- a left operand is of the row's own sort
taken_left : (l : Left) (s q : ℕ) → left_takes rows l s (row q) ≡ true → (row_at rows q).sort ≡ s
taken_left no_left s q h = absurd (cc)
taken_left (level n) s q h = eqb-true (row_at rows q).sort s (and_parts ((row_at rows q).sort == s) (nat_le n (row_at rows q).level) h).0
taken_left (by_name m) s q h = eqb-true (row_at rows q).sort s (and_parts ((row_at rows q).sort == s) ((row_at rows q).name == m) h).0

-- the head of a constructor's pattern is a constructor
con_left : (l : Left) (s q : ℕ) → is_con_left l ≡ true → left_takes rows l s (row q) ≡ true → is_of a_constructor (row_name q) ≡ true
con_left no_left s q con h = absurd (cc)
con_left (level n) s q con h = absurd (cc)
con_left (by_name m) s q con h =
    let same : (row_at rows q).name ≡ pcon_name = eqb-true (row_at rows q).name m (and_parts ((row_at rows q).sort == s) ((row_at rows q).name == m) h).1 ∙ eqb-true m pcon_name con in
    subst (λ j. is_of a_constructor (or_else names.program_row (slice_get row_names j)) ≡ true) (sym same) refl

-- so a left operand is of the sort of the slot 0
left_has : (text : Text) (r : ℕ) (k : Sort) (c : Part) → (grammar text).left_ok r (left_last c) ≡ true → left_fits k (row_at rows r) ≡ true → HasSort text k c
left_has text r k (taken t) h fits = tt
left_has text r k (inner t) h fits = by k fits
  where
    own : (grammar text).sort (row_of t) ≡ (grammar text).sort r
    own = taken_left (row_at rows r).left (row_at rows r).sort (row_of t) h

    usual : (k : Sort) → ((row_at rows r).sort == sort_number k && is_inside (row_at rows r).sort) ≡ true → HasSort text k (inner t)
    usual k fits =
        let both = and_parts ((row_at rows r).sort == sort_number k) (is_inside (row_at rows r).sort) fits in
        (row_of_sort text k (row_of t) (own ∙ eqb-true (row_at rows r).sort (sort_number k) both.0), subst (λ z. is_inside z ≡ true) (sym own) both.1)

    by : (k : Sort) → left_fits k (row_at rows r) ≡ true → HasSort text k (inner t)
    by a_constructor fits =
        let both = and_parts (is_con_left (row_at rows r).left) (is_inside (row_at rows r).sort) fits in
        (con_left (row_at rows r).left (row_at rows r).sort (row_of t) both.0 h, subst (λ z. is_inside z ≡ true) (sym own) both.1)
    by an_expression fits = usual an_expression fits
    by a_pattern fits = usual a_pattern fits
    by a_type fits = usual a_type fits
    by a_binding fits = usual a_binding fits
    by a_case fits = usual a_case fits
    by a_field fits = usual a_field fits
    by a_field_pattern fits = usual a_field_pattern fits
    by a_declaration fits = usual a_declaration fits
    by a_head fits = usual a_head fits
    by a_right_side fits = usual a_right_side fits
    by a_kind fits = usual a_kind fits
    by a_declared_constructor fits = usual a_declared_constructor fits
    by a_declared_label fits = usual a_declared_label fits
    by no_sort fits = usual no_sort fits
left_has text r k (missing at) h fits = tt

-- so the first part of a row is of the sort of its slot
first_sort : (text : Text) (r p : ℕ) (c : Part) (b : Bool) → (grammar text).has_left r ≡ b → is_known (row_at rows r) ≡ true → BeginsWith (grammar text) r b p c → HasSort text (sort_in (row_name r) (slot_of p)) c
first_sort text r p c true left known h =
    subst (λ p. HasSort text (sort_in (row_name r) (slot_of p)) c) (sym h.0)
    (left_has text r (sort_in (row_name r) 0) c h.1 (then_of ((grammar text).has_left r) (left_fits (sort_in (row_name r) 0) (row_at rows r)) left (row_known text r known).1))
first_sort text r p c false left known h = sort_at text (row_name r) p ((grammar text).what r p) c (spot_known text r p known) h.1

-- the row of records
abbrev is_record_row : names.Row → Bool
is_record_row erecord_row = true
is_record_row _ = false

-- behind the value of a first part, and behind the word `with`, no such value and no such word comes
abbrev rises_high : ℕ → Spot → Bool
rises_high p s = if nat_le 3 (slot_of p) then each_edge s.next (λ q. nat_le 5 (slot_of q)) else true

-- so it is at each spot of a record
abbrev record_rises : ℕ → Row → Bool
record_rises i w = if is_record_row (name_of w) then each_spot 0 w.spots rises_high else true

-- so it is in the table
each_record_rises : each 0 rows record_rises ≡ true
unfolding rows
each_record_rises = refl

-- true in either case
either_way : (b : Bool) → (if b then true else true) ≡ true
either_way true = refl
either_way false = refl

-- so it is of each spot of a record
spot_rises : (text : Text) (r p : ℕ) → is_record_row (row_name r) ≡ true → nat_le 3 (slot_of p) ≡ true → each_edge ((grammar text).next r p) (λ q. nat_le 5 (slot_of q)) ≡ true
spot_rises text r p is high =
    then_of (nat_le 3 (slot_of p)) (each_edge ((grammar text).next r p) (λ q. nat_le 5 (slot_of q))) high
    (subst (λ j. (if nat_le 3 (slot_of j) then each_edge ((grammar text).next r p) (λ q. nat_le 5 (slot_of q)) else true) ≡ true) (omega arith)
    (spot_get rises_high (row_at rows r).spots 0 (then_of (is_record_row (row_name r)) (each_spot 0 (row_at rows r).spots rises_high) is (each_row record_rises rows each_record_rises (λ j. refl) r)) p (λ j. either_way (nat_le 3 (slot_of j)))))

-- a slot that isn't this one
other_slot : (q s : ℕ) (b : Bool) → (q ≡ s → ⊥) → b ≡ false → (if q == s then true else b) ≡ false
other_slot q s b ne e = by (q == s) refl
  where
    by : (c : Bool) → (q == s) ≡ c → (if c then true else b) ≡ false
    by true h = absurd (ne (eqb-true q s h))
    by false h = e

-- behind such a spot neither comes
none_behind : (text : Text) (r at : ℕ) (last : Last) (f : Forest) → is_record_row (row_name r) ≡ true → nat_le 3 (slot_of at) ≡ true → Follows (grammar text) r at last f →
    (is_in 3 (named_parts row_name f) ≡ false) × (is_in 4 (named_parts row_name f) ≡ false)
none_behind text r at last no_parts is high h = (refl, refl)
none_behind text r at last (part p c f) is high h =
    let five : 5 ≤ slot_of p = leb-true 5 (slot_of p) (edge_passes (λ q. nat_le 5 (slot_of q)) ((grammar text).next r at) last p (spot_rises text r at is high) h.0) in
    let rest = none_behind text r p (last_in ((grammar text).what r p) c) f is (le-leb 3 (slot_of p) (omega arith)) h.3 in
    (other_slot (slot_of p) 3 (is_in 3 (named_parts row_name f)) (λ e. omega arith) rest.0, other_slot (slot_of p) 4 (is_in 4 (named_parts row_name f)) (λ e. omega arith) rest.1)

-- a record's parts, the first of which is at a spot
one_apart : (text : Text) (r p : ℕ) (last : Last) (c : Part) (f : Forest) → is_record_row (row_name r) ≡ true → Follows (grammar text) r p last f → (is_in 3 (named_parts row_name f) ≡ false) ⊎ (is_in 4 (named_parts row_name f) ≡ false) →
    (is_in 3 (named_parts row_name (part p c f)) ≡ false) ⊎ (is_in 4 (named_parts row_name (part p c f)) ≡ false)
one_apart text r p last c f is h rest = by (nat_le 3 (slot_of p)) refl
  where
    at_four : (is_in 3 (named_parts row_name f) ≡ false) × (is_in 4 (named_parts row_name f) ≡ false) → (b : Bool) → (slot_of p == 3) ≡ b → (is_in 3 (named_parts row_name (part p c f)) ≡ false) ⊎ (is_in 4 (named_parts row_name (part p c f)) ≡ false)
    at_four none true e = let three : slot_of p ≡ 3 = eqb-true (slot_of p) 3 e in inr (other_slot (slot_of p) 4 (is_in 4 (named_parts row_name f)) (λ i. omega arith) none.1)
    at_four none false e = inl (rw (e) none.0)

    low : nat_le 3 (slot_of p) ≡ false → 3 ≤ slot_of p → ⊥
    low e le = no_yes (sym e ∙ le-leb 3 (slot_of p) le)

    by : (b : Bool) → nat_le 3 (slot_of p) ≡ b → (is_in 3 (named_parts row_name (part p c f)) ≡ false) ⊎ (is_in 4 (named_parts row_name (part p c f)) ≡ false)
    by true e = at_four (none_behind text r p last f is e h) (slot_of p == 3) refl
    by false e = elim rest [
      | inl i ↦ inl (other_slot (slot_of p) 3 (is_in 3 (named_parts row_name f)) (λ k. low e (omega (arith, k))) i)
      | inr i ↦ inr (other_slot (slot_of p) 4 (is_in 4 (named_parts row_name f)) (λ k. low e (omega (arith, k))) i)
    ]

-- the parts behind a spot
apart_behind : (text : Text) (r at : ℕ) (last : Last) (f : Forest) → is_record_row (row_name r) ≡ true → Follows (grammar text) r at last f → (is_in 3 (named_parts row_name f) ≡ false) ⊎ (is_in 4 (named_parts row_name f) ≡ false)
apart_behind text r at last no_parts is h = inl refl
apart_behind text r at last (part p c f) is h =
    one_apart text r p (last_in ((grammar text).what r p) c) c f is h.3 (apart_behind text r p (last_in ((grammar text).what r p) c) f is h.3)

-- all parts of a record
record_apart : (text : Text) (r : ℕ) (f : Forest) → is_record_row (row_name r) ≡ true → IsFilled (grammar text) r f → (is_in 3 (named_parts row_name f) ≡ false) ⊎ (is_in 4 (named_parts row_name f) ≡ false)
record_apart text r no_parts is h = inl refl
record_apart text r (part p c f) is h =
    one_apart text r p (last_in ((grammar text).what r p) c) c f is h.2 (apart_behind text r p (last_in ((grammar text).what r p) c) f is h.2)

-- and of other rows nothing is asked
row_apart : (q : names.Row) (ps : plain.Forest) → (is_record_row q ≡ true → (is_in 3 ps ≡ false) ⊎ (is_in 4 ps ≡ false)) → IsApart q ps
row_apart erecord_row ps h = h refl
row_apart _ ps h = tt

-- a row of such a sort is known
known_inside : (w : Row) → is_inside w.sort ≡ true → is_known w ≡ true
known_inside w h = rw (h) refl

mutual
  -- a tree of the grammar whose row is known has parts of the sorts of their slots
  sorted : (text : Text) (T : Tree) → WellFormed (grammar text) T → is_known (row_at rows (row_of T)) ≡ true → IsSorted (named row_name T)
  sorted text (node r f) h known = (in_order text r f h, row_apart (row_name r) (named_parts row_name f) (λ is. record_apart text r f is h), row_sorted text r f known h)

  -- the parts of a row
  row_sorted : (text : Text) (r : ℕ) (f : Forest) → is_known (row_at rows r) ≡ true → IsFilled (grammar text) r f → AreSorted (row_name r) (named_parts row_name f)
  row_sorted text r no_parts known h = tt
  row_sorted text r (part p c f) known h =
      (part_sorted text (sort_in (row_name r) (slot_of p)) c h.1 (first_sort text r p c ((grammar text).has_left r) refl known h.0), parts_sorted text r p (last_in ((grammar text).what r p) c) f known h.2)

  -- the parts behind a spot
  parts_sorted : (text : Text) (r at : ℕ) (last : Last) (f : Forest) → is_known (row_at rows r) ≡ true → Follows (grammar text) r at last f → AreSorted (row_name r) (named_parts row_name f)
  parts_sorted text r at last no_parts known h = tt
  parts_sorted text r at last (part p c f) known h =
      (part_sorted text (sort_in (row_name r) (slot_of p)) c h.2 (sort_at text (row_name r) p ((grammar text).what r p) c (spot_known text r p known) h.1), parts_sorted text r p (last_in ((grammar text).what r p) c) f known h.3)

  -- a part
  part_sorted : (text : Text) (k : Sort) (c : Part) → IsPartFormed (grammar text) c → HasSort text k c → IsPartSorted k (named_part row_name c)
  part_sorted text k (taken t) h e = tt
  part_sorted text k (inner (node r f)) h e = (e.0, sorted text (node r f) h (known_inside (row_at rows r) e.1))
  part_sorted text k (missing at) h e = tt

-- the row of such an item is known
known_item : (w : Row) → is_plain_row (name_of w) ≡ true → is_known w ≡ true
known_item w h = rw (h) (or_true (is_inside w.sort))
  where
    or_true : (b : Bool) → (b || true) ≡ true
    or_true true = refl
    or_true false = refl

-- one item more
item_more : (text : Text) (p : ℕ) (c : Part) (ps : plain.Forest) → IsPartFormed (grammar text) c → has_no_modules (forest_items (plain.part (slot_of p) (named_part row_name c) ps)) ≡ true → (has_no_modules (forest_items ps) ≡ true → AreItemsSorted (forest_items ps)) →
    AreItemsSorted (forest_items (plain.part (slot_of p) (named_part row_name c) ps))
item_more text p (taken t) ps h none rest = rest none
item_more text p (inner (node r f)) ps h none rest =
    let both = and_cases (is_plain_row (row_name r)) (has_no_modules (forest_items ps)) none in
    (sorted text (node r f) h (known_item (row_at rows r) both.0), rest both.1)
item_more text p (missing at) ps h none rest = rest none

-- the items behind a spot
items_follow : (text : Text) (at : ℕ) (last : Last) (f : Forest) → Follows (grammar text) 0 at last f → has_no_modules (forest_items (named_parts row_name f)) ≡ true → AreItemsSorted (forest_items (named_parts row_name f))
items_follow text at last no_parts h none = tt
items_follow text at last (part p c f) h none = item_more text p c (named_parts row_name f) h.2 none (items_follow text p (last_in ((grammar text).what 0 p) c) f h.3)

-- all items
items_filled : (text : Text) (f : Forest) → IsFilled (grammar text) 0 f → has_no_modules (forest_items (named_parts row_name f)) ≡ true → AreItemsSorted (forest_items (named_parts row_name f))
items_filled text no_parts h none = tt
items_filled text (part p c f) h none = item_more text p c (named_parts row_name f) h.1 none (items_follow text p (last_in ((grammar text).what 0 p) c) f h.2)

-- the items of a tree
tree_items : (text : Text) (T : Tree) → row_of T ≡ 0 → WellFormed (grammar text) T → has_no_modules (items_of (named row_name T)) ≡ true → AreItemsSorted (items_of (named row_name T))
tree_items text (node r f) root h none = items_filled text f (subst (λ r. IsFilled (grammar text) r f) root h) none

-- the items of a program that the parser gives, where none of them is a module
pub program_sorted : (ts : List Tok) → has_no_modules (program_items ts) ≡ true → AreItemsSorted (program_items ts)
program_sorted ts none =
    let T : Tree = (recover (grammar program_text) ts).0 in
    tree_items program_text T (well_formed program_text ts).root (well_formed program_text ts).formed none
