-- The operands of each row that the parser gives come in the order of their slots.
use Rattle.std.proofs.Common.{◌≡◌, ◌≢◌, ◌≤◌, ℕ, zero, suc, Bool, true, false, ◌&&◌, List, [], ◌∷◌, min, refl, sym, subst, arith, if◌then◌else◌}
use Rattle.std.specs.Prelude.{nat_le}
use Rattle.std.proofs.lemmas.Bool.{leb-true, le-leb, and_parts}
use Rattle.tree_model.specs.Rows as names
use Rattle.tree_model.specs.Slots as slots
use Rattle.grammar_model.specs.Trees.{Forest, Part, no_parts, part}
use Rattle.grammar_model.specs.Tables.{What, nothing, token, operand, Edge, Last, plain as no_operand}
use Rattle.grammar_model.specs.Rows.{Row, row_at, spot_at, is_left}
use Rattle.grammar_model.specs.Checks.{each, each_spot, each_edge}
use Rattle.grammar_model.specs.Grammar.{last_in, StandsIn, BeginsWith, IsFilled, Follows, IsPartFormed}
use Rattle.recovery_model.specs.Steps.{is_operand}
use Rattle.grammar_model.specs.Named.{slot_of, named_parts}
use Rattle.grammar_model.specs.Ocaml.{rows, Text, grammar, row_name}
use Rattle.grammar_laws.proofs.Instance.{each_row, spot_get}
use Rattle.grammar_laws.proofs.Slots.{slot_takes, left_slot_takes}
use Rattle.operand_laws.specs.Formed.{next_slot, may_repeat, is_in_order}
use Rattle.operand_laws.proofs.Needed.{edge_passes, name_of}

-- the least of these numbers of spots that may come
abbrev least : (ℕ → ℕ) → List Edge → ℕ
least f [] = 100
least f (e ∷ es) = min (f e.spot) (least f es)

-- the lowest slot of an operand at a spot, or where a token is there, after it
abbrev lowest_by : (ℕ → ℕ) → ℕ → List Edge → What → ℕ
lowest_by f p es nothing = 100
lowest_by f p es (token ks) = least f es
lowest_by f p es (operand s n) = slot_of p

-- the same behind at most so many tokens
abbrev lowest_to : ℕ → Row → ℕ → ℕ
lowest_to zero w p = 100
lowest_to (suc n) w p = lowest_by (lowest_to n w) p (spot_at w p).next (spot_at w p).what

-- no more than seven tokens come between two operands of a row, each counted once
abbrev lowest : Row → ℕ → ℕ
lowest w p = lowest_to 7 w p

-- after a token no lower slot comes than before it, and after an operand none that is too low
abbrev rises_by : names.Row → Row → ℕ → List Edge → What → Bool
rises_by r w p es nothing = true
rises_by r w p es (token ks) = each_edge es (λ q. nat_le (lowest w p) (lowest w q))
rises_by r w p es (operand s n) = nat_le (lowest w p) (slot_of p) && each_edge es (λ q. nat_le (next_slot r (slot_of p)) (lowest w q))

-- nor does one after a left operand
abbrev starts_low : names.Row → Row → Bool
starts_low r w = if is_left w.left then each_edge (spot_at w 0).next (λ q. nat_le (next_slot r 0) (lowest w q)) else true

-- so it is at each spot of a row
abbrev order_fits : ℕ → Row → Bool
order_fits i w = starts_low (name_of w) w && each_spot 0 w.spots (λ p s. rises_by (name_of w) w p s.next s.what)

-- so it is of each row of the table
each_order_fits : each 0 rows order_fits ≡ true
unfolding rows may_repeat
each_order_fits = refl

-- what is at most a number is at most each greater one
edges_more : (w : Row) (low m : ℕ) (es : List Edge) → low ≤ m → each_edge es (λ q. nat_le m (lowest w q)) ≡ true → each_edge es (λ q. nat_le low (lowest w q)) ≡ true
edges_more w low m [] le h = refl
edges_more w low m (e ∷ es) le h =
    let both = and_parts (nat_le m (lowest w e.spot)) (each_edge es (λ q. nat_le m (lowest w q))) h in
    let more : m ≤ lowest w e.spot = leb-true m (lowest w e.spot) both.0 in
    rw (le-leb low (lowest w e.spot) (omega arith), edges_more w low m es le both.1) refl

-- nothing is lower than zero
edges_from_zero : (w : Row) (es : List Edge) → each_edge es (λ q. nat_le 0 (lowest w q)) ≡ true
edges_from_zero w [] = refl
edges_from_zero w (e ∷ es) = rw (le-leb 0 (lowest w e.spot) (omega arith), edges_from_zero w es) refl

-- one part before others that are in order
part_in_order : (text : Text) (r p low : ℕ) (c : Part) (f : Forest) (what : What) → (what ≢ nothing → slots.is_operand (row_name r) (slot_of p) ≡ is_operand what) → StandsIn (grammar text) what c →
    nat_le low (lowest (row_at rows r) p) ≡ true → rises_by (row_name r) (row_at rows r) p ((grammar text).next r p) what ≡ true →
    ((m : ℕ) → each_edge ((grammar text).next r p) (λ q. nat_le m (lowest (row_at rows r) q)) ≡ true → is_in_order (row_name r) m (named_parts row_name f) ≡ true) →
    is_in_order (row_name r) low (named_parts row_name (part p c f)) ≡ true
part_in_order text r p low c f nothing takes stands near rises rest = absurd stands
part_in_order text r p low c f (token ks) takes stands near rises rest =
    rw (takes (λ e. cc)) (rest low (edges_more (row_at rows r) low (lowest (row_at rows r) p) ((grammar text).next r p) (leb-true low (lowest (row_at rows r) p) near) rises))
part_in_order text r p low c f (operand s n) takes stands near rises rest =
    let both = and_parts (nat_le (lowest (row_at rows r) p) (slot_of p)) (each_edge ((grammar text).next r p) (λ q. nat_le (next_slot (row_name r) (slot_of p)) (lowest (row_at rows r) q))) rises in
    let a : low ≤ lowest (row_at rows r) p = leb-true low (lowest (row_at rows r) p) near in
    let b : lowest (row_at rows r) p ≤ slot_of p = leb-true (lowest (row_at rows r) p) (slot_of p) both.0 in
    rw (takes (λ e. cc), le-leb low (slot_of p) (omega arith)) (rest (next_slot (row_name r) (slot_of p)) both.1)

-- the check at one spot
spot_rises : (text : Text) (r p : ℕ) → rises_by (row_name r) (row_at rows r) p ((grammar text).next r p) ((grammar text).what r p) ≡ true
spot_rises text r p =
    let both = and_parts (starts_low (row_name r) (row_at rows r)) (each_spot 0 (row_at rows r).spots (λ p s. rises_by (row_name r) (row_at rows r) p s.next s.what)) (each_row order_fits rows each_order_fits (λ j. refl) r) in
    subst (λ j. rises_by (row_name r) (row_at rows r) j ((grammar text).next r p) ((grammar text).what r p) ≡ true) (omega arith)
    (spot_get (λ p s. rises_by (row_name r) (row_at rows r) p s.next s.what) (row_at rows r).spots 0 both.1 p (λ j. refl))

-- the parts after a spot
follow_in_order : (text : Text) (r at low : ℕ) (last : Last) (f : Forest) → each_edge ((grammar text).next r at) (λ q. nat_le low (lowest (row_at rows r) q)) ≡ true → Follows (grammar text) r at last f →
    is_in_order (row_name r) low (named_parts row_name f) ≡ true
follow_in_order text r at low last no_parts near h = refl
follow_in_order text r at low last (part p c f) near h =
    part_in_order text r p low c f ((grammar text).what r p) (slot_takes text r p) h.1 (edge_passes (λ q. nat_le low (lowest (row_at rows r) q)) ((grammar text).next r at) last p near h.0) (spot_rises text r p)
    (λ m next. follow_in_order text r p m (last_in ((grammar text).what r p) c) f next h.3)

-- the check at the start of a row with a left operand
start_rises : (text : Text) (r : ℕ) → (grammar text).has_left r ≡ true → each_edge ((grammar text).next r 0) (λ q. nat_le (next_slot (row_name r) 0) (lowest (row_at rows r) q)) ≡ true
start_rises text r left =
    let both = and_parts (starts_low (row_name r) (row_at rows r)) (each_spot 0 (row_at rows r).spots (λ p s. rises_by (row_name r) (row_at rows r) p s.next s.what)) (each_row order_fits rows each_order_fits (λ j. refl) r) in
    subst (λ b. (if b then each_edge ((grammar text).next r 0) (λ q. nat_le (next_slot (row_name r) 0) (lowest (row_at rows r) q)) else true) ≡ true) left both.0

-- a left operand before parts that are in order
left_in_order : (text : Text) (r : ℕ) (c : Part) (f : Forest) → (grammar text).has_left r ≡ true → is_in_order (row_name r) (next_slot (row_name r) 0) (named_parts row_name f) ≡ true →
    is_in_order (row_name r) 0 (named_parts row_name (part 0 c f)) ≡ true
left_in_order text r c f left rest = rw (left_slot_takes text r left) rest

-- the parts of a row, with or without a left operand
filled_in_order : (text : Text) (r p : ℕ) (c : Part) (f : Forest) (left : Bool) → (grammar text).has_left r ≡ left → BeginsWith (grammar text) r left p c → IsPartFormed (grammar text) c → Follows (grammar text) r p (last_in ((grammar text).what r p) c) f →
    is_in_order (row_name r) 0 (named_parts row_name (part p c f)) ≡ true
filled_in_order text r p c f true left begins formed follows =
    subst (λ p. is_in_order (row_name r) 0 (named_parts row_name (part p c f)) ≡ true) (sym begins.0)
    (left_in_order text r c f left
    (follow_in_order text r 0 (next_slot (row_name r) 0) (last_in ((grammar text).what r 0) c) f (start_rises text r left) (subst (λ p. Follows (grammar text) r p (last_in ((grammar text).what r p) c) f) begins.0 follows)))
filled_in_order text r p c f false left begins formed follows =
    follow_in_order text r 0 0 no_operand (part p c f) (edges_from_zero (row_at rows r) ((grammar text).next r 0)) (begins.0, begins.1, formed, follows)

-- the operands of a row that the parser gives come in the order of their slots
pub in_order : (text : Text) (r : ℕ) (f : Forest) → IsFilled (grammar text) r f → is_in_order (row_name r) 0 (named_parts row_name f) ≡ true
in_order text r no_parts h = refl
in_order text r (part p c f) h = filled_in_order text r p c f ((grammar text).has_left r) refl h.0 h.1 h.2
