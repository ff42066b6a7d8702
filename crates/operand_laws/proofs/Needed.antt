-- Each row that the parser gives fills the slots that it needs.
use Rattle.std.proofs.Common.{◌≡◌, ◌≢◌, ◌==◌, ◌+◌, ◌≤◌, inl, inr, ℕ, Bool, true, false, ◌&&◌, not, List, [], ◌∷◌, refl, sym, subst, arith, if◌then◌else◌}
use Rattle.std.specs.Prelude.{nat_le, slice_get}
use Rattle.std.specs.List.{list_all}
use Rattle.std.proofs.lemmas.Bool.{leb-true, le-leb, eqb-true, eq-eqb, and_parts}
use Rattle.tree_model.specs.Rows as names
use Rattle.grammar_model.specs.Trees.{Forest, Part, no_parts, part}
use Rattle.grammar_model.specs.Tables.{What, nothing, token, operand, Edge, Last, plain as no_operand}
use Rattle.grammar_model.specs.Rows.{Row, Spot, row_at, spot_at, or_else, is_left}
use Rattle.grammar_model.specs.Checks.{each, each_spot, each_edge, is_nothing}
use Rattle.grammar_model.specs.Grammar.{last_in, MayCome, StandsIn, BeginsWith, IsFilled, Follows}
use Rattle.grammar_model.specs.Named.{slot_of, named_parts}
use Rattle.grammar_model.specs.Ocaml.{rows, Text, grammar, row_name}
use Rattle.grammar_laws.proofs.Instance.{each_row, spot_get}
use Rattle.grammar_model.specs.Words.{row_names}
use Rattle.operand_laws.specs.Formed.{needed_slots, is_in, HasNeeded}

-- the name of a row
abbrev pub name_of : Row → names.Row
name_of w = or_else names.program_row (slice_get row_names w.name)

-- a row can't end at this spot, and no spot that may come after it is behind the one of the slot
abbrev stays_before : ℕ → Spot → Bool
stays_before s w = not w.ends && each_edge w.next (λ q. nat_le q (s + 1))

-- so it is at a spot that something is at
abbrev stays_at : ℕ → ℕ → Spot → Bool
stays_at s p w = if is_nothing w.what then true else if nat_le p s then stays_before s w else true

-- a row can't end before the spot of the slot, nor pass over it; a left operand has the slot 0
abbrev must_pass : Row → ℕ → Bool
must_pass w s = if is_left w.left && s == 0 then true else stays_before s (spot_at w 0) && each_spot 0 w.spots (stays_at s)

-- so it is of each slot that the row needs
abbrev needed_fit : ℕ → Row → Bool
needed_fit i w = list_all (must_pass w) (needed_slots (name_of w))

-- so it is of each row of the table
each_needed_fits : each 0 rows needed_fit ≡ true
unfolding rows
each_needed_fits = refl

-- where each number of a list passes a test, it passes what follows from it
all_more : (test other : ℕ → Bool) → ((s : ℕ) → test s ≡ true → other s ≡ true) → (ss : List ℕ) → list_all test ss ≡ true → list_all other ss ≡ true
all_more test other more [] h = refl
all_more test other more (s ∷ ss) h =
    let both = and_parts (test s) (list_all test ss) h in
    rw (more s both.0, all_more test other more ss both.1) refl

-- a spot that may come passes the test that each does
pub edge_passes : (test : ℕ → Bool) (es : List Edge) (last : Last) (p : ℕ) → each_edge es test ≡ true → MayCome es last p → test p ≡ true
edge_passes test [] last p h may = absurd may
edge_passes test (e ∷ es) last p h may =
    let both = and_parts (test e.spot) (each_edge es test) h in
    elim may [ inl here ↦ subst (λ p. test p ≡ true) here.0 both.0 | inr later ↦ edge_passes test es last p both.1 later ]

-- what isn't true
not_true : (b : Bool) → not b ≡ true → b ≡ true → ⊥
not_true true h e = cc
not_true false h e = cc

-- what a part stands in is something
something : (text : Text) (w : What) (c : Part) → StandsIn (grammar text) w c → is_nothing w ≡ false
something text nothing c h = absurd h
something text (token ks) c h = refl
something text (operand s n) c h = refl

-- no spot behind that of the slot comes, so the slot is filled where the row ends
filled_behind : (text : Text) (r s at : ℕ) (last : Last) (f : Forest) → ((p : ℕ) → stays_at s p (spot_at (row_at rows r) p) ≡ true) → stays_before s (spot_at (row_at rows r) at) ≡ true →
    Follows (grammar text) r at last f → is_in s (named_parts row_name f) ≡ true
filled_behind text r s at last no_parts stays here h = absurd (not_true ((grammar text).ends r at) (and_parts (not ((grammar text).ends r at)) (each_edge ((grammar text).next r at) (λ q. nat_le q (s + 1))) here).0 h)
filled_behind text r s at last (part p c f) stays here h =
    let near : p ≤ s + 1 = leb-true p (s + 1) (edge_passes (λ q. nat_le q (s + 1)) ((grammar text).next r at) last p (and_parts (not ((grammar text).ends r at)) (each_edge ((grammar text).next r at) (λ q. nat_le q (s + 1))) here).1 h.0) in
    by (slot_of p == s) refl (λ before. filled_behind text r s p (last_in ((grammar text).what r p) c) f stays before h.3)
    (λ apart. let low : p ≤ s = omega arith in passes (nat_le p s) (le-leb p s low) (is_nothing ((grammar text).what r p)) (something text ((grammar text).what r p) c h.1) (stays p))
  where
    passes : (low : Bool) → low ≡ true → (nought : Bool) → nought ≡ false → (if nought then true else if low then stays_before s (spot_at (row_at rows r) p) else true) ≡ true → stays_before s (spot_at (row_at rows r) p) ≡ true
    passes true l false n h = h
    passes true l true n h = absurd (cc)
    passes false l nought n h = absurd (cc)

    by : (b : Bool) → (slot_of p == s) ≡ b → (stays_before s (spot_at (row_at rows r) p) ≡ true → is_in s (named_parts row_name f) ≡ true) → (slot_of p ≢ s → stays_before s (spot_at (row_at rows r) p) ≡ true) →
        (if b then true else is_in s (named_parts row_name f)) ≡ true
    by true e go before = refl
    by false e go before = go (before (λ same. let yes = eq-eqb (slot_of p) s same in cc))

-- what passes each spot of a row passes the one of a number
stays : (s r : ℕ) → each_spot 0 (row_at rows r).spots (stays_at s) ≡ true → (p : ℕ) → stays_at s p (spot_at (row_at rows r) p) ≡ true
stays s r h p = subst (λ j. stays_at s j (spot_at (row_at rows r) p) ≡ true) (omega arith) (spot_get (stays_at s) (row_at rows r).spots 0 h p (λ j. refl))

-- true in either case
either_way : (b c : Bool) → c ≡ true → (if b then true else c) ≡ true
either_way true c h = refl
either_way false c h = h

-- a slot that the row can't pass over is filled
passed : (text : Text) (r s : ℕ) (f : Forest) (left zero_slot : Bool) → (grammar text).has_left r ≡ left → (s == 0) ≡ zero_slot → IsFilled (grammar text) r f →
    (if left && zero_slot then true else stays_before s (spot_at (row_at rows r) 0) && each_spot 0 (row_at rows r).spots (stays_at s)) ≡ true → is_in s (named_parts row_name f) ≡ true
passed text r s no_parts true zero_slot l z h test = absurd (let no = h.0 in cc)
passed text r s no_parts false zero_slot l z h test =
    let both = and_parts (stays_before s (spot_at (row_at rows r) 0)) (each_spot 0 (row_at rows r).spots (stays_at s)) test in
    filled_behind text r s 0 no_operand no_parts (stays s r both.1) both.0 h.1
passed text r s (part p c f) true true l z h test =
    let begins : BeginsWith (grammar text) r true p c = subst (λ b. BeginsWith (grammar text) r b p c) l h.0 in
    let here : slot_of p ≡ s = let first = begins.0 in let slot = eqb-true s 0 z in omega arith in
    rw (eq-eqb (slot_of p) s here) refl
passed text r s (part p c f) true false l z h test =
    let begins : BeginsWith (grammar text) r true p c = subst (λ b. BeginsWith (grammar text) r b p c) l h.0 in
    let both = and_parts (stays_before s (spot_at (row_at rows r) 0)) (each_spot 0 (row_at rows r).spots (stays_at s)) test in
    either_way (slot_of p == s) (is_in s (named_parts row_name f))
    (filled_behind text r s p (last_in ((grammar text).what r p) c) f (stays s r both.1) (subst (λ p. stays_before s (spot_at (row_at rows r) p) ≡ true) (sym begins.0) both.0) h.2)
passed text r s (part p c f) false zero_slot l z h test =
    let begins : BeginsWith (grammar text) r false p c = subst (λ b. BeginsWith (grammar text) r b p c) l h.0 in
    let both = and_parts (stays_before s (spot_at (row_at rows r) 0)) (each_spot 0 (row_at rows r).spots (stays_at s)) test in
    filled_behind text r s 0 no_operand (part p c f) (stays s r both.1) both.0 (begins.0, begins.1, h.1, h.2)

-- no slot is left out that the row needs
pub needed_filled : (text : Text) (r : ℕ) (f : Forest) → IsFilled (grammar text) r f → HasNeeded (row_name r) (named_parts row_name f)
needed_filled text r f h =
    all_more (must_pass (row_at rows r)) (λ s. is_in s (named_parts row_name f)) (λ s test. passed text r s f ((grammar text).has_left r) (s == 0) refl refl h test) (needed_slots (row_name r))
    (each_row needed_fit rows each_needed_fits (λ j. refl) r)
