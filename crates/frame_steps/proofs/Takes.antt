-- A token that has a place in a frame is taken there, or is too deep, as the frame's numbers tell.
use Rattle.std.proofs.Common.{◌≡◌, ℕ, ◌+◌, ◌≤◌, ◌<◌, max, Bool, true, false, List, [], ◌∷◌, length, Option, Some, None, refl, arith, if◌then◌else◌}
use Rattle.std.specs.Prelude.{nat_le}
use Rattle.std.proofs.lemmas.Bool.{leb-true, le-leb}
use Rattle.token_model.specs.Kinds.{Tok}
use Rattle.grammar_model.specs.Keys.{key_of}
use Rattle.grammar_model.specs.Trees.{Part, part_height}
use Rattle.grammar_model.specs.Tables.{Table, What, nothing, token, operand, plain, takes, grows, Place, nowhere, growth, at_spot}
use Rattle.grammar_model.specs.Grammar.{last_in}
use Rattle.grammar_model.specs.Machine.{Frame, frame, Stack, last_done, first_of, opened, start_in, start_at, no_fit, deep, fit, within, grower_in, grown, take_at, place_in}
use Rattle.grammar_laws.proofs.Laws.{Found}
use Rattle.grammar_laws.proofs.Sound.{place_grows, grows_parts}
use Rattle.frame_steps.specs.Course.{opened_in, newest_height, grown_depth, depth, grown_to, taken_to, IsPlaced}

-- as many frames are opened as there are rows
opened_length : (G : Table) (xs : List ℕ) (t : Tok) (S : Stack) → length (opened G xs t S) ≡ length S + length xs
opened_length G [] t S = omega arith
opened_length G (r ∷ []) t S = omega arith
opened_length G (r ∷ q ∷ rs) t S = let h = opened_length G (q ∷ rs) t (frame r (first_of G r) [] ∷ S) in omega arith

in_length : (G : Table) (w : What) (f : Frame) (p : ℕ) (t : Tok) (S : Stack) → length (start_in G w f p t S) ≡ length S + 1 + opened_in G w (key_of t)
in_length G nothing f p t S = omega arith
in_length G (token ks) f p t S = omega arith
in_length G (operand s n) f p t S = let h = opened_length G (G.chain s (key_of t)) t (frame f.number p f.done ∷ S) in omega arith

-- the number of frames behind a token that stands at, or begins, a part
pub start_length : (G : Table) (f : Frame) (p : ℕ) (t : Tok) (S : Stack) → length (start_at G f p t S) ≡ length S + 1 + opened_in G (G.what f.number p) (key_of t)
start_length G f p t S = in_length G (G.what f.number p) f p t S

-- a token stands within the frames, or not
pub within_fits : (n d : ℕ) (S : Stack) → max n (length S) ≤ d → d ≤ 512 → within n S ≡ fit S
within_fits n d S a b = by (nat_le n 512) (nat_le (length S) 512) (le-leb n 512 (omega arith)) (le-leb (length S) 512 (omega arith))
  where
    by : (x y : Bool) → x ≡ true → y ≡ true → (if x then (if y then fit S else deep) else deep) ≡ fit S
    by true true h k = refl
    by true false h k = absurd (cc)
    by false y h k = absurd (cc)

pub within_deep : (n : ℕ) (S : Stack) → 512 < max n (length S) → within n S ≡ deep
within_deep n S h = by (nat_le n 512) (nat_le (length S) 512) (leb-true n 512) (leb-true (length S) 512)
  where
    by : (x y : Bool) → (x ≡ true → n ≤ 512) → (y ≡ true → length S ≤ 512) → (if x then (if y then fit S else deep) else deep) ≡ deep
    by true true a b = let c = a refl in let d = b refl in absurd (omega arith)
    by true false a b = refl
    by false y a b = refl

-- taken, or too deep
pub record Takes (G : Table) (p : Place) (f : Frame) (S : Stack) (t : Tok) (d : ℕ) : Type 0 where
  pub taken : d ≤ 512 → take_at G p f S t no_fit ≡ fit (taken_to G p f S t)
  pub too_deep : 512 < d → take_at G p f S t no_fit ≡ deep

-- at a spot
spot_takes : (G : Table) (p : ℕ) (f : Frame) (S : Stack) (t : Tok) → Takes G (at_spot p) f S t (length S + 1 + opened_in G (G.what f.number p) (key_of t))
spot_takes G p f S t =
    let h = start_length G f p t S in
    record { taken = λ d. within_fits 0 (length S + 1 + opened_in G (G.what f.number p) (key_of t)) (start_at G f p t S) (omega arith) d; too_deep = λ d. within_deep 0 (start_at G f p t S) (omega arith) }

-- the grown operand is there, and the row that grows it
pub record Growing (G : Table) (f : Frame) (k : ℕ) : Type 0 where
  pub row : ℕ
  pub is : grower_in G (G.what f.number f.at) k ≡ Some row
  pub newest : ℕ × Part
  pub others : List (ℕ × Part)
  pub done : f.done ≡ newest ∷ others
  pub takes : takes G (G.what row (first_of G row)) k ≡ true

in_grows : (G : Table) → Found G → (w : What) (ds : List (ℕ × Part)) (k : ℕ) → grows G w (last_done w ds) k ≡ true →
    (g : ℕ) × (grower_in G w k ≡ Some g) × ((d : ℕ × Part) × (es : List (ℕ × Part)) × (ds ≡ d ∷ es)) × (takes G (G.what g (first_of G g)) k ≡ true)
in_grows G L nothing ds k h = absurd (cc)
in_grows G L (token ks) ds k h = absurd (cc)
in_grows G L (operand s n) [] k h =
    let (q, is, le, ok) = grows_parts G n plain (G.grower s k) h in absurd (L.left_plain q ok)
in_grows G L (operand s n) (d ∷ es) k h =
    let (q, is, le, ok) = grows_parts G n (last_in (operand s n) d.1) (G.grower s k) h in
    (q, is, (d, es, refl), (L.grower_left s k q is).3)

pub growing : (G : Table) → Found G → (f : Frame) (t : Tok) → place_in G f t ≡ growth → Growing G f (key_of t)
growing G L f t e =
    let (g, is, (d, es, same), takes) = in_grows G L (G.what f.number f.at) f.done (key_of t) (place_grows G f.number f.at (key_of t) (last_done (G.what f.number f.at) f.done) e) in
    record { row = g; is = is; newest = d; others = es; done = same; takes = takes }

-- by growth
grown_takes : (G : Table) (f : Frame) (S : Stack) (t : Tok) (o : Option ℕ) (g : ℕ) (ds : List (ℕ × Part)) (d : ℕ × Part) (es : List (ℕ × Part)) → o ≡ Some g → ds ≡ d ∷ es →
    (grown_depth G o (newest_height ds) (length S) (key_of t) ≤ 512 → grown G o f ds t S ≡ fit (grown_to G o f ds t S)) × (512 < grown_depth G o (newest_height ds) (length S) (key_of t) → grown G o f ds t S ≡ deep)
grown_takes G f S t None g ds d es a b = absurd (cc)
grown_takes G f S t (Some q) g [] d es a b = absurd (cc)
grown_takes G f S t (Some q) g (c ∷ cs) d es a b =
    let h = start_length G (frame q 0 ((0, c.1) ∷ [])) (first_of G q) t (frame f.number f.at cs ∷ S) in (
      λ z. within_fits (length S + 2 + part_height c.1) (length S + 2 + max (part_height c.1) (opened_in G (G.what q (first_of G q)) (key_of t))) (start_at G (frame q 0 ((0, c.1) ∷ [])) (first_of G q) t (frame f.number f.at cs ∷ S)) (omega arith) z,
      λ z. within_deep (length S + 2 + part_height c.1) (start_at G (frame q 0 ((0, c.1) ∷ [])) (first_of G q) t (frame f.number f.at cs ∷ S)) (omega arith),
    )

-- a token that has a place is taken there, or is too deep
pub place_takes : (G : Table) → Found G → (p : Place) (f : Frame) (S : Stack) (t : Tok) → IsPlaced G f t p → Takes G p f S t (depth G p f.number f.at (newest_height f.done) (length S) (key_of t))
place_takes G L nowhere f S t i = absurd (i.some refl)
place_takes G L (at_spot p) f S t i = spot_takes G p f S t
place_takes G L growth f S t i =
    let g = growing G L f t i.placed in
    let (a, b) = grown_takes G f S t (grower_in G (G.what f.number f.at) (key_of t)) g.row f.done g.newest g.others g.is g.done in
    record { taken = a; too_deep = b }
