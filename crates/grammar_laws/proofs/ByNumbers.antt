-- Where a token fits is told by the frames' numbers, spots and newest operands alone.
use Rattle.std.proofs.Common.{◌≡◌, ℕ, zero, suc, Bool, true, false, List, [], ◌∷◌, refl, ◌∙◌, ap, if◌then◌else◌}
use Rattle.token_model.specs.Kinds.{Tok}
use Rattle.grammar_model.specs.Keys.{key_of}
use Rattle.grammar_model.specs.Trees.{Part, inner}
use Rattle.grammar_model.specs.Tables.{Table, What, nothing, token, operand, Place, nowhere, growth, at_spot}
use Rattle.recovery_model.specs.Numbers.{last_row, Found, none, found, further, here, find_fit}
use Rattle.grammar_model.specs.Machine.{Frame, Stack, node_of, put, last_done, Fit, no_fit, take_at, place_in, fits_at}

abbrev pub take_found : Table → Found → Frame → Stack → Tok → Fit
take_found G none f S t = no_fit
take_found G (found zero p) f S t = take_at G p f S t no_fit
take_found G (found (suc k) p) f [] t = no_fit
take_found G (found (suc k) p) f (g ∷ S) t = take_found G (found k p) (put f g) S t

pub last_closed : (w : What) (f : Frame) (ds : List (ℕ × Part)) (at : ℕ) → last_done w ((at, inner (node_of f)) ∷ ds) ≡ last_row w f.number
last_closed nothing f ds at = refl
last_closed (token ks) f ds at = refl
last_closed (operand s n) f ds at = refl

pub fits_by : (G : Table) (t : Tok) (S : Stack) (f : Frame) → fits_at G f S t ≡ take_found G (find_fit G f.number f.at (last_done (G.what f.number f.at) f.done) S (key_of t)) f S t
fits_by G t [] f = by (place_in G f t)
  where
    by : (place : Place) → take_at G place f [] t no_fit ≡ take_found G (here place none) f [] t
    by nowhere = refl
    by growth = refl
    by (at_spot p) = refl
fits_by G t (g ∷ S) f = by (place_in G f t) (G.ends f.number f.at) (find_fit G g.number g.at (last_row (G.what g.number g.at) f.number) S (key_of t))
    (fits_by G t S (put f g) ∙ ap (λ l. take_found G (find_fit G g.number g.at l S (key_of t)) (put f g) S t) (last_closed (G.what g.number g.at) f g.done g.at))
  where
    by : (place : Place) (b : Bool) (x : Found) → fits_at G (put f g) S t ≡ take_found G x (put f g) S t →
        take_at G place f (g ∷ S) t (if b then fits_at G (put f g) S t else no_fit) ≡ take_found G (here place (if b then further x else none)) f (g ∷ S) t
    by nowhere true none h = h
    by nowhere true (found k p) h = h
    by nowhere false x h = refl
    by growth b x h = refl
    by (at_spot p) b x h = refl
