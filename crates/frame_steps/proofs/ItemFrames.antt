-- The item in progress, told by the numbers of the frames.
use Rattle.std.proofs.Common.{◌≡◌, ℕ, suc, ◌+◌, Bool, true, false, nat_eq, [], ◌∷◌, map, refl, ap, arith, if◌then◌else◌}
use Rattle.tree_model.specs.Rows as names
use Rattle.grammar_model.specs.Tables.{Table}
use Rattle.grammar_model.specs.Machine.{Frame, Stack, put}
use Rattle.recovery_model.specs.Steps.{filled, most_parts}
use Rattle.recovery_model.specs.Items.{item_row, has_item, more_holes, closed_out}
use Rattle.parse_frames.specs.Named.{named_frame}
use Rattle.frame_steps.specs.Course.{bare, out, out_holes}
use Rattle.frame_steps.specs.Reached.{to_close}

-- the frames once an item is closed are those once so many frames are
pub closed_is : (G : Table) (at : ℕ) (S : Stack) (f : Frame) → closed_out G f S at ≡ ((out (to_close f.number S) G f S at).0 ∷ (out (to_close f.number S) G f S at).1, out_holes (to_close f.number S) G f S at)
closed_is G at [] f = refl
closed_is G at (g ∷ S) f = by (nat_eq f.number item_row) (closed_is G at S (put (filled most_parts G f at).0 g))
  where
    F : Frame
    F = put (filled most_parts G f at).0 g

    h : ℕ
    h = (filled most_parts G f at).1

    plus : h ≡ h + 0
    plus = omega arith

    by : (b : Bool) → closed_out G F S at ≡ ((out (to_close g.number S) G F S at).0 ∷ (out (to_close g.number S) G F S at).1, out_holes (to_close g.number S) G F S at)
        → (if b then (F ∷ S, h) else more_holes h (closed_out G F S at))
        ≡ (let n = if b then 1 else suc (to_close g.number S) in ((out n G f (g ∷ S) at).0 ∷ (out n G f (g ∷ S) at).1, out_holes n G f (g ∷ S) at))
    by true e = ap (λ n. (F ∷ S, n)) plus
    by false e = ap (more_holes h) e

-- frames with the names of their rows have an item where they have one
pub item_named : (name : ℕ → names.Row) (S : Stack) → has_item (bare (map (named_frame name) S)) ≡ has_item S
item_named name [] = refl
item_named name (f ∷ S) = ap (λ b. if nat_eq f.number item_row then true else b) (item_named name S)

-- and as many frames out to it
pub close_named : (name : ℕ → names.Row) (S : Stack) (r : ℕ) → to_close r (bare (map (named_frame name) S)) ≡ to_close r S
close_named name [] r = refl
close_named name (g ∷ S) r = ap (λ n. if nat_eq r item_row then 1 else suc n) (close_named name S g.number)
