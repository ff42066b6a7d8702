-- What frames note: the heights and the numbers of nodes.
use Rattle.std.proofs.Common.{◌≡◌, refl, sym, ap, ◌∙◌, Option, Some, None, List, ◌∷◌, ℕ}
use Rattle.std.specs.declared.rc.Rc.{Rc}
use Rattle.std.specs.declared.alloc.Global.{Global}
use Rattle.parse_frames.specs.declared.frames.Cell.{Cell}
use Rattle.parse_frames.specs.declared.frames.Level.{Level, out-Level, fold_out-Level}
use Rattle.parse_frames.specs.declared.frames.Level.TheFolds.{map-Level}
use Rattle.parse_frames.specs.Frames.{Frame, frame, frames_running, running_notes}
use Rattle.parse_frames.specs.View.{frames_notes, frames_view, level_notes, level_view, parts_notes, parts_view, level_notes_step, level_step}

-- what one frame notes, and what the frames below it note
notes_step : (n s : ℕ) (ps : Option (Rc Cell Global)) (b : Option (Rc Level Global)) → level_notes_step (map-Level Level (List (List (ℕ × ℕ))) level_notes (record { number = n; spot = s; parts = ps; below = b })) ≡ parts_notes ps ∷ frames_notes b
notes_step n s ps None = refl
notes_step n s ps (Some r) = refl

-- one frame, and the frames below it
frames_step : (n s : ℕ) (ps : Option (Rc Cell Global)) (b : Option (Rc Level Global)) → level_step (map-Level Level (List Frame) level_view (record { number = n; spot = s; parts = ps; below = b })) ≡ frame n s (parts_view ps) ∷ frames_view b
frames_step n s ps None = refl
frames_step n s ps (Some r) = refl

-- a frame that waits notes what its parts and the frames below it note
pub level_notes_parts : (l : Level) → level_notes l ≡ parts_notes (out-Level l).parts ∷ frames_notes (out-Level l).below
level_notes_parts l = fold_out-Level (List (List (ℕ × ℕ))) level_notes_step l ∙ notes_step (out-Level l).number (out-Level l).spot (out-Level l).parts (out-Level l).below

-- a frame that waits, and the frames below it
pub level_view_parts : (l : Level) → level_view l ≡ frame (out-Level l).number (out-Level l).spot (parts_view (out-Level l).parts) ∷ frames_view (out-Level l).below
level_view_parts l = fold_out-Level (List Frame) level_step l ∙ frames_step (out-Level l).number (out-Level l).spot (out-Level l).parts (out-Level l).below

-- all but the first of lists that are equal are equal
tails : {A : Type 0} (x y : A) (xs ys : List A) → x ∷ xs ≡ y ∷ ys → xs ≡ ys
tails x y xs ys e = cc

-- the first of lists that are equal are equal
heads : {A : Type 0} (x y : A) (xs ys : List A) → x ∷ xs ≡ y ∷ ys → x ≡ y
heads x y xs ys e = cc

-- where a frame and those below it note what is so, its own parts do
pub parts_told : (l : Level) → level_notes l ≡ frames_running (level_view l) → parts_notes (out-Level l).parts ≡ running_notes (parts_view (out-Level l).parts)
parts_told l h =
    heads (parts_notes (out-Level l).parts) (running_notes (parts_view (out-Level l).parts)) (frames_notes (out-Level l).below) (frames_running (frames_view (out-Level l).below))
    (sym (level_notes_parts l) ∙ h ∙ ap frames_running (level_view_parts l))

-- where a frame and those below it note what is so, those below do
pub below_told : (l : Level) → level_notes l ≡ frames_running (level_view l) → frames_notes (out-Level l).below ≡ frames_running (frames_view (out-Level l).below)
below_told l h =
    tails (parts_notes (out-Level l).parts) (running_notes (parts_view (out-Level l).parts)) (frames_notes (out-Level l).below) (frames_running (frames_view (out-Level l).below))
    (sym (level_notes_parts l) ∙ h ∙ ap frames_running (level_view_parts l))
