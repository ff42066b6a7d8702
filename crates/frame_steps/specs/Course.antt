-- How a token comes to be taken: frames are closed, parts are missed, and then it has a place in the innermost frame.
use Rattle.std.specs.Prelude.{◌≡◌, ℕ, zero, suc, ◌+◌, max, List, [], ◌∷◌, length, Option, Some, None}
use Rattle.token_model.specs.Kinds.{Tok}
use Rattle.grammar_model.specs.Keys.{key_of}
use Rattle.grammar_model.specs.Trees.{Part, part_height}
use Rattle.grammar_model.specs.Tables.{Table, What, nothing, token, operand, Place, nowhere, growth, at_spot}
use Rattle.recovery_model.specs.Numbers.{Found, none, found, find_fit, Way, way, find_out}
use Rattle.grammar_model.specs.Machine.{Frame, frame, Stack, put, first_of, last_done, start_at, grower_in, place_in}
use Rattle.recovery_model.specs.Steps.{missing_at, must_of, on_edge, filled, most_parts}
use Rattle.parse_frames.specs.Frames as frames

-- frames without their parts
abbrev pub bare : List frames.Frame → Stack
bare [] = []
bare (f ∷ fs) = frame f.number f.spot [] ∷ bare fs

-- a finding as a number of frames to close and a way past nothing
abbrev pub course_of : Found → Option (ℕ × Way)
course_of none = None
course_of (found n p) = Some (n, way 0 None p)

-- where the numbers of frames tell that a token fits
abbrev pub fit_of : Table → Frame → Stack → Tok → Found
fit_of G f S t = find_fit G f.number f.at (last_done (G.what f.number f.at) f.done) S (key_of t)

-- where they tell that it is reached
abbrev pub out_of : Table → Frame → Stack → Tok → Option (ℕ × Way)
out_of G f S t = find_out G f.number f.at (last_done (G.what f.number f.at) f.done) S (key_of t)

-- no frame of a stack takes the key, as their numbers tell
pub record IsRefused (G : Table) (s : frames.Stack) (k : ℕ) : Type 0 where
  pub fit : find_fit G s.top.number s.top.spot s.last (bare s.below) k ≡ none
  pub out : find_out G s.top.number s.top.spot s.last (bare s.below) k ≡ None

-- the innermost frame and those below it once so many frames are closed, each with its missing parts
abbrev pub out : ℕ → Table → Frame → Stack → ℕ → Frame × Stack
out zero G f S at = (f, S)
out (suc n) G f [] at = (f, [])
out (suc n) G f (g ∷ S) at = out n G (put (filled most_parts G f at).0 g) S at

-- how many parts are missing in these frames
abbrev pub out_holes : ℕ → Table → Frame → Stack → ℕ → ℕ
out_holes zero G f S at = 0
out_holes (suc n) G f [] at = 0
out_holes (suc n) G f (g ∷ S) at = (filled most_parts G f at).1 + out_holes n G (put (filled most_parts G f at).0 g) S at

-- a frame with so many of the parts that must come missing
abbrev pub past_musts : ℕ → Table → Frame → ℕ → Frame
past_musts zero G f at = f
past_musts (suc n) G f at = on_edge (must_of G f) f (λ e. past_musts n G (missing_at f e.spot at) at)

-- the same with an operand that is missing too, if any
abbrev pub past_operand : Option ℕ → Frame → ℕ → Frame
past_operand None f at = f
past_operand (Some p) f at = missing_at f p at

-- a frame past the missing parts of a way
abbrev pub past_way : Way → Table → Frame → ℕ → Frame
past_way w G f at = past_operand w.past (past_musts w.musts G f at) at

-- how many parts these are
abbrev pub past_holes : Option ℕ → ℕ
past_holes None = 0
past_holes (Some p) = 1

-- how many frames a token opens that stands at, or begins, this
abbrev pub opened_in : Table → What → ℕ → ℕ
opened_in G nothing k = 0
opened_in G (token ks) k = 0
opened_in G (operand s n) k = length (G.chain s k)

-- the height of the newest part
abbrev pub newest_height : List (ℕ × Part) → ℕ
newest_height [] = 0
newest_height (d ∷ ds) = part_height d.1

-- the larger of the number of the last frame that a growth opens and of the number of its first one with the height of that frame's left operand
abbrev pub grown_depth : Table → Option ℕ → ℕ → ℕ → ℕ → ℕ
grown_depth G None height below k = 0
grown_depth G (Some g) height below k = below + 2 + max height (opened_in G (G.what g (first_of G g)) k)

-- how deep a token stands that is taken at a place of a frame, by the frame's row, spot, height of the newest part and number of frames below
abbrev pub depth : Table → Place → ℕ → ℕ → ℕ → ℕ → ℕ → ℕ
depth G nowhere row at height below k = 0
depth G (at_spot p) row at height below k = below + 1 + opened_in G (G.what row p) k
depth G growth row at height below k = grown_depth G (grower_in G (G.what row at) k) height below k

-- the frames of a growth by a row
abbrev pub grown_to : Table → Option ℕ → Frame → List (ℕ × Part) → Tok → Stack → Stack
grown_to G None f ds t S = f ∷ S
grown_to G (Some g) f [] t S = f ∷ S
grown_to G (Some g) f (d ∷ ds) t S = start_at G (frame g 0 ((0, d.1) ∷ [])) (first_of G g) t (frame f.number f.at ds ∷ S)

-- the frames of a token that is taken at a place
abbrev pub taken_to : Table → Place → Frame → Stack → Tok → Stack
taken_to G nowhere f S t = f ∷ S
taken_to G growth f S t = grown_to G (grower_in G (G.what f.number f.at) (key_of t)) f f.done t S
taken_to G (at_spot p) f S t = start_at G f p t S

-- how deep a token stands that is taken by a course
abbrev pub depth_of : Table → ℕ × Way → Frame → Stack → ℕ → ℕ → ℕ
depth_of G c f S at k =
    let o = out c.0 G f S at in
    let F = past_way c.1 G o.0 at in
    depth G c.1.place F.number F.at (newest_height F.done) (length o.1) k

-- the place of a token in a frame, which isn't nowhere
pub record IsPlaced (G : Table) (f : Frame) (t : Tok) (p : Place) : Type 0 where
  pub placed : place_in G f t ≡ p
  pub some : p ≡ nowhere → ⊥

-- the frame that a course leads to, and those below it
abbrev pub course_frames : Table → ℕ × Way → Frame → Stack → ℕ → Frame × Stack
course_frames G c f S at = let o = out c.0 G f S at in (past_way c.1 G o.0 at, o.1)

-- how many parts are missing by a course
abbrev pub course_holes : Table → ℕ × Way → Frame → Stack → ℕ → ℕ
course_holes G c f S at = out_holes c.0 G f S at + c.1.musts + past_holes c.1.past
