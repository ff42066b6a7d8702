-- What the parser's own types are in the definitions.
use Rattle.std.specs.Prelude.{◌≡◌, ℕ, ◌≤◌, ◌<◌, List, ◌∷◌, length, Option, Some, None, option_map}
use Rattle.token_model.specs.Kinds.{Tok}
use Rattle.grammar_model.specs.Keys.{key_of}
use Rattle.recovery_model.specs.Steps as recovery
use Rattle.grammar_model.specs.Tables as t
use Rattle.recovery_model.specs.Numbers as n
use Rattle.grammar_model.specs.Machine as machine
use Rattle.grammar_model.specs.Ocaml as o
use Rattle.syntax_tree.specs.View.{place_of}
use Rattle.syntax_rows.specs.Numbers.{sort_number}
use Rattle.syntax_rows.specs.View.{way_of, text_of}
use Rattle.syntax_rows.specs.declared.ocaml.Text.{Text}
use Rattle.parse_frames.specs.Frames as frames
use Rattle.grammar_model.specs.Named.{named}
use Rattle.parse_frames.specs.Named.{IsNamed}
use Rattle.parse_frames.specs.Stacks.{stack_view}
use Rattle.frame_steps.specs.Told.{Told, added, skipped, too_deep, cut, told}
use Rattle.frame_steps.specs.Order.{InOrder}
use Rattle.frame_steps.specs.Course.{newest_height, taken_to, depth_of, IsPlaced, course_frames, course_holes}
use Rattle.frame_steps.specs.declared.build.Filled.{Filled}
use Rattle.frame_steps.specs.declared.stack.Stack.{Stack}
use Rattle.frame_steps.specs.declared.stack.Stepped.{Stepped}
use Rattle.frame_steps.specs.declared.stack.SyntaxFault.{SyntaxFault}
use Rattle.frame_steps.specs.declared.stack.SyntaxFault.TheVariants.{Added, Skipped, TooDeep, Cut}
use Rattle.frame_steps.specs.declared.find.Course.{Course}
use Rattle.frame_steps.specs.declared.deep.Taker.{Taker}
use Rattle.frame_steps.specs.declared.rules.Wanted.{Wanted}
use Rattle.frame_steps.specs.declared.rules.Wanted.TheVariants.{Nothing, Token, Operand}

-- what a fault tells
abbrev pub fault_of : SyntaxFault → Told
fault_of (Added p h) = added p h
fault_of (Skipped s) = skipped (place_of s)
fault_of (TooDeep s) = too_deep (place_of s)
fault_of (Cut p) = cut p

-- a course as the number of frames to close and a way
abbrev pub course_view : Course → ℕ × n.Way
course_view c = (c.closed, way_of c.way)

-- the table of a text
abbrev pub text_table : Text → t.Table
text_table text = o.grammar (text_of text)

-- what stands at a spot
abbrev pub IsWanted : Wanted → t.What → Type 0
IsWanted Nothing w = w ≡ t.nothing
IsWanted Token w = (ks : List ℕ) × (w ≡ t.token ks)
IsWanted (Operand s) w = (n : ℕ) × (w ≡ t.operand (sort_number s) n)

-- a stack stands for frames of the machine that are in order, behind a token that ends at this place
pub record Stands (text : Text) (S : machine.Stack) (at : ℕ) (s : frames.Stack) : Type 0 where
  pub named : IsNamed (text_table text) o.row_name S at s
  pub order : InOrder (text_table text) S

-- a stack stands for some frames in order
abbrev pub Standing : Text → frames.Stack → Type 0
Standing text s = (S : machine.Stack) × (at : ℕ) × Stands text S at s

-- the numbers are those of a frame on others
pub record IsTaker (t : Taker) (o : machine.Frame × machine.Stack) : Type 0 where
  pub number : t.number ≡ o.0.number
  pub spot : t.spot ≡ o.0.at
  pub height : t.height ≡ newest_height o.0.done
  pub below : t.below ≡ length o.1

-- the token has its place in the frame that the course leads to, from frames for which the stack stands
pub record HasCourse (text : Text) (c : ℕ × n.Way) (t : Tok) (s : frames.Stack) : Type 0 where
  pub top : machine.Frame
  pub below : machine.Stack
  pub at : ℕ
  pub stands : Stands text (top ∷ below) at s
  pub placed : IsPlaced (text_table text) (course_frames (text_table text) c top below at).0 t c.1.place
  pub enough : c.0 ≤ length below

-- a token that is taken by its course, or is too deep
abbrev pub IsTakenBy : Text → ℕ × n.Way → machine.Frame → machine.Stack → ℕ → Tok → Option Filled → Type 0
IsTakenBy text c f S at t None = 512 < depth_of (text_table text) c f S at (key_of t)
IsTakenBy text c f S at t (Some r) =
    (depth_of (text_table text) c f S at (key_of t) ≤ 512) ×
    IsNamed (text_table text) o.row_name (taken_to (text_table text) c.1.place (course_frames (text_table text) c f S at).0 (course_frames (text_table text) c f S at).1 t) t.end (stack_view r.frames) ×
    (r.holes ≡ course_holes (text_table text) c f S at)

-- the same stack, with a fault
pub record IsLeftOut (s : Stack) (fault : SyntaxFault) (r : Stepped) : Type 0 where
  pub same : r.stack.text ≡ s.text
  pub frames : stack_view r.stack.frames ≡ stack_view s.frames
  pub told : r.fault ≡ Some fault

-- a step of the code is a step of the machine
pub record StepsTo (text : Text) (x : recovery.Stepped) (r : Stepped) : Type 0 where
  pub same : r.stack.text ≡ text
  pub named : IsNamed (text_table text) o.row_name x.stack x.place (stack_view r.stack.frames)
  pub fault : option_map fault_of r.fault ≡ option_map told x.fault

-- the outermost frame with its missing parts, all others closed, and how many parts are missing
pub record IsWhole (text : Text) (f : machine.Frame) (S : machine.Stack) (at : ℕ) (r : Filled) : Type 0 where
  pub node : frames.node_of (o.row_name (stack_view r.frames).top.number) (stack_view r.frames).top ≡ named o.row_name (recovery.closed_up (text_table text) f S at).0
  pub holes : r.holes ≡ (recovery.closed_up (text_table text) f S at).1
