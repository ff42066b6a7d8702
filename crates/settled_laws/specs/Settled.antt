-- The items of a text that no token behind can change.
use Rattle.std.specs.Prelude.{◌≡◌, ℕ, List, [], ◌∷◌, ◌++◌, map, reverse, Option, Some, None}
use Rattle.token_model.specs.Kinds.{Tok}
use Rattle.tree_model.specs.Trees as plain
use Rattle.grammar_model.specs.Trees.{Tree, Part, taken, inner, missing}
use Rattle.grammar_model.specs.Tables.{Table}
use Rattle.grammar_model.specs.Machine.{Frame, frame, Stack}
use Rattle.grammar_model.specs.Named.{named, items_of}
use Rattle.grammar_model.specs.Ocaml.{Text, grammar, row_name}
use Rattle.recovery_model.specs.Items.{Mark, sound, held, marked, Item, Parser}
use Rattle.recovery_model.specs.Recovery.{step, start, recover}

-- the node of a part, if it is one
abbrev pub inner_in : Part → List Tree
inner_in (taken t) = []
inner_in (inner t) = t ∷ []
inner_in (missing place) = []

-- the nodes among parts, the newest first
abbrev pub inners : List (ℕ × Part) → List Tree
inners [] = []
inners (d ∷ ds) = inner_in d.1 ++ inners ds

-- the outermost of a frame and those below it
abbrev pub outermost : Frame → Stack → Frame
outermost f [] = f
outermost f (g ∷ S) = outermost g S

-- the outermost frame
abbrev pub outer : Stack → Frame
outer [] = frame 0 0 []
outer (f ∷ S) = outermost f S

-- the frames to which an item of which this is known may go back, or the present ones
abbrev pub back_to : Stack → Mark → Stack
back_to S sound = S
back_to S (held q ts) = q.stack
back_to S marked = S

-- the same where an item may be open
abbrev pub back_by : Stack → Option Item → Stack
back_by S None = S
back_by S (Some i) = back_to S i.mark

-- the frames of which no token behind undoes anything
abbrev pub kept_frames : Parser → Stack
kept_frames p = back_by p.state.stack p.item

-- the settled items: the nodes among the outermost of these frames' parts, in order
abbrev pub settled : Parser → List plain.Tree
settled p = map (named row_name) (reverse (inners (outer (kept_frames p)).done))

-- the parser behind tokens that follow
abbrev pub behind_all : Table → List Tok → Parser → Parser
behind_all G [] p = p
behind_all G (t ∷ ts) p = behind_all G ts (step G p t).parser

-- the items that are settled behind the first tokens of a text
unfoldable pub settled_in : Text → List Tok → List plain.Tree
settled_in text ts = settled (behind_all (grammar text) ts (start (grammar text)))

-- the items of a text of these tokens
abbrev pub trees_in : Text → List Tok → List plain.Tree
trees_in text ts = items_of (named row_name (recover (grammar text) ts).0)

-- a list begins with another
abbrev pub Begins : List plain.Tree → List plain.Tree → Type 0
Begins xs ys = (zs : List plain.Tree) × (ys ≡ xs ++ zs)
