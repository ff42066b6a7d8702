-- Trees as lists, by which they are told apart.
use Rattle.std.specs.Prelude.{◌≡◌, ℕ, List, [], ◌∷◌, ◌++◌, refl}
use Rattle.std.specs.Coded.{Coded, code_by, coded×, coded_list}
use Rattle.std.proofs.Common.{ap, ◌∙◌}
use Rattle.token_model.specs.Kinds.{Tok}
use Rattle.tree_model.specs.Rows.{Row}
use Rattle.tree_model.specs.Trees.{Place, Extent, Tree, node, Forest, no_parts, part, Part, taken, inner, missing}

-- what is done to lists of parts, the last one on top: one is begun, a part is put in front of one, or one is closed to a node and put in front of the one below
pub data Act : Type 0 where
  begin : Act
  take_token : ℕ → Tok → Act
  miss : ℕ → Place → Act
  close : ℕ → Row → Extent → Act

abbrev pub done : Act → List Forest → List Forest
done begin fs = no_parts ∷ fs
done (take_token slot t) [] = []
done (take_token slot t) (f ∷ fs) = part slot (taken t) f ∷ fs
done (miss slot p) [] = []
done (miss slot p) (f ∷ fs) = part slot (missing p) f ∷ fs
done (close slot r x) [] = []
done (close slot r x) (ps ∷ []) = []
done (close slot r x) (ps ∷ f ∷ fs) = part slot (inner (node r x ps)) f ∷ fs

abbrev pub all_done : List Act → List Forest → List Forest
all_done [] fs = fs
all_done (a ∷ acts) fs = all_done acts (done a fs)

abbrev pub first_of : List Forest → Forest
first_of [] = no_parts
first_of (f ∷ fs) = f

-- by what acts a list of parts is made
abbrev mutual
  pub acts_of : Forest → List Act
  acts_of no_parts = begin ∷ []
  acts_of (part slot p f) = acts_of f ++ part_acts slot p

  pub part_acts : ℕ → Part → List Act
  part_acts slot (taken t) = take_token slot t ∷ []
  part_acts slot (missing p) = miss slot p ∷ []
  part_acts slot (inner t) = node_acts slot t

  pub node_acts : ℕ → Tree → List Act
  node_acts slot (node r x ps) = acts_of ps ++ close slot r x ∷ []

done_on : (acts more : List Act) (fs : List Forest) → all_done (acts ++ more) fs ≡ all_done more (all_done acts fs)
done_on [] more fs = refl
done_on (a ∷ acts) more fs = done_on acts more (done a fs)

mutual
  made : (f : Forest) (fs : List Forest) → all_done (acts_of f) fs ≡ f ∷ fs
  made no_parts fs = refl
  made (part slot p f) fs = done_on (acts_of f) (part_acts slot p) fs ∙ ap (all_done (part_acts slot p)) (made f fs) ∙ part_made slot p f fs

  part_made : (slot : ℕ) (p : Part) (f : Forest) (fs : List Forest) → all_done (part_acts slot p) (f ∷ fs) ≡ part slot p f ∷ fs
  part_made slot (taken t) f fs = refl
  part_made slot (missing p) f fs = refl
  part_made slot (inner t) f fs = node_made slot t f fs

  node_made : (slot : ℕ) (t : Tree) (f : Forest) (fs : List Forest) → all_done (node_acts slot t) (f ∷ fs) ≡ part slot (inner t) f ∷ fs
  node_made slot (node r x ps) f fs = done_on (acts_of ps) (close slot r x ∷ []) (f ∷ fs) ∙ ap (all_done (close slot r x ∷ [])) (made ps (f ∷ fs))

abbrev pub to_acts : Tree → Row × (Extent × List Act)
to_acts (node r x ps) = (r, (x, acts_of ps))

abbrev pub from_acts : Row × (Extent × List Act) → Tree
from_acts p = node p.0 p.1.0 (first_of (all_done p.1.1 []))

pub from_acts-to_acts : (t : Tree) → from_acts (to_acts t) ≡ t
from_acts-to_acts (node r x ps) = ap (λ fs. node r x (first_of fs)) (made ps [])

-- a tree is stored as its row, its extent and the acts by which its parts are made
abbrev pub tree_code : Coded Row → Coded Extent → Coded Act → Coded Tree
tree_code row extent act = code_by (Row × (Extent × List Act)) (coded× row (coded× extent (coded_list act))) to_acts from_acts from_acts-to_acts
