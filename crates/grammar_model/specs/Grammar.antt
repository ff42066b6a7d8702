-- Well formed, proper and roomy trees.
use Rattle.std.specs.Prelude.{◌≡◌, ℕ, ◌+◌, ◌≤◌, Bool, true, false, List, [], ◌∷◌, ◌⊎◌}
use Rattle.token_model.specs.Kinds.{Tok}
use Rattle.grammar_model.specs.Keys.{key_of}
use Rattle.grammar_model.specs.Trees.{Tree, Forest, Part, node, no_parts, part, taken, inner, missing, row_of, yield_of, part_yield, part_height, holes_of}
use Rattle.grammar_model.specs.Tables.{Table, What, nothing, token, operand, Edge, Last, plain, hole, row, has, allowed, nowhere, at_spot, first_place}

-- what a part that stands in this is as the last one
abbrev pub last_in : What → Part → Last
last_in (operand s n) (inner t) = row (row_of t)
last_in (operand s n) (missing place) = hole
last_in (operand s n) (taken t) = plain
last_in (token ks) c = plain
last_in nothing c = plain

-- the spot is one of the next, behind this last operand
abbrev pub MayCome : List Edge → Last → ℕ → Type 0
MayCome [] last p = ⊥
MayCome (e ∷ es) last p = ((e.spot ≡ p) × (allowed e.behind last ≡ true)) ⊎ MayCome es last p

-- the part may stand at such a spot: a token with one of its keys, an operand of its sort and level, or a missing part
abbrev pub StandsIn : Table → What → Part → Type 0
StandsIn G (token ks) (taken t) = has ks (key_of t) ≡ true
StandsIn G (token ks) (missing place) = Unit {0}
StandsIn G (token ks) (inner t) = ⊥
StandsIn G (operand s n) (inner t) = (G.sort (row_of t) ≡ s) × (n ≤ G.stand (row_of t))
StandsIn G (operand s n) (missing place) = Unit {0}
StandsIn G (operand s n) (taken t) = ⊥
StandsIn G nothing c = ⊥

-- what a left operand is as the last part
abbrev pub left_last : Part → Last
left_last (inner t) = row (row_of t)
left_last (missing place) = hole
left_last (taken t) = plain

-- the first part: the left operand at spot 0, or a spot that the row begins with
abbrev pub BeginsWith : Table → ℕ → Bool → ℕ → Part → Type 0
BeginsWith G r true p c = (p ≡ 0) × (G.left_ok r (left_last c) ≡ true)
BeginsWith G r false p c = MayCome (G.next r 0) plain p × StandsIn G (G.what r p) c

abbrev mutual
  -- a node whose parts are those of its row
  pub WellFormed : Table → Tree → Type 0
  WellFormed G (node r f) = IsFilled G r f

  -- all the parts of a row
  pub IsFilled : Table → ℕ → Forest → Type 0
  IsFilled G r no_parts = (G.has_left r ≡ false) × (G.ends r 0 ≡ true)
  IsFilled G r (part p c f) = BeginsWith G r (G.has_left r) p c × IsPartFormed G c × Follows G r p (last_in (G.what r p) c) f

  -- the parts behind a spot
  pub Follows : Table → ℕ → ℕ → Last → Forest → Type 0
  Follows G r at last no_parts = G.ends r at ≡ true
  Follows G r at last (part p c f) = MayCome (G.next r at) last p × StandsIn G (G.what r p) c × IsPartFormed G c × Follows G r p (last_in (G.what r p) c) f

  -- a part that is well formed, as a token and a missing part are
  pub IsPartFormed : Table → Part → Type 0
  IsPartFormed G (taken t) = Unit {0}
  IsPartFormed G (inner t) = WellFormed G t
  IsPartFormed G (missing place) = Unit {0}

-- no part is left
abbrev pub is_end : Forest → Bool
is_end no_parts = true
is_end (part p c f) = false

-- a condition that is asked only in one case
abbrev pub OnlyIf : Bool → Type 0 → Type 0
OnlyIf true P = P
OnlyIf false P = Unit {0}

-- no node that ends where this tree ends may take the key
abbrev mutual
  pub Free : Table → ℕ → Tree → Type 0
  Free G k (node r f) = NodeFree G k r f

  pub NodeFree : Table → ℕ → ℕ → Forest → Type 0
  NodeFree G k r no_parts = first_place G r 0 plain k ≡ nowhere
  NodeFree G k r (part p c f) = OnlyIf (is_end f) (PartFree G k c × (first_place G r p (last_in (G.what r p) c) k ≡ nowhere)) × ForestFree G k r f

  pub ForestFree : Table → ℕ → ℕ → Forest → Type 0
  ForestFree G k r no_parts = Unit {0}
  ForestFree G k r (part p c f) = OnlyIf (is_end f) (PartFree G k c × (first_place G r p (last_in (G.what r p) c) k ≡ nowhere)) × ForestFree G k r f

  pub PartFree : Table → ℕ → Part → Type 0
  PartFree G k (taken t) = Unit {0}
  PartFree G k (inner t) = Free G k t
  PartFree G k (missing place) = Unit {0}

-- of the first token of a list
abbrev pub Leads : List Tok → (Tok → Type 0) → Type 0
Leads [] P = ⊥
Leads (t ∷ ts) P = P t

-- each token stands at the first place that may take it
abbrev mutual
  pub Proper : Table → Tree → Type 0
  Proper G (node r f) = ProperNode G r (G.has_left r) f

  -- the first token behind a left operand grows it: no node in the operand may take it
  pub ProperNode : Table → ℕ → Bool → Forest → Type 0
  ProperNode G r left no_parts = Unit {0}
  ProperNode G r true (part p c f) = ProperPart G c × Grows G r c f
  ProperNode G r false (part p c f) = ProperPart G c × ProperParts G r p c f

  pub Grows : Table → ℕ → Part → Forest → Type 0
  Grows G r before no_parts = Unit {0}
  Grows G r before (part p c f) = Leads (part_yield c) (λ t. PartFree G (key_of t) before) × ProperPart G c × ProperParts G r p c f

  -- behind the part `before` at the spot `at`
  pub ProperParts : Table → ℕ → ℕ → Part → Forest → Type 0
  ProperParts G r at before no_parts = Unit {0}
  ProperParts G r at before (part p c f) =
      Leads (part_yield c) (λ t. PartFree G (key_of t) before × (first_place G r at (last_in (G.what r at) before) (key_of t) ≡ at_spot p)) × ProperPart G c × ProperParts G r p c f

  pub ProperPart : Table → Part → Type 0
  ProperPart G (taken t) = Unit {0}
  ProperPart G (inner t) = Proper G t
  ProperPart G (missing place) = ⊥

-- the node with this number of frames, its own included, has room, and so have all in it
abbrev mutual
  pub Roomy : Table → ℕ → Tree → Type 0
  Roomy G d (node r f) = RoomyNode G d (G.has_left r) f

  pub RoomyNode : Table → ℕ → Bool → Forest → Type 0
  RoomyNode G d left no_parts = d ≤ 512
  RoomyNode G d true (part p c f) = (d + part_height c ≤ 512) × RoomyPart G d c × RoomyParts G (d + 1) f
  RoomyNode G d false (part p c f) = (d ≤ 512) × RoomyPart G (d + 1) c × RoomyParts G (d + 1) f

  pub RoomyParts : Table → ℕ → Forest → Type 0
  RoomyParts G d no_parts = Unit {0}
  RoomyParts G d (part p c f) = RoomyPart G d c × RoomyParts G d f

  pub RoomyPart : Table → ℕ → Part → Type 0
  RoomyPart G d (taken t) = Unit {0}
  RoomyPart G d (inner t) = Roomy G d t
  RoomyPart G d (missing place) = Unit {0}

-- the tree is in the grammar and has these tokens
pub record InGrammar (G : Table) (ts : List Tok) (T : Tree) : Type 0 where
  pub root : row_of T ≡ G.root
  pub formed : WellFormed G T
  pub proper : Proper G T
  pub roomy : Roomy G 1 T
  pub whole : holes_of T ≡ 0
  pub tokens : yield_of T ≡ ts
