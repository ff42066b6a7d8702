-- The pieces of a text that is still to be written, the next one first.
use Rattle.std.specs.Prelude.{ℕ, ◌+◌, ◌<◌, List, [], ◌∷◌, ◌++◌, map, reverse, length, codes, Option, Some, None}
use Rattle.type_nodes.specs.Nodes.{Node, Var, Rigid, Link, Arrow, Tuple, Con}
use Rattle.type_nodes.specs.Links.{reading}
use Rattle.type_print_model.specs.Printing as model
use Rattle.type_print.specs.declared.pieces.Within.{Within}
use Rattle.type_print.specs.declared.pieces.Within.TheVariants as within
use Rattle.type_print.specs.declared.pieces.Sign.{Sign}
use Rattle.type_print.specs.declared.pieces.Sign.TheVariants as sign
use Rattle.type_print.specs.declared.pieces.Piece.{Piece}
use Rattle.type_print.specs.declared.pieces.Piece.TheVariants as piece
use Rattle.type_print.specs.declared.pieces.Pieces.{Pieces}
use Rattle.type_print.specs.Shown.{shown, weight}

-- a type that stands somewhere, the name of a constructor, or some bytes
pub data Part : Type 0 where
  a_type : ℕ → model.Within → Part
  a_head : ℕ → Part
  a_text : List ℕ → Part

-- where a type stands, in the model
abbrev pub within_of : Within → model.Within
within_of within.Alone = model.alone
within_of within.LeftOfArrow = model.left_of_arrow
within_of within.Inner = model.inner

-- the text of a sign
abbrev pub text_of_sign : Sign → List ℕ
text_of_sign sign.Open = codes "("
text_of_sign sign.Close = codes ")"
text_of_sign sign.Arrow = codes " -> "
text_of_sign sign.Star = codes " * "
text_of_sign sign.Comma = codes ", "
text_of_sign sign.Blank = codes " "

-- a piece of the code
abbrev pub part_of : Piece → Part
part_of (piece.Type n w) = a_type n.0 (within_of w)
part_of (piece.Head n) = a_head n.0
part_of (piece.Sign s) = a_text (text_of_sign s)

-- the pieces that are left, the next one first
abbrev pub parts_of : Pieces → List Part
parts_of p = reverse (map part_of p.list.items)

-- types behind others, each behind a text
abbrev pub rest_parts : model.Within → List ℕ → List ℕ → List Part
rest_parts w between [] = []
rest_parts w between (n ∷ ns) = a_text between ∷ a_type n w ∷ rest_parts w between ns

-- types with a text between them
abbrev pub list_parts : model.Within → List ℕ → List ℕ → List Part
list_parts w between [] = []
list_parts w between (n ∷ ns) = a_type n w ∷ rest_parts w between ns

-- an arrow without parentheses: its left side, the sign and its right side
abbrev pub arrow_alone : ℕ → ℕ → List Part → List Part
arrow_alone a b rest = a_type a model.left_of_arrow ∷ a_text (codes " -> ") ∷ a_type b model.alone ∷ rest

-- an arrow in its place
abbrev pub arrow_parts : model.Within → ℕ → ℕ → List Part → List Part
arrow_parts model.alone a b rest = arrow_alone a b rest
arrow_parts model.left_of_arrow a b rest = a_text (codes "(") ∷ arrow_alone a b (a_text (codes ")") ∷ rest)
arrow_parts model.inner a b rest = a_text (codes "(") ∷ arrow_alone a b (a_text (codes ")") ∷ rest)

-- a tuple in its place
abbrev pub tuple_parts : model.Within → List ℕ → List Part → List Part
tuple_parts model.alone ns rest = list_parts model.inner (codes " * ") ns ++ rest
tuple_parts model.left_of_arrow ns rest = list_parts model.inner (codes " * ") ns ++ rest
tuple_parts model.inner ns rest = a_text (codes "(") ∷ list_parts model.inner (codes " * ") ns ++ a_text (codes ")") ∷ rest

-- the arguments of a constructor, in front of its name
abbrev pub argument_parts : List ℕ → List Part → List Part
argument_parts [] rest = rest
argument_parts (n ∷ []) rest = a_type n model.inner ∷ a_text (codes " ") ∷ rest
argument_parts (n ∷ m ∷ ns) rest = a_text (codes "(") ∷ list_parts model.alone (codes ", ") (n ∷ m ∷ ns) ++ a_text (codes ")") ∷ a_text (codes " ") ∷ rest

-- what a type's text is made of, in front of what is left
abbrev pub opened_node : ℕ → model.Within → Option Node → List Part → List Part
opened_node n w None rest = rest
opened_node n w (Some (Var level scope)) rest = rest
opened_node n w (Some Rigid) rest = rest
opened_node n w (Some (Link m)) rest = rest
opened_node n w (Some (Arrow a b)) rest = arrow_parts w a b rest
opened_node n w (Some (Tuple ms)) rest = tuple_parts w ms rest
opened_node n w (Some (Con path name ms)) rest = argument_parts ms (a_head n ∷ rest)

-- the pieces that stand in place of a piece, in front of what is left
abbrev pub opened : List Node → Part → List Part → List Part
opened nodes (a_type n w) rest = opened_node n w (reading nodes n) rest
opened nodes (a_head n) rest = rest
opened nodes (a_text s) rest = rest

-- the nodes that stand in a piece
abbrev pub IsPart : List Node → Part → Type 0
IsPart nodes (a_type n w) = n < length nodes
IsPart nodes (a_head n) = n < length nodes
IsPart nodes (a_text s) = Unit {0}

-- the same of several pieces
abbrev pub AreParts : List Node → List Part → Type 0
AreParts nodes [] = Unit {0}
AreParts nodes (p ∷ ps) = IsPart nodes p × AreParts nodes ps

-- what is left to do for a piece
abbrev pub part_weight : List Node → Part → ℕ
part_weight nodes (a_type n w) = weight (shown nodes n)
part_weight nodes (a_head n) = 1
part_weight nodes (a_text s) = 1

-- what is left to do for pieces
abbrev pub parts_weight : List Node → List Part → ℕ
parts_weight nodes [] = 0
parts_weight nodes (p ∷ ps) = part_weight nodes p + parts_weight nodes ps
