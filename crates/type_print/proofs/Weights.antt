-- Each step leaves less to do, and nodes alone.
use Rattle.std.proofs.Common.{◌≡◌, ℕ, zero, suc, ◌+◌, ◌<◌, ◌≤◌, List, [], ◌∷◌, ◌++◌, map, length, codes, Option, Some, None, refl, arith}
use Rattle.std.specs.Prelude.{All}
use Rattle.type_model.specs.Types.{Typ, types_of}
use Rattle.type_model.specs.Types.{Typ as type}
use Rattle.type_nodes.specs.Nodes.{Node, Var, Rigid, Link, Arrow, Tuple, Con, parts, IsSound}
use Rattle.type_nodes.specs.Links.{root, reading}
use Rattle.type_nodes.proofs.Roots.{root_inside, root_no_link}
use Rattle.type_print_model.specs.Printing as model
use Rattle.type_print.specs.Shown.{shown, shown_from, weight, weights}
use Rattle.type_print.specs.Pieces.{Part, a_type, a_head, a_text, opened, opened_node, IsPart, AreParts, parts_weight, rest_parts, list_parts, argument_parts, tuple_parts, arrow_parts}
use Rattle.type_print.proofs.Shown.{shown_reading}

pub some_weight : (t : Typ) → 0 < weight t
some_weight (type.Var v) = omega arith
some_weight (type.Arrow a b) = omega arith
some_weight (type.Tuple ts) = omega arith
some_weight (type.Con o ts) = omega arith

rest_weight : (nodes : List Node) (w : model.Within) (s : List ℕ) (ms : List ℕ) (rest : List Part) → parts_weight nodes (rest_parts w s ms ++ rest) ≡ weights (types_of (map (shown nodes) ms)) + parts_weight nodes rest
rest_weight nodes w s [] rest = omega arith
rest_weight nodes w s (m ∷ ms) rest = let h = rest_weight nodes w s ms rest in omega arith

list_weight : (nodes : List Node) (w : model.Within) (s : List ℕ) (ms : List ℕ) (rest : List Part) → parts_weight nodes (list_parts w s ms ++ rest) ≤ weights (types_of (map (shown nodes) ms)) + parts_weight nodes rest
list_weight nodes w s [] rest = omega arith
list_weight nodes w s (m ∷ ms) rest = let h = rest_weight nodes w s ms rest in omega arith

argument_weight : (nodes : List Node) (ms : List ℕ) (rest : List Part) → parts_weight nodes (argument_parts ms rest) ≤ weights (types_of (map (shown nodes) ms)) + 3 + parts_weight nodes rest
argument_weight nodes [] rest = omega arith
argument_weight nodes (n ∷ []) rest = omega arith
argument_weight nodes (n ∷ m ∷ ns) rest = let h = list_weight nodes model.alone (codes ", ") (n ∷ m ∷ ns) (a_text (codes ")") ∷ a_text (codes " ") ∷ rest) in omega arith

tuple_weight : (nodes : List Node) (w : model.Within) (ms : List ℕ) (rest : List Part) → parts_weight nodes (tuple_parts w ms rest) ≤ weights (types_of (map (shown nodes) ms)) + 2 + parts_weight nodes rest
tuple_weight nodes model.alone ms rest = let h = list_weight nodes model.inner (codes " * ") ms rest in omega arith
tuple_weight nodes model.left_of_arrow ms rest = let h = list_weight nodes model.inner (codes " * ") ms rest in omega arith
tuple_weight nodes model.inner ms rest = let h = list_weight nodes model.inner (codes " * ") ms (a_text (codes ")") ∷ rest) in omega arith

arrow_weight : (nodes : List Node) (w : model.Within) (a b : ℕ) (rest : List Part) → parts_weight nodes (arrow_parts w a b rest) ≤ weight (shown nodes a) + weight (shown nodes b) + 3 + parts_weight nodes rest
arrow_weight nodes model.alone a b rest = omega arith
arrow_weight nodes model.left_of_arrow a b rest = omega arith
arrow_weight nodes model.inner a b rest = omega arith

node_less : (nodes : List Node) (n r : ℕ) (w : model.Within) (c : Node) (rest : List Part) (t : Typ) → t ≡ shown_from (shown nodes) r (Some c) → parts_weight nodes (opened_node n w (Some c) rest) < weight t + parts_weight nodes rest
node_less nodes n r w (Var l o) rest t e = let h = some_weight t in omega arith
node_less nodes n r w Rigid rest t e = let h = some_weight t in omega arith
node_less nodes n r w (Link m) rest t e = let h = some_weight t in omega arith
node_less nodes n r w (Arrow a b) rest t e = let h = arrow_weight nodes w a b rest in rw e (omega arith)
node_less nodes n r w (Tuple ms) rest t e = let h = tuple_weight nodes w ms rest in rw e (omega arith)
node_less nodes n r w (Con p name ms) rest t e = let h = argument_weight nodes ms (a_head n ∷ rest) in rw e (omega arith)

reading_less : (nodes : List Node) (n : ℕ) (w : model.Within) (o : Option Node) (rest : List Part) → ((c : Node) → o ≡ Some c → shown nodes n ≡ shown_from (shown nodes) (root nodes n) (Some c)) →
    parts_weight nodes (opened_node n w o rest) < weight (shown nodes n) + parts_weight nodes rest
reading_less nodes n w None rest h = let i = some_weight (shown nodes n) in omega arith
reading_less nodes n w (Some c) rest h = node_less nodes n (root nodes n) w c rest (shown nodes n) (h c refl)

-- opening a piece leaves less
pub opened_less : (nodes : List Node) → IsSound nodes → (p : Part) (rest : List Part) → IsPart nodes p → parts_weight nodes (opened nodes p rest) < parts_weight nodes (p ∷ rest)
opened_less nodes sound (a_type n w) rest h = reading_less nodes n w (reading nodes n) rest (λ c e. shown_reading nodes sound n c h e)
opened_less nodes sound (a_head n) rest h = omega arith
opened_less nodes sound (a_text s) rest h = omega arith

rest_inside : (nodes : List Node) (w : model.Within) (s : List ℕ) (ms : List ℕ) (rest : List Part) → All (λ m. m < length nodes) ms → AreParts nodes rest → AreParts nodes (rest_parts w s ms ++ rest)
rest_inside nodes w s [] rest h r = r
rest_inside nodes w s (m ∷ ms) rest h r = (tt, (h zero zero (omega arith), rest_inside nodes w s ms rest (λ k d lt. h (suc k) d (omega arith)) r))

list_inside : (nodes : List Node) (w : model.Within) (s : List ℕ) (ms : List ℕ) (rest : List Part) → All (λ m. m < length nodes) ms → AreParts nodes rest → AreParts nodes (list_parts w s ms ++ rest)
list_inside nodes w s [] rest h r = r
list_inside nodes w s (m ∷ ms) rest h r = (h zero zero (omega arith), rest_inside nodes w s ms rest (λ k d lt. h (suc k) d (omega arith)) r)

argument_inside : (nodes : List Node) (ms : List ℕ) (rest : List Part) → All (λ m. m < length nodes) ms → AreParts nodes rest → AreParts nodes (argument_parts ms rest)
argument_inside nodes [] rest h r = r
argument_inside nodes (n ∷ []) rest h r = (h zero zero (omega arith), (tt, r))
argument_inside nodes (n ∷ m ∷ ns) rest h r = (tt, list_inside nodes model.alone (codes ", ") (n ∷ m ∷ ns) (a_text (codes ")") ∷ a_text (codes " ") ∷ rest) h (tt, (tt, r)))

tuple_inside : (nodes : List Node) (w : model.Within) (ms : List ℕ) (rest : List Part) → All (λ m. m < length nodes) ms → AreParts nodes rest → AreParts nodes (tuple_parts w ms rest)
tuple_inside nodes model.alone ms rest h r = list_inside nodes model.inner (codes " * ") ms rest h r
tuple_inside nodes model.left_of_arrow ms rest h r = list_inside nodes model.inner (codes " * ") ms rest h r
tuple_inside nodes model.inner ms rest h r = (tt, list_inside nodes model.inner (codes " * ") ms (a_text (codes ")") ∷ rest) h (tt, r))

arrow_inside : (nodes : List Node) (w : model.Within) (a b : ℕ) (rest : List Part) → a < length nodes → b < length nodes → AreParts nodes rest → AreParts nodes (arrow_parts w a b rest)
arrow_inside nodes model.alone a b rest p q r = (p, (tt, (q, r)))
arrow_inside nodes model.left_of_arrow a b rest p q r = (tt, (p, (tt, (q, (tt, r)))))
arrow_inside nodes model.inner a b rest p q r = (tt, (p, (tt, (q, (tt, r)))))

node_inside : (nodes : List Node) (n : ℕ) (w : model.Within) (c : Node) (rest : List Part) → n < length nodes → All (λ m. m < length nodes) (parts c) → AreParts nodes rest → AreParts nodes (opened_node n w (Some c) rest)
node_inside nodes n w (Var l o) rest h i r = r
node_inside nodes n w Rigid rest h i r = r
node_inside nodes n w (Link m) rest h i r = r
node_inside nodes n w (Arrow a b) rest h i r = arrow_inside nodes w a b rest (i zero zero (omega arith)) (i 1 zero (omega arith)) r
node_inside nodes n w (Tuple ms) rest h i r = tuple_inside nodes w ms rest i r
node_inside nodes n w (Con p name ms) rest h i r = argument_inside nodes ms (a_head n ∷ rest) i (h, r)

-- the parts of what a node reads as are nodes
pub parts_inside : (nodes : List Node) → IsSound nodes → (n : ℕ) (c : Node) → reading nodes n ≡ Some c → All (λ m. m < length nodes) (parts c)
parts_inside nodes sound n c e k d lt = (sound.1.each (root nodes n) c e k d lt).0

reading_inside : (nodes : List Node) (n : ℕ) (w : model.Within) (o : Option Node) (rest : List Part) → n < length nodes → ((c : Node) → o ≡ Some c → All (λ m. m < length nodes) (parts c)) → AreParts nodes rest →
    AreParts nodes (opened_node n w o rest)
reading_inside nodes n w None rest h i r = r
reading_inside nodes n w (Some c) rest h i r = node_inside nodes n w c rest h (i c refl) r

pub opened_inside : (nodes : List Node) → IsSound nodes → (p : Part) (rest : List Part) → AreParts nodes (p ∷ rest) → AreParts nodes (opened nodes p rest)
opened_inside nodes sound (a_type n w) rest (h, r) = reading_inside nodes n w (reading nodes n) rest h (λ c e. parts_inside nodes sound n c e) r
opened_inside nodes sound (a_head n) rest (h, r) = r
opened_inside nodes sound (a_text s) rest (h, r) = r

pub no_link : (nodes : List Node) → IsSound nodes → (n m : ℕ) → n < length nodes → reading nodes n ≡ Some (Link m) → ⊥
no_link nodes sound n m h e = root_no_link nodes sound n (Link m) h e

pub root_node : (nodes : List Node) (n r : ℕ) → IsSound nodes → n < length nodes → r ≡ root nodes n → r < length nodes
root_node nodes n r sound h e = rw e (root_inside nodes sound n h)
