-- Opening a piece keeps the whole text.
use Rattle.std.proofs.Common.{◌≡◌, ℕ, ◌<◌, List, [], ◌∷◌, ◌++◌, append_assoc, map, length, get_or, codes, Option, Some, None, refl, sym, ◌∙◌, ap}
use Rattle.std.proofs.lemmas.Option.{slice_get-get_or}
use Rattle.type_model.specs.Types.{types_of}
use Rattle.type_model.specs.Types.{Typ as type}
use Rattle.type_nodes.specs.Nodes.{Node, Var, Rigid, Link, Arrow, Tuple, Con, IsSound}
use Rattle.type_nodes.specs.Links.{root, reading}
use Rattle.type_print_model.specs.Printing.{Names, text_of, rest_of, separated, arguments_of}
use Rattle.type_print_model.specs.Printing as model
use Rattle.type_print.specs.Shown.{shown, shown_from}
use Rattle.type_print.specs.Pieces.{Part, a_type, a_head, a_text, opened, opened_node, IsPart, rest_parts, list_parts, argument_parts, tuple_parts, arrow_parts}
use Rattle.type_print.specs.Texts.{parts_text, said, said_node, said_head, head_text}
use Rattle.type_print.proofs.Shown.{shown_reading}
use Rattle.type_print.proofs.Weights.{no_link}
use Rattle.type_nodes.proofs.Roots.{root_inside}

rest_text : (nodes : List Node) (ns : Names) (w : model.Within) (s : List ℕ) (ms : List ℕ) (rest : List Part) → parts_text nodes ns (rest_parts w s ms ++ rest) ≡ rest_of ns w s (types_of (map (shown nodes) ms)) ++ parts_text nodes ns rest
rest_text nodes ns w s [] rest = refl
rest_text nodes ns w s (m ∷ ms) rest = rw (rest_text nodes ns w s ms rest) (simp append_assoc)

list_text : (nodes : List Node) (ns : Names) (w : model.Within) (s : List ℕ) (ms : List ℕ) (rest : List Part) → parts_text nodes ns (list_parts w s ms ++ rest) ≡ separated ns w s (types_of (map (shown nodes) ms)) ++ parts_text nodes ns rest
list_text nodes ns w s [] rest = refl
list_text nodes ns w s (m ∷ ms) rest = rw (rest_text nodes ns w s ms rest) (simp append_assoc)

several : (a b c r : List ℕ) → codes "(" ++ ((a ++ (codes ", " ++ (b ++ c))) ++ (codes ")" ++ (codes " " ++ r))) ≡ (codes "(" ++ a ++ codes ", " ++ b ++ c ++ codes ") ") ++ r
several a b c r = simp append_assoc

argument_text : (nodes : List Node) (ns : Names) (ms : List ℕ) (rest : List Part) → parts_text nodes ns (argument_parts ms rest) ≡ arguments_of ns (types_of (map (shown nodes) ms)) ++ parts_text nodes ns rest
argument_text nodes ns [] rest = refl
argument_text nodes ns (n ∷ []) rest = simp append_assoc
argument_text nodes ns (n ∷ m ∷ ms) rest =
    ap (λ (t : List ℕ). codes "(" ++ t) (list_text nodes ns model.alone (codes ", ") (n ∷ m ∷ ms) (a_text (codes ")") ∷ a_text (codes " ") ∷ rest))
    ∙ several (text_of ns model.alone (shown nodes n)) (text_of ns model.alone (shown nodes m)) (rest_of ns model.alone (codes ", ") (types_of (map (shown nodes) ms))) (parts_text nodes ns rest)

tuple_text : (nodes : List Node) (ns : Names) (w : model.Within) (ms : List ℕ) (rest : List Part) → parts_text nodes ns (tuple_parts w ms rest) ≡ text_of ns w (type.Tuple (types_of (map (shown nodes) ms))) ++ parts_text nodes ns rest
tuple_text nodes ns model.alone ms rest = list_text nodes ns model.inner (codes " * ") ms rest
tuple_text nodes ns model.left_of_arrow ms rest = list_text nodes ns model.inner (codes " * ") ms rest
tuple_text nodes ns model.inner ms rest = rw (list_text nodes ns model.inner (codes " * ") ms (a_text (codes ")") ∷ rest)) (simp append_assoc)

arrow_text : (nodes : List Node) (ns : Names) (w : model.Within) (a b : ℕ) (rest : List Part) → parts_text nodes ns (arrow_parts w a b rest) ≡ text_of ns w (type.Arrow (shown nodes a) (shown nodes b)) ++ parts_text nodes ns rest
arrow_text nodes ns model.alone a b rest = simp append_assoc
arrow_text nodes ns model.left_of_arrow a b rest = simp append_assoc
arrow_text nodes ns model.inner a b rest = simp append_assoc

node_text : (nodes : List Node) (ns : Names) (n r : ℕ) (w : model.Within) (c : Node) (rest : List Part) → shown nodes n ≡ shown_from (shown nodes) r (Some c) → ((m : ℕ) → c ≡ Link m → ⊥) →
    said_node ns r (Some c) ++ parts_text nodes ns (opened_node n w (Some c) rest) ≡ text_of ns w (shown nodes n) ++ parts_text nodes ns rest
node_text nodes ns n r w (Var l o) rest e h = rw e
node_text nodes ns n r w Rigid rest e h = rw e
node_text nodes ns n r w (Link m) rest e h = absurd (h m refl)
node_text nodes ns n r w (Arrow a b) rest e h = rw e (arrow_text nodes ns w a b rest)
node_text nodes ns n r w (Tuple ms) rest e h = rw e (tuple_text nodes ns w ms rest)
node_text nodes ns n r w (Con p name ms) rest e h = argument_text nodes ns ms (a_head n ∷ rest) ∙ rw e (simp append_assoc)

head_said : (nodes : List Node) (ns : Names) (n r : ℕ) (c : Node) → shown nodes n ≡ shown_from (shown nodes) r (Some c) → ((m : ℕ) → c ≡ Link m → ⊥) → said_head ns (Some c) ≡ head_text ns (shown nodes n)
head_said nodes ns n r (Var l o) e h = rw e
head_said nodes ns n r Rigid e h = rw e
head_said nodes ns n r (Link m) e h = absurd (h m refl)
head_said nodes ns n r (Arrow a b) e h = rw e
head_said nodes ns n r (Tuple ms) e h = rw e
head_said nodes ns n r (Con p name ms) e h = rw e

reading_text : (nodes : List Node) (ns : Names) (n : ℕ) (w : model.Within) (o : Option Node) (rest : List Part) → n < length nodes → o ≡ reading nodes n →
    ((c : Node) → reading nodes n ≡ Some c → shown nodes n ≡ shown_from (shown nodes) (root nodes n) (Some c)) → ((m : ℕ) → reading nodes n ≡ Some (Link m) → ⊥) → ((c : Node) × (reading nodes n ≡ Some c)) →
    said_node ns (root nodes n) o ++ parts_text nodes ns (opened_node n w o rest) ≡ text_of ns w (shown nodes n) ++ parts_text nodes ns rest
reading_text nodes ns n w None rest h is e l some = let no : None ≡ Some some.0 = is ∙ some.1 in cc
reading_text nodes ns n w (Some c) rest h is e l some = node_text nodes ns n (root nodes n) w c rest (e c (sym is)) (λ m q. l m (sym is ∙ ap Some q))

reading_head : (nodes : List Node) (ns : Names) (n : ℕ) (o : Option Node) → o ≡ reading nodes n → ((c : Node) → reading nodes n ≡ Some c → shown nodes n ≡ shown_from (shown nodes) (root nodes n) (Some c)) →
    ((m : ℕ) → reading nodes n ≡ Some (Link m) → ⊥) → ((c : Node) × (reading nodes n ≡ Some c)) → said_head ns o ≡ head_text ns (shown nodes n)
reading_head nodes ns n None is e l some = let no : None ≡ Some some.0 = is ∙ some.1 in cc
reading_head nodes ns n (Some c) is e l some = head_said nodes ns n (root nodes n) c (e c (sym is)) (λ m q. l m (sym is ∙ ap Some q))

-- each node reads as something
reads : (nodes : List Node) → IsSound nodes → (n : ℕ) → n < length nodes → (c : Node) × (reading nodes n ≡ Some c)
reads nodes sound n h = (get_or nodes (root nodes n) Rigid, slice_get-get_or nodes (root nodes n) Rigid (root_inside nodes sound n h))

-- what is said at once and what is left are the piece's text
pub opened_text : (nodes : List Node) → IsSound nodes → (ns : Names) (p : Part) (rest : List Part) → IsPart nodes p → said nodes ns p ++ parts_text nodes ns (opened nodes p rest) ≡ parts_text nodes ns (p ∷ rest)
opened_text nodes sound ns (a_type n w) rest h = reading_text nodes ns n w (reading nodes n) rest h refl (λ c e. shown_reading nodes sound n c h e) (λ m e. no_link nodes sound n m h e) (reads nodes sound n h)
opened_text nodes sound ns (a_head n) rest h = ap (λ (t : List ℕ). t ++ parts_text nodes ns rest) (reading_head nodes ns n (reading nodes n) refl (λ c e. shown_reading nodes sound n c h e) (λ m e. no_link nodes sound n m h e) (reads nodes sound n h))
opened_text nodes sound ns (a_text s) rest h = refl
