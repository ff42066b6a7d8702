-- New types: a variable for what a choice chooses, and types over others.
use Rattle.std.proofs.Common.{ℕ, zero, suc, ◌<◌, List, [], ◌∷◌, subst, arith, length}
use Rattle.std.specs.Prelude.{All, codes}
use Rattle.type_model.specs.Types.{Path, Typ, types_of}
use Rattle.type_model.specs.Types.{Typ as type}
use Rattle.typing_model.specs.BuiltIns.{list_type}
use Rattle.typing_model.specs.Contexts.{Choice}
use Rattle.type_nodes.specs.Nodes.{Node, Var, Arrow, Tuple, Con, IsNode}
use Rattle.type_nodes.specs.Changes.{Makes}
use Rattle.typing_state.specs.declared.parts.Parts.{Parts}
use Rattle.typing_state.specs.Goes.{OnlyStore}
use Rattle.typing_state.specs.Types.{MakesVar, any_scope, list_path}
use Rattle.typing_conditions.specs.Sights.{Sight, Key, value_of, Letters, IsKnownFor}
use Rattle.typing_conditions.specs.Frames.{Frame, Reaches}
use Rattle.typing_conditions.specs.Meanings.{Means, AllMean, none_mean, one_means, types_by}
use Rattle.typing_conditions.specs.Carrying.{Scope, CarriedTo}
use Rattle.typing_conditions.proofs.Nodes.{letter_made, arrow_made, con_made, tuple_made}
use Rattle.typing_steps.specs.States.{sight}
use Rattle.typing_steps.proofs.Seeing.{only_nodes, level_here}

-- `var`: a new variable stands for what a choice chooses, unless that is the type of a name
pub var_made : (a b : Parts) {F : Frame} {scope : Scope} {G : Letters} {n : ℕ} (key : Key) → ((x : Typ) → IsKnownFor key x) → Reaches F (sight a) → MakesVar a b n any_scope → OnlyStore a b →
    CarriedTo F scope (λ c. []) (sight a) G (sight b) ((key, n) ∷ G) (λ ch. value_of ch key) n
var_made a b {n = n} key free r made rest = letter_made {s = a.store.trail} {t = b.store.trail} key free r (subst (λ l. Makes a.store b.store n (Var l any_scope)) (level_here a r) made) (only_nodes a b rest)

-- `arrow`: an arrow over two types
pub arrow_over : (a b : Parts) {F : Frame} {scope : Scope} {G : Letters} {from to : Choice → Typ} {x y n : ℕ} → Means F (sight a) G from x → Means F (sight a) G to y →
    (IsNode a.store.nodes x → IsNode a.store.nodes y → Makes a.store b.store n (Arrow x y)) → OnlyStore a b → CarriedTo F scope (λ c. []) (sight a) G (sight b) G (λ ch. type.Arrow (from ch) (to ch)) n
arrow_over a b p q made rest = arrow_made {s = a.store.trail} {t = b.store.trail} p q (made p.open_node.inside q.open_node.inside) (only_nodes a b rest)

one_more : (nodes : List Node) (m : ℕ) (ms : List ℕ) → m < length nodes → All (IsNode nodes) ms → All (IsNode nodes) (m ∷ ms)
one_more nodes m ms h hs zero d lt = h
one_more nodes m ms h hs (suc k) d lt = hs k d (omega arith)

-- nodes that have types are nodes of the store
pub all_nodes : {F : Frame} {a : Sight} {G : Letters} {types : List (Choice → Typ)} {ms : List ℕ} → AllMean F a G types ms → All (IsNode a.nodes) ms
all_nodes none_mean = λ k d lt. absurd (omega arith)
all_nodes {a = a} (one_means {m = m} {ms = ms} h hs) = one_more a.nodes m ms h.open_node.inside (all_nodes hs)

-- `tuple`: a tuple of types
pub tuple_over : (a b : Parts) {F : Frame} {scope : Scope} {G : Letters} {types : List (Choice → Typ)} {ms : List ℕ} {n : ℕ} → Reaches F (sight a) → AllMean F (sight a) G types ms →
    (All (IsNode a.store.nodes) ms → Makes a.store b.store n (Tuple ms)) → OnlyStore a b → CarriedTo F scope (λ c. []) (sight a) G (sight b) G (λ ch. type.Tuple (types_of (types_by ch types))) n
tuple_over a b r p made rest = tuple_made {s = a.store.trail} {t = b.store.trail} r p (made (all_nodes p)) (only_nodes a b rest)

-- `con`: a type constructor with its arguments
pub con_over : (a b : Parts) {F : Frame} {scope : Scope} {G : Letters} {args : List (Choice → Typ)} {ms : List ℕ} {n : ℕ} (path : Path) (name : List ℕ) → Reaches F (sight a) → AllMean F (sight a) G args ms →
    (All (IsNode a.store.nodes) ms → Makes a.store b.store n (Con path name ms)) → OnlyStore a b → CarriedTo F scope (λ c. []) (sight a) G (sight b) G (λ ch. type.Con path (types_of (types_by ch args))) n
con_over a b path name r p made rest = con_made {s = a.store.trail} {t = b.store.trail} path name r p (made (all_nodes p)) (only_nodes a b rest)

-- `list`: the type of lists of a type
pub list_over : (a b : Parts) {F : Frame} {scope : Scope} {G : Letters} {element : Choice → Typ} {m n : ℕ} → Means F (sight a) G element m →
    (IsNode a.store.nodes m → Makes a.store b.store n (Con list_path (codes "list") (m ∷ []))) → OnlyStore a b → CarriedTo F scope (λ c. []) (sight a) G (sight b) G (λ ch. list_type (element ch)) n
list_over a b p made rest = con_made {s = a.store.trail} {t = b.store.trail} list_path (codes "list") p.open_node.reached (one_means p none_mean) (made p.open_node.inside) (only_nodes a b rest)
