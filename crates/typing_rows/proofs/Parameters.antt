-- The parameters with which the root of an abbreviation begins, and their arguments.
use Rattle.std.proofs.Common.{◌≡◌, ◌∙◌, ◌++◌, ℕ, zero, suc, ◌+◌, ◌<◌, Bool, true, false, List, [], ◌∷◌, length, map, refl, ap, arith}
use Rattle.type_model.specs.Types.{Typ, Typs, types_of, occurs, occurs_any}
use Rattle.type_model.specs.Types.{Typ as type, Typs as types}
use Rattle.type_model.specs.Substitutions.{Subst, apply, apply_all}
use Rattle.type_model.proofs.Applying.{eqb_same, or_left, or_right}
use Rattle.signature_model.specs.Declarations.{parameters_from}
use Rattle.typing_model.specs.Contexts.{Choice}
use Rattle.type_nodes.specs.Readings.{Types}
use Rattle.level_unify.specs.Solutions.{Loose}
use Rattle.typing_conditions.specs.Declared.{and_last}
use Rattle.typing_conditions.specs.Sights.{Sight, Letters, Agrees}
use Rattle.typing_conditions.specs.Frames.{Frame}
use Rattle.typing_conditions.specs.Meanings.{AllMean, one_means}
use Rattle.typing_steps.proofs.Covering.{and_more}
use Rattle.typing_rows.specs.TypeContracts.{types_at}
use Rattle.typing_rows.proofs.Declared.{node_at}

-- whether a name is a parameter
abbrev pub is_parameter : Typ → Bool
is_parameter (type.Var k) = true
is_parameter (type.Arrow x y) = false
is_parameter (type.Tuple ts) = false
is_parameter (type.Con o ts) = false

-- types with one more behind them are types with others behind them
pub last_is_more : (ts : Typs) (t : Typ) → and_last ts t ≡ and_more ts (types.Cons t types.Nil)
last_is_more types.Nil t = refl
last_is_more (types.Cons u us) t = ap (types.Cons u) (last_is_more us t)

-- A parameter at a place is the name of the variable that stands there, whose type is that of the node there.
pub parameter_at : (N V : Types) (u : Subst) (us : Typs) (j k : ℕ) (further : Typs) (ps more : List ℕ) → apply_all N us ≡ and_more (parameters_from j k) further → types_of (map V (ps ++ more)) ≡ apply_all u us → length ps ≡ k → (i : ℕ) → i < k →
    (v : ℕ) × (occurs_any v us ≡ true) × (N v ≡ type.Var (j + i)) × (V (node_at ps i) ≡ u v)
parameter_at N V u us j zero further ps more e listed many i lt = absurd (omega arith)
parameter_at N V u us j (suc k) further [] more e listed many i lt = absurd (cc)
parameter_at N V u types.Nil j (suc k) further (p ∷ ps) more e listed many i lt = absurd (cc)
parameter_at N V u (types.Cons t us) j (suc k) further (p ∷ ps) more e listed many zero lt = by t (let h : types.Cons (apply N t) (apply_all N us) ≡ types.Cons (type.Var j) (and_more (parameters_from (j + 1) k) further) = e in let g : apply N t ≡ type.Var j = cc in g) (let h : types.Cons (V p) (types_of (map V (ps ++ more))) ≡ types.Cons (apply u t) (apply_all u us) = listed in let g : V p ≡ apply u t = cc in g)
  where
    by : (z : Typ) → apply N z ≡ type.Var j → V p ≡ apply u z → (v : ℕ) × (occurs_any v (types.Cons z us) ≡ true) × (N v ≡ type.Var (j + 0)) × (V p ≡ u v)
    by (type.Var v) is has = (v, or_left (occurs v (type.Var v)) (occurs_any v us) (eqb_same v), is ∙ ap (λ z. type.Var z) (let h : j ≡ j + 0 = omega arith in h), has)
    by (type.Arrow x y) is has = absurd (let h : type.Arrow (apply N x) (apply N y) ≡ type.Var j = is in cc)
    by (type.Tuple ts) is has = absurd (let h : type.Tuple (apply_all N ts) ≡ type.Var j = is in cc)
    by (type.Con o ts) is has = absurd (let h : type.Con o (apply_all N ts) ≡ type.Var j = is in cc)
parameter_at N V u (types.Cons t us) j (suc k) further (p ∷ ps) more e listed many (suc i) lt =
    let h : types.Cons (apply N t) (apply_all N us) ≡ types.Cons (type.Var j) (and_more (parameters_from (j + 1) k) further) = e in
    let f : types.Cons (V p) (types_of (map V (ps ++ more))) ≡ types.Cons (apply u t) (apply_all u us) = listed in
    let (v, o, is, has) = parameter_at N V u us (j + 1) k further ps more (let g : apply_all N us ≡ and_more (parameters_from (j + 1) k) further = cc in g) (let g : types_of (map V (ps ++ more)) ≡ apply_all u us = cc in g) (let g : length ps ≡ k = cc in g) i (omega arith) in
    (v, or_right (occurs v t) (occurs_any v us) o, is ∙ ap (λ z. type.Var z) (let g : j + 1 + i ≡ j + suc i = omega arith in g), has)

-- the choice has for a node the type of its argument
pub argument_means : {F : Frame} {b : Sight} {G : Letters} (ns ms : List ℕ) → AllMean F b G (types_at ns) ms → (k : ℕ) → k < length ns → (V : Types) (ch : Choice) → Loose b.nodes V → Agrees F.owner b G V ch → ch.type_at (node_at ns k) ≡ V (node_at ms k)
argument_means [] ms all k lt V ch loose g = absurd (omega arith)
argument_means {F} {b} {G} (n ∷ ns) [] all k lt V ch loose g = elim all [ ]
argument_means (n ∷ ns) (m ∷ ms) (one_means h hs) zero lt V ch loose g = h.is V ch loose g
argument_means (n ∷ ns) (m ∷ ms) (one_means h hs) (suc k) lt V ch loose g = argument_means ns ms hs k (omega arith) V ch loose g

-- nodes of one type each have it at a place
pub same_there : (V : Types) (ps qs : List ℕ) → map V ps ≡ map V qs → (k : ℕ) → k < length ps → V (node_at ps k) ≡ V (node_at qs k)
same_there V [] qs e k lt = absurd (omega arith)
same_there V (p ∷ ps) [] e k lt = absurd (cc)
same_there V (p ∷ ps) (q ∷ qs) e zero lt = let f : V p ≡ V q = cc in f
same_there V (p ∷ ps) (q ∷ qs) e (suc k) lt = same_there V ps qs (let f : map V ps ≡ map V qs = cc in f) k (omega arith)
