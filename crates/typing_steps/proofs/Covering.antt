-- Whether each variable of an arrow's right side stands in its left one, as it does in the root of a label of a type of its own.
use Rattle.std.proofs.Common.{◌≡◌, ◌∙◌, inl, inr, ℕ, zero, suc, ◌+◌, ◌<◌, Bool, true, false, ◌&&◌, List, refl, sym, ap, arith}
use Rattle.std.proofs.lemmas.Bool.{eqb-true}
use Rattle.type_model.specs.Types.{Path, Typ, Typs, occurs, occurs_any}
use Rattle.type_model.specs.Types.{Typ as type, Typs as types}
use Rattle.type_model.specs.Substitutions.{apply, apply_all}
use Rattle.type_model.proofs.Applying.{or_left, or_right, or_cases, eqb_same}
use Rattle.typing_laws.proofs.Bools.{no_yes, and_cases, and_both}
use Rattle.signature_model.specs.Declarations.{parameters_from}
use Rattle.type_nodes.specs.Nodes.{Node}
use Rattle.type_nodes.specs.Readings.{Types}
use Rattle.typing_conditions.specs.Locals.{IsOwn}
use Rattle.typing_conditions.specs.Declared.{IsNamed, a_parameter, an_unknown, NoneUnknown, RootAs}
use Rattle.typing_steps.proofs.Images.{arrow_inside}

-- whether each variable of a type stands in another
abbrev mutual
  pub all_in : Typ → Typ → Bool
  all_in p (type.Var v) = occurs v p
  all_in p (type.Arrow a b) = all_in p a && all_in p b
  all_in p (type.Tuple ts) = all_in_each p ts
  all_in p (type.Con o ts) = all_in_each p ts

  -- the same of several types
  pub all_in_each : Typ → Typs → Bool
  all_in_each p types.Nil = true
  all_in_each p (types.Cons t ts) = all_in p t && all_in_each p ts

-- whether each variable of an arrow's right side stands in its left one
abbrev pub side_covers : Typ → Bool
side_covers (type.Var v) = false
side_covers (type.Arrow p q) = all_in p q
side_covers (type.Tuple ts) = false
side_covers (type.Con o ts) = false

mutual
  pub in_all : (p t : Typ) → all_in p t ≡ true → (v : ℕ) → occurs v t ≡ true → occurs v p ≡ true
  in_all p (type.Var w) h v o = ap (λ x. occurs x p) (eqb-true v w o) ∙ h
  in_all p (type.Arrow a b) h v o = let (f, g) = and_cases (all_in p a) (all_in p b) h in elim (or_cases (occurs v a) (occurs v b) o) [ inl i ↦ in_all p a f v i | inr i ↦ in_all p b g v i ]
  in_all p (type.Tuple ts) h v o = in_all_each p ts h v o
  in_all p (type.Con c ts) h v o = in_all_each p ts h v o

  in_all_each : (p : Typ) (ts : Typs) → all_in_each p ts ≡ true → (v : ℕ) → occurs_any v ts ≡ true → occurs v p ≡ true
  in_all_each p types.Nil h v o = absurd (no_yes o)
  in_all_each p (types.Cons t ts) h v o = let (f, g) = and_cases (all_in p t) (all_in_each p ts) h in elim (or_cases (occurs v t) (occurs_any v ts) o) [ inl i ↦ in_all p t f v i | inr i ↦ in_all_each p ts g v i ]

mutual
  -- it does where each that stands in the one stands in the other
  all_there : (p t : Typ) → ((v : ℕ) → occurs v t ≡ true → occurs v p ≡ true) → all_in p t ≡ true
  all_there p (type.Var w) h = h w (eqb_same w)
  all_there p (type.Arrow a b) h = and_both (all_in p a) (all_in p b) (all_there p a (λ v o. h v (or_left (occurs v a) (occurs v b) o))) (all_there p b (λ v o. h v (or_right (occurs v a) (occurs v b) o)))
  all_there p (type.Tuple ts) h = all_there_each p ts h
  all_there p (type.Con c ts) h = all_there_each p ts h

  all_there_each : (p : Typ) (ts : Typs) → ((v : ℕ) → occurs_any v ts ≡ true → occurs v p ≡ true) → all_in_each p ts ≡ true
  all_there_each p types.Nil h = refl
  all_there_each p (types.Cons t ts) h = and_both (all_in p t) (all_in_each p ts) (all_there p t (λ v o. h v (or_left (occurs v t) (occurs_any v ts) o))) (all_there_each p ts (λ v o. h v (or_right (occurs v t) (occurs_any v ts) o)))

-- types with others behind them
abbrev pub and_more : Typs → Typs → Typs
and_more types.Nil us = us
and_more (types.Cons t ts) us = types.Cons t (and_more ts us)

and_none : (ts : Typs) → and_more ts types.Nil ≡ ts
and_none types.Nil = refl
and_none (types.Cons t ts) = ap (types.Cons t) (and_none ts)

-- what a name makes a parameter is the variable that has it as its name
a_variable : (N : Types) (u : Typ) (j : ℕ) → apply N u ≡ type.Var j → (v : ℕ) × (occurs v u ≡ true) × (N v ≡ type.Var j)
a_variable N (type.Var v) j e = (v, eqb_same v, e)
a_variable N (type.Arrow a b) j e = absurd (let h : type.Arrow (apply N a) (apply N b) ≡ type.Var j = e in cc)
a_variable N (type.Tuple ts) j e = absurd (let h : type.Tuple (apply_all N ts) ≡ type.Var j = e in cc)
a_variable N (type.Con o ts) j e = absurd (let h : type.Con o (apply_all N ts) ≡ type.Var j = e in cc)

-- each of the parameters with which types begin by their names is the name of a variable in them
pub parameter_there : (N : Types) (us : Typs) (j k : ℕ) (further : Typs) → apply_all N us ≡ and_more (parameters_from j k) further → (i : ℕ) → i < k → (v : ℕ) × (occurs_any v us ≡ true) × (N v ≡ type.Var (j + i))
parameter_there N us j zero further e i lt = absurd (omega arith)
parameter_there N types.Nil j (suc k) further e i lt = absurd (cc)
parameter_there N (types.Cons u us) j (suc k) further e zero lt =
    let (v, o, is) = a_variable N u j (let h : types.Cons (apply N u) (apply_all N us) ≡ types.Cons (type.Var j) (and_more (parameters_from (j + 1) k) further) = e in cc) in
    (v, or_left (occurs v u) (occurs_any v us) o, is ∙ ap (λ z. type.Var z) (let h : j ≡ j + 0 = omega arith in h))
parameter_there N (types.Cons u us) j (suc k) further e (suc i) lt =
    let h : types.Cons (apply N u) (apply_all N us) ≡ types.Cons (type.Var j) (and_more (parameters_from (j + 1) k) further) = e in
    let (v, o, is) = parameter_there N us (j + 1) k further (let g : apply_all N us ≡ and_more (parameters_from (j + 1) k) further = cc in g) i (omega arith) in
    (v, or_right (occurs v u) (occurs_any v us) o, is ∙ ap (λ z. type.Var z) (let g : j + 1 + i ≡ j + suc i = omega arith in g))

-- Where the left side is a constructor over all parameters, and no name is an unknown type, each variable of the right side stands in it.
pub root_covers : {nodes : List Node} {I N : Types} {C : List ℕ} {arity r : ℕ} {t : Typ} (o : Path) (y : Typ) → NoneUnknown N → t ≡ type.Arrow (type.Con o (parameters_from 0 arity)) y → RootAs nodes C N arity r t → IsOwn nodes I → side_covers (I r) ≡ true
root_covers {nodes} {I} {N} {C} {arity} {r} {t} o y plain e root owned = ap side_covers inside ∙ by p left (λ v h. ap (occurs v) inside ∙ or_left (occurs v p) (occurs v q) h)
  where
    sides : (p : Typ) × (q : Typ) × (I r ≡ type.Arrow p q)
    sides = arrow_inside (type.Con o (parameters_from 0 arity)) y e root owned

    p : Typ
    p = sides.0

    q : Typ
    q = sides.1

    inside : I r ≡ type.Arrow p q
    inside = sides.2

    left : apply N p ≡ type.Con o (parameters_from 0 arity)
    left = let h : type.Arrow (type.Con o (parameters_from 0 arity)) y ≡ type.Arrow (apply N p) (apply N q) = sym e ∙ root.is I owned ∙ ap (apply N) inside in cc

    by : (z : Typ) → apply N z ≡ type.Con o (parameters_from 0 arity) → ((v : ℕ) → occurs v z ≡ true → occurs v (I r) ≡ true) → all_in z q ≡ true
    by (type.Var v) is stands = absurd (named (root.named I owned v (stands v (eqb_same v))))
      where
        named : IsNamed nodes N arity v → ⊥
        named (a_parameter scope k at other lt name) = let h : type.Var k ≡ type.Con o (parameters_from 0 arity) = sym name ∙ is in cc
        named (an_unknown c at u name) = plain v c u name
    by (type.Arrow a b) is stands = absurd (let h : type.Arrow (apply N a) (apply N b) ≡ type.Con o (parameters_from 0 arity) = is in cc)
    by (type.Tuple ts) is stands = absurd (let h : type.Tuple (apply_all N ts) ≡ type.Con o (parameters_from 0 arity) = is in cc)
    by (type.Con c us) is stands = all_there (type.Con c us) q each
      where
        listed : apply_all N us ≡ and_more (parameters_from 0 arity) types.Nil
        listed = (let h : type.Con c (apply_all N us) ≡ type.Con o (parameters_from 0 arity) = is in let g : apply_all N us ≡ parameters_from 0 arity = cc in g) ∙ sym (and_none (parameters_from 0 arity))

        each : (w : ℕ) → occurs w q ≡ true → occurs_any w us ≡ true
        each w h = named (root.named I owned w (there w h))
          where
            there : (w : ℕ) → occurs w q ≡ true → occurs w (I r) ≡ true
            there w h = ap (occurs w) inside ∙ or_right (occurs w p) (occurs w q) h

            named : IsNamed nodes N arity w → occurs_any w us ≡ true
            named (a_parameter scope k at other lt name) =
                let (v, stands_in, is_named) = parameter_there N us 0 arity types.Nil listed k lt in
                let same : v ≡ w = root.apart I owned v w (stands v stands_in) (there w h) (is_named ∙ ap (λ z. type.Var z) (let g : 0 + k ≡ k = omega arith in g) ∙ sym name) in
                ap (λ z. occurs_any z us) (sym same) ∙ stands_in
            named (an_unknown c at u name) = absurd (plain w c u name)
