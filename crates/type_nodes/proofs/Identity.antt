-- Sound nodes have a most general reading, in which each variable is itself, and what fits comes from it by one substitution.
use Rattle.std.proofs.Common.{◌≡◌, ◌≢◌, ℕ, zero, suc, ◌<◌, Bool, true, false, eqb, List, [], ◌∷◌, map, get_or, Option, Some, None, refl, sym, ◌∙◌, ap, subst, arith}
use Rattle.std.specs.Prelude.{slice_get, All}
use Rattle.std.proofs.lemmas.Bool.{eqb-true}
use Rattle.type_model.specs.Types.{Typ, Cons, types_of, occurs}
use Rattle.type_model.specs.Types.{Typ as type}
use Rattle.type_model.specs.Substitutions.{apply, apply_all}
use Rattle.type_model.specs.Origins.{rigid}
use Rattle.type_model.specs.Limits.{IsInScope}
use Rattle.type_nodes.specs.Nodes.{Node, Var, Rigid, Link, Arrow, Tuple, Con, parts, bound_level, IsRanked}
use Rattle.type_nodes.specs.Readings.{Types, FitsNode, Fits, IsReading}
use Rattle.type_nodes.proofs.Lists.{one_element}
use Rattle.type_nodes.proofs.Roots.{of_link}

-- a node's type, where its parts have the types that `below` gives
abbrev pub built_from : Types → ℕ → Option Node → Typ
built_from below n None = type.Var n
built_from below n (Some (Var level scope)) = type.Var n
built_from below n (Some Rigid) = rigid n
built_from below n (Some (Link m)) = below m
built_from below n (Some (Arrow a b)) = type.Arrow (below a) (below b)
built_from below n (Some (Tuple ms)) = type.Tuple (types_of (map below ms))
built_from below n (Some (Con path name ms)) = type.Con path (types_of (map below ms))

-- the type that is read from a node in k steps
abbrev pub read_in : ℕ → List Node → Types
read_in zero nodes n = type.Var n
read_in (suc k) nodes n = built_from (read_in k nodes) n (slice_get nodes n)

-- functions that agree on a list's members map it alike
pub map_agree : (P Q : Types) (ms : List ℕ) → All (λ m. P m ≡ Q m) ms → map P ms ≡ map Q ms
map_agree P Q [] h = refl
map_agree P Q (m ∷ ms) h =
    let first : P m ≡ Q m = h zero zero (omega arith) in
    let rest = map_agree P Q ms (λ k d lt. h (suc k) d (omega arith)) in
    cc

-- what is built from parts depends on them alone
pub built_same : (P Q : Types) (n : ℕ) (c : Node) → All (λ m. P m ≡ Q m) (parts c) → built_from P n (Some c) ≡ built_from Q n (Some c)
built_same P Q n (Var level scope) h = refl
built_same P Q n Rigid h = refl
built_same P Q n (Link m) h = of_link (λ k. P k ≡ Q k) m h
built_same P Q n (Arrow a b) h = let p : P a ≡ Q a = h zero zero (omega arith) in let q : P b ≡ Q b = h 1 zero (omega arith) in cc
built_same P Q n (Tuple ms) h = ap (λ ts. type.Tuple (types_of ts)) (map_agree P Q ms h)
built_same P Q n (Con path name ms) h = ap (λ ts. type.Con path (types_of ts)) (map_agree P Q ms h)

built_option_same : (P Q : Types) (n : ℕ) (o : Option Node) → ((c : Node) → o ≡ Some c → All (λ m. P m ≡ Q m) (parts c)) → built_from P n o ≡ built_from Q n o
built_option_same P Q n None h = refl
built_option_same P Q n (Some c) h = built_same P Q n c (h c refl)

-- more steps than a node's rank read the same
pub read_same : (nodes : List Node) (rank : ℕ → ℕ) → IsRanked nodes rank →
    (k k' n : ℕ) → rank n < k → rank n < k' → read_in k nodes n ≡ read_in k' nodes n
read_same nodes rank ranked zero k' n h h' = absurd (omega arith)
read_same nodes rank ranked (suc k) zero n h h' = absurd (omega arith)
read_same nodes rank ranked (suc k) (suc k') n h h' =
    built_option_same (read_in k nodes) (read_in k' nodes) n (slice_get nodes n)
    (λ c e j d lt.
    let down = ranked.each n c e j d lt in let low = down.1 in
    read_same nodes rank ranked k k' (get_or (parts c) j d) (omega arith) (omega arith))

-- the most general reading
abbrev pub identity : (ℕ → ℕ) → List Node → Types
identity rank nodes n = read_in (suc (rank n)) nodes n

-- in it each node is built from its parts
pub identity_built : (nodes : List Node) (rank : ℕ → ℕ) → IsRanked nodes rank → (n : ℕ) (c : Node) → slice_get nodes n ≡ Some c →
    identity rank nodes n ≡ built_from (identity rank nodes) n (Some c)
identity_built nodes rank ranked n c e =
    ap (built_from (read_in (rank n) nodes) n) e
    ∙ built_same (read_in (rank n) nodes) (identity rank nodes) n c
    (λ j d lt. let down = ranked.each n c e j d lt in let low = down.1 in
    read_same nodes rank ranked (rank n) (suc (rank (get_or (parts c) j d))) (get_or (parts c) j d) low (omega arith))

pub identity_fits : (nodes : List Node) (rank : ℕ → ℕ) → IsRanked nodes rank → Fits nodes (identity rank nodes)
identity_fits nodes rank ranked = record { each = λ n c e. at n c (identity_built nodes rank ranked n c e) }
  where
    at : (n : ℕ) (c : Node) → identity rank nodes n ≡ built_from (identity rank nodes) n (Some c) → FitsNode (identity rank nodes) n c
    at n (Var level scope) e = λ free. subst (IsInScope scope) (sym e) tt
    at n Rigid e = e
    at n (Link m) e = e
    at n (Arrow a b) e = e
    at n (Tuple ms) e = e
    at n (Con path name ms) e = e

level_same : (level scope scope' : ℕ) → Var level scope ≡ Var bound_level scope' → level ≡ bound_level
level_same level scope scope' e = cc

-- it is a reading
pub identity_reads : (nodes : List Node) (rank : ℕ → ℕ) → IsRanked nodes rank → IsReading nodes (identity rank nodes)
identity_reads nodes rank ranked = record {
  fits = identity_fits nodes rank ranked;
  own = λ n scope e. identity_built nodes rank ranked n (Var bound_level scope) e;
  apart = λ n level scope b scope' e free e'.
      let v : identity rank nodes n ≡ type.Var n = identity_built nodes rank ranked n (Var level scope) e in
      ap (occurs b) v ∙ other n level scope b scope' e free e' (eqb b n) refl;
}
  where
    other : (n level scope b scope' : ℕ) → slice_get nodes n ≡ Some (Var level scope) → level ≢ bound_level → slice_get nodes b ≡ Some (Var bound_level scope') →
        (t : Bool) → eqb b n ≡ t → eqb b n ≡ false
    other n level scope b scope' e free e' false h = h
    other n level scope b scope' e free e' true h =
        let same : b ≡ n = eqb-true b n h in
        let f : Var level scope ≡ Var bound_level scope' = one_element (Var level scope) (Var bound_level scope') (slice_get nodes n) e (subst (λ k. slice_get nodes k ≡ Some (Var bound_level scope')) same e') in
        absurd (free (level_same level scope scope' f))

-- the types of parts that come by a substitution
pub parts_apply : (V P : Types) (ms : List ℕ) → All (λ m. V m ≡ apply V (P m)) ms → types_of (map V ms) ≡ apply_all V (types_of (map P ms))
parts_apply V P [] h = refl
parts_apply V P (m ∷ ms) h =
    let first : V m ≡ apply V (P m) = h zero zero (omega arith) in
    let rest = parts_apply V P ms (λ k d lt. h (suc k) d (omega arith)) in
    (λ i. Cons (first i) (rest i))

-- a node's type comes by a substitution from what is built of parts, where its parts' types do
pub built_apply : (V P : Types) (n : ℕ) (c : Node) → FitsNode V n c → All (λ m. V m ≡ apply V (P m)) (parts c) → V n ≡ apply V (built_from P n (Some c))
built_apply V P n (Var level scope) fits h = refl
built_apply V P n Rigid fits h = fits
built_apply V P n (Link m) fits h = fits ∙ of_link (λ k. V k ≡ apply V (P k)) m h
built_apply V P n (Arrow a b) fits h =
    let p : V a ≡ apply V (P a) = h zero zero (omega arith) in let q : V b ≡ apply V (P b) = h 1 zero (omega arith) in
    fits ∙ (λ i. type.Arrow (p i) (q i))
built_apply V P n (Tuple ms) fits h = fits ∙ ap type.Tuple (parts_apply V P ms h)
built_apply V P n (Con path name ms) fits h = fits ∙ ap (type.Con path) (parts_apply V P ms h)

built_option_apply : (V P : Types) (n : ℕ) (o : Option Node) → ((c : Node) → o ≡ Some c → FitsNode V n c × All (λ m. V m ≡ apply V (P m)) (parts c)) → V n ≡ apply V (built_from P n o)
built_option_apply V P n None h = refl
built_option_apply V P n (Some c) h = built_apply V P n c (h c refl).0 (h c refl).1

-- what fits comes from the most general reading by the substitution of its types for the variables
pub read_determines : (nodes : List Node) (V : Types) → Fits nodes V → (k n : ℕ) → V n ≡ apply V (read_in k nodes n)
read_determines nodes V fits zero n = refl
read_determines nodes V fits (suc k) n =
    built_option_apply V (read_in k nodes) n (slice_get nodes n) (λ c e. (fits.each n c e, λ j d lt. read_determines nodes V fits k (get_or (parts c) j d)))

pub identity_determines : (nodes : List Node) (rank : ℕ → ℕ) (V : Types) → Fits nodes V → (n : ℕ) → V n ≡ apply V (identity rank nodes n)
identity_determines nodes rank V fits n = read_determines nodes V fits (suc (rank n)) n
