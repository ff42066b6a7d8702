-- What a change puts in the place of an origin, as the code tells it.
use Rattle.std.proofs.Common.{◌≡◌, ℕ, ◌+◌, ◌<◌, Bool, true, false, List, [], ◌∷◌, ◌++◌, length, map, take, get_or, Option, Some, None, refl, sym, ◌∙◌, ap, subst}
use Rattle.std.specs.Prelude.{if◌then◌else◌, option_map}
use Rattle.std.proofs.lemmas.List.{take_more}
use Rattle.type_model.specs.Types.{Path}
use Rattle.type_model.specs.Origins.{same_path}
use Rattle.type_terms.specs.Views.{path_of}
use Rattle.type_terms.specs.declared.types.Origin.{Origin}
use Rattle.type_terms.specs.declared.types.NodeRef.{NodeRef}
use Rattle.signature_model.specs.Changes.{among}
use Rattle.type_nodes.specs.Readings.{Types}
use Rattle.type_reading.specs.declared.changes.Real.{Real}
use Rattle.type_reading.specs.declared.changes.Changes.{Changes}
use Rattle.type_reading.specs.declared.changes.Put.{Put}
use Rattle.type_reading.specs.declared.changes.Put.TheVariants as put
use Rattle.type_reading.specs.Copying.{declared, paths_of, real_or, put_of, real_at, change_by}
use Rattle.sig_template.specs.Changed.{path_after, origin_after}
use Rattle.sig_template.specs.Realising.{real_of}

-- what is put there is no type
abbrev pub IsOther : Put → Type 0
IsOther put.Itself = Unit {0}
IsOther (put.Path n) = Unit {0}
IsOther (put.Type n a) = ⊥

type_after : (other : Put) (V : Types) (o p : Path) (rs : List Real) (n : NodeRef) (a : ℕ) → IsOther other → real_or other o rs ≡ put.Type n a → path_after p (real_at V o rs) ≡ None
type_after other V o p [] n a is = λ e. absurd (subst IsOther e is)
type_after other V o p (r ∷ rs) n a is =
    elim (same_path o r.origin.path.items) as (λ t. (if t then put.Type r.root r.arity else real_or other o rs) ≡ put.Type n a → path_after p (if t then Some (declared r.arity (V r.root.0)) else real_at V o rs) ≡ None) [
      | true ↦ λ e. refl
      | false ↦ type_after other V o p rs n a is
    ]

other_after : (other : Put) (V : Types) (o p : Path) (rs : List Real) → IsOther (real_or other o rs) → path_after p (real_at V o rs) ≡ Some p
other_after other V o p [] = λ is. refl
other_after other V o p (r ∷ rs) =
    elim (same_path o r.origin.path.items) as (λ t. IsOther (if t then put.Type r.root r.arity else real_or other o rs) → path_after p (if t then Some (declared r.arity (V r.root.0)) else real_at V o rs) ≡ Some p) [
      | true ↦ λ is. absurd is
      | false ↦ other_after other V o p rs
    ]

real_there : (other : Put) (o : Path) (rs : List Real) (n : NodeRef) (a : ℕ) → IsOther other → real_or other o rs ≡ put.Type n a → (x : Real) × (real_of o rs ≡ Some x)
real_there other o [] n a is = λ e. absurd (subst IsOther e is)
real_there other o (r ∷ rs) n a is =
    elim (same_path o r.origin.path.items) as (λ t. (if t then put.Type r.root r.arity else real_or other o rs) ≡ put.Type n a → (x : Real) × ((if t then Some r else real_of o rs) ≡ Some x)) [
      | true ↦ λ e. (r, refl)
      | false ↦ real_there other o rs n a is
    ]

no_type : (t : Bool) (n : ℕ) → IsOther (if t then put.Path n else put.Itself)
no_type true n = tt
no_type false n = tt

-- where a type is put, a declaration makes no origin
pub type_put : (c : Changes) (made : Option Origin) (o : Origin) (n : NodeRef) (a : ℕ) → made ≡ Some o → put_of c (path_of o) ≡ put.Type n a → (V : Types) → None ≡ origin_after (change_by c V) (option_map path_of made)
type_put c made o n a is here V = sym (ap (λ (x : Option Origin). origin_after (change_by c V) (option_map path_of x)) is ∙
    type_after (if among (path_of o) (paths_of c.made.items) then put.Path c.number else put.Itself) V (path_of o) ((change_by c V).path (path_of o)) c.real.items n a (no_type (among (path_of o) (paths_of c.made.items)) c.number) here)

-- and there is a type for the origin
pub has_real : (c : Changes) (o : Path) (n : NodeRef) (a : ℕ) → put_of c o ≡ put.Type n a → (x : Real) × (real_of o c.real.items ≡ Some x)
has_real c o n a = real_there (if among o (paths_of c.made.items) then put.Path c.number else put.Itself) o c.real.items n a (no_type (among o (paths_of c.made.items)) c.number)

-- elsewhere it makes the one of the path after the change
pub other_put : (c : Changes) (made : Option Origin) (o new : Origin) → made ≡ Some o → IsOther (put_of c (path_of o)) → ((V : Types) → path_of new ≡ (change_by c V).path (path_of o)) →
    (V : Types) → Some (path_of new) ≡ origin_after (change_by c V) (option_map path_of made)
other_put c made o new is other moved V = ap (λ (p : Path). Some p) (moved V) ∙
    sym (ap (λ (x : Option Origin). origin_after (change_by c V) (option_map path_of x)) is ∙
    other_after (if among (path_of o) (paths_of c.made.items) then put.Path c.number else put.Itself) V (path_of o) ((change_by c V).path (path_of o)) c.real.items other)

paths_more : (os : List Origin) (o : Origin) → paths_of (os ++ o ∷ []) ≡ paths_of os ++ path_of o ∷ []
paths_more [] o = refl
paths_more (x ∷ os) o = ap (λ (ps : List Path). path_of x ∷ ps) (paths_more os o)

map_more : (f : Path → Path) (ps : List Path) (p : Path) → map f (ps ++ p ∷ []) ≡ map f ps ++ f p ∷ []
map_more f [] p = refl
map_more f (q ∷ ps) p = ap (λ (qs : List Path). f q ∷ qs) (map_more f ps p)

-- one path more after a change
pub moved_more : (f : Path → Path) (xs ys zs : List Origin) (i : ℕ) (x y : Origin) → i < length xs → x ≡ get_or xs i x → zs ≡ ys ++ y ∷ [] → path_of y ≡ f (path_of x) → paths_of ys ≡ map f (paths_of (take i xs)) →
    paths_of zs ≡ map f (paths_of (take (i + 1) xs))
moved_more f xs ys zs i x y lt at is moved before =
    let left : paths_of zs ≡ paths_of ys ++ path_of y ∷ [] = ap paths_of is ∙ paths_more ys y in
    let all : paths_of (take (i + 1) xs) ≡ paths_of (take i xs) ++ path_of x ∷ [] = ap paths_of (take_more xs i x lt ∙ ap (λ (z : Origin). take i xs ++ z ∷ []) (sym at)) ∙ paths_more (take i xs) x in
    let right : map f (paths_of (take (i + 1) xs)) ≡ map f (paths_of (take i xs)) ++ f (path_of x) ∷ [] = ap (map f) all ∙ map_more f (paths_of (take i xs)) (path_of x) in
    left ∙ ap (λ (ps : List Path). ps ++ path_of y ∷ []) before ∙ ap (λ (p : Path). map f (paths_of (take i xs)) ++ p ∷ []) moved ∙ sym right
