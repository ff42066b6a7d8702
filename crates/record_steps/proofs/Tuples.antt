-- A root over parameters is a tuple whose last part is the declaration's type: an instance of it reads so, and its last part has the type of the use.
use Rattle.std.proofs.Common.{◌≡◌, ◌∙◌, ℕ, zero, suc, ◌-◌, ◌<◌, true, false, List, [], ◌∷◌, length, map, get_or, Some, refl, sym, ap, subst, arith}
use Rattle.std.specs.Prelude.{slice_get}
use Rattle.std.proofs.lemmas.Option.{slice_get_within}
use Rattle.type_model.specs.Types.{Path, Typ, Typs, types_of, occurs, occurs_any}
use Rattle.type_model.specs.Types.{Typ as type, Typs as types}
use Rattle.type_model.specs.Substitutions.{Subst, apply, apply_all}
use Rattle.type_model.proofs.Applying.{or_left, or_right, eqb_same}
use Rattle.signature_model.specs.Declarations.{parameters_from}
use Rattle.signature_model.specs.Matching.{used, all_used}
use Rattle.typing_model.specs.Contexts.{Choice}
use Rattle.type_nodes.specs.Nodes.{Node, Var, Rigid, Link, Arrow, Tuple, Con, IsSound}
use Rattle.type_nodes.specs.Links.{root, reading}
use Rattle.type_nodes.specs.Readings.{Types}
use Rattle.type_nodes.proofs.Roots.{closed_root, root_inside, root_no_link}
use Rattle.level_unify.specs.Solutions.{Loose, FitsLoosely}
use Rattle.level_unify.specs.Instances.{Instantiated}
use Rattle.level_unify.proofs.Solving.{loose_root}
use Rattle.level_unify.proofs.Steps.{cell_at}
use Rattle.typing_conditions.specs.Locals.{IsOwn}
use Rattle.typing_conditions.proofs.Own.{own_of}
use Rattle.typing_conditions.specs.Declared.{IsNamed, a_parameter, an_unknown, RootAs, and_last, with_parameters}
use Rattle.typing_conditions.proofs.Roots.{named_bound}
use Rattle.typing_conditions.proofs.Taking.{images_of}
use Rattle.typing_conditions.specs.Sights.{Sight, Letters}
use Rattle.typing_conditions.specs.Frames.{Frame, IsOpen}
use Rattle.typing_conditions.specs.Meanings.{Means}
use Rattle.record_steps.specs.Recording.{IsLast}
use Rattle.record_steps.proofs.Uses.{IsPartOf}

-- a node that reads as a tuple has the tuple of its parts' types
tuple_is : (nodes : List Node) (V : Types) (m : ℕ) (ms : List ℕ) → Loose nodes V → reading nodes m ≡ Some (Tuple ms) → V m ≡ type.Tuple (types_of (map V ms))
tuple_is nodes V m ms loose e = loose_root nodes V loose m ∙ loose.each (root nodes m) (Tuple ms) e

-- a node whose own type is a tuple reads as one
reads_tuple : (nodes : List Node) (K : Types) (m : ℕ) (ts : Typs) → IsSound nodes → IsOwn nodes K → m < length nodes → K m ≡ type.Tuple ts → (ms : List ℕ) × (reading nodes m ≡ Some (Tuple ms))
reads_tuple nodes K m ts sound own lt is = by cell.0 cell.1 (own.loose.each (root nodes m) cell.0 cell.1)
  where
    cell : (c : Node) × (slice_get nodes (root nodes m) ≡ Some c)
    cell = cell_at nodes (root nodes m) (root_inside nodes sound m lt)

    at_root : K (root nodes m) ≡ type.Tuple ts
    at_root = sym (loose_root nodes K own.loose m) ∙ is

    by : (c : Node) → slice_get nodes (root nodes m) ≡ Some c → FitsLoosely K (root nodes m) c → (ms : List ℕ) × (reading nodes m ≡ Some (Tuple ms))
    by (Var l o) e h = absurd (let f : type.Var (root nodes m) ≡ type.Tuple ts = sym (own.vars (root nodes m) l o e) ∙ at_root in cc)
    by Rigid e h = absurd (let f = sym h ∙ at_root in cc)
    by (Link k) e h = absurd (root_no_link nodes sound m (Link k) lt e)
    by (Arrow x y) e h = absurd (let f = sym h ∙ at_root in cc)
    by (Tuple ms) e h = (ms, e)
    by (Con p name ms) e h = absurd (let f = sym h ∙ at_root in cc)

at_place : (ms : List ℕ) (k z : ℕ) → slice_get ms k ≡ Some z → get_or ms k z ≡ z
at_place [] k z e = absurd (cc)
at_place (m ∷ ms) zero z e = let f : m ≡ z = cc in f
at_place (m ∷ ms) (suc k) z e = at_place ms k z e

stands_among : (K : Types) (v z : ℕ) (ms : List ℕ) (k : ℕ) → slice_get ms k ≡ Some z → occurs v (K z) ≡ true → occurs_any v (types_of (map K ms)) ≡ true
stands_among K v z [] k e o = absurd (cc)
stands_among K v z (m ∷ ms) zero e o = let f : m ≡ z = cc in or_left (occurs v (K m)) (occurs_any v (types_of (map K ms))) (ap (λ x. occurs v (K x)) f ∙ o)
stands_among K v z (m ∷ ms) (suc k) e o = or_right (occurs v (K m)) (occurs_any v (types_of (map K ms))) (stands_among K v z ms k e o)

-- a row may unify the parts of a tuple where it may unify the tuple
part_open : {F : Frame} {b : Sight} {m : ℕ} {ms : List ℕ} → IsOpen F b m → reading b.nodes m ≡ Some (Tuple ms) → (k z : ℕ) → slice_get ms k ≡ Some z → IsOpen F b z
part_open {F} {b} {m} {ms} o e k z at = record {
  reached = o.reached;
  inside = let (rank, ranked) = o.reached.sound in subst (λ n. n < length b.nodes) (at_place ms k z at) (ranked.each (root b.nodes m) (Tuple ms) e k z (slice_get_within ms k z at)).0;
  within = record {
    each = λ S region.
        let own = own_of b.nodes o.reached.sound in
        let closed = (o.reached.local own.0 own.1).closed S region in
        subst (λ n. S n ≡ true) (at_place ms k z at) (closed.each (root b.nodes m) (Tuple ms) (closed_root b.nodes S closed m (o.within.each S region)) e k z (slice_get_within ms k z at));
  };
  free = λ K own v h. o.free K own v (ap (occurs v) (tuple_is b.nodes K m ms own.loose e) ∙ stands_among K v z ms k at h);
}

-- it is the one at the last place
pub last_at : (ms : List ℕ) (z : ℕ) → slice_get ms (length ms - 1) ≡ Some z → IsLast ms z
last_at [] z e = absurd (cc)
last_at (m ∷ []) z e = let f : m ≡ z = cc in f
last_at (m ∷ k ∷ ms) z e = last_at (k ∷ ms) z (ap (slice_get (m ∷ k ∷ ms)) (let f : suc (length (k ∷ ms) - 1) ≡ length (m ∷ k ∷ ms) - 1 = omega arith in f) ∙ e)

last_place : (ms : List ℕ) (z : ℕ) → IsLast ms z → (k : ℕ) × (slice_get ms k ≡ Some z)
last_place [] z h = absurd h
last_place (m ∷ []) z h = (0, ap (λ x. Some x) h)
last_place (m ∷ k ∷ ms) z h = let (i, e) = last_place (k ∷ ms) z h in (suc i, e)

-- a list that isn't empty has one
has_last : (m : ℕ) (ms : List ℕ) → (z : ℕ) × IsLast (m ∷ ms) z
has_last m [] = (m, refl)
has_last m (k ∷ ms) = has_last k ms

never_none : (us : Typs) (t : Typ) → and_last us t ≡ types.Nil → ⊥
never_none types.Nil t e = cc
never_none (types.Cons u us) t e = cc

-- its type is the last one
last_type : (V : Types) (us : Typs) (t : Typ) (ms : List ℕ) (z : ℕ) → and_last us t ≡ types_of (map V ms) → IsLast ms z → t ≡ V z
last_type V us t [] z e h = absurd h
last_type V types.Nil t (m ∷ []) z e h = let f : t ≡ V m = cc in f ∙ ap V h
last_type V types.Nil t (m ∷ k ∷ ms) z e h = absurd (cc)
last_type V (types.Cons u us) t (m ∷ []) z e h = absurd (never_none us t (let f : and_last us t ≡ types.Nil = cc in f))
last_type V (types.Cons u us) t (m ∷ k ∷ ms) z e h = last_type V us t (k ∷ ms) z (let f : and_last us t ≡ types_of (map V (k ∷ ms)) = cc in f) h

-- the last part of a node whose type is a tuple has the last of its types
pub last_means : {F : Frame} {b : Sight} {G : Letters} {m z : ℕ} {body : Choice → Typ} (front : Choice → Typs) (ms : List ℕ) → Means F b G (λ ch. type.Tuple (and_last (front ch) (body ch))) m → reading b.nodes m ≡ Some (Tuple ms) → IsLast ms z → Means F b G body z
last_means {b = b} {m = m} {z = z} {body = t} front ms p e last = record {
  open_node = let (k, at) = last_place ms z last in part_open p.open_node e k z at;
  is = λ V ch loose g.
      let f : type.Tuple (and_last (front ch) (t ch)) ≡ type.Tuple (types_of (map V ms)) = p.is V ch loose g ∙ tuple_is b.nodes V m ms loose e in
      last_type V (front ch) (t ch) ms z (let h : and_last (front ch) (t ch) ≡ types_of (map V ms) = cc in h) last;
}

-- the uses of types with one more behind them
last_used : (s : Subst) (f : Path → Typ) (us : Typs) (t : Typ) → all_used s f (and_last us t) ≡ and_last (all_used s f us) (used s f t)
last_used s f types.Nil t = refl
last_used s f (types.Cons u us) t = ap (types.Cons (used s f u)) (last_used s f us t)

-- the use of what a root over parameters stands for
pub tuple_used : (s : Subst) (f : Path → Typ) (k : ℕ) (t : Typ) → used s f (with_parameters (suc k) t) ≡ type.Tuple (and_last (all_used s f (parameters_from 0 (suc k))) (used s f t))
tuple_used s f k t = ap type.Tuple (last_used s f (parameters_from 0 (suc k)) t)

-- what becomes a tuple by names is one
tuple_inside : {nodes : List Node} {I N : Types} {C : List ℕ} {arity r : ℕ} {t : Typ} (ts : Typs) → t ≡ type.Tuple ts → RootAs nodes C N arity r t → IsOwn nodes I → (us : Typs) × (I r ≡ type.Tuple us) × (apply_all N us ≡ ts)
tuple_inside {nodes} {I} {N} {C} {arity} {r} {t} ts e root_as owned = by (I r) refl
  where
    by : (z : Typ) → I r ≡ z → (us : Typs) × (I r ≡ type.Tuple us) × (apply_all N us ≡ ts)
    by (type.Var v) f = absurd (named (root_as.named I owned v (ap (occurs v) f ∙ eqb_same v)))
      where
        name_is : N v ≡ type.Tuple ts
        name_is = sym (root_as.is I owned ∙ ap (apply N) f) ∙ e

        named : IsNamed nodes N arity v → ⊥
        named (a_parameter scope k at other lt is) = let h : type.Var k ≡ type.Tuple ts = sym is ∙ name_is in cc
        named (an_unknown o at u is) = let h : type.Con o types.Nil ≡ type.Tuple ts = sym is ∙ name_is in cc
    by (type.Arrow p q) f = absurd (let h : type.Arrow (apply N p) (apply N q) ≡ type.Tuple ts = sym (root_as.is I owned ∙ ap (apply N) f) ∙ e in cc)
    by (type.Tuple us) f = (us, f, let h : type.Tuple (apply_all N us) ≡ type.Tuple ts = sym (root_as.is I owned ∙ ap (apply N) f) ∙ e in cc)
    by (type.Con o us) f = absurd (let h : type.Con o (apply_all N us) ≡ type.Tuple ts = sym (root_as.is I owned ∙ ap (apply N) f) ∙ e in cc)

-- the part of a tuple at the last place, by its named type
record HasLastPart (N : Types) (us : Typs) (t : Typ) : Type 0 where
  front : Typs
  last : Typ
  is : us ≡ and_last front last
  named : apply N last ≡ t

last_part : (N : Types) (us front : Typs) (t : Typ) → apply_all N us ≡ and_last front t → HasLastPart N us t
last_part N types.Nil front t e = absurd (never_none front t (sym e))
last_part N (types.Cons u types.Nil) types.Nil t e = record { front = types.Nil; last = u; is = refl; named = (let h : types.Cons (apply N u) types.Nil ≡ types.Cons t types.Nil = e in cc) }
last_part N (types.Cons u types.Nil) (types.Cons x xs) t e = absurd (never_none xs t (let h : types.Cons (apply N u) types.Nil ≡ types.Cons x (and_last xs t) = e in let g : types.Nil ≡ and_last xs t = cc in sym g))
last_part N (types.Cons u (types.Cons v us)) types.Nil t e = absurd (let h : types.Cons (apply N u) (types.Cons (apply N v) (apply_all N us)) ≡ types.Cons t types.Nil = e in cc)
last_part N (types.Cons u (types.Cons v us)) (types.Cons x xs) t e =
    let h : types.Cons (apply N u) (types.Cons (apply N v) (apply_all N us)) ≡ types.Cons x (and_last xs t) = e in
    let g : apply_all N (types.Cons v us) ≡ and_last xs t = cc in
    let p = last_part N (types.Cons v us) xs t g in
    record { front = types.Cons u p.front; last = p.last; is = ap (types.Cons u) p.is; named = p.named }

put_last : (s : Subst) (us : Typs) (t : Typ) → apply_all s (and_last us t) ≡ and_last (apply_all s us) (apply s t)
put_last s types.Nil t = refl
put_last s (types.Cons u us) t = ap (types.Cons (apply s u)) (put_last s us t)

stands_last : (v : ℕ) (us : Typs) (t : Typ) → occurs v t ≡ true → occurs_any v (and_last us t) ≡ true
stands_last v types.Nil t o = or_left (occurs v t) false o
stands_last v (types.Cons u us) t o = or_right (occurs v u) (occurs_any v (and_last us t)) (stands_last v us t o)

-- a list of nodes whose types are some has one of them where the types have
none_applied : (N V u : Types) (us : Typs) (ms : List ℕ) (front : Typs) (t : Typ) → apply_all N us ≡ and_last front t → types_of (map V ms) ≡ apply_all u us → (z : ℕ) × IsLast ms z
none_applied N V u us (m ∷ ms) front t e f = has_last m ms
none_applied N V u types.Nil [] front t e f = absurd (never_none front t (sym e))
none_applied N V u (types.Cons x xs) [] front t e f = absurd (cc)

-- so an instance of a root over parameters reads as a tuple, which has a last part
pub instance_tuple : {old new : List Node} {I N : Types} {C : List ℕ} {arity root level m : ℕ} (k : ℕ) (t : Typ) → IsOwn old I → RootAs old C N arity root (with_parameters (suc k) t) → IsSound new → Instantiated old new root level m →
    (ms : List ℕ) × (reading new m ≡ Some (Tuple ms)) × (z : ℕ) × IsLast ms z
instance_tuple {new = new} {I} {N} {m = m} k t before as_root sound taken =
    let own = own_of new sound in
    let images = images_of before own.1 taken (λ v o. named_bound (as_root.named I before v o)) in
    let (us, inside, named) = tuple_inside (and_last (parameters_from 0 (suc k)) t) refl as_root before in
    let u : Types = λ v. own.0 (images.image v) in
    let is : own.0 m ≡ type.Tuple (apply_all u us) = images.is own.0 own.1.loose ∙ ap (apply u) inside in
    let (ms, reads) = reads_tuple new own.0 m (apply_all u us) sound own.1 taken.inside is in
    let same : types_of (map own.0 ms) ≡ apply_all u us = (let f : type.Tuple (types_of (map own.0 ms)) ≡ type.Tuple (apply_all u us) = sym (tuple_is new own.0 m ms own.1.loose reads) ∙ is in cc) in
    let last = none_applied N own.0 u us ms (parameters_from 0 (suc k)) t named same in
    (ms, reads, last.0, last.1)

-- and its last part is a part of it whose named type is the last one
pub instance_last : {old new : List Node} {I K N : Types} {C : List ℕ} {arity root level m z : ℕ} (k : ℕ) (t : Typ) (ms : List ℕ) → IsOwn old I → RootAs old C N arity root (with_parameters (suc k) t) → IsOwn new K → Instantiated old new root level m → reading new m ≡ Some (Tuple ms) → IsLast ms z →
    IsPartOf I N root t (K z)
instance_last {new = new} {I} {K} {N} {m = m} {z = z} k t ms before as_root own taken reads last =
    let images = images_of before own taken (λ v o. named_bound (as_root.named I before v o)) in
    let (us, inside, named) = tuple_inside (and_last (parameters_from 0 (suc k)) t) refl as_root before in
    let put : Types = λ v. K (images.image v) in
    let p = last_part N us (parameters_from 0 (suc k)) t named in
    let same : type.Tuple (types_of (map K ms)) ≡ type.Tuple (apply_all put us) = sym (tuple_is new K m ms own.loose reads) ∙ images.is K own.loose ∙ ap (apply put) inside in
    let listed : types_of (map K ms) ≡ apply_all put us = cc in
    record {
      part = p.last;
      stands = λ v o. ap (occurs v) inside ∙ ap (occurs_any v) p.is ∙ stands_last v p.front p.last o;
      named = p.named;
      put = put;
      is = sym (last_type K (apply_all put p.front) (apply put p.last) ms z (sym (put_last put p.front p.last) ∙ ap (apply_all put) (sym p.is) ∙ sym listed) last);
    }

-- without parameters it is all of it
pub instance_whole : {old new : List Node} {I K N : Types} {C : List ℕ} {arity root level m : ℕ} {t : Typ} → IsOwn old I → RootAs old C N arity root t → IsOwn new K → Instantiated old new root level m → IsPartOf I N root t (K m)
instance_whole {I = I} {K = K} {root = root} before as_root own taken =
    let images = images_of before own taken (λ v o. named_bound (as_root.named I before v o)) in
    record { part = I root; stands = λ v o. o; named = sym (as_root.is I before); put = λ v. K (images.image v); is = images.is K own.loose }
