-- Declared roots: they stay when nodes are added, and what their bodies read as over arguments.
use Rattle.std.proofs.Common.{◌≡◌, ◌≢◌, ℕ, zero, suc, ◌<◌, ◌+◌, Bool, true, false, cond, ltb, List, [], ◌∷◌, ◌++◌, length, map, get_or, Some, refl, sym, ◌∙◌, ap, subst, arith, inl, inr, Vec, Global}
use Rattle.std.specs.Prelude.{slice_get, All, if◌then◌else◌, ◌==◌, Result, Ok, Err, IfOk, OnOk}
use Rattle.std.specs.declared.alloc.AllocError.{AllocError}
use Rattle.std.proofs.lemmas.Bool.{lt-ltb, ltb-true, eq-eqb, ne_eqb}
use Rattle.type_model.specs.Types.{Typ, Typs, types_of}
use Rattle.type_model.specs.Types.{Typ as type, Typs as types}
use Rattle.type_model.specs.Substitutions.{Subst, apply, apply_all, after}
use Rattle.type_model.proofs.Applying.{apply-apply, apply_Var}
use Rattle.type_terms.specs.declared.types.NodeRef.{NodeRef}
use Rattle.type_nodes.specs.Nodes.{Node, Var, Rigid, Link, Arrow, Tuple, Con, parts, bound_level, IsNode, IsSound, IsClosed}
use Rattle.type_nodes.specs.Links.{root, reading}
use Rattle.type_nodes.specs.Readings.{Types, Fits, FitsNode, IsReading}
use Rattle.type_nodes.specs.Views.{numbers}
use Rattle.type_nodes.proofs.Lists.{same_or_other, one_element}
use Rattle.type_nodes.proofs.Roots.{root_inside}
use Rattle.type_nodes.proofs.LinkedReadings.{root_type}
use Rattle.signature_model.specs.Changes.{argument}
use Rattle.level_unify.specs.Copies.{Extends}
use Rattle.level_unify.specs.Walks.{StandsIn}
use Rattle.level_unify.proofs.Steps.{cell_at}
use Rattle.level_unify.proofs.Walking.{parts_inside}
use Rattle.type_substitution.specs.Substituting.{by_types, IsSubstituted}
use Rattle.type_reading.specs.declared.changes.Real.{Real}
use Rattle.type_reading.specs.declared.copies.Seen.{Seen}
use Rattle.type_reading.specs.declared.copies.Seen.TheVariants as seen
use Rattle.type_reading.specs.Copying.{is_variable, by_places, last_of, declared, IsBehind, IsDeclared, AreDeclared, IsDeclaredOver, seen_node}
use Rattle.type_reading.proofs.Extending.{reading_before}

-- what stands in an old node among the new ones is an old node, and stood in it before
stood_before : (old new : List Node) (v n : ℕ) → IsSound old → Extends old new → IsNode old n → StandsIn new v n → IsNode old v × StandsIn old v n
stood_before old new v n sound extends n_in stands = ((of all v (stands.each (in_old all) (closed all all_closed) (put all n n_in refl))).0, record { each = λ F old_closed has. (of F v (stands.each (in_old F) (closed F old_closed) (put F n n_in has))).1 })
  where
    all : ℕ → Bool
    all k = true

    all_closed : IsClosed old all
    all_closed = record { each = λ k c has at j d lt. refl }

    in_old : (ℕ → Bool) → ℕ → Bool
    in_old F k = cond (ltb k (length old)) (F k) false

    put : (F : ℕ → Bool) (k : ℕ) → k < length old → F k ≡ true → in_old F k ≡ true
    put F k lt has = ap (λ t. cond t (F k) false) (lt-ltb k (length old) lt) ∙ has

    of : (F : ℕ → Bool) (k : ℕ) → in_old F k ≡ true → (k < length old) × (F k ≡ true)
    of F k has = at (ltb k (length old)) refl
      where
        at : (t : Bool) → ltb k (length old) ≡ t → (k < length old) × (F k ≡ true)
        at true e = (ltb-true k (length old) e, sym (ap (λ t. cond t (F k) false) e) ∙ has)
        at false e = absurd (let f : in_old F k ≡ false = ap (λ t. cond t (F k) false) e in cc)

    closed : (F : ℕ → Bool) → IsClosed old F → IsClosed new (in_old F)
    closed F old_closed = record {
      each = λ k c has e j d lt.
          let (k_in, k_has) = of F k has in
          let e' = sym (extends.node k k_in) ∙ e in
          put F (get_or (parts c) j d) (parts_inside old sound k c e' j d lt) (old_closed.each k c k_has e' j d lt);
    }

reading_after : (old new : List Node) (n : ℕ) (c : Node) → IsSound old → Extends old new → IsNode old n → reading old n ≡ Some c → reading new n ≡ Some c
reading_after old new n c sound extends n_in at = ap (slice_get new) (extends.roots n n_in) ∙ extends.node (root old n) (root_inside old sound n n_in) ∙ at

-- the parameters and the body are nodes
behind_inside : (nodes : List Node) (n arity : ℕ) (ps : List ℕ) (body : ℕ) → IsSound nodes → IsNode nodes n → IsBehind nodes n arity ps body → All (IsNode nodes) ps × IsNode nodes body
behind_inside nodes n zero ps body sound n_in (none, is) = (subst (λ ks. All (IsNode nodes) ks) (sym none) (λ k d lt. absurd (omega arith)), subst (IsNode nodes) (sym is) n_in)
behind_inside nodes n (suc arity) ps body sound n_in at = apart ps (λ k d lt. parts_inside nodes sound (root nodes n) (Tuple (ps ++ body ∷ [])) at k d lt)
  where
    apart : (qs : List ℕ) → All (IsNode nodes) (qs ++ body ∷ []) → All (IsNode nodes) qs × IsNode nodes body
    apart [] h = ((λ k d lt. absurd (omega arith)), h zero zero (omega arith))
    apart (q ∷ qs) h = let there = apart qs (λ k d lt. h (suc k) d (omega arith)) in (one (h zero zero (omega arith)) there.0, there.1)
      where
        one : IsNode nodes q → All (IsNode nodes) qs → All (IsNode nodes) (q ∷ qs)
        one here there zero d lt = here
        one here there (suc k) d lt = there k d (omega arith)

behind_after : (old new : List Node) (n arity : ℕ) (ps : List ℕ) (body : ℕ) → IsSound old → Extends old new → IsNode old n → IsBehind old n arity ps body → IsBehind new n arity ps body
behind_after old new n zero ps body sound extends n_in h = h
behind_after old new n (suc arity) ps body sound extends n_in at = reading_after old new n (Tuple (ps ++ body ∷ [])) sound extends n_in at

roots_after : (old new : List Node) (ps : List ℕ) → Extends old new → All (IsNode old) ps → map (root new) ps ≡ map (root old) ps
roots_after old new [] extends h = refl
roots_after old new (p ∷ ps) extends h =
    let here : root new p ≡ root old p = extends.roots p (h zero zero (omega arith)) in
    let there : map (root new) ps ≡ map (root old) ps = roots_after old new ps extends (λ k d lt. h (suc k) d (omega arith)) in
    cc

-- a declared root stays one when nodes are added
pub declared_after : (old new : List Node) (n arity : ℕ) → IsSound old → Extends old new → IsDeclared old n arity → IsDeclared new n arity
declared_after old new n arity sound extends d =
    let inside = behind_inside old n arity d.parameters d.body sound d.inside d.behind in
    record {
      parameters = d.parameters;
      body = d.body;
      inside = let l = extends.longer in let lt = d.inside in omega arith;
      count = d.count;
      behind = behind_after old new n arity d.parameters d.body sound extends d.inside d.behind;
      bound = λ k e lt. let b = d.bound k e lt in (b.0, reading_after old new (get_or d.parameters k e) (Var bound_level b.0) sound extends (inside.0 k e lt) b.1);
      closed = λ v level scope stands at.
          let (v_in, stood) = stood_before old new v d.body sound extends inside.1 stands in
          let (k, is) = d.closed v level scope stood (sym (extends.node v v_in) ∙ at) in
          (k, ap (λ rs. slice_get rs k) (roots_after old new d.parameters extends inside.0) ∙ is);
    }

-- and so do those that stand in the place of origins
pub are_declared_after : (old new : List Node) (rs : List Real) → IsSound old → Extends old new → AreDeclared old rs → AreDeclared new rs
are_declared_after old new rs sound extends h k d lt = declared_after old new (get_or rs k d).root.0 (get_or rs k d).arity sound extends (h k d lt)

-- what stands in a part stands in the node
in_part : (nodes : List Node) (v n : ℕ) (c : Node) (k d : ℕ) → slice_get nodes n ≡ Some c → k < length (parts c) → StandsIn nodes v (get_or (parts c) k d) → StandsIn nodes v n
in_part nodes v n c k d at lt stands = record { each = λ F closed has. stands.each F closed (closed.each n c has at k d lt) }

-- two substitutions do the same to a node's type
abbrev pub Agrees : Subst → Subst → Typ → Type 0
Agrees s r t = apply s t ≡ apply r t

all_agree : (V : Types) (s r : Subst) (ms : List ℕ) → All (λ m. Agrees s r (V m)) ms → apply_all s (types_of (map V ms)) ≡ apply_all r (types_of (map V ms))
all_agree V s r [] h = refl
all_agree V s r (m ∷ ms) h =
    let here : apply s (V m) ≡ apply r (V m) = h zero zero (omega arith) in
    let there = all_agree V s r ms (λ k d lt. h (suc k) d (omega arith)) in
    cc

fits_agree : (V : Types) (s r : Subst) (n : ℕ) (c : Node) → FitsNode V n c → ((level scope : ℕ) → c ≡ Var level scope → Agrees s r (V n)) → All (λ m. Agrees s r (V m)) (parts c) → Agrees s r (V n)
fits_agree V s r n (Var level scope) fits var h = var level scope refl
fits_agree V s r n Rigid fits var h = subst (Agrees s r) (sym fits) refl
fits_agree V s r n (Link m) fits var h = subst (Agrees s r) (sym fits) (h zero zero (omega arith))
fits_agree V s r n (Arrow a b) fits var h =
    let left : apply s (V a) ≡ apply r (V a) = h zero zero (omega arith) in
    let right : apply s (V b) ≡ apply r (V b) = h 1 zero (omega arith) in
    let both : apply s (type.Arrow (V a) (V b)) ≡ apply r (type.Arrow (V a) (V b)) = cc in
    subst (Agrees s r) (sym fits) both
fits_agree V s r n (Tuple ms) fits var h = subst (Agrees s r) (sym fits) (ap type.Tuple (all_agree V s r ms h))
fits_agree V s r n (Con path name ms) fits var h = subst (Agrees s r) (sym fits) (ap (type.Con path) (all_agree V s r ms h))

-- a substitution looks at the variables that stand in the node alone
agree_in : (nodes : List Node) (V : Types) (s r : Subst) (n : ℕ) → IsSound nodes → Fits nodes V → IsNode nodes n →
    ((v level scope : ℕ) → StandsIn nodes v n → slice_get nodes v ≡ Some (Var level scope) → Agrees s r (V v)) → Agrees s r (V n)
agree_in nodes V s r n sound fits n_in same = below (suc (sound.0 n)) n (omega arith) n_in same
  where
    below : (k m : ℕ) → sound.0 m < k → IsNode nodes m → ((v level scope : ℕ) → StandsIn nodes v m → slice_get nodes v ≡ Some (Var level scope) → Agrees s r (V v)) → Agrees s r (V m)
    below zero m low m_in same = absurd (omega arith)
    below (suc k) m low m_in same =
        let (c, at) = cell_at nodes m m_in in
        fits_agree V s r m c (fits.each m c at) (λ level scope is. same m level scope (record { each = λ F closed has. has }) (at ∙ ap (λ x. Some x) is))
        (λ j d lt.
        let down = sound.1.each m c at j d lt in
        let lower = down.1 in
        below k (get_or (parts c) j d) (omega arith) down.0 (λ v level scope stands. same v level scope (in_part nodes v m c j d at lt stands)))

-- parameters read as variables of their own
abbrev pub ReadOwn : List Node → Types → List ℕ → Type 0
ReadOwn nodes V ps = All (λ p. V p ≡ type.Var (root nodes p)) ps

-- one place of a parameter: what stands there where it is the variable
one_place : (s : Subst) (r v j : ℕ) (t here there behind : Typ) → t ≡ type.Var r → here ≡ s j → (r ≢ v → there ≡ apply s behind) →
    (if r == v then here else there) ≡ apply s (if is_variable v t then type.Var j else behind)
one_place s r v j t here there behind is own rest = elim (same_or_other r v) [
  | inl same ↦ ap (λ b. if b then here else there) (eq-eqb r v same) ∙ own ∙ sym (ap (λ b. apply s (if b then type.Var j else behind)) (ap (is_variable v) is ∙ eq-eqb v r (sym same)))
  | inr other ↦ ap (λ b. if b then here else there) (ne_eqb r v other) ∙ rest other ∙ sym (ap (λ b. apply s (if b then type.Var j else behind)) (ap (is_variable v) is ∙ ne_eqb v r (λ e. other (sym e))))
]

nothing_at : (k v : ℕ) → slice_get [] k ≡ Some v → ⊥
nothing_at zero v e = absurd (cc)
nothing_at (suc k) v e = absurd (cc)

-- what stands in the place of a parameter is the argument at the parameter's first place
placed : (nodes : List Node) (V : Types) (us : Typs) (ps ts : List ℕ) (j v : ℕ) → ReadOwn nodes V ps → ((i : ℕ) → argument us (j + i) ≡ argument (types_of (map V ts)) i) → (body : ℕ) →
    (k : ℕ) → slice_get (map (root nodes) ps) k ≡ Some v → by_types nodes V ps ts v ≡ apply (argument us) (by_places j (types_of (map V (ps ++ body ∷ []))) v)
placed nodes V us [] ts j v own args body k at = absurd (nothing_at k v at)
placed nodes V us (p ∷ ps) [] j v own args body zero at =
    one_place (argument us) (root nodes p) v j (V p) (type.Tuple types.Nil) (by_types nodes V ps [] v) (by_places (suc j) (types_of (map V (ps ++ body ∷ []))) v) (own zero zero (omega arith))
    (sym (args zero) ∙ ap (argument us) (omega arith)) (λ other. absurd (other (cc)))
placed nodes V us (p ∷ ps) [] j v own args body (suc k) at =
    one_place (argument us) (root nodes p) v j (V p) (type.Tuple types.Nil) (by_types nodes V ps [] v) (by_places (suc j) (types_of (map V (ps ++ body ∷ []))) v) (own zero zero (omega arith))
    (sym (args zero) ∙ ap (argument us) (omega arith))
    (λ other. placed nodes V us ps [] (suc j) v (λ i d lt. own (suc i) d (omega arith)) (λ i. ap (argument us) (omega arith) ∙ args (suc i)) body k at)
placed nodes V us (p ∷ ps) (t ∷ ts) j v own args body zero at =
    one_place (argument us) (root nodes p) v j (V p) (V t) (by_types nodes V ps ts v) (by_places (suc j) (types_of (map V (ps ++ body ∷ []))) v) (own zero zero (omega arith))
    (sym (args zero) ∙ ap (argument us) (omega arith)) (λ other. absurd (other (cc)))
placed nodes V us (p ∷ ps) (t ∷ ts) j v own args body (suc k) at =
    one_place (argument us) (root nodes p) v j (V p) (V t) (by_types nodes V ps ts v) (by_places (suc j) (types_of (map V (ps ++ body ∷ []))) v) (own zero zero (omega arith))
    (sym (args zero) ∙ ap (argument us) (omega arith))
    (λ other. placed nodes V us ps ts (suc j) v (λ i d lt. own (suc i) d (omega arith)) (λ i. ap (argument us) (omega arith) ∙ args (suc i)) body k at)

last_body : (V : Types) (t : Typ) (ps : List ℕ) (body : ℕ) → last_of t (types_of (map V (ps ++ body ∷ []))) ≡ V body
last_body V t [] body = refl
last_body V t (p ∷ ps) body = last_body V (V p) ps body

-- what holds of each root holds of one
picked : (P : ℕ → Type 0) (f : ℕ → ℕ) (ps : List ℕ) (k v : ℕ) → All (λ p. P (f p)) ps → slice_get (map f ps) k ≡ Some v → P v
picked P f [] k v h e = absurd (nothing_at k v e)
picked P f (p ∷ ps) zero v h e = let is : f p ≡ v = cc in subst P is (h zero zero (omega arith))
picked P f (p ∷ ps) (suc k) v h e = picked P f ps k v (λ i d lt. h (suc i) d (omega arith)) e

-- the body with the arguments in the place of the parameters is the declared type over the arguments
pub over_parts : (old new : List Node) (n arity : ℕ) (args : List ℕ) (m : ℕ) → IsSound old → Extends old new → arity ≢ zero → (d : IsDeclared old n arity) → IsSubstituted old new d.parameters args d.body m → IsDeclaredOver new n arity args m
over_parts old new n zero args m sound extends some d sub = absurd (some refl)
over_parts old new n (suc arity) args m sound extends some d sub = record { inside = sub.inside; reads = at_reading }
  where
    ps : List ℕ
    ps = d.parameters

    at_reading : (V : Types) → IsReading new V → V m ≡ apply (argument (types_of (map V args))) (declared (suc arity) (V n))
    at_reading V reads =
        let before = reading_before old new V extends reads in
        let us = types_of (map V args) in
        let ws = types_of (map V (ps ++ d.body ∷ [])) in
        let whole : V n ≡ type.Tuple ws = root_type old V before.fits n ∙ before.fits.each (root old n) (Tuple (ps ++ d.body ∷ [])) d.behind in
        let own_root : All (λ p. V (root old p) ≡ type.Var (root old p)) ps = λ k e lt. let b = d.bound k e lt in before.own (root old (get_or ps k e)) b.0 b.1 in
        let own : ReadOwn old V ps = λ k e lt. root_type old V before.fits (get_or ps k e) ∙ own_root k e lt in
        let same : (v level scope : ℕ) → StandsIn old v d.body → slice_get old v ≡ Some (Var level scope) → Agrees (by_types old V ps args) (after (argument us) (by_places 0 ws)) (V v) =
        λ v level scope stands at.
        let (k, is) = d.closed v level scope stands at in
        subst (Agrees (by_types old V ps args) (after (argument us) (by_places 0 ws))) (sym (picked (λ w. V w ≡ type.Var w) (root old) ps k v own_root is))
        (placed old V us ps args 0 v own (λ i. ap (argument us) (omega arith)) d.body k is) in
        sub.reads V reads d.bound
        ∙ agree_in old V (by_types old V ps args) (after (argument us) (by_places 0 ws)) d.body sound before.fits (behind_inside old n (suc arity) ps d.body sound d.inside d.behind).1 same
        ∙ sym (apply-apply (argument us) (by_places 0 ws) (V d.body))
        ∙ ap (λ t. apply (argument us) (apply (by_places 0 ws) t)) (sym (last_body V (type.Tuple types.Nil) ps d.body))
        ∙ ap (λ t. apply (argument us) (declared (suc arity) t)) (sym whole)

-- without parameters no variable stands in the root, so that it is the type over any arguments
pub over_itself : (nodes : List Node) (n arity : ℕ) (args : List ℕ) → IsSound nodes → arity ≡ zero → IsDeclared nodes n arity → IsDeclaredOver nodes n arity args n
over_itself nodes n (suc arity) args sound none d = absurd (cc)
over_itself nodes n zero args sound none d = record { inside = d.inside; reads = at_reading }
  where
    no_variable : (v level scope : ℕ) → StandsIn nodes v n → slice_get nodes v ≡ Some (Var level scope) → ⊥
    no_variable v level scope stands at =
        let (k, is) = d.closed v level scope (subst (StandsIn nodes v) (sym d.behind.1) stands) at in
        nothing_at k v (subst (λ ps. slice_get (map (root nodes) ps) k ≡ Some v) d.behind.0 is)

    at_reading : (V : Types) → IsReading nodes V → V n ≡ apply (argument (types_of (map V args))) (V n)
    at_reading V reads =
        sym (apply_Var (V n)) ∙ agree_in nodes V type.Var (argument (types_of (map V args))) n sound reads.fits d.inside (λ v level scope stands at. absurd (no_variable v level scope stands at))

-- what holds of each number but the last
pub front : (P : ℕ → Type 0) (all ns : List NodeRef) (last : NodeRef) → all ≡ ns ++ last ∷ [] → All P (numbers all) → All P (numbers ns)
front P all ns last e h = of ns (subst (λ xs. All P (numbers xs)) e h)
  where
    of : (ms : List NodeRef) → All P (numbers (ms ++ last ∷ [])) → All P (numbers ms)
    of [] h k d lt = absurd (omega arith)
    of (m ∷ ms) h zero d lt = h zero d (omega arith)
    of (m ∷ ms) h (suc k) d lt = of ms (λ i e l. h (suc i) e (omega arith)) k d (omega arith)

-- the body over the arguments, where the parts of the root were taken apart
pub over_answer : (r : Result NodeRef AllocError) (old new : List Node) (n arity : ℕ) (args ms : List ℕ) → IsSound old → arity ≢ zero → reading old n ≡ Some (Tuple ms) → OnOk r (Extends old new) →
    IfOk r (λ m. (ps : List ℕ) (body : ℕ) → ms ≡ ps ++ body ∷ [] → IsSubstituted old new ps args body m.0) → IfOk r (λ m. IsDeclared old n arity → All (IsNode old) args → IsDeclaredOver new n arity args m.0)
over_answer (Ok m) old new n arity args ms sound some at extends sub = λ d inside. over_parts old new n arity args m.0 sound extends some d (sub d.parameters d.body (apart arity some d.parameters d.body d.behind))
  where
    apart : (a : ℕ) → a ≢ zero → (ps : List ℕ) (body : ℕ) → IsBehind old n a ps body → ms ≡ ps ++ body ∷ []
    apart zero some' ps body h = absurd (some' refl)
    apart (suc a) some' ps body h = let e : Tuple ms ≡ Tuple (ps ++ body ∷ []) = one_element (Tuple ms) (Tuple (ps ++ body ∷ [])) (reading old n) at h in cc
over_answer (Err e) old new n arity args ms sound some at extends sub = tt

-- where the root is no tuple, it isn't declared over parameters
pub not_declared : (nodes : List Node) (n arity : ℕ) (s : Seen) → arity ≢ zero → ((ps : Vec NodeRef Global) → s ≢ seen.Tuple ps) → reading nodes n ≡ Some (seen_node s) → IsDeclared nodes n arity → ⊥
not_declared nodes n zero s some other at d = some refl
not_declared nodes n (suc arity) s some other at d = of s other (one_element (seen_node s) (Tuple (d.parameters ++ d.body ∷ [])) (reading nodes n) at d.behind)
  where
    of : (s : Seen) → ((ps : Vec NodeRef Global) → s ≢ seen.Tuple ps) → seen_node s ≡ Tuple (d.parameters ++ d.body ∷ []) → ⊥
    of (seen.Variable level scope) other e = absurd (cc)
    of seen.Other other e = absurd (cc)
    of (seen.Arrow a b) other e = absurd (cc)
    of (seen.Tuple ms) other e = other ms refl
    of (seen.Con o ms) other e = absurd (cc)

pub no_tuple_answer : (r : Result NodeRef AllocError) (old new : List Node) (n arity : ℕ) (args : List ℕ) (s : Seen) → arity ≢ zero → ((ps : Vec NodeRef Global) → s ≢ seen.Tuple ps) → reading old n ≡ Some (seen_node s) →
    IfOk r (λ m. IsDeclared old n arity → All (IsNode old) args → IsDeclaredOver new n arity args m.0)
no_tuple_answer (Ok m) old new n arity args s some other at = λ d inside. absurd (not_declared old n arity s some other at d)
no_tuple_answer (Err e) old new n arity args s some other at = tt
