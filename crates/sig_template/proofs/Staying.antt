-- What stood in the nodes of before, in a store with more.
use Rattle.std.proofs.Common.{◌≡◌, ℕ, zero, suc, ◌<◌, Bool, true, ltb, ◌&&◌, List, [], ◌∷◌, ◌++◌, length, map, get_or, Option, Some, None, refl, sym, ◌∙◌, ap, subst, arith}
use Rattle.std.specs.Prelude.{slice_get, All}
use Rattle.std.proofs.lemmas.Bool.{and_from, and_parts, ltb-true, lt-ltb}
use Rattle.std.proofs.lemmas.List.{get_or_push}
use Rattle.std.proofs.lemmas.Option.{slice_get_within}
use Rattle.type_nodes.specs.Nodes.{Node, Tuple, IsSound, IsClosed, parts}
use Rattle.type_nodes.specs.Links.{linked_from, follow, root, reading}
use Rattle.level_unify.specs.Walks.{StandsIn}
use Rattle.level_unify.specs.Copies.{Extends}
use Rattle.scheme_match.specs.Unknown.{HasUnknown}
use Rattle.type_reading.specs.declared.changes.Real.{Real}
use Rattle.type_reading.specs.Copying.{IsBehind, IsDeclared, AreDeclared, ReadsBound}

-- what stands in a node of before is one, and stood in it
pub stands_before : (old new : List Node) (v n : ℕ) → IsSound old → Extends old new → n < length old → StandsIn new v n → (v < length old) × StandsIn old v n
stands_before old new v n sound extends inside stands = (
  ltb-true v (length old) (and_parts true (ltb v (length old)) (within (λ k. true) (record { each = λ k c has at j d lt. refl }) refl)).1,
  record { each = λ F closed has. (and_parts (F v) (ltb v (length old)) (within F closed has)).0 },
)
  where
    within : (F : ℕ → Bool) → IsClosed old F → F n ≡ true → (F v && ltb v (length old)) ≡ true
    within F closed has = stands.each (λ k. F k && ltb k (length old))
        (record {
          each = λ k c in_it at.
              let (here, low) = and_parts (F k) (ltb k (length old)) in_it in
              let was : slice_get old k ≡ Some c = sym (extends.node k (ltb-true k (length old) low)) ∙ at in
              λ j d lt. and_from (F (get_or (parts c) j d)) (ltb (get_or (parts c) j d) (length old)) (closed.each k c here was j d lt) (lt-ltb (get_or (parts c) j d) (length old) (sound.1.each k c was j d lt).0);
        })
        (and_from (F n) (ltb n (length old)) has (lt-ltb n (length old) inside))

-- where an unknown type stands in a node of before, it stood there
pub unknown_before : (old new : List Node) (n : ℕ) → IsSound old → Extends old new → n < length old → HasUnknown new n → HasUnknown old n
unknown_before old new n sound extends inside (b, stands, at) =
    let (lt, was) = stands_before old new b n sound extends inside stands in
    (b, was, sym (extends.node b lt) ∙ at)

follow_out : (nodes : List Node) (k n : ℕ) → slice_get nodes n ≡ None → follow k nodes n ≡ n
follow_out nodes zero n e = refl
follow_out nodes (suc k) n e = ap (follow k nodes) (ap (linked_from n) e) ∙ follow_out nodes k n e

-- what reads as something is a node
reading_inside : (nodes : List Node) (n : ℕ) (c : Node) → reading nodes n ≡ Some c → n < length nodes
reading_inside nodes n c e = at (slice_get nodes n) refl
  where
    at : (o : Option Node) → slice_get nodes n ≡ o → n < length nodes
    at None f = absurd (let g : None ≡ Some c = sym f ∙ ap (slice_get nodes) (sym (follow_out nodes (length nodes) n f)) ∙ e in cc)
    at (Some d) f = slice_get_within nodes n d f

-- what read as something reads as that
reading_later : (old new : List Node) (n : ℕ) (c : Node) → Extends old new → reading old n ≡ Some c → reading new n ≡ Some c
reading_later old new n c extends e = ap (slice_get new) (extends.roots n (reading_inside old n c e)) ∙ extends.node (root old n) (slice_get_within old (root old n) c e) ∙ e

behind_later : (old new : List Node) (n arity : ℕ) (ps : List ℕ) (body : ℕ) → Extends old new → IsBehind old n arity ps body → IsBehind new n arity ps body
behind_later old new n zero ps body extends behind = behind
behind_later old new n (suc k) ps body extends behind = reading_later old new n (Tuple (ps ++ body ∷ [])) extends behind

body_inside : (old : List Node) (n arity : ℕ) (ps : List ℕ) (body : ℕ) → IsSound old → n < length old → IsBehind old n arity ps body → body < length old
body_inside old n zero ps body sound inside behind = subst (λ k. k < length old) (sym behind.1) inside
body_inside old n (suc k) ps body sound inside behind =
    subst (λ m. m < length old) (get_or_push ps body 0 (length ps) refl) (sound.1.each (root old n) (Tuple (ps ++ body ∷ [])) behind (length ps) 0 (last ps)).0
  where
    last : (ms : List ℕ) → length ms < length (ms ++ body ∷ [])
    last [] = omega arith
    last (m ∷ ms) = let h = last ms in omega arith

roots_later : (old new : List Node) (ps : List ℕ) → Extends old new → All (ReadsBound old) ps → map (root new) ps ≡ map (root old) ps
roots_later old new [] extends bound = refl
roots_later old new (p ∷ ps) extends bound =
    let (scope, reads) = bound zero zero (omega arith) in
    let here : root new p ≡ root old p = extends.roots p (reading_inside old p _ reads) in
    rw (here, roots_later old new ps extends (λ k d lt. bound (suc k) d (omega arith))) refl

-- the type of a declaration still is one
pub declared_later : (old new : List Node) (n arity : ℕ) → IsSound old → Extends old new → IsDeclared old n arity → IsDeclared new n arity
declared_later old new n arity sound extends d = record {
  parameters = d.parameters;
  body = d.body;
  inside = let l = extends.longer in let lt = d.inside in omega arith;
  count = d.count;
  behind = behind_later old new n arity d.parameters d.body extends d.behind;
  bound = λ k e lt. let (scope, reads) = d.bound k e lt in (scope, reading_later old new (get_or d.parameters k e) _ extends reads);
  closed = λ v level scope stands at.
      let (lt, was) = stands_before old new v d.body sound extends (body_inside old n arity d.parameters d.body sound d.inside d.behind) stands in
      let (k, found) = d.closed v level scope was (sym (extends.node v lt) ∙ at) in
      (k, ap (λ (xs : List ℕ). slice_get xs k) (roots_later old new d.parameters extends d.bound) ∙ found);
}

pub all_declared_later : (old new : List Node) (rs : List Real) → IsSound old → Extends old new → AreDeclared old rs → AreDeclared new rs
all_declared_later old new rs sound extends all = λ k d lt. declared_later old new (get_or rs k d).root.0 (get_or rs k d).arity sound extends (all k d lt)
