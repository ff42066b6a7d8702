-- Where no bound variable stands: what a caller of unification has to know of its two nodes, and what keeps it known.
use Rattle.std.proofs.Common.{◌≡◌, ℕ, ◌<◌, Bool, true, false, ◌||◌, cond, ltb, List, length, get_or, refl, sym, ◌∙◌, ap, inl, inr}
use Rattle.std.proofs.lemmas.Bool.{lt-ltb, ltb-true}
use Rattle.type_model.proofs.Applying.{or_left, or_right, or_cases}
use Rattle.type_nodes.specs.Nodes.{Node, parts, IsSound, IsClosed}
use Rattle.level_unify.specs.Copies.{Extends}
use Rattle.level_unify.specs.Solutions.{HaveNoBound}
use Rattle.level_unify.specs.Unification.{Unified}
use Rattle.level_unify.proofs.Walking.{parts_inside}

-- two sets that have the parts of their nodes, as one
union_closed : (nodes : List Node) (F G : ℕ → Bool) → IsClosed nodes F → IsClosed nodes G → IsClosed nodes (λ n. F n || G n)
union_closed nodes F G f g = record {
  each = λ n c has e k d lt. elim (or_cases (F n) (G n) has) [
    | inl h ↦ or_left (F (get_or (parts c) k d)) (G (get_or (parts c) k d)) (f.each n c h e k d lt)
    | inr h ↦ or_right (F (get_or (parts c) k d)) (G (get_or (parts c) k d)) (g.each n c h e k d lt)
  ];
}

-- none in a and b, and none in c and d: so none in any two of them
pub both_unbound : (nodes : List Node) (a b c d : ℕ) → HaveNoBound nodes a b → HaveNoBound nodes c d → HaveNoBound nodes a c
both_unbound nodes a b c d p q = record {
  set = λ n. p.set n || q.set n;
  closed = union_closed nodes p.set q.set p.closed q.closed;
  left = or_left (p.set a) (q.set a) p.left;
  right = or_right (p.set c) (q.set c) q.left;
  free = λ n level scope has e. elim (or_cases (p.set n) (q.set n) has) [ inl h ↦ p.free n level scope h e | inr h ↦ q.free n level scope h e ];
}

-- new nodes put no bound variable into old ones
pub still_unbound : (old new : List Node) (a b : ℕ) → IsSound old → Extends old new → a < length old → b < length old → HaveNoBound old a b → HaveNoBound new a b
still_unbound old new a b sound extends a_in b_in none = record {
  set = F;
  closed = record {
    each = λ n c has e k d lt.
        let in_old = of n has in
        let e' = sym (extends.node n in_old.0) ∙ e in
        put (get_or (parts c) k d) (parts_inside old sound n c e' k d lt) (none.closed.each n c in_old.1 e' k d lt);
  };
  left = put a a_in none.left;
  right = put b b_in none.right;
  free = λ n level scope has e. let in_old = of n has in none.free n level scope in_old.1 (sym (extends.node n in_old.0) ∙ e);
}
  where
    F : ℕ → Bool
    F n = cond (ltb n (length old)) (none.set n) false

    put : (n : ℕ) → n < length old → none.set n ≡ true → F n ≡ true
    put n lt has = let e = lt-ltb n (length old) lt in ap (λ t. cond t (none.set n) false) e ∙ has

    of : (n : ℕ) → F n ≡ true → (n < length old) × (none.set n ≡ true)
    of n has = at (ltb n (length old)) refl
      where
        at : (t : Bool) → ltb n (length old) ≡ t → (n < length old) × (none.set n ≡ true)
        at true e = (ltb-true n (length old) e, sym (ap (λ t. cond t (none.set n) false) e) ∙ has)
        at false e = absurd (let f : F n ≡ false = ap (λ t. cond t (none.set n) false) e in cc)

-- unification of a and b puts none into c and d
pub unified_unbound : (old new : List Node) (a b c d : ℕ) → Unified old new a b → HaveNoBound old a b → HaveNoBound old c d → HaveNoBound new c d
unified_unbound old new a b c d u p q = record {
  set = λ n. p.set n || q.set n;
  closed = u.closed (λ n. p.set n || q.set n) (union_closed old p.set q.set p.closed q.closed) (or_left (p.set a) (q.set a) p.left) (or_left (p.set b) (q.set b) p.right);
  left = or_right (p.set c) (q.set c) q.left;
  right = or_right (p.set d) (q.set d) q.right;
  free = λ n level scope has e.
      let (l, o, at, was, stays) = u.still n level scope e in
      elim (or_cases (p.set n) (q.set n) has) [ inl h ↦ stays (p.free n l o h at) | inr h ↦ stays (q.free n l o h at) ];
}
