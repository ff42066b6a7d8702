-- The items with their points and the state after them, through one call after another.
use Rattle.std.proofs.Common.{◌≡◌, ◌∙◌, ℕ, zero, suc, ◌+◌, ◌<◌, ◌≤◌, Bool, true, false, List, [], ◌∷◌, ◌++◌, length, length-append, take, refl, sym, ap, subst, arith}
use Rattle.tree_model.specs.Trees.{Tree}
use Rattle.env_table.specs.declared.entries.Entry.{Entry}
use Rattle.typing_state.specs.declared.parts.Parts.{Parts}
use Rattle.module_steps.specs.declared.scenes.Scene.{Scene}
use Rattle.text_analysis.specs.declared.point.Point.{Point}
use Rattle.text_analysis.specs.Given.{NoneStands, Opens}
use Rattle.text_analysis.specs.Points.{EndsAt, IsPointOf, ArePoints, GoesBack}
use Rattle.text_analysis.specs.Typed.{AreChained}
use Rattle.text_analysis.specs.Weak.{HasFree, AreFreeAt}
use Rattle.text_analysis.proofs.FreeLaws.{free_none, free_at_none, free_more, free_before, free_cut, free_back}
use Rattle.text_analysis.proofs.GivenLaws.{given_none}
use Rattle.text_analysis.proofs.PointLaws.{points_more, points_before, points_back, points_cut, ends_back, last_point, length_taken_as, take_whole}

-- before the first item
pub chained_none : (first : Parts) (env : List Entry) (s : Scene) → Opens first env → s.env ≡ env → NoneStands s → AreChained first env [] [] [] first s true
chained_none first env s opens same none = record {
  ends = record {
    given = given_none first env s same none;
    unrecorded = opens.unrecorded;
    plain = λ e. none;
    known = λ c. refl;
  };
  points = record { each = λ k p h. absurd (cc); ordered = λ j k p q lt h i. absurd (cc) };
  counted = refl;
  has_free = free_none first env s.env same;
  free_at = free_at_none first env [] [] first;
}

-- a point more, before the item that is begun
pub chained_begun : {first : Parts} {env : List Entry} {items : List Tree} {free : List (List ℕ)} {ps : List Point} {at : Parts} {now : Scene} {plain : Bool} (p : Point) (number : ℕ) → AreChained first env items free ps at now plain → IsPointOf p number at now plain → number ≡ length items + 1 →
    ArePoints first env items (ps ++ p ∷ []) at × (length (ps ++ p ∷ []) ≡ length items + 1) × AreFreeAt first env items free (ps ++ p ∷ []) at
chained_begun {items = items} {ps = ps} p number are is next =
    (points_more p number are.points are.counted are.ends is next, length-append ps (p ∷ []) ∙ ap (λ n. n + 1) are.counted, free_more p number are.free_at are.counted are.has_free is)

-- the item that was begun is typed
pub chained_more : {first : Parts} {env : List Entry} {free : List (List ℕ)} {ps : List Point} {at : Parts} {now : Scene} {plain : Bool} (items : List Tree) (t : Tree) → ArePoints first env items ps at → length ps ≡ length items + 1 → AreFreeAt first env items free ps at → EndsAt first env (items ++ t ∷ []) at now plain →
    HasFree first env (items ++ t ∷ []) at.store.nodes now.env free → AreChained first env (items ++ t ∷ []) free ps at now plain
chained_more items t are count free_at ends has = record {
  ends = ends;
  points = points_before items t are (omega arith);
  counted = count ∙ sym (length-append items (t ∷ []));
  has_free = has;
  free_at = free_before items t free_at (omega arith);
}

-- typing goes back to the last point
pub chained_back : {first : Parts} {env : List Entry} {a b : Parts} {s : Scene} (items : List Tree) (free : List (List ℕ)) (ps : List Point) (p : Point) → ArePoints first env items (ps ++ p ∷ []) a → length (ps ++ p ∷ []) ≡ length items + 1 → AreFreeAt first env items free (ps ++ p ∷ []) a → GoesBack p a b → s.env ≡ p.env → (p.is_plain ≡ true → NoneStands s) →
    AreChained first env items (take (length items) free) ps b s p.is_plain
chained_back {first} {env} {a} {b} {s} items free ps p are count free_at back scope none =
    let few : length ps ≡ length items = let n = length-append ps (p ∷ []) in omega arith in
    let whole : take (length ps) items ≡ items = ap (λ n. take n items) few ∙ take_whole items in
    let found = free_back items free ps p s.env are free_at few back scope in
    record {
      ends = subst (λ ts. EndsAt first env ts b s p.is_plain) whole (ends_back p (last_point ps p are) back scope none);
      points = subst (λ ts. ArePoints first env ts ps b) whole (points_back items p are (omega arith) back);
      counted = few;
      has_free = found.0;
      free_at = found.1;
    }

-- the first items, and the points up to the one after them
pub chained_cut : {first : Parts} {env : List Entry} {free : List (List ℕ)} {at : Parts} {now : Scene} {plain : Bool} (items : List Tree) (ps : List Point) (n : ℕ) → AreChained first env items free ps at now plain → n < length ps →
    ArePoints first env (take n items) (take (n + 1) ps) at × (length (take (n + 1) ps) ≡ length (take n items) + 1) × AreFreeAt first env (take n items) free (take (n + 1) ps) at
chained_cut items ps n are lt = let e = are.counted in (points_cut items n are.points, length_taken_as (n + 1) ps (omega arith) ∙ ap (λ k. k + 1) (sym (length_taken_as n items (omega arith))), free_cut items n are.free_at)

-- all items, where there are no more
pub chained_whole : {first : Parts} {env : List Entry} {free : List (List ℕ)} {at : Parts} {now : Scene} {plain : Bool} (items : List Tree) (ps : List Point) (n : ℕ) → length ps ≤ n → AreChained first env items free ps at now plain → AreChained first env (take n items) free ps at now plain
chained_whole {first} {env} {free} {at} {now} {plain} items ps n past are = subst (λ ts. AreChained first env ts free ps at now plain) (sym (take_past n items (let e = are.counted in omega arith))) are
  where
    take_past : (n : ℕ) (xs : List Tree) → length xs ≤ n → take n xs ≡ xs
    take_past zero [] h = refl
    take_past zero (x ∷ xs) h = absurd (omega arith)
    take_past (suc n) [] h = refl
    take_past (suc n) (x ∷ xs) h = ap (λ l. x ∷ l) (take_past n xs (omega arith))

-- a scene whose names were found again, where there may be some
pub chained_named : {first : Parts} {env : List Entry} {items : List Tree} {free : List (List ℕ)} {ps : List Point} {at : Parts} {s s' : Scene} {plain : Bool} → AreChained first env items free ps at s plain → s'.env ≡ s.env → plain ≡ false → AreChained first env items free ps at s' plain
chained_named {first} {env} {items} {free} {at = at} {plain = plain} are scope other = record {
  ends = record {
    given = λ G E carried aloud at constants older. absurd (let e : plain ≡ true = are.ends.known carried in cc);
    unrecorded = are.ends.unrecorded;
    plain = λ e. absurd (cc);
    known = are.ends.known;
  };
  points = are.points;
  counted = are.counted;
  has_free = subst (λ es. HasFree first env items at.store.nodes es free) (sym scope) are.has_free;
  free_at = are.free_at;
}
