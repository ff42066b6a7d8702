-- The numbers of unused rows.
use Rattle.std.proofs.Common.{◌≡◌, ℕ, zero, suc, ap, ◌+◌, ◌<◌, Bool, true, false, not, List, [], ◌∷◌, ◌++◌, length, take, get_or, Option, Some, None, sym, subst, arith, Vec, Global}
use Rattle.std.specs.Prelude.{slice_get}
use Rattle.std.specs.Option.{is_some}
use Rattle.pattern_matrix.specs.Search.{Finds, row_in}
use Rattle.pattern_matrix.specs.Views.{shapes_view}
use Rattle.pattern_matrix.specs.Rows.{IsTold, AreUnused, at_start, covered_one, useful_one, line_of, mark_of, near_lines}
use Rattle.pattern_matrix.specs.declared.patterns.PatRow.{PatRow}
use Rattle.pattern_matrix.specs.declared.patterns.Shape.{Shape}

pub none-yet : (rs : List PatRow) (us : List ℕ) → us ≡ [] → AreUnused rs 0 us
none-yet rs us e = subst (λ xs. AreUnused rs 0 xs) (sym e) at_start

pub one-covered : (rs : List PatRow) (k : ℕ) (us vs : List ℕ) → IsTold rs k true → AreUnused rs k us → vs ≡ us ++ k ∷ [] → AreUnused rs (k + 1) vs
one-covered rs k us vs told before is = let s : suc k ≡ k + 1 = omega arith in subst (λ n. AreUnused rs n vs) s (covered_one told before is)

pub one-useful : (rs : List PatRow) (k : ℕ) (us : List ℕ) → IsTold rs k false → AreUnused rs k us → AreUnused rs (k + 1) us
one-useful rs k us told before = let s : suc k ≡ k + 1 = omega arith in subst (λ n. AreUnused rs n us) s (useful_one told before)

got-at : (rs : List PatRow) (k : ℕ) (r : PatRow) → k < length rs → r ≡ get_or rs k r → slice_get rs k ≡ Some r
got-at [] k r h e = absurd (omega arith)
got-at (s ∷ rs) zero r h e = ap Some (sym e)
got-at (s ∷ rs) (suc k) r h e = got-at rs k r (omega arith) e

told-by : (rs : List PatRow) (k at : ℕ) (r : PatRow) (found : Option (Vec Shape Global)) (b : Bool) → slice_get rs k ≡ Some r → is_some found ≡ not b →
    Finds (row_in (near_lines at (mark_of at r) (take k rs)) (line_of r)) (shapes_view found) → IsTold rs k b
told-by rs k at r None true stands e f = (at, r, stands, f)
told-by rs k at r None false stands e f = cc
told-by rs k at r (Some v) true stands e f = cc
told-by rs k at r (Some v) false stands e f = (at, r, stands, (_, f))

-- what is found for a row tells whether it is unused
pub told : (rs : List PatRow) (k at : ℕ) (r : PatRow) (found : Option (Vec Shape Global)) (b : Bool) → k < length rs → r ≡ get_or rs k r → is_some found ≡ not b →
    Finds (row_in (near_lines at (mark_of at r) (take k rs)) (line_of r)) (shapes_view found) → IsTold rs k b
told rs k at r found b h is = told-by rs k at r found b (got-at rs k r h is)
