-- No place of marks is marked where each that is put there is false.
use Rattle.std.proofs.Common.{◌≡◌, zero, suc, Bool, false, List, [], ◌∷◌, ◌++◌, refl}
use Rattle.decl_groups.specs.Marks.{AreUnset}

-- so it is with none
pub unset_none : AreUnset []
unset_none k = refl

-- and with one more
pub unset_more : (ms : List Bool) (b : Bool) → b ≡ false → AreUnset ms → AreUnset (ms ++ b ∷ [])
unset_more [] b is unset zero = is
unset_more [] b is unset (suc k) = refl
unset_more (m ∷ ms) b is unset zero = unset zero
unset_more (m ∷ ms) b is unset (suc k) = unset_more ms b is (λ j. unset (suc j)) k
