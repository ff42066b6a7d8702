-- A text that is repeated.
use Rattle.std.proofs.Common.{◌≡◌, ℕ, suc, ◌+◌, ◌-◌, ◌<◌, ◌≤◌, List, [], ◌++◌, ap, arith}
use Rattle.type_alternatives.specs.Templates.{repeated}

-- one time and the others
pub repeated_step : (t : List ℕ) (m k : ℕ) → k < m → repeated (m - k) t ≡ t ++ repeated (m - (k + 1)) t
repeated_step t m k h = let e : m - k ≡ suc (m - (k + 1)) = omega arith in ap (λ n. repeated n t) e

-- and none at the end
pub repeated_end : (t : List ℕ) (m k : ℕ) → m ≤ k → repeated (m - k) t ≡ []
repeated_end t m k h = let e : m - k ≡ 0 = omega arith in ap (λ n. repeated n t) e
