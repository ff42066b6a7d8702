-- Calls that report nothing.
use Rattle.std.proofs.Common.{◌∙◌, refl, ap}
use Rattle.typing_state.specs.declared.parts.Parts.{Parts}
use Rattle.typing_state.specs.Goes.{OnlyStore, OnlyIndex, Silent}

-- where nothing happens
pub silent_refl : (a : Parts) → Silent a a
silent_refl a = refl

-- one call after another
pub silent_trans : (a b c : Parts) → Silent a b → Silent b c → Silent a c
silent_trans a b c p q = q ∙ p

-- a call that changes the store alone
pub store_silent : (a b : Parts) → OnlyStore a b → Silent a b
store_silent a b h = ap (λ x. x.list.items) h.faults

-- a call that only records
pub index_silent : (a b : Parts) → OnlyIndex a b → Silent a b
index_silent a b h = ap (λ x. x.list.items) h.faults
