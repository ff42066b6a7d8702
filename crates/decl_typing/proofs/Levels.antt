-- Calls at another level.
use Rattle.std.proofs.Common.{ℕ, List, refl}
use Rattle.typing_state.specs.declared.parts.Parts.{Parts}
use Rattle.typing_state.specs.Goes.{Goes, OnlyStore, SameWork}
use Rattle.typing_state.proofs.Going.{inner_goes}
use Rattle.type_expressions.specs.Untyped.{Untyped}
use Rattle.typing_rows.specs.Noted.{AreNoted}

-- the same at another level
abbrev pub with_level : Parts → ℕ → Parts
with_level at l = record { alloc = at.alloc; store = at.store; index = at.index; faults = at.faults; written = at.written; item = at.item; level = l; telling = at.telling; constants = at.constants }

-- a level is no part of the work
same_work : (at : Parts) (l : ℕ) → SameWork at (with_level at l)
same_work at l = record { store = refl; index = refl; faults = refl; item = refl; constants = refl }

-- what was there stays through a call at another level, and the level after it
pub deeper_goes : (at after : Parts) (l m : ℕ) → Goes (with_level at l) after → Goes at (with_level after m)
deeper_goes at after l m g = inner_goes at (with_level at l) after (with_level after m) (same_work at l) g (same_work after m) g.telling

-- so it is with the types that are recorded
pub deeper_untyped : (at after : Parts) (l m : ℕ) → Untyped (with_level at l) after → Untyped at (with_level after m)
deeper_untyped at after l m x = record { types = x.types }

-- and with what something is recorded for
pub level_noted : (at : Parts) (l : ℕ) (U : List ℕ) → AreNoted U at → AreNoted U (with_level at l)
level_noted at l U noted k i = let x = noted k i in record { item = x.item; place = x.place; small = x.small; number = x.number; seen = x.seen; at = x.at }

-- what changes the store alone at another level does so
pub deeper_store : (at after : Parts) (l : ℕ) → OnlyStore (with_level at l) after → OnlyStore at (with_level after at.level)
deeper_store at after l x = record { index = x.index; faults = x.faults; written = x.written; item = x.item; level = refl; telling = x.telling; constants = x.constants }
