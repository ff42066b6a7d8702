-- What holds of a room: a block with bytes on both sides of a gap.
use Rattle.std.specs.Prelude.{◌≡◌, ℕ, ◌+◌, ◌^◌, ◌<◌, ◌≤◌, List, [], length, Option, Some, None}
use Rattle.std.specs.Mem.Slots.{slots_items, slots_filled, slots_ptr, slots_len}
use Rattle.std.specs.Mem.Slots.Ownership.{Filled}
use Rattle.core.specs.declared.slots.Slots.{Slots}
use Rattle.gap_bytes.specs.Gapped.{Gapped, gapped, outside}
use Rattle.gap_bytes.specs.declared.room.Room.{Room}

-- each place of the row holds its value, but for those of the gap
pub record HasGap (row : Slots ℕ) (front gap : ℕ) : Type 0 where
  pub within : front + gap ≤ slots_len row
  pub before : Filled (slots_filled row) 0 front
  pub after : Filled (slots_filled row) (front + gap) (slots_len row)

-- the bytes on both sides of a room's gap
abbrev pub room_bytes : Room → List ℕ
room_bytes r = outside r.front r.gap (slots_items r.row)

-- the parts of a room are those of one block, and its places hold bytes but for the gap
pub record IsRoom (r : Room) : Type 0 where
  pub start : r.start.ptr ≡ slots_ptr r.row
  pub claim : (r.claim.at ≡ slots_ptr r.row) × (r.claim.len ≡ slots_len r.row) × (r.claim.alloc ≡ r.alloc)
  pub gap : HasGap r.row r.front r.gap
  pub short : slots_len r.row < 2 ^ 34

-- what a contract sees: nothing where there is no room yet
abbrev pub gapped_in : Option Room → Gapped
gapped_in None = gapped [] 0
gapped_in (Some r) = gapped (room_bytes r) r.gap

-- a room that is there is one, and its bytes can be counted in 32 bits
abbrev pub IsKept : Option Room → Type 0
IsKept None = Unit {0}
IsKept (Some r) = IsRoom r × (length (room_bytes r) < 2 ^ 32)
