-- What undoing the writes of a trail gives.
use Rattle.std.specs.Prelude.{◌≡◌, List, [], ◌∷◌, ◌++◌}

-- the cells after undoing all writes of a list, the last one first
abbrev pub all_undone : {W : Type 0} → {C : Type 0} → (W → C → C) → List W → C → C
all_undone undone [] cells = cells
all_undone undone (w ∷ writes) cells = undone w (all_undone undone writes cells)

-- the cells went from one state to another by changes each of which was pushed on a trail: undoing it gives the cells before it
pub data Recorded {W : Type 0} {C : Type 0} (undone : W → C → C) (before : C) : List W → C → Type 0 where
  unchanged : Recorded undone before [] before
  changed : {writes : List W} {mid after : C} (w : W) → Recorded undone before writes mid → undone w after ≡ mid → Recorded undone before (writes ++ w ∷ []) after
