-- Where the lines of a text start, behind its line feeds.
use Rattle.std.specs.Prelude.{◌≡◌, ℕ, ◌+◌, ◌-◌, ◌<◌, ◌≤◌, ◌^◌, ◌==◌, List, [], ◌∷◌, length, slice_index, if◌then◌else◌}
use Rattle.std.specs.List.Sorted.{IsPartitionPoint}
use Rattle.text_model.specs.Lines.{line_feed}

-- the places behind the line feeds of bytes, the first of which stands at `at`
abbrev pub starts_from : ℕ → List ℕ → List ℕ
starts_from at [] = []
starts_from at (b ∷ bs) = if b == line_feed then (at + 1) ∷ starts_from (at + 1) bs else starts_from (at + 1) bs

-- the places are those where the second and later lines of a text start
pub record HasStarts (text starts : List ℕ) : Type 0 where
  pub starts_are : starts ≡ starts_from 0 text

-- each place has that many bytes before it
abbrev pub AllBehind : ℕ → List ℕ → Type 0
AllBehind cut starts = (k : ℕ) → k < length starts → cut ≤ slice_index starts k

-- each place is a `u32` too once bytes before it go and others come
abbrev pub AllMovable : ℕ → ℕ → List ℕ → Type 0
AllMovable cut added starts = (k : ℕ) → k < length starts → slice_index starts k - cut + added < 2 ^ 32

-- a place parts some places: so many of them are at most the place, and the others behind it
pub record PartsAt (starts : List ℕ) (place count : ℕ) : Type 0 where
  pub bound : count ≤ length starts
  pub parts : IsPartitionPoint (λ t. t ≤ place) (λ t. place < t) starts count
