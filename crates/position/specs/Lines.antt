-- Lines of a text; byte 10 ends a line.
use Rattle.std.specs.Prelude.{◌≡◌, ℕ, ◌+◌, ◌-◌, ◌<◌, ◌≤◌, ◌⊎◌, List, length, take, ◌==◌, ◌≢◌, slice_index, count_by}
use Rattle.position.specs.declared.Position.{Position}

-- the number of line ends
abbrev pub line_ends : List ℕ → ℕ
line_ends bs = count_by (λ b. b == 10) bs

-- no line ends from i up to j
abbrev pub Unbroken : List ℕ → ℕ → ℕ → Type 0
Unbroken text i j = (k : ℕ) → i ≤ k → k < j → slice_index text k ≢ 10

-- The byte at a place stands in the line with this number, which begins and ends there, at this column.
pub record Stands (text : List ℕ) (place : ℕ) (p : Position) : Type 0 where
  pub line : p.line ≡ 1 + line_ends (take place text)
  pub column : p.start + p.column ≡ place + 1
  pub begins : p.start ≤ place
  pub ends : place ≤ p.end
  pub within : p.end ≤ length text
  pub unbroken : Unbroken text p.start p.end
  pub first : (p.start ≡ 0) ⊎ (slice_index text (p.start - 1) ≡ 10)
  pub last : (p.end ≡ length text) ⊎ (slice_index text p.end ≡ 10)

-- the start of the last line of a text
pub record Before (text : List ℕ) (start : ℕ) : Type 0 where
  pub begins : start ≤ length text
  pub unbroken : Unbroken text start (length text)
  pub first : (start ≡ 0) ⊎ (slice_index text (start - 1) ≡ 10)

-- the end of the first line of a text
pub record After (text : List ℕ) (end : ℕ) : Type 0 where
  pub within : end ≤ length text
  pub unbroken : Unbroken text 0 end
  pub last : (end ≡ length text) ⊎ (slice_index text end ≡ 10)
