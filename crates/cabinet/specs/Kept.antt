use Rattle.std.specs.Prelude.{◌≡◌, ℕ, ◌≤◌, List, length, ℤ}

-- what a loaded cabinet keeps: the machine's registers, its number of instructions, and the lengths of the stores that it was
-- loaded with
pub record Kept : Type 0 where
  pub registers : List ℤ
  pub count : ℕ
  pub slots : ℕ
  pub cells : ℕ

-- what is true of every loaded cabinet
pub record Fit (k : Kept) : Type 0 where
  pub registers : length k.registers ≡ 8
  pub count : k.count ≤ k.slots
  pub least : 16 ≤ k.cells
  pub most : k.cells ≤ 16384
