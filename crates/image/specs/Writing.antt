use Rattle.std.specs.Prelude.{ℕ, ◌*◌, ◌/◌, ◌<◌, not, if◌then◌else◌, ◌&&◌, List, ◌++◌, length, drop, Ok, Err, Result, FitsSigned, ◌==◌, nat_le, slice_index_or}
use Rattle.std.specs.Int.{w32}
use Rattle.std.specs.List.{prefix_len}
use Rattle.refusal.specs.declared.Refusal.{Refusal}
use Rattle.refusal.specs.declared.Reason.TheVariants.{InstructionForm, CodeLength, ImageStoreTooShort}
use Rattle.machine.specs.declared.instruction.Instruction.{Instruction}
use Rattle.refusal.specs.Faults.{refusal}
use Rattle.image.specs.Layout.{Layout, blank}
use Rattle.image.specs.Blocks.{blocks_for, image}

-- in the first n instructions d is a number of 32 bits
abbrev pub Words : List Instruction → ℕ → Type 0
Words code n = (k : ℕ) → k < n → FitsSigned w32 (slice_index_or code k blank).d

module _ {A : Type 0} (l : Layout A) where
  -- what write answers for a code and a store of so many bytes
  abbrev pub write_reply : List A → ℕ → Result ℕ Refusal
  write_reply code room =
      let n : ℕ = length code in
      let formed : ℕ = prefix_len l.formed code in
      if not (nat_le 1 n && nat_le n (l.limit * l.capacity)) then Err (refusal CodeLength 0)
      else if not (formed == n) then Err (refusal InstructionForm (formed / l.capacity))
      else if not (nat_le (512 * blocks_for l n) room) then Err (refusal ImageStoreTooShort 0)
      else Ok (blocks_for l n)

  -- what it leaves in the store
  abbrev pub store_after : ℕ → List A → List ℕ → Result ℕ Refusal → List ℕ
  store_after number code store (Ok blocks) = image l number code ++ drop (512 * blocks) store
  store_after number code store (Err _) = store
