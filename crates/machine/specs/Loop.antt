-- What the functions below `run` say of their part.
use Rattle.std.specs.Prelude.{◌≡◌, ◌<◌, true, ℤ, pos, List, Some, None, Option, Ok, Err, Result}
use Rattle.std.specs.Borrow.{Bor}
use Rattle.word.specs.Arithmetic.{sum}
use Rattle.port.specs.Ways.{Ways}
use Rattle.machine.specs.declared.instruction.Instruction.{Instruction}
use Rattle.machine.specs.declared.op.Op.{Op}
use Rattle.machine.specs.declared.step.Store.{Store}
use Rattle.machine.specs.declared.stop.Stop.{Stop}
use Rattle.machine.specs.Op.{op_number}
use Rattle.machine.specs.Machine.{State, state_of, Act, stops, place, register, with_register, act_of, act}
use Rattle.machine.specs.Run.{ends, goes, turn}

abbrev pub store_state : Store → State
store_state s = state_of s.registers.now s.cells.now

-- The new store refers to the registers and cells of the old, so what is written is written there.
pub record SameMemory (old new : Store) : Type 0 where
  pub registers : new.registers.ghost_name ≡ old.registers.ghost_name
  pub cells : new.cells.ghost_name ≡ old.cells.ghost_name

-- what an act over a port answers and leaves
abbrev pub Stepped : {M : Type 0} → Ways M → Act → State → M → Result (Unit {0}) Stop → State → M → Type 0
Stepped w a s m (Ok _) s' m' = turn w a m ≡ goes s' m'
Stepped w a s m (Err x) s' m' = (turn w a m ≡ ends x) × (s' ≡ s) × (m' ≡ m)

pub record NamesRegisters (i : Instruction) : Type 0 where
  pub r : i.r < 8
  pub s : i.s < 8
  pub t : i.t < 8

-- an instruction of this op acts at this place, with register 7 raised
pub record ActsAt (code : List Instruction) (p : ℤ) (op : Op) (i : Instruction) : Type 0 where
  pub registers : NamesRegisters i
  pub acts : (s : State) → register s 7 ≡ p → act code s ≡ act_of true (op_number op) i (with_register s 7 (sum p (pos 1)))

-- what stands at a place of the code
abbrev pub Fetched : List Instruction → ℤ → Option (Op × Bor Instruction) → Type 0
Fetched code p None = (s : State) → register s 7 ≡ p → act code s ≡ stops place
Fetched code p (Some x) = ActsAt code p x.0 x.1.now
