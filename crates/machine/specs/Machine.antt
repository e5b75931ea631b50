use Rattle.std.specs.Prelude.{ℕ, ◌-◌, Bool, true, false, if◌then◌else◌, not, ◌&&◌, List, length, replicate, ℤ, pos, Some, None, ◌==◌, int_le, int_lt, slice_index_or, slice_set, unsigned_abs}
use Rattle.word.specs.Arithmetic.{sum, difference, product, quotient, is_zero, less}
use Rattle.machine.specs.declared.instruction.Instruction.{Instruction}
use Rattle.machine.specs.Form.{formed}

-- The Tiny Machine, which does not know its port.
pub record State : Type 0 where
  pub registers : List ℤ
  pub cells : List ℤ

abbrev pub state_of : List ℤ → List ℤ → State
state_of registers cells = record { registers = registers; cells = cells }

-- at the start all is 0 but cell 0, which holds the number of the last cell
abbrev pub start : ℕ → State
start d = state_of (replicate 8 (pos 0)) (slice_set (replicate d (pos 0)) 0 (pos (d - 1)))

-- why an instruction stops of itself
pub data Cause : Type 0 where
  halt : ℕ → Cause
  divisor address place : Cause

-- what an instruction does, whatever the port
pub data Act : Type 0 where
  silent : State → Act
  takes : (ℤ → State) → Act
  puts : ℤ → State → Act
  stops : Cause → Act

-- whether a number is the index of one of n things
abbrev pub within : ℤ → ℕ → Bool
within a n = int_le (pos 0) a && int_lt a (pos n)

-- whether a jump goes on this number: 11 JLT, 12 JLE, 13 JGT, 14 JGE, 15 JEQ, 16 JNE
abbrev pub jumps : ℕ → ℤ → Bool
jumps op v =
    if op == 11 then less v (pos 0)
    else if op == 12 then int_le v (pos 0)
    else if op == 13 then less (pos 0) v
    else if op == 14 then int_le (pos 0) v
    else if op == 15 then is_zero v
    else not (is_zero v)

abbrev pub register : State → ℕ → ℤ
register s k = slice_index_or s.registers k (pos 0)

abbrev pub with_register : State → ℕ → ℤ → State
with_register s k v = state_of (slice_set s.registers k v) s.cells

abbrev pub with_cell : State → ℕ → ℤ → State
with_cell s k v = state_of s.registers (slice_set s.cells k v)

-- The act of an instruction that has the form or not, by its op; register 7 is raised already. The ops are
-- 0 HALT, 1 IN, 2 OUT, 3 ADD, 4 SUB, 5 MUL, 6 DIV, 7 LD, 8 ST, 9 LDA, 10 LDC, and then the jumps.
abbrev pub act_of : Bool → ℕ → Instruction → State → Act
act_of false op i s = stops place
act_of true op i s =
    let x : ℤ = register s i.s in
    let y : ℤ = register s i.t in
    let a : ℤ = sum i.d x in
    let inside : Bool = within a (length s.cells) in
    let becomes : ℤ → State = with_register s i.r in
    if op == 0 then stops (halt i.r)
    else if op == 1 then takes becomes
    else if op == 2 then puts (register s i.r) s
    else if op == 3 then silent (becomes (sum x y))
    else if op == 4 then silent (becomes (difference x y))
    else if op == 5 then silent (becomes (product x y))
    else if op == 6 then elim (quotient x y) [ Some q ↦ silent (becomes q) | None ↦ stops divisor ]
    else if op == 7 then (if inside then silent (becomes (slice_index_or s.cells (unsigned_abs a) (pos 0))) else stops address)
    else if op == 8 then (if inside then silent (with_cell s (unsigned_abs a) (register s i.r)) else stops address)
    else if op == 9 then silent (becomes a)
    else if op == 10 then silent (becomes i.d)
    else if jumps op (register s i.r) then silent (with_register s 7 a)
    else silent s

abbrev pub blank : Instruction
blank = record { op = 0; r = 0; s = 0; t = 0; d = pos 0 }

-- what the machine does next; register 7 is the next instruction's place, and is raised before it acts
unfoldable pub act : List Instruction → State → Act
act code s =
    let p : ℤ = register s 7 in
    let i : Instruction = slice_index_or code (unsigned_abs p) blank in
    if within p (length code) then act_of (formed i) i.op i (with_register s 7 (sum p (pos 1))) else stops place
