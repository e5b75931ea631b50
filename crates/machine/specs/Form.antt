use Rattle.std.specs.Prelude.{Bool, ◌&&◌, ◌||◌, ◌==◌, nat_le}
use Rattle.word.specs.Arithmetic.{is_zero}
use Rattle.machine.specs.declared.instruction.Instruction.{Instruction}
use Rattle.machine.specs.Op.{uses_s, uses_t, uses_d}

-- The form of an instruction: op is 0 to 16 and r, s, t are 0 to 7; and s, t and d are 0 in an op that does not use them.
abbrev pub formed : Instruction → Bool
formed i =
    nat_le i.op 16 && (nat_le i.r 7 && (nat_le i.s 7 && (nat_le i.t 7
    && ((i.t == 0 || uses_t i.op)
    && ((uses_d i.op || is_zero i.d)
    && (i.s == 0 || uses_s i.op))))))
