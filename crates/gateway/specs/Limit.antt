use Rattle.std.specs.Prelude.{ℕ, if◌then◌else◌, List, [], ◌∷◌, ℤ, pos, Some, None, Option, ◌==◌}
use Rattle.machine.specs.declared.instruction.Instruction.{Instruction}

abbrev pub simple : ℕ → ℤ → Instruction
simple op d = record { op = op; r = 0; s = 0; t = 0; d = d }

-- LDC 0,limit(0); OUT 0,0,0; HALT 0,0,0
abbrev pub limit_code : ℤ → List Instruction
limit_code limit = simple 10 limit ∷ simple 2 (pos 0) ∷ simple 0 (pos 0) ∷ []

-- the number that code loads first
abbrev pub first_loaded : List Instruction → Option ℤ
first_loaded [] = None
first_loaded (i ∷ is) = if i.op == 10 then Some i.d else None
