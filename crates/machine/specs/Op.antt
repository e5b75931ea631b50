use Rattle.std.specs.Prelude.{◌≡◌, ℕ, ◌<◌, Bool, not, ◌&&◌, ◌==◌, nat_le, List, codes, Result, MatchResult}
use Rattle.machine.specs.declared.op.Op.{Op}
use Rattle.machine.specs.declared.op.Op.TheVariants.{Halt, In, Out, Add, Sub, Mul, Div, Ld, St, Lda, Ldc, Jlt, Jle, Jgt, Jge, Jeq, Jne}
use Rattle.machine.specs.declared.op.UnknownOp.{UnknownOp}

abbrev pub op_number : Op → ℕ
op_number Halt = 0
op_number In = 1
op_number Out = 2
op_number Add = 3
op_number Sub = 4
op_number Mul = 5
op_number Div = 6
op_number Ld = 7
op_number St = 8
op_number Lda = 9
op_number Ldc = 10
op_number Jlt = 11
op_number Jle = 12
op_number Jgt = 13
op_number Jge = 14
op_number Jeq = 15
op_number Jne = 16

abbrev pub mnemonic : Op → List ℕ
mnemonic Halt = codes "HALT"
mnemonic In = codes "IN"
mnemonic Out = codes "OUT"
mnemonic Add = codes "ADD"
mnemonic Sub = codes "SUB"
mnemonic Mul = codes "MUL"
mnemonic Div = codes "DIV"
mnemonic Ld = codes "LD"
mnemonic St = codes "ST"
mnemonic Lda = codes "LDA"
mnemonic Ldc = codes "LDC"
mnemonic Jlt = codes "JLT"
mnemonic Jle = codes "JLE"
mnemonic Jgt = codes "JGT"
mnemonic Jge = codes "JGE"
mnemonic Jeq = codes "JEQ"
mnemonic Jne = codes "JNE"

-- the result is the op with this number, or an error with a number that no op has
abbrev pub Decodes : ℕ → Result Op UnknownOp → Type 0
Decodes number r = MatchResult r (λ op. op_number op ≡ number) (λ e. (e.0 ≡ number) × (16 < number))

-- whether an op of this number uses field s: all but 0 to 2 and 10
abbrev pub uses_s : ℕ → Bool
uses_s op = nat_le 3 op && not (op == 10)

-- field t: 3 to 6
abbrev pub uses_t : ℕ → Bool
uses_t op = nat_le 3 op && nat_le op 6

-- field d: 7 and above
abbrev pub uses_d : ℕ → Bool
uses_d op = nat_le 7 op
