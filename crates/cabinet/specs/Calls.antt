use Rattle.std.specs.Prelude.{ℕ, Bool, if◌then◌else◌, not, ◌&&◌, ◌||◌, List, ◌++◌, length, take, drop, ℤ, Ok, Err, Result, ◌==◌, nat_le}
use Rattle.refusal.specs.declared.Refusal.{Refusal}
use Rattle.refusal.specs.declared.Reason.TheVariants.{MemorySize, GrantSize, StoreMismatch}
use Rattle.refusal.specs.Faults.{refusal, unless}
use Rattle.port.specs.Ways.{Ways}
use Rattle.machine.specs.declared.instruction.Instruction.{Instruction}
use Rattle.machine.specs.declared.grant.Ran.{Ran}
use Rattle.machine.specs.Machine.{start}
use Rattle.machine.specs.Run.{Outcome, run_over}
use Rattle.image.specs.Layout.{layout}
use Rattle.image.specs.Reading.{length_fault, read_reply, code_of}
use Rattle.cabinet.specs.declared.Empty.{Empty}
use Rattle.cabinet.specs.Kept.{Kept}
use Rattle.cabinet.specs.declared.Refused.{Refused}
use Rattle.cabinet.specs.declared.Started.{Started}

-- What load answers: a fault of the image's length comes first, then the size of the memory, then faults of the blocks.
abbrev pub load_reply : List ℕ → ℕ → ℕ → Result ℕ Refusal
load_reply image slots cells =
    unless (length_fault layout (length image))
    (if nat_le 16 cells && nat_le cells 16384 then read_reply layout image slots else Err (refusal MemorySize 0))

-- what load answers and leaves
pub record Loading : Type 0 where
  pub result : Result Started Refused
  pub code : List Instruction
  pub memory : List ℤ

abbrev pub started : ℕ → ℕ → ℕ → Started
started n slots cells = record {
  cabinet = record { registers = (start cells).registers; count = n; slots = slots; cells = cells };
  count = n;
}

abbrev pub load_outcome : Empty → List ℕ → List Instruction → List ℤ → Loading
load_outcome empty image code memory = elim (load_reply image (length code) (length memory)) [
  | Ok n ↦ record {
    result = Ok (started n (length code) (length memory));
    code = code_of layout image ++ drop n code;
    memory = (start (length memory)).cells;
  }
  | Err e ↦ record { result = Err (record { refusal = e; cabinet = empty }); code = code; memory = memory }
]

-- a store is not of the length that it had at load
abbrev pub mismatched : Kept → List Instruction → List ℤ → Bool
mismatched l code memory = not (length code == l.slots) || not (length memory == l.cells)

-- what run answers and leaves
pub record Running (M : Type 0) : Type 0 where
  pub result : Result Ran Refusal
  pub cabinet : Kept
  pub memory : List ℤ
  pub port : M

abbrev pub went : {M : Type 0} → Kept → Outcome M → Running M
went l o = record {
  result = Ok (record { stop = o.stop; steps = o.steps });
  cabinet = record { registers = o.state.registers; count = l.count; slots = l.slots; cells = l.cells };
  memory = o.state.cells;
  port = o.port;
}

abbrev pub stayed : {M : Type 0} → Refusal → Kept → List ℤ → M → Running M
stayed e l memory m = record { result = Err e; cabinet = l; memory = memory; port = m }

abbrev pub run_outcome : {M : Type 0} → Ways M → Kept → List Instruction → List ℤ → M → ℕ → Running M
run_outcome w l code memory m grant =
    if mismatched l code memory then stayed (refusal StoreMismatch 0) l memory m
    else if nat_le 1 grant && nat_le grant 1000000
    then went l (run_over w (take l.count code) grant (record { registers = l.registers; cells = memory }) m)
    else stayed (refusal GrantSize 0) l memory m

-- what restart answers and leaves
pub record Restarting : Type 0 where
  pub result : Result (Unit {0}) Refusal
  pub cabinet : Kept
  pub memory : List ℤ

abbrev pub restart_outcome : Kept → List Instruction → List ℤ → Restarting
restart_outcome l code memory =
    if mismatched l code memory then record { result = Err (refusal StoreMismatch 0); cabinet = l; memory = memory }
    else record {
      result = Ok tt;
      cabinet = record { registers = (start (length memory)).registers; count = l.count; slots = l.slots; cells = l.cells };
      memory = (start (length memory)).cells;
    }
