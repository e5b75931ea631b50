use Rattle.std.specs.Prelude.{ℕ, min, List, ◌++◌, length, take, drop, ℤ, Ok, Err, Result}
use Rattle.refusal.specs.declared.Refusal.{Refusal}
use Rattle.port.specs.Ways.{Ways}
use Rattle.machine.specs.declared.instruction.Instruction.{Instruction}
use Rattle.machine.specs.declared.grant.Ran.{Ran}
use Rattle.cabinet.specs.declared.Started.{Started}
use Rattle.cabinet.specs.declared.Refused.{Refused as RefusedLoad}
use Rattle.cabinet.specs.Calls.{Loading, load_outcome, Running, run_outcome, Restarting, restart_outcome}
use Rattle.day.specs.declared.Cabinet.{Cabinet}
use Rattle.day.specs.declared.Cabinet.TheVariants.{Off, On}
use Rattle.day.specs.declared.Command.{Command}
use Rattle.day.specs.declared.Command.TheVariants.{Load, Run, Restart, Unload}
use Rattle.day.specs.declared.Order.{Order}
use Rattle.day.specs.declared.Done.{Done}
use Rattle.day.specs.declared.Done.TheVariants as done
use Rattle.day.specs.declared.Denial.{Denial}
use Rattle.day.specs.declared.Denial.TheVariants.{Unfit, Refused}

-- what an order is answered
abbrev pub Reply : Type 0
Reply = Result Done Denial

-- a refusal, as a reply has it
abbrev pub denied : Refusal → Denial
denied e = Refused e.reason e.place

-- A cabinet with its stores and the meaning of its port.
pub record Setup (M : Type 0) : Type 0 where
  pub cabinet : Cabinet
  pub code : List Instruction
  pub memory : List ℤ
  pub port : M

abbrev pub setup_of : {M : Type 0} → Cabinet → List Instruction → List ℤ → M → Setup M
setup_of k code memory m = record { cabinet = k; code = code; memory = memory; port = m }

-- what a command is answered, and what it leaves
pub record Answer (M : Type 0) : Type 0 where
  pub reply : Reply
  pub setup : Setup M

abbrev pub unfit : {M : Type 0} → Setup M → Answer M
unfit s = record { reply = Err Unfit; setup = s }

abbrev pub load_answer : {M : Type 0} → Result Started RefusedLoad → List Instruction → List ℤ → M → Answer M
load_answer (Ok x) code memory m =
    record { reply = Ok (done.Loaded x.count); setup = record { cabinet = On x.cabinet; code = code; memory = memory; port = m } }
load_answer (Err x) code memory m =
    record { reply = Err (denied x.refusal); setup = record { cabinet = Off x.cabinet; code = code; memory = memory; port = m } }

abbrev pub run_reply : Result Ran Refusal → Reply
run_reply (Ok t) = Ok (done.Ran t)
run_reply (Err e) = Err (denied e)

abbrev pub restart_reply : Result (Unit {0}) Refusal → Reply
restart_reply (Ok _) = Ok done.Restarted
restart_reply (Err e) = Err (denied e)

-- What each command is answered in each state: the call that the state has, or that it has none.
abbrev pub answer_by : {M : Type 0} → Ways M → Cabinet → Command → Setup M → Answer M
answer_by w (Off e) (Load image) s =
    let a : Loading = load_outcome e image.now s.code s.memory in
    load_answer a.result a.code a.memory s.port
answer_by w (Off e) (Run grant) s = unfit s
answer_by w (Off e) Restart s = unfit s
answer_by w (Off e) Unload s = unfit s
answer_by w (On l) (Load image) s = unfit s
answer_by w (On l) (Run grant) s =
    let a : Running _ = run_outcome w l s.code s.memory s.port grant in
    record {
      reply = run_reply a.result;
      setup = record { cabinet = On a.cabinet; code = s.code; memory = a.memory; port = a.port };
    }
answer_by w (On l) Restart s =
    let a : Restarting = restart_outcome l s.code s.memory in
    record {
      reply = restart_reply a.result;
      setup = record { cabinet = On a.cabinet; code = s.code; memory = a.memory; port = s.port };
    }
answer_by w (On l) Unload s =
    record {
      reply = Ok done.Unloaded;
      setup = record { cabinet = Off (record {}); code = s.code; memory = s.memory; port = s.port };
    }

abbrev pub answer : {M : Type 0} → Ways M → Command → Setup M → Answer M
answer w c s = answer_by w s.cabinet c s

-- the fronts of the stores that an order hands in
abbrev pub slots_of : {M : Type 0} → Order → Setup M → ℕ
slots_of o s = min o.slots (length s.code)

abbrev pub cells_of : {M : Type 0} → Order → Setup M → ℕ
cells_of o s = min o.cells (length s.memory)

abbrev pub front : {M : Type 0} → Order → Setup M → Setup M
front o s = record {
  cabinet = s.cabinet;
  code = take (slots_of o s) s.code;
  memory = take (cells_of o s) s.memory;
  port = s.port;
}

-- the whole stores again, after an answer over the fronts
abbrev pub whole : {M : Type 0} → Order → Setup M → Answer M → Answer M
whole o s a = record {
  reply = a.reply;
  setup = record {
    cabinet = a.setup.cabinet;
    code = a.setup.code ++ drop (slots_of o s) s.code;
    memory = a.setup.memory ++ drop (cells_of o s) s.memory;
    port = a.setup.port;
  };
}

abbrev pub answer_order : {M : Type 0} → Ways M → Order → Setup M → Answer M
answer_order w o s = whole o s (answer w o.command (front o s))
