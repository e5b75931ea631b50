use Rattle.std.specs.Prelude.{ℕ, ◌+◌, List, [], ◌++◌, Some, None, Option, if◌then◌else◌, is_ok}
use Rattle.port.specs.Ways.{Ways}
use Rattle.machine.specs.declared.instruction.Instruction.{Instruction}
use Rattle.machine.specs.declared.stop.Stop.{Stop}
use Rattle.machine.specs.Machine.{State, start, act}
use Rattle.machine.specs.Run.{Event, Steps, Outcome, run_over, Next}
use Rattle.image.specs.Layout.{layout}
use Rattle.image.specs.Reading.{code_of}
use Rattle.day.specs.declared.Command.{Command}
use Rattle.day.specs.declared.Command.TheVariants.{Load, Run, Restart, Unload}
use Rattle.day.specs.Answers.{Reply}

-- The day book: a machine with its code and number of cells, and since its start the events, the steps and the last stop.
pub record Book : Type 0 where
  pub code : List Instruction
  pub size : ℕ
  pub state : State
  pub events : List Event
  pub steps : ℕ
  pub last : Option Stop

abbrev pub opened : List Instruction → ℕ → Book
opened code size = record { code = code; size = size; state = start size; events = []; steps = 0; last = None }

abbrev pub continued : {M : Type 0} → Book → Outcome M → Book
continued b o = record {
  code = b.code;
  size = b.size;
  state = o.state;
  events = b.events ++ o.events;
  steps = b.steps + o.steps;
  last = Some o.stop;
}

-- What the book is fed with: a granted load with the image's code and the memory's size, a granted run with its grant and
-- the port's meaning at its start, a granted restart, or any other call.
pub data Entry (M : Type 0) : Type 0 where
  load : List Instruction → ℕ → Entry M
  run : ℕ → M → Entry M
  restart other : Entry M

abbrev pub asked : {M : Type 0} → Command → ℕ → M → Entry M
asked (Load image) cells m = load (code_of layout image.now) cells
asked (Run grant) cells m = run grant m
asked Restart cells m = restart
asked Unload cells m = other

-- the entry of a command, of its reply, of the cells and the port's meaning that were handed in
abbrev pub entry : {M : Type 0} → Command → Reply → ℕ → M → Entry M
entry c r cells m = if is_ok r then asked c cells m else other

abbrev pub fed : {M : Type 0} → Ways M → Entry M → Option Book → Option Book
fed w (load code size) b = Some (opened code size)
fed w (run grant m) None = None
fed w (run grant m) (Some b) = Some (continued b (run_over w b.code grant b.state m))
fed w restart None = None
fed w restart (Some b) = Some (opened b.code b.size)
fed w other b = b

abbrev pub LastIsNext : Book → Option Stop → Type 0
LastIsNext b None = Unit {0}
LastIsNext b (Some stop) = Next (act b.code b.state) stop

-- the book's machine is reached from the start by exactly its steps with exactly its events, and a last stop other than a
-- spent grant is what the machine does next
pub record Reached (b : Book) : Type 0 where
  pub steps : Steps b.code (start b.size) b.steps b.events b.state
  pub stop : LastIsNext b b.last
