use Rattle.std.specs.Prelude.{◌≡◌, ℕ, zero, suc, ◌+◌, if◌then◌else◌, List, [], ◌∷◌, ◌++◌, ℤ, Some, None, FitsSigned}
use Rattle.std.specs.Int.{w32}
use Rattle.word.specs.Arithmetic.{word}
use Rattle.port.specs.Ways.{Ways}
use Rattle.machine.specs.declared.instruction.Instruction.{Instruction}
use Rattle.machine.specs.declared.stop.Stop.{Stop}
use Rattle.machine.specs.declared.stop.Stop.TheVariants.{Halt, Divisor, Address, Place, Waiting, Blocked, Spent}
use Rattle.machine.specs.Machine.{State, Cause, halt, divisor, address, place, Act, silent, takes, puts, stops, act}

-- a number taken from a port, or put to it
pub data Event : Type 0 where
  took gave : ℤ → Event

-- so many steps with these events, whatever port gave the numbers
pub data Steps (code : List Instruction) : State → ℕ → List Event → State → Type 0 where
  none : {s : State} → Steps code s 0 [] s
  silently : {s t u : State} {n : ℕ} {es : List Event} → act code s ≡ silent t → Steps code t n es u → Steps code s (suc n) es u
  taking : {s u : State} {f : ℤ → State} {n : ℕ} {es : List Event} → act code s ≡ takes f
      → (v : ℤ) → FitsSigned w32 v → Steps code (f v) n es u → Steps code s (suc n) (took v ∷ es) u
  giving : {s t u : State} {v : ℤ} {n : ℕ} {es : List Event} → act code s ≡ puts v t
      → Steps code t n es u → Steps code s (suc n) (gave v ∷ es) u

abbrev pub stop_of : Cause → Stop
stop_of (halt r) = Halt r
stop_of divisor = Divisor
stop_of address = Address
stop_of place = Place

-- One act over a port: it ends the run and changes nothing, or it is a step.
pub data Turn (M : Type 0) : Type 0 where
  ends : Stop → Turn M
  goes : State → M → Turn M

-- A number of any size may wait in a meaning, but what a port gives has 32 bits.
abbrev pub turn : {M : Type 0} → Ways M → Act → M → Turn M
turn w (silent s) m = goes s m
turn w (takes f) m = elim (w.waiting m) [ Some v ↦ goes (f (word v)) (w.taken m) | None ↦ ends Waiting ]
turn w (puts v s) m = if w.accepts m v then goes s (w.became m v) else ends (Blocked v)
turn w (stops c) m = ends (stop_of c)

-- the events of an act that is a step
abbrev pub events_of : {M : Type 0} → Ways M → Act → M → List Event
events_of w (silent s) m = []
events_of w (takes f) m = elim (w.waiting m) [ Some v ↦ took (word v) ∷ [] | None ↦ [] ]
events_of w (puts v s) m = gave v ∷ []
events_of w (stops c) m = []

-- what a run leaves, and the events on its way
pub record Outcome (M : Type 0) : Type 0 where
  pub stop : Stop
  pub steps : ℕ
  pub events : List Event
  pub state : State
  pub port : M

abbrev pub ended : {M : Type 0} → Stop → State → M → Outcome M
ended x s m = record { stop = x; steps = 0; events = []; state = s; port = m }

-- an outcome after so many steps with these events
abbrev pub after : {M : Type 0} → ℕ → List Event → Outcome M → Outcome M
after n es o = record { stop = o.stop; steps = n + o.steps; events = es ++ o.events; state = o.state; port = o.port }

-- The run of at most so many steps over a port.
unfoldable pub run_over : {M : Type 0} → Ways M → List Instruction → ℕ → State → M → Outcome M
run_over w code zero s m = ended Spent s m
run_over w code (suc n) s m = elim (turn w (act code s) m) [
  | ends x ↦ ended x s m
  | goes t k ↦ after 1 (events_of w (act code s) m) (run_over w code n t k)
]

-- an outcome but for its events, which no store holds
pub record Told (M : Type 0) : Type 0 where
  pub stop : Stop
  pub steps : ℕ
  pub state : State
  pub port : M

abbrev pub told : {M : Type 0} → Outcome M → Told M
told o = record { stop = o.stop; steps = o.steps; state = o.state; port = o.port }

-- a stop other than for a spent grant is what the machine does next
abbrev pub Next : Act → Stop → Type 0
Next a (Halt r) = a ≡ stops (halt r)
Next a Divisor = a ≡ stops divisor
Next a Address = a ≡ stops address
Next a Place = a ≡ stops place
Next a Waiting = (f : ℤ → State) × (a ≡ takes f)
Next a (Blocked v) = (s : State) × (a ≡ puts v s)
Next a Spent = Unit {0}
