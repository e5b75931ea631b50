use Rattle.std.specs.Prelude.{ℕ}
use Rattle.machine.specs.declared.stop.Stop.{Stop}
use Rattle.machine.specs.declared.stop.Stop.TheVariants.{Halt, Divisor, Address, Place, Waiting, Blocked, Spent}

-- the number that a run's reason has for the installer
abbrev pub reason_of : Stop → ℕ
reason_of (Halt r) = r
reason_of Divisor = 8
reason_of Address = 9
reason_of Place = 10
reason_of Waiting = 20
reason_of (Blocked v) = 21
reason_of Spent = 22
