-- Faults of an input, and the answers that they make.
use Rattle.std.specs.Prelude.{ℕ, List, ◌++◌, Some, None, Err, codes, Option, Result}
use Rattle.std.specs.Fmt.{decimal}
use Rattle.refusal.specs.declared.Reason.{Reason}
use Rattle.refusal.specs.declared.Refusal.{Refusal}
use Rattle.refusal.specs.Card.{number_of}

abbrev pub refusal : Reason → ℕ → Refusal
refusal reason place = record { reason = reason; place = place }

-- an answer, unless there is a fault
abbrev pub unless : {X : Type 0} → Option Refusal → Result X Refusal → Result X Refusal
unless None answer = answer
unless (Some fault) answer = Err fault

-- the first of two faults
abbrev pub or_else : Option Refusal → Option Refusal → Option Refusal
or_else None later = later
or_else (Some fault) later = Some fault

-- the line of a refusal, with its number on the card
abbrev pub line_of : Refusal → List ℕ
line_of r = codes "refused " ++ (decimal (number_of r.reason) ++ (codes " at " ++ decimal r.place))
