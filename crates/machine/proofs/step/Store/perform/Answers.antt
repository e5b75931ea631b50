use Rattle.std.proofs.Common.{arith}
use Rattle.std.proofs.lemmas.Grind.{common_steps}
use Rattle.machine.proofs.Turns.{take_goes}
use Rattle.machine.proofs.step.Store.perform.Goals as goal

pub returns-in_ok-self-in-In-clause-stepped : goal.returns-in_ok-self-in-In-clause-stepped
returns-in_ok-self-in-In-clause-stepped g c = grind (arith, common_steps, take_goes)
