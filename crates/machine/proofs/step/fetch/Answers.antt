use Rattle.std.proofs.Common.{arith, rules}
use Rattle.std.proofs.lemmas.Grind.{common_steps}
use Rattle.machine.specs.Machine.{act}
use Rattle.machine.proofs.Turns.{stands}
use Rattle.machine.proofs.step.fetch.Goals as goal

pub returns-in_err-i : goal.returns-in_err-i
unfolding act
returns-in_err-i c = search rules

pub returns-in_err-formed_op : goal.returns-in_err-formed_op
unfolding act
returns-in_err-formed_op c = search rules

pub returns : goal.returns
returns c =
    stands _ _ _ _ (grind (arith, common_steps)) (grind (arith, common_steps))
    c.in_ok-formed_op.ensures.0 c.in_ok-formed_op.ensures.1
