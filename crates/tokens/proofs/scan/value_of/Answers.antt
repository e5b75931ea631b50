use Rattle.std.proofs.Common.{◌∙◌}
use Rattle.tokens.proofs.Numbers.{value_over}
use Rattle.tokens.proofs.scan.value_of.Goals as goal

pub returns-in_err-value : goal.returns-in_err-value
returns-in_err-value c =
    let over = value_over c.args.digits.now c.loop-d.value c.loop-d.d-index c.loop-d.invariant.1 in
    c.from_residual.ensures ∙ over c.loop-d-test.true c.in_err-value.ensures
