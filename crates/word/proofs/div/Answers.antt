use Rattle.std.proofs.Common.{refl, rules}
use Rattle.std.specs.Int.{int_wrap}
use Rattle.word.specs.Arithmetic.{Samples}
use Rattle.word.proofs.div.Goals as goal

samples : Samples
unfolding int_wrap
samples = record { seven_by_two = refl; minus_seven_by_two = refl; smallest_by_minus_one = refl; smallest_below_one = refl }

pub returns : goal.returns
returns c = record { value = search rules; samples = samples }
