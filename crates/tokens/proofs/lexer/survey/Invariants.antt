use Rattle.std.proofs.Common.{length}
use Rattle.tokens.proofs.Survey.{Surveying}
use Rattle.tokens.proofs.lexer.survey.Given as goal

abbrev pub invariant-loop-after : goal.invariant-loop-after
invariant-loop-after l = Surveying l.source l.rest l.seen

abbrev pub decreases-loop-after : goal.decreases-loop-after
decreases-loop-after l = length l.rest
