use Rattle.std.proofs.Common.{length}
use Rattle.tokens.proofs.Filling.{Filling}
use Rattle.tokens.proofs.lexer.fill.Given as goal

abbrev pub invariant-loop-next : goal.invariant-loop-next
invariant-loop-next l = Filling l.source l.rest l.count l.tokens l.initial.tokens

abbrev pub decreases-loop-next : goal.decreases-loop-next
decreases-loop-next l = length l.rest
