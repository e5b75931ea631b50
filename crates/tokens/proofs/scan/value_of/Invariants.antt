use Rattle.std.proofs.Common.{◌≡◌, ◌≤◌}
use Rattle.tokens.specs.Lexemes.{decimal}
use Rattle.tokens.proofs.Numbers.{from}
use Rattle.tokens.proofs.scan.value_of.Given as goal

abbrev pub invariant-loop-d : goal.invariant-loop-d
invariant-loop-d l = (l.value ≤ 2147483647) × (from l.value l.digits l.d-index ≡ decimal l.digits)
