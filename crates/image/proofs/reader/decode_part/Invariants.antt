use Rattle.std.proofs.Common.{◌≡◌, take, map}
use Rattle.image.specs.Layout.{decode}
use Rattle.image.proofs.reader.decode_part.Given as goal

abbrev pub invariant-loop-k : goal.invariant-loop-k
invariant-loop-k l = take l.k l.part ≡ map decode (take l.k l.slots)
