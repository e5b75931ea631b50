use Rattle.std.proofs.Common.{◌≡◌, ◌*◌, take}
use Rattle.std.specs.List.{flat_map}
use Rattle.image.specs.Layout.{encode}
use Rattle.image.proofs.encode.encode_part.Given as goal

abbrev pub invariant-loop-k : goal.invariant-loop-k
invariant-loop-k l = take (8 * l.k) l.bytes ≡ flat_map encode (take l.k l.part)
