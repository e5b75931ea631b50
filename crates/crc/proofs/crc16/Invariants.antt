use Rattle.std.proofs.Common.{◌≡◌, drop}
use Rattle.crc.specs.Crc.{feed, bits, crc}
use Rattle.crc.proofs.crc16.Given as goal

abbrev pub invariant-loop-byte : goal.invariant-loop-byte
invariant-loop-byte l = feed (bits (drop l.byte-index l.bytes)) l.register ≡ crc l.bytes
