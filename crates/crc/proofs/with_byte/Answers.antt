use Rattle.std.proofs.Common.{sym, arith}
use Rattle.crc.proofs.WholeBytes.{byte_form}
use Rattle.crc.proofs.with_byte.Goals as goal

pub returns : goal.returns
returns c =
    simp (c.times_generator.ensures, c.from.ensures)
    (sym (byte_form c.args.byte c.args.register (omega arith) (omega arith)))
