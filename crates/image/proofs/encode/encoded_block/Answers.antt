use Rattle.std.proofs.Common.{◌+◌, ◌-◌, ◌*◌, length, ◌∙◌, arith}
use Rattle.image.proofs.Encoding.{block_written}
use Rattle.image.proofs.encode.encoded_block.Goals as goal

pub returns : goal.returns
returns c =
    let label = c.args.label in
    let part = c.args.part.now in
    block_written label.number label.index label.blocks part c.requires (12 + 8 * length part - 12)
    c.copy_from_slice.new.self c.encode_part.new.bytes c.copy_from_slice-2.new.self
    (omega arith) (c.copy_from_slice.ensures.after ∙ c.encoded_header.ensures) c.encode_part.ensures (c.copy_from_slice-2.ensures.after ∙ c.check_of-check.ensures)
