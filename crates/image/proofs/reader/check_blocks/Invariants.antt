use Rattle.std.proofs.Common.{◌≡◌, ◌*◌, ◌≤◌, length, take, drop}
use Rattle.image.specs.Layout.{layout}
use Rattle.image.specs.Reading.{first_fault, content}
use Rattle.image.proofs.reader.check_blocks.Given as goal

abbrev pub invariant-loop-index : goal.invariant-loop-index
invariant-loop-index l = record {
  faults : first_fault layout l.number (length l.blocks) l.index (drop l.index l.blocks)
      ≡ first_fault layout l.number (length l.blocks) 0 l.blocks;
  counted : l.total ≡ length (content layout (take l.index l.blocks));
  few : l.total ≤ 62 * l.index;
}
