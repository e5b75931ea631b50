use Rattle.std.proofs.Common.{◌≡◌, length, take, drop}
use Rattle.image.specs.Layout.{layout}
use Rattle.image.specs.Reading.{content}
use Rattle.image.proofs.reader.decode_blocks.Given as goal

abbrev pub invariant-loop-block : goal.invariant-loop-block
invariant-loop-block l = record {
  counted : l.at ≡ length (content layout (take l.block-index l.blocks));
  front : take l.at l.code ≡ content layout (take l.block-index l.blocks);
  rest : drop l.at l.code ≡ drop l.at l.initial.code;
}
