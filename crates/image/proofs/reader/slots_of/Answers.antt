use Rattle.std.proofs.Common.{◌≡◌, ◌/◌, length, get_or, take, drop, ap, ◌∙◌, arith, length-drop, length-take}
use Rattle.std.specs.Simd.{first_chunks}
use Rattle.image.proofs.Chunks.{take-first_chunks, first_chunks-take}
use Rattle.image.proofs.reader.slots_of.Goals as goal

pub returns-clause-slots : goal.returns-clause-slots
returns-clause-slots c =
    let block = c.args.block.now in
    let count = get_or block 8 0 in
    let size = length-take 498 (drop 12 block) in
    let left = length-drop 12 block in
    let all : length (take 498 (drop 12 block)) / 8 ≡ 62 = omega arith in
    ap (λ n. take n c.as_chunks.result.0.now) c.from.ensures
    ∙ ap (take count) (c.as_chunks.ensures.front ∙ ap (λ n. first_chunks 8 n (take 498 (drop 12 block))) all)
    ∙ take-first_chunks 8 count 62 (take 498 (drop 12 block)) c.requires
    ∙ first_chunks-take 8 count 498 (drop 12 block) (omega arith)
