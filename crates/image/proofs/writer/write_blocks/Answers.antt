use Rattle.std.proofs.Common.{◌≡◌, ℕ, ◌*◌, ◌<◌, ◌++◌, length, drop, sym, ap, ◌∙◌, arith, length-drop}
use Rattle.std.specs.Iterator.Adapters.{enumerate_count}
use Rattle.image.specs.Layout.{layout}
use Rattle.image.specs.Blocks.{block, blocks_from, image}
use Rattle.image.proofs.Encoding.{sound}
use Rattle.image.proofs.Written.{write_row, write_done}
use Rattle.image.proofs.writer.write_blocks.Goals as goal

pub loop-index-preserved : goal.loop-index-preserved
loop-index-preserved c =
    let n : ℕ = enumerate_count c.loop-index.index-iterator in
    let w = c.loop-index.invariant in
    let steps = c.in-Some.ensures.steps in
    let left = length-drop (62 * n) c.args.code.now in
    let inside : n < c.args.blocks = omega (arith, c.requires.count, steps.0.1.2, ap length w.rest) in
    let made : c.copy_from_slice.new.self ≡ block layout c.args.number c.in-Some.index c.args.blocks c.in-Some.part.now =
    c.copy_from_slice.ensures.after ∙ rw c.new-label.ensures at c.encoded_block.ensures in
    let row = write_row layout sound c.args.number c.args.blocks c.args.code.now c.args.store.now n c.in-Some.index _ c.loop-index.store
    c.copy_from_slice.new.self _ _ c.in-Some.part.now _ inside (omega (arith, c.requires.room)) steps.1 steps.2 w.size w.rest
    steps.0.1.0 steps.0.1.1 made w.written in
    record { size = steps.0.0 ∙ w.size; rest = row.0; inside = omega arith; written = row.1 }

pub returns : goal.returns
unfolding image
returns c =
    let code = c.args.code.now in
    let blocks = c.args.blocks in
    let n : ℕ = enumerate_count c.loop-index.index-iterator in
    let w = c.loop-index.invariant in
    let size = length-drop (62 * n) code in
    let none : length (drop (62 * n) code) ≡ 0 = sym (ap length w.rest) ∙ c.in-None.ensures.steps.0.1.0 in
    let all : n ≡ blocks = omega (arith, w.inside, c.requires.count) in
    write_done layout sound c.args.number blocks code c.args.store.now n c.loop-index.store all w.written
    ∙ ap (λ k. blocks_from layout c.args.number k 0 k code ++ drop (512 * blocks) c.args.store.now) c.requires.count
