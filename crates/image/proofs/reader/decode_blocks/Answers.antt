use Rattle.std.proofs.Common.{◌≡◌, ℕ, ◌+◌, ◌-◌, ◌≤◌, List, [], ◌++◌, length, get_or, take, drop, map, sym, ap, ◌∙◌, arith, length-append}
use Rattle.std.proofs.lemmas.List.{drop-drop, length-map}
use Rattle.std.proofs.lemmas.List.Folds.{length-flat_map-take}
use Rattle.std.proofs.lemmas.Slice.{take-put_mid, drop-put_mid}
use Rattle.machine.specs.declared.instruction.Instruction.{Instruction}
use Rattle.image.specs.Layout.{decode, layout}
use Rattle.image.specs.Reading.{held, content}
use Rattle.image.proofs.Pieces.{joined_next}
use Rattle.image.proofs.Chunks.{length_instructions}
use Rattle.image.proofs.reader.decode_blocks.Goals as goal

drop_further : {X : Type 0} (n at : ℕ) (xs ys : List X) → drop at xs ≡ drop at ys → drop (at + n) xs ≡ drop (at + n) ys
drop_further n at xs ys e =
    sym (drop-drop n at xs) ∙ ap (drop n) e ∙ drop-drop n at ys

pub slice_bounds-decode_part-end : goal.slice_bounds-decode_part-end
slice_bounds-decode_part-end c =
    let blocks = c.args.blocks.now in
    let block = get_or blocks c.loop-block.block-index [] in
    let size = length_instructions layout (get_or block 8 0) (drop 12 block) in
    let fits = length-flat_map-take (held layout) blocks c.loop-block.block-index [] c.loop-block-test.true in
    omega (arith, c.slots_of-slots.ensures.len, c.loop-block.invariant.counted, c.requires.room)

pub loop-block-preserved : goal.loop-block-preserved
loop-block-preserved c =
    let blocks = c.args.blocks.now in
    let i = c.loop-block.block-index in
    let at = c.loop-block.at in
    let code = c.loop-block.code in
    let n = length c.slots_of-slots.result.now in
    let part : List Instruction = c.decode_part.new.part in
    let is : part ≡ held layout (get_or blocks i []) = c.decode_part.ensures ∙ ap (map decode) c.slots_of-slots.ensures.slots in
    let long : length part ≡ n = ap length c.decode_part.ensures ∙ length-map c.slots_of-slots.result.now decode in
    let grown : content layout (take (i + 1) blocks) ≡ content layout (take i blocks) ++ held layout (get_or blocks i []) =
    joined_next (held layout) blocks i [] c.loop-block-test.true in
    let whole = ap length grown ∙ length-append (content layout (take i blocks)) (held layout (get_or blocks i [])) in
    let size = ap length is in
    let fits = length-flat_map-take (held layout) blocks i [] c.loop-block-test.true in
    let room : at + n ≤ length code = omega (arith, c.loop-block.invariant.counted, c.requires.room) in
    let kept : drop (at + n) code ≡ drop (at + n) c.args.code.now =
    drop_further n at code c.args.code.now c.loop-block.invariant.rest in
    record {
      counted = omega (arith, c.loop-block.invariant.counted);
      front =
          take-put_mid at (at + n - at) code part (at + n) (omega arith) (omega arith)
          ∙ ap (λ xs. xs ++ part) c.loop-block.invariant.front
          ∙ ap (λ xs. content layout (take i blocks) ++ xs) is
          ∙ sym grown;
      rest = drop-put_mid at (at + n - at) code part (at + n) (omega arith) (omega arith) (omega arith) ∙ kept;
    }
