use Rattle.std.proofs.Common.{◌≡◌, ℕ, ◌+◌, ◌-◌, ◌*◌, Bool, true, false, ◌&&◌, List, length, get_or, take, drop, map, sym, refl, ap, ◌∙◌}
use Rattle.std.specs.List.{list_all}
use Rattle.std.specs.Simd.{first_chunks}
use Rattle.std.proofs.lemmas.List.Folds.{list_all-map}
use Rattle.std.proofs.lemmas.Slice.{between_is}
use Rattle.machine.specs.Form.{formed}
use Rattle.image.specs.Layout.{decode, layout}
use Rattle.image.specs.Reading.{all_zero, body_right}
use Rattle.image.proofs.reader.is_body_right.Goals as goal

-- the two tests, on the parts of the block that the code lends
body : (block : List ℕ) (slots : List (List ℕ)) (a b : Bool) → slots ≡ first_chunks 8 (get_or block 8 0) (drop 12 block)
    → length slots ≡ get_or block 8 0 → a ≡ list_all (λ slot. formed (decode slot)) slots
    → b ≡ all_zero (take (510 - (12 + 8 * length slots)) (drop (12 + 8 * length slots) block))
    → (a && b) ≡ body_right layout block
body block slots a b are long p q =
    let chunks = first_chunks 8 (get_or block 8 0) (drop 12 block) in
    ap (λ x. x && b) (p ∙ ap (list_all (λ slot. formed (decode slot))) are ∙ sym (list_all-map formed decode chunks))
    ∙ ap (λ x. list_all formed (map decode chunks) && x)
    (q ∙ ap all_zero (between_is block (12 + 8 * length slots) 510) ∙ ap (λ n. all_zero (drop (12 + 8 * n) (take 510 block))) long)

pub returns-then-are_formed : goal.returns-then-are_formed
returns-then-are_formed c =
    body c.args.block.now c.slots_of-slots.result.now true c.are_zero.result c.slots_of-slots.ensures.slots c.slots_of-slots.ensures.len
    c.if-are_formed.ensures c.are_zero.ensures

pub returns-else-are_formed : goal.returns-else-are_formed
returns-else-are_formed c =
    c.if-are_formed.false
    ∙ body c.args.block.now c.slots_of-slots.result.now false _ c.slots_of-slots.ensures.slots c.slots_of-slots.ensures.len
    c.if-are_formed.ensures refl
