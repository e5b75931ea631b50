use Rattle.std.proofs.Common.{◌≡◌, ℕ, ◌+◌, ◌*◌, ◌<◌, ◌-◌, List, length, take, drop, ap, ◌∙◌, arith, rules}
use Rattle.std.specs.Prelude.{slice_index, ◌==◌}
use Rattle.std.proofs.lemmas.List.{get_or-drop}
use Rattle.std.proofs.lemmas.List.Elements.{All-from_get_or}
use Rattle.crc.specs.Crc.{crc, sealed}
use Rattle.crc.proofs.Burst.{burst_detected}
use Rattle.crc.proofs.is_sealed.Goals as goal

-- a text is sealed by the two parts that are cut from it
sealed_by : (text covered check : List ℕ) → covered ≡ take (length text - 2) text → check ≡ drop (length text - 2) text → length covered + 2 ≡ length text
    → (crc covered == slice_index check 0 * 256 + slice_index check 1) ≡ sealed text
sealed_by text covered check front back whole =
    let n : ℕ = length text - 2 in
    let here : n + 0 ≡ n = omega arith in
    let first : slice_index check 0 ≡ slice_index text n = ap (λ xs. slice_index xs 0) back ∙ get_or-drop n text 0 0 ∙ ap (slice_index text) here in
    let second : slice_index check 1 ≡ slice_index text (n + 1) = ap (λ xs. slice_index xs 1) back ∙ get_or-drop n text 1 0 in
    let same : crc covered ≡ crc (take n text) = ap crc front in
    grind (arith, first, second, same)

pub returns : goal.returns
returns c =
    let bytes = All-from_get_or (λ b. b < 256) c.args.text.now 0 (λ i _. omega (arith, c.type_inv.text i)) in
    record { value = search (rules, sealed_by); burst = burst_detected c.args.text.now bytes }
