-- A change within sixteen successive bits of one block of a faultless image is found at that block.
use Rattle.std.proofs.Common.{◌≡◌, ℕ, zero, suc, ◌+◌, ◌-◌, ◌*◌, ◌/◌, ◌<◌, ◌≤◌, false, cond, leb, List, [], length, get_or, take, drop, Some, None, Ok, Err, sym, refl, ap, ◌∙◌, add-one, arith}
use Rattle.std.specs.Simd.{first_chunks}
use Rattle.std.proofs.lemmas.List.Elements.{All-take, All-drop}
use Rattle.std.proofs.lemmas.List.{drop-take, take-take}
use Rattle.refusal.specs.declared.Refusal.{Refusal}
use Rattle.refusal.specs.declared.Reason.TheVariants.{BlockCheck, CodeStoreTooShort}
use Rattle.crc.specs.Crc.{sealed, Bytes}
use Rattle.crc.proofs.Burst.{burst_detected}
use Rattle.refusal.specs.Faults.{refusal, or_else, unless}
use Rattle.refusal.proofs.Faults.{or_else_none}
use Rattle.image.specs.Layout.{Layout}
use Rattle.image.specs.Reading.{four_at, header_right, body_right, fault, first_fault, blocks_of, length_fault, image_fault, code_of, read_reply}
use Rattle.image.specs.Laws.{Damaged, DamageFound}
use Rattle.image.proofs.Scan.{next}
use Rattle.image.proofs.Chunks.{length-first_chunks, get_or-first_chunks}
use Rattle.image.proofs.Faults.{fault_is, right_parts}
use Rattle.image.proofs.ImageForm.{same_four}

abbrev block_at : List ℕ → ℕ → List ℕ
block_at image k = take 512 (drop (512 * k) image)

-- the blocks of a front are those of the whole
same_block : (a b : List ℕ) (index k : ℕ) → k < index → take (512 * index) a ≡ take (512 * index) b → block_at a k ≡ block_at b k
same_block a b index k h e =
    let rest = 512 * index - 512 * k in
    let size : 512 * k + rest ≡ 512 * index = omega arith in
    let inner : (xs : List ℕ) → block_at xs k ≡ take 512 (drop (512 * k) (take (512 * index) xs)) =
    λ xs. sym (ap (λ m. take 512 (drop (512 * k) (take m xs))) (sym size)
    ∙ ap (take 512) (drop-take (512 * k) rest xs) ∙ take-take 512 rest (drop (512 * k) xs) (omega arith)) in
    inner a ∙ ap (λ xs. take 512 (drop (512 * k) xs)) e ∙ sym (inner b)

module _ {A : Type 0} (l : Layout A) (number n : ℕ) (blocks : List (List ℕ)) where
  clean_from : first_fault l number n 0 blocks ≡ None → (k : ℕ) → k ≤ length blocks → first_fault l number n k (drop k blocks) ≡ None
  clean_from e zero h = e
  clean_from e (suc k) h =
      let both = or_else_none (fault l number k n (get_or blocks k [])) _ (sym (next l number n blocks k (omega arith)) ∙ clean_from e k (omega arith)) in
      ap (λ j. first_fault l number n j (drop j blocks)) (sym (add-one k)) ∙ both.1

  clean_at : first_fault l number n 0 blocks ≡ None → (k : ℕ) → k < length blocks → fault l number k n (get_or blocks k []) ≡ None
  clean_at e k h = (or_else_none (fault l number k n (get_or blocks k [])) _ (sym (next l number n blocks k h) ∙ clean_from e k (omega arith))).0

  walk_to : (i : ℕ) → i ≤ length blocks → ((k : ℕ) → k < i → fault l number k n (get_or blocks k []) ≡ None)
      → first_fault l number n 0 blocks ≡ first_fault l number n i (drop i blocks)
  walk_to zero h each = refl
  walk_to (suc i) h each =
      walk_to i (omega arith) (λ k less. each k (omega arith))
      ∙ next l number n blocks i (omega arith)
      ∙ ap (λ f. or_else f (first_fault l number n (i + 1) (drop (i + 1) blocks))) (each i (omega arith))
      ∙ ap (λ j. first_fault l number n j (drop j blocks)) (add-one i)

  stops_at : (i : ℕ) (e : Refusal) → i < length blocks → ((k : ℕ) → k < i → fault l number k n (get_or blocks k []) ≡ None)
      → fault l number i n (get_or blocks i []) ≡ Some e → first_fault l number n 0 blocks ≡ Some e
  stops_at i e h each found =
      walk_to i (omega arith) each
      ∙ next l number n blocks i h
      ∙ ap (λ f. or_else f (first_fault l number n (i + 1) (drop (i + 1) blocks))) found

module _ {A : Type 0} (l : Layout A) (index : ℕ) (original image : List ℕ) (each : Bytes image) (d : Damaged l index original image) where
  abbrev n : ℕ
  n = length original / 512

  parts : (length_fault l (length original) ≡ None) × (first_fault l (four_at original 0) n 0 (blocks_of original) ≡ None)
  parts = or_else_none (length_fault l (length original)) (first_fault l (four_at original 0) n 0 (blocks_of original)) d.faultless

  clean : (k : ℕ) → k < n → fault l (four_at original 0) k n (block_at original k) ≡ None
  clean k h =
      ap (fault l (four_at original 0) k n) (sym (get_or-first_chunks 512 n k original h))
      ∙ clean_at l (four_at original 0) n (blocks_of original) parts.1 k (omega (arith, length-first_chunks 512 n original))

  -- the damaged block
  unsealed : sealed (block_at image index) ≡ false
  unsealed =
      let was = (right_parts l (four_at original 0) index n (block_at original index) (clean index d.inside)).0 in
      burst_detected (block_at image index)
      (All-take (λ b. b < 256) 512 (drop (512 * index) image) (All-drop (λ b. b < 256) (512 * index) image each))
      (block_at original index)
      (All-take (λ b. b < 256) 512 (drop (512 * index) original) (All-drop (λ b. b < 256) (512 * index) original d.original_bytes))
      was d.burst

  -- the blocks before it, whose image number is as it was
  undamaged : (k : ℕ) → k < index → fault l (four_at image 0) k n (block_at image k) ≡ None
  undamaged k h =
      let first : block_at image 0 ≡ block_at original 0 = same_block image original index 0 (omega arith) d.before in
      let number : four_at image 0 ≡ four_at original 0 = sym (same_four image) ∙ ap (λ xs. four_at xs 0) first ∙ same_four original in
      let inside = d.inside in
      ap (λ m. fault l m k n (block_at image k)) number
      ∙ ap (fault l (four_at original 0) k n) (same_block image original index k h d.before)
      ∙ clean k (omega arith)

  fault_found : image_fault l image ≡ Some (refusal BlockCheck index)
  fault_found =
      let count : length image / 512 ≡ n = ap (λ m. m / 512) d.same_length in
      let found = sym (fault_is l (four_at image 0) index n (block_at image index) false
      (header_right l (four_at image 0) index n (block_at image index)) (body_right l (block_at image index)) (sym unsealed) refl refl) in
      ap (λ m. or_else (length_fault l m) (first_fault l (four_at image 0) (m / 512) 0 (first_chunks 512 (m / 512) image))) d.same_length
      ∙ ap (λ f. or_else f (first_fault l (four_at image 0) n 0 (first_chunks 512 n image))) parts.0
      ∙ stops_at l (four_at image 0) n (first_chunks 512 n image) index (refusal BlockCheck index) (omega (arith, d.inside, length-first_chunks 512 n image))
      (λ k less. ap (fault l (four_at image 0) k n) (get_or-first_chunks 512 n k image (omega (arith, d.inside))) ∙ undamaged k less)
      (ap (fault l (four_at image 0) index n) (get_or-first_chunks 512 n index image d.inside) ∙ found)

pub damage_found : {A : Type 0} (l : Layout A) (image : List ℕ) (room : ℕ) → Bytes image → DamageFound l image (read_reply l image room)
damage_found l image room each index original d =
    let size : ℕ = length (code_of l image) in
    ap (λ f. unless f (cond (leb size room) (Ok size) (Err (refusal CodeStoreTooShort 0)))) (fault_found l index original image each d)
