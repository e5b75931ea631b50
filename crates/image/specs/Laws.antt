use Rattle.std.specs.Prelude.{◌≡◌, ℕ, ◌+◌, ◌*◌, ◌/◌, ◌<◌, List, [], ◌++◌, length, take, drop, None, Ok, Err, Result}
use Rattle.refusal.specs.declared.Refusal.{Refusal}
use Rattle.refusal.specs.declared.Reason.TheVariants.{BlockCheck}
use Rattle.crc.specs.Crc.{Bytes, Burst}
use Rattle.machine.specs.declared.instruction.Instruction.{Instruction}
use Rattle.refusal.specs.Faults.{refusal}
use Rattle.image.specs.Layout.{Layout, layout}
use Rattle.image.specs.Blocks as blocks
use Rattle.image.specs.Writing.{write_reply}
use Rattle.image.specs.Reading.{image_fault, code_of}

module _ {A : Type 0} (l : Layout A) where
  -- reading an image finds no fault and gives this code
  pub record ReadsAs (image : List ℕ) (code : List A) : Type 0 where
    pub faultless : image_fault l image ≡ None
    pub code_is : code_of l image ≡ code

  -- writing this code with this number fills a store of the image's length with the image
  pub record WrittenAs (image : List ℕ) (number : ℕ) (code : List A) : Type 0 where
    pub reply : write_reply l code (length image) ≡ Ok (length image / 512)
    pub bytes : image ≡ blocks.image l number code

  -- a faultless image, changed somewhere in the block of this index, but only within sixteen successive bits
  pub record Damaged (index : ℕ) (original image : List ℕ) : Type 0 where
    pub original_bytes : Bytes original
    pub faultless : image_fault l original ≡ None
    pub inside : index < length original / 512
    pub same_length : length image ≡ length original
    pub before : take (512 * index) image ≡ take (512 * index) original
    pub burst : Burst (take 512 (drop (512 * index) original)) (take 512 (drop (512 * index) image))
    pub after : drop (512 * (index + 1)) image ≡ drop (512 * (index + 1)) original

  -- such an image is refused at that block, since its check is wrong
  abbrev pub DamageFound : List ℕ → Result ℕ Refusal → Type 0
  DamageFound image reply =
      (index : ℕ) (original : List ℕ) → Damaged index original image → reply ≡ Err (refusal BlockCheck index)

-- 63 instructions make two blocks, of 62 and of 1
abbrev pub SixtyThree : Type 0
SixtyThree = (number : ℕ) (code : List Instruction) → length code ≡ 63
    → (blocks.image layout number code
    ≡ blocks.block layout number 0 2 (take 62 code) ++ (blocks.block layout number 1 2 (drop 62 code) ++ []))
    × (length (take 62 code) ≡ 62) × (length (drop 62 code) ≡ 1)
