use Rattle.std.specs.Prelude.{ℕ, ◌+◌, ◌*◌, ◌/◌, ◌%◌, ◌^◌, Bool, not, if◌then◌else◌, ◌&&◌, List, [], ◌∷◌, ◌++◌, length, take, drop, map, Some, None, Ok, Err, Option, Result, ◌==◌, nat_le, nat_lt, slice_get, slice_index}
use Rattle.std.specs.Option.{option_map}
use Rattle.std.specs.List.{list_all, flat_map}
use Rattle.std.specs.Simd.{first_chunks}
use Rattle.refusal.specs.declared.Refusal.{Refusal}
use Rattle.refusal.specs.declared.Reason.TheVariants.{CodeStoreTooShort, ImageLength, BlockCheck, BlockHeader, InstructionForm}
use Rattle.crc.specs.Crc.{sealed}
use Rattle.refusal.specs.Faults.{refusal, unless, or_else}
use Rattle.image.specs.declared.reader.Header.{Header}
use Rattle.image.specs.Layout.{Layout}

-- the numbers of two and of four bytes that stand at a place
abbrev pub two_at : List ℕ → ℕ → ℕ
two_at bs k = slice_index bs k * 2 ^ 8 + slice_index bs (k + 1)

abbrev pub four_at : List ℕ → ℕ → ℕ
four_at bs k = slice_index bs k * 2 ^ 24 + slice_index bs (k + 1) * 2 ^ 16 + slice_index bs (k + 2) * 2 ^ 8 + slice_index bs (k + 3)

abbrev pub header_of : List ℕ → Header
header_of block = record {
  number = four_at block 0;
  index = two_at block 4;
  blocks = two_at block 6;
  count = slice_index block 8;
  check = two_at block 510;
}

abbrev pub all_zero : List ℕ → Bool
all_zero = list_all (λ b. b == 0)

-- the blocks of an image
abbrev pub blocks_of : List ℕ → List (List ℕ)
blocks_of image = first_chunks 512 (length image / 512) image

-- the header and the check of the block of this index, if there is one
abbrev pub header_found : List ℕ → ℕ → Option Header
header_found image index = option_map header_of (slice_get (blocks_of image) index)

module _ {A : Type 0} (l : Layout A) where
  -- the first n instructions of some bytes
  abbrev pub instructions : ℕ → List ℕ → List A
  instructions n bs = map l.decode (first_chunks l.width n bs)

  -- the instructions that a block holds
  abbrev pub held : List ℕ → List A
  held block = instructions (slice_index block 8) (drop 12 block)

  abbrev pub content : List (List ℕ) → List A
  content = flat_map held

  -- every block but the last is full, and the last has at least one instruction
  abbrev pub count_right : ℕ → ℕ → ℕ → Bool
  count_right index blocks count =
      nat_le 1 count && (if nat_lt (index + 1) blocks then count == l.capacity else nat_le count l.capacity)

  abbrev pub header_right : ℕ → ℕ → ℕ → List ℕ → Bool
  header_right number index blocks block =
      (four_at block 0 == number)
      && (two_at block 4 == index
      && (two_at block 6 == blocks
      && (count_right index blocks (slice_index block 8)
      && (slice_index block 9 == 0
      && (slice_index block 10 == 0
      && slice_index block 11 == 0)))))

  -- each instruction has the form, and what follows them up to the check is zero
  abbrev pub body_right : List ℕ → Bool
  body_right block =
      list_all l.formed (held block) && all_zero (drop (12 + l.width * slice_index block 8) (take 510 block))

  -- the first fault of one block
  unfoldable pub fault : ℕ → ℕ → ℕ → List ℕ → Option Refusal
  fault number index blocks block =
      if not (sealed block) then Some (refusal BlockCheck index)
      else if not (header_right number index blocks block) then Some (refusal BlockHeader index)
      else if not (body_right block) then Some (refusal InstructionForm index)
      else None

  -- the first fault of the blocks from the one of this index on
  abbrev pub first_fault : ℕ → ℕ → ℕ → List (List ℕ) → Option Refusal
  first_fault number blocks index [] = None
  first_fault number blocks index (block ∷ later) =
      or_else (fault number index blocks block) (first_fault number blocks (index + 1) later)

  -- the fault of an image of so many bytes that are not 1 to limit whole blocks
  abbrev pub length_fault : ℕ → Option Refusal
  length_fault size =
      if size % 512 == 0 && (nat_le 1 (size / 512) && nat_le (size / 512) l.limit) then None else Some (refusal ImageLength 0)

  -- the first fault of an image; every block has the image number of the first
  abbrev pub image_fault : List ℕ → Option Refusal
  image_fault image =
      or_else (length_fault (length image)) (first_fault (four_at image 0) (length image / 512) 0 (blocks_of image))

  abbrev pub code_of : List ℕ → List A
  code_of image = content (blocks_of image)

  -- what read answers for an image and a code store of so many places
  abbrev pub read_reply : List ℕ → ℕ → Result ℕ Refusal
  read_reply image room =
      let n : ℕ = length (code_of image) in
      unless (image_fault image) (if nat_le n room then Ok n else Err (refusal CodeStoreTooShort 0))

  -- what it leaves in the code store
  abbrev pub code_after : List ℕ → List A → Result ℕ Refusal → List A
  code_after image store (Ok n) = code_of image ++ drop n store
  code_after image store (Err _) = store
