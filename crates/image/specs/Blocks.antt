use Rattle.std.specs.Prelude.{ℕ, zero, suc, ◌+◌, ◌-◌, ◌*◌, ◌/◌, ◌%◌, ◌^◌, List, [], ◌∷◌, ◌++◌, length, take, drop, replicate}
use Rattle.std.specs.List.{flat_map}
use Rattle.crc.specs.Crc.{crc}
use Rattle.image.specs.Layout.{Layout}

-- numbers of two and of four bytes, high byte first
abbrev pub two : ℕ → List ℕ
two n = n / 2 ^ 8 % 256 ∷ n % 256 ∷ []

abbrev pub four : ℕ → List ℕ
four n = n / 2 ^ 24 % 256 ∷ n / 2 ^ 16 % 256 ∷ n / 2 ^ 8 % 256 ∷ n % 256 ∷ []

abbrev pub zeros : ℕ → List ℕ
zeros n = replicate n 0

-- bytes 0 to 11: image number, index, number of blocks, number of instructions, three zeros
abbrev pub header : ℕ → ℕ → ℕ → ℕ → List ℕ
header number index blocks count = four number ++ (two index ++ (two blocks ++ (count ∷ 0 ∷ 0 ∷ 0 ∷ [])))

module _ {A : Type 0} (l : Layout A) where
  -- bytes 0 to 509, which the check covers: the header, the instructions, zeros
  unfoldable pub covered : ℕ → ℕ → ℕ → List A → List ℕ
  covered number index blocks part =
      header number index blocks (length part)
      ++ (flat_map l.encode part ++ zeros (498 - l.width * length part))

  unfoldable pub block : ℕ → ℕ → ℕ → List A → List ℕ
  block number index blocks part =
      covered number index blocks part ++ two (crc (covered number index blocks part))

  -- the n blocks from the one of this index on, which hold the code
  abbrev pub blocks_from : ℕ → ℕ → ℕ → ℕ → List A → List ℕ
  blocks_from number blocks index zero code = []
  blocks_from number blocks index (suc n) code =
      block number index blocks (take l.capacity code)
      ++ blocks_from number blocks (index + 1) n (drop l.capacity code)

  -- how many blocks so many instructions take
  abbrev pub blocks_for : ℕ → ℕ
  blocks_for n = (n + (l.capacity - 1)) / l.capacity

  -- the image of a code: full blocks, and a last one with the rest
  unfoldable pub image : ℕ → List A → List ℕ
  image number code = blocks_from number (blocks_for (length code)) 0 (blocks_for (length code)) code
