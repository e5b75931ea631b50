use Rattle.std.proofs.Common.{◌≡◌, ℕ, ◌+◌, ◌-◌, ◌*◌, ◌<◌, ◌≤◌, List, ◌++◌, length, ap, ◌∙◌, arith, length-append}
use lib.ListN.{length-replicate}
use Rattle.std.specs.List.{flat_map}
use Rattle.std.proofs.lemmas.Nat.{mul-le}
use Rattle.crc.specs.Crc.{Bytes}
use Rattle.image.specs.Layout.{Layout}
use Rattle.image.specs.Blocks.{zeros, covered, block}
use Rattle.image.proofs.Pieces.{length_joined}

-- What the argument asks of a layout; every edition of the block has it.
pub record Sound {A : Type 0} (l : Layout A) : Type 0 where
  pub wide : (a : A) → length (l.encode a) ≡ l.width
  pub back : (bytes : List ℕ) → length bytes ≡ l.width → Bytes bytes → l.encode (l.decode bytes) ≡ bytes
  pub room : l.width * l.capacity ≤ 498
  pub some : 1 ≤ l.capacity
  pub byte : l.capacity < 256
  pub few : l.limit < 65536

module _ {A : Type 0} (l : Layout A) (s : Sound l) where
  -- the instructions of a part end before the check
  pub part_fits : (n : ℕ) → n ≤ l.capacity → l.width * n ≤ 498
  part_fits n h = let more = mul-le l.width n l.width l.capacity (omega arith) h in omega (arith, s.room)

  module _ (number index blocks : ℕ) (part : List A) (short : length part ≤ l.capacity) where
    pub length_covered : length (covered l number index blocks part) ≡ 510
    unfolding covered
    length_covered =
        let body = flat_map l.encode part in
        let rest = zeros (498 - l.width * length part) in
        let body-long : length body ≡ l.width * length part = length_joined l.encode l.width s.wide part in
        let rest-long : length rest ≡ 498 - l.width * length part = length-replicate (498 - l.width * length part) 0 in
        let both : length (body ++ rest) ≡ length body + length rest = length-append body rest in
        let fits = part_fits (length part) short in
        omega arith

    pub length_block : length (block l number index blocks part) ≡ 512
    unfolding block
    length_block = length-append (covered l number index blocks part) _ ∙ ap (λ n. n + 2) length_covered
