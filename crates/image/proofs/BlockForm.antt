-- A block that was made for a part is right and holds that part; a right block is the one that is made for its part.
use Rattle.std.proofs.Common.{◌≡◌, ℕ, zero, suc, ◌+◌, ◌-◌, ◌*◌, ◌/◌, ◌%◌, ◌^◌, ◌<◌, ◌≤◌, true, eqb, ltb, leb, List, [], ◌∷◌, ◌++◌, length, get_or, take, drop, None, sym, refl, ap, ◌∙◌, inl, inr, mul-zero, mul-suc, arith, length-drop, take-add}
use Rattle.std.specs.Prelude.{All}
use Rattle.std.specs.List.{flat_map, list_all}
use Rattle.std.proofs.lemmas.List.{append_assoc, take_at, drop_at, take_all, take-take, take-append-drop, length-take-le, drop-take, drop-drop}
use Rattle.std.proofs.lemmas.Bool.{and_parts, and_from, eq-eqb, le-leb, lt-ltb, le-ltb, eqb-true, cases_lt, cond-true, cond-false}
use Rattle.std.proofs.lemmas.List.Elements.{All-head, All-tail, All-get_or, All-take, All-drop}
use Rattle.crc.specs.Crc.{crc, sealed, Bytes}
use Rattle.crc.proofs.Burst.{crc_fits, sealed_with}
use Rattle.image.specs.Layout.{Layout}
use Rattle.image.specs.Blocks.{two, zeros, header, covered, block}
use Rattle.image.specs.Reading.{all_zero, instructions, count_right, header_right, body_right, fault}
use Rattle.image.proofs.Numbers.{two_whole, four_whole, bytes_of_two, bytes_of_four, stand_at}
use Rattle.image.proofs.Pieces.{length_joined}
use Rattle.image.proofs.Sound.{Sound, part_fits, length_covered}
use Rattle.image.proofs.Chunks.{length_instructions}
use Rattle.image.proofs.Faults.{Header, header_parts, right_parts, fault_is}

-- zeros

after_header : (n : ℕ) → 510 - (12 + n) ≡ 498 - n
after_header n = omega arith

pub zeros_are : (n : ℕ) → all_zero (zeros n) ≡ true
zeros_are zero = refl
zeros_are (suc n) = zeros_are n

pub are_zeros : (xs : List ℕ) → all_zero xs ≡ true → xs ≡ zeros (length xs)
are_zeros [] e = refl
are_zeros (x ∷ xs) e =
    let both = and_parts (eqb x 0) (all_zero xs) e in
    let first = eqb-true x 0 both.0 in
    let rest = are_zeros xs both.1 in
    cc

module _ {A : Type 0} (l : Layout A) (s : Sound l) where
  -- instructions out of the bytes that they were joined to
  pub instructions_joined : (part : List A) (rest : List ℕ) → All (λ a. l.decode (l.encode a) ≡ a) part
      → instructions l (length part) (flat_map l.encode part ++ rest) ≡ part
  instructions_joined [] rest each = refl
  instructions_joined (a ∷ part) rest each =
      let bytes : List ℕ = flat_map l.encode part ++ rest in
      let whole : (l.encode a ++ flat_map l.encode part) ++ rest ≡ l.encode a ++ bytes = append_assoc (l.encode a) (flat_map l.encode part) rest in
      let first : take l.width ((l.encode a ++ flat_map l.encode part) ++ rest) ≡ l.encode a =
      ap (take l.width) whole ∙ take_at (l.encode a) bytes l.width (s.wide a) in
      let later : drop l.width ((l.encode a ++ flat_map l.encode part) ++ rest) ≡ bytes =
      ap (drop l.width) whole ∙ drop_at (l.encode a) bytes l.width (s.wide a) in
      let head : l.decode (take l.width ((l.encode a ++ flat_map l.encode part) ++ rest)) ≡ a = ap l.decode first ∙ All-head (λ x. l.decode (l.encode x) ≡ x) a part each in
      let tail : instructions l (length part) (drop l.width ((l.encode a ++ flat_map l.encode part) ++ rest)) ≡ part =
      ap (instructions l (length part)) later ∙ instructions_joined part rest (All-tail (λ x. l.decode (l.encode x) ≡ x) a part each) in
      cc

  -- and the bytes joined again from the instructions
  pub joined_instructions : (n : ℕ) (bytes : List ℕ) → l.width * n ≤ length bytes → Bytes bytes
      → flat_map l.encode (instructions l n bytes) ≡ take (l.width * n) bytes
  joined_instructions zero bytes h b = sym (ap (λ k. take k bytes) (mul-zero l.width))
  joined_instructions (suc n) bytes h b =
      let w = l.width in
      let more : w * suc n ≡ w * n + w = mul-suc w n in
      let left = length-drop w bytes in
      let first : l.encode (l.decode (take w bytes)) ≡ take w bytes =
      s.back (take w bytes) (length-take-le w bytes (omega arith)) (All-take (λ x. x < 256) w bytes b) in
      let rest : flat_map l.encode (instructions l n (drop w bytes)) ≡ take (w * n) (drop w bytes) =
      joined_instructions n (drop w bytes) (omega arith) (All-drop (λ x. x < 256) w bytes b) in
      let split : take (w + w * n) bytes ≡ take w bytes ++ take (w * n) (drop w bytes) = take-add w (w * n) bytes in
      ap (λ xs. xs ++ flat_map l.encode (instructions l n (drop w bytes))) first
      ∙ ap (λ xs. take w bytes ++ xs) rest
      ∙ sym split
      ∙ ap (λ k. take k bytes) (omega arith)

  count_made : (index blocks count : ℕ) → 1 ≤ count → count ≤ l.capacity → (index + 1 < blocks → count ≡ l.capacity)
      → count_right l index blocks count ≡ true
  count_made index blocks count some few full =
      and_from (leb 1 count) _ (le-leb 1 count some) (elim (cases_lt (index + 1) blocks) [
        | inl inner ↦ cond-true (ltb (index + 1) blocks) _ _ (lt-ltb (index + 1) blocks inner) ∙ eq-eqb count l.capacity (full inner)
        | inr last ↦ cond-false (ltb (index + 1) blocks) _ _ (le-ltb (index + 1) blocks last) ∙ le-leb count l.capacity few
      ])

  module _ (number index blocks : ℕ) where
    -- a block that was made is right
    module _ (part : List A) (few : length part ≤ l.capacity) where
      abbrev bytes : List ℕ
      bytes = block l number index blocks part

      covered_front : take 510 bytes ≡ covered l number index blocks part
      unfolding block
      covered_front =
          take_at (covered l number index blocks part) _ 510 (length_covered l s number index blocks part few)

      made_sealed : sealed bytes ≡ true
      unfolding block
      made_sealed =
          let check = crc (covered l number index blocks part) in
          let fits = crc_fits (covered l number index blocks part) in
          sealed_with (covered l number index blocks part) (check / 2 ^ 8 % 256) (check % 256) (sym (two_whole check fits))

      made_header : number < 2 ^ 32 → index < 2 ^ 16 → blocks < 2 ^ 16 → 1 ≤ length part
          → (index + 1 < blocks → length part ≡ l.capacity) → header_right l number index blocks bytes ≡ true
      unfolding block covered
      made_header n-fits i-fits b-fits some full =
          and_from _ _ (eq-eqb _ _ (four_whole number n-fits))
          (and_from _ _ (eq-eqb _ _ (two_whole index i-fits))
          (and_from _ _ (eq-eqb _ _ (two_whole blocks b-fits))
          (and_from _ _ (count_made index blocks (length part) some few full) refl)))

      made_body : All (λ a. l.decode (l.encode a) ≡ a) part → list_all l.formed part ≡ true
          → (body_right l bytes ≡ true) × (instructions l (get_or bytes 8 0) (drop 12 bytes) ≡ part)
      unfolding block covered
      made_body each formed =
          let n = length part in
          let body = flat_map l.encode part in
          let rest = zeros (498 - l.width * n) in
          let check = two (crc (covered l number index blocks part)) in
          let held : instructions l n ((body ++ rest) ++ check) ≡ part =
          ap (instructions l n) (append_assoc body rest check) ∙ instructions_joined part (rest ++ check) each in
          let front : drop 12 (take 510 bytes) ≡ body ++ rest = ap (drop 12) covered_front in
          let tail : drop (12 + l.width * n) (take 510 bytes) ≡ rest =
          sym (drop-drop (l.width * n) 12 (take 510 bytes))
          ∙ ap (drop (l.width * n)) front
          ∙ drop_at body rest (l.width * n) (length_joined l.encode l.width s.wide part) in
          (and_from _ _ (ap (list_all l.formed) held ∙ formed) (ap all_zero tail ∙ zeros_are (498 - l.width * n)), held)

      pub made_right : number < 2 ^ 32 → index < 2 ^ 16 → blocks < 2 ^ 16 → 1 ≤ length part
          → (index + 1 < blocks → length part ≡ l.capacity)
          → All (λ a. l.decode (l.encode a) ≡ a) part → list_all l.formed part ≡ true
          → (fault l number index blocks bytes ≡ None) × (instructions l (get_or bytes 8 0) (drop 12 bytes) ≡ part)
      made_right n-fits i-fits b-fits some full each formed =
          let body = made_body each formed in (
            sym (fault_is l number index blocks bytes true true true
                (sym made_sealed) (sym (made_header n-fits i-fits b-fits some full)) (sym body.0)),
            body.1,
          )

    -- a right block is the one that is made for what it holds
    module _ (bytes : List ℕ) (long : length bytes ≡ 512) (each : Bytes bytes) (right : fault l number index blocks bytes ≡ None) where
      abbrev part : List A
      part = instructions l (get_or bytes 8 0) (drop 12 bytes)

      abbrev head : Header l number index blocks bytes
      head = header_parts l number index blocks bytes (right_parts l number index blocks bytes right).1

      byte : (i : ℕ) → i < 512 → get_or bytes i 0 < 256
      byte i h = All-get_or (λ b. b < 256) bytes i 0 (omega arith) each

      header_is : take 12 bytes ≡ header number index blocks (length part)
      header_is =
          let n = bytes_of_four (get_or bytes 0 0) (get_or bytes 1 0) (get_or bytes 2 0) (get_or bytes 3 0) number
          (byte 0 (omega arith)) (byte 1 (omega arith)) (byte 2 (omega arith)) (byte 3 (omega arith)) head.number_is in
          let i = bytes_of_two (get_or bytes 4 0) (get_or bytes 5 0) index (byte 4 (omega arith)) (byte 5 (omega arith)) head.index_is in
          let b = bytes_of_two (get_or bytes 6 0) (get_or bytes 7 0) blocks (byte 6 (omega arith)) (byte 7 (omega arith)) head.blocks_is in
          let count = length_instructions l (get_or bytes 8 0) (drop 12 bytes) in
          stand_at bytes 0 (header number index blocks (length part)) (omega arith)
          (n.0, (n.1, (n.2, (n.3, (i.0, (i.1, (b.0, (b.1, (sym count, (head.zero_9, (head.zero_10, (head.zero_11, tt))))))))))))

      covered_is : take 510 bytes ≡ covered l number index blocks part
      unfolding covered
      covered_is =
          let count = get_or bytes 8 0 in
          let n = l.width * count in
          let text = take 510 bytes in
          let same : length part ≡ count = length_instructions l count (drop 12 bytes) in
          let fits : n ≤ 498 = part_fits l s count head.count_is.few in
          let tests = and_parts (list_all l.formed part) _ (right_parts l number index blocks bytes right).2 in
          let first : take 12 text ≡ header number index blocks (length part) = take-take 12 510 bytes (omega arith) ∙ header_is in
          let inner : drop 12 text ≡ take 498 (drop 12 bytes) = drop-take 12 498 bytes in
          let size : length (drop 12 bytes) ≡ 500 = length-drop 12 bytes ∙ ap (λ k. k - 12) long in
          let body : take n (drop 12 text) ≡ flat_map l.encode part =
          ap (take n) inner ∙ take-take n 498 (drop 12 bytes) fits
          ∙ sym (joined_instructions count (drop 12 bytes) (omega arith) (All-drop (λ b. b < 256) 12 bytes each)) in
          let left : length (drop (12 + n) text) ≡ 498 - n =
          length-drop (12 + n) text ∙ ap (λ k. k - (12 + n)) (length-take-le 510 bytes (omega arith)) ∙ after_header n in
          let rest : drop n (drop 12 text) ≡ zeros (498 - l.width * length part) =
          drop-drop n 12 text ∙ are_zeros (drop (12 + n) text) tests.1
          ∙ ap zeros (left ∙ ap (λ k. 498 - l.width * k) (sym same)) in
          sym (take-append-drop 12 text)
          ∙ ap (λ xs. xs ++ drop 12 text) first
          ∙ ap (λ xs. header number index blocks (length part) ++ xs) (sym (take-append-drop n (drop 12 text)))
          ∙ ap (λ xs. header number index blocks (length part) ++ (xs ++ drop n (drop 12 text))) body
          ∙ ap (λ xs. header number index blocks (length part) ++ (flat_map l.encode part ++ xs)) rest

      check_is : crc (take 510 bytes) ≡ get_or bytes 510 0 * 2 ^ 8 + get_or bytes 511 0
      check_is =
          let tests = and_parts (leb 2 (length bytes)) _ (right_parts l number index blocks bytes right).0 in
          let size : length bytes - 2 ≡ 510 = omega arith in
          ap (λ k. crc (take k bytes)) (sym size) ∙ eqb-true _ _ tests.1
          ∙ ap (λ k. get_or bytes k 0 * 2 ^ 8 + get_or bytes (k + 1) 0) size

      pub right_made : bytes ≡ block l number index blocks part
      unfolding block
      right_made =
          let check = crc (take 510 bytes) in
          let halves = bytes_of_two (get_or bytes 510 0) (get_or bytes 511 0) check (byte 510 (omega arith)) (byte 511 (omega arith)) (sym check_is) in
          let size : length (drop 510 bytes) ≤ 2 = let n = length-drop 510 bytes in omega arith in
          let last : drop 510 bytes ≡ two check =
          sym (take_all 2 (drop 510 bytes) size) ∙ stand_at bytes 510 (two check) (omega arith) (halves.0, (halves.1, tt)) in
          sym (take-append-drop 510 bytes)
          ∙ ap (λ xs. take 510 bytes ++ xs) last
          ∙ ap (λ xs. xs ++ two (crc xs)) covered_is
