use Rattle.std.proofs.Common.{◌≡◌, ℕ, ◌+◌, ◌-◌, ◌*◌, ◌/◌, ◌%◌, ◌^◌, ◌<◌, ◌≤◌, List, [], ◌∷◌, ◌++◌, length, get_or, take, drop, sym, refl, ap, ◌∙◌, append-nil, arith, w32, SFits, to_z, of_z}
use borrow.Rule.Slice.PartMut.{put_mid}
use Rattle.std.specs.List.{flat_map}
use Rattle.std.proofs.lemmas.List.{append_assoc, drop_at, drop-drop, take_at, take_all, drop-replicate, replicate-append-replicate}
use mir.Facts.{Fits-of_z}
use Rattle.std.proofs.lemmas.List.Elements.{All-get_or}
use Rattle.std.proofs.lemmas.Int.{to_z-of_z, of_z-to_z}
use Rattle.machine.specs.declared.instruction.Instruction.{Instruction}
use Rattle.crc.specs.Crc.{crc, Bytes}
use Rattle.image.specs.Layout.{encode, decode, layout}
use Rattle.image.specs.Blocks.{zeros, header, two, covered, block}
use Rattle.image.proofs.Numbers.{four_whole, bytes_of_four, stand_at}
use Rattle.image.proofs.Sound.{Sound, length_covered}

-- an instruction and its eight bytes stand for each other
encode_decode : (bytes : List ℕ) → length bytes ≡ 8 → Bytes bytes → encode (decode bytes) ≡ bytes
encode_decode bytes long each =
    let byte : (i : ℕ) → i < 8 → get_or bytes i 0 < 256 = λ i h. All-get_or (λ b. b < 256) bytes i 0 (omega arith) each in
    let a : ℕ = get_or bytes 4 0 in
    let b : ℕ = get_or bytes 5 0 in
    let c : ℕ = get_or bytes 6 0 in
    let d : ℕ = get_or bytes 7 0 in
    let a-fits = byte 4 (omega arith) in
    let b-fits = byte 5 (omega arith) in
    let c-fits = byte 6 (omega arith) in
    let d-fits = byte 7 (omega arith) in
    let n : ℕ = a * 2 ^ 24 + b * 2 ^ 16 + c * 2 ^ 8 + d in
    let same : n ≡ of_z w32 (to_z w32 n) = sym (of_z-to_z w32 n (omega arith)) in
    let four = bytes_of_four a b c d (of_z w32 (to_z w32 n)) a-fits b-fits c-fits d-fits same in
    sym (sym (take_all 8 bytes (omega arith))
    ∙ stand_at bytes 0 (encode (decode bytes)) (omega arith)
    (refl, (refl, (refl, (refl, (four.0, (four.1, (four.2, (four.3, tt)))))))))

pub decode_encode : (i : Instruction) → SFits w32 i.d → decode (encode i) ≡ i
decode_encode i fits =
    let n : ℕ = of_z w32 i.d in
    let Fits-bits = Fits-of_z {w = w32} {z = i.d} fits in
    let whole = four_whole n (omega arith) in
    let d : to_z w32 (n / 2 ^ 24 % 256 * 2 ^ 24 + n / 2 ^ 16 % 256 * 2 ^ 16 + n / 2 ^ 8 % 256 * 2 ^ 8 + n % 256) ≡ i.d =
    ap (to_z w32) whole ∙ to_z-of_z w32 i.d fits in
    ap (λ x. record { op = i.op; r = i.r; s = i.s; t = i.t; d = x }) d

pub sound : Sound layout
sound = record { wide = λ _. refl; back = encode_decode; room = omega arith; some = omega arith; byte = omega arith; few = omega arith }

-- a header and a body written over a list
written_over : (head body zs : List ℕ) (k : ℕ) → length head ≡ 12 → put_mid 12 k (head ++ drop 12 zs) body ≡ head ++ (body ++ drop (12 + k) zs)
written_over head body zs k long =
    let front : take 12 (head ++ drop 12 zs) ≡ head = take_at head (drop 12 zs) 12 long in
    let back : drop k (drop 12 (head ++ drop 12 zs)) ≡ drop (12 + k) zs =
    ap (drop k) (drop_at head (drop 12 zs) 12 long) ∙ drop-drop k 12 zs in
    ap (λ xs. xs ++ (body ++ drop k (drop 12 (head ++ drop 12 zs)))) front
    ∙ ap (λ xs. head ++ (body ++ xs)) back

-- the last two bytes of a block that was zero there
check_written : (xs check : List ℕ) → length xs ≡ 510 → put_mid 510 2 (xs ++ 0 ∷ 0 ∷ []) check ≡ xs ++ check
check_written xs check long =
    ap (λ ys. ys ++ (check ++ drop 2 (drop 510 (xs ++ 0 ∷ 0 ∷ [])))) (take_at xs (0 ∷ 0 ∷ []) 510 long)
    ∙ ap (λ ys. xs ++ (check ++ drop 2 ys)) (drop_at xs (0 ∷ 0 ∷ []) 510 long)
    ∙ ap (λ ys. xs ++ ys) (append-nil check)

zeros_left : (k : ℕ) → 12 + k ≤ 510 → drop (12 + k) (zeros 512) ≡ zeros (498 - k) ++ 0 ∷ 0 ∷ []
zeros_left k h = drop-replicate (12 + k) 512 0 ∙ ap zeros (omega arith) ∙ sym (replicate-append-replicate (498 - k) 2 0)

module _ (number index blocks : ℕ) (part : List Instruction) (short : length part ≤ 62) where
  -- the header, then the instructions, written over zeros
  covered_written : (k : ℕ) → k ≡ 8 * length part
      → put_mid 12 k (header number index blocks (length part) ++ drop 12 (zeros 512)) (flat_map encode part)
      ≡ covered layout number index blocks part ++ 0 ∷ 0 ∷ []
  unfolding covered
  covered_written k e =
      let head = header number index blocks (length part) in
      let body = flat_map encode part in
      let rest = zeros (498 - 8 * length part) in
      let left : drop (12 + k) (zeros 512) ≡ rest ++ 0 ∷ 0 ∷ [] =
      zeros_left k (omega arith) ∙ ap (λ m. zeros (498 - m) ++ 0 ∷ 0 ∷ []) e in
      written_over head body (zeros 512) k refl
      ∙ ap (λ xs. head ++ (body ++ xs)) left
      ∙ sym (append_assoc head (body ++ rest) (0 ∷ 0 ∷ [])
      ∙ ap (λ xs. head ++ xs) (append_assoc body rest (0 ∷ 0 ∷ [])))

  -- with the check over what was written
  pub block_written : (k : ℕ) (head body check : List ℕ) → k ≡ 8 * length part
      → head ≡ header number index blocks (length part) → body ≡ flat_map encode part
      → check ≡ two (crc (take 510 (put_mid 12 k (head ++ drop 12 (zeros 512)) body)))
      → put_mid 510 2 (put_mid 12 k (head ++ drop 12 (zeros 512)) body) check ≡ block layout number index blocks part
  unfolding block
  block_written k head body check e h b q =
      let text = covered layout number index blocks part in
      let long = length_covered layout sound number index blocks part short in
      let whole = put_mid 12 k (head ++ drop 12 (zeros 512)) body in
      let made : whole ≡ text ++ 0 ∷ 0 ∷ [] =
      ap (λ xs. put_mid 12 k (xs ++ drop 12 (zeros 512)) body) h
      ∙ ap (put_mid 12 k (header number index blocks (length part) ++ drop 12 (zeros 512))) b
      ∙ covered_written k e in
      let front : take 510 whole ≡ text = ap (take 510) made ∙ take_at text (0 ∷ 0 ∷ []) 510 long in
      ap (λ xs. put_mid 510 2 xs check) made
      ∙ check_written text check long
      ∙ ap (λ xs. text ++ xs) (q ∙ ap (λ xs. two (crc xs)) front)
