-- The image of a code reads back as that code; a faultless image is the image of the code that it holds.
use Rattle.std.proofs.Common.{◌≡◌, ℕ, zero, suc, ◌+◌, ◌-◌, ◌*◌, ◌/◌, ◌%◌, ◌^◌, ◌<◌, ◌≤◌, Bool, true, false, cond, not, ◌&&◌, eqb, leb, ◌⊎◌, List, [], ◌∷◌, ◌++◌, length, get_or, take, drop, IfOk, Some, None, Ok, Err, Option, Result, sym, refl, ap, ◌∙◌, subst, inl, inr, mul_comm, mul-zero, mul-suc, arith, length-append, length-drop, length-take}
use Rattle.std.specs.Prelude.{All}
use Rattle.std.specs.List.{prefix_len, list_all}
use Rattle.std.specs.Simd.{first_chunks}
use Rattle.std.proofs.lemmas.Nat.{div-mul-add, div-add-mod', mod_below, mul-le}
use Rattle.std.proofs.lemmas.List.Elements.{All-take, All-drop}
use Rattle.std.proofs.lemmas.List.{take_at, drop_at, take_all, take-append-drop, length-take-le, get_or-take, nil_from_length}
use Rattle.std.proofs.lemmas.List.Folds.{list_all-append}
use Rattle.std.proofs.lemmas.Bool.{and_parts, and_from, eq-eqb, le-leb, leb-true, eqb-true, cases_lt, cases_Bool, cond-true, cond-false}
use Rattle.refusal.specs.declared.Refusal.{Refusal}
use Rattle.crc.specs.Crc.{Bytes}
use Rattle.refusal.specs.Faults.{or_else}
use Rattle.refusal.proofs.Faults.{passed_both, or_else_none}
use Rattle.image.specs.Layout.{Layout, layout}
use Rattle.image.specs.Blocks.{block, blocks_from, blocks_for, image}
use Rattle.image.specs.Writing.{write_reply, store_after}
use Rattle.image.specs.Reading.{four_at, instructions, fault, first_fault, content, length_fault, image_fault, code_of, read_reply, code_after}
use Rattle.image.specs.Laws.{ReadsAs, WrittenAs, SixtyThree}
use Rattle.image.proofs.Sound.{Sound, length_block}
use Rattle.image.proofs.Chunks.{length_instructions}
use Rattle.image.proofs.Written.{split_row}
use Rattle.image.proofs.Faults.{Count, right_parts, header_parts}
use Rattle.image.proofs.BlockForm.{made_right, right_made}

all_split : {X : Type 0} (test : X → Bool) (n : ℕ) (xs : List X) → list_all test xs ≡ true
    → (list_all test (take n xs) ≡ true) × (list_all test (drop n xs) ≡ true)
all_split test n xs e =
    and_parts (list_all test (take n xs)) _
    (sym (list_all-append test (take n xs) (drop n xs)) ∙ ap (list_all test) (take-append-drop n xs) ∙ e)

all_leading : {X : Type 0} (test : X → Bool) (xs : List X) → list_all test xs ≡ true → prefix_len test xs ≡ length xs
all_leading test [] e = refl
all_leading test (x ∷ xs) e =
    let both = and_parts (test x) (list_all test xs) e in
    cond-true (test x) _ _ both.0 ∙ ap (λ n. 1 + n) (all_leading test xs both.1) ∙ omega arith

leading_all : {X : Type 0} (test : X → Bool) (xs : List X) → prefix_len test xs ≡ length xs → list_all test xs ≡ true
leading_all test [] e = refl
leading_all test (x ∷ xs) e = elim (cases_Bool (test x)) [
  | inl passes ↦
      let one = cond-true (test x) (1 + prefix_len test xs) 0 passes in
      let rest : prefix_len test xs ≡ length xs = omega arith in
      and_from (test x) _ passes (leading_all test xs rest)
  | inr fails ↦
      let none = cond-false (test x) (1 + prefix_len test xs) 0 fails in
      absurd (omega arith)
]

-- n rows of c elements hold so many, and fewer rows do not
pub record Rows (c n size : ℕ) : Type 0 where
  pub enough : size ≤ c * n
  pub needed : c * n < size + c

row_off : (c n size : ℕ) → 1 ≤ c → Rows c (suc n) size → Rows c n (size - c)
row_off c zero size some r =
    let one = mul-suc c 0 in
    let none = mul-zero c in
    record { enough = omega (arith, r.enough); needed = omega arith }
row_off c (suc n) size some r =
    let more = mul-suc c (suc n) in
    let less = mul-suc c n in
    record { enough = omega (arith, r.enough); needed = omega (arith, r.needed) }

row_on : (c n first rest : ℕ) → 1 ≤ first → c * n < rest + c → (1 ≤ n → first ≡ c) → c * suc n < (first + rest) + c
row_on c zero first rest some needed full =
    let one = mul-suc c 0 in
    let none = mul-zero c in
    omega arith
row_on c (suc n) first rest some needed full =
    let more = mul-suc c (suc n) in
    let whole = full (omega arith) in
    omega arith

rows_needed : (c n size : ℕ) → 1 ≤ c → 1 ≤ size → n ≡ (size + (c - 1)) / c → Rows c n size
rows_needed c n size some full e =
    let whole : n * c + (size + (c - 1)) % c ≡ size + (c - 1) = ap (λ k. k * c + (size + (c - 1)) % c) e ∙ div-add-mod' (size + (c - 1)) c in
    let rest = mod_below (size + (c - 1)) c some in
    let same = mul_comm n c in
    record { enough = omega arith; needed = omega arith }

rows_some : (c n size : ℕ) → 1 ≤ size → size ≤ c * n → 1 ≤ n
rows_some c zero size full enough = let none = mul-zero c in absurd (omega arith)
rows_some c (suc n) size full enough = omega arith

rows_few : (c n limit size : ℕ) → c * n < size + c → size ≤ limit * c → n ≤ limit
rows_few c n limit size needed few = elim (cases_lt limit n) [
  | inl over ↦
      let more = mul-le c (suc limit) c n (omega arith) over in
      let one = mul-suc c limit in
      let same = mul_comm limit c in
      absurd (omega arith)
  | inr h ↦ h
]

rows_counted : (c n size : ℕ) → 1 ≤ c → 1 ≤ n → Rows c n size → (size + (c - 1)) / c ≡ n
rows_counted c n size some full r =
    let same = mul_comm n c in
    let over : size + (c - 1) ≡ n * c + (size + (c - 1) - n * c) = omega (arith, r.needed) in
    ap (λ m. m / c) over ∙ div-mul-add n c (size + (c - 1) - n * c) (omega (arith, r.enough))

-- the first fault and the code of the n blocks that some bytes begin with
module _ {A : Type 0} (l : Layout A) where
  abbrev fault_in : ℕ → ℕ → ℕ → ℕ → List ℕ → Option Refusal
  fault_in number blocks index n bytes = first_fault l number blocks index (first_chunks 512 n bytes)

  abbrev content_in : ℕ → List ℕ → List A
  content_in n bytes = content l (first_chunks 512 n bytes)

pub same_four : (bytes : List ℕ) → four_at (take 512 bytes) 0 ≡ four_at bytes 0
same_four bytes =
    let a = get_or-take 512 bytes 0 0 (omega arith) in
    let b = get_or-take 512 bytes 1 0 (omega arith) in
    let c = get_or-take 512 bytes 2 0 (omega arith) in
    let d = get_or-take 512 bytes 3 0 (omega arith) in
    cc

module _ {A : Type 0} (l : Layout A) (s : Sound l) (number blocks : ℕ) where
  -- the blocks that are made for a code
  made : (n index : ℕ) (code : List A) → number < 2 ^ 32 → blocks < 2 ^ 16 → index + n ≡ blocks → Rows l.capacity n (length code)
      → All (λ a. l.decode (l.encode a) ≡ a) code → list_all l.formed code ≡ true
      → (fault_in l number blocks index n (blocks_from l number blocks index n code) ≡ None)
      × (content_in l n (blocks_from l number blocks index n code) ≡ code)
      × (length (blocks_from l number blocks index n code) ≡ 512 * n)
  made zero index code n-fits b-fits e r each formed =
      let none = mul-zero l.capacity in
      (refl, sym (nil_from_length code (omega (arith, r.enough))), refl)
  made (suc n) index code n-fits b-fits e r each formed =
      let c = l.capacity in
      let part = take c code in
      let rest = drop c code in
      let here = block l number index blocks part in
      let later = blocks_from l number blocks (index + 1) n rest in
      let more = mul-suc c n in
      let size = length-take c code in
      let left = length-drop c code in
      let few : length part ≤ c = omega arith in
      let some : 1 ≤ length part = omega (arith, r.needed, s.some) in
      let full : index + 1 < blocks → length part ≡ c =
      λ inner. let many = mul-le c 1 c n (omega arith) (omega arith) in omega (arith, r.needed) in
      let tests = all_split l.formed c code formed in
      let right = made_right l s number index blocks part few n-fits (omega arith) b-fits some full
      (All-take (λ a. l.decode (l.encode a) ≡ a) c code each) tests.0 in
      let off = row_off c n (length code) s.some r in
      let rows : Rows c n (length rest) = record { enough = omega (arith, off.enough); needed = omega (arith, off.needed) } in
      let ih = made n (index + 1) rest n-fits b-fits (omega arith) rows
      (All-drop (λ a. l.decode (l.encode a) ≡ a) c code each) tests.1 in
      let long : length here ≡ 512 = length_block l s number index blocks part few in
      let front : take 512 (here ++ later) ≡ here = take_at here later 512 long in
      let back : drop 512 (here ++ later) ≡ later = drop_at here later 512 long in (
        ap (λ xs. or_else (fault l number index blocks xs) (fault_in l number blocks (index + 1) n (drop 512 (here ++ later)))) front
            ∙ ap (λ f. or_else f (fault_in l number blocks (index + 1) n (drop 512 (here ++ later)))) right.0
            ∙ ap (fault_in l number blocks (index + 1) n) back ∙ ih.0,
        ap (λ xs. instructions l (get_or xs 8 0) (drop 12 xs) ++ content_in l n (drop 512 (here ++ later))) front
            ∙ ap (λ xs. xs ++ content_in l n (drop 512 (here ++ later))) right.1
            ∙ ap (λ xs. part ++ content_in l n xs) back ∙ ap (λ xs. part ++ xs) ih.1 ∙ take-append-drop c code,
        length-append here later ∙ (let tail = ih.2 in let times = mul-suc 512 n in omega arith),
      )

  -- a block that is not the last is full
  last_or_full : (n index count size : ℕ) (bytes : List ℕ) → index + suc n ≡ blocks → Count l index blocks count → size ≡ count
      → (size ≡ l.capacity) ⊎ (content_in l n bytes ≡ [])
  last_or_full zero index count size bytes e k same = inr refl
  last_or_full (suc n) index count size bytes e k same = inl (same ∙ k.full (omega arith))

  -- blocks without fault
  right : (n index : ℕ) (bytes : List ℕ) → index + n ≡ blocks → length bytes ≡ 512 * n → Bytes bytes
      → fault_in l number blocks index n bytes ≡ None
      → (bytes ≡ blocks_from l number blocks index n (content_in l n bytes))
      × (list_all l.formed (content_in l n bytes) ≡ true)
      × Rows l.capacity n (length (content_in l n bytes))
  right zero index bytes e long each clean =
      let none = mul-zero l.capacity in
      (nil_from_length bytes long, refl, record { enough = omega arith; needed = omega (arith, s.some) })
  right (suc n) index bytes e long each clean =
      let c = l.capacity in
      let here = take 512 bytes in
      let later = drop 512 bytes in
      let times = mul-suc 512 n in
      let left = length-drop 512 bytes in
      let parts = or_else_none (fault l number index blocks here) (fault_in l number blocks (index + 1) n later) clean in
      let tests = right_parts l number index blocks here parts.0 in
      let count = (header_parts l number index blocks here tests.1).count_is in
      let part = instructions l (get_or here 8 0) (drop 12 here) in
      let rest = content_in l n later in
      let size : length part ≡ get_or here 8 0 = length_instructions l (get_or here 8 0) (drop 12 here) in
      let ih = right n (index + 1) later (omega arith) (omega arith) (All-drop (λ b. b < 256) 512 bytes each) parts.1 in
      let one : here ≡ block l number index blocks part =
      right_made l s number index blocks here (length-take-le 512 bytes (omega arith)) (All-take (λ b. b < 256) 512 bytes each) parts.0 in
      let ends = last_or_full n index (get_or here 8 0) (length part) later e count size in
      let row = split_row part rest c (omega (arith, count.few)) ends in
      let more = mul-suc c n in
      let total = length-append part rest in
      let needed = row_on c n (length part) (length rest) (omega (arith, count.some)) ih.2.needed
      (λ inner. size ∙ count.full (omega arith)) in (
        sym (take-append-drop 512 bytes)
            ∙ ap (λ xs. xs ++ later) one
            ∙ ap (λ xs. block l number index blocks part ++ xs) ih.0
            ∙ ap (λ xs. block l number index blocks xs ++ blocks_from l number blocks (index + 1) n rest) (sym row.0)
            ∙ ap (λ xs. block l number index blocks (take c (part ++ rest)) ++ blocks_from l number blocks (index + 1) n xs) (sym row.1),
        list_all-append l.formed part rest
            ∙ and_from (list_all l.formed part) _ (and_parts (list_all l.formed part) _ tests.2).0 ih.1,
        record { enough = omega (arith, ih.2.enough, count.few); needed = omega (arith, needed) },
      )

  pub number_shown : (n index : ℕ) (bytes : List ℕ) → 1 ≤ n → fault_in l number blocks index n bytes ≡ None → four_at bytes 0 ≡ number
  number_shown zero index bytes some clean = absurd (omega arith)
  number_shown (suc n) index bytes some clean =
      let here = take 512 bytes in
      let parts = or_else_none (fault l number index blocks here) _ clean in
      sym (same_four bytes) ∙ (header_parts l number index blocks here (right_parts l number index blocks here parts.0).1).number_is

-- the reply that three tests show
abbrev replied : ℕ → Bool → Bool → Bool → Refusal → Refusal → Refusal → Result ℕ Refusal
replied n a b c x y z = cond (not a) (Err x) (cond (not b) (Err y) (cond (not c) (Err z) (Ok n)))

accepts : (n : ℕ) (a b c : Bool) (x y z : Refusal) → a ≡ true → b ≡ true → c ≡ true → replied n a b c x y z ≡ Ok n
accepts n a b c x y z p q r =
    ap (λ v. replied n v b c x y z) p ∙ ap (λ v. replied n true v c x y z) q ∙ ap (λ v. replied n true true v x y z) r

-- a reply that is no refusal passed every test
accepted : (r n : ℕ) (a b c : Bool) (x y z : Refusal) → Ok r ≡ replied n a b c x y z → (a ≡ true) × (b ≡ true) × (r ≡ n)
accepted r n true true true x y z e = (refl, refl, cc)
accepted r n true true false x y z e = absurd (cc)
accepted r n true false c x y z e = absurd (cc)
accepted r n false b c x y z e = absurd (cc)

there : {X : Type 0} (b : Bool) (x : X) → cond b None (Some x) ≡ None → b ≡ true
there true x e = refl
there false x e = absurd (cc)

module _ {A : Type 0} (l : Layout A) (s : Sound l) where
  length_right : (size n : ℕ) → size ≡ 512 * n → 1 ≤ n → n ≤ l.limit → length_fault l size ≡ None
  length_right size n e some few =
      let count : size / 512 ≡ n = omega arith in
      cond-true _ _ _
      (and_from (eqb (size % 512) 0) _ (eq-eqb _ _ (omega arith))
      (and_from (leb 1 (size / 512)) _ (le-leb 1 (size / 512) (omega arith)) (le-leb (size / 512) l.limit (omega arith))))

  pub length_parts : (size : ℕ) → length_fault l size ≡ None → (size ≡ 512 * (size / 512)) × (1 ≤ size / 512) × (size / 512 ≤ l.limit)
  length_parts size e =
      let tests = there (eqb (size % 512) 0 && (leb 1 (size / 512) && leb (size / 512) l.limit)) _ e in
      let whole = and_parts (eqb (size % 512) 0) _ tests in
      let both = and_parts (leb 1 (size / 512)) _ whole.1 in
      let none = eqb-true (size % 512) 0 whole.0 in
      (omega arith, leb-true 1 (size / 512) both.0, leb-true (size / 512) l.limit both.1)

  -- what write makes of a code, read reads as that code
  pub reads_back : (number : ℕ) (code : List A) → number < 2 ^ 32 → 1 ≤ length code → length code ≤ l.limit * l.capacity
      → All (λ a. l.decode (l.encode a) ≡ a) code → list_all l.formed code ≡ true
      → ReadsAs l (image l number code) code × (length (image l number code) ≡ 512 * blocks_for l (length code))
  unfolding image
  reads_back number code n-fits some few each formed =
      let c = l.capacity in
      let n = blocks_for l (length code) in
      let bytes = blocks_from l number n 0 n code in
      let rows = rows_needed c n (length code) s.some some refl in
      let n-some : 1 ≤ n = rows_some c n (length code) some rows.enough in
      let n-few : n ≤ l.limit = rows_few c n l.limit (length code) rows.needed few in
      let all_made = made l s number n n 0 code n-fits (omega (arith, s.few)) (omega arith) rows each formed in
      let long : length bytes ≡ 512 * n = all_made.2 in
      let count : length bytes / 512 ≡ n = omega arith in
      let named = number_shown l s number n n 0 bytes n-some all_made.0 in (
        record {
          faultless =
              ap (λ f. or_else f (fault_in l (four_at bytes 0) (length bytes / 512) 0 (length bytes / 512) bytes))
              (length_right (length bytes) n long n-some n-few)
              ∙ ap (λ k. fault_in l (four_at bytes 0) k 0 k bytes) count
              ∙ ap (λ k. fault_in l k n 0 n bytes) named
              ∙ all_made.0;
          code_is = ap (λ k. content_in l k bytes) count ∙ all_made.1;
        },
        long,
      )

  -- what read accepts is what write makes of the code that read gives
  pub written_back : (bytes : List ℕ) → Bytes bytes → image_fault l bytes ≡ None → WrittenAs l bytes (four_at bytes 0) (code_of l bytes)
  unfolding image
  written_back bytes each clean =
      let c = l.capacity in
      let n = length bytes / 512 in
      let number = four_at bytes 0 in
      let code = content_in l n bytes in
      let parts = or_else_none (length_fault l (length bytes)) (fault_in l number n 0 n bytes) clean in
      let size = length_parts (length bytes) parts.0 in
      let all_right = right l s number n n 0 bytes (omega arith) (omega (arith, size.0)) each parts.1 in
      let counted : blocks_for l (length code) ≡ n = rows_counted c n (length code) s.some size.1 all_right.2 in
      let same : blocks_from l number n 0 n code ≡ blocks_from l number (blocks_for l (length code)) 0 (blocks_for l (length code)) code =
      ap (λ k. blocks_from l number k 0 k code) (sym counted) in
      let rows = all_right.2 in
      let one = mul-le c 1 c n (omega arith) size.1 in
      let most = mul-le c n c l.limit (omega arith) size.2 in
      let swap = mul_comm c l.limit in
      let some : 1 ≤ length code = omega (arith, rows.needed) in
      let few : length code ≤ l.limit * c = omega (arith, rows.enough) in
      let room : 512 * blocks_for l (length code) ≤ length bytes = omega (arith, size.0, counted) in
      record {
        reply =
            accepts (blocks_for l (length code)) _ _ _ _ _ _
            (and_from (leb 1 (length code)) _ (le-leb 1 (length code) some) (le-leb (length code) (l.limit * c) few))
            (eq-eqb _ _ (all_leading l.formed code all_right.1)) (le-leb _ _ room)
            ∙ ap Ok counted;
        bytes = all_right.0 ∙ same;
      }

  pub write_read : (number : ℕ) (code : List A) (before after : List ℕ) (r : Result ℕ Refusal) → number < 2 ^ 32
      → IfOk r (λ _. All (λ a. l.decode (l.encode a) ≡ a) code)
      → r ≡ write_reply l code (length before) → after ≡ store_after l number code before r
      → IfOk r (λ n. ReadsAs l (take (512 * n) after) code)
  write_read number code before after (Err e) n-fits each reply store = tt
  write_read number code before after (Ok n) n-fits each reply store =
      let m = length code in
      let tests = accepted n (blocks_for l m) (leb 1 m && leb m (l.limit * l.capacity)) (eqb (prefix_len l.formed code) m)
      (leb (512 * blocks_for l m) (length before)) _ _ _ reply in
      let both = and_parts (leb 1 m) (leb m (l.limit * l.capacity)) tests.0 in
      let formed = leading_all l.formed code (eqb-true (prefix_len l.formed code) m tests.1) in
      let back = reads_back number code n-fits (leb-true 1 m both.0) (leb-true m (l.limit * l.capacity) both.1) each formed in
      let size : length (image l number code) ≡ 512 * n = back.1 ∙ ap (λ k. 512 * k) (sym tests.2) in
      let front : take (512 * n) after ≡ image l number code =
      ap (take (512 * n)) store ∙ take_at (image l number code) (drop (512 * n) before) (512 * n) size in
      subst (λ xs. ReadsAs l xs code) (sym front) back.0

  pub read_write : (image : List ℕ) (before after : List A) (r : Result ℕ Refusal) → Bytes image
      → r ≡ read_reply l image (length before) → after ≡ code_after l image before r
      → IfOk r (λ n. WrittenAs l image (four_at image 0) (take n after))
  read_write image before after (Err e) each reply store = tt
  read_write image before after (Ok n) each reply store =
      let code = code_of l image in
      let (faultless, _, count) = passed_both (image_fault l image) (leb (length code) (length before)) n (length code) _ reply in
      let front : take n after ≡ code =
      ap (take n) store ∙ take_at code (drop n before) n (sym count) in
      subst (λ xs. WrittenAs l image (four_at image 0) xs) (sym front) (written_back image each faultless)

pub sixty_three : SixtyThree
unfolding image
sixty_three number code long =
    let first = length-take 62 code in
    let rest = length-drop 62 code in (
      ap (λ n. blocks_from layout number ((n + 61) / 62) 0 ((n + 61) / 62) code) long
          ∙ ap (λ xs. block layout number 0 2 (take 62 code) ++ (block layout number 1 2 xs ++ [])) (take_all 62 (drop 62 code) (omega arith)),
      omega arith,
      omega arith,
    )
