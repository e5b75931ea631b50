-- A store whose first n blocks are those of a code.
use Rattle.std.proofs.Common.{◌≡◌, ℕ, suc, ◌+◌, ◌-◌, ◌*◌, ◌<◌, ◌≤◌, ◌⊎◌, List, [], ◌++◌, length, take, drop, min, sym, ap, ◌∙◌, inl, inr, append-nil, mul-suc, add-one, arith, length-append, length-take}
use borrow.Rule.Slice.PartMut.{put_mid}
use Rattle.std.proofs.lemmas.List.{append_assoc, drop-drop, take_at, drop_at, take_all, drop_all, take-append-drop, nil_from_length}
use Rattle.std.proofs.lemmas.Bool.{cases_lt}
use Rattle.std.proofs.lemmas.Slice.{take-put_mid, drop-put_mid}
use Rattle.image.specs.Layout.{Layout}
use Rattle.image.specs.Blocks.{block, blocks_from}
use Rattle.image.proofs.Sound.{Sound, length_block}

pub drop_row : {X : Type 0} (xs : List X) (w k : ℕ) → drop w (drop (w * k) xs) ≡ drop (w * (k + 1)) xs
drop_row xs w k =
    drop-drop w (w * k) xs ∙ ap (λ n. drop n xs) (sym (ap (λ n. w * n) (add-one k) ∙ mul-suc w k))

pub one_less : (n k : ℕ) → k < n → n - k ≡ suc (n - (k + 1))
one_less n k h = omega arith

-- a row and what follows it
pub split_row : {X : Type 0} (part rest : List X) (c : ℕ) → length part ≤ c → (length part ≡ c) ⊎ (rest ≡ [])
    → (take c (part ++ rest) ≡ part) × (drop c (part ++ rest) ≡ rest)
split_row part rest c few (inl full) = (take_at part rest c full, drop_at part rest c full)
split_row part rest c few (inr none) =
    let alone : part ++ rest ≡ part = ap (λ xs. part ++ xs) none ∙ append-nil part in
    (ap (take c) alone ∙ take_all c part few, ap (drop c) alone ∙ drop_all c part few ∙ sym none)

-- what comes off the front of a list, at most c elements
pub first_row : {X : Type 0} (xs part rest : List X) (c : ℕ) → xs ≡ part ++ rest → length part ≡ min c (length xs)
    → (part ≡ take c xs) × (rest ≡ drop c xs)
first_row xs part rest c e long =
    let size = ap length e ∙ length-append part rest in
    let ends : (length part ≡ c) ⊎ (rest ≡ []) = elim (cases_lt (length xs) c) [
      | inl short ↦ inr (nil_from_length rest (omega arith))
      | inr full ↦ inl (omega arith)
    ] in
    let row = split_row part rest c (omega arith) ends in
    (sym (ap (take c) e ∙ row.0), sym (ap (drop c) e ∙ row.1))

module _ {A : Type 0} (l : Layout A) (s : Sound l) (number blocks : ℕ) (code : List A) (before : List ℕ) where
  pub record Written (n : ℕ) (store : List ℕ) : Type 0 where
    pub made : take (512 * n) store ++ blocks_from l number blocks n (blocks - n) (drop (l.capacity * n) code)
        ≡ blocks_from l number blocks 0 blocks code
    pub kept : drop (512 * blocks) store ≡ drop (512 * blocks) before

  pub write_next : (n : ℕ) (store bytes : List ℕ) → n < blocks → 512 * blocks ≤ length store
      → bytes ≡ block l number n blocks (take l.capacity (drop (l.capacity * n) code))
      → Written n store → Written (n + 1) (put_mid (512 * n) (512 * (n + 1) - 512 * n) store bytes)
  write_next n store bytes inside room made w =
      let part : List A = take l.capacity (drop (l.capacity * n) code) in
      let short = length-take l.capacity (drop (l.capacity * n) code) in
      let long : length bytes ≡ 512 = ap length made ∙ length_block l s number n blocks part (omega arith) in
      let rest : List ℕ = blocks_from l number blocks (n + 1) (blocks - (n + 1)) (drop (l.capacity * (n + 1)) code) in
      let next : blocks_from l number blocks n (blocks - n) (drop (l.capacity * n) code) ≡ bytes ++ rest =
      ap (λ k. blocks_from l number blocks n k (drop (l.capacity * n) code)) (one_less blocks n inside)
      ∙ ap (λ xs. block l number n blocks part ++ blocks_from l number blocks (n + 1) (blocks - (n + 1)) xs) (drop_row code l.capacity n)
      ∙ ap (λ xs. xs ++ rest) (sym made) in
      record {
        made =
            ap (λ xs. xs ++ rest) (take-put_mid (512 * n) (512 * (n + 1) - 512 * n) store bytes (512 * (n + 1)) (omega arith) (omega arith))
            ∙ append_assoc (take (512 * n) store) bytes rest
            ∙ ap (λ xs. take (512 * n) store ++ xs) (sym next)
            ∙ w.made;
        kept =
            drop-put_mid (512 * n) (512 * (n + 1) - 512 * n) store bytes (512 * blocks) (omega arith) (omega arith) (omega arith)
            ∙ w.kept;
      }

  -- one part more, which came off the front of the code ahead
  pub write_row : (n i later : ℕ) (store bytes : List ℕ) (size : ℕ) (ahead part rest : List A) → n < blocks → 512 * blocks ≤ length store
      → i ≡ n → later ≡ n + 1 → size ≡ l.capacity → ahead ≡ drop (l.capacity * n) code → ahead ≡ part ++ rest
      → length part ≡ min size (length ahead) → bytes ≡ block l number i blocks part → Written n store
      → (rest ≡ drop (l.capacity * later) code) × Written later (put_mid (512 * i) (512 * (i + 1) - 512 * i) store bytes)
  write_row n i later store bytes size ahead part rest inside room here next wide is split long made w =
      let row = first_row ahead part rest l.capacity split (rw wide at long) in
      let there : bytes ≡ block l number n blocks (take l.capacity (drop (l.capacity * n) code)) =
      made ∙ ap (λ k. block l number k blocks part) here ∙ ap (block l number n blocks) (row.0 ∙ ap (take l.capacity) is) in
      rw (here, next) (row.1 ∙ ap (drop l.capacity) is ∙ drop_row code l.capacity n, write_next n store bytes inside room there w)

  pub write_done : (n : ℕ) (store : List ℕ) → n ≡ blocks → Written n store
      → store ≡ blocks_from l number blocks 0 blocks code ++ drop (512 * blocks) before
  write_done n store e w =
      let none : blocks_from l number blocks n (blocks - n) (drop (l.capacity * n) code) ≡ [] =
      let over : blocks - n ≡ 0 = omega arith in
      ap (λ k. blocks_from l number blocks n k (drop (l.capacity * n) code)) over in
      let front : take (512 * blocks) store ≡ blocks_from l number blocks 0 blocks code =
      ap (λ k. take (512 * k) store) (sym e)
      ∙ sym (append-nil (take (512 * n) store))
      ∙ ap (λ xs. take (512 * n) store ++ xs) (sym none)
      ∙ w.made in
      sym (take-append-drop (512 * blocks) store) ∙ ap (λ xs. xs ++ drop (512 * blocks) store) front
      ∙ ap (λ xs. blocks_from l number blocks 0 blocks code ++ xs) w.kept
