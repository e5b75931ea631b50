-- One step of the register is linear over the exclusive or, and from an even result it can be taken back.
use Rattle.std.proofs.Common.{◌≡◌, ℕ, zero, suc, ◌+◌, ◌*◌, ◌/◌, ◌%◌, ◌^◌, ◌<◌, sym, refl, ◌∙◌, add-zero, arith}
use native.Mathlib.Nat.{mul-mod_left}
use lib.Bits.{bit_xor, xor_shr, xor_mod, xor_block, xor_assoc, xor_comm, xor_self, xor_lt, xor_zero_r, xor_zero_l}
use Rattle.std.proofs.lemmas.Nat.{mod-pow-add, shl-shr}
use Rattle.crc.specs.Crc.{generator, shift}

-- ---- the exclusive or

exchange : (a b c d : ℕ) → bit_xor (bit_xor a b) (bit_xor c d) ≡ bit_xor (bit_xor a c) (bit_xor b d)
exchange a b c d =
    cc (xor_assoc a b (bit_xor c d), xor_assoc b c d, xor_comm b c, xor_assoc c b d, xor_assoc a c (bit_xor b d))

pub same_from_xor : (a b : ℕ) → bit_xor a b ≡ 0 → a ≡ b
same_from_xor a b e = cc (xor_assoc a b b, xor_self b, xor_zero_r a, xor_zero_l b)

pub xor_same : (a b : ℕ) → a ≡ b → bit_xor a b ≡ 0
xor_same a b e = cc (xor_self b)

xor_double : (a b : ℕ) → bit_xor a b * 2 ≡ bit_xor (a * 2) (b * 2)
xor_double a b =
    let e : bit_xor (a * 2 + 0) (b * 2 + 0) ≡ bit_xor a b * 2 + 0 = xor_block 1 a b 0 0 (omega arith) (omega arith) in
    sym (simp add-zero at e)

xor_times : (a b : ℕ) → a < 2 → b < 2 → bit_xor a b * generator ≡ bit_xor (a * generator) (b * generator)
xor_times zero b h k = refl
xor_times (suc zero) zero h k = refl
xor_times (suc zero) (suc zero) h k = refl
xor_times (suc zero) (suc (suc b)) h k = absurd (omega arith)
xor_times (suc (suc a)) b h k = absurd (omega arith)

pub shl_cut : (r j k : ℕ) → r * 2 ^ k % 2 ^ (j + k) ≡ r % 2 ^ j * 2 ^ k
shl_cut r j k = rw (shl-shr, mul-mod_left, add-zero) at (mod-pow-add (r * 2 ^ k) j k)

-- ---- one step

module _ (r w : ℕ) (r-fits : r < 2 ^ 16) (w-bit : w < 2) where
  top_bit : bit_xor (r / 2 ^ 15) w < 2
  top_bit = xor_lt 1 (r / 2 ^ 15) w (omega arith) w-bit

  pub shift_fits : shift r w < 2 ^ 16
  shift_fits = let t = top_bit in xor_lt 16 (r * 2 % 2 ^ 16) (bit_xor (r / 2 ^ 15) w * generator) (omega arith) (omega arith)

  -- the generator is odd, so the result is odd just where the generator was added
  shift_parity : shift r w % 2 ≡ bit_xor (r / 2 ^ 15) w
  shift_parity =
      let t = top_bit in
      let low : r * 2 % 2 ^ 16 % 2 ≡ 0 = omega arith in
      let added : bit_xor (r / 2 ^ 15) w * generator % 2 ≡ bit_xor (r / 2 ^ 15) w = omega arith in
      let parts = xor_mod (r * 2 % 2 ^ 16) (bit_xor (r / 2 ^ 15) w * generator) 1 in
      cc (xor_zero_l (bit_xor (r / 2 ^ 15) w))

  shift_back : shift r w % 2 ≡ 0 → r ≡ w * 2 ^ 15 + shift r w / 2
  shift_back even =
      let none : bit_xor (r / 2 ^ 15) w ≡ 0 = sym shift_parity ∙ even in
      let top : r / 2 ^ 15 ≡ w = same_from_xor (r / 2 ^ 15) w none in
      let doubled : shift r w ≡ r * 2 % 2 ^ 16 = cc (xor_zero_r (r * 2 % 2 ^ 16)) in
      omega (arith, top, doubled, shl_cut r 15 1)

module _ (r s w v : ℕ) (r-fits : r < 2 ^ 16) (s-fits : s < 2 ^ 16) (w-bit : w < 2) (v-bit : v < 2) where
  pub shift_linear : shift (bit_xor r s) (bit_xor w v) ≡ bit_xor (shift r w) (shift s v)
  shift_linear =
      let top_r : ℕ = bit_xor (r / 2 ^ 15) w in
      let top_s : ℕ = bit_xor (s / 2 ^ 15) v in
      cc (
        xor_double r s,
        xor_mod (r * 2) (s * 2) 16,
        xor_shr r s 15,
        exchange (r / 2 ^ 15) (s / 2 ^ 15) w v,
        xor_times top_r top_s (top_bit r w r-fits w-bit) (top_bit s v s-fits v-bit),
        exchange (r * 2 % 2 ^ 16) (s * 2 % 2 ^ 16) (top_r * generator) (top_s * generator),
      )

  -- the difference of two registers from that of their next ones
  pub difference_back : bit_xor (shift r w) (shift s v) % 2 ≡ 0
      → bit_xor r s ≡ bit_xor w v * 2 ^ 15 + bit_xor (shift r w) (shift s v) / 2
  difference_back even =
      let back = shift_back (bit_xor r s) (bit_xor w v) (xor_lt 16 r s r-fits s-fits) (xor_lt 1 w v w-bit v-bit) in
      rw shift_linear at (back (rw shift_linear even))
