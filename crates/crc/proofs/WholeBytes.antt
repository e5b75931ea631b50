-- What the eight bits of a byte make of the register.
use Rattle.std.proofs.Common.{◌≡◌, ℕ, zero, suc, ◌+◌, ◌*◌, ◌/◌, ◌%◌, ◌^◌, ◌<◌, Bool, true, ◌&&◌, eqb, List, [], ◌∷◌, sym, refl, ap, ◌∙◌, inl, inr, div-one, arith}
use lib.Bits.{bit_xor, xor_shr, xor_mod, xor_assoc, xor_comm, xor_self, xor_lt, xor_zero_r, xor_zero_l, xor_shifted}
use Rattle.std.proofs.lemmas.Nat.{shr_split}
use Rattle.std.proofs.lemmas.Bool.{and_parts, eqb-true, cases_eq}
use Rattle.crc.specs.Crc.{shift, feed, bits_of}
use Rattle.crc.proofs.Linear.{shl_cut, shift_fits, shift_linear}

-- ---- a whole byte is linear

-- the n lowest bits, highest first
abbrev lowest : ℕ → ℕ → List ℕ
lowest zero b = []
lowest (suc n) b = b / 2 ^ n % 2 ∷ lowest n b

lowest_linear : (n x y r s : ℕ) → r < 2 ^ 16 → s < 2 ^ 16
    → feed (lowest n (bit_xor x y)) (bit_xor r s) ≡ bit_xor (feed (lowest n x) r) (feed (lowest n y) s)
lowest_linear zero x y r s h k = refl
lowest_linear (suc n) x y r s h k =
    let v : ℕ = x / 2 ^ n % 2 in
    let w : ℕ = y / 2 ^ n % 2 in
    let v-bit : v < 2 = omega arith in
    let w-bit : w < 2 = omega arith in
    let bit : bit_xor x y / 2 ^ n % 2 ≡ bit_xor v w = ap (λ z. z % 2) (xor_shr x y n) ∙ xor_mod (x / 2 ^ n) (y / 2 ^ n) 1 in
    ap (λ z. feed (lowest n (bit_xor x y)) (shift (bit_xor r s) z)) bit
    ∙ ap (feed (lowest n (bit_xor x y))) (shift_linear r s v w h k v-bit w-bit)
    ∙ lowest_linear n x y (shift r v) (shift s w) (shift_fits r v h v-bit) (shift_fits s w k w-bit)

byte_linear : (b x y r s t : ℕ) → b ≡ bit_xor x y → r ≡ bit_xor s t → s < 2 ^ 16 → t < 2 ^ 16
    → feed (bits_of b) r ≡ bit_xor (feed (bits_of x) s) (feed (bits_of y) t)
byte_linear b x y r s t p q h k =
    ap (λ z. feed (bits_of z) r) p ∙ ap (feed (bits_of (bit_xor x y))) q ∙ simp div-one at (lowest_linear 8 x y s t h k)

-- ---- facts that are computed at each of the 256 bytes

abbrev agree : (ℕ → ℕ) → (ℕ → ℕ) → ℕ → Bool
agree f g zero = true
agree f g (suc n) = eqb (f n) (g n) && agree f g n

same_below : (f g : ℕ → ℕ) (n : ℕ) → agree f g n ≡ true → (x : ℕ) → x < n → f x ≡ g x
same_below f g zero e x h = absurd (omega arith)
same_below f g (suc n) e x h =
    let both = and_parts (eqb (f n) (g n)) (agree f g n) e in
    let last = eqb-true (f n) (g n) both.0 in
    elim (cases_eq x n) [ inl p ↦ cc | inr ne ↦ same_below f g n both.1 x (omega (arith, ne)) ]

abbrev times_generator : ℕ → ℕ
times_generator x = bit_xor (bit_xor (x * 2 ^ 12 % 2 ^ 16) (x * 2 ^ 5 % 2 ^ 16)) x

byte_into_zero : (x : ℕ) → x < 256 → feed (bits_of x) 0 ≡ times_generator (bit_xor x (x / 16))
byte_into_zero = same_below (λ x. feed (bits_of x) 0) (λ x. times_generator (bit_xor x (x / 16))) 256 refl

pub byte_into_itself : (x : ℕ) → x < 256 → feed (bits_of x) (x * 2 ^ 8) ≡ 0
byte_into_itself = same_below (λ x. feed (bits_of x) (x * 2 ^ 8)) (λ _. 0) 256 refl

zeros_into_byte : (x : ℕ) → x < 256 → feed (bits_of 0) x ≡ x * 2 ^ 8
zeros_into_byte = same_below (feed (bits_of 0)) (λ x. x * 2 ^ 8) 256 refl

-- ---- a byte into any register

-- a register's own high byte leaves no trace
pub own_byte : (high low : ℕ) → high < 256 → low < 256 → feed (bits_of high) (high * 2 ^ 8 + low) ≡ low * 2 ^ 8
own_byte high low h k =
    let same = sym (xor_zero_r high) in
    let parts = sym (xor_shifted high 8 low k) in
    byte_linear high high 0 (high * 2 ^ 8 + low) (high * 2 ^ 8) low same parts (omega arith) (omega arith)
    ∙ ap (λ z. bit_xor z (feed (bits_of 0) low)) (byte_into_itself high h)
    ∙ zeros_into_byte low k

pub byte_form : (b r : ℕ) → b < 256 → r < 2 ^ 16
    → (let x = bit_xor (r / 2 ^ 8) b in feed (bits_of b) r ≡ bit_xor (times_generator (bit_xor x (x / 16))) (r * 2 ^ 8 % 2 ^ 16))
byte_form b r h k =
    let high : ℕ = r / 2 ^ 8 in
    let x : ℕ = bit_xor high b in
    let x_fits : x < 256 = xor_lt 8 high b (omega arith) h in
    let undo : b ≡ bit_xor x high = cc (xor_comm x high, xor_assoc high high b, xor_self high, xor_zero_l b) in
    let own : feed (bits_of high) r ≡ r % 2 ^ 8 * 2 ^ 8 = rw (shr_split r 8) at (own_byte high (r % 2 ^ 8) (omega arith) (omega arith)) in
    byte_linear b x high r 0 r undo refl (omega arith) k
    ∙ ap (λ z. bit_xor z (feed (bits_of high) r)) (byte_into_zero x x_fits)
    ∙ ap (bit_xor (times_generator (bit_xor x (x / 16)))) (own ∙ sym (shl_cut r 8 8))
