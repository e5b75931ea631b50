use Rattle.std.specs.Prelude.{◌≡◌, ℕ, ◌+◌, ◌-◌, ◌*◌, ◌/◌, ◌%◌, ◌^◌, ◌<◌, Bool, true, false, ◌&&◌, ◌≢◌, List, [], ◌∷◌, ◌++◌, length, take, ◌==◌, bit_xor, nat_le, slice_index}
use Rattle.std.specs.Prelude.{All}

-- x^16 + x^12 + x^5 + 1 without its highest term
abbrev pub generator : ℕ
generator = 2 ^ 12 + 2 ^ 5 + 1

-- One bit w into a register of 16 bits. The register is a polynomial over the bits, its highest bit the factor of x^15:
-- it is multiplied by x, w is added at x^16, and what then stands at x^16 is taken off by the generator.
abbrev pub shift : ℕ → ℕ → ℕ
shift r w = bit_xor (r * 2 % 2 ^ 16) (bit_xor (r / 2 ^ 15) w * generator)

abbrev pub feed : List ℕ → ℕ → ℕ
feed [] r = r
feed (w ∷ ws) r = feed ws (shift r w)

-- a byte's bits, highest first
abbrev pub bits_of : ℕ → List ℕ
bits_of b = b / 128 % 2 ∷ b / 64 % 2 ∷ b / 32 % 2 ∷ b / 16 % 2 ∷ b / 8 % 2 ∷ b / 4 % 2 ∷ b / 2 % 2 ∷ b % 2 ∷ []

abbrev pub bits : List ℕ → List ℕ
bits [] = []
bits (b ∷ bs) = bits_of b ++ bits bs

-- the CRC of a text: its bits into the register, from FFFF hexadecimal
abbrev pub crc : List ℕ → ℕ
crc text = feed (bits text) 0xffff

-- a text is sealed if its last two bytes are the CRC of those before them, high byte first
abbrev pub sealed : List ℕ → Bool
sealed text =
    nat_le 2 (length text)
    && crc (take (length text - 2) text) == slice_index text (length text - 2) * 256 + slice_index text (length text - 2 + 1)

abbrev pub Bytes : List ℕ → Type 0
Bytes = All (λ b. b < 256)

-- b is a, changed somewhere, but only within sixteen successive bits
pub record Burst (a b : List ℕ) : Type 0 where
  pub before : List ℕ
  pub was : List ℕ
  pub is : List ℕ
  pub after : List ℕ
  pub was_long : length was ≡ 16
  pub is_long : length is ≡ 16
  pub changed : was ≢ is
  pub bits_a : bits a ≡ before ++ (was ++ after)
  pub bits_b : bits b ≡ before ++ (is ++ after)

-- a text that such a change made of a sealed one is not sealed
abbrev pub BurstDetected : List ℕ → Type 0
BurstDetected text = (original : List ℕ) → Bytes original → sealed original ≡ true → Burst original text → sealed text ≡ false
