-- Numbers of several bytes, and lists byte by byte.
use Rattle.std.proofs.Common.{◌≡◌, ℕ, suc, ◌+◌, ◌*◌, ◌/◌, ◌%◌, ◌^◌, ◌<◌, ◌≤◌, List, [], ◌∷◌, length, get_or, take, drop, sym, refl, ap, ◌∙◌, arith}
use Rattle.std.proofs.lemmas.Nat.{shr-shr, div-add-mod'}
use Rattle.std.proofs.lemmas.List.{drop_more}

pub two_whole : (n : ℕ) → n < 2 ^ 16 → (n / 2 ^ 8 % 256) * 2 ^ 8 + n % 256 ≡ n
two_whole n h = omega arith

glue : (n p q t x y z : ℕ) → n ≡ p * 256 + x → p ≡ q * 256 + y → q ≡ t * 256 + z
    → t * 2 ^ 24 + z * 2 ^ 16 + y * 2 ^ 8 + x ≡ n
glue n p q t x y z a b c = omega arith

pub four_whole : (n : ℕ) → n < 2 ^ 32
    → (n / 2 ^ 24 % 256) * 2 ^ 24 + (n / 2 ^ 16 % 256) * 2 ^ 16 + (n / 2 ^ 8 % 256) * 2 ^ 8 + n % 256 ≡ n
four_whole n h =
    let p : n / 2 ^ 8 / 2 ^ 8 ≡ n / 2 ^ 16 = shr-shr n 8 8 in
    let q : n / 2 ^ 16 / 2 ^ 8 ≡ n / 2 ^ 24 = shr-shr n 16 8 in
    let top : n / 2 ^ 24 ≡ n / 2 ^ 24 % 256 = omega arith in
    glue n (n / 2 ^ 8) (n / 2 ^ 16) (n / 2 ^ 24 % 256) (n % 256) (n / 2 ^ 8 % 256) (n / 2 ^ 16 % 256)
    (sym (div-add-mod' n 256))
    (sym (div-add-mod' (n / 2 ^ 8) 256) ∙ ap (λ x. x * 256 + n / 2 ^ 8 % 256) p)
    (sym (div-add-mod' (n / 2 ^ 16) 256) ∙ ap (λ x. x * 256 + n / 2 ^ 16 % 256) (q ∙ top))

pub bytes_of_two : (a b n : ℕ) → a < 256 → b < 256 → a * 2 ^ 8 + b ≡ n → (a ≡ n / 2 ^ 8 % 256) × (b ≡ n % 256)
bytes_of_two a b n a-fits b-fits e = (omega arith, omega arith)

pub bytes_of_four : (a b c d n : ℕ) → a < 256 → b < 256 → c < 256 → d < 256
    → a * 2 ^ 24 + b * 2 ^ 16 + c * 2 ^ 8 + d ≡ n
    → (a ≡ n / 2 ^ 24 % 256) × (b ≡ n / 2 ^ 16 % 256) × (c ≡ n / 2 ^ 8 % 256) × (d ≡ n % 256)
bytes_of_four a b c d n a-fits b-fits c-fits d-fits e = (omega arith, omega arith, omega arith, omega arith)

-- ys stand in xs from the place i on
abbrev Stand : List ℕ → ℕ → List ℕ → Type 0
Stand xs i [] = Unit {0}
Stand xs i (y ∷ ys) = (get_or xs i 0 ≡ y) × Stand xs (i + 1) ys

pub stand_at : (xs : List ℕ) (i : ℕ) (ys : List ℕ) → i + length ys ≤ length xs → Stand xs i ys → take (length ys) (drop i xs) ≡ ys
stand_at xs i [] h e = refl
stand_at xs i (y ∷ ys) h e =
    let next = drop_more xs i 0 (omega arith) in
    let rest = stand_at xs (i + 1) ys (omega arith) e.1 in
    ap (take (suc (length ys))) next ∙ ap (λ x. x ∷ take (length ys) (drop (i + 1) xs)) e.0 ∙ ap (λ zs. y ∷ zs) rest
