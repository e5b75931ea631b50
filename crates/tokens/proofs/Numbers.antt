-- The value of a number, up to its limit.
use Rattle.std.proofs.Common.{◌≡◌, ℕ, ◌+◌, ◌-◌, ◌*◌, ◌<◌, ◌≤◌, List, map, length, get_or, drop, Some, None, sym, ◌∙◌, arith}
use Rattle.std.specs.Int.Digits.{number_from_digits_after}
use Rattle.std.proofs.lemmas.Int.Digits.{number_after_ge}
use Rattle.std.proofs.lemmas.List.{at_drop_more}
use Rattle.std.proofs.lemmas.Bool.Decides.{nat_tests}
use Rattle.tokens.specs.Lexemes.{decimal}
use Rattle.tokens.specs.Scanning.{limited}

pub limited_some : (n v : ℕ) → Some v ≡ limited n → (n ≤ 2147483647) × (v ≡ n)
limited_some n v e = (grind (arith, nat_tests), grind (arith, nat_tests))

pub limited_none : (n : ℕ) → None ≡ limited n → 2147483647 < n
limited_none n e = grind (arith, nat_tests)

-- the number of the digits from the ith on, after those of v
abbrev pub from : ℕ → List ℕ → ℕ → ℕ
from v ds i = number_from_digits_after 10 v (map (λ d. d - 48) (drop i ds))

-- a first part that is too large leaves the whole too large
pub value_over : (ds : List ℕ) (v i : ℕ) → from v ds i ≡ decimal ds → i < length ds
    → None ≡ limited (v * 10 + (get_or ds i 0 - 48)) → None ≡ limited (decimal ds)
value_over ds v i so_far inside e =
    let next : ℕ = v * 10 + (get_or ds i 0 - 48) in
    let over = limited_none next e in
    let whole : from next ds (i + 1) ≡ decimal ds =
    sym (at_drop_more (λ l. number_from_digits_after 10 v (map (λ d. d - 48) l)) ds i 0 inside) ∙ so_far in
    let least = number_after_ge 10 next (map (λ d. d - 48) (drop (i + 1) ds)) (omega arith) in
    grind (arith, nat_tests)
