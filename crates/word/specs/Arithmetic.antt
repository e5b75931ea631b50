use Rattle.std.specs.Prelude.{◌≡◌, Bool, true, if◌then◌else◌, ◌&&◌, ℤ, pos, ◌+ℤ◌, ◌-ℤ◌, ◌*ℤ◌, neg_ℤ, Some, None, Option, int_div, int_le, int_lt}
use Rattle.std.specs.Int.{int_wrap, w32}

-- the signed number of 32 bits that a number wraps to
abbrev pub word : ℤ → ℤ
word z = int_wrap w32 z

abbrev pub sum : ℤ → ℤ → ℤ
sum a b = word (a +ℤ b)

abbrev pub difference : ℤ → ℤ → ℤ
difference a b = word (a -ℤ b)

abbrev pub product : ℤ → ℤ → ℤ
product a b = word (a *ℤ b)

abbrev pub is_zero : ℤ → Bool
is_zero a = int_le a (pos 0) && int_le (pos 0) a

-- the fraction is dropped towards zero, and there is no quotient by 0
abbrev pub quotient : ℤ → ℤ → Option ℤ
quotient a b = if is_zero b then None else Some (word (int_div a b))

-- the true order, whatever the difference wraps to
abbrev pub less : ℤ → ℤ → Bool
less a b = int_lt a b

abbrev pub smallest : ℤ
smallest = difference (difference (pos 0) (pos 2147483647)) (pos 1)

pub record Samples : Type 0 where
  pub seven_by_two : quotient (pos 7) (pos 2) ≡ Some (pos 3)
  pub minus_seven_by_two : quotient (difference (pos 0) (pos 7)) (pos 2) ≡ Some (neg_ℤ (pos 3))
  pub smallest_by_minus_one : quotient smallest (difference (pos 0) (pos 1)) ≡ Some (neg_ℤ (pos 2147483648))
  pub smallest_below_one : less smallest (pos 1) ≡ true
