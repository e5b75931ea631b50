-- Each token stands behind the one before it.
use Rattle.std.proofs.Common.{ℕ, ◌+◌, ◌<◌, ◌≤◌, List, [], ◌∷◌, map, length, arith}
use Rattle.tokens.specs.Tokens.{Tok, end, mark, number, name}
use Rattle.tokens.specs.Lexemes.{Spells, reserved, digits, letters, finished, gap, lexeme, unclosed_comment, unexpected_byte}
use Rattle.tokens.specs.Reply.{Rising, PlacesRise}
use Rattle.tokens.proofs.Texts.{some_bytes}

lower : (p q : ℕ) (ts : List Tok) → p ≤ q → Rising q ts → Rising p ts
lower p q [] le h = tt
lower p q (end ∷ ts) le h = lower p q ts le h
lower p q (mark r m ∷ ts) le h = (omega (arith, h.0), h.1)
lower p q (number r n ∷ ts) le h = (omega (arith, h.0), h.1)
lower p q (name r x ∷ ts) le h = (omega (arith, h.0), h.1)

-- a token at p, and those behind it
led : (p q : ℕ) {x : List ℕ} {t : Tok} (ts : List Tok) → p < q → Spells p x t → Rising q ts → Rising p (t ∷ ts)
led p q ts lt reserved h = (omega arith, lower (p + 1) q ts (omega arith) h)
led p q ts lt (digits r) h = (omega arith, lower (p + 1) q ts (omega arith) h)
led p q ts lt (letters r n) h = (omega arith, lower (p + 1) q ts (omega arith) h)

pub rising : PlacesRise
rising p bs ls e (finished) = tt
rising p bs ls e (gap {x = x} {r = r} g l) = lower p (p + length x) (map (λ l. l.token) ls) (omega arith) (rising (p + length x) r ls e l)
rising p bs (_ ∷ ls) e (lexeme {x = x} {r = r} s longest l) =
    let some : 0 < length x = some_bytes s in
    led p (p + length x) (map (λ l. l.token) ls) (omega (arith, some)) s (rising (p + length x) r ls e l)
rising p bs ls e (unclosed_comment n) = tt
rising p bs ls e (unexpected_byte w n) = tt
