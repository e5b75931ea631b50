-- What the tokens of a source are.
use Rattle.std.specs.Prelude.{◌≡◌, ℕ, ◌+◌, ◌-◌, ◌<◌, ◌≤◌, Bool, true, false, ◌||◌, List, [], ◌∷◌, ◌++◌, map, length, codes, ◌==◌, ◌≢◌}
use Rattle.std.specs.List.{AllPass}
use Rattle.std.specs.Char.{is_ascii_alphabetic, is_ascii_digit}
use Rattle.std.specs.Int.Digits.{number_from_digits}
use Rattle.tokens.specs.declared.token.Mark.{Mark}
use Rattle.tokens.specs.declared.token.Mark.TheVariants.{Else, If, Int, Return, Void, While, Plus, Minus, Star, Slash, Less, LessEqual, Greater, GreaterEqual, Equal, NotEqual, Assign, Semicolon, Comma, LeftParen, RightParen, LeftBracket, RightBracket, LeftBrace, RightBrace}
use Rattle.tokens.specs.Tokens.{Tok, mark, number, name}

-- ---- bytes

-- a to z and A to Z
abbrev pub letter : ℕ → Bool
letter b = is_ascii_alphabetic b

-- 0 to 9
abbrev pub digit : ℕ → Bool
digit b = is_ascii_digit b

-- white space is blank, newline and tab
abbrev pub white : ℕ → Bool
white b = b == 32 || (b == 10 || b == 9)

-- ---- texts

-- the text of each keyword and symbol
abbrev pub spelling : Mark → List ℕ
spelling Else = codes "else"
spelling If = codes "if"
spelling Int = codes "int"
spelling Return = codes "return"
spelling Void = codes "void"
spelling While = codes "while"
spelling Plus = codes "+"
spelling Minus = codes "-"
spelling Star = codes "*"
spelling Slash = codes "/"
spelling Less = codes "<"
spelling LessEqual = codes "<="
spelling Greater = codes ">"
spelling GreaterEqual = codes ">="
spelling Equal = codes "=="
spelling NotEqual = codes "!="
spelling Assign = codes "="
spelling Semicolon = codes ";"
spelling Comma = codes ","
spelling LeftParen = codes "("
spelling RightParen = codes ")"
spelling LeftBracket = codes "["
spelling RightBracket = codes "]"
spelling LeftBrace = codes "{"
spelling RightBrace = codes "}"

-- one byte or more, and each passes the test
abbrev pub Run : (ℕ → Bool) → List ℕ → Type 0
Run test x = (0 < length x) × AllPass test x

-- the number that decimal digits write
abbrev pub decimal : List ℕ → ℕ
decimal x = number_from_digits 10 (map (λ d. d - 48) x)

-- the text x, if it stands at p, is this token
pub data Spells (p : ℕ) : List ℕ → Tok → Type 0 where
  reserved : {m : Mark} → Spells p (spelling m) (mark p m)
  digits : {x : List ℕ} → Run digit x → Spells p x (number p (decimal x))
  letters : {x : List ℕ} → Run letter x → ((m : Mark) → x ≢ spelling m) → Spells p x (name p x)

-- bs begins with x
abbrev pub Front : List ℕ → List ℕ → Type 0
Front x bs = (r : List ℕ) × (bs ≡ x ++ r)

-- bs begins with no longer text than x, and with no comment
pub record Longest (p : ℕ) (x bs : List ℕ) : Type 0 where
  pub no_comment : Front (codes "/*") bs → ⊥
  pub no_longer : (y : List ℕ) (t : Tok) → Spells p y t → Front y bs → length y ≤ length x

-- ---- comments

-- x ends with the closing mark
abbrev pub Closed : List ℕ → Type 0
Closed x = (y : List ℕ) × (x ≡ y ++ codes "*/")

-- what stands after the opening mark, up to the first closing mark
pub record Body (x : List ℕ) : Type 0 where
  pub closed : Closed x
  pub first : (y r : List ℕ) → x ≡ y ++ r → Closed y → r ≡ []

-- what separates tokens
pub data Gap : List ℕ → Type 0 where
  blank : {b : ℕ} → white b ≡ true → Gap (b ∷ [])
  comment : {x : List ℕ} → Body x → Gap (codes "/*" ++ x)

-- ---- sources

-- a part of a source that is a token, with the number of bytes before it
pub record Lexeme : Type 0 where
  pub place : ℕ
  pub text : List ℕ
  pub token : Tok

-- why there are no more lexemes: the source ends, no token begins at a byte, or a comment is left open
pub data Ending : Type 0 where
  complete : Ending
  unexpected : ℕ → Ending
  unclosed : ℕ → Ending

-- the lexemes of bytes of which the first stands at p
pub data Lexed : ℕ → List ℕ → List Lexeme → Ending → Type 0 where
  finished : {p : ℕ} → Lexed p [] [] complete
  gap : {p : ℕ} {x r : List ℕ} {ls : List Lexeme} {e : Ending} → Gap x → Lexed (p + length x) r ls e → Lexed p (x ++ r) ls e
  lexeme : {p : ℕ} {x r : List ℕ} {t : Tok} {ls : List Lexeme} {e : Ending}
      → Spells p x t → Longest p x (x ++ r) → Lexed (p + length x) r ls e
      → Lexed p (x ++ r) (record { place = p; text = x; token = t } ∷ ls) e
  unclosed_comment : {p : ℕ} {r : List ℕ}
      → ((x : List ℕ) → Front x r → Closed x → ⊥) → Lexed p (codes "/*" ++ r) [] (unclosed p)
  unexpected_byte : {p b : ℕ} {r : List ℕ}
      → white b ≡ false → ((x : List ℕ) (t : Tok) → Spells p x t → Front x (b ∷ r) → ⊥)
      → Lexed p (b ∷ r) [] (unexpected p)
