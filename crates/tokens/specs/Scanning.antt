-- What the functions that look at the front of some bytes answer.
use Rattle.std.specs.Prelude.{◌≡◌, ℕ, ◌+◌, ◌<◌, ◌≤◌, ◌⊎◌, true, false, if◌then◌else◌, List, [], ◌∷◌, ◌++◌, length, codes, Some, None, Ok, Err, Option, Result, ◌≢◌, nat_le, slice_index}
use Rattle.std.specs.Borrow.{Bor}
use Rattle.std.specs.List.{AllByRecursion}
use Rattle.refusal.specs.declared.Refusal.{Refusal}
use Rattle.refusal.specs.declared.Reason.TheVariants.{NumberTooLarge, UnclosedComment, UnexpectedByte}
use Rattle.refusal.specs.Faults.{refusal}
use Rattle.tokens.specs.declared.bytes.Class.{Class}
use Rattle.tokens.specs.declared.bytes.Class.TheVariants.{Letter, Digit, White, Other}
use Rattle.tokens.specs.declared.scan.Next.{Next}
use Rattle.tokens.specs.declared.scan.Next.TheVariants as next
use Rattle.tokens.specs.declared.token.Mark.{Mark}
use Rattle.tokens.specs.declared.token.Token.{Token}
use Rattle.tokens.specs.declared.token.Token.TheVariants as code
use Rattle.tokens.specs.declared.token.Mark.TheVariants.{Else, If, Int, Return, Void, While, Plus, Minus, Star, Slash, Less, LessEqual, Greater, GreaterEqual, Equal, NotEqual, Assign, Semicolon, Comma, LeftParen, RightParen, LeftBracket, RightBracket, LeftBrace, RightBrace}
use Rattle.tokens.specs.Tokens.{Tok, tok}
use Rattle.tokens.specs.Lexemes.{letter, digit, white, spelling, Spells, Front, Longest, Closed, Body, Gap, Lexed, unclosed, unexpected}
use Rattle.tokens.specs.Reply.{too_large}

-- ---- bytes

abbrev pub class : ℕ → Class
class b = if letter b then Letter else if digit b then Digit else if white b then White else Other

-- the bytes after the mark that opens a comment, if bs begins with it
abbrev pub Opening : List ℕ → Option (Bor (List ℕ)) → Type 0
Opening bs (Some r) = bs ≡ codes "/*" ++ r.now
Opening bs None = Front (codes "/*") bs → ⊥

-- no closing mark stands at i
abbrev pub NotClosing : List ℕ → ℕ → Type 0
NotClosing bs i = slice_index bs i ≡ 42 → slice_index bs (i + 1) ≢ 47

-- where the first closing mark stands
abbrev pub FirstClosing : List ℕ → Option ℕ → Type 0
FirstClosing bs (Some i) =
    (i + 2 ≤ length bs) × (slice_index bs i ≡ 42) × (slice_index bs (i + 1) ≡ 47)
    × ((k : ℕ) → k < i → NotClosing bs k)
FirstClosing bs None = (k : ℕ) → k + 2 ≤ length bs → NotClosing bs k

-- the bytes after the first mark that closes a comment
abbrev pub CommentEnd : List ℕ → Option (Bor (List ℕ)) → Type 0
CommentEnd bs (Some r) = (x : List ℕ) × (bs ≡ x ++ r.now) × Body x
CommentEnd bs None = (x : List ℕ) → Front x bs → Closed x → ⊥

-- a number, unless it is too large
abbrev pub limited : ℕ → Option ℕ
limited n = if nat_le n 2147483647 then Some n else None

-- ---- marks

abbrev pub keywords : List Mark
keywords = Else ∷ If ∷ Int ∷ Return ∷ Void ∷ While ∷ []

-- the symbols of two bytes
abbrev pub doubles : List Mark
doubles = LessEqual ∷ GreaterEqual ∷ Equal ∷ NotEqual ∷ []

-- the symbols of one byte
abbrev pub singles : List Mark
singles =
    Plus ∷ Minus ∷ Star ∷ Slash ∷ Less ∷ Greater ∷ Assign ∷ Semicolon ∷ Comma ∷ LeftParen ∷ RightParen
    ∷ LeftBracket ∷ RightBracket ∷ LeftBrace ∷ RightBrace ∷ []

-- the one of these marks that x spells
abbrev pub Spelt : List Mark → List ℕ → Option Mark → Type 0
Spelt ms x (Some m) = x ≡ spelling m
Spelt ms x None = AllByRecursion (λ m. x ≢ spelling m) ms

-- the token of the word x at p: a keyword, or a name
abbrev pub WordToken : ℕ → List ℕ → Token → Type 0
WordToken p x (code.Mark q m) = (q ≡ p) × Spelt keywords x (Some m)
WordToken p x (code.Name q v) = (q ≡ p) × (v.now ≡ x) × Spelt keywords x None
WordToken p x (code.Number q n) = ⊥

-- bs begins with none of these marks
abbrev pub NoneOf : List Mark → List ℕ → Type 0
NoneOf ms bs = AllByRecursion (λ m. Front (spelling m) bs → ⊥) ms

-- the symbol at the front, the longer one where there are two, and the bytes after it
abbrev pub Symbol : List ℕ → Option (Mark × Bor (List ℕ)) → Type 0
Symbol bs (Some (m, r)) = (bs ≡ spelling m ++ r.now) × ((length (spelling m) ≡ 2) ⊎ ((length (spelling m) ≡ 1) × NoneOf doubles bs))
Symbol bs None = NoneOf doubles bs × NoneOf singles bs

-- ---- parts

-- bs begins with a gap, and r stands after it
pub record Skips (bs r : List ℕ) : Type 0 where
  pub text : List ℕ
  pub whole : bs ≡ text ++ r
  pub gap : Gap text

-- bs, which stands at p, begins with the token t, and r stands after it
pub record Leads (p : ℕ) (bs r : List ℕ) (t : Tok) : Type 0 where
  pub text : List ℕ
  pub whole : bs ≡ text ++ r
  pub spells : Spells p text t
  pub longest : Longest p text bs

-- why nothing that bs, which stands at p, begins with can be taken
pub data Fails (p : ℕ) (bs : List ℕ) : Refusal → Type 0 where
  over_limit : {r : List ℕ} {t : Tok} → Leads p bs r t → too_large t ≡ true → Fails p bs (refusal NumberTooLarge p)
  open_comment : Lexed p bs [] (unclosed p) → Fails p bs (refusal UnclosedComment p)
  stray_byte : Lexed p bs [] (unexpected p) → Fails p bs (refusal UnexpectedByte p)

-- what bs, which stands at p, begins with
abbrev pub Stands : ℕ → List ℕ → Result Next Refusal → Type 0
Stands p bs (Ok next.End) = bs ≡ []
Stands p bs (Ok (next.Gap r)) = Skips bs r.now
Stands p bs (Ok (next.Token t r)) = Leads p bs r.now (tok t) × (too_large (tok t) ≡ false)
Stands p bs (Err f) = Fails p bs f
