-- What the lexer answers.
use Rattle.std.specs.Prelude.{◌≡◌, ℕ, ◌+◌, ◌≤◌, Bool, false, if◌then◌else◌, ◌&&◌, ◌||◌, List, [], ◌∷◌, map, length, take, drop, Some, None, Ok, Err, codes, Option, Result, ◌==◌, nat_le, nat_lt, slice_index, ⊤}
use Rattle.refusal.specs.declared.Refusal.{Refusal}
use Rattle.refusal.specs.declared.Reason.TheVariants.{SourceTooLong, UnexpectedByte, UnclosedComment, NumberTooLarge, MissingSeparator, TooManyTokens}
use Rattle.refusal.specs.Faults.{refusal, unless, or_else}
use Rattle.tokens.specs.declared.token.Mark.TheVariants.{Star}
use Rattle.tokens.specs.declared.token.Token.{Token}
use Rattle.tokens.specs.Tokens.{Tok, end, mark, number, name, tok}
use Rattle.tokens.specs.Lexemes.{letter, digit, Lexeme, Ending, complete, unexpected, unclosed, Lexed}

-- ---- faults

-- a number of more than 31 bits
abbrev pub too_large : Tok → Bool
too_large end = false
too_large (mark p m) = false
too_large (number p n) = nat_lt 2147483647 n
too_large (name p x) = false

-- whether the first byte of the text passes the test
abbrev pub begins : (ℕ → Bool) → Lexeme → Bool
begins test l = test (slice_index l.text 0)

-- whether b follows a at once, and one of them is a number, the other a name or a keyword
abbrev pub unseparated : Lexeme → Lexeme → Bool
unseparated a b =
    (a.place + length a.text == b.place)
    && ((begins digit a && begins letter b) || (begins letter a && begins digit b))

-- the fault of a lexeme, given the one before it
abbrev pub fault : Lexeme → Lexeme → Option Refusal
fault before l =
    if too_large l.token then Some (refusal NumberTooLarge l.place)
    else if unseparated before l then Some (refusal MissingSeparator l.place)
    else None

-- the fault at the end of the lexemes
abbrev pub ending_fault : Ending → Option Refusal
ending_fault complete = None
ending_fault (unexpected p) = Some (refusal UnexpectedByte p)
ending_fault (unclosed p) = Some (refusal UnclosedComment p)

-- the first fault of lexemes after this one
abbrev pub first_fault : Lexeme → List Lexeme → Ending → Option Refusal
first_fault before [] e = ending_fault e
first_fault before (l ∷ ls) e = or_else (fault before l) (first_fault l ls e)

-- ---- the answer

-- nothing stands before the first lexeme
abbrev pub start : Lexeme
start = record { place = 0; text = []; token = end }

-- a number of lexemes, which is at most 2,048, with the place of the first one too many
abbrev pub count_reply : ℕ → ℕ → Result ℕ Refusal
count_reply n surplus = if nat_le n 2048 then Ok n else Err (refusal TooManyTokens surplus)

abbrev pub lexeme_count : List Lexeme → Result ℕ Refusal
lexeme_count ls = count_reply (length ls) (slice_index (map (λ l. l.place) ls) 2048)

-- what lex answers for a source with these lexemes
abbrev pub lex_reply : List ℕ → List Lexeme → Ending → Result ℕ Refusal
lex_reply source ls e =
    if nat_le (length source) 16384 then unless (first_fault start ls e) (lexeme_count ls)
    else Err (refusal SourceTooLong 16384)

-- what it leaves in the array
abbrev pub TokensAfter : List Lexeme → List Token → List Token → Result ℕ Refusal → Type 0
TokensAfter ls before after (Ok n) = (map tok (take n after) ≡ map (λ l. l.token) ls) × (drop n after ≡ drop n before)
TokensAfter ls before after (Err _) = after ≡ before

-- the answer for a source, with the array before and after
pub record Lexes (source : List ℕ) (before after : List Token) (reply : Result ℕ Refusal) : Type 0 where
  pub lexemes : List Lexeme
  pub ending : Ending
  pub lexed : Lexed 0 source lexemes ending
  pub reply_is : reply ≡ lex_reply source lexemes ending
  pub tokens_are : TokensAfter lexemes before after reply

-- ---- laws

-- a source has only one list of lexemes
abbrev pub UniqueLexemes : Type 0
UniqueLexemes = (p : ℕ) (bs : List ℕ) (ls ms : List Lexeme) (e f : Ending)
    → Lexed p bs ls e → Lexed p bs ms f → (ls ≡ ms) × (e ≡ f)

-- each token stands at p or behind, and each behind the one before it
abbrev pub Rising : ℕ → List Tok → Type 0
Rising p [] = ⊤
Rising p (end ∷ ts) = Rising p ts
Rising p (mark q m ∷ ts) = (p ≤ q) × Rising (q + 1) ts
Rising p (number q n ∷ ts) = (p ≤ q) × Rising (q + 1) ts
Rising p (name q x ∷ ts) = (p ≤ q) × Rising (q + 1) ts

-- the places of the tokens rise
abbrev pub PlacesRise : Type 0
PlacesRise = (p : ℕ) (bs : List ℕ) (ls : List Lexeme) (e : Ending) → Lexed p bs ls e → Rising p (map (λ l. l.token) ls)

-- an opening mark does not close its comment; a comment separates names; a star does not close a comment that follows it
pub record Samples : Type 0 where
  pub half_open : Lexed 0 (codes "/*/") [] (unclosed 0)
  pub half_open_reply : lex_reply (codes "/*/") [] (unclosed 0) ≡ Err (refusal UnclosedComment 0)
  pub between_names : (ls : List Lexeme) × Lexed 0 (codes "a/**/b") ls complete
      × (map (λ l. l.token) ls ≡ name 0 (codes "a") ∷ name 5 (codes "b") ∷ [])
  pub after_star : (ls : List Lexeme) × Lexed 0 (codes "a*/**/b") ls complete
      × (map (λ l. l.token) ls ≡ name 0 (codes "a") ∷ mark 1 Star ∷ name 6 (codes "b") ∷ [])
