-- What the two passes over a source answer.
use Rattle.std.specs.Prelude.{◌≡◌, ℕ, ◌+◌, ◌≤◌, Bool, true, false, if◌then◌else◌, ◌&&◌, List, length, Some, None, Ok, Err, Result, ◌==◌, option_map}
use Rattle.refusal.specs.declared.Refusal.{Refusal}
use Rattle.refusal.specs.declared.Reason.TheVariants.{MissingSeparator, TooManyTokens}
use Rattle.tokens.specs.declared.bytes.Class.{Class}
use Rattle.tokens.specs.declared.bytes.Class.TheVariants.{Letter, Digit, White, Other}
use Rattle.tokens.specs.declared.lexer.Seen.{Seen}
use Rattle.tokens.specs.declared.token.Token.{Token}
use Rattle.tokens.specs.Lexemes.{Lexeme, Ending, complete, Lexed}
use Rattle.refusal.specs.Faults.{refusal, unless}
use Rattle.tokens.specs.Reply.{start, first_fault, lexeme_count, TokensAfter}

abbrev pub is_letter : Class → Bool
is_letter Letter = true
is_letter Digit = false
is_letter White = false
is_letter Other = false

abbrev pub is_digit : Class → Bool
is_digit Letter = false
is_digit Digit = true
is_digit White = false
is_digit Other = false

-- one is the class of a letter, and the other that of a digit
abbrev pub apart : Class → Class → Bool
apart Letter b = is_digit b
apart Digit b = is_letter b
apart White b = false
apart Other b = false

-- what is kept after one more lexeme
abbrev pub joined : Seen → ℕ → Class → ℕ → Seen
joined seen place class end = record {
  count = seen.count + 1;
  end = end;
  class = class;
  surplus = if seen.count == 2048 then Some place else seen.surplus;
}

-- the same, unless a separator is missing before it
abbrev pub join : Seen → ℕ → Class → ℕ → Result Seen Refusal
join seen place class end =
    if seen.end == place && apart seen.class class then Err (refusal MissingSeparator place)
    else Ok (joined seen place class end)

-- the number of lexemes, unless there is one too many
abbrev pub counted : Seen → Result ℕ Refusal
counted seen = unless (option_map (refusal TooManyTokens) seen.surplus) (Ok seen.count)

-- the number of lexemes or the first fault
pub record Surveyed (source : List ℕ) (reply : Result ℕ Refusal) : Type 0 where
  pub lexemes : List Lexeme
  pub ending : Ending
  pub lexed : Lexed 0 source lexemes ending
  pub reply_is : reply ≡ unless (first_fault start lexemes ending) (lexeme_count lexemes)

-- the source has no fault and not too many lexemes
pub record Faultless (source : List ℕ) : Type 0 where
  pub lexemes : List Lexeme
  pub lexed : Lexed 0 source lexemes complete
  pub clean : first_fault start lexemes complete ≡ None
  pub few : length lexemes ≤ 2048

-- the array after has the tokens of the source
abbrev pub Filled : List ℕ → List Token → List Token → Type 0
Filled source before after =
    (ls : List Lexeme) → Lexed 0 source ls complete → TokensAfter ls before after (Ok (length ls))
