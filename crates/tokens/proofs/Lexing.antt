-- What the two passes make of a source.
use Rattle.std.proofs.Common.{◌≡◌, ℕ, ◌<◌, ◌≤◌, leb, List, [], ◌∷◌, length, None, Ok, Err, Result, sym, refl, ◌∙◌, subst}
use Rattle.std.proofs.lemmas.Bool.{cond-true, cond-false, leb-true, le-leb, lt-leb}
use Rattle.refusal.specs.declared.Refusal.{Refusal}
use Rattle.refusal.specs.declared.Reason.TheVariants.{SourceTooLong}
use Rattle.tokens.specs.declared.token.Token.{Token}
use Rattle.tokens.specs.Lexemes.{Lexeme, Ending, complete, unexpected, unclosed, Lexed}
use Rattle.refusal.specs.Faults.{refusal}
use Rattle.refusal.proofs.Faults.{passed_by, passed_if, or_else_none}
use Rattle.tokens.specs.Reply.{ending_fault, first_fault, fault, start, lexeme_count, lex_reply, TokensAfter, Lexes}
use Rattle.tokens.specs.Survey.{Surveyed, Faultless, Filled}
use Rattle.tokens.proofs.Total.{total}

pub too_long : (source : List ℕ) (tokens : List Token) → 16384 < length source
    → Lexes source tokens tokens (Err (refusal SourceTooLong 16384))
too_long source tokens long =
    let (ls, e, d) = total 0 source in
    record {
      lexemes = ls;
      ending = e;
      lexed = d;
      reply_is = sym (cond-false (leb (length source) 16384) _ _ (lt-leb (length source) 16384 long));
      tokens_are = refl;
    }

counted_ok : (ls : List Lexeme) (n : ℕ) → Ok n ≡ lexeme_count ls → (length ls ≤ 2048) × (n ≡ length ls)
counted_ok ls n e =
    let (few, same) = passed_if (leb (length ls) 2048) (Ok (length ls)) _ n e in
    (leb-true (length ls) 2048 few, cc same)

clean_ending : (e : Ending) → ending_fault e ≡ None → e ≡ complete
clean_ending complete clean = refl
clean_ending (unexpected p) clean = cc
clean_ending (unclosed p) clean = cc

whole : (last : Lexeme) (ls : List Lexeme) (e : Ending) → first_fault last ls e ≡ None → e ≡ complete
whole last [] e clean = clean_ending e clean
whole last (l ∷ ls) e clean = whole l ls e (or_else_none (fault last l) (first_fault l ls e) clean).1

module _ {source : List ℕ} (before : List Token) (short : length source ≤ 16384) where
  reply_of : {reply : Result ℕ Refusal} (s : Surveyed source reply) → reply ≡ lex_reply source s.lexemes s.ending
  reply_of s = s.reply_is ∙ sym (cond-true (leb (length source) 16384) _ _ (le-leb (length source) 16384 short))

  pub refused : {f : Refusal} → Surveyed source (Err f) → Lexes source before before (Err f)
  refused s =
      record { lexemes = s.lexemes; ending = s.ending; lexed = s.lexed; reply_is = reply_of s; tokens_are = refl }

  module _ {n : ℕ} (s : Surveyed source (Ok n)) where
    parts : (first_fault start s.lexemes s.ending ≡ None) × (Ok n ≡ lexeme_count s.lexemes)
    parts = passed_by (first_fault start s.lexemes s.ending) (lexeme_count s.lexemes) n s.reply_is

    ends : s.ending ≡ complete
    ends = whole start s.lexemes s.ending parts.0

    complete_lexed : Lexed 0 source s.lexemes complete
    complete_lexed = subst (Lexed 0 source s.lexemes) ends s.lexed

    pub faultless : Faultless source
    faultless = record {
      lexemes = s.lexemes;
      lexed = complete_lexed;
      clean = subst (λ e. first_fault start s.lexemes e ≡ None) ends parts.0;
      few = (counted_ok s.lexemes n parts.1).0;
    }

    pub accepted : {after : List Token} → Filled source before after → Lexes source before after (Ok n)
    accepted {after} filled = record {
      lexemes = s.lexemes;
      ending = s.ending;
      lexed = s.lexed;
      reply_is = reply_of s;
      tokens_are = subst (λ m. TokensAfter s.lexemes before after (Ok m)) (sym (counted_ok s.lexemes n parts.1).1)
          (filled s.lexemes complete_lexed);
    }
