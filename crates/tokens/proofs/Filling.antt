-- The pass that writes the tokens of a source without fault.
use Rattle.std.proofs.Common.{◌≡◌, ℕ, ◌+◌, ◌-◌, ◌<◌, ◌≤◌, false, List, [], ◌∷◌, ◌++◌, map, length, take, drop, set, Some, None, Ok, Err, Result, sym, refl, ap, ◌∙◌, subst, inl, inr, append_assoc, append-nil, arith, length-set}
use Rattle.std.proofs.Math.Nat.{sub_self}
use Rattle.std.specs.List.{AllByRecursion}
use Rattle.std.proofs.lemmas.Grind.{drop_more_same}
use Rattle.std.proofs.lemmas.List.{drop-set-lt, take_more_set, map_push, length_push}
use Rattle.std.proofs.lemmas.Bool.{cases_Bool, cond-true, both_ways}
use Rattle.refusal.specs.declared.Refusal.{Refusal}
use Rattle.refusal.specs.declared.Reason.TheVariants.{NumberTooLarge}
use Rattle.tokens.specs.declared.scan.Next.{Next}
use Rattle.tokens.specs.declared.token.Token.{Token}
use Rattle.tokens.specs.Tokens.{Tok, tok}
use Rattle.tokens.specs.Lexemes.{Lexeme, Ending, complete, unclosed, unexpected, Lexed, finished}
use Rattle.refusal.specs.Faults.{refusal, or_else}
use Rattle.refusal.proofs.Faults.{or_else_none}
use Rattle.tokens.specs.Reply.{too_large, fault, first_fault, start, TokensAfter}
use Rattle.tokens.specs.Scanning.{Skips, Leads, Fails, over_limit, open_comment, stray_byte, Stands}
use Rattle.tokens.specs.Survey.{Faultless, Filled}
use Rattle.tokens.proofs.Total.{lexeme_of, after_gap, after_lexeme, skips_shorter, leads_shorter, total}
use Rattle.tokens.proofs.Unique.{unique}
use Rattle.tokens.proofs.Survey.{later}

-- ---- the lexemes after a part

module _ {p : ℕ} {bs : List ℕ} {ls : List Lexeme} (d : Lexed p bs ls complete) where
  past_gap : {r : List ℕ} (s : Skips bs r) → Lexed (p + length s.text) r ls complete
  past_gap {r} s =
      let q : ℕ = p + length s.text in
      let (ms, e, d') = total q r in
      let (same, ending) = unique p bs ls ms complete e d (after_gap s d') in
      subst (Lexed q r ls) (sym ending) (subst (λ ks. Lexed q r ks e) (sym same) d')

  past_lexeme : {r : List ℕ} {t : Tok} (l : Leads p bs r t)
      → (ms : List Lexeme) × (ls ≡ lexeme_of l ∷ ms) × Lexed (p + length l.text) r ms complete
  past_lexeme {r} l =
      let q : ℕ = p + length l.text in
      let (ms, e, d') = total q r in
      let (same, ending) = unique p bs ls (lexeme_of l ∷ ms) complete e d (after_lexeme l d') in
      (ms, same, subst (Lexed q r ms) (sym ending) d')

  no_other_ending : (e : Ending) → Lexed p bs [] e → (ls ≡ []) × (complete ≡ e)
  no_other_ending e d' = unique p bs ls [] complete e d d'

-- ---- without fault no number is too large

abbrev Small : Lexeme → Type 0
Small l = too_large l.token ≡ false

small_numbers : (last : Lexeme) (ls : List Lexeme) (e : Ending) → first_fault last ls e ≡ None → AllByRecursion Small ls
small_numbers last [] e clean = tt
small_numbers last (l ∷ ls) e clean =
    elim (cases_Bool (too_large l.token)) [
      | inl large ↦
          let found : fault last l ≡ Some (refusal NumberTooLarge l.place) = cond-true _ _ _ large in
          cc (clean, ap (λ f. or_else f (first_fault l ls e)) found)
      | inr small ↦ (small, small_numbers l ls e (or_else_none (fault last l) (first_fault l ls e) clean).1)
    ]

no_fault : {p : ℕ} {bs : List ℕ} {ls : List Lexeme} {f : Refusal} → Lexed p bs ls complete → AllByRecursion Small ls → Fails p bs f → ⊥
no_fault d small (over_limit {t = t} l large) =
    let (ms, is, d') = past_lexeme d l in
    both_ways (too_large t) (subst (AllByRecursion Small) is small).0 large
no_fault {p} d small (open_comment ends) = cc (no_other_ending d (unclosed p) ends).1
no_fault {p} d small (stray_byte ends) = cc (no_other_ending d (unexpected p) ends).1

-- ---- one write

abbrev token_of : Lexeme → Tok
token_of l = l.token

module _ (tokens : List Token) (count : ℕ) (token : Token) (inside : count < length tokens) where
  write_filled : (done : List Lexeme) (l : Lexeme) → map tok (take count tokens) ≡ map token_of done → tok token ≡ l.token
      → map tok (take (count + 1) (set tokens count token)) ≡ map token_of (done ++ l ∷ [])
  write_filled done l filled is =
      ap (map tok) (take_more_set tokens count token inside)
      ∙ map_push tok (take count tokens) token
      ∙ ap (λ ts. ts ++ tok token ∷ []) filled
      ∙ ap (λ t. map token_of done ++ t ∷ []) is
      ∙ sym (map_push token_of done l)

-- ---- the loop

pub record Filling (source rest : List ℕ) (count : ℕ) (tokens before : List Token) : Type 0 where
  pub done : List Lexeme
  pub left : List Lexeme
  pub whole : Lexed 0 source (done ++ left) complete
  pub few : length done + length left ≤ 2048
  pub ahead : Lexed (length source - length rest) rest left complete
  pub small : AllByRecursion Small left
  pub within : length rest ≤ length source
  pub counted : count ≡ length done
  pub room : length tokens ≡ 2048
  pub filled : map tok (take count tokens) ≡ map (λ l. l.token) done
  pub kept : drop count tokens ≡ drop count before

pub filling_start : (source : List ℕ) (tokens : List Token) → length tokens ≡ 2048 → Faultless source
    → Filling source source 0 tokens tokens
filling_start source tokens room f = record {
  done = [];
  left = f.lexemes;
  whole = f.lexed;
  few = let n = f.few in omega arith;
  ahead = subst (λ p. Lexed p source f.lexemes complete) (sym (sub_self (length source))) f.lexed;
  small = small_numbers start f.lexemes complete f.clean;
  within = omega arith;
  counted = refl;
  room = room;
  filled = refl;
  kept = refl;
}

module _ {source rest : List ℕ} {count : ℕ} {tokens before : List Token} (v : Filling source rest count tokens before) where
  abbrev place : ℕ
  place = length source - length rest

  pub filling_gap : {r : List ℕ} → Skips rest r → Filling source r count tokens before
  filling_gap {r} s = record {
    done = v.done;
    left = v.left;
    whole = v.whole;
    few = v.few;
    ahead = subst (λ q. Lexed q r v.left complete) (later source s.text r s.whole v.within) (past_gap v.ahead s);
    small = v.small;
    within = let less = skips_shorter s in let h = v.within in omega arith;
    counted = v.counted;
    room = v.room;
    filled = v.filled;
    kept = v.kept;
  }

  pub has_room : {r : List ℕ} {t : Tok} → Leads place rest r t → count < 2048
  has_room l =
      let (ms, is, d) = past_lexeme v.ahead l in
      let n = ap length is in
      let few = v.few in
      let c = v.counted in
      omega arith

  module _ {r : List ℕ} (token : Token) (l : Leads place rest r (tok token)) where
    pub filling_lexeme : Filling source r (count + 1) (set tokens count token) before
    filling_lexeme =
        let (ms, is, d) = past_lexeme v.ahead l in
        let all : List Lexeme = v.done ++ lexeme_of l ∷ [] in
        let inside : count < length tokens = let h = has_room l in let room = v.room in omega arith in
        let grown : v.done ++ v.left ≡ all ++ ms =
        ap (λ ks. v.done ++ ks) is ∙ sym (append_assoc v.done (lexeme_of l ∷ []) ms) in
        let n = ap length is in
        let more = length_push v.done (lexeme_of l) in
        record {
          done = all;
          left = ms;
          whole = subst (λ ls. Lexed 0 source ls complete) grown v.whole;
          few = let few = v.few in omega arith;
          ahead = subst (λ q. Lexed q r ms complete) (later source l.text r l.whole v.within) d;
          small = (subst (AllByRecursion Small) is v.small).1;
          within = let less = leads_shorter l in let h = v.within in omega arith;
          counted = let c = v.counted in omega arith;
          room = length-set tokens count token ∙ v.room;
          filled = write_filled tokens count token inside v.done (lexeme_of l) v.filled refl;
          kept = drop-set-lt (count + 1) tokens count token (omega arith) ∙ drop_more_same tokens before count v.kept;
        }

  pub filled_end : rest ≡ [] → Filled source before tokens
  filled_end empty ls d =
      let none : v.left ≡ [] =
      (no_other_ending v.ahead complete (subst (λ bs. Lexed place bs [] complete) (sym empty) finished)).0 in
      let all : ls ≡ v.done =
      (unique 0 source ls (v.done ++ v.left) complete complete d v.whole).0
      ∙ ap (λ ks. v.done ++ ks) none ∙ append-nil v.done in
      let here : TokensAfter v.done before tokens (Ok (length v.done)) =
      subst (λ m. TokensAfter v.done before tokens (Ok m)) v.counted (v.filled, v.kept) in
      subst (λ ks. TokensAfter ks before tokens (Ok (length ks))) (sym all) here

  pub filled_fault : (n : Result Next Refusal) → Stands place rest n → ((next : Next) → n ≡ Ok next → ⊥)
      → Filled source before tokens
  filled_fault (Ok next) stands not_ok = absurd (not_ok next refl)
  filled_fault (Err f) fails not_ok = absurd (no_fault v.ahead v.small fails)
