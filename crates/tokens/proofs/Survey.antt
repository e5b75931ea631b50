-- The pass that counts the lexemes of a source and finds its first fault.
use Rattle.std.proofs.Common.{◌≡◌, ℕ, zero, suc, ◌+◌, ◌-◌, ◌≤◌, Bool, true, false, cond, ◌&&◌, ◌||◌, eqb, List, [], ◌∷◌, ◌++◌, map, length, get_or, Some, None, Ok, Err, Result, sym, refl, ap, ◌∙◌, subst, append_assoc, append-nil, arith, length-append}
use Rattle.std.specs.Prelude.{◌==◌, if◌then◌else◌, option_map, slice_get, slice_index}
use Rattle.std.proofs.Math.Nat.{sub_self}
use Rattle.std.proofs.lemmas.List.{map_push, length_push, length-map}
use Rattle.std.proofs.lemmas.Bool.Decides.{nat_tests}
use Rattle.std.proofs.lemmas.Option.{gets}
use Rattle.std.proofs.lemmas.Grind.{common_steps}
use Rattle.std.proofs.lemmas.Bool.{cases_Bool, cond-true, cond-false}
use Rattle.refusal.specs.declared.Refusal.{Refusal}
use Rattle.refusal.specs.declared.Reason.TheVariants.{NumberTooLarge, MissingSeparator, TooManyTokens}
use Rattle.tokens.specs.declared.bytes.Class.{Class}
use Rattle.tokens.specs.declared.bytes.Class.TheVariants.{Other}
use Rattle.tokens.specs.declared.lexer.Seen.{Seen}
use Rattle.tokens.specs.Tokens.{Tok}
use Rattle.tokens.specs.Lexemes.{letter, digit, Lexeme, Ending, unclosed, unexpected, Lexed}
use Rattle.refusal.specs.Faults.{refusal, or_else, unless}
use Rattle.tokens.specs.Reply.{too_large, unseparated, fault, ending_fault, first_fault, start, count_reply, lexeme_count}
use Rattle.tokens.specs.Scanning.{class, Skips, Leads, Fails, over_limit, open_comment, stray_byte}
use Rattle.tokens.specs.Survey.{apart, joined, join, counted, Surveyed}
use Rattle.tokens.proofs.Texts.{some_bytes, first_byte}
use Rattle.tokens.proofs.Total.{lexeme_of, after_gap, after_lexeme, skips_shorter, leads_shorter, total}

-- ---- the lexemes before a place

-- the lexemes of source before p are `done`, the last of them is `last`, and none has a fault
record Reached (source : List ℕ) (p : ℕ) (rest : List ℕ) (done : List Lexeme) (last : Lexeme) : Type 0 where
  pub onward : (ls : List Lexeme) (e : Ending) → Lexed p rest ls e → Lexed 0 source (done ++ ls) e
  pub faultless : (ls : List Lexeme) (e : Ending) → first_fault start (done ++ ls) e ≡ first_fault last ls e

reached_start : (source : List ℕ) → Reached source 0 source [] start
reached_start source = record { onward = λ ls e d. d; faultless = λ ls e. refl }

module _ {source rest : List ℕ} {p : ℕ} {done : List Lexeme} {last : Lexeme} (h : Reached source p rest done last) where
  reached_gap : {r : List ℕ} (s : Skips rest r) → Reached source (p + length s.text) r done last
  reached_gap s = record { onward = λ ls e d. h.onward ls e (after_gap s d); faultless = h.faultless }

  -- a source that ends here
  survey_ends : (e : Ending) → Lexed p rest [] e → (reply : Result ℕ Refusal)
      → reply ≡ unless (ending_fault e) (lexeme_count done) → Surveyed source reply
  survey_ends e d reply is = record {
    lexemes = done ++ [];
    ending = e;
    lexed = h.onward [] e d;
    reply_is = is ∙ ap (λ ls. unless (ending_fault e) (lexeme_count ls)) (sym (append-nil done))
        ∙ ap (λ f. unless f (lexeme_count (done ++ []))) (sym (h.faultless [] e));
  }

  module _ {r : List ℕ} {t : Tok} (l : Leads p rest r t) where
    reached_lexeme : fault last (lexeme_of l) ≡ None
        → Reached source (p + length l.text) r (done ++ lexeme_of l ∷ []) (lexeme_of l)
    reached_lexeme clean =
        let regroup : (ls : List Lexeme) → done ++ (lexeme_of l ∷ ls) ≡ (done ++ lexeme_of l ∷ []) ++ ls =
        λ ls. sym (append_assoc done (lexeme_of l ∷ []) ls) in
        record {
          onward = λ ls e d. subst (λ ms. Lexed 0 source ms e) (regroup ls) (h.onward (lexeme_of l ∷ ls) e (after_lexeme l d));
          faultless = λ ls e.
              ap (λ ms. first_fault start ms e) (sym (regroup ls)) ∙ h.faultless (lexeme_of l ∷ ls) e
              ∙ ap (λ f. or_else f (first_fault (lexeme_of l) ls e)) clean;
        }

    -- a fault of the lexeme that stands here
    survey_stops : (f : Refusal) → fault last (lexeme_of l) ≡ Some f → Surveyed source (Err f)
    survey_stops f found =
        let (ls, e, d) = total (p + length l.text) r in
        let first = h.faultless (lexeme_of l ∷ ls) e ∙ ap (λ g. or_else g (first_fault (lexeme_of l) ls e)) found in
        record {
          lexemes = done ++ (lexeme_of l ∷ ls);
          ending = e;
          lexed = h.onward (lexeme_of l ∷ ls) e (after_lexeme l d);
          reply_is = sym (ap (λ g. unless g (lexeme_count (done ++ (lexeme_of l ∷ ls)))) first);
        }

-- ---- a word and a number that touch

apart_is : (a b : ℕ) → apart (class a) (class b) ≡ ((digit a && letter b) || (letter a && digit b))
apart_is a b = grind (arith, nat_tests, cases_Bool)

-- ---- what the pass keeps of the lexemes

record Sees (done : List Lexeme) (last : Lexeme) (seen : Seen) : Type 0 where
  pub count : seen.count ≡ length done
  pub end : seen.end ≡ last.place + length last.text
  pub first : seen.class ≡ class (get_or last.text 0 0)
  pub surplus : seen.surplus ≡ slice_get (map (λ l. l.place) done) 2048

get_push : {X : Type 0} (xs : List X) (x : X) (n : ℕ)
    → slice_get (xs ++ x ∷ []) n ≡ (if length xs == n then Some x else slice_get xs n)
get_push [] x zero = refl
get_push [] x (suc n) = grind (arith, nat_tests)
get_push (y ∷ xs) x zero = grind (arith, nat_tests)
get_push (y ∷ xs) x (suc n) = grind (arith, nat_tests, get_push xs x n)

-- the count of lexemes, by the place of the first one too many
count_is : (places : List ℕ)
    → unless (option_map (refusal TooManyTokens) (slice_get places 2048)) (Ok (length places))
    ≡ count_reply (length places) (slice_index places 2048)
count_is places = grind (arith, common_steps, nat_tests, gets)

module _ {done : List Lexeme} {last : Lexeme} {seen : Seen} (s : Sees done last seen) (here : Lexeme) where
  abbrev next : Class
  next = class (get_or here.text 0 0)

  abbrev place_of : Lexeme → ℕ
  place_of l = l.place

  sees_more : Sees (done ++ here ∷ []) here (joined seen here.place next (here.place + length here.text))
  sees_more =
      let places = map place_of done in
      let long : length places ≡ seen.count = length-map done place_of ∙ sym s.count in
      record {
        count = ap (λ n. n + 1) s.count ∙ sym (length_push done here);
        end = refl;
        first = refl;
        surplus = sym (
            ap (λ xs. slice_get xs 2048) (map_push place_of done here)
            ∙ get_push places here.place 2048
            ∙ ap (λ n. if n == 2048 then Some here.place else slice_get places 2048) long
            ∙ ap (λ o. if seen.count == 2048 then Some here.place else o) (sym s.surplus)
            );
      }

  touching : unseparated last here ≡ (eqb seen.end here.place && apart seen.class next)
  touching =
      let end : ℕ = last.place + length last.text in
      ap (λ z. eqb end here.place && z) (sym (apart_is (get_or last.text 0 0) (get_or here.text 0 0)))
      ∙ ap (λ k. eqb end here.place && apart k next) (sym s.first)
      ∙ ap (λ n. eqb n here.place && apart seen.class next) (sym s.end)

  fault_is : too_large here.token ≡ false
      → fault last here
      ≡ cond (eqb seen.end here.place && apart seen.class next) (Some (refusal MissingSeparator here.place)) None
  fault_is small = cond-false _ _ _ small ∙ ap (λ z. cond z (Some (refusal MissingSeparator here.place)) None) touching

-- ---- the loop

pub record Surveying (source rest : List ℕ) (seen : Seen) : Type 0 where
  done : List Lexeme
  last : Lexeme
  reached : Reached source (length source - length rest) rest done last
  sees : Sees done last seen
  pub room : seen.count + length rest ≤ length source

pub surveying_start : (source : List ℕ) → Surveying source source (record { count = 0; end = 0; class = Other; surplus = None })
surveying_start source = record {
  done = [];
  last = start;
  reached = subst (λ p. Reached source p source [] start) (sym (sub_self (length source))) (reached_start source);
  sees = record { count = refl; end = refl; first = refl; surplus = refl };
  room = omega arith;
}

-- the place after the part x
pub later : (source : List ℕ) {rest : List ℕ} (x r : List ℕ) → rest ≡ x ++ r → length rest ≤ length source
    → length source - length rest + length x ≡ length source - length r
later source x r whole h = let n = ap length whole ∙ length-append x r in omega arith

ok_cond : {A E : Type 0} (b : Bool) (f : E) (x y : A) → Ok x ≡ cond b (Err f) (Ok y) → (b ≡ false) × (x ≡ y)
ok_cond true f x y e = cc
ok_cond false f x y e = (refl, cc)

err_cond : {A E : Type 0} (b : Bool) (f g : E) (y : A) → Err g ≡ cond b (Err f) (Ok y) → (b ≡ true) × (g ≡ f)
err_cond true f g y e = (refl, cc)
err_cond false f g y e = cc

module _ {source rest : List ℕ} {seen : Seen} (v : Surveying source rest seen) where
  abbrev place : ℕ
  place = length source - length rest

  pub survey_done : (e : Ending) → Lexed place rest [] e → (reply : Result ℕ Refusal)
      → reply ≡ unless (ending_fault e) (counted seen) → Surveyed source reply
  survey_done e d reply is =
      let places = map (λ l. l.place) v.done in
      let long : seen.count ≡ length places = v.sees.count ∙ sym (length-map v.done (λ l. l.place)) in
      let same : counted seen ≡ lexeme_count v.done =
      ap (λ n. unless (option_map (refusal TooManyTokens) seen.surplus) (Ok n)) long
      ∙ ap (λ o. unless (option_map (refusal TooManyTokens) o) (Ok (length places))) v.sees.surplus
      ∙ count_is places
      ∙ ap (λ n. count_reply n (slice_index places 2048)) (length-map v.done (λ l. l.place)) in
      survey_ends v.reached e d reply (is ∙ ap (unless (ending_fault e)) same)

  pub surveying_gap : {r : List ℕ} → Skips rest r → Surveying source r seen
  surveying_gap {r} s =
      let less = skips_shorter s in
      let room = v.room in
      let moved = later source s.text r s.whole (omega arith) in
      record {
        done = v.done;
        last = v.last;
        reached = subst (λ q. Reached source q r v.done v.last) moved (reached_gap v.reached s);
        sees = v.sees;
        room = omega arith;
      }

  module _ {r : List ℕ} {t : Tok} (l : Leads place rest r t) where
    -- whether the lexeme must not touch the last one and does
    abbrev touches : Bool
    touches = eqb seen.end place && apart seen.class (class (get_or rest 0 0))

    same_first : get_or rest 0 0 ≡ get_or l.text 0 0
    same_first = first_byte rest l.text (some_bytes l.spells) (r, l.whole)

    fault_here : too_large t ≡ false → fault v.last (lexeme_of l) ≡ cond touches (Some (refusal MissingSeparator place)) None
    fault_here small =
        let found = Some (refusal MissingSeparator place) in
        fault_is v.sees (lexeme_of l) small
        ∙ ap (λ b. cond (eqb seen.end place && apart seen.class (class b)) found None) (sym same_first)

    surveying_lexeme : too_large t ≡ false → touches ≡ false
        → Surveying source r (joined seen place (class (get_or rest 0 0)) (length source - length r))
    surveying_lexeme small free =
        let less = leads_shorter l in
        let room = v.room in
        let moved = later source l.text r l.whole (omega arith) in
        let clean = fault_here small ∙ cond-false _ _ _ free in
        let all : List Lexeme = v.done ++ lexeme_of l ∷ [] in
        let kept = λ (b n : ℕ). Sees all (lexeme_of l) (joined seen place (class b) n) in
        record {
          done = all;
          last = lexeme_of l;
          reached = subst (λ q. Reached source q r all (lexeme_of l)) moved (reached_lexeme v.reached l clean);
          sees = subst (λ b. kept b (length source - length r)) (sym same_first)
              (subst (kept (get_or l.text 0 0)) moved (sees_more v.sees (lexeme_of l)));
          room = omega arith;
        }

    module _ (small : too_large t ≡ false) (k : Class) (is : k ≡ class (get_or rest 0 0)) where
      abbrev reply : Class → Result Seen Refusal
      reply z = join seen place z (length source - length r)

      pub survey_goes_on : (next : Seen) → Ok next ≡ reply k → Surveying source r next
      survey_goes_on next e =
          let (free, same) = ok_cond touches _ next _ (e ∙ ap reply is) in
          subst (Surveying source r) (sym same) (surveying_lexeme small free)

      pub survey_refuses : (f : Refusal) → Err f ≡ reply k → Surveyed source (Err f)
      survey_refuses f e =
          let (yes-touches, same) = err_cond touches _ f _ (e ∙ ap reply is) in
          survey_stops v.reached l f (fault_here small ∙ cond-true _ _ _ yes-touches ∙ ap Some (sym same))

    stops_large : too_large t ≡ true → Surveyed source (Err (refusal NumberTooLarge place))
    stops_large large = survey_stops v.reached l _ (cond-true _ _ _ large)

  pub survey_fails : (f : Refusal) → Fails place rest f → Surveyed source (Err f)
  survey_fails _ (over_limit l big) = stops_large l big
  survey_fails f (open_comment d) = survey_done (unclosed place) d (Err f) refl
  survey_fails f (stray_byte d) = survey_done (unexpected place) d (Err f) refl
