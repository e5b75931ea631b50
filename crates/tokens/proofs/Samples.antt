-- The lexemes of some small sources.
use Rattle.std.proofs.Common.{◌≡◌, ℕ, ◌+◌, ◌<◌, true, List, [], ◌∷◌, length, get_or, take, codes, sym, refl, ap, ◌∙◌, subst, arith, length-append}
use Rattle.std.proofs.lemmas.List.Elements.{All-from_recursion}
use Rattle.std.specs.List.{prefix_len, AllByRecursion}
use Rattle.tokens.specs.declared.token.Mark.{Mark}
use Rattle.tokens.specs.declared.token.Mark.TheVariants.{Star}
use Rattle.tokens.specs.Tokens.{mark, name}
use Rattle.tokens.specs.Lexemes.{letter, spelling, Run, reserved, letters, Front, Longest, Closed, comment, Lexeme, Ending, unclosed, Lexed, finished, gap, lexeme, unclosed_comment}
use Rattle.tokens.specs.Reply.{Samples}
use Rattle.tokens.specs.Scanning.{keywords, doubles}
use Rattle.tokens.proofs.Comments.{long_enough, mark_body}
use Rattle.tokens.proofs.Reserved.{weaker, all_both, keyword_lengths, double_lengths}
use Rattle.tokens.proofs.Texts.{first_byte, Absent, no_mark, word_longest, single_longest}

half_open : Lexed 0 (codes "/*/") [] (unclosed 0)
half_open = unclosed_comment none
  where
    none : (x : List ℕ) → Front x (codes "/") → Closed x → ⊥
    none x f c =
        let long = (long_enough x c).1 in
        let short = ap length f.1 ∙ length-append x f.0 in
        omega arith

-- a name of one letter, before the lexemes of the rest
one_letter : (p b : ℕ) (r : List ℕ) → letter b ≡ true → prefix_len letter (b ∷ r) ≡ 1 → {ls : List Lexeme} {e : Ending}
    → Lexed (p + 1) r ls e → Lexed p (b ∷ r) (record { place = p; text = b ∷ []; token = name p (b ∷ []) } ∷ ls) e
one_letter p b r is alone d =
    let run : Run letter (b ∷ []) = (omega arith, All-from_recursion (λ c. letter c ≡ true) (b ∷ []) (is, tt)) in
    let short : (m : Mark) → 1 < length (spelling m) → b ∷ [] ≡ spelling m → ⊥ =
    λ m long e. let n = ap length e in omega arith in
    let none = weaker short keywords keyword_lengths in
    let longest = subst (λ n. Longest p (take n (b ∷ r)) (b ∷ r)) alone (word_longest p (b ∷ r) is) in
    lexeme {x = b ∷ []} {r = r} (letters run (no_mark (b ∷ []) run none)) longest d

after_comment : (p : ℕ) {ls : List Lexeme} {e : Ending} → Lexed (p + 4) (codes "b") ls e → Lexed p (codes "/**/b") ls e
after_comment p d = gap {x = codes "/**/"} {r = codes "b"} (comment mark_body) d

no_star : (x : List ℕ) → 0 < length x → (get_or x 0 0 ≡ 42 → ⊥) → Front x (codes "*/**/b") → ⊥
no_star x some ne f = ne (sym (first_byte (codes "*/**/b") x some f))

no_double : AllByRecursion (Absent (codes "*/**/b")) doubles
no_double =
    let apart : AllByRecursion (λ m. get_or (spelling m) 0 0 ≡ 42 → ⊥) doubles =
    (λ e. omega arith, (λ e. omega arith, (λ e. omega arith, (λ e. omega arith, tt)))) in
    let absent : (m : Mark) → length (spelling m) ≡ 2 → (get_or (spelling m) 0 0 ≡ 42 → ⊥) → Absent (codes "*/**/b") m =
    λ m two. no_star (spelling m) (omega arith) in
    all_both absent doubles double_lengths apart

after_star : (p : ℕ) {ls : List Lexeme} {e : Ending} → Lexed (p + 1) (codes "/**/b") ls e
    → Lexed p (codes "*/**/b") (record { place = p; text = codes "*"; token = mark p Star } ∷ ls) e
after_star p d =
    let clear = no_star (codes "/*") (omega arith) (λ e. omega arith) in
    lexeme {x = codes "*"} {r = codes "/**/b"} reserved (single_longest p (codes "*/**/b") refl clear no_double Star refl) d

pub samples : Samples
samples =
    let last = λ (p : ℕ). one_letter p 98 [] refl refl finished in
    record {
      half_open = half_open;
      half_open_reply = refl;
      between_names = (_, one_letter 0 97 (codes "/**/b") refl refl (after_comment 1 (last 5)), refl);
      after_star = (_, one_letter 0 97 (codes "*/**/b") refl refl (after_star 1 (after_comment 2 (last 6))), refl);
    }
