-- Every source has lexemes.
use Rattle.std.proofs.Common.{◌≡◌, ℕ, zero, suc, ◌+◌, ◌<◌, ◌≤◌, true, ◌⊎◌, List, [], ◌∷◌, length, take, drop, codes, sym, refl, ap, ◌∙◌, subst, inl, inr, arith, length-append}
use Rattle.std.specs.List.{prefix_len, AllByRecursion}
use Rattle.std.specs.Str.{bytes_eq}
use Rattle.std.proofs.lemmas.Slice.Eq.{bytes_eq-Decides}
use Rattle.std.proofs.lemmas.List.{take-append-drop, nil_from_length}
use Rattle.std.proofs.lemmas.Bool.{cases_Bool, both_ways}
use Rattle.tokens.specs.declared.bytes.Class.{Class}
use Rattle.tokens.specs.declared.bytes.Class.TheVariants.{Letter, Digit, White, Other}
use Rattle.tokens.specs.declared.token.Mark.{Mark}
use Rattle.tokens.specs.Tokens.{Tok, mark, number, name}
use Rattle.tokens.specs.Lexemes.{letter, digit, spelling, decimal, Run, Front, Longest, Gap, blank, comment, Lexeme, Ending, complete, unclosed, unexpected, Lexed, finished, gap, lexeme}
use Rattle.tokens.specs.Scanning.{class, keywords, doubles, singles, Skips, Leads}
use Rattle.tokens.proofs.Fronts.{front?}
use Rattle.tokens.proofs.Comments.{comment_end}
use Rattle.tokens.proofs.Reserved.{keyword_runs, double_lengths, single_lengths}
use Rattle.tokens.proofs.Texts.{class_letter, class_digit, class_white, class_not_white, some_bytes}
use Rattle.tokens.proofs.Standing.{keyword_leads, name_leads, number_leads, skips_blank, skips_comment, left_open, double_leads, single_leads, no_token}

-- ---- one part, before the lexemes of the rest

abbrev pub lexeme_of : {p : ℕ} {bs r : List ℕ} {t : Tok} → Leads p bs r t → Lexeme
lexeme_of {p} {t = t} l = record { place = p; text = l.text; token = t }

pub after_gap : {p : ℕ} {bs r : List ℕ} {ls : List Lexeme} {e : Ending} (s : Skips bs r)
    → Lexed (p + length s.text) r ls e → Lexed p bs ls e
after_gap {p} {ls = ls} {e = e} s d = subst (λ y. Lexed p y ls e) (sym s.whole) (gap s.gap d)

pub after_lexeme : {p : ℕ} {bs r : List ℕ} {t : Tok} {ls : List Lexeme} {e : Ending} (l : Leads p bs r t)
    → Lexed (p + length l.text) r ls e → Lexed p bs (lexeme_of l ∷ ls) e
after_lexeme {p} {ls = ls} {e = e} l d =
    let longest = subst (Longest p l.text) l.whole l.longest in
    subst (λ y. Lexed p y (lexeme_of l ∷ ls) e) (sym l.whole) (lexeme l.spells longest d)

gap_some : {x : List ℕ} → Gap x → 0 < length x
gap_some (blank w) = omega arith
gap_some (comment body) = omega arith

pub skips_shorter : {bs r : List ℕ} → Skips bs r → length r < length bs
skips_shorter {r = r} s =
    let n = ap length s.whole ∙ length-append s.text r in let some = gap_some s.gap in omega arith

pub leads_shorter : {p : ℕ} {bs r : List ℕ} {t : Tok} → Leads p bs r t → length r < length bs
leads_shorter {r = r} l =
    let n = ap length l.whole ∙ length-append l.text r in let some = some_bytes l.spells in omega arith

-- ---- which part it is

data Standing (p : ℕ) (bs : List ℕ) : Type 0 where
  stop : (e : Ending) → Lexed p bs [] e → Standing p bs
  skip : (r : List ℕ) → Skips bs r → Standing p bs
  lead : (r : List ℕ) (t : Tok) → Leads p bs r t → Standing p bs

same? : (x y : List ℕ) → (x ≡ y) ⊎ (x ≡ y → ⊥)
same? x y =
    let decides = bytes_eq-Decides x y in
    elim (cases_Bool (bytes_eq x y)) [
      | inl e ↦ inl (decides.0 e)
      | inr e ↦ inr (λ q. both_ways (bytes_eq x y) e (decides.1 q))
    ]

-- the first of the marks with P, all of which have Q
among : (P Q : Mark → Type 0) → ((m : Mark) → P m ⊎ (P m → ⊥)) → (ms : List Mark) → AllByRecursion Q ms
    → ((m : Mark) × P m × Q m) ⊎ AllByRecursion (λ m. P m → ⊥) ms
among P Q p? [] q = inr tt
among P Q p? (m ∷ ms) q =
    elim (p? m) [
      | inl p ↦ inl (m, p, q.0)
      | inr none ↦ elim (among P Q p? ms q.1) [ inl found ↦ inl found | inr others ↦ inr (none, others) ]
    ]

module _ (p b : ℕ) (t : List ℕ) where
  abbrev bs : List ℕ
  bs = b ∷ t

  word : letter b ≡ true → Standing p bs
  word e =
      let x = take (prefix_len letter bs) bs in
      let r = drop (prefix_len letter bs) bs in
      let whole = sym (take-append-drop (prefix_len letter bs) bs) in
      elim (among (λ m. x ≡ spelling m) (λ m. Run letter (spelling m)) (λ m. same? x (spelling m)) keywords keyword_runs) [
        | inl (m, is, run) ↦ lead r (mark p m) (keyword_leads p bs x r (omega arith) whole e refl m is)
        | inr none ↦ lead r (name p x) (name_leads p bs x r (omega arith) whole e refl none)
      ]

  numeral : digit b ≡ true → Standing p bs
  numeral e =
      let x = take (prefix_len digit bs) bs in
      let r = drop (prefix_len digit bs) bs in
      let whole = sym (take-append-drop (prefix_len digit bs) bs) in
      lead r (number p (decimal x)) (number_leads p bs x r (omega arith) whole e refl (decimal x) refl)

  module _ (k : class b ≡ Other) where
    abbrev Here : ℕ → Type 0
    Here n = (m : Mark) × Front (spelling m) bs × (length (spelling m) ≡ n)

    of_length : (n : ℕ) (ms : List Mark) → AllByRecursion (λ m. length (spelling m) ≡ n) ms
        → Here n ⊎ AllByRecursion (λ m. Front (spelling m) bs → ⊥) ms
    of_length n = among (λ m. Front (spelling m) bs) (λ m. length (spelling m) ≡ n) (λ m. front? (spelling m) bs)

    symbol : (Front (codes "/*") bs → ⊥) → Standing p bs
    symbol clear =
        elim (of_length 2 doubles double_lengths) [
          | inl (m, f, long) ↦ lead f.0 (mark p m) (double_leads p bs k clear (spelling m) m refl f.1 long)
          | inr two ↦ elim (of_length 1 singles single_lengths) [
            | inl (m, f, long) ↦ lead f.0 (mark p m) (single_leads p bs k clear (spelling m) m refl f.1 two long)
            | inr one ↦ stop (unexpected p) (no_token p bs k b t refl (class_not_white b k) two one)
          ]
        ]

    symbol_or_comment : Standing p bs
    symbol_or_comment =
        elim (front? (codes "/*") bs) [
          | inl f ↦ elim (comment_end f.0) [
            | inl (r, ends) ↦ skip r (skips_comment f.1 r ends)
            | inr none ↦ stop (unclosed p) (left_open f.1 p none)
          ]
          | inr clear ↦ symbol clear
        ]

  by_class : (k : Class) → class b ≡ k → Standing p bs
  by_class Letter e = word (class_letter b e)
  by_class Digit e = numeral (class_digit b e)
  by_class White e = skip t (skips_blank b refl (class_white b e))
  by_class Other e = symbol_or_comment e

standing : (p : ℕ) (bs : List ℕ) → Standing p bs
standing p [] = stop complete finished
standing p (b ∷ t) = by_class p b t (class b) refl

-- ---- all parts

total_by : (n p : ℕ) (bs : List ℕ) → length bs ≤ n → (ls : List Lexeme) × (e : Ending) × Lexed p bs ls e
total_by zero p bs h =
    ([], complete, subst (λ y. Lexed p y [] complete) (sym (nil_from_length bs (omega arith))) finished)
total_by (suc n) p bs h =
    elim (standing p bs) [
      | stop e d ↦ ([], e, d)
      | skip r s ↦
          let shorter = skips_shorter s in
          let (ls, e, d) = total_by n (p + length s.text) r (omega arith) in
          (ls, e, after_gap s d)
      | lead r t l ↦
          let shorter = leads_shorter l in
          let (ls, e, d) = total_by n (p + length l.text) r (omega arith) in
          (lexeme_of l ∷ ls, e, after_lexeme l d)
    ]

pub total : (p : ℕ) (bs : List ℕ) → (ls : List Lexeme) × (e : Ending) × Lexed p bs ls e
total p bs = total_by (length bs) p bs (omega arith)
