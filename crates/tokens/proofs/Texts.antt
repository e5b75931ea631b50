-- Which texts some bytes begin with, by their first byte.
use Rattle.std.proofs.Common.{◌≡◌, ℕ, ◌<◌, ◌≤◌, Bool, true, false, cond, List, [], ◌∷◌, ◌++◌, length, get_or, take, codes, sym, refl, ap, ◌∙◌, subst, inl, inr, one-add, arith}
use Rattle.std.specs.List.{prefix_len, AllByRecursion, AllPass}
use Rattle.std.proofs.lemmas.List.{get_or_append_left, length-take-le}
use Rattle.std.proofs.lemmas.List.Elements.{All-from_recursion, recursion_from_All}
use Rattle.std.proofs.lemmas.List.Sums.{prefix_len-le-length}
use Rattle.std.proofs.lemmas.Bool.{cases_Bool}
use Rattle.std.proofs.lemmas.Bool.Decides.{nat_tests}
use Rattle.tokens.specs.declared.bytes.Class.{Class}
use Rattle.tokens.specs.declared.bytes.Class.TheVariants.{Letter, Digit, White, Other}
use Rattle.tokens.specs.declared.token.Mark.{Mark}
use Rattle.tokens.specs.Tokens.{Tok}
use Rattle.tokens.specs.Lexemes.{letter, digit, white, spelling, Run, Spells, reserved, digits, letters, Front, Longest}
use Rattle.tokens.specs.Scanning.{class, keywords, doubles, singles}
use Rattle.tokens.proofs.Reserved.{weaker, every, all_both, first, keyword_runs, double_firsts, single_firsts, double_lengths, single_lengths}

-- ---- classes

pub letter_class : (b : ℕ) → letter b ≡ true → class b ≡ Letter
letter_class b e = ap (λ x. cond x Letter (cond (digit b) Digit (cond (white b) White Other))) e

pub digit_class : (b : ℕ) → digit b ≡ true → class b ≡ Digit
digit_class b e = grind (arith, nat_tests)

pub white_class : (b : ℕ) → white b ≡ true → class b ≡ White
white_class b e = grind (arith, nat_tests)

pub class_letter : (b : ℕ) → class b ≡ Letter → letter b ≡ true
class_letter b e = grind (arith, cases_Bool)

pub class_digit : (b : ℕ) → class b ≡ Digit → digit b ≡ true
class_digit b e = grind (arith, cases_Bool)

pub class_white : (b : ℕ) → class b ≡ White → white b ≡ true
class_white b e = grind (arith, cases_Bool)

pub class_not_white : (b : ℕ) → class b ≡ Other → white b ≡ false
class_not_white b e = grind (arith, cases_Bool)

-- ---- the texts that begin with a byte of each class

abbrev Sorted : Class → List ℕ → Type 0
Sorted Letter y = AllPass letter y
Sorted Digit y = AllPass digit y
Sorted White y = ⊥
Sorted Other y = (m : Mark) × (y ≡ spelling m)

abbrev Sort : List ℕ → Type 0
Sort y = (0 < length y) × Sorted (class (get_or y 0 0)) y

run_sort : (test : ℕ → Bool) (k : Class) → ((b : ℕ) → test b ≡ true → class b ≡ k)
    → ((y : List ℕ) → AllPass test y → Sorted k y) → (y : List ℕ) → Run test y → Sort y
run_sort test k in_class sorted [] run = absurd (omega (arith, run.0))
run_sort test k in_class sorted (b ∷ y) run =
    (run.0, subst (λ c. Sorted c (b ∷ y)) (sym (in_class b (run.1 0 0 (omega arith)))) (sorted (b ∷ y) run.1))

word_sort : (y : List ℕ) → Run letter y → Sort y
word_sort = run_sort letter Letter letter_class (λ y all. all)

symbol_sort : (n : ℕ) → 0 < n → (m : Mark) → class (first m) ≡ Other → length (spelling m) ≡ n → Sort (spelling m)
symbol_sort n some m e l = (omega arith, subst (λ c. Sorted c (spelling m)) (sym e) (m, refl))

mark_sort : (m : Mark) → Sort (spelling m)
mark_sort =
    every (λ m. Sort (spelling m))
    (weaker (λ m. word_sort (spelling m)) keywords keyword_runs)
    (all_both (symbol_sort 2 (omega arith)) doubles double_firsts double_lengths)
    (all_both (symbol_sort 1 (omega arith)) singles single_firsts single_lengths)

sort : {p : ℕ} {y : List ℕ} {t : Tok} → Spells p y t → Sort y
sort (reserved {m}) = mark_sort m
sort (digits {x} run) = run_sort digit Digit digit_class (λ y all. all) x run
sort (letters {x} run not-reserved) = word_sort x run

pub some_bytes : {p : ℕ} {y : List ℕ} {t : Tok} → Spells p y t → 0 < length y
some_bytes s = (sort s).0

pub not_white : {p : ℕ} {y : List ℕ} {t : Tok} → Spells p y t → white (get_or y 0 0) ≡ false
not_white {y = y} s =
    elim (cases_Bool (white (get_or y 0 0))) [
      | inl e ↦ absurd (subst (λ c. Sorted c y) (white_class (get_or y 0 0) e) (sort s).1)
      | inr e ↦ e
    ]

pub first_byte : (bs y : List ℕ) → 0 < length y → Front y bs → get_or bs 0 0 ≡ get_or y 0 0
first_byte bs y some f = ap (λ x. get_or x 0 0) f.1 ∙ get_or_append_left y f.0 0 0 some

-- ---- the longest text

module _ (p : ℕ) (bs : List ℕ) (k : Class) (of-class : class (get_or bs 0 0) ≡ k) where
  at_front : (y : List ℕ) (t : Tok) → Spells p y t → Front y bs → Sorted k y
  at_front y t s f =
      let same : class (get_or y 0 0) ≡ k = ap class (sym (first_byte bs y (sort s).0 f)) ∙ of-class in
      subst (λ c. Sorted c y) same (sort s).1

  no_comment : (k ≡ Other → ⊥) → Front (codes "/*") bs → ⊥
  no_comment ne f = ne (sym of-class ∙ ap class (first_byte bs (codes "/*") (omega arith) f))

-- ---- runs

leading_all : (test : ℕ → Bool) (bs : List ℕ) → AllByRecursion (λ b. test b ≡ true) (take (prefix_len test bs) bs)
leading_all test [] = tt
leading_all test (b ∷ bs) = elim (cases_Bool (test b)) [ inl e ↦ rw (e, one-add) (e, leading_all test bs) | inr e ↦ rw e tt ]

leading_some : (test : ℕ → Bool) (bs : List ℕ) → 0 < length bs → test (get_or bs 0 0) ≡ true → 0 < prefix_len test bs
leading_some test [] some e = absurd (omega arith)
leading_some test (b ∷ bs) some e = rw e (omega arith)

leading_most : (test : ℕ → Bool) (y r : List ℕ) → AllByRecursion (λ b. test b ≡ true) y → length y ≤ prefix_len test (y ++ r)
leading_most test [] r all = omega arith
leading_most test (b ∷ y) r all = rw all.0 (omega (arith, leading_most test y r all.1))

module _ (test : ℕ → Bool) (p : ℕ) (bs : List ℕ) where
  abbrev pub run : List ℕ
  run = take (prefix_len test bs) bs

  length_run : length run ≡ prefix_len test bs
  length_run = length-take-le (prefix_len test bs) bs (prefix_len-le-length test bs)

  pub is_run : 0 < length bs → test (get_or bs 0 0) ≡ true → Run test run
  is_run some e = (let n = length_run in let m = leading_some test bs some e in omega arith, All-from_recursion (λ b. test b ≡ true) run (leading_all test bs))

  run_longest : (Front (codes "/*") bs → ⊥)
      → ((y : List ℕ) (t : Tok) → Spells p y t → Front y bs → AllPass test y) → Longest p run bs
  run_longest clear same =
      let most : (y : List ℕ) (t : Tok) → Spells p y t → Front y bs → length y ≤ length run =
      λ y t s f.
      let n = leading_most test y f.0 (recursion_from_All (λ b. test b ≡ true) y (same y t s f)) in
      let m = ap (prefix_len test) f.1 in
      omega (arith, length_run) in
      record { no_comment = clear; no_longer = most }

module _ (p : ℕ) (bs : List ℕ) where
  pub word_longest : letter (get_or bs 0 0) ≡ true → Longest p (run letter p bs) bs
  word_longest e =
      let k = letter_class (get_or bs 0 0) e in
      run_longest letter p bs (no_comment p bs Letter k (λ c. cc)) (at_front p bs Letter k)

  pub number_longest : digit (get_or bs 0 0) ≡ true → Longest p (run digit p bs) bs
  number_longest e =
      let k = digit_class (get_or bs 0 0) e in
      run_longest digit p bs (no_comment p bs Digit k (λ c. cc)) (at_front p bs Digit k)

pub word_first : (x : List ℕ) → Run letter x → class (get_or x 0 0) ≡ Letter
word_first [] run = absurd (omega (arith, run.0))
word_first (b ∷ x) run = letter_class b (run.1 0 0 (omega arith))

-- a word that is no keyword is no mark at all
pub no_mark : (x : List ℕ) → Run letter x → AllByRecursion (λ m. x ≡ spelling m → ⊥) keywords → (m : Mark) → x ≡ spelling m → ⊥
no_mark x run none =
    let apart : (m : Mark) → class (first m) ≡ Other → x ≡ spelling m → ⊥ =
    λ m o e. cc (word_first x run, ap (λ y. class (get_or y 0 0)) e) in
    let differs : Mark → Type 0 = λ m. x ≡ spelling m → ⊥ in
    every differs none
    (weaker apart doubles double_firsts)
    (weaker apart singles single_firsts)

-- ---- symbols

-- if this mark stands at the front of bs, it has at most n bytes
abbrev Short : ℕ → List ℕ → Mark → Type 0
Short n bs m = Front (spelling m) bs → length (spelling m) ≤ n

abbrev pub Absent : List ℕ → Mark → Type 0
Absent bs m = Front (spelling m) bs → ⊥

short_by_length : (n l : ℕ) (bs : List ℕ) (ms : List Mark) → l ≤ n → AllByRecursion (λ m. length (spelling m) ≡ l) ms → AllByRecursion (Short n bs) ms
short_by_length n l bs ms h = weaker (λ m e f. omega arith) ms

short_if_absent : (n : ℕ) (bs : List ℕ) (ms : List Mark) → AllByRecursion (Absent bs) ms → AllByRecursion (Short n bs) ms
short_if_absent n bs = weaker (λ m none f. absurd (none f))

module _ (p : ℕ) (bs : List ℕ) (k : class (get_or bs 0 0) ≡ Other) where
  no_word : (m : Mark) → Run letter (spelling m) → Absent bs m
  no_word m run f = cc (k, word_first (spelling m) run, ap class (first_byte bs (spelling m) run.0 f))

  short : (n : ℕ) → AllByRecursion (Short n bs) doubles → AllByRecursion (Short n bs) singles
      → (y : List ℕ) (t : Tok) → Spells p y t → Front y bs → length y ≤ n
  short n two one y t s f =
      let (m, e) = at_front p bs Other k y t s f in
      let none = weaker no_word keywords keyword_runs in
      let fits = every (Short n bs) (short_if_absent n bs keywords none) two one m (subst (λ x. Front x bs) e f) in
      let same = ap length e in
      omega arith

  pub no_text : AllByRecursion (Absent bs) doubles → AllByRecursion (Absent bs) singles → (y : List ℕ) (t : Tok) → Spells p y t → Front y bs → ⊥
  no_text two one y t s f =
      let none = short 0 (short_if_absent 0 bs doubles two) (short_if_absent 0 bs singles one) y t s f in
      let some = some_bytes s in
      omega arith

  module _ (clear : Front (codes "/*") bs → ⊥) where
    pub double_longest : (m : Mark) → length (spelling m) ≡ 2 → Longest p (spelling m) bs
    double_longest m long =
        let two = short_by_length 2 2 bs doubles (omega arith) double_lengths in
        let one = short_by_length 2 1 bs singles (omega arith) single_lengths in
        let most = short 2 two one in
        record { no_comment = clear; no_longer = λ y t s f. let n = most y t s f in omega arith }

    pub single_longest : AllByRecursion (Absent bs) doubles → (m : Mark) → length (spelling m) ≡ 1 → Longest p (spelling m) bs
    single_longest two m long =
        let most = short 1 (short_if_absent 1 bs doubles two) (short_by_length 1 1 bs singles (omega arith) single_lengths) in
        record { no_comment = clear; no_longer = λ y t s f. let n = most y t s f in omega arith }
