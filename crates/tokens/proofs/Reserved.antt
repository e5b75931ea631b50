-- Facts of every keyword and symbol, from facts of the lists that they stand in.
use Rattle.std.proofs.Common.{◌≡◌, ℕ, ◌<◌, Bool, true, false, cond, ◌&&◌, eqb, ltb, List, [], ◌∷◌, ◌++◌, length, get_or, sym, refl, ap, ◌∙◌, rules}
use denote.Enum.Bare.{sameb, same_true}
use Rattle.std.specs.List.{AllByRecursion, list_all}
use Rattle.std.specs.Str.{bytes_eq}
use Rattle.std.proofs.lemmas.List.Sums.{AllPass-from_list_all}
use Rattle.std.proofs.lemmas.Bool.{and_parts, ltb-true, eqb-true}
use Rattle.tokens.specs.contracts.token.Mark.{the_type}
use Rattle.tokens.specs.declared.bytes.Class.{Class}
use Rattle.tokens.specs.declared.bytes.Class.TheVariants.{Letter, Digit, White, Other}
use Rattle.tokens.specs.declared.token.Mark.{Mark}
use Rattle.tokens.specs.declared.token.Mark.TheVariants.{Else, If, Int, Return, Void, While, Plus, Minus, Star, Slash, Less, LessEqual, Greater, GreaterEqual, Equal, NotEqual, Assign, Semicolon, Comma, LeftParen, RightParen, LeftBracket, RightBracket, LeftBrace, RightBrace}
use Rattle.tokens.specs.Lexemes.{letter, spelling, Run}
use Rattle.tokens.specs.Scanning.{class, keywords, doubles, singles}

pub every : (P : Mark → Type 0) → AllByRecursion P keywords → AllByRecursion P doubles → AllByRecursion P singles → (m : Mark) → P m
every P k d s Else = k.0
every P k d s If = k.1.0
every P k d s Int = k.1.1.0
every P k d s Return = k.1.1.1.0
every P k d s Void = k.1.1.1.1.0
every P k d s While = k.1.1.1.1.1.0
every P k d s LessEqual = d.0
every P k d s GreaterEqual = d.1.0
every P k d s Equal = d.1.1.0
every P k d s NotEqual = d.1.1.1.0
every P k d s Plus = s.0
every P k d s Minus = s.1.0
every P k d s Star = s.1.1.0
every P k d s Slash = s.1.1.1.0
every P k d s Less = s.1.1.1.1.0
every P k d s Greater = s.1.1.1.1.1.0
every P k d s Assign = s.1.1.1.1.1.1.0
every P k d s Semicolon = s.1.1.1.1.1.1.1.0
every P k d s Comma = s.1.1.1.1.1.1.1.1.0
every P k d s LeftParen = s.1.1.1.1.1.1.1.1.1.0
every P k d s RightParen = s.1.1.1.1.1.1.1.1.1.1.0
every P k d s LeftBracket = s.1.1.1.1.1.1.1.1.1.1.1.0
every P k d s RightBracket = s.1.1.1.1.1.1.1.1.1.1.1.1.0
every P k d s LeftBrace = s.1.1.1.1.1.1.1.1.1.1.1.1.1.0
every P k d s RightBrace = s.1.1.1.1.1.1.1.1.1.1.1.1.1.1.0

pub weaker : {P Q : Mark → Type 0} → ((m : Mark) → P m → Q m) → (ms : List Mark) → AllByRecursion P ms → AllByRecursion Q ms
weaker f [] p = tt
weaker f (m ∷ ms) p = (f m p.0, weaker f ms p.1)

pub all_both : {P Q R : Mark → Type 0} → ((m : Mark) → P m → Q m → R m) → (ms : List Mark) → AllByRecursion P ms → AllByRecursion Q ms → AllByRecursion R ms
all_both f [] p q = tt
all_both f (m ∷ ms) p q = (f m p.0 q.0, all_both f ms p.1 q.1)

tested : {X : Type 0} (test : X → Bool) (xs : List X) → list_all test xs ≡ true → AllByRecursion (λ x. test x ≡ true) xs
tested test [] e = tt
tested test (x ∷ xs) e = let both = and_parts (test x) (list_all test xs) e in (both.0, tested test xs both.1)

-- ---- what the lists hold

by_test : (P : Mark → Type 0) (test : Mark → Bool) → ((m : Mark) → test m ≡ true → P m) → (ms : List Mark)
    → list_all test ms ≡ true → AllByRecursion P ms
by_test P test sound ms e = weaker sound ms (tested test ms e)

abbrev of_letters : Mark → Bool
of_letters m = ltb 0 (length (spelling m)) && list_all letter (spelling m)

letters_run : (m : Mark) → of_letters m ≡ true → Run letter (spelling m)
letters_run m e =
    let (some, letters) = and_parts (ltb 0 (length (spelling m))) (list_all letter (spelling m)) e in
    (ltb-true 0 (length (spelling m)) some, AllPass-from_list_all letter (spelling m) letters)

pub keyword_runs : AllByRecursion (λ m. Run letter (spelling m)) keywords
keyword_runs = by_test (λ m. Run letter (spelling m)) of_letters letters_run keywords refl

abbrev longer : ℕ → Mark → Bool
longer n m = ltb n (length (spelling m))

pub keyword_lengths : AllByRecursion (λ m. 1 < length (spelling m)) keywords
keyword_lengths = by_test (λ m. 1 < length (spelling m)) (longer 1) (λ m. ltb-true 1 (length (spelling m))) keywords refl

abbrev pub first : Mark → ℕ
first m = get_or (spelling m) 0 0

abbrev is_other : Class → Bool
is_other Letter = false
is_other Digit = false
is_other White = false
is_other Other = true

other_is : (k : Class) → is_other k ≡ true → k ≡ Other
other_is Letter e = cc
other_is Digit e = cc
other_is White e = cc
other_is Other e = refl

firsts : (ms : List Mark) → list_all (λ m. is_other (class (first m))) ms ≡ true → AllByRecursion (λ m. class (first m) ≡ Other) ms
firsts = by_test (λ m. class (first m) ≡ Other) (λ m. is_other (class (first m))) (λ m. other_is (class (first m)))

pub double_firsts : AllByRecursion (λ m. class (first m) ≡ Other) doubles
double_firsts = firsts doubles refl

pub single_firsts : AllByRecursion (λ m. class (first m) ≡ Other) singles
single_firsts = firsts singles refl

abbrev as_long : ℕ → Mark → Bool
as_long n m = eqb (length (spelling m)) n

lengths : (n : ℕ) (ms : List Mark) → list_all (as_long n) ms ≡ true → AllByRecursion (λ m. length (spelling m) ≡ n) ms
lengths n = by_test (λ m. length (spelling m) ≡ n) (as_long n) (λ m. eqb-true (length (spelling m)) n)

pub double_lengths : AllByRecursion (λ m. length (spelling m) ≡ 2) doubles
double_lengths = lengths 2 doubles refl

pub single_lengths : AllByRecursion (λ m. length (spelling m) ≡ 1) singles
single_lengths = lengths 1 singles refl

-- ---- two marks have two spellings

abbrev spelt_by : List ℕ → List Mark → Mark
spelt_by x [] = Else
spelt_by x (m ∷ ms) = cond (bytes_eq (spelling m) x) m (spelt_by x ms)

abbrev marks : List Mark
marks = keywords ++ (doubles ++ singles)

abbrev found_again : Mark → Bool
found_again m = sameb the_type (spelt_by (spelling m) marks) m

back : (m : Mark) → spelt_by (spelling m) marks ≡ m
back m =
    let again = λ (ms : List Mark). tested found_again ms in
    let found = every (λ m. found_again m ≡ true) (again keywords refl) (again doubles refl) (again singles refl) m in
    same_true the_type (search rules) (spelt_by (spelling m) marks) m found

pub same_spelling : (m n : Mark) → spelling m ≡ spelling n → m ≡ n
same_spelling m n e = sym (back m) ∙ ap (λ x. spelt_by x marks) e ∙ back n
