-- What stands at the front of some bytes.
use Rattle.std.proofs.Common.{◌≡◌, ℕ, ◌<◌, true, false, List, [], ◌∷◌, ◌++◌, length, get_or, take, codes, Some, None, sym, refl, ap, ◌∙◌, subst, inl, inr, arith, Bor}
use Rattle.std.specs.List.{prefix_len, AllByRecursion, AllPass}
use Rattle.std.proofs.lemmas.Bool.{lt-ltb, le-ltb}
use Rattle.tokens.specs.Reply.{too_large}
use Rattle.refusal.specs.declared.Reason.TheVariants.{NumberTooLarge, UnexpectedByte}
use Rattle.refusal.specs.Faults.{refusal}
use Rattle.tokens.specs.declared.bytes.Class.TheVariants.{Letter, Digit, Other}
use Rattle.tokens.specs.declared.token.Mark.{Mark}
use Rattle.tokens.specs.declared.token.Token.{Token}
use Rattle.tokens.specs.declared.token.Token.TheVariants as code
use Rattle.tokens.specs.Tokens.{Tok, tok, mark, number, name}
use Rattle.tokens.specs.Lexemes.{letter, digit, white, spelling, decimal, Run, Spells, reserved, digits, letters, Front, Longest, blank, comment, Lexed, unclosed, unclosed_comment, unexpected, unexpected_byte}
use Rattle.tokens.specs.Scanning.{class, keywords, doubles, singles, limited, WordToken, Symbol, Skips, Leads, Fails, over_limit, stray_byte}
use Rattle.std.proofs.lemmas.Slice.{first_rest}
use Rattle.tokens.proofs.Comments.{Ends, Unclosed}
use Rattle.tokens.proofs.Numbers.{limited_some, limited_none}
use Rattle.tokens.proofs.Texts.{class_letter, class_digit, class_not_white, is_run, word_longest, number_longest, no_mark, Absent, no_text, double_longest, single_longest}

pub spelt_mark : (p : ℕ) (x : List ℕ) (m : Mark) → x ≡ spelling m → Spells p x (mark p m)
spelt_mark p x m e = subst (λ y. Spells p y (mark p m)) (sym e) reserved

-- ---- runs

module _ (p : ℕ) (bs x r : List ℕ) (some : 0 < length bs) (whole : bs ≡ x ++ r) where
  module _ (starts : letter (get_or bs 0 0) ≡ true) (run : x ≡ take (prefix_len letter bs) bs) where
    word_leads : (t : Tok) → Spells p x t → Leads p bs r t
    word_leads t s = record {
      text = x;
      whole = whole;
      spells = s;
      longest = subst (λ y. Longest p y bs) (sym run) (word_longest p bs starts);
    }

    pub keyword_leads : (m : Mark) → x ≡ spelling m → Leads p bs r (mark p m)
    keyword_leads m is = word_leads (mark p m) (spelt_mark p x m is)

    pub name_leads : AllByRecursion (λ m. x ≡ spelling m → ⊥) keywords → Leads p bs r (name p x)
    name_leads none =
        let is : Run letter x = subst (Run letter) (sym run) (is_run letter p bs some starts) in
        word_leads (name p x) (letters is (no_mark x is none))

  module _ (starts : digit (get_or bs 0 0) ≡ true) (run : x ≡ take (prefix_len digit bs) bs) where
    pub all_digits : Run digit x
    all_digits = subst (Run digit) (sym run) (is_run digit p bs some starts)

    pub number_leads : (n : ℕ) → n ≡ decimal x → Leads p bs r (number p n)
    number_leads n e = record {
      text = x;
      whole = whole;
      spells = subst (λ v. Spells p x (number p v)) (sym e) (digits all_digits);
      longest = subst (λ y. Longest p y bs) (sym run) (number_longest p bs starts);
    }

module _ (p : ℕ) (bs x r : List ℕ) (some : 0 < length bs) (whole : bs ≡ x ++ r) where
  module _ (starts : Letter ≡ class (get_or bs 0 0)) (run : x ≡ take (prefix_len letter bs) bs) where
    first_letter : letter (get_or bs 0 0) ≡ true
    first_letter = class_letter (get_or bs 0 0) (sym starts)

    pub word_stands : (t : Token) → WordToken p x t → Leads p bs r (tok t) × (too_large (tok t) ≡ false)
    word_stands (code.Mark q m) (place, spelt) =
        (subst (λ n. Leads p bs r (mark n m)) (sym place) (keyword_leads p bs x r some whole first_letter run m spelt), refl)
    word_stands (code.Name q v) (place, is, none) = (
      subst (λ n. Leads p bs r (name n v.now)) (sym place)
          (subst (λ y. Leads p bs r (name p y)) (sym is) (name_leads p bs x r some whole first_letter run none)),
      refl,
    )
    word_stands (code.Number q n) impossible = absurd impossible

  module _ (starts : Digit ≡ class (get_or bs 0 0)) (run : x ≡ take (prefix_len digit bs) bs) where
    first_digit : digit (get_or bs 0 0) ≡ true
    first_digit = class_digit (get_or bs 0 0) (sym starts)

    pub number_digits : AllPass digit x
    number_digits = (all_digits p bs x r some whole first_digit run).1

    pub number_stands : (n : ℕ) → Some n ≡ limited (decimal x) → Leads p bs r (number p n) × (too_large (number p n) ≡ false)
    number_stands n e =
        let fits = limited_some (decimal x) n e in
        (number_leads p bs x r some whole first_digit run n fits.1, le-ltb 2147483647 n (omega (arith, fits.0, fits.1)))

    pub number_fails : None ≡ limited (decimal x) → Fails p bs (refusal NumberTooLarge p)
    number_fails e =
        over_limit (number_leads p bs x r some whole first_digit run (decimal x) refl)
        (lt-ltb 2147483647 (decimal x) (limited_none (decimal x) e))

-- ---- gaps

pub skips_blank : {bs r : List ℕ} (b : ℕ) → bs ≡ b ∷ r → white b ≡ true → Skips bs r
skips_blank b e w = record { text = b ∷ []; whole = e; gap = blank w }

module _ {bs body : List ℕ} (opens : bs ≡ codes "/*" ++ body) where
  pub skips_comment : (r : List ℕ) → Ends body r → Skips bs r
  skips_comment r (x, e, closed) =
      record { text = codes "/*" ++ x; whole = opens ∙ ap (λ y. codes "/*" ++ y) e; gap = comment closed }

  pub left_open : (p : ℕ) → Unclosed body → Lexed p bs [] (unclosed p)
  left_open p u = subst (λ y. Lexed p y [] (unclosed p)) (sym opens) (unclosed_comment u)

-- ---- symbols

module _ (p : ℕ) (bs : List ℕ) (k : class (get_or bs 0 0) ≡ Other) where
  module _ (clear : Front (codes "/*") bs → ⊥) (x : List ℕ) {r : List ℕ} (m : Mark) (spelt : x ≡ spelling m)
      (whole : bs ≡ x ++ r) where
    mark_leads : Longest p (spelling m) bs → Leads p bs r (mark p m)
    mark_leads l =
        record { text = x; whole = whole; spells = spelt_mark p x m spelt; longest = subst (λ y. Longest p y bs) (sym spelt) l }

    pub double_leads : length x ≡ 2 → Leads p bs r (mark p m)
    double_leads long = mark_leads (double_longest p bs k clear m (ap length (sym spelt) ∙ long))

    pub single_leads : AllByRecursion (Absent bs) doubles → length x ≡ 1 → Leads p bs r (mark p m)
    single_leads two long = mark_leads (single_longest p bs k clear two m (ap length (sym spelt) ∙ long))

  module _ (b : ℕ) (r : List ℕ) (e : bs ≡ b ∷ r) where
    pub no_token : white b ≡ false → AllByRecursion (Absent bs) doubles → AllByRecursion (Absent bs) singles → Lexed p bs [] (unexpected p)
    no_token w two one =
        let none = subst (λ y. (x : List ℕ) (t : Tok) → Spells p x t → Front x y → ⊥) e (no_text p bs k two one) in
        subst (λ y. Lexed p y [] (unexpected p)) (sym e) (unexpected_byte w none)

module _ (p : ℕ) (bs : List ℕ) (some : 0 < length bs) (starts : Other ≡ class (get_or bs 0 0)) where
  pub symbol_leads : (Front (codes "/*") bs → ⊥) → (m : Mark) (r : Bor (List ℕ)) → Symbol bs (Some (m, r)) → Leads p bs r.now (mark p m)
  symbol_leads clear m r (whole, inl two) = double_leads p bs (sym starts) clear (spelling m) m refl whole two
  symbol_leads clear m r (whole, inr (one, none)) = single_leads p bs (sym starts) clear (spelling m) m refl whole none one

  pub no_symbol : Symbol bs None → Fails p bs (refusal UnexpectedByte p)
  no_symbol (two, one) =
      let b = get_or bs 0 0 in
      stray_byte (no_token p bs (sym starts) b _ (first_rest bs 0 some) (class_not_white b (sym starts)) two one)
