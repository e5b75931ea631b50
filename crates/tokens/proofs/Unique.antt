-- A source has only one list of lexemes.
use Rattle.std.proofs.Common.{◌≡◌, ℕ, ◌+◌, ◌<◌, true, false, cond, ◌&&◌, eqb, List, [], ◌∷◌, ◌++◌, length, get_or, drop, codes, sym, refl, ap, ◌∙◌, subst, inl, inr, append-nil, arith, length-append}
use Rattle.std.proofs.lemmas.List.{nil_from_length}
use Rattle.std.proofs.lemmas.Bool.{cases_Bool, and_parts, eqb-true}
use Rattle.tokens.specs.declared.bytes.Class.TheVariants.{Digit, Other}
use Rattle.tokens.specs.declared.token.Mark.{Mark}
use Rattle.tokens.specs.declared.token.Mark.TheVariants.{Slash}
use Rattle.tokens.specs.Tokens.{Tok, mark, number, name}
use Rattle.tokens.specs.Lexemes.{letter, digit, white, spelling, decimal, Run, Spells, reserved, digits, letters, Front, Longest, Body, blank, comment, Lexeme, Ending, complete, unclosed, unexpected, Lexed, finished, gap, lexeme, unclosed_comment, unexpected_byte}
use Rattle.tokens.specs.Reply.{UniqueLexemes}
use Rattle.tokens.specs.Scanning.{class, keywords, doubles, singles, Leads}
use Rattle.tokens.proofs.Fronts.{longer, shorter, compared}
use Rattle.tokens.proofs.Comments.{Unclosed}
use Rattle.tokens.proofs.Reserved.{weaker, every, first, keyword_runs, double_firsts, single_firsts, same_spelling}
use Rattle.tokens.proofs.Total.{lexeme_of}
use Rattle.tokens.proofs.Texts.{digit_class, word_first, some_bytes, not_white, first_byte}

-- ---- the first part is unique

abbrev SameSplit : List ℕ → List ℕ → List ℕ → List ℕ → Type 0
SameSplit x r y v = (x ≡ y) × (r ≡ v)

same_parts : (x r y v w : List ℕ) → x ≡ y ++ w → v ≡ w ++ r → w ≡ [] → SameSplit x r y v
same_parts x r y v w e f none = (
  e ∙ ap (λ z. y ++ z) none ∙ append-nil y,
  sym (f ∙ ap (λ z. z ++ r) none),
)

same_lengths : (x r y v : List ℕ) → x ++ r ≡ y ++ v → length x ≡ length y → SameSplit x r y v
same_lengths x r y v e long =
    let none : (a b w : List ℕ) → a ≡ b ++ w → length a ≡ length b → w ≡ [] =
    λ a b w f l. nil_from_length w (let n = ap length f ∙ length-append b w in omega arith) in
    elim (compared x r y v e) [
      | longer w f g ↦ same_parts x r y v w f g (none x y w f long)
      | shorter w f g ↦ let (p, q) = same_parts y v x r w f g (none y x w f (sym long)) in (sym p, sym q)
    ]

same_texts : {p : ℕ} {bs r v : List ℕ} {t u : Tok} (a : Leads p bs r t) (b : Leads p bs v u) → SameSplit a.text r b.text v
same_texts {r = r} {v = v} {t = t} {u = u} a b =
    let most = a.longest.no_longer b.text u b.spells (v, b.whole) in
    let least = b.longest.no_longer a.text t a.spells (r, a.whole) in
    same_lengths a.text r b.text v (sym a.whole ∙ b.whole) (omega arith)

same_bodies : (x r y v : List ℕ) → x ++ r ≡ y ++ v → Body x → Body y → SameSplit x r y v
same_bodies x r y v e a b =
    elim (compared x r y v e) [
      | longer w f g ↦ same_parts x r y v w f g (a.first y w f b.closed)
      | shorter w f g ↦ let (p, q) = same_parts y v x r w f g (b.first x w f a.closed) in (sym p, sym q)
    ]

-- ---- so is its token

digit_first : (x : List ℕ) → Run digit x → class (get_or x 0 0) ≡ Digit
digit_first [] run = absurd (omega (arith, run.0))
digit_first (b ∷ x) run = digit_class b (run.1 0 0 (omega arith))

no_digits : (m : Mark) → class (first m) ≡ Digit → ⊥
no_digits =
    let not_digit : Mark → Type 0 = λ m. class (first m) ≡ Digit → ⊥ in
    let symbol : (m : Mark) → class (first m) ≡ Other → not_digit m = λ m o d. cc in
    let word : (m : Mark) → Run letter (spelling m) → not_digit m = λ m run d. cc (word_first (spelling m) run) in
    every not_digit
    (weaker word keywords keyword_runs)
    (weaker symbol doubles double_firsts)
    (weaker symbol singles single_firsts)

mark_number : (m : Mark) (x : List ℕ) → Run digit x → spelling m ≡ x → ⊥
mark_number m x run e = no_digits m (ap (λ y. class (get_or y 0 0)) e ∙ digit_first x run)

word_number : (x y : List ℕ) → Run letter x → Run digit y → x ≡ y → ⊥
word_number x y word run e = cc (word_first x word, digit_first y run, ap (λ z. class (get_or z 0 0)) e)

same_token : {p : ℕ} {x y : List ℕ} {t u : Tok} → Spells p x t → Spells p y u → x ≡ y → t ≡ u
same_token {p} (reserved {m}) (reserved {m = n}) e = ap (mark p) (same_spelling m n e)
same_token (reserved {m}) (digits {x = y} run) e = absurd (mark_number m y run e)
same_token (reserved {m}) (letters run none) e = absurd (none m (sym e))
same_token (digits {x} run) (reserved {m}) e = absurd (mark_number m x run (sym e))
same_token {p} (digits run) (digits run') e = ap (λ z. number p (decimal z)) e
same_token (digits {x} run) (letters {x = y} word none) e = absurd (word_number y x word run (sym e))
same_token (letters run none) (reserved {m}) e = absurd (none m e)
same_token (letters {x} word none) (digits {x = y} run) e = absurd (word_number x y word run e)
same_token {p} (letters run none) (letters run' none') e = ap (name p) e

-- ---- what a part begins with

data Start : Type 0 where
  at_end at_blank at_comment at_text : Start

abbrev after_byte : ℕ → List ℕ → Start
after_byte b [] = at_text
after_byte b (c ∷ r) = cond (eqb b 47 && eqb c 42) at_comment at_text

abbrev start_of : List ℕ → Start
start_of [] = at_end
start_of (b ∷ r) = cond (white b) at_blank (after_byte b r)

text_start : (bs : List ℕ) → 0 < length bs → white (get_or bs 0 0) ≡ false → (Front (codes "/*") bs → ⊥) → start_of bs ≡ at_text
text_start [] some w clear = absurd (omega arith)
text_start (b ∷ []) some w clear = ap (λ z. cond z at_blank at_text) w
text_start (b ∷ c ∷ r) some w clear =
    ap (λ z. cond z at_blank (after_byte b (c ∷ r))) w
    ∙ elim (cases_Bool (eqb b 47 && eqb c 42)) [
      | inl e ↦
          let both = and_parts (eqb b 47) (eqb c 42) e in
          absurd (clear (r, cc (eqb-true b 47 both.0, eqb-true c 42 both.1)))
      | inr e ↦ ap (λ z. cond z at_comment at_text) e
    ]

data AfterOpening (p : ℕ) (body : List ℕ) (ls : List Lexeme) (e : Ending) : Type 0 where
  closed : (x r : List ℕ) → body ≡ x ++ r → Body x → Lexed (p + length (codes "/*" ++ x)) r ls e → AfterOpening p body ls e
  still_open : Unclosed body → ls ≡ [] → e ≡ unclosed p → AfterOpening p body ls e

data AtText (p : ℕ) (bs : List ℕ) (ls : List Lexeme) (e : Ending) : Type 0 where
  led : (r : List ℕ) (t : Tok) (ms : List Lexeme) (l : Leads p bs r t) → ls ≡ lexeme_of l ∷ ms
      → Lexed (p + length l.text) r ms e → AtText p bs ls e
  none_led : ((x : List ℕ) (t : Tok) → Spells p x t → Front x bs → ⊥) → ls ≡ [] → e ≡ unexpected p → AtText p bs ls e

-- what the lexemes of bs are, by what bs begins with
abbrev Step : Start → ℕ → List ℕ → List Lexeme → Ending → Type 0
Step at_end p bs ls e = (ls ≡ []) × (e ≡ complete)
Step at_blank p bs ls e = Lexed (p + 1) (drop 1 bs) ls e
Step at_comment p bs ls e = AfterOpening p (drop 2 bs) ls e
Step at_text p bs ls e = AtText p bs ls e

abbrev leads_here : {p : ℕ} {x : List ℕ} {t : Tok} (r : List ℕ) → Spells p x t → Longest p x (x ++ r) → Leads p (x ++ r) r t
leads_here {x = x} r s l = record { text = x; whole = refl; spells = s; longest = l }

lexeme_start : {p : ℕ} {x : List ℕ} {t : Tok} (r : List ℕ) → Spells p x t → Longest p x (x ++ r) → start_of (x ++ r) ≡ at_text
lexeme_start {x = x} r s l =
    let some = some_bytes s in
    text_start (x ++ r) (let n = length-append x r in omega arith)
    (ap white (first_byte (x ++ r) x some (r, refl)) ∙ not_white s) l.no_comment

unexpected_start : {p b : ℕ} {r : List ℕ} → white b ≡ false → ((x : List ℕ) (t : Tok) → Spells p x t → Front x (b ∷ r) → ⊥)
    → start_of (b ∷ r) ≡ at_text
unexpected_start {p} {b} {r} w none =
    text_start (b ∷ r) (omega arith) w (λ f. none (codes "/") (mark p Slash) reserved (42 ∷ f.0, f.1))

blank_start : (b : ℕ) (r : List ℕ) → white b ≡ true → start_of (b ∷ r) ≡ at_blank
blank_start b r w = ap (λ z. cond z at_blank (after_byte b r)) w

step : {p : ℕ} {bs : List ℕ} {ls : List Lexeme} {e : Ending} → Lexed p bs ls e → Step (start_of bs) p bs ls e
step finished = (refl, refl)
step {p} {bs} {ls} {e} (gap {r = r} (blank {b} w) d) = subst (λ s. Step s p bs ls e) (sym (blank_start b r w)) d
step (gap {r = r} (comment {x} body) d) = closed x r refl body d
step {p} {bs} {ls} {e} (lexeme {r = r} {t = t} {ls = ms} s l d) =
    subst (λ z. Step z p bs ls e) (sym (lexeme_start r s l)) (led r t ms (leads_here r s l) refl d)
step (unclosed_comment u) = still_open u refl refl
step {p} {bs} {ls} {e} (unexpected_byte w none) =
    subst (λ s. Step s p bs ls e) (sym (unexpected_start w none)) (none_led none refl refl)

-- ---- all parts

abbrev Same : List Lexeme → Ending → List Lexeme → Ending → Type 0
Same ls e ms f = (ls ≡ ms) × (e ≡ f)

-- the lexemes after a text are those after an equal text
moved : (p : ℕ) {x r y v : List ℕ} {ls : List Lexeme} {e : Ending} → x ≡ y → r ≡ v
    → Lexed (p + length y) v ls e → Lexed (p + length x) r ls e
moved p {r = r} {y = y} {ls = ls} {e = e} a b d =
    subst (λ z. Lexed (p + length z) r ls e) (sym a) (subst (λ z. Lexed (p + length y) z ls e) (sym b) d)

same : {p : ℕ} {bs : List ℕ} {ls : List Lexeme} {e : Ending} → Lexed p bs ls e → (ms : List Lexeme) (f : Ending) → Lexed p bs ms f
    → Same ls e ms f
same finished ms f d = let (a, b) = step d in (sym a, sym b)
same {p} {bs} (gap {r = r} (blank {b} w) d) ms f d' = same d ms f (subst (λ s. Step s p bs ms f) (blank_start b r w) (step d'))
same {p} (gap {r = r} (comment {x} body) d) ms f d' =
    elim (step d') [
      | closed y v whole body' d'' ↦
          let (a, b) = same_bodies x r y v whole body body' in
          same d ms f (moved p (ap (λ z. codes "/*" ++ z) a) b d'')
      | still_open u none ending ↦ absurd (u x (r, refl) body.closed)
    ]
same {p} {bs} (lexeme {x = x} {r = r} {t = t} {ls = ks} s l d) ms f d' =
    let later : AtText p bs ms f = subst (λ s. Step s p bs ms f) (lexeme_start r s l) (step d') in
    elim later [
      | led v u js leads is d'' ↦
          let (a, b) = same_texts (leads_here r s l) leads in
          let (tail, ending) = same d js f (moved p a b d'') in (
            ap (λ z. record { place = p; text = z; token = t } ∷ ks) a
                ∙ ap (λ z. record { place = p; text = leads.text; token = z } ∷ ks) (same_token s leads.spells a)
                ∙ ap (λ z. lexeme_of leads ∷ z) tail
                ∙ sym is,
            ending,
          )
      | none_led none empty ending ↦ absurd (none x t s (r, refl))
    ]
same (unclosed_comment u) ms f d' =
    elim (step d') [
      | closed y v whole body d'' ↦ absurd (u y (v, whole) body.closed)
      | still_open u' none ending ↦ (sym none, sym ending)
    ]
same {p} {bs} (unexpected_byte w none) ms f d' =
    let later : AtText p bs ms f = subst (λ s. Step s p bs ms f) (unexpected_start w none) (step d') in
    elim later [
      | led v u ks leads is d'' ↦ absurd (none leads.text u leads.spells (v, leads.whole))
      | none_led none' empty ending ↦ (sym empty, sym ending)
    ]

pub unique : UniqueLexemes
unique p bs ls ms e f d d' = same d ms f d'
