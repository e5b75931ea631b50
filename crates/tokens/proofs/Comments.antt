-- Where a comment ends.
use Rattle.std.proofs.Common.{◌≡◌, ℕ, zero, suc, ◌+◌, ◌≤◌, ◌⊎◌, List, [], ◌∷◌, ◌++◌, length, get_or, drop, codes, Some, None, sym, refl, ap, ◌∙◌, subst, inl, inr, append_assoc, add-one, arith, length-append}
use Rattle.std.proofs.Math.Numerals.{unary_clauses}
use Rattle.tokens.specs.Lexemes.{Front, Closed, Body}
use Rattle.tokens.specs.Scanning.{NotClosing, FirstClosing}
use Rattle.tokens.proofs.Fronts.{front?}

-- the first closing mark of bs stands right before r
abbrev pub Ends : List ℕ → List ℕ → Type 0
Ends bs r = (x : List ℕ) × (bs ≡ x ++ r) × Body x

abbrev pub Unclosed : List ℕ → Type 0
Unclosed bs = (x : List ℕ) → Front x bs → Closed x → ⊥

pub long_enough : (x : List ℕ) → Closed x → (n : ℕ) × (length x ≡ n + 2)
long_enough x c = (length c.0, ap length c.1 ∙ length-append c.0 (codes "*/"))

none_closed : Closed [] → ⊥
none_closed c = let n = long_enough [] c in omega (arith, n.1)

mark_first : (y v : List ℕ) → codes "*/" ≡ y ++ v → Closed y → v ≡ []
mark_first y [] e c = refl
mark_first y (b ∷ v) e c =
    let n = long_enough y c in
    let m = ap length e ∙ length-append y (b ∷ v) in
    absurd (omega (arith, n.1, m))

pub mark_body : Body (codes "*/")
mark_body = record { closed = ([], refl); first = mark_first }

pub ends_here : (r : List ℕ) → Ends (codes "*/" ++ r) r
ends_here r = (codes "*/", refl, mark_body)

-- a closed text, with one more byte in front, is closed by the same mark or begins with it
closed_tail : (a : ℕ) (x : List ℕ) → Closed (a ∷ x) → Closed x ⊎ (a ∷ x ≡ codes "*/")
closed_tail a x ([], e) = inr e
closed_tail a x (b ∷ y, e) = inl (y, cc)

module _ (a : ℕ) (t : List ℕ) (no_mark : Front (codes "*/") (a ∷ t) → ⊥) where
  closed_later : (b : ℕ) (x : List ℕ) → Front (b ∷ x) (a ∷ t) → Closed (b ∷ x) → Closed x
  closed_later b x f c =
      elim (closed_tail b x c) [ inl d ↦ d | inr e ↦ absurd (no_mark (f.0, f.1 ∙ ap (λ y. y ++ f.0) e)) ]

  first_later : (x r : List ℕ) → t ≡ x ++ r → Body x → (y v : List ℕ) → a ∷ x ≡ y ++ v → Closed y → v ≡ []
  first_later x r e body [] v f c = absurd (none_closed c)
  first_later x r e body (b ∷ y) v f c =
      let whole : a ∷ t ≡ (b ∷ y) ++ (v ++ r) =
      ap (λ z. a ∷ z) e ∙ ap (λ z. z ++ r) f ∙ append_assoc (b ∷ y) v r in
      body.first y v (cc) (closed_later b y (v ++ r, whole) c)

  pub ends_later : (r : List ℕ) → Ends t r → Ends (a ∷ t) r
  ends_later r (x, e, body) =
      let closed : Closed (a ∷ x) = (a ∷ body.closed.0, ap (λ y. a ∷ y) body.closed.1) in
      (a ∷ x, ap (λ y. a ∷ y) e, record { closed = closed; first = first_later x r e body })

  pub unclosed_later : Unclosed t → Unclosed (a ∷ t)
  unclosed_later u [] f c = none_closed c
  unclosed_later u (b ∷ x) f c = u x (f.0, cc f.1) (closed_later b x f c)

pub unclosed_none : Unclosed []
unclosed_none [] f c = none_closed c
unclosed_none (b ∷ x) f c = let z = ap length f.1 in omega arith

pub comment_end : (bs : List ℕ) → ((r : List ℕ) × Ends bs r) ⊎ Unclosed bs
comment_end [] = inr unclosed_none
comment_end (a ∷ t) =
    elim (front? (codes "*/") (a ∷ t)) [
      | inl f ↦ inl (f.0, subst (λ bs. Ends bs f.0) (sym f.1) (ends_here f.0))
      | inr no_mark ↦ elim (comment_end t) [
        | inl e ↦ inl (e.0, ends_later a t no_mark e.0 e.1)
        | inr u ↦ inr (unclosed_later a t no_mark u)
      ]
    ]

-- ---- by the index of the mark

front_marks : (a : ℕ) (t : List ℕ) → Front (codes "*/") (a ∷ t) → (2 ≤ length (a ∷ t)) × (a ≡ 42) × (get_or t 0 0 ≡ 47)
front_marks a t (r, e) =
    let long = ap length e in
    (omega arith, cc, ap (λ bs. get_or bs 1 0) e)

-- the same without the first byte
NotClosing_tail : (a : ℕ) (t : List ℕ) (k : ℕ) → NotClosing (a ∷ t) (k + 1) → NotClosing t k
NotClosing_tail a t k h = simp add-one (simp add-one at h)

pub ends_at : (bs : List ℕ) (i : ℕ) → FirstClosing bs (Some i) → Ends bs (drop (i + 2) bs)
ends_at [] i h = absurd (omega (arith, h.0))
ends_at (a ∷ []) i h = absurd (omega (arith, h.0))
ends_at (a ∷ b ∷ t) zero h = subst (λ bs. Ends bs t) (cc (h.1, h.2)) (ends_here t)
ends_at (a ∷ b ∷ t) (suc i) h =
    let none : Front (codes "*/") (a ∷ b ∷ t) → ⊥ = λ f. let m = front_marks a (b ∷ t) f in h.3 0 (omega arith) m.1 m.2 in
    let tail : FirstClosing (b ∷ t) (Some i) =
    (omega (arith, h.0), h.1, simp add-one (simp add-one at h.2), λ k lt. NotClosing_tail a (b ∷ t) k (h.3 (k + 1) (omega arith))) in
    let later : Ends (a ∷ b ∷ t) (drop (i + 2) (b ∷ t)) = ends_later a (b ∷ t) none _ (ends_at (b ∷ t) i tail) in
    simp unary_clauses (simp unary_clauses at later)

pub unclosed_by : (bs : List ℕ) → FirstClosing bs None → Unclosed bs
unclosed_by [] h = unclosed_none
unclosed_by (a ∷ t) h =
    let none : Front (codes "*/") (a ∷ t) → ⊥ = λ f. let m = front_marks a t f in h 0 (omega (arith, m.0)) m.1 m.2 in
    unclosed_later a t none (unclosed_by t (λ k le. NotClosing_tail a t k (h (k + 1) (omega arith))))
