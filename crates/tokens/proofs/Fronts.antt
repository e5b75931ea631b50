-- What some bytes begin with.
use Rattle.std.proofs.Common.{◌≡◌, ℕ, ◌⊎◌, List, [], ◌∷◌, ◌++◌, length, sym, refl, ap, inl, inr, arith}
use Rattle.std.proofs.lemmas.Bool.{cases_eq}
use Rattle.tokens.specs.Lexemes.{Front}

pub front? : (x bs : List ℕ) → Front x bs ⊎ (Front x bs → ⊥)
front? [] bs = inl (bs, refl)
front? (a ∷ x) [] = inr (λ f. let n = ap length f.1 in omega arith)
front? (a ∷ x) (b ∷ bs) =
    elim (cases_eq b a) [
      | inl e ↦ elim (front? x bs) [ inl f ↦ inl (f.0, cc f.1) | inr no_front ↦ inr (λ f. no_front (f.0, cc f.1)) ]
      | inr ne ↦ inr (λ f. ne (cc f.1))
    ]

-- of two fronts one begins with the other
pub data Compared (x r y v : List ℕ) : Type 0 where
  longer : (w : List ℕ) → x ≡ y ++ w → v ≡ w ++ r → Compared x r y v
  shorter : (w : List ℕ) → y ≡ x ++ w → r ≡ w ++ v → Compared x r y v

pub compared : (x r y v : List ℕ) → x ++ r ≡ y ++ v → Compared x r y v
compared [] r y v e = shorter y refl e
compared (a ∷ x) r [] v e = longer (a ∷ x) refl (sym e)
compared (a ∷ x) r (b ∷ y) v e =
    let tails : x ++ r ≡ y ++ v = cc in
    let heads : a ≡ b = cc in
    elim (compared x r y v tails) [ longer w p q ↦ longer w (cc) q | shorter w p q ↦ shorter w (cc) q ]
