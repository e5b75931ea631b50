-- The chunks of one width that a list begins with.
use Rattle.std.proofs.Common.{◌≡◌, ℕ, zero, suc, ◌+◌, ◌-◌, ◌*◌, ◌<◌, ◌≤◌, List, [], ◌∷◌, length, get_or, take, drop, sym, refl, ap, ◌∙◌, mul-zero, mul-suc, arith}
use Rattle.std.specs.Simd.{first_chunks}
use Rattle.std.proofs.lemmas.List.{drop-drop, drop-take, length-map, take-take}
use Rattle.image.specs.Layout.{Layout}
use Rattle.image.specs.Reading.{instructions}

pub length-first_chunks : {X : Type 0} (w n : ℕ) (xs : List X) → length (first_chunks w n xs) ≡ n
length-first_chunks w zero xs = refl
length-first_chunks w (suc n) xs = ap suc (length-first_chunks w n (drop w xs))

-- a chunk by its index
pub get_or-first_chunks : (w n k : ℕ) (xs : List ℕ) → k < n → get_or (first_chunks w n xs) k [] ≡ take w (drop (w * k) xs)
get_or-first_chunks w zero k xs h = absurd (omega arith)
get_or-first_chunks w (suc n) zero xs h = ap (λ m. take w (drop m xs)) (sym (mul-zero w))
get_or-first_chunks w (suc n) (suc k) xs h =
    let more : w * suc k ≡ w * k + w = mul-suc w k in
    get_or-first_chunks w n k (drop w xs) (omega arith) ∙ ap (take w) (drop-drop (w * k) w xs) ∙ ap (λ m. take w (drop m xs)) (omega arith)

-- fewer chunks, and chunks of a front
pub take-first_chunks : {X : Type 0} (w k n : ℕ) (xs : List X) → k ≤ n → take k (first_chunks w n xs) ≡ first_chunks w k xs
take-first_chunks w zero n xs h = refl
take-first_chunks w (suc k) zero xs h = absurd (omega arith)
take-first_chunks w (suc k) (suc n) xs h = ap (λ rest. take w xs ∷ rest) (take-first_chunks w k n (drop w xs) (omega arith))

pub first_chunks-take : {X : Type 0} (w n m : ℕ) (xs : List X) → w * n ≤ m → first_chunks w n (take m xs) ≡ first_chunks w n xs
first_chunks-take w zero m xs h = refl
first_chunks-take w (suc n) m xs h =
    let more : w * suc n ≡ w * n + w = mul-suc w n in
    let size : w + (m - w) ≡ m = omega arith in
    let front : take w (take m xs) ≡ take w xs = take-take w m xs (omega arith) in
    let back : drop w (take m xs) ≡ take (m - w) (drop w xs) = ap (λ k. drop w (take k xs)) (sym size) ∙ drop-take w (m - w) xs in
    ap (λ c. c ∷ first_chunks w n (drop w (take m xs))) front
    ∙ ap (λ ys. take w xs ∷ first_chunks w n ys) back
    ∙ ap (λ cs. take w xs ∷ cs) (first_chunks-take w n (m - w) (drop w xs) (omega arith))

pub length_instructions : {A : Type 0} (l : Layout A) (n : ℕ) (bytes : List ℕ) → length (instructions l n bytes) ≡ n
length_instructions l n bytes = length-map (first_chunks l.width n bytes) l.decode ∙ length-first_chunks l.width n bytes
