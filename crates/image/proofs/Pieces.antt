use Rattle.std.proofs.Common.{◌≡◌, ℕ, ◌+◌, ◌*◌, ◌<◌, List, [], ◌∷◌, ◌++◌, length, get_or, take, sym, ap, ◌∙◌, mul-zero, mul-suc, arith, length-append}
use Rattle.std.specs.List.{flat_map}
use Rattle.std.proofs.lemmas.List.{take_more, flat_map_more}

-- lists that are joined from pieces

pub joined_next : {X Y : Type 0} (f : X → List Y) (xs : List X) (k : ℕ) (d : X) → k < length xs
    → flat_map f (take (k + 1) xs) ≡ flat_map f (take k xs) ++ f (get_or xs k d)
joined_next f xs k d h =
    ap (flat_map f) (take_more xs k d h) ∙ sym (flat_map_more f [] (take k xs) (get_or xs k d))

pub length_joined : {X : Type 0} (f : X → List ℕ) (w : ℕ) → ((x : X) → length (f x) ≡ w) → (xs : List X)
    → length (flat_map f xs) ≡ w * length xs
length_joined f w wide [] = sym (mul-zero w)
length_joined f w wide (x ∷ xs) =
    let here = wide x in
    let rest = length_joined f w wide xs in
    let long = length-append (f x) (flat_map f xs) in
    let more = mul-suc w (length xs) in
    omega arith
