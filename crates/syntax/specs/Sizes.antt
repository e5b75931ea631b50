-- How many cells variables and parameters take.
use Rattle.std.specs.Prelude.{ℕ, ◌+◌, List, [], ◌∷◌, sum_by}
use Rattle.syntax.specs.Trees.{Variable, single, array, Param, number_param, array_param, Decl, global, function}

-- a number takes 1, an array its size
abbrev pub cells : {N : Type 0} → Variable N → ℕ
cells (single t x) = 1
cells (array t x p n) = n

abbrev pub room : {N : Type 0} → List (Variable N) → ℕ
room xs = sum_by cells xs

-- as an argument a number takes 1, an array 2
abbrev pub width : {N : Type 0} → List (Param N) → ℕ
width [] = 0
width (number_param t x ∷ ps) = 1 + width ps
width (array_param t x ∷ ps) = 2 + width ps

abbrev pub globals_room : {N : Type 0} → List (Decl N) → ℕ
globals_room [] = 0
globals_room (global x ∷ ds) = cells x + globals_room ds
globals_room (function t f p ps b ∷ ds) = globals_room ds
