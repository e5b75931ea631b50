use Rattle.std.specs.Prelude.{ℕ, ◌+◌, ◌*◌, ◌/◌, ◌%◌, ◌^◌, Bool, List, [], ◌∷◌, pos, slice_index}
use Rattle.std.specs.Int.{w32, cast_signed, cast_unsigned}
use Rattle.machine.specs.declared.instruction.Instruction.{Instruction}
use Rattle.machine.specs.Form as form

-- How blocks of 512 bytes hold instructions.
pub record Layout (A : Type 0) : Type 0 where
  -- bytes of an instruction
  pub width : ℕ
  -- instructions of a full block
  pub capacity : ℕ
  -- the most blocks of an image
  pub limit : ℕ
  pub formed : A → Bool
  pub encode : A → List ℕ
  pub decode : List ℕ → A

-- op, r, s, t, then d in four bytes, two's complement, high byte first
abbrev pub encode : Instruction → List ℕ
encode i =
    let d : ℕ = cast_unsigned w32 i.d in
    i.op ∷ i.r ∷ i.s ∷ i.t ∷ d / 2 ^ 24 % 256 ∷ d / 2 ^ 16 % 256 ∷ d / 2 ^ 8 % 256 ∷ d % 256 ∷ []

abbrev pub decode : List ℕ → Instruction
decode bs = record {
  op = slice_index bs 0;
  r = slice_index bs 1;
  s = slice_index bs 2;
  t = slice_index bs 3;
  d = cast_signed w32 (slice_index bs 4 * 2 ^ 24 + slice_index bs 5 * 2 ^ 16 + slice_index bs 6 * 2 ^ 8 + slice_index bs 7);
}

abbrev pub blank : Instruction
blank = record { op = 0; r = 0; s = 0; t = 0; d = pos 0 }

abbrev pub layout : Layout Instruction
layout = record { width = 8; capacity = 62; limit = 794; formed = form.formed; encode = encode; decode = decode }
