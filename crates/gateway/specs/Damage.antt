use Rattle.std.specs.Prelude.{ℕ, ◌+◌, ◌/◌, ◌%◌, if◌then◌else◌, List, length, bit_xor, nat_lt, slice_index, slice_set}

-- the bytes with the bits of a mask of 16 bits inverted in the byte at a place and the next one, if there are both
abbrev pub inverted : List ℕ → ℕ → ℕ → List ℕ
inverted bytes at mask =
    if nat_lt (at + 1) (length bytes)
    then slice_set (slice_set bytes at (bit_xor (slice_index bytes at) (mask / 256))) (at + 1) (bit_xor (slice_index bytes (at + 1)) (mask % 256))
    else bytes
