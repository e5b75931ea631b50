use Rattle.std.specs.Prelude.{ℕ, ◌+◌, ◌-◌, ◌^◌, min, if◌then◌else◌, List, [], ◌∷◌, ◌++◌, length, take, nat_lt}
use Rattle.gateway.specs.declared.notes.Notes.{Notes}

-- Notes: the items that found a place, the places left, and how many items there were.
pub record Noted (T : Type 0) : Type 0 where
  pub items : List T
  pub room : ℕ
  pub seen : ℕ

abbrev pub noted : {T : Type 0} → Notes T → Noted T
noted n = record { items = take n.seen n.places.now; room = length n.places.now - n.seen; seen = n.seen }

abbrev pub blank : {T : Type 0} → ℕ → Noted T
blank room = record { items = []; room = room; seen = 0 }

-- One item more. With no place left it is counted, and not held; the count stays within 64 bits.
abbrev pub and_then : {T : Type 0} → Noted T → T → Noted T
and_then n x = record {
  items = if nat_lt 0 n.room then n.items ++ (x ∷ []) else n.items;
  room = n.room - 1;
  seen = min (n.seen + 1) (2 ^ 64 - 1);
}
