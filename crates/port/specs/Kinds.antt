use Rattle.std.specs.Prelude.{ℕ, ◌-◌, not, List, [], ◌∷◌, ◌++◌, length, take, ℤ, is_some, Some, None, Option, nat_lt}
use Rattle.std.specs.Int.{int_max, int_min}
use Rattle.port.specs.declared.live.Live.{Live}
use Rattle.port.specs.Ways.{Ways, if_waiting}

-- A record port means its unread list, its log and the room left in it.
pub record Recorded : Type 0 where
  pub unread : List ℤ
  pub log : List ℤ
  pub room : ℕ

abbrev pub recorded : List ℤ → List ℤ → ℕ → Recorded
recorded unread log count = record { unread = unread; log = take count log; room = length log - count }

abbrev pub first : List ℤ → Option ℤ
first [] = None
first (x ∷ xs) = Some x

abbrev pub rest : List ℤ → List ℤ
rest [] = []
rest (x ∷ xs) = xs

abbrev pub record_ways : Ways Recorded
record_ways = record {
  waiting = λ m. first m.unread;
  taken = λ m. record { unread = rest m.unread; log = m.log; room = m.room };
  accepts = λ m v. nat_lt 0 m.room;
  became = λ m v. record { unread = m.unread; log = m.log ++ (v ∷ []); room = m.room - 1 };
}

-- A live port holds at most one reading and one set point.
abbrev pub live_ways : Ways Live
live_ways = record {
  waiting = λ m. m.reading;
  taken = λ m. record { reading = None; setpoint = m.setpoint };
  accepts = λ m v. not (is_some m.setpoint);
  became = λ m v. record { reading = m.reading; setpoint = Some v };
}

-- an empty place takes a number, and a full one keeps its own
abbrev pub filled : Option ℤ → ℤ → Option ℤ
filled None v = Some v
filled (Some w) v = Some w

-- the meter gives a reading, unless one is waiting
abbrev pub given : Live → ℤ → Live
given m v = if_waiting m.reading m (record { reading = Some v; setpoint = m.setpoint })

-- the charger fetches the set point
abbrev pub fetched : Live → Live
fetched m = record { reading = m.reading; setpoint = None }

-- A ceiling means the port below it and two bounds, between which it clips what is put there.
pub record Clipped (M : Type 0) : Type 0 where
  pub below : M
  pub low : ℤ
  pub high : ℤ

abbrev pub clip : {M : Type 0} → Clipped M → ℤ → ℤ
clip m v = int_max m.low (int_min v m.high)

abbrev pub ceiling_ways : {M : Type 0} → Ways M → Ways (Clipped M)
ceiling_ways w = record {
  waiting = λ m. w.waiting m.below;
  taken = λ m. record { below = w.taken m.below; low = m.low; high = m.high };
  accepts = λ m v. w.accepts m.below (clip m v);
  became = λ m v. record { below = w.became m.below (clip m v); low = m.low; high = m.high };
}
