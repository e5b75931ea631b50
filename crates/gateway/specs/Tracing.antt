use Rattle.std.specs.Prelude.{Bool, true, false, ℤ, Some, None, Option}
use Rattle.gateway.specs.declared.trace.Event.{Event}
use Rattle.gateway.specs.declared.trace.Event.TheVariants.{Took, Put}
use Rattle.gateway.specs.Noting.{Noted, and_then}

-- the events after a take with this reply
abbrev pub after_take : Noted Event → Option ℤ → Noted Event
after_take n (Some v) = and_then n (Took v)
after_take n None = n

-- the events after a put of a number with this reply
abbrev pub after_put : Noted Event → ℤ → Bool → Noted Event
after_put n v true = and_then n (Put v)
after_put n v false = n
