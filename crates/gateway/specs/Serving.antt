use Rattle.std.specs.Prelude.{◌≡◌, ℕ, if◌then◌else◌, List, length, Some, None, Option, nat_lt, slice_index_or}
use Rattle.port.specs.declared.ceiling.Ceiling.{Ceiling}
use Rattle.port.specs.declared.live.Live.{Live}
use Rattle.port.specs.Ways.{if_waiting}
use Rattle.port.specs.Kinds.{given, fetched}
use Rattle.gateway.specs.declared.script.Visit.{Visit}
use Rattle.gateway.specs.declared.script.Visit.TheVariants as visit
use Rattle.gateway.specs.declared.script.Rule.TheVariants as rule
use Rattle.gateway.specs.declared.script.Call.TheVariants as call
use Rattle.gateway.specs.declared.script.Hour.{Hour}
use Rattle.gateway.specs.declared.neighbours.Told.{Told}
use Rattle.gateway.specs.declared.neighbours.Told.TheVariants as reply
use Rattle.gateway.specs.declared.neighbours.Neighbours.{Neighbours}
use Rattle.gateway.specs.declared.trace.Trace.{Trace}
use Rattle.gateway.specs.Noting.{noted, and_then}

-- the live port after a visit
abbrev pub visited : Live → Visit → Live
visited m (visit.Meter v) = given m v
visited m visit.Charger = fetched m

-- what the visitor is told
abbrev pub told_by : Live → Visit → Told
told_by m (visit.Meter v) = if_waiting m.reading (reply.Full v) (reply.Accepted v)
told_by m visit.Charger = reply.Fetched m.setpoint

-- the live port after a visit, if there is one, and what a visitor is told
abbrev pub after : Live → Option Visit → Live
after m None = m
after m (Some v) = visited m v

abbrev pub told : Live → Option Visit → Option Told
told m None = None
told m (Some v) = Some (told_by m v)

abbrev pub blank : Hour
blank = record { 0 = None; 1 = call.Load rule.Limit }

-- the visit at an hour of the script; after its end there is none
abbrev pub planned : List Hour → ℕ → Option Visit
planned hours k = if nat_lt k (length hours) then (slice_index_or hours k blank).0 else None

-- The neighbours pay the visit of the hour and note it, and leave the rest of the port as it is.
pub record Called (o : Neighbours) (p : Trace (Ceiling Live)) (o' : Neighbours) (q : Trace (Ceiling Live)) : Type 0 where
  pub live : q.port.port ≡ after p.port.port (planned o.hours.now o.sightings.seen)
  pub low : q.port.low ≡ p.port.low
  pub high : q.port.high ≡ p.port.high
  pub notes : q.notes ≡ p.notes
  pub hours : o'.hours ≡ o.hours
  pub sightings : noted o'.sightings ≡ and_then (noted o.sightings)
      (record { told = told p.port.port (planned o.hours.now o.sightings.seen); events = p.notes.seen })
