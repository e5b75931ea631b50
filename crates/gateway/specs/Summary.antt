use Rattle.std.specs.Prelude.{ℕ, ◌+◌, ◌-◌, ◌^◌, min, Some, None, Ok, Err, Option}
use Rattle.machine.specs.declared.grant.Ran.{Ran}
use Rattle.day.specs.declared.Done.TheVariants as done
use Rattle.day.specs.Answers.{Reply}
use Rattle.gateway.specs.declared.book.Book.{Book}

-- a machine at its start, after so many events
abbrev pub begun : ℕ → Book
begun events = record { from = events; to = events; steps = 0; last = None }

abbrev pub went_on : Book → Ran → ℕ → Book
went_on b ran events = record {
  from = b.from;
  to = events;
  steps = min (b.steps + ran.steps) (2 ^ 64 - 1);
  last = Some ran.stop;
}

-- The book after an order with this reply; so many events there were then.
abbrev pub entered : Option Book → Reply → ℕ → Option Book
entered b (Ok (done.Loaded n)) events = Some (begun events)
entered None (Ok done.Restarted) events = None
entered (Some b) (Ok done.Restarted) events = Some (begun events)
entered None (Ok (done.Ran ran)) events = None
entered (Some b) (Ok (done.Ran ran)) events = Some (went_on b ran events)
entered b (Ok done.Unloaded) events = b
entered b (Err denial) events = b
