use Rattle.std.proofs.Common.{◌≡◌, ◌≤◌, length, take, drop, Option}
use Rattle.day.specs.Book.{Book}
use Rattle.day.specs.Day.{Day}
use Rattle.day.proofs.work.Given as goal

abbrev pub invariant-loop-i : goal.invariant-loop-i
invariant-loop-i g l = (l.i ≤ length l.order-items)
    × (drop l.i l.replies ≡ drop l.i l.initial.replies)
    × (b : Option Book)
    × Day g.P.Port.ways g.P.Port.meaning g.O.Others.touched l.initial.others l.initial.port
    (record { cabinet = l.initial.cabinet; code = l.initial.code; memory = l.initial.memory; port = g.P.Port.meaning l.initial.port })
    (take l.i l.order-items) (take l.i l.replies) l.others l.port
    (record { cabinet = l.cabinet; code = l.code; memory = l.memory; port = g.P.Port.meaning l.port }) b
