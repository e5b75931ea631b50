use Rattle.std.proofs.Common.{◌+◌, ◌<◌, ◌∙◌, length, take, None, refl, arith, length-take, rules}
use Rattle.std.proofs.lemmas.Grind.{drop_more_same}
use Rattle.std.proofs.lemmas.List.{drop-set-lt}
use Rattle.day.specs.Day.{morning}
use Rattle.day.proofs.Hours.{hour, matched, longer, worked}
use Rattle.day.proofs.work.Goals as goal

pub loop-i-init : goal.loop-i-init
loop-i-init g c = (omega arith, refl, None, morning)

pub loop-i-preserved : goal.loop-i-preserved
loop-i-preserved g c =
    let l = c.loop-i in
    let orders = take c.min-count.result c.args.orders.now in
    let few = length-take c.min-count.result c.args.orders.now in
    let inner : l.i < length orders = c.loop-i-test.true in
    let room : l.i < length l.replies = omega (arith, few, c.min-count.ensures, l.auto.replies, inner) in
    let r = c.obey_order-answered.result.reply in
    let one = hour g.P.Port.ways g.P.Port.meaning g.O.Others.touched _ l.others l.port _ l.invariant.2 r _ _ _ _
    (matched tt l.invariant.3) c.touch.ensures c.obey_order-answered.ensures (search rules) refl in (
      omega (arith, inner),
      drop-set-lt (l.i + 1) l.replies l.i r (omega arith) ∙ drop_more_same l.replies c.args.replies.now l.i l.invariant.1,
      _,
      longer orders l.replies l.i _ r inner room l.invariant.3 one,
    )

pub returns : goal.returns
returns g c =
    let l = c.loop-i in
    worked c.args.orders.now c.args.replies.now l.replies c.min-count.result l.i c.min-count.ensures l.invariant.0 (omega arith)
    l.invariant.1 l.invariant.3
