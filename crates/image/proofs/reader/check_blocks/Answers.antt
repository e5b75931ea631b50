use Rattle.std.proofs.Common.{◌≡◌, length, drop, None, Ok, Err, sym, ap, ◌∙◌, arith}
use Rattle.std.proofs.lemmas.List.{at_drop_all}
use Rattle.std.proofs.lemmas.Result.{err_from_is_err_and}
use Rattle.refusal.specs.Faults.{unless}
use Rattle.image.specs.Layout.{layout}
use Rattle.image.specs.Reading.{first_fault, content}
use Rattle.image.proofs.Scan.{Passed, stops, passes, all_few}
use Rattle.image.proofs.reader.check_blocks.Goals as goal
use Rattle.image.proofs.reader.check_blocks.Goals.{In_ok-total}

pub returns-in_err-total-clause-reply : goal.returns-in_err-total-clause-reply
returns-in_err-total-clause-reply c =
    let p = err_from_is_err_and c.from_residual.result c.from_residual.ensures.1 in
    let blocks = c.args.blocks.now in
    let refused = rw c.new-label.ensures at c.in_err-total.ensures in
    let stop = stops layout c.args.number (length blocks) blocks c.loop-index.index c.loop-index-test.true c.in_err-total.field-0.0 _ refused in
    p.1 ∙ ap Err p.2 ∙ sym (ap (λ f. unless f (Ok (length (content layout blocks)))) (sym c.loop-index.invariant.faults ∙ stop))

passed : (c : In_ok-total)
    → Passed layout c.args.number (length c.args.blocks.now) c.args.blocks.now c.loop-index.index c.loop-index-test.true c.in_ok-total.field-0
passed c =
    passes layout c.args.number (length c.args.blocks.now) c.args.blocks.now c.loop-index.index c.loop-index-test.true c.in_ok-total.field-0
    (rw c.new-label.ensures at c.in_ok-total.ensures)

pub overflow_add-total : goal.overflow_add-total
overflow_add-total c =
    let here = passed (goal.at.overflow_add-total c).In_ok-total in
    omega (arith, here.few_here, c.loop-index.invariant.few)

pub loop-index-preserved : goal.loop-index-preserved
loop-index-preserved c =
    let here = passed (goal.at.loop-index-preserved c).In_ok-total in
    record {
      faults = here.onward ∙ c.loop-index.invariant.faults;
      counted = omega (arith, here.counted, c.loop-index.invariant.counted);
      few = omega (arith, here.few_here, c.loop-index.invariant.few);
    }

pub returns-clause-few : goal.returns-clause-few
returns-clause-few c =
    let blocks = c.args.blocks.now in
    let n = length blocks in
    let none : first_fault layout c.args.number n c.loop-index.index (drop c.loop-index.index blocks) ≡ None =
    at_drop_all (first_fault layout c.args.number n c.loop-index.index) blocks c.loop-index.index c.loop-index-test.false in
    all_few layout c.args.number n 0 blocks (sym c.loop-index.invariant.faults ∙ none)
