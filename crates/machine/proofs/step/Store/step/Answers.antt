use Rattle.std.proofs.Common.{◌≡◌, arith, rules, true, Some, is_err, w32, SFits, sym, ◌∙◌, subst}
use Rattle.std.proofs.lemmas.Int.{to_z-of_z}
use Rattle.machine.specs.Machine.{State, register}
use Rattle.machine.specs.Loop.{store_state, Fetched}
use Rattle.machine.proofs.Turns.{stopped}
use Rattle.machine.proofs.step.Store.step.Goals as goal

pub returns-then-is_err-clause-stepped : goal.returns-then-is_err-clause-stepped
returns-then-is_err-clause-stepped g c =
    let s : State = store_state c.args.self.now in
    let place : SFits w32 (register s 7) = search rules in
    let next : SFits w32 c.add.result = search rules in
    let failed : is_err c.perform-result.result ≡ true = grind arith in
    let there = subst (Fetched c.args.code.now _) {y = Some (c.in_ok-op.op, c.in_ok-op.i)} c.in_ok-op.ensures.ok_part c.fetch.ensures in
    let stopped_there = stopped g.P.Port.ways _ s _ _ _ _ _ there
    (sym (to_z-of_z w32 (register s 7) place)) (to_z-of_z w32 c.add.result next ∙ c.add.ensures)
    failed c.perform-result.ensures.stepped in
    search rules

pub returns-else-is_err-clause-stepped : goal.returns-else-is_err-clause-stepped
returns-else-is_err-clause-stepped g c =
    let there = subst (Fetched c.args.code.now _) {y = Some (c.in_ok-op.op, c.in_ok-op.i)} c.in_ok-op.ensures.ok_part c.fetch.ensures in
    search rules
