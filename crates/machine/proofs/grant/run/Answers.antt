use Rattle.std.proofs.Common.{arith, rules}
use Rattle.machine.proofs.Runs.{run_is_steps, grants_add}
use Rattle.machine.proofs.Granted.{reached_more, reached_stop, reached_grant}
use Rattle.machine.proofs.grant.run.Goals as goal

pub loop-steps-preserved : goal.loop-steps-preserved
loop-steps-preserved g c = record {
  reached = reached_more c.loop-steps.steps _ _ _ _ (omega arith) c.in_default.ensures.stepped c.loop-steps.invariant.reached;
  memory = search rules;
}

pub returns-in-Err-clause-outcome : goal.returns-in-Err-clause-outcome
returns-in-Err-clause-outcome g c =
    let told = reached_stop c.loop-steps.steps c.in-Err.stop _ _ (omega arith) c.in-Err.ensures.stepped.0 c.loop-steps.invariant.reached in
    let same = c.in-Err.ensures.memory in
    let state = c.in-Err.ensures.stepped.1 in
    search rules

pub returns-in-Err-clause-laws : goal.returns-in-Err-clause-laws
returns-in-Err-clause-laws g c = (run_is_steps g.P.Port.ways c.args.code.now, grants_add g.P.Port.ways c.args.code.now)

pub returns-clause-outcome : goal.returns-clause-outcome
returns-clause-outcome g c =
    let told = reached_grant c.loop-steps.steps _ _ (omega arith) c.loop-steps.invariant.reached in
    search rules

pub returns-clause-laws : goal.returns-clause-laws
returns-clause-laws g c = (run_is_steps g.P.Port.ways c.args.code.now, grants_add g.P.Port.ways c.args.code.now)
