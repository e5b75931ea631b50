use Rattle.machine.specs.Loop.{store_state, SameMemory}
use Rattle.machine.proofs.Granted.{Reached}
use Rattle.machine.proofs.grant.run.Given as goal

abbrev pub invariant-loop-steps : goal.invariant-loop-steps
invariant-loop-steps g l = record {
  reached : Reached g.P.Port.ways l.code l.grant
      (store_state l.initial.store) (g.P.Port.meaning l.initial.port)
      l.steps (store_state l.store) (g.P.Port.meaning l.port);
  memory : SameMemory l.initial.store l.store;
}
