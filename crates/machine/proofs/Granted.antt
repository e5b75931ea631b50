-- A run over its grant, step by step.
use Rattle.std.proofs.Common.{◌≡◌, ℕ, suc, ◌+◌, ◌-◌, ◌<◌, List, [], add_assoc, arith}
use Rattle.std.proofs.Math.Nat.{add-zero}
use Rattle.port.specs.Ways.{Ways}
use Rattle.machine.specs.declared.instruction.Instruction.{Instruction}
use Rattle.machine.specs.declared.stop.Stop.{Stop}
use Rattle.machine.specs.declared.stop.Stop.TheVariants.{Spent}
use Rattle.machine.specs.Machine.{State, act}
use Rattle.machine.specs.Run.{ends, goes, turn, after, run_over, told}
use Rattle.machine.proofs.Runs.{run_zero, run_ends, run_goes}

-- so many steps are made, and with what the rest of the grant makes they are the whole run
pub record Reached {M : Type 0} (w : Ways M) (code : List Instruction) (grant : ℕ) (s : State) (m : M) (steps : ℕ) (t : State) (k : M) : Type 0 where
  pub rest : told (after steps [] (run_over w code (grant - steps) t k)) ≡ told (run_over w code grant s m)

module _ {M : Type 0} {w : Ways M} {code : List Instruction} {grant : ℕ} {s : State} {m : M} where
  pub reached_more : (steps : ℕ) (t u : State) (k l : M) → steps < grant → turn w (act code t) k ≡ goes u l
      → Reached w code grant s m steps t k → Reached w code grant s m (steps + 1) u l
  reached_more steps t u k l more step so_far =
      let j : ℕ = grant - (steps + 1) in
      let left : grant - steps ≡ suc j = omega arith in
      record { rest = rw add_assoc (rw (left, run_goes w code j t k u l step) at so_far.rest) }

  pub reached_stop : (steps : ℕ) (x : Stop) (t : State) (k : M) → steps < grant → turn w (act code t) k ≡ ends x
      → Reached w code grant s m steps t k
      → record { stop = x; steps = steps; state = t; port = k } ≡ told (run_over w code grant s m)
  reached_stop steps x t k more stop so_far =
      let j : ℕ = grant - (steps + 1) in
      let left : grant - steps ≡ suc j = omega arith in
      rw (left, run_ends w code j t k x stop, add-zero steps) at so_far.rest

  pub reached_grant : (steps : ℕ) (t : State) (k : M) → steps ≡ grant → Reached w code grant s m steps t k
      → record { stop = Spent; steps = steps; state = t; port = k } ≡ told (run_over w code grant s m)
  reached_grant steps t k all so_far =
      let left : grant - steps ≡ 0 = omega arith in
      rw (left, run_zero w code t k, add-zero steps) at so_far.rest
