use Rattle.std.specs.Prelude.{◌≡◌, ℕ, ◌+◌, ◌≤◌, List}
use Rattle.port.specs.Ways.{Ways}
use Rattle.machine.specs.declared.instruction.Instruction.{Instruction}
use Rattle.machine.specs.declared.stop.Stop.TheVariants.{Spent}
use Rattle.machine.specs.Machine.{State, act}
use Rattle.machine.specs.Run.{Steps, Outcome, after, run_over, Next}

-- An outcome is reached by its steps with its events, and its stop stands next.
-- The grant n is spent exactly when so many steps are made.
pub record Made {M : Type 0} (code : List Instruction) (s : State) (n : ℕ) (o : Outcome M) : Type 0 where
  pub way : Steps code s o.steps o.events o.state
  pub next : Next (act code o.state) o.stop
  pub at_most : o.steps ≤ n
  pub spent : o.stop ≡ Spent → o.steps ≡ n
  pub full : o.steps ≡ n → o.stop ≡ Spent

abbrev pub RunIsSteps : {M : Type 0} → Ways M → List Instruction → Type 0
RunIsSteps {M} w code = (n : ℕ) (s : State) (m : M) → Made code s n (run_over w code n s m)

-- After a grant g that was spent, a grant h goes on as one grant of both would.
abbrev pub GrantsAdd : {M : Type 0} → Ways M → List Instruction → Type 0
GrantsAdd {M} w code = (g h : ℕ) (s : State) (m : M) →
    let o : Outcome M = run_over w code g s m in
    o.stop ≡ Spent → run_over w code (g + h) s m ≡ after o.steps o.events (run_over w code h o.state o.port)
