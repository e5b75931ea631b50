-- A turn of the machine: what stands at its place, what a port gave, and a stop.
use Rattle.std.proofs.Common.{◌≡◌, ℕ, true, List, length, get_or, ℤ, pos, nat_abs, Some, Ok, Err, Result, is_err, sym, ap, ◌∙◌, set-set, arith}
use Rattle.std.proofs.lemmas.List.{set-get_or}
use Rattle.word.specs.Arithmetic.{word, sum}
use Rattle.port.specs.Ways.{Ways, Took}
use Rattle.machine.specs.declared.instruction.Instruction.{Instruction}
use Rattle.machine.specs.declared.op.Op.{Op}
use Rattle.machine.specs.declared.stop.Stop.{Stop}
use Rattle.machine.specs.Op.{op_number}
use Rattle.machine.specs.Form.{formed}
use Rattle.machine.specs.Machine.{State, takes, register, with_register, within, blank, act_of, act}
use Rattle.machine.specs.Run.{goes, turn}
use Rattle.machine.specs.Loop.{Stepped, ActsAt}

-- an instruction that stands in the code and has the form
pub stands : (code : List Instruction) (p : ℤ) (k : ℕ) (op : Op) → k ≡ nat_abs p → within p (length code) ≡ true
    → op_number op ≡ (get_or code k blank).op → formed (get_or code k blank) ≡ true
    → ActsAt code p op (get_or code k blank)
unfolding act
stands code p k op is inside number form = record {
  registers = record { r = grind arith; s = grind arith; t = grind arith };
  acts = λ s at. rw (number, is, at, inside, ← is, form);
}

module _ {M : Type 0} (w : Ways M) (m : M) where
  -- a number that the port gave is taken
  pub take_goes : (f : ℤ → State) (v : ℤ) (k : M) → Took w m (Some v) k → turn w (takes f) m ≡ goes (f (word v)) k
  take_goes f v k t = grind arith

  -- a stop changes nothing, once register 7 is put back
  pub stopped : {code : List Instruction} {op : Op} {i : Instruction} (s : State) (p n : ℤ) (r : Result (Unit {0}) Stop) (t : State) (k : M)
      → ActsAt code p op i → register s 7 ≡ p → n ≡ sum p (pos 1) → is_err r ≡ true
      → Stepped w (act_of true (op_number op) i (with_register s 7 n)) (with_register s 7 n) m r t k
      → Stepped w (act code s) s m r (with_register t 7 p) k
  stopped s p n (Ok _) t k there at next failed h = cc
  stopped {code} {op} {i} s p n (Err x) t k there at next failed h =
      let same : act code s ≡ act_of true (op_number op) i (with_register s 7 n) =
      there.acts s at ∙ ap (λ q. act_of true (op_number op) i (with_register s 7 q)) (sym next) in
      (ap (λ a. turn w a m) same ∙ h.0, rw (h.1, set-set, ← at, set-get_or), h.2)
