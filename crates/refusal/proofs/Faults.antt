-- What an answer shows of the faults and the tests that it passed.
use Rattle.std.proofs.Common.{◌≡◌, Bool, true, false, cond, Some, None, Ok, Err, Option, Result, refl}
use Rattle.refusal.specs.declared.Refusal.{Refusal}
use Rattle.refusal.specs.Faults.{unless, or_else}

pub refused_by : {X : Type 0} (f : Option Refusal) (e : Refusal) (x : X) → Err e ≡ unless f (Ok x) → f ≡ Some e
refused_by None e x h = absurd (cc)
refused_by (Some f) e x h = cc

pub passed_by : {X : Type 0} (f : Option Refusal) (answer : Result X Refusal) (x : X) → Ok x ≡ unless f answer
    → (f ≡ None) × (Ok x ≡ answer)
passed_by None answer x h = (refl, h)
passed_by (Some f) answer x h = absurd (cc)

pub passed_if : {X : Type 0} (b : Bool) (answer : Result X Refusal) (e : Refusal) (x : X) → Ok x ≡ cond b answer (Err e)
    → (b ≡ true) × (Ok x ≡ answer)
passed_if true answer e x h = (refl, h)
passed_if false answer e x h = absurd (cc)

-- a fault and then one test
pub passed_both : {X : Type 0} (f : Option Refusal) (b : Bool) (x y : X) (e : Refusal) → Ok x ≡ unless f (cond b (Ok y) (Err e))
    → (f ≡ None) × (b ≡ true) × (x ≡ y)
passed_both f b x y e h =
    let (clean, tested) = passed_by f (cond b (Ok y) (Err e)) x h in
    let (true_is, same) = passed_if b (Ok y) e x tested in
    (clean, true_is, cc same)

pub or_else_none : (f g : Option Refusal) → or_else f g ≡ None → (f ≡ None) × (g ≡ None)
or_else_none None g h = (refl, h)
or_else_none (Some f) g h = absurd (cc)
