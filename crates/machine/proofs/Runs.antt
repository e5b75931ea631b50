-- A run by its first act, the steps that it made, and runs one after another.
use Rattle.std.proofs.Common.{◌≡◌, ℕ, zero, suc, ◌+◌, Bool, true, false, if◌then◌else◌, List, [], ◌∷◌, ◌++◌, ℤ, Some, None, Option, refl, ap, ◌∙◌, append_assoc, add_assoc, suc-add, zero-add, one-add, arith, w32}
use Rattle.std.proofs.lemmas.Int.{SFits-int_wrap}
use Rattle.word.specs.Arithmetic.{word}
use Rattle.port.specs.Ways.{Ways}
use Rattle.machine.specs.declared.instruction.Instruction.{Instruction}
use Rattle.machine.specs.declared.stop.Stop.{Stop}
use Rattle.machine.specs.declared.stop.Stop.TheVariants.{Waiting, Blocked, Spent}
use Rattle.machine.specs.Machine.{State, Cause, halt, divisor, address, place, Act, silent, takes, puts, stops, act}
use Rattle.machine.specs.Run.{Event, took, gave, Steps, none, silently, taking, giving, stop_of, Turn, ends, goes, turn}
use Rattle.machine.specs.Run.{events_of, Outcome, ended, after, run_over, Next}
use Rattle.machine.specs.Laws.{Made, RunIsSteps, GrantsAdd}

-- ---- the first act

module _ {M : Type 0} (w : Ways M) (code : List Instruction) where
  -- what the first turn makes of a run of one more than n steps
  abbrev on : ℕ → State → M → Turn M → List Event → Outcome M
  on n s m t es = elim t [ ends x ↦ ended x s m | goes s' m' ↦ after 1 es (run_over w code n s' m') ]

  pub run_zero : (s : State) (m : M) → run_over w code 0 s m ≡ ended Spent s m
  unfolding run_over
  run_zero s m = refl

  run_suc : (n : ℕ) (s : State) (m : M)
      → run_over w code (suc n) s m ≡ on n s m (turn w (act code s) m) (events_of w (act code s) m)
  unfolding run_over
  run_suc n s m = refl

  pub run_ends : (n : ℕ) (s : State) (m : M) (x : Stop) → turn w (act code s) m ≡ ends x
      → run_over w code (suc n) s m ≡ ended x s m
  run_ends n s m x e = run_suc n s m ∙ ap (λ t. on n s m t (events_of w (act code s) m)) e

  pub run_goes : (n : ℕ) (s : State) (m : M) (s' : State) (m' : M) → turn w (act code s) m ≡ goes s' m'
      → run_over w code (suc n) s m ≡ after 1 (events_of w (act code s) m) (run_over w code n s' m')
  run_goes n s m s' m' e = run_suc n s m ∙ ap (λ t. on n s m t (events_of w (act code s) m)) e

-- ---- the steps made

-- Steps one after another.
pub joined : {code : List Instruction} {s t u : State} {n k : ℕ} {es fs : List Event}
    → Steps code s n es t → Steps code t k fs u → Steps code s (n + k) (es ++ fs) u
joined none r = rw zero-add r
joined (silently e q) r = rw suc-add (silently e (joined q r))
joined (taking e v fits q) r = rw suc-add (taking e v fits (joined q r))
joined (giving e q) r = rw suc-add (giving e (joined q r))

halted : (a : Act) (c : Cause) → a ≡ stops c → Next a (stop_of c)
halted a (halt r) e = e
halted a divisor e = e
halted a address e = e
halted a place e = e

not_spent : (c : Cause) → stop_of c ≡ Spent → ⊥
not_spent (halt r) e = cc
not_spent divisor e = cc
not_spent address e = cc
not_spent place e = cc

module _ {M : Type 0} (code : List Instruction) (s : State) (n : ℕ) where
  stays : (m : M) (x : Stop) → Next (act code s) x → (x ≡ Spent → ⊥) → Made code s (suc n) (ended x s m)
  stays m x next other = record {
    way = none;
    next = next;
    at_most = omega arith;
    spent = λ e. absurd (other e);
    full = λ e. absurd (omega arith);
  }

  -- an outcome that is reached after one more step
  later : (t : State) (es : List Event) (o : Outcome M)
      → ((k : ℕ) (fs : List Event) (u : State) → Steps code t k fs u → Steps code s (suc k) (es ++ fs) u)
      → Made code t n o → Made code s (suc n) (after 1 es o)
  later t es o first r = record {
    way = rw one-add (first o.steps o.events o.state r.way);
    next = r.next;
    at_most = omega (arith, r.at_most);
    spent = λ e. omega (arith, r.spent e);
    full = λ e. r.full (omega arith);
  }

module _ {M : Type 0} (w : Ways M) (code : List Instruction) (n : ℕ) (s : State) (m : M)
    (ih : (t : State) (k : M) → Made code t n (run_over w code n t k)) where
  reached_take : (f : ℤ → State) → act code s ≡ takes f → (o : Option ℤ)
      → Made code s (suc n) (on w code n s m
      (elim o [ Some v ↦ goes (f (word v)) (w.taken m) | None ↦ ends Waiting ])
      (elim o [ Some v ↦ took (word v) ∷ [] | None ↦ [] ]))
  reached_take f e None = stays code s n m Waiting (f, e) (λ same. cc)
  reached_take f e (Some v) =
      later code s n (f (word v)) (took (word v) ∷ []) _ (λ k fs u. taking e (word v) (SFits-int_wrap w32 v))
      (ih (f (word v)) (w.taken m))

  reached_put : (v : ℤ) (t : State) → act code s ≡ puts v t → (b : Bool)
      → Made code s (suc n) (on w code n s m (if b then goes t (w.became m v) else ends (Blocked v)) (gave v ∷ []))
  reached_put v t e false = stays code s n m (Blocked v) (t, e) (λ same. cc)
  reached_put v t e true = later code s n t (gave v ∷ []) _ (λ k fs u. giving e) (ih t (w.became m v))

  reached_act : (a : Act) → act code s ≡ a → Made code s (suc n) (on w code n s m (turn w a m) (events_of w a m))
  reached_act (silent t) e = later code s n t [] _ (λ k fs u. silently e) (ih t m)
  reached_act (takes f) e = reached_take f e (w.waiting m)
  reached_act (puts v t) e = reached_put v t e (w.accepts m v)
  reached_act (stops c) e = stays code s n m (stop_of c) (halted (act code s) c e) (not_spent c)

pub run_is_steps : {M : Type 0} (w : Ways M) (code : List Instruction) → RunIsSteps w code
run_is_steps w code zero s m = rw run_zero (record {
  way = none;
  next = tt;
  at_most = omega arith;
  spent = λ e. refl;
  full = λ e. refl;
})
run_is_steps w code (suc n) s m = rw run_suc (reached_act w code n s m (run_is_steps w code n) (act code s) refl)

-- ---- grants one after another

after_none : {M : Type 0} (o : Outcome M) → o ≡ after 0 [] o
after_none o = rw (zero-add o.steps)

after_after : {M : Type 0} (n k : ℕ) (es fs : List Event) (o : Outcome M) → after n es (after k fs o) ≡ after (n + k) (es ++ fs) o
after_after n k es fs o = rw (add_assoc n k o.steps, append_assoc es fs o.events)

module _ {M : Type 0} (w : Ways M) (code : List Instruction) where
  -- a run, and a run of at most h steps from what it left
  abbrev followed : ℕ → Outcome M → Outcome M
  followed h o = after o.steps o.events (run_over w code h o.state o.port)

  add_turn : (g h : ℕ) (s : State) (m : M)
      → ((t : State) (k : M) → (run_over w code g t k).stop ≡ Spent
      → run_over w code (g + h) t k ≡ followed h (run_over w code g t k))
      → (run_over w code (suc g) s m).stop ≡ Spent → (t : Turn M) → turn w (act code s) m ≡ t
      → run_over w code (suc g + h) s m ≡ followed h (run_over w code (suc g) s m)
  add_turn g h s m ih spent (ends x) e =
      let all : (run_over w code (suc g) s m).steps ≡ suc g = (run_is_steps w code (suc g) s m).spent spent in
      let some : (run_over w code (suc g) s m).steps ≡ 0 = ap (λ o. o.steps) (run_ends w code g s m x e) in
      absurd (omega arith)
  add_turn g h s m ih spent (goes t k) e =
      let es : List Event = events_of w (act code s) m in
      let o : Outcome M = run_over w code g t k in
      let first : run_over w code (suc g) s m ≡ after 1 es o = run_goes w code g s m t k e in
      let left : o.stop ≡ Spent = rw first at spent in
      rw (suc-add, first, run_goes w code (g + h) s m t k e)
      (ap (after 1 es) (ih t k left) ∙ after_after 1 o.steps es o.events (run_over w code h o.state o.port))

pub grants_add : {M : Type 0} (w : Ways M) (code : List Instruction) → GrantsAdd w code
grants_add w code zero h s m spent = rw (zero-add, run_zero) (after_none (run_over w code h s m))
grants_add w code (suc g) h s m spent =
    add_turn w code g h s m (λ t k. grants_add w code g h t k) spent (turn w (act code s) m) refl
