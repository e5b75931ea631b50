-- What an hour leaves: a book that matches.
use Rattle.std.proofs.Common.{◌≡◌, ℕ, ◌+◌, ◌<◌, ◌≤◌, min, Bool, true, false, not, ◌&&◌, eqb, leb, List, [], ◌∷◌, ◌++◌, length, get_or, take, drop, set, ℤ, pos, None, Ok, Err, Option, Result, sym, refl, ap, ◌∙◌, subst, append_assoc, arith, length-append, length-take, length-drop, length-set, Bor}
use Rattle.std.specs.Prelude.{if◌then◌else◌}
use lib.ListN.{length-replicate}
use Rattle.std.proofs.lemmas.List.{take_all, take_at, take-take, take_more, take_more_set, take-append-drop, length-take-le}
use Rattle.std.proofs.lemmas.Bool.{or_parts, not-false, eqb-true, leb-true}
use Rattle.refusal.specs.declared.Refusal.{Refusal}
use Rattle.port.specs.Ways.{Ways}
use Rattle.machine.specs.declared.instruction.Instruction.{Instruction}
use Rattle.machine.specs.Machine.{State, start}
use Rattle.machine.specs.Run.{Outcome, run_over, none}
use Rattle.machine.proofs.Runs.{joined, run_is_steps}
use Rattle.image.specs.Layout.{layout}
use Rattle.refusal.proofs.Faults.{passed_by, passed_if, passed_both}
use Rattle.image.specs.Reading.{code_of, length_fault, image_fault}
use Rattle.cabinet.specs.declared.Empty.{Empty}
use Rattle.cabinet.specs.declared.Loaded.{Loaded}
use Rattle.cabinet.specs.Calls.{load_reply, Loading, mismatched, Running, went, Restarting}
use Rattle.day.specs.declared.Cabinet.{Cabinet}
use Rattle.day.specs.declared.Cabinet.TheVariants.{Off, On}
use Rattle.day.specs.declared.Command.{Command}
use Rattle.day.specs.declared.Command.TheVariants.{Load, Run, Restart, Unload}
use Rattle.day.specs.declared.Order.{Order}
use Rattle.day.specs.Answers.{Reply, Setup, Answer, unfit, load_answer, run_reply, restart_reply, answer_by, slots_of, cells_of, front, whole, answer_order}
use Rattle.day.specs.Book.{Book, opened, continued, Entry, entry, fed, Reached}
use Rattle.day.specs.Book as book
use Rattle.day.specs.Day.{Holds, Matches, Told, with_port, Hour, Day, morning, later, Worked}

by_test : {A : Type 0} (P : A → Type 0) (b : Bool) (x y : A) → (b ≡ true → P x) → (b ≡ false → P y) → P (if b then x else y)
by_test P true x y f g = f refl
by_test P false x y f g = g refl

by_reply : {A : Type 0} (P : A → Type 0) (r : Result ℕ Refusal) (f : ℕ → A) (g : Refusal → A)
    → ((n : ℕ) → r ≡ Ok n → P (f n)) → ((e : Refusal) → r ≡ Err e → P (g e)) → P (elim r [ Ok n ↦ f n | Err e ↦ g e ])
by_reply P (Ok n) f g p q = p n refl
by_reply P (Err e) f g p q = q e refl

-- what a command must leave
abbrev Sound : {M : Type 0} → Ways M → Command → Order → Setup M → Option Book → Answer M → Type 0
Sound w c o s b a =
    let x : Entry _ = entry c a.reply (cells_of o s) s.port in
    Matches a.setup.cabinet a.setup (fed w x b) × Told w x b a.reply a.setup.port

front_length : {A : Type 0} (n : ℕ) (xs : List A) → length (take (min n (length xs)) xs) ≡ min n (length xs)
front_length n xs = length-take-le (min n (length xs)) xs (omega arith)

start_length : (n : ℕ) → length (start n).cells ≡ n
start_length n = length-set _ 0 _ ∙ length-replicate n (pos 0)

-- a granted load gives the number of the image's instructions, for which the code store has room
loaded_count : (image : List ℕ) (slots cells n : ℕ) → load_reply image slots cells ≡ Ok n
    → (n ≡ length (code_of layout image)) × (n ≤ slots)
loaded_count image slots cells n e =
    let size = length (code_of layout image) in
    let (_, sized) = passed_by (length_fault layout (length image)) _ n (sym e) in
    let (_, granted) = passed_if (leb 16 cells && leb cells 16384) _ _ n sized in
    let (_, room, count) = passed_both (image_fault layout image) (leb size slots) n size _ granted in
    let fits = leb-true size slots room in
    (count, omega arith)

opened_reached : (code : List Instruction) (n : ℕ) → Reached (opened code n)
opened_reached code n = record { steps = none; stop = tt }

continued_reached : {M : Type 0} (w : Ways M) (b : Book) (grant : ℕ) (m : M) → Reached b
    → Reached (continued b (run_over w b.code grant b.state m))
continued_reached w b grant m r =
    let t = run_is_steps w b.code grant b.state m in
    record { steps = joined r.steps t.way; stop = t.next }

load_sound : {M : Type 0} (w : Ways M) (e : Empty) (i : Bor (List ℕ)) (o : Order) (s : Setup M) (b : Option Book)
    → Sound w (Load i) o s b (whole o s (answer_by w (Off e) (Load i) (front o s)))
load_sound w e i o s b =
    let image : List ℕ = i.now in
    let code : List Instruction = (front o s).code in
    let memory : List ℤ = (front o s).memory in
    let size = front_length o.cells s.memory in
    by_reply (λ (a : Loading). Sound w (Load i) o s b (whole o s (load_answer a.result a.code a.memory s.port)))
    (load_reply image (length code) (length memory)) _ _
    (λ n granted.
    let counted = loaded_count image (length code) (length memory) n granted in
    let count : n ≡ length (code_of layout image) = counted.0 in (
      (
        opened (code_of layout image) (cells_of o s),
        refl,
        record {
          registers = refl;
          count = count;
          code = ap (take n) (append_assoc (code_of layout image) (drop n code) _) ∙ take_at (code_of layout image) _ n (sym count);
          cells = take_at (start (length memory)).cells _ (length memory) (start_length (length memory)) ∙ ap (λ d. (start d).cells) size;
          size = size;
          room = counted.1;
        },
        opened_reached (code_of layout image) (cells_of o s),
      ),
      tt,
    ))
    (λ refusal _. (tt, tt))

-- what an order leaves alone, put together again
kept_holds : (l : Loaded) (n k : ℕ) (store : List Instruction) (memory : List ℤ) (b : Book) → Holds l store memory b
    → Holds l (take n store ++ drop n store) (take k memory ++ drop k memory) b
kept_holds l n k store memory b h =
    subst (λ xs. Holds l xs (take k memory ++ drop k memory) b) (sym (take-append-drop n store))
    (subst (λ xs. Holds l store xs b) (sym (take-append-drop k memory)) h)

kept : {M : Type 0} (k : Cabinet) (o : Order) (s : Setup M) (b : Option Book) → Matches k s b
    → Matches k (whole o s (unfit (front o s))).setup b
kept (Off e) o s b h = tt
kept (On l) o s b h = (h.0, h.1, kept_holds l (slots_of o s) (cells_of o s) s.code s.memory h.0 h.2, h.3)

-- the fronts that were handed in are of load's lengths
same_lengths : (l : Loaded) (code : List Instruction) (memory : List ℤ) → mismatched l code memory ≡ false
    → (length code ≡ l.slots) × (length memory ≡ l.cells)
same_lengths l code memory e =
    let both = or_parts (not (eqb (length code) l.slots)) (not (eqb (length memory) l.cells)) e in
    (eqb-true _ _ (not-false _ both.0), eqb-true _ _ (not-false _ both.1))

left_length : (xs ys : List ℤ) (n k : ℕ) → n ≤ length ys → n ≡ k → length (xs ++ drop n ys) ≡ length ys → length xs ≡ k
left_length xs ys n k h e z = let u = length-append xs (drop n ys) in let v = length-drop n ys in omega arith

-- the cabinet's machine goes on as the book's does
run_sound : {M : Type 0} (w : Ways M) (l : Loaded) (grant : ℕ) (o : Order) (s : Setup M) (b : Option Book) → Matches (On l) s b
    → length (whole o s (answer_by w (On l) (Run grant) (front o s))).setup.memory ≡ length s.memory
    → Sound w (Run grant) o s b (whole o s (answer_by w (On l) (Run grant) (front o s)))
run_sound {M} w l grant o s b h kept-length =
    let code : List Instruction = (front o s).code in
    let memory : List ℤ = (front o s).memory in
    let p : Book = h.0 in
    let holds : Holds l s.code s.memory p = h.2 in
    let P : Running M → Type 0 = λ a.
    length (a.memory ++ drop (cells_of o s) s.memory) ≡ length s.memory
    → Sound w (Run grant) o s b (whole o s (record {
      reply = run_reply a.result;
      setup = record { cabinet = On a.cabinet; code = code; memory = a.memory; port = a.port };
    })) in
    by_test P (mismatched l code memory) _ _ (λ _ _. (kept (On l) o s b h, tt)) (λ same.
    by_test P (leb 1 grant && leb grant 1000000) _ _ (λ _ size.
    let lengths = same_lengths l code memory same in
    let cells : cells_of o s ≡ l.cells = sym (front_length o.cells s.memory) ∙ lengths.1 in
    let state : ◌≡◌ {A = State} (record { registers = l.registers; cells = memory }) p.state =
    ap (λ xs. record { registers = xs; cells = memory }) holds.registers
    ∙ ap (λ xs. record { registers = p.state.registers; cells = xs }) (ap (λ n. take n s.memory) cells ∙ holds.cells) in
    let slots = front_length o.slots s.code in
    let fits : l.count ≤ slots_of o s = omega (arith, lengths.0, holds.room) in
    let same_code : take l.count code ≡ p.code = take-take l.count (slots_of o s) s.code fits ∙ holds.code in
    let G : Outcome M = run_over w p.code grant p.state s.port in
    let goes : run_over w (take l.count code) grant (record { registers = l.registers; cells = memory }) s.port ≡ G =
    ap (λ c. run_over w c grant (record { registers = l.registers; cells = memory }) s.port) same_code
    ∙ ap (λ k. run_over w p.code grant k s.port) state in
    subst (λ x. P (went l x)) (sym goes) (λ long. (
      (
        continued p G,
        ap (fed w (book.run grant s.port)) h.1,
        record {
          registers = refl;
          count = holds.count;
          code = subst (λ xs. take l.count xs ≡ p.code) (sym (take-append-drop (slots_of o s) s.code)) holds.code;
          cells = take_at G.state.cells _ l.cells
              (left_length G.state.cells s.memory (cells_of o s) l.cells (omega arith) cells long);
          size = holds.size;
          room = holds.room;
        },
        continued_reached w p grant s.port h.3,
      ),
      (p, h.1, refl, refl),
    )) size)
    (λ _ _. (kept (On l) o s b h, tt))) kept-length

restart_sound : {M : Type 0} (w : Ways M) (l : Loaded) (o : Order) (s : Setup M) (b : Option Book) → Matches (On l) s b
    → Sound w Restart o s b (whole o s (answer_by w (On l) Restart (front o s)))
restart_sound w l o s b h =
    let code : List Instruction = (front o s).code in
    let memory : List ℤ = (front o s).memory in
    let p : Book = h.0 in
    let holds : Holds l s.code s.memory p = h.2 in
    let P : Restarting → Type 0 = λ a. Sound w Restart o s b (whole o s (record {
      reply = restart_reply a.result;
      setup = record { cabinet = On a.cabinet; code = code; memory = a.memory; port = s.port };
    })) in
    by_test P (mismatched l code memory) _ _ (λ _. (kept (On l) o s b h, tt)) (λ same.
    let lengths = same_lengths l code memory same in (
      (
        opened p.code p.size,
        ap (fed w book.restart) h.1,
        record {
          registers = refl;
          count = holds.count;
          code = subst (λ xs. take l.count xs ≡ p.code) (sym (take-append-drop (slots_of o s) s.code)) holds.code;
          cells = take_at (start (length memory)).cells _ l.cells (start_length (length memory) ∙ lengths.1)
              ∙ ap (λ d. (start d).cells) (lengths.1 ∙ holds.size);
          size = holds.size;
          room = holds.room;
        },
        opened_reached p.code p.size,
      ),
      tt,
    ))

-- a command that the state does not have
unfit_sound : {M : Type 0} (w : Ways M) (k : Cabinet) (c : Command) (o : Order) (s : Setup M) (b : Option Book) → Matches k s b
    → s.cabinet ≡ k → Sound w c o s b (whole o s (unfit (front o s)))
unfit_sound w k c o s b h e = (subst (λ q. Matches q (whole o s (unfit (front o s))).setup b) (sym e) (kept k o s b h), tt)

sound : {M : Type 0} (w : Ways M) (k : Cabinet) (c : Command) (o : Order) (s : Setup M) (b : Option Book) → Matches k s b → s.cabinet ≡ k
    → length (whole o s (answer_by w k c (front o s))).setup.memory ≡ length s.memory
    → Sound w c o s b (whole o s (answer_by w k c (front o s)))
sound w (Off e) (Load i) o s b h z n = load_sound w e i o s b
sound w (Off e) (Run m) o s b h z n = unfit_sound w (Off e) (Run m) o s b h z
sound w (Off e) Restart o s b h z n = unfit_sound w (Off e) Restart o s b h z
sound w (Off e) Unload o s b h z n = unfit_sound w (Off e) Unload o s b h z
sound w (On l) (Load i) o s b h z n = unfit_sound w (On l) (Load i) o s b h z
sound w (On l) (Run m) o s b h z n = run_sound w l m o s b h n
sound w (On l) Restart o s b h z n = restart_sound w l o s b h
sound w (On l) Unload o s b h z n = (tt, tt)

moved : {M : Type 0} (k : Cabinet) (s : Setup M) (m : M) (b : Option Book) → Matches k s b → Matches k (with_port s m) b
moved (Off e) s m b h = h
moved (On l) s m b h = h

pub hour : {M O P : Type 0} (w : Ways M) (meaning : P → M) (touched : O → P → O → P → Type 0) (c : Order) (o : O) (p : P) (s : Setup M)
    (b : Option Book) (r : Reply) (o' : O) (p' q : P) (s' : Setup M)
    → Matches s.cabinet s b → touched o p o' q → record { reply = r; setup = s' } ≡ answer_order w c (with_port s (meaning q))
    → length s'.memory ≡ length s.memory → meaning p' ≡ s'.port
    → Hour w meaning touched c o p s b r o' p' s' (fed w (entry c.command r (cells_of c s) (meaning q)) b)
hour w meaning touched c o p s b r o' p' q s' matches touch answers size port =
    let here = with_port s (meaning q) in
    let done : Sound w c.command c here b (record { reply = r; setup = s' }) =
    subst (λ a. Sound w c.command c here b a) (sym answers)
    (sound w s.cabinet c.command c here b (moved s.cabinet s (meaning q) b matches) refl
    (ap (λ (a : Answer _). length a.setup.memory) (sym answers) ∙ size)) in
    record { between = q; others = touch; answers = answers; port = port; book = refl; told = done.1; matches = done.0 }

-- the book matches at each hour of a day that began empty
pub matched : {M O P : Type 0} {w : Ways M} {meaning : P → M} {touched : O → P → O → P → Type 0} {o₀ o : O} {p₀ p : P} {s₀ s : Setup M}
    {cs : List Order} {rs : List Reply} {b : Option Book}
    → Matches s₀.cabinet s₀ None → Day w meaning touched o₀ p₀ s₀ cs rs o p s b → Matches s.cabinet s b
matched z morning = z
matched z (later day one) = one.matches

pub longer : {M O P : Type 0} {w : Ways M} {meaning : P → M} {touched : O → P → O → P → Type 0} {o₀ o o' : O} {p₀ p p' : P}
    {s₀ s s' : Setup M} {b b' : Option Book} (cs : List Order) (rs : List Reply) (i : ℕ) (z : Order) (r : Reply)
    → i < length cs → i < length rs → Day w meaning touched o₀ p₀ s₀ (take i cs) (take i rs) o p s b
    → Hour w meaning touched (get_or cs i z) o p s b r o' p' s' b'
    → Day w meaning touched o₀ p₀ s₀ (take (i + 1) cs) (take (i + 1) (set rs i r)) o' p' s' b'
longer {w = w} {meaning} {touched} {o₀} {o' = o'} {p₀} {p' = p'} {s₀} {s' = s'} {b' = b'} cs rs i z r l k day one =
    subst (λ x. Day w meaning touched o₀ p₀ s₀ x (take (i + 1) (set rs i r)) o' p' s' b') (sym (take_more cs i z l))
    (subst (λ x. Day w meaning touched o₀ p₀ s₀ (take i cs ++ (get_or cs i z ∷ [])) x o' p' s' b') (sym (take_more_set rs i r k)) (later day one))

-- a day through all the orders for which there is room
pub worked : {M O P : Type 0} {w : Ways M} {meaning : P → M} {touched : O → P → O → P → Type 0} {o₀ o : O} {p₀ p : P} {s₀ s : Setup M}
    {b : Option Book} (cs : List Order) (rs rs' : List Reply) (n i : ℕ) → n ≡ min (length cs) (length rs)
    → i ≤ length (take n cs) → length (take n cs) ≤ i → drop i rs' ≡ drop i rs
    → Day w meaning touched o₀ p₀ s₀ (take i (take n cs)) (take i rs') o p s b
    → Worked w meaning touched o₀ p₀ s₀ cs rs rs' o p s
worked {w = w} {meaning} {touched} {o₀} {o} {p₀} {p} {s₀} {s} {b} cs rs rs' n i count low high rest day =
    let few = length-take n cs in
    let all : i ≡ n = omega (arith, few) in
    let whole : take i (take n cs) ≡ take n cs = take_all i (take n cs) high in
    record {
      book = b;
      day =
          subst (λ k. Day w meaning touched o₀ p₀ s₀ (take k cs) (take k rs') o p s b) count
          (subst (λ k. Day w meaning touched o₀ p₀ s₀ (take n cs) (take k rs') o p s b) all
          (subst (λ xs. Day w meaning touched o₀ p₀ s₀ xs (take i rs') o p s b) whole day));
      rest = subst (λ k. drop k rs' ≡ drop k rs) (all ∙ count) rest;
    }
