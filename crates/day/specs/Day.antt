use Rattle.std.specs.Prelude.{◌≡◌, ◌≤◌, min, List, [], ◌∷◌, ◌++◌, length, take, drop, ℤ, Some, None, Ok, Option}
use Rattle.port.specs.Ways.{Ways}
use Rattle.machine.specs.declared.instruction.Instruction.{Instruction}
use Rattle.machine.specs.Run.{run_over}
use Rattle.cabinet.specs.declared.Loaded.{Loaded}
use Rattle.day.specs.declared.Cabinet.{Cabinet}
use Rattle.day.specs.declared.Cabinet.TheVariants.{Off, On}
use Rattle.day.specs.declared.Order.{Order}
use Rattle.day.specs.declared.Done.TheVariants as done
use Rattle.day.specs.Answers.{Reply, Setup, answer_order, cells_of}
use Rattle.day.specs.Book.{Book, Entry, load, run, restart, other, entry, fed, Reached}

-- a loaded cabinet has the registers, the instructions and the cells of the book's machine
pub record Holds (l : Loaded) (store : List Instruction) (memory : List ℤ) (b : Book) : Type 0 where
  pub registers : l.registers ≡ b.state.registers
  pub count : l.count ≡ length b.code
  pub code : take l.count store ≡ b.code
  pub cells : take l.cells memory ≡ b.state.cells
  pub size : l.cells ≡ b.size
  pub room : l.count ≤ l.slots

-- The book matches: a loaded cabinet has its machine, which is reached as the book says.
abbrev pub Matches : {M : Type 0} → Cabinet → Setup M → Option Book → Type 0
Matches (Off e) s b = Unit {0}
Matches (On l) s b = (p : Book) × (b ≡ Some p) × Holds l s.code s.memory p × Reached p

-- a granted run told the reason and the steps of the book's machine, and left the port with the meaning that it left
abbrev pub Told : {M : Type 0} → Ways M → Entry M → Option Book → Reply → M → Type 0
Told w (load code size) b r after = Unit {0}
Told w (run grant m) b r after =
    (p : Book) × (b ≡ Some p)
    × (r ≡ Ok (done.Ran (record {
      stop = (run_over w p.code grant p.state m).stop;
      steps = (run_over w p.code grant p.state m).steps;
    })))
    × (after ≡ (run_over w p.code grant p.state m).port)
Told w restart b r after = Unit {0}
Told w other b r after = Unit {0}

abbrev pub with_port : {M : Type 0} → Setup M → M → Setup M
with_port s m = record { cabinet = s.cabinet; code = s.code; memory = s.memory; port = m }

-- One hour: others reach the port, and then an order is answered and the book is fed.
pub record Hour {M O P : Type 0} (w : Ways M) (meaning : P → M) (touched : O → P → O → P → Type 0)
    (c : Order) (o : O) (p : P) (s : Setup M) (b : Option Book)
    (r : Reply) (o' : O) (p' : P) (s' : Setup M) (b' : Option Book) : Type 0 where
  pub between : P
  pub others : touched o p o' between
  pub answers : record { reply = r; setup = s' } ≡ answer_order w c (with_port s (meaning between))
  pub port : meaning p' ≡ s'.port
  pub book : b' ≡ fed w (entry c.command r (cells_of c s) (meaning between)) b
  pub told : Told w (entry c.command r (cells_of c s) (meaning between)) b r s'.port
  pub matches : Matches s'.cabinet s' b'

-- A day from a morning: the orders and their replies, and what stands after the last. Every first part of a day is a day.
pub data Day {M O P : Type 0} (w : Ways M) (meaning : P → M) (touched : O → P → O → P → Type 0) (o₀ : O) (p₀ : P) (s₀ : Setup M)
    : List Order → List Reply → O → P → Setup M → Option Book → Type 0 where
  morning : Day w meaning touched o₀ p₀ s₀ [] [] o₀ p₀ s₀ None
  later : {cs : List Order} {rs : List Reply} {o o' : O} {p p' : P} {s s' : Setup M} {b b' : Option Book} {c : Order} {r : Reply}
      → Day w meaning touched o₀ p₀ s₀ cs rs o p s b → Hour w meaning touched c o p s b r o' p' s' b'
      → Day w meaning touched o₀ p₀ s₀ (cs ++ (c ∷ [])) (rs ++ (r ∷ [])) o' p' s' b'

-- A list of orders was worked through, as far as there is room for the replies.
pub record Worked {M O P : Type 0} (w : Ways M) (meaning : P → M) (touched : O → P → O → P → Type 0) (o₀ : O) (p₀ : P) (s₀ : Setup M)
    (cs : List Order) (rs rs' : List Reply) (o : O) (p : P) (s : Setup M) : Type 0 where
  pub book : Option Book
  pub day : Day w meaning touched o₀ p₀ s₀
      (take (min (length cs) (length rs)) cs) (take (min (length cs) (length rs)) rs') o p s book
  pub rest : drop (min (length cs) (length rs)) rs' ≡ drop (min (length cs) (length rs)) rs
