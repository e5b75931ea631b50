use Rattle.std.proofs.Common.{◌≡◌, ℕ, ◌+◌, ◌<◌, ◌≤◌, Bool, true, false, cond, not, eqb, ltb, leb, List, get_or, Some, None, Option, sym, refl, ap, ◌∙◌, inl, inr, arith}
use Rattle.std.proofs.lemmas.Bool.{and_parts, cases_lt, cond-true, cond-false, leb-true, eqb-true, lt-ltb, le-ltb}
use Rattle.refusal.specs.declared.Refusal.{Refusal}
use Rattle.refusal.specs.declared.Reason.TheVariants.{BlockCheck, BlockHeader, InstructionForm}
use Rattle.crc.specs.Crc.{sealed}
use Rattle.refusal.specs.Faults.{refusal}
use Rattle.image.specs.Layout.{Layout}
use Rattle.image.specs.Reading.{two_at, four_at, count_right, header_right, body_right, fault}

-- the fault that three tests show
abbrev pub verdict : ℕ → Bool → Bool → Bool → Option Refusal
verdict index a b c =
    cond (not a) (Some (refusal BlockCheck index))
    (cond (not b) (Some (refusal BlockHeader index))
    (cond (not c) (Some (refusal InstructionForm index)) None))

no_fault : (index : ℕ) (a b c : Bool) → verdict index a b c ≡ None → (a ≡ true) × (b ≡ true) × (c ≡ true)
no_fault index true true true e = (refl, refl, refl)
no_fault index true true false e = absurd (cc)
no_fault index true false c e = absurd (cc)
no_fault index false b c e = absurd (cc)

pub record Count {A : Type 0} (l : Layout A) (index blocks count : ℕ) : Type 0 where
  pub some : 1 ≤ count
  pub few : count ≤ l.capacity
  pub full : index + 1 < blocks → count ≡ l.capacity

pub count_parts : {A : Type 0} (l : Layout A) (index blocks count : ℕ)
    → count_right l index blocks count ≡ true → Count l index blocks count
count_parts l index blocks count e =
    let both = and_parts (leb 1 count) _ e in
    let some = leb-true 1 count both.0 in
    elim (cases_lt (index + 1) blocks) [
      | inl inner ↦
          let full : count ≡ l.capacity =
          eqb-true count l.capacity (sym (cond-true (ltb (index + 1) blocks) _ _ (lt-ltb (index + 1) blocks inner)) ∙ both.1) in
          record { some = some; few = omega arith; full = λ _. full }
      | inr last ↦
          let few : count ≤ l.capacity =
          leb-true count l.capacity (sym (cond-false (ltb (index + 1) blocks) _ _ (le-ltb (index + 1) blocks last)) ∙ both.1) in
          record { some = some; few = few; full = λ inner. absurd (omega arith) }
    ]

pub record Header {A : Type 0} (l : Layout A) (number index blocks : ℕ) (block : List ℕ) : Type 0 where
  pub number_is : four_at block 0 ≡ number
  pub index_is : two_at block 4 ≡ index
  pub blocks_is : two_at block 6 ≡ blocks
  pub count_is : Count l index blocks (get_or block 8 0)
  pub zero_9 : get_or block 9 0 ≡ 0
  pub zero_10 : get_or block 10 0 ≡ 0
  pub zero_11 : get_or block 11 0 ≡ 0

pub header_parts : {A : Type 0} (l : Layout A) (number index blocks : ℕ) (block : List ℕ)
    → header_right l number index blocks block ≡ true → Header l number index blocks block
header_parts l number index blocks block e =
    let a = and_parts (eqb (four_at block 0) number) _ e in
    let b = and_parts (eqb (two_at block 4) index) _ a.1 in
    let c = and_parts (eqb (two_at block 6) blocks) _ b.1 in
    let d = and_parts (count_right l index blocks (get_or block 8 0)) _ c.1 in
    let f = and_parts (eqb (get_or block 9 0) 0) _ d.1 in
    let g = and_parts (eqb (get_or block 10 0) 0) _ f.1 in
    record {
      number_is = eqb-true _ _ a.0;
      index_is = eqb-true _ _ b.0;
      blocks_is = eqb-true _ _ c.0;
      count_is = count_parts l index blocks (get_or block 8 0) d.0;
      zero_9 = eqb-true _ _ f.0;
      zero_10 = eqb-true _ _ g.0;
      zero_11 = eqb-true _ _ g.1;
    }

module _ {A : Type 0} (l : Layout A) (number index blocks : ℕ) (block : List ℕ) where
  pub fault_is : (a b c : Bool) → a ≡ sealed block → b ≡ header_right l number index blocks block → c ≡ body_right l block
      → verdict index a b c ≡ fault l number index blocks block
  unfolding fault
  fault_is a b c p q r =
      ap (λ x. verdict index x b c) p
      ∙ ap (λ x. verdict index (sealed block) x c) q
      ∙ ap (verdict index (sealed block) (header_right l number index blocks block)) r

  pub right_parts : fault l number index blocks block ≡ None
      → (sealed block ≡ true) × (header_right l number index blocks block ≡ true) × (body_right l block ≡ true)
  unfolding fault
  right_parts e = no_fault index (sealed block) (header_right l number index blocks block) (body_right l block) e
