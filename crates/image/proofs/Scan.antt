-- A walk along the blocks of an image.
use Rattle.std.proofs.Common.{◌≡◌, ℕ, zero, suc, ◌+◌, ◌<◌, ◌≤◌, List, [], ◌∷◌, length, get_or, take, drop, All, Some, None, Ok, Err, sym, ap, ◌∙◌, arith, length-append}
use Rattle.std.proofs.lemmas.List.{at_drop_more}
use Rattle.refusal.specs.declared.Refusal.{Refusal}
use Rattle.refusal.specs.Faults.{unless, or_else}
use Rattle.refusal.proofs.Faults.{refused_by, passed_by, or_else_none}
use Rattle.image.specs.Layout.{Layout}
use Rattle.image.specs.Reading.{fault, first_fault, held, content}
use Rattle.image.proofs.Pieces.{joined_next}
use Rattle.image.proofs.Chunks.{length_instructions}
use Rattle.image.proofs.Faults.{right_parts, header_parts}

few : {A : Type 0} (l : Layout A) (number index blocks : ℕ) (block : List ℕ) → fault l number index blocks block ≡ None
    → get_or block 8 0 ≤ l.capacity
few l number index blocks block clean =
    (header_parts l number index blocks block (right_parts l number index blocks block clean).1).count_is.few

module _ {A : Type 0} (l : Layout A) (number n : ℕ) where
  -- the block of this index, where no block before it has a fault
  module _ (blocks : List (List ℕ)) (i : ℕ) (inside : i < length blocks) where
    abbrev here : List ℕ
    here = get_or blocks i []

    pub next : first_fault l number n i (drop i blocks) ≡ or_else (fault l number i n here) (first_fault l number n (i + 1) (drop (i + 1) blocks))
    next = at_drop_more (first_fault l number n i) blocks i [] inside

    pub stops : (e : Refusal) (m : ℕ) → Err e ≡ unless (fault l number i n here) (Ok m) → first_fault l number n i (drop i blocks) ≡ Some e
    stops e m refused =
        next ∙ ap (λ f. or_else f (first_fault l number n (i + 1) (drop (i + 1) blocks))) (refused_by (fault l number i n here) e m refused)

    pub record Passed (m : ℕ) : Type 0 where
      pub onward : first_fault l number n (i + 1) (drop (i + 1) blocks) ≡ first_fault l number n i (drop i blocks)
      pub counted : length (content l (take (i + 1) blocks)) ≡ length (content l (take i blocks)) + m
      pub few_here : m ≤ l.capacity

    pub passes : (m : ℕ) → Ok m ≡ unless (fault l number i n here) (Ok (get_or here 8 0)) → Passed m
    passes m passed =
        let (clean, is) = passed_by (fault l number i n here) (Ok (get_or here 8 0)) m passed in
        let same : m ≡ get_or here 8 0 = cc is in
        let grown = ap length (joined_next (held l) blocks i [] inside) in
        let more = length-append (content l (take i blocks)) (held l here) in
        let size = length_instructions l (get_or here 8 0) (drop 12 here) in
        let short = few l number i n here clean in
        record {
          onward = sym (next ∙ ap (λ f. or_else f (first_fault l number n (i + 1) (drop (i + 1) blocks))) clean);
          counted = omega arith;
          few_here = omega arith;
        }

  pub all_few : (i : ℕ) (blocks : List (List ℕ)) → first_fault l number n i blocks ≡ None → All (λ block. get_or block 8 0 ≤ l.capacity) blocks
  all_few i [] clean k d h = absurd (omega arith)
  all_few i (block ∷ later) clean zero d h =
      few l number i n block (or_else_none (fault l number i n block) (first_fault l number n (i + 1) later) clean).0
  all_few i (block ∷ later) clean (suc k) d h =
      all_few (i + 1) later (or_else_none (fault l number i n block) (first_fault l number n (i + 1) later) clean).1 k d (omega arith)
