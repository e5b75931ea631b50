-- A change within sixteen successive bits of a text shows in the register.
use Rattle.std.proofs.Common.{◌≡◌, ℕ, ◌+◌, ◌-◌, ◌*◌, ◌/◌, ◌%◌, ◌^◌, ◌<◌, ◌≤◌, true, eqb, leb, List, [], ◌∷◌, ◌++◌, length, get_or, take, sym, refl, ap, ◌∙◌, subst, inl, inr, mul_assoc, arith, length-append}
use native.Mathlib.Nat.{zero-mod, mul-add-mod_self_right}
use lib.Bits.{bit_xor, xor_self}
use Rattle.std.specs.List.{AllByRecursion}
use Rattle.std.proofs.lemmas.Nat.{pow-add, mod-pow-add}
use Rattle.std.proofs.lemmas.List.Elements.{All-get_or}
use Rattle.std.proofs.lemmas.List.{take-append-drop, take_at, get_or_at, get_or-append-add, drop_more, drop_all}
use Rattle.std.proofs.lemmas.Bool.{and_parts, and_from, leb-true, le-leb, eqb-true, eq-eqb, cases_Bool}
use Rattle.crc.specs.Crc.{shift, feed, bits_of, bits, crc, sealed, Bytes, Burst, BurstDetected}
use Rattle.crc.proofs.Linear.{same_from_xor, xor_same, shift_fits, difference_back}
use Rattle.crc.proofs.WholeBytes.{own_byte, byte_into_itself}

abbrev Binary : List ℕ → Type 0
Binary = AllByRecursion (λ w. w < 2)

binary_bits : (bytes : List ℕ) → Binary (bits bytes)
binary_bits [] = tt
binary_bits (b ∷ bs) =
    let bit : (n : ℕ) → n % 2 < 2 = λ n. omega arith in
    (bit _, (bit _, (bit _, (bit _, (bit _, (bit _, (bit _, (bit _, binary_bits bs))))))))

binary_parts : (ws vs : List ℕ) → Binary (ws ++ vs) → Binary ws × Binary vs
binary_parts [] vs b = (tt, b)
binary_parts (w ∷ ws) vs b = let i = binary_parts ws vs b.1 in ((b.0, i.0), i.1)

feed_append : (ws vs : List ℕ) (r : ℕ) → feed (ws ++ vs) r ≡ feed vs (feed ws r)
feed_append [] vs r = refl
feed_append (w ∷ ws) vs r = feed_append ws vs (shift r w)

feed_fits : (ws : List ℕ) (r : ℕ) → Binary ws → r < 2 ^ 16 → feed ws r < 2 ^ 16
feed_fits [] r b h = h
feed_fits (w ∷ ws) r b h = feed_fits ws (shift r w) b.1 (shift_fits r w h b.0)

pub crc_fits : (text : List ℕ) → crc text < 2 ^ 16
crc_fits text = feed_fits (bits text) 0xffff (binary_bits text) (omega arith)

-- the same bits keep different registers apart
same_registers : (ws : List ℕ) (r s : ℕ) → Binary ws → r < 2 ^ 16 → s < 2 ^ 16 → feed ws r ≡ feed ws s → r ≡ s
same_registers [] r s b h k e = e
same_registers (w ∷ ws) r s b h k e =
    let i = same_registers ws (shift r w) (shift s w) b.1 (shift_fits r w h b.0) (shift_fits s w k b.0) e in
    let none = xor_same (shift r w) (shift s w) i in
    let d = difference_back r s w w h k b.0 b.0 (omega (arith, none)) in
    same_from_xor r s (omega (arith, d, none, xor_self w))

halves : (d n : ℕ) → d % 2 ^ (n + 1) ≡ 0 → (d % 2 ≡ 0) × (d / 2 % 2 ^ n ≡ 0)
halves d n e = let parts = mod-pow-add d n 1 in (omega (arith, parts), omega (arith, parts))

-- registers that 16 - n bits bring together agree in their n lowest bits: a step back moves a difference down by one bit
low_bits_same : (ws vs : List ℕ) (n r s : ℕ) → n + length ws ≡ 16 → length ws ≡ length vs → Binary ws → Binary vs
    → r < 2 ^ 16 → s < 2 ^ 16 → feed ws r ≡ feed vs s → bit_xor r s % 2 ^ n ≡ 0
low_bits_same [] [] n r s m l a b h k e = ap (λ x. x % 2 ^ n) (xor_same r s e) ∙ zero-mod (2 ^ n)
low_bits_same [] (v ∷ vs) n r s m l a b h k e = absurd (omega arith)
low_bits_same (w ∷ ws) [] n r s m l a b h k e = absurd (omega arith)
low_bits_same (w ∷ ws) (v ∷ vs) n r s m l a b h k e =
    let d : ℕ = bit_xor (shift r w) (shift s v) in
    let r-fits = shift_fits r w h a.0 in
    let s-fits = shift_fits s v k b.0 in
    let i = low_bits_same ws vs (n + 1) (shift r w) (shift s v) (omega arith) (omega arith) a.1 b.1 r-fits s-fits e in
    let (even, half) = halves d n i in
    let back = difference_back r s w v h k a.0 b.0 even in
    let places : length ws + n ≡ 15 = omega arith in
    let high = ap (λ x. 2 ^ x) places in
    cc (
      pow-add 2 (length ws) n,
      mul_assoc (bit_xor w v) (2 ^ length ws) (2 ^ n),
      mul-add-mod_self_right (bit_xor w v * 2 ^ length ws) (2 ^ n) (d / 2),
    )

-- at most sixteen bits into the same register are known by what they make of it
same_bits : (ws vs : List ℕ) (r : ℕ) → length ws ≤ 16 → length ws ≡ length vs → Binary ws → Binary vs → r < 2 ^ 16
    → feed ws r ≡ feed vs r → ws ≡ vs
same_bits [] [] r m l a b h e = refl
same_bits [] (v ∷ vs) r m l a b h e = absurd (omega arith)
same_bits (w ∷ ws) [] r m l a b h e = absurd (omega arith)
same_bits (w ∷ ws) (v ∷ vs) r m l a b h e =
    let n : ℕ = 15 - length ws in
    let w_Fits = shift_fits r w h a.0 in
    let v-fits = shift_fits r v h b.0 in
    let low = low_bits_same ws vs (n + 1) (shift r w) (shift r v) (omega arith) (omega arith) a.1 b.1 w_Fits v-fits e in
    let (even, _) = halves (bit_xor (shift r w) (shift r v)) n low in
    let back = difference_back r r w v h h a.0 b.0 even in
    let first : w ≡ v = same_from_xor w v (omega (arith, back, xor_self r)) in
    let same = e ∙ ap (λ x. feed vs (shift r x)) (sym first) in
    let rest = same_bits ws vs (shift r w) (omega arith) (omega arith) a.1 b.1 w_Fits same in
    cc

three_parts : (text before middle after : List ℕ) → bits text ≡ before ++ (middle ++ after)
    → Binary before × Binary middle × Binary after × (crc text ≡ feed after (feed middle (feed before 0xffff)))
three_parts text before middle after e =
    let (b, rest) = binary_parts before (middle ++ after) (subst Binary e (binary_bits text)) in
    let (m, a) = binary_parts middle after rest in
    (b, m, a, ap (λ ws. feed ws 0xffff) e ∙ feed_append before (middle ++ after) 0xffff ∙ feed_append middle after (feed before 0xffff))

registers_differ : (a b : List ℕ) → Burst a b → crc a ≡ 0 → crc b ≡ 0 → ⊥
registers_differ a b u p q =
    let (before, was, after, crc-a) = three_parts a u.before u.was u.after u.bits_a in
    let (_, is, _, crc-b) = three_parts b u.before u.is u.after u.bits_b in
    let r : ℕ = feed u.before 0xffff in
    let r-fits : r < 2 ^ 16 = feed_fits u.before 0xffff before (omega arith) in
    let was-fits = feed_fits u.was r was r-fits in
    let is-fits = feed_fits u.is r is r-fits in
    let end = sym crc-a ∙ p ∙ sym q ∙ crc-b in
    let same = same_registers u.after (feed u.was r) (feed u.is r) after was-fits is-fits end in
    let long = u.was_long ∙ sym u.is_long in
    u.changed (same_bits u.was u.is r (omega (arith, u.was_long)) long was is r-fits same)

-- ---- a sealed text has the register 0

feed_bits : (xs ys : List ℕ) (r : ℕ) → feed (bits (xs ++ ys)) r ≡ feed (bits ys) (feed (bits xs) r)
feed_bits [] ys r = refl
feed_bits (x ∷ xs) ys r = feed_bits xs ys (feed (bits_of x) r)

pub last_two : (text : List ℕ) → 2 ≤ length text
    → text ≡ take (length text - 2) text ++ get_or text (length text - 2) 0 ∷ get_or text (length text - 2 + 1) 0 ∷ []
last_two text h =
    let n : ℕ = length text - 2 in
    cc (
      take-append-drop n text,
      drop_more text n 0 (omega arith),
      drop_more text (n + 1) 0 (omega arith),
      drop_all (n + 1 + 1) text (omega arith),
    )

pub sealed_with : (text : List ℕ) (high low : ℕ) → crc text ≡ high * 256 + low → sealed (text ++ high ∷ low ∷ []) ≡ true
sealed_with text high low e =
    let whole : List ℕ = text ++ high ∷ low ∷ [] in
    let long : length whole ≡ length text + 2 = length-append text (high ∷ low ∷ []) in
    let size : length whole - 2 ≡ length text = omega arith in
    let front : take (length whole - 2) whole ≡ text = ap (λ n. take n whole) size ∙ take_at text (high ∷ low ∷ []) (length text) refl in
    let first : get_or whole (length whole - 2) 0 ≡ high = ap (λ n. get_or whole n 0) size ∙ get_or_at text high (low ∷ []) 0 (length text) refl in
    let second : get_or whole (length whole - 2 + 1) 0 ≡ low =
    ap (λ n. get_or whole (n + 1) 0) size ∙ get_or-append-add text (high ∷ low ∷ []) 1 0 in
    let check : crc (take (length whole - 2) whole) ≡ get_or whole (length whole - 2) 0 * 256 + get_or whole (length whole - 2 + 1) 0 =
    ap crc front ∙ e ∙ cc in
    and_from (leb 2 (length whole)) _ (le-leb 2 (length whole) (omega arith)) (eq-eqb _ _ check)

sealed_register : (text : List ℕ) → Bytes text → sealed text ≡ true → crc text ≡ 0
sealed_register text bytes e =
    let n : ℕ = length text - 2 in
    let high : ℕ = get_or text n 0 in
    let low : ℕ = get_or text (n + 1) 0 in
    let (long, same) = and_parts (leb 2 (length text)) (eqb (crc (take n text)) (high * 256 + low)) e in
    let two : 2 ≤ length text = leb-true 2 (length text) long in
    let high_fits : high < 256 = All-get_or (λ b. b < 256) text n 0 (omega arith) bytes in
    let low_fits : low < 256 = All-get_or (λ b. b < 256) text (n + 1) 0 (omega arith) bytes in
    ap crc (last_two text two)
    ∙ feed_bits (take n text) (high ∷ low ∷ []) 0xffff
    ∙ ap (feed (bits (high ∷ low ∷ []))) (eqb-true (crc (take n text)) (high * 256 + low) same)
    ∙ ap (feed (bits_of low)) (own_byte high low high_fits low_fits)
    ∙ byte_into_itself low low_fits

pub burst_detected : (text : List ℕ) → Bytes text → BurstDetected text
burst_detected text bytes original original_bytes original-sealed u =
    let was-zero = sealed_register original original_bytes original-sealed in
    elim (cases_Bool (sealed text)) [
      | inl e ↦ absurd (registers_differ original text u was-zero (sealed_register text bytes e))
      | inr e ↦ e
    ]
