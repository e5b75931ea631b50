-- Nodes that are added leave the trees of the nodes before them.
use Rattle.std.proofs.Common.{◌≡◌, ℕ, zero, suc, ◌+◌, ◌-◌, ◌<◌, ◌≤◌, ◌≢◌, List, length, set, sym, refl, ap, ◌∙◌, subst, ⊎_elim, eq-or-lt_of_le, arith, get_or-set_same, get_or-set_other}
use Rattle.syntax.specs.declared.node.Node.{Node}
use Rattle.syntax.specs.declared.node.Node.TheVariants.{Nothing, Literal, Variable, Element, Paren, Binary, Assign, AssignElement, Call, Argument, Empty, Expression, Compound, If, IfElse, While, Return, ReturnValue, Statement, Block, NumberLocal, ArrayLocal, NumberParam, ArrayParam, NumberGlobal, ArrayGlobal, Function}
use Rattle.syntax.specs.Nodes.{Tree, decode, Below, at, tree_within, tree_at, Down, Kept}

module _ {M N : Type 0} (n : M → N) where
  -- only the trees at a node's indices count
  decode_same : (i : ℕ) (f g : ℕ → Tree N) (x : Node M) → Below i x → ((j : ℕ) → j < i → f j ≡ g j) → decode n f x ≡ decode n g x
  decode_same i f g Nothing b e = refl
  decode_same i f g (Literal p v) b e = refl
  decode_same i f g (Variable x) b e = refl
  decode_same i f g (Element x j) b e = cc (e j b)
  decode_same i f g (Paren p j) b e = cc (e j b)
  decode_same i f g (Binary j o p k) b e = cc (e j b.0, e k b.1)
  decode_same i f g (Assign x j) b e = cc (e j b)
  decode_same i f g (AssignElement x j k) b e = cc (e j b.0, e k b.1)
  decode_same i f g (Call x p j) b e = cc (e j b)
  decode_same i f g (Argument j k) b e = cc (e j b.0, e k b.1)
  decode_same i f g Empty b e = refl
  decode_same i f g (Expression j) b e = cc (e j b)
  decode_same i f g (Compound j) b e = cc (e j b)
  decode_same i f g (If p j k) b e = cc (e j b.0, e k b.1)
  decode_same i f g (IfElse p j k l) b e = cc (e j b.0, e k b.1, e l b.2)
  decode_same i f g (While p j k) b e = cc (e j b.0, e k b.1)
  decode_same i f g (Return p) b e = refl
  decode_same i f g (ReturnValue p j) b e = cc (e j b)
  decode_same i f g (Statement j k) b e = cc (e j b.0, e k b.1)
  decode_same i f g (Block j k) b e = cc (e j b.0, e k b.1)
  decode_same i f g (NumberLocal t x j) b e = cc (e j b)
  decode_same i f g (ArrayLocal t x p v j) b e = cc (e j b)
  decode_same i f g (NumberParam t x j) b e = cc (e j b)
  decode_same i f g (ArrayParam t x j) b e = cc (e j b)
  decode_same i f g (NumberGlobal t x j) b e = cc (e j b)
  decode_same i f g (ArrayGlobal t x p v j) b e = cc (e j b)
  decode_same i f g (Function t x p j k l) b e = cc (e j b.0, e k b.1, e l b.2)

  -- enough height is enough, and nodes past i do not count
  tree_same : (m : ℕ) (ns ms : List (Node M)) → Down ns m → Kept m ns ms → (f g i : ℕ) → i < m → i < f → i < g
      → tree_within n f ns i ≡ tree_within n g ms i
  tree_same m ns ms d kept zero g i h a b = absurd (omega arith)
  tree_same m ns ms d kept (suc f) zero i h a b = absurd (omega arith)
  tree_same m ns ms d kept (suc f) (suc g) i h a b =
      decode_same i (tree_within n f ns) (tree_within n g ms) (at ns i) (d i h)
      (λ j lt. tree_same m ns ms d kept f g j (omega arith) (omega arith) (omega arith))
      ∙ ap (decode n (tree_within n g ms)) (sym (kept i h))

  pub tree_kept : (m : ℕ) (ns ms : List (Node M)) (i : ℕ) → Down ns m → Kept m ns ms → i < m → tree_at n ms i ≡ tree_at n ns i
  unfolding tree_at
  tree_kept m ns ms i d kept h = sym (tree_same m ns ms d kept (suc i) (suc i) i h (omega arith) (omega arith))

  -- the law by which a tree is read
  pub tree_is : (m : ℕ) (ns : List (Node M)) (i : ℕ) (x : Node M) → Down ns m → i < m → at ns i ≡ x
      → tree_at n ns i ≡ decode n (tree_at n ns) x
  unfolding tree_at
  tree_is m ns i x d h e =
      decode_same i (tree_within n i ns) (λ j. tree_within n (suc j) ns j) (at ns i) (d i h)
      (λ j lt. tree_same m ns ns d (λ k l. refl) i (suc j) j (omega arith) (omega arith) (omega arith))
      ∙ ap (decode n (λ j. tree_within n (suc j) ns j)) e

  -- a tree's own node, whatever the nodes below it
  pub tree_head : (ns : List (Node M)) (i : ℕ) (x : Node M) → at ns i ≡ x → tree_at n ns i ≡ decode n (tree_within n i ns) x
  unfolding tree_at
  tree_head ns i x e = ap (decode n (tree_within n i ns)) e

  -- what a push leaves
  pub record Grew (ns ms : List (Node M)) (m r : ℕ) (x : Node M) : Type 0 where
    pub last : tree_at n ms (r - 1) ≡ decode n (tree_at n ms) x
    pub before : (i : ℕ) → i < m → tree_at n ms i ≡ tree_at n ns i
    pub down : Down ms r
    pub kept : Kept m ns ms

  pushed_at : (ns ms : List (Node M)) (m : ℕ) (x : Node M) → m < length ns → ms ≡ set ns m x → at ms m ≡ x
  pushed_at ns ms m x h e = ap (λ l. at l m) e ∙ get_or-set_same ns m x Nothing h

  pushed_kept : (ns ms : List (Node M)) (m : ℕ) (x : Node M) → ms ≡ set ns m x → Kept m ns ms
  pushed_kept ns ms m x e i h = let ne : i ≢ m = omega arith in ap (λ l. at l i) e ∙ get_or-set_other ns m i x Nothing ne

  pub grew : (ns ms : List (Node M)) (m r : ℕ) (x : Node M) → m < length ns → Down ns m → Below m x → r ≡ m + 1 → ms ≡ set ns m x
      → Grew ns ms m r x
  grew ns ms m r x h d b long e =
      let kept : Kept m ns ms = pushed_kept ns ms m x e in
      let here : at ms m ≡ x = pushed_at ns ms m x h e in
      let more : Down ms r = λ i lt.
      let le : i ≤ m = omega arith in
      ⊎_elim (λ same. subst (λ j. Below j (at ms j)) (sym same) (subst (Below m) (sym here) b))
      (λ less. subst (Below i) (sym (kept i less)) (d i less)) (eq-or-lt_of_le le) in
      let back : r - 1 ≡ m = omega arith in
      record {
        last = tree_is r ms (r - 1) x more (omega arith) (ap (at ms) back ∙ here);
        before = λ i lt. tree_kept m ns ms i d kept lt;
        down = more;
        kept = kept;
      }

pub below_is : {M : Type 0} (m : ℕ) (ns : List (Node M)) (i : ℕ) (x : Node M) → Down ns m → i < m → at ns i ≡ x → Below i x
below_is m ns i x d h e = subst (Below i) e (d i h)

pub kept_trans : {M : Type 0} (n m : ℕ) (ns ms ps : List (Node M)) → n ≤ m → Kept n ns ms → Kept m ms ps → Kept n ns ps
kept_trans n m ns ms ps h a b i lt = b i (omega arith) ∙ a i lt
