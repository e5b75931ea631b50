-- A tree in an array of nodes.
use Rattle.std.specs.Prelude.{List, [], ◌∷◌, ◌≡◌, ℕ, zero, suc, ◌<◌, slice_index_or, ⊤}
use Rattle.syntax.specs.declared.node.Name as code
use Rattle.syntax.specs.declared.node.Node.{Node}
use Rattle.syntax.specs.declared.node.Node.TheVariants.{Nothing, Literal, Variable, Element, Paren, Binary, Assign, AssignElement, Call, Argument, Empty, Expression, Compound, If, IfElse, While, Return, ReturnValue, Statement, Block, NumberLocal, ArrayLocal, NumberParam, ArrayParam, NumberGlobal, ArrayGlobal, Function}
use Rattle.syntax.specs.Trees.{Name, Expr, literal, variable, paren, binary, assign, call, Var, simple, element, Args, no_args, arg, single, array, Param, number_param, array_param, Stmt, empty, expression, compound, if_then, if_else, while, return, return_value, Stmts, no_stmts, stmt, block, Decl, global, function}
use Rattle.syntax.specs.Trees as tree

abbrev pub name_of : code.Name → Name
name_of x = record { place = x.place; text = x.text.now }

-- What a node stands for, as each kind of phrase: the phrase that it is, and an empty one of every other kind.
pub record Tree (N : Type 0) : Type 0 where
  pub expr : Expr N
  pub args : Args N
  pub stmt : Stmt N
  pub stmts : Stmts N
  pub block : tree.Block N
  pub variables : List (tree.Variable N)
  pub params : List (Param N)
  pub decls : List (Decl N)

abbrev pub nothing : {N : Type 0} → Tree N
nothing = record {
  expr = literal 0 0;
  args = no_args;
  stmt = empty;
  stmts = no_stmts;
  block = block [] no_stmts;
  variables = [];
  params = [];
  decls = [];
}

abbrev pub of_expr : {N : Type 0} → Expr N → Tree N
of_expr x = record nothing { expr = x }

abbrev pub of_args : {N : Type 0} → Args N → Tree N
of_args x = record nothing { args = x }

abbrev pub of_stmt : {N : Type 0} → Stmt N → Tree N
of_stmt x = record nothing { stmt = x }

abbrev pub of_stmts : {N : Type 0} → Stmts N → Tree N
of_stmts x = record nothing { stmts = x }

abbrev pub of_block : {N : Type 0} → tree.Block N → Tree N
of_block x = record nothing { block = x }

abbrev pub of_variables : {N : Type 0} → List (tree.Variable N) → Tree N
of_variables x = record nothing { variables = x }

abbrev pub of_params : {N : Type 0} → List (Param N) → Tree N
of_params x = record nothing { params = x }

abbrev pub of_decls : {N : Type 0} → List (Decl N) → Tree N
of_decls x = record nothing { decls = x }

-- The tree of a node whose parts are the trees at its indices; a name in a node stands for a name in the tree.
abbrev pub decode : {M N : Type 0} → (M → N) → (ℕ → Tree N) → Node M → Tree N
decode n f Nothing = nothing
decode n f (Literal p v) = of_expr (literal p v)
decode n f (Variable x) = of_expr (variable (simple (n x)))
decode n f (Element x i) = of_expr (variable (element (n x) (f i).expr))
decode n f (Paren p i) = of_expr (paren p (f i).expr)
decode n f (Binary i o p j) = of_expr (binary (f i).expr o p (f j).expr)
decode n f (Assign x i) = of_expr (assign (simple (n x)) (f i).expr)
decode n f (AssignElement x i j) = of_expr (assign (element (n x) (f i).expr) (f j).expr)
decode n f (Call x p i) = of_expr (call (n x) p (f i).args)
decode n f (Argument i j) = of_args (arg (f i).expr (f j).args)
decode n f Empty = of_stmt empty
decode n f (Expression i) = of_stmt (expression (f i).expr)
decode n f (Compound i) = of_stmt (compound (f i).block)
decode n f (If p i j) = of_stmt (if_then p (f i).expr (f j).stmt)
decode n f (IfElse p i j k) = of_stmt (if_else p (f i).expr (f j).stmt (f k).stmt)
decode n f (While p i j) = of_stmt (while p (f i).expr (f j).stmt)
decode n f (Return p) = of_stmt (return p)
decode n f (ReturnValue p i) = of_stmt (return_value p (f i).expr)
decode n f (Statement i j) = of_stmts (stmt (f i).stmt (f j).stmts)
decode n f (Block i j) = of_block (block (f i).variables (f j).stmts)
decode n f (NumberLocal t x i) = of_variables (single t (n x) ∷ (f i).variables)
decode n f (ArrayLocal t x p v i) = of_variables (array t (n x) p v ∷ (f i).variables)
decode n f (NumberParam t x i) = of_params (number_param t (n x) ∷ (f i).params)
decode n f (ArrayParam t x i) = of_params (array_param t (n x) ∷ (f i).params)
decode n f (NumberGlobal t x i) = of_decls (global (single t (n x)) ∷ (f i).decls)
decode n f (ArrayGlobal t x p v i) = of_decls (global (array t (n x) p v) ∷ (f i).decls)
decode n f (Function t x p i j k) = of_decls (function t (n x) p (f i).params (f j).block ∷ (f k).decls)

-- the indices that a node holds are below i
abbrev pub Below : {M : Type 0} → ℕ → Node M → Type 0
Below i Nothing = ⊤
Below i (Literal p v) = ⊤
Below i (Variable x) = ⊤
Below i (Element x j) = j < i
Below i (Paren p j) = j < i
Below i (Binary j o p k) = (j < i) × (k < i)
Below i (Assign x j) = j < i
Below i (AssignElement x j k) = (j < i) × (k < i)
Below i (Call x p j) = j < i
Below i (Argument j k) = (j < i) × (k < i)
Below i Empty = ⊤
Below i (Expression j) = j < i
Below i (Compound j) = j < i
Below i (If p j k) = (j < i) × (k < i)
Below i (IfElse p j k l) = (j < i) × (k < i) × (l < i)
Below i (While p j k) = (j < i) × (k < i)
Below i (Return p) = ⊤
Below i (ReturnValue p j) = j < i
Below i (Statement j k) = (j < i) × (k < i)
Below i (Block j k) = (j < i) × (k < i)
Below i (NumberLocal t x j) = j < i
Below i (ArrayLocal t x p v j) = j < i
Below i (NumberParam t x j) = j < i
Below i (ArrayParam t x j) = j < i
Below i (NumberGlobal t x j) = j < i
Below i (ArrayGlobal t x p v j) = j < i
Below i (Function t x p j k l) = (j < i) × (k < i) × (l < i)

abbrev pub at : {M : Type 0} → List (Node M) → ℕ → Node M
at ns i = slice_index_or ns i Nothing

-- the tree at i, if it is less than so high
abbrev pub tree_within : {M N : Type 0} → (M → N) → ℕ → List (Node M) → ℕ → Tree N
tree_within n zero ns i = nothing
tree_within n (suc h) ns i = decode n (tree_within n h ns) (at ns i)

-- the tree at i, where each node's indices are below its own
unfoldable pub tree_at : {M N : Type 0} → (M → N) → List (Node M) → ℕ → Tree N
tree_at n ns i = tree_within n (suc i) ns i

-- the indices of each of the first n nodes are below its own
abbrev pub Down : {M : Type 0} → List (Node M) → ℕ → Type 0
Down ns n = (i : ℕ) → i < n → Below i (at ns i)

-- the first n nodes are the same
abbrev pub Kept : {M : Type 0} → ℕ → List (Node M) → List (Node M) → Type 0
Kept n ns ms = (i : ℕ) → i < n → at ms i ≡ at ns i
