-- The trees of a rule, as it is written. Places are kept where something later speaks of them; a `paren` is the place of a
-- left parenthesis.
use Rattle.std.specs.Prelude.{ℕ, List}
use Rattle.syntax.specs.declared.operator.Operator.{Operator}
use Rattle.syntax.specs.declared.node.TypeName.{TypeName}

-- a name where it is written: the number of bytes before it, and its bytes
pub record Name : Type 0 where
  pub place : ℕ
  pub text : List ℕ

mutual
  pub data Expr (N : Type 0) : Type 0 where
    literal : (place value : ℕ) → Expr N
    variable : Var N → Expr N
    paren : (paren : ℕ) → Expr N → Expr N
    binary : Expr N → Operator → (place : ℕ) → Expr N → Expr N
    assign : Var N → Expr N → Expr N
    call : N → (paren : ℕ) → Args N → Expr N

  pub data Var (N : Type 0) : Type 0 where
    simple : N → Var N
    element : N → Expr N → Var N

  pub data Args (N : Type 0) : Type 0 where
    no_args : Args N
    arg : Expr N → Args N → Args N

-- a variable that is declared: a number, or an array with its size and the place of that
pub data Variable (N : Type 0) : Type 0 where
  single : TypeName → N → Variable N
  array : TypeName → N → (place size : ℕ) → Variable N

-- a parameter: a number, or an array
pub data Param (N : Type 0) : Type 0 where
  number_param array_param : TypeName → N → Param N

mutual
  pub data Stmt (N : Type 0) : Type 0 where
    empty : Stmt N
    expression : Expr N → Stmt N
    compound : Block N → Stmt N
    if_then : (paren : ℕ) → Expr N → Stmt N → Stmt N
    if_else : (paren : ℕ) → Expr N → Stmt N → Stmt N → Stmt N
    while : (paren : ℕ) → Expr N → Stmt N → Stmt N
    return : (place : ℕ) → Stmt N
    return_value : (place : ℕ) → Expr N → Stmt N

  pub data Stmts (N : Type 0) : Type 0 where
    no_stmts : Stmts N
    stmt : Stmt N → Stmts N → Stmts N

  pub data Block (N : Type 0) : Type 0 where
    block : List (Variable N) → Stmts N → Block N

pub data Decl (N : Type 0) : Type 0 where
  global : Variable N → Decl N
  function : TypeName → N → (paren : ℕ) → List (Param N) → Block N → Decl N

abbrev pub Program : Type 0 → Type 0
Program N = List (Decl N)

-- a rule as it is written
abbrev pub Rule : Type 0
Rule = Program Name
