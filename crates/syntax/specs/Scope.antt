-- The names in force where a part of a rule stands, and the rule with the meaning of each of its names.
use Rattle.std.specs.Prelude.{ℕ, ◌+◌, List, [], ◌∷◌, Some, Option, codes, bytes_eq, find, option_map}
use Rattle.syntax.specs.declared.node.TypeName.{TypeName}
use Rattle.syntax.specs.declared.node.TypeName.TheVariants.{Int}
use Rattle.syntax.specs.declared.spot.Home.{Home}
use Rattle.syntax.specs.declared.spot.Home.TheVariants.{Global, Local}
use Rattle.syntax.specs.declared.spot.Spot.{Spot}
use Rattle.syntax.specs.declared.spot.Spot.TheVariants.{Number, Array, Handed, Input, Output, Function}
use Rattle.syntax.specs.declared.spot.Meant.{Meant}
use Rattle.syntax.specs.Trees.{Name, Expr, literal, variable, paren, binary, assign, call, Var, simple, element, Args, no_args, arg, Variable, single, array, Param, number_param, array_param, Stmt, empty, expression, compound, if_then, if_else, while, return, return_value, Stmts, no_stmts, stmt, Block, block, global, function, Program, Rule}
use Rattle.syntax.specs.Sizes.{cells, room, width}

-- a name in force: its text, what it means, and of a function the parameters
pub record Entry : Type 0 where
  pub text : List ℕ
  pub spot : Spot
  pub params : List (Param Name)

-- the names in force, the nearest first
abbrev pub Scope : Type 0
Scope = List Entry

-- the nearest entry of a name, if the name is in force
abbrev pub look : List ℕ → Scope → Option Entry
look x S = find (λ e. bytes_eq x e.text) S

-- ---- what declarations put in force

abbrev pub variable_spot : Home → Variable Name → Spot
variable_spot h (single t x) = Number h
variable_spot h (array t x p n) = Array h n

abbrev pub variable_name : Variable Name → Name
variable_name (single t x) = x
variable_name (array t x p n) = x

abbrev pub variable_entry : Home → Variable Name → Entry
variable_entry h v = record { text = (variable_name v).text; spot = variable_spot h v; params = [] }

-- a block's variables, from the frame's cell k on
abbrev pub with_locals : List (Variable Name) → ℕ → Scope → Scope
with_locals [] k S = S
with_locals (v ∷ vs) k S = with_locals vs (k + cells v) (variable_entry (Local k) v ∷ S)

-- a function's parameters, from the frame's cell k on
abbrev pub with_params : List (Param Name) → ℕ → Scope → Scope
with_params [] k S = S
with_params (number_param t x ∷ ps) k S = with_params ps (k + 1) (record { text = x.text; spot = Number (Local k); params = [] } ∷ S)
with_params (array_param t x ∷ ps) k S = with_params ps (k + 2) (record { text = x.text; spot = Handed k; params = [] } ∷ S)

abbrev pub function_entry : TypeName → Name → List (Param Name) → ℕ → Entry
function_entry t f ps j = record { text = f.text; spot = Function t j; params = ps }

-- the names that are there from the start
abbrev pub input_entry : Entry
input_entry = record { text = codes "input"; spot = Input; params = [] }

abbrev pub output_entry : Entry
output_entry = record {
  text = codes "output";
  spot = Output;
  params = number_param Int (record { place = 0; text = codes "x" }) ∷ [];
}

abbrev pub begin : Scope
begin = output_entry ∷ input_entry ∷ []

-- ---- each name with its meaning

-- the name of a declaration, with what it means
abbrev pub meant : Name → Spot → Meant
meant x s = record { place = x.place; spot = Some s }

-- a name that is used, with what it means in the scope, if anything
abbrev pub found : Scope → Name → Meant
found S x = record { place = x.place; spot = option_map (λ e. e.spot) (look x.text S) }

abbrev mutual
  pub resolve_expr : Scope → Expr Name → Expr Meant
  resolve_expr S (literal p n) = literal p n
  resolve_expr S (variable v) = variable (resolve_var S v)
  resolve_expr S (paren p e) = paren p (resolve_expr S e)
  resolve_expr S (binary a o p b) = binary (resolve_expr S a) o p (resolve_expr S b)
  resolve_expr S (assign v e) = assign (resolve_var S v) (resolve_expr S e)
  resolve_expr S (call f p es) = call (found S f) p (resolve_args S es)

  pub resolve_var : Scope → Var Name → Var Meant
  resolve_var S (simple x) = simple (found S x)
  resolve_var S (element x e) = element (found S x) (resolve_expr S e)

  pub resolve_args : Scope → Args Name → Args Meant
  resolve_args S no_args = no_args
  resolve_args S (arg e es) = arg (resolve_expr S e) (resolve_args S es)

abbrev pub resolve_variable : Home → Variable Name → Variable Meant
resolve_variable h (single t x) = single t (meant x (Number h))
resolve_variable h (array t x p n) = array t (meant x (Array h n)) p n

abbrev pub resolve_locals : List (Variable Name) → ℕ → List (Variable Meant)
resolve_locals [] k = []
resolve_locals (v ∷ vs) k = resolve_variable (Local k) v ∷ resolve_locals vs (k + cells v)

abbrev pub resolve_params : List (Param Name) → ℕ → List (Param Meant)
resolve_params [] k = []
resolve_params (number_param t x ∷ ps) k = number_param t (meant x (Number (Local k))) ∷ resolve_params ps (k + 1)
resolve_params (array_param t x ∷ ps) k = array_param t (meant x (Handed k)) ∷ resolve_params ps (k + 2)

-- a statement where the first k cells of the frame are taken
abbrev mutual
  pub resolve_stmt : Scope → ℕ → Stmt Name → Stmt Meant
  resolve_stmt S k empty = empty
  resolve_stmt S k (expression e) = expression (resolve_expr S e)
  resolve_stmt S k (compound b) = compound (resolve_block S k b)
  resolve_stmt S k (if_then p e s) = if_then p (resolve_expr S e) (resolve_stmt S k s)
  resolve_stmt S k (if_else p e s u) = if_else p (resolve_expr S e) (resolve_stmt S k s) (resolve_stmt S k u)
  resolve_stmt S k (while p e s) = while p (resolve_expr S e) (resolve_stmt S k s)
  resolve_stmt S k (return p) = return p
  resolve_stmt S k (return_value p e) = return_value p (resolve_expr S e)

  pub resolve_stmts : Scope → ℕ → Stmts Name → Stmts Meant
  resolve_stmts S k no_stmts = no_stmts
  resolve_stmts S k (stmt s ss) = stmt (resolve_stmt S k s) (resolve_stmts S k ss)

  pub resolve_block : Scope → ℕ → Block Name → Block Meant
  resolve_block S k (block vs ss) = block (resolve_locals vs k) (resolve_stmts (with_locals vs k S) (k + room vs) ss)

-- the scope of a function's body before its own variables: the function itself and its parameters, which begin after two cells
abbrev pub inside : TypeName → Name → List (Param Name) → ℕ → Scope → Scope
inside t f ps j S = with_params ps 2 (function_entry t f ps j ∷ S)

-- declarations after which g cells of globals and j functions
abbrev pub resolve_decls : Scope → (g j : ℕ) → Rule → Program Meant
resolve_decls S g j [] = []
resolve_decls S g j (global v ∷ ds) =
    global (resolve_variable (Global g) v) ∷ resolve_decls (variable_entry (Global g) v ∷ S) (g + cells v) j ds
resolve_decls S g j (function t f p ps b ∷ ds) =
    function t (meant f (Function t j)) p (resolve_params ps 2) (resolve_block (inside t f ps j S) (2 + width ps) b)
    ∷ resolve_decls (function_entry t f ps j ∷ S) g (j + 1) ds

abbrev pub resolve : Rule → Program Meant
resolve P = resolve_decls begin 0 0 P
