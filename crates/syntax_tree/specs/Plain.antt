-- Programs as plain data, without places and closing names: one case for each form of the grammar.
-- The meaning of a program, its costs and its code are defined over these.
use Rattle.std.specs.Prelude.{ℕ, Bool, List, Option}

-- the bytes of an identifier
abbrev pub Name : Type 0
Name = List ℕ

-- a literal or the name of a constant, with or without a minus
pub data Constant : Type 0 where
  literal_constant : (minus : Bool) → ℕ → Constant
  named_constant : (minus : Bool) → Name → Constant

pub data Scalar : Type 0 where
  int : Scalar
  boolean : Scalar
  subrange : (low high : Constant) → Scalar

pub data Kind : Type 0 where
  scalar : Scalar → Kind
  array : (low high : Constant) → Scalar → Kind

pub record Var : Type 0 where
  pub name : Name
  pub kind : Kind

pub record Param : Type 0 where
  pub name : Name
  pub kind : Scalar

pub data Op : Type 0 where
  or : Op
  and : Op
  equal : Op
  unequal : Op
  less : Op
  less_equal : Op
  greater : Op
  greater_equal : Op
  add : Op
  sub : Op
  mul : Op
  div : Op
  remainder : Op

mutual
  pub data Expr : Type 0 where
    literal : ℕ → Expr
    truth : Bool → Expr
    variable : Name → Expr
    element : Name → Expr → Expr
    call : Name → Exprs → Expr
    minus : Expr → Expr
    negation : Expr → Expr
    paren : Expr → Expr
    row : Expr → Operands → Expr

  pub data Exprs : Type 0 where
    no_exprs : Exprs
    exprs : Expr → Exprs → Exprs

  -- the operators of one row, each with its right operand
  pub data Operands : Type 0 where
    no_operands : Operands
    operand : Op → Expr → Operands → Operands

-- what is assigned to
pub data Ref : Type 0 where
  whole : Name → Ref
  part : Name → Expr → Ref

mutual
  pub data Stmt : Type 0 where
    assign : Ref → Expr → Stmt
    assign_entry : Ref → (mon entry : Name) → Exprs → Stmt
    assign_empty : Ref → (cond : Name) → Stmt
    perform : Name → Exprs → Stmt
    perform_entry : (mon entry : Name) → Exprs → Stmt
    when : Expr → Stmts → Stmt
    when_else : Expr → Stmts → Stmts → Stmt
    loop : Name → (low high : Constant) → Stmts → Stmt
    exit_when : Expr → Stmt
    get : (dev : Name) → Ref → Stmt
    put : (dev : Name) → Expr → Stmt
    wait : (cond : Name) → (limit number : Constant) → Stmt
    signal : (cond : Name) → Stmt
    broadcast : (cond : Name) → Stmt
    except : Constant → Stmt
    assert : Expr → Stmt

  pub data Stmts : Type 0 where
    no_stmts : Stmts
    stmts : Stmt → Stmts → Stmts

-- what a function answers
pub record Answers : Type 0 where
  pub kind : Scalar
  pub value : Expr

-- a procedure, or a function where it answers
pub record Routine : Type 0 where
  pub name : Name
  pub params : List Param
  pub vars : List Var
  pub body : Stmts
  pub answers : Option Answers

pub data Member : Type 0 where
  variable_member : Var → Member
  condition_member : Name → Member

pub record Monitor : Type 0 where
  pub name : Name
  pub members : List Member
  pub entries : List Routine

pub data Trigger : Type 0 where
  periodic : (frame : Constant) → (deadline : Option Constant) → (first : Option Constant) → Trigger
  at_event : (event : Name) → (frame : Constant) → (deadline : Option Constant) → Trigger

pub record Handler : Type 0 where
  pub numbers : List Constant
  pub body : Stmts

pub record Process : Type 0 where
  pub name : Name
  pub activation : Trigger
  pub vars : List Var
  pub routines : List Routine
  pub body : Stmts
  pub handler : Option Handler

pub data Declaration : Type 0 where
  constant : Name → Constant → Declaration
  device : Name → (is_out : Bool) → Declaration
  event : Name → Declaration
  routine : Routine → Declaration
  monitor : Monitor → Declaration
  process : Process → Declaration

pub record Program : Type 0 where
  pub name : Name
  pub decls : List Declaration
