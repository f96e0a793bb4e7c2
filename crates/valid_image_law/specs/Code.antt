-- When code is that of a segment tree, from one address on: which instructions stand where, and how
-- many values stand on the stack before and after each segment. Values count from the innermost
-- loop's counter.
use Rattle.std.specs.Prelude.{◌≡◌, ◌≤◌, ◌<◌, ◌+◌, ◌-◌, ℕ, zero, suc, Bool, true, false, ℤ, pos, List, Option, Some, None, slice_get}
use Rattle.machine_isa.specs.declared.instr.Instr.{Instr}
use Rattle.machine_isa.specs.declared.instr.Instr.TheVariants as i
use Rattle.machine_isa.specs.Operands.{takes, gives}
use Rattle.machine_semantics.specs.Trees.{Seg, Segs, Line, Fork, Rep, Call, Stay, Wait, Exit, Nil, Cons, size, size_of}
use Rattle.machine_semantics.specs.Image.{Routine}
use Rattle.valid_image.specs.Found.{in_line}
use Rattle.valid_image.specs.Tables.{count, monitor_of}

-- the instruction at an address
abbrev pub At : List Instr → ℕ → Instr → Type 0
At code a instr = slice_get code a ≡ Some instr

-- so many instructions that neither jump nor call nor wait, each with as many values as it takes
abbrev pub IsLine : List Instr → ℕ → (at values after : ℕ) → Type 0
IsLine code zero at values after = after ≡ values
IsLine code (suc n) at values after = record {
  instr : Instr;
  here : At code at instr;
  plain : in_line instr ≡ true;
  enough : takes instr ≤ values;
  more : IsLine code n (at + 1) (gives instr + (values - takes instr)) after;
}

-- The routines are those that may be called; out is the end of the innermost loop, held the monitor
-- that the code is inside.
abbrev mutual
  pub IsSegment : List Instr → List Routine → (out held : Option ℕ) → Seg → (at values after : ℕ) → Type 0
  IsSegment code routines out held (Line n) at values after = (0 < n) × IsLine code n at values after
  IsSegment code routines out held (Fork first second) at values after = record {
    kept : ℕ;
    takes_one : values ≡ suc kept;
    jumps_to_second : At code at (i.JumpZero (pos (at + 1 + size first + 1)));
    first_arm : IsCode code routines out held first (at + 1) kept after;
    jumps_past_second : At code (at + 1 + size first) (i.Jump (pos (at + size first + size second + 2)));
    second_arm : IsCode code routines out held second (at + 1 + size first + 1) kept after;
  }
  IsSegment code routines out held (Rep turns body) at values after = record {
    some : 0 < turns;
    counts : At code at (i.Repeats (pos turns));
    turn : IsCode code routines (Some (at + 1 + size body + 1)) held body (at + 1) 0 0;
    goes_back : At code (at + 1 + size body) (i.Repeat (pos (at + 1)));
    leaves_all : after ≡ values;
  }
  IsSegment code routines out held (Call r) at values after = record {
    calls : At code at (i.Call (pos r));
    routine : Routine;
    there : slice_get routines r ≡ Some routine;
    enough : routine.params ≤ values;
    result : after ≡ count routine.gives + (values - routine.params);
  }
  IsSegment code routines out held (Stay monitor body) at values after = ⊥
  IsSegment code routines out held Wait at values after = record {
    condition : ℤ;
    limit : ℤ;
    number : ℤ;
    waits : At code at (i.Wait condition limit number);
    monitor : ℕ;
    inside : held ≡ Some monitor;
    enters_again : At code (at + 1) (i.Reenter (pos monitor));
    leaves_all : after ≡ values;
  }
  IsSegment code routines out held Exit at values after = record {
    end : ℕ;
    in_loop : out ≡ Some end;
    goes_to_end : At code at (i.Exit (pos end));
    takes_one : values ≡ 1;
    leaves_none : after ≡ 0;
  }

  pub IsCode : List Instr → List Routine → (out held : Option ℕ) → Segs → (at values after : ℕ) → Type 0
  IsCode code routines out held Nil at values after = after ≡ values
  IsCode code routines out held (Cons head rest) at values after = record {
    between : ℕ;
    first : IsSegment code routines out held head at values between;
    later : IsCode code routines out held rest (at + size_of head) between after;
  }

-- an entry: its tree is one Stay, in its own monitor
abbrev pub IsEntry : List Instr → List Routine → (monitor : ℕ) → Segs → (at after : ℕ) → Type 0
IsEntry code routines monitor (Cons (Stay n body) Nil) at after = record {
  own : n ≡ monitor;
  enters : At code at (i.Enter (pos monitor));
  inside : IsCode code routines None (Some monitor) body (at + 1) 0 after;
  leaves : At code (at + 1 + size body) (i.Leave (pos monitor));
}
IsEntry code routines monitor _ at after = ⊥

-- an entry, or a routine that has no Stay
abbrev pub IsBody : List Instr → List Routine → (monitor : Option ℕ) → Segs → (at after : ℕ) → Type 0
IsBody code routines (Some monitor) tree at after = IsEntry code routines monitor tree at after
IsBody code routines None tree at after = IsCode code routines None None tree at 0 after

-- RETV where a value is given back, else RET
abbrev pub return_of : Bool → Instr
return_of true = i.ReturnValue
return_of false = i.Return

-- the code of a routine is of its tree, and it ends with its result as the one value, if it gives
-- one
pub record IsRoutine (code : List Instr) (routines : List Routine) (r : Routine) : Type 0 where
  pub body : IsBody code routines (monitor_of r) r.tree r.start (count r.gives)
  pub returns : At code (r.start + size r.tree) (return_of r.gives)

-- the code of the body or of the handler of a process is of its tree, with no value left
pub record IsPart (code : List Instr) (routines : List Routine) (tree : Segs) (at : ℕ) : Type 0 where
  pub body : IsCode code routines None None tree at 0 0
  pub ends : At code (at + size tree) i.End
