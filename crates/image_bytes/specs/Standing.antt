-- What the references stand for.
use Rattle.std.specs.Prelude.{◌≡◌, ℕ, List, [], Ok, Err, Option, Some, None}
use Rattle.machine_semantics.specs.Image.{Routine, Process}
use Rattle.machine_semantics.specs.Trees.{Segs, Nil}
use Rattle.image_format.specs.Format.{Format, Read}
use Rattle.image_format.specs.declared.view.SegBytes.{SegBytes}
use Rattle.image_format.specs.Stands.{tree_in}
use Rattle.image_bytes.specs.Fields.{counted_numbers, tree_fields, trees_fields}
use Rattle.image_bytes.specs.declared.numbers.HandlerNumbers.{HandlerNumbers}
use Rattle.image_bytes.specs.declared.reference.ProcessRef.{ProcessRef}
use Rattle.image_bytes.specs.declared.reference.RoutineRef.{RoutineRef}

-- what was read, where it was, and else the given
abbrev pub read_or : {A : Type 0} → A → Read A → A
read_or x (Ok y) = y.0
read_or x (Err e) = x

-- the numbers that a view of bytes stands for
unfoldable pub numbers_in : HandlerNumbers → List ℕ
numbers_in n = read_or [] ((counted_numbers n.count).read n.bytes.now)

abbrev pub routine_in : RoutineRef → Routine
routine_in r = record {
  kind = r.kind;
  owner = r.owner;
  params = r.params;
  locals = r.locals;
  gives = r.result;
  start = r.start;
  run = r.run;
  susp = r.susp;
  waits = r.waits;
  stay = r.stay;
  tree = read_or Nil (tree_fields.read r.trees.now);
}

-- the tree of a handler that a view stands for, where there is one
abbrev pub maybe_tree_in : Option SegBytes → Option Segs
maybe_tree_in None = None
maybe_tree_in (Some tree) = Some (tree_in tree)

-- the trees of a process, as its bytes tell them
abbrev pub trees_in : ProcessRef → Segs × Option Segs
trees_in p = read_or (Nil, None) ((trees_fields p.numbers.count).read p.trees.now)

abbrev pub process_in : ProcessRef → Process
process_in p = record {
  kind = p.kind;
  frame = p.frame;
  deadline = p.deadline;
  first = p.first;
  event = p.event;
  rank = p.rank;
  run = p.run;
  susp = p.susp;
  waits = p.waits;
  block = p.block;
  bound = p.bound;
  words = p.words;
  stack = p.stack;
  locals = p.locals;
  start = p.start;
  handler = p.handler;
  numbers = numbers_in p.numbers;
  body = (trees_in p).0;
  handler_tree = (trees_in p).1;
}

-- the thing that bytes are read as
abbrev pub IsRead : {A : Type 0} → Format A → List ℕ → A → Type 0
IsRead f bytes x = (rest : List ℕ) × (f.read bytes ≡ Ok (x, rest))
