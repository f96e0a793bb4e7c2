-- What is known of each routine, from those before it: a routine calls those with lower numbers
-- alone.
use Rattle.std.specs.Prelude.{◌+◌, ◌++◌, ◌&&◌, ◌||◌, not, ℕ, Bool, true, false, cond, List, [], ◌∷◌, length, Option, Some, None, max, nat_eq, slice_get}
use Rattle.machine_isa.specs.declared.instr.Instr.{Instr}
use Rattle.machine_semantics.specs.Trees.{Seg, Segs, Line, Fork, Rep, Call, Stay, Wait, Exit, Nil, Cons, size}
use Rattle.machine_semantics.specs.Image.{Image, Routine, Process}
use Rattle.valid_image.specs.Found.{Known, Found, amount, guard, ended, tree_found, founds, is_return, is_end}
use Rattle.valid_image.specs.Pieces.{called, piece_number}

-- a table from below: each row is made from those before it
abbrev pub table : {A B : Type 0} → (List B → A → B) → List B → List A → List B
table make done [] = done
table make done (x ∷ xs) = table make (done ++ (make done x ∷ [])) xs

-- ---- what the trees say

abbrev pub count : Bool → ℕ
count true = 1
count false = 0

-- an entry has its owner's monitor
abbrev pub monitor_of : Routine → Option ℕ
monitor_of r = cond (nat_eq r.kind 2) (Some r.owner) None

-- what the code of a routine comes to, where it is of its tree: it ends at height 0, or at 1 before
-- RETV
abbrev pub routine_found : List Instr → List Known → Routine → Option Found
routine_found code known r =
    guard (is_return r.gives (slice_get code (r.start + size r.tree))) (ended (count r.gives) (tree_found code known (monitor_of r) r.tree r.start))

-- what the code of the body or the handler of a process comes to, where it is of its tree: it ends
-- at height 0, before END
abbrev pub part_found : List Instr → List Known → Segs → (at : ℕ) → Option Found
part_found code known tree at = guard (is_end (slice_get code (at + size tree))) (ended 0 (founds code known None None tree at 0))

abbrev pub nothing_found : Found
nothing_found = record { height = 0; cost = amount 0 0 0; depth = 0 }

abbrev pub found_or_nothing : Option Found → Found
found_or_nothing (Some f) = f
found_or_nothing None = nothing_found

-- a routine as it may be called: with the depth of its code and the cost that it declares
abbrev pub known_of : List Instr → List Known → Routine → Known
known_of code done r = record {
  params = r.params;
  results = count r.gives;
  locals = r.locals;
  depth = (found_or_nothing (routine_found code done r)).depth;
  cost = amount r.run r.susp r.waits;
}

abbrev pub known : Image → List Known
known image = table (known_of image.code) [] image.routines

-- the code of a body, and that of a handler, which stands right after the END of the body
abbrev pub body_found : Image → Process → Option Found
body_found image p = part_found image.code (known image) p.body p.start

abbrev pub handler_start : Process → ℕ
handler_start p = p.start + size p.body + 1

abbrev pub handler_found : Image → Process → Option Segs → Option Found
handler_found image p None = Some nothing_found
handler_found image p (Some tree) = part_found image.code (known image) tree (handler_start p)

-- ---- what is reached through calls

-- the longer of two stays, where there are any
abbrev pub longer_stay : Option ℕ → Option ℕ → Option ℕ
longer_stay None b = b
longer_stay (Some a) None = Some a
longer_stay (Some a) (Some b) = Some (max a b)

-- what a routine reaches, itself counted in
pub record Reach : Type 0 where
  -- a WAIT
  pub waits : Bool
  -- a routine of a process or an entry
  pub bound : Bool
  -- an entry of the monitor, and then the longest declared stay of such an entry
  pub stays : ℕ → Option ℕ

-- what a row says, where it is there
abbrev pub waits_of : Option Reach → Bool
waits_of None = false
waits_of (Some x) = x.waits

abbrev pub bound_of : Option Reach → Bool
bound_of None = false
bound_of (Some x) = x.bound

abbrev pub stays_of : ℕ → Option Reach → Option ℕ
stays_of m None = None
stays_of m (Some x) = x.stays m

-- what routine r reaches, by these rows
abbrev pub waits_at : List Reach → ℕ → Bool
waits_at rows r = waits_of (slice_get rows r)

abbrev pub bound_at : List Reach → ℕ → Bool
bound_at rows r = bound_of (slice_get rows r)

abbrev pub stays_at : List Reach → (m r : ℕ) → Option ℕ
stays_at rows m r = stays_of m (slice_get rows r)

-- a tree reaches a WAIT, by itself or through the routines that it calls
abbrev mutual
  pub seg_waits : List Reach → Seg → Bool
  seg_waits done (Line n) = false
  seg_waits done (Fork first second) = tree_waits done first || tree_waits done second
  seg_waits done (Rep n body) = tree_waits done body
  seg_waits done (Call r) = waits_at done r
  seg_waits done (Stay m body) = tree_waits done body
  seg_waits done Wait = true
  seg_waits done Exit = false

  pub tree_waits : List Reach → Segs → Bool
  tree_waits done Nil = false
  tree_waits done (Cons head rest) = seg_waits done head || tree_waits done rest

-- one of the routines passes the test
abbrev pub some_of : (ℕ → Bool) → List ℕ → Bool
some_of test [] = false
some_of test (r ∷ rs) = test r || some_of test rs

-- the longest of their stays
abbrev pub longest_of : (ℕ → Option ℕ) → List ℕ → Option ℕ
longest_of stay [] = None
longest_of stay (r ∷ rs) = longer_stay (stay r) (longest_of stay rs)

-- the stay of an entry, in its own monitor
abbrev pub own_stay : Routine → ℕ → Option ℕ
own_stay r m = cond (nat_eq r.kind 2 && nat_eq r.owner m) (Some r.stay) None

-- the next routine, after those before it
abbrev pub reach_of : Image → List Reach → Routine → Reach
reach_of image done r = record {
  waits = tree_waits done r.tree;
  bound = not (nat_eq r.kind 0) || some_of (bound_at done) (called image (length done));
  stays = λ m. longer_stay (own_stay r m) (longest_of (stays_at done m) (called image (length done)));
}

abbrev pub reach : Image → List Reach
reach image = table (reach_of image) [] image.routines

-- the longest declared stay, in monitor m, of an entry that process k reaches from its body or its
-- handler; none where it reaches none
abbrev pub stay_of_process : Image → (k m : ℕ) → Option ℕ
stay_of_process image k m = longest_of (stays_at (reach image) m) (called image (piece_number image k))
