-- The innermost frame at hand, and put back.
use Rattle.std.proofs.Common.{◌≡◌, ◌≤◌, ◌+◌, ◌-◌, ◌*◌, ◌++◌, ℕ, List, [], ◌∷◌, length, reverse, map, take, drop, arith, refl, ap, sym, ◌∙◌}
use Rattle.std.specs.Prelude.{ℤ}
use Rattle.std.proofs.Math.Seq.{drop-append_seam}
use Rattle.std.proofs.Math.ListN.{drop_of_length-le}
use Rattle.std.proofs.lemmas.List.{with_items_is, append-nil, take-take, drop-take, length-append, length-take, length-drop, length-reverse}
use Rattle.std.proofs.lemmas.Slice.{take-put_mid, take-put_mid_below}
use borrow.Rule.Slice.PartMut.{put_mid}
use borrow.Rule.Slice.PartAt.{part_to_end}
use Rattle.std.specs.Vec.{with_items}
use Rattle.machine_semantics.specs.State.{Operand, Caller, Job, stack_below}
use Rattle.vm_instructions.specs.declared.operand.Operand.{Operand as Kept}
use Rattle.vm_instructions.specs.declared.frames.Mark.{Mark}
use Rattle.vm_instructions.specs.declared.frames.Frames.TheInside.{Inside}
use Rattle.vm_instructions.specs.Frames.{Frames, operand_of}
use Rattle.vm_instructions.specs.Inside.{part, operands_of, callers_of, laid_out, standing, Ascend, AreLaid}
use Rattle.vm_instructions.specs.Stack.{Fits, IsWithinRoom, own_in, stacked}
use Rattle.vm_instructions.specs.Silent.{job_of, own_of}
use Rattle.vm_instructions.specs.declared.cursor.Cursor.{Cursor}
use Rattle.vm_instructions.specs.declared.activation.Activation.{Activation}
use Rattle.vm_instructions.proofs.Rows.{below_is}

-- its operands stand in the rest of the row
pub opened : (floor top : ℕ) (row : List Kept) → floor ≤ top → stacked (top - floor) (drop floor row) ≡ operands_of floor top row
opened floor top row begins =
    let e : floor + (top - floor) ≡ top = omega arith in
    ap (λ (xs : List Kept). map operand_of (reverse xs)) (sym (drop-take floor (top - floor) row) ∙ ap (λ (n : ℕ). drop floor (take n row)) e)

-- a part that was put into a row
put_part : {X : Type 0} (a k b : ℕ) (row mid : List X) → a ≤ length row → length mid ≡ k → b ≡ a + k → part a b (put_mid a k row mid) ≡ mid
put_part a k b row mid within long ends =
    let e : take b (put_mid a k row mid) ≡ take a row ++ mid = take-put_mid a k row mid b (omega (arith, ends, long)) within in
    let f : length (take a row) ≡ a = omega (arith, length-take a row) in
    ap (λ (xs : List _). drop a xs) e ∙ ap (λ (n : ℕ). drop n (take a row ++ mid)) (sym f) ∙ drop-append_seam (take a row) mid

-- the row is as long as it was
pub put_long : {X : Type 0} (a k : ℕ) (row mid : List X) → a + k ≤ length row → length mid ≡ k → length (put_mid a k row mid) ≡ length row
put_long a k row mid within long =
    omega (arith, long, length-append (take a row) (mid ++ drop k (drop a row)), length-append mid (drop k (drop a row)), length-take a row, length-drop k (drop a row), length-drop a row)

-- a part up to the end of the row
put_rest : {X : Type 0} (a k : ℕ) (row mid : List X) → a ≤ length row → length row ≤ a + k → drop a (put_mid a k row mid) ≡ mid
put_rest a k row mid within whole =
    let none : drop k (drop a row) ≡ [] = drop_of_length-le (drop a row) (omega (arith, length-drop a row)) in
    let f : length (take a row) ≡ a = omega (arith, length-take a row) in
    ap (λ (xs : List _). drop a (take a row ++ (mid ++ xs))) none ∙ ap (λ (n : ℕ). drop n (take a row ++ (mid ++ []))) (sym f) ∙ drop-append_seam (take a row) (mid ++ []) ∙ append-nil mid

-- the callers' frames lie below
callers_below : (ms : List Mark) (row row' : List Kept) (locals locals' : List ℤ) (base floor : ℕ) → Ascend ms base floor → take floor row ≡ take floor row' → take base locals ≡ take base locals' → callers_of ms row locals base floor ≡ callers_of ms row' locals' base floor
callers_below [] row row' locals locals' base floor up same same' = refl
callers_below (m ∷ ms) row row' locals locals' base floor up same same' =
    let front : take m.floor row ≡ take m.floor row' = sym (take-take m.floor floor row up.1) ∙ ap (λ (xs : List Kept). take m.floor xs) same ∙ take-take m.floor floor row' up.1 in
    let front' : take m.base locals ≡ take m.base locals' = sym (take-take m.base base locals up.0) ∙ ap (λ (xs : List ℤ). take m.base xs) same' ∙ take-take m.base base locals' up.0 in
    ap (λ (xs : List ℤ). record { back = m.back; locals = drop m.base xs; operands = operands_of m.floor floor row } ∷ callers_of ms row locals m.base m.floor) same'
    ∙ ap (λ (xs : List Kept). record { back = m.back; locals = part m.base base locals'; operands = map operand_of (reverse (drop m.floor xs)) } ∷ callers_of ms row locals m.base m.floor) same
    ∙ ap (λ (cs : List Caller). record { back = m.back; locals = part m.base base locals'; operands = operands_of m.floor floor row' } ∷ cs) (callers_below ms row row' locals locals' m.base m.floor up.2 front front')

-- what a frame at hand leaves, once it is put back
pub put_back : (s : Inside) (stack : List Kept) (top : ℕ) (locals : List ℤ) → AreLaid s → length stack ≡ length s.operands.items - s.floor → length locals ≡ s.size - s.base → top ≤ length stack
    → laid_out (put_mid s.floor (length s.operands.items - s.floor) s.operands.items stack) (put_mid s.base (s.size - s.base) s.locals.items locals) s.marks.items s.floor (s.floor + top) s.base s.size
    ≡ record (standing s) { locals = locals; operands = stacked top stack }
put_back s stack top locals laid long long' within =
    let row : List Kept = put_mid s.floor (length s.operands.items - s.floor) s.operands.items stack in
    let words : List ℤ = put_mid s.base (s.size - s.base) s.locals.items locals in
    let count : length row ≡ length s.operands.items = put_long s.floor (length s.operands.items - s.floor) s.operands.items stack (omega (arith, laid.operands_begin, laid.operands_room)) long in
    let mine : part s.base s.size words ≡ locals = put_part s.base (s.size - s.base) s.size s.locals.items locals (omega (arith, laid.locals_begin, laid.locals_room)) long' (omega (arith, laid.locals_begin)) in
    let rest : drop s.floor row ≡ stack = put_rest s.floor (length s.operands.items - s.floor) s.operands.items stack (omega (arith, laid.operands_begin, laid.operands_room)) (omega arith) in
    let operands : operands_of s.floor (s.floor + top) row ≡ stacked top stack = ap (λ (xs : List Kept). map operand_of (reverse xs)) (drop-take s.floor top row ∙ ap (λ (xs : List Kept). take top xs) rest) in
    let callers : callers_of (reverse s.marks.items) row words s.base s.floor ≡ callers_of (reverse s.marks.items) s.operands.items s.locals.items s.base s.floor =
    callers_below (reverse s.marks.items) row s.operands.items words s.locals.items s.base s.floor laid.ascend
    (take-put_mid_below s.floor (length s.operands.items - s.floor) s.operands.items stack s.floor (omega arith) (omega (arith, laid.operands_begin, laid.operands_room)))
    (take-put_mid_below s.base (s.size - s.base) s.locals.items locals s.base (omega arith) (omega (arith, laid.locals_begin, laid.locals_room))) in
    ap (λ (n : ℕ). record { room = n; locals = part s.base s.size words; operands = operands_of s.floor (s.floor + top) row; callers = callers_of (reverse s.marks.items) row words s.base s.floor }) count
    ∙ ap (λ (xs : List ℤ). record { room = length s.operands.items; locals = xs; operands = operands_of s.floor (s.floor + top) row; callers = callers_of (reverse s.marks.items) row words s.base s.floor }) mine
    ∙ ap (λ (os : List Operand). record { room = length s.operands.items; locals = locals; operands = os; callers = callers_of (reverse s.marks.items) row words s.base s.floor }) operands
    ∙ ap (λ (cs : List Caller). record { room = length s.operands.items; locals = locals; operands = stacked top stack; callers = cs }) callers

-- ---- an activation, and its innermost frame at hand

module _ (s : Inside) (job : Activation) (j : Job) (row : List Kept) (words : List ℤ) (laid : AreLaid s) (is : standing s ≡ job.frames) (same : j ≡ job_of job) (row_is : row ≡ s.operands.items) (words_is : words ≡ s.locals.items) where
  -- its operands and its locals
  abbrev stack_of_it : List Kept
  stack_of_it = take (length row - s.floor) (drop s.floor row)

  abbrev locals_of_it : List ℤ
  locals_of_it = take (s.size - s.base) (drop s.base words)

  abbrev at_it : Cursor
  at_it = record { place = job.place; done = job.done; top = s.top - s.floor }

  stack_is : stack_of_it ≡ drop s.floor s.operands.items
  stack_is = part_to_end row s.floor ∙ ap (λ (xs : List Kept). drop s.floor xs) row_is

  locals_are : locals_of_it ≡ part s.base s.size s.locals.items
  locals_are =
      let e : s.base + (s.size - s.base) ≡ s.size = omega (arith, laid.locals_begin) in
      ap (λ (xs : List ℤ). take (s.size - s.base) (drop s.base xs)) words_is ∙ sym (drop-take s.base (s.size - s.base) s.locals.items) ∙ ap (λ (n : ℕ). drop s.base (take n s.locals.items)) e

  pub stack_long : length stack_of_it ≡ length s.operands.items - s.floor
  stack_long = ap (λ (xs : List Kept). length xs) stack_is ∙ length-drop s.floor s.operands.items

  pub locals_long : length locals_of_it ≡ s.size - s.base
  locals_long = ap (λ (xs : List ℤ). length xs) locals_are ∙ omega (arith, laid.locals_room, length-drop s.base (take s.size s.locals.items), length-take s.size s.locals.items)

  pub own_at_hand : (owned shared : List ℤ) → own_in j at_it stack_of_it locals_of_it owned shared ≡ own_of job owned shared
  own_at_hand owned shared =
      let os : stacked (s.top - s.floor) stack_of_it ≡ job.frames.operands = ap (λ (xs : List Kept). stacked (s.top - s.floor) xs) stack_is ∙ opened s.floor s.top s.operands.items laid.operands_begin ∙ ap (λ (f : Frames). f.operands) is in
      let ls : locals_of_it ≡ job.frames.locals = locals_are ∙ ap (λ (f : Frames). f.locals) is in
      ap (λ (i : Job). own_in i at_it stack_of_it locals_of_it owned shared) same
      ∙ ap (λ (xs : List Operand). record { job = record (job_of job) { locals = locals_of_it; operands = xs }; owned = owned; shared = shared }) os
      ∙ ap (λ (xs : List ℤ). record { job = record (job_of job) { locals = xs }; owned = owned; shared = shared }) ls

  below : stack_below j.callers ≡ s.base + s.floor + 2 * length s.marks.items
  below =
      let e : stack_below j.callers ≡ stack_below (callers_of (reverse s.marks.items) s.operands.items s.locals.items s.base s.floor) = ap (λ (i : Job). stack_below i.callers) same ∙ ap (λ (f : Frames). stack_below f.callers) (sym is) in
      let n : length (reverse s.marks.items) ≡ length s.marks.items = length-reverse s.marks.items in
      e ∙ below_is (reverse s.marks.items) s.operands.items s.locals.items s.base s.floor laid.ascend (omega (arith, laid.locals_begin, laid.locals_room)) (omega (arith, laid.operands_begin, laid.operands_room)) ∙ ap (λ (k : ℕ). s.base + s.floor + 2 * k) n

  pub fits_at_hand : (room : ℕ) → room ≡ job.frames.room → Fits room j (s.top - s.floor) stack_of_it locals_of_it
  fits_at_hand room has =
      let r : room ≡ length s.operands.items = has ∙ ap (λ (f : Frames). f.room) (sym is) in (
        omega (arith, stack_long, laid.operands_begin, laid.operands_room),
        omega (arith, r, stack_long, locals_long, below, laid.operands_begin, laid.operands_room, laid.locals_begin),
      )

  pub room_at_hand : (room : ℕ) → room ≡ job.frames.room → IsWithinRoom room j (s.top - s.floor) locals_of_it
  room_at_hand room has =
      let r : room ≡ length s.operands.items = has ∙ ap (λ (f : Frames). f.room) (sym is) in
      omega (arith, r, locals_long, below, laid.operands_begin, laid.locals_begin, laid.fits)

  -- and put back, with so many operands
  module _ (stack : List Kept) (locals : List ℤ) (top : ℕ) (long : length stack ≡ length stack_of_it) (long' : length locals ≡ length locals_of_it) (within : top ≤ length stack) where
    abbrev back : Inside
    back = record s {
      operands = with_items s.operands (put_mid s.floor (length row - s.floor) row stack);
      locals = with_items s.locals (put_mid s.base (s.size - s.base) words locals);
      top = s.floor + top;
    }

    row_long : length (put_mid s.floor (length row - s.floor) row stack) ≡ length row
    row_long =
        let r : length row ≡ length s.operands.items = ap (λ (xs : List Kept). length xs) row_is in
        put_long s.floor (length row - s.floor) row stack (omega (arith, r, laid.operands_begin, laid.operands_room)) (omega (arith, long, stack_long, r))

    words_long : length (put_mid s.base (s.size - s.base) words locals) ≡ length words
    words_long =
        let r : length words ≡ length s.locals.items = ap (λ (xs : List ℤ). length xs) words_is in
        put_long s.base (s.size - s.base) words locals (omega (arith, r, laid.locals_begin, laid.locals_room)) (long' ∙ locals_long)

    row_items : back.operands.items ≡ put_mid s.floor (length row - s.floor) row stack
    row_items = with_items_is s.operands (put_mid s.floor (length row - s.floor) row stack) (row_long ∙ ap (λ (xs : List Kept). length xs) row_is ∙ sym s.operands.ok.0)

    words_items : back.locals.items ≡ put_mid s.base (s.size - s.base) words locals
    words_items = with_items_is s.locals (put_mid s.base (s.size - s.base) words locals) (words_long ∙ ap (λ (xs : List ℤ). length xs) words_is ∙ sym s.locals.ok.0)

    pub frames_back : standing back ≡ record (job.frames) { locals = locals; operands = stacked top stack }
    frames_back =
        ap (λ (xs : List Kept). laid_out xs back.locals.items s.marks.items s.floor (s.floor + top) s.base s.size) (row_items ∙ ap (λ (xs : List Kept). put_mid s.floor (length xs - s.floor) xs stack) row_is)
        ∙ ap (λ (xs : List ℤ). laid_out (put_mid s.floor (length s.operands.items - s.floor) s.operands.items stack) xs s.marks.items s.floor (s.floor + top) s.base s.size) (words_items ∙ ap (λ (xs : List ℤ). put_mid s.base (s.size - s.base) xs locals) words_is)
        ∙ put_back s stack top locals laid (long ∙ stack_long) (long' ∙ locals_long) within
        ∙ ap (λ (f : Frames). record f { locals = locals; operands = stacked top stack }) is

    pub laid_back : (room : ℕ) → room ≡ job.frames.room → IsWithinRoom room j top locals → AreLaid back
    laid_back room has less =
        let r : room ≡ length s.operands.items = has ∙ ap (λ (f : Frames). f.room) (sym is) in
        let a : length back.operands.items ≡ length s.operands.items = ap (λ (xs : List Kept). length xs) row_items ∙ row_long ∙ ap (λ (xs : List Kept). length xs) row_is in
        let b : length back.locals.items ≡ length s.locals.items = ap (λ (xs : List ℤ). length xs) words_items ∙ words_long ∙ ap (λ (xs : List ℤ). length xs) words_is in
        record {
          locals_begin = laid.locals_begin;
          operands_begin = omega arith;
          locals_room = omega (arith, b, laid.locals_room);
          operands_room = omega (arith, a, within, long, stack_long, laid.operands_begin, laid.operands_room);
          same = omega (arith, a, b, laid.same);
          marks_room = omega (arith, a, laid.marks_room);
          fits = omega (arith, a, r, less, below, long', locals_long, laid.locals_begin);
          ascend = laid.ascend;
        }

    pub own_back : (place done : ℕ) (owned shared : List ℤ)
        → own_of (record job { place = place; done = done; frames = standing back }) owned shared ≡ own_in j (record { place = place; done = done; top = top }) stack locals owned shared
    own_back place done owned shared =
        ap (λ (f : Frames). own_of (record job { place = place; done = done; frames = f }) owned shared) frames_back
        ∙ ap (λ (i : Job). own_in i (record { place = place; done = done; top = top }) stack locals owned shared) (sym same)
