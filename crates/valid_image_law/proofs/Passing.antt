-- What the tests of operands, sizes and handlers tell.
use Rattle.std.proofs.Common.{◌≡◌, ◌≤◌, ◌+◌, ℕ, zero, suc, List, [], ◌∷◌, length, Option, Some, None, arith, refl, ap, sym, ◌∙◌, true, false, Bool}
use Rattle.std.specs.Prelude.{ℤ, not, cond, nat_eq, slice_get}
use Rattle.std.proofs.lemmas.Option.{slice_get_within}
use Rattle.std.proofs.lemmas.Bool.{and_parts, eqb-true}
use Rattle.machine_isa.specs.declared.instr.Instr.{Instr}
use Rattle.machine_semantics.specs.Trees.{Segs}
use Rattle.machine_semantics.specs.Image.{Image, Monitor, Routine, Process}
use Rattle.machine_semantics.specs.Run.{words_of}
use Rattle.valid_image.specs.Fault.{Fault, or_else, unless, first_of, of_some}
use Rattle.valid_image.specs.Pieces.{belongs, piece_number}
use Rattle.valid_image.specs.Operands.{Whose, whose_routine, whose_process, bad_operand, shown_operand, operand_fault_at, operand_fault_in, operand_fault}
use Rattle.valid_image.specs.Shape.{is_handler, handler_fault}
use Rattle.valid_image.specs.Sizes as size
use Rattle.valid_image.specs.Tables.{handler_start, reach, tree_waits}
use Rattle.valid_image_law.proofs.Firsts.{neither, passed_test, none_of, none_of_all}
use Rattle.valid_image_law.proofs.Rows.{at_least_needed, is_due}

-- ---- operands

shown_none : (a : ℕ) (o : Option ℤ) → shown_operand a o ≡ None → o ≡ None
shown_none a None is = refl
shown_none a (Some z) is = absurd cc

-- no instruction of a piece has a bad operand
in_piece : (image : Image) (k : ℕ) (w : Whose) → operand_fault_in image k w ≡ None → (a : ℕ) (instr : Instr) → belongs image k a ≡ true → slice_get image.code a ≡ Some instr → bad_operand image w instr ≡ None
in_piece image k w none a instr own at =
    let here : operand_fault_at image k w a ≡ None = none_of (operand_fault_at image k w) (length image.code) 0 a none (omega arith) (omega (arith, slice_get_within image.code a instr at)) in
    let one : cond true (of_some (λ x. shown_operand a (bad_operand image w x)) (slice_get image.code a)) None ≡ None = ap (λ b. cond b (of_some (λ x. shown_operand a (bad_operand image w x)) (slice_get image.code a)) None) (sym own) ∙ here in
    shown_none a (bad_operand image w instr) (sym (ap (λ o. of_some (λ x. shown_operand a (bad_operand image w x)) o) at) ∙ one)

module _ (image : Image) (none : operand_fault image ≡ None) where
  abbrev in_routine : ℕ → Routine → Option Fault
  in_routine r x = operand_fault_in image r (whose_routine r x)

  abbrev in_process : ℕ → Process → Option Fault
  in_process k p = operand_fault_in image (piece_number image k) (whose_process image k p)

  halves : (first_of (λ r. of_some (in_routine r) (slice_get image.routines r)) (length image.routines) 0 ≡ None) × (first_of (λ k. of_some (in_process k) (slice_get image.processes k)) (length image.processes) 0 ≡ None)
  halves = neither (first_of (λ r. of_some (in_routine r) (slice_get image.routines r)) (length image.routines) 0) (first_of (λ k. of_some (in_process k) (slice_get image.processes k)) (length image.processes) 0) none

  pub routine_operands : (r : ℕ) (x : Routine) → slice_get image.routines r ≡ Some x → (a : ℕ) (instr : Instr) → belongs image r a ≡ true → slice_get image.code a ≡ Some instr → bad_operand image (whose_routine r x) instr ≡ None
  routine_operands r x at = in_piece image r (whose_routine r x) (none_of_all in_routine image.routines halves.0 r x at)

  pub process_operands : (k : ℕ) (p : Process) → slice_get image.processes k ≡ Some p → (a : ℕ) (instr : Instr) → belongs image (piece_number image k) a ≡ true → slice_get image.code a ≡ Some instr → bad_operand image (whose_process image k p) instr ≡ None
  process_operands k p at = in_piece image (piece_number image k) (whose_process image k p) (none_of_all in_process image.processes halves.1 k p at)

-- ---- sizes

-- words that follow one another from a base on end at the sum of all
abbrev due_from : ℕ → List Monitor → ℕ → ℕ
due_from b ms zero = b
due_from b ms (suc m) = size.end_of_words (slice_get ms m)

words_end : (b : ℕ) (ms : List Monitor) → ((m : ℕ) (x : Monitor) → slice_get ms m ≡ Some x → x.base ≡ due_from b ms m) → (m : ℕ) (x : Monitor) → slice_get ms m ≡ Some x → x.base + x.words ≤ b + words_of ms
words_end b [] due m x at = absurd cc
words_end b (y ∷ ys) due zero x at = let same : y ≡ x = cc in omega (arith, due 0 y refl, ap (λ (z : Monitor). z.base) same, ap (λ (z : Monitor). z.words) same)
words_end b (y ∷ ys) due (suc m) x at =
    let first : y.base ≡ b = due 0 y refl in
    let rest : x.base + x.words ≤ (y.base + y.words) + words_of ys = words_end (y.base + y.words) ys later m x at in
    omega (arith, first, rest)
  where
    later : (n : ℕ) (z : Monitor) → slice_get ys n ≡ Some z → z.base ≡ due_from (y.base + y.words) ys n
    later zero z there = due 1 z there
    later (suc n) z there = due (suc (suc n)) z there

module _ (image : Image) (none : size.size_fault image ≡ None) where
  abbrev params_test : Option Fault
  params_test = first_of (λ r. of_some (λ x. size.below x.locals x.params) (slice_get image.routines r)) (length image.routines) 0

  abbrev stacks_test : Option Fault
  stacks_test = first_of (λ k. of_some (λ p. size.below p.stack (size.needed_stack image p)) (slice_get image.processes k)) (length image.processes) 0

  abbrev bases_test : Option Fault
  bases_test = first_of (λ m. of_some (λ x. size.other x.base (size.due_base image.monitors m)) (slice_get image.monitors m)) (length image.monitors) 0

  all_pass : (params_test ≡ None) × (stacks_test ≡ None) × (bases_test ≡ None)
  all_pass =
      let one = neither params_test (or_else stacks_test (or_else bases_test (size.below 1048576 (size.words_over_all image)))) none in
      let two = neither stacks_test (or_else bases_test (size.below 1048576 (size.words_over_all image))) one.1 in
      (one.0, two.0, (neither bases_test (size.below 1048576 (size.words_over_all image)) two.1).0)

  pub params_fit : (r : ℕ) (x : Routine) → slice_get image.routines r ≡ Some x → x.params ≤ x.locals
  params_fit r x at = at_least_needed x.locals x.params (none_of_all (λ r x. size.below x.locals x.params) image.routines all_pass.0 r x at)

  pub stack_fits : (k : ℕ) (p : Process) → slice_get image.processes k ≡ Some p → size.needed_stack image p ≤ p.stack
  stack_fits k p at = at_least_needed p.stack (size.needed_stack image p) (none_of_all (λ k p. size.below p.stack (size.needed_stack image p)) image.processes all_pass.1 k p at)

  pub bases_fit : (m : ℕ) (x : Monitor) → slice_get image.monitors m ≡ Some x → x.base + x.words ≤ words_of image.monitors
  bases_fit m x at = let w = words_end 0 image.monitors due m x at in omega (arith, w) where
    due : (n : ℕ) (y : Monitor) → slice_get image.monitors n ≡ Some y → y.base ≡ due_from 0 image.monitors n
    due zero y there = is_due y.base (size.due_base image.monitors 0) (none_of_all (λ m x. size.other x.base (size.due_base image.monitors m)) image.monitors all_pass.2 0 y there)
    due (suc n) y there = is_due y.base (size.due_base image.monitors (suc n)) (none_of_all (λ m x. size.other x.base (size.due_base image.monitors m)) image.monitors all_pass.2 (suc n) y there)

-- ---- handlers

pub record HandlerStands (image : Image) (p : Process) (tree : Segs) : Type 0 where
  pub place : p.handler ≡ handler_start p
  pub silent : tree_waits (reach image) tree ≡ false

pub handler_stands : (image : Image) → handler_fault image ≡ None → (k : ℕ) (p : Process) → slice_get image.processes k ≡ Some p → (tree : Segs) → p.handler_tree ≡ Some tree → HandlerStands image p tree
handler_stands image none k p at tree is =
    let t : is_handler image p p.handler_tree ≡ true = passed_test (is_handler image p p.handler_tree) k 0 (none_of_all (λ k p. unless (is_handler image p p.handler_tree) k 0) image.processes none k p at) in
    let b = and_parts (nat_eq p.handler (handler_start p)) (not (tree_waits (reach image) tree)) (sym (ap (λ o. is_handler image p o) is) ∙ t) in
    record { place = eqb-true p.handler (handler_start p) b.0; silent = not_true (tree_waits (reach image) tree) b.1 }
  where
    not_true : (b : Bool) → not b ≡ true → b ≡ false
    not_true false is = refl
    not_true true is = absurd cc
