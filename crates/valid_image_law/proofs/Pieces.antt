-- V1, V6 and V7: the tests of code, of operands and of handlers pass exactly where their rules hold.
use Rattle.std.proofs.Common.{◌≡◌, ◌<◌, inl, inr, ℕ, [], length, Option, Some, None, arith, refl, ap, sym, ◌∙◌, true, false, Bool}
use Rattle.std.specs.Prelude.{◌&&◌, not, cond, ℤ, nat_eq, take, slice_get}
use Rattle.std.proofs.lemmas.Bool.{and_from, and_parts, both_ways, false_from_ne_true, eqb-true, eq-eqb, cases_lt}
use Rattle.std.proofs.lemmas.Option.{slice_get_within}
use Rattle.base.proofs.Lists.{some_at, take_get, take_past, one_some}
use Rattle.machine_isa.specs.declared.instr.Instr.{Instr}
use Rattle.machine_semantics.specs.Trees.{Segs}
use Rattle.machine_semantics.specs.Image.{Image, Routine, Process}
use Rattle.valid_image.specs.Fault.{or_else, unless, of_some, first_in}
use Rattle.valid_image.specs.Found.{Known, Found}
use Rattle.valid_image.specs.Pieces.{belongs, pieces, due_start, piece_number}
use Rattle.valid_image.specs.Tables.{count, known, known_of, routine_found, part_found, body_found, handler_found, handler_start, reach, tree_waits}
use Rattle.valid_image.specs.Shape.{is_found, routine_shape_fault, process_shape_fault, coverage_fault, shape_fault, is_handler, handler_fault}
use Rattle.valid_image.specs.Operands.{Whose, whose_routine, whose_process, bad_operand, shown_operand, operand_fault_at, operand_fault_in, routines_operand_fault, processes_operand_fault, operand_fault}
use Rattle.valid_image_law.proofs.Firsts.{neither, passed_test, none_of_all, row_is, table_length}
use Rattle.valid_image_law.proofs.Passing as p
use Rattle.valid_image_law.specs.Code.{IsRoutine, IsPart}
use Rattle.valid_image_law.specs.PlainRules.{HasRoutine, CodeIsOfTrees, PieceFits, OperandsFit, HandlerStands, HandlersStand}
use Rattle.valid_image_law.proofs.Searches.{passes, both_none, none_from, none_in}
use Rattle.valid_image_law.proofs.Coding.{Described, Describe, Gives, routine_is, routine_gives, part_is, part_gives}
use Rattle.valid_image_law.proofs.Fitting.{fits, is_good}
use Rattle.valid_image_law.proofs.Reached.{waits_are_reached, addresses_belong_to_owners}

-- ---- rows of routines

known_row : (image : Image) (r : ℕ) (x : Routine) → HasRoutine image r x → slice_get (known image) r ≡ Some (known_of image.code (take r (known image)) x)
known_row image r x at = row_is (known_of image.code) image.routines r x at

row_of : (image : Image) (j : ℕ) (k : Known) → slice_get (known image) j ≡ Some k → Described image.routines j k
row_of image j k at =
    let low : j < length image.routines = omega (arith, slice_get_within (known image) j k at, table_length (known_of image.code) [] image.routines) in
    let x = some_at image.routines j low in
    let same : k ≡ known_of image.code (take j (known image)) x.0 = one_some at (known_row image j x.0 x.1) in
    record { routine = x.0; there = x.1; params = ap (λ (y : Known). y.params) same; results = ap (λ (y : Known). y.results) same }

all_described : (image : Image) → Describe (known image) image.routines
all_described image = record {
  described = row_of image;
  rows = λ j x at. record { row = known_of image.code (take j (known image)) x; there = known_row image j x at; params = refl; results = refl };
}

described_before : (image : Image) (r : ℕ) → Describe (take r (known image)) (take r image.routines)
described_before image r = record {
  described = λ j k at. elim (cases_lt j r) [
    | inl low ↦ (let d = row_of image j k (sym (take_get r j (known image) low) ∙ at) in record { routine = d.routine; there = take_get r j image.routines low ∙ d.there; params = d.params; results = d.results })
    | inr high ↦ absurd (let e : None ≡ Some k = sym (take_past r j (known image) high) ∙ at in cc)
  ];
  rows = λ j x at. elim (cases_lt j r) [
    | inl low ↦ (let here : slice_get image.routines j ≡ Some x = sym (take_get r j image.routines low) ∙ at in
        record { row = known_of image.code (take j (known image)) x; there = take_get r j (known image) low ∙ known_row image j x here; params = refl; results = refl })
    | inr high ↦ absurd (let e : None ≡ Some x = sym (take_past r j image.routines high) ∙ at in cc)
  ];
}

-- ---- V1

found_some : (x : Option Found) → is_found x ≡ true → (f : Found) × (x ≡ Some f)
found_some (Some f) is = (f, refl)
found_some None is = absurd cc

is_there : (x : Option Found) (h : ℕ) → Gives x h → is_found x ≡ true
is_there x h g = ap is_found g.is

module _ (image : Image) where
  abbrev starts_at : ℕ → ℕ → Bool
  starts_at start piece = nat_eq start (due_start (pieces image) piece)

  abbrev routine_there : ℕ → Routine → Bool
  routine_there r x = is_found (routine_found image.code (take r (known image)) x)

  abbrev body_there : Process → Bool
  body_there p = is_found (body_found image p)

  abbrev handler_there : Process → Bool
  handler_there p = is_found (handler_found image p p.handler_tree)

  of_routine : (r : ℕ) (x : Routine) → routine_shape_fault image r x ≡ None → (x.start ≡ due_start (pieces image) r) × IsRoutine image.code (take r image.routines) x
  of_routine r x none =
      let b = and_parts (starts_at x.start r) (routine_there r x) (passed_test (starts_at x.start r && routine_there r x) x.start 0 none) in
      let f = found_some (routine_found image.code (take r (known image)) x) b.1 in
      (eqb-true x.start (due_start (pieces image) r) b.0, routine_is image.code (take r (known image)) (take r image.routines) (described_before image r) x f.0 f.1)

  routine_passes : (r : ℕ) (x : Routine) → x.start ≡ due_start (pieces image) r → IsRoutine image.code (take r image.routines) x → routine_shape_fault image r x ≡ None
  routine_passes r x start is =
      passes (starts_at x.start r && routine_there r x) x.start 0
      (and_from (starts_at x.start r) (routine_there r x) (eq-eqb x.start (due_start (pieces image) r) start)
      (is_there _ (count x.gives) (routine_gives image.code (take r (known image)) (take r image.routines) (described_before image r) x is)))

  record ProcessIs (k : ℕ) (p : Process) : Type 0 where
    start : p.start ≡ due_start (pieces image) (piece_number image k)
    body : IsPart image.code image.routines p.body p.start
    handler : (tree : Segs) → p.handler_tree ≡ Some tree → IsPart image.code image.routines tree (handler_start p)

  handler_is : (p : Process) → handler_there p ≡ true → (tree : Segs) → p.handler_tree ≡ Some tree → IsPart image.code image.routines tree (handler_start p)
  handler_is p is tree at =
      let f = found_some (part_found image.code (known image) tree (handler_start p)) (sym (ap (λ o. is_found (handler_found image p o)) at) ∙ is) in
      part_is image.code (known image) image.routines (all_described image) tree (handler_start p) f.0 f.1

  is_handler_there : (p : Process) (o : Option Segs) → ((tree : Segs) → o ≡ Some tree → IsPart image.code image.routines tree (handler_start p)) → is_found (handler_found image p o) ≡ true
  is_handler_there p None h = refl
  is_handler_there p (Some tree) h = is_there _ 0 (part_gives image.code (known image) image.routines (all_described image) tree (handler_start p) (h tree refl))

  of_process : (k : ℕ) (p : Process) → process_shape_fault image k p ≡ None → ProcessIs k p
  of_process k p none =
      let s = starts_at p.start (piece_number image k) in
      let b = and_parts s (body_there p && handler_there p) (passed_test (s && (body_there p && handler_there p)) p.start 0 none) in
      let c = and_parts (body_there p) (handler_there p) b.1 in
      let f = found_some (body_found image p) c.0 in
      record {
        start = eqb-true p.start (due_start (pieces image) (piece_number image k)) b.0;
        body = part_is image.code (known image) image.routines (all_described image) p.body p.start f.0 f.1;
        handler = handler_is p c.1;
      }

  process_passes : (k : ℕ) (p : Process) → ProcessIs k p → process_shape_fault image k p ≡ None
  process_passes k p is =
      let s = starts_at p.start (piece_number image k) in
      passes (s && (body_there p && handler_there p)) p.start 0
      (and_from s (body_there p && handler_there p) (eq-eqb p.start (due_start (pieces image) (piece_number image k)) is.start)
      (and_from (body_there p) (handler_there p) (is_there _ 0 (part_gives image.code (known image) image.routines (all_described image) p.body p.start is.body)) (is_handler_there p p.handler_tree is.handler)))

  pub code_is : shape_fault image ≡ None → CodeIsOfTrees image
  code_is none =
      let one = neither (first_in (routine_shape_fault image) image.routines) (or_else (first_in (process_shape_fault image) image.processes) (coverage_fault image)) none in
      let two = neither (first_in (process_shape_fault image) image.processes) (coverage_fault image) one.1 in
      let whole = due_start (pieces image) (length (pieces image)) in
      record {
        routines_start = λ r x at. (of_routine r x (none_of_all (routine_shape_fault image) image.routines one.0 r x at)).0;
        processes_start = λ k p at. (of_process k p (none_of_all (process_shape_fault image) image.processes two.0 k p at)).start;
        all_covered = eqb-true whole (length image.code) (passed_test (nat_eq whole (length image.code)) whole 0 two.1);
        routines_are = λ r x at. (of_routine r x (none_of_all (routine_shape_fault image) image.routines one.0 r x at)).1;
        bodies_are = λ k p at. (of_process k p (none_of_all (process_shape_fault image) image.processes two.0 k p at)).body;
        handlers_are = λ k p tree at is. (of_process k p (none_of_all (process_shape_fault image) image.processes two.0 k p at)).handler tree is;
      }

  pub code_passes : CodeIsOfTrees image → shape_fault image ≡ None
  code_passes c =
      let whole = due_start (pieces image) (length (pieces image)) in
      both_none (first_in (routine_shape_fault image) image.routines) _
      (none_in (routine_shape_fault image) image.routines (λ r x at. routine_passes r x (c.routines_start r x at) (c.routines_are r x at)))
      (both_none (first_in (process_shape_fault image) image.processes) _
      (none_in (process_shape_fault image) image.processes (λ k p at. process_passes k p (record { start = c.processes_start k p at; body = c.bodies_are k p at; handler = λ tree is. c.handlers_are k p tree at is })))
      (passes (nat_eq whole (length image.code)) whole 0 (eq-eqb whole (length image.code) c.all_covered)))

  -- ---- V6

  pub operands_are : operand_fault image ≡ None → OperandsFit image
  operands_are none = record {
    routines = λ r x at a instr own here. fits image (whose_routine r x) instr (p.routine_operands image none r x at a instr ((addresses_belong_to_owners image r a).1 own) here);
    processes = λ k q at a instr own here. fits image (whose_process image k q) instr (p.process_operands image none k q at a instr ((addresses_belong_to_owners image (piece_number image k) a).1 own) here);
  }

  none_shown : (a : ℕ) (o : Option ℤ) → o ≡ None → shown_operand a o ≡ None
  none_shown a o is = ap (λ x. shown_operand a x) is

  at_address : (w : Whose) (a : ℕ) (b : Bool) (o : Option Instr) → ((instr : Instr) → b ≡ true → o ≡ Some instr → bad_operand image w instr ≡ None)
      → cond b (of_some (λ instr. shown_operand a (bad_operand image w instr)) o) None ≡ None
  at_address w a false o h = refl
  at_address w a true None h = refl
  at_address w a true (Some instr) h = none_shown a (bad_operand image w instr) (h instr refl refl)

  piece_passes : (piece : ℕ) (w : Whose) → PieceFits image piece w → operand_fault_in image piece w ≡ None
  piece_passes piece w h =
      none_from (operand_fault_at image piece w) (length image.code) 0
      (λ a. at_address w a (belongs image piece a) (slice_get image.code a) (λ instr own here. is_good image w instr (h a instr ((addresses_belong_to_owners image piece a).0 own) here)))

  pub operands_pass : OperandsFit image → operand_fault image ≡ None
  operands_pass f =
      both_none (routines_operand_fault image) (processes_operand_fault image)
      (none_in (λ r x. operand_fault_in image r (whose_routine r x)) image.routines (λ r x at. piece_passes r (whose_routine r x) (f.routines r x at)))
      (none_in (λ k q. operand_fault_in image (piece_number image k) (whose_process image k q)) image.processes (λ k q at. piece_passes (piece_number image k) (whose_process image k q) (f.processes k q at)))

  -- ---- V7

  pub handlers_are : handler_fault image ≡ None → HandlersStand image
  handlers_are none k q tree at is = let h = p.handler_stands image none k q at tree is in record { place = h.place; no_wait = λ w. both_ways (tree_waits (reach image) tree) h.silent ((waits_are_reached image tree).1 w) }

  stands : (k : ℕ) (q : Process) (o : Option Segs) → ((tree : Segs) → o ≡ Some tree → HandlerStands image q tree) → is_handler image q o ≡ true
  stands k q None h = refl
  stands k q (Some tree) h =
      let s = h tree refl in
      and_from (nat_eq q.handler (handler_start q)) (not (tree_waits (reach image) tree)) (eq-eqb q.handler (handler_start q) s.place) (ap not (false_from_ne_true (tree_waits (reach image) tree) (λ is. s.no_wait ((waits_are_reached image tree).0 is))))

  pub handlers_pass : HandlersStand image → handler_fault image ≡ None
  handlers_pass h =
      none_in (λ k q. unless (is_handler image q q.handler_tree) k 0) image.processes
      (λ k q at. passes (is_handler image q q.handler_tree) k 0 (stands k q q.handler_tree (λ tree is. h k q tree at is)))
