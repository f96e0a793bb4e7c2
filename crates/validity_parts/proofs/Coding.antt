-- The first routine and the first process whose code is wrong.
use Rattle.std.proofs.Common.{◌≡◌, ◌-◌, ℕ, Bool, true, false, List, length, Option, Some, None, arith, refl, ap, sym, ◌∙◌, map}
use Rattle.std.specs.Prelude.{◌&&◌, nat_eq, take, slice_get}
use Rattle.std.proofs.lemmas.List.{length-map}
use Rattle.image.specs.declared.raw.RawImage.{RawImage}
use Rattle.image.specs.declared.raw.RawProcess.{RawProcess}
use Rattle.image.specs.declared.raw.RawRoutine.{RawRoutine}
use Rattle.image.specs.Raw.{image_of, process_of, routine_of}
use Rattle.machine_semantics.specs.Image.{Process}
use Rattle.machine_semantics.specs.Trees.{Segs}
use Rattle.valid_image.specs.Fault.{unless, first_of, of_some, first_in}
use Rattle.valid_image.specs.Found.{Found, guard}
use Rattle.valid_image.specs.Pieces.{due_start, piece_number, pieces}
use Rattle.valid_image.specs.Shape.{is_found}
use Rattle.valid_image.specs.Tables.{body_found, handler_found, handler_start, known, routine_found}
use Rattle.valid_image_law.specs.Held.{hold}
use Rattle.loader_code.proofs.Searching.{none_left}
use Rattle.loader_code.proofs.Seeking.{from_index}
use Rattle.loader_code.specs.TreesTold.{known_of}
use Rattle.loader.specs.declared.parts.CodeCosts.{CodeCosts}
use Rattle.loader.specs.Found.{AreAlike, Two, guard_two, handler_in, two}
use Rattle.loader.proofs.Alike.{part_alike, routine_alike}
use Rattle.loader.proofs.Bodies.{BeforeProcess, both_of, coded}
use Rattle.loader.proofs.Shaping.{Before, both_true, same_due, shape_none, shape_some}
use Rattle.faulty_part.specs.declared.part.FaultyPart.TheVariants as part
use Rattle.faulty_part.specs.declared.part.Subject.TheVariants as subject
use Rattle.faulty_part.specs.Parts.{of, code_of_process, code_of_routine}

-- ---- routines

pub wrong_routine : (raw : RawImage) (parts : CodeCosts) (r : ℕ) (x : RawRoutine) → Before raw parts r
    → None ≡ hold (guard (nat_eq x.start parts.end) (routine_found raw.code (map known_of parts.known) (routine_of x)))
    → Some (record { part = part.Routine r; subject = subject.Code; a = x.start; b = 0 }) ≡ code_of_routine (image_of raw) r (routine_of x)
wrong_routine raw parts r x before none =
    let exact = routine_found raw.code (take r (known (image_of raw))) (routine_of x) in
    let rows = routine_alike raw.code (map known_of parts.known) (take r (known (image_of raw))) (routine_of x) before.known_rows in
    let fails = shape_none (nat_eq x.start parts.end) (routine_found raw.code (map known_of parts.known) (routine_of x)) exact none rows in
    let test : nat_eq x.start (due_start (pieces (image_of raw)) r) && is_found exact ≡ false = ap (λ b. b && is_found exact) (sym (same_due raw parts r x.start before)) ∙ fails in
    sym (ap (λ b. of (part.Routine r) subject.Code (unless b x.start 0)) test)

pub right_routine : (raw : RawImage) (parts : CodeCosts) (r : ℕ) (x : RawRoutine) (f : Found) → Before raw parts r
    → Some f ≡ hold (guard (nat_eq x.start parts.end) (routine_found raw.code (map known_of parts.known) (routine_of x)))
    → None ≡ code_of_routine (image_of raw) r (routine_of x)
right_routine raw parts r x f before some =
    let exact = routine_found raw.code (take r (known (image_of raw))) (routine_of x) in
    let rows = routine_alike raw.code (map known_of parts.known) (take r (known (image_of raw))) (routine_of x) before.known_rows in
    let found = shape_some (nat_eq x.start parts.end) (routine_found raw.code (map known_of parts.known) (routine_of x)) exact f some rows in
    let test : nat_eq x.start (due_start (pieces (image_of raw)) r) && is_found exact ≡ true =
    both_true (nat_eq x.start (due_start (pieces (image_of raw)) r)) exact f (sym (same_due raw parts r x.start before) ∙ found.0) found.1 in
    sym (ap (λ b. of (part.Routine r) subject.Code (unless b x.start 0)) test)

-- ---- processes

none_of_two : (b : Bool) (x y : Option Found) → None ≡ guard_two b (two (hold x) (hold y)) → b && (is_found x && is_found y) ≡ false
none_of_two false x y none = refl
none_of_two true None y none = refl
none_of_two true (Some f) None none = refl
none_of_two true (Some f) (Some g) none = absurd cc

both_of_two : (b : Bool) (x y : Option Found) (t : Two) → Some t ≡ guard_two b (two (hold x) (hold y)) → b && (is_found x && is_found y) ≡ true
both_of_two false x y t some = absurd cc
both_of_two true None y t some = absurd cc
both_of_two true (Some f) None t some = absurd cc
both_of_two true (Some f) (Some g) t some = refl

-- a handler, by rows that are held alike
handler_alike : (raw : RawImage) (parts : CodeCosts) (p : Process) (tree : Option Segs) → AreAlike (map known_of parts.known) (known (image_of raw))
    → hold (handler_in raw.code (map known_of parts.known) tree (handler_start p)) ≡ hold (handler_found (image_of raw) p tree)
handler_alike raw parts p None same = refl
handler_alike raw parts p (Some tree) same = part_alike raw.code (map known_of parts.known) (known (image_of raw)) tree (handler_start p) same

coded_alike : (raw : RawImage) (parts : CodeCosts) (p : RawProcess) → AreAlike (map known_of parts.known) (known (image_of raw)) → coded raw parts p ≡ both_of raw p
coded_alike raw parts p same =
    ap (λ o. two o (hold (handler_in raw.code (map known_of parts.known) p.handler_tree (handler_start (process_of p))))) (part_alike raw.code (map known_of parts.known) (known (image_of raw)) p.body p.start same)
    ∙ ap (λ o. two (hold (body_found (image_of raw) (process_of p))) o) (handler_alike raw parts (process_of p) p.handler_tree same)

-- by the rows of the code, as the definition has it
same_code : (raw : RawImage) (parts : CodeCosts) (k : ℕ) (p : RawProcess) → BeforeProcess raw parts k
    → guard_two (nat_eq p.start parts.end) (coded raw parts p) ≡ guard_two (nat_eq p.start (due_start (pieces (image_of raw)) (piece_number (image_of raw) k))) (both_of raw p)
same_code raw parts k p before =
    ap (guard_two (nat_eq p.start parts.end)) (coded_alike raw parts p before.routines.known_rows) ∙ ap (λ n. guard_two (nat_eq p.start n) (both_of raw p)) before.due

pub wrong_process : (raw : RawImage) (parts : CodeCosts) (k : ℕ) (p : RawProcess) → BeforeProcess raw parts k
    → None ≡ guard_two (nat_eq p.start parts.end) (coded raw parts p)
    → Some (record { part = part.Process k; subject = subject.Code; a = p.start; b = 0 }) ≡ code_of_process (image_of raw) k (process_of p)
wrong_process raw parts k p before none =
    let due = due_start (pieces (image_of raw)) (piece_number (image_of raw) k) in
    let test = none_of_two (nat_eq p.start due) (body_found (image_of raw) (process_of p)) (handler_found (image_of raw) (process_of p) (process_of p).handler_tree) (none ∙ same_code raw parts k p before) in
    sym (ap (λ b. of (part.Process k) subject.Code (unless b p.start 0)) test)

pub right_process : (raw : RawImage) (parts : CodeCosts) (k : ℕ) (p : RawProcess) (t : Two) → BeforeProcess raw parts k
    → Some t ≡ guard_two (nat_eq p.start parts.end) (coded raw parts p)
    → None ≡ code_of_process (image_of raw) k (process_of p)
right_process raw parts k p t before some =
    let due = due_start (pieces (image_of raw)) (piece_number (image_of raw) k) in
    let test = both_of_two (nat_eq p.start due) (body_found (image_of raw) (process_of p)) (handler_found (image_of raw) (process_of p) (process_of p).handler_tree) t (some ∙ same_code raw parts k p before) in
    sym (ap (λ b. of (part.Process k) subject.Code (unless b p.start 0)) test)

-- ---- a search from the left

pub starts_in : {A B C : Type 0} (v : A → B) (f : ℕ → B → Option C) (xs : List A) → from_index v f xs 0 ≡ first_in f (map v xs)
starts_in v f xs = let e : length xs - 0 ≡ length (map v xs) = omega (arith, length-map xs v) in ap (λ n. first_of (λ k. of_some (f k) (slice_get (map v xs) k)) n 0) e

pub ends_in : {A B C : Type 0} (v : A → B) (f : ℕ → B → Option C) (xs : List A) (i : ℕ) (whole : Option C) → i ≡ length xs → from_index v f xs i ≡ whole → None ≡ whole
ends_in v f xs i whole end held = sym (none_left (λ k. of_some (f k) (slice_get (map v xs) k)) (length xs - i) i (omega (arith, end))) ∙ held
