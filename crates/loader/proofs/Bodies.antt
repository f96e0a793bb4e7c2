-- One process after the other.
use Rattle.std.proofs.Common.{◌≡◌, ◌≤◌, ◌<◌, ◌+◌, ◌-◌, ◌++◌, inl, inr, ℕ, suc, Bool, true, false, List, [], ◌∷◌, length, Option, Some, None, arith, refl, ap, sym, subst, ◌∙◌, map}
use Rattle.std.specs.Prelude.{◌&&◌, nat_eq, option_map, slice_get}
use Rattle.std.proofs.lemmas.List.{length-map, length-append}
use Rattle.std.proofs.lemmas.Option.{slice_get_within}
use Rattle.base.proofs.Lists.{map_get, append_back}
use Rattle.image.specs.declared.raw.RawImage.{RawImage}
use Rattle.image.specs.declared.raw.RawProcess.{RawProcess}
use Rattle.image.specs.Raw.{image_of, routine_of, process_of}
use Rattle.machine_semantics.specs.Trees.{Segs, size}
use Rattle.machine_semantics.specs.Image.{Process}
use Rattle.valid_image.specs.Fault.{Fault, unless, first_of, of_some, first_in}
use Rattle.valid_image.specs.Found.{Found}
use Rattle.valid_image.specs.Pieces.{pieces, piece_of_routine, piece_of_process, due_start, end_of_piece, handler_length, piece_number}
use Rattle.valid_image.specs.Shape.{is_found, process_shape_fault}
use Rattle.valid_image.specs.Tables.{known, part_found, body_found, handler_found, handler_start}
use Rattle.loader_code.proofs.Searching.{none_here, one_here, none_left, of_element}
use Rattle.valid_image_law.specs.Held.{hold}
use Rattle.loader_code.specs.declared.known.RoutineCost as code
use Rattle.loader_code.specs.TreesTold.{known_of}
use Rattle.loader.specs.declared.parts.CodeCosts.{CodeCosts}
use Rattle.loader.specs.declared.parts.ProcessCost.{ProcessCost}
use Rattle.loader.specs.Found.{AreAlike, Two, two, guard_two, told_process, handler_in}
use Rattle.loader.specs.Parts.{IsKept, AreRoutines, AreParts}
use Rattle.loader.proofs.Alike.{part_alike}
use Rattle.loader.proofs.Shaping.{cases, pushed_before, pushed_last}

abbrev pub process_at : RawImage → ℕ → Option Fault
process_at raw k = of_some (process_shape_fault (image_of raw) k) (slice_get (image_of raw).processes k)

-- what the definition says of a process
abbrev pub both_of : RawImage → RawProcess → Option Two
both_of raw p = two (hold (body_found (image_of raw) (process_of p))) (hold (handler_found (image_of raw) (process_of p) (process_of p).handler_tree))

-- what the code says, by its rows
abbrev pub coded : RawImage → CodeCosts → RawProcess → Option Two
coded raw parts p =
    two (hold (part_found raw.code (map known_of parts.known) p.body p.start)) (hold (handler_in raw.code (map known_of parts.known) p.handler_tree (handler_start (process_of p))))

-- before process k
pub record BeforeProcess (raw : RawImage) (parts : CodeCosts) (k : ℕ) : Type 0 where
  pub due : parts.end ≡ due_start (pieces (image_of raw)) (piece_number (image_of raw) k)
  pub within : parts.end ≤ length raw.code
  pub routines : AreRoutines raw parts
  pub count : length parts.processes ≡ k
  pub kept : (j : ℕ) (p : RawProcess) → j < k → slice_get raw.processes j ≡ Some p → told_process (slice_get parts.processes j) ≡ both_of raw p
  pub rest : first_of (process_at raw) (length raw.processes - k) k ≡ first_in (process_shape_fault (image_of raw)) (image_of raw).processes

pub first_process : (raw : RawImage) (parts : CodeCosts) → AreRoutines raw parts → parts.processes ≡ [] → parts.end ≡ due_start (pieces (image_of raw)) (length raw.routines) → parts.end ≤ length raw.code → BeforeProcess raw parts 0
first_process raw parts routines none end within = record {
  due = (let e : length raw.routines ≡ piece_number (image_of raw) 0 = omega (arith, length-map raw.routines routine_of) in end ∙ ap (λ n. due_start (pieces (image_of raw)) n) e);
  within = within;
  routines = routines;
  count = ap length none;
  kept = λ j p low is. absurd (omega (arith, low));
  rest = (let e : length raw.processes - 0 ≡ length (map process_of raw.processes) = omega (arith, length-map raw.processes process_of) in ap (λ n. first_of (process_at raw) n 0) e);
}

handler_alike : (raw : RawImage) (parts : CodeCosts) (p : Process) (tree : Option Segs) → AreAlike (map known_of parts.known) (known (image_of raw))
    → hold (handler_in raw.code (map known_of parts.known) tree (handler_start p)) ≡ hold (handler_found (image_of raw) p tree)
handler_alike raw parts p None same = refl
handler_alike raw parts p (Some tree) same = part_alike raw.code (map known_of parts.known) (known (image_of raw)) tree (handler_start p) same

coded_alike : (raw : RawImage) (parts : CodeCosts) (p : RawProcess) → AreAlike (map known_of parts.known) (known (image_of raw)) → coded raw parts p ≡ both_of raw p
coded_alike raw parts p same =
    ap (λ o. two o (hold (handler_in raw.code (map known_of parts.known) p.handler_tree (handler_start (process_of p))))) (part_alike raw.code (map known_of parts.known) (known (image_of raw)) p.body p.start same)
    ∙ ap (λ o. two (hold (body_found (image_of raw) (process_of p))) o) (handler_alike raw parts (process_of p) p.handler_tree same)

process_none : (b : Bool) (x y : Option Found) → None ≡ guard_two b (two (hold x) (hold y)) → b && (is_found x && is_found y) ≡ false
process_none false x y none = refl
process_none true None y none = refl
process_none true (Some f) None none = refl
process_none true (Some f) (Some g) none = absurd cc

process_some : (b : Bool) (x y : Option Found) (t : Two) → Some t ≡ guard_two b (two (hold x) (hold y)) → (b && (is_found x && is_found y) ≡ true) × (Some t ≡ two (hold x) (hold y))
process_some false x y t some = absurd cc
process_some true None y t some = absurd cc
process_some true (Some f) None t some = absurd cc
process_some true (Some f) (Some g) t some = (refl, some)

process_here : (raw : RawImage) (k : ℕ) (p : RawProcess) → slice_get raw.processes k ≡ Some p → slice_get (image_of raw).processes k ≡ Some (process_of p)
process_here raw k p is = map_get process_of raw.processes k p is

pub process_stops : (raw : RawImage) (parts : CodeCosts) (k : ℕ) (p : RawProcess) → BeforeProcess raw parts k → k < length raw.processes → slice_get raw.processes k ≡ Some p
    → None ≡ guard_two (nat_eq p.start parts.end) (coded raw parts p)
    → Some (record { a = p.start; b = 0 }) ≡ first_in (process_shape_fault (image_of raw)) (image_of raw).processes
process_stops raw parts k p before low is none =
    let due = due_start (pieces (image_of raw)) (piece_number (image_of raw) k) in
    let none' : None ≡ guard_two (nat_eq p.start due) (both_of raw p) = none ∙ ap (λ x. guard_two (nat_eq p.start parts.end) x) (coded_alike raw parts p before.routines.known_rows) ∙ ap (λ n. guard_two (nat_eq p.start n) (both_of raw p)) before.due in
    let test = process_none (nat_eq p.start due) (body_found (image_of raw) (process_of p)) (handler_found (image_of raw) (process_of p) (process_of p).handler_tree) none' in
    let one : process_at raw k ≡ Some (record { a = p.start; b = 0 }) = of_element (process_shape_fault (image_of raw) k) _ (process_of p) (process_here raw k p is) ∙ ap (λ b. unless b p.start 0) test in
    sym (one_here (process_at raw) (length raw.processes - k) k _ (omega (arith, low)) one) ∙ before.rest

process_piece : (raw : RawImage) (k : ℕ) (p : RawProcess) → slice_get raw.processes k ≡ Some p
    → due_start (pieces (image_of raw)) (piece_number (image_of raw) (k + 1)) ≡ p.start + (size p.body + 1 + handler_length p.handler_tree)
process_piece raw k p is =
    let e : piece_number (image_of raw) (k + 1) ≡ suc (piece_number (image_of raw) k) = omega arith in
    let at : slice_get (pieces (image_of raw)) (piece_number (image_of raw) k) ≡ Some (piece_of_process (process_of p)) =
    append_back (map piece_of_routine (image_of raw).routines) (map piece_of_process (image_of raw).processes) (piece_number (image_of raw) k) k (omega (arith, length-map (image_of raw).routines piece_of_routine))
    ∙ map_get piece_of_process (image_of raw).processes k (process_of p) (process_here raw k p is) in
    ap (λ n. due_start (pieces (image_of raw)) n) e ∙ ap end_of_piece at

same_routines : (raw : RawImage) (parts new : CodeCosts) → AreRoutines raw parts → new.known ≡ parts.known → new.routines ≡ parts.routines → AreRoutines raw new
same_routines raw parts new are known_same routines_same = record {
  known_rows = (let P : List code.RoutineCost → Type 0 = λ ks. AreAlike (map known_of ks) (known (image_of raw)) in subst P (sym known_same) are.known_rows);
  count = ap length routines_same ∙ are.count;
  kept = λ j x at. subst (λ fs. IsKept raw j x (slice_get fs j)) (sym routines_same) (are.kept j x at);
}

pub next_process : (raw : RawImage) (parts new : CodeCosts) (k : ℕ) (p : RawProcess) (found : ProcessCost) → BeforeProcess raw parts k → slice_get raw.processes k ≡ Some p
    → told_process (Some found) ≡ guard_two (nat_eq p.start parts.end) (coded raw parts p)
    → found.end ≡ handler_start (process_of p) + handler_length p.handler_tree → found.end ≤ length raw.code
    → new.known ≡ parts.known → new.routines ≡ parts.routines → new.processes ≡ parts.processes ++ found ∷ [] → new.end ≡ found.end → BeforeProcess raw new (k + 1)
next_process raw parts new k p found before is some end within known-is routines-is processes-is end-is =
    let due = due_start (pieces (image_of raw)) (piece_number (image_of raw) k) in
    let some' = some ∙ ap (λ x. guard_two (nat_eq p.start parts.end) x) (coded_alike raw parts p before.routines.known_rows) ∙ ap (λ n. guard_two (nat_eq p.start n) (both_of raw p)) before.due in
    let passes = process_some (nat_eq p.start due) (body_found (image_of raw) (process_of p)) (handler_found (image_of raw) (process_of p) (process_of p).handler_tree) _ some' in
    let none : process_at raw k ≡ None = of_element (process_shape_fault (image_of raw) k) _ (process_of p) (process_here raw k p is) ∙ ap (λ b. unless b p.start 0) passes.0 in
    let low = slice_get_within raw.processes k p is in
    let fewer : length raw.processes - (k + 1) ≡ length raw.processes - k - 1 = omega arith in
    record {
      due = end-is ∙ (omega (arith, end, process_piece raw k p is));
      within = omega (arith, end-is, within);
      routines = same_routines raw parts new before.routines known-is routines-is;
      count = ap length processes-is ∙ length-append parts.processes (found ∷ []) ∙ ap (λ n. n + 1) before.count;
      kept = λ j q less at. elim (cases j k) [
        | inl earlier ↦ ap (λ fs. told_process (slice_get fs j)) processes-is ∙ ap told_process (pushed_before parts.processes found j (omega (arith, earlier, before.count))) ∙ before.kept j q earlier at
        | inr rest ↦ elim rest [
          | inl same ↦
              (let q-is : Some p ≡ Some q = sym is ∙ ap (λ n. slice_get raw.processes n) (sym same) ∙ at in
              let this : p ≡ q = cc in
              ap (λ fs. told_process (slice_get fs j)) processes-is ∙ ap told_process (pushed_last parts.processes found j (omega (arith, same, before.count))) ∙ passes.1 ∙ ap (both_of raw) this)
          | inr past ↦ absurd (omega (arith, past, less))
        ]
      ];
      rest = ap (λ n. first_of (process_at raw) n (k + 1)) fewer ∙ (sym (none_here (process_at raw) (length raw.processes - k) k (omega (arith, low)) none) ∙ before.rest);
    }

pub parts_kept : (raw : RawImage) (parts : CodeCosts) (k : ℕ) → BeforeProcess raw parts k → k ≡ length raw.processes → AreParts raw parts
parts_kept raw parts k before all = record {
  routines = before.routines;
  processes = record { count = before.count ∙ all; kept = λ j p at. before.kept j p (omega (arith, slice_get_within raw.processes j p at, all)) at };
}

pub no_process_wrong : (raw : RawImage) (parts : CodeCosts) (k : ℕ) → BeforeProcess raw parts k → k ≡ length raw.processes → None ≡ first_in (process_shape_fault (image_of raw)) (image_of raw).processes
no_process_wrong raw parts k before all = sym (none_left (process_at raw) (length raw.processes - k) k (omega (arith, all))) ∙ before.rest

pub covered : (raw : RawImage) (parts : CodeCosts) (k : ℕ) → BeforeProcess raw parts k → k ≡ length raw.processes → parts.end ≡ due_start (pieces (image_of raw)) (length (pieces (image_of raw)))
covered raw parts k before all =
    let e : piece_number (image_of raw) k ≡ length (pieces (image_of raw)) =
    omega (arith, all, length-append (map piece_of_routine (image_of raw).routines) (map piece_of_process (image_of raw).processes), length-map (image_of raw).routines piece_of_routine, length-map (image_of raw).processes piece_of_process, length-map raw.processes process_of) in
    before.due ∙ ap (λ n. due_start (pieces (image_of raw)) n) e
