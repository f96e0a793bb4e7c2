-- The next routine is kept, and all of them.
use Rattle.std.proofs.Common.{◌≡◌, ◌<◌, ◌+◌, ◌-◌, ◌++◌, inl, inr, ℕ, true, List, [], ◌∷◌, length, Some, None, arith, ap, sym, subst, ◌∙◌, map}
use Rattle.std.specs.Prelude.{◌&&◌, nat_eq, option_map, take, slice_get}
use Rattle.std.proofs.lemmas.Bool.{cases_lt}
use Rattle.std.proofs.lemmas.List.{length-map, length-append}
use Rattle.std.proofs.lemmas.Option.{slice_get_past, slice_get_within}
use Rattle.base.proofs.Lists.{take_get}
use Rattle.base.specs.Capped.{cap}
use Rattle.image.specs.declared.raw.RawImage.{RawImage}
use Rattle.image.specs.declared.raw.RawRoutine.{RawRoutine}
use Rattle.image.specs.Raw.{image_of, routine_of}
use Rattle.machine_semantics.specs.Trees.{size}
use Rattle.valid_image.specs.Fault.{unless, first_of, first_in}
use Rattle.valid_image.specs.Found.{guard}
use Rattle.valid_image.specs.Pieces.{pieces, due_start}
use Rattle.valid_image.specs.Shape.{is_found, routine_shape_fault}
use Rattle.valid_image.specs.Tables as tables
use Rattle.valid_image.specs.Tables.{known, monitor_of, routine_found, found_or_nothing}
use Rattle.loader_code.proofs.Searching.{none_here, none_left, of_element}
use Rattle.valid_image_law.specs.Held.{hold, held_known}
use Rattle.loader_code.specs.declared.known.RoutineCost as code
use Rattle.loader_code.specs.declared.known.PartCost.{PartCost}
use Rattle.loader_code.specs.TreesTold.{found_of, known_of}
use Rattle.loader_code.specs.Whole.{stay_in}
use Rattle.loader.specs.declared.parts.CodeCosts.{CodeCosts}
use Rattle.loader.specs.Found.{AreAlike}
use Rattle.loader.specs.Parts.{IsKept, AreRoutines}
use Rattle.loader.proofs.Rows.{table_length, row_is}
use Rattle.loader.proofs.Alike.{routine_alike, needed}
use Rattle.loader.proofs.Shaping.{Before, test_at, here, same_due, shape_some, both_true, piece_here, cases, pushed_before, pushed_last, row_of, row_held, rows_on}

pub on : (raw : RawImage) (parts new : CodeCosts) (r : ℕ) (x : RawRoutine) (part : PartCost) (row : code.RoutineCost) → Before raw parts r → slice_get raw.routines r ≡ Some x
    → Some (found_of part.found) ≡ hold (guard (nat_eq x.start parts.end) (routine_found raw.code (map known_of parts.known) (routine_of x)))
    → part.found.next ≡ x.start + size x.tree → part.found.next < length raw.code
    → part.stay ≡ cap (stay_in (monitor_of (routine_of x)) (routine_found raw.code (map known_of parts.known) (routine_of x)))
    → known_of row ≡ row_of x part.found.depth
    → new.known ≡ parts.known ++ row ∷ [] → new.routines ≡ parts.routines ++ part ∷ [] → new.end ≡ part.found.next + 1 → Before raw new (r + 1)
on raw parts new r x part row before is some next within stays row-is known-is routines-is end-is =
    let rows = routine_alike raw.code (map known_of parts.known) (take r (known (image_of raw))) (routine_of x) before.known_rows in
    let exact = routine_found raw.code (take r (known (image_of raw))) (routine_of x) in
    let found = shape_some (nat_eq x.start parts.end) (routine_found raw.code (map known_of parts.known) (routine_of x)) exact (found_of part.found) some rows in
    let test : nat_eq x.start (due_start (pieces (image_of raw)) r) && is_found exact ≡ true =
    both_true (nat_eq x.start (due_start (pieces (image_of raw)) r)) exact (found_of part.found) (sym (same_due raw parts r x.start before) ∙ found.0) found.1 in
    let none : test_at raw r ≡ None = of_element (routine_shape_fault (image_of raw) r) _ (routine_of x) (here raw r x is) ∙ ap (λ b. unless b x.start 0) test in
    let low = slice_get_within raw.routines r x is in
    let fewer : length raw.routines - (r + 1) ≡ length raw.routines - r - 1 = omega arith in
    let here-row : slice_get (known (image_of raw)) r ≡ Some (tables.known_of raw.code (take r (known (image_of raw))) (routine_of x)) = row_is (tables.known_of raw.code) (image_of raw).routines r (routine_of x) (here raw r x is) in
    let same-row : held_known (known_of row) ≡ held_known (tables.known_of raw.code (take r (known (image_of raw))) (routine_of x)) = ap held_known row-is ∙ row_held exact (found_of part.found) x found.1 in
    record {
      due = omega (arith, end-is, next, piece_here raw r x is);
      within = omega (arith, end-is, within);
      known_rows = (let P : List code.RoutineCost → Type 0 = λ ks. AreAlike (map known_of ks) (take (r + 1) (known (image_of raw))) in
          subst P (sym known-is) (rows_on parts.known row (known (image_of raw)) r _ before.known_count before.known_rows here-row same-row));
      known_count = ap length known-is ∙ length-append parts.known (row ∷ []) ∙ ap (λ n. n + 1) before.known_count;
      count = ap length routines-is ∙ length-append parts.routines (part ∷ []) ∙ ap (λ n. n + 1) before.count;
      kept = λ j y less at. elim (cases j r) [
        | inl earlier ↦ subst (λ o. IsKept raw j y o) (sym (ap (λ fs. slice_get fs j) routines-is ∙ pushed_before parts.routines part j (omega (arith, earlier, before.count)))) (before.kept j y earlier at)
        | inr rest ↦ elim rest [
          | inl same ↦
              (let x-is : Some x ≡ Some y = sym is ∙ ap (λ k. slice_get raw.routines k) (sym same) ∙ at in
              let this : x ≡ y = cc in
              let last : slice_get new.routines j ≡ Some part = ap (λ fs. slice_get fs j) routines-is ∙ pushed_last parts.routines part j (omega (arith, same, before.count)) in
              let P : RawRoutine → Type 0 = λ z. IsKept raw j z (slice_get new.routines j) in
              let Q : ℕ → Type 0 = λ k. IsKept raw k x (Some part) in
              subst P this (subst (λ o. IsKept raw j x o) (sym last) (subst Q (sym same) (record { found = found.1; stay = stays ∙ needed (image_of raw) (map known_of parts.known) r (routine_of x) before.known_rows }))))
          | inr past ↦ absurd (omega (arith, past, less))
        ]
      ];
      rest = ap (λ n. first_of (test_at raw) n (r + 1)) fewer ∙ (sym (none_here (test_at raw) (length raw.routines - r) r (omega (arith, low)) none) ∙ before.rest);
    }

pub all_kept : (raw : RawImage) (parts : CodeCosts) (r : ℕ) → Before raw parts r → r ≡ length raw.routines → AreRoutines raw parts
all_kept raw parts r before all = record {
  known_rows = λ j. elim (cases_lt j r) [
    | inl low ↦ before.known_rows j ∙ ap (option_map held_known) (take_get r j (known (image_of raw)) low)
    | inr past ↦
        ap (option_map held_known) (slice_get_past (map known_of parts.known) j (omega (arith, past, length-map parts.known known_of, before.known_count))
        ∙ sym (slice_get_past (known (image_of raw)) j (omega (arith, past, all, length-map raw.routines routine_of, table_length (tables.known_of raw.code) [] (image_of raw).routines))))
  ];
  count = before.count ∙ all;
  kept = λ j x at. before.kept j x (omega (arith, slice_get_within raw.routines j x at, all)) at;
}

pub none_wrong : (raw : RawImage) (parts : CodeCosts) (r : ℕ) → Before raw parts r → r ≡ length raw.routines → None ≡ first_in (routine_shape_fault (image_of raw)) (image_of raw).routines
none_wrong raw parts r before all = sym (none_left (test_at raw) (length raw.routines - r) r (omega (arith, all))) ∙ before.rest
