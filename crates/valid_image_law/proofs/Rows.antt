-- The tables of a valid image: the exact cost of each routine, beside the declared one.
use Rattle.std.proofs.Common.{◌≡◌, ◌≤◌, ◌<◌, inl, inr, ℕ, zero, suc, List, [], length, Some, None, arith, refl, ap, sym, subst, ◌∙◌, false}
use Rattle.std.specs.Prelude.{take, nat_eq, nat_le, slice_get}
use Rattle.std.proofs.lemmas.Bool.{cases_lt, leb-true, eqb-true}
use Rattle.std.proofs.lemmas.Option.{slice_get_within}
use Rattle.base.proofs.Lists.{some_at, take_get, take_past}
use Rattle.machine_isa.specs.declared.instr.Instr.{Instr}
use Rattle.base.specs.Capped.{cap}
use Rattle.machine_semantics.specs.Image.{Image, Routine, Process}
use Rattle.valid_image.specs.Found.{Known, Found, longer}
use Rattle.valid_image.specs.Fault.{or_else, first_of, of_some}
use Rattle.valid_image.specs.Sizes.{below, other, needed_by_routine, needed_stay, routine_cost_fault, needed_by_process, with_dispatch, process_cost_fault, cost_fault}
use Rattle.valid_image.specs.Shape.{shape_fault}
use Rattle.valid_image.specs.Tables.{table, count, routine_found, found_or_nothing, known_of, known, waits_of, waits_at, reach_of, reach, tree_waits}
use Rattle.valid_image_law.proofs.Firsts.{neither, passed_test, none_of_all, row_is, table_length}
use Rattle.valid_image_law.proofs.Shapes.{routine_shaped}
use Rattle.valid_image_law.proofs.Exact.{Alike, AreAlike, Same, routine_same}
use Rattle.valid_image_law.proofs.Quiet.{AreQuiet, routine_quiet}

-- a routine with the cost of its code
abbrev pub exact_of : List Instr → List Known → Routine → Known
exact_of code done r = record {
  params = r.params;
  results = count r.gives;
  locals = r.locals;
  depth = (found_or_nothing (routine_found code done r)).depth;
  cost = longer 4 (found_or_nothing (routine_found code done r)).cost;
}

abbrev pub exact : Image → List Known
exact image = table (exact_of image.code) [] image.routines

-- ---- what the test of costs tells

pub at_least_needed : (d n : ℕ) → below d n ≡ None → n ≤ d
at_least_needed d n is = leb-true n d (passed_test (nat_le n d) d n is)

pub is_due : (d n : ℕ) → other d n ≡ None → d ≡ n
is_due d n is = eqb-true d n (passed_test (nat_eq d n) d n is)

pub record RoutineCosts (image : Image) (r : ℕ) (x : Routine) : Type 0 where
  pub run : cap (needed_by_routine image r x).run ≤ x.run
  pub susp : cap (needed_by_routine image r x).susp ≤ x.susp
  pub waits : cap (needed_by_routine image r x).waits ≤ x.waits
  pub stay : cap (needed_stay image r x) ≤ x.stay

pub record ProcessCosts (image : Image) (p : Process) : Type 0 where
  pub run : cap (with_dispatch image.over (needed_by_process image p)) ≤ p.run
  pub susp : cap (needed_by_process image p).susp ≤ p.susp
  pub waits : cap (needed_by_process image p).waits ≤ p.waits

module _ (image : Image) (none : cost_fault image ≡ None) where
  pub routine_costs : (r : ℕ) (x : Routine) → slice_get image.routines r ≡ Some x → RoutineCosts image r x
  routine_costs r x at =
      let p = neither (first_of (λ r. of_some (routine_cost_fault image r) (slice_get image.routines r)) (length image.routines) 0) (first_of (λ k. of_some (process_cost_fault image) (slice_get image.processes k)) (length image.processes) 0) none in
      let c = needed_by_routine image r x in
      let s = cap (needed_stay image r x) in
      let one = neither (below x.run (cap c.run)) (or_else (below x.susp (cap c.susp)) (or_else (below x.waits (cap c.waits)) (below x.stay s))) (none_of_all (routine_cost_fault image) image.routines p.0 r x at) in
      let two = neither (below x.susp (cap c.susp)) (or_else (below x.waits (cap c.waits)) (below x.stay s)) one.1 in
      let three = neither (below x.waits (cap c.waits)) (below x.stay s) two.1 in
      record { run = at_least_needed x.run (cap c.run) one.0; susp = at_least_needed x.susp (cap c.susp) two.0; waits = at_least_needed x.waits (cap c.waits) three.0; stay = at_least_needed x.stay s three.1 }

  pub process_costs : (k : ℕ) (p : Process) → slice_get image.processes k ≡ Some p → ProcessCosts image p
  process_costs k x at =
      let p = neither (first_of (λ r. of_some (routine_cost_fault image r) (slice_get image.routines r)) (length image.routines) 0) (first_of (λ k. of_some (process_cost_fault image) (slice_get image.processes k)) (length image.processes) 0) none in
      let c = needed_by_process image x in
      let run = cap (with_dispatch image.over c) in
      let one = neither (below x.run run) (or_else (below x.susp (cap c.susp)) (below x.waits (cap c.waits))) (none_of_all (λ k. process_cost_fault image) image.processes p.1 k x at) in
      let two = neither (below x.susp (cap c.susp)) (below x.waits (cap c.waits)) one.1 in
      record { run = at_least_needed x.run run one.0; susp = at_least_needed x.susp (cap c.susp) two.0; waits = at_least_needed x.waits (cap c.waits) two.1 }

-- ---- exact rows

module _ (image : Image) (shaped : shape_fault image ≡ None) (costs : cost_fault image ≡ None) where
  exact_row : (r : ℕ) (x : Routine) → slice_get image.routines r ≡ Some x → slice_get (exact image) r ≡ Some (exact_of image.code (take r (exact image)) x)
  exact_row r x at = row_is (exact_of image.code) image.routines r x at

  known_row : (r : ℕ) (x : Routine) → slice_get image.routines r ≡ Some x → slice_get (known image) r ≡ Some (known_of image.code (take r (known image)) x)
  known_row r x at = row_is (known_of image.code) image.routines r x at

  -- the rows before a place, where those before it are alike
  before : (r : ℕ) → ((q : ℕ) (k : Known) → q < r → slice_get (known image) q ≡ Some k → (l : Known) × (slice_get (exact image) q ≡ Some l) × Alike k l) → AreAlike (take r (known image)) (take r (exact image))
  before r alike q k at = elim (cases_lt q r) [
    | inl low ↦ (let a = alike q k low (sym (take_get r q (known image) low) ∙ at) in (a.0, take_get r q (exact image) low ∙ a.1, a.2))
    | inr high ↦ absurd (let e : None ≡ Some k = sym (take_past r q (known image) high) ∙ at in cc)
  ]

  alike_row : (r : ℕ) (x : Routine) → slice_get image.routines r ≡ Some x → AreAlike (take r (known image)) (take r (exact image)) → Alike (known_of image.code (take r (known image)) x) (exact_of image.code (take r (exact image)) x)
  alike_row r x at alike =
      let shape = routine_shaped image shaped r x at in
      let s = routine_same image.code (take r (known image)) (take r (exact image)) alike x shape.f shape.is in
      let c = routine_costs image costs r x at in
      let f_is : found_or_nothing (routine_found image.code (take r (known image)) x) ≡ shape.f = ap (λ o. found_or_nothing o) shape.is in
      let g_is : found_or_nothing (routine_found image.code (take r (exact image)) x) ≡ s.g = ap (λ o. found_or_nothing o) s.is in
      record {
        params = refl;
        results = refl;
        locals = refl;
        depth = omega (arith, ap (λ (f : Found). f.depth) f_is, ap (λ (f : Found). f.depth) g_is, s.depth);
        cost = record {
          run = omega (arith, ap (λ (f : Found). f.cost.run) f_is, ap (λ (f : Found). f.cost.run) g_is, s.cost.run, c.run);
          susp = omega (arith, ap (λ (f : Found). f.cost.susp) f_is, ap (λ (f : Found). f.cost.susp) g_is, s.cost.susp, c.susp);
          waits = omega (arith, ap (λ (f : Found). f.cost.waits) f_is, ap (λ (f : Found). f.cost.waits) g_is, s.cost.waits, c.waits);
        };
      }

  -- a row is that of a routine
  pub routine_of : (r : ℕ) (k : Known) → slice_get (known image) r ≡ Some k → (x : Routine) × (slice_get image.routines r ≡ Some x)
  routine_of r k at = some_at image.routines r (omega (arith, slice_get_within (known image) r k at, table_length (known_of image.code) [] image.routines))

  alike_below : (n r : ℕ) (k : Known) → r < n → slice_get (known image) r ≡ Some k → (l : Known) × (slice_get (exact image) r ≡ Some l) × Alike k l
  alike_below zero r k low at = absurd (omega (arith, low))
  alike_below (suc n) r k low at =
      let x = routine_of r k at in
      let same : known_of image.code (take r (known image)) x.0 ≡ k = (let e : Some (known_of image.code (take r (known image)) x.0) ≡ Some k = sym (known_row r x.0 x.1) ∙ at in cc) in (
        exact_of image.code (take r (exact image)) x.0,
        exact_row r x.0 x.1,
        subst (λ y. Alike y (exact_of image.code (take r (exact image)) x.0)) same (alike_row r x.0 x.1 (before r (λ q y less there. alike_below n q y (omega (arith, less, low)) there))),
      )

  -- all rows are alike
  pub alike : AreAlike (known image) (exact image)
  alike r k at = alike_below (suc r) r k (omega arith) at

  pub alike_before : (r : ℕ) → AreAlike (take r (known image)) (take r (exact image))
  alike_before r = before r (λ q k low at. alike q k at)

  -- what the code of a routine comes to, exactly
  pub record ExactRoutine (r : ℕ) (x : Routine) : Type 0 where
    pub f : Found
    pub declared : routine_found image.code (take r (known image)) x ≡ Some f
    pub s : Same (routine_found image.code (take r (exact image)) x) f
    pub row : slice_get (exact image) r ≡ Some (record { params = x.params; results = count x.gives; locals = x.locals; depth = s.g.depth; cost = longer 4 s.g.cost })

  pub exact_routine : (r : ℕ) (x : Routine) → slice_get image.routines r ≡ Some x → ExactRoutine r x
  exact_routine r x at =
      let shape = routine_shaped image shaped r x at in
      let s = routine_same image.code (take r (known image)) (take r (exact image)) (alike_before r) x shape.f shape.is in
      record {
        f = shape.f;
        declared = shape.is;
        s = s;
        row = exact_row r x at ∙ ap (λ o. Some (record { params = x.params; results = count x.gives; locals = x.locals; depth = (found_or_nothing o).depth; cost = longer 4 (found_or_nothing o).cost })) s.is;
      }

  -- ---- routines that reach no WAIT

  quiet_before : (r : ℕ) → ((q : ℕ) (k : Known) → q < r → slice_get (exact image) q ≡ Some k → waits_at (reach image) q ≡ false → (k.cost.susp ≡ 0) × (k.cost.waits ≡ 0)) → AreQuiet (take r (reach image)) (take r (exact image))
  quiet_before r quiet q k at silent = elim (cases_lt q r) [
    | inl low ↦ quiet q k low (sym (take_get r q (exact image) low) ∙ at) (sym (ap (λ o. waits_of o) (take_get r q (reach image) low)) ∙ silent)
    | inr high ↦ absurd (let e : None ≡ Some k = sym (take_past r q (exact image) high) ∙ at in cc)
  ]

  quiet_below : (n r : ℕ) (k : Known) → r < n → slice_get (exact image) r ≡ Some k → waits_at (reach image) r ≡ false → (k.cost.susp ≡ 0) × (k.cost.waits ≡ 0)
  quiet_below zero r k low at silent = absurd (omega (arith, low))
  quiet_below (suc n) r k low at silent =
      let x = some_at image.routines r (omega (arith, slice_get_within (exact image) r k at, table_length (exact_of image.code) [] image.routines)) in
      let e = exact_routine r x.0 x.1 in
      let tree : tree_waits (take r (reach image)) x.0.tree ≡ false = sym (ap (λ o. waits_of o) (row_is (reach_of image) image.routines r x.0 x.1)) ∙ silent in
      let q = routine_quiet image.code (take r (reach image)) (take r (exact image)) (quiet_before r (λ q y less there still. quiet_below n q y (omega (arith, less, low)) there still)) x.0 e.s.g tree e.s.is in
      let same : record { params = x.0.params; results = count x.0.gives; locals = x.0.locals; depth = e.s.g.depth; cost = longer 4 e.s.g.cost } ≡ k = (let a = sym e.row ∙ at in cc) in
      subst (λ (y : Known). (y.cost.susp ≡ 0) × (y.cost.waits ≡ 0)) same q

  pub quiet : AreQuiet (reach image) (exact image)
  quiet r k at silent = quiet_below (suc r) r k (omega arith) at silent
