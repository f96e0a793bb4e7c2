-- The code with branches, a loop with an exit and nested calls is of its trees.
use Rattle.std.proofs.Common.{◌≡◌, inl, inr, ℕ, zero, suc, List, [], ◌∷◌, Some, None, arith, refl, subst}
use Rattle.std.specs.Prelude.{pos, slice_get}
use Rattle.machine_isa.specs.declared.instr.Instr.{Instr}
use Rattle.machine_isa.specs.declared.instr.Instr.TheVariants as i
use Rattle.machine_semantics.specs.Trees.{Line, Fork, Call, Exit, Nil, Cons}
use Rattle.machine_semantics.specs.Image.{Routine, Process}
use Rattle.machine_semantics.specs.Walk.{Where, Walks, within}
use Rattle.machine_semantics.specs.Job.{RoutineFits, RoutinesFit}
use Rattle.machine_semantics.specs.Safe.{ProcessFits}
use Rattle.machine_safety.specs.Example.{IsNeverStuck, cost, own_part, inner_routine, outer_routine, looping_process, looping, inner_part, outer_part, looping_part, looping_cost, looping_parts, LoopingFits}
use Rattle.machine_safety.proofs.Building.{exact, own_fits}
use Rattle.machine_safety.proofs.Running.{every_run_is_safe}

abbrev pub code : List Instr
code =
    i.LoadLocal (pos 0) ∷ i.Push (pos 1) ∷ i.Add ∷ i.ReturnValue
    ∷ i.Push (pos 2) ∷ i.Call (pos 0) ∷ i.StoreLocal (pos 0) ∷ i.Return
    ∷ i.Repeats (pos 3) ∷ i.In (pos 0) ∷ i.Exit (pos 18) ∷ i.In (pos 0) ∷ i.JumpZero (pos 15) ∷ i.Call (pos 1) ∷ i.Jump (pos 17) ∷ i.Push (pos 1) ∷ i.Out (pos 1) ∷ i.Repeat (pos 9)
    ∷ i.End ∷ []

abbrev e : Where
e = record { image = looping code; parts = looping_part; costs = looping_cost; part = own_part 9 0 0 }

-- ---- the routines

inner_code : Walks (within e inner_part) None None 0 inner_routine.tree 0 3 0 1 (cost 5 0 0)
inner_code = record { mid = 3; between = 1; first = cost 5 0 0; later = cost 0 0 0; here = (refl, record { instr = i.LoadLocal (pos 0); here = refl; plain = (0, refl, omega arith); kept = 0; taken = refl; room = omega arith; later = cost 3 0 0; more = record { instr = i.Push (pos 1); here = refl; plain = tt; kept = 1; taken = refl; room = omega arith; later = cost 2 0 0; more = record { instr = i.Add; here = refl; plain = tt; kept = 0; taken = refl; room = omega arith; later = cost 0 0 0; more = (refl, refl); covers = exact }; covers = exact }; covers = exact }); more = (refl, refl); covers = exact }

inner_fits : RoutineFits e 0 inner_routine
inner_fits = record { locals = refl; last = 3; inner = cost 5 0 0; tree = inner_code; ends = refl; returns = inr (refl, refl); entry = inl refl; covers = exact }

outer_code : Walks (within e outer_part) None None 0 outer_routine.tree 4 7 0 0 (cost 18 0 0)
outer_code = record { mid = 5; between = 1; first = cost 1 0 0; later = cost 17 0 0; here = (refl, record { instr = i.Push (pos 2); here = refl; plain = tt; kept = 0; taken = refl; room = omega arith; later = cost 0 0 0; more = (refl, refl); covers = exact }); more = record { mid = 6; between = 1; first = cost 15 0 0; later = cost 2 0 0; here = record { here = refl; routine = inner_routine; there = refl; below = 0; taken = refl; given = refl; locals = refl; params = omega arith; inside = inl refl; may = inl refl; owned = omega arith; limit = omega arith; stays = λ m. omega arith; room = omega arith; room_after = omega arith; next_is = refl; covers = exact }; more = record { mid = 7; between = 0; first = cost 2 0 0; later = cost 0 0 0; here = (refl, record { instr = i.StoreLocal (pos 0); here = refl; plain = (0, refl, omega arith); kept = 0; taken = refl; room = omega arith; later = cost 0 0 0; more = (refl, refl); covers = exact }); more = (refl, refl); covers = exact }; covers = exact }; covers = exact }

outer_fits : RoutineFits e 1 outer_routine
outer_fits = record { locals = refl; last = 7; inner = cost 18 0 0; tree = outer_code; ends = refl; returns = inl (refl, refl); entry = inl refl; covers = exact }

routines_fit : RoutinesFit e
routines_fit zero routine at = let is : inner_routine ≡ routine = cc in subst (λ (x : Routine). RoutineFits e 0 x) is inner_fits
routines_fit (suc zero) routine at = let is : outer_routine ≡ routine = cc in subst (λ (x : Routine). RoutineFits e 1 x) is outer_fits
routines_fit (suc (suc r)) routine at = absurd cc

-- ---- the process

calls : Walks e (Some 18) None 1 (Cons (Call 1) Nil) 13 14 0 0 (cost 28 0 0)
calls = record { mid = 14; between = 0; first = cost 28 0 0; later = cost 0 0 0; here = record { here = refl; routine = outer_routine; there = refl; below = 0; taken = refl; given = refl; locals = refl; params = omega arith; inside = inl refl; may = inl refl; owned = omega arith; limit = omega arith; stays = λ m. omega arith; room = omega arith; room_after = omega arith; next_is = refl; covers = exact }; more = (refl, refl); covers = exact }

puts : Walks e (Some 18) None 1 (Cons (Line 2) Nil) 15 17 0 0 (cost 11 0 0)
puts = record { mid = 17; between = 0; first = cost 11 0 0; later = cost 0 0 0; here = (refl, record { instr = i.Push (pos 1); here = refl; plain = tt; kept = 0; taken = refl; room = omega arith; later = cost 10 0 0; more = record { instr = i.Out (pos 1); here = refl; plain = (1, refl, omega arith); kept = 0; taken = refl; room = omega arith; later = cost 0 0 0; more = (refl, refl); covers = exact }; covers = exact }); more = (refl, refl); covers = exact }

turn : Walks e (Some 18) None 1 (Cons (Line 1) (Cons Exit (Cons (Line 1) (Cons (Fork (Cons (Call 1) Nil) (Cons (Line 2) Nil)) Nil)))) 9 17 0 0 (cost 54 0 0)
turn = record { mid = 10; between = 1; first = cost 10 0 0; later = cost 44 0 0; here = (refl, record { instr = i.In (pos 0); here = refl; plain = (0, refl, omega arith); kept = 0; taken = refl; room = omega arith; later = cost 0 0 0; more = (refl, refl); covers = exact }); more = record { mid = 11; between = 0; first = cost 3 0 0; later = cost 41 0 0; here = record { to = 18; in_loop = refl; exits = refl; taken = refl; kept = refl; next_is = refl; covers = exact }; more = record { mid = 12; between = 1; first = cost 10 0 0; later = cost 31 0 0; here = (refl, record { instr = i.In (pos 0); here = refl; plain = (0, refl, omega arith); kept = 0; taken = refl; room = omega arith; later = cost 0 0 0; more = (refl, refl); covers = exact }); more = record { mid = 17; between = 0; first = cost 31 0 0; later = cost 0 0 0; here = record { jump = 14; below = 0; tests = refl; taken = refl; first_cost = cost 28 0 0; first_arm = calls; jumps = refl; second_cost = cost 11 0 0; second_arm = puts; covers_first = exact; covers_second = record { run = omega arith; susp = omega arith; waits = omega arith; leave = omega arith } }; more = (refl, refl); covers = exact }; covers = exact }; covers = exact }; covers = exact }

body : Walks e None None 0 looping_process.body 8 18 0 0 (cost 173 0 0)
body = record { mid = 18; between = 0; first = cost 173 0 0; later = cost 0 0 0; here = record { counts = refl; last = 17; turn = cost 54 0 0; loop = turn; repeats = refl; next_is = refl; kept = refl; room = omega arith; covers = exact }; more = (refl, refl); covers = exact }

process_fits : ProcessFits e looping_process (looping_parts 0)
process_fits = record {
  body = own_fits 9 0 0 looping_process refl refl (omega arith) (omega arith);
  code = body;
  ends = refl;
  handler = own_fits 9 0 0 looping_process refl refl (omega arith) (omega arith);
  handles = λ number listed. absurd cc;
  no_susp = refl;
  no_waits = refl;
}

processes_fit : (k : ℕ) (p : Process) → slice_get (looping code).processes k ≡ Some p → ProcessFits e p (looping_parts k)
processes_fit zero p at = let is : looping_process ≡ p = cc in subst (λ (x : Process). ProcessFits e x (looping_parts 0)) is process_fits
processes_fit (suc k) p at = absurd cc

pub looping_fits : LoopingFits code
looping_fits = record { routines = routines_fit; bases = λ m monitor at. absurd cc; processes = processes_fit }

pub looping_is_safe : IsNeverStuck (looping code)
looping_is_safe script t = (every_run_is_safe e looping_parts script t looping_fits).0
