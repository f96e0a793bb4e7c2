-- The code with a monitor, a wait, a signal and a handler is of its trees.
use Rattle.std.proofs.Common.{◌≡◌, ◌≤◌, ◌+◌, inl, inr, ℕ, zero, suc, List, [], ◌∷◌, Some, None, arith, refl, sym, subst, false}
use Rattle.std.specs.Prelude.{pos, slice_get}
use Rattle.machine_isa.specs.declared.instr.Instr.{Instr}
use Rattle.machine_isa.specs.declared.instr.Instr.TheVariants as i
use Rattle.machine_semantics.specs.Trees.{Line, Call, Stay, Wait, Nil, Cons}
use Rattle.machine_semantics.specs.Image.{Monitor, Routine, Process}
use Rattle.machine_semantics.specs.Walk.{At, Walks, within}
use Rattle.machine_semantics.specs.Job.{RoutineFits, RoutinesFit}
use Rattle.machine_semantics.specs.Safe.{ProcessFits}
use Rattle.machine_safety.specs.Example.{cost, entry_cost, entry_stay, own_part, meeting, meeting_place, meeting_parts, MeetingFits, MeetingIsSafe}
use Rattle.machine_safety.proofs.Building.{exact, own_fits}
use Rattle.machine_safety.proofs.Running.{every_run_is_safe}

abbrev pub code : List Instr
code =
    i.Enter (pos 0) ∷ i.Wait (pos 0) (pos 30) (pos 10) ∷ i.Reenter (pos 0) ∷ i.Leave (pos 0) ∷ i.Return
    ∷ i.Enter (pos 0) ∷ i.Signal (pos 0) ∷ i.Leave (pos 0) ∷ i.Return
    ∷ i.Call (pos 0) ∷ i.End ∷ i.Push (pos 1) ∷ i.Out (pos 0) ∷ i.End
    ∷ i.Call (pos 1) ∷ i.End ∷ []

routines_fit : (over : ℕ) → RoutinesFit (meeting_place over code)
routines_fit over zero routine at =
    let is : record { kind = 2; owner = 0; params = 0; locals = 0; gives = false; start = 0; run = 22; susp = 30; waits = 1; stay = 13; tree = Cons (Stay 0 (Cons Wait Nil)) Nil } ≡ routine = cc in
    subst (λ (x : Routine). RoutineFits (meeting_place over code) 0 x) is (record {
      locals = refl;
      last = 4;
      inner = cost 18 30 1;
      tree = record {
        mid = 4;
        between = 0;
        first = cost 18 30 1;
        later = cost 0 0 0;
        here = record {
          no_loop = refl;
          outside = refl;
          entry = refl;
          level = refl;
          reach = record { monitor = record { base = 0; words = 0; ceiling = 1 }; there = refl; low = omega arith };
          enters = refl;
          last = 3;
          inner = cost 10 30 1;
          stays = record {
            mid = 3;
            between = 0;
            first = cost 10 30 1;
            later = cost 0 0 0;
            here = record {
              monitor = 0;
              entry = refl;
              inside = refl;
              reach = record { monitor = record { base = 0; words = 0; ceiling = 1 }; there = refl; low = omega arith };
              condition = 0;
              limit = 30;
              number = 10;
              waits = refl;
              of = refl;
              enters = refl;
              next_is = refl;
              kept = refl;
              covers = exact;
            };
            more = (refl, refl);
            covers = exact;
          };
          leaves = refl;
          short = omega arith;
          next_is = refl;
          covers = exact;
        };
        more = (refl, refl);
        covers = exact;
      };
      ends = refl;
      returns = inl (refl, refl);
      entry = inr refl;
      covers = exact;
    })
routines_fit over (suc zero) routine at =
    let is : record { kind = 2; owner = 0; params = 0; locals = 0; gives = false; start = 5; run = 17; susp = 0; waits = 0; stay = 8; tree = Cons (Stay 0 (Cons (Line 1) Nil)) Nil } ≡ routine = cc in
    subst (λ (x : Routine). RoutineFits (meeting_place over code) 1 x) is (record {
      locals = refl;
      last = 8;
      inner = cost 13 0 0;
      tree = record {
        mid = 8;
        between = 0;
        first = cost 13 0 0;
        later = cost 0 0 0;
        here = record {
          no_loop = refl;
          outside = refl;
          entry = refl;
          level = refl;
          reach = record { monitor = record { base = 0; words = 0; ceiling = 1 }; there = refl; low = omega arith };
          enters = refl;
          last = 7;
          inner = cost 5 0 0;
          stays = record {
            mid = 7;
            between = 0;
            first = cost 5 0 0;
            later = cost 0 0 0;
            here = (
              refl,
              record {
                instr = i.Signal (pos 0);
                here = refl;
                plain = (0, refl, omega arith);
                kept = 0;
                taken = refl;
                room = omega arith;
                later = cost 0 0 0;
                more = (refl, refl);
                covers = exact;
              },
            );
            more = (refl, refl);
            covers = exact;
          };
          leaves = refl;
          short = omega arith;
          next_is = refl;
          covers = exact;
        };
        more = (refl, refl);
        covers = exact;
      };
      ends = refl;
      returns = inl (refl, refl);
      entry = inr refl;
      covers = exact;
    })
routines_fit over (suc (suc r)) routine at = absurd cc

bases_fit : (over m : ℕ) (monitor : Monitor) → slice_get (meeting over code).monitors m ≡ Some monitor → monitor.base + monitor.words ≤ 0
bases_fit over zero monitor at = let is : record { base = 0; words = 0; ceiling = 1 } ≡ monitor = cc in subst (λ (x : Monitor). x.base + x.words ≤ 0) is (omega arith)
bases_fit over (suc m) monitor at = absurd cc

-- the body of a process: one call
calls : (over r start last : ℕ) → (routine : Routine) → slice_get (meeting over code).routines r ≡ Some routine → routine.params ≡ 0 → routine.locals ≡ 0
    → At (meeting_place over code) start (i.Call (pos r)) → last ≡ start + 1
    → Walks (within (meeting_place over code) (own_part 2 1 (entry_stay r))) None None 0 (Cons (Call r) Nil) start last 0 0 (record { run = 6 + (entry_cost r).run; susp = (entry_cost r).susp; waits = (entry_cost r).waits; leave = 6 + (entry_cost r).leave })
calls over r start last routine there params locals at is = record {
  mid = last;
  between = 0;
  first = record { run = 6 + (entry_cost r).run; susp = (entry_cost r).susp; waits = (entry_cost r).waits; leave = 6 + (entry_cost r).leave };
  later = cost 0 0 0;
  here = record {
    here = at;
    routine = routine;
    there = there;
    below = 0;
    taken = omega (arith, params);
    given = omega arith;
    locals = sym locals;
    params = omega (arith, params, locals);
    inside = inl refl;
    may = inr refl;
    owned = omega arith;
    limit = omega arith;
    stays = λ m. omega arith;
    room = omega (arith, locals);
    room_after = omega arith;
    next_is = is;
    covers = exact;
  };
  more = (refl, refl);
  covers = record { run = omega arith; susp = omega arith; waits = omega arith; leave = omega arith };
}

processes_fit : (over k : ℕ) (p : Process) → slice_get (meeting over code).processes k ≡ Some p → ProcessFits (meeting_place over code) p (meeting_parts k)
processes_fit over zero p at =
    let is : record {
      kind = 0;
      frame = 200;
      deadline = 200;
      first = 0;
      event = 0;
      rank = 1;
      run = 43;
      susp = 30;
      waits = 1;
      block = 8;
      bound = 89;
      words = 0;
      stack = 2;
      locals = 0;
      start = 9;
      handler = 11;
      numbers = 10 ∷ [];
      body = Cons (Call 0) Nil;
      handler_tree = Some (Cons (Line 2) Nil);
    } ≡ p = cc in
    subst (λ (x : Process). ProcessFits (meeting_place over code) x (meeting_parts 0)) is (record {
      body = own_fits 2 1 13 _ refl refl (omega arith) (omega arith);
      code = calls over 0 9 10 _ refl refl refl refl refl;
      ends = refl;
      handler = own_fits 2 1 13 _ refl refl (omega arith) (omega arith);
      handles = λ number listed. (
        Cons (Line 2) Nil,
        record {
          code = record {
            mid = 13;
            between = 0;
            first = cost 11 0 0;
            later = cost 0 0 0;
            here = (
              refl,
              record {
                instr = i.Push (pos 1);
                here = refl;
                plain = tt;
                kept = 0;
                taken = refl;
                room = omega arith;
                later = cost 10 0 0;
                more = record {
                  instr = i.Out (pos 0);
                  here = refl;
                  plain = (0, refl, omega arith);
                  kept = 0;
                  taken = refl;
                  room = omega arith;
                  later = cost 0 0 0;
                  more = (refl, refl);
                  covers = exact;
                };
                covers = exact;
              },
            );
            more = (refl, refl);
            covers = exact;
          };
          ends = refl;
        },
      );
      no_susp = refl;
      no_waits = refl;
    })
processes_fit over (suc zero) p at =
    let is : record {
      kind = 0;
      frame = 300;
      deadline = 300;
      first = 31;
      event = 0;
      rank = 2;
      run = 27;
      susp = 0;
      waits = 0;
      block = 0;
      bound = 300;
      words = 0;
      stack = 2;
      locals = 0;
      start = 14;
      handler = 0;
      numbers = [];
      body = Cons (Call 1) Nil;
      handler_tree = None;
    } ≡ p = cc in
    subst (λ (x : Process). ProcessFits (meeting_place over code) x (meeting_parts 1)) is (record {
      body = own_fits 2 1 8 _ refl refl (omega arith) (omega arith);
      code = calls over 1 14 15 _ refl refl refl refl refl;
      ends = refl;
      handler = own_fits 2 1 8 _ refl refl (omega arith) (omega arith);
      handles = λ number listed. absurd cc;
      no_susp = refl;
      no_waits = refl;
    })
processes_fit over (suc (suc k)) p at = absurd cc

pub meeting_fits : MeetingFits code
meeting_fits over = record { routines = routines_fit over; bases = bases_fit over; processes = processes_fit over }

pub meeting_is_safe : MeetingIsSafe code
meeting_is_safe over script t = (every_run_is_safe (meeting_place over code) meeting_parts script t (meeting_fits over)).0
