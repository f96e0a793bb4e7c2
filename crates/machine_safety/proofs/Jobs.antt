-- An instruction of a process, with its calls in progress.
use Rattle.std.proofs.Common.{◌≡◌, ◌≤◌, ◌+◌, ◌-◌, inl, inr, ℕ, zero, suc, List, [], ◌∷◌, Option, Some, None, length, length-append, arith, refl, ap, sym, subst, ◌∙◌, true, Bool}
use Rattle.std.specs.Prelude.{ℤ, pos}
use Rattle.std.proofs.lemmas.Option.{same_Some}
use Rattle.base.proofs.Numbers.{itself}
use Rattle.machine_isa.specs.declared.instr.Instr.{Instr}
use Rattle.machine_isa.specs.declared.instr.Instr.TheVariants as i
use Rattle.machine_semantics.specs.Trees.{Segs, Line, Fork, Rep, Call, Stay, Wait, Exit}
use Rattle.machine_semantics.specs.Image.{Routine}
use Rattle.machine_semantics.specs.State.{Operand, Value, Counter, Caller, State, is_free, is_inside, zeros}
use Rattle.machine_semantics.specs.Effect.{Own, holding, take_one, one, give, arguments, called, call, back, enters, leaves, wait, waits}
use Rattle.machine_semantics.specs.Tick.{at_next}
use Rattle.machine_semantics.specs.Part.{Part, Kind, Plain, kinds, plains, IsSized}
use Rattle.machine_semantics.specs.Walk.{Where, WalkCost, Reaches, Walk, within}
use Rattle.machine_semantics.specs.Path.{Step, Segment, Skip, Again, Leaves, under, held, then_rest, Follows, Frame, Returning, next_own}
use Rattle.machine_semantics.specs.Job.{RoutineFits, RoutinesFit, joined, Inside, Chain, Stands, Comes, Less, Keeps, FindsFree, InstructionIsSafe}
use Rattle.machine_safety.proofs.Lists.{plains_add, length-plains, under_then, held_then}
use Rattle.machine_safety.proofs.Frames.{IsInside, Moves, follows_then, at_line, at_fork, at_skip, at_rep, at_again, at_exit}
use Rattle.machine_safety.proofs.JobBasics.{is_inside_part, joined_here, joined_less, Instruction, within_frame, chain_owned, chain_limit, chain_stays, entry_inside}

-- ---- monitors

at_stay : (e : Where) (s : State) (own : Part) (o : Own) (c : WalkCost) (m : ℕ) (body : Segs) (rest : List Step) (st : Stands e own o c) → st.path ≡ Segment (Stay m body) ∷ rest
    → FindsFree e s own o → Instruction e s own o c
at_stay e s own o c m body rest st is free =
    let path : List Step = Segment (Stay m body) ∷ rest in
    let w : Where = within e st.part in
    let f : Frame w path st.out st.height st.here o = subst (λ (q : List Step). Frame w q st.out st.height st.here o) is st.frame in
    let in_it : Inside st.part path o.job.inside st.below = subst (λ (q : List Step). Inside st.part q o.job.inside st.below) is st.inside_is in
    let stay : Walk w st.out (held rest) (length (under rest)) (Stay m body) o.job.place f.follows.next st.height f.follows.k f.follows.first = f.follows.walk in
    let told : (o.job.inside ≡ held rest) × (st.below ≡ None) = entry_inside st.part path o.job.inside st.below m in_it stay.entry in
    let none : o.job.inside ≡ None = told.0 ∙ stay.outside in
    let leaving : List Step = Leaves m ∷ rest in
    let new : List Step = then_rest body leaving in
    let u : under new ≡ under rest = under_then body leaving in
    let more : Follows w st.out rest (stay.last + 1) f.follows.k f.follows.later = subst (λ (a : ℕ). Follows w st.out rest a f.follows.k f.follows.later) stay.next_is f.follows.more in
    let leave_cost : WalkCost = record { run = 3 + f.follows.later.run; susp = f.follows.later.susp; waits = f.follows.later.waits; leave = 3 } in
    let here : WalkCost = record { run = stay.inner.run + leave_cost.run; susp = stay.inner.susp + leave_cost.susp; waits = stay.inner.waits + leave_cost.waits; leave = stay.inner.leave + leave_cost.leave } in
    let follows : Follows w st.out new (o.job.place + 1) st.height here =
    follows_then w st.out body leaving (o.job.place + 1) stay.last st.height f.follows.k stay.inner leave_cost here stay.stays
    (record { no_loop = stay.no_loop; leaves = stay.leaves; entry = stay.entry; outside = stay.outside; later = f.follows.later; more = more; covers = record { run = omega arith; susp = omega arith; waits = omega arith; leave = omega arith } })
    (record { run = omega arith; susp = omega arith; waits = omega arith; leave = omega arith }) in
    let limit : st.part.limit ≤ own.limit = chain_limit e own st.part o.job.callers st.below st.later st.chain in
    let is_free_now : is_free m s.threads ≡ true = free m stay.reach.monitor stay.reach.there (omega (arith, stay.reach.low, limit)) none in (
      i.Enter (pos m),
      stay.enters,
      subst (λ (b : Bool). Keeps e own c 5 o (enters b o.job.inside m (next_own o))) (sym is_free_now)
          (subst (λ (j : Option ℕ). Keeps e own c 5 o (enters true j m (next_own o))) (sym none)
          (record {
            cost = record { run = here.run + st.later.run; susp = here.susp + st.later.susp; waits = here.waits + st.later.waits; leave = joined st.part.monitor here.leave st.later.leave };
            stands = record {
              part = st.part;
              path = new;
              out = st.out;
              height = st.height;
              here = here;
              later = st.later;
              below = st.below;
              frame = record {
                follows = follows;
                operands = f.operands ∙ ap (λ (ks : List Kind). plains st.height ks) (sym u);
                room = omega (arith, f.room, length-plains st.height (under rest), length-plains st.height (under new), ap (λ (ks : List Kind). length ks) u);
                words = record { locals = f.words.locals; owned = f.words.owned };
              };
              inside_is = record { told = inr (sym (held_then body leaving), told.1); outer = λ two. absurd (omega (arith, two, stay.level)) };
              short = λ k is_k held_k. (let same : m ≡ k = same_Some m k (sym stay.entry ∙ is_k) in omega (arith, stay.short, ap (λ (x : ℕ). st.part.stays x) same));
              chain = st.chain;
              enough = st.enough;
              covers = record { run = omega arith; susp = omega arith; waits = omega arith; leave = omega arith };
            };
            less = record { run = omega (arith, stay.covers, f.follows.covers, st.covers); susp = omega (arith, stay.covers, f.follows.covers, st.covers); waits = omega (arith, stay.covers, f.follows.covers, st.covers); leave = omega (arith, stay.covers, f.follows.covers, st.covers) };
            stays = λ k was now. absurd cc;
            begins = λ k was now. (let same : m ≡ k = same_Some m k now in omega (arith, stay.short, ap (λ (x : ℕ). st.part.stays x) same, ap (λ (x : Option ℕ). joined x here.leave st.later.leave) stay.entry, chain_stays e own st.part o.job.callers st.below st.later k st.chain));
            reaches = λ k was now. (let same : m ≡ k = same_Some m k now in subst (λ (x : ℕ). Reaches (within e own) x) same (record { monitor = stay.reach.monitor; there = stay.reach.there; low = omega (arith, stay.reach.low, limit) }));
            inside = inr (inr none);
            done = refl;
            dispatch_ticks = refl;
            handling = refl;
            owned = refl;
            shared = refl;
          })),
      λ k was. absurd (let none' : o.job.inside ≡ None = none in cc),
    )

at_leave : (e : Where) (s : State) (own : Part) (o : Own) (c : WalkCost) (m : ℕ) (rest : List Step) (st : Stands e own o c) → st.path ≡ Leaves m ∷ rest → Instruction e s own o c
at_leave e s own o c m rest st is =
    let path : List Step = Leaves m ∷ rest in
    let w : Where = within e st.part in
    let f : Frame w path st.out st.height st.here o = subst (λ (q : List Step). Frame w q st.out st.height st.here o) is st.frame in
    let in_it : Inside st.part path o.job.inside st.below = subst (λ (q : List Step). Inside st.part q o.job.inside st.below) is st.inside_is in
    let told : (o.job.inside ≡ Some m) × (st.below ≡ None) = entry_inside st.part path o.job.inside st.below m in_it f.follows.entry in (
      i.Leave (pos m),
      f.follows.leaves,
      subst (λ (j : Option ℕ). Keeps e own c 3 o (leaves (is_inside m j) m (next_own o))) (sym told.0)
          (subst (λ (b : Bool). Keeps e own c 3 o (leaves b m (next_own o))) (sym (itself m))
          (record {
            cost = record { run = f.follows.later.run + st.later.run; susp = f.follows.later.susp + st.later.susp; waits = f.follows.later.waits + st.later.waits; leave = joined st.part.monitor f.follows.later.leave st.later.leave };
            stands = record {
              part = st.part;
              path = rest;
              out = st.out;
              height = st.height;
              here = f.follows.later;
              later = st.later;
              below = st.below;
              frame = record { follows = f.follows.more; operands = f.operands; room = f.room; words = record { locals = f.words.locals; owned = f.words.owned } };
              inside_is = record { told = inr (sym f.follows.outside, told.1); outer = λ two. refl };
              short = λ k is_k held_k. absurd (let none : held rest ≡ None = f.follows.outside in cc);
              chain = st.chain;
              enough = st.enough;
              covers = record { run = omega arith; susp = omega arith; waits = omega arith; leave = omega arith };
            };
            less = record { run = omega (arith, f.follows.covers, st.covers); susp = omega (arith, f.follows.covers, st.covers); waits = omega (arith, f.follows.covers, st.covers); leave = omega (arith, f.follows.covers, st.covers) };
            stays = λ k was now. absurd cc;
            begins = λ k was now. absurd cc;
            reaches = λ k was now. absurd cc;
            inside = inr (inl refl);
            done = refl;
            dispatch_ticks = refl;
            handling = refl;
            owned = refl;
            shared = refl;
          })),
      λ k was. omega (arith, f.follows.covers, joined_here st.part.monitor st.here.leave st.later.leave, st.covers),
    )

at_wait : (e : Where) (s : State) (own : Part) (o : Own) (c : WalkCost) (rest : List Step) (st : Stands e own o c) → st.path ≡ Segment Wait ∷ rest → Instruction e s own o c
at_wait e s own o c rest st is =
    let path : List Step = Segment Wait ∷ rest in
    let w : Where = within e st.part in
    let f : Frame w path st.out st.height st.here o = subst (λ (q : List Step). Frame w q st.out st.height st.here o) is st.frame in
    let in_it : Inside st.part path o.job.inside st.below = subst (λ (q : List Step). Inside st.part q o.job.inside st.below) is st.inside_is in
    let pause : Walk w st.out (held rest) (length (under rest)) Wait o.job.place f.follows.next st.height f.follows.k f.follows.first = f.follows.walk in
    let told : (o.job.inside ≡ held rest) × (st.below ≡ None) = entry_inside st.part path o.job.inside st.below pause.monitor in_it pause.entry in
    let now : o.job.inside ≡ Some pause.monitor = told.0 ∙ pause.inside in
    let place : f.follows.next ≡ o.job.place + 1 + 1 = omega (arith, pause.next_is) in
    let more : Follows w st.out rest (o.job.place + 1 + 1) st.height f.follows.later =
    subst (λ (a : ℕ). Follows w st.out rest a st.height f.follows.later) place (subst (λ (g : ℕ). Follows w st.out rest f.follows.next g f.follows.later) pause.kept f.follows.more) in
    let short_now : st.here.leave ≤ st.part.stays pause.monitor = st.short pause.monitor pause.entry (ap (λ (q : List Step). held q) is ∙ pause.inside) in
    let here : WalkCost = record { run = 4 + f.follows.later.run; susp = f.follows.later.susp; waits = f.follows.later.waits; leave = 4 + f.follows.later.leave } in (
      i.Wait (pos pause.condition) (pos pause.limit) (pos pause.number),
      pause.waits,
      subst (λ (q : Option ℕ). Keeps e own c 6 o (wait q (pos pause.condition) (pos pause.limit) (pos pause.number) (next_own o))) (sym pause.of)
          (subst (λ (j : Option ℕ). Keeps e own c 6 o (waits (is_inside pause.monitor j) (pos pause.condition) (pos pause.limit) (pos pause.number) (next_own o))) (sym now)
          (subst (λ (b : Bool). Keeps e own c 6 o (waits b (pos pause.condition) (pos pause.limit) (pos pause.number) (next_own o))) (sym (itself pause.monitor))
          (record {
            monitor = pause.monitor;
            of = pause.of;
            cost = record { run = here.run + st.later.run; susp = here.susp + st.later.susp; waits = here.waits + st.later.waits; leave = joined st.part.monitor here.leave st.later.leave };
            comes = record {
              part = st.part;
              path = rest;
              out = st.out;
              height = st.height;
              here = here;
              later = st.later;
              back = record {
                monitor = pause.monitor;
                enters = pause.enters;
                entry = pause.inside;
                is_entry = pause.entry;
                reach = pause.reach;
                later = f.follows.later;
                follows = more;
                operands = f.operands;
                room = f.room;
                words = record { locals = f.words.locals; owned = f.words.owned };
                short = omega (arith, f.follows.covers, pause.covers, short_now);
                covers = record { run = omega arith; susp = omega arith; waits = omega arith; leave = omega arith };
              };
              outside = refl;
              level = λ two. (let no_one : o.job.inside ≡ None = in_it.outer two in cc);
              chain = subst (λ (j : Option ℕ). Chain e own st.part o.job.callers j st.later) told.1 st.chain;
              enough = st.enough;
              covers = record { run = omega arith; susp = omega arith; waits = omega arith; leave = omega arith };
            };
            less = record { run = omega (arith, pause.covers, f.follows.covers, st.covers); susp = omega (arith, pause.covers, f.follows.covers, st.covers); waits = omega (arith, pause.covers, f.follows.covers, st.covers); leave = omega (arith, pause.covers, f.follows.covers, st.covers) };
            done = refl;
            dispatch_ticks = refl;
            handling = refl;
            owned = refl;
            shared = refl;
          }))),
      λ k was. omega (arith, pause.covers, f.follows.covers, joined_here st.part.monitor st.here.leave st.later.leave, st.covers),
    )

at_return : (e : Where) (s : State) (own : Part) (o : Own) (c : WalkCost) (comes : Comes e own o c) → FindsFree e s own o → Instruction e s own o c
at_return e s own o c comes free =
    let b : Returning (within e comes.part) comes.path comes.out comes.height comes.here o = comes.back in
    let limit : comes.part.limit ≤ own.limit = chain_limit e own comes.part o.job.callers None comes.later comes.chain in
    let is_free_now : is_free b.monitor s.threads ≡ true = free b.monitor b.reach.monitor b.reach.there (omega (arith, b.reach.low, limit)) comes.outside in (
      i.Reenter (pos b.monitor),
      b.enters,
      subst (λ (t : Bool). Keeps e own c 4 o (enters t o.job.inside b.monitor (next_own o))) (sym is_free_now)
          (subst (λ (j : Option ℕ). Keeps e own c 4 o (enters true j b.monitor (next_own o))) (sym comes.outside)
          (record {
            cost = record { run = b.later.run + comes.later.run; susp = b.later.susp + comes.later.susp; waits = b.later.waits + comes.later.waits; leave = joined comes.part.monitor b.later.leave comes.later.leave };
            stands = record {
              part = comes.part;
              path = comes.path;
              out = comes.out;
              height = comes.height;
              here = b.later;
              later = comes.later;
              below = None;
              frame = record { follows = b.follows; operands = b.operands; room = b.room; words = record { locals = b.words.locals; owned = b.words.owned } };
              inside_is = record { told = inr (sym b.entry, refl); outer = λ two. absurd (comes.level two) };
              short = λ k is_k held_k. (let same : b.monitor ≡ k = same_Some b.monitor k (sym b.entry ∙ held_k) in omega (arith, b.short, ap (λ (x : ℕ). comes.part.stays x) same));
              chain = comes.chain;
              enough = comes.enough;
              covers = record { run = omega arith; susp = omega arith; waits = omega arith; leave = omega arith };
            };
            less = record { run = omega (arith, b.covers, comes.covers); susp = omega (arith, b.covers, comes.covers); waits = omega (arith, b.covers, comes.covers); leave = omega (arith, b.covers, comes.covers) };
            stays = λ k was now. absurd (let none : o.job.inside ≡ None = comes.outside in cc);
            begins = λ k was now. (let same : b.monitor ≡ k = same_Some b.monitor k now in omega (arith, b.short, ap (λ (x : ℕ). comes.part.stays x) same, ap (λ (x : Option ℕ). joined x b.later.leave comes.later.leave) b.is_entry, chain_stays e own comes.part o.job.callers None comes.later k comes.chain));
            reaches = λ k was now. (let same : b.monitor ≡ k = same_Some b.monitor k now in subst (λ (x : ℕ). Reaches (within e own) x) same (record { monitor = b.reach.monitor; there = b.reach.there; low = omega (arith, b.reach.low, limit) }));
            inside = inr (inr comes.outside);
            done = refl;
            dispatch_ticks = refl;
            handling = refl;
            owned = refl;
            shared = refl;
          })),
      λ k was. absurd (let none' : o.job.inside ≡ None = comes.outside in cc),
    )

-- ---- calls

pub length-zeros : (n : ℕ) → length (zeros n) ≡ n
length-zeros zero = refl
length-zeros (suc n) = ap suc (length-zeros n)

-- so many arguments, and what lies below them
arguments_of : (n : ℕ) (os : List Operand) (taken : List ℤ) (ks : List Kind) → kinds os ≡ plains n ks
    → (values : List ℤ) × (rest : List Operand) × (arguments n os taken ≡ Some (values, rest)) × (length values ≡ n + length taken) × (kinds rest ≡ ks)
arguments_of zero os taken ks is = (taken, os, refl, omega arith, is)
arguments_of (suc n) (Value x ∷ os) taken ks is =
    let a : (values : List ℤ) × (rest : List Operand) × (arguments n os (x ∷ taken) ≡ Some (values, rest)) × (length values ≡ n + length (x ∷ taken)) × (kinds rest ≡ ks) = arguments_of n os (x ∷ taken) ks cc in
    (a.0, a.1, a.2, omega (arith, a.3), a.4)
arguments_of (suc n) (Counter m ∷ os) taken ks is = absurd cc
arguments_of (suc n) [] taken ks is = absurd cc

at_call : (e : Where) (s : State) (own : Part) (o : Own) (c : WalkCost) (r : ℕ) (rest : List Step) (st : Stands e own o c) → st.path ≡ Segment (Call r) ∷ rest → RoutinesFit e → Instruction e s own o c
at_call e s own o c r rest st is routines =
    let path : List Step = Segment (Call r) ∷ rest in
    let w : Where = within e st.part in
    let f : Frame w path st.out st.height st.here o = subst (λ (q : List Step). Frame w q st.out st.height st.here o) is st.frame in
    let in_it : Inside st.part path o.job.inside st.below = subst (λ (q : List Step). Inside st.part q o.job.inside st.below) is st.inside_is in
    let calls : Walk w st.out (held rest) (length (under rest)) (Call r) o.job.place f.follows.next st.height f.follows.k f.follows.first = f.follows.walk in
    let routine : Routine = calls.routine in
    let fits : RoutineFits e r routine = routines r routine calls.there in
    let callee : Part = e.parts r in
    let ops : kinds o.job.operands ≡ plains routine.params (plains calls.below (under rest)) =
    f.operands ∙ (ap (λ g. plains g (under rest)) calls.taken ∙ plains_add routine.params calls.below (under rest)) in
    let a : (values : List ℤ) × (left : List Operand) × (arguments routine.params o.job.operands [] ≡ Some (values, left)) × (length values ≡ routine.params + length {A = ℤ} []) × (kinds left ≡ plains calls.below (under rest))
    = arguments_of routine.params o.job.operands [] (plains calls.below (under rest)) ops in
    let more : Follows w st.out rest (o.job.place + 1) (callee.results + calls.below) f.follows.later =
    subst (λ (g : ℕ). Follows w st.out rest g (callee.results + calls.below) f.follows.later) calls.next_is (subst (λ (g : ℕ). Follows w st.out rest f.follows.next g f.follows.later) calls.given f.follows.more) in
    let ending : WalkCost = record { run = 4; susp = 0; waits = 0; leave = 4 } in
    let here : WalkCost = record { run = fits.inner.run + 4; susp = fits.inner.susp; waits = fits.inner.waits; leave = fits.inner.leave + 4 } in
    let new : List Step = then_rest routine.tree [] in
    let u : under new ≡ [] = under_then routine.tree [] in
    let follows : Follows (within e callee) None new routine.start 0 here =
    follows_then (within e callee) None routine.tree [] routine.start fits.last 0 callee.results fits.inner ending here fits.tree
    (record { no_loop = refl; ends = fits.ends; height = refl; covers = record { run = omega arith; susp = omega arith; waits = omega arith; leave = omega arith } })
    (record { run = omega arith; susp = omega arith; waits = omega arith; leave = omega arith }) in
    let later : WalkCost = record { run = f.follows.later.run + st.later.run; susp = f.follows.later.susp + st.later.susp; waits = f.follows.later.waits + st.later.waits; leave = joined st.part.monitor f.follows.later.leave st.later.leave } in
    let room : length (plains calls.below (under rest)) + 2 + callee.locals + callee.depth ≤ st.part.depth = omega (arith, length-plains calls.below (under rest), calls.room, calls.locals) in
    let none_if_entry : callee.level ≡ 1 → o.job.inside ≡ None =
    λ one. elim calls.may [ inl quiet ↦ absurd (omega arith) | inr two ↦ in_it.outer two ] in
    let stay_called : (k : ℕ) → o.job.inside ≡ Some k → joined callee.monitor here.leave later.leave + 6 ≤ c.leave = λ k was.
    elim fits.entry [
      | inl no_monitor ↦
          omega (
            arith,
            ap (λ (x : Option ℕ). joined x here.leave later.leave) no_monitor,
            st.covers,
            calls.covers,
            f.follows.covers,
            fits.covers,
            joined_less st.part.monitor f.follows.later.leave st.here.leave st.later.leave (here.leave + 6) (omega (arith, calls.covers, f.follows.covers, fits.covers)),
          )
      | inr one ↦ absurd (let none : o.job.inside ≡ None = none_if_entry one in cc)
    ] in (
      i.Call (pos r),
      calls.here,
      subst (λ (q : Option Routine). Keeps e own c 6 o (call q (next_own o))) (sym calls.there)
          (subst (λ (q : Option (List ℤ × List Operand)). Keeps e own c 6 o (called routine q (next_own o))) (sym a.2)
          (record {
            cost = record { run = here.run + later.run; susp = here.susp + later.susp; waits = here.waits + later.waits; leave = joined callee.monitor here.leave later.leave };
            stands = record {
              part = callee;
              path = new;
              out = None;
              height = 0;
              here = here;
              later = later;
              below = o.job.inside;
              frame = record {
                follows = follows;
                operands = sym u;
                room = omega (arith, ap (λ (ks : List Kind). length ks) u);
                words = record {
                  locals = omega (arith, length-append a.0 (zeros (routine.locals - routine.params)), length-zeros (routine.locals - routine.params), a.3, calls.params, calls.locals);
                  owned = omega (arith, calls.owned, f.words.owned);
                };
              };
              inside_is = record {
                told = elim fits.entry [ inl no_monitor ↦ inl (no_monitor, refl) | inr one ↦ inr (none_if_entry one ∙ sym (held_then routine.tree []), none_if_entry one) ];
                outer = λ two. elim calls.may [ inl quiet ↦ absurd (omega arith) | inr caller_two ↦ in_it.outer caller_two ];
              };
              short = λ k is_k held_k. absurd (let none : held new ≡ None = held_then routine.tree [] in cc);
              chain = record {
                r = r;
                is_routine = refl;
                routine = routine;
                there = calls.there;
                caller = st.part;
                path = rest;
                out = st.out;
                h = calls.below;
                first = f.follows.later;
                later = st.later;
                below = st.below;
                follows = more;
                operands = a.4;
                locals = f.words.locals;
                owned = calls.owned;
                limit = calls.limit;
                stays = calls.stays;
                room = room;
                short = λ k is_k held_k. omega (arith, f.follows.covers, st.short k is_k (ap (λ (q : List Step). held q) is ∙ held_k));
                room_after = omega (arith, length-plains (callee.results + calls.below) (under rest), calls.room_after, calls.given);
                inside_is = record { told = in_it.told; outer = in_it.outer };
                more = st.chain;
                covers = record { run = omega arith; susp = omega arith; waits = omega arith; leave = omega arith };
              };
              enough = st.enough;
              covers = record { run = omega arith; susp = omega arith; waits = omega arith; leave = omega arith };
            };
            less = record { run = omega (arith, calls.covers, f.follows.covers, st.covers, fits.covers); susp = omega (arith, calls.covers, f.follows.covers, st.covers, fits.covers); waits = omega (arith, calls.covers, f.follows.covers, st.covers, fits.covers); leave = omega (arith, calls.covers, f.follows.covers, st.covers, fits.covers) };
            stays = λ k was now. stay_called k was;
            begins = λ k was now. absurd cc;
            reaches = λ k was now. absurd cc;
            inside = inl refl;
            done = refl;
            dispatch_ticks = refl;
            handling = refl;
            owned = refl;
            shared = refl;
          })),
      λ k was. omega (arith, calls.covers, f.follows.covers, joined_here st.part.monitor st.here.leave st.later.leave, st.covers),
    )

at_last : (e : Where) (s : State) (own : Part) (o : Own) (c : WalkCost) (st : Stands e own o c) → st.path ≡ [] → own.last ≡ i.End → RoutinesFit e → Instruction e s own o c
at_last e s own o c st is own_ends routines = by_callers o.job.callers refl st.chain where
  w : Where
  w = within e st.part

  f : Frame w [] st.out st.height st.here o
  f = subst (λ (q : List Step). Frame w q st.out st.height st.here o) is st.frame

  in_it : Inside st.part [] o.job.inside st.below
  in_it = subst (λ (q : List Step). Inside st.part q o.job.inside st.below) is st.inside_is

  told_below : o.job.inside ≡ st.below
  told_below = elim in_it.told [ inl outside ↦ outside.1 | inr told ↦ told.0 ∙ sym told.1 ]

  -- what is left of a stay falls
  stay_down : (k : Caller) (ks : List Caller) (chain : Chain e own st.part (k ∷ ks) st.below st.later) (m : ℕ) → o.job.inside ≡ Some m → joined chain.caller.monitor chain.first.leave chain.later.leave + 4 ≤ c.leave
  stay_down k ks chain m was = elim in_it.told [
    | inl outside ↦ omega (arith, ap (λ (x : Option ℕ). joined x st.here.leave st.later.leave) outside.0, st.covers, f.follows.covers, chain.covers)
    | inr told ↦ absurd (let none : o.job.inside ≡ None = told.0 in cc)
  ]

  -- the caller goes on, with these operands
  goes_on : (k : Caller) (ks : List Caller) (chain : Chain e own st.part (k ∷ ks) st.below st.later) (os : List Operand) → kinds os ≡ plains (st.part.results + chain.h) (under chain.path)
      → Less e own c 4 o (record (next_own o) { job = record (at_next o.job) { place = k.back; locals = k.locals; operands = os; callers = ks } })
  goes_on k ks chain os ops = record {
    cost = chain_cost;
    stands = record {
      part = chain.caller;
      path = chain.path;
      out = chain.out;
      height = st.part.results + chain.h;
      here = chain.first;
      later = chain.later;
      below = chain.below;
      frame = record {
        follows = chain.follows;
        operands = ops;
        room = chain.room_after;
        words = record { locals = chain.locals; owned = omega (arith, chain_owned e own chain.caller ks chain.below chain.later chain.more, st.enough) };
      };
      inside_is = subst (λ (j : Option ℕ). Inside chain.caller chain.path j chain.below) (sym told_below) chain.inside_is;
      short = chain.short;
      chain = chain.more;
      enough = st.enough;
      covers = record { run = omega arith; susp = omega arith; waits = omega arith; leave = omega arith };
    };
    less = record { run = omega (arith, f.follows.covers, chain.covers, st.covers); susp = omega (arith, chain.covers, st.covers); waits = omega (arith, chain.covers, st.covers); leave = omega (arith, f.follows.covers, chain.covers, st.covers) };
    stays = λ m was now. stay_down k ks chain m was;
    begins = λ m was now. absurd cc;
    reaches = λ m was now. absurd cc;
    inside = inl refl;
    done = refl;
    dispatch_ticks = refl;
    handling = refl;
    owned = refl;
    shared = refl;
  } where
    chain_cost : WalkCost
    chain_cost = record { run = chain.first.run + chain.later.run; susp = chain.first.susp + chain.later.susp; waits = chain.first.waits + chain.later.waits; leave = joined chain.caller.monitor chain.first.leave chain.later.leave }

  by_callers : (callers : List Caller) → o.job.callers ≡ callers → Chain e own st.part o.job.callers st.below st.later → Instruction e s own o c
  by_callers [] none chain =
      let is_own : st.part ≡ own = (subst (λ (ks : List Caller). Chain e own st.part ks st.below st.later) none chain).0 in
      let last : st.part.last ≡ i.End = ap (λ (p : Part). p.last) is_own ∙ own_ends in
      (i.End, f.follows.ends ∙ ap (λ (j : Instr). Some j) last, omega (arith, f.follows.covers, st.covers), λ m was. omega (arith, f.follows.covers, joined_here st.part.monitor st.here.leave st.later.leave, st.covers))
  by_callers (k ∷ ks) some chain =
      let chain' : Chain e own st.part (k ∷ ks) st.below st.later = subst (λ (js : List Caller). Chain e own st.part js st.below st.later) some chain in
      let fits : RoutineFits e chain'.r chain'.routine = routines chain'.r chain'.routine chain'.there in
      let results : st.part.results ≡ (e.parts chain'.r).results = ap (λ (p : Part). p.results) chain'.is_routine in
      let last : st.part.last ≡ (e.parts chain'.r).last = ap (λ (p : Part). p.last) chain'.is_routine in
      elim fits.returns [
        | inl none ↦ (
          i.Return,
          f.follows.ends ∙ ap (λ (j : Instr). Some j) (last ∙ none.1),
          subst (λ (js : List Caller). Keeps e own c 4 o (back js (next_own o) (λ p. p))) (sym some)
              (goes_on k ks chain' k.operands
              (let e0 : chain'.h ≡ st.part.results + chain'.h = omega (arith, results, none.0) in chain'.operands ∙ ap (λ g. plains g (under chain'.path)) e0)),
          λ m was. omega (arith, f.follows.covers, joined_here st.part.monitor st.here.leave st.later.leave, st.covers),
        )
        | inr one_result ↦ (
          i.ReturnValue,
          f.follows.ends ∙ ap (λ (j : Instr). Some j) (last ∙ one_result.1),
          returns_value k ks chain' o.job.operands
              (let e1 : st.height ≡ 1 = omega (arith, f.follows.height, results, one_result.0) in f.operands ∙ ap (λ g. plains g []) e1)
              (let e2 : suc chain'.h ≡ st.part.results + chain'.h = omega (arith, results, one_result.0) in e2) some,
          λ m was. omega (arith, f.follows.covers, joined_here st.part.monitor st.here.leave st.later.leave, st.covers),
        )
      ] where
        returns_value : (k : Caller) (ks : List Caller) (chain : Chain e own st.part (k ∷ ks) st.below st.later) (os : List Operand) → kinds os ≡ Plain ∷ [] → suc chain.h ≡ st.part.results + chain.h
            → o.job.callers ≡ k ∷ ks → Keeps e own c 4 o (take_one os (next_own o) (λ x p. back p.job.callers p (give x)))
        returns_value k ks chain (Value x ∷ os) ops height some =
            subst (λ (js : List Caller). Keeps e own c 4 o (back js (holding os (next_own o)) (give x))) (sym some)
            (goes_on k ks chain (Value x ∷ k.operands) (ap (λ (xs : List Kind). Plain ∷ xs) chain.operands ∙ ap (λ g. plains g (under chain.path)) height))
        returns_value k ks chain (Counter n ∷ os) ops height some = absurd cc
        returns_value k ks chain [] ops height some = absurd cc

-- ---- all steps

-- an instruction within the frame, whose steps are these
framed_at : (e : Where) (s : State) (own : Part) (o : Own) (c : WalkCost) (path : List Step) (st : Stands e own o c) → st.path ≡ path
    → (Frame (within e st.part) path st.out st.height st.here o → IsInside (within e st.part) path o → Moves (within e st.part) s path st.here o) → Instruction e s own o c
framed_at e s own o c path st is go =
    let w : Where = within e st.part in
    let entered : IsInside w path o = subst (λ (q : List Step). IsInside w q o) is (is_inside_part e st.part st.path o st.below st.inside_is) in
    within_frame e s own o c st (subst (λ (q : List Step). Moves w s q st.here o) (sym is) (go (subst (λ (q : List Step). Frame w q st.out st.height st.here o) is st.frame) entered))

at_path : (e : Where) (s : State) (own : Part) (o : Own) (c : WalkCost) (path : List Step) (st : Stands e own o c) → st.path ≡ path → RoutinesFit e → IsSized e.image s o.shared → own.last ≡ i.End → FindsFree e s own o → Instruction e s own o c
at_path e s own o c [] st is routines sized own_ends free = at_last e s own o c st is own_ends routines
at_path e s own o c (Segment (Line zero) ∷ rest) st is routines sized own_ends free =
    let w : Where = within e st.part in
    let f : Frame w (Segment (Line zero) ∷ rest) st.out st.height st.here o = subst (λ (q : List Step). Frame w q st.out st.height st.here o) is st.frame in absurd f.follows.walk
at_path e s own o c (Segment (Line (suc n)) ∷ rest) st is routines sized own_ends free = framed_at e s own o c (Segment (Line (suc n)) ∷ rest) st is (λ f entered. at_line (within e st.part) s n rest st.out st.height st.here o sized entered f)
at_path e s own o c (Segment (Fork first second) ∷ rest) st is routines sized own_ends free = framed_at e s own o c (Segment (Fork first second) ∷ rest) st is (λ f entered. at_fork (within e st.part) s first second rest st.out st.height st.here o f)
at_path e s own o c (Segment (Rep zero body) ∷ rest) st is routines sized own_ends free =
    let w : Where = within e st.part in
    let f : Frame w (Segment (Rep zero body) ∷ rest) st.out st.height st.here o = subst (λ (q : List Step). Frame w q st.out st.height st.here o) is st.frame in absurd f.follows.walk
at_path e s own o c (Segment (Rep (suc n) body) ∷ rest) st is routines sized own_ends free = framed_at e s own o c (Segment (Rep (suc n) body) ∷ rest) st is (λ f entered. at_rep (within e st.part) s n body rest st.out st.height st.here o f)
at_path e s own o c (Segment (Call r) ∷ rest) st is routines sized own_ends free = at_call e s own o c r rest st is routines
at_path e s own o c (Segment (Stay m body) ∷ rest) st is routines sized own_ends free = at_stay e s own o c m body rest st is free
at_path e s own o c (Segment Wait ∷ rest) st is routines sized own_ends free = at_wait e s own o c rest st is
at_path e s own o c (Segment Exit ∷ rest) st is routines sized own_ends free = framed_at e s own o c (Segment Exit ∷ rest) st is (λ f entered. at_exit (within e st.part) s rest st.out st.height st.here o f)
at_path e s own o c (Skip to ∷ rest) st is routines sized own_ends free = framed_at e s own o c (Skip to ∷ rest) st is (λ f entered. at_skip (within e st.part) s to rest st.out st.height st.here o f)
at_path e s own o c (Again turns start body height ∷ rest) st is routines sized own_ends free = framed_at e s own o c (Again turns start body height ∷ rest) st is (λ f entered. at_again (within e st.part) s turns start body height rest st.out st.height st.here o f)
at_path e s own o c (Leaves m ∷ rest) st is routines sized own_ends free = at_leave e s own o c m rest st is

pub instruction_is_safe : InstructionIsSafe
instruction_is_safe e s own o c routines sized own_ends (inl st) free = at_path e s own o c st.path st refl routines sized own_ends free
instruction_is_safe e s own o c routines sized own_ends (inr comes) free = at_return e s own o c comes free
