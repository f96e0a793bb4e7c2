-- One tick of a ready process.
use Rattle.std.proofs.Common.{◌≡◌, ◌≤◌, ◌<◌, ◌+◌, ◌-◌, ◌⊎◌, inl, inr, ℕ, List, [], ◌∷◌, Option, Some, None, length, arith, refl, ap, sym, subst, ◌∙◌, true, false, Bool}
use Rattle.std.specs.Prelude.{slice_get, cond, ℤ, nat_lt, not, ◌&&◌}
use Rattle.std.proofs.lemmas.Bool.{cases_Bool, ltb-true, ltb-false}
use Rattle.machine_isa.specs.declared.instr.Instr.{Instr}
use Rattle.machine_isa.specs.declared.instr.Instr.TheVariants as i
use Rattle.machine_semantics.specs.Trees.{Segs}
use Rattle.machine_semantics.specs.Image.{Process, end_of}
use Rattle.machine_semantics.specs.State.{Caller, Job, own_locals}
use Rattle.machine_semantics.specs.Effect.{Own, Outcome, Goes, Does, Signals, Broadcasts, Waits, Raises, Ends, Stuck, effect}
use Rattle.machine_isa.specs.Ticks.{ticks}
use Rattle.machine_semantics.specs.Starts.{raised, lists}
use Rattle.machine_semantics.specs.Tick.{outcome_at}
use Rattle.machine_semantics.specs.Part.{Part, Kind, kinds}
use Rattle.machine_semantics.specs.Walk.{Where, WalkCost, At, Walks, within}
use Rattle.machine_semantics.specs.Path.{Step, under, then_rest, Follows, Returning, next_own}
use Rattle.machine_semantics.specs.Job.{RoutinesFit, joined, Chain, Stands, Comes, Less, Pauses, Keeps}
use Rattle.machine_semantics.specs.Safe.{Parts, IsOwn, HandlerFits, ProcessFits, part_of, spare, own_of, ReadyFits, Ticks, Pausing, TickFits, TickIsSafe}
use Rattle.machine_safety.proofs.Lists.{under_then}
use Rattle.machine_safety.proofs.Frames.{follows_then, at_least_end}
use Rattle.machine_safety.proofs.Jobs.{instruction_is_safe}

pub some_ticks : (instr : Instr) → 0 < ticks instr
some_ticks (i.Push v) = omega arith
some_ticks _ = omega arith

-- the locals of the process's own frame
pub own_locals_of : (e : Where) (own part : Part) (locals : List ℤ) (ks : List Caller) (inside : Option ℕ) (c : WalkCost) → length locals ≡ part.locals → Chain e own part ks inside c → length (own_locals locals ks) ≡ own.locals
own_locals_of e own part locals [] inside c is chain = is ∙ ap (λ (p : Part). p.locals) chain.0
own_locals_of e own part locals (k ∷ ks) inside c is chain = own_locals_of e own chain.caller k.locals ks chain.below chain.later chain.locals chain.more

-- what a process that stands or comes back has of its own frame, and that an END is still to be paid
pub record Based (own : Part) (o : Own) (c : WalkCost) : Type 0 where
  pub locals : length (own_locals o.job.locals o.job.callers) ≡ own.locals
  pub enough : own.owned ≤ length o.owned
  pub some : 4 ≤ c.run

pub based : (e : Where) (own : Part) (o : Own) (c : WalkCost) → (Stands e own o c) ⊎ (Comes e own o c) → Based own o c
based e own o c (inl st) = record {
  locals = own_locals_of e own st.part o.job.locals o.job.callers st.below st.later st.frame.words.locals st.chain;
  enough = st.enough;
  some = omega (arith, st.covers, at_least_end (within e st.part) st.path st.out o.job.place st.height st.here st.frame.follows);
}
based e own o c (inr comes) = record {
  locals = own_locals_of e own comes.part o.job.locals o.job.callers None comes.later comes.back.words.locals comes.chain;
  enough = comes.enough;
  some = omega (arith, comes.covers, comes.back.covers);
}

-- ---- raises

-- at an END, with nothing else to do
at_end : (e : Where) (own : Part) (p : Process) (o : Own) → IsOwn p own → At e o.job.place i.End → o.job.operands ≡ [] → o.job.callers ≡ [] → o.job.inside ≡ None
    → length o.job.locals ≡ own.locals → own.owned ≤ length o.owned → Stands e own o (record { run = 4; susp = 0; waits = 0; leave = 4 })
at_end e own p o is_own at no_operands no_callers outside locals enough = record {
  part = own;
  path = [];
  out = None;
  height = 0;
  here = record { run = 4; susp = 0; waits = 0; leave = 4 };
  later = record { run = 0; susp = 0; waits = 0; leave = 0 };
  below = None;
  frame = record {
    follows = record { no_loop = refl; ends = at ∙ ap (λ (j : Instr). Some j) (sym is_own.last); height = sym is_own.results; covers = record { run = omega arith; susp = omega arith; waits = omega arith; leave = omega arith } };
    operands = ap kinds no_operands;
    room = omega arith;
    words = record { locals = locals; owned = enough };
  };
  inside_is = record { told = inl (is_own.monitor, outside); outer = λ two. outside };
  short = λ k is_k held_k. absurd (let no_monitor : own.monitor ≡ None = is_own.monitor in cc);
  chain = subst (λ (ks : List Caller). Chain e own own ks None (record { run = 0; susp = 0; waits = 0; leave = 0 })) (sym no_callers) (refl, refl);
  enough = enough;
  covers = record { run = omega arith; susp = omega arith; waits = omega arith; leave = omega (arith, ap (λ (x : Option ℕ). joined x 4 0) is_own.monitor) };
}

-- at the start of a tree of the process's own
pub at_start_of : (e : Where) (own : Part) (p : Process) (tree : Segs) (start end_at : ℕ) (c : WalkCost) (o : Own) → IsOwn p own → Walks (within e own) None None 0 tree start end_at 0 0 c → At e end_at i.End
    → o.job.place ≡ start → o.job.operands ≡ [] → o.job.callers ≡ [] → o.job.inside ≡ None → length o.job.locals ≡ own.locals → own.owned ≤ length o.owned
    → Stands e own o (record { run = c.run + 4; susp = c.susp; waits = c.waits; leave = c.leave + 4 })
at_start_of e own p tree start end_at c o is_own walks ends place no_operands no_callers outside locals enough =
    let none : WalkCost = record { run = 0; susp = 0; waits = 0; leave = 0 } in
    let ending : WalkCost = record { run = 4; susp = 0; waits = 0; leave = 4 } in
    let here : WalkCost = record { run = c.run + 4; susp = c.susp; waits = c.waits; leave = c.leave + 4 } in
    let new : List Step = then_rest tree [] in
    let u : under new ≡ [] = under_then tree [] in
    let follows : Follows (within e own) None new start 0 here =
    follows_then (within e own) None tree [] start end_at 0 0 c ending here walks
    (record { no_loop = refl; ends = ends ∙ ap (λ (j : Instr). Some j) (sym is_own.last); height = sym is_own.results; covers = record { run = omega arith; susp = omega arith; waits = omega arith; leave = omega arith } })
    (record { run = omega arith; susp = omega arith; waits = omega arith; leave = omega arith }) in
    record {
      part = own;
      path = new;
      out = None;
      height = 0;
      here = here;
      later = none;
      below = None;
      frame = record {
        follows = subst (λ (a : ℕ). Follows (within e own) None new a 0 here) (sym place) follows;
        operands = ap kinds no_operands ∙ sym u;
        room = omega (arith, ap (λ (ks : List Kind). length ks) u);
        words = record { locals = locals; owned = enough };
      };
      inside_is = record { told = inl (is_own.monitor, outside); outer = λ two. outside };
      short = λ k is_k held_k. absurd (let no_monitor : own.monitor ≡ None = is_own.monitor in cc);
      chain = subst (λ (ks : List Caller). Chain e own own ks None none) (sym no_callers) (refl, refl);
      enough = enough;
      covers = record { run = omega arith; susp = omega arith; waits = omega arith; leave = omega (arith, ap (λ (x : Option ℕ). joined x (c.leave + 4) 0) is_own.monitor) };
    }

is_own_part : (e : Where) (p : Process) (ps : Parts) (handling : Bool) → ProcessFits e p ps → IsOwn p (part_of ps handling)
is_own_part e p ps false fits = fits.body
is_own_part e p ps true fits = fits.handler

-- after a raise: in the handler, or at an END
raise_by : (e : Where) (p : Process) (ps : Parts) (dispatch_ticks number : ℕ) (ls owned shared : List ℤ) (left : WalkCost) (h b : Bool) → (b ≡ true → (h ≡ false) × (lists p.numbers number ≡ true)) → ProcessFits e p ps
    → At e (end_of p h) i.End → length ls ≡ (part_of ps h).locals → (part_of ps h).owned ≤ length owned → 4 + spare ps h ≤ left.run
    → ReadyFits e p ps (record { place = cond b p.handler (end_of p h); done = 0; dispatch_ticks = dispatch_ticks; locals = ls; operands = []; callers = []; handling = cond b true h; inside = None }) owned shared left
raise_by e p ps dispatch_ticks number ls owned shared left h true ok fits ends locals enough time =
    let listed : (h ≡ false) × (lists p.numbers number ≡ true) = ok refl in
    let handler : (tree : Segs) × HandlerFits e p ps tree = fits.handles number listed.1 in
    let own : IsOwn p (part_of ps h) = is_own_part e p ps h fits in
    let time' : 4 + ps.handler_cost.run ≤ left.run = omega (arith, time, ap (λ (g : Bool). spare ps g) listed.0) in
    record {
      cost = record { run = ps.handler_cost.run + 4; susp = ps.handler_cost.susp; waits = ps.handler_cost.waits; leave = ps.handler_cost.leave + 4 };
      leave = λ k now. absurd cc;
      fits = inl (at_start_of e ps.handler p handler.0 p.handler (end_of p true) ps.handler_cost _ fits.handler handler.1.code handler.1.ends refl refl refl refl
          (omega (arith, locals, own.locals, fits.handler.locals)) (omega (arith, enough, own.owned, fits.handler.owned)));
      early = λ instr at. some_ticks instr;
      ends = handler.1.ends;
      run = omega (arith, time');
      susp = omega (arith, fits.no_susp);
      waits = omega (arith, fits.no_waits);
    }
raise_by e p ps dispatch_ticks number ls owned shared left h false ok fits ends locals enough time = record {
  cost = record { run = 4; susp = 0; waits = 0; leave = 4 };
  leave = λ k now. absurd cc;
  fits = inl (at_end e (part_of ps h) p _ (is_own_part e p ps h fits) ends refl refl refl locals enough);
  early = λ instr at. some_ticks instr;
  ends = ends;
  run = omega (arith, time);
  susp = omega arith;
  waits = omega arith;
}

handled_only : (h l : Bool) → not h && l ≡ true → (h ≡ false) × (l ≡ true)
handled_only false l is = (refl, is)
handled_only true l is = absurd cc

pub raise_fits : (e : Where) (p : Process) (ps : Parts) (job : Job) (owned shared : List ℤ) (number : ℕ) (left : WalkCost) → ProcessFits e p ps → At e (end_of p job.handling) i.End
    → length (own_locals job.locals job.callers) ≡ (part_of ps job.handling).locals → (part_of ps job.handling).owned ≤ length owned
    → 4 + spare ps job.handling ≤ left.run → ReadyFits e p ps (raised p number job) owned shared left
raise_fits e p ps job owned shared number left fits ends locals enough time =
    raise_by e p ps job.dispatch_ticks number (own_locals job.locals job.callers) owned shared left job.handling (not job.handling && lists p.numbers number) (handled_only job.handling (lists p.numbers number)) fits ends locals enough time

-- ---- the same at other words, and at another tick of the same instruction

pub stands_at : (e : Where) (own : Part) (job : Job) (d b : ℕ) (owned owned' shared shared' : List ℤ) (c : WalkCost) → length owned ≤ length owned'
    → Stands e own (own_of job owned shared) c → Stands e own (own_of (record job { done = d; dispatch_ticks = b }) owned' shared') c
stands_at e own job d b owned owned' shared shared' c longer st = record {
  part = st.part;
  path = st.path;
  out = st.out;
  height = st.height;
  here = st.here;
  later = st.later;
  below = st.below;
  frame = record { follows = st.frame.follows; operands = st.frame.operands; room = st.frame.room; words = record { locals = st.frame.words.locals; owned = omega (arith, st.frame.words.owned) } };
  inside_is = st.inside_is;
  short = st.short;
  chain = st.chain;
  enough = omega (arith, st.enough);
  covers = st.covers;
}

pub comes_at : (e : Where) (own : Part) (job : Job) (d b : ℕ) (owned owned' shared shared' : List ℤ) (c : WalkCost) → length owned ≤ length owned'
    → Comes e own (own_of job owned shared) c → Comes e own (own_of (record job { done = d; dispatch_ticks = b }) owned' shared') c
comes_at e own job d b owned owned' shared shared' c longer k =
    let r : Returning (within e k.part) k.path k.out k.height k.here (own_of job owned shared) = k.back in
    record {
      part = k.part;
      path = k.path;
      out = k.out;
      height = k.height;
      here = k.here;
      later = k.later;
      back = record {
        monitor = r.monitor;
        enters = r.enters;
        entry = r.entry;
        is_entry = r.is_entry;
        short = r.short;
        reach = r.reach;
        later = r.later;
        follows = r.follows;
        operands = r.operands;
        room = r.room;
        words = record { locals = r.words.locals; owned = omega (arith, r.words.owned) };
        covers = r.covers;
      };
      outside = k.outside;
      level = k.level;
      chain = k.chain;
      enough = omega (arith, k.enough);
      covers = k.covers;
    }

pub fits_at : (e : Where) (own : Part) (job : Job) (d b : ℕ) (owned owned' shared shared' : List ℤ) (c : WalkCost) → length owned ≤ length owned'
    → (Stands e own (own_of job owned shared) c) ⊎ (Comes e own (own_of job owned shared) c)
    → (Stands e own (own_of (record job { done = d; dispatch_ticks = b }) owned' shared') c) ⊎ (Comes e own (own_of (record job { done = d; dispatch_ticks = b }) owned' shared') c)
fits_at e own job d b owned owned' shared shared' c longer (inl st) = inl (stands_at e own job d b owned owned' shared shared' c longer st)
fits_at e own job d b owned owned' shared shared' c longer (inr k) = inr (comes_at e own job d b owned owned' shared shared' c longer k)

-- ---- the tick

keeps_time : (e : Where) (own : Part) (c : WalkCost) (n : ℕ) (o : Own) (out : Outcome) → Keeps e own c n o out → n ≤ c.run
keeps_time e own c n o (Goes q) k = omega (arith, k.less)
keeps_time e own c n o (Does a q) k = omega (arith, k.less)
keeps_time e own c n o (Signals j q) k = omega (arith, k.less)
keeps_time e own c n o (Broadcasts j q) k = omega (arith, k.less)
keeps_time e own c n o (Waits j limit number q) k = omega (arith, k.less)
keeps_time e own c n o (Raises number) k = omega arith
keeps_time e own c n o Ends k = k
keeps_time e own c n o Stuck k = absurd k

-- an instruction's last tick
last_tick : (e : Where) (ps : Parts) (p : Process) (job : Job) (owned shared : List ℤ) (left : WalkCost) (n : ℕ) → ProcessFits e p ps → (ready : ReadyFits e p ps job owned shared left)
    → n ≤ job.done + 1 → job.done < n → (out : Outcome) → Keeps e (part_of ps job.handling) ready.cost n (own_of job owned shared) out → TickFits e p ps job owned shared left out
last_tick e ps p job owned shared left n fits ready last early out keeps = by_case out keeps where
  own : Part
  own = part_of ps job.handling

  again : (q : Own) → Less e own ready.cost n (own_of job owned shared) q → Ticks e p ps own job.inside job.dispatch_ticks owned shared left q
  again q l =
      let after : WalkCost = record { run = l.cost.run + spare ps job.handling; susp = l.cost.susp; waits = l.cost.waits; leave = l.cost.leave } in
      record {
        after = after;
        fits = record {
          cost = l.cost;
          fits = subst (λ (h : Bool). (Stands e (part_of ps h) q l.cost) ⊎ (Comes e (part_of ps h) q l.cost)) (sym l.handling) (inl l.stands);
          early = λ instr at. omega (arith, some_ticks instr, l.done);
          leave = λ k now. omega arith;
          ends = subst (λ (h : Bool). At e (end_of p h) i.End) (sym l.handling) ready.ends;
          run = omega (arith, ap (λ (h : Bool). spare ps h) l.handling);
          susp = omega arith;
          waits = omega arith;
        };
        less = record { run = omega (arith, l.less, ready.run); susp = omega (arith, l.less, ready.susp); waits = omega (arith, l.less, ready.waits); leave = omega (arith, l.less, ready.run) };
        stays = λ k was now. omega (arith, l.stays k was now, ready.leave k was);
        begins = l.begins;
        reaches = l.reaches;
        dispatch_ticks = omega (arith, l.dispatch_ticks);
        inside = l.inside;
        owned = l.owned;
        shared = l.shared;
      }

  pauses : (c limit : ℕ) (q : Own) → Pauses e own ready.cost n c limit (own_of job owned shared) q → Pausing e p ps owned shared left c limit q
  pauses c limit q l =
      let after : WalkCost = record { run = l.cost.run + spare ps job.handling; susp = l.cost.susp; waits = l.cost.waits; leave = l.cost.leave } in
      record {
        monitor = l.monitor;
        of = l.of;
        after = after;
        fits = record {
          cost = l.cost;
          fits = subst (λ (h : Bool). Comes e (part_of ps h) q l.cost) (sym l.handling) l.comes;
          fresh = l.done;
          ends = subst (λ (h : Bool). At e (end_of p h) i.End) (sym l.handling) ready.ends;
          run = omega (arith, ap (λ (h : Bool). spare ps h) l.handling);
          susp = omega arith;
          waits = omega arith;
        };
        less = record { run = omega (arith, l.less, ready.run); susp = omega (arith, l.less, ready.susp); waits = omega (arith, l.less, ready.waits); leave = omega (arith, l.less, ready.run) };
        owned = l.owned;
        shared = l.shared;
      }

  by_case : (out : Outcome) → Keeps e own ready.cost n (own_of job owned shared) out → TickFits e p ps job owned shared left out
  by_case (Goes q) k = again q k
  by_case (Does a q) k = again q k
  by_case (Signals c q) k = again q k
  by_case (Broadcasts c q) k = again q k
  by_case (Waits c limit number q) k = pauses c limit q k
  by_case (Raises number) k =
      let b : Based own (own_of job owned shared) ready.cost = based e own (own_of job owned shared) ready.cost ready.fits in
      record {
        after = record { run = 4 + spare ps job.handling; susp = 0; waits = 0; leave = 4 + spare ps job.handling };
        fits = raise_fits e p ps job owned shared number (record { run = 4 + spare ps job.handling; susp = 0; waits = 0; leave = 4 + spare ps job.handling }) fits ready.ends b.locals b.enough (omega arith);
        less = record { run = omega (arith, k, ready.run); susp = omega arith; waits = omega arith; leave = omega (arith, k, ready.run) };
        stays = λ k was now. absurd cc;
        begins = λ k was now. absurd cc;
        reaches = λ k was now. absurd cc;
        dispatch_ticks = omega arith;
        inside = inr (inl refl);
        owned = refl;
        shared = refl;
      }
  by_case Ends k = omega (arith, k, ready.run)
  by_case Stuck k = absurd k

pub tick_is_safe : TickIsSafe
tick_is_safe e ps s p job owned left routines fits sized ready free = go routines where
  own : Part
  own = part_of ps job.handling

  o : Own
  o = own_of job owned s.shared

  go : RoutinesFit e → TickFits e p ps job owned s.shared left (outcome_at e.image s job owned (slice_get e.image.code job.place))
  go routines =
      let inst : (instr : Instr) × At e job.place instr × Keeps e own ready.cost (ticks instr) o (effect e.image s instr (next_own o)) × ((m : ℕ) → job.inside ≡ Some m → ticks instr ≤ ready.cost.leave) =
      instruction_is_safe e s own o ready.cost routines sized (is_own_part e p ps job.handling fits).last ready.fits free in
      let time : ticks inst.0 ≤ ready.cost.run = keeps_time e own ready.cost (ticks inst.0) o (effect e.image s inst.0 (next_own o)) inst.2 in
      let early : job.done < ticks inst.0 = ready.early inst.0 inst.1 in
      let waiting : Outcome = Goes (own_of (record job { done = job.done + 1 }) owned s.shared) in
      let done : Outcome = effect e.image s inst.0 (next_own o) in
      subst (λ (j : Option Instr). TickFits e p ps job owned s.shared left (outcome_at e.image s job owned j)) (sym inst.1)
      (elim (cases_Bool (nat_lt (job.done + 1) (ticks inst.0))) [
        | inl more ↦
            let lt : job.done + 1 < ticks inst.0 = ltb-true _ _ more in
            subst (λ (b : Bool). TickFits e p ps job owned s.shared left (cond b waiting done)) (sym more)
            (record {
              after = record { run = left.run - 1; susp = left.susp; waits = left.waits; leave = left.leave - 1 };
              fits = record {
                cost = ready.cost;
                fits = fits_at e own job (job.done + 1) job.dispatch_ticks owned owned s.shared s.shared ready.cost (omega arith) ready.fits;
                early = λ instr at. (let same : Some inst.0 ≡ Some instr = sym inst.1 ∙ at in let same' : inst.0 ≡ instr = cc in omega (arith, ap (λ (j : Instr). ticks j) same'));
                ends = ready.ends;
                run = omega (arith, ready.run);
                susp = ready.susp;
                waits = ready.waits;
                leave = λ k now. omega (arith, ready.leave k now, inst.3 k now);
              };
              less = record { run = omega (arith, ready.run, time); susp = omega arith; waits = omega arith; leave = omega (arith, ready.run, time) };
              stays = λ k was now. omega (arith, ready.leave k was, inst.3 k was);
              begins = λ k was now. absurd cc;
              reaches = λ k was now. absurd cc;
              dispatch_ticks = omega arith;
              inside = inl refl;
              owned = refl;
              shared = refl;
            })
        | inr last ↦
            subst (λ (b : Bool). TickFits e p ps job owned s.shared left (cond b waiting done)) (sym last)
            (last_tick e ps p job owned s.shared left (ticks inst.0) fits ready (ltb-false _ _ last) early done inst.2)
      ])
