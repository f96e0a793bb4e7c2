-- The code of a process is faithful.
use Rattle.std.specs.Prelude.{◌≡◌, ◌+◌, ◌⊎◌, ℕ, Bool, true, false, List, [], ◌∷◌, ◌++◌, Option, Some, None, ℤ, pos, slice_get}
use Rattle.std.proofs.Common.{refl, sym, ◌∙◌, ap, subst, inl, inr}
use Rattle.std.proofs.lemmas.Bool.{eq-eqb}
use Rattle.machine_isa.specs.declared.instr.Instr.{Instr}
use Rattle.machine_isa.specs.declared.instr.Instr.TheVariants as i
use Rattle.base.specs.Words.{of_bool}
use Rattle.syntax_tree.specs.Plain.{Program, Process}
use Rattle.source_semantics.specs.Store.{Vars}
use Rattle.source_semantics.specs.Run.{Call, Action, gets, puts, enters, leaves, waits, signals, broadcasts, asks_empty, raises, ends}
use Rattle.source_semantics.specs.Next.{Next, next_from, given}
use Rattle.machine_semantics.specs.State.{Operand, State, is_free, is_inside}
use Rattle.machine_semantics.specs.Effect as table
use Rattle.machine_semantics.specs.Effect.{Own, Outcome, Goes, Does, Signals, Broadcasts, Waits, Raises, Ends, Stuck, effect, is_none_waiting}
use Rattle.code_spec.specs.Layout.{in_monitor}
use Rattle.code_spec.specs.Steps.{SameInside, left_by, next_own, Runs, arrived, moved}
use Rattle.code_spec.specs.Memory.{Order, Setting, Holds, opens_of, FitsOthers, inside_places}
use Rattle.code_spec.specs.Stands.{innermost, Receives, StandsAll}
use Rattle.code_spec.specs.Comes.{Raising, Ending, NextActs, NextComes, inside_after, frame_after}
use Rattle.code_correct.proofs.Steps.{then_runs, others_left}
use Rattle.code_correct.proofs.Layouts.{all_laid}
use Rattle.code_correct.proofs.Next.{IsGiven, at_frame, next_comes}
use Rattle.code_spec.specs.Boundary.{Compiled, View, view, next_of, Stays, Leaves, kept, Agrees}
use Rattle.code_correct.specs.Process.{setting_of, IsEmitted, FreeHolds, RestHolds, HasHandler, StandsFor, EmittedIsFaithful}
use Rattle.code_correct.proofs.Burns.{burnt, burnt_outcome, effect_burnt}
use Rattle.code_correct.proofs.Quiet.{Kept, goes_kept}
use Rattle.code_correct.proofs.Raised.{released_stands, raised_stands, begins_rests}

-- ---- what a goal says of another base

based : (e : Setting) (o q : Own) (n : Next) (a : Action) (b : Own) → q.job.inside ≡ o.job.inside → q.job.handling ≡ o.job.handling → NextComes e o n a b → NextComes e q n a b
based e o q n a b inside handling h = by_action a h
  where
    acts : (a : Action) → NextActs e o a n b → NextActs e q a n b
    acts a h = record { below = h.below; instr = h.instr; here = h.here; does = h.does; inside = h.inside ∙ sym inside; handling = h.handling ∙ sym handling; frame = h.frame; others = h.others; calls = h.calls; bottom = h.bottom; split = h.split; awaited = h.awaited; end = h.end; ends = h.ends; stands = h.stands }

    by_action : (a : Action) → NextComes e o n a b → NextComes e q n a b
    by_action (gets d) h = acts (gets d) h
    by_action (puts d v) h = acts (puts d v) h
    by_action (enters m) h = acts (enters m) h
    by_action (leaves m) h = acts (leaves m) h
    by_action (waits d l k) h = acts (waits d l k) h
    by_action (signals d) h = acts (signals d) h
    by_action (broadcasts d) h = acts (broadcasts d) h
    by_action (asks_empty d) h = acts (asks_empty d) h
    by_action (raises k) h = record { instr = h.instr; here = h.here; raises = h.raises; inside = h.inside ∙ sym inside; handling = h.handling ∙ sym handling; frame = h.frame; others = h.others }
    by_action ends h = record { here = h.here; inside = h.inside; outside = inside ∙ h.outside; others = h.others }

-- ---- ticks that passed, ticks of dispatch, and words that others left

abbrev pub resumed : Own → ℕ → ℕ → List ℤ → Own
resumed b done dispatch_ticks shared = record { job = record (b.job) { done = done; dispatch_ticks = dispatch_ticks }; owned = b.owned; shared = shared }

resumed_next : (e : Setting) (o : Own) (n : Next) (a : Action) (b : Own) (done dispatch_ticks : ℕ) (shared : List ℤ) → SameInside e.image b.job.inside b.shared shared → NextComes e o n a b → NextComes e o n a (resumed b done dispatch_ticks shared)
resumed_next e o n a b done dispatch_ticks shared same h = by_action a h
  where
    acts : (a : Action) → NextActs e o a n b → NextActs e o a n (resumed b done dispatch_ticks shared)
    acts a h = record {
      below = h.below;
      instr = h.instr;
      here = h.here;
      does = h.does;
      inside = h.inside;
      handling = h.handling;
      frame = h.frame;
      others = others_left e b.job.inside b.owned b.shared shared n.process n.monitor h.others same;
      calls = h.calls;
      bottom = h.bottom;
      split = h.split;
      awaited = h.awaited;
      end = h.end;
      ends = h.ends;
      stands = h.stands;
    }

    by_action : (a : Action) → NextComes e o n a b → NextComes e o n a (resumed b done dispatch_ticks shared)
    by_action (gets d) h = acts (gets d) h
    by_action (puts d v) h = acts (puts d v) h
    by_action (enters m) h = acts (enters m) h
    by_action (leaves m) h = acts (leaves m) h
    by_action (waits d l k) h = acts (waits d l k) h
    by_action (signals d) h = acts (signals d) h
    by_action (broadcasts d) h = acts (broadcasts d) h
    by_action (asks_empty d) h = acts (asks_empty d) h
    by_action (raises k) h = record {
      instr = h.instr;
      here = h.here;
      raises = λ s us left. effect_burnt dispatch_ticks e.image s h.instr (next_own (left_by us b)) ∙ ap (λ r. burnt_outcome dispatch_ticks r) (h.raises s us (λ w r. left w r ∙ same w r));
      inside = h.inside;
      handling = h.handling;
      frame = h.frame;
      others = others_left e b.job.inside b.owned b.shared shared n.process n.monitor h.others same;
    }
    by_action ends h = record { here = h.here; inside = h.inside; outside = h.outside; others = others_left e b.job.inside b.owned b.shared shared n.process n.monitor h.others same }

resumed_runs : (e : Setting) (o : Own) (n : Next) (a : Action) (b : Own) (done dispatch_ticks : ℕ) (shared : List ℤ) → SameInside e.image b.job.inside b.shared shared → Runs e.image (λ x. NextComes e o n a x) b
    → Runs e.image (λ x. NextComes e o n a x) (resumed b done dispatch_ticks shared)
resumed_runs e o n a b done dispatch_ticks shared same (arrived g) = arrived (resumed_next e o n a b done dispatch_ticks shared same g)
resumed_runs e o n a b done dispatch_ticks shared same (moved j next at h l) =
    moved j (λ us. burnt dispatch_ticks (next us)) at
    (λ s us left. effect_burnt dispatch_ticks e.image s j (next_own (left_by us b)) ∙ ap (λ r. burnt_outcome dispatch_ticks r) (h s us (λ w r. left w r ∙ same w r)))
    (λ us left. resumed_runs e o n a (next us) (next us).job.done dispatch_ticks (next us).shared (λ w r. refl) (l us (λ w r. left w r ∙ same w r)))

-- ---- a value that is given

given_next : (g : Program) (p : Process) (calls : List Call) (bottom : Call) (v : Option ℤ) (process monitor : Vars)
    → next_from g p (given v (calls ++ bottom ∷ [])) None process monitor ≡ next_from g p (calls ++ bottom ∷ []) v process monitor
given_next g p [] bottom v process monitor = refl
given_next g p (call ∷ calls) bottom v process monitor = refl

given_none : (calls : List Call) → given None calls ≡ calls
given_none [] = refl
given_none (call ∷ calls) = refl

inside_itself : (m : ℕ) (inside : Option ℕ) → inside ≡ Some m → is_inside m inside ≡ true
inside_itself m inside e = ap (λ t. is_inside m t) e ∙ eq-eqb m m refl

module _ (c : Compiled) (order : Order) (is : IsEmitted c order) where
  -- the words hold the variables of the monitor that the process is inside, or none
  kept_others : (inside : Option ℕ) (owned shared : List ℤ) (process monitor : Vars) → FitsOthers (setting_of c order) inside owned shared process monitor → FitsOthers (setting_of c order) inside owned shared process (kept inside monitor)
  kept_others None owned shared process monitor f = record { process_words = f.process_words; monitor_words = tt }
  kept_others (Some m) owned shared process monitor f = f

  outside_others : (inside : Option ℕ) (owned shared : List ℤ) (process monitor : Vars) → FitsOthers (setting_of c order) inside owned shared process monitor → FitsOthers (setting_of c order) None owned shared process []
  outside_others inside owned shared process monitor f = record { process_words = f.process_words; monitor_words = tt }

  -- after an action the process stands for what remains
  after_stands : (q : Own) (a : Action) (n : Next) (o : Own) (h : NextActs (setting_of c order) o a n o) (v : Option ℤ) (below : List Operand) (monitor : Vars) (handling : Bool) → below ≡ h.below → q.job.inside ≡ inside_after a o.job.inside → q.job.handling ≡ handling
      → (handling ≡ true → HasHandler c.text.handler) → FitsOthers (setting_of c order) q.job.inside o.owned o.shared n.process monitor → IsGiven v (innermost h.calls h.bottom).rest
      → StandsFor c order (at_frame q v (record { back = o.job.place + 1; locals = o.job.locals; operands = below }) o.job.callers o.owned o.shared) (view (given v n.calls) n.process monitor handling)
  after_stands q a n o h v below monitor handling is_below inside same has others gives = record {
    handling = same;
    handled = has;
    leads = subst (λ cs. Runs c.image (λ b. NextComes (setting_of c order) (at_frame q v (record { back = o.job.place + 1; locals = o.job.locals; operands = below }) o.job.callers o.owned o.shared)
        (next_from c.program c.text (given v cs) None n.process monitor) (next_from c.program c.text (given v cs) None n.process monitor).action b)
        (at_frame q v (record { back = o.job.place + 1; locals = o.job.locals; operands = below }) o.job.callers o.owned o.shared)) (sym h.split)
        (subst (λ k. Runs c.image (λ b. NextComes (setting_of c order) (at_frame q v (record { back = o.job.place + 1; locals = o.job.locals; operands = below }) o.job.callers o.owned o.shared) k k.action b)
        (at_frame q v (record { back = o.job.place + 1; locals = o.job.locals; operands = below }) o.job.callers o.owned o.shared)) (sym (given_next c.program c.text h.calls h.bottom v n.process monitor))
        (next_comes (setting_of c order) is.code (all_laid (setting_of c order)) (at_frame q v (record { back = o.job.place + 1; locals = o.job.locals; operands = below }) o.job.callers o.owned o.shared)
        h.calls h.bottom v (record { back = o.job.place + 1; locals = o.job.locals; operands = below }) o.job.callers h.end n.process monitor o.owned o.shared
        (subst (λ t. StandsAll (setting_of c order) t h.calls h.bottom (record { back = o.job.place + 1; locals = o.job.locals; operands = below } ∷ o.job.callers) h.end) (sym inside)
        (subst (λ t. StandsAll (setting_of c order) (inside_after a o.job.inside) h.calls h.bottom (frame_after o t ∷ o.job.callers) h.end) (sym is_below) h.stands))
        h.ends h.frame others gives));
  }

  -- where nothing is given
  plain_stands : (q : Own) (a : Action) (n : Next) (o : Own) (h : NextActs (setting_of c order) o a n o) (below : List Operand) (monitor : Vars) (handling : Bool) → below ≡ h.below → q.job.inside ≡ inside_after a o.job.inside → q.job.handling ≡ handling
      → (handling ≡ true → HasHandler c.text.handler) → FitsOthers (setting_of c order) q.job.inside o.owned o.shared n.process monitor → (Receives (innermost h.calls h.bottom).rest → ⊥)
      → StandsFor c order (at_frame q None (record { back = o.job.place + 1; locals = o.job.locals; operands = below }) o.job.callers o.owned o.shared) (view n.calls n.process monitor handling)
  plain_stands q a n o h below monitor handling is_below inside same has others gives =
      subst (λ cs. StandsFor c order (at_frame q None (record { back = o.job.place + 1; locals = o.job.locals; operands = below }) o.job.callers o.owned o.shared) (view cs n.process monitor handling)) (given_none n.calls)
      (after_stands q a n o h None below monitor handling is_below inside same has others gives)

  -- ---- each action

  -- the process at an instruction, with these operands
  abbrev with_operands : Own → List Operand → Own
  with_operands o os = record { job = record ((next_own o).job) { operands = os }; owned = o.owned; shared = o.shared }

  -- what is asked of an instruction
  abbrev Asked : State → Own → View → Next → Action → Type 0
  Asked s o v n a = (instr : Instr) × (slice_get c.image.code o.job.place ≡ Some instr) × Agrees c (λ o v. StandsFor c order o v) (λ m shared vars. FreeHolds c m shared vars) (λ owned vars. RestHolds c owned vars) s o v n a (effect c.image s instr (next_own o))

  module _ (s : State) (o : Own) (v : View) (n : Next) (same : o.job.handling ≡ v.handling) (has : v.handling ≡ true → HasHandler c.text.handler) where
    abbrev Agreed : Action → Outcome → Type 0
    Agreed a out = Agrees c (λ o v. StandsFor c order o v) (λ m shared vars. FreeHolds c m shared vars) (λ owned vars. RestHolds c owned vars) s o v n a out

    gets_asked : (d : ℕ) → NextActs (setting_of c order) o (gets d) n o → Asked s o v n (gets d)
    gets_asked d h = (h.instr, h.here, subst (λ j. Agreed (gets d) (effect c.image s j (next_own o))) (sym h.does.0) (by_device (slice_get s.devices d) refl))
      where
        by_device : (x : Option ℤ) → slice_get s.devices d ≡ x → Agreed (gets d) (table.get x (pos d) (next_own o))
        by_device None e = tt
        by_device (Some x) e = (
          refl,
          e,
          record {
            stands = after_stands o (gets d) n o h (Some x) o.job.operands (kept o.job.inside n.monitor) v.handling h.does.1 refl same has (kept_others o.job.inside o.owned o.shared n.process n.monitor h.others) h.awaited;
            inside = refl;
            words = λ w out. refl;
          },
        )

    empty_asked : (d : ℕ) → NextActs (setting_of c order) o (asks_empty d) n o → Asked s o v n (asks_empty d)
    empty_asked d h = (h.instr, h.here, subst (λ j. Agreed (asks_empty d) (effect c.image s j (next_own o))) (sym h.does.0) (by_queue (slice_get s.queues d) refl))
      where
        by_queue : (x : Option (List ℕ)) → slice_get s.queues d ≡ x → Agreed (asks_empty d) (table.empty x (pos d) (next_own o))
        by_queue None e = tt
        by_queue (Some q) e = (
          refl,
          q,
          e,
          refl,
          record {
            stands = after_stands o (asks_empty d) n o h (Some (of_bool (is_none_waiting q))) o.job.operands (kept o.job.inside n.monitor) v.handling h.does.1 refl same has (kept_others o.job.inside o.owned o.shared n.process n.monitor h.others) h.awaited;
            inside = refl;
            words = λ w out. refl;
          },
        )

    puts_asked : (d : ℕ) (y : ℤ) → NextActs (setting_of c order) o (puts d y) n o → Asked s o v n (puts d y)
    puts_asked d y h = (
      h.instr,
      h.here,
      subst (λ j. Agreed (puts d y) (effect c.image s j (next_own o))) (sym h.does.0)
          (subst (λ os. Agreed (puts d y) (effect c.image s (i.Out (pos d)) (with_operands o os))) (sym h.does.1) (by_device (slice_get s.devices d))),
    )
      where
        by_device : (x : Option ℤ) → Agreed (puts d y) (table.put x (pos d) y (with_operands o h.below))
        by_device None = tt
        by_device (Some x) = (
          refl,
          refl,
          record {
            stands = plain_stands o (puts d y) n o h h.below (kept o.job.inside n.monitor) v.handling refl refl same has (kept_others o.job.inside o.owned o.shared n.process n.monitor h.others) h.awaited;
            inside = refl;
            words = λ w out. refl;
          },
        )

    signals_asked : (d : ℕ) → NextActs (setting_of c order) o (signals d) n o → Asked s o v n (signals d)
    signals_asked d h = (h.instr, h.here, subst (λ j. Agreed (signals d) (effect c.image s j (next_own o))) (sym h.does.0) (by_queue (slice_get s.queues d)))
      where
        by_queue : (x : Option (List ℕ)) → Agreed (signals d) (table.signal x (pos d) (next_own o))
        by_queue None = tt
        by_queue (Some q) = (
          refl,
          record {
            stands = plain_stands o (signals d) n o h o.job.operands (kept o.job.inside n.monitor) v.handling h.does.1 refl same has (kept_others o.job.inside o.owned o.shared n.process n.monitor h.others) h.awaited;
            inside = refl;
            words = λ w out. refl;
          },
        )

    broadcasts_asked : (d : ℕ) → NextActs (setting_of c order) o (broadcasts d) n o → Asked s o v n (broadcasts d)
    broadcasts_asked d h = (h.instr, h.here, subst (λ j. Agreed (broadcasts d) (effect c.image s j (next_own o))) (sym h.does.0) (by_queue (slice_get s.queues d)))
      where
        by_queue : (x : Option (List ℕ)) → Agreed (broadcasts d) (table.broadcast x (pos d) (next_own o))
        by_queue None = tt
        by_queue (Some q) = (
          refl,
          record {
            stands = plain_stands o (broadcasts d) n o h o.job.operands (kept o.job.inside n.monitor) v.handling h.does.1 refl same has (kept_others o.job.inside o.owned o.shared n.process n.monitor h.others) h.awaited;
            inside = refl;
            words = λ w out. refl;
          },
        )

    -- the process inside another monitor, or none
    abbrev placed : Option ℕ → Own
    placed inside = record o { job = record (o.job) { inside = inside } }

    enters_agrees : (m : ℕ) → NextActs (setting_of c order) o (enters m) n o → Agreed (enters m) (table.enter c.image s (pos m) (next_own o))
    enters_agrees m h = subst (λ t. Agreed (enters m) (table.enters (is_free m s.threads) t m (next_own o))) (sym h.does.2) (by_free (is_free m s.threads) refl)
      where
        by_free : (b : Bool) → is_free m s.threads ≡ b → Agreed (enters m) (table.enters b None m (next_own o))
        by_free false e = tt
        by_free true e = (
          refl,
          e,
          record {
            monitor = h.does.3.monitor;
            there = h.does.3.there;
            reached = h.does.3.reached;
            outside = h.does.2;
            inside = refl;
            words = refl;
            stands = λ vars free. plain_stands (placed (Some m)) (enters m) n o h o.job.operands vars v.handling h.does.1 refl same has (record { process_words = h.others.process_words; monitor_words = free }) h.awaited;
          },
        )

    enters_asked : (m : ℕ) → NextActs (setting_of c order) o (enters m) n o → Asked s o v n (enters m)
    enters_asked m h = (h.instr, h.here, by_instr h.does.0)
      where
        by_instr : (h.instr ≡ i.Enter (pos m)) ⊎ (h.instr ≡ i.Reenter (pos m)) → Agreed (enters m) (effect c.image s h.instr (next_own o))
        by_instr (inl e) = subst (λ j. Agreed (enters m) (effect c.image s j (next_own o))) (sym e) (enters_agrees m h)
        by_instr (inr e) = subst (λ j. Agreed (enters m) (effect c.image s j (next_own o))) (sym e) (enters_agrees m h)

    -- the words of the monitor that the process is inside hold its variables
    free_of : (m : ℕ) (inside : Option ℕ) (monitor process : Vars) → inside ≡ Some m → FitsOthers (setting_of c order) inside o.owned o.shared process monitor → FreeHolds c m o.shared monitor
    free_of m inside monitor process is_m f =
        subst (λ t. Holds (opens_of c.image t in_monitor) o.shared (inside_places c.program t) monitor) is_m f.monitor_words

    left : (m : ℕ) (a : Action) (h : NextActs (setting_of c order) o a n o) → inside_after a o.job.inside ≡ None → o.job.inside ≡ Some m → o.job.operands ≡ h.below → (Receives (innermost h.calls h.bottom).rest → ⊥)
        → Leaves c (λ o v. StandsFor c order o v) (λ m shared vars. FreeHolds c m shared vars) o (record (next_own o) { job = record ((next_own o).job) { inside = None } }) m n v.handling
    left m a h none is_m below calm = record {
      inside = is_m;
      outside = refl;
      words = λ w out. refl;
      free = free_of m o.job.inside n.monitor n.process is_m h.others;
      stands = plain_stands (placed None) a n o h o.job.operands [] v.handling below (sym none) same has (outside_others o.job.inside o.owned o.shared n.process n.monitor h.others) calm;
    }

    leaves_asked : (m : ℕ) → NextActs (setting_of c order) o (leaves m) n o → Asked s o v n (leaves m)
    leaves_asked m h = (
      h.instr,
      h.here,
      subst (λ j. Agreed (leaves m) (effect c.image s j (next_own o))) (sym h.does.0)
          (subst (λ b. Agreed (leaves m) (table.leaves b m (next_own o))) (sym (inside_itself m o.job.inside h.does.2)) (refl, left m (leaves m) h refl h.does.2 h.does.1 h.awaited)),
    )

    waits_asked : (d l k : ℕ) → NextActs (setting_of c order) o (waits d l k) n o → Asked s o v n (waits d l k)
    waits_asked d l k h =
        let m : ℕ = h.does.0 in (
          h.instr,
          h.here,
          subst (λ j. Agreed (waits d l k) (effect c.image s j (next_own o))) (sym h.does.1)
              (subst (λ x. Agreed (waits d l k) (table.wait x (pos d) (pos l) (pos k) (next_own o))) (sym h.does.4)
              (subst (λ b. Agreed (waits d l k) (table.waits b (pos d) (pos l) (pos k) (next_own o))) (sym (inside_itself h.does.0 o.job.inside h.does.3)) (
                refl,
                refl,
                refl,
                record {
                  monitor = h.does.0;
                  leaves = left h.does.0 (waits d l k) h refl h.does.3 h.does.2 h.awaited;
                  late = raised_stands c order is (record (next_own o) { job = record ((next_own o).job) { inside = None } }) k n.process v.handling same has h.frame (outside_others o.job.inside o.owned o.shared n.process n.monitor h.others);
                },
              ))),
        )

    raises_asked : (k : ℕ) → Raising (setting_of c order) o k n.process n.monitor o → Asked s o v n (raises k)
    raises_asked k h = (
      h.instr,
      h.here,
      subst (λ r. Agreed (raises k) r) (sym (h.raises s o.shared (λ w r. refl))) (
        refl,
        record {
          free = λ m is_m. free_of m o.job.inside n.monitor n.process is_m h.others;
          stands = raised_stands c order is o k n.process v.handling same has h.frame (outside_others o.job.inside o.owned o.shared n.process n.monitor h.others);
        },
      ),
    )

    ends_asked : Ending (setting_of c order) o n o → Asked s o v n ends
    ends_asked h = (i.End, h.here, record { outside = h.inside; rests = h.others.process_words })

    -- the instruction of the next action
    acts_asked : (a : Action) → NextComes (setting_of c order) o n a o → Asked s o v n a
    acts_asked (gets d) h = gets_asked d h
    acts_asked (puts d y) h = puts_asked d y h
    acts_asked (enters m) h = enters_asked m h
    acts_asked (leaves m) h = leaves_asked m h
    acts_asked (waits d l k) h = waits_asked d l k h
    acts_asked (signals d) h = signals_asked d h
    acts_asked (broadcasts d) h = broadcasts_asked d h
    acts_asked (asks_empty d) h = empty_asked d h
    acts_asked (raises k) h = raises_asked k h
    acts_asked ends h = ends_asked h

    -- a silent instruction
    goes_agreed : (a : Action) (q : Own) → Stays c.image (λ o v. StandsFor c order o v) o q v → Agreed a (Goes q)
    goes_agreed (gets d) q h = h
    goes_agreed (puts d y) q h = h
    goes_agreed (enters m) q h = h
    goes_agreed (leaves m) q h = h
    goes_agreed (waits d l k) q h = h
    goes_agreed (signals d) q h = h
    goes_agreed (broadcasts d) q h = h
    goes_agreed (asks_empty d) q h = h
    goes_agreed (raises k) q h = h
    goes_agreed ends q h = h

  -- the last tick of an instruction
  ticks_asked : (s : State) (o : Own) (v : View) → o.job.handling ≡ v.handling → (v.handling ≡ true → HasHandler c.text.handler)
      → Runs c.image (λ b. NextComes (setting_of c order) o (next_of c.program c.text v) (next_of c.program c.text v).action b) o
      → Asked s o v (next_of c.program c.text v) (next_of c.program c.text v).action
  ticks_asked s o v same has (arrived g) = acts_asked s o v (next_of c.program c.text v) same has (next_of c.program c.text v).action g
  ticks_asked s o v same has (moved j next at h l) =
      let goes : effect c.image s j (next_own o) ≡ Goes (next o.shared) = h s o.shared (λ w r. refl) in
      let left : Kept c.image o (next o.shared) = goes_kept c.image s j o (next_own o) (next o.shared) (record { inside = refl; handling = refl; words = λ w out. refl }) goes in (
        j,
        at,
        subst (λ r. Agrees c (λ o v. StandsFor c order o v) (λ m shared vars. FreeHolds c m shared vars) (λ owned vars. RestHolds c owned vars) s o v (next_of c.program c.text v) (next_of c.program c.text v).action r) (sym goes)
            (goes_agreed s o v (next_of c.program c.text v) same has (next_of c.program c.text v).action (next o.shared)
            (record {
              stands = record {
                handling = left.handling ∙ same;
                handled = has;
                leads = then_runs (l o.shared (λ w r. refl)) (λ b g. arrived (based (setting_of c order) o (next o.shared) (next_of c.program c.text v) (next_of c.program c.text v).action b left.inside left.handling g));
              };
              inside = left.inside;
              words = left.words;
            })),
      )

-- The code of a process that is emitted is faithful.
pub emitted_is_faithful : EmittedIsFaithful
emitted_is_faithful c order is = record {
  begins = begins_rests c order is;
  starts = λ owned shared vars rests. released_stands c order is owned shared vars (record { process_words = rests; monitor_words = tt });
  stable = λ o v done dispatch_ticks shared h same. record {
    handling = h.handling;
    handled = h.handled;
    leads = then_runs (resumed_runs (setting_of c order) o (next_of c.program c.text v) (next_of c.program c.text v).action o done dispatch_ticks shared same h.leads)
        (λ b g. arrived (based (setting_of c order) o (resumed o done dispatch_ticks shared) (next_of c.program c.text v) (next_of c.program c.text v).action b refl refl g));
  };
  ticks = λ s o v shared h. ticks_asked c order is s o v h.handling h.handled h.leads;
}
