-- The start events of the machine are those of the source meaning, in the same order: each piece of the machine's tick plays some items.
use Rattle.std.proofs.Common.{◌≡◌, ◌≤◌, ◌<◌, ◌+◌, ◌*◌, ◌++◌, inl, ℕ, zero, suc, List, [], ◌∷◌, Option, Some, None, arith, refl, ap, sym, subst, ◌∙◌, true, false, Bool, append_assoc}
use Rattle.std.specs.Prelude.{ℤ, slice_get, slice_set, cond, nat_eq, ◌&&◌}
use Rattle.std.proofs.lemmas.Bool.Decides.{nat_tests}
use Rattle.std.proofs.lemmas.List.{append-nil}
use Rattle.std.proofs.lemmas.Option.{slice_get_within}
use Rattle.base.proofs.Lists.{some_at}
use Rattle.base.specs.declared.event.Event.{Event}
use Rattle.base.specs.declared.event.Act.{Act}
use Rattle.base.specs.declared.event.Act.TheVariants as act
use Rattle.syntax_tree.specs.Plain as tree
use Rattle.syntax_tree.specs.Plain.{Program}
use Rattle.source_semantics.specs.Names.{processes}
use Rattle.source_semantics.specs.Store.{Vars}
use Rattle.source_semantics.specs.Run.{Call}
use Rattle.source_semantics.specs.Config.{Doing, active, released_of, Job, Hold, Config, changed, inside, leave, vacate, at_tick, with_jobs, with_queues}
use Rattle.source_semantics.specs.Starts.{Script, due, NoneMissing, release_missing, release_of, was_released_at}
use Rattle.source_semantics.specs.Starts as source
use Rattle.source_semantics.specs.Source.{Step, RunFrom, MayStart, after_start, on_text, job_after_raise}
use Rattle.source_semantics.specs.Source as meaning
use Rattle.machine_semantics.specs.Image.{Process}
use Rattle.machine_semantics.specs.State.{Thread, Idle, Ready, Waiting, State}
use Rattle.machine_semantics.specs.State as target
use Rattle.machine_semantics.specs.Starts.{Started, unchanged, followed, released, release, release_thread, raised, without, queue_of, time_out}
use Rattle.machine_semantics.specs.Tick.{owned_of}
use Rattle.machine_semantics.specs.Queues.{times}
use Rattle.code_spec.specs.Boundary.{view, job_raised, view_raised}
use Rattle.code_lifting.specs.Related.{Whole, Relations, own, inside_of, Waits, Same, IsSame}
use Rattle.code_lifting.specs.Compiled.{IsProcess, IsCompiled}
use Rattle.code_lifting.proofs.Lists.{Changed, changed_changes, not_changed, changed_queue}
use Rattle.code_lifting.proofs.Touch.{Text, text_of, inside_is}
use Rattle.code_lifting.proofs.Moves.{outside_it}
use Rattle.code_lifting.proofs.Acts.{AfterRaise, after_raise_is}
use Rattle.code_lifting.proofs.Ticks.{At}
use Rattle.code_lifting.proofs.Items.{Item, rel, out, owed, Quiet, quiet_both, quiet_owes, quiet_changed, all_items, due_is}
use Rattle.code_lifting.proofs.Items as items

-- ---- queues in which nobody stands twice

abbrev pub Once : List (List ℕ) → Type 0
Once queues = (c k : ℕ) → times k (queue_of queues c) ≤ 1

fewer : (i k : ℕ) (js : List ℕ) → times i (without k js) ≤ times i js
fewer i k [] = omega arith
fewer i k (j ∷ js) = by (nat_eq j k) (fewer i k js) where
  same_test : (b : Bool) → times i (without k js) ≤ times i js → cond b (suc (times i (without k js))) (times i (without k js)) ≤ cond b (suc (times i js)) (times i js)
  same_test true h = omega (arith, h)
  same_test false h = h

  longer : (b : Bool) → times i (without k js) ≤ times i js → times i (without k js) ≤ cond b (suc (times i js)) (times i js)
  longer true h = omega (arith, h)
  longer false h = h

  by : (a : Bool) → times i (without k js) ≤ times i js → times i (cond a (without k js) (j ∷ without k js)) ≤ cond (nat_eq j i) (suc (times i js)) (times i js)
  by true h = longer (nat_eq j i) h
  by false h = same_test (nat_eq j i) h

queue_after : (qs : List (List ℕ)) (c d : ℕ) (q : List ℕ) (k : ℕ) → times k q ≤ times k (queue_of qs c) → times k (queue_of (slice_set qs c q) d) ≤ times k (queue_of qs d)
queue_after [] c d q k h = omega arith
queue_after (p ∷ ps) zero zero q k h = h
queue_after (p ∷ ps) zero (suc d) q k h = omega arith
queue_after (p ∷ ps) (suc c) zero q k h = omega arith
queue_after (p ∷ ps) (suc c) (suc d) q k h = queue_after ps c d q k h

once_without : (qs : List (List ℕ)) (c k : ℕ) → Once qs → Once (slice_set qs c (without k (queue_of qs c)))
once_without qs c k once d i = omega (arith, once d i, queue_after qs c d (without k (queue_of qs c)) i (fewer i k (queue_of qs c)))

not_there : (k : ℕ) (js : List ℕ) → times k js ≡ 0 → without k js ≡ js
not_there k [] none = refl
not_there k (j ∷ js) none = by (nat_eq j k) none (λ h. not_there k js h) where
  by : (b : Bool) → cond b (suc (times k js)) (times k js) ≡ 0 → (times k js ≡ 0 → without k js ≡ js) → cond b (without k js) (j ∷ without k js) ≡ j ∷ js
  by true h later = absurd (omega (arith, h))
  by false h later = ap (λ (xs : List ℕ). j ∷ xs) (later h)

-- who stands in it at most once is taken out alike on both sides
without_same : (k : ℕ) (js : List ℕ) → times k js ≤ 1 → without k js ≡ meaning.without k js
without_same k [] once = refl
without_same k (j ∷ js) once = by (nat_eq j k) once (λ h. without_same k js h) where
  by : (b : Bool) → cond b (suc (times k js)) (times k js) ≤ 1 → (times k js ≤ 1 → without k js ≡ meaning.without k js) → cond b (without k js) (j ∷ without k js) ≡ cond b js (j ∷ meaning.without k js)
  by true h later = not_there k js (omega (arith, h))
  by false h later = ap (λ (xs : List ℕ). j ∷ xs) (later h)

module _ (w : Whole) (r : Relations) (compiled : IsCompiled w r) (script : Script) (t : ℕ) (below : t < script.end_tick) where
  abbrev Now : State → Config → Type 0
  Now s c = At w r script t t s c

  -- The piece plays these items, whatever comes before and after them: where both sides are the same before it and the items done have come,
  -- the events of the piece are allowed in turn, and both sides are the same after them.
  abbrev pub Phase : List Item → (State → Started) → Type 0
  Phase xs f = (s : State) (c : Config) (done rest : List Item) → all_items w.program script t ≡ done ++ (xs ++ rest) → Now s c → Quiet t c.jobs done → Once s.queues → (f s).overrun ≡ false → (es : List Event)
      → ((c' : Config) → Now (f s).state c' → Quiet t c'.jobs (done ++ xs) → Once (f s).state.queues → RunFrom w.program script c' es)
      → RunFrom w.program script c ((f s).events ++ es)

  pub nothing : Phase [] unchanged
  nothing s c done rest is now quiet once free es then = then c now (subst (Quiet t c.jobs) (sym (append-nil done)) quiet) once

  pub device : (d : ℕ) (v : ℤ) → Phase [] (λ s. unchanged (record s { devices = slice_set s.devices d v }))
  device d v s c done rest is now quiet once free es then =
      then c (record { same = record { related = now.same.related; queues = now.same.queues }; reached = now.reached; fresh = now.fresh; none = now.none }) (subst (Quiet t c.jobs) (sym (append-nil done)) quiet) once

  pub both : (xs ys : List Item) (f h : State → Started) → Phase xs f → Phase ys h → Phase (xs ++ ys) (λ s. followed (f s) h)
  both xs ys f h first second s c done rest is now quiet once free es then =
      let parts : ((f s).overrun ≡ false) × ((h (f s).state).overrun ≡ false) = neither (f s).overrun (h (f s).state).overrun free in
      let is_first : all_items w.program script t ≡ done ++ (xs ++ (ys ++ rest)) = is ∙ ap (λ (zs : List Item). done ++ zs) (append_assoc xs ys rest) in
      let is_second : all_items w.program script t ≡ (done ++ xs) ++ (ys ++ rest) = is_first ∙ sym (append_assoc done xs (ys ++ rest)) in
      subst (λ (zs : List Event). RunFrom w.program script c zs) (sym (append_assoc (f s).events (h (f s).state).events es))
      (first s c done (ys ++ rest) is_first now quiet once parts.0 ((h (f s).state).events ++ es)
      (λ c' now' quiet' once'. second (f s).state c' (done ++ xs) rest is_second now' quiet' once' parts.1 es
      (λ c'' now'' quiet'' once''. then c'' now'' (subst (Quiet t c''.jobs) (append_assoc done xs ys) quiet'') once''))) where
        neither : (a b : Bool) → elim a [ true ↦ true | false ↦ b ] ≡ false → (a ≡ false) × (b ≡ false)
        neither true b is = absurd cc
        neither false b is = (refl, is)

  pub where_so : (a b : Bool) (i : Item) (f : State → Started) → a ≡ b → Phase (i ∷ []) f → Phase (cond b (i ∷ []) []) (λ s. cond a (f s) (unchanged s))
  where_so true true i f same phase = phase
  where_so false false i f same phase = nothing
  where_so true false i f same phase = absurd cc
  where_so false true i f same phase = absurd cc

  -- ---- a start event that comes

  abbrev event_of : ℕ → Act → Event
  event_of k a = record { tick = t; proc = k; act = a }

  comes : (s : State) (c : Config) (i : Item) (done rest : List Item) (k : ℕ) (a : Act) → all_items w.program script t ≡ done ++ ((i ∷ []) ++ rest) → Now s c → Quiet t c.jobs done → items.told t c.jobs i ≡ event_of k a ∷ []
      → MayStart a (slice_get c.jobs k) → Step w.program script c (event_of k a) (after_start w.program c (event_of k a))
  comes s c i done rest k a is now quiet tells may = record {
    before_end = below;
    reached = now.reached;
    none_missing = now.none;
    comes = inl (record {
      later = owed t c.jobs rest;
      first = due_is w.program script c t now.fresh ∙ ap (λ (xs : List Item). owed t c.jobs xs) is ∙ quiet_owes t c.jobs done (i ∷ rest) quiet ∙ ap (λ (es : List Event). es ++ owed t c.jobs rest) tells;
      may_start = may;
      after = refl;
    });
  }

  itself : (n : ℕ) → nat_eq n n ≡ true
  itself n = grind (arith, nat_tests)

  -- after a start event at tick t
  just_now : (s : State) (c : Config) → IsSame w r s c → c.tick ≡ t → c.acted ≡ false → Now s c
  just_now s c same tick_is acted = record {
    same = same;
    reached = omega (arith, tick_is);
    fresh = ap (λ (b : Bool). b && nat_eq c.tick t) acted;
    none = λ u low lt. absurd (omega (arith, low, lt, tick_is));
  }

  -- an item whose event has come, or that has none
  passed : (c : Config) (i : Item) (done : List Item) → Quiet t c.jobs done → items.told t c.jobs i ≡ [] → Quiet t c.jobs (done ++ i ∷ [])
  passed c i done quiet none = quiet_both t c.jobs done (i ∷ []) quiet (none, tt)

  words_there : (s : State) (c : Config) (k : ℕ) (th : Thread) → Now s c → slice_get s.threads k ≡ Some th → Changed s.owned s.owned k (owned_of (slice_get s.owned k))
  words_there s c k th now at =
      let old : (x : List ℤ) × (slice_get s.owned k ≡ Some x) = some_at s.owned k (omega (arith, slice_get_within s.threads k th at, now.same.related.many_threads, now.same.related.many_owned)) in
      subst (λ (x : Option (List ℤ)). Changed s.owned s.owned k (owned_of x)) (sym old.1) (not_changed s.owned k old.0 old.1)

  pub release_plays : (k : ℕ) (p : Process) → slice_get w.image.processes k ≡ Some p → Phase (rel k ∷ []) (λ s. release w.image t k p s)
  release_plays k p at s c done rest is now quiet once free es then = by (slice_get s.threads k) (slice_get c.jobs k) refl refl (now.same.related.same k) free then where
    text : Text w r k p
    text = text_of w r compiled k p at

    words : List ℤ
    words = owned_of (slice_get s.owned k)

    by : (o : Option Thread) (jo : Option Job) → slice_get s.threads k ≡ o → slice_get c.jobs k ≡ jo → Same w r k c.holds words s.shared o jo → (release_thread w.image t k p s o).overrun ≡ false
        → ((c' : Config) → Now (release_thread w.image t k p s o).state c' → Quiet t c'.jobs (done ++ rel k ∷ []) → Once (release_thread w.image t k p s o).state.queues → RunFrom w.program script c' es)
        → RunFrom w.program script c ((release_thread w.image t k p s o).events ++ es)
    by None None at_t at_j same free_now go = go c now (passed c (rel k) done quiet (ap (λ (x : Option Job). release_missing t k x) at_j)) once
    by None (Some j) at_t at_j same free_now go = absurd same
    by (Some (Ready job)) jo at_t at_j same free_now go = absurd cc
    by (Some (Waiting condition due number job)) jo at_t at_j same free_now go = absurd cc
    by (Some Idle) None at_t at_j same free_now go = absurd same
    by (Some Idle) (Some j) at_t at_j same free_now go = (
      after_start w.program c (event_of k act.Release),
      comes s c (rel k) done rest k act.Release is now quiet tells (subst (λ (x : Option Job). MayStart act.Release x) (sym at_j) same.0),
      subst (λ (x : Config). RunFrom w.program script x es) (sym new_is) (go new (just_now (release_thread w.image t k p s (Some Idle)).state new same_now refl refl) quiet_now once),
    )
      where
        new : Config
        new = with_jobs (at_tick c t false) (changed (meaning.released t text.text) k c.jobs)

        new_is : after_start w.program c (event_of k act.Release) ≡ new
        new_is = ap (λ (x : Option tree.Process). on_text (λ q i. meaning.released t q i) x k (at_tick c t false)) text.there

        js : Changed c.jobs (changed (meaning.released t text.text) k c.jobs) k (meaning.released t text.text j)
        js = changed_changes (meaning.released t text.text) c.jobs k j at_j

        tells : items.told t c.jobs (rel k) ≡ event_of k act.Release ∷ []
        tells = ap (λ (x : Option Job). release_missing t k x) at_j ∙ ap (λ (d : Doing). cond (was_released_at t d) [] (release_of t k ∷ [])) same.0

        same_now : IsSame w r (release_thread w.image t k p s (Some Idle)).state new
        same_now = record {
          related = outside_it w r compiled s.threads s.owned s.shared c.jobs c.holds now.same.related k p at Idle (Ready (released w.image p)) s.owned words s.shared (changed (meaning.released t text.text) k c.jobs) (meaning.released t text.text j)
              at_t refl refl (words_there s c k Idle now at_t) js (λ v same. refl) (t, refl, text.is.faithful.starts words s.shared j.vars same.1);
          queues = now.same.queues;
        }

        has_come : release_missing t k (Some (meaning.released t text.text j)) ≡ []
        has_come = ap (λ (b : Bool). cond b [] (release_of t k ∷ [])) (itself t)

        quiet_now : Quiet t new.jobs (done ++ rel k ∷ [])
        quiet_now = passed new (rel k) done (quiet_changed t c.jobs new.jobs k (meaning.released t text.text j) done js (λ h. has_come) refl quiet) (ap (λ (x : Option Job). release_missing t k x) js.here ∙ has_come)

  -- ---- a time-out

  time_out_same : (k : ℕ) (p : Process) (text : tree.Process) (holds : List Hold) (words shared : List ℤ) (condition due e : ℕ) (job : target.Job) (j : Job) → slice_get w.image.processes k ≡ Some p → slice_get (processes w.program) k ≡ Some text
      → IsProcess w r k p text → Waits w r k words shared condition due e job j
      → Same w r k holds words shared (Some (Ready (record (raised p e job) { dispatch_ticks = 2 * w.image.over }))) (Some (job_after_raise w.program e text.handler j))
  time_out_same k p text holds words shared condition due e job j at at_text is_process waits =
      let new : target.Job = record (raised p e job) { dispatch_ticks = 2 * w.image.over } in
      let is : AfterRaise w.program e text.handler j = after_raise_is w.program e text.handler j in
      let stands : r.stands k (own new words shared) (view_raised w.program text e j.vars j.handling) =
      is_process.faithful.stable (own (raised p e job) words shared) (view_raised w.program text e j.vars j.handling) (raised p e job).done (2 * w.image.over) shared (waits.late p text at at_text) (λ v same. refl) in (
        waits.released,
        is.doing ∙ ap (λ (x : Doing). active (released_of x)) waits.doing,
        subst (λ (cs : List Call). r.stands k (own new words shared) (view cs (job_after_raise w.program e text.handler j).vars [] (job_after_raise w.program e text.handler j).handling)) (sym is.calls)
            (subst (λ (vs : Vars). r.stands k (own new words shared) (view (job_raised w.program text e j.vars j.handling).calls vs [] (job_after_raise w.program e text.handler j).handling)) (sym is.vars)
            (subst (λ (b : Bool). r.stands k (own new words shared) (view (job_raised w.program text e j.vars j.handling).calls j.vars [] b)) (sym is.handling) stands)),
      )

  pub time_out_plays : (k : ℕ) (p : Process) → slice_get w.image.processes k ≡ Some p → Phase (out k ∷ []) (λ s. time_out w.image t k p s (slice_get s.threads k))
  time_out_plays k p at s c done rest is now quiet once free es then = by (slice_get s.threads k) (slice_get c.jobs k) refl refl (now.same.related.same k) then where
    text : Text w r k p
    text = text_of w r compiled k p at

    words : List ℤ
    words = owned_of (slice_get s.owned k)

    by : (o : Option Thread) (jo : Option Job) → slice_get s.threads k ≡ o → slice_get c.jobs k ≡ jo → Same w r k c.holds words s.shared o jo
        → ((c' : Config) → Now (time_out w.image t k p s o).state c' → Quiet t c'.jobs (done ++ out k ∷ []) → Once (time_out w.image t k p s o).state.queues → RunFrom w.program script c' es)
        → RunFrom w.program script c ((time_out w.image t k p s o).events ++ es)
    by None None at_t at_j same go = go c now (passed c (out k) done quiet (ap (λ (x : Option Job). source.time_out t k x) at_j)) once
    by None (Some j) at_t at_j same go = absurd same
    by (Some (Ready job)) None at_t at_j same go = absurd same
    by (Some Idle) None at_t at_j same go = absurd same
    by (Some (Waiting condition due e job)) None at_t at_j same go = absurd same
    by (Some Idle) (Some j) at_t at_j same go = go c now (passed c (out k) done quiet (ap (λ (x : Option Job). source.time_out t k x) at_j ∙ ap (λ (d : Doing). source.doing_time_out t k d) same.0)) once
    by (Some (Ready job)) (Some j) at_t at_j same go = go c now (passed c (out k) done quiet (ap (λ (x : Option Job). source.time_out t k x) at_j ∙ ap (λ (d : Doing). source.doing_time_out t k d) same.1)) once
    by (Some (Waiting condition due e job)) (Some j) at_t at_j same go = by_due (nat_eq due t) (ap (λ (n : ℕ). nat_eq n t) (sym same.due_at)) go where
      event : Event
      event = event_of k (act.TimeOut condition e)

      -- what the source meaning tells of it
      tells_if : (b : Bool) → nat_eq (same.since + same.limit + 1) t ≡ b → items.told t c.jobs (out k) ≡ cond b (event ∷ []) []
      tells_if b is_due = ap (λ (x : Option Job). source.time_out t k x) at_j ∙ ap (λ (d : Doing). source.doing_time_out t k d) same.doing ∙ ap (λ (x : Bool). cond x (event ∷ []) []) is_due

      new_thread : Thread
      new_thread = Ready (record (raised p e job) { dispatch_ticks = 2 * w.image.over })

      after : State
      after = record { threads = slice_set s.threads k new_thread; owned = s.owned; shared = s.shared; queues = slice_set s.queues condition (without k (queue_of s.queues condition)); devices = s.devices }

      outcome : Bool → Started
      outcome b = cond b (record { state = after; events = event ∷ []; overrun = false }) (unchanged s)

      by_due : (b : Bool) → nat_eq (same.since + same.limit + 1) t ≡ b
          → ((c' : Config) → Now (outcome b).state c' → Quiet t c'.jobs (done ++ out k ∷ []) → Once (outcome b).state.queues → RunFrom w.program script c' es)
          → RunFrom w.program script c ((outcome b).events ++ es)
      by_due false is_due go_on = go_on c now (passed c (out k) done quiet (tells_if false is_due)) once
      by_due true is_due go_on =
          (after_start w.program c event, comes s c (out k) done rest k (act.TimeOut condition e) is now quiet (tells_if true is_due) tt, subst (λ (x : Config). RunFrom w.program script x es) (sym new_is) (go_on new (just_now after new same_now refl refl) quiet_now (once_without s.queues condition k once)))
        where
          f : Job → Job
          f i = job_after_raise w.program e text.text.handler i

          new : Config
          new = record { tick = t; acted = false; jobs = changed f k c.jobs; holds = c.holds; queues = changed (meaning.without k) condition c.queues }

          queued : Config
          queued = with_queues (at_tick c t false) (changed (meaning.without k) condition c.queues)

          outside : inside c k ≡ None
          outside = inside_is w r compiled s.threads s.owned s.shared c.jobs c.holds k now.same.related ∙ ap (λ (x : Option Thread). inside_of x) at_t ∙ same.outside

          left : leave queued k ≡ queued
          left = ap (λ (x : Option ℕ). vacate x queued) outside

          new_is : after_start w.program c event ≡ new
          new_is = ap (λ (x : Config). meaning.on_job (λ q i. job_after_raise w.program e q.handler i) w.program k x) left ∙ ap (λ (x : Option tree.Process). on_text (λ q i. job_after_raise w.program e q.handler i) x k queued) text.there

          js : Changed c.jobs (changed f k c.jobs) k (f j)
          js = changed_changes f c.jobs k j at_j

          now_is : AfterRaise w.program e text.text.handler j
          now_is = after_raise_is w.program e text.text.handler j

          same_now : IsSame w r after new
          same_now = record {
            related = outside_it w r compiled s.threads s.owned s.shared c.jobs c.holds now.same.related k p at (Waiting condition due e job) new_thread s.owned words s.shared (changed f k c.jobs) (f j)
                at_t same.outside refl (words_there s c k (Waiting condition due e job) now at_t) js (λ v same_word. refl)
                (time_out_same k p text.text c.holds words s.shared condition due e job j at text.there text.is same);
            queues =
                ap (λ (x : List ℕ). slice_set s.queues condition x) (without_same k (queue_of s.queues condition) (once condition k))
                ∙ sym (changed_queue (meaning.without k) s.queues condition) ∙ ap (λ (qs : List (List ℕ)). changed (meaning.without k) condition qs) now.same.queues;
          }

          still_released : release_missing t k (slice_get c.jobs k) ≡ [] → release_missing t k (Some (f j)) ≡ []
          still_released h =
              ap (λ (d : Doing). cond (was_released_at t d) [] (release_of t k ∷ [])) (now_is.doing ∙ ap (λ (d : Doing). active (released_of d)) same.doing)
              ∙ sym (ap (λ (d : Doing). cond (was_released_at t d) [] (release_of t k ∷ [])) same.doing) ∙ sym (ap (λ (x : Option Job). release_missing t k x) at_j) ∙ h

          no_more : source.time_out t k (Some (f j)) ≡ []
          no_more = ap (λ (d : Doing). source.doing_time_out t k d) now_is.doing

          quiet_now : Quiet t new.jobs (done ++ out k ∷ [])
          quiet_now = passed new (out k) done (quiet_changed t c.jobs new.jobs k (f j) done js still_released no_more quiet) (ap (λ (x : Option Job). source.time_out t k x) js.here ∙ no_more)
