-- One tick of the process that runs: it tells nothing and the configuration stays, or it tells the next act of the source meaning.
use Rattle.std.proofs.Common.{◌≡◌, ◌<◌, ◌+◌, ◌⊎◌, ◌++◌, inl, inr, ℕ, zero, suc, List, [], ◌∷◌, Option, Some, None, arith, refl, ap, sym, subst, ◌∙◌, true, false, Bool}
use Rattle.std.specs.Prelude.{ℤ, slice_get, slice_set, cond, nat_eq, not, ◌&&◌, unwrap_or}
use Rattle.std.proofs.lemmas.Bool.Decides.{nat_tests}
use Rattle.std.proofs.lemmas.Option.{slice_get_within}
use Rattle.std.proofs.lemmas.Bool.{cases_eq}
use Rattle.base.proofs.Lists.{get_set, get_other, one_some, some_at}
use Rattle.base.specs.declared.event.Event.{Event}
use Rattle.base.specs.declared.event.Act.{Act}
use Rattle.base.specs.declared.event.Act.TheVariants as act
use Rattle.base.specs.Words.{of_bool}
use Rattle.syntax_tree.specs.Plain as tree
use Rattle.syntax_tree.specs.Plain.{Program, Handler}
use Rattle.source_semantics.specs.Names.{processes}
use Rattle.source_semantics.specs.Store.{Vars}
use Rattle.source_semantics.specs.Run.{Call, Action, gets, puts, enters, leaves, waits, signals, broadcasts, asks_empty, raises, ends}
use Rattle.source_semantics.specs.Next.{Next, given}
use Rattle.source_semantics.specs.Config.{Doing, idle, active, waiting, released_of, Job, Hold, Config, hold_vars, changed, occupied, job_doing, job_calls, inside, leave, vacate}
use Rattle.source_semantics.specs.Ranks.{monitors_of, includes}
use Rattle.source_semantics.specs.Starts.{Script, device_value}
use Rattle.source_semantics.specs.Source.{effect, save_job, may_act, hold_free, is_empty, job_after_raise, lists_constant, call_of}
use Rattle.machine_semantics.specs.Image.{Process}
use Rattle.machine_semantics.specs.State.{Thread, Idle, Ready, Waiting, State}
use Rattle.machine_semantics.specs.State as target
use Rattle.machine_semantics.specs.Effect.{Own, Outcome, Goes, Does, Signals, Broadcasts, Waits, Raises, Ends, Stuck, is_none_waiting}
use Rattle.machine_semantics.specs.Starts.{queue_of, raised}
use Rattle.machine_semantics.specs.Tick.{Ticked, owned_of, settle}
use Rattle.machine_semantics.specs.Queues.{times, AreQueued}
use Rattle.code_spec.specs.Boundary.{Compiled, View, view, kept, view_raised, job_raised, Stays, Enters, Leaves, Pauses, Fails, Finishes, Agrees}
use Rattle.code_lifting.specs.Related.{Whole, Relations, own, inside_of, monitor_vars, view_of, Same, Related, IsSame}
use Rattle.code_lifting.specs.Compiled.{IsCompiled}
use Rattle.code_lifting.proofs.Lists.{Changed, changed_changes, not_changed, changed_again, queue_is, changed_queue}
use Rattle.code_lifting.proofs.Touch.{inside_is}
use Rattle.code_lifting.proofs.Moves.{saving, saved_holds, Saved, inside_saved, at_saved, monitor_saved, goes_on, outside_it, leaves_it, enters_it, nobody_inside, words_of, IsBusy, busy_waits, wake_one, wake_whole}

-- ---- the job after a raise

pub record AfterRaise (g : Program) (number : ℕ) (h : Option Handler) (j : Job) : Type 0 where
  pub doing : (job_after_raise g number h j).doing ≡ active (released_of j.doing)
  pub vars : (job_after_raise g number h j).vars ≡ j.vars
  pub calls : (job_after_raise g number h j).calls ≡ (job_after_raise g number h (record { vars = j.vars; doing = idle; calls = []; handling = j.handling })).calls
  pub handling : (job_after_raise g number h j).handling ≡ (job_after_raise g number h (record { vars = j.vars; doing = idle; calls = []; handling = j.handling })).handling

pub after_raise_is : (g : Program) (number : ℕ) (h : Option Handler) (j : Job) → AfterRaise g number h j
after_raise_is g number None j = record { doing = refl; vars = refl; calls = refl; handling = refl }
after_raise_is g number (Some h) j = record {
  doing = doing (lists_constant g number h.numbers && not j.handling);
  vars = vars (lists_constant g number h.numbers && not j.handling);
  calls = calls (lists_constant g number h.numbers && not j.handling);
  handling = handling (lists_constant g number h.numbers && not j.handling);
} where
  into : Doing → Job
  into d = record { vars = j.vars; doing = active (released_of d); calls = call_of h.body ∷ []; handling = true }

  out : Doing → Job
  out d = record { vars = j.vars; doing = active (released_of d); calls = []; handling = j.handling }

  doing : (b : Bool) → (cond b (into j.doing) (out j.doing)).doing ≡ active (released_of j.doing)
  doing true = refl
  doing false = refl

  vars : (b : Bool) → (cond b (into j.doing) (out j.doing)).vars ≡ j.vars
  vars true = refl
  vars false = refl

  calls : (b : Bool) → (cond b (into j.doing) (out j.doing)).calls ≡ (cond b (into idle) (out idle)).calls
  calls true = refl
  calls false = refl

  handling : (b : Bool) → (cond b (into j.doing) (out j.doing)).handling ≡ (cond b (into idle) (out idle)).handling
  handling true = refl
  handling false = refl

-- ---- queues

front : (i : ℕ) (xs : List ℕ) → 0 < times i (i ∷ xs)
front i xs = let e : nat_eq i i ≡ true = grind (arith, nat_tests) in subst (λ (b : Bool). 0 < cond b (suc (times i xs)) (times i xs)) (sym e) (omega arith)

set_nothing : (qs : List (List ℕ)) (e : ℕ) → slice_set qs e (queue_of qs e) ≡ qs
set_nothing [] e = refl
set_nothing (q ∷ qs) zero = refl
set_nothing (q ∷ qs) (suc e) = ap (λ (xs : List (List ℕ)). q ∷ xs) (set_nothing qs e)

-- ---- a tick of process k

-- both sides are the same after an act at tick t
pub record Acted (w : Whole) (r : Relations) (t : ℕ) (s : State) (c : Config) : Type 0 where
  pub same : IsSame w r s c
  pub tick_is : c.tick ≡ t
  pub acted : c.acted ≡ true

module _ (w : Whole) (r : Relations) (compiled : IsCompiled w r) (script : Script) (t k : ℕ) (p : Process) (text : tree.Process)
    (at_process : slice_get w.image.processes k ≡ Some p) (at_text : slice_get (processes w.program) k ≡ Some text)
    (s : State) (c : Config) (is_same : IsSame w r s c) (queued : AreQueued s) (devices : (d : ℕ) (x : ℤ) → slice_get s.devices d ≡ Some x → device_value script t d ≡ x)
    (job : target.Job) (at_thread : slice_get s.threads k ≡ Some (Ready job)) (j : Job) (at_job : slice_get c.jobs k ≡ Some j) (released : ℕ) (doing : j.doing ≡ active released) where
  abbrev words : List ℤ
  words = owned_of (slice_get s.owned k)

  abbrev o : Own
  o = own job words s.shared

  abbrev of_compiled : Compiled
  of_compiled = record { image = w.image; program = w.program; number = k; process = p; text = text }

  -- the configuration in which it acts, where n is its next action
  abbrev pub d : Next → Config
  d n = record { tick = t; acted = true; jobs = changed (save_job n) k c.jobs; holds = saved_holds job.inside n.monitor c.holds; queues = c.queues }

  -- the tick tells the act
  pub record Tells (n : Next) (a : Action) (x : Ticked) : Type 0 where
    pub event : x.events ≡ record { tick = t; proc = k; act = (effect w.program script t k a (d n)).act } ∷ []
    pub may : may_act c a ≡ true
    pub after : Acted w r t x.state (effect w.program script t k a (d n)).config

  abbrev pub Passes : Next → Action → Ticked → Type 0
  Passes n a x = ((x.events ≡ []) × IsSame w r x.state c) ⊎ Tells n a x

  in_is : inside_of (slice_get s.threads k) ≡ job.inside
  in_is = ap (λ (x : Option Thread). inside_of x) at_thread

  -- ---- what it has saved

  saved_job : (n : Next) → Changed c.jobs (changed (save_job n) k c.jobs) k (save_job n j)
  saved_job n = changed_changes (save_job n) c.jobs k j at_job

  job_again : (n : Next) (f : Job → Job) → Changed c.jobs (changed f k (changed (save_job n) k c.jobs)) k (f (save_job n j))
  job_again n f =
      changed_again c.jobs (changed (save_job n) k c.jobs) (changed f k (changed (save_job n) k c.jobs)) k (save_job n j) (f (save_job n j)) (saved_job n)
      (changed_changes f (changed (save_job n) k c.jobs) k (save_job n j) (saved_job n).here)

  held : (n : Next) → Saved job.inside k c.holds (saved_holds job.inside n.monitor c.holds)
  held n = at_saved w r compiled s.threads s.owned s.shared c.jobs c.holds is_same.related k p at_process job.inside n.monitor in_is

  monitor_is : (n : Next) → monitor_vars (saved_holds job.inside n.monitor c.holds) job.inside ≡ kept job.inside n.monitor
  monitor_is n = monitor_saved w r compiled s.threads s.owned s.shared c.jobs c.holds is_same.related k p at_process job.inside n.monitor in_is

  -- it goes on where it was, after its act
  stays : (n : Next) (q : Own) (jobs : List Job) (i : Job) → Changed c.jobs jobs k i → i.doing ≡ j.doing → Stays w.image (r.stands k) o q (view i.calls i.vars (kept job.inside n.monitor) i.handling)
      → Related w r (slice_set s.threads k (Ready q.job)) (slice_set s.owned k q.owned) q.shared jobs (saved_holds job.inside n.monitor c.holds)
  stays n q jobs i js same_doing a =
      goes_on w r compiled s.threads s.owned s.shared c.jobs c.holds is_same.related k p at_process job q jobs i (saved_holds job.inside n.monitor c.holds) released (kept job.inside n.monitor)
      at_thread js (held n) (same_doing ∙ doing) a.inside a.words (monitor_is n) a.stands

  told : (n : Next) (a : Action) (x : Ticked) → x.events ≡ record { tick = t; proc = k; act = (effect w.program script t k a (d n)).act } ∷ [] → may_act c a ≡ true
      → IsSame w r x.state (effect w.program script t k a (d n)).config → (effect w.program script t k a (d n)).config.tick ≡ t → (effect w.program script t k a (d n)).config.acted ≡ true → Passes n a x
  told n a x event may same tick_is acted = inr (record { event = event; may = may; after = record { same = same; tick_is = tick_is; acted = acted } })

  abbrev one_event : Act → List Event
  one_event a = record { tick = t; proc = k; act = a } ∷ []

  -- ---- acts that leave it where it is

  pub silent : (n : Next) (a : Action) (q : Own) → Stays w.image (r.stands k) o q (view_of c.holds j job.inside) → Passes n a (settle w.image t k p job s (Goes q))
  silent n a q stays_so = inl (
    refl,
    record {
      related = goes_on w r compiled s.threads s.owned s.shared c.jobs c.holds is_same.related k p at_process job q c.jobs j c.holds released (monitor_vars c.holds job.inside) at_thread (not_changed c.jobs k j at_job)
          (not_saved job.inside in_is) doing stays_so.inside stays_so.words refl stays_so.stands;
      queues = is_same.queues;
    },
  ) where
    not_saved : (x : Option ℕ) → inside_of (slice_get s.threads k) ≡ x → Saved x k c.holds c.holds
    not_saved None is = refl
    not_saved (Some m) is = let hold : (h : Hold) × (slice_get c.holds m ≡ Some h) × (h.occupant ≡ Some k) = is_same.related.inside k m is in (hold.0, not_changed c.holds m hold.0 hold.1, hold.2)

  answered : (n : Next) (v : ℤ) (q : Own) → Stays w.image (r.stands k) o q (view (given (Some v) n.calls) n.process (kept job.inside n.monitor) j.handling)
      → Related w r (slice_set s.threads k (Ready q.job)) (slice_set s.owned k q.owned) q.shared (changed (λ i. job_calls (given (Some v) i.calls) i) k (changed (save_job n) k c.jobs)) (saved_holds job.inside n.monitor c.holds)
  answered n v q a = stays n q (changed (λ i. job_calls (given (Some v) i.calls) i) k (changed (save_job n) k c.jobs)) (job_calls (given (Some v) n.calls) (save_job n j)) (job_again n (λ i. job_calls (given (Some v) i.calls) i)) refl a

  going : (n : Next) (q : Own) → Stays w.image (r.stands k) o q (view n.calls n.process (kept job.inside n.monitor) j.handling)
      → Related w r (slice_set s.threads k (Ready q.job)) (slice_set s.owned k q.owned) q.shared (changed (save_job n) k c.jobs) (saved_holds job.inside n.monitor c.holds)
  going n q a = stays n q (changed (save_job n) k c.jobs) (save_job n j) (saved_job n) refl a

  got : (n : Next) (e : ℕ) (x : ℤ) (q : Own) → slice_get s.devices e ≡ Some x → Stays w.image (r.stands k) o q (view (given (Some x) n.calls) n.process (kept job.inside n.monitor) j.handling)
      → Passes n (gets e) (settle w.image t k p job s (Does (act.Get e x) q))
  got n e x q at a =
      let value : device_value script t e ≡ x = devices e x at in
      told n (gets e) (settle w.image t k p job s (Does (act.Get e x) q)) (ap (λ (v : ℤ). one_event (act.Get e v)) (sym value)) refl
      (record {
        related = subst (λ (v : ℤ). Related w r (slice_set s.threads k (Ready q.job)) (slice_set s.owned k q.owned) q.shared (changed (λ i. job_calls (given (Some v) i.calls) i) k (changed (save_job n) k c.jobs)) (saved_holds job.inside n.monitor c.holds)) (sym value) (answered n x q a);
        queues = is_same.queues;
      }) refl refl

  asked : (n : Next) (e : ℕ) (b : Bool) (q : Own) (waiting_there : List ℕ) → slice_get s.queues e ≡ Some waiting_there → b ≡ is_none_waiting waiting_there
      → Stays w.image (r.stands k) o q (view (given (Some (of_bool b)) n.calls) n.process (kept job.inside n.monitor) j.handling)
      → Passes n (asks_empty e) (settle w.image t k p job s (Does (act.Empty e b) q))
  asked n e b q there at is a =
      told n (asks_empty e) (settle w.image t k p job s (Does (act.Empty e b) q)) (ap (λ (x : Bool). one_event (act.Empty e x)) (sym value)) refl
      (record {
        related = subst (λ (x : Bool). Related w r (slice_set s.threads k (Ready q.job)) (slice_set s.owned k q.owned) q.shared (changed (λ i. job_calls (given (Some (of_bool x)) i.calls) i) k (changed (save_job n) k c.jobs)) (saved_holds job.inside n.monitor c.holds)) (sym value)
            (answered n (of_bool b) q a);
        queues = is_same.queues;
      }) refl refl
    where
      none_is : (xs : List ℕ) → is_empty xs ≡ is_none_waiting xs
      none_is [] = refl
      none_is (x ∷ xs) = refl

      value : is_empty (unwrap_or (slice_get c.queues e) []) ≡ b
      value =
          ap (λ (qs : List (List ℕ)). is_empty (unwrap_or (slice_get qs e) [])) (sym is_same.queues)
          ∙ ap (λ (x : Option (List ℕ)). is_empty (unwrap_or x [])) at ∙ none_is there ∙ sym is

  -- ---- queues

  queue_same : (e : ℕ) → unwrap_or (slice_get c.queues e) [] ≡ queue_of s.queues e
  queue_same e = ap (λ (qs : List (List ℕ)). unwrap_or (slice_get qs e) []) (sym is_same.queues) ∙ queue_is s.queues e

  changed_same : (f : List ℕ → List ℕ) (e : ℕ) → slice_set s.queues e (f (queue_of s.queues e)) ≡ changed f e c.queues
  changed_same f e = sym (changed_queue f s.queues e) ∙ ap (λ (qs : List (List ℕ)). changed f e qs) is_same.queues

  stands_busy : (e i : ℕ) → 0 < times i (queue_of s.queues e) → IsBusy (slice_get s.threads i)
  stands_busy e i some = by (times i (queue_of s.queues e)) refl some where
    by : (x : ℕ) → times i (queue_of s.queues e) ≡ x → 0 < x → IsBusy (slice_get s.threads i)
    by zero is some_left = absurd (omega (arith, some_left))
    by (suc x) is some_left = busy_waits e x (slice_get s.threads i) (sym is ∙ queued e i)

  busy_after : (i : ℕ) (new : target.Job) → IsBusy (slice_get s.threads i) → IsBusy (slice_get (slice_set s.threads k (Ready new)) i)
  busy_after i new busy = elim (cases_eq k i) [
    | inl is ↦ subst (λ (x : ℕ). IsBusy (slice_get (slice_set s.threads k (Ready new)) x)) is (subst IsBusy (sym (get_set s.threads k (Ready new) (Ready job) at_thread)) tt)
    | inr differ ↦ subst IsBusy (sym (get_other s.threads k i (Ready new) differ)) busy
  ]

  signalled : (n : Next) (e : ℕ) (q : Own) → Stays w.image (r.stands k) o q (view n.calls n.process (kept job.inside n.monitor) j.handling) → Passes n (signals e) (settle w.image t k p job s (Signals e q))
  signalled n e q a = by (queue_of s.queues e) refl where
    mine : Related w r (slice_set s.threads k (Ready q.job)) (slice_set s.owned k q.owned) q.shared (changed (save_job n) k c.jobs) (saved_holds job.inside n.monitor c.holds)
    mine = going n q a

    after : List Thread → List (List ℕ) → State
    after threads queues = record { threads = threads; owned = slice_set s.owned k q.owned; shared = q.shared; queues = queues; devices = s.devices }

    by : (xs : List ℕ) → queue_of s.queues e ≡ xs → Passes n (signals e) (settle w.image t k p job s (Signals e q))
    by [] is =
        let source_is : unwrap_or (slice_get c.queues e) [] ≡ [] = queue_same e ∙ is in
        let same_queues : slice_set s.queues e [] ≡ c.queues = ap (λ (x : List ℕ). slice_set s.queues e x) (sym is) ∙ set_nothing s.queues e ∙ is_same.queues in
        inr (record {
          event = rw (is, source_is) refl;
          may = refl;
          after = rw (is, source_is) (record { same = record { related = mine; queues = same_queues }; tick_is = refl; acted = refl });
        })
    by (i ∷ xs) is =
        let source_is : unwrap_or (slice_get c.queues e) [] ≡ i ∷ xs = queue_same e ∙ is in
        let same_queues : slice_set s.queues e xs ≡ changed (λ x. xs) e c.queues = changed_same (λ x. xs) e in
        let busy : IsBusy (slice_get s.threads i) = stands_busy e i (subst (λ (x : List ℕ). 0 < times i x) (sym is) (front i xs)) in
        inr (record {
          event = rw (is, source_is) refl;
          may = refl;
          after = rw (is, source_is) (record {
            same = record {
              related = wake_one w r compiled (slice_set s.owned k q.owned) q.shared (saved_holds job.inside n.monitor c.holds) i (slice_set s.threads k (Ready q.job)) (changed (save_job n) k c.jobs) mine (busy_after i q.job busy);
              queues = same_queues;
            };
            tick_is = refl;
            acted = refl;
          });
        })

  broadcast : (n : Next) (e : ℕ) (q : Own) → Stays w.image (r.stands k) o q (view n.calls n.process (kept job.inside n.monitor) j.handling) → Passes n (broadcasts e) (settle w.image t k p job s (Broadcasts e q))
  broadcast n e q a =
      let source_is : unwrap_or (slice_get c.queues e) [] ≡ queue_of s.queues e = queue_same e in
      let mine : Related w r (slice_set s.threads k (Ready q.job)) (slice_set s.owned k q.owned) q.shared (changed (save_job n) k c.jobs) (saved_holds job.inside n.monitor c.holds) = going n q a in
      inr (record {
        event = rw source_is refl;
        may = refl;
        after = rw source_is (record {
          same = record {
            related = wake_whole w r compiled (slice_set s.owned k q.owned) q.shared (saved_holds job.inside n.monitor c.holds) (queue_of s.queues e) (slice_set s.threads k (Ready q.job)) (changed (save_job n) k c.jobs) mine
                (λ i stands. busy_after i q.job (stands_busy e i stands));
            queues = changed_same (λ x. []) e;
          };
          tick_is = refl;
          acted = refl;
        });
      })

  put : (n : Next) (e : ℕ) (x : ℤ) (q : Own) → Stays w.image (r.stands k) o q (view n.calls n.process (kept job.inside n.monitor) j.handling) → Passes n (puts e x) (settle w.image t k p job s (Does (act.Put e x) q))
  put n e x q a = told n (puts e x) (settle w.image t k p job s (Does (act.Put e x) q)) refl refl (record { related = going n q a; queues = is_same.queues }) refl refl

  -- ---- monitors

  inside_d : (n : Next) → inside (d n) k ≡ job.inside
  inside_d n = inside_saved job.inside k n.monitor c.holds ∙ inside_is w r compiled s.threads s.owned s.shared c.jobs c.holds k is_same.related ∙ in_is

  abbrev with_holds_of : Next → List Hold → Config
  with_holds_of n holds = record { tick = t; acted = true; jobs = changed (save_job n) k c.jobs; holds = holds; queues = c.queues }

  abbrev holds_left : ℕ → Next → List Hold
  holds_left m n = changed (occupied None) m (changed (saving n.monitor) m c.holds)

  left_none : (n : Next) → job.inside ≡ None → leave (d n) k ≡ with_holds_of n c.holds
  left_none n is = ap (λ (x : Option ℕ). vacate x (d n)) (inside_d n ∙ is) ∙ ap (λ (x : Option ℕ). with_holds_of n (saved_holds x n.monitor c.holds)) is

  left_some : (n : Next) (m : ℕ) → job.inside ≡ Some m → leave (d n) k ≡ with_holds_of n (holds_left m n)
  left_some n m is = ap (λ (x : Option ℕ). vacate x (d n)) (inside_d n ∙ is) ∙ ap (λ (x : Option ℕ). with_holds_of n (changed (occupied None) m (saved_holds x n.monitor c.holds))) is

  left_it : (n : Next) (l : ℕ) (q : Own) → Leaves of_compiled (r.stands k) r.free o q l n j.handling → Passes n (leaves l) (settle w.image t k p job s (Does (act.Leave l) q))
  left_it n l q a = inr (record {
    event = refl;
    may = refl;
    after = rw (left_some n l a.inside) (record {
      same = record {
        related = leaves_it w r compiled s.threads s.owned s.shared c.jobs c.holds is_same.related k p at_process l (Ready job) (Ready q.job) (slice_set s.owned k q.owned) q.owned q.shared (changed (save_job n) k c.jobs) (save_job n j) n.monitor
            at_thread a.inside a.outside (words_of w r compiled s.threads s.owned s.shared c.jobs c.holds is_same.related k p at_process q.owned) (saved_job n) a.words a.free (
              released,
              doing,
              subst (λ (x : Option ℕ). r.stands k q (view n.calls n.process (monitor_vars (holds_left l n) x) j.handling)) (sym a.outside) a.stands,
            );
        queues = is_same.queues;
      };
      tick_is = refl;
      acted = refl;
    });
  })

  entered : (n : Next) (l : ℕ) (q : Own) → target.is_free l s.threads ≡ true → Enters of_compiled (r.stands k) r.free o q l n j.handling → Passes n (enters l) (settle w.image t k p job s (Does (act.Enter l) q))
  entered n l q free a =
      let hold : (h : Hold) × (slice_get c.holds l ≡ Some h) = some_at c.holds l (omega (arith, slice_get_within w.image.monitors l a.monitor a.there, is_same.related.many_holds)) in
      let nobody : hold.0.occupant ≡ None = nobody_inside w r compiled s.threads s.owned s.shared c.jobs c.holds is_same.related k p at_process l hold.0 free hold.1 in
      let holds : List Hold = changed (occupied (Some k)) l c.holds in
      let at_hold : Changed c.holds holds l (occupied (Some k) hold.0) = changed_changes (occupied (Some k)) c.holds l hold.0 hold.1 in
      let stands : r.stands k q (view n.calls n.process hold.0.vars j.handling) = a.stands hold.0.vars (is_same.related.free l hold.0 hold.1 nobody) in
      let inside_vars : monitor_vars holds q.job.inside ≡ hold.0.vars = ap (λ (x : Option ℕ). monitor_vars holds x) a.inside ∙ ap (λ (x : Option Hold). hold_vars x) at_hold.here in
      inr (record {
        event = refl;
        may = ap (λ (x : Option Hold). hold_free x) hold.1 ∙ ap (λ (x : Option ℕ). hold_free (Some (record { vars = hold.0.vars; occupant = x }))) nobody;
        after = record {
          same = record {
            related = subst (λ (hs : List Hold). Related w r (slice_set s.threads k (Ready q.job)) (slice_set s.owned k q.owned) q.shared (changed (save_job n) k c.jobs) (changed (occupied (Some k)) l hs)) (ap (λ (x : Option ℕ). saved_holds x n.monitor c.holds) (sym a.outside))
                (subst (λ (ws : List ℤ). Related w r (slice_set s.threads k (Ready q.job)) (slice_set s.owned k q.owned) ws (changed (save_job n) k c.jobs) holds) (sym a.words)
                (enters_it w r compiled s.threads s.owned s.shared c.jobs c.holds is_same.related k p at_process l (Ready job) (Ready q.job) q.owned (changed (save_job n) k c.jobs) (save_job n j) at_thread a.outside a.inside (saved_job n)
                hold.0 hold.1 nobody (λ text' at_text'. (let one : text ≡ text' = one_some at_text at_text' in subst (λ (x : tree.Process). includes l (monitors_of w.program x) ≡ true) one a.reached)) (
                  released,
                  doing,
                  subst (λ (vs : Vars). r.stands k (own q.job q.owned s.shared) (view n.calls n.process vs j.handling)) (sym inside_vars) (subst (λ (ws : List ℤ). r.stands k (own q.job q.owned ws) (view n.calls n.process hold.0.vars j.handling)) a.words stands),
                )));
            queues = is_same.queues;
          };
          tick_is = refl;
          acted = refl;
        };
      })

  waited : (n : Next) (e l f : ℕ) (q : Own) → Pauses of_compiled (r.stands k) r.free o q f n j.handling → Passes n (waits e l f) (settle w.image t k p job s (Waits e l f q))
  waited n e l f q a =
      let f_of : Job → Job = λ i. job_doing (waiting (released_of i.doing) e t l f) i in
      inr (record {
        event = refl;
        may = refl;
        after = rw (left_some n a.monitor a.leaves.inside) (record {
          same = record {
            related = leaves_it w r compiled s.threads s.owned s.shared c.jobs c.holds is_same.related k p at_process a.monitor (Ready job) (Waiting e (t + l + 1) f q.job) (slice_set s.owned k q.owned) q.owned q.shared
                (changed f_of k (changed (save_job n) k c.jobs)) (f_of (save_job n j)) n.monitor
                at_thread a.leaves.inside a.leaves.outside (words_of w r compiled s.threads s.owned s.shared c.jobs c.holds is_same.related k p at_process q.owned) (job_again n f_of) a.leaves.words a.leaves.free (record {
                  released = released;
                  since = t;
                  limit = l;
                  doing = ap (λ (x : Doing). waiting (released_of x) e t l f) doing;
                  due_at = refl;
                  outside = a.leaves.outside;
                  stands = a.leaves.stands;
                  late = λ p' text' at_p' at_text'. (let one : p ≡ p' = one_some at_process at_p' in let same_text : text ≡ text' = one_some at_text at_text' in
                      subst (λ (x : Process). r.stands k (own (raised x f q.job) q.owned q.shared) (view_raised w.program text' f n.process j.handling)) one
                      (subst (λ (x : tree.Process). r.stands k (own (raised p f q.job) q.owned q.shared) (view_raised w.program x f n.process j.handling)) same_text a.late));
                });
            queues = changed_same (λ x. x ++ k ∷ []) e;
          };
          tick_is = refl;
          acted = refl;
        });
      })

  -- ---- raises and ends

  words_there : Changed s.owned s.owned k words
  words_there =
      let old : (x : List ℤ) × (slice_get s.owned k ≡ Some x) = some_at s.owned k (omega (arith, slice_get_within w.image.processes k p at_process, is_same.related.many_owned)) in
      subst (λ (x : Option (List ℤ)). Changed s.owned s.owned k (owned_of x)) (sym old.1) (not_changed s.owned k old.0 old.1)

  abbrev raised_jobs : ℕ → Next → List Job
  raised_jobs e n = changed (λ (i : Job). job_after_raise w.program e text.handler i) k (changed (save_job n) k c.jobs)

  raised_same : (n : Next) (e : ℕ) (holds : List Hold) → Fails of_compiled (r.stands k) r.free o e n j.handling
      → Same w r k holds words s.shared (Some (Ready (raised p e job))) (Some (job_after_raise w.program e text.handler (save_job n j)))
  raised_same n e holds a =
      let is : AfterRaise w.program e text.handler (save_job n j) = after_raise_is w.program e text.handler (save_job n j) in (
        released,
        is.doing ∙ ap (λ (x : Doing). active (released_of x)) doing,
        subst (λ (cs : List Call). r.stands k (own (raised p e job) words s.shared) (view cs (job_after_raise w.program e text.handler (save_job n j)).vars [] (job_after_raise w.program e text.handler (save_job n j)).handling)) (sym is.calls)
            (subst (λ (vs : Vars). r.stands k (own (raised p e job) words s.shared) (view (job_raised w.program text e n.process j.handling).calls vs [] (job_after_raise w.program e text.handler (save_job n j)).handling)) (sym is.vars)
            (subst (λ (b : Bool). r.stands k (own (raised p e job) words s.shared) (view (job_raised w.program text e n.process j.handling).calls n.process [] b)) (sym is.handling) a.stands)),
      )

  raised_jobs_are : (n : Next) (e : ℕ) → Changed c.jobs (raised_jobs e n) k (job_after_raise w.program e text.handler (save_job n j))
  raised_jobs_are n e = job_again n (λ (i : Job). job_after_raise w.program e text.handler i)

  raised_it : (n : Next) (e : ℕ) → Fails of_compiled (r.stands k) r.free o e n j.handling → Passes n (raises e) (settle w.image t k p job s (Raises e))
  raised_it n e a = by job.inside refl where
    by : (x : Option ℕ) → job.inside ≡ x → Passes n (raises e) (settle w.image t k p job s (Raises e))
    by None is = inr (record {
      event = refl;
      may = refl;
      after = rw (left_none n is, at_text) (record {
        same = record {
          related = outside_it w r compiled s.threads s.owned s.shared c.jobs c.holds is_same.related k p at_process (Ready job) (Ready (raised p e job)) s.owned words s.shared (raised_jobs e n) (job_after_raise w.program e text.handler (save_job n j))
              at_thread is refl words_there (raised_jobs_are n e) (λ v same. refl) (raised_same n e c.holds a);
          queues = is_same.queues;
        };
        tick_is = refl;
        acted = refl;
      });
    })
    by (Some m) is = inr (record {
      event = refl;
      may = refl;
      after = rw (left_some n m is, at_text) (record {
        same = record {
          related = leaves_it w r compiled s.threads s.owned s.shared c.jobs c.holds is_same.related k p at_process m (Ready job) (Ready (raised p e job)) s.owned words s.shared (raised_jobs e n) (job_after_raise w.program e text.handler (save_job n j)) n.monitor
              at_thread is refl words_there (raised_jobs_are n e) (λ v same. refl) (a.free m is) (raised_same n e (holds_left m n) a);
          queues = is_same.queues;
        };
        tick_is = refl;
        acted = refl;
      });
    })

  ended : (n : Next) → Finishes (r.rests k) o n → Passes n ends (settle w.image t k p job s Ends)
  ended n a = inr (record {
    event = refl;
    may = refl;
    after = record {
      same = record {
        related = rw a.outside
            (outside_it w r compiled s.threads s.owned s.shared c.jobs c.holds is_same.related k p at_process (Ready job) Idle s.owned words s.shared (changed (job_doing idle) k (changed (save_job n) k c.jobs)) (job_doing idle (save_job n j))
            at_thread a.outside refl words_there (job_again n (job_doing idle)) (λ v same. refl) (refl, a.rests));
        queues = is_same.queues;
      };
      tick_is = refl;
      acted = refl;
    };
  })

  -- ---- any of them

  abbrev v : View
  v = view_of c.holds j job.inside

  pub ran : (n : Next) (a : Action) (out : Outcome) → Agrees of_compiled (r.stands k) r.free (r.rests k) s o v n a out → (settle w.image t k p job s out).stuck ≡ false → Passes n a (settle w.image t k p job s out)
  ran n a (Goes q) h free = silent n a q h
  ran n (gets e) (Does (act.Get l x) q) h free = subst (λ (y : ℕ). Passes n (gets y) (settle w.image t k p job s (Does (act.Get l x) q))) h.0 (got n l x q h.1 h.2)
  ran n (puts e y) (Does (act.Put l x) q) h free =
      subst (λ (z : ℕ). Passes n (puts z y) (settle w.image t k p job s (Does (act.Put l x) q))) h.0 (subst (λ (z : ℤ). Passes n (puts l z) (settle w.image t k p job s (Does (act.Put l x) q))) h.1 (put n l x q h.2))
  ran n (enters e) (Does (act.Enter l) q) h free = subst (λ (y : ℕ). Passes n (enters y) (settle w.image t k p job s (Does (act.Enter l) q))) h.0 (entered n l q h.1 h.2)
  ran n (leaves e) (Does (act.Leave l) q) h free = subst (λ (y : ℕ). Passes n (leaves y) (settle w.image t k p job s (Does (act.Leave l) q))) h.0 (left_it n l q h.1)
  ran n (asks_empty e) (Does (act.Empty l b) q) h free = subst (λ (y : ℕ). Passes n (asks_empty y) (settle w.image t k p job s (Does (act.Empty l b) q))) h.0 (asked n l b q h.1 h.2 h.3 h.4)
  ran n (signals e) (Signals l q) h free = subst (λ (y : ℕ). Passes n (signals y) (settle w.image t k p job s (Signals l q))) h.0 (signalled n l q h.1)
  ran n (broadcasts e) (Broadcasts l q) h free = subst (λ (y : ℕ). Passes n (broadcasts y) (settle w.image t k p job s (Broadcasts l q))) h.0 (broadcast n l q h.1)
  ran n (waits e limit number) (Waits l m f q) h free =
      subst (λ (y : ℕ). Passes n (waits y limit number) (settle w.image t k p job s (Waits l m f q))) h.0
      (subst (λ (y : ℕ). Passes n (waits l y number) (settle w.image t k p job s (Waits l m f q))) h.1
      (subst (λ (y : ℕ). Passes n (waits l m y) (settle w.image t k p job s (Waits l m f q))) h.2 (waited n l m f q h.3)))
  ran n (raises e) (Raises l) h free = subst (λ (y : ℕ). Passes n (raises y) (settle w.image t k p job s (Raises l))) h.0 (raised_it n l h.1)
  ran n ends Ends h free = ended n h
  ran n a Stuck h free = absurd cc
  ran n a out h free = absurd h
