-- A step keeps how many processes, monitors and queues there are.
use Rattle.std.specs.Prelude.{◌≡◌, ◌≤◌, ◌<◌, ◌^◌, IfOk, OnErr, Result, Ok, Err, ℕ, zero, suc, Bool, true, false, List, [], ◌∷◌, ◌++◌, Option, Some, None, length, slice_get}
use Rattle.std.proofs.Common.{refl, sym, ◌∙◌, ap, inl, inr, subst, arith}
use Rattle.base.specs.declared.event.Event.{Event}
use Rattle.base.specs.declared.event.Act.{Act}
use Rattle.base.specs.declared.event.Act.TheVariants as act
use Rattle.syntax_tree.specs.Plain.{Process, Program}
use Rattle.source_semantics.specs.Names.{processes}
use Rattle.source_semantics.specs.Config.{Config, Hold, Job, at_tick, changed, inside, job_doing, leave, queue, released_of, vacate, waiting, wake_all, with_holds, with_jobs, with_queues, woken}
use Rattle.source_semantics.specs.Next.{Next}
use Rattle.source_semantics.specs.Run.{Action, gets, puts, enters, leaves, waits, signals, broadcasts, asks_empty, raises, ends}
use Rattle.source_semantics.specs.Source.{Step, acts, after_raise, after_start, effect, job_after_raise, job_next, on_job, on_text, released, save_hold, save_job, saved, signalled, start_effect, without}
use Rattle.source_semantics.specs.Starts.{Script}
use Rattle.replay_state.specs.Tables.{Fits}
use Rattle.replay_due_events.specs.Accepts.{Accepts}

-- the tick is the same, and there are as many of each
pub record IsLike (c d : Config) : Type 0 where
  pub tick : d.tick ≡ c.tick
  pub jobs : length d.jobs ≡ length c.jobs
  pub holds : length d.holds ≡ length c.holds
  pub queues : length d.queues ≡ length c.queues

like_itself : (c : Config) → IsLike c c
like_itself c = record { tick = refl; jobs = refl; holds = refl; queues = refl }

like_then : (b c d : Config) → IsLike b c → IsLike c d → IsLike b d
like_then b c d p q = record { tick = q.tick ∙ p.tick; jobs = q.jobs ∙ p.jobs; holds = q.holds ∙ p.holds; queues = q.queues ∙ p.queues }

changed_length : {A : Type 0} (f : A → A) (k : ℕ) (xs : List A) → length (changed f k xs) ≡ length xs
changed_length f k [] = refl
changed_length f zero (x ∷ xs) = refl
changed_length f (suc k) (x ∷ xs) = ap suc (changed_length f k xs)

woken_length : (ks : List ℕ) (js : List Job) → length (wake_all ks js) ≡ length js
woken_length [] js = refl
woken_length (k ∷ ks) js = woken_length ks (changed woken k js) ∙ changed_length woken k js

like_jobs : (c : Config) (js : List Job) → length js ≡ length c.jobs → IsLike c (with_jobs c js)
like_jobs c js e = record { tick = refl; jobs = e; holds = refl; queues = refl }

like_holds : (c : Config) (hs : List Hold) → length hs ≡ length c.holds → IsLike c (with_holds c hs)
like_holds c hs e = record { tick = refl; jobs = refl; holds = e; queues = refl }

like_queues : (c : Config) (qs : List (List ℕ)) → length qs ≡ length c.queues → IsLike c (with_queues c qs)
like_queues c qs e = record { tick = refl; jobs = refl; holds = refl; queues = e }

like_changed : (f : Job → Job) (k : ℕ) (c : Config) → IsLike c (with_jobs c (changed f k c.jobs))
like_changed f k c = like_jobs c (changed f k c.jobs) (changed_length f k c.jobs)

like_queued : (f : List ℕ → List ℕ) (x : ℕ) (c d : Config) → IsLike c d → d.queues ≡ c.queues → IsLike c (with_queues d (changed f x c.queues))
like_queued f x c d p e = like_then c d (with_queues d (changed f x c.queues)) p (like_queues d (changed f x c.queues) (changed_length f x c.queues ∙ ap length (sym e)))

like_left : (c : Config) (k : ℕ) → IsLike c (leave c k)
like_left c k = by_case (inside c k)
  where
    by_case : (o : Option ℕ) → IsLike c (vacate o c)
    by_case None = like_itself c
    by_case (Some m) = like_holds c _ (changed_length _ m c.holds)

like_on_job : (f : Process → Job → Job) (g : Program) (k : ℕ) (c : Config) → IsLike c (on_job f g k c)
like_on_job f g k c = by_case (slice_get (processes g) k)
  where
    by_case : (o : Option Process) → IsLike c (on_text f o k c)
    by_case None = like_itself c
    by_case (Some p) = like_changed (f p) k c

like_raised : (g : Program) (k n : ℕ) (c : Config) → IsLike c (after_raise g k n c)
like_raised g k n c = like_then c (leave c k) (after_raise g k n c) (like_left c k) (like_on_job (λ p j. job_after_raise g n p.handler j) g k (leave c k))

like_saved : (c : Config) (k : ℕ) (n : Next) → IsLike c (saved c k n)
like_saved c k n = like_then c d (saved c k n) (like_changed (save_job n) k c) (by_case (inside c k))
  where
    d : Config
    d = with_jobs c (changed (save_job n) k c.jobs)

    by_case : (o : Option ℕ) → IsLike d (save_hold o n.monitor d)
    by_case None = like_itself d
    by_case (Some m) = like_holds d _ (changed_length _ m d.holds)

like_signalled : (x : ℕ) (c : Config) → IsLike c (signalled x (queue c x) c).config
like_signalled x c = by_case (queue c x)
  where
    by_case : (l : List ℕ) → IsLike c (signalled x l c).config
    by_case [] = like_itself c
    by_case (k ∷ ks) = like_queued (λ q. ks) x c (with_jobs c (changed woken k c.jobs)) (like_changed woken k c) refl

like_after_leave : (f : Job → Job) (k : ℕ) (c : Config) → IsLike c (with_jobs (leave c k) (changed f k c.jobs))
like_after_leave f k c = by_case (inside c k)
  where
    by_case : (o : Option ℕ) → IsLike c (with_jobs (vacate o c) (changed f k c.jobs))
    by_case None = like_changed f k c
    by_case (Some m) = record { tick = refl; jobs = changed_length f k c.jobs; holds = changed_length _ m c.holds; queues = refl }

leave_queues : (c : Config) (k : ℕ) → (leave c k).queues ≡ c.queues
leave_queues c k = by_case (inside c k)
  where
    by_case : (o : Option ℕ) → (vacate o c).queues ≡ c.queues
    by_case None = refl
    by_case (Some m) = refl

like_effect : (g : Program) (s : Script) (t k : ℕ) (a : Action) (c : Config) → IsLike c (effect g s t k a c).config
like_effect g s t k (gets d) c = like_changed _ k c
like_effect g s t k (puts d v) c = like_itself c
like_effect g s t k (enters m) c = like_holds c _ (changed_length _ m c.holds)
like_effect g s t k (leaves m) c = like_left c k
like_effect g s t k (waits x limit n) c =
    let wait = λ (j : Job). job_doing (waiting (released_of j.doing) x t limit n) j in
    like_queued (λ q. q ++ k ∷ []) x c (with_jobs (leave c k) (changed wait k c.jobs)) (like_after_leave wait k c) (leave_queues c k)
like_effect g s t k (signals x) c = like_signalled x c
like_effect g s t k (broadcasts x) c =
    like_queued (λ q. []) x c (with_jobs c (wake_all (queue c x) c.jobs)) (like_jobs c _ (woken_length (queue c x) c.jobs)) refl
like_effect g s t k (asks_empty x) c = like_changed _ k c
like_effect g s t k (raises n) c = like_raised g k n c
like_effect g s t k ends c = like_changed _ k c

like_started : (g : Program) (t k : ℕ) (a : Act) (c : Config) → IsLike c (start_effect g t k a c)
like_started g t k act.Release c = like_on_job (λ p j. released t p j) g k c
like_started g t k (act.TimeOut x n) c =
    like_then c (with_queues c (changed (without k) x c.queues)) (start_effect g t k (act.TimeOut x n) c) (like_queues c _ (changed_length _ x c.queues)) (like_raised g k n (with_queues c (changed (without k) x c.queues)))
like_started g t k (act.Get d v) c = like_itself c
like_started g t k (act.Put d v) c = like_itself c
like_started g t k (act.Enter m) c = like_itself c
like_started g t k (act.Leave m) c = like_itself c
like_started g t k (act.Wait x) c = like_itself c
like_started g t k (act.Signal x w) c = like_itself c
like_started g t k (act.Broadcast x n) c = like_itself c
like_started g t k (act.Empty x b) c = like_itself c
like_started g t k (act.Raise n) c = like_itself c
like_started g t k act.End c = like_itself c

like_acted : (g : Program) (s : Script) (c : Config) (t k : ℕ) (n : Next) → IsLike (at_tick c t true) (acts g s c t k n).config
like_acted g s c t k n =
    like_then (at_tick c t true) (saved (at_tick c t true) k n) (acts g s c t k n).config (like_saved (at_tick c t true) k n)
    (like_effect g s t k n.action (saved (at_tick c t true) k n))

-- a configuration of the program once more, at this tick
pub record FitsAt (g : Program) (t : ℕ) (c : Config) : Type 0 where
  pub fits : Fits g c
  pub tick : c.tick ≡ t

fits_like : (g : Program) (b c : Config) → Fits g b → IsLike b c → FitsAt g b.tick c
fits_like g b c f p = record {
  fits = record { jobs = p.jobs ∙ f.jobs; holds = p.holds ∙ f.holds; queues = p.queues ∙ f.queues };
  tick = p.tick;
}

fits_at : (g : Program) (c : Config) (t : ℕ) (b : Bool) → Fits g c → Fits g (at_tick c t b)
fits_at g c t b f = record { jobs = f.jobs; holds = f.holds; queues = f.queues }

pub step_fits : (g : Program) (s : Script) (c : Config) (e : Event) (new : Config) → Step g s c e new → Fits g c → FitsAt g e.tick new
step_fits g s c e new step f = elim step.comes [
  | inl starts ↦ subst (FitsAt g e.tick) (sym starts.after) (fits_like g (at_tick c e.tick false) (after_start g c e) (fits_at g c e.tick false f) (like_started g e.tick e.proc e.act (at_tick c e.tick false)))
  | inr does ↦
      subst (FitsAt g e.tick) (sym does.after)
      (fits_like g (at_tick c e.tick true) (acts g s c e.tick e.proc (job_next c e.proc does.process does.job g)).config (fits_at g c e.tick true f)
      (like_acted g s c e.tick e.proc (job_next c e.proc does.process does.job g)))
]

-- what is kept from event to event
pub record Goes (g : Program) (c : Config) : Type 0 where
  pub fits : Fits g c
  pub tick : c.tick < 2 ^ 61

pub goes_on : (g : Program) (s : Script) (c : Config) (e : Event) (b : Bool) (new : Config) → Accepts g s c e b new → Goes g c → s.end_tick < 2 ^ 61 → Goes g new
goes_on g s c e true new step k end =
    let at : FitsAt g e.tick new = step_fits g s c e new step k.fits in
    record { fits = at.fits; tick = omega (arith, at.tick, step.before_end, end) }
goes_on g s c e false new w k end = subst (Goes g) (sym w.1) k

-- the tick does not fall, also where memory was wanting
pub later_with : {E : Type 0} (g : Program) (s : Script) (c : Config) (e : Event) (r : Result Bool E) (new : Config) → IfOk r (λ b. Accepts g s c e b new) → OnErr r (new ≡ c) → Fits g c → c.tick ≤ new.tick
later_with g s c e (Ok true) new accepts same f =
    let at : FitsAt g e.tick new = step_fits g s c e new accepts f in
    omega (arith, at.tick, accepts.reached)
later_with g s c e (Ok false) new accepts same f = let is : new.tick ≡ c.tick = ap (λ (d : Config). d.tick) accepts.1 in omega (arith, is)
later_with g s c e (Err x) new accepts same f = let is : new.tick ≡ c.tick = ap (λ (d : Config). d.tick) same in omega (arith, is)

-- also where memory was wanting
pub goes_with : {E : Type 0} (g : Program) (s : Script) (c : Config) (e : Event) (r : Result Bool E) (new : Config) → IfOk r (λ b. Accepts g s c e b new) → OnErr r (new ≡ c) → Goes g c → s.end_tick < 2 ^ 61
    → Goes g new
goes_with g s c e (Ok b) new accepts same k end = goes_on g s c e b new accepts k end
goes_with g s c e (Err x) new accepts same k end = subst (Goes g) (sym same) k
