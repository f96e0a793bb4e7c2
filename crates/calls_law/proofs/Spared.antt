-- Each level of the tasks with more ticks has a bound, that of a process being the printed one; so
-- the theorem of abstract runs gives it.
use Rattle.std.proofs.Common.{◌≡◌, ◌≤◌, ◌<◌, ◌+◌, ◌-◌, ◌⊎◌, inl, inr, ℕ, Bool, true, false, List, length, Some, None, refl, sym, ap, subst, arith}
use Rattle.std.specs.Prelude.{slice_get, cond, nat_eq}
use Rattle.std.proofs.lemmas.Bool.{cases_lt, eqb-true, eq-eqb}
use Rattle.std.proofs.lemmas.List.{get_or-set_same}
use Rattle.std.proofs.lemmas.List.Elements.{All-get_or, All-set}
use Rattle.machine_semantics.specs.Image.{Process}
use Rattle.image.specs.Named.{NamedImage}
use Rattle.sched_response.specs.declared.tasks.Task.{Task}
use Rattle.sched_response.specs.Demand.{task_at, deadline_at, AreTasks, IsTask, Solves}
use Rattle.sched_sensitivity.specs.Slack.{with_more, IsTimely}
use Rattle.sched_sensitivity.proofs.Lighter.{nobody, run_within}
use Rattle.sched_sensitivity.proofs.More.{length_more}
use Rattle.sched_theorem.specs.Stretches.{Trace}
use Rattle.sched_theorem.specs.Ranked.{EndsWithin}
use Rattle.sched_theorem.specs.Dispatched.{Dispatch, IsDispatched}
use Rattle.sched_theorem.specs.Limited.{AreLimited}
use Rattle.sched_theorem.specs.InTime.{AreBounds, IsInTime}
use Rattle.valid_image.specs.Tasks.{process_at, tasks_of}
use Rattle.valid_image.specs.Times.{rank_fault}
use Rattle.valid_image.specs.Valid.{HasLimits, IsValid, Ranks}
use Rattle.valid_image_law.proofs.Ranking.{ranked}
use Rattle.loader.proofs.InOrder.{are_tasks, tasks_long}
use Rattle.built_valid_law.specs.Ready.{BuiltImagesAreReady}
use Rattle.command_due.specs.CommandsDue.{Outcome, faulty, late}
use Rattle.command_due.specs.Lines.{IsSlackLine, IsSlackText, name_at}
use Rattle.command_due.specs.SpareDue.{slack_refused, slack_told}
use Rattle.calls_law.specs.Spared.{IsSpared, AreSpared, SpareTicksHold, SlackHolds}

abbrev RunsAreInTime : Type 0
RunsAreInTime = (ts : List Task) (bounds : ℕ → ℕ) (end : ℕ) (t : Trace) (d : Dispatch) → AreLimited ts → AreBounds ts bounds → IsDispatched ts end t d → IsInTime ts bounds end t

-- a run that fits is no longer than the greatest deadline
more-within : (ts : List Task) (level extra : ℕ) → level < length ts → AreTasks ts → IsTimely (with_more ts level extra) → (task_at ts level).run + extra ≤ 1000000001
more-within ts level extra below sound timely =
    let at : task_at (with_more ts level extra) level ≡ record (task_at ts level) { run = (task_at ts level).run + extra } =
    get_or-set_same ts level (record (task_at ts level) { run = (task_at ts level).run + extra }) nobody below in
    let due : deadline_at (with_more ts level extra) level ≡ deadline_at ts level = ap (λ (t : Task). t.deadline) at in
    let run : (task_at (with_more ts level extra) level).run ≡ (task_at ts level).run + extra = ap (λ (t : Task). t.run) at in
    let own : IsTask (task_at ts level) = All-get_or IsTask ts level nobody below sound.each in
    let solved = timely level (omega (arith, below, length_more ts level extra)) in
    let held = run_within (with_more ts level extra) level solved.0 (omega (arith, due, own.deadline_high, own.frame_high)) solved.1 in
    omega (arith, run, held, solved.1.within, due, own.deadline_high, own.frame_high)

-- the tasks with more ticks are in their limits
limited : (ts : List Task) (level extra : ℕ) → level < length ts → AreTasks ts → IsTimely (with_more ts level extra) → AreLimited (with_more ts level extra)
limited ts level extra below sound timely =
    let own : IsTask (task_at ts level) = All-get_or IsTask ts level nobody below sound.each in
    let run : (task_at ts level).run + extra ≤ 1000000001 = more-within ts level extra below sound timely in
    All-set IsTask ts level (record (task_at ts level) { run = (task_at ts level).run + extra })
    (record {
      frame_low = own.frame_low;
      frame_high = own.frame_high;
      deadline_low = own.deadline_low;
      deadline_high = own.deadline_high;
      run = run;
      susp = own.susp;
      waits = own.waits;
      block = own.block;
    })
    sound.each

-- a bound of each level, of which one is this
module _ (ts : List Task) (timely : IsTimely ts) (own bound : ℕ) (solves : Solves ts own bound) where
  abbrev known_at : (level : ℕ) → (level < length ts) ⊎ (length ts ≤ level) → ℕ
  known_at level (inl below) = (timely level below).0
  known_at level (inr past) = 0

  known-solves : (level : ℕ) → level < length ts → (c : (level < length ts) ⊎ (length ts ≤ level)) → Solves ts level (known_at level c)
  known-solves level below (inl low) = (timely level low).1
  known-solves level below (inr past) = absurd (omega (arith, below, past))

  abbrev bound_of : ℕ → ℕ
  bound_of level = cond (nat_eq level own) bound (known_at level (cases_lt level (length ts)))

  own-bound : bound_of own ≡ bound
  own-bound = ap (λ (c : Bool). cond c bound (known_at own (cases_lt own (length ts)))) (eq-eqb own own refl)

  are-bounds : AreBounds ts bound_of
  are-bounds level below = by (nat_eq level own) refl
    where
      by : (c : Bool) → nat_eq level own ≡ c → Solves ts level (bound_of level)
      by true e = subst (λ (l : ℕ). Solves ts l (bound_of l)) (sym (eqb-true level own e)) (subst (λ (b : ℕ). Solves ts own b) (sym own-bound) solves)
      by false e = subst (λ (c : Bool). Solves ts level (cond c bound (known_at level (cases_lt level (length ts))))) (sym e) (known-solves level below (cases_lt level (length ts)))

module _ (runs : RunsAreInTime) (n : NamedImage) (limits : HasLimits n.image) (valid : IsValid n.image) where
  abbrev ts : List Task
  ts = tasks_of n.image

  none : rank_fault n.image ≡ None
  none = valid Ranks

  sound : AreTasks ts
  sound = are_tasks n.image limits none

  level-within : (k : ℕ) (p : Process) → slice_get n.image.processes k ≡ Some p → p.rank - 1 < length ts
  level-within k p at = let r = ranked n.image none k p at in omega (arith, r.0, r.1, tasks_long n.image 0 (length n.image.processes))

  line-spared : (number : ℕ) (p : Process) (line : List ℕ) → slice_get n.image.processes number ≡ Some p → IsSlackLine n number p line → IsSpared n number p line
  line-spared number p line at l =
      let level = p.rank - 1 in
      let extra = l.spare.extra in
      let more = with_more ts level extra in
      let timely : IsTimely more = l.can.extra.fits in
      let below : level < length ts = level-within number p at in
      record {
        extra = extra;
        bounds = l.bounds;
        failing = name_at n (process_at n.image l.spare.fails);
        is = l.is;
        one_each = l.least.one_each;
        runs = λ end t d dispatched k q bound tick there told_of soon released.
            let solves : Solves more (q.rank - 1) bound = (l.least.each k q bound there told_of).solves in
            let own : bound_of more timely (q.rank - 1) bound solves (q.rank - 1) ≡ bound = own-bound more timely (q.rank - 1) bound solves in
            let in_time = runs more (bound_of more timely (q.rank - 1) bound solves) end t d (limited ts level extra below sound timely) (are-bounds more timely (q.rank - 1) bound solves) dispatched in
            let low : q.rank - 1 < length more = omega (arith, level-within k q there, length_more ts level extra) in
            subst (λ b. EndsWithin t (q.rank - 1) tick b) own
            (in_time.ends tick (q.rank - 1) low (omega (arith, own, soon)) released);
      }

  text-spared : (text : List ℕ) → IsSlackText n text → AreSpared n text
  text-spared text s = record { lines = s.lines; one_each = s.one_each; each = λ k p line at there. line-spared k p line at (s.each k p line at there); is = s.is }

pub spare-ticks-hold : RunsAreInTime → SpareTicksHold
spare-ticks-hold runs n text limits valid = text-spared runs n limits valid text

pub slack-holds : BuiltImagesAreReady → SpareTicksHold → SlackHolds
slack-holds ready hold over text lines (slack_refused (faulty number place fault same)) = let two : 0 ≡ 2 = ap (λ (x : Outcome). x.status) same in absurd (omega (arith, two))
slack-holds ready hold over text lines (slack_refused (late report l same)) = let three : 0 ≡ 3 = ap (λ (x : Outcome). x.status) same in absurd (omega (arith, three))
slack-holds ready hold over text lines (slack_told n own timely is same) =
    let it = ready text timely.tree over n timely.written timely.built in
    let put : lines ≡ own = ap (λ (x : Outcome). x.text) same in
    record { image = n; timely = timely; spared = hold n lines it.limits it.valid (subst (λ (x : List ℕ). IsSlackText n x) (sym put) is) }
