-- A row of instructions of the process that is chosen, and what ends it.
use Rattle.std.proofs.Common.{◌≡◌, ◌≤◌, ◌<◌, ◌+◌, ◌-◌, ◌++◌, inl, inr, ℕ, suc, Bool, true, false, List, [], ◌∷◌, Option, Some, length, arith, refl, ap, sym, subst, ◌∙◌}
use Rattle.std.specs.Prelude.{ℤ, cond, nat_lt, slice_get, slice_set}
use Rattle.std.proofs.lemmas.Bool.{cases_lt}
use Rattle.std.proofs.lemmas.Bool.Decides.{nat_tests}
use Rattle.std.specs.Global.{Vec}
use Rattle.std.proofs.lemmas.Option.{slice_get_within}
use Rattle.base.proofs.Lists.{get_set, get_other, some_at}
use Rattle.base.specs.declared.event.Event.{Event}
use Rattle.machine_isa.specs.declared.instr.Instr.{Instr}
use Rattle.machine_isa.specs.Ticks.{ticks}
use Rattle.machine_semantics.specs.Image.{Image, Process}
use Rattle.machine_semantics.specs.State.{Job, Thread, Ready, State}
use Rattle.machine_semantics.specs.Effect.{Own, Outcome, Goes, Raises, Stuck, effect}
use Rattle.machine_semantics.specs.Tick.{Ticked, at_next, owned_of, settle}
use Rattle.vm_instructions.specs.declared.burst.Halt.{Halt}
use Rattle.vm_instructions.specs.declared.burst.Halt.TheVariants as halt
use Rattle.vm_instructions.specs.Rows.{Ended, Runs, Spends, stays}
use Rattle.vm_instructions.specs.Silent.{RaisesAs}
use Rattle.vm_stretch.specs.StretchDue.{time_out_of}
use Rattle.vm_stretch.specs.Quiet.{AreQuiet}
use Rattle.vm_stretch.specs.Silent.{Begins, Follows, IsAt, Leads, is_silent, next_own, with_process}
use Rattle.vm_stretch.specs.Stretch.{left, left_at, left_of, outcome_at_once, outcomes, pass, pass_thread}
use Rattle.vm_stretch.proofs.StretchMoving.{NotStuck, effect_same, moved, set_set, settled_same}
use Rattle.vm_turn.specs.Own.{CanCome}
use Rattle.vm_turn.specs.Rows.{CanEnd, CanRun, EndsIn, HasRun, IsSeenAt, effect_of, outcome_of, own_at}
use Rattle.vm_state.specs.declared.machine_state.MachineState.{MachineState}
use Rattle.vm_state.specs.Board.{IsBoardOf, rows_of, state_of}
use Rattle.vm_turn.proofs.Safely.{can_of}
use Rattle.vm_stretch.proofs.Lists.{same_or_not}
use Rattle.machine_semantics.specs.Queues.{AreQueued, waits_on}
use Rattle.vm_runner.specs.Course.{ComeTo, Course, GoesBySteps, IsChosen, IsRow, IsThere, begun}
use Rattle.vm_runner.specs.Course as course
use Rattle.vm_runner.specs.Turn.{BurnsNothing, HasPassed, unspent}
use Rattle.vm_runner.specs.Waits.{WaitsFrom, is_some_at_queue}
use Rattle.vm_runner.proofs.Waiting.{from_then, ready_from, set_same, settle_alone, settle_from, settle_same}

-- ---- the last instruction of a row

-- no outcome that is not stuck in its turn is stuck
not_stuck : (image : Image) (u k : ℕ) (p : Process) (job : Job) (s : State) (out : Outcome) → (settle image u k p job s out).stuck ≡ false → NotStuck out
not_stuck image u k p job s (Goes o) free = tt
not_stuck image u k p job s Stuck free = absurd cc
not_stuck image u k p job s _ free = tt

-- what goes on stands the same, however the process stood before
goes_same : (image : Image) (u k : ℕ) (p : Process) (job : Job) (o next : Own) (s : State) → settle image u k p job (with_process k o s) (Goes next) ≡ record { state = with_process k next s; events = []; stuck = false }
goes_same image u k p job o next s =
    ap (λ (ts : List Thread). record { state = record s { threads = ts; owned = slice_set (slice_set s.owned k o.owned) k next.owned; shared = next.shared }; events = []; stuck = false }) (set_set s.threads k (Ready o.job) (Ready next.job))
    ∙ ap (λ (ws : List (List ℤ)). record { state = record s { threads = slice_set s.threads k (Ready next.job); owned = ws; shared = next.shared }; events = []; stuck = false }) (set_set s.owned k o.owned next.owned)

-- with the same words the process has moved alone
moved_alone : (k : ℕ) (o new : Own) (s : State) → new.owned ≡ o.owned → new.shared ≡ o.shared → with_process k new s ≡ moved k new.job (with_process k o s)
moved_alone k o new s owned shared =
    ap (λ (ws : List ℤ). record s { threads = slice_set s.threads k (Ready new.job); owned = slice_set s.owned k ws; shared = new.shared }) owned
    ∙ ap (λ (ws : List ℤ). record s { threads = slice_set s.threads k (Ready new.job); owned = slice_set s.owned k o.owned; shared = ws }) shared
    ∙ ap (λ (ts : List Thread). record s { threads = ts; owned = slice_set s.owned k o.owned; shared = o.shared }) (sym (set_set s.threads k (Ready o.job) (Ready new.job)))

-- what so many ticks of the process come to in the state where it stands so
abbrev pub comes : Image → State → ℕ → ℕ → Own → Outcome
comes image s k m o = outcomes image (with_process k o s) o.job o.owned m o.job.dispatch_ticks

-- where a row ended: some ticks of one more instruction are the last of it, and what code does at its end is what they come to
pub record RowEnds (image : Image) (s : State) (k : ℕ) (p : Process) (first : Own) (passed : ℕ) (h : Halt) (new : Own) : Type 0 where
  pub n : ℕ
  pub o : Own
  pub leads : Leads image first n o
  pub m : ℕ
  pub some : 1 ≤ m
  pub fits : m ≤ left image o.job
  pub all : n + m ≡ passed
  pub same : (u : ℕ) → (settle image u k p o.job (with_process k o s) (comes image s k m o)).stuck ≡ false
      → settle image u k p new.job (with_process k new s) (outcome_of image (with_process k new s) h new) ≡ settle image u k p o.job (with_process k o s) (comes image s k m o)

left_is : (image : Image) (o : Own) (instr : Instr) → IsAt image o instr → left image o.job ≡ ticks instr - o.job.done
left_is image o instr at = ap (λ (b : ℕ). left_of b o.job.done (slice_get image.code o.job.place)) at.burnt ∙ ap (λ (x : Option Instr). left_at o.job.done x) at.here

-- all ticks of an instruction come to its effect
comes_all : (image : Image) (s : State) (k m : ℕ) (o : Own) (instr : Instr) → IsAt image o instr → m ≡ ticks instr - o.job.done → (with_process k o s).shared ≡ o.shared → comes image s k m o ≡ effect image (with_process k o s) instr (next_own o)
comes_all image s k m o instr at time shared =
    let w : State = with_process k o s in
    let last : nat_lt (o.job.done + m) (ticks instr) ≡ false = let early = at.early in grind (arith, nat_tests) in
    ap (λ (b : ℕ). outcomes image w o.job o.owned m b) at.burnt
    ∙ ap (λ (x : Option Instr). outcome_at_once image w o.job o.owned m x) at.here
    ∙ ap (λ (b : Bool). cond b (Goes (record { job = record (o.job) { done = o.job.done + m }; owned = o.owned; shared = w.shared })) (effect image w instr (record { job = at_next o.job; owned = o.owned; shared = w.shared }))) last

-- fewer ticks stay within it
comes_part : (image : Image) (s : State) (k m : ℕ) (o : Own) (instr : Instr) → IsAt image o instr → o.job.done + m < ticks instr → comes image s k m o ≡ Goes (stays m o)
comes_part image s k m o instr at less =
    let w : State = with_process k o s in
    let last : nat_lt (o.job.done + m) (ticks instr) ≡ true = grind (arith, nat_tests) in
    ap (λ (b : ℕ). outcomes image w o.job o.owned m b) at.burnt
    ∙ ap (λ (x : Option Instr). outcome_at_once image w o.job o.owned m x) at.here
    ∙ ap (λ (b : Bool). cond b (Goes (record { job = record (o.job) { done = o.job.done + m }; owned = o.owned; shared = w.shared })) (effect image w instr (record { job = at_next o.job; owned = o.owned; shared = w.shared }))) last

-- a row that goes on
ends_going : (image : Image) (s : State) (k : ℕ) (p : Process) (first : Own) (passed n m : ℕ) (o new : Own) → Leads image first n o → 1 ≤ m → m ≤ left image o.job → n + m ≡ passed → comes image s k m o ≡ Goes new → RowEnds image s k p first passed halt.Spent new
ends_going image s k p first passed n m o new leads some fits all goes = record {
  n = n;
  o = o;
  leads = leads;
  m = m;
  some = some;
  fits = fits;
  all = all;
  same = λ u free. goes_same image u k p new.job new new s ∙ sym (ap (λ (r : Outcome). settle image u k p o.job (with_process k o s) r) goes ∙ goes_same image u k p o.job o new s);
}

ends_led : (image : Image) (s : State) (k : ℕ) (p : Process) (first : Own) (passed : ℕ) (n : ℕ) (new : Own) → Leads image first n new → n ≡ passed → 1 ≤ passed → RowEnds image s k p first passed halt.Spent new
ends_led image s k p first passed n new Begins is some = absurd (omega (arith, is, some))
ends_led image s k p first passed n' new (Follows {n} {o} before instr next step m' time) is some =
    let at : IsAt image o instr = step.at in
    let early = at.early in
    let m : ℕ = ticks instr - o.job.done in
    ends_going image s k p first passed n m o new before (omega (arith, early)) (omega (arith, left_is image o instr at)) (omega (arith, time, is))
    (comes_all image s k m o instr at refl refl ∙ step.goes (with_process k o s))

same_stays : (o : Own) (m : ℕ) → m ≡ 0 → stays m o ≡ o
same_stays o m is = let e : o.job.done + m ≡ o.job.done = omega (arith, is) in ap (λ (d : ℕ). record o { job = record (o.job) { done = d } }) e

pub spent_ends : (image : Image) (s : State) (k : ℕ) (p : Process) (first : Own) (budget : ℕ) (new : Own) → 1 ≤ budget → Spends image first budget new → RowEnds image s k p first budget halt.Spent new
spent_ends image s k p first budget new some spends =
    let n : ℕ = spends.0 in
    let m : ℕ = spends.1 in
    let o : Own = spends.2 in
    let leads : Leads image first n o = spends.3 in
    let all : n + m ≡ budget = spends.4 in
    let is : new ≡ stays m o = spends.5 in
    subst (λ (x : Own). RowEnds image s k p first budget halt.Spent x) (sym is) (elim (cases_lt 0 m) [
      | inl more ↦ elim (spends.6) [
        | inl none ↦ absurd (omega (arith, none, more))
        | inr within ↦
            let instr : Instr = within.0 in
            let at : IsAt image o instr = within.1 in
            let less : o.job.done + m < ticks instr = within.2 in
            ends_going image s k p first budget n m o (stays m o) leads (omega (arith, more)) (omega (arith, less, left_is image o instr at)) all (comes_part image s k m o instr at less)
      ]
      | inr none ↦
          let zero_m : m ≡ 0 = omega (arith, none) in
          subst (λ (x : Own). RowEnds image s k p first budget halt.Spent x) (sym (same_stays o m zero_m)) (ends_led image s k p first budget n o leads (omega (arith, zero_m, all)) some)
    ])

-- a row that an exception ends
pub raise_ends : (image : Image) (s : State) (k : ℕ) (p : Process) (first : Own) (passed number : ℕ) (last new : Own) (instr : Instr) → slice_get s.threads k ≡ Some (Ready first.job) → Ended image first passed last instr
    → ((w : State) → effect image w instr (next_own last) ≡ Raises number) → RaisesAs (next_own last) new → (rest : ℕ) → RowEnds image s k p first passed (halt.Raises rest number) new
raise_ends image s k p first passed number last new instr ready ended raises alike rest =
    let at = ended.at in
    let early = at.early in
    let m : ℕ = ticks instr - last.job.done in
    let w : State = with_process k last s in
    let out : comes image s k m last ≡ Raises number = comes_all image s k m last instr at refl refl ∙ raises w in
    record {
      n = ended.n;
      o = last;
      leads = ended.leads;
      m = m;
      some = omega (arith, early);
      fits = omega (arith, left_is image last instr at);
      all = ended.time;
      same = λ u free.
          ap (λ (x : State). settle image u k p new.job x (Raises number)) (moved_alone k last new s alike.1 alike.2)
          ∙ settled_same image u k p last.job new.job w (Raises number) tt (λ e is. alike.0 p e)
          ∙ ap (λ (r : Outcome). settle image u k p last.job w r) (sym out);
    }

-- a row that ends at an instruction that others see
pub seen_ends : (image : Image) (s : State) (k : ℕ) (p : Process) (first : Own) (passed : ℕ) (last : Own) (instr : Instr) → slice_get s.threads k ≡ Some (Ready first.job) → Ended image first passed last instr
    → (rest : ℕ) → RowEnds image s k p first passed (halt.Sees rest) (next_own last)
seen_ends image s k p first passed last instr ready ended rest =
    let at = ended.at in
    let early = at.early in
    let new : Own = next_own last in
    let m : ℕ = ticks instr - last.job.done in
    let w : State = with_process k last s in
    let w' : State = with_process k new s in
    let moves : w' ≡ moved k new.job w = moved_alone k last new s refl refl in
    let there : slice_get w.threads k ≡ Some (Ready last.job) = get_set s.threads k (Ready last.job) (Ready first.job) ready in
    let place : new.job.place - 1 ≡ last.job.place = omega arith in
    let here : slice_get image.code (new.job.place - 1) ≡ Some instr = ap (λ (c : ℕ). slice_get image.code c) place ∙ at.here in
    let out : comes image s k m last ≡ effect image w instr new = comes_all image s k m last instr at refl refl in
    let out' : outcome_of image w' (halt.Sees rest) new ≡ effect image w instr new =
    ap (λ (x : Option Instr). effect_of image w' x new) here
    ∙ ap (λ (x : State). effect image x instr new) moves
    ∙ effect_same image w instr new k last.job new.job there refl in
    record {
      n = ended.n;
      o = last;
      leads = ended.leads;
      m = m;
      some = omega (arith, early);
      fits = omega (arith, left_is image last instr at);
      all = ended.time;
      same = λ u free.
          let ok : NotStuck (effect image w instr new) = subst (λ (r : Outcome). NotStuck r) out (not_stuck image u k p last.job w (comes image s k m last) free) in
          ap (λ (r : Outcome). settle image u k p new.job w' r) out'
          ∙ ap (λ (x : State). settle image u k p new.job x (effect image w instr new)) moves
          ∙ settled_same image u k p last.job new.job w (effect image w instr new) ok (λ e is. refl)
          ∙ ap (λ (r : Outcome). settle image u k p last.job w r) (sym out);
    }

pub row_ends : (image : Image) (s : State) (k : ℕ) (p : Process) (first : Own) (budget : ℕ) (h : Halt) (new : Own) → slice_get s.threads k ≡ Some (Ready first.job) → 1 ≤ budget → Runs image first budget h new → RowEnds image s k p first (budget - unspent h) h new
row_ends image s k p first budget halt.Spent new ready some runs = let e : budget - 0 ≡ budget = omega arith in subst (λ (n : ℕ). RowEnds image s k p first n halt.Spent new) (sym e) (spent_ends image s k p first budget new some runs)
row_ends image s k p first budget (halt.Raises rest number) new ready some runs =
    raise_ends image s k p first (budget - rest) number runs.0 new runs.1 ready runs.3 runs.4 runs.5 rest
row_ends image s k p first budget (halt.Sees rest) new ready some runs =
    subst (λ (x : Own). RowEnds image s k p first (budget - rest) (halt.Sees rest) x) (sym runs.5) (seen_ends image s k p first (budget - rest) runs.0 runs.1 ready runs.3 rest)

-- no more ticks are left than there were
pub within_budget : (image : Image) (first : Own) (budget : ℕ) (h : Halt) (new : Own) → Runs image first budget h new → unspent h ≤ budget
within_budget image first budget halt.Spent new runs = omega arith
within_budget image first budget (halt.Raises rest number) new runs = runs.2
within_budget image first budget (halt.Sees rest) new runs = runs.2

-- ---- the process that is chosen, and its row

-- the process that is chosen, and burns nothing, as it stands
pub record RowStarts (c : Course) (t most k : ℕ) : Type 0 where
  pub job : Job
  pub is : IsChosen c t most k (own_at k job (begun c t))
  pub burnt : job.dispatch_ticks ≡ 0

starts_here : (c : Course) → GoesBySteps c → (t most k : ℕ) → c.chosen t ≡ Some k → length (begun c t).owned ≡ length c.image.processes → AreQuiet c.image c.script t most (begun c t) → BurnsNothing (begun c t) k → RowStarts c t most k
starts_here c goes t most k at words quiet burnt =
    let s : State = begun c t in
    let r : IsThere c.image s k = goes.chosen t k at in
    let below = slice_get_within c.image.processes k r.p r.process in
    let row = some_at s.owned k (omega (arith, below, words)) in
    record {
      job = r.job;
      is = record {
        p = r.p;
        process = r.process;
        chosen = at;
        ready = r.ready;
        owned = row.1 ∙ sym (ap (λ (x : Option (List ℤ)). Some (owned_of x)) row.1);
        shared = refl;
        quiet = quiet;
      };
      burnt = burnt r.job r.ready;
    }

pub row_starts : (c : Course) → GoesBySteps c → (t most k : ℕ) (s : State) → s ≡ begun c t → c.chosen t ≡ Some k → length s.owned ≡ length c.image.processes → AreQuiet c.image c.script t most s → BurnsNothing s k → RowStarts c t most k
row_starts c goes t most k s same at words quiet burnt =
    starts_here c goes t most k at (subst (λ (x : State). length x.owned ≡ length c.image.processes) same words)
    (subst (λ (x : State). AreQuiet c.image c.script t most x) same quiet) (subst (λ (x : State). BurnsNothing x k) same burnt)

-- each process has its row of words
pub words_count : (image : Image) (b : MachineState) → IsBoardOf image b → length (state_of b).owned ≡ length image.processes
words_count image b board = count b.owned.items ∙ board.owned where
  count : (vs : List (Vec ℤ)) → length (rows_of vs) ≡ length vs
  count [] = refl
  count (v ∷ vs) = ap suc (count vs)

pub can_run : (c : Course) → GoesBySteps c → (t most k : ℕ) (s : State) → s ≡ begun c t → RowStarts c t most k → CanRun c.image most k s
can_run c goes t most k s same row =
    subst (λ (x : State). CanRun c.image most k x) (sym same) (record {
      p = row.is.p;
      process = row.is.process;
      job = row.job;
      ready = row.is.ready;
      safe = goes.safe t most k (own_at k row.job (begun c t)) row.is row.burnt;
    })

-- ---- what the row comes to

-- a row of so many ticks that has run up to here, and what it comes to in its last tick
pub record RowRan (c : Course) (t k passed : ℕ) (h : Halt) (new : Own) : Type 0 where
  pub p : Process
  pub process : slice_get c.image.processes k ≡ Some p
  pub seen : IsSeenAt c.image h new.job.place
  pub some : 1 ≤ passed
  pub step : IsRow c t passed
  pub after : Ticked
  pub settled : after ≡ settle c.image (t + (passed - 1)) k p new.job (with_process k new (begun c t)) (outcome_of c.image (with_process k new (begun c t)) h new)
  pub come : ComeTo c t passed after
  pub ready : slice_get (with_process k new (begun c t)).threads k ≡ Some (Ready new.job)
  pub words : own_at k new.job (with_process k new (begun c t)) ≡ new

pub passes_as : (image : Image) (u k m : ℕ) (p : Process) (first o : Own) (s : State) → slice_get image.processes k ≡ Some p → slice_get s.threads k ≡ Some (Ready first.job) → slice_get s.owned k ≡ Some first.owned
    → pass image u m (with_process k o s) (Some k) ≡ settle image (u + (m - 1)) k p o.job (with_process k o s) (comes image s k m o)
passes_as image u k m p first o s process ready owned =
    let w : State = with_process k o s in
    let there : slice_get w.threads k ≡ Some (Ready o.job) = get_set s.threads k (Ready o.job) (Ready first.job) ready in
    let words : owned_of (slice_get w.owned k) ≡ o.owned = ap (λ (x : Option (List ℤ)). owned_of x) (get_set s.owned k o.owned first.owned owned) in
    ap (λ (x : Option Process). pass_thread image u m k w x (slice_get w.threads k)) process
    ∙ ap (λ (x : Option Thread). pass_thread image u m k w (Some p) x) there
    ∙ ap (λ (ws : List ℤ). settle image (u + (m - 1)) k p o.job w (outcomes image w o.job ws m o.job.dispatch_ticks)) words

pub seen_at : (image : Image) (first : Own) (budget : ℕ) (h : Halt) (new : Own) → Runs image first budget h new → IsSeenAt image h new.job.place
seen_at image first budget halt.Spent new runs = tt
seen_at image first budget (halt.Raises rest number) new runs = tt
seen_at image first budget (halt.Sees rest) new runs =
    let last : Own = runs.0 in
    let instr : Instr = runs.1 in
    let ended : Ended image first (budget - rest) last instr = runs.3 in
    let silent : is_silent instr ≡ false = runs.4 in
    let is : new ≡ next_own last = runs.5 in
    let place : (last.job.place + 1) - 1 ≡ last.job.place = omega arith in
    subst (λ (x : Own). IsSeenAt image (halt.Sees rest) x.job.place) (sym is) (
      omega arith,
      λ found at.
          let both : Some instr ≡ Some found = sym ended.at.here ∙ ap (λ (c : ℕ). slice_get image.code c) (sym place) ∙ at in
          let same : instr ≡ found = cc in
          ap (λ (x : Instr). is_silent x) (sym same) ∙ silent,
    )

row_ran : (c : Course) → GoesBySteps c → (t most k : ℕ) (h : Halt) (new : Own) → 1 ≤ most → (row : RowStarts c t most k) → Runs c.image (own_at k row.job (begun c t)) most h new → RowRan c t k (most - unspent h) h new
row_ran c goes t most k h new some row runs =
    let image = c.image in
    let s : State = begun c t in
    let first : Own = own_at k row.job s in
    let is = row.is in
    let passed : ℕ = most - unspent h in
    let e : RowEnds image s k is.p first passed h new = row_ends image s k is.p first most h new is.ready some runs in
    let m_some : 1 ≤ e.m = e.some in
    let all : e.n + e.m ≡ passed = e.all in
    let step : IsRow c t passed = record { budget = most; k = k; first = first; chosen = is; led = e.n; o = e.o; leads = e.leads; m = e.m; some = e.some; fits = e.fits; all = e.all; within = omega arith } in
    let after : Ticked = course.row c t passed step in
    let come : ComeTo c t passed after = goes.rows t passed step in
    let end : t + e.n + (e.m - 1) ≡ t + (passed - 1) = omega (arith, all, m_some) in
    let by : after ≡ settle image (t + (passed - 1)) k is.p e.o.job (with_process k e.o s) (comes image s k e.m e.o) =
    passes_as image (t + e.n) k e.m is.p first e.o s is.process is.ready is.owned ∙ ap (λ (u : ℕ). settle image u k is.p e.o.job (with_process k e.o s) (comes image s k e.m e.o)) end in
    record {
      p = is.p;
      process = is.process;
      seen = seen_at image first most h new runs;
      some = omega (arith, all, m_some);
      step = step;
      after = after;
      settled = by ∙ sym (e.same (t + (passed - 1)) (ap (λ (x : Ticked). x.stuck) (sym by) ∙ come.free));
      come = come;
      ready = get_set s.threads k (Ready new.job) (Ready row.job) is.ready;
      words = ap (λ (x : Option (List ℤ)). record { job = new.job; owned = owned_of x; shared = new.shared }) (get_set s.owned k new.owned first.owned is.owned);
    }

-- how it ran, from what code says
pub record Ran (c : Course) (t k passed : ℕ) (h : Halt) (s' : State) : Type 0 where
  pub new : Own
  pub row : RowRan c t k passed h new
  pub is : s' ≡ with_process k new (begun c t)

pub ran : (c : Course) → GoesBySteps c → (t most k : ℕ) (s s' : State) (h : Halt) → 1 ≤ most → s ≡ begun c t → RowStarts c t most k → HasRun c.image most k s h s' → Ran c t k (most - unspent h) h s'
ran c goes t most k s s' h some same row has =
    let r = subst (λ (x : State). HasRun c.image most k x h s') same has row.job row.is.ready in
    record { new = r.0; row = row_ran c goes t most k h r.0 some row r.1; is = r.2 }

pub enough : (c : Course) (t most k : ℕ) (s s' : State) (h : Halt) → s ≡ begun c t → RowStarts c t most k → HasRun c.image most k s h s' → unspent h ≤ most
enough c t most k s s' h same row has =
    let r = subst (λ (x : State). HasRun c.image most k x h s') same has row.job row.is.ready in
    within_budget c.image (own_at k row.job (begun c t)) most h r.0 r.1

-- ---- what code asks for at its end

pub queued_row : (k : ℕ) (o : Own) (job : Job) (s : State) → slice_get s.threads k ≡ Some (Ready job) → AreQueued s → AreQueued (with_process k o s)
queued_row k o job s ready queued c j =
    queued c j ∙ elim (same_or_not k j) [
      | inl same ↦ subst (λ (i : ℕ). waits_on c (slice_get s.threads i) ≡ waits_on c (slice_get (slice_set s.threads k (Ready o.job)) i)) same
          (ap (λ (x : Option Thread). waits_on c x) ready ∙ sym (ap (λ (x : Option Thread). waits_on c x) (get_set s.threads k (Ready o.job) (Ready job) ready)))
      | inr differ ↦ ap (λ (x : Option Thread). waits_on c x) (sym (get_other s.threads k j (Ready o.job) differ))
    ]

pub row_queued : (c : Course) (t most k passed : ℕ) (h : Halt) (s' : State) → RowStarts c t most k → Ran c t k passed h s' → AreQueued (begun c t) → AreQueued s'
row_queued c t most k passed h s' row has queued = subst (λ (x : State). AreQueued x) (sym has.is) (queued_row k has.new row.job (begun c t) row.is.ready queued)

pub can_end : (c : Course) → GoesBySteps c → (t k passed : ℕ) (h : Halt) (s' : State) → Ran c t k passed h s' → CanEnd c.image k s' h
can_end c goes t k passed h s' has =
    let r = has.row in
    let w : State = with_process k has.new (begun c t) in
    let u : ℕ = t + (passed - 1) in
    let out : Outcome = outcome_of c.image w h has.new in
    let can : CanCome r.p.stack out =
    can_of c.image u k r.p has.new.job w out (ap (λ (x : Ticked). x.stuck) (sym r.settled) ∙ r.come.free)
    (λ th at. goes.stack (t + passed) k r.p th r.process (ap (λ (x : State). slice_get x.threads k) (r.come.state ∙ ap (λ (x : Ticked). x.state) r.settled) ∙ at)) r.ready in
    subst (λ (x : State). CanEnd c.image k x h) (sym has.is) (record {
      p = r.p;
      process = r.process;
      job = has.new.job;
      ready = r.ready;
      seen = r.seen;
      can = subst (λ (o : Own). CanCome r.p.stack (outcome_of c.image w h o)) (sym r.words) can;
    })

-- ---- what has passed

pub row_passes : (c : Course) (t most k passed : ℕ) (h : Halt) (s' s'' : State) (es es' : List Event) → RowStarts c t most k → Ran c t k passed h s' → EndsIn c.image (t + (passed - 1)) k s' h s'' es es' → HasPassed c t passed s'' es es'
row_passes c t most k passed h s' s'' es es' row has ends =
    let image = c.image in
    let s : State = begun c t in
    let r = has.row in
    let w : State = with_process k has.new s in
    let u : ℕ = t + (passed - 1) in
    let out : Outcome = outcome_of image w h has.new in
    let e = subst (λ (x : State). EndsIn image u k x h s'' es es') has.is ends r.p has.new.job r.process r.ready in
    let same : settle image u k r.p has.new.job w (outcome_of image w h (own_at k has.new.job w)) ≡ r.after = ap (λ (o : Own). settle image u k r.p has.new.job w (outcome_of image w h o)) r.words ∙ sym r.settled in
    let state : s'' ≡ r.after.state = e.0 ∙ ap (λ (x : Ticked). x.state) same in
    let now : s'' ≡ (settle image u k r.p has.new.job w out).state = state ∙ ap (λ (x : Ticked). x.state) r.settled in
    let last : t + passed ≤ u + 1 = (let some = r.some in omega (arith, some)) in
    record {
      some = r.some;
      step = inr r.step;
      state = state ∙ sym r.come.state;
      fell = r.after.events;
      told = e.1 ∙ ap (λ (x : Ticked). es ++ x.events) same;
      events = r.come.events;
      waits = subst (λ (x : State). WaitsFrom (t + passed) s.threads x.threads) (sym now)
          (from_then (t + passed) s.threads w.threads (settle image u k r.p has.new.job w out).state.threads (ready_from (t + passed) s.threads k has.new.job) (settle_from image u k r.p has.new.job w out (t + passed) last));
      same = λ quiet j.
          ap (λ (x : State). time_out_of (slice_get x.threads j)) now
          ∙ settle_same image u k r.p has.new.job w out j (ap (λ (x : Ticked). is_some_at_queue x.events) (sym r.settled) ∙ quiet) r.ready
          ∙ set_same s.threads k j (Ready has.new.job) (Ready row.job) row.is.ready refl refl;
      alone = λ quiet j apart.
          let differ : k ≡ j → ⊥ = λ same. apart (row.is.chosen ∙ ap (λ (m : ℕ). Some m) same) in
          ap (λ (x : State). slice_get x.threads j) now
          ∙ settle_alone image u k r.p has.new.job w out j (ap (λ (x : Ticked). is_some_at_queue x.events) (sym r.settled) ∙ quiet) differ
          ∙ get_other s.threads k j (Ready has.new.job) differ;
    }
