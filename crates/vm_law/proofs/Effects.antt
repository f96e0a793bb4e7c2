-- What an instruction shows others has a name.
use Rattle.std.proofs.Common.{◌≡◌, ◌<◌, ◌+◌, ℕ, zero, suc, List, [], ◌∷◌, length, Option, Some, None, arith, refl, ap, sym, subst, true, false, Bool}
use Rattle.std.specs.Prelude.{ℤ, pos, negsuc, if◌then◌else◌, unsigned_abs, nat_lt, slice_get}
use Rattle.base.specs.declared.event.Act.{Act}
use Rattle.image.specs.declared.names.ImageNames.{ImageNames}
use Rattle.machine_isa.specs.declared.instr.Instr.{Instr}
use Rattle.machine_isa.specs.declared.instr.Instr.TheVariants as i
use Rattle.machine_isa.specs.Ticks.{ticks}
use Rattle.event_log.specs.InRange.{ActIsIn}
use Rattle.machine_semantics.specs.Image.{Image, Routine}
use Rattle.machine_semantics.specs.State.{Operand, Value, Counter, Caller, Job, State}
use Rattle.machine_semantics.specs.Effect as m
use Rattle.machine_semantics.specs.Effect.{Own, Outcome, Goes, Does, Signals, Broadcasts, Waits, Raises, Ends, Stuck, effect}
use Rattle.machine_semantics.specs.Tick.{at_next, outcome_at, outcome}
use Rattle.base.specs.Words.{Answer, word, raised}
use Rattle.machine_semantics.specs.Part.{IsBelow}
use Rattle.vm_law.specs.Logged.{AreNamesOf}
use Rattle.vm_law.specs.Operands.{IsThere, AreThere}

module _ (names : ImageNames) where
  -- what others see of the outcome has a name
  abbrev pub Shows : Outcome → Type 0
  Shows (Goes o) = Unit {0}
  Shows (Does a o) = ActIsIn names a
  Shows (Signals c o) = c < length names.conditions
  Shows (Broadcasts c o) = c < length names.conditions
  Shows (Waits c limit number o) = c < length names.conditions
  Shows (Raises number) = Unit {0}
  Shows Ends = Unit {0}
  Shows Stuck = Unit {0}

  -- ---- operands

  either_shows : (b : Bool) (x y : Outcome) → Shows x → Shows y → Shows (if b then x else y)
  either_shows true x y p q = p
  either_shows false x y p q = q

  take_shows : (xs : List Operand) (o : Own) (go : ℤ → Own → Outcome) → ((x : ℤ) (p : Own) → Shows (go x p)) → Shows (m.take_one xs o go)
  take_shows (Value x ∷ rest) o go all = all x (m.holding rest o)
  take_shows (Counter n ∷ rest) o go all = tt
  take_shows [] o go all = tt

  one_shows : (o : Own) (go : ℤ → Own → Outcome) → ((x : ℤ) (p : Own) → Shows (go x p)) → Shows (m.one o go)
  one_shows o go all = take_shows o.job.operands o go all

  two_shows : (o : Own) (go : ℤ → ℤ → Own → Outcome) → ((x y : ℤ) (p : Own) → Shows (go x y p)) → Shows (m.two o go)
  two_shows o go all = one_shows o (λ y p. m.one p (λ x q. go x y q)) (λ y p. one_shows p (λ x q. go x y q) (λ x q. all x y q))

  answer_shows : (a : Answer) (o : Own) → Shows (m.answer a o)
  answer_shows (word z) o = tt
  answer_shows (raised number) o = tt

  load_shows : (w : Option ℤ) (o : Own) → Shows (m.load w o)
  load_shows (Some z) o = tt
  load_shows None o = tt

  store_shows : (w : Option ℤ) (o : Own) → Shows (m.store w o)
  store_shows (Some z) o = tt
  store_shows None o = tt

  load_mon_shows : (image : Image) (w : ℤ) (o : Own) → Shows (m.load_mon image w o)
  load_mon_shows image w o = either_shows (m.is_reached image o.job.inside w) (m.load (m.word_at o.shared w) o) Stuck (load_shows (m.word_at o.shared w) o) tt

  store_mon_shows : (image : Image) (w z : ℤ) (o : Own) → Shows (m.store_mon image w z o)
  store_mon_shows image w z o =
      either_shows (m.is_reached image o.job.inside w) (m.store (m.word_at o.shared w) (m.set_shared w z o)) Stuck (store_shows (m.word_at o.shared w) (m.set_shared w z o)) tt

  element_shows : (w low len index : ℤ) (go : ℤ → Outcome) → ((e : ℤ) → Shows (go e)) → Shows (m.element w low len index go)
  element_shows w low len index go all = either_shows _ (go _) (Raises 3) (all _) tt

  -- ---- places, loops and calls

  go_to_shows : (t : ℤ) (o : Own) → Shows (m.go_to t o)
  go_to_shows (pos t) o = tt
  go_to_shows (negsuc n) o = tt

  count_from_shows : (t : ℤ) (o : Own) → Shows (m.count_from t o)
  count_from_shows (pos t) o = tt
  count_from_shows (negsuc n) o = tt

  count_down_shows : (xs : List Operand) (t : ℤ) (o : Own) → Shows (m.count_down xs t o)
  count_down_shows (Counter (suc (suc n)) ∷ rest) t o = go_to_shows t (m.holding (Counter (suc n) ∷ rest) o)
  count_down_shows (Counter (suc zero) ∷ rest) t o = tt
  count_down_shows (Counter zero ∷ rest) t o = tt
  count_down_shows (Value x ∷ rest) t o = tt
  count_down_shows [] t o = tt

  drop_counter_shows : (xs : List Operand) (t : ℤ) (o : Own) → Shows (m.drop_counter xs t o)
  drop_counter_shows (Counter n ∷ rest) t o = go_to_shows t (m.holding rest o)
  drop_counter_shows (Value x ∷ rest) t o = tt
  drop_counter_shows [] t o = tt

  called_shows : (r : Routine) (taken : Option (List ℤ × List Operand)) (o : Own) → Shows (m.called r taken o)
  called_shows r (Some taken) o = tt
  called_shows r None o = tt

  call_shows : (r : Option Routine) (o : Own) → Shows (m.call r o)
  call_shows (Some r) o = called_shows r (m.arguments r.params o.job.operands []) o
  call_shows None o = tt

  back_shows : (cs : List Caller) (o : Own) (go : Own → Own) → Shows (m.back cs o go)
  back_shows [] o go = tt
  back_shows (c ∷ cs) o go = tt

  -- ---- monitors, conditions, devices

  same_pos : (k j n : ℕ) → pos k ≡ pos j → j < n → k < n
  same_pos k j n same low = let is : k ≡ j = cc in omega (arith, is, low)

  enters_shows : (b : Bool) (inside : Option ℕ) (k : ℕ) (o : Own) → k < length names.monitors → Shows (m.enters b inside k o)
  enters_shows true None k o low = low
  enters_shows true (Some n) k o low = tt
  enters_shows false inside k o low = tt

  enter_shows : (image : Image) (s : State) (z : ℤ) (o : Own) → IsBelow z (length names.monitors) → Shows (m.enter image s z o)
  enter_shows image s (pos k) o below = enters_shows _ o.job.inside k o (same_pos k below.0 (length names.monitors) below.1 below.2)
  enter_shows image s (negsuc k) o below = tt

  leaves_shows : (b : Bool) (k : ℕ) (o : Own) → k < length names.monitors → Shows (m.leaves b k o)
  leaves_shows true k o low = low
  leaves_shows false k o low = tt

  leave_shows : (z : ℤ) (o : Own) → IsBelow z (length names.monitors) → Shows (m.leave z o)
  leave_shows (pos k) o below = leaves_shows _ k o (same_pos k below.0 (length names.monitors) below.1 below.2)
  leave_shows (negsuc k) o below = tt

  waits_shows : (b : Bool) (c limit number : ℤ) (o : Own) → unsigned_abs c < length names.conditions → Shows (m.waits b c limit number o)
  waits_shows true c (pos limit) (pos number) o low = low
  waits_shows true c (pos limit) (negsuc n) o low = tt
  waits_shows true c (negsuc n) number o low = tt
  waits_shows false c limit number o low = tt

  wait_shows : (monitor : Option ℕ) (c limit number : ℤ) (o : Own) → unsigned_abs c < length names.conditions → Shows (m.wait monitor c limit number o)
  wait_shows (Some k) c limit number o low = waits_shows _ c limit number o low
  wait_shows None c limit number o low = tt

  signal_shows : (q : Option (List ℕ)) (c : ℤ) (o : Own) → unsigned_abs c < length names.conditions → Shows (m.signal q c o)
  signal_shows (Some q) c o low = low
  signal_shows None c o low = tt

  broadcast_shows : (q : Option (List ℕ)) (c : ℤ) (o : Own) → unsigned_abs c < length names.conditions → Shows (m.broadcast q c o)
  broadcast_shows (Some q) c o low = low
  broadcast_shows None c o low = tt

  empty_shows : (q : Option (List ℕ)) (c : ℤ) (o : Own) → unsigned_abs c < length names.conditions → Shows (m.empty q c o)
  empty_shows (Some q) c o low = low
  empty_shows None c o low = tt

  get_shows : (w : Option ℤ) (d : ℤ) (o : Own) → unsigned_abs d < length names.devices → Shows (m.get w d o)
  get_shows (Some w) d o low = low
  get_shows None d o low = tt

  put_shows : (w : Option ℤ) (d value : ℤ) (o : Own) → unsigned_abs d < length names.devices → Shows (m.put w d value o)
  put_shows (Some w) d value o low = low
  put_shows None d value o low = tt

  raise_shows : (e : ℤ) → Shows (m.raise e)
  raise_shows (pos number) = tt
  raise_shows (negsuc n) = tt

  number_below : (z : ℤ) (n : ℕ) → IsBelow z n → unsigned_abs z < n
  number_below z n below = let is : unsigned_abs z ≡ below.0 = ap (λ x. unsigned_abs x) below.1 in omega (arith, is, below.2)

  at_most : (z : ℤ) (n k : ℕ) → k ≡ n → IsBelow z n → IsBelow z k
  at_most z n k same below = subst (λ j. IsBelow z j) (sym same) below

  -- ---- the table

  module _ (image : Image) (named : AreNamesOf names image) where
    condition : (c : ℤ) → IsBelow c (length image.conditions) → unsigned_abs c < length names.conditions
    condition c below = number_below c (length names.conditions) (at_most c (length image.conditions) (length names.conditions) named.conditions below)

    device : (d : ℤ) → IsBelow d (length image.devices) → unsigned_abs d < length names.devices
    device d below = number_below d (length names.devices) (at_most d (length image.devices) (length names.devices) named.devices below)

    monitor : (z : ℤ) → IsBelow z (length image.monitors) → IsBelow z (length names.monitors)
    monitor z below = at_most z (length image.monitors) (length names.monitors) named.monitors below

    effect_shows : (s : State) (instr : Instr) (o : Own) → IsThere image instr → Shows (effect image s instr o)
    effect_shows s (i.Push value) o there = tt
    effect_shows s (i.LoadLocal w) o there = load_shows (m.word_at o.job.locals w) o
    effect_shows s (i.StoreLocal w) o there = one_shows o _ (λ x p. store_shows (m.word_at p.job.locals w) (m.set_local w x p))
    effect_shows s (i.LoadOwn w) o there = load_shows (m.word_at o.owned w) o
    effect_shows s (i.StoreOwn w) o there = one_shows o _ (λ x p. store_shows (m.word_at p.owned w) (m.set_own w x p))
    effect_shows s (i.LoadMon w) o there = load_mon_shows image w o
    effect_shows s (i.StoreMon w) o there = one_shows o _ (λ x p. store_mon_shows image w x p)
    effect_shows s (i.LoadLocalAt w low len) o there = one_shows o _ (λ x p. element_shows w low len x _ (λ e. load_shows (m.word_at p.job.locals e) p))
    effect_shows s (i.StoreLocalAt w low len) o there = two_shows o _ (λ x y p. element_shows w low len x _ (λ e. store_shows (m.word_at p.job.locals e) (m.set_local e y p)))
    effect_shows s (i.LoadOwnAt w low len) o there = one_shows o _ (λ x p. element_shows w low len x _ (λ e. load_shows (m.word_at p.owned e) p))
    effect_shows s (i.StoreOwnAt w low len) o there = two_shows o _ (λ x y p. element_shows w low len x _ (λ e. store_shows (m.word_at p.owned e) (m.set_own e y p)))
    effect_shows s (i.LoadMonAt w low len) o there = one_shows o _ (λ x p. element_shows w low len x _ (λ e. load_mon_shows image e p))
    effect_shows s (i.StoreMonAt w low len) o there = two_shows o _ (λ x y p. element_shows w low len x _ (λ e. store_mon_shows image e y p))
    effect_shows s i.Neg o there = one_shows o _ (λ x p. answer_shows _ p)
    effect_shows s i.Not o there = one_shows o _ (λ x p. tt)
    effect_shows s i.And o there = two_shows o _ (λ x y p. tt)
    effect_shows s i.Or o there = two_shows o _ (λ x y p. tt)
    effect_shows s i.Add o there = two_shows o _ (λ x y p. answer_shows _ p)
    effect_shows s i.Sub o there = two_shows o _ (λ x y p. answer_shows _ p)
    effect_shows s i.Eq o there = two_shows o _ (λ x y p. tt)
    effect_shows s i.Ne o there = two_shows o _ (λ x y p. tt)
    effect_shows s i.Lt o there = two_shows o _ (λ x y p. tt)
    effect_shows s i.Le o there = two_shows o _ (λ x y p. tt)
    effect_shows s i.Gt o there = two_shows o _ (λ x y p. tt)
    effect_shows s i.Ge o there = two_shows o _ (λ x y p. tt)
    effect_shows s i.Mul o there = two_shows o _ (λ x y p. answer_shows _ p)
    effect_shows s i.Div o there = two_shows o _ (λ x y p. answer_shows _ p)
    effect_shows s i.Mod o there = two_shows o _ (λ x y p. answer_shows _ p)
    effect_shows s (i.Range low high) o there = one_shows o _ (λ x p. either_shows _ (Goes (m.give x p)) (Raises 3) tt tt)
    effect_shows s (i.JumpZero t) o there = one_shows o _ (λ x p. either_shows _ (m.go_to t p) (Goes p) (go_to_shows t p) tt)
    effect_shows s (i.Jump t) o there = go_to_shows t o
    effect_shows s (i.Repeats turns) o there = count_from_shows turns o
    effect_shows s (i.Repeat t) o there = count_down_shows o.job.operands t o
    effect_shows s (i.Exit t) o there = one_shows o _ (λ x p. either_shows _ (Goes p) (m.drop_counter p.job.operands t p) tt (drop_counter_shows p.job.operands t p))
    effect_shows s (i.Call r) o there = call_shows (m.routine image r) o
    effect_shows s i.Return o there = back_shows o.job.callers o (λ p. p)
    effect_shows s i.ReturnValue o there = one_shows o _ (λ x p. back_shows p.job.callers p (m.give x))
    effect_shows s (i.Enter z) o there = enter_shows image s z o (monitor z there)
    effect_shows s (i.Leave z) o there = leave_shows z o (monitor z there)
    effect_shows s (i.Wait c limit number) o there = wait_shows (m.monitor_of image c) c limit number o (condition c there.0)
    effect_shows s (i.Reenter z) o there = enter_shows image s z o (monitor z there)
    effect_shows s (i.Signal c) o there = signal_shows (m.queue s c) c o (condition c there)
    effect_shows s (i.Broadcast c) o there = broadcast_shows (m.queue s c) c o (condition c there)
    effect_shows s (i.Empty c) o there = empty_shows (m.queue s c) c o (condition c there)
    effect_shows s (i.In d) o there = get_shows (m.word_at s.devices d) d o (device d there)
    effect_shows s (i.Out d) o there = one_shows o _ (λ x p. put_shows (m.word_at s.devices d) d x p (device d there))
    effect_shows s (i.Raise e) o there = raise_shows e
    effect_shows s i.End o there = tt

    -- ---- a tick of a process

    pub outcome_shows : (s : State) (job : Job) (owned : List ℤ) (dispatch_ticks : ℕ) → AreThere image → Shows (outcome image s job owned dispatch_ticks)
    outcome_shows s job owned (suc n) all = tt
    outcome_shows s job owned zero all = by (slice_get image.code job.place) refl where
      by : (o : Option Instr) → slice_get image.code job.place ≡ o → Shows (outcome_at image s job owned o)
      by None at = tt
      by (Some instr) at =
          either_shows (nat_lt (job.done + 1) (ticks instr)) (Goes (record { job = record job { done = job.done + 1 }; owned = owned; shared = s.shared }))
          (effect image s instr (record { job = at_next job; owned = owned; shared = s.shared })) tt
          (effect_shows s instr (record { job = at_next job; owned = owned; shared = s.shared }) (all job.place instr at))
