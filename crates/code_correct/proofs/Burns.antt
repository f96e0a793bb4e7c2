-- The effect of an instruction does not depend on ticks of dispatch.
use Rattle.std.specs.Prelude.{◌≡◌, ◌&&◌, ◌-ℤ◌, ℕ, zero, suc, Bool, true, false, cond, List, [], ◌∷◌, Option, Some, None, ℤ, pos, negsuc, ◌+ℤ◌, int_le, int_lt, slice_get}
use Rattle.std.proofs.Common.{refl, ap}
use Rattle.base.specs.Words.{Answer, word, raised, is_zero, within, sum, difference, product, negated, quotient, remainder}
use Rattle.machine_isa.specs.declared.instr.Instr.{Instr}
use Rattle.machine_isa.specs.declared.instr.Instr.TheVariants as i
use Rattle.machine_semantics.specs.Image.{Image, Routine}
use Rattle.machine_semantics.specs.State.{Operand, Value, Counter, Caller, State, is_free, is_inside}
use Rattle.machine_semantics.specs.Effect as table
use Rattle.machine_semantics.specs.Effect.{Own, Outcome, Goes, Does, Signals, Broadcasts, Waits, Raises, Ends, Stuck, effect, is_reached}

abbrev pub burnt : ℕ → Own → Own
burnt d o = record { job = record (o.job) { dispatch_ticks = d }; owned = o.owned; shared = o.shared }

abbrev pub burnt_outcome : ℕ → Outcome → Outcome
burnt_outcome d (Goes o) = Goes (burnt d o)
burnt_outcome d (Does a o) = Does a (burnt d o)
burnt_outcome d (Signals c o) = Signals c (burnt d o)
burnt_outcome d (Broadcasts c o) = Broadcasts c (burnt d o)
burnt_outcome d (Waits c l n o) = Waits c l n (burnt d o)
burnt_outcome d (Raises n) = Raises n
burnt_outcome d Ends = Ends
burnt_outcome d Stuck = Stuck

module _ (d : ℕ) where
  take_burnt : (ops : List Operand) (o : Own) (go : ℤ → Own → Outcome) → ((x : ℤ) (p : Own) → go x (burnt d p) ≡ burnt_outcome d (go x p)) → table.take_one ops (burnt d o) go ≡ burnt_outcome d (table.take_one ops o go)
  take_burnt [] o go h = refl
  take_burnt (Value x ∷ ops) o go h = h x (table.holding ops o)
  take_burnt (Counter n ∷ ops) o go h = refl

  one_burnt : (o : Own) (go : ℤ → Own → Outcome) → ((x : ℤ) (p : Own) → go x (burnt d p) ≡ burnt_outcome d (go x p)) → table.one (burnt d o) go ≡ burnt_outcome d (table.one o go)
  one_burnt o go h = take_burnt o.job.operands o go h

  two_burnt : (o : Own) (go : ℤ → ℤ → Own → Outcome) → ((x y : ℤ) (p : Own) → go x y (burnt d p) ≡ burnt_outcome d (go x y p)) → table.two (burnt d o) go ≡ burnt_outcome d (table.two o go)
  two_burnt o go h = one_burnt o (λ y p. table.one p (λ x q. go x y q)) (λ y p. one_burnt p (λ x q. go x y q) (λ x q. h x y q))

  if_burnt : (b : Bool) (x y u v : Outcome) → x ≡ burnt_outcome d u → y ≡ burnt_outcome d v → cond b x y ≡ burnt_outcome d (cond b u v)
  if_burnt true x y u v h k = h
  if_burnt false x y u v h k = k

  answer_burnt : (a : Answer) (o : Own) → table.answer a (burnt d o) ≡ burnt_outcome d (table.answer a o)
  answer_burnt (word v) o = refl
  answer_burnt (raised n) o = refl

  load_burnt : (a : Option ℤ) (o : Own) → table.load a (burnt d o) ≡ burnt_outcome d (table.load a o)
  load_burnt (Some v) o = refl
  load_burnt None o = refl

  store_burnt : (a : Option ℤ) (o : Own) → table.store a (burnt d o) ≡ burnt_outcome d (table.store a o)
  store_burnt (Some v) o = refl
  store_burnt None o = refl

  local_burnt : (w z : ℤ) (o : Own) → table.store (table.word_at o.job.locals w) (table.set_local w z (burnt d o)) ≡ burnt_outcome d (table.store (table.word_at o.job.locals w) (table.set_local w z o))
  local_burnt (pos n) z o = store_burnt (slice_get o.job.locals n) (table.set_local (pos n) z o)
  local_burnt (negsuc n) z o = refl

  own_burnt : (w z : ℤ) (o : Own) → table.store (table.word_at o.owned w) (table.set_own w z (burnt d o)) ≡ burnt_outcome d (table.store (table.word_at o.owned w) (table.set_own w z o))
  own_burnt (pos n) z o = store_burnt (slice_get o.owned n) (table.set_own (pos n) z o)
  own_burnt (negsuc n) z o = refl

  shared_burnt : (w z : ℤ) (o : Own) → table.store (table.word_at o.shared w) (table.set_shared w z (burnt d o)) ≡ burnt_outcome d (table.store (table.word_at o.shared w) (table.set_shared w z o))
  shared_burnt (pos n) z o = store_burnt (slice_get o.shared n) (table.set_shared (pos n) z o)
  shared_burnt (negsuc n) z o = refl

  load_mon_burnt : (image : Image) (w : ℤ) (o : Own) → table.load_mon image w (burnt d o) ≡ burnt_outcome d (table.load_mon image w o)
  load_mon_burnt image w o = if_burnt (is_reached image o.job.inside w) _ _ _ _ (load_burnt (table.word_at o.shared w) o) refl

  store_mon_burnt : (image : Image) (w z : ℤ) (o : Own) → table.store_mon image w z (burnt d o) ≡ burnt_outcome d (table.store_mon image w z o)
  store_mon_burnt image w z o = if_burnt (is_reached image o.job.inside w) _ _ _ _ (shared_burnt w z o) refl

  element_burnt : (w low len x : ℤ) (go back : ℤ → Outcome) → ((e : ℤ) → go e ≡ burnt_outcome d (back e)) → table.element w low len x go ≡ burnt_outcome d (table.element w low len x back)
  element_burnt w low len x go back h = if_burnt (int_le (pos 0) (x -ℤ low) && int_lt (x -ℤ low) len) _ _ _ _ (h (w +ℤ (x -ℤ low))) refl

  go_burnt : (t : ℤ) (o : Own) → table.go_to t (burnt d o) ≡ burnt_outcome d (table.go_to t o)
  go_burnt (pos n) o = refl
  go_burnt (negsuc n) o = refl

  from_burnt : (t : ℤ) (o : Own) → table.count_from t (burnt d o) ≡ burnt_outcome d (table.count_from t o)
  from_burnt (pos n) o = refl
  from_burnt (negsuc n) o = refl

  down_burnt : (ops : List Operand) (t : ℤ) (o : Own) → table.count_down ops t (burnt d o) ≡ burnt_outcome d (table.count_down ops t o)
  down_burnt [] t o = refl
  down_burnt (Value x ∷ ops) t o = refl
  down_burnt (Counter zero ∷ ops) t o = refl
  down_burnt (Counter (suc zero) ∷ ops) t o = refl
  down_burnt (Counter (suc (suc n)) ∷ ops) t o = go_burnt t (table.holding (Counter (suc n) ∷ ops) o)

  drop_burnt : (ops : List Operand) (t : ℤ) (o : Own) → table.drop_counter ops t (burnt d o) ≡ burnt_outcome d (table.drop_counter ops t o)
  drop_burnt [] t o = refl
  drop_burnt (Value x ∷ ops) t o = refl
  drop_burnt (Counter n ∷ ops) t o = go_burnt t (table.holding ops o)

  called_burnt : (r : Routine) (a : Option (List ℤ × List Operand)) (o : Own) → table.called r a (burnt d o) ≡ burnt_outcome d (table.called r a o)
  called_burnt r None o = refl
  called_burnt r (Some a) o = refl

  call_burnt : (r : Option Routine) (o : Own) → table.call r (burnt d o) ≡ burnt_outcome d (table.call r o)
  call_burnt None o = refl
  call_burnt (Some r) o = called_burnt r (table.arguments r.params o.job.operands []) o

  back_burnt : (cs : List Caller) (o : Own) (go : Own → Own) → ((p : Own) → go (burnt d p) ≡ burnt d (go p)) → table.back cs (burnt d o) go ≡ burnt_outcome d (table.back cs o go)
  back_burnt [] o go h = refl
  back_burnt (c ∷ cs) o go h = ap (λ q. Goes q) (h (record o { job = record (o.job) { place = c.back; locals = c.locals; operands = c.operands; callers = cs } }))

  enters_burnt : (b : Bool) (inside : Option ℕ) (m : ℕ) (o : Own) → table.enters b inside m (burnt d o) ≡ burnt_outcome d (table.enters b inside m o)
  enters_burnt true None m o = refl
  enters_burnt true (Some n) m o = refl
  enters_burnt false inside m o = refl

  enter_burnt : (image : Image) (s : State) (m : ℤ) (o : Own) → table.enter image s m (burnt d o) ≡ burnt_outcome d (table.enter image s m o)
  enter_burnt image s (pos m) o = enters_burnt (is_free m s.threads) o.job.inside m o
  enter_burnt image s (negsuc m) o = refl

  leaves_burnt : (b : Bool) (m : ℕ) (o : Own) → table.leaves b m (burnt d o) ≡ burnt_outcome d (table.leaves b m o)
  leaves_burnt true m o = refl
  leaves_burnt false m o = refl

  leave_burnt : (m : ℤ) (o : Own) → table.leave m (burnt d o) ≡ burnt_outcome d (table.leave m o)
  leave_burnt (pos m) o = leaves_burnt (is_inside m o.job.inside) m o
  leave_burnt (negsuc m) o = refl

  waits_burnt : (b : Bool) (c l n : ℤ) (o : Own) → table.waits b c l n (burnt d o) ≡ burnt_outcome d (table.waits b c l n o)
  waits_burnt true c (pos l) (pos n) o = refl
  waits_burnt true c (pos l) (negsuc n) o = refl
  waits_burnt true c (negsuc l) n o = refl
  waits_burnt false c l n o = refl

  wait_burnt : (m : Option ℕ) (c l n : ℤ) (o : Own) → table.wait m c l n (burnt d o) ≡ burnt_outcome d (table.wait m c l n o)
  wait_burnt None c l n o = refl
  wait_burnt (Some m) c l n o = waits_burnt (is_inside m o.job.inside) c l n o

  signal_burnt : (q : Option (List ℕ)) (c : ℤ) (o : Own) → table.signal q c (burnt d o) ≡ burnt_outcome d (table.signal q c o)
  signal_burnt None c o = refl
  signal_burnt (Some q) c o = refl

  broadcast_burnt : (q : Option (List ℕ)) (c : ℤ) (o : Own) → table.broadcast q c (burnt d o) ≡ burnt_outcome d (table.broadcast q c o)
  broadcast_burnt None c o = refl
  broadcast_burnt (Some q) c o = refl

  empty_burnt : (q : Option (List ℕ)) (c : ℤ) (o : Own) → table.empty q c (burnt d o) ≡ burnt_outcome d (table.empty q c o)
  empty_burnt None c o = refl
  empty_burnt (Some q) c o = refl

  get_burnt : (v : Option ℤ) (c : ℤ) (o : Own) → table.get v c (burnt d o) ≡ burnt_outcome d (table.get v c o)
  get_burnt None c o = refl
  get_burnt (Some v) c o = refl

  put_burnt : (v : Option ℤ) (c x : ℤ) (o : Own) → table.put v c x (burnt d o) ≡ burnt_outcome d (table.put v c x o)
  put_burnt None c x o = refl
  put_burnt (Some v) c x o = refl

  raise_burnt : (n : ℤ) → table.raise n ≡ burnt_outcome d (table.raise n)
  raise_burnt (pos n) = refl
  raise_burnt (negsuc n) = refl

  pub effect_burnt : (image : Image) (s : State) (j : Instr) (o : Own) → effect image s j (burnt d o) ≡ burnt_outcome d (effect image s j o)
  effect_burnt image s (i.Push v) o = refl
  effect_burnt image s (i.LoadLocal w) o = load_burnt (table.word_at o.job.locals w) o
  effect_burnt image s (i.StoreLocal w) o = one_burnt o _ (λ x p. local_burnt w x p)
  effect_burnt image s (i.LoadOwn w) o = load_burnt (table.word_at o.owned w) o
  effect_burnt image s (i.StoreOwn w) o = one_burnt o _ (λ x p. own_burnt w x p)
  effect_burnt image s (i.LoadMon w) o = load_mon_burnt image w o
  effect_burnt image s (i.StoreMon w) o = one_burnt o _ (λ x p. store_mon_burnt image w x p)
  effect_burnt image s (i.LoadLocalAt w low len) o = one_burnt o _ (λ x p. element_burnt w low len x _ _ (λ e. load_burnt (table.word_at p.job.locals e) p))
  effect_burnt image s (i.StoreLocalAt w low len) o = two_burnt o _ (λ x y p. element_burnt w low len x _ _ (λ e. local_burnt e y p))
  effect_burnt image s (i.LoadOwnAt w low len) o = one_burnt o _ (λ x p. element_burnt w low len x _ _ (λ e. load_burnt (table.word_at p.owned e) p))
  effect_burnt image s (i.StoreOwnAt w low len) o = two_burnt o _ (λ x y p. element_burnt w low len x _ _ (λ e. own_burnt e y p))
  effect_burnt image s (i.LoadMonAt w low len) o = one_burnt o _ (λ x p. element_burnt w low len x _ _ (λ e. load_mon_burnt image e p))
  effect_burnt image s (i.StoreMonAt w low len) o = two_burnt o _ (λ x y p. element_burnt w low len x _ _ (λ e. store_mon_burnt image e y p))
  effect_burnt image s i.Neg o = one_burnt o _ (λ x p. answer_burnt (negated x) p)
  effect_burnt image s i.Not o = one_burnt o _ (λ x p. refl)
  effect_burnt image s i.And o = two_burnt o _ (λ x y p. refl)
  effect_burnt image s i.Or o = two_burnt o _ (λ x y p. refl)
  effect_burnt image s i.Add o = two_burnt o _ (λ x y p. answer_burnt (sum x y) p)
  effect_burnt image s i.Sub o = two_burnt o _ (λ x y p. answer_burnt (difference x y) p)
  effect_burnt image s i.Eq o = two_burnt o _ (λ x y p. refl)
  effect_burnt image s i.Ne o = two_burnt o _ (λ x y p. refl)
  effect_burnt image s i.Lt o = two_burnt o _ (λ x y p. refl)
  effect_burnt image s i.Le o = two_burnt o _ (λ x y p. refl)
  effect_burnt image s i.Gt o = two_burnt o _ (λ x y p. refl)
  effect_burnt image s i.Ge o = two_burnt o _ (λ x y p. refl)
  effect_burnt image s i.Mul o = two_burnt o _ (λ x y p. answer_burnt (product x y) p)
  effect_burnt image s i.Div o = two_burnt o _ (λ x y p. answer_burnt (quotient x y) p)
  effect_burnt image s i.Mod o = two_burnt o _ (λ x y p. answer_burnt (remainder x y) p)
  effect_burnt image s (i.Range low high) o = one_burnt o _ (λ x p. if_burnt (within low high x) _ _ _ _ refl refl)
  effect_burnt image s (i.JumpZero t) o = one_burnt o _ (λ x p. if_burnt (is_zero x) _ _ _ _ (go_burnt t p) refl)
  effect_burnt image s (i.Jump t) o = go_burnt t o
  effect_burnt image s (i.Repeats n) o = from_burnt n o
  effect_burnt image s (i.Repeat t) o = down_burnt o.job.operands t o
  effect_burnt image s (i.Exit t) o = one_burnt o _ (λ x p. if_burnt (is_zero x) _ _ _ _ refl (drop_burnt p.job.operands t p))
  effect_burnt image s (i.Call r) o = call_burnt (table.routine image r) o
  effect_burnt image s i.Return o = back_burnt o.job.callers o _ (λ p. refl)
  effect_burnt image s i.ReturnValue o = one_burnt o _ (λ x p. back_burnt p.job.callers p _ (λ q. refl))
  effect_burnt image s (i.Enter m) o = enter_burnt image s m o
  effect_burnt image s (i.Leave m) o = leave_burnt m o
  effect_burnt image s (i.Wait c l n) o = wait_burnt (table.monitor_of image c) c l n o
  effect_burnt image s (i.Reenter m) o = enter_burnt image s m o
  effect_burnt image s (i.Signal c) o = signal_burnt (table.queue s c) c o
  effect_burnt image s (i.Broadcast c) o = broadcast_burnt (table.queue s c) c o
  effect_burnt image s (i.Empty c) o = empty_burnt (table.queue s c) c o
  effect_burnt image s (i.In x) o = get_burnt (table.word_at s.devices x) x o
  effect_burnt image s (i.Out x) o = one_burnt o _ (λ v p. put_burnt (table.word_at s.devices x) x v p)
  effect_burnt image s (i.Raise n) o = raise_burnt n
  effect_burnt image s i.End o = refl
