-- What an instruction that others see finds, and what its code has done.
use Rattle.std.proofs.Common.{rules, ◌≡◌, ◌<◌, ℕ, Bool, true, false, List, [], ◌∷◌, Option, Some, None, length, refl, ap, sym, subst, arith}
use Rattle.std.specs.Prelude.{ℤ, pos, negsuc, nat_eq, slice_get, unsigned_abs}
use Rattle.std.proofs.lemmas.Option.{slice_get_within}
use Rattle.machine_isa.specs.declared.instr.Instr.{Instr}
use Rattle.machine_isa.specs.declared.instr.Instr.TheVariants as i
use Rattle.base.specs.declared.event.Act.{Act}
use Rattle.machine_semantics.specs.Image.{Image}
use Rattle.machine_semantics.specs.State.{Operand, Value, Counter, State, is_free, is_inside}
use Rattle.machine_semantics.specs.Effect.{Own, Outcome, Does, Waits, effect, enter, enters, wait, waits, monitor_of, queue, signal, broadcast, put, take_one, holding, word_at}
use Rattle.vm_instructions.specs.Frames.{Frames, IsValueFirst}
use Rattle.vm_state.specs.declared.visible_effects.WaitRequest.{WaitRequest}
use Rattle.vm_state.specs.Seen.{DoesEmpty, DoesEnter, DoesGet, DoesLeave, DoesPut, DoesWait, with_inside}
use Rattle.vm_instructions.specs.Steps.{HasWord}
use Rattle.vm_instructions.specs.declared.activation.Activation.{Activation as Kept}
use Rattle.vm_instructions.specs.Silent.{own_of}
use Rattle.vm_turn.specs.Own.{CanCome}

-- ---- monitors

-- the monitor is free, and the process inside none
pub record Outside (s : State) (m : ℤ) (o : Own) : Type 0 where
  pub free : is_free (unsigned_abs m) s.threads ≡ true
  pub none : o.job.inside ≡ None

pub outside_of : (image : Image) (s : State) (m : ℤ) (o : Own) (room : ℕ) → CanCome room (enter image s m o) → Outside s m o
outside_of image s (negsuc n) o room can = absurd can
outside_of image s (pos m) o room can = by (is_free m s.threads) o.job.inside refl refl can where
  by : (b : Bool) (inside : Option ℕ) → is_free m s.threads ≡ b → o.job.inside ≡ inside → CanCome room (enters b inside m o) → Outside s (pos m) o
  by true None free none can' = record { free = free; none = none }
  by true (Some n) free none can' = absurd can'
  by false inside free none can' = absurd can'

-- the monitor that the process waits outside
pub record WaitsIn (image : Image) (c : ℤ) (o : Own) : Type 0 where
  pub m : ℕ
  pub monitor : monitor_of image c ≡ Some m
  pub inside : o.job.inside ≡ Some m

inside_m : (m : ℕ) (inside : Option ℕ) (room : ℕ) (c limit number : ℤ) (o : Own) → CanCome room (waits (is_inside m inside) c limit number o) → inside ≡ Some m
inside_m m None room c limit number o can = absurd can
inside_m m (Some n) room c limit number o can = by (nat_eq m n) refl can where
  by : (b : Bool) → nat_eq m n ≡ b → CanCome room (waits b c limit number o) → Some n ≡ Some m
  by true is can' = let e : m ≡ n = search rules in ap (λ (k : ℕ). Some k) (sym e)
  by false is can' = absurd can'

pub waits_in : (image : Image) (c limit number : ℤ) (o : Own) (room : ℕ) → CanCome room (wait (monitor_of image c) c limit number o) → WaitsIn image c o
waits_in image c limit number o room can = by (monitor_of image c) refl can where
  by : (m : Option ℕ) → monitor_of image c ≡ m → CanCome room (wait m c limit number o) → WaitsIn image c o
  by None is can' = absurd can'
  by (Some m) is can' = record { m = m; monitor = is; inside = inside_m m o.job.inside room c limit number o can' }

pub below_conditions : (image : Image) (c : ℤ) (o : Own) → WaitsIn image c o → unsigned_abs c < length image.conditions
below_conditions image (pos c) o h = slice_get_within image.conditions c h.m h.monitor
below_conditions image (negsuc c) o h = absurd cc

-- ---- queues

-- there is such a queue
pub below_queues : (s : State) (c : ℤ) (room : ℕ) (go : Option (List ℕ) → Outcome) → (CanCome room (go None) → ⊥) → CanCome room (go (queue s c)) → unsigned_abs c < length s.queues
below_queues s (negsuc n) room go none can = absurd (none can)
below_queues s (pos c) room go none can = by (slice_get s.queues c) refl can where
  by : (q : Option (List ℕ)) → slice_get s.queues c ≡ q → CanCome room (go q) → c < length s.queues
  by None is can' = absurd (none can')
  by (Some q) is can' = slice_get_within s.queues c q is

pub signals_below : (s : State) (c : ℤ) (room : ℕ) (o : Own) → CanCome room (signal (queue s c) c o) → unsigned_abs c < length s.queues
signals_below s c room o can = below_queues s c room (λ q. signal q c o) (λ n. n) can

pub broadcasts_below : (s : State) (c : ℤ) (room : ℕ) (o : Own) → CanCome room (broadcast (queue s c) c o) → unsigned_abs c < length s.queues
broadcasts_below s c room o can = below_queues s c room (λ q. broadcast q c o) (λ n. n) can

-- ---- devices

-- the top operand is a value, and there is such a device
pub record Puts (devices : List ℤ) (d : ℤ) (operands : List Operand) : Type 0 where
  pub first : IsValueFirst operands
  pub there : HasWord devices d

puts_word : (devices : List ℤ) (d x : ℤ) (room : ℕ) (o : Own) → CanCome room (put (word_at devices d) d x o) → HasWord devices d
puts_word devices (negsuc n) x room o can = can
puts_word devices (pos d) x room o can = by (slice_get devices d) refl can where
  by : (w : Option ℤ) → slice_get devices d ≡ w → CanCome room (put w (pos d) x o) → d < length devices
  by None is can' = absurd can'
  by (Some z) is can' = slice_get_within devices d z is

pub puts_of : (devices : List ℤ) (d : ℤ) (room : ℕ) (os : List Operand) (o : Own) → CanCome room (take_one os o (λ x p. put (word_at devices d) d x p)) → Puts devices d os
puts_of devices d room [] o can = absurd can
puts_of devices d room (Counter n ∷ rest) o can = absurd can
puts_of devices d room (Value x ∷ rest) o can = record { first = tt; there = puts_word devices d x room (holding rest o) can }

-- ---- what the code has done

pub enter_comes : (image : Image) (s : State) (given : Instr) (m : ℤ) (job : Kept) (owned shared : List ℤ) (act : Act) (inside : Option ℕ) → given ≡ i.Enter m → DoesEnter m job.inside act inside
    → CanCome job.frames.room (effect image s given (own_of job owned shared)) → effect image s given (own_of job owned shared) ≡ Does act (own_of (record job { inside = inside }) owned shared)
enter_comes image s given m job owned shared act inside is does =
    let o : Own = own_of job owned shared in
    subst (λ (x : Instr). CanCome job.frames.room (effect image s x o) → effect image s x o ≡ Does act (own_of (record job { inside = inside }) owned shared)) (sym is)
    (λ can. (does image s o (outside_of image s m o job.frames.room can).free).0)

pub reenter_comes : (image : Image) (s : State) (given : Instr) (m : ℤ) (job : Kept) (owned shared : List ℤ) (act : Act) (inside : Option ℕ) → given ≡ i.Reenter m → DoesEnter m job.inside act inside
    → CanCome job.frames.room (effect image s given (own_of job owned shared)) → effect image s given (own_of job owned shared) ≡ Does act (own_of (record job { inside = inside }) owned shared)
reenter_comes image s given m job owned shared act inside is does =
    let o : Own = own_of job owned shared in
    subst (λ (x : Instr). CanCome job.frames.room (effect image s x o) → effect image s x o ≡ Does act (own_of (record job { inside = inside }) owned shared)) (sym is)
    (λ can. (does image s o (outside_of image s m o job.frames.room can).free).1)

pub leave_comes : (image : Image) (s : State) (given : Instr) (m : ℤ) (job : Kept) (owned shared : List ℤ) (act : Act) (inside : Option ℕ) → given ≡ i.Leave m → DoesLeave m job.inside act inside
    → effect image s given (own_of job owned shared) ≡ Does act (own_of (record job { inside = inside }) owned shared)
leave_comes image s given m job owned shared act inside is does =
    subst (λ (x : Instr). effect image s x (own_of job owned shared) ≡ Does act (own_of (record job { inside = inside }) owned shared)) (sym is) (does image s (own_of job owned shared))

pub wait_comes : (image : Image) (s : State) (given : Instr) (c limit number : ℤ) (job : Kept) (owned shared : List ℤ) (w : WaitRequest) (inside : Option ℕ) → given ≡ i.Wait c limit number → DoesWait c limit number job.inside w inside
    → CanCome job.frames.room (effect image s given (own_of job owned shared)) → effect image s given (own_of job owned shared) ≡ Waits w.condition w.limit w.number (own_of (record job { inside = inside }) owned shared)
wait_comes image s given c limit number job owned shared w inside is does =
    let o : Own = own_of job owned shared in
    subst (λ (x : Instr). CanCome job.frames.room (effect image s x o) → effect image s x o ≡ Waits w.condition w.limit w.number (own_of (record job { inside = inside }) owned shared)) (sym is)
    (λ can. let h = waits_in image c limit number o job.frames.room can in does image s o h.m h.monitor h.inside)

pub empty_comes : (image : Image) (s : State) (given : Instr) (c : ℤ) (queues : List (List ℕ)) (job : Kept) (owned shared : List ℤ) (act : Act) (f : Frames) → given ≡ i.Empty c → DoesEmpty c queues job.frames act f → s.queues ≡ queues
    → effect image s given (own_of job owned shared) ≡ Does act (own_of (record job { frames = f }) owned shared)
empty_comes image s given c queues job owned shared act f is does same =
    subst (λ (x : Instr). effect image s x (own_of job owned shared) ≡ Does act (own_of (record job { frames = f }) owned shared)) (sym is) (does image s (own_of job owned shared) same)

pub get_comes : (image : Image) (s : State) (given : Instr) (d : ℤ) (devices : List ℤ) (job : Kept) (owned shared : List ℤ) (act : Act) (f : Frames) → given ≡ i.In d → DoesGet d devices job.frames act f → s.devices ≡ devices
    → effect image s given (own_of job owned shared) ≡ Does act (own_of (record job { frames = f }) owned shared)
get_comes image s given d devices job owned shared act f is does same =
    subst (λ (x : Instr). effect image s x (own_of job owned shared) ≡ Does act (own_of (record job { frames = f }) owned shared)) (sym is) (does image s (own_of job owned shared) same)

pub waits_is : (image : Image) (c limit number : ℤ) (o : Own) (room : ℕ) → CanCome room (wait (monitor_of image c) c limit number o) → wait (monitor_of image c) c limit number o ≡ Waits (unsigned_abs c) (unsigned_abs limit) (unsigned_abs number) (with_inside None o)
waits_is image c limit number o room can = by (monitor_of image c) can where
  now : (b : Bool) (limit number : ℤ) → CanCome room (waits b c limit number o) → waits b c limit number o ≡ Waits (unsigned_abs c) (unsigned_abs limit) (unsigned_abs number) (with_inside None o)
  now true (pos l) (pos n) can' = refl
  now true (pos l) (negsuc n) can' = absurd can'
  now true (negsuc l) number can' = absurd can'
  now false limit number can' = absurd can'

  by : (m : Option ℕ) → CanCome room (wait m c limit number o) → wait m c limit number o ≡ Waits (unsigned_abs c) (unsigned_abs limit) (unsigned_abs number) (with_inside None o)
  by None can' = absurd can'
  by (Some m) can' = now (is_inside m o.job.inside) limit number can'

-- ---- the condition is one that there is

pub wait_among : (image : Image) (s : State) (given : Instr) (c limit number : ℤ) (job : Kept) (owned shared : List ℤ) (w : WaitRequest) (inside : Option ℕ) (n : ℕ) → given ≡ i.Wait c limit number → DoesWait c limit number job.inside w inside
    → length image.conditions ≡ n → CanCome job.frames.room (effect image s given (own_of job owned shared)) → w.condition < n
wait_among image s given c limit number job owned shared w inside n is does count =
    let o : Own = own_of job owned shared in
    subst (λ (x : Instr). CanCome job.frames.room (effect image s x o) → w.condition < n) (sym is)
    (λ can.
    let h = waits_in image c limit number o job.frames.room can in
    let a = waits_is image c limit number o job.frames.room can in
    let b = does image s o h.m h.monitor h.inside in
    let e : w.condition ≡ unsigned_abs c = cc (a, b) in
    omega (arith, e, below_conditions image c o h, count))

pub signal_among : (image : Image) (s : State) (given : Instr) (c : ℤ) (o : Own) (room n : ℕ) → given ≡ i.Signal c → length s.queues ≡ n → CanCome room (effect image s given o) → unsigned_abs c < n
signal_among image s given c o room n is count =
    subst (λ (x : Instr). CanCome room (effect image s x o) → unsigned_abs c < n) (sym is) (λ can. omega (arith, signals_below s c room o can, count))

pub broadcast_among : (image : Image) (s : State) (given : Instr) (c : ℤ) (o : Own) (room n : ℕ) → given ≡ i.Broadcast c → length s.queues ≡ n → CanCome room (effect image s given o) → unsigned_abs c < n
broadcast_among image s given c o room n is count =
    subst (λ (x : Instr). CanCome room (effect image s x o) → unsigned_abs c < n) (sym is) (λ can. omega (arith, broadcasts_below s c room o can, count))

pub puts_comes : (image : Image) (s : State) (given : Instr) (d : ℤ) (job : Kept) (owned shared : List ℤ) (act : Act) (f : Frames) → given ≡ i.Out d → DoesPut d job.frames act f
    → CanCome job.frames.room (effect image s given (own_of job owned shared)) → effect image s given (own_of job owned shared) ≡ Does act (own_of (record job { frames = f }) owned shared)
puts_comes image s given d job owned shared act f is does =
    let o : Own = own_of job owned shared in
    subst (λ (x : Instr). CanCome job.frames.room (effect image s x o) → effect image s x o ≡ Does act (own_of (record job { frames = f }) owned shared)) (sym is)
    (λ can. does image s o (puts_of s.devices d job.frames.room job.frames.operands o can).there)
