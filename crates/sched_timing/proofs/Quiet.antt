-- No instruction tells a release.
use Rattle.std.proofs.Common.{◌≡◌, ◌+◌, ℕ, zero, suc, List, [], ◌∷◌, Option, Some, None, refl, true, false, Bool}
use Rattle.std.specs.Prelude.{ℤ, pos, negsuc, ◌+ℤ◌, ◌-ℤ◌, cond, int_le, int_lt, ◌&&◌, ◌||◌, not, slice_get, nat_lt}
use Rattle.machine_isa.specs.declared.instr.Instr.{Instr}
use Rattle.machine_isa.specs.declared.instr.Instr.TheVariants as i
use Rattle.machine_isa.specs.Ticks.{ticks}
use Rattle.base.specs.declared.event.Act.{Act}
use Rattle.base.specs.declared.event.Act.TheVariants as act
use Rattle.base.specs.Words.{Answer, word, raised, sum, difference, product, negated, quotient, remainder, of_bool, is_true, is_zero, same, within}
use Rattle.machine_semantics.specs.Image.{Image, Routine}
use Rattle.machine_semantics.specs.State.{Operand, Value, Counter, Caller, Job, State, is_free, is_inside}
use Rattle.machine_semantics.specs.Effect.{Own, Outcome, Goes, Does, Signals, Broadcasts, Waits, Raises, Ends, Stuck, effect, holding, give, take_one, one, two, answer, word_at, load, set_local, set_own, set_shared, store, is_reached, load_mon, store_mon, element, go_to, count_from, count_down, drop_counter, arguments, called, call, back, routine, enters, enter, leaves, leave, monitor_of, waits, wait, queue, signal, broadcast, empty, get, put, raise}
use Rattle.machine_semantics.specs.Tick.{outcome, outcome_at, at_next}

abbrev pub is_release : Act → Bool
is_release act.Release = true
is_release _ = false

-- the outcome is no release
abbrev pub IsQuiet : Outcome → Type 0
IsQuiet (Goes o) = Unit {0}
IsQuiet (Does a o) = is_release a ≡ false
IsQuiet (Signals c o) = Unit {0}
IsQuiet (Broadcasts c o) = Unit {0}
IsQuiet (Waits c limit number o) = Unit {0}
IsQuiet (Raises number) = Unit {0}
IsQuiet Ends = Unit {0}
IsQuiet Stuck = Unit {0}

either : (b : Bool) (x y : Outcome) → IsQuiet x → IsQuiet y → IsQuiet (cond b x y)
either true x y p q = p
either false x y p q = q

take_quiet : (xs : List Operand) (o : Own) (go : ℤ → Own → Outcome) → ((z : ℤ) (q : Own) → IsQuiet (go z q)) → IsQuiet (take_one xs o go)
take_quiet (Value x ∷ rest) o go quiet = quiet x (holding rest o)
take_quiet (Counter n ∷ rest) o go quiet = tt
take_quiet [] o go quiet = tt

one_quiet : (o : Own) (go : ℤ → Own → Outcome) → ((z : ℤ) (q : Own) → IsQuiet (go z q)) → IsQuiet (one o go)
one_quiet o go quiet = take_quiet o.job.operands o go quiet

two_quiet : (o : Own) (go : ℤ → ℤ → Own → Outcome) → ((x y : ℤ) (q : Own) → IsQuiet (go x y q)) → IsQuiet (two o go)
two_quiet o go quiet = one_quiet o (λ y p. one p (λ x q. go x y q)) (λ y p. one_quiet p (λ x q. go x y q) (λ x q. quiet x y q))

answer_quiet : (a : Answer) (o : Own) → IsQuiet (answer a o)
answer_quiet (word z) o = tt
answer_quiet (raised number) o = tt

load_quiet : (w : Option ℤ) (o : Own) → IsQuiet (load w o)
load_quiet (Some z) o = tt
load_quiet None o = tt

store_quiet : (w : Option ℤ) (o : Own) → IsQuiet (store w o)
store_quiet (Some z) o = tt
store_quiet None o = tt

load_mon_quiet : (image : Image) (w : ℤ) (o : Own) → IsQuiet (load_mon image w o)
load_mon_quiet image w o = either (is_reached image o.job.inside w) (load (word_at o.shared w) o) Stuck (load_quiet (word_at o.shared w) o) tt

store_mon_quiet : (image : Image) (w z : ℤ) (o : Own) → IsQuiet (store_mon image w z o)
store_mon_quiet image w z o = either (is_reached image o.job.inside w) (store (word_at o.shared w) (set_shared w z o)) Stuck (store_quiet (word_at o.shared w) (set_shared w z o)) tt

element_quiet : (w low len index : ℤ) (go : ℤ → Outcome) → ((z : ℤ) → IsQuiet (go z)) → IsQuiet (element w low len index go)
element_quiet w low len index go quiet = either (int_le (pos 0) (index -ℤ low) && int_lt (index -ℤ low) len) (go (w +ℤ (index -ℤ low))) (Raises 3) (quiet (w +ℤ (index -ℤ low))) tt

go_quiet : (t : ℤ) (o : Own) → IsQuiet (go_to t o)
go_quiet (pos t) o = tt
go_quiet (negsuc n) o = tt

count_quiet : (n : ℤ) (o : Own) → IsQuiet (count_from n o)
count_quiet (pos n) o = tt
count_quiet (negsuc n) o = tt

down_quiet : (xs : List Operand) (t : ℤ) (o : Own) → IsQuiet (count_down xs t o)
down_quiet (Counter (suc (suc n)) ∷ rest) t o = go_quiet t (holding (Counter (suc n) ∷ rest) o)
down_quiet (Counter (suc zero) ∷ rest) t o = tt
down_quiet (Counter zero ∷ rest) t o = tt
down_quiet (Value x ∷ rest) t o = tt
down_quiet [] t o = tt

drop_quiet : (xs : List Operand) (t : ℤ) (o : Own) → IsQuiet (drop_counter xs t o)
drop_quiet (Counter n ∷ rest) t o = go_quiet t (holding rest o)
drop_quiet (Value x ∷ rest) t o = tt
drop_quiet [] t o = tt

called_quiet : (r : Routine) (taken : Option (List ℤ × List Operand)) (o : Own) → IsQuiet (called r taken o)
called_quiet r None o = tt
called_quiet r (Some taken) o = tt

call_quiet : (r : Option Routine) (o : Own) → IsQuiet (call r o)
call_quiet None o = tt
call_quiet (Some r) o = called_quiet r (arguments r.params o.job.operands []) o

back_quiet : (cs : List Caller) (o : Own) (go : Own → Own) → IsQuiet (back cs o go)
back_quiet [] o go = tt
back_quiet (c ∷ cs) o go = tt

enters_quiet : (b : Bool) (inside : Option ℕ) (m : ℕ) (o : Own) → IsQuiet (enters b inside m o)
enters_quiet true None m o = refl
enters_quiet true (Some n) m o = tt
enters_quiet false inside m o = tt

enter_quiet : (image : Image) (s : State) (m : ℤ) (o : Own) → IsQuiet (enter image s m o)
enter_quiet image s (pos m) o = enters_quiet (is_free m s.threads) o.job.inside m o
enter_quiet image s (negsuc n) o = tt

leaves_quiet : (b : Bool) (m : ℕ) (o : Own) → IsQuiet (leaves b m o)
leaves_quiet true m o = refl
leaves_quiet false m o = tt

leave_quiet : (m : ℤ) (o : Own) → IsQuiet (leave m o)
leave_quiet (pos m) o = leaves_quiet (is_inside m o.job.inside) m o
leave_quiet (negsuc n) o = tt

waits_quiet : (b : Bool) (c limit number : ℤ) (o : Own) → IsQuiet (waits b c limit number o)
waits_quiet true c (pos limit) (pos number) o = tt
waits_quiet true c (pos limit) (negsuc n) o = tt
waits_quiet true c (negsuc n) number o = tt
waits_quiet false c limit number o = tt

wait_quiet : (m : Option ℕ) (c limit number : ℤ) (o : Own) → IsQuiet (wait m c limit number o)
wait_quiet (Some m) c limit number o = waits_quiet (is_inside m o.job.inside) c limit number o
wait_quiet None c limit number o = tt

signal_quiet : (q : Option (List ℕ)) (c : ℤ) (o : Own) → IsQuiet (signal q c o)
signal_quiet (Some waiting) c o = tt
signal_quiet None c o = tt

broadcast_quiet : (q : Option (List ℕ)) (c : ℤ) (o : Own) → IsQuiet (broadcast q c o)
broadcast_quiet (Some waiting) c o = tt
broadcast_quiet None c o = tt

empty_quiet : (q : Option (List ℕ)) (c : ℤ) (o : Own) → IsQuiet (empty q c o)
empty_quiet (Some waiting) c o = refl
empty_quiet None c o = tt

get_quiet : (v : Option ℤ) (d : ℤ) (o : Own) → IsQuiet (get v d o)
get_quiet (Some value) d o = refl
get_quiet None d o = tt

put_quiet : (v : Option ℤ) (d value : ℤ) (o : Own) → IsQuiet (put v d value o)
put_quiet (Some old) d value o = refl
put_quiet None d value o = tt

raise_quiet : (e : ℤ) → IsQuiet (raise e)
raise_quiet (pos number) = tt
raise_quiet (negsuc n) = tt

effect_quiet : (image : Image) (s : State) (instr : Instr) (o : Own) → IsQuiet (effect image s instr o)
effect_quiet image s (i.Push value) o = tt
effect_quiet image s (i.LoadLocal w) o = load_quiet (word_at o.job.locals w) o
effect_quiet image s (i.StoreLocal w) o = one_quiet o (λ x p. store (word_at p.job.locals w) (set_local w x p)) (λ x p. store_quiet (word_at p.job.locals w) (set_local w x p))
effect_quiet image s (i.LoadOwn w) o = load_quiet (word_at o.owned w) o
effect_quiet image s (i.StoreOwn w) o = one_quiet o (λ x p. store (word_at p.owned w) (set_own w x p)) (λ x p. store_quiet (word_at p.owned w) (set_own w x p))
effect_quiet image s (i.LoadMon w) o = load_mon_quiet image w o
effect_quiet image s (i.StoreMon w) o = one_quiet o (λ x p. store_mon image w x p) (λ x p. store_mon_quiet image w x p)
effect_quiet image s (i.LoadLocalAt w low len) o = one_quiet o (λ x p. element w low len x (λ e. load (word_at p.job.locals e) p)) (λ x p. element_quiet w low len x (λ e. load (word_at p.job.locals e) p) (λ e. load_quiet (word_at p.job.locals e) p))
effect_quiet image s (i.StoreLocalAt w low len) o =
    two_quiet o (λ x y p. element w low len x (λ e. store (word_at p.job.locals e) (set_local e y p))) (λ x y p. element_quiet w low len x (λ e. store (word_at p.job.locals e) (set_local e y p)) (λ e. store_quiet (word_at p.job.locals e) (set_local e y p)))
effect_quiet image s (i.LoadOwnAt w low len) o = one_quiet o (λ x p. element w low len x (λ e. load (word_at p.owned e) p)) (λ x p. element_quiet w low len x (λ e. load (word_at p.owned e) p) (λ e. load_quiet (word_at p.owned e) p))
effect_quiet image s (i.StoreOwnAt w low len) o =
    two_quiet o (λ x y p. element w low len x (λ e. store (word_at p.owned e) (set_own e y p))) (λ x y p. element_quiet w low len x (λ e. store (word_at p.owned e) (set_own e y p)) (λ e. store_quiet (word_at p.owned e) (set_own e y p)))
effect_quiet image s (i.LoadMonAt w low len) o = one_quiet o (λ x p. element w low len x (λ e. load_mon image e p)) (λ x p. element_quiet w low len x (λ e. load_mon image e p) (λ e. load_mon_quiet image e p))
effect_quiet image s (i.StoreMonAt w low len) o = two_quiet o (λ x y p. element w low len x (λ e. store_mon image e y p)) (λ x y p. element_quiet w low len x (λ e. store_mon image e y p) (λ e. store_mon_quiet image e y p))
effect_quiet image s i.Neg o = one_quiet o (λ x p. answer (negated x) p) (λ x p. answer_quiet (negated x) p)
effect_quiet image s i.Not o = one_quiet o (λ x p. Goes (give (of_bool (is_zero x)) p)) (λ x p. tt)
effect_quiet image s i.And o = two_quiet o (λ x y p. Goes (give (of_bool (is_true x && is_true y)) p)) (λ x y p. tt)
effect_quiet image s i.Or o = two_quiet o (λ x y p. Goes (give (of_bool (is_true x || is_true y)) p)) (λ x y p. tt)
effect_quiet image s i.Add o = two_quiet o (λ x y p. answer (sum x y) p) (λ x y p. answer_quiet (sum x y) p)
effect_quiet image s i.Sub o = two_quiet o (λ x y p. answer (difference x y) p) (λ x y p. answer_quiet (difference x y) p)
effect_quiet image s i.Eq o = two_quiet o (λ x y p. Goes (give (of_bool (same x y)) p)) (λ x y p. tt)
effect_quiet image s i.Ne o = two_quiet o (λ x y p. Goes (give (of_bool (not (same x y))) p)) (λ x y p. tt)
effect_quiet image s i.Lt o = two_quiet o (λ x y p. Goes (give (of_bool (int_lt x y)) p)) (λ x y p. tt)
effect_quiet image s i.Le o = two_quiet o (λ x y p. Goes (give (of_bool (int_le x y)) p)) (λ x y p. tt)
effect_quiet image s i.Gt o = two_quiet o (λ x y p. Goes (give (of_bool (int_lt y x)) p)) (λ x y p. tt)
effect_quiet image s i.Ge o = two_quiet o (λ x y p. Goes (give (of_bool (int_le y x)) p)) (λ x y p. tt)
effect_quiet image s i.Mul o = two_quiet o (λ x y p. answer (product x y) p) (λ x y p. answer_quiet (product x y) p)
effect_quiet image s i.Div o = two_quiet o (λ x y p. answer (quotient x y) p) (λ x y p. answer_quiet (quotient x y) p)
effect_quiet image s i.Mod o = two_quiet o (λ x y p. answer (remainder x y) p) (λ x y p. answer_quiet (remainder x y) p)
effect_quiet image s (i.Range low high) o = one_quiet o (λ x p. cond (within low high x) (Goes (give x p)) (Raises 3)) (λ x p. either (within low high x) (Goes (give x p)) (Raises 3) tt tt)
effect_quiet image s (i.JumpZero t) o = one_quiet o (λ x p. cond (is_zero x) (go_to t p) (Goes p)) (λ x p. either (is_zero x) (go_to t p) (Goes p) (go_quiet t p) tt)
effect_quiet image s (i.Jump t) o = go_quiet t o
effect_quiet image s (i.Repeats turns) o = count_quiet turns o
effect_quiet image s (i.Repeat t) o = down_quiet o.job.operands t o
effect_quiet image s (i.Exit t) o = one_quiet o (λ x p. cond (is_zero x) (Goes p) (drop_counter p.job.operands t p)) (λ x p. either (is_zero x) (Goes p) (drop_counter p.job.operands t p) tt (drop_quiet p.job.operands t p))
effect_quiet image s (i.Call r) o = call_quiet (routine image r) o
effect_quiet image s i.Return o = back_quiet o.job.callers o (λ p. p)
effect_quiet image s i.ReturnValue o = one_quiet o (λ x p. back p.job.callers p (give x)) (λ x p. back_quiet p.job.callers p (give x))
effect_quiet image s (i.Enter m) o = enter_quiet image s m o
effect_quiet image s (i.Leave m) o = leave_quiet m o
effect_quiet image s (i.Wait c limit number) o = wait_quiet (monitor_of image c) c limit number o
effect_quiet image s (i.Reenter m) o = enter_quiet image s m o
effect_quiet image s (i.Signal c) o = signal_quiet (queue s c) c o
effect_quiet image s (i.Broadcast c) o = broadcast_quiet (queue s c) c o
effect_quiet image s (i.Empty c) o = empty_quiet (queue s c) c o
effect_quiet image s (i.In d) o = get_quiet (word_at s.devices d) d o
effect_quiet image s (i.Out d) o = one_quiet o (λ x p. put (word_at s.devices d) d x p) (λ x p. put_quiet (word_at s.devices d) d x p)
effect_quiet image s (i.Raise e) o = raise_quiet e
effect_quiet image s i.End o = tt

-- a tick of a process tells no release
pub outcome_quiet : (image : Image) (s : State) (job : Job) (owned : List ℤ) (dispatch_ticks : ℕ) → IsQuiet (outcome image s job owned dispatch_ticks)
outcome_quiet image s job owned (suc n) = tt
outcome_quiet image s job owned zero = by (slice_get image.code job.place) where
  by : (x : Option Instr) → IsQuiet (outcome_at image s job owned x)
  by None = tt
  by (Some instr) =
      either (nat_lt (job.done + 1) (ticks instr)) (Goes (record { job = record job { done = job.done + 1 }; owned = owned; shared = s.shared })) (effect image s instr (record { job = at_next job; owned = owned; shared = s.shared })) tt
      (effect_quiet image s instr (record { job = at_next job; owned = owned; shared = s.shared }))
