-- What an instruction makes of words of 32 bits has 32 bits, and what it shows others fits a line.
use Rattle.std.proofs.Common.{◌≡◌, ◌<◌, ◌+◌, ◌-◌, ◌^◌, ℕ, zero, suc, ℤ, pos, negsuc, Bool, true, false, List, [], ◌∷◌, Option, Some, None, arith, refl, ap}
use Rattle.std.specs.Prelude.{◌+ℤ◌, ◌-ℤ◌, ◌*ℤ◌, neg_ℤ, ◌&&◌, ◌||◌, not, int_lt, int_le, if◌then◌else◌, unsigned_abs, nat_lt, slice_get}
use Rattle.text_fields.specs.Fields.{Is32}
use Rattle.machine_isa.specs.Bytes.{HasWords}
use Rattle.machine_isa.specs.declared.instr.Instr.{Instr}
use Rattle.machine_isa.specs.declared.instr.Instr.TheVariants as i
use Rattle.machine_isa.specs.Ticks.{ticks}
use Rattle.event_log.specs.Logs.{ActFits}
use Rattle.machine_semantics.specs.Image.{Image, Routine}
use Rattle.machine_semantics.specs.State.{Operand, Value, Counter, Caller, Job, State, zeros, is_free, is_inside}
use Rattle.machine_semantics.specs.Effect as m
use Rattle.machine_semantics.specs.Effect.{Own, Outcome, Goes, Does, Signals, Broadcasts, Waits, Raises, Ends, Stuck, effect}
use Rattle.machine_semantics.specs.Tick.{at_next, outcome_at, outcome}
use Rattle.base.specs.Words.{Answer, word, raised, sum, difference, product, negated, quotient, remainder, of_bool, is_true, is_zero, same, within}
use Rattle.machine_semantics.specs.Part.{IsBelow}
use Rattle.vm_law.specs.Operands.{IsThere, AreThere}
use Rattle.replay_law.proofs.Words.{Each, Opt, joined_each, set_each, get_each, of_signed, truth_word, AnswerFits, in_word_fits, quotient_fits, remainder_fits, zeros_each, OperandFits, CallerFits, JobFits}

pub record OwnFits (o : Own) : Type 0 where
  pub job : JobFits o.job
  pub owned : Each Is32 o.owned
  pub shared : Each Is32 o.shared

-- what the outcome leaves has 32 bits, and what it shows others fits
abbrev pub Fits : Outcome → Type 0
Fits (Goes o) = OwnFits o
Fits (Does a o) = ActFits a × OwnFits o
Fits (Signals c o) = OwnFits o
Fits (Broadcasts c o) = OwnFits o
Fits (Waits c limit number o) = (number < 2 ^ 16) × OwnFits o
Fits (Raises number) = number < 2 ^ 16
Fits Ends = Unit {0}
Fits Stuck = Unit {0}

-- ---- operands

either_fits : (b : Bool) (x y : Outcome) → Fits x → Fits y → Fits (if b then x else y)
either_fits true x y p q = p
either_fits false x y p q = q

holding_fits : (xs : List Operand) (o : Own) → Each OperandFits xs → OwnFits o → OwnFits (m.holding xs o)
holding_fits xs o values fits = record {
  job = record { locals = fits.job.locals; operands = values; callers = fits.job.callers };
  owned = fits.owned;
  shared = fits.shared;
}

give_fits : (z : ℤ) (o : Own) → Is32 z → OwnFits o → OwnFits (m.give z o)
give_fits z o value fits = holding_fits (Value z ∷ o.job.operands) o (value, fits.job.operands) fits

truth_fits : (b : Bool) (o : Own) → OwnFits o → OwnFits (m.give (of_bool b) o)
truth_fits b o fits = give_fits (of_bool b) o (truth_word b) fits

take_fits : (xs : List Operand) (o : Own) (go : ℤ → Own → Outcome) → Each OperandFits xs → OwnFits o → ((x : ℤ) (p : Own) → Is32 x → OwnFits p → Fits (go x p)) → Fits (m.take_one xs o go)
take_fits (Value x ∷ rest) o go values fits all = all x (m.holding rest o) values.0 (holding_fits rest o values.1 fits)
take_fits (Counter n ∷ rest) o go values fits all = tt
take_fits [] o go values fits all = tt

one_fits : (o : Own) (go : ℤ → Own → Outcome) → OwnFits o → ((x : ℤ) (p : Own) → Is32 x → OwnFits p → Fits (go x p)) → Fits (m.one o go)
one_fits o go fits all = take_fits o.job.operands o go fits.job.operands fits all

two_fits : (o : Own) (go : ℤ → ℤ → Own → Outcome) → OwnFits o → ((x y : ℤ) (p : Own) → Is32 x → Is32 y → OwnFits p → Fits (go x y p)) → Fits (m.two o go)
two_fits o go fits all =
    one_fits o (λ y p. m.one p (λ x q. go x y q)) fits (λ y p value own. one_fits p (λ x q. go x y q) own (λ x q other rest. all x y q other value rest))

answer_fits : (a : Answer) (o : Own) → AnswerFits a → OwnFits o → Fits (m.answer a o)
answer_fits (word z) o is fits = give_fits z o is fits
answer_fits (raised number) o is fits = is

-- ---- words

word_fits : (words : List ℤ) (w : ℤ) → Each Is32 words → Opt Is32 (m.word_at words w)
word_fits words (pos n) each = get_each Is32 words n each
word_fits words (negsuc n) each = tt

load_fits : (w : Option ℤ) (o : Own) → Opt Is32 w → OwnFits o → Fits (m.load w o)
load_fits (Some z) o value fits = give_fits z o value fits
load_fits None o value fits = tt

store_fits : (w : Option ℤ) (o : Own) → OwnFits o → Fits (m.store w o)
store_fits (Some z) o fits = fits
store_fits None o fits = tt

set_local_fits : (w z : ℤ) (o : Own) → Is32 z → OwnFits o → OwnFits (m.set_local w z o)
set_local_fits (pos n) z o value fits = record {
  job = record { locals = set_each Is32 o.job.locals n z value fits.job.locals; operands = fits.job.operands; callers = fits.job.callers };
  owned = fits.owned;
  shared = fits.shared;
}
set_local_fits (negsuc n) z o value fits = fits

set_own_fits : (w z : ℤ) (o : Own) → Is32 z → OwnFits o → OwnFits (m.set_own w z o)
set_own_fits (pos n) z o value fits = record {
  job = record { locals = fits.job.locals; operands = fits.job.operands; callers = fits.job.callers };
  owned = set_each Is32 o.owned n z value fits.owned;
  shared = fits.shared;
}
set_own_fits (negsuc n) z o value fits = fits

set_shared_fits : (w z : ℤ) (o : Own) → Is32 z → OwnFits o → OwnFits (m.set_shared w z o)
set_shared_fits (pos n) z o value fits = record {
  job = record { locals = fits.job.locals; operands = fits.job.operands; callers = fits.job.callers };
  owned = fits.owned;
  shared = set_each Is32 o.shared n z value fits.shared;
}
set_shared_fits (negsuc n) z o value fits = fits

load_local_fits : (w : ℤ) (o : Own) → OwnFits o → Fits (m.load (m.word_at o.job.locals w) o)
load_local_fits w o fits = load_fits (m.word_at o.job.locals w) o (word_fits o.job.locals w fits.job.locals) fits

load_own_fits : (w : ℤ) (o : Own) → OwnFits o → Fits (m.load (m.word_at o.owned w) o)
load_own_fits w o fits = load_fits (m.word_at o.owned w) o (word_fits o.owned w fits.owned) fits

load_mon_fits : (image : Image) (w : ℤ) (o : Own) → OwnFits o → Fits (m.load_mon image w o)
load_mon_fits image w o fits =
    either_fits (m.is_reached image o.job.inside w) (m.load (m.word_at o.shared w) o) Stuck (load_fits (m.word_at o.shared w) o (word_fits o.shared w fits.shared) fits) tt

store_local_fits : (w z : ℤ) (o : Own) → Is32 z → OwnFits o → Fits (m.store (m.word_at o.job.locals w) (m.set_local w z o))
store_local_fits w z o value fits = store_fits (m.word_at o.job.locals w) (m.set_local w z o) (set_local_fits w z o value fits)

store_own_fits : (w z : ℤ) (o : Own) → Is32 z → OwnFits o → Fits (m.store (m.word_at o.owned w) (m.set_own w z o))
store_own_fits w z o value fits = store_fits (m.word_at o.owned w) (m.set_own w z o) (set_own_fits w z o value fits)

store_mon_fits : (image : Image) (w z : ℤ) (o : Own) → Is32 z → OwnFits o → Fits (m.store_mon image w z o)
store_mon_fits image w z o value fits =
    either_fits (m.is_reached image o.job.inside w) (m.store (m.word_at o.shared w) (m.set_shared w z o)) Stuck
    (store_fits (m.word_at o.shared w) (m.set_shared w z o) (set_shared_fits w z o value fits)) tt

outside_fits : Fits (Raises 3)
outside_fits = omega arith

element_fits : (w low len index : ℤ) (go : ℤ → Outcome) → ((e : ℤ) → Fits (go e)) → Fits (m.element w low len index go)
element_fits w low len index go all = either_fits _ (go _) (Raises 3) (all _) outside_fits

-- ---- places, loops and calls

placed_fits : (t : ℕ) (o : Own) → OwnFits o → OwnFits (record o { job = record (o.job) { place = t } })
placed_fits t o fits = record {
  job = record { locals = fits.job.locals; operands = fits.job.operands; callers = fits.job.callers };
  owned = fits.owned;
  shared = fits.shared;
}

go_to_fits : (t : ℤ) (o : Own) → OwnFits o → Fits (m.go_to t o)
go_to_fits (pos t) o fits = placed_fits t o fits
go_to_fits (negsuc n) o fits = tt

count_from_fits : (t : ℤ) (o : Own) → OwnFits o → Fits (m.count_from t o)
count_from_fits (pos n) o fits = holding_fits (Counter n ∷ o.job.operands) o (tt, fits.job.operands) fits
count_from_fits (negsuc n) o fits = tt

count_down_fits : (xs : List Operand) (t : ℤ) (o : Own) → Each OperandFits xs → OwnFits o → Fits (m.count_down xs t o)
count_down_fits (Counter (suc (suc n)) ∷ rest) t o values fits = go_to_fits t (m.holding (Counter (suc n) ∷ rest) o) (holding_fits (Counter (suc n) ∷ rest) o (tt, values.1) fits)
count_down_fits (Counter (suc zero) ∷ rest) t o values fits = holding_fits rest o values.1 fits
count_down_fits (Counter zero ∷ rest) t o values fits = tt
count_down_fits (Value x ∷ rest) t o values fits = tt
count_down_fits [] t o values fits = tt

drop_counter_fits : (xs : List Operand) (t : ℤ) (o : Own) → Each OperandFits xs → OwnFits o → Fits (m.drop_counter xs t o)
drop_counter_fits (Counter n ∷ rest) t o values fits = go_to_fits t (m.holding rest o) (holding_fits rest o values.1 fits)
drop_counter_fits (Value x ∷ rest) t o values fits = tt
drop_counter_fits [] t o values fits = tt

abbrev TakenFit : Option (List ℤ × List Operand) → Type 0
TakenFit None = Unit {0}
TakenFit (Some taken) = Each Is32 taken.0 × Each OperandFits taken.1

arguments_fit : (n : ℕ) (xs : List Operand) (taken : List ℤ) → Each OperandFits xs → Each Is32 taken → TakenFit (m.arguments n xs taken)
arguments_fit zero xs taken values words = (words, values)
arguments_fit (suc n) (Value x ∷ xs) taken values words = arguments_fit n xs (x ∷ taken) values.1 (values.0, words)
arguments_fit (suc n) (Counter c ∷ xs) taken values words = tt
arguments_fit (suc n) [] taken values words = tt

called_fits : (r : Routine) (taken : Option (List ℤ × List Operand)) (o : Own) → TakenFit taken → OwnFits o → Fits (m.called r taken o)
called_fits r (Some taken) o both fits = record {
  job = record {
    locals = joined_each Is32 taken.0 (zeros (r.locals - r.params)) both.0 (zeros_each (r.locals - r.params));
    operands = tt;
    callers = (record { locals = fits.job.locals; operands = both.1 }, fits.job.callers);
  };
  owned = fits.owned;
  shared = fits.shared;
}
called_fits r None o both fits = tt

call_fits : (r : Option Routine) (o : Own) → OwnFits o → Fits (m.call r o)
call_fits (Some r) o fits = called_fits r (m.arguments r.params o.job.operands []) o (arguments_fit r.params o.job.operands [] fits.job.operands tt) fits
call_fits None o fits = tt

back_fits : (cs : List Caller) (o : Own) (go : Own → Own) → Each CallerFits cs → OwnFits o → ((p : Own) → OwnFits p → OwnFits (go p)) → Fits (m.back cs o go)
back_fits [] o go callers fits all = tt
back_fits (c ∷ cs) o go callers fits all =
    all (record o { job = record (o.job) { place = c.back; locals = c.locals; operands = c.operands; callers = cs } })
    (record { job = record { locals = callers.0.locals; operands = callers.0.operands; callers = callers.1 }; owned = fits.owned; shared = fits.shared })

-- ---- monitors, conditions, devices

inside_fits : (inside : Option ℕ) (o : Own) → OwnFits o → OwnFits (record o { job = record (o.job) { inside = inside } })
inside_fits inside o fits = record {
  job = record { locals = fits.job.locals; operands = fits.job.operands; callers = fits.job.callers };
  owned = fits.owned;
  shared = fits.shared;
}

enters_fits : (b : Bool) (inside : Option ℕ) (k : ℕ) (o : Own) → OwnFits o → Fits (m.enters b inside k o)
enters_fits true None k o fits = (tt, inside_fits (Some k) o fits)
enters_fits true (Some n) k o fits = tt
enters_fits false inside k o fits = tt

enter_fits : (image : Image) (s : State) (z : ℤ) (o : Own) → OwnFits o → Fits (m.enter image s z o)
enter_fits image s (pos k) o fits = enters_fits (is_free k s.threads) o.job.inside k o fits
enter_fits image s (negsuc k) o fits = tt

leaves_fits : (b : Bool) (k : ℕ) (o : Own) → OwnFits o → Fits (m.leaves b k o)
leaves_fits true k o fits = (tt, inside_fits None o fits)
leaves_fits false k o fits = tt

leave_fits : (z : ℤ) (o : Own) → OwnFits o → Fits (m.leave z o)
leave_fits (pos k) o fits = leaves_fits (is_inside k o.job.inside) k o fits
leave_fits (negsuc k) o fits = tt

waits_fits : (b : Bool) (c limit number : ℤ) (o : Own) → unsigned_abs number < 2 ^ 16 → OwnFits o → Fits (m.waits b c limit number o)
waits_fits true c (pos limit) (pos number) o low fits = (low, inside_fits None o fits)
waits_fits true c (pos limit) (negsuc n) o low fits = tt
waits_fits true c (negsuc n) number o low fits = tt
waits_fits false c limit number o low fits = tt

wait_fits : (monitor : Option ℕ) (c limit number : ℤ) (o : Own) → unsigned_abs number < 2 ^ 16 → OwnFits o → Fits (m.wait monitor c limit number o)
wait_fits (Some k) c limit number o low fits = waits_fits (is_inside k o.job.inside) c limit number o low fits
wait_fits None c limit number o low fits = tt

signal_fits : (q : Option (List ℕ)) (c : ℤ) (o : Own) → OwnFits o → Fits (m.signal q c o)
signal_fits (Some q) c o fits = fits
signal_fits None c o fits = tt

broadcast_fits : (q : Option (List ℕ)) (c : ℤ) (o : Own) → OwnFits o → Fits (m.broadcast q c o)
broadcast_fits (Some q) c o fits = fits
broadcast_fits None c o fits = tt

empty_fits : (q : Option (List ℕ)) (c : ℤ) (o : Own) → OwnFits o → Fits (m.empty q c o)
empty_fits (Some q) c o fits = (tt, truth_fits (m.is_none_waiting q) o fits)
empty_fits None c o fits = tt

get_fits : (w : Option ℤ) (d : ℤ) (o : Own) → Opt Is32 w → OwnFits o → Fits (m.get w d o)
get_fits (Some w) d o value fits = (value, give_fits w o value fits)
get_fits None d o value fits = tt

put_fits : (w : Option ℤ) (d value : ℤ) (o : Own) → Is32 value → OwnFits o → Fits (m.put w d value o)
put_fits (Some w) d value o is fits = (is, fits)
put_fits None d value o is fits = tt

number_small : (z : ℤ) → IsBelow z 1000 → unsigned_abs z < 2 ^ 16
number_small z below = let is : unsigned_abs z ≡ below.0 = ap (λ x. unsigned_abs x) below.1 in omega (arith, is, below.2)

raise_fits : (e : ℤ) → unsigned_abs e < 2 ^ 16 → Fits (m.raise e)
raise_fits (pos number) low = low
raise_fits (negsuc n) low = tt

-- ---- the table

effect_fits : (image : Image) (s : State) (instr : Instr) (o : Own) → IsThere image instr → HasWords instr → Each Is32 s.devices → OwnFits o → Fits (effect image s instr o)
effect_fits image s (i.Push value) o there has set fits = give_fits value o (of_signed value has.0) fits
effect_fits image s (i.LoadLocal w) o there has set fits = load_local_fits w o fits
effect_fits image s (i.StoreLocal w) o there has set fits = one_fits o _ fits (λ x p value own. store_local_fits w x p value own)
effect_fits image s (i.LoadOwn w) o there has set fits = load_own_fits w o fits
effect_fits image s (i.StoreOwn w) o there has set fits = one_fits o _ fits (λ x p value own. store_own_fits w x p value own)
effect_fits image s (i.LoadMon w) o there has set fits = load_mon_fits image w o fits
effect_fits image s (i.StoreMon w) o there has set fits = one_fits o _ fits (λ x p value own. store_mon_fits image w x p value own)
effect_fits image s (i.LoadLocalAt w low len) o there has set fits = one_fits o _ fits (λ x p value own. element_fits w low len x _ (λ e. load_local_fits e p own))
effect_fits image s (i.StoreLocalAt w low len) o there has set fits = two_fits o _ fits (λ x y p value other own. element_fits w low len x _ (λ e. store_local_fits e y p other own))
effect_fits image s (i.LoadOwnAt w low len) o there has set fits = one_fits o _ fits (λ x p value own. element_fits w low len x _ (λ e. load_own_fits e p own))
effect_fits image s (i.StoreOwnAt w low len) o there has set fits = two_fits o _ fits (λ x y p value other own. element_fits w low len x _ (λ e. store_own_fits e y p other own))
effect_fits image s (i.LoadMonAt w low len) o there has set fits = one_fits o _ fits (λ x p value own. element_fits w low len x _ (λ e. load_mon_fits image e p own))
effect_fits image s (i.StoreMonAt w low len) o there has set fits = two_fits o _ fits (λ x y p value other own. element_fits w low len x _ (λ e. store_mon_fits image e y p other own))
effect_fits image s i.Neg o there has set fits = one_fits o _ fits (λ x p value own. answer_fits (negated x) p (in_word_fits (neg_ℤ x)) own)
effect_fits image s i.Not o there has set fits = one_fits o _ fits (λ x p value own. truth_fits (is_zero x) p own)
effect_fits image s i.And o there has set fits = two_fits o _ fits (λ x y p value other own. truth_fits (is_true x && is_true y) p own)
effect_fits image s i.Or o there has set fits = two_fits o _ fits (λ x y p value other own. truth_fits (is_true x || is_true y) p own)
effect_fits image s i.Add o there has set fits = two_fits o _ fits (λ x y p value other own. answer_fits (sum x y) p (in_word_fits (x +ℤ y)) own)
effect_fits image s i.Sub o there has set fits = two_fits o _ fits (λ x y p value other own. answer_fits (difference x y) p (in_word_fits (x -ℤ y)) own)
effect_fits image s i.Eq o there has set fits = two_fits o _ fits (λ x y p value other own. truth_fits (same x y) p own)
effect_fits image s i.Ne o there has set fits = two_fits o _ fits (λ x y p value other own. truth_fits (not (same x y)) p own)
effect_fits image s i.Lt o there has set fits = two_fits o _ fits (λ x y p value other own. truth_fits (int_lt x y) p own)
effect_fits image s i.Le o there has set fits = two_fits o _ fits (λ x y p value other own. truth_fits (int_le x y) p own)
effect_fits image s i.Gt o there has set fits = two_fits o _ fits (λ x y p value other own. truth_fits (int_lt y x) p own)
effect_fits image s i.Ge o there has set fits = two_fits o _ fits (λ x y p value other own. truth_fits (int_le y x) p own)
effect_fits image s i.Mul o there has set fits = two_fits o _ fits (λ x y p value other own. answer_fits (product x y) p (in_word_fits (x *ℤ y)) own)
effect_fits image s i.Div o there has set fits = two_fits o _ fits (λ x y p value other own. answer_fits (quotient x y) p (quotient_fits x y) own)
effect_fits image s i.Mod o there has set fits = two_fits o _ fits (λ x y p value other own. answer_fits (remainder x y) p (remainder_fits x y value) own)
effect_fits image s (i.Range low high) o there has set fits = one_fits o _ fits (λ x p value own. either_fits (within low high x) (Goes (m.give x p)) (Raises 3) (give_fits x p value own) outside_fits)
effect_fits image s (i.JumpZero t) o there has set fits = one_fits o _ fits (λ x p value own. either_fits (is_zero x) (m.go_to t p) (Goes p) (go_to_fits t p own) own)
effect_fits image s (i.Jump t) o there has set fits = go_to_fits t o fits
effect_fits image s (i.Repeats turns) o there has set fits = count_from_fits turns o fits
effect_fits image s (i.Repeat t) o there has set fits = count_down_fits o.job.operands t o fits.job.operands fits
effect_fits image s (i.Exit t) o there has set fits =
    one_fits o _ fits (λ x p value own. either_fits (is_zero x) (Goes p) (m.drop_counter p.job.operands t p) own (drop_counter_fits p.job.operands t p own.job.operands own))
effect_fits image s (i.Call r) o there has set fits = call_fits (m.routine image r) o fits
effect_fits image s i.Return o there has set fits = back_fits o.job.callers o (λ p. p) fits.job.callers fits (λ p own. own)
effect_fits image s i.ReturnValue o there has set fits = one_fits o _ fits (λ x p value own. back_fits p.job.callers p (m.give x) own.job.callers own (λ q rest. give_fits x q value rest))
effect_fits image s (i.Enter z) o there has set fits = enter_fits image s z o fits
effect_fits image s (i.Leave z) o there has set fits = leave_fits z o fits
effect_fits image s (i.Wait c limit number) o there has set fits = wait_fits (m.monitor_of image c) c limit number o (number_small number there.2) fits
effect_fits image s (i.Reenter z) o there has set fits = enter_fits image s z o fits
effect_fits image s (i.Signal c) o there has set fits = signal_fits (m.queue s c) c o fits
effect_fits image s (i.Broadcast c) o there has set fits = broadcast_fits (m.queue s c) c o fits
effect_fits image s (i.Empty c) o there has set fits = empty_fits (m.queue s c) c o fits
effect_fits image s (i.In d) o there has set fits = get_fits (m.word_at s.devices d) d o (word_fits s.devices d set) fits
effect_fits image s (i.Out d) o there has set fits = one_fits o _ fits (λ x p value own. put_fits (m.word_at s.devices d) d x p value own)
effect_fits image s (i.Raise e) o there has set fits = raise_fits e (number_small e there)
effect_fits image s i.End o there has set fits = tt

-- ---- a tick of a process

stepped_fits : (done dispatch_ticks place : ℕ) (job : Job) (owned shared : List ℤ) → JobFits job → Each Is32 owned → Each Is32 shared
    → OwnFits (record { job = record job { place = place; done = done; dispatch_ticks = dispatch_ticks }; owned = owned; shared = shared })
stepped_fits done dispatch_ticks place job owned shared fits own all = record {
  job = record { locals = fits.locals; operands = fits.operands; callers = fits.callers };
  owned = own;
  shared = all;
}

pub outcome_fits : (image : Image) (s : State) (job : Job) (owned : List ℤ) (dispatch_ticks : ℕ) → AreThere image → Each HasWords image.code → Each Is32 s.devices → JobFits job → Each Is32 owned → Each Is32 s.shared
    → Fits (outcome image s job owned dispatch_ticks)
outcome_fits image s job owned (suc n) there has set fits own all = stepped_fits job.done n job.place job owned s.shared fits own all
outcome_fits image s job owned zero there has set fits own all = by (slice_get image.code job.place) refl (get_each HasWords image.code job.place has) where
  by : (o : Option Instr) → slice_get image.code job.place ≡ o → Opt HasWords o → Fits (outcome_at image s job owned o)
  by None at words = tt
  by (Some instr) at words =
      either_fits (nat_lt (job.done + 1) (ticks instr)) (Goes (record { job = record job { done = job.done + 1 }; owned = owned; shared = s.shared }))
      (effect image s instr (record { job = at_next job; owned = owned; shared = s.shared }))
      (stepped_fits (job.done + 1) job.dispatch_ticks job.place job owned s.shared fits own all)
      (effect_fits image s instr (record { job = at_next job; owned = owned; shared = s.shared }) (there job.place instr at) words set
      (stepped_fits 0 job.dispatch_ticks (job.place + 1) job owned s.shared fits own all))
