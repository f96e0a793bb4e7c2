-- One more instruction of a row.
use Rattle.std.proofs.Common.{◌≡◌, ◌≢◌, ◌≤◌, ◌<◌, ◌+◌, ◌-◌, ℕ, List, true, Some, length, refl, sym, ap, subst, ◌∙◌, arith}
use Rattle.std.specs.Prelude.{ℤ, slice_get}
use Rattle.std.proofs.lemmas.Option.{slice_get_within}
use Rattle.machine_isa.specs.declared.instr.Instr.{Instr}
use Rattle.machine_isa.specs.Ticks.{ticks}
use Rattle.machine_semantics.specs.Image.{Image}
use Rattle.machine_semantics.specs.State.{State}
use Rattle.machine_semantics.specs.Effect.{Own, Goes, Raises, effect}
use Rattle.vm_instructions.specs.Rows.{Ended, Spends}
use Rattle.vm_instructions.specs.Silent.{IsOf, IsSafe, own_of}
use Rattle.vm_instructions.specs.Within.{GoesWithin, HasDoneWithin, IsBeyond}
use Rattle.vm_instructions.specs.declared.activation.Activation.{Activation as Kept}
use Rattle.vm_instructions.specs.declared.calls.RoutineHeader.{RoutineHeader as Called}
use Rattle.vm_instructions.specs.declared.within.Within.{Within}
use Rattle.vm_instructions.specs.declared.within.Within.TheVariants as within
use Rattle.vm_stretch.specs.Silent.{CanGo, IsAt, IsSafeFor, IsWithin, Leads, Begins, Follows, is_silent, next_own, nowhere}

pub begins : (image : Image) (first : Own) (n : ℕ) → n ≡ 0 → Leads image first n first
begins image first n is = subst (λ (k : ℕ). Leads image first k first) (sym is) Begins

pub address : (image : Image) (room budget n : ℕ) (o : Own) → CanGo image room budget n o → o.job.place < length image.code
address image room budget n o can = slice_get_within image.code o.job.place can.instr can.at.here

-- the instruction that was fetched
pub record Fetched (image : Image) (room budget n : ℕ) (o : Own) (r : Instr) : Type 0 where
  pub at : IsAt image o r
  pub safe : n + (ticks r - o.job.done) ≤ budget → is_silent r ≡ true → IsWithin room (effect image nowhere r (next_own o))

pub fetched : (image : Image) (room budget n : ℕ) (o : Own) (r : Instr) → CanGo image room budget n o → slice_get image.code o.job.place ≡ Some r → Fetched image room budget n o r
fetched image room budget n o r can is =
    let same : can.instr ≡ r = cc (can.at.here, is) in
    let f : Fetched image room budget n o can.instr = record { at = can.at; safe = can.safe } in
    subst (λ (x : Instr). Fetched image room budget n o x) same f

pub follows : (image : Image) (first o next : Own) (n m : ℕ) (r : Instr) → Leads image first n o → IsAt image o r → ((s : State) → effect image s r (next_own o) ≡ Goes next) → next.job.inside ≡ o.job.inside → next.job.dispatch_ticks ≡ o.job.dispatch_ticks → m ≡ n + (ticks r - o.job.done)
    → Leads image first m next
follows image first o next n m r leads at is inside dispatch_ticks time = Follows leads r next (record { at = at; goes = is; inside = inside; dispatch_ticks = dispatch_ticks }) m time

-- ---- within a frame

-- what a row comes to where an instruction does not just go on
pub goes_beyond : (image : Image) (first : Own) (budget left : ℕ) (came : Within) (last : Own) (instr : Instr) (new : Own) → came ≢ within.Done → left ≤ budget → Ended image first (budget - left) last instr → HasDoneWithin image instr (next_own last) came new
    → GoesWithin image first budget came left new
goes_beyond image first budget left within.Done last instr new other less ended done = absurd (other refl)
goes_beyond image first budget left (within.Raises n) last instr new other less ended done = (last, instr, less, ended, done)
goes_beyond image first budget left within.Seen last instr new other less ended done = (last, instr, less, ended, done)
goes_beyond image first budget left (within.Calls n) last instr new other less ended done = (last, instr, less, ended, done)
goes_beyond image first budget left within.Returns last instr new other less ended done = (last, instr, less, ended, done)
goes_beyond image first budget left within.ReturnsValue last instr new other less ended done = (last, instr, less, ended, done)

-- one run after another
pub leads_on : (image : Image) (a b c : Own) (k l : ℕ) → Leads image a k b → Leads image b l c → Leads image a (k + l) c
leads_on image a b c k l before Begins = let e : k ≡ k + 0 = omega arith in subst (λ (x : ℕ). Leads image a x b) e before
leads_on image a b c k l before (Follows {n} {o} rest instr next step m time) = Follows (leads_on image a b o k n before rest) instr next step (k + l) (omega (arith, time))

-- what was asked of the whole holds from there on
pub safe_on : (image : Image) (room : ℕ) (a b : Own) (n budget left : ℕ) → n + left ≡ budget → Leads image a n b → IsSafeFor image room a budget → IsSafeFor image room b left
safe_on image room a b n budget left time leads safe m o on less =
    let can : CanGo image room budget (n + m) o = safe (n + m) o (leads_on image a b o n m leads on) (omega (arith, time, less)) in
    record { instr = can.instr; at = can.at; safe = λ passed silent. can.safe (omega (arith, time, passed)) silent }

-- a row from there on
pub ended_on : (image : Image) (a b last : Own) (instr : Instr) (n m k : ℕ) → n + m ≡ k → Leads image a n b → Ended image b m last instr → Ended image a k last instr
ended_on image a b last instr n m k time leads ended =
    record { n = n + ended.n; leads = leads_on image a b last n ended.n leads ended.leads; at = ended.at; time = omega (arith, ended.time, time) }

pub spends_on : (image : Image) (a b new : Own) (n left budget : ℕ) → n + left ≡ budget → Leads image a n b → Spends image b left new → Spends image a budget new
spends_on image a b new n left budget time leads (k, m, o, rest, whole, is, last) =
    (n + k, m, o, leads_on image a b o n k leads rest, omega (arith, whole, time), is, last)

-- ---- beyond a frame

-- where a row ended that did not spend all its ticks
pub record Went (image : Image) (first : Own) (budget : ℕ) (came : Within) (left : ℕ) (mid : Own) : Type 0 where
  pub last : Own
  pub instr : Instr
  pub less : left ≤ budget
  pub ended : Ended image first (budget - left) last instr
  pub done : HasDoneWithin image instr (next_own last) came mid

pub went : (image : Image) (first : Own) (budget : ℕ) (came : Within) (left : ℕ) (mid : Own) → came ≢ within.Done → GoesWithin image first budget came left mid → Went image first budget came left mid
went image first budget within.Done left mid other goes = absurd (other refl)
went image first budget (within.Raises n) left mid other (last, instr, less, ended, done) = record { last = last; instr = instr; less = less; ended = ended; done = done }
went image first budget within.Seen left mid other (last, instr, less, ended, done) = record { last = last; instr = instr; less = less; ended = ended; done = done }
went image first budget (within.Calls n) left mid other (last, instr, less, ended, done) = record { last = last; instr = instr; less = less; ended = ended; done = done }
went image first budget within.Returns left mid other (last, instr, less, ended, done) = record { last = last; instr = instr; less = less; ended = ended; done = done }
went image first budget within.ReturnsValue left mid other (last, instr, less, ended, done) = record { last = last; instr = instr; less = less; ended = ended; done = done }

-- a tick has passed at least
pub went_less : (image : Image) (first : Own) (budget : ℕ) (came : Within) (left : ℕ) (mid : Own) → Went image first budget came left mid → left < budget
went_less image first budget came left mid w = omega (arith, w.less, w.ended.time, w.ended.at.early)

-- what goes beyond the frame can be done
pub beyond : (image : Image) (code : List Instr) (routines : List Called) (room : ℕ) (first : Own) (budget : ℕ) (came : Within) (left : ℕ) (job : Kept) (owned shared : List ℤ) → IsOf image code routines → IsSafeFor image room first budget → job.frames.room ≡ room
    → (w : Went image first budget came left (own_of job owned shared)) → IsBeyond (record { image = image; code = code; instr = w.instr; old = next_own w.last }) routines job owned shared came
beyond image code routines room first budget came left job owned shared of safe same w =
    let can : CanGo image room budget w.ended.n w.last = safe w.ended.n w.last w.ended.leads (omega (arith, w.less, w.ended.time, w.ended.at.early)) in
    let f : Fetched image room budget w.ended.n w.last w.instr = fetched image room budget w.ended.n w.last w.instr can w.ended.at.here in
    record {
      of = of;
      safe = subst (λ (n : ℕ). IsSafe image w.instr (next_own w.last) n) (sym same) (f.safe (omega (arith, w.less, w.ended.time)));
      so_far = w.done;
    }

-- what was not touched is inside of what it was, and has the ticks to burn that it had
kept_inside : (image : Image) (instr : Instr) (old mid new : Own) (came : Within) → came ≢ within.Done → HasDoneWithin image instr old came mid → ((s : State) → effect image s instr old ≡ Goes new)
    → (mid.job.inside ≡ old.job.inside) × (mid.job.dispatch_ticks ≡ old.job.dispatch_ticks)
kept_inside image instr old mid new within.Done other done goes = absurd (other refl)
kept_inside image instr old mid new (within.Raises n) other done goes = let e : Raises n ≡ Goes new = sym (done.0 nowhere) ∙ goes nowhere in absurd cc
kept_inside image instr old mid new within.Seen other done goes = (ap (λ (o : Own). o.job.inside) done.0, ap (λ (o : Own). o.job.dispatch_ticks) done.0)
kept_inside image instr old mid new (within.Calls n) other done goes = (ap (λ (o : Own). o.job.inside) done.0, ap (λ (o : Own). o.job.dispatch_ticks) done.0)
kept_inside image instr old mid new within.Returns other done goes = (ap (λ (o : Own). o.job.inside) done.0, ap (λ (o : Own). o.job.dispatch_ticks) done.0)
kept_inside image instr old mid new within.ReturnsValue other done goes = (ap (λ (o : Own). o.job.inside) done.0, ap (λ (o : Own). o.job.dispatch_ticks) done.0)

-- it is done, and the process goes on
pub went_on : (image : Image) (a first : Own) (n budget : ℕ) (came : Within) (left k : ℕ) (mid new : Own) (w : Went image first budget came left mid) → came ≢ within.Done → Leads image a n first → n + (budget - left) ≡ k
    → ((s : State) → effect image s w.instr (next_own w.last) ≡ Goes new) → new.job.inside ≡ mid.job.inside → new.job.dispatch_ticks ≡ mid.job.dispatch_ticks → Leads image a k new
went_on image a first n budget came left k mid new w other before time goes inside dispatch_ticks =
    let same = kept_inside image w.instr (next_own w.last) mid new came other w.done goes in
    follows image a w.last new (n + w.ended.n) k w.instr (leads_on image a first w.last n w.ended.n before w.ended.leads) w.ended.at goes (inside ∙ same.0) (dispatch_ticks ∙ same.1) (omega (arith, time, w.ended.time))
