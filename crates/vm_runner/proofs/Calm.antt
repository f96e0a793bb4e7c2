-- A machine at a tick at which nothing is due.
use Rattle.std.proofs.Common.{◌≡◌, ◌≢◌, ◌+◌, ◌-◌, ◌++◌, ℕ, List, [], Some, append_assoc, arith, ap, sym, ◌∙◌}
use Rattle.vm_stretch.specs.Due.{least}
use Rattle.base.specs.declared.event.Event.{Event}
use Rattle.machine_semantics.specs.Image.{Image, Script}
use Rattle.machine_semantics.specs.State.{State}
use Rattle.machine_semantics.specs.Starts.{Started, starts}
use Rattle.vm_stretch.specs.StretchDue.{HasSlots, NoneBefore}
use Rattle.vm_releases.proofs.Least.{none_up_to}
use Rattle.vm_releases.proofs.Resting.{Rests, rests}
use Rattle.vm_state.specs.Board.{state_of}
use Rattle.vm_runner.specs.declared.machine.Machine.{Machine}
use Rattle.vm_runner.specs.Course.{AreTold, Behaviour, Course, begun, course, events_between, started}
use Rattle.vm_runner.specs.Dispatching.{Knowing, Phase}
use Rattle.vm_runner.specs.Standing.{Stands}
use Rattle.vm_runner.specs.Turn.{HasPassed}

-- the start events of its tick change nothing, and its slots are right after them
pub record IsCalm {D : Type 0} (c : Course) (m : Machine D) : Type 0 where
  pub state : state_of m.board ≡ begun c m.tick
  pub still : begun c m.tick ≡ c.state m.tick
  pub none : started c m.tick ≡ []
  pub slots : HasSlots c.image c.script m.tick m.agenda.done (state_of m.board) m.agenda.slots
  pub later : NoneBefore (m.tick + 1) m.agenda.slots

pub calm_at : {D : Type 0} (behaviour : Image → Script → Behaviour) (Knows : Knowing D) (image : Image) (script : Script) (phase : ℕ → Phase) (m : Machine D) → Stands behaviour Knows image script phase m → NoneBefore (m.tick + 1) m.agenda.slots → IsCalm (course behaviour image script) m
calm_at behaviour Knows image script phase m stands later =
    let t : ℕ = m.tick in
    let s : State = state_of m.board in
    let all : Rests image script t m.agenda.done s m.agenda.slots = rests image script t m.agenda.done s m.agenda.slots stands.due stands.done later in
    let starts_so : s ≡ begun (course behaviour image script) t = sym (ap (λ (a : Started). a.state) all.starts) ∙ ap (λ (x : State). (starts image script t x).state) stands.state in
    record {
      state = starts_so;
      still = sym starts_so ∙ stands.state;
      none = ap (λ (x : State). (starts image script t x).events) (sym stands.state) ∙ ap (λ (a : Started). a.events) all.starts;
      slots = all.next;
      later = later;
    }

pub is_calm : {D : Type 0} (behaviour : Image → Script → Behaviour) (Knows : Knowing D) (image : Image) (script : Script) (phase : ℕ → Phase) (m : Machine D) → Stands behaviour Knows image script phase m → least m.agenda.slots ≢ Some m.tick → IsCalm (course behaviour image script) m
is_calm behaviour Knows image script phase m stands calm =
    calm_at behaviour Knows image script phase m stands (none_up_to m.agenda.slots m.tick stands.due.none_late calm)

-- with the start events last before them, the events of the ticks that passed stand in their place
pub told_after : (c : Course) (t n : ℕ) (s : State) (es es' : List Event) → HasPassed c t n s es es' → AreTold c t (t + n) es es'
told_after c t n s es es' has front is =
    let count : n ≡ (t + n) - t = omega arith in
    has.told ∙ ap (λ (xs : List Event). xs ++ has.fell) is ∙ append_assoc front (started c t) has.fell
    ∙ ap (λ (xs : List Event). front ++ xs) (sym has.events ∙ ap (λ (k : ℕ). c.events k t) count)

-- where no start event falls, what fell in a turn are the events of the ticks that passed
pub told_on : (c : Course) (t n : ℕ) (s : State) (es es' : List Event) → HasPassed c t n s es es' → started c t ≡ [] → es' ≡ es ++ events_between c t (t + n)
told_on c t n s es es' has none =
    let count : n ≡ (t + n) - t = omega arith in
    let fell : has.fell ≡ events_between c t (t + n) =
    ap (λ (xs : List Event). xs ++ has.fell) (sym none) ∙ sym has.events ∙ ap (λ (k : ℕ). c.events k t) count in
    has.told ∙ ap (λ (xs : List Event). es ++ xs) fell

-- else the start events and what fell are
pub told : (c : Course) (t n : ℕ) (s : State) (es es' : List Event) → HasPassed c t n s es es' → es ≡ started c t → es' ≡ events_between c t (t + n)
told c t n s es es' has begins =
    let count : n ≡ (t + n) - t = omega arith in
    has.told ∙ ap (λ (xs : List Event). xs ++ has.fell) begins ∙ sym has.events ∙ ap (λ (k : ℕ). c.events k t) count
