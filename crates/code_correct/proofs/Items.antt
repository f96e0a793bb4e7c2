-- Code that stands for items, and for more of them.
use Rattle.std.specs.Prelude.{◌≡◌, ◌+◌, ℕ, Bool, true, false, List, [], ◌∷◌, ◌++◌, Option, Some, None, ℤ, pos}
use Rattle.std.proofs.Common.{refl, sym, ◌∙◌, ap, subst}
use Rattle.source_semantics.specs.Store.{Vars}
use Rattle.source_semantics.specs.Run.{Home, Memory, Run, goes, exits, fails, answers, stops, followed, Item, do_all, turns_left, receive, store, enter_again, leave_with, give, Call, Action, gets, puts, enters, leaves, waits, signals, broadcasts, asks_empty, raises, ends}
use Rattle.machine_isa.specs.declared.instr.Instr.{Instr}
use Rattle.machine_isa.specs.declared.instr.Instr.TheVariants as i
use Rattle.machine_semantics.specs.State.{Operand, Caller}
use Rattle.machine_semantics.specs.Effect.{Own}
use Rattle.code_spec.specs.Layout.{home_of, Scope}
use Rattle.code_spec.specs.Emits.{inner}
use Rattle.code_spec.specs.Steps.{Words, words, stand, Runs, arrived, moved}
use Rattle.code_spec.specs.Memory.{Setting, Before, Fits}
use Rattle.code_spec.specs.Stands.{Point, point, moved_to, holding, entered, Onward, there, jump, Calm, Stands, IsEnd, innermost, Receives, Inner, StandsAll}
use Rattle.code_spec.specs.Comes.{Left, Reached, Acting, IsAwaited, inside_after, frame_after}
use Rattle.code_correct.proofs.Steps.{then_runs, fits_left}

-- ---- jumps

pub further : {code : List Instr} {d b a : ℕ} → Onward code b a → Onward code d b → Onward code d a
further there k = k
further (jump t h l) k = jump t h (further l k)

-- jumps are silent steps
pub jumps : (e : Setting) (o : Own) (c : Scope) (fixed : List ℤ) (before : Before) (m : Memory) (G : Own → Type 0) (q p : ℕ) (os : List Operand) → Onward e.image.code q p
    → ((u : Words) → Fits e o c fixed before u m → Runs e.image G (stand o u q os)) → (w : Words) → Fits e o c fixed before w m → Runs e.image G (stand o w p os)
jumps e o c fixed before m G q p os there k w f = k w f
jumps e o c fixed before m G q p os (jump t h l) k w f =
    moved (i.Jump (pos t)) (λ us. stand o (words w.locals w.owned us) t os) h (λ s us same. refl)
    (λ us same. jumps e o c fixed before m G q t os l k (words w.locals w.owned us) (fits_left e o c fixed before w us m f same))

-- ---- items after jumps

pub before_stands : (e : Setting) (a : Point) (p : ℕ) (is : List Item) (z : Point) → Onward e.image.code p a.place → Stands e (moved_to a p) is z → Stands e a is z
before_stands e a p [] z l h = (h.0, further l h.1, h.2)
before_stands e a p (do_all ss ∷ is) z l h =
    (h.0, record { start = h.1.start; word = h.1.word; level = h.1.level; onward = further l h.1.onward; emits = h.1.emits; room = h.1.room; counter = h.1.counter; low = h.1.low; proper = h.1.proper; may_run = h.1.may_run }, h.2, h.3)
before_stands e a p (turns_left x v n ss ∷ is) z l h =
    (record { outer = h.0.outer; fixed = h.0.fixed; value = h.0.value; operands = h.0.operands; word = h.0.word; start = h.0.start; mid = h.0.mid; end = h.0.end; scope = h.0.scope; values = h.0.values; counter = h.0.counter; next = h.0.next; onward = further l h.0.onward; looping = h.0.looping; counts_on = h.0.counts_on }, h.1, h.2)
before_stands e a p (receive t ∷ is) z l h =
    (h.0, h.1, record { start = h.2.start; onward = further l h.2.onward; operands = h.2.operands; code = h.2.code; proper = h.2.proper; apart = h.2.apart; may_run = h.2.may_run }, h.3, h.4)
before_stands e a p (store t v ∷ is) z l h =
    (h.0, h.1, h.2, h.3, record { start = h.4.start; onward = further l h.4.onward; operands = h.4.operands; code = h.4.code; proper = h.4.proper; apart = h.4.apart; may_run = h.4.may_run }, h.5, h.6)
before_stands e a p (enter_again m ∷ is) z l h = (h.0, record { onward = further l h.1.onward; here = h.1.here; outside = h.1.outside; reaches = h.1.reaches }, h.2, h.3)
before_stands e a p (leave_with None m ∷ is) z l h = (h.0, record { operands = h.1.operands; onward = further l h.1.onward; here = h.1.here; inside = h.1.inside }, h.2, h.3)
before_stands e a p (leave_with (Some an) m ∷ is) z l h =
    (record { start = h.0.start; leave = h.0.leave; level = h.0.level; onward = further l h.0.onward; emits = h.0.emits; leaves = h.0.leaves; back = h.0.back; operands = h.0.operands; inside = h.0.inside; low = h.0.low; proper = h.0.proper; may_run = h.0.may_run }, record { last = h.1.last; gives = h.1.gives; scope = h.1.scope })
before_stands e a p (give v ∷ is) z l h = (h.0, record { onward = further l h.1.onward; here = h.1.here; outside = h.1.outside; operands = h.1.operands }, record { last = h.2.last; gives = h.2.gives; scope = h.2.scope })

-- ---- items, and more items

calm_more : (is js : List Item) → Calm is → Calm js → Calm (is ++ js)
calm_more [] js h k = k
calm_more (do_all ss ∷ is) js h k = tt
calm_more (turns_left x v n ss ∷ is) js h k = tt
calm_more (leave_with a m ∷ is) js h k = tt
calm_more (receive t ∷ is) js h k = absurd h
calm_more (store t v ∷ is) js h k = absurd h
calm_more (enter_again m ∷ is) js h k = absurd h
calm_more (give v ∷ is) js h k = absurd h

pub calm_receives : (is : List Item) → Calm is → Receives is → ⊥
calm_receives [] c r = r
calm_receives (do_all ss ∷ is) c r = r
calm_receives (turns_left x v n ss ∷ is) c r = r
calm_receives (leave_with a m ∷ is) c r = r
calm_receives (receive t ∷ is) c r = c
calm_receives (store t v ∷ is) c r = r
calm_receives (enter_again m ∷ is) c r = r
calm_receives (give v ∷ is) c r = r

pub more : (e : Setting) (a : Point) (is : List Item) (y : Point) (js : List Item) (z : Point) → Stands e a is y → (y.gives ≡ false) → Calm js → Stands e y js z → Stands e a (is ++ js) z
more e a [] y js z h mute calm k = before_stands e a h.0 js z h.1 (subst (λ t. Stands e t js z) (sym h.2) k)
more e a (do_all ss ∷ is) y js z h mute calm k = (h.0, h.1, calm_more is js h.2 calm, more e (moved_to a h.0) is y js z h.3 mute calm k)
more e a (turns_left x v n ss ∷ is) y js z h mute calm k = (h.0, calm_more is js h.1 calm, more e (point h.0.outer h.0.fixed a.inside a.gives h.0.end h.0.operands) is y js z h.2 mute calm k)
more e a (receive t ∷ is) y js z h mute calm k = (h.0, h.1, h.2, calm_more is js h.3 calm, more e (holding a h.0 h.1) is y js z h.4 mute calm k)
more e a (store t v ∷ is) y js z h mute calm k = (h.0, h.1, h.2, h.3, h.4, calm_more is js h.5 calm, more e (holding a h.2 h.3) is y js z h.6 mute calm k)
more e a (enter_again m ∷ is) y js z h mute calm k = (h.0, h.1, calm_more is js h.2 calm, more e (entered a (h.0 + 1) (Some m)) is y js z h.3 mute calm k)
more e a (leave_with None m ∷ is) y js z h mute calm k = (h.0, h.1, calm_more is js h.2 calm, more e (entered a (h.0 + 1) None) is y js z h.3 mute calm k)
more e a (leave_with (Some an) m ∷ is) y js z h mute calm k = absurd (both y.gives h.1.gives mute)
  where
    both : (b : Bool) → b ≡ true → b ≡ false → ⊥
    both b t f = absurd cc
more e a (give v ∷ is) y js z h mute calm k = absurd (both y.gives h.2.gives mute)
  where
    both : (b : Bool) → b ≡ true → b ≡ false → ⊥
    both b t f = absurd cc

-- the owner stays
pub owner_stays : (e : Setting) (a : Point) (is : List Item) (z : Point) → Stands e a is z → a.scope.owner ≡ z.scope.owner
owner_stays e a [] z h = ap (λ t. t.scope.owner) h.2
owner_stays e a (do_all ss ∷ is) z h = owner_stays e (moved_to a h.0) is z h.3
owner_stays e a (turns_left x v n ss ∷ is) z h = ap (λ t. t.owner) h.0.scope ∙ owner_stays e (point h.0.outer h.0.fixed a.inside a.gives h.0.end h.0.operands) is z h.2
owner_stays e a (receive t ∷ is) z h = owner_stays e (holding a h.0 h.1) is z h.4
owner_stays e a (store t v ∷ is) z h = owner_stays e (holding a h.2 h.3) is z h.6
owner_stays e a (enter_again m ∷ is) z h = owner_stays e (entered a (h.0 + 1) (Some m)) is z h.3
owner_stays e a (leave_with None m ∷ is) z h = owner_stays e (entered a (h.0 + 1) None) is z h.3
owner_stays e a (leave_with (Some an) m ∷ is) z h = ap (λ t. t.owner) h.1.scope
owner_stays e a (give v ∷ is) z h = ap (λ t. t.owner) h.2.scope

-- so does whether it is a function
pub function_stays : (e : Setting) (a : Point) (is : List Item) (z : Point) → Stands e a is z → a.scope.is_function ≡ z.scope.is_function
function_stays e a [] z h = ap (λ t. t.scope.is_function) h.2
function_stays e a (do_all ss ∷ is) z h = function_stays e (moved_to a h.0) is z h.3
function_stays e a (turns_left x v n ss ∷ is) z h = ap (λ t. t.is_function) h.0.scope ∙ function_stays e (point h.0.outer h.0.fixed a.inside a.gives h.0.end h.0.operands) is z h.2
function_stays e a (receive t ∷ is) z h = function_stays e (holding a h.0 h.1) is z h.4
function_stays e a (store t v ∷ is) z h = function_stays e (holding a h.2 h.3) is z h.6
function_stays e a (enter_again m ∷ is) z h = function_stays e (entered a (h.0 + 1) (Some m)) is z h.3
function_stays e a (leave_with None m ∷ is) z h = function_stays e (entered a (h.0 + 1) None) is z h.3
function_stays e a (leave_with (Some an) m ∷ is) z h = ap (λ t. t.is_function) h.1.scope
function_stays e a (give v ∷ is) z h = ap (λ t. t.is_function) h.2.scope

-- ---- frames, and more items of the outermost

abbrev pub call_with : Home → Vars → List Item → Call
call_with home own is = record { home = home; own = own; rest = is }

receives_more : (is js : List Item) → Receives is → Receives (is ++ js)
receives_more [] js h = absurd h
receives_more (do_all ss ∷ is) js h = absurd h
receives_more (turns_left x v n ss ∷ is) js h = absurd h
receives_more (receive t ∷ is) js h = tt
receives_more (store t v ∷ is) js h = absurd h
receives_more (enter_again m ∷ is) js h = absurd h
receives_more (leave_with an m ∷ is) js h = absurd h
receives_more (give v ∷ is) js h = absurd h

inner_receives : (calls : List Call) (home : Home) (own : Vars) (is js : List Item) → Receives (innermost calls (call_with home own is)).rest → Receives (innermost calls (call_with home own (is ++ js))).rest
inner_receives [] home own is js h = receives_more is js h
inner_receives (call ∷ calls) home own is js h = h

receives_less : (is js : List Item) → Calm js → Receives (is ++ js) → Receives is
receives_less [] js c r = calm_receives js c r
receives_less (do_all ss ∷ is) js c r = r
receives_less (turns_left x v n ss ∷ is) js c r = r
receives_less (receive t ∷ is) js c r = tt
receives_less (store t v ∷ is) js c r = r
receives_less (enter_again m ∷ is) js c r = r
receives_less (leave_with an m ∷ is) js c r = r
receives_less (give v ∷ is) js c r = r

inner_receives_less : (calls : List Call) (home : Home) (own : Vars) (is js : List Item) → Calm js → Receives (innermost calls (call_with home own (is ++ js))).rest → Receives (innermost calls (call_with home own is)).rest
inner_receives_less [] home own is js c h = receives_less is js c h
inner_receives_less (call ∷ calls) home own is js c h = h

pub all_more : (e : Setting) (inside : Option ℕ) (calls : List Call) (home : Home) (own : Vars) (is js : List Item) (fs : List Caller) (y z : Point)
    → StandsAll e inside calls (call_with home own is) fs y → y.gives ≡ false → Calm js → Stands e y js z → StandsAll e inside calls (call_with home own (is ++ js)) fs z
all_more e inside [] home own is js [] y z h mute calm k = absurd h
all_more e inside [] home own is js (f ∷ []) y z h mute calm k =
    record { scope = h.scope; fixed = h.fixed; home = h.home; acts = h.acts; fits = h.fits; stands = more e (point h.scope h.fixed inside false f.back f.operands) is y js z h.stands mute calm k }
all_more e inside [] home own is js (f ∷ g ∷ fs) y z h mute calm k = absurd h
all_more e inside (call ∷ calls) home own is js [] y z h mute calm k = absurd h
all_more e inside (call ∷ calls) home own is js (f ∷ fs) y z h mute calm k = (
  record { end = h.0.end; frame = h.0.frame; ends = h.0.ends; gives_to = λ t. inner_receives calls home own is js (h.0.gives_to t); gives_none = λ t r. h.0.gives_none t (inner_receives_less calls home own is js calm r) },
  all_more e None calls home own is js fs y z h.1 mute calm k,
)

awaited_more : (a : Action) (calls : List Call) (home : Home) (own : Vars) (is js : List Item) → Calm js → IsAwaited a (innermost calls (call_with home own is)).rest → IsAwaited a (innermost calls (call_with home own (is ++ js))).rest
awaited_more (gets d) calls home own is js calm h = inner_receives calls home own is js h
awaited_more (asks_empty d) calls home own is js calm h = inner_receives calls home own is js h
awaited_more (puts d v) calls home own is js calm h = λ r. h (inner_receives_less calls home own is js calm r)
awaited_more (enters d) calls home own is js calm h = λ r. h (inner_receives_less calls home own is js calm r)
awaited_more (leaves d) calls home own is js calm h = λ r. h (inner_receives_less calls home own is js calm r)
awaited_more (waits d l n) calls home own is js calm h = λ r. h (inner_receives_less calls home own is js calm r)
awaited_more (signals d) calls home own is js calm h = λ r. h (inner_receives_less calls home own is js calm r)
awaited_more (broadcasts d) calls home own is js calm h = λ r. h (inner_receives_less calls home own is js calm r)
awaited_more (raises n) calls home own is js calm h = λ r. h (inner_receives_less calls home own is js calm r)
awaited_more ends calls home own is js calm h = λ r. h (inner_receives_less calls home own is js calm r)

-- an action, and more items after it
pub acting_more : (e : Setting) (o : Own) (y z : Point) (a : Action) (calls : List Call) (is js : List Item) (m : Memory) (b : Own) → Acting e o y a calls is m b → y.gives ≡ false → Calm js → Stands e y js z
    → Acting e o z a calls (is ++ js) m b
acting_more e o y z a calls is js m b h mute calm k =
    let same : home_of y.scope.owner ≡ home_of z.scope.owner = ap (λ t. home_of t) (owner_stays e y js z k) in
    record {
      frames = h.frames;
      below = h.below;
      instr = h.instr;
      here = h.here;
      does = h.does;
      awaited = subst (λ t. IsAwaited a (innermost calls (call_with t m.own (is ++ js))).rest) same (awaited_more a calls (home_of y.scope.owner) m.own is js calm h.awaited);
      callers = h.callers;
      inside = h.inside;
      handling = h.handling;
      frame = h.frame;
      others = h.others;
      stands = subst (λ t. StandsAll e (inside_after a b.job.inside) calls (call_with t m.own (is ++ js)) (frame_after b h.below ∷ h.frames) z) same
          (all_more e (inside_after a b.job.inside) calls (home_of y.scope.owner) m.own is js (frame_after b h.below ∷ h.frames) y z h.stands mute calm k);
    }

-- ---- calls inside a call, and the calls around it

pub innermost_more : (inner : List Call) (call : Call) (calls : List Call) (bottom : Call) → innermost (inner ++ call ∷ calls) bottom ≡ innermost inner call
innermost_more [] call calls bottom = refl
innermost_more (c ∷ inner) call calls bottom = refl

pub around : (e : Setting) (inside : Option ℕ) (inner : List Call) (call : Call) (fs : List Caller) (y : Point) (calls : List Call) (bottom : Call) (gs : List Caller) (z : Point)
    → StandsAll e inside inner call fs y → IsEnd e y → (y.gives ≡ true → Receives (innermost calls bottom).rest) → (y.gives ≡ false → Receives (innermost calls bottom).rest → ⊥) → StandsAll e None calls bottom gs z
    → StandsAll e inside (inner ++ call ∷ calls) bottom (fs ++ gs) z
around e inside [] call [] y calls bottom gs z h end gives none k = absurd h
around e inside [] call (f ∷ []) y calls bottom gs z h end gives none k = (record { end = y; frame = h; ends = end; gives_to = gives; gives_none = none }, k)
around e inside [] call (f ∷ g ∷ fs) y calls bottom gs z h end gives none k = absurd h
around e inside (c ∷ inner) call [] y calls bottom gs z h end gives none k = absurd h
around e inside (c ∷ inner) call (f ∷ fs) y calls bottom gs z h end gives none k = (
  subst (λ t. Inner e inside f c t) (sym (innermost_more inner call calls bottom)) h.0,
  around e None inner call fs y calls bottom gs z h.1 end gives none k,
)

-- ---- runs, and what follows

-- a run that is followed by another where it goes on
pub then_reached : (e : Setting) (o : Own) (y z : Point) (before : Before) (start : Own) (r : Run) (next out : Memory → Run) (rest : List Item)
    → y.scope.is_function ≡ z.scope.is_function → y.gives ≡ false → Runs e.image (Reached e o y before r) start → Calm rest → Stands e y rest z
    → ((w : Words) (m : Memory) → Fits e o y.scope y.fixed before w m → y.inside ≡ o.job.inside → Runs e.image (Reached e o z before (next m)) (stand o w y.place y.operands))
    → ((m : Memory) (b : Own) → Left e o y y.fixed before m y.scope.exit b → Runs e.image (Reached e o z before (out m)) b)
    → Runs e.image (Reached e o z before (followed r next out rest)) start
then_reached e o y z before start (goes m) next out rest fn mute h calm s k l =
    then_runs h (λ b g. subst (λ t. Runs e.image (Reached e o z before (next m)) t) (sym g.4) (k g.0 m g.1 g.2))
then_reached e o y z before start (exits m) next out rest fn mute h calm s k l = then_runs h (λ b g. l m b g)
then_reached e o y z before start (fails n m) next out rest fn mute h calm s k l = then_runs h (λ b g. arrived ((λ t. g.0 (fn ∙ t)), g.1))
then_reached e o y z before start (answers v m) next out rest fn mute h calm s k l = then_runs h (λ b g. absurd (both y.gives g.0 mute))
  where
    both : (b : Bool) → b ≡ true → b ≡ false → ⊥
    both b t f = absurd cc
then_reached e o y z before start (stops a calls is m) next out rest fn mute h calm s k l =
    then_runs h (λ b g. arrived (sym fn ∙ g.0, acting_more e o y z a calls is rest m b g.1 mute calm s))
