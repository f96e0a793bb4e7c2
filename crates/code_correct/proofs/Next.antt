-- The frames of a process come to its next action.
use Rattle.std.specs.Prelude.{◌≡◌, ℕ, Bool, true, false, List, [], ◌∷◌, ◌++◌, Option, Some, None, ℤ, length}
use Rattle.std.proofs.Common.{refl, sym, ◌∙◌, ap, subst, append-nil, append_assoc}
use Rattle.source_semantics.specs.Store.{Vars}
use Rattle.source_semantics.specs.Run.{Home, Memory, Item, do_all, turns_left, receive, store, enter_again, leave_with, give, Call, Run, goes, exits, fails, answers, stops, Action, gets, puts, enters, leaves, waits, signals, broadcasts, asks_empty, raises, ends}
use Rattle.source_semantics.specs.Next.{site, run_items, Next, given_item, among, next_from}
use Rattle.machine_isa.specs.declared.instr.Instr.TheVariants as i
use Rattle.machine_semantics.specs.State.{Operand, Value, Counter, Caller, own_locals}
use Rattle.machine_semantics.specs.Effect.{Own}
use Rattle.code_spec.specs.Layout.{home_of, Scope}
use Rattle.code_spec.specs.Emits.{At}
use Rattle.code_spec.specs.Steps.{words, stand, Runs, arrived, moved}
use Rattle.code_spec.specs.Memory.{Setting, Before, before_of, FitsOthers}
use Rattle.code_spec.specs.Stands.{Point, point, Stands, Frame, IsEnd, innermost, Receives, Inner, StandsAll}
use Rattle.code_spec.specs.Comes.{Raising, Left, Reached, Acting, IsAwaited, inside_after, frame_after, IsBottom, NextActs, Ending, NextComes}
use Rattle.code_correct.specs.Known.{HasCode}
use Rattle.code_correct.proofs.Steps.{then_runs, others_left}
use Rattle.code_correct.proofs.Stores.{Laid}
use Rattle.code_correct.proofs.Items.{around, call_with, innermost_more, owner_stays}
use Rattle.code_correct.proofs.Remaining.{items_come}

-- a process above these callers
abbrev pub above : Own → List Caller → Own
above o fs = record o { job = record (o.job) { callers = fs } }

-- a value that was waited for lies on top
abbrev pub given_operand : Option ℤ → List Operand → List Operand
given_operand None os = os
given_operand (Some v) os = Value v ∷ os

-- a value is given exactly where one is waited for
abbrev pub IsGiven : Option ℤ → List Item → Type 0
IsGiven None is = Receives is → ⊥
IsGiven (Some v) is = Receives is

-- the process stands at a frame above callers, where it was given a value or none
abbrev pub at_frame : Own → Option ℤ → Caller → List Caller → List ℤ → List ℤ → Own
at_frame o v f fs owned shared = stand (above o fs) (words f.locals owned shared) f.back (given_operand v f.operands)

other_locals : (a b : List ℤ) (fs : List Caller) (n : ℕ) → length a ≡ length b → length (own_locals b fs) ≡ n → length (own_locals a fs) ≡ n
other_locals a b [] n same h = same ∙ h
other_locals a b (f ∷ fs) n same h = h

no_value : {b : Bool} → b ≡ true → b ≡ false → ⊥
no_value {b} t f = absurd cc

no_counter : (os : List Operand) (n : ℕ) (rest : List Operand) → os ≡ [] → os ≡ Counter n ∷ rest → ⊥
no_counter os n rest a b = absurd cc

not_left : (e : Setting) (o : Own) (z : Point) (fixed : List ℤ) (before : Before) (m : Memory) (x : Option ℕ) (b : Own) → z.operands ≡ [] → Left e o z fixed before m x b → ⊥
not_left e o z fixed before m None b is l = l
not_left e o z fixed before m (Some y) b is l = no_counter z.operands l.0 l.1 is l.2

-- an action is what comes next
acts_next : (e : Setting) (o : Own) (a : Action) (n : Next) (b : Own) → NextActs e o a n b → NextComes e o n a b
acts_next e o (gets d) n b h = h
acts_next e o (puts d v) n b h = h
acts_next e o (enters m) n b h = h
acts_next e o (leaves m) n b h = h
acts_next e o (waits d l k) n b h = h
acts_next e o (signals d) n b h = h
acts_next e o (broadcasts d) n b h = h
acts_next e o (asks_empty d) n b h = h
acts_next e o (raises k) n b h = absurd h.does
acts_next e o ends n b h = absurd h.does

-- the items that a frame stands for, once a value is given
given_stands : (e : Setting) (c : Scope) (fixed : List ℤ) (inside : Option ℕ) (p : ℕ) (os : List Operand) (z : Point) (v : Option ℤ) (is : List Item) → IsGiven v is → Stands e (point c fixed inside false p os) is z
    → Stands e (point c fixed inside false p (given_operand v os)) (given_item v is) z
given_stands e c fixed inside p os z None is g h = h
given_stands e c fixed inside p os z (Some v) [] g h = absurd g
given_stands e c fixed inside p os z (Some v) (do_all ss ∷ is) g h = absurd g
given_stands e c fixed inside p os z (Some v) (turns_left x w n ss ∷ is) g h = absurd g
given_stands e c fixed inside p os z (Some v) (receive t ∷ is) g h = (os, refl, h.0, h.1, h.2, h.3, h.4)
given_stands e c fixed inside p os z (Some v) (store t w ∷ is) g h = absurd g
given_stands e c fixed inside p os z (Some v) (enter_again m ∷ is) g h = absurd g
given_stands e c fixed inside p os z (Some v) (leave_with a m ∷ is) g h = absurd g
given_stands e c fixed inside p os z (Some v) (give w ∷ is) g h = absurd g

given_calm : (v : Option ℤ) (is : List Item) → IsGiven v is → Receives (given_item v is) → ⊥
given_calm None is g r = g r
given_calm (Some v) [] g r = g
given_calm (Some v) (do_all ss ∷ is) g r = g
given_calm (Some v) (turns_left x w n ss ∷ is) g r = g
given_calm (Some v) (receive t ∷ is) g r = r
given_calm (Some v) (store t w ∷ is) g r = g
given_calm (Some v) (enter_again m ∷ is) g r = g
given_calm (Some v) (leave_with a m ∷ is) g r = g
given_calm (Some v) (give w ∷ is) g r = g

module _ (e : Setting) (code : HasCode e) (laid : Laid e) (o : Own) where
  -- a raise from a process above callers
  raised_next : (fs : List Caller) (n : ℕ) (process monitor : Vars) (b : Own) → Raising e (above o fs) n process monitor b → Raising e o n process monitor b
  raised_next fs n process monitor b h = record { instr = h.instr; here = h.here; raises = h.raises; inside = h.inside; handling = h.handling; frame = h.frame; others = h.others }

  -- what the frame of a call comes to
  frame_runs : (v : Option ℤ) (f : Caller) (fs : List Caller) (call : Call) (z : Point) (process monitor : Vars) (owned shared : List ℤ) (h : Frame e o.job.inside f call z) → length (own_locals f.locals fs) ≡ e.frame → FitsOthers e o.job.inside owned shared process monitor
      → IsGiven v call.rest
      → Runs e.image (Reached e (above o fs) z (before_of (record { own = call.own; process = process; monitor = monitor })) (run_items (site e.program e.text call.home) (record { own = call.own; process = process; monitor = monitor }) (given_item v call.rest)))
      (at_frame o v f fs owned shared)
  frame_runs v f fs call z process monitor owned shared h frame others given =
      subst (λ y. Runs e.image (Reached e (above o fs) z (before_of (record { own = call.own; process = process; monitor = monitor })) (run_items (site e.program e.text y) (record { own = call.own; process = process; monitor = monitor }) (given_item v call.rest)))
      (at_frame o v f fs owned shared)) h.home
      (items_come e code laid (above o fs) (before_of (record { own = call.own; process = process; monitor = monitor })) (given_item v call.rest) h.scope h.fixed f.back (given_operand v f.operands) z (record { own = call.own; process = process; monitor = monitor })
      (words f.locals owned shared) (λ locals size. other_locals locals f.locals fs e.frame (size ∙ sym h.fits.size) frame) h.acts
      (record { frame = h.fits; others = others; same = λ is. (refl, refl) })
      (given_calm v call.rest given) (given_stands e h.scope h.fixed o.job.inside f.back f.operands z v call.rest given h.stands))

  -- the call of the process's own text
  last_call : (z : Point) (home : Home) (before : Before) (on : Option ℤ → Memory → Next) (r : Run) (b : Own) → IsBottom e z → home_of z.scope.owner ≡ home
      → ((m : Memory) → on None m ≡ record { action = ends; calls = []; process = m.process; monitor = m.monitor })
      → Reached e (above o []) z before r b → NextComes e o (among home [] on r) (among home [] on r).action b
  last_call z home before on (goes m) b bottom same over g =
      subst (λ n. NextComes e o n n.action b) (sym (over m))
      (subst (λ y. Ending e o (record { action = ends; calls = []; process = m.process; monitor = m.monitor }) y) (sym g.4)
      (record { here = bottom.here; inside = sym g.2 ∙ bottom.outside; outside = sym g.2 ∙ bottom.outside; others = g.1.others }))
  last_call z home before on (exits m) b bottom same over g = absurd (not_left e (above o []) z z.fixed before m z.scope.exit b bottom.operands g)
  last_call z home before on (fails n m) b bottom same over g = raised_next [] n m.process m.monitor b g.1
  last_call z home before on (answers v m) b bottom same over g = absurd (no_value g.0 bottom.gives)
  last_call z home before on (stops a inside is m) b bottom same over g =
      let h : Acting e (above o []) z a inside is m b = g.1 in
      acts_next e o a (record { action = a; calls = inside ++ call_with home m.own is ∷ []; process = m.process; monitor = m.monitor }) b
      (record {
        below = h.below;
        instr = h.instr;
        here = h.here;
        does = h.does;
        inside = h.inside;
        handling = h.handling;
        frame = h.frame;
        others = h.others;
        calls = inside;
        bottom = call_with home m.own is;
        split = refl;
        awaited = subst (λ y. IsAwaited a (innermost inside (call_with y m.own is)).rest) same h.awaited;
        end = z;
        ends = bottom;
        stands = subst (λ y. StandsAll e (inside_after a b.job.inside) inside (call_with home m.own is) (frame_after b h.below ∷ y) z) (sym (h.callers ∙ append-nil h.frames))
            (subst (λ y. StandsAll e (inside_after a b.job.inside) inside (call_with y m.own is) (frame_after b h.below ∷ h.frames) z) same h.stands);
      })

  -- a call inside others
  inner_call : (y z : Point) (home : Home) (before : Before) (g : Caller) (fs : List Caller) (calls : List Call) (bottom : Call) (on : Option ℤ → Memory → Next) (r : Run) (b : Own)
      → IsBottom e z → home_of y.scope.owner ≡ home → IsEnd e y → (y.gives ≡ true → Receives (innermost calls bottom).rest) → (y.gives ≡ false → Receives (innermost calls bottom).rest → ⊥) → StandsAll e None calls bottom (g ∷ fs) z
      → (o.job.inside ≡ None → (v : Option ℤ) (m : Memory) (owned shared : List ℤ) → IsGiven v (innermost calls bottom).rest → FitsOthers e o.job.inside owned shared m.process m.monitor
      → Runs e.image (λ x. NextComes e o (on v m) (on v m).action x) (at_frame o v g fs owned shared))
      → Reached e (above o (g ∷ fs)) y before r b → Runs e.image (λ x. NextComes e o (among home (calls ++ bottom ∷ []) on r) (among home (calls ++ bottom ∷ []) on r).action x) b
  inner_call y z home before g fs calls bottom on (goes m) b is_bottom same end gives none stands back h =
      let over : (y.inside ≡ None) × At e.image.code y.place i.Return = end.1 h.3 in
      let out : o.job.inside ≡ None = sym h.2 ∙ over.0 in
      subst (λ x. Runs e.image (λ x. NextComes e o (on None m) (on None m).action x) x) (sym h.4)
      (subst (λ ops. Runs e.image (λ x. NextComes e o (on None m) (on None m).action x) (stand (above o (g ∷ fs)) h.0 y.place ops)) (sym end.0)
      (moved i.Return (λ us. at_frame o None g fs h.0.owned us) over.1 (λ s us same. refl)
      (λ us same. back out None m h.0.owned us (none h.3) (others_left e o.job.inside h.0.owned h.0.shared us m.process m.monitor h.1.others same))))
  inner_call y z home before g fs calls bottom on (exits m) b is_bottom same end gives none stands back h = absurd (not_left e (above o (g ∷ fs)) y y.fixed before m y.scope.exit b end.0 h)
  inner_call y z home before g fs calls bottom on (fails n m) b is_bottom same end gives none stands back h = arrived (raised_next (g ∷ fs) n m.process m.monitor b h.1)
  inner_call y z home before g fs calls bottom on (answers v m) b is_bottom same end gives none stands back h =
      subst (λ x. Runs e.image (λ x. NextComes e o (on (Some v) m) (on (Some v) m).action x) x) (sym h.6)
      (moved i.ReturnValue (λ us. at_frame o (Some v) g fs h.2.owned us) h.5 (λ s us same. refl)
      (λ us same. back h.1 (Some v) m h.2.owned us (gives h.0) (others_left e o.job.inside h.2.owned h.2.shared us m.process m.monitor h.3 same)))
  inner_call y z home before g fs calls bottom on (stops a inside is m) b is_bottom same end gives none stands back acting =
      let h : Acting e (above o (g ∷ fs)) y a inside is m b = acting.1 in
      let call : Call = call_with home m.own is in
      let own_stands : StandsAll e (inside_after a b.job.inside) inside (call_with home m.own is) (frame_after b h.below ∷ h.frames) y =
      subst (λ t. StandsAll e (inside_after a b.job.inside) inside (call_with t m.own is) (frame_after b h.below ∷ h.frames) y) same h.stands in
      arrived (acts_next e o a (record { action = a; calls = inside ++ call_with home m.own is ∷ (calls ++ bottom ∷ []); process = m.process; monitor = m.monitor }) b
      (record {
        below = h.below;
        instr = h.instr;
        here = h.here;
        does = h.does;
        inside = h.inside;
        handling = h.handling;
        frame = h.frame;
        others = h.others;
        calls = inside ++ call_with home m.own is ∷ calls;
        bottom = bottom;
        split = sym (append_assoc inside (call_with home m.own is ∷ calls) (bottom ∷ []));
        awaited = subst (λ t. IsAwaited a t.rest) (sym (innermost_more inside (call_with home m.own is) calls bottom)) (subst (λ t. IsAwaited a (innermost inside (call_with t m.own is)).rest) same h.awaited);
        end = z;
        ends = is_bottom;
        stands = subst (λ t. StandsAll e (inside_after a b.job.inside) (inside ++ call_with home m.own is ∷ calls) bottom (frame_after b h.below ∷ t) z) (sym h.callers)
            (around e (inside_after a b.job.inside) inside (call_with home m.own is) (frame_after b h.below ∷ h.frames) y calls bottom (g ∷ fs) z own_stands end gives none stands);
      }))

  -- Where frames stand for the calls in progress of a process, the code leads silently to its next action, and after it frames stand for the
  -- calls that remain.
  pub next_comes : (calls : List Call) (bottom : Call) (v : Option ℤ) (f : Caller) (fs : List Caller) (z : Point) (process monitor : Vars) (owned shared : List ℤ)
      → StandsAll e o.job.inside calls bottom (f ∷ fs) z → IsBottom e z → length (own_locals f.locals fs) ≡ e.frame → FitsOthers e o.job.inside owned shared process monitor → IsGiven v (innermost calls bottom).rest
      → Runs e.image (λ b. NextComes e o (next_from e.program e.text (calls ++ bottom ∷ []) v process monitor) (next_from e.program e.text (calls ++ bottom ∷ []) v process monitor).action b) (at_frame o v f fs owned shared)
  next_comes [] bottom v f [] z process monitor owned shared stands is_bottom frame others given =
      let same : home_of z.scope.owner ≡ bottom.home = sym (ap (λ t. home_of t) (owner_stays e (point stands.scope stands.fixed o.job.inside false f.back f.operands) bottom.rest z stands.stands)) ∙ stands.home in
      then_runs (frame_runs v f [] bottom z process monitor owned shared stands frame others given)
      (λ b g. arrived (last_call z bottom.home (before_of (record { own = bottom.own; process = process; monitor = monitor })) (λ w m. next_from e.program e.text [] w m.process m.monitor)
      (run_items (site e.program e.text bottom.home) (record { own = bottom.own; process = process; monitor = monitor }) (given_item v bottom.rest)) b is_bottom same (λ m. refl) g))
  next_comes [] bottom v f (g ∷ fs) z process monitor owned shared stands is_bottom frame others given = absurd stands
  next_comes (call ∷ calls) bottom v f [] z process monitor owned shared stands is_bottom frame others given = absurd (no_frames calls stands.1)
    where
      no_frames : (calls : List Call) → StandsAll e None calls bottom [] z → ⊥
      no_frames [] h = h
      no_frames (c ∷ calls) h = h
  next_comes (call ∷ calls) bottom v f (g ∷ fs) z process monitor owned shared stands is_bottom frame others given =
      let inner : Inner e o.job.inside f call (innermost calls bottom) = stands.0 in
      let same : home_of inner.end.scope.owner ≡ call.home =
      sym (ap (λ t. home_of t) (owner_stays e (point inner.frame.scope inner.frame.fixed o.job.inside false f.back f.operands) call.rest inner.end inner.frame.stands)) ∙ inner.frame.home in
      then_runs (frame_runs v f (g ∷ fs) call inner.end process monitor owned shared inner.frame frame others given)
      (λ b h. inner_call inner.end z call.home (before_of (record { own = call.own; process = process; monitor = monitor })) g fs calls bottom (λ w m. next_from e.program e.text (calls ++ bottom ∷ []) w m.process m.monitor)
      (run_items (site e.program e.text call.home) (record { own = call.own; process = process; monitor = monitor }) (given_item v call.rest)) b is_bottom same inner.ends inner.gives_to inner.gives_none stands.1
      (λ out w m owned2 shared2 given2 fits. next_comes calls bottom w g fs z m.process m.monitor owned2 shared2 (subst (λ t. StandsAll e t calls bottom (g ∷ fs) z) (sym out) stands.1) is_bottom frame fits given2) h)
