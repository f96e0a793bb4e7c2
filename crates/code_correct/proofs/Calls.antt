-- Calls of procedures and of entries.
use Rattle.std.specs.Prelude.{◌≡◌, ◌+◌, ℕ, Bool, true, false, List, [], ◌∷◌, ◌++◌, Option, Some, None, ℤ, pos}
use Rattle.std.proofs.Common.{refl, sym, ◌∙◌, ap, subst, arith, inl, append_assoc}
use Rattle.std.proofs.lemmas.Bool.{false≢true}
use Rattle.syntax_tree.specs.Plain.{Name, Answers}
use Rattle.source_semantics.specs.Names.{routine_count}
use Rattle.source_semantics.specs.Store.{Vars}
use Rattle.source_semantics.specs.Run.{Memory, Calls, Bound, bound, unbound, Run, goes, exits, fails, answers, stops, Call, Item, leave_with, enters, performed, entered as entered_run, within_caller, back_to, entry_call, own_vars, with_own}
use Rattle.machine_isa.specs.declared.instr.Instr.TheVariants as i
use Rattle.machine_semantics.specs.State.{Operand}
use Rattle.machine_semantics.specs.Effect.{Own}
use Rattle.code_spec.specs.Layout.{Owner, by_program, by_process, by_monitor, home_of, Scope, routine_places, routine_vars_words}
use Rattle.code_spec.specs.Numbering.{Text, number_of}
use Rattle.code_spec.specs.Emits.{IsLine, At}
use Rattle.code_spec.specs.Compiled.{routine_scope, is_function, enter_code, EmitsEnd, EmitsRoutine}
use Rattle.code_spec.specs.Steps.{Words, words, stand, Runs, arrived, moved}
use Rattle.code_spec.specs.Memory.{Setting, site_of, Before, before_of, Same, Fits, MayRun, Here}
use Rattle.code_spec.specs.Proper.{found_of, Callee, Reaches, IsOutside, ProperAnswers}
use Rattle.code_spec.specs.Stands.{Point, point, Onward, there, Stands, Frame, IsEnd, Receives, innermost}
use Rattle.code_spec.specs.Comes.{Reached, Acting, IsAwaited, inside_after, frame_after, bottom_of}
use Rattle.code_correct.specs.Known.{IsThere, CallsCome, HoldValues, GotAll, IsProper, HasCode}
use Rattle.code_correct.proofs.Steps.{then_runs, others_left, line_one}
use Rattle.code_correct.proofs.Frames.{new_locals, no_values, new_frame}
use Rattle.code_correct.proofs.Gets.{calling, call_runs, entered_fits, called_here, outside_may}
use Rattle.code_correct.proofs.Items.{around, call_with, owner_stays}
use Rattle.code_correct.proofs.Acts.{nothing}
use Rattle.code_correct.proofs.Layouts.{routine_room}

-- a text that is no entry and no function runs outside all monitors
pub is_outside : (e : Setting) (inside : Option ℕ) (r : Owner) (b : Bool) → MayRun e inside r b → IsOutside r → b ≡ false → inside ≡ None
is_outside e inside by_program b may out is = may is
is_outside e inside (by_process k) b may out is = may.1 is
is_outside e inside (by_monitor k) b may out is = absurd out

innermost_of : (inner : List Call) (call bottom : Call) → innermost (inner ++ call ∷ []) bottom ≡ innermost inner call
innermost_of [] call bottom = refl
innermost_of (c ∷ inner) call bottom = refl

not_false : true ≡ false → ⊥
not_false h = cc

module _ (e : Setting) (o : Own) (c : Scope) (fixed : List ℤ) (before : Before) (m : Memory) (here : Here e o c) (acts : c.is_function ≡ false) (out : o.job.inside ≡ None) where
  -- where a call's statement leads to
  abbrev Behind : ℕ → List Operand → Point
  Behind q os = point c fixed o.job.inside false q os

  -- a procedure's run as a part of its caller's
  procedure_back : (u : Words) (p q : ℕ) (os : List Operand) (t : Text) (inner_fixed : List ℤ) (before2 : Before) (r : ℕ) (run : Run) (start : Own) → Fits e o c fixed before u m → p + 1 ≡ q → At e.image.code r i.Return
      → Runs e.image (Reached e (calling o u (p + 1) os) (point (routine_scope e.program t) inner_fixed o.job.inside false r []) before2 run) start
      → Runs e.image (Reached e o (Behind q os) before (within_caller (home_of t.owner) m.own run)) start
  procedure_back u p q os t inner_fixed before2 r (goes k) start f end at h =
      then_runs h (λ b g. subst (λ y. Runs e.image (Reached e o (Behind q os) before (goes (back_to m.own k))) y) (sym g.4)
      (moved i.Return (λ us. stand o (words u.locals g.0.owned us) (p + 1) os) at (λ s us same. refl)
      (λ us same. arrived (
        words u.locals g.0.owned us,
        record {
          frame = f.frame;
          others = others_left e o.job.inside g.0.owned g.0.shared us k.process k.monitor g.1.others same;
          same = λ is. absurd (false≢true (sym acts ∙ is));
        },
        refl,
        refl,
        ap (λ y. stand o (words u.locals g.0.owned us) y os) end,
      ))))
  procedure_back u p q os t inner_fixed before2 r (exits k) start f end at h = then_runs h (λ b g. absurd g)
  procedure_back u p q os t inner_fixed before2 r (fails n k) start f end at h =
      then_runs h (λ b g. arrived ((λ is. absurd (false≢true (sym acts ∙ is))), record { instr = g.1.instr; here = g.1.here; raises = g.1.raises; inside = g.1.inside; handling = g.1.handling; frame = g.1.frame; others = g.1.others }))
  procedure_back u p q os t inner_fixed before2 r (answers v k) start f end at h = then_runs h (λ b g. absurd (false≢true g.0))
  procedure_back u p q os t inner_fixed before2 r (stops a inside is k) start f end at h =
      then_runs h (λ b g. arrived (
        acts,
        record {
          frames = g.1.frames ++ record { back = p + 1; locals = u.locals; operands = os } ∷ [];
          below = g.1.below;
          instr = g.1.instr;
          here = g.1.here;
          does = g.1.does;
          awaited = subst (λ y. IsAwaited a y.rest) (sym (innermost_of inside (call_with (home_of t.owner) k.own is) (bottom_of (Behind q os) (back_to m.own k) []))) g.1.awaited;
          callers = g.1.callers ∙ sym (append_assoc g.1.frames (record { back = p + 1; locals = u.locals; operands = os } ∷ []) o.job.callers);
          inside = g.1.inside;
          handling = g.1.handling;
          frame = g.1.frame;
          others = g.1.others;
          stands = around e (inside_after a b.job.inside) inside (call_with (home_of t.owner) k.own is) (frame_after b g.1.below ∷ g.1.frames)
              (point (routine_scope e.program t) inner_fixed o.job.inside false r []) [] (bottom_of (Behind q os) (back_to m.own k) [])
              (record { back = p + 1; locals = u.locals; operands = os } ∷ []) (Behind q os) g.1.stands (refl, λ no_value. (out, at)) (λ is. absurd (false≢true is)) (λ no_value r. r)
              (record { scope = c; fixed = fixed; home = refl; acts = acts; fits = f.frame; stands = nothing e o c fixed before m here None (p + 1) q os (sym out) end });
        },
      ))

  -- a call of a procedure, whose arguments are there
  pub procedure_runs : (n : ℕ) (calls : Calls) (code : HasCode e) (known : CallsCome e n calls) (f : Name) (t : Text) (start : Own) (p q : ℕ) (os : List Operand) (b : Bound) → Callee e c n f t → t.routine.answers ≡ None
      → At e.image.code p (i.Call (pos (number_of e.program t))) → p + 1 ≡ q → Runs e.image (GotAll e o c fixed before m t.routine.params p os b) start
      → Runs e.image (Reached e o (Behind q os) before (performed (site_of e c calls) m (found_of t) b)) start
  procedure_runs n calls code known f t start p q os (unbound k) callee is at end h = then_runs h (λ b g. arrived ((λ fn. absurd (false≢true (sym acts ∙ fn))), g))
  procedure_runs n calls code known f t start p q os (bound vs) callee is at end h =
      let row : IsThere e t = code.routines f t callee.in_source callee.mine in
      then_runs h (λ b g. subst (λ y. Runs e.image (Reached e o (Behind q os) before (performed (site_of e c calls) m (found_of t) (bound vs))) y) (sym g.4)
      (call_runs e o c fixed before m (Reached e o (Behind q os) before (performed (site_of e c calls) m (found_of t) (bound vs))) g.2 p os t row g.0 vs g.3 g.1 at
      (λ u f2. by_end u f2 g.0 g.1
      (known.runs f t row callee.in_source is callee.mine callee.below callee.runs (calling o u (p + 1) os) (no_values (routine_places e.program t.routine))
      (words (new_locals e.program t.routine g.0) u.owned u.shared) (with_own m (own_vars e.program t.routine vs))
      (called_here e o c fixed before m u (p + 1) os t here f2 (outside_may e o.job.inside t.owner (is_function t.owner t.routine.answers) out callee.mine))
      (entered_fits e o c fixed before m u (p + 1) os t g.0 vs g.1 f2)))))
    where
      by_end : (u : Words) → Fits e o c fixed before u m → (values : List ℤ) → HoldValues e.program t.routine.params values vs
          → (r : ℕ) × At e.image.code r i.Return
          × Runs e.image (Reached e (calling o u (p + 1) os) (point (routine_scope e.program t) (no_values (routine_places e.program t.routine)) o.job.inside false r []) (before_of (with_own m (own_vars e.program t.routine vs)))
          (calls.run (found_of t) (with_own m (own_vars e.program t.routine vs)))) (stand (calling o u (p + 1) os) (words (new_locals e.program t.routine values) u.owned u.shared) (code.routines f t callee.in_source callee.mine).row.start [])
          → Runs e.image (Reached e o (Behind q os) before (performed (site_of e c calls) m (found_of t) (bound vs))) (stand (calling o u (p + 1) os) (words (new_locals e.program t.routine values) u.owned u.shared) (code.routines f t callee.in_source callee.mine).row.start [])
      by_end u f2 values hold r =
          procedure_back u p q os t (no_values (routine_places e.program t.routine)) (before_of (with_own m (own_vars e.program t.routine vs))) r.0 (calls.run (found_of t) (with_own m (own_vars e.program t.routine vs)))
          (stand (calling o u (p + 1) os) (words (new_locals e.program t.routine values) u.owned u.shared) (code.routines f t callee.in_source callee.mine).row.start []) f2 end r.1 r.2

-- ---- entries

-- behind the body of an entry the code leaves the monitor, and returns
pub record EntryEnd (e : Setting) (c : Scope) (fixed : List ℤ) (mon p : ℕ) (an : Option Answers) : Type 0 where
  pub end : Point
  pub stands : Stands e (point c fixed (Some mon) false p []) (leave_with an mon ∷ []) end
  pub ends : IsEnd e end
  pub gives : end.gives ≡ true → an ≡ None → ⊥
  pub gives_none : end.gives ≡ false → an ≡ None

pub entry_end : (e : Setting) (c : Scope) (fixed : List ℤ) (mon p q : ℕ) (an : Option Answers) → EmitsEnd e.program e.image.code c (by_monitor mon) p q an → ProperAnswers e c (routine_count e.program) an → MayRun e (Some mon) c.owner c.is_function
    → EntryEnd e c fixed mon p an
entry_end e c fixed mon p q None emits ok may = record {
  end = point c fixed None false (p + 1) [];
  stands = (p, record { operands = refl; onward = there; here = emits.has.0; inside = refl }, tt, (p + 1, there, refl));
  ends = (refl, λ no_value. (refl, emits.has.1.0));
  gives = λ is none. false≢true is;
  gives_none = λ no_value. refl;
}
entry_end e c fixed mon p q (Some a) emits ok may = record {
  end = point c fixed None true 0 [];
  stands = (
    record {
      start = p;
      leave = emits.0;
      level = routine_count e.program;
      onward = there;
      emits = emits.1;
      leaves = emits.2.has.0;
      back = emits.2.has.1.0;
      operands = refl;
      inside = refl;
      low = omega arith;
      proper = ok;
      may_run = may;
    },
    record { last = refl; gives = refl; scope = refl },
  );
  ends = (refl, λ no_value. absurd (not_false no_value));
  gives = λ is none. some_none a none;
  gives_none = λ no_value. absurd (not_false no_value);
}
  where
    some_none : (a : Answers) → Some a ≡ None → ⊥
    some_none a h = absurd cc

-- the frame of an entry after its enter
pub entry_frame : (e : Setting) (t : Text) (mon start next : ℕ) (values : List ℤ) (vs : Vars) → t.owner ≡ by_monitor mon → EmitsRoutine e.program e.image.code t start next → IsProper e t (routine_count e.program)
    → HoldValues e.program t.routine.params values vs
    → (y : Point) × Frame e (Some mon) (record { back = start + 1; locals = new_locals e.program t.routine values; operands = [] }) (entry_call (found_of t) mon (own_vars e.program t.routine vs)) y
    × IsEnd e y × (y.gives ≡ true → t.routine.answers ≡ None → ⊥) × (y.gives ≡ false → t.routine.answers ≡ None)
entry_frame e t mon start next values vs own emits proper hold =
    let c : Scope = routine_scope e.program t in
    let nv : List ℤ = no_values (routine_places e.program t.routine) in
    let one : At e.image.code start (i.Enter (pos mon)) × (emits.inside ≡ start + 1) = line_one e.image.code start emits.inside (i.Enter (pos mon)) (subst (λ r. IsLine e.image.code start emits.inside (enter_code r)) own emits.enters) in
    let may : MayRun e (Some mon) t.owner (is_function t.owner t.routine.answers) = subst (λ r. MayRun e (Some mon) r (is_function r t.routine.answers)) (sym own) refl in
    let rest : EntryEnd e (routine_scope e.program t) (no_values (routine_places e.program t.routine)) mon emits.behind t.routine.answers =
    entry_end e (routine_scope e.program t) (no_values (routine_places e.program t.routine)) mon emits.behind next t.routine.answers
    (subst (λ r. EmitsEnd e.program e.image.code (routine_scope e.program t) r emits.behind next t.routine.answers) own emits.rest) proper.answers may in (
      rest.end,
      record {
        scope = routine_scope e.program t;
        fixed = no_values (routine_places e.program t.routine);
        home = refl;
        acts = ap (λ r. is_function r t.routine.answers) own;
        fits = new_frame e.program t values vs hold;
        stands = (
          emits.behind,
          record {
            start = emits.inside;
            word = routine_vars_words e.program t.routine;
            level = routine_count e.program;
            onward = subst (λ y. Onward e.image.code emits.inside y) one.1 there;
            emits = emits.body;
            room = routine_room e.program t;
            counter = tt;
            low = omega arith;
            proper = proper.body;
            may_run = may;
          },
          tt,
          rest.stands,
        );
      },
      rest.ends,
      rest.gives,
      rest.gives_none,
    )

module _ (e : Setting) (o : Own) (c : Scope) (fixed : List ℤ) (before : Before) (m : Memory) (here : Here e o c) (acts : c.is_function ≡ false) (out : o.job.inside ≡ None) where
  -- a call of an entry, whose arguments are there; after it the caller goes on with the items
  pub entry_runs : (calls : Calls) (t : Text) (mon : ℕ) (there_is : IsThere e t) → IsProper e t (routine_count e.program) → t.owner ≡ by_monitor mon → Reaches e mon → (start : Own) (p : ℕ) (os : List Operand) (b : Bound) (items : List Item) (z : Point) → z.scope ≡ c
      → At e.image.code p (i.Call (pos (number_of e.program t))) → Stands e (point c fixed None false (p + 1) os) items z → ((t.routine.answers ≡ None → ⊥) → Receives items) → (t.routine.answers ≡ None → Receives items → ⊥)
      → Runs e.image (GotAll e o c fixed before m t.routine.params p os b) start
      → Runs e.image (Reached e o z before (entered_run (site_of e c calls) m (found_of t) mon b items)) start
  entry_runs calls t mon there_is proper own reaches start p os (unbound k) items z within at stands receives receives_none h = then_runs h (λ b g. arrived (subst (λ y. Same y before m) (sym within) (λ fn. absurd (false≢true (sym acts ∙ fn))), g))
  entry_runs calls t mon there_is proper own reaches start p os (bound vs) items z within at stands receives receives_none h =
      then_runs h (λ b g. subst (λ y. Runs e.image (Reached e o z before (entered_run (site_of e c calls) m (found_of t) mon (bound vs) items)) y) (sym g.4)
      (call_runs e o c fixed before m (Reached e o z before (entered_run (site_of e c calls) m (found_of t) mon (bound vs) items)) g.2 p os t there_is g.0 vs g.3 g.1 at
      (λ u f. arrived (ap (λ y. y.is_function) within ∙ acts, acting u f g.0 g.1))))
    where
      acting : (u : Words) → Fits e o c fixed before u m → (values : List ℤ) → HoldValues e.program t.routine.params values vs
          → Acting e o z (enters mon) (entry_call (found_of t) mon (own_vars e.program t.routine vs) ∷ []) items m
          (stand (calling o u (p + 1) os) (words (new_locals e.program t.routine values) u.owned u.shared) there_is.row.start [])
      acting u f values hold =
          let frame : (y : Point) × Frame e (Some mon) (record { back = there_is.row.start + 1; locals = new_locals e.program t.routine values; operands = [] }) (entry_call (found_of t) mon (own_vars e.program t.routine vs)) y
          × IsEnd e y × (y.gives ≡ true → t.routine.answers ≡ None → ⊥) × (y.gives ≡ false → t.routine.answers ≡ None) = entry_frame e t mon there_is.row.start there_is.next values vs own there_is.emits proper hold in
          record {
            frames = record { back = p + 1; locals = u.locals; operands = os } ∷ [];
            below = [];
            instr = i.Enter (pos mon);
            here = (line_one e.image.code there_is.row.start there_is.emits.inside (i.Enter (pos mon)) (subst (λ r. IsLine e.image.code there_is.row.start there_is.emits.inside (enter_code r)) own there_is.emits.enters)).0;
            does = (inl refl, refl, out, reaches);
            awaited = λ r. r;
            callers = refl;
            inside = refl;
            handling = refl;
            frame = here.frame u.locals f.frame.size;
            others = f.others;
            stands = (
              record { end = frame.0; frame = frame.1; ends = frame.2; gives_to = λ is. receives (λ none. frame.3 is none); gives_none = λ is r. receives_none (frame.4 is) r },
              record {
                scope = c;
                fixed = fixed;
                home = ap (λ y. home_of y) (owner_stays e (point c fixed None false (p + 1) os) items z stands);
                acts = acts;
                fits = f.frame;
                stands = stands;
              },
            );
          }
