-- What remains of a call comes to what its code comes to.
use Rattle.std.specs.Prelude.{◌≡◌, ◌+◌, ◌≤◌, ℕ, suc, false, List, [], ◌∷◌, Option, Some, None, ℤ, pos, ◌+ℤ◌, length}
use Rattle.std.proofs.Common.{refl, sym, ◌∙◌, ap, subst, arith, inr}
use Rattle.syntax_tree.specs.Plain.{Name, Stmts}
use Rattle.base.specs.Words.{Answer, word, raised, with_word}
use Rattle.source_semantics.specs.Names.{routine_count}
use Rattle.source_semantics.specs.Store.{range_of, checked}
use Rattle.source_semantics.specs.Run.{Memory, Item, do_all, turns_left, receive, store, enter_again, leave_with, give, Run, goes, exits, answers, stops, followed, Action, enters, leaves, value, with_value, store_to, turns, without_turn, run_all}
use Rattle.source_semantics.specs.Next.{calls_to, run_items, leave_loop}
use Rattle.machine_isa.specs.declared.instr.Instr.{Instr}
use Rattle.machine_isa.specs.declared.instr.Instr.TheVariants as i
use Rattle.machine_semantics.specs.State.{Operand, Value, Counter, own_locals}
use Rattle.machine_semantics.specs.Effect.{Own}
use Rattle.code_spec.specs.Layout.{home_of, Scope}
use Rattle.code_spec.specs.Emits.{At, inner}
use Rattle.code_spec.specs.Steps.{Words, stand, Runs, arrived}
use Rattle.code_spec.specs.Memory.{Setting, site_of, Before, Same, Fits, Here}
use Rattle.code_spec.specs.Stands.{Point, point, there, Doing, Looping, Turning, Storing, Entering, Leaving, Answering, Giving, Calm, Stands, Receives, index_on}
use Rattle.code_spec.specs.Proper.{CountsOn}
use Rattle.code_spec.specs.Comes.{Got, Left, Reached, Acting, Does, IsAwaited, inside_after}
use Rattle.code_correct.specs.Known.{CallsCome, HasCode}
use Rattle.code_correct.proofs.Steps.{then_runs}
use Rattle.code_correct.proofs.Stores.{Laid}
use Rattle.code_correct.proofs.Targets.{store_runs}
use Rattle.code_correct.proofs.Items.{jumps, then_reached, owner_stays, function_stays, calm_receives}
use Rattle.code_correct.proofs.Loops.{room_inside, here_inside, turn_again, leave_turn, turn_ends, tail_of}
use Rattle.code_correct.proofs.Statements.{all_runs}
use Rattle.code_correct.proofs.Depth.{calls_come, answer_gets}

-- below all frames lies the process's own
abbrev pub FrameHere : Setting → Own → Scope → Type 0
FrameHere e o c = (locals : List ℤ) → length locals ≡ c.frame → length (own_locals locals o.job.callers) ≡ e.frame

-- the instruction of an action in a call's own frame
pub acting_at : (e : Setting) (o : Own) (c : Scope) (fixed : List ℤ) (before : Before) (m : Memory) → FrameHere e o c → c.is_function ≡ false → (z : Point) (w : Words) (p : ℕ) (os below : List Operand) (j : Instr) (a : Action) (rest : List Item) → Fits e o c fixed before w m
    → At e.image.code p j → Does e a j os below o.job.inside → IsAwaited a rest → Stands e (point c fixed (inside_after a o.job.inside) false (p + 1) below) rest z → Acting e o z a [] rest m (stand o w p os)
acting_at e o c fixed before m frame acts z w p os below j a rest f at does awaited stands = record {
  frames = [];
  below = below;
  instr = j;
  here = at;
  does = does;
  awaited = awaited;
  callers = refl;
  inside = refl;
  handling = refl;
  frame = frame w.locals f.frame.size;
  others = f.others;
  stands = record {
    scope = c;
    fixed = fixed;
    home = ap (λ t. home_of t) (owner_stays e (point c fixed (inside_after a o.job.inside) false (p + 1) below) rest z stands);
    acts = acts;
    fits = f.frame;
    stands = stands;
  };
}

no_counter : {rest : List Operand} {n : ℕ} → [] ≡ Counter n ∷ rest → ⊥
no_counter h = cc

module _ (e : Setting) (code : HasCode e) (laid : Laid e) (o : Own) (before : Before) where
  known : CallsCome e (routine_count e.program) (calls_to e.program e.text (routine_count e.program))
  known = calls_come e code laid (routine_count e.program)

  less_known : (k : ℕ) → k ≤ routine_count e.program → CallsCome e k (calls_to e.program e.text (routine_count e.program))
  less_known k le = record {
    gives = λ f t a there is an mine below run. known.gives f t a there is an mine (omega arith) run;
    runs = λ f t there is an mine below run. known.runs f t there is an mine (omega arith) run;
  }

  -- a value, and what follows where it is a word
  value_then : (c : Scope) (fixed : List ℤ) (m : Memory) (z : Point) (r : ℕ) (start : Own) (os : List Operand) (a : Answer) (next : ℤ → Run) (on out : Memory → Run) (rest : List Item) → Same z.scope before m
      → Runs e.image (Got e o c fixed before m r os a) start
      → ((v : ℤ) (u : Words) → Fits e o c fixed before u m → Runs e.image (Reached e o z before (followed (next v) on out rest)) (stand o u r (Value v ∷ os)))
      → Runs e.image (Reached e o z before (followed (with_value a m next) on out rest)) start
  value_then c fixed m z r start os (word v) next on out rest same h k = then_runs h (λ b g. subst (λ y. Runs e.image (Reached e o z before (followed (next v) on out rest)) y) (sym g.2) (k v g.0 g.1))
  value_then c fixed m z r start os (raised n) next on out rest same h k = then_runs h (λ b g. arrived (same, g))

  -- the turns that are left of a loop, from the end of a turn
  turns_left_run : (c : Scope) (fixed : List ℤ) (x : Name) (ss : Stmts) (spot start mid end : ℕ) (os : List Operand) (n : ℕ) (v : ℤ) (m : Memory) (u : Words) → FrameHere e o c → Looping e c o.job.inside x ss spot start mid end → CountsOn v (suc n)
      → Fits e o (inner c x spot end) (v ∷ fixed) before u m
      → Runs e.image (Reached e o (point c fixed o.job.inside false end os) before (turns (λ k. run_all (site_of e c (calls_to e.program e.text (routine_count e.program))) k ss) x ss n (v +ℤ pos 1) (without_turn m))) (stand o u mid (Counter (suc n) ∷ os))
  turns_left_run c fixed x ss spot start mid end os n v m u frame looping counts f =
      let here : Here e o c = record { may_run = looping.may_run; frame = frame } in
      turn_ends e o c fixed before here x ss spot start mid end os looping (λ k. run_all (site_of e c (calls_to e.program e.text (routine_count e.program))) k ss)
      (λ j y u2 k g. all_runs e code laid looping.level looping.low (calls_to e.program e.text (routine_count e.program)) (less_known looping.level looping.low) o before ss (inner c x spot end) (y ∷ fixed) k (suc spot) start mid (Counter (suc j) ∷ os) u2
      (here_inside e o c x spot end here) (suc j, os, refl) (room_inside c x spot end _ looping.room) g looping.emits looping.proper)
      n v counts u (without_turn m) (turn_again e o c fixed before x spot end _ looping.room u m v f)

  mutual
    pub items_come : (is : List Item) (c : Scope) (fixed : List ℤ) (p : ℕ) (os : List Operand) (z : Point) (m : Memory) (w : Words) → FrameHere e o c → c.is_function ≡ false → Fits e o c fixed before w m → (Receives is → ⊥)
        → Stands e (point c fixed o.job.inside false p os) is z → Runs e.image (Reached e o z before (run_items (site_of e c (calls_to e.program e.text (routine_count e.program))) m is)) (stand o w p os)
    items_come [] c fixed p os z m w frame acts f wait h =
        subst (λ t. Runs e.image (Reached e o t before (goes m)) (stand o w p os)) h.2
        (jumps e o c fixed before m (Reached e o (point c fixed o.job.inside false h.0 os) before (goes m)) h.0 p os h.1 (λ u g. arrived (u, g, refl, refl, refl)) w f)
    items_come (do_all ss ∷ is) c fixed p os z m w frame acts f wait h =
        let d : Doing e (point c fixed o.job.inside false p os) ss h.0 = h.1 in
        jumps e o c fixed before m (Reached e o z before (run_items (site_of e c (calls_to e.program e.text (routine_count e.program))) m (do_all ss ∷ is))) d.start p os d.onward
        (λ u g. then_reached e o (point c fixed o.job.inside false h.0 os) z before (stand o u d.start os) (run_all (site_of e c (calls_to e.program e.text (routine_count e.program))) m ss)
        (λ k. run_items (site_of e c (calls_to e.program e.text (routine_count e.program))) k is) (λ k. leave_loop (site_of e c (calls_to e.program e.text (routine_count e.program))) k is) is
        (function_stays e (point c fixed o.job.inside false h.0 os) is z h.3) refl
        (all_runs e code laid d.level d.low (calls_to e.program e.text (routine_count e.program)) (less_known d.level d.low) o before ss c fixed m d.word d.start h.0 os u (record { may_run = d.may_run; frame = frame }) d.counter d.room g d.emits d.proper)
        h.2 h.3
        (λ y k l inside. items_come is c fixed h.0 os z k y frame acts l (calm_receives is h.2) h.3)
        (λ k b l. leave_comes is c fixed h.0 os z k b frame acts h.2 h.3 l)) w f
    items_come (turns_left x v n ss ∷ is) c fixed p os z m w frame acts f wait h =
        let t : Turning e (point c fixed o.job.inside false p os) x v n ss = h.0 in
        let fits : Fits e o (inner t.outer x t.word t.end) (t.value ∷ t.fixed) before w m = subst (λ y. Fits e o (inner t.outer x t.word t.end) y before w m) t.values (subst (λ y. Fits e o y fixed before w m) t.scope f) in
        let frame2 : FrameHere e o (inner t.outer x t.word t.end) = subst (λ y. FrameHere e o y) t.scope frame in
        let acts2 : t.outer.is_function ≡ false = sym (ap (λ y. y.is_function) t.scope) ∙ acts in
        subst (λ y. Runs e.image (Reached e o z before (run_items (site_of e y (calls_to e.program e.text (routine_count e.program))) m (turns_left x v n ss ∷ is))) (stand o w p os)) (sym t.scope)
        (subst (λ y. Runs e.image (Reached e o z before (run_items (site_of e t.outer (calls_to e.program e.text (routine_count e.program))) m (turns_left x v n ss ∷ is))) (stand o w p y)) (sym t.counter)
        (subst (λ y. Runs e.image (Reached e o z before (run_items (site_of e t.outer (calls_to e.program e.text (routine_count e.program))) m (turns_left x y n ss ∷ is))) (stand o w p (Counter (suc n) ∷ t.operands))) (sym t.next)
        (jumps e o (inner t.outer x t.word t.end) (t.value ∷ t.fixed) before m (Reached e o z before (run_items (site_of e t.outer (calls_to e.program e.text (routine_count e.program))) m (turns_left x (t.value +ℤ pos 1) n ss ∷ is))) t.mid p (Counter (suc n) ∷ t.operands) t.onward
        (λ u g. then_reached e o (point t.outer t.fixed o.job.inside false t.end t.operands) z before (stand o u t.mid (Counter (suc n) ∷ t.operands))
        (turns (λ k. run_all (site_of e t.outer (calls_to e.program e.text (routine_count e.program))) k ss) x ss n (t.value +ℤ pos 1) (without_turn m))
        (λ k. run_items (site_of e t.outer (calls_to e.program e.text (routine_count e.program))) k is) (λ k. leave_loop (site_of e t.outer (calls_to e.program e.text (routine_count e.program))) k is) is
        (function_stays e (point t.outer t.fixed o.job.inside false t.end t.operands) is z h.2) refl
        (turns_left_run t.outer t.fixed x ss t.word t.start t.mid t.end t.operands n t.value m u frame2 t.looping t.counts_on g) h.1 h.2
        (λ y k l inside. items_come is t.outer t.fixed t.end t.operands z k y frame2 acts2 l (calm_receives is h.1) h.2)
        (λ k b l. leave_comes is t.outer t.fixed t.end t.operands z k b frame2 acts2 h.1 h.2 l)) w fits)))
    items_come (receive t ∷ is) c fixed p os z m w frame acts f wait h = absurd (wait tt)
    items_come (store t v ∷ is) c fixed p os z m w frame acts f wait h =
        let s : Storing e (point c fixed o.job.inside false p h.0) t h.2 h.3 = h.4 in
        subst (λ y. Runs e.image (Reached e o z before (run_items (site_of e c (calls_to e.program e.text (routine_count e.program))) m (store t v ∷ is))) (stand o w p y)) (sym h.1)
        (subst (λ y. Runs e.image (Reached e o z before (run_items (site_of e c (calls_to e.program e.text (routine_count e.program))) m (store t v ∷ is))) (stand o w p (Value v ∷ y))) (sym s.operands)
        (jumps e o c fixed before m (Reached e o z before (run_items (site_of e c (calls_to e.program e.text (routine_count e.program))) m (store t v ∷ is))) s.start p (Value v ∷ index_on t.index h.3) s.onward
        (λ u g. then_reached e o (point c fixed o.job.inside false h.2 h.3) z before (stand o u s.start (Value v ∷ index_on t.index h.3)) (store_to (home_of c.owner) m t v)
        (λ k. run_items (site_of e c (calls_to e.program e.text (routine_count e.program))) k is) (λ k. leave_loop (site_of e c (calls_to e.program e.text (routine_count e.program))) k is) is
        (function_stays e (point c fixed o.job.inside false h.2 h.3) is z h.6) refl
        (store_runs e laid o c fixed before m (record { may_run = s.may_run; frame = frame }) s.apart t.name t.index u s.start h.2 h.3 v g s.proper s.code) h.5 h.6
        (λ y k l inside. items_come is c fixed h.2 h.3 z k y frame acts l (calm_receives is h.5) h.6)
        (λ k b l. leave_comes is c fixed h.2 h.3 z k b frame acts h.5 h.6 l)) w f))
    items_come (enter_again mon ∷ is) c fixed p os z m w frame acts f wait h =
        let en : Entering e (point c fixed o.job.inside false p os) mon h.0 = h.1 in
        jumps e o c fixed before m (Reached e o z before (run_items (site_of e c (calls_to e.program e.text (routine_count e.program))) m (enter_again mon ∷ is))) h.0 p os en.onward
        (λ u g. arrived (
          sym (function_stays e (point c fixed (Some mon) false (h.0 + 1) os) is z h.3) ∙ acts,
          acting_at e o c fixed before m frame acts z u h.0 os os (i.Reenter (pos mon)) (enters mon) is g en.here (inr refl, refl, en.outside, en.reaches) (calm_receives is h.2) h.3,
        )) w f
    items_come (leave_with None mon ∷ is) c fixed p os z m w frame acts f wait h =
        let le : Leaving e (point c fixed o.job.inside false p os) mon h.0 = h.1 in
        jumps e o c fixed before m (Reached e o z before (run_items (site_of e c (calls_to e.program e.text (routine_count e.program))) m (leave_with None mon ∷ is))) h.0 p os le.onward
        (λ u g. arrived (
          sym (function_stays e (point c fixed None false (h.0 + 1) os) is z h.3) ∙ acts,
          acting_at e o c fixed before m frame acts z u h.0 os os (i.Leave (pos mon)) (leaves mon) is g le.here (refl, refl, le.inside) (calm_receives is h.2) h.3,
        )) w f
    items_come (leave_with (Some a) mon ∷ is) c fixed p os z m w frame acts f wait h =
        let an : Answering e (point c fixed o.job.inside false p os) a mon = h.0 in
        subst (λ y. Runs e.image (Reached e o z before (run_items (site_of e c (calls_to e.program e.text (routine_count e.program))) m (leave_with (Some a) mon ∷ is))) (stand o w p y)) (sym an.operands)
        (jumps e o c fixed before m (Reached e o z before (run_items (site_of e c (calls_to e.program e.text (routine_count e.program))) m (leave_with (Some a) mon ∷ is))) an.start p [] an.onward
        (λ u g. value_then c fixed m z an.leave (stand o u an.start []) [] (with_word (value (site_of e c (calls_to e.program e.text (routine_count e.program))) m a.value) (λ v. checked (range_of e.program a.kind) v))
        (λ v. stops (leaves mon) [] (give v ∷ []) m) (λ k. run_items (site_of e c (calls_to e.program e.text (routine_count e.program))) k is) (λ k. leave_loop (site_of e c (calls_to e.program e.text (routine_count e.program))) k is) is
        (subst (λ y. Same y before m) h.1.scope g.same)
        (answer_gets e an.level (calls_to e.program e.text (routine_count e.program)) code (less_known an.level an.low) o c fixed before m (record { may_run = an.may_run; frame = frame }) an.start an.leave [] a u g an.emits an.proper)
        (λ v y k. arrived (
          sym (ap (λ t. t.is_function) h.1.scope) ∙ acts,
          acting_at e o c fixed before m frame acts z y an.leave (Value v ∷ []) (Value v ∷ []) (i.Leave (pos mon)) (leaves mon) (give v ∷ is) k an.leaves (refl, refl, an.inside) (λ r. r)
              (an.leave + 1, record { onward = there; here = an.back; outside = refl; operands = refl }, record { last = h.1.last; gives = h.1.gives; scope = h.1.scope }),
        ))) w f)
    items_come (give v ∷ is) c fixed p os z m w frame acts f wait h =
        let g : Giving e (point c fixed o.job.inside false p os) v h.0 = h.1 in
        jumps e o c fixed before m (Reached e o z before (answers v m)) h.0 p os g.onward
        (λ u l. arrived (h.2.gives, g.outside, u, l.others, h.0, g.here, ap (λ y. stand o u h.0 y) g.operands)) w f

    leave_comes : (is : List Item) (c : Scope) (fixed : List ℤ) (p : ℕ) (os : List Operand) (z : Point) (m : Memory) (b : Own) → FrameHere e o c → c.is_function ≡ false → Calm is
        → Stands e (point c fixed o.job.inside false p os) is z → Left e o (point c fixed o.job.inside false p os) fixed before m c.exit b
        → Runs e.image (Reached e o z before (leave_loop (site_of e c (calls_to e.program e.text (routine_count e.program))) m is)) b
    leave_comes [] c fixed p os z m b frame acts calm h l = subst (λ t. Runs e.image (Reached e o t before (exits m)) b) h.2 (arrived l)
    leave_comes (do_all ss ∷ is) c fixed p os z m b frame acts calm h l = leave_comes is c fixed h.0 os z m b frame acts h.2 h.3 l
    leave_comes (turns_left x v n ss ∷ is) c fixed p os z m b frame acts calm h l =
        let t : Turning e (point c fixed o.job.inside false p os) x v n ss = h.0 in
        let frame2 : FrameHere e o (inner t.outer x t.word t.end) = subst (λ y. FrameHere e o y) t.scope frame in
        let acts2 : t.outer.is_function ≡ false = sym (ap (λ y. y.is_function) t.scope) ∙ acts in
        let left : Left e o (point (inner t.outer x t.word t.end) (t.value ∷ t.fixed) o.job.inside false p (Counter (suc n) ∷ t.operands)) (t.value ∷ t.fixed) before m (Some t.end) b =
        subst (λ y. Left e o (point (inner t.outer x t.word t.end) (t.value ∷ t.fixed) o.job.inside false p y) (t.value ∷ t.fixed) before m (Some t.end) b) t.counter
        (subst (λ y. Left e o (point (inner t.outer x t.word t.end) y o.job.inside false p os) y before m (Some t.end) b) t.values
        (subst (λ y. Left e o (point y fixed o.job.inside false p os) fixed before m y.exit b) t.scope l)) in
        subst (λ y. Runs e.image (Reached e o z before (run_items (site_of e y (calls_to e.program e.text (routine_count e.program))) (without_turn m) is)) b) (sym t.scope)
        (subst (λ y. Runs e.image (Reached e o z before (run_items (site_of e t.outer (calls_to e.program e.text (routine_count e.program))) (without_turn m) is)) y) (sym (left.5 ∙ ap (λ y. stand o left.3 t.end y) (sym (ap tail_of left.2))))
        (items_come is t.outer t.fixed t.end t.operands z (without_turn m) left.3 frame2 acts2 (leave_turn e o t.outer t.fixed before x t.word t.end _ t.looping.room left.3 m t.value left.4) (calm_receives is h.1) h.2))
    leave_comes (receive t ∷ is) c fixed p os z m b frame acts calm h l = absurd calm
    leave_comes (store t v ∷ is) c fixed p os z m b frame acts calm h l = absurd calm
    leave_comes (enter_again mon ∷ is) c fixed p os z m b frame acts calm h l = absurd calm
    leave_comes (leave_with None mon ∷ is) c fixed p os z m b frame acts calm h l = absurd (empty_left c.exit os h.1.operands l)
      where
        empty_left : (x : Option ℕ) (os : List Operand) → os ≡ [] → Left e o (point c fixed o.job.inside false p os) fixed before m x b → ⊥
        empty_left None os is l = l
        empty_left (Some y) os is l = no_counter (sym is ∙ l.2)
    leave_comes (leave_with (Some a) mon ∷ is) c fixed p os z m b frame acts calm h l = absurd (empty_left c.exit os h.0.operands l)
      where
        empty_left : (x : Option ℕ) (os : List Operand) → os ≡ [] → Left e o (point c fixed o.job.inside false p os) fixed before m x b → ⊥
        empty_left None os is l = l
        empty_left (Some y) os is l = no_counter (sym is ∙ l.2)
    leave_comes (give v ∷ is) c fixed p os z m b frame acts calm h l = absurd calm
