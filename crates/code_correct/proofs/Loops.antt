-- The turns of a loop.
use Rattle.std.specs.Prelude.{◌≡◌, ◌+◌, ◌≤◌, ℕ, zero, suc, false, List, [], ◌∷◌, Some, ℤ, pos, ◌+ℤ◌, slice_get, slice_set, length, get_or}
use Rattle.std.proofs.Common.{refl, sym, ◌∙◌, ap, subst, arith, inr, length-set}
use Rattle.std.proofs.lemmas.Option.{slice_get-get_or}
use Rattle.syntax_tree.specs.Plain.{Name, Stmts}
use Rattle.base.specs.Words.{word, in_word}
use Rattle.source_semantics.specs.Store.{Vars}
use Rattle.source_semantics.specs.Run.{Memory, turns_left, Run, goes, turns, with_turn, without_turn, with_own}
use Rattle.machine_isa.specs.declared.instr.Instr.TheVariants as i
use Rattle.machine_semantics.specs.State.{Operand, Value, Counter}
use Rattle.machine_semantics.specs.Effect as table
use Rattle.machine_semantics.specs.Effect.{Own, Goes, effect}
use Rattle.code_spec.specs.Layout.{single, Place, Scope}
use Rattle.code_spec.specs.Emits.{Has, counter_place, inner}
use Rattle.code_spec.specs.Steps.{Words, words, stand, Runs, arrived, moved}
use Rattle.code_spec.specs.Memory.{Setting, HoldsHeld, ApartFrom, AllBelow, Room, FitsFrame, Fits, Before, Here}
use Rattle.code_spec.specs.Proper.{CountsOn}
use Rattle.code_spec.specs.Stands.{Point, point, there, count_code, Looping, Stands}
use Rattle.code_spec.specs.Comes.{Reached}
use Rattle.code_correct.proofs.Steps.{fits_left, told, answer_told}
use Rattle.code_correct.proofs.Gets.{step_runs}
use Rattle.code_correct.proofs.Stores.{others_stay, get_set_same}
use Rattle.code_correct.proofs.Items.{then_reached}

-- ---- room

below_more : (w : ℕ) (ps : List Place) → AllBelow w ps → AllBelow (suc w) ps
below_more w [] h = tt
below_more w (p ∷ ps) h = (omega (arith, h.0), below_more w ps h.1)

apart_below : (x : Name) (w : ℕ) (ps : List Place) → AllBelow w ps → ApartFrom (counter_place x w) ps
apart_below x w [] h = tt
apart_below x w (p ∷ ps) h = (inr h.0, apart_below x w ps h.1)

pub room_inside : (c : Scope) (x : Name) (w q k : ℕ) → Room c w (suc k) → Room (inner c x w q) (suc w) k
room_inside c x w q k r = record { apart = (apart_below x w c.own r.below, r.apart); below = (omega arith, below_more w c.own r.below); room = (let enough : w + suc k ≤ c.frame = r.room in omega arith) }

pub here_inside : (e : Setting) (o : Own) (c : Scope) (x : Name) (w q : ℕ) → Here e o c → Here e o (inner c x w q)
here_inside e o c x w q h = record { may_run = h.may_run; frame = h.frame }

-- the words in which the loop's variable holds a value
abbrev pub counter_set : Words → ℕ → ℤ → Words
counter_set u w v = words (slice_set u.locals w v) u.owned u.shared

module _ (e : Setting) (o : Own) (c : Scope) (fixed : List ℤ) (before : Before) (x : Name) (w q k : ℕ) (room : Room c w (suc k)) where
  has_word : (u : Words) (m : Memory) → Fits e o c fixed before u m → slice_get u.locals w ≡ Some (get_or u.locals w (pos 0))
  has_word u m f = let size : length u.locals ≡ c.frame = f.frame.size in let enough : w + suc k ≤ c.frame = room.room in slice_get-get_or u.locals w (pos 0) (omega arith)

  -- into a turn, and out of it
  pub enter_turn : (u : Words) (m : Memory) (v : ℤ) → Fits e o c fixed before u m → Fits e o (inner c x w q) (v ∷ fixed) before (counter_set u w v) (with_turn x v m)
  enter_turn u m v f = record {
    frame = record {
      holds = (
        record { name = refl; range = refl; held = record { holds = get_set_same u.locals w (get_or u.locals w (pos 0)) v (has_word u m f); open_to = tt } },
        others_stay (λ j. Unit {0}) u.locals w v (counter_place x w) c.own m.own (apart_below x w c.own room.below) (omega arith, omega arith) f.frame.holds,
      );
      size = length-set u.locals w v ∙ f.frame.size;
      kept = (λ t. refl, f.frame.kept);
    };
    others = f.others;
    same = f.same;
  }

  pub leave_turn : (u : Words) (m : Memory) (v : ℤ) → Fits e o (inner c x w q) (v ∷ fixed) before u m → Fits e o c fixed before u (without_turn m)
  leave_turn u m v f = by_own m.own f.frame
    where
      by_own : (own : Vars) → FitsFrame (inner c x w q) (v ∷ fixed) u.locals own → Fits e o c fixed before u (without_turn (with_own m own))
      by_own [] g = absurd g.holds
      by_own (s ∷ ss) g = record { frame = record { holds = g.holds.1; size = g.size; kept = g.kept.1 }; others = f.others; same = f.same }

  pub turn_again : (u : Words) (m : Memory) (v : ℤ) → Fits e o (inner c x w q) (v ∷ fixed) before u m → Fits e o (inner c x w q) (v ∷ fixed) before u (with_turn x v (without_turn m))
  turn_again u m v f = by_own m.own f.frame
    where
      by_own : (own : Vars) → FitsFrame (inner c x w q) (v ∷ fixed) u.locals own → Fits e o (inner c x w q) (v ∷ fixed) before u (with_turn x v (without_turn (with_own m own)))
      by_own [] g = absurd g.holds
      by_own (s ∷ ss) g = record {
        frame = record {
          holds = (record { name = refl; range = refl; held = subst (λ t. HoldsHeld (λ j. Unit {0}) u.locals w single t) (g.kept.0 refl) g.holds.0.held }, g.holds.1);
          size = g.size;
          kept = (λ t. refl, g.kept.1);
        };
        others = f.others;
        same = f.same;
      }

  set_turn : (u : Words) (m : Memory) (v next : ℤ) → Fits e o (inner c x w q) (v ∷ fixed) before u (with_turn x v m) → Fits e o (inner c x w q) (next ∷ fixed) before (counter_set u w next) (with_turn x next m)
  set_turn u m v next f = enter_turn u m next (record { frame = record { holds = f.frame.holds.1; size = f.frame.size; kept = f.frame.kept.1 }; others = f.others; same = f.same })

  -- the code before the turns
  pub enters_loop : (G : Own → Type 0) (m : Memory) (u : Words) (p : ℕ) (os : List Operand) (v : ℤ) (n : ℕ) → Here e o c → Fits e o c fixed before u m
      → Has e.image.code p (i.Push v ∷ i.StoreLocal (pos w) ∷ i.Repeats (pos n) ∷ [])
      → ((y : Words) → Fits e o (inner c x w q) (v ∷ fixed) before y (with_turn x v m) → Runs e.image G (stand o y (p + 1 + 1 + 1) (Counter n ∷ os))) → Runs e.image G (stand o u p os)
  enters_loop G m u p os v n here f has go =
      step_runs e o c fixed before m here G u p (p + 1) os (Value v ∷ os) (i.Push v) f has.0 (λ s y g. refl)
      (λ y g. moved (i.StoreLocal (pos w)) (λ us. stand o (counter_set (words y.locals y.owned us) w v) (p + 1 + 1) os) has.1.0
      (λ s us same. ap (λ t. table.store t (table.set_local (pos w) v (stand o (words y.locals y.owned us) (p + 1 + 1) os))) (has_word y m g))
      (λ us same. step_runs e o (inner c x w q) (v ∷ fixed) before (with_turn x v m) (here_inside e o c x w q here) G (counter_set (words y.locals y.owned us) w v) (p + 1 + 1) (p + 1 + 1 + 1) os (Counter n ∷ os) (i.Repeats (pos n))
      (enter_turn (words y.locals y.owned us) m v (fits_left e o c fixed before y us m g same)) has.1.1.0 (λ s z h. refl) go))

  -- the code after a turn
  counts_up : (G : Own → Type 0) (m : Memory) (u : Words) (start mid : ℕ) (os : List Operand) (v : ℤ) → Here e o c → Fits e o (inner c x w q) (v ∷ fixed) before u (with_turn x v m) → in_word (v +ℤ pos 1) ≡ word (v +ℤ pos 1)
      → Has e.image.code mid (count_code w start)
      → ((y : Words) → Fits e o (inner c x w q) ((v +ℤ pos 1) ∷ fixed) before y (with_turn x (v +ℤ pos 1) m) → Runs e.image G (stand o y (mid + 1 + 1 + 1 + 1) os)) → Runs e.image G (stand o u mid os)
  counts_up G m u start mid os v here f fits has go =
      let inside : Here e o (inner c x w q) = here_inside e o c x w q here in
      step_runs e o (inner c x w q) (v ∷ fixed) before (with_turn x v m) inside G u mid (mid + 1) os (Value v ∷ os) (i.LoadLocal (pos w)) f has.0
      (λ s y g. ap (λ t. table.load t (stand o y (mid + 1) os)) g.frame.holds.0.held.holds)
      (λ y1 g1. step_runs e o (inner c x w q) (v ∷ fixed) before (with_turn x v m) inside G y1 (mid + 1) (mid + 1 + 1) (Value v ∷ os) (Value (pos 1) ∷ Value v ∷ os) (i.Push (pos 1)) g1 has.1.0 (λ s y g. refl)
      (λ y2 g2. step_runs e o (inner c x w q) (v ∷ fixed) before (with_turn x v m) inside G y2 (mid + 1 + 1) (mid + 1 + 1 + 1) (Value (pos 1) ∷ Value v ∷ os) (Value (v +ℤ pos 1) ∷ os) i.Add g2 has.1.1.0
      (λ s y g. answer_told o y (mid + 1 + 1 + 1) os (in_word (v +ℤ pos 1)) ∙ ap (λ a. told o y (mid + 1 + 1 + 1) os a) fits)
      (λ y3 g3. moved (i.StoreLocal (pos w)) (λ us. stand o (counter_set (words y3.locals y3.owned us) w (v +ℤ pos 1)) (mid + 1 + 1 + 1 + 1) os) has.1.1.1.0
      (λ s us same. ap (λ t. table.store t (table.set_local (pos w) (v +ℤ pos 1) (stand o (words y3.locals y3.owned us) (mid + 1 + 1 + 1 + 1) os))) g3.frame.holds.0.held.holds)
      (λ us same. go (counter_set (words y3.locals y3.owned us) w (v +ℤ pos 1)) (set_turn (words y3.locals y3.owned us) m v (v +ℤ pos 1) (fits_left e o (inner c x w q) (v ∷ fixed) before y3 us (with_turn x v m) g3 same))))))

abbrev pub tail_of : List Operand → List Operand
tail_of [] = []
tail_of (x ∷ os) = os

module _ (e : Setting) (o : Own) (c : Scope) (fixed : List ℤ) (before : Before) (here : Here e o c) (x : Name) (ss : Stmts) (w start mid q : ℕ) (os : List Operand) (looping : Looping e c o.job.inside x ss w start mid q)
    (body : Memory → Run) (does : (n : ℕ) (v : ℤ) (u : Words) (m : Memory) → Fits e o (inner c x w q) (v ∷ fixed) before u m
    → Runs e.image (Reached e o (point (inner c x w q) (v ∷ fixed) o.job.inside false mid (Counter (suc n) ∷ os)) before (body m)) (stand o u start (Counter (suc n) ∷ os))) where
  -- where a turn ends, with so many turns left, and where the loop ends
  abbrev TurnEnd : ℕ → ℤ → Point
  TurnEnd n v = point (inner c x w q) (v ∷ fixed) o.job.inside false mid (Counter (suc n) ∷ os)

  abbrev LoopEnd : Point
  LoopEnd = point c fixed o.job.inside false q os

  turn_stands : (n : ℕ) (v : ℤ) → CountsOn v (suc n) → Stands e (TurnEnd n v) (turns_left x (v +ℤ pos 1) n ss ∷ []) LoopEnd
  turn_stands n v counts = (
    record { outer = c; fixed = fixed; value = v; operands = os; word = w; start = start; mid = mid; end = q; scope = refl; values = refl; counter = refl; next = refl; onward = there; looping = looping; counts_on = counts },
    tt,
    (q, there, refl),
  )

  -- a turn, and what comes after it
  turn_runs : (n : ℕ) (v : ℤ) → CountsOn v (suc n)
      → ((u : Words) (m : Memory) → Fits e o (inner c x w q) (v ∷ fixed) before u (with_turn x v m) → Runs e.image (Reached e o LoopEnd before (turns body x ss n (v +ℤ pos 1) m)) (stand o u mid (Counter (suc n) ∷ os)))
      → (u : Words) (m : Memory) → Fits e o (inner c x w q) (v ∷ fixed) before u (with_turn x v m) → Runs e.image (Reached e o LoopEnd before (turns body x ss (suc n) v m)) (stand o u start (Counter (suc n) ∷ os))
  turn_runs n v counts ends u m f =
      then_reached e o (TurnEnd n v) LoopEnd before (stand o u start (Counter (suc n) ∷ os)) (body (with_turn x v m)) (λ k. turns body x ss n (v +ℤ pos 1) (without_turn k)) (λ k. goes (without_turn k))
      (turns_left x (v +ℤ pos 1) n ss ∷ []) refl refl (does n v u (with_turn x v m) f) tt (turn_stands n v counts)
      (λ y k g inside. ends y (without_turn k) (turn_again e o c fixed before x w q _ looping.room y k v g))
      (λ k b l. arrived (l.3, leave_turn e o c fixed before x w q _ looping.room l.3 k v l.4, refl, refl, subst (λ t. b ≡ stand o l.3 q t) (sym (ap tail_of l.2)) l.5))

  -- the end of a turn, with so many turns left
  pub turn_ends : (n : ℕ) (v : ℤ) → CountsOn v (suc n) → (u : Words) (m : Memory) → Fits e o (inner c x w q) (v ∷ fixed) before u (with_turn x v m)
      → Runs e.image (Reached e o LoopEnd before (turns body x ss n (v +ℤ pos 1) m)) (stand o u mid (Counter (suc n) ∷ os))
  turn_ends zero v counts u m f =
      counts_up e o c fixed before x w q _ looping.room (Reached e o LoopEnd before (goes m)) m u start mid (Counter 1 ∷ os) v here f counts.0 looping.counts
      (λ y g. step_runs e o (inner c x w q) ((v +ℤ pos 1) ∷ fixed) before (with_turn x (v +ℤ pos 1) m) (here_inside e o c x w q here) (Reached e o LoopEnd before (goes m)) y (mid + 1 + 1 + 1 + 1) (mid + 1 + 1 + 1 + 1 + 1) (Counter 1 ∷ os) os (i.Repeat (pos start)) g looping.counts.1.1.1.1.0 (λ s z h. refl)
      (λ z h. subst (λ t. Runs e.image (Reached e o LoopEnd before (goes m)) (stand o z t os)) looping.end_is
      (arrived (z, leave_turn e o c fixed before x w q _ looping.room z (with_turn x (v +ℤ pos 1) m) (v +ℤ pos 1) h, refl, refl, refl))))
  turn_ends (suc n) v counts u m f =
      counts_up e o c fixed before x w q _ looping.room (Reached e o LoopEnd before (turns body x ss (suc n) (v +ℤ pos 1) m)) m u start mid (Counter (suc (suc n)) ∷ os) v here f counts.0 looping.counts
      (λ y g. step_runs e o (inner c x w q) ((v +ℤ pos 1) ∷ fixed) before (with_turn x (v +ℤ pos 1) m) (here_inside e o c x w q here) (Reached e o LoopEnd before (turns body x ss (suc n) (v +ℤ pos 1) m)) y (mid + 1 + 1 + 1 + 1) start (Counter (suc (suc n)) ∷ os) (Counter (suc n) ∷ os) (i.Repeat (pos start)) g looping.counts.1.1.1.1.0 (λ s z h. refl)
      (λ z h. turn_runs n (v +ℤ pos 1) counts.1 (λ y2 m2 f2. turn_ends n (v +ℤ pos 1) counts.1 y2 m2 f2) z m h))

  -- all turns
  pub turns_run : (n : ℕ) (v : ℤ) → CountsOn v (suc n) → (u : Words) (m : Memory) → Fits e o (inner c x w q) (v ∷ fixed) before u (with_turn x v m)
      → Runs e.image (Reached e o LoopEnd before (turns body x ss (suc n) v m)) (stand o u start (Counter (suc n) ∷ os))
  turns_run n v counts u m f = turn_runs n v counts (λ y k g. turn_ends n v counts y k g) u m f
