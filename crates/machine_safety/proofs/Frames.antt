-- An instruction within a frame.
use Rattle.std.proofs.Common.{◌≡◌, ◌≤◌, ◌+◌, ◌*◌, ◌⊎◌, inl, inr, ℕ, zero, suc, List, [], ◌∷◌, Option, Some, None, length, arith, refl, ap, sym, subst, ◌∙◌, true, false, Bool}
use Rattle.std.specs.Prelude.{cond, pos}
use Rattle.machine_isa.specs.declared.instr.Instr.{Instr}
use Rattle.machine_isa.specs.declared.instr.Instr.TheVariants as i
use Rattle.base.specs.Words.{is_zero}
use Rattle.machine_semantics.specs.Trees.{Segs, Line, Fork, Rep, Exit, Nil, Cons}
use Rattle.machine_semantics.specs.State.{Operand, Value, Counter, State}
use Rattle.machine_semantics.specs.Effect.{Own, Outcome, Goes, Does, Signals, Broadcasts, Waits, Raises, Ends, Stuck, effect, holding, go_to, count_down, drop_counter}
use Rattle.machine_isa.specs.Ticks.{ticks}
use Rattle.machine_isa.specs.Operands.{takes, gives}
use Rattle.machine_semantics.specs.Part.{Kind, Plain, Counts, kinds, plains, IsSized}
use Rattle.machine_semantics.specs.SafeTerms.{GoesOn, After, IsIn}
use Rattle.machine_semantics.specs.Walk.{Where, WalkCost, Covers, At, IsLine, Walk, Walks}
use Rattle.machine_semantics.specs.Path.{Step, Segment, Skip, Again, Leaves, under, held, then_rest, Follows, Frame, Moved, next_own}
use Rattle.machine_safety.proofs.Plain.{plain_is_safe, one_goes}
use Rattle.machine_safety.proofs.Lists.{plains_add, length-plains, under_then, held_then}

pub goes_map : (P Q : Own → Type 0) (out : Outcome) → ((p : Own) → P p → Q p) → GoesOn P out → GoesOn Q out
goes_map P Q (Goes p) f g = f p g
goes_map P Q (Does a p) f g = f p g
goes_map P Q (Signals c p) f g = f p g
goes_map P Q (Broadcasts c p) f g = f p g
goes_map P Q (Raises n) f g = tt
goes_map P Q (Waits c limit n p) f g = absurd g
goes_map P Q Ends f g = absurd g
goes_map P Q Stuck f g = absurd g

-- the process is inside the monitor that its steps tell of, where its part is an entry
abbrev pub IsInside : Where → List Step → Own → Type 0
IsInside e path o = (e.part.monitor ≡ None) ⊎ (o.job.inside ≡ held path)

pub framed : (e : Where) (path : List Step) (out : Option ℕ) (at h : ℕ) (c : WalkCost) (p : Own) → Follows e out path at h c → p.job.place ≡ at
    → kinds p.job.operands ≡ plains h (under path) → length (plains h (under path)) ≤ e.part.depth → IsIn e.part p → Frame e path out h c p
framed e path out at h c p f is ops room words = record { follows = subst (λ (a : ℕ). Follows e out path a h c) (sym is) f; operands = ops; room = room; words = words }

-- a greater cost covers too
more_covers : (c d : WalkCost) (r s w l : ℕ) → Covers c r s w l → Covers d c.run c.susp c.waits c.leave → Covers d r s w l
more_covers c d r s w l b more = record { run = omega (arith, b, more); susp = omega (arith, b, more); waits = omega (arith, b, more); leave = omega (arith, b, more) }

pub follows_at_more : (e : Where) (out : Option ℕ) (path : List Step) (at h : ℕ) (c d : WalkCost) → Follows e out path at h c → Covers d c.run c.susp c.waits c.leave → Follows e out path at h d
follows_at_more e out [] at h c d f more = record { no_loop = f.no_loop; ends = f.ends; height = f.height; covers = more_covers c d _ _ _ _ f.covers more }
follows_at_more e out (Segment seg ∷ rest) at h c d f more = record { next = f.next; k = f.k; first = f.first; later = f.later; walk = f.walk; more = f.more; covers = more_covers c d _ _ _ _ f.covers more }
follows_at_more e out (Skip to ∷ rest) at h c d f more = record { jumps = f.jumps; later = f.later; more = f.more; covers = more_covers c d _ _ _ _ f.covers more }
follows_at_more e out (Again turns start body height ∷ rest) at h c d f more =
    record { empty = f.empty; repeats = f.repeats; out_is = f.out_is; turn = f.turn; loop = f.loop; outer = f.outer; later = f.later; more = f.more; room = f.room; covers = more_covers c d _ _ _ _ f.covers more }
follows_at_more e out (Leaves m ∷ rest) at h c d f more = record { no_loop = f.no_loop; leaves = f.leaves; entry = f.entry; outside = f.outside; later = f.later; more = f.more; covers = more_covers c d _ _ _ _ f.covers more }

-- segments and what follows them
pub follows_then : (e : Where) (out : Option ℕ) (segs : Segs) (rest : List Step) (at next h k : ℕ) (first later c : WalkCost)
    → Walks e out (held rest) (length (under rest)) segs at next h k first → Follows e out rest next k later
    → Covers c (first.run + later.run) (first.susp + later.susp) (first.waits + later.waits) (first.leave + later.leave) → Follows e out (then_rest segs rest) at h c
follows_then e out Nil rest at next h k first later c walks follows covers =
    subst (λ (a : ℕ). Follows e out rest a h c) walks.0 (subst (λ (g : ℕ). Follows e out rest next g c) walks.1
    (follows_at_more e out rest next k later c follows (record { run = omega (arith, covers); susp = omega (arith, covers); waits = omega (arith, covers); leave = omega (arith, covers) })))
follows_then e out (Cons head more) rest at next h k first later c walks follows covers =
    let c' : WalkCost = record { run = walks.later.run + later.run; susp = walks.later.susp + later.susp; waits = walks.later.waits + later.waits; leave = walks.later.leave + later.leave } in
    record {
      next = walks.mid;
      k = walks.between;
      first = walks.first;
      later = c';
      walk = subst (λ (ks : List Kind). Walk e out (held (then_rest more rest)) (length ks) head at walks.mid h walks.between walks.first) (sym (under_then more rest))
          (subst (λ (m : Option ℕ). Walk e out m (length (under rest)) head at walks.mid h walks.between walks.first) (sym (held_then more rest)) walks.here);
      more = follows_then e out more rest walks.mid next walks.between k walks.later later c' walks.more follows (record { run = omega arith; susp = omega arith; waits = omega arith; leave = omega arith });
      covers = record { run = omega (arith, walks.covers); susp = omega (arith, walks.covers); waits = omega (arith, walks.covers); leave = omega (arith, walks.covers) };
    }

-- steps take at least the last instruction
pub at_least_end : (e : Where) (path : List Step) (out : Option ℕ) (at h : ℕ) (c : WalkCost) → Follows e out path at h c → 4 ≤ c.run
at_least_end e [] out at h c f = f.covers.run
at_least_end e (Segment seg ∷ rest) out at h c f = omega (arith, f.covers, at_least_end e rest out f.next f.k f.later f.more)
at_least_end e (Skip to ∷ rest) out at h c f = omega (arith, f.covers, at_least_end e rest out to h f.later f.more)
at_least_end e (Again turns start body height ∷ rest) out at h c f = omega (arith, f.covers, at_least_end e rest f.outer (at + 1) height f.later f.more)
at_least_end e (Leaves m ∷ rest) out at h c f = omega (arith, f.covers, at_least_end e rest out (at + 1) h f.later f.more)

-- what one instruction within a frame comes to; a raise leaves time for an END
abbrev pub Moves : Where → State → List Step → WalkCost → Own → Type 0
Moves e s path c o = (instr : Instr) × At e o.job.place instr × (4 + ticks instr ≤ c.run) × (ticks instr ≤ c.leave) × GoesOn (Moved e path c (ticks instr) o) (effect e.image s instr (next_own o))

-- ---- a Line

-- an instruction that leaves the operands, and a frame that goes on at the next place
after_plain : (e : Where) (path new : List Step) (out : Option ℕ) (h : ℕ) (c d : WalkCost) (n : ℕ) (o p : Own) → IsIn e.part o → After (next_own o) (plains h (under new)) p
    → Follows e out new (o.job.place + 1) h d → length (plains h (under new)) ≤ e.part.depth → held new ≡ held path → Covers c (d.run + n) d.susp d.waits (d.leave + n) → Moved e path c n o p
after_plain e path new out h c d n o p words a follows room same less = record {
  new_path = new;
  out = out;
  height = h;
  cost = d;
  frame = framed e new out (o.job.place + 1) h d p follows a.place a.operands room (record { locals = a.locals ∙ words.locals; owned = omega (arith, a.owned, words.owned) });
  same_held = same;
  less = less;
  done = a.done;
  dispatch_ticks = a.dispatch_ticks;
  callers = a.callers;
  handling = a.handling;
  inside = a.inside;
  owned = a.owned;
  shared = a.shared;
}

-- what is left of the Line, and what follows it
rest_of_line : (n : ℕ) (rest : List Step) → List Step
rest_of_line zero rest = rest
rest_of_line (suc n) rest = Segment (Line (suc n)) ∷ rest

under_rest : (n : ℕ) (rest : List Step) → under (rest_of_line n rest) ≡ under rest
unfolding rest_of_line
under_rest zero rest = refl
under_rest (suc n) rest = refl

held_rest : (n : ℕ) (rest : List Step) → held (rest_of_line n rest) ≡ held rest
unfolding rest_of_line
held_rest zero rest = refl
held_rest (suc n) rest = refl

follows_line : (e : Where) (out : Option ℕ) (n : ℕ) (rest : List Step) (at next h k : ℕ) (first later : WalkCost)
    → held rest ≡ e.part.monitor → IsLine e (length (under rest)) n at next h k first → Follows e out rest next k later
    → Follows e out (rest_of_line n rest) at h (record { run = first.run + later.run; susp = first.susp + later.susp; waits = first.waits + later.waits; leave = first.leave + later.leave })
unfolding rest_of_line
follows_line e out zero rest at next h k first later inside line follows =
    subst (λ (a : ℕ). Follows e out rest a h (record { run = first.run + later.run; susp = first.susp + later.susp; waits = first.waits + later.waits; leave = first.leave + later.leave })) line.0
    (subst (λ (g : ℕ). Follows e out rest next g (record { run = first.run + later.run; susp = first.susp + later.susp; waits = first.waits + later.waits; leave = first.leave + later.leave })) line.1
    (follows_at_more e out rest next k later _ follows (record { run = omega arith; susp = omega arith; waits = omega arith; leave = omega arith })))
follows_line e out (suc n) rest at next h k first later inside line follows =
    record { next = next; k = k; first = first; later = later; walk = (inside, line); more = follows; covers = record { run = omega arith; susp = omega arith; waits = omega arith; leave = omega arith } }

pub at_line : (e : Where) (s : State) (n : ℕ) (rest : List Step) (out : Option ℕ) (h : ℕ) (c : WalkCost) (o : Own)
    → IsSized e.image s o.shared → IsInside e (Segment (Line (suc n)) ∷ rest) o → Frame e (Segment (Line (suc n)) ∷ rest) out h c o
    → Moves e s (Segment (Line (suc n)) ∷ rest) c o
at_line e s n rest out h c o sized inside f =
    let path : List Step = Segment (Line (suc n)) ∷ rest in
    let line : IsLine e (length (under rest)) (suc n) o.job.place f.follows.next h f.follows.k f.follows.first = f.follows.walk.1 in
    let entered : (e.part.monitor ≡ None) ⊎ (o.job.inside ≡ e.part.monitor) = elim inside [ inl none ↦ inl none | inr is ↦ inr (is ∙ f.follows.walk.0) ] in
    let ops : kinds o.job.operands ≡ plains (takes line.instr) (plains line.kept (under rest)) =
    f.operands ∙ (ap (λ g. plains g (under rest)) line.taken ∙ plains_add (takes line.instr) line.kept (under rest)) in
    let left : WalkCost = record { run = line.later.run + f.follows.later.run; susp = line.later.susp + f.follows.later.susp; waits = line.later.waits + f.follows.later.waits; leave = line.later.leave + f.follows.later.leave } in
    let new : List Step = rest_of_line n rest in
    let h' : ℕ = gives line.instr + line.kept in (
      line.instr,
      line.here,
      omega (arith, f.follows.covers, line.covers, at_least_end e rest out f.follows.next f.follows.k f.follows.later f.follows.more),
      omega (arith, f.follows.covers, line.covers),
      goes_map (After (next_own o) (plains (gives line.instr) (plains line.kept (under rest)))) (Moved e path c (ticks line.instr) o) (effect e.image s line.instr (next_own o))
          (λ p a. after_plain e path new out h' c left (ticks line.instr) o p f.words
          (subst (λ (ks : List Kind). After (next_own o) ks p) (sym (plains_add (gives line.instr) line.kept (under rest)) ∙ ap (λ (ks : List Kind). plains h' ks) (sym (under_rest n rest))) a)
          (follows_line e out n rest (o.job.place + 1) f.follows.next h' f.follows.k line.later f.follows.later f.follows.walk.0 line.more f.follows.more)
          (omega (arith, length-plains h' (under new), ap (λ (ks : List Kind). length ks) (under_rest n rest), line.room))
          (held_rest n rest)
          (record { run = omega (arith, f.follows.covers, line.covers); susp = omega (arith, f.follows.covers, line.covers); waits = omega (arith, f.follows.covers, line.covers); leave = omega (arith, f.follows.covers, line.covers) }))
          (plain_is_safe e.image s e.part line.instr (next_own o) (plains line.kept (under rest)) line.plain sized (record { locals = f.words.locals; owned = f.words.owned }) entered ops),
    )

-- ---- branches and loops

-- the process at another place, with other operands
abbrev pub stand : Own → ℕ → List Operand → Own
stand o at operands = record o { job = record (o.job) { place = at; done = 0; operands = operands } }

moved_to : (e : Where) (path new : List Step) (out : Option ℕ) (at h : ℕ) (c d : WalkCost) (n : ℕ) (o : Own) (os : List Operand) → IsIn e.part o
    → Follows e out new at h d → kinds os ≡ plains h (under new) → length (plains h (under new)) ≤ e.part.depth → held new ≡ held path → Covers c (d.run + n) d.susp d.waits (d.leave + n)
    → Moved e path c n o (stand o at os)
moved_to e path new out at h c d n o os words follows ops room same less = record {
  new_path = new;
  out = out;
  height = h;
  cost = d;
  frame = record { follows = follows; operands = ops; room = room; words = record { locals = words.locals; owned = words.owned } };
  same_held = same;
  less = less;
  done = refl;
  dispatch_ticks = refl;
  callers = refl;
  handling = refl;
  inside = refl;
  owned = refl;
  shared = refl;
}

either : (P : Own → Type 0) (b : Bool) (x y : Outcome) → GoesOn P x → GoesOn P y → GoesOn P (cond b x y)
either P true x y p q = p
either P false x y p q = q

pub at_fork : (e : Where) (s : State) (first second : Segs) (rest : List Step) (out : Option ℕ) (h : ℕ) (c : WalkCost) (o : Own)
    → Frame e (Segment (Fork first second) ∷ rest) out h c o → Moves e s (Segment (Fork first second) ∷ rest) c o
at_fork e s first second rest out h c o f =
    let path : List Step = Segment (Fork first second) ∷ rest in
    let w : Walk e out (held rest) (length (under rest)) (Fork first second) o.job.place f.follows.next h f.follows.k f.follows.first = f.follows.walk in
    let P : Own → Type 0 = Moved e path c 2 o in
    let ops : kinds o.job.operands ≡ Plain ∷ plains w.below (under rest) = f.operands ∙ ap (λ g. plains g (under rest)) w.taken in
    let skipped : List Step = Skip f.follows.next ∷ rest in
    let new1 : List Step = then_rest first skipped in
    let new2 : List Step = then_rest second rest in
    let u1 : under new1 ≡ under rest = under_then first skipped in
    let u2 : under new2 ≡ under rest = under_then second rest in
    let skip_cost : WalkCost = record { run = 1 + f.follows.later.run; susp = f.follows.later.susp; waits = f.follows.later.waits; leave = 1 + f.follows.later.leave } in
    let d1 : WalkCost = record { run = w.first_cost.run + skip_cost.run; susp = w.first_cost.susp + skip_cost.susp; waits = w.first_cost.waits + skip_cost.waits; leave = w.first_cost.leave + skip_cost.leave } in
    let d2 : WalkCost = record { run = w.second_cost.run + f.follows.later.run; susp = w.second_cost.susp + f.follows.later.susp; waits = w.second_cost.waits + f.follows.later.waits; leave = w.second_cost.leave + f.follows.later.leave } in
    let f1 : Follows e out new1 (o.job.place + 1) w.below d1 =
    follows_then e out first skipped (o.job.place + 1) w.jump w.below f.follows.k w.first_cost skip_cost d1 w.first_arm
    (record { jumps = w.jumps; later = f.follows.later; more = f.follows.more; covers = record { run = omega arith; susp = omega arith; waits = omega arith; leave = omega arith } })
    (record { run = omega arith; susp = omega arith; waits = omega arith; leave = omega arith }) in
    let f2 : Follows e out new2 (w.jump + 1) w.below d2 =
    follows_then e out second rest (w.jump + 1) f.follows.next w.below f.follows.k w.second_cost f.follows.later d2 w.second_arm f.follows.more
    (record { run = omega arith; susp = omega arith; waits = omega arith; leave = omega arith }) in
    let r1 : length (plains w.below (under new1)) ≤ e.part.depth =
    omega (arith, length-plains w.below (under new1), ap (λ (ks : List Kind). length ks) u1, length-plains h (under rest), f.room, w.taken) in
    let r2 : length (plains w.below (under new2)) ≤ e.part.depth =
    omega (arith, length-plains w.below (under new2), ap (λ (ks : List Kind). length ks) u2, length-plains h (under rest), f.room, w.taken) in (
      i.JumpZero (pos (w.jump + 1)),
      w.tests,
      omega (arith, f.follows.covers, w.covers_second, at_least_end e rest out f.follows.next f.follows.k f.follows.later f.follows.more),
      omega (arith, f.follows.covers, w.covers_second),
      one_goes P (next_own o) (λ x p. cond (is_zero x) (go_to (pos (w.jump + 1)) p) (Goes p)) (plains w.below (under rest)) ops
          (λ x os is. either P (is_zero x) _ _
          (moved_to e path new2 out (w.jump + 1) w.below c d2 2 o os f.words f2 (is ∙ ap (λ (ks : List Kind). plains w.below ks) (sym u2)) r2 (held_then second rest)
          (record { run = omega (arith, f.follows.covers, w.covers_second); susp = omega (arith, f.follows.covers, w.covers_second); waits = omega (arith, f.follows.covers, w.covers_second); leave = omega (arith, f.follows.covers, w.covers_second) }))
          (moved_to e path new1 out (o.job.place + 1) w.below c d1 2 o os f.words f1 (is ∙ ap (λ (ks : List Kind). plains w.below ks) (sym u1)) r1 (held_then first skipped)
          (record { run = omega (arith, f.follows.covers, w.covers_first); susp = omega (arith, f.follows.covers, w.covers_first); waits = omega (arith, f.follows.covers, w.covers_first); leave = omega (arith, f.follows.covers, w.covers_first) }))),
    )

pub at_skip : (e : Where) (s : State) (to : ℕ) (rest : List Step) (out : Option ℕ) (h : ℕ) (c : WalkCost) (o : Own)
    → Frame e (Skip to ∷ rest) out h c o → Moves e s (Skip to ∷ rest) c o
at_skip e s to rest out h c o f = (
  i.Jump (pos to),
  f.follows.jumps,
  omega (arith, f.follows.covers, at_least_end e rest out to h f.follows.later f.follows.more),
  omega (arith, f.follows.covers),
  moved_to e (Skip to ∷ rest) rest out to h c f.follows.later 1 o o.job.operands f.words f.follows.more f.operands f.room refl
      (record { run = omega (arith, f.follows.covers); susp = omega (arith, f.follows.covers); waits = omega (arith, f.follows.covers); leave = omega (arith, f.follows.covers) }),
)

pub at_rep : (e : Where) (s : State) (n : ℕ) (body : Segs) (rest : List Step) (out : Option ℕ) (h : ℕ) (c : WalkCost) (o : Own)
    → Frame e (Segment (Rep (suc n) body) ∷ rest) out h c o → Moves e s (Segment (Rep (suc n) body) ∷ rest) c o
at_rep e s n body rest out h c o f =
    let path : List Step = Segment (Rep (suc n) body) ∷ rest in
    let w : Walk e out (held rest) (length (under rest)) (Rep (suc n) body) o.job.place f.follows.next h f.follows.k f.follows.first = f.follows.walk in
    let later : WalkCost = f.follows.later in
    let again : List Step = Again n (o.job.place + 1) body h ∷ rest in
    let new : List Step = then_rest body again in
    let base : suc (h + length (under rest)) ≡ suc (length (plains h (under rest))) = omega (arith, length-plains h (under rest)) in
    let loop : Walks e (Some (w.last + 1)) (held rest) (suc (length (plains h (under rest)))) body (o.job.place + 1) w.last 0 0 w.turn =
    subst (λ (b : ℕ). Walks e (Some (w.last + 1)) (held rest) b body (o.job.place + 1) w.last 0 0 w.turn) base w.loop in
    let more : Follows e out rest (w.last + 1) h later =
    subst (λ (a : ℕ). Follows e out rest a h later) w.next_is (subst (λ (g : ℕ). Follows e out rest f.follows.next g later) w.kept f.follows.more) in
    let again_cost : WalkCost = record { run = 3 + n * (w.turn.run + 3) + later.run; susp = n * w.turn.susp + later.susp; waits = n * w.turn.waits + later.waits; leave = 3 + n * (w.turn.leave + 3) + later.leave } in
    let d : WalkCost = record { run = w.turn.run + again_cost.run; susp = w.turn.susp + again_cost.susp; waits = w.turn.waits + again_cost.waits; leave = w.turn.leave + again_cost.leave } in
    let u : under new ≡ Counts (suc n) ∷ plains h (under rest) = under_then body again in
    let follows : Follows e (Some (w.last + 1)) new (o.job.place + 1) 0 d =
    follows_then e (Some (w.last + 1)) body again (o.job.place + 1) w.last 0 0 w.turn again_cost d loop
    (record {
      empty = refl;
      repeats = w.repeats;
      out_is = refl;
      turn = w.turn;
      loop = loop;
      outer = out;
      later = later;
      more = more;
      room = omega (arith, w.room, length-plains h (under rest));
      covers = record { run = omega arith; susp = omega arith; waits = omega arith; leave = omega arith };
    })
    (record { run = omega arith; susp = omega arith; waits = omega arith; leave = omega arith }) in (
      i.Repeats (pos (suc n)),
      w.counts,
      omega (arith, f.follows.covers, w.covers, at_least_end e rest out f.follows.next f.follows.k f.follows.later f.follows.more),
      omega (arith, f.follows.covers, w.covers),
      moved_to e path new (Some (w.last + 1)) (o.job.place + 1) 0 c d 2 o (Counter (suc n) ∷ o.job.operands) f.words follows
          (ap (λ (ks : List Kind). Counts (suc n) ∷ ks) f.operands ∙ sym u)
          (omega (arith, w.room, ap (λ (ks : List Kind). length ks) u, length-plains h (under rest)))
          (held_then body again)
          (record { run = omega (arith, f.follows.covers, w.covers); susp = omega (arith, f.follows.covers, w.covers); waits = omega (arith, f.follows.covers, w.covers); leave = omega (arith, f.follows.covers, w.covers) }),
    )

-- the counter is on top
counted : (n : ℕ) (os : List Operand) (ks : List Kind) → kinds os ≡ Counts n ∷ ks → (more : List Operand) × (os ≡ Counter n ∷ more) × (kinds more ≡ ks)
counted n (Counter m ∷ more) ks is = (more, let e : m ≡ n = cc in ap (λ (j : ℕ). Counter j ∷ more) e, cc)
counted n (Value x ∷ more) ks is = absurd cc
counted n [] ks is = absurd cc

pub at_again : (e : Where) (s : State) (n start : ℕ) (body : Segs) (height : ℕ) (rest : List Step) (out : Option ℕ) (h : ℕ) (c : WalkCost) (o : Own)
    → Frame e (Again n start body height ∷ rest) out h c o → Moves e s (Again n start body height ∷ rest) c o
at_again e s zero start body height rest out h c o f =
    let path : List Step = Again 0 start body height ∷ rest in
    let P : Own → Type 0 = Moved e path c 3 o in
    let top : (more : List Operand) × (o.job.operands ≡ Counter 1 ∷ more) × (kinds more ≡ plains height (under rest)) =
    counted 1 o.job.operands (plains height (under rest)) (f.operands ∙ ap (λ g. plains g (under path)) f.follows.empty) in (
      i.Repeat (pos start),
      f.follows.repeats,
      omega (arith, f.follows.covers, at_least_end e rest f.follows.outer (o.job.place + 1) height f.follows.later f.follows.more),
      omega (arith, f.follows.covers),
      subst (λ (os : List Operand). GoesOn P (count_down os (pos start) (next_own o))) (sym top.1)
          (moved_to e path rest f.follows.outer (o.job.place + 1) height c f.follows.later 3 o top.0 f.words f.follows.more top.2 (omega (arith, f.follows.room)) refl
          (record { run = omega (arith, f.follows.covers); susp = omega (arith, f.follows.covers); waits = omega (arith, f.follows.covers); leave = omega (arith, f.follows.covers) })),
    )
at_again e s (suc n) start body height rest out h c o f =
    let path : List Step = Again (suc n) start body height ∷ rest in
    let P : Own → Type 0 = Moved e path c 3 o in
    let top : (more : List Operand) × (o.job.operands ≡ Counter (suc (suc n)) ∷ more) × (kinds more ≡ plains height (under rest)) =
    counted (suc (suc n)) o.job.operands (plains height (under rest)) (f.operands ∙ ap (λ g. plains g (under path)) f.follows.empty) in
    let later : WalkCost = f.follows.later in
    let turn : WalkCost = f.follows.turn in
    let again : List Step = Again n start body height ∷ rest in
    let new : List Step = then_rest body again in
    let u : under new ≡ Counts (suc n) ∷ plains height (under rest) = under_then body again in
    let again_cost : WalkCost = record { run = 3 + n * (turn.run + 3) + later.run; susp = n * turn.susp + later.susp; waits = n * turn.waits + later.waits; leave = 3 + n * (turn.leave + 3) + later.leave } in
    let d : WalkCost = record { run = turn.run + again_cost.run; susp = turn.susp + again_cost.susp; waits = turn.waits + again_cost.waits; leave = turn.leave + again_cost.leave } in
    let follows : Follows e out new start 0 d =
    follows_then e out body again start o.job.place 0 0 turn again_cost d f.follows.loop
    (record {
      empty = refl;
      repeats = f.follows.repeats;
      out_is = f.follows.out_is;
      turn = turn;
      loop = f.follows.loop;
      outer = f.follows.outer;
      later = later;
      more = f.follows.more;
      room = f.follows.room;
      covers = record { run = omega arith; susp = omega arith; waits = omega arith; leave = omega arith };
    })
    (record { run = omega arith; susp = omega arith; waits = omega arith; leave = omega arith }) in (
      i.Repeat (pos start),
      f.follows.repeats,
      omega (arith, f.follows.covers, at_least_end e rest f.follows.outer (o.job.place + 1) height f.follows.later f.follows.more),
      omega (arith, f.follows.covers),
      subst (λ (os : List Operand). GoesOn P (count_down os (pos start) (next_own o))) (sym top.1)
          (moved_to e path new out start 0 c d 3 o (Counter (suc n) ∷ top.0) f.words follows
          (ap (λ (ks : List Kind). Counts (suc n) ∷ ks) top.2 ∙ sym u)
          (omega (arith, f.follows.room, ap (λ (ks : List Kind). length ks) u))
          (held_then body again)
          (record { run = omega (arith, f.follows.covers); susp = omega (arith, f.follows.covers); waits = omega (arith, f.follows.covers); leave = omega (arith, f.follows.covers) })),
    )

-- what follows the innermost loop, whose end is out
record Left (e : Where) (to : ℕ) (rest : List Step) (c : WalkCost) : Type 0 where
  turns : ℕ
  new : List Step
  outer : Option ℕ
  height : ℕ
  cost : WalkCost
  follows : Follows e outer new to height cost
  is_under : under rest ≡ Counts (suc turns) ∷ plains height (under new)
  same_held : held new ≡ held rest
  less : Covers c cost.run cost.susp cost.waits cost.leave

leave_loop : (e : Where) (rest : List Step) (out : Option ℕ) (to at k : ℕ) (c : WalkCost) → Follows e out rest at k c → out ≡ Some to → Left e to rest c
leave_loop e [] out to at k c f is = absurd (let no_out : out ≡ None = f.no_loop in cc)
leave_loop e (Segment seg ∷ rest) out to at k c f is =
    let l : Left e to rest f.later = leave_loop e rest out to f.next f.k f.later f.more is in
    record {
      turns = l.turns;
      new = l.new;
      outer = l.outer;
      height = l.height;
      cost = l.cost;
      follows = l.follows;
      is_under = l.is_under;
      same_held = l.same_held;
      less = record { run = omega (arith, l.less, f.covers); susp = omega (arith, l.less, f.covers); waits = omega (arith, l.less, f.covers); leave = omega (arith, l.less, f.covers) };
    }
leave_loop e (Skip past ∷ rest) out to at k c f is =
    let l : Left e to rest f.later = leave_loop e rest out to past k f.later f.more is in
    record {
      turns = l.turns;
      new = l.new;
      outer = l.outer;
      height = l.height;
      cost = l.cost;
      follows = l.follows;
      is_under = l.is_under;
      same_held = l.same_held;
      less = record { run = omega (arith, l.less, f.covers); susp = omega (arith, l.less, f.covers); waits = omega (arith, l.less, f.covers); leave = omega (arith, l.less, f.covers) };
    }
leave_loop e (Again turns start body height ∷ rest) out to at k c f is =
    let e1 : Some (at + 1) ≡ Some to = sym f.out_is ∙ is in
    let e2 : at + 1 ≡ to = cc in
    record {
      turns = turns;
      new = rest;
      outer = f.outer;
      height = height;
      cost = f.later;
      follows = subst (λ (a : ℕ). Follows e f.outer rest a height f.later) e2 f.more;
      is_under = refl;
      same_held = refl;
      less = record { run = omega (arith, f.covers); susp = omega (arith, f.covers); waits = omega (arith, f.covers); leave = omega (arith, f.covers) };
    }
leave_loop e (Leaves m ∷ rest) out to at k c f is = absurd (let no_out : out ≡ None = f.no_loop in cc)

pub at_exit : (e : Where) (s : State) (rest : List Step) (out : Option ℕ) (h : ℕ) (c : WalkCost) (o : Own)
    → Frame e (Segment Exit ∷ rest) out h c o → Moves e s (Segment Exit ∷ rest) c o
at_exit e s rest out h c o f =
    let path : List Step = Segment Exit ∷ rest in
    let w : Walk e out (held rest) (length (under rest)) Exit o.job.place f.follows.next h f.follows.k f.follows.first = f.follows.walk in
    let P : Own → Type 0 = Moved e path c 3 o in
    let ops : kinds o.job.operands ≡ Plain ∷ under rest = f.operands ∙ ap (λ g. plains g (under rest)) w.taken in
    let more : Follows e out rest (o.job.place + 1) 0 f.follows.later =
    subst (λ (a : ℕ). Follows e out rest a 0 f.follows.later) w.next_is (subst (λ (g : ℕ). Follows e out rest f.follows.next g f.follows.later) w.kept f.follows.more) in
    let room : suc (length (under rest)) ≤ e.part.depth = omega (arith, f.room, w.taken, length-plains h (under rest)) in
    let l : Left e w.to rest f.follows.later = leave_loop e rest out w.to (o.job.place + 1) 0 f.follows.later more w.in_loop in (
      i.Exit (pos w.to),
      w.exits,
      omega (arith, f.follows.covers, w.covers, at_least_end e rest out f.follows.next f.follows.k f.follows.later f.follows.more),
      omega (arith, f.follows.covers, w.covers),
      one_goes P (next_own o) (λ x p. cond (is_zero x) (Goes p) (drop_counter p.job.operands (pos w.to) p)) (under rest) ops
          (λ x os is. either P (is_zero x) _ _
          (moved_to e path rest out (o.job.place + 1) 0 c f.follows.later 3 o os f.words more is (omega arith) refl
          (record { run = omega (arith, f.follows.covers, w.covers); susp = omega (arith, f.follows.covers); waits = omega (arith, f.follows.covers); leave = omega (arith, f.follows.covers, w.covers) }))
          (let top : (less : List Operand) × (os ≡ Counter (suc l.turns) ∷ less) × (kinds less ≡ plains l.height (under l.new)) = counted (suc l.turns) os (plains l.height (under l.new)) (is ∙ l.is_under) in
          subst (λ (os' : List Operand). GoesOn P (drop_counter os' (pos w.to) (holding os (next_own o)))) (sym top.1)
          (moved_to e path l.new l.outer w.to l.height c l.cost 3 o top.0 f.words l.follows top.2
          (omega (arith, room, ap (λ (ks : List Kind). length ks) l.is_under)) l.same_held
          (record { run = omega (arith, f.follows.covers, w.covers, l.less); susp = omega (arith, f.follows.covers, l.less); waits = omega (arith, f.follows.covers, l.less); leave = omega (arith, f.follows.covers, w.covers, l.less) })))),
    )
