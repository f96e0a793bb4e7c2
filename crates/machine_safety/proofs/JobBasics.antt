-- An instruction within the innermost frame of a process, and what its callers tell.
use Rattle.std.proofs.Common.{◌≡◌, ◌≤◌, ◌+◌, ◌-◌, inl, inr, ℕ, List, [], ◌∷◌, Option, Some, None, arith, ap, sym, subst, ◌∙◌}
use Rattle.machine_isa.specs.declared.instr.Instr.{Instr}
use Rattle.machine_semantics.specs.State.{Caller, State}
use Rattle.machine_semantics.specs.Effect.{Own, Outcome, Goes, Does, Signals, Broadcasts, Waits, Raises, Ends, Stuck, effect, waits}
use Rattle.machine_isa.specs.Ticks.{ticks}
use Rattle.machine_semantics.specs.Part.{Part}
use Rattle.machine_semantics.specs.SafeTerms.{GoesOn}
use Rattle.machine_semantics.specs.Walk.{Where, WalkCost, At, within}
use Rattle.machine_semantics.specs.Path.{Step, held, Moved, next_own}
use Rattle.machine_semantics.specs.Job.{joined, Inside, Chain, Stands, Less, Keeps}
use Rattle.machine_safety.proofs.Frames.{IsInside, Moves}

-- the innermost part is inside the monitor that its steps tell, if it is an entry
pub is_inside_part : (e : Where) (part : Part) (path : List Step) (o : Own) (below : Option ℕ) → Inside part path o.job.inside below → IsInside (within e part) path o
is_inside_part e part path o below in_it = elim in_it.told [ inl outside ↦ inl outside.0 | inr told ↦ inr told.0 ]

-- the other steps of the frame tell of the same monitor
pub same_inside : (part : Part) (path new : List Step) (inside inside' below : Option ℕ) → Inside part path inside below → held new ≡ held path → inside' ≡ inside → Inside part new inside' below
same_inside part path new inside inside' below in_it same is = record {
  told = elim in_it.told [ inl outside ↦ inl (outside.0, is ∙ outside.1) | inr told ↦ inr (is ∙ (told.0 ∙ sym same), told.1) ];
  outer = λ two. is ∙ in_it.outer two;
}

pub joined_here : (mon : Option ℕ) (here later : ℕ) → here ≤ joined mon here later
joined_here None here later = omega arith
joined_here (Some m) here later = omega arith

pub joined_less : (mon : Option ℕ) (new old later n : ℕ) → new + n ≤ old → joined mon new later + n ≤ joined mon old later
joined_less None new old later n h = omega arith
joined_less (Some m) new old later n h = omega arith

-- raises only where the cost has room for an END
pub keeps_moves : (e : Where) (own : Part) (c : WalkCost) (n : ℕ) (o : Own) (st : Stands e own o c) (out : Outcome) → 4 + n ≤ c.run
    → GoesOn (Moved (within e st.part) st.path st.here n o) out → Keeps e own c n o out
keeps_moves e own c n o st out room g = by_case out g where
  less : (p : Own) → Moved (within e st.part) st.path st.here n o p → Less e own c n o p
  less p m = record {
    cost = record { run = m.cost.run + st.later.run; susp = m.cost.susp + st.later.susp; waits = m.cost.waits + st.later.waits; leave = joined st.part.monitor m.cost.leave st.later.leave };
    stands = record {
      part = st.part;
      path = m.new_path;
      out = m.out;
      height = m.height;
      here = m.cost;
      later = st.later;
      below = st.below;
      frame = m.frame;
      inside_is = same_inside st.part st.path m.new_path o.job.inside p.job.inside st.below st.inside_is m.same_held m.inside;
      short = λ k is held_is. omega (arith, m.less, st.short k is (sym m.same_held ∙ held_is));
      chain = subst (λ (ks : List Caller). Chain e own st.part ks st.below st.later) (sym m.callers) st.chain;
      enough = omega (arith, st.enough, m.owned);
      covers = record { run = omega arith; susp = omega arith; waits = omega arith; leave = omega arith };
    };
    less = record { run = omega (arith, m.less, st.covers); susp = omega (arith, m.less, st.covers); waits = omega (arith, m.less, st.covers); leave = omega (arith, m.less, st.covers) };
    stays = λ k was now. omega (arith, joined_less st.part.monitor m.cost.leave st.here.leave st.later.leave n (let l : m.cost.leave + n ≤ st.here.leave = omega (arith, m.less) in l), st.covers);
    begins = λ k was now. absurd (let same : p.job.inside ≡ o.job.inside = m.inside in cc);
    reaches = λ k was now. absurd (let same : p.job.inside ≡ o.job.inside = m.inside in cc);
    inside = inl m.inside;
    done = m.done;
    dispatch_ticks = m.dispatch_ticks;
    handling = m.handling;
    owned = m.owned;
    shared = m.shared;
  }

  by_case : (out : Outcome) → GoesOn (Moved (within e st.part) st.path st.here n o) out → Keeps e own c n o out
  by_case (Goes p) g = less p g
  by_case (Does a p) g = less p g
  by_case (Signals k p) g = less p g
  by_case (Broadcasts k p) g = less p g
  by_case (Raises number) g = room
  by_case (Waits k limit number p) g = absurd g
  by_case Ends g = absurd g
  by_case Stuck g = absurd g

-- what an instruction of the process comes to
abbrev pub Instruction : Where → State → Part → Own → WalkCost → Type 0
Instruction e s own o c = (instr : Instr) × At e o.job.place instr × Keeps e own c (ticks instr) o (effect e.image s instr (next_own o)) × ((m : ℕ) → o.job.inside ≡ Some m → ticks instr ≤ c.leave)

pub within_frame : (e : Where) (s : State) (own : Part) (o : Own) (c : WalkCost) (st : Stands e own o c) → Moves (within e st.part) s st.path st.here o → Instruction e s own o c
within_frame e s own o c st m = (m.0, m.1, keeps_moves e own c (ticks m.0) o st (effect e.image s m.0 (next_own o)) (omega (arith, m.2, st.covers)) m.4, λ k was. omega (arith, m.3, joined_here st.part.monitor st.here.leave st.later.leave, st.covers))

-- a part has no more words of its own than the process
pub chain_owned : (e : Where) (own part : Part) (ks : List Caller) (inside : Option ℕ) (c : WalkCost) → Chain e own part ks inside c → part.owned ≤ own.owned
chain_owned e own part [] inside c chain = omega (arith, ap (λ (p : Part). p.owned) chain.0)
chain_owned e own part (k ∷ ks) inside c chain = omega (arith, chain.owned, chain_owned e own chain.caller ks chain.below chain.later chain.more)

-- nor a greater limit
pub chain_limit : (e : Where) (own part : Part) (ks : List Caller) (inside : Option ℕ) (c : WalkCost) → Chain e own part ks inside c → part.limit ≤ own.limit
chain_limit e own part [] inside c chain = omega (arith, ap (λ (p : Part). p.limit) chain.0)
chain_limit e own part (k ∷ ks) inside c chain = omega (arith, chain.limit, chain_limit e own chain.caller ks chain.below chain.later chain.more)

-- nor longer stays
pub chain_stays : (e : Where) (own part : Part) (ks : List Caller) (inside : Option ℕ) (c : WalkCost) (m : ℕ) → Chain e own part ks inside c → part.stays m ≤ own.stays m
chain_stays e own part [] inside c m chain = omega (arith, ap (λ (p : Part). p.stays m) chain.0)
chain_stays e own part (k ∷ ks) inside c m chain = omega (arith, chain.stays m, chain_stays e own chain.caller ks chain.below chain.later m chain.more)

-- ---- monitors

-- an entry's process is inside what its steps tell, and its callers tell of no monitor
pub entry_inside : (part : Part) (path : List Step) (inside below : Option ℕ) (m : ℕ) → Inside part path inside below → part.monitor ≡ Some m → (inside ≡ held path) × (below ≡ None)
entry_inside part path inside below m in_it is = elim in_it.told [ inl none ↦ absurd (let no_monitor : part.monitor ≡ None = none.0 in cc) | inr told ↦ told ]
