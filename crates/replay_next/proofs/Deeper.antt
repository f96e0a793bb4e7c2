-- What calls come to one call deeper.
use Rattle.std.specs.Prelude.{◌≡◌, ℕ, zero, suc, ◌-◌, ◌≢◌, pos, List, Option, Some, None}
use Rattle.std.proofs.Common.{refl, ◌∙◌, ap, ap₂, arith}
use Rattle.syntax_tree.specs.Plain.{Answers, Process, Program, Stmts}
use Rattle.base.specs.Words.{word, raised}
use Rattle.source_semantics.specs.Run.{Action, Call, Found, Home, Item, Memory, Run, goes, exits, fails, stops, Site, run_all, with_own, within_caller}
use Rattle.source_semantics.specs.Store.{Vars}
use Rattle.source_semantics.specs.Next.{answer_after, calls_to}

abbrev pub site_in : Program → Process → Home → ℕ → Site
site_in g p h n = record { program = g; process = p; home = h; calls = calls_to g p n }

pub answer_none : (g : Program) (p : Process) (d : ℕ) (f : Found) (m : Memory) → d ≡ 0 → word (pos 0) ≡ (calls_to g p d).answer f m
unfolding calls_to
answer_none g p zero f m is = refl
answer_none g p (suc d) f m is = absurd (omega (arith, is))

pub answer_deeper : (g : Program) (p : Process) (d : ℕ) (f : Found) (m : Memory) → d ≢ 0
    → answer_after (site_in g p f.home (d - 1)) f.routine.answers (run_all (site_in g p f.home (d - 1)) m f.routine.body) ≡ (calls_to g p d).answer f m
unfolding calls_to
answer_deeper g p zero f m ne = absurd (ne refl)
answer_deeper g p (suc d) f m ne =
    let less : suc d - 1 ≡ d = omega arith in
    ap (λ n. answer_after (site_in g p f.home n) f.routine.answers (run_all (site_in g p f.home n) m f.routine.body)) less

pub run_none : (g : Program) (p : Process) (d : ℕ) (f : Found) (m : Memory) → d ≡ 0 → goes m ≡ (calls_to g p d).run f m
unfolding calls_to
run_none g p zero f m is = refl
run_none g p (suc d) f m is = absurd (omega (arith, is))

pub run_deeper : (g : Program) (p : Process) (d : ℕ) (f : Found) (m : Memory) → d ≢ 0 → run_all (site_in g p f.home (d - 1)) m f.routine.body ≡ (calls_to g p d).run f m
unfolding calls_to
run_deeper g p zero f m ne = absurd (ne refl)
run_deeper g p (suc d) f m ne =
    let less : suc d - 1 ≡ d = omega arith in
    ap (λ n. run_all (site_in g p f.home n) m f.routine.body) less

-- the memory of a call, its areas lent by the caller's
abbrev pub inside : Vars → Vars → Vars → Memory
inside own process monitor = record { own = own; process = process; monitor = monitor }

pub inside_same : (m : Memory) (own process monitor : Vars) → process ≡ m.process → monitor ≡ m.monitor → inside own process monitor ≡ with_own m own
inside_same m own process monitor first second = ap₂ (inside own) first second

-- ---- what a routine's body came to, with its home, its answer and its statements as code has them

pub call_ran : (g : Program) (p : Process) (d : ℕ) (f : Found) (h : Home) (m m1 : Memory) (o : Option Answers) (b : Stmts) (r : Run)
    → d ≢ 0 → h ≡ f.home → o ≡ f.routine.answers → b ≡ f.routine.body → m1 ≡ m → r ≡ run_all (site_in g p h (d - 1)) m1 b
    → answer_after (site_in g p h (d - 1)) o r ≡ (calls_to g p d).answer f m
call_ran g p d f h m m1 o b r ne home answers body same ran =
    ap (answer_after (site_in g p h (d - 1)) o) ran
    ∙ (ap (λ k. answer_after (site_in g p k (d - 1)) o (run_all (site_in g p k (d - 1)) m1 b)) home
    ∙ (ap (λ k. answer_after (site_in g p f.home (d - 1)) k (run_all (site_in g p f.home (d - 1)) m1 b)) answers
    ∙ (ap (λ k. answer_after (site_in g p f.home (d - 1)) f.routine.answers (run_all (site_in g p f.home (d - 1)) m1 k)) body
    ∙ (ap (λ k. answer_after (site_in g p f.home (d - 1)) f.routine.answers (run_all (site_in g p f.home (d - 1)) k f.routine.body)) same
    ∙ answer_deeper g p d f m ne))))

pub after_fails : (c : Site) (o : Option Answers) (n : ℕ) (m : Memory) → raised n ≡ answer_after c o (fails n m)
after_fails c None n m = refl
after_fails c (Some a) n m = refl

pub after_exits : (c : Site) (o : Option Answers) (m : Memory) → word (pos 0) ≡ answer_after c o (exits m)
after_exits c None m = refl
after_exits c (Some a) m = refl

pub after_stops : (c : Site) (o : Option Answers) (x : Action) (i : List Call) (rest : List Item) (m : Memory) → word (pos 0) ≡ answer_after c o (stops x i rest m)
after_stops c None x i rest m = refl
after_stops c (Some a) x i rest m = refl

pub run_ran : (g : Program) (p : Process) (d : ℕ) (f : Found) (h : Home) (m m1 : Memory) (b : Stmts) (r : Run)
    → d ≢ 0 → h ≡ f.home → b ≡ f.routine.body → m1 ≡ m → r ≡ run_all (site_in g p h (d - 1)) m1 b → r ≡ (calls_to g p d).run f m
run_ran g p d f h m m1 b r ne home body same ran =
    ran
    ∙ (ap (λ k. run_all (site_in g p k (d - 1)) m1 b) home
    ∙ (ap (λ k. run_all (site_in g p f.home (d - 1)) m1 k) body
    ∙ (ap (λ k. run_all (site_in g p f.home (d - 1)) k f.routine.body) same ∙ run_deeper g p d f m ne)))

-- a procedure as a part of its caller
pub part_none : (g : Program) (p : Process) (d : ℕ) (f : Found) (m : Memory) (vs : Vars) → d ≡ 0 → goes m ≡ within_caller f.home m.own ((calls_to g p d).run f (with_own m vs))
part_none g p d f m vs is = ap (within_caller f.home m.own) (run_none g p d f (with_own m vs) is)

pub part_ran : (g : Program) (p : Process) (d : ℕ) (f : Found) (h : Home) (m m1 : Memory) (own vs : Vars) (b : Stmts) (r : Run)
    → d ≢ 0 → h ≡ f.home → b ≡ f.routine.body → m1 ≡ with_own m vs → own ≡ m.own → r ≡ run_all (site_in g p h (d - 1)) m1 b
    → within_caller h own r ≡ within_caller f.home m.own ((calls_to g p d).run f (with_own m vs))
part_ran g p d f h m m1 own vs b r ne home body same back ran =
    ap (λ k. within_caller k own r) home
    ∙ (ap (λ k. within_caller f.home k r) back ∙ ap (within_caller f.home m.own) (run_ran g p d f h (with_own m vs) m1 b r ne home body same ran))
