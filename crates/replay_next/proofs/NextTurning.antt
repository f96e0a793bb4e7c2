-- One call of those in progress, and the others after it.
use Rattle.std.specs.Prelude.{◌≡◌, ◌+◌, ◌<◌, ℕ, ℤ, List, ◌∷◌, map, length, Option}
use Rattle.std.proofs.Common.{◌∙◌, ap, drop, get_or, sym}
use Rattle.std.proofs.lemmas.List.{at_drop_more}
use Rattle.syntax_tree.specs.Plain.{Process, Program}
use Rattle.source_semantics.specs.Names.{routine_count}
use Rattle.source_semantics.specs.Store.{Vars}
use Rattle.source_semantics.specs.Run as run
use Rattle.source_semantics.specs.Next.{Next, among, given_item, next_from, run_items}
use Rattle.replay_state.specs.View.{call_of, calls_of, home_of, item_of, vars_of}
use Rattle.replay_state.specs.declared.call.Call.{Call}
use Rattle.replay_next.proofs.Deeper.{site_in}

-- a next action, with its parts as the code has them
abbrev pub next_as : run.Action → List run.Call → Vars → Vars → Next
next_as a calls process monitor = record { action = a; calls = calls; process = process; monitor = monitor }

abbrev pub call_as : run.Home → Vars → List run.Item → run.Call
call_as h own rest = record { home = h; own = own; rest = rest }

-- the memory of a call beside the areas of its process and of its monitor
abbrev area : Vars → Vars → Vars → run.Memory
area own process monitor = record { own = own; process = process; monitor = monitor }

-- the next call's items came to this, and the calls after it follow
pub call_turned : (g : Program) (p : Process) (d : ℕ) (xs : List Call) (i : ℕ) (x : Call) (v : Option ℤ) (own process monitor : Vars) (is : List run.Item) (r : run.Run) (whole : Next)
    → d ≡ routine_count g → i < length xs → x ≡ get_or xs i x → own ≡ vars_of x.own.items → is ≡ given_item v (map item_of x.rest.items)
    → r ≡ run_items (site_in g p (home_of x.home) d) (area own process monitor) is
    → next_from g p (calls_of (drop i xs)) v process monitor ≡ whole
    → among (home_of x.home) (calls_of (drop (i + 1) xs)) (λ w m. next_from g p (calls_of (drop (i + 1) xs)) w m.process m.monitor) r ≡ whole
call_turned g p d xs i x v own process monitor is r whole deep below at copied given ran before =
    let h = home_of x.home in
    let rest = calls_of (drop (i + 1) xs) in
    ap (among h rest (λ w m. next_from g p rest w m.process m.monitor))
    (ran
    ∙ (ap (λ (n : ℕ). run_items (site_in g p h n) (area own process monitor) is) deep
    ∙ (ap (λ (o : Vars). run_items (site_in g p h (routine_count g)) (area o process monitor) is) copied
    ∙ ap (λ (l : List run.Item). run_items (site_in g p h (routine_count g)) (area (vars_of x.own.items) process monitor) l) given)))
    ∙ (ap (λ (y : Call). next_from g p (call_of y ∷ rest) v process monitor) at
    ∙ (sym (at_drop_more (λ (l : List Call). next_from g p (calls_of l) v process monitor) xs i x below)
    ∙ before))
