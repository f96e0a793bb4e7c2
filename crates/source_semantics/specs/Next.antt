-- The next visible action of a process, from its calls in progress.
use Rattle.std.specs.Prelude.{ℕ, zero, suc, List, [], ◌∷◌, ◌++◌, Option, Some, None, ℤ, pos}
use Rattle.syntax_tree.specs.Plain.{Answers, Process, Program}
use Rattle.base.specs.Words.{Answer, word, raised, with_word}
use Rattle.source_semantics.specs.Names.{routine_count}
use Rattle.source_semantics.specs.Store.{Vars, range_of, checked}
use Rattle.source_semantics.specs.Run.{Home, Memory, Action, enters, leaves, raises, ends, Item, do_all, turns_left, receive, store, enter_again, leave_with, give, Call, Run, goes, exits, fails, answers, stops, followed, Calls, Site, value, with_value, store_to, turns, without_turn, run_all}

-- the answer of a function, from its body's run
abbrev pub answer_after : Site → Option Answers → Run → Answer
answer_after c (Some a) (goes m) = with_word (value c m a.value) (λ v. checked (range_of c.program a.kind) v)
answer_after c None (goes m) = word (pos 0)
answer_after c a (fails n m) = raised n
answer_after c a (exits m) = word (pos 0)
answer_after c a (answers v m) = word v
answer_after c a (stops x inside rest m) = word (pos 0)

-- what calls come to where they are nested at most so deep
unfoldable pub calls_to : Program → Process → ℕ → Calls
calls_to g p zero = record { answer = λ f m. word (pos 0); run = λ f m. goes m }
calls_to g p (suc n) = record {
  answer = λ f m. let c : Site = record { program = g; process = p; home = f.home; calls = calls_to g p n } in answer_after c f.routine.answers (run_all c m f.routine.body);
  run = λ f m. run_all (record { program = g; process = p; home = f.home; calls = calls_to g p n }) m f.routine.body;
}

-- where a process's statements stand: calls are nested at most as deep as there are routines, since
-- none reaches itself
abbrev pub site : Program → Process → Home → Site
site g p h = record { program = g; process = p; home = h; calls = calls_to g p (routine_count g) }

-- an entry's answer is evaluated inside the monitor, and given to the caller after it is left
abbrev pub left_with : Site → Memory → ℕ → Option Answers → Run
left_with c m mon None = stops (leaves mon) [] [] m
left_with c m mon (Some a) =
    with_value (with_word (value c m a.value) (λ v. checked (range_of c.program a.kind) v)) m (λ v. stops (leaves mon) [] (give v ∷ []) m)

-- what an item comes to
abbrev pub run_item : Site → Memory → Item → Run
run_item c m (do_all ss) = run_all c m ss
run_item c m (turns_left i v n ss) = turns (λ k. run_all c k ss) i ss n v (without_turn m)
run_item c m (receive t) = goes m
run_item c m (store t v) = store_to c.home m t v
run_item c m (enter_again mon) = stops (enters mon) [] [] m
run_item c m (leave_with a mon) = left_with c m mon a
run_item c m (give v) = answers v m

abbrev mutual
  -- what items come to, in turn
  pub run_items : Site → Memory → List Item → Run
  run_items c m [] = goes m
  run_items c m (i ∷ is) = followed (run_item c m i) (λ k. run_items c k is) (λ k. leave_loop c k is) is

  -- an exit drops what is left of the innermost loop
  pub leave_loop : Site → Memory → List Item → Run
  leave_loop c m [] = exits m
  leave_loop c m (turns_left i v n ss ∷ is) = run_items c (without_turn m) is
  leave_loop c m (_ ∷ is) = leave_loop c m is

-- the action, the calls in progress after it, and the variables of the process and of the monitor
-- that it is inside
pub record Next : Type 0 where
  pub action : Action
  pub calls : List Call
  pub process : Vars
  pub monitor : Vars

-- a value that was waited for is stored next
abbrev pub given_item : Option ℤ → List Item → List Item
given_item (Some v) (receive t ∷ is) = store t v ∷ is
given_item _ is = is

abbrev pub given : Option ℤ → List Call → List Call
given v [] = []
given v (call ∷ outer) = record { home = call.home; own = call.own; rest = given_item v call.rest } ∷ outer

-- what a call's run comes to among its callers: where it is over, they go on
abbrev pub among : Home → List Call → (Option ℤ → Memory → Next) → Run → Next
among h outer on (goes m) = on None m
among h outer on (exits m) = on None m
among h outer on (answers v m) = on (Some v) m
among h outer on (fails n m) = record { action = raises n; calls = []; process = m.process; monitor = m.monitor }
among h outer on (stops a inside rest m) =
    record { action = a; calls = inside ++ record { home = h; own = m.own; rest = rest } ∷ outer; process = m.process; monitor = m.monitor }

-- the next action from calls in progress, of which the innermost is given a value or none
abbrev pub next_from : Program → Process → List Call → Option ℤ → Vars → Vars → Next
next_from g p [] v process monitor = record { action = ends; calls = []; process = process; monitor = monitor }
next_from g p (call ∷ outer) v process monitor =
    among call.home outer (λ w m. next_from g p outer w m.process m.monitor)
    (run_items (site g p call.home) (record { own = call.own; process = process; monitor = monitor }) (given_item v call.rest))
