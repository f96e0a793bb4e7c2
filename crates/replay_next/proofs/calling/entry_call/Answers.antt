use Rattle.std.specs.Prelude.{ℕ, List, [], ◌∷◌, ◌++◌, Option, map}
use Rattle.std.proofs.Common.{◌≡◌, ◌∙◌, ap}
use Rattle.syntax_tree.specs.Placed.{placed_stmts, plain_stmts}
use Rattle.syntax_tree.specs.Plain.{Answers, Stmts}
use Rattle.source_semantics.specs.Run as run
use Rattle.source_semantics.specs.Store.{Vars}
use Rattle.replay_state.specs.View.{answers_of, home_of, item_of, vars_of}
use Rattle.replay_state.specs.declared.call.Item.{Item}
use Rattle.replay_state.specs.declared.call.Item.TheVariants as item_is
use Rattle.replay_calls.specs.Lookups.{found_of}
use Rattle.std.specs.Prelude.{option_map}
use Rattle.replay_next.proofs.NextTurning.{call_as}
use Rattle.replay_next.proofs.calling.entry_call.Goals as goal

-- the call of an entry, with its parts as the code has them
entry_made : (f : run.Found) (mon : ℕ) (own : Vars) (h : run.Home) (b : Stmts) (o : Option Answers) → h ≡ f.home → b ≡ f.routine.body → o ≡ f.routine.answers
    → call_as h own (run.do_all b ∷ run.leave_with o mon ∷ []) ≡ run.entry_call f mon own
entry_made f mon own h b o home body answers =
    ap (λ (k : run.Home). call_as k own (run.do_all b ∷ run.leave_with o mon ∷ [])) home
    ∙ (ap (λ (k : Stmts). call_as f.home own (run.do_all k ∷ run.leave_with o mon ∷ [])) body
    ∙ ap (λ (k : Option Answers). call_as f.home own (run.do_all f.routine.body ∷ run.leave_with k mon ∷ [])) answers)

pub returns : goal.returns
returns c =
    let own = vars_of c.args.own.items in
    let h = home_of c.home_in.result in
    let first = item_is.DoAll c.statements.result in
    let second = item_is.LeaveWith c.answering.result c.args.mon in
    let items = c.in_ok-push-2.ensures.items ∙ ap (λ (l : List Item). l ++ second ∷ []) (c.in_ok-push.ensures.items ∙ ap (λ (l : List Item). l ++ first ∷ []) c.new-rest.ensures.items) in
    ap (λ (l : List Item). call_as h own (map item_of l)) items
    ∙ entry_made (found_of c.args.found.now) c.args.mon own h (plain_stmts (placed_stmts c.statements.result.now)) (option_map answers_of c.answering.result)
    c.home_in.ensures (ap (λ l. plain_stmts (placed_stmts l)) c.statements.ensures) c.answering.ensures
