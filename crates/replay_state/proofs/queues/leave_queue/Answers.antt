use Rattle.std.proofs.Common.{◌≡◌, ◌∙◌, ap, sym, nat_eq, Some, None, ℕ, ◌<◌, arith, length}
use Rattle.std.specs.Prelude.{position}
use Rattle.std.specs.List.{position_from}
use Rattle.std.proofs.lemmas.Iterator.Adapters.{position_from-zero}
use Rattle.replay_state.proofs.Positions.{position_within}
use Rattle.replay_state.proofs.Queueing.{not_there, taken_out}
use Rattle.replay_state.proofs.queues.leave_queue.Goals as goal

pub remove-requires : goal.remove-requires
remove-requires c =
    let q = c.args.queue.now.items in
    let k = c.args.process in
    let here : position (λ (x : ℕ). nat_eq x k) q ≡ Some c.in-Some.at =
    position_from-zero (λ (x : ℕ). nat_eq x k) q ∙ sym (c.in-Some.ensures ∙ ap (position_from (λ (x : ℕ). nat_eq x k) 0) c.as_slice.ensures.value) in
    let below : c.in-Some.at < length q = position_within (λ (x : ℕ). nat_eq x k) q c.in-Some.at here in
    omega (arith, below)

pub returns-in-Some : goal.returns-in-Some
returns-in-Some c =
    let q = c.args.queue.now.items in
    let k = c.args.process in
    let here : position (λ (x : ℕ). nat_eq x k) q ≡ Some c.in-Some.at =
    position_from-zero (λ (x : ℕ). nat_eq x k) q ∙ sym (c.in-Some.ensures ∙ ap (position_from (λ (x : ℕ). nat_eq x k) 0) c.as_slice.ensures.value) in
    c.remove.ensures.items ∙ taken_out k c.in-Some.at q here

pub returns-in-None : goal.returns-in-None
returns-in-None c =
    let q = c.args.queue.now.items in
    let k = c.args.process in
    let none : position (λ (x : ℕ). nat_eq x k) q ≡ None =
    position_from-zero (λ (x : ℕ). nat_eq x k) q ∙ sym (c.in-None.ensures ∙ ap (position_from (λ (x : ℕ). nat_eq x k) 0) c.as_slice.ensures.value) in
    not_there k q none
