use Rattle.std.proofs.Common.{◌≡◌, ◌+◌, true, Some, None, ap, sym, ◌∙◌, map}
use Rattle.std.specs.Prelude.{slice_get}
use Rattle.image.specs.Raw.{routine_of}
use Rattle.machine_semantics.specs.Trees.{size}
use Rattle.image_format.specs.Stands.{tree_in}
use Rattle.loader_code.specs.Whole.{stay_in}
use Rattle.base.specs.Capped.{cap}
use Rattle.loader_code.specs.TreesTold.{known_of, told_part, found_of}
use Rattle.valid_image.specs.Found.{is_return, tree_found}
use Rattle.valid_image.specs.Tables.{count, monitor_of}
use Rattle.valid_image_law.specs.Held.{hold}
use Rattle.loader_code.proofs.Endings.{ends_nothing, ends_same, ends_well}
use Rattle.loader_code.proofs.Short.{long_routine}
use Rattle.loader_code.proofs.parts.routine_found.Goals as goal

pub returns-in_err-part-clause-value : goal.returns-in_err-part-clause-value
returns-in_err-part-clause-value c =
    let r = c.args.routine.now in
    let known = map known_of c.args.known.now in
    let none : None ≡ hold (tree_found c.args.code.now known (monitor_of (routine_of r)) r.tree r.start) =
    c.in_err-part.ensures.value ∙ ap (λ s. hold (tree_found c.args.code.now known c.monitor_of.result s r.start)) c.view.ensures ∙ ap (λ m. hold (tree_found c.args.code.now known m r.tree r.start)) c.monitor_of.ensures in
    ap told_part c.from_residual.ensures ∙ ends_nothing (is_return r.result (slice_get c.args.code.now (r.start + size r.tree))) (count r.result) (tree_found c.args.code.now known (monitor_of (routine_of r)) r.tree r.start) none

pub returns-clause-value : goal.returns-clause-value
returns-clause-value c =
    let r = c.args.routine.now in
    let found = c.in_ok-part.part.found in
    let known = map known_of c.args.known.now in
    let some : Some (found_of found) ≡ hold (tree_found c.args.code.now known (monitor_of (routine_of r)) r.tree r.start) =
    c.in_ok-part.ensures.value ∙ ap (λ s. hold (tree_found c.args.code.now known c.monitor_of.result s r.start)) c.view.ensures ∙ ap (λ m. hold (tree_found c.args.code.now known m r.tree r.start)) c.monitor_of.ensures in
    let at : found.next ≡ r.start + size r.tree = c.in_ok-part.ensures.ends.next ∙ ap (λ s. r.start + size s) c.view.ensures in
    let last : Some c.in_ok-last.last ≡ slice_get c.args.code.now (r.start + size r.tree) = c.in_ok-last.ensures.value ∙ ap (λ k. slice_get c.args.code.now k) at in
    let passes : is_return r.result (slice_get c.args.code.now (r.start + size r.tree)) ≡ true = ap (λ o. is_return r.result o) (sym last) ∙ sym c.is_return.ensures ∙ c.if-not-is_return.false in
    ends_well (is_return r.result (slice_get c.args.code.now (r.start + size r.tree))) (count r.result) (found_of found) (tree_found c.args.code.now known (monitor_of (routine_of r)) r.tree r.start)
    passes (c.if-part-results.false ∙ c.results.ensures) some

pub returns-clause-stay : goal.returns-clause-stay
returns-clause-stay c =
    let r = c.args.routine.now in
    let found = c.in_ok-part.part.found in
    let known = map known_of c.args.known.now in
    let some : Some (found_of found) ≡ hold (tree_found c.args.code.now known (monitor_of (routine_of r)) r.tree r.start) =
    c.in_ok-part.ensures.value ∙ ap (λ s. hold (tree_found c.args.code.now known c.monitor_of.result s r.start)) c.view.ensures ∙ ap (λ m. hold (tree_found c.args.code.now known m r.tree r.start)) c.monitor_of.ensures in
    let at : found.next ≡ r.start + size r.tree = c.in_ok-part.ensures.ends.next ∙ ap (λ s. r.start + size s) c.view.ensures in
    let last : Some c.in_ok-last.last ≡ slice_get c.args.code.now (r.start + size r.tree) = c.in_ok-last.ensures.value ∙ ap (λ k. slice_get c.args.code.now k) at in
    let passes : is_return r.result (slice_get c.args.code.now (r.start + size r.tree)) ≡ true = ap (λ o. is_return r.result o) (sym last) ∙ sym c.is_return.ensures ∙ c.if-not-is_return.false in
    let same = ends_same (is_return r.result (slice_get c.args.code.now (r.start + size r.tree))) (count r.result) (found_of found) (tree_found c.args.code.now known (monitor_of (routine_of r)) r.tree r.start)
    passes (c.if-part-results.false ∙ c.results.ensures) some in
    let there : stay_in c.monitor_of.result (tree_found c.args.code.now known c.monitor_of.result (tree_in c.view.result) r.start) ≡ stay_in (monitor_of (routine_of r)) (tree_found c.args.code.now known (monitor_of (routine_of r)) r.tree r.start) =
    ap (λ s. stay_in c.monitor_of.result (tree_found c.args.code.now known c.monitor_of.result s r.start)) c.view.ensures ∙ ap (λ m. stay_in m (tree_found c.args.code.now known m r.tree r.start)) c.monitor_of.ensures in
    c.in_ok-part.ensures.stay ∙ ap cap there ∙ ap (λ x. cap (stay_in (monitor_of (routine_of r)) x)) (sym same)

pub returns-then-is_too_long-clause-value : goal.returns-then-is_too_long-clause-value
returns-then-is_too_long-clause-value c = long_routine c.args.code.now (map known_of c.args.known.now) (routine_of c.args.routine.now) (c.is_too_long.ensures c.if-is_too_long.true)
