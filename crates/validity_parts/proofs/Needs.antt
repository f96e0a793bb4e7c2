-- What routines and processes declare, against what was kept of their code.
use Rattle.std.proofs.Common.{◌≡◌, ◌+◌, ℕ, Option, Some, None, arith, refl, ap, sym, ◌∙◌}
use Rattle.std.specs.Prelude.{IfSome, take, slice_get}
use Rattle.base.proofs.Lists.{map_get}
use Rattle.base.specs.Capped.{cap}
use Rattle.image.specs.declared.raw.RawImage.{RawImage}
use Rattle.image.specs.declared.raw.RawProcess.{RawProcess}
use Rattle.image.specs.declared.raw.RawRoutine.{RawRoutine}
use Rattle.image.specs.Raw.{image_of, process_of, routine_of}
use Rattle.machine_semantics.specs.Image.{Image, Process, Routine}
use Rattle.valid_image.specs.Fault.{Fault, or_else, first_in}
use Rattle.valid_image.specs.Found.{Found, longer, plus}
use Rattle.valid_image.specs.Sizes.{below, other, due_base, with_dispatch, needed_stay, needed_stack, params_fault, stack_fault, base_fault, words_fault, size_fault}
use Rattle.valid_image.specs.Tables.{known, routine_found, body_found, handler_found, found_or_nothing}
use Rattle.valid_image.specs.Times.{rank_fault}
use Rattle.valid_image.specs.Valid.{Part, Ranks, Sizes}
use Rattle.valid_image_law.specs.Held.{held, hold}
use Rattle.loader_code.proofs.Searching.{of_element}
use Rattle.loader_code.specs.declared.known.PartCost.{PartCost}
use Rattle.loader_code.specs.TreesTold.{found_of, told_part}
use Rattle.loader.specs.Costs.{stack_needs}
use Rattle.loader.specs.declared.parts.CodeCosts.{CodeCosts}
use Rattle.loader.specs.declared.parts.ProcessCost.{ProcessCost}
use Rattle.loader.specs.Found.{Two, two, told_process}
use Rattle.loader.specs.Parts.{AreParts}
use Rattle.loader.proofs.Needs.{process_stacks, run_same}
use Rattle.faulty_part.specs.declared.part.FaultyPart.TheVariants as part
use Rattle.faulty_part.specs.declared.part.Subject.TheVariants as subject
use Rattle.faulty_part.specs.declared.part.PartFault.{PartFault}
use Rattle.faulty_part.specs.Parts.{of, base_of_monitor, code_part, cost_of_routine, cost_of_process, cost_part, handler_part, locals_of_routine, operand_part, part_fault, rank_part, size_part, stack_of_process}
use Rattle.faulty_part.proofs.Told.{IsTold, told_of, told_in}
use Rattle.faulty_part.proofs.Whole.{ranks_told}
use Rattle.validity_parts.specs.Found.{after_operands, routine_cost_by, process_cost_by, sized_part, times_part}

-- ---- routines

abbrev routine_by : ℕ → Routine → (run susp waits stay : ℕ) → Option PartFault
routine_by r x run susp waits stay =
    or_else (of (part.Routine r) subject.Run (below x.run run))
    (or_else (of (part.Routine r) subject.Suspension (below x.susp susp)) (or_else (of (part.Routine r) subject.Waits (below x.waits waits)) (of (part.Routine r) subject.Stay (below x.stay stay))))

needs_same : (y : Option Found) (f : Found) (r : ℕ) (x : Routine) (stay n : ℕ) → Some f ≡ hold y → stay ≡ n
    → routine_cost_by r x f stay ≡ routine_by r x (cap (4 + (found_or_nothing y).cost.run)) (cap (found_or_nothing y).cost.susp) (cap (found_or_nothing y).cost.waits) n
needs_same None f r x stay n some is = absurd cc
needs_same (Some g) f r x stay n some is =
    let same : f ≡ held g = cc in
    let run : cap (4 + cap g.cost.run) ≡ cap (4 + g.cost.run) = omega arith in
    let susp : cap (cap g.cost.susp) ≡ cap g.cost.susp = omega arith in
    let waits : cap (cap g.cost.waits) ≡ cap g.cost.waits = omega arith in
    ap (λ h. routine_cost_by r x h stay) same
    ∙ ap (λ n. routine_by r x n (cap (cap g.cost.susp)) (cap (cap g.cost.waits)) stay) run
    ∙ ap (λ n. routine_by r x (cap (4 + g.cost.run)) n (cap (cap g.cost.waits)) stay) susp
    ∙ ap (λ n. routine_by r x (cap (4 + g.cost.run)) (cap g.cost.susp) n stay) waits
    ∙ ap (λ n. routine_by r x (cap (4 + g.cost.run)) (cap g.cost.susp) (cap g.cost.waits) n) is

stay_at : (o : Option PartCost) (code : PartCost) (n : ℕ) → o ≡ Some code → IfSome o (λ f. f.stay ≡ n) → code.stay ≡ n
stay_at None code n is stays = absurd cc
stay_at (Some f) code n is stays = let same : f ≡ code = cc in ap (λ (g : PartCost). g.stay) (sym same) ∙ stays

pub routine_named : (raw : RawImage) (parts : CodeCosts) (r : ℕ) (x : RawRoutine) (code : PartCost) → AreParts raw parts → slice_get raw.routines r ≡ Some x → slice_get parts.routines r ≡ Some code
    → routine_cost_by r (routine_of x) (found_of code.found) code.stay ≡ cost_of_routine (image_of raw) r (routine_of x)
routine_named raw parts r x code are at kept =
    let k = are.routines.kept r x at in
    let found : Some (found_of code.found) ≡ hold (routine_found raw.code (take r (known (image_of raw))) (routine_of x)) = ap told_part (sym kept) ∙ k.found in
    let stays = stay_at (slice_get parts.routines r) code (cap (needed_stay (image_of raw) r (routine_of x))) kept k.stay in
    needs_same (routine_found raw.code (take r (known (image_of raw))) (routine_of x)) (found_of code.found) r (routine_of x) code.stay _ found stays

-- ---- processes

abbrev process_by : ℕ → Process → (run susp waits : ℕ) → Option PartFault
process_by k p run susp waits =
    or_else (of (part.Process k) subject.Run (below p.run run)) (or_else (of (part.Process k) subject.Suspension (below p.susp susp)) (of (part.Process k) subject.Waits (below p.waits waits)))

both_found : (x y : Option Found) (t : Two) → Some t ≡ two (hold x) (hold y) → (t.body ≡ held (found_or_nothing x)) × (t.handler ≡ held (found_or_nothing y))
both_found None y t is = absurd cc
both_found (Some f) None t is = absurd cc
both_found (Some f) (Some g) t is = let same : t ≡ record { body = held f; handler = held g } = cc in (ap (λ (u : Two). u.body) same, ap (λ (u : Two). u.handler) same)

process_same : (over k : ℕ) (p : Process) (a b f g : Found) → f ≡ held a → g ≡ held b
    → process_cost_by over k p f g ≡ process_by k p (cap (with_dispatch over (longer 4 (plus a.cost b.cost)))) (cap (longer 4 (plus a.cost b.cost)).susp) (cap (longer 4 (plus a.cost b.cost)).waits)
process_same over k p a b f g first second =
    let run = run_same over (held a).cost (held b).cost a.cost b.cost (omega arith) (omega arith) in
    let susp : cap (cap a.cost.susp + cap b.cost.susp) ≡ cap (a.cost.susp + b.cost.susp) = omega arith in
    let waits : cap (cap a.cost.waits + cap b.cost.waits) ≡ cap (a.cost.waits + b.cost.waits) = omega arith in
    ap (λ x. process_cost_by over k p x g) first ∙ ap (λ x. process_cost_by over k p (held a) x) second
    ∙ ap (λ n. process_by k p n (cap (cap a.cost.susp + cap b.cost.susp)) (cap (cap a.cost.waits + cap b.cost.waits))) run
    ∙ ap (λ n. process_by k p (cap (with_dispatch over (longer 4 (plus a.cost b.cost)))) n (cap (cap a.cost.waits + cap b.cost.waits))) susp
    ∙ ap (λ n. process_by k p (cap (with_dispatch over (longer 4 (plus a.cost b.cost)))) (cap (a.cost.susp + b.cost.susp)) n) waits

pub process_named : (raw : RawImage) (parts : CodeCosts) (k : ℕ) (p : RawProcess) (code : ProcessCost) → AreParts raw parts → slice_get raw.processes k ≡ Some p → slice_get parts.processes k ≡ Some code
    → process_cost_by raw.overhead k (process_of p) (found_of code.body) (found_of code.handler) ≡ cost_of_process (image_of raw) k (process_of p)
process_named raw parts k p code are at kept =
    let body = body_found (image_of raw) (process_of p) in
    let handler = handler_found (image_of raw) (process_of p) (process_of p).handler_tree in
    let w = both_found body handler (record { body = found_of code.body; handler = found_of code.handler }) (ap told_process (sym kept) ∙ are.processes.kept k p at) in
    process_same raw.overhead k (process_of p) (found_or_nothing body) (found_or_nothing handler) (found_of code.body) (found_of code.handler) w.0 w.1

pub stack_named : (raw : RawImage) (parts : CodeCosts) (k : ℕ) (p : RawProcess) (code : ProcessCost) → AreParts raw parts → slice_get raw.processes k ≡ Some p → slice_get parts.processes k ≡ Some code
    → stack_needs (process_of p) (found_of code.body) (found_of code.handler) ≡ below p.stack (needed_stack (image_of raw) (process_of p))
stack_named raw parts k p code are at kept =
    sym (process_stacks raw parts k p code are at kept) ∙ of_element (λ (q : Process). below q.stack (needed_stack (image_of raw) q)) _ (process_of p) (map_get process_of raw.processes k p at)

-- ---- the words over all

neither : {A : Type 0} (x y : Option A) → None ≡ or_else x y → (x ≡ None) × (y ≡ None)
neither None y is = (refl, sym is)
neither (Some x) y is = absurd cc

untold : (t : Part) (x : Option PartFault) (f : Option Fault) → IsTold t x f → x ≡ None → f ≡ None
untold t None None told none = refl
untold t None (Some f) told none = absurd cc
untold t (Some x) f told none = absurd cc

-- where no part is too small, the fault of sizes is that of the words
pub only_words : (image : Image) → None ≡ sized_part image → of part.Whole subject.Words (size_fault image) ≡ size_part image
only_words image none =
    let later = neither (first_in locals_of_routine image.routines) (or_else (first_in (stack_of_process image) image.processes) (first_in (base_of_monitor image) image.monitors)) none in
    let last = neither (first_in (stack_of_process image) image.processes) (first_in (base_of_monitor image) image.monitors) (sym later.1) in
    let params : params_fault image ≡ None = untold Sizes _ (params_fault image) (told_in Sizes locals_of_routine (λ r x. below x.locals x.params) (λ r x. told_of (part.Routine r) subject.Locals (below x.locals x.params)) image.routines) later.0 in
    let stacks : stack_fault image ≡ None = untold Sizes _ (stack_fault image) (told_in Sizes (stack_of_process image) (λ k p. below p.stack (needed_stack image p)) (λ k p. told_of (part.Process k) subject.Stack (below p.stack (needed_stack image p))) image.processes) last.0 in
    let bases : base_fault image.monitors ≡ None = untold Sizes _ (base_fault image.monitors) (told_in Sizes (base_of_monitor image) (λ m x. other x.base (due_base image.monitors m)) (λ m x. told_of (part.Monitor m) subject.Base (other x.base (due_base image.monitors m))) image.monitors) last.1 in
    let words : size_fault image ≡ words_fault image =
    ap (λ o. or_else o (or_else (stack_fault image) (or_else (base_fault image.monitors) (words_fault image)))) params ∙ ap (λ o. or_else o (or_else (base_fault image.monitors) (words_fault image))) stacks
    ∙ ap (λ o. or_else o (words_fault image)) bases in
    ap (of part.Whole subject.Words) words
    ∙ sym (ap (λ o. or_else o (or_else (first_in (stack_of_process image) image.processes) (or_else (first_in (base_of_monitor image) image.monitors) (of part.Whole subject.Words (words_fault image))))) later.0
    ∙ ap (λ o. or_else o (or_else (first_in (base_of_monitor image) image.monitors) (of part.Whole subject.Words (words_fault image)))) last.0
    ∙ ap (λ o. or_else o (of part.Whole subject.Words (words_fault image))) last.1)

-- where some part is too small, its fault comes before that of the words
before_last : {A : Type 0} (x y z w : Option A) (f : A) → Some f ≡ or_else x (or_else y z) → Some f ≡ or_else x (or_else y (or_else z w))
before_last None None None w f is = absurd cc
before_last None None (Some g) w f is = is
before_last None (Some g) z w f is = is
before_last (Some g) y z w f is = is

pub other_first : (image : Image) (f : PartFault) → Some f ≡ sized_part image → Some f ≡ size_part image
other_first image f is = before_last (first_in locals_of_routine image.routines) (first_in (stack_of_process image) image.processes) (first_in (base_of_monitor image) image.monitors) (of part.Whole subject.Words (words_fault image)) f is

pub ranks_right : (image : Image) → None ≡ rank_part image → rank_fault image ≡ None
ranks_right image none = untold Ranks (rank_part image) (rank_fault image) (ranks_told image) (sym none)

-- ---- all tests

either_way : {A : Type 0} (x y z : Option A) → or_else (or_else x y) z ≡ or_else x (or_else y z)
either_way None y z = refl
either_way (Some x) y z = refl

-- costs and sizes taken together
pub in_order : (image : Image) → or_else (operand_part image) (after_operands image) ≡ part_fault image
in_order image = ap (λ o. or_else (operand_part image) (or_else (code_part image) (or_else (handler_part image) o))) (either_way (cost_part image) (size_part image) (times_part image))
