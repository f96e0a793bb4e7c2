-- What the parts declare, against what was kept of their code.
use Rattle.std.proofs.Common.{◌≡◌, ◌≤◌, ◌<◌, ◌+◌, ◌-◌, ◌*◌, ℕ, zero, suc, List, get_or, length, Option, Some, None, arith, refl, ap, sym, ◌∙◌, map}
use Rattle.std.specs.Prelude.{min, max, IfSome, take, slice_get}
use Rattle.std.proofs.lemmas.List.{length-map}
use Rattle.std.proofs.lemmas.Option.{slice_get_read, slice_get-get_or}
use Rattle.base.proofs.Lists.{map_get}
use Rattle.base.specs.Capped.{cap}
use Rattle.base.specs.declared.capped.Cost.{Cost}
use Rattle.image.specs.declared.raw.RawImage.{RawImage}
use Rattle.image.specs.declared.raw.RawProcess.{RawProcess}
use Rattle.image.specs.declared.raw.RawRoutine.{RawRoutine}
use Rattle.image.specs.Raw.{image_of, process_of, routine_of}
use Rattle.machine_semantics.specs.Image.{Routine, Process}
use Rattle.valid_image.specs.Fault.{Fault, or_else, first_of, of_some, first_in}
use Rattle.valid_image.specs.Found.{Found, longer, plus}
use Rattle.valid_image.specs.Sizes.{below, with_dispatch, needed_stay, needed_stack, routine_cost_fault, process_cost_fault}
use Rattle.valid_image.specs.Tables.{known, routine_found, body_found, handler_found, found_or_nothing}
use Rattle.loader_code.proofs.Searching.{none_here, one_here, none_left, of_element}
use Rattle.valid_image_law.specs.Held.{held, hold}
use Rattle.valid_image_law.proofs.Holding.{product}
use Rattle.loader_code.specs.declared.known.PartCost.{PartCost}
use Rattle.loader_code.specs.TreesTold.{found_of, told_part}
use Rattle.loader.specs.declared.parts.CodeCosts.{CodeCosts}
use Rattle.loader.specs.declared.parts.ProcessCost.{ProcessCost}
use Rattle.loader.specs.Costs.{routine_needs, process_needs, stack_needs}
use Rattle.loader.specs.Found.{Two, two, told_process}
use Rattle.loader.specs.Parts.{AreParts}

-- ---- a search from the left

pub search_stops : (f : ℕ → Option Fault) (whole : Option Fault) (total at : ℕ) (x : Fault) → at < total → first_of f (total - at) at ≡ whole → f at ≡ Some x → Some x ≡ whole
search_stops f whole total at x low rest is = sym (one_here f (total - at) at x (omega (arith, low)) is) ∙ rest

pub search_on : (f : ℕ → Option Fault) (whole : Option Fault) (total at : ℕ) → at < total → first_of f (total - at) at ≡ whole → f at ≡ None → first_of f (total - (at + 1)) (at + 1) ≡ whole
search_on f whole total at low rest is =
    let fewer : total - (at + 1) ≡ total - at - 1 = omega arith in
    ap (λ n. first_of f n (at + 1)) fewer ∙ (sym (none_here f (total - at) at (omega (arith, low)) is) ∙ rest)

pub search_ends : (f : ℕ → Option Fault) (whole : Option Fault) (total at : ℕ) → total ≤ at → first_of f (total - at) at ≡ whole → None ≡ whole
search_ends f whole total at past rest = sym (none_left f (total - at) at (omega (arith, past))) ∙ rest

pub search_starts : {A B : Type 0} (g : ℕ → B → Option Fault) (v : A → B) (xs : List A) → first_of (λ k. of_some (g k) (slice_get (map v xs) k)) (length xs - 0) 0 ≡ first_in g (map v xs)
search_starts g v xs = let e : length xs - 0 ≡ length (map v xs) = omega (arith, length-map xs v) in ap (λ n. first_of (λ k. of_some (g k) (slice_get (map v xs) k)) n 0) e

-- ---- routines

needs_same : (y : Option Found) (f : Found) (x : Routine) (stay n : ℕ) → Some f ≡ hold y → stay ≡ n
    → routine_needs x f stay
    ≡ or_else (below x.run (cap (longer 4 (found_or_nothing y).cost).run)) (or_else (below x.susp (cap (longer 4 (found_or_nothing y).cost).susp)) (or_else (below x.waits (cap (longer 4 (found_or_nothing y).cost).waits)) (below x.stay n)))
needs_same None f x stay n some is = absurd cc
needs_same (Some g) f x stay n some is =
    let same : f ≡ held g = cc in
    let run : cap (4 + cap g.cost.run) ≡ cap (4 + g.cost.run) = omega arith in
    let susp : cap (cap g.cost.susp) ≡ cap g.cost.susp = omega arith in
    let waits : cap (cap g.cost.waits) ≡ cap g.cost.waits = omega arith in
    ap (λ h. routine_needs x h stay) same
    ∙ ap (λ a. or_else (below x.run a) (or_else (below x.susp (cap (cap g.cost.susp))) (or_else (below x.waits (cap (cap g.cost.waits))) (below x.stay stay)))) run
    ∙ ap (λ a. or_else (below x.run (cap (4 + g.cost.run))) (or_else (below x.susp a) (or_else (below x.waits (cap (cap g.cost.waits))) (below x.stay stay)))) susp
    ∙ ap (λ a. or_else (below x.run (cap (4 + g.cost.run))) (or_else (below x.susp (cap g.cost.susp)) (or_else (below x.waits a) (below x.stay stay)))) waits
    ∙ ap (λ a. or_else (below x.run (cap (4 + g.cost.run))) (or_else (below x.susp (cap g.cost.susp)) (or_else (below x.waits (cap g.cost.waits)) (below x.stay a)))) is

stay_at : (o : Option PartCost) (part : PartCost) (n : ℕ) → o ≡ Some part → IfSome o (λ f. f.stay ≡ n) → part.stay ≡ n
stay_at None part n is stays = absurd cc
stay_at (Some f) part n is stays = let same : f ≡ part = cc in ap (λ (g : PartCost). g.stay) (sym same) ∙ stays

pub routine_costs : (raw : RawImage) (parts : CodeCosts) (r : ℕ) (x : RawRoutine) (part : PartCost) → AreParts raw parts → slice_get raw.routines r ≡ Some x → slice_get parts.routines r ≡ Some part
    → of_some (routine_cost_fault (image_of raw) r) (slice_get (image_of raw).routines r) ≡ routine_needs (routine_of x) (found_of part.found) part.stay
routine_costs raw parts r x part are at kept =
    let k = are.routines.kept r x at in
    let found : Some (found_of part.found) ≡ hold (routine_found raw.code (take r (known (image_of raw))) (routine_of x)) = ap told_part (sym kept) ∙ k.found in
    let stays = stay_at (slice_get parts.routines r) part (cap (needed_stay (image_of raw) r (routine_of x))) kept k.stay in
    of_element (routine_cost_fault (image_of raw) r) _ (routine_of x) (map_get routine_of raw.routines r x at)
    ∙ sym (needs_same (routine_found raw.code (take r (known (image_of raw))) (routine_of x)) (found_of part.found) (routine_of x) part.stay _ found stays)

-- ---- processes

sums : (a b c d : ℕ) → cap a ≡ cap c → cap b ≡ cap d → cap (a + b) ≡ cap (c + d)
sums a b c d first second = omega (arith, first, second)

pub dispatched : (over a b : ℕ) → cap a ≡ cap b → cap (2 * over * (1 + a)) ≡ cap (2 * over * (1 + b))
dispatched zero a b same = omega arith
dispatched (suc over) a b same = product (2 * suc over) (1 + a) (1 + b) (omega arith) (omega (arith, same))

pub run_same : (over : ℕ) (a b c d : Cost) → cap (a.run + b.run) ≡ cap (c.run + d.run) → cap (a.waits + b.waits) ≡ cap (c.waits + d.waits)
    → cap (with_dispatch over (longer 4 (plus a b))) ≡ cap (with_dispatch over (longer 4 (plus c d)))
run_same over a b c d run waits =
    let more : cap (4 + (a.run + b.run)) ≡ cap (4 + (c.run + d.run)) = omega (arith, run) in
    sums (4 + (a.run + b.run)) (2 * over * (1 + (a.waits + b.waits))) (4 + (c.run + d.run)) (2 * over * (1 + (c.waits + d.waits))) more (dispatched over (a.waits + b.waits) (c.waits + d.waits) waits)

pub run_told : (over run waits : ℕ) (b h : Cost) → run ≡ cap (4 + cap (b.run + h.run)) → waits ≡ cap (b.waits + h.waits)
    → cap (run + cap (2 * over * (1 + waits))) ≡ cap (with_dispatch over (longer 4 (plus b h)))
run_told over run waits b h run-is waits-is =
    let more : cap run ≡ cap (4 + (b.run + h.run)) = omega (arith, run-is) in
    let dispatch : cap (2 * over * (1 + waits)) ≡ cap (2 * over * (1 + (b.waits + h.waits))) = dispatched over waits (b.waits + h.waits) (omega (arith, waits-is)) in
    let twice : cap (cap (2 * over * (1 + waits))) ≡ cap (2 * over * (1 + (b.waits + h.waits))) = (let i : cap (cap (2 * over * (1 + waits))) ≡ cap (2 * over * (1 + waits)) = again (2 * over * (1 + waits)) in i ∙ dispatch) in
    sums run (cap (2 * over * (1 + waits))) (4 + (b.run + h.run)) (2 * over * (1 + (b.waits + h.waits))) more twice where
      again : (n : ℕ) → cap (cap n) ≡ cap n
      again n = omega arith

both_found : (x y : Option Found) (t : Two) → Some t ≡ two (hold x) (hold y) → (t.body ≡ held (found_or_nothing x)) × (t.handler ≡ held (found_or_nothing y))
both_found None y t is = absurd cc
both_found (Some f) None t is = absurd cc
both_found (Some f) (Some g) t is = let same : t ≡ record { body = held f; handler = held g } = cc in (ap (λ (u : Two). u.body) same, ap (λ (u : Two). u.handler) same)

process_same : (over : ℕ) (p : Process) (a b f g : Found) → f ≡ held a → g ≡ held b
    → process_needs over p f g
    ≡ or_else (below p.run (cap (with_dispatch over (longer 4 (plus a.cost b.cost))))) (or_else (below p.susp (cap (longer 4 (plus a.cost b.cost)).susp)) (below p.waits (cap (longer 4 (plus a.cost b.cost)).waits)))
process_same over p a b f g first second =
    let run = run_same over (held a).cost (held b).cost a.cost b.cost (omega arith) (omega arith) in
    let susp : cap (cap a.cost.susp + cap b.cost.susp) ≡ cap (a.cost.susp + b.cost.susp) = omega arith in
    let waits : cap (cap a.cost.waits + cap b.cost.waits) ≡ cap (a.cost.waits + b.cost.waits) = omega arith in
    ap (λ x. process_needs over p x g) first ∙ ap (λ x. process_needs over p (held a) x) second
    ∙ ap (λ n. or_else (below p.run n) (or_else (below p.susp (cap (cap a.cost.susp + cap b.cost.susp))) (below p.waits (cap (cap a.cost.waits + cap b.cost.waits))))) run
    ∙ ap (λ n. or_else (below p.run (cap (with_dispatch over (longer 4 (plus a.cost b.cost))))) (or_else (below p.susp n) (below p.waits (cap (cap a.cost.waits + cap b.cost.waits))))) susp
    ∙ ap (λ n. or_else (below p.run (cap (with_dispatch over (longer 4 (plus a.cost b.cost))))) (or_else (below p.susp (cap (a.cost.susp + b.cost.susp))) (below p.waits n))) waits

what_is_kept : (raw : RawImage) (parts : CodeCosts) (k : ℕ) (p : RawProcess) (found : ProcessCost) → AreParts raw parts → slice_get raw.processes k ≡ Some p → slice_get parts.processes k ≡ Some found
    → (found_of found.body ≡ held (found_or_nothing (body_found (image_of raw) (process_of p)))) × (found_of found.handler ≡ held (found_or_nothing (handler_found (image_of raw) (process_of p) (process_of p).handler_tree)))
what_is_kept raw parts k p found are at kept =
    both_found (body_found (image_of raw) (process_of p)) (handler_found (image_of raw) (process_of p) (process_of p).handler_tree) (record { body = found_of found.body; handler = found_of found.handler })
    (ap told_process (sym kept) ∙ are.processes.kept k p at)

pub process_costs : (raw : RawImage) (parts : CodeCosts) (k : ℕ) (p : RawProcess) (found : ProcessCost) → AreParts raw parts → slice_get raw.processes k ≡ Some p → slice_get parts.processes k ≡ Some found
    → of_some (λ q. process_cost_fault (image_of raw) q) (slice_get (image_of raw).processes k) ≡ process_needs raw.overhead (process_of p) (found_of found.body) (found_of found.handler)
process_costs raw parts k p found are at kept =
    let w = what_is_kept raw parts k p found are at kept in
    of_element (λ (q : Process). process_cost_fault (image_of raw) q) _ (process_of p) (map_get process_of raw.processes k p at)
    ∙ sym (process_same raw.overhead (process_of p) (found_or_nothing (body_found (image_of raw) (process_of p))) (found_or_nothing (handler_found (image_of raw) (process_of p) (process_of p).handler_tree)) (found_of found.body) (found_of found.handler) w.0 w.1)

stack_same : (p : Process) (a b f g : Found) → f ≡ held a → g ≡ held b → stack_needs p f g ≡ stack_needs p a b
stack_same p a b f g first second =
    let depth : min (max (min a.depth 4097) (min b.depth 4097)) 4097 ≡ min (max a.depth b.depth) 4097 = omega arith in
    ap (λ x. stack_needs p x g) first ∙ ap (λ x. stack_needs p (held a) x) second ∙ ap (λ n. below p.stack (p.locals + n)) depth

pub process_stacks : (raw : RawImage) (parts : CodeCosts) (k : ℕ) (p : RawProcess) (found : ProcessCost) → AreParts raw parts → slice_get raw.processes k ≡ Some p → slice_get parts.processes k ≡ Some found
    → of_some (λ q. below q.stack (needed_stack (image_of raw) q)) (slice_get (image_of raw).processes k) ≡ stack_needs (process_of p) (found_of found.body) (found_of found.handler)
process_stacks raw parts k p found are at kept =
    let w = what_is_kept raw parts k p found are at kept in
    of_element (λ (q : Process). below q.stack (needed_stack (image_of raw) q)) _ (process_of p) (map_get process_of raw.processes k p at)
    ∙ sym (stack_same (process_of p) (found_or_nothing (body_found (image_of raw) (process_of p))) (found_or_nothing (handler_found (image_of raw) (process_of p) (process_of p).handler_tree)) (found_of found.body) (found_of found.handler) w.0 w.1)

-- ---- an element by its place

pub read : {A : Type 0} (xs ys : List A) (i : ℕ) (x : A) → xs ≡ ys → i < length xs → x ≡ get_or xs i x → slice_get ys i ≡ Some x
read xs ys i x same low is = ap (λ zs. slice_get zs i) (sym same) ∙ slice_get_read xs (length xs) i x refl low is

pub copied : {A : Type 0} (xs ys : List A) (i : ℕ) (d : A) → xs ≡ ys → i < length ys → slice_get ys i ≡ Some (get_or xs i d)
copied xs ys i d same low = slice_get-get_or ys i d low ∙ ap (λ zs. Some (get_or zs i d)) (sym same)

pub params_at : (xs : List RawRoutine) (r : ℕ) (x : RawRoutine) → slice_get xs r ≡ Some x
    → of_some (λ (y : Routine). below y.locals y.params) (slice_get (map routine_of xs) r) ≡ below x.locals x.params
params_at xs r x at = of_element (λ (y : Routine). below y.locals y.params) _ (routine_of x) (map_get routine_of xs r x at)
