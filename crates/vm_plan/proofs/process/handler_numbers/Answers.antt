use Rattle.std.proofs.Common.{ℕ, Ok}
use Rattle.std.proofs.lemmas.Iterator.{items_from_collect}
use Rattle.std.proofs.lemmas.Iterator.Consumers.{YieldsList-from_first}
use Rattle.image_bytes.specs.Standing.{numbers_in}
use Rattle.vm_plan.proofs.process.handler_numbers.Goals as goal

pub returns : goal.returns
returns c = items_from_collect {E = Unit {0}} (Ok c.in_ok-collect.field-0) c.in_ok-collect.ensures.ran (YieldsList-from_first (λ (n : ℕ). n) numbers_in _ c.numbers.ensures)
