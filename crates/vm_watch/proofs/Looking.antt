-- A process of a board.
use Rattle.std.proofs.Common.{◌≡◌, ◌<◌, ℕ, List, Option, Some, length, get_or, refl, ap, ◌∙◌}
use Rattle.std.specs.Prelude.{option_map, slice_get}
use Rattle.std.proofs.lemmas.Option.{slice_get-map, slice_get_read}
use Rattle.vm_state.specs.declared.threads.ControlBlock.{ControlBlock}
use Rattle.vm_state.specs.Threads.{thread_of, threads_of}
use Rattle.machine_semantics.specs.State.{Thread}

-- how a process of a board stands
pub thread_at : (cells : List ControlBlock) (k : ℕ) (c : ControlBlock) (t : Thread) → k < length cells → c ≡ get_or cells k c → thread_of c ≡ t → slice_get (threads_of cells) k ≡ Some t
thread_at cells k c t below at is =
    slice_get-map thread_of cells k ∙ ap (λ (o : Option ControlBlock). option_map thread_of o) (slice_get_read cells (length cells) k c refl below at) ∙ ap (λ (x : Thread). Some x) is
