-- Part by part.
use Rattle.std.proofs.Common.{◌∙◌, ℕ, arith, List, ap, map, replicate, []}
use Rattle.machine_semantics.specs.State.{Idle, zeros}
use Rattle.vm_state.specs.declared.decoded_image.DecodedProcess.{DecodedProcess}
use Rattle.vm_state.proofs.Starting.{begins}
use Rattle.vm_state.proofs.machine_state.MachineState.new.Goals as goal

pub returns : goal.returns
returns c = begins c.args.plan.now _
    (c.in_ok-idle_cells.ensures.idle ∙ ap (λ (ps : List DecodedProcess). map (λ (p : DecodedProcess). Idle) ps) c.as_slice.ensures.value)
    (c.in_ok-idle_cells.ensures.rooms ∙ ap (λ (ps : List DecodedProcess). map (λ (p : DecodedProcess). p.stack) ps) c.as_slice.ensures.value)
    (c.in_ok-zero_rows.ensures ∙ ap (λ (ps : List DecodedProcess). map (λ (p : DecodedProcess). zeros p.words) ps) c.as_slice-2.ensures.value)
    c.in_ok-zero_words.ensures (c.in_ok-new.ensures ∙ ap (λ (n : ℕ). replicate n []) (omega (arith, c.len.ensures, c.args.plan.now.conditions.ok.0))) c.in_ok-zero_words-2.ensures
