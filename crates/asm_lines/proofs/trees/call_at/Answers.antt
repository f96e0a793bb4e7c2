use Rattle.std.proofs.Common.{◌≡◌, ◌∙◌, Ok, ap, sym}
use Rattle.machine_semantics.specs.Trees as tree
use Rattle.image_format.specs.declared.seg.Seg.{fold-roll-Seg}
use Rattle.image_format.specs.declared.seg.Seg.TheOpen.{Seg-F}
use Rattle.image_format.specs.declared.seg.Seg.TheVariants.{Call, rolls-Call}
use Rattle.image_format.specs.View.{view, view_step}
use Rattle.text_fields.specs.Front.{front}
use Rattle.asm_lines.proofs.trees.call_at.Goals as goal

pub returns-clause-read : goal.returns-clause-read
returns-clause-read c =
    let n = c.in_ok-routine.routine in
    let seen : view (Call n) ≡ tree.Call n = ap view (sym (rolls-Call n)) ∙ fold-roll-Seg tree.Seg view_step (Seg-F.Call n) in
    rw c.in_ok-routine.ensures (ap (λ (segment : tree.Seg). Ok (segment, front c.in_ok-routine.at)) (sym seen))
