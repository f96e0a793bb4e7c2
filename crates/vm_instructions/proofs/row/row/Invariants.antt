use Rattle.std.proofs.Common.{◌≡◌, ◌≤◌, ◌-◌, length}
use Rattle.vm_instructions.specs.Stack.{IsWithinRoom, own_in}
use Rattle.vm_stretch.specs.Silent.{Leads}
use Rattle.vm_instructions.proofs.row.row.Given as goal

abbrev pub invariant-loop-left : goal.invariant-loop-left
invariant-loop-left g l = record {
  within : l.left ≤ l.fn.left;
  leads : Leads g.frame.image (own_in g.frame.job l.fn.at l.fn.stack l.fn.locals l.fn.owned l.fn.shared) (l.fn.left - l.left) (own_in g.frame.job l.at l.stack l.locals l.owned l.shared);
  top : l.at.top ≤ length l.stack;
  row : length l.stack ≡ length l.fn.stack;
  locals : length l.locals ≡ length l.fn.locals;
  room : IsWithinRoom g.frame.room g.frame.job l.at.top l.locals;
}

abbrev pub decreases-loop-left : goal.decreases-loop-left
decreases-loop-left g l = l.left

abbrev pub ghost-step_next : goal.ghost-step_next
ghost-step_next g a = g.frame
