-- An instruction that nobody sees, or one that others see.
use Rattle.vm_turn.proofs.Doing.{code_of, safe_of}
use Rattle.vm_turn.proofs.own.effect_of.Goals as goal

pub step-requires : goal.step-requires
step-requires g c = (
  code_of g.at.image c.args.plan.now c.deref.result.now c.deref-2.result.now c.requires.0 c.deref.ensures.value c.deref-2.ensures.value,
  safe_of g.at.image g.at.state c.args.instr c.args.job.now g.at.owned g.at.shared c.args.owned.now c.args.shared.now c.requires.1.0 c.requires.1.1.0 c.requires.1.1.1.1.1.1.1,
)
