use Rattle.image.specs.Raw.{image_of, named_of}
use Rattle.command_programs.specs.Levels.{AreTimelyTasks}
use Rattle.command_programs.proofs.Growing.{ToldSoFar}
use Rattle.command_programs.proofs.text.slack_text.Given as goal

abbrev pub invariant-loop-number : goal.invariant-loop-number
invariant-loop-number l = record {
  tasks : AreTimelyTasks (image_of l.image) l.set;
  told : ToldSoFar (named_of l.image) l.number l.text;
}
