use Rattle.std.proofs.Common.{◌∙◌, ap, subst, sym}
use Rattle.image.specs.Named.{NamedImage}
use Rattle.machine_semantics.specs.Image.{Script}
use Rattle.vm_law.specs.Suits.{Suits}
use Rattle.vm_releases.specs.Begin.{script_of}
use Rattle.built_image_law.proofs.Suiting.{same_run}
use Rattle.command_answers.specs.Acts.{by_deadlines}
use Rattle.edf_admission.specs.Ready.{CanBeRun}
use Rattle.edf_command.proofs.Runs.{is_admitted}
use Rattle.edf_command.proofs.running.run_over.Goals as goal

pub of_admitted-requires-clause-shape : goal.of_admitted-requires-clause-shape
of_admitted-requires-clause-shape c = c.requires.subject.1.valid

pub of_admitted-requires-clause-admitted : goal.of_admitted-requires-clause-admitted
of_admitted-requires-clause-admitted c =
    is_admitted c.waitless_trees_have_no_wait.ensures c.edf_images_are_admitted.ensures c.args.subject c.requires.subject c.requires.met

pub over-requires-clause-image : goal.over-requires-clause-image
over-requires-clause-image c =
    let s = c.requires.subject in
    subst CanBeRun (sym c.of_admitted.ensures) (c.edf_images_can_be_run.ensures s.0 s.1.judged.tree c.args.subject.image s.1.judged.written s.1.judged.image)

pub over-requires-clause-script : goal.over-requires-clause-script
over-requires-clause-script c =
    let s = c.requires.subject in
    let lines = c.args.script.lines in
    let end = c.args.script.end in
    let read = c.requires.script in
    let suits = c.edf_scripts_suit.ensures s.0 s.1.judged.tree c.args.subject.image read.0 lines end s.1.judged.written s.1.judged.image read.1 in
    subst (λ (n : NamedImage). Suits n.image (script_of c.args.script)) (sym c.of_admitted.ensures)
    (subst (λ (x : Script). Suits c.args.subject.image.image x) (same_run lines end) suits)

pub returns-clause-run : goal.returns-clause-run
returns-clause-run c = c.over.ensures.run ∙ ap (λ (n : NamedImage). by_deadlines n c.args.script) c.of_admitted.ensures
