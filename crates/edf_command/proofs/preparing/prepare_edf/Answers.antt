use Rattle.std.proofs.Common.{None, ◌∷◌, [], inl}
use Rattle.std.proofs.lemmas.Result.{IfOk-weaker}
use Rattle.syntax.specs.Tokens.{longest_text}
use Rattle.command_words.specs.Calls as call
use Rattle.command_answers.specs.Acts.{outcome_of}
use Rattle.command_answers.specs.Contents.{IsContent}
use Rattle.command_answers.specs.Tried.{status_of}
use Rattle.command_answers.proofs.Held.{acted}
use Rattle.command_answers.proofs.Trying.{tried_perhaps}
use Rattle.command_refusals.specs.Refusals.{HasFeasibleNames}
use Rattle.command_refusals.specs.Told.{IsDemandedTold}
use Rattle.command_refusals.proofs.Explaining.{explained_source}
use Rattle.edf_command.proofs.Prepared.{edf_prepares, stopped}
use Rattle.edf_command.proofs.Telling.{edf_explained}
use Rattle.edf_command.proofs.preparing.prepare_edf.Goals as goal

pub returns-in-Ok-clause-prepared : goal.returns-in-Ok-clause-prepared
returns-in-Ok-clause-prepared g c =
    edf_prepares g.F.Files.tells c.args.program.now c.args.script.now (g.F.Files.state c.args.files.now) (g.F.Files.state c.read.new.files) (g.F.Files.state c.judged_on.new.files)
    (IsContent longest_text c.in_ok-content.content) c.in-Ok.subject.image c.in-Ok.subject.answer c.judged_on.result c.in_ok-content.ensures.content c.in-Ok.ensures.judged
    c.in_ok-content.ensures.only_reads.files c.in_ok-content.ensures.only_reads.read_counts c.judged_on.ensures.due c.judged_on.ensures.done c.judged_on.ensures.failed

pub returns-in-Ok-refuse_source-clause-prepared : goal.returns-in-Ok-refuse_source-clause-prepared
returns-in-Ok-refuse_source-clause-prepared g c =
    acted g.F.Files.tells (call.edf c.args.program.now c.args.script.now) (g.F.Files.state c.args.files.now) c.in-Ok-refuse_source.act (c.in-Ok-refuse_source.ensures.quiet None)
    (stopped g.F.Files.tells ((g.F.Files.state c.args.files.now).held c.args.program.now) ((g.F.Files.state c.args.files.now).held c.args.script.now) (IsContent longest_text c.in_ok-content.content)
    (outcome_of c.in-Ok-refuse_source.act) c.in_ok-content.ensures.content
    (λ text is. c.in-Ok-refuse_source.ensures.due text ((g.F.Files.state c.args.files.now).held c.args.script.now) (c.in-Err.ensures.fault text is)))

pub returns-in-Ok-clause-reads : goal.returns-in-Ok-clause-reads
returns-in-Ok-clause-reads g c =
    tried_perhaps c.args.program.now (c.args.script.now ∷ []) _ _ _ (status_of c.judged_on.result) c.in_ok-content.ensures.read c.judged_on.ensures.reads

pub returns-in-Ok-clause-told : goal.returns-in-Ok-clause-told
returns-in-Ok-clause-told g c =
    IfOk-weaker c.judged_on.result _ _
    (λ act. edf_explained c.args.program.now c.args.script.now c.judged_on.new.message c.in-Ok.subject act g.F.Files.tells (g.F.Files.state c.args.files.now).held (g.F.Files.state c.read.new.files).held
    (IsContent longest_text c.in_ok-content.content) c.in_ok-content.ensures.content c.in-Ok.ensures.judged c.in_ok-content.ensures.only_reads.files)
    c.judged_on.ensures.told

pub returns-in-Ok-refuse_source-clause-told : goal.returns-in-Ok-refuse_source-clause-told
returns-in-Ok-refuse_source-clause-told g c =
    let outcome = outcome_of c.in-Ok-refuse_source.act in
    explained_source (λ bytes. IsDemandedTold c.args.program.now bytes outcome c.refuse_source.new.message) HasFeasibleNames c.args.script.now outcome c.refuse_source.new.message g.F.Files.tells
    ((g.F.Files.state c.args.files.now).held c.args.program.now) ((g.F.Files.state c.args.files.now).held c.args.script.now) (IsContent longest_text c.in_ok-content.content) _
    c.in_ok-content.ensures.content (λ text is refused. inl (c.in-Ok-refuse_source.ensures.told text is))
