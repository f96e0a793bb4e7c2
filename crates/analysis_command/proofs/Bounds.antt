-- What is due of bounds that were judged, and what is told of them.
use Rattle.std.proofs.Common.{◌≡◌, ◌∙◌, ℕ, List, Some, None, ap, subst}
use Rattle.image.specs.declared.names.ImageNames.{ImageNames}
use Rattle.compile.specs.declared.built.LateProgram.{LateProgram}
use Rattle.command_due.specs.Source.{IsLateText}
use Rattle.command_due.specs.WhyDue.{IsWhyDue}
use Rattle.command_answers.specs.declared.status.Status.TheVariants as status
use Rattle.command_answers.specs.Acting.{puts}
use Rattle.command_answers.specs.Acts.{outcome_of}
use Rattle.command_refusals.specs.Told.{late_style}
use Rattle.message_program.specs.Late.{late_message}
use Rattle.analysis_command.specs.declared.texts.JudgedBounds.{JudgedBounds}
use Rattle.analysis_command.specs.Told.{AreBoundsOf, IsShownLate}
use Rattle.analysis_command.proofs.Due.{why_told, why_told_late}

module _ (over : ℕ) (text : List ℕ) (b : JudgedBounds) (are : AreBoundsOf over text b) where
  pub due_in_time : b.late ≡ None → IsWhyDue over text (outcome_of (puts status.Done b.text))
  due_in_time none = why_told over text are.tree b.text are.written (subst (IsShownLate are.tree over) none are.late) are.parts

  module _ (l : LateProgram) (some : b.late ≡ Some l) where
    shown : IsShownLate are.tree over (Some l)
    shown = subst (IsShownLate are.tree over) some are.late

    pub due_late : IsWhyDue over text (outcome_of (puts status.Late b.text))
    due_late = why_told_late over text are.tree b.text are.written shown.0 are.parts

    -- the message shows the table of the report
    pub told_late : (file message : List ℕ) → message ≡ late_message file over l.names l.table → IsLateText (late_style file over) over text message
    told_late file message told = record {
      tree = are.tree;
      written = are.written;
      late = shown.1.late;
      table = l.table;
      tabled = shown.1.table;
      shown = told ∙ ap (λ (names : ImageNames). late_message file over names l.table) shown.1.names;
    }
