-- What a person is told of programs that are refused, by what files hold.
use Rattle.std.proofs.Common.{◌≡◌, ◌≢◌, ℕ, List, Bool, Err, inr, refl, sym, subst, ap}
use Rattle.std.specs.Prelude.{IsSomeAnd}
use Rattle.std.specs.Bool.{OnTrue}
use Rattle.image.specs.Raw.{named_of}
use Rattle.outside.specs.Outside.{AllStay}
use Rattle.command_words.specs.Calls as call
use Rattle.compile.specs.declared.built.Built.{Built}
use Rattle.compile.specs.declared.built.LateProgram.{LateProgram}
use Rattle.compile.specs.declared.compiling.CompileFault.{CompileFault}
use Rattle.compile.specs.declared.compiling.CompileFault.TheVariants as compile_fault
use Rattle.compile.specs.Compile.{Compiles, IsImageOf, IsLateWith}
use Rattle.command_due.specs.Source.{IsLateText}
use Rattle.message_program.specs.Late.{late_message}
use Rattle.command_answers.specs.declared.act.PreparedCall.{PreparedCall}
use Rattle.command_answers.specs.declared.status.Status.TheVariants as status
use Rattle.command_answers.specs.Acting.{puts}
use Rattle.command_answers.specs.Acts.{number_of, outcome_of}
use Rattle.command_answers.specs.Files.{Held}
use Rattle.command_refusals.specs.Refusals.{Explains, HasTimelyNames, IsExplained}
use Rattle.command_refusals.specs.Told.{IsProgramTold, IsScriptTold, late_style}
use Rattle.command_refusals.proofs.Explaining.{explained, explained_script, explained_source}
use Rattle.command_programs.specs.declared.programs.Format.{Format}
use Rattle.command_programs.specs.declared.programs.Format.TheVariants as format
use Rattle.command_programs.specs.Formats.{report_call}

-- what is known of a late program is its report in every style: so in that of the message
pub late_told : (file : List ℕ) (over : ℕ) (text : List ℕ) (why : CompileFault) (l : LateProgram) (act : PreparedCall) (report message : List ℕ) → why ≡ compile_fault.Untimely l
    → Compiles over text (Err why) → act ≡ puts status.Late report → message ≡ late_message file over l.names l.table → IsProgramTold over file text (outcome_of act) message
late_told file over text why l act report message is answer put made =
    let told_late : IsLateWith over text l = subst (λ (w : CompileFault). Compiles over text (Err w)) is answer in
    inr (record {
      late = ap (λ (it : PreparedCall). number_of it.status) put;
      is = subst (IsLateText (late_style file over) over text) (sym made) (told_late.late (late_style file over));
    })

pub report_explained : (tells : Bool) (format : Format) (program : List ℕ) (over : ℕ) (held : Held) (message : List ℕ) (act : PreparedCall) (P : List ℕ → Type 0)
    → OnTrue tells (IsSomeAnd (held program) P) → ((text : List ℕ) → P text → Explains (IsProgramTold over program text (outcome_of act) message) act)
    → IsExplained tells (report_call format program over) held message act
report_explained tells format.Text program over held message act P is told =
    explained tells (held program) P (λ text. IsProgramTold over program text (outcome_of act) message) (number_of act.status ≢ 0) is told
report_explained tells format.Json program over held message act P is told =
    explained tells (held program) P (λ text. IsProgramTold over program text (outcome_of act) message) (number_of act.status ≢ 0) is told

-- ---- `go`

module _ (tells : Bool) (program image script : List ℕ) (over : ℕ) where
  pub go_explained : (before mid : Held) (P : List ℕ → Type 0) (b : Built) (message : List ℕ) (act : PreparedCall)
      → OnTrue tells (IsSomeAnd (before program) P) → ((text : List ℕ) → P text → IsImageOf over text b) → AllStay before mid
      → OnTrue tells (IsSomeAnd (mid script) (λ text. Explains (IsScriptTold b.image.names script text (outcome_of act) message) act))
      → IsExplained tells (call.go program image script over) before message act
  go_explained before mid P b message act is compiles stays told =
      explained_script (λ text. IsProgramTold over program text (outcome_of act) message) (HasTimelyNames over) script (outcome_of act) message tells (before program) (before script) (mid script) P
      b.image.names (number_of act.status ≢ 0) is (λ text p. (named_of b.image, (compiles text p).timely, refl)) told (stays script)

  pub go_refused_explained : (held : Held) (P : List ℕ → Type 0) (message : List ℕ) (act : PreparedCall) → OnTrue tells (IsSomeAnd (held program) P)
      → ((text : List ℕ) → P text → IsProgramTold over program text (outcome_of act) message) → IsExplained tells (call.go program image script over) held message act
  go_refused_explained held P message act is told =
      explained_source (λ text. IsProgramTold over program text (outcome_of act) message) (HasTimelyNames over) script (outcome_of act) message tells (held program) (held script) P
      (number_of act.status ≢ 0) is (λ text p refused. told text p)
