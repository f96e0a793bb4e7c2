-- How a call of `make` ends.
use Rattle.std.proofs.Common.{◌≡◌, ◌≢◌, ◌⊎◌, ◌∙◌, ℕ, Bool, true, false, List, Option, Some, inl, inr, refl, sym, ap}
use Rattle.std.specs.Bool.{OnTrue}
use Rattle.outside.specs.Outside.{FilesState, SinkState, Outside, outside, OthersStay, NoneFell, Rose, AppendsFront}
use Rattle.command_words.specs.Calls.{Load}
use Rattle.load.specs.Program.{program_text}
use Rattle.load.specs.Script.{script_text}
use Rattle.command.specs.Due.{IsSummary}
use Rattle.command.specs.Made.{HasProgram, HasTexts, KeepsOthers, ProgramFailed, ScriptFailed, PutFailed, IsCutBy, no_program, no_script, no_line, Made}
use Rattle.command.specs.declared.summing.LoadTexts.{LoadTexts}
use Rattle.command.specs.Texts.{AreTextsOf}
use Rattle.command.specs.Steps.{HasScript, GoesOn}
use Rattle.command_answers.proofs.Held.{rose_since}

-- ---- what is said where the files tell theirs

always : (tells : Bool) {P : Type 0} → P → OnTrue tells P
always true p = p
always false p = tt

told : (tells : Bool) {P Q : Type 0} → (P → Q) → OnTrue tells P → OnTrue tells Q
told true f p = f p
told false f p = tt

both : (tells : Bool) {P Q R : Type 0} → (P → Q → R) → OnTrue tells P → OnTrue tells Q → OnTrue tells R
both true f p q = f p q
both false f p q = tt

-- ---- the whole call

-- the program stood in its file before the script was written
module _ (tells : Bool) (load : Load) (texts : LoadTexts) (b m n : FilesState) (o p : SinkState) (status : ℕ) where
  kept_program : OthersStay m.held n.held load.script → m.held load.program ≡ Some (program_text load.key load.count)
      → load.program ≢ load.script → n.held load.program ≡ Some (program_text load.key load.count)
  kept_program others has other = others load.program other ∙ has

  cut_by : AreTextsOf load.key load.count texts → NoneFell b.write_faults m.write_faults → OthersStay m.held n.held load.script
      → m.held load.program ≡ Some (program_text load.key load.count)
      → (status ≡ 7 → (ScriptFailed load (outside m o) (outside n p) × (p.taken ≡ o.taken))
      ⊎ (PutFailed (outside m o) (outside n p) × HasScript load (outside n p) × AppendsFront o.taken p.taken texts.summary))
      → status ≡ 7 → (line : List ℕ) × IsSummary load.key load.count line × IsCutBy load line (outside b o) (outside n p)
  cut_by texts_are less others has cut seven = (
    texts.summary,
    texts_are.summary,
    elim (cut seven) [
      | inl script ↦ no_script (rose_since (b.write_faults load.script) (m.write_faults load.script) (n.write_faults load.script) (less load.script) script.0) (kept_program others has) script.1
      | inr put ↦ no_line put.0 (record { program = kept_program others has; script = put.1 }) put.2
    ],
  )

  pub joined : AreTextsOf load.key load.count texts → NoneFell b.write_faults m.write_faults → OthersStay b.held m.held load.program
      → OnTrue tells (m.held load.program ≡ Some (program_text load.key load.count))
      → GoesOn tells load texts (outside m o) (outside n p) status → Made tells load (outside b o) (outside n p) status
  joined texts_are less others has g = record {
    range = g.range;
    line = λ zero. (texts.summary, texts_are.summary, g.line zero);
    stored = both tells (λ program script zero. record { program = kept_program g.others program; script = script zero }) has g.stored;
    unwritten = λ seven. elim (g.unwritten seven) [
      | inl script ↦ inr (inl (rose_since (b.write_faults load.script) (m.write_faults load.script) (n.write_faults load.script) (less load.script) script))
      | inr put ↦ inr (inr put)
    ];
    cut = both tells (λ program cut. cut_by texts_are less g.others program cut) has g.cut;
    nothing = g.nothing;
    kept = told tells (λ program eight. inr (record {
      program = g.kept eight load.program ∙ program;
      others = λ name other. g.kept eight name ∙ others name other;
    })) has;
    quiet = g.quiet;
    others = λ name one two. g.others name two ∙ others name one;
  }

-- the write of the program failed
module _ (tells : Bool) (load : Load) (b n : FilesState) (o : SinkState) where
  pub unwritten : (line : List ℕ) → IsSummary load.key load.count line → OthersStay b.held n.held load.program → ProgramFailed load (outside b o) (outside n o)
      → Made tells load (outside b o) (outside n o) 7
  unwritten line is others failed = record {
    range = inr (inl refl);
    line = λ zero. absurd cc;
    stored = always tells (λ zero. absurd cc);
    unwritten = λ seven. inl failed;
    cut = always tells (λ seven. (line, is, no_program failed others refl));
    nothing = λ eight. absurd cc;
    kept = always tells (λ eight. absurd cc);
    quiet = λ other. refl;
    others = λ name one two. others name one;
  }
