-- What is made of a load.
use Rattle.std.specs.Prelude.{◌≡◌, ◌≤◌, ℕ, List}
use Rattle.image.specs.Raw.{named_of}
use Rattle.script.specs.declared.script.Script.{Script}
use Rattle.script.specs.Scripts.{IsScript}
use Rattle.command_due.specs.Source.{IsTimelyText}
use Rattle.compile.specs.declared.built.Built.{Built}
use Rattle.command_answers.specs.Acts.{CanRunByRanks}
use Rattle.command_programs.specs.Runnable.{IsRunnableBuilt}
use Rattle.load.specs.Program.{program_text}
use Rattle.load.specs.Script.{script_text}
use Rattle.command.specs.Due.{IsSummary}
use Rattle.command.specs.declared.summing.LoadTexts.{LoadTexts}

-- the text is that of the program of some load
pub record IsProgramText (text : List ℕ) : Type 0 where
  pub key : ℕ
  pub count : ℕ
  pub some : 1 ≤ count
  pub few : count ≤ 64
  pub is : text ≡ program_text key count

-- the image of a program text, which can be run over each script for its names
pub record IsMadeOf (text : List ℕ) (built : Built) : Type 0 where
  pub timely : IsTimelyText 0 text (named_of built.image)
  pub ready : IsRunnableBuilt built

-- the text is that of the script of some load, and this the image of its program
pub record IsScriptText (built : Built) (text : List ℕ) : Type 0 where
  pub key : ℕ
  pub count : ℕ
  pub some : 1 ≤ count
  pub few : count ≤ 64
  pub is : text ≡ script_text key count
  pub made : IsMadeOf (program_text key count) built

-- the script of the text, over which the image can be run
pub record IsReadOf (built : Built) (text : List ℕ) (script : Script) : Type 0 where
  pub is : IsScript built.image.names text script.lines script.end
  pub runs : CanRunByRanks (named_of built.image) script

-- the texts of the load, and the line that tells of its run
pub record AreTextsOf (key count : ℕ) (texts : LoadTexts) : Type 0 where
  pub program : texts.program ≡ program_text key count
  pub script : texts.script ≡ script_text key count
  pub summary : IsSummary key count texts.summary
