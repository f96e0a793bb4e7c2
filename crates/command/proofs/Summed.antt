-- The line of a load.
use Rattle.std.proofs.Common.{◌≡◌, ◌≤◌, ℕ, List, Ok, Err, length, IfOk, arith}
use Rattle.std.specs.Prelude.{Result}
use Rattle.image.specs.Raw.{image_of, named_of}
use Rattle.script.specs.declared.script.Script.{Script}
use Rattle.script.specs.Scripts.{IsScript}
use Rattle.command_due.specs.CommandsDue.{log}
use Rattle.compile.specs.declared.built.Built.{Built}
use Rattle.load.specs.Program.{program_text}
use Rattle.load.specs.Script.{script_text}
use Rattle.load.specs.Summary.{mark_of, summary}
use Rattle.load_law.specs.Texts.{HasInstructions}
use Rattle.command.specs.Due.{lines_in, IsSummary}
use Rattle.command.specs.Texts.{IsMadeOf, IsReadOf}

pub summed : {E : Type 0} {code lines size mark : ℕ} → HasInstructions → (key count : ℕ) → 1 ≤ count → count ≤ 64 → (b : Built) (script : Script) (bytes : List ℕ)
    → IsMadeOf (program_text key count) b → IsReadOf b (script_text key count) script → bytes ≡ log (named_of b.image) script.lines script.end
    → code ≡ length (image_of b.image).code → lines ≡ lines_in bytes → size ≡ length bytes → mark ≡ mark_of bytes
    → (result : Result (List ℕ) E) → IfOk result (λ text. text ≡ summary count code lines size mark) → IfOk result (IsSummary key count)
summed instructions key count some few b script bytes made read is long lined sized marked (Err e) told = tt
summed instructions key count some few b script bytes made read is long lined sized marked (Ok text) told = record {
  made = named_of b.image;
  timely = made.timely;
  lines = script.lines;
  end = script.end;
  script = read.is;
  code = instructions key count some few (named_of b.image) made.timely;
  is = grind (arith, told, is, long, lined, sized, marked);
}
