-- Built images that can be run and stored.
use Rattle.std.proofs.Common.{◌≤◌, ℕ, List, Ok, Err, sym}
use Rattle.std.specs.Prelude.{Result}
use Rattle.image.specs.Raw.{image_of, named_of}
use Rattle.vm_law.specs.ScriptSuits.{ScriptsSuit}
use Rattle.compile.specs.declared.built.Built.{Built}
use Rattle.built_valid_law.specs.Ready.{BuiltImagesAreReady}
use Rattle.compile.specs.Compile.{Compiles, IsImageOf}
use Rattle.compile.specs.declared.compiling.CompileFault.{CompileFault}
use Rattle.compile.specs.declared.compiling.CompileFault.TheVariants as fault
use Rattle.replay_law.specs.Stored.{BuiltImagesAreHeld}
use Rattle.replay_law.specs.Words.{NamesOfTextsAreIdentifiers}
use Rattle.command_programs.specs.Runnable.{IsRunnableBuilt, Readies}
use Rattle.command_programs.proofs.Strings.{timely_strings, late_strings}

-- ---- images that are built

runnable_built : BuiltImagesAreReady → ScriptsSuit → NamesOfTextsAreIdentifiers → BuiltImagesAreHeld → (over : ℕ) (text : List ℕ) (b : Built) → over ≤ 1000 → IsImageOf over text b → IsRunnableBuilt b
runnable_built ready suits named held over text b low image =
    let t = image.timely in
    let r = ready text t.tree over (named_of b.image) t.written t.built in
    let file = held text t.tree over (named_of b.image) low t.written t.built in
    record {
      image = record {
        limits = r.limits;
        valid = r.valid;
        plan = r.plan;
        names = r.names;
        suits = λ script lines last is. suits b.image.names (image_of b.image) script lines last r.frames is;
        range = r.range;
        devices = r.devices;
        events = r.events;
      };
      held = record { file = record { raw = file.0; held = file.2.held; image = sym file.1 }; valid = r.valid };
      shown = record { named = image.named; strings = timely_strings named over text (named_of b.image) t };
    }

pub readies : BuiltImagesAreReady → ScriptsSuit → NamesOfTextsAreIdentifiers → BuiltImagesAreHeld → (over : ℕ) (text : List ℕ) (answer : Result Built CompileFault) → over ≤ 1000 → Compiles over text answer → Readies answer
readies ready suits named held over text (Ok b) low image = runnable_built ready suits named held over text b low image
readies ready suits named held over text (Err (fault.Text number place)) low is = tt
readies ready suits named held over text (Err (fault.Untimely l)) low late = record { named = late.named; strings = late_strings named over text l late }
readies ready suits named held over text (Err (fault.Memory _)) low is = tt
