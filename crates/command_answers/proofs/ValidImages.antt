-- Valid images can be run and stored.
use Rattle.std.proofs.Common.{ℕ, List, arith, subst, sym}
use Rattle.image.specs.Bytes.{Second, bytes_of}
use Rattle.image.specs.Named.{NamedImage}
use Rattle.image.specs.Raw.{image_of, named_of}
use Rattle.image.specs.declared.raw.RawImage.{RawImage}
use Rattle.image_loaded.specs.Shape.{IsImage}
use Rattle.image_reader.specs.Answer.{Holds}
use Rattle.image_reader_law.specs.ImageRanges.{ImagesReadCanBeWritten}
use Rattle.valid_image.specs.Valid.{IsValid}
use Rattle.vm_law.specs.ScriptSuits.{ScriptsForImagesReadSuit}
use Rattle.vm_plan.specs.PlanLaws.{ValidImagesReadAreReady}
use Rattle.command_answers.specs.Runnable.{IsRunnable}

runnable_raw : ValidImagesReadAreReady → ImagesReadCanBeWritten → ScriptsForImagesReadSuit → (bytes : List ℕ) (raw : RawImage) → Holds bytes raw → IsValid (image_of raw) → IsRunnable (named_of raw)
runnable_raw ready written suits bytes raw held valid =
    let r = ready bytes raw held valid in
    let range = written bytes raw held in
    record {
      limits = r.limits;
      valid = valid;
      plan = r.plan;
      names = r.names;
      suits = λ script lines last is. suits bytes raw script lines last held is;
      range = range;
      devices = omega (arith, range.counts.devices);
      events = omega (arith, range.counts.events);
    }

pub runnable : ValidImagesReadAreReady → ImagesReadCanBeWritten → ScriptsForImagesReadSuit → (n : NamedImage) → IsImage n → IsRunnable n
runnable ready written suits n is =
    let file = is.file.file in
    subst IsRunnable (sym file.image)
    (runnable_raw ready written suits (bytes_of Second n) file.raw file.held (subst (λ (x : NamedImage). IsValid x.image) file.image is.file.valid))
