-- Processes and monitors have the words that they declare.
use Rattle.std.proofs.Common.{◌≡◌, ◌≤◌, ◌+◌, ℕ, List, Option, length, take, drop, arith, ap, subst, ◌∙◌}
use Rattle.std.specs.Prelude.{ℤ}
use Rattle.std.proofs.lemmas.List.{length-drop, length-take-le}
use Rattle.machine_semantics.specs.Image.{Image, Monitor}
use Rattle.machine_semantics.specs.Run.{state_at}
use Rattle.machine_safety.proofs.Running.{state_fits}
use Rattle.machine_semantics.specs.Part.{IsSized}
use Rattle.valid_image_law.specs.ValidLaw.{MeetsPremises}
use Rattle.valid_image_law.proofs.Whole.{every_valid_image_is_safe_and_in_time, valid_meets_premises}
use Rattle.vm_stretch.specs.View.{words_in}
use Rattle.vm_watch.specs.Inspect.{WordsAreDeclared}

-- a part of an area that ends within it has all its words
all_words : (area : List ℤ) (base words : ℕ) → base + words ≤ length area → length (take words (drop base area)) ≡ words
all_words area base words fits = length-take-le words (drop base area) (omega (arith, fits, length-drop base area))

pub words_are_declared : WordsAreDeclared
words_are_declared image limits valid script t = record {
  processes = ((every_valid_image_is_safe_and_in_time image limits valid).0 script).words t;
  monitors = λ m monitor at.
      let met : MeetsPremises image = valid_meets_premises image limits valid in
      let sized : IsSized image (state_at image script t) (state_at image script t).shared =
      subst (λ (x : Image). IsSized x (state_at x script t) (state_at x script t).shared) met.of (state_fits met.e met.ps script t met.fits).sized in
      ap (λ (o : Option Monitor). length (words_in (state_at image script t).shared o)) at
      ∙ all_words (state_at image script t).shared monitor.base monitor.words (sized.shared m monitor at);
}
