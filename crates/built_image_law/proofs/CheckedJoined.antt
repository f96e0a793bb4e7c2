-- The laws of a checked program, joined.
use Rattle.syntax_tree.specs.Placed.{Prog, plain}
use Rattle.syntax_tree.specs.declared.place.Place.{Place}
use Rattle.static_semantics.specs.Static.{IsChecked}
use Rattle.static_semantics.specs.WellFormed.{IsWellFormed}
use Rattle.codegen_law.specs.Ruled.{NamesApart}
use Rattle.codegen_law.specs.Sound.{RoutinesHaveNumbers, WellFormedProgramsAreSound}
use Rattle.code_measures.specs.Quiet.{AreQuiet}
use Rattle.built_image_law.specs.Quiet.{reaches_no_wait}
use Rattle.built_image_law.specs.Ready.{CheckedProgramsAreReady, CheckedImagesAreMade}

pub ready : ((g : Prog Place) → IsChecked g → IsWellFormed (plain g)) → ((g : Prog Place) → IsChecked g → NamesApart (plain g)) → RoutinesHaveNumbers → WellFormedProgramsAreSound
    → ((g : Prog Place) → IsChecked g → AreQuiet (plain g) (reaches_no_wait (plain g))) → CheckedProgramsAreReady
ready formed apart numbered sound quiet g is = record {
  formed = formed g is;
  apart = apart g is;
  numbered = numbered (plain g) (formed g is) (apart g is);
  sound = sound (plain g) (formed g is) (apart g is);
  quiet = quiet g is;
}

pub images_made : CheckedProgramsAreReady → CheckedImagesAreMade
images_made law g m is made =
    let r = law g is in
    record { code = made.code; sound = r.sound; declares = made.declares; quiet = reaches_no_wait (plain g); handlers = r.quiet; few_words = made.few_words; ranks = made.ranks; bounds = made.bounds }
