use Rattle.std.proofs.Common.{◌≡◌, map, take}
use Rattle.code_spec.specs.Numbering.{place_among}
use Rattle.code_names.specs.Texts.{text_of, texts_of}
use Rattle.analysis_command.proofs.graph.places_among.Given as goal

abbrev pub invariant-loop-routine : goal.invariant-loop-routine
invariant-loop-routine l = l.all.items ≡ map (λ b. place_among (text_of b) (texts_of l.texts)) (take l.routine-index l.routines)
