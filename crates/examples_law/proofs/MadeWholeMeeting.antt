-- The example meets the premises, and its image holds what is made.
use Rattle.std.proofs.Common.{◌≡◌, refl, arith, rules}
use Rattle.source_semantics.specs.Names.{processes}
use Rattle.source_semantics_law.specs.Example.{signalled_wait}
use Rattle.image_format.specs.declared.seg.Seg.{the_lemmas}
use Rattle.code_spec.specs.Numbering.{numbered, visit, number_of}
use Rattle.code_cost_spec.specs.Levels.{code_length}
use Rattle.machine_safety.specs.ValidImages.{meeting}
use Rattle.code_measures.proofs.Meeting.{both, meeting_is_made}
use Rattle.codegen_spec.specs.Parts.{program_made}
use Rattle.codegen_law.specs.MadeWholeFits.{RoutineFits, ProcessFits, ProgramFits}
use Rattle.codegen_spec.specs.Held.{Holds}
use Rattle.codegen_law.specs.Whole.{ExampleHolds}

fits : ProgramFits signalled_wait
unfolding numbered visit number_of
fits = record {
  routines = both (numbered signalled_wait) (λ r t. RoutineFits signalled_wait t) _ _ refl refl (λ k. refl)
      (record { owner = omega arith; body = ((refl, refl, refl, refl), tt); answers = tt }) (record { owner = omega arith; body = (refl, tt); answers = tt });
  bodies = both (processes signalled_wait) (λ k p. ProcessFits signalled_wait k p) _ _ refl refl (λ k. refl)
      (record { body = ((refl, tt), tt); handler = ((refl, refl), tt) }) (record { body = ((refl, tt), tt); handler = tt });
  code = let e : code_length signalled_wait ≡ 16 = refl in omega arith;
}

holds : Holds signalled_wait (program_made signalled_wait) meeting
unfolding numbered visit number_of
holds = record {
  code = refl;
  routines = (
    record { kind = refl; owner = refl; params = refl; locals = refl; gives = refl; start = refl; tree = search (rules, the_lemmas) },
    (record { kind = refl; owner = refl; params = refl; locals = refl; gives = refl; start = refl; tree = search (rules, the_lemmas) }, tt),
  );
  bodies = (
    record {
      start = refl;
      tree = search (rules, the_lemmas);
      handler = (refl, refl, search (rules, the_lemmas));
      locals = refl;
      words = refl;
      frame = refl;
      deadline = refl;
      released = (refl, refl, refl);
    },
    (
      record {
        start = refl;
        tree = search (rules, the_lemmas);
        handler = (refl, refl, refl);
        locals = refl;
        words = refl;
        frame = refl;
        deadline = refl;
        released = (refl, refl, refl);
      },
      tt,
    ),
  );
  monitor_words = (refl, refl, tt);
  condition_table = refl;
  device_table = refl;
}

pub example_holds : ExampleHolds
example_holds = record { sound = meeting_is_made.sound; fits = fits; holds = holds }
