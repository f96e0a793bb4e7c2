use Rattle.std.proofs.Common.{inl, inr, arith}
use Rattle.std.proofs.lemmas.Bool.{cases_eq}
use Rattle.command_answers.specs.Acts.{number_of}
use Rattle.command.proofs.Complete.{completes}
use Rattle.command.proofs.Done.{has_done}
use Rattle.command.proofs.Overheads.{command_low}
use Rattle.command.proofs.Late.{refused_for_time}
use Rattle.command.proofs.One.{refused}
use Rattle.command.proofs.call.rte.Goals as goal

pub returns-clause-complete : goal.returns-clause-complete
returns-clause-complete g c = λ call is. completes g.F.Files.tells call _ _ _ (c.carry_out.ensures.went call is)

-- status 0, by what is due and the laws of images
pub returns-clause-done : goal.returns-clause-done
returns-clause-done g c = λ call is.
    has_done (record { spelled = c.tokens_are_spelled.ensures; tokens_of = c.reads_back.ensures.tokens; tree_of = c.reads_back.ensures.tree; again = c.printed_trees_are_written.ensures; tables = c.table_text_is_written.ensures })
    (record { faithful = c.built_images_are_faithful.ensures; in_time = c.built_is_in_time.ensures; bounds = c.bounds_are_of_the_text.ensures })
    c.images_told_are_held.ensures c.images_read_are_held_again.ensures c.built_images_are_held.ensures c.images_read_are_in_their_ranges.ensures.limits c.every_valid_image_is_safe_and_in_time.ensures c.scripts_suit.ensures.held c.feasible_texts_keep_their_word.ensures
    g.F.Files.tells call _ _ _ (command_low c.overheads_are_decimal.ensures _ call is) (c.carry_out.ensures.went call is)

-- status 3, by what is due
pub returns-clause-late : goal.returns-clause-late
returns-clause-late g c = λ call is.
    refused_for_time c.written_or_faulty.ensures c.written_once.ensures c.built_is_in_time.ensures c.late_is_not_in_time.ensures c.answers_of_texts_are_one.ensures c.never_in_time_and_not.ensures
    g.F.Files.tells call _ _ _ (c.carry_out.ensures.went call is)

-- a file that has changed
pub returns-clause-stored : goal.returns-clause-stored
returns-clause-stored g c = λ none name changed. elim (cases_eq (number_of c.carry_out.result) 7) [
  | inl seven ↦ inr seven
  | inr other ↦ elim (cases_eq (number_of c.carry_out.result) 0) [
    | inl zero ↦ inl zero
    | inr more ↦ absurd (changed (c.carry_out.ensures.kept none (omega (arith, more)) other name))
  ]
]

-- where no image is due
pub returns-clause-refused : goal.returns-clause-refused
returns-clause-refused g c = λ call is.
    refused
    (record {
      reports = c.reports_are_one.ensures;
      slack = c.slack_is_one.ensures;
      print = c.print_is_one.ensures;
      compile = c.compile_is_one.ensures;
      go = c.go_is_one.ensures;
      run = c.run_is_one.ensures;
      migrate = c.migrate_is_one.ensures;
      asm = c.asm_is_one.ensures;
      dis = c.dis_is_one.ensures;
      watch = c.watch_is_one.ensures;
      chart = c.chart_is_one.ensures;
      table = c.table_is_one.ensures;
    })
    g.F.Files.tells call _ _ _ (c.carry_out.ensures.went call is)
