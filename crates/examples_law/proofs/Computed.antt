-- What is made of the examples, by computing.
use Rattle.std.proofs.Common.{refl, rules}
use Rattle.image_format.specs.declared.seg.Seg.{the_lemmas}
use Rattle.code_spec.specs.Numbering.{numbered, visit, number_of}
use Rattle.machine_safety.specs.SmallImages.{waiter_and_signaller}
use Rattle.source_semantics_law.specs.Example.{signalled_wait}
use Rattle.examples_law.specs.Mine.{mine, mine_image}
use Rattle.examples_law.specs.Forms.{FormsAreMade}
use Rattle.examples_law.specs.Like.{IsMadeAs}

pub mine_is_made : IsMadeAs mine mine_image
unfolding numbered visit number_of
mine_is_made = record { code = refl; starts = refl; trees = search (rules, the_lemmas); bodies = refl; body_trees = search (rules, the_lemmas); handlers = refl; handler_trees = search (rules, the_lemmas) }

pub wait_is_made : IsMadeAs signalled_wait (waiter_and_signaller 0 31)
unfolding numbered visit number_of
wait_is_made = record { code = refl; starts = refl; trees = search (rules, the_lemmas); bodies = refl; body_trees = search (rules, the_lemmas); handlers = refl; handler_trees = search (rules, the_lemmas) }

pub forms_are_made : FormsAreMade
unfolding numbered visit number_of
forms_are_made = record { code = refl; starts = refl; ends = refl; trees = search (rules, the_lemmas); bodies = refl; body_trees = search (rules, the_lemmas) }
