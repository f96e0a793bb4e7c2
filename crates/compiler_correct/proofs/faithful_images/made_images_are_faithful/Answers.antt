use Rattle.compiler_correct.proofs.Joined.{made_images_are_faithful}
use Rattle.compiler_correct.proofs.faithful_images.made_images_are_faithful.Goals as goal

pub returns : goal.returns
returns c =
    made_images_are_faithful c.checked_programs_are_ready.ensures c.checked_images_are_valid.ensures
    c.checked_images_are_images.ensures c.checked_programs_run.ensures c.valid_meets_premises.ensures
    c.every_valid_image_is_safe_and_in_time.ensures c.scripts_for_the_names_suit.ensures
    c.scripts_are_in_order.ensures
