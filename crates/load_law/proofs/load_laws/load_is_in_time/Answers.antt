use Rattle.load_law.proofs.Time.{keeps_time}
use Rattle.load_law.proofs.load_laws.load_is_in_time.Goals as goal

pub returns : goal.returns
returns c = keeps_time c.load_is_light.ensures c.light_images_respond.ensures
