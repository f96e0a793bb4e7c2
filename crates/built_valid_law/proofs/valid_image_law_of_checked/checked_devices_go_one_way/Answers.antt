use Rattle.built_valid_law.proofs.Devices.{devices_go_one_way}
use Rattle.built_valid_law.proofs.valid_image_law_of_checked.checked_devices_go_one_way.Goals as goal

pub returns : goal.returns
returns c = devices_go_one_way c.names_are_found.ensures
