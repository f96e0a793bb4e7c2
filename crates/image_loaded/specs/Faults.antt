-- The faults of files, by those of bytes and of numbers.
use Rattle.image_reader.specs.declared.fault.ImageFault.{ImageFault}
use Rattle.image_reader.specs.declared.fault.ImageFault.TheVariants as image
use Rattle.image_loaded.specs.declared.fault.FileFault.{FileFault}
use Rattle.image_loaded.specs.declared.fault.FileFault.TheVariants as file
use Rattle.image_loaded.specs.declared.fault.ValidFault.{ValidFault}
use Rattle.image_loaded.specs.declared.fault.ValidFault.TheVariants as valid

abbrev pub of_bytes : ImageFault → FileFault
of_bytes (image.Bad number offset) = file.Image number offset
of_bytes (image.Memory e) = file.Memory e

abbrev pub of_numbers : ValidFault → FileFault
of_numbers (valid.Invalid raw fault) = file.Invalid raw fault
of_numbers (valid.Memory e) = file.Memory e
