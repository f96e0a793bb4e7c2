-- Where no rule of size fails, the code and the frames are not too large.
use Rattle.code_correct.specs.Runs.{CheckedCodeIsFaithful}
use Rattle.built_image_law.specs.Small.{ProgramsThatKeepSizesAreSmall}
use Rattle.code_correct.specs.Small.{GeneratedCodeIsFaithful}
use Rattle.built_image_law.proofs.SmallLemmas.{small}

pub is_faithful : ProgramsThatKeepSizesAreSmall → CheckedCodeIsFaithful → GeneratedCodeIsFaithful
is_faithful small faithful g m c checked keeps holds at = faithful g m c (small g checked keeps) holds at
