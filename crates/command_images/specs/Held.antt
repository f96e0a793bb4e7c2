-- Images that files hold.
use Rattle.std.specs.Prelude.{◌≡◌, length}
use Rattle.image.specs.declared.raw.RawImage.{RawImage}

-- each monitor and each process has a name
pub record HasNames (raw : RawImage) : Type 0 where
  pub monitors : length raw.names.monitors ≡ length raw.monitors
  pub processes : length raw.names.processes ≡ length raw.processes
