-- Why a call ended before all that is due of it was done.
use Rattle.std.specs.Prelude.{◌≡◌, ℕ, List, Contains}
use Rattle.outside.specs.Outside.{Outside, Rose}
use Rattle.command_answers.specs.declared.status.Status.{Status}
use Rattle.command_answers.specs.declared.status.Status.TheVariants as status

-- The file whose read, or write, failed is one of those that may be read, or written, its count of
-- faults rose, and no put had failed; or the sink's count of faults rose.
abbrev pub HasCause : (sources targets : List (List ℕ)) → (before now : Outside) → Status → Type 0
HasCause sources targets before now (status.Unread name) =
    Contains sources name.now × Rose (before.files.read_faults name.now) (now.files.read_faults name.now)
HasCause sources targets before now (status.Unwritten name) =
    Contains targets name.now × Rose (before.files.write_faults name.now) (now.files.write_faults name.now) × (now.out.faults ≡ before.out.faults)
HasCause sources targets before now status.Unput = Rose before.out.faults now.out.faults
HasCause sources targets before now other = Unit {0}
