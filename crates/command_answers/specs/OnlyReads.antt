-- Files that are only read.
use Rattle.std.specs.Prelude.{◌≡◌}
use Rattle.outside.specs.Outside.{FilesState, AllStay, NoneFell}

-- files are only read: none has changed, no count of faults fell, nothing was written
pub record OnlyReads (before now : FilesState) : Type 0 where
  pub files : AllStay before.held now.held
  pub read_counts : NoneFell before.read_faults now.read_faults
  pub write_counts : NoneFell before.write_faults now.write_faults
  pub writes : now.writes ≡ before.writes
