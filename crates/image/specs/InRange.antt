-- Images whose counts fit their fields. All other numbers fit by their types.
use Rattle.std.specs.Prelude.{◌≡◌, ◌<◌, ◌^◌, ℕ, List, Option, Some, None, All, length}
use Rattle.machine_semantics.specs.Image.{Image, Process}
use Rattle.machine_semantics.specs.Trees.{Segs}
use Rattle.image.specs.declared.names.ImageNames.{ImageNames}
use Rattle.image.specs.Named.{NamedImage}
use Rattle.image_format.specs.TreeBytes.{segments}

-- the length of a name fits one byte
abbrev pub IsShort : List ℕ → Type 0
IsShort name = length name < 2 ^ 8

-- the number of a tree's segments fits four bytes
abbrev pub IsSmall : Segs → Type 0
IsSmall tree = segments tree < 2 ^ 32

abbrev pub IsSmallHandler : Option Segs → Type 0
IsSmallHandler None = Unit {0}
IsSmallHandler (Some tree) = IsSmall tree

pub record IsProcessInRange (p : Process) : Type 0 where
  pub numbers : length p.numbers < 2 ^ 16
  pub body : IsSmall p.body
  pub handler_tree : IsSmallHandler p.handler_tree

-- each process and each monitor has a name, and names are short
pub record AreNamed (names : ImageNames) (image : Image) : Type 0 where
  pub each_process : length names.processes ≡ length image.processes
  pub each_monitor : length names.monitors ≡ length image.monitors
  pub processes : All IsShort names.processes
  pub monitors : All IsShort names.monitors
  pub conditions : All (λ c. IsShort c.name) names.conditions
  pub devices : All (λ d. IsShort d.name) names.devices
  pub events : All (λ e. IsShort e.name) names.events

-- the counts of the head
pub record AreCounted (names : ImageNames) (image : Image) : Type 0 where
  pub processes : length image.processes < 2 ^ 16
  pub monitors : length image.monitors < 2 ^ 16
  pub conditions : length names.conditions < 2 ^ 16
  pub devices : length names.devices < 2 ^ 16
  pub events : length names.events < 2 ^ 16
  pub routines : length image.routines < 2 ^ 16
  pub code : length image.code < 2 ^ 32

pub record IsInRange (named : NamedImage) : Type 0 where
  pub program : IsShort named.program
  pub names : AreNamed named.names named.image
  pub counts : AreCounted named.names named.image
  pub routines : All (λ r. IsSmall r.tree) named.image.routines
  pub processes : All IsProcessInRange named.image.processes
