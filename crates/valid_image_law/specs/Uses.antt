-- What each process of an image uses, as `sched_response` takes it.
use Rattle.std.specs.Prelude.{[], ◌∷◌, ◌≡◌, ◌≤◌, ◌<◌, ℕ, List, length, Option, Some, None, slice_get, slice_index, slice_index_or}
use Rattle.sched_response.specs.declared.uses.Use.{Use}
use Rattle.sched_response.specs.Ranked as defined
use Rattle.machine_semantics.specs.Image.{Image, Process, Monitor}
use Rattle.machine_safety.specs.ValidImages.{meeting}
use Rattle.valid_image.specs.Tables.{stay_of_process}
use Rattle.valid_image.specs.Times.{deadline_at, rank_of, ceiling_of, needed_block}

-- a stay of the use is in monitor m and takes so many ticks
pub record IsStay (u : Use) (m ticks : ℕ) : Type 0 where
  pub index : ℕ
  pub within : index < length u.stays
  pub monitor : (defined.stay_at u.stays index).mon ≡ m
  pub takes : (defined.stay_at u.stays index).ticks ≡ ticks

-- the use tells the longest stay in each monitor that is entered, none longer, and none in another
pub record TellsStays (u : Use) (stay : ℕ → Option ℕ) : Type 0 where
  pub longest : (m n : ℕ) → stay m ≡ Some n → IsStay u m n
  pub no_longer : (m n ticks : ℕ) → stay m ≡ Some n → IsStay u m ticks → ticks ≤ n
  pub entered : (m ticks : ℕ) → stay m ≡ None → IsStay u m ticks → ⊥

-- one use for each process
pub record AreUses (image : Image) (us : List Use) : Type 0 where
  pub many : length us ≡ length image.processes
  pub few : length us ≤ 64
  pub deadlines : (k : ℕ) → k < length us → (defined.use_at us k).deadline ≡ deadline_at image k
  pub stays : (k : ℕ) → k < length us → TellsStays (defined.use_at us k) (stay_of_process image k)
  pub within : (k m ticks : ℕ) → k < length us → IsStay (defined.use_at us k) m ticks → m < length image.monitors

-- a ceiling as an image shows it
abbrev pub shown : Option ℕ → ℕ
shown None = 65535
shown (Some rank) = rank

-- the declared ranks and ceilings are these
pub record AreDeclared (image : Image) (ranks : List ℕ) (ceilings : List (Option ℕ)) : Type 0 where
  pub ranks_are : (k : ℕ) (p : Process) → slice_get image.processes k ≡ Some p → p.rank ≡ slice_index ranks k
  pub ceilings_are : (m : ℕ) (x : Monitor) → slice_get image.monitors m ≡ Some x → x.ceiling ≡ shown (slice_index_or ceilings m None)

-- The law: ranks by the uses are the ranks of the image, ceilings over such ranks are its ceilings,
-- and the blocking of a rank is the needed block, where ranks and ceilings are the declared ones.
pub record Agrees (image : Image) (us : List Use) : Type 0 where
  pub ranks : (all : List ℕ) → defined.AreRanks us all
      → (k : ℕ) → k < length us → slice_index all k ≡ rank_of image k
  pub ceilings : (all : List ℕ) (m : ℕ) (c : Option ℕ) → defined.AreRanks us all
      → defined.IsCeilingAmong (length us) us all m c → shown c ≡ ceiling_of image m
  pub blocks : (all : List ℕ) (cs : List (Option ℕ)) (rank b : ℕ) → AreDeclared image all cs
      → rank ≤ 64 → defined.IsBlocking us all cs rank b → b ≡ needed_block image rank

abbrev pub UsesAgree : Type 0
UsesAgree = (image : Image) (us : List Use) → AreUses image us → Agrees image us

-- ---- an image with a monitor, a wait and a signal

-- the process that waits stays 13 ticks in the monitor, the one that signals 8
abbrev pub meeting_uses : List Use
meeting_uses =
    record { frame = 200; deadline = 200; cost = record { run = 43; susp = 30; waits = 1 }; stays = record { mon = 0; ticks = 13 } ∷ [] }
    ∷ record { frame = 300; deadline = 300; cost = record { run = 27; susp = 0; waits = 0 }; stays = record { mon = 0; ticks = 8 } ∷ [] } ∷ []

abbrev pub MeetingIsUsed : Type 0
MeetingIsUsed = AreUses meeting meeting_uses
