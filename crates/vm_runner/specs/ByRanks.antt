-- The run by ranks.
use Rattle.machine_semantics.specs.Image.{Image, Script}
use Rattle.machine_semantics.specs.Run.{events_from, state_at}
use Rattle.machine_semantics.specs.Tick.{pick}
use Rattle.vm_stretch.specs.RowLaws.{begun}
use Rattle.vm_stretch.specs.Stretch.{place_of}
use Rattle.vm_runner.specs.Course.{Behaviour, Course, course}
use Rattle.vm_runner.specs.Dispatching.{Before, Begun, Between, InRow, Phase, Starting}
use Rattle.vm_runner.specs.Ranking.{IsRanking}
use Rattle.vm_runner.specs.declared.ranking.Ranking.{Ranking}

-- the meaning of an image under a script
abbrev pub ranks : Image → Script → Behaviour
ranks image script = record {
  state = λ t. state_at image script t;
  chosen = λ t. place_of (pick image (begun image script t).threads);
  events = λ n t. events_from image script n t (state_at image script t);
}

abbrev pub by_ranks : Image → Script → Course
by_ranks image script = course ranks image script

-- the ranking is kept from row to row, and unknown otherwise; in a row it is that of its start
abbrev pub Knows : Image → Script → Phase → Ranking → Type 0
Knows image script (Before t) r = Unit {0}
Knows image script (Starting t) r = Unit {0}
Knows image script (Begun t) r = Unit {0}
Knows image script (Between t) r = IsRanking image (state_at image script t).threads r
Knows image script (InRow t) r = IsRanking image (begun image script t).threads r
