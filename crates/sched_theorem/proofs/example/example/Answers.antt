use Rattle.std.proofs.Common.{arith, refl}
use Rattle.sched_response.specs.Demand.{demand_at}
use Rattle.sched_theorem.proofs.Meeting.{two, placed, solves}
use Rattle.sched_theorem.proofs.example.example.Goals as goal

pub returns-clause-bounds : goal.returns-clause-bounds
unfolding demand_at
returns-clause-bounds c = two _ (solves _ _ _ refl) (solves _ _ _ refl)

pub returns-clause-run : goal.returns-clause-run
returns-clause-run c = placed _ _ _ _ _ (record { idle_first = refl; whole = refl; opens = refl; acts = refl; spaced = refl; picks = refl; keeps = refl; stays = refl })

pub returns-clause-shows : goal.returns-clause-shows
returns-clause-shows c = record {
  both = two _ (2, record { ceiling = 0; left = 1 }, refl) (4, record { ceiling = 0; left = 1 }, refl);
  blocks = record { tick = 13; lower = 0; higher = 1; ranked = omega arith; inside = (record { ceiling = 0; left = 1 }, refl); runs = refl; held_up = record { active = omega arith; free = refl } };
  waits = record { place = 0; begins = 6; ends = 11; runs = refl; first = refl; last = refl; goes_on = record { active = omega arith; free = refl } };
}

pub returns-clause-reached : goal.returns-clause-reached
returns-clause-reached c = two _ (record { release = 0; tick = 17; last = refl; released = refl; ends = record { active = omega arith; idle = refl } }) (record { release = 12; tick = 16; last = refl; released = refl; ends = record { active = omega arith; idle = refl } })
