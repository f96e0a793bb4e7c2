-- A wait takes ten ticks, with its REENT: so an image that fits its trees fits them with no more waits than a tenth of the ticks.
use Rattle.std.proofs.Common.{◌≤◌, ◌+◌, ◌*◌, ℕ, zero, suc, Option, Some, None, arith}
use Rattle.std.specs.Prelude.{min, ◌/◌}
use Rattle.machine_semantics.specs.Trees.{Seg, Segs, Line, Fork, Rep, Call, Stay, Wait, Exit, Nil, Cons}
use Rattle.machine_semantics.specs.Image.{Process, Routine}
use Rattle.machine_semantics.specs.Walk.{Where, WalkCost, Covers, Reaches, IsLine, Walk, Walks, within}
use Rattle.machine_semantics.specs.Job.{RoutineFits}
use Rattle.machine_semantics.specs.Safe.{Parts, HandlerFits, ProcessFits, ImageFits}
use Rattle.machine_safety.proofs.Working.{times_le}

-- as many waits, but no more than a tenth of the ticks
abbrev pub thrifty : (waits run : ℕ) → ℕ
thrifty waits run = min waits (run / 10)

abbrev pub thrift : WalkCost → WalkCost
thrift c = record { run = c.run; susp = c.susp; waits = thrifty c.waits c.run; leave = c.leave }

thrifty_le : (w r : ℕ) → thrifty w r ≤ w
thrifty_le w r = omega arith

thrifty_tenth : (w r : ℕ) → 10 * thrifty w r ≤ r
thrifty_tenth w r = omega arith

thrifty_most : (x w r : ℕ) → x ≤ w → 10 * x ≤ r → x ≤ thrifty w r
thrifty_most x w r le tenth = omega (arith, le, tenth)

-- a cost that covers so much covers it with fewer waits
fewer : (c : WalkCost) (r s w l v : ℕ) → Covers c r s w l → v ≤ w → 10 * v ≤ r → Covers (thrift c) r s v l
fewer c r s w l v covers le tenth =
    record { run = covers.run; susp = covers.susp; waits = thrifty_most v c.waits c.run (omega (arith, covers.waits, le)) (omega (arith, covers.run, tenth)); leave = covers.leave }

abbrev pub thrift_in : Where → Where
thrift_in e = record e { costs = λ r. thrift (e.costs r) }

reaches : (e : Where) (m : ℕ) → Reaches e m → Reaches (thrift_in e) m
reaches e m r = record { monitor = r.monitor; there = r.there; low = r.low }

line : (e : Where) (base n at next h k : ℕ) (c : WalkCost) → IsLine e base n at next h k c → IsLine (thrift_in e) base n at next h k (thrift c)
line e base zero at next h k c l = l
line e base (suc n) at next h k c l = record {
  instr = l.instr;
  here = l.here;
  plain = l.plain;
  kept = l.kept;
  taken = l.taken;
  room = l.room;
  later = thrift l.later;
  more = line e base n (at + 1) next _ k l.later l.more;
  covers = fewer c _ _ l.later.waits _ (thrifty l.later.waits l.later.run) l.covers (thrifty_le l.later.waits l.later.run) (omega (arith, thrifty_tenth l.later.waits l.later.run));
}

mutual
  walk : (e : Where) (out held : Option ℕ) (base : ℕ) (seg : Seg) (at next h k : ℕ) (c : WalkCost) → Walk e out held base seg at next h k c → Walk (thrift_in e) out held base seg at next h k (thrift c)
  walk e out held base (Line zero) at next h k c w = w
  walk e out held base (Line (suc n)) at next h k c w = (w.0, line e base (suc n) at next h k c w.1)
  walk e out held base (Fork first second) at next h k c w = record {
    jump = w.jump;
    below = w.below;
    tests = w.tests;
    taken = w.taken;
    first_cost = thrift w.first_cost;
    first_arm = walks e out held base first (at + 1) w.jump w.below k w.first_cost w.first_arm;
    jumps = w.jumps;
    second_cost = thrift w.second_cost;
    second_arm = walks e out held base second (w.jump + 1) next w.below k w.second_cost w.second_arm;
    covers_first = fewer c _ _ w.first_cost.waits _ (thrifty w.first_cost.waits w.first_cost.run) w.covers_first (thrifty_le w.first_cost.waits w.first_cost.run) (omega (arith, thrifty_tenth w.first_cost.waits w.first_cost.run));
    covers_second = fewer c _ _ w.second_cost.waits _ (thrifty w.second_cost.waits w.second_cost.run) w.covers_second (thrifty_le w.second_cost.waits w.second_cost.run) (omega (arith, thrifty_tenth w.second_cost.waits w.second_cost.run));
  }
  walk e out held base (Rep zero body) at next h k c w = w
  walk e out held base (Rep (suc n) body) at next h k c w = record {
    counts = w.counts;
    last = w.last;
    turn = thrift w.turn;
    loop = walks e (Some (w.last + 1)) held (suc (h + base)) body (at + 1) w.last 0 0 w.turn w.loop;
    repeats = w.repeats;
    next_is = w.next_is;
    kept = w.kept;
    room = w.room;
    covers = fewer c _ _ (suc n * w.turn.waits) _ (suc n * thrifty w.turn.waits w.turn.run) w.covers (times_le (suc n) (thrifty w.turn.waits w.turn.run) w.turn.waits (thrifty_le w.turn.waits w.turn.run))
        (tenth (suc n) (thrifty w.turn.waits w.turn.run) w.turn.run (thrifty_tenth w.turn.waits w.turn.run));
  } where
    tenth : (a x r : ℕ) → 10 * x ≤ r → 10 * (a * x) ≤ 2 + a * (r + 3)
    tenth a x r le = let more : a * (10 * x) ≤ a * r = times_le a (10 * x) r le in omega (arith, more)
  walk e out held base (Call r) at next h k c w = record {
    here = w.here;
    routine = w.routine;
    there = w.there;
    below = w.below;
    taken = w.taken;
    given = w.given;
    locals = w.locals;
    params = w.params;
    inside = w.inside;
    may = w.may;
    owned = w.owned;
    limit = w.limit;
    stays = w.stays;
    room = w.room;
    room_after = w.room_after;
    next_is = w.next_is;
    covers = fewer c _ _ (e.costs r).waits _ (thrifty (e.costs r).waits (e.costs r).run) w.covers (thrifty_le (e.costs r).waits (e.costs r).run) (omega (arith, thrifty_tenth (e.costs r).waits (e.costs r).run));
  }
  walk e out held base (Stay m body) at next h k c w = record {
    no_loop = w.no_loop;
    outside = w.outside;
    entry = w.entry;
    level = w.level;
    reach = reaches e m w.reach;
    enters = w.enters;
    last = w.last;
    inner = thrift w.inner;
    stays = walks e out (Some m) base body (at + 1) w.last h k w.inner w.stays;
    leaves = w.leaves;
    short = w.short;
    next_is = w.next_is;
    covers = fewer c _ _ w.inner.waits _ (thrifty w.inner.waits w.inner.run) w.covers (thrifty_le w.inner.waits w.inner.run) (omega (arith, thrifty_tenth w.inner.waits w.inner.run));
  }
  walk e out held base Wait at next h k c w = record {
    monitor = w.monitor;
    entry = w.entry;
    inside = w.inside;
    reach = reaches e w.monitor w.reach;
    condition = w.condition;
    limit = w.limit;
    number = w.number;
    waits = w.waits;
    of = w.of;
    enters = w.enters;
    next_is = w.next_is;
    kept = w.kept;
    covers = fewer c 10 w.limit 1 10 1 w.covers (omega arith) (omega arith);
  }
  walk e out held base Exit at next h k c w = record {
    to = w.to;
    in_loop = w.in_loop;
    exits = w.exits;
    taken = w.taken;
    kept = w.kept;
    next_is = w.next_is;
    covers = fewer c 3 0 0 3 0 w.covers (omega arith) (omega arith);
  }

  walks : (e : Where) (out held : Option ℕ) (base : ℕ) (segs : Segs) (at next h k : ℕ) (c : WalkCost) → Walks e out held base segs at next h k c → Walks (thrift_in e) out held base segs at next h k (thrift c)
  walks e out held base Nil at next h k c w = w
  walks e out held base (Cons head rest) at next h k c w = record {
    mid = w.mid;
    between = w.between;
    first = thrift w.first;
    later = thrift w.later;
    here = walk e out held base head at w.mid h w.between w.first w.here;
    more = walks e out held base rest w.mid next w.between k w.later w.more;
    covers = fewer c _ _ (w.first.waits + w.later.waits) _ (thrifty w.first.waits w.first.run + thrifty w.later.waits w.later.run) w.covers
        (omega (arith, thrifty_le w.first.waits w.first.run, thrifty_le w.later.waits w.later.run))
        (omega (arith, thrifty_tenth w.first.waits w.first.run, thrifty_tenth w.later.waits w.later.run));
  }

routine_fits : (e : Where) (r : ℕ) (routine : Routine) → RoutineFits e r routine → RoutineFits (thrift_in e) r routine
routine_fits e r routine f = record {
  locals = f.locals;
  last = f.last;
  inner = thrift f.inner;
  tree = walks (within e (e.parts r)) None None 0 routine.tree routine.start f.last 0 (e.parts r).results f.inner f.tree;
  ends = f.ends;
  returns = f.returns;
  entry = f.entry;
  covers = fewer (e.costs r) _ _ f.inner.waits _ (thrifty f.inner.waits f.inner.run) f.covers (thrifty_le f.inner.waits f.inner.run) (omega (arith, thrifty_tenth f.inner.waits f.inner.run));
}

abbrev pub thrift_parts : (ℕ → Parts) → ℕ → Parts
thrift_parts ps k = record { body = (ps k).body; handler = (ps k).handler; body_cost = thrift (ps k).body_cost; handler_cost = thrift (ps k).handler_cost }

handler_fits : (e : Where) (p : Process) (ps : ℕ → Parts) (k : ℕ) (tree : Segs) → HandlerFits e p (ps k) tree → HandlerFits (thrift_in e) p (thrift_parts ps k) tree
handler_fits e p ps k tree f = record { code = walks (within e (ps k).handler) None None 0 tree p.handler _ 0 0 (ps k).handler_cost f.code; ends = f.ends }

process_fits : (e : Where) (p : Process) (ps : ℕ → Parts) (k : ℕ) → ProcessFits e p (ps k) → ProcessFits (thrift_in e) p (thrift_parts ps k)
process_fits e p ps k f = record {
  body = f.body;
  code = walks (within e (ps k).body) None None 0 p.body p.start _ 0 0 (ps k).body_cost f.code;
  ends = f.ends;
  handler = f.handler;
  handles = λ number listed. ((f.handles number listed).0, handler_fits e p ps k (f.handles number listed).0 (f.handles number listed).1);
  no_susp = f.no_susp;
  no_waits = omega (arith, f.no_waits, thrifty_le (ps k).handler_cost.waits (ps k).handler_cost.run);
}

pub image_fits_thriftily : (e : Where) (ps : ℕ → Parts) → ImageFits e ps → ImageFits (thrift_in e) (thrift_parts ps)
image_fits_thriftily e ps f = record {
  routines = λ r routine at. routine_fits e r routine (f.routines r routine at);
  bases = f.bases;
  processes = λ k p at. process_fits e p ps k (f.processes k p at);
}

-- what is thrifty takes ten times as many ticks as waits
pub tenth : (c : WalkCost) → 10 * (thrift c).waits ≤ (thrift c).run
tenth c = thrifty_tenth c.waits c.run

pub no_more : (c : WalkCost) → (thrift c).waits ≤ c.waits
no_more c = thrifty_le c.waits c.run
