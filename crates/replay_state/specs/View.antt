-- The configuration of the source meaning that one in code stands for.
use Rattle.std.specs.Prelude.{List, map, option_map}
use Rattle.syntax_tree.specs.Placed.{placed_expr, placed_scalar, placed_stmts, plain_expr, plain_scalar, plain_stmts}
use Rattle.syntax_tree.specs.Plain.{Answers}
use Rattle.source_semantics.specs.Store as store
use Rattle.source_semantics.specs.Run as run
use Rattle.source_semantics.specs.Next as next
use Rattle.source_semantics.specs.Config as is
use Rattle.replay_state.specs.declared.variables.Subrange as code_range
use Rattle.replay_state.specs.declared.variables.SlotValue as code_held
use Rattle.replay_state.specs.declared.variables.SlotValue.TheVariants as held_is
use Rattle.replay_state.specs.declared.variables.Slot as code_slot
use Rattle.replay_state.specs.declared.call.CallOwner as code_home
use Rattle.replay_state.specs.declared.call.CallOwner.TheVariants as home_is
use Rattle.replay_state.specs.declared.call.Target as code_target
use Rattle.replay_state.specs.declared.call.ResultExpr as code_answering
use Rattle.replay_state.specs.declared.call.Item as code_item
use Rattle.replay_state.specs.declared.call.Item.TheVariants as item_is
use Rattle.replay_state.specs.declared.call.Call as code_call
use Rattle.replay_state.specs.declared.call.Action as code_action
use Rattle.replay_state.specs.declared.call.Action.TheVariants as action_is
use Rattle.replay_state.specs.declared.call.NextAction as code_next
use Rattle.replay_state.specs.declared.doing.Activity as code_doing
use Rattle.replay_state.specs.declared.doing.Activity.TheVariants as doing_is
use Rattle.replay_state.specs.declared.config.ProcessState as code_job
use Rattle.replay_state.specs.declared.config.MonitorState as code_hold
use Rattle.replay_state.specs.declared.config.Config as code_config

abbrev pub range_of : code_range.Subrange → store.Range
range_of r = record { low = r.low; high = r.high }

abbrev pub held_of : code_held.SlotValue → store.Held
held_of (held_is.One v) = store.one v
held_of (held_is.Many ws) = store.many ws.low ws.items.items

abbrev pub slot_of : code_slot.Slot → store.Slot
slot_of s = record { name = s.name.now; range = option_map range_of s.range; held = held_of s.held }

abbrev pub vars_of : List code_slot.Slot → store.Vars
vars_of ss = map slot_of ss

abbrev pub home_of : code_home.CallOwner → run.Home
home_of home_is.Program = run.of_program
home_of home_is.Process = run.of_process
home_of (home_is.Monitor m) = run.of_monitor m

abbrev pub target_of : code_target.Target → run.Target
target_of t = record { name = t.name.now; index = t.index }

abbrev pub answers_of : code_answering.ResultExpr → Answers
answers_of a = record { kind = plain_scalar (placed_scalar a.kind.now); value = plain_expr (placed_expr a.value.now) }

abbrev pub item_of : code_item.Item → run.Item
item_of (item_is.DoAll ss) = run.do_all (plain_stmts (placed_stmts ss.now))
item_of (item_is.TurnsLeft x t ss) = run.turns_left x.now t.value t.left (plain_stmts (placed_stmts ss.now))
item_of (item_is.Receive t) = run.receive (target_of t)
item_of (item_is.Store t v) = run.store (target_of t) v
item_of (item_is.EnterAgain m) = run.enter_again m
item_of (item_is.LeaveWith a m) = run.leave_with (option_map answers_of a) m
item_of (item_is.Give v) = run.give v

abbrev pub call_of : code_call.Call → run.Call
call_of c = record { home = home_of c.home; own = vars_of c.own.items; rest = map item_of c.rest.items }

abbrev pub calls_of : List code_call.Call → List run.Call
calls_of cs = map call_of cs

abbrev pub action_of : code_action.Action → run.Action
action_of (action_is.Gets d) = run.gets d
action_of (action_is.Puts d v) = run.puts d v
action_of (action_is.Enters m) = run.enters m
action_of (action_is.Leaves m) = run.leaves m
action_of (action_is.Waits x limit n) = run.waits x limit n
action_of (action_is.Signals x) = run.signals x
action_of (action_is.Broadcasts x) = run.broadcasts x
action_of (action_is.AsksEmpty x) = run.asks_empty x
action_of (action_is.Raises n) = run.raises n
action_of action_is.Ends = run.ends

abbrev pub next_of : code_next.NextAction → next.Next
next_of n = record { action = action_of n.action; calls = calls_of n.calls.items; process = vars_of n.process.items; monitor = vars_of n.monitor.items }

abbrev pub doing_of : code_doing.Activity → is.Doing
doing_of doing_is.Idle = is.idle
doing_of (doing_is.Active released) = is.active released
doing_of (doing_is.Waiting w) = is.waiting w.released w.condition w.since w.limit w.number

abbrev pub job_of : code_job.ProcessState → is.Job
job_of j = record { vars = vars_of j.vars.items; doing = doing_of j.doing; calls = calls_of j.calls.items; handling = j.handling }

abbrev pub hold_of : code_hold.MonitorState → is.Hold
hold_of h = record { vars = vars_of h.vars.items; occupant = h.occupant }

abbrev pub jobs_of : List code_job.ProcessState → List is.Job
jobs_of js = map job_of js

abbrev pub holds_of : List code_hold.MonitorState → List is.Hold
holds_of hs = map hold_of hs

abbrev pub config_of : code_config.Config → is.Config
config_of c = record {
  tick = c.tick;
  acted = c.acted;
  jobs = jobs_of c.jobs.items;
  holds = holds_of c.holds.items;
  queues = map (λ q. q.items) c.queues.items;
}
