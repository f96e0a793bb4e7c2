use Rattle.std.proofs.Common.{◌≡◌, ◌<◌, ◌+◌, ◌-◌, ℕ, List, Some, None, Option, arith, ap, sym, ◌∙◌, length}
use Rattle.std.specs.Prelude.{slice_get}
use Rattle.std.proofs.lemmas.Option.{slice_get-get_or, slice_get_within}
use Rattle.machine_semantics.specs.State.{State}
use Rattle.machine_semantics.specs.Starts.{Started, time_outs}
use Rattle.vm_state.specs.Board.{state_of}
use Rattle.vm_stretch.proofs.Leading.{left_room, left_step}
use Rattle.vm_releases.specs.Begin.{expiry_at}
use Rattle.vm_releases.proofs.Expiring.{alone_more, rank_left, rank_skips}
use Rattle.vm_releases.proofs.clock.do_time_outs.Goals as goal

pub expire-requires : goal.expire-requires
expire-requires g c =
    let n = length g.image.processes in
    let i = c.loop-next.next-index in
    let ranks = c.args.order.now.by_rank.items in
    let count : length c.deref-next-items.result.now ≡ n = ap length c.deref-next-items.ensures.value ∙ c.requires.1.0.count in
    let below : i < n = omega (arith, count) in
    let at : slice_get ranks i ≡ Some (Some c.from.result) =
    ap (λ (xs : List (Option ℕ)). slice_get xs i) (sym c.deref-next-items.ensures.value) ∙ slice_get-get_or c.deref-next-items.result.now i None (omega arith) ∙ ap (λ (o : Option ℕ). Some o) (c.in-Some.is ∙ ap (λ (k : ℕ). Some k) (sym c.from.ensures)) in
    let go : State → Started = time_outs g.image c.args.tick 1 n in
    let step : State → Started = expiry_at g.image c.args.tick c.from.result in
    let rest : State → Started = time_outs g.image c.args.tick (i + 1 + 1) (n - (i + 1)) in
    let left = rank_left g.image c.args.tick i n ranks c.from.result go (state_of c.args.board.now) (state_of c.loop-next.board) c.args.fired.now.items c.loop-next.fired.items c.requires.1.0.ranks at below c.loop-next.invariant.left in
    let p = c.requires.1.0.ranks.rank i c.from.result at in
    let place : c.from.result < n = slice_get_within g.image.processes c.from.result p.0 p.1 in
    let few = left_room go step rest (state_of c.args.board.now) (state_of c.loop-next.board) c.args.fired.now.items c.loop-next.fired.items 64 left c.requires.1.1.1.1.1.1.1 in
    (c.requires.0, (c.loop-next.invariant.board, (place, (c.loop-next.invariant.alone.count ∙ c.requires.1.1.1.0, (c.loop-next.invariant.queues, (c.loop-next.invariant.waits, omega (arith, few)))))))

pub loop-next-preserved : goal.loop-next-preserved
loop-next-preserved g c =
    let n = length g.image.processes in
    let i = c.loop-next.next-index in
    let ranks = c.args.order.now.by_rank.items in
    let count : length c.deref-next-items.result.now ≡ n = ap length c.deref-next-items.ensures.value ∙ c.requires.1.0.count in
    let below : i < n = omega (arith, count) in
    let at : slice_get ranks i ≡ Some (Some c.from.result) =
    ap (λ (xs : List (Option ℕ)). slice_get xs i) (sym c.deref-next-items.ensures.value) ∙ slice_get-get_or c.deref-next-items.result.now i None (omega arith) ∙ ap (λ (o : Option ℕ). Some o) (c.in-Some.is ∙ ap (λ (k : ℕ). Some k) (sym c.from.ensures)) in
    let go : State → Started = time_outs g.image c.args.tick 1 n in
    let step : State → Started = expiry_at g.image c.args.tick c.from.result in
    let rest : State → Started = time_outs g.image c.args.tick (i + 1 + 1) (n - (i + 1)) in
    let left = rank_left g.image c.args.tick i n ranks c.from.result go (state_of c.args.board.now) (state_of c.loop-next.board) c.args.fired.now.items c.loop-next.fired.items c.requires.1.0.ranks at below c.loop-next.invariant.left in
    let p = c.requires.1.0.ranks.rank i c.from.result at in
    let place : c.from.result < n = slice_get_within g.image.processes c.from.result p.0 p.1 in
    record {
      board = c.expire.ensures.board;
      queues = c.expire.ensures.queues;
      waits = c.expire.ensures.waits;
      alone = alone_more n c.from.result c.args.slots.now c.loop-next.slots c.expire.new.slots place c.loop-next.invariant.alone c.expire.ensures.others c.expire.ensures.count;
      left = left_step go step rest (state_of c.args.board.now) (state_of c.loop-next.board) (state_of c.expire.new.board) c.args.fired.now.items c.loop-next.fired.items c.expire.new.fired.items left c.expire.ensures.started;
    }

pub loop-next-preserved-in_default : goal.loop-next-preserved-in_default
loop-next-preserved-in_default g c =
    let n = length g.image.processes in
    let i = c.loop-next.next-index in
    let ranks = c.args.order.now.by_rank.items in
    let count : length c.deref-next-items.result.now ≡ n = ap length c.deref-next-items.ensures.value ∙ c.requires.1.0.count in
    let below : i < n = omega (arith, count) in
    let at : slice_get ranks i ≡ Some (None) =
    ap (λ (xs : List (Option ℕ)). slice_get xs i) (sym c.deref-next-items.ensures.value) ∙ slice_get-get_or c.deref-next-items.result.now i None (omega arith) ∙ ap (λ (o : Option ℕ). Some o) c.in_default.is in
    record {
      board = c.loop-next.invariant.board;
      queues = c.loop-next.invariant.queues;
      waits = c.loop-next.invariant.waits;
      alone = c.loop-next.invariant.alone;
      left = rank_skips g.image c.args.tick i n ranks (time_outs g.image c.args.tick 1 n) (state_of c.args.board.now) (state_of c.loop-next.board) c.args.fired.now.items c.loop-next.fired.items c.requires.1.0.ranks at below c.loop-next.invariant.left;
    }
