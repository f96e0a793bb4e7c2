use Rattle.std.proofs.Common.{◌≡◌, ◌∙◌, List, length, ap, arith, sym}
use Rattle.std.proofs.lemmas.List.{length-map}
use Rattle.base.proofs.Lists.{one_longer, one_more}
use Rattle.image.specs.declared.raw.RawProcess.{RawProcess}
use Rattle.image.specs.Raw.{image_of, process_of}
use Rattle.valid_image.specs.Tasks.{process_at}
use Rattle.analysis_command.proofs.Places.{rank_next}
use Rattle.analysis_command.proofs.graph.ranked.Goals as goal

pub loop-level-preserved : goal.loop-level-preserved
loop-level-preserved c =
    let old = c.loop-level.invariant in
    let n = c.loop-level.level in
    let process = c.with_rank-process.result in
    let last : process ≡ process_at (image_of c.args.image.now) n = rank_next c.args.image.now c.as_slice-processes.result.now n process c.as_slice-processes.ensures c.with_rank-process.ensures in
    record {
      one_each = one_longer c.loop-level.all.items c.push.new.self.items process n old.one_each c.in_ok-push.ensures.items;
      each = one_more (λ k p. p ≡ process_at (image_of c.args.image.now) k) c.loop-level.all.items c.push.new.self.items process 0 n old.one_each c.in_ok-push.ensures.items old.each last;
    }

pub returns : goal.returns
returns c =
    let many : length (image_of c.args.image.now).processes ≡ length c.as_slice-processes.result.now = length-map c.args.image.now.processes process_of ∙ ap (λ (ps : List RawProcess). length ps) (sym c.as_slice-processes.ensures) in
    let end : c.loop-level.level ≡ length c.as_slice-processes.result.now = omega arith in
    record {
      one_each = omega (arith, c.loop-level.invariant.one_each, end, many);
      each = λ k low. c.loop-level.invariant.each k (omega (arith, low, end, many));
    }
