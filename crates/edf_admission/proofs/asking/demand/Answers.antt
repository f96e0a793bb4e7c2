use Rattle.std.proofs.Common.{◌≡◌, ◌∙◌, Some, refl, sym, ap}
use Rattle.image_bytes.specs.Standing.{process_in}
use Rattle.machine_semantics.specs.Image.{Process}
use Rattle.edf_admission.proofs.asking.demand.Goals as goal

pub returns : goal.returns
returns c =
    let h = c.with_rank-number.ensures in
    let p : Process = process_in c.process-process.result in
    let at = c.process-process.ensures in
    let same : h.p ≡ p = (let e : Some h.p ≡ Some p = sym h.at ∙ at in cc) in
    record {
      k = c.with_rank-number.result;
      has = record { p = p; at = at; is = sym (ap (λ (x : Process). x.rank) same) ∙ h.is };
      frame = refl;
      deadline = refl;
      cost = refl;
      block = c.block_of_last-block.ensures p at;
    }
