-- The slot of one process is set.
use Rattle.std.proofs.Common.{◌≡◌, ◌+◌, ◌*◌, ℕ, Some, length, arith, ap, sym, subst, ◌∙◌, inl, inr}
use Rattle.std.specs.Prelude.{slice_get, slice_set}
use Rattle.std.proofs.lemmas.List.{length-set}
use Rattle.std.proofs.lemmas.Option.{slice_get_within}
use Rattle.base.proofs.Lists.{get_other, get_set, some_at}
use Rattle.vm_stretch.specs.StretchDue.{time_out_of}
use Rattle.vm_stretch.specs.StartLaws.{WaitKeepsSlots}
use Rattle.vm_stretch.proofs.Lists.{same_or_not}

pub wait_keeps_slots : WaitKeepsSlots
wait_keeps_slots image script t done k s s' slots has below others threads =
    let n = length image.processes in
    let due = time_out_of (slice_get s'.threads k) in
    record {
      count = length-set slots (n + k) due ∙ has.count;
      releases = λ j p tick at slot. (let within = slice_get_within image.processes j p at in has.releases j p tick at (sym (get_other slots (n + k) j due (λ same. absurd (omega (arith, same, within)))) ∙ slot));
      waits = λ j tick lt slot. elim (same_or_not k j) [
        | inl same ↦
            let old = some_at slots (n + k) (omega (arith, below, has.count)) in
            let mine : slice_get (slice_set slots (n + k) due) (n + k) ≡ Some tick = subst (λ (i : ℕ). slice_get (slice_set slots (n + k) due) (n + i) ≡ Some tick) (sym same) slot in
            let both : Some tick ≡ Some due = sym mine ∙ get_set slots (n + k) due old.0 old.1 in
            let is : tick ≡ due = cc in
            is ∙ ap (λ (i : ℕ). time_out_of (slice_get s'.threads i)) same
        | inr differ ↦
            has.waits j tick lt (sym (get_other slots (n + k) (n + j) due (λ same. differ (omega (arith, same)))) ∙ slot) ∙ sym (others j (λ same. differ (sym same)))
      ];
      line = get_other slots (n + k) (2 * n) due (λ same. absurd (omega (arith, same, below))) ∙ has.line;
      order = has.order;
      past = has.past;
      threads = threads;
    }
