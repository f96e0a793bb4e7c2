-- The image of the example is that of its program.
use Rattle.std.proofs.Common.{◌≡◌, ℕ, zero, suc, Some, refl, ap, sym}
use Rattle.std.specs.Prelude.{slice_get, unwrap_or}
use Rattle.base.proofs.Lists.{one_some}
use Rattle.source_semantics.specs.Ranks.{reached, rank, ceiling}
use Rattle.machine_semantics.specs.Image.{Process, Monitor}
use Rattle.code_spec.specs.Numbering.{numbered, visit, number_of}
use Rattle.code_spec.specs.Compiled.{IsCodeOf}
use Rattle.code_lifting.specs.Example.{meeting, MeetingIsImage}

code_is : (over : ℕ) → IsCodeOf (meeting over).program (meeting over).image
unfolding numbered visit number_of
code_is over = record {
  between = 9;
  routine_code = (
    5,
    record { kind = refl; owner = refl; params = refl; locals = refl; gives = refl; tree = refl },
    refl,
    record { inside = 1; enters = record { has = (refl, tt); end = refl }; behind = 3; body = (3, record { has = (refl, (refl, tt)); end = refl }, refl); rest = record { has = (refl, (refl, tt)); end = refl } },
    (
      9,
      record { kind = refl; owner = refl; params = refl; locals = refl; gives = refl; tree = refl },
      refl,
      record { inside = 6; enters = record { has = (refl, tt); end = refl }; behind = 7; body = (7, record { has = (refl, tt); end = refl }, refl); rest = record { has = (refl, (refl, tt)); end = refl } },
      refl,
    ),
  );
  process_code = (
    14,
    record {
      behind = 10;
      body = (10, record { has = (refl, tt); end = refl }, refl);
      end = refl;
      handler = (13, (13, record { has = (refl, (refl, tt)); end = refl }, refl), record { has = (refl, tt); end = refl }, refl, refl, refl);
      start = refl;
      locals = refl;
      words = refl;
      tree = refl;
      frame = refl;
      deadline = refl;
      released = (refl, refl, refl);
    },
    (
      16,
      record {
        behind = 15;
        body = (15, record { has = (refl, tt); end = refl }, refl);
        end = refl;
        handler = (refl, refl, refl, refl);
        start = refl;
        locals = refl;
        words = refl;
        tree = refl;
        frame = refl;
        deadline = refl;
        released = (refl, refl, refl);
      },
      refl,
    ),
  );
  monitor_words = (refl, refl, tt);
  condition_table = refl;
  device_table = refl;
}

ranks_are : (over k : ℕ) (p : Process) → slice_get (meeting over).image.processes k ≡ Some p → p.rank ≡ rank (meeting over).program k
ranks_are over zero p at = ap (λ (x : Process). x.rank) (sym (one_some refl at))
ranks_are over (suc zero) p at = ap (λ (x : Process). x.rank) (sym (one_some refl at))
ranks_are over (suc (suc k)) p at = absurd cc

ceilings_are : (over m : ℕ) (monitor : Monitor) → slice_get (meeting over).image.monitors m ≡ Some monitor → monitor.ceiling ≡ unwrap_or (ceiling (meeting over).program m) 65535
unfolding reached
ceilings_are over zero monitor at = ap (λ (x : Monitor). x.ceiling) (sym (one_some refl at))
ceilings_are over (suc m) monitor at = absurd cc

pub meeting_is_image : MeetingIsImage
meeting_is_image over = record { code = code_is over; ranks = ranks_are over; ceilings = ceilings_are over }
