-- The search of one step, for the bases of monitors.
use Rattle.std.proofs.Common.{◌≡◌, ◌≤◌, ◌<◌, ◌+◌, ◌-◌, ℕ, suc, List, length, Option, Some, None, arith, refl, ap, sym, ◌∙◌, map, slice_index_or}
use Rattle.std.specs.Prelude.{slice_get}
use Rattle.std.proofs.lemmas.List.{length-map}
use Rattle.std.proofs.lemmas.Option.{slice_get-get_or}
use Rattle.base.proofs.Lists.{map_get}
use Rattle.image.specs.declared.raw.RawMonitor.{RawMonitor}
use Rattle.image.specs.Raw.{monitor_of}
use Rattle.machine_semantics.specs.Image.{Monitor}
use Rattle.valid_image.specs.Fault.{Fault, first_of, of_some}
use Rattle.valid_image.specs.Sizes.{other, end_of_words, due_base, base_fault}
use Rattle.loader_code.proofs.Searching.{none_here, one_here, none_left, of_element, passes, fails}

abbrev pub test_at : List RawMonitor → ℕ → Option Fault
test_at ms m = of_some (λ x. other x.base (due_base (map monitor_of ms) m)) (slice_get (map monitor_of ms) m)

abbrev pub nothing : RawMonitor
nothing = record { base = 0; words = 0; ceiling = 0 }

-- before monitor m: its base is due, and the answer is that of the search from there
pub record Before (ms : List RawMonitor) (due m : ℕ) : Type 0 where
  pub is_due : due ≡ due_base (map monitor_of ms) m
  pub rest : first_of (test_at ms) (length ms - m) m ≡ base_fault (map monitor_of ms)

pub at_first : (ms : List RawMonitor) → Before ms 0 0
at_first ms = record { is_due = refl; rest = (let e : length ms - 0 ≡ length (map monitor_of ms) = omega (arith, length-map ms monitor_of) in ap (λ n. first_of (test_at ms) n 0) e) }

here : (ms : List RawMonitor) (m : ℕ) → m < length ms → slice_get (map monitor_of ms) m ≡ Some (monitor_of (slice_index_or ms m nothing))
here ms m below = map_get monitor_of ms m (slice_index_or ms m nothing) (slice_get-get_or ms m nothing below)

pub on : (ms : List RawMonitor) (due m : ℕ) → Before ms due m → m < length ms → (slice_index_or ms m nothing).base ≡ due → Before ms ((slice_index_or ms m nothing).base + (slice_index_or ms m nothing).words) (m + 1)
on ms due m before below same =
    let x = slice_index_or ms m nothing in
    let none : test_at ms m ≡ None = of_element (λ (y : Monitor). other y.base (due_base (map monitor_of ms) m)) _ (monitor_of x) (here ms m below) ∙ passes x.base (due_base (map monitor_of ms) m) _ _ (same ∙ before.is_due) in
    let step = none_here (test_at ms) (length ms - m) m (omega (arith, below)) none in
    let fewer : length ms - (m + 1) ≡ length ms - m - 1 = omega arith in
    let next : due_base (map monitor_of ms) (m + 1) ≡ end_of_words (slice_get (map monitor_of ms) m) = (let e : m + 1 ≡ suc m = omega arith in ap (λ k. due_base (map monitor_of ms) k) e) in
    record {
      is_due = sym (next ∙ ap (λ o. end_of_words o) (here ms m below));
      rest = ap (λ n. first_of (test_at ms) n (m + 1)) fewer ∙ (sym step ∙ before.rest);
    }

pub stops : (ms : List RawMonitor) (due m : ℕ) → Before ms due m → m < length ms → ((slice_index_or ms m nothing).base ≡ due → ⊥) → Some (record { a = (slice_index_or ms m nothing).base; b = due }) ≡ base_fault (map monitor_of ms)
stops ms due m before below other_base =
    let x = slice_index_or ms m nothing in
    let one : test_at ms m ≡ Some (record { a = x.base; b = due_base (map monitor_of ms) m }) =
    of_element (λ (y : Monitor). other y.base (due_base (map monitor_of ms) m)) _ (monitor_of x) (here ms m below) ∙ fails x.base (due_base (map monitor_of ms) m) _ _ (λ same. other_base (same ∙ sym before.is_due)) in
    ap (λ d. Some (record { a = x.base; b = d })) before.is_due ∙ (sym (one_here (test_at ms) (length ms - m) m _ (omega (arith, below)) one) ∙ before.rest)

pub at_last : (ms : List RawMonitor) (due m : ℕ) → Before ms due m → length ms ≤ m → None ≡ base_fault (map monitor_of ms)
at_last ms due m before past = sym (none_left (test_at ms) (length ms - m) m (omega (arith, past))) ∙ before.rest
