-- The image of a program is compiled from it, where the code of each process is right.
use Rattle.std.proofs.Common.{◌≡◌, ◌≤◌, ◌+◌, ℕ, zero, suc, List, [], ◌∷◌, Option, Some, None, length, arith, refl, ap, sym, subst, ◌∙◌}
use Rattle.std.specs.Prelude.{slice_get}
use Rattle.std.proofs.lemmas.Option.{slice_get_within}
use Rattle.base.proofs.Lists.{some_at}
use Rattle.syntax_tree.specs.Plain.{Program, Trigger, periodic, at_event}
use Rattle.syntax_tree.specs.Plain as tree
use Rattle.source_semantics.specs.Names.{processes, monitors, frame_of}
use Rattle.source_semantics.specs.Config.{free_hold}
use Rattle.machine_isa.specs.declared.instr.Instr.{Instr}
use Rattle.machine_semantics.specs.Image.{Process, Monitor}
use Rattle.machine_semantics.specs.State.{zeros}
use Rattle.machine_semantics.specs.Run as target
use Rattle.code_spec.specs.Layout.{words_of, places_from, in_monitor, monitor_base, vars_of_monitor, monitor_places}
use Rattle.code_spec.specs.Layout as layout
use Rattle.code_spec.specs.Compiled.{IsReleased, EmitsProcess, EmitsProcesses}
use Rattle.code_spec.specs.Memory.{Holds, opens_of}
use Rattle.code_spec.specs.Boundary.{View, IsFaithful}
use Rattle.code_lifting.specs.Related.{Whole, Relations}
use Rattle.code_lifting.specs.Compiled.{IsTimed, IsProcessOf, IsCompiled}
use Rattle.machine_semantics.specs.Effect.{Own}
use Rattle.code_lifting.specs.Image.{FreeHolds, RestHolds, IsImageOf, compiled_of}
use Rattle.code_lifting.proofs.Words.{IsMonitor, monitor_at, same_length, from_base, get_zero, words_apart, reaches, vars_hold, vars_still, conditions_are}

-- ---- processes

-- both are there, with the code of the process between two addresses, or none is
abbrev Pair : Program → List Instr → ℕ → Option Process → Option tree.Process → Type 0
Pair g code k None None = Unit {0}
Pair g code k (Some p) (Some text) = (a : ℕ) × (b : ℕ) × EmitsProcess g code k text a b p
Pair g code k None (Some text) = ⊥
Pair g code k (Some p) None = ⊥

pairs : (g : Program) (code : List Instr) (k a b : ℕ) (xs : List tree.Process) (ps : List Process) → EmitsProcesses g code k a b xs ps → (i : ℕ) → Pair g code (k + i) (slice_get ps i) (slice_get xs i)
pairs g code k a b [] [] emits i = tt
pairs g code k a b [] (p ∷ ps) emits i = absurd emits
pairs g code k a b (x ∷ xs) [] emits i = absurd emits
pairs g code k a b (x ∷ xs) (p ∷ ps) emits zero = let z : k ≡ k + 0 = omega arith in (a, emits.0, subst (λ (n : ℕ). EmitsProcess g code n x a emits.0 p) z emits.1)
pairs g code k a b (x ∷ xs) (p ∷ ps) emits (suc i) =
    let z : suc k + i ≡ k + suc i = omega arith in
    subst (λ (n : ℕ). Pair g code n (slice_get ps i) (slice_get xs i)) z (pairs g code (suc k) emits.0 b xs ps emits.2 i)

timed_by : (g : Program) (p : Process) (a : Trigger) → IsReleased g a p → p.frame ≡ frame_of g a → IsTimed g p a
timed_by g p (periodic frame deadline first) released frame_is = (released.0, frame_is, released.1)
timed_by g p (at_event e frame deadline) released frame_is = (released.0, released.2)

module _ (w : Whole) (stands : ℕ → Own → View → Type 0) where
  abbrev pub r : Relations
  r = record { stands = stands; free = FreeHolds w; rests = RestHolds w }

  -- the code of each process is right
  abbrev pub AreFaithful : Type 0
  AreFaithful = (k : ℕ) (p : Process) (text : tree.Process) (a b : ℕ) → slice_get w.image.processes k ≡ Some p → slice_get (processes w.program) k ≡ Some text → EmitsProcess w.program w.image.code k text a b p
      → IsFaithful (compiled_of w k p text) (stands k) (FreeHolds w) (RestHolds w k)

  pub is_compiled : IsImageOf w → AreFaithful → IsCompiled w r
  is_compiled is faithful = record {
    processes_agree = λ k. pair_is k (slice_get w.image.processes k) (slice_get (processes w.program) k) refl refl
        (let z : 0 + k ≡ k = omega arith in subst (λ (n : ℕ). Pair w.program w.image.code n (slice_get w.image.processes k) (slice_get (processes w.program) k)) z (pairs w.program w.image.code 0 is.code.between (length w.image.code) (processes w.program) w.image.processes is.code.process_code k));
    monitors_agree = same_length w.program 0 (monitors w.program) w.image.monitors is.code.monitor_words;
    ceilings = is.ceilings;
    conditions = ap (λ (cs : List ℕ). length cs) is.code.condition_table ∙ conditions_are 0 (monitors w.program);
    apart = words_apart w.program w.image is.code.monitor_words;
    free_first = first;
    free_stable = λ m before after vars same holds. vars_still (opens_of w.image (Some m) in_monitor) before after (λ k open_to. same k open_to) (monitor_places w.program m) vars holds;
  } where
    pair_is : (k : ℕ) (p : Option Process) (x : Option tree.Process) → slice_get w.image.processes k ≡ p → slice_get (processes w.program) k ≡ x → Pair w.program w.image.code k p x → IsProcessOf w r k p x
    pair_is k None None at_p at_x pair = tt
    pair_is k None (Some x) at_p at_x pair = pair
    pair_is k (Some p) None at_p at_x pair = pair
    pair_is k (Some p) (Some x) at_p at_x pair = record {
      rank_is = is.ranks k p at_p;
      timed = timed_by w.program p x.activation pair.2.released pair.2.frame;
      faithful = faithful k p x pair.0 pair.1 at_p at_x pair.2;
    }

    first : (m : ℕ) (monitor : tree.Monitor) → slice_get (monitors w.program) m ≡ Some monitor → FreeHolds w m (zeros (target.words_of w.image.monitors)) (free_hold w.program monitor).vars
    first m monitor at =
        let many : length w.image.monitors ≡ length (monitors w.program) = same_length w.program 0 (monitors w.program) w.image.monitors is.code.monitor_words in
        let k : (x : Monitor) × (slice_get w.image.monitors m ≡ Some x) = some_at w.image.monitors m (omega (arith, slice_get_within (monitors w.program) m monitor at, many)) in
        let of_text : IsMonitor w.program 0 (monitors w.program) m k.0 = monitor_at w.program 0 (monitors w.program) w.image.monitors is.code.monitor_words m k.0 k.1 in
        let same : of_text.text ≡ monitor = one_some of_text.there at in
        let words : k.0.words ≡ words_of w.program (layout.monitor_vars monitor) = of_text.words_is ∙ ap (λ (x : tree.Monitor). words_of w.program (layout.monitor_vars x)) same in
        let within : (0 ≤ k.0.base) × (k.0.base + k.0.words ≤ 0 + target.words_of w.image.monitors) = from_base w.program 0 (monitors w.program) w.image.monitors is.code.monitor_words m k.0 k.1 in
        subst (λ (x : Option tree.Monitor). Holds (opens_of w.image (Some m) in_monitor) (zeros (target.words_of w.image.monitors)) (places_from w.program (monitor_base w.program m) (vars_of_monitor x)) (free_hold w.program monitor).vars) (sym at)
        (vars_hold (opens_of w.image (Some m) in_monitor) w.program (zeros (target.words_of w.image.monitors)) (monitor_base w.program m) (layout.monitor_vars monitor)
        (λ i lt. record {
          holds = get_zero (target.words_of w.image.monitors) (monitor_base w.program m + i) (omega (arith, lt, words, within.1, of_text.base_is));
          open_to = reaches w.image m (monitor_base w.program m + i) k.0 k.1 (omega (arith, of_text.base_is)) (omega (arith, lt, words, of_text.base_is));
        })) where
          one_some : {A : Type 0} {o : Option A} {x y : A} → o ≡ Some x → o ≡ Some y → x ≡ y
          one_some p q = cc
