-- The images of the load's program are light.
use Rattle.std.proofs.Common.{◌≡◌, ◌≤◌, ◌<◌, ◌+◌, ◌*◌, ℕ, zero, suc, List, length, Some, refl, ap, ◌∙◌, arith}
use Rattle.std.specs.Prelude.{slice_get}
use Rattle.std.proofs.lemmas.Option.{slice_get_within}
use Rattle.syntax_tree.specs.Plain as plain_of
use Rattle.base.specs.Capped.{cap}
use Rattle.source_semantics.specs.Names.{processes}
use Rattle.machine_semantics.specs.Image.{Image, Process, Routine}
use Rattle.base.specs.declared.capped.Cost.{Cost}
use Rattle.code_spec.specs.Numbering.{Text, numbered}
use Rattle.valid_image.specs.Sizes.{with_dispatch}
use Rattle.code_cost_spec.specs.Levels.{cost_of_process, stay_of_entry}
use Rattle.codegen_spec.specs.Parts.{program_made}
use Rattle.code_measures.specs.Declared.{DeclaresRoutine, DeclaresProcess}
use Rattle.built_image.specs.Built.{IsShaped}
use Rattle.load_law.specs.Light.{IsLightProcess, IsLight}
use Rattle.load_law.specs.Time.{IsLightLoad}
use Rattle.load.specs.Program.{frame, drawn}
use Rattle.load_text_law.proofs.Lists.{load, process_of, list_from, all_processes, there, add_text, pause_text, all_routines}
use Rattle.load_law.proofs.Costs.{IsSmall, is_small, add_stays, pause_stays}
use Rattle.load_law.proofs.Held.{as_many_routines, as_many_processes, HasTimes, have_times}

capped : (n : ℕ) → cap n ≤ n
capped n = omega arith

undispatched : (over : ℕ) (c : Cost) → over ≡ 0 → with_dispatch over c ≡ c.run
undispatched over c none = ap (λ n. with_dispatch n c) none ∙ omega arith

-- a frame has room for every process
wide : (count frames : ℕ) → count * 1000 ≤ 1000 * count * (1 + frames)
wide count frames = grind arith

list_long : (key count before left : ℕ) → length (list_from key count before left) ≡ left
list_long key count before zero = refl
list_long key count before (suc left) = ap (λ n. suc n) (list_long key count (suc before) left)

module _ (key count : ℕ) (m : Image) (shaped : IsShaped (load key count) 0 m) where
  many : length m.processes ≡ count
  many = as_many_processes (load key count) (processes (load key count)) (program_made (load key count)).processes m.processes shaped.code.bodies ∙ (ap (λ (ps : List plain_of.Process). length ps) (all_processes key count) ∙ list_long key count 0 count)

  two : length m.routines ≡ 2
  two = as_many_routines (load key count) (numbered (load key count)) (program_made (load key count)).routines m.routines shaped.code.routines ∙ ap (λ (ts : List Text). length ts) (all_routines key count)

  light_process : (k : ℕ) (p : Process) → slice_get m.processes k ≡ Some p → k < count → IsLightProcess count 1000 100 p
  light_process k p is below =
      let g = load key count in
      let t = process_of key count k in
      let text = there key count k below in
      let d : DeclaresProcess g m.over k t p = shaped.declares.bodies k t p text is in
      let c = cost_of_process g k t in
      let small : IsSmall c = is_small key count k below in
      let times : HasTimes g t p = have_times g (processes g) (program_made g).processes m.processes shaped.code.bodies k t p text is in
      let long : p.frame ≡ frame count (drawn key k) = times.frame in
      let due : p.deadline ≡ frame count (drawn key k) = times.deadline in
      let room : count * 1000 ≤ frame count (drawn key k) = wide count (drawn key k).frames in
      let run : p.run ≤ 402 = omega (arith, d.run, capped (with_dispatch m.over c), undispatched m.over c shaped.overhead, small.run) in
      let susp : p.susp ≤ 50 = omega (arith, d.susp, capped c.susp, small.susp) in
      let waits : p.waits ≤ 1 = omega (arith, d.waits, capped c.waits, small.waits) in
      record {
        deadline = omega (arith, due, room);
        frame = omega (arith, due, long);
        asks = omega (arith, run, susp, waits);
      }

  short_stay : (r : ℕ) (x : Routine) → slice_get m.routines r ≡ Some x → r < 2 → x.stay ≤ 100
  short_stay zero x is below =
      let g = load key count in
      let text : slice_get (numbered g) 0 ≡ Some add_text = ap (λ (ts : List Text). slice_get ts 0) (all_routines key count) in
      let d : DeclaresRoutine g add_text x = shaped.declares.routines 0 add_text x text is in
      omega (arith, d.stay, capped (stay_of_entry g add_text), add_stays key count)
  short_stay (suc zero) x is below =
      let g = load key count in
      let text : slice_get (numbered g) 1 ≡ Some pause_text = ap (λ (ts : List Text). slice_get ts 1) (all_routines key count) in
      let d : DeclaresRoutine g pause_text x = shaped.declares.routines 1 pause_text x text is in
      omega (arith, d.stay, capped (stay_of_entry g pause_text), pause_stays key count)
  short_stay (suc (suc r)) x is below = absurd (omega (arith, below))

  light : IsLight count 1000 100 m
  light = record {
    many = many;
    each = λ k p is. light_process k p is (omega (arith, slice_get_within m.processes k p is, many));
    stays = λ r x is. short_stay r x is (omega (arith, slice_get_within m.routines r x is, two));
  }

pub light_load : IsLightLoad
light_load key count some few m shaped = light key count m shaped
