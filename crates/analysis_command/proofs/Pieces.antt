-- The processes in the order of ranks.
use Rattle.std.specs.Prelude.{◌≡◌, ◌≤◌, ◌<◌, ◌+◌, ◌-◌, ℕ, suc, List, Some, drop, length, slice_get, slice_index}
use Rattle.std.proofs.Common.{sym, ap, ◌∙◌, arith}
use Rattle.std.proofs.lemmas.Option.{same_Some, slice_get-get_or, slice_get_within}
use Rattle.base.proofs.Lists.{get_drop, some_at}
use Rattle.syntax_tree.specs.Plain.{Program}
use Rattle.source_semantics.specs.Names.{processes}
use Rattle.source_semantics.specs.Ranks.{rank}
use Rattle.machine_semantics.specs.Image as image
use Rattle.valid_image.specs.Tasks.{process_at}
use Rattle.valid_image_law.proofs.Timing.{search}
use Rattle.sched_program.proofs.Levels.{rank_low, rank_high, rank_one, had}
use Rattle.built_tasks_law.specs.Ranks.{RanksAreOfTheMeaning}
use Rattle.built_tasks_law.proofs.Whole.{as_many_processes}
use Rattle.analysis_command.specs.Graphs.{AreRanked, IsImageOfText}

module _ (g : Program) (m : image.Image) (of : IsImageOfText g m) (ranks : RanksAreOfTheMeaning) where
  pub many : length m.processes ≡ length (processes g)
  many = as_many_processes g m.code 0 of.code.between (length m.code) (processes g) m.processes of.code.process_code

  rank_same : (k : ℕ) (x : image.Process) → slice_get m.processes k ≡ Some x → x.rank ≡ rank g k
  rank_same k x at = of.ranks.ranks k x at ∙ ranks g m of.code k

  -- a process stands at the level of its rank
  pub at_level : (k : ℕ) → k < length m.processes → process_at m (rank g k - 1) ≡ k
  at_level k low =
      let x = some_at m.processes k low in
      let first : suc (rank g k - 1) ≡ rank g k = (let r = rank_low g k in omega (arith, r)) in
      search (suc (rank g k - 1)) 0 k m.processes x.0 x.1 (rank_same k x.0 x.1 ∙ sym first)
      (λ l q there is. rank_one g l k (let h = slice_get_within m.processes l q there in omega (arith, many, h)) (omega (arith, many, low)) (sym (rank_same l q there) ∙ (is ∙ first)))
      ∙ omega arith

  module _ (pieces : List ℕ) (are : AreRanked m pieces) (held : ℕ) where
    -- a process below the rank is among those behind it
    pub piece_there : (k : ℕ) → k < length m.processes → held < rank g k → slice_get (drop held pieces) (rank g k - 1 - held) ≡ Some k
    piece_there k low lower =
        let high : rank g k ≤ length (processes g) = rank_high g k (omega (arith, many, low)) in
        let level : held + (rank g k - 1 - held) ≡ rank g k - 1 = omega (arith, lower) in
        let within : rank g k - 1 < length m.processes = omega (arith, high, many, lower) in
        get_drop pieces held (rank g k - 1 - held) ∙ (ap (λ n. slice_get pieces n) level
        ∙ (slice_get-get_or pieces (rank g k - 1) 0 (omega (arith, within, are.one_each))
        ∙ ap (λ n. Some n) (are.each (rank g k - 1) within ∙ at_level k low)))

    -- whose piece it is
    pub record Whose (i piece : ℕ) : Type 0 where
      pub process : ℕ
      pub low : process < length m.processes
      pub is_rank : rank g process ≡ suc (held + i)
      pub is_piece : piece ≡ process

    pub whose : (i piece : ℕ) → slice_get (drop held pieces) i ≡ Some piece → Whose i piece
    whose i piece at =
        let there : slice_get pieces (held + i) ≡ Some piece = sym (get_drop pieces held i) ∙ at in
        let level : held + i < length m.processes = (let w = slice_get_within pieces (held + i) piece there in omega (arith, w, are.one_each)) in
        let k = had g (held + i) (omega (arith, level, many)) in
        let low : k.0 < length m.processes = omega (arith, k.1, many) in
        let stands : slice_index pieces (held + i) ≡ k.0 = are.each (held + i) level ∙ (ap (λ n. process_at m n) (sym k.2) ∙ at_level k.0 low) in
        record {
          process = k.0;
          low = low;
          is_rank = (let r = rank_low g k.0 in omega (arith, r, k.2));
          is_piece = same_Some piece k.0 (sym there ∙ (slice_get-get_or pieces (held + i) 0 (omega (arith, level, are.one_each)) ∙ ap (λ n. Some n) stands));
        }
