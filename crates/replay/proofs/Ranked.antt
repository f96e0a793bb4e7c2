-- The ranks and ceilings of the image of a program are those of the meaning.
use Rattle.std.specs.Prelude.{◌≡◌, ◌≤◌, ◌<◌, ℕ, zero, suc, Bool, true, false, cond, List, [], ◌∷◌, Option, Some, None, IfSome, length, map, nat_eq, slice_get, slice_index, slice_index_or, unwrap_or}
use Rattle.std.proofs.Common.{inl, inr, refl, sym, subst, ap, ◌∙◌, arith}
use Rattle.std.proofs.lemmas.Bool.Decides.{eqb_tells}
use Rattle.std.proofs.lemmas.List.{length-map}
use Rattle.base.proofs.Lists.{some_at}
use Rattle.static_rule.specs.First.{IsFirst}
use Rattle.syntax_tree.specs.Placed.{Prog}
use Rattle.syntax_tree.specs.Plain.{Process, Program}
use Rattle.syntax_tree.specs.declared.place.Place.{Place}
use Rattle.source_semantics.specs.Names.{monitors, processes}
use Rattle.source_semantics.specs.Ranks.{rank, ceiling, includes, least_rank, min_with, monitors_of}
use Rattle.image.specs.Raw.{image_of, monitor_of, process_of}
use Rattle.image.specs.declared.raw.RawImage.{RawImage}
use Rattle.image.specs.declared.raw.RawMonitor.{RawMonitor}
use Rattle.image.specs.declared.raw.RawProcess.{RawProcess}
use Rattle.machine_semantics.specs.Image as image
use Rattle.code_spec.specs.Compiled.{IsCodeOf}
use Rattle.code_lifting.proofs.Words.{same_length}
use Rattle.built_tasks_law.proofs.Whole.{as_many_processes}
use Rattle.built_tasks_law.proofs.Counts.{rank_most}
use Rattle.built_tasks_law.specs.Ranks.{CeilingsAreOfTheMeaning, RanksAreOfTheMeaning}
use Rattle.replay_state.specs.declared.ranks.Ranks.{Ranks}
use Rattle.replay_state.specs.Tables.{AreRanksOf}
use Rattle.code_measures.specs.Whole.{HasRanks}
use Rattle.code_cost.specs.Rules.{SizeFails}
use Rattle.compile.specs.Steps.{IsSizeFault}
use Rattle.compile.specs.declared.built.BuildFault.{BuildFault}
use Rattle.compile.specs.declared.built.BuildFault.TheVariants as fault
use Rattle.static_semantics.specs.WellFormed.{IsWellFormed}
use Rattle.codegen_law.specs.Ruled.{NamesApart}
use Rattle.replay.specs.Told.{ceiling_told}

-- ---- a program that is not too large

pub no_size_fault : (g : Prog Place) (why : BuildFault) (number : ℕ) (place : Place) → why ≡ fault.TooLarge number place → IsSizeFault g why → ((n : ℕ) (p : Place) → ¬ SizeFails g n p) → ⊥
no_size_fault g why number place is fails fits =
    let first : IsFirst (SizeFails g) (record { number = number; place = place }) = subst (IsSizeFault g) is fails in
    fits number place first.broken

-- ---- lists

index_map : {A : Type 0} (f : A → ℕ) (xs : List A) (k : ℕ) (x : A) → slice_get xs k ≡ Some x → slice_index (map f xs) k ≡ f x
index_map f [] k x at = absurd cc
index_map f (y ∷ ys) zero x at = ap (λ o. f (unwrap_or o y)) at
index_map f (y ∷ ys) (suc k) x at = index_map f ys k x at

index_or_map : {A B : Type 0} (f : A → B) (xs : List A) (k : ℕ) (x : A) (d : B) → slice_get xs k ≡ Some x → slice_index_or (map f xs) k d ≡ f x
index_or_map f [] k x d at = absurd cc
index_or_map f (y ∷ ys) zero x d at = ap (λ o. f (unwrap_or o y)) at
index_or_map f (y ∷ ys) (suc k) x d at = index_or_map f ys k x d at

-- ---- a ceiling is the rank of some process

under : (r n : ℕ) (o : Option ℕ) → r ≤ n → min_with r o ≤ n
under r n None low = low
under r n (Some q) low = omega (arith, low)

by_use : (used : Bool) (r n : ℕ) (o : Option ℕ) → r ≤ n → IfSome o (λ q. q ≤ n) → IfSome (cond used (Some (min_with r o)) o) (λ q. q ≤ n)
by_use true r n o low rest = under r n o low
by_use false r n o low rest = rest

few_ranks : (g : Program) (m k : ℕ) (ps : List Process) → IfSome (least_rank g m k ps) (λ r. r ≤ suc (length (processes g)))
few_ranks g m k [] = tt
few_ranks g m k (p ∷ ps) =
    by_use (includes m (monitors_of g p)) (rank g k) (suc (length (processes g))) (least_rank g m (suc k) ps) (rank_most g k) (few_ranks g m (suc k) ps)

differs : (n : ℕ) → n < 65535 → nat_eq n 65535 ≡ false
differs n low = elim (eqb_tells n 65535) [
  | inl same ↦ absurd (let is = same.1 in omega (arith, is, low))
  | inr other ↦ other.0
]

told_back : (o : Option ℕ) → IfSome o (λ r. r < 65535) → ceiling_told (unwrap_or o 65535) ≡ o
told_back None low = refl
told_back (Some r) low = ap (λ b. cond b None (Some r)) (differs r low)

-- ---- the image's

module _ (g : Program) (m : image.Image) (form : IsWellFormed g) (apart : NamesApart g) (is : IsCodeOf g m) (has : HasRanks m) (ranks : RanksAreOfTheMeaning) (ceilings : CeilingsAreOfTheMeaning) where
  processes_many : length m.processes ≡ length (processes g)
  processes_many = as_many_processes g m.code 0 is.between (length m.code) (processes g) m.processes is.process_code

  monitors_many : length m.monitors ≡ length (monitors g)
  monitors_many = same_length g 0 (monitors g) m.monitors is.monitor_words

  low_ceiling : (o : Option ℕ) → IfSome o (λ r. r ≤ suc (length (processes g))) → IfSome o (λ r. r < 65535)
  low_ceiling None few = tt
  low_ceiling (Some r) few = let all : length (processes g) ≤ 64 = form.counts_fit.few_processes in omega (arith, few, all)

  rank_at : (k : ℕ) → k < length (processes g) → slice_index (map (λ (p : image.Process). p.rank) m.processes) k ≡ rank g k
  rank_at k below =
      let p = some_at m.processes k (omega (arith, below, processes_many)) in
      index_map (λ (p : image.Process). p.rank) m.processes k p.0 p.1 ∙ (has.ranks k p.0 p.1 ∙ ranks g m is k)

  ceiling_at : (j : ℕ) → j < length (monitors g) → slice_index_or (map (λ (x : image.Monitor). ceiling_told x.ceiling) m.monitors) j None ≡ ceiling g j
  ceiling_at j below =
      let x = some_at m.monitors j (omega (arith, below, monitors_many)) in
      index_or_map (λ (x : image.Monitor). ceiling_told x.ceiling) m.monitors j x.0 None x.1
      ∙ (ap (λ n. ceiling_told n) (has.ceilings j x.0 x.1 ∙ ceilings g m form apart is j)
      ∙ told_back (ceiling g j) (low_ceiling (ceiling g j) (few_ranks g j 0 (processes g))))

  pub are_ranks : (r : Ranks) → r.ranks.items ≡ map (λ (p : image.Process). p.rank) m.processes → r.ceilings.items ≡ map (λ (x : image.Monitor). ceiling_told x.ceiling) m.monitors → AreRanksOf g r
  are_ranks r one two = record {
    count = ap (λ (xs : List ℕ). length xs) one ∙ (length-map m.processes (λ (p : image.Process). p.rank) ∙ processes_many);
    each = λ k below. ap (λ (xs : List ℕ). slice_index xs k) one ∙ rank_at k below;
    ceiling_count = ap (λ (xs : List (Option ℕ)). length xs) two ∙ (length-map m.monitors (λ (x : image.Monitor). ceiling_told x.ceiling) ∙ monitors_many);
    each_ceiling = λ j below. ap (λ (xs : List (Option ℕ)). slice_index_or xs j None) two ∙ ceiling_at j below;
  }

-- ---- the raw image's

ranks_seen : (ps : List RawProcess) → map (λ (p : image.Process). p.rank) (map process_of ps) ≡ map (λ (p : RawProcess). p.rank) ps
ranks_seen [] = refl
ranks_seen (p ∷ ps) = ap (λ (xs : List ℕ). p.rank ∷ xs) (ranks_seen ps)

ceilings_seen : (ms : List RawMonitor) → map (λ (x : image.Monitor). ceiling_told x.ceiling) (map monitor_of ms) ≡ map (λ (x : RawMonitor). ceiling_told x.ceiling) ms
ceilings_seen [] = refl
ceilings_seen (x ∷ ms) = ap (λ (xs : List (Option ℕ)). ceiling_told x.ceiling ∷ xs) (ceilings_seen ms)

pub ranks_of_image : RanksAreOfTheMeaning → CeilingsAreOfTheMeaning → (g : Program) (raw : RawImage) → IsWellFormed g → NamesApart g → IsCodeOf g (image_of raw) → HasRanks (image_of raw)
    → (r : Ranks) → r.ranks.items ≡ map (λ (p : RawProcess). p.rank) raw.processes → r.ceilings.items ≡ map (λ (x : RawMonitor). ceiling_told x.ceiling) raw.monitors → AreRanksOf g r
ranks_of_image ranks ceilings g raw form apart is has r one two =
    are_ranks g (image_of raw) form apart is has ranks ceilings r (one ∙ sym (ranks_seen raw.processes)) (two ∙ sym (ceilings_seen raw.monitors))
