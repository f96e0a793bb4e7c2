-- All start events of a tick, where nobody waits.
use Rattle.std.proofs.Common.{◌≡◌, ◌<◌, ◌+◌, ◌++◌, inl, inr, ℕ, suc, List, [], ◌∷◌, Some, length, arith, refl, sym, subst, ◌∙◌, true, false, Bool}
use Rattle.std.specs.Prelude.{ℤ, slice_get, slice_set, cond, nat_eq, ◌&&◌, map}
use Rattle.std.proofs.lemmas.Bool.{cases_lt}
use Rattle.std.proofs.lemmas.List.{append-nil}
use Rattle.base.specs.declared.event.Event.{Event}
use Rattle.syntax_tree.specs.Plain as tree
use Rattle.syntax_tree.specs.Plain.{Program}
use Rattle.source_semantics.specs.Names.{processes}
use Rattle.source_semantics.specs.Config.{Config}
use Rattle.source_semantics.specs.Ranks.{by_rank}
use Rattle.source_semantics.specs.Starts.{Script, Line, sets, occurs, due, NoneMissing, waits_for_event, is_due}
use Rattle.machine_semantics.specs.Image.{Process}
use Rattle.machine_semantics.specs.State.{State}
use Rattle.machine_semantics.specs.Starts.{Started, unchanged, followed, release, is_periodic_due}
use Rattle.machine_semantics.specs.Starts as start
use Rattle.source_semantics.specs.Any.{RunAnyFrom}
use Rattle.code_lifting.specs.Related.{Whole, Relations}
use Rattle.code_lifting.specs.Compiled.{IsProcess, IsProcessOf, IsCompiled, line_of, script_of}
use Rattle.code_lifting.proofs.Ticks.{At}
use Rattle.code_lifting.proofs.Items.{Item, rel, quiet_none, event_items_by, event_items, periodic_items, out_items, all_items, due_is}
use Rattle.edf_semantics.specs.Runs.{NobodyWaits}
use Rattle.edf_semantics.proofs.Phases.{Phase, nothing, device, both, where_so, release_plays, time_outs_play}
use Rattle.code_lifting.proofs.Starts.{periodic_is_due, event_is_due}

module _ (w : Whole) (r : Relations) (compiled : IsCompiled w r) (script : Script) (t : ℕ) (below : t < script.end_tick) where
  abbrev g : Program
  g = w.program

  abbrev Plays : List Item → (State → Started) → Type 0
  Plays xs f = Phase w r compiled script t below xs f

  -- the processes from k on, in the image and in the text
  abbrev Aligned : ℕ → List Process → List tree.Process → Type 0
  Aligned k [] [] = Unit {0}
  Aligned k (p ∷ ps) (x ∷ xs) = (slice_get w.image.processes k ≡ Some p) × IsProcess w r k p x × Aligned (suc k) ps xs
  Aligned k [] (x ∷ xs) = ⊥
  Aligned k (p ∷ ps) [] = ⊥

  aligned_from : (k : ℕ) (ps : List Process) (xs : List tree.Process) → ((i : ℕ) → IsProcessOf w r (k + i) (slice_get ps i) (slice_get xs i)) → ((i : ℕ) (p : Process) → slice_get ps i ≡ Some p → slice_get w.image.processes (k + i) ≡ Some p) → Aligned k ps xs
  aligned_from k [] [] are at = tt
  aligned_from k [] (x ∷ xs) are at = are 0
  aligned_from k (p ∷ ps) [] are at = are 0
  aligned_from k (p ∷ ps) (x ∷ xs) are at =
      let z : k + 0 ≡ k = omega arith in (
        subst (λ (n : ℕ). slice_get w.image.processes n ≡ Some p) z (at 0 p refl),
        subst (λ (n : ℕ). IsProcess w r n p x) z (are 0),
        aligned_from (suc k) ps xs (λ i. (let y : k + suc i ≡ suc k + i = omega arith in subst (λ (n : ℕ). IsProcessOf w r n (slice_get ps i) (slice_get xs i)) y (are (suc i))))
            (λ i q at_q. (let y : k + suc i ≡ suc k + i = omega arith in subst (λ (n : ℕ). slice_get w.image.processes n ≡ Some q) y (at (suc i) q at_q))),
      )

  all_aligned : Aligned 0 w.image.processes (processes g)
  all_aligned = aligned_from 0 w.image.processes (processes g)
      (λ i. (let z : i ≡ 0 + i = omega arith in subst (λ (n : ℕ). IsProcessOf w r n (slice_get w.image.processes i) (slice_get (processes g) i)) z (compiled.processes_agree i)))
      (λ i p at. (let z : i ≡ 0 + i = omega arith in subst (λ (n : ℕ). slice_get w.image.processes n ≡ Some p) z at))

  -- ---- script lines

  occurs_plays : (e m k : ℕ) (ps : List Process) (xs : List tree.Process) → m ≡ k → Aligned k ps xs → Plays (event_items_by g e k xs) (start.occurs w.image t e m ps)
  occurs_plays e m k [] [] same are = nothing w r compiled script t below
  occurs_plays e m k [] (x ∷ xs) same are = absurd are
  occurs_plays e m k (p ∷ ps) [] same are = absurd are
  occurs_plays e m k (p ∷ ps) (x ∷ xs) same are =
      both w r compiled script t below (cond (waits_for_event g e x.activation) (rel k ∷ []) []) (event_items_by g e (suc k) xs)
      (λ s. cond (nat_eq p.kind 1 && nat_eq p.event e) (release w.image t m p s) (unchanged s)) (start.occurs w.image t e (m + 1) ps)
      (where_so w r compiled script t below (nat_eq p.kind 1 && nat_eq p.event e) (waits_for_event g e x.activation) (rel k) (λ s. release w.image t m p s) (event_is_due g p e x.activation are.1.timed)
      (subst (λ (n : ℕ). Plays (rel k ∷ []) (λ s. release w.image t n p s)) (sym same) (release_plays w r compiled script t below k p are.0)))
      (occurs_plays e (m + 1) (suc k) ps xs (omega (arith, same)) are.2)

  where_all : (b : Bool) (xs : List Item) (f : State → Started) → Plays xs f → Plays (cond b xs []) (λ s. cond b (f s) (unchanged s))
  where_all true xs f plays = plays
  where_all false xs f plays = nothing w r compiled script t below

  set_plays : (b : Bool) (d : ℕ) (v : ℤ) → Plays [] (λ s. cond b (unchanged (record s { devices = slice_set s.devices d v })) (unchanged s))
  set_plays true d v = device w r compiled script t below d v
  set_plays false d v = nothing w r compiled script t below

  lines_play : (ls : List Line) → Plays (event_items g t ls) (start.lines w.image t (map line_of ls))
  lines_play [] = nothing w r compiled script t below
  lines_play (sets u d v ∷ ls) =
      both w r compiled script t below [] (event_items g t ls) (start.line w.image t (line_of (sets u d v))) (start.lines w.image t (map line_of ls)) (set_plays (nat_eq u t) d v) (lines_play ls)
  lines_play (occurs u e ∷ ls) =
      both w r compiled script t below (cond (nat_eq u t) (event_items_by g e 0 (processes g)) []) (event_items g t ls) (start.line w.image t (line_of (occurs u e))) (start.lines w.image t (map line_of ls))
      (where_all (nat_eq u t) (event_items_by g e 0 (processes g)) (start.occurs w.image t e 0 w.image.processes) (occurs_plays e 0 0 w.image.processes (processes g) refl all_aligned)) (lines_play ls)

  -- ---- periodic releases

  periodic_plays : (m k : ℕ) (ps : List Process) (xs : List tree.Process) → m ≡ k → Aligned k ps xs → Plays (periodic_items g t k xs) (start.periodic w.image t m ps)
  periodic_plays m k [] [] same are = nothing w r compiled script t below
  periodic_plays m k [] (x ∷ xs) same are = absurd are
  periodic_plays m k (p ∷ ps) [] same are = absurd are
  periodic_plays m k (p ∷ ps) (x ∷ xs) same are =
      both w r compiled script t below (cond (is_due g t x.activation) (rel k ∷ []) []) (periodic_items g t (suc k) xs)
      (λ s. cond (is_periodic_due t p) (release w.image t m p s) (unchanged s)) (start.periodic w.image t (m + 1) ps)
      (where_so w r compiled script t below (is_periodic_due t p) (is_due g t x.activation) (rel k) (λ s. release w.image t m p s) (periodic_is_due g p t x.activation are.1.timed)
      (subst (λ (n : ℕ). Plays (rel k ∷ []) (λ s. release w.image t n p s)) (sym same) (release_plays w r compiled script t below k p are.0)))
      (periodic_plays (m + 1) (suc k) ps xs (omega (arith, same)) are.2)

  -- ---- all of them

  starts_play : Plays (all_items g script t) (start.starts w.image (script_of script) t)
  unfolding start.starts
  starts_play =
      both w r compiled script t below (event_items g t script.lines) (periodic_items g t 0 (processes g) ++ out_items (by_rank g)) (start.lines w.image t (map line_of script.lines))
      (λ a. followed (start.periodic w.image t 0 w.image.processes a) (start.time_outs w.image t 1 (length w.image.processes)))
      (lines_play script.lines)
      (both w r compiled script t below (periodic_items g t 0 (processes g)) (out_items (by_rank g)) (start.periodic w.image t 0 w.image.processes) (start.time_outs w.image t 1 (length w.image.processes))
      (periodic_plays 0 0 w.image.processes (processes g) refl all_aligned) (time_outs_play w r compiled script t below (by_rank g) 1 (length w.image.processes)))

  one_more : (c : Config) → NoneMissing g script c t → due g script c t ≡ [] → NoneMissing g script c (t + 1)
  one_more c before now u low lt = elim (cases_lt u t) [ inl earlier ↦ before u low earlier | inr later ↦ (let e : t ≡ u = omega (arith, later, lt) in subst (λ (x : ℕ). due g script c x ≡ []) e now) ]

  -- the start events of tick t, and what comes after them
  pub starts_run : (s : State) (c : Config) → At w r script t t s c → NobodyWaits s → (start.starts w.image (script_of script) t s).overrun ≡ false → (es : List Event)
      → ((c' : Config) → At w r script t (t + 1) (start.starts w.image (script_of script) t s).state c' → RunAnyFrom g script c' es) → RunAnyFrom g script c ((start.starts w.image (script_of script) t s).events ++ es)
  starts_run s c now calm free es then =
      starts_play s c [] [] (sym (append-nil (all_items g script t))) now tt calm free es
      (λ c' now' quiet calm'. then c' (record {
        same = now'.same;
        reached = now'.reached;
        fresh = now'.fresh;
        none = one_more c' now'.none (due_is g script c' t now'.fresh ∙ quiet_none t c'.jobs (all_items g script t) quiet);
      }))
