-- A quiet tick starts nothing.
use Rattle.std.proofs.Common.{◌≡◌, ◌≢◌, ◌+◌, ◌++◌, ℕ, zero, suc, List, [], ◌∷◌, Option, Some, None, length, arith, refl, ap, sym, subst, ◌∙◌, true, false, Bool}
use Rattle.std.specs.Prelude.{slice_get, nat_eq, cond}
use Rattle.std.proofs.lemmas.Bool.{cond-false}
use Rattle.machine_semantics.specs.Image.{Image, Process, Script, Line}
use Rattle.machine_semantics.specs.State.{Job, Thread, Idle, Ready, Waiting, State}
use Rattle.machine_semantics.specs.Starts.{Started, unchanged, followed, line, lines, periodic, is_periodic_due, release, time_out, at_rank, time_outs, occurs, starts}
use Rattle.vm_stretch.specs.Quiet.{line_tick, IsQuiet}
use Rattle.vm_stretch.specs.StretchLaws.{QuietStartsNothing}
use Rattle.vm_stretch.proofs.Parting.{apart, line_none}

-- nothing, and then nothing
then_nothing : (s : State) (a : Started) (go : State → Started) → a ≡ unchanged s → go s ≡ unchanged s → followed a go ≡ unchanged s
then_nothing s a go first second =
    subst (λ (x : Started). followed x go ≡ unchanged s) (sym first)
    (let f : Started → Started = λ x. record { state = x.state; events = [] ++ x.events; overrun = x.overrun } in ap f second)

pub lines_nothing : (image : Image) (u : ℕ) (ls : List Line) (s : State) → ((i : ℕ) (l : Line) → slice_get ls i ≡ Some l → line_tick l ≢ u) → lines image u ls s ≡ unchanged s
lines_nothing image u [] s quiet = refl
lines_nothing image u (l ∷ ls) s quiet = then_nothing s (line image u l s) (lines image u ls) (line_none image u l s (quiet 0 l refl)) (lines_nothing image u ls s (λ i m at. quiet (suc i) m at))

pub periodic_nothing : (image : Image) (u k : ℕ) (ps : List Process) (s : State) → ((j : ℕ) (p : Process) → slice_get ps j ≡ Some p → is_periodic_due u p ≡ false) → periodic image u k ps s ≡ unchanged s
periodic_nothing image u k [] s quiet = refl
periodic_nothing image u k (p ∷ ps) s quiet =
    then_nothing s (cond (is_periodic_due u p) (release image u k p s) (unchanged s)) (periodic image u (k + 1) ps) (cond-false (is_periodic_due u p) _ _ (quiet 0 p refl)) (periodic_nothing image u (k + 1) ps s (λ j q at. quiet (suc j) q at))

time_out_nothing : (image : Image) (u k : ℕ) (p : Process) (s : State) (thread : Option Thread) → ((c e : ℕ) (job : Job) → thread ≢ Some (Waiting c u e job)) → time_out image u k p s thread ≡ unchanged s
time_out_nothing image u k p s (Some (Waiting c due e job)) quiet =
    cond-false (nat_eq due u) _ _ (apart due u (λ same. quiet c e job (ap (λ (d : ℕ). Some (Waiting c d e job)) same)))
time_out_nothing image u k p s (Some (Ready job)) quiet = refl
time_out_nothing image u k p s (Some Idle) quiet = refl
time_out_nothing image u k p s None quiet = refl

either : (b : Bool) (s : State) (a : Started) → a ≡ unchanged s → cond b a (unchanged s) ≡ unchanged s
either true s a e = e
either false s a e = refl

at_rank_nothing : (image : Image) (u rank k : ℕ) (ps : List Process) (s : State) → ((j c e : ℕ) (job : Job) → slice_get s.threads j ≢ Some (Waiting c u e job)) → at_rank image u rank k ps s ≡ unchanged s
at_rank_nothing image u rank k [] s quiet = refl
at_rank_nothing image u rank k (p ∷ ps) s quiet =
    then_nothing s (cond (nat_eq p.rank rank) (time_out image u k p s (slice_get s.threads k)) (unchanged s)) (at_rank image u rank (k + 1) ps)
    (either (nat_eq p.rank rank) s (time_out image u k p s (slice_get s.threads k)) (time_out_nothing image u k p s (slice_get s.threads k) (quiet k)))
    (at_rank_nothing image u rank (k + 1) ps s quiet)

time_outs_nothing : (image : Image) (u rank n : ℕ) (s : State) → ((j c e : ℕ) (job : Job) → slice_get s.threads j ≢ Some (Waiting c u e job)) → time_outs image u rank n s ≡ unchanged s
time_outs_nothing image u rank zero s quiet = refl
time_outs_nothing image u rank (suc n) s quiet =
    then_nothing s (at_rank image u rank 0 image.processes s) (time_outs image u (rank + 1) n) (at_rank_nothing image u rank 0 image.processes s quiet) (time_outs_nothing image u (rank + 1) n s quiet)

pub quiet_starts_nothing : QuietStartsNothing
unfolding starts
quiet_starts_nothing image script u s quiet =
    let last : State → Started = time_outs image u 1 (length image.processes) in
    let after : State → Started = λ a. followed (periodic image u 0 image.processes a) last in
    then_nothing s (lines image u script.lines s) after (lines_nothing image u script.lines s quiet.lines)
    (then_nothing s (periodic image u 0 image.processes s) last (periodic_nothing image u 0 image.processes s quiet.releases) (time_outs_nothing image u 1 (length image.processes) s quiet.waits))
