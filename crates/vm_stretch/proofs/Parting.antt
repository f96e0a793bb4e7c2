-- The start events in parts: a line, a release, the process of a rank.
use Rattle.std.proofs.Common.{◌≡◌, ◌≢◌, ◌<◌, ◌+◌, ◌++◌, ℕ, zero, suc, List, [], ◌∷◌, Option, Some, None, drop, arith, refl, ap, sym, subst, ◌∙◌, true, false, Bool, append-nil}
use Rattle.std.specs.Prelude.{slice_get, nat_eq, cond, ◌&&◌}
use Rattle.std.proofs.lemmas.Bool.Decides.{nat_tests}
use Rattle.std.proofs.lemmas.Bool.{cond-false}
use Rattle.base.specs.declared.event.Event.{Event}
use Rattle.machine_semantics.specs.Image.{Image, Process, Line, Sets, Occurs}
use Rattle.machine_semantics.specs.State.{Thread, Idle, Ready, Waiting, State}
use Rattle.machine_semantics.specs.Starts.{Started, unchanged, followed, release, occurs, line, lines, time_out, at_rank}
use Rattle.vm_stretch.specs.Quiet.{line_tick}
use Rattle.vm_stretch.specs.StretchDue.{time_out_of}
use Rattle.vm_stretch.specs.Steps.{named, release_of, releases}
use Rattle.vm_stretch.proofs.Waiting.{due_of}

as_it_is : (b : Bool) → elim b [ true ↦ true | false ↦ false ] ≡ b
as_it_is true = refl
as_it_is false = refl

-- nothing comes behind
pub then_none : (a : Started) (go : State → Started) → go a.state ≡ unchanged a.state → followed a go ≡ a
then_none a go none =
    ap (λ (x : Started). (let f : Started = record { state = x.state; events = a.events ++ x.events; overrun = elim (a.overrun) [ true ↦ true | false ↦ x.overrun ] } in f)) none
    ∙ ap (λ (xs : List Event). (let f : Started = record { state = a.state; events = xs; overrun = elim (a.overrun) [ true ↦ true | false ↦ false ] } in f)) (append-nil a.events)
    ∙ ap (λ (b : Bool). (let f : Started = record { state = a.state; events = a.events; overrun = b } in f)) (as_it_is a.overrun)

-- nothing came before
pub none_then : (s : State) (a : Started) (go : State → Started) → a ≡ unchanged s → followed a go ≡ go s
none_then s a go none = ap (λ (x : Started). followed x go) none

-- ---- lines

pub apart : (a b : ℕ) → a ≢ b → nat_eq a b ≡ false
apart a b differ = grind (arith, nat_tests, differ)

pub line_none : (image : Image) (t : ℕ) (l : Line) (s : State) → line_tick l ≢ t → line image t l s ≡ unchanged s
line_none image t (Sets u d v) s differ = cond-false (nat_eq u t) _ _ (apart u t differ)
line_none image t (Occurs u e) s differ = cond-false (nat_eq u t) _ _ (apart u t differ)

-- lines of other ticks at the front do nothing
pub lines_skip : (image : Image) (t done : ℕ) (ls : List Line) (s : State) → ((i : ℕ) (l : Line) → slice_get ls i ≡ Some l → i < done → line_tick l ≢ t) → lines image t ls s ≡ lines image t (drop done ls) s
lines_skip image t zero ls s none = refl
lines_skip image t (suc done) [] s none = refl
lines_skip image t (suc done) (l ∷ ls) s none =
    none_then s (line image t l s) (lines image t ls) (line_none image t l s (none 0 l refl (omega arith))) ∙ lines_skip image t done ls s (λ i m at early. none (suc i) m at (omega (arith, early)))

-- ---- releases

pub occurs_releases : (image : Image) (t e k : ℕ) (ps : List Process) (s : State) → ((j : ℕ) (p : Process) → slice_get ps j ≡ Some p → slice_get image.processes (k + j) ≡ Some p) → occurs image t e k ps s ≡ releases image t (named e k ps) s
occurs_releases image t e k [] s there = refl
occurs_releases image t e k (p ∷ ps) s there = by (nat_eq p.kind 1 && nat_eq p.event e) (λ (x : State). occurs_releases image t e (k + 1) ps x later) where
  later : (j : ℕ) (q : Process) → slice_get ps j ≡ Some q → slice_get image.processes (k + 1 + j) ≡ Some q
  later j q at = let e : k + suc j ≡ k + 1 + j = omega arith in subst (λ (i : ℕ). slice_get image.processes i ≡ Some q) e (there (suc j) q at)

  here : slice_get image.processes k ≡ Some p
  here = let e : k + 0 ≡ k = omega arith in subst (λ (i : ℕ). slice_get image.processes i ≡ Some p) e (there 0 p refl)

  by : (b : Bool) → ((x : State) → occurs image t e (k + 1) ps x ≡ releases image t (named e (k + 1) ps) x) → followed (cond b (release image t k p s) (unchanged s)) (occurs image t e (k + 1) ps) ≡ releases image t (cond b (k ∷ named e (k + 1) ps) (named e (k + 1) ps)) s
  by true rest =
      let first : Started = release image t k p s in
      ap (λ (x : Started). (let f : Started = record { state = x.state; events = first.events ++ x.events; overrun = elim (first.overrun) [ true ↦ true | false ↦ x.overrun ] } in f)) (rest first.state)
      ∙ ap (λ (o : Option Process). followed (release_of image t k o s) (releases image t (named e (k + 1) ps))) (sym here)
  by false rest = rest s

-- ---- time-outs

pub time_out_none : (image : Image) (t k : ℕ) (p : Process) (s : State) → due_of k s ≢ Some t → time_out image t k p s (slice_get s.threads k) ≡ unchanged s
time_out_none image t k p s not_due = by (slice_get s.threads k) not_due where
  by : (o : Option Thread) → time_out_of o ≢ Some t → time_out image t k p s o ≡ unchanged s
  by None none = refl
  by (Some Idle) none = refl
  by (Some (Ready job)) none = refl
  by (Some (Waiting c due e job)) none = cond-false (nat_eq due t) _ _ (apart due t (λ same. none (ap (λ (x : ℕ). Some x) same)))

pub at_rank_none : (image : Image) (t rank i : ℕ) (ps : List Process) (s : State) → ((j : ℕ) (q : Process) → slice_get ps j ≡ Some q → q.rank ≢ rank) → at_rank image t rank i ps s ≡ unchanged s
at_rank_none image t rank i [] s none = refl
at_rank_none image t rank i (q ∷ ps) s none =
    none_then s (cond (nat_eq q.rank rank) (time_out image t i q s (slice_get s.threads i)) (unchanged s)) (at_rank image t rank (i + 1) ps) (cond-false (nat_eq q.rank rank) _ _ (apart q.rank rank (none 0 q refl)))
    ∙ at_rank_none image t rank (i + 1) ps s (λ j p at. none (suc j) p at)

-- one process has the rank
pub at_rank_one : (image : Image) (t rank i k : ℕ) (ps : List Process) (p : Process) (s : State) → slice_get ps k ≡ Some p → p.rank ≡ rank → ((j : ℕ) (q : Process) → slice_get ps j ≡ Some q → q.rank ≡ rank → j ≡ k)
    → at_rank image t rank i ps s ≡ time_out image t (i + k) p s (slice_get s.threads (i + k))
at_rank_one image t rank i k [] p s at is own = absurd cc
at_rank_one image t rank i zero (q ∷ ps) p s at is own =
    let same : q ≡ p = cc in
    let test : nat_eq q.rank rank ≡ true = (let r : q.rank ≡ rank = ap (λ (x : Process). x.rank) same ∙ is in grind (arith, nat_tests, r)) in
    let first : Started = time_out image t i q s (slice_get s.threads i) in
    let none : at_rank image t rank (i + 1) ps first.state ≡ unchanged first.state =
    at_rank_none image t rank (i + 1) ps first.state (λ j r there ranked. (let no : suc j ≡ 0 = own (suc j) r there ranked in absurd (omega (arith, no)))) in
    let here : i + 0 ≡ i = omega arith in
    ap (λ (b : Bool). followed (cond b first (unchanged s)) (at_rank image t rank (i + 1) ps)) test
    ∙ then_none first (at_rank image t rank (i + 1) ps) none
    ∙ ap (λ (x : Process). time_out image t i x s (slice_get s.threads i)) same
    ∙ ap (λ (n : ℕ). time_out image t n p s (slice_get s.threads n)) (sym here)
at_rank_one image t rank i (suc k) (q ∷ ps) p s at is own =
    let differ : q.rank ≢ rank = λ ranked. (let no : 0 ≡ suc k = own 0 q refl ranked in absurd (omega (arith, no))) in
    let here : (i + 1) + k ≡ i + suc k = omega arith in
    none_then s (cond (nat_eq q.rank rank) (time_out image t i q s (slice_get s.threads i)) (unchanged s)) (at_rank image t rank (i + 1) ps) (cond-false (nat_eq q.rank rank) _ _ (apart q.rank rank differ))
    ∙ at_rank_one image t rank (i + 1) k ps p s at is (λ j r there ranked. (let e : suc j ≡ suc k = own (suc j) r there ranked in omega (arith, e)))
    ∙ ap (λ (n : ℕ). time_out image t n p s (slice_get s.threads n)) here
