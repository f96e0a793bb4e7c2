-- What is kept of a process, with one event more.
use Rattle.std.proofs.Common.{◌≡◌, ◌+◌, ◌-◌, ◌++◌, ℕ, Bool, true, false, List, [], ◌∷◌, Option, Some, length, arith, refl, ap, sym, ◌∙◌}
use Rattle.std.specs.Prelude.{◌&&◌, cond, fold, max, nat_eq, nat_le}
use Rattle.std.proofs.lemmas.Bool.Decides.{nat_tests}
use Rattle.std.proofs.lemmas.List.{append-nil, length-append}
use Rattle.base.specs.declared.event.Event.{Event}
use Rattle.run_chart.specs.declared.trace.Trace.{Trace}
use Rattle.run_chart.specs.Responses.{ends, is_end, is_release, longest, releases, responses}
use Rattle.run_chart.specs.Traces.{Counts, released_by, with_longest}

module _ (k first : ℕ) (e : Event) where
  pub released_more : (r : ℕ) (es : List Event) → released_by k r (es ++ e ∷ []) ≡ cond (releases k e) e.tick (released_by k r es)
  released_more r [] = refl
  released_more r (x ∷ es) = by (releases k x) refl (released_more x.tick es) (released_more r es) where
    by : (b : Bool) → releases k x ≡ b → released_by k x.tick (es ++ e ∷ []) ≡ cond (releases k e) e.tick (released_by k x.tick es) → released_by k r (es ++ e ∷ []) ≡ cond (releases k e) e.tick (released_by k r es) → released_by k r ((x ∷ es) ++ e ∷ []) ≡ cond (releases k e) e.tick (released_by k r (x ∷ es))
    by true is later other = rw is later
    by false is later other = rw is other

  -- what one more event adds
  abbrev added : ℕ → List ℕ
  added r = cond (releases k e) [] (cond (ends k first e) ((e.tick + 1 - r) ∷ []) [])

  alone : (r : ℕ) → responses k first r (e ∷ []) ≡ added r
  alone r = by (releases k e) refl (ends k first e) refl where
    by : (b : Bool) → releases k e ≡ b → (d : Bool) → ends k first e ≡ d → responses k first r (e ∷ []) ≡ added r
    by true is d does = rw is refl
    by false is true does = rw is (rw does refl)
    by false is false does = rw is (rw does refl)

  pub responses_more : (r : ℕ) (es : List Event) → responses k first r (es ++ e ∷ []) ≡ responses k first r es ++ added (released_by k r es)
  responses_more r [] = alone r
  responses_more r (x ∷ es) = by (releases k x) refl (ends k first x) refl (responses_more x.tick es) (responses_more r es) where
    by : (b : Bool) → releases k x ≡ b → (d : Bool) → ends k first x ≡ d → responses k first x.tick (es ++ e ∷ []) ≡ responses k first x.tick es ++ added (released_by k x.tick es) → responses k first r (es ++ e ∷ []) ≡ responses k first r es ++ added (released_by k r es) → responses k first r ((x ∷ es) ++ e ∷ []) ≡ responses k first r (x ∷ es) ++ added (released_by k r (x ∷ es))
    by true is d does later other = rw is later
    by false is true does later other = rw is (rw does (ap (λ (rs : List ℕ). (x.tick + 1 - r) ∷ rs) other))
    by false is false does later other = rw is (rw does other)

fold_more : (m : ℕ) (rs : List ℕ) (r : ℕ) → fold max m (rs ++ r ∷ []) ≡ max (fold max m rs) r
fold_more m [] r = refl
fold_more m (x ∷ rs) r = fold_more (max m x) rs r

pub longest_more : (rs : List ℕ) (r : ℕ) → longest (rs ++ r ∷ []) ≡ with_longest (longest rs) r
longest_more [] r = refl
longest_more (x ∷ rs) r = ap (λ (n : ℕ). Some n) (fold_more x rs r)

-- ---- what is kept

same_process : (n : ℕ) → nat_eq n n ≡ true
same_process n = grind (arith, nat_tests)

pub releases_is : (e : Event) → releases e.proc e ≡ is_release e.act
releases_is e = ap (λ (b : Bool). b && is_release e.act) (same_process e.proc)

pub ends_is : (e : Event) (first : ℕ) → ends e.proc first e ≡ (is_end e.act && nat_le first e.tick)
ends_is e first = ap (λ (b : Bool). b && (is_end e.act && nat_le first e.tick)) (same_process e.proc)

module _ (k first : ℕ) (es : List Event) (e : Event) (old new : Trace) (counts : Counts k first es old) where
  abbrev before : List ℕ
  before = responses k first 0 es

  pub noted_release : releases k e ≡ true → new.released ≡ e.tick → new.ended ≡ old.ended → new.longest ≡ old.longest → Counts k first (es ++ e ∷ []) new
  noted_release is released ended longest_is =
      let all : responses k first 0 (es ++ e ∷ []) ≡ before = responses_more k first e 0 es ∙ (ap (λ (b : Bool). before ++ cond b [] (cond (ends k first e) ((e.tick + 1 - released_by k 0 es) ∷ []) [])) is ∙ append-nil before) in
      record {
        released = released ∙ sym (released_more k first e 0 es ∙ ap (λ (b : Bool). cond b e.tick (released_by k 0 es)) is);
        ended = ended ∙ (counts.ended ∙ ap (λ (rs : List ℕ). length rs) (sym all));
        longest = longest_is ∙ (counts.longest ∙ ap (λ (rs : List ℕ). longest rs) (sym all));
      }

  pub noted_other : releases k e ≡ false → ends k first e ≡ false → new.released ≡ old.released → new.ended ≡ old.ended → new.longest ≡ old.longest → Counts k first (es ++ e ∷ []) new
  noted_other is none released ended longest_is =
      let all : responses k first 0 (es ++ e ∷ []) ≡ before =
      responses_more k first e 0 es
      ∙ (ap (λ (b : Bool). before ++ cond b [] (cond (ends k first e) ((e.tick + 1 - released_by k 0 es) ∷ []) [])) is
      ∙ (ap (λ (b : Bool). before ++ cond b ((e.tick + 1 - released_by k 0 es) ∷ []) []) none ∙ append-nil before)) in
      record {
        released = released ∙ (counts.released ∙ sym (released_more k first e 0 es ∙ ap (λ (b : Bool). cond b e.tick (released_by k 0 es)) is));
        ended = ended ∙ (counts.ended ∙ ap (λ (rs : List ℕ). length rs) (sym all));
        longest = longest_is ∙ (counts.longest ∙ ap (λ (rs : List ℕ). longest rs) (sym all));
      }

  pub noted_end : releases k e ≡ false → ends k first e ≡ true → new.released ≡ old.released → new.ended ≡ old.ended + 1 → new.longest ≡ with_longest old.longest (e.tick + 1 - old.released) → Counts k first (es ++ e ∷ []) new
  noted_end is does released ended longest_is =
      let r : ℕ = e.tick + 1 - released_by k 0 es in
      let all : responses k first 0 (es ++ e ∷ []) ≡ before ++ r ∷ [] =
      responses_more k first e 0 es
      ∙ (ap (λ (b : Bool). before ++ cond b [] (cond (ends k first e) (r ∷ []) [])) is
      ∙ ap (λ (b : Bool). before ++ cond b (r ∷ []) []) does) in
      let one : length (before ++ r ∷ []) ≡ length before + 1 = length-append before (r ∷ []) in
      record {
        released = released ∙ (counts.released ∙ sym (released_more k first e 0 es ∙ ap (λ (b : Bool). cond b e.tick (released_by k 0 es)) is));
        ended = ended ∙ (ap (λ (n : ℕ). n + 1) counts.ended ∙ (sym one ∙ ap (λ (rs : List ℕ). length rs) (sym all)));
        longest =
            longest_is
            ∙ (ap (λ (m : Option ℕ). with_longest m (e.tick + 1 - old.released)) counts.longest
            ∙ (ap (λ (n : ℕ). with_longest (longest before) (e.tick + 1 - n)) counts.released
            ∙ (sym (longest_more before r) ∙ ap (λ (rs : List ℕ). longest rs) (sym all))));
      }

-- an event of another process changes nothing
pub noted_by_other : (k first : ℕ) (es : List Event) (e : Event) (trace : Trace) → nat_eq e.proc k ≡ false → Counts k first es trace → Counts k first (es ++ e ∷ []) trace
noted_by_other k first es e trace other counts =
    let no_release : releases k e ≡ false = ap (λ (b : Bool). b && is_release e.act) other in
    let no_end : ends k first e ≡ false = ap (λ (b : Bool). b && (is_end e.act && nat_le first e.tick)) other in
    noted_other k first es e trace trace counts no_release no_end refl refl refl
