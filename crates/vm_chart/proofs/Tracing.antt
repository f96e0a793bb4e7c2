-- What is kept of each process, and of all.
use Rattle.std.proofs.Common.{◌≡◌, ◌≤◌, ◌<◌, ◌+◌, ◌-◌, ◌++◌, inl, inr, ℕ, List, [], ◌∷◌, Some, get_or, length, take, append_assoc, map, arith, refl, ap, sym, subst, ◌∙◌}
use Rattle.std.specs.Prelude.{All, min, slice_get, slice_set}
use Rattle.std.specs.List.{range_with_len}
use Rattle.std.proofs.lemmas.Bool.{cases_lt}
use Rattle.std.proofs.lemmas.List.{length-append, length-take, take_more}
use Rattle.std.proofs.lemmas.Option.{slice_get-get_or, slice_get_within}
use Rattle.base.proofs.Lists.{all_back, all_front, get_other, get_set, one_of, one_some}
use Rattle.base.specs.declared.event.Event.{Event}
use Rattle.machine_semantics.specs.Image.{Image, Script}
use Rattle.machine_semantics.specs.Run.{events, events_from, state_at}
use Rattle.run_chart.specs.declared.letter.Letter.{Letter}
use Rattle.run_chart.specs.Letters.{drawn, first_of, first_of_two, letter_at}
use Rattle.run_chart.specs.Spans.{shown}
use Rattle.run_chart.specs.declared.trace.Trace.{Trace}
use Rattle.run_chart.specs.Traces.{Counts}
use Rattle.run_chart.proofs.Seeing.{seen_to}
use Rattle.vm_stretch.specs.RowLaws.{begun}
use Rattle.vm_runner.specs.Alike.{StayAlike}
use Rattle.vm_runner.specs.Standing.{events_between}
use Rattle.vm_runner.specs.ByRanks.{by_ranks}
use Rattle.vm_runner.proofs.ByRanks.{cut}
use Rattle.vm_runner.proofs.Cut.{cut_at}
use Rattle.vm_chart.specs.Follows.{Drawing, Each, IsBeforeLastTick, IsDrawnTo, IsFresh, begins, events_before}
use Rattle.vm_chart.proofs.Alike.{same_letter}

-- ---- one after the other

-- the first i are done, and the others are left
pub record Split (P Q : ℕ → Trace → Type 0) (i : ℕ) (xs : List Trace) : Type 0 where
  pub done : (k : ℕ) (x : Trace) → slice_get xs k ≡ Some x → k < i → Q k x
  pub left : (k : ℕ) (x : Trace) → slice_get xs k ≡ Some x → i ≤ k → P k x

module _ (P Q : ℕ → Trace → Type 0) where
  pub split_start : (xs : List Trace) → Each P xs → Split P Q 0 xs
  split_start xs each = record { done = λ k x at low. absurd (omega (arith, low)); left = λ k x at low. each k x at }

  pub split_end : (n : ℕ) (xs : List Trace) → Split P Q n xs → length xs ≤ n → Each Q xs
  split_end n xs split all k x at = (let low : k < length xs = slice_get_within xs k x at in split.done k x at (omega (arith, low, all)))

  -- the one that comes next
  pub split_next : (i : ℕ) (xs : List Trace) (x : Trace) → Split P Q i xs → i < length xs → x ≡ get_or xs i x → P i x
  split_next i xs x split low is = split.left i x (slice_get-get_or xs i x low ∙ ap (λ (y : Trace). Some y) (sym is)) (omega arith)

  pub split_on : (i : ℕ) (xs : List Trace) (x new : Trace) → Split P Q i xs → i < length xs → x ≡ get_or xs i x → Q i new → Split P Q (i + 1) (slice_set xs i new)
  split_on i xs x new split low is one =
      let at : slice_get xs i ≡ Some x = slice_get-get_or xs i x low ∙ ap (λ (y : Trace). Some y) (sym is) in
      record {
        done = λ k y there before. elim (cases_lt k i) [
          | inl earlier ↦ split.done k y (sym (get_other xs i k new (λ same. omega (arith, same, earlier))) ∙ there) earlier
          | inr later ↦
              let here : i ≡ k = omega (arith, before, later) in
              let set : slice_get (slice_set xs i new) i ≡ Some new = get_set xs i new x at in
              let same : new ≡ y = one_some set (ap (λ (n : ℕ). slice_get (slice_set xs i new) n) here ∙ there) in
              subst (λ (n : ℕ). Q n y) here (subst (λ (z : Trace). Q i z) same one)
        ];
        left = λ k y there after. split.left k y (sym (get_other xs i k new (λ same. omega (arith, same, after))) ∙ there) (omega (arith, after));
      }

-- ---- events

module _ (image : Image) (script : Script) where
  from_start : (t : ℕ) → events_between image script 0 t ≡ events_before image script t
  unfolding state_at
  from_start t = (let all : t - 0 ≡ t = omega arith in ap (λ (n : ℕ). events_from image script n 0 (state_at image script 0)) all)

  -- those before a later tick
  pub before_later : (t u : ℕ) → t ≤ u → events_before image script u ≡ events_before image script t ++ events_between image script t u
  before_later t u later =
      sym (from_start u)
      ∙ (cut_at (by_ranks image script) (cut image script) 0 t u (omega arith) later ∙ ap (λ (es : List Event). es ++ events_between image script t u) (from_start t))

  all_events : events image script ≡ events_before image script script.end_tick
  unfolding events
  all_events = refl

  -- all that fall up to a tick are timely
  pub timely_between : (t u : ℕ) → t ≤ u → u ≤ script.end_tick → All IsBeforeLastTick (events image script) → All IsBeforeLastTick (events_between image script t u)
  timely_between t u later within all =
      let whole : All IsBeforeLastTick (events_before image script u ++ events_between image script u script.end_tick) =
      subst (λ (es : List Event). All IsBeforeLastTick es) (all_events ∙ before_later u script.end_tick within) all in
      let up : All IsBeforeLastTick (events_before image script u) = all_front IsBeforeLastTick (events_before image script u) (events_between image script u script.end_tick) whole in
      all_back IsBeforeLastTick (events_before image script t) (events_between image script t u) (subst (λ (es : List Event). All IsBeforeLastTick es) (before_later t u later) up)

-- the events before and those of a list that were gone over, with the next of these
pub counts_next : (k first : ℕ) (before es : List Event) (i : ℕ) (d : Event) (trace : Trace) → i < length es → Counts k first ((before ++ take i es) ++ get_or es i d ∷ []) trace → Counts k first (before ++ take (i + 1) es) trace
counts_next k first before es i d trace low counts =
    subst (λ (all : List Event). Counts k first all trace) (append_assoc before (take i es) (get_or es i d ∷ []) ∙ ap (λ (x : List Event). before ++ x) (sym (take_more es i d low))) counts

pub few_next : (before es : List Event) (i n : ℕ) → length before + length es < n → length (before ++ take i es) < n
few_next before es i n few =
    let both : length (before ++ take i es) ≡ length before + length (take i es) = length-append before (take i es) in
    let some : length (take i es) ≡ min i (length es) = length-take i es in
    omega (arith, both, some, few)

pub timely_next : (es : List Event) (i : ℕ) (d : Event) → All IsBeforeLastTick es → i < length es → IsBeforeLastTick (get_or es i d)
timely_next es i d all low = one_of IsBeforeLastTick es i (get_or es i d) all (slice_get-get_or es i d low)

-- ---- one process

module _ (d : Drawing) (k : ℕ) where
  -- its letters from the first tick of the column on, up to before a tick
  abbrev seen : ℕ → Letter
  seen u = first_of (map (letter_at d.image d.script k) (range_with_len (begins d) (u - begins d)))

  -- before the column begins there is none
  unseen : (t : ℕ) → t ≤ begins d → seen t ≡ first_of []
  unseen t early = (let none : t - begins d ≡ 0 = omega (arith, early) in ap (λ (n : ℕ). first_of (map (letter_at d.image d.script k) (range_with_len (begins d) n))) none)

  pub still_unseen : (t u : ℕ) (trace : Trace) → t ≤ begins d → u ≤ begins d → IsDrawnTo d t t k trace → IsDrawnTo d u t k trace
  still_unseen t u trace early also is = record { row = is.row; letter = is.letter ∙ (unseen t early ∙ sym (unseen u also)); counts = is.counts }

  pub sees : (t : ℕ) (old new : Trace) (letter : Letter) → begins d ≤ t → letter ≡ letter_at d.image d.script k t → new ≡ record old { letter = first_of_two old.letter letter } → IsDrawnTo d t t k old → IsDrawnTo d (t + 1) t k new
  sees t old new letter from is made old_is =
      let f : ℕ → Letter = letter_at d.image d.script k in
      let next : first_of_two old.letter (f t) ≡ seen (t + 1) =
      seen_to f (f t) old.letter (begins d) t (t + 1) from (omega arith) old_is.letter (λ v low high. (let same : v ≡ t = omega (arith, low, high) in ap f same)) in
      subst (λ (x : Trace). IsDrawnTo d (t + 1) t k x) (sym made) (record {
        row = old_is.row;
        letter = ap (λ (l : Letter). first_of_two old.letter l) is ∙ next;
        counts = record { released = old_is.counts.released; ended = old_is.counts.ended; longest = old_is.counts.longest };
      })

  -- in all ticks of a turn it has the letter of the first
  pub all_alike : (t u : ℕ) (trace : Trace) → begins d ≤ t → t < u → StayAlike d.image d.script t u → IsDrawnTo d (t + 1) t k trace → IsDrawnTo d u t k trace
  all_alike t u trace from later alike is =
      let f : ℕ → Letter = letter_at d.image d.script k in
      let one : first_of_two (seen t) (f t) ≡ seen (t + 1) =
      seen_to f (f t) (seen t) (begins d) t (t + 1) from (omega arith) refl (λ v low high. (let same : v ≡ t = omega (arith, low, high) in ap f same)) in
      let all : first_of_two (seen t) (f t) ≡ seen u =
      seen_to f (f t) (seen t) (begins d) t u from later refl (λ v low high. same_letter d.image (begun d.image d.script t) (begun d.image d.script v) k (alike v low high)) in
      record { row = is.row; letter = is.letter ∙ (sym one ∙ all); counts = is.counts }

  pub notes : (t u : ℕ) (es : List Event) (old new : Trace) → t ≤ u → es ≡ events_between d.image d.script t u → Counts k d.columns.first (events_before d.image d.script t ++ es) new → new.row ≡ old.row → new.letter ≡ old.letter → IsDrawnTo d u t k old → IsDrawnTo d u u k new
  notes t u es old new later are counts row letter is =
      record {
        row = row ∙ is.row;
        letter = letter ∙ is.letter;
        counts =
            subst (λ (all : List Event). Counts k d.columns.first all new)
            (ap (λ (x : List Event). events_before d.image d.script t ++ x) are ∙ sym (before_later d.image d.script t u later)) counts;
      }

-- nothing is drawn before the first tick
pub fresh_is : (d : Drawing) (k t : ℕ) (trace : Trace) → d.column ≡ 0 → t ≡ 0 → IsFresh trace → IsDrawnTo d t t k trace
unfolding events_from
fresh_is d k t trace first start fresh =
    let none : t - begins d ≡ 0 = omega (arith, start) in
    record {
      row = fresh.row ∙ ap (λ (n : ℕ). map (λ i. drawn (shown d.image d.script d.columns k i)) (range_with_len 0 n)) (sym first);
      letter = fresh.letter ∙ ap (λ (n : ℕ). first_of (map (letter_at d.image d.script k) (range_with_len (begins d) n))) (sym none);
      counts = subst (λ (n : ℕ). Counts k d.columns.first (events_before d.image d.script n) trace) (sym start) (fresh.counts k d.columns.first);
    }
