-- The lines of a script, one by one.
use Rattle.std.proofs.Common.{◌≡◌, ◌≢◌, ◌≤◌, ◌<◌, ◌+◌, ◌++◌, ℕ, zero, suc, List, [], ◌∷◌, Some, length, get_or, drop, arith, refl, ap, sym, subst, ◌∙◌, true, false, Bool, inl, inr}
use Rattle.std.specs.Prelude.{slice_get, cond, nat_eq, ◌&&◌}
use Rattle.std.specs.Global.{Vec}
use Rattle.std.proofs.lemmas.List.{append-nil}
use Rattle.std.proofs.lemmas.Option.{slice_get_within}
use Rattle.std.proofs.lemmas.Bool.{cases_lt}
use Rattle.std.proofs.lemmas.Bool.Decides.{nat_tests}
use Rattle.base.proofs.Lists.{get_drop, drop_at, some_at}
use Rattle.base.specs.declared.event.Event.{Event}
use Rattle.machine_semantics.specs.Image.{Image, Process, Line, Occurs}
use Rattle.machine_semantics.specs.State.{State}
use Rattle.machine_semantics.specs.Starts.{Started, followed, line, lines, occurs, queue_of, unchanged}
use Rattle.vm_stretch.specs.Quiet.{line_tick}
use Rattle.vm_stretch.specs.StretchDue.{first_tick}
use Rattle.vm_stretch.specs.StartLawsDue.{AreDone}
use Rattle.vm_stretch.specs.Steps.{AreLeft, HasStarted, named, releases}
use Rattle.vm_stretch.proofs.Leading.{left_begin, left_end, left_same}
use Rattle.vm_stretch.proofs.Parting.{lines_skip, occurs_releases}
use Rattle.script.specs.declared.script.ScriptLine.{ScriptLine}
use Rattle.vm_releases.specs.Begin.{AreBelow, AreToCome, line_of, lines_of}
use Rattle.vm_releases.specs.Order.{rows_of}
use Rattle.vm_stretch.proofs.Quiet.{lines_nothing}

-- ---- rows of the order

pub row_at : (vs : List (Vec ℕ)) (e : ℕ) (v : Vec ℕ) → e < length vs → v ≡ get_or vs e v → queue_of (rows_of vs) e ≡ v.items
row_at [] e v below is = absurd (omega arith)
row_at (w ∷ vs) zero v below is = ap (λ (x : Vec ℕ). x.items) (sym is)
row_at (w ∷ vs) (suc e) v below is = row_at vs e v (omega (arith, below)) is

pub row_past : (vs : List (Vec ℕ)) (e : ℕ) → length vs ≤ e → queue_of (rows_of vs) e ≡ []
row_past [] e past = refl
row_past (w ∷ vs) zero past = absurd (omega arith)
row_past (w ∷ vs) (suc e) past = row_past vs e (omega (arith, past))

named_below : (e k : ℕ) (ps : List Process) (i j : ℕ) → slice_get (named e k ps) i ≡ Some j → j < k + length ps
named_below e k [] i j at = absurd cc
named_below e k (p ∷ ps) i j at = by (nat_eq p.kind 1 && nat_eq p.event e) i at (λ (n : ℕ) (there : slice_get (named e (k + 1) ps) n ≡ Some j). named_below e (k + 1) ps n j there) where
  by : (b : Bool) (i : ℕ) → slice_get (cond b (k ∷ named e (k + 1) ps) (named e (k + 1) ps)) i ≡ Some j → ((n : ℕ) → slice_get (named e (k + 1) ps) n ≡ Some j → j < k + 1 + length ps) → j < k + length (p ∷ ps)
  by true zero at rest = let same : k ≡ j = cc in omega (arith, same)
  by true (suc i) at rest = omega (arith, rest i at)
  by false i at rest = omega (arith, rest i at)

pub named_are_below : (e : ℕ) (ps : List Process) → AreBelow (length ps) (named e 0 ps)
named_are_below e ps i j at = omega (arith, named_below e 0 ps i j at)

-- ---- a line

pub started_same : (go go' : State → Started) (s s' : State) (es es' : List Event) → go s ≡ go' s → HasStarted go s es s' es' → HasStarted go' s es s' es'
started_same go go' s s' es es' same has = record {
  state = has.state ∙ ap (λ (x : Started). x.state) same;
  events = has.events ∙ ap (λ (x : Started). es ++ x.events) same;
  calm = sym (ap (λ (x : Started). x.overrun) same) ∙ has.calm;
}

pub none_started : (go : State → Started) (s : State) (es : List Event) → go s ≡ unchanged s → HasStarted go s es s es
none_started go s es none = record {
  state = sym (ap (λ (x : Started). x.state) none);
  events = sym (append-nil es) ∙ ap (λ (xs : List Event). es ++ xs) (sym (ap (λ (x : Started). x.events) none));
  calm = ap (λ (x : Started). x.overrun) none;
}

pub line_releases : (image : Image) (t u e : ℕ) (s : State) → u ≡ t → line image t (Occurs u e) s ≡ releases image t (named e 0 image.processes) s
line_releases image t u e s now =
    ap (λ (b : Bool). cond b (occurs image t e 0 image.processes s) (unchanged s)) (let test : nat_eq u t ≡ true = grind (arith, nat_tests, now) in test)
    ∙ occurs_releases image t e 0 image.processes s (λ j p at. let same : j ≡ 0 + j = omega arith in subst (λ (n : ℕ). slice_get image.processes n ≡ Some p) same at)

-- ---- all lines

pub lines_begin : (image : Image) (t done : ℕ) (ls : List Line) (s : State) (es : List Event) → AreToCome t done ls → AreLeft (lines image t ls) s es (lines image t (drop done ls)) s es
lines_begin image t done ls s es come =
    left_same (lines image t ls) (lines image t ls) (lines image t (drop done ls)) s s es es (left_begin (lines image t ls) s es)
    (lines_skip image t done ls s (λ i l at early same. (let past = come.past i l at early in omega (arith, past, same))))

-- the line that comes next
pub line_left : (image : Image) (t k : ℕ) (ls : List Line) (l : Line) (go : State → Started) (s s' : State) (es es' : List Event) → slice_get ls k ≡ Some l → AreLeft go s es (lines image t (drop k ls)) s' es'
    → AreLeft go s es (λ (x : State). followed (line image t l x) (lines image t (drop (k + 1) ls))) s' es'
line_left image t k ls l go s s' es es' at left = subst (λ (xs : List Line). AreLeft go s es (lines image t xs) s' es') (drop_at ls k l at) left

-- the lines that are left are of later ticks
pub lines_done : (image : Image) (t done : ℕ) (ls : List Line) (s s' : State) (es es' : List Event) → AreDone t done ls → (lines image t ls s).overrun ≡ false → AreLeft (lines image t ls) s es (lines image t (drop done ls)) s' es' → HasStarted (lines image t ls) s es s' es'
lines_done image t done ls s s' es es' lines_are calm left =
    left_end (lines image t ls) s s' es es' (left_same (lines image t ls) (lines image t (drop done ls)) unchanged s s' es es' left none) calm where
      none : lines image t (drop done ls) s' ≡ unchanged s'
      none = lines_nothing image t (drop done ls) s' (λ i l at same. (let later = lines_are.coming (done + i) l (sym (get_drop ls done i) ∙ at) (omega arith) in omega (arith, later, same)))

-- where the next line is not of this tick, all are done that are
pub none_more : (t k done : ℕ) (ls : List Line) (l : Line) → AreToCome t done ls → done ≤ k → ((i : ℕ) (m : Line) → slice_get ls i ≡ Some m → i < k → line_tick m ≤ t) → slice_get ls k ≡ Some l → line_tick l ≢ t → AreDone t k ls
none_more t k done ls l come from past at differ = record {
  past = past;
  coming = λ i m there late. (let first = come.coming k l at from in let order = come.order k i l m at there late in let apart : line_tick l ≢ t = differ in grind (arith, first, order, apart));
}

-- nor where none comes that is
pub none_due : (t done : ℕ) (ls : List Line) → AreToCome t done ls → first_tick (drop done ls) ≢ Some t → AreDone t done ls
none_due t done ls come differ = record {
  past = λ i m at early. (let low = come.past i m at early in omega (arith, low));
  coming = λ i m at late.
      let rest = some_at ls done (let below = slice_get_within ls i m at in omega (arith, below, late)) in
      (none_more t done done ls rest.0 come (omega arith) (λ j x there early. (let low = come.past j x there early in omega (arith, low))) rest.1
      (λ same. differ (ap (λ (xs : List Line). first_tick xs) (drop_at ls done rest.0 rest.1) ∙ ap (λ (k : ℕ). Some k) same))).coming i m at late;
}

-- at the end of the script all are
pub all_done : (t k : ℕ) (ls : List Line) → length ls ≤ k → ((i : ℕ) (m : Line) → slice_get ls i ≡ Some m → i < k → line_tick m ≤ t) → AreDone t k ls
all_done t k ls end past = record { past = past; coming = λ i m there late. absurd (let within = slice_get_within ls i m there in omega (arith, within, end, late)) }

pub past_more : (t k : ℕ) (ls : List Line) (l : Line) → slice_get ls k ≡ Some l → line_tick l ≡ t → ((i : ℕ) (m : Line) → slice_get ls i ≡ Some m → i < k → line_tick m ≤ t) → (i : ℕ) (m : Line) → slice_get ls i ≡ Some m → i < k + 1 → line_tick m ≤ t
past_more t k ls l at now past i m there early = elim (cases_lt i k) [
  | inl before ↦ past i m there before
  | inr here ↦ (let same : i ≡ k = omega (arith, here, early) in let both : Some m ≡ Some l = sym there ∙ ap (λ (n : ℕ). slice_get ls n) same ∙ at in let is : m ≡ l = cc in let e : line_tick m ≡ line_tick l = ap line_tick is in omega (arith, e, now))
]

-- ---- lines in code

pub occur_releases : (image : Image) (t u e : ℕ) (l : Line) (row : List ℕ) (s : State) → l ≡ Occurs u e → line_tick l ≡ t → row ≡ named e 0 image.processes → line image t l s ≡ releases image t row s
occur_releases image t u e l row s is now same =
    let at : u ≡ t = sym (ap line_tick is) ∙ now in
    ap (λ (x : Line). line image t x s) is ∙ line_releases image t u e s at ∙ ap (λ (ks : List ℕ). releases image t ks s) (sym same)

pub line_at : (ss : List ScriptLine) (k : ℕ) (d : ScriptLine) → k < length ss → slice_get (lines_of ss) k ≡ Some (line_of (get_or ss k d))
line_at [] k d below = absurd (omega arith)
line_at (x ∷ ss) zero d below = refl
line_at (x ∷ ss) (suc k) d below = line_at ss k d (omega (arith, below))

pub as_many_lines : (ss : List ScriptLine) → length (lines_of ss) ≡ length ss
as_many_lines [] = refl
as_many_lines (x ∷ ss) = ap suc (as_many_lines ss)
