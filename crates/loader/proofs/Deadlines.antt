-- The deadlines of an image as it stands in a file.
use Rattle.std.proofs.Common.{◌≡◌, ◌≤◌, ◌<◌, ◌+◌, ◌++◌, ℕ, zero, suc, List, [], ◌∷◌, drop, length, Option, Some, None, arith, refl, ap, sym, ◌∙◌, map, get_or}
use Rattle.std.specs.Prelude.{◌&&◌, ◌||◌, nat_eq, nat_lt, nat_le, cond, slice_get}
use Rattle.std.proofs.lemmas.List.{length-map, drop_more, get_or_past}
use Rattle.std.proofs.lemmas.Option.{slice_get-map, slice_get-get_or}
use Rattle.image.specs.declared.raw.RawImage.{RawImage}
use Rattle.image.specs.declared.raw.RawMonitor.{RawMonitor}
use Rattle.image.specs.declared.raw.RawProcess.{RawProcess}
use Rattle.image.specs.declared.raw.RawRoutine.{RawRoutine}
use Rattle.machine_semantics.specs.Image.{Image}
use Rattle.image.specs.Raw.{image_of, process_of, monitor_of, routine_of}
use Rattle.valid_image.specs.Pieces.{called, piece_number}
use Rattle.valid_image.specs.Tables.{reach, stays_at, stay_of_process, longest_of, longer_stay, own_stay}
use Rattle.loader_code.specs.Owned.{AreCalls}
use Rattle.loader_code.proofs.Sweeping.{pieces_long}
use Rattle.loader_code.proofs.Tables.{stay_row, stay_rows}
use Rattle.std.proofs.Math.ListN.{length-append}
use Rattle.base.proofs.Lists.{map_get, one_more}
use Rattle.valid_image.specs.Times.{deadline_of, deadline_at, process_outranks, ticks_of, blocking_stay, blocking_by, longest_blocking, enters, is_some}
use Rattle.loader.specs.Stays.{AreStays, AreStaysOfRoutines, AreFirstStays, stay_in, blocking_at, blocking_of}

process_is : (image : RawImage) (k : ℕ) (p : RawProcess) → k < length image.processes → p ≡ get_or image.processes k p → slice_get (image_of image).processes k ≡ Some (process_of p)
process_is image k p low is = map_get process_of image.processes k p (slice_get-get_or image.processes k p low ∙ ap (λ x. Some x) (sym is))

deadline_is : (image : RawImage) (k : ℕ) (p : RawProcess) → k < length image.processes → p ≡ get_or image.processes k p → deadline_at (image_of image) k ≡ p.deadline
deadline_is image k p low is = ap (λ o. deadline_of o) (process_is image k p low is)

pub outranks_is : (image : RawImage) (j k : ℕ) (p q : RawProcess) → j < length image.processes → k < length image.processes → p ≡ get_or image.processes j p → q ≡ get_or image.processes k q
    → process_outranks (image_of image) j k ≡ (nat_lt p.deadline q.deadline || (nat_eq p.deadline q.deadline && nat_lt j k))
outranks_is image j k p q low_j low_k is_p is_q =
    ap (λ d. nat_lt d (deadline_at (image_of image) k) || (nat_eq d (deadline_at (image_of image) k) && nat_lt j k)) (deadline_is image j p low_j is_p)
    ∙ ap (λ d. nat_lt p.deadline d || (nat_eq p.deadline d && nat_lt j k)) (deadline_is image k q low_k is_q)

-- ---- stays and blocks

pub stay_is : (image : Image) (rows : List (List (Option ℕ))) (k m : ℕ) → AreStays image rows → k < length image.processes → m < length image.monitors → stay_in rows k m ≡ stay_of_process image k m
stay_is image rows k m are low_k low_m =
    let row = are.each m (omega (arith, low_m, are.one_each)) in
    row.each k (omega (arith, low_k, row.one_each))

monitor_there : (image : RawImage) (m : ℕ) (x : RawMonitor) → m < length image.monitors → x ≡ get_or image.monitors m x → slice_get (image_of image).monitors m ≡ Some (monitor_of x)
monitor_there image m x low is = map_get monitor_of image.monitors m x (slice_get-get_or image.monitors m x low ∙ ap (λ y. Some y) (sym is))

pub blocking_is : (image : RawImage) (rank k m : ℕ) (x : RawMonitor) → m < length image.monitors → x ≡ get_or image.monitors m x → blocking_at (image_of image) rank k m ≡ cond (nat_le x.ceiling rank) (ticks_of (stay_of_process (image_of image) k m)) 0
blocking_is image rank k m x low is = ap (λ o. blocking_stay (image_of image) rank k m o) (monitor_there image m x low is)

pub blocked_is : (image : RawImage) (rank k : ℕ) (p : RawProcess) → k < length image.processes → p ≡ get_or image.processes k p → blocking_of (image_of image) rank k ≡ cond (nat_lt rank p.rank) (longest_blocking (image_of image) rank k (length image.monitors)) 0
blocked_is image rank k p low is =
    ap (λ o. blocking_by (image_of image) rank k o) (process_is image k p low is)
    ∙ ap (λ n. cond (nat_lt rank p.rank) (longest_blocking (image_of image) rank k n) 0) (length-map image.monitors monitor_of)

pub enters_is : (image : Image) (k m : ℕ) (o : Option ℕ) → o ≡ stay_of_process image k m → enters image k m ≡ is_some o
enters_is image k m o is = ap (λ x. is_some x) (sym is)

-- nothing is told of a monitor that is not there
pub stay_past : (rows : List (List (Option ℕ))) (k m : ℕ) → length rows ≤ m → None ≡ stay_in rows k m
stay_past rows k m past = sym (ap (λ row. get_or row k None) (get_or_past rows m [] past))

-- ---- rows

pub longest_more : (f : ℕ → Option ℕ) (called : List ℕ) (i : ℕ) (here best answer : Option ℕ) → i < length called → here ≡ f (get_or called i 0) → best ≡ longest_of f (drop (i + 1) called) → answer ≡ longer_stay here best → answer ≡ longest_of f (drop i called)
longest_more f called i here best answer low is rest found =
    found ∙ (ap (λ x. longer_stay x best) is ∙ (ap (λ x. longer_stay (f (get_or called i 0)) x) rest ∙ sym (ap (λ xs. longest_of f xs) (drop_more called i 0 low))))

routine_there : (image : RawImage) (r : ℕ) (x : RawRoutine) → r < length image.routines → x ≡ get_or image.routines r x → slice_get (image_of image).routines r ≡ Some (routine_of x)
routine_there image r x low is = map_get routine_of image.routines r x (slice_get-get_or image.routines r x low ∙ ap (λ y. Some y) (sym is))

pub process_calls_there : (image : RawImage) (calls : List (List ℕ)) (k : ℕ) → AreCalls (image_of image) calls → k < length image.processes → length image.routines + k < length calls
process_calls_there image calls k are low = omega (arith, low, are.one_each, pieces_long (image_of image), length-map image.routines routine_of, length-map image.processes process_of)

pub stay_next : (image : RawImage) (m r : ℕ) (x : RawRoutine) (ss : List (Option ℕ)) (rs : List ℕ) (own best answer : Option ℕ) → r < length image.routines → x ≡ get_or image.routines r x → AreFirstStays (image_of image) m r ss
    → rs ≡ called (image_of image) r → own ≡ own_stay (routine_of x) m → best ≡ longest_of (λ j. get_or ss j None) rs → answer ≡ longer_stay own best → answer ≡ stays_at (reach (image_of image)) m r
stay_next image m r x ss rs own best answer low at rows calls is_own is_best found =
    found ∙ (ap (λ s. longer_stay s best) is_own ∙ (ap (λ s. longer_stay (own_stay (routine_of x) m) s) is_best
    ∙ stay_row (image_of image) m r (routine_of x) ss rs (routine_there image r x low at) rows.one_each rows.each calls))

pub stay_more : (image : Image) (m n : ℕ) (xs ys : List (Option ℕ)) (x : Option ℕ) → AreFirstStays image m n xs → ys ≡ xs ++ x ∷ [] → x ≡ stays_at (reach image) m n → AreFirstStays image m (n + 1) ys
stay_more image m n xs ys x rows new is = record {
  one_each = ap (λ zs. length zs) new ∙ (length-append xs (x ∷ []) ∙ ap (λ k. k + 1) rows.one_each);
  each = one_more (λ k s. s ≡ stays_at (reach image) m k) xs ys x None n rows.one_each new rows.each is;
}

pub stay_by_rows : (image : RawImage) (m k : ℕ) (ss : List (Option ℕ)) (rs : List ℕ) (answer : Option ℕ) → AreStaysOfRoutines (image_of image) m ss → rs ≡ called (image_of image) (length image.routines + k)
    → answer ≡ longest_of (λ j. get_or ss j None) rs → answer ≡ stay_of_process (image_of image) k m
stay_by_rows image m k ss rs answer rows calls found =
    let piece : length image.routines + k ≡ piece_number (image_of image) k = omega (arith, length-map image.routines routine_of) in
    found ∙ (stay_rows (image_of image) m ss rows.one_each rows.each rs ∙ ap (λ xs. longest_of (stays_at (reach (image_of image)) m) xs) (calls ∙ ap (λ p. called (image_of image) p) piece))
