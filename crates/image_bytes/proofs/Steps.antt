-- One more monitor, routine or process that has its place.
use Rattle.std.proofs.Common.{◌≡◌, ◌<◌, ◌+◌, ◌++◌, ℕ, List, [], ◌∷◌, length, map, take, drop, get_or, refl, sym, ap, ◌∙◌, append_assoc, arith}
use Rattle.std.specs.List.{flat_map}
use Rattle.std.proofs.lemmas.List.{drop_more, take_more, map-append}
use Rattle.image_format.specs.Numbers.{name_bytes}
use Rattle.image.specs.declared.raw.RawMonitor.{RawMonitor}
use Rattle.image.specs.declared.raw.RawProcess.{RawProcess}
use Rattle.image.specs.declared.raw.RawRoutine.{RawRoutine}
use Rattle.image.specs.Bytes.{Second, monitors_bytes, processes_bytes, routine_bytes}
use Rattle.image.specs.Raw.{monitor_of, process_of, routine_of}
use Rattle.image_bytes.specs.Fields.{process_fields, routine_fields}
use Rattle.image_bytes.specs.Reads.{MonitorIsRead, ProcessIsRead, RoutineIsRead, guarded_bytes, numbered_bytes}
use Rattle.image_bytes.proofs.ImagePlacesPlaced.{Placed, one_more_placed}
use Rattle.image_reader.specs.Grammar.{monitor_format}

-- the first of those that are left
first_left : {A : Type 0} (xs : List A) (i : ℕ) (x d : A) → i < length xs → x ≡ get_or xs i d → drop i xs ≡ x ∷ drop (i + 1) xs
first_left xs i x d within is = drop_more xs i d within ∙ ap (λ y. y ∷ drop (i + 1) xs) (sym is)

-- one more of what they become
one_more_done : {A B : Type 0} (f : A → B) (xs : List A) (i : ℕ) (x d : A) → i < length xs → x ≡ get_or xs i d → map f (take (i + 1) xs) ≡ map f (take i xs) ++ f x ∷ []
one_more_done f xs i x d within is = ap (map f) (take_more xs i d within ∙ ap (λ y. take i xs ++ y ∷ []) (sym is)) ∙ map-append f (take i xs) (x ∷ [])

pub one_monitor_more : (names : List (List ℕ)) (ms : List RawMonitor) (i : ℕ) (name : List ℕ) (m d : RawMonitor) (start : ℕ) (written : List ℕ) (at : ℕ) (places new : List ℕ) (place : ℕ)
    → i < length names → i < length ms → name ≡ get_or names i name → m ≡ get_or ms i d → MonitorIsRead (monitor_of m)
    → Placed monitor_format start written at (monitors_bytes (drop i names) (map monitor_of (drop i ms))) places (map monitor_of (take i ms)) → place ≡ at + length (name_bytes name)
    → new ≡ places ++ place ∷ []
    → Placed monitor_format start written (place + 10) (monitors_bytes (drop (i + 1) names) (map monitor_of (drop (i + 1) ms))) new (map monitor_of (take (i + 1) ms))
one_monitor_more names ms i name m d start written at places new place named within name_is m_is read so_far place_is new_is =
    let left : List ℕ = monitors_bytes (drop (i + 1) names) (map monitor_of (drop (i + 1) ms)) in
    let own : List ℕ = guarded_bytes (monitor_of m) in
    let more_is : monitors_bytes (drop i names) (map monitor_of (drop i ms)) ≡ name_bytes name ++ (own ++ left) =
    ap (λ ns. monitors_bytes ns (map monitor_of (drop i ms))) (first_left names i name name named name_is)
    ∙ ap (λ rs. monitors_bytes (name ∷ drop (i + 1) names) (map monitor_of rs)) (first_left ms i m d within m_is) ∙ append_assoc (name_bytes name) own left in
    one_more_placed monitor_format start written at (name_bytes name) own left _ places new (map monitor_of (take i ms)) _ (monitor_of m) place (place + 10) so_far more_is
    (one_more_done monitor_of ms i m d within m_is) read place_is refl new_is

pub one_routine_more : (rs : List RawRoutine) (i : ℕ) (r : RawRoutine) (start : ℕ) (written : List ℕ) (at : ℕ) (places new : List ℕ) (after : ℕ) → i < length rs → r ≡ get_or rs i r
    → RoutineIsRead (routine_of r) → Placed routine_fields start written at (flat_map routine_bytes (map routine_of (drop i rs))) places (map routine_of (take i rs))
    → after ≡ at + length (routine_bytes (routine_of r)) → new ≡ places ++ at ∷ []
    → Placed routine_fields start written after (flat_map routine_bytes (map routine_of (drop (i + 1) rs))) new (map routine_of (take (i + 1) rs))
one_routine_more rs i r start written at places new after within r_is read so_far after_is new_is =
    let left : List ℕ = flat_map routine_bytes (map routine_of (drop (i + 1) rs)) in
    let own : List ℕ = routine_bytes (routine_of r) in
    let more_is : flat_map routine_bytes (map routine_of (drop i rs)) ≡ [] ++ (own ++ left) = ap (λ qs. flat_map routine_bytes (map routine_of qs)) (first_left rs i r r within r_is) in
    one_more_placed routine_fields start written at [] own left _ places new (map routine_of (take i rs)) _ (routine_of r) at after so_far more_is
    (one_more_done routine_of rs i r r within r_is) read (omega arith) after_is new_is

pub one_process_more : (names : List (List ℕ)) (ps : List RawProcess) (i : ℕ) (name : List ℕ) (p : RawProcess) (start : ℕ) (written : List ℕ) (at : ℕ) (places new : List ℕ) (place after : ℕ)
    → i < length names → i < length ps → name ≡ get_or names i name → p ≡ get_or ps i p → ProcessIsRead (process_of p)
    → Placed process_fields start written at (processes_bytes Second (drop i names) (map process_of (drop i ps))) places (map process_of (take i ps)) → place ≡ at + length (name_bytes name)
    → after ≡ place + length (numbered_bytes (process_of p)) → new ≡ places ++ place ∷ []
    → Placed process_fields start written after (processes_bytes Second (drop (i + 1) names) (map process_of (drop (i + 1) ps))) new (map process_of (take (i + 1) ps))
one_process_more names ps i name p start written at places new place after named within name_is p_is read so_far place_is after_is new_is =
    let left : List ℕ = processes_bytes Second (drop (i + 1) names) (map process_of (drop (i + 1) ps)) in
    let own : List ℕ = numbered_bytes (process_of p) in
    let more_is : processes_bytes Second (drop i names) (map process_of (drop i ps)) ≡ name_bytes name ++ (own ++ left) =
    ap (λ ns. processes_bytes Second ns (map process_of (drop i ps))) (first_left names i name name named name_is)
    ∙ ap (λ qs. processes_bytes Second (name ∷ drop (i + 1) names) (map process_of qs)) (first_left ps i p p within p_is) ∙ append_assoc (name_bytes name) own left in
    one_more_placed process_fields start written at (name_bytes name) own left _ places new (map process_of (take i ps)) _ (process_of p) place after so_far more_is
    (one_more_done process_of ps i p p within p_is) read place_is after_is new_is
