-- The sweep over the addresses, one step at a time.
use Rattle.std.proofs.Common.{◌≡◌, ◌≤◌, ◌<◌, ◌+◌, ◌-◌, ◌⊎◌, ℕ, zero, suc, Bool, true, false, List, [], ◌∷◌, ◌++◌, Option, Some, None, length, arith, refl, ap, sym, ◌∙◌, subst, map, append_assoc, take, get_or}
use Rattle.std.specs.Prelude.{cond, nat_eq, option_map, slice_get}
use Rattle.std.proofs.lemmas.Grind.{common_steps}
use Rattle.std.proofs.lemmas.List.{length-map, map-append, take_all}
use Rattle.std.proofs.Math.ListN.{length-append}
use Rattle.std.specs.Option.{option_or}
use Rattle.machine_isa.specs.declared.instr.Instr.{Instr}
use Rattle.image.specs.declared.raw.RawImage.{RawImage}
use Rattle.image.specs.declared.raw.RawProcess.{RawProcess}
use Rattle.image.specs.declared.raw.RawRoutine.{RawRoutine}
use Rattle.image.specs.Raw.{image_of, routine_of, process_of}
use Rattle.machine_semantics.specs.Image.{Image}
use Rattle.valid_image.specs.Fault.{or_else}
use Rattle.valid_image.specs.Operands.{is_same}
use Rattle.valid_image.specs.Pieces.{Piece, Owner, piece_of_routine, piece_of_process, pieces, closest, is_owner, belongs, called, called_by, called_from}
use Rattle.valid_image_law.specs.Swept.{starting}
use Rattle.valid_image_law.proofs.Sweeping.{sweeping_finds_owners}
use Rattle.loader_code.specs.Owned.{start_of, last_start, owned_from, owned, calls_of, IsBelow, AreMarks}

-- the starts of all pieces
routine_starts : (rs : List RawRoutine) → map start_of (map piece_of_routine (map routine_of rs)) ≡ map (λ r. r.start) rs
routine_starts [] = refl
routine_starts (r ∷ rs) = ap (λ xs. r.start ∷ xs) (routine_starts rs)

process_starts : (ps : List RawProcess) → map start_of (map piece_of_process (map process_of ps)) ≡ map (λ p. p.start) ps
process_starts [] = refl
process_starts (p ∷ ps) = ap (λ xs. p.start ∷ xs) (process_starts ps)

pub starts_are : (raw : RawImage) → map start_of (pieces (image_of raw)) ≡ map (λ r. r.start) raw.routines ++ map (λ p. p.start) raw.processes
starts_are raw =
    map-append start_of (map piece_of_routine (map routine_of raw.routines)) (map piece_of_process (map process_of raw.processes))
    ∙ (ap (λ xs. xs ++ map start_of (map piece_of_process (map process_of raw.processes))) (routine_starts raw.routines)
    ∙ ap (λ xs. map (λ r. r.start) raw.routines ++ xs) (process_starts raw.processes))

-- ---- owners

abbrev number : Owner → ℕ
number x = x.number

abbrev pub owner_at : Image → ℕ → Option ℕ
owner_at image a = option_map number (closest (pieces image) 0 a None)

-- the owner of the address before
abbrev pub owner_before : Image → ℕ → Option ℕ
owner_before image zero = None
owner_before image (suc a) = owner_at image a

numbers_or : (x y : Option Owner) → option_map number (or_else x y) ≡ or_else (option_map number x) (option_map number y)
numbers_or (Some x) y = refl
numbers_or None y = refl

number_if : (b : Bool) (x : Owner) → option_map number (cond b (Some x) None) ≡ cond b (Some x.number) None
number_if true x = refl
number_if false x = refl

by_start : (xs : List Piece) (k a : ℕ) → option_map number (starting xs k a) ≡ last_start (map start_of xs) k a
by_start [] k a = refl
by_start (x ∷ xs) k a =
    numbers_or (starting xs (suc k) a) (cond (nat_eq x.start a) (Some (record { number = k; start = x.start })) None)
    ∙ (ap (λ o. or_else o (option_map number (cond (nat_eq x.start a) (Some (record { number = k; start = x.start })) None))) (by_start xs (suc k) a)
    ∙ ap (λ o. or_else (last_start (map start_of xs) (suc k) a) o) (number_if (nat_eq x.start a) (record { number = k; start = x.start })))

or_none : (o : Option ℕ) → or_else o None ≡ o
or_none None = refl
or_none (Some x) = refl

-- the owner of an address is the last piece that starts there, or else the owner of the address before
owner_next : (image : Image) (a : ℕ) → owner_at image a ≡ or_else (last_start (map start_of (pieces image)) 0 a) (owner_before image a)
owner_next image zero = ap (λ o. option_map number o) (sweeping_finds_owners.first (pieces image)) ∙ (by_start (pieces image) 0 0 ∙ sym (or_none (last_start (map start_of (pieces image)) 0 0)))
owner_next image (suc a) =
    let e : suc a ≡ a + 1 = omega arith in
    ap (λ b. owner_at image b) e
    ∙ (ap (λ o. option_map number o) (sweeping_finds_owners.next (pieces image) a)
    ∙ (numbers_or (starting (pieces image) 0 (a + 1)) (closest (pieces image) 0 a None)
    ∙ (ap (λ o. or_else o (owner_at image a)) (by_start (pieces image) 0 (a + 1)) ∙ ap (λ b. or_else (last_start (map start_of (pieces image)) 0 b) (owner_at image a)) (sym e))))

either : (x y : Option ℕ) → option_or x y ≡ or_else x y
either None y = refl
either (Some x) y = refl

pub owner_is : (image : Image) (starts : List ℕ) (mark owner : Option ℕ) (a : ℕ) → starts ≡ map start_of (pieces image) → mark ≡ last_start starts 0 a → owner ≡ owner_before image a → option_or mark owner ≡ owner_at image a
owner_is image starts mark owner a s m o =
    either mark owner ∙ (ap (λ x. or_else x owner) m ∙ (ap (λ x. or_else (last_start starts 0 a) x) o
    ∙ (ap (λ x. or_else (last_start x 0 a) (owner_before image a)) s ∙ sym (owner_next image a))))

-- each owner is a piece that is there
below_or : (n : ℕ) (x y : Option ℕ) → IsBelow n x → IsBelow n y → IsBelow n (or_else x y)
below_or n None y p q = q
below_or n (Some x) y p q = p

below_if : (n k : ℕ) (b : Bool) → k < n → IsBelow n (cond b (Some k) None)
below_if n k true h = h
below_if n k false h = tt

start_below : (xs : List ℕ) (k n a : ℕ) → k + length xs ≡ n → IsBelow n (last_start xs k a)
start_below [] k n a long = tt
start_below (x ∷ xs) k n a long = below_or n (last_start xs (suc k) a) _ (start_below xs (suc k) n a (omega (arith, long))) (below_if n k (nat_eq x a) (omega (arith, long)))

next_below : (image : Image) (a : ℕ) → IsBelow (length (pieces image)) (owner_before image a) → IsBelow (length (pieces image)) (owner_at image a)
next_below image a earlier = subst (λ o. IsBelow (length (pieces image)) o) (sym (owner_next image a)) (below_or (length (pieces image)) (last_start (map start_of (pieces image)) 0 a) (owner_before image a)
    (start_below (map start_of (pieces image)) 0 (length (pieces image)) a (omega (arith, length-map (pieces image) start_of))) earlier)

before_below : (image : Image) (a : ℕ) → IsBelow (length (pieces image)) (owner_before image a)
before_below image zero = tt
before_below image (suc a) = next_below image a (before_below image a)

owner_below : (image : Image) (a : ℕ) → IsBelow (length (pieces image)) (owner_at image a)
owner_below image a = next_below image a (before_below image a)

pub owner_low : (image : Image) (a n : ℕ) (o : Option ℕ) → length (pieces image) ≡ n → o ≡ owner_at image a → IsBelow n o
owner_low image a n o long is = subst (λ x. IsBelow n x) (sym is) (subst (λ m. IsBelow m (owner_at image a)) long (owner_below image a))

-- ---- the addresses of a piece

belonging : (image : Image) (k a : ℕ) (o : Option Owner) → is_owner k o ≡ is_same k (option_map number o)
belonging image k a None = refl
belonging image k a (Some x) = refl

-- one more address is swept
pub swept : (image : Image) (k a : ℕ) (o : Option ℕ) (xs ys : List ℕ) → a < length image.code → o ≡ owner_at image a
    → xs ++ owned_from image k (length image.code - a) a ≡ owned image k → ys ≡ xs ++ cond (is_same k o) (a ∷ []) []
    → ys ++ owned_from image k (length image.code - (a + 1)) (a + 1) ≡ owned image k
swept image k a o xs ys low is held grown =
    let n : ℕ = length image.code - (a + 1) in
    let fewer : length image.code - a ≡ suc n = omega (arith, low) in
    let owns : belongs image k a ≡ is_same k o = belonging image k a (closest (pieces image) 0 a None) ∙ ap (λ x. is_same k x) (sym is) in
    ap (λ zs. zs ++ owned_from image k n (a + 1)) grown
    ∙ (append_assoc xs (cond (is_same k o) (a ∷ []) []) (owned_from image k n (a + 1))
    ∙ (ap (λ b. xs ++ (cond b (a ∷ []) [] ++ owned_from image k n (a + 1))) (sym owns) ∙ (ap (λ m. xs ++ owned_from image k m a) (sym fewer) ∙ held)))

-- what a piece calls, from its addresses
calls_if : (image : Image) (a : ℕ) (b : Bool) (xs addresses : List ℕ) → xs ≡ calls_of image.code addresses → cond b (called_by (slice_get image.code a)) [] ++ xs ≡ calls_of image.code (cond b (a ∷ []) [] ++ addresses)
calls_if image a true xs addresses is = ap (λ ys. called_by (slice_get image.code a) ++ ys) is
calls_if image a false xs addresses is = is

calls_from : (image : Image) (k n a : ℕ) → called_from image k n a ≡ calls_of image.code (owned_from image k n a)
calls_from image k zero a = refl
calls_from image k (suc n) a = calls_if image a (belongs image k a) (called_from image k n (a + 1)) (owned_from image k n (a + 1)) (calls_from image k n (a + 1))

pub calls_are : (image : Image) (k : ℕ) → called image k ≡ calls_of image.code (owned image k)
calls_are image k = calls_from image k (length image.code) 0

pub calls_more : (code : List Instr) (addresses : List ℕ) (i : ℕ) → i < length addresses → calls_of code (take (i + 1) addresses) ≡ calls_of code (take i addresses) ++ called_by (slice_get code (get_or addresses i 0))
calls_more code addresses i low = grind (arith, common_steps)

pub piece_calls : (image : Image) (k : ℕ) (code : List Instr) (addresses called_there : List ℕ) → code ≡ image.code → addresses ≡ owned image k → called_there ≡ calls_of code addresses → called_there ≡ called image k
piece_calls image k code addresses called_there whole is calls = calls ∙ (ap (λ c. calls_of c addresses) whole ∙ (ap (λ xs. calls_of image.code xs) is ∙ sym (calls_are image k)))

pub starts_all : (raw : RawImage) (xs : List ℕ) (i : ℕ) → length raw.processes ≤ i → xs ≡ map (λ r. r.start) raw.routines ++ map (λ p. p.start) (take i raw.processes) → xs ≡ map start_of (pieces (image_of raw))
starts_all raw xs i past is = is ∙ (ap (λ ps. map (λ r. r.start) raw.routines ++ map (λ p. p.start) ps) (take_all i raw.processes past) ∙ sym (starts_are raw))

-- the owner of the next address is found
pub owner_found : (image : Image) (starts : List ℕ) (marks held : List (Option ℕ)) (n a : ℕ) (owner next : Option ℕ) → starts ≡ map start_of (pieces image) → AreMarks starts n marks → held ≡ marks → a < n
    → owner ≡ owner_before image a → next ≡ option_or (get_or held a None) owner → next ≡ owner_at image a
owner_found image starts marks held n a owner next s m h low o is =
    is ∙ (ap (λ xs. option_or (get_or xs a None) owner) h ∙ owner_is image starts (get_or marks a None) owner a s (m.each a low) o)

pub owner_on : (image : Image) (a : ℕ) (next : Option ℕ) → next ≡ owner_at image a → next ≡ owner_before image (a + 1)
owner_on image a next is = let e : suc a ≡ a + 1 = omega arith in is ∙ ap (λ b. owner_before image b) e

pub pieces_long : (image : Image) → length (pieces image) ≡ length image.routines + length image.processes
pieces_long image =
    let a = length-append (map piece_of_routine image.routines) (map piece_of_process image.processes) in
    omega (arith, a, length-map image.routines piece_of_routine, length-map image.processes piece_of_process)
