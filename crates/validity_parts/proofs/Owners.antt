-- The fault of an operand is that of the piece that its address belongs to.
use Rattle.std.proofs.Common.{◌≡◌, ◌<◌, ◌≤◌, ◌+◌, ◌-◌, ◌++◌, ℕ, zero, suc, Bool, true, false, List, [], ◌∷◌, length, Option, Some, None, ℤ, arith, refl, ap, sym, subst, ◌∙◌, map, drop, get_or}
use Rattle.std.specs.Prelude.{◌&&◌, cond, nat_le, nat_lt, slice_get}
use Rattle.std.proofs.lemmas.List.{drop_more, drop_all}
use Rattle.std.proofs.lemmas.Bool.{eqb-true}
use Rattle.std.proofs.lemmas.Bool.Decides.{nat_tests}
use Rattle.std.proofs.lemmas.Option.{slice_get_within}
use Rattle.machine_isa.specs.declared.instr.Instr.{Instr}
use Rattle.machine_semantics.specs.Image.{Image}
use Rattle.valid_image.specs.Fault.{Fault, unless, or_else, first_of, of_some, first_in}
use Rattle.valid_image.specs.Operands.{Whose, whose_routine, whose_process, shown_operand, bad_operand, operand_fault_at, operand_fault_in, routines_operand_fault, processes_operand_fault, operand_fault}
use Rattle.valid_image.specs.Shape.{is_handler, handler_fault}
use Rattle.valid_image.specs.Pieces.{Piece, Owner, closest, comes_closer, belongs, is_owner, piece_number, pieces}
use Rattle.faulty_part.specs.declared.part.FaultyPart.{FaultyPart}
use Rattle.faulty_part.specs.declared.part.FaultyPart.TheVariants as part
use Rattle.faulty_part.specs.declared.part.Subject.{Subject}
use Rattle.faulty_part.specs.declared.part.Subject.TheVariants as subject
use Rattle.faulty_part.specs.declared.part.PartFault.{PartFault}
use Rattle.valid_image.specs.Valid.{fault_of}
use Rattle.faulty_part.specs.Law.{shown_if, shown_part}
use Rattle.faulty_part.proofs.Whole as law
use Rattle.faulty_part.specs.Parts.{of, part_fault, handler_of_process, handler_part, operand_of_routine, operand_of_process, operand_part}
use Rattle.validity_parts.specs.Found.{IsOwner, is_closer, part_at}
use Rattle.validity_parts.specs.declared.operands.CodePiece.{CodePiece}

-- ---- the closest piece of two lists

pub closest_append : (xs ys : List Piece) (k a : ℕ) (best : Option Owner) → closest (xs ++ ys) k a best ≡ closest ys (length xs + k) a (closest xs k a best)
closest_append [] ys k a best = let e : k ≡ 0 + k = omega arith in ap (λ n. closest ys n a best) e
closest_append (x ∷ xs) ys k a best =
    let next : Option Owner = cond (comes_closer best x.start a) (Some (record { number = k; start = x.start })) best in
    let e : length xs + suc k ≡ suc (length xs) + k = omega arith in
    closest_append xs ys (suc k) a next ∙ ap (λ n. closest ys n a (closest xs (suc k) a next)) e

-- a search through pieces, of which these are left, and the best so far
pub record IsSearch (routines : ℕ) (rest : List Piece) (k a : ℕ) (best : Option CodePiece) (whole : Option Owner) : Type 0 where
  pub owner : Option Owner
  pub is : IsOwner routines best owner
  pub left : closest rest k a owner ≡ whole

first_better : (routines : ℕ) (p : FaultyPart) (k s : ℕ) (test : Bool) → p ≡ part_at routines k → IsOwner routines (cond test (Some (record { part = p; start = s })) None) (cond test (Some (record { number = k; start = s })) None)
first_better routines p k s true is = (is, refl)
first_better routines p k s false is = tt

next_better : (routines : ℕ) (x : CodePiece) (o : Owner) (p : FaultyPart) (k s : ℕ) (test : Bool) → p ≡ part_at routines k → IsOwner routines (Some x) (Some o)
    → IsOwner routines (cond test (Some (record { part = p; start = s })) (Some x)) (cond test (Some (record { number = k; start = s })) (Some o))
next_better routines x o p k s true is held = (is, refl)
next_better routines x o p k s false is held = held

better : (routines : ℕ) (best : Option CodePiece) (owner : Option Owner) (p : FaultyPart) (k s a : ℕ) → p ≡ part_at routines k → IsOwner routines best owner
    → IsOwner routines (cond (is_closer best s a) (Some (record { part = p; start = s })) best) (cond (comes_closer owner s a) (Some (record { number = k; start = s })) owner)
better routines None None p k s a is held = first_better routines p k s (nat_le s a) is
better routines None (Some o) p k s a is held = absurd held
better routines (Some x) None p k s a is held = absurd held
better routines (Some x) (Some o) p k s a is held =
    subst (λ n. IsOwner routines (cond (nat_le s a && nat_le n s) (Some (record { part = p; start = s })) (Some x)) (cond (nat_le s a && nat_le o.start s) (Some (record { number = k; start = s })) (Some o))) (sym held.1)
    (next_better routines x o p k s (nat_le s a && nat_le o.start s) is held)

-- the next piece
pub passed : {A B : Type 0} (routines : ℕ) (v : A → B) (w : B → Piece) (xs : List A) (i before a : ℕ) (x : A) (p : FaultyPart) (best next : Option CodePiece) (whole : Option Owner) → i < length xs → x ≡ get_or xs i x → p ≡ part_at routines (before + i)
    → (s : ℕ) → s ≡ (w (v x)).start → next ≡ cond (is_closer best s a) (Some (record { part = p; start = s })) best
    → IsSearch routines (map w (map v (drop i xs))) (before + i) a best whole → IsSearch routines (map w (map v (drop (i + 1) xs))) (before + (i + 1)) a next whole
passed routines v w xs i before a x p best next whole below is named s starts taken so_far =
    let y = w (v x) in
    let owner : Option Owner = cond (comes_closer so_far.owner y.start a) (Some (record { number = before + i; start = y.start })) so_far.owner in
    let split : drop i xs ≡ x ∷ drop (i + 1) xs = drop_more xs i x below ∙ ap (λ z. z ∷ drop (i + 1) xs) (sym is) in
    let behind : before + (i + 1) ≡ suc (before + i) = omega arith in
    record {
      owner = owner;
      is = subst (λ b. IsOwner routines b owner) (sym (taken ∙ ap (λ n. cond (is_closer best n a) (Some (record { part = p; start = n })) best) starts)) (better routines best so_far.owner p (before + i) y.start a named so_far.is);
      left = ap (λ n. closest (map w (map v (drop (i + 1) xs))) n a owner) behind ∙ sym (ap (λ ys. closest (map w (map v ys)) (before + i) a so_far.owner) split) ∙ so_far.left;
    }

-- no piece is left
pub ended : {A B : Type 0} (routines : ℕ) (v : A → B) (w : B → Piece) (xs : List A) (i k a : ℕ) (best : Option CodePiece) (whole : Option Owner) → length xs ≤ i → IsSearch routines (map w (map v (drop i xs))) k a best whole → IsOwner routines best whole
ended routines v w xs i k a best whole end so_far =
    subst (λ o. IsOwner routines best o) (sym (ap (λ ys. closest (map w (map v ys)) k a so_far.owner) (drop_all i xs end)) ∙ so_far.left) so_far.is

-- the number of a routine, of a process
pub routine_there : (routines r : ℕ) → r < routines → part.Routine r ≡ part_at routines (0 + r)
routine_there routines r low =
    let hit : nat_lt (0 + r) routines ≡ true = grind (arith, nat_tests, low) in
    let same : r ≡ 0 + r = omega arith in
    ap part.Routine same ∙ sym (ap (λ b. cond b (part.Routine (0 + r)) (part.Process (0 + r - routines))) hit)

pub process_there : (routines k : ℕ) → part.Process k ≡ part_at routines (routines + k)
process_there routines k =
    let miss : nat_lt (routines + k) routines ≡ false = grind (arith, nat_tests) in
    let back : k ≡ routines + k - routines = omega arith in
    ap part.Process back ∙ sym (ap (λ b. cond b (part.Routine (routines + k)) (part.Process (routines + k - routines))) miss)

-- ---- the first that has one

record FirstAt (f : ℕ → Option Fault) (n at : ℕ) (y : Fault) : Type 0 where
  k : ℕ
  is : f k ≡ Some y
  named : (g : ℕ → Option PartFault) (z : PartFault) → ((j : ℕ) → f j ≡ None → g j ≡ None) → g k ≡ Some z → first_of g n at ≡ Some z

first_step : (f : ℕ → Option Fault) (n at : ℕ) (y : Fault) (o : Option Fault) → f at ≡ o → first_of f (suc n) at ≡ Some y → (first_of f n (at + 1) ≡ Some y → FirstAt f n (at + 1) y) → FirstAt f (suc n) at y
first_step f n at y None none is later =
    let rest = later (ap (λ o. or_else o (first_of f n (at + 1))) (sym none) ∙ is) in
    record { k = rest.k; is = rest.is; named = λ g z nones some. ap (λ o. or_else o (first_of g n (at + 1))) (nones at none) ∙ rest.named g z nones some }
first_step f n at y (Some x) some is later =
    let this : Some x ≡ Some y = ap (λ o. or_else o (first_of f n (at + 1))) (sym some) ∙ is in
    record { k = at; is = some ∙ this; named = λ g z nones is-z. ap (λ o. or_else o (first_of g n (at + 1))) is-z }

first_at : (f : ℕ → Option Fault) (n at : ℕ) (y : Fault) → first_of f n at ≡ Some y → FirstAt f n at y
first_at f zero at y is = absurd cc
first_at f (suc n) at y is = first_step f n at y (f at) refl is (first_at f n (at + 1) y)

none_step : (f : ℕ → Option Fault) (g : ℕ → Option PartFault) (n at : ℕ) (o : Option Fault) → ((j : ℕ) → f j ≡ None → g j ≡ None) → f at ≡ o → first_of f (suc n) at ≡ None
    → (first_of f n (at + 1) ≡ None → first_of g n (at + 1) ≡ None) → first_of g (suc n) at ≡ None
none_step f g n at None nones none is later =
    ap (λ o. or_else o (first_of g n (at + 1))) (nones at none) ∙ later (ap (λ o. or_else o (first_of f n (at + 1))) (sym none) ∙ is)
none_step f g n at (Some x) nones some is later = let wrong : Some x ≡ None = ap (λ o. or_else o (first_of f n (at + 1))) (sym some) ∙ is in absurd cc

none_named : (f : ℕ → Option Fault) (g : ℕ → Option PartFault) → ((j : ℕ) → f j ≡ None → g j ≡ None) → (n at : ℕ) → first_of f n at ≡ None → first_of g n at ≡ None
none_named f g nones zero at is = refl
none_named f g nones (suc n) at is = none_step f g n at (f at) nones refl is (none_named f g nones n (at + 1))

-- ---- one piece

shown_at : (a : ℕ) (o : Option ℤ) (f : Fault) → shown_operand a o ≡ Some f → f.a ≡ a
shown_at a None f is = absurd cc
shown_at a (Some z) f is = some _ is where
  some : (g : Fault) → Some g ≡ Some f → f.a ≡ g.a
  some g same = let e : f ≡ g = cc in ap (λ (x : Fault). x.a) e

instr_at : (a : ℕ) (bad : Instr → Option ℤ) (i : Option Instr) (f : Fault) → of_some (λ instr. shown_operand a (bad instr)) i ≡ Some f → f.a ≡ a
instr_at a bad None f is = absurd cc
instr_at a bad (Some i) f is = shown_at a (bad i) f is

belongs_at : (image : Image) (k : ℕ) (w : Whose) (a : ℕ) (f : Fault) → operand_fault_at image k w a ≡ Some f → belongs image k f.a ≡ true
belongs_at image k w a f is = go (belongs image k a) refl where
  inner : Option Fault
  inner = of_some (λ instr. shown_operand a (bad_operand image w instr)) (slice_get image.code a)

  go : (b : Bool) → belongs image k a ≡ b → belongs image k f.a ≡ true
  go true hit =
      let same : f.a ≡ a = instr_at a (bad_operand image w) (slice_get image.code a) f (ap (λ b. cond b inner None) (sym hit) ∙ is) in
      ap (λ n. belongs image k n) same ∙ hit
  go false miss = let wrong : None ≡ Some f = ap (λ b. cond b inner None) (sym miss) ∙ is in absurd cc

belongs_in : (image : Image) (k : ℕ) (w : Whose) (f : Fault) → operand_fault_in image k w ≡ Some f → belongs image k f.a ≡ true
belongs_in image k w f is = let first = first_at (operand_fault_at image k w) (length image.code) 0 f is in belongs_at image k w first.k f first.is

-- ---- all of them

-- the fault is of piece k, and the part is told by that
pub record IsPlaced (image : Image) (f : Fault) : Type 0 where
  pub k : ℕ
  pub owner : is_owner k (closest (pieces image) 0 f.a None) ≡ true
  pub named : operand_part image ≡ Some (record { part = part_at (length image.routines) k; subject = subject.Operand; a = f.a; b = f.b })

-- an element and its fault
record IsOf {A : Type 0} (test : ℕ → A → Option Fault) (xs : List A) (k : ℕ) (f : Fault) : Type 0 where
  x : A
  at : slice_get xs k ≡ Some x
  is : test k x ≡ Some f

element : {A : Type 0} (test : ℕ → A → Option Fault) (xs : List A) (k : ℕ) (f : Fault) → of_some (test k) (slice_get xs k) ≡ Some f → IsOf test xs k f
element {A = A} test xs k f is = go (slice_get xs k) refl where
  go : (o : Option A) → slice_get xs k ≡ o → IsOf test xs k f
  go None none = let wrong : None ≡ Some f = ap (λ o. of_some (test k) o) (sym none) ∙ is in absurd cc
  go (Some x) some = record { x = x; at = some; is = ap (λ o. of_some (test k) o) (sym some) ∙ is }

no_name : {A : Type 0} (p : FaultyPart) (s : Subject) (test : A → Option Fault) (o : Option A) → of_some test o ≡ None → of_some (λ x. of p s (test x)) o ≡ None
no_name p s test None none = refl
no_name p s test (Some x) none = ap (of p s) none

in_routines : (image : Image) (f : Fault) → routines_operand_fault image ≡ Some f → IsPlaced image f
in_routines image f is =
    let first = first_at (λ r. of_some (λ x. operand_fault_in image r (whose_routine r x)) (slice_get image.routines r)) (length image.routines) 0 f is in
    let here = element (λ r x. operand_fault_in image r (whose_routine r x)) image.routines first.k f first.is in
    let low : first.k < length image.routines = slice_get_within image.routines first.k here.x here.at in
    let hit : nat_lt first.k (length image.routines) ≡ true = grind (arith, nat_tests, low) in
    let told : of_some (operand_of_routine image first.k) (slice_get image.routines first.k) ≡ Some (record { part = part.Routine first.k; subject = subject.Operand; a = f.a; b = f.b }) =
    ap (λ o. of_some (operand_of_routine image first.k) o) here.at ∙ ap (of (part.Routine first.k) subject.Operand) here.is in
    let all = first.named (λ r. of_some (operand_of_routine image r) (slice_get image.routines r)) _ (λ r none. no_name (part.Routine r) subject.Operand (λ x. operand_fault_in image r (whose_routine r x)) (slice_get image.routines r) none) told in
    record {
      k = first.k;
      owner = belongs_in image first.k (whose_routine first.k here.x) f here.is;
      named = ap (λ o. or_else o (first_in (operand_of_process image) image.processes)) all
          ∙ ap (λ b. Some (record { part = cond b (part.Routine first.k) (part.Process (first.k - length image.routines)); subject = subject.Operand; a = f.a; b = f.b })) (sym hit);
    }

in_processes : (image : Image) (f : Fault) → routines_operand_fault image ≡ None → processes_operand_fault image ≡ Some f → IsPlaced image f
in_processes image f none is =
    let first = first_at (λ k. of_some (λ p. operand_fault_in image (piece_number image k) (whose_process image k p)) (slice_get image.processes k)) (length image.processes) 0 f is in
    let here = element (λ k p. operand_fault_in image (piece_number image k) (whose_process image k p)) image.processes first.k f first.is in
    let miss : nat_lt (piece_number image first.k) (length image.routines) ≡ false = grind (arith, nat_tests) in
    let back : first.k ≡ piece_number image first.k - length image.routines = omega arith in
    let told : of_some (operand_of_process image first.k) (slice_get image.processes first.k) ≡ Some (record { part = part.Process first.k; subject = subject.Operand; a = f.a; b = f.b }) =
    ap (λ o. of_some (operand_of_process image first.k) o) here.at ∙ ap (of (part.Process first.k) subject.Operand) here.is in
    let all = first.named (λ k. of_some (operand_of_process image k) (slice_get image.processes k)) _ (λ k none. no_name (part.Process k) subject.Operand (λ p. operand_fault_in image (piece_number image k) (whose_process image k p)) (slice_get image.processes k) none) told in
    let routines : first_in (operand_of_routine image) image.routines ≡ None =
    none_named (λ r. of_some (λ x. operand_fault_in image r (whose_routine r x)) (slice_get image.routines r)) (λ r. of_some (operand_of_routine image r) (slice_get image.routines r))
    (λ r none. no_name (part.Routine r) subject.Operand (λ x. operand_fault_in image r (whose_routine r x)) (slice_get image.routines r) none) (length image.routines) 0 none in
    record {
      k = piece_number image first.k;
      owner = belongs_in image (piece_number image first.k) (whose_process image first.k here.x) f here.is;
      named = ap (λ o. or_else o (first_in (operand_of_process image) image.processes)) routines ∙ all
          ∙ ap (λ n. Some (record { part = part.Process n; subject = subject.Operand; a = f.a; b = f.b })) back
          ∙ ap (λ b. Some (record { part = cond b (part.Routine (piece_number image first.k)) (part.Process (piece_number image first.k - length image.routines)); subject = subject.Operand; a = f.a; b = f.b })) (sym miss);
    }

pub placed : (image : Image) (f : Fault) → Some f ≡ operand_fault image → IsPlaced image f
placed image f is = go (routines_operand_fault image) refl where
  go : (o : Option Fault) → routines_operand_fault image ≡ o → IsPlaced image f
  go None none = in_processes image f none (ap (λ o. or_else o (processes_operand_fault image)) (sym none) ∙ sym is)
  go (Some g) some = in_routines image f (some ∙ (ap (λ o. or_else o (processes_operand_fault image)) (sym some) ∙ sym is))

-- that piece is the closest one
pub owner_found : (routines k : ℕ) (o : Option Owner) (x : CodePiece) → is_owner k o ≡ true → IsOwner routines (Some x) o → x.part ≡ part_at routines k
owner_found routines k None x hit is = absurd is
owner_found routines k (Some o) x hit is = is.0 ∙ ap (part_at routines) (eqb-true o.number k hit)

pub owner_missing : (routines k : ℕ) (o : Option Owner) → is_owner k o ≡ true → IsOwner routines None o → ⊥
owner_missing routines k None hit is = absurd cc
owner_missing routines k (Some o) hit is = is

pub no_operand : (image : Image) → None ≡ operand_fault image → operand_part image ≡ None
no_operand image is = go (routines_operand_fault image) refl where
  go : (o : Option Fault) → routines_operand_fault image ≡ o → operand_part image ≡ None
  go (Some g) some = let wrong : Some g ≡ None = ap (λ o. or_else o (processes_operand_fault image)) (sym some) ∙ sym is in absurd cc
  go None none =
      let routines : first_in (operand_of_routine image) image.routines ≡ None =
      none_named (λ r. of_some (λ x. operand_fault_in image r (whose_routine r x)) (slice_get image.routines r)) (λ r. of_some (operand_of_routine image r) (slice_get image.routines r))
      (λ r none. no_name (part.Routine r) subject.Operand (λ x. operand_fault_in image r (whose_routine r x)) (slice_get image.routines r) none) (length image.routines) 0 none in
      let processes : first_in (operand_of_process image) image.processes ≡ None =
      none_named (λ k. of_some (λ p. operand_fault_in image (piece_number image k) (whose_process image k p)) (slice_get image.processes k)) (λ k. of_some (operand_of_process image k) (slice_get image.processes k))
      (λ k none. no_name (part.Process k) subject.Operand (λ p. operand_fault_in image (piece_number image k) (whose_process image k p)) (slice_get image.processes k) none) (length image.processes) 0
      (ap (λ o. or_else o (processes_operand_fault image)) (sym none) ∙ sym is) in
      ap (λ o. or_else o (first_in (operand_of_process image) image.processes)) routines ∙ processes

-- ---- handlers

number_told : (b : Bool) (k : ℕ) (f : Fault) → unless b k 0 ≡ Some f → f.a ≡ k
number_told true k f is = absurd cc
number_told false k f is = let e : f ≡ record { a = k; b = 0 } = cc in ap (λ (x : Fault). x.a) e

pub handler_named : (image : Image) (f : Fault) → Some f ≡ handler_fault image → Some (record { part = part.Process f.a; subject = subject.Handler; a = f.a; b = f.b }) ≡ handler_part image
handler_named image f is =
    let first = first_at (λ k. of_some (λ p. unless (is_handler image p p.handler_tree) k 0) (slice_get image.processes k)) (length image.processes) 0 f (sym is) in
    let here = element (λ k p. unless (is_handler image p p.handler_tree) k 0) image.processes first.k f first.is in
    let number = number_told (is_handler image here.x here.x.handler_tree) first.k f here.is in
    let told : of_some (handler_of_process image first.k) (slice_get image.processes first.k) ≡ Some (record { part = part.Process first.k; subject = subject.Handler; a = f.a; b = f.b }) =
    ap (λ o. of_some (handler_of_process image first.k) o) here.at ∙ ap (of (part.Process first.k) subject.Handler) here.is in
    let all = first.named (λ k. of_some (handler_of_process image k) (slice_get image.processes k)) _ (λ k none. no_name (part.Process k) subject.Handler (λ p. unless (is_handler image p p.handler_tree) k 0) (slice_get image.processes k) none) told in
    ap (λ n. Some (record { part = part.Process n; subject = subject.Handler; a = f.a; b = f.b })) number ∙ sym all

pub no_handler : (image : Image) → None ≡ handler_fault image → None ≡ handler_part image
no_handler image is =
    sym (none_named (λ k. of_some (λ p. unless (is_handler image p p.handler_tree) k 0) (slice_get image.processes k)) (λ k. of_some (handler_of_process image k) (slice_get image.processes k))
    (λ k none. no_name (part.Process k) subject.Handler (λ p. unless (is_handler image p p.handler_tree) k 0) (slice_get image.processes k) none) (length image.processes) 0 (sym is))

-- ---- the whole

-- an image without a fault has none of any part
pub no_part : (image : Image) → None ≡ fault_of image → None ≡ part_fault image
no_part image is = go (part_fault image) refl where
  go : (o : Option PartFault) → part_fault image ≡ o → None ≡ part_fault image
  go None none = sym none
  go (Some f) some = let wrong : Some (shown_part f) ≡ None = ap shown_if (sym some) ∙ law.whole image ∙ sym is in absurd cc
