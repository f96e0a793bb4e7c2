-- What follows of the fields that are read first, where all are read.
use Rattle.std.proofs.Common.{◌≡◌, ◌-◌, ◌<◌, ℕ, suc, Bool, true, false, List, length, Result, Ok, Err, Option, Some, None, refl, sym, ap, ◌∙◌, subst, arith}
use Rattle.std.specs.Result.{is_ok}
use Rattle.image_format.specs.declared.fault.ByteFault.{ByteFault}
use Rattle.image_format.specs.Format.{◌>>=◌, Format, Read, both}
use Rattle.machine_semantics.specs.Trees.{Segs, Nil}
use Rattle.image_bytes.specs.Fields.{Numbered, five_fields, handler_tree_fields, numbers_fields, owner_fields, process_fields, process_with, release_fields, routine_fields, routine_with, tree_fields, trees_fields}
use Rattle.image_bytes.specs.Standing.{IsRead, read_or}

well : {A B : Type 0} (r : Result A ByteFault) (g : A → B) → is_ok (r >>= λ x. Ok (g x)) ≡ true → is_ok r ≡ true
well (Ok x) g h = refl
well (Err e) g h = h

-- the fields behind those that were read first
later : {A B : Type 0} (f : Format A) (g : A → Format B) (bytes : List ℕ) (x : A) (after : List ℕ) → f.read bytes ≡ Ok (x, after) → is_ok ((both f g).read bytes) ≡ true → is_ok ((g x).read after) ≡ true
later f g bytes x after first h =
    let all : (both f g).read bytes ≡ ((g x).read after >>= λ y. Ok ((x, y.0), y.1)) = ap (λ r. r >>= λ z. (g z.0).read z.1 >>= λ y. Ok ((z.0, y.0), y.1)) first in
    well ((g x).read after) (λ y. ((x, y.0), y.1)) (sym (ap is_ok all) ∙ h)

then_both : {A B : Type 0} (f : Format A) (g : A → Format B) (bytes : List ℕ) (x : A) (after : List ℕ) (y : B) → f.read bytes ≡ Ok (x, after) → IsRead (g x) after y → IsRead (both f g) bytes (x, y)
then_both f g bytes x after y first second = (
  second.0,
  ap (λ r. r >>= λ z. (g z.0).read z.1 >>= λ y. Ok ((z.0, y.0), y.1)) first ∙ ap (λ r. r >>= λ y. Ok ((x, y.0), y.1)) second.1,
)

whole : {A : Type 0} (none : A) (r : Read A) → is_ok r ≡ true → (rest : List ℕ) × (r ≡ Ok (read_or none r, rest))
whole none (Ok x) h = (x.1, refl)
whole none (Err e) h = absurd cc

-- ---- routines

abbrev Owner : Type 0
Owner = ℕ × (ℕ × (ℕ × (ℕ × Bool)))

abbrev pub Five : Type 0
Five = ℕ × (ℕ × (ℕ × (ℕ × ℕ)))

pub routine_read : (bytes after trees : List ℕ) (owner : Owner) (cost : Five) → owner_fields.read bytes ≡ Ok (owner, after) → five_fields.read after ≡ Ok (cost, trees) → is_ok (routine_fields.read bytes) ≡ true
    → IsRead routine_fields bytes (routine_with (owner, (cost, read_or Nil (tree_fields.read trees))))
routine_read bytes after trees owner cost first second h =
    let inner : is_ok ((both owner_fields (λ o. both five_fields (λ c. tree_fields))).read bytes) ≡ true =
    well ((both owner_fields (λ o. both five_fields (λ c. tree_fields))).read bytes) (λ x. (routine_with x.0, x.1)) h in
    let tree = later five_fields (λ c. tree_fields) after cost trees second (later owner_fields (λ o. both five_fields (λ c. tree_fields)) bytes owner after first inner) in
    let read : IsRead (both owner_fields (λ o. both five_fields (λ c. tree_fields))) bytes (owner, (cost, read_or Nil (tree_fields.read trees))) =
    then_both owner_fields (λ o. both five_fields (λ c. tree_fields)) bytes owner after (cost, read_or Nil (tree_fields.read trees)) first
    (then_both five_fields (λ c. tree_fields) after cost trees (read_or Nil (tree_fields.read trees)) second (whole Nil (tree_fields.read trees) tree)) in
    (read.0, ap (λ r. r >>= λ x. Ok (routine_with x.0, x.1)) read.1)

-- ---- processes

abbrev pub Release : Type 0
Release = ℕ × (ℕ × (ℕ × (ℕ × (ℕ × ℕ))))

abbrev Trees : Type 0
Trees = Segs × Option Segs

abbrev from_numbers : Format Numbered
from_numbers = both numbers_fields (λ numbers. trees_fields (length numbers))

abbrev from_room : Format (Five × Numbered)
from_room = both five_fields (λ room. from_numbers)

abbrev from_time : Format (Five × (Five × Numbered))
from_time = both five_fields (λ time. from_room)

module _ (bytes a b c trees : List ℕ) (release : Release) (time room : Five) (numbers : List ℕ)
    (first : release_fields.read bytes ≡ Ok (release, a)) (second : five_fields.read a ≡ Ok (time, b)) (third : five_fields.read b ≡ Ok (room, c)) (fourth : numbers_fields.read c ≡ Ok (numbers, trees))
    (h : is_ok (process_fields.read bytes) ≡ true) where
  trees_of_length : is_ok ((trees_fields (length numbers)).read trees) ≡ true
  trees_of_length =
      let inner : is_ok ((both release_fields (λ release. from_time)).read bytes) ≡ true = well ((both release_fields (λ release. from_time)).read bytes) (λ x. (process_with x.0, x.1)) h in
      later numbers_fields (λ numbers. trees_fields (length numbers)) c numbers trees fourth
      (later five_fields (λ room. from_numbers) b room c third (later five_fields (λ time. from_room) a time b second (later release_fields (λ release. from_time) bytes release a first inner)))

  pub trees_read : (count : ℕ) → length numbers ≡ count → is_ok ((trees_fields count).read trees) ≡ true
  trees_read count many = subst (λ n. is_ok ((trees_fields n).read trees) ≡ true) many trees_of_length

  read_of_length : (both : Trees) → both ≡ read_or (Nil, None) ((trees_fields (length numbers)).read trees) → IsRead process_fields bytes (process_with (release, (time, (room, (numbers, both)))))
  read_of_length both same =
      let last : IsRead (trees_fields (length numbers)) trees both = subst (λ (t : Trees). IsRead (trees_fields (length numbers)) trees t) (sym same) (whole (Nil, None) ((trees_fields (length numbers)).read trees) trees_of_length) in
      let all = then_both release_fields (λ release. from_time) bytes release a (time, (room, (numbers, both))) first
      (then_both five_fields (λ time. from_room) a time b (room, (numbers, both)) second
      (then_both five_fields (λ room. from_numbers) b room c (numbers, both) third (then_both numbers_fields (λ numbers. trees_fields (length numbers)) c numbers trees both fourth last))) in
      (all.0, ap (λ r. r >>= λ x. Ok (process_with x.0, x.1)) all.1)

  pub process_read : (count : ℕ) → length numbers ≡ count → IsRead process_fields bytes (process_with (release, (time, (room, (numbers, read_or (Nil, None) ((trees_fields count).read trees))))))
  process_read count many = read_of_length (read_or (Nil, None) ((trees_fields count).read trees)) (ap (λ n. read_or (Nil, None) ((trees_fields n).read trees)) (sym many))

-- ---- the tree of a handler

abbrev tree_of : Read Trees → Option Segs
tree_of r = (read_or (Nil, None) r).1

abbrev some_read : Read Segs → Read (Option Segs)
some_read r = r >>= λ x. Ok (Some x.0, x.1)

nothing_there : (r : Read Segs) → tree_of (r >>= λ x. (handler_tree_fields 0).read x.1 >>= λ y. Ok ((x.0, y.0), y.1)) ≡ None
nothing_there (Ok x) = refl
nothing_there (Err e) = refl

pub no_handler : (count : ℕ) (trees : List ℕ) → count ≡ 0 → (read_or (Nil, None) ((trees_fields count).read trees)).1 ≡ None
no_handler count trees none = ap (λ n. (read_or (Nil, None) ((trees_fields n).read trees)).1) none ∙ nothing_there (tree_fields.read trees)

module _ (count : ℕ) (trees : List ℕ) (body : Segs) (after : List ℕ) (some : 0 < count) (first : tree_fields.read trees ≡ Ok (body, after)) where
  is_more : count ≡ suc (count - 1)
  is_more = omega (arith, some)

  handler_read : is_ok ((trees_fields count).read trees) ≡ true → is_ok ((handler_tree_fields (suc (count - 1))).read after) ≡ true
  handler_read h = later tree_fields (λ body. handler_tree_fields (suc (count - 1))) trees body after first (subst (λ n. is_ok ((trees_fields n).read trees) ≡ true) is_more h)

  pub handler_there : (e : ByteFault) → tree_fields.read after ≡ Err e → is_ok ((trees_fields count).read trees) ≡ true → ⊥
  handler_there e second h =
      let bad : false ≡ true = sym (ap (λ r. is_ok (some_read r)) second) ∙ handler_read h in
      cc

  pub handler_is : (tree : Segs) (rest : List ℕ) → tree_fields.read after ≡ Ok (tree, rest) → (read_or (Nil, None) ((trees_fields count).read trees)).1 ≡ Some tree
  handler_is tree rest second =
      let last : IsRead (handler_tree_fields (suc (count - 1))) after (Some tree) = (rest, ap (λ r. r >>= λ x. Ok (Some x.0, x.1)) second) in
      let all = then_both tree_fields (λ body. handler_tree_fields (suc (count - 1))) trees body after (Some tree) first last in
      ap (λ n. (read_or (Nil, None) ((trees_fields n).read trees)).1) is_more ∙ ap tree_of all.1
