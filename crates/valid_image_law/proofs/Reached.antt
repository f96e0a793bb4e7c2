-- What is reached from a tree, and which piece an address belongs to.
use Rattle.std.proofs.Common.{◌≡◌, ◌≤◌, ◌<◌, ◌+◌, ◌⊎◌, inl, inr, ℕ, zero, suc, List, [], ◌∷◌, length, Option, Some, None, arith, refl, ap, sym, subst, ◌∙◌, true, false, Bool}
use Rattle.std.proofs.lemmas.List.{take_all}
use Rattle.std.specs.Prelude.{cond, nat_le, take, slice_get}
use Rattle.std.proofs.lemmas.Bool.{cases_lt, or_cases, or_left, or_right, and_from, and_parts, eqb-true, eq-eqb, leb-true, leb-false, le-leb}
use Rattle.base.proofs.Lists.{some_at, take_get, take_past}
use Rattle.std.proofs.lemmas.Option.{slice_get_within}
use Rattle.machine_semantics.specs.Trees.{Seg, Segs, Line, Fork, Rep, Call, Stay, Wait, Exit, Nil, Cons}
use Rattle.machine_semantics.specs.Image.{Image, Routine}
use Rattle.valid_image.specs.Pieces.{Piece, Owner, comes_closer, closest, is_owner, pieces}
use Rattle.valid_image.specs.Tables.{Reach, reach, reach_of, waits_of, waits_at, seg_waits, tree_waits}
use Rattle.valid_image_law.proofs.Firsts.{row_is, table_length}
use Rattle.valid_image_law.specs.Reached.{IsWithin, StandsIn, ReachesWait, waits, calls, WaitsAreReached, IsOwner, AddressesBelongToOwners}

-- ---- one tree

-- a WAIT, or a call of a routine that reaches one by these rows
abbrev Called : List Reach → (Seg → Type 0) → Type 0
Called done In = In Wait ⊎ ((r : ℕ) × In (Call r) × (waits_at done r ≡ true))

called_more : (done : List Reach) (P Q : Seg → Type 0) → ((s : Seg) → P s → Q s) → Called done P → Called done Q
called_more done P Q f (inl w) = inl (f Wait w)
called_more done P Q f (inr c) = inr (c.0, f (Call c.0) c.1, c.2)

module _ (done : List Reach) where
  mutual
    seg_is : (x : Seg) → seg_waits done x ≡ true → Called done (λ s. IsWithin s x)
    seg_is (Line n) is = absurd cc
    seg_is (Fork first second) is = elim (or_cases (tree_waits done first) (tree_waits done second) is) [
      | inl a ↦ called_more done (λ s. StandsIn s first) (λ s. IsWithin s (Fork first second)) (λ s p. inl p) (tree_is first a)
      | inr b ↦ called_more done (λ s. StandsIn s second) (λ s. IsWithin s (Fork first second)) (λ s p. inr p) (tree_is second b)
    ]
    seg_is (Rep n body) is = tree_is body is
    seg_is (Call r) is = inr (r, refl, is)
    seg_is (Stay m body) is = tree_is body is
    seg_is Wait is = inl refl
    seg_is Exit is = absurd cc

    tree_is : (tree : Segs) → tree_waits done tree ≡ true → Called done (λ s. StandsIn s tree)
    tree_is Nil is = absurd cc
    tree_is (Cons head rest) is = elim (or_cases (seg_waits done head) (tree_waits done rest) is) [
      | inl a ↦ called_more done (λ s. IsWithin s head) (λ s. StandsIn s (Cons head rest)) (λ s p. inl p) (seg_is head a)
      | inr b ↦ called_more done (λ s. StandsIn s rest) (λ s. StandsIn s (Cons head rest)) (λ s p. inr p) (tree_is rest b)
    ]

  -- of a segment that by itself waits
  mutual
    is_seg : (s : Seg) → seg_waits done s ≡ true → (x : Seg) → IsWithin s x → seg_waits done x ≡ true
    is_seg s is (Line n) p = subst (λ y. seg_waits done y ≡ true) p is
    is_seg s is (Fork first second) (inl p) = or_left (tree_waits done first) (tree_waits done second) (is_tree s is first p)
    is_seg s is (Fork first second) (inr p) = or_right (tree_waits done first) (tree_waits done second) (is_tree s is second p)
    is_seg s is (Rep n body) p = is_tree s is body p
    is_seg s is (Call r) p = subst (λ y. seg_waits done y ≡ true) p is
    is_seg s is (Stay m body) p = is_tree s is body p
    is_seg s is Wait p = refl
    is_seg s is Exit p = subst (λ y. seg_waits done y ≡ true) p is

    is_tree : (s : Seg) → seg_waits done s ≡ true → (tree : Segs) → StandsIn s tree → tree_waits done tree ≡ true
    is_tree s is Nil p = absurd p
    is_tree s is (Cons head rest) (inl p) = or_left (seg_waits done head) (tree_waits done rest) (is_seg s is head p)
    is_tree s is (Cons head rest) (inr p) = or_right (seg_waits done head) (tree_waits done rest) (is_tree s is rest p)

-- ---- over the routines

module _ (image : Image) where
  row : (r : ℕ) (x : Routine) → slice_get image.routines r ≡ Some x → slice_get (reach image) r ≡ Some (reach_of image (take r (reach image)) x)
  row r x at = row_is (reach_of image) image.routines r x at

  waits_row : (r : ℕ) (x : Routine) → slice_get image.routines r ≡ Some x → waits_at (reach image) r ≡ tree_waits (take r (reach image)) x.tree
  waits_row r x at = ap waits_of (row r x at)

  record Row (below r : ℕ) : Type 0 where
    low : r < below
    routine : Routine
    there : slice_get image.routines r ≡ Some routine
    waits : tree_waits (take r (reach image)) routine.tree ≡ true

  waits_there : (o : Option Reach) → waits_of o ≡ true → (x : Reach) × (o ≡ Some x)
  waits_there None is = absurd cc
  waits_there (Some x) is = (x, refl)

  row_waits : (below r : ℕ) → waits_at (take below (reach image)) r ≡ true → Row below r
  row_waits below r is = elim (cases_lt r below) [
    | inl low ↦
        let full : waits_at (reach image) r ≡ true = sym (ap waits_of (take_get below r (reach image) low)) ∙ is in
        let there = waits_there (slice_get (reach image) r) full in
        let within : r < length image.routines = omega (arith, slice_get_within (reach image) r there.0 there.1, table_length (reach_of image) [] image.routines) in
        let x = some_at image.routines r within in
        record { low = low; routine = x.0; there = x.1; waits = sym (waits_row r x.0 x.1) ∙ full }
    | inr high ↦ absurd (let e : waits_at (take below (reach image)) r ≡ false = ap waits_of (take_past below r (reach image) high) in cc)
  ]

  waits_before : (below r : ℕ) (x : Routine) → r < below → slice_get image.routines r ≡ Some x → tree_waits (take r (reach image)) x.tree ≡ true → waits_at (take below (reach image)) r ≡ true
  waits_before below r x low at is = ap waits_of (take_get below r (reach image) low) ∙ (waits_row r x at ∙ is)

  abbrev Deeper : ℕ → Type 0
  Deeper n = (below : ℕ) (tree : Segs) → below ≤ n → tree_waits (take below (reach image)) tree ≡ true → ReachesWait image below tree

  one_deeper : (below : ℕ) (tree : Segs) → ((r : ℕ) (x : Row below r) → ReachesWait image r x.routine.tree) → Called (take below (reach image)) (λ s. StandsIn s tree) → ReachesWait image below tree
  one_deeper below tree deeper (inl w) = waits below tree w
  one_deeper below tree deeper (inr c) = (let x = row_waits below c.0 c.2 in calls below tree c.0 x.routine c.1 x.low x.there (deeper c.0 x))

  reached : (n : ℕ) → Deeper n
  reached zero below tree le is = one_deeper below tree (λ r x. absurd (let low = x.low in omega (arith, low, le))) (tree_is (take below (reach image)) tree is)
  reached (suc n) below tree le is = one_deeper below tree (λ r x. reached n r x.routine.tree (let low = x.low in omega (arith, low, le)) x.waits) (tree_is (take below (reach image)) tree is)

  is_reached : (below : ℕ) (tree : Segs) → ReachesWait image below tree → tree_waits (take below (reach image)) tree ≡ true
  is_reached below tree (waits _ _ w) = is_tree (take below (reach image)) Wait refl tree w
  is_reached below tree (calls _ _ r x c low at more) = is_tree (take below (reach image)) (Call r) (waits_before below r x low at (is_reached r x.tree more)) tree c

  whole : take (length image.routines) (reach image) ≡ reach image
  whole = take_all (length image.routines) (reach image) (omega (arith, table_length (reach_of image) [] image.routines))

pub waits_are_reached : WaitsAreReached
waits_are_reached image tree = (
  (λ is. reached image (length image.routines) (length image.routines) tree (omega arith) (ap (λ rows. tree_waits rows tree) (whole image) ∙ is)),
  (λ r. ap (λ rows. tree_waits rows tree) (sym (whole image)) ∙ is_reached image (length image.routines) tree r),
)

-- ---- owners of addresses

-- the best so far, and all of the pieces start before it
record StaysBest (xs : List Piece) (a : ℕ) (best : Option Owner) (w : Owner) : Type 0 where
  is : best ≡ Some w
  last : (j : ℕ) (y : Piece) → slice_get xs j ≡ Some y → y.start ≤ a → y.start < w.start

-- one of the pieces, from number k on
record IsLast (xs : List Piece) (k a : ℕ) (best : Option Owner) (w : Owner) : Type 0 where
  i : ℕ
  x : Piece
  there : slice_get xs i ≡ Some x
  number : w.number ≡ k + i
  starts : x.start ≤ a
  after : (b : Owner) → best ≡ Some b → b.start ≤ x.start
  last : (j : ℕ) (y : Piece) → slice_get xs j ≡ Some y → y.start ≤ a → (y.start < x.start) ⊎ ((y.start ≡ x.start) × (j ≤ i))

start_of : (x y : Piece) → Some x ≡ Some y → x.start ≡ y.start
start_of x y is = (let same : x ≡ y = cc in ap (λ (z : Piece). z.start) same)

comes : (best : Option Owner) (start a : ℕ) → comes_closer best start a ≡ true → (start ≤ a) × ((b : Owner) → best ≡ Some b → b.start ≤ start)
comes None start a is = (leb-true start a is, (λ b none. absurd cc))
comes (Some best) start a is =
    let p = and_parts (nat_le start a) (nat_le best.start start) is in
    (leb-true start a p.0, (λ b same. (let e : best ≡ b = cc in omega (arith, leb-true best.start start p.1, ap (λ (z : Owner). z.start) e))))

stays : (best : Option Owner) (start a : ℕ) → comes_closer best start a ≡ false → start ≤ a → (b : Owner) × (best ≡ Some b) × (start < b.start)
stays None start a is le = absurd (let more = leb-false start a is in omega (arith, more, le))
stays (Some best) start a is le = (
  best,
  refl,
  elim (cases_lt start best.start) [
    | inl less ↦ less
    | inr more ↦ absurd (let both = and_from (nat_le start a) (nat_le best.start start) (le-leb start a le) (le-leb best.start start more) in cc)
  ],
)

closest_is : (xs : List Piece) (k a : ℕ) (best : Option Owner) (w : Owner) → closest xs k a best ≡ Some w → StaysBest xs a best w ⊎ IsLast xs k a best w
closest_is [] k a best w is = inl (record { is = is; last = λ j y at le. absurd cc })
closest_is (x ∷ xs) k a best w is = by (comes_closer best x.start a) refl (λ o e. closest_is xs (suc k) a o w e) is where
  closer : comes_closer best x.start a ≡ true → StaysBest xs a (Some (record { number = k; start = x.start })) w ⊎ IsLast xs (suc k) a (Some (record { number = k; start = x.start })) w → StaysBest (x ∷ xs) a best w ⊎ IsLast (x ∷ xs) k a best w
  closer test (inl s) =
      let c = comes best x.start a test in
      let same : record { number = k; start = x.start } ≡ w = (let e = s.is in cc) in
      let number : k ≡ w.number = ap (λ (z : Owner). z.number) same in
      let start : x.start ≡ w.start = ap (λ (z : Owner). z.start) same in
      inr (record {
        i = 0;
        x = x;
        there = refl;
        number = omega (arith, number);
        starts = c.0;
        after = c.1;
        last = λ j y at le. first j y at le start s.last;
      })
    where
      first : (j : ℕ) (y : Piece) → slice_get (x ∷ xs) j ≡ Some y → y.start ≤ a → x.start ≡ w.start → ((j : ℕ) (y : Piece) → slice_get xs j ≡ Some y → y.start ≤ a → y.start < w.start) → (y.start < x.start) ⊎ ((y.start ≡ x.start) × (j ≤ 0))
      first zero y at le start last = inr (sym (start_of x y at), omega arith)
      first (suc j) y at le start last = inl (omega (arith, last j y at le, start))
  closer test (inr s) =
      let c = comes best x.start a test in
      let up : x.start ≤ s.x.start = s.after (record { number = k; start = x.start }) refl in
      inr (record {
        i = suc s.i;
        x = s.x;
        there = s.there;
        number = (let n = s.number in omega (arith, n));
        starts = s.starts;
        after = λ b same. (let le = c.1 b same in omega (arith, le, up));
        last = λ j y at le. next s.x s.i j y at le up s.last;
      })
    where
      next : (z : Piece) (i j : ℕ) (y : Piece) → slice_get (x ∷ xs) j ≡ Some y → y.start ≤ a → x.start ≤ z.start → ((j : ℕ) (y : Piece) → slice_get xs j ≡ Some y → y.start ≤ a → (y.start < z.start) ⊎ ((y.start ≡ z.start) × (j ≤ i)))
          → (y.start < z.start) ⊎ ((y.start ≡ z.start) × (j ≤ suc i))
      next z i zero y at le up last = elim (cases_lt x.start z.start) [
        | inl less ↦ inl (omega (arith, less, start_of x y at))
        | inr more ↦ inr (omega (arith, more, up, start_of x y at), omega arith)
      ]
      next z i (suc j) y at le up last = elim (last j y at le) [ inl less ↦ inl less | inr same ↦ inr (same.0, (let low = same.1 in omega (arith, low))) ]

  kept : comes_closer best x.start a ≡ false → StaysBest xs a best w ⊎ IsLast xs (suc k) a best w → StaysBest (x ∷ xs) a best w ⊎ IsLast (x ∷ xs) k a best w
  kept test (inl s) = inl (record { is = s.is; last = λ j y at le. first j y at le s.is s.last }) where
    first : (j : ℕ) (y : Piece) → slice_get (x ∷ xs) j ≡ Some y → y.start ≤ a → best ≡ Some w → ((j : ℕ) (y : Piece) → slice_get xs j ≡ Some y → y.start ≤ a → y.start < w.start) → y.start < w.start
    first zero y at le is last =
        let s = stays best x.start a test (omega (arith, le, start_of x y at)) in
        let same : s.0.start ≡ w.start = (let e : Some s.0 ≡ Some w = sym s.1 ∙ is in let f : s.0 ≡ w = cc in ap (λ (z : Owner). z.start) f) in
        let less = s.2 in
        omega (arith, less, same, start_of x y at)
    first (suc j) y at le is last = last j y at le
  kept test (inr s) =
      inr (record {
        i = suc s.i;
        x = s.x;
        there = s.there;
        number = (let n = s.number in omega (arith, n));
        starts = s.starts;
        after = s.after;
        last = λ j y at le. next s.x s.i j y at le s.after s.last;
      })
    where
      next : (z : Piece) (i j : ℕ) (y : Piece) → slice_get (x ∷ xs) j ≡ Some y → y.start ≤ a → ((b : Owner) → best ≡ Some b → b.start ≤ z.start)
          → ((j : ℕ) (y : Piece) → slice_get xs j ≡ Some y → y.start ≤ a → (y.start < z.start) ⊎ ((y.start ≡ z.start) × (j ≤ i))) → (y.start < z.start) ⊎ ((y.start ≡ z.start) × (j ≤ suc i))
      next z i zero y at le after last =
          let s = stays best x.start a test (omega (arith, le, start_of x y at)) in
          let up = after s.0 s.1 in
          let less = s.2 in
          inl (omega (arith, less, up, start_of x y at))
      next z i (suc j) y at le after last = elim (last j y at le) [ inl less ↦ inl less | inr same ↦ inr (same.0, (let low = same.1 in omega (arith, low))) ]

  by : (b : Bool) → comes_closer best x.start a ≡ b → ((o : Option Owner) → closest xs (suc k) a o ≡ Some w → StaysBest xs a o w ⊎ IsLast xs (suc k) a o w)
      → closest xs (suc k) a (cond b (Some (record { number = k; start = x.start })) best) ≡ Some w → StaysBest (x ∷ xs) a best w ⊎ IsLast (x ∷ xs) k a best w
  by true test rest told = closer test (rest (Some (record { number = k; start = x.start })) told)
  by false test rest told = kept test (rest best told)

closest_none : (xs : List Piece) (k a : ℕ) (best : Option Owner) → closest xs k a best ≡ None → (best ≡ None) × ((j : ℕ) (y : Piece) → slice_get xs j ≡ Some y → y.start ≤ a → ⊥)
closest_none [] k a best is = (is, (λ j y at le. absurd cc))
closest_none (x ∷ xs) k a best is = by (comes_closer best x.start a) refl (λ o e. closest_none xs (suc k) a o e) is where
  by : (b : Bool) → comes_closer best x.start a ≡ b → ((o : Option Owner) → closest xs (suc k) a o ≡ None → (o ≡ None) × ((j : ℕ) (y : Piece) → slice_get xs j ≡ Some y → y.start ≤ a → ⊥))
      → closest xs (suc k) a (cond b (Some (record { number = k; start = x.start })) best) ≡ None → (best ≡ None) × ((j : ℕ) (y : Piece) → slice_get (x ∷ xs) j ≡ Some y → y.start ≤ a → ⊥)
  by true test rest told = absurd (let none = (rest (Some (record { number = k; start = x.start })) told).0 in cc)
  by false test rest told = (let r = rest best told in (r.0, (λ j y at le. none r.0 r.1 j y at le))) where
    none : best ≡ None → ((j : ℕ) (y : Piece) → slice_get xs j ≡ Some y → y.start ≤ a → ⊥) → (j : ℕ) (y : Piece) → slice_get (x ∷ xs) j ≡ Some y → y.start ≤ a → ⊥
    none is last zero y at le =
        let s = stays best x.start a test (omega (arith, le, start_of x y at)) in
        (let e : None ≡ Some s.0 = sym is ∙ s.1 in cc)
    none is last (suc j) y at le = last j y at le

owner_is : (ps : List Piece) (k a : ℕ) (o : Option Owner) → closest ps 0 a None ≡ o → is_owner k o ≡ true → IsOwner ps k a
owner_is ps k a None at is = absurd cc
owner_is ps k a (Some w) at is = by (closest_is ps 0 a None w at) where
  by : StaysBest ps a None w ⊎ IsLast ps 0 a None w → IsOwner ps k a
  by (inl s) = absurd (let e = s.is in cc)
  by (inr s) =
      let number = s.number in
      let same : s.i ≡ k = omega (arith, number, eqb-true w.number k is) in
      record {
        piece = s.x;
        there = subst (λ n. slice_get ps n ≡ Some s.x) same s.there;
        starts = s.starts;
        last = subst (λ n. (j : ℕ) (y : Piece) → slice_get ps j ≡ Some y → y.start ≤ a → (y.start < s.x.start) ⊎ ((y.start ≡ s.x.start) × (j ≤ n))) same s.last;
      }

is_owner_of : (ps : List Piece) (k a : ℕ) (o : Option Owner) → closest ps 0 a None ≡ o → IsOwner ps k a → is_owner k o ≡ true
is_owner_of ps k a None at p = absurd ((closest_none ps 0 a None at).1 k p.piece p.there p.starts)
is_owner_of ps k a (Some w) at p = by (closest_is ps 0 a None w at) where
  same : (i : ℕ) (x : Piece) → w.number ≡ 0 + i → (x.start < p.piece.start) ⊎ ((x.start ≡ p.piece.start) × (i ≤ k)) → (p.piece.start < x.start) ⊎ ((p.piece.start ≡ x.start) × (k ≤ i)) → w.number ≡ k
  same i x number (inl less) (inl more) = absurd (omega (arith, less, more))
  same i x number (inl less) (inr more) = absurd (let e = more.0 in omega (arith, less, e))
  same i x number (inr less) (inl more) = absurd (let e = less.0 in omega (arith, more, e))
  same i x number (inr less) (inr more) = (let e = less.1 in let f = more.1 in omega (arith, number, e, f))

  by : StaysBest ps a None w ⊎ IsLast ps 0 a None w → is_owner k (Some w) ≡ true
  by (inl s) = absurd (let e = s.is in cc)
  by (inr s) = eq-eqb w.number k (same s.i s.x s.number (p.last s.i s.x s.there s.starts) (s.last k p.piece p.there p.starts))

pub addresses_belong_to_owners : AddressesBelongToOwners
addresses_belong_to_owners image k a = (owner_is (pieces image) k a (closest (pieces image) 0 a None) refl, is_owner_of (pieces image) k a (closest (pieces image) 0 a None) refl)
