-- What a process is taken to stay in a monitor is the longest stay of an entry that it reaches.
use Rattle.std.proofs.Common.{◌≡◌, ◌≤◌, ◌<◌, ◌+◌, ◌++◌, ◌⊎◌, inl, inr, ℕ, zero, suc, List, [], ◌∷◌, length, Option, Some, None, arith, refl, ap, sym, subst, ◌∙◌, true, false, Bool}
use Rattle.std.specs.Prelude.{pos, ◌&&◌, cond, max, nat_eq, take, slice_get}
use Rattle.std.proofs.lemmas.Bool.{cases_lt, and_from, and_parts, eqb-true, eq-eqb}
use Rattle.std.proofs.lemmas.List.{take_all}
use Rattle.std.proofs.lemmas.Option.{slice_get_within}
use Rattle.base.proofs.Lists.{some_at, take_get, take_past, one_some}
use Rattle.machine_isa.specs.declared.instr.Instr.{Instr}
use Rattle.machine_isa.specs.declared.instr.Instr.TheVariants as i
use Rattle.machine_semantics.specs.Image.{Image, Routine}
use Rattle.valid_image.specs.Pieces.{belongs, called_by, called_from, called, piece_number}
use Rattle.valid_image.specs.Tables.{Reach, reach, reach_of, longer_stay, stays_of, stays_at, longest_of, own_stay, stay_of_process}
use Rattle.valid_image_law.proofs.Firsts.{row_is, rows_before, table_length}
use Rattle.valid_image_law.specs.Reached.{CallsFrom, ReachesStay, enters, passes, IsLongest, StaysAreReached}
use Rattle.valid_image_law.proofs.Reached.{addresses_belong_to_owners}

-- ---- the longest of some

-- a stay is told exactly where there is one, and then it is the longest
record Longest (S : ℕ → Type 0) (o : Option ℕ) : Type 0 where
  one : (n : ℕ) → o ≡ Some n → S n
  most : (n : ℕ) → S n → (m : ℕ) × (o ≡ Some m) × (n ≤ m)

none_of : (S : ℕ → Type 0) → ((n : ℕ) → S n → ⊥) → Longest S None
none_of S h = record { one = λ n is. absurd cc; most = λ n s. absurd (h n s) }

some_is : (m n : ℕ) → Some m ≡ Some n → m ≡ n
some_is m n is = cc

same_as : (S T : ℕ → Type 0) (o : Option ℕ) → ((n : ℕ) → S n → T n) → ((n : ℕ) → T n → S n) → Longest S o → Longest T o
same_as S T o f g l = record { one = λ n is. f n (l.one n is); most = λ n t. l.most n (g n t) }

either : (S T : ℕ → Type 0) (a b : Option ℕ) → Longest S a → Longest T b → Longest (λ n. S n ⊎ T n) (longer_stay a b)
either S T None b l k = record { one = λ n is. inr (k.one n is); most = λ n s. by n s } where
  by : (n : ℕ) → S n ⊎ T n → (m : ℕ) × (b ≡ Some m) × (n ≤ m)
  by n (inl s) = absurd (let e = (l.most n s).1 in cc)
  by n (inr t) = k.most n t
either S T (Some a) None l k = record { one = λ n is. inl (l.one n is); most = λ n s. by n s } where
  by : (n : ℕ) → S n ⊎ T n → (m : ℕ) × (Some a ≡ Some m) × (n ≤ m)
  by n (inl s) = l.most n s
  by n (inr t) = absurd (let e = (k.most n t).1 in cc)
either S T (Some a) (Some b) l k = record { one = one; most = by } where
  one : (n : ℕ) → Some (max a b) ≡ Some n → S n ⊎ T n
  one n is = elim (cases_lt a b) [
    | inl less ↦ inr (k.one n (ap Some (omega (arith, less, some_is (max a b) n is))))
    | inr more ↦ inl (l.one n (ap Some (omega (arith, more, some_is (max a b) n is))))
  ]

  by : (n : ℕ) → S n ⊎ T n → (m : ℕ) × (Some (max a b) ≡ Some m) × (n ≤ m)
  by n (inl s) = (let x = l.most n s in let le = x.2 in (max a b, refl, omega (arith, le, some_is a x.0 x.1)))
  by n (inr t) = (let x = k.most n t in let le = x.2 in (max a b, refl, omega (arith, le, some_is b x.0 x.1)))

-- ---- what a piece calls

module _ (stay : ℕ → Option ℕ) (S : ℕ → ℕ → Type 0) (each : (r : ℕ) → Longest (S r) (stay r)) where
  joined : (xs ys : List ℕ) → longest_of stay (xs ++ ys) ≡ longer_stay (longest_of stay xs) (longest_of stay ys)
  joined [] ys = refl
  joined (x ∷ xs) ys = ap (λ o. longer_stay (stay x) o) (joined xs ys) ∙ regroup (stay x) (longest_of stay xs) (longest_of stay ys)
    where
      regroup : (a b c : Option ℕ) → longer_stay a (longer_stay b c) ≡ longer_stay (longer_stay a b) c
      regroup None b c = refl
      regroup (Some a) None c = refl
      regroup (Some a) (Some b) None = refl
      regroup (Some a) (Some b) (Some c) = ap Some (omega arith)

  -- by the instruction at one address
  OfInstr : Option Instr → ℕ → Type 0
  OfInstr o n = (r : ℕ) × (o ≡ Some (i.Call (pos r))) × S r n

  of_instr : (o : Option Instr) → Longest (λ n. (r : ℕ) × (o ≡ Some (i.Call (pos r))) × S r n) (longest_of stay (called_by o))
  of_instr (Some (i.Call (pos r))) = same_as (λ n. S r n ⊎ ⊥) (λ n. (q : ℕ) × (Some (i.Call (pos r)) ≡ Some (i.Call (pos q))) × S q n) (longer_stay (stay r) None)
      (λ n s. elim s [ inl x ↦ (r, refl, x) | inr x ↦ absurd x ])
      (λ n s. inl (let e = s.1 in let same : r ≡ s.0 = cc in subst (λ q. S q n) (sym same) s.2))
      (either (S r) (λ n. ⊥) (stay r) None (each r) (none_of (λ n. ⊥) (λ n x. x)))
  of_instr _ = none_of _ (λ n s. (let e = s.1 in cc))

  module _ (image : Image) (k : ℕ) where
    record At (low high n : ℕ) : Type 0 where
      r : ℕ
      address : ℕ
      from : low ≤ address
      to : address < high
      owned : belongs image k address ≡ true
      is : slice_get image.code address ≡ Some (i.Call (pos r))
      told : S r n

    at_one : (a : ℕ) (b : Bool) → belongs image k a ≡ b → Longest (λ n. (b ≡ true) × ((r : ℕ) × (slice_get image.code a ≡ Some (i.Call (pos r))) × S r n)) (longest_of stay (cond b (called_by (slice_get image.code a)) []))
    at_one a true own = same_as _ _ (longest_of stay (called_by (slice_get image.code a))) (λ n s. (refl, s)) (λ n s. s.1) (of_instr (slice_get image.code a))
    at_one a false own = none_of _ (λ n s. (let e = s.0 in cc))

    from : (n a : ℕ) → Longest (At a (a + n)) (longest_of stay (called_from image k n a))
    from zero a = none_of (At a (a + 0)) (λ n s. (let f = s.from in let t = s.to in omega (arith, f, t)))
    from (suc n) a =
        subst (λ o. Longest (At a (a + suc n)) o) (sym (joined (cond (belongs image k a) (called_by (slice_get image.code a)) []) (called_from image k n (a + 1))))
        (same_as (λ m. ((belongs image k a ≡ true) × ((r : ℕ) × (slice_get image.code a ≡ Some (i.Call (pos r))) × S r m)) ⊎ At (a + 1) (a + 1 + n) m) (At a (a + suc n)) _ there back
        (either _ (At (a + 1) (a + 1 + n)) _ _ (at_one a (belongs image k a) refl) (from n (a + 1))))
      where
        there : (m : ℕ) → ((belongs image k a ≡ true) × ((r : ℕ) × (slice_get image.code a ≡ Some (i.Call (pos r))) × S r m)) ⊎ At (a + 1) (a + 1 + n) m → At a (a + suc n) m
        there m (inl s) = record { r = s.1.0; address = a; from = omega arith; to = omega arith; owned = s.0; is = s.1.1; told = s.1.2 }
        there m (inr s) = (let f = s.from in let t = s.to in record { r = s.r; address = s.address; from = omega (arith, f); to = omega (arith, t); owned = s.owned; is = s.is; told = s.told })

        back : (m : ℕ) → At a (a + suc n) m → ((belongs image k a ≡ true) × ((r : ℕ) × (slice_get image.code a ≡ Some (i.Call (pos r))) × S r m)) ⊎ At (a + 1) (a + 1 + n) m
        back m s = elim (cases_lt a s.address) [
          | inl less ↦ inr (let t = s.to in record { r = s.r; address = s.address; from = omega (arith, less); to = omega (arith, t); owned = s.owned; is = s.is; told = s.told })
          | inr more ↦ inl (let f = s.from in let same : s.address ≡ a = omega (arith, f, more) in (subst (λ x. belongs image k x ≡ true) same s.owned, (s.r, subst (λ x. slice_get image.code x ≡ Some (i.Call (pos s.r))) same s.is, s.told)))
        ]

    -- over all that the piece calls
    calls : Longest (λ n. (r : ℕ) × CallsFrom image k r × S r n) (longest_of stay (called image k))
    calls = same_as (At 0 (0 + length image.code)) (λ n. (r : ℕ) × CallsFrom image k r × S r n) (longest_of stay (called image k))
        (λ n s. (s.r, record { address = s.address; owned = (addresses_belong_to_owners image k s.address).0 s.owned; is = s.is }, s.told))
        (λ n s. (let c = s.1 in record { r = s.0; address = c.address; from = omega arith; to = omega (arith, slice_get_within image.code c.address (i.Call (pos s.0)) c.is); owned = (addresses_belong_to_owners image k c.address).1 c.owned; is = c.is; told = s.2 }))
        (from (length image.code) 0)

-- ---- over the routines

module _ (image : Image) (m : ℕ) where
  -- what a routine tells, called from below this number: its own stay, or one that it reaches
  record Told (below r n : ℕ) : Type 0 where
    low : r < below
    x : Routine
    there : slice_get image.routines r ≡ Some x
    told : ((x.kind ≡ 2) × (x.owner ≡ m) × (x.stay ≡ n)) ⊎ ReachesStay image m r r n

  own : (x : Routine) → Longest (λ n. (x.kind ≡ 2) × (x.owner ≡ m) × (x.stay ≡ n)) (own_stay x m)
  own x = by (nat_eq x.kind 2 && nat_eq x.owner m) refl where
    by : (b : Bool) → (nat_eq x.kind 2 && nat_eq x.owner m) ≡ b → Longest (λ n. (x.kind ≡ 2) × (x.owner ≡ m) × (x.stay ≡ n)) (cond b (Some x.stay) None)
    by true is =
        let p = and_parts (nat_eq x.kind 2) (nat_eq x.owner m) is in
        record { one = λ n e. (eqb-true x.kind 2 p.0, eqb-true x.owner m p.1, some_is x.stay n e); most = λ n s. (x.stay, refl, (let e = s.2 in omega (arith, e))) }
    by false is = none_of _ (λ n s. (let both = and_from (nat_eq x.kind 2) (nat_eq x.owner m) (eq-eqb x.kind 2 s.0) (eq-eqb x.owner m s.1) in cc))

  to_reach : (piece below n : ℕ) → (r : ℕ) × CallsFrom image piece r × Told below r n → ReachesStay image m piece below n
  to_reach piece below n s = by s.2.told where
    by : ((s.2.x.kind ≡ 2) × (s.2.x.owner ≡ m) × (s.2.x.stay ≡ n)) ⊎ ReachesStay image m s.0 s.0 n → ReachesStay image m piece below n
    by (inl o) = subst (λ k. ReachesStay image m piece below k) o.2 (enters piece below s.0 s.2.x s.1 s.2.low s.2.there o.0 o.1)
    by (inr more) = passes piece below s.0 n s.2.x s.1 s.2.low s.2.there more

  of_reach : (piece below n : ℕ) → ReachesStay image m piece below n → (r : ℕ) × CallsFrom image piece r × Told below r n
  of_reach piece below n (enters _ _ r x c low at kind owner) = (r, c, record { low = low; x = x; there = at; told = inl (kind, owner, refl) })
  of_reach piece below n (passes _ _ r _ x c low at more) = (r, c, record { low = low; x = x; there = at; told = inr more })

  abbrev Below : ℕ → Type 0
  Below below = (r : ℕ) → Longest (Told below r) (stays_at (take below (reach image)) m r)

  reached_by : (below piece : ℕ) → Below below → Longest (ReachesStay image m piece below) (longest_of (stays_at (take below (reach image)) m) (called image piece))
  reached_by below piece each =
      same_as (λ n. (r : ℕ) × CallsFrom image piece r × Told below r n) (ReachesStay image m piece below) _ (to_reach piece below) (of_reach piece below)
      (calls (stays_at (take below (reach image)) m) (Told below) each image piece)

  row_told : (below r : ℕ) (x : Routine) → r < below → slice_get image.routines r ≡ Some x → Below r → Longest (Told below r) (stays_at (take below (reach image)) m r)
  row_told below r x low at each =
      let within : r ≤ length image.routines = omega (arith, slice_get_within image.routines r x at) in
      let count : length (take r (reach image)) ≡ r = rows_before (reach_of image) image.routines r within in
      let row : slice_get (take below (reach image)) r ≡ Some (reach_of image (take r (reach image)) x) = take_get below r (reach image) low ∙ row_is (reach_of image) image.routines r x at in
      let told : stays_at (take below (reach image)) m r ≡ longer_stay (own_stay x m) (longest_of (stays_at (take r (reach image)) m) (called image r)) =
      ap (λ o. stays_of m o) row ∙ ap (λ k. longer_stay (own_stay x m) (longest_of (stays_at (take r (reach image)) m) (called image k))) count in
      subst (λ o. Longest (Told below r) o) (sym told)
      (same_as (λ n. ((x.kind ≡ 2) × (x.owner ≡ m) × (x.stay ≡ n)) ⊎ ReachesStay image m r r n) (Told below r) _
      (λ n s. record { low = low; x = x; there = at; told = s })
      (λ n s. subst (λ (y : Routine). ((y.kind ≡ 2) × (y.owner ≡ m) × (y.stay ≡ n)) ⊎ ReachesStay image m r r n) (one_some s.there at) s.told)
      (either _ _ (own_stay x m) _ (own x) (reached_by r r each)))

  no_row : (below r : ℕ) → (length image.routines ≤ r) ⊎ (below ≤ r) → Longest (Told below r) (stays_at (take below (reach image)) m r)
  no_row below r past = subst (λ o. Longest (Told below r) o) (sym none) (none_of (Told below r) (λ n s. out s.low (slice_get_within image.routines r s.x s.there) past)) where
    out : r < below → r < length image.routines → (length image.routines ≤ r) ⊎ (below ≤ r) → ⊥
    out low within (inl long) = omega (arith, within, long)
    out low within (inr high) = omega (arith, low, high)

    absent : (length image.routines ≤ r) ⊎ (below ≤ r) → (o : Option Reach) → slice_get (take below (reach image)) r ≡ o → stays_of m o ≡ None
    absent p None is = refl
    absent (inr high) (Some x) is = absurd (let e : None ≡ Some x = sym (take_past below r (reach image) high) ∙ is in cc)
    absent (inl long) (Some x) is = elim (cases_lt r below) [
      | inl low ↦ absurd (let at : slice_get (reach image) r ≡ Some x = sym (take_get below r (reach image) low) ∙ is in omega (arith, long, slice_get_within (reach image) r x at, table_length (reach_of image) [] image.routines))
      | inr high ↦ absurd (let e : None ≡ Some x = sym (take_past below r (reach image) high) ∙ is in cc)
    ]

    none : stays_at (take below (reach image)) m r ≡ None
    none = absent past (slice_get (take below (reach image)) r) refl

  -- all rows, from the lowest on
  all_below : (n below : ℕ) → below ≤ n → Below below
  all_below zero below le r = no_row below r (inr (omega (arith, le)))
  all_below (suc n) below le r = elim (cases_lt r below) [
    | inl low ↦ elim (cases_lt r (length image.routines)) [
      | inl within ↦ (let x = some_at image.routines r within in row_told below r x.0 low x.1 (all_below n r (omega (arith, low, le))))
      | inr past ↦ no_row below r (inl past)
    ]
    | inr high ↦ no_row below r (inr high)
  ]

  whole : take (length image.routines) (reach image) ≡ reach image
  whole = take_all (length image.routines) (reach image) (omega (arith, table_length (reach_of image) [] image.routines))

  of_process : (k : ℕ) → Longest (ReachesStay image m (piece_number image k) (length image.routines)) (stay_of_process image k m)
  of_process k =
      subst (λ (rows : List Reach). Longest (ReachesStay image m (piece_number image k) (length image.routines)) (longest_of (stays_at rows m) (called image (piece_number image k)))) whole
      (reached_by (length image.routines) (piece_number image k) (all_below (length image.routines) (length image.routines) (omega arith)))

longest_is : (S : ℕ → Type 0) (o : Option ℕ) (n : ℕ) → Longest S o → o ≡ Some n → IsLongest S n
longest_is S o n l is = record { is_one = l.one n is; no_longer = λ m s. (let x = l.most m s in let le = x.2 in let same : x.0 ≡ n = one_some x.1 is in omega (arith, le, same)) }

is_longest : (S : ℕ → Type 0) (o : Option ℕ) (n : ℕ) → Longest S o → IsLongest S n → o ≡ Some n
is_longest S o n l h =
    let x = l.most n h.is_one in
    let le = x.2 in
    let same : x.0 ≡ n = omega (arith, le, h.no_longer x.0 (l.one x.0 x.1)) in
    x.1 ∙ ap Some same

pub stays_are_reached : StaysAreReached
stays_are_reached image k m n = (
  longest_is (ReachesStay image m (piece_number image k) (length image.routines)) (stay_of_process image k m) n (of_process image m k),
  is_longest (ReachesStay image m (piece_number image k) (length image.routines)) (stay_of_process image k m) n (of_process image m k),
)

-- of a stay that is reached, the one that is taken is as long
pub is_taken : (image : Image) (k m stay : ℕ) → ReachesStay image m (piece_number image k) (length image.routines) stay → (n : ℕ) × (stay_of_process image k m ≡ Some n) × (stay ≤ n)
is_taken image k m stay s = (of_process image m k).most stay s

pub taken_is : (image : Image) (k m n : ℕ) → stay_of_process image k m ≡ Some n → ReachesStay image m (piece_number image k) (length image.routines) n
taken_is image k m n is = (of_process image m k).one n is
