-- The process that is picked is the one of the least number.
use Rattle.std.proofs.Common.{◌≡◌, ◌≢◌, ◌≤◌, ◌<◌, ◌+◌, ◌*◌, ◌++◌, inl, inr, ℕ, take, zero, suc, Bool, true, false, List, [], ◌∷◌, Option, Some, None, length, drop, arith, refl, ap, sym, subst, ◌∙◌}
use Rattle.std.specs.Prelude.{◌%◌, cond, min, nat_lt, slice_get, slice_set}
use Rattle.std.proofs.lemmas.Bool.{cases_lt}
use Rattle.std.proofs.lemmas.Bool.Decides.{nat_tests}
use Rattle.std.specs.List.{refill}
use Rattle.std.proofs.lemmas.List.{append-nil, drop_all, length-set, take_all}
use Rattle.std.proofs.lemmas.Nat.{mod-mul-add}
use Rattle.std.proofs.lemmas.Option.{slice_get_within}
use Rattle.base.proofs.Lists.{append_back, append_front, drop_at, get_other, get_set, one_some, some_at}
use Rattle.machine_semantics.specs.Image.{Image, Process}
use Rattle.machine_semantics.specs.State.{Thread, Idle, Ready, Waiting}
use Rattle.machine_semantics.specs.Tick.{active_rank, outside, pick}
use Rattle.vm_stretch.specs.Pick.{Entry, foremost_from, joined, sooner, outside as outside_one, place_of as entry_place}
use Rattle.vm_stretch.specs.Picks.{is_inside_one}
use Rattle.vm_stretch.specs.Stretch.{place_of}
use Rattle.vm_stretch.proofs.Lists.{same_or_not}
use Rattle.vm_turn.proofs.Choosing.{found, standings}
use Rattle.vm_runner.specs.declared.ranking.Precedence.{Precedence}
use Rattle.vm_runner.specs.declared.ranking.Ranking.{Ranking}
use Rattle.vm_runner.specs.Ranking.{IsNumber, IsRanking, key as key_of, least_of, nobody}

-- ---- the least of the numbers

pub least_low : (es : List Precedence) → least_of es ≤ nobody
least_low [] = omega arith
least_low (e ∷ es) = let rest = least_low es in omega (arith, rest)

-- one more is looked at
pub least_more : (es : List Precedence) (k : ℕ) (e : Precedence) (least : ℕ) → slice_get es k ≡ Some e → least_of es ≡ min least (least_of (drop k es)) → least_of es ≡ min (min least e.number) (least_of (drop (k + 1) es))
least_more es k e least at before =
    let next : least_of (drop k es) ≡ min e.number (least_of (drop (k + 1) es)) = ap (λ (xs : List Precedence). least_of xs) (drop_at es k e at) in
    omega (arith, before, next)

-- all are looked at
pub least_all : (es : List Precedence) (k least : ℕ) → length es ≤ k → least ≤ nobody → least_of es ≡ min least (least_of (drop k es)) → least ≡ least_of es
least_all es k least over low before =
    let none : least_of (drop k es) ≡ nobody = ap (λ (xs : List Precedence). least_of xs) (drop_all k es over) in
    omega (arith, before, none, low)

-- a number that is no greater than all takes a place
pub least_set : (es : List Precedence) (k : ℕ) (e : Precedence) → k < length es → e.number ≤ least_of es → least_of (slice_set es k e) ≡ e.number
least_set [] k e below low = absurd (omega (arith, below))
least_set (x ∷ xs) zero e below low = omega (arith, low)
least_set (x ∷ xs) (suc k) e below low = let rest = least_set xs k e (omega (arith, below)) (omega (arith, low)) in omega (arith, rest, low)

-- ---- the least number is that of the foremost

-- the foremost from place k on has the number m
abbrev Has : ℕ → Option Entry → ℕ → Type 0
Has k None m = m ≡ nobody
Has k (Some e) m = (m ≡ 64 * e.key + e.place) × ((m < nobody) × ((k ≤ e.place) × (e.place < 64)))

outside_is : (inside : Option ℕ) → outside_one (is_inside_one inside) ≡ outside inside
outside_is None = refl
outside_is (Some m) = refl

-- one that is ready before the others
sooner_has : (k key m : ℕ) (o : Option Entry) → k < 64 → Has (k + 1) o m → 64 * key + k < nobody → Has k (sooner (record { place = k; key = key }) o) (min (64 * key + k) m)
sooner_has k key m None few has small = (omega (arith, has, small), (omega (arith, has, small), (omega arith, few)))
sooner_has k key m (Some b) few has small =
    let is = has.0 in
    let low = has.1.0 in
    let from = has.1.1.0 in
    let to = has.1.1.1 in
    elim (cases_lt b.key key) [
      | inl less ↦
          let test : nat_lt b.key key ≡ true = grind (arith, nat_tests) in
          subst (λ (c : Bool). Has k (cond c (Some b) (Some (record { place = k; key = key }))) (min (64 * key + k) m)) (sym test)
          (omega (arith, is, less, from, to), (omega (arith, low, small), (omega (arith, from), to)))
      | inr not_less ↦
          let test : nat_lt b.key key ≡ false = grind (arith, nat_tests) in
          subst (λ (c : Bool). Has k (cond c (Some b) (Some (record { place = k; key = key }))) (min (64 * key + k) m)) (sym test)
          (omega (arith, is, not_less, from, to), (omega (arith, low, small), (omega arith, few)))
    ]

-- one that is not ready before the others
later_has : (k e m : ℕ) (o : Option Entry) → e ≡ nobody → m ≤ nobody → Has (k + 1) o m → Has k o (min e m)
later_has k e m None is low has = omega (arith, has, is)
later_has k e m (Some b) is low has =
    let same : min e m ≡ m = omega (arith, is, low) in
    (same ∙ has.0, (omega (arith, same, has.1.0), (omega (arith, has.1.1.0), has.1.1.1)))

foremost_has : (image : Image) (k : ℕ) (ps : List Process) (ts : List Thread) (es : List Precedence) → length ts ≡ length ps → length es ≡ length ps → k + length ps ≤ 64
    → ((i : ℕ) (p : Process) (th : Thread) (e : Precedence) → slice_get ps i ≡ Some p → slice_get ts i ≡ Some th → slice_get es i ≡ Some e → IsNumber image (k + i) p th e.number)
    → Has k (foremost_from k (standings image ps ts)) (least_of es)
foremost_has image k [] [] [] many count few all = refl
foremost_has image k [] [] (e ∷ es) many count few all = absurd (omega (arith, count))
foremost_has image k [] (t ∷ ts) es many count few all = absurd (omega (arith, many))
foremost_has image k (p ∷ ps) [] es many count few all = absurd (omega (arith, many))
foremost_has image k (p ∷ ps) (t ∷ ts) [] many count few all = absurd (omega (arith, count))
foremost_has image k (p ∷ ps) (t ∷ ts) (e ∷ es) many count few all =
    let place : k + 0 ≡ k = omega arith in
    let here : IsNumber image k p t e.number = subst (λ (n : ℕ). IsNumber image n p t e.number) place (all 0 p t e refl refl refl) in
    let rest : Has (k + 1) (foremost_from (k + 1) (standings image ps ts)) (least_of es) =
    foremost_has image (k + 1) ps ts es (omega (arith, many)) (omega (arith, count)) (omega (arith, few))
    (λ i p' th' e' a b c. (let next : k + suc i ≡ k + 1 + i = omega arith in subst (λ (n : ℕ). IsNumber image n p' th' e'.number) next (all (suc i) p' th' e' a b c))) in
    by t here rest where
      by : (th : Thread) → IsNumber image k p th e.number → Has (k + 1) (foremost_from (k + 1) (standings image ps ts)) (least_of es) → Has k (foremost_from k (standings image (p ∷ ps) (th ∷ ts))) (min e.number (least_of es))
      by (Ready job) here rest =
          let front : Option Entry = foremost_from (k + 1) (standings image ps ts) in
          let small : 64 * key_of image p job.inside + k < nobody = omega (arith, here.0, here.1) in
          let below : k < 64 = omega (arith, few) in
          let one : Has k (sooner (record { place = k; key = key_of image p job.inside }) front) (min (64 * key_of image p job.inside + k) (least_of es)) = sooner_has k (key_of image p job.inside) (least_of es) front below rest small in
          subst (λ (n : ℕ). Has k (sooner (record { place = k; key = 2 * active_rank image p job.inside + n }) front) (min e.number (least_of es))) (sym (outside_is job.inside))
          (subst (λ (n : ℕ). Has k (sooner (record { place = k; key = key_of image p job.inside }) front) (min n (least_of es))) (sym here.0) one)
      by Idle here rest = later_has k e.number (least_of es) (foremost_from (k + 1) (standings image ps ts)) here (least_low es) rest
      by (Waiting c d n job) here rest = later_has k e.number (least_of es) (foremost_from (k + 1) (standings image ps ts)) here (least_low es) rest

count : (image : Image) (ps : List Process) (ts : List Thread) → length (standings image ps ts) ≤ length ts
count image [] ts = omega arith
count image (p ∷ ps) [] = omega arith
count image (p ∷ ps) (t ∷ ts) = let rest = count image ps ts in omega (arith, rest)

joined_none : (best : Option Entry) → best ≡ joined best None
joined_none None = refl
joined_none (Some e) = refl

foremost_is : (image : Image) (ts : List Thread) → length image.processes ≡ length ts → entry_place (foremost_from 0 (standings image image.processes ts)) ≡ place_of (pick image ts)
foremost_is image ts same =
    let all = standings image image.processes ts in
    let front : Option Entry = foremost_from 0 all in
    let n : ℕ = length ts in
    let none : drop n all ≡ [] = drop_all n all (count image image.processes ts) in
    found image ts n front same (omega arith) (joined_none front ∙ ap (λ (xs : _). joined front (foremost_from n xs)) (sym none))

-- ---- who is picked

-- the process of the least number, or nobody
pub record IsFirst (image : Image) (threads : List Thread) (least : ℕ) : Type 0 where
  pub none : least ≡ nobody → None ≡ place_of (pick image threads)
  pub some : least ≢ nobody → Some (least % 64) ≡ place_of (pick image threads)

place_is : (o : Option Entry) (m : ℕ) → Has 0 o m → m ≢ nobody → Some (m % 64) ≡ entry_place o
place_is None m has some = absurd (some has)
place_is (Some e) m has some =
    let is : m ≡ e.key * 64 + e.place = omega (arith, has.0) in
    ap (λ (n : ℕ). Some n) (ap (λ (n : ℕ). n % 64) is ∙ mod-mul-add e.key 64 e.place has.1.1.1)

nobody_is : (o : Option Entry) (m : ℕ) → Has 0 o m → m ≡ nobody → None ≡ entry_place o
nobody_is None m has is = refl
nobody_is (Some e) m has is = absurd (omega (arith, has.1.0, is))

pub is_first : (image : Image) (threads : List Thread) (r : Ranking) → IsRanking image threads r → IsFirst image threads r.least.number
is_first image threads r is =
    let front : Option Entry = foremost_from 0 (standings image image.processes threads) in
    let has : Has 0 front (least_of r.precedences.items) =
    foremost_has image 0 image.processes threads r.precedences.items is.all is.count (omega (arith, is.few))
    (λ i p th e a b c. (let here : i ≡ 0 + i = omega arith in subst (λ (n : ℕ). IsNumber image n p th e.number) here (is.numbers i p th e a b c))) in
    let here : Has 0 front r.least.number = subst (λ (m : ℕ). Has 0 front m) (sym is.least) has in
    let picked = foremost_is image threads (sym is.all) in
    record {
      none = λ is_none. nobody_is front r.least.number here is_none ∙ picked;
      some = λ is_some. place_is front r.least.number here is_some ∙ picked;
    }

-- ---- the numbers, one by one

-- the numbers of the first processes
abbrev pub AreFirst : Image → List Thread → List Precedence → Type 0
AreFirst image threads es = (k : ℕ) (p : Process) (th : Thread) (e : Precedence) → slice_get image.processes k ≡ Some p → slice_get threads k ≡ Some th → slice_get es k ≡ Some e → IsNumber image k p th e.number

pub none_first : (image : Image) (threads : List Thread) → AreFirst image threads []
none_first image threads k p th e a b c = absurd (let never : None ≡ Some e = c in cc)

-- one more
pub one_first : (image : Image) (threads : List Thread) (es new : List Precedence) (k : ℕ) (e : Precedence) (p : Process) (th : Thread) → AreFirst image threads es → length es ≡ k → new ≡ es ++ e ∷ [] → slice_get image.processes k ≡ Some p → slice_get threads k ≡ Some th → IsNumber image k p th e.number → AreFirst image threads new
one_first image threads es new k e p th are many is at_p at_t here j p' th' e' a b c =
    let at : slice_get (es ++ e ∷ []) j ≡ Some e' = ap (λ (xs : List Precedence). slice_get xs j) (sym is) ∙ c in
    elim (cases_lt j (length es)) [
      | inl front ↦ are j p' th' e' a b (sym (append_front es (e ∷ []) j front) ∙ at)
      | inr back ↦ elim (same_or_not k j) [
        | inl same ↦
            let same_p : p ≡ p' = one_some at_p (subst (λ (n : ℕ). slice_get image.processes n ≡ Some p') (sym same) a) in
            let same_t : th ≡ th' = one_some at_t (subst (λ (n : ℕ). slice_get threads n ≡ Some th') (sym same) b) in
            let last : slice_get (es ++ e ∷ []) j ≡ Some e = append_back es (e ∷ []) j 0 (omega (arith, same, many)) in
            let same_e : e ≡ e' = one_some last at in
            subst (λ (n : ℕ). IsNumber image n p' th' e'.number) same (subst (λ (x : Process). IsNumber image k x th' e'.number) same_p (subst (λ (x : Thread). IsNumber image k p x e'.number) same_t (subst (λ (x : Precedence). IsNumber image k p th x.number) same_e here)))
        | inr differ ↦
            let beyond : length es + 1 ≤ j = omega (arith, back, many, differ) in
            let within = slice_get_within (es ++ e ∷ []) j e' at in
            absurd (omega (arith, beyond, within, longer es e))
      ]
    ] where
      longer : (xs : List Precedence) (x : Precedence) → length (xs ++ x ∷ []) ≡ length xs + 1
      longer [] x = refl
      longer (y ∷ ys) x = let rest = longer ys x in omega (arith, rest)

-- one takes the place of another, where all others stand as before
pub set_first : (image : Image) (old threads : List Thread) (es : List Precedence) (k : ℕ) (e : Precedence) (p : Process) (th : Thread) → AreFirst image old es → k < length es → slice_get image.processes k ≡ Some p → slice_get threads k ≡ Some th → IsNumber image k p th e.number
    → ((j : ℕ) → j ≢ k → slice_get threads j ≡ slice_get old j) → AreFirst image threads (slice_set es k e)
set_first image old threads es k e p th are below at_p at_t here others j p' th' e' a b c =
    elim (same_or_not k j) [
      | inl same ↦
          let was = some_at es k below in
          let same_p : p ≡ p' = one_some at_p (subst (λ (n : ℕ). slice_get image.processes n ≡ Some p') (sym same) a) in
          let same_t : th ≡ th' = one_some at_t (subst (λ (n : ℕ). slice_get threads n ≡ Some th') (sym same) b) in
          let same_e : e ≡ e' = one_some (get_set es k e was.0 was.1) (subst (λ (n : ℕ). slice_get (slice_set es k e) n ≡ Some e') (sym same) c) in
          subst (λ (n : ℕ). IsNumber image n p' th' e'.number) same (subst (λ (x : Process). IsNumber image k x th' e'.number) same_p (subst (λ (x : Thread). IsNumber image k p x e'.number) same_t (subst (λ (x : Precedence). IsNumber image k p th x.number) same_e here)))
      | inr differ ↦
          are j p' th' e' a (sym (others j (λ is. differ (sym is))) ∙ b) (sym (get_other es k j e differ) ∙ c)
    ]

-- all places are written anew
pub refilled : (xs ws : List Precedence) → length ws ≡ length xs → refill (length xs) xs ws ≡ ws
refilled xs ws same =
    let none : drop (length ws) xs ≡ [] = drop_all (length ws) xs (omega (arith, same)) in
    ap (λ (rest : List Precedence). take (length xs) (ws ++ rest)) none
    ∙ ap (λ (all : List Precedence). take (length xs) all) (append-nil ws)
    ∙ take_all (length xs) ws (omega (arith, same))

-- one is noted anew
pub ranked : (image : Image) (old threads : List Thread) (r new : Ranking) (k : ℕ) (e : Precedence) (p : Process) (th : Thread) → IsRanking image old r → length threads ≡ length image.processes → slice_get image.processes k ≡ Some p → slice_get threads k ≡ Some th → IsNumber image k p th e.number
    → ((j : ℕ) → j ≢ k → slice_get threads j ≡ slice_get old j) → new.precedences.items ≡ slice_set r.precedences.items k e → new.least.number ≡ least_of (slice_set r.precedences.items k e) → IsRanking image threads new
ranked image old threads r new k e p th is many at_p at_t here others same least =
    let below = slice_get_within image.processes k p at_p in
    record {
      few = is.few;
      all = many;
      count = ap length same ∙ length-set r.precedences.items k e ∙ is.count;
      numbers = subst (λ (es : List Precedence). AreFirst image threads es) (sym same) (set_first image old threads r.precedences.items k e p th is.numbers (omega (arith, below, is.count)) at_p at_t here others);
      least = least ∙ ap (λ (es : List Precedence). least_of es) (sym same);
    }
