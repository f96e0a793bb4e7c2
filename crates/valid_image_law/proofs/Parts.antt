-- The parts of a valid image, as the law of safety takes them.
use Rattle.std.proofs.Common.{◌≡◌, ◌≤◌, ◌<◌, ◌⊎◌, inl, inr, ℕ, zero, suc, List, [], ◌∷◌, length, Option, Some, None, arith, refl, ap, sym, subst, ◌∙◌, true, false, Bool}
use Rattle.std.specs.Prelude.{pos, ◌&&◌, not, max, cond, nat_eq, nat_lt, slice_get}
use Rattle.std.proofs.lemmas.Bool.{cases_Bool, not-true, and_parts, or_cases, eqb-true}
use Rattle.std.proofs.lemmas.Bool.Decides.{nat_tests}
use Rattle.machine_isa.specs.declared.instr.Instr.{Instr}
use Rattle.machine_isa.specs.declared.instr.Instr.TheVariants as i
use Rattle.machine_semantics.specs.Image.{Image, Routine, Process}
use Rattle.machine_semantics.specs.Part.{Part}
use Rattle.machine_semantics.specs.Walk.{Where, WalkCost, MayCall}
use Rattle.valid_image_law.specs.Rules.{Callable, with_leave}
use Rattle.valid_image.specs.Found.{Known, amount}
use Rattle.valid_image.specs.Operands.{Whose, Area, no_words, whose_routine, words_of_process, own_words, is_open, is_open_some, may_be_inside, may_call}
use Rattle.valid_image.specs.Tables.{count, monitor_of, reach, bound_at, stays_at}
use Rattle.valid_image_law.proofs.Tests.{below}
use Rattle.valid_image_law.proofs.Reaching.{NoLonger, kind_bound, limit_of, limit_more, true_stay, stay_more}
use Rattle.valid_image_law.proofs.Rows.{exact}

abbrev pub end_instr : Bool → Instr
end_instr true = i.ReturnValue
end_instr false = i.Return

abbrev pub depth_of_row : Option Known → ℕ
depth_of_row None = 0
depth_of_row (Some k) = k.depth

abbrev pub cost_of_row : Option Known → WalkCost
cost_of_row None = with_leave (amount 0 0 0)
cost_of_row (Some k) = with_leave k.cost

-- the greatest exact cost of a routine
abbrev pub greatest : List Known → ℕ
greatest [] = 0
greatest (k ∷ ks) = max k.cost.run (greatest ks)

pub greatest_is : (ks : List Known) (r : ℕ) (k : Known) → slice_get ks r ≡ Some k → k.cost.run ≤ greatest ks
greatest_is [] r k at = absurd cc
greatest_is (x ∷ xs) zero k at = let same : x ≡ k = cc in omega (arith, ap (λ (y : Known). y.cost.run) same)
greatest_is (x ∷ xs) (suc r) k at = omega (arith, greatest_is xs r k at)

abbrev pub stay_by : Image → Option ℕ → ℕ
stay_by image x = true_stay (greatest (exact image)) x

abbrev pub limit_by : Image → (ℕ → Option ℕ) → ℕ
limit_by image f = limit_of image.monitors f (length image.monitors)

abbrev pub no_part : Part
no_part = record { locals = 0; owned = 0; monitor = None; depth = 0; last = i.End; results = 0; level = 0; limit = 0; stays = λ m. 0 }

abbrev pub part_of_routine : Image → ℕ → Routine → Part
part_of_routine image r x = record {
  locals = x.locals;
  owned = (own_words image (whose_routine r x)).words;
  monitor = monitor_of x;
  depth = depth_of_row (slice_get (exact image) r);
  last = end_instr x.gives;
  results = count x.gives;
  level = cond (nat_eq x.kind 2) 1 (cond (bound_at (reach image) r) 2 0);
  limit = limit_by image (λ m. stays_at (reach image) m r);
  stays = λ m. stay_by image (stays_at (reach image) m r);
}

abbrev pub part_of_some : Image → ℕ → Option Routine → Part
part_of_some image r None = no_part
part_of_some image r (Some x) = part_of_routine image r x

abbrev pub part_at : Image → ℕ → Part
part_at image r = part_of_some image r (slice_get image.routines r)

abbrev pub where_in : Image → Part → Where
where_in image part = record { image = image; parts = part_at image; costs = λ r. cost_of_row (slice_get (exact image) r); part = part }

-- a process's own part, which reaches these stays
abbrev pub own_part : Image → Process → (depth : ℕ) → (ℕ → Option ℕ) → Part
own_part image p depth f = record {
  locals = p.locals;
  owned = p.words;
  monitor = None;
  depth = depth;
  last = i.End;
  results = 0;
  level = 2;
  limit = limit_by image f;
  stays = λ m. stay_by image (f m);
}

-- ---- what may be called

-- a part that reaches what it calls
pub record Reaching (image : Image) (part : Part) (w : Whose) (f : ℕ → Option ℕ) : Type 0 where
  pub owned : part.owned ≡ (own_words image w).words
  pub limit : limit_by image f ≤ part.limit
  pub stays : (m : ℕ) → stay_by image (f m) ≤ part.stays m

open_is : (w : Whose) (o : Option Routine) → is_open_some w o ≡ true → (y : Routine) × (o ≡ Some y) × (is_open w y ≡ true)
open_is w (Some y) is = (y, refl, is)
open_is w None is = absurd cc

same_words : (image : Image) (a b : Whose) → nat_eq a.kind 1 ≡ true → nat_eq b.kind 1 ≡ true → a.owner ≡ b.owner → (own_words image a).words ≤ (own_words image b).words
same_words image a b kind_a kind_b same =
    let x : own_words image a ≡ words_of_process (slice_get image.processes a.owner) = ap (λ t. cond t (words_of_process (slice_get image.processes a.owner)) no_words) kind_a in
    let y : own_words image b ≡ words_of_process (slice_get image.processes b.owner) = ap (λ t. cond t (words_of_process (slice_get image.processes b.owner)) no_words) kind_b in
    let z : (words_of_process (slice_get image.processes a.owner)).words ≡ (words_of_process (slice_get image.processes b.owner)).words = ap (λ n. (words_of_process (slice_get image.processes n)).words) same in
    omega (arith, ap (λ (v : Area). v.words) x, ap (λ (v : Area). v.words) y, z)

no_own_words : (image : Image) (a : Whose) (n : ℕ) → nat_eq a.kind 1 ≡ false → (own_words image a).words ≤ n
no_own_words image a n kind =
    let x : own_words image a ≡ no_words = ap (λ t. cond t (words_of_process (slice_get image.processes a.owner)) no_words) kind in
    omega (arith, ap (λ (v : Area). v.words) x)

-- a kind that is 0 is neither 1 nor 2
zero_kind : (k : ℕ) → nat_eq k 0 ≡ true → nat_eq k 2 ≡ false
zero_kind k is = grind (arith, nat_tests, is)

-- what may be called is callable, where the caller reaches it
pub callable : (image : Image) (part : Part) (w : Whose) (f : ℕ → Option ℕ) (q : ℕ) → Reaching image part w f → may_call image w (pos q) ≡ true
    → ((m : ℕ) → NoLonger (stays_at (reach image) m q) (f m)) → (q < w.number → bound_at (reach image) q ≡ true → nat_eq w.kind 2 ≡ false → part.level ≡ 2) → Callable (where_in image part) q
callable image part w f q reaching may longer up =
    let t = and_parts (nat_lt q w.number && is_open_some w (slice_get image.routines q)) (may_be_inside image w q) may in
    let u = and_parts (nat_lt q w.number) (is_open_some w (slice_get image.routines q)) t.0 in
    let o = open_is w (slice_get image.routines q) u.1 in
    let y : Routine = o.0 in
    let is : part_at image q ≡ part_of_routine image q y = ap (λ x. part_of_some image q x) o.1 in
    let low : q < w.number = omega (arith, below q w.number u.0) in
    let c = made (part_at image q) (part_of_routine image q y) is (
      may_be (cases_Bool (bound_at (reach image) q)) (cases_Bool (nat_eq w.kind 2)) y o.1 low t.1,
      owns y (cases_Bool (nat_eq y.kind 1)) o.2,
      (let l = limit_more image.monitors (λ m. stays_at (reach image) m q) f (length image.monitors) longer in omega (arith, l, reaching.limit)),
      (λ m. (let s = stay_more (greatest (exact image)) (stays_at (reach image) m q) (f m) (longer m) in omega (arith, s, reaching.stays m))),
    ) in
    record { may = c.0; owned = c.1; limit = c.2; stays = c.3 }
  where
    made : (a b : Part) → a ≡ b → (MayCall part.level b.level) × (b.owned ≤ part.owned) × (b.limit ≤ part.limit) × ((m : ℕ) → b.stays m ≤ part.stays m)
        → (MayCall part.level a.level) × (a.owned ≤ part.owned) × (a.limit ≤ part.limit) × ((m : ℕ) → a.stays m ≤ part.stays m)
    made a b is c = subst (λ (x : Part). (MayCall part.level x.level) × (x.owned ≤ part.owned) × (x.limit ≤ part.limit) × ((m : ℕ) → x.stays m ≤ part.stays m)) (sym is) c

    may_be : (bound_at (reach image) q ≡ true) ⊎ (bound_at (reach image) q ≡ false) → (nat_eq w.kind 2 ≡ true) ⊎ (nat_eq w.kind 2 ≡ false) → (y : Routine) → slice_get image.routines q ≡ Some y → q < w.number
        → may_be_inside image w q ≡ true → MayCall part.level (part_of_routine image q y).level
    may_be (inl bound) (inl entry) y at low inside =
        absurd (let e : may_be_inside image w q ≡ false = ap (λ b. not (b && bound_at (reach image) q)) entry ∙ ap (λ b. not b) bound in let x : true ≡ false = sym inside ∙ e in cc)
    may_be (inl bound) (inr outside) y at low inside = inr (up low bound outside)
    may_be (inr free) other y at low inside = elim (cases_Bool (nat_eq y.kind 0)) [
      | inl plain ↦ inl (ap (λ b. cond b 1 (cond (bound_at (reach image) q) 2 0)) (zero_kind y.kind plain) ∙ ap (λ b. cond b 2 0) free)
      | inr kind ↦ absurd (let e : true ≡ false = sym (kind_bound image q y at kind) ∙ free in cc)
    ]

    owns : (y : Routine) → (nat_eq y.kind 1 ≡ true) ⊎ (nat_eq y.kind 1 ≡ false) → is_open w y ≡ true → (part_of_routine image q y).owned ≤ part.owned
    owns y (inl one) open_to =
        let e = or_cases (not (nat_eq y.kind 1)) (nat_eq w.kind 1 && nat_eq y.owner w.owner) open_to in
        elim e [
          | inl other ↦ absurd (let x : true ≡ false = sym one ∙ not-true (nat_eq y.kind 1) other in cc)
          | inr same ↦ (let b = and_parts (nat_eq w.kind 1) (nat_eq y.owner w.owner) same in
              omega (arith, same_words image (whose_routine q y) w one b.0 (eqb-true y.owner w.owner b.1), reaching.owned))
        ]
    owns y (inr no_process) open_to = no_own_words image (whose_routine q y) part.owned no_process
