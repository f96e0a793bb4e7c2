-- The tree of code has no more segments than the code has instructions.
use Rattle.std.proofs.Common.{◌≡◌, ◌≤◌, ◌<◌, ◌+◌, ℕ, zero, suc, Bool, true, false, List, length, Option, Some, None, arith, refl}
use Rattle.std.specs.Prelude.{slice_get}
use Rattle.std.proofs.lemmas.Option.{slice_get_within}
use Rattle.machine_isa.specs.declared.instr.Instr.{Instr}
use Rattle.machine_semantics.specs.Trees.{Seg, Line, Fork, Rep, Call, Stay, Wait, Exit, Segs, Nil, Cons, size, size_of}
use Rattle.machine_semantics.specs.Image.{Routine}
use Rattle.image_format.specs.TreeBytes.{inner, segments}
use Rattle.valid_image.specs.Found.{Found, Known, arms, chain, ended, entry, found, founds, guard, is_end, is_return, joined, loop, tree_found}
use Rattle.valid_image.specs.Tables.{count, monitor_of, part_found, routine_found}

-- there is one
abbrev pub There : {X : Type 0} → Option X → Type 0
There {X} o = (x : X) × (o ≡ Some x)

nothing_there : {X : Type 0} → There {X = X} None → ⊥
nothing_there (x, is) = cc

-- ---- the steps of the computation

guard_there : (b : Bool) (o : Option Found) → There (guard b o) → (b ≡ true) × There o
guard_there true o t = (refl, t)
guard_there false o t = absurd (nothing_there t)

joined_there : (f : Found) (o : Option Found) → There (joined f o) → There o
joined_there f None t = absurd (nothing_there t)
joined_there f (Some g) t = (g, refl)

record Chained (o : Option Found) (next : ℕ → Option Found) : Type 0 where
  first : Found
  is : o ≡ Some first
  more : There (next first.height)

chain_there : (o : Option Found) (next : ℕ → Option Found) → There (chain o next) → Chained o next
chain_there None next t = absurd (nothing_there t)
chain_there (Some f) next t = record { first = f; is = refl; more = joined_there f (next f.height) t }

first_there : (o : Option Found) (next : ℕ → Option Found) → There (chain o next) → There o
first_there o next t = let c : Chained o next = chain_there o next t in (c.first, c.is)

arms_there : (x y : Option Found) → There (arms x y) → There x × There y
arms_there None y t = absurd (nothing_there t)
arms_there (Some f) None t = absurd (nothing_there t)
arms_there (Some f) (Some g) t = ((f, refl), (g, refl))

loop_there : (n h : ℕ) (o : Option Found) → There (loop n h o) → There o
loop_there n h None t = absurd (nothing_there t)
loop_there n h (Some f) t = (f, refl)

ended_there : (n : ℕ) (o : Option Found) → There (ended n o) → There o
ended_there n None t = absurd (nothing_there t)
ended_there n (Some f) t = (f, refl)

-- ---- trees

-- two instructions beside two trees, beside one, and alone
with_both : {a b c d : ℕ} → a ≤ b → c ≤ d → a + c + 1 ≤ b + d + 2
with_both first second = omega (arith, first, second)

with_body : {a b : ℕ} → a ≤ b → a + 1 ≤ b + 2
with_body body = omega (arith, body)

alone : {a b : ℕ} → a ≤ b → 1 + a + 0 ≤ b + 2 + 0
alone body = omega (arith, body)

module _ (code : List Instr) (known : List Known) where
  mutual
    -- each segment covers an instruction of its own
    seg_low : (out held : Option ℕ) (s : Seg) (at h : ℕ) → There (found code known out held s at h) → inner s + 1 ≤ size_of s
    seg_low out held (Line zero) at h t = absurd (nothing_there t)
    seg_low out held (Line (suc n)) at h t = omega arith
    seg_low out held (Fork first second) at zero t = absurd (nothing_there t)
    seg_low out held (Fork first second) at (suc h) t =
        let both = arms_there (founds code known out held first (at + 1) h) (founds code known out held second (at + 1 + size first + 1) h) (guard_there _ _ t).1 in
        with_both (segs_low out held first (at + 1) h both.0) (segs_low out held second (at + 1 + size first + 1) h both.1)
    seg_low out held (Rep n body) at h t =
        with_body (segs_low (Some (at + 1 + size body + 1)) held body (at + 1) 0 (loop_there n h (founds code known (Some (at + 1 + size body + 1)) held body (at + 1) 0) (guard_there _ _ t).1))
    seg_low out held (Call r) at h t = omega arith
    seg_low out held (Stay m body) at h t = absurd (nothing_there t)
    seg_low out held Wait at h t = omega arith
    seg_low out held Exit at h t = omega arith

    segs_low : (out held : Option ℕ) (ss : Segs) (at h : ℕ) → There (founds code known out held ss at h) → segments ss ≤ size ss
    segs_low out held Nil at h t = omega arith
    segs_low out held (Cons head rest) at h t =
        let c : Chained (found code known out held head at h) (founds code known out held rest (at + size_of head))
        = chain_there (found code known out held head at h) (founds code known out held rest (at + size_of head)) t in
        omega (arith, seg_low out held head at h (c.first, c.is), segs_low out held rest (at + size_of head) c.first.height c.more)

  entry_low : (m : ℕ) (tree : Segs) (at : ℕ) → There (entry code known m tree at) → segments tree ≤ size tree
  entry_low m (Cons (Stay n body) Nil) at t =
      alone (segs_low None (Some m) body (at + 1) 0 (first_there (founds code known None (Some m) body (at + 1) 0) _ (guard_there _ _ t).1))
  entry_low m _ at t = absurd (nothing_there t)

  tree_low : (o : Option ℕ) (tree : Segs) (at : ℕ) → There (tree_found code known o tree at) → segments tree ≤ size tree
  tree_low (Some m) tree at t = entry_low m tree at t
  tree_low None tree at t = segs_low None None tree at 0 t

  -- ---- the code of a tree ends within the code

  return_there : (gives : Bool) (o : Option Instr) → is_return gives o ≡ true → There o
  return_there gives (Some x) is = (x, refl)
  return_there true None is = absurd cc
  return_there false None is = absurd cc

  end_there : (o : Option Instr) → is_end o ≡ true → There o
  end_there (Some x) is = (x, refl)
  end_there None is = absurd cc

  pub routine_low : (r : Routine) → There (routine_found code known r) → segments r.tree < length code
  routine_low r t =
      let both = guard_there (is_return r.gives (slice_get code (r.start + size r.tree))) (ended (count r.gives) (tree_found code known (monitor_of r) r.tree r.start)) t in
      let last = return_there r.gives (slice_get code (r.start + size r.tree)) both.0 in
      let within : r.start + size r.tree < length code = slice_get_within code (r.start + size r.tree) last.0 last.1 in
      let low : segments r.tree ≤ size r.tree
      = tree_low (monitor_of r) r.tree r.start (ended_there (count r.gives) (tree_found code known (monitor_of r) r.tree r.start) both.1) in
      omega (arith, within, low)

  pub part_low : (tree : Segs) (at : ℕ) → There (part_found code known tree at) → segments tree < length code
  part_low tree at t =
      let both = guard_there (is_end (slice_get code (at + size tree))) (ended 0 (founds code known None None tree at 0)) t in
      let last = end_there (slice_get code (at + size tree)) both.0 in
      let within : at + size tree < length code = slice_get_within code (at + size tree) last.0 last.1 in
      let low : segments tree ≤ size tree = segs_low None None tree at 0 (ended_there 0 (founds code known None None tree at 0) both.1) in
      omega (arith, within, low)
