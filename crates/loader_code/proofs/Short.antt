-- A tree that fits some code has at most five bytes for each of its instructions, besides its count.
use Rattle.std.proofs.Common.{◌≡◌, ◌≤◌, ◌<◌, ◌+◌, ◌-◌, ◌*◌, ◌++◌, ◌&&◌, ℕ, zero, suc, Bool, true, false, List, [], ◌∷◌, length, Option, Some, None, refl, sym, ap, ◌∙◌, arith, length-append}
use Rattle.std.specs.Prelude.{nat_eq, slice_get}
use Rattle.std.proofs.lemmas.Option.{slice_get_within}
use Rattle.machine_isa.specs.declared.instr.Instr.{Instr}
use Rattle.machine_semantics.specs.Image.{Routine}
use Rattle.machine_semantics.specs.Trees.{Seg, Line, Fork, Rep, Call, Stay, Wait, Exit, Segs, Nil, Cons, size, size_of}
use Rattle.image_format.specs.TreeBytes.{counted, seg_bytes, segs_bytes, tree_bytes}
use Rattle.valid_image.specs.Found.{Known, Found, arms, chain, ended, entry, found, founds, guard, is_end, is_return, joined, loop, tree_found}
use Rattle.valid_image.specs.Shape.{is_found}
use Rattle.valid_image.specs.Tables.{count, monitor_of, part_found, routine_found}
use Rattle.valid_image_law.specs.Held.{hold}
use Rattle.loader_code.proofs.Fitting.{found_before_its_end}

guard_there : (b : Bool) (x : Option Found) → is_found (guard b x) ≡ true → (b ≡ true) × (is_found x ≡ true)
guard_there true x is = (refl, is)
guard_there false x is = absurd cc

arms_there : (x y : Option Found) → is_found (arms x y) ≡ true → (is_found x ≡ true) × (is_found y ≡ true)
arms_there None y is = absurd cc
arms_there (Some f) None is = absurd cc
arms_there (Some f) (Some g) is = (refl, refl)

loop_there : (n h : ℕ) (x : Option Found) → is_found (loop n h x) ≡ true → is_found x ≡ true
loop_there n h None is = absurd cc
loop_there n h (Some f) is = refl

joined_there : (f : Found) (x : Option Found) → is_found (joined f x) ≡ true → is_found x ≡ true
joined_there f None is = absurd cc
joined_there f (Some g) is = refl

-- both pieces of a chain are there, the second from some height on
record Both (x : Option Found) (next : ℕ → Option Found) : Type 0 where
  first : is_found x ≡ true
  height : ℕ
  second : is_found (next height) ≡ true

chain_there : (x : Option Found) (next : ℕ → Option Found) → is_found (chain x next) ≡ true → Both x next
chain_there None next is = absurd cc
chain_there (Some f) next is = record { first = refl; height = f.height; second = joined_there f (next f.height) is }

module _ (code : List Instr) (known : List Known) where
  mutual
    of_seg : (out held : Option ℕ) (s : Seg) (at h : ℕ) → is_found (found code known out held s at h) ≡ true → length (seg_bytes s) ≤ 5 * size_of s
    of_seg out held (Line zero) at h is = absurd cc
    of_seg out held (Line (suc n)) at h is = omega arith
    of_seg out held (Fork a b) at zero is = absurd cc
    of_seg out held (Fork a b) at (suc h) is =
        let p = arms_there (founds code known out held a (at + 1) h) (founds code known out held b (at + 1 + size a + 1) h) (guard_there _ _ is).1 in
        omega (arith, of_segs out held a (at + 1) h p.0, of_segs out held b (at + 1 + size a + 1) h p.1, length-append (segs_bytes a) (counted b (segs_bytes b)))
    of_seg out held (Rep n a) at h is =
        let p = loop_there n h (founds code known (Some (at + 1 + size a + 1)) held a (at + 1) 0) (guard_there _ _ is).1 in
        omega (arith, of_segs (Some (at + 1 + size a + 1)) held a (at + 1) 0 p)
    of_seg out held (Call n) at h is = omega arith
    of_seg out held (Stay m a) at h is = absurd cc
    of_seg out held Wait at h is = omega arith
    of_seg out held Exit at h is = omega arith

    of_segs : (out held : Option ℕ) (t : Segs) (at h : ℕ) → is_found (founds code known out held t at h) ≡ true → length (segs_bytes t) ≤ 5 * size t
    of_segs out held Nil at h is = omega arith
    of_segs out held (Cons s ss) at h is =
        let b = chain_there (found code known out held s at h) (λ k. founds code known out held ss (at + size_of s) k) is in
        omega (arith, of_seg out held s at h b.first, of_segs out held ss (at + size_of s) b.height b.second, length-append (seg_bytes s) (segs_bytes ss))

  of_entry : (m : ℕ) (t : Segs) (at : ℕ) → is_found (entry code known m t at) ≡ true → length (segs_bytes t) ≤ 5 * size t
  of_entry m (Cons (Stay n body) Nil) at is =
      let b = chain_there (founds code known None (Some m) body (at + 1) 0) _ (guard_there _ _ is).1 in
      omega (arith, of_segs None (Some m) body (at + 1) 0 b.first, length-append (segs_bytes body) [])
  of_entry m _ at is = absurd cc

  of_tree : (monitor : Option ℕ) (t : Segs) (at : ℕ) → is_found (tree_found code known monitor t at) ≡ true → length (segs_bytes t) ≤ 5 * size t
  of_tree (Some m) t at is = of_entry m t at is
  of_tree None t at is = of_segs None None t at 0 is

  return_within : (gives : Bool) (at : ℕ) → is_return gives (slice_get code at) ≡ true → at < length code
  return_within gives at is = inside (slice_get code at) refl is where
    inside : (o : Option Instr) → slice_get code at ≡ o → is_return gives o ≡ true → at < length code
    inside (Some x) there is = slice_get_within code at x there
    inside None there is = absurd (none gives is) where
      none : (b : Bool) → is_return b None ≡ true → ⊥
      none true is = cc
      none false is = cc

  end_within : (at : ℕ) → is_end (slice_get code at) ≡ true → at < length code
  end_within at is = inside (slice_get code at) refl is where
    inside : (o : Option Instr) → slice_get code at ≡ o → is_end o ≡ true → at < length code
    inside (Some x) there is = slice_get_within code at x there
    inside None there is = absurd cc

  nothing : (x : Option Found) → (is_found x ≡ true → ⊥) → None ≡ hold x
  nothing None not = refl
  nothing (Some f) not = absurd (not refl)

  -- a routine whose tree has more bytes than that is not found
  pub long_routine : (r : Routine) → 5 * length code + 4 < length (tree_bytes r.tree) → None ≡ hold (routine_found code known r)
  long_routine r long = nothing (routine_found code known r) (λ is.
      let g = guard_there (is_return r.gives (slice_get code (r.start + size r.tree))) (ended (count r.gives) (tree_found code known (monitor_of r) r.tree r.start)) is in
      let within : r.start + size r.tree < length code = return_within r.gives (r.start + size r.tree) g.0 in
      let few = of_tree (monitor_of r) r.tree r.start (found_before_its_end (count r.gives) (tree_found code known (monitor_of r) r.tree r.start) g.1) in
      omega (arith, within, few, long))

  -- nor are the body and the handler of a process
  pub long_part : (t : Segs) (at : ℕ) → 5 * length code + 4 < length (tree_bytes t) → None ≡ hold (part_found code known t at)
  long_part t at long = nothing (part_found code known t at) (λ is.
      let g = guard_there (is_end (slice_get code (at + size t))) (ended 0 (founds code known None None t at 0)) is in
      let within : at + size t < length code = end_within (at + size t) g.0 in
      let few = of_segs None None t at 0 (found_before_its_end 0 (founds code known None None t at 0) g.1) in
      omega (arith, within, few, long))
