-- The lines of segment trees.
use Rattle.std.proofs.Common.{◌≡◌, ◌≤◌, ◌^◌, ◌++◌, ℕ, zero, suc, true, List, length, refl, ap, arith, append_assoc, length-append}
use Rattle.std.specs.Prelude.{codes, nat_lt}
use Rattle.std.proofs.lemmas.Bool.{lt-ltb}
use Rattle.machine_semantics.specs.Trees.{Seg, Line, Fork, Rep, Call, Stay, Wait, Exit, Segs, Nil, Cons}
use Rattle.image_format.specs.TreeBytes.{row}
use Rattle.image_format.specs.Format.{Format}
use Rattle.image_format.specs.TreeFormat.{in_image, seg_is, seg_format, segs_is, tree_format}
use Rattle.asm_format.specs.TreeText.{seg_text, segs_text, tree_line}
use Rattle.text_fields.specs.Front.{Front, Read, begins, noted}
use Rattle.asm_lines.specs.TreeForm.{is_tree_line}
use Rattle.asm_lines.specs.Trees.{arm_read, line_read, fork_read, rep_read, call_read, stay_read, seg_read, tree_ends, segs_read, tree_read, tree_line_read}
use Rattle.asm_law.proofs.Took.{Start, Within, Takes, on, shown, note, nothing, Holds, went, failed, next, choice, mapped}
use Rattle.asm_law.proofs.Passing.{inside, other_line, skip_took, end_took}
use Rattle.asm_law.proofs.SoundNumbers.{both_true, fine_of, u32_is, any_u16, field_took}

-- a tree between parentheses
abbrev arm_text : Segs → List ℕ
arm_text tree = codes " (" ++ (segs_text tree ++ codes " )")

fork_text : (first second : Segs) → codes " fork" ++ (arm_text first ++ arm_text second) ≡ seg_text (Fork first second)
fork_text first second = ap (λ (xs : List ℕ). codes " fork (" ++ xs) (append_assoc (segs_text first) (codes " )") (arm_text second))

module _ (monitors : ℕ) (sub : Front → Read Segs) (format : Format Segs) where
  abbrev Sub : Type 0
  Sub = (s : Front) → Holds (λ z. Takes Within Within 0 s z.1 (segs_text z.0) (format.is z.0 ≡ true)) (sub s)

  abbrev One : Front → Seg × Front → Type 0
  One s z = Takes Within Within 0 s z.1 (seg_text z.0) (seg_is (in_image monitors) format z.0 ≡ true)

  arm_took : Sub → (s : Front) → Holds (λ z. Takes Within Within 0 s z.1 (arm_text z.0) (format.is z.0 ≡ true)) (arm_read sub s)
  arm_took sub_took s =
      next (next (skip_took (codes " (") s (inside (codes " (") refl)) (λ t a. mapped (λ z b. on a b) (sub_took t))) (λ x ab. next (skip_took (codes " )") x.1 (inside (codes " )") refl)) (λ t c.
      let took = on ab c in went (shown took refl (λ held. held.0.1))))

  line_took : (s : Front) → Holds (One s) (line_read s)
  line_took s = next (field_took (codes " line ") 1 65535 s (inside (codes " line ") refl)) (λ n a. went (shown a refl (λ held. u32_is 1 65535 n.0 held)))

  fork_took : Sub → (s : Front) → Holds (One s) (fork_read sub s)
  fork_took sub_took s =
      next (next (skip_took (codes " fork") s (inside (codes " fork") refl)) (λ t a. mapped (λ z b. on a b) (arm_took sub_took t))) (λ first ab. next (arm_took sub_took first.1) (λ second c.
      let took = on ab c in went (shown took (fork_text first.0 second.0) (λ held. both_true held.0.1 held.1))))

  rep_took : Sub → (s : Front) → Holds (One s) (rep_read sub s)
  rep_took sub_took s =
      next (field_took (codes " rep ") 1 1000000 s (inside (codes " rep ") refl)) (λ turns a. next (arm_took sub_took turns.1) (λ body b.
      let took = on a b in went (shown took refl (λ held. both_true (u32_is 1 1000000 turns.0 held.0) held.1))))

  call_took : (s : Front) → Holds (One s) (call_read s)
  call_took s = next (field_took (codes " call ") 0 65535 s (inside (codes " call ") refl)) (λ routine a. went (shown a refl (λ held. any_u16 0 routine.0 held)))

  stay_took : Sub → (s : Front) → Holds (One s) (stay_read monitors sub s)
  stay_took sub_took s =
      next (field_took (codes " stay ") 0 65535 s (inside (codes " stay ") refl)) (λ monitor a. next (arm_took sub_took (noted monitor.1 (nat_lt monitor.0 monitors))) (λ body b.
      let took = on (note (nat_lt monitor.0 monitors) a) b in went (shown took refl (λ held. both_true (both_true (any_u16 0 monitor.0 held.0.0) (fine_of 4 held.0.1)) held.1))))

  seg_took : Sub → (s : Front) → Holds (One s) (seg_read monitors sub s)
  unfolding seg_read
  seg_took sub_took s =
      choice (begins (codes " line ") s.rest) (λ h. line_took s) (λ h.
      choice (begins (codes " fork") s.rest) (λ h. fork_took sub_took s) (λ h.
      choice (begins (codes " rep ") s.rest) (λ h. rep_took sub_took s) (λ h.
      choice (begins (codes " call ") s.rest) (λ h. call_took s) (λ h.
      choice (begins (codes " stay ") s.rest) (λ h. stay_took sub_took s) (λ h.
      choice (begins (codes " wait") s.rest) (λ h. next (skip_took (codes " wait") s (inside (codes " wait") refl)) (λ t a. went (shown a refl (λ held. refl)))) (λ h.
      next (skip_took (codes " exit") s (inside (codes " exit") refl)) (λ t a. went (shown a refl (λ held. refl)))))))))

  segs_took : Sub → (most : ℕ) (s : Front)
      → Holds (λ z. Takes Within Within 0 s z.1 (segs_text z.0) (segs_is (seg_format (in_image monitors) format) z.0 ≡ true)) (segs_read (seg_read monitors sub) most s)
  unfolding segs_read
  segs_took sub_took zero s = failed
  segs_took sub_took (suc n) s =
      choice (tree_ends s.rest) (λ h. went (shown (nothing s) refl (λ held. refl))) (λ h. next (seg_took sub_took s) (λ head a. next (segs_took sub_took n head.1) (λ rest b.
      let took = on a b in went (shown took refl (λ held. both_true held.0 held.1)))))

-- ---- how many segments stand side by side

seg_some : (segment : Seg) → 1 ≤ length (seg_text segment)
seg_some (Line count) = omega arith
seg_some (Fork first second) = omega arith
seg_some (Rep turns body) = omega arith
seg_some (Call routine) = omega arith
seg_some (Stay monitor body) = omega arith
seg_some Wait = omega arith
seg_some Exit = omega arith

row_short : (tree : Segs) → row tree ≤ length (segs_text tree)
row_short Nil = omega arith
row_short (Cons head rest) = let more = row_short rest in omega (arith, more, seg_some head, length-append (seg_text head) (segs_text rest))

-- no more than four bytes count
counted : {s t : Front} (tree : Segs) {P : Type 0} → Takes Within Within 0 s t (segs_text tree) P → Takes Within Within 0 s t (segs_text tree) ((nat_lt (row tree) (2 ^ 32) ≡ true) × P)
counted {s = s} {t = t} tree took fine =
    let a = took fine in
    record {
      fine = a.fine;
      are = a.are;
      count = a.count;
      holds = λ short. (lt-ltb (row tree) (2 ^ 32) (omega (arith, short, row_short tree, ap (λ (xs : List ℕ). length xs) a.are, length-append (segs_text tree) t.rest)), a.holds short);
    }

abbrev Tree : (monitors depth : ℕ) → Front → Segs × Front → Type 0
Tree monitors depth s z = Takes Within Within 0 s z.1 (segs_text z.0) ((tree_format (in_image monitors) depth).is z.0 ≡ true)

tree_took : (monitors depth : ℕ) (s : Front) → Holds (Tree monitors depth s) (tree_read monitors depth s)
unfolding tree_read tree_format
tree_took monitors zero s = failed
tree_took monitors (suc depth) s =
    mapped (λ z a. shown (counted z.0 a) refl (λ held. both_true held.0 held.1)) (segs_took monitors (tree_read monitors depth) (tree_format (in_image monitors) depth) (tree_took monitors depth) (length s.rest) s)

-- the line of a tree
abbrev pub TreeLine : (monitors : ℕ) → Front → Segs × Front → Type 0
TreeLine monitors s z = Takes Start Start 0 s z.1 (tree_line z.0) ((tree_format (in_image monitors) 130).is z.0 ≡ true)

pub tree_line_took : (monitors : ℕ) (s : Front) → Holds (TreeLine monitors s) (tree_line_read monitors s)
unfolding tree_line_read
tree_line_took monitors s =
    choice (is_tree_line s.rest)
    (λ h. next (next (skip_took (codes "tree") s (other_line (codes "tree") refl)) (λ t a. mapped (λ z b. on a b) (tree_took monitors 130 t))) (λ tree ab. next (end_took tree.1) (λ t c.
    let took = on ab c in went (shown took refl (λ held. held.0.1)))))
    (λ h. failed)
