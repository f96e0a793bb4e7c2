-- The lines of trees are read as those trees.
use Rattle.std.proofs.Common.{◌≡◌, ◌≤◌, ◌<◌, ◌^◌, ◌++◌, ℕ, zero, suc, true, false, List, length, take, Ok, decimal, refl, sym, ap, ◌∙◌, arith, append_assoc, length-append}
use Rattle.std.specs.Prelude.{nat_lt, nat_eq, codes}
use Rattle.std.specs.Cmp.Lexicographic.{pointwise}
use Rattle.std.proofs.lemmas.Bool.{and_parts, or_from, or_left, or_right, ltb-true}
use Rattle.machine_semantics.specs.Trees.{Seg, Line, Fork, Rep, Call, Stay, Wait, Exit, Segs, Nil, Cons}
use Rattle.image_format.specs.TreeBytes.{row}
use Rattle.image_format.specs.Format.{Format}
use Rattle.image_format.specs.TreeFormat.{in_image, turns_count, u16_below, seg_format, segs_is, tree_format}
use Rattle.asm_format.specs.TreeText.{seg_text, segs_text, tree_line}
use Rattle.text_fields.specs.Front.{Front, Read, begins, line_start}
use Rattle.text_fields.specs.LineFields.{is_digit}
use Rattle.asm_lines.specs.TreeForm.{is_tree_line}
use Rattle.asm_lines.specs.Trees.{arm_read, seg_read, segs_read, tree_ends, tree_read, tree_line_read}
use Rattle.asm_law.proofs.ReadsNumbers.{place, Stops, begins_self, begins_not, skips, ends, field_reads}
use Rattle.asm_law.proofs.ReadsNames.{in_u32, in_count}
use Rattle.asm_law.proofs.TreeForms.{tree_stops, tree_fits, tree_has_form}

-- what may follow a tree
record IsEnd (rest : List ℕ) : Type 0 where
  some : 0 < length rest
  ends_tree : tree_ends rest ≡ true
  stops : Stops is_digit rest

line_feed : (rest : List ℕ) → IsEnd (codes "\n" ++ rest)
line_feed rest = record { some = omega arith; ends_tree = or_left (begins (codes "\n") (codes "\n" ++ rest)) (begins (codes " )") (codes "\n" ++ rest)) (begins_self (codes "\n") rest); stops = refl }

closing : (rest : List ℕ) → IsEnd (codes " )" ++ rest)
closing rest = record { some = omega arith; ends_tree = or_right (begins (codes "\n") (codes " )" ++ rest)) (begins (codes " )") (codes " )" ++ rest)) (begins_self (codes " )") rest); stops = refl }

-- where a segment stands no tree ends
no_end : (bytes : List ℕ) → pointwise nat_eq (take 1 bytes) (codes "\n") ≡ false → pointwise nat_eq (take 2 bytes) (codes " )") ≡ false → tree_ends bytes ≡ false
no_end bytes first second = or_from (begins (codes "\n") bytes) (begins (codes " )") bytes) (begins_not (codes "\n") bytes first) (begins_not (codes " )") bytes second)

seg_no_end : (s : Seg) (rest : List ℕ) → tree_ends (seg_text s ++ rest) ≡ false
seg_no_end (Line count) rest = no_end (seg_text (Line count) ++ rest) refl refl
seg_no_end (Fork first second) rest = no_end (seg_text (Fork first second) ++ rest) refl refl
seg_no_end (Rep turns body) rest = no_end (seg_text (Rep turns body) ++ rest) refl refl
seg_no_end (Call routine) rest = no_end (seg_text (Call routine) ++ rest) refl refl
seg_no_end (Stay monitor body) rest = no_end (seg_text (Stay monitor body) ++ rest) refl refl
seg_no_end Wait rest = no_end (seg_text Wait ++ rest) refl refl
seg_no_end Exit rest = no_end (seg_text Exit ++ rest) refl refl

-- a segment has bytes, so a tree has no more segments than bytes
seg_some : (s : Seg) → 0 < length (seg_text s)
seg_some (Line count) = omega arith
seg_some (Fork first second) = omega arith
seg_some (Rep turns body) = omega arith
seg_some (Call routine) = omega arith
seg_some (Stay monitor body) = omega arith
seg_some Wait = omega arith
seg_some Exit = omega arith

row_long : (tree : Segs) → row tree ≤ length (segs_text tree)
row_long Nil = omega arith
row_long (Cons head rest) =
    let some = seg_some head in
    let more = row_long rest in
    omega (arith, some, more, length-append (seg_text head) (segs_text rest))

-- trees of the format are read as they are
record Reads (sub : Format Segs) (read : Front → Read Segs) : Type 0 where
  tree : (tree : Segs) (start : ℕ) (rest : List ℕ) → sub.is tree ≡ true → IsEnd rest → read (place start (segs_text tree ++ rest)) ≡ Ok (tree, place start rest)

module _ (monitors : ℕ) (sub : Format Segs) (read : Front → Read Segs) (reads : Reads sub read) where
  arm_reads : (tree : Segs) (start : ℕ) (rest : List ℕ) → sub.is tree ≡ true → arm_read read (place start (codes " (" ++ (segs_text tree ++ (codes " )" ++ rest)))) ≡ Ok (tree, place start rest)
  arm_reads tree start rest h = rw (skips (codes " (") start (segs_text tree ++ (codes " )" ++ rest)), reads.tree tree start (codes " )" ++ rest) h (closing rest), skips (codes " )") start rest) refl

  line_reads : (count start : ℕ) (rest : List ℕ) → (seg_format (in_image monitors) sub).is (Line count) ≡ true → Stops is_digit rest → seg_read monitors read (place start (seg_text (Line count) ++ rest)) ≡ Ok (Line count, place start rest)
  unfolding seg_read
  line_reads count start rest h stops =
      let range = in_u32 1 65535 count h in
      rw (begins_self (codes " line ") (decimal count ++ rest), field_reads (codes " line ") 1 65535 count start rest range.0 range.1 (omega arith) stops) refl

  call_reads : (routine start : ℕ) (rest : List ℕ) → (seg_format (in_image monitors) sub).is (Call routine) ≡ true → Stops is_digit rest → seg_read monitors read (place start (seg_text (Call routine) ++ rest)) ≡ Ok (Call routine, place start rest)
  unfolding seg_read
  call_reads routine start rest h stops =
      let text = codes " call " ++ (decimal routine ++ rest) in
      let low : routine < 2 ^ 16 = ltb-true routine (2 ^ 16) h in
      rw (
        begins_not (codes " line ") text refl,
        begins_not (codes " fork") text refl,
        begins_self (codes " call ") (decimal routine ++ rest),
        field_reads (codes " call ") 0 65535 routine start rest (omega arith) (omega (arith, low)) (omega arith) stops,
      ) refl

  wait_reads : (start : ℕ) (rest : List ℕ) → seg_read monitors read (place start (codes " wait" ++ rest)) ≡ Ok (Wait, place start rest)
  unfolding seg_read
  wait_reads start rest =
      let text = codes " wait" ++ rest in
      rw (
        begins_not (codes " line ") text refl,
        begins_not (codes " fork") text refl,
        begins_self (codes " wait") rest,
        skips (codes " wait") start rest,
      ) refl

  exit_reads : (start : ℕ) (rest : List ℕ) → seg_read monitors read (place start (codes " exit" ++ rest)) ≡ Ok (Exit, place start rest)
  unfolding seg_read
  exit_reads start rest =
      let text = codes " exit" ++ rest in
      rw (
        begins_not (codes " line ") text refl,
        begins_not (codes " fork") text refl,
        skips (codes " exit") start rest,
      ) refl

  fork_reads : (first second : Segs) (start : ℕ) (rest : List ℕ) → (seg_format (in_image monitors) sub).is (Fork first second) ≡ true → seg_read monitors read (place start (seg_text (Fork first second) ++ rest)) ≡ Ok (Fork first second, place start rest)
  unfolding seg_read
  fork_reads first second start rest h =
      let p = and_parts (sub.is first) (sub.is second) h in
      let after = codes " (" ++ (segs_text second ++ (codes " )" ++ rest)) in
      let arms = codes " (" ++ (segs_text first ++ (codes " )" ++ after)) in
      let text = codes " fork" ++ arms in
      let same : seg_text (Fork first second) ++ rest ≡ text = simp append_assoc in
      ap (λ t. seg_read monitors read (place start t)) same
      ∙ rw (begins_not (codes " line ") text refl, begins_self (codes " fork") arms, skips (codes " fork") start arms, arm_reads first start after p.0, arm_reads second start rest p.1) refl

  rep_reads : (turns : ℕ) (body : Segs) (start : ℕ) (rest : List ℕ) → (seg_format (in_image monitors) sub).is (Rep turns body) ≡ true → seg_read monitors read (place start (seg_text (Rep turns body) ++ rest)) ≡ Ok (Rep turns body, place start rest)
  unfolding seg_read
  rep_reads turns body start rest h =
      let p = and_parts (turns_count.is turns) (sub.is body) h in
      let range = in_u32 1 1000000 turns p.0 in
      let arm = codes " (" ++ (segs_text body ++ (codes " )" ++ rest)) in
      let text = codes " rep " ++ (decimal turns ++ arm) in
      let same : seg_text (Rep turns body) ++ rest ≡ text = simp append_assoc in
      ap (λ t. seg_read monitors read (place start t)) same
      ∙ rw (
        begins_not (codes " line ") text refl,
        begins_not (codes " fork") text refl,
        begins_self (codes " rep ") (decimal turns ++ arm),
        field_reads (codes " rep ") 1 1000000 turns start arm range.0 range.1 (omega arith) refl,
        arm_reads body start rest p.1,
      ) refl

  stay_reads : (monitor : ℕ) (body : Segs) (start : ℕ) (rest : List ℕ) → (seg_format (in_image monitors) sub).is (Stay monitor body) ≡ true
      → seg_read monitors read (place start (seg_text (Stay monitor body) ++ rest)) ≡ Ok (Stay monitor body, place start rest)
  unfolding seg_read
  stay_reads monitor body start rest h =
      let p = and_parts ((u16_below monitors).is monitor) (sub.is body) h in
      let range = in_count monitors monitor p.0 in
      let arm = codes " (" ++ (segs_text body ++ (codes " )" ++ rest)) in
      let text = codes " stay " ++ (decimal monitor ++ arm) in
      let same : seg_text (Stay monitor body) ++ rest ≡ text = simp append_assoc in
      ap (λ t. seg_read monitors read (place start t)) same
      ∙ rw (
        begins_not (codes " line ") text refl,
        begins_not (codes " fork") text refl,
        begins_self (codes " stay ") (decimal monitor ++ arm),
        field_reads (codes " stay ") 0 65535 monitor start arm (omega arith) (omega (arith, range.0)) (omega arith) refl,
        range.1,
        arm_reads body start rest p.1,
      ) refl

  seg_reads : (s : Seg) (start : ℕ) (rest : List ℕ) → (seg_format (in_image monitors) sub).is s ≡ true → Stops is_digit rest → seg_read monitors read (place start (seg_text s ++ rest)) ≡ Ok (s, place start rest)
  seg_reads (Line count) start rest h stops = line_reads count start rest h stops
  seg_reads (Fork first second) start rest h stops = fork_reads first second start rest h
  seg_reads (Rep turns body) start rest h stops = rep_reads turns body start rest h
  seg_reads (Call routine) start rest h stops = call_reads routine start rest h stops
  seg_reads (Stay monitor body) start rest h stops = stay_reads monitor body start rest h
  seg_reads Wait start rest h stops = wait_reads start rest
  seg_reads Exit start rest h stops = exit_reads start rest

  segs_read_back : (tree : Segs) (most start : ℕ) (rest : List ℕ) → segs_is (seg_format (in_image monitors) sub) tree ≡ true → row tree < most → IsEnd rest
      → segs_read (seg_read monitors read) most (place start (segs_text tree ++ rest)) ≡ Ok (tree, place start rest)
  unfolding segs_read
  segs_read_back tree zero start rest h few end = absurd (omega (arith, few))
  segs_read_back Nil (suc most) start rest h few end = rw (end.ends_tree) refl
  segs_read_back (Cons head more) (suc most) start rest h few end =
      let p = and_parts ((seg_format (in_image monitors) sub).is head) (segs_is (seg_format (in_image monitors) sub) more) h in
      let after = segs_text more ++ rest in
      ap (λ t. segs_read (seg_read monitors read) (suc most) (place start t)) (append_assoc (seg_text head) (segs_text more) rest)
      ∙ rw (seg_no_end head after, seg_reads head start after p.0 (tree_stops is_digit refl more rest end.stops), segs_read_back more most start rest p.1 (omega (arith, few)) end) refl

tree_reads : (monitors depth : ℕ) → Reads (tree_format (in_image monitors) depth) (tree_read monitors depth)
unfolding tree_read tree_format
tree_reads monitors zero = record { tree = λ tree start rest h end. absurd cc }
tree_reads monitors (suc depth) = record {
  tree = λ tree start rest h end.
      let few : row tree < length (segs_text tree ++ rest) = omega (arith, row_long tree, length-append (segs_text tree) rest, end.some) in
      segs_read_back monitors (tree_format (in_image monitors) depth) (tree_read monitors depth) (tree_reads monitors depth) tree (length (segs_text tree ++ rest)) start rest
      (and_parts (nat_lt (row tree) (2 ^ 32)) (segs_is (seg_format (in_image monitors) (tree_format (in_image monitors) depth)) tree) h).1 few end;
}

pub tree_line_reads : (monitors : ℕ) (tree : Segs) (rest : List ℕ) → (tree_format (in_image monitors) 130).is tree ≡ true → tree_line_read monitors (line_start (tree_line tree ++ rest)) ≡ Ok (tree, line_start rest)
unfolding tree_line_read
tree_line_reads monitors tree rest h =
    let after = segs_text tree ++ (codes "\n" ++ rest) in
    let text = codes "tree" ++ after in
    let same : tree_line tree ++ rest ≡ text = simp append_assoc in
    let formed : is_tree_line text ≡ true = ap is_tree_line (sym same) ∙ tree_has_form tree rest (tree_fits monitors 130 tree h) in
    ap (λ t. tree_line_read monitors (line_start t)) same
    ∙ rw (formed, skips (codes "tree") (length text) after, (tree_reads monitors 130).tree tree (length text) (codes "\n" ++ rest) h (line_feed rest), ends (length text) rest) refl
