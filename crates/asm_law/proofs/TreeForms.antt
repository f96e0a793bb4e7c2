-- The line of a tree has the form of one.
use Rattle.std.proofs.Common.{◌≡◌, ◌<◌, ◌^◌, ◌&&◌, ◌==◌, ◌++◌, ℕ, zero, suc, Bool, true, false, List, [], ◌∷◌, length, drop, fold, decimal, refl, sym, ap, ◌∙◌, subst, arith, append_assoc, append-nil, length-append}
use Rattle.std.specs.Prelude.{not, nat_lt, codes}
use Rattle.std.specs.List.{list_all}
use Rattle.std.proofs.Math.Seq.{take-append_seam}
use Rattle.std.proofs.lemmas.Bool.{and_parts, and_from, false≢true, lt-ltb, ltb-true, eqb-true, eqb-false, ne_eqb, not-true}
use Rattle.std.proofs.lemmas.List.Folds.{list_all-append}
use Rattle.machine_semantics.specs.Trees.{Seg, Line, Fork, Rep, Call, Stay, Wait, Exit, Segs, Nil, Cons}
use Rattle.image_format.specs.Format.{Format}
use Rattle.image_format.specs.TreeFormat.{in_image, turns_count, u16_below, seg_format, segs_is, tree_format}
use Rattle.image_format.specs.TreeBytes.{row}
use Rattle.asm_format.specs.TreeText.{seg_text, segs_text, tree_line}
use Rattle.text_fields.specs.Fields.{Lacks}
use Rattle.text_fields.specs.LineFields.{is_digit, is_numeral}
use Rattle.asm_lines.specs.declared.form.Awaits.TheVariants as await
use Rattle.asm_lines.specs.TreeForm.{Shape, closed, step, is_number, cuts, tree_form, is_tree_line, line_len}
use Rattle.asm_lines.proofs.Cutting.{cuts_at, cuts_none}
use Rattle.asm_law.proofs.ReadsNumbers.{Stops, prefix_is, numeral, is_spelled}
use Rattle.asm_law.proofs.ReadsNames.{in_u32, in_count}
use Rattle.asm_lines.proofs.Lasts.{last_pushed}
use Rattle.syntax.proofs.ReadLemmas.{weaker}

-- ---- trees whose numbers have 32 bits

abbrev mutual
  pub SegFits : Seg → Type 0
  SegFits (Line count) = count < 2 ^ 32
  SegFits (Fork first second) = TreeFits first × TreeFits second
  SegFits (Rep turns body) = (turns < 2 ^ 32) × TreeFits body
  SegFits (Call routine) = routine < 2 ^ 32
  SegFits (Stay monitor body) = (monitor < 2 ^ 32) × TreeFits body
  SegFits Wait = Unit {0}
  SegFits Exit = Unit {0}

  pub TreeFits : Segs → Type 0
  TreeFits Nil = Unit {0}
  TreeFits (Cons head rest) = SegFits head × TreeFits rest

module _ (monitors : ℕ) (sub : Format Segs) (fits : (tree : Segs) → sub.is tree ≡ true → TreeFits tree) where
  seg_fits : (s : Seg) → (seg_format (in_image monitors) sub).is s ≡ true → SegFits s
  seg_fits (Line count) h = let range = in_u32 1 65535 count h in omega (arith, range.1)
  seg_fits (Fork first second) h = let p = and_parts (sub.is first) (sub.is second) h in (fits first p.0, fits second p.1)
  seg_fits (Rep turns body) h =
      let p = and_parts (turns_count.is turns) (sub.is body) h in
      let range = in_u32 1 1000000 turns p.0 in
      (omega (arith, range.1), fits body p.1)
  seg_fits (Call routine) h = let low : routine < 2 ^ 16 = ltb-true routine (2 ^ 16) h in omega (arith, low)
  seg_fits (Stay monitor body) h =
      let p = and_parts ((u16_below monitors).is monitor) (sub.is body) h in
      let range = in_count monitors monitor p.0 in
      (omega (arith, range.0), fits body p.1)
  seg_fits Wait h = tt
  seg_fits Exit h = tt

  segs_fit : (tree : Segs) → segs_is (seg_format (in_image monitors) sub) tree ≡ true → TreeFits tree
  segs_fit Nil h = tt
  segs_fit (Cons head rest) h =
      let p = and_parts ((seg_format (in_image monitors) sub).is head) (segs_is (seg_format (in_image monitors) sub) rest) h in
      (seg_fits head p.0, segs_fit rest p.1)

pub tree_fits : (monitors depth : ℕ) (tree : Segs) → (tree_format (in_image monitors) depth).is tree ≡ true → TreeFits tree
unfolding tree_format
tree_fits monitors zero tree h = absurd cc
tree_fits monitors (suc depth) tree h =
    segs_fit monitors (tree_format (in_image monitors) depth) (tree_fits monitors depth) tree (and_parts (nat_lt (row tree) (2 ^ 32)) (segs_is (seg_format (in_image monitors) (tree_format (in_image monitors) depth)) tree) h).1

-- ---- bytes of a tree

-- a byte that does not end a line
abbrev pub in_line : ℕ → Bool
in_line b = not (b == 10)

abbrev pub is_line : List ℕ → Bool
is_line bytes = list_all in_line bytes

digit_in_line : (b : ℕ) → is_digit b ≡ true → in_line b ≡ true
digit_in_line b h = rw (ne_eqb b 10 (λ (same : b ≡ 10). false≢true (sym (ap is_digit same) ∙ h))) refl

pub decimal_line : (n : ℕ) → n < 2 ^ 32 → is_line (decimal n) ≡ true
decimal_line n low = weaker is_digit in_line digit_in_line (decimal n) (numeral n (omega arith)).are_digits

pub line_append : (a b : List ℕ) → is_line (a ++ b) ≡ (is_line a && is_line b)
line_append a b = list_all-append in_line a b

mutual
  seg_line : (s : Seg) → SegFits s → is_line (seg_text s) ≡ true
  seg_line (Line count) h = decimal_line count h
  seg_line (Fork first second) h = rw (line_append (segs_text first) (codes " ) (" ++ (segs_text second ++ codes " )")), segs_line first h.0, line_append (segs_text second) (codes " )"), segs_line second h.1) refl
  seg_line (Rep turns body) h = rw (line_append (decimal turns) (codes " (" ++ (segs_text body ++ codes " )")), decimal_line turns h.0, line_append (segs_text body) (codes " )"), segs_line body h.1) refl
  seg_line (Call routine) h = decimal_line routine h
  seg_line (Stay monitor body) h = rw (line_append (decimal monitor) (codes " (" ++ (segs_text body ++ codes " )")), decimal_line monitor h.0, line_append (segs_text body) (codes " )"), segs_line body h.1) refl
  seg_line Wait h = refl
  seg_line Exit h = refl

  segs_line : (tree : Segs) → TreeFits tree → is_line (segs_text tree) ≡ true
  segs_line Nil h = refl
  segs_line (Cons head rest) h = rw (line_append (seg_text head) (segs_text rest), seg_line head h.0, segs_line rest h.1) refl

-- a tree is empty or begins with a space
pub tree_stops : (test : ℕ → Bool) → test 32 ≡ false → (tree : Segs) (rest : List ℕ) → Stops test rest → Stops test (segs_text tree ++ rest)
tree_stops test space Nil rest h = h
tree_stops test space (Cons (Line count) more) rest h = space
tree_stops test space (Cons (Fork first second) more) rest h = space
tree_stops test space (Cons (Rep turns body) more) rest h = space
tree_stops test space (Cons (Call routine) more) rest h = space
tree_stops test space (Cons (Stay monitor body) more) rest h = space
tree_stops test space (Cons Wait more) rest h = space
tree_stops test space (Cons Exit more) rest h = space

-- ---- words

-- the bytes of a word
abbrev in_word : ℕ → Bool
in_word b = not (b == 32)

pub lacks_byte : (stop : ℕ) (bytes : List ℕ) → list_all (λ b. not (b == stop)) bytes ≡ true → Lacks stop bytes
lacks_byte stop [] h = tt
lacks_byte stop (b ∷ bs) h =
    let p = and_parts (not (b == stop)) (list_all (λ b. not (b == stop)) bs) h in
    (eqb-false b stop (not-true (b == stop) p.0), lacks_byte stop bs p.1)

digit_in_word : (b : ℕ) → is_digit b ≡ true → in_word b ≡ true
digit_in_word b h = rw (ne_eqb b 32 (λ (same : b ≡ 32). false≢true (sym (ap is_digit same) ∙ h))) refl

decimal_word : (n : ℕ) → n < 2 ^ 32 → list_all in_word (decimal n) ≡ true
decimal_word n low = weaker is_digit in_word digit_in_word (decimal n) (numeral n (omega arith)).are_digits

-- the words after the first space
abbrev later : List ℕ → List (List ℕ)
later bytes = drop 1 (cuts 32 bytes)

space_there : (b : ℕ) → in_word b ≡ false → b ≡ 32
space_there b h = by (b == 32) refl h where
  by : (t : Bool) → (b == 32) ≡ t → not t ≡ false → b ≡ 32
  by true same e = eqb-true b 32 same
  by false same e = absurd (false≢true (sym e))

-- a word, before a space or the end
cut_word : (word rest : List ℕ) → list_all in_word word ≡ true → Stops in_word rest → cuts 32 (word ++ rest) ≡ word ∷ later rest
cut_word word [] all stops = ap (cuts 32) (append-nil word) ∙ cuts_none 32 word (lacks_byte 32 word all)
cut_word word (b ∷ rest) all stops =
    ap (λ c. cuts 32 (word ++ c ∷ rest)) (space_there b stops) ∙ cuts_at 32 word rest (lacks_byte 32 word all) ∙ ap (λ c. word ∷ later (c ∷ rest)) (sym (space_there b stops))

-- the words of a tree, before these words
abbrev mutual
  seg_words : Seg → List (List ℕ) → List (List ℕ)
  seg_words (Line count) words = codes "line" ∷ decimal count ∷ words
  seg_words (Fork first second) words = codes "fork" ∷ codes "(" ∷ segs_words first (codes ")" ∷ codes "(" ∷ segs_words second (codes ")" ∷ words))
  seg_words (Rep turns body) words = codes "rep" ∷ decimal turns ∷ codes "(" ∷ segs_words body (codes ")" ∷ words)
  seg_words (Call routine) words = codes "call" ∷ decimal routine ∷ words
  seg_words (Stay monitor body) words = codes "stay" ∷ decimal monitor ∷ codes "(" ∷ segs_words body (codes ")" ∷ words)
  seg_words Wait words = codes "wait" ∷ words
  seg_words Exit words = codes "exit" ∷ words

  segs_words : Segs → List (List ℕ) → List (List ℕ)
  segs_words Nil words = words
  segs_words (Cons head rest) words = seg_words head (segs_words rest words)

-- what follows a word of the given bytes
number_then : (n : ℕ) (rest : List ℕ) → n < 2 ^ 32 → Stops in_word rest → cuts 32 (decimal n ++ rest) ≡ decimal n ∷ later rest
number_then n rest low stops = cut_word (decimal n) rest (decimal_word n low) stops

-- a tree between parentheses
arm_later : (tree : Segs) (rest : List ℕ) → Stops in_word rest → later (segs_text tree ++ (codes " )" ++ rest)) ≡ segs_words tree (later (codes " )" ++ rest))
    → later (codes " (" ++ (segs_text tree ++ (codes " )" ++ rest))) ≡ codes "(" ∷ segs_words tree (codes ")" ∷ later rest)
arm_later tree rest stops inner =
    let closing = codes " )" ++ rest in
    cut_word (codes "(") (segs_text tree ++ closing) refl (tree_stops in_word refl tree closing refl) ∙ ap (λ (ws : List (List ℕ)). codes "(" ∷ ws) inner
    ∙ ap (λ (ws : List (List ℕ)). codes "(" ∷ segs_words tree ws) (cut_word (codes ")") rest refl stops)

mutual
  seg_later : (s : Seg) (rest : List ℕ) → SegFits s → Stops in_word rest → later (seg_text s ++ rest) ≡ seg_words s (later rest)
  seg_later (Line count) rest h stops = ap (λ (ws : List (List ℕ)). codes "line" ∷ ws) (number_then count rest h stops)
  seg_later (Fork first second) rest h stops =
      let after = codes " (" ++ (segs_text second ++ (codes " )" ++ rest)) in
      let same : seg_text (Fork first second) ++ rest ≡ codes " fork" ++ (codes " (" ++ (segs_text first ++ (codes " )" ++ after))) = simp append_assoc in
      ap later same ∙ ap (λ (ws : List (List ℕ)). codes "fork" ∷ ws) (arm_later first after refl (segs_later first (codes " )" ++ after) h.0 refl))
      ∙ ap (λ (ws : List (List ℕ)). codes "fork" ∷ codes "(" ∷ segs_words first (codes ")" ∷ ws)) (arm_later second rest stops (segs_later second (codes " )" ++ rest) h.1 refl))
  seg_later (Rep turns body) rest h stops =
      let arm = codes " (" ++ (segs_text body ++ (codes " )" ++ rest)) in
      let same : seg_text (Rep turns body) ++ rest ≡ codes " rep " ++ (decimal turns ++ arm) = simp append_assoc in
      ap later same ∙ ap (λ (ws : List (List ℕ)). codes "rep" ∷ ws) (number_then turns arm h.0 refl)
      ∙ ap (λ (ws : List (List ℕ)). codes "rep" ∷ decimal turns ∷ ws) (arm_later body rest stops (segs_later body (codes " )" ++ rest) h.1 refl))
  seg_later (Call routine) rest h stops = ap (λ (ws : List (List ℕ)). codes "call" ∷ ws) (number_then routine rest h stops)
  seg_later (Stay monitor body) rest h stops =
      let arm = codes " (" ++ (segs_text body ++ (codes " )" ++ rest)) in
      let same : seg_text (Stay monitor body) ++ rest ≡ codes " stay " ++ (decimal monitor ++ arm) = simp append_assoc in
      ap later same ∙ ap (λ (ws : List (List ℕ)). codes "stay" ∷ ws) (number_then monitor arm h.0 refl)
      ∙ ap (λ (ws : List (List ℕ)). codes "stay" ∷ decimal monitor ∷ ws) (arm_later body rest stops (segs_later body (codes " )" ++ rest) h.1 refl))
  seg_later Wait rest h stops = cut_word (codes "wait") rest refl stops
  seg_later Exit rest h stops = cut_word (codes "exit") rest refl stops

  segs_later : (tree : Segs) (rest : List ℕ) → TreeFits tree → Stops in_word rest → later (segs_text tree ++ rest) ≡ segs_words tree (later rest)
  segs_later Nil rest h stops = refl
  segs_later (Cons head more) rest h stops =
      ap later (append_assoc (seg_text head) (segs_text more) rest)
      ∙ seg_later head (segs_text more ++ rest) h.0 (tree_stops in_word refl more rest stops) ∙ ap (seg_words head) (segs_later more rest h.1 stops)

-- ---- steps

number_word : (n : ℕ) → n < 2 ^ 32 → is_number (decimal n) ≡ true
number_word n low = and_from (list_all is_digit (decimal n)) (is_numeral (decimal n)) (numeral n (omega arith)).are_digits (is_spelled n (omega arith))

-- a segment is awaited inside these parentheses
abbrev inside : List Bool → Shape
inside arms = record { awaits = await.Segment; arms = arms }

abbrev before_arm : List Bool → Shape
before_arm arms = record { awaits = await.Arm; arms = arms }

closes_first : (arms : List Bool) → step (inside (arms ++ true ∷ [])) (codes ")") ≡ before_arm (arms ++ false ∷ [])
closes_first arms = ap closed (last_pushed arms true)

closes : (arms : List Bool) → step (inside (arms ++ false ∷ [])) (codes ")") ≡ inside arms
closes arms = ap closed (last_pushed arms false)

numbered : (n : ℕ) (arms : List Bool) → n < 2 ^ 32 → step (record { awaits = await.Number; arms = arms }) (decimal n) ≡ inside arms
numbered n arms low = rw (number_word n low) refl

numbered_arm : (n : ℕ) (arms : List Bool) → n < 2 ^ 32 → step (record { awaits = await.NumberAndArm; arms = arms }) (decimal n) ≡ before_arm (arms ++ false ∷ [])
numbered_arm n arms low = rw (number_word n low) refl

mutual
  seg_steps : (s : Seg) (arms : List Bool) (words : List (List ℕ)) → SegFits s → fold step (inside arms) (seg_words s words) ≡ fold step (inside arms) words
  seg_steps (Line count) arms words h = ap (λ s. fold step s words) (numbered count arms h)
  seg_steps (Fork first second) arms words h =
      segs_steps first (arms ++ true ∷ []) (codes ")" ∷ codes "(" ∷ segs_words second (codes ")" ∷ words)) h.0
      ∙ ap (λ s. fold step s (codes "(" ∷ segs_words second (codes ")" ∷ words))) (closes_first arms)
      ∙ segs_steps second (arms ++ false ∷ []) (codes ")" ∷ words) h.1 ∙ ap (λ s. fold step s words) (closes arms)
  seg_steps (Rep turns body) arms words h =
      ap (λ s. fold step s (codes "(" ∷ segs_words body (codes ")" ∷ words))) (numbered_arm turns arms h.0)
      ∙ segs_steps body (arms ++ false ∷ []) (codes ")" ∷ words) h.1 ∙ ap (λ s. fold step s words) (closes arms)
  seg_steps (Call routine) arms words h = ap (λ s. fold step s words) (numbered routine arms h)
  seg_steps (Stay monitor body) arms words h =
      ap (λ s. fold step s (codes "(" ∷ segs_words body (codes ")" ∷ words))) (numbered_arm monitor arms h.0)
      ∙ segs_steps body (arms ++ false ∷ []) (codes ")" ∷ words) h.1 ∙ ap (λ s. fold step s words) (closes arms)
  seg_steps Wait arms words h = refl
  seg_steps Exit arms words h = refl

  segs_steps : (tree : Segs) (arms : List Bool) (words : List (List ℕ)) → TreeFits tree → fold step (inside arms) (segs_words tree words) ≡ fold step (inside arms) words
  segs_steps Nil arms words h = refl
  segs_steps (Cons head rest) arms words h = seg_steps head arms (segs_words rest words) h.0 ∙ segs_steps rest arms words h.1

-- ---- the line

-- the line without its end
abbrev pub tree_words : Segs → List ℕ
tree_words tree = codes "tree" ++ segs_text tree

tree_is_formed : (tree : Segs) → TreeFits tree → tree_form (tree_words tree) ≡ true
unfolding tree_form
tree_is_formed tree h =
    let all : segs_text tree ++ [] ≡ segs_text tree = append-nil (segs_text tree) in
    let first : cuts 32 (tree_words tree) ≡ codes "tree" ∷ later (segs_text tree) =
    cut_word (codes "tree") (segs_text tree) refl (subst (Stops in_word) all (tree_stops in_word refl tree [] tt)) in
    let more : later (segs_text tree) ≡ segs_words tree [] = ap later (sym all) ∙ segs_later tree [] h tt in
    rw (first, more, segs_steps tree [] [] h) refl

pub tree_words_line : (tree : Segs) → TreeFits tree → is_line (tree_words tree) ≡ true
tree_words_line tree h = segs_line tree h

pub tree_has_form : (tree : Segs) (rest : List ℕ) → TreeFits tree → is_tree_line (tree_line tree ++ rest) ≡ true
tree_has_form tree rest h =
    let line = tree_words tree in
    let after = codes "\n" ++ rest in
    let same : tree_line tree ++ rest ≡ line ++ after = simp append_assoc in
    let long : line_len (line ++ after) ≡ length line = prefix_is in_line line after (tree_words_line tree h) refl in
    let shorter : nat_lt (length line) (length (line ++ after)) ≡ true = lt-ltb (length line) (length (line ++ after)) (omega (arith, length-append line after)) in
    ap is_tree_line same ∙ rw (long, shorter, take-append_seam line after) (tree_is_formed tree h)
