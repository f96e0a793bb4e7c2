-- The layout tells what reading tells: trees and routines.
use Rattle.std.proofs.Common.{◌≡◌, ℕ, zero, suc, List, length, Ok, Err, Option, Some, refl, ◌∙◌, true, false, Bool}
use Rattle.std.specs.Prelude.{◌||◌, ◌==◌, codes, nat_lt, if◌then◌else◌}
use Rattle.machine_semantics.specs.Trees.{Seg, Segs, Wait, Exit}
use Rattle.text_fields.specs.declared.fault.FieldFault.{FieldFault}
use Rattle.text_fields.specs.Front.{Front, Read, ◌>>=◌, no_form, out_of_range, begins, noted, skip}
use Rattle.text_fields.specs.LineFields.{field_read}
use Rattle.asm_lines.specs.TreeForm.{is_tree_line}
use Rattle.asm_lines.specs.Trees as t
use Rattle.asm_lines.specs.Routines as r
use Rattle.asm_law.specs.Notes as notes
use Rattle.asm_law.specs.Layout as l
use Rattle.asm_law.specs.Layout.{Layout, done, word, choice, numeral, note, ends, left}
use Rattle.asm_law.proofs.Walks.{walk}
use Rattle.asm_law.proofs.Reading.{follow, told, Reads, Skips, chain, pass, step, a_word, an_end, a_field}
use Rattle.asm_law.proofs.FieldLines.{a_choice, a_note, behind_skips, no_such}

pub skip_field : (label : List ℕ) (low high : ℕ) → Skips (field_read label low high) (λ k. l.field label low high (λ n. k))
skip_field label low high k s = a_field label low high (λ n. k) s

-- ---- segments

module _ (sub : Front → Read Segs) (m : Layout → Layout) (skips : Skips sub m) where
  an_arm : Skips (t.arm_read sub) (l.arm m)
  an_arm k =
      pass (λ s. skip (codes " (") s >>= sub) (λ n. word (codes " (") (m n)) (word (codes " )") k) _ _ (behind_skips (codes " (") sub m skips) (λ x. step _ _ _ (λ t. Ok (x, t)) _ (a_word (codes " )")) (λ s. refl))

  a_fork : Skips (t.fork_read sub) (λ k. word (codes " fork") (l.arm m (l.arm m k)))
  a_fork k =
      pass (λ s. skip (codes " fork") s >>= t.arm_read sub) (λ n. word (codes " fork") (l.arm m n)) (l.arm m k) _ _ (behind_skips (codes " fork") (t.arm_read sub) (l.arm m) an_arm)
      (λ first. pass _ (l.arm m) k _ _ an_arm (λ second s. refl))

  a_rep : Skips (t.rep_read sub) (λ k. l.field (codes " rep ") 1 1000000 (λ turns. l.arm m k))
  a_rep k = pass _ _ (l.arm m k) _ _ (skip_field (codes " rep ") 1 1000000) (λ turns. pass _ (l.arm m) k _ _ an_arm (λ body s. refl))

  a_stay : (monitors : ℕ) → Skips (t.stay_read monitors sub) (λ k. l.field (codes " stay ") 0 65535 (λ n. note (notes.one_of monitors n) (l.arm m k)))
  a_stay monitors k =
      chain _ _ _ (λ n. note (notes.one_of monitors n) (l.arm m k)) _ _ (a_field (codes " stay ") 0 65535) (λ n s. a_note _ _ s ∙ pass _ (l.arm m) k _ _ an_arm (λ body s. refl) (noted s (nat_lt n monitors)))

  a_segment : (monitors : ℕ) → Skips (t.seg_read monitors sub) (l.segment monitors m)
  unfolding t.seg_read
  a_segment monitors k s =
      a_choice _ _ _ s _ _ _ (pass _ _ k _ _ (skip_field (codes " line ") 1 65535) (λ n s. refl) s)
      (a_choice _ _ _ s _ _ _ (a_fork k s)
      (a_choice _ _ _ s _ _ _ (a_rep k s)
      (a_choice _ _ _ s _ _ _ (pass _ _ k _ _ (skip_field (codes " call ") 0 65535) (λ n s. refl) s)
      (a_choice _ _ _ s _ _ _ (a_stay monitors k s)
      (a_choice _ _ _ s _ _ _ (step _ _ _ (λ t. Ok (Wait, t)) _ (a_word (codes " wait")) (λ s. refl) s) (step _ _ _ (λ t. Ok (Exit, t)) _ (a_word (codes " exit")) (λ s. refl) s))))))

two_choices : {A : Type 0} (v w : List ℕ) (a b : Layout) (s : Front) (r q : Read A) (h : A → Front → Option FieldFault) → told a s ≡ follow r h → told b s ≡ follow q h
    → told (choice v a (choice w a b)) s ≡ follow (if begins v s.rest || begins w s.rest then r else q) h
unfolding told
two_choices v w a b s r q h first second = by (begins v s.rest) (begins w s.rest) where
  by : (c d : Bool) → (if c then walk a s else (if d then walk a s else walk b s)) ≡ follow (if c || d then r else q) h
  by true d = first
  by false true = first
  by false false = second

module _ (one : Front → Read Seg) (m : Layout → Layout) (skips : Skips one m) where
  some_segments : (n : ℕ) → Skips (t.segs_read one n) (l.segments m n)
  unfolding t.segs_read
  some_segments zero k s = no_such s
  some_segments (suc n) k s =
      two_choices _ _ _ _ s _ _ _ refl (pass _ m (l.segments m n k) _ _ skips (λ head. pass _ (l.segments m n) k _ _ (some_segments n) (λ rest s. refl)) s)

pub so_many : (m : ℕ → Layout) (s : Front) → told (left m) s ≡ told (m (length s.rest)) s
unfolding told
so_many m s = refl

deep : (s : Front) → told l.too_deep s ≡ Some (out_of_range s)
unfolding told
deep s = refl

a_tree : (monitors depth : ℕ) → Skips (t.tree_read monitors depth) (l.nested monitors depth)
unfolding t.tree_read l.nested
a_tree monitors zero k s = deep s
a_tree monitors (suc depth) k s =
    so_many _ s ∙ some_segments (t.seg_read monitors (t.tree_read monitors depth)) (l.segment monitors (l.nested monitors depth)) (a_segment (t.tree_read monitors depth) (l.nested monitors depth) (a_tree monitors depth) monitors) (length s.rest) k s

if_tree : {A : Type 0} (a : Layout) (s : Front) (r : Read A) (h : A → Front → Option FieldFault) → told a s ≡ follow r h → told (l.tree a) s ≡ follow (if is_tree_line s.rest then r else Err (no_form s)) h
unfolding told
if_tree a s r h is = by (is_tree_line s.rest) where
  by : (b : Bool) → (if b then walk a s else Some (no_form s)) ≡ follow (if b then r else Err (no_form s)) h
  by true = is
  by false = refl

pub a_tree_line : (monitors : ℕ) → Skips (t.tree_line_read monitors) (l.tree_line monitors)
unfolding t.tree_line_read
a_tree_line monitors k s =
    if_tree _ s _ _ (pass (λ s. skip (codes "tree") s >>= t.tree_read monitors 130) (λ n. word (codes "tree") (l.nested monitors 130 n)) (ends k) _ _ (behind_skips (codes "tree") (t.tree_read monitors 130) (l.nested monitors 130) (a_tree monitors 130))
    (λ tree. step _ _ _ (λ t. Ok (tree, t)) _ an_end (λ s. refl)) s)

-- ---- routines

an_owned : (kind : ℕ) (label : List ℕ) (count : ℕ) (k : ℕ → Layout) (s : Front) → told (l.owner label count (k kind)) s ≡ follow (r.owned_read kind label count s) (λ o more. told (k o.0) more)
an_owned kind label count k = chain _ _ _ (λ n. note (notes.one_of count n) (k kind)) _ _ (a_field label 0 65535) (λ n s. a_note _ _ s)

an_owner : (processes monitors : ℕ) → Reads (r.owner_read processes monitors) (λ o. o.0) (l.owned processes monitors)
unfolding r.owner_read
an_owner processes monitors k s =
    a_choice _ _ _ s _ _ _ (an_owned 1 (codes "routine process ") processes k s)
    (a_choice _ _ _ s _ _ _ (an_owned 2 (codes "routine monitor ") monitors k s) (step _ _ _ (λ t. Ok ((0, 0), t)) _ (a_word (codes "routine program")) (λ s. refl) s))

abbrev placed : Layout → Layout
placed k = l.field (codes " params ") 0 65535 (λ params. l.field (codes " locals ") 0 4096 (λ locals. l.field (codes " result ") 0 1 (λ gives. l.field (codes " start ") 0 4294967295 (λ start. k))))

a_place : Skips r.place_read placed
unfolding r.place_read
a_place k =
    pass _ _ _ _ _ (skip_field (codes " params ") 0 65535) (λ params. pass _ _ _ _ _ (skip_field (codes " locals ") 0 4096) (λ locals. pass _ _ _ _ _ (skip_field (codes " result ") 0 1)
    (λ gives. pass _ _ _ _ _ (skip_field (codes " start ") 0 4294967295) (λ start s. refl))))

pub a_cost : (label : List ℕ) → Skips (r.cost_read label) (l.cost label)
a_cost label = skip_field label 0 1000000001

a_stay_of : (kind : ℕ) → Skips (r.stay_read kind) (l.stay kind)
unfolding r.stay_read
a_stay_of kind k s = by (kind == 2) where
  by : (b : Bool) → told (if b then l.cost (codes " stay ") k else k) s ≡ follow (if b then r.cost_read (codes " stay ") s else Ok (0, s)) (λ x more. told k more)
  by true = a_cost (codes " stay ") k s
  by false = refl

abbrev costed : (kind : ℕ) → Layout → Layout
costed kind k = l.cost (codes " run ") (l.cost (codes " suspend ") (l.cost (codes " waits ") (l.stay kind k)))

costs : (kind : ℕ) → Skips (r.cost_fields_read kind) (costed kind)
unfolding r.cost_fields_read
costs kind k =
    pass _ _ _ _ _ (a_cost (codes " run ")) (λ run. pass _ _ _ _ _ (a_cost (codes " suspend ")) (λ susp. pass _ _ (l.stay kind k) _ _ (a_cost (codes " waits "))
    (λ waits. pass _ (l.stay kind) k _ _ (a_stay_of kind) (λ stays s. refl))))

pub a_routine_line : (processes monitors : ℕ) → Skips (r.routine_line_read processes monitors) (l.routine_line processes monitors)
unfolding r.routine_line_read
a_routine_line processes monitors k =
    chain _ _ _ (λ kind. placed (costed kind (ends k))) _ _ (an_owner processes monitors) (λ o. pass _ placed (costed o.0 (ends k)) _ _ a_place (λ place. pass _ (costed o.0) (ends k) _ _ (costs o.0)
    (λ cost. step _ _ _ (λ t. Ok ((o, (place, cost)), t)) _ an_end (λ s. refl))))

pub a_routine : (processes monitors : ℕ) → Skips (r.routine_read processes monitors) (l.routine processes monitors)
unfolding r.routine_read
a_routine processes monitors k =
    pass _ (l.routine_line processes monitors) (l.tree_line monitors k) _ _ (a_routine_line processes monitors) (λ x. pass _ (l.tree_line monitors) k _ _ (a_tree_line monitors) (λ tree s. refl))
