-- The lines of segment trees.
use Rattle.std.specs.Prelude.{◌||◌, ◌&&◌, ℕ, zero, suc, Bool, List, length, Ok, Err, Result, codes, nat_lt, if◌then◌else◌}
use Rattle.machine_semantics.specs.Trees.{Seg, Line, Fork, Rep, Call, Stay, Wait, Exit, Segs, Nil, Cons}
use Rattle.text_fields.specs.declared.fault.FieldFault.{FieldFault}
use Rattle.text_fields.specs.Front.{Front, Read, ◌>>=◌, no_form, out_of_range, moved, noted, begins, skip, end_read}
use Rattle.text_fields.specs.LineFields.{field_read}
use Rattle.asm_lines.specs.TreeForm.{is_tree_line}

-- a tree between parentheses
abbrev pub arm_read : (sub : Front → Read Segs) → Front → Read Segs
arm_read sub s = skip (codes " (") s >>= sub >>= λ x. skip (codes " )") x.1 >>= λ t. Ok (x.0, t)

abbrev pub line_read : Front → Read Seg
line_read s = field_read (codes " line ") 1 65535 s >>= λ n. Ok (Line n.0, n.1)

abbrev pub fork_read : (sub : Front → Read Segs) → Front → Read Seg
fork_read sub s = skip (codes " fork") s >>= arm_read sub >>= λ first. arm_read sub first.1 >>= λ second. Ok (Fork first.0 second.0, second.1)

abbrev pub rep_read : (sub : Front → Read Segs) → Front → Read Seg
rep_read sub s = field_read (codes " rep ") 1 1000000 s >>= λ turns. arm_read sub turns.1 >>= λ body. Ok (Rep turns.0 body.0, body.1)

abbrev pub call_read : Front → Read Seg
call_read s = field_read (codes " call ") 0 65535 s >>= λ routine. Ok (Call routine.0, routine.1)

-- the stay in one of so many monitors
abbrev pub stay_read : (monitors : ℕ) → (sub : Front → Read Segs) → Front → Read Seg
stay_read monitors sub s =
    field_read (codes " stay ") 0 65535 s >>= λ monitor. arm_read sub (noted monitor.1 (nat_lt monitor.0 monitors)) >>= λ body. Ok (Stay monitor.0 body.0, body.1)

-- a segment by its name
unfoldable pub seg_read : (monitors : ℕ) → (sub : Front → Read Segs) → Front → Read Seg
seg_read monitors sub s =
    if begins (codes " line ") s.rest then line_read s
    else (if begins (codes " fork") s.rest then fork_read sub s
    else (if begins (codes " rep ") s.rest then rep_read sub s
    else (if begins (codes " call ") s.rest then call_read s
    else (if begins (codes " stay ") s.rest then stay_read monitors sub s
    else (if begins (codes " wait") s.rest then (skip (codes " wait") s >>= λ t. Ok (Wait, t))
    else (skip (codes " exit") s >>= λ t. Ok (Exit, t)))))))

-- a tree ends before a closing parenthesis and at the end of the line
abbrev pub tree_ends : List ℕ → Bool
tree_ends bytes = begins (codes "\n") bytes || begins (codes " )") bytes

-- segments up to the end of the tree, at most so many
unfoldable pub segs_read : (one : Front → Read Seg) → (most : ℕ) → Front → Read Segs
segs_read one zero s = Err (no_form s)
segs_read one (suc n) s = if tree_ends s.rest then Ok (Nil, s) else (one s >>= λ head. segs_read one n head.1 >>= λ rest. Ok (Cons head.0 rest.0, rest.1))

-- a tree that nests at most so deep; one has no more segments than its text has bytes
unfoldable pub tree_read : (monitors depth : ℕ) → Front → Read Segs
tree_read monitors zero s = Err (out_of_range s)
tree_read monitors (suc depth) s = segs_read (seg_read monitors (tree_read monitors depth)) (length s.rest) s

-- the line of a tree: first its form, however deep it nests, then its numbers and its depth
unfoldable pub tree_line_read : (monitors : ℕ) → Front → Read Segs
tree_line_read monitors s =
    if is_tree_line s.rest then (skip (codes "tree") s >>= tree_read monitors 130 >>= λ tree. end_read tree.1 >>= λ t. Ok (tree.0, t)) else Err (no_form s)
