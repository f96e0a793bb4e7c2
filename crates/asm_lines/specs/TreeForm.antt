-- Whether a line has the form of a tree: words with one space between them, numbers of any size,
-- parentheses that are closed.
use Rattle.std.specs.Prelude.{◌&&◌, ◌==◌, not, ℕ, Bool, true, false, List, [], ◌∷◌, ◌++◌, length, take, fold, Option, Some, None, option_map, codes, nat_eq, nat_lt, if◌then◌else◌}
use Rattle.std.specs.List.{list_all, prefix_len}
use Rattle.std.specs.Cmp.Lexicographic.{pointwise}
use Rattle.text_fields.specs.LineFields.{is_digit, is_numeral}
use Rattle.asm_lines.specs.declared.form.Awaits.{Awaits}
use Rattle.asm_lines.specs.declared.form.Awaits.TheVariants.{Tree, Segment, Number, NumberAndArm, Arm, Nothing}

abbrev pub is : List ℕ → List ℕ → Bool
is word other = pointwise nat_eq word other

abbrev pub is_number : List ℕ → Bool
is_number word = list_all is_digit word && is_numeral word

-- what is awaited after these words, and which parentheses are open; of each, whether the first arm
-- of a fork stands in it
pub record Shape : Type 0 where
  pub awaits : Awaits
  pub arms : List Bool

-- the last of the open parentheses, and those before it
abbrev pub last : List Bool → Option (List Bool × Bool)
last [] = None
last (b ∷ []) = Some ([], b)
last (b ∷ c ∷ bs) = option_map (λ x. (b ∷ x.0, x.1)) (last (c ∷ bs))

-- after a closing one comes the second arm of a fork, or the next segment
abbrev pub closed : Option (List Bool × Bool) → Shape
closed None = record { awaits = Nothing; arms = [] }
closed (Some (arms, true)) = record { awaits = Arm; arms = arms ++ false ∷ [] }
closed (Some (arms, false)) = record { awaits = Segment; arms = arms }

-- a word where a segment or a closing parenthesis may stand
abbrev pub segment : List ℕ → List Bool → Shape
segment word arms =
    if is word (codes "line") then record { awaits = Number; arms = arms }
    else (if is word (codes "fork") then record { awaits = Arm; arms = arms ++ true ∷ [] }
    else (if is word (codes "rep") then record { awaits = NumberAndArm; arms = arms }
    else (if is word (codes "call") then record { awaits = Number; arms = arms }
    else (if is word (codes "stay") then record { awaits = NumberAndArm; arms = arms }
    else (if is word (codes "wait") then record { awaits = Segment; arms = arms }
    else (if is word (codes "exit") then record { awaits = Segment; arms = arms }
    else (if is word (codes ")") then closed (last arms)
    else record { awaits = Nothing; arms = arms })))))))

-- nothing is awaited any more where a word is none of a tree
abbrev pub when : Bool → Shape → Shape
when true shape = shape
when false shape = record { awaits = Nothing; arms = [] }

abbrev pub step_at : Awaits → List Bool → List ℕ → Shape
step_at Tree arms word = when (is word (codes "tree")) (record { awaits = Segment; arms = arms })
step_at Segment arms word = segment word arms
step_at Number arms word = when (is_number word) (record { awaits = Segment; arms = arms })
step_at NumberAndArm arms word = when (is_number word) (record { awaits = Arm; arms = arms ++ false ∷ [] })
step_at Arm arms word = when (is word (codes "(")) (record { awaits = Segment; arms = arms })
step_at Nothing arms word = record { awaits = Nothing; arms = [] }

abbrev pub step : Shape → List ℕ → Shape
step shape word = step_at shape.awaits shape.arms word

-- the parts of bytes between the bytes of a value
abbrev pub longer : ℕ → List (List ℕ) → List (List ℕ)
longer b [] = (b ∷ []) ∷ []
longer b (w ∷ ws) = (b ∷ w) ∷ ws

abbrev pub cuts : (stop : ℕ) → List ℕ → List (List ℕ)
cuts stop [] = [] ∷ []
cuts stop (b ∷ bs) = if b == stop then [] ∷ cuts stop bs else longer b (cuts stop bs)

-- a segment may follow
abbrev pub is_segment : Awaits → Bool
is_segment Tree = false
is_segment Segment = true
is_segment Number = false
is_segment NumberAndArm = false
is_segment Arm = false
is_segment Nothing = false

-- and no parenthesis is open
abbrev pub is_whole : Shape → Bool
is_whole shape = is_segment shape.awaits && length shape.arms == 0

-- the words of the line, between its spaces, are those of a tree
unfoldable pub tree_form : (line : List ℕ) → Bool
tree_form line = is_whole (fold step (record { awaits = Tree; arms = [] }) (cuts 32 line))

-- the bytes begin with a line of this form
abbrev pub line_len : List ℕ → ℕ
line_len bytes = prefix_len (λ b. not (b == 10)) bytes

abbrev pub is_tree_line : List ℕ → Bool
is_tree_line bytes = if nat_lt (line_len bytes) (length bytes) then tree_form (take (line_len bytes) bytes) else false
