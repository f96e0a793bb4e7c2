-- Levels whose text is known: a process that waits and one that signals, three of which one is held
-- up in a monitor, two of which one is late, and one whose cost is past counting.
use Rattle.std.specs.Prelude.{◌≡◌, ℕ, List, [], ◌∷◌, Option, Some, None, codes}
use Rattle.sched_sections.specs.declared.levels.Blocker.{Blocker}
use Rattle.sched_sections.specs.declared.levels.Level.{Level}
use Rattle.sched_sections.specs.Sections.{bounds_text}

abbrev blocker_of : (monitor entry process : List ℕ) → Option Blocker
blocker_of monitor entry process = Some (record { monitor = monitor; entry = entry; process = process })

-- a level whose deadline is the frame
abbrev level_of : List ℕ → (frame run susp waits block : ℕ) → Option ℕ → Option Blocker → Level
level_of name frame run susp waits block bound blocker =
    record { name = name; task = record { frame = frame; deadline = frame; run = run; susp = susp; waits = waits; block = block }; bound = bound; blocker = blocker }

abbrev pub WaitIsShown : Type 0
WaitIsShown =
    bounds_text
    (level_of (codes "p") 200 43 30 1 8 (Some 89) (blocker_of (codes "m") (codes "s") (codes "q"))
    ∷ level_of (codes "q") 300 27 0 0 0 (Some 100) None ∷ []) (0 ∷ 1 ∷ [])
    ≡ codes "process p frame 200 deadline 200 rank 1 bound 89 at 89\nblock 8 m.s q\ncost 43\nsuspend 30\nwaits 1 each 8 total 8\nsum 89\nprocess q frame 300 deadline 300 rank 2 bound 100 at 100\nblock 0\ncost 27\nrank 1 p frame 200 releases 1 each 73 total 73\nsum 100\nload 305000 of 1000000\ntimely\n"

-- the processes stand in the text from the lowest rank up
abbrev pub BlockIsShown : Type 0
BlockIsShown =
    bounds_text
    (level_of (codes "h") 90 15 0 0 0 (Some 15) None
    ∷ level_of (codes "u") 100 31 0 0 12 (Some 58) (blocker_of (codes "m") (codes "e") (codes "l"))
    ∷ level_of (codes "l") 200 31 0 0 0 (Some 77) None ∷ []) (2 ∷ 1 ∷ 0 ∷ [])
    ≡ codes "process l frame 200 deadline 200 rank 3 bound 77 at 77\nblock 0\ncost 31\nrank 1 h frame 90 releases 1 each 15 total 15\nrank 2 u frame 100 releases 1 each 31 total 31\nsum 77\nprocess u frame 100 deadline 100 rank 2 bound 58 at 58\nblock 12 m.e l\ncost 31\nrank 1 h frame 90 releases 1 each 15 total 15\nsum 58\nprocess h frame 90 deadline 90 rank 1 bound 15 at 15\nblock 0\ncost 15\nsum 15\nload 631667 of 1000000\ntimely\n"

abbrev pub LateIsShown : Type 0
LateIsShown =
    bounds_text (level_of (codes "p1") 20 15 0 0 0 (Some 15) None ∷ level_of (codes "p2") 59 15 0 0 0 None None ∷ []) (0 ∷ 1 ∷ [])
    ≡ codes "process p1 frame 20 deadline 20 rank 1 bound 15 at 15\nblock 0\ncost 15\nsum 15\nprocess p2 frame 59 deadline 59 rank 2 bound none at 59\nblock 0\ncost 15\nrank 1 p1 frame 20 releases 3 each 15 total 45\nsum 60\nload 1004238 of 1000000\nuntimely p2\n"

abbrev pub OverIsShown : Type 0
OverIsShown =
    bounds_text (level_of (codes "p") 1000000000 1000000001 0 0 0 None None ∷ []) (0 ∷ [])
    ≡ codes "process p frame 1000000000 deadline 1000000000 rank 1 bound none at 1000000000\nblock 0\ncost over\nsum over\nload over of 1000000\nuntimely p\n"
