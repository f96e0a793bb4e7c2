-- Tables whose reports are known: the program that puts one number, a mine pump, and a program that
-- is late.
use Rattle.std.specs.Prelude.{◌≡◌, ℕ, List, [], ◌∷◌, Option, Some, None, codes}
use Rattle.image.specs.declared.names.ImageNames.{ImageNames}
use Rattle.sched_table.specs.declared.table.Row.{Row}
use Rattle.sched_table.specs.declared.table.Table.{Table}
use Rattle.sched_table.specs.Json.{report_json}
use Rattle.sched_table.specs.Report.{report_text}

abbrev names_of : (processes monitors : List (List ℕ)) → ImageNames
names_of processes monitors = record { processes = processes; monitors = monitors; conditions = []; devices = []; events = [] }

-- a row whose deadline is the frame
abbrev row_of : (frame rank run susp waits block : ℕ) → Option ℕ → (words stack : ℕ) → Row
row_of frame rank run susp waits block bound words stack =
    record { frame = frame; deadline = frame; rank = rank; cost = record { run = run; susp = susp; waits = waits }; block = block; bound = bound; size = record { words = words; stack = stack } }

abbrev put_table : Table
put_table = record { rows = row_of 15 1 15 0 0 0 (Some 15) 0 1 ∷ []; ceilings = []; monitor_words = []; code = 3 }

abbrev pub PutIsShown : Type 0
PutIsShown = report_json (names_of (codes "p" ∷ []) []) (codes "a") put_table
    ≡ codes "{\"code\":3,\"monitors\":[],\"processes\":[{\"block\":0,\"bound\":15,\"cost\":15,\"data\":0,\"frame\":15,\"name\":\"p\",\"rank\":1,\"stack\":1,\"suspend\":0,\"waits\":0}],\"program\":\"a\",\"timely\":true}\n"

abbrev mine_names : ImageNames
mine_names = names_of (codes "gasWatch" ∷ codes "airWatch" ∷ codes "flow" ∷ codes "shower" ∷ codes "tally" ∷ codes "selfTest" ∷ []) (codes "motor" ∷ codes "box" ∷ [])

abbrev mine_table : Table
mine_table = record {
  rows =
      row_of 800 1 160 0 0 27 (Some 187) 1 4 ∷ row_of 1000 2 35 0 0 27 (Some 222) 1 2 ∷ row_of 2000 3 65 0 0 16 (Some 276) 1 3
      ∷ row_of 3000 4 60 900 1 16 (Some 1447) 1 3 ∷ row_of 10000 5 281 0 0 16 (Some 1888) 11 5 ∷ row_of 60000 6 50 0 0 0 (Some 1906) 0 4 ∷ [];
  ceilings = Some 1 ∷ Some 1 ∷ [];
  monitor_words = 2 ∷ 1 ∷ [];
  code = 103;
}

abbrev pub MineIsShown : Type 0
MineIsShown = report_text mine_names (codes "mine") mine_table
    ≡ codes "program mine\nprocess gasWatch frame 800 rank 1 cost 160 suspend 0 waits 0 block 27 bound 187 data 1 stack 4\nprocess airWatch frame 1000 rank 2 cost 35 suspend 0 waits 0 block 27 bound 222 data 1 stack 2\nprocess flow frame 2000 rank 3 cost 65 suspend 0 waits 0 block 16 bound 276 data 1 stack 3\nprocess shower frame 3000 rank 4 cost 60 suspend 900 waits 1 block 16 bound 1447 data 1 stack 3\nprocess tally frame 10000 rank 5 cost 281 suspend 0 waits 0 block 16 bound 1888 data 11 stack 5\nprocess selfTest frame 60000 rank 6 cost 50 suspend 0 waits 0 block 0 bound 1906 data 0 stack 4\nmonitor motor ceiling 1 words 2\nmonitor box ceiling 1 words 1\ncode 103\ntimely\n"

-- one whose deadline is not its frame, in time, and one that is late, beside a monitor that nothing
-- uses
abbrev late_table : Table
late_table = record {
  rows =
      record { frame = 50; deadline = 20; rank = 1; cost = record { run = 15; susp = 0; waits = 0 }; block = 0; bound = Some 15; size = record { words = 0; stack = 1 } }
      ∷ row_of 60 2 1000000001 0 0 0 None 2 3 ∷ [];
  ceilings = None ∷ [];
  monitor_words = 4 ∷ [];
  code = 9;
}

abbrev late_names : ImageNames
late_names = names_of (codes "p" ∷ codes "q" ∷ []) (codes "m" ∷ [])

abbrev pub LateIsShown : Type 0
LateIsShown = report_text late_names (codes "a") late_table
    ≡ codes "program a\nprocess p frame 50 deadline 20 rank 1 cost 15 suspend 0 waits 0 block 0 bound 15 data 0 stack 1\nprocess q frame 60 rank 2 cost over suspend 0 waits 0 block 0 bound none data 2 stack 3\nmonitor m ceiling none words 4\ncode 9\nuntimely q\n"

abbrev pub LateIsShownAsJson : Type 0
LateIsShownAsJson = report_json late_names (codes "a") late_table
    ≡ codes "{\"code\":9,\"monitors\":[{\"ceiling\":\"none\",\"name\":\"m\",\"words\":4}],\"processes\":[{\"block\":0,\"bound\":15,\"cost\":15,\"data\":0,\"deadline\":20,\"frame\":50,\"name\":\"p\",\"rank\":1,\"stack\":1,\"suspend\":0,\"waits\":0},{\"block\":0,\"bound\":\"none\",\"cost\":\"over\",\"data\":2,\"frame\":60,\"name\":\"q\",\"rank\":2,\"stack\":3,\"suspend\":0,\"waits\":0}],\"program\":\"a\",\"timely\":false}\n"
