-- Two tables and the texts that are stored of them.
use Rattle.std.proofs.Common.{◌≡◌, [], ◌∷◌, codes, refl, Some, None}
use Rattle.std.specs.Fmt.{digits}
use Rattle.table_format.specs.declared.table.TaskTable.{TaskTable}
use Rattle.table_format.specs.Spelling.{table_bytes}
use Rattle.table_format.specs.Spending.{spend, spend_by_loop, spend_by_assignments}
use Rattle.table_format.specs.Program.{made_tail, program_of, table_text}

set : TaskTable
set = record {
  name = codes "set";
  tasks =
      record { name = codes "t1"; event = None; frame = 1000; deadline = Some 900; first = None; cost = 400; stays = record { monitor = codes "m"; ticks = 100 } ∷ [] }
      ∷ record { name = codes "t2"; event = Some (codes "alarm"); frame = 2000; deadline = None; first = None; cost = 7; stays = [] }
      ∷ record { name = codes "t3"; event = None; frame = 5000; deadline = Some 4000; first = Some 3; cost = 1153; stays = record { monitor = codes "m"; ticks = 12 } ∷ record { monitor = codes "k"; ticks = 3 } ∷ [] }
      ∷ [];
}

set_spelled : table_bytes set ≡ codes "table set\nprocess t1 frame 1000 deadline 900 cost 400 stay m 100\nprocess t2 event alarm frame 2000 cost 7\nprocess t3 frame 5000 deadline 4000 first 3 cost 1153 stay m 12 stay k 3\nend\n"
unfolding set digits
set_spelled = refl

set_stored : table_text set ≡ codes "program set\nevent alarm\nmonitor m\nentry procedure stay100 ( )\nvar x : int\nbegin\nfor i : 1 .. 8 do\nend for\nx := 0\nx := 0\nx := 0\nx := 0\nend stay100\nentry procedure stay12 ( )\nvar x : int\nbegin\nx := 0\nx := 0\nx := 0\nend stay12\nend m\nmonitor k\nentry procedure stay3 ( )\nvar x : int\nbegin\nend stay3\nend k\nprocess t1 : periodic frame 1000 deadline 900\nvar x : int\nbegin\nm . stay100 ( )\nfor i : 1 .. 27 do\nend for\nx := 0\nx := 0\nend t1\nprocess t2 : atEvent alarm frame 2000\nvar x : int\nbegin\nx := 0\nend t2\nprocess t3 : periodic frame 5000 deadline 4000 first activation atTime 3\nvar x : int\nbegin\nm . stay12 ( )\nk . stay3 ( )\nfor i : 1 .. 109 do\nend for\nx := 0\nx := 0\nx := 0\nend t3\nend set\n"
unfolding set digits table_text program_of made_tail spend spend_by_loop spend_by_assignments
set_stored = refl

greatest : TaskTable
greatest = record {
  name = codes "x";
  tasks =
      record { name = codes "i"; event = None; frame = 1000000000; deadline = None; first = None; cost = 1000000000; stays = [] }
      ∷ record { name = codes "x_1"; event = None; frame = 10; deadline = Some 10; first = None; cost = 4; stays = [] }
      ∷ [];
}

greatest_stored : table_text greatest ≡ codes "program x\nprocess i : periodic frame 1000000000\nvar x_2 : int\nbegin\nfor i_2 : 1 .. 99850 do\nfor j_2 : 1 .. 1000 do\nend for\nend for\nfor i_2 : 1 .. 223 do\nend for\nx_2 := 0\nx_2 := 0\nend i\nprocess x_1 : periodic frame 10 deadline 10\nvar x_2 : int\nbegin\nend x_1\nend x\n"
unfolding greatest digits table_text program_of made_tail spend spend_by_loop spend_by_assignments
greatest_stored = refl
