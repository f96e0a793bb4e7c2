-- Messages for tables that are none.
use Rattle.std.proofs.Common.{refl}
use Rattle.std.specs.Prelude.{◌≡◌, codes}
use Rattle.std.specs.Fmt.{digits}
use Rattle.message_text.specs.Shown.{show}
use Rattle.message_table.specs.Form.{form_found}
use Rattle.message_table.specs.Marks.{marks_to}
use Rattle.message_table.specs.Message.{table_message}
use Rattle.message_table.specs.Sentences.{remark, sentence}

-- no text at all
pub nothing : table_message (codes "F") (codes "") 1 1 ≡ codes "F:1:1: T1: the last line, `end`, is missing\n      1 | \n        | ^\n"
unfolding table_message form_found sentence remark show digits
nothing = refl

-- a table without processes
pub no_process : table_message (codes "F") (codes "table a\nend\n") 6 2 ≡ codes "F:2:1: T6: the table has no process\n      2 | end\n        | ^^^\n        = lines are `process P frame T cost C` and last `end`\n"
unfolding table_message form_found marks_to sentence remark show digits
no_process = refl

-- ticks that are not whole
pub not_whole : table_message (codes "F") (codes "table a\nprocess p frame 2.5 cost 1\nend\n") 1 2 ≡ codes "F:2:17: T1: `2.5` is no whole number\n      2 | process p frame 2.5 cost 1\n        |                 ^^^\n        = numbers are whole ticks; multiply all numbers of the table by the same number\n"
unfolding table_message form_found marks_to sentence remark show digits
not_whole = refl

-- an event with a first activation
pub first_of_event : table_message (codes "F") (codes "table a\nprocess p event e frame 20 first 5 cost 4\nend\n") 1 2 ≡ codes "F:2:28: T1: `first` stands where `deadline` or `cost` is wanted\n      2 | process p event e frame 20 first 5 cost 4\n        |                            ^^^^^\n        = the form is `process P [event E] frame T [deadline D] [first N] cost C [stay M S ..]`\n"
unfolding table_message form_found marks_to sentence remark show digits
first_of_event = refl

-- a monitor with the name of a process
pub taken_name : table_message (codes "F") (codes "table a\nprocess m frame 50 cost 4\nprocess p frame 100 cost 50 stay m 20\nend\n") 3 3 ≡ codes "F:3:34: T3: `m` is a process of line 2\n      3 | process p frame 100 cost 50 stay m 20\n        |                                  ^\n      2 | process m frame 50 cost 4\n        = give one of them another name\n"
unfolding table_message form_found marks_to sentence remark show digits
taken_name = refl

-- a frame below its range
pub small_frame : table_message (codes "F") (codes "table a\nprocess p frame 9 cost 5\nend\n") 4 2 ≡ codes "F:2:17: T4: the frame is 9; it may be 10 to 1000000000\n      2 | process p frame 9 cost 5\n        |                 ^\n        = multiply all numbers of the table by the same number\n"
unfolding table_message form_found marks_to sentence remark show digits
small_frame = refl

-- a cost that no statements take
pub odd_cost : table_message (codes "F") (codes "table a\nprocess p frame 20 cost 6\nend\n") 5 2 ≡ codes "F:2:25: T5: a cost of 6 cannot be met; 4 can, and 7 or more\n      2 | process p frame 20 cost 6\n        |                         ^\n        = multiply all numbers of the table by the same number\n"
unfolding table_message form_found marks_to sentence remark show digits
odd_cost = refl

-- a cost that has no room for its stays
pub small_cost : table_message (codes "F") (codes "table a\nprocess p frame 100 cost 50 stay m 32\nend\n") 5 2 ≡ codes "F:2:26: T5: a cost of 50 cannot be met with its stays; 51 can, and 54 or more\n      2 | process p frame 100 cost 50 stay m 32\n        |                          ^^\n        = an activation takes 4 ticks, and each stay 15 beside its own\n"
unfolding table_message form_found marks_to sentence remark show digits
small_cost = refl

-- a line behind the last one
pub behind_end : table_message (codes "F") (codes "table a\nprocess p frame 10 cost 4\nend\nend\n") 1 4 ≡ codes "F:4:1: T1: a line behind the `end` line\n      4 | end\n        | ^^^\n"
unfolding table_message form_found marks_to sentence remark show digits
behind_end = refl
