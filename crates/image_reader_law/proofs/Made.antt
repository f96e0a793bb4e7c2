-- Whatever reading tells by a format that is put together of fields is a fault that the bytes have.
use Rattle.std.proofs.Common.{ℕ, false, length}
use Rattle.image_format.specs.Format.{fault}
use Rattle.image_reader.specs.File.{code_format, unused_fault}
use Rattle.image_reader_law.specs.Faults as s
use Rattle.image_reader_law.specs.Faults.{Sort, Form, IsMade, list, instruction}
use Rattle.image_reader_law.proofs.Heard.{Heard, at_fault, field_heard, rule_heard, pair_heard, list_heard, flag_heard, some_heard, view_heard}
use Rattle.image_reader_law.proofs.ImageFaultsTrees.{segment_heard, tree_heard}

code_heard : (count : ℕ) → Heard (list instruction) (code_format false count)
code_heard count bytes are e h = at_fault (list instruction) (code_format false count) bytes (fault (unused_fault count bytes) (length bytes)) e (cc) (s.no_process count bytes)

pub heard : (a : Sort) (f : Form a) → IsMade a f → Heard a f
heard a f (s.a_field {size = size} field) bytes are e h = field_heard a f size field bytes are e h
heard a f (s.a_given same x test) bytes are e h = cc
heard a f (s.a_rule {f = inner} wrong m) bytes are e h = rule_heard a inner wrong m (λ bs ok d g. heard a inner m bs ok d g) bytes are e h
heard a f (s.a_pair {a = b} {b = c} {f = first} {g = g} m ms) bytes are e h = pair_heard b c first g m (λ bs ok d g. heard b first m bs ok d g) (λ x bs ok d i. heard c (g x) (ms x) bs ok d i) bytes are e h
heard a f (s.a_view {a = b} {f = inner} {to = to} {from = from} view m) bytes are e h = view_heard b a inner to from (λ bs ok d g. heard b inner m bs ok d g) bytes are e h
heard a f (s.a_list {a = b} {f = g} ms earlier count) bytes are e h = list_heard b g ms (λ before bs ok d i. heard b (g before) (ms before) bs ok d i) earlier count bytes are e h
heard a f (s.a_flag number) bytes are e h = flag_heard number bytes are e h
heard a f (s.an_option {a = b} {f = inner} m) bytes are e h = some_heard b inner (λ bs ok d g. heard b inner m bs ok d g) bytes are e h
heard a f (s.a_segment monitors depth) bytes are e h = segment_heard monitors depth (tree_heard monitors depth) bytes are e h
heard a f (s.a_tree monitors depth) bytes are e h = tree_heard monitors depth bytes are e h
heard a f (s.no_code count) bytes are e h = code_heard count bytes are e h
