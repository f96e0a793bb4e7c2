-- A format that is put together of fields reads what it writes.
use Rattle.image_format.specs.FormatLaw.{IsSound}
use Rattle.image_format.proofs.Sound.{checked_sound, both_sound, via_sound, given_sound, each_sound}
use Rattle.image_format.proofs.Trees.{tree_sound}
use Rattle.image_reader_law.specs.Faults as s
use Rattle.image_reader_law.specs.Faults.{Sort, Form, IsMade}
use Rattle.image_reader_law.proofs.ImageFaultsFields.{field_is_sound, flag_sound, some_sound}
use Rattle.image_reader_law.proofs.Segments.{segment_sound}

pub sound : (a : Sort) (f : Form a) → IsMade a f → IsSound f
sound a f (s.a_field {size = size} field) = field_is_sound a f size field
sound a f (s.a_given same x test) = given_sound same x test.no_other test.itself
sound a f (s.a_rule {f = inner} wrong m) = checked_sound inner wrong (sound a inner m)
sound a f (s.a_pair {a = b} {b = c} {f = first} {g = g} m ms) = both_sound first g (sound b first m) (λ x. sound c (g x) (ms x))
sound a f (s.a_view {a = b} {f = inner} {to = to} {from = from} view m) = via_sound to from inner view.back view.there (sound b inner m)
sound a f (s.a_list {a = b} {f = g} ms earlier count) = each_sound g (λ before. sound b (g before) (ms before)) earlier count
sound a f (s.a_flag number) = flag_sound number
sound a f (s.an_option {a = b} {f = inner} m) = some_sound inner (sound b inner m)
sound a f (s.a_segment monitors depth) = segment_sound monitors depth
sound a f (s.a_tree monitors depth) = tree_sound monitors depth
sound a f (s.no_code count) = record { back = λ bytes z are h. cc; again = λ x rest h. cc; cut = λ x k h low. cc }
