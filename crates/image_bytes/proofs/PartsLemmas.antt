-- Routines and processes are read as they are written.
use Rattle.std.proofs.Common.{◌≡◌, ◌++◌, ℕ, suc, Bool, true, List, [], ◌∷◌, length, Ok, Option, Some, None, refl, sym, ap, ◌∙◌, append_assoc}
use Rattle.image_format.specs.Format.{Format, ◌>>=◌, u16, both}
use Rattle.image_format.specs.TreeBytes.{tree_bytes}
use Rattle.image_format.specs.TreeFormat.{widest, within_limits}
use Rattle.image_format.proofs.Trees.{limited_tree_sound, tree_write_is}
use Rattle.image.specs.Bytes.{Second, handler_bytes, numbers_bytes, release_bytes, room_bytes, routine_bytes, time_bytes}
use Rattle.machine_semantics.specs.Image.{Process, Routine}
use Rattle.machine_semantics.specs.Trees.{Segs}
use Rattle.image_format.specs.Whole.{deepest_kept}
use Rattle.valid_image.specs.Valid.{HasHandler}
use Rattle.image_bytes.specs.Fields.{Numbered, are_short, five_fields, handler_tree_fields, numbers_fields, owner_fields, process_with, release_fields, routine_fields, routine_with, tree_fields}
use Rattle.image_bytes.specs.Reads.{FitsWhereThere, IsReadFrom, ProcessIsRead, RoutineIsRead, numbered_bytes}
use Rattle.image_bytes.proofs.Again.{IsAgain, both_again, five_sound, numbers_again, owner_again, release_sound, sound_again}
use Rattle.image_bytes.proofs.Later.{Five, Release}

tree_again : (tree : Segs) → tree_fields.is tree ≡ true → IsAgain tree_fields tree
tree_again tree is = sound_again tree_fields (limited_tree_sound widest deepest_kept) tree is

tree_written : (tree : Segs) → tree_fields.write tree ≡ tree_bytes tree
tree_written tree = tree_write_is (within_limits widest) deepest_kept tree

pub routine_is_read : (r : Routine) → owner_fields.is (r.kind, (r.owner, (r.params, (r.locals, r.gives)))) ≡ true → five_fields.is (r.start, (r.run, (r.susp, (r.waits, r.stay)))) ≡ true → tree_fields.is r.tree ≡ true → RoutineIsRead r
routine_is_read r owner cost tree rest =
    let o : ℕ × (ℕ × (ℕ × (ℕ × Bool))) = (r.kind, (r.owner, (r.params, (r.locals, r.gives)))) in
    let c : Five = (r.start, (r.run, (r.susp, (r.waits, r.stay)))) in
    let all : IsAgain (both owner_fields (λ owner. both five_fields (λ cost. tree_fields))) (o, (c, r.tree)) =
    both_again owner_fields (λ owner. both five_fields (λ cost. tree_fields)) o (c, r.tree) (owner_again r.kind r.owner r.params r.locals r.gives owner)
    (both_again five_fields (λ cost. tree_fields) c r.tree (sound_again five_fields five_sound c cost) (tree_again r.tree tree)) in
    let written : routine_fields.write r ≡ routine_bytes r = ap (λ (bytes : List ℕ). owner_fields.write o ++ (five_fields.write c ++ bytes)) (tree_written r.tree) in
    ap (λ (bytes : List ℕ). routine_fields.read (bytes ++ rest)) (sym written) ∙ ap (λ r. r >>= λ x. Ok (routine_with x.0, x.1)) (all rest)

-- one after the other, each from its bytes
read_both : {A B : Type 0} (f : Format A) (g : A → Format B) (x : A) (y : B) (front after : List ℕ) → IsReadFrom f front x → IsReadFrom (g x) after y → IsReadFrom (both f g) (front ++ after) (x, y)
read_both f g x y front after one other rest =
    ap (λ (bytes : List ℕ). (both f g).read bytes) (append_assoc front after rest)
    ∙ ap (λ r. r >>= λ x. (g x.0).read x.1 >>= λ y. Ok ((x.0, y.0), y.1)) (one (after ++ rest))
    ∙ ap (λ r. r >>= λ y. Ok ((x, y.0), y.1)) (other rest)

tree_read : (tree : Segs) → tree_fields.is tree ≡ true → IsReadFrom tree_fields (tree_bytes tree) tree
tree_read tree is rest = ap (λ (bytes : List ℕ). tree_fields.read (bytes ++ rest)) (sym (tree_written tree)) ∙ tree_again tree is rest

-- the tree of a handler

handler_again : (p : Process) (numbers : List ℕ) (tree : Option Segs) → p.numbers ≡ numbers → HasHandler p tree → FitsWhereThere tree → IsReadFrom (handler_tree_fields (length numbers)) (handler_bytes numbers tree) tree
handler_again p [] None same has fits rest = refl
handler_again p [] (Some tree) same has fits rest = absurd (has same)
handler_again p (n ∷ ns) None same has fits rest = let bad : n ∷ ns ≡ [] = sym same ∙ has in cc
handler_again p (n ∷ ns) (Some tree) same has fits rest =
    ap (λ (bytes : List ℕ). (handler_tree_fields (suc (length ns))).read (bytes ++ rest)) (sym (tree_written tree)) ∙ ap (λ r. r >>= λ x. Ok (Some x.0, x.1)) (tree_again tree fits rest)

-- a process, from its parts

pub process_is_read : (p : Process) → HasHandler p p.handler_tree → u16.is (length p.numbers) ≡ true
    → release_fields.is (p.kind, (p.frame, (p.deadline, (p.first, (p.event, p.rank))))) ≡ true → five_fields.is (p.run, (p.susp, (p.waits, (p.block, p.bound)))) ≡ true
    → five_fields.is (p.words, (p.stack, (p.locals, (p.start, p.handler)))) ≡ true → are_short p.numbers ≡ true → tree_fields.is p.body ≡ true → FitsWhereThere p.handler_tree → ProcessIsRead p
process_is_read p has few release time room short body tree rest =
    let r : Release = (p.kind, (p.frame, (p.deadline, (p.first, (p.event, p.rank))))) in
    let t : Five = (p.run, (p.susp, (p.waits, (p.block, p.bound)))) in
    let m : Five = (p.words, (p.stack, (p.locals, (p.start, p.handler)))) in
    let f_body : Format (Segs × Option Segs) = both tree_fields (λ body. handler_tree_fields (length p.numbers)) in
    let f_numbers : Format Numbered = both numbers_fields (λ numbers. both tree_fields (λ body. handler_tree_fields (length numbers))) in
    let f_room : Format (Five × Numbered) = both five_fields (λ room. f_numbers) in
    let f_time : Format (Five × (Five × Numbered)) = both five_fields (λ time. f_room) in
    let trees : List ℕ = tree_bytes p.body ++ handler_bytes p.numbers p.handler_tree in
    let body_read : IsReadFrom f_body trees (p.body, p.handler_tree) =
    read_both tree_fields (λ body. handler_tree_fields (length p.numbers)) p.body p.handler_tree (tree_bytes p.body) (handler_bytes p.numbers p.handler_tree) (tree_read p.body body) (handler_again p p.numbers p.handler_tree refl has tree) in
    let numbers_read : IsReadFrom f_numbers (numbers_bytes p.numbers ++ trees) (p.numbers, (p.body, p.handler_tree)) =
    read_both numbers_fields (λ numbers. both tree_fields (λ body. handler_tree_fields (length numbers))) p.numbers (p.body, p.handler_tree) (numbers_bytes p.numbers) trees (numbers_again p.numbers few short) body_read in
    let room_read : IsReadFrom f_room (room_bytes p ++ (numbers_bytes p.numbers ++ trees)) (m, (p.numbers, (p.body, p.handler_tree))) =
    read_both five_fields (λ room. f_numbers) m (p.numbers, (p.body, p.handler_tree)) (room_bytes p) (numbers_bytes p.numbers ++ trees) (sound_again five_fields five_sound m room) numbers_read in
    let time_read : IsReadFrom f_time (time_bytes p ++ (room_bytes p ++ (numbers_bytes p.numbers ++ trees))) (t, (m, (p.numbers, (p.body, p.handler_tree)))) =
    read_both five_fields (λ time. f_room) t (m, (p.numbers, (p.body, p.handler_tree))) (time_bytes p) (room_bytes p ++ (numbers_bytes p.numbers ++ trees)) (sound_again five_fields five_sound t time) room_read in
    let all : IsReadFrom (both release_fields (λ release. f_time)) (numbered_bytes p) (r, (t, (m, (p.numbers, (p.body, p.handler_tree))))) =
    read_both release_fields (λ release. f_time) r (t, (m, (p.numbers, (p.body, p.handler_tree)))) (release_bytes Second p) (time_bytes p ++ (room_bytes p ++ (numbers_bytes p.numbers ++ trees)))
    (sound_again release_fields release_sound r release) time_read in
    ap (λ r. r >>= λ x. Ok (process_with x.0, x.1)) (all rest)
