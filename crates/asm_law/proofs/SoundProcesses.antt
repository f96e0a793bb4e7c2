-- The lines of processes.
use Rattle.std.proofs.Common.{◌≡◌, ◌++◌, ◌&&◌, ℕ, zero, suc, true, List, length, Option, refl, sym, ap, ◌∙◌, subst, append_assoc}
use Rattle.std.specs.Prelude.{not, codes, nat_lt, nat_eq}
use Rattle.std.specs.List.{list_any}
use Rattle.machine_semantics.specs.Image.{Process}
use Rattle.machine_semantics.specs.Trees.{Segs}
use Rattle.image.specs.Bytes.{Second}
use Rattle.image_reader.specs.declared.counts.Counts.{Counts}
use Rattle.image_format.specs.Format.{u16}
use Rattle.image_format.specs.TreeFormat.{in_image, tree_format}
use Rattle.image_reader.specs.Grammar as g
use Rattle.asm_format.specs.Text.{field, release_text, handler_text, handler_line, process_lines, tree_line}
use Rattle.text_fields.specs.Front.{Front, begins, noted}
use Rattle.asm_lines.specs.Processes.{periodic_frame_read, periodic_read, is_free, evented_read, release_read, time_read, room_read, fields_read, process_with, process_line_read, process_read}
use Rattle.asm_law.proofs.Took.{Start, Within, Takes, on, shown, note, Holds, went, next, choice}
use Rattle.asm_law.proofs.Passing.{inside, owner, end_took}
use Rattle.asm_law.proofs.SoundNumbers.{both_true, fine_of, u32_is, any_u32, any_u16, field_took}
use Rattle.asm_law.proofs.SoundNames.{IsName, named_took}
use Rattle.asm_law.proofs.SoundTrees.{tree_line_took}
use Rattle.asm_law.proofs.SoundRoutines.{cost_took}
use Rattle.asm_law.proofs.Handlers.{handler_end, IsHandler, numbers_are, handler_took, handler_tree_took}

-- ---- what releases a process

abbrev Release : Type 0
Release = ℕ × (ℕ × (ℕ × (ℕ × ℕ)))

abbrev release_of : Release → (kind : ℕ) → List ℕ
release_of x zero = field (codes " periodic frame ") x.1.0 ++ (field (codes " deadline ") x.1.1.0 ++ field (codes " first ") x.1.1.1.0)
release_of x (suc kind) = field (codes " event ") x.1.1.1.1 ++ (field (codes " frame ") x.1.0 ++ field (codes " deadline ") x.1.1.0)

-- whatever its rank is
abbrev IsRelease : (events : ℕ) → (used : List ℕ) → Release → Type 0
IsRelease events used x =
    (there rank : ℕ) → there ≡ events → u16.is rank ≡ true
    → (g.release_format Second there used).is (x.0, (x.1.0, (x.1.1.0, (x.1.1.1.0, (x.1.1.1.1, rank))))) ≡ true

abbrev Released : (events : ℕ) → (used : List ℕ) → Front → Release × Front → Type 0
Released events used s z = Takes Within Within 0 s z.1 (release_of z.0 z.0.0) (IsRelease events used z.0)

periodic_took : (events : ℕ) (used : List ℕ) (s : Front) → Holds (Released events used s) (periodic_read s)
unfolding periodic_frame_read
periodic_took events used s =
    next (field_took (codes " periodic frame ") 10 1000000000 s (inside (codes " periodic frame ") refl)) (λ frame a.
    next (field_took (codes " deadline ") 10 frame.0 frame.1 (inside (codes " deadline ") refl)) (λ deadline b.
    next (field_took (codes " first ") 0 1000000000 deadline.1 (inside (codes " first ") refl)) (λ first c.
    let took = on a (on b c) in
    went (shown took refl (λ held there rank same fits. both_true (u32_is 10 1000000000 frame.0 held.0) (both_true (u32_is 10 frame.0 deadline.0 held.1.0)
    (both_true (both_true (u32_is 0 1000000000 first.0 held.1.1) refl) fits)))))))

evented_took : (events : ℕ) (used : List ℕ) (s : Front) → Holds (Released events used s) (evented_read events used s)
evented_took events used s =
    next (field_took (codes " event ") 0 65535 s (inside (codes " event ") refl)) (λ event a.
    next (field_took (codes " frame ") 10 1000000000 (noted event.1 (is_free events used event.0)) (inside (codes " frame ") refl)) (λ frame b.
    next (field_took (codes " deadline ") 10 frame.0 frame.1 (inside (codes " deadline ") refl)) (λ deadline c.
    let took = on (note (is_free events used event.0) a) (on b c) in
    went (shown took refl (λ held there rank same fits. both_true (u32_is 10 1000000000 frame.0 held.1.0) (both_true (u32_is 10 frame.0 deadline.0 held.1.1)
    (both_true (both_true (any_u16 0 event.0 held.0.0) (fine_of 4 (ap (λ n. nat_lt event.0 n && not (list_any (λ e. nat_eq e event.0) used)) same ∙ held.0.1))) fits)))))))

release_took : (events : ℕ) (used : List ℕ) (s : Front) → Holds (Released events used s) (release_read events used s)
unfolding release_read
release_took events used s = choice (begins (codes " event ") s.rest) (λ h. evented_took events used s) (λ h. periodic_took events used s)

-- ---- time and room

abbrev Time : Type 0
Time = ℕ × (ℕ × (ℕ × (ℕ × (ℕ × ℕ))))

abbrev time_of : Time → List ℕ
time_of x =
    field (codes " rank ") x.0 ++ (field (codes " run ") x.1.0 ++ (field (codes " suspend ") x.1.1.0 ++ (field (codes " waits ") x.1.1.1.0
    ++ (field (codes " block ") x.1.1.1.1.0 ++ field (codes " bound ") x.1.1.1.1.1))))

abbrev IsTime : Time → Type 0
IsTime x = (u16.is x.0 ≡ true) × (g.time_format.is x.1 ≡ true)

time_took : (s : Front) → Holds (λ z. Takes Within Within 0 s z.1 (time_of z.0) (IsTime z.0)) (time_read s)
unfolding time_read
time_took s =
    next (field_took (codes " rank ") 0 65535 s (inside (codes " rank ") refl)) (λ rank a. next (cost_took (codes " run ") rank.1 refl) (λ run b. next (cost_took (codes " suspend ") run.1 refl) (λ susp c.
    next (cost_took (codes " waits ") susp.1 refl) (λ waits d. next (cost_took (codes " block ") waits.1 refl) (λ block e. next (field_took (codes " bound ") 1 1000000000 block.1 (inside (codes " bound ") refl)) (λ bound f.
    let took = on a (on b (on c (on d (on e f)))) in
    went (shown took refl (λ held. (any_u16 0 rank.0 held.0, both_true held.1.0 (both_true held.1.1.0 (both_true held.1.1.1.0 (both_true held.1.1.1.1.0 (u32_is 1 1000000000 bound.0 held.1.1.1.1.1)))))))))))))

abbrev Room : Type 0
Room = ℕ × (ℕ × (ℕ × ℕ))

abbrev room_of : Room → List ℕ
room_of x = field (codes " data ") x.0 ++ (field (codes " stack ") x.1.0 ++ (field (codes " locals ") x.1.1.0 ++ field (codes " start ") x.1.1.1))

room_took : (s : Front) → Holds (λ z. Takes Within Within 0 s z.1 (room_of z.0) (g.room_format.is z.0 ≡ true)) (room_read s)
unfolding room_read
room_took s =
    next (field_took (codes " data ") 0 4294967295 s (inside (codes " data ") refl)) (λ words a. next (field_took (codes " stack ") 0 4096 words.1 (inside (codes " stack ") refl)) (λ stack b.
    next (field_took (codes " locals ") 0 4096 stack.1 (inside (codes " locals ") refl)) (λ locals c. next (field_took (codes " start ") 0 4294967295 locals.1 (inside (codes " start ") refl)) (λ start d.
    let took = on a (on b (on c d)) in
    went (shown took refl (λ held. both_true (any_u32 0 4294967295 words.0 held.0) (both_true (u32_is 0 4096 stack.0 held.1.0) (both_true (u32_is 0 4096 locals.0 held.1.1.0) (any_u32 0 4294967295 start.0 held.1.1.1)))))))))

-- ---- the line

abbrev Line : Type 0
Line = Release × (Time × (Room × (ℕ × List ℕ)))

abbrev fields_of : Line → List ℕ
fields_of x = release_of x.0 x.0.0 ++ (time_of x.1.0 ++ (room_of x.1.1.0 ++ handler_text x.1.1.1.0 x.1.1.1.1))

abbrev AreFields : (events : ℕ) → (used : List ℕ) → Line → Type 0
AreFields events used x = IsRelease events used x.0 × IsTime x.1.0 × (g.room_format.is x.1.1.0 ≡ true) × IsHandler x.1.1.1

fields_took : (events : ℕ) (used : List ℕ) (s : Front) → Holds (λ z. Takes Within Start 0 s z.1 (fields_of z.0) (AreFields events used z.0)) (fields_read events used s)
unfolding fields_read
fields_took events used s =
    next (release_took events used s) (λ release a. next (time_took release.1) (λ time b. next (room_took time.1) (λ room c. next (handler_took room.1) (λ handler d. next (end_took handler.1) (λ t e.
    let last = on d e in
    let tail = shown last (handler_end handler.0.0 handler.0.1) (λ held. held.0) in
    let took = on a (on b (on c tail)) in
    went (shown took refl (λ held. (held.0, held.1.0, held.1.1.0, held.1.1.1))))))))

abbrev Named : Type 0
Named = List ℕ × Line

line_took : (events : ℕ) (taken : List (List ℕ)) (used : List ℕ) (s : Front)
    → Holds (λ z. Takes Start Start 1 s z.1 ((codes "process " ++ z.0.0) ++ fields_of z.0.1) (IsName taken z.0.0 × AreFields events used z.0.1)) (process_line_read events taken used s)
unfolding process_line_read
line_took events taken used s =
    next (named_took (codes "process ") taken s owner) (λ name a. next (fields_took events used name.1) (λ x b. went (on a b)))

-- ---- the process

-- whatever else there is
abbrev pub IsProcess : (monitors events : ℕ) → (taken : List (List ℕ)) → (used : List ℕ) → List ℕ × Process → Type 0
IsProcess monitors events taken used x =
    (counts : Counts) → counts.monitors ≡ monitors → counts.events ≡ events → (g.named_process_format Second counts taken used).is x ≡ true

is_process : (monitors events : ℕ) (taken : List (List ℕ)) (used : List ℕ) (x : Named) (body : Segs) (handler : Option Segs) → IsName taken x.0 × AreFields events used x.1
    → (tree_format (in_image monitors) 130).is body ≡ true → (g.handler_tree_format monitors (length x.1.1.1.1.1)).is handler ≡ true → IsProcess monitors events taken used (x.0, process_with x.1 body handler)
is_process monitors events taken used x body handler h is_body is_handler counts m e =
    both_true h.0
    (both_true (h.1.0 counts.events x.1.1.0.0 e h.1.1.0)
    (both_true h.1.1.1
    (both_true h.1.2
    (both_true h.1.3.0
    (both_true (numbers_are x.1.1.1.1.1 h.1.3.1)
    (both_true (subst (λ n. (tree_format (in_image n) 130).is body ≡ true) (sym m) is_body) (subst (λ n. (g.handler_tree_format n (length x.1.1.1.1.1)).is handler ≡ true) (sym m) is_handler)))))))

release_same : (x : Line) (body : Segs) (handler : Option Segs) (kind : ℕ) → release_of x.0 kind ≡ release_text (process_with x body handler) kind
release_same x body handler zero = refl
release_same x body handler (suc kind) = refl

regroup : (a b c d e t u : List ℕ) → (a ++ (b ++ (c ++ (d ++ e)))) ++ (t ++ u) ≡ a ++ (b ++ (c ++ (d ++ (e ++ (t ++ u)))))
regroup a b c d e t u =
    append_assoc a (b ++ (c ++ (d ++ e))) (t ++ u) ∙ ap (λ (xs : List ℕ). a ++ xs) (append_assoc b (c ++ (d ++ e)) (t ++ u)
    ∙ ap (λ (xs : List ℕ). b ++ xs) (append_assoc c (d ++ e) (t ++ u) ∙ ap (λ (xs : List ℕ). c ++ xs) (append_assoc d e (t ++ u))))

process_is_written : (x : Named) (body : Segs) (handler : Option Segs)
    → ((codes "process " ++ x.0) ++ fields_of x.1) ++ (tree_line body ++ handler_line x.1.1.1.1.1 handler) ≡ process_lines x.0 (process_with x.1 body handler)
process_is_written x body handler =
    regroup (codes "process " ++ x.0) (release_of x.1.0 x.1.0.0) (time_of x.1.1.0) (room_of x.1.1.1.0) (handler_text x.1.1.1.1.0 x.1.1.1.1.1) (tree_line body) (handler_line x.1.1.1.1.1 handler)
    ∙ ap (λ (xs : List ℕ). codes "process " ++ (x.0 ++ (xs ++ (time_of x.1.1.0 ++ (room_of x.1.1.1.0 ++ (handler_text x.1.1.1.1.0 x.1.1.1.1.1 ++ (tree_line body ++ handler_line x.1.1.1.1.1 handler)))))))
    (release_same x.1 body handler x.1.0.0)

pub process_took : (monitors events : ℕ) (taken : List (List ℕ)) (used : List ℕ) (s : Front)
    → Holds (λ z. Takes Start Start 1 s z.1 (process_lines z.0.0 z.0.1) (IsProcess monitors events taken used z.0)) (process_read monitors events taken used s)
unfolding process_read
process_took monitors events taken used s =
    next (line_took events taken used s) (λ x a. next (tree_line_took monitors x.1) (λ body b. next (handler_tree_took monitors x.0.1.1.1.1.1 body.1) (λ handler c.
    let took = on a (on b c) in
    went (shown took (process_is_written x.0 body.0 handler.0) (λ held. is_process monitors events taken used x.0 body.0 handler.0 held.0 held.1.0 held.1.1)))))
