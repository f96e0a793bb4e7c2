-- The layout tells what reading tells: processes.
use Rattle.std.proofs.Common.{◌≡◌, ℕ, zero, suc, List, [], ◌∷◌, length, Ok, refl, ◌∙◌}
use Rattle.std.specs.Prelude.{◌==◌, codes, if◌then◌else◌}
use Rattle.machine_semantics.specs.Image.{Process}
use Rattle.image_reader.specs.Grammar.{event_of}
use Rattle.text_fields.specs.Front.{Front, noted}
use Rattle.asm_lines.specs.Processes as p
use Rattle.asm_law.specs.Notes as notes
use Rattle.asm_law.specs.Layout as l
use Rattle.asm_law.specs.Layout.{Layout, done, word, choice, numeral, note, ends, left}
use Rattle.asm_law.proofs.Reading.{follow, told, Reads, Skips, chain, pass, step, an_end, a_field, a_named}
use Rattle.asm_law.proofs.FieldLines.{a_choice, a_note, no_such}
use Rattle.asm_law.proofs.FieldTrees.{skip_field, a_cost, a_tree_line, so_many}

-- ---- what releases it

-- the event, where it is not periodic
abbrev pub event_in : (kind event : ℕ) → List ℕ
event_in kind event = if kind == 0 then [] else event ∷ []

abbrev pub released : ℕ × (ℕ × (ℕ × (ℕ × ℕ))) → List ℕ
released x = event_in x.0 x.1.1.1.1

a_periodic : (k : List ℕ → Layout) (s : Front)
    → told (l.field (codes " periodic frame ") 10 1000000000 (λ frame. l.field (codes " deadline ") 10 frame (λ deadline. l.field (codes " first ") 0 1000000000 (λ first. k [])))) s
    ≡ follow (p.periodic_read s) (λ x more. told (k (released x)) more)
unfolding p.periodic_frame_read
a_periodic k =
    chain _ _ _ (λ frame. l.field (codes " deadline ") 10 frame (λ deadline. l.field (codes " first ") 0 1000000000 (λ first. k []))) _ _ (a_field (codes " periodic frame ") 10 1000000000)
    (λ frame. pass _ _ _ _ _ (skip_field (codes " deadline ") 10 frame) (λ deadline. pass _ _ (k []) _ _ (skip_field (codes " first ") 0 1000000000) (λ first s. refl)))

abbrev behind_event : (events : ℕ) → (used : List ℕ) → (k : List ℕ → Layout) → ℕ → Layout
behind_event events used k e = note (notes.event events used e) (l.field (codes " frame ") 10 1000000000 (λ frame. l.field (codes " deadline ") 10 frame (λ deadline. k (e ∷ []))))

an_evented : (events : ℕ) (used : List ℕ) (k : List ℕ → Layout) (s : Front) → told (l.field (codes " event ") 0 65535 (behind_event events used k)) s ≡ follow (p.evented_read events used s) (λ x more. told (k (released x)) more)
an_evented events used k =
    chain _ _ _ (behind_event events used k) _ _ (a_field (codes " event ") 0 65535)
    (λ e s. a_note _ _ s ∙ chain _ _ _ (λ frame. l.field (codes " deadline ") 10 frame (λ deadline. k (e ∷ []))) _ _ (a_field (codes " frame ") 10 1000000000)
    (λ frame. pass _ _ (k (e ∷ [])) _ _ (skip_field (codes " deadline ") 10 frame) (λ deadline s. refl)) (noted s (p.is_free events used e)))

a_release : (events : ℕ) (used : List ℕ) → Reads (p.release_read events used) released (l.release events used)
unfolding p.release_read
a_release events used k s = a_choice _ _ _ s _ _ _ (an_evented events used k s) (a_periodic k s)

-- ---- time and room

a_time : Skips p.time_read l.time
unfolding p.time_read
a_time k =
    pass _ _ _ _ _ (skip_field (codes " rank ") 0 65535) (λ rank. pass _ _ _ _ _ (a_cost (codes " run ")) (λ run. pass _ _ _ _ _ (a_cost (codes " suspend ")) (λ susp. pass _ _ _ _ _ (a_cost (codes " waits "))
    (λ waits. pass _ _ _ _ _ (a_cost (codes " block ")) (λ block. pass _ _ k _ _ (skip_field (codes " bound ") 1 1000000000) (λ bound s. refl))))))

a_room : Skips p.room_read l.room
unfolding p.room_read
a_room k =
    pass _ _ _ _ _ (skip_field (codes " data ") 0 4294967295) (λ words. pass _ _ _ _ _ (skip_field (codes " stack ") 0 4096) (λ stack. pass _ _ _ _ _ (skip_field (codes " locals ") 0 4096)
    (λ locals. pass _ _ k _ _ (skip_field (codes " start ") 0 4294967295) (λ start s. refl))))

-- ---- the handler

a_taken : (last : ℕ) → Reads (p.taken_read last) (λ x. x) (λ k. l.field (codes " ") 0 65535 (λ x. note (notes.handled last x) (k x)))
unfolding p.taken_read
a_taken last k = chain _ _ _ (λ x. note (notes.handled last x) (k x)) _ _ (a_field (codes " ") 0 65535) (λ x s. a_note _ _ s)

abbrev behind_number : (most : ℕ) → (k : List ℕ → Layout) → ℕ → Layout
behind_number most k x = l.more most x (λ xs. k (x ∷ xs))

some_more : (most last : ℕ) → Reads (p.more_read most last) (λ xs. xs) (l.more most last)
unfolding p.more_read
some_more zero last k s = no_such s
some_more (suc m) last k s =
    a_choice _ _ _ s _ _ _ refl
    (chain (p.taken_read last) (λ x. x) (λ n. l.field (codes " ") 0 65535 (λ x. note (notes.handled last x) (n x))) (behind_number m k) _ _ (a_taken last)
    (λ x. chain _ _ (l.more m x) (λ xs. k (x ∷ xs)) _ _ (some_more m x) (λ xs s. refl)) s)

some_numbers : Reads p.numbers_read (λ xs. xs) l.numbers
unfolding p.numbers_read
some_numbers k s = a_choice _ _ _ s _ _ _ (no_such s) (so_many _ s ∙ some_more (length s.rest) 0 k s)

a_handler : Reads p.handler_read (λ x. x.1) l.handler
unfolding p.handler_read
a_handler k s =
    a_choice _ _ _ s _ _ _ refl
    (pass _ _ (l.numbers k) _ _ (skip_field (codes " handler ") 0 4294967295) (λ address. chain _ _ l.numbers k _ _ some_numbers (λ xs s. refl)) s)

a_handler_tree : (monitors : ℕ) (numbers : List ℕ) → Skips (p.handler_tree_read monitors numbers) (l.handler_tree monitors numbers)
unfolding p.handler_tree_read
a_handler_tree monitors [] k s = refl
a_handler_tree monitors (x ∷ xs) k s = pass _ (l.tree_line monitors) k _ _ (a_tree_line monitors) (λ tree s. refl) s

-- ---- the process

abbrev pub seen : (ℕ × (ℕ × (ℕ × (ℕ × ℕ)))) × ((ℕ × (ℕ × (ℕ × (ℕ × (ℕ × ℕ))))) × ((ℕ × (ℕ × (ℕ × ℕ))) × (ℕ × List ℕ))) → List ℕ × List ℕ
seen x = (released x.0, x.1.1.1.1)

some_fields : (events : ℕ) (used : List ℕ) → Reads (p.fields_read events used) seen (λ k. l.release events used (λ e. l.time (l.room (l.handler (λ ns. ends (k (e, ns)))))))
unfolding p.fields_read
some_fields events used k =
    chain _ _ (l.release events used) (λ e. l.time (l.room (l.handler (λ ns. ends (k (e, ns)))))) _ _ (a_release events used)
    (λ release. pass _ l.time (l.room (l.handler (λ ns. ends (k (released release, ns))))) _ _ a_time (λ time. pass _ l.room (l.handler (λ ns. ends (k (released release, ns)))) _ _ a_room
    (λ room. chain _ _ l.handler (λ ns. ends (k (released release, ns))) _ _ a_handler (λ handler. step _ _ _ (λ t. Ok ((release, (time, (room, handler))), t)) _ an_end (λ s. refl)))))

pub a_process_line : (events : ℕ) (taken : List (List ℕ)) (used : List ℕ) → Reads (p.process_line_read events taken used) (λ x. (x.0, seen x.1)) (l.process_line events taken used)
unfolding p.process_line_read
a_process_line events taken used k =
    chain _ _ _ (λ x. l.release events used (λ e. l.time (l.room (l.handler (λ ns. ends (k (x, (e, ns)))))))) _ _ (a_named (codes "process ") taken)
    (λ x. chain _ _ (λ m. l.release events used (λ e. l.time (l.room (l.handler (λ ns. ends (m (e, ns))))))) (λ y. k (x, y)) _ _ (some_fields events used) (λ y s. refl))

-- a process as it is told: its name and its event
abbrev pub told_of : List ℕ × Process → List ℕ × List ℕ
told_of x = (x.0, event_of x.1)

pub a_process : (monitors events : ℕ) (taken : List (List ℕ)) (used : List ℕ) → Reads (p.process_read monitors events taken used) told_of (l.process monitors events taken used)
unfolding p.process_read
a_process monitors events taken used k =
    chain _ _ (l.process_line events taken used) (λ x. l.tree_line monitors (l.handler_tree monitors x.1.1 (k (x.0, x.1.0)))) _ _ (a_process_line events taken used)
    (λ x. pass _ (l.tree_line monitors) (l.handler_tree monitors x.1.1.1.1.1 (k (x.0, released x.1.0))) _ _ (a_tree_line monitors)
    (λ body. pass _ (l.handler_tree monitors x.1.1.1.1.1) (k (x.0, released x.1.0)) _ _ (a_handler_tree monitors x.1.1.1.1.1) (λ handler s. refl)))
