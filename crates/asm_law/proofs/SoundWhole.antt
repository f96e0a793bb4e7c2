-- A text of which an image is read is the text of that image, which is in its ranges.
use Rattle.std.proofs.Common.{◌≡◌, ◌≤◌, ◌<◌, ◌^◌, ◌+◌, ◌++◌, ℕ, true, List, [], ◌∷◌, length, map, refl, sym, ap, ◌∙◌, subst, arith, append_assoc, append-nil}
use Rattle.std.specs.Prelude.{codes, nat_lt}
use Rattle.std.specs.List.{flat_map}
use Rattle.std.proofs.lemmas.Bool.{lt-ltb, le-leb, ltb-true, and_parts}
use Rattle.machine_semantics.specs.Image.{Monitor, Process}
use Rattle.image.specs.Bytes.{Second}
use Rattle.image_reader.specs.declared.counts.Counts.{Counts}
use Rattle.image_format.specs.TreeFormat.{u16_within}
use Rattle.image_reader.specs.Grammar as g
use Rattle.image_reader.specs.File as f
use Rattle.image_reader.specs.File.{Parts, image_format, image_with, counts_of, framed}
use Rattle.asm_format.specs.Mnemonics.{instr_line}
use Rattle.asm_format.specs.Text.{head_line, event_line, device_line, condition_line, routine_lines, monitors_text, processes_text, text_of}
use Rattle.text_fields.specs.Front.{Front, line_start}
use Rattle.assembler.specs.Sections.{parts_of_lines, owners_in, text_read}
use Rattle.asm_law.proofs.Took.{Start, ahead, Takes, along, Holds, went, next}
use Rattle.asm_law.proofs.SoundNumbers.{both_true, fine_of, IsIn, at_most}
use Rattle.asm_law.proofs.SoundNames.{IsName, head_took}
use Rattle.asm_law.proofs.SoundRows.{EachHeld, each_held}
use Rattle.asm_law.proofs.Sections.{monitor_text, process_text, IsDevice, IsEvent, IsMonitor, IsCondition, IsRoutineOf, IsProcessOf, IsInstr, work_text, guarded_text, named_text, NamedFits, IsNamed, named_took, finish_took}
use Rattle.image_reader_law.proofs.ImageFaultsWhole.{Named}

-- ---- the text

monitors_are : (xs : List (List ℕ × Monitor)) → flat_map monitor_text xs ≡ monitors_text (map (λ x. x.0) xs) (map (λ x. x.1) xs)
monitors_are [] = refl
monitors_are (x ∷ xs) = ap (λ (ys : List ℕ). monitor_text x ++ ys) (monitors_are xs)

processes_are : (xs : List (List ℕ × Process)) → flat_map process_text xs ≡ processes_text (map (λ x. x.0) xs) (map (λ x. x.1) xs)
processes_are [] = refl
processes_are (x ∷ xs) = ap (λ (ys : List ℕ). process_text x ++ ys) (processes_are xs)

events_are : (at : ℕ) (xs : List (List ℕ)) (ps : List Process) → flat_map event_line xs ≡ flat_map (λ e. event_line e.name) (framed at xs ps)
events_are at [] ps = refl
events_are at (x ∷ xs) ps = ap (λ (ys : List ℕ). event_line x ++ ys) (events_are (at + 1) xs ps)

regroup : (h d e m c r p i l : List ℕ)
    → h ++ ((d ++ (e ++ (m ++ (c ++ (r ++ (p ++ i)))))) ++ l) ≡ h ++ ((d ++ (e ++ (m ++ c))) ++ (r ++ (p ++ (i ++ l))))
regroup h d e m c r p i l =
    ap (λ (xs : List ℕ). h ++ xs) (left ∙ sym right)
  where
    inner : (r ++ (p ++ i)) ++ l ≡ r ++ (p ++ (i ++ l))
    inner = append_assoc r (p ++ i) l ∙ ap (λ (xs : List ℕ). r ++ xs) (append_assoc p i l)

    left : (d ++ (e ++ (m ++ (c ++ (r ++ (p ++ i)))))) ++ l ≡ d ++ (e ++ (m ++ (c ++ (r ++ (p ++ (i ++ l))))))
    left =
        append_assoc d (e ++ (m ++ (c ++ (r ++ (p ++ i))))) l ∙ ap (λ (xs : List ℕ). d ++ xs) (append_assoc e (m ++ (c ++ (r ++ (p ++ i)))) l
        ∙ ap (λ (xs : List ℕ). e ++ xs) (append_assoc m (c ++ (r ++ (p ++ i))) l ∙ ap (λ (xs : List ℕ). m ++ xs) (append_assoc c (r ++ (p ++ i)) l ∙ ap (λ (xs : List ℕ). c ++ xs) inner)))

    right : (d ++ (e ++ (m ++ c))) ++ (r ++ (p ++ (i ++ l))) ≡ d ++ (e ++ (m ++ (c ++ (r ++ (p ++ (i ++ l))))))
    right =
        append_assoc d (e ++ (m ++ c)) (r ++ (p ++ (i ++ l))) ∙ ap (λ (xs : List ℕ). d ++ xs) (append_assoc e (m ++ c) (r ++ (p ++ (i ++ l)))
        ∙ ap (λ (xs : List ℕ). e ++ xs) (append_assoc m c (r ++ (p ++ (i ++ l)))))

abbrev lines_of : List ℕ × ℕ → Named → List ℕ
lines_of head x = head_line head.0 head.1 ++ (named_text x ++ codes "end\n")

is_written : (head : List ℕ × ℕ) (x : Named) → lines_of head x ≡ text_of (image_with (parts_of_lines head x))
unfolding text_of
is_written head x =
    let ps = map (λ (p : List ℕ × Process). p.1) x.1.1.1.1.1.0 in
    ap (λ (ys : List ℕ). head_line head.0 head.1 ++ ((flat_map device_line x.0 ++ (ys ++ guarded_text x.1.1)) ++ codes "end\n")) (events_are 0 x.1.0 ps)
    ∙ ap (λ (ys : List ℕ). head_line head.0 head.1 ++ ((flat_map device_line x.0 ++ (flat_map (λ e. event_line e.name) (framed 0 x.1.0 ps) ++ (ys ++ (flat_map condition_line x.1.1.1.0 ++ work_text x.1.1.1.1)))) ++ codes "end\n"))
    (monitors_are x.1.1.0)
    ∙ ap (λ (ys : List ℕ). head_line head.0 head.1 ++ ((flat_map device_line x.0 ++ (flat_map (λ e. event_line e.name) (framed 0 x.1.0 ps)
    ++ (monitors_text (map (λ m. m.0) x.1.1.0) (map (λ m. m.1) x.1.1.0) ++ (flat_map condition_line x.1.1.1.0 ++ (flat_map routine_lines x.1.1.1.1.0 ++ (ys ++ flat_map instr_line x.1.1.1.1.1.1)))))) ++ codes "end\n"))
    (processes_are x.1.1.1.1.1.0)
    ∙ regroup (head_line head.0 head.1) (flat_map device_line x.0) (flat_map (λ e. event_line e.name) (framed 0 x.1.0 ps)) (monitors_text (map (λ m. m.0) x.1.1.0) (map (λ m. m.1) x.1.1.0))
    (flat_map condition_line x.1.1.1.0) (flat_map routine_lines x.1.1.1.1.0) (processes_text (map (λ p. p.0) x.1.1.1.1.1.0) ps) (flat_map instr_line x.1.1.1.1.1.1) (codes "end\n")

-- ---- the ranges

count_is : (low high n : ℕ) → low ≤ n → n ≤ high → high < 2 ^ 16 → (u16_within low high).is n ≡ true
count_is low high n from to fits = both_true (lt-ltb n (2 ^ 16) (omega (arith, to, fits))) (fine_of 4 (both_true (le-leb low n from) (le-leb n high to)))

counts_are : (head : List ℕ × ℕ) (x : Named) → NamedFits x → g.counts_format.is (counts_of (parts_of_lines head x)) ≡ true
counts_are head x fits =
    let work = fits.2.2 in
    let some : 0 < length x.1.1.1.1.1.0 = ltb-true 0 (length x.1.1.1.1.1.0) (and_parts (nat_lt 0 (length x.1.1.1.1.1.0)) (f.all_used (f.used_by x.1.1.1.1.1.0) 0 (length x.1.0)) work.3).0 in
    let code = length x.1.1.1.1.1.1 in
    both_true (count_is 1 64 (length x.1.1.1.1.1.0) (omega (arith, some)) work.1 (omega arith))
    (both_true (count_is 0 64 (length x.1.1.0) (omega arith) fits.2.0 (omega arith))
    (both_true (count_is 0 256 (length x.1.1.1.0) (omega arith) fits.2.1 (omega arith))
    (both_true (count_is 0 64 (length x.0) (omega arith) fits.0 (omega arith))
    (both_true (count_is 0 64 (length x.1.0) (omega arith) fits.1 (omega arith))
    (both_true (count_is 0 512 (length x.1.1.1.1.0) (omega arith) work.0 (omega arith))
    (let most = work.2 in both_true (lt-ltb code (2 ^ 32) (omega (arith, most))) (fine_of 4 (both_true (le-leb 0 code (omega arith)) (le-leb code 65535 most)))))))))

module _ (head : List ℕ × ℕ) (x : Named) where
  abbrev counts : Counts
  counts = counts_of (parts_of_lines head x)

  -- the names that come before the monitors, and before all that follows them
  abbrev second : List (List ℕ)
  second = f.with_devices (head.0 ∷ []) x.0 ++ x.1.0

  abbrev third : List (List ℕ)
  third = f.with_monitors (f.with_devices (head.0 ∷ []) x.0 ++ x.1.0) x.1.1.0

  devices_are : EachHeld (IsDevice (head.0 ∷ [])) [] x.0 → (f.devices_format counts (head.0 ∷ [])).is x.0 ≡ true
  devices_are held = each_held (λ earlier. g.device_format ((head.0 ∷ []) ++ map (λ d. d.name) earlier)) (IsDevice (head.0 ∷ [])) (λ earlier d h. h) [] x.0 held

  names_are : EachHeld (IsEvent (f.with_devices (head.0 ∷ []) x.0)) [] x.1.0 → (f.events_format counts (f.with_devices (head.0 ∷ []) x.0)).is x.1.0 ≡ true
  names_are held =
      each_held (λ earlier. g.name_format (f.with_devices (head.0 ∷ []) x.0 ++ earlier)) (IsEvent (f.with_devices (head.0 ∷ []) x.0)) (λ earlier e h. h) [] x.1.0 held

  all_monitors : (taken : List (List ℕ)) → EachHeld (IsMonitor taken) [] x.1.1.0 → (f.monitors_format counts taken).is x.1.1.0 ≡ true
  all_monitors taken held = each_held (λ earlier. g.named_monitor_format (taken ++ map (λ m. m.0) earlier)) (IsMonitor taken) (λ earlier m h. h) [] x.1.1.0 held

  all_conditions : (taken : List (List ℕ)) → EachHeld (IsCondition taken (length x.1.1.0)) [] x.1.1.1.0 → (f.conditions_format counts taken).is x.1.1.1.0 ≡ true
  all_conditions taken held = each_held (g.condition_format taken (length x.1.1.0)) (IsCondition taken (length x.1.1.0)) (λ earlier c h. h) [] x.1.1.1.0 held

  all_routines : (owners : ℕ) → length x.1.1.1.1.1.0 ≡ owners → EachHeld (IsRoutineOf owners (length x.1.1.0)) [] x.1.1.1.1.0
      → (f.routines_format counts).is x.1.1.1.1.0 ≡ true
  all_routines owners same held =
      each_held (λ earlier. g.routine_format counts) (IsRoutineOf owners (length x.1.1.0)) (λ earlier r h. h counts same refl) [] x.1.1.1.1.0 held

  all_processes : (taken : List (List ℕ)) → EachHeld (IsProcessOf (length x.1.1.0) (length x.1.0) taken) [] x.1.1.1.1.1.0
      → (f.processes_format Second counts taken).is x.1.1.1.1.1.0 ≡ true
  all_processes taken held =
      each_held (λ earlier. g.named_process_format Second counts (taken ++ map (λ p. p.0) earlier) (f.used_by earlier)) (IsProcessOf (length x.1.1.0) (length x.1.0) taken)
      (λ earlier p h. h counts refl refl) [] x.1.1.1.1.1.0 held

  all_code : NamedFits x → EachHeld IsInstr [] x.1.1.1.1.1.1
      → (f.code_format (f.all_used (f.used_by x.1.1.1.1.1.0) 0 (length x.1.0)) (length x.1.1.1.1.1.1)).is x.1.1.1.1.1.1 ≡ true
  all_code fits held =
      let used = (and_parts (nat_lt 0 (length x.1.1.1.1.1.0)) (f.all_used (f.used_by x.1.1.1.1.1.0) 0 (length x.1.0)) fits.2.2.3).1 in
      subst (λ b. (f.code_format b (length x.1.1.1.1.1.1)).is x.1.1.1.1.1.1 ≡ true) (sym used)
      (each_held (λ earlier. g.instr_format) IsInstr (λ earlier i h. h) [] x.1.1.1.1.1.1 held)

  in_range : (owners : ℕ) → length x.1.1.1.1.1.0 ≡ owners → NamedFits x → IsName [] head.0 → IsIn 0 1000 head.1 → IsNamed owners head.0 x
      → image_format.is (Second, parts_of_lines head x) ≡ true
  in_range owners same fits is_name over held =
      let guarded = held.1.1 in
      let work = guarded.1.1 in
      both_true (over_is head.1 over)
      (both_true (counts_are head x fits)
      (both_true is_name
      (both_true (devices_are held.0)
      (both_true (names_are held.1.0)
      (both_true (all_monitors second guarded.0)
      (both_true (all_conditions third guarded.1.0)
      (both_true (all_routines owners same work.0)
      (both_true (all_processes third work.1.0) (all_code fits work.1.1)))))))))
    where
      over_is : (n : ℕ) → IsIn 0 1000 n → (u16_within 0 1000).is n ≡ true
      over_is n h = both_true (lt-ltb n (2 ^ 16) (let most = at_most 0 1000 n h in omega (arith, most))) (fine_of 4 h.1)

-- ---- the law

abbrev Law : (text : List ℕ) → Parts → Type 0
Law text p = (text ≡ text_of (image_with p)) × (length text < 2 ^ 32 → image_format.is (Second, p) ≡ true)

whole : (text : List ℕ) (head : List ℕ × ℕ) (x : Named) (t : Front) → NamedFits x → t.fine ≡ true → t.rest ≡ []
    → Takes Start Start (0 + (length x.1.1.1.1.1.0 + 0)) (line_start text) t (lines_of head x) ((IsName [] head.0 × IsIn 0 1000 head.1) × (IsNamed (owners_in text) head.0 x × Unit {0}))
    → Law text (parts_of_lines head x)
whole text head x t fits fine no_more took =
    let a = took fine in
    let none : ahead Start t.rest ≡ 0 = ap (ahead Start) no_more in
    let count : length x.1.1.1.1.1.0 ≡ owners_in text = omega (arith, a.count, none) in (
      a.are ∙ ap (λ (ys : List ℕ). lines_of head x ++ ys) no_more ∙ append-nil (lines_of head x) ∙ is_written head x,
      λ short. let held = a.holds short in in_range head x (owners_in text) count fits held.0.0 held.0.1 held.1.0,
    )

pub text_took : (text : List ℕ) → Holds (Law text) (text_read text)
unfolding text_read
text_took text =
    next (head_took (line_start text)) (λ head a. next (named_took (owners_in text) head.0.0 head.1) (λ x b. next (finish_took x.1) (λ t c.
    went (whole text head.0 x.0 t b.0 c.1.0 c.0 (along a (along b.1 c.1.1))))))
