-- Where reading an image by its format fails.
use Rattle.std.proofs.Common.{◌≡◌, ◌⊎◌, inl, inr, ◌++◌, ℕ, Bool, true, false, List, [], ◌∷◌, length, Ok, Err, refl, ap, ◌∙◌}
use Rattle.std.specs.Prelude.{codes, nat_eq}
use Rattle.std.specs.Cmp.Lexicographic.{pointwise}
use Rattle.std.proofs.lemmas.Bool.{and_parts as parts}
use Rattle.image.specs.Bytes.{Version}
use Rattle.image_reader.specs.declared.counts.Counts.{Counts}
use Rattle.image_format.specs.declared.fault.ByteFault.{ByteFault}
use Rattle.image_format.specs.Format.{Format, fault, bytes_as_are, is_fine, both}
use Rattle.image_reader.specs.Grammar as g
use Rattle.image_reader.specs.File as f
use Rattle.image_format.specs.FormatLaw.{AreBytes}
use Rattle.image_reader.proofs.Words.{same_words}
use Rattle.image_reader_law.specs.Faults as s
use Rattle.image_reader_law.specs.Faults.{Sort, Thing, Form, IsMade, Begins, natural, device, monitor, condition, routine, process, pair, list}
use Rattle.image_reader_law.specs.ImageFaults.{FieldsInRange}
use Rattle.image_reader_law.proofs.Failed.{Failed, failed, failed_only, second_of}
use Rattle.image_reader_law.proofs.Heard.{read_begins, are_left}
use Rattle.image_reader_law.proofs.Known.{Known, Inner}
use Rattle.image_reader_law.proofs.Grammar.{a_name, some_counts}
use Rattle.image_reader_law.proofs.ImageFaultsFields.{fine_is}
use Rattle.image_reader_law.proofs.ImageFaultsWhole as w
use Rattle.image_reader_law.proofs.ImageFaultsWhole.{Content, content, parts_with}

-- ---- one after the other

-- the first went well, and the second failed
pub record Passed (a : Sort) {B : Type 0} (f : Form a) (g : Thing a → Format B) (bytes : List ℕ) (e : ByteFault) : Type 0 where
  pub x : Thing a
  pub rest : List ℕ
  pub begins : Begins a f bytes x rest
  pub left_are : AreBytes rest
  pub then_is : (g x).read rest ≡ Err e

second : (a : Sort) {B : Type 0} (f : Form a) (g : Thing a → Format B) → IsMade a f → (bytes : List ℕ) (e : ByteFault) → AreBytes bytes → (x : Thing a × List ℕ) → f.read bytes ≡ Ok x → second_of g x ≡ Err e → Passed a f g bytes e
second a f g made bytes e are x was is =
    let begins = read_begins a f made bytes are x was in
    record { x = x.0; rest = x.1; begins = begins; left_are = are_left a f bytes x.0 x.1 are begins; then_is = failed_only ((g x.0).read x.1) (λ y. ((x.0, y.0), y.1)) e is }

passing : (a : Sort) {B : Type 0} (f : Form a) (g : Thing a → Format B) → Known a f → (bytes : List ℕ) (e : ByteFault) → AreBytes bytes → (both f g).read bytes ≡ Err e → Inner e ⊎ Passed a f g bytes e
passing a f g known bytes e are h = by (failed (f.read bytes) (second_of g) e h) where
  by : Failed (f.read bytes) (second_of g) e → Inner e ⊎ Passed a f g bytes e
  by (inl first) = inl (known.inner bytes e first)
  by (inr r) = inr (second a f g known.made bytes e are r.x r.was r.then_is)

on : {A P Q : Type 0} → A ⊎ P → (P → A ⊎ Q) → A ⊎ Q
on (inl a) f = inl a
on (inr p) f = f p

-- ---- up to the code

-- the bytes of the fields up to the code, and those behind them
abbrev pub pieces : Version → Counts → f.Parts → List ℕ → List ℕ
pieces version counts p rest =
    let taken = f.with_devices (p.program ∷ []) p.devices ++ p.events in
    let inner = f.with_monitors taken p.monitors in
    (f.over_format version).write p.over ++ (g.counts_format.write counts ++ ((g.name_format []).write p.program ++ ((f.devices_format counts (p.program ∷ [])).write p.devices
    ++ ((f.events_format counts (f.with_devices (p.program ∷ []) p.devices)).write p.events ++ ((f.monitors_format counts taken).write p.monitors ++ ((f.conditions_format counts inner).write p.conditions
    ++ ((f.routines_format counts).write p.routines ++ ((f.processes_format version counts inner).write p.processes ++ rest))))))))

-- all fields are in their ranges up to the code, but an event is of no process
pub record Unused (version : Version) (bytes : List ℕ) (e : ByteFault) : Type 0 where
  pub counts : Counts
  pub parts : f.Parts
  pub rest : List ℕ
  pub in_range : FieldsInRange version counts parts
  pub no_code : parts.code ≡ []
  pub unused : f.all_used (f.used_by parts.processes) 0 counts.events ≡ false
  pub are : bytes ≡ pieces version counts parts rest
  pub fault_is : fault (f.unused_fault counts.code rest) (length rest) ≡ e

-- the code of an image whose events are all used, or not
code_fails : (is_used : Bool) (count : ℕ) (bytes : List ℕ) (e : ByteFault) → (f.code_format is_used count).read bytes ≡ Err e → Inner e ⊎ ((is_used ≡ false) × (fault (f.unused_fault count bytes) (length bytes) ≡ e))
code_fails true count bytes e h = inl ((w.all_code count).inner bytes e h)
code_fails false count bytes e h = inr (refl, cc)

-- what is known of the bytes behind a thing is known of all
onward : {a : Sort} {f : Form a} {bytes rest tail : List ℕ} {x : Thing a} → Begins a f bytes x rest → rest ≡ tail → bytes ≡ f.write x ++ tail
onward {f = f} {x = x} begins same = begins.are ∙ ap (λ (more : List ℕ). f.write x ++ more) same

content_fails : (version : Version) (bytes : List ℕ) (e : ByteFault) → AreBytes bytes → (content version).read bytes ≡ Err e → Inner e ⊎ Unused version bytes e
content_fails version bytes e are h =
    on (passing natural (f.over_format version) (λ over. both g.counts_format (w.after_counts version)) (w.an_over version) bytes e are h) λ o.
    on (passing s.counts g.counts_format (w.after_counts version) some_counts o.rest e o.left_are o.then_is) λ c.
    on (passing (list natural) (g.name_format []) (λ program. f.named_format version c.x program) (a_name []) c.rest e c.left_are c.then_is) λ n.
    on (passing (list device) (f.devices_format c.x (n.x ∷ [])) (w.after_devices version c.x (n.x ∷ [])) (w.all_devices c.x (n.x ∷ [])) n.rest e n.left_are n.then_is) λ d.
    let before = f.with_devices (n.x ∷ []) d.x in
    on (passing (list (list natural)) (f.events_format c.x before) (w.after_events version c.x (n.x ∷ []) d.x) (w.all_events c.x before) d.rest e d.left_are d.then_is) λ v.
    let taken = before ++ v.x in
    on (passing (list (pair (list natural) monitor)) (f.monitors_format c.x taken) (w.after_monitors version c.x taken) (w.all_monitors c.x taken) v.rest e v.left_are v.then_is) λ m.
    let inner = f.with_monitors taken m.x in
    on (passing (list condition) (f.conditions_format c.x inner) (λ conditions. f.work_format version c.x inner) (w.all_conditions c.x inner) m.rest e m.left_are m.then_is) λ q.
    on (passing (list routine) (f.routines_format c.x) (λ routines. w.with_processes version c.x inner) (w.all_routines c.x) q.rest e q.left_are q.then_is) λ r.
    on (passing (list (pair (list natural) process)) (f.processes_format version c.x inner) (w.with_code version c.x) (w.all_processes version c.x inner) r.rest e r.left_are r.then_is) λ p.
    on (code_fails (f.all_used (f.used_by p.x) 0 c.x.events) c.x.code p.rest e p.then_is) λ none.
    inr (record {
      counts = c.x;
      parts = parts_with (o.x, (c.x, (n.x, (d.x, (v.x, (m.x, (q.x, (r.x, (p.x, [])))))))));
      rest = p.rest;
      in_range = record {
        over = o.begins.in_range;
        so_many = c.begins.in_range;
        program = n.begins.in_range;
        devices = d.begins.in_range;
        events = v.begins.in_range;
        monitors = m.begins.in_range;
        conditions = q.begins.in_range;
        routines = r.begins.in_range;
        processes = p.begins.in_range;
      };
      no_code = refl;
      unused = none.0;
      are = onward o.begins (onward c.begins (onward n.begins (onward d.begins (onward v.begins (onward m.begins (onward q.begins (onward r.begins p.begins.are)))))));
      fault_is = none.1;
    })

-- ---- the whole format

pub data Failure (bytes : List ℕ) (e : ByteFault) : Type 0 where
  in_letters : f.magic_format.read bytes ≡ Err e → Failure bytes e
  in_version : (rest : List ℕ) → AreBytes rest → bytes ≡ codes "RTEU" ++ rest → f.version_format.read rest ≡ Err e → Failure bytes e
  in_content : Inner e → Failure bytes e
  no_process : (version : Version) (rest : List ℕ) → bytes ≡ codes "RTEU" ++ (f.version_format.write version ++ rest) → f.version_format.is version ≡ true → Unused version rest e → Failure bytes e

letters_are : (magic : List ℕ) → f.magic_format.is magic ≡ true → magic ≡ codes "RTEU"
letters_are magic h = same_words magic (codes "RTEU") (fine_is (pointwise nat_eq magic (codes "RTEU")) 1 (parts ((bytes_as_are 4).is magic) (is_fine (w.magic_rule magic)) h).1)

parts_fail : (bytes : List ℕ) (e : ByteFault) (version : Version) (rest : List ℕ) → bytes ≡ codes "RTEU" ++ (f.version_format.write version ++ rest) → f.version_format.is version ≡ true → Inner e ⊎ Unused version rest e → Failure bytes e
parts_fail bytes e version rest all in_range (inl inner) = in_content inner
parts_fail bytes e version rest all in_range (inr unused) = no_process version rest all in_range unused

behind_letters : (bytes : List ℕ) (e : ByteFault) (rest : List ℕ) → AreBytes rest → bytes ≡ codes "RTEU" ++ rest → w.after_magic.read rest ≡ Err e → Failure bytes e
behind_letters bytes e rest are all h = by (failed (f.version_format.read rest) (second_of f.parts_format) e h) where
  by : Failed (f.version_format.read rest) (second_of f.parts_format) e → Failure bytes e
  by (inl first) = in_version rest are all first
  by (inr r) =
      let q = second s.version f.version_format f.parts_format w.version_made rest e are r.x r.was r.then_is in
      parts_fail bytes e q.x q.rest (all ∙ ap (λ (more : List ℕ). codes "RTEU" ++ more) q.begins.are) q.begins.in_range
      (content_fails q.x q.rest e q.left_are (failed_only ((content q.x).read q.rest) (λ x. (parts_with x.0, x.1)) e q.then_is))

pub image_fails : (bytes : List ℕ) (e : ByteFault) → AreBytes bytes → f.image_format.read bytes ≡ Err e → Failure bytes e
image_fails bytes e are h = by (failed (f.magic_format.read bytes) (second_of (λ magic. w.after_magic)) e (failed_only ((both f.magic_format (λ magic. w.after_magic)).read bytes) (λ x. (x.0.1, x.1)) e h)) where
  by : Failed (f.magic_format.read bytes) (second_of (λ magic. w.after_magic)) e → Failure bytes e
  by (inl first) = in_letters first
  by (inr r) =
      let p = second (list natural) f.magic_format (λ magic. w.after_magic) w.magic_made bytes e are r.x r.was r.then_is in
      behind_letters bytes e p.rest p.left_are (p.begins.are ∙ ap (λ (magic : List ℕ). magic ++ p.rest) (letters_are p.x p.begins.in_range)) p.then_is
