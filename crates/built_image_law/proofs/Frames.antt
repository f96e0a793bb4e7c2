-- Each event has the frame of the process that it releases.
use Rattle.std.proofs.Common.{◌≡◌, ◌≤◌, ◌+◌, ◌∙◌, inl, inr, ℕ, zero, suc, Bool, true, false, cond, List, [], ◌∷◌, length, map, filter_map, Option, Some, bytes_eq, arith, refl, ap, sym, subst}
use Rattle.std.specs.Prelude.{Contains, count_by, option_map, unwrap_or, slice_get}
use Rattle.std.proofs.lemmas.Bool.{cases_Bool}
use Rattle.std.proofs.lemmas.List.Sums.{sum_by-cons}
use Rattle.std.proofs.lemmas.Option.{slice_get-map, slice_get_within, get_or_from_slice_get}
use Rattle.base.proofs.Members.{front_or_behind, none_in}
use Rattle.syntax_tree.specs.Plain.{Name, Trigger, periodic, at_event, Process, Declaration, constant, device, event, routine, monitor, process, Program}
use Rattle.source_semantics.specs.Names.{event_in, place_of, processes, frame_of}
use Rattle.machine_semantics.specs.Image as image
use Rattle.image.specs.declared.names.EventName.{EventName}
use Rattle.code_spec.specs.Compiled.{IsReleased}
use Rattle.codegen_law.proofs.NameNumbers.{name_same, name_is}
use Rattle.static_semantics.specs.WellFormed.{ActivationFits, ProcessFits, IsWellFormed, is_event_of}
use Rattle.codegen_law.proofs.Counts.{one_low}
use Rattle.script.specs.Scripts as script
use Rattle.built_image.specs.Named.{frame_released, named_event, names_of}
use Rattle.built_image_law.specs.Suits.{NamesHaveFrames}
use Rattle.built_image_law.proofs.Texts.{Emitted, emitted}

-- ---- where an event stands

at_front : (n e : Name) (ns : List Name) → bytes_eq n e ≡ true → slice_get (n ∷ ns) (place_of e (n ∷ ns)) ≡ Some e
at_front n e ns is = ap (λ (b : Bool). slice_get (n ∷ ns) (cond b 0 (suc (place_of e ns)))) is ∙ ap (λ (x : Name). Some x) (name_same n e is)

behind : (n e : Name) (ns : List Name) → bytes_eq n e ≡ false → slice_get ns (place_of e ns) ≡ Some e → slice_get (n ∷ ns) (place_of e (n ∷ ns)) ≡ Some e
behind n e ns is_not rest = ap (λ (b : Bool). slice_get (n ∷ ns) (cond b 0 (suc (place_of e ns)))) is_not ∙ rest

-- an event that is declared stands at its place
abbrev Stands : Name → List Declaration → Type 0
Stands e ds = slice_get (filter_map event_in ds) (place_of e (filter_map event_in ds)) ≡ Some e

event_stands : (e : Name) (ds : List Declaration) → Contains ds (event e) → Stands e ds
event_stands e [] h = absurd (none_in (event e) h)
event_stands e (constant n c ∷ ds) h = elim (front_or_behind (constant n c) ds (event e) h) [ inl is ↦ absurd cc | inr more ↦ event_stands e ds more ]
event_stands e (device n o ∷ ds) h = elim (front_or_behind (device n o) ds (event e) h) [ inl is ↦ absurd cc | inr more ↦ event_stands e ds more ]
event_stands e (routine r ∷ ds) h = elim (front_or_behind (routine r) ds (event e) h) [ inl is ↦ absurd cc | inr more ↦ event_stands e ds more ]
event_stands e (monitor m ∷ ds) h = elim (front_or_behind (monitor m) ds (event e) h) [ inl is ↦ absurd cc | inr more ↦ event_stands e ds more ]
event_stands e (process p ∷ ds) h = elim (front_or_behind (process p) ds (event e) h) [ inl is ↦ absurd cc | inr more ↦ event_stands e ds more ]
event_stands e (event n ∷ ds) h = elim (cases_Bool (bytes_eq n e)) [
  | inl is ↦ at_front n e (filter_map event_in ds) is
  | inr is_not ↦ behind n e (filter_map event_in ds) is_not (elim (front_or_behind (event n) ds (event e) h) [
    | inl same ↦ (let alike : n ≡ e = cc in absurd (let both : true ≡ false = sym (ap (λ (x : Name). bytes_eq x e) alike ∙ name_is e) ∙ is_not in cc))
    | inr more ↦ event_stands e ds more
  ])
]

-- ---- the process that it releases

abbrev tests : Name → Process → Bool
tests e p = is_event_of e p.activation

abbrev worth : Bool → ℕ
worth b = cond b 1 0

-- where one process alone is released by an event, it is the first
one_released : (g : Program) (e : Name) (ps : List Process) (k : ℕ) (t : Process) → slice_get ps k ≡ Some t → tests e t ≡ true
    → count_by (tests e) ps ≡ 1 → frame_released g e ps ≡ frame_of g t.activation
one_released g e [] k t at is one = absurd cc
one_released g e (q ∷ qs) zero t at is one =
    let same : q ≡ t = cc in
    let hit : is_event_of e q.activation ≡ true = ap (λ (x : Process). tests e x) same ∙ is in
    ap (λ (b : Bool). cond b (frame_of g q.activation) (frame_released g e qs)) hit ∙ ap (λ (x : Process). frame_of g x.activation) same
one_released g e (q ∷ qs) (suc k) t at is one =
    let more : count_by (tests e) (q ∷ qs) ≡ worth (tests e q) + count_by (tests e) qs = sum_by-cons (λ (y : Process). worth (tests e y)) q qs in
    let some : worth (tests e t) ≤ count_by (tests e) qs = one_low (λ (y : Process). worth (tests e y)) qs k t at in
    let own : worth (tests e t) ≡ 1 = ap (λ (b : Bool). worth b) is in
    elim (cases_Bool (tests e q)) [
      | inl hit ↦ absurd (let head : worth (tests e q) ≡ 1 = ap (λ (b : Bool). worth b) hit in omega (arith, more, some, own, head, one))
      | inr miss ↦
          let head : worth (tests e q) ≡ 0 = ap (λ (b : Bool). worth b) miss in
          let rest : count_by (tests e) qs ≡ 1 = omega (arith, more, head, one) in
          ap (λ (b : Bool). cond b (frame_of g q.activation) (frame_released g e qs)) miss ∙ one_released g e qs k t at is rest
    ]

-- ---- the frames

of_activation : (g : Program) (m : image.Image) (k : ℕ) (t : Process) (p : image.Process) → IsWellFormed g → slice_get (processes g) k ≡ Some t → p.kind ≡ 1
    → (a : Trigger) → t.activation ≡ a → IsReleased g a p → p.frame ≡ frame_of g a → ActivationFits g a
    → script.frame_of (names_of g) p.event ≡ p.frame
of_activation g m k t p formed at kind (periodic frame deadline first) is released told fits =
    absurd (let z : p.kind ≡ 0 = released.0 in omega (arith, z, kind))
of_activation g m k t p formed at kind (at_event e frame deadline) is released told fits =
    let events = filter_map event_in g.decls in
    let there : slice_get events (place_of e events) ≡ Some e = event_stands e g.decls fits.0 in
    let here : slice_get events p.event ≡ Some e = ap (λ (n : ℕ). slice_get events n) released.2 ∙ there in
    let name : slice_get (map (λ (x : Name). named_event g x) events) p.event ≡ Some (named_event g e)
    = slice_get-map (λ (x : Name). named_event g x) events p.event ∙ ap (λ (o : Option Name). option_map (λ (x : Name). named_event g x) o) here in
    let hit : tests e t ≡ true = ap (λ (x : Trigger). is_event_of e x) is ∙ name_is e in
    let own : frame_released g e (processes g) ≡ frame_of g t.activation = one_released g e (processes g) k t at hit (formed.events_fit e fits.0) in
    ap (λ (o : Option EventName). unwrap_or (option_map (λ (y : EventName). y.frame) o) 0) name
    ∙ (own ∙ (ap (λ (x : Trigger). frame_of g x) is ∙ sym told))

pub names_have_frames : NamesHaveFrames
names_have_frames g m formed code k p at kind =
    let r : Emitted g m.code (processes g) k p = emitted g m.code 0 code.between (length m.code) (processes g) m.processes code.process_code k p at in
    let fits : ProcessFits g r.text =
    subst (ProcessFits g) (get_or_from_slice_get (processes g) k r.text r.text r.there)
    (formed.processes_fit k r.text (slice_get_within (processes g) k r.text r.there)) in
    of_activation g m k r.text p formed r.there kind r.text.activation refl r.emits.released r.emits.frame fits.activation
