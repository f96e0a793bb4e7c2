-- The frame of an event that is found is that of the first process that the event releases.
use Rattle.std.proofs.Common.{◌≡◌, ◌∙◌, ap, refl, ℕ, suc, Bool, true, false, cond, List, [], ◌∷◌, map}
use Rattle.std.specs.Prelude.{Option, Some, None, bytes_eq, filter_map, option_map}
use Rattle.syntax_tree.specs.Plain.{Name, Trigger, periodic, at_event, Process, Declaration, Program}
use Rattle.source_semantics.specs.Names.{monitors, processes, event_in, count_value}
use Rattle.image.specs.declared.names.ImageNames.{ImageNames}
use Rattle.image.specs.declared.names.ConditionName.{ConditionName}
use Rattle.image.specs.declared.names.DeviceName.{DeviceName}
use Rattle.image.specs.declared.names.EventName.{EventName}
use Rattle.code_names.specs.First.{index_of}
use Rattle.built_image.specs.Named.{frame_released, named_conditions, named_device, named_event, names_of}
use Rattle.compile_image.specs.Released.{released_events, released_frames, frame_found, event_found, events_found}

past : (f : ℕ) (fs : List ℕ) (o : Option ℕ) → frame_found (f ∷ fs) (option_map (λ k. suc k) o) ≡ frame_found fs o
past f fs None = refl
past f fs (Some k) = refl

-- at the first of the processes, where the rest of them is known
at-event : (g : Program) (e : Name) (n : ℕ) (ps : List Process) (b : Bool) → frame_found (released_frames g ps) (index_of e (released_events ps)) ≡ frame_released g e ps
    → frame_found (n ∷ released_frames g ps) (cond b (Some 0) (option_map (λ k. suc k) (index_of e (released_events ps)))) ≡ cond b n (frame_released g e ps)
at-event g e n ps true rest = refl
at-event g e n ps false rest = past n (released_frames g ps) (index_of e (released_events ps)) ∙ rest

at-first : (g : Program) (e : Name) (p : Process) (ps : List Process) (a : Trigger) → p.activation ≡ a → frame_found (released_frames g ps) (index_of e (released_events ps)) ≡ frame_released g e ps
    → frame_found (released_frames g (p ∷ ps)) (index_of e (released_events (p ∷ ps))) ≡ frame_released g e (p ∷ ps)
at-first g e p ps (periodic frame deadline first) is rest = rw is rest
at-first g e p ps (at_event x frame deadline) is rest = rw is (at-event g e (count_value g frame) ps (bytes_eq x e) rest)

pub frame-found : (g : Program) (e : Name) (ps : List Process) → frame_found (released_frames g ps) (index_of e (released_events ps)) ≡ frame_released g e ps
frame-found g e [] = refl
frame-found g e (p ∷ ps) = at-first g e p ps p.activation refl (frame-found g e ps)

named : (g : Program) (es : List Name) → map (event_found (released_frames g (processes g)) (released_events (processes g))) es ≡ map (λ e. named_event g e) es
named g [] = refl
named g (e ∷ es) = ap (λ f. record { name = e; frame = f } ∷ map (event_found (released_frames g (processes g)) (released_events (processes g))) es) (frame-found g e (processes g)) ∙ ap (λ ns. named_event g e ∷ ns) (named g es)

-- all events
pub events-named : (g : Program) (ds : List Declaration) → events_found (released_frames g (processes g)) (released_events (processes g)) ds ≡ map (λ e. named_event g e) (filter_map event_in ds)
events-named g ds = named g (filter_map event_in ds)

-- lists that are those of the program
pub names-are : (g : Program) (n : ImageNames) → n.processes ≡ map (λ p. p.name) (processes g) → n.monitors ≡ map (λ m. m.name) (monitors g)
    → n.conditions ≡ named_conditions 0 (monitors g) → n.devices ≡ filter_map named_device g.decls → n.events ≡ map (λ e. named_event g e) (filter_map event_in g.decls) → n ≡ names_of g
names-are g n a b c d e =
    let all : List Name → List Name → List ConditionName → List DeviceName → List EventName → ImageNames = λ ps ms cs ds es. record { processes = ps; monitors = ms; conditions = cs; devices = ds; events = es } in
    ap (λ ps. all ps n.monitors n.conditions n.devices n.events) a
    ∙ ap (λ ms. all (map (λ p. p.name) (processes g)) ms n.conditions n.devices n.events) b
    ∙ ap (λ cs. all (map (λ p. p.name) (processes g)) (map (λ m. m.name) (monitors g)) cs n.devices n.events) c
    ∙ ap (λ ds. all (map (λ p. p.name) (processes g)) (map (λ m. m.name) (monitors g)) (named_conditions 0 (monitors g)) ds n.events) d
    ∙ ap (λ es. all (map (λ p. p.name) (processes g)) (map (λ m. m.name) (monitors g)) (named_conditions 0 (monitors g)) (filter_map named_device g.decls) es) e
