-- The names of declarations are short.
use Rattle.std.proofs.Common.{List, [], ◌∷◌, map, filter_map}
use Rattle.std.specs.Prelude.{All}
use Rattle.std.proofs.lemmas.List.Elements.{All-nil, All-cons}
use Rattle.syntax_tree.specs.Plain as plain_of
use Rattle.syntax_tree.specs.Placed.{Member, variable_member, condition_member, Monitor, Process, Decl, constant, device, event, routine, monitor, process, plain_member, plain_monitor, plain_process, plain_decl}
use Rattle.syntax_tree.specs.declared.place.Place.{Place}
use Rattle.source_semantics.specs.Names.{condition_in, device_in, event_in, monitor_in, process_in}
use Rattle.syntax.specs.Lex.{TokensStandInOrder}
use Rattle.syntax.specs.Words as w
use Rattle.syntax.specs.Words.{named, Tok, toks_of}
use Rattle.syntax.specs.ExprGrammar.{Each}
use Rattle.syntax.specs.Grammar.{IsMember, IsMonitor, IsProcess, IsDecl}
use Rattle.syntax_reading.proofs.Tails.{at-end, a-end, member-end, decl-end}
use Rattle.built_image_law.specs.Short.{IsShort, MonitorIsShort, NamesOfTextsAreShort}
use Rattle.built_image_law.proofs.Tokens.{AllShort, tokens_short, left, first}

-- ---- monitors and processes

conditions_short : (ms : List (Member Place)) (ts us : List (Tok Place)) → Each IsMember ms ts us → AllShort ts → All IsShort (filter_map condition_in (map plain_member ms))
conditions_short [] ts us took short = All-nil IsShort
conditions_short (variable_member v ∷ ms) ts us (v1, t1, more) short =
    conditions_short ms v1 us more (left ts v1 (member-end (variable_member v) ts v1 t1) short)
conditions_short (condition_member n p ∷ ms) ts us (v1, (v2, t2, t1), more) short =
    All-cons IsShort n (filter_map condition_in (map plain_member ms)) (first n p v2 v1 t1 (left ts v2 (a-end w.CONDITION ts v2 t2) short))
    (conditions_short ms v1 us more (left ts v1 (member-end (condition_member n p) ts v1 (v2, t2, t1)) short))

monitor_short : (m : Monitor Place) (ts us : List (Tok Place)) → IsMonitor m ts us → AllShort ts → MonitorIsShort (plain_monitor m)
monitor_short m ts us (v1, t1, (v2, t2, (v3, t3, more))) short =
    let one : AllShort v1 = left ts v1 (a-end w.MONITOR ts v1 t1) short in
    record {
      name = first m.name m.place v1 v2 t2 one;
      conditions = conditions_short m.members v2 v3 t3 (left v1 v2 (at-end (named m.name) m.place v1 v2 t2) one);
    }

process_short : (p : Process Place) (ts us : List (Tok Place)) → IsProcess p ts us → AllShort ts → IsShort p.name
process_short p ts us (v1, t1, (v2, t2, more)) short = first p.name p.place v1 v2 t2 (left ts v1 (a-end w.PROCESS ts v1 t1) short)

-- ---- declarations

record DeclsAreShort (ds : List plain_of.Declaration) : Type 0 where
  processes : All (λ (p : plain_of.Process). IsShort p.name) (filter_map process_in ds)
  monitors : All MonitorIsShort (filter_map monitor_in ds)
  devices : All IsShort (filter_map device_in ds)
  events : All IsShort (filter_map event_in ds)

decls_short : (ds : List (Decl Place)) (ts us : List (Tok Place)) → Each IsDecl ds ts us → AllShort ts → DeclsAreShort (map plain_decl ds)
decls_short [] ts us took short = record {
  processes = All-nil (λ (p : plain_of.Process). IsShort p.name);
  monitors = All-nil MonitorIsShort;
  devices = All-nil IsShort;
  events = All-nil IsShort;
}
decls_short (constant n p c ∷ ds) ts us (v1, t1, more) short =
    let r = decls_short ds v1 us more (left ts v1 (decl-end (constant n p c) ts v1 t1) short) in
    record { processes = r.processes; monitors = r.monitors; devices = r.devices; events = r.events }
decls_short (device n p o ∷ ds) ts us (v1, (v2, t2, (v3, t3, t1)), more) short =
    let r = decls_short ds v1 us more (left ts v1 (decl-end (device n p o) ts v1 (v2, t2, (v3, t3, t1))) short) in
    let name : IsShort n = first n p v2 v3 t3 (left ts v2 (a-end w.DEVICE ts v2 t2) short) in
    record { processes = r.processes; monitors = r.monitors; devices = All-cons IsShort n (filter_map device_in (map plain_decl ds)) name r.devices; events = r.events }
decls_short (event n p ∷ ds) ts us (v1, (v2, t2, t1), more) short =
    let r = decls_short ds v1 us more (left ts v1 (decl-end (event n p) ts v1 (v2, t2, t1)) short) in
    let name : IsShort n = first n p v2 v1 t1 (left ts v2 (a-end w.EVENT ts v2 t2) short) in
    record { processes = r.processes; monitors = r.monitors; devices = r.devices; events = All-cons IsShort n (filter_map event_in (map plain_decl ds)) name r.events }
decls_short (routine x ∷ ds) ts us (v1, t1, more) short =
    let r = decls_short ds v1 us more (left ts v1 (decl-end (routine x) ts v1 t1) short) in
    record { processes = r.processes; monitors = r.monitors; devices = r.devices; events = r.events }
decls_short (monitor m ∷ ds) ts us (v1, t1, more) short =
    let r = decls_short ds v1 us more (left ts v1 (decl-end (monitor m) ts v1 t1) short) in
    record {
      processes = r.processes;
      monitors = All-cons MonitorIsShort (plain_monitor m) (filter_map monitor_in (map plain_decl ds)) (monitor_short m ts v1 t1 short) r.monitors;
      devices = r.devices;
      events = r.events;
    }
decls_short (process p ∷ ds) ts us (v1, t1, more) short =
    let r = decls_short ds v1 us more (left ts v1 (decl-end (process p) ts v1 t1) short) in
    record {
      processes = All-cons (λ (q : plain_of.Process). IsShort q.name) (plain_process p) (filter_map process_in (map plain_decl ds)) (process_short p ts v1 t1 short) r.processes;
      monitors = r.monitors;
      devices = r.devices;
      events = r.events;
    }

-- ---- programs

pub names_of_texts_are_short : TokensStandInOrder → NamesOfTextsAreShort
names_of_texts_are_short in_order text g tree =
    let took = tree.grown in
    let all : AllShort (toks_of text tree.toks) = tokens_short text tree.toks (in_order text tree.toks tree.listed).stand in
    let one : AllShort took.0 = left (toks_of text tree.toks) took.0 (a-end w.PROGRAM (toks_of text tree.toks) took.0 took.1) all in
    let two : AllShort took.2.0 = left took.0 took.2.0 (at-end (named g.name) g.place took.0 took.2.0 took.2.1) one in
    let decls : DeclsAreShort (map plain_decl g.decls) = decls_short g.decls took.2.0 took.2.2.0 took.2.2.1 two in
    record {
      of_program = first g.name g.place took.0 took.2.0 took.2.1 one;
      of_processes = decls.processes;
      of_monitors = decls.monitors;
      of_devices = decls.devices;
      of_events = decls.events;
    }
