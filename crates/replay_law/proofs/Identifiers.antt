-- The names of declarations are identifiers.
use Rattle.std.proofs.Common.{List, [], ◌∷◌, map, filter_map}
use Rattle.std.specs.Prelude.{All}
use Rattle.std.proofs.lemmas.List.Elements.{All-nil, All-cons}
use Rattle.syntax_tree.specs.Plain as plain_of
use Rattle.syntax_tree.specs.Placed.{Member, variable_member, condition_member, Monitor, Process, Decl, constant, device, event, routine, monitor, process, plain_member, plain_monitor, plain_process, plain_decl}
use Rattle.syntax_tree.specs.declared.place.Place.{Place}
use Rattle.source_semantics.specs.Names.{condition_in, device_in, event_in, monitor_in, process_in}
use Rattle.syntax.specs.Lex.{TokensStandInOrder}
use Rattle.syntax.specs.Words as w
use Rattle.syntax.specs.Words.{named, Tok, toks_of}
use Rattle.syntax.specs.ExprGrammar.{Each}
use Rattle.syntax.specs.Grammar.{IsMember, IsMonitor, IsProcess, IsDecl}
use Rattle.syntax_reading.proofs.Tails.{at-end, a-end, member-end, decl-end}
use Rattle.replay_law.specs.Words.{IsIdentifier, MonitorIsNamed, NamesOfTextsAreIdentifiers}
use Rattle.replay_law.proofs.Tokens.{AllNamed, tokens_named, left, first}

-- ---- monitors and processes

conditions_named : (ms : List (Member Place)) (ts us : List (Tok Place)) → Each IsMember ms ts us → AllNamed ts → All IsIdentifier (filter_map condition_in (map plain_member ms))
conditions_named [] ts us took have = All-nil IsIdentifier
conditions_named (variable_member v ∷ ms) ts us (v1, t1, more) have =
    conditions_named ms v1 us more (left ts v1 (member-end (variable_member v) ts v1 t1) have)
conditions_named (condition_member n p ∷ ms) ts us (v1, (v2, t2, t1), more) have =
    All-cons IsIdentifier n (filter_map condition_in (map plain_member ms)) (first n p v2 v1 t1 (left ts v2 (a-end w.CONDITION ts v2 t2) have))
    (conditions_named ms v1 us more (left ts v1 (member-end (condition_member n p) ts v1 (v2, t2, t1)) have))

monitor_named : (m : Monitor Place) (ts us : List (Tok Place)) → IsMonitor m ts us → AllNamed ts → MonitorIsNamed (plain_monitor m)
monitor_named m ts us (v1, t1, (v2, t2, (v3, t3, more))) have =
    let one : AllNamed v1 = left ts v1 (a-end w.MONITOR ts v1 t1) have in
    record {
      name = first m.name m.place v1 v2 t2 one;
      conditions = conditions_named m.members v2 v3 t3 (left v1 v2 (at-end (named m.name) m.place v1 v2 t2) one);
    }

process_named : (p : Process Place) (ts us : List (Tok Place)) → IsProcess p ts us → AllNamed ts → IsIdentifier p.name
process_named p ts us (v1, t1, (v2, t2, more)) have = first p.name p.place v1 v2 t2 (left ts v1 (a-end w.PROCESS ts v1 t1) have)

-- ---- declarations

record DeclsAreNamed (ds : List plain_of.Declaration) : Type 0 where
  processes : All (λ (p : plain_of.Process). IsIdentifier p.name) (filter_map process_in ds)
  monitors : All MonitorIsNamed (filter_map monitor_in ds)
  devices : All IsIdentifier (filter_map device_in ds)
  events : All IsIdentifier (filter_map event_in ds)

decls_named : (ds : List (Decl Place)) (ts us : List (Tok Place)) → Each IsDecl ds ts us → AllNamed ts → DeclsAreNamed (map plain_decl ds)
decls_named [] ts us took have = record {
  processes = All-nil (λ (p : plain_of.Process). IsIdentifier p.name);
  monitors = All-nil MonitorIsNamed;
  devices = All-nil IsIdentifier;
  events = All-nil IsIdentifier;
}
decls_named (constant n p c ∷ ds) ts us (v1, t1, more) have =
    let r = decls_named ds v1 us more (left ts v1 (decl-end (constant n p c) ts v1 t1) have) in
    record { processes = r.processes; monitors = r.monitors; devices = r.devices; events = r.events }
decls_named (device n p o ∷ ds) ts us (v1, (v2, t2, (v3, t3, t1)), more) have =
    let r = decls_named ds v1 us more (left ts v1 (decl-end (device n p o) ts v1 (v2, t2, (v3, t3, t1))) have) in
    let name : IsIdentifier n = first n p v2 v3 t3 (left ts v2 (a-end w.DEVICE ts v2 t2) have) in
    record { processes = r.processes; monitors = r.monitors; devices = All-cons IsIdentifier n (filter_map device_in (map plain_decl ds)) name r.devices; events = r.events }
decls_named (event n p ∷ ds) ts us (v1, (v2, t2, t1), more) have =
    let r = decls_named ds v1 us more (left ts v1 (decl-end (event n p) ts v1 (v2, t2, t1)) have) in
    let name : IsIdentifier n = first n p v2 v1 t1 (left ts v2 (a-end w.EVENT ts v2 t2) have) in
    record { processes = r.processes; monitors = r.monitors; devices = r.devices; events = All-cons IsIdentifier n (filter_map event_in (map plain_decl ds)) name r.events }
decls_named (routine x ∷ ds) ts us (v1, t1, more) have =
    let r = decls_named ds v1 us more (left ts v1 (decl-end (routine x) ts v1 t1) have) in
    record { processes = r.processes; monitors = r.monitors; devices = r.devices; events = r.events }
decls_named (monitor m ∷ ds) ts us (v1, t1, more) have =
    let r = decls_named ds v1 us more (left ts v1 (decl-end (monitor m) ts v1 t1) have) in
    record {
      processes = r.processes;
      monitors = All-cons MonitorIsNamed (plain_monitor m) (filter_map monitor_in (map plain_decl ds)) (monitor_named m ts v1 t1 have) r.monitors;
      devices = r.devices;
      events = r.events;
    }
decls_named (process p ∷ ds) ts us (v1, t1, more) have =
    let r = decls_named ds v1 us more (left ts v1 (decl-end (process p) ts v1 t1) have) in
    record {
      processes = All-cons (λ (q : plain_of.Process). IsIdentifier q.name) (plain_process p) (filter_map process_in (map plain_decl ds)) (process_named p ts v1 t1 have) r.processes;
      monitors = r.monitors;
      devices = r.devices;
      events = r.events;
    }

-- ---- programs

pub names_of_texts_are_identifiers : TokensStandInOrder → NamesOfTextsAreIdentifiers
names_of_texts_are_identifiers in_order text g tree =
    let took = tree.grown in
    let all : AllNamed (toks_of text tree.toks) = tokens_named text tree.toks (in_order text tree.toks tree.listed).stand in
    let one : AllNamed took.0 = left (toks_of text tree.toks) took.0 (a-end w.PROGRAM (toks_of text tree.toks) took.0 took.1) all in
    let two : AllNamed took.2.0 = left took.0 took.2.0 (at-end (named g.name) g.place took.0 took.2.0 took.2.1) one in
    let decls : DeclsAreNamed (map plain_decl g.decls) = decls_named g.decls took.2.0 took.2.2.0 took.2.2.1 two in
    record {
      of_program = first g.name g.place took.0 took.2.0 took.2.1 one;
      of_processes = decls.processes;
      of_monitors = decls.monitors;
      of_devices = decls.devices;
      of_events = decls.events;
    }
