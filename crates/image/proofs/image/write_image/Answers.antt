use Rattle.std.proofs.Common.{◌≡◌, ◌++◌, List, ℕ, [], map, subst}
use Rattle.std.specs.List.{flat_map}
use Rattle.machine_isa.specs.Bytes.{instr_bytes}
use Rattle.image.specs.Bytes.{Second, bytes_of, head_bytes, names_bytes, processes_bytes, routine_bytes}
use Rattle.image.specs.Raw.{monitor_of, named_of, process_of, routine_of}
use Rattle.image.proofs.Chain.{after}
use Rattle.image.proofs.image.write_image.Goals as goal

pub returns : goal.returns
unfolding bytes_of
returns c =
    let r = c.args.image.now in
    let head_out = c.put_head.new.out.items in
    let names_out = c.put_named.new.out.items in
    let routines_out = c.put_routines.new.out.items in
    let processes_out = c.put_processes.new.out.items in
    let end = c.put_code.new.out.items in
    let routines_put : routines_out ≡ names_out ++ flat_map routine_bytes (map routine_of r.routines) =
    subst (λ rs. routines_out ≡ names_out ++ flat_map routine_bytes (map routine_of rs)) c.as_slice.ensures c.in_ok-put_routines.ensures in
    let with_names : processes_out ≡ routines_out ++ processes_bytes Second r.names.processes (map process_of c.as_slice-3.result.now) =
    subst (λ ns. processes_out ≡ routines_out ++ processes_bytes Second ns (map process_of c.as_slice-3.result.now)) c.as_slice-2.ensures c.in_ok-put_processes.ensures in
    let processes_put : processes_out ≡ routines_out ++ processes_bytes Second r.names.processes (map process_of r.processes) =
    subst (λ ps. processes_out ≡ routines_out ++ processes_bytes Second r.names.processes (map process_of ps)) c.as_slice-3.ensures with_names in
    let code_put : end ≡ processes_out ++ flat_map instr_bytes r.code = subst (λ is. end ≡ processes_out ++ flat_map instr_bytes is) c.as_slice-4.ensures c.in_ok-put_code.ensures in
    let head_put : head_out ≡ [] ++ head_bytes Second (named_of r) = subst (λ (xs : List ℕ). head_out ≡ xs ++ head_bytes Second (named_of r)) c.new-out.ensures.items c.in_ok-put_head.ensures in
    let code = flat_map instr_bytes r.code in
    let processes = processes_bytes Second r.names.processes (map process_of r.processes) in
    let routines = flat_map routine_bytes (map routine_of r.routines) in
    let names = names_bytes r.names (map monitor_of r.monitors) in
    after (head_bytes Second (named_of r)) (names ++ (routines ++ (processes ++ code))) [] head_out end head_put
    (after names (routines ++ (processes ++ code)) head_out names_out end c.in_ok-put_named.ensures
    (after routines (processes ++ code) names_out routines_out end routines_put
    (after processes code routines_out processes_out end processes_put code_put)))
