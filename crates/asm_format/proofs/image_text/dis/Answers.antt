use Rattle.std.proofs.Common.{◌≡◌, ◌++◌, List, ℕ, [], codes, map, subst}
use Rattle.std.specs.List.{flat_map}
use Rattle.image.specs.Raw.{monitor_of, process_of, routine_of}
use Rattle.image.proofs.Chain.{after}
use Rattle.asm_format.specs.Mnemonics.{instr_line}
use Rattle.asm_format.specs.Text.{head_line, names_text, processes_text, routine_lines, text_of}
use Rattle.asm_format.proofs.image_text.dis.Goals as goal

pub returns : goal.returns
unfolding text_of
returns c =
    let r = c.args.image.now in
    let head_out = c.put_head.new.text in
    let names_out = c.put_named.new.text in
    let routines_out = c.put_routines.new.text in
    let processes_out = c.put_processes.new.text in
    let code_out = c.put_code.new.text in
    let end = c.extend.new.self in
    let head = head_line r.program r.overhead in
    let names = names_text r.names (map monitor_of r.monitors) in
    let routines = flat_map routine_lines (map routine_of r.routines) in
    let processes = processes_text r.names.processes (map process_of r.processes) in
    let code = flat_map instr_line r.code in
    let last = codes "end\n" in
    let head_put : head_out ≡ [] ++ head = subst (λ (xs : List ℕ). head_out ≡ xs ++ head) c.new-text.ensures c.in_ok-put_head.ensures in
    let routines_put : routines_out ≡ names_out ++ routines =
    subst (λ rs. routines_out ≡ names_out ++ flat_map routine_lines (map routine_of rs)) c.as_slice.ensures c.in_ok-put_routines.ensures in
    let with_names : processes_out ≡ routines_out ++ processes_text r.names.processes (map process_of c.as_slice-3.result.now) =
    subst (λ ns. processes_out ≡ routines_out ++ processes_text ns (map process_of c.as_slice-3.result.now)) c.as_slice-2.ensures c.in_ok-put_processes.ensures in
    let processes_put : processes_out ≡ routines_out ++ processes =
    subst (λ ps. processes_out ≡ routines_out ++ processes_text r.names.processes (map process_of ps)) c.as_slice-3.ensures with_names in
    let code_put : code_out ≡ processes_out ++ code = subst (λ is. code_out ≡ processes_out ++ flat_map instr_line is) c.as_slice-4.ensures c.in_ok-put_code.ensures in
    after head (names ++ (routines ++ (processes ++ (code ++ last)))) [] head_out end head_put
    (after names (routines ++ (processes ++ (code ++ last))) head_out names_out end c.in_ok-put_named.ensures
    (after routines (processes ++ (code ++ last)) names_out routines_out end routines_put
    (after processes (code ++ last) routines_out processes_out end processes_put
    (after code last processes_out code_out end code_put c.in_ok-extend.ensures.ok))))
