use Rattle.std.proofs.Common.{None, Option, ap, sym, ◌∙◌}
use Rattle.static_names.specs.declared.kind.Declared.{Declared}
use Rattle.static_names.specs.Reach.{or_else, within}
use Rattle.static_names.specs.Seen.{meaning_in, outer_site}
use Rattle.static_names.proofs.Loops.{loops_before}
use Rattle.static_names.proofs.scope_chain.ScopeChain.means.Goals as goal

pub returns-in-Some : goal.returns-in-Some
returns-in-Some c =
    let outside : Option Declared = within (meaning_in c.args.self.now.locals) (outer_site c.args.self.now.outer).means c.args.name.now in
    ap (λ o. or_else o outside) c.in-Some.ensures ∙ sym (loops_before c.args.name.now c.args.loops.now None outside)

pub returns-in-None : goal.returns-in-None
returns-in-None c =
    let outside : Option Declared = within (meaning_in c.args.self.now.locals) (outer_site c.args.self.now.outer).means c.args.name.now in
    c.outside_loops.ensures ∙ ap (λ o. or_else o outside) c.in-None.ensures ∙ sym (loops_before c.args.name.now c.args.loops.now None outside)
