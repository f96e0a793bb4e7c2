use Rattle.std.proofs.Common.{◌∙◌, Option, None, Some, sym, subst}
use Rattle.std.proofs.lemmas.List.{length-map}
use Rattle.syntax_tree.specs.Placed.{placed, plain}
use Rattle.syntax_tree.specs.declared.decl.Program.{Program as Tree}
use Rattle.code_names.specs.declared.nearest.Reached.{Reached}
use Rattle.image.specs.Raw.{image_of, routine_of}
use Rattle.analysis_command.specs.Found.{IsFoundOf, IsNamedAt, IsSomeBlockerAt}
use Rattle.analysis_command.proofs.Blocking.{places_long}
use Rattle.analysis_command.proofs.search.blocker.Goals as goal

pub found-requires-clause-places : goal.found-requires-clause-places
found-requires-clause-places c =
    places_long (plain (placed c.args.numbering.now)) (image_of c.args.image.now) c.args.graph.now c.requires.text c.requires.graph ∙ length-map c.args.image.now.routines routine_of

pub named_blocker-requires : goal.named_blocker-requires
named_blocker-requires c =
    let m = image_of c.args.image.now in
    let is = subst (λ (o : Option Reached). IsFoundOf m c.args.graph.now c.args.rank c.args.block o) c.in-Some.is c.in_ok-first.ensures in
    subst (λ (t : Tree). IsSomeBlockerAt (plain (placed t)) c.in-Some.reached.place c.in-Some.reached.piece) (sym c.directory-directory.ensures)
    (record {
      held_up = c.args.rank;
      block = c.args.block;
      is = c.what_is_found_is_the_blocker.ensures (plain (placed c.args.numbering.now)) m c.args.graph.now c.args.rank c.args.block (Some c.in-Some.reached) c.requires.text c.requires.graph c.requires.rank c.requires.block is;
    })

pub returns-in-None : goal.returns-in-None
returns-in-None c =
    let m = image_of c.args.image.now in
    let is = subst (λ (o : Option Reached). IsFoundOf m c.args.graph.now c.args.rank c.args.block o) c.in-None.is c.in_ok-first.ensures in
    c.what_is_found_is_the_blocker.ensures (plain (placed c.args.numbering.now)) m c.args.graph.now c.args.rank c.args.block None c.requires.text c.requires.graph c.requires.rank c.requires.block is

pub returns-in_ok-blocker-in-Some : goal.returns-in_ok-blocker-in-Some
returns-in_ok-blocker-in-Some c =
    let m = image_of c.args.image.now in
    let is = subst (λ (o : Option Reached). IsFoundOf m c.args.graph.now c.args.rank c.args.block o) c.in-Some.is c.in_ok-first.ensures in
    subst (λ (t : Tree). IsNamedAt (plain (placed t)) c.in-Some.reached.place c.in-Some.reached.piece c.in_ok-blocker-in-Some.blocker) c.directory-directory.ensures c.in_ok-blocker-in-Some.ensures c.args.rank c.args.block
    (c.what_is_found_is_the_blocker.ensures (plain (placed c.args.numbering.now)) m c.args.graph.now c.args.rank c.args.block (Some c.in-Some.reached) c.requires.text c.requires.graph c.requires.rank c.requires.block is)
