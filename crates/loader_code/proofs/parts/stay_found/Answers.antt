use Rattle.std.proofs.Common.{map, sym}
use Rattle.image_format.specs.Stands.{tree_in}
use Rattle.loader_code.specs.TreesTold.{known_of, told_part, found_of}
use Rattle.loader_code.proofs.Endings.{stay_comes, part_stay}
use Rattle.loader_code.proofs.parts.stay_found.Goals as goal

pub returns-clause-value : goal.returns-clause-value
returns-clause-value c =
    let inside = c.in_ok-inside.inside in
    stay_comes c.args.code.now (map known_of c.args.known.now) c.args.owner c.args.monitor (tree_in c.args.body) c.args.at inside.next (found_of inside) c.in_ok-enter.enter c.in_ok-leave.leave (told_part c.stayed.result)
    c.in_ok-inside.ensures.ends.next (sym c.in_ok-enter.ensures.value) (sym c.in_ok-leave.ensures.value) c.in_ok-inside.ensures.value c.stayed.ensures.value

pub returns-clause-stay : goal.returns-clause-stay
returns-clause-stay c =
    part_stay c.stayed.result c.args.code.now (map known_of c.args.known.now) c.args.owner c.args.monitor (tree_in c.args.body) c.args.at (found_of c.in_ok-inside.inside) c.in_ok-inside.ensures.value c.stayed.ensures.stay (returns-clause-value c)
