use Rattle.std.proofs.Common.{◌∙◌, ap, slice_index_or}
use Rattle.syntax.specs.declared.table.TheConstants.{PLACES}
use Rattle.syntax.proofs.TableLemmas.{place_within, only_place}
use Rattle.syntax.proofs.table.place.Goals as goal

pub returns-clause-within : goal.returns-clause-within
returns-clause-within c = place_within c.slot.result 0 c.slot.ensures.within

pub returns-clause-only : goal.returns-clause-only
returns-clause-only c at is = ap (λ k. slice_index_or PLACES k 0) c.slot.ensures.value ∙ only_place c.args.word.now at is
