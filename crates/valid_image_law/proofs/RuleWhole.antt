-- Each part of validity passes exactly where its rule holds.
use Rattle.std.proofs.Common.{◌≡◌, Option, Some, None, refl, sym, ◌∙◌}
use Rattle.machine_semantics.specs.Image.{Image}
use Rattle.valid_image.specs.Fault.{Fault}
use Rattle.valid_image.specs.Valid.{Part, Shape, Costs, Sizes, Ranks, Bounds, Operands, Handlers, fault_of_part, IsValid}
use Rattle.valid_image_law.specs.PlainRules.{KeepsAllRules}
use Rattle.valid_image_law.specs.RulesLaw.{Rule, Fails, PartsPassByTheirRules, PartsFailByTheirRules, ValidKeepsAllRules}
use Rattle.valid_image_law.proofs.Pieces.{code_is, code_passes, operands_are, operands_pass, handlers_are, handlers_pass}
use Rattle.valid_image_law.proofs.Numbers.{costs_are, costs_pass, sizes_are, sizes_pass, ranks_are, ranks_pass, bounds_are, bounds_pass}

rule_of : (image : Image) (part : Part) → fault_of_part image part ≡ None → Rule image part
rule_of image Shape none = code_is image none
rule_of image Costs none = costs_are image none
rule_of image Sizes none = sizes_are image none
rule_of image Ranks none = ranks_are image none
rule_of image Bounds none = bounds_are image none
rule_of image Operands none = operands_are image none
rule_of image Handlers none = handlers_are image none

passes_by : (image : Image) (part : Part) → Rule image part → fault_of_part image part ≡ None
passes_by image Shape rule = code_passes image rule
passes_by image Costs rule = costs_pass image rule
passes_by image Sizes rule = sizes_pass image rule
passes_by image Ranks rule = ranks_pass image rule
passes_by image Bounds rule = bounds_pass image rule
passes_by image Operands rule = operands_pass image rule
passes_by image Handlers rule = handlers_pass image rule

pub parts_pass_by_their_rules : PartsPassByTheirRules
parts_pass_by_their_rules image part = (rule_of image part, passes_by image part)

fails : (image : Image) (part : Part) → Fails image part → Rule image part → ⊥
fails image part f rule = (let e : None ≡ Some f.0 = sym (passes_by image part rule) ∙ f.1 in cc)

failing : (image : Image) (part : Part) → (Rule image part → ⊥) → (o : Option Fault) → fault_of_part image part ≡ o → Fails image part
failing image part none None is = absurd (none (rule_of image part is))
failing image part none (Some f) is = (f, is)

pub parts_fail_by_their_rules : PartsFailByTheirRules
parts_fail_by_their_rules image part = (fails image part, (λ none. failing image part none (fault_of_part image part) refl))

all_rules : (image : Image) → IsValid image → KeepsAllRules image
all_rules image valid = record {
  code = rule_of image Shape (valid Shape);
  costs = rule_of image Costs (valid Costs);
  sizes = rule_of image Sizes (valid Sizes);
  ranks = rule_of image Ranks (valid Ranks);
  bounds = rule_of image Bounds (valid Bounds);
  operands = rule_of image Operands (valid Operands);
  handlers = rule_of image Handlers (valid Handlers);
}

is_valid : (image : Image) → KeepsAllRules image → IsValid image
is_valid image keeps Shape = passes_by image Shape keeps.code
is_valid image keeps Costs = passes_by image Costs keeps.costs
is_valid image keeps Sizes = passes_by image Sizes keeps.sizes
is_valid image keeps Ranks = passes_by image Ranks keeps.ranks
is_valid image keeps Bounds = passes_by image Bounds keeps.bounds
is_valid image keeps Operands = passes_by image Operands keeps.operands
is_valid image keeps Handlers = passes_by image Handlers keeps.handlers

pub valid_keeps_all_rules : ValidKeepsAllRules
valid_keeps_all_rules image = (all_rules image, is_valid image)
