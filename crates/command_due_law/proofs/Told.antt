-- What a text that tells an image comes to is one, and so is what is due of `dis`.
use Rattle.std.proofs.Common.{◌≡◌, ℕ, List, Option, Some, None, ap, sym, subst, ◌∙◌}
use Rattle.image.specs.Named.{NamedImage}
use Rattle.image.specs.Raw.{image_of, named_of}
use Rattle.image.specs.declared.raw.RawImage.{RawImage}
use Rattle.asm_format.specs.Text.{text_of}
use Rattle.valid_image.specs.Valid.{Shown, fault_of}
use Rattle.valid_image_law.specs.ValidLaw.{ValidIsWithoutFault}
use Rattle.command_due.specs.CommandsDue.{Outcome, told, stored, valid_fault_line}
use Rattle.asm_law.specs.AsmLaws.{TextsAreOfOneImage, TextsHaveOneFault, TextsOfImagesHaveNoFault}
use Rattle.command_due.specs.AsmDue.{keeps, text_fault_line, IsAsmDue, asm_faulty, asm_invalid, assembled, IsDisDue, dis_misread, disassembled}
use Rattle.command_due_law.specs.DueOnce.{AsmIsOne, DisIsOne}
use Rattle.command_due_law.proofs.DueOnceImages.{held_once, held_or_faulty, none_shown, same_fault, shown_once}

-- what holds of the image of one holds of that of the other
same_image : (raw other : RawImage) (o : Option Shown) → named_of raw ≡ named_of other → fault_of (image_of raw) ≡ o → fault_of (image_of other) ≡ o
same_image raw other o same is = subst (λ (n : NamedImage). fault_of n.image ≡ o) same is

pub asm_is_one : TextsAreOfOneImage → TextsOfImagesHaveNoFault → TextsHaveOneFault → ValidIsWithoutFault → AsmIsOne
asm_is_one images apart faults without text outcome other first second = by first second
  where
    by : IsAsmDue text outcome → IsAsmDue text other → outcome ≡ other
    by (asm_faulty m l one is) (asm_faulty n k two was) =
        let same = faults text m n l k one two in
        is ∙ (ap (λ x. told 4 (text_fault_line x l)) same.0 ∙ (ap (λ x. told 4 (text_fault_line n x)) same.1 ∙ sym was))
    by (asm_faulty m l one is) (asm_invalid raw f tells fails was) = absurd (apart text raw m l tells one)
    by (asm_faulty m l one is) (assembled raw tells valid was) = absurd (apart text raw m l tells one)
    by (asm_invalid raw f tells fails is) (asm_faulty n k two was) = absurd (apart text raw n k tells two)
    by (asm_invalid raw f tells fails is) (asm_invalid raw' f' tells' fails' was) =
        let also : fault_of (image_of raw') ≡ Some f = same_image raw raw' (Some f) (images text raw raw' tells tells') fails in
        is ∙ (ap (λ (x : Shown). told 4 (valid_fault_line x)) (shown_once (fault_of (image_of raw')) f f' also fails') ∙ sym was)
    by (asm_invalid raw f tells fails is) (assembled raw' tells' valid was) =
        absurd (none_shown (fault_of (image_of raw)) f (same_image raw' raw None (images text raw' raw tells' tells) ((without (image_of raw')).0 valid)) fails)
    by (assembled raw tells valid is) (asm_faulty n k two was) = absurd (apart text raw n k tells two)
    by (assembled raw tells valid is) (asm_invalid raw' f' tells' fails' was) =
        absurd (none_shown (fault_of (image_of raw')) f' (same_image raw raw' None (images text raw raw' tells tells') ((without (image_of raw)).0 valid)) fails')
    by (assembled raw tells valid is) (assembled raw' tells' valid' was) =
        is ∙ (ap (λ (n : NamedImage). keeps (stored n)) (images text raw raw' tells tells') ∙ sym was)

pub dis_is_one : DisIsOne
dis_is_one bytes outcome other first second = by first second
  where
    by : IsDisDue bytes outcome → IsDisDue bytes other → outcome ≡ other
    by (dis_misread m o one is) (dis_misread n p two was) = is ∙ (ap (told 4) (same_fault bytes m n o p one two) ∙ sym was)
    by (dis_misread m o one is) (disassembled raw held was) = absurd (held_or_faulty bytes raw m o held one)
    by (disassembled raw held is) (dis_misread n p two was) = absurd (held_or_faulty bytes raw n p held two)
    by (disassembled raw held is) (disassembled raw' held' was) =
        is ∙ (ap (λ (n : NamedImage). keeps (text_of n)) (held_once bytes raw raw' held held') ∙ sym was)
