use Rattle.std.proofs.Common.{◌≡◌, Some, None, ap, sym, ◌∙◌, length}
use Rattle.std.proofs.lemmas.List.{length-map}
use Rattle.image.specs.Raw.{image_of, routine_of}
use Rattle.valid_image.specs.Fault.{Fault}
use Rattle.valid_image.specs.Pieces.{closest, pieces}
use Rattle.faulty_part.specs.declared.part.FaultyPart.{FaultyPart}
use Rattle.faulty_part.specs.declared.part.Subject.TheVariants as subject
use Rattle.validity_parts.specs.Found.{part_at}
use Rattle.validity_parts.proofs.Owners.{owner_found, owner_missing, placed}
use Rattle.validity_parts.proofs.operands.at_address.Goals as goal

pub returns-in-Some : goal.returns-in-Some
returns-in-Some c =
    let raw = c.args.raw.now in
    let f : Fault = record { a = c.args.fault.a; b = c.args.fault.b } in
    let p = placed (image_of raw) f c.requires in
    let part : c.in-Some.piece.part ≡ part_at (length (image_of raw).routines) p.k =
    owner_found (length raw.routines) p.k (closest (pieces (image_of raw)) 0 f.a None) c.in-Some.piece p.owner c.in-Some.ensures ∙ ap (λ n. part_at n p.k) (sym (length-map raw.routines routine_of)) in
    ap (λ (q : FaultyPart). Some (record { part = q; subject = subject.Operand; a = f.a; b = f.b })) part ∙ sym p.named

pub returns-in-None : goal.returns-in-None
returns-in-None c =
    let raw = c.args.raw.now in
    let f : Fault = record { a = c.args.fault.a; b = c.args.fault.b } in
    let p = placed (image_of raw) f c.requires in
    absurd (owner_missing (length raw.routines) p.k (closest (pieces (image_of raw)) 0 f.a None) p.owner c.in-None.ensures)
